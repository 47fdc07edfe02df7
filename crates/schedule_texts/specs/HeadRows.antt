-- The table of the head of a text that asks for an audit: each line word, where its line may stand, what the words behind it
-- must be, what refuses them as a whole, and what line they are.
use Rattle.std.specs.Prelude.{ℕ, Bool, true, false, not, if◌then◌else◌, List, [], ◌∷◌, Option, Some, None, Result, Err, codes}
use Rattle.ff_ids.specs.declared.Group.{Group}
use Rattle.lms_tree.specs.declared.kind.TreeKind.{TreeKind}
use Rattle.lms_tree.specs.declared.key.PublicKey.{PublicKey}
use Rattle.records.specs.declared.Body.{Body}
use Rattle.records.specs.declared.Body.TheVariants.{Certificate}
use Rattle.records.specs.declared.keys.Key.{Key}
use Rattle.records.specs.declared.keys.Key.TheVariants as keys
use Rattle.line_text.specs.declared.bad_word.BadWord.{BadWord}
use Rattle.line_text.specs.declared.bad_word.BadWord.TheVariants as bad
use Rattle.line_text.specs.Fields.{Test, bad_where}
use Rattle.line_text.specs.Frame.{Row, fields_line, whole_line, word_among}
use Rattle.line_text.specs.Shapes.{◌and◌, Field, Fields, Makes, Values, falling, line_from, no_more, number_from, tests, tests_for, values}
use Rattle.line_text.specs.Tables as table
use Rattle.line_text.specs.Tables.{Header, Line, Parts, Table}
use Rattle.schedule_texts.specs.KitRows.{cert_fault, cert_fault_in, cert_fields, cert_in, cert_shape, checked_as, heal_fields, heal_in, heal_of, heal_shape, member_field}
use Rattle.schedule_texts.specs.Shared.{any_lms_key, cert_of, group_fields, group_in, group_of, group_shape, group_values, height_field, kinds_of, lms_key_field, unfit}
use Rattle.schedule_texts.specs.declared.head.HeadText.{HeadText}
use Rattle.schedule_texts.specs.declared.head.HeadText.TheVariants as head
use Rattle.schedule_texts.specs.declared.head_line.HeadLine.{HeadLine}
use Rattle.schedule_texts.specs.declared.head_line.HeadLine.TheVariants as lines
use Rattle.schedule_texts.specs.declared.head_line.LineWord.{LineWord}
use Rattle.schedule_texts.specs.declared.head_line.LineWord.TheVariants as words

-- ## Where a line stands

abbrev pub is_start : HeadText → Bool
is_start head.Start = true
is_start _ = false

-- The line `journal` was read.
abbrev pub is_ended : HeadText → Bool
is_ended head.Ended = true
is_ended _ = false

-- The group, a line `heal` or none, the own number and the authority's key come in this order, behind them certificates, as
-- many as there are, and then the state and the line `journal`.
abbrev pub may_stand : HeadText → LineWord → Bool
may_stand head.Headed words.Group = true
may_stand (head.Grouped g heal) words.Heal = not heal
may_stand (head.Grouped g heal) words.Own = true
may_stand (head.Owned g me) words.Authority = true
may_stand (head.Body g me authority named own) words.Cert = true
may_stand (head.Body g me authority named own) words.State = true
may_stand (head.Stated owned) words.Journal = true
may_stand _ _ = false

-- ## What the words must be

-- a mask with no bit at or above 63
abbrev pub mask_field : Field
mask_field = number_from 0 9223372036854775807

-- NEXT EPOCH MASK; and H1, where the own key has two levels
abbrev pub state_shape : Option Key → Fields
state_shape None = falling 32768 (mask_field and no_more)
state_shape (Some (keys.Lms key)) = falling 32768 (mask_field and no_more)
state_shape (Some (keys.Hss key)) = falling 32768 (mask_field and height_field and no_more)

-- the key in the own certificate, where it is above the line
abbrev pub own_above : HeadText → Option Key
own_above (head.Body g me authority named own) = own
own_above form = None

abbrev pub own_shape : Fields
own_shape = member_field and no_more

abbrev pub authority_shape : Fields
authority_shape = lms_key_field and no_more

abbrev pub fields : HeadText → LineWord → Fields
fields form words.Group = group_shape
fields form words.Heal = heal_shape
fields form words.Own = own_shape
fields form words.Authority = authority_shape
fields form words.Cert = cert_shape
fields form words.State = state_shape (own_above form)
fields form words.Journal = no_more
fields form words.End = no_more

-- ## What refuses a line as a whole

-- H1 is the height of bottom trees that the own key can have.
abbrev pub state_fault : (own : Option Key) → Values (state_shape own) → Option BadWord
state_fault None vs = None
state_fault (Some (keys.Lms key)) vs = None
state_fault (Some (keys.Hss key)) vs = unfit (kinds_of key.top.ots key.top.tree (Some vs.1.1.1.0))

abbrev pub journal_fault : Bool → Option BadWord
journal_fault owned = bad_where bad.OwnKey (not owned)

-- A certificate with a fault is refused, so is a height that the own key can't have, and a journal of a member that has no
-- certificate.
abbrev pub whole_fault : (form : HeadText) (word : LineWord) → Values (fields form word) → Option BadWord
whole_fault (head.Body g me authority named own) words.Cert vs = cert_fault g authority named vs
whole_fault (head.Body g me authority named own) words.State vs = state_fault own vs
whole_fault (head.Stated owned) words.Journal vs = journal_fault owned
whole_fault form _ vs = None

-- ## What line they are

abbrev pub state_of : ℕ → ℕ → ℕ → Option TreeKind → HeadLine
state_of next epoch mask low = lines.State next epoch (record { 0 = mask }) low

abbrev pub state_line : (own : Option Key) → Makes (state_shape own) HeadLine
state_line None = λ next epoch mask. state_of next epoch mask None
state_line (Some (keys.Lms key)) = λ next epoch mask. state_of next epoch mask None
state_line (Some (keys.Hss key)) = λ next epoch mask low. state_of next epoch mask (Some low)

-- the group and the authority of a certificate; above the certificates, where none may stand, some
abbrev pub group_above : HeadText → Group
group_above (head.Body g me authority named own) = g
group_above form = group_of 0 0 0 0 []

abbrev pub authority_above : HeadText → PublicKey
authority_above (head.Body g me authority named own) = authority
authority_above form = any_lms_key

abbrev pub line : (form : HeadText) (word : LineWord) → Makes (fields form word) HeadLine
line form words.Group = λ t timeout period misses tag.
    lines.Group (group_of t timeout period misses tag)
line form words.Heal = λ every most. lines.Heal (heal_of every most)
line form words.Own = λ m. lines.Own m
line form words.Authority = λ key. lines.Authority key
line form words.Cert = λ m at key signed_by.
    lines.Cert (checked_as (group_above form) (authority_above form) (cert_of m at key) signed_by)
line form words.State = state_line (own_above form)
line form words.Journal = lines.Journal
line form words.End = lines.End

-- A record of another body is no line: no header is one.
abbrev pub cert_parts : (form : HeadText) → Body → List ℕ → Parts LineWord (fields form)
cert_parts form (Certificate c) signed_by =
    Line words.Cert (c.member, (c.port, (c.key, (signed_by, tt))))
cert_parts form _ signed_by = Header

-- A state has H1 exactly where the own key has two levels.
abbrev pub state_values : (own : Option Key) → ℕ → ℕ → ℕ → Option TreeKind → Option (Values (state_shape own))
state_values None next epoch mask None = Some (next, (epoch, (mask, tt)))
state_values None next epoch mask (Some low) = None
state_values (Some (keys.Lms key)) next epoch mask None = Some (next, (epoch, (mask, tt)))
state_values (Some (keys.Lms key)) next epoch mask (Some low) = None
state_values (Some (keys.Hss key)) next epoch mask None = None
state_values (Some (keys.Hss key)) next epoch mask (Some low) = Some (next, (epoch, (mask, (low, tt))))

-- A state with other words is no line: no header is one.
abbrev pub state_parts : (form : HeadText) → Option (Values (state_shape (own_above form))) → Parts LineWord (fields form)
state_parts form None = Header
state_parts form (Some vs) = Line words.State vs

abbrev pub parts : (form : HeadText) → HeadLine → Parts LineWord (fields form)
parts form lines.Header = Header
parts form (lines.Group g) = Line words.Group (group_values g)
parts form (lines.Heal h) = Line words.Heal (h.every, (h.most, tt))
parts form (lines.Own m) = Line words.Own (m, tt)
parts form (lines.Authority key) = Line words.Authority (key, tt)
parts form (lines.Cert c) = cert_parts form c.rec.body c.rec.signature
parts form (lines.State next epoch mask low) =
    state_parts form (state_values (own_above form) next epoch mask.0 low)
parts form lines.Journal = Line words.Journal tt
parts form lines.End = Line words.End tt

-- ## The table

abbrev pub word_text : LineWord → List ℕ
word_text words.Group = codes "group"
word_text words.Heal = codes "heal"
word_text words.Own = codes "self"
word_text words.Authority = codes "authority"
word_text words.Cert = codes "cert"
word_text words.State = codes "state"
word_text words.Journal = codes "journal"
word_text words.End = codes "end"

abbrev pub line_words : List LineWord
line_words = words.Group ∷ words.Heal ∷ words.Own ∷ words.Authority ∷ words.Cert ∷ words.State ∷ words.Journal ∷ words.End ∷ []

abbrev pub head_table : Table HeadText LineWord HeadLine
head_table = record {
  is_start = is_start;
  form = codes "audit";
  header = lines.Header;
  no_header = λ ws. bad.Header;
  words = line_words;
  text = word_text;
  may_stand = may_stand;
  fields = fields;
  whole_fault = whole_fault;
  line = line;
  parts = parts;
}

-- ## As it is read

-- the line word that a word is
abbrev pub line_word : List ℕ → Option LineWord
line_word word = word_among word_text line_words word

abbrev pub own_fields : List Test
own_fields = tests own_shape

abbrev pub own_line : List (List ℕ) → HeadLine
own_line args = line_from own_shape (λ m. lines.Own m) args

abbrev pub authority_fields : List Test
authority_fields = tests authority_shape

abbrev pub authority_line : List (List ℕ) → HeadLine
authority_line args = line_from authority_shape (λ key. lines.Authority key) args

abbrev pub state_fields : Option Key → List (List ℕ) → List Test
state_fields own args = tests_for (state_shape own) args

abbrev pub state_in : Option Key → List (List ℕ) → HeadLine
state_in own args = line_from (state_shape own) (state_line own) args

abbrev pub state_fault_in : Option Key → List (List ℕ) → Option BadWord
state_fault_in own args = state_fault own (values (state_shape own) args)

-- What the words behind a line word are read as.
abbrev pub reads : HeadText → LineWord → List (List ℕ) → Result HeadLine BadWord
reads head.Headed words.Group args = fields_line group_fields (λ ws. lines.Group (group_in ws)) args
reads (head.Grouped g heal) words.Heal args =
    if not heal then fields_line heal_fields (λ ws. lines.Heal (heal_in ws)) args else Err bad.Order
reads (head.Grouped g heal) words.Own args = fields_line own_fields own_line args
reads (head.Owned g me) words.Authority args = fields_line authority_fields authority_line args
reads (head.Body g me authority named own) words.Cert args =
    whole_line cert_fields (cert_fault_in g authority named) (λ ws. lines.Cert (cert_in g authority ws)) args
reads (head.Body g me authority named own) words.State args =
    whole_line (state_fields own args) (state_fault_in own) (state_in own) args
reads (head.Stated owned) words.Journal args =
    whole_line [] (λ ws. journal_fault owned) (λ ws. lines.Journal) args
reads _ _ args = Err bad.Order

abbrev pub row_of : HeadText → LineWord → Row HeadLine
row_of form word = table.row_of head_table form word

abbrev pub row_for : HeadText → List (List ℕ) → Result (Row HeadLine) BadWord
row_for form ws = table.row_for head_table form ws

-- A signature takes memory.
abbrev pub TakesMemory : HeadLine → Type 0
TakesMemory (lines.Cert c) = Unit {0}
TakesMemory _ = ⊥
