-- The table of the text of a member: each line word, where its line may stand, what the words behind it must be, what
-- refuses them as a whole, and what line they are.
use Rattle.std.specs.Prelude.{ℕ, Bool, true, false, not, ◌&&◌, if◌then◌else◌, is_ok, List, [], ◌∷◌, Option, Some, None, Result, Err, codes, slice_index_or, bytes_eq}
use Rattle.ff_ids.specs.declared.TheConstants.{LAST_MEMBER}
use Rattle.ff_ids.specs.declared.Group.{Group}
use Rattle.ff_ids.specs.Heals.{Heal}
use Rattle.lms_ots.specs.declared.kind.OtsKind.TheVariants.{W1}
use Rattle.lms_tree.specs.declared.kind.TreeKind.TheVariants.{H5}
use Rattle.lms_tree.specs.declared.key.PublicKey.{PublicKey}
use Rattle.records.specs.declared.Body.{Body}
use Rattle.records.specs.declared.Body.TheVariants.{Certificate}
use Rattle.records.specs.declared.CertBody.{CertBody}
use Rattle.records.specs.declared.keys.Key.{Key}
use Rattle.records.specs.declared.keys.Key.TheVariants as keys
use Rattle.records.specs.Keys.{key_bytes, verdict_of}
use Rattle.records.specs.Signing.{CheckedRecord, signed_bytes}
use Rattle.sign_keys.specs.declared.kinds.Kinds.{Kinds}
use Rattle.sign_keys.specs.declared.key.SignKey.{SignKey}
use Rattle.sign_keys.specs.Keys.{new_key}
use Rattle.secrets.specs.Secrets.{key_from}
use Rattle.line_text.specs.declared.bad_word.BadWord.{BadWord}
use Rattle.line_text.specs.declared.bad_word.BadWord.TheVariants as bad
use Rattle.line_text.specs.Fields.{Test, bad_where}
use Rattle.line_text.specs.Frame.{Row, fields_line, whole_line, word_among}
use Rattle.line_text.specs.Shapes.{◌and◌, Field, Fields, Makes, Values, bytes_from, bytes_of, line_from, no_more, number_from, test, tests, values}
use Rattle.line_text.specs.Tables as table
use Rattle.line_text.specs.Tables.{Header, Line, Parts, Table}
use Rattle.schedule_texts.specs.Shared.{any_lms_key, cert_of, group_fields, group_in, group_of, group_shape, group_values, key_field, lms_key_field, kinds_fault, kinds_fault_in, kinds_fields, kinds_in, kinds_of, kinds_shape, kinds_values, port_field}
use Rattle.schedule_texts.specs.declared.kit.KitText.{KitText}
use Rattle.schedule_texts.specs.declared.kit.KitText.TheVariants as kit
use Rattle.schedule_texts.specs.declared.kit_line.KitLine.{KitLine}
use Rattle.schedule_texts.specs.declared.kit_line.KitLine.TheVariants as lines
use Rattle.schedule_texts.specs.declared.kit_line.LineWord.{LineWord}
use Rattle.schedule_texts.specs.declared.kit_line.LineWord.TheVariants as words

-- ## Where a line stands

abbrev pub is_start : KitText → Bool
is_start kit.Start = true
is_start _ = false

abbrev pub is_ended : KitText → Bool
is_ended kit.Ended = true
is_ended _ = false

-- The group, the kinds, a line `heal` or none, the own secret, the authority's key and the length of a tick come in this
-- order, and behind them certificates, as many as there are.
abbrev pub may_stand : KitText → LineWord → Bool
may_stand kit.Headed words.Group = true
may_stand (kit.Grouped g) words.Kinds = true
may_stand (kit.Kinded g kinds heal) words.Heal = not heal
may_stand (kit.Kinded g kinds heal) words.Own = true
may_stand (kit.Owned owner) words.Authority = true
may_stand (kit.Authorized owner authority) words.Tick = true
may_stand (kit.Body owner authority named own) words.Cert = true
may_stand (kit.Body owner authority named own) words.End = true
may_stand _ _ = false

-- ## What the words must be

-- the number of a member
abbrev pub member_field : Field
member_field = number_from 0 LAST_MEMBER

abbrev pub member : Test
member word = test member_field word

-- a signature has 1 to 9,004 bytes
abbrev pub signature_field : Field
signature_field = bytes_from 1 9004

abbrev pub signature : Test
signature word = test signature_field word

-- N A
abbrev pub heal_shape : Fields
heal_shape = number_from 2 1000 and number_from 0 1000 and no_more

abbrev pub heal_of : ℕ → ℕ → Heal
heal_of every most = record { every = every; most = most }

-- M PORT KEY SIGNATURE
abbrev pub cert_shape : Fields
cert_shape = member_field and port_field and key_field and signature_field and no_more

abbrev pub fields : LineWord → Fields
fields words.Group = group_shape
fields words.Kinds = kinds_shape
fields words.Heal = heal_shape
fields words.Own = member_field and bytes_of 32 and no_more
fields words.Authority = lms_key_field and no_more
fields words.Tick = number_from 1 60000 and no_more
fields words.Cert = cert_shape
fields words.End = no_more

-- ## What refuses a line as a whole

-- the number has a certificate
abbrev pub is_named : List Bool → ℕ → Bool
is_named named m = slice_index_or named m false

-- The number has no certificate yet, and the signature verifies under the authority's key in the group.
abbrev pub is_good : Group → PublicKey → List Bool → CertBody → List ℕ → Bool
is_good g authority named cert signed_by =
    not (is_named named cert.member) && is_ok (verdict_of (keys.Lms authority) (signed_bytes g.tag g.t (Certificate cert)) signed_by)

abbrev pub cert_fault : Group → PublicKey → List Bool → Values cert_shape → Option BadWord
cert_fault g authority named vs =
    bad_where bad.Cert (not (is_good g authority named (cert_of vs.0 vs.1.0 vs.1.1.0) vs.1.1.1.0))

-- The certificate of the own number has the own key.
abbrev pub is_owned : Key → Option Key → Bool
is_owned own_key None = false
is_owned own_key (Some k) = bytes_eq (key_bytes k) (key_bytes own_key)

abbrev pub end_fault : Key → Option Key → Option BadWord
end_fault own_key own = bad_where bad.OwnKey (not (is_owned own_key own))

-- Kinds of which there are no keys are refused, a certificate with a fault, and an end where the own certificate is missing.
abbrev pub whole_fault : KitText → (word : LineWord) → Values (fields word) → Option BadWord
whole_fault (kit.Grouped g) words.Kinds vs = kinds_fault vs
whole_fault (kit.Body owner authority named own) words.Cert vs =
    cert_fault owner.group authority named vs
whole_fault (kit.Body owner authority named own) words.End vs = end_fault owner.key own
whole_fault form _ vs = None

-- ## What line they are

-- the key that the own secret gives; above the kinds, where no secret may stand, one of some kinds
abbrev pub own_key : KitText → List ℕ → SignKey
own_key (kit.Kinded g kinds heal) secret = new_key (key_from kinds secret)
own_key form secret = new_key (key_from (kinds_of W1 H5 None) secret)

-- a certificate, as what was checked under the authority's key in the group
abbrev pub checked_as : Group → PublicKey → CertBody → List ℕ → CheckedRecord
checked_as g authority cert signed_by =
    record { rec = record { body = Certificate cert; signature = signed_by }; key = keys.Lms authority; tag = g.tag; t = g.t }

-- the group and the authority of a certificate; above the certificates, where none may stand, some
abbrev pub group_above : KitText → Group
group_above (kit.Body owner authority named own) = owner.group
group_above form = group_of 0 0 0 0 []

abbrev pub authority_above : KitText → PublicKey
authority_above (kit.Body owner authority named own) = authority
authority_above form = any_lms_key

abbrev pub line : (form : KitText) (word : LineWord) → Makes (fields word) KitLine
line form words.Group = λ t timeout period misses tag.
    lines.Group (group_of t timeout period misses tag)
line form words.Kinds = λ wide high low. lines.Kinds (kinds_of wide high low)
line form words.Heal = λ every most. lines.Heal (heal_of every most)
line form words.Own = λ m secret. lines.Own m secret (own_key form secret)
line form words.Authority = λ key. lines.Authority key
line form words.Tick = λ millis. lines.Tick millis
line form words.Cert = λ m at key signed_by.
    lines.Cert (checked_as (group_above form) (authority_above form) (cert_of m at key) signed_by)
line form words.End = lines.End

-- A record of another body is no line: no header is one.
abbrev pub cert_parts : Body → List ℕ → Parts LineWord fields
cert_parts (Certificate c) signed_by =
    Line words.Cert (c.member, (c.port, (c.key, (signed_by, tt))))
cert_parts _ signed_by = Header

abbrev pub parts : KitLine → Parts LineWord fields
parts lines.Header = Header
parts (lines.Group g) = Line words.Group (group_values g)
parts (lines.Kinds k) = Line words.Kinds (kinds_values k)
parts (lines.Heal h) = Line words.Heal (h.every, (h.most, tt))
parts (lines.Own m secret key) = Line words.Own (m, (secret, tt))
parts (lines.Authority key) = Line words.Authority (key, tt)
parts (lines.Tick millis) = Line words.Tick (millis, tt)
parts (lines.Cert c) = cert_parts c.rec.body c.rec.signature
parts lines.End = Line words.End tt

-- ## The table

abbrev pub word_text : LineWord → List ℕ
word_text words.Group = codes "group"
word_text words.Kinds = codes "kinds"
word_text words.Heal = codes "heal"
word_text words.Own = codes "self"
word_text words.Authority = codes "authority"
word_text words.Tick = codes "tick"
word_text words.Cert = codes "cert"
word_text words.End = codes "end"

abbrev pub line_words : List LineWord
line_words = words.Group ∷ words.Kinds ∷ words.Heal ∷ words.Own ∷ words.Authority ∷ words.Tick ∷ words.Cert ∷ words.End ∷ []

abbrev pub kit_table : Table KitText LineWord KitLine
kit_table = record {
  is_start = is_start;
  form = codes "kit";
  header = lines.Header;
  no_header = λ ws. bad.Header;
  words = line_words;
  text = word_text;
  may_stand = may_stand;
  fields = λ form. fields;
  whole_fault = whole_fault;
  line = line;
  parts = λ form. parts;
}

-- ## As it is read

-- the line word that a word is
abbrev pub line_word : List ℕ → Option LineWord
line_word word = word_among word_text line_words word

abbrev pub fields_of : LineWord → List Test
fields_of word = tests (fields word)

abbrev pub heal_fields : List Test
heal_fields = tests heal_shape

abbrev pub heal_in : List (List ℕ) → Heal
heal_in args = line_from heal_shape heal_of args

abbrev pub own_line : Kinds → List (List ℕ) → KitLine
own_line kinds args =
    line_from (fields words.Own) (λ m secret. lines.Own m secret (new_key (key_from kinds secret))) args

abbrev pub authority_line : List (List ℕ) → KitLine
authority_line args = line_from (fields words.Authority) (line kit.Start words.Authority) args

abbrev pub tick_line : List (List ℕ) → KitLine
tick_line args = line_from (fields words.Tick) (line kit.Start words.Tick) args

abbrev pub cert_fields : List Test
cert_fields = tests cert_shape

abbrev pub cert_in : Group → PublicKey → List (List ℕ) → CheckedRecord
cert_in g authority args =
    line_from cert_shape (λ m at key signed_by. checked_as g authority (cert_of m at key) signed_by) args

abbrev pub cert_fault_in : Group → PublicKey → List Bool → List (List ℕ) → Option BadWord
cert_fault_in g authority named args = cert_fault g authority named (values cert_shape args)

-- What the words behind a line word are read as.
abbrev pub reads : KitText → LineWord → List (List ℕ) → Result KitLine BadWord
reads kit.Headed words.Group args = fields_line group_fields (λ ws. lines.Group (group_in ws)) args
reads (kit.Grouped g) words.Kinds args =
    whole_line (kinds_fields args) kinds_fault_in (λ ws. lines.Kinds (kinds_in ws)) args
reads (kit.Kinded g kinds heal) words.Heal args =
    if not heal then fields_line heal_fields (λ ws. lines.Heal (heal_in ws)) args else Err bad.Order
reads (kit.Kinded g kinds heal) words.Own args = fields_line (fields_of words.Own) (own_line kinds) args
reads (kit.Owned owner) words.Authority args =
    fields_line (fields_of words.Authority) authority_line args
reads (kit.Authorized owner authority) words.Tick args =
    fields_line (fields_of words.Tick) tick_line args
reads (kit.Body owner authority named own) words.Cert args =
    whole_line cert_fields (cert_fault_in owner.group authority named) (λ ws. lines.Cert (cert_in owner.group authority ws)) args
reads (kit.Body owner authority named own) words.End args =
    whole_line [] (λ ws. end_fault owner.key own) (λ ws. lines.End) args
reads _ _ args = Err bad.Order

abbrev pub row_of : KitText → LineWord → Row KitLine
row_of form word = table.row_of kit_table form word

abbrev pub row_for : KitText → List (List ℕ) → Result (Row KitLine) BadWord
row_for form ws = table.row_for kit_table form ws

-- The own key and a signature take memory.
abbrev pub TakesMemory : KitLine → Type 0
TakesMemory (lines.Own m secret own_key) = Unit {0}
TakesMemory (lines.Cert c) = Unit {0}
TakesMemory _ = ⊥
