-- The table of the world form: each line word, where its line may stand, what the words behind it must be, and what
-- line they are.
use Rattle.std.specs.Prelude.{ℕ, ◌*◌, ◌-◌, ◌^◌, ◌&&◌, ◌==◌, nat_le, nat_lt, not, min, Bool, true, false, List, [], ◌∷◌, length, Option, Some, None, Result, Err, codes, if◌then◌else◌}
use Rattle.std.specs.List.{list_any}
use Rattle.ff_ids.specs.declared.TheConstants.{LAST_MEMBER, MAX_TOLERANCE, ALL_BITS}
use Rattle.lms_ots.specs.declared.kind.OtsKind.{OtsKind}
use Rattle.lms_ots.specs.declared.kind.OtsKind.TheVariants.{W8}
use Rattle.lms_ots.specs.Ots as ots
use Rattle.lms_tree.specs.declared.kind.TreeKind.{TreeKind}
use Rattle.lms_tree.specs.declared.kind.TreeKind.TheVariants.{H10}
use Rattle.lms_tree.specs.Kinds as trees
use Rattle.sign_keys.specs.Kinds.{fits}
use Rattle.line_text.specs.declared.bad_word.BadWord.{BadWord}
use Rattle.line_text.specs.declared.bad_word.BadWord.TheVariants as bad
use Rattle.line_text.specs.Fields.{Test, bad_where}
use Rattle.line_text.specs.Frame.{Row, fields_line, whole_line, word_among}
use Rattle.line_text.specs.Shapes.{◌and◌, Field, Fields, Makes, Values, any_name, bytes_of, bytes_up_to, line_from, maybe, no_more, number_as, number_from, number_where, tests, tests_for, values, word_or}
use Rattle.line_text.specs.Tables as table
use Rattle.line_text.specs.Tables.{Header, Line, Parts, Table}
use Rattle.schedule_world.specs.declared.line.LineWord.{LineWord}
use Rattle.schedule_world.specs.declared.line.LineWord.TheVariants as words
use Rattle.schedule_world.specs.declared.line.WorldLine.{WorldLine}
use Rattle.schedule_world.specs.declared.line.WorldLine.TheVariants as lines
use Rattle.schedule_world.specs.declared.text.WorldText.{WorldText}
use Rattle.schedule_world.specs.declared.text.WorldText.TheVariants as world
use Rattle.schedule_world.specs.Kinds.{ots_of, ots_of-width, tree_of, tree_of-height}

-- ## Where a line stands

abbrev pub is_start : WorldText → Bool
is_start world.Start = true
is_start _ = false

abbrev pub is_headed : WorldText → Bool
is_headed world.Headed = true
is_headed _ = false

abbrev pub is_grouped : WorldText → Bool
is_grouped (world.Grouped t) = true
is_grouped _ = false

abbrev pub is_roster : WorldText → Bool
is_roster (world.Roster t heal names node) = true
is_roster _ = false

-- directly below the kinds: in a roster that has named nobody, and below no line `heal`
abbrev pub is_below_kinds : WorldText → Bool
is_below_kinds (world.Roster t heal names node) = not heal && (length names == 0)
is_below_kinds _ = false

-- in a roster, below a node
abbrev pub has_node : WorldText → Bool
has_node (world.Roster t heal names node) = node
has_node _ = false

abbrev pub is_body : WorldText → Bool
is_body (world.Body t ticks) = true
is_body _ = false

abbrev pub is_ended : WorldText → Bool
is_ended world.Ended = true
is_ended _ = false

-- the tolerance of the group, below it
abbrev pub tolerance : WorldText → ℕ
tolerance (world.Grouped t) = t
tolerance (world.Roster t heal names node) = t
tolerance (world.Body t ticks) = t
tolerance _ = 0

-- how many members a world may have
abbrev pub most_members : ℕ
most_members = 32

-- The member may be named: in a roster with room for one more that hasn't named it.
abbrev pub may_name : WorldText → ℕ → Bool
may_name (world.Roster t heal names node) m = nat_lt (length names) most_members && not (list_any (λ n. m == n) names)
may_name _ m = false

-- how many ticks a schedule may have
abbrev pub most_ticks : ℕ
most_ticks = 100000

-- how many ticks may still come
abbrev pub ticks_left : WorldText → ℕ
ticks_left (world.Body t ticks) = most_ticks - ticks
ticks_left _ = 0

-- The group stands directly below the header, and the kinds directly below the group; directly below these a line `heal` may
-- stand. The roster is next: nodes and liars, and `begin` below a node. The other lines follow it.
abbrev pub may_stand : WorldText → LineWord → Bool
may_stand w words.Group = is_headed w
may_stand w words.Kinds = is_grouped w
may_stand w words.Heal = is_below_kinds w
may_stand w words.Node = is_roster w
may_stand w words.Liar = is_roster w
may_stand w words.Begin = has_node w
may_stand w _ = is_body w

-- ## What a word must be

-- the number of a member
abbrev pub member : Field
member = number_from 0 LAST_MEMBER

-- the number of a member that may be named here
abbrev pub newcomer : WorldText → Field
newcomer w = number_where (λ n. nat_le n LAST_MEMBER && may_name w n)

abbrev pub width : Field
width = number_as ots_of W8 ots.width ots_of-width

abbrev pub height : Field
height = number_as tree_of H10 trees.height tree_of-height

-- The epochs of notes begin at 1.
abbrev pub epoch : Field
epoch = number_from 1 (2 ^ 64 - 1)

abbrev pub epoch_or_now : Field
epoch_or_now = word_or (codes "now") epoch

-- the outcome of a crash
abbrev pub outcome : Field
outcome = number_from 0 65535

-- how many bytes may be handed over: one more than a datagram may have
abbrev pub raw_bytes : ℕ
raw_bytes = 32769

-- any ring that a record can name
abbrev pub any_ring : Field
any_ring = number_from 0 255

-- one of the 2t+1 rings of the group
abbrev pub ring_of : WorldText → Field
ring_of w = number_from 0 (2 * tolerance w)

-- ## The table

-- what the words behind a line word must be
abbrev pub fields : WorldText → LineWord → Fields
fields w words.Group = number_from 1 MAX_TOLERANCE and number_from 1 10000 and number_from 1 1000 and number_from 1 16 and bytes_of 16 and no_more
fields w words.Kinds = width and height and maybe height
fields w words.Heal = number_from 2 1000 and number_from 0 1000 and no_more
fields w words.Node = newcomer w and no_more
fields w words.Liar = newcomer w and no_more
fields w words.Begin = no_more
fields w words.Start = member and no_more
fields w words.Stop = member and outcome and no_more
fields w words.Arm = member and number_from 0 1000 and outcome and no_more
fields w words.Tick = member and number_from 1 (min (ticks_left w) 10000) and no_more
fields w words.Leave = member and no_more
fields w words.Deliver = number_from 0 (2 ^ 64 - 1) and member and no_more
fields w words.Flow = number_from 1 100000 and no_more
fields w words.Raw = member and bytes_up_to raw_bytes and no_more
fields w words.SignNote = member and member and epoch and number_from 0 ALL_BITS and any_name and no_more
fields w words.SignAccusation = member and member and member and epoch_or_now and any_ring and any_name and no_more
fields w words.Give = any_name and member and no_more
fields w words.GiveAll = any_name and no_more
fields w words.View = member and no_more
fields w words.Monitor = member and ring_of w and member and no_more
fields w words.End = no_more

-- No key of two levels has these kinds.
abbrev pub kinds_fault : OtsKind → TreeKind → Option TreeKind → Option BadWord
kinds_fault kind tree bottom = bad_where bad.Limit (not (fits kind tree bottom))

-- Such kinds are refused as a whole, and nothing else is.
abbrev pub whole_fault : (w : WorldText) (word : LineWord) → Values (fields w word) → Option BadWord
whole_fault w words.Kinds vs = kinds_fault vs.0 vs.1.0 vs.1.1
whole_fault w _ vs = None

-- the line that their values make
abbrev pub line : (w : WorldText) (word : LineWord) → Makes (fields w word) WorldLine
line w words.Group = λ t timeout period misses tag. lines.Group (record { t = t; timeout = timeout; period = period; misses = misses; tag = tag })
line w words.Kinds = λ kind tree bottom. lines.Kinds kind tree bottom
line w words.Heal = λ every most. lines.Heal (record { every = every; most = most })
line w words.Node = λ m. lines.Node m
line w words.Liar = λ m. lines.Liar m
line w words.Begin = lines.Begin
line w words.Start = λ m. lines.Start m
line w words.Stop = λ m crash. lines.Stop m crash
line w words.Arm = λ m calls crash. lines.Arm m calls crash
line w words.Tick = λ m ticks. lines.Tick m ticks
line w words.Leave = λ m. lines.Leave m
line w words.Deliver = λ datagram m. lines.Deliver datagram m
line w words.Flow = λ most. lines.Flow most
line w words.Raw = λ m bytes. lines.Raw m bytes
line w words.SignNote = λ key m at mask called. lines.SignNote key (record { member = m; epoch = at; mask = record { 0 = mask } }) called
line w words.SignAccusation = λ key accuser accused at ring called. lines.SignAccusation key accuser accused at (record { 0 = ring }) called
line w words.Give = λ called m. lines.Give called m
line w words.GiveAll = λ called. lines.GiveAll called
line w words.View = λ m. lines.View m
line w words.Monitor = λ m ring other. lines.Monitor m (record { 0 = ring }) other
line w words.End = lines.End

-- the values that make a line
abbrev pub parts : (w : WorldText) → WorldLine → Parts LineWord (fields w)
parts w lines.Header = Header
parts w (lines.Group g) = Line words.Group (g.t, (g.timeout, (g.period, (g.misses, (g.tag, tt)))))
parts w (lines.Kinds kind tree bottom) = Line words.Kinds (kind, (tree, bottom))
parts w (lines.Heal h) = Line words.Heal (h.every, (h.most, tt))
parts w (lines.Node m) = Line words.Node (m, tt)
parts w (lines.Liar m) = Line words.Liar (m, tt)
parts w lines.Begin = Line words.Begin tt
parts w (lines.Start m) = Line words.Start (m, tt)
parts w (lines.Stop m crash) = Line words.Stop (m, (crash, tt))
parts w (lines.Arm m calls crash) = Line words.Arm (m, (calls, (crash, tt)))
parts w (lines.Tick m ticks) = Line words.Tick (m, (ticks, tt))
parts w (lines.Leave m) = Line words.Leave (m, tt)
parts w (lines.Deliver datagram m) = Line words.Deliver (datagram, (m, tt))
parts w (lines.Flow most) = Line words.Flow (most, tt)
parts w (lines.Raw m bytes) = Line words.Raw (m, (bytes, tt))
parts w (lines.SignNote key n called) = Line words.SignNote (key, (n.member, (n.epoch, (n.mask.0, (called, tt)))))
parts w (lines.SignAccusation key accuser accused at ring called) = Line words.SignAccusation (key, (accuser, (accused, (at, (ring.0, (called, tt))))))
parts w (lines.Give called m) = Line words.Give (called, (m, tt))
parts w (lines.GiveAll called) = Line words.GiveAll (called, tt)
parts w (lines.View m) = Line words.View (m, tt)
parts w (lines.Monitor m ring other) = Line words.Monitor (m, (ring.0, (other, tt)))
parts w lines.End = Line words.End tt

abbrev pub word_text : LineWord → List ℕ
word_text words.Group = codes "group"
word_text words.Kinds = codes "kinds"
word_text words.Heal = codes "heal"
word_text words.Node = codes "node"
word_text words.Liar = codes "liar"
word_text words.Begin = codes "begin"
word_text words.Start = codes "start"
word_text words.Stop = codes "stop"
word_text words.Arm = codes "arm"
word_text words.Tick = codes "tick"
word_text words.Leave = codes "leave"
word_text words.Deliver = codes "deliver"
word_text words.Flow = codes "flow"
word_text words.Raw = codes "raw"
word_text words.SignNote = codes "sign-note"
word_text words.SignAccusation = codes "sign-accusation"
word_text words.Give = codes "give"
word_text words.GiveAll = codes "give-all"
word_text words.View = codes "view"
word_text words.Monitor = codes "monitor"
word_text words.End = codes "end"

abbrev pub line_words : List LineWord
line_words =
    words.Group ∷ words.Kinds ∷ words.Heal ∷ words.Node ∷ words.Liar ∷ words.Begin ∷ words.Start ∷ words.Stop ∷ words.Arm ∷ words.Tick
    ∷ words.Leave ∷ words.Deliver ∷ words.Flow ∷ words.Raw ∷ words.SignNote ∷ words.SignAccusation ∷ words.Give ∷ words.GiveAll ∷ words.View ∷ words.Monitor ∷ words.End ∷ []

abbrev pub world_table : Table WorldText LineWord WorldLine
world_table = record {
  is_start = is_start;
  form = codes "world";
  header = lines.Header;
  no_header = λ ws. bad.Header;
  words = line_words;
  text = word_text;
  may_stand = may_stand;
  fields = fields;
  whole_fault = whole_fault;
  line = line;
  parts = parts;
}

-- ## As it is read

-- the line word that a word is
abbrev pub line_word : List ℕ → Option LineWord
line_word word = word_among word_text line_words word

-- kinds of keys of one level, and of two
abbrev pub one_level : Fields
one_level = width and height and no_more

abbrev pub one_level_line : List (List ℕ) → WorldLine
one_level_line args = line_from one_level (λ kind tree. lines.Kinds kind tree None) args

abbrev pub two_levels : Fields
two_levels = width and height and height and no_more

abbrev pub two_level_fault : List (List ℕ) → Option BadWord
two_level_fault args = line_from two_levels (λ kind tree bottom. kinds_fault kind tree (Some bottom)) args

abbrev pub two_level_line : List (List ℕ) → WorldLine
two_level_line args = line_from two_levels (λ kind tree bottom. lines.Kinds kind tree (Some bottom)) args

abbrev pub kinds_tests : List (List ℕ) → List Test
kinds_tests args = tests_for (fields world.Start words.Kinds) args

abbrev pub kinds_fault_in : List (List ℕ) → Option BadWord
kinds_fault_in args = whole_fault world.Start words.Kinds (values (fields world.Start words.Kinds) args)

abbrev pub kinds_line : List (List ℕ) → WorldLine
kinds_line args = line_from (fields world.Start words.Kinds) (line world.Start words.Kinds) args

-- What the words behind a line word are, or the first bad one. It is said apart for `end` so that it opens only where
-- the line word is known.
abbrev pub words_line : WorldText → LineWord → List (List ℕ) → Result WorldLine BadWord
words_line w words.End args = fields_line [] (λ others. lines.End) args
words_line w words.Kinds args = whole_line (kinds_tests args) kinds_fault_in kinds_line args
words_line w word args = fields_line (tests (fields w word)) (line_from (fields w word) (line w word)) args

-- the same, of a line whose fields don't depend on what was read
abbrev pub any_line : LineWord → List (List ℕ) → Result WorldLine BadWord
any_line word args = words_line world.Start word args

-- what the words behind a line word are read as
abbrev pub reads : WorldText → LineWord → List (List ℕ) → Result WorldLine BadWord
reads w word args = if may_stand w word then words_line w word args else Err bad.Order

-- The row of a line with these words, or the bad word where there is none.
abbrev pub row_for : WorldText → List (List ℕ) → Result (Row WorldLine) BadWord
row_for w ws = table.row_for world_table w ws

-- Only raw bytes and names take memory.
abbrev pub TakesMemory : WorldLine → Type 0
TakesMemory (lines.Raw m bytes) = Unit {0}
TakesMemory (lines.SignNote key note called) = Unit {0}
TakesMemory (lines.SignAccusation key accuser accused at ring called) = Unit {0}
TakesMemory (lines.Give called m) = Unit {0}
TakesMemory (lines.GiveAll called) = Unit {0}
TakesMemory _ = ⊥
