-- The table of the direct form: each line word, where its line may stand, what the words behind it must be, and what line
-- they are.
use Rattle.std.specs.Prelude.{◌≡◌, ℕ, ◌*◌, ◌-◌, ◌^◌, min, Bool, true, false, if◌then◌else◌, List, [], ◌∷◌, map, replicate, length, Option, None, Result, Ok, Err, codes}
use Rattle.std.specs.List.{list_all}
use Rattle.ff_ids.specs.declared.AccBody.{AccBody}
use Rattle.ff_ids.specs.declared.NoteBody.{NoteBody}
use Rattle.ff_ids.specs.declared.TheConstants.{LAST_MEMBER, MAX_TOLERANCE, ALL_BITS}
use Rattle.ff_ids.specs.Masks.{ring_count}
use Rattle.line_text.specs.declared.bad_word.BadWord.{BadWord}
use Rattle.line_text.specs.declared.bad_word.BadWord.TheVariants as bad
use Rattle.line_text.specs.Fields.{Test, number_32, number_in}
use Rattle.line_text.specs.Frame.{Row, fields_line, first_of, is_header, unless_bad, word_among, word_tests}
use Rattle.line_text.specs.Shapes.{◌and◌, Field, Fields, Makes, line_from, no_more, number_from, so_many, tests}
use Rattle.line_text.specs.Tables as table
use Rattle.line_text.specs.Tables.{Header, Line, Parts, Table}
use Rattle.line_text.specs.Words.{is_word}
use Rattle.schedule_direct.specs.declared.direct.Direct.{Direct}
use Rattle.schedule_direct.specs.declared.direct.Direct.TheVariants as direct
use Rattle.schedule_direct.specs.declared.line.DirectLine.{DirectLine}
use Rattle.schedule_direct.specs.declared.line.DirectLine.TheVariants as lines
use Rattle.schedule_direct.specs.declared.line.LineWord.{LineWord}
use Rattle.schedule_direct.specs.declared.line.LineWord.TheVariants as words

-- ## Where a line stands

abbrev pub is_start : Direct → Bool
is_start direct.Start = true
is_start _ = false

abbrev pub is_headed : Direct → Bool
is_headed direct.Headed = true
is_headed _ = false

abbrev pub is_body : Direct → Bool
is_body (direct.Body t ticks) = true
is_body _ = false

abbrev pub is_ended : Direct → Bool
is_ended direct.Ended = true
is_ended _ = false

-- the tolerance of the group, below it
abbrev pub tolerance : Direct → ℕ
tolerance (direct.Body t ticks) = t
tolerance _ = 0

-- how many ticks a schedule may have
abbrev pub most_ticks : ℕ
most_ticks = 1000000

-- how many ticks may still come
abbrev pub ticks_left : Direct → ℕ
ticks_left (direct.Body t ticks) = most_ticks - ticks
ticks_left _ = 0

-- The line of the group stands directly below the header, and every other line below the group.
abbrev pub may_stand : Direct → LineWord → Bool
may_stand d words.Group = is_headed d
may_stand d _ = is_body d

-- ## What the words must be

-- the number of a member
abbrev pub member : Field
member = number_from 0 LAST_MEMBER

-- The epochs of notes begin at 1.
abbrev pub epoch : Field
epoch = number_from 1 (2 ^ 64 - 1)

-- a place on a ring
abbrev pub place : Field
place = number_from 0 (2 ^ 32 - 1)

-- T TIMEOUT
abbrev pub group_fields : Fields
group_fields = number_from 1 MAX_TOLERANCE and number_from 1 10000 and no_more

-- M P0 P1 .., with a place on each of the 2t+1 rings
abbrev pub member_fields : ℕ → Fields
member_fields t = member and so_many (ring_count t) place

-- M EPOCH MASK
abbrev pub note_fields : Fields
note_fields = member and epoch and number_from 0 ALL_BITS and no_more

-- ACCUSER ACCUSED EPOCH RING, the ring being any that a record can name
abbrev pub accuse_fields : Fields
accuse_fields = member and member and epoch and number_from 0 255 and no_more

-- N, up to 10,000, and no more than may still come
abbrev pub tick_fields : ℕ → Fields
tick_fields left = number_from 1 (min left 10000) and no_more

-- RING M, the ring being one of the 2t+1
abbrev pub monitor_fields : ℕ → Fields
monitor_fields t = number_from 0 (2 * t) and member and no_more

abbrev pub fields : Direct → LineWord → Fields
fields d words.Group = group_fields
fields d words.Member = member_fields (tolerance d)
fields d words.Note = note_fields
fields d words.Accuse = accuse_fields
fields d words.Tick = tick_fields (ticks_left d)
fields d words.View = no_more
fields d words.Monitor = monitor_fields (tolerance d)
fields d words.Life = no_more
fields d words.End = no_more

-- ## What line they are

abbrev pub note_of : ℕ → ℕ → ℕ → NoteBody
note_of m at mask = record { member = m; epoch = at; mask = record { 0 = mask } }

abbrev pub accusation_of : ℕ → ℕ → ℕ → ℕ → AccBody
accusation_of accuser accused at ring = record { accuser = accuser; accused = accused; epoch = at; ring = record { 0 = ring } }

abbrev pub line : (d : Direct) (word : LineWord) → Makes (fields d word) DirectLine
line d words.Group = λ t timeout. lines.Group t timeout
line d words.Member = λ m places. lines.Member m places
line d words.Note = λ m at mask. lines.Note (note_of m at mask)
line d words.Accuse = λ accuser accused at ring. lines.Accuse (accusation_of accuser accused at ring)
line d words.Tick = λ ticks. lines.Tick ticks
line d words.View = lines.View
line d words.Monitor = λ ring m. lines.Monitor (record { 0 = ring }) m
line d words.Life = lines.Life
line d words.End = lines.End

abbrev pub parts : (d : Direct) → DirectLine → Parts LineWord (fields d)
parts d lines.Header = Header
parts d (lines.Group t timeout) = Line words.Group (t, (timeout, tt))
parts d (lines.Member m places) = Line words.Member (m, places)
parts d (lines.Note n) = Line words.Note (n.member, (n.epoch, (n.mask.0, tt)))
parts d (lines.Accuse a) = Line words.Accuse (a.accuser, (a.accused, (a.epoch, (a.ring.0, tt))))
parts d (lines.Tick ticks) = Line words.Tick (ticks, tt)
parts d lines.View = Line words.View tt
parts d (lines.Monitor ring m) = Line words.Monitor (ring.0, (m, tt))
parts d lines.Life = Line words.Life tt
parts d lines.End = Line words.End tt

-- ## The table

abbrev pub word_text : LineWord → List ℕ
word_text words.Group = codes "group"
word_text words.Member = codes "member"
word_text words.Note = codes "note"
word_text words.Accuse = codes "accuse"
word_text words.Tick = codes "tick"
word_text words.View = codes "view"
word_text words.Monitor = codes "monitor"
word_text words.Life = codes "life"
word_text words.End = codes "end"

abbrev pub line_words : List LineWord
line_words = words.Group ∷ words.Member ∷ words.Note ∷ words.Accuse ∷ words.Tick ∷ words.View ∷ words.Monitor ∷ words.Life ∷ words.End ∷ []

-- The header of the world form has a word of its own: this form does not read it. No command shows the word, since a text
-- that begins so is read in the world form.
abbrev pub no_header : List (List ℕ) → BadWord
no_header ws = if is_header (codes "world") ws then bad.NotBuilt else bad.Header

abbrev pub direct_table : Table Direct LineWord DirectLine
direct_table = record {
  is_start = is_start;
  form = codes "direct";
  header = lines.Header;
  no_header = no_header;
  words = line_words;
  text = word_text;
  may_stand = may_stand;
  fields = fields;
  whole_fault = λ d word values. None;
  line = line;
  parts = parts;
}

-- ## As it is read

-- the line word that a word is
abbrev pub line_word : List ℕ → Option LineWord
line_word word = word_among word_text line_words word

abbrev pub fields_of : Direct → LineWord → List Test
fields_of d word = tests (fields d word)

-- the line that words are, which is the same wherever it stands
abbrev pub line_of : LineWord → List (List ℕ) → DirectLine
line_of words.End args = lines.End
line_of word args = line_from (fields direct.Start word) (line direct.Start word) args

-- what the words behind a line word are read as
abbrev pub reads : Direct → LineWord → List (List ℕ) → Result DirectLine BadWord
reads d word args = if may_stand d word then fields_line (fields_of d word) (line_of word) args else Err bad.Order

abbrev pub row_for : Direct → List (List ℕ) → Result (Row DirectLine) BadWord
row_for d ws = table.row_for direct_table d ws

-- the places that the words spell, the first bad one deciding
abbrev pub read_places : List (List ℕ) → Result (List ℕ) BadWord
read_places ws = unless_bad (first_of (word_tests (replicate (length ws) number_32) ws)) (Ok (map number_in ws))

-- Only places take memory.
abbrev pub TakesMemory : DirectLine → Type 0
TakesMemory (lines.Member m ps) = Unit {0}
TakesMemory _ = ⊥

-- These are words, and they are read as this line.
abbrev pub AreRead : Direct → LineWord → List (List ℕ) → DirectLine → Type 0
AreRead d word args l = (list_all is_word args ≡ true) × (fields_line (fields_of d word) (line_of word) args ≡ Ok l)
