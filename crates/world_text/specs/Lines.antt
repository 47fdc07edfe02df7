-- Lines of a world as they are written back. Hexadecimal digits are in lower case.
use Rattle.std.specs.Prelude.{◌≡◌, ℕ, List, [], ◌∷◌, ◌++◌, Option, Some, None, codes, decimal, length, take}
use Rattle.std.specs.List.{join_with_byte}
use Rattle.hex.specs.Hex.{encode_lower}
use Rattle.ff_ids.specs.declared.Group.{Group}
use Rattle.ff_ids.specs.declared.NoteBody.{NoteBody}
use Rattle.ff_ids.specs.declared.RingNo.{RingNo}
use Rattle.lms_ots.specs.Ots.{width}
use Rattle.lms_ots.specs.declared.kind.OtsKind.{OtsKind}
use Rattle.lms_tree.specs.Kinds.{height}
use Rattle.lms_tree.specs.declared.kind.TreeKind.{TreeKind}
use Rattle.schedule_world.specs.declared.line.WorldLine.TheVariants as lines
use Rattle.schedule_world.specs.declared.line.WorldLine.{WorldLine}
use Rattle.schedule_world.specs.Grammar.{spelled_epoch, spelled_words}

abbrev pub group_start : ℕ → ℕ → List ℕ
group_start t timeout = codes "group " ++ decimal t ++ codes " " ++ decimal timeout

abbrev pub group_end : ℕ → ℕ → List ℕ → List ℕ
group_end period misses tag = codes " " ++ decimal period ++ codes " " ++ decimal misses ++ codes " " ++ encode_lower tag

abbrev pub group_text : Group → List ℕ
group_text g = group_start g.t g.timeout ++ group_end g.period g.misses g.tag

-- the height of the bottom trees, of keys of two levels
abbrev pub bottom_text : Option TreeKind → List ℕ
bottom_text None = []
bottom_text (Some bottom) = codes " " ++ decimal (height bottom)

abbrev pub kinds_text : OtsKind → TreeKind → Option TreeKind → List ℕ
kinds_text ots tree bottom = codes "kinds " ++ decimal (width ots) ++ codes " " ++ decimal (height tree) ++ bottom_text bottom

-- no bytes are a dash
abbrev pub bytes_text : List ℕ → List ℕ
bytes_text [] = codes "-"
bytes_text (b ∷ bytes) = encode_lower (b ∷ bytes)

abbrev pub note_start : ℕ → ℕ → List ℕ
note_start key member = codes "sign-note " ++ decimal key ++ codes " " ++ decimal member

abbrev pub note_end : ℕ → ℕ → List ℕ → List ℕ
note_end epoch mask name = codes " " ++ decimal epoch ++ codes " " ++ decimal mask ++ codes " " ++ name

abbrev pub note_line : ℕ → NoteBody → List ℕ → List ℕ
note_line key n name = note_start key n.member ++ note_end n.epoch n.mask.0 name

abbrev pub accusation_start : ℕ → ℕ → List ℕ
accusation_start key accuser = codes "sign-accusation " ++ decimal key ++ codes " " ++ decimal accuser

abbrev pub accusation_middle : ℕ → Option ℕ → List ℕ
accusation_middle accused epoch = codes " " ++ decimal accused ++ codes " " ++ spelled_epoch epoch

abbrev pub accusation_end : RingNo → List ℕ → List ℕ
accusation_end ring name = codes " " ++ decimal ring.0 ++ codes " " ++ name

abbrev pub accusation_line : ℕ → ℕ → ℕ → Option ℕ → RingNo → List ℕ → List ℕ
accusation_line key accuser accused epoch ring name = accusation_start key accuser ++ (accusation_middle accused epoch ++ accusation_end ring name)

-- The line, without a line feed.
abbrev pub line_text : WorldLine → List ℕ
line_text lines.Header = codes "fireflies 1 world"
line_text (lines.Group g) = group_text g
line_text (lines.Kinds ots tree bottom) = kinds_text ots tree bottom
line_text (lines.Heal h) = codes "heal " ++ decimal h.every ++ codes " " ++ decimal h.most
line_text (lines.Node m) = codes "node " ++ decimal m
line_text (lines.Liar m) = codes "liar " ++ decimal m
line_text lines.Begin = codes "begin"
line_text (lines.Start m) = codes "start " ++ decimal m
line_text (lines.Stop m outcome) = codes "stop " ++ decimal m ++ codes " " ++ decimal outcome
line_text (lines.Arm m calls outcome) = codes "arm " ++ decimal m ++ codes " " ++ decimal calls ++ codes " " ++ decimal outcome
line_text (lines.Tick m ticks) = codes "tick " ++ decimal m ++ codes " " ++ decimal ticks
line_text (lines.Leave m) = codes "leave " ++ decimal m
line_text (lines.Deliver datagram m) = codes "deliver " ++ decimal datagram ++ codes " " ++ decimal m
line_text (lines.Flow most) = codes "flow " ++ decimal most
line_text (lines.Raw m bytes) = codes "raw " ++ decimal m ++ codes " " ++ bytes_text bytes
line_text (lines.SignNote key n name) = note_line key n name
line_text (lines.SignAccusation key accuser accused epoch ring name) = accusation_line key accuser accused epoch ring name
line_text (lines.Give name m) = codes "give " ++ name ++ codes " " ++ decimal m
line_text (lines.GiveAll name) = codes "give-all " ++ name
line_text (lines.View m) = codes "view " ++ decimal m
line_text (lines.Monitor m ring other) = codes "monitor " ++ decimal m ++ codes " " ++ decimal ring.0 ++ codes " " ++ decimal other
line_text lines.End = codes "end"

-- the digits of the line that has some
abbrev pub digits_in : WorldLine → List ℕ
digits_in (lines.Group g) = encode_lower g.tag
digits_in (lines.Raw m bytes) = bytes_text bytes
digits_in other = []

-- A line is spelled with one space between two words.
abbrev pub LinesAreSpelled : Type 0
LinesAreSpelled = (line : WorldLine) → line_text line ≡ join_with_byte 32 (spelled_words (digits_in line) line)

-- More was appended, or memory was refused and the list begins with what it held.
abbrev pub Began : List ℕ → List ℕ → Type 0
Began old new = take (length old) new ≡ old
