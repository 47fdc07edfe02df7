-- Events as text. A number is its decimal digits, bytes are two lower case digits each, and words are parted by
-- one space.
use Rattle.std.specs.Prelude.{ℕ, Bool, List, ◌++◌, Option, Some, None, codes, decimal, if◌then◌else◌}
use Rattle.hex.specs.Hex.{encode_lower}
use Rattle.ff_ids.specs.Texts.{accusation_text, fault_text}
use Rattle.ff_ids.specs.declared.NoteBody.{NoteBody}
use Rattle.ff_ids.specs.declared.Fault.{Fault}
use Rattle.life_events.specs.Events as life
use Rattle.life_events.specs.declared.event.What.TheVariants as in_life
use Rattle.records.specs.Keys.{key_bytes}
use Rattle.records.specs.declared.CertBody.{CertBody}
use Rattle.records.specs.declared.Body.{Body}
use Rattle.records.specs.declared.Body.TheVariants as bodies
use Rattle.journal.specs.declared.event.Event.{Event}
use Rattle.journal.specs.declared.event.What.{What}
use Rattle.journal.specs.declared.event.What.TheVariants as kinds

-- the member, its port, and the digits of its key
abbrev pub certificate_text : CertBody → List ℕ
certificate_text c = codes "cert " ++ decimal c.member ++ codes " " ++ decimal c.port ++ codes " " ++ encode_lower (key_bytes c.key)

-- the member, its epoch, and the mask
abbrev pub note_text : NoteBody → List ℕ
note_text n = codes "note " ++ decimal n.member ++ codes " " ++ decimal n.epoch ++ codes " " ++ decimal n.mask.0

abbrev pub body_text : Body → List ℕ
body_text (bodies.Certificate c) = certificate_text c
body_text (bodies.Note n) = note_text n
body_text (bodies.Accusation a) = codes "accuse " ++ accusation_text a

-- what is said of a record that came
abbrev pub verdict_text : Option Fault → List ℕ
verdict_text None = codes "accepted"
verdict_text (Some fault) = codes "refused " ++ fault_text fault

-- whether a pong answers a ping that is kept
abbrev pub answer_text : Bool → List ℕ
answer_text counted = if counted then codes "counted" else codes "stray"

abbrev pub flag_text : Bool → List ℕ
flag_text flag = if flag then codes "1" else codes "0"

abbrev pub what_text : What → List ℕ
what_text (kinds.Entered m) = life.what_text (in_life.Entered m)
what_text (kinds.Expired a) = life.what_text (in_life.Expired a)
what_text (kinds.Removed m) = life.what_text (in_life.Removed m)
what_text (kinds.Fell a) = life.what_text (in_life.Fell a)
what_text (kinds.Spent index body) = codes "spent " ++ decimal index ++ codes " " ++ body_text body
what_text (kinds.Took body fault) = codes "took " ++ body_text body ++ codes " : " ++ verdict_text fault
what_text (kinds.BadForm place) = codes "bad-form " ++ decimal place
what_text (kinds.Ping from nonce) = codes "ping " ++ decimal from ++ codes " " ++ decimal nonce
what_text (kinds.Pong from nonce counted) = codes "pong " ++ decimal from ++ codes " " ++ decimal nonce ++ codes " " ++ answer_text counted
what_text (kinds.Summary from page flag) = codes "summary " ++ decimal from ++ codes " " ++ decimal page ++ codes " " ++ flag_text flag
what_text (kinds.Silent m) = codes "silent " ++ decimal m
what_text (kinds.Exhausted next) = codes "exhausted " ++ decimal next
what_text (kinds.Sent number to bytes) = codes "sent " ++ decimal number ++ codes " " ++ decimal to ++ codes " " ++ encode_lower bytes
what_text (kinds.Lost number) = codes "lost " ++ decimal number
what_text (kinds.Got number) = codes "got " ++ decimal number
what_text kinds.Stopped = codes "stopped"

-- The moment, and what happened then. No line feed ends it.
abbrev pub event_text : Event → List ℕ
event_text e = codes "at " ++ decimal e.moment ++ codes " " ++ what_text e.what
