-- How a run may stop, and the line that says so.
use Rattle.std.specs.Prelude.{◌≡◌, ℕ, ◌<◌, Bool, true, false, List, [], ◌∷◌, ◌++◌, length, take, codes, Option, Some, None, Result, Ok, Err}
use Rattle.std.specs.Fmt.{decimal}
use Rattle.journal.specs.Texts.{body_text}
use Rattle.line_text.specs.Texts.{bad_word_text}
use Rattle.line_text.specs.declared.bad_word.BadWord.{BadWord}
use Rattle.play.specs.declared.stop.Stop.{Stop}
use Rattle.play.specs.declared.stop.Stop.TheVariants as stop
use Rattle.authority.specs.declared.halt.Halt.{Halt}
use Rattle.authority.specs.declared.halt.Halt.TheVariants as halt
use Rattle.node_command.specs.declared.halt.NodeHalt.{NodeHalt}
use Rattle.node_command.specs.declared.halt.NodeHalt.TheVariants as node
use Rattle.world_rules.specs.Walk.{owner_text}
use Rattle.world_rules.specs.declared.cause.Cause.{Cause}
use Rattle.world_rules.specs.declared.cause.Cause.TheVariants as causes
use Rattle.command_line.specs.declared.status.Status.{Status}
use Rattle.command_line.specs.declared.status.Status.TheVariants as status

-- a byte in decimal, or that the file ends before it
abbrev pub byte_text : Option ℕ → List ℕ
byte_text None = codes "none"
byte_text (Some byte) = decimal byte

-- The line that gives the cause, behind what was written till then. Where a write failed or memory was refused, there
-- is none.
abbrev pub cause_line : Status → List ℕ
cause_line (status.BadInput line word) = codes "bad " ++ decimal line ++ 32 ∷ [] ++ bad_word_text word ++ 10 ∷ []
cause_line (status.Forged line who body) = codes "forged " ++ decimal line ++ codes " " ++ owner_text who ++ codes " " ++ body_text body ++ 10 ∷ []
cause_line status.ReadFault = codes "read fault" ++ 10 ∷ []
cause_line status.StoreFault = codes "store fault" ++ 10 ∷ []
cause_line (status.StoreBroken place byte) = codes "store broken " ++ decimal place ++ 32 ∷ [] ++ byte_text byte ++ 10 ∷ []
cause_line status.LinkFault = codes "link fault" ++ 10 ∷ []
cause_line (status.Exhausted next) = codes "exhausted " ++ decimal next ++ 10 ∷ []
cause_line (status.StoreTaken len) = codes "store taken " ++ decimal len ++ 10 ∷ []
cause_line _ = []

-- The line is a front of another one, and not all of it.
pub record IsFront (line whole : List ℕ) : Type 0 where
  pub count : ℕ
  pub short : count < length whole
  pub same : line ≡ take count whole

-- What was written of a line, by whether a write of it failed.
abbrev pub IsWritten : Bool → List ℕ → List ℕ → Type 0
IsWritten false whole line = line ≡ whole
IsWritten true whole line = IsFront line whole

-- What a run answers, by whether the line of its first cause could be written.
abbrev pub answer_for : Bool → Status → Status
answer_for false first = first
answer_for true first = status.WriteFault

-- The line of the first cause was written, and the answer is that cause; or a front of the line was, and the answer is
-- that a write failed.
abbrev pub Says : Bool → Status → List ℕ → Status → Type 0
Says failed first line s = (s ≡ answer_for failed first) × IsWritten failed (cause_line first) line

-- How the loop over a text ended.
abbrev pub RunEnd : Type 0 → Type 0
RunEnd C = Result (Unit {0}) (Stop C)

-- The status of a run over a text that ended so, where a line that is refused has this one, by its number and its cause.
abbrev pub status_by : {C : Type 0} → (ℕ → C → Status) → RunEnd C → Status
status_by refusal (Ok _) = status.Ok
status_by refusal (Err (stop.Refused line cause)) = refusal line cause
status_by refusal (Err stop.ReadFault) = status.ReadFault
status_by refusal (Err stop.WriteFault) = status.WriteFault
status_by refusal (Err stop.OutOfMemory) = status.OutOfMemory

-- The status of a line that is refused for a bad word.
abbrev pub for_word : ℕ → BadWord → Status
for_word line word = status.BadInput line word

-- The status of a line that a recorded text refuses.
abbrev pub for_cause : ℕ → Cause → Status
for_cause line (causes.Bad word) = status.BadInput line word
for_cause line (causes.Forged who body) = status.Forged line who body

-- The status of a run over a text that is refused for nothing else than bad words.
abbrev pub status_of : RunEnd BadWord → Status
status_of ended = status_by for_word ended

-- The status of a command of an authority that ended so.
abbrev pub status_of_halt : Result (Unit {0}) Halt → Status
status_of_halt (Ok _) = status.Ok
status_of_halt (Err (halt.Refused line word)) = status.BadInput line word
status_of_halt (Err halt.ReadFault) = status.ReadFault
status_of_halt (Err halt.WriteFault) = status.WriteFault
status_of_halt (Err halt.StoreFault) = status.StoreFault
status_of_halt (Err (halt.StoreBroken place byte)) = status.StoreBroken place byte
status_of_halt (Err (halt.StoreTaken len)) = status.StoreTaken len
status_of_halt (Err (halt.Exhausted next)) = status.Exhausted next
status_of_halt (Err halt.OutOfMemory) = status.OutOfMemory

-- The status of a member's run that ended so.
abbrev pub status_of_node : Result (Unit {0}) NodeHalt → Status
status_of_node (Ok _) = status.Ok
status_of_node (Err (node.Refused line word)) = status.BadInput line word
status_of_node (Err node.ReadFault) = status.ReadFault
status_of_node (Err node.WriteFault) = status.WriteFault
status_of_node (Err node.StoreFault) = status.StoreFault
status_of_node (Err (node.StoreBroken place byte)) = status.StoreBroken place byte
status_of_node (Err node.LinkFault) = status.LinkFault
status_of_node (Err (node.Exhausted next)) = status.Exhausted next
status_of_node (Err node.OutOfMemory) = status.OutOfMemory
