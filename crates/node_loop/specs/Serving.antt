-- How a life is served, by the answer.
use Rattle.std.specs.Prelude.{◌≡◌, ℕ, ◌⊎◌, true, List, ◌∷◌, ◌++◌, Option, Some, Result, Ok, Err}
use Rattle.records.specs.declared.CertBody.{CertBody}
use Rattle.signer.specs.Lives.{Spent}
use Rattle.validate.specs.Certified.{certificate_of as kept_certificate}
use Rattle.node_rules.specs.Nodes.{Setting, Node, certificate_of}
use Rattle.node_rules.specs.Calls.{Call}
use Rattle.node_rules.specs.OnDisks.{Input, IsCut}
use Rattle.node_rules.specs.Lives.{call_of}
use Rattle.node_loop.specs.declared.fault.ServeFault.{ServeFault}
use Rattle.node_loop.specs.declared.fault.ServeFault.TheVariants as faults
use Rattle.turn_rules.specs.Turns.{Act, Calls}
use Rattle.node_loop.specs.Turns.{Outlook}
use Rattle.node_loop.specs.Courses.{ServeState, gives, served, tells_all}
use Rattle.node_loop.specs.Writing.{Before, IsBeyond, IsWithin, Standing, Stands}

-- The course up to a call in which the disk fails, and what that call gives.
pub record IsStopped (s : Setting) (acts : List Act) (start whole : ServeState) : Type 0 where
  pub done : List Act
  pub input : Input
  pub later : List Act
  pub call : Call
  pub split : acts ≡ done ++ Calls input ∷ later
  pub cut : IsCut s (served s done start).node input call
  pub is : whole ≡ gives call (served s done start)

-- The course of all acts, or up to a failing disk.
abbrev pub IsWhole : Setting → List Act → ServeState → ServeState → Type 0
IsWhole s acts start whole = (whole ≡ served s acts start) ⊎ IsStopped s acts start whole

-- The node has come to this, and has made these signatures.
abbrev pub starves : Node → List Spent → ServeState → ServeState
starves there spent r = record r { node = there; spent = r.spent ++ spent }

-- It stands where a stopped course does.
pub record StandsStopped (s : Setting) (before : Before) (acts : List Act) (start : ServeState) (w : Standing) : Type 0 where
  pub whole : ServeState
  pub stopped : IsStopped s acts start whole
  pub at : Stands s before w whole

-- What was written and given to the link is a front of what a course writes and gives.
pub record BreaksOff (s : Setting) (before : Before) (acts : List Act) (start : ServeState) (w : Standing) : Type 0 where
  pub whole : ServeState
  pub is : IsWhole s acts start whole
  pub within : IsWithin before w whole

-- Each certificate that the course's node held is kept.
abbrev pub KeepsHeld : ServeState → Standing → Type 0
KeepsHeld r w = (m : ℕ) (c : CertBody) → certificate_of r.node m ≡ Some c → kept_certificate w.node.roster m ≡ Some c

-- Memory was refused in a call of the node, which is over. What came before the call stands in front, and of what the
-- whole call would report a front was reported, with the ports in the certificates that the node keeps: those that it held
-- before are among them.
pub record IsStarved (s : Setting) (before : Before) (acts : List Act) (start : ServeState) (w : Standing) : Type 0 where
  pub done : List Act
  pub input : Input
  pub later : List Act
  pub split : acts ≡ done ++ Calls input ∷ later
  pub over : w.node.ended ≡ true
  pub beyond : IsBeyond before w (served s done start)
  pub there : Node
  pub knows : (m : ℕ) → kept_certificate w.node.roster m ≡ certificate_of there m
  pub holds : KeepsHeld (served s done start) w
  pub spent : List Spent
  pub within : IsWithin before w (tells_all (call_of s (served s done start).node input).told (starves there spent (served s done start)))

-- All acts were done; or the disk failed in one of the calls, and what that gave was still reported; or a write failed, or
-- memory was refused, and it broke off somewhere.
abbrev pub Serves : Setting → Before → List Act → ServeState → Standing → Result (Unit {0}) ServeFault → Type 0
Serves s before acts start w (Ok done) = Stands s before w (served s acts start)
Serves s before acts start w (Err faults.StoreFault) = StandsStopped s before acts start w
Serves s before acts start w (Err faults.WriteFault) = BreaksOff s before acts start w ⊎ IsStarved s before acts start w
Serves s before acts start w (Err faults.OutOfMemory) = BreaksOff s before acts start w ⊎ IsStarved s before acts start w

-- The outlook is that of the link in this course, of a clock that is modelled, and of so many ticks made.
pub record Sees (o : Outlook) (r : ServeState) (last : ℕ) (coming : Option (List ℕ)) (ticks : ℕ) : Type 0 where
  pub heard : r.link.coming ≡ o.heard
  pub reading : last ≡ o.reading
  pub readings : coming ≡ Some o.readings
  pub made : ticks ≡ o.made
