-- The journal of a life, and how the writing and serving of it went, by the answer.
use Rattle.std.specs.Prelude.{◌≡◌, ℕ, ◌⊎◌, List, ◌++◌, Option, Some, None, Result, Ok, Err}
use Rattle.std.specs.Io.KnownBytes.{Appends}
use Rattle.epoch_store.specs.declared.Stored.{Stored}
use Rattle.journal.specs.declared.event.Event as journal
use Rattle.ports.specs.Contents.{TookFront}
use Rattle.ports.specs.Count.{Rose}
use Rattle.ports.specs.Link.{LinkState}
use Rattle.node_rules.specs.Nodes.{Setting}
use Rattle.node_core.specs.Playing.{IsNode, Kept}
use Rattle.node_core.specs.Spending.{LivesOn}
use Rattle.node_core.specs.Told.{IsPrefix}
use Rattle.node_loop.specs.declared.fault.ServeFault.{ServeFault}
use Rattle.node_loop.specs.declared.fault.ServeFault.TheVariants as serve
use Rattle.turn_rules.specs.Turns.{Act}
use Rattle.node_loop.specs.Turns.{life_acts, pace_for}
use Rattle.node_loop.specs.Courses.{ServeState, served, served_from}
use Rattle.turn_rules.specs.Courses.{datagram_in}
use Rattle.turn_rules.specs.Lines.{lines_of}
use Rattle.turn_rules.specs.Journals.{end_line}
use Rattle.node_loop.specs.Serving.{IsStopped, Serves}
use Rattle.node_loop.specs.Writing.{before_all, standing}
use Rattle.node_command.specs.declared.halt.NodeHalt.{NodeHalt}
use Rattle.node_command.specs.declared.halt.NodeHalt.TheVariants as halt
use Rattle.node_command.specs.declared.kit.Member.{Member}
use Rattle.node_command.specs.declared.stay.Stay.{Stay}
use Rattle.node_command.specs.Members.{own_port}
use Rattle.node_command.specs.Opening.{setting_for, start_of}
use Rattle.ports.specs.Outside.{OfDisk}

-- ## What is written

-- it reports no datagram
abbrev pub IsUnsent : journal.Event → Type 0
IsUnsent e = datagram_in e.what ≡ None

-- the link, once the member's port is bound
abbrev pub bound_for : Member → LinkState → LinkState
bound_for m link = record link { bound = Some (own_port m) }

-- The course of the member's life from its start on, over so many turns, behind which it may leave: its store keeps this, and these
-- are the answers of the link, and the readings of the clock.
abbrev pub course_of : Member → Stored → Stay → LinkState → ℕ → List ℕ → ServeState
course_of m stored stay link reading readings =
    served (setting_for m) (life_acts (pace_for (setting_for m) m.millis) stay.turns stay.leave link.coming reading readings) (served_from (start_of m stored).node (bound_for m link))

-- The journal: what the start reports, the turns with what they report, and the line `end`.
abbrev pub journal_of : Member → Stored → Stay → LinkState → ℕ → List ℕ → List ℕ
journal_of m stored stay link reading readings =
    lines_of (start_of m stored).told ++ (course_of m stored stay link reading readings).text ++ end_line

-- ## How it went

-- what the sink took, what the link holds, and the disk
pub record Environment : Type 0 where
  pub taken : Option (List ℕ)
  pub link : Option LinkState
  pub disk : OfDisk

abbrev pub environment : Option (List ℕ) → Option LinkState → OfDisk → Environment
environment taken link disk = record { taken = taken; link = link; disk = disk }

-- All was written, and the node and the link are where the course is.
pub record IsLived (s : Setting) (node : Kept) (told : List journal.Event) (r : ServeState) (was now : Environment) : Type 0 where
  pub kept : Kept
  pub is : IsNode s kept r.node
  pub unclosed : kept.signer.closed ≡ node.signer.closed
  pub written : Appends was.taken now.taken (lines_of told ++ r.text ++ end_line)
  pub given : now.link ≡ Some r.link
  pub faults : now.disk.faults ≡ was.disk.faults
  pub key : LivesOn r.spent node.signer kept.signer was.disk.moments now.disk.moments

-- The disk failed in a call of the node: what that gave was still written and sent, and nothing else was.
pub record HasStopped (s : Setting) (node : Kept) (told : List journal.Event) (acts : List Act) (start : ServeState) (was now : Environment) : Type 0 where
  pub whole : ServeState
  pub stopped : IsStopped s acts start whole
  pub kept : Kept
  pub is : IsNode s kept whole.node
  pub written : Appends was.taken now.taken (lines_of told ++ whole.text)
  pub given : now.link ≡ Some whole.link
  pub faults : Rose was.disk.faults now.disk.faults
  pub key : LivesOn whole.spent node.signer kept.signer was.disk.moments now.disk.moments

-- What the start reports was written in part, and nothing else was; no datagram was given to the link.
pub record IsUntold (told : List journal.Event) (start : ServeState) (was now : Environment) : Type 0 where
  pub text : List ℕ
  pub front : IsPrefix text (lines_of told)
  pub written : Appends was.taken now.taken text
  pub link : LinkState
  pub tells : now.link ≡ Some link
  pub given : IsPrefix link.given start.link.given
  pub disk : now.disk ≡ was.disk

-- What the start reports was written, and the serving broke off.
pub record IsUnserved (s : Setting) (node : Kept) (told : List journal.Event) (acts : List Act) (start : ServeState) (was now : Environment) (fault : ServeFault) : Type 0 where
  pub mid : Option (List ℕ)
  pub first : Appends was.taken mid (lines_of told)
  pub kept : Kept
  pub sent : ℕ
  pub broke : Serves s (before_all mid node.signer was.disk.moments) acts start (standing kept now.link now.taken now.disk.moments sent) (Err fault)

-- All but the line `end` was written, and of that a front.
pub record IsUnended (s : Setting) (node : Kept) (told : List journal.Event) (r : ServeState) (was now : Environment) : Type 0 where
  pub mid : Option (List ℕ)
  pub lived : Kept
  pub is : IsNode s lived r.node
  pub written : Appends was.taken mid (lines_of told ++ r.text)
  pub cut : TookFront mid now.taken end_line
  pub given : now.link ≡ Some r.link
  pub key : LivesOn r.spent node.signer lived.signer was.disk.moments now.disk.moments

abbrev pub Lives : Setting → Kept → List journal.Event → List Act → ServeState → Environment → Environment → Result (Unit {0}) NodeHalt → Type 0
Lives s node told acts start was now (Ok done) = IsLived s node told (served s acts start) was now
Lives s node told acts start was now (Err (halt.Refused line w)) = ⊥
Lives s node told acts start was now (Err halt.ReadFault) = ⊥
Lives s node told acts start was now (Err halt.WriteFault) =
    IsUntold told start was now ⊎ IsUnserved s node told acts start was now serve.WriteFault ⊎ IsUnended s node told (served s acts start) was now
Lives s node told acts start was now (Err halt.StoreFault) = HasStopped s node told acts start was now
Lives s node told acts start was now (Err (halt.StoreBroken place byte)) = ⊥
Lives s node told acts start was now (Err halt.LinkFault) = ⊥
Lives s node told acts start was now (Err (halt.Exhausted next)) = ⊥
Lives s node told acts start was now (Err halt.OutOfMemory) = IsUntold told start was now ⊎ IsUnserved s node told acts start was now serve.OutOfMemory
