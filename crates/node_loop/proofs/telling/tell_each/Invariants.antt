use Rattle.std.proofs.Common.{◌≡◌, ℕ, true, List, ◌++◌, Option, take}
use Rattle.signer.specs.Lives.{Spent}
use Rattle.node_loop.proofs.SendLemmas.{HasTold}
use Rattle.node_core.specs.Spending.{spent_told}
use Rattle.node_loop.specs.Gathering.{OwesSpent}
use Rattle.node_loop.proofs.telling.tell_each.Given as goal

abbrev pub invariant-loop-event : goal.invariant-loop-event
invariant-loop-event g l = record {
  writable : (g.O.Sink.state l.out).is_open ≡ true;
  calm : (g.O.Sink.state l.out).faults ≡ (g.O.Sink.state l.initial.out).faults;
  told : HasTold l.node (take l.event-index l.events) (g.L.Link.state l.initial.link).contents (g.L.Link.state l.link).contents (g.O.Sink.state l.initial.out).taken (g.O.Sink.state l.out).taken l.initial.sent l.sent l.initial.lines.items l.lines.items;
  spent : (spent : List Spent) (before : Option (List ℕ)) (count : ℕ) → OwesSpent spent before (g.O.Sink.state l.initial.out).taken l.initial.lines.items count (g.L.Link.state l.initial.link).faults
      → OwesSpent (spent ++ spent_told (take l.event-index l.events)) before (g.O.Sink.state l.out).taken l.lines.items count (g.L.Link.state l.link).faults;
}
