use Rattle.std.proofs.Common.{◌≡◌, false, List, ◌++◌}
use Rattle.journal.specs.declared.event.Event as journal
use Rattle.records.specs.declared.Record.{Record}
use Rattle.node_rules.specs.Nodes.{Setting}
use Rattle.node_rules.specs.Calls.{Call}
use Rattle.audit_node.specs.Playing.{Kept, IsAt}
use Rattle.audit_node.specs.Noted.{HoldsNotes}
use Rattle.audit_node.specs.Rolls.{with_roll, AreApart, AreNew, takes_all}
use Rattle.audit_node.specs.declared.roll.Roll.{Roll}
use Rattle.audit_node.proofs.RollLemmas.{recs, IsFresh}
use Rattle.std.specs.List.{AllByRecursion}
use Rattle.records.specs.Signing.{CheckedRecord}
use Rattle.audit_node.proofs.roll.Roll.take_all.Given as goal

-- so many were taken, and the others are new
pub record Took (first now : Roll) (yielded rest all : List CheckedRecord) : Type 0 where
  pub parts : yielded ++ rest ≡ all
  pub group : now.membership.group ≡ first.membership.group
  pub notes : HoldsNotes now.membership now.records
  pub apart : AreApart (recs rest)
  pub fresh : AllByRecursion (IsFresh now.roster) (recs rest)
  pub plays : (s : Setting) (es : List journal.Event) (v : Kept) (c : Call) (later : List Record) → IsAt s es (with_roll v first) c
      → v.group ≡ first.membership.group → v.telling.failed ≡ false → AreNew s c (recs yielded ++ later)
      → IsAt s es (with_roll v now) (takes_all s (recs yielded) c) × AreNew s (takes_all s (recs yielded) c) later

abbrev pub invariant-loop-rec : goal.invariant-loop-rec
invariant-loop-rec l = Took l.initial.self l.self l.yielded l.rec-iterator.rest.items l.fn.certificates.items
