use Rattle.std.proofs.Common.{subst, sym}
use Rattle.audit_node.specs.Playing.{Plays}
use Rattle.audit_node.specs.contracts.Mirror.{the_view}
use Rattle.audit_node.specs.Told.{Adds, with_report}
use Rattle.ff_ids.specs.Steps.{Ticks}
use Rattle.audit_node.proofs.PlayLemmas.{lives-plays, tick-steps}
use Rattle.std.proofs.Common.{◌∙◌}
use Rattle.audit_node.proofs.NotedLemmas.{still, newest-same, notes-ended}
use Rattle.audit_node.proofs.Mirror.live_tick.Goals as goal

pub returns-clause-plays : goal.returns-clause-plays
returns-clause-plays c = λ s es call p.
    let steps = tick-steps c.self.inside.group c.self.inside.membership c.tick.new.self c.tick.new.out c.self.invariant.membership_group c.tick.ensures.step c.tick.ensures.changes in
    lives-plays s es (the_view c.self.inside) call Ticks c.tick.new.self c.report.new.records c.report.new.telling c.tick.new.out
    (subst (λ v. Plays s es v call) (sym c.self.view_is) p) steps c.report.ensures.records (subst (λ m. Adds (with_report m c.tick.new.out) c.self.inside.telling c.report.new.telling) c.now.ensures.moment c.report.ensures.told)

pub invariant_of-self : goal.invariant_of-self
invariant_of-self c =
    let i = c.self.invariant in
    let steps = tick-steps c.self.inside.group c.self.inside.membership c.tick.new.self c.tick.new.out i.membership_group c.tick.ensures.step c.tick.ensures.changes in
    record {
      some = i.some;
      few = i.few;
      period = i.period;
      timeout = i.timeout;
      membership_group = c.tick.ensures.group ∙ i.membership_group;
      detector_group = i.detector_group;
      within = i.within;
      risen = i.risen;
      joined = still c.self.inside.membership c.tick.new.self c.self.inside.me c.tick.ensures.members i.joined;
      allowed = i.allowed;
      notes = notes-ended c.self.inside.heal c.self.inside.group Ticks c.self.inside.membership c.tick.new.self c.tick.new.out c.self.inside.records c.report.new.records steps (λ m. tt) c.report.ensures.records i.notes;
      newest_own = newest-same c.self.inside.group Ticks c.self.inside.membership c.tick.new.self c.tick.new.out c.self.inside.records c.self.inside.me steps i.notes tt ∙ i.newest_own;
    }
