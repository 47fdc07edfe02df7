use Rattle.std.proofs.Common.{ℕ, ◌≤◌, subst, sym}
use Rattle.record_slots.specs.Picks.{held_all}
use Rattle.record_slots.proofs.PickLemmas.{fitting-few}
use Rattle.audit_set.specs.Knowns.{long}
use Rattle.audit_set.proofs.LongLemmas.{some_long}
use Rattle.audit_set.proofs.AuditSet.fitting.Goals as goal

pub returns-clause-few : goal.returns-clause-few
returns-clause-few c =
    let P : ℕ → Type 0 = λ n. n ≤ c.args.room in
    subst P (sym c.fitting.ensures.count) (fitting-few long c.args.room (held_all c.self.inside.slots c.args.keys.now) some_long)
