use Rattle.std.proofs.Common.{subst}
use Rattle.ff_ids.specs.Steps.{Report}
use Rattle.ff_ids.specs.declared.AccBody.{AccBody}
use Rattle.std.proofs.Common.{List, ℕ}
use Rattle.journal.specs.declared.event.What.TheVariants as kinds
use Rattle.audit_node.specs.Told.{Adds, with_each}
use Rattle.audit_node.proofs.TellingLemmas.{changes-told}
use Rattle.audit_node.proofs.telling.CallOutput.tell_changes.Goals as goal

pub returns : goal.returns
returns c =
    let r : Report = c.args.changes.now in
    changes-told c.args.moment r c.args.self.now c.tell_expired.new.self c.tell_removed.new.self c.tell_entered.new.self c.tell_fell.new.self
    (subst (λ (xs : List AccBody). Adds (with_each c.args.moment kinds.Expired xs) c.args.self.now c.tell_expired.new.self) c.expired.ensures c.tell_expired.ensures)
    (subst (λ (xs : List ℕ). Adds (with_each c.args.moment kinds.Removed xs) c.tell_expired.new.self c.tell_removed.new.self) c.removed.ensures c.tell_removed.ensures)
    (subst (λ (xs : List ℕ). Adds (with_each c.args.moment kinds.Entered xs) c.tell_removed.new.self c.tell_entered.new.self) c.entered.ensures c.tell_entered.ensures)
    (subst (λ (xs : List AccBody). Adds (with_each c.args.moment kinds.Fell xs) c.tell_entered.new.self c.tell_fell.new.self) c.fell.ensures c.tell_fell.ensures)
