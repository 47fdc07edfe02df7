use Rattle.std.proofs.Common.{◌≡◌, true, subst, sym}
use Rattle.ff_ids.specs.declared.Mask.{Mask}
use Rattle.ff_ids.specs.Masks.{good_mask}
use Rattle.rebuttal.proofs.Masks.{all_rings-good}
use Rattle.audit_node.proofs.starting.first_mask.Goals as goal

pub returns-clause-good : goal.returns-clause-good
returns-clause-good c = subst (λ (m : Mask). good_mask c.args.group.now.t m.0 ≡ true) (sym c.all_rings.ensures.value) (all_rings-good c.args.group.now.t)
