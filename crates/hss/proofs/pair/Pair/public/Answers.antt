use Rattle.std.proofs.Common.{◌∙◌, ap}
use Rattle.lms_tree.specs.Lms as lms
use Rattle.hss.specs.Keys.{is_in_profile}
use Rattle.hss.proofs.pair.Pair.public.Goals as goal

pub invariant_of-result : goal.invariant_of-result
unfolding lms.public_of
invariant_of-result c =
    ap (λ k. is_in_profile k.ots) c.public.ensures ∙ ap (λ s. is_in_profile s.ots) c.self.invariant.2 ∙ c.self.invariant.1
