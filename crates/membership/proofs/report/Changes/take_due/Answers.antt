use Rattle.std.proofs.Common.{◌∙◌, ap, refl, length, arith, List, not}
use Rattle.std.proofs.lemmas.List.Filters.{length-filter_both}
use Rattle.ff_ids.specs.declared.AccBody.{AccBody}
use Rattle.ff_ids.specs.Steps.{Report, is_due}
use Rattle.membership.proofs.report.Changes.take_due.Goals as goal

pub due-requires : goal.due-requires
due-requires c =
    let empty = ap (λ (r : Report). length r.expired) c.self.view_is ∙ ap (λ (xs : List AccBody). length xs) c.requires.empty in
    let both = length-filter_both (is_due c.args.timers.now.timeout c.args.moment) (λ p. not (is_due c.args.timers.now.timeout c.args.moment p)) (λ p. refl) c.args.timers.now.entries in
    omega (arith, empty, both, c.requires.few, c.self.invariant.all_expired, c.self.inside.expired.ok.0)
