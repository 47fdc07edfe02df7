use Rattle.std.proofs.Common.{◌≡◌, ℕ, true, false, arith, refl, rules, sym, ap, ◌∙◌}
use Rattle.ff_ids.specs.Masks.{good_mask}
use Rattle.rebuttal.proofs.Switching.{switch, switch_off}
use Rattle.rebuttal.proofs.Answering.{IsAsked, IsFull, good_parts, again, in_group, without_exact, again_exact, again_lacks, again_good, not_all}
use Rattle.rebuttal.proofs.Masks.{answering-is, lowest-to}
use Rattle.rebuttal.proofs.answer_mask.Goals as goal

pub switched-without-requires : goal.switched-without-requires
switched-without-requires c =
    let asked : IsAsked c.args.t c.args.mask.0 c.args.ring.0 = record { some = c.requires.tolerance.0; good = c.requires.good; on = c.requires.enabled } in
    omega (arith, in_group _ _ _ asked, c.requires.tolerance.1)

pub returns-then-good_mask-clause-lacks : goal.returns-then-good_mask-clause-lacks
returns-then-good_mask-clause-lacks c = rw c.switched-without.ensures (switch_off c.args.mask.0 c.args.ring.0 c.requires.enabled)

pub returns-then-good_mask-clause-exact : goal.returns-then-good_mask-clause-exact
returns-then-good_mask-clause-exact c =
    let asked : IsAsked c.args.t c.args.mask.0 c.args.ring.0 = record { some = c.requires.tolerance.0; good = c.requires.good; on = c.requires.enabled } in
    let fine : good_mask c.args.t c.switched-without.result.0 ≡ true = search rules in
    let better : good_mask c.args.t (switch c.args.mask.0 c.args.ring.0) ≡ true = ap (good_mask c.args.t) (sym c.switched-without.ensures) ∙ fine in
    c.switched-without.ensures
    ∙ answering-is c.args.t c.args.mask.0 c.args.ring.0 (switch c.args.mask.0 c.args.ring.0) (good_parts c.args.t (switch c.args.mask.0 c.args.ring.0) better).fits
    (λ r lt. without_exact c.args.t c.args.mask.0 c.args.ring.0 r asked better)

pub returns-in-Some-clause-good : goal.returns-in-Some-clause-good
returns-in-Some-clause-good c =
    let asked : IsAsked c.args.t c.args.mask.0 c.args.ring.0 = record { some = c.requires.tolerance.0; good = c.requires.good; on = c.requires.enabled } in
    let poor : good_mask c.args.t c.switched-without.result.0 ≡ false = search rules in
    let worse : good_mask c.args.t (switch c.args.mask.0 c.args.ring.0) ≡ false = ap (good_mask c.args.t) (sym c.switched-without.ensures) ∙ poor in
    let full : IsFull c.args.t c.args.mask.0 c.args.ring.0 c.in-Some.lowest.0 = record { asked = asked; bad = worse; within = c.in-Some.ensures.0; lowest = lowest-to _ _ c.in-Some.ensures.1 } in
    rw (c.switched.ensures, c.switched-without.ensures) (again_good _ _ _ _ full)

pub returns-in-Some-clause-lacks : goal.returns-in-Some-clause-lacks
returns-in-Some-clause-lacks c =
    let asked : IsAsked c.args.t c.args.mask.0 c.args.ring.0 = record { some = c.requires.tolerance.0; good = c.requires.good; on = c.requires.enabled } in
    let poor : good_mask c.args.t c.switched-without.result.0 ≡ false = search rules in
    let worse : good_mask c.args.t (switch c.args.mask.0 c.args.ring.0) ≡ false = ap (good_mask c.args.t) (sym c.switched-without.ensures) ∙ poor in
    let full : IsFull c.args.t c.args.mask.0 c.args.ring.0 c.in-Some.lowest.0 = record { asked = asked; bad = worse; within = c.in-Some.ensures.0; lowest = lowest-to _ _ c.in-Some.ensures.1 } in
    rw (c.switched.ensures, c.switched-without.ensures) (again_lacks _ _ _ _ full)

pub returns-in-Some-clause-exact : goal.returns-in-Some-clause-exact
returns-in-Some-clause-exact c =
    let asked : IsAsked c.args.t c.args.mask.0 c.args.ring.0 = record { some = c.requires.tolerance.0; good = c.requires.good; on = c.requires.enabled } in
    let poor : good_mask c.args.t c.switched-without.result.0 ≡ false = search rules in
    let worse : good_mask c.args.t (switch c.args.mask.0 c.args.ring.0) ≡ false = ap (good_mask c.args.t) (sym c.switched-without.ensures) ∙ poor in
    let full : IsFull c.args.t c.args.mask.0 c.args.ring.0 c.in-Some.lowest.0 = record { asked = asked; bad = worse; within = c.in-Some.ensures.0; lowest = lowest-to _ _ c.in-Some.ensures.1 } in
    let m : ℕ = again c.args.mask.0 c.args.ring.0 c.in-Some.lowest.0 in
    let is : c.switched.result.0 ≡ m = rw (c.switched.ensures, c.switched-without.ensures) refl in
    is
    ∙ answering-is c.args.t c.args.mask.0 c.args.ring.0 m (good_parts c.args.t m (again_good c.args.t c.args.mask.0 c.args.ring.0 c.in-Some.lowest.0 full)).fits
    (λ r lt. again_exact c.args.t c.args.mask.0 c.args.ring.0 c.in-Some.lowest.0 r full)

pub returns-in-None-clause-good : goal.returns-in-None-clause-good
returns-in-None-clause-good c =
    let asked : IsAsked c.args.t c.args.mask.0 c.args.ring.0 = record { some = c.requires.tolerance.0; good = c.requires.good; on = c.requires.enabled } in
    let poor : good_mask c.args.t c.switched-without.result.0 ≡ false = search rules in
    let worse : good_mask c.args.t (switch c.args.mask.0 c.args.ring.0) ≡ false = ap (good_mask c.args.t) (sym c.switched-without.ensures) ∙ poor in
    not_all c.args.t c.args.mask.0 c.args.ring.0 asked worse c.in-None.ensures

pub returns-in-None-clause-lacks : goal.returns-in-None-clause-lacks
returns-in-None-clause-lacks c = rw c.switched-without.ensures (switch_off c.args.mask.0 c.args.ring.0 c.requires.enabled)

pub returns-in-None-clause-exact : goal.returns-in-None-clause-exact
returns-in-None-clause-exact c =
    let asked : IsAsked c.args.t c.args.mask.0 c.args.ring.0 = record { some = c.requires.tolerance.0; good = c.requires.good; on = c.requires.enabled } in
    let poor : good_mask c.args.t c.switched-without.result.0 ≡ false = search rules in
    let worse : good_mask c.args.t (switch c.args.mask.0 c.args.ring.0) ≡ false = ap (good_mask c.args.t) (sym c.switched-without.ensures) ∙ poor in
    not_all c.args.t c.args.mask.0 c.args.ring.0 asked worse c.in-None.ensures
