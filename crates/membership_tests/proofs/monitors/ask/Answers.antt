use Rattle.std.proofs.Common.{◌≡◌, ℕ, zero, ◌+◌, ◌-◌, ◌*◌, ◌^◌, ◌<◌, ◌≤◌, inl, inr, length, arith}
use Rattle.std.proofs.Math.Nat.{pow-le-pow_right}
use Rattle.std.proofs.lemmas.Bool.{cases_lt}
use Rattle.membership_tests.proofs.monitors.ask.Goals as goal

nine : (n before after : ℕ) → n ≡ 511 → before ≤ after → 2 ^ (after - before) ≤ 2 * n + 1 → n + 2 ≤ 2 * 2 ^ (after - before) → after ≡ before + 9
nine n before after many counted most least =
    let some : zero < 2 = omega arith in
    let upto : after - before ≤ 9 = elim (cases_lt 9 (after - before)) [
      | inl more ↦ let far : 2 ^ 10 ≤ 2 ^ (after - before) = pow-le-pow_right some more in absurd (omega arith)
      | inr le ↦ le
    ] in
    let from : 9 ≤ after - before = elim (cases_lt (after - before) 9) [
      | inl fewer ↦ let few : after - before ≤ 8 = omega arith in let near : 2 ^ (after - before) ≤ 2 ^ 8 = pow-le-pow_right some few in absurd (omega arith)
      | inr le ↦ le
    ] in
    omega arith

pub returns : goal.returns
returns g c = nine (length c.args.rings.now.members) c.args.steps.now c.monitor_counted.new.steps c.requires.many c.monitor_counted.ensures.counted c.monitor_counted.ensures.most c.monitor_counted.ensures.least
