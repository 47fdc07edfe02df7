-- How many steps a search by halving takes.
use Rattle.std.proofs.Common.{◌≡◌, ℕ, suc, ◌+◌, ◌-◌, ◌*◌, ◌^◌, ◌<◌, ◌≤◌, ap, ◌∙◌, arith}
use Rattle.std.proofs.Math.Nat.{pow-succ', mul-le-mul_left, mul_assoc, mul_comm}

pub power_more : (a b : ℕ) → a ≤ b → 2 ^ (b + 1 - a) ≡ 2 * 2 ^ (b - a)
power_more a b le =
    let e : b + 1 - a ≡ suc (b - a) = omega arith in
    ap (λ n. 2 ^ n) e ∙ pow-succ' 2 (b - a)

-- p is the power of two of the steps so far, s what was left before the next and s' after it, of n in all
pub left_more : (p s s' n : ℕ) → p * s ≤ n → 2 * s' ≤ s → (2 * p) * s' ≤ n
left_more p s s' n h half =
    let a : p * (2 * s') ≤ p * s = mul-le-mul_left p half in
    let b : (2 * p) * s' ≡ p * (2 * s') = ap (λ x. x * s') (mul_comm 2 p) ∙ mul_assoc p 2 s' in
    omega arith

pub most_more : (p s n : ℕ) → p * s ≤ n → 0 < s → 2 * p ≤ 2 * n + 1
most_more p s n h some =
    let a : p * 1 ≤ p * s = mul-le-mul_left p some in
    omega arith

pub least_more : (p s s' n : ℕ) → n < p * (s + 1) → s ≤ 2 * s' + 1 → n < (2 * p) * (s' + 1)
least_more p s s' n h half =
    let a : p * (s + 1) ≤ p * (2 * (s' + 1)) = mul-le-mul_left p (omega arith) in
    let b : (2 * p) * (s' + 1) ≡ p * (2 * (s' + 1)) = ap (λ x. x * (s' + 1)) (mul_comm 2 p) ∙ mul_assoc p 2 (s' + 1) in
    omega arith
