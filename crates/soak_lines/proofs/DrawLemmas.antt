-- A draw from the words of a generator is below its bound, and leaves the words of a generator.
use Rattle.std.proofs.Common.{◌≡◌, ℕ, ◌+◌, ◌-◌, ◌*◌, ◌/◌, ◌%◌, ◌^◌, ◌<◌, ◌≤◌, Bool, true, false, cond, leb, ltb, refl, sym, ap, subst, arith, ltb-true}
use Rattle.std.proofs.lemmas.Nat.{mul-le}
use Rattle.rand_core.specs.Steps.{stream_of}
use Rattle.rand_core.specs.Stream.{Stream, next_u32}
use Rattle.rand.specs.Uniform.{canon}
use Rattle.rand.proofs.UniformLemmas.{carry_room}
use Rattle.rand_chacha.specs.Block.{block_word}
use Rattle.rand_chacha.specs.ChaCha.{ChaCha, next_word}
use Rattle.soak_lines.specs.Workload.{draw, words_of}

-- the generator behind the next word
abbrev behind_word : ChaCha → ChaCha
behind_word g = (next_word 10 g).1

next_is : (g : ChaCha) → next_u32 (words_of g) ≡ ((next_word 10 g).0, words_of (behind_word g))
unfolding next_u32 stream_of
next_is g = refl

word_small : (g : ChaCha) → (next_word 10 g).0 < 2 ^ 32
unfolding block_word
word_small g = omega arith

-- It is what some generator will answer.
pub record AreWords (words : Stream) : Type 0 where
  pub generator : ChaCha
  pub same : words ≡ words_of generator

pub record IsDrawn (bound : ℕ) (drawn : ℕ × Stream) : Type 0 where
  pub below : drawn.0 < bound
  pub left : AreWords drawn.1

either_below : (b : Bool) (x y bound : ℕ) → x < bound → y < bound → cond b x y < bound
either_below true x y bound p q = p
either_below false x y bound p q = q

-- the upper part of a product with a word is below the bound
upper_below : (bound w : ℕ) → w < 2 ^ 32 → 0 < bound → w * bound / 2 ^ 32 < bound
upper_below bound w small some =
    let most : w * bound ≤ (2 ^ 32 - 1) * bound = mul-le w bound (2 ^ 32 - 1) bound (omega arith) (omega arith) in
    omega (arith, most)

by_test : (bound w : ℕ) (g : ChaCha) (b : Bool) → ltb (2 ^ 32 - bound) (w * bound % 2 ^ 32) ≡ b → w < 2 ^ 32 → 0 < bound → bound ≤ 2 ^ 32
    → IsDrawn bound (cond b
    (cond (leb (2 ^ 32) (w * bound % 2 ^ 32 + (next_u32 (words_of g)).0 * bound / 2 ^ 32)) (w * bound / 2 ^ 32 + 1) (w * bound / 2 ^ 32), (next_u32 (words_of g)).1)
    (w * bound / 2 ^ 32, words_of g))
by_test bound w g true is small some wide =
    let high = w * bound / 2 ^ 32 in
    let low = w * bound % 2 ^ 32 in
    let carried : 2 ^ 32 - bound < low = ltb-true (2 ^ 32 - bound) low is in
    let product : high * 2 ^ 32 + low ≡ w * bound = omega arith in
    let room : high + 1 < bound = carry_room (2 ^ 32) bound w high low small product carried wide in
    record {
      below = either_below (leb (2 ^ 32) (low + (next_u32 (words_of g)).0 * bound / 2 ^ 32)) (high + 1) high bound room (omega (arith, room));
      left = record { generator = behind_word g; same = ap (λ (p : ℕ × Stream). p.1) (next_is g) };
    }
by_test bound w g false is small some wide =
    record { below = upper_below bound w small some; left = record { generator = g; same = refl } }

drawn_by : (bound : ℕ) (g : ChaCha) → 0 < bound → bound ≤ 2 ^ 32 → IsDrawn bound (draw bound (words_of g))
unfolding canon
drawn_by bound g some wide =
    rw (next_is g) (by_test bound (next_word 10 g).0 (behind_word g) (ltb (2 ^ 32 - bound) ((next_word 10 g).0 * bound % 2 ^ 32)) refl (word_small g) some wide)

pub drawn : (bound : ℕ) (words : Stream) → 0 < bound → bound ≤ 2 ^ 32 → AreWords words → IsDrawn bound (draw bound words)
drawn bound words some wide are =
    subst (λ (s : Stream). IsDrawn bound (draw bound s)) (sym are.same) (drawn_by bound are.generator some wide)
