-- How modelled contents join, call after call.
use Rattle.std.proofs.Common.{◌≡◌, ℕ, ◌+◌, ◌-◌, ◌≤◌, Option, None, Some, List, ◌++◌, length, take, drop, Result, Ok, Err, refl, arith, length-append, subst, sym, ap}
use Rattle.std.proofs.Math.Seq.{take-add, drop-append_seam, take-append_seam, take-append-add}
use Rattle.std.proofs.KnownBytes.{Appends-trans, Consumes-trans}
use Rattle.std.proofs.lemmas.Slice.{between_to_end}
use Rattle.std.proofs.lemmas.List.{take-append-le}
use Rattle.std.specs.Io.KnownBytes.{Appends, Consumes}
use Rattle.ports.specs.Contents.{TookFront, Wrote}

-- a piece written up to a place, and then a front of its rest
pub Appends-rest : (taken before after : Option (List ℕ)) (bytes : List ℕ) (at n : ℕ) → Appends taken before (take at bytes) → Appends before after (take n (take (length bytes - at) (drop at bytes))) → Appends taken after (take (at + n) bytes)
Appends-rest taken before after bytes at n was now =
    let whole : take (length bytes - at) (drop at bytes) ≡ drop at bytes = between_to_end bytes at (length bytes) (omega arith) in
    let more : take at bytes ++ take n (drop at bytes) ≡ take (at + n) bytes = sym (take-add at n bytes) in
    let next : Appends before after (take n (drop at bytes)) = subst (λ rest. Appends before after (take n rest)) whole now in
    subst (Appends taken after) more (Appends-trans taken before after _ _ was next)

-- the bytes in front of modelled contents, and those left behind them
pub Consumes-left : (bytes front : List ℕ) (after : Option (List ℕ)) → Consumes (Some bytes) after front → after ≡ Some (drop (length front) bytes)
Consumes-left bytes front None is = absurd is
Consumes-left bytes front (Some left) is = rw (is, drop-append_seam front left) refl

pub Consumes-front : (bytes front : List ℕ) (after : Option (List ℕ)) → Consumes (Some bytes) after front → front ≡ take (length front) bytes
Consumes-front bytes front None is = absurd is
Consumes-front bytes front (Some left) is = rw (is, take-append_seam front left) refl

-- the bytes taken before these, and then with them
pub Appends-told : (before bytes : List ℕ) (after : Option (List ℕ)) → Appends (Some before) after bytes → after ≡ Some (before ++ bytes)
Appends-told before bytes None is = absurd is
Appends-told before bytes (Some taken) is = ap Some is

-- a front of a slice is one of a longer slice
pub TookFront-longer : (before after : Option (List ℕ)) (a b : List ℕ) → TookFront before after a → TookFront before after (a ++ b)
TookFront-longer before after a b took = record {
  count = took.count;
  short = omega (arith, length-append a b, took.short);
  gained = let h : took.count ≤ length a = omega (arith, took.short) in rw (take-append-le took.count a b h) took.gained;
}

-- a slice written whole, and then a front of another
pub TookFront-later : (before middle after : Option (List ℕ)) (a b : List ℕ) → Appends before middle a → TookFront middle after b → TookFront before after (a ++ b)
TookFront-later before middle after a b whole took = record {
  count = length a + took.count;
  short = omega (arith, length-append a b, took.short);
  gained = rw (take-append-add a b took.count) (Appends-trans before middle after _ _ whole took.gained);
}

-- what a second write gained, from where the first one began
pub Wrote-later : {T E : Type 0} → (before middle after : Option (List ℕ)) (a b : List ℕ) (result : Result T E) → Appends before middle a → Wrote middle after b result → Wrote before after (a ++ b) result
Wrote-later before middle after a b (Ok _) whole wrote = Appends-trans before middle after a b whole wrote
Wrote-later before middle after a b (Err _) whole wrote = TookFront-later before middle after a b whole wrote

-- writes after one another, for functions that make them
pub ruleset writes = (Wrote-later, TookFront-longer, Appends-trans)
