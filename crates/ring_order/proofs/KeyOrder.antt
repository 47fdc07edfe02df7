-- The order of keys, and how those round a member rank by how near they are to it.
use Rattle.std.proofs.Common.{◌≡◌, ◌≢◌, ℕ, Bool, true, false, not, ◌&&◌, ◌||◌, cond, refl, sym, ap, ◌∙◌}
use Rattle.std.specs.Cmp.{IsTotalOrder}
use Rattle.std.specs.Cmp.Lexicographic.{slice_cmp}
use Rattle.std.specs.Ordering.{nat_cmp, ordering_then, ordering_reverse, then_cmp, on, flip_args, is_lt}
use Rattle.std.specs.declared.cmp.Ordering.{Ordering}
use Rattle.std.specs.declared.cmp.Ordering.TheVariants.{Less, Equal, Greater}
use Rattle.std.proofs.lemmas.Cmp.{nat_cmp_total, nat_list_cmp_total, then_total, on_total, back_total, ranked, by_ranked}
use Rattle.ff_ids.specs.Rings.{Key, key_cmp, is_below, is_between}

pub key_cmp_total : IsTotalOrder key_cmp
key_cmp_total = then_total (on_total (λ (k : Key). k.place) nat_list_cmp_total) (on_total (λ (k : Key). k.number) nat_cmp_total)

-- a tie of both parts
pub then_equal : (a b : Ordering) → ordering_then a b ≡ Equal → (a ≡ Equal) × (b ≡ Equal)
then_equal Less b h = (cc, cc)
then_equal Equal b h = (refl, h)
then_equal Greater b h = (cc, cc)

pub nat_cmp_equal : (a b : ℕ) → nat_cmp a b ≡ Equal → a ≡ b
nat_cmp_equal a b h = by_ranked _ _ _ (nat_cmp a b) (ranked a b (nat_cmp a b) refl) (λ e _. cc) (λ _ e. e) (λ e _. cc)

-- keys that tie have one number
pub key_cmp_equal : (a b : Key) → key_cmp a b ≡ Equal → a.number ≡ b.number
key_cmp_equal a b h = nat_cmp_equal a.number b.number (then_equal (slice_cmp nat_cmp a.place b.place) (nat_cmp a.number b.number) h).1

is_lt_reverse : (o : Ordering) → (o ≡ Equal → ⊥) → is_lt (ordering_reverse o) ≡ not (is_lt o)
is_lt_reverse Less h = refl
is_lt_reverse Equal h = absurd (h refl)
is_lt_reverse Greater h = refl

-- of two keys with different numbers one is below the other
pub is_below_back : (a b : Key) → a.number ≢ b.number → is_below b a ≡ not (is_below a b)
is_below_back a b apart = ap is_lt (key_cmp_total.antisymm b a) ∙ is_lt_reverse (key_cmp a b) (λ e. apart (key_cmp_equal a b e))

-- a relation that, among the keys with numbers other than m, ranks by an order in which ties have one number
pub record IsRanked (near : Key → Key → Bool) (m : ℕ) : Type 0 where
  pub order : Key → Key → Ordering
  pub total : IsTotalOrder order
  pub tied : (v w : Key) → order v w ≡ Equal → v.number ≡ w.number
  pub agrees : (v w : Key) → v.number ≢ m → w.number ≢ m → near v w ≡ is_lt (order v w)

-- going back from m come first those below it, and of two on one side of it first the greater
abbrev back_side : Key → Key → ℕ
back_side m v = cond (is_below m v) 0 1

abbrev back_order : Key → Key → Key → Ordering
back_order m = then_cmp (on (back_side m) nat_cmp) key_cmp

back_agrees : (a b : Bool) (o : Ordering) → ((is_lt o && not b) || (not b && a) || (a && is_lt o)) ≡ is_lt (ordering_then (nat_cmp (cond a 0 1) (cond b 0 1)) o)
back_agrees true true Less = refl
back_agrees true true Equal = refl
back_agrees true true Greater = refl
back_agrees true false Less = refl
back_agrees true false Equal = refl
back_agrees true false Greater = refl
back_agrees false true Less = refl
back_agrees false true Equal = refl
back_agrees false true Greater = refl
back_agrees false false Less = refl
back_agrees false false Equal = refl
back_agrees false false Greater = refl

pub before_ranked : (m : Key) → IsRanked (λ v w. is_between v w m) m.number
before_ranked m =
    record {
      order = back_order m;
      total = then_total (on_total (back_side m) nat_cmp_total) key_cmp_total;
      tied = λ v w h. key_cmp_equal v w (then_equal _ _ h).1;
      agrees = λ v w v_other w_other. rw (is_below_back m w (λ e. w_other (sym e))) (back_agrees (is_below m v) (is_below m w) (key_cmp v w));
    }

-- going on from m come first those above it, and of two on one side of it first the smaller
abbrev on_side : Key → Key → ℕ
on_side m v = cond (is_below m v) 1 0

abbrev on_order : Key → Key → Key → Ordering
on_order m = then_cmp (on (on_side m) nat_cmp) (flip_args key_cmp)

on_agrees : (a b : Bool) (o : Ordering) → ((b && is_lt o) || (is_lt o && not a) || (not a && b)) ≡ is_lt (ordering_then (nat_cmp (cond a 1 0) (cond b 1 0)) o)
on_agrees true true Less = refl
on_agrees true true Equal = refl
on_agrees true true Greater = refl
on_agrees true false Less = refl
on_agrees true false Equal = refl
on_agrees true false Greater = refl
on_agrees false true Less = refl
on_agrees false true Equal = refl
on_agrees false true Greater = refl
on_agrees false false Less = refl
on_agrees false false Equal = refl
on_agrees false false Greater = refl

pub after_ranked : (m : Key) → IsRanked (λ v w. is_between m w v) m.number
after_ranked m =
    record {
      order = on_order m;
      total = then_total (on_total (on_side m) nat_cmp_total) (back_total key_cmp_total);
      tied = λ v w h. sym (key_cmp_equal w v (then_equal _ _ h).1);
      agrees = λ v w v_other w_other. rw (is_below_back m v (λ e. v_other (sym e))) (on_agrees (is_below m v) (is_below m w) (key_cmp w v));
    }
