-- A list whose numbers rise is the only order of it in which they don't fall.
use Rattle.std.proofs.Common.{◌≡◌, ℕ, suc, ◌+◌, ◌-◌, ◌<◌, ◌≤◌, Bool, true, false, cond, ◌&&◌, eqb, List, [], ◌∷◌, ◌++◌, length, take, drop, refl, sym, ap, ◌∙◌, subst, arith}
use Rattle.std.specs.List.{AllByRecursion, sum_by}
use Rattle.std.specs.List.Sorted.{IsPermutation, IsNonDecreasingBy}
use Rattle.std.proofs.lemmas.Bool.{eqb-true, true≢false}
use Rattle.std.proofs.lemmas.Bool.Decides.{nat_tests}
use Rattle.std.proofs.lemmas.List.Sums.{sum_by-cons}
use Rattle.std.proofs.lemmas.List.Elements.{recursion_from_All}
use Rattle.std.proofs.lemmas.List.Sorted.{sum_by-IsPermutation, length_permutation, IsPermutation-trans}
use Rattle.std.proofs.lemmas.List.{append-nil, drop_all, length-append}
use Rattle.std.proofs.Math.Seq.{take-append_seam, drop-append_seam, take-length}
use borrow.Rule.Slice.PartMut.{mid_of, post_of, put_mid}
use Rattle.ff_ids.specs.declared.AccBody.{AccBody}
use Rattle.removal_timer.specs.Kept.{pair_number, AreRising}
use Rattle.removal_timer.proofs.QueueLemmas.{written}

abbrev number : AccBody → ℕ
number a = pair_number a.accused a.ring.0

same : AccBody → AccBody → Bool
same a b = (eqb a.accuser b.accuser && eqb a.accused b.accused) && (eqb a.epoch b.epoch && eqb a.ring.0 b.ring.0)

abbrev total : (AccBody → ℕ) → List AccBody → ℕ
total f [] = 0
total f (x ∷ xs) = f x + total f xs

total_is : (f : AccBody → ℕ) (xs : List AccBody) → total f xs ≡ sum_by f xs
total_is f [] = refl
total_is f (x ∷ xs) = ap (λ n. f x + n) (total_is f xs) ∙ sym (sum_by-cons f x xs)

same_is : (a b : AccBody) → same a b ≡ true → a ≡ b
unfolding same
same_is a b h =
    let first = and-true (eqb a.accuser b.accuser && eqb a.accused b.accused) (eqb a.epoch b.epoch && eqb a.ring.0 b.ring.0) h in
    let members = and-true (eqb a.accuser b.accuser) (eqb a.accused b.accused) first.0 in
    let others = and-true (eqb a.epoch b.epoch) (eqb a.ring.0 b.ring.0) first.1 in
    let accuser = eqb-true a.accuser b.accuser members.0 in
    let accused = eqb-true a.accused b.accused members.1 in
    let epoch = eqb-true a.epoch b.epoch others.0 in
    let ring = eqb-true a.ring.0 b.ring.0 others.1 in
    λ i. record { accuser = accuser i; accused = accused i; epoch = epoch i; ring = record { 0 = ring i } }
  where
    and-true : (a b : Bool) → (a && b) ≡ true → (a ≡ true) × (b ≡ true)
    and-true true b h = (refl, h)
    and-true false b h = absurd (true≢false (sym h))

same_itself : (a : AccBody) → same a a ≡ true
unfolding same
same_itself a = grind (arith, nat_tests)

-- what holds of all of them holds of one that is among them
one_of : (a : AccBody) (P : AccBody → Type 0) (xs : List AccBody) → 0 < total (λ b. cond (same a b) 1 0) xs → AllByRecursion P xs → P a
one_of a P [] some h = absurd (omega arith)
one_of a P (x ∷ xs) some h = by_first (same a x) refl some (λ more. one_of a P xs more h.1)
  where
    by_first : (b : Bool) → same a x ≡ b → 0 < cond b 1 0 + total (λ b. cond (same a b) 1 0) xs → (0 < total (λ b. cond (same a b) 1 0) xs → P a) → P a
    by_first true is some rest = subst P (sym (same_is a x is)) h.0
    by_first false other some rest = rest (omega arith)

abbrev NeverFall : List AccBody → Type 0
NeverFall [] = Unit {0}
NeverFall (a ∷ xs) = AllByRecursion (λ b. number a ≤ number b) xs × NeverFall xs

never_fall : (xs : List AccBody) → IsNonDecreasingBy number xs → NeverFall xs
never_fall [] h = tt
never_fall (a ∷ xs) h = (
  recursion_from_All (λ b. number a ≤ number b) xs (λ i d lt. h 0 (suc i) d (omega arith) (omega arith)),
  never_fall xs (λ i j d le lt. h (suc i) (suc j) d (omega arith) (omega arith)),
)

heads_same : (x y : AccBody) (xs ys : List AccBody) → AreRising (x ∷ xs) → NeverFall (y ∷ ys) → ((f : AccBody → ℕ) → total f (x ∷ xs) ≡ total f (y ∷ ys)) → y ≡ x
heads_same x y xs ys rising up sums = by_first (same x y) (same y x) refl refl
  where
    by_first : (b c : Bool) → same x y ≡ b → same y x ≡ c → y ≡ x
    by_first true c is other = sym (same_is x y is)
    by_first false true not is = same_is y x is
    by_first false false not_x not_y =
        let x_x : cond {A = ℕ} (same x x) 1 0 ≡ 1 = ap (λ b. cond b 1 0) (same_itself x) in
        let x_y : cond {A = ℕ} (same x y) 1 0 ≡ 0 = ap (λ b. cond b 1 0) not_x in
        let y_y : cond {A = ℕ} (same y y) 1 0 ≡ 1 = ap (λ b. cond b 1 0) (same_itself y) in
        let y_x : cond {A = ℕ} (same y x) 1 0 ≡ 0 = ap (λ b. cond b 1 0) not_y in
        let low : number y ≤ number x = one_of x (λ b. number y ≤ number b) ys (omega (arith, sums (λ b. cond (same x b) 1 0), x_x, x_y)) up.0 in
        let high : number x < number y = one_of y (λ b. number x < number b) xs (omega (arith, sums (λ b. cond (same y b) 1 0), y_y, y_x)) rising.0 in
        absurd (omega (arith, low, high))

one_order : (xs ys : List AccBody) → AreRising xs → NeverFall ys → ((f : AccBody → ℕ) → total f xs ≡ total f ys) → ys ≡ xs
one_order [] [] rising up sums = refl
one_order [] (y ∷ ys) rising up sums = absurd (omega (arith, sums (λ b. 1)))
one_order (x ∷ xs) [] rising up sums = absurd (omega (arith, sums (λ b. 1)))
one_order (x ∷ xs) (y ∷ ys) rising up sums =
    let first = heads_same x y xs ys rising up sums in
    let rest = one_order xs ys rising.1 up.1 (λ f. omega (arith, sums f, ap f first)) in
    ap (λ z. z ∷ ys) first ∙ ap (λ zs. x ∷ zs) rest

pub sorted_is : (xs ys : List AccBody) → AreRising xs → IsPermutation xs ys → IsNonDecreasingBy (λ a. pair_number a.accused a.ring.0) ys → ys ≡ xs
sorted_is xs ys rising same up = one_order xs ys rising (never_fall ys up) (λ f. total_is f xs ∙ sym (sum_by-IsPermutation f xs ys same) ∙ sym (total_is f ys))

-- a slice from the middle to the end was written
record IsTail (from size : ℕ) (before gained all : List AccBody) : Type 0 where
  front : take from all ≡ before
  middle : mid_of from size all ≡ gained
  rest : post_of from size all ≡ []

IsTail-behind : (from size : ℕ) (before gained : List AccBody) → length before ≡ from → size ≡ length (before ++ gained) - from → IsTail from size before gained (before ++ gained)
IsTail-behind from size before gained long rest =
    let front : take from (before ++ gained) ≡ before = ap (λ n. take n (before ++ gained)) (sym long) ∙ take-append_seam before gained in
    let behind : drop from (before ++ gained) ≡ gained = ap (λ n. drop n (before ++ gained)) (sym long) ∙ drop-append_seam before gained in
    let whole : size ≡ length gained = omega (arith, length-append before gained, long, rest) in
    record {
      front = front;
      middle = ap (take size) behind ∙ ap (λ n. take n gained) whole ∙ take-length gained;
      rest = ap (drop size) behind ∙ drop_all size gained (omega (arith, whole));
    }

pub sorted_tail : (room from size : ℕ) (items shown sorted before gained rising : List AccBody) → shown ≡ items → room ≡ length items → items ≡ before ++ gained → length before ≡ from → size ≡ length shown - from → AreRising rising → IsPermutation rising gained → IsPermutation (mid_of from size shown) sorted → IsNonDecreasingBy (λ a. pair_number a.accused a.ring.0) sorted → take room (put_mid from size shown sorted ++ drop (length (put_mid from size shown sorted)) items) ≡ before ++ rising
sorted_tail room from size items shown sorted before gained rising same all e long rest up moved moved_on sorted_up =
    let split : shown ≡ before ++ gained = same ∙ e in
    let tail : IsTail from size before gained shown = subst (IsTail from size before gained) (sym split) (IsTail-behind from size before gained long (rest ∙ ap (λ (xs : List AccBody). length xs - from) split)) in
    let to_sorted : IsPermutation gained sorted = subst (λ xs. IsPermutation xs sorted) tail.middle moved_on in
    let is : sorted ≡ rising = sorted_is rising sorted up (IsPermutation-trans rising gained sorted moved to_sorted) sorted_up in
    let put : put_mid from size shown sorted ≡ before ++ sorted = ap (λ xs. xs ++ (sorted ++ post_of from size shown)) tail.front ∙ ap (λ xs. before ++ (sorted ++ xs)) tail.rest ∙ ap (λ xs. before ++ xs) (append-nil sorted) in
    let as_long : length (put_mid from size shown sorted) ≡ length items = ap length put ∙ length-append before sorted ∙ ap (λ n. length before + n) (length_permutation gained sorted to_sorted) ∙ sym (length-append before gained) ∙ sym (ap length e) in
    written room items (put_mid from size shown sorted) as_long all ∙ put ∙ ap (λ xs. before ++ xs) is
