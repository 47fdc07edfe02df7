-- What two hints say of the order of places.
use Rattle.std.proofs.Common.{◌≡◌, ℕ, ◌+◌, ◌*◌, ◌/◌, ◌<◌, ◌-◌, ◌^◌, Bool, true, false, cond, ltb, List, ap, sym, ◌∙◌, refl, arith}
use Rattle.std.specs.Str.{bytes_eq}
use Rattle.std.specs.Cmp.Lexicographic.{slice_cmp}
use Rattle.std.specs.Ordering.{nat_cmp, ordering_then, is_lt}
use Rattle.std.proofs.lemmas.Bool.Decides.{nat_tests}
use Rattle.std.proofs.lemmas.Slice.Eq.{bytes_eq-Decides}
use Rattle.ff_ids.specs.Rings.{Key, is_below}
use Rattle.ring_order.specs.Rows.{place_of_number, tail_of, is_plain, hint_of}
use Rattle.ring_order.proofs.TailLemmas.{place_cmp}

bytes_true : (xs ys : List ℕ) → bytes_eq xs ys ≡ true → xs ≡ ys
bytes_true xs ys h = grind (arith, bytes_eq-Decides xs ys, h)

plain_place : (row : List ℕ) → is_plain row ≡ true → row ≡ place_of_number (tail_of row)
unfolding is_plain
plain_place row h = bytes_true row (place_of_number (tail_of row)) h

-- a row with a small hint is the place of it
hinted_by : (row : List ℕ) (a : ℕ) (b : Bool) → is_plain row ≡ b → a ≡ cond b (tail_of row) (2 ^ 32 - 1) → a < 2 ^ 32 - 1 → row ≡ place_of_number a
hinted_by row a true plain is small = plain_place row plain ∙ ap place_of_number (sym is)
hinted_by row a false plain is small = absurd (omega (arith, is))

hinted_place : (row : List ℕ) (a : ℕ) → a ≡ hint_of row → a < 2 ^ 32 - 1 → row ≡ place_of_number a
hinted_place row a is small = hinted_by row a (is_plain row) refl is small

then_ranks : (a b x y : ℕ) → x < 2 ^ 16 → y < 2 ^ 16 → ltb (a * 2 ^ 16 + x) (b * 2 ^ 16 + y) ≡ is_lt (ordering_then (nat_cmp a b) (nat_cmp x y))
then_ranks a b x y low high = grind (arith, nat_tests)

hinted_order : (a b x y : ℕ) (j k : Key) → a ≡ hint_of j.place → x ≡ j.number → b ≡ hint_of k.place → y ≡ k.number → x < 2 ^ 16 → y < 2 ^ 16 → a < 2 ^ 32 - 1 → b < 2 ^ 32 - 1 → ltb (a * 2 ^ 16 + x) (b * 2 ^ 16 + y) ≡ is_below j k
hinted_order a b x y j k own number other other_number low high small below =
    let first : slice_cmp nat_cmp j.place k.place ≡ nat_cmp a b =
    ap (λ x. slice_cmp nat_cmp x k.place) (hinted_place j.place a own small) ∙ ap (slice_cmp nat_cmp (place_of_number a)) (hinted_place k.place b other below) ∙ place_cmp a b (omega arith) (omega arith) in
    let second : nat_cmp j.number k.number ≡ nat_cmp x y = ap (λ n. nat_cmp n k.number) (sym number) ∙ ap (nat_cmp x) (sym other_number) in
    then_ranks a b x y low high ∙ ap (λ o. is_lt (ordering_then (nat_cmp a b) o)) (sym second) ∙ ap (λ o. is_lt (ordering_then o (nat_cmp j.number k.number))) (sym first)

-- whether one number is below the other, as a quotient
below_or_not : (m n : ℕ) (b : Bool) → ltb m n ≡ b → m < 2 ^ 48 → n < 2 ^ 48 → (n + (2 ^ 48 - 1) - m) / 2 ^ 48 ≡ cond b 1 0
below_or_not m n b is first second = grind (arith, nat_tests, is)

pub hinted_count : (a b x y m n : ℕ) (j k : Key) → m ≡ a * 2 ^ 16 + x → n ≡ b * 2 ^ 16 + y → a ≡ hint_of j.place → x ≡ j.number → b ≡ hint_of k.place → y ≡ k.number → x < 2 ^ 16 → y < 2 ^ 16 → a < 2 ^ 32 - 1 → b < 2 ^ 32 - 1 → (n + (2 ^ 48 - 1) - m) / 2 ^ 48 ≡ cond (is_below j k) 1 0
hinted_count a b x y m n j k first second own number other other_number low high small below =
    let order : ltb m n ≡ is_below j k = ap (λ m. ltb m n) first ∙ ap (ltb (a * 2 ^ 16 + x)) second ∙ hinted_order a b x y j k own number other other_number low high small below in
    below_or_not m n (is_below j k) order (omega (arith, first)) (omega (arith, second))
