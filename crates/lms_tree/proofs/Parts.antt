-- Parts of lists that lie one behind another.
use Rattle.std.proofs.Common.{◌≡◌, ℕ, zero, suc, ◌+◌, ◌-◌, ◌*◌, ◌<◌, ◌≤◌, List, ◌++◌, length, take, drop, get_or, refl, sym, ◌∙◌, ap, inl, inr, arith, length-take, length-drop, append_assoc, lit<}
use Rattle.std.specs.Prelude.{slice_range}
use Rattle.std.specs.Int.{w32, to_be_bytes, from_be_bytes}
use Rattle.std.proofs.lemmas.Bool.{cases_lt}
use Rattle.std.proofs.lemmas.List.{take_at, drop_at, take_all, take-take, drop-take, take-append-drop, append-nil, get_or-take, get_or-drop, get_or_past}
use Rattle.std.proofs.lemmas.Nat.{be_bytes_4}
use Rattle.lms_ots.specs.Ots as ots

-- the part in the middle
pub middle : (x y z : List ℕ) (i j : ℕ) → length x ≡ i → i + length y ≡ j → slice_range (x ++ y ++ z) i j ≡ y
middle x y z i j begins ends =
    let size : length y ≡ j - i = omega arith in
    rw (append_assoc, drop_at x (y ++ z) i begins) (take_at y z (j - i) size)

-- the front and the part behind it
pub front_more : (s : List ℕ) (i j : ℕ) → i ≤ j → take i s ++ slice_range s i j ≡ take j s
front_more s i j le =
    let n = j - i in
    let both : i + n ≡ j = omega arith in
    let at : drop i (take (i + n) s) ≡ take n (drop i s) = drop-take i n s in
    let short : take i (take (i + n) s) ≡ take i s = take-take i (i + n) s (omega arith) in
    ap (λ t. t ++ take n (drop i s)) (sym short) ∙ ap (λ t. take i (take (i + n) s) ++ t) (sym at)
    ∙ take-append-drop i (take (i + n) s) ∙ ap (λ k. take k s) both

-- a list is its three parts
pub three_parts : (s a b c : List ℕ) (i j n : ℕ) → i ≤ j → j ≤ n → length s ≡ n
    → a ≡ take i s → b ≡ slice_range s i j → c ≡ slice_range s j n → s ≡ a ++ b ++ c
three_parts s a b c i j n ij jn long is_a is_b is_c =
    let all : take n s ≡ s = take_all n s (omega arith) in
    rw (is_a, is_b, is_c, front_more s i j ij, front_more s j n jn, all) refl

-- a list is its four parts
pub four_parts : (s a b c d : List ℕ) (i j k n : ℕ) → i ≤ j → j ≤ k → k ≤ n → length s ≡ n
    → a ≡ take i s → b ≡ slice_range s i j → c ≡ slice_range s j k → d ≡ slice_range s k n
    → s ≡ a ++ b ++ c ++ d
four_parts s a b c d i j k n ij jk kn long is_a is_b is_c is_d =
    let all : take n s ≡ s = take_all n s (omega arith) in
    rw (is_a, is_b, is_c, is_d, front_more s i j ij, front_more s j k jk, front_more s k n kn, all) refl

-- a part that lies within has its length
pub length-slice_range : (s : List ℕ) (i j : ℕ) → i ≤ j → j ≤ length s → length (slice_range s i j) ≡ j - i
length-slice_range s i j le within =
    omega (arith, length-take (j - i) (drop i s), length-drop i s)

-- bytes of a part are bytes of the whole
pub part-below : (s : List ℕ) (i j : ℕ) → ((k : ℕ) → get_or s k 0 < 256) → (k : ℕ) → get_or (slice_range s i j) k 0 < 256
part-below s i j below k =
    elim (cases_lt k (j - i)) [
      | inl lt ↦ rw (get_or-take (j - i) (drop i s) k 0 lt, get_or-drop i s k 0) (below (i + k))
      | inr ge ↦ rw (get_or_past (slice_range s i j) k 0 (omega (arith, length-take (j - i) (drop i s)))) (lit< tt)
    ]

-- a number that was read spells the bytes that it was read from
pub number-spelled : (s : List ℕ) (i : ℕ) → ((k : ℕ) → get_or s k 0 < 256) → i + 4 ≤ length s
    → to_be_bytes w32 (from_be_bytes w32 (slice_range s i (i + 4))) ≡ slice_range s i (i + 4)
number-spelled s i below within =
    let long : length (slice_range s i (i + 4)) ≡ 4 = omega (arith, length-slice_range s i (i + 4) (omega arith) within) in
    be_bytes_4 (slice_range s i (i + 4)) _ long (part-below s i (i + 4) below) refl

-- ---- hashes in a row

-- the hashes that lie in a row from a place on
pub joined-row : (s : List ℕ) (at n : ℕ)
    → take at s ++ ots.joined (λ i. slice_range s (at + 32 * i) (at + 32 * i + 32)) n ≡ take (at + 32 * n) s
unfolding ots.joined
joined-row s at zero =
    let same : at + 32 * 0 ≡ at = omega arith in
    rw same (append-nil (take at s))
joined-row s at (suc n) =
    let row = λ (i : ℕ). slice_range s (at + 32 * i) (at + 32 * i + 32) in
    let next : at + 32 * suc n ≡ at + 32 * n + 32 = omega arith in
    rw (next) (sym (append_assoc (take at s) (ots.joined row n) (row n))
    ∙ ap (λ t. t ++ row n) (joined-row s at n)
    ∙ front_more s (at + 32 * n) (at + 32 * n + 32) (omega arith))
