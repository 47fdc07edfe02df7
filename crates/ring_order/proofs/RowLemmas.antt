-- Rows that are filled from the front.
use Rattle.std.proofs.Common.{◌≡◌, ℕ, suc, ◌+◌, ◌-◌, ◌<◌, ◌^◌, Bool, true, false, cond, ◌&&◌, List, [], ◌∷◌, ◌++◌, length, take, set, get_or, map, refl, sym, ◌∙◌, ap, arith, length-append, append_assoc}
use Rattle.std.proofs.Math.Seq.{set-append_seam}
use Rattle.std.proofs.lemmas.Grind.{take-set_at}
use Rattle.std.specs.Str.{bytes_eq}
use Rattle.std.specs.List.{list_all}
use Rattle.std.proofs.lemmas.Slice.Eq.{bytes_eq-Decides}
use Rattle.std.proofs.lemmas.List.Folds.{list_all_at}
use Rattle.std.proofs.lemmas.List.{map-set, get_or-map, get_or-take, length-take}
use Rattle.ff_ids.specs.declared.TheConstants.{MAX_RINGS}
use Rattle.ring_order.specs.Rows.{place_of_number, tail_of, is_plain, hint_of, kept_of, filled, unused, unused_row}

-- the first of the unused rows
pub unused-suc : (n : ℕ) → unused (suc n) ≡ unused_row ∷ unused n
unfolding unused
unused-suc n = refl

-- one more row
pub filled-push : (used rows : List (List ℕ)) (count : ℕ) (row : List ℕ) → filled used ≡ (rows, count) → count < MAX_RINGS → filled (used ++ row ∷ []) ≡ (set rows count row, count + 1)
filled-push used rows count row h below =
    let same_rows : used ++ unused (MAX_RINGS - length used) ≡ rows = ap (λ (p : List (List ℕ) × ℕ). p.0) h in
    let same_count : length used ≡ count = ap (λ (p : List (List ℕ) × ℕ). p.1) h in
    let more : length (used ++ row ∷ []) ≡ count + 1 = omega (arith, length-append used (row ∷ [])) in
    let left : MAX_RINGS - length used ≡ suc (MAX_RINGS - 1 - count) = omega arith in
    let left_then : MAX_RINGS - length (used ++ row ∷ []) ≡ MAX_RINGS - 1 - count = omega arith in
    let before : used ++ unused_row ∷ unused (MAX_RINGS - 1 - count) ≡ rows = rw (← unused-suc (MAX_RINGS - 1 - count), ← left) same_rows in
    let after : set rows count row ≡ used ++ row ∷ unused (MAX_RINGS - 1 - count) = rw (← before, ← same_count) (set-append_seam used unused_row (unused (MAX_RINGS - 1 - length used)) row) in
    rw (left_then, more, after, append_assoc) refl

-- a row written over the first unused one
pub filled-set : (rows used : List (List ℕ)) (count : ℕ) (row : List ℕ) → filled (take count rows) ≡ (rows, count) → take count rows ≡ used → length rows ≡ MAX_RINGS → length used < MAX_RINGS → filled (take (count + 1) (set rows count row)) ≡ (set rows count row, count + 1)
filled-set rows used count row h view len room =
    let same_count : length (take count rows) ≡ count = ap (λ (p : List (List ℕ) × ℕ). p.1) h in
    let below : count < MAX_RINGS = omega (arith, ap length view) in
    let inside : count < length rows = omega arith in
    rw (take-set_at rows count (count + 1) row refl inside) (filled-push (take count rows) rows count row h below)

-- ---- the tails, and whether all are plain

all_plain-middle : (xs ys : List (List ℕ)) (x : List ℕ) → list_all is_plain (xs ++ x ∷ ys) ≡ (is_plain x && list_all is_plain (xs ++ ys))
all_plain-middle [] ys x = refl
all_plain-middle (z ∷ xs) ys x = ap (λ b. is_plain z && b) (all_plain-middle xs ys x) ∙ swapped (is_plain z) (is_plain x) (list_all is_plain (xs ++ ys))
  where
    swapped : (a b c : Bool) → (a && (b && c)) ≡ (b && (a && c))
    swapped true b c = refl
    swapped false true c = refl
    swapped false false c = refl

unused_plain : is_plain unused_row ≡ true
unfolding unused_row is_plain
unused_plain = refl

-- a row over an unused one
all_plain-set : (used rows : List (List ℕ)) (count : ℕ) (row : List ℕ) → filled used ≡ (rows, count) → count < MAX_RINGS → list_all is_plain (set rows count row) ≡ (list_all is_plain rows && is_plain row)
all_plain-set used rows count row h below =
    let same_rows : used ++ unused (MAX_RINGS - length used) ≡ rows = ap (λ (p : List (List ℕ) × ℕ). p.0) h in
    let same_count : length used ≡ count = ap (λ (p : List (List ℕ) × ℕ). p.1) h in
    let left : MAX_RINGS - length used ≡ suc (MAX_RINGS - 1 - count) = omega arith in
    let before : used ++ unused_row ∷ unused (MAX_RINGS - 1 - count) ≡ rows = rw (← unused-suc (MAX_RINGS - 1 - count), ← left) same_rows in
    let after : set rows count row ≡ used ++ row ∷ unused (MAX_RINGS - 1 - count) = rw (← before, ← same_count) (set-append_seam used unused_row (unused (MAX_RINGS - 1 - length used)) row) in
    let rest = list_all is_plain (used ++ unused (MAX_RINGS - 1 - count)) in
    let all : list_all is_plain rows ≡ rest = ap (list_all is_plain) (sym before) ∙ all_plain-middle used (unused (MAX_RINGS - 1 - count)) unused_row ∙ ap (λ b. b && rest) unused_plain in
    ap (list_all is_plain) after ∙ all_plain-middle used (unused (MAX_RINGS - 1 - count)) row ∙ swapped (is_plain row) rest ∙ ap (λ b. b && is_plain row) (sym all)
  where
    swapped : (a b : Bool) → (a && b) ≡ (b && a)
    swapped true true = refl
    swapped true false = refl
    swapped false true = refl
    swapped false false = refl

-- what is kept of rows
pub record IsKept (rows : List (List ℕ)) (count : ℕ) (tails : List ℕ) (plain : Bool) : Type 0 where
  pub is_filled : filled (take count rows) ≡ (rows, count)
  pub are_tails : tails ≡ map tail_of rows
  pub is_all : plain ≡ list_all is_plain rows

abbrev Four : Type 0
Four = List (List ℕ) × ℕ × List ℕ × Bool

pub IsKept-from : (rows : List (List ℕ)) (count : ℕ) (tails : List ℕ) (plain : Bool) → kept_of (take count rows) ≡ (rows, count, tails, plain) → IsKept rows count tails plain
IsKept-from rows count tails plain h =
    let same : (filled (take count rows)).0 ≡ rows = ap (λ (q : Four). q.0) h in
    record {
      is_filled = ap (λ (q : Four). (q.0, q.1)) h;
      are_tails = ap (λ (q : Four). q.2) (sym h) ∙ ap (map tail_of) same;
      is_all = ap (λ (q : Four). q.3) (sym h) ∙ ap (list_all is_plain) same;
    }

kept_from : (rows : List (List ℕ)) (count : ℕ) (tails : List ℕ) (plain : Bool) → IsKept rows count tails plain → kept_of (take count rows) ≡ (rows, count, tails, plain)
kept_from rows count tails plain h =
    ap (λ (q : List (List ℕ) × ℕ). (q.0, q.1, map tail_of q.0, list_all is_plain q.0)) h.is_filled
    ∙ ap (λ ts. (rows, count, ts, list_all is_plain rows)) (sym h.are_tails) ∙ ap (λ b. (rows, count, tails, b)) (sym h.is_all)

-- one more row
pub kept-set : (rows used : List (List ℕ)) (count : ℕ) (tails : List ℕ) (plain : Bool) (row : List ℕ) → kept_of (take count rows) ≡ (rows, count, tails, plain) → take count rows ≡ used → length rows ≡ MAX_RINGS → length used < MAX_RINGS → kept_of (take (count + 1) (set rows count row)) ≡ (set rows count row, count + 1, set tails count (tail_of row), plain && is_plain row)
kept-set rows used count tails plain row h view len room =
    let k = IsKept-from rows count tails plain h in
    let same_count : length (take count rows) ≡ count = ap (λ (p : List (List ℕ) × ℕ). p.1) k.is_filled in
    let below : count < MAX_RINGS = omega (arith, ap length view, same_count) in
    kept_from (set rows count row) (count + 1) (set tails count (tail_of row)) (plain && is_plain row) (record {
      is_filled = filled-set rows used count row k.is_filled view len room;
      are_tails = ap (λ ts. set ts count (tail_of row)) k.are_tails ∙ sym (map-set tail_of rows count row);
      is_all = ap (λ b. b && is_plain row) k.is_all ∙ sym (all_plain-set (take count rows) rows count row k.is_filled below);
    })

-- the row is the place of the number
pub record IsPlaceOf (row : List ℕ) (n : ℕ) : Type 0 where
  pub place : row ≡ place_of_number n
  pub small : n < 2 ^ 32
  pub plain : is_plain row ≡ true
  pub tail : n ≡ tail_of row

tail_small : (n : ℕ) → n ≡ tail_of (place_of_number n) → n < 2 ^ 32
tail_small n h = omega (arith, h)

-- its hint is the number
pub hint_there : (row : List ℕ) (n : ℕ) → IsPlaceOf row n → n ≡ hint_of row
hint_there row n h = h.tail ∙ ap (λ (b : Bool). cond b (tail_of row) (2 ^ 32 - 1)) (sym h.plain)

-- a row that is given stands for its tail, where all are plain
pub plain_row : (rows used : List (List ℕ)) (count : ℕ) (tails : List ℕ) (plain : Bool) (r : ℕ) → kept_of (take count rows) ≡ (rows, count, tails, plain) → plain ≡ true → take count rows ≡ used → r < length used → IsPlaceOf (get_or used r []) (get_or tails r 0)
unfolding is_plain
plain_row rows used count tails plain r h is view low =
    let k = IsKept-from rows count tails plain h in
    let same_count : length (take count rows) ≡ count = ap (λ (p : List (List ℕ) × ℕ). p.1) k.is_filled in
    let below : r < count = omega (arith, ap length view, same_count) in
    let inside : r < length rows = omega (arith, below, same_count, length-take count rows) in
    let row = get_or rows r [] in
    let each : is_plain row ≡ true = all_true is_plain rows r [] inside (sym k.is_all ∙ is) in
    let place : row ≡ place_of_number (tail_of row) = bytes_true row (place_of_number (tail_of row)) each in
    let tail : get_or tails r 0 ≡ tail_of row = ap (λ ts. get_or ts r 0) k.are_tails ∙ get_or-map tail_of rows r [] 0 inside in
    let given : get_or used r [] ≡ row = ap (λ xs. get_or xs r []) (sym view) ∙ get_or-take count rows r [] below in
    record {
      place = given ∙ place ∙ ap place_of_number (sym tail);
      small = tail_small (get_or tails r 0) (tail ∙ ap tail_of (place ∙ ap place_of_number (sym tail)));
      plain = ap is_plain given ∙ each;
      tail = tail ∙ ap tail_of (sym given);
    }
  where
    bytes_true : (xs ys : List ℕ) → bytes_eq xs ys ≡ true → xs ≡ ys
    bytes_true xs ys h = grind (arith, bytes_eq-Decides xs ys, h)

    all_true : {X : Type 0} (p : X → Bool) (xs : List X) (i : ℕ) (d : X) → i < length xs → list_all p xs ≡ true → p (get_or xs i d) ≡ true
    all_true p xs i d low all = by_test (p (get_or xs i d)) refl
      where
        by_test : (b : Bool) → p (get_or xs i d) ≡ b → b ≡ true
        by_test true e = refl
        by_test false e = sym (list_all_at p xs i d low e) ∙ all
