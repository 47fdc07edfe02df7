-- The longest front of records that fits a room.
use Rattle.std.proofs.Common.{◌≡◌, ℕ, zero, suc, ◌+◌, ◌-◌, ◌<◌, ◌≤◌, Bool, true, false, cond, leb, List, [], ◌∷◌, ◌++◌, length, get_or, take, drop, Option, Some, None, IsSome, All, refl, ap, sym, ◌∙◌, subst, arith, add-one}
use Rattle.std.specs.List.{cons_option}
use Rattle.std.proofs.Math.Seq.{take-suc, drop-cons}
use Rattle.std.proofs.lemmas.Bool.{leb-true, leb-false, le-leb, true≢false}
use Rattle.std.proofs.lemmas.List.{length-append, take-append-drop, take_all}
use Rattle.std.proofs.lemmas.List.Elements.{filter_map-append, All-tail}
use Rattle.ff_ids.specs.declared.summary.RecordKey.{RecordKey}
use Rattle.record_slots.specs.Held.{HeldOf, held_under}
use Rattle.record_slots.specs.Picks.{held_all, total, fitting, IsLongestFit}

pub total-append : {X : Type 0} (long : X → ℕ) (xs ys : List X) → total long (xs ++ ys) ≡ total long xs + total long ys
total-append long [] ys = omega arith
total-append long (x ∷ xs) ys = omega (arith, total-append long xs ys)

not_le : (m n : ℕ) → n < m → leb m n ≡ false
not_le m n h = by_test (leb m n) refl
  where
    by_test : (b : Bool) → leb m n ≡ b → b ≡ false
    by_test false is = refl
    by_test true is = absurd (omega (arith, leb-true m n is, h))

-- the next doesn't fit
fitting-stop : {X : Type 0} (long : X → ℕ) (room : ℕ) (before : List X) (x : X) (after : List X) → total long before ≤ room → room - total long before < long x → fitting long room (before ++ x ∷ after) ≡ length before
fitting-stop long room [] x after fits longer =
    let no_room : leb (long x) room ≡ false = not_le (long x) room (omega (arith, longer)) in
    ap (λ b. cond b (1 + fitting long (room - long x) after) 0) no_room
fitting-stop long room (b ∷ before) x after fits longer =
    let room_for : leb (long b) room ≡ true = le-leb (long b) room (omega (arith, fits)) in
    let others = fitting-stop long (room - long b) before x after (omega (arith, fits)) (omega (arith, fits, longer)) in
    ap (λ t. cond t (1 + fitting long (room - long b) (before ++ x ∷ after)) 0) room_for ∙ omega (arith, others)

-- all fit
fitting-all : {X : Type 0} (long : X → ℕ) (room : ℕ) (xs : List X) → total long xs ≤ room → fitting long room xs ≡ length xs
fitting-all long room [] fits = refl
fitting-all long room (x ∷ xs) fits =
    let room_for : leb (long x) room ≡ true = le-leb (long x) room (omega (arith, fits)) in
    ap (λ t. cond t (1 + fitting long (room - long x) xs) 0) room_for ∙ omega (arith, fitting-all long (room - long x) xs (omega (arith, fits)))

longest_with : {X : Type 0} (long : X → ℕ) (room : ℕ) (x : X) (xs : List X) (n : ℕ) → long x ≤ room → IsLongestFit long (room - long x) xs n → IsLongestFit long room (x ∷ xs) (1 + n)
longest_with long room x xs n le rest =
    let one : 1 + n ≡ suc n = omega arith in
    let P : ℕ → Type 0 = λ k. IsLongestFit long room (x ∷ xs) k in
    subst P (sym one)
    (record {
      within = omega (arith, rest.within);
      fits = omega (arith, rest.fits, le);
      longest = λ more above within. longer more above within;
    })
  where
    longer : (more : ℕ) → suc n < more → more ≤ length (x ∷ xs) → room < total long (take more (x ∷ xs))
    longer zero above within = absurd (omega (arith, above))
    longer (suc more) above within = omega (arith, rest.longest more (omega (arith, above)) (omega (arith, within)))

longest_none : {X : Type 0} (long : X → ℕ) (room : ℕ) (x : X) (xs : List X) → room < long x → IsLongestFit long room (x ∷ xs) 0
longest_none long room x xs lt =
    record {
      within = omega arith;
      fits = omega arith;
      longest = λ more above within. longer more above within;
    }
  where
    longer : (more : ℕ) → 0 < more → more ≤ length (x ∷ xs) → room < total long (take more (x ∷ xs))
    longer zero above within = absurd (omega (arith, above))
    longer (suc more) above within = omega (arith, lt)

longest_by : {X : Type 0} (long : X → ℕ) (room : ℕ) (x : X) (xs : List X) (b : Bool) → leb (long x) room ≡ b → IsLongestFit long (room - long x) xs (fitting long (room - long x) xs) → IsLongestFit long room (x ∷ xs) (cond b (1 + fitting long (room - long x) xs) 0)
longest_by long room x xs true is rest = longest_with long room x xs (fitting long (room - long x) xs) (leb-true (long x) room is) rest
longest_by long room x xs false is rest = longest_none long room x xs (leb-false (long x) room is)

-- so many are the longest front that fits
pub fitting-longest : {X : Type 0} (long : X → ℕ) (room : ℕ) (xs : List X) → IsLongestFit long room xs (fitting long room xs)
fitting-longest long room [] = record { within = omega arith; fits = omega arith; longest = λ more above within. absurd (omega (arith, above, within)) }
fitting-longest long room (x ∷ xs) = longest_by long room x xs (leb (long x) room) refl (fitting-longest long (room - long x) xs)

fitting-few_by : {X : Type 0} (long : X → ℕ) (room : ℕ) (x : X) (xs : List X) (b : Bool) → leb (long x) room ≡ b → 0 < long x → fitting long (room - long x) xs ≤ room - long x → cond b (1 + fitting long (room - long x) xs) 0 ≤ room
fitting-few_by long room x xs true is some rest = omega (arith, leb-true (long x) room is, some, rest)
fitting-few_by long room x xs false is some rest = omega arith

-- no more than the room is, where each is some bytes long
pub fitting-few : {X : Type 0} (long : X → ℕ) (room : ℕ) (xs : List X) → ((x : X) → 0 < long x) → fitting long room xs ≤ room
fitting-few long room [] some = omega arith
fitting-few long room (x ∷ xs) some = fitting-few_by long room x xs (leb (long x) room) refl (some x) (fitting-few long (room - long x) xs some)

-- ---- what was taken so far

-- So far what is under the first keys was taken, and what is left of the room.
pub record IsSoFar {X : Type 0} (long : X → ℕ) (held : HeldOf X) (keys : List RecordKey) (i : ℕ) (room left : ℕ) : Type 0 where
  pub each : length (held_all held (take i keys)) ≡ i
  pub used : left + total long (held_all held (take i keys)) ≡ room

split : {X : Type 0} (held : HeldOf X) (ks : List RecordKey) (i : ℕ) → held_all held ks ≡ held_all held (take i ks) ++ held_all held (drop i ks)
split held ks i = ap (held_all held) (sym (take-append-drop i ks)) ∙ filter_map-append (held_under held) (take i ks) (drop i ks)

next : {X : Type 0} (held : HeldOf X) (ks : List RecordKey) (i : ℕ) (k : RecordKey) (x : X) → i < length ks → k ≡ get_or ks i k → held_under held k ≡ Some x → held_all held (drop i ks) ≡ x ∷ held_all held (drop (suc i) ks)
next held ks i k x below here has =
    ap (held_all held) (drop-cons ks i k below ∙ ap (λ y. y ∷ drop (suc i) ks) (sym here)) ∙ ap (λ o. cons_option o (held_all held (drop (suc i) ks))) has

pub one_more : {X : Type 0} (held : HeldOf X) (ks : List RecordKey) (i : ℕ) (k : RecordKey) (x : X) → i < length ks → k ≡ get_or ks i k → held_under held k ≡ Some x → held_all held (take (i + 1) ks) ≡ held_all held (take i ks) ++ x ∷ []
one_more {X} held ks i k x below here has =
    ap (λ (n : ℕ). held_all held (take n ks)) (add-one i)
    ∙ ap (held_all held) (take-suc ks i k below ∙ ap (λ y. take i ks ++ y ∷ []) (sym here))
    ∙ filter_map-append (held_under held) (take i ks) (k ∷ [])
    ∙ ap (λ (o : Option X). held_all held (take i ks) ++ cons_option o []) has

pub so_far_more : {X : Type 0} (long : X → ℕ) (held : HeldOf X) (ks : List RecordKey) (i room left rest : ℕ) (k : RecordKey) (x : X) → i < length ks → k ≡ get_or ks i k → held_under held k ≡ Some x → IsSoFar long held ks i room left → rest + long x ≡ left → IsSoFar long held ks (i + 1) room rest
so_far_more long held ks i room left rest k x below here has s fits =
    let more = one_more held ks i k x below here has in
    record {
      each = ap length more ∙ omega (arith, length-append (held_all held (take i ks)) (x ∷ []), s.each);
      used = omega (arith, ap (total long) more, total-append long (held_all held (take i ks)) (x ∷ []), s.used, fits);
    }

-- the next doesn't fit, so these are as many as fit
pub stopped : {X : Type 0} (long : X → ℕ) (held : HeldOf X) (ks : List RecordKey) (i room left : ℕ) (k : RecordKey) (x : X) → i < length ks → k ≡ get_or ks i k → held_under held k ≡ Some x → IsSoFar long held ks i room left → left < long x → i ≡ fitting long room (held_all held ks)
stopped {X} long held ks i room left k x below here has s longer =
    let before = held_all held (take i ks) in
    let after = held_all held (drop (suc i) ks) in
    let whole : held_all held ks ≡ before ++ x ∷ after = split held ks i ∙ ap (λ (t : List X). before ++ t) (next held ks i k x below here has) in
    sym (ap (fitting long room) whole ∙ fitting-stop long room before x after (omega (arith, s.used)) (omega (arith, s.used, longer)) ∙ s.each)

-- all fit
pub ended : {X : Type 0} (long : X → ℕ) (held : HeldOf X) (ks : List RecordKey) (i room left : ℕ) → length ks ≤ i → IsSoFar long held ks i room left → i ≡ fitting long room (held_all held ks)
ended long held ks i room left end s =
    let all : take i ks ≡ ks = take_all i ks end in
    let each : length (held_all held ks) ≡ i = ap (λ (t : List RecordKey). length (held_all held t)) (sym all) ∙ s.each in
    let fits : total long (held_all held ks) ≤ room = omega (arith, ap (λ (t : List RecordKey). total long (held_all held t)) all, s.used) in
    sym (fitting-all long room (held_all held ks) fits ∙ each)

-- ---- keys each of which has something

cons_each : {X : Type 0} (o : Option X) (xs : List X) (n : ℕ) → IsSome o → length xs ≡ n → length (cons_option o xs) ≡ suc n
cons_each None xs n some each = absurd (true≢false (sym some))
cons_each (Some x) xs n some each = ap suc each

-- as many as there are keys
pub each_held : {X : Type 0} (held : HeldOf X) (ks : List RecordKey) → All (λ k. IsSome (held_under held k)) ks → length (held_all held ks) ≡ length ks
each_held held [] all = refl
each_held held (k ∷ ks) all =
    cons_each (held_under held k) (held_all held ks) (length ks) (all 0 k (omega arith)) (each_held held ks (All-tail (λ q. IsSome (held_under held q)) k ks all))

cons_take : {X : Type 0} (o : Option X) (xs ys : List X) (n : ℕ) → IsSome o → take n xs ≡ ys → take (suc n) (cons_option o xs) ≡ cons_option o ys
cons_take None xs ys n some same = absurd (true≢false (sym some))
cons_take (Some x) xs ys n some same = ap (λ t. x ∷ t) same

-- the first of them are those of the first keys
pub first_held : {X : Type 0} (held : HeldOf X) (ks : List RecordKey) (n : ℕ) → All (λ k. IsSome (held_under held k)) ks → take n (held_all held ks) ≡ held_all held (take n ks)
first_held held ks zero all = refl
first_held held [] (suc n) all = refl
first_held held (k ∷ ks) (suc n) all =
    cons_take (held_under held k) (held_all held ks) (held_all held (take n ks)) n (all 0 k (omega arith)) (first_held held ks n (All-tail (λ q. IsSome (held_under held q)) k ks all))
