-- The links of a queue, when a number comes and when one leaves.
use Rattle.std.proofs.Common.{◌≡◌, ℕ, zero, suc, ◌+◌, ◌<◌, ◌≤◌, Bool, true, false, cond, not, ◌||◌, eqb, List, [], ◌∷◌, ◌++◌, Some, None, length, take, drop, get_or, refl, sym, ap, ◌∙◌, subst, arith}
use Rattle.std.proofs.Math.Seq.{take-append_seam}
use Rattle.std.proofs.lemmas.List.{get_or_default}
use Rattle.std.specs.List.{AllByRecursion, list_any}
use Rattle.std.proofs.lemmas.Bool.{ne_eqb, eqb-true, eqb-false, true≢false}
use Rattle.std.proofs.lemmas.Bool.Decides.{nat_tests}
use Rattle.removal_timer.specs.declared.queue.Link.{Link}
use Rattle.removal_timer.specs.declared.queue.TheConstants.{END}
use Rattle.removal_timer.specs.Queue.{first_number, is_queued, without, next_at, previous_at, AreJoined, IsFollowed, AreApart, numbers_behind, order_of, IsLinked}

-- ---- lists of numbers

abbrev pub Apart : ℕ → List ℕ → Type 0
Apart n order = AllByRecursion (λ m. eqb m n ≡ false) order

pub without_absent : (n : ℕ) (order : List ℕ) → Apart n order → without n order ≡ order
without_absent n [] h = refl
without_absent n (m ∷ order) h = rw h.0 (ap (λ ms. m ∷ ms) (without_absent n order h.1))

pub Apart-absent : (n : ℕ) (order : List ℕ) → is_queued order n ≡ false → Apart n order
Apart-absent n [] h = tt
Apart-absent n (m ∷ order) h = by_first (eqb m n) refl h (Apart-absent n order)
  where
    by_first : (b : Bool) → eqb m n ≡ b → (b || list_any (λ k. eqb k n) order) ≡ false → (is_queued order n ≡ false → Apart n order) → Apart n (m ∷ order)
    by_first true same e rest = absurd (true≢false e)
    by_first false other e rest = (other, rest e)

pub All-without : (P : ℕ → Type 0) (n : ℕ) (order : List ℕ) → AllByRecursion P order → AllByRecursion P (without n order)
All-without P n [] h = tt
All-without P n (m ∷ order) h =
    elim (eqb m n) as (λ b. AllByRecursion P (cond (not b) (m ∷ without n order) (without n order))) [
      | true ↦ All-without P n order h.1
      | false ↦ (h.0, All-without P n order h.1)
    ]

pub AreApart-without : (n : ℕ) (order : List ℕ) → AreApart order → AreApart (without n order)
AreApart-without n [] h = tt
AreApart-without n (m ∷ order) h =
    elim (eqb m n) as (λ b. AreApart (cond (not b) (m ∷ without n order) (without n order))) [
      | true ↦ AreApart-without n order h.1
      | false ↦ (All-without (λ k. eqb k m ≡ false) n order h.0, AreApart-without n order h.1)
    ]

pub All-more : (P : ℕ → Type 0) (n : ℕ) (order : List ℕ) → P n → AllByRecursion P order → AllByRecursion P (order ++ n ∷ [])
All-more P n [] here h = (here, tt)
All-more P n (m ∷ order) here h = (h.0, All-more P n order here h.1)

AreApart-more : (n : ℕ) (order : List ℕ) → Apart n order → AreApart order → AreApart (order ++ n ∷ [])
AreApart-more n [] other h = (tt, tt)
AreApart-more n (m ∷ order) other h =
    let apart : eqb n m ≡ false = grind (arith, nat_tests, other.0) in
    (All-more (λ k. eqb k m ≡ false) n order apart h.0, AreApart-more n order other.1 h.1)

-- ---- there are no more of them than numbers below the end

length-without : (n : ℕ) (order : List ℕ) → AreApart order → length order ≤ length (without n order) + 1
length-without n [] h = omega arith
length-without n (m ∷ order) h = by_first (eqb m n) refl (length-without n order h.1)
  where
    by_first : (b : Bool) → eqb m n ≡ b → length order ≤ length (without n order) + 1 → length (m ∷ order) ≤ length (cond (not b) (m ∷ without n order) (without n order)) + 1
    by_first true same rest =
        let all = without_absent m order h.0 in
        let e : m ≡ n = eqb-true m n same in
        let all_n : without n order ≡ order = subst (λ k. without k order ≡ order) e all in
        omega (arith, ap length all_n)
    by_first false other rest = omega (arith, rest)

below_without : (n : ℕ) (order : List ℕ) → AllByRecursion (λ m. m < suc n) order → AllByRecursion (λ m. m < n) (without n order)
below_without n [] h = tt
below_without n (m ∷ order) h = by_first (eqb m n) refl (below_without n order h.1)
  where
    by_first : (b : Bool) → eqb m n ≡ b → AllByRecursion (λ m. m < n) (without n order) → AllByRecursion (λ m. m < n) (cond (not b) (m ∷ without n order) (without n order))
    by_first true same rest = rest
    by_first false other rest =
        let less : m < n = grind (arith, nat_tests, h.0) in
        (less, rest)

length-below : (n : ℕ) (order : List ℕ) → AreApart order → AllByRecursion (λ m. m < n) order → length order ≤ n
length-below zero [] apart h = omega arith
length-below zero (m ∷ order) apart h = absurd (omega (arith, h.0))
length-below (suc n) order apart h =
    omega (arith, length-without n order apart, length-below n (without n order) (AreApart-without n order apart) (below_without n order h))

-- ---- what the links say

numbers_behind_is : (most : ℕ) (links : List Link) (m : ℕ) (order : List ℕ) → IsFollowed links m order → AllByRecursion (λ n. n < END) order → length order ≤ most → numbers_behind most links m ≡ order
numbers_behind_is zero links m [] h below few = refl
numbers_behind_is zero links m (n ∷ order) h below few = absurd (omega arith)
numbers_behind_is (suc most) links m [] h below few =
    let here : eqb (next_at links m) END ≡ true = grind (arith, nat_tests, h.0) in
    rw here refl
numbers_behind_is (suc most) links m (n ∷ order) h below few =
    let other : eqb (next_at links m) END ≡ false = grind (arith, nat_tests, h.0.0, below.0) in
    rw (other, h.0.0) (ap (λ ns. n ∷ ns) (numbers_behind_is most links n order h.1 below.1 (omega arith)))

-- there is one such order
pub order_of_is : (links : List Link) (order : List ℕ) → IsLinked links order → order_of links ≡ order
unfolding order_of
order_of_is links order h =
    numbers_behind_is (length links) links END order h.linked h.below (omega (arith, length-below END order h.apart h.below, h.long))

pub IsLinked-order : (links : List Link) (order : List ℕ) → IsLinked links order → IsLinked links (order_of links)
IsLinked-order links order h = subst (IsLinked links) (sym (order_of_is links order h)) h

-- the second number was linked behind the first
pub record AreNowJoined (old new : List Link) (first second : ℕ) : Type 0 where
  pub next : (n : ℕ) → next_at new n ≡ cond (eqb n first) second (next_at old n)
  pub previous : (n : ℕ) → previous_at new n ≡ cond (eqb n second) first (previous_at old n)

-- ---- a number leaves

record IsAround (links : List Link) (n : ℕ) : Type 0 where
  behind : next_at links (previous_at links n) ≡ n
  before : previous_at links (next_at links n) ≡ n

around_first : (links : List Link) (m n : ℕ) (order : List ℕ) → IsFollowed links m (n ∷ order) → IsAround links n
around_first links m n [] h = record { behind = ap (next_at links) h.0.1 ∙ h.0.0; before = ap (previous_at links) h.1.0 ∙ h.1.1 }
around_first links m n (k ∷ order) h = record { behind = ap (next_at links) h.0.1 ∙ h.0.0; before = ap (previous_at links) h.1.0.0 ∙ h.1.0.1 }

IsAround-queued : (links : List Link) (m n : ℕ) (order : List ℕ) → IsFollowed links m order → is_queued order n ≡ true → IsAround links n
IsAround-queued links m n [] h there = absurd (true≢false (sym there))
IsAround-queued links m n (k ∷ order) h there = by_first (eqb k n) refl there (IsAround-queued links k n order h.1)
  where
    by_first : (b : Bool) → eqb k n ≡ b → (b || list_any (λ j. eqb j n) order) ≡ true → (is_queued order n ≡ true → IsAround links n) → IsAround links n
    by_first true same e rest = subst (IsAround links) (eqb-true k n same) (around_first links m k order h)
    by_first false other e rest = rest e

-- the number left: those before it and behind it are joined
record HasLeft (old new : List Link) (n : ℕ) : Type 0 where
  around : IsAround old n
  joined : AreNowJoined old new (previous_at old n) (next_at old n)
  within : eqb END n ≡ false

still_joined : (old new : List Link) (n k m : ℕ) → HasLeft old new n → eqb k n ≡ false → eqb m n ≡ false → AreJoined old k m → AreJoined new k m
still_joined old new n k m left k_other m_other h =
    let first : eqb k (previous_at old n) ≡ false = ne_eqb k (previous_at old n) (λ e. eqb-false m n m_other (sym h.0 ∙ ap (next_at old) e ∙ left.around.behind)) in
    let second : eqb m (next_at old n) ≡ false = ne_eqb m (next_at old n) (λ e. eqb-false k n k_other (sym h.1 ∙ ap (previous_at old) e ∙ left.around.before)) in (
      left.joined.next k ∙ ap (λ b. cond b (next_at old n) (next_at old k)) first ∙ h.0,
      left.joined.previous m ∙ ap (λ b. cond b (previous_at old n) (previous_at old m)) second ∙ h.1,
    )

still_followed : (old new : List Link) (n k : ℕ) (order : List ℕ) → HasLeft old new n → eqb k n ≡ false → Apart n order → IsFollowed old k order → IsFollowed new k order
still_followed old new n k [] left other apart h = still_joined old new n k END left other left.within h
still_followed old new n k (m ∷ order) left other apart h =
    (still_joined old new n k m left other apart.0 h.0, still_followed old new n m order left apart.0 apart.1 h.1)

newly_joined : (old new : List Link) (n k m : ℕ) → HasLeft old new n → AreJoined old k n → AreJoined old n m → AreJoined new k m
newly_joined old new n k m left h g =
    let first : eqb k (previous_at old n) ≡ true = grind (arith, nat_tests, h.1) in
    let second : eqb m (next_at old n) ≡ true = grind (arith, nat_tests, g.0) in (
      left.joined.next k ∙ ap (λ b. cond b (next_at old n) (next_at old k)) first ∙ g.0,
      left.joined.previous m ∙ ap (λ b. cond b (previous_at old n) (previous_at old m)) second ∙ h.1,
    )

passed_over : (old new : List Link) (n k : ℕ) (order : List ℕ) → HasLeft old new n → Apart n order → AreJoined old k n → IsFollowed old n order → IsFollowed new k order
passed_over old new n k [] left apart h g = newly_joined old new n k END left h g
passed_over old new n k (m ∷ order) left apart h g =
    (newly_joined old new n k m left h g.0, still_followed old new n m order left apart.0 apart.1 g.1)

followed_without : (old new : List Link) (n k : ℕ) (order : List ℕ) → HasLeft old new n → eqb k n ≡ false → AreApart order → IsFollowed old k order → IsFollowed new k (without n order)
followed_without old new n k [] left other apart h = still_joined old new n k END left other left.within h
followed_without old new n k (m ∷ order) left other apart h = by_first (eqb m n) refl (λ differs. followed_without old new n m order left differs apart.1 h.1)
  where
    by_first : (b : Bool) → eqb m n ≡ b → (eqb m n ≡ false → IsFollowed new m (without n order)) → IsFollowed new k (cond (not b) (m ∷ without n order) (without n order))
    by_first true same rest =
        let e : m ≡ n = eqb-true m n same in
        let away : Apart n order = subst (λ j. Apart j order) e apart.0 in
        let over = passed_over old new n k order left away (subst (AreJoined old k) e h.0) (subst (λ j. IsFollowed old j order) e h.1) in
        rw (without_absent n order away) over
    by_first false differs rest =
        (still_joined old new n k m left other differs h.0, rest differs)

queued_below : (n : ℕ) (order : List ℕ) → AllByRecursion (λ m. m < END) order → is_queued order n ≡ true → n < END
queued_below n [] h there = absurd (true≢false (sym there))
queued_below n (m ∷ order) h there = by_first (eqb m n) refl there (queued_below n order h.1)
  where
    by_first : (b : Bool) → eqb m n ≡ b → (b || list_any (λ j. eqb j n) order) ≡ true → (is_queued order n ≡ true → n < END) → n < END
    by_first true same e rest = subst (λ k. k < END) (eqb-true m n same) h.0
    by_first false other e rest = rest e

pub IsLinked-below : (links : List Link) (order : List ℕ) (n : ℕ) → IsLinked links order → is_queued order n ≡ true → n < END
IsLinked-below links order n h there = queued_below n order h.below there

pub IsLinked-removed : (old new : List Link) (order : List ℕ) (n : ℕ) → IsLinked old order → is_queued order n ≡ true → length new ≡ length old → AreNowJoined old new (previous_at old n) (next_at old n) → IsLinked new (without n order)
IsLinked-removed old new order n h there long joined =
    let low = queued_below n order h.below there in
    let other : eqb END n ≡ false = grind (arith, nat_tests) in
    let left : HasLeft old new n = record { around = IsAround-queued old END n order h.linked there; joined = joined; within = other } in
    record {
      long = long ∙ h.long;
      linked = followed_without old new n END order left other h.apart h.linked;
      below = All-without (λ m. m < END) n order h.below;
      apart = AreApart-without n order h.apart;
    }

-- ---- a number comes

record HasCome (old new : List Link) (n : ℕ) : Type 0 where
  last : next_at old (previous_at old END) ≡ END
  next : (m : ℕ) → next_at new m ≡ cond (eqb m n) END (cond (eqb m (previous_at old END)) n (next_at old m))
  previous : (m : ℕ) → previous_at new m ≡ cond (eqb m END) n (cond (eqb m n) (previous_at old END) (previous_at old m))
  within : eqb END n ≡ false

last_followed : (links : List Link) (m : ℕ) (order : List ℕ) → IsFollowed links m order → next_at links (previous_at links END) ≡ END
last_followed links m [] h = ap (next_at links) h.1 ∙ h.0
last_followed links m (n ∷ order) h = last_followed links n order h.1

followed_more : (old new : List Link) (n k : ℕ) (order : List ℕ) → HasCome old new n → eqb k n ≡ false → Apart n order → AllByRecursion (λ m. m < END) order → IsFollowed old k order → IsFollowed new k (order ++ n ∷ [])
followed_more old new n k [] come other apart below h =
    let last : eqb k (previous_at old END) ≡ true = grind (arith, nat_tests, h.1) in
    let itself : eqb n n ≡ true = grind (arith, nat_tests) in
    let end : eqb END END ≡ true = grind (arith, nat_tests) in
    let n_end : eqb n END ≡ false = grind (arith, nat_tests, come.within) in (
      (
        come.next k ∙ ap (λ b. cond b END (cond (eqb k (previous_at old END)) n (next_at old k))) other ∙ ap (λ b. cond b n (next_at old k)) last,
        come.previous n ∙ ap (λ b. cond b n (cond (eqb n n) (previous_at old END) (previous_at old n))) n_end ∙ ap (λ b. cond b (previous_at old END) (previous_at old n)) itself ∙ h.1,
      ),
      (
        come.next n ∙ ap (λ b. cond b END (cond (eqb n (previous_at old END)) n (next_at old n))) itself,
        come.previous END ∙ ap (λ b. cond b n (cond (eqb END n) (previous_at old END) (previous_at old END))) end,
      ),
    )
followed_more old new n k (m ∷ order) come other apart below h =
    let m_end : eqb m END ≡ false = grind (arith, nat_tests, below.0) in
    let k_last : eqb k (previous_at old END) ≡ false = ne_eqb k (previous_at old END) (λ e. eqb-false m END m_end (sym h.0.0 ∙ ap (next_at old) e ∙ come.last)) in (
      (
        come.next k ∙ ap (λ b. cond b END (cond (eqb k (previous_at old END)) n (next_at old k))) other ∙ ap (λ b. cond b n (next_at old k)) k_last ∙ h.0.0,
        come.previous m ∙ ap (λ b. cond b n (cond (eqb m n) (previous_at old END) (previous_at old m))) m_end ∙ ap (λ b. cond b (previous_at old END) (previous_at old m)) apart.0 ∙ h.0.1,
      ),
      followed_more old new n m order come apart.0 apart.1 below.1 h.1,
    )

pub IsLinked-pushed : (old middle new : List Link) (order : List ℕ) (n : ℕ) → IsLinked old order → n < END → is_queued order n ≡ false → length new ≡ length old → AreNowJoined old middle (previous_at old END) n → AreNowJoined middle new n END → IsLinked new (order ++ n ∷ [])
IsLinked-pushed old middle new order n h low free long before behind =
    let other : eqb END n ≡ false = grind (arith, nat_tests) in
    let away = Apart-absent n order free in
    let come : HasCome old new n = record {
      last = last_followed old END order h.linked;
      next = λ m. behind.next m ∙ ap (cond (eqb m n) END) (before.next m);
      previous = λ m. behind.previous m ∙ ap (cond (eqb m END) n) (before.previous m);
      within = other;
    } in
    record {
      long = long ∙ h.long;
      linked = followed_more old new n END order come other away h.below h.linked;
      below = All-more (λ m. m < END) n order low h.below;
      apart = AreApart-more n order away h.apart;
    }

-- ---- what is read of the links

pub last_below : (links : List Link) (m : ℕ) (order : List ℕ) → IsFollowed links m order → m < END + 1 → AllByRecursion (λ n. n < END) order → previous_at links END < END + 1
last_below links m [] h low below = omega (arith, h.1)
last_below links m (n ∷ order) h low below = last_below links n order h.1 (omega (arith, below.0)) below.1

record AreBelow (links : List Link) (n : ℕ) : Type 0 where
  previous : previous_at links n < END + 1
  next : next_at links n < END + 1

next_below : (links : List Link) (m : ℕ) (order : List ℕ) → IsFollowed links m order → AllByRecursion (λ n. n < END) order → next_at links m < END + 1
next_below links m [] h below = omega (arith, h.0)
next_below links m (n ∷ order) h below = omega (arith, h.0.0, below.0)

around_below : (links : List Link) (n m : ℕ) (order : List ℕ) → IsFollowed links m order → m < END + 1 → AllByRecursion (λ n. n < END) order → is_queued order n ≡ true → AreBelow links n
around_below links n m [] h low below there = absurd (true≢false (sym there))
around_below links n m (k ∷ order) h low below there = by_first (eqb k n) refl there (around_below links n k order h.1 (omega (arith, below.0)) below.1)
  where
    by_first : (b : Bool) → eqb k n ≡ b → (b || list_any (λ j. eqb j n) order) ≡ true → (is_queued order n ≡ true → AreBelow links n) → AreBelow links n
    by_first true same e rest =
        let here : AreBelow links k = record { previous = omega (arith, h.0.1); next = next_below links k order h.1 below.1 } in
        subst (AreBelow links) (eqb-true k n same) here
    by_first false other e rest = rest e

pub IsLinked-last : (links : List Link) (order : List ℕ) → IsLinked links order → previous_at links END < length links
IsLinked-last links order h = omega (arith, last_below links END order h.linked (omega arith) h.below, h.long)

pub IsLinked-around : (links : List Link) (order : List ℕ) (n : ℕ) → IsLinked links order → is_queued order n ≡ true → (previous_at links n < length links) × (next_at links n < length links)
IsLinked-around links order n h there =
    let at = around_below links n END order h.linked (omega arith) h.below there in
    (omega (arith, at.previous, h.long), omega (arith, at.next, h.long))

pub IsLinked-first : (links : List Link) (order : List ℕ) → IsLinked links order → (next_at links END < END + 1) × (cond (eqb (next_at links END) END) None (Some (next_at links END)) ≡ first_number order)
IsLinked-first links [] h =
    let end : eqb (next_at links END) END ≡ true = grind (arith, nat_tests, h.linked.0) in
    (omega (arith, h.linked.0), rw end refl)
IsLinked-first links (n ∷ order) h =
    let low : n < END = h.below.0 in
    let there : next_at links END ≡ n = h.linked.0.0 in
    let other : eqb (next_at links END) END ≡ false = grind (arith, nat_tests, there, low) in
    (omega (arith, there, low), rw other (ap (λ m. Some m) there))

-- what a slice of all the links becomes is what they become
pub written : {X : Type 0} (n : ℕ) (old new : List X) → length new ≡ length old → n ≡ length old → take n (new ++ drop (length new) old) ≡ new
written n old new long all =
    let e : n ≡ length new = omega arith in
    ap (λ k. take k (new ++ drop (length new) old)) e ∙ take-append_seam new (drop (length new) old)

-- what is read of a link
pub read_next : (links : List Link) (n : ℕ) (l : Link) → l ≡ get_or links n l → n < length links → l.next ≡ next_at links n
read_next links n l h low = ap (λ (k : Link). k.next) (h ∙ get_or_default links n _ _ low)

pub read_previous : (links : List Link) (n : ℕ) (l : Link) → l ≡ get_or links n l → n < length links → l.previous ≡ previous_at links n
read_previous links n l h low = ap (λ (k : Link). k.previous) (h ∙ get_or_default links n _ _ low)

-- the end is linked after itself
pub IsLinked-new : (links : List Link) → length links ≡ END + 1 → ((n : ℕ) → n < END + 1 → next_at links n ≡ END) → ((n : ℕ) → n < END + 1 → previous_at links n ≡ END) → IsLinked links []
IsLinked-new links long next previous =
    record { long = long; linked = (next END (omega arith), previous END (omega arith)); below = tt; apart = tt }

-- ---- links written through slices of all of them

-- the links were written as a slice, by which the second number was linked behind the first
pub record AreWritten (size : ℕ) (old shown new : List Link) (first second : ℕ) : Type 0 where
  pub all : size ≡ length old
  pub same : shown ≡ old
  pub long : length new ≡ length shown
  pub joined : AreNowJoined shown new first second

pub AreWritten-all : (size : ℕ) (old shown new : List Link) (first second : ℕ) → AreWritten size old shown new first second → take size (new ++ drop (length new) old) ≡ new
AreWritten-all size old shown new first second h = written size old new (h.long ∙ ap length h.same) h.all

pub AreWritten-joined : (size : ℕ) (old shown new : List Link) (first second : ℕ) → AreWritten size old shown new first second → AreNowJoined old new first second
AreWritten-joined size old shown new first second h = subst (λ l. AreNowJoined l new first second) h.same h.joined
