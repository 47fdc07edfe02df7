-- The bytes of the longest front of records that fits a room.
use Rattle.std.proofs.Common.{◌≡◌, ℕ, zero, suc, ◌+◌, ◌<◌, ◌≤◌, List, [], ◌∷◌, ◌++◌, length, get_or, take, Some, IsSome, All, Result, Ok, Err, OnErr, refl, ap, sym, ◌∙◌, arith, append-nil, append_assoc}
use Rattle.std.proofs.lemmas.List.{length-append}
use Rattle.std.proofs.lemmas.Grind.{flat_map-append}
use Rattle.ff_ids.specs.declared.summary.RecordKey.{RecordKey}
use Rattle.records.specs.Spelling.{record_bytes}
use Rattle.records.specs.Signing.{CheckedRecord}
use Rattle.record_slots.specs.Picks as slots
use Rattle.record_slots.proofs.LengthLemmas.{record_long}
use Rattle.record_slots.proofs.PickLemmas as slots_picks
use Rattle.record_set.specs.Held.{Held, held_under}
use Rattle.record_set.specs.Picks.{held_all, spelled, long, fitting, IsLongestFit, IsFront}

-- they are as long as each of them
spelled_long : (rs : List CheckedRecord) → length (spelled rs) ≡ slots.total long rs
spelled_long [] = refl
spelled_long (c ∷ rs) = length-append (record_bytes c.rec) (spelled rs) ∙ ap (λ (n : ℕ). long c + n) (spelled_long rs)

-- so many are the longest front that fits
pub longest_is : (room : ℕ) (rs : List CheckedRecord) (n : ℕ) → slots.IsLongestFit long room rs n → IsLongestFit room rs n
longest_is room rs n h =
    record {
      within = h.within;
      fits = omega (arith, spelled_long (take n rs), h.fits);
      longest = λ more above within. omega (arith, spelled_long (take more rs), h.longest more above within);
    }

pub fitting-longest : (room : ℕ) (rs : List CheckedRecord) → IsLongestFit room rs (fitting room rs)
fitting-longest room rs = longest_is room rs (fitting room rs) (slots_picks.fitting-longest long room rs)

some_bytes : (c : CheckedRecord) → 0 < long c
some_bytes c = omega (arith, record_long c.rec)

-- no more than there are bytes of room
pub fitting-few : (room : ℕ) (rs : List CheckedRecord) → fitting room rs ≤ room
fitting-few room rs = slots_picks.fitting-few long room rs some_bytes

-- ---- what was written so far

spelled_more : (rs : List CheckedRecord) (c : CheckedRecord) → spelled (rs ++ c ∷ []) ≡ spelled rs ++ record_bytes c.rec
spelled_more rs c = flat_map-append (λ x. record_bytes x.rec) rs (c ∷ []) ∙ ap (λ (t : List ℕ). spelled rs ++ t) (append-nil (record_bytes c.rec))

-- one more record is written
pub written_more : (held : Held) (ks : List RecordKey) (i : ℕ) (k : RecordKey) (c : CheckedRecord) (old before after : List ℕ) → i < length ks → k ≡ get_or ks i k → held_under held k ≡ Some c → before ≡ old ++ spelled (held_all held (take i ks)) → after ≡ before ++ record_bytes c.rec → after ≡ old ++ spelled (held_all held (take (i + 1) ks))
written_more held ks i k c old before after below here has so_far grown =
    let firsts = held_all held (take i ks) in
    grown ∙ ap (λ (t : List ℕ). t ++ record_bytes c.rec) so_far ∙ append_assoc old (spelled firsts) (record_bytes c.rec)
    ∙ ap (λ (t : List ℕ). old ++ t) (sym (spelled_more firsts c))
    ∙ ap (λ (rs : List CheckedRecord). old ++ spelled rs) (sym (slots_picks.one_more held ks i k c below here has))

-- the records under the first keys are a front of them
pub front_so_far : (held : Held) (ks : List RecordKey) (n : ℕ) (old now : List ℕ) → All (λ k. IsSome (held_under held k)) ks → n ≤ length ks → now ≡ old ++ spelled (held_all held (take n ks)) → IsFront old now (held_all held ks)
front_so_far held ks n old now all within grown =
    record {
      count = n;
      within = omega (arith, slots_picks.each_held held ks all, within);
      grown = grown ∙ ap (λ (rs : List CheckedRecord). old ++ spelled rs) (sym (slots_picks.first_held held ks n all));
    }

take_take : {A : Type 0} (m n : ℕ) (xs : List A) → m ≤ length (take n xs) → take m (take n xs) ≡ take m xs
take_take zero n xs h = refl
take_take (suc m) zero xs h = absurd (omega (arith, h))
take_take (suc m) (suc n) [] h = refl
take_take (suc m) (suc n) (x ∷ xs) h = ap (λ t. x ∷ t) (take_take m n xs (omega (arith, h)))

shorter : {A : Type 0} (n : ℕ) (xs : List A) → length (take n xs) ≤ length xs
shorter zero xs = omega arith
shorter (suc n) [] = omega arith
shorter (suc n) (x ∷ xs) = omega (arith, shorter n xs)

-- a front of the first of them is a front of all
pub front_of_first : (old now : List ℕ) (rs : List CheckedRecord) (n : ℕ) → IsFront old now (take n rs) → IsFront old now rs
front_of_first old now rs n f =
    record {
      count = f.count;
      within = omega (arith, f.within, shorter n rs);
      grown = f.grown ∙ ap (λ (ts : List CheckedRecord). old ++ spelled ts) (take_take f.count n rs f.within);
    }

-- what holds anyway holds after an error
pub anyway : {T E P : Type 0} (r : Result T E) → P → OnErr r P
anyway (Ok x) p = tt
anyway (Err e) p = p
