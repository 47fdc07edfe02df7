-- Worked rows: what fits, the bits of rings, and entries, computed from the definitions alone.
use Rattle.std.proofs.Common.{◌≡◌, ℕ, ◌∷◌, [], ◌==◌, ◌||◌, ◌++◌, List, Some, None, replicate, refl}
use Rattle.ff_ids.specs.Masks.{bits_where}
use Rattle.ff_ids.specs.declared.AccBody.{AccBody}
use Rattle.ff_ids.specs.declared.summary.RecordKey.TheVariants as keys
use Rattle.records.specs.declared.Body.{Body}
use Rattle.records.specs.declared.Body.TheVariants as bodies
use Rattle.record_slots.specs.Held.{key_of}
use Rattle.record_slots.specs.Picks.{fitting}
use Rattle.record_slots.specs.Slots.{Slot, entry_in}

abbrev note : ℕ → ℕ → Body
note epoch mask = bodies.Note (record { member = 2; epoch = epoch; mask = record { 0 = mask } })

abbrev accusation : AccBody
accusation = record { accuser = 1; accused = 2; epoch = 4; ring = record { 0 = 1 } }

-- numbers are as long as they are
three_fit : (fitting (λ (n : ℕ). n) 60 (20 ∷ 20 ∷ 20 ∷ []) ≡ 3)
    × (fitting (λ (n : ℕ). n) 59 (20 ∷ 20 ∷ 20 ∷ []) ≡ 2)
    × (fitting (λ (n : ℕ). n) 40 (20 ∷ 20 ∷ 20 ∷ []) ≡ 2)
    × (fitting (λ (n : ℕ). n) 39 (20 ∷ 20 ∷ 20 ∷ []) ≡ 1)
    × (fitting (λ (n : ℕ). n) 20 (20 ∷ 20 ∷ 20 ∷ []) ≡ 1)
    × (fitting (λ (n : ℕ). n) 19 (20 ∷ 20 ∷ 20 ∷ []) ≡ 0)
    × (fitting (λ (n : ℕ). n) 60 [] ≡ 0)
three_fit = (refl, refl, refl, refl, refl, refl, refl)

-- the first that doesn't fit ends it, also where a later one would
first_ends : fitting (λ (n : ℕ). n) 20 (21 ∷ 20 ∷ []) ≡ 0
first_ends = refl

-- the accused is whom an accusation is held under
by_key : (key_of (bodies.Accusation accusation) ≡ keys.Accusation 2 (record { 0 = 1 })) × (key_of (note 4 6) ≡ keys.Note 2)
by_key = (refl, refl)

bits : (bits_where (λ r. (r == 0) || (r == 2)) 63 ≡ 5) × (bits_where (λ r. r == 62) 63 ≡ 4611686018427387904) × (bits_where (λ r. r == 63) 63 ≡ 0)
unfolding bits_where
bits = (refl, refl, refl)

-- the slots of a member with a note and an accusation on ring 1, behind those of two others, where bodies are held
abbrev slots : List (Slot Body)
slots = replicate 132 None ++ None ∷ Some (note 4 6) ∷ None ∷ Some (bodies.Accusation accusation) ∷ []

entries : (entry_in (λ (b : Body). b) slots 2 ≡ record { member = 2; epoch = 4; mask = record { 0 = 6 }; rings = 2 })
    × (entry_in (λ (b : Body). b) slots 1 ≡ record { member = 1; epoch = 0; mask = record { 0 = 0 }; rings = 0 })
unfolding bits_where
entries = (refl, refl)
