-- The order of keys, and the slots of what may be put.
use Rattle.std.proofs.Common.{ℕ, ◌≤◌, arith}
use Rattle.ff_ids.specs.declared.TheConstants.{MAX_TOLERANCE}
use Rattle.records.specs.declared.Body.{Body}
use Rattle.records.specs.declared.Body.TheVariants as bodies
use Rattle.record_slots.specs.Held.{key_of}
use Rattle.record_slots.specs.Slots.{HasSlot}
use Rattle.record_set.specs.Picks.{HasRing}
pub use Rattle.record_slots.proofs.KeyLemmas.{key_cmp_total, key_cmp-IsAntisymmetric, is_key, is_key-true, is_key-same, is_key-other, held-here, held-kept}

-- the key of what may be put
pub slot_of_body : (t : ℕ) (b : Body) → t ≤ MAX_TOLERANCE → HasRing t b → HasSlot (key_of b)
slot_of_body t (bodies.Certificate c) few ring = tt
slot_of_body t (bodies.Note n) few ring = tt
slot_of_body t (bodies.Accusation a) few ring = omega (arith, ring, few)
