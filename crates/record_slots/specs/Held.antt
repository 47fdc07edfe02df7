-- What is kept of records, each under its key: the records themselves, or what is known of them.
use Rattle.std.specs.Prelude.{ℕ, List, [], ◌∷◌, Option, Some, None, map as each}
use Rattle.std.specs.Ordering.{nat_cmp}
use Rattle.std.specs.Cmp.Lexicographic.{slice_cmp}
use Rattle.std.specs.declared.cmp.Ordering.{Ordering}
use Rattle.std.specs.FinMap as map
use Rattle.ff_ids.specs.declared.RingNo.{RingNo}
use Rattle.ff_ids.specs.declared.summary.RecordKey.{RecordKey}
use Rattle.ff_ids.specs.declared.summary.RecordKey.TheVariants as keys
use Rattle.records.specs.declared.Body.{Body}
use Rattle.records.specs.declared.Body.TheVariants as bodies

-- A key is its kind, the member, and of a kept accusation the ring.
abbrev pub key_numbers : RecordKey → List ℕ
key_numbers (keys.Certificate m) = 0 ∷ m ∷ []
key_numbers (keys.Note m) = 1 ∷ m ∷ []
key_numbers (keys.Accusation m ring) = 2 ∷ m ∷ ring.0 ∷ []
key_numbers (keys.Removal m) = 3 ∷ m ∷ []

abbrev pub key_cmp : RecordKey → RecordKey → Ordering
key_cmp a b = slice_cmp nat_cmp (key_numbers a) (key_numbers b)

-- By each key what is held under it.
abbrev pub HeldOf : Type 0 → Type 0
HeldOf X = map.FinMap key_cmp X

-- What is held under the key, or nothing.
abbrev pub held_under : {X : Type 0} → HeldOf X → RecordKey → Option X
held_under held k = map.get held k

-- The key of what a record says: an accusation has that of the accused and the ring, as long as it is kept.
abbrev pub key_of : Body → RecordKey
key_of (bodies.Certificate c) = keys.Certificate c.member
key_of (bodies.Note n) = keys.Note n.member
key_of (bodies.Accusation a) = keys.Accusation a.accused a.ring

-- Under the key there is this, or nothing.
abbrev pub with_option : {X : Type 0} → HeldOf X → RecordKey → Option X → HeldOf X
with_option held k None = map.remove held k
with_option held k (Some x) = map.insert held k x

-- The accusation against the member on the ring is that of its removal now, and kept no more.
abbrev pub retired : {X : Type 0} → HeldOf X → ℕ → RingNo → HeldOf X
retired held m ring =
    with_option (map.remove held (keys.Accusation m ring)) (keys.Removal m) (held_under held (keys.Accusation m ring))

-- Each that is held is changed so, under its key.
abbrev pub changed : {X : Type 0} → (X → X) → HeldOf X → HeldOf X
changed f held = map.from_entries (each (λ e. (e.0, f e.1)) (map.entries held))
