-- What is handed out over calls in any order.
use Rattle.std.specs.Prelude.{◌≡◌, ℕ, ◌<◌, Option, None, Some, List, [], ◌∷◌, ◌++◌, map}
use Rattle.std.specs.List.{AllByRecursion}
use Rattle.ff_ids.specs.declared.Group.{Group}
use Rattle.sign_keys.specs.Keys.{KeySecret, TopSignsTree, index_count, key_of_kinds}
use Rattle.ports.specs.Disk.{Moment, Leaves, settled}
use Rattle.ports.specs.MemoryDisk.{DiskState, moments_of}
use Rattle.records.specs.Signing.{CheckedRecord}
use Rattle.epoch_store.specs.declared.Stored.{Stored}
use Rattle.epoch_store.specs.Store.{StoreOf}
use Rattle.signer.specs.Signing.{SignerState, signed_by}
use Rattle.signer.specs.Lives.{Spent, IsOnce, Lived, IsLiving}
use Rattle.signer.specs.declared.key_lives.Holder.{Holder}
use Rattle.signer.specs.declared.key_lives.Act.{Act}
use Rattle.signer.specs.declared.key_lives.Act.TheVariants as act

-- the moments of a disk in memory
abbrev pub told : DiskState → List Moment
told disk = moments_of disk.start disk.log

-- the newest moment is a settled file that is a store
abbrev pub IsQuiet : List Moment → Type 0
IsQuiet [] = ⊥
IsQuiet (now ∷ past) = (now ≡ settled now.image) × (tag : List ℕ) × (state : Stored) × StoreOf tag now.image state

-- the key of what a member keeps
abbrev pub key_of : Holder → KeySecret
key_of h = key_of_kinds h.kinds h.id h.seed

-- what a signer is opened under: its group, and the tag of its store
pub record Under : Type 0 where
  pub group : Group
  pub tag : List ℕ

-- an opening names what the signer is under from then on
abbrev pub under_after : Act → Under → Under
under_after (act.Open group tag) under = record { group = group; tag = tag }
under_after other under = under

-- each file that a crash at this moment may leave is a store, and ends lives that began with the one file and spent this
abbrev pub EndsSome : List ℕ → List Spent → Moment → Type 0
EndsSome before spent moment = (c : List ℕ) → Leaves moment c → (tag : List ℕ) × Lived tag before c spent

abbrev pub EndsSomeNow : List ℕ → List Spent → List Moment → Type 0
EndsSomeNow before spent [] = ⊥
EndsSomeNow before spent (now ∷ past) = EndsSome before spent now

-- with a signer under this or with none, so much was spent in all since the file was the first one
abbrev pub Stands : Holder → Under → List ℕ → List Spent → Option SignerState → List Moment → Type 0
Stands h under before spent None moments = EndsSomeNow before spent moments
Stands h under before spent (Some s) moments =
    IsLiving under.tag before spent s moments × (s.key ≡ key_of h) × (s.group ≡ under.group)

-- what was spent for a record, and the group whose record it is
pub record Handed : Type 0 where
  pub group : Group
  pub spent : Spent

-- the record by the leaf that was spent
abbrev pub record_of : Holder → Handed → CheckedRecord
record_of h handed = signed_by handed.group (key_of h) handed.spent.index handed.spent.body

-- the key has that leaf
abbrev pub IsWithin : Holder → Spent → Type 0
IsWithin h spent = spent.index < index_count (key_of h)

-- What the top leaf of this index signs in the record is the public key of its own bottom tree.
abbrev pub HasTop : Holder → Handed → Type 0
HasTop h handed = TopSignsTree (key_of h) handed.spent.index (record_of h handed).rec.signature

abbrev pub spent_for : List Handed → List Spent
spent_for handed = map (λ x. x.spent) handed

-- a record of the group was handed out, which was spent too, or none was
abbrev pub HandsOut : Holder → Under → List ℕ → List Spent → Option CheckedRecord → Option SignerState → List Moment → Type 0
HandsOut h under before spent None signer moments = Stands h under before spent signer moments
HandsOut h under before spent (Some rec) signer moments =
    (last : Spent) × (rec ≡ record_of h (record { group = under.group; spent = last })) × IsWithin h last
    × Stands h under before (spent ++ last ∷ []) signer moments

abbrev pub with_record : List CheckedRecord → Option CheckedRecord → List CheckedRecord
with_record records None = records
with_record records (Some rec) = records ++ rec ∷ []

-- These are the records, of whatever groups, by leaves of the key whose indexes rise strictly, as do the epochs of the notes;
-- of a key of two levels each top leaf has signed one message in all of them.
pub record AreOnce (h : Holder) (records : List CheckedRecord) : Type 0 where
  pub handed : List Handed
  pub are : records ≡ map (record_of h) handed
  pub within : AllByRecursion (IsWithin h) (spent_for handed)
  pub once : IsOnce (spent_for handed)
  pub tops : AllByRecursion (HasTop h) handed
