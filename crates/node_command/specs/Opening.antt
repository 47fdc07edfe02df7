-- How the store of a member is opened and a life begun: what comes of the disk, by the answer.
use Rattle.std.specs.Prelude.{◌≡◌, ℕ, ◌<◌, ◌≤◌, ◌⊎◌, false, List, [], ◌∷◌, ◌++◌, Result, Ok, Err}
use Rattle.epoch_store.specs.declared.seat.Seat.{Seat}
use Rattle.epoch_store.specs.declared.StoreError.{StoreError}
use Rattle.epoch_store.specs.declared.Stored.{Stored}
use Rattle.epoch_store.specs.Asked.{ReadsGates, open_calls}
use Rattle.epoch_store.specs.Calls.{HoldsStore, OpensAs, SettlesAs, same}
use Rattle.epoch_store.specs.Store.{StoreOf}
use Rattle.journal.specs.declared.event.Event as journal
use Rattle.ports.specs.Count.{next_count}
use Rattle.ports.specs.Disk.{Fails, Moment, Since, stays}
use Rattle.ports.specs.Outside.{OfDisk}
use Rattle.secrets.specs.Secrets.{nonce_seed}
use Rattle.sign_keys.specs.Keys.{index_count, public_key}
use Rattle.signer.specs.Lives.{EndsNow, EndsWithin, IsLiving, Spent}
use Rattle.signer.specs.Signing.{SignerState}
use Rattle.detector.specs.Silence.{nonce}
use Rattle.node_rules.specs.Nodes.{Setting}
use Rattle.node_rules.specs.Calls.{Call}
use Rattle.node_rules.specs.Starting.{started}
use Rattle.node_core.specs.Begins.{IsVouchable}
use Rattle.node_core.specs.Playing.{IsNode, Kept, setting_of}
use Rattle.node_core.specs.Rolls.{recs_of}
use Rattle.node_core.specs.Spending.{spent_told}
use Rattle.node_command.specs.declared.halt.NodeHalt.{NodeHalt}
use Rattle.node_command.specs.declared.halt.NodeHalt.TheVariants as halt
use Rattle.node_command.specs.declared.kit.Member.{Member}
use Rattle.node_command.specs.Halts.{halt_for}
use Rattle.node_command.specs.Members.{key_of, tag_of}

-- what the life of a member is opened with
abbrev pub setting_for : Member → Setting
setting_for m = setting_of m.group m.heal m.own.member m.authority (key_of m)

-- How its life begins, where its store keeps this.
abbrev pub start_of : Member → Stored → Call
start_of m stored = started (setting_for m) (nonce (nonce_seed m.own.secret stored.next)) (recs_of m.certificates.items) stored

-- ## The disk

-- A store of the member's key with this state is found on the disk.
abbrev pub IsFound : Member → Stored → OfDisk → Type 0
IsFound m stored old = (seat : Seat) × HoldsStore (tag_of m) stored seat old.moments

-- The disk failed as the store was opened: each crash leaves what it would have left before.
pub record OpeningFails (old new : OfDisk) : Type 0 where
  pub faults : new.faults ≡ next_count old.faults
  pub moments : Fails stays old.moments new.moments

-- The file is no store of the member's key, as its reading says, and stays as it was.
pub record IsBroken (m : Member) (h : NodeHalt) (old new : OfDisk) : Type 0 where
  pub faults : new.faults ≡ old.faults
  pub error : StoreError
  pub is : halt_for error ≡ h
  pub reads : OpensAs (tag_of m) old.moments (Err error)
  pub settles : SettlesAs same old.moments new.moments
  pub moments : Fails stays old.moments new.moments

-- And the calls made were those that open the file of this name, and read its gates up to the one at which it breaks, or up to
-- the closed one where its reading comes to another tag.
pub record IsRefused (m : Member) (name : List ℕ) (h : NodeHalt) (old new : OfDisk) : Type 0 where
  pub broken : IsBroken m h old new
  pub calls : ReadsGates (open_calls name) old.moments (Err broken.error) old.calls new.calls

abbrev pub OpensFile : {T : Type 0} → Member → List ℕ → OfDisk → OfDisk → Result T NodeHalt → Type 0
OpensFile m name old new (Ok value) = Unit {0}
OpensFile m name old new (Err (halt.StoreBroken place byte)) = IsRefused m name (halt.StoreBroken place byte) old new
OpensFile m name old new (Err other) = Unit {0}

-- where crashes end the lives of the key so at first, each crash now ends them with these spent beside
abbrev pub Ends : Member → List Spent → OfDisk → OfDisk → Type 0
Ends m spent old new = (before : List ℕ) (spent_before : List Spent) → EndsNow (tag_of m) before spent_before old.moments
    → EndsNow (tag_of m) before (spent_before ++ spent) new.moments

-- At each moment of the run each crash leaves the file as lives do that also spent a prefix of these.
abbrev pub EndsFronts : Member → List Spent → OfDisk → OfDisk → Type 0
EndsFronts m spent old new = (before : List ℕ) (spent_before : List Spent)
    → EndsNow (tag_of m) before spent_before old.moments
    → Since (EndsWithin (tag_of m) before spent_before spent) old.moments new.moments

-- A store of the member's key is there, and the key has no index left: nothing is spent.
pub record IsUsedUp (m : Member) (next : ℕ) (old new : OfDisk) : Type 0 where
  pub faults : new.faults ≡ old.faults
  pub stored : Stored
  pub found : IsFound m stored old
  pub next_is : next ≡ stored.next
  pub gone : index_count (key_of m) ≤ next
  pub ends : Ends m [] old new
  pub any_moment : EndsFronts m [] old new

-- Memory was refused as the store was opened, or before.
pub record IsUnopened (old new : OfDisk) : Type 0 where
  pub faults : new.faults ≡ old.faults
  pub moments : Fails stays old.moments new.moments

-- The disk failed in the first signature: nothing is spent.
pub record StartFails (m : Member) (old new : OfDisk) : Type 0 where
  pub faults : new.faults ≡ next_count old.faults
  pub stored : Stored
  pub found : IsFound m stored old
  pub left : stored.next < index_count (key_of m)
  pub ends : Ends m [] old new
  pub any_moment : EndsFronts m [] old new

-- the disk's moments are modelled
abbrev pub Tells : List Moment → Type 0
Tells [] = ⊥
Tells (now ∷ past) = Unit {0}

-- lives of the member's key, from a file that is a store with this state on: they have spent just this, and the last goes on
abbrev pub Fresh : Member → Stored → List Spent → SignerState → List Moment → Type 0
Fresh m stored spent signer moments = (image : List ℕ) × StoreOf (tag_of m) image stored × IsLiving (tag_of m) image spent signer moments

-- Memory was refused as the life began: one index is spent at the most.
pub record IsUnstarted (m : Member) (old new : OfDisk) : Type 0 where
  pub faults : new.faults ≡ old.faults
  pub stored : Stored
  pub found : IsFound m stored old
  pub spent : List Spent
  pub ends : Ends m spent old new
  pub any_moment : EndsFronts m spent old new
  pub signer : SignerState
  pub fresh : Tells old.moments → Fresh m stored spent signer new.moments

-- A store of the member's key with this state was found, and the life has begun that this is the start of: the node stands so,
-- and the lives of the key go on with what it has spent.
pub record IsBegun (m : Member) (stored : Stored) (node : Kept) (told : List journal.Event) (old new : OfDisk) : Type 0 where
  pub faults : new.faults ≡ old.faults
  pub found : IsFound m stored old
  pub is : IsNode (setting_for m) node (start_of m stored).node
  pub told_is : told ≡ (start_of m stored).told
  pub vouchable : IsVouchable (setting_for m) (public_key (key_of m)) (recs_of m.certificates.items) stored
  pub going : node.ended ≡ false
  pub unclosed : node.signer.closed ≡ false
  pub lives : (before : List ℕ) (spent : List Spent) → EndsNow (tag_of m) before spent old.moments
      → IsLiving (tag_of m) before (spent ++ spent_told (start_of m stored).told) node.signer new.moments
  pub any_moment : EndsFronts m (spent_told (start_of m stored).told) old new
  pub fresh : Tells old.moments → Fresh m stored (spent_told (start_of m stored).told) node.signer new.moments

abbrev pub Begins : Member → OfDisk → OfDisk → List journal.Event → Result Kept NodeHalt → Type 0
Begins m old new told (Ok node) = (stored : Stored) × IsBegun m stored node told old new
Begins m old new told (Err (halt.Refused line w)) = ⊥
Begins m old new told (Err halt.ReadFault) = ⊥
Begins m old new told (Err halt.WriteFault) = ⊥
Begins m old new told (Err halt.StoreFault) = OpeningFails old new ⊎ StartFails m old new
Begins m old new told (Err (halt.StoreBroken place byte)) = IsBroken m (halt.StoreBroken place byte) old new
Begins m old new told (Err halt.LinkFault) = ⊥
Begins m old new told (Err (halt.Exhausted next)) = IsUsedUp m next old new
Begins m old new told (Err halt.OutOfMemory) = IsUnopened old new ⊎ IsUnstarted m old new
