-- What a signer keeps, what it answers, and what it signs.
use Rattle.std.specs.Prelude.{◌≡◌, ℕ, ◌+◌, ◌^◌, ◌<◌, Bool, true, false, Result, Ok, Err}
use Rattle.ff_ids.specs.declared.TheConstants.{MAX_RINGS}
use Rattle.ff_ids.specs.declared.Group.{Group}
use Rattle.ff_ids.specs.declared.Mask.{Mask}
use Rattle.records.specs.declared.Body.{Body}
use Rattle.records.specs.declared.Body.TheVariants.{Certificate, Note, Accusation}
use Rattle.records.specs.Signing.{signed_bytes, CheckedRecord}
use Rattle.sign_keys.specs.Keys.{KeySecret, index_count, public_key, signature_of}
use Rattle.epoch_store.specs.declared.Stored.{Stored}
use Rattle.epoch_store.specs.declared.seat.Seat.{Seat}
use Rattle.epoch_store.specs.Seat.{next_seat}
use Rattle.signer.specs.declared.SignFault.{SignFault}
use Rattle.signer.specs.declared.SignFault.TheVariants.{OutOfMemory, Closed, Exhausted, StoreFault}

-- what a signer keeps: its group and key, the next index of the key, what its store keeps and the seat of the
-- store's next entry, and whether the disk has failed under it
pub record SignerState : Type 0 where
  pub group : Group
  pub key : KeySecret
  pub leaf : ℕ
  pub state : Stored
  pub seat : Seat
  pub closed : Bool

-- what the store keeps once the body is signed: the next index is spent, and a note is the newest
abbrev pub stored_after : Stored → Body → Stored
stored_after s (Certificate c) = record s { next = s.next + 1 }
stored_after s (Note n) = record { next = s.next + 1; epoch = n.epoch; mask = n.mask }
stored_after s (Accusation a) = record s { next = s.next + 1 }

-- what may be signed next: a note has the epoch after the newest one
abbrev pub MayComeNext : Stored → Body → Type 0
MayComeNext s (Certificate c) = Unit {0}
MayComeNext s (Note n) = (n.epoch ≡ s.epoch + 1) × (n.mask.0 < 2 ^ MAX_RINGS)
MayComeNext s (Accusation a) = Unit {0}

-- the note of this member and mask that comes next
abbrev pub next_note : Stored → ℕ → Mask → Body
next_note s member mask = Note (record { member = member; epoch = s.epoch + 1; mask = mask })

-- the answer of a signature, in this state: exactly one of these may come, but for want of memory
abbrev pub AnswersBy : {T : Type 0} → SignerState → Result T SignFault → Type 0
AnswersBy s (Ok value) = (s.closed ≡ false) × (s.state.next < index_count s.key)
AnswersBy s (Err OutOfMemory) = Unit {0}
AnswersBy s (Err Closed) = s.closed ≡ true
AnswersBy s (Err (Exhausted next)) = (s.closed ≡ false) × (next ≡ s.state.next) × (next ≡ index_count s.key)
AnswersBy s (Err StoreFault) = (s.closed ≡ false) × (s.state.next < index_count s.key)

-- the disk failed
abbrev pub is_store_fault : {T : Type 0} → Result T SignFault → Bool
is_store_fault (Ok value) = false
is_store_fault (Err OutOfMemory) = false
is_store_fault (Err Closed) = false
is_store_fault (Err (Exhausted next)) = false
is_store_fault (Err StoreFault) = true

-- the signer after that answer to the body: a leaf is spent where it is signed, and nowhere else
abbrev pub after_signing : {T : Type 0} → SignerState → Body → Result T SignFault → SignerState
after_signing s body (Ok value) =
    let kept = stored_after s.state body in
    record s { leaf = s.leaf + 1; state = kept; seat = next_seat s.seat kept }
after_signing s body (Err OutOfMemory) = s
after_signing s body (Err Closed) = s
after_signing s body (Err (Exhausted next)) = s
after_signing s body (Err StoreFault) = record s { closed = true }

-- the record of the body, with the signature by this index over its signed bytes
abbrev pub signed_by : Group → KeySecret → ℕ → Body → CheckedRecord
signed_by group key index body = record {
  rec = record { body = body; signature = signature_of key index (signed_bytes group.tag group.t body) };
  key = public_key key;
  tag = group.tag;
  t = group.t;
}

abbrev pub signed_record : SignerState → Body → CheckedRecord
signed_record s body = signed_by s.group s.key s.state.next body

-- what holds where nothing was tried
abbrev pub OnIdle : {T : Type 0} → Result T SignFault → Type 0 → Type 0
OnIdle (Ok value) P = Unit {0}
OnIdle (Err OutOfMemory) P = P
OnIdle (Err Closed) P = P
OnIdle (Err (Exhausted next)) P = P
OnIdle (Err StoreFault) P = Unit {0}
