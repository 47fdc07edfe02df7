-- What the signing of certificates does: to the key, to the disk, and to what was written, by the answer.
use Rattle.std.specs.Prelude.{◌≡◌, ℕ, zero, suc, ◌+◌, ◌<◌, ◌≤◌, ◌⊎◌, false, List, [], ◌∷◌, ◌++◌, length, map, Result, Ok, Err}
use Rattle.epoch_store.specs.declared.Stored.{Stored}
use Rattle.epoch_store.specs.declared.seat.Seat.{Seat}
use Rattle.epoch_store.specs.Seat.{next_seat}
use Rattle.epoch_store.specs.Asked.{put_calls}
use Rattle.epoch_store.specs.Store.{IsSettled}
use Rattle.play.specs.Plays.{IoState}
use Rattle.ports.specs.Count.{next_count}
use Rattle.ports.specs.DiskCalls.{AsFarAs, DiskCall, with_calls}
use Rattle.records.specs.declared.Body.TheVariants.{Certificate}
use Rattle.records.specs.declared.CertBody.{CertBody}
use Rattle.schedule_texts.specs.declared.line.RosterLine.{RosterLine}
use Rattle.schedule_texts.specs.declared.line.RosterLine.TheVariants as asked
use Rattle.sign_keys.specs.Keys.{index_count}
use Rattle.signer.specs.declared.SignFault.{SignFault}
use Rattle.signer.specs.declared.SignFault.TheVariants as fault
use Rattle.signer.specs.Lives.{LivesOn, spent_by}
use Rattle.signer.specs.Signing.{SignerState}
use Rattle.authority.specs.declared.halt.Halt.{Halt}
use Rattle.authority.specs.declared.halt.Halt.TheVariants as halt
use Rattle.ports.specs.Outside.{OfDisk}
use Rattle.authority.specs.Telling.{IsCut, IsTold}
use Rattle.authority.specs.Lines.{signed_line, signed_lines}

abbrev pub halt_of_fault : SignFault → Halt
halt_of_fault fault.OutOfMemory = halt.OutOfMemory
halt_of_fault fault.Closed = halt.StoreFault
halt_of_fault (fault.Exhausted next) = halt.Exhausted next
halt_of_fault fault.StoreFault = halt.StoreFault

-- the entry that is put behind so many signatures, in a store that was found with this state
abbrev pub entry_behind : Stored → ℕ → Stored
entry_behind o signed = record o { next = o.next + signed + 1 }

-- the seat behind so many such entries, the first of which was put in this one
unfoldable pub seat_after : Stored → Seat → ℕ → Seat
seat_after o seat zero = seat
seat_after o seat (suc signed) = next_seat (seat_after o seat signed) (entry_behind o signed)

-- the calls that put the next index behind so many signatures, in a store that was found with this state and this seat; the
-- last call first
unfoldable pub put_behind : Stored → Seat → ℕ → List DiskCall
put_behind o seat signed = put_calls (seat_after o seat signed) (entry_behind o signed)

-- the calls that put one next index after the other, for so many signatures; the last call first
abbrev pub puts : Stored → Seat → ℕ → List DiskCall
puts o seat zero = []
puts o seat (suc signed) = put_behind o seat signed ++ puts o seat signed

-- Just these certificates were signed, in turn, each with the next index, and each behind one put and no other call: so the
-- store keeps, and the lives of the key go on with them, at each moment with a front of them.
pub record AreSigned (certs : List CertBody) (s later : SignerState) (old new : OfDisk) : Type 0 where
  pub group : later.group ≡ s.group
  pub key : later.key ≡ s.key
  pub going : later.closed ≡ false
  pub next : later.state.next ≡ s.state.next + length certs
  pub epoch : later.state.epoch ≡ s.state.epoch
  pub mask : later.state.mask ≡ s.state.mask
  pub seat : later.seat ≡ seat_after s.state s.seat (length certs)
  pub within : s.state.next ≤ index_count s.key → later.state.next ≤ index_count s.key
  pub faults : new.faults ≡ old.faults
  pub calls : new.calls ≡ with_calls (puts s.state s.seat (length certs)) old.calls
  pub settled : (tag : List ℕ) → IsSettled tag s.state s.seat old.moments → IsSettled tag later.state later.seat new.moments
  pub lives : LivesOn (spent_by s.state (map Certificate certs)) s later old.moments new.moments

-- A leaf was left, and the disk failed in the put of the next index: no call came behind that, no signature was handed out, and
-- the lives of the key go on without it.
pub record FailsToPut (s later : SignerState) (old new : OfDisk) : Type 0 where
  pub left : s.state.next < index_count s.key
  pub faults : new.faults ≡ next_count old.faults
  pub calls : AsFarAs (put_behind s.state s.seat 0) old.calls new.calls
  pub lives : LivesOn [] s later old.moments new.moments

-- the line of the certificate that is signed next
abbrev pub line_next : SignerState → CertBody → List ℕ
line_next s c = signed_line s.group s.key s.state.next c

-- One certificate.
abbrev pub SignsOne : CertBody → SignerState → SignerState → IoState → IoState → OfDisk → OfDisk → Result (Unit {0}) Halt → Type 0
SignsOne c s later between now old new (Ok _) = AreSigned (c ∷ []) s later old new × IsTold between now (line_next s c)
SignsOne c s later between now old new (Err (halt.Refused line w)) = ⊥
SignsOne c s later between now old new (Err halt.ReadFault) = ⊥
SignsOne c s later between now old new (Err halt.WriteFault) = AreSigned (c ∷ []) s later old new × IsCut between now (line_next s c)
SignsOne c s later between now old new (Err halt.StoreFault) = (now ≡ between) × FailsToPut s later old new
SignsOne c s later between now old new (Err (halt.StoreBroken place byte)) = ⊥
SignsOne c s later between now old new (Err (halt.StoreTaken len)) = ⊥
SignsOne c s later between now old new (Err (halt.Exhausted next)) =
    (now ≡ between) × AreSigned [] s later old new × (next ≡ s.state.next) × (next ≡ index_count s.key)
SignsOne c s later between now old new (Err halt.OutOfMemory) =
    (now ≡ between) × (AreSigned [] s later old new ⊎ AreSigned (c ∷ []) s later old new)

-- One line of a roster: nothing is done for one that asks for no certificate.
abbrev pub SignsLine : RosterLine → SignerState → SignerState → IoState → IoState → OfDisk → OfDisk → Result (Unit {0}) Halt → Type 0
SignsLine (asked.Cert c) s later between now old new result = SignsOne c s later between now old new result
SignsLine _ s later between now old new result = (result ≡ Ok tt) × (later ≡ s) × (now ≡ between) × (new ≡ old)

-- The certificates up to one of them, and those behind it.
pub record IsPart (certs done : List CertBody) (c : CertBody) : Type 0 where
  pub rest : List CertBody
  pub are : certs ≡ done ++ c ∷ rest

-- the lines of these certificates
abbrev pub lines_of : SignerState → List CertBody → List ℕ
lines_of s certs = signed_lines s.group s.key s.state.next certs

-- Certificates were signed and their lines written, up to one of which P holds, in the state, with what was written and on
-- the disk so far.
pub record Upto (certs : List CertBody) (s : SignerState) (between : IoState) (old : OfDisk) (P : CertBody → SignerState → IoState → OfDisk → Type 0) : Type 0 where
  pub done : List CertBody
  pub one : CertBody
  pub part : IsPart certs done one
  pub then : SignerState
  pub mid : IoState
  pub disk : OfDisk
  pub signed : AreSigned done s then old disk
  pub told : IsTold between mid (lines_of s done)
  pub ends : P one then mid disk

-- All of them, one after the other.
abbrev pub SignsAll : List CertBody → SignerState → IoState → IoState → OfDisk → OfDisk → Result (Unit {0}) Halt → Type 0
SignsAll certs s between now old new (Ok _) = (later : SignerState) × AreSigned certs s later old new × IsTold between now (lines_of s certs)
SignsAll certs s between now old new (Err h) = Upto certs s between old (λ c then mid disk. (later : SignerState) × SignsOne c then later mid now disk new (Err h))
