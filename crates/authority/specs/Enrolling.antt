-- What an enrolment does: to the store, to what was written, and to what its key has spent, by the answer.
use Rattle.std.specs.Prelude.{◌≡◌, ℕ, ◌+◌, ◌<◌, ◌≤◌, ◌⊎◌, false, max, Option, List, [], ◌∷◌, ◌++◌, length, map, Result, Ok, Err}
use Rattle.epoch_store.specs.declared.StoreError.{StoreError}
use Rattle.epoch_store.specs.declared.Stored.{Stored}
use Rattle.epoch_store.specs.declared.seat.Seat.{Seat}
use Rattle.epoch_store.specs.Asked.{ReadsGates, ReadsUpTo, StopsReading, open_calls}
use Rattle.epoch_store.specs.Calls.{HoldsStore, OpensAs, SettlesAs, same}
use Rattle.epoch_store.specs.Store.{IsSettled}
use Rattle.line_text.specs.declared.bad_word.BadWord.{BadWord}
use Rattle.play.specs.Plays.{IoState}
use Rattle.play.specs.declared.stop.Stop.{Stop}
use Rattle.play.specs.declared.stop.Stop.TheVariants as stop
use Rattle.ports.specs.Count.{next_count}
use Rattle.ports.specs.Disk.{Fails, Moment, Since, stays}
use Rattle.ports.specs.DiskCalls.{AsFarAs, DiskCall, ToOpen, with_calls}
use Rattle.records.specs.declared.Body.TheVariants.{Certificate}
use Rattle.records.specs.declared.CertBody.{CertBody}
use Rattle.schedule_texts.specs.declared.line.RosterLine.{RosterLine}
use Rattle.schedule_texts.specs.declared.roster.RosterText.TheVariants as roster
use Rattle.sign_keys.specs.Keys.{IsNew, index_count}
use Rattle.signer.specs.Lives.{EndsNow, EndsWithin, Spent, spent_by}
use Rattle.whole_text.specs.Gathered.{IsUnfinished}
use Rattle.authority.specs.declared.halt.Halt.{Halt}
use Rattle.authority.specs.declared.halt.Halt.TheVariants as halt
use Rattle.authority.specs.declared.setting.Setting.{Setting}
use Rattle.authority.specs.Halts.{halt_for}
use Rattle.ports.specs.Outside.{OfDisk}
use Rattle.authority.specs.Settings.{asked_in, key_of, roster_judging, tag_of}
use Rattle.authority.specs.Telling.{IsCut, IsTold}
use Rattle.authority.specs.Texts.{IsRoster}
use Rattle.authority.specs.Lines.{lines_for, signed_line, signed_lines}
use Rattle.authority.specs.Signing.{IsPart, put_behind, puts, seat_after}
use Rattle.authority.specs.declared.enrolling.Opened.{Opened}

-- ## The store

-- A store of the setting's key with this state was found under this name, by the calls that open it and read its gates up to the
-- closed one. It is settled as it was; each crash leaves what it would have left before.
pub record IsOpened (name : List ℕ) (s : Setting) (o : Stored) (seat : Seat) (old new : OfDisk) : Type 0 where
  pub faults : new.faults ≡ old.faults
  pub calls : ReadsUpTo (open_calls name) old.moments seat old.calls new.calls
  pub found : HoldsStore (tag_of s) o seat old.moments
  pub settled : IsSettled (tag_of s) o seat new.moments
  pub kept : Fails stays old.moments new.moments

-- The file is no store of the setting's key, as its reading says, which ended there; it is settled as it was.
pub record IsBroken (name : List ℕ) (s : Setting) (h : Halt) (old new : OfDisk) : Type 0 where
  pub faults : new.faults ≡ old.faults
  pub error : StoreError
  pub is : halt_for error ≡ h
  pub calls : ReadsGates (open_calls name) old.moments (Err error) old.calls new.calls
  pub reads : OpensAs (tag_of s) old.moments (Err error)
  pub settles : SettlesAs same old.moments new.moments
  pub kept : Fails stays old.moments new.moments

-- The disk failed in a call that opens the store, and none came behind it: each crash leaves what it would have left before.
pub record OpeningFails (name : List ℕ) (old new : OfDisk) : Type 0 where
  pub faults : new.faults ≡ next_count old.faults
  pub calls : StopsReading (open_calls name) old.moments old.calls new.calls
  pub moments : Fails stays old.moments new.moments

-- Memory was refused as the file of this name was opened, or before: each crash leaves what it would have left before.
pub record IsUnopened (name : List ℕ) (old new : OfDisk) : Type 0 where
  pub faults : new.faults ≡ old.faults
  pub calls : AsFarAs (ToOpen name ∷ []) old.calls new.calls
  pub moments : Fails stays old.moments new.moments

-- the key, of which no index was handed out, and the store
pub record HasOpened (name : List ℕ) (s : Setting) (p : Opened) (old new : OfDisk) : Type 0 where
  pub key : IsNew p.key (key_of s)
  pub going : p.store.failed ≡ false
  pub opened : IsOpened name s p.store.state p.store.seat old new

abbrev pub OpensStore : List ℕ → Setting → OfDisk → OfDisk → Result Opened Halt → Type 0
OpensStore name s old new (Ok p) = HasOpened name s p old new
OpensStore name s old new (Err (halt.Refused line w)) = ⊥
OpensStore name s old new (Err halt.ReadFault) = ⊥
OpensStore name s old new (Err halt.WriteFault) = ⊥
OpensStore name s old new (Err halt.StoreFault) = OpeningFails name old new
OpensStore name s old new (Err (halt.StoreBroken place byte)) = IsBroken name s (halt.StoreBroken place byte) old new
OpensStore name s old new (Err (halt.StoreTaken len)) = ⊥
OpensStore name s old new (Err (halt.Exhausted next)) = ⊥
OpensStore name s old new (Err halt.OutOfMemory) = IsUnopened name old new

-- ## The signatures

-- The key has an index for each of these certificates.
abbrev pub IsEnough : Setting → ℕ → List CertBody → Type 0
IsEnough s next certs = (next + length certs ≤ index_count (key_of s)) ⊎ (certs ≡ [])

-- Where a crash before ended lives of the key that had spent something, each crash now ends lives that have spent just these
-- certificates more, each with the index behind the one before, from the next one found on.
abbrev pub Spends : Setting → Stored → List CertBody → OfDisk → OfDisk → Type 0
Spends s o certs old new = (before : List ℕ) (spent : List Spent) → EndsNow (tag_of s) before spent old.moments
    → EndsNow (tag_of s) before (spent ++ spent_by o (map Certificate certs)) new.moments

-- And at each moment between, each crash ends lives that have spent a front of them more.
abbrev pub SpendsFronts : Setting → Stored → List CertBody → OfDisk → OfDisk → Type 0
SpendsFronts s o certs old new = (before : List ℕ) (spent : List Spent) → EndsNow (tag_of s) before spent old.moments
    → Since (EndsWithin (tag_of s) before spent (spent_by o (map Certificate certs))) old.moments new.moments

-- The calls that open the store in the file of this name, with this seat behind its entries, and then those that put so many
-- next indexes, one after the other.
pub record OpensAndPuts (name : List ℕ) (moments : List Moment) (o : Stored) (seat : Seat) (signed : ℕ) (old new : Option (List DiskCall)) : Type 0 where
  pub between : Option (List DiskCall)
  pub opened : ReadsUpTo (open_calls name) moments seat old between
  pub made : new ≡ with_calls (puts o seat signed) between

-- A store of the setting's key with this state was found under this name, and then one entry put for each of these
-- certificates, for which the key has indexes. It is now settled with a next index that is greater by their number, epoch and
-- mask being as found: each crash leaves such a store.
pub record AreEnrolled (name : List ℕ) (s : Setting) (o : Stored) (certs : List CertBody) (old new : OfDisk) : Type 0 where
  pub faults : new.faults ≡ old.faults
  pub seat : Seat
  pub found : HoldsStore (tag_of s) o seat old.moments
  pub calls : OpensAndPuts name old.moments o seat (length certs) old.calls new.calls
  pub enough : IsEnough s o.next certs
  pub left : IsSettled (tag_of s) (record o { next = o.next + length certs }) (seat_after o seat (length certs)) new.moments
  pub spends : Spends s o certs old new
  pub any_moment : SpendsFronts s o certs old new

-- All that were asked for.
pub record AllEnrolled (name : List ℕ) (s : Setting) (certs : List CertBody) (between now : IoState) (old new : OfDisk) : Type 0 where
  pub opened : Stored
  pub enrolled : AreEnrolled name s opened certs old new
  pub told : IsTold between now (lines_for opened.next certs s)

-- As many as the key had indexes for, and one more was asked for: the next index is then the number of the key's indexes, or
-- the one found where that is greater.
pub record IsExhausted (name : List ℕ) (s : Setting) (certs : List CertBody) (next : ℕ) (between now : IoState) (old new : OfDisk) : Type 0 where
  pub opened : Stored
  pub done : List CertBody
  pub one : CertBody
  pub part : IsPart certs done one
  pub enrolled : AreEnrolled name s opened done old new
  pub next_is : next ≡ opened.next + length done
  pub gone : next ≡ max opened.next (index_count (key_of s))
  pub told : IsTold between now (lines_for opened.next certs s)

-- the lines of the first of these certificates
abbrev pub first_lines : Setting → Stored → List CertBody → List ℕ
first_lines s o done = signed_lines s.group (key_of s) o.next done

-- The calls that open the store, those that put so many next indexes, and those that put one more, as far as they came.
pub record OpensAndFails (name : List ℕ) (moments : List Moment) (o : Stored) (seat : Seat) (signed : ℕ) (old new : Option (List DiskCall)) : Type 0 where
  pub between : Option (List DiskCall)
  pub before : OpensAndPuts name moments o seat signed old between
  pub last : AsFarAs (put_behind o seat signed) between new

-- The disk failed in the put for one of them, for which there was an index.
pub record SigningFails (name : List ℕ) (s : Setting) (certs : List CertBody) (between now : IoState) (old new : OfDisk) : Type 0 where
  pub opened : Stored
  pub done : List CertBody
  pub one : CertBody
  pub part : IsPart certs done one
  pub seat : Seat
  pub found : HoldsStore (tag_of s) opened seat old.moments
  pub within : opened.next + length done < index_count (key_of s)
  pub faults : new.faults ≡ next_count old.faults
  pub calls : OpensAndFails name old.moments opened seat (length done) old.calls new.calls
  pub spends : Spends s opened done old new
  pub any_moment : SpendsFronts s opened done old new
  pub told : IsTold between now (first_lines s opened done)

-- A write of one of them failed, behind its signature.
pub record WritingFails (name : List ℕ) (s : Setting) (certs : List CertBody) (between now : IoState) (old new : OfDisk) : Type 0 where
  pub opened : Stored
  pub done : List CertBody
  pub one : CertBody
  pub part : IsPart certs done one
  pub within : opened.next + length done < index_count (key_of s)
  pub enrolled : AreEnrolled name s opened (done ++ one ∷ []) old new
  pub mid : IoState
  pub told : IsTold between mid (first_lines s opened done)
  pub cut : IsCut mid now (signed_line s.group (key_of s) (opened.next + length done) one)

-- Memory was refused for one of them, before its signature or behind it.
pub record IsStarved (name : List ℕ) (s : Setting) (certs : List CertBody) (between now : IoState) (old new : OfDisk) : Type 0 where
  pub opened : Stored
  pub done : List CertBody
  pub one : CertBody
  pub part : IsPart certs done one
  pub within : opened.next + length done ≤ index_count (key_of s)
  pub enrolled : AreEnrolled name s opened done old new ⊎ AreEnrolled name s opened (done ++ one ∷ []) old new
  pub told : IsTold between now (first_lines s opened done)

-- ## The whole

-- What comes behind the reading of a roster that sets this up and asks for these certificates.
abbrev pub EnrolsBehind : List ℕ → Setting → List CertBody → IoState → IoState → OfDisk → OfDisk → Result (Unit {0}) Halt → Type 0
EnrolsBehind name s certs between now old new (Ok _) = AllEnrolled name s certs between now old new
EnrolsBehind name s certs between now old new (Err (halt.Refused line w)) = ⊥
EnrolsBehind name s certs between now old new (Err halt.ReadFault) = ⊥
EnrolsBehind name s certs between now old new (Err halt.WriteFault) = WritingFails name s certs between now old new
EnrolsBehind name s certs between now old new (Err halt.StoreFault) = ((now ≡ between) × OpeningFails name old new) ⊎ SigningFails name s certs between now old new
EnrolsBehind name s certs between now old new (Err (halt.StoreBroken place byte)) = (now ≡ between) × IsBroken name s (halt.StoreBroken place byte) old new
EnrolsBehind name s certs between now old new (Err (halt.StoreTaken len)) = ⊥
EnrolsBehind name s certs between now old new (Err (halt.Exhausted next)) = IsExhausted name s certs next between now old new
EnrolsBehind name s certs between now old new (Err halt.OutOfMemory) = ((now ≡ between) × IsUnopened name old new) ⊎ IsStarved name s certs between now old new

-- The roster was read whole, and nothing written or done for it yet; and so it went on.
pub record Went (was : IoState) (Rest : Setting → List CertBody → IoState → Type 0) : Type 0 where
  pub setting : Setting
  pub lines : List RosterLine
  pub between : IoState
  pub read : IsRoster was between setting lines
  pub rest : Rest setting (asked_in lines) between

-- The roster wasn't read to its end, and the disk wasn't touched.
abbrev pub IsUnread : IoState → IoState → OfDisk → OfDisk → Stop BadWord → Type 0
IsUnread was now old new s = IsUnfinished roster_judging roster.Start was now s × (new ≡ old)

-- What an enrolment took, wrote, did and left, by its answer.
abbrev pub Enrols : List ℕ → IoState → IoState → OfDisk → OfDisk → Result (Unit {0}) Halt → Type 0
Enrols name was now old new (Err (halt.Refused line w)) = IsUnread was now old new (stop.Refused line w)
Enrols name was now old new (Err halt.ReadFault) = IsUnread was now old new stop.ReadFault
Enrols name was now old new (Err halt.OutOfMemory) =
    IsUnread was now old new stop.OutOfMemory ⊎ Went was (λ s certs between. EnrolsBehind name s certs between now old new (Err halt.OutOfMemory))
Enrols name was now old new result = Went was (λ s certs between. EnrolsBehind name s certs between now old new result)
