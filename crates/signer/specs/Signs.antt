-- What a call that signs does: to the signer, to its disk, and to what its key has spent.
use Rattle.std.specs.Prelude.{◌≡◌, ℕ, true, false, Option, List, ◌++◌, Result, Ok, Err, OnOk, IfOk}
use Rattle.ports.specs.Count.{counted}
use Rattle.ports.specs.Disk.{Since}
use Rattle.ports.specs.DiskCalls.{DiskCall, with_calls, AsFarAs}
use Rattle.ports.specs.MemoryDisk.{DiskState}
use Rattle.ports.specs.DiskSteps.{came_to, runs_on}
use Rattle.ports.specs.Outside.{OfDisk}
use Rattle.records.specs.declared.Body.{Body}
use Rattle.records.specs.Signing.{CheckedRecord}
use Rattle.sign_keys.specs.Keys.{TopSignsTree}
use Rattle.epoch_store.specs.Store.{IsSettled, LeavesEither, LeavesState}
use Rattle.epoch_store.specs.Asked.{put_calls}
use Rattle.signer.specs.declared.SignFault.{SignFault}
use Rattle.signer.specs.declared.SignFault.TheVariants.{OutOfMemory, Closed, Exhausted, StoreFault}
use Rattle.signer.specs.Signing.{SignerState, stored_after, AnswersBy, is_store_fault, after_signing, signed_record, OnIdle}
use Rattle.signer.specs.Lives.{Spent, IsLiving, EndsLives, spent_in}

-- all of the disk calls were made, or as many as it took one to fail; or nothing was tried, and none was made
abbrev pub MakesCalls : {T : Type 0} → Result T SignFault → List DiskCall → Option (List DiskCall) → Option (List DiskCall) → Type 0
MakesCalls (Ok value) all older newer = newer ≡ with_calls all older
MakesCalls (Err OutOfMemory) all older newer = newer ≡ older
MakesCalls (Err Closed) all older newer = newer ≡ older
MakesCalls (Err (Exhausted next)) all older newer = newer ≡ older
MakesCalls (Err StoreFault) all older newer = AsFarAs all older newer

-- where the state of the disk is modelled: all of the calls pass, or one fails; or nothing was tried
abbrev pub MakesFrom : {T : Type 0} → Result T SignFault → List DiskCall → Option DiskState → Option DiskState → Type 0
MakesFrom (Ok value) all older newer = came_to newer false ≡ runs_on all older
MakesFrom (Err OutOfMemory) all older newer = newer ≡ older
MakesFrom (Err Closed) all older newer = newer ≡ older
MakesFrom (Err (Exhausted next)) all older newer = newer ≡ older
MakesFrom (Err StoreFault) all older newer = came_to newer true ≡ runs_on all older

-- the body was signed, or the answer says why not
pub record Signs (s later : SignerState) (body : Body) (result : Result CheckedRecord SignFault) (old new : OfDisk) : Type 0 where
  pub faults : new.faults ≡ counted (is_store_fault result) old.faults
  pub answers : AnswersBy s result
  pub signed : IfOk result (λ rec. rec ≡ signed_record s body)
  pub top : IfOk result (λ rec. TopSignsTree s.key s.state.next rec.rec.signature)
  pub after : later ≡ after_signing s body result
  pub calls : MakesCalls result (put_calls s.seat (stored_after s.state body)) old.calls new.calls
  pub follows : MakesFrom result (put_calls s.seat (stored_after s.state body)) old.model new.model
  pub same : OnIdle result (new.moments ≡ old.moments)
  pub any_moment : (tag : List ℕ) → IsSettled tag s.state s.seat old.moments → Since (LeavesEither tag s.state (stored_after s.state body)) old.moments new.moments
  pub settled : OnOk result ((tag : List ℕ) → IsSettled tag s.state s.seat old.moments → IsSettled tag later.state later.seat new.moments)
  pub leaves : OnOk result ((tag : List ℕ) → IsSettled tag s.state s.seat old.moments → LeavesState tag later.state new.moments)
  pub lives : (tag before : List ℕ) (spent : List Spent) → IsLiving tag before spent s old.moments → IsLiving tag before (spent ++ spent_in s body result) later new.moments
  pub any_life : (tag before : List ℕ) (spent : List Spent) → IsLiving tag before spent s old.moments → Since (EndsLives tag before spent) old.moments new.moments
