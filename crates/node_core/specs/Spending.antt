-- What a node spends of its key: what its events report of it, and what becomes of the lives of the key.
use Rattle.std.specs.Prelude.{◌≡◌, ℕ, ◌≤◌, Bool, true, false, List, [], ◌∷◌, ◌++◌, length, Result, Ok, Err}
use Rattle.ports.specs.Disk.{Moment}
use Rattle.records.specs.declared.Body.{Body}
use Rattle.signer.specs.Signing.{SignerState}
pub use Rattle.signer.specs.Lives.{LivesOn, EndsWithin}
use Rattle.signer.specs.Lives.{Spent}
use Rattle.journal.specs.declared.event.Event as journal
use Rattle.journal.specs.declared.event.What as whats
use Rattle.journal.specs.declared.event.What.TheVariants as told
use Rattle.node_core.specs.declared.NodeFault.{NodeFault}
use Rattle.node_core.specs.declared.NodeFault.TheVariants as faults
use Rattle.node_core.specs.Playing.{Kept}

-- ---- what events report

-- The signature that the event reports, if any.
abbrev pub spent_by : whats.What → List Spent
spent_by (told.Spent index body) = record { index = index; body = body } ∷ []
spent_by other = []

-- The signatures that the events report, in order.
abbrev pub spent_told : List journal.Event → List Spent
spent_told [] = []
spent_told (e ∷ events) = spent_by e.what ++ spent_told events

-- ---- a step of a node

-- The signer is the same, and no signature is reported.
pub record SignsNothing (old new : Kept) : Type 0 where
  pub signer : new.signer ≡ old.signer
  pub told_none : spent_told new.telling.events ≡ spent_told old.telling.events

-- All of them are reported, or all but the last.
pub record IsAllButLast (said spent : List Spent) : Type 0 where
  pub last : List Spent
  pub is : spent ≡ said ++ last
  pub one : length last ≤ 1

-- These signatures are reported, in order; all but perhaps the last where memory was refused.
pub record TellsOf (spent : List Spent) (old new : List journal.Event) (failed : Bool) : Type 0 where
  pub all : failed ≡ false → spent_told new ≡ spent_told old ++ spent
  pub front : IsAllButLast (spent_told new) (spent_told old ++ spent)

-- The signer has spent this before the step, which reports it.
pub record TellsSpent (index : ℕ) (body : Body) (old new : Kept) : Type 0 where
  pub signer : new.signer ≡ old.signer
  pub tells : TellsOf (record { index = index; body = body } ∷ []) old.telling.events new.telling.events new.telling.failed

-- Nothing was spent, and nothing was put.
pub record IsIdle (spent : List Spent) (old new : Kept) (older newer : List Moment) : Type 0 where
  pub spent_none : spent ≡ []
  pub signer : new.signer ≡ old.signer
  pub moments : newer ≡ older

-- The step has spent this, reported it, and the lives of the key go on with it. Behind a refusal of memory nothing is spent.
pub record Spends (old new : Kept) (older newer : List Moment) : Type 0 where
  pub spent : List Spent
  pub tells : TellsOf spent old.telling.events new.telling.events new.telling.failed
  pub key : LivesOn spent old.signer new.signer older newer
  pub idle : old.telling.failed ≡ true → IsIdle spent old new older newer

-- ---- a call of a node

-- Of what was spent all is reported; all but perhaps the last where memory was refused.
abbrev pub TellsSo : {T : Type 0} → Result T NodeFault → List Spent → List Spent → Type 0
TellsSo (Ok done) spent said = said ≡ spent
TellsSo (Err faults.StoreFault) spent said = said ≡ spent
TellsSo (Err faults.OutOfMemory) spent said = IsAllButLast said spent
TellsSo (Err (faults.Exhausted next)) spent said = said ≡ spent
TellsSo (Err faults.Ended) spent said = said ≡ spent

-- What a call spends: its events report this, and the lives of the key go on with it.
pub record SpendsIn {T : Type 0} (result : Result T NodeFault) (s later : SignerState) (older newer : List Moment) (before after : List journal.Event) : Type 0 where
  pub spent : List Spent
  pub added : List journal.Event
  pub after_is : after ≡ before ++ added
  pub tells : TellsSo result spent (spent_told added)
  pub key : LivesOn spent s later older newer

-- ---- the start of a life

-- A life that is refused reports nothing; unless memory was refused, nothing is spent.
pub record SpendsUntold (fault : NodeFault) (s : SignerState) (older newer : List Moment) : Type 0 where
  pub later : SignerState
  pub spent : List Spent
  pub tells : TellsSo {T = Unit {0}} (Err fault) spent []
  pub key : LivesOn spent s later older newer

-- A life that starts goes on with the key of its signer.
abbrev pub StartSpends : SignerState → List Moment → List Moment → List journal.Event → List journal.Event → Result Kept NodeFault → Type 0
StartSpends s older newer before after (Ok node) = SpendsIn (Ok node) s node.signer older newer before after
StartSpends s older newer before after (Err fault) = SpendsUntold fault s older newer
