-- What no liar brings about, in each world that lines lead to, none of which is forged.
use Rattle.std.specs.Prelude.{◌≡◌, ℕ, ◌+◌, ◌<◌, Bool, true, false, List, [], ◌∷◌, ◌++◌, length, Contains, Option, Some, None}
use Rattle.std.specs.List.{AllByRecursion, slice_get}
use Rattle.ff_ids.specs.declared.AccBody.{AccBody}
use Rattle.ff_ids.specs.declared.NoteBody.{NoteBody}
use Rattle.ff_ids.specs.declared.Group.{Group}
use Rattle.ff_ids.specs.Heals.{Heal}
use Rattle.ff_ids.specs.declared.Fault.TheVariants as faults
use Rattle.ff_ids.specs.Steps.{Accuses}
use Rattle.ff_ids.specs.Notes.{is_leaving, newest}
use Rattle.ff_ids.specs.Lives.{opening, state_at, IsRemovedAt, LeavesBy, RestsOn}
use Rattle.sign_keys.specs.declared.kinds.Kinds.{Kinds}
use Rattle.sign_keys.specs.Kinds.{is_in_profile}
use Rattle.records.specs.declared.Body.{Body}
use Rattle.records.specs.declared.Body.TheVariants.{Accusation, Note}
use Rattle.journal.specs.declared.event.What as whats
use Rattle.journal.specs.declared.event.What.TheVariants as happened
use Rattle.node_rules.specs.Nodes.{public_key_of}
use Rattle.node_rules.specs.Vouching.{IsVouchedFor}
use Rattle.world_rules.specs.Settings.{Owner, Setting, indexes_for, is_node, record_of, setting_of}
use Rattle.sign_keys.specs.Keys.{TopSignsTree}
use Rattle.world_rules.specs.Keys.{owner_key, setting_for}
use Rattle.world_rules.specs.Worlds.{Life, World, lives_of}
use Rattle.world_rules.specs.Steps.{NodeEvent}
use Rattle.world_rules.specs.Laws.{IsSetting, Reached}
use Rattle.world_laws.specs.Signing.{KeepsRoster, HasSpentOn, HasEnabled, SignedAsCalled, SignedAtTick, SignsLeaving, WasSigned}
use Rattle.world_laws.specs.Origins.{HasComeOf, HasLeftBy}
use Rattle.world_laws.specs.Telling.{IsSignedIn, IsToldBehind}

-- ---- certificates

-- In every life a node keeps the authority's certificates of the members, and no others.
abbrev pub RostersAreKept : Type 0
RostersAreKept = (s : Setting) (w : World) (told : List NodeEvent) (who : ℕ) → IsSetting s → Reached s w told → AllByRecursion (λ life. KeepsRoster s life.node) (lives_of w who)

-- ---- own notes

-- A record is refused as a note of the node's own that is ahead of its newest.
abbrev pub is_own_ahead : whats.What → Bool
is_own_ahead (happened.Took body (Some (faults.OwnAhead stored seen))) = true
is_own_ahead what = false

-- No verdict says that a note is ahead of the node's own.
abbrev pub OwnAheadNeverComes : Type 0
OwnAheadNeverComes = (s : Setting) (w : World) (told : List NodeEvent) → IsSetting s → Reached s w told → AllByRecursion (λ t. is_own_ahead t.event.what ≡ false) told

-- ---- removals

-- The accusation was accepted at this place of a life, as is reported. The note that was the accused's newest there, the accused
-- itself had signed, as is reported before, of this accusation's epoch and with this accusation's ring enabled.
pub record IsOnOwnNote (s : Setting) (w : World) (told : List NodeEvent) (who : ℕ) (life : Life) (place : ℕ) (a : AccBody) : Type 0 where
  pub accepted : IsToldBehind w told who life place (Accusation a)
  pub had_signed : HasEnabled w accepted.earlier a
  pub is_newest : newest (state_at s.group (opening []) life.node.lived place).notes a.accused ≡ Some had_signed.note

-- The note came in at this place of a life, as is reported; and by then, with that report, its member had signed it, as it was
-- called to leave: it came in there at the place of the life that the report of its signature is of.
pub record IsNoteSignedByThen (s : Setting) (w : World) (told : List NodeEvent) (who : ℕ) (life : Life) (place : ℕ) (n : NoteBody) : Type 0 where
  pub accepted : IsToldBehind w told who life place (Note n)
  pub index : ℕ
  pub signed : IsSignedIn w (accepted.earlier ++ accepted.report ∷ []) n.member index (Note n)
  pub spent : HasSpentOn w (Some n.member) index (Note n)
  pub as_called : SignsLeaving s n.member signed.life signed.place index n

-- So it is of each accusation on which the removal of a node in the life rests, and of each note by which a node leaves there.
pub record RemovesRightly (s : Setting) (w : World) (told : List NodeEvent) (who : ℕ) (life : Life) : Type 0 where
  pub accused : (j m place : ℕ) (a : AccBody) → RestsOn s.group (opening []) life.node.lived j m place a → is_node s m ≡ true
      → IsOnOwnNote s w told who life place a
  pub left : (j m : ℕ) (n : NoteBody) → LeavesBy s.group (opening []) life.node.lived j m n → is_node s m ≡ true
      → IsNoteSignedByThen s w told who life j n

-- Each node that is removed from a view had itself signed the note by which it left, as it was called to leave, or the note of the
-- accusation's epoch, with its ring enabled.
abbrev pub TheRemovedHadSigned : Type 0
TheRemovedHadSigned = (s : Setting) (w : World) (told : List NodeEvent) (who : ℕ) → IsSetting s → Reached s w told → AllByRecursion (RemovesRightly s w told who) (lives_of w who)

-- ---- accusations

-- Each accusation that a node's key has signed names the node as its accuser, and was signed at a tick of one of its
-- lives at which the accused was silent.
abbrev pub NodesAccuseTheSilent : Type 0
NodesAccuseTheSilent = (s : Setting) (w : World) (told : List NodeEvent) (m index : ℕ) (a : AccBody) → IsSetting s → Reached s w told → is_node s m ≡ true
    → HasSpentOn w (Some m) index (Accusation a) → (a.accuser ≡ m) × SignedAtTick s w index a

-- Each note of no ring that a node's key has signed is the node's own, and was signed as the node was called to leave, in one of
-- its lives.
abbrev pub NodesLeaveAsCalled : Type 0
NodesLeaveAsCalled = (s : Setting) (w : World) (told : List NodeEvent) (m index : ℕ) (n : NoteBody) → IsSetting s → Reached s w told → is_node s m ≡ true
    → HasSpentOn w (Some m) index (Note n) → is_leaving n ≡ true → (n.member ≡ m) × SignedAsCalled s w m index n

-- The accusation came in at this place of a life, as is reported; and by then, with that report, its accuser had signed it.
pub record IsSignedByThen (s : Setting) (w : World) (told : List NodeEvent) (who : ℕ) (life : Life) (place : ℕ) (a : AccBody) : Type 0 where
  pub accepted : IsToldBehind w told who life place (Accusation a)
  pub was_signed : WasSigned s w (accepted.earlier ++ accepted.report ∷ []) a

-- So is each accusation of a node's in the life.
abbrev pub AccusesRightly : Setting → World → List NodeEvent → ℕ → Life → Type 0
AccusesRightly s w told who life = (place : ℕ) (a : AccBody) → slice_get life.node.lived place ≡ Some (Accuses a) → is_node s a.accuser ≡ true
    → IsSignedByThen s w told who life place a

-- An accusation of a node's that is reported as accepted was signed by it in the events before.
abbrev pub AcceptsRightly : Setting → World → List NodeEvent → whats.What → Type 0
AcceptsRightly s w earlier (happened.Took (Accusation a) None) = is_node s a.accuser ≡ true → WasSigned s w earlier a
AcceptsRightly s w earlier what = Unit {0}

abbrev pub AllAcceptRightly : Setting → World → List NodeEvent → Type 0
AllAcceptRightly s w told = (earlier later : List NodeEvent) (t : NodeEvent) → told ≡ earlier ++ t ∷ later → AcceptsRightly s w earlier t.event.what

-- Each accusation of a node's that is accepted in any life, own ones included, was so signed by then; also where only its
-- acceptance is reported.
abbrev pub AcceptedAccusationsWereSigned : Type 0
AcceptedAccusationsWereSigned = (s : Setting) (w : World) (told : List NodeEvent) → IsSetting s → Reached s w told
    → ((who : ℕ) → AllByRecursion (AccusesRightly s w told who) (lives_of w who)) × AllAcceptRightly s w told

-- ---- removals that are reported

-- What is signed with a key at one of its indexes verifies under it.
abbrev pub SignaturesVerify : Setting → Type 0
SignaturesVerify s = (who : Owner) (index : ℕ) (body : Body) → index < indexes_for s who → s.verifies (s.key who) (record_of s (record { who = who; index = index; body = body })) ≡ true

-- That holds of the keys that a world is opened with, whatever their kinds, of which there are keys.
abbrev pub KeysVerify : Type 0
KeysVerify = (g : Group) (kinds : Kinds) (heal : Option Heal) (correct liars : List ℕ) → is_in_profile kinds ≡ true
    → SignaturesVerify (setting_for g kinds heal correct liars)

-- In each signature with a key of two levels the top leaf of its index signs the public key of its own bottom tree, which stands
-- behind it: so it signs one message in all lives of the key, whatever they sign.
abbrev pub TopLeavesSignOnce : Type 0
TopLeavesSignOnce = (g : Group) (kinds : Kinds) (heal : Option Heal) (correct liars : List ℕ) (who : Owner) (index : ℕ) (body : Body)
    → index < indexes_for (setting_for g kinds heal correct liars) who
    → TopSignsTree (owner_key g kinds who) index (record_of (setting_for g kinds heal correct liars) (record { who = who; index = index; body = body })).signature

-- The removal of the member at this place of the life rests on one accusation, of which all of this is said. The record of which
-- it has come verifies under the key of the accuser's certificate, as the node keeps it. If the member is a node, it had itself
-- signed the note that was its newest there, before the accusation was accepted.
pub record RestsOnVerified (s : Setting) (w : World) (told : List NodeEvent) (who : ℕ) (life : Life) (place m : ℕ) : Type 0 where
  pub accepted : ℕ
  pub accusation : AccBody
  pub rests : RestsOn s.group (opening []) life.node.lived place m accepted accusation
  pub verified : IsVouchedFor (setting_of s who) (public_key_of life.node accusation.accuser) (Accusation accusation)
  pub came : HasComeOf s w who life accepted accusation verified.witness
  pub own_note : is_node s m ≡ true → IsOnOwnNote s w told who life accepted accusation

-- The member left at this place of the life by one note, of which all of this is said. The record of which it has come verifies
-- under the key of the member's certificate, as the node keeps it. If the member is a node, it had itself signed the note by then,
-- as it was called to leave.
pub record LeftVerified (s : Setting) (w : World) (told : List NodeEvent) (who : ℕ) (life : Life) (place m : ℕ) : Type 0 where
  pub note : NoteBody
  pub leaves : LeavesBy s.group (opening []) life.node.lived place m note
  pub verified : IsVouchedFor (setting_of s who) (public_key_of life.node m) (Note note)
  pub came : HasLeftBy s w who life place note verified.witness
  pub own_note : is_node s m ≡ true → IsNoteSignedByThen s w told who life place note

-- The removal of the member at this place of the life has such a note for its cause, or rests on such an accusation.
pub data DepartsVerified (s : Setting) (w : World) (told : List NodeEvent) (who : ℕ) (life : Life) (place m : ℕ) : Type 0 where
  ByNote : LeftVerified s w told who life place m → DepartsVerified s w told who life place m
  ByAccusation : RestsOnVerified s w told who life place m → DepartsVerified s w told who life place m

-- So does each removal in the life.
abbrev pub RemovesVerified : Setting → World → List NodeEvent → ℕ → Life → Type 0
RemovesVerified s w told who life = (j m : ℕ) → j < length life.node.lived → IsRemovedAt s.group (opening []) life.node.lived j m → DepartsVerified s w told who life j m

abbrev pub RemovalsAreVerified : Type 0
RemovalsAreVerified = (s : Setting) (w : World) (told : List NodeEvent) (who : ℕ) → IsSetting s → SignaturesVerify s → Reached s w told → AllByRecursion (RemovesVerified s w told who) (lives_of w who)

-- What is reported of the member is its removal at a place of one of the node's lives, which has the reported moment behind it;
-- and that has such a record for its cause.
pub record IsVerifiedRemoval (s : Setting) (w : World) (told : List NodeEvent) (t : NodeEvent) (m : ℕ) : Type 0 where
  pub life : Life
  pub lived : Contains (lives_of w t.who) life
  pub place : ℕ
  pub within : place < length life.node.lived
  pub removed : IsRemovedAt s.group (opening []) life.node.lived place m
  pub moment : (state_at s.group (opening []) life.node.lived (place + 1)).moment ≡ t.event.moment
  pub departs : DepartsVerified s w told t.who life place m

abbrev pub ToldRemovalsAreVerified : Type 0
ToldRemovalsAreVerified = (s : Setting) (w : World) (told : List NodeEvent) (t : NodeEvent) (m : ℕ) → IsSetting s → SignaturesVerify s → Reached s w told → Contains told t → t.event.what ≡ happened.Removed m → IsVerifiedRemoval s w told t m
