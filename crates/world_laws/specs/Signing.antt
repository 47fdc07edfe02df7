-- What the members of a world have signed: which notes, at which ticks their accusations, and that they left as they were called
-- to.
use Rattle.std.specs.Prelude.{◌≡◌, ℕ, ◌≤◌, true, ◌==◌, if◌then◌else◌, List, ◌∷◌, ◌++◌, length, Contains, Option, Some, None}
use Rattle.std.specs.List.{list_any, slice_get}
use Rattle.ff_ids.specs.declared.NoteBody.{NoteBody}
use Rattle.ff_ids.specs.declared.AccBody.{AccBody}
use Rattle.ff_ids.specs.Masks.{enables}
use Rattle.ff_ids.specs.Steps.{Notes, Accuses}
use Rattle.records.specs.declared.CertBody.{CertBody}
use Rattle.records.specs.declared.Body.{Body}
use Rattle.records.specs.declared.Body.TheVariants.{Note, Accusation}
use Rattle.epoch_store.specs.declared.Stored.{Stored}
use Rattle.journal.specs.declared.event.What.TheVariants as told
use Rattle.node_rules.specs.Nodes as node
use Rattle.node_rules.specs.Calls.{Call}
use Rattle.node_rules.specs.Leaving.{leaving_note}
use Rattle.node_rules.specs.Lives.{Input, Ticks, Leaves, life_of}
use Rattle.node_rules.specs.Accusing.{AccusesTheSilent}
use Rattle.world_rules.specs.Settings.{Owner, Setting, certificate, certificates, members, setting_of}
use Rattle.world_rules.specs.Disks.{Disk}
use Rattle.world_rules.specs.Calls.{called_on}
use Rattle.world_rules.specs.Worlds.{Life, World, lives_of, spent_of}
use Rattle.world_rules.specs.Steps.{NodeEvent}
use Rattle.world_laws.specs.Telling.{IsSignedIn}

-- ---- certificates

-- The authority's certificate of the number, if it is a member's.
abbrev pub certificate_for : Setting → ℕ → Option CertBody
certificate_for s k = if list_any (λ m. m == k) (members s) then Some (certificate s k) else None

-- The node keeps the certificates of the authority, and no others.
abbrev pub KeepsRoster : Setting → node.Node → Type 0
KeepsRoster s n = (k : ℕ) → node.certificate_of n k ≡ certificate_for s k

-- ---- notes

-- The key has spent an index on this body.
abbrev pub HasSpentOn : World → Owner → ℕ → Body → Type 0
HasSpentOn w who index body = Contains (spent_of w who) (record { index = index; body = body })

-- Among these events the accused has signed a note of its own, of the accusation's epoch, which enables the accusation's ring.
pub record HasEnabled (w : World) (told : List NodeEvent) (a : AccBody) : Type 0 where
  pub note : NoteBody
  pub index : ℕ
  pub signed : IsSignedIn w told a.accused index (Note note)
  pub spent : HasSpentOn w (Some a.accused) index (Note note)
  pub own : note.member ≡ a.accused
  pub epoch : note.epoch ≡ a.epoch
  pub enabled : enables note.mask.0 a.ring.0 ≡ true

-- ---- accusations

-- What a node has come to that found this in its store, and has answered these calls.
abbrev pub node_after : Setting → ℕ → Stored → List Input → node.Node
node_after s m found inputs = life_of (setting_of s m) (s.nonces m found.next) (certificates s) found inputs

-- The call reports that this index was spent on the body.
abbrev pub TellsSpent : Call → ℕ → Body → Type 0
TellsSpent c index body = (moment : ℕ) × Contains c.told (record { moment = moment; what = told.Spent index body })

-- At a tick of this life the node signs the accusation with this index, over a disk that keeps what its store kept then. As it
-- came to that tick the accused was silent, and the node was its monitor on the ring in its own view, by the newest note that it
-- had of it, whose epoch the accusation has and which enables the ring. The accusation came into the life at this place, as an
-- event of that tick.
pub record SignsAtTick (s : Setting) (m : ℕ) (life : Life) (place index : ℕ) (a : AccBody) : Type 0 where
  pub before : List Input
  pub behind : List Input
  pub at_tick : life.inputs ≡ before ++ Ticks ∷ behind
  pub disk : Disk
  pub kept : disk.state ≡ (node_after s m life.found before).stored
  pub signed : TellsSpent (called_on (setting_of s m) (node_after s m life.found before) Ticks disk).call index (Accusation a)
  pub silent : AccusesTheSilent (setting_of s m) (node_after s m life.found before) a
  pub since : length (node_after s m life.found before).lived ≤ place
  pub came_in : slice_get (called_on (setting_of s m) (node_after s m life.found before) Ticks disk).call.node.lived place ≡ Some (Accuses a)

-- So its accuser signs it at a place of one of its lives, and there it stays.
pub record SignedAtTick (s : Setting) (w : World) (index : ℕ) (a : AccBody) : Type 0 where
  pub life : Life
  pub lived : Contains (lives_of w a.accuser) life
  pub place : ℕ
  pub signs : SignsAtTick s a.accuser life place index a
  pub stays : slice_get life.node.lived place ≡ Some (Accuses a)

-- Among these events the accuser has signed the accusation, with an index that such a tick spends on it: it came in there at the
-- place of the life that this report is of.
pub record WasSigned (s : Setting) (w : World) (told : List NodeEvent) (a : AccBody) : Type 0 where
  pub index : ℕ
  pub signed : IsSignedIn w told a.accuser index (Accusation a)
  pub spent : HasSpentOn w (Some a.accuser) index (Accusation a)
  pub at_tick : SignsAtTick s a.accuser signed.life signed.place index a

-- ---- leaving notes

-- In this life the node is called to leave, and signs the note for it with this index: the next one of its key, and the note behind
-- its newest, of no ring. The note came into the life at this place, behind what had come in before the call.
pub record SignsLeaving (s : Setting) (m : ℕ) (life : Life) (place index : ℕ) (n : NoteBody) : Type 0 where
  pub before : List Input
  pub behind : List Input
  pub called : life.inputs ≡ before ++ Leaves ∷ behind
  pub at : length (node_after s m life.found before).lived ≡ place
  pub is : n ≡ leaving_note (setting_of s m) (node_after s m life.found before).stored
  pub spends : index ≡ (node_after s m life.found before).stored.next

-- So the member signs it at a place of one of its lives, and there it stays.
pub record SignedAsCalled (s : Setting) (w : World) (m index : ℕ) (n : NoteBody) : Type 0 where
  pub life : Life
  pub lived : Contains (lives_of w m) life
  pub place : ℕ
  pub signs : SignsLeaving s m life place index n
  pub stays : slice_get life.node.lived place ≡ Some (Notes n)
