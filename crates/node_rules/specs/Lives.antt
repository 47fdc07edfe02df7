-- A node's life: how it began, and the calls that it has answered since.
use Rattle.std.specs.Prelude.{◌≡◌, ℕ, Bool, true, false, ◌==◌, List, [], ◌∷◌, ◌++◌, ◌≤◌, Option, Some, None, fold, filter}
use Rattle.std.specs.List.{list_any, AllByRecursion}
use Rattle.ff_ids.specs.declared.TheConstants.{MAX_TOLERANCE}
use Rattle.ff_ids.specs.declared.Group.{Group}
use Rattle.ff_ids.specs.declared.NoteBody.{NoteBody}
use Rattle.ff_ids.specs.Masks.{note_mask}
use Rattle.ff_ids.specs.Notes.{newest}
use Rattle.ff_ids.specs.Views.{State, in_view, is_member, view}
use Rattle.ff_ids.specs.declared.AccBody.{AccBody}
use Rattle.ff_ids.specs.Faults.{note_fault}
use Rattle.ff_ids.specs.Steps.{Event, step}
use Rattle.ff_ids.specs.Lives.{opening, IsJustified}
use Rattle.life_laws.specs.Removals.{Revokes, RulesOut}
use Rattle.life_laws.specs.Sameness.{HaveSameRecords}
use Rattle.records.specs.declared.CertBody.{CertBody}
use Rattle.records.specs.declared.Record.{Record}
use Rattle.records.specs.declared.Body.{Body}
use Rattle.records.specs.declared.Body.TheVariants.{Certificate, Accusation}
use Rattle.epoch_store.specs.declared.Stored.{Stored}
use Rattle.journal.specs.declared.event.Event as journal
use Rattle.journal.specs.declared.event.What as whats
use Rattle.journal.specs.declared.event.What.TheVariants as told
use Rattle.node_rules.specs.Nodes.{Setting, Node, state_of}
use Rattle.node_rules.specs.Calls.{Call, is_used_up, takes, told_of}
use Rattle.node_rules.specs.Refusals.{refusal}
use Rattle.node_rules.specs.Deliveries.{answering_note, delivered}
use Rattle.node_rules.specs.Ticking.{ticked}
use Rattle.node_rules.specs.Leaving.{left, leaving_note}
use Rattle.node_rules.specs.OnDisks.{called}
pub use Rattle.node_rules.specs.OnDisks.{Input, Delivers, Ticks, Leaves}
use Rattle.node_rules.specs.Starting.{started}

-- ---- calls

-- The whole call.
abbrev pub call_of : Setting → Node → Input → Call
call_of s n (Delivers bytes) = delivered s n bytes
call_of s n Ticks = ticked s n
call_of s n Leaves = left s n

-- What the node has come to when the calls have been answered.
abbrev pub after_calls : Setting → Node → List Input → Node
after_calls s n inputs = fold (λ m i. (call_of s m i).node) n inputs

-- The records are certificates.
abbrev pub AreCertificates : List Record → Type 0
AreCertificates records = AllByRecursion (λ r. (c : CertBody) × (r.body ≡ Certificate c)) records

abbrev pub is_certificate_for : ℕ → Body → Bool
is_certificate_for m (Certificate c) = c.member == m
is_certificate_for m other = false

-- ---- what a life reports

-- The event is about the view or of accusations, as the membership reports it.
abbrev pub is_of_life : whats.What → Bool
is_of_life (told.Entered m) = true
is_of_life (told.Expired a) = true
is_of_life (told.Removed m) = true
is_of_life (told.Fell a) = true
is_of_life other = false

-- What these events of a life report, from this state on.
abbrev pub told_by : Group → State → List Event → List journal.Event
told_by g st [] = []
told_by g st (e ∷ events) = told_of (step g st e).state.moment (step g st e).report ++ told_by g (step g st e).state events

-- What a call reports of the view and of accusations is what the events report that it adds to the life.
pub record TellsItsLife (s : Setting) (n : Node) (c : Call) : Type 0 where
  pub more : List Event
  pub grew : c.node.lived ≡ n.lived ++ more
  pub told_so : filter (λ e. is_of_life e.what) c.told ≡ told_by s.group (state_of s n) more

-- ---- the node's own note

-- The note that the store keeps.
abbrev pub stored_note : Setting → Stored → NoteBody
stored_note s kept = record { member = s.me; epoch = kept.epoch; mask = kept.mask }

-- The node has joined, its newest note is the one that its store keeps, and a note may carry the mask of that.
pub record KeepsOwnNote (s : Setting) (n : Node) : Type 0 where
  pub joined : is_member (state_of s n) s.me ≡ true
  pub own : newest (state_of s n).notes s.me ≡ Some (stored_note s n.stored)
  pub allowed : note_mask s.group.t n.stored.mask.0 ≡ true

-- ---- laws

-- The group has at least three rings, and at most `MAX_RINGS`.
pub record HasRings (s : Setting) : Type 0 where
  pub some : 1 ≤ s.group.t
  pub few : s.group.t ≤ MAX_TOLERANCE

-- The kit has certificates, the node's own among them.
pub record IsKit (s : Setting) (certificates : List Record) : Type 0 where
  pub all : AreCertificates certificates
  pub own : list_any (λ r. is_certificate_for s.me r.body) certificates ≡ true

-- A life that started with these certificates and what the store keeps, and has answered these calls.
abbrev pub life_of : Setting → (ℕ → ℕ) → List Record → Stored → List Input → Node
life_of s nonces certificates stored inputs = after_calls s (started s nonces certificates stored).node inputs

abbrev pub EachLifeIsJustified : Type 0
EachLifeIsJustified = (s : Setting) (n : Node) → IsJustified s.group (opening []) n.lived

-- Once a note is accepted in a life, no accusation of an older epoch against its member is accepted in it, or expires.
abbrev pub AnswersHoldInLives : Type 0
AnswersHoldInLives = (s : Setting) (n : Node) → RulesOut s.group (opening []) n.lived

-- What the note answers otherwise expires later only where it was accepted again, and stood for the timeout since.
abbrev pub AnswersRevokeInLives : Type 0
AnswersRevokeInLives = (s : Setting) (n : Node) → Revokes s.group (opening []) n.lived

-- Each call reports its life, whichever put fails in it.
abbrev pub EachCallTellsItsLife : Type 0
EachCallTellsItsLife = (s : Setting) (n : Node) (i : Input) (fails_at : Option ℕ) → TellsItsLife s n (called s n i fails_at)

abbrev pub OwnNoteIsKept : Type 0
OwnNoteIsKept = (s : Setting) (nonces : ℕ → ℕ) (certificates : List Record) (stored : Stored) (inputs : List Input) → HasRings s → IsKit s certificates → KeepsOwnNote s (life_of s nonces certificates stored inputs)

-- Where an accusation against the node is accepted, the note that answers it has no fault.
abbrev pub OwnAnswersAreAccepted : Type 0
OwnAnswersAreAccepted = (s : Setting) (r : Record) (a : AccBody) (c : Call) → HasRings s → KeepsOwnNote s c.node → refusal s c.node r ≡ None → r.body ≡ Accusation a → a.accused ≡ s.me
    → note_fault s.group.t (state_of s (takes s r c).node) (answering_note s (takes s r c).node.stored a) ≡ None

-- The note by which a node leaves has no fault; where the key has an index for it, the node is out of its own view behind it.
pub record LeavesItsView (s : Setting) (n : Node) : Type 0 where
  pub no_fault : note_fault s.group.t (state_of s n) (leaving_note s n.stored) ≡ None
  pub out : is_used_up s n ≡ false → in_view (state_of s (left s n).node) s.me ≡ false

abbrev pub OwnLeavingIsAccepted : Type 0
OwnLeavingIsAccepted = (s : Setting) (n : Node) → KeepsOwnNote s n → LeavesItsView s n

-- Two nodes of a group whose lives accept the same notes, and report the same accusations as expired, have the same view.
abbrev pub EqualRecordsGiveOneView : Type 0
EqualRecordsGiveOneView = (one other : Setting) (n m : Node) → one.group ≡ other.group
    → HaveSameRecords one.group (opening []) (opening []) n.lived m.lived
    → view (state_of one n) ≡ view (state_of other m)
