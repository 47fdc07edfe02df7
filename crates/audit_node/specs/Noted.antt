-- Who is accused has a note, and the node's own is the one that its store keeps.
use Rattle.std.specs.Prelude.{◌≡◌, ℕ, true, false, Bool, is_some, nat_eq}
use Rattle.ff_ids.specs.declared.summary.RecordKey.TheVariants as keys
use Rattle.ff_ids.specs.Notes.{newest}
use Rattle.ff_ids.specs.Views.{State}
use Rattle.ff_ids.specs.declared.NoteBody.{NoteBody}
use Rattle.epoch_store.specs.declared.Stored.{Stored}
use Rattle.membership.specs.Life.{Life}
use Rattle.membership.specs.Holds.{Holds}
use Rattle.records.specs.declared.Body.{Body}
use Rattle.records.specs.declared.Body.TheVariants.{Certificate, Note, Accusation}
use Rattle.record_slots.specs.Held.{held_under}
use Rattle.record_slots.specs.Pages.{note_in, AreNoted}
use Rattle.audit_set.specs.Knowns.{body_of}
use Rattle.audit_set.specs.Sets.{HeldKnown}

-- The member's note is held.
abbrev pub has_note : HeldKnown → ℕ → Bool
has_note held m = is_some (note_in body_of (held_under held (keys.Note m)))

-- The life is one of a state; who has a note in it has one in what is held, and so has who is accused there.
pub record HoldsNotes (life : Life) (held : HeldKnown) : Type 0 where
  pub state : State
  pub holds : Holds life state
  pub newest_held : (m : ℕ) → is_some (newest state.notes m) ≡ true → has_note held m ≡ true
  pub noted : AreNoted body_of held

-- The note of the member that the store keeps.
abbrev pub own_note : ℕ → Stored → NoteBody
own_note me kept = record { member = me; epoch = kept.epoch; mask = kept.mask }

-- It is no note of the member.
abbrev pub IsOthers : ℕ → Body → Type 0
IsOthers me (Certificate c) = Unit {0}
IsOthers me (Note n) = nat_eq n.member me ≡ false
IsOthers me (Accusation a) = Unit {0}
