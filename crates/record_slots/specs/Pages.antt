-- The summary of a page, made of what is held. `body` tells what each that is held says.
use Rattle.std.specs.Prelude.{◌≡◌, ℕ, ◌*◌, ◌<◌, true, is_some, IfSome, List, Option, Some, None, map, filter}
use Rattle.std.specs.List.{range_with_len}
use Rattle.std.specs.FinMap.{contains_key}
use Rattle.std.specs.Option.{option_map_or}
use Rattle.ff_ids.specs.declared.TheConstants.{MAX_RINGS, PAGE_MEMBERS}
use Rattle.ff_ids.specs.Masks.{bits_where, enables}
use Rattle.ff_ids.specs.declared.NoteBody.{NoteBody}
use Rattle.ff_ids.specs.declared.summary.SummaryEntry.{SummaryEntry}
use Rattle.ff_ids.specs.declared.summary.Summary.{Summary}
use Rattle.ff_ids.specs.declared.summary.RecordKey.TheVariants as keys
use Rattle.records.specs.declared.Body.{Body}
use Rattle.records.specs.declared.Body.TheVariants as bodies
use Rattle.record_slots.specs.Held.{HeldOf, held_under}

-- the note that a record is
abbrev pub note_of_body : Body → Option NoteBody
note_of_body (bodies.Certificate c) = None
note_of_body (bodies.Note n) = Some n
note_of_body (bodies.Accusation a) = None

abbrev pub note_in : {X : Type 0} → (X → Body) → Option X → Option NoteBody
note_in body None = None
note_in body (Some x) = note_of_body (body x)

-- What an entry says of the member: the epoch and the mask of its note, 0 and 0 without one, and the rings.
abbrev pub entry_with : ℕ → Option NoteBody → ℕ → SummaryEntry
entry_with m note rings =
    record {
      member = m;
      epoch = option_map_or (λ n. n.epoch) note 0;
      mask = record { 0 = option_map_or (λ n. n.mask.0) note 0 };
      rings = rings;
    }

-- the rings on which an accusation against the member is held: there are at most `MAX_RINGS`
unfoldable pub rings_of : {X : Type 0} → HeldOf X → ℕ → ℕ
rings_of held m = bits_where (λ r. contains_key held (keys.Accusation m (record { 0 = r }))) MAX_RINGS

-- The entry of a member in the summary of its page, by what is held.
abbrev pub entry_of : {X : Type 0} → (X → Body) → HeldOf X → ℕ → SummaryEntry
entry_of body held m = entry_with m (note_in body (held_under held (keys.Note m))) (rings_of held m)

-- The certified members of the page, in order.
unfoldable pub certified_of : {X : Type 0} → HeldOf X → ℕ → List ℕ
certified_of held page = filter (λ m. contains_key held (keys.Certificate m)) (range_with_len (PAGE_MEMBERS * page) PAGE_MEMBERS)

-- An entry for each certified member of the page, in order.
abbrev pub summary_of : {X : Type 0} → (X → Body) → HeldOf X → ℕ → Summary
summary_of body held page = record { page = page; listed = map (entry_of body held) (certified_of held page) }

-- ---- what an entry says

-- What the entry names is held: the certificate, the note where its epoch isn't 0, and an accusation on each of its rings.
pub record IsHeldEntry {X : Type 0} (held : HeldOf X) (e : SummaryEntry) : Type 0 where
  pub certificate : contains_key held (keys.Certificate e.member) ≡ true
  pub note : 0 < e.epoch → contains_key held (keys.Note e.member) ≡ true
  pub accusation : (r : ℕ) → enables e.rings r ≡ true → contains_key held (keys.Accusation e.member (record { 0 = r })) ≡ true

-- A note that is held has an epoch, and who is accused has a note.
pub record AreNoted {X : Type 0} (body : X → Body) (held : HeldOf X) : Type 0 where
  pub epoch : (m : ℕ) → IfSome (note_in body (held_under held (keys.Note m))) (λ n. 0 < n.epoch)
  pub accused : (m r : ℕ) → contains_key held (keys.Accusation m (record { 0 = r })) ≡ true → is_some (note_in body (held_under held (keys.Note m))) ≡ true
