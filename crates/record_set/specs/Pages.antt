-- The summary of a page, made of the records that are held.
use Rattle.std.specs.Prelude.{ℕ, Option}
use Rattle.ff_ids.specs.declared.NoteBody.{NoteBody}
use Rattle.ff_ids.specs.declared.summary.SummaryEntry.{SummaryEntry}
use Rattle.ff_ids.specs.declared.summary.Summary.{Summary}
use Rattle.records.specs.declared.Body.{Body}
use Rattle.records.specs.Signing.{CheckedRecord}
use Rattle.record_set.specs.Held.{Held}
use Rattle.record_slots.specs.Pages as slots
pub use Rattle.record_slots.specs.Pages.{note_of_body, entry_with}
unfoldable pub use Rattle.record_slots.specs.Pages.{rings_of, certified_of}

-- what the record says
abbrev pub body_of : CheckedRecord → Body
body_of c = c.rec.body

abbrev pub note_in : Option CheckedRecord → Option NoteBody
note_in o = slots.note_in body_of o

-- The entry of a member in the summary of its page, by what is held.
abbrev pub entry_of : Held → ℕ → SummaryEntry
entry_of held m = slots.entry_of body_of held m

-- An entry for each certified member of the page, in order.
abbrev pub summary_of : Held → ℕ → Summary
summary_of held page = slots.summary_of body_of held page

-- ---- what an entry says

-- What the entry names is held: the certificate, the note where its epoch isn't 0, and an accusation on each of its rings.
abbrev pub IsHeldEntry : Held → SummaryEntry → Type 0
IsHeldEntry held e = slots.IsHeldEntry held e

-- A note that is held has an epoch, and who is accused has a note.
abbrev pub AreNoted : Held → Type 0
AreNoted held = slots.AreNoted body_of held
