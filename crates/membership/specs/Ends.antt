-- Which kept accusations a step ends.
use Rattle.std.specs.Prelude.{◌≡◌, ℕ, ◌<◌, ◌-◌, Bool, ◌&&◌, ◌||◌, not, ◌==◌, if◌then◌else◌, List, Option, Some, None, map, filter, slice_index_or}
use Rattle.std.specs.List.{AllByRecursion, list_any, insert, prefix_len}
use Rattle.std.specs.Option.{option_map_or}
use Rattle.ff_ids.specs.declared.AccBody.{AccBody}
use Rattle.ff_ids.specs.declared.NoteBody.{NoteBody}
use Rattle.ff_ids.specs.Views.{is_number, is_unanswered_by}
use Rattle.ff_ids.specs.Steps.{precedes}
use Rattle.removal_timer.specs.Kept.{IsInOrder, entry_at}
use Rattle.membership.specs.Life.{Life, has_joined, live_successor}
use Rattle.membership.specs.declared.kept.NoteEffect.{NoteEffect}
use Rattle.membership.specs.declared.kept.NoteEffect.TheVariants.{Enters, Leaves, Stays}

abbrev pub Entry : Type 0
Entry = AccBody × ℕ

-- The successor of a member that has joined.
abbrev pub next_of : Life → ℕ → ℕ → Option ℕ
next_of l m ring = if has_joined l m then live_successor l ring m else None

-- It is against the successor of the member.
abbrev pub is_against_next : Life → ℕ → Entry → Bool
is_against_next l m p = is_number (next_of l m p.0.ring.0) p.0.accused

-- It is against the note's member, and answered by the note.
abbrev pub is_answered : NoteBody → Entry → Bool
is_answered n p = (p.0.accused == n.member) && not (is_unanswered_by p.0 n)

-- The note's member where the accusation kept against it on the ring is answered.
abbrev pub answered_on : Life → NoteBody → ℕ → Option ℕ
answered_on l n ring = option_map_or (λ p. if is_unanswered_by p.0 n then None else Some n.member) (entry_at n.member ring l.kept) None

-- It is against the member, or against its successor.
abbrev pub is_of : Life → ℕ → Entry → Bool
is_of l m p = (m == p.0.accused) || is_against_next l m p

-- The same of the accused of one of the accusations.
abbrev pub is_of_any : Life → List AccBody → Entry → Bool
is_of_any l expired p = list_any (λ a. is_of l a.accused p) expired

-- What an accepted note ends, by what it did: what is kept against the successors of a member that entered, and against a
-- member that left and its successors; else what the note answers.
abbrev pub is_ended_by : Life → NoteBody → NoteEffect → Entry → Bool
is_ended_by l n Enters p = is_against_next l n.member p
is_ended_by l n Leaves p = is_of l n.member p
is_ended_by l n Stays p = is_answered n p

-- Of these accusations those against the member's successors are those by the member.
abbrev pub AreTheirs : Life → ℕ → List Entry → Type 0
AreTheirs l m kept = AllByRecursion (λ p. is_of l m p ≡ ((m == p.0.accused) || (m == p.0.accuser))) kept

-- The accusation at the index is against the member of the one before it.
abbrev pub IsAgain : List AccBody → ℕ → Type 0
IsAgain expired n = (0 < n) × ((d : AccBody) → (slice_index_or expired (n - 1) d).accused ≡ (slice_index_or expired n d).accused)

-- It is on the ring, against the member, if there is one.
abbrev pub is_on : Option ℕ → ℕ → Entry → Bool
is_on accused ring p = (p.0.ring.0 == ring) && is_number accused p.0.accused

-- It is against the member that is named for its ring.
abbrev pub is_named : List (Option ℕ) → Entry → Bool
is_named named p = is_number (slice_index_or named p.0.ring.0 None) p.0.accused

-- The list with one more accusation that fell, in order of the accused, then of the ring.
abbrev pub with_fallen : AccBody → List AccBody → List AccBody
with_fallen a fell = insert fell (prefix_len (λ b. precedes b a) fell) a

-- The test says which of the entries have ended: the others are kept, and these fell, in order.
pub record HasEnded (rings : ℕ) (entries : List Entry) (ended : Entry → Bool) (kept : List Entry) (fell : List AccBody) : Type 0 where
  pub in_order : IsInOrder rings entries
  pub left : kept ≡ filter (λ p. not (ended p)) entries
  pub told : fell ≡ map (λ p. p.0) (filter ended entries)

-- Whatever had ended before, now what the test picks has ended too.
abbrev pub Ends : ℕ → (Entry → Bool) → List Entry → List AccBody → List Entry → List AccBody → Type 0
Ends rings picks kept fell kept' fell' = (entries : List Entry) (ended : Entry → Bool) → HasEnded rings entries ended kept fell → HasEnded rings entries (λ p. ended p || picks p) kept' fell'
