-- The mask of the answer to an accusation, and which accusation is against a note.
use Rattle.std.specs.Prelude.{◌≡◌, ℕ, ◌-◌, Bool, true, ◌&&◌, ◌||◌, not, ◌==◌, length}
use Rattle.std.specs.List.{list_all, range_with_len}
use Rattle.ff_ids.specs.declared.NoteBody.{NoteBody}
use Rattle.ff_ids.specs.declared.AccBody.{AccBody}
use Rattle.ff_ids.specs.Masks.{bits_where, ring_count, enables, enabled}

-- How many rings of a group of tolerance t the mask disables.
abbrev pub disabled_count : ℕ → ℕ → ℕ
disabled_count t mask = ring_count t - length (enabled (ring_count t) mask)

-- The ring is the lowest-numbered one that the mask disables.
abbrev pub is_lowest_disabled : ℕ → ℕ → Bool
is_lowest_disabled mask ring = not (enables mask ring) && list_all (enables mask) (range_with_len 0 ring)

-- The answer to an accusation on one ring enables the other rings that were enabled, and where t rings are disabled
-- already, the lowest-numbered of those again.
abbrev pub is_enabled_by_answer : ℕ → ℕ → ℕ → ℕ → Bool
is_enabled_by_answer t mask accused_on ring =
    not (ring == accused_on) && (enables mask ring || ((disabled_count t mask == t) && is_lowest_disabled mask ring))

unfoldable pub answering_mask : ℕ → ℕ → ℕ → ℕ
answering_mask t mask accused_on = bits_where (is_enabled_by_answer t mask accused_on) (ring_count t)

-- The accusation is against the note's member, at its epoch, on a ring that it enables.
pub record IsAgainst (own : NoteBody) (acc : AccBody) : Type 0 where
  pub member : acc.accused ≡ own.member
  pub epoch : acc.epoch ≡ own.epoch
  pub ring : enables own.mask.0 acc.ring.0 ≡ true
