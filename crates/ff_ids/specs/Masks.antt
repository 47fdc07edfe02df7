-- Masks: the rings that a note enables.
use Rattle.std.specs.Prelude.{ℕ, zero, suc, ◌+◌, ◌-◌, ◌*◌, ◌/◌, ◌%◌, ◌^◌, Bool, ◌&&◌, ◌||◌, ◌==◌, nat_lt, nat_le, if◌then◌else◌, List, length, filter}
use Rattle.std.specs.List.{range_with_len}

-- A group of tolerance t has 2t+1 rings, numbered from 0.
abbrev pub ring_count : ℕ → ℕ
ring_count t = 2 * t + 1

-- The mask enables the ring: its bit is set.
abbrev pub enables : ℕ → ℕ → Bool
enables mask ring = mask / 2 ^ ring % 2 == 1

-- The rings of a group of so many rings that the mask enables, in order.
abbrev pub enabled : ℕ → ℕ → List ℕ
enabled rings mask = filter (enables mask) (range_with_len 0 rings)

-- The mask of all rings of a group of tolerance t.
abbrev pub all_rings : ℕ → ℕ
all_rings t = 2 ^ ring_count t - 1

-- No ring at or above 2t+1 is enabled, and more than t rings are.
abbrev pub good_mask : ℕ → ℕ → Bool
good_mask t mask = nat_lt mask (2 ^ ring_count t) && nat_lt t (length (enabled (ring_count t) mask))

-- Four bytes don't hold these bits.
abbrev pub is_wide : ℕ → Bool
is_wide bits = nat_le (2 ^ 32) bits

-- What a note may carry: a good mask, or none of the rings, by which its member leaves.
abbrev pub note_mask : ℕ → ℕ → Bool
note_mask t mask = (mask == 0) || good_mask t mask

-- The number whose bits, of the first so many, are set where the test says so.
unfoldable pub bits_where : (ℕ → Bool) → ℕ → ℕ
bits_where is_set zero = 0
bits_where is_set (suc n) = bits_where is_set n + (if is_set n then 2 ^ n else 0)
