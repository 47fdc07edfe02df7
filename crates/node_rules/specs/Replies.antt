-- The mask of the first note of a node's life.
use Rattle.std.specs.Prelude.{ℕ, if◌then◌else◌}
use Rattle.ff_ids.specs.Masks.{all_rings, good_mask}

-- A life begins with the mask that the store keeps, or with all rings where that isn't good.
abbrev pub first_mask : ℕ → ℕ → ℕ
first_mask t stored = if good_mask t stored then stored else all_rings t
