-- Slots by number, of which each may be filled in one of two lists.
use Rattle.std.specs.Prelude.{◌≡◌, ℕ, ◌≤◌, List, [], ◌∷◌, Option, length}
use Rattle.std.specs.Option.{option_or}
use Rattle.ff_ids.specs.declared.TheConstants.{MEMBERS}

-- What is in the slots: that of the first list, or else that of the second, which may be shorter.
abbrev pub slots_of : List (Option (List (List ℕ))) → List (Option (List (List ℕ))) → List (Option (List (List ℕ)))
slots_of [] whole = []
slots_of (x ∷ hinted) [] = x ∷ slots_of hinted []
slots_of (x ∷ hinted) (y ∷ whole) = option_or x y ∷ slots_of hinted whole

-- There is a slot for each member, and room for each in the second list.
pub record HasSlots (hinted whole : List (Option (List (List ℕ)))) (capacity : ℕ) : Type 0 where
  pub long : length hinted ≡ MEMBERS
  pub few : length whole ≤ MEMBERS
  pub room : MEMBERS ≤ capacity
