-- Which states a kept life stands for.
use Rattle.std.specs.Prelude.{◌≡◌, ℕ, ◌<◌, true, ◌==◌, max, if◌then◌else◌, List, [], ◌∷◌, Option, is_some, IfSome, unwrap_or, All}
use Rattle.std.specs.FinMap.{get}
use Rattle.ff_ids.specs.declared.AccBody.{AccBody}
use Rattle.ff_ids.specs.declared.NoteBody.{NoteBody}
use Rattle.ff_ids.specs.Notes.{newest}
use Rattle.ff_ids.specs.Views.{State, is_member, places_of, stands}
use Rattle.membership.specs.Kept.{expired_at}
use Rattle.membership.specs.Life.{Life}

-- The greatest epoch of an accusation in the list against the member, 0 where there is none.
abbrev pub greatest_epoch : List AccBody → ℕ → ℕ
greatest_epoch [] m = 0
greatest_epoch (a ∷ expired) m = if a.accused == m then max a.epoch (greatest_epoch expired m) else greatest_epoch expired m

-- What is kept of the number m is as the state says: whether it is a member, its places, the newest of its notes,
-- and the greatest epoch that expired.
pub record HoldsAt (s : State) (m : ℕ) (kept_places : Option (List (List ℕ))) (note : Option NoteBody) (epoch : ℕ) : Type 0 where
  pub member : is_member s m ≡ is_some kept_places
  pub places : places_of s.members m ≡ unwrap_or kept_places []
  pub newest_note : newest s.notes m ≡ note
  pub greatest : greatest_epoch s.expired m ≡ epoch
  pub positive : IfSome note (λ n. 0 < n.epoch)

-- What is kept stands for the state, whose kept accusations all stand.
pub record Holds (l : Life) (s : State) : Type 0 where
  pub moment_same : s.moment ≡ l.moment
  pub kept_same : s.kept ≡ l.kept
  pub at_number : (m : ℕ) → HoldsAt s m (get l.places m) (get l.notes m) (expired_at l.expired m)
  pub standing : All (λ p. stands s p.0 ≡ true) s.kept
