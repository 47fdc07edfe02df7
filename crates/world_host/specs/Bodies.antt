-- Bodies that a key has signed.
use Rattle.std.specs.Prelude.{ℕ, Bool, List, Option, Some, None, max}
use Rattle.std.specs.List.{list_any}
use Rattle.records.specs.declared.Body.{Body}
use Rattle.world_rules.specs.Settings.{same_body}

-- The body is among those that were signed.
abbrev pub is_among : List Body → Body → Bool
is_among signed body = list_any (λ b. same_body b body) signed

-- The greater of two epochs, if there are any.
abbrev pub later_of : Option ℕ → Option ℕ → Option ℕ
later_of newest None = newest
later_of None (Some epoch) = Some epoch
later_of (Some before) (Some epoch) = Some (max before epoch)
