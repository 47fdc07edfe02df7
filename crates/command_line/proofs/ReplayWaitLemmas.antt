-- A last line without its line feed adds nothing.
use Rattle.std.proofs.Common.{◌≡◌, ℕ, Bool, true, false, List, [], ◌∷◌, ◌++◌}
use Rattle.std.specs.Str.{bytes_eq}
use Rattle.text_trace.specs.Lines.{has_no_feed}
use Rattle.trace.proofs.UnfedLemmas as direct
use Rattle.world_replay.proofs.UnfedLemmas as world
use Rattle.command_line.specs.ReplayLaws.{silent-as}
use Rattle.command_line.specs.Replayed.{replayed, replayed_as, world_header}

behind-first : (of_world : Bool) (first : List ℕ) (lines : List (List ℕ)) (line : List ℕ) → has_no_feed line ≡ true → (replayed_as of_world (first ∷ (lines ++ line ∷ []))).output ≡ (replayed_as of_world (first ∷ lines)).output
behind-first true first lines line clear = world.unfed-adds-nothing (first ∷ lines) line clear
behind-first false first lines line clear = direct.unfed-adds-nothing (first ∷ lines) line clear

pub unfed-adds-nothing : (lines : List (List ℕ)) (line : List ℕ) → has_no_feed line ≡ true → (replayed (lines ++ line ∷ [])).output ≡ (replayed lines).output
unfed-adds-nothing [] line clear = silent-as (bytes_eq line world_header) line [] clear
unfed-adds-nothing (first ∷ lines) line clear = behind-first (bytes_eq first world_header) first lines line clear
