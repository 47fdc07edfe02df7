-- Worked texts, by computation.
use Rattle.std.proofs.Common.{◌≡◌, [], ◌∷◌, refl}
use Rattle.text_trace.specs.Lines.{lines_of}

two_lines : lines_of (97 ∷ 10 ∷ 98 ∷ 10 ∷ []) ≡ (97 ∷ 10 ∷ []) ∷ (98 ∷ 10 ∷ []) ∷ []
two_lines = refl

rest_without_feed : lines_of (10 ∷ 97 ∷ 98 ∷ []) ≡ (10 ∷ []) ∷ (97 ∷ 98 ∷ []) ∷ []
rest_without_feed = refl

no_line : lines_of [] ≡ []
no_line = refl
