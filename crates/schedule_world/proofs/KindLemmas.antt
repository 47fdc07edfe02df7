-- The words behind `kinds` are those of keys of two levels where there are three, and else of one.
use Rattle.std.proofs.Common.{◌≡◌, ◌≢◌, ℕ, Option, None, Err, eqb, List, [], ◌∷◌, length, false, refl, sym, ◌∙◌, arith}
use Rattle.std.proofs.lemmas.Bool.{ne_eqb}
use Rattle.line_text.specs.declared.bad_word.BadWord.{BadWord}
use Rattle.line_text.specs.declared.bad_word.BadWord.TheVariants as bad
use Rattle.line_text.specs.Fields.{Test}
use Rattle.line_text.specs.Frame.{fields_line, whole_line}
use Rattle.line_text.specs.Shapes.{tests}
use Rattle.schedule_world.specs.declared.line.LineWord.TheVariants as words
use Rattle.schedule_world.specs.Rows.{any_line, kinds_fault_in, kinds_line, kinds_tests, one_level, one_level_line, two_level_fault, two_level_line, two_levels}

miscounted : {L : Type 0} (fields : List Test) (fault : List (List ℕ) → Option BadWord) (line : List (List ℕ) → L) (words : List (List ℕ)) → eqb (length words) (length fields) ≡ false → whole_line fields fault line words ≡ Err bad.Count
miscounted fields fault line words e = rw e refl

pub kinds_short : (args : List (List ℕ)) → length args ≢ 3 → any_line words.Kinds args ≡ fields_line (tests one_level) one_level_line args
kinds_short [] other = refl
kinds_short (a ∷ []) other = refl
kinds_short (a ∷ b ∷ []) other = refl
kinds_short (a ∷ b ∷ c ∷ []) other = absurd (other refl)
kinds_short (a ∷ b ∷ c ∷ d ∷ args) other =
    let ws = a ∷ b ∷ c ∷ d ∷ args in
    let three = ne_eqb (length ws) 3 (λ e. absurd (omega (arith, e))) in
    let two = ne_eqb (length ws) 2 (λ e. absurd (omega (arith, e))) in
    miscounted (kinds_tests ws) kinds_fault_in kinds_line ws three ∙ sym (miscounted (tests one_level) (λ others. None) one_level_line ws two)

pub kinds_long : (args : List (List ℕ)) → length args ≡ 3 → any_line words.Kinds args ≡ whole_line (tests two_levels) two_level_fault two_level_line args
kinds_long [] e = absurd (omega (arith, e))
kinds_long (a ∷ []) e = absurd (omega (arith, e))
kinds_long (a ∷ b ∷ []) e = absurd (omega (arith, e))
kinds_long (a ∷ b ∷ c ∷ []) e = refl
kinds_long (a ∷ b ∷ c ∷ d ∷ args) e = absurd (omega (arith, e))
