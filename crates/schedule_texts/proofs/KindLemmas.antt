-- The words behind `kinds` are those of a key of two levels where there are three, and else of one.
use Rattle.std.proofs.Common.{◌≡◌, ◌≢◌, ℕ, Option, None, Err, eqb, List, [], ◌∷◌, length, false, refl, sym, ◌∙◌, arith}
use Rattle.std.proofs.lemmas.Bool.{ne_eqb}
use Rattle.line_text.specs.declared.bad_word.BadWord.{BadWord}
use Rattle.line_text.specs.declared.bad_word.BadWord.TheVariants as bad
use Rattle.line_text.specs.Fields.{Test}
use Rattle.line_text.specs.Frame.{fields_line, whole_line}
use Rattle.schedule_texts.specs.Shared.{kinds_fault_in, kinds_fields, kinds_in, one_level_fields, one_level_in, two_level_fault, two_level_fields, two_level_in}

miscounted : {L : Type 0} (fields : List Test) (fault : List (List ℕ) → Option BadWord) (line : List (List ℕ) → L) (words : List (List ℕ)) → eqb (length words) (length fields) ≡ false → whole_line fields fault line words ≡ Err bad.Count
miscounted fields fault line words e = rw e refl

pub kinds_short : (args : List (List ℕ)) → length args ≢ 3 → whole_line (kinds_fields args) kinds_fault_in kinds_in args ≡ fields_line one_level_fields one_level_in args
kinds_short [] other = refl
kinds_short (a ∷ []) other = refl
kinds_short (a ∷ b ∷ []) other = refl
kinds_short (a ∷ b ∷ c ∷ []) other = absurd (other refl)
kinds_short (a ∷ b ∷ c ∷ d ∷ args) other =
    let words = a ∷ b ∷ c ∷ d ∷ args in
    let three = ne_eqb (length words) 3 (λ e. absurd (omega (arith, e))) in
    let two = ne_eqb (length words) 2 (λ e. absurd (omega (arith, e))) in
    miscounted (kinds_fields words) kinds_fault_in kinds_in words three ∙ sym (miscounted one_level_fields (λ ws. None) one_level_in words two)

pub kinds_long : (args : List (List ℕ)) → length args ≡ 3 → whole_line (kinds_fields args) kinds_fault_in kinds_in args ≡ whole_line two_level_fields two_level_fault two_level_in args
kinds_long [] e = absurd (omega (arith, e))
kinds_long (a ∷ []) e = absurd (omega (arith, e))
kinds_long (a ∷ b ∷ []) e = absurd (omega (arith, e))
kinds_long (a ∷ b ∷ c ∷ []) e = refl
kinds_long (a ∷ b ∷ c ∷ d ∷ args) e = absurd (omega (arith, e))
