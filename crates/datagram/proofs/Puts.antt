-- Several puts in a row.
use Rattle.std.proofs.Common.{◌≡◌, ℕ, List, ◌++◌, ap, ◌∙◌, append_assoc}

pub four_puts : (w w1 w2 w3 w4 a b c d : List ℕ) → w1 ≡ w ++ a → w2 ≡ w1 ++ b → w3 ≡ w2 ++ c → w4 ≡ w3 ++ d → w4 ≡ w ++ (a ++ (b ++ (c ++ d)))
four_puts w w1 w2 w3 w4 a b c d e1 e2 e3 e4 =
    let in_turn : w4 ≡ (((w ++ a) ++ b) ++ c) ++ d = e4 ∙ ap (λ (t : List ℕ). t ++ d) (e3 ∙ ap (λ (t : List ℕ). t ++ c) (e2 ∙ ap (λ (t : List ℕ). t ++ b) e1)) in
    in_turn ∙ append_assoc ((w ++ a) ++ b) c d ∙ append_assoc (w ++ a) b (c ++ d) ∙ append_assoc w a (b ++ (c ++ d))
