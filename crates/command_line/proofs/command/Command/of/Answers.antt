use Rattle.std.proofs.Common.{◌≡◌, ◌≤◌, ℕ, List, [], ◌∷◌, length, map, None, refl, arith}
use Rattle.std.specs.Prelude.{string_bytes}
use Rattle.std.proofs.lemmas.List.{length-map}
use Rattle.command_line.specs.Commands.{command_of}
use Rattle.command_line.proofs.command.Command.of.Goals as goal

-- more than four words name no command
many : (words : List (List ℕ)) → 5 ≤ length words → None ≡ command_of words
many [] h = absurd (omega (arith, h))
many (a ∷ []) h = absurd (omega (arith, h))
many (a ∷ b ∷ []) h = absurd (omega (arith, h))
many (a ∷ b ∷ d ∷ []) h = absurd (omega (arith, h))
many (a ∷ b ∷ d ∷ e ∷ []) h = absurd (omega (arith, h))
many (a ∷ b ∷ d ∷ e ∷ f ∷ words) h = refl

pub returns-in_default-4-clause-command : goal.returns-in_default-4-clause-command
returns-in_default-4-clause-command c =
    let long = length-map c.args.words.now string_bytes in
    many (map string_bytes c.args.words.now) (omega (arith, long, c.in_default.len_at_least))
