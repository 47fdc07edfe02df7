use Rattle.std.proofs.Common.{◌≡◌, true, rules}
use Rattle.line_text.specs.Frame.{first_word}
use Rattle.line_text.specs.Words.{is_word, parts}
use Rattle.line_text.proofs.GlanceLemmas.{number-word}
use Rattle.line_text.proofs.glance.Glance.number.Goals as goal

pub returns-then-number-high-clause-word : goal.returns-then-number-high-clause-word
returns-then-number-high-clause-word c =
    let word : is_word (first_word (parts c.in_ok-self.field-0.now)) ≡ true = number-word (first_word (parts c.in_ok-self.field-0.now)) c.in_ok-number.number c.in_ok-number.ensures.number in
    search (rules, word)
