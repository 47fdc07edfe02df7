use Rattle.std.proofs.Common.{◌+◌, sym}
use Rattle.std.proofs.lemmas.List.{take_rest}
use Rattle.line_text.proofs.WordLemmas.{parts_at}
use Rattle.journal.proofs.words.first_part.Goals as goal

pub returns-in-Some-clause-parts : goal.returns-in-Some-clause-parts
returns-in-Some-clause-parts c =
    rw (take_rest c.args.text.now (c.in-Some.at + 1)) (parts_at _ _ (sym c.in-Some.ensures))
