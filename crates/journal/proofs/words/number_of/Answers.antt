use Rattle.std.proofs.Common.{rules, sym, subst}
use Rattle.std.specs.Str.{IsUtf8}
use Rattle.std.proofs.lemmas.Fmt.{IsAscii-decimal}
use Rattle.std.proofs.lemmas.Str.{IsUtf8-from_ascii}
use Rattle.journal.proofs.WordLemmas.{no_number}
use Rattle.journal.proofs.words.number_of.Goals as goal

pub returns-in-Err : goal.returns-in-Err
returns-in-Err c = no_number c.args.word.now (λ n lt e.
    let text : IsUtf8 c.args.word.now = subst IsUtf8 (sym e) (IsUtf8-from_ascii _ (IsAscii-decimal n lt)) in search rules)
