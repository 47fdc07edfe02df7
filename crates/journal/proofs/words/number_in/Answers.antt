use Rattle.std.proofs.Common.{◌≡◌, ◌<◌, ◌^◌, rules, arith}
use Rattle.std.proofs.lemmas.Fmt.{parse-decimal}
use Rattle.journal.proofs.WordLemmas.{number_is, no_number}
use Rattle.journal.proofs.words.number_in.Goals as goal

pub returns-then-eq : goal.returns-then-eq
returns-then-eq c =
    let fits : c.in-Ok.number < 2 ^ 64 = omega (arith, c.in-Ok.ensures.value.0) in
    number_is c.args.text.now c.in-Ok.number fits (search rules)

pub returns-else-eq : goal.returns-else-eq
returns-else-eq c = no_number c.args.text.now (λ n lt e.
    let read = parse-decimal 64 n _ _ lt lt e c.parse.ensures.value.0 in
    let text : c.format.result.now ≡ c.args.text.now = cc e in search rules)

pub returns-in-Err : goal.returns-in-Err
returns-in-Err c = no_number c.args.text.now (λ n lt e. cc (parse-decimal 64 n _ _ lt lt e c.parse.ensures.value.0))
