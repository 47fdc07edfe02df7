use Rattle.text_trace.specs.Trace.{Every}
use Rattle.std.proofs.Common.{◌≡◌, ◌-◌, ◌+◌, Result, subst}
use Rattle.line_text.specs.declared.bad_word.BadWord.{BadWord}
use Rattle.line_text.specs.Answers.{Progress}
use Rattle.play.specs.Plays.{IoState, Runs, io}
use Rattle.text_trace.specs.Lines.{text_lines}
use Rattle.verify_text.specs.declared.question.Asked.{Asked}
use Rattle.verify_text.specs.declared.question.Asked.TheVariants as asked
use Rattle.verify_text.specs.declared.verify.Verify.{Verify}
use Rattle.play.specs.declared.stop.Stop.{Stop}
use Rattle.verify_text.specs.Grammar.{opening}
use Rattle.verifier.specs.Answered.{answered, verified}
use Rattle.verifier.specs.declared.verifier.Verifier.{Verifier}
use Rattle.verifier.proofs.TextLemmas.{run-brings}
use Rattle.verifier.proofs.input.verify_input.Goals as goal

-- what a verifier that has read nothing owes
opened : (v : Verifier) (was now : IoState) (result : Result (Unit {0}) (Stop BadWord)) → v.reader ≡ opening → v.asked ≡ asked.Nothing → Runs BadWord Every (λ f. f ≡ answered v.reader v.asked) (text_lines + 1 - v.reader.number) was now result → Runs BadWord Every (λ f. f ≡ verified) text_lines was now result
opened v was now result reader asks h =
    let P : Asked → Type 0 = λ a. Runs BadWord Every (λ f. f ≡ answered v.reader a) (text_lines + 1 - v.reader.number) was now result in
    let Q : Progress Verify → Type 0 = λ p. Runs BadWord Every (λ f. f ≡ answered p asked.Nothing) (text_lines + 1 - p.number) was now result in
    subst Q reader (subst P asks h)

pub returns-clause-runs : goal.returns-clause-runs
returns-clause-runs g c =
    opened c.open-verifier.result (io (g.S.Source.state c.args.input.now) (g.O.Sink.state c.args.out.now))
    (io (g.S.Source.state c.play.new.input) (g.O.Sink.state c.play.new.out))
    c.play.result c.open-verifier.ensures.reader c.open-verifier.ensures.asked c.play.ensures.runs

pub returns-clause-brings : goal.returns-clause-brings
returns-clause-brings g c = run-brings _ _ c.play.result (returns-clause-runs g c)
