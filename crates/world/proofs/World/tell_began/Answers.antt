use Rattle.std.proofs.Common.{rules, ◌≡◌, ℕ, true, List, sym, ◌∙◌, length, [], ◌∷◌, ◌++◌, Some}
use Rattle.std.specs.Prelude.{is_err}
use Rattle.std.proofs.lemmas.Result.{err_from_is_err_and}
use Rattle.signer.proofs.OnwardLemmas.{front-trans}
use Rattle.world_rules.specs.declared.verdict.Verdict.TheVariants as verdicts
use Rattle.world_rules.specs.Walk.{behind_line}
use Rattle.world.specs.Courses.{began_text}
use Rattle.world.proofs.AnswerLemmas.{refused-text}
use Rattle.world.proofs.World.tell_began.Goals as goal

pub returns-then-is_err-clause-lines : goal.returns-then-is_err-clause-lines
returns-then-is_err-clause-lines c = λ m place.
    let err : is_err c.answer-answered.result ≡ true = sym c.is_err.ensures.value ∙ c.if-is_err.true in
    refused-text c.args.out.now.items c.answer-answered.new.out.items (began_text c.args.life m (length c.args.self.now.sent) c.args.events.now) c.answer-answered.result err
    c.answer-answered.ensures.refused c.answer-answered.ensures.cause

pub returns-in_err-tell_all-clause-lines : goal.returns-in_err-tell_all-clause-lines
returns-in_err-tell_all-clause-lines c = λ m place.
    let p = err_from_is_err_and c.from_residual.result c.from_residual.ensures.1 in
    let out : List ℕ = c.args.out.now.items in
    let new : List ℕ = c.tell_all.new.out.items in
    let verdict : List ℕ = behind_line (Some (verdicts.Began c.args.life)) in
    let mid : c.answer-answered.new.out.items ≡ out ++ (verdict ++ 10 ∷ []) = search rules in
    let lines = c.in_err-tell_all.ensures.lines m place in
    rw (p.1, p.2) (front-trans out c.answer-answered.new.out.items new (record { more = verdict ++ 10 ∷ []; is = mid }) lines)
