use Rattle.std.proofs.Common.{◌≡◌, ℕ, ◌++◌, ◌∷◌, [], Option, Some, None, ap, sym, ◌∙◌, subst, rules}
use Rattle.std.specs.Prelude.{Ok, OnOk}
use Rattle.records.specs.declared.Body.{Body}
use Rattle.world_rules.specs.Steps.{begun, lies, quiet, says}
use Rattle.world_rules.specs.declared.verdict.Verdict.{Verdict}
use Rattle.world_rules.specs.declared.verdict.Verdict.TheVariants as verdicts
use Rattle.world_rules.specs.Walk.{behind_line}
use Rattle.world_rules.specs.Worlds.{World as ModelWorld, next_of_liar}
use Rattle.world.specs.Courses.{body_in, signs}
use Rattle.world.proofs.AnswerLemmas.{ends-replies, ok_answer, replies-same, says-replies}
use Rattle.world.proofs.World.sign.Goals as goal

pub returns-in_default-clause-signs : goal.returns-in_default-clause-signs
returns-in_default-clause-signs c = λ s w before h liar.
    let none : c.body_meant.result ≡ None = search rules in
    replies-same s before c.args.self.now c.args.out.now.items c.end_line.new.out.items (Ok (signs s c.args.key c.args.name.now w (body_in w c.args.line.now))) (Ok (quiet (begun w))) c.end_line.result
    (ap (λ (b : Option Body). ok_answer (signs s c.args.key c.args.name.now w b)) (sym (c.body_meant.ensures.value s w before h) ∙ none))
    (ends-replies s w before c.args.self.now c.args.out.now.items c.end_line.new.out.items c.end_line.result h c.end_line.ensures.ok c.end_line.ensures.refused c.end_line.ensures.cause)

pub returns-clause-signs : goal.returns-clause-signs
returns-clause-signs c = λ s w before h liar.
    let key : ℕ = c.args.key in
    let body : Body = c.in-Some.body in
    let meant : body_in w c.args.line.now ≡ Some body = sym (c.in-Some.ensures.value s w before h) in
    let placed = c.in-Some-liar_of.ensures.place s h.lying in
    let done = c.in_ok-index.ensures.lies s w before key h placed.1 in
    let after : ModelWorld = (lies s key body c.args.name.now w).world in
    let said : Verdict = verdicts.Spends (next_of_liar w key) in
    let written : OnOk c.answer.result (c.answer.new.out.items ≡ c.args.out.now.items ++ (behind_line (Some said) ++ 10 ∷ [])) =
    subst (λ (n : ℕ). OnOk c.answer.result (c.answer.new.out.items ≡ c.args.out.now.items ++ (behind_line (Some (verdicts.Spends n)) ++ 10 ∷ []))) done.0 c.answer.ensures.ok in
    replies-same s before c.lie.new.self c.args.out.now.items c.answer.new.out.items (Ok (signs s key c.args.name.now w (body_in w c.args.line.now))) (Ok (says said after)) c.answer.result
    (ap (λ (b : Option Body). ok_answer (signs s key c.args.name.now w b)) meant)
    (says-replies s after before c.lie.new.self c.args.out.now.items c.answer.new.out.items said c.answer.result done.1 written c.answer.ensures.refused c.answer.ensures.cause)
