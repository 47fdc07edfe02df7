use Rattle.std.specs.Prelude.{Ok}
use Rattle.world_rules.specs.Steps.{says, step}
use Rattle.world_rules.specs.declared.verdict.Verdict.{Verdict}
use Rattle.world_rules.specs.declared.verdict.Verdict.TheVariants as verdicts
use Rattle.world.proofs.AnswerLemmas.{replies-same, says-replies}
use Rattle.world.proofs.StepLemmas.{step-refused}
use Rattle.world.proofs.World.do_or_refuse.Goals as goal

pub returns-in-Some-clause-steps : goal.returns-in-Some-clause-steps
returns-in-Some-clause-steps c = λ s w before h.
    let said : Verdict = verdicts.Refused c.in-Some.why in
    replies-same s before c.args.self.now c.args.out.now.items c.answer.new.out.items (step s w c.args.line.now) (Ok (says said w)) c.answer.result (step-refused s w c.args.line.now c.in-Some.why (c.in-Some.ensures.value s w before h))
    (says-replies s w before c.args.self.now c.args.out.now.items c.answer.new.out.items said c.answer.result h c.answer.ensures.ok c.answer.ensures.refused c.answer.ensures.cause)
