use Rattle.std.proofs.Common.{◌≡◌, ℕ, List, Ok, Err, length, take, ap, ◌∙◌, subst, rules}
use Rattle.std.specs.Prelude.{Result}
use Rattle.world_rules.specs.Steps.{step}
use Rattle.world.specs.Answers.{PlaysLine}
use Rattle.world.specs.declared.fault.WorldFault.{WorldFault}
use Rattle.world.proofs.StepLemmas.{steps-cut, steps-kept, steps-lawful}
use Rattle.world.proofs.World.step.Goals as goal

pub returns-in-Ok-clause-steps : goal.returns-in-Ok-clause-steps
returns-in-Ok-clause-steps c = λ s w told h.
    let new : List ℕ = c.play.new.out.items in
    let old : List ℕ = c.args.out.now.items in
    let plays : Result (Unit {0}) WorldFault → Type 0 = λ r. PlaysLine s told c.args.line.now c.play.new.self old new (step s w c.args.line.now) r in
    steps-kept s w told c.args.line.now c.play.new.self old new tt (subst plays c.in-Ok.is (c.play.ensures.plays s w told h))

pub returns-in-Err-clause-steps : goal.returns-in-Err-clause-steps
returns-in-Err-clause-steps c = λ s w told h.
    let new : List ℕ = c.play.new.out.items in
    let old : List ℕ = c.args.out.now.items in
    let plays : Result (Unit {0}) WorldFault → Type 0 = λ r. PlaysLine s told c.args.line.now c.play.new.self old new (step s w c.args.line.now) r in
    let held : c.args.out.now.len ≡ length c.args.out.now.items = search rules in
    let cut : c.truncate.new.self.items ≡ take (length old) new = c.truncate.ensures.items ∙ ap (λ (n : ℕ). take n new) (c.len-held.ensures ∙ held) in
    steps-cut s w told c.args.line.now c.play.new.self old new c.truncate.new.self.items c.in-Err.fault cut (subst plays c.in-Err.is (c.play.ensures.plays s w told h))

pub returns-in-Ok-clause-lawful : goal.returns-in-Ok-clause-lawful
returns-in-Ok-clause-lawful c = λ s w told h played.
    steps-lawful s w told c.args.line.now c.play.new.self c.args.out.now.items c.play.new.out.items (Ok tt) (returns-in-Ok-clause-steps c s w told h) played

pub returns-in-Err-clause-lawful : goal.returns-in-Err-clause-lawful
returns-in-Err-clause-lawful c = λ s w told h played.
    steps-lawful s w told c.args.line.now c.play.new.self c.args.out.now.items c.truncate.new.self.items (Err c.in-Err.fault) (returns-in-Err-clause-steps c s w told h) played
