use Rattle.std.proofs.Common.{Some, None, subst}
use Rattle.world_replay.specs.declared.stage.Stage.{Stage}
use Rattle.world_replay.specs.Stages.{CanTake}
use Rattle.world_replay.proofs.TakeLemmas.{takes-listed, takes-played}
use Rattle.world_replay.proofs.stage.Stage.take.Goals as goal

pub returns-in-Plays : goal.returns-in-Plays
returns-in-Plays c = λ stage told h.
    takes-played stage told c.args.line.now c.in-Plays.world c.step.new.self c.args.out.now.items c.step.new.out.items c.step.result (λ s w holds. c.step.ensures.steps s w told holds)
    (rw c.in-Plays.is at h)

pub returns-in-Ok-None : goal.returns-in-Ok-None
returns-in-Ok-None c = λ stage told h.
    let behind = rw (c.in-Ok-None.is, c.in-Ok-None.field-0-is) at c.take_listed-begun.ensures.listed in
    let written = rw c.in-Ok-None.is at c.take_listed-begun.ensures.ok in
    takes-listed stage told c.args.line.now c.in-Lists.roster c.take_listed-begun.new.roster None c.args.out.now.items c.take_listed-begun.new.out.items behind written
    (rw c.in-Lists.is at h)

pub returns-in-Ok-Some : goal.returns-in-Ok-Some
returns-in-Ok-Some c = λ stage told h.
    let behind = rw (c.in-Ok-Some.is, c.in-Ok-Some.field-0-is) at c.take_listed-begun.ensures.listed in
    let written = rw c.in-Ok-Some.is at c.take_listed-begun.ensures.ok in
    takes-listed stage told c.args.line.now c.in-Lists.roster c.take_listed-begun.new.roster (Some c.in-Ok-Some.world) c.args.out.now.items c.take_listed-begun.new.out.items behind written
    (rw c.in-Lists.is at h)

pub step-requires-clause-stands : goal.step-requires-clause-stands
step-requires-clause-stands c = (subst (λ (s : Stage). CanTake s c.args.line.now) c.in-Plays.is c.requires).0

pub step-requires-clause-ring : goal.step-requires-clause-ring
step-requires-clause-ring c = (subst (λ (s : Stage). CanTake s c.args.line.now) c.in-Plays.is c.requires).1

pub take_listed-begun-requires : goal.take_listed-begun-requires
take_listed-begun-requires c = subst (λ (s : Stage). CanTake s c.args.line.now) c.in-Lists.is c.requires
