use Rattle.std.proofs.Common.{sym, ◌∙◌}
use Rattle.soak_lines.specs.Workload.{words_of}
use Rattle.soak_lines.proofs.TurnLemmas.{none-follows, some-follows}
use Rattle.soak_lines.proofs.soak.Soak.next.Goals as goal

pub invariant_of-self-in-Some : goal.invariant_of-self-in-Some
invariant_of-self-in-Some c =
    let led = some-follows c.self.inside.plan c.self.inside.place (words_of c.self.inside.words) c.in_ok-line.field-0 c.in-Some.field-0 (words_of c.next_turn.new.words) c.self.invariant.1 c.in_ok-line.ensures.turn c.in-Some.is in
    (c.self.invariant.0, led.comes)

pub returns-in-Some-clause-given : goal.returns-in-Some-clause-given
returns-in-Some-clause-given c =
    let led = some-follows c.self.inside.plan c.self.inside.place (words_of c.self.inside.words) c.in_ok-line.field-0 c.in-Some.field-0 (words_of c.next_turn.new.words) c.self.invariant.1 c.in_ok-line.ensures.turn c.in-Some.is in
    sym c.self.view_is ∙ led.given

pub returns-in-None-clause-given : goal.returns-in-None-clause-given
returns-in-None-clause-given c =
    let led = none-follows c.self.inside.plan c.self.inside.place (words_of c.self.inside.words) c.in_ok-line.field-0 (words_of c.next_turn.new.words) c.self.invariant.1 c.in_ok-line.ensures.turn c.in-None.is in
    (sym c.self.view_is ∙ led.0, led.1)
