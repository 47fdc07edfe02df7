use Rattle.std.proofs.lemmas.Result.{on_ok_weaker}
use Rattle.trace.specs.Answers.{state_of}
use Rattle.replay.proofs.EventLemmas.{tells-another}
use Rattle.replay.proofs.life.Life.begin_another.Goals as goal

pub returns : goal.returns
returns c = λ r plays.
    on_ok_weaker c.add.result
    (λ text. tells-another c.args.self.now r c.new_life.new.self _ _ plays (c.new_life.ensures.holds (state_of r) plays.holds) c.new_life.ensures.group (rw c.in_ok-add_verdict.ensures at text))
    c.add.ensures
