use Rattle.node_loop.proofs.ClockLemmas.{follows-clock}
use Rattle.node_loop.proofs.lives_follow_the_clock.Goals as goal

pub returns : goal.returns
returns c = λ pace turns leave heard last readings some rising. follows-clock pace turns leave heard last readings some rising
