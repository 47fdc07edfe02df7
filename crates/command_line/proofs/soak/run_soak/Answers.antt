use Rattle.play.specs.Plays.{io}
use Rattle.command_line.proofs.soak.run_soak.Goals as goal

pub returns : goal.returns
returns g c = record {
  ends = λ source. record {
    first = c.soak_and_tell-first.result;
    between = io source (g.O.Sink.state c.soak_and_tell-first.new.out);
    soaks = c.soak_and_tell-first.ensures.soaks source;
    tells = c.conclude.ensures source;
  };
}
