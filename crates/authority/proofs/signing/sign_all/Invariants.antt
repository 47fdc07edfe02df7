use Rattle.std.proofs.Common.{◌≡◌, true, List, ◌++◌}
use Rattle.play.specs.Plays.{io}
use Rattle.ports.specs.Outside.{OfSource}
use Rattle.schedule_texts.specs.declared.line.RosterLine.{RosterLine}
use Rattle.authority.specs.Settings.{asked_in}
use Rattle.authority.specs.Texts.{HavePorts}
use Rattle.authority.proofs.SigningLemmas.{SoFar}
use Rattle.authority.proofs.signing.sign_all.Given as goal

abbrev pub invariant-loop-line : goal.invariant-loop-line
invariant-loop-line g l = record {
  done : List RosterLine;
  split : l.fn.lines.items ≡ done ++ l.line-iterator.rest.items;
  ports : HavePorts l.line-iterator.rest.items;
  sink : (g.O.Sink.state l.out).is_open ≡ true;
  so_far : (source : OfSource) → SoFar (asked_in done) l.initial.signer l.signer
      (io source (g.O.Sink.state l.initial.out))
      (io source (g.O.Sink.state l.out))
      (g.D.Disk.state l.initial.disk)
      (g.D.Disk.state l.disk);
}
