use Rattle.authority.specs.Migrating.{Migrates}
use Rattle.play.specs.Plays.{io}
use Rattle.command_line.proofs.EndLemmas.{halt-ends}
use Rattle.command_line.proofs.running.run_migrate.Goals as goal

pub returns : goal.returns
returns g c = record {
  ends =
      halt-ends
      (λ between result. Migrates c.args.name.now (io (g.S.Source.state c.args.input.now) (g.O.Sink.state c.args.out.now)) between (g.D.Disk.state c.args.disk.now) (g.D.Disk.state c.migrate_store-ended.new.disk) result)
      c.migrate_store-ended.result c.from.result c.conclude.result
      (io (g.S.Source.state c.migrate_store-ended.new.input) (g.O.Sink.state c.migrate_store-ended.new.out))
      (io (g.S.Source.state c.migrate_store-ended.new.input) (g.O.Sink.state c.conclude.new.out))
      c.migrate_store-ended.ensures.migrates c.from.ensures (c.conclude.ensures (g.S.Source.state c.migrate_store-ended.new.input));
}
