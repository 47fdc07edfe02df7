use Rattle.epoch_store.proofs.WriteLemmas.{write_then_sync}
use Rattle.epoch_store.proofs.write_synced.Goals as goal

pub returns-clause-tears : goal.returns-clause-tears
returns-clause-tears g c =
    write_then_sync c.sync.result c.args.place c.args.bytes.now (g.D.Disk.state c.args.disk.now).moments (g.D.Disk.state c.write_at.new.self).moments (g.D.Disk.state c.sync.new.self).moments
    c.in_ok-write_at.ensures.writes (g.met.D.Disk.image_left c.write_at.new.self) c.sync.ensures.settles c.sync.ensures.stays
