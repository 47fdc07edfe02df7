use Rattle.std.proofs.Common.{◌≡◌, length, arith, refl}
use Rattle.epoch_store.proofs.ReadLemmas.{head_read}
use Rattle.epoch_store.proofs.read_head.Goals as goal

pub returns-clause-reads : goal.returns-clause-reads
returns-clause-reads g c =
    let size : length c.read_at.new.buf ≡ 40 = omega arith in
    head_read (g.D.Disk.state c.args.disk.now).moments c.read_at.new.buf _ c.in_ok-count.count c.check_head.result refl size c.in_ok-count.ensures.value c.check_head.ensures
