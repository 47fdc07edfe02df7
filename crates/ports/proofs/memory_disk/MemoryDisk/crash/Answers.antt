use Rattle.std.proofs.Common.{◌≡◌, rules}
use Rattle.ports.specs.MemoryDisk.{moment_of, picked}
use Rattle.ports.specs.DiskLaws.{now_leaves}
use Rattle.ports.proofs.MomentLemmas.{picked_leaves}
use Rattle.ports.proofs.memory_disk.MemoryDisk.crash.Goals as goal

pub returns-clause-leaves : goal.returns-clause-leaves
returns-clause-leaves c =
    let is : c.append.new.bytes.items ≡ picked c.args.outcome (moment_of c.args.self.now) = search rules in
    rw is (picked_leaves c.args.outcome (moment_of c.args.self.now) (now_leaves c.args.self.now.start c.args.self.now.log))
