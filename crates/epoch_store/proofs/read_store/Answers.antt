use Rattle.std.proofs.Common.{◌≡◌, length, arith, [], ◌∷◌}
use Rattle.ports.specs.DiskCalls.{ToRead}
use Rattle.ports.proofs.SinceLemmas.{Fails-trans}
use Rattle.epoch_store.proofs.OpenLemmas.{entries_hold, entries_read, gates_after, head_only, head_refused, head_refused_on, read_after}
use Rattle.epoch_store.proofs.read_store.Goals as goal

pub returns-in-Ok-clause-reads : goal.returns-in-Ok-clause-reads
returns-in-Ok-clause-reads g c =
    entries_read c.args.tag.now c.in-Ok.first (g.D.Disk.state c.args.disk.now).moments c.read_entries.result c.in-Ok.ensures.reads (rw c.in-Ok.ensures.same at c.read_entries.ensures.reads)

pub returns-in-Ok-clause-store : goal.returns-in-Ok-clause-store
returns-in-Ok-clause-store g c =
    let size : length c.args.tag.now ≡ 32 = omega arith in
    entries_hold c.args.tag.now c.in-Ok.first (g.D.Disk.state c.args.disk.now).moments c.read_entries.result size c.in-Ok.ensures.reads (rw c.in-Ok.ensures.same at c.read_entries.ensures.reads)

pub returns-in-Ok-clause-stays : goal.returns-in-Ok-clause-stays
returns-in-Ok-clause-stays g c =
    Fails-trans (g.D.Disk.state c.args.disk.now).moments (g.D.Disk.state c.read_head.new.disk).moments (g.D.Disk.state c.read_entries.new.disk).moments c.in-Ok.ensures.stays c.read_entries.ensures.stays

pub returns-in-Err-clause-reads : goal.returns-in-Err-clause-reads
returns-in-Err-clause-reads g c = head_refused c.args.tag.now (g.D.Disk.state c.args.disk.now).moments c.in-Err.error c.in-Err.ensures.reads

pub returns-in-Ok-clause-calls : goal.returns-in-Ok-clause-calls
returns-in-Ok-clause-calls g c =
    read_after [] (ToRead 0 40 ∷ []) (g.D.Disk.state c.args.disk.now).moments c.read_entries.result (g.D.Disk.state c.args.disk.now).calls (g.D.Disk.state c.read_head.new.disk).calls (g.D.Disk.state c.read_entries.new.disk).calls c.in-Ok.ensures.called (rw c.in-Ok.ensures.same at c.read_entries.ensures.calls)

pub returns-in-Err-clause-calls : goal.returns-in-Err-clause-calls
returns-in-Err-clause-calls g c = head_only c.in-Err.error (g.D.Disk.state c.args.disk.now).moments _ _ c.in-Err.ensures.near c.in-Err.ensures.called

pub returns-in-Ok-clause-follows : goal.returns-in-Ok-clause-follows
returns-in-Ok-clause-follows g c =
    gates_after [] (ToRead 0 40 ∷ []) (g.D.Disk.state c.args.disk.now).moments c.read_entries.result (g.D.Disk.state c.args.disk.now).model (g.D.Disk.state c.read_head.new.disk).model (g.D.Disk.state c.read_entries.new.disk).model
    c.in-Ok.ensures.follows (rw c.in-Ok.ensures.same at c.read_entries.ensures.follows)

pub returns-in-Err-clause-follows : goal.returns-in-Err-clause-follows
returns-in-Err-clause-follows g c =
    head_refused_on c.in-Err.error (g.D.Disk.state c.args.disk.now).moments _ _ c.in-Err.ensures.near c.in-Err.ensures.follows
