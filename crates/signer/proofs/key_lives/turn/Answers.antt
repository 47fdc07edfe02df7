use Rattle.std.proofs.Common.{◌≡◌, List, ap, subst, sym}
use Rattle.ports.specs.Disk.{Moment, settled}
use Rattle.ports.specs.MemoryDisk.{DiskState, now_of}
use Rattle.ports.specs.declared.memory_disk.Change.{Change}
use Rattle.signer.proofs.PlayLemmas.{ends_of, some-crashed}
use Rattle.signer.specs.Played.{EndsSome, told}
use Rattle.signer.proofs.key_lives.turn.Goals as goal

pub returns-in-Open : goal.returns-in-Open
returns-in-Open c = λ under before spent stands.
    rw c.in-Open.is (c.reopen.ensures before spent (ends_of c.args.holder.now under before spent c.args.signer (told c.args.disk.now) stands))

pub returns-in-Move : goal.returns-in-Move
returns-in-Move c = λ under before spent stands.
    c.move_store.ensures before spent (ends_of c.args.holder.now under before spent c.args.signer (told c.args.disk.now) stands)

pub returns-in-Crash : goal.returns-in-Crash
returns-in-Crash c = λ under before spent stands.
    let old = c.args.disk.now in
    let new = c.crash.new.self in
    let ends = ends_of c.args.holder.now under before spent c.args.signer (told old) stands in
    let quiet : now_of new.start new.log ≡ settled new.start =
    ap (λ (log : List Change). now_of new.start log) (ap (λ (d : DiskState). d.log) c.crash.ensures.after) in
    subst (λ (m : Moment). EndsSome before spent m) (sym quiet)
    (some-crashed before spent (now_of old.start old.log) new.start ends c.crash.ensures.leaves)
