use Rattle.std.proofs.Common.{refl}
use Rattle.node_command.specs.Journal.{environment}
use Rattle.node_command.proofs.LiveLemmas.{behind-so, lived-whole, served-part, served-so, unended}
use Rattle.node_command.proofs.SpendLemmas.{served-spends, unended-spends, unserved-spends}
use Rattle.node_command.proofs.living.serve_to_end.Goals as goal

pub returns-in-Ok-write_all-clause-lives : goal.returns-in-Ok-write_all-clause-lives
returns-in-Ok-write_all-clause-lives g c = λ s n link_told readings told was taken is link_is coming_is first.
    let h = c.in-Ok.ensures.serves s n link_told readings is link_is coming_is in
    lived-whole s n c.args.node.now c.serve.new.node told _ link_told was taken (g.O.Sink.state c.args.out.now).taken (g.O.Sink.state c.serve.new.out).taken
    (g.D.Disk.state c.args.disk.now)
    (environment (g.O.Sink.state c.write_all.new.out).taken (g.L.Link.state c.serve.new.link).contents (g.D.Disk.state c.serve.new.disk)) h.0
    (record { written = first; given = refl }) c.in-Ok.ensures.closed c.in-Ok.ensures.no_disk_fault h.1 c.in-Ok-write_all.ensures.wrote

pub returns-in-Err-write_all-clause-lives : goal.returns-in-Err-write_all-clause-lives
returns-in-Err-write_all-clause-lives g c = λ s n link_told readings told was taken is link_is coming_is first.
    let h = c.in-Ok.ensures.serves s n link_told readings is link_is coming_is in
    unended s n c.args.node.now c.serve.new.node told _ link_told was taken (g.O.Sink.state c.args.out.now).taken (g.O.Sink.state c.serve.new.out).taken
    (g.D.Disk.state c.args.disk.now)
    (environment (g.O.Sink.state c.write_all.new.out).taken (g.L.Link.state c.serve.new.link).contents (g.D.Disk.state c.serve.new.disk)) h.0
    (record { written = first; given = refl }) h.1 c.in-Err-write_all.ensures.wrote

pub returns-in-Err-clause-lives : goal.returns-in-Err-clause-lives
returns-in-Err-clause-lives g c = λ s n link_told readings told was taken is link_is coming_is first.
    let h = c.in-Err.ensures.serves s n link_told readings is link_is coming_is in
    rw c.from.ensures
    (served-part s n c.args.node.now c.serve.new.node told _ link_told was taken (g.O.Sink.state c.args.out.now).taken
    (g.D.Disk.state c.args.disk.now)
    (environment (g.O.Sink.state c.serve.new.out).taken (g.L.Link.state c.serve.new.link).contents (g.D.Disk.state c.serve.new.disk)) h.0 c.in-Err.fault
    (record { written = first; given = refl }) c.in-Err.ensures.store_fault h.1)

pub returns-in-Err-clause-behind : goal.returns-in-Err-clause-behind
returns-in-Err-clause-behind g c = rw c.from.ensures (behind-so c.in-Err.fault)

pub returns-in-Err-clause-served : goal.returns-in-Err-clause-served
returns-in-Err-clause-served g c = rw c.from.ensures (served-so c.in-Err.fault)

pub returns-in-Ok-write_all-clause-spends : goal.returns-in-Ok-write_all-clause-spends
returns-in-Ok-write_all-clause-spends g c = served-spends _ _ _ _ _ _ _ _ _ _ c.in-Ok.ensures.spends c.in-Ok-write_all.ensures.wrote

pub returns-in-Err-write_all-clause-spends : goal.returns-in-Err-write_all-clause-spends
returns-in-Err-write_all-clause-spends g c = unended-spends _ _ _ _ _ _ _ _ _ _ c.in-Ok.ensures.spends c.in-Err-write_all.ensures.wrote

pub returns-in-Err-clause-spends : goal.returns-in-Err-clause-spends
returns-in-Err-clause-spends g c = rw c.from.ensures (unserved-spends _ _ _ _ _ _ _ _ c.in-Err.fault c.in-Err.ensures.spends)
