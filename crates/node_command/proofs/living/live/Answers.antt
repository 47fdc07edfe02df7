use Rattle.std.proofs.Common.{List, Ok, Err, refl, subst}
use Rattle.journal.specs.declared.event.Event as journal
use Rattle.node_core.specs.Spending.{spent_told}
use Rattle.node_loop.specs.Lines.{WritesSpent}
use Rattle.node_command.proofs.LiveLemmas.{behind-so, served-so, told-part, told-whole}
use Rattle.node_command.proofs.SpendLemmas.{told-spends, untold-spends}
use Rattle.node_command.proofs.living.live.Goals as goal

pub returns-in-Ok-clause-lives : goal.returns-in-Ok-clause-lives
returns-in-Ok-clause-lives g c = λ s n link_told readings is link_is coming_is.
    let t = told-whole s n c.args.node.now c.without_loss.result.now c.args.events.now link_told (g.L.Link.state c.args.link.now).contents (g.O.Sink.state c.args.out.now).taken (g.O.Sink.state c.tell_all.new.out).taken (g.L.Link.state c.tell_all.new.link).contents
    (g.D.Disk.state c.args.disk.now).moments 0 _ c.without_loss.ensures.same c.requires.unsent is link_is refl c.in-Ok.ensures.tells in
    c.serve_to_end.ensures.lives s n link_told readings c.args.events.now (g.L.Link.state c.args.link.now).contents (g.O.Sink.state c.args.out.now).taken is t.given coming_is t.written

pub returns-in-Ok-clause-spends : goal.returns-in-Ok-clause-spends
returns-in-Ok-clause-spends g c =
    let before = (g.O.Sink.state c.args.out.now).taken in
    let mid = (g.O.Sink.state c.tell_all.new.out).taken in
    let f0 = (g.L.Link.state c.args.link.now).faults in
    let f1 = (g.L.Link.state c.tell_all.new.link).faults in
    let told = subst (λ (es : List journal.Event). WritesSpent (spent_told es) before mid f0 f1 (Ok tt)) c.without_loss.ensures.same c.in-Ok.ensures.spent in
    told-spends c.args.events.now c.args.node.now.signer (g.D.Disk.state c.args.disk.now).moments (g.D.Disk.state c.serve_to_end.new.disk).moments before mid (g.O.Sink.state c.serve_to_end.new.out).taken
    f0 f1 (g.L.Link.state c.serve_to_end.new.link).faults tt c.serve_to_end.result told c.serve_to_end.ensures.served c.serve_to_end.ensures.spends

pub returns-in-Err-clause-spends : goal.returns-in-Err-clause-spends
returns-in-Err-clause-spends g c =
    let before = (g.O.Sink.state c.args.out.now).taken in
    let after = (g.O.Sink.state c.tell_all.new.out).taken in
    let f0 = (g.L.Link.state c.args.link.now).faults in
    let f1 = (g.L.Link.state c.tell_all.new.link).faults in
    let told = subst (λ (es : List journal.Event). WritesSpent (spent_told es) before after f0 f1 (Err c.in-Err.fault)) c.without_loss.ensures.same c.in-Err.ensures.spent in
    rw c.from.ensures (untold-spends c.args.events.now c.args.node.now.signer (g.D.Disk.state c.args.disk.now).moments before after f0 f1 c.in-Err.fault told)

pub returns-in-Err-clause-lives : goal.returns-in-Err-clause-lives
returns-in-Err-clause-lives g c = λ s n link_told readings is link_is coming_is.
    rw c.from.ensures
    (told-part s n c.args.node.now c.without_loss.result.now c.args.events.now _ link_told (g.L.Link.state c.args.link.now).contents (g.L.Link.state c.tell_all.new.link).contents (g.O.Sink.state c.args.out.now).taken (g.O.Sink.state c.tell_all.new.out).taken
    (g.D.Disk.state c.args.disk.now) 0 _ c.in-Err.fault c.without_loss.ensures.same c.requires.unsent is link_is refl c.in-Err.ensures.tells)

pub returns-in-Err-clause-behind : goal.returns-in-Err-clause-behind
returns-in-Err-clause-behind g c = rw c.from.ensures (behind-so c.in-Err.fault)

pub returns-in-Err-clause-served : goal.returns-in-Err-clause-served
returns-in-Err-clause-served g c = rw c.from.ensures (served-so c.in-Err.fault)
