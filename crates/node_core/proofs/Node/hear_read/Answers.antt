use Rattle.node_core.specs.Playing.{Plays, Stops}
use Rattle.std.proofs.Common.{◌≡◌, Ok, Err, refl, ◌∙◌, subst, rules}
use Rattle.node_core.proofs.HandleLemmas.{fault-heard, heard-by, read-brings}
use Rattle.datagram.specs.Grammar.{GivesDatagram, read_of}
use Rattle.node_core.proofs.SpendLemmas.{spends-none}
use Rattle.std.specs.Prelude.{is_err}
use Rattle.node_core.specs.OnDisks.{on_disk}
use Rattle.node_core.proofs.DiskLemmas.{fault-comes, read-comes}
use Rattle.node_core.proofs.Node.hear_read.Goals as goal

pub returns-in-Err-clause-plays : goal.returns-in-Err-clause-plays
returns-in-Err-clause-plays g c = λ bytes gives s es os call p.
    let is : c.args.heard ≡ Err c.in-Err.fault = search rules in
    fault-heard s es os c.args.self.now c.hear_fault.new.self (read_of bytes) c.in-Err.fault call (subst (GivesDatagram (read_of bytes)) is gives) p c.hear_fault.ensures.memory (λ place at. c.hear_fault.ensures.plays s es os call place p at)

pub returns-in-Ok-clause-plays : goal.returns-in-Ok-clause-plays
returns-in-Ok-clause-plays g c = λ bytes gives s es os call p.
    let is : c.args.heard ≡ Ok c.in-Ok.datagram = search rules in
    heard-by (Plays s es os c.hear.new.self) (Stops s es os c.hear.new.self) s (read_of bytes) c.in-Ok.datagram call c.hear.result (subst (GivesDatagram (read_of bytes)) is gives) (c.hear.ensures.plays s es os call p)

pub returns-in-Err-clause-spends : goal.returns-in-Err-clause-spends
returns-in-Err-clause-spends g c = spends-none c.args.self.now c.hear_fault.new.self _ c.hear_fault.ensures.signs_nothing

pub returns-in-Err-clause-follows : goal.returns-in-Err-clause-follows
returns-in-Err-clause-follows g c = λ bytes gives s es os call d p on at fine.
    let is : c.args.heard ≡ Err c.in-Err.fault = search rules in
    fault-comes s es os c.args.self.now c.hear_fault.new.self (g.D.Disk.state c.args.disk.now).model (read_of bytes) c.in-Err.fault call d (subst (GivesDatagram (read_of bytes)) is gives) c.hear_fault.ensures.signs_nothing c.hear_fault.ensures.memory
    (λ place told. c.hear_fault.ensures.plays s es os call place p told) on at fine

pub returns-in-Ok-clause-follows : goal.returns-in-Ok-clause-follows
returns-in-Ok-clause-follows g c = λ bytes gives s es os call d p on at fine.
    let is : c.args.heard ≡ Ok c.in-Ok.datagram = search rules in
    read-comes s es os c.hear.new.self (g.D.Disk.state c.hear.new.disk).model (is_err c.hear.result) (read_of bytes) c.in-Ok.datagram (on_disk call d c.args.self.now.signer.seat) (subst (GivesDatagram (read_of bytes)) is gives)
    (c.hear.ensures.follows s es os call d p on at fine)

pub returns-in-Err-clause-unsigned : goal.returns-in-Err-clause-unsigned
returns-in-Err-clause-unsigned g c = λ bytes gives none. (c.hear_fault.ensures.signs_nothing.signer, refl)

pub returns-in-Ok-clause-unsigned : goal.returns-in-Ok-clause-unsigned
returns-in-Ok-clause-unsigned g c = λ bytes gives none.
    let is : c.args.heard ≡ Ok c.in-Ok.datagram = search rules in
    c.hear.ensures.unsigned (read-brings (read_of bytes) c.in-Ok.datagram (subst (GivesDatagram (read_of bytes)) is gives) ∙ none)
