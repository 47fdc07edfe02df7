use Rattle.std.proofs.Common.{◌≡◌, Ok, Err, subst, rules}
use Rattle.records.specs.declared.fault.FormFault.TheVariants as forms
use Rattle.datagram.specs.Grammar.{GivesDatagram, read_of}
use Rattle.node_rules.specs.Deliveries.{hears}
use Rattle.audit_node.specs.contracts.Mirror.{the_view}
use Rattle.audit_node.proofs.HandleLemmas.{fault-heard, heard-by}
use Rattle.audit_node.proofs.PlayLemmas.{plays-refused}
use Rattle.audit_node.proofs.Mirror.hear_read.Goals as goal

pub returns-in-Ok-clause-plays : goal.returns-in-Ok-clause-plays
returns-in-Ok-clause-plays c = λ bytes gives s es call p.
    let is : c.args.heard ≡ Ok c.in-Ok.datagram = search rules in
    heard-by s es c.hear.new.self (read_of bytes) c.in-Ok.datagram call (subst (GivesDatagram (read_of bytes)) is gives) (c.hear.ensures.plays s es call p)

pub returns-in-Err-BadForm-clause-plays : goal.returns-in-Err-BadForm-clause-plays
returns-in-Err-BadForm-clause-plays c = λ bytes gives s es call p.
    let is : c.args.heard ≡ Err (forms.BadForm c.in-Err-BadForm.place) = search rules in
    fault-heard s es c.tell.new.self (read_of bytes) c.in-Err-BadForm.place call (subst (GivesDatagram (read_of bytes)) is gives) (c.tell.ensures.plays s es call p)

pub returns-in-Err-OutOfMemory-clause-plays : goal.returns-in-Err-OutOfMemory-clause-plays
returns-in-Err-OutOfMemory-clause-plays c = λ bytes gives s es call p.
    plays-refused s es (the_view c.self.inside) _ (hears s (read_of bytes) call) c.fail.ensures
