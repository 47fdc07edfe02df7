use Rattle.std.proofs.Common.{◌≡◌, Ok, Err, subst, rules}
use Rattle.records.specs.declared.fault.FormFault.TheVariants as forms
use Rattle.datagram.specs.Grammar.{GivesDatagram, read_of}
use Rattle.world.proofs.ForgeryLemmas.{read-tests, none-tests}
use Rattle.world.proofs.World.test.Goals as goal

pub returns-in-Ok-clause-tests : goal.returns-in-Ok-clause-tests
returns-in-Ok-clause-tests c = λ bytes gives s w told h.
    let is : c.args.heard.now ≡ Ok c.in-Ok.datagram = search rules in
    read-tests s w told c.test_datagram.new.self bytes c.in-Ok.datagram c.test_datagram.result (subst (GivesDatagram (read_of bytes)) is gives) (c.test_datagram.ensures.tests s w told h)

pub returns-in-Err-BadForm-clause-tests : goal.returns-in-Err-BadForm-clause-tests
returns-in-Err-BadForm-clause-tests c = λ bytes gives s w told h.
    let is : c.args.heard.now ≡ Err (forms.BadForm c.in-Err-BadForm.field-0-0) = search rules in
    none-tests s w told c.args.self.now bytes c.in-Err-BadForm.field-0-0 (subst (GivesDatagram (read_of bytes)) is gives) h
