use Rattle.std.proofs.Common.{◌≡◌, ◌<◌, true, Option, Some, None, IfSome, is_some, length, get_or, eqb, sym, ap, ◌∙◌, subst, arith}
use Rattle.std.proofs.lemmas.Bool.Decides.{nat_tests}
use Rattle.removal_timer.specs.Kept.{slot_at, IsOwn}
use Rattle.removal_timer.specs.Tally.{is_against, is_by}
use Rattle.removal_timer.proofs.QueueLemmas.{without_absent, Apart-absent}
use Rattle.removal_timer.proofs.HeldLemmas.{AreQueued-emptied}
use Rattle.removal_timer.proofs.SlotLemmas.{Entry}
use Rattle.removal_timer.proofs.MarkLemmas.{marks-set}
use Rattle.removal_timer.proofs.TallyLemmas.{AreTallied-less, some-counted}
use Rattle.removal_timer.proofs.take_out.Goals as goal

pub take-requires-clause-ring : goal.take-requires-clause-ring
take-requires-clause-ring c =
    let there : get_or c.args.slots.now c.args.number None ≡ Some c.in-Some.entry = sym c.kept_in.ensures.value ∙ c.in-Some.is in
    let own : IsOwn c.args._rings c.args.number c.in-Some.entry = subst (λ (o : Option Entry). IfSome o (IsOwn c.args._rings c.args.number)) there (c.requires.queued.own c.args.number) in
    omega (arith, own.ring, own.few)

pub take-requires-clause-is_set : goal.take-requires-clause-is_set
take-requires-clause-is_set c = λ lt.
    let there : get_or c.args.slots.now c.args.number None ≡ Some c.in-Some.entry = sym c.kept_in.ensures.value ∙ c.in-Some.is in
    let own : IsOwn c.args._rings c.args.number c.in-Some.entry = subst (λ (o : Option Entry). IfSome o (IsOwn c.args._rings c.args.number)) there (c.requires.queued.own c.args.number) in
    let within : c.args.number < length c.args.slots.now = c.kept_in.ensures.reached (ap is_some c.in-Some.is) in
    marks-set c.args._rings c.args.slots.now c.args.number c.in-Some.entry c.args.tallies.now.marks c.requires.tallied.marks c.requires.queued.own own there within lt

pub take-requires-clause-against : goal.take-requires-clause-against
take-requires-clause-against c = λ lt.
    let there : get_or c.args.slots.now c.args.number None ≡ Some c.in-Some.entry = sym c.kept_in.ensures.value ∙ c.in-Some.is in
    let own : eqb c.in-Some.entry.0.accused c.in-Some.entry.0.accused ≡ true = grind (arith, nat_tests) in
    omega (arith, c.requires.tallied.against c.in-Some.entry.0.accused lt, some-counted (is_against c.in-Some.entry.0.accused) c.args.slots.now c.args.number c.in-Some.entry there own)

pub take-requires-clause-by : goal.take-requires-clause-by
take-requires-clause-by c = λ lt.
    let there : get_or c.args.slots.now c.args.number None ≡ Some c.in-Some.entry = sym c.kept_in.ensures.value ∙ c.in-Some.is in
    let own : eqb c.in-Some.entry.0.accuser c.in-Some.entry.0.accuser ≡ true = grind (arith, nat_tests) in
    omega (arith, c.requires.tallied.by c.in-Some.entry.0.accuser lt, some-counted (is_by c.in-Some.entry.0.accuser) c.args.slots.now c.args.number c.in-Some.entry there own)

pub returns-in-Some-clause-queued : goal.returns-in-Some-clause-queued
returns-in-Some-clause-queued c =
    rw c.remove.ensures (AreQueued-emptied c.args._rings c.args.slots.now c.args.queue.now c.args.number c.requires.queued (c.kept_in.ensures.reached (ap is_some c.in-Some.is)))

pub returns-in-Some-clause-tallied : goal.returns-in-Some-clause-tallied
returns-in-Some-clause-tallied c =
    let there : get_or c.args.slots.now c.args.number None ≡ Some c.in-Some.entry = sym c.kept_in.ensures.value ∙ c.in-Some.is in
    let within : c.args.number < length c.args.slots.now = c.kept_in.ensures.reached (ap is_some c.in-Some.is) in
    let own : IsOwn c.args._rings c.args.number c.in-Some.entry = subst (λ (o : Option Entry). IfSome o (IsOwn c.args._rings c.args.number)) there (c.requires.queued.own c.args.number) in
    let left = AreQueued-emptied c.args._rings c.args.slots.now c.args.queue.now c.args.number c.requires.queued within in
    rw c.take.ensures.value (AreTallied-less c.args._rings c.args.slots.now c.args.number c.in-Some.entry c.args.tallies.now c.requires.tallied c.requires.queued.own left.own own there within c.take.ensures.accused c.take.ensures.accuser)

pub returns-in-None-clause-left : goal.returns-in-None-clause-left
returns-in-None-clause-left c =
    let none : None ≡ slot_at c.args.slots.now c.args.number = sym c.in-None.is ∙ c.kept_in.ensures.value in
    let free = c.requires.queued.filled c.args.number ∙ ap is_some (sym none) in
    sym (without_absent c.args.number c.args.queue.now (Apart-absent c.args.number c.args.queue.now free))
