use Rattle.std.proofs.Common.{◌≡◌, ℕ, subst, sym, ◌∙◌, rules}
use Rattle.records.specs.declared.fault.FormFault.TheVariants as forms
use Rattle.journal.specs.declared.event.What.TheVariants as told
use Rattle.node_rules.specs.Calls.{tells}
use Rattle.node_core.specs.Playing.{Plays}
use Rattle.node_core.proofs.HandleLemmas.{bad-same}
use Rattle.node_core.proofs.Node.hear_fault.Goals as goal

pub returns-in-BadForm-clause-plays : goal.returns-in-BadForm-clause-plays
returns-in-BadForm-clause-plays c = λ s es os call place p is.
    let mine : c.args.fault ≡ forms.BadForm c.in-BadForm.place = search rules in
    subst (λ (k : ℕ). Plays s es os c.tell.new.self (tells s (told.BadForm k) call)) (bad-same c.in-BadForm.place place (sym mine ∙ is)) (c.tell.ensures.plays s es os call p)
