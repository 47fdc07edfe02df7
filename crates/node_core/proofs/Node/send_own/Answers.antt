use Rattle.std.proofs.Common.{◌≡◌, rules, Ok, subst, sym, ◌∙◌}
use Rattle.std.specs.Prelude.{IfOk}
use Rattle.node_rules.specs.Nodes.{state_of}
use Rattle.node_rules.specs.Calls.{sends_to_all}
use Rattle.datagram.specs.Spelling.{datagram_bytes}
use Rattle.node_core.specs.Neighbours.{addressees}
use Rattle.node_core.specs.Playing.{Plays}
use Rattle.node_core.specs.contracts.Node.{the_view}
use Rattle.node_core.proofs.DueLemmas.{plays-refused}
use Rattle.node_core.proofs.ExtendLemmas.{extends-sends_to_all}
use Rattle.node_core.proofs.Node.send_own.Goals as goal

pub returns-in-Ok-clause-plays : goal.returns-in-Ok-clause-plays
returns-in-Ok-clause-plays c = λ s es os call d p spelled.
    let is : c.args.bytes ≡ Ok c.in-Ok.bytes = search rules in
    c.send_to_neighbours.ensures.plays s es os call d p (c.deref.ensures.value ∙ subst (λ r. IfOk r (λ b. b.items ≡ datagram_bytes d)) is spelled)

pub returns-in-Err-clause-plays : goal.returns-in-Err-clause-plays
returns-in-Err-clause-plays c = λ s es os call d p spelled.
    plays-refused s es os (the_view c.self.inside) _ call (sends_to_all s (addressees s c.args.also (state_of s call.node)) d call) c.fail.ensures (subst (λ v. Plays s es os v call) (sym c.self.view_is) p) (extends-sends_to_all s (addressees s c.args.also (state_of s call.node)) d call)
