use Rattle.std.proofs.Common.{◌≡◌, ap, ◌∙◌, is_some, filter}
use Rattle.ff_ids.specs.Views.{all_numbers}
use Rattle.validate.specs.Certified.{certificate_of}
use Rattle.audit_node.specs.Playing.{Kept}
use Rattle.node_rules.specs.Ticking.{gossips}
use Rattle.audit_node.specs.contracts.Mirror.{the_view}
use Rattle.audit_node.proofs.PlayLemmas.{plays-refused}
use Rattle.audit_node.proofs.Mirror.gossip.Goals as goal

pub returns-in-Ok-clause-plays : goal.returns-in-Ok-clause-plays
returns-in-Ok-clause-plays c = λ s es call p.
    let listed : c.in-Ok.numbers.items ≡ filter (λ m. is_some (certificate_of c.args.self.now.roster m)) all_numbers = c.in-Ok.ensures ∙ ap (λ (v : Kept). filter (λ m. is_some (certificate_of v.roster m)) all_numbers) c.self.view_is in
    c.gossip_among.ensures.plays s es call p (c.deref.ensures.value ∙ listed)

pub returns-in-Err-clause-plays : goal.returns-in-Err-clause-plays
returns-in-Err-clause-plays c = λ s es call p.
    plays-refused s es (the_view c.self.inside) _ (gossips s c.args.round call) c.fail.ensures
