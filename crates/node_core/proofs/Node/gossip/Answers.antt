use Rattle.std.proofs.Common.{◌≡◌, ap, ◌∙◌, is_some, filter}
use Rattle.ff_ids.specs.Views.{all_numbers}
use Rattle.validate.specs.Certified.{certificate_of}
use Rattle.node_core.specs.Playing.{Kept}
use Rattle.std.proofs.Common.{subst, sym}
use Rattle.node_rules.specs.Ticking.{gossips}
use Rattle.node_core.specs.Playing.{Plays}
use Rattle.node_core.specs.contracts.Node.{the_view}
use Rattle.node_core.proofs.ExtendLemmas.{extends-gossips}
use Rattle.node_core.proofs.DueLemmas.{plays-refused}
use Rattle.node_core.proofs.Node.gossip.Goals as goal

pub returns-in-Ok-clause-plays : goal.returns-in-Ok-clause-plays
returns-in-Ok-clause-plays c = λ s es os call p.
    let listed : c.in-Ok.numbers.items ≡ filter (λ m. is_some (certificate_of c.args.self.now.roster m)) all_numbers = c.in-Ok.ensures ∙ ap (λ (v : Kept). filter (λ m. is_some (certificate_of v.roster m)) all_numbers) c.self.view_is in
    c.gossip_among.ensures.plays s es os call p (c.deref.ensures.value ∙ listed)

pub returns-in-Err-clause-plays : goal.returns-in-Err-clause-plays
returns-in-Err-clause-plays c = λ s es os call p.
    plays-refused s es os (the_view c.self.inside) _ call (gossips s c.args.round call) c.fail.ensures (subst (λ v. Plays s es os v call) (sym c.self.view_is) p) (extends-gossips s c.args.round call)
