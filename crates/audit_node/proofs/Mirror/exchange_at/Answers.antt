use Rattle.std.proofs.Common.{◌≡◌, ℕ, subst, sym, ap, ◌∙◌, is_some, filter}
use Rattle.std.specs.Prelude.{IfSome}
use Rattle.ff_ids.specs.declared.Group.{Group}
use Rattle.ff_ids.specs.Masks.{ring_count}
use Rattle.ff_ids.specs.Views.{all_numbers}
use Rattle.validate.specs.Certified.{certificate_of}
use Rattle.gossip.specs.Partners.{partner_with, page_with}
use Rattle.node_rules.specs.Nodes.{state_of}
use Rattle.audit_node.specs.Playing.{Kept, IsMirror}
use Rattle.audit_node.specs.contracts.Mirror.{the_view}
use Rattle.audit_node.proofs.GossipLemmas.{partner-is, number-is}
use Rattle.audit_node.proofs.Mirror.exchange_at.Goals as goal

pub returns-clause-partner : goal.returns-clause-partner
returns-clause-partner c = λ s n is0 listed.
    let v : Kept = the_view c.self.inside in
    let is : IsMirror s v n = subst (λ v. IsMirror s v n) (sym c.self.view_is) is0 in
    let listed0 : c.args.numbers.now ≡ filter (λ m. is_some (certificate_of v.roster m)) all_numbers =
    listed ∙ ap (λ (v : Kept). filter (λ m. is_some (certificate_of v.roster m)) all_numbers) (sym c.self.view_is) in
    c.exchange_of.ensures.partner (state_of s n) is.holds
    ∙ ap (λ (g : Group). partner_with v.heal g.t (state_of s n) c.args.numbers.now v.me c.args.round) c.self.invariant.membership_group
    ∙ partner-is s v n c.args.numbers.now c.args.round is listed0

pub returns-clause-page : goal.returns-clause-page
returns-clause-page c = λ s n is0 listed.
    let v : Kept = the_view c.self.inside in
    let is : IsMirror s v n = subst (λ v. IsMirror s v n) (sym c.self.view_is) is0 in
    let listed0 : c.args.numbers.now ≡ filter (λ m. is_some (certificate_of v.roster m)) all_numbers =
    listed ∙ ap (λ (v : Kept). filter (λ m. is_some (certificate_of v.roster m)) all_numbers) (sym c.self.view_is) in
    let number =
    ap (λ (g : Group). page_with v.heal (state_of s n) c.args.numbers.now v.me c.args.round (ring_count g.t) c.highest-last.result) c.self.invariant.membership_group
    ∙ ap (λ (h : ℕ). page_with v.heal (state_of s n) c.args.numbers.now v.me c.args.round (ring_count v.group.t) h) c.highest-last.ensures
    ∙ number-is s v n c.args.numbers.now c.args.round is listed0 in
    subst (λ k. IfSome c.exchange_of.result (λ e. e.page ≡ k)) number (c.exchange_of.ensures.page (state_of s n) is.holds)
