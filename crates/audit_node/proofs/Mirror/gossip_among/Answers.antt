use Rattle.std.proofs.Common.{◌≡◌, ℕ, false, Some, None, subst, sym, ap, ◌∙◌}
use Rattle.std.specs.Prelude.{IfSome, Option}
use Rattle.std.specs.Option.{option_map}
use Rattle.gossip.specs.declared.partners.Exchange.{Exchange}
use Rattle.datagram.specs.declared.Datagram.TheVariants as kinds
use Rattle.node_rules.specs.Pages.{page, page_number, partner}
use Rattle.node_rules.specs.Calls.{sends}
use Rattle.node_rules.specs.Ticking.{summary_to, gossips}
use Rattle.audit_node.specs.Playing.{Plays}
use Rattle.audit_node.proofs.PlayLemmas.{grows-refl}
use Rattle.audit_node.proofs.PlayLemmas.{from-fine}
use Rattle.audit_node.proofs.Mirror.gossip_among.Goals as goal

abbrev with_whom : Option Exchange → Option ℕ
with_whom o = option_map (λ e. e.partner) o

pub returns-in-Some-clause-plays : goal.returns-in-Some-clause-plays
returns-in-Some-clause-plays c = λ s es call p listed.
    let round : ℕ = c.args.round in
    let with : Exchange = c.in-Some.with in
    from-fine s es c.args.self.now c.send_page.new.self call (gossips s round call) p c.send_page.ensures.grows (λ h.
    let to : partner s call.node round ≡ Some with.partner =
    sym (c.exchange_at-exchange.ensures.partner s call.node h.is listed) ∙ ap with_whom c.in-Some.is in
    let number : with.page ≡ page_number s call.node round =
    subst (λ o. IfSome o (λ (e : Exchange). e.page ≡ page_number s call.node round)) c.in-Some.is (c.exchange_at-exchange.ensures.page s call.node h.is listed) in
    let at = subst (λ (k : ℕ). Plays s es c.send_page.new.self (sends s (kinds.Summary s.me false (page call.node k)) call with.partner)) number
    (c.send_page.ensures.plays s es call p) in
    subst (λ o. Plays s es c.send_page.new.self (summary_to s round o call)) (sym to) at)

pub returns-in_default-clause-plays : goal.returns-in_default-clause-plays
returns-in_default-clause-plays c = λ s es call p listed.
    let round : ℕ = c.args.round in
    from-fine s es c.args.self.now c.args.self.now call (gossips s round call) p (grows-refl c.args.self.now) (λ h.
    let to : partner s call.node round ≡ None =
    sym (c.exchange_at-exchange.ensures.partner s call.node h.is listed) ∙ ap with_whom c.in_default.is in
    subst (λ o. Plays s es c.args.self.now (summary_to s round o call)) (sym to) p)
