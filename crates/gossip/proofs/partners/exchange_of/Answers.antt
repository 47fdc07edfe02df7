use Rattle.std.proofs.Common.{◌≡◌, ℕ, List, refl, Option, Some, None, IfSome, ap, sym, ◌∙◌}
use Rattle.std.specs.Option.{option_map, option_or}
use Rattle.ff_ids.specs.Views.{State}
use Rattle.membership.specs.Life.{Life}
use Rattle.membership.specs.Holds.{Holds}
use Rattle.gossip.specs.declared.partners.Exchange.{Exchange}
use Rattle.gossip.specs.Partners.{AreMembers, NotesOfMembers, partner, partner_with}
use Rattle.gossip.proofs.Successors.{IsKnown, partner_with-listed, partner_with-none}
use Rattle.gossip.proofs.partners.exchange_of.Goals as goal

known_by : (l : Life) (s : State) (certified : List ℕ) → AreMembers l certified → Holds l s → NotesOfMembers s → IsKnown s certified
known_by l s certified members holds notes = record { notes = notes; members = λ m h. sym (members.each m) ∙ sym (holds.at_number m).member ∙ h }

abbrev partner_of : Option Exchange → Option ℕ
partner_of o = option_map (λ e. e.partner) o

no_partner : (o : Option Exchange) → partner_of o ≡ None → o ≡ None
no_partner None e = refl
no_partner (Some x) e = absurd (cc)

if_partner : (o : Option Exchange) (P : ℕ → Type 0) → ((p : ℕ) → partner_of o ≡ Some p → P p) → IfSome o (λ e. P e.partner)
if_partner None P h = tt
if_partner (Some x) P h = h x.partner refl

pub returns-clause-none : goal.returns-clause-none
returns-clause-none c s holds notes members =
    let l = c.args.membership.now in
    let certified = c.args.certified.now in
    let out = c.outsider-out.ensures.outsider s holds in
    let plain = c.outsider-out.ensures.round s holds in
    let same : partner_of c.with_outsider.result ≡ partner_with c.args.heal l.group.t s certified c.args.me c.args.round =
    c.with_outsider.ensures.partner s holds ∙ (λ i. option_or (out i) (partner l.group.t s certified c.args.me (plain i))) in
    let law = partner_with-none c.args.heal l.group.t s certified c.args.me c.args.round (known_by l s certified members holds notes) in
    (λ e. law.0 (sym same ∙ ap partner_of e), λ e. no_partner c.with_outsider.result (same ∙ law.1 e))

pub returns-clause-other : goal.returns-clause-other
returns-clause-other c s holds notes members =
    let l = c.args.membership.now in
    let certified = c.args.certified.now in
    let out = c.outsider-out.ensures.outsider s holds in
    let plain = c.outsider-out.ensures.round s holds in
    let same : partner_of c.with_outsider.result ≡ partner_with c.args.heal l.group.t s certified c.args.me c.args.round =
    c.with_outsider.ensures.partner s holds ∙ (λ i. option_or (out i) (partner l.group.t s certified c.args.me (plain i))) in
    if_partner c.with_outsider.result _ (λ p e. partner_with-listed c.args.heal l.group.t s certified c.args.me c.args.round p (known_by l s certified members holds notes) (sym same ∙ e))
