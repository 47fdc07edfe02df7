use Rattle.std.proofs.Common.{◌≡◌, ℕ, ◌<◌, false, List, Some, None, length, refl, ap, sym, ◌∙◌, subst, rules}
use Rattle.std.specs.List.{slice_get}
use Rattle.std.proofs.lemmas.Option.{slice_get_read}
use Rattle.world_rules.specs.Settings.{is_liar, is_node}
use Rattle.world.specs.contracts.World.{the_view}
use Rattle.world.specs.declared.liar.Liar.{Liar}
use Rattle.world_host.specs.Hosts.{HostState}
use Rattle.world.specs.Holding.{Holds, Kept, liar_numbers}
use Rattle.world.specs.Courses.{IsNodePlace, IsPlace}
use Rattle.std.specs.Prelude.{filter_map}
use Rattle.records.specs.declared.Body.{Body}
use Rattle.world_rules.specs.Refusals.{epoch_of_note, greatest}
use Rattle.world.proofs.SignerLemmas.{newest-liar, newest-none, newest-host}
use Rattle.world.proofs.World.newest_signed.Goals as goal

pub returns-in-Some : goal.returns-in-Some
returns-in-Some c = λ s w told h.
    let v : Kept = the_view c.self.inside in
    let at : ℕ = c.in-Some.at in
    let x : HostState = c.index.result.now in
    let placed = c.in-Some.ensures.place s h.nodes in
    let within : at < length v.hosts = subst (λ (z : Kept). at < length z.hosts) (sym c.self.view_is) c.in-Some.ensures.within in
    let found : slice_get v.hosts at ≡ Some x = slice_get_read v.hosts (length v.hosts) at x refl within c.index.ensures in
    c.newest_signed.ensures ∙ newest-host s w told v c.args.member at x (subst (Holds s w told) (sym c.self.view_is) h) (subst (λ (z : Kept). IsPlace z at c.args.member) (sym c.self.view_is) placed.1) found

pub returns-in_err-at : goal.returns-in_err-at
returns-in_err-at c = λ s w told h.
    let none : c.host_of.result ≡ None = search rules in
    let no_node : is_node s c.args.member ≡ false = subst (IsNodePlace s c.args.self.now c.args.member) none (c.host_of.ensures.place s h.nodes) in
    let no_liar : is_liar s c.args.member ≡ false = c.in_err-at.ensures.place s h.lying in
    let back : c.from_residual.result ≡ None = search rules in
    back ∙ sym (newest-none w c.args.member (h.silent c.args.member no_node no_liar))

pub returns : goal.returns
returns c = λ s w told h.
    let v : Kept = the_view c.self.inside in
    let at : ℕ = c.in_ok-at.at in
    let x : Liar = c.index-2.result.now in
    let placed = c.in_ok-at.ensures.place s h.lying in
    let within : at < length v.liars = subst (λ (z : Kept). at < length z.liars) (sym c.self.view_is) c.in_ok-at.ensures.within in
    let found : slice_get v.liars at ≡ Some x = slice_get_read v.liars (length v.liars) at x refl within c.index-2.ensures in
    c.newest_of.ensures ∙ ap (λ (z : List Body). greatest (filter_map (epoch_of_note c.args.member) z)) c.deref.ensures.value
    ∙ newest-liar s w told v c.args.member at x (subst (Holds s w told) (sym c.self.view_is) h) (subst (λ (z : Kept). slice_get (liar_numbers z) at ≡ Some c.args.member) (sym c.self.view_is) placed.1) found
