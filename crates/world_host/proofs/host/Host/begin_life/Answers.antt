use Rattle.std.proofs.Common.{rules, ◌≡◌, ℕ, ◌+◌, List, ◌++◌, Option, None, Some, Ok, subst, sym, ap, ◌∙◌}
use Rattle.ff_ids.specs.declared.Group.{Group}
use Rattle.journal.specs.declared.event.Event as journal
use Rattle.node_core.specs.Playing.{Kept}
use Rattle.world_host.specs.Held.{HoldsDisk, crashed}
use Rattle.sign_keys.specs.Keys.{public_key, secret_of}
use Rattle.world_rules.specs.Keys.{owner_key}
use Rattle.world_host.specs.Answers.{Begins, BeginsAt, BeginsNode, FailsToBegin, StopsAt, bodies_in}
use Rattle.world_host.specs.Certifying.{Certifying}
use Rattle.world_host.specs.Holding.{IsPlaceOf, IsWorld}
use Rattle.world_host.specs.Hosts.{HostState}
use Rattle.world_host.proofs.StartLemmas.{begun-at, stopped-at}
use Rattle.world_host.proofs.host.Host.begin_life.Goals as goal

pub begin_node-requires-clause-place : goal.begin_node-requires-clause-place
begin_node-requires-clause-place c =
    let a : Certifying = c.args.authority.now in
    let x : HostState = c.args.self.now in
    let place : IsPlaceOf a x.kinds x.member x.public = c.requires.place in
    let group = ap (λ (g : Group). public_key (owner_key g x.kinds (Some x.member))) (sym c.group.ensures) in
    let public = c.in_ok-key.ensures.own (place.public ∙ group) in
    let seen = c.self-2.view_is ∙ c.take_key.ensures.frame in (
      x.kinds,
      subst (λ (m : ℕ). IsPlaceOf a x.kinds m (public_key (secret_of c.in_ok-key.key))) (sym (ap (λ (y : HostState). y.member) seen)) (subst (IsPlaceOf a x.kinds x.member) (sym public) place),
    )

pub returns-in_ok-keep_bodies-in-Some-clause-begins : goal.returns-in_ok-keep_bodies-in-Some-clause-begins
returns-in_ok-keep_bodies-in-Some-clause-begins c = λ s kinds place spent w certified h idle store_is.
    let x : HostState = c.args.self.now in
    let g : Group = c.args.authority.now.group in
    let d = c.begin_node.new.disk in
    let events : List journal.Event = c.begin_node.new.events in
    let seen = c.self-2.view_is ∙ c.take_key.ensures.frame in
    let made = c.in_ok-key.ensures.key s kinds place spent (subst (λ (y : Group). IsWorld s y kinds) (sym c.group.ensures) w) h in
    let key : secret_of c.in_ok-key.key ≡ owner_key g kinds (Some x.member) =
    made ∙ ap (λ (y : Group). owner_key y kinds (Some x.member)) c.group.ensures in
    let held = subst (λ (y : HostState). HoldsDisk x.tag s.indexes y.disk place.disk) (sym seen) h.disk in
    let own = subst (λ (y : HostState). secret_of c.in_ok-key.key ≡ owner_key g kinds (Some y.member)) (sym seen) key in
    let began = c.in_ok-begun.ensures.begins s kinds x.tag place.disk w certified own store_is held c.new-events.ensures in
    let so = subst (λ (o : Option Kept). BeginsNode s x.tag c.self-2.inside.member place.disk d events (Ok o)) c.in-Some.is began in
    let begins : Begins s x.tag x.member place.disk d events c.in-Some.node = subst (λ (y : HostState). Begins s x.tag y.member place.disk d events c.in-Some.node) seen so in
    let life : c.in_ok-life.life ≡ x.lives + 1 = search rules in
    let put : HostState → ℕ → List journal.Event → HostState = λ y n es. record y { disk = d; lives = n; node = Some c.in-Some.node; signed = y.signed ++ bodies_in es } in
    let now : c.keep_bodies.new.self ≡ put (record x { key = None }) (x.lives + 1) events =
    c.in_ok-keep_bodies-in-Some.ensures.kept ∙ ap (λ (y : HostState). put y c.in_ok-life.life c.as_slice.result.now) seen ∙ ap (λ (n : ℕ). put (record x { key = None }) n c.as_slice.result.now) life
    ∙ ap (λ (es : List journal.Event). put (record x { key = None }) (x.lives + 1) es) c.as_slice.ensures in
    subst (λ (y : HostState). BeginsAt s kinds place spent y c.in_ok-life.life events) (sym now)
    (subst (λ (n : ℕ). BeginsAt s kinds place spent (put (record x { key = None }) (x.lives + 1) events) n events) (sym life) (begun-at s kinds place spent x d c.in-Some.node events h idle begins))

pub returns-in-None-clause-begins : goal.returns-in-None-clause-begins
returns-in-None-clause-begins c = λ s kinds place spent w certified h idle store_is.
    let x : HostState = c.args.self.now in
    let g : Group = c.args.authority.now.group in
    let d = c.begin_node.new.disk in
    let events : List journal.Event = c.begin_node.new.events in
    let seen = c.self-2.view_is ∙ c.take_key.ensures.frame in
    let made = c.in_ok-key.ensures.key s kinds place spent (subst (λ (y : Group). IsWorld s y kinds) (sym c.group.ensures) w) h in
    let key : secret_of c.in_ok-key.key ≡ owner_key g kinds (Some x.member) =
    made ∙ ap (λ (y : Group). owner_key y kinds (Some x.member)) c.group.ensures in
    let held = subst (λ (y : HostState). HoldsDisk x.tag s.indexes y.disk place.disk) (sym seen) h.disk in
    let own = subst (λ (y : HostState). secret_of c.in_ok-key.key ≡ owner_key g kinds (Some y.member)) (sym seen) key in
    let began = c.in_ok-begun.ensures.begins s kinds x.tag place.disk w certified own store_is held c.new-events.ensures in
    let failed = subst (λ (o : Option Kept). BeginsNode s x.tag c.self-2.inside.member place.disk d events (Ok o)) c.in-None.is began in
    let fails : FailsToBegin s x.tag x.member place.disk d = subst (λ (y : HostState). FailsToBegin s x.tag y.member place.disk d) seen failed in
    let now : c.stop.new.self ≡ record x { key = None; node = None; disk = crashed 0 d } = c.stop.ensures ∙ ap (λ (y : HostState). record y { node = None; disk = crashed 0 d }) seen in
    subst (StopsAt s kinds place spent) (sym now) (stopped-at s kinds place spent x d h idle fails)
