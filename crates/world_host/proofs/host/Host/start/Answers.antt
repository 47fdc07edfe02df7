use Rattle.std.proofs.Common.{◌≡◌, ℕ, ◌≤◌, false, List, Option, Ok, eq-eqb, inl, subst, sym, ap, ◌∙◌, arith}
use Rattle.epoch_store.specs.declared.Stored.{Stored}
use Rattle.epoch_store.specs.Calls.{StoreState}
use Rattle.world_rules.specs.Disks.{after_calls, opening_calls, seat_of, stopped}
use Rattle.world_rules.specs.Keys.{indexes_of}
use Rattle.world_rules.specs.Steps.{with_disk}
use Rattle.world_host.specs.Answers.{OpensStore, opened_place}
use Rattle.world_host.specs.Holding.{HoldsHost}
use Rattle.world_host.specs.Hosts.{HostState}
use Rattle.world_host.proofs.StartLemmas.{starts-behind, with-disk}
use Rattle.world_host.proofs.WorldLemmas.{indexes-are}
use Rattle.world_host.proofs.host.Host.start.Goals as goal

at-most : (next first leaves indexes : ℕ) → next ≡ first → leaves ≡ indexes → first ≤ indexes → leaves ≤ next → first ≡ indexes
at-most next first leaves indexes is count within above = omega (arith, is, count, within, above)

pub returns-in_default-clause-starts : goal.returns-in_default-clause-starts
returns-in_default-clause-starts c = λ s kinds place spent w certified h idle.
    let x : HostState = c.args.self.now in
    let now : HostState = c.open_store.new.self in
    let came = subst (λ (o : Option StoreState). OpensStore x.tag s.indexes place.disk now.disk (Ok o)) c.in_default.is (c.in_ok-store.ensures.opens s.indexes place.disk h.disk) in
    inl (record {
      stops = came.0;
      holds = subst (HoldsHost s kinds (with_disk place (stopped place.disk)) spent) (sym c.open_store.ensures.frame) (with-disk s kinds place spent x now.disk (stopped place.disk) h idle came.1);
    })

pub returns-then-next-index_count_of-clause-starts : goal.returns-then-next-index_count_of-clause-starts
returns-then-next-index_count_of-clause-starts c = λ s kinds place spent w certified h idle.
    let x : HostState = c.args.self.now in
    let now : HostState = c.open_store.new.self in
    let came = subst (λ (o : Option StoreState). OpensStore x.tag s.indexes place.disk now.disk (Ok o)) c.in-Some.is (c.in_ok-store.ensures.opens s.indexes place.disk h.disk) in
    let held : HoldsHost s kinds (opened_place place) spent now =
    subst (HoldsHost s kinds (opened_place place) spent) (sym c.open_store.ensures.frame) (with-disk s kinds place spent x now.disk (after_calls (opening_calls place.disk) place.disk) h idle came.2) in
    let first : c.state-next.result.next ≡ place.disk.state.next = ap (λ (k : Stored). k.next) c.state-next.ensures.value ∙ ap (λ (k : StoreState). k.state.next) came.1 in
    let count : c.index_count_of.result ≡ s.indexes =
    c.index_count_of.ensures.value ∙ ap (λ (y : HostState). indexes_of y.kinds) c.self.view_is ∙ ap indexes_of held.kinds_are ∙ sym (indexes-are s c.args.authority.now.group kinds w) in (
      came.0,
      record {
        first = first;
        none_left = eq-eqb _ _ (at-most _ _ _ _ first count held.disk.within c.if-next-index_count_of.true);
        holds = held;
      },
    )

pub returns-clause-starts : goal.returns-clause-starts
returns-clause-starts c = λ s kinds place spent w certified h idle.
    let x : HostState = c.args.self.now in
    let now : HostState = c.open_store.new.self in
    let came = subst (λ (o : Option StoreState). OpensStore x.tag s.indexes place.disk now.disk (Ok o)) c.in-Some.is (c.in_ok-store.ensures.opens s.indexes place.disk h.disk) in
    let held : HoldsHost s kinds (opened_place place) spent now =
    subst (HoldsHost s kinds (opened_place place) spent) (sym c.open_store.ensures.frame) (with-disk s kinds place spent x now.disk (after_calls (opening_calls place.disk) place.disk) h idle came.2) in
    let found : List ℕ → StoreState = λ t. record { state = place.disk.state; seat = seat_of t place.disk; failed = false } in
    let mark : x.tag ≡ now.tag = sym (ap (λ (y : HostState). y.tag) c.open_store.ensures.frame) in
    starts-behind s kinds place spent c.begin_life.new.self c.begin_life.result came.0
    (c.begin_life.ensures.begins s kinds (opened_place place) spent w certified held idle (came.1 ∙ ap found mark))
