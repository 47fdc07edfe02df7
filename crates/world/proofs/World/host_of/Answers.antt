use Rattle.std.proofs.Common.{◌≡◌, ℕ, ◌<◌, eqb, ap, ◌∙◌, subst, arith, rules, tests}
use Rattle.std.specs.List.{position}
use Rattle.std.proofs.lemmas.Iterator.{YieldsList-from_slice}
use Rattle.std.proofs.lemmas.Iterator.Search.{position_from_yields_List}
use Rattle.ff_ids.specs.declared.TheConstants.{MEMBERS}
use Rattle.world.specs.contracts.World.{the_view}
use Rattle.world_host.specs.Hosts.{HostState}
use Rattle.world.specs.Holding.{Kept, numbers}
use Rattle.world.specs.Courses.{IsNodePlace}
use Rattle.world.proofs.PlaceLemmas.{is-node-place}
use Rattle.world.proofs.World.host_of.Goals as goal

pub returns-clause-place : goal.returns-clause-place
returns-clause-place c = λ s is.
    let v : Kept = the_view c.self.inside in
    let number : ℕ = c.get-number.result in
    let low : number < MEMBERS = omega (arith, c.get-number.ensures.range) in
    let found : c.position.result ≡ position (λ (x : HostState). eqb x.member number) v.hosts =
    position_from_yields_List (λ (x : HostState). eqb x.member number) _ _ c.position.result c.position.ensures.ran (YieldsList-from_slice v.hosts cc) (λ x b q k. search (rules, tests)) in
    subst (λ (z : Kept). IsNodePlace s z c.args.member c.position.result) c.self.view_is
    (subst (λ (k : ℕ). IsNodePlace s v k c.position.result) c.get-number.ensures.value (is-node-place s v number c.position.result low (ap numbers c.self.view_is ∙ is) found))
