use Rattle.std.proofs.Common.{◌≡◌, ℕ, ◌<◌, eqb, map, ap, ◌∙◌, subst, arith, rules, tests}
use Rattle.std.specs.List.{position}
use Rattle.std.proofs.lemmas.Iterator.{YieldsList-from_slice}
use Rattle.std.proofs.lemmas.Iterator.Search.{position_from_yields_List}
use Rattle.ff_ids.specs.declared.TheConstants.{MEMBERS}
use Rattle.world.specs.contracts.World.{the_view}
use Rattle.world.specs.declared.liar.Liar.{Liar}
use Rattle.world.specs.Holding.{Kept}
use Rattle.world.specs.Courses.{IsLiarPlace}
use Rattle.world.proofs.PlaceLemmas.{is-liar-place}
use Rattle.world.proofs.World.liar_of.Goals as goal

pub returns-clause-place : goal.returns-clause-place
returns-clause-place c = λ s is.
    let v : Kept = the_view c.self.inside in
    let number : ℕ = c.get-number.result in
    let low : number < MEMBERS = omega (arith, c.get-number.ensures.range) in
    let found : c.position.result ≡ position (λ (x : Liar). eqb x.member number) v.liars =
    position_from_yields_List (λ (x : Liar). eqb x.member number) _ _ c.position.result c.position.ensures.ran (YieldsList-from_slice v.liars cc) (λ x b q k. search (rules, tests)) in
    subst (λ (z : Kept). IsLiarPlace s z c.args.member c.position.result) c.self.view_is
    (subst (λ (k : ℕ). IsLiarPlace s v k c.position.result) c.get-number.ensures.value (is-liar-place s v number c.position.result low (ap (λ (v : Kept). map (λ (x : Liar). x.member) v.liars) c.self.view_is ∙ is) found))
