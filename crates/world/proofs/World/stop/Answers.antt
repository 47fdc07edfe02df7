use Rattle.std.proofs.Common.{◌≡◌, ◌<◌, Some, length, refl, ap, sym, ◌∙◌, subst}
use Rattle.std.proofs.Math.ListN.{set}
use Rattle.std.specs.List.{slice_get}
use Rattle.std.proofs.lemmas.Option.{slice_get_read, slice_get-map}
use Rattle.std.specs.Option.{option_map}
use Rattle.world_rules.specs.Steps.{stops}
use Rattle.world.specs.contracts.World.{the_view}
use Rattle.world_host.specs.Hosts.{HostState}
use Rattle.world.specs.Holding.{Holds, Kept, numbers}
use Rattle.world.specs.Courses.{IsPlace}
use Rattle.world.proofs.ChangeLemmas.{stops-holds}
use Rattle.world.proofs.HostLemmas.{numbers-set}
use Rattle.world.proofs.World.stop.Goals as goal

pub returns-clause-numbers : goal.returns-clause-numbers
returns-clause-numbers c =
    let v : Kept = the_view c.self.inside in
    let x : HostState = c.index_mut.result.now in
    let within : c.args.at < length v.hosts = subst (λ (z : Kept). c.args.at < length z.hosts) (sym c.self.view_is) c.requires in
    let found : slice_get v.hosts c.args.at ≡ Some x = slice_get_read v.hosts (length v.hosts) c.args.at x refl within c.index_mut.ensures.value in
    let there : slice_get (numbers v) c.args.at ≡ Some x.member = slice_get-map (λ (y : HostState). y.member) v.hosts c.args.at ∙ ap (option_map (λ (y : HostState). y.member)) found in
    numbers-set v.hosts c.args.at c.stop.new.self (there ∙ ap (λ (y : HostState). Some y.member) (sym c.stop.ensures)) ∙ ap numbers c.self.view_is

pub returns-clause-stops : goal.returns-clause-stops
returns-clause-stops c = λ s w told m h is.
    let v : Kept = the_view c.self.inside in
    let x : HostState = c.index_mut.result.now in
    let within : c.args.at < length v.hosts = subst (λ (z : Kept). c.args.at < length z.hosts) (sym c.self.view_is) c.requires in
    let found : slice_get v.hosts c.args.at ≡ Some x = slice_get_read v.hosts (length v.hosts) c.args.at x refl within c.index_mut.ensures.value in
    let held : Holds s w told v = subst (Holds s w told) (sym c.self.view_is) h in
    let there : slice_get (numbers v) c.args.at ≡ Some m = subst (λ (z : Kept). IsPlace z c.args.at m) (sym c.self.view_is) is in
    subst (λ (y : HostState). Holds s (stops m w) told (record v { hosts = set v.hosts c.args.at y })) (sym c.stop.ensures) (stops-holds s w told v m c.args.at c.args.outcome x held there found)
