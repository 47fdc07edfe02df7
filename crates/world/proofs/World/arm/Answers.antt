use Rattle.std.proofs.Common.{◌≡◌, ◌<◌, Some, length, refl, ap, sym, ◌∙◌, subst}
use Rattle.std.proofs.Math.ListN.{set}
use Rattle.std.specs.List.{slice_get}
use Rattle.std.proofs.lemmas.Option.{slice_get_read, slice_get-map}
use Rattle.std.specs.Option.{option_map}
use Rattle.world_rules.specs.Disks.{ArmedStop}
use Rattle.world_rules.specs.Steps.{arms}
use Rattle.world.specs.contracts.World.{the_view}
use Rattle.world_host.specs.Hosts.{HostState}
use Rattle.world.specs.Holding.{Holds, Kept, numbers}
use Rattle.world.specs.Courses.{IsPlace}
use Rattle.world.proofs.ChangeLemmas.{arms-holds}
use Rattle.world.proofs.HostLemmas.{numbers-set}
use Rattle.world.proofs.World.arm.Goals as goal

pub returns-clause-numbers : goal.returns-clause-numbers
returns-clause-numbers c =
    let v : Kept = the_view c.self.inside in
    let x : HostState = c.index_mut.result.now in
    let within : c.args.at < length v.hosts = subst (λ (z : Kept). c.args.at < length z.hosts) (sym c.self.view_is) c.requires in
    let found : slice_get v.hosts c.args.at ≡ Some x = slice_get_read v.hosts (length v.hosts) c.args.at x refl within c.index_mut.ensures.value in
    let there : slice_get (numbers v) c.args.at ≡ Some x.member = slice_get-map (λ (y : HostState). y.member) v.hosts c.args.at ∙ ap (option_map (λ (y : HostState). y.member)) found in
    numbers-set v.hosts c.args.at c.arm.new.self (there ∙ ap (λ (y : HostState). Some y.member) (sym c.arm.ensures)) ∙ ap numbers c.self.view_is

pub returns-clause-arms : goal.returns-clause-arms
returns-clause-arms c = λ s w told m h is.
    let stop : ArmedStop = record { calls = c.args.calls; outcome = c.args.outcome } in
    let v : Kept = the_view c.self.inside in
    let x : HostState = c.index_mut.result.now in
    let within : c.args.at < length v.hosts = subst (λ (z : Kept). c.args.at < length z.hosts) (sym c.self.view_is) c.requires in
    let found : slice_get v.hosts c.args.at ≡ Some x = slice_get_read v.hosts (length v.hosts) c.args.at x refl within c.index_mut.ensures.value in
    let held : Holds s w told v = subst (Holds s w told) (sym c.self.view_is) h in
    let there : slice_get (numbers v) c.args.at ≡ Some m = subst (λ (z : Kept). IsPlace z c.args.at m) (sym c.self.view_is) is in
    subst (λ (y : HostState). Holds s (arms m stop w) told (record v { hosts = set v.hosts c.args.at y })) (sym c.arm.ensures) (arms-holds s w told v m c.args.at stop x held there found)
