use Rattle.std.proofs.Common.{◌≡◌, ℕ, ◌<◌, false, Option, Some, length, refl, ap, sym, ◌∙◌, subst}
use Rattle.std.specs.List.{slice_get}
use Rattle.std.specs.Option.{option_map_or}
use Rattle.std.proofs.lemmas.Option.{slice_get_read}
use Rattle.world.specs.contracts.World.{the_view}
use Rattle.world_host.specs.Hosts.{HostState}
use Rattle.world_rules.specs.Refusals.{has_left_in}
use Rattle.world_rules.specs.Worlds.{Life, spent_of}
use Rattle.world.specs.Holding.{Holds, Kept}
use Rattle.world.specs.Courses.{IsPlace}
use Rattle.world.proofs.ActLemmas.{place-holds}
use Rattle.world.proofs.ChangeLemmas.{number-at}
use Rattle.world.proofs.World.has_left.Goals as goal

pub returns-in-Some : goal.returns-in-Some
returns-in-Some c = λ s w told h.
    let v : Kept = the_view c.self.inside in
    let at : ℕ = c.in-Some.at in
    let m : ℕ = c.args.member in
    let x : HostState = c.index.result.now in
    let held : Holds s w told v = subst (Holds s w told) (sym c.self.view_is) h in
    let there : IsPlace v at m = subst (λ (z : Kept). IsPlace z at m) (sym c.self.view_is) (c.in-Some.ensures.place s h.nodes).1 in
    let within : at < length v.hosts = subst (λ (z : Kept). at < length z.hosts) (sym c.self.view_is) c.in-Some.ensures.within in
    let found : slice_get v.hosts at ≡ Some x = slice_get_read v.hosts (length v.hosts) at x refl within c.index.ensures in
    c.has_left.ensures s held.kinds (w.hosts m) (spent_of w (Some m)) (place-holds s w told v m at x held there found)
    ∙ ap (λ (k : ℕ). option_map_or (has_left_in s k) (w.hosts m).current false) (number-at v.hosts m at x there found)

-- Nobody runs who is no node.
pub returns-in-None : goal.returns-in-None
returns-in-None c = λ s w told h.
    sym (ap (λ (o : Option Life). option_map_or (has_left_in s c.args.member) o false) (h.idle c.args.member (c.in-None.ensures.place s h.nodes)))
