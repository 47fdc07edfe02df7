use Rattle.std.proofs.Common.{◌≡◌, ◌<◌, Bool, true, false, ◌++◌, Some, length, refl, ap, sym, ◌∙◌, subst}
use Rattle.std.specs.List.{slice_get}
use Rattle.std.proofs.lemmas.Option.{slice_get_read}
use Rattle.world_rules.specs.Worlds.{is_running}
use Rattle.world.specs.contracts.World.{the_view}
use Rattle.world_host.specs.Hosts.{HostState}
use Rattle.world.specs.Holding.{Holds, Kept, numbers}
use Rattle.world.specs.Courses.{Goes, IsPlace, hands_if}
use Rattle.world.proofs.LookLemmas.{runs-at}
use Rattle.world.proofs.World.hand_if_running.Goals as goal

pub returns-then-is_running-clause-hands : goal.returns-then-is_running-clause-hands
returns-then-is_running-clause-hands c = λ s before base k m at place.
    let v : Kept = the_view c.self.inside in
    let x : HostState = c.index.result.now in
    let held : Holds s k.world (before ++ k.told) v = subst (Holds s k.world (before ++ k.told)) (sym c.self.view_is) at.holds in
    let within : c.args.at < length v.hosts = subst (λ (z : Kept). c.args.at < length z.hosts) (sym c.self.view_is) c.requires in
    let found : slice_get v.hosts c.args.at ≡ Some x = slice_get_read v.hosts (length v.hosts) c.args.at x refl within c.index.ensures in
    let there : slice_get (numbers v) c.args.at ≡ Some m = subst (λ (z : Kept). IsPlace z c.args.at m) (sym c.self.view_is) place in
    let runs : is_running k.world m ≡ true = sym (runs-at s k.world (before ++ k.told) v m c.args.at x held there found) ∙ sym c.is_running.ensures ∙ c.if-is_running.true in
    subst (λ (z : Bool). Goes s before base c.hand.new.self c.hand.new.out.items (hands_if s m z c.args.bytes.now k) c.hand.result) (sym runs) (c.hand.ensures.hands s before base k m at place)

pub returns-clause-hands : goal.returns-clause-hands
returns-clause-hands c = λ s before base k m at place.
    let v : Kept = the_view c.self.inside in
    let x : HostState = c.index.result.now in
    let held : Holds s k.world (before ++ k.told) v = subst (Holds s k.world (before ++ k.told)) (sym c.self.view_is) at.holds in
    let within : c.args.at < length v.hosts = subst (λ (z : Kept). c.args.at < length z.hosts) (sym c.self.view_is) c.requires in
    let found : slice_get v.hosts c.args.at ≡ Some x = slice_get_read v.hosts (length v.hosts) c.args.at x refl within c.index.ensures in
    let there : slice_get (numbers v) c.args.at ≡ Some m = subst (λ (z : Kept). IsPlace z c.args.at m) (sym c.self.view_is) place in
    let idle : is_running k.world m ≡ false = sym (runs-at s k.world (before ++ k.told) v m c.args.at x held there found) ∙ sym c.is_running.ensures ∙ c.if-is_running.false in
    (k, ap (λ (z : Bool). hands_if s m z c.args.bytes.now k) idle, at)
