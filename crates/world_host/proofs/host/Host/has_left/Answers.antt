use Rattle.std.proofs.Common.{rules, ◌≡◌, Option, None, Some, subst}
use Rattle.node_core.specs.Playing.{Kept}
use Rattle.world_host.specs.Holding.{HoldsCurrent}
use Rattle.world_host.specs.Hosts.{HostState}
use Rattle.world_host.proofs.CallLemmas.{left-in, none-left-in, some-going}
use Rattle.world_host.proofs.host.Host.has_left.Goals as goal

pub returns-in-Some : goal.returns-in-Some
returns-in-Some c = λ s kinds place spent h.
    let x : HostState = c.args.self.now in
    let v : Kept = c.in-Some.node in
    let inside : c.self.inside.node ≡ Some v = search rules in
    let runs : x.node ≡ Some v = search rules in
    let held = subst (λ (o : Option Kept). HoldsCurrent s x.tag place.disk x.member o place.current) runs h.current in
    left-in s x.tag place.disk x.member v place.current c.has_left.result c.own_note_is_kept.ensures (some-going c.self.inside.node v c.self.invariant.2 inside) held c.has_left.ensures.newest

pub returns-in-None : goal.returns-in-None
returns-in-None c = λ s kinds place spent h.
    let x : HostState = c.args.self.now in
    let idle : x.node ≡ None = search rules in
    none-left-in s x.tag place.disk x.member place.current (subst (λ (o : Option Kept). HoldsCurrent s x.tag place.disk x.member o place.current) idle h.current)
