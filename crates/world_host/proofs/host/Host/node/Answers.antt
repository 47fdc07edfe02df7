use Rattle.std.proofs.Common.{rules, ◌≡◌}
use Rattle.std.specs.Option.{option_map}
use Rattle.world_host.specs.Hosts.{HaveJoined}
use Rattle.world_host.proofs.CallLemmas.{joined-in, mapped-so}
use Rattle.world_host.proofs.host.Host.node.Goals as goal

pub returns-clause-joined : goal.returns-clause-joined
returns-clause-joined c =
    let is : option_map (λ n. n.now) c.as_ref.result ≡ c.self.inside.node = search rules in
    mapped-so (λ n. n.now) HaveJoined c.as_ref.result c.self.inside.node is (joined-in c.self.inside.node c.what_is_held_is_the_life.ensures c.self.invariant.2)
