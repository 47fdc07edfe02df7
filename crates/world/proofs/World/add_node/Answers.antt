use Rattle.std.proofs.Common.{◌≡◌, ℕ, List, [], ◌∷◌, ◌++◌, Some, ap, sym, ◌∙◌, subst}
use Rattle.ff_ids.specs.declared.Group.{Group}
use Rattle.sign_keys.specs.declared.kinds.Kinds.{Kinds}
use Rattle.records.specs.declared.keys.Key.{Key}
use Rattle.sign_keys.specs.Keys.{public_key}
use Rattle.world_rules.specs.Keys.{owner_key}
use Rattle.world_host.specs.Hosts.{HostState}
use Rattle.world_host.specs.Holding.{IsWorld}
use Rattle.world.specs.contracts.World.{the_view}
use Rattle.world.specs.Holding.{Kept}
use Rattle.world.specs.Opening.{own_half, with_certificate}
use Rattle.world.proofs.World.add_node.Goals as goal

abbrev with_hosts : Kept → List HostState → Kept
with_hosts v hosts = record v { hosts = hosts }

pub returns-clause-ok : goal.returns-clause-ok
returns-clause-ok c =
    let v : Kept = c.args.self.now in
    let kinds : Kinds = c.args.kinds in
    let m : ℕ = c.args.member in
    let group : c.group.result.now ≡ v.authority.group = c.group.ensures ∙ ap (λ (z : Kept). z.authority.group) c.self.view_is in
    let host : HostState = c.in_ok-host.host in
    let public : c.public-public.result.now ≡ own_half v kinds m =
    c.public-public.ensures ∙ c.in_ok-host.ensures.public ∙ ap (λ (g : Group). public_key (owner_key g kinds (Some m))) group in
    let certified : the_view c.self-2.inside ≡ with_certificate v c.args.signing.now m (own_half v kinds m) =
    c.self-2.view_is ∙ c.in_ok-add_certificate.ensures.ok ∙ ap (λ (k : Key). with_certificate v c.args.signing.now m k) public in
    let hosts : c.push.new.self.items ≡ v.hosts ++ host ∷ [] = c.in_ok-push.ensures.items ∙ ap (λ (z : Kept). z.hosts ++ host ∷ []) certified in
    record {
      host = host;
      member = c.in_ok-host.ensures.member;
      holds = λ s world. c.in_ok-host.ensures.holds s (subst (λ (g : Group). IsWorld s g kinds) (sym group) world);
      added = ap (λ (z : Kept). with_hosts z c.push.new.self.items) certified ∙ ap (with_hosts (with_certificate v c.args.signing.now m (own_half v kinds m))) hosts;
    }
