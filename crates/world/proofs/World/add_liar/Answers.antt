use Rattle.std.proofs.Common.{◌≡◌, ℕ, List, [], ◌∷◌, ◌++◌, Some, ap, ◌∙◌}
use Rattle.ff_ids.specs.declared.Group.{Group}
use Rattle.sign_keys.specs.declared.kinds.Kinds.{Kinds}
use Rattle.records.specs.declared.keys.Key.{Key}
use Rattle.secrets.specs.Secrets.{key_from, world_secret}
use Rattle.sign_keys.specs.Keys.{KeySecret, public_key, secret_of}
use Rattle.world_rules.specs.Keys.{owner_key}
use Rattle.world_host.specs.KeySigning.{KeyState}
use Rattle.world.specs.declared.liar.Liar.{Liar}
use Rattle.world.specs.contracts.World.{the_view}
use Rattle.world.specs.Holding.{Kept}
use Rattle.world.specs.Opening.{own_half, with_certificate}
use Rattle.world.proofs.World.add_liar.Goals as goal

abbrev all_indexes : KeySecret → KeyState
all_indexes key = record { key = key; next = 0 }

abbrev with_liars : Kept → List Liar → Kept
with_liars v liars = record v { liars = liars }

pub returns-clause-ok : goal.returns-clause-ok
returns-clause-ok c =
    let v : Kept = c.args.self.now in
    let kinds : Kinds = c.args.kinds in
    let m : ℕ = c.args.member in
    let secret : KeySecret = owner_key v.authority.group kinds (Some m) in
    let group : c.group.result.now ≡ v.authority.group = c.group.ensures ∙ ap (λ (z : Kept). z.authority.group) c.self.view_is in
    let key : secret_of c.in_ok-key.key ≡ secret =
    c.in_ok-key.ensures.is ∙ ap (λ (g : Group). key_from kinds (world_secret g.tag c.get.result)) group ∙ ap (λ (k : ℕ). key_from kinds (world_secret v.authority.group.tag k)) c.get.ensures.value in
    let public : c.public-public.result ≡ own_half v kinds m = c.public-public.ensures ∙ ap public_key key in
    let certified : the_view c.self-2.inside ≡ with_certificate v c.args.signing.now m (own_half v kinds m) =
    c.self-2.view_is ∙ c.in_ok-add_certificate.ensures.ok ∙ ap (λ (k : Key). with_certificate v c.args.signing.now m k) public in
    let liars : c.push.new.self.items ≡ v.liars ++ c.open.result ∷ [] = c.in_ok-push.ensures.items ∙ ap (λ (z : Kept). z.liars ++ c.open.result ∷ []) certified in
    record {
      liar = c.open.result;
      is_new = record { member = c.open.ensures.member; key = c.open.ensures.key ∙ ap all_indexes key; signed = c.open.ensures.signed };
      added = ap (λ (z : Kept). with_liars z c.push.new.self.items) certified ∙ ap (with_liars (with_certificate v c.args.signing.now m (own_half v kinds m))) liars;
    }
