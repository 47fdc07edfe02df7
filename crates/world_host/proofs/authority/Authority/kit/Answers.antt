use Rattle.std.proofs.Common.{rules, ◌≡◌, ◌<◌, refl, ap, ◌∙◌, sym, subst}
use Rattle.std.specs.Prelude.{All}
use Rattle.ff_ids.specs.declared.TheConstants.{MEMBERS}
use Rattle.node_core.specs.Begins.{IsCheckedIn}
use Rattle.records.specs.Signing.{IsChecked}
use Rattle.records.specs.declared.keys.Key.TheVariants as keys
use Rattle.world_host.specs.Certifying.{Certifying}
use Rattle.world_host.proofs.KitLemmas.{kit-sound}
use Rattle.world_host.proofs.authority.Authority.kit.Goals as goal

pub returns-clause-sound : goal.returns-clause-sound
returns-clause-sound c = λ kinds own place.
    let a : Certifying = c.args.self.now in
    let low : c.args.me < MEMBERS = search rules in
    let copied : c.in_ok-certificates.certificates.items ≡ c.self.inside.certificates.items = c.in_ok-certificates.ensures ∙ c.deref.ensures.value in
    let same : c.in_ok-certificates.certificates.items ≡ a.certificates = copied ∙ ap (λ (z : Certifying). z.certificates) c.self.view_is in
    let group : c.self.inside.group ≡ a.group = ap (λ (z : Certifying). z.group) c.self.view_is in
    kit-sound a kinds c.args.me own (record {
      group = c.self.inside.group;
      me = c.args.me;
      authority = c.self.inside.key;
      certificates = c.in_ok-certificates.certificates;
      nonce_seed = c.nonce_seed.result;
      heal = c.self.inside.heal;
    }) low place group refl same
    (subst (All (IsCheckedIn c.self.inside.group (keys.Lms c.self.inside.key))) (sym copied) c.self.invariant.0)
    (subst (All IsChecked) (sym copied) c.self.invariant.1)
