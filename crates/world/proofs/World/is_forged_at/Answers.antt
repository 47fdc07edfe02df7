use Rattle.std.proofs.Common.{◌≡◌, ℕ, ◌<◌, true, false, not, Some, length, refl, ap, sym, ◌∙◌, subst, rules}
use Rattle.std.specs.List.{slice_get}
use Rattle.std.proofs.lemmas.Option.{slice_get_read}
use Rattle.records.specs.declared.Record.{Record}
use Rattle.world_rules.specs.Forgeries.{has_signed}
use Rattle.world.specs.contracts.World.{the_view}
use Rattle.world_host.specs.Hosts.{HostState}
use Rattle.world.specs.Holding.{Holds, Kept, numbers}
use Rattle.world.specs.Courses.{IsPlace}
use Rattle.world.proofs.ChangeLemmas.{number-at}
use Rattle.world.proofs.ForgeryLemmas.{forged-else, forged-then, signed-is, verifies-as}
use Rattle.world.proofs.HostLemmas.{host-at}
use Rattle.world.proofs.World.is_forged_at.Goals as goal

pub returns-then-not-has_signed : goal.returns-then-not-has_signed
returns-then-not-has_signed c = λ s w told m h is.
    let v : Kept = the_view c.self.inside in
    let r : Record = c.args.rec.now in
    let x : HostState = c.index-host.result.now in
    let held : Holds s w told v = subst (Holds s w told) (sym c.self.view_is) h in
    let within : c.args.at < length v.hosts = subst (λ (z : Kept). c.args.at < length z.hosts) (sym c.self.view_is) c.requires in
    let found : slice_get v.hosts c.args.at ≡ Some x = slice_get_read v.hosts (length v.hosts) c.args.at x refl within c.index-host.ensures in
    let there : slice_get (numbers v) c.args.at ≡ Some m = subst (λ (z : Kept). IsPlace z c.args.at m) (sym c.self.view_is) is in
    let own : x.member ≡ m = number-at v.hosts m c.args.at x there found in
    let place = host-at s held.kinds w c.args.at v.hosts x found held.hosts in
    let signed : c.has_signed.result ≡ has_signed w (Some m) r.body = c.has_signed.ensures ∙ signed-is w (Some x.member) r.body x.signed place.signed ∙ ap (λ (k : ℕ). has_signed w (Some k) r.body) own in
    let fresh : c.has_signed.result ≡ false = search rules in
    let can : c.verifies.result ≡ s.verifies (s.key (Some m)) r =
    verifies-as s v.authority.group c.group.result.now held.kinds c.public.result.now (s.key (Some m)) r c.verifies.result c.verifies.ensures c.group.ensures (c.public.ensures ∙ place.public ∙ ap (λ (k : ℕ). s.key (Some k)) own) held.world.made in
    forged-then s w r (Some m) c.has_signed.result c.verifies.result signed can fresh

pub returns-else-not-has_signed : goal.returns-else-not-has_signed
returns-else-not-has_signed c = λ s w told m h is.
    let v : Kept = the_view c.self.inside in
    let r : Record = c.args.rec.now in
    let x : HostState = c.index-host.result.now in
    let held : Holds s w told v = subst (Holds s w told) (sym c.self.view_is) h in
    let within : c.args.at < length v.hosts = subst (λ (z : Kept). c.args.at < length z.hosts) (sym c.self.view_is) c.requires in
    let found : slice_get v.hosts c.args.at ≡ Some x = slice_get_read v.hosts (length v.hosts) c.args.at x refl within c.index-host.ensures in
    let there : slice_get (numbers v) c.args.at ≡ Some m = subst (λ (z : Kept). IsPlace z c.args.at m) (sym c.self.view_is) is in
    let own : x.member ≡ m = number-at v.hosts m c.args.at x there found in
    let place = host-at s held.kinds w c.args.at v.hosts x found held.hosts in
    let signed : c.has_signed.result ≡ has_signed w (Some m) r.body = c.has_signed.ensures ∙ signed-is w (Some x.member) r.body x.signed place.signed ∙ ap (λ (k : ℕ). has_signed w (Some k) r.body) own in
    let so : c.has_signed.result ≡ true = search rules in
    ap not so ∙ forged-else s w r (Some m) c.has_signed.result signed so
