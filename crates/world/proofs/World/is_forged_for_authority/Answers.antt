use Rattle.std.proofs.Common.{◌≡◌, true, false, not, None, ap, sym, ◌∙◌, subst, rules}
use Rattle.records.specs.declared.Record.{Record}
use Rattle.records.specs.declared.keys.Key.TheVariants as keys
use Rattle.world_rules.specs.Forgeries.{has_signed}
use Rattle.world.specs.contracts.World.{the_view}
use Rattle.world.specs.Holding.{Holds, Kept}
use Rattle.world.proofs.ForgeryLemmas.{authority-signed, forged-else, forged-then, verifies-as}
use Rattle.world.proofs.World.is_forged_for_authority.Goals as goal

pub returns-then-not-has_signed : goal.returns-then-not-has_signed
returns-then-not-has_signed c = λ s w told h.
    let v : Kept = the_view c.self.inside in
    let r : Record = c.args.rec.now in
    let held : Holds s w told v = subst (Holds s w told) (sym c.self.view_is) h in
    let signed : c.has_signed.result ≡ has_signed w None r.body = c.has_signed.ensures ∙ authority-signed s w told v r.body held in
    let fresh : c.has_signed.result ≡ false = search rules in
    let can : c.verifies.result ≡ s.verifies (s.key None) r =
    verifies-as s v.authority.group c.group.result.now held.kinds (keys.Lms c.key.result.now) (s.key None) r c.verifies.result c.verifies.ensures c.group.ensures (ap keys.Lms c.key.ensures ∙ held.authority.key) held.world.made in
    forged-then s w r None c.has_signed.result c.verifies.result signed can fresh

pub returns-else-not-has_signed : goal.returns-else-not-has_signed
returns-else-not-has_signed c = λ s w told h.
    let v : Kept = the_view c.self.inside in
    let r : Record = c.args.rec.now in
    let held : Holds s w told v = subst (Holds s w told) (sym c.self.view_is) h in
    let signed : c.has_signed.result ≡ has_signed w None r.body = c.has_signed.ensures ∙ authority-signed s w told v r.body held in
    let so : c.has_signed.result ≡ true = search rules in
    ap not so ∙ forged-else s w r None c.has_signed.result signed so
