use Rattle.std.proofs.Common.{◌∙◌, List, map, sym, ap, subst, arith}
use Rattle.std.proofs.lemmas.List.{with_items_is}
use Rattle.detector.specs.declared.probe.Probe.{Probe}
use Rattle.detector.specs.Silence.{ticked_with, with_nonce}
use Rattle.detector.specs.Slots.{nonced_where}
use Rattle.detector.specs.Kept.{Kept, StandsFor}
use Rattle.detector.specs.contracts.Detector.{the_view}
use Rattle.detector.proofs.NonceLemmas.{stands-nonced}
use Rattle.detector.proofs.Detector.renonce.Goals as goal

pub returns-clause-stands : goal.returns-clause-stands
returns-clause-stands c = λ h watched sent pinged stands.
    let k = the_view c.self.inside in
    let held = subst (λ (k : Kept). StandsFor k (ticked_with h watched sent)) (sym c.self.view_is) stands in
    let written = with_items_is c.self.inside.probes c.renonce_all.new.probes (omega (arith, c.renonce_all.auto.probes, c.deref_mut.ensures.len)) in
    let learned = written ∙ c.renonce_all.ensures ∙ ap (map (nonced_where c.args.to c.args.nonce)) c.deref_mut.ensures.value in
    subst (λ (ps : List Probe). StandsFor (record { group = k.group; words = k.words; probes = ps }) (ticked_with h watched (with_nonce c.args.to c.args.nonce sent))) (sym learned) (stands-nonced k h watched sent c.args.to c.args.nonce pinged held)
