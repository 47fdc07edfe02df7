use Rattle.detector.specs.Silence.{ticked_with, with_nonce}
use Rattle.std.proofs.Common.{subst, sym}
use Rattle.audit_node.specs.contracts.Mirror.{the_view}
use Rattle.audit_node.specs.Playing.{Kept, IsMirror}
use Rattle.audit_node.proofs.HearLemmas.{renonced-is}
use Rattle.audit_node.proofs.Mirror.renonce.Goals as goal

pub returns : goal.returns
returns c = λ s n h watched sent pinged is.
    let v : Kept = the_view c.self.inside in
    let is0 = subst (λ (w : Kept). IsMirror s w (record n { probes = ticked_with h watched sent })) (sym c.self.view_is) is in
    renonced-is s v n (ticked_with h watched sent) (ticked_with h watched (with_nonce c.args.to c.args.nonce sent)) c.renonce.new.self is0 (c.renonce.ensures.stands h watched sent pinged is0.probes)
