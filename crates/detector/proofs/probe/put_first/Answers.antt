use Rattle.std.proofs.Common.{Some, ap, ◌∙◌, set}
use Rattle.detector.proofs.SlotLemmas.{shifted}
use Rattle.detector.proofs.probe.put_first.Goals as goal

pub returns : goal.returns
returns c =
    ap (λ slots. set slots 0 (Some c.args.ping)) c.copy_within.ensures.after ∙ shifted c.args.slots.now (Some c.args.ping) c.requires
