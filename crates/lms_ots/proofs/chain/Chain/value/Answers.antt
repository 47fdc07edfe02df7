use Rattle.std.proofs.Common.{drop, ◌∙◌, arith, length-drop}
use Rattle.lms_ots.proofs.Chains.{take_whole}
use Rattle.lms_ots.proofs.chain.Chain.value.Goals as goal

pub returns : goal.returns
returns c =
    c.copy_from_slice.ensures.after
    ∙ take_whole (drop 23 c.args.self.now.bytes) 32 (omega (arith, length-drop 23 c.args.self.now.bytes))
