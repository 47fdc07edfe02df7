use Rattle.lms_ots.proofs.Opening.{candidate_of-ok}
use Rattle.lms_tree.proofs.verifying.one_time_value.Goals as goal

pub returns : goal.returns
returns c =
    let opened = candidate_of-ok c.args.kind c.args.id.now c.args.q c.args.message.now c.args.one_time.now c.requires.long c.requires.kind in
    cc (opened, c.in-Ok.ensures.value)
