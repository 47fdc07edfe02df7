use Rattle.record_set.proofs.KeyLemmas.{slot_of_body}
use Rattle.record_set.proofs.RecordSet.put.Goals as goal

pub put-requires : goal.put-requires
put-requires c = slot_of_body c.args.rec.t c.args.rec.rec.body c.requires.tolerance c.requires.ring
