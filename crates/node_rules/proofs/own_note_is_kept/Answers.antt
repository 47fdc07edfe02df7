use Rattle.node_rules.specs.Starting.{started}
use Rattle.node_rules.proofs.OwnNote.{own-started, own-calls}
use Rattle.rebuttal.proofs.Masks.{all_rings-good}
use Rattle.node_rules.proofs.own_note_is_kept.Goals as goal

pub returns : goal.returns
returns c = λ s nonces certificates stored inputs rings kit. own-calls s (started s nonces certificates stored).node inputs rings.some (own-started s nonces certificates stored (all_rings-good s.group.t) kit.all kit.own)
