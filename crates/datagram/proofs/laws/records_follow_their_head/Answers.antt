use Rattle.datagram.proofs.Readings.{headed}
use Rattle.datagram.proofs.laws.records_follow_their_head.Goals as goal

pub returns : goal.returns
returns c = headed
