use Rattle.datagram.proofs.Readings.{datagrams_one}
use Rattle.datagram.proofs.laws.one_datagram.Goals as goal

pub returns : goal.returns
returns c = datagrams_one
