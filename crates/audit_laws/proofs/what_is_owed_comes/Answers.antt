use Rattle.audit_laws.proofs.ComingLemmas.{owed-datagram, owed-event}
use Rattle.audit_laws.proofs.what_is_owed_comes.Goals as goal

pub returns : goal.returns
returns c = record { events = owed-event; datagrams = owed-datagram }
