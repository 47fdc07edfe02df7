-- The words that say what stands behind them.
use Rattle.std.specs.Prelude.{ℕ, List, [], ◌∷◌, codes}
use Rattle.journal.specs.declared.kinds.Kind.{Kind}
use Rattle.journal.specs.declared.kinds.Kind.TheVariants as happenings
use Rattle.journal.specs.declared.kinds.BodyKind.{BodyKind}
use Rattle.journal.specs.declared.kinds.BodyKind.TheVariants as bodies
use Rattle.journal.specs.declared.kinds.FaultKind.{FaultKind}
use Rattle.journal.specs.declared.kinds.FaultKind.TheVariants as faults

abbrev pub kind_word : Kind → List ℕ
kind_word happenings.Entered = codes "entered"
kind_word happenings.Expired = codes "expired"
kind_word happenings.Removed = codes "removed"
kind_word happenings.Fell = codes "fell"
kind_word happenings.Spent = codes "spent"
kind_word happenings.Took = codes "took"
kind_word happenings.BadForm = codes "bad-form"
kind_word happenings.Ping = codes "ping"
kind_word happenings.Pong = codes "pong"
kind_word happenings.Summary = codes "summary"
kind_word happenings.Silent = codes "silent"
kind_word happenings.Exhausted = codes "exhausted"
kind_word happenings.Sent = codes "sent"
kind_word happenings.Lost = codes "lost"
kind_word happenings.Got = codes "got"
kind_word happenings.Stopped = codes "stopped"

abbrev pub every_kind : List Kind
every_kind = happenings.Entered ∷ happenings.Expired ∷ happenings.Removed ∷ happenings.Fell ∷ happenings.Spent ∷ happenings.Took ∷ happenings.BadForm ∷ happenings.Ping ∷ happenings.Pong ∷ happenings.Summary ∷ happenings.Silent ∷ happenings.Exhausted ∷ happenings.Sent ∷ happenings.Lost ∷ happenings.Got ∷ happenings.Stopped ∷ []

abbrev pub body_word : BodyKind → List ℕ
body_word bodies.Certificate = codes "cert"
body_word bodies.Note = codes "note"
body_word bodies.Accusation = codes "accuse"

abbrev pub every_body_kind : List BodyKind
every_body_kind = bodies.Certificate ∷ bodies.Note ∷ bodies.Accusation ∷ []

abbrev pub fault_word : FaultKind → List ℕ
fault_word faults.AlreadyMember = codes "already-member"
fault_word faults.UnknownMember = codes "unknown-member"
fault_word faults.BadMask = codes "bad-mask"
fault_word faults.Known = codes "known"
fault_word faults.OtherCertificate = codes "other-certificate"
fault_word faults.Older = codes "older"
fault_word faults.SelfAccusation = codes "self-accusation"
fault_word faults.BadRing = codes "bad-ring"
fault_word faults.NoNote = codes "no-note"
fault_word faults.OtherEpoch = codes "other-epoch"
fault_word faults.NotInView = codes "not-in-view"
fault_word faults.RingDisabled = codes "ring-disabled"
fault_word faults.NotMonitor = codes "not-monitor"
fault_word faults.Standing = codes "standing"
fault_word faults.BadSignature = codes "bad-signature"
fault_word faults.OwnAhead = codes "own-ahead"

abbrev pub every_fault_kind : List FaultKind
every_fault_kind = faults.AlreadyMember ∷ faults.UnknownMember ∷ faults.BadMask ∷ faults.Known ∷ faults.OtherCertificate ∷ faults.Older ∷ faults.SelfAccusation ∷ faults.BadRing ∷ faults.NoNote ∷ faults.OtherEpoch ∷ faults.NotInView ∷ faults.RingDisabled ∷ faults.NotMonitor ∷ faults.Standing ∷ faults.BadSignature ∷ faults.OwnAhead ∷ []
