-- Reading an event from left to right.
use Rattle.std.specs.Prelude.{◌≡◌, ℕ, Bool, true, false, Option, Some, None, Result, Ok, Err, codes}
use Rattle.ff_ids.specs.declared.TheConstants.{LAST_MEMBER, ALL_BITS, LAST_PAGE}
use Rattle.ff_ids.specs.declared.NoteBody.{NoteBody}
use Rattle.ff_ids.specs.declared.AccBody.{AccBody}
use Rattle.ff_ids.specs.declared.Fault.{Fault}
use Rattle.ff_ids.specs.declared.Fault.TheVariants as faults
use Rattle.records.specs.Keys.{written}
use Rattle.records.specs.declared.CertBody.{CertBody}
use Rattle.records.specs.declared.Body.{Body}
use Rattle.records.specs.declared.Body.TheVariants as bodies
use Rattle.journal.specs.declared.kinds.Kind.{Kind}
use Rattle.journal.specs.declared.kinds.Kind.TheVariants as kind
use Rattle.journal.specs.declared.kinds.BodyKind.{BodyKind}
use Rattle.journal.specs.declared.kinds.BodyKind.TheVariants as body_kind
use Rattle.journal.specs.declared.kinds.FaultKind.{FaultKind}
use Rattle.journal.specs.declared.kinds.FaultKind.TheVariants as fault_kind
use Rattle.journal.specs.declared.event.Event.{Event}
use Rattle.journal.specs.declared.event.What.{What}
use Rattle.journal.specs.declared.event.What.TheVariants as happened
use Rattle.journal.specs.declared.fault.EventFault.{EventFault}
use Rattle.journal.specs.declared.fault.EventFault.TheVariants as answers
use Rattle.journal.specs.declared.words.Misread.{Misread}
use Rattle.journal.specs.declared.reading.Found.{Found}
use Rattle.journal.specs.declared.reading.Found.TheVariants as found
use Rattle.journal.specs.Kinds.{body_word, every_body_kind, every_fault_kind, every_kind, fault_word, kind_word}
use Rattle.journal.specs.Words.{Step, among, both, bytes_of, chosen, followed, is_literal, key_of, made, monitor_of, nothing_at, number, one_of, token_at}

-- ---- numbers

abbrev pub member_at : Step ℕ
member_at = token_at (number 0 LAST_MEMBER)

abbrev pub epoch_at : Step ℕ
epoch_at = token_at (number 1 18446744073709551615)

abbrev pub mask_at : Step ℕ
mask_at = token_at (number 0 ALL_BITS)

abbrev pub ring_at : Step ℕ
ring_at = token_at (number 0 255)

abbrev pub port_at : Step ℕ
port_at = token_at (number 1 65535)

abbrev pub page_at : Step ℕ
page_at = token_at (number 0 LAST_PAGE)

abbrev pub number_32_at : Step ℕ
number_32_at = token_at (number 0 4294967295)

abbrev pub number_64_at : Step ℕ
number_64_at = token_at (number 0 18446744073709551615)

-- ---- bodies

-- the member, its port, and its key
unfoldable pub certificate_at : Step CertBody
certificate_at = made (λ p. record { member = p.0; port = p.1.0; key = p.1.1 }) (both member_at (both port_at (token_at key_of)))

-- the member, its epoch, and the mask
unfoldable pub note_at : Step NoteBody
note_at = made (λ p. record { member = p.0; epoch = p.1.0; mask = record { 0 = p.1.1 } }) (both member_at (both epoch_at mask_at))

-- the accuser, the accused, the epoch, and the ring
unfoldable pub accusation_at : Step AccBody
accusation_at =
    made (λ p. record { accuser = p.0; accused = p.1.0; epoch = p.1.1.0; ring = record { 0 = p.1.1.1 } })
    (both member_at (both member_at (both epoch_at ring_at)))

abbrev pub body_behind : BodyKind → Step Body
body_behind body_kind.Certificate = made bodies.Certificate certificate_at
body_behind body_kind.Note = made bodies.Note note_at
body_behind body_kind.Accusation = made bodies.Accusation accusation_at

unfoldable pub body_at : Step Body
body_at = chosen (among body_word every_body_kind) body_behind

-- ---- verdicts

-- the member that a record is about
abbrev pub about : Body → ℕ
about (bodies.Certificate c) = c.member
about (bodies.Note n) = n.member
about (bodies.Accusation a) = a.accused

abbrev pub own_ahead : ℕ → ℕ × (ℕ × (ℕ × ℕ)) → Fault
own_ahead member p =
    faults.OwnAhead (record { member = member; epoch = p.0; mask = record { 0 = p.1.0 } })
    (record { member = member; epoch = p.1.1.0; mask = record { 0 = p.1.1.1 } })

abbrev pub other_certificate_at : Step Fault
other_certificate_at = made (λ p. faults.OtherCertificate p.0 (written p.1)) (both port_at (token_at key_of))

abbrev pub older_at : Step Fault
older_at = made (λ p. faults.Older p.0 (record { 0 = p.1 })) (both epoch_at mask_at)

-- The fault of a record about this member, whose own notes are the two of an own one that is ahead.
abbrev pub fault_behind : ℕ → FaultKind → Step Fault
fault_behind member fault_kind.AlreadyMember = made (λ _. faults.AlreadyMember) nothing_at
fault_behind member fault_kind.UnknownMember = made (λ _. faults.UnknownMember) nothing_at
fault_behind member fault_kind.BadMask = made (λ _. faults.BadMask) nothing_at
fault_behind member fault_kind.Known = made (λ _. faults.Known) nothing_at
fault_behind member fault_kind.OtherCertificate = other_certificate_at
fault_behind member fault_kind.Older = older_at
fault_behind member fault_kind.SelfAccusation = made (λ _. faults.SelfAccusation) nothing_at
fault_behind member fault_kind.BadRing = made (λ _. faults.BadRing) nothing_at
fault_behind member fault_kind.NoNote = made (λ _. faults.NoNote) nothing_at
fault_behind member fault_kind.OtherEpoch = made faults.OtherEpoch epoch_at
fault_behind member fault_kind.NotInView = made (λ _. faults.NotInView) nothing_at
fault_behind member fault_kind.RingDisabled = made (λ _. faults.RingDisabled) nothing_at
fault_behind member fault_kind.NotMonitor = made faults.NotMonitor (token_at monitor_of)
fault_behind member fault_kind.Standing = made (λ _. faults.Standing) nothing_at
fault_behind member fault_kind.BadSignature = made (λ _. faults.BadSignature) nothing_at
fault_behind member fault_kind.OwnAhead = made (own_ahead member) (both epoch_at (both mask_at (both epoch_at mask_at)))

unfoldable pub fault_at : ℕ → Step Fault
fault_at member = chosen (among fault_word every_fault_kind) (fault_behind member)

abbrev pub verdict_behind : ℕ → Bool → Step (Option Fault)
verdict_behind member true = made (λ _. None) nothing_at
verdict_behind member false = made Some (fault_at member)

-- accepted, or refused for the fault
unfoldable pub verdict_at : ℕ → Step (Option Fault)
verdict_at member = chosen (one_of (codes "accepted") (codes "refused")) (verdict_behind member)

-- ---- events

abbrev pub what_behind : Kind → Step What
what_behind kind.Entered = made happened.Entered member_at
what_behind kind.Expired = made happened.Expired accusation_at
what_behind kind.Removed = made happened.Removed member_at
what_behind kind.Fell = made happened.Fell accusation_at
what_behind kind.Spent = made (λ p. happened.Spent p.0 p.1) (both number_32_at body_at)
what_behind kind.Took = made (λ p. happened.Took p.0 p.1.1) (followed body_at (λ body. both (token_at (is_literal (codes ":"))) (verdict_at (about body))))
what_behind kind.BadForm = made happened.BadForm number_64_at
what_behind kind.Ping = made (λ p. happened.Ping p.0 p.1) (both member_at number_64_at)
what_behind kind.Pong = made (λ p. happened.Pong p.0 p.1.0 p.1.1) (both member_at (both number_64_at (token_at (one_of (codes "counted") (codes "stray")))))
what_behind kind.Summary = made (λ p. happened.Summary p.0 p.1.0 p.1.1) (both member_at (both page_at (token_at (one_of (codes "1") (codes "0")))))
what_behind kind.Silent = made happened.Silent member_at
what_behind kind.Exhausted = made happened.Exhausted number_32_at
what_behind kind.Sent = made (λ p. happened.Sent p.0 p.1.0 p.1.1) (both number_64_at (both member_at (token_at bytes_of)))
what_behind kind.Lost = made happened.Lost number_64_at
what_behind kind.Got = made happened.Got number_64_at
what_behind kind.Stopped = made (λ _. happened.Stopped) nothing_at

unfoldable pub what_at : Step What
what_at = chosen (among kind_word every_kind) what_behind

-- the moment, and what happened then
unfoldable pub event_at : Step Event
event_at = made (λ p. record { moment = p.1.0; what = p.1.1 }) (both (token_at (is_literal (codes "at"))) (both number_64_at what_at))

-- ---- what calls give

-- What was found before memory was taken: of a datagram that was sent, its digits.
abbrev pub what_found : Found → What
what_found (found.Plain what) = what
what_found (found.Sent number to bytes) = happened.Sent number to bytes

-- The moment and what was found then are those of the event that is read, or it is the place of the fault.
abbrev pub FindsEvent : Result (ℕ × Found) Misread → Result Event ℕ → Type 0
FindsEvent (Ok x) read = read ≡ Ok (record { moment = x.0; what = what_found x.1 })
FindsEvent (Err e) read = read ≡ Err e.place

-- Only a datagram that was sent takes memory.
abbrev pub TakesMemory : What → Type 0
TakesMemory (happened.Sent number to bytes) = Unit {0}
TakesMemory _ = ⊥

-- The answer is the event that is read, or the place of the fault, unless memory was wanted.
abbrev pub GivesEvent : Result Event ℕ → Result Event EventFault → Type 0
GivesEvent (Ok e) (Ok answer) = answer ≡ e
GivesEvent (Ok e) (Err fault) = (fault ≡ answers.OutOfMemory) × TakesMemory e.what
GivesEvent (Err place) answer = answer ≡ Err (answers.BadEvent place)
