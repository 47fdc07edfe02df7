-- Worked rows: what a node reports and sends. Signatures are bytes that say nothing, and verify; places are numbers.
use Rattle.std.proofs.Common.{◌≡◌, ℕ, List, [], ◌∷◌, None, Some, true, refl, replicate}
use Rattle.ff_ids.specs.Masks.{bits_where}
use Rattle.ff_ids.specs.declared.Group.{Group}
use Rattle.ff_ids.specs.declared.AccBody.{AccBody}
use Rattle.ff_ids.specs.declared.Fault.TheVariants as faults
use Rattle.ff_ids.specs.Views.{all_numbers, in_view_by}
use Rattle.lms_ots.specs.declared.OtsKind.TheVariants.{W8}
use Rattle.lms_tree.specs.declared.TreeKind.TheVariants.{H5}
use Rattle.records.specs.declared.keys.Key.{Key}
use Rattle.records.specs.declared.keys.Key.TheVariants as keys
use Rattle.records.specs.declared.Body.{Body}
use Rattle.records.specs.declared.Body.TheVariants.{Certificate, Note, Accusation}
use Rattle.records.specs.declared.Record.{Record}
use Rattle.records.specs.Spelling.{note_bytes, accusation_bytes}
use Rattle.records.specs.Grammar.{key_at, certificate_at, note_at, accusation_at, body_at, signature_at, record_at}
use Rattle.epoch_store.specs.declared.Stored.{Stored}
use Rattle.datagram.specs.declared.Datagram.TheVariants as kinds
use Rattle.datagram.specs.Spelling.{head_bytes, records_bytes, datagram_bytes}
use Rattle.datagram.specs.Grammar.{head_at, counted_at, records_at, content_at, datagram_at, items_at, whole_of, read_of}
use Rattle.journal.specs.declared.event.Event as journal
use Rattle.journal.specs.declared.event.What as whats
use Rattle.journal.specs.declared.event.What.TheVariants as told
use Rattle.detector.specs.Silence.{nonce}
use Rattle.node_rules.specs.Nodes.{Setting, state_of, certificate_of, neighbours}
use Rattle.rebuttal.specs.Rebuttals.{answering_mask}
use Rattle.node_rules.specs.Refusals.{refusal}
use Rattle.node_rules.specs.Calls.{Call, lives, sends, takes, signs, signs_and_sends, wants}
use Rattle.node_rules.specs.Deliveries.{handles, delivered}
use Rattle.node_rules.specs.OnDisks.{Delivers, called, delivered_on, handles_on}
use Rattle.node_rules.specs.Starting.{started}
use Rattle.node_rules.specs.Answering.{records_told, answers_sent}
use Rattle.node_rules.specs.Gaining.{gained}
use Rattle.ff_ids.specs.Steps.{Accuses, Notes}

abbrev group : Group
group = record { tag = replicate 16 0; t = 1; timeout = 4; period = 1; misses = 2 }

-- a key whose identifier has these bytes
abbrev pub key_with : ℕ → Key
key_with byte = keys.Lms (record { tree = H5; ots = W8; id = replicate 16 byte; root = replicate 32 0 })

abbrev key : Key
key = key_with 0

-- The places on the three rings.
abbrev places : ℕ → List (List ℕ)
places m = (m ∷ []) ∷ (m ∷ []) ∷ (m ∷ []) ∷ []

abbrev pub setting : ℕ → Setting
setting me =
    record {
      group = group;
      me = me;
      authority = key;
      indexes = 32;
      heal = None;
      places = places;
      verifies = λ k r. true;
      signature = λ q body. q ∷ [];
    }

abbrev pub nonces : ℕ → ℕ
nonces = nonce (replicate 32 0)

abbrev pub certificate : ℕ → Record
certificate m = record { body = Certificate (record { member = m; port = 20000; key = key }); signature = 9 ∷ [] }

abbrev pub new_store : Stored
new_store = record { next = 0; epoch = 0; mask = record { 0 = 7 } }

abbrev pub note : ℕ → ℕ → ℕ → Body
note member epoch mask = Note (record { member = member; epoch = epoch; mask = record { 0 = mask } })

abbrev pub acc : ℕ → ℕ → ℕ → ℕ → Body
acc accuser accused epoch ring = Accusation (record { accuser = accuser; accused = accused; epoch = epoch; ring = record { 0 = ring } })

abbrev pub accused : ℕ → ℕ → ℕ → ℕ → AccBody
accused accuser accused_one epoch ring = record { accuser = accuser; accused = accused_one; epoch = epoch; ring = record { 0 = ring } }

-- A life of node 1 beside member 2.
abbrev first : Call
first = started (setting 1) nonces (certificate 1 ∷ certificate 2 ∷ []) new_store

abbrev pub at0 : whats.What → journal.Event
at0 what = record { moment = 0; what = what }

starts : first.told ≡ at0 (told.Spent 0 (note 1 1 7)) ∷ at0 (told.Entered 1) ∷ []
unfolding all_numbers in_view_by started signs takes lives state_of
starts = refl

-- A ping is answered, and what is no datagram is named with its place.
abbrev ping : List ℕ
ping = 70 ∷ 70 ∷ 1 ∷ 1 ∷ 0 ∷ 2 ∷ 0 ∷ 0 ∷ 0 ∷ 0 ∷ 0 ∷ 0 ∷ 1 ∷ 2 ∷ []

abbrev pong : List ℕ
pong = 70 ∷ 70 ∷ 1 ∷ 2 ∷ 0 ∷ 1 ∷ 0 ∷ 0 ∷ 0 ∷ 0 ∷ 0 ∷ 0 ∷ 1 ∷ 2 ∷ []

pinged : let c = delivered (setting 1) first.node ping in (c.told ≡ at0 (told.Ping 2 258) ∷ at0 (told.Sent 0 2 pong) ∷ []) × (c.sent ≡ (2, pong) ∷ [])
unfolding all_numbers in_view_by started signs takes lives state_of delivered sends certificate_of read_of whole_of datagram_at head_at items_at content_at head_bytes
pinged = (refl, refl)

cut : let c = delivered (setting 1) first.node (70 ∷ 70 ∷ []) in (c.told ≡ at0 (told.BadForm 2) ∷ []) × (c.sent ≡ [])
unfolding all_numbers in_view_by started signs takes lives state_of delivered sends certificate_of read_of whole_of datagram_at head_at items_at content_at
cut = (refl, refl)

-- The bytes of a datagram of member 2 with a record of this body.
abbrev pub given : Body → List ℕ
given body = datagram_bytes (kinds.Records 2 (record { body = body; signature = 5 ∷ [] } ∷ []))

-- A note is accepted once.
abbrev pub noted : Call
noted = delivered (setting 1) first.node (given (note 2 1 7))

takes_a_note : (noted.told ≡ at0 (told.Took (note 2 1 7) None) ∷ at0 (told.Entered 2) ∷ [])
    × ((delivered (setting 1) noted.node (given (note 2 1 7))).told ≡ at0 (told.Took (note 2 1 7) (Some faults.Known)) ∷ [])
unfolding all_numbers in_view_by started signs takes lives state_of delivered handles refusal sends certificate_of read_of whole_of datagram_at head_at items_at content_at records_at counted_at record_at body_at certificate_at note_at accusation_at key_at signature_at head_bytes records_bytes note_bytes
takes_a_note = (refl, refl)

-- An accusation is answered: the ring is disabled, and the next answer enables it again.
abbrev once : Call
once = delivered (setting 1) noted.node (given (acc 2 1 1 0))

abbrev twice : Call
twice = delivered (setting 1) once.node (given (acc 2 1 2 1))

abbrev thrice : Call
thrice = delivered (setting 1) twice.node (given (acc 2 1 3 1))

-- The datagram of node 1 with its own note.
abbrev pub own : ℕ → ℕ → ℕ → List ℕ
own index epoch mask = datagram_bytes (kinds.Records 1 (record { body = note 1 epoch mask; signature = index ∷ [] } ∷ []))

answered : once.told ≡ at0 (told.Took (acc 2 1 1 0) None) ∷ at0 (told.Spent 1 (note 1 2 6)) ∷ at0 (told.Fell (accused 2 1 1 0)) ∷ at0 (told.Sent 0 2 (own 1 2 6)) ∷ []
unfolding all_numbers in_view_by started signs signs_and_sends wants takes lives state_of delivered handles refusal sends certificate_of neighbours answering_mask bits_where read_of whole_of datagram_at head_at items_at content_at records_at counted_at record_at body_at certificate_at note_at accusation_at key_at signature_at head_bytes records_bytes note_bytes accusation_bytes
answered = refl

answered_again : twice.told ≡ at0 (told.Took (acc 2 1 2 1) None) ∷ at0 (told.Spent 2 (note 1 3 5)) ∷ at0 (told.Fell (accused 2 1 2 1)) ∷ at0 (told.Sent 0 2 (own 2 3 5)) ∷ []
unfolding all_numbers in_view_by started signs signs_and_sends wants takes lives state_of delivered handles refusal sends certificate_of neighbours answering_mask bits_where read_of whole_of datagram_at head_at items_at content_at records_at counted_at record_at body_at certificate_at note_at accusation_at key_at signature_at head_bytes records_bytes note_bytes accusation_bytes
answered_again = refl

disabled : thrice.told ≡ at0 (told.Took (acc 2 1 3 1) (Some faults.RingDisabled)) ∷ []
unfolding all_numbers in_view_by started signs signs_and_sends wants takes lives state_of delivered handles refusal sends certificate_of neighbours answering_mask bits_where read_of whole_of datagram_at head_at items_at content_at records_at counted_at record_at body_at certificate_at note_at accusation_at key_at signature_at head_bytes records_bytes note_bytes accusation_bytes
disabled = refl

-- The disk fails in the answer: the life is over.
stopped : let c = called (setting 1) noted.node (Delivers (given (acc 2 1 1 0))) (Some 0) in
    (c.told ≡ at0 (told.Took (acc 2 1 1 0) None) ∷ at0 told.Stopped ∷ []) × (c.sent ≡ []) × (c.ended ≡ true)
unfolding all_numbers in_view_by started signs signs_and_sends wants takes lives state_of delivered called delivered_on handles_on handles refusal sends certificate_of neighbours answering_mask bits_where read_of whole_of datagram_at head_at items_at content_at records_at counted_at record_at body_at certificate_at note_at accusation_at key_at signature_at head_bytes records_bytes note_bytes accusation_bytes
stopped = (refl, refl, refl)

-- The key is used up: no answer is signed, and the life goes on.
abbrev pub last_life : Call
last_life = started (setting 1) nonces (certificate 1 ∷ certificate 2 ∷ []) (record { next = 31; epoch = 31; mask = record { 0 = 7 } })

used_up : ((delivered (setting 1) (delivered (setting 1) last_life.node (given (note 2 1 7))).node (given (acc 2 1 32 0))).told
    ≡ at0 (told.Took (acc 2 1 32 0) None) ∷ at0 (told.Exhausted 32) ∷ [])
unfolding all_numbers in_view_by started signs signs_and_sends wants takes lives state_of delivered handles refusal sends certificate_of neighbours answering_mask bits_where read_of whole_of datagram_at head_at items_at content_at records_at counted_at record_at body_at certificate_at note_at accusation_at key_at signature_at head_bytes records_bytes note_bytes accusation_bytes
used_up = refl

-- Two accusations in one datagram: the first is answered, and the second is at an epoch that the answer has ended.
abbrev two_records : List Record
two_records = record { body = acc 2 1 1 0; signature = 5 ∷ [] } ∷ record { body = acc 2 1 1 1; signature = 5 ∷ [] } ∷ []

one_answer : (records_told (setting 1) noted.node two_records ≡ told.Took (acc 2 1 1 0) None ∷ told.Spent 1 (note 1 2 6) ∷ told.Took (acc 2 1 1 1) (Some (faults.OtherEpoch 2)) ∷ [])
    × (answers_sent (setting 1) noted.node two_records ≡ (2, own 1 2 6) ∷ [])
    × (gained (setting 1) noted.node two_records ≡ Accuses (accused 2 1 1 0) ∷ Notes (record { member = 1; epoch = 2; mask = record { 0 = 6 } }) ∷ [])
unfolding all_numbers in_view_by started signs signs_and_sends wants takes lives state_of delivered handles refusal sends certificate_of neighbours answering_mask bits_where read_of whole_of datagram_at head_at items_at content_at records_at counted_at record_at body_at certificate_at note_at accusation_at key_at signature_at head_bytes records_bytes note_bytes accusation_bytes
one_answer = (refl, refl, refl)
