-- Worked rows: a node that leaves, alone and beside another, and what a leaving note brings to the other.
use Rattle.std.proofs.Common.{◌≡◌, [], ◌∷◌, None, Some, true, refl}
use Rattle.ff_ids.specs.Masks.{bits_where}
use Rattle.ff_ids.specs.Views.{all_numbers, in_view_by, view}
use Rattle.ff_ids.specs.Steps.{Notes}
use Rattle.records.specs.Spelling.{note_bytes}
use Rattle.records.specs.Grammar.{key_at, certificate_at, note_at, accusation_at, body_at, signature_at, record_at}
use Rattle.datagram.specs.Spelling.{head_bytes, records_bytes}
use Rattle.datagram.specs.Grammar.{head_at, counted_at, records_at, content_at, datagram_at, items_at, whole_of, read_of}
use Rattle.journal.specs.declared.event.What.TheVariants as told
use Rattle.node_rules.specs.Nodes.{state_of, certificate_of, neighbours}
use Rattle.node_rules.specs.Refusals.{refusal}
use Rattle.node_rules.specs.Calls.{Call, lives, sends, takes, signs, signs_and_sends, wants}
use Rattle.node_rules.specs.Deliveries.{handles, delivered}
use Rattle.node_rules.specs.Leaving.{leaves, left}
use Rattle.node_rules.specs.OnDisks.{Leaves, called, left_on}
use Rattle.node_rules.specs.Starting.{started}
use Rattle.node_rules.specs.Gaining.{leaving_event}
use Rattle.node_rules.proofs.Rows.{at0, certificate, given, last_life, new_store, note, noted, own, nonces, setting}

-- Node 1 alone: it goes out of its own view, and nothing is sent.
abbrev alone : Call
alone = started (setting 1) nonces (certificate 1 ∷ []) new_store

leaves_alone : let c = left (setting 1) alone.node in (c.told ≡ at0 (told.Spent 1 (note 1 2 0)) ∷ at0 (told.Removed 1) ∷ []) × (c.sent ≡ [])
    × (view (state_of (setting 1) c.node) ≡ []) × (leaving_event (setting 1) alone.node ≡ Notes (record { member = 1; epoch = 2; mask = record { 0 = 0 } }) ∷ [])
unfolding all_numbers in_view_by started signs signs_and_sends wants takes lives state_of sends neighbours leaves left bits_where
leaves_alone = (refl, refl, refl, refl)

-- Beside member 2, to which the note goes. A second call spends one more index, and removes nobody.
abbrev beside : Call
beside = left (setting 1) noted.node

leaves_beside : (beside.told ≡ at0 (told.Spent 1 (note 1 2 0)) ∷ at0 (told.Removed 1) ∷ at0 (told.Sent 0 2 (own 1 2 0)) ∷ []) × (beside.sent ≡ (2, own 1 2 0) ∷ [])
    × ((left (setting 1) beside.node).told ≡ at0 (told.Spent 2 (note 1 3 0)) ∷ at0 (told.Sent 0 2 (own 2 3 0)) ∷ [])
unfolding all_numbers in_view_by started signs signs_and_sends wants takes lives state_of delivered handles refusal sends certificate_of neighbours leaves left bits_where read_of whole_of datagram_at head_at items_at content_at records_at counted_at record_at body_at certificate_at note_at accusation_at key_at signature_at head_bytes records_bytes note_bytes
leaves_beside = (refl, refl, refl)

-- The key is used up: no note is signed, and the node stays.
used_up : let c = left (setting 1) last_life.node in (c.told ≡ at0 (told.Exhausted 32) ∷ []) × (c.sent ≡ []) × (view (state_of (setting 1) c.node) ≡ 1 ∷ [])
    × (leaving_event (setting 1) last_life.node ≡ [])
unfolding all_numbers in_view_by started signs signs_and_sends wants takes lives state_of sends neighbours leaves left bits_where
used_up = (refl, refl, refl, refl)

-- The disk fails: the life is over, and no note is sent.
stopped : let c = called (setting 1) noted.node Leaves (Some 0) in (c.told ≡ at0 told.Stopped ∷ []) × (c.sent ≡ []) × (c.ended ≡ true)
unfolding all_numbers in_view_by started signs signs_and_sends wants takes lives state_of delivered called left_on handles refusal sends certificate_of neighbours leaves left bits_where read_of whole_of datagram_at head_at items_at content_at records_at counted_at record_at body_at certificate_at note_at accusation_at key_at signature_at head_bytes records_bytes note_bytes
stopped = (refl, refl, refl)

-- The next life begins with all rings, and the node is in its view again.
returns : (started (setting 1) nonces (certificate 1 ∷ []) (left (setting 1) alone.node).node.stored).told ≡ at0 (told.Spent 2 (note 1 3 7)) ∷ at0 (told.Entered 1) ∷ []
unfolding all_numbers in_view_by started signs signs_and_sends wants takes lives state_of sends neighbours leaves left bits_where
returns = refl

-- The other leaves, and returns by a greater note.
abbrev without_it : Call
without_it = delivered (setting 1) noted.node (given (note 2 2 0))

other_leaves : (without_it.told ≡ at0 (told.Took (note 2 2 0) None) ∷ at0 (told.Removed 2) ∷ [])
    × ((delivered (setting 1) without_it.node (given (note 2 3 3))).told ≡ at0 (told.Took (note 2 3 3) None) ∷ at0 (told.Entered 2) ∷ [])
unfolding all_numbers in_view_by started signs takes lives state_of delivered handles refusal sends certificate_of read_of whole_of datagram_at head_at items_at content_at records_at counted_at record_at body_at certificate_at note_at accusation_at key_at signature_at head_bytes records_bytes note_bytes
other_leaves = (refl, refl)
