-- Worked rows: a group whose nodes come together again. Node 1 has member 2 in its view, and the certificate of 40, which is out.
use Rattle.std.proofs.Common.{◌≡◌, ℕ, zero, suc, List, [], ◌∷◌, Some, None, true, false, refl}
use Rattle.ff_ids.specs.Masks.{bits_where}
use Rattle.ff_ids.specs.declared.Fault.TheVariants as faults
use Rattle.ff_ids.specs.declared.summary.RecordKey.TheVariants as keys
use Rattle.ff_ids.specs.declared.summary.SummaryEntry.{SummaryEntry}
use Rattle.ff_ids.specs.Views.{all_numbers, in_view_by}
use Rattle.records.specs.declared.Record.{Record}
use Rattle.records.specs.Spelling.{note_bytes, accusation_bytes, certificate_bytes}
use Rattle.records.specs.Grammar.{key_at, certificate_at, note_at, accusation_at, body_at, signature_at, record_at}
use Rattle.lms_tree.specs.Lms.{key_bytes}
use Rattle.datagram.specs.declared.Datagram.TheVariants as kinds
use Rattle.datagram.specs.Spelling.{head_bytes, entry_bytes, summary_bytes, records_bytes, datagram_bytes}
use Rattle.datagram.specs.Grammar.{head_at, entry_at, entries_at, summary_at, counted_at, records_at, content_at, datagram_at, items_at, whole_of, read_of}
use Rattle.journal.specs.declared.event.Event as journal
use Rattle.journal.specs.declared.event.What as what
use Rattle.journal.specs.declared.event.What.TheVariants as told
use Rattle.node_rules.specs.Nodes.{Setting, Node, state_of, certificate_of, neighbours, neighbours_and}
use Rattle.rebuttal.specs.Rebuttals.{answering_mask}
use Rattle.node_rules.specs.Refusals.{refusal}
use Rattle.node_rules.specs.Pages.{page, partner, page_number, lacking}
use Rattle.node_rules.specs.Calls.{Call, lives, sends, takes, signs, signs_and_sends, wants}
use Rattle.node_rules.specs.Deliveries.{handles, delivered}
use Rattle.node_rules.specs.Ticking.{accuses, fresh, spreads, passed, probed_at, due_tick, ticked}
use Rattle.node_rules.specs.Starting.{started}
use Rattle.node_rules.specs.Verdicts.{told_that}
use Rattle.node_rules.specs.OtherNonces.{drawn, probed_with, ticked_sending, ping_at, is_ping_sent}
use Rattle.node_rules.proofs.Rows.{setting, nonces, certificate, new_store, note, acc, accused, at0, given, own}

-- Each second round goes out of the view, and the epoch rises as far as it is asked, or by so much in a span.
abbrev healing : ℕ → Setting
healing most = record (setting 1) { heal = Some (record { every = 2; most = most }) }

-- The node has accepted the note of 2.
abbrev beside : Setting → Call
beside s = delivered s (started s nonces (certificate 1 ∷ certificate 2 ∷ certificate 40 ∷ []) new_store).node (given (note 2 1 7))

-- The node behind so many ticks, at which nobody answers.
abbrev quiet : ℕ → Node
quiet zero = (beside (healing 0)).node
quiet (suc n) = (ticked (healing 0) (quiet n)).node

abbrev sent_at : ℕ → List (ℕ × List ℕ)
sent_at n = (ticked (healing 0) (quiet n)).sent

-- ---- news, and rounds

-- The notes that it has accepted since it began, its own the first.
abbrev news : List ℕ
news =
    let mine : Record = record { body = note 1 1 7; signature = 0 ∷ [] } in
    let theirs : Record = record { body = note 2 1 7; signature = 5 ∷ [] } in
    datagram_bytes (kinds.Records 1 (mine ∷ theirs ∷ []))

abbrev ping : ℕ → List ℕ
ping k = datagram_bytes (kinds.Ping 1 (nonces k))

abbrev entry : ℕ → ℕ → ℕ → ℕ → SummaryEntry
entry member epoch mask rings = record { member = member; epoch = epoch; mask = record { 0 = mask }; rings = rings }

abbrev summary : ℕ → List ℕ
summary rings = datagram_bytes (kinds.Summary 1 false (record { page = 0; listed = entry 1 1 7 0 ∷ entry 2 1 7 rings ∷ [] }))

-- The page that 40 is on, with 40, which has no note.
abbrev second_page : List ℕ
second_page = datagram_bytes (kinds.Summary 1 false (record { page = 1; listed = entry 40 0 0 0 ∷ [] }))

-- At the first due tick the news go out, and then a ping and a summary. The second round goes to 40.
spreads_news : (sent_at 0 ≡ (2, news) ∷ (2, ping 0) ∷ (2, summary 0) ∷ []) × (sent_at 1 ≡ (2, ping 1) ∷ (40, second_page) ∷ [])
unfolding all_numbers in_view_by started signs signs_and_sends wants takes lives state_of delivered handles refusal sends certificate_of neighbours neighbours_and answering_mask bits_where page partner page_number lacking accuses fresh spreads passed probed_at due_tick ticked read_of whole_of datagram_at head_at items_at content_at records_at counted_at record_at body_at certificate_at note_at accusation_at key_at signature_at head_bytes records_bytes note_bytes accusation_bytes summary_at entries_at entry_at entry_bytes summary_bytes certificate_bytes key_bytes
spreads_news = (refl, refl)

-- With another nonce in the place of the one that is drawn, the ping alone is another.
sends_other : (drawn (healing 0) (quiet 0) ≡ (2, nonces 0) ∷ [])
    × ((ticked_sending (healing 0) (quiet 0) ((2, 7) ∷ [])).sent ≡ (2, news) ∷ (2, datagram_bytes (kinds.Ping 1 7)) ∷ (2, summary 0) ∷ [])
    × (told_that is_ping_sent (ticked_sending (healing 0) (quiet 0) ((2, 7) ∷ [])) ≡ ping_at (healing 0) 1 1 2 7 ∷ [])
unfolding all_numbers in_view_by started signs signs_and_sends wants takes lives state_of delivered handles refusal sends certificate_of neighbours neighbours_and answering_mask bits_where page partner page_number lacking accuses fresh spreads passed probed_at due_tick drawn probed_with ticked_sending read_of whole_of datagram_at head_at items_at content_at records_at counted_at record_at body_at certificate_at note_at accusation_at key_at signature_at head_bytes records_bytes note_bytes accusation_bytes summary_at entries_at entry_at entry_bytes summary_bytes certificate_bytes key_bytes
sends_other = (refl, refl, refl)

-- At the third 2 is accused. The accusation is news of the fourth, whose round goes to 40 again.
abbrev accusation : List ℕ
accusation = datagram_bytes (kinds.Records 1 (record { body = acc 1 2 1 0; signature = 1 ∷ [] } ∷ []))

spreads_accusation : (sent_at 2 ≡ (2, accusation) ∷ (2, ping 2) ∷ (2, summary 1) ∷ [])
    × (sent_at 3 ≡ (2, accusation) ∷ (2, ping 3) ∷ (40, second_page) ∷ [])
unfolding all_numbers in_view_by started signs signs_and_sends wants takes lives state_of delivered handles refusal sends certificate_of neighbours neighbours_and answering_mask bits_where page partner page_number lacking accuses fresh spreads passed probed_at due_tick ticked read_of whole_of datagram_at head_at items_at content_at records_at counted_at record_at body_at certificate_at note_at accusation_at key_at signature_at head_bytes records_bytes note_bytes accusation_bytes summary_at entries_at entry_at entry_bytes summary_bytes certificate_bytes key_bytes
spreads_accusation = (refl, refl)

-- ---- a removal

abbrev at7 : what.What → journal.Event
at7 what = record { moment = 7; what = what }

-- At the seventh 2 is removed, and the accusation is held as that of its removal alone. Nobody else is in the view now.
abbrev removing : List journal.Event
removing = at7 (told.Expired (accused 1 2 1 0)) ∷ at7 (told.Removed 2) ∷ at7 (told.Sent 0 40 second_page) ∷ []

removed : ((ticked (healing 0) (quiet 6)).told ≡ removing)
    × ((quiet 6).held (keys.Removal 2) ≡ None) × ((quiet 7).held (keys.Accusation 2 (record { 0 = 0 })) ≡ None)
    × ((quiet 7).held (keys.Removal 2) ≡ Some (record { body = acc 1 2 1 0; signature = 1 ∷ [] }))
unfolding all_numbers in_view_by started signs signs_and_sends wants takes lives state_of delivered handles refusal sends certificate_of neighbours neighbours_and answering_mask bits_where page partner page_number lacking accuses fresh spreads passed probed_at due_tick ticked read_of whole_of datagram_at head_at items_at content_at records_at counted_at record_at body_at certificate_at note_at accusation_at key_at signature_at head_bytes records_bytes note_bytes accusation_bytes summary_at entries_at entry_at entry_bytes summary_bytes certificate_bytes key_bytes
removed = (refl, refl, refl, refl)

-- This member's answering summary lacks nothing of what others of the page hold.
abbrev asks : ℕ → List ℕ
asks member = datagram_bytes (kinds.Summary member true (record { page = 0; listed = entry 1 1 7 0 ∷ entry 2 1 7 0 ∷ [] }))

-- By its summary 2 is told that it was removed, and nobody else is. A note of 2 ends that.
abbrev again : Call
again = delivered (healing 0) (quiet 7) (given (note 2 2 7))

told_of_removal : ((delivered (healing 0) (quiet 7) (asks 2)).sent ≡ (2, accusation) ∷ [])
    × ((delivered (healing 0) (quiet 7) (asks 40)).sent ≡ [])
    × (again.told ≡ at7 (told.Took (note 2 2 7) None) ∷ at7 (told.Entered 2) ∷ []) × (again.node.held (keys.Removal 2) ≡ None)
unfolding all_numbers in_view_by started signs signs_and_sends wants takes lives state_of delivered handles refusal sends certificate_of neighbours neighbours_and answering_mask bits_where page partner page_number lacking accuses fresh spreads passed probed_at due_tick ticked read_of whole_of datagram_at head_at items_at content_at records_at counted_at record_at body_at certificate_at note_at accusation_at key_at signature_at head_bytes records_bytes note_bytes accusation_bytes summary_at entries_at entry_at entry_bytes summary_bytes certificate_bytes key_bytes
told_of_removal = (refl, refl, refl, refl)

-- ---- a note to come back

-- What 40 says against the node is refused, since 2 is its monitor, and shows that 40 removed it: the node's next note has
-- the same mask. Without the option it is refused alone.
abbrev heard : Setting → Call
heard s = delivered s (beside s).node (given (acc 40 1 1 0))

abbrev refused : ℕ → what.What
refused epoch = told.Took (acc 40 1 epoch 0) (Some (faults.NotMonitor (Some 2)))

returns : ((heard (healing 0)).told ≡ at0 (refused 1) ∷ at0 (told.Spent 1 (note 1 2 7)) ∷ at0 (told.Sent 0 2 (own 1 2 7)) ∷ [])
    × ((heard (setting 1)).told ≡ at0 (refused 1) ∷ [])
unfolding all_numbers in_view_by started signs signs_and_sends wants takes lives state_of delivered handles refusal sends certificate_of neighbours answering_mask bits_where read_of whole_of datagram_at head_at items_at content_at records_at counted_at record_at body_at certificate_at note_at accusation_at key_at signature_at head_bytes records_bytes note_bytes accusation_bytes
returns = (refl, refl)

-- ---- a bound

-- No tick is due before the eighth, and the epoch rises by one in a span of four.
abbrev bounded : Setting
bounded = record (healing 1) { group = record (setting 1).group { period = 8 } }

-- The second that is told, and an accusation that is accepted, have no answer in that span.
second : ((delivered bounded (heard bounded).node (given (acc 40 1 2 0))).told ≡ at0 (refused 2) ∷ [])
    × ((delivered bounded (heard bounded).node (given (acc 2 1 2 0))).told ≡ at0 (told.Took (acc 2 1 2 0) None) ∷ [])
unfolding all_numbers in_view_by started signs signs_and_sends wants takes lives state_of delivered handles refusal sends certificate_of neighbours answering_mask bits_where read_of whole_of datagram_at head_at items_at content_at records_at counted_at record_at body_at certificate_at note_at accusation_at key_at signature_at head_bytes records_bytes note_bytes accusation_bytes
second = (refl, refl)

-- At the fourth tick the next span begins.
abbrev later : ℕ → Node
later zero = (heard bounded).node
later (suc n) = (ticked bounded (later n)).node

in_next_span : ((delivered bounded (later 3) (given (acc 40 1 2 0))).sent ≡ [])
    × ((delivered bounded (later 4) (given (acc 40 1 2 0))).sent ≡ (2, own 2 3 7) ∷ [])
unfolding all_numbers in_view_by started signs signs_and_sends wants takes lives state_of delivered handles refusal sends certificate_of neighbours answering_mask bits_where passed probed_at due_tick ticked read_of whole_of datagram_at head_at items_at content_at records_at counted_at record_at body_at certificate_at note_at accusation_at key_at signature_at head_bytes records_bytes note_bytes accusation_bytes
in_next_span = (refl, refl)
