-- Worked rows: three nodes that tick and gossip.
use Rattle.std.proofs.Common.{◌≡◌, ℕ, ◌==◌, List, [], ◌∷◌, ◌++◌, false, refl, map, if◌then◌else◌, zero, suc}
use Rattle.std.specs.List.{fold, list_any}
use Rattle.ff_ids.specs.Masks.{bits_where}
use Rattle.ff_ids.specs.Views.{all_numbers, view, in_view_by}
use Rattle.records.specs.Spelling.{note_bytes, accusation_bytes, certificate_bytes}
use Rattle.records.specs.Grammar.{key_at, certificate_at, note_at, accusation_at, body_at, signature_at, record_at}
use Rattle.lms_tree.specs.Lms.{key_bytes}
use Rattle.datagram.specs.declared.Datagram.TheVariants as kinds
use Rattle.datagram.specs.Spelling.{head_bytes, entry_bytes, summary_bytes, records_bytes, datagram_bytes}
use Rattle.datagram.specs.Grammar.{head_at, entry_at, entries_at, summary_at, counted_at, records_at, content_at, datagram_at, items_at, whole_of, read_of}
use Rattle.journal.specs.declared.event.What as what
use Rattle.journal.specs.declared.event.What.TheVariants as told
use Rattle.node_rules.specs.Nodes.{Node, state_of, certificate_of, neighbours, neighbours_and}
use Rattle.rebuttal.specs.Rebuttals.{answering_mask}
use Rattle.node_rules.specs.Refusals.{refusal}
use Rattle.node_rules.specs.Pages.{page, partner, page_number, lacking}
use Rattle.node_rules.specs.Calls.{Call, lives, sends, takes, signs, signs_and_sends, wants}
use Rattle.node_rules.specs.Deliveries.{handles, delivered}
use Rattle.node_rules.specs.Ticking.{accuses, fresh, spreads, passed, probed_at, due_tick, ticked}
use Rattle.node_rules.specs.Starting.{started}
use Rattle.node_rules.specs.Outgoing.{at_tick, to_accuse, goes_out, accusing_told}
use Rattle.ff_ids.specs.declared.summary.SummaryEntry.{SummaryEntry}
use Rattle.node_rules.proofs.Rows.{setting, nonces, certificate, new_store, acc, accused, noted}

-- Three nodes, and the datagrams that are on their way, oldest first.
record Group3 : Type 0 where
  one : Node
  two : Node
  three : Node
  way : List (ℕ × List ℕ)

abbrev starting : ℕ → Node
starting me = (started (setting me) nonces (certificate 1 ∷ certificate 2 ∷ certificate 3 ∷ []) new_store).node

abbrev all_started : Group3
all_started = record { one = starting 1; two = starting 2; three = starting 3; way = [] }

abbrev node_in : Group3 → ℕ → Node
node_in g m = if m == 1 then g.one else (if m == 2 then g.two else g.three)

-- The node has come so far by a call.
abbrev comes : Group3 → ℕ → Call → Group3
comes g m c =
    record {
      one = if m == 1 then c.node else g.one;
      two = if m == 2 then c.node else g.two;
      three = if m == 3 then c.node else g.three;
      way = g.way ++ c.sent;
    }

abbrev ticks : Group3 → ℕ → Group3
ticks g m = comes g m (ticked (setting m) (node_in g m))

abbrev hands_over : List ℕ → Group3 → ℕ × List ℕ → Group3
hands_over running g d =
    if list_any (λ m. m == d.0) running then comes g d.0 (delivered (setting d.0) (node_in g d.0) d.1) else g

-- The datagrams are handed over in order to those that run, and then those that were sent meanwhile, so many times.
abbrev flow : List ℕ → ℕ → Group3 → Group3
flow running zero g = g
flow running (suc n) g = flow running n (fold (hands_over running) (record g { way = [] }) g.way)

-- Each of these ticks in turn, and what is sent is handed over.
abbrev round : List ℕ → Group3 → Group3
round running g = fold (λ g m. flow running 4 (ticks g m)) g running

abbrev rounds : ℕ → List ℕ → Group3 → Group3
rounds zero running g = g
rounds (suc n) running g = rounds n running (round running g)

abbrev gathered : Group3
gathered = rounds 3 (1 ∷ 2 ∷ 3 ∷ []) all_started

abbrev view_of : Group3 → ℕ → List ℕ
view_of g m = view (state_of (setting m) (node_in g m))

-- After three rounds each has all in its view, and nothing is on its way.
views : (view_of gathered 1 ≡ 1 ∷ 2 ∷ 3 ∷ []) × (view_of gathered 2 ≡ 1 ∷ 2 ∷ 3 ∷ []) × (view_of gathered 3 ≡ 1 ∷ 2 ∷ 3 ∷ []) × (gathered.way ≡ [])
unfolding all_numbers in_view_by started signs signs_and_sends wants takes lives state_of delivered handles refusal sends certificate_of neighbours neighbours_and answering_mask bits_where page partner page_number lacking accuses fresh spreads passed probed_at due_tick ticked read_of whole_of datagram_at head_at items_at content_at records_at counted_at record_at body_at certificate_at note_at accusation_at key_at signature_at head_bytes records_bytes note_bytes accusation_bytes summary_at entries_at entry_at entry_bytes summary_bytes certificate_bytes key_bytes
views = (refl, refl, refl, refl)

-- ---- a member that answers no ping

abbrev alone : ℕ → Node
alone zero = noted.node
alone (suc n) = (ticked (setting 1) (alone n)).node

abbrev whats : ℕ → List what.What
whats n = map (λ e. e.what) (ticked (setting 1) (alone n)).told

abbrev ping : ℕ → List ℕ
ping k = datagram_bytes (kinds.Ping 1 (nonces k))

abbrev entry : ℕ → ℕ → ℕ → ℕ → SummaryEntry
entry member epoch mask rings = record { member = member; epoch = epoch; mask = record { 0 = mask }; rings = rings }

abbrev summary : ℕ → List ℕ
summary rings = datagram_bytes (kinds.Summary 1 false (record { page = 0; listed = entry 1 1 7 0 ∷ entry 2 1 7 rings ∷ [] }))

-- It gets a ping and a summary at each tick.
first_tick : whats 0 ≡ told.Sent 0 2 (ping 0) ∷ told.Sent 1 2 (summary 0) ∷ []
unfolding all_numbers in_view_by started signs signs_and_sends wants takes lives state_of delivered handles refusal sends certificate_of neighbours neighbours_and answering_mask bits_where page partner page_number lacking accuses fresh spreads passed probed_at due_tick ticked read_of whole_of datagram_at head_at items_at content_at records_at counted_at record_at body_at certificate_at note_at accusation_at key_at signature_at head_bytes records_bytes note_bytes accusation_bytes summary_at entries_at entry_at entry_bytes summary_bytes certificate_bytes key_bytes
first_tick = refl

-- At the third tick two pings are unanswered, and it is accused.
abbrev accusation : List ℕ
accusation = datagram_bytes (kinds.Records 1 (record { body = acc 1 2 1 0; signature = 1 ∷ [] } ∷ []))

third_tick : whats 2 ≡ told.Silent 2 ∷ told.Spent 1 (acc 1 2 1 0) ∷ told.Sent 0 2 accusation ∷ told.Sent 1 2 (ping 2) ∷ told.Sent 2 2 (summary 1) ∷ []
unfolding all_numbers in_view_by started signs signs_and_sends wants takes lives state_of delivered handles refusal sends certificate_of neighbours neighbours_and answering_mask bits_where page partner page_number lacking accuses fresh spreads passed probed_at due_tick ticked read_of whole_of datagram_at head_at items_at content_at records_at counted_at record_at body_at certificate_at note_at accusation_at key_at signature_at head_bytes records_bytes note_bytes accusation_bytes summary_at entries_at entry_at entry_bytes summary_bytes certificate_bytes key_bytes
third_tick = refl

-- The accusation is kept, so no other follows; four ticks later the member is removed.
later_ticks : (whats 3 ≡ told.Sent 0 2 (ping 3) ∷ told.Sent 1 2 (summary 1) ∷ [])
    × (whats 6 ≡ told.Expired (accused 1 2 1 0) ∷ told.Removed 2 ∷ told.Sent 0 2 (datagram_bytes (kinds.Summary 1 false (record { page = 0; listed = entry 1 1 7 0 ∷ entry 2 1 7 0 ∷ [] }))) ∷ [])
unfolding all_numbers in_view_by started signs signs_and_sends wants takes lives state_of delivered handles refusal sends certificate_of neighbours neighbours_and answering_mask bits_where page partner page_number lacking accuses fresh spreads passed probed_at due_tick ticked read_of whole_of datagram_at head_at items_at content_at records_at counted_at record_at body_at certificate_at note_at accusation_at key_at signature_at head_bytes records_bytes note_bytes accusation_bytes summary_at entries_at entry_at entry_bytes summary_bytes certificate_bytes key_bytes
later_ticks = (refl, refl)

-- The same of the third tick, from the state after the tick alone: what is reported of accusations, and what goes out.
abbrev third : Node
third = at_tick (setting 1) (alone 2)

from_the_state : let st = state_of (setting 1) third in
    (accusing_told (setting 1) st third.stored.next (to_accuse (setting 1) third st) ≡ told.Silent 2 ∷ told.Spent 1 (acc 1 2 1 0) ∷ [])
    × (goes_out (setting 1) third st (alone 3) ≡ (2, accusation) ∷ (2, ping 2) ∷ (2, summary 1) ∷ [])
unfolding all_numbers in_view_by started signs signs_and_sends wants takes lives state_of delivered handles refusal sends certificate_of neighbours neighbours_and answering_mask bits_where page partner page_number lacking accuses fresh spreads passed probed_at due_tick ticked read_of whole_of datagram_at head_at items_at content_at records_at counted_at record_at body_at certificate_at note_at accusation_at key_at signature_at head_bytes records_bytes note_bytes accusation_bytes summary_at entries_at entry_at entry_bytes summary_bytes certificate_bytes key_bytes
from_the_state = (refl, refl)
