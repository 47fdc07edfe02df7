-- Worked rows away from the small numbers: a period of 2 and members on two pages, with bytes written by hand; and 31 rings.
use Rattle.std.proofs.Common.{◌≡◌, ℕ, List, [], ◌∷◌, ◌++◌, None, refl, replicate}
use Rattle.std.specs.Prelude.{fold}
use Rattle.std.specs.List.{range_with_len}
use Rattle.ff_ids.specs.Masks.{bits_where}
use Rattle.ff_ids.specs.Views.{all_numbers, in_view_by}
use Rattle.records.specs.Spelling.{note_bytes, accusation_bytes, certificate_bytes}
use Rattle.records.specs.Grammar.{key_at, certificate_at, note_at, accusation_at, body_at, signature_at, record_at}
use Rattle.lms_tree.specs.Lms.{key_bytes}
use Rattle.datagram.specs.Spelling.{head_bytes, entry_bytes, summary_bytes, records_bytes}
use Rattle.datagram.specs.Grammar.{head_at, counted_at, entry_at, entries_at, summary_at, records_at, content_at, datagram_at, items_at, whole_of, read_of}
use Rattle.journal.specs.declared.event.What.TheVariants as told
use Rattle.rebuttal.specs.Rebuttals.{answering_mask}
use Rattle.node_rules.specs.Nodes.{Setting, Node, state_of, certificate_of, neighbours}
use Rattle.node_rules.specs.Refusals.{refusal}
use Rattle.node_rules.specs.Pages.{page, lacking, partner, page_number}
use Rattle.node_rules.specs.Calls.{Call, lives, sends, takes, signs, signs_and_sends, wants}
use Rattle.node_rules.specs.Deliveries.{handles, delivered}
use Rattle.node_rules.specs.Starting.{started}
use Rattle.node_rules.specs.Ticking.{due_tick, fresh, spreads, passed, probed_at, ticked}
use Rattle.node_rules.proofs.Rows.{acc, accused, at0, certificate, given, new_store, note, own, nonces, setting}

-- ---- rounds and pages

-- Node 1 sees nobody else. It has the certificates of 2 and, on the second page, of 40.
abbrev slow : Setting
slow = record (setting 1) { group = record (setting 1).group { period = 2 } }

abbrev paged : Node
paged = (started slow nonces (certificate 1 ∷ certificate 2 ∷ certificate 40 ∷ []) new_store).node

-- The node behind so many ticks.
abbrev behind : ℕ → Node
behind ticks = fold (λ n i. (ticked slow n).node) paged (range_with_len 0 ticks)

-- A summary of the page 0, with 1, of epoch 1 and mask 7, and 2, which has no note.
abbrev first_page : List ℕ
first_page =
    70 ∷ 70 ∷ 1 ∷ 3 ∷ 0 ∷ 1 ∷ 0 ∷ 0 ∷ 2
    ∷ 0 ∷ 1 ∷ 0 ∷ 0 ∷ 0 ∷ 0 ∷ 0 ∷ 0 ∷ 0 ∷ 1 ∷ 0 ∷ 0 ∷ 0 ∷ 7 ∷ 0 ∷ 0 ∷ 0 ∷ 0
    ∷ 0 ∷ 2 ∷ replicate 16 0

-- One of the page 1, with 40, which has no note.
abbrev second_page : ℕ → List ℕ
second_page flag = 70 ∷ 70 ∷ 1 ∷ 3 ∷ 0 ∷ 1 ∷ 1 ∷ flag ∷ 1 ∷ 0 ∷ 40 ∷ replicate 16 0

-- A round is every second tick; the partner changes with each, and the page with every third.
rounds : ((ticked slow (behind 0)).sent ≡ [])
    × ((ticked slow (behind 1)).sent ≡ (2, first_page) ∷ [])
    × ((ticked slow (behind 2)).sent ≡ [])
    × ((ticked slow (behind 3)).sent ≡ (40, first_page) ∷ [])
    × ((ticked slow (behind 5)).sent ≡ (2, first_page) ∷ [])
    × ((ticked slow (behind 7)).sent ≡ (40, second_page 0) ∷ [])
    × ((ticked slow (behind 11)).sent ≡ (40, second_page 0) ∷ [])
    × ((ticked slow (behind 13)).sent ≡ (2, first_page) ∷ [])
unfolding all_numbers in_view_by started signs takes lives state_of sends certificate_of due_tick fresh spreads passed probed_at ticked page partner page_number bits_where head_bytes entry_bytes summary_bytes
rounds = (refl, refl, refl, refl, refl, refl, refl, refl)

-- The certificate of 40 in a datagram of node 1.
abbrev handed : List ℕ
handed =
    70 ∷ 70 ∷ 1 ∷ 4 ∷ 0 ∷ 1 ∷ 0 ∷ 1
    ∷ 1 ∷ 0 ∷ 40 ∷ 78 ∷ 32 ∷ 0 ∷ 0 ∷ 0 ∷ 5 ∷ 0 ∷ 0 ∷ 0 ∷ 4 ∷ (replicate 48 0 ++ (0 ∷ 1 ∷ 9 ∷ []))

-- A summary of the page 1 without an entry, from 2: it gets the certificate, and the same page as an answer.
asked : (delivered slow paged (70 ∷ 70 ∷ 1 ∷ 3 ∷ 0 ∷ 2 ∷ 1 ∷ 0 ∷ 0 ∷ [])).sent ≡ (2, handed) ∷ (2, second_page 1) ∷ []
unfolding all_numbers in_view_by started signs takes lives state_of delivered sends certificate_of page lacking bits_where read_of whole_of datagram_at head_at items_at content_at entry_at entries_at summary_at head_bytes entry_bytes summary_bytes records_bytes certificate_bytes key_bytes
asked = refl

-- ---- 31 rings

abbrev wide : Setting
wide = record (setting 1) { group = record (setting 1).group { t = 15 }; places = λ m. replicate 31 (m ∷ []) }

-- The mask that enables all rings, and the one that enables all but ring 29.
abbrev all : ℕ
all = 2147483647

abbrev all_but_one : ℕ
all_but_one = 1610612735

abbrev noted : Call
noted = delivered wide (started wide nonces (certificate 1 ∷ certificate 2 ∷ []) (record { next = 0; epoch = 0; mask = record { 0 = all } })).node (given (note 2 1 all))

-- An accusation on ring 29 is answered by a note that disables that ring.
answered : (delivered wide noted.node (given (acc 2 1 1 29))).told
    ≡ at0 (told.Took (acc 2 1 1 29) None) ∷ at0 (told.Spent 1 (note 1 2 all_but_one)) ∷ at0 (told.Fell (accused 2 1 1 29)) ∷ at0 (told.Sent 0 2 (own 1 2 all_but_one)) ∷ []
unfolding all_numbers in_view_by started signs signs_and_sends wants takes lives state_of delivered handles refusal sends certificate_of neighbours answering_mask bits_where read_of whole_of datagram_at head_at items_at content_at records_at counted_at record_at body_at certificate_at note_at accusation_at key_at signature_at head_bytes records_bytes note_bytes accusation_bytes
answered = refl
