-- Worked rows: stops at each call of a disk, and a key that is used up.
use Rattle.std.proofs.Common.{◌≡◌, ℕ, List, [], ◌∷◌, None, Some, Ok, map, refl}
use Rattle.std.specs.Prelude.{◌&&◌, ◌||◌, ◌==◌, nat_le, if◌then◌else◌, codes}
use Rattle.ff_ids.specs.Masks.{bits_where}
use Rattle.records.specs.declared.Body.TheVariants.{Accusation}
use Rattle.journal.specs.declared.event.What.TheVariants as told
use Rattle.ff_ids.specs.Views.{all_numbers, in_view_by}
use Rattle.lms_tree.specs.Lms.{key_bytes}
use Rattle.records.specs.Spelling.{note_bytes, accusation_bytes, certificate_bytes}
use Rattle.records.specs.Grammar.{key_at, certificate_at, note_at, accusation_at, body_at, signature_at, record_at}
use Rattle.datagram.specs.Spelling.{head_bytes, entry_bytes, summary_bytes, records_bytes}
use Rattle.datagram.specs.Grammar.{head_at, entry_at, entries_at, summary_at, counted_at, records_at, content_at, datagram_at, items_at, whole_of, read_of}
use Rattle.node_rules.specs.Nodes.{state_of, certificate_of, neighbours, neighbours_and}
use Rattle.rebuttal.specs.Rebuttals.{answering_mask}
use Rattle.node_rules.specs.Refusals.{refusal}
use Rattle.node_rules.specs.Calls.{lives, sends, takes, signs, signs_and_sends, wants}
use Rattle.node_rules.specs.Deliveries.{handles}
use Rattle.node_rules.specs.Leaving.{leaves}
use Rattle.node_rules.specs.Starting.{started}
use Rattle.node_rules.specs.Pages.{page, partner, page_number, lacking}
use Rattle.node_rules.specs.Ticking.{accuses, fresh, passed, probed_at, spreads}
use Rattle.world_rules.specs.Settings.{Setting, nodes, members, by_authority}
use Rattle.node_rules.specs.OnDisks.{accuses_on, delivered_on, due_on, handles_on, left_on, ticked_on}
use Rattle.world_rules.specs.Worlds.{World, begun_world}
use Rattle.world_rules.specs.Forgeries.{forgery}
use Rattle.world_rules.specs.Refusals.{why_not}
use Rattle.world_rules.specs.Steps.{calls, hands, starts, starts_in_vain, step}
use Rattle.schedule_world.specs.declared.line.WorldLine.TheVariants as lines
use Rattle.schedule_world.specs.declared.line.WorldLine.{WorldLine}
use Rattle.world_rules.specs.declared.verdict.RefusalReason.TheVariants as whys
use Rattle.world_rules.specs.declared.verdict.Verdict.TheVariants as verdicts
use Rattle.world_rules.proofs.Rows.{Says, acc, answers, base, before_b, brings, note, one, plays, refused, says, setting, tells}

-- What comes for each of these calls and outcomes.
abbrev each : {X : Type 0} → (ℕ → ℕ → X) → List ℕ → List ℕ → List (List X)
each f calls outcomes = map (λ n. map (f n) outcomes) calls

-- A life of this number begins with this signature.
abbrev begins : ℕ → ℕ → ℕ → ℕ → Says
begins life index epoch mask = Ok (Some (verdicts.Began life), tells 1 0 (told.Spent index (note 1 epoch mask) ∷ told.Entered 1 ∷ []))

-- ---- in the answer to an accusation

abbrev armed : ℕ → ℕ → World
armed n c = plays one before_b (lines.Arm 1 n c ∷ [])

abbrev answer_stops : ℕ → ℕ → Says × Says
answer_stops n c = (says one (armed n c) (lines.Give (codes "b") 1), says one (plays one (armed n c) (lines.Give (codes "b") 1 ∷ [])) (lines.Start 1))

-- The gate is byte 74 of the store.
abbrev answer_left : ℕ → ℕ → Says × Says
answer_left n c = (
  brings (told.Took (Accusation (acc 2 1 1 0)) None ∷ told.Stopped ∷ []),
  (if nat_le 2 n && ((c == 1) || (c == 183)) then begins 2 2 3 6 else begins 2 1 2 7),
)

stops_in_an_answer : each answer_stops (0 ∷ 1 ∷ 2 ∷ 3 ∷ []) (0 ∷ 1 ∷ 2 ∷ 183 ∷ []) ≡ each answer_left (0 ∷ 1 ∷ 2 ∷ 3 ∷ []) (0 ∷ 1 ∷ 2 ∷ 183 ∷ [])
unfolding all_numbers in_view_by started signs signs_and_sends wants takes lives state_of handles refusal sends certificate_of neighbours neighbours_and answering_mask bits_where read_of whole_of datagram_at head_at items_at content_at records_at counted_at record_at body_at certificate_at note_at accusation_at key_at signature_at head_bytes records_bytes note_bytes accusation_bytes certificate_bytes key_bytes nodes members by_authority begun_world delivered_on handles_on forgery why_not calls hands starts starts_in_vain step page partner page_number lacking accuses passed probed_at summary_at entries_at entry_at entry_bytes summary_bytes ticked_on due_on accuses_on spreads fresh
stops_in_an_answer = refl

-- ---- in a start: five calls to open the store, and four to put the first note

abbrev new_armed : ℕ → ℕ → World
new_armed n c = plays one (begun_world one) (lines.Arm 1 n c ∷ [])

abbrev start_stops : ℕ → ℕ → Says × Says
start_stops n c = (says one (new_armed n c) (lines.Start 1), says one (plays one (new_armed n c) (lines.Start 1 ∷ [])) (lines.Start 1))

-- The gate is byte 57 of the store.
abbrev start_left : ℕ → ℕ → Says × Says
start_left n c = (answers verdicts.DiskStopped, (if nat_le 7 n && ((c == 1) || (c == 200)) then begins 1 1 2 7 else begins 1 0 1 7))

stops_in_a_start : each start_stops (0 ∷ 1 ∷ 2 ∷ 3 ∷ 4 ∷ 5 ∷ 6 ∷ 7 ∷ 8 ∷ []) (0 ∷ 1 ∷ 2 ∷ 200 ∷ []) ≡ each start_left (0 ∷ 1 ∷ 2 ∷ 3 ∷ 4 ∷ 5 ∷ 6 ∷ 7 ∷ 8 ∷ []) (0 ∷ 1 ∷ 2 ∷ 200 ∷ [])
unfolding all_numbers in_view_by started signs signs_and_sends wants takes lives state_of handles refusal sends certificate_of neighbours neighbours_and answering_mask bits_where read_of whole_of datagram_at head_at items_at content_at records_at counted_at record_at body_at certificate_at note_at accusation_at key_at signature_at head_bytes records_bytes note_bytes accusation_bytes certificate_bytes key_bytes nodes members by_authority begun_world delivered_on handles_on forgery why_not calls hands starts starts_in_vain step page partner page_number lacking accuses passed probed_at summary_at entries_at entry_at entry_bytes summary_bytes ticked_on due_on accuses_on spreads fresh
stops_in_a_start = refl

-- A stop that lets nine calls pass comes later.
passes_nine : says one (new_armed 9 1) (lines.Start 1) ≡ begins 1 0 1 7
unfolding all_numbers in_view_by started signs signs_and_sends wants takes lives state_of handles refusal sends certificate_of neighbours neighbours_and answering_mask bits_where read_of whole_of datagram_at head_at items_at content_at records_at counted_at record_at body_at certificate_at note_at accusation_at key_at signature_at head_bytes records_bytes note_bytes accusation_bytes certificate_bytes key_bytes nodes members by_authority begun_world delivered_on handles_on forgery why_not calls hands starts starts_in_vain step page partner page_number lacking accuses passed probed_at summary_at entries_at entry_at entry_bytes summary_bytes ticked_on due_on accuses_on spreads fresh
passes_nine = refl

-- ---- a key with three indexes

abbrev brief : Setting
brief = setting 3 (1 ∷ []) (2 ∷ [])

abbrev again : List WorldLine
again = lines.Stop 1 0 ∷ lines.Start 1 ∷ []

abbrev third_life : World
third_life = plays brief (begun_world brief) (lines.Start 1 ∷ lines.Stop 1 0 ∷ lines.Start 1 ∷ lines.Stop 1 0 ∷ [])

abbrev accused_last : World
accused_last = plays brief third_life (lines.Start 1 ∷ lines.SignNote 2 (record { member = 2; epoch = 1; mask = record { 0 = 7 } }) (codes "a") ∷ lines.Give (codes "a") 1 ∷ lines.SignAccusation 2 2 1 (Some 3) (record { 0 = 0 }) (codes "b") ∷ [])

uses_up : (says brief third_life (lines.Start 1) ≡ begins 3 2 3 7)
    × (says brief accused_last (lines.Give (codes "b") 1) ≡ brings (told.Took (Accusation (acc 2 1 3 0)) None ∷ told.Exhausted 3 ∷ []))
    × (says brief (plays brief accused_last (lines.Give (codes "b") 1 ∷ lines.Stop 1 0 ∷ [])) (lines.Start 1) ≡ refused (whys.UsedUp 3))
unfolding all_numbers in_view_by started signs signs_and_sends wants takes lives state_of handles refusal sends certificate_of neighbours neighbours_and answering_mask bits_where read_of whole_of datagram_at head_at items_at content_at records_at counted_at record_at body_at certificate_at note_at accusation_at key_at signature_at head_bytes records_bytes note_bytes accusation_bytes certificate_bytes key_bytes nodes members by_authority begun_world delivered_on handles_on forgery why_not calls hands starts starts_in_vain step page partner page_number lacking accuses passed probed_at summary_at entries_at entry_at entry_bytes summary_bytes ticked_on due_on accuses_on spreads fresh
uses_up = (refl, refl, refl)

-- The calls of a start in vain are among those that pass: to open a store of four entries takes eight.
in_vain : (says brief (plays brief accused_last (lines.Stop 1 0 ∷ lines.Arm 1 7 1 ∷ [])) (lines.Start 1) ≡ answers verdicts.DiskStopped)
    × (says brief (plays brief accused_last (lines.Stop 1 0 ∷ lines.Arm 1 15 1 ∷ lines.Start 1 ∷ [])) (lines.Start 1) ≡ answers verdicts.DiskStopped)
    × (says brief (plays brief accused_last (lines.Stop 1 0 ∷ lines.Arm 1 16 1 ∷ lines.Start 1 ∷ [])) (lines.Start 1) ≡ refused (whys.UsedUp 3))
unfolding all_numbers in_view_by started signs signs_and_sends wants takes lives state_of handles refusal sends certificate_of neighbours neighbours_and answering_mask bits_where read_of whole_of datagram_at head_at items_at content_at records_at counted_at record_at body_at certificate_at note_at accusation_at key_at signature_at head_bytes records_bytes note_bytes accusation_bytes certificate_bytes key_bytes nodes members by_authority begun_world delivered_on handles_on forgery why_not calls hands starts starts_in_vain step page partner page_number lacking accuses passed probed_at summary_at entries_at entry_at entry_bytes summary_bytes ticked_on due_on accuses_on spreads fresh
in_vain = (refl, refl, refl)

-- ---- in an accusation

abbrev two : Setting
two = setting 32 (1 ∷ 2 ∷ []) []

abbrev silent_two : World
silent_two = plays two (begun_world two) (lines.Start 1 ∷ lines.Start 2 ∷ lines.Tick 1 1 ∷ lines.Flow 100 ∷ lines.Stop 2 0 ∷ lines.Tick 1 2 ∷ [])

abbrev accusation_stops : ℕ → ℕ → Says × Says
accusation_stops n c =
    let w = plays two silent_two (lines.Arm 1 n c ∷ []) in
    (says two w (lines.Tick 1 1), says two (plays two w (lines.Tick 1 1 ∷ [])) (lines.Start 1))

abbrev accusation_left : ℕ → ℕ → Says × Says
accusation_left n c = (Ok (None, tells 1 4 (told.Silent 2 ∷ told.Stopped ∷ [])), (if nat_le 2 n && ((c == 1) || (c == 183)) then begins 2 2 2 7 else begins 2 1 2 7))

stops_in_an_accusation : each accusation_stops (0 ∷ 1 ∷ 2 ∷ 3 ∷ []) (0 ∷ 1 ∷ 2 ∷ 183 ∷ []) ≡ each accusation_left (0 ∷ 1 ∷ 2 ∷ 3 ∷ []) (0 ∷ 1 ∷ 2 ∷ 183 ∷ [])
unfolding all_numbers in_view_by started signs signs_and_sends wants takes lives state_of handles refusal sends certificate_of neighbours neighbours_and answering_mask bits_where read_of whole_of datagram_at head_at items_at content_at records_at counted_at record_at body_at certificate_at note_at accusation_at key_at signature_at head_bytes records_bytes note_bytes accusation_bytes certificate_bytes key_bytes nodes members by_authority begun_world delivered_on handles_on forgery why_not calls hands starts starts_in_vain step page partner page_number lacking accuses passed probed_at summary_at entries_at entry_at entry_bytes summary_bytes ticked_on due_on accuses_on spreads fresh
stops_in_an_accusation = refl

-- ---- in the note by which a node leaves

abbrev leaving_stops : ℕ → ℕ → Says × Says
leaving_stops n c =
    let w = plays one base (lines.Arm 1 n c ∷ []) in
    (says one w (lines.Leave 1), says one (plays one w (lines.Leave 1 ∷ [])) (lines.Start 1))

-- The node doesn't run then. The gate is byte 74 of the store; behind it stands the note's epoch, and mask 0, from which all rings
-- come back.
abbrev leaving_left : ℕ → ℕ → Says × Says
leaving_left n c = (brings (told.Stopped ∷ []), (if nat_le 2 n && ((c == 1) || (c == 183)) then begins 2 2 3 7 else begins 2 1 2 7))

stops_in_leaving : each leaving_stops (0 ∷ 1 ∷ 2 ∷ 3 ∷ []) (0 ∷ 1 ∷ 2 ∷ 183 ∷ []) ≡ each leaving_left (0 ∷ 1 ∷ 2 ∷ 3 ∷ []) (0 ∷ 1 ∷ 2 ∷ 183 ∷ [])
unfolding all_numbers in_view_by started signs signs_and_sends wants takes lives state_of handles refusal sends certificate_of neighbours neighbours_and answering_mask bits_where read_of whole_of datagram_at head_at items_at content_at records_at counted_at record_at body_at certificate_at note_at accusation_at key_at signature_at head_bytes records_bytes note_bytes accusation_bytes certificate_bytes key_bytes nodes members by_authority begun_world delivered_on handles_on forgery why_not calls hands starts starts_in_vain step page partner page_number lacking accuses passed probed_at summary_at entries_at entry_at entry_bytes summary_bytes ticked_on due_on accuses_on spreads fresh leaves left_on
stops_in_leaving = refl

-- A stop that lets four calls pass comes later; a key that is used up leaves by no note.
leaves_else : (says one (plays one base (lines.Arm 1 4 1 ∷ [])) (lines.Leave 1) ≡ brings (told.Spent 1 (note 1 2 0) ∷ told.Removed 1 ∷ []))
    × (says brief (plays brief third_life (lines.Start 1 ∷ [])) (lines.Leave 1) ≡ brings (told.Exhausted 3 ∷ []))
unfolding all_numbers in_view_by started signs signs_and_sends wants takes lives state_of handles refusal sends certificate_of neighbours neighbours_and answering_mask bits_where read_of whole_of datagram_at head_at items_at content_at records_at counted_at record_at body_at certificate_at note_at accusation_at key_at signature_at head_bytes records_bytes note_bytes accusation_bytes certificate_bytes key_bytes nodes members by_authority begun_world delivered_on handles_on forgery why_not calls hands starts starts_in_vain step page partner page_number lacking accuses passed probed_at summary_at entries_at entry_at entry_bytes summary_bytes ticked_on due_on accuses_on spreads fresh leaves left_on
leaves_else = (refl, refl)
