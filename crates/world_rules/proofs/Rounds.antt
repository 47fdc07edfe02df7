-- Worked rows: three nodes that tick and gossip, two of which one stops and starts again, and one that is asked to come back.
use Rattle.std.proofs.Common.{◌≡◌, ℕ, List, [], ◌∷◌, None, Some, Ok, refl, zero, suc}
use Rattle.std.specs.Prelude.{codes, fold}
use Rattle.ff_ids.specs.Masks.{bits_where}
use Rattle.ff_ids.specs.declared.Fault.TheVariants as faults
use Rattle.records.specs.declared.Body.TheVariants.{Accusation}
use Rattle.journal.specs.declared.event.What.TheVariants as told
use Rattle.ff_ids.specs.Views.{all_numbers, in_view_by}
use Rattle.lms_tree.specs.Lms.{key_bytes}
use Rattle.records.specs.Spelling.{note_bytes, accusation_bytes, certificate_bytes}
use Rattle.records.specs.Grammar.{key_at, certificate_at, note_at, accusation_at, body_at, signature_at, record_at}
use Rattle.datagram.specs.Spelling.{head_bytes, entry_bytes, summary_bytes, records_bytes}
use Rattle.datagram.specs.Grammar.{head_at, entry_at, entries_at, summary_at, counted_at, records_at, content_at, datagram_at, items_at, whole_of, read_of}
use Rattle.node_rules.specs.Nodes.{state_of, certificate_of, neighbours, neighbours_and}
use Rattle.rebuttal.specs.Rebuttals.{answering_mask}
use Rattle.node_rules.specs.Refusals.{refusal}
use Rattle.node_rules.specs.Calls.{lives, sends, takes, signs, signs_and_sends, wants}
use Rattle.node_rules.specs.Deliveries.{handles}
use Rattle.node_rules.specs.Leaving.{leaves}
use Rattle.node_rules.specs.Starting.{started}
use Rattle.node_rules.specs.Pages.{page, partner, page_number, lacking}
use Rattle.node_rules.specs.Ticking.{accuses, fresh, passed, probed_at, spreads}
use Rattle.world_rules.specs.Settings.{Setting, nodes, members, by_authority}
use Rattle.node_rules.specs.OnDisks.{accuses_on, delivered_on, due_on, handles_on, left_on, ticked_on}
use Rattle.world_rules.specs.Worlds.{World, begun_world}
use Rattle.world_rules.specs.Forgeries.{forgery}
use Rattle.world_rules.specs.Refusals.{why_not}
use Rattle.world_rules.specs.Steps.{calls, hands, starts, starts_in_vain, step}
use Rattle.schedule_world.specs.declared.line.WorldLine.TheVariants as lines
use Rattle.world_rules.specs.declared.verdict.RefusalReason.TheVariants as whys
use Rattle.world_rules.specs.declared.verdict.Verdict.TheVariants as verdicts
use Rattle.world_rules.proofs.Rows.{acc, accuse, answers, base, brings, note, one, own, plays, refused, says, setting, tells}

abbrev three : Setting
three = setting 32 (1 ∷ 2 ∷ 3 ∷ []) []

-- Each of these ticks in turn, and what was sent flows.
abbrev round : List ℕ → World → World
round running w = fold (λ v m. plays three v (lines.Tick m 1 ∷ lines.Flow 100 ∷ [])) w running

abbrev rounds : ℕ → List ℕ → World → World
rounds zero running w = w
rounds (suc n) running w = rounds n running (round running w)

abbrev gathered : World
gathered = rounds 3 (1 ∷ 2 ∷ 3 ∷ []) (plays three (begun_world three) (lines.Start 1 ∷ lines.Start 2 ∷ lines.Start 3 ∷ []))

sees_all : (says three gathered (lines.View 1) ≡ answers (verdicts.Sees (1 ∷ 2 ∷ 3 ∷ []))) × (says three gathered (lines.View 2) ≡ answers (verdicts.Sees (1 ∷ 2 ∷ 3 ∷ []))) × (says three gathered (lines.View 3) ≡ answers (verdicts.Sees (1 ∷ 2 ∷ 3 ∷ [])))
unfolding all_numbers in_view_by started signs signs_and_sends wants takes lives state_of handles refusal sends certificate_of neighbours neighbours_and answering_mask bits_where read_of whole_of datagram_at head_at items_at content_at records_at counted_at record_at body_at certificate_at note_at accusation_at key_at signature_at head_bytes records_bytes note_bytes accusation_bytes certificate_bytes key_bytes nodes members by_authority begun_world delivered_on handles_on forgery why_not calls hands starts starts_in_vain step page partner page_number lacking accuses passed probed_at summary_at entries_at entry_at entry_bytes summary_bytes ticked_on due_on accuses_on spreads fresh
sees_all = (refl, refl, refl)

-- ---- two nodes, of which one stops and starts again

abbrev two : Setting
two = setting 32 (1 ∷ 2 ∷ []) []

abbrev met : World
met = plays two (begun_world two) (lines.Start 1 ∷ lines.Start 2 ∷ lines.Tick 1 1 ∷ lines.Flow 100 ∷ [])

-- One summary is enough for both.
sees_both : (says two met (lines.View 1) ≡ answers (verdicts.Sees (1 ∷ 2 ∷ []))) × (says two met (lines.View 2) ≡ answers (verdicts.Sees (1 ∷ 2 ∷ [])))
unfolding all_numbers in_view_by started signs signs_and_sends wants takes lives state_of handles refusal sends certificate_of neighbours neighbours_and answering_mask bits_where read_of whole_of datagram_at head_at items_at content_at records_at counted_at record_at body_at certificate_at note_at accusation_at key_at signature_at head_bytes records_bytes note_bytes accusation_bytes certificate_bytes key_bytes nodes members by_authority begun_world delivered_on handles_on forgery why_not calls hands starts starts_in_vain step page partner page_number lacking accuses passed probed_at summary_at entries_at entry_at entry_bytes summary_bytes ticked_on due_on accuses_on spreads fresh
sees_both = (refl, refl)

abbrev left_alone : World
left_alone = plays two met (lines.Stop 2 0 ∷ lines.Tick 1 7 ∷ lines.Flow 100 ∷ [])

-- It is accused at the fourth tick, and removed at the eighth.
sees_itself : (says two left_alone (lines.View 1) ≡ answers (verdicts.Sees (1 ∷ []))) × (says two left_alone (lines.View 2) ≡ refused whys.NotRunning)
unfolding all_numbers in_view_by started signs signs_and_sends wants takes lives state_of handles refusal sends certificate_of neighbours neighbours_and answering_mask bits_where read_of whole_of datagram_at head_at items_at content_at records_at counted_at record_at body_at certificate_at note_at accusation_at key_at signature_at head_bytes records_bytes note_bytes accusation_bytes certificate_bytes key_bytes nodes members by_authority begun_world delivered_on handles_on forgery why_not calls hands starts starts_in_vain step page partner page_number lacking accuses passed probed_at summary_at entries_at entry_at entry_bytes summary_bytes ticked_on due_on accuses_on spreads fresh
sees_itself = (refl, refl)

abbrev back : World
back = plays two left_alone (lines.Start 2 ∷ lines.Tick 2 1 ∷ lines.Flow 100 ∷ [])

sees_both_again : (says two left_alone (lines.Start 2) ≡ Ok (Some (verdicts.Began 2), tells 2 0 (told.Spent 1 (note 2 2 7) ∷ told.Entered 2 ∷ [])))
    × (says two back (lines.View 1) ≡ answers (verdicts.Sees (1 ∷ 2 ∷ []))) × (says two back (lines.View 2) ≡ answers (verdicts.Sees (1 ∷ 2 ∷ [])))
unfolding all_numbers in_view_by started signs signs_and_sends wants takes lives state_of handles refusal sends certificate_of neighbours neighbours_and answering_mask bits_where read_of whole_of datagram_at head_at items_at content_at records_at counted_at record_at body_at certificate_at note_at accusation_at key_at signature_at head_bytes records_bytes note_bytes accusation_bytes certificate_bytes key_bytes nodes members by_authority begun_world delivered_on handles_on forgery why_not calls hands starts starts_in_vain step page partner page_number lacking accuses passed probed_at summary_at entries_at entry_at entry_bytes summary_bytes ticked_on due_on accuses_on spreads fresh
sees_both_again = (refl, refl, refl)

-- ---- one leaves, and the other removes it as soon as the note comes, and not at a tick

abbrev gone : World
gone = plays two met (lines.Leave 2 ∷ [])

removes_at_once : (says two met (lines.Leave 2) ≡ Ok (None, tells 2 0 (told.Spent 1 (note 2 2 0) ∷ told.Removed 2 ∷ told.Sent 4 1 (own 2 1 2 0) ∷ [])))
    × (says two gone (lines.Flow 100) ≡ Ok (None, tells 1 1 (told.Got 4 ∷ told.Took (note 2 2 0) None ∷ told.Removed 2 ∷ [])))
    × (says two (plays two gone (lines.Flow 100 ∷ lines.Tick 1 7 ∷ lines.Flow 100 ∷ [])) (lines.View 1) ≡ answers (verdicts.Sees (1 ∷ [])))
unfolding all_numbers in_view_by started signs signs_and_sends wants takes lives state_of handles refusal sends certificate_of neighbours neighbours_and answering_mask bits_where read_of whole_of datagram_at head_at items_at content_at records_at counted_at record_at body_at certificate_at note_at accusation_at key_at signature_at head_bytes records_bytes note_bytes accusation_bytes certificate_bytes key_bytes nodes members by_authority begun_world delivered_on handles_on forgery why_not calls hands starts starts_in_vain step page partner page_number lacking accuses passed probed_at summary_at entries_at entry_at entry_bytes summary_bytes ticked_on due_on accuses_on spreads fresh leaves left_on
removes_at_once = (refl, refl, refl)

-- ---- with the option

abbrev healing : Setting
healing = record one { heal = Some (record { every = 2; most = 1 }) }

abbrev accused_again : World
accused_again = plays healing (begun_world healing) (lines.Start 1 ∷ accuse 1 (Some 1) 0 (codes "b") ∷ accuse 1 (Some 2) 0 (codes "c") ∷ lines.Tick 1 4 ∷ [])

-- An accusation by one who isn't in its view is refused, and a note answers it in which the same rings are enabled: of these
-- there is one in a span. Without the option none comes.
comes_back : (says healing accused_again (lines.Give (codes "b") 1) ≡ Ok (None, tells 1 4 (told.Took (Accusation (acc 2 1 1 0)) (Some (faults.NotMonitor None)) ∷ told.Spent 1 (note 1 2 7) ∷ [])))
    × (says healing (plays healing accused_again (lines.Give (codes "b") 1 ∷ [])) (lines.Give (codes "c") 1) ≡ Ok (None, tells 1 4 (told.Took (Accusation (acc 2 1 2 0)) (Some (faults.NotMonitor None)) ∷ [])))
    × (says one (plays one base (accuse 1 (Some 1) 0 (codes "b") ∷ [])) (lines.Give (codes "b") 1) ≡ brings (told.Took (Accusation (acc 2 1 1 0)) (Some (faults.NotMonitor None)) ∷ []))
unfolding all_numbers in_view_by started signs signs_and_sends wants takes lives state_of handles refusal sends certificate_of neighbours neighbours_and answering_mask bits_where read_of whole_of datagram_at head_at items_at content_at records_at counted_at record_at body_at certificate_at note_at accusation_at key_at signature_at head_bytes records_bytes note_bytes accusation_bytes certificate_bytes key_bytes nodes members by_authority begun_world delivered_on handles_on forgery why_not calls hands starts starts_in_vain step page partner page_number lacking accuses passed probed_at summary_at entries_at entry_at entry_bytes summary_bytes ticked_on due_on accuses_on spreads fresh
comes_back = (refl, refl, refl)
