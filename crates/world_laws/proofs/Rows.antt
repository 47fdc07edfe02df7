-- Worked rows: who has signed what where a node stops and is removed.
use Rattle.std.proofs.Common.{◌≡◌, ℕ, List, [], ◌∷◌, Some, map, refl, take}
use Rattle.std.specs.List.{slice_get}
use Rattle.ff_ids.specs.Masks.{bits_where}
use Rattle.records.specs.declared.Body.TheVariants.{Accusation}
use Rattle.ff_ids.specs.Views.{all_numbers, in_view_by}
use Rattle.lms_tree.specs.Lms.{key_bytes}
use Rattle.records.specs.Spelling.{note_bytes, accusation_bytes, certificate_bytes}
use Rattle.records.specs.Grammar.{key_at, certificate_at, note_at, accusation_at, body_at, signature_at, record_at}
use Rattle.datagram.specs.Spelling.{head_bytes, entry_bytes, summary_bytes, records_bytes}
use Rattle.datagram.specs.Grammar.{head_at, entry_at, entries_at, summary_at, counted_at, records_at, content_at, datagram_at, items_at, whole_of, read_of}
use Rattle.signer.specs.Lives.{Spent}
use Rattle.node_rules.specs.Nodes.{state_of, certificate_of, neighbours, neighbours_and}
use Rattle.rebuttal.specs.Rebuttals.{answering_mask}
use Rattle.node_rules.specs.Refusals.{refusal}
use Rattle.node_rules.specs.Calls.{lives, sends, takes, signs, signs_and_sends, wants}
use Rattle.node_rules.specs.Deliveries.{delivered, handles}
use Rattle.node_rules.specs.Leaving.{leaves, leaving}
use Rattle.node_rules.specs.Lives.{Leaves}
use Rattle.node_rules.specs.Starting.{started}
use Rattle.node_rules.specs.Pages.{page, partner, page_number, lacking}
use Rattle.node_rules.specs.Ticking.{accuses, due_tick, fresh, passed, probed_at, silent_at, spreads, ticked}
use Rattle.world_rules.specs.Settings.{Setting, nodes, members, by_authority, setting_of}
use Rattle.node_rules.specs.OnDisks.{accuses_on, delivered_on, due_on, handles_on, left_on, ticked_on}
use Rattle.world_rules.specs.Worlds.{Life, World, begun_world, lives_of, spent_of}
use Rattle.world_rules.specs.Forgeries.{forgery}
use Rattle.world_rules.specs.Refusals.{why_not}
use Rattle.world_rules.specs.Steps.{calls, hands, starts, starts_in_vain, step}
use Rattle.schedule_world.specs.declared.line.WorldLine.TheVariants as lines
use Rattle.world_rules.proofs.Rows.{acc, note, plays, setting}
use Rattle.world_laws.specs.Signing.{node_after}

abbrev two : Setting
two = setting 32 (1 ∷ 2 ∷ []) []

-- Two nodes meet, and the second stops. The first finds it silent at its fourth tick, and removes it at the eighth.
abbrev alone : World
alone = plays two (begun_world two) (lines.Start 1 ∷ lines.Start 2 ∷ lines.Tick 1 1 ∷ lines.Flow 100 ∷ lines.Stop 2 0 ∷ lines.Tick 1 7 ∷ [])

abbrev spends : ℕ → List Spent
spends m = spent_of alone (Some m)

-- The life of the first, call by call: who is silent at a tick behind so many calls.
abbrev silent_behind : List Life → ℕ → List ℕ
silent_behind [] k = []
silent_behind (life ∷ lives) k = silent_at (setting_of two 1) (node_after two 1 life.found (take k life.inputs))

-- The removed had signed a note of epoch 1 that enables ring 0.
signs_both : (spends 2 ≡ record { index = 0; body = note 2 1 7 } ∷ []) × (spends 1 ≡ record { index = 0; body = note 1 1 7 } ∷ record { index = 1; body = Accusation (acc 1 2 1 0) } ∷ [])
unfolding all_numbers in_view_by started signs signs_and_sends wants takes lives state_of handles refusal sends certificate_of neighbours neighbours_and answering_mask bits_where read_of whole_of datagram_at head_at items_at content_at records_at counted_at record_at body_at certificate_at note_at accusation_at key_at signature_at head_bytes records_bytes note_bytes accusation_bytes certificate_bytes key_bytes nodes members by_authority begun_world delivered_on handles_on forgery why_not calls hands starts starts_in_vain step page partner page_number lacking accuses passed probed_at summary_at entries_at entry_at entry_bytes summary_bytes ticked_on due_on accuses_on spreads fresh
signs_both = (refl, refl)

-- It is silent at the fourth tick, behind three ticks and two deliveries, and not before.
silent_then : map (silent_behind (lives_of alone 1)) (0 ∷ 1 ∷ 2 ∷ 3 ∷ 4 ∷ 5 ∷ 6 ∷ []) ≡ [] ∷ [] ∷ [] ∷ [] ∷ [] ∷ (2 ∷ []) ∷ (2 ∷ []) ∷ []
unfolding all_numbers in_view_by started signs signs_and_sends wants takes lives state_of handles refusal sends certificate_of neighbours neighbours_and answering_mask bits_where read_of whole_of datagram_at head_at items_at content_at records_at counted_at record_at body_at certificate_at note_at accusation_at key_at signature_at head_bytes records_bytes note_bytes accusation_bytes certificate_bytes key_bytes nodes members by_authority begun_world delivered_on handles_on forgery why_not calls hands starts starts_in_vain step page partner page_number lacking accuses passed probed_at summary_at entries_at entry_at entry_bytes summary_bytes ticked_on due_on accuses_on spreads fresh delivered ticked due_tick silent_at
silent_then = refl

-- Where the second leaves in place of that, it has signed a note of epoch 2 with no ring, in the call behind two deliveries.
abbrev left : World
left = plays two (begun_world two) (lines.Start 1 ∷ lines.Start 2 ∷ lines.Tick 1 1 ∷ lines.Flow 100 ∷ lines.Leave 2 ∷ lines.Flow 100 ∷ [])

leaves_then : (spent_of left (Some 2) ≡ record { index = 0; body = note 2 1 7 } ∷ record { index = 1; body = note 2 2 0 } ∷ [])
    × (map (λ life. slice_get life.inputs 2) (lives_of left 2) ≡ Some Leaves ∷ [])
    × (map (λ life. leaving (setting_of two 2) (node_after two 2 life.found (take 2 life.inputs)).stored) (lives_of left 2) ≡ note 2 2 0 ∷ [])
unfolding all_numbers in_view_by started signs signs_and_sends wants takes lives state_of handles refusal sends certificate_of neighbours neighbours_and answering_mask bits_where read_of whole_of datagram_at head_at items_at content_at records_at counted_at record_at body_at certificate_at note_at accusation_at key_at signature_at head_bytes records_bytes note_bytes accusation_bytes certificate_bytes key_bytes nodes members by_authority begun_world delivered_on handles_on forgery why_not calls hands starts starts_in_vain step page partner page_number lacking accuses passed probed_at summary_at entries_at entry_at entry_bytes summary_bytes ticked_on due_on accuses_on spreads fresh delivered ticked due_tick silent_at leaves left_on
leaves_then = (refl, refl, refl)
