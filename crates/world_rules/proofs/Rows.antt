-- Worked rows: what lines bring. A stand-in signature is its owner's code, its index and a code of the body, and verifies
-- where owner and body are these; places are numbers.
use Rattle.std.proofs.Common.{◌≡◌, ℕ, ◌+◌, ◌*◌, Bool, false, List, [], ◌∷◌, Option, None, Some, Result, Ok, Err, map, refl, replicate}
use Rattle.std.specs.Prelude.{◌%◌, ◌&&◌, ◌==◌, fold, codes}
use Rattle.std.specs.List.{slice_index}
use Rattle.ff_ids.specs.Masks.{bits_where}
use Rattle.ff_ids.specs.declared.Group.{Group}
use Rattle.ff_ids.specs.declared.Fault.TheVariants as faults
use Rattle.ff_ids.specs.declared.AccBody.{AccBody}
use Rattle.lms_ots.specs.declared.OtsKind.TheVariants.{W8}
use Rattle.lms_tree.specs.declared.TreeKind.TheVariants.{H5}
use Rattle.records.specs.declared.keys.Key.{Key}
use Rattle.records.specs.declared.keys.Key.TheVariants as keys
use Rattle.records.specs.declared.Body.{Body}
use Rattle.records.specs.declared.Body.TheVariants.{Certificate, Note, Accusation}
use Rattle.records.specs.declared.Record.{Record}
use Rattle.datagram.specs.declared.Datagram.TheVariants as kinds
use Rattle.journal.specs.declared.event.What as whats
use Rattle.journal.specs.declared.event.What.TheVariants as told
use Rattle.ff_ids.specs.Views.{all_numbers, in_view_by}
use Rattle.lms_tree.specs.Lms.{key_bytes}
use Rattle.records.specs.Spelling.{note_bytes, accusation_bytes, certificate_bytes}
use Rattle.records.specs.Grammar.{key_at, certificate_at, note_at, accusation_at, body_at, signature_at, record_at}
use Rattle.datagram.specs.Spelling.{head_bytes, records_bytes, datagram_bytes}
use Rattle.datagram.specs.Grammar.{head_at, counted_at, records_at, content_at, datagram_at, items_at, whole_of, read_of}
use Rattle.detector.specs.Silence.{nonce}
use Rattle.node_rules.specs.Nodes.{state_of, certificate_of, neighbours, neighbours_and}
use Rattle.rebuttal.specs.Rebuttals.{answering_mask}
use Rattle.node_rules.specs.Refusals.{refusal}
use Rattle.node_rules.specs.Calls.{lives, sends, takes, signs, signs_and_sends, wants}
use Rattle.node_rules.specs.Deliveries.{handles}
use Rattle.node_rules.specs.Leaving.{leaves}
use Rattle.node_rules.specs.Starting.{started}
use Rattle.world_rules.specs.Settings.{Owner, Setting, nodes, members, by_authority}
use Rattle.node_rules.specs.OnDisks.{delivered_on, handles_on, left_on}
use Rattle.world_rules.specs.Worlds.{World, begun_world}
use Rattle.world_rules.specs.Forgeries.{Forgery, forgery}
use Rattle.world_rules.specs.Refusals.{why_not}
use Rattle.world_rules.specs.Steps.{Answer, NodeEvent, calls, hands, starts, starts_in_vain, step}
use Rattle.schedule_world.specs.declared.line.WorldLine.TheVariants as lines
use Rattle.schedule_world.specs.declared.line.WorldLine.{WorldLine}
use Rattle.world_rules.specs.declared.verdict.RefusalReason.{RefusalReason}
use Rattle.world_rules.specs.declared.verdict.RefusalReason.TheVariants as whys
use Rattle.world_rules.specs.declared.verdict.Verdict.{Verdict}
use Rattle.world_rules.specs.declared.verdict.Verdict.TheVariants as verdicts

-- ---- stand-ins

abbrev pub code_of : Owner → ℕ
code_of None = 255
code_of (Some m) = m

abbrev pub key_of : Owner → Key
key_of who = keys.Lms (record { tree = H5; ots = W8; id = code_of who ∷ replicate 15 0; root = replicate 32 0 })

abbrev pub body_code : Body → ℕ
body_code (Certificate c) = c.member % 256
body_code (Note n) = (n.member + 3 * n.epoch + 5 * n.mask.0) % 256
body_code (Accusation a) = (a.accuser + 3 * a.accused + 5 * a.epoch + 7 * a.ring.0) % 256

abbrev pub signature_by : Owner → ℕ → Body → List ℕ
signature_by who index body = code_of who ∷ index ∷ body_code body ∷ []

abbrev pub verifies : Key → Record → Bool
verifies (keys.Lms key) r = (slice_index key.id 0 == slice_index r.signature 0) && (slice_index r.signature 2 == body_code r.body)
verifies (keys.Hss key) r = false

abbrev pub group : Group
group = record { tag = replicate 16 0; t = 1; timeout = 4; period = 1; misses = 2 }

-- Each key has so many indexes.
abbrev pub setting : ℕ → List ℕ → List ℕ → Setting
setting indexes correct liars =
    record {
      group = group;
      heal = None;
      indexes = indexes;
      authority_indexes = indexes;
      correct = correct;
      liars = liars;
      places = λ m. (m ∷ []) ∷ (m ∷ []) ∷ (m ∷ []) ∷ [];
      verifies = verifies;
      key = key_of;
      signature = signature_by;
      nonces = λ m first. nonce (replicate 32 m);
    }

abbrev pub note : ℕ → ℕ → ℕ → Body
note member epoch mask = Note (record { member = member; epoch = epoch; mask = record { 0 = mask } })

abbrev pub acc : ℕ → ℕ → ℕ → ℕ → AccBody
acc accuser accused epoch ring = record { accuser = accuser; accused = accused; epoch = epoch; ring = record { 0 = ring } }

-- ---- lines

abbrev pub world_in : World → Result Answer Forgery → World
world_in w (Ok a) = a.world
world_in w (Err found) = w

abbrev pub plays : Setting → World → List WorldLine → World
plays s w played = fold (λ v line. world_in v (step s v line)) w played

-- A verdict and the events, or what is forged.
abbrev pub Says : Type 0
Says = Result (Option Verdict × List NodeEvent) Forgery

abbrev pub said : Result Answer Forgery → Says
said (Ok a) = Ok (a.verdict, a.told)
said (Err found) = Err found

abbrev pub says : Setting → World → WorldLine → Says
says s w line = said (step s w line)

abbrev pub tells : ℕ → ℕ → List whats.What → List NodeEvent
tells who moment what = map (λ x. record { who = who; event = record { moment = moment; what = x } }) what

-- No verdict, and these events of node 1 at moment 0.
abbrev pub brings : List whats.What → Says
brings what = Ok (None, tells 1 0 what)

abbrev pub answers : Verdict → Says
answers verdict = Ok (Some verdict, [])

abbrev pub refused : RefusalReason → Says
refused why = answers (verdicts.Refused why)

-- ---- a node and a liar

abbrev pub one : Setting
one = setting 32 (1 ∷ []) (2 ∷ [])

starts_first : says one (begun_world one) (lines.Start 1) ≡ Ok (Some (verdicts.Began 1), tells 1 0 (told.Spent 0 (note 1 1 7) ∷ told.Entered 1 ∷ []))
unfolding all_numbers in_view_by started signs signs_and_sends wants takes lives state_of handles refusal sends certificate_of neighbours neighbours_and answering_mask bits_where read_of whole_of datagram_at head_at items_at content_at records_at counted_at record_at body_at certificate_at note_at accusation_at key_at signature_at head_bytes records_bytes note_bytes accusation_bytes certificate_bytes key_bytes nodes members by_authority begun_world delivered_on handles_on forgery why_not calls hands starts starts_in_vain step
starts_first = refl

abbrev pub base : World
base = plays one (begun_world one) (lines.Start 1 ∷ [])

-- A ping is answered, and what is no datagram is named with its place.
abbrev ping : List ℕ
ping = 70 ∷ 70 ∷ 1 ∷ 1 ∷ 0 ∷ 2 ∷ 0 ∷ 0 ∷ 0 ∷ 0 ∷ 0 ∷ 0 ∷ 1 ∷ 2 ∷ []

abbrev pong : List ℕ
pong = 70 ∷ 70 ∷ 1 ∷ 2 ∷ 0 ∷ 1 ∷ 0 ∷ 0 ∷ 0 ∷ 0 ∷ 0 ∷ 0 ∷ 1 ∷ 2 ∷ []

takes_any_bytes : (says one base (lines.Raw 1 ping) ≡ brings (told.Ping 2 258 ∷ told.Sent 0 2 pong ∷ []))
    × (says one base (lines.Raw 1 (70 ∷ 70 ∷ [])) ≡ brings (told.BadForm 2 ∷ []))
    × (says one base (lines.Raw 2 (0 ∷ [])) ≡ refused whys.NotNode)
unfolding all_numbers in_view_by started signs signs_and_sends wants takes lives state_of handles refusal sends certificate_of neighbours neighbours_and answering_mask bits_where read_of whole_of datagram_at head_at items_at content_at records_at counted_at record_at body_at certificate_at note_at accusation_at key_at signature_at head_bytes records_bytes note_bytes accusation_bytes certificate_bytes key_bytes nodes members by_authority begun_world delivered_on handles_on forgery why_not calls hands starts starts_in_vain step
takes_any_bytes = (refl, refl, refl)

-- A liar's note is kept under a name, and is accepted once.
abbrev pub signed_note : World
signed_note = plays one base (lines.SignNote 2 (record { member = 2; epoch = 1; mask = record { 0 = 7 } }) (codes "a") ∷ [])

abbrev pub given_note : World
given_note = plays one signed_note (lines.Give (codes "a") 1 ∷ [])

gives_a_note : (says one base (lines.SignNote 2 (record { member = 2; epoch = 1; mask = record { 0 = 7 } }) (codes "a")) ≡ answers (verdicts.Spends 0))
    × (says one signed_note (lines.Give (codes "a") 1) ≡ brings (told.Took (note 2 1 7) None ∷ told.Entered 2 ∷ []))
    × (says one given_note (lines.Give (codes "a") 1) ≡ brings (told.Took (note 2 1 7) (Some faults.Known) ∷ []))
unfolding all_numbers in_view_by started signs signs_and_sends wants takes lives state_of handles refusal sends certificate_of neighbours neighbours_and answering_mask bits_where read_of whole_of datagram_at head_at items_at content_at records_at counted_at record_at body_at certificate_at note_at accusation_at key_at signature_at head_bytes records_bytes note_bytes accusation_bytes certificate_bytes key_bytes nodes members by_authority begun_world delivered_on handles_on forgery why_not calls hands starts starts_in_vain step
gives_a_note = (refl, refl, refl)

-- Its accusations are answered. The third is of the newest epoch that node 1 has signed.
abbrev pub accuse : ℕ → Option ℕ → ℕ → List ℕ → WorldLine
accuse accused epoch ring name = lines.SignAccusation 2 2 accused epoch (record { 0 = ring }) name

abbrev pub before_b : World
before_b = plays one given_note (accuse 1 (Some 1) 0 (codes "b") ∷ [])

abbrev before_c : World
before_c = plays one before_b (lines.Give (codes "b") 1 ∷ accuse 1 (Some 2) 1 (codes "c") ∷ [])

abbrev before_d : World
before_d = plays one before_c (lines.Give (codes "c") 1 ∷ accuse 1 None 1 (codes "d") ∷ [])

-- The datagram of a node with its own note.
abbrev pub own : ℕ → ℕ → ℕ → ℕ → List ℕ
own m index epoch mask = datagram_bytes (kinds.Records m (record { body = note m epoch mask; signature = signature_by (Some m) index (note m epoch mask) } ∷ []))

answers_accusations : (says one before_b (lines.Give (codes "b") 1) ≡ brings (told.Took (Accusation (acc 2 1 1 0)) None ∷ told.Spent 1 (note 1 2 6) ∷ told.Fell (acc 2 1 1 0) ∷ told.Sent 0 2 (own 1 1 2 6) ∷ []))
    × (says one before_c (lines.Give (codes "c") 1) ≡ brings (told.Took (Accusation (acc 2 1 2 1)) None ∷ told.Spent 2 (note 1 3 5) ∷ told.Fell (acc 2 1 2 1) ∷ told.Sent 1 2 (own 1 2 3 5) ∷ []))
    × (says one before_d (lines.Give (codes "d") 1) ≡ brings (told.Took (Accusation (acc 2 1 3 1)) (Some faults.RingDisabled) ∷ []))
unfolding all_numbers in_view_by started signs signs_and_sends wants takes lives state_of handles refusal sends certificate_of neighbours neighbours_and answering_mask bits_where read_of whole_of datagram_at head_at items_at content_at records_at counted_at record_at body_at certificate_at note_at accusation_at key_at signature_at head_bytes records_bytes note_bytes accusation_bytes certificate_bytes key_bytes nodes members by_authority begun_world delivered_on handles_on forgery why_not calls hands starts starts_in_vain step
answers_accusations = (refl, refl, refl)

-- A note that somebody made with the key of node 1 is forged.
abbrev forged : List ℕ
forged = datagram_bytes (kinds.Records 2 (record { body = note 1 9 7; signature = signature_by (Some 1) 5 (note 1 9 7) } ∷ []))

finds_the_forged : says one base (lines.Raw 1 forged) ≡ Err (record { who = Some 1; body = note 1 9 7 })
unfolding all_numbers in_view_by started signs signs_and_sends wants takes lives state_of handles refusal sends certificate_of neighbours neighbours_and answering_mask bits_where read_of whole_of datagram_at head_at items_at content_at records_at counted_at record_at body_at certificate_at note_at accusation_at key_at signature_at head_bytes records_bytes note_bytes accusation_bytes certificate_bytes key_bytes nodes members by_authority begun_world delivered_on handles_on forgery why_not calls hands starts starts_in_vain step
finds_the_forged = refl

-- Why lines can't be done, the first row of the table that holds.
refuses_in_order : (says one base (lines.Start 2) ≡ refused whys.NotNode)
    × (says one base (lines.Deliver 7 2) ≡ refused whys.NotNode)
    × (says one (begun_world one) (lines.Deliver 7 1) ≡ refused whys.NoDatagram)
    × (says one (begun_world one) (lines.Give (codes "a") 1) ≡ refused whys.NoName)
    × (says one (begun_world one) (lines.View 1) ≡ refused whys.NotRunning)
    × (says one base (lines.Start 1) ≡ refused whys.Running)
    × (says one base (accuse 2 None 0 (codes "b")) ≡ refused whys.NoNote)
    × (says one base (lines.SignNote 1 (record { member = 2; epoch = 1; mask = record { 0 = 7 } }) (codes "a")) ≡ refused whys.NotLiar)
    × (says one base (lines.Monitor 1 (record { 0 = 0 }) 3) ≡ refused whys.UnknownMember)
    × (says one base (lines.Monitor 1 (record { 0 = 0 }) 2) ≡ answers (verdicts.MonitoredBy (Some 1)))
    × (says one base (lines.View 1) ≡ answers (verdicts.Sees (1 ∷ [])))
unfolding all_numbers in_view_by started signs signs_and_sends wants takes lives state_of handles refusal sends certificate_of neighbours neighbours_and answering_mask bits_where read_of whole_of datagram_at head_at items_at content_at records_at counted_at record_at body_at certificate_at note_at accusation_at key_at signature_at head_bytes records_bytes note_bytes accusation_bytes certificate_bytes key_bytes nodes members by_authority begun_world delivered_on handles_on forgery why_not calls hands starts starts_in_vain step
refuses_in_order = (refl, refl, refl, refl, refl, refl, refl, refl, refl, refl, refl)

-- A node leaves once, by a note of the next epoch, and is out of its own view. Its next life comes back with all rings.
abbrev left : World
left = plays one base (lines.Leave 1 ∷ [])

leaves_and_comes_back : (says one base (lines.Leave 1) ≡ brings (told.Spent 1 (note 1 2 0) ∷ told.Removed 1 ∷ []))
    × (says one left (lines.View 1) ≡ answers (verdicts.Sees []))
    × (says one left (lines.Leave 1) ≡ refused whys.Left)
    × (says one (plays one left (lines.Stop 1 0 ∷ [])) (lines.Start 1) ≡ Ok (Some (verdicts.Began 2), tells 1 0 (told.Spent 2 (note 1 3 7) ∷ told.Entered 1 ∷ [])))
unfolding all_numbers in_view_by started signs signs_and_sends wants takes lives state_of handles refusal sends certificate_of neighbours neighbours_and answering_mask bits_where read_of whole_of datagram_at head_at items_at content_at records_at counted_at record_at body_at certificate_at note_at accusation_at key_at signature_at head_bytes records_bytes note_bytes accusation_bytes certificate_bytes key_bytes nodes members by_authority begun_world delivered_on handles_on forgery why_not calls hands starts starts_in_vain step leaves left_on
leaves_and_comes_back = (refl, refl, refl, refl)

-- Only a node that runs may leave. In its next life it may again.
leaves_where_it_runs : (says one base (lines.Leave 2) ≡ refused whys.NotNode)
    × (says one (begun_world one) (lines.Leave 1) ≡ refused whys.NotRunning)
    × (says one (plays one left (lines.Stop 1 0 ∷ [])) (lines.Leave 1) ≡ refused whys.NotRunning)
    × (says one (plays one left (lines.Stop 1 0 ∷ lines.Start 1 ∷ [])) (lines.Leave 1) ≡ brings (told.Spent 3 (note 1 4 0) ∷ told.Removed 1 ∷ []))
unfolding all_numbers in_view_by started signs signs_and_sends wants takes lives state_of handles refusal sends certificate_of neighbours neighbours_and answering_mask bits_where read_of whole_of datagram_at head_at items_at content_at records_at counted_at record_at body_at certificate_at note_at accusation_at key_at signature_at head_bytes records_bytes note_bytes accusation_bytes certificate_bytes key_bytes nodes members by_authority begun_world delivered_on handles_on forgery why_not calls hands starts starts_in_vain step leaves left_on
leaves_where_it_runs = (refl, refl, refl, refl)

-- An accusation at the epoch of the note by which it left is refused, and so it answers none.
accused_behind : says one (plays one given_note (lines.Leave 1 ∷ accuse 1 None 0 (codes "b") ∷ [])) (lines.Give (codes "b") 1) ≡ brings (told.Took (Accusation (acc 2 1 2 0)) (Some faults.NotInView) ∷ [])
unfolding all_numbers in_view_by started signs signs_and_sends wants takes lives state_of handles refusal sends certificate_of neighbours neighbours_and answering_mask bits_where read_of whole_of datagram_at head_at items_at content_at records_at counted_at record_at body_at certificate_at note_at accusation_at key_at signature_at head_bytes records_bytes note_bytes accusation_bytes certificate_bytes key_bytes nodes members by_authority begun_world delivered_on handles_on forgery why_not calls hands starts starts_in_vain step leaves left_on
accused_behind = refl

-- A liar may leave by a note too, and return by a greater one.
abbrev lies_of : ℕ → ℕ → List ℕ → WorldLine
lies_of epoch mask name = lines.SignNote 2 (record { member = 2; epoch = epoch; mask = record { 0 = mask } }) name

abbrev liar_left : World
liar_left = plays one given_note (lies_of 2 0 (codes "b") ∷ lies_of 3 6 (codes "c") ∷ [])

liar_leaves : (says one liar_left (lines.Give (codes "b") 1) ≡ brings (told.Took (note 2 2 0) None ∷ told.Removed 2 ∷ []))
    × (says one (plays one liar_left (lines.Give (codes "b") 1 ∷ [])) (lines.Give (codes "c") 1) ≡ brings (told.Took (note 2 3 6) None ∷ told.Entered 2 ∷ []))
unfolding all_numbers in_view_by started signs signs_and_sends wants takes lives state_of handles refusal sends certificate_of neighbours neighbours_and answering_mask bits_where read_of whole_of datagram_at head_at items_at content_at records_at counted_at record_at body_at certificate_at note_at accusation_at key_at signature_at head_bytes records_bytes note_bytes accusation_bytes certificate_bytes key_bytes nodes members by_authority begun_world delivered_on handles_on forgery why_not calls hands starts starts_in_vain step
liar_leaves = (refl, refl)
