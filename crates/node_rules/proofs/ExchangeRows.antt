-- Worked rows: a node is handed what it lacks of a page; and two conditions without which that isn't enough.
use Rattle.std.proofs.Common.{◌≡◌, ℕ, ◌<◌, eqb, ltb, leb, cond, inl, inr, List, [], ◌∷◌, ◌++◌, ◌==◌, length, Option, Some, None, refl, ap, sym, ◌∙◌, arith, eq-eqb, lit<}
use Rattle.std.specs.Prelude.{◌&&◌, nat_lt, nat_le, slice_index}
use Rattle.std.proofs.lemmas.Bool.{cases_Bool, eqb-true, and_parts, ltb-true, leb-true}
use Rattle.std.specs.Option.{option_and_then}
use Rattle.ff_ids.specs.Masks.{bits_where}
use Rattle.ff_ids.specs.declared.NoteBody.{NoteBody}
use Rattle.ff_ids.specs.declared.summary.RecordKey.TheVariants as keys
use Rattle.ff_ids.specs.Notes.{newest}
use Rattle.ff_ids.specs.Views.{all_numbers, in_view_by}
use Rattle.records.specs.declared.CertBody.{CertBody}
use Rattle.records.specs.declared.Body.TheVariants.{Certificate}
use Rattle.records.specs.declared.Record.{Record}
use Rattle.records.specs.declared.keys.Key.{Key}
use Rattle.records.specs.declared.keys.Key.TheVariants as key_kinds
use Rattle.records.specs.Spelling.{note_bytes, accusation_bytes, certificate_bytes}
use Rattle.records.specs.Grammar.{key_at, certificate_at, note_at, accusation_at, body_at, signature_at, record_at}
use Rattle.lms_tree.specs.Lms.{key_bytes}
use Rattle.datagram.specs.declared.Datagram.TheVariants as kinds
use Rattle.datagram.specs.Spelling.{head_bytes, records_bytes, datagram_bytes}
use Rattle.datagram.specs.Grammar.{head_at, counted_at, records_at, content_at, datagram_at, items_at, whole_of, read_of}
use Rattle.node_rules.specs.Nodes.{Setting, state_of, certificate_in, certificate_of, neighbours}
use Rattle.rebuttal.specs.Rebuttals.{answering_mask}
use Rattle.node_rules.specs.Refusals.{refusal}
use Rattle.node_rules.specs.Pages.{page, lacking}
use Rattle.node_rules.specs.Calls.{Call, begun, lives, sends, takes, signs, signs_and_sends, wants}
use Rattle.node_rules.specs.Deliveries.{handles, delivered}
use Rattle.node_rules.specs.Starting.{blank, first_note, started}
use Rattle.node_rules.specs.Lives.{Input, Delivers}
use Rattle.node_rules.specs.OneExchange.{Life, node_after, notes_after, IsCorrect, IsWithinRanges, all_lacking, HoldsAllLacking, HasAtLeast, Meet}
use Rattle.node_rules.proofs.Growth.{held-takes, certificate-signs, note-is_none}
use Rattle.node_rules.proofs.Upholding.{none_some, certificate-certificate}
use Rattle.node_rules.proofs.OneExchange.{one-exchange}
use Rattle.node_rules.proofs.Rows.{key_with, setting, nonces, certificate, new_store, note}

abbrev life : Setting → List Record → Life
life s certificates = record { setting = s; own = s.authority; nonces = nonces; certificates = certificates; stored = new_store }

-- A node is handed a note of another member.
abbrev hears_note : ℕ → ℕ → Input
hears_note member epoch = Delivers (datagram_bytes (kinds.Records 2 (record { body = note member epoch 7; signature = 5 ∷ [] } ∷ [])))

abbrev noted : ℕ → ℕ → Option NoteBody
noted member epoch = Some (record { member = member; epoch = epoch; mask = record { 0 = 7 } })

-- All that the other lacks of the first page by its summary once it has heard these, and what it knows once it is handed that.
abbrev given : Life → List Input → Life → List Input → List Record
given a made b had = all_lacking (node_after a made) b.setting.me (page (node_after b had) 0)

abbrev known : Life → List Input → Life → List Input → List NoteBody
known a made b had = notes_after b (had ++ Delivers (datagram_bytes (kinds.Records 1 (given a made b had))) ∷ [])

-- Node 1 has its own note and one of member 2. Node 3 knows of itself alone, and then of all three.
abbrev one : Life
one = life (setting 1) (certificate 1 ∷ certificate 2 ∷ [])

abbrev three : Life
three = life (setting 3) (certificate 3 ∷ [])

enough : let notes = known one (hears_note 2 4 ∷ []) three [] in
    (lacking (node_after one (hears_note 2 4 ∷ [])) 3 (page (node_after three []) 0) ≡ given one (hears_note 2 4 ∷ []) three [])
    × (newest notes 1 ≡ noted 1 1) × (newest notes 2 ≡ noted 2 4) × (newest notes 3 ≡ noted 3 1)
unfolding all_numbers in_view_by started signs signs_and_sends wants takes lives state_of delivered handles refusal sends certificate_of neighbours answering_mask bits_where page lacking read_of whole_of datagram_at head_at items_at content_at records_at counted_at record_at body_at certificate_at note_at accusation_at key_at signature_at head_bytes records_bytes note_bytes accusation_bytes certificate_bytes key_bytes
enough = (refl, refl, refl, refl)

-- A note that is less is raised, and one that is greater stays.
abbrev three_beside : Life
three_beside = life (setting 3) (certificate 2 ∷ certificate 3 ∷ [])

raised : (newest (known one (hears_note 2 4 ∷ []) three_beside (hears_note 2 3 ∷ [])) 2 ≡ noted 2 4) × (newest (known one (hears_note 2 4 ∷ []) three_beside (hears_note 2 5 ∷ [])) 2 ≡ noted 2 5)
unfolding all_numbers in_view_by started signs signs_and_sends wants takes lives state_of delivered handles refusal sends certificate_of neighbours answering_mask bits_where page lacking read_of whole_of datagram_at head_at items_at content_at records_at counted_at record_at body_at certificate_at note_at accusation_at key_at signature_at head_bytes records_bytes note_bytes accusation_bytes certificate_bytes key_bytes
raised = (refl, refl)

-- A note of node 3 itself that it doesn't know is refused: its own note would have to be at least that.
abbrev one_beside : Life
one_beside = life (setting 1) (certificate 1 ∷ certificate 3 ∷ [])

own_note_counts : newest (known one_beside (hears_note 3 9 ∷ []) three []) 3 ≡ noted 3 1
unfolding all_numbers in_view_by started signs signs_and_sends wants takes lives state_of delivered handles refusal sends certificate_of neighbours answering_mask bits_where page lacking read_of whole_of datagram_at head_at items_at content_at records_at counted_at record_at body_at certificate_at note_at accusation_at key_at signature_at head_bytes records_bytes note_bytes accusation_bytes certificate_bytes key_bytes
own_note_counts = refl

-- Where a signature verifies under the key whose id begins with the same byte, and the two keep different certificates
-- of member 2, its note is refused.
abbrev byte_of : Key → ℕ
byte_of (key_kinds.Lms k) = slice_index k.id 0
byte_of (key_kinds.Hss k) = slice_index k.top.id 0

abbrev strict : ℕ → Setting
strict me = record (setting me) { verifies = λ k r. byte_of k == slice_index r.signature 0 }

abbrev certified : ℕ → ℕ → Record
certified m id = record { body = Certificate (record { member = m; port = 20000; key = key_with id }); signature = 0 ∷ [] }

abbrev strict_one : Life
strict_one = life (strict 1) (certified 1 0 ∷ certified 2 5 ∷ [])

certificates_count : (newest (known strict_one (hears_note 2 4 ∷ []) (life (strict 3) (certified 2 5 ∷ certified 3 0 ∷ [])) []) 2 ≡ noted 2 4)
    × (newest (known strict_one (hears_note 2 4 ∷ []) (life (strict 3) (certified 2 6 ∷ certified 3 0 ∷ [])) []) 2 ≡ None)
unfolding all_numbers in_view_by started signs signs_and_sends wants takes lives state_of delivered handles refusal sends certificate_of neighbours answering_mask bits_where page lacking read_of whole_of datagram_at head_at items_at content_at records_at counted_at record_at body_at certificate_at note_at accusation_at key_at signature_at head_bytes records_bytes note_bytes accusation_bytes certificate_bytes key_bytes
certificates_count = (refl, refl)

-- ---- the law applies

-- Where each signature of 1 to 9,004 bytes verifies, node 1 and node 3 meet all conditions, with one certificate each.
abbrev sized : ℕ → Setting
sized me = record (setting me) { verifies = λ k r. nat_lt 0 (length r.signature) && nat_le (length r.signature) 9004 }

abbrev alone : ℕ → Life
alone me = life (sized me) (certificate me ∷ [])

certificate_is : (x c : CertBody) → Certificate x ≡ Certificate c → x ≡ c
certificate_is x c e = cc

abbrev cert : ℕ → CertBody
cert me = record { member = me; port = 20000; key = (setting me).authority }

correct : (me : ℕ) → IsCorrect (alone me)
correct me =
    record {
      rings = record { some = omega arith; few = omega arith };
      kit = record { all = ((cert me, refl), tt); own = rw (eq-eqb me me refl) refl };
      certified = ((refl, λ c is who. ap (λ (y : CertBody). y.key) (sym (certificate_is (cert me) c is))), tt);
      signs = λ index body left. refl;
      left = omega arith;
    }

within : (me : ℕ) → me < 1024 → IsWithinRanges (alone me)
within me small =
    record {
      me = small;
      indexes = lit< tt;
      lengths = λ key r good.
          let parts = and_parts (ltb 0 (length r.signature)) (leb (length r.signature) 9004) good in
          record { some = ltb-true _ _ parts.0; few = leb-true _ _ parts.1 };
      certificates = (record { body = record { member_number = small; has_port = omega arith; port_fits = lit< tt; key = record { id_long = refl; root_long = refl } }; signature = record { some = omega arith; few = omega arith } }, tt);
      epoch = omega arith;
    }

one_certificate : (me m : ℕ) (c : CertBody) → certificate_of (node_after (alone me) []) m ≡ Some c → me ≡ m
unfolding started certificate_of
one_certificate me m c kept =
    let s : Setting = sized me in
    let begins : Call = begun (blank s nonces new_store) in
    let taken : Call = takes s (certificate me) begins in
    let noted_only : certificate_of (node_after (alone me) []) m ≡ certificate_of taken.node m = certificate-signs s (first_note s new_store) taken m (λ x e. note-is_none _ x e) in
    let place : taken.node.held (keys.Certificate m) ≡ cond (eqb me m) (Some (certificate me)) None = held-takes s (certificate me) begins (keys.Certificate m) tt ∙ certificate-certificate (certificate me) begins.node.held (cert me) m refl in
    let whole = sym (ap (option_and_then (λ r. certificate_in r.body)) place) ∙ sym noted_only ∙ kept in
    elim (cases_Bool (eqb me m)) [
      | inl same ↦ eqb-true me m same
      | inr other ↦ absurd (none_some c (sym (ap (λ b. option_and_then (λ r. certificate_in r.body) (cond b (Some (certificate me)) None)) other) ∙ whole))
    ]

strangers : newest (notes_after (alone 1) []) 3 ≡ None
unfolding all_numbers in_view_by started signs takes lives state_of
strangers = refl

meet : Meet (alone 1) (alone 3) [] [] []
meet =
    record {
      correct = correct 1;
      ranges = within 1 (lit< tt);
      bytes = tt;
      other_correct = correct 3;
      group = record { group = refl; authority = refl; verdicts = refl };
      agree = λ m c d one other. absurd (omega (arith, one_certificate 1 m c one, one_certificate 3 m d other));
      own_known = λ note is. absurd (none_some note (sym strangers ∙ is));
    }

abbrev told : List ℕ
told = datagram_bytes (kinds.Records 1 (given (alone 1) [] (alone 3) []))

holds : HoldsAllLacking (sized 1) (node_after (alone 1) []) 3 (page (node_after (alone 3) []) 0) told
unfolding all_numbers in_view_by started signs takes lives state_of page lacking bits_where head_bytes records_bytes note_bytes certificate_bytes key_bytes
holds = record { whole = refl; spelled = refl }

own_note : newest (notes_after (alone 1) []) 1 ≡ noted 1 1
unfolding all_numbers in_view_by started signs takes lives state_of
own_note = refl

applies : HasAtLeast (notes_after (alone 3) (Delivers told ∷ [])) 1 (record { member = 1; epoch = 1; mask = record { 0 = 7 } })
applies = one-exchange (alone 1) (alone 3) [] [] [] 0 told meet holds 1 refl (record { member = 1; epoch = 1; mask = record { 0 = 7 } }) own_note
