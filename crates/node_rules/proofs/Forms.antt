-- What a correct node holds can be sent: each number is within its range, and each signature has its length.
use Rattle.std.proofs.Common.{◌≡◌, ℕ, ◌+◌, ◌^◌, ◌≤◌, ◌<◌, true, false, eqb, inl, inr, List, [], ◌∷◌, Option, Some, None, refl, ap, sym, ◌∙◌, subst, arith}
use Rattle.std.specs.List.{AllByRecursion, list_any, slice_get}
use Rattle.std.specs.Option.{option_and_then, option_map_or}
use Rattle.ff_ids.proofs.MaskLemmas.{good_mask-fits}
use Rattle.std.proofs.lemmas.List.Elements.{recursion_from_All}
use Rattle.ff_ids.specs.declared.TheConstants.{MAX_TOLERANCE, MEMBERS}
use Rattle.ff_ids.specs.declared.AccBody.{AccBody}
use Rattle.ff_ids.specs.declared.NoteBody.{NoteBody}
use Rattle.ff_ids.specs.declared.summary.RecordKey.{RecordKey}
use Rattle.ff_ids.specs.declared.summary.RecordKey.TheVariants as keys
use Rattle.ff_ids.specs.Masks.{note_mask}
use Rattle.ff_ids.specs.Notes.{newest}
use Rattle.ff_ids.specs.Views.{State}
use Rattle.ff_ids.specs.Steps.{Event, Ticks}
use Rattle.life_laws.proofs.NoteLemmas.{newest-fits}
use Rattle.records.specs.declared.keys.Key.{Key}
use Rattle.records.specs.declared.Body.{Body}
use Rattle.records.specs.declared.Body.TheVariants.{Note, Accusation}
use Rattle.records.specs.declared.Record.{Record}
use Rattle.records.specs.Spelling.{HasLength, IsBody}
use Rattle.records.proofs.Fields.{IsBytes}
use Rattle.epoch_store.specs.declared.Stored.{Stored}
use Rattle.signer.specs.Signing.{stored_after}
use Rattle.datagram.specs.declared.Datagram.TheVariants as kinds
use Rattle.datagram.specs.Spelling.{IsSignedRecord, IsRecordList}
use Rattle.datagram.specs.Grammar.{read_of}
use Rattle.datagram.proofs.Readings.{read_found}
use Rattle.detector.specs.Watching.{newest_epoch}
use Rattle.node_rules.specs.Nodes.{Setting, Node, Holding, state_of}
use Rattle.node_rules.specs.Refusals.{refusal}
use Rattle.node_rules.specs.Calls.{Call, begun, lives, takes, spends, signs, own_record, is_used_up}
use Rattle.node_rules.specs.Deliveries.{answer_to, answering_note, returning_note, may_rise}
use Rattle.node_rules.specs.Ticking.{accusation_on, ring_for, monitored_rings}
use Rattle.node_rules.specs.Replies.{first_mask}
use Rattle.node_rules.specs.Starting.{blank, opened, started}
use Rattle.node_rules.specs.Leaving.{leaving, leaving_note}
use Rattle.node_rules.proofs.Allowed.{allowed-fits}
use Rattle.node_rules.specs.Lives.{is_certificate_for, Input, Delivers, Ticks as Tick, Leaves}
use Rattle.node_rules.specs.Vouching.{OwnSignaturesVerify, IsCertifiedBy}
use Rattle.node_rules.specs.OneExchange.{Life, node_after, IsCorrect, IsWithinRanges, IsOfBytes}
use Rattle.node_rules.proofs.Small.{stored-takes, stored-signs}
use Rattle.node_rules.proofs.OwnNote.{stored-lives}
use Rattle.node_rules.proofs.Carrying.{AsksBack}
use Rattle.node_rules.proofs.Upholding.{none_some, was-lives, was-takes}
use Rattle.node_rules.proofs.Correctness.{KeepsAll, keeping-all, all-started, index-left, first-good, takes_all, Certifies}
use Rattle.node_rules.proofs.WholePages.{HoldsNote, holds-note}
use Rattle.node_rules.proofs.Walks.{KeepsNode, HasGiven, IsInput, walk-calls}

-- ---- what is held

abbrev pub AreFormed : Holding → Type 0
AreFormed held = (k : RecordKey) (r : Record) → held k ≡ Some r → IsSignedRecord r

pub formed-lives : (s : Setting) (e : Event) (c : Call) → AreFormed c.node.held → AreFormed (lives s e c).node.held
formed-lives s e c formed = λ k r h. let before = was-lives s e c k r h in formed before.0 r before.1

pub formed-takes : (s : Setting) (r : Record) (c : Call) → IsSignedRecord r → AreFormed c.node.held → AreFormed (takes s r c).node.held
formed-takes s r c this formed = λ k x h. elim (was-takes s r c k x h) [ inl same ↦ subst IsSignedRecord same this | inr before ↦ formed before.0 x before.1 ]

pub formed-signs : (s : Setting) (b : Body) (c : Call) → IsSignedRecord (own_record s c.node b) → AreFormed c.node.held → AreFormed (signs s b c).node.held
unfolding signs
formed-signs s b c this formed = formed-takes s (own_record s c.node b) (spends s b c) this formed

-- What a node is opened with is within its ranges.
record IsRanged (s : Setting) : Type 0 where
  me : s.me < MEMBERS
  few : s.group.t ≤ MAX_TOLERANCE
  indexes : s.indexes < 2 ^ 64
  lengths : (key : Key) (r : Record) → s.verifies key r ≡ true → HasLength r.signature

pub record Formed (s : Setting) (own : Key) (n : Node) : Type 0 where
  pub all : KeepsAll s own n
  pub held : AreFormed n.held
  pub epoch : n.stored.epoch ≤ n.stored.next

-- ---- own records

own-signed : (s : Setting) (own : Key) (b : Body) (n : Node) → IsRanged s → OwnSignaturesVerify s own → n.stored.next < s.indexes → IsBody b → IsSignedRecord (own_record s n b)
own-signed s own b n ranged sign left body = record { body = body; signature = ranged.lengths own (own_record s n b) (sign n.stored.next b left) }

pub epoch-note : (stored : Stored) (x : NoteBody) → x.epoch ≡ stored.epoch + 1 → stored.epoch ≤ stored.next → (stored_after stored (Note x)).epoch ≤ (stored_after stored (Note x)).next
epoch-note stored x is le = omega (arith, is, le)

formed-takes_given : (s : Setting) (own : Key) (r : Record) (c : Call) → 1 ≤ s.group.t → OwnSignaturesVerify s own → IsSignedRecord r → refusal s c.node r ≡ None → Formed s own c.node → Formed s own (takes s r c).node
formed-takes_given s own r c some sign given fine h =
    record {
      all = (keeping-all s own some sign).taken r c fine h.all;
      held = formed-takes s r c given h.held;
      epoch = subst (λ k. k.epoch ≤ k.next) (sym (stored-takes s r c)) h.epoch;
    }

-- the next own note
pub next-body : (s : Setting) (n : Node) (mask : ℕ) → s.me < MEMBERS → s.group.t ≤ MAX_TOLERANCE → s.indexes < 2 ^ 64 → n.stored.epoch ≤ n.stored.next → n.stored.next < s.indexes → note_mask s.group.t mask ≡ true
    → IsBody (Note (record { member = s.me; epoch = n.stored.epoch + 1; mask = record { 0 = mask } }))
next-body s n mask me few indexes le left allowed =
    record { member_number = me; has_epoch = omega arith; epoch_fits = omega (arith, indexes, le, left); mask_fits = allowed-fits s.group.t mask few allowed }

next-formed : (s : Setting) (n : Node) (mask : ℕ) → IsRanged s → n.stored.epoch ≤ n.stored.next → n.stored.next < s.indexes → note_mask s.group.t mask ≡ true → IsBody (Note (record { member = s.me; epoch = n.stored.epoch + 1; mask = record { 0 = mask } }))
next-formed s n mask ranged le left allowed = next-body s n mask ranged.me ranged.few ranged.indexes le left allowed

formed-answers : (s : Setting) (own : Key) (r : Record) (a : AccBody) (c : Call) → IsRanged s → 1 ≤ s.group.t → OwnSignaturesVerify s own → IsSignedRecord r → refusal s c.node r ≡ None → r.body ≡ Accusation a → eqb a.accused s.me ≡ true
    → may_rise s.heal c.node ≡ true → is_used_up s (takes s r c).node ≡ false → Formed s own c.node → Formed s own (signs s (answer_to s (takes s r c).node.stored a) (takes s r c)).node
formed-answers s own r a c ranged some sign given fine is me may left h =
    let c1 : Call = takes s r c in
    let h1 : Formed s own c1.node = formed-takes_given s own r c some sign given fine h in
    let x : NoteBody = answering_note s c1.node.stored a in
    let all : KeepsAll s own (signs s (Note x) c1).node = (keeping-all s own some sign).answered r a c fine is me may left h.all in
    let allowed : note_mask s.group.t x.mask.0 ≡ true = sym (ap (λ (k : Stored). note_mask s.group.t k.mask.0) (stored-signs s (Note x) c1)) ∙ all.own_note.allowed in
    let index : c1.node.stored.next < s.indexes = index-left s c1.node left h1.all.within in
    record {
      all = all;
      held = formed-signs s (Note x) c1 (own-signed s own (Note x) c1.node ranged sign index (next-formed s c1.node x.mask.0 ranged h1.epoch index allowed)) h1.held;
      epoch = subst (λ k. k.epoch ≤ k.next) (sym (stored-signs s (Note x) c1)) (epoch-note c1.node.stored x refl h1.epoch);
    }

-- the note by which the node comes back
formed-returns : (s : Setting) (own : Key) (r : Record) (a : AccBody) (c : Call) → IsRanged s → 1 ≤ s.group.t → OwnSignaturesVerify s own → AsksBack s c.node r a → may_rise s.heal c.node ≡ true → is_used_up s c.node ≡ false
    → Formed s own c.node → Formed s own (signs s (Note (returning_note s c.node.stored)) c).node
formed-returns s own r a c ranged some sign asks may left h =
    let x : NoteBody = returning_note s c.node.stored in
    let index : c.node.stored.next < s.indexes = index-left s c.node left h.all.within in
    record {
      all = (keeping-all s own some sign).returned r a c asks may left h.all;
      held = formed-signs s (Note x) c (own-signed s own (Note x) c.node ranged sign index (next-formed s c.node c.node.stored.mask.0 ranged h.epoch index h.all.own_note.allowed)) h.held;
      epoch = subst (λ k. k.epoch ≤ k.next) (sym (stored-signs s (Note x) c)) (epoch-note c.node.stored x refl h.epoch);
    }

-- the note by which the node leaves
formed-leaves : (s : Setting) (own : Key) (c : Call) → IsRanged s → 1 ≤ s.group.t → OwnSignaturesVerify s own → is_used_up s c.node ≡ false → Formed s own c.node → Formed s own (signs s (leaving s c.node.stored) c).node
formed-leaves s own c ranged some sign left h =
    let x : NoteBody = leaving_note s c.node.stored in
    let index : c.node.stored.next < s.indexes = index-left s c.node left h.all.within in
    record {
      all = (keeping-all s own some sign).departed c left h.all;
      held = formed-signs s (Note x) c (own-signed s own (Note x) c.node ranged sign index (next-formed s c.node 0 ranged h.epoch index refl)) h.held;
      epoch = subst (λ k. k.epoch ≤ k.next) (sym (stored-signs s (Note x) c)) (epoch-note c.node.stored x refl h.epoch);
    }

-- ---- own accusations

pub some-first : {X Y : Type 0} (o : Option X) (f : X → Option Y) (y : Y) → option_and_then f o ≡ Some y → (x : X) × (o ≡ Some x)
some-first None f y e = cc
some-first (Some x) f y e = (x, refl)

-- who is accused has a note, which is held
accused-body : (s : Setting) (own : Key) (n : Node) (m ring : ℕ) → IsRanged s → Formed s own n → ring_for s (state_of s n) m ≡ Some ring → IsBody (accusation_on s (state_of s n) m ring)
accused-body s own n m ring ranged h found =
    let st : State = state_of s n in
    let note = some-first (newest st.notes m) (λ x. slice_get (monitored_rings s st m x) 0) ring found in
    let x : NoteBody = note.0 in
    let who : x.member ≡ m = (newest-fits st.notes m x note.1).1 in
    let holds : HoldsNote n x = holds-note n x (h.all.upholds.notes x.member ∙ ap (newest st.notes) who ∙ note.1) in
    let body : IsBody (Note x) = subst IsBody holds.is (h.held (keys.Note x.member) holds.rec holds.place).body in
    let epoch : newest_epoch st m ≡ x.epoch = ap (λ o. option_map_or (λ (y : NoteBody). y.epoch) o 0) note.1 in
    record {
      accuser_number = ranged.me;
      accused_number = subst (λ k. k < MEMBERS) who body.member_number;
      has_epoch = subst (λ k. 0 < k) (sym epoch) body.has_epoch;
      epoch_fits = subst (λ k. k < 2 ^ 64) (sym epoch) body.epoch_fits;
    }

pub epoch-accusation : (stored : Stored) (a : AccBody) → stored.epoch ≤ stored.next → (stored_after stored (Accusation a)).epoch ≤ (stored_after stored (Accusation a)).next
epoch-accusation stored a le = omega (arith, le)

formed-accuses : (s : Setting) (own : Key) (m ring : ℕ) (c : Call) → IsRanged s → 1 ≤ s.group.t → OwnSignaturesVerify s own → ring_for s (state_of s c.node) m ≡ Some ring → is_used_up s c.node ≡ false → Formed s own c.node
    → Formed s own (signs s (accusation_on s (state_of s c.node) m ring) c).node
formed-accuses s own m ring c ranged some sign found left h =
    let a : AccBody = record { accuser = s.me; accused = m; epoch = newest_epoch (state_of s c.node) m; ring = record { 0 = ring } } in
    let index : c.node.stored.next < s.indexes = index-left s c.node left h.all.within in
    record {
      all = (keeping-all s own some sign).accused a c refl left h.all;
      held = formed-signs s (Accusation a) c (own-signed s own (Accusation a) c.node ranged sign index (accused-body s own c.node m ring ranged h found)) h.held;
      epoch = subst (λ k. k.epoch ≤ k.next) (sym (stored-signs s (Accusation a) c)) (epoch-accusation c.node.stored a h.epoch);
    }

keeping-formed : (s : Setting) (own : Key) → IsRanged s → 1 ≤ s.group.t → OwnSignaturesVerify s own → KeepsNode s IsSignedRecord (Formed s own)
keeping-formed s own ranged some sign =
    record {
      taken = λ r c given fine h. formed-takes_given s own r c some sign given fine h;
      answered = λ r a c given fine is me may left h. formed-answers s own r a c ranged some sign given fine is me may left h;
      returned = λ r a c asks may left h. formed-returns s own r a c ranged some sign asks may left h;
      accused = λ m ring c found left h. formed-accuses s own m ring c ranged some sign found left h;
      departed = λ c left h. formed-leaves s own c ranged some sign left h;
      passed = λ c h.
          record {
            all = (keeping-all s own some sign).passed c h.all;
            held = formed-lives s Ticks c h.held;
            epoch = subst (λ k. k.epoch ≤ k.next) (sym (stored-lives s Ticks c)) h.epoch;
          };
      probed = λ p c h. record { all = (keeping-all s own some sign).probed p c h.all; held = h.held; epoch = h.epoch };
      spanned = λ c h. record { all = (keeping-all s own some sign).spanned c h.all; held = h.held; epoch = h.epoch };
      spread = λ c h. record { all = (keeping-all s own some sign).spread c h.all; held = h.held; epoch = h.epoch };
    }

-- ---- the start

pub formed-kit : (s : Setting) (records : List Record) (c : Call) → AllByRecursion IsSignedRecord records → AreFormed c.node.held → AreFormed (takes_all s records c).node.held
formed-kit s [] c all h = h
formed-kit s (r ∷ records) c all h = formed-kit s records (takes s r c) all.1 (formed-takes s r c all.0 h)

pub stored-kit : (s : Setting) (records : List Record) (c : Call) → (takes_all s records c).node.stored ≡ c.node.stored
stored-kit s [] c = refl
stored-kit s (r ∷ records) c = stored-kit s records (takes s r c) ∙ stored-takes s r c

formed-started : (s : Setting) (own : Key) (nonces : ℕ → ℕ) (certificates : List Record) (stored : Stored) → AllByRecursion Certifies certificates → list_any (λ r. is_certificate_for s.me r.body) certificates ≡ true
    → AllByRecursion (IsCertifiedBy s own) certificates → OwnSignaturesVerify s own → stored.next < s.indexes → IsRanged s → AllByRecursion IsSignedRecord certificates → stored.epoch ≤ stored.next → Formed s own (started s nonces certificates stored).node
unfolding started
formed-started s own nonces certificates stored all mine good sign left ranged spelled epoch =
    let c : Call = opened s nonces certificates stored in
    let kept : c.node.stored ≡ stored = stored-kit s certificates (begun (blank s nonces stored)) in
    let x : NoteBody = record { member = s.me; epoch = stored.epoch + 1; mask = record { 0 = first_mask s.group.t stored.mask.0 } } in
    let body : IsBody (Note x) =
    record {
      member_number = ranged.me;
      has_epoch = omega arith;
      epoch_fits = omega (arith, ranged.indexes, epoch, left);
      mask_fits = good_mask-fits s.group.t (first_mask s.group.t stored.mask.0) ranged.few (first-good s.group.t stored.mask.0);
    } in
    let index : c.node.stored.next < s.indexes = subst (λ k. k.next < s.indexes) (sym kept) left in
    record {
      all = all-started s own nonces certificates stored all mine good sign left;
      held = formed-signs s (Note x) c (own-signed s own (Note x) c.node ranged sign index body) (formed-kit s certificates (begun (blank s nonces stored)) spelled (λ k r is. absurd (none_some r is)));
      epoch = subst (λ k. k.epoch ≤ k.next) (sym (stored-signs s (Note x) c)) (epoch-note c.node.stored x (ap (λ (k : Stored). k.epoch + 1) (sym kept)) (subst (λ k. k.epoch ≤ k.next) (sym kept) epoch));
    }

-- ---- what is read is within its ranges

pub read-formed : (bytes : List ℕ) → IsBytes bytes → HasGiven IsSignedRecord (read_of bytes)
read-formed bytes fits =
    λ from records is.
    let rules : IsRecordList from records = (read_found bytes (kinds.Records from records) fits is).rules in
    recursion_from_All IsSignedRecord records rules.each

pub inputs-formed : (inputs : List Input) → AllByRecursion IsOfBytes inputs → AllByRecursion (IsInput IsSignedRecord) inputs
inputs-formed [] all = tt
inputs-formed (Delivers bytes ∷ inputs) all = (read-formed bytes all.0, inputs-formed inputs all.1)
inputs-formed (Tick ∷ inputs) all = (tt, inputs-formed inputs all.1)
inputs-formed (Leaves ∷ inputs) all = (tt, inputs-formed inputs all.1)

pub keeping-life : (l : Life) → IsCorrect l → IsWithinRanges l → KeepsNode l.setting IsSignedRecord (Formed l.setting l.own)
keeping-life l is within =
    keeping-formed l.setting l.own (record { me = within.me; few = is.rings.few; indexes = within.indexes; lengths = within.lengths }) is.rings.some is.signs

pub formed-life : (l : Life) (inputs : List Input) → IsCorrect l → IsWithinRanges l → AllByRecursion IsOfBytes inputs → Formed l.setting l.own (node_after l inputs)
formed-life l inputs is within bytes =
    let s : Setting = l.setting in
    let ranged : IsRanged s = record { me = within.me; few = is.rings.few; indexes = within.indexes; lengths = within.lengths } in
    walk-calls s IsSignedRecord (Formed s l.own) (keeping-formed s l.own ranged is.rings.some is.signs) (started s l.nonces l.certificates l.stored).node inputs (inputs-formed inputs bytes)
    (formed-started s l.own l.nonces l.certificates l.stored is.kit.all is.kit.own is.certified is.signs is.left ranged within.certificates within.epoch)
