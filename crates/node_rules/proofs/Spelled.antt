-- Whatever a node holds has a spelling, where each own signature has the length of one, whatever it verifies.
use Rattle.std.proofs.Common.{◌≡◌, ℕ, ◌+◌, ◌^◌, ◌≤◌, ◌<◌, true, false, eqb, inl, inr, List, [], ◌∷◌, Option, Some, None, refl, ap, sym, ◌∙◌, subst, arith}
use Rattle.std.specs.List.{AllByRecursion, slice_get}
use Rattle.std.specs.Option.{option_map_or}
use Rattle.std.proofs.lemmas.Bool.{cond_both}
use Rattle.ff_ids.specs.declared.TheConstants.{MEMBERS, MAX_TOLERANCE}
use Rattle.ff_ids.specs.declared.AccBody.{AccBody}
use Rattle.ff_ids.specs.declared.NoteBody.{NoteBody}
use Rattle.ff_ids.specs.declared.Fault.{Fault}
use Rattle.ff_ids.specs.Masks.{note_mask}
use Rattle.ff_ids.specs.Notes.{newest}
use Rattle.ff_ids.specs.Views.{State, is_member}
use Rattle.ff_ids.specs.Faults.{note_fault, accusation_fault}
use Rattle.ff_ids.specs.Steps.{Ticks, Stepped, joined, after_note, after_accusation, unchanged, unless_fault, step}
use Rattle.ff_ids.proofs.MaskLemmas.{good_mask-fits}
use Rattle.life_laws.proofs.Lists.{In}
use Rattle.life_laws.proofs.NoteLemmas.{newest-fits}
use Rattle.records.specs.declared.Body.{Body}
use Rattle.records.specs.declared.Body.TheVariants.{Certificate, Note, Accusation}
use Rattle.records.specs.declared.Record.{Record}
use Rattle.records.specs.Spelling.{IsBody, HasLength}
use Rattle.rebuttal.proofs.Masks.{all_rings-good}
use Rattle.epoch_store.specs.declared.Stored.{Stored}
use Rattle.datagram.specs.Spelling.{IsSignedRecord}
use Rattle.detector.specs.Watching.{newest_epoch}
use Rattle.node_rules.specs.Nodes.{Setting, Node, state_of, event_of}
use Rattle.node_rules.specs.Replies.{first_mask}
use Rattle.node_rules.specs.Refusals.{refusal}
use Rattle.node_rules.specs.Calls.{Call, begun, lives, takes, signs, is_used_up}
use Rattle.node_rules.specs.Deliveries.{answer_to, answering_note, may_rise}
use Rattle.node_rules.specs.Ticking.{accusation_on, ring_for, monitored_rings}
use Rattle.node_rules.specs.Starting.{blank, opened, started}
use Rattle.node_rules.specs.Lives.{KeepsOwnNote, life_of}
use Rattle.node_rules.specs.Readable.{IsReadable, IsSpelled, SpelledRecordsAreRead}
use Rattle.node_rules.proofs.Small.{state_of-lives, state-takes, state-signs, stored-takes, stored-signs}
use Rattle.node_rules.proofs.OwnNote.{keeping, own-started, stored-lives}
use Rattle.node_rules.proofs.Correctness.{first-good, index-left, takes_all}
use Rattle.node_rules.proofs.Upholding.{none_some}
use Rattle.node_rules.proofs.Forms.{AreFormed, formed-lives, formed-takes, formed-signs, next-body, epoch-note, epoch-accusation, some-first, formed-kit, stored-kit, inputs-formed}
use Rattle.node_rules.proofs.Walks.{KeepsNode, walk-calls}
use Rattle.node_rules.proofs.Readable.{readable, sent-kept, told-sent}

-- What a node is opened given is within its ranges.
pub record IsOpened (s : Setting) : Type 0 where
  pub some : 1 ≤ s.group.t
  pub me : s.me < MEMBERS
  pub few : s.group.t ≤ MAX_TOLERANCE
  pub indexes : s.indexes < 2 ^ 64
  pub lengths : (index : ℕ) (body : Body) → index < s.indexes → HasLength (s.signature index body)

abbrev pub AreNotes : List NoteBody → Type 0
AreNotes notes = (x : NoteBody) → In notes x → IsBody (Note x)

pub record Spelled (s : Setting) (n : Node) : Type 0 where
  pub own : KeepsOwnNote s n
  pub within : n.stored.next ≤ s.indexes
  pub epoch : n.stored.epoch ≤ n.stored.next
  pub notes : AreNotes (state_of s n).notes
  pub held : AreFormed n.held

-- ---- notes

notes-more : (x : NoteBody) (notes : List NoteBody) → IsBody (Note x) → AreNotes notes → AreNotes (x ∷ notes)
notes-more x notes body all = λ y i. elim i [ inl same ↦ subst (λ z. IsBody (Note z)) same body | inr j ↦ all y j ]

notes-unless : (st : State) (fault : Option Fault) (next : Stepped) → AreNotes next.state.notes → AreNotes st.notes → AreNotes (unless_fault fault st next).state.notes
notes-unless st (Some fault) next later all = all
notes-unless st None next later all = later

notes-step : (s : Setting) (st : State) (b : Body) → IsBody b → AreNotes st.notes → AreNotes (step s.group st (event_of s b)).state.notes
notes-step s st (Certificate c) body all =
    cond_both (is_member st c.member) (unchanged st) (unchanged (joined st c.member (s.places c.member))) (λ x. AreNotes x.state.notes) (λ yes. all) (λ no. all)
notes-step s st (Note x) body all = notes-unless st (note_fault s.group.t st x) (after_note st x) (notes-more x st.notes body all) all
notes-step s st (Accusation a) body all = notes-unless st (accusation_fault s.group.t st a) (unchanged (after_accusation st a)) all all

notes-takes : (s : Setting) (r : Record) (c : Call) → IsBody r.body → AreNotes (state_of s c.node).notes → AreNotes (state_of s (takes s r c).node).notes
notes-takes s r c body all = subst (λ (st : State). AreNotes st.notes) (sym (state-takes s r c)) (notes-step s (state_of s c.node) r.body body all)

notes-signs : (s : Setting) (b : Body) (c : Call) → IsBody b → AreNotes (state_of s c.node).notes → AreNotes (state_of s (signs s b c).node).notes
notes-signs s b c body all = subst (λ (st : State). AreNotes st.notes) (sym (state-signs s b c)) (notes-step s (state_of s c.node) b body all)

-- ---- steps

spelled-takes : (s : Setting) (r : Record) (c : Call) → 1 ≤ s.group.t → IsSignedRecord r → refusal s c.node r ≡ None → Spelled s c.node → Spelled s (takes s r c).node
spelled-takes s r c some given fine h =
    record {
      own = (keeping s some).taken r c fine h.own;
      within = subst (λ (k : Stored). k.next ≤ s.indexes) (sym (stored-takes s r c)) h.within;
      epoch = subst (λ (k : Stored). k.epoch ≤ k.next) (sym (stored-takes s r c)) h.epoch;
      notes = notes-takes s r c given.body h.notes;
      held = formed-takes s r c given h.held;
    }

one-more : (n bound : ℕ) → n < bound → n + 1 ≤ bound
one-more n bound less = omega (arith, less)

spelled-note : (s : Setting) (x : NoteBody) (c : Call) → IsOpened s → IsBody (Note x) → x.epoch ≡ c.node.stored.epoch + 1 → c.node.stored.next < s.indexes → c.node.stored.epoch ≤ c.node.stored.next
    → AreNotes (state_of s c.node).notes → AreFormed c.node.held → KeepsOwnNote s (signs s (Note x) c).node → Spelled s (signs s (Note x) c).node
spelled-note s x c is body next left epoch notes held own =
    record {
      own = own;
      within = subst (λ (k : Stored). k.next ≤ s.indexes) (sym (stored-signs s (Note x) c)) (one-more c.node.stored.next s.indexes left);
      epoch = subst (λ (k : Stored). k.epoch ≤ k.next) (sym (stored-signs s (Note x) c)) (epoch-note c.node.stored x next epoch);
      notes = notes-signs s (Note x) c body notes;
      held = formed-signs s (Note x) c (record { body = body; signature = is.lengths c.node.stored.next (Note x) left }) held;
    }

spelled-next : (s : Setting) (mask : ℕ) (c : Call) → IsOpened s → is_used_up s c.node ≡ false → note_mask s.group.t mask ≡ true → Spelled s c.node
    → KeepsOwnNote s (signs s (Note (record { member = s.me; epoch = c.node.stored.epoch + 1; mask = record { 0 = mask } })) c).node
    → Spelled s (signs s (Note (record { member = s.me; epoch = c.node.stored.epoch + 1; mask = record { 0 = mask } })) c).node
spelled-next s mask c is left allowed h own =
    let index : c.node.stored.next < s.indexes = index-left s c.node left h.within in
    spelled-note s (record { member = s.me; epoch = c.node.stored.epoch + 1; mask = record { 0 = mask } }) c is (next-body s c.node mask is.me is.few is.indexes h.epoch index allowed) refl index h.epoch h.notes h.held own

spelled-answers : (s : Setting) (r : Record) (a : AccBody) (c : Call) → IsOpened s → IsSignedRecord r → refusal s c.node r ≡ None → r.body ≡ Accusation a → eqb a.accused s.me ≡ true
    → may_rise s.heal c.node ≡ true → is_used_up s (takes s r c).node ≡ false → Spelled s c.node → Spelled s (signs s (answer_to s (takes s r c).node.stored a) (takes s r c)).node
spelled-answers s r a c is given fine about me may left h =
    let c1 : Call = takes s r c in
    let x : NoteBody = answering_note s c1.node.stored a in
    let own : KeepsOwnNote s (signs s (Note x) c1).node = (keeping s is.some).answered r a c fine about me may left h.own in
    let allowed : note_mask s.group.t x.mask.0 ≡ true = sym (ap (λ (k : Stored). note_mask s.group.t k.mask.0) (stored-signs s (Note x) c1)) ∙ own.allowed in
    spelled-next s x.mask.0 c1 is left allowed (spelled-takes s r c is.some given fine h) own

-- who is accused has a note
accused-body : (s : Setting) (n : Node) (m ring : ℕ) → s.me < MEMBERS → AreNotes (state_of s n).notes → ring_for s (state_of s n) m ≡ Some ring → IsBody (accusation_on s (state_of s n) m ring)
accused-body s n m ring me notes found =
    let st : State = state_of s n in
    let note = some-first (newest st.notes m) (λ x. slice_get (monitored_rings s st m x) 0) ring found in
    let x : NoteBody = note.0 in
    let fits = newest-fits st.notes m x note.1 in
    let body : IsBody (Note x) = notes x fits.0 in
    let epoch : newest_epoch st m ≡ x.epoch = ap (λ o. option_map_or (λ (y : NoteBody). y.epoch) o 0) note.1 in
    record {
      accuser_number = me;
      accused_number = subst (λ k. k < MEMBERS) fits.1 body.member_number;
      has_epoch = subst (λ k. 0 < k) (sym epoch) body.has_epoch;
      epoch_fits = subst (λ k. k < 2 ^ 64) (sym epoch) body.epoch_fits;
    }

spelled-accuses : (s : Setting) (m ring : ℕ) (c : Call) → IsOpened s → ring_for s (state_of s c.node) m ≡ Some ring → is_used_up s c.node ≡ false → Spelled s c.node → Spelled s (signs s (accusation_on s (state_of s c.node) m ring) c).node
spelled-accuses s m ring c is found left h =
    let a : AccBody = record { accuser = s.me; accused = m; epoch = newest_epoch (state_of s c.node) m; ring = record { 0 = ring } } in
    let index : c.node.stored.next < s.indexes = index-left s c.node left h.within in
    let body : IsBody (Accusation a) = accused-body s c.node m ring is.me h.notes found in
    record {
      own = (keeping s is.some).accused a c refl left h.own;
      within = subst (λ (k : Stored). k.next ≤ s.indexes) (sym (stored-signs s (Accusation a) c)) (one-more c.node.stored.next s.indexes index);
      epoch = subst (λ (k : Stored). k.epoch ≤ k.next) (sym (stored-signs s (Accusation a) c)) (epoch-accusation c.node.stored a h.epoch);
      notes = notes-signs s (Accusation a) c body h.notes;
      held = formed-signs s (Accusation a) c (record { body = body; signature = is.lengths c.node.stored.next (Accusation a) index }) h.held;
    }

spelled-passed : (s : Setting) (c : Call) → 1 ≤ s.group.t → Spelled s c.node → Spelled s (lives s Ticks c).node
spelled-passed s c some h =
    record {
      own = (keeping s some).passed c h.own;
      within = subst (λ (k : Stored). k.next ≤ s.indexes) (sym (stored-lives s Ticks c)) h.within;
      epoch = subst (λ (k : Stored). k.epoch ≤ k.next) (sym (stored-lives s Ticks c)) h.epoch;
      notes = subst (λ (st : State). AreNotes st.notes) (sym (state_of-lives s Ticks c)) h.notes;
      held = formed-lives s Ticks c h.held;
    }

spelled-apart : (s : Setting) (n m : Node) → m.lived ≡ n.lived → m.stored ≡ n.stored → m.held ≡ n.held → KeepsOwnNote s m → Spelled s n → Spelled s m
unfolding state_of
spelled-apart s n m lived stored held own h =
    record {
      own = own;
      within = rw stored h.within;
      epoch = rw stored h.epoch;
      notes = rw lived h.notes;
      held = rw held h.held;
    }

pub keeping-spelled : (s : Setting) → IsOpened s → KeepsNode s IsSignedRecord (Spelled s)
keeping-spelled s is =
    record {
      taken = λ r c given fine h. spelled-takes s r c is.some given fine h;
      answered = λ r a c given fine about me may left h. spelled-answers s r a c is given fine about me may left h;
      returned = λ r a c asks may left h. spelled-next s c.node.stored.mask.0 c is left h.own.allowed h ((keeping s is.some).returned r a c asks may left h.own);
      accused = λ m ring c found left h. spelled-accuses s m ring c is found left h;
      departed = λ c left h. spelled-next s 0 c is left refl h ((keeping s is.some).departed c left h.own);
      passed = λ c h. spelled-passed s c is.some h;
      probed = λ p c h. spelled-apart s c.node (record c.node { probes = p }) refl refl refl ((keeping s is.some).probed p c h.own) h;
      spanned = λ c h. spelled-apart s c.node (record c.node { since = c.node.stored.epoch }) refl refl refl ((keeping s is.some).spanned c h.own) h;
      spread = λ c h. spelled-apart s c.node (record c.node { news = [] }) refl refl refl ((keeping s is.some).spread c h.own) h;
    }

-- ---- the start

notes-kit : (s : Setting) (records : List Record) (c : Call) → AllByRecursion IsSignedRecord records → AreNotes (state_of s c.node).notes → AreNotes (state_of s (takes_all s records c).node).notes
notes-kit s [] c all h = h
notes-kit s (r ∷ records) c all h = notes-kit s records (takes s r c) all.1 (notes-takes s r c all.0.body h)

notes-blank : (s : Setting) (nonces : ℕ → ℕ) (stored : Stored) → AreNotes (state_of s (blank s nonces stored)).notes
unfolding state_of
notes-blank s nonces stored = λ x i. absurd i

pub spelled-started : (s : Setting) (nonces : ℕ → ℕ) (certificates : List Record) (stored : Stored) → IsOpened s → IsSpelled s certificates stored → Spelled s (started s nonces certificates stored).node
unfolding started
spelled-started s nonces certificates stored is given =
    let c0 : Call = begun (blank s nonces stored) in
    let c : Call = opened s nonces certificates stored in
    let kept : c.node.stored ≡ stored = stored-kit s certificates c0 in
    let x : NoteBody = record { member = s.me; epoch = stored.epoch + 1; mask = record { 0 = first_mask s.group.t stored.mask.0 } } in
    let body : IsBody (Note x) =
    record {
      member_number = is.me;
      has_epoch = omega arith;
      epoch_fits = omega (arith, is.indexes, given.epoch, given.left);
      mask_fits = good_mask-fits s.group.t (first_mask s.group.t stored.mask.0) is.few (first-good s.group.t stored.mask.0);
    } in
    spelled-note s x c is body (ap (λ (k : Stored). k.epoch + 1) (sym kept)) (subst (λ (k : Stored). k.next < s.indexes) (sym kept) given.left) (subst (λ (k : Stored). k.epoch ≤ k.next) (sym kept) given.epoch)
    (notes-kit s certificates c0 given.spelled (notes-blank s nonces stored))
    (formed-kit s certificates c0 given.spelled (λ k r some. absurd (none_some r some)))
    (own-started s nonces certificates stored (all_rings-good s.group.t) given.kit.all given.kit.own)

-- ---- lives

pub opened-spelled : (s : Setting) (certificates : List Record) (stored : Stored) → IsSpelled s certificates stored → IsOpened s
opened-spelled s certificates stored given = record { some = given.rings.some; me = given.me; few = given.rings.few; indexes = given.indexes; lengths = given.lengths }

pub spelled-read : SpelledRecordsAreRead
spelled-read s nonces certificates stored inputs i given bytes last =
    let is : IsOpened s = opened-spelled s certificates stored given in
    let n : Node = life_of s nonces certificates stored inputs in
    let h : Spelled s n = walk-calls s IsSignedRecord (Spelled s) (keeping-spelled s is) (started s nonces certificates stored).node inputs (inputs-formed inputs bytes) (spelled-started s nonces certificates stored is given) in
    told-sent (IsReadable s) s n i (sent-kept (IsReadable s) (Spelled s) s n i (λ m d k held. readable s m d is.me k.held held) (keeping-spelled s is) last h)
