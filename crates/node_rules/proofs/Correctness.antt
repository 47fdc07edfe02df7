-- A correct node upholds throughout its life what it is opened with.
use Rattle.std.proofs.Common.{◌≡◌, ℕ, ◌+◌, ◌≤◌, ◌<◌, Bool, true, false, eqb, cond, inl, inr, List, [], ◌∷◌, Option, Some, None, refl, ap, sym, ◌∙◌, subst, arith}
use Rattle.std.specs.Prelude.{fold, option_map}
use Rattle.std.specs.List.{AllByRecursion, list_any}
use Rattle.std.specs.Option.{option_and_then}
use Rattle.std.proofs.lemmas.Bool.{cond_both, cases_Bool}
use Rattle.std.proofs.lemmas.Bool.Decides.{nat_tests}
use Rattle.ff_ids.specs.declared.AccBody.{AccBody}
use Rattle.ff_ids.specs.declared.NoteBody.{NoteBody}
use Rattle.ff_ids.specs.declared.Fault.TheVariants as faults
use Rattle.ff_ids.specs.declared.summary.RecordKey.{RecordKey}
use Rattle.ff_ids.specs.declared.summary.RecordKey.TheVariants as keys
use Rattle.ff_ids.specs.Masks.{all_rings, good_mask, note_mask}
use Rattle.ff_ids.specs.Notes.{newest}
use Rattle.ff_ids.specs.Views.{is_member}
use Rattle.ff_ids.specs.Faults.{note_fault, note_fault_by}
use Rattle.ff_ids.specs.Steps.{Ticks}
use Rattle.records.specs.declared.keys.Key.{Key}
use Rattle.records.specs.declared.CertBody.{CertBody}
use Rattle.records.specs.declared.Body.{Body}
use Rattle.records.specs.declared.Body.TheVariants.{Certificate, Note, Accusation}
use Rattle.records.specs.declared.Record.{Record}
use Rattle.record_set.specs.Pages.{note_of_body}
use Rattle.epoch_store.specs.declared.Stored.{Stored}
use Rattle.signer.specs.Signing.{stored_after}
use Rattle.datagram.specs.declared.Datagram.{Datagram}
use Rattle.detector.specs.Silence.{History}
use Rattle.validate.specs.Table.{signature_fault, certificate_fault}
use Rattle.node_rules.specs.Nodes.{Setting, Node, state_of, certificate_of, public_key_of}
use Rattle.node_rules.specs.Refusals.{refusal, refusal_of}
use Rattle.node_rules.specs.Replies.{first_mask}
use Rattle.node_rules.specs.Calls.{Call, begun, lives, takes, spends, signs, sends, own_record, is_used_up}
use Rattle.node_rules.specs.Deliveries.{answer_to, answering_note, returning_note, may_rise}
use Rattle.node_rules.specs.Starting.{blank, opened, started}
use Rattle.node_rules.specs.Leaving.{leaving, leaving_note}
use Rattle.node_rules.proofs.Allowed.{good-allowed}
use Rattle.node_rules.specs.Lives.{KeepsOwnNote, Input, call_of, after_calls, is_certificate_for}
use Rattle.node_rules.specs.Vouching.{OwnSignaturesVerify, IsCertifiedBy}
use Rattle.node_rules.specs.OneExchange.{Life, node_after, IsCorrect, IsSignedBy}
use Rattle.node_rules.proofs.Small.{stored-takes, stored-signs}
use Rattle.node_rules.proofs.OwnNote.{option_or-none, stored-lives, keeping, own-started, becomes_member, answer-fine, return-fine, next_own-fine}
use Rattle.rebuttal.proofs.Masks.{all_rings-good}
use Rattle.node_rules.proofs.Carrying.{AsksBack}
use Rattle.node_rules.proofs.Keeping.{Keeps, keeps-call}
use Rattle.node_rules.proofs.OwnKey.{key-started}
use Rattle.node_rules.proofs.Growth.{certificate-signs, none-kept, held-takes, Follows, follows-itself, following, note-is_none, accusation-is_none}
use Rattle.node_rules.proofs.Upholding.{some_is, none_some, certificate-note, Upholds, MayTake, upholds-takes, upholds-ticks}

pub record KeepsAll (s : Setting) (own : Key) (n : Node) : Type 0 where
  pub own_note : KeepsOwnNote s n
  pub own_key : public_key_of n s.me ≡ Some own
  pub within : n.stored.next ≤ s.indexes
  pub upholds : Upholds s n

-- ---- an accepted record

pub record Verifies (s : Setting) (author : Option Key) (r : Record) : Type 0 where
  pub key : Key
  pub author_is : author ≡ Some key
  pub verifies : s.verifies key r ≡ true

pub verified : (s : Setting) (author : Option Key) (r : Record) → signature_fault s.verifies author r ≡ None → Verifies s author r
verified s None r fine = cc
verified s (Some key) r fine =
    elim (cases_Bool (s.verifies key r)) [
      | inl good ↦ record { key = key; author_is = refl; verifies = good }
      | inr bad ↦ absurd (none_some faults.BadSignature (sym (sym (ap (λ b. cond b None (Some faults.BadSignature)) bad) ∙ fine)))
    ]

no_key : (o : Option CertBody) (key : Key) → o ≡ None → option_map (λ c. c.key) o ≡ Some key → ⊥
no_key o key none some = cc

may-take : (s : Setting) (n : Node) (r : Record) (b : Body) → r.body ≡ b → refusal s n r ≡ None → Upholds s n → MayTake s n r b
unfolding refusal
may-take s n r (Certificate x) is fine h =
    let fine2 : refusal_of s n r (Certificate x) ≡ None = sym (ap (refusal_of s n r) is) ∙ fine in
    let v : Verifies s (Some s.authority) r = verified s (Some s.authority) r (option_or-none (certificate_fault (certificate_of n x.member) x) _ fine2).1 in
    (subst (λ k. s.verifies k r ≡ true) (sym (some_is s.authority v.key v.author_is)) v.verifies, no_note (n.held (keys.Note x.member)) refl)
  where
    no_note : (o : Option Record) → n.held (keys.Note x.member) ≡ o → n.held (keys.Note x.member) ≡ None
    no_note None e = e
    no_note (Some y) e = let k = h.signed x.member y e in absurd (no_key (certificate_of n x.member) k.key (none-kept s n r x fine is) k.author_is)
may-take s n r (Note x) is fine h =
    let fine2 : refusal_of s n r (Note x) ≡ None = sym (ap (refusal_of s n r) is) ∙ fine in
    let parts = option_or-none (note_fault s.group.t (state_of s n) x) _ fine2 in
    let v : Verifies s (public_key_of n x.member) r = verified s (public_key_of n x.member) r (option_or-none (signature_fault s.verifies (public_key_of n x.member) r) _ parts.1).0 in
    (parts.0, record { key = v.key; author_is = v.author_is; verifies = v.verifies })
may-take s n r (Accusation a) is fine h = tt

-- ---- an own record

upholds-spends : (s : Setting) (b : Body) (c : Call) → Upholds s c.node → Upholds s (spends s b c).node
unfolding state_of certificate_of
upholds-spends s b c h =
    record {
      filed = h.filed;
      notes = h.notes;
      members = h.members;
      certificates = h.certificates;
      signed = λ m r is. let k = h.signed m r is in record { key = k.key; author_is = k.author_is; verifies = k.verifies };
      allowed = h.allowed;
    }

pub signed-spends : (s : Setting) (b : Body) (c : Call) (m : ℕ) (r : Record) → IsSignedBy s c.node m r → IsSignedBy s (spends s b c).node m r
unfolding certificate_of
signed-spends s b c m r k = record { key = k.key; author_is = k.author_is; verifies = k.verifies }

fault-spends : (s : Setting) (b : Body) (c : Call) (x : NoteBody) → note_fault s.group.t (state_of s c.node) x ≡ None → note_fault s.group.t (state_of s (spends s b c).node) x ≡ None
unfolding state_of
fault-spends s b c x fine = fine

upholds-signs_accusation : (s : Setting) (a : AccBody) (c : Call) → Upholds s c.node → Upholds s (signs s (Accusation a) c).node
unfolding signs
upholds-signs_accusation s a c h = upholds-takes s (own_record s c.node (Accusation a)) (Accusation a) (spends s (Accusation a) c) refl tt (upholds-spends s (Accusation a) c h)

-- the own note, which verifies under the own key
upholds-signs_note : (s : Setting) (own : Key) (x : NoteBody) (c : Call) → x.member ≡ s.me → OwnSignaturesVerify s own → c.node.stored.next < s.indexes → public_key_of c.node s.me ≡ Some own
    → note_fault s.group.t (state_of s c.node) x ≡ None → Upholds s c.node → Upholds s (signs s (Note x) c).node
unfolding signs
upholds-signs_note s own x c mine signs left own_key fine h =
    let r : Record = own_record s c.node (Note x) in
    let by : IsSignedBy s c.node x.member r = record { key = own; author_is = ap (public_key_of c.node) mine ∙ own_key; verifies = signs c.node.stored.next (Note x) left } in
    upholds-takes s r (Note x) (spends s (Note x) c) refl (fault-spends s (Note x) c x fine, signed-spends s (Note x) c x.member r by) (upholds-spends s (Note x) c h)

-- ---- the own key, and the indexes

pub index-left : (s : Setting) (n : Node) → is_used_up s n ≡ false → n.stored.next ≤ s.indexes → n.stored.next < s.indexes
index-left s n left within = grind (arith, nat_tests, left, within)

stored_after-next : (stored : Stored) (b : Body) → (stored_after stored b).next ≡ stored.next + 1
stored_after-next stored (Certificate c) = refl
stored_after-next stored (Note note) = refl
stored_after-next stored (Accusation a) = refl

next-signs : (s : Setting) (b : Body) (c : Call) → (signs s b c).node.stored.next ≡ c.node.stored.next + 1
next-signs s b c = ap (λ k. k.next) (stored-signs s b c) ∙ stored_after-next c.node.stored b

within-signs : (s : Setting) (b : Body) (c : Call) → c.node.stored.next < s.indexes → (signs s b c).node.stored.next ≤ s.indexes
within-signs s b c left = omega (arith, next-signs s b c)

has_key : (o : Option CertBody) (key : Key) → option_map (λ c. c.key) o ≡ Some key → (x : CertBody) × ((o ≡ Some x) × (x.key ≡ key))
has_key None key e = cc
has_key (Some x) key e = (x, (refl, some_is x.key key e))

pub certificate-of_key : (n : Node) (m : ℕ) (key : Key) → public_key_of n m ≡ Some key → (x : CertBody) × ((certificate_of n m ≡ Some x) × (x.key ≡ key))
certificate-of_key n m key e = has_key (certificate_of n m) key e

pub key-follows : (s : Setting) (n later : Node) (m : ℕ) (key : Key) → Follows s n later → public_key_of n m ≡ Some key → public_key_of later m ≡ Some key
key-follows s n later m key f e =
    let x = certificate-of_key n m key e in
    ap (option_map (λ c. c.key)) (f.certificates m x.0 x.1.0) ∙ ap (λ k. Some k) x.1.1

-- ---- each step

all-takes : (s : Setting) (own : Key) (r : Record) (c : Call) → 1 ≤ s.group.t → refusal s c.node r ≡ None → KeepsAll s own c.node → KeepsAll s own (takes s r c).node
all-takes s own r c some fine h =
    record {
      own_note = (keeping s some).taken r c fine h.own_note;
      own_key = key-follows s c.node (takes s r c).node s.me own ((following s c.node).taken r c fine (follows-itself s c.node)) h.own_key;
      within = subst (λ k. k.next ≤ s.indexes) (sym (stored-takes s r c)) h.within;
      upholds = upholds-takes s r r.body c refl (may-take s c.node r r.body refl fine h.upholds) h.upholds;
    }

all-answers : (s : Setting) (own : Key) (r : Record) (a : AccBody) (c : Call) → 1 ≤ s.group.t → OwnSignaturesVerify s own → refusal s c.node r ≡ None → r.body ≡ Accusation a → eqb a.accused s.me ≡ true
    → may_rise s.heal c.node ≡ true → is_used_up s (takes s r c).node ≡ false → KeepsAll s own c.node → KeepsAll s own (signs s (answer_to s (takes s r c).node.stored a) (takes s r c)).node
all-answers s own r a c some sign fine is me may left h =
    let c1 : Call = takes s r c in
    let h1 : KeepsAll s own c1.node = all-takes s own r c some fine h in
    let x : NoteBody = answering_note s c1.node.stored a in
    let index : c1.node.stored.next < s.indexes = index-left s c1.node left h1.within in
    record {
      own_note = (keeping s some).answered r a c fine is me may left h.own_note;
      own_key = ap (option_map (λ c. c.key)) (certificate-signs s (Note x) c1 s.me (note-is_none x)) ∙ h1.own_key;
      within = within-signs s (Note x) c1 index;
      upholds = upholds-signs_note s own x c1 refl sign index h1.own_key (answer-fine s r a c some fine is me h.own_note) h1.upholds;
    }

all-returns : (s : Setting) (own : Key) (r : Record) (a : AccBody) (c : Call) → 1 ≤ s.group.t → OwnSignaturesVerify s own → AsksBack s c.node r a → may_rise s.heal c.node ≡ true → is_used_up s c.node ≡ false
    → KeepsAll s own c.node → KeepsAll s own (signs s (Note (returning_note s c.node.stored)) c).node
all-returns s own r a c some sign asks may left h =
    let x : NoteBody = returning_note s c.node.stored in
    let index : c.node.stored.next < s.indexes = index-left s c.node left h.within in
    record {
      own_note = (keeping s some).returned r a c asks may left h.own_note;
      own_key = ap (option_map (λ c. c.key)) (certificate-signs s (Note x) c s.me (note-is_none x)) ∙ h.own_key;
      within = within-signs s (Note x) c index;
      upholds = upholds-signs_note s own x c refl sign index h.own_key (return-fine s c.node h.own_note) h.upholds;
    }

all-accuses : (s : Setting) (own : Key) (a : AccBody) (c : Call) → 1 ≤ s.group.t → a.accuser ≡ s.me → is_used_up s c.node ≡ false → KeepsAll s own c.node → KeepsAll s own (signs s (Accusation a) c).node
all-accuses s own a c some by left h =
    record {
      own_note = (keeping s some).accused a c by left h.own_note;
      own_key = ap (option_map (λ c. c.key)) (certificate-signs s (Accusation a) c s.me (accusation-is_none a)) ∙ h.own_key;
      within = within-signs s (Accusation a) c (index-left s c.node left h.within);
      upholds = upholds-signs_accusation s a c h.upholds;
    }

all-leaves : (s : Setting) (own : Key) (c : Call) → 1 ≤ s.group.t → OwnSignaturesVerify s own → is_used_up s c.node ≡ false → KeepsAll s own c.node → KeepsAll s own (signs s (leaving s c.node.stored) c).node
all-leaves s own c some sign left h =
    let x : NoteBody = leaving_note s c.node.stored in
    let index : c.node.stored.next < s.indexes = index-left s c.node left h.within in
    record {
      own_note = (keeping s some).departed c left h.own_note;
      own_key = ap (option_map (λ c. c.key)) (certificate-signs s (Note x) c s.me (note-is_none x)) ∙ h.own_key;
      within = within-signs s (Note x) c index;
      upholds = upholds-signs_note s own x c refl sign index h.own_key (next_own-fine s c.node 0 h.own_note refl) h.upholds;
    }

all-ticks : (s : Setting) (own : Key) (c : Call) → 1 ≤ s.group.t → KeepsAll s own c.node → KeepsAll s own (lives s Ticks c).node
all-ticks s own c some h =
    record {
      own_note = (keeping s some).passed c h.own_note;
      own_key = key-follows s c.node (lives s Ticks c).node s.me own ((following s c.node).passed c (follows-itself s c.node)) h.own_key;
      within = subst (λ k. k.next ≤ s.indexes) (sym (stored-lives s Ticks c)) h.within;
      upholds = upholds-ticks s c h.upholds;
    }

all-sends : (s : Setting) (own : Key) (d : Datagram) (c : Call) (to : ℕ) → KeepsAll s own c.node → KeepsAll s own (sends s d c to).node
unfolding sends
all-sends s own d c to h = h

-- What a node lives, holds and stores is what this rests on.
upholds-again : (s : Setting) (n : Node) (p : History) (news : List RecordKey) (since : ℕ) → Upholds s n → Upholds s (record n { probes = p; news = news; since = since })
unfolding state_of certificate_of
upholds-again s n p news since u =
    record {
      filed = u.filed;
      notes = u.notes;
      members = u.members;
      certificates = u.certificates;
      signed = λ m r is. let k = u.signed m r is in record { key = k.key; author_is = k.author_is; verifies = k.verifies };
      allowed = u.allowed;
    }

all-probed : (s : Setting) (own : Key) (c : Call) (p : History) → 1 ≤ s.group.t → KeepsAll s own c.node → KeepsAll s own (record c.node { probes = p })
unfolding certificate_of
all-probed s own c p some h =
    record { own_note = (keeping s some).probed p c h.own_note; own_key = h.own_key; within = h.within; upholds = upholds-again s c.node p c.node.news c.node.since h.upholds }

all-spanned : (s : Setting) (own : Key) (c : Call) → 1 ≤ s.group.t → KeepsAll s own c.node → KeepsAll s own (record c.node { since = c.node.stored.epoch })
unfolding certificate_of
all-spanned s own c some h =
    record { own_note = (keeping s some).spanned c h.own_note; own_key = h.own_key; within = h.within; upholds = upholds-again s c.node c.node.probes c.node.news c.node.stored.epoch h.upholds }

all-spread : (s : Setting) (own : Key) (c : Call) → 1 ≤ s.group.t → KeepsAll s own c.node → KeepsAll s own (record c.node { news = [] })
unfolding certificate_of
all-spread s own c some h =
    record { own_note = (keeping s some).spread c h.own_note; own_key = h.own_key; within = h.within; upholds = upholds-again s c.node c.node.probes [] c.node.since h.upholds }

pub keeping-all : (s : Setting) (own : Key) → 1 ≤ s.group.t → OwnSignaturesVerify s own → Keeps s (λ c. KeepsAll s own c.node)
keeping-all s own some sign =
    record {
      told = λ what c other h. h;
      sent = λ d c to h. all-sends s own d c to h;
      taken = λ r c fine h. all-takes s own r c some fine h;
      answered = λ r a c fine is me may left h. all-answers s own r a c some sign fine is me may left h;
      returned = λ r a c asks may left h. all-returns s own r a c some sign asks may left h;
      accused = λ a c by left h. all-accuses s own a c some by left h;
      departed = λ c left h. all-leaves s own c some sign left h;
      stopped = λ c h. h;
      passed = λ c h. all-ticks s own c some h;
      probed = λ p c h. all-probed s own c p some h;
      spanned = λ c h. all-spanned s own c some h;
      spread = λ c h. all-spread s own c some h;
    }

all-calls : (s : Setting) (own : Key) (n : Node) (inputs : List Input) → 1 ≤ s.group.t → OwnSignaturesVerify s own → KeepsAll s own n → KeepsAll s own (after_calls s n inputs)
all-calls s own n [] some sign h = h
all-calls s own n (i ∷ inputs) some sign h =
    all-calls s own (call_of s n i).node inputs some sign (keeps-call s (λ c. KeepsAll s own c.node) (keeping-all s own some sign) n i h)

-- ---- the start

-- Certificates alone are held.
record HasOpened (s : Setting) (n : Node) : Type 0 where
  upholds : Upholds s n
  no_notes : (m : ℕ) → n.held (keys.Note m) ≡ None

blank-opened : (s : Setting) (nonces : ℕ → ℕ) (stored : Stored) → HasOpened s (blank s nonces stored)
unfolding state_of certificate_of
blank-opened s nonces stored =
    record {
      upholds =
          record {
            filed = λ k r is. absurd (none_some r is);
            notes = λ m. refl;
            members = λ m. refl;
            certificates = λ m r is. absurd (none_some r is);
            signed = λ m r is. absurd (none_some r is);
            allowed = tt;
          };
      no_notes = λ m. refl;
    }

abbrev pub takes_all : Setting → List Record → Call → Call
takes_all s records c = fold (λ c r. takes s r c) c records

abbrev pub Certifies : Record → Type 0
Certifies r = (x : CertBody) × (r.body ≡ Certificate x)

kit-opened : (s : Setting) (own : Key) (records : List Record) (c : Call) → AllByRecursion Certifies records → AllByRecursion (IsCertifiedBy s own) records → HasOpened s c.node → HasOpened s (takes_all s records c).node
kit-opened s own [] c all good h = h
kit-opened s own (r ∷ records) c all good h =
    let x : CertBody = all.0.0 in
    kit-opened s own records (takes s r c) all.1 good.1
    record {
      upholds = upholds-takes s r (Certificate x) c all.0.1 (good.0.0, h.no_notes x.member) h.upholds;
      no_notes = λ m. held-takes s r c (keys.Note m) tt ∙ certificate-note r c.node.held x m all.0.1 ∙ h.no_notes m;
    }

pub first-good : (t stored : ℕ) → good_mask t (first_mask t stored) ≡ true
first-good t stored = cond_both (good_mask t stored) stored (all_rings t) (λ m. good_mask t m ≡ true) (λ it. it) (λ other. all_rings-good t)

first-fine : (t : ℕ) (joined : Bool) (newest_note : Option NoteBody) (n : NoteBody) → joined ≡ true → note_mask t n.mask.0 ≡ true → newest_note ≡ None → note_fault_by t joined newest_note n ≡ None
first-fine t joined newest_note n j g h = rw (j, g, h) refl

pub all-started : (s : Setting) (own : Key) (nonces : ℕ → ℕ) (certificates : List Record) (stored : Stored) → AllByRecursion Certifies certificates → list_any (λ r. is_certificate_for s.me r.body) certificates ≡ true
    → AllByRecursion (IsCertifiedBy s own) certificates → OwnSignaturesVerify s own → stored.next < s.indexes → KeepsAll s own (started s nonces certificates stored).node
unfolding started
all-started s own nonces certificates stored all mine good sign left =
    let c : Call = opened s nonces certificates stored in
    let o : HasOpened s c.node = kit-opened s own certificates (begun (blank s nonces stored)) all good (blank-opened s nonces stored) in
    let v = key-started s own nonces certificates stored all mine good left in
    let x : NoteBody = record { member = s.me; epoch = stored.epoch + 1; mask = record { 0 = first_mask s.group.t stored.mask.0 } } in
    let within : (signs s (Note x) c).node.stored.next ≤ s.indexes = v.within in
    let index : c.node.stored.next < s.indexes = omega (arith, next-signs s (Note x) c, within) in
    let key : public_key_of c.node s.me ≡ Some own = sym (ap (option_map (λ c. c.key)) (certificate-signs s (Note x) c s.me (note-is_none x))) ∙ v.own_key in
    let joined : is_member (state_of s c.node) s.me ≡ true = becomes_member s certificates (begun (blank s nonces stored)) all mine in
    let none : newest (state_of s c.node).notes s.me ≡ None = sym (o.upholds.notes s.me) ∙ ap (option_and_then (λ r. note_of_body r.body)) (o.no_notes s.me) in
    let fine : note_fault s.group.t (state_of s c.node) x ≡ None =
    first-fine s.group.t (is_member (state_of s c.node) s.me) (newest (state_of s c.node).notes s.me) x joined (good-allowed s.group.t (first_mask s.group.t stored.mask.0) (first-good s.group.t stored.mask.0)) none in
    record {
      own_note = own-started s nonces certificates stored (all_rings-good s.group.t) all mine;
      own_key = v.own_key;
      within = within;
      upholds = upholds-signs_note s own x c refl sign index key fine o.upholds;
    }

pub all-life : (l : Life) (inputs : List Input) → IsCorrect l → KeepsAll l.setting l.own (node_after l inputs)
all-life l inputs is =
    all-calls l.setting l.own (started l.setting l.nonces l.certificates l.stored).node inputs is.rings.some is.signs
    (all-started l.setting l.own l.nonces l.certificates l.stored is.kit.all is.kit.own is.certified is.signs is.left)
