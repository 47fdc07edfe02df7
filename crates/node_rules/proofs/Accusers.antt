-- Each accusation that a correct node holds is signed by its accuser.
use Rattle.std.proofs.Common.{◌≡◌, ℕ, ◌≤◌, true, false, eqb, inl, inr, List, [], ◌∷◌, Some, None, ap, sym, ◌∙◌, subst}
use Rattle.std.specs.List.{AllByRecursion}
use Rattle.ff_ids.specs.declared.AccBody.{AccBody}
use Rattle.ff_ids.specs.declared.NoteBody.{NoteBody}
use Rattle.ff_ids.specs.declared.summary.RecordKey.{RecordKey}
use Rattle.ff_ids.specs.Faults.{accusation_fault}
use Rattle.ff_ids.specs.Steps.{Ticks}
use Rattle.records.specs.declared.keys.Key.{Key}
use Rattle.records.specs.declared.Body.{Body}
use Rattle.records.specs.declared.Body.TheVariants.{Certificate, Note, Accusation}
use Rattle.records.specs.declared.CertBody.{CertBody}
use Rattle.records.specs.declared.Record.{Record}
use Rattle.epoch_store.specs.declared.Stored.{Stored}
use Rattle.datagram.specs.declared.Datagram.{Datagram}
use Rattle.detector.specs.Silence.{History}
use Rattle.validate.specs.Table.{signature_fault}
use Rattle.node_rules.specs.Nodes.{Setting, Node, state_of, certificate_of, public_key_of}
use Rattle.node_rules.specs.Refusals.{refusal, refusal_of}
use Rattle.node_rules.specs.Calls.{Call, begun, lives, takes, spends, signs, sends, own_record, is_used_up}
use Rattle.node_rules.specs.Deliveries.{answer_to, answering_note, returning_note, may_rise}
use Rattle.node_rules.specs.Starting.{blank, opened, started, first_note}
use Rattle.node_rules.specs.Leaving.{leaving, leaving_note}
use Rattle.node_rules.specs.Lives.{Input, call_of, after_calls}
use Rattle.node_rules.specs.Vouching.{OwnSignaturesVerify}
use Rattle.node_rules.specs.OneExchange.{Life, node_after, IsCorrect, IsSignedBy, HoldsItsLife}
use Rattle.node_rules.proofs.OwnNote.{option_or-none}
use Rattle.node_rules.proofs.Carrying.{AsksBack}
use Rattle.node_rules.proofs.Keeping.{Keeps, keeps-call}
use Rattle.node_rules.proofs.Growth.{Follows, follows-itself, following, follows-signs, note-is_none}
use Rattle.node_rules.proofs.Upholding.{was-lives, was-takes}
use Rattle.node_rules.proofs.KeptNodes.{held-kept}
use Rattle.node_rules.proofs.Removed.{out-life}
use Rattle.node_rules.proofs.Correctness.{KeepsAll, Verifies, verified, key-follows, signed-spends, index-left, keeping-all, all-started, Certifies, takes_all}

abbrev Accused : Setting → Node → Type 0
Accused s n = (k : RecordKey) (r : Record) (a : AccBody) → n.held k ≡ Some r → r.body ≡ Accusation a → IsSignedBy s n a.accuser r

-- A correct node's, of which each held accusation is signed by its accuser.
record Accuses (s : Setting) (own : Key) (n : Node) : Type 0 where
  all : KeepsAll s own n
  accused : Accused s n

signed-later : (s : Setting) (n later : Node) (m : ℕ) (r : Record) → Follows s n later → IsSignedBy s n m r → IsSignedBy s later m r
signed-later s n later m r f k = record { key = k.key; author_is = key-follows s n later m k.key f k.author_is; verifies = k.verifies }

-- ---- the steps of a call

accused-takes : (s : Setting) (r : Record) (c : Call) → Follows s c.node (takes s r c).node → ((a : AccBody) → r.body ≡ Accusation a → IsSignedBy s c.node a.accuser r) → Accused s c.node → Accused s (takes s r c).node
accused-takes s r c f here h = λ k x a is says.
    elim (was-takes s r c k x is) [
      | inl e ↦ signed-later s c.node (takes s r c).node a.accuser x f (subst (IsSignedBy s c.node a.accuser) e (here a (ap (λ (y : Record). y.body) e ∙ says)))
      | inr before ↦ signed-later s c.node (takes s r c).node a.accuser x f (h before.0 x a before.1 says)
    ]

-- an accepted accusation verifies under its accuser's key
accepted-signed : (s : Setting) (n : Node) (r : Record) (a : AccBody) → refusal s n r ≡ None → r.body ≡ Accusation a → IsSignedBy s n a.accuser r
unfolding refusal
accepted-signed s n r a fine is =
    let fine2 : refusal_of s n r (Accusation a) ≡ None = sym (ap (refusal_of s n r) is) ∙ fine in
    let v : Verifies s (public_key_of n a.accuser) r = verified s (public_key_of n a.accuser) r (option_or-none (accusation_fault s.group.t (state_of s n) a) (signature_fault s.verifies (public_key_of n a.accuser) r) fine2).1 in
    record { key = v.key; author_is = v.author_is; verifies = v.verifies }

accuses-takes : (s : Setting) (own : Key) (r : Record) (c : Call) → 1 ≤ s.group.t → OwnSignaturesVerify s own → refusal s c.node r ≡ None → Accuses s own c.node → Accuses s own (takes s r c).node
accuses-takes s own r c some sign fine h =
    record {
      all = (keeping-all s own some sign).taken r c fine h.all;
      accused = accused-takes s r c ((following s c.node).taken r c fine (follows-itself s c.node)) (λ a is. accepted-signed s c.node r a fine is) h.accused;
    }

follows-spent : (s : Setting) (b : Body) (c : Call) (later : Node) → Follows s c.node later → Follows s (spends s b c).node later
unfolding state_of certificate_of
follows-spent s b c later f = record { notes = f.notes; certificates = f.certificates }

accused-signs : (s : Setting) (b : Body) (c : Call) → Follows s c.node (signs s b c).node → ((a : AccBody) → b ≡ Accusation a → IsSignedBy s c.node a.accuser (own_record s c.node b)) → Accused s c.node → Accused s (signs s b c).node
unfolding signs
accused-signs s b c f here h =
    let r : Record = own_record s c.node b in
    accused-takes s r (spends s b c) (follows-spent s b c (takes s r (spends s b c)).node f)
    (λ a is. signed-spends s b c a.accuser r (here a is))
    (λ k x a is says. signed-spends s b c a.accuser x (h k x a is says))

not_an_accusation : (x : NoteBody) (a : AccBody) → Note x ≡ Accusation a → ⊥
not_an_accusation x a e = cc

same_accusation : (x a : AccBody) → Accusation x ≡ Accusation a → x ≡ a
same_accusation x a e = cc

accuses-answers : (s : Setting) (own : Key) (r : Record) (a : AccBody) (c : Call) → 1 ≤ s.group.t → OwnSignaturesVerify s own → refusal s c.node r ≡ None → r.body ≡ Accusation a → eqb a.accused s.me ≡ true
    → may_rise s.heal c.node ≡ true → is_used_up s (takes s r c).node ≡ false → Accuses s own c.node → Accuses s own (signs s (answer_to s (takes s r c).node.stored a) (takes s r c)).node
accuses-answers s own r a c some sign fine is me may left h =
    let c1 : Call = takes s r c in
    let h1 : Accuses s own c1.node = accuses-takes s own r c some sign fine h in
    let b : Body = answer_to s c1.node.stored a in
    record {
      all = (keeping-all s own some sign).answered r a c fine is me may left h.all;
      accused = accused-signs s b c1 (follows-signs s c1.node b c1 (note-is_none (answering_note s c1.node.stored a)) (follows-itself s c1.node)) (λ x e. absurd (not_an_accusation (answering_note s c1.node.stored a) x e)) h1.accused;
    }

accuses-returns : (s : Setting) (own : Key) (r : Record) (a : AccBody) (c : Call) → 1 ≤ s.group.t → OwnSignaturesVerify s own → AsksBack s c.node r a → may_rise s.heal c.node ≡ true → is_used_up s c.node ≡ false
    → Accuses s own c.node → Accuses s own (signs s (Note (returning_note s c.node.stored)) c).node
accuses-returns s own r a c some sign asks may left h =
    let x : NoteBody = returning_note s c.node.stored in
    record {
      all = (keeping-all s own some sign).returned r a c asks may left h.all;
      accused = accused-signs s (Note x) c (follows-signs s c.node (Note x) c (note-is_none x) (follows-itself s c.node)) (λ a e. absurd (not_an_accusation x a e)) h.accused;
    }

accuses-accuses : (s : Setting) (own : Key) (a : AccBody) (c : Call) → 1 ≤ s.group.t → OwnSignaturesVerify s own → a.accuser ≡ s.me → is_used_up s c.node ≡ false → Accuses s own c.node → Accuses s own (signs s (Accusation a) c).node
accuses-accuses s own a c some sign by left h =
    record {
      all = (keeping-all s own some sign).accused a c by left h.all;
      accused = accused-signs s (Accusation a) c ((following s c.node).accused a c by left (follows-itself s c.node))
          (λ x e. record {
            key = own;
            author_is = ap (λ (y : AccBody). public_key_of c.node y.accuser) (sym (same_accusation a x e)) ∙ ap (public_key_of c.node) by ∙ h.all.own_key;
            verifies = sign c.node.stored.next (Accusation a) (index-left s c.node left h.all.within);
          })
          h.accused;
    }

accuses-leaves : (s : Setting) (own : Key) (c : Call) → 1 ≤ s.group.t → OwnSignaturesVerify s own → is_used_up s c.node ≡ false → Accuses s own c.node → Accuses s own (signs s (leaving s c.node.stored) c).node
accuses-leaves s own c some sign left h =
    let x : NoteBody = leaving_note s c.node.stored in
    record {
      all = (keeping-all s own some sign).departed c left h.all;
      accused = accused-signs s (Note x) c (follows-signs s c.node (Note x) c (note-is_none x) (follows-itself s c.node)) (λ a e. absurd (not_an_accusation x a e)) h.accused;
    }

accuses-passes : (s : Setting) (own : Key) (c : Call) → 1 ≤ s.group.t → OwnSignaturesVerify s own → Accuses s own c.node → Accuses s own (lives s Ticks c).node
accuses-passes s own c some sign h =
    let later : Node = (lives s Ticks c).node in
    let f : Follows s c.node later = (following s c.node).passed c (follows-itself s c.node) in
    record {
      all = (keeping-all s own some sign).passed c h.all;
      accused = λ k x a is says. let before = was-lives s Ticks c k x is in signed-later s c.node later a.accuser x f (h.accused before.0 x a before.1 says);
    }

accuses-probed : (s : Setting) (own : Key) (c : Call) (p : History) → 1 ≤ s.group.t → OwnSignaturesVerify s own → Accuses s own c.node → Accuses s own (record c.node { probes = p })
accuses-probed s own c p some sign h =
    let later : Node = record c.node { probes = p } in
    let f : Follows s c.node later = (following s c.node).probed p c (follows-itself s c.node) in
    record {
      all = (keeping-all s own some sign).probed p c h.all;
      accused = λ k x a is says. signed-later s c.node later a.accuser x f (h.accused k x a is says);
    }

accuses-spanned : (s : Setting) (own : Key) (c : Call) → 1 ≤ s.group.t → OwnSignaturesVerify s own → Accuses s own c.node → Accuses s own (record c.node { since = c.node.stored.epoch })
accuses-spanned s own c some sign h =
    let later : Node = record c.node { since = c.node.stored.epoch } in
    let f : Follows s c.node later = (following s c.node).spanned c (follows-itself s c.node) in
    record {
      all = (keeping-all s own some sign).spanned c h.all;
      accused = λ k x a is says. signed-later s c.node later a.accuser x f (h.accused k x a is says);
    }

accuses-spread : (s : Setting) (own : Key) (c : Call) → 1 ≤ s.group.t → OwnSignaturesVerify s own → Accuses s own c.node → Accuses s own (record c.node { news = [] })
accuses-spread s own c some sign h =
    let later : Node = record c.node { news = [] } in
    let f : Follows s c.node later = (following s c.node).spread c (follows-itself s c.node) in
    record {
      all = (keeping-all s own some sign).spread c h.all;
      accused = λ k x a is says. signed-later s c.node later a.accuser x f (h.accused k x a is says);
    }

accuses-sends : (s : Setting) (own : Key) (d : Datagram) (c : Call) (to : ℕ) → Accuses s own c.node → Accuses s own (sends s d c to).node
unfolding sends
accuses-sends s own d c to h = h

accusing : (s : Setting) (own : Key) → 1 ≤ s.group.t → OwnSignaturesVerify s own → Keeps s (λ c. Accuses s own c.node)
accusing s own some sign =
    record {
      told = λ what c other h. h;
      sent = λ d c to h. accuses-sends s own d c to h;
      taken = λ r c fine h. accuses-takes s own r c some sign fine h;
      answered = λ r a c fine is me may left h. accuses-answers s own r a c some sign fine is me may left h;
      returned = λ r a c asks may left h. accuses-returns s own r a c some sign asks may left h;
      accused = λ a c by left h. accuses-accuses s own a c some sign by left h;
      departed = λ c left h. accuses-leaves s own c some sign left h;
      stopped = λ c h. h;
      passed = λ c h. accuses-passes s own c some sign h;
      probed = λ p c h. accuses-probed s own c p some sign h;
      spanned = λ c h. accuses-spanned s own c some sign h;
      spread = λ c h. accuses-spread s own c some sign h;
    }

accuses-calls : (s : Setting) (own : Key) (n : Node) (inputs : List Input) → 1 ≤ s.group.t → OwnSignaturesVerify s own → Accuses s own n → Accuses s own (after_calls s n inputs)
accuses-calls s own n [] some sign h = h
accuses-calls s own n (i ∷ inputs) some sign h =
    accuses-calls s own (call_of s n i).node inputs some sign (keeps-call s (λ c. Accuses s own c.node) (accusing s own some sign) n i h)

-- ---- the start

abbrev HoldsNoAccusation : Node → Type 0
HoldsNoAccusation n = (k : RecordKey) (r : Record) (a : AccBody) → n.held k ≡ Some r → r.body ≡ Accusation a → ⊥

none-takes : (s : Setting) (r : Record) (c : Call) → ((a : AccBody) → r.body ≡ Accusation a → ⊥) → HoldsNoAccusation c.node → HoldsNoAccusation (takes s r c).node
none-takes s r c other h = λ k x a is says. elim (was-takes s r c k x is) [ inl e ↦ other a (ap (λ (y : Record). y.body) e ∙ says) | inr before ↦ h before.0 x a before.1 says ]

not_certified : (x : CertBody) (a : AccBody) → Certificate x ≡ Accusation a → ⊥
not_certified x a e = cc

none-opened : (s : Setting) (records : List Record) (c : Call) → AllByRecursion Certifies records → HoldsNoAccusation c.node → HoldsNoAccusation (takes_all s records c).node
none-opened s [] c all h = h
none-opened s (r ∷ records) c all h = none-opened s records (takes s r c) all.1 (none-takes s r c (λ a is. not_certified all.0.0 a (sym all.0.1 ∙ is)) h)

none-blank : (s : Setting) (nonces : ℕ → ℕ) (stored : Stored) → HoldsNoAccusation (blank s nonces stored)
none-blank s nonces stored k r a is says = nothing r is
  where
    nothing : (x : Record) → None ≡ Some x → ⊥
    nothing x e = cc

none-started : (s : Setting) (nonces : ℕ → ℕ) (certificates : List Record) (stored : Stored) → AllByRecursion Certifies certificates → HoldsNoAccusation (started s nonces certificates stored).node
unfolding started signs
none-started s nonces certificates stored all =
    let c : Call = opened s nonces certificates stored in
    let b : Body = first_note s stored in
    let h : HoldsNoAccusation c.node = none-opened s certificates (begun (blank s nonces stored)) all (none-blank s nonces stored) in
    none-takes s (own_record s c.node b) (spends s b c) (λ a is. note_only a is) h
  where
    note_only : (a : AccBody) → first_note s stored ≡ Accusation a → ⊥
    note_only a e = cc

pub holds-life : (l : Life) (inputs : List Input) → IsCorrect l → HoldsItsLife l.setting (node_after l inputs)
holds-life l inputs is =
    let s : Setting = l.setting in
    let began : Accuses s l.own (started s l.nonces l.certificates l.stored).node =
    record {
      all = all-started s l.own l.nonces l.certificates l.stored is.kit.all is.kit.own is.certified is.signs is.left;
      accused = λ k r a held says. absurd (none-started s l.nonces l.certificates l.stored is.kit.all k r a held says);
    } in
    let here : Accuses s l.own (node_after l inputs) = accuses-calls s l.own (started s l.nonces l.certificates l.stored).node inputs is.rings.some is.signs began in
    let u = here.all.upholds in
    record { filed = u.filed; notes = u.notes; members = u.members; certificates = u.certificates; signed = u.signed; kept = held-kept s l.nonces l.certificates l.stored inputs is.kit.all; accused = here.accused; out = out-life s l.nonces l.certificates l.stored inputs }
