-- Which refused record asks a note of the node, and how far the node's epoch may rise.
use Rattle.std.proofs.Common.{◌≡◌, ℕ, ◌+◌, ◌-◌, Bool, true, false, not, cond, eqb, leb, inl, inr, Option, Some, None, refl, ap, sym, ◌∙◌, subst, arith, eq-eqb}
use Rattle.std.specs.Prelude.{◌&&◌, ◌↔◌, is_some, nat_eq, nat_lt}
use Rattle.std.specs.Option.{option_or, option_map, option_map_or}
use Rattle.std.specs.Result.{is_ok}
use Rattle.std.proofs.lemmas.Bool.{cases_Bool, false≢true, eqb-true}
use Rattle.std.proofs.lemmas.Bool.Decides.{nat_tests}
use Rattle.ff_ids.specs.Heals.{Heal}
use Rattle.ff_ids.specs.Masks.{ring_count, enables}
use Rattle.ff_ids.specs.Faults.{Facts, fault_under, accusation_fault, accusation_fault_by}
use Rattle.ff_ids.specs.declared.AccBody.{AccBody}
use Rattle.ff_ids.specs.declared.Fault.{Fault}
use Rattle.ff_ids.specs.declared.Fault.TheVariants as faults
use Rattle.ff_ids.specs.declared.NoteBody.{NoteBody}
use Rattle.epoch_store.specs.declared.Stored.{Stored}
use Rattle.records.specs.declared.Body.{Body}
use Rattle.records.specs.declared.Body.TheVariants.{Certificate, Note, Accusation}
use Rattle.records.specs.declared.CertBody.{CertBody}
use Rattle.records.specs.declared.keys.Key.{Key}
use Rattle.records.specs.declared.Record.{Record}
use Rattle.records.specs.Keys.{verdict_of}
use Rattle.records.specs.Signing.{signed_bytes}
use Rattle.rebuttal.specs.Rebuttals.{IsAgainst}
use Rattle.validate.specs.Table.{signature_fault}
use Rattle.validate.specs.Certified.{certificate_of as kept_certificate}
use Rattle.node_rules.specs.Nodes.{Setting, Node, state_of, public_key_of}
use Rattle.node_rules.specs.Refusals.{refusal, refusal_of}
use Rattle.node_rules.specs.Deliveries.{may_rise, is_of_place, asked_with, verifies_for, returning_note}
use Rattle.audit_node.specs.Noted.{own_note}
use Rattle.audit_rules.specs.Heads.{setting_with}
use Rattle.audit_node.specs.Playing.{Kept, IsMirror}
use Rattle.audit_node.specs.Returning.{is_placed, is_misplaced, asks_return}
use Rattle.audit_node.proofs.PlayLemmas.{setting-me}

pub and-on : (a b : Bool) → a ≡ true → (a && b) ≡ b
and-on true b on = refl
and-on false b on = absurd (false≢true on)

pub and-off : (a b : Bool) → a ≡ false → (a && b) ≡ false
and-off true b off = absurd (false≢true (sym off))
and-off false b off = refl

-- ---- how far the epoch may rise

pub rise-any : (heal : Option Heal) (n : Node) → heal ≡ None → true ≡ may_rise heal n
rise-any heal n none = rw none refl

pub rise-free : (heal : Option Heal) (n : Node) (h : Heal) (most : ℕ) → heal ≡ Some h → most ≡ h.most → nat_eq most 0 ≡ true
    → nat_eq most 0 ≡ may_rise heal n
rise-free heal n h most is same free = rw (is, sym same, free) refl

below-most : (e since most : ℕ) → nat_eq most 0 ≡ false → nat_lt (e - since) most ≡ nat_lt e (since + most)
below-most e since most some = grind (arith, nat_tests, some)

pub rise-below : (heal : Option Heal) (n : Node) (h : Heal) (most risen epoch since : ℕ) → heal ≡ Some h → most ≡ h.most
    → nat_eq most 0 ≡ false → risen ≡ epoch - since → epoch ≡ n.stored.epoch → since ≡ n.since
    → nat_lt risen most ≡ may_rise heal n
rise-below heal n h most risen epoch since is same some by at from =
    rw is
    (rw (sym same) (rw some (ap (λ (k : ℕ). nat_lt k most) by ∙ below-most epoch since most some ∙ ap (λ (k : ℕ). nat_lt k (since + most)) at ∙ ap (λ (k : ℕ). nat_lt n.stored.epoch (k + most)) from)))

-- ---- signatures

verifies-is : (s : Setting) (v : Kept) (n : Node) (key : Key) (r : Record) → IsMirror s v n
    → s.verifies key r ≡ is_ok (verdict_of key (signed_bytes v.group.tag v.group.t r.body) r.signature)
unfolding setting_with
verifies-is s v n key r is = ap (λ (x : Setting). x.verifies key r) is.setting

pub verifies-by : (s : Setting) (v : Kept) (n : Node) (m : ℕ) (r : Record) (cert : CertBody) → IsMirror s v n
    → kept_certificate v.roster m ≡ Some cert
    → is_ok (verdict_of cert.key (signed_bytes v.group.tag v.group.t r.body) r.signature) ≡ verifies_for s n m r
verifies-by s v n m r cert is known =
    sym (verifies-is s v n cert.key r is)
    ∙ ap (λ o. option_map_or (λ key. s.verifies key r) (option_map (λ (c : CertBody). c.key) o) false) (sym known ∙ is.roster m)

pub verifies-none : (s : Setting) (v : Kept) (n : Node) (m : ℕ) (r : Record) → IsMirror s v n → kept_certificate v.roster m ≡ None
    → false ≡ verifies_for s n m r
verifies-none s v n m r is unknown =
    ap (λ o. option_map_or (λ key. s.verifies key r) (option_map (λ (c : CertBody). c.key) o) false) (sym unknown ∙ is.roster m)

-- ---- the place

-- an accusation that is refused for its place is of the epoch of the newest note
placed-under : (f : Facts) (a : AccBody) (own : NoteBody) → is_placed (fault_under f a (Some own)) ≡ true
    → eqb own.epoch a.epoch ≡ true
placed-under f a own placed = by (eqb own.epoch a.epoch) _ placed
  where
    by : (same : Bool) (later : Option Fault) → is_placed (cond (not same) (Some (faults.OtherEpoch own.epoch)) later) ≡ true
        → same ≡ true
    by true later placed = refl
    by false later placed = absurd (false≢true placed)

skip : (b : Bool) (f : Fault) (later : Option Fault) → is_of_place f ≡ false → is_placed (cond b (Some f) later) ≡ true
    → is_placed later ≡ true
skip true f later other placed = absurd (false≢true (sym other ∙ placed))
skip false f later other placed = placed

pub placed-epoch : (t : ℕ) (f : Facts) (a : AccBody) (own : NoteBody) → f.newest_note ≡ Some own
    → is_placed (accusation_fault_by t f a) ≡ true → own.epoch ≡ a.epoch
placed-epoch t f a own newest placed =
    let one = skip (not f.both_joined) faults.UnknownMember _ refl placed in
    let two = skip (eqb a.accuser a.accused) faults.SelfAccusation _ refl one in
    let three = skip (leb (ring_count t) a.ring.0) faults.BadRing _ refl two in
    eqb-true own.epoch a.epoch (placed-under f a own (subst (λ o. is_placed (fault_under f a o) ≡ true) newest three))

-- against the node, on a ring that its mask enables
pub against-is : (must : Bool) (own : NoteBody) (a : AccBody) → ((must ≡ true) ↔ IsAgainst own a)
    → (a.accused ≡ own.member → own.epoch ≡ a.epoch) → must ≡ (eqb a.accused own.member && enables own.mask.0 a.ring.0)
against-is true own a h epoch =
    let against = h.0 refl in
    sym (rw (eq-eqb a.accused own.member against.member) against.ring)
against-is false own a h epoch =
    elim (cases_Bool (eqb a.accused own.member)) [
      | inl who ↦
          elim (cases_Bool (enables own.mask.0 a.ring.0)) [
            | inl on ↦
                let same : a.accused ≡ own.member = eqb-true a.accused own.member who in
                absurd (false≢true (h.1 (record { member = same; epoch = sym (epoch same); ring = on })))
            | inr off ↦ rw who (sym off)
          ]
      | inr other ↦ sym (and-off _ _ other)
    ]

misplaced-then : (s : Setting) (n : Node) (a : AccBody) → is_placed (accusation_fault s.group.t (state_of s n) a) ≡ true
    → is_misplaced s n a ≡ (eqb a.accused s.me && enables n.stored.mask.0 a.ring.0)
misplaced-then s n a placed = and-on _ _ placed

pub misplaced-is : (s : Setting) (v : Kept) (n : Node) (a : AccBody) (fault : Option Fault) (must : Bool) (own : NoteBody)
    → IsMirror s v n → fault ≡ accusation_fault s.group.t (state_of s n) a → is_placed fault ≡ true
    → own ≡ own_note v.me v.stored → ((must ≡ true) ↔ IsAgainst own a) → (a.accused ≡ v.me → own.epoch ≡ a.epoch)
    → must ≡ is_misplaced s n a
misplaced-is s v n a fault must own is same placed mine h epoch =
    let me : v.me ≡ s.me = sym (setting-me s v n is) in
    let member : own.member ≡ v.me = ap (λ (x : NoteBody). x.member) mine in
    against-is must own a h (λ who. epoch (who ∙ member))
    ∙ ap (λ (m : ℕ). eqb a.accused m && enables own.mask.0 a.ring.0) (member ∙ me)
    ∙ ap (λ (k : ℕ). eqb a.accused s.me && enables k a.ring.0)
    (ap (λ (x : NoteBody). x.mask.0) mine ∙ ap (λ (x : Stored). x.mask.0) is.stored)
    ∙ sym (misplaced-then s n a (ap is_placed (sym same) ∙ placed))

pub misplaced-not : (s : Setting) (n : Node) (a : AccBody) (fault : Option Fault)
    → fault ≡ accusation_fault s.group.t (state_of s n) a → is_placed fault ≡ false → false ≡ is_misplaced s n a
misplaced-not s n a fault same placed = sym (and-off _ _ (ap is_placed (sym same) ∙ placed))

-- ---- the record

-- heal, may rise, placed, against, enabled, verifies
all-six : (h m p a e v : Bool) (note : NoteBody)
    → (((h && m) && (p && (a && e))) && v) ≡ is_some (cond (a && m) (cond (h && p && e && v) (Some note) None) None)
all-six true true true true true true note = refl
all-six true true true true true false note = refl
all-six true true true true false v note = refl
all-six true true true false e v note = refl
all-six true true false true e v note = refl
all-six true true false false e v note = refl
all-six true false p true e v note = refl
all-six true false p false e v note = refl
all-six false m p true e v note = none m
  where
    none : (m : Bool) → false ≡ is_some (cond (true && m) (cond false (Some note) None) None)
    none true = refl
    none false = refl
all-six false m p false e v note = refl

not-told : (h m p a e v : Bool) → p ≡ false → (((h && m) && (p && (a && e))) && v) ≡ false
not-told h m p a e v off = rw off (by (h && m))
  where
    by : (b : Bool) → ((b && false) && v) ≡ false
    by true = refl
    by false = refl

unplaced : (s : Setting) (n : Node) (f : Fault) (a : AccBody) (r : Record) → is_of_place f ≡ false
    → is_some (asked_with s n (Some f) (Accusation a) r) ≡ false
unplaced s n f a r other =
    let note : NoteBody = returning_note s n.stored in
    sym
    (all-six (is_some s.heal) (may_rise s.heal n) (is_of_place f) (eqb a.accused s.me) (enables n.stored.mask.0 a.ring.0) (verifies_for s n a.accuser r) note)
    ∙ not-told (is_some s.heal) (may_rise s.heal n) (is_of_place f) (eqb a.accused s.me) (enables n.stored.mask.0 a.ring.0)
    (verifies_for s n a.accuser r) other

by-signature : (s : Setting) (n : Node) (a : AccBody) (r : Record) (key : Option Key) → r.body ≡ Accusation a
    → asks_return s n (signature_fault s.verifies key r) r ≡ false
by-signature s n a r None is =
    ap (λ b. is_some (asked_with s n (Some faults.UnknownMember) b r)) is ∙ unplaced s n faults.UnknownMember a r refl
by-signature s n a r (Some key) is = by (s.verifies key r)
  where
    by : (good : Bool) → asks_return s n (cond good None (Some faults.BadSignature)) r ≡ false
    by true = refl
    by false = ap (λ b. is_some (asked_with s n (Some faults.BadSignature) b r)) is ∙ unplaced s n faults.BadSignature a r refl

by-fault : (s : Setting) (n : Node) (a : AccBody) (r : Record) (key : Option Key) (fault : Option Fault) → r.body ≡ Accusation a
    → (((is_some s.heal && may_rise s.heal n) && (is_placed fault && (eqb a.accused s.me && enables n.stored.mask.0 a.ring.0))) && verifies_for s n a.accuser r)
    ≡ asks_return s n (option_or fault (signature_fault s.verifies key r)) r
by-fault s n a r key None is =
    not-told (is_some s.heal) (may_rise s.heal n) false (eqb a.accused s.me) (enables n.stored.mask.0 a.ring.0)
    (verifies_for s n a.accuser r) refl
    ∙ sym (by-signature s n a r key is)
by-fault s n a r key (Some f) is =
    all-six (is_some s.heal) (may_rise s.heal n) (is_of_place f) (eqb a.accused s.me) (enables n.stored.mask.0 a.ring.0)
    (verifies_for s n a.accuser r) (returning_note s n.stored)
    ∙ ap (λ b. is_some (asked_with s n (Some f) b r)) (sym is)

pub asks-is : (s : Setting) (n : Node) (a : AccBody) (r : Record) → r.body ≡ Accusation a
    → (((is_some s.heal && may_rise s.heal n) && is_misplaced s n a) && verifies_for s n a.accuser r) ≡ asks_return s n (refusal s n r) r
unfolding refusal
asks-is s n a r is =
    by-fault s n a r (public_key_of n a.accuser) (accusation_fault s.group.t (state_of s n) a) is
    ∙ ap (λ b. asks_return s n (refusal_of s n r b) r) (sym is)

-- no other record asks one
pub asks-none : (s : Setting) (n : Node) (b : Body) (r : Record) (fault : Option Fault) → r.body ≡ b
    → ((a : AccBody) → b ≡ Accusation a → ⊥) → asks_return s n fault r ≡ false
asks-none s n b r None is other = refl
asks-none s n (Certificate x) r (Some f) is other = ap (λ b. is_some (asked_with s n (Some f) b r)) is
asks-none s n (Note x) r (Some f) is other = ap (λ b. is_some (asked_with s n (Some f) b r)) is
asks-none s n (Accusation a) r (Some f) is other = absurd (other a refl)
