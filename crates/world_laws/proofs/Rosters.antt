-- The certificates that a node keeps are the authority's.
use Rattle.std.proofs.Common.{◌≡◌, ℕ, ◌+◌, Bool, true, false, eqb, cond, List, [], ◌∷◌, ◌++◌, Option, Some, None, inl, inr, refl, ap, sym, ◌∙◌, subst, map, arith}
use Rattle.std.specs.Prelude.{fold, option_map, ◌||◌}
use Rattle.std.specs.List.{list_any}
use Rattle.std.specs.Option.{option_and_then}
use Rattle.std.specs.Ordering.{eq_by_cmp}
use Rattle.std.proofs.lemmas.Bool.{cases_Bool, eqb-true, eq-eqb, or_left, or_right}
use Rattle.ff_ids.specs.declared.TheConstants.{MEMBERS}
use Rattle.ff_ids.specs.declared.summary.RecordKey.TheVariants as keys
use Rattle.ff_ids.specs.Views.{all_numbers}
use Rattle.ff_ids.specs.Steps.{Event, Report, step}
use Rattle.life_laws.proofs.Lists.{In, In-filter, In-append_left, any_within}
use Rattle.records.specs.declared.keys.Key.{Key}
use Rattle.records.specs.declared.CertBody.{CertBody}
use Rattle.records.specs.declared.Body.{Body}
use Rattle.records.specs.declared.Body.TheVariants.{Certificate, Note, Accusation}
use Rattle.records.specs.declared.Record.{Record}
use Rattle.record_set.specs.Held.{key_cmp, key_of}
use Rattle.record_set.proofs.KeyLemmas.{is_key-true, is_key-same}
use Rattle.epoch_store.specs.declared.Stored.{Stored}
use Rattle.validate.specs.Table.{certificate_fault, signature_fault}
use Rattle.node_rules.specs.Nodes as node
use Rattle.node_rules.specs.Nodes.{Node, Holding, state_of, event_of, with_record, without_ended, retires, without_removal, certificate_in, certificate_of, public_key_of}
use Rattle.node_rules.specs.Refusals.{refusal, refusal_of}
use Rattle.node_rules.specs.Calls.{Call, begun, lives, takes, spends, signs, own_record}
use Rattle.node_rules.specs.Starting.{blank, opened, first_note, started}
use Rattle.node_rules.specs.Lives.{AreCertificates, is_certificate_for}
use Rattle.node_rules.proofs.OwnNote.{option_or-none}
use Rattle.node_rules.proofs.OwnKey.{ended-certificate, removal-certificate}
use Rattle.node_rules.proofs.Accusations.{In-range}
use Rattle.world_rules.specs.Settings.{Setting, Signed, is_node, nodes, members, record_of, certificate, certified_from, by_authority, certificates}
use Rattle.world_rules.specs.Laws.{IsSetting}
use Rattle.world_laws.specs.Signing.{KeepsRoster}

-- ---- what a step makes of a certificate

abbrev certificate_at : Option Record → Option CertBody
certificate_at o = option_and_then (λ r. certificate_in r.body) o

pub certificate-lives : (s : node.Setting) (e : Event) (c : Call) (k : ℕ) → certificate_of (lives s e c).node k ≡ certificate_of c.node k
unfolding lives certificate_of
certificate-lives s e c k = ap certificate_at (ended-certificate s.heal (step s.group (state_of s c.node) e).report c.node.held k)

-- A record that is no certificate of the number leaves that.
other-record : (r : Record) (held : Holding) (b : Body) (k : ℕ) → r.body ≡ b → ((x : CertBody) → b ≡ Certificate x → x.member ≡ k → ⊥) → certificate_at (with_record r held (keys.Certificate k)) ≡ certificate_at (held (keys.Certificate k))
other-record r held (Note note) k is free = rw is refl
other-record r held (Accusation a) k is free = rw is refl
other-record r held (Certificate x) k is free =
    elim (cases_Bool (eq_by_cmp key_cmp (keys.Certificate k) (keys.Certificate x.member))) [
      | inl same ↦ absurd (free x refl (number (is_key-true _ _ same)))
      | inr apart ↦ rw (is, apart) refl
    ]
  where
    number : keys.Certificate k ≡ keys.Certificate x.member → x.member ≡ k
    number e = cc

its-record : (r : Record) (held : Holding) (x : CertBody) → r.body ≡ Certificate x → certificate_at (with_record r held (keys.Certificate x.member)) ≡ Some x
its-record r held x is =
    ap (λ b. certificate_at (cond b (Some r) (held (keys.Certificate x.member)))) (ap (λ b. eq_by_cmp key_cmp (keys.Certificate x.member) (key_of b)) is ∙ is_key-same (keys.Certificate x.member))
    ∙ ap certificate_in is

pub certificate-takes : (s : node.Setting) (r : Record) (c : Call) (k : ℕ) → ((x : CertBody) → r.body ≡ Certificate x → x.member ≡ k → ⊥) → certificate_of (takes s r c).node k ≡ certificate_of c.node k
unfolding takes lives certificate_of
certificate-takes s r c k free =
    let report : Report = (step s.group (state_of s c.node) (event_of s r.body)).report in
    let ended : Holding = without_ended report (retires s.heal report c.node.held) in
    other-record r (without_removal r.body ended) r.body k refl free
    ∙ ap certificate_at (removal-certificate r.body ended k ∙ ended-certificate s.heal report c.node.held k)

certificate-taken : (s : node.Setting) (r : Record) (c : Call) (x : CertBody) → r.body ≡ Certificate x → certificate_of (takes s r c).node x.member ≡ Some x
unfolding takes lives certificate_of
certificate-taken s r c x is = its-record r (without_removal r.body (lives s (event_of s r.body) c).node.held) x is

pub certificate-signs : (s : node.Setting) (b : Body) (c : Call) (k : ℕ) → ((x : CertBody) → b ≡ Certificate x → ⊥) → certificate_of (signs s b c).node k ≡ certificate_of c.node k
unfolding signs certificate_of
certificate-signs s b c k other = certificate-takes s (own_record s c.node b) (spends s b c) k (λ x is who. other x is)

-- ---- the members of a world

node-numbered : (s : Setting) (m : ℕ) → IsSetting s → is_node s m ≡ true → In all_numbers m
unfolding all_numbers
node-numbered s m fits is = In-range 0 MEMBERS m (omega arith) (omega (arith, fits.numbered m is))

-- Each node is listed among the nodes, and among the members.
pub node-listed : (s : Setting) (m : ℕ) → IsSetting s → is_node s m ≡ true → In (nodes s) m
unfolding nodes
node-listed s m fits is = In-filter (λ k. list_any (λ x. eqb x k) s.correct) all_numbers m (node-numbered s m fits is) is

pub member-listed : (s : Setting) (m : ℕ) → IsSetting s → is_node s m ≡ true → In (members s) m
unfolding members
member-listed s m fits is =
    In-filter (λ k. list_any (λ x. eqb x k) (s.correct ++ s.liars)) all_numbers m (node-numbered s m fits is)
    (any_within (λ x. eqb x m) s.correct (s.correct ++ s.liars) (λ x i. In-append_left s.correct s.liars x i) is)

-- ---- the kit

abbrev certified : Setting → ℕ → List ℕ → List Record
certified s index ms = map (record_of s) (certified_from s index ms)

certified-all : (s : Setting) (index : ℕ) (ms : List ℕ) → AreCertificates (certified s index ms)
certified-all s index [] = tt
certified-all s index (m ∷ ms) = ((certificate s m, refl), certified-all s (index + 1) ms)

certified-own : (s : Setting) (m index : ℕ) (ms : List ℕ) → In ms m → list_any (λ r. is_certificate_for m r.body) (certified s index ms) ≡ true
certified-own s m index [] i = absurd i
certified-own s m index (k ∷ ms) (inl e) = or_left (eqb k m) _ (eq-eqb k m e)
certified-own s m index (k ∷ ms) (inr i) = or_right (eqb k m) _ (certified-own s m (index + 1) ms i)

pub kit-all : (s : Setting) → AreCertificates (certificates s)
unfolding by_authority
kit-all s = certified-all s 0 (members s)

pub kit-own : (s : Setting) (m : ℕ) → IsSetting s → is_node s m ≡ true → list_any (λ r. is_certificate_for m r.body) (certificates s) ≡ true
unfolding by_authority
kit-own s m fits is = certified-own s m 0 (members s) (member-listed s m fits is)

-- ---- a life begins

abbrev takes_all : node.Setting → List Record → Call → Call
takes_all s records c = fold (λ c r. takes s r c) c records

chosen-either : {A : Type 0} (b : Bool) (x y : A) → y ≡ x → cond b x y ≡ x
chosen-either true x y e = refl
chosen-either false x y e = e

roster-takes_all : (s : Setting) (own : node.Setting) (index k : ℕ) (ms : List ℕ) (c : Call)
    → certificate_of (takes_all own (certified s index ms) c).node k ≡ cond (list_any (λ m. eqb m k) ms) (Some (certificate s k)) (certificate_of c.node k)
roster-takes_all s own index k [] c = refl
roster-takes_all s own index k (m ∷ ms) c =
    let x : Signed = record { who = None; index = index; body = Certificate (certificate s m) } in
    let c1 : Call = takes own (record_of s x) c in
    let later = roster-takes_all s own (index + 1) k ms c1 in
    elim (cases_Bool (eqb m k)) [
      | inl same ↦
          let here : certificate_of c1.node k ≡ Some (certificate s k) =
          subst (λ z. certificate_of c1.node z ≡ Some (certificate s z)) (eqb-true m k same) (certificate-taken own (record_of s x) c (certificate s m) refl) in
          later ∙ chosen-either (list_any (λ m. eqb m k) ms) _ _ here ∙ sym (ap (λ b. cond (b || list_any (λ m. eqb m k) ms) (Some (certificate s k)) (certificate_of c.node k)) same)
      | inr apart ↦
          let here : certificate_of c1.node k ≡ certificate_of c.node k = certificate-takes own (record_of s x) c k (λ y is who. clash (eqb m k) (eq-eqb m k (ap (λ (z : CertBody). z.member) (inner _ _ is) ∙ who)) apart) in
          later ∙ ap (cond (list_any (λ m. eqb m k) ms) (Some (certificate s k))) here ∙ sym (ap (λ b. cond (b || list_any (λ m. eqb m k) ms) (Some (certificate s k)) (certificate_of c.node k)) apart)
    ]
  where
    clash : (b : Bool) → b ≡ true → b ≡ false → ⊥
    clash b e f = cc

    inner : (x y : CertBody) → Certificate x ≡ Certificate y → x ≡ y
    inner x y e = cc

roster-opened : (s : Setting) (own : node.Setting) (nonces : ℕ → ℕ) (kept : Stored) → KeepsRoster s (opened own nonces (certificates s) kept).node
unfolding by_authority certificate_of
roster-opened s own nonces kept = λ k. roster-takes_all s own 0 k (members s) (begun (blank own nonces kept))

pub roster-started : (s : Setting) (own : node.Setting) (nonces : ℕ → ℕ) (kept : Stored) → KeepsRoster s (started own nonces (certificates s) kept).node
unfolding started
roster-started s own nonces kept =
    λ k. certificate-signs own (first_note own kept) (opened own nonces (certificates s) kept) k (λ x e. note-is_none x e) ∙ roster-opened s own nonces kept k
  where
    note-is_none : (x : CertBody) → first_note own kept ≡ Certificate x → ⊥
    note-is_none x e = cc

-- ---- what follows from the roster

key-of_entry : (s : Setting) (k : ℕ) (listed : Bool) (key : Key) → option_map (λ c. c.key) (cond listed (Some (certificate s k)) None) ≡ Some key → key ≡ s.key (Some k)
key-of_entry s k true key e = some-is _ _ e
  where
    some-is : (x y : Key) → Some x ≡ Some y → y ≡ x
    some-is x y e = cc
key-of_entry s k false key e = cc

pub roster-key : (s : Setting) (n : Node) (k : ℕ) (key : Key) → KeepsRoster s n → public_key_of n k ≡ Some key → key ≡ s.key (Some k)
roster-key s n k key keeps e = key-of_entry s k (list_any (λ m. eqb m k) (members s)) key (sym (ap (λ o. option_map (λ c. c.key) o) (keeps k)) ∙ e)

map-none : {X Y : Type 0} (f : X → Y) (o : Option X) → option_map f o ≡ None → o ≡ None
map-none f None h = refl
map-none f (Some x) h = cc

unlisted : (s : Setting) (k : ℕ) (listed : Bool) → cond listed (Some (certificate s k)) None ≡ None → listed ≡ false
unlisted s k true e = cc
unlisted s k false e = refl

-- A certificate that is accepted is of a number for which there is none.
pub accepted-unlisted : (s : Setting) (own : node.Setting) (n : Node) (r : Record) (x : CertBody) → KeepsRoster s n → refusal own n r ≡ None → r.body ≡ Certificate x → list_any (λ m. eqb m x.member) (members s) ≡ false
unfolding refusal
accepted-unlisted s own n r x keeps fine is =
    let none : certificate_of n x.member ≡ None = map-none _ (certificate_of n x.member) (option_or-none (certificate_fault (certificate_of n x.member) x) (signature_fault own.verifies (Some own.authority) r) (sym (ap (refusal_of own n r) is) ∙ fine)).0 in
    unlisted s x.member (list_any (λ m. eqb m x.member) (members s)) (sym (keeps x.member) ∙ none)
