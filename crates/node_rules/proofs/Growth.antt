-- Over a life the newest note of a member only grows, and a certificate stays.
use Rattle.std.proofs.Common.{◌≡◌, ℕ, eqb, cond, inl, inr, List, [], ◌∷◌, ◌++◌, Option, Some, None, refl, ap, sym, ◌∙◌, subst, map}
use Rattle.std.specs.Prelude.{fold, option_map}
use Rattle.std.specs.Option.{option_and_then}
use Rattle.std.specs.Ordering.{eq_by_cmp}
use Rattle.std.proofs.lemmas.Bool.{cond_both, cases_Bool}
use Rattle.ff_ids.specs.declared.AccBody.{AccBody}
use Rattle.ff_ids.specs.declared.NoteBody.{NoteBody}
use Rattle.ff_ids.specs.declared.Group.{Group}
use Rattle.ff_ids.specs.declared.Fault.{Fault}
use Rattle.ff_ids.specs.declared.summary.RecordKey.{RecordKey}
use Rattle.ff_ids.specs.declared.summary.RecordKey.TheVariants as keys
use Rattle.ff_ids.specs.Views.{State, is_member}
use Rattle.ff_ids.specs.Faults.{note_fault, accusation_fault}
use Rattle.ff_ids.specs.Steps.{Event, Joins, Notes, Accuses, Ticks, Stepped, joined, after_note, after_accusation, unchanged, unless_fault, step}
use Rattle.life_laws.proofs.NoteLemmas.{below, below-itself, not_below-trans}
use Rattle.records.specs.declared.CertBody.{CertBody}
use Rattle.records.specs.declared.Body.{Body}
use Rattle.records.specs.declared.Body.TheVariants.{Certificate, Note, Accusation}
use Rattle.records.specs.declared.Record.{Record}
use Rattle.record_set.specs.Held.{key_cmp, key_of}
use Rattle.record_set.proofs.KeyLemmas.{is_key-true}
use Rattle.datagram.specs.declared.Datagram.{Datagram}
use Rattle.detector.specs.Silence.{History}
use Rattle.validate.specs.Table.{certificate_fault, signature_fault}
use Rattle.node_rules.specs.Nodes.{Setting, Node, Holding, state_of, event_of, with_record, without, without_removal, key_of_accusation, certificate_in, certificate_of}
use Rattle.node_rules.specs.Refusals.{refusal, refusal_of}
use Rattle.node_rules.specs.Calls.{Call, lives, takes, spends, signs, sends, own_record}
use Rattle.node_rules.specs.Deliveries.{answer_to, returning_note}
use Rattle.node_rules.specs.Leaving.{leaving}
use Rattle.node_rules.specs.Lives.{Input, call_of, after_calls}
use Rattle.node_rules.specs.OneExchange.{IsKnownAmong}
use Rattle.node_rules.proofs.Small.{state_of-lives, state-takes, state-signs}
use Rattle.node_rules.proofs.Retiring.{IsPlain, retires-plain}
use Rattle.node_rules.proofs.OwnNote.{option_or-none}
use Rattle.node_rules.proofs.Keeping.{Keeps, keeps-call}

-- ---- notes

pub known-itself : (m : ℕ) (notes : List NoteBody) → IsKnownAmong m notes notes
known-itself m notes = λ note is. record { kept = note; is_newest = is; not_less = below-itself note }

pub known-then : (m : ℕ) (xs ys zs : List NoteBody) → IsKnownAmong m xs ys → IsKnownAmong m ys zs → IsKnownAmong m xs zs
known-then m xs ys zs first second =
    λ note is.
    let h = first note is in
    let k = second h.kept h.is_newest in
    record { kept = k.kept; is_newest = k.is_newest; not_less = not_below-trans k.kept h.kept note k.not_less h.not_less }

pub known-more : (m : ℕ) (x : NoteBody) (notes : List NoteBody) → IsKnownAmong m notes (x ∷ notes)
known-more m x notes =
    λ note is.
    elim (cases_Bool (eqb x.member m)) [
      | inl same ↦ elim (cases_Bool (below x note)) [
        | inl less ↦ record { kept = note; is_newest = rw (same, is, less) refl; not_less = below-itself note }
        | inr more ↦ record { kept = x; is_newest = rw (same, is, more) refl; not_less = more }
      ]
      | inr other ↦ record { kept = note; is_newest = rw other is; not_less = below-itself note }
    ]

known-unless : (m : ℕ) (st : State) (fault : Option Fault) (next : Stepped) → IsKnownAmong m st.notes next.state.notes → IsKnownAmong m st.notes (unless_fault fault st next).state.notes
known-unless m st (Some fault) next h = known-itself m st.notes
known-unless m st None next h = h

known-step : (m : ℕ) (g : Group) (st : State) (e : Event) → IsKnownAmong m st.notes (step g st e).state.notes
known-step m g st (Joins number places) =
    cond_both (is_member st number) (unchanged st) (unchanged (joined st number places)) (λ x. IsKnownAmong m st.notes x.state.notes) (λ yes. known-itself m st.notes) (λ no. known-itself m st.notes)
known-step m g st (Notes n) = known-unless m st (note_fault g.t st n) (after_note st n) (known-more m n st.notes)
known-step m g st (Accuses a) = known-unless m st (accusation_fault g.t st a) (unchanged (after_accusation st a)) (known-itself m st.notes)
known-step m g st Ticks = known-itself m st.notes

-- ---- what becomes of removals leaves the other keys

without-plain : (held : Holding) (m : ℕ) (k : RecordKey) → IsPlain k → without held (keys.Removal m) k ≡ held k
without-plain held m (keys.Certificate x) plain = refl
without-plain held m (keys.Note x) plain = refl
without-plain held m (keys.Accusation x ring) plain = refl
without-plain held m (keys.Removal x) plain = absurd plain

pub removal-plain : (b : Body) (held : Holding) (k : RecordKey) → IsPlain k → without_removal b held k ≡ held k
removal-plain (Certificate c) held k plain = refl
removal-plain (Note n) held k plain = without-plain held n.member k plain
removal-plain (Accusation a) held k plain = refl

-- ---- what is held of certificates and notes: no step drops it

abbrev pub IsLasting : RecordKey → Type 0
IsLasting (keys.Certificate m) = Unit {0}
IsLasting (keys.Note m) = Unit {0}
IsLasting (keys.Accusation m ring) = ⊥
IsLasting (keys.Removal m) = ⊥

lasting-plain : (k : RecordKey) → IsLasting k → IsPlain k
lasting-plain (keys.Certificate m) lasting = tt
lasting-plain (keys.Note m) lasting = tt
lasting-plain (keys.Accusation m ring) lasting = tt
lasting-plain (keys.Removal m) lasting = absurd lasting

without-lasting : (held : Holding) (a : AccBody) (k : RecordKey) → IsLasting k → without held (key_of_accusation a) k ≡ held k
without-lasting held a (keys.Certificate m) lasting = refl
without-lasting held a (keys.Note m) lasting = refl
without-lasting held a (keys.Accusation m ring) lasting = absurd lasting
without-lasting held a (keys.Removal m) lasting = absurd lasting

fold-lasting : (gone : List AccBody) (held : Holding) (k : RecordKey) → IsLasting k → fold without held (map key_of_accusation gone) k ≡ held k
fold-lasting [] held k lasting = refl
fold-lasting (a ∷ gone) held k lasting = fold-lasting gone (without held (key_of_accusation a)) k lasting ∙ without-lasting held a k lasting

pub held-lives : (s : Setting) (e : Event) (c : Call) (k : RecordKey) → IsLasting k → (lives s e c).node.held k ≡ c.node.held k
unfolding lives
held-lives s e c k lasting =
    let report = (step s.group (state_of s c.node) e).report in
    retires-plain s.heal report c.node.held k (lasting-plain k lasting) ∙ fold-lasting (report.expired ++ report.fell) c.node.held k lasting

pub held-takes : (s : Setting) (r : Record) (c : Call) (k : RecordKey) → IsLasting k → (takes s r c).node.held k ≡ with_record r c.node.held k
unfolding takes
held-takes s r c k lasting =
    ap (λ o. cond (eq_by_cmp key_cmp k (key_of r.body)) (Some r) o)
    (removal-plain r.body (lives s (event_of s r.body) c).node.held k (lasting-plain k lasting) ∙ held-lives s (event_of s r.body) c k lasting)

pub held-signs : (s : Setting) (b : Body) (c : Call) (k : RecordKey) → IsLasting k → (signs s b c).node.held k ≡ with_record (own_record s c.node b) c.node.held k
unfolding signs
held-signs s b c k lasting = held-takes s (own_record s c.node b) (spends s b c) k lasting

-- ---- certificates

abbrev pub certificate_at : Holding → ℕ → Option CertBody
certificate_at held m = option_and_then (λ r. certificate_in r.body) (held (keys.Certificate m))

-- A record that is no certificate of the member leaves that.
pub certificate-stays : (r : Record) (held : Holding) (b : Body) (m : ℕ) → r.body ≡ b → ((x : CertBody) → b ≡ Certificate x → x.member ≡ m → ⊥)
    → certificate_at (with_record r held) m ≡ certificate_at held m
certificate-stays r held (Note note) m is free = rw is refl
certificate-stays r held (Accusation a) m is free = rw is refl
certificate-stays r held (Certificate x) m is free =
    elim (cases_Bool (eq_by_cmp key_cmp (keys.Certificate m) (keys.Certificate x.member))) [
      | inl same ↦ absurd (free x refl (number (is_key-true _ _ same)))
      | inr apart ↦ rw (is, apart) refl
    ]
  where
    number : keys.Certificate m ≡ keys.Certificate x.member → x.member ≡ m
    number e = cc

pub certificate-takes : (s : Setting) (r : Record) (c : Call) (m : ℕ) → ((x : CertBody) → r.body ≡ Certificate x → x.member ≡ m → ⊥) → certificate_of (takes s r c).node m ≡ certificate_of c.node m
unfolding certificate_of
certificate-takes s r c m free =
    ap (option_and_then (λ x. certificate_in x.body)) (held-takes s r c (keys.Certificate m) tt) ∙ certificate-stays r c.node.held r.body m refl free

map-none : {X Y : Type 0} (f : X → Y) (o : Option X) → option_map f o ≡ None → o ≡ None
map-none f None h = refl
map-none f (Some x) h = cc

-- Of whom a certificate is accepted, none was kept.
pub none-kept : (s : Setting) (n : Node) (r : Record) (x : CertBody) → refusal s n r ≡ None → r.body ≡ Certificate x → certificate_of n x.member ≡ None
unfolding refusal
none-kept s n r x fine is =
    map-none _ (certificate_of n x.member) (option_or-none (certificate_fault (certificate_of n x.member) x) (signature_fault s.verifies (Some s.authority) r) (sym (ap (refusal_of s n r) is) ∙ fine)).0

-- ---- a life goes on

-- The newest notes of the second are at least those of the first, and its certificates are among those of the second.
pub record Follows (s : Setting) (earlier n : Node) : Type 0 where
  pub notes : (m : ℕ) → IsKnownAmong m (state_of s earlier).notes (state_of s n).notes
  pub certificates : (m : ℕ) (x : CertBody) → certificate_of earlier m ≡ Some x → certificate_of n m ≡ Some x

pub follows-itself : (s : Setting) (n : Node) → Follows s n n
follows-itself s n = record { notes = λ m. known-itself m (state_of s n).notes; certificates = λ m x is. is }

-- One more event, and certificates that stay.
follows-step : (s : Setting) (earlier n later : Node) (e : Event) → state_of s later ≡ (step s.group (state_of s n) e).state → ((m : ℕ) (x : CertBody) → certificate_of n m ≡ Some x → certificate_of later m ≡ Some x)
    → Follows s earlier n → Follows s earlier later
follows-step s earlier n later e at stay h =
    record {
      notes = λ m. known-then m (state_of s earlier).notes (state_of s n).notes (state_of s later).notes (h.notes m)
          (subst (λ st. IsKnownAmong m (state_of s n).notes st.notes) (sym at) (known-step m s.group (state_of s n) e));
      certificates = λ m x is. stay m x (h.certificates m x is);
    }

some-none : {X : Type 0} (x : X) (o : Option X) → o ≡ None → o ≡ Some x → ⊥
some-none x o none some = cc

follows-takes : (s : Setting) (earlier : Node) (r : Record) (c : Call) → refusal s c.node r ≡ None → Follows s earlier c.node → Follows s earlier (takes s r c).node
follows-takes s earlier r c fine h =
    follows-step s earlier c.node (takes s r c).node (event_of s r.body) (state-takes s r c)
    (λ m x is. certificate-takes s r c m (λ y body who. some-none x (certificate_of c.node m) (sym (ap (certificate_of c.node) who) ∙ none-kept s c.node r y fine body) is) ∙ is)
    h

pub certificate-signs : (s : Setting) (b : Body) (c : Call) (m : ℕ) → ((x : CertBody) → b ≡ Certificate x → ⊥) → certificate_of (signs s b c).node m ≡ certificate_of c.node m
unfolding certificate_of
certificate-signs s b c m other =
    ap (option_and_then (λ x. certificate_in x.body)) (held-signs s b c (keys.Certificate m) tt) ∙ certificate-stays (own_record s c.node b) c.node.held b m refl (λ x is who. other x is)

pub follows-signs : (s : Setting) (earlier : Node) (b : Body) (c : Call) → ((x : CertBody) → b ≡ Certificate x → ⊥) → Follows s earlier c.node → Follows s earlier (signs s b c).node
follows-signs s earlier b c other h =
    follows-step s earlier c.node (signs s b c).node (event_of s b) (state-signs s b c) (λ m x is. certificate-signs s b c m other ∙ is) h

pub note-is_none : (n : NoteBody) (x : CertBody) → Note n ≡ Certificate x → ⊥
note-is_none n x e = cc

pub accusation-is_none : (a : AccBody) (x : CertBody) → Accusation a ≡ Certificate x → ⊥
accusation-is_none a x e = cc

pub certificate-lives : (s : Setting) (e : Event) (c : Call) (m : ℕ) → certificate_of (lives s e c).node m ≡ certificate_of c.node m
unfolding certificate_of
certificate-lives s e c m = ap (option_and_then (λ x. certificate_in x.body)) (held-lives s e c (keys.Certificate m) tt)

follows-ticks : (s : Setting) (earlier : Node) (c : Call) → Follows s earlier c.node → Follows s earlier (lives s Ticks c).node
follows-ticks s earlier c h = follows-step s earlier c.node (lives s Ticks c).node Ticks (state_of-lives s Ticks c) (λ m x is. certificate-lives s Ticks c m ∙ is) h

follows-sends : (s : Setting) (earlier : Node) (d : Datagram) (c : Call) (to : ℕ) → Follows s earlier c.node → Follows s earlier (sends s d c to).node
unfolding sends
follows-sends s earlier d c to h = h

follows-probed : (s : Setting) (earlier n : Node) (p : History) → Follows s earlier n → Follows s earlier (record n { probes = p })
unfolding certificate_of state_of
follows-probed s earlier n p h = record { notes = h.notes; certificates = h.certificates }

follows-spanned : (s : Setting) (earlier n : Node) → Follows s earlier n → Follows s earlier (record n { since = n.stored.epoch })
unfolding certificate_of state_of
follows-spanned s earlier n h = record { notes = h.notes; certificates = h.certificates }

follows-spread : (s : Setting) (earlier n : Node) → Follows s earlier n → Follows s earlier (record n { news = [] })
unfolding certificate_of state_of
follows-spread s earlier n h = record { notes = h.notes; certificates = h.certificates }

pub following : (s : Setting) (earlier : Node) → Keeps s (λ c. Follows s earlier c.node)
following s earlier =
    record {
      told = λ what c other h. h;
      sent = λ d c to h. follows-sends s earlier d c to h;
      taken = λ r c fine h. follows-takes s earlier r c fine h;
      answered = λ r a c fine is me may left h.
          let c1 : Call = takes s r c in
          follows-signs s earlier (answer_to s c1.node.stored a) c1 (λ x e. note-is_none _ x e) (follows-takes s earlier r c fine h);
      returned = λ r a c asks may left h. follows-signs s earlier (Note (returning_note s c.node.stored)) c (note-is_none (returning_note s c.node.stored)) h;
      accused = λ a c by left h. follows-signs s earlier (Accusation a) c (accusation-is_none a) h;
      departed = λ c left h. follows-signs s earlier (leaving s c.node.stored) c (λ x e. note-is_none _ x e) h;
      stopped = λ c h. h;
      passed = λ c h. follows-ticks s earlier c h;
      probed = λ p c h. follows-probed s earlier c.node p h;
      spanned = λ c h. follows-spanned s earlier c.node h;
      spread = λ c h. follows-spread s earlier c.node h;
    }

pub follows-calls : (s : Setting) (earlier n : Node) (inputs : List Input) → Follows s earlier n → Follows s earlier (after_calls s n inputs)
follows-calls s earlier n [] h = h
follows-calls s earlier n (i ∷ inputs) h = follows-calls s earlier (call_of s n i).node inputs (keeps-call s (λ c. Follows s earlier c.node) (following s earlier) n i h)
