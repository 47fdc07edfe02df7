-- Whose removal a node holds is out of its view.
use Rattle.std.proofs.Common.{◌≡◌, ◌⊎◌, ℕ, ◌+◌, Bool, true, false, eqb, cond, arith, inl, inr, List, [], ◌∷◌, ◌++◌, Option, Some, None, refl, ap, sym, ◌∙◌, subst, map, filter}
use Rattle.std.specs.Prelude.{◌&&◌, nat_le, fold}
use Rattle.std.specs.Option.{option_map_or}
use Rattle.std.specs.Ordering.{eq_by_cmp}
use Rattle.std.proofs.lemmas.Bool.{cond_both, cases_Bool, eqb-true, eq-eqb, false≢true, and_parts, and_from, false_from_ne_true}
use Rattle.std.proofs.lemmas.Bool.Decides.{nat_tests}
use Rattle.ff_ids.specs.declared.AccBody.{AccBody}
use Rattle.ff_ids.specs.declared.Group.{Group}
use Rattle.ff_ids.specs.declared.Fault.{Fault}
use Rattle.ff_ids.specs.declared.summary.RecordKey.{RecordKey}
use Rattle.ff_ids.specs.declared.summary.RecordKey.TheVariants as keys
use Rattle.ff_ids.specs.Heals.{Heal}
use Rattle.ff_ids.specs.Notes.{greater_note, newest}
use Rattle.ff_ids.specs.Views.{State, has_expired, viewed_by, in_view, is_member, is_unanswered_by, stands}
use Rattle.ff_ids.specs.Faults.{note_fault, accusation_fault}
use Rattle.ff_ids.specs.Steps.{Event, Joins, Notes, Accuses, Ticks, Report, Stepped, joined, is_due, after_note, after_accusation, unchanged, unless_fault, step}
use Rattle.ff_ids.proofs.ViewLemmas.{not_expired}
use Rattle.life_laws.proofs.Lists.{In, In-from_filter, In-from_map, In-append_left, any_from_In}
use Rattle.life_laws.proofs.NoteLemmas.{newest-fits}
use Rattle.life_laws.proofs.ViewLemmas.{IsViewed-from, IsStanding, IsStanding-from}
use Rattle.life_laws.proofs.StepLemmas.{AllStand}
use Rattle.membership.proofs.TouchLemmas.{fewer-expired}
use Rattle.records.specs.declared.Body.{Body}
use Rattle.records.specs.declared.Body.TheVariants.{Certificate, Note, Accusation}
use Rattle.records.specs.declared.Record.{Record}
use Rattle.record_set.specs.Held.{key_cmp, key_of}
use Rattle.record_set.proofs.KeyLemmas.{is_key-true, is_key-same}
use Rattle.epoch_store.specs.declared.Stored.{Stored}
use Rattle.datagram.specs.declared.Datagram.{Datagram}
use Rattle.detector.specs.Silence.{History}
use Rattle.node_rules.specs.Nodes.{Setting, Node, Holding, state_of, event_of, with_record, moved, retires, without_removal}
use Rattle.node_rules.specs.Calls.{Call, begun, lives, takes, spends, signs, sends, own_record}
use Rattle.node_rules.specs.Starting.{blank, opened, started, first_note}
use Rattle.node_rules.specs.Lives.{Input, call_of, after_calls, life_of}
use Rattle.node_rules.proofs.Small.{state_of-lives}
use Rattle.node_rules.proofs.OwnNote.{IsNotOwn}
use Rattle.node_rules.proofs.Accusations.{lively}
use Rattle.node_rules.proofs.Keeping.{Keeps, keeps-call}
use Rattle.node_rules.proofs.Upholding.{none_some, kept-without_all}
use Rattle.node_rules.proofs.Correctness.{takes_all}

-- ---- what a step does to the view

unless-back : (st : State) (m : ℕ) (fault : Option Fault) (next : Stepped) → (in_view next.state m ≡ true → in_view st m ≡ true)
    → in_view (unless_fault fault st next).state m ≡ true → in_view st m ≡ true
unless-back st m (Some fault) next h = λ v. v
unless-back st m None next h = h

-- A member enters by a note of its own alone.
back : (g : Group) (st : State) (e : Event) (m : ℕ) → IsNotOwn m e → in_view (step g st e).state m ≡ true → in_view st m ≡ true
back g st (Joins number places) m other =
    cond_both (is_member st number) (unchanged st) (unchanged (joined st number places)) (λ x. in_view x.state m ≡ true → in_view st m ≡ true)
    (λ old v. v) (λ new v. v)
back g st (Notes n) m other =
    unless-back st m (note_fault g.t st n) (after_note st n)
    (λ v. sym (ap (λ b. viewed_by st.expired (cond b (Some (greater_note n (newest st.notes m))) (newest st.notes m))) other) ∙ v)
back g st (Accuses a) m other = unless-back st m (accusation_fault g.t st a) (unchanged (after_accusation st a)) (λ v. v)
back g st Ticks m other = λ v. fewer-expired st (map (λ p. p.0) (filter (is_due g.timeout (st.moment + 1)) st.kept)) m v

unless-expired : (fault : Option Fault) (st : State) (next : Stepped) (a : AccBody) → (In next.report.expired a → ⊥)
    → In (unless_fault fault st next).report.expired a → ⊥
unless-expired (Some fault) st next a none i = i
unless-expired None st next a none i = none i

no_less : (x y : ℕ) → eqb x y ≡ true → nat_le x y ≡ true
no_less x y e = grind (arith, nat_tests, e)

-- An accusation that expires takes its accused out.
expires-out : (g : Group) (st : State) (e : Event) (a : AccBody) (m : ℕ) → AllStand st
    → In (step g st e).report.expired a → a.accused ≡ m → in_view (step g st e).state m ≡ true → ⊥
expires-out g st (Joins number places) a m stand i who v =
    cond_both (is_member st number) (unchanged st) (unchanged (joined st number places)) (λ x. In x.report.expired a → ⊥)
    (λ old i. i) (λ new i. i) i
expires-out g st (Notes n) a m stand i who v = unless-expired (note_fault g.t st n) st (after_note st n) a (λ j. j) i
expires-out g st (Accuses x) a m stand i who v =
    unless-expired (accusation_fault g.t st x) st (unchanged (after_accusation st x)) a (λ j. j) i
expires-out g st Ticks a m stand i who v =
    let late : AccBody × ℕ → Bool = is_due g.timeout (st.moment + 1) in
    let due : List AccBody = map (λ p. p.0) (filter late st.kept) in
    let q = In-from_map (λ (p : AccBody × ℕ). p.0) (filter late st.kept) a i in
    let stood : stands st q.0.0 ≡ true = stand q.0 (In-from_filter late st.kept q.0 q.1.0).0 in
    let standing : IsStanding st a = IsStanding-from st a (subst (λ (x : AccBody). stands st x ≡ true) q.1.1 stood) in
    let w = IsViewed-from (step g st Ticks).state m v in
    let here : newest st.notes a.accused ≡ Some w.note = ap (newest st.notes) who ∙ w.is_newest in
    let unanswered : is_unanswered_by a w.note ≡ true = sym (ap (λ o. option_map_or (is_unanswered_by a) o false) here) ∙ standing.unanswered in
    let epoch : nat_le w.note.epoch a.epoch ≡ true = no_less w.note.epoch a.epoch (and_parts _ _ unanswered).0 in
    let own : w.note.member ≡ m = (newest-fits st.notes m w.note w.is_newest).1 in
    let member : eqb a.accused w.note.member ≡ true = eq-eqb a.accused w.note.member (who ∙ sym own) in
    let gone : has_expired (due ++ st.expired) w.note ≡ true =
    any_from_In (λ x. (eqb x.accused w.note.member) && nat_le w.note.epoch x.epoch) (due ++ st.expired) a
    (In-append_left due st.expired a i) (and_from _ _ member epoch) in
    false≢true (sym (not_expired w.note (has_expired (due ++ st.expired) w.note) w.shown) ∙ gone)

-- ---- how a removal comes to be held

-- It was held, or the accusation expired.
abbrev WasRemoved : Holding → List AccBody → ℕ → Record → Type 0
WasRemoved held expired m r = (held (keys.Removal m) ≡ Some r) ⊎ ((a : AccBody) × (In expired a × (a.accused ≡ m)))

number : (a b : ℕ) → keys.Removal a ≡ keys.Removal b → b ≡ a
number a b e = cc

removed-all : (gone : List AccBody) (held : Holding) (m : ℕ) (r : Record) → fold moved held gone (keys.Removal m) ≡ Some r
    → WasRemoved held gone m r
removed-all [] held m r h = inl h
removed-all (a ∷ gone) held m r h =
    elim (removed-all gone (moved held a) m r h) [
      | inr later ↦ inr (later.0, (inr later.1.0, later.1.1))
      | inl before ↦ elim (cases_Bool (eq_by_cmp key_cmp (keys.Removal m) (keys.Removal a.accused))) [
        | inl same ↦ inr (a, (inl refl, number m a.accused (is_key-true (keys.Removal m) (keys.Removal a.accused) same)))
        | inr apart ↦ inl (sym (ap (λ b. cond b (held (keys.Accusation a.accused a.ring)) (held (keys.Removal m))) apart) ∙ before)
      ]
    ]

removed-retires : (heal : Option Heal) (rep : Report) (held : Holding) (m : ℕ) (r : Record) → retires heal rep held (keys.Removal m) ≡ Some r
    → WasRemoved held rep.expired m r
removed-retires None rep held m r h = inl h
removed-retires (Some heal) rep held m r h = removed-all rep.expired held m r h

removed-lives : (s : Setting) (e : Event) (c : Call) (m : ℕ) (r : Record) → (lives s e c).node.held (keys.Removal m) ≡ Some r
    → WasRemoved c.node.held (step s.group (state_of s c.node) e).report.expired m r
unfolding lives
removed-lives s e c m r h =
    let rep : Report = (step s.group (state_of s c.node) e).report in
    removed-retires s.heal rep c.node.held m r
    (kept-without_all (rep.expired ++ rep.fell) (retires s.heal rep c.node.held) (keys.Removal m) r h)

-- ---- what is upheld

abbrev pub AreOut : Setting → Node → Type 0
AreOut s n = (m : ℕ) (r : Record) → n.held (keys.Removal m) ≡ Some r → in_view (state_of s n) m ≡ true → ⊥

out-lives : (s : Setting) (e : Event) (c : Call) (m : ℕ) (r : Record) → IsNotOwn m e → AreOut s c.node
    → (lives s e c).node.held (keys.Removal m) ≡ Some r → in_view (state_of s (lives s e c).node) m ≡ true → ⊥
out-lives s e c m r other h held v =
    let st : State = state_of s c.node in
    let there : in_view (step s.group st e).state m ≡ true = sym (ap (λ x. in_view x m) (state_of-lives s e c)) ∙ v in
    elim (removed-lives s e c m r held) [
      | inl before ↦ h m r before (back s.group st e m other there)
      | inr expired ↦ expires-out s.group st e expired.0 m (lively s c.node).upheld expired.1.0 expired.1.1 there
    ]

-- no record has the key of a removal
unplaced : (r : Record) (b : Body) (held : Holding) (m : ℕ) → r.body ≡ b
    → with_record r held (keys.Removal m) ≡ held (keys.Removal m)
unplaced r (Certificate x) held m is = ap (λ b. cond (eq_by_cmp key_cmp (keys.Removal m) (key_of b)) (Some r) (held (keys.Removal m))) is
unplaced r (Note x) held m is = ap (λ b. cond (eq_by_cmp key_cmp (keys.Removal m) (key_of b)) (Some r) (held (keys.Removal m))) is
unplaced r (Accusation a) held m is = ap (λ b. cond (eq_by_cmp key_cmp (keys.Removal m) (key_of b)) (Some r) (held (keys.Removal m))) is

-- what is left of removals beside a record is no removal of its note's member
unremoved : (s : Setting) (b : Body) (held : Holding) (m : ℕ) (r : Record) → without_removal b held (keys.Removal m) ≡ Some r
    → IsNotOwn m (event_of s b) × (held (keys.Removal m) ≡ Some r)
unremoved s (Certificate x) held m r h = (tt, h)
unremoved s (Accusation a) held m r h = (tt, h)
unremoved s (Note n) held m r h =
    elim (cases_Bool (eq_by_cmp key_cmp (keys.Removal m) (keys.Removal n.member))) [
      | inl same ↦ absurd (none_some r (sym (ap (λ b. cond b None (held (keys.Removal m))) same) ∙ h))
      | inr apart ↦ (
        false_from_ne_true (eqb n.member m) (λ e. false≢true (sym apart ∙ itself (eqb-true n.member m e))),
        sym (ap (λ b. cond b None (held (keys.Removal m))) apart) ∙ h,
      )
    ]
  where
    itself : n.member ≡ m → eq_by_cmp key_cmp (keys.Removal m) (keys.Removal n.member) ≡ true
    itself e = ap (λ k. eq_by_cmp key_cmp (keys.Removal m) (keys.Removal k)) e ∙ is_key-same (keys.Removal m)

out-takes : (s : Setting) (r : Record) (c : Call) → AreOut s c.node → AreOut s (takes s r c).node
unfolding takes state_of
out-takes s r c h = λ m x held v.
    let e : Event = event_of s r.body in
    let left : Holding = without_removal r.body (lives s e c).node.held in
    let k = unremoved s r.body (lives s e c).node.held m x (sym (unplaced r r.body left m refl) ∙ held) in
    out-lives s e c m x k.0 h k.1 v

out-spends : (s : Setting) (b : Body) (c : Call) → AreOut s c.node → AreOut s (spends s b c).node
unfolding state_of
out-spends s b c h = h

out-signs : (s : Setting) (b : Body) (c : Call) → AreOut s c.node → AreOut s (signs s b c).node
unfolding signs
out-signs s b c h = out-takes s (own_record s c.node b) (spends s b c) (out-spends s b c h)

out-sends : (s : Setting) (d : Datagram) (c : Call) (to : ℕ) → AreOut s c.node → AreOut s (sends s d c to).node
unfolding sends
out-sends s d c to h = h

out-again : (s : Setting) (n : Node) (p : History) (news : List RecordKey) (since : ℕ) → AreOut s n
    → AreOut s (record n { probes = p; news = news; since = since })
unfolding state_of
out-again s n p news since h = h

keeping-out : (s : Setting) → Keeps s (λ c. AreOut s c.node)
keeping-out s =
    record {
      told = λ what c other h. h;
      sent = λ d c to h. out-sends s d c to h;
      taken = λ r c fine h. out-takes s r c h;
      answered = λ r a c fine is me may left h. out-signs s _ (takes s r c) (out-takes s r c h);
      returned = λ r a c asks may left h. out-signs s _ c h;
      accused = λ a c by left h. out-signs s _ c h;
      departed = λ c left h. out-signs s _ c h;
      stopped = λ c h. h;
      passed = λ c h. λ m r held v. out-lives s Ticks c m r tt h held v;
      probed = λ p c h. out-again s c.node p c.node.news c.node.since h;
      spanned = λ c h. out-again s c.node c.node.probes c.node.news c.node.stored.epoch h;
      spread = λ c h. out-again s c.node c.node.probes [] c.node.since h;
    }

out-calls : (s : Setting) (n : Node) (inputs : List Input) → AreOut s n → AreOut s (after_calls s n inputs)
out-calls s n [] h = h
out-calls s n (i ∷ inputs) h = out-calls s (call_of s n i).node inputs (keeps-call s (λ c. AreOut s c.node) (keeping-out s) n i h)

out-opened : (s : Setting) (records : List Record) (c : Call) → AreOut s c.node → AreOut s (takes_all s records c).node
out-opened s [] c h = h
out-opened s (r ∷ records) c h = out-opened s records (takes s r c) (out-takes s r c h)

out-started : (s : Setting) (nonces : ℕ → ℕ) (certificates : List Record) (stored : Stored)
    → AreOut s (started s nonces certificates stored).node
unfolding started
out-started s nonces certificates stored =
    out-signs s (first_note s stored) (opened s nonces certificates stored)
    (out-opened s certificates (begun (blank s nonces stored)) (λ m r held v. none_some r held))

pub out-life : (s : Setting) (nonces : ℕ → ℕ) (certificates : List Record) (stored : Stored) (inputs : List Input) (m : ℕ) (r : Record)
    → (life_of s nonces certificates stored inputs).held (keys.Removal m) ≡ Some r → in_view (state_of s (life_of s nonces certificates stored inputs)) m ≡ false
out-life s nonces certificates stored inputs m r held =
    let began : Node = (started s nonces certificates stored).node in
    let n : Node = after_calls s began inputs in
    false_from_ne_true (in_view (state_of s n) m) (out-calls s began inputs (out-started s nonces certificates stored) m r held)
