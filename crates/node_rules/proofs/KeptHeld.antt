-- A node holds just the accusations that it keeps.
use Rattle.std.proofs.Common.{◌≡◌, ℕ, ◌+◌, Bool, true, false, not, cond, inl, inr, List, [], ◌∷◌, ◌++◌, Option, Some, None, map, filter, refl, ap, sym, ◌∙◌, eq-eqb}
use Rattle.std.specs.Prelude.{◌&&◌, fold}
use Rattle.std.specs.Option.{option_map_or}
use Rattle.std.specs.Ordering.{eq_by_cmp}
use Rattle.std.proofs.lemmas.Bool.{cond_both, cases_Bool, eqb-true, false≢true, and_parts, and_from, not-true, not_from_false}
use Rattle.ff_ids.specs.declared.AccBody.{AccBody}
use Rattle.ff_ids.specs.declared.NoteBody.{NoteBody}
use Rattle.ff_ids.specs.declared.Group.{Group}
use Rattle.ff_ids.specs.declared.Fault.{Fault}
use Rattle.ff_ids.specs.declared.summary.RecordKey.{RecordKey}
use Rattle.ff_ids.specs.declared.summary.RecordKey.TheVariants as keys
use Rattle.ff_ids.specs.Notes.{newest}
use Rattle.ff_ids.specs.Views.{State, is_member, is_unanswered_by, stands}
use Rattle.ff_ids.specs.Faults.{facts_of, note_fault, accusation_fault, same_accusation}
use Rattle.ff_ids.proofs.FaultLemmas.{passes}
use Rattle.ff_ids.specs.Steps.{Joins, Notes, Ticks as Passes, joined, with_kept, precedes, is_due, after_note, unless_fault, unchanged, step}
use Rattle.life_laws.proofs.Lists.{In, In-filter, In-from_filter, In-from_map, In-append_left, In-append_right, In-append_cases, any_from_In}
use Rattle.life_laws.proofs.ViewLemmas.{IsStanding-from}
use Rattle.life_laws.proofs.StepLemmas.{AllStand, stands-accepted, In-with_kept}
use Rattle.records.specs.declared.Body.TheVariants.{Certificate, Note, Accusation}
use Rattle.records.specs.declared.CertBody.{CertBody}
use Rattle.records.specs.declared.Record.{Record}
use Rattle.record_set.specs.Held.{key_cmp, key_of}
use Rattle.record_set.proofs.KeyLemmas.{is_key-true, is_key-same}
use Rattle.node_rules.specs.Nodes.{Holding, with_record, without, without_ended, key_of_accusation}
use Rattle.node_rules.proofs.Accusations.{same_accuser}
use Rattle.node_rules.proofs.Exchanges.{In-map}
use Rattle.node_rules.proofs.Upholding.{some_is, none_some, kept-without_all}

-- ---- what is held, beside what is kept

abbrev pub HeldHere : Holding → AccBody → Type 0
HeldHere held a = (r : Record) × ((held (key_of_accusation a) ≡ Some r) × (r.body ≡ Accusation a))

abbrev pub KeptHere : List (AccBody × ℕ) → AccBody → Type 0
KeptHere kept a = (p : AccBody × ℕ) × (In kept p × (p.0 ≡ a))

-- Each accusation that is held is kept, each that is kept is held, and no two are kept under one key.
pub record Matches (held : Holding) (kept : List (AccBody × ℕ)) : Type 0 where
  pub kept_is : (a : AccBody) → HeldHere held a → KeptHere kept a
  pub held_is : (a : AccBody) → KeptHere kept a → HeldHere held a
  pub unique : (p q : AccBody × ℕ) → In kept p → In kept q → key_of_accusation p.0 ≡ key_of_accusation q.0 → p ≡ q

same_body : (a b : AccBody) → Accusation a ≡ Accusation b → a ≡ b
same_body a b e = cc

-- ---- what ends is held no more

none-stays : (gone : List RecordKey) (held : Holding) (k : RecordKey) → held k ≡ None → fold without held gone k ≡ None
none-stays [] held k h = h
none-stays (g ∷ gone) held k h = none-stays gone (without held g) k (cond_both (eq_by_cmp key_cmp k g) None (held k) (λ o. o ≡ None) (λ same. refl) (λ apart. h))

without-here : (held : Holding) (k g : RecordKey) → k ≡ g → without held g k ≡ None
without-here held k g e = ap (λ b. cond b None (held k)) (ap (λ x. eq_by_cmp key_cmp k x) (sym e) ∙ is_key-same k)

without-gone : (gone : List AccBody) (held : Holding) (k : RecordKey) (b : AccBody) → In gone b → k ≡ key_of_accusation b → fold without held (map key_of_accusation gone) k ≡ None
without-gone [] held k b i e = absurd i
without-gone (x ∷ gone) held k b i e =
    elim i [
      | inl here ↦ none-stays (map key_of_accusation gone) (without held (key_of_accusation x)) k (without-here held k (key_of_accusation x) (e ∙ ap key_of_accusation (sym here)))
      | inr later ↦ without-gone gone (without held (key_of_accusation x)) k b later e
    ]

without-other : (gone : List AccBody) (held : Holding) (k : RecordKey) → ((b : AccBody) → In gone b → k ≡ key_of_accusation b → ⊥) → fold without held (map key_of_accusation gone) k ≡ held k
without-other [] held k apart = refl
without-other (x ∷ gone) held k apart = without-other gone (without held (key_of_accusation x)) k (λ b i e. apart b (inr i) e) ∙ unless (eq_by_cmp key_cmp k (key_of_accusation x)) refl
  where
    unless : (b : Bool) → eq_by_cmp key_cmp k (key_of_accusation x) ≡ b → without held (key_of_accusation x) k ≡ held k
    unless true e = absurd (apart x (inl refl) (is_key-true k (key_of_accusation x) e))
    unless false e = ap (λ b. cond b None (held k)) e

-- What survives is kept on, and the rest ends.
record Ends (survives : AccBody × ℕ → Bool) (kept next : List (AccBody × ℕ)) (ended : List AccBody) : Type 0 where
  next_in : (q : AccBody × ℕ) → In next q → In kept q × (survives q ≡ true)
  in_next : (q : AccBody × ℕ) → In kept q → survives q ≡ true → In next q
  ended_in : (b : AccBody) → In ended b → (q : AccBody × ℕ) × (In kept q × ((survives q ≡ false) × (q.0 ≡ b)))
  in_ended : (q : AccBody × ℕ) → In kept q → survives q ≡ false → In ended q.0

matches-ended : (survives : AccBody × ℕ → Bool) (held : Holding) (kept next : List (AccBody × ℕ)) (ended : List AccBody) → Ends survives kept next ended → Matches held kept
    → Matches (fold without held (map key_of_accusation ended)) next
matches-ended survives held kept next ended e m =
    record {
      kept_is = λ a h.
          let r : Record = h.0 in
          let p = m.kept_is a (r, (kept-without_all ended held (key_of_accusation a) r h.1.0, h.1.1)) in
          elim (cases_Bool (survives p.0)) [
            | inl stays ↦ (p.0, (e.in_next p.0 p.1.0 stays, p.1.1))
            | inr goes ↦ absurd (none_some r (sym (without-gone ended held (key_of_accusation a) p.0.0 (e.in_ended p.0 p.1.0 goes) (ap key_of_accusation (sym p.1.1))) ∙ h.1.0))
          ];
      held_is = λ a h.
          let p : AccBody × ℕ = h.0 in
          let before = e.next_in p h.1.0 in
          let r = m.held_is a (p, (before.0, h.1.1)) in
          let stays : fold without held (map key_of_accusation ended) (key_of_accusation a) ≡ held (key_of_accusation a) =
          without-other ended held (key_of_accusation a) (λ b i same.
          let q = e.ended_in b i in
          let one : p ≡ q.0 = m.unique p q.0 before.0 q.1.0 (ap key_of_accusation h.1.1 ∙ same ∙ ap key_of_accusation (sym q.1.1.1)) in
          false≢true (sym q.1.1.0 ∙ ap survives (sym one) ∙ before.1)) in
          (r.0, (stays ∙ r.1.0, r.1.1));
      unique = λ p q i j same. m.unique p q (e.next_in p i).0 (e.next_in q j).0 same;
    }

-- ---- the steps of a life

-- at a note
noted-ends : (new : State) (kept : List (AccBody × ℕ)) → Ends (λ q. stands new q.0) kept (filter (λ p. stands new p.0) kept) ([] ++ map (λ p. p.0) (filter (λ p. not (stands new p.0)) kept))
noted-ends new kept =
    record {
      next_in = λ q i. In-from_filter (λ p. stands new p.0) kept q i;
      in_next = λ q i h. In-filter (λ p. stands new p.0) kept q i h;
      ended_in = λ b i.
          let q = In-from_map (λ (p : AccBody × ℕ). p.0) (filter (λ p. not (stands new p.0)) kept) b i in
          let f = In-from_filter (λ p. not (stands new p.0)) kept q.0 q.1.0 in
          (q.0, (f.0, (not-true _ f.1, q.1.1)));
      in_ended = λ q i h. In-map (λ (p : AccBody × ℕ). p.0) (filter (λ p. not (stands new p.0)) kept) q (In-filter (λ p. not (stands new p.0)) kept q i (not_from_false _ h));
    }

-- at a tick
passed-ends : (timeout now : ℕ) (new : State) (kept : List (AccBody × ℕ))
    → Ends (λ q. not (is_due timeout now q) && stands new q.0) kept (filter (λ p. stands new p.0) (filter (λ p. not (is_due timeout now p)) kept))
    (map (λ p. p.0) (filter (is_due timeout now) kept) ++ map (λ p. p.0) (filter (λ p. not (stands new p.0)) (filter (λ p. not (is_due timeout now p)) kept)))
passed-ends timeout now new kept =
    let due : AccBody × ℕ → Bool = is_due timeout now in
    let left : List (AccBody × ℕ) = filter (λ p. not (due p)) kept in
    let expired : List AccBody = map (λ p. p.0) (filter due kept) in
    let fell : List AccBody = map (λ p. p.0) (filter (λ p. not (stands new p.0)) left) in
    record {
      next_in = λ q i.
          let f = In-from_filter (λ p. stands new p.0) left q i in
          let g = In-from_filter (λ p. not (due p)) kept q f.0 in
          (g.0, and_from _ _ g.1 f.1);
      in_next = λ q i h. let parts = and_parts _ _ h in In-filter (λ p. stands new p.0) left q (In-filter (λ p. not (due p)) kept q i parts.0) parts.1;
      ended_in = λ b i.
          elim (In-append_cases expired fell b i) [
            | inl j ↦
                let q = In-from_map (λ (p : AccBody × ℕ). p.0) (filter due kept) b j in
                let f = In-from_filter due kept q.0 q.1.0 in
                (q.0, (f.0, (ap (λ x. not x && stands new q.0.0) f.1, q.1.1)))
            | inr j ↦
                let q = In-from_map (λ (p : AccBody × ℕ). p.0) (filter (λ p. not (stands new p.0)) left) b j in
                let f = In-from_filter (λ p. not (stands new p.0)) left q.0 q.1.0 in
                let g = In-from_filter (λ p. not (due p)) kept q.0 f.0 in
                (q.0, (g.0, (ap (λ x. x && stands new q.0.0) g.1 ∙ not-true _ f.1, q.1.1)))
          ];
      in_ended = λ q i h.
          elim (cases_Bool (due q)) [
            | inl late ↦ In-append_left expired fell q.0 (In-map (λ (p : AccBody × ℕ). p.0) (filter due kept) q (In-filter due kept q i late))
            | inr early ↦
                let falls : stands new q.0 ≡ false = sym (ap (λ x. not x && stands new q.0) early) ∙ h in
                In-append_right expired fell q.0 (In-map (λ (p : AccBody × ℕ). p.0) (filter (λ p. not (stands new p.0)) left) q (In-filter (λ p. not (stands new p.0)) left q (In-filter (λ p. not (due p)) kept q i (not_from_false _ early)) (not_from_false _ falls)))
          ];
    }

pub matches-joins : (g : Group) (st : State) (number : ℕ) (places : List (List ℕ)) (held : Holding) → Matches held st.kept → Matches (without_ended (step g st (Joins number places)).report held) (step g st (Joins number places)).state.kept
matches-joins g st number places held m = cond_both (is_member st number) (unchanged st) (unchanged (joined st number places)) (λ x. Matches (without_ended x.report held) x.state.kept) (λ old. m) (λ new. m)

pub matches-notes : (g : Group) (st : State) (x : NoteBody) (held : Holding) → Matches held st.kept → Matches (without_ended (step g st (Notes x)).report held) (step g st (Notes x)).state.kept
matches-notes g st x held m = by_fault (note_fault g.t st x)
  where
    by_fault : (f : Option Fault) → Matches (without_ended (unless_fault f st (after_note st x)).report held) (unless_fault f st (after_note st x)).state.kept
    by_fault (Some f) = m
    by_fault None =
        let new : State = record st { notes = x ∷ st.notes } in
        matches-ended (λ q. stands new q.0) held st.kept (filter (λ p. stands new p.0) st.kept) _ (noted-ends new st.kept) m

pub matches-ticks : (g : Group) (st : State) (held : Holding) → Matches held st.kept → Matches (without_ended (step g st Passes).report held) (step g st Passes).state.kept
matches-ticks g st held m =
    let now : ℕ = st.moment + 1 in
    let due : List AccBody = map (λ p. p.0) (filter (is_due g.timeout now) st.kept) in
    let new : State = record st { moment = now; expired = due ++ st.expired; kept = filter (λ p. not (is_due g.timeout now p)) st.kept } in
    matches-ended (λ q. not (is_due g.timeout now q) && stands new q.0) held st.kept _ _ (passed-ends g.timeout now new st.kept) m

-- ---- an accusation more

In-with_kept_here : (p : AccBody × ℕ) (xs : List (AccBody × ℕ)) → In (with_kept p xs) p
In-with_kept_here p [] = inl refl
In-with_kept_here p (x ∷ xs) = cond_both (precedes x.0 p.0) (x ∷ with_kept p xs) (p ∷ x ∷ xs) (λ ys. In ys p) (λ yes. inr (In-with_kept_here p xs)) (λ no. inl refl)

In-with_kept_more : (p q : AccBody × ℕ) (xs : List (AccBody × ℕ)) → In xs q → In (with_kept p xs) q
In-with_kept_more p q [] i = absurd i
In-with_kept_more p q (x ∷ xs) i =
    cond_both (precedes x.0 p.0) (x ∷ with_kept p xs) (p ∷ x ∷ xs) (λ ys. In ys q)
    (λ yes. elim i [ inl e ↦ inl e | inr j ↦ inr (In-with_kept_more p q xs j) ])
    (λ no. inr i)

-- no accusation is kept under the key of one that has no fault
same_fields : (x a : AccBody) → key_of_accusation x ≡ key_of_accusation a → (x.accused ≡ a.accused) × (x.ring.0 ≡ a.ring.0)
same_fields x a e = (by_accused e, by_ring e)
  where
    by_accused : keys.Accusation x.accused x.ring ≡ keys.Accusation a.accused a.ring → x.accused ≡ a.accused
    by_accused e = cc

    by_ring : keys.Accusation x.accused x.ring ≡ keys.Accusation a.accused a.ring → x.ring.0 ≡ a.ring.0
    by_ring e = cc

same_epoch : (a b : AccBody) (o p : Option NoteBody) → o ≡ p → option_map_or (is_unanswered_by a) o false ≡ true → option_map_or (is_unanswered_by b) p false ≡ true → a.epoch ≡ b.epoch
same_epoch a b None p e h k = absurd (false≢true h)
same_epoch a b (Some n) p e h k =
    let here : option_map_or (is_unanswered_by b) (Some n) false ≡ true = ap (λ o. option_map_or (is_unanswered_by b) o false) e ∙ k in
    sym (eqb-true n.epoch a.epoch (and_parts _ _ h).0) ∙ eqb-true n.epoch b.epoch (and_parts _ _ here).0

pub alone : (g : Group) (st : State) (a : AccBody) → accusation_fault g.t st a ≡ None → AllStand st → (q : AccBody × ℕ) → In st.kept q → key_of_accusation q.0 ≡ key_of_accusation a → ⊥
alone g st a fine stand q i same =
    let f = same_fields q.0 a same in
    let there = stand q i in
    let here = stands-accepted g.t st a fine in
    let accuser : q.0.accuser ≡ a.accuser = same_accuser st q.0 a there here f.0 f.1 in
    let epoch : q.0.epoch ≡ a.epoch = same_epoch q.0 a (newest st.notes q.0.accused) (newest st.notes a.accused) (ap (newest st.notes) f.0) (IsStanding-from st q.0 there).unanswered (IsStanding-from st a here).unanswered in
    let is : same_accusation q.0 a ≡ true = and_from _ _ (and_from _ _ (and_from _ _ (eq-eqb _ _ accuser) (eq-eqb _ _ f.0)) (eq-eqb _ _ epoch)) (eq-eqb _ _ f.1) in
    false≢true (sym (passes g.t (facts_of st a) a fine).free ∙ any_from_In (λ p. same_accusation p.0 a) st.kept q i is)

pub matches-accused : (held : Holding) (kept : List (AccBody × ℕ)) (a : AccBody) (since : ℕ) (r : Record) → r.body ≡ Accusation a → ((q : AccBody × ℕ) → In kept q → key_of_accusation q.0 ≡ key_of_accusation a → ⊥) → Matches held kept
    → Matches (with_record r held) (with_kept (a, since) kept)
matches-accused held kept a since r is free m =
    let p : AccBody × ℕ = (a, since) in
    let at : (b : AccBody) → with_record r held (key_of_accusation b) ≡ cond (eq_by_cmp key_cmp (key_of_accusation b) (key_of_accusation a)) (Some r) (held (key_of_accusation b)) =
    λ b. ap (λ x. cond (eq_by_cmp key_cmp (key_of_accusation b) (key_of x)) (Some r) (held (key_of_accusation b))) is in
    record {
      kept_is = λ b h.
          elim (cases_Bool (eq_by_cmp key_cmp (key_of_accusation b) (key_of_accusation a))) [
            | inl same ↦
                let this : r ≡ h.0 = some_is r h.0 (sym (ap (λ x. cond x (Some r) (held (key_of_accusation b))) same) ∙ sym (at b) ∙ h.1.0) in
                (p, (In-with_kept_here p kept, same_body a b (sym is ∙ ap (λ (x : Record). x.body) this ∙ h.1.1)))
            | inr apart ↦
                let before = m.kept_is b (h.0, (sym (ap (λ x. cond x (Some r) (held (key_of_accusation b))) apart) ∙ sym (at b) ∙ h.1.0, h.1.1)) in
                (before.0, (In-with_kept_more p before.0 kept before.1.0, before.1.1))
          ];
      held_is = λ b h.
          elim (In-with_kept p h.0 kept h.1.0) [
            | inl new ↦
                let this : a ≡ b = ap (λ (q : AccBody × ℕ). q.0) new ∙ h.1.1 in
                (r, (at b ∙ ap (λ x. cond x (Some r) (held (key_of_accusation b))) (ap (λ x. eq_by_cmp key_cmp (key_of_accusation b) (key_of_accusation x)) this ∙ is_key-same (key_of_accusation b)), is ∙ ap (λ x. Accusation x) this))
            | inr old ↦
                let before = m.held_is b (h.0, (old, h.1.1)) in
                let apart : eq_by_cmp key_cmp (key_of_accusation b) (key_of_accusation a) ≡ false =
                elim (cases_Bool (eq_by_cmp key_cmp (key_of_accusation b) (key_of_accusation a))) [
                  | inl same ↦ absurd (free h.0 old (ap key_of_accusation h.1.1 ∙ is_key-true (key_of_accusation b) (key_of_accusation a) same))
                  | inr other ↦ other
                ] in
                (before.0, (at b ∙ ap (λ x. cond x (Some r) (held (key_of_accusation b))) apart ∙ before.1.0, before.1.1))
          ];
      unique = λ x y i j same.
          elim (In-with_kept p x kept i) [
            | inl e ↦ elim (In-with_kept p y kept j) [
              | inl f ↦ sym e ∙ f
              | inr k ↦ absurd (free y k (sym same ∙ ap (λ (q : AccBody × ℕ). key_of_accusation q.0) (sym e)))
            ]
            | inr l ↦ elim (In-with_kept p y kept j) [
              | inl f ↦ absurd (free x l (same ∙ ap (λ (q : AccBody × ℕ). key_of_accusation q.0) (sym f)))
              | inr k ↦ m.unique x y l k same
            ]
          ];
    }

-- ---- a record that is no accusation takes no accusation's place

pub matches-same : (held later : Holding) (kept : List (AccBody × ℕ)) → ((a : AccBody) → later (key_of_accusation a) ≡ held (key_of_accusation a)) → Matches held kept → Matches later kept
matches-same held later kept same m =
    record {
      kept_is = λ a h. m.kept_is a (h.0, (sym (same a) ∙ h.1.0, h.1.1));
      held_is = λ a h. let before = m.held_is a h in (before.0, (same a ∙ before.1.0, before.1.1));
      unique = m.unique;
    }

pub matches-certificate : (r : Record) (x : CertBody) (held : Holding) (kept : List (AccBody × ℕ)) → r.body ≡ Certificate x → Matches held kept → Matches (with_record r held) kept
matches-certificate r x held kept is m = matches-same held (with_record r held) kept (λ a. ap (λ b. cond (eq_by_cmp key_cmp (key_of_accusation a) (key_of b)) (Some r) (held (key_of_accusation a))) is) m

pub matches-note : (r : Record) (x : NoteBody) (held : Holding) (kept : List (AccBody × ℕ)) → r.body ≡ Note x → Matches held kept → Matches (with_record r held) kept
matches-note r x held kept is m = matches-same held (with_record r held) kept (λ a. ap (λ b. cond (eq_by_cmp key_cmp (key_of_accusation a) (key_of b)) (Some r) (held (key_of_accusation a))) is) m
