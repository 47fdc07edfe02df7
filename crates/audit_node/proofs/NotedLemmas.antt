-- Who is accused has a note, in what is held, whatever is accepted, and the node's own is the one that its store keeps.
use Rattle.std.proofs.Common.{◌≡◌, ℕ, ◌<◌, Bool, true, false, cond, inl, inr, List, [], ◌∷◌, Option, Some, None, is_some, refl, ap, sym, ◌∙◌, subst}
use Rattle.std.specs.Prelude.{IfSome}
use Rattle.std.specs.FinMap as fin
use Rattle.std.specs.FinMap.{contains_key}
use Rattle.std.specs.Ordering.{eq_by_cmp}
use Rattle.std.proofs.lemmas.Bool.{and_parts, cond_both, cases_Bool, eqb-true}
use Rattle.std.proofs.Common.{eqb, eq-eqb}
use Rattle.std.specs.Prelude.{nat_eq, not}
use Rattle.ff_ids.specs.declared.AccBody.{AccBody}
use Rattle.ff_ids.specs.declared.NoteBody.{NoteBody}
use Rattle.ff_ids.specs.declared.Group.{Group}
use Rattle.ff_ids.specs.Heals.{Heal}
use Rattle.ff_ids.specs.declared.summary.RecordKey.{RecordKey}
use Rattle.ff_ids.specs.declared.summary.RecordKey.TheVariants as keys
use Rattle.ff_ids.specs.Lives.{opening}
use Rattle.ff_ids.specs.Steps.{Event, Notes, Report, Stepped, after_note, step, unless_fault}
use Rattle.ff_ids.specs.Masks.{enables, note_mask}
use Rattle.ff_ids.specs.Notes.{greater_note, newest, note_cmp}
use Rattle.ff_ids.specs.Views.{State, is_member}
use Rattle.ff_ids.specs.declared.Fault.{Fault}
use Rattle.ff_ids.specs.declared.Fault.TheVariants as faults
use Rattle.ff_ids.specs.Faults.{fault_after, fault_beside, note_fault, note_fault_by}
use Rattle.std.specs.declared.cmp.Ordering.{Ordering}
use Rattle.std.specs.declared.cmp.Ordering.TheVariants.{Less, Equal, Greater}
use Rattle.epoch_store.specs.declared.Stored.{Stored}
use Rattle.records.specs.declared.Record.{Record}
use Rattle.validate.specs.Table.{Knowledge, first_fault_of, own_ahead}
use Rattle.ff_ids.proofs.FaultLemmas.{passed, passes}
use Rattle.membership.specs.Kept.{ByNumber}
use Rattle.membership.specs.Life.{Life, has_joined, facts_in, accusation_fault_in, note_fault_in}
use Rattle.membership.specs.Holds.{Holds}
use Rattle.records.specs.declared.Body.{Body}
use Rattle.records.specs.declared.Body.TheVariants.{Certificate, Note, Accusation}
use Rattle.rebuttal.specs.Rebuttals.{IsAgainst}
use Rattle.record_slots.specs.Held.{key_cmp, key_of, held_under, with_option, retired}
use Rattle.audit_set.specs.declared.known.Known.{Known}
use Rattle.audit_set.specs.Knowns.{body_of}
use Rattle.audit_set.specs.Sets.{HeldKnown}
use Rattle.record_slots.specs.Pages.{note_of_body, note_in, AreNoted}
use Rattle.record_slots.proofs.KeyLemmas.{key_cmp_total, is_key-true, is_key-same}
use Rattle.node_rules.specs.Nodes.{key_of_accusation}
use Rattle.node_rules.proofs.OwnNote.{IsNotOwn, option_or-none, step-same}
use Rattle.audit_node.specs.Records.{without_all, retired_all, ended_all}
use Rattle.audit_node.specs.Noted.{HoldsNotes, IsOthers, has_note, own_note}
use Rattle.audit_node.proofs.PlayLemmas.{Steps}

abbrev accused_on : ℕ → ℕ → RecordKey
accused_on m ring = keys.Accusation m (record { 0 = ring })

-- ---- what is held

-- The notes that are held are the same, and no more are accused, but who has a note.
record IsBeside (held later : HeldKnown) : Type 0 where
  notes : (m : ℕ) → held_under later (keys.Note m) ≡ held_under held (keys.Note m)
  accused : (m ring : ℕ) → contains_key later (accused_on m ring) ≡ true → has_note held m ≡ true

noted-beside : (held later : HeldKnown) → IsBeside held later → AreNoted body_of held → AreNoted body_of later
noted-beside held later b h = record {
  epoch = λ m. subst (λ o. IfSome (note_in body_of o) (λ (n : NoteBody). 0 < n.epoch)) (sym (b.notes m)) (h.epoch m);
  accused = λ m ring is. ap (λ o. is_some (note_in body_of o)) (b.notes m) ∙ b.accused m ring is;
}

has-beside : (held later : HeldKnown) (m : ℕ) → IsBeside held later → has_note held m ≡ true → has_note later m ≡ true
has-beside held later m b h = ap (λ o. is_some (note_in body_of o)) (b.notes m) ∙ h

beside-certificate : (held : HeldKnown) (m : ℕ) (x : Known) → AreNoted body_of held → IsBeside held (fin.insert held (keys.Certificate m) x)
beside-certificate held m x h = record {
  notes = λ n. fin.get-insert key_cmp_total held (keys.Certificate m) x (keys.Note n);
  accused = λ n ring is. h.accused n ring (sym (ap is_some (fin.get-insert key_cmp_total held (keys.Certificate m) x (accused_on n ring))) ∙ is);
}

same_accused : (m : ℕ) (ring : ℕ) (a : AccBody) → accused_on m ring ≡ key_of_accusation a → a.accused ≡ m
same_accused m ring a e = cc

beside-accusation : (held : HeldKnown) (a : AccBody) (x : Known) → has_note held a.accused ≡ true → AreNoted body_of held → IsBeside held (fin.insert held (key_of_accusation a) x)
beside-accusation held a x noted h = record {
  notes = λ n. fin.get-insert key_cmp_total held (key_of_accusation a) x (keys.Note n);
  accused = λ n ring is.
      elim (cases_Bool (eq_by_cmp key_cmp (accused_on n ring) (key_of_accusation a))) [
        | inl here ↦ subst (λ m. has_note held m ≡ true) (same_accused n ring a (is_key-true (accused_on n ring) (key_of_accusation a) here)) noted
        | inr apart ↦
            let was = fin.get-insert key_cmp_total held (key_of_accusation a) x (accused_on n ring) ∙ ap (λ b. cond b (Some x) (held_under held (accused_on n ring))) apart in
            h.accused n ring (sym (ap is_some was) ∙ is)
      ];
}

notes-without : (held : HeldKnown) (ended : List AccBody) (m : ℕ) → held_under (without_all held ended) (keys.Note m) ≡ held_under held (keys.Note m)
notes-without held [] m = refl
notes-without held (a ∷ ended) m = notes-without (fin.remove held (key_of_accusation a)) ended m ∙ fin.get-remove key_cmp_total held (key_of_accusation a) (keys.Note m)

some-kept : (b : Bool) (o : Option Known) → is_some (cond b None o) ≡ true → is_some o ≡ true
some-kept true o h = cc
some-kept false o h = h

held-before : (held : HeldKnown) (ended : List AccBody) (k : RecordKey) → contains_key (without_all held ended) k ≡ true → contains_key held k ≡ true
held-before held [] k h = h
held-before held (a ∷ ended) k h =
    let was = held-before (fin.remove held (key_of_accusation a)) ended k h in
    some-kept (eq_by_cmp key_cmp k (key_of_accusation a)) (held_under held k) (sym (ap is_some (fin.get-remove key_cmp_total held (key_of_accusation a) k)) ∙ was)

-- a removal is no note, and no accusation that is kept
abbrev IsKeptOn : RecordKey → Type 0
IsKeptOn (keys.Certificate m) = ⊥
IsKeptOn (keys.Note m) = Unit {0}
IsKeptOn (keys.Accusation m ring) = Unit {0}
IsKeptOn (keys.Removal m) = ⊥

removal-apart : (k : RecordKey) (m : ℕ) → IsKeptOn k → eq_by_cmp key_cmp k (keys.Removal m) ≡ false
removal-apart (keys.Certificate n) m kept = absurd kept
removal-apart (keys.Note n) m kept = refl
removal-apart (keys.Accusation n ring) m kept = refl
removal-apart (keys.Removal n) m kept = absurd kept

under-other : (held : HeldKnown) (m : ℕ) (o : Option Known) (k : RecordKey) → IsKeptOn k → held_under (with_option held (keys.Removal m) o) k ≡ held_under held k
under-other held m None k kept = fin.get-remove key_cmp_total held (keys.Removal m) k ∙ ap (λ b. cond b None (held_under held k)) (removal-apart k m kept)
under-other held m (Some c) k kept = fin.get-insert key_cmp_total held (keys.Removal m) c k ∙ ap (λ b. cond b (Some c) (held_under held k)) (removal-apart k m kept)

under-retired : (held : HeldKnown) (a : AccBody) (k : RecordKey) → IsKeptOn k → held_under (retired held a.accused a.ring) k ≡ held_under (fin.remove held (key_of_accusation a)) k
under-retired held a k kept = under-other (fin.remove held (key_of_accusation a)) a.accused (held_under held (key_of_accusation a)) k kept

notes-retired : (held : HeldKnown) (ended : List AccBody) (m : ℕ) → held_under (retired_all held ended) (keys.Note m) ≡ held_under held (keys.Note m)
notes-retired held [] m = refl
notes-retired held (a ∷ ended) m =
    notes-retired (retired held a.accused a.ring) ended m ∙ under-retired held a (keys.Note m) tt ∙ fin.get-remove key_cmp_total held (key_of_accusation a) (keys.Note m)

retired-before : (held : HeldKnown) (ended : List AccBody) (m ring : ℕ) → contains_key (retired_all held ended) (accused_on m ring) ≡ true → contains_key held (accused_on m ring) ≡ true
retired-before held [] m ring h = h
retired-before held (a ∷ ended) m ring h =
    let k : RecordKey = accused_on m ring in
    let was = retired-before (retired held a.accused a.ring) ended m ring h in
    held-before held (a ∷ []) k (sym (ap is_some (under-retired held a k tt)) ∙ was)

notes-ended_all : (heal : Option Heal) (held : HeldKnown) (ended : List AccBody) (m : ℕ) → held_under (ended_all heal held ended) (keys.Note m) ≡ held_under held (keys.Note m)
notes-ended_all None held ended m = notes-without held ended m
notes-ended_all (Some heal) held ended m = notes-retired held ended m

ended-before : (heal : Option Heal) (held : HeldKnown) (ended : List AccBody) (m ring : ℕ) → contains_key (ended_all heal held ended) (accused_on m ring) ≡ true → contains_key held (accused_on m ring) ≡ true
ended-before None held ended m ring h = held-before held ended (accused_on m ring) h
ended-before (Some heal) held ended m ring h = retired-before held ended m ring h

beside-ended : (heal : Option Heal) (held : HeldKnown) (ended fell : List AccBody) → AreNoted body_of held → IsBeside held (without_all (ended_all heal held ended) fell)
beside-ended heal held ended fell h = record {
  notes = λ m. notes-without (ended_all heal held ended) fell m ∙ notes-ended_all heal held ended m;
  accused = λ m ring is. h.accused m ring (ended-before heal held ended m ring (held-before (ended_all heal held ended) fell (accused_on m ring) is));
}

beside-unremoved : (held : HeldKnown) (n : ℕ) → AreNoted body_of held → IsBeside held (fin.remove held (keys.Removal n))
beside-unremoved held n h = record {
  notes = λ m. under-other held n None (keys.Note m) tt;
  accused = λ m ring is. h.accused m ring (sym (ap is_some (under-other held n None (accused_on m ring) tt)) ∙ is);
}

-- a note more
note-under : (held : HeldKnown) (n : ℕ) (x : Known) (m : ℕ) → held_under (fin.insert held (keys.Note n) x) (keys.Note m) ≡ cond (eq_by_cmp key_cmp (keys.Note m) (keys.Note n)) (Some x) (held_under held (keys.Note m))
note-under held n x m = fin.get-insert key_cmp_total held (keys.Note n) x (keys.Note m)

has-note_more : (held : HeldKnown) (n : NoteBody) (x : Known) (m : ℕ) → body_of x ≡ Note n → has_note held m ≡ true → has_note (fin.insert held (keys.Note n.member) x) m ≡ true
has-note_more held n x m is h =
    let b : Bool = eq_by_cmp key_cmp (keys.Note m) (keys.Note n.member) in
    ap (λ o. is_some (note_in body_of o)) (note-under held n.member x m)
    ∙ cond_both b (Some x) (held_under held (keys.Note m)) (λ o. is_some (note_in body_of o) ≡ true) (λ yes. ap (λ y. is_some (note_of_body y)) is) (λ no. h)

noted-note_more : (held : HeldKnown) (n : NoteBody) (x : Known) → body_of x ≡ Note n → 0 < n.epoch → AreNoted body_of held → AreNoted body_of (fin.insert held (keys.Note n.member) x)
noted-note_more held n x is positive h = record {
  epoch = λ m.
      let P : Option Known → Type 0 = λ o. IfSome (note_in body_of o) (λ (y : NoteBody). 0 < y.epoch) in
      subst P (sym (note-under held n.member x m))
      (cond_both (eq_by_cmp key_cmp (keys.Note m) (keys.Note n.member)) (Some x) (held_under held (keys.Note m)) P
      (λ yes. subst (λ y. IfSome (note_of_body y) (λ (z : NoteBody). 0 < z.epoch)) (sym is) positive) (λ no. h.epoch m));
  accused = λ m ring c. has-note_more held n x m is (h.accused m ring (sym (ap is_some (fin.get-insert key_cmp_total held (keys.Note n.member) x (accused_on m ring))) ∙ c));
}

same-note : (m : ℕ) → eq_by_cmp key_cmp (keys.Note m) (keys.Note m) ≡ true
same-note m = is_key-same (keys.Note m)

has-note_here : (held : HeldKnown) (n : NoteBody) (x : Known) → body_of x ≡ Note n → has_note (fin.insert held (keys.Note n.member) x) n.member ≡ true
has-note_here held n x is =
    ap (λ o. is_some (note_in body_of o)) (note-under held n.member x n.member ∙ ap (λ b. cond b (Some x) (held_under held (keys.Note n.member))) (same-note n.member)) ∙ ap (λ y. is_some (note_of_body y)) is

-- who has joined stays so where nobody's places change
pub still : (life next : Life) (me : ℕ) → next.places ≡ life.places → has_joined life me ≡ true → has_joined next me ≡ true
still life next me same joined = ap (λ (p : ByNumber (List (List ℕ))). contains_key p me) same ∙ joined

-- ---- steps of the life

beside-step : (g : Group) (e : Event) (life next : Life) (r : Report) (held later : HeldKnown) → Steps g e life next r → ((m : ℕ) → IsNotOwn m e) → IsBeside held later → HoldsNotes life held → HoldsNotes next later
beside-step g e life next r held later steps other b h = record {
  state = (step g h.state e).state;
  holds = steps.holds h.state h.holds;
  newest_held = λ m is. has-beside held later m b (h.newest_held m (sym (ap is_some (step-same g m h.state e (other m)).note) ∙ is));
  noted = noted-beside held later b h.noted;
}

-- what a step ends is kept no more
pub notes-ended : (heal : Option Heal) (g : Group) (e : Event) (life next : Life) (r : Report) (held later : HeldKnown) → Steps g e life next r → ((m : ℕ) → IsNotOwn m e)
    → later ≡ without_all (ended_all heal held r.expired) r.fell → HoldsNotes life held → HoldsNotes next later
notes-ended heal g e life next r held later steps other is h =
    let rest : HeldKnown = without_all (ended_all heal held r.expired) r.fell in
    subst (HoldsNotes next) (sym is) (beside-step g e life next r held rest steps other (beside-ended heal held r.expired r.fell h.noted) h)

-- a certificate is accepted
pub notes-certificate : (g : Group) (e : Event) (life next : Life) (r : Report) (held later : HeldKnown) (x : Known) (m : ℕ) → Steps g e life next r → ((m : ℕ) → IsNotOwn m e) → key_of (body_of x) ≡ keys.Certificate m
    → later ≡ fin.insert held (key_of (body_of x)) x → HoldsNotes life held → HoldsNotes next later
notes-certificate g e life next r held later x m steps other key is h =
    let put : HeldKnown = fin.insert held (keys.Certificate m) x in
    subst (HoldsNotes next) (sym (is ∙ ap (λ k. fin.insert held k x) key)) (beside-step g e life next r held put steps other (beside-certificate held m x h.noted) h)

-- an accusation is accepted of one who has a note
pub notes-accusation : (g : Group) (e : Event) (life next : Life) (r : Report) (held later : HeldKnown) (x : Known) (a : AccBody) → Steps g e life next r → ((m : ℕ) → IsNotOwn m e) → body_of x ≡ Accusation a
    → is_some (fin.get life.notes a.accused) ≡ true → later ≡ fin.insert held (key_of (body_of x)) x → HoldsNotes life held → HoldsNotes next later
notes-accusation g e life next r held later x a steps other body some is h =
    let put : HeldKnown = fin.insert held (key_of_accusation a) x in
    let noted : has_note held a.accused ≡ true = h.newest_held a.accused (ap is_some (h.holds.at_number a.accused).newest_note ∙ some) in
    subst (HoldsNotes next) (sym (is ∙ ap (λ b. fin.insert held (key_of b) x) body)) (beside-step g e life next r held put steps other (beside-accusation held a x noted h.noted) h)

-- a note is accepted, or refused
pub notes-note : (heal : Option Heal) (g : Group) (n : NoteBody) (life next : Life) (r : Report) (held between left later : HeldKnown) (x : Known) → Steps g (Notes n) life next r
    → body_of x ≡ Note n → 0 < n.epoch → between ≡ without_all (ended_all heal held r.expired) r.fell → left ≡ fin.remove between (keys.Removal n.member)
    → later ≡ fin.insert left (key_of (body_of x)) x → HoldsNotes life held → HoldsNotes next later
notes-note heal g n life next r held between left later x steps body positive ends cleared is h =
    let rest : HeldKnown = without_all (ended_all heal held r.expired) r.fell in
    let clear : HeldKnown = fin.remove rest (keys.Removal n.member) in
    let put : HeldKnown = fin.insert clear (keys.Note n.member) x in
    let b1 : IsBeside held rest = beside-ended heal held r.expired r.fell h.noted in
    let noted1 : AreNoted body_of rest = noted-beside held rest b1 h.noted in
    let b2 : IsBeside rest clear = beside-unremoved rest n.member noted1 in
    let all : HoldsNotes next put =
    record {
      state = (step g h.state (Notes n)).state;
      holds = steps.holds h.state h.holds;
      newest_held = λ m some.
          elim (cases_Bool (eqb n.member m)) [
            | inl same ↦ subst (λ k. has_note put k ≡ true) (eqb-true n.member m same) (has-note_here clear n x body)
            | inr apart ↦
                let was = h.newest_held m (sym (ap is_some (step-same g m h.state (Notes n) apart).note) ∙ some) in
                has-note_more clear n x m body (has-beside rest clear m b2 (has-beside held rest m b1 was))
          ];
      noted = noted-note_more clear n x body positive (noted-beside rest clear b2 noted1);
    } in
    subst (HoldsNotes next)
    (sym (is ∙ ap (λ y. fin.insert left (key_of y) x) body ∙ ap (λ z. fin.insert z (keys.Note n.member) x) (cleared ∙ ap (λ z. fin.remove z (keys.Removal n.member)) ends))) all

-- as a life opens
pub notes-none : (life : Life) (held : HeldKnown) → Holds life (opening []) → held ≡ fin.empty → HoldsNotes life held
notes-none life held holds none = record {
  state = opening [];
  holds = holds;
  newest_held = λ m some. cc;
  noted = subst (AreNoted body_of) (sym none) (record {
    epoch = λ m. subst (λ o. IfSome (note_in body_of o) (λ (n : NoteBody). 0 < n.epoch)) (sym (fin.get-empty key_cmp (keys.Note m))) tt;
    accused = λ m ring is. absurd (nothing (held_under fin.empty (accused_on m ring)) (fin.get-empty key_cmp (accused_on m ring)) is);
  });
}
  where
    nothing : (o : Option Known) → o ≡ None → is_some o ≡ true → ⊥
    nothing None e h = cc
    nothing (Some x) e h = cc

-- who is accused without a fault has a note
pub accused-noted : (life : Life) (a : AccBody) → accusation_fault_in life a ≡ None → is_some (fin.get life.notes a.accused) ≡ true
accused-noted life a fine = ap is_some (passes life.group.t (facts_in life a) a fine).newest

-- ---- the newest notes

-- an event that is no note of the member leaves its newest
pub newest-same : (g : Group) (e : Event) (life next : Life) (r : Report) (held : HeldKnown) (m : ℕ) → Steps g e life next r → HoldsNotes life held → IsNotOwn m e → fin.get next.notes m ≡ fin.get life.notes m
newest-same g e life next r held m steps h other =
    sym ((steps.holds h.state h.holds).at_number m).newest_note ∙ (step-same g m h.state e other).note ∙ (h.holds.at_number m).newest_note

greater-beside : (n kept : NoteBody) (o : Ordering) → note_cmp n kept ≡ o → fault_beside kept o ≡ None → greater_note n (Some kept) ≡ n
greater-beside n kept Less e h = cc
greater-beside n kept Equal e h = cc
greater-beside n kept Greater e h = rw e refl

greater-after : (n : NoteBody) (o : Option NoteBody) → fault_after o n ≡ None → greater_note n o ≡ n
greater-after n None h = refl
greater-after n (Some kept) h = greater-beside n kept (note_cmp n kept) refl h

one-more : (st : State) (n : NoteBody) → fault_after (newest st.notes n.member) n ≡ None → newest (n ∷ st.notes) n.member ≡ Some n
one-more st n after = rw (eq-eqb n.member n.member refl) (ap (λ (x : NoteBody). Some x) (greater-after n (newest st.notes n.member) after))

after-fine : (t : ℕ) (joined : Bool) (kept : Option NoteBody) (n : NoteBody) → note_fault_by t joined kept n ≡ None → fault_after kept n ≡ None
after-fine t joined kept n fine = (passed (not (note_mask t n.mask.0)) faults.BadMask _ (passed (not joined) faults.UnknownMember _ fine).1).1

unless-none : (fault : Option Fault) (st : State) (next : Stepped) → fault ≡ None → unless_fault fault st next ≡ next
unless-none fault st next h = rw h refl

-- a note without a fault is its member's newest
pub newest-more : (g : Group) (n : NoteBody) (life next : Life) (r : Report) (held : HeldKnown) → life.group ≡ g → Steps g (Notes n) life next r → HoldsNotes life held → note_fault_in life n ≡ None → fin.get next.notes n.member ≡ Some n
newest-more g n life next r held group steps h fine =
    let st : State = h.state in
    let at = h.holds.at_number n.member in
    let fine2 : note_fault g.t st n ≡ None =
    ap (λ (x : Group). note_fault x.t st n) (sym group) ∙ ap (λ (b : Bool). note_fault_by life.group.t b (newest st.notes n.member) n) at.member ∙ ap (λ (o : Option NoteBody). note_fault_by life.group.t (has_joined life n.member) o n) at.newest_note ∙ fine in
    sym ((steps.holds st h.holds).at_number n.member).newest_note
    ∙ ap (λ (x : Stepped). newest x.state.notes n.member) (unless-none (note_fault g.t st n) st (after_note st n) fine2) ∙ one-more st n (after-fine g.t (is_member st n.member) (newest st.notes n.member) n fine2)

pub some_is : (x y : NoteBody) → Some x ≡ Some y → x ≡ y
some_is x y e = cc

-- an accusation against the node without a fault is against the note that the store keeps
pub asked-by : (life : Life) (me : ℕ) (kept : Stored) (a : AccBody) → accusation_fault_in life a ≡ None → fin.get life.notes me ≡ Some (own_note me kept) → a.accused ≡ me → IsAgainst (own_note me kept) a
asked-by life me kept a fine own who =
    let p = passes life.group.t (facts_in life a) a fine in
    let is : p.note ≡ own_note me kept = some_is _ _ (sym p.newest ∙ ap (fin.get life.notes) who ∙ own) in
    let parts = and_parts _ _ p.unanswered in
    record { member = who; epoch = sym (eqb-true p.note.epoch a.epoch parts.0) ∙ ap (λ (x : NoteBody). x.epoch) is; ring = sym (ap (λ (x : NoteBody). enables x.mask.0 a.ring.0) is) ∙ parts.1 }

ahead : (me : ℕ) (kept : Option NoteBody) (n stored : NoteBody) → kept ≡ Some stored → nat_eq n.member me ≡ true → own_ahead me kept n ≡ None → ⊥
ahead me kept n stored k e h = cc

-- a note that is accepted is another member's
pub others-of : (k : Knowledge) (r : Record) (b : Body) (stored : NoteBody) → newest k.state.notes k.own ≡ Some stored → first_fault_of k r b ≡ None → IsOthers k.own b
others-of k r (Certificate c) stored own fine = tt
others-of k r (Note n) stored own fine =
    let last = (option_or-none _ _ (option_or-none _ _ fine).1).1 in
    elim (cases_Bool (nat_eq n.member k.own)) [
      | inl same ↦ absurd (ahead k.own (newest k.state.notes k.own) n stored own same last)
      | inr apart ↦ apart
    ]
others-of k r (Accusation a) stored own fine = tt
