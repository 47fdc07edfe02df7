-- After an accepted note nothing older against its member is kept.
use Rattle.std.proofs.Common.{◌≡◌, ℕ, zero, suc, ◌+◌, ◌<◌, ◌≤◌, true, false, not, eqb, List, [], ◌∷◌, Option, Some, None, length, filter, inl, inr, refl, ap, sym, ◌∙◌, subst, arith}
use Rattle.std.specs.List.{slice_get}
use Rattle.std.specs.Option.{option_map_or}
use Rattle.std.specs.declared.cmp.Ordering.{Ordering}
use Rattle.std.specs.declared.cmp.Ordering.TheVariants.{Less, Equal, Greater}
use Rattle.std.proofs.lemmas.Bool.{cases_lt, cases_Bool, cond_both, eqb-true, eq-eqb, and_parts}
use Rattle.ff_ids.specs.declared.NoteBody.{NoteBody}
use Rattle.ff_ids.specs.declared.AccBody.{AccBody}
use Rattle.ff_ids.specs.declared.Group.{Group}
use Rattle.ff_ids.specs.declared.Fault.{Fault}
use Rattle.ff_ids.specs.Masks.{note_mask}
use Rattle.ff_ids.specs.Notes.{note_cmp, greater_note, newest}
use Rattle.ff_ids.specs.Views.{State, is_member, is_unanswered_by, stands}
use Rattle.ff_ids.specs.Faults.{note_fault, accusation_fault, fault_after, fault_beside}
use Rattle.ff_ids.specs.Steps.{Event, Joins, Notes, Accuses, Ticks, is_due, after_note, after_accusation, after_tick, unless_fault, unchanged, step}
use Rattle.ff_ids.specs.Lives.{state_at, IsAcceptedAt, IsNoteAcceptedAt}
use Rattle.life_laws.specs.Removals.{ExpiresAt, IsOlderThan}
use Rattle.life_laws.proofs.Lists.{In, In-from_filter, In-from_map, In-from_Contains}
use Rattle.life_laws.proofs.NoteLemmas.{below, below-back}
use Rattle.life_laws.proofs.ViewLemmas.{IsStanding-from, not_below-epoch}
use Rattle.life_laws.proofs.StepLemmas.{stands-accepted, In-with_kept}
use Rattle.ff_ids.proofs.FaultLemmas.{passed}
use Rattle.life_laws.proofs.LifeLemmas.{state_at-next, reports-at, event_at}

-- what stands is at the epoch of the newest note of the accused
standing-unanswered : (s : State) (a : AccBody) (n : NoteBody) → newest s.notes a.accused ≡ Some n → stands s a ≡ true → is_unanswered_by a n ≡ true
standing-unanswered s a n e h = sym (ap (λ o. option_map_or (is_unanswered_by a) o false) e) ∙ (IsStanding-from s a h).unanswered

standing-epoch : (s : State) (a : AccBody) (m : ℕ) (n : NoteBody) → newest s.notes m ≡ Some n → a.accused ≡ m → stands s a ≡ true → n.epoch ≡ a.epoch
standing-epoch s a m n e about h =
    let here : newest s.notes a.accused ≡ Some n = subst (λ v. newest s.notes v ≡ Some n) (sym about) e in
    eqb-true n.epoch a.epoch (and_parts _ _ (standing-unanswered s a n here h)).0

-- the member's newest note has this epoch at least, and so has each accusation kept against it
pub record IsPast (m epoch : ℕ) (s : State) : Type 0 where
  pub note : NoteBody
  pub is_newest : newest s.notes m ≡ Some note
  pub reached : epoch ≤ note.epoch
  pub kept : (q : AccBody × ℕ) → In s.kept q → q.0.accused ≡ m → epoch ≤ q.0.epoch

greater-reaches : (n o : NoteBody) → o.epoch ≤ (greater_note n (Some o)).epoch
greater-reaches n o = cond_both (below n o) o n (λ x. o.epoch ≤ x.epoch) (λ yes. omega arith) (λ no. not_below-epoch n o no)

greater-reaches_itself : (n : NoteBody) (o : Option NoteBody) → n.epoch ≤ (greater_note n o).epoch
greater-reaches_itself n None = omega arith
greater-reaches_itself n (Some o) = cond_both (below n o) o n (λ x. n.epoch ≤ x.epoch) (λ yes. not_below-epoch o n (below-back n o yes)) (λ no. omega arith)

newest-itself : (n : NoteBody) (notes : List NoteBody) → newest (n ∷ notes) n.member ≡ Some (greater_note n (newest notes n.member))
newest-itself n notes = rw (eq-eqb n.member n.member refl) refl

past-noted : (s : State) (m epoch : ℕ) (n : NoteBody) → IsPast m epoch s → IsPast m epoch (after_note s n).state
past-noted s m epoch n h =
    let kept : (q : AccBody × ℕ) → In (after_note s n).state.kept q → q.0.accused ≡ m → epoch ≤ q.0.epoch =
    λ q i. h.kept q (In-from_filter (λ p. stands (record s { notes = n ∷ s.notes }) p.0) s.kept q i).0 in
    elim (cases_Bool (eqb n.member m)) [
      | inl own ↦ record {
        note = greater_note n (Some h.note);
        is_newest = rw (own, h.is_newest) refl;
        reached = omega (arith, h.reached, greater-reaches n h.note);
        kept = kept;
      }
      | inr other ↦ record { note = h.note; is_newest = rw other h.is_newest; reached = h.reached; kept = kept }
    ]

past-accused : (t : ℕ) (s : State) (m epoch : ℕ) (a : AccBody) → accusation_fault t s a ≡ None → IsPast m epoch s → IsPast m epoch (after_accusation s a)
past-accused t s m epoch a fine h =
    record {
      note = h.note;
      is_newest = h.is_newest;
      reached = h.reached;
      kept = λ q i about. elim (In-with_kept (a, s.moment) q s.kept i) [
        | inl e ↦
            let same = standing-epoch s a m h.note h.is_newest (ap (λ p. p.0.accused) e ∙ about) (stands-accepted t s a fine) in
            subst (λ p. epoch ≤ p.0.epoch) e (omega (arith, h.reached, same))
        | inr j ↦ h.kept q j about
      ];
    }

pub past-next : (g : Group) (s : State) (e : Event) (m epoch : ℕ) → IsPast m epoch s → IsPast m epoch (step g s e).state
past-next g s (Joins number places) m epoch h =
    elim (cases_Bool (is_member s number)) [
      | inl old ↦ rw old h
      | inr new ↦ rw new record { note = h.note; is_newest = h.is_newest; reached = h.reached; kept = h.kept }
    ]
past-next g s (Notes n) m epoch h =
    by_fault (note_fault g.t s n)
  where
    by_fault : (f : Option Fault) → IsPast m epoch (unless_fault f s (after_note s n)).state
    by_fault None = past-noted s m epoch n h
    by_fault (Some f) = h
past-next g s (Accuses a) m epoch h =
    by_fault (accusation_fault g.t s a) refl
  where
    by_fault : (f : Option Fault) → accusation_fault g.t s a ≡ f → IsPast m epoch (unless_fault f s (unchanged (after_accusation s a))).state
    by_fault None fine = past-accused g.t s m epoch a fine h
    by_fault (Some f) faulty = h
past-next g s Ticks m epoch h =
    let next = (after_tick g.timeout s).state in
    record {
      note = h.note;
      is_newest = h.is_newest;
      reached = h.reached;
      kept = λ q i.
          let r = In-from_filter (λ p. stands next p.0) (filter (λ p. not (is_due g.timeout (s.moment + 1) p)) s.kept) q i in
          h.kept q (In-from_filter (λ p. not (is_due g.timeout (s.moment + 1) p)) s.kept q r.0).0;
    }

pub past-accepted : (g : Group) (s : State) (n : NoteBody) → note_fault g.t s n ≡ None → IsPast n.member n.epoch (step g s (Notes n)).state
past-accepted g s n fine =
    let new = record s { notes = n ∷ s.notes } in
    let best = greater_note n (newest s.notes n.member) in
    let reached = greater-reaches_itself n (newest s.notes n.member) in
    let after : IsPast n.member n.epoch (after_note s n).state =
    record {
      note = best;
      is_newest = newest-itself n s.notes;
      reached = reached;
      kept = λ q i about.
          let r = In-from_filter (λ p. stands new p.0) s.kept q i in
          let same = standing-epoch new q.0 n.member best (newest-itself n s.notes) about r.1 in
          omega (arith, reached, same);
    } in
    rw fine after

below_length : (events : List Event) (j : ℕ) (e : Event) → slice_get events j ≡ Some e → j < length events
below_length [] j e h = cc
below_length (x ∷ events) zero e h = omega arith
below_length (x ∷ events) (suc j) e h = omega (arith, below_length events j e h)

pub past : (g : Group) (s : State) (events : List Event) (i j : ℕ) (n : NoteBody) → IsNoteAcceptedAt g s events i n → i < j → j ≤ length events → IsPast n.member n.epoch (state_at g s events j)
past g s events i zero n at low high = absurd (omega arith)
past g s events i (suc j) n at low high =
    let more : j + 1 ≡ suc j = omega arith in
    let here : IsPast n.member n.epoch (state_at g s events (j + 1)) =
    elim (cases_lt i j) [
      | inl before ↦
          let e = event_at events j (omega arith) in
          rw (state_at-next g s events j e.0 e.1) (past-next g (state_at g s events j) e.0 n.member n.epoch (past g s events i j n at before (omega arith)))
      | inr last ↦
          let same : i ≡ j = omega arith in
          subst (λ k. IsPast n.member n.epoch (state_at g s events (k + 1))) same (rw (state_at-next g s events i (Notes n) at.event) (past-accepted g (state_at g s events i) n at.no_fault))
    ] in
    subst (λ k. IsPast n.member n.epoch (state_at g s events k)) more here

pub none_accepted : (g : Group) (s : State) (events : List Event) (i j : ℕ) (n : NoteBody) (a : AccBody) → i < j → IsNoteAcceptedAt g s events i n → IsOlderThan a n → IsAcceptedAt g s events j a → ⊥
none_accepted g s events i j n a low at older accepted =
    let len = below_length events j (Accuses a) accepted.event in
    let p = past g s events i j n at low (omega arith) in
    let same = standing-epoch (state_at g s events j) a n.member p.note p.is_newest older.against (stands-accepted g.t (state_at g s events j) a accepted.no_fault) in
    absurd (omega (arith, older.older, p.reached, same))

-- only a tick reports that accusations expired, of those that were kept
expired-kept : (g : Group) (s : State) (e : Event) (a : AccBody) → In (step g s e).report.expired a → (q : AccBody × ℕ) × (In s.kept q × (q.0 ≡ a))
expired-kept g s (Joins number places) a =
    elim (cases_Bool (is_member s number)) [
      | inl old ↦ rw old (λ i. absurd i)
      | inr new ↦ rw new (λ i. absurd i)
    ]
expired-kept g s (Notes n) a =
    by_fault (note_fault g.t s n)
  where
    by_fault : (f : Option Fault) → In (unless_fault f s (after_note s n)).report.expired a → (q : AccBody × ℕ) × (In s.kept q × (q.0 ≡ a))
    by_fault None i = absurd i
    by_fault (Some f) i = absurd i
expired-kept g s (Accuses b) a =
    by_fault (accusation_fault g.t s b)
  where
    by_fault : (f : Option Fault) → In (unless_fault f s (unchanged (after_accusation s b))).report.expired a → (q : AccBody × ℕ) × (In s.kept q × (q.0 ≡ a))
    by_fault None i = absurd i
    by_fault (Some f) i = absurd i
expired-kept g s Ticks a = λ i.
    let p = In-from_map (λ p. p.0) (filter (is_due g.timeout (s.moment + 1)) s.kept) a i in
    (p.0, ((In-from_filter (is_due g.timeout (s.moment + 1)) s.kept p.0 p.1.0).0, p.1.1))

pub none_expires : (g : Group) (s : State) (events : List Event) (i j : ℕ) (n : NoteBody) (a : AccBody) → i < j → IsNoteAcceptedAt g s events i n → IsOlderThan a n → ExpiresAt g s events j a → ⊥
none_expires g s events i j n a low at older expires =
    let r = reports-at g s events j expires.report expires.reported in
    let len = below_length events j r.0 r.1.0 in
    let p = past g s events i j n at low (omega arith) in
    let listed = In-from_Contains expires.report.expired a expires.expired in
    let q = expired-kept g (state_at g s events j) r.0 a (subst (λ x. In x.expired a) (sym r.1.1) listed) in
    let late = p.kept q.0 q.1.0 (ap (λ x. x.accused) q.1.1 ∙ older.against) in
    let same = ap (λ x. x.epoch) q.1.1 in
    absurd (omega (arith, older.older, late, same))

-- a note without a fault becomes the newest
newest_beside : (n k : NoteBody) (r : Ordering) → note_cmp n k ≡ r → fault_beside k r ≡ None → greater_note n (Some k) ≡ n
newest_beside n k Less e f = cc
newest_beside n k Equal e f = cc
newest_beside n k Greater e f = rw e refl

newest_after : (n : NoteBody) (o : Option NoteBody) → fault_after o n ≡ None → greater_note n o ≡ n
newest_after n None f = refl
newest_after n (Some k) f = newest_beside n k (note_cmp n k) refl f

pub newest-accepted : (t : ℕ) (s : State) (n : NoteBody) → note_fault t s n ≡ None → newest (n ∷ s.notes) n.member ≡ Some n
newest-accepted t s n fine =
    let member = passed (not (is_member s n.member)) _ _ fine in
    let mask = passed (not (note_mask t n.mask.0)) _ _ member.1 in
    newest-itself n s.notes ∙ ap (λ x. Some x) (newest_after n (newest s.notes n.member) mask.1)

pub left_unanswered : (t : ℕ) (s : State) (n : NoteBody) → note_fault t s n ≡ None → (q : AccBody × ℕ) → In (after_note s n).state.kept q → q.0.accused ≡ n.member → is_unanswered_by q.0 n ≡ true
left_unanswered t s n fine q i about =
    let new = record s { notes = n ∷ s.notes } in
    let r = In-from_filter (λ p. stands new p.0) s.kept q i in
    let here : newest new.notes q.0.accused ≡ Some n = subst (λ v. newest new.notes v ≡ Some n) (sym about) (newest-accepted t s n fine) in
    standing-unanswered new q.0 n here r.1
