-- What a join and a note leave of the view and of the monitors.
use Rattle.std.proofs.Common.{◌≡◌, ℕ, ◌≤◌, true, false, eqb, List, ◌∷◌, Option, Some, None, inl, inr, map, refl, ap, sym, ◌∙◌, subst, arith}
use Rattle.std.specs.Option.{option_map_or}
use Rattle.std.proofs.lemmas.Bool.{cases_Bool, cond_both, eqb-true, leb-true, le-leb, eq-eqb, false≢true, and_parts, and_from, false_from_ne_true}
use Rattle.std.proofs.lemmas.Bool.Decides.{nat_tests}
use Rattle.ff_ids.specs.declared.NoteBody.{NoteBody}
use Rattle.ff_ids.specs.declared.AccBody.{AccBody}
use Rattle.ff_ids.specs.Notes.{greater_note, is_leaving, newest}
use Rattle.ff_ids.specs.Rings.{nearest_before}
use Rattle.ff_ids.specs.Views.{State, places_of, is_member, has_expired, in_view_by, viewed_by, in_view, view, all_numbers, key_at, key_of, monitor, is_number, is_unanswered_by, stands}
use Rattle.ff_ids.specs.Steps.{joined}
use Rattle.life_laws.proofs.Lists.{In, some_passes, any_from_In, map-filter_agree}
use Rattle.life_laws.proofs.NoteLemmas.{below, newest-fits}
use Rattle.ff_ids.proofs.ViewLemmas.{in_view_by-fresh, not_expired}

-- what it takes to be in the view
pub record IsViewed (s : State) (m : ℕ) : Type 0 where
  pub note : NoteBody
  pub is_newest : newest s.notes m ≡ Some note
  pub shown : in_view_by note (has_expired s.expired note) ≡ true

viewed : (s : State) (m : ℕ) (o : Option NoteBody) → newest s.notes m ≡ o → viewed_by s.expired o ≡ true → IsViewed s m
viewed s m None e h = absurd (false≢true h)
viewed s m (Some n) e h = record { note = n; is_newest = e; shown = h }

pub IsViewed-from : (s : State) (m : ℕ) → in_view s m ≡ true → IsViewed s m
IsViewed-from s m h = viewed s m (newest s.notes m) refl h

pub in_view-from : (s : State) (m : ℕ) → IsViewed s m → in_view s m ≡ true
in_view-from s m v = ap (viewed_by s.expired) v.is_newest ∙ v.shown

-- each note is of one who has joined
abbrev pub AllJoined : State → Type 0
AllJoined s = (n : NoteBody) → In s.notes n → is_member s n.member ≡ true

pub joined-viewed : (s : State) (m : ℕ) → AllJoined s → in_view s m ≡ true → is_member s m ≡ true
joined-viewed s m known h =
    let v = IsViewed-from s m h in
    let g = newest-fits s.notes m v.note v.is_newest in
    subst (λ k. is_member s k ≡ true) g.1 (known v.note g.0)

key-joined : (s : State) (number : ℕ) (places : List (List ℕ)) (ring m : ℕ) → is_member s number ≡ false → is_member s m ≡ true → key_of (joined s number places) ring m ≡ key_of s ring m
key-joined s number places ring m new old =
    ap (λ q. key_at ring q m)
    (cond_both (eqb number m) places (places_of s.members m) (λ q. q ≡ places_of s.members m)
    (λ yes. absurd (false≢true (sym new ∙ ap (is_member s) (eqb-true number m yes) ∙ old)))
    (λ no. refl))

pub monitor-joined : (s : State) (number : ℕ) (places : List (List ℕ)) (ring m : ℕ) → AllJoined s → is_member s number ≡ false → in_view s m ≡ true → monitor (joined s number places) ring m ≡ monitor s ring m
monitor-joined s number places ring m known new here =
    let others : map (key_of (joined s number places) ring) (view s) ≡ map (key_of s ring) (view s) =
    map-filter_agree (key_of (joined s number places) ring) (key_of s ring) (in_view s) (λ v h. key-joined s number places ring v new (joined-viewed s v known h)) all_numbers in
    ap (λ ks. nearest_before ks (key_of (joined s number places) ring m)) others
    ∙ ap (nearest_before (map (key_of s ring) (view s))) (key-joined s number places ring m new (joined-viewed s m known here))

-- what it takes to stand
pub record IsStanding (s : State) (a : AccBody) : Type 0 where
  pub viewed : in_view s a.accused ≡ true
  pub unanswered : option_map_or (is_unanswered_by a) (newest s.notes a.accused) false ≡ true
  pub by_monitor : is_number (monitor s a.ring.0 a.accused) a.accuser ≡ true

pub IsStanding-from : (s : State) (a : AccBody) → stands s a ≡ true → IsStanding s a
IsStanding-from s a h =
    let parts = and_parts _ _ h in
    let first = and_parts _ _ parts.0 in
    record { viewed = first.0; unanswered = first.1; by_monitor = parts.1 }

pub stands-from : (s : State) (a : AccBody) → IsStanding s a → stands s a ≡ true
stands-from s a h = and_from _ _ (and_from _ _ h.viewed h.unanswered) h.by_monitor

pub stands-joined : (s : State) (number : ℕ) (places : List (List ℕ)) (a : AccBody) → AllJoined s → is_member s number ≡ false → stands s a ≡ true → stands (joined s number places) a ≡ true
stands-joined s number places a known new h =
    let t = IsStanding-from s a h in
    let same = monitor-joined s number places a.ring.0 a.accused known new t.viewed in
    stands-from (joined s number places) a
    record {
      viewed = t.viewed;
      unanswered = t.unanswered;
      by_monitor = ap (λ o. is_number o a.accuser) same ∙ t.by_monitor;
    }

-- an expired accusation removes each older note of the member
expired-older : (expired : List AccBody) (o n : NoteBody) → o.member ≡ n.member → o.epoch ≤ n.epoch → has_expired expired o ≡ false → has_expired expired n ≡ false
expired-older expired o n e le alive =
    false_from_ne_true _ (λ h.
    let r = some_passes _ expired h in
    let t = and_parts _ _ r.1.1 in
    let ne = leb-true n.epoch r.0.epoch t.1 in
    false≢true (sym alive ∙ any_from_In _ expired r.0 r.1.0 (and_from _ _ (eq-eqb r.0.accused o.member (eqb-true r.0.accused n.member t.0 ∙ sym e)) (le-leb o.epoch r.0.epoch (omega arith)))))

pub not_below-epoch : (n o : NoteBody) → below n o ≡ false → o.epoch ≤ n.epoch
not_below-epoch n o e = grind (arith, nat_tests)

-- a further note removes nobody but its member, and that only where it leaves by it
pub in_view-noted : (s : State) (n : NoteBody) (m : ℕ) → (n.member ≡ m → is_leaving n ≡ false) → in_view s m ≡ true → in_view (record s { notes = n ∷ s.notes }) m ≡ true
in_view-noted s n m stays h =
    let v = IsViewed-from s m h in
    let g = newest-fits s.notes m v.note v.is_newest in
    let T : Option NoteBody → Type 0 = λ o. viewed_by s.expired o ≡ true in
    cond_both (eqb n.member m) (Some (greater_note n (newest s.notes m))) (newest s.notes m) T
    (λ yes. rw v.is_newest
    (cond_both (below n v.note) v.note n (λ x. in_view_by x (has_expired s.expired x) ≡ true)
    (λ older. v.shown)
    (λ newer. ap (in_view_by n) (expired-older s.expired v.note n (g.1 ∙ sym (eqb-true n.member m yes)) (not_below-epoch n v.note newer) (not_expired v.note _ v.shown)) ∙ in_view_by-fresh n (stays (eqb-true n.member m yes)))))
    (λ no. h)

-- whom a further note takes out of the view leaves by it
pub record LeavesWith (n : NoteBody) (m : ℕ) : Type 0 where
  pub of_member : n.member ≡ m
  pub leaving : is_leaving n ≡ true

pub left-noted : (s : State) (n : NoteBody) (m : ℕ) → in_view s m ≡ true → in_view (record s { notes = n ∷ s.notes }) m ≡ false → LeavesWith n m
left-noted s n m was is =
    elim (cases_Bool (eqb n.member m)) [
      | inl of ↦ elim (cases_Bool (is_leaving n)) [
        | inl leaving ↦ record { of_member = eqb-true n.member m of; leaving = leaving }
        | inr stays ↦ absurd (false≢true (sym is ∙ in_view-noted s n m (λ e. stays) was))
      ]
      | inr other ↦ absurd (false≢true (sym is ∙ in_view-noted s n m (λ e. absurd (false≢true (sym other ∙ eq-eqb n.member m e))) was))
    ]
