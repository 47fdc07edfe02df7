-- Notes that come one by one, and the newest of those accepted.
use Rattle.std.proofs.Common.{arith, ◌==◌, ◌≡◌, ℕ, Bool, true, false, ◌&&◌, not, cond, eqb, List, [], ◌∷◌, Option, Some, None, ◌⊎◌, inl, inr, map, filter, refl, ap, sym, ◌∙◌, subst}
use Rattle.std.specs.List.{list_any, AllByRecursion}
use Rattle.std.specs.declared.cmp.Ordering.{Ordering}
use Rattle.std.specs.declared.cmp.Ordering.TheVariants.{Less, Equal, Greater}
use Rattle.std.proofs.lemmas.Bool.{cond_both, eqb-true}
use Rattle.std.proofs.lemmas.Bool.Decides.{nat_tests}
use Rattle.ff_ids.specs.declared.NoteBody.{NoteBody}
use Rattle.ff_ids.specs.declared.Group.{Group}
use Rattle.ff_ids.specs.declared.Fault.{Fault}
use Rattle.ff_ids.specs.declared.Fault.TheVariants as faults
use Rattle.ff_ids.specs.Masks.{note_mask}
use Rattle.ff_ids.specs.Notes.{note_cmp, greater_note, newest}
use Rattle.ff_ids.specs.Views.{Member, State, is_member}
use Rattle.ff_ids.specs.Faults.{note_fault, fault_after, fault_beside}
use Rattle.ff_ids.specs.Steps.{Notes, after_note, unless_fault, step}
use Rattle.ff_ids.specs.Lives.{after}
use Rattle.life_laws.proofs.Lists.{In}
use Rattle.life_laws.proofs.NoteLemmas.{below, tie, newest-fits, same_newest}

-- the good ones of the notes before those that came earlier, the last first
abbrev pub pushed : (NoteBody → Bool) → List NoteBody → List NoteBody → List NoteBody
pushed p [] earlier = earlier
pushed p (n ∷ ns) earlier = pushed p ns (cond (p n) (n ∷ earlier) earlier)

pub pushed-from : (p : NoteBody → Bool) (ns earlier : List NoteBody) (x : NoteBody) → In (pushed p ns earlier) x → In (filter p ns) x ⊎ In earlier x
pushed-from p [] earlier x = λ h. inr h
pushed-from p (n ∷ ns) earlier x =
    elim (p n) as (λ b. In (pushed p ns (cond b (n ∷ earlier) earlier)) x → In (cond b (n ∷ filter p ns) (filter p ns)) x ⊎ In earlier x) [
      | true ↦ λ h. elim (pushed-from p ns (n ∷ earlier) x h) [ inl i ↦ inl (inr i) | inr j ↦ elim j [ inl q ↦ inl (inl q) | inr k ↦ inr k ] ]
      | false ↦ λ h. pushed-from p ns earlier x h
    ]

pub pushed-to : (p : NoteBody → Bool) (ns earlier : List NoteBody) (x : NoteBody) → In (filter p ns) x ⊎ In earlier x → In (pushed p ns earlier) x
pushed-to p [] earlier x = λ h. elim h [ inl i ↦ absurd i | inr j ↦ j ]
pushed-to p (n ∷ ns) earlier x =
    elim (p n) as (λ b. In (cond b (n ∷ filter p ns) (filter p ns)) x ⊎ In earlier x → In (pushed p ns (cond b (n ∷ earlier) earlier)) x) [
      | true ↦ λ h. elim h [
        | inl i ↦ elim i [ inl q ↦ pushed-to p ns (n ∷ earlier) x (inr (inl q)) | inr k ↦ pushed-to p ns (n ∷ earlier) x (inl k) ]
        | inr j ↦ pushed-to p ns (n ∷ earlier) x (inr (inr j))
      ]
      | false ↦ λ h. pushed-to p ns earlier x h
    ]

pub newest-pushed : (p : NoteBody → Bool) (ns : List NoteBody) (m : ℕ) → newest (pushed p ns []) m ≡ newest (filter p ns) m
newest-pushed p ns m =
    same_newest (pushed p ns []) (filter p ns) m
    (λ x i. elim (pushed-from p ns [] x i) [ inl j ↦ j | inr k ↦ absurd k ])
    (λ x i. pushed-to p ns [] x (inl i))

pub filter-all : (p : NoteBody → Bool) (ns : List NoteBody) → AllByRecursion (λ n. p n ≡ true) ns → filter p ns ≡ ns
filter-all p [] h = refl
filter-all p (n ∷ ns) h = rw h.0 (ap (λ ys. n ∷ ys) (filter-all p ns h.1))

-- a note that isn't greater than the newest leaves it
no_newer : (ns : List NoteBody) (n k : NoteBody) (m : ℕ) → newest ns n.member ≡ Some k → greater_note n (Some k) ≡ k → newest ns m ≡ newest (n ∷ ns) m
no_newer ns n k m e f =
    cond_both (eqb n.member m) (Some (greater_note n (newest ns m))) (newest ns m) (λ o. newest ns m ≡ o)
    (λ yes.
    let here : newest ns m ≡ Some k = subst (λ v. newest ns v ≡ Some k) (eqb-true n.member m yes) e in
    rw here (ap (λ v. Some v) (sym f)))
    (λ no. refl)

equal_notes : (n k : NoteBody) → note_cmp n k ≡ Equal → (below n k ≡ false) × (below k n ≡ false)
equal_notes n k e = (rw e refl, grind (arith, nat_tests))

came_beside : (s : State) (n k : NoteBody) (m : ℕ) (r : Ordering) → newest s.notes n.member ≡ Some k → note_cmp n k ≡ r → newest (unless_fault (fault_beside k r) s (after_note s n)).state.notes m ≡ newest (n ∷ s.notes) m
came_beside s n k m Less e f = no_newer s.notes n k m e (rw f refl)
came_beside s n k m Equal e f =
    let both = equal_notes n k f in
    no_newer s.notes n k m e (rw both.0 (tie n k both.0 both.1 (sym (newest-fits s.notes n.member k e).1)))
came_beside s n k m Greater e f = refl

came_after : (s : State) (n : NoteBody) (m : ℕ) (o : Option NoteBody) → newest s.notes n.member ≡ o → newest (unless_fault (fault_after o n) s (after_note s n)).state.notes m ≡ newest (n ∷ s.notes) m
came_after s n m None e = refl
came_after s n m (Some k) e = came_beside s n k m (note_cmp n k) e refl

-- a member's note with an allowed mask counts, whether it is accepted or not, and another doesn't
pub came : (g : Group) (s : State) (n : NoteBody) (m : ℕ) → newest (step g s (Notes n)).state.notes m ≡ newest (cond (is_member s n.member && note_mask g.t n.mask.0) (n ∷ s.notes) s.notes) m
came g s n m =
    elim (is_member s n.member) as (λ b. newest (unless_fault (cond (not b) (Some faults.UnknownMember) (cond (not (note_mask g.t n.mask.0)) (Some faults.BadMask) (fault_after (newest s.notes n.member) n))) s (after_note s n)).state.notes m ≡ newest (cond (b && note_mask g.t n.mask.0) (n ∷ s.notes) s.notes) m) [
      | true ↦ elim (note_mask g.t n.mask.0) as (λ b. newest (unless_fault (cond (not b) (Some faults.BadMask) (fault_after (newest s.notes n.member) n)) s (after_note s n)).state.notes m ≡ newest (cond b (n ∷ s.notes) s.notes) m) [
        | true ↦ came_after s n m (newest s.notes n.member) refl
        | false ↦ refl
      ]
      | false ↦ refl
    ]

members_stay : (s : State) (n : NoteBody) (f : Option Fault) → (unless_fault f s (after_note s n)).state.members ≡ s.members
members_stay s n None = refl
members_stay s n (Some f) = refl

abbrev allowed_of : ℕ → List Member → NoteBody → Bool
allowed_of t members n = list_any (λ x. x.number == n.member) members && note_mask t n.mask.0

pub newest-came : (g : Group) (ns : List NoteBody) (s : State) (earlier : List NoteBody) → ((m : ℕ) → newest s.notes m ≡ newest earlier m) → (m : ℕ) → newest (after g s (map Notes ns)).notes m ≡ newest (pushed (allowed_of g.t s.members) ns earlier) m
newest-came g [] s earlier h m = h m
newest-came g (n ∷ ns) s earlier h m =
    let next = (step g s (Notes n)).state in
    let kept : (v : ℕ) → newest next.notes v ≡ newest (cond (allowed_of g.t s.members n) (n ∷ earlier) earlier) v = λ v. came g s n v ∙ with_same v (allowed_of g.t s.members n) in
    newest-came g ns next (cond (allowed_of g.t s.members n) (n ∷ earlier) earlier) kept m
    ∙ ap (λ members. newest (pushed (allowed_of g.t members) ns (cond (allowed_of g.t s.members n) (n ∷ earlier) earlier)) m) (members_stay s n (note_fault g.t s n))
  where
    with_same : (v : ℕ) (b : Bool) → newest (cond b (n ∷ s.notes) s.notes) v ≡ newest (cond b (n ∷ earlier) earlier) v
    with_same v true = ap (λ o. cond (eqb n.member v) (Some (greater_note n o)) o) (h v)
    with_same v false = h v
