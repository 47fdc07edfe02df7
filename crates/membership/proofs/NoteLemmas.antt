-- What an accepted note changes.
use Rattle.std.proofs.Common.{◌≡◌, ◌≢◌, ℕ, ◌<◌, Bool, true, false, cond, not, ◌&&◌, ◌||◌, eqb, nat_le, List, [], ◌∷◌, map, ⊎_elim, Option, Some, None, refl, ap, sym, ◌∙◌, subst, arith}
use Rattle.std.specs.List.{filter, AllByRecursion, All}
use Rattle.std.specs.Ordering.{is_lt}
use Rattle.std.specs.declared.cmp.Ordering.{Ordering}
use Rattle.std.specs.FinMap.{get, insert}
use Rattle.std.proofs.lemmas.Bool.{eqb-true, eqb-false, eq-eqb, false≢true}
use Rattle.std.proofs.lemmas.List.Elements.{filter_passes, recursion_from_All}
use Rattle.ff_ids.specs.declared.TheConstants.{MEMBERS}
use Rattle.ff_ids.specs.declared.AccBody.{AccBody}
use Rattle.ff_ids.specs.declared.NoteBody.{NoteBody}
use Rattle.ff_ids.specs.Masks.{ring_count}
use Rattle.ff_ids.specs.Notes.{is_leaving, newest, greater_note, note_cmp}
use Rattle.ff_ids.specs.Faults.{fault_after, fault_beside}
use Rattle.ff_ids.specs.Views.{State, in_view, in_view_by, has_expired, all_numbers, stands, is_number, viewed_by}
use Rattle.ff_ids.specs.Steps.{Report, only_before, after_note}
use Rattle.removal_timer.specs.Kept.{IsInOrder}
use Rattle.ff_ids.proofs.ViewLemmas.{in_view_by-left, in_view_by-expired, in_view_by-fresh, not_expired}
use Rattle.membership.specs.declared.kept.NoteEffect.{NoteEffect}
use Rattle.membership.specs.declared.kept.NoteEffect.TheVariants.{Enters, Leaves, Stays}
use Rattle.membership.specs.Kept.{expired_at, is_live, is_live_at, effect_between}
use Rattle.membership.specs.Life.{Life, has_joined, live_successor, effect_in, with_note}
use Rattle.membership.specs.Ends.{AreTheirs, Entry, is_against_next, is_answered, is_ended_by, is_of}
use Rattle.membership.specs.Reports.{Moves, enters_by, leaves_by, told_of}
use Rattle.membership.specs.Holds.{Holds, HoldsAt}
use Rattle.membership.proofs.NumberLemmas.{either_bool, all_length, AtEach, AtEach-all, filter-filter, filter-range_one}
use Rattle.membership.proofs.HoldLemmas.{HoldsEach, has_expired-greatest, in_view-each, in_view-at, live_successor-each}
use Rattle.membership.proofs.SoundLemmas.{beside, by_number, get_here, get_other, live_here, live_same, stays_live, was_in, was_out}
use Rattle.membership.proofs.MonitorLemmas.{ComesIn, GoesOut, fewer-out}
use Rattle.membership.specs.Touched.{IsUpheld}
use Rattle.membership.proofs.TouchLemmas.{with_accepted, newest_other, by_leaver, stands-entered, stands-left_by, stands-answered}
use Rattle.membership.proofs.EndLemmas.{AllBy-then, AllBy-both, IsEntry, AllBy-entries, filter_agree_on, Ended}

-- ---- what is kept

greatest_is : (kept n : NoteBody) (o : Ordering) → fault_beside kept o ≡ None → cond (is_lt o) kept n ≡ n
greatest_is kept n o h = rw (beside kept o h) refl

-- a newer note is the greatest
greater_note-newer : (kept : Option NoteBody) (n : NoteBody) → fault_after kept n ≡ None → greater_note n kept ≡ n
greater_note-newer None n h = refl
greater_note-newer (Some kept) n h = greatest_is kept n (note_cmp n kept) h

newest_here : (notes : List NoteBody) (n : NoteBody) (kept : Option NoteBody) → newest notes n.member ≡ kept → fault_after kept n ≡ None → newest (n ∷ notes) n.member ≡ Some n
newest_here notes n kept e h =
    ap (λ b. cond b (Some (greater_note n (newest notes n.member))) (newest notes n.member)) (eq-eqb n.member n.member refl) ∙ ap (λ o. Some (greater_note n o)) e ∙ ap Some (greater_note-newer kept n h)

-- a note that is accepted, beside what is kept
pub record Accepts (l : Life) (n : NoteBody) : Type 0 where
  pub below : n.member < MEMBERS
  pub positive : 0 < n.epoch
  pub newer : fault_after (get l.notes n.member) n ≡ None

-- what is kept stands for the state with the note
pub HoldsEach-noted : (l : Life) (s : State) (n : NoteBody) → Holds l s → Accepts l n → HoldsEach (with_note l n) (with_accepted s n)
HoldsEach-noted l s n h a =
    record {
      at_number = by_number (λ k. HoldsAt (with_accepted s n) k (get l.places k) (get (insert l.notes n.member n) k) (expired_at l.expired k)) n.member
          (let at = h.at_number n.member in
          subst (λ note. HoldsAt (with_accepted s n) n.member (get l.places n.member) note (expired_at l.expired n.member)) (sym (get_here l.notes n.member n))
          record {
            member = at.member;
            places = at.places;
            newest_note = newest_here s.notes n (get l.notes n.member) at.newest_note a.newer;
            greatest = at.greatest;
            positive = a.positive;
          })
          (λ k apart. let at = h.at_number k in
          subst (λ note. HoldsAt (with_accepted s n) k (get l.places k) note (expired_at l.expired k)) (sym (get_other l.notes n.member k n apart))
          record {
            member = at.member;
            places = at.places;
            newest_note = newest_other s.notes n k apart ∙ at.newest_note;
            greatest = at.greatest;
            positive = at.positive;
          });
    }

-- ---- who leaves and who enters

none_left : (was is : Bool) → (was ≡ true → is ≡ true) → (was && not is) ≡ false
none_left true is stays = ap not (stays refl)
none_left false is stays = refl

filter_nobody : (p : ℕ → Bool) → ((k : ℕ) → p k ≡ false) → (xs : List ℕ) → filter p xs ≡ []
filter_nobody p none [] = refl
filter_nobody p none (x ∷ xs) = rw (none x) (filter_nobody p none xs)

-- nobody is in the first view alone
pub only_before-none : (s other : State) → ((k : ℕ) → in_view s k ≡ true → in_view other k ≡ true) → only_before s other ≡ []
only_before-none s other stays =
    filter-filter (λ k. not (in_view other k)) (in_view s) all_numbers ∙ filter_nobody (λ k. in_view s k && not (in_view other k)) (λ k. none_left (in_view s k) (in_view other k) (stays k)) all_numbers

-- this member alone is
only_before-one : (s other : State) (m : ℕ) → m < MEMBERS → in_view s m ≡ true → in_view other m ≡ false → ((k : ℕ) → k ≢ m → in_view s k ≡ in_view other k) → only_before s other ≡ m ∷ []
only_before-one s other m below is was others =
    let all = all_length in
    let rest : AtEach 0 all.0 (λ k. k ≢ m → (in_view s k && not (in_view other k)) ≡ false) = AtEach-all all.0 _ all.1.long (λ k _ apart. none_left (in_view s k) (in_view other k) (λ e. sym (others k apart) ∙ e)) in
    let here : (in_view s m && not (in_view other m)) ≡ true = rw (is, was) refl in
    filter-filter (λ k. not (in_view other k)) (in_view s) all_numbers ∙ subst (λ xs. filter (λ k. in_view s k && not (in_view other k)) xs ≡ m ∷ []) (sym all.1.are) (filter-range_one _ 0 all.0 m (omega arith) (omega (arith, below, all.1.long)) here rest)

-- ---- what a note does

viewed_then : (n : NoteBody) (expired : Bool) → in_view_by n expired ≡ (not (is_leaving n) && not expired)
viewed_then n expired = by_mask (is_leaving n) expired refl
  where
    by_mask : (b c : Bool) → is_leaving n ≡ b → in_view_by n c ≡ (not (is_leaving n) && not c)
    by_mask true c e = in_view_by-left n c e ∙ ap (λ b. not b && not c) (sym e)
    by_mask false true e = in_view_by-expired n ∙ ap (λ b. not b && false) (sym e)
    by_mask false false e = in_view_by-fresh n e ∙ ap (λ b. not b && true) (sym e)

-- a note's member is out by what expired, by what is kept as in the state
expired_then : (l : Life) (s : State) (n : NoteBody) → Holds l s → Accepts l n → nat_le n.epoch (expired_at l.expired n.member) ≡ has_expired s.expired n
expired_then l s n h a = sym (has_expired-greatest s.expired n a.positive ∙ ap (nat_le n.epoch) (h.at_number n.member).greatest)

-- what it does, by the state
effect-is : (l : Life) (s : State) (n : NoteBody) → Holds l s → Accepts l n → effect_in l n ≡ effect_between (in_view s n.member) (not (is_leaving n) && not (has_expired s.expired n))
effect-is l s n h a =
    ap (λ was. effect_between was (is_live (expired_at l.expired n.member) (Some n))) (sym (in_view-at l s n.member h))
    ∙ ap (effect_between (in_view s n.member)) (viewed_then n (nat_le n.epoch (expired_at l.expired n.member)) ∙ ap (λ b. not (is_leaving n) && not b) (expired_then l s n h a))

pub effect-enters : (l : Life) (s : State) (n : NoteBody) → Holds l s → Accepts l n → enters_by s n ≡ true → effect_in l n ≡ Enters
effect-enters l s n h a by = effect-is l s n h a ∙ by_tests (in_view s n.member) (is_leaving n) (has_expired s.expired n) by
  where
    by_tests : (was leaves gone : Bool) → (not was && not leaves && not gone) ≡ true → effect_between was (not leaves && not gone) ≡ Enters
    by_tests true leaves gone e = cc
    by_tests false true gone e = cc
    by_tests false false true e = cc
    by_tests false false false e = refl

pub effect-leaves : (l : Life) (s : State) (n : NoteBody) → Holds l s → Accepts l n → leaves_by s n ≡ true → effect_in l n ≡ Leaves
effect-leaves l s n h a by = effect-is l s n h a ∙ by_tests (in_view s n.member) (is_leaving n) (has_expired s.expired n) by
  where
    by_tests : (was leaves gone : Bool) → (was && leaves) ≡ true → effect_between was (not leaves && not gone) ≡ Leaves
    by_tests true true gone e = refl
    by_tests true false gone e = cc
    by_tests false leaves gone e = cc

-- who was in the view and doesn't leave stays, since the note is newer
stays_fresh : (l : Life) (s : State) (n : NoteBody) → Holds l s → Accepts l n → in_view s n.member ≡ true → is_leaving n ≡ false → has_expired s.expired n ≡ false
stays_fresh l s n h a was stays =
    sym (expired_then l s n h a) ∙ not_expired n (nat_le n.epoch (expired_at l.expired n.member)) (stays_live (expired_at l.expired n.member) (get l.notes n.member) n a.newer stays (sym (in_view-at l s n.member h) ∙ was))

pub effect-stays : (l : Life) (s : State) (n : NoteBody) → Holds l s → Accepts l n → enters_by s n ≡ false → leaves_by s n ≡ false → effect_in l n ≡ Stays
effect-stays l s n h a e f = effect-is l s n h a ∙ by_tests (in_view s n.member) (is_leaving n) (has_expired s.expired n) e f (stays_fresh l s n h a)
  where
    by_tests : (was leaves gone : Bool) → (not was && not leaves && not gone) ≡ false → (was && leaves) ≡ false → (was ≡ true → leaves ≡ false → gone ≡ false) → effect_between was (not leaves && not gone) ≡ Stays
    by_tests true true gone e f fresh = cc
    by_tests true false true e f fresh = absurd (false≢true (sym (fresh refl refl)))
    by_tests true false false e f fresh = refl
    by_tests false true gone e f fresh = refl
    by_tests false false true e f fresh = refl
    by_tests false false false e f fresh = cc

-- ---- the step

-- the member comes in
entering : (l : Life) (s : State) (n : NoteBody) → Holds l s → Accepts l n → effect_in l n ≡ Enters → ComesIn (in_view s) (in_view (with_accepted s n)) n.member
entering l s n h a e =
    let parts = was_out (is_live_at l.notes l.expired n.member) (is_live (expired_at l.expired n.member) (Some n)) e in
    record {
      below = a.below;
      was = in_view-at l s n.member h ∙ parts.0;
      is = in_view-each (with_note l n) (with_accepted s n) n.member (HoldsEach-noted l s n h a) ∙ live_here l.notes l.expired n ∙ parts.1;
      others = λ w apart. ap (viewed_by s.expired) (newest_other s.notes n w apart);
    }

-- it goes out
leaving : (l : Life) (s : State) (n : NoteBody) → Holds l s → Accepts l n → effect_in l n ≡ Leaves → GoesOut (in_view s) (in_view (with_accepted s n)) n.member
leaving l s n h a e =
    let parts = was_in (is_live_at l.notes l.expired n.member) (is_live (expired_at l.expired n.member) (Some n)) e in
    record {
      was = in_view-at l s n.member h ∙ parts.0;
      is = in_view-each (with_note l n) (with_accepted s n) n.member (HoldsEach-noted l s n h a) ∙ live_here l.notes l.expired n ∙ parts.1;
      others = λ w apart. ap (viewed_by s.expired) (newest_other s.notes n w apart);
    }

-- or the view is the same
staying : (l : Life) (s : State) (n : NoteBody) → Holds l s → Accepts l n → effect_in l n ≡ Stays → (k : ℕ) → in_view (with_accepted s n) k ≡ in_view s k
staying l s n h a e k =
    in_view-each (with_note l n) (with_accepted s n) k (HoldsEach-noted l s n h a) ∙ live_same l.notes l.expired n e k ∙ sym (in_view-at l s k h)

pub AllBy-upheld : (rings : ℕ) (l : Life) (s : State) → Holds l s → IsInOrder rings l.kept → AllByRecursion (IsUpheld s) l.kept
AllBy-upheld rings l s h ordered =
    AllBy-both (IsEntry rings) (λ p. stands s p.0 ≡ true) (IsUpheld s) (λ p e standing. record { number = e.number; standing = standing }) l.kept (AllBy-entries rings l.kept ordered) (recursion_from_All (λ p. stands s p.0 ≡ true) l.kept (subst (λ kept. All (λ p. stands s p.0 ≡ true) kept) h.kept_same h.standing))

-- the test that the code makes is whether the accusation still stands
abbrev pub Decides : State → (Entry → Bool) → List Entry → Type 0
Decides after ended kept = AllByRecursion (λ p. stands after p.0 ≡ not (ended p)) kept

not_not : (b c : Bool) → b ≡ not c → not b ≡ c
not_not b true e = rw e refl
not_not b false e = rw e refl

pub stands-left : (after : State) (ended : Entry → Bool) (kept kept' : List Entry) (fell : List AccBody) → Decides after ended kept → Ended ended kept kept' fell → filter (λ p. stands after p.0) kept ≡ kept'
stands-left after ended kept kept' fell decides h = filter_agree_on (λ p. stands after p.0) (λ p. not (ended p)) kept decides ∙ sym h.left

pub stands-fell : (after : State) (ended : Entry → Bool) (kept kept' : List Entry) (fell : List AccBody) → Decides after ended kept → Ended ended kept kept' fell → map (λ p. p.0) (filter (λ p. not (stands after p.0)) kept) ≡ fell
stands-fell after ended kept kept' fell decides h =
    ap (map (λ p. p.0)) (filter_agree_on (λ p. not (stands after p.0)) ended kept (AllBy-then (λ p. stands after p.0 ≡ not (ended p)) (λ p. not (stands after p.0) ≡ ended p) (λ p e. not_not (stands after p.0) (ended p) e) kept decides)) ∙ sym h.told

-- what is kept against the successors of a member that leaves is kept by it
pub theirs-noted : (l : Life) (s : State) (n : NoteBody) → Holds l s → Accepts l n → has_joined l n.member ≡ true → IsInOrder (ring_count l.group.t) l.kept → effect_in l n ≡ Leaves → AreTheirs (with_note l n) n.member l.kept
theirs-noted l s n h a joined ordered e =
    AllBy-then (IsUpheld s) (λ p. is_of (with_note l n) n.member p ≡ (eqb n.member p.0.accused || eqb n.member p.0.accuser)) (λ p u. by_leaver (with_note l n) s n p (HoldsEach-noted l s n h a) joined u a.below (leaving l s n h a e)) l.kept (AllBy-upheld (ring_count l.group.t) l s h ordered)

decides-noted : (l : Life) (s : State) (n : NoteBody) (effect : NoteEffect) → Holds l s → Accepts l n → has_joined l n.member ≡ true → IsInOrder (ring_count l.group.t) l.kept → effect_in l n ≡ effect → Decides (with_accepted s n) (is_ended_by (with_note l n) n effect) l.kept
decides-noted l s n Enters h a joined ordered e =
    let enters = entering l s n h a e in
    let held = HoldsEach-noted l s n h a in
    AllBy-then (IsUpheld s) (λ p. stands (with_accepted s n) p.0 ≡ not (is_against_next (with_note l n) n.member p)) (λ p u.
    stands-entered s n p u enters ∙ ap (λ o. not (is_number o p.0.accused)) (sym (live_successor-each (with_note l n) (with_accepted s n) p.0.ring.0 n.member held) ∙ ap (λ b. cond b (live_successor (with_note l n) p.0.ring.0 n.member) None) (sym joined))) l.kept (AllBy-upheld (ring_count l.group.t) l s h ordered)
decides-noted l s n Leaves h a joined ordered e =
    let out = leaving l s n h a e in
    let held = HoldsEach-noted l s n h a in
    AllBy-then (IsUpheld s) (λ p. stands (with_accepted s n) p.0 ≡ not (is_of (with_note l n) n.member p)) (λ p u.
    stands-left_by s n p u out ∙ ap not (sym (by_leaver (with_note l n) s n p held joined u a.below out))) l.kept (AllBy-upheld (ring_count l.group.t) l s h ordered)
decides-noted l s n Stays h a joined ordered e =
    AllBy-then (IsUpheld s) (λ p. stands (with_accepted s n) p.0 ≡ not (is_answered n p)) (λ p u.
    stands-answered s n p u (newest_here s.notes n (get l.notes n.member) (h.at_number n.member).newest_note a.newer) (staying l s n h a e)) l.kept (AllBy-upheld (ring_count l.group.t) l s h ordered)

-- the life after the step, and its report
pub record Noted (l : Life) (s : State) (n : NoteBody) (effect : NoteEffect) (kept : List Entry) (fell : List AccBody) : Type 0 where
  pub holds : Holds (record (with_note l n) { kept = kept }) (after_note s n).state
  pub report : record (told_of effect n.member) { fell = fell } ≡ (after_note s n).report

same_report : (expired expired' fell fell' : List AccBody) (removed removed' entered entered' : List ℕ) → expired ≡ expired' → removed ≡ removed' → entered ≡ entered' → fell ≡ fell' → ◌≡◌ {A = Report} (record { expired = expired; removed = removed; entered = entered; fell = fell }) (record { expired = expired'; removed = removed'; entered = entered'; fell = fell' })
same_report expired expired' fell fell' removed removed' entered entered' a b c d = rw (a, b, c, d) refl

none_expired : (effect : NoteEffect) (m : ℕ) → (told_of effect m).expired ≡ []
none_expired Enters m = refl
none_expired Leaves m = refl
none_expired Stays m = refl

view_noted : (l : Life) (s : State) (n : NoteBody) (effect : NoteEffect) → Holds l s → Accepts l n → effect_in l n ≡ effect → (only_before s (with_accepted s n) ≡ (told_of effect n.member).removed) × (only_before (with_accepted s n) s ≡ (told_of effect n.member).entered)
view_noted l s n Enters h a e =
    let enters = entering l s n h a e in
    (only_before-none s (with_accepted s n) (λ k is. ⊎_elim (λ t. subst (λ m. in_view (with_accepted s n) m ≡ true) (sym (eqb-true k n.member t)) enters.is) (λ t. enters.others k (eqb-false k n.member t) ∙ is) (either_bool (eqb k n.member))), only_before-one (with_accepted s n) s n.member enters.below enters.is enters.was enters.others)
view_noted l s n Leaves h a e =
    let out = leaving l s n h a e in
    (only_before-one s (with_accepted s n) n.member a.below out.was out.is (λ k apart. sym (out.others k apart)), only_before-none (with_accepted s n) s (λ k is. fewer-out (in_view s) (in_view (with_accepted s n)) n.member out k is))
view_noted l s n Stays h a e =
    let same = staying l s n h a e in
    (only_before-none s (with_accepted s n) (λ k is. same k ∙ is), only_before-none (with_accepted s n) s (λ k is. sym (same k) ∙ is))

pub Noted-by : (l : Life) (s : State) (n : NoteBody) (effect : NoteEffect) (kept : List Entry) (fell : List AccBody) → Holds l s → Accepts l n → has_joined l n.member ≡ true → IsInOrder (ring_count l.group.t) l.kept → effect_in l n ≡ effect → Ended (is_ended_by (with_note l n) n effect) l.kept kept fell → Noted l s n effect kept fell
Noted-by l s n effect kept fell h a joined ordered e ended =
    let picks = is_ended_by (with_note l n) n effect in
    let decides = decides-noted l s n effect h a joined ordered e in
    let held = HoldsEach-noted l s n h a in
    let views = view_noted l s n effect h a e in
    record {
      holds = record {
        moment_same = h.moment_same;
        kept_same = ap (filter (λ p. stands (with_accepted s n) p.0)) h.kept_same ∙ stands-left (with_accepted s n) picks l.kept kept fell decides ended;
        at_number = λ m. let at = held.at_number m in record { member = at.member; places = at.places; newest_note = at.newest_note; greatest = at.greatest; positive = at.positive };
        standing = filter_passes (λ p. stands (with_accepted s n) p.0) s.kept;
      };
      report = same_report _ _ _ _ _ _ _ _ (none_expired effect n.member) (sym views.0) (sym views.1) (sym (ap (λ ks. map (λ p. p.0) (filter (λ p. not (stands (with_accepted s n) p.0)) ks)) h.kept_same ∙ stands-fell (with_accepted s n) picks l.kept kept fell decides ended));
    }

-- who entered and who was removed, by what is told
pub Moves-told : (r : Report) (effect is : NoteEffect) (m : ℕ) (fell : List AccBody) → r ≡ record (told_of effect m) { fell = fell } → effect ≡ is → Moves r (told_of is m).entered (told_of is m).removed
Moves-told r effect is m fell told e =
    record {
      all_entered = ap (λ (r : Report). r.entered) told ∙ ap (λ e. (told_of e m).entered) e;
      all_removed = ap (λ (r : Report). r.removed) told ∙ ap (λ e. (told_of e m).removed) e;
    }
