-- What stands after a step, by what the step touched.
use Rattle.std.proofs.Common.{◌≡◌, ◌≢◌, ℕ, ◌<◌, ◌≤◌, Bool, true, false, cond, not, ◌&&◌, ◌||◌, eqb, List, [], ◌∷◌, ◌++◌, map, ⊎_elim, Option, Some, None, refl, ap, sym, ◌∙◌, subst, is_some, arith}
use Rattle.std.specs.Prelude.{nat_le, IfSome}
use Rattle.std.specs.List.{list_any, AllByRecursion}
use Rattle.std.specs.Option.{option_map_or}
use Rattle.std.specs.Ordering.{nat_cmp, ordering_then, is_lt}
use Rattle.std.specs.declared.cmp.Ordering.{Ordering}
use Rattle.std.specs.FinMap.{get}
use Rattle.std.proofs.lemmas.Bool.{eqb-true, eqb-false, eq-eqb, false≢true, and_parts}
use Rattle.std.proofs.lemmas.Bool.Decides.{nat_tests}
use Rattle.std.proofs.lemmas.List.Elements.{filter_agree}
use Rattle.ff_ids.specs.declared.TheConstants.{MEMBERS}
use Rattle.ff_ids.specs.declared.AccBody.{AccBody}
use Rattle.ff_ids.specs.declared.NoteBody.{NoteBody}
use Rattle.ff_ids.specs.Notes.{is_leaving, newest, greater_note, note_cmp}
use Rattle.ff_ids.specs.Rings.{nearest_before}
use Rattle.ff_ids.specs.Masks.{enables}
use Rattle.ff_ids.specs.Views.{State, in_view, in_view_by, viewed_by, has_expired, view, monitor, successor, key_of, stands, is_unanswered_by, is_number, all_numbers}
use Rattle.membership.specs.Kept.{is_live}
use Rattle.membership.specs.Life.{Life, has_joined, live_successor}
use Rattle.membership.specs.Ends.{Entry, is_answered, is_of, is_of_any, next_of}
use Rattle.membership.specs.Touched.{IsUpheld}
use Rattle.membership.proofs.NumberLemmas.{either_bool}
use Rattle.membership.proofs.MonitorLemmas.{Keyed, IsMonitor-some, ComesIn, GoesOut, fewer-out, monitor-leaving, monitor-entering, successor-of_monitor, successor-others, is_number-some}
use Rattle.membership.proofs.HoldLemmas.{HoldsEach, in_view-each, live_successor-each, newest-member}
use Rattle.ff_ids.proofs.ViewLemmas.{in_view_by-either, in_view_by-fresh, not_expired}

-- an accusation that stands, part by part
pub record IsStanding (s : State) (a : AccBody) : Type 0 where
  pub viewed : in_view s a.accused ≡ true
  pub unanswered : option_map_or (is_unanswered_by a) (newest s.notes a.accused) false ≡ true
  pub monitored : monitor s a.ring.0 a.accused ≡ Some a.accuser

pub IsStanding-from : (s : State) (a : AccBody) → stands s a ≡ true → IsStanding s a
IsStanding-from s a h =
    let outer = and_parts (in_view s a.accused && option_map_or (is_unanswered_by a) (newest s.notes a.accused) false) (is_number (monitor s a.ring.0 a.accused) a.accuser) h in
    let inner = and_parts (in_view s a.accused) (option_map_or (is_unanswered_by a) (newest s.notes a.accused) false) outer.0 in
    record { viewed = inner.0; unanswered = inner.1; monitored = is_number-some _ a.accuser outer.1 }

keyed : (s : State) (ring : ℕ) → Keyed (key_of s ring)
keyed s ring = record { number = λ m. refl }

all_three : (b c d e : Bool) → b ≡ true → c ≡ true → d ≡ e → (b && c && d) ≡ e
all_three b c d e f g h = rw (f, g) h

-- the state with one more note
abbrev pub with_accepted : State → NoteBody → State
with_accepted s n = record s { notes = n ∷ s.notes }

pub newest_other : (notes : List NoteBody) (n : NoteBody) (k : ℕ) → k ≢ n.member → newest (n ∷ notes) k ≡ newest notes k
newest_other notes n k apart = newest_by (eqb n.member k) refl
  where
    newest_by : (b : Bool) → eqb n.member k ≡ b → newest (n ∷ notes) k ≡ newest notes k
    newest_by true e = absurd (apart (sym (eqb-true n.member k e)))
    newest_by false e = rw e refl

-- a newcomer ends what is kept against its successors, and nothing else
pub stands-entered : (s : State) (n : NoteBody) (p : Entry) → IsUpheld s p → ComesIn (in_view s) (in_view (with_accepted s n)) n.member → stands (with_accepted s n) p.0 ≡ not (is_number (successor (with_accepted s n) p.0.ring.0 n.member) p.0.accused)
stands-entered s n p u enters =
    let a = p.0 in
    let parts = IsStanding-from s a u.standing in
    let apart : a.accused ≢ n.member = λ e. false≢true (sym enters.was ∙ ap (in_view s) (sym e) ∙ parts.viewed) in
    let unanswered : option_map_or (is_unanswered_by a) (newest (n ∷ s.notes) a.accused) false ≡ true = ap (λ o. option_map_or (is_unanswered_by a) o false) (newest_other s.notes n a.accused apart) ∙ parts.unanswered in
    let before = IsMonitor-some (key_of s a.ring.0) (keyed s a.ring.0) (in_view s) a.accused a.accuser parts.monitored in
    all_three _ _ _ _ (enters.others a.accused apart ∙ parts.viewed) unanswered (monitor-entering (key_of s a.ring.0) (keyed s a.ring.0) (in_view s) (in_view (with_accepted s n)) a.accused a.accuser n.member before enters u.number parts.viewed)

-- a leaver ends what is kept against it or by it, and nothing else
pub stands-left_by : (s : State) (n : NoteBody) (p : Entry) → IsUpheld s p → GoesOut (in_view s) (in_view (with_accepted s n)) n.member → stands (with_accepted s n) p.0 ≡ not (eqb n.member p.0.accused || eqb n.member p.0.accuser)
stands-left_by s n p u out =
    let a = p.0 in
    let after = with_accepted s n in
    let parts = IsStanding-from s a u.standing in
    let before = IsMonitor-some (key_of s a.ring.0) (keyed s a.ring.0) (in_view s) a.accused a.accuser parts.monitored in
    let monitored = monitor-leaving (key_of s a.ring.0) (keyed s a.ring.0) (in_view s) (in_view after) a.accused a.accuser before (λ w _ is. fewer-out (in_view s) (in_view after) n.member out w is) in
    ⊎_elim (λ t.
    let gone : in_view after a.accused ≡ false = ap (in_view after) (sym (eqb-true n.member a.accused t)) ∙ out.is in
    ap (λ b. b && option_map_or (is_unanswered_by a) (newest after.notes a.accused) false && is_number (monitor after a.ring.0 a.accused) a.accuser) gone ∙ ap (λ b. not (b || eqb n.member a.accuser)) (sym t))
    (λ t.
    let apart : a.accused ≢ n.member = λ e. eqb-false n.member a.accused t (sym e) in
    let unanswered : option_map_or (is_unanswered_by a) (newest (n ∷ s.notes) a.accused) false ≡ true = ap (λ o. option_map_or (is_unanswered_by a) o false) (newest_other s.notes n a.accused apart) ∙ parts.unanswered in
    all_three _ _ _ _ (out.others a.accused apart ∙ parts.viewed) unanswered (monitored ∙ left (eqb n.member a.accuser) refl before.passes) ∙ ap (λ b. not (b || eqb n.member a.accuser)) (sym t))
    (either_bool (eqb n.member a.accused))
  where
    left : (b : Bool) → eqb n.member p.0.accuser ≡ b → in_view s p.0.accuser ≡ true → in_view (with_accepted s n) p.0.accuser ≡ not (eqb n.member p.0.accuser)
    left true t is = ap (in_view (with_accepted s n)) (sym (eqb-true n.member p.0.accuser t)) ∙ out.is ∙ ap not (sym t)
    left false t is = out.others p.0.accuser (λ e. eqb-false n.member p.0.accuser t (sym e)) ∙ is ∙ ap not (sym t)

unanswered-noted : (s : State) (n : NoteBody) (p : Entry) → newest (n ∷ s.notes) n.member ≡ Some n → IsStanding s p.0 → option_map_or (is_unanswered_by p.0) (newest (n ∷ s.notes) p.0.accused) false ≡ not (is_answered n p)
unanswered-noted s n p newer parts =
    ⊎_elim (λ t. ap (λ o. option_map_or (is_unanswered_by p.0) o false) (ap (newest (n ∷ s.notes)) (eqb-true p.0.accused n.member t) ∙ newer) ∙ twice (is_unanswered_by p.0 n) ∙ ap (λ b. not (b && not (is_unanswered_by p.0 n))) (sym t))
    (λ t. ap (λ o. option_map_or (is_unanswered_by p.0) o false) (newest_other s.notes n p.0.accused (eqb-false p.0.accused n.member t)) ∙ parts.unanswered ∙ ap (λ b. not (b && not (is_unanswered_by p.0 n))) (sym t))
    (either_bool (eqb p.0.accused n.member))
  where
    twice : (b : Bool) → b ≡ not (not b)
    twice true = refl
    twice false = refl

middle : (b c d e : Bool) → b ≡ true → d ≡ true → c ≡ e → (b && c && d) ≡ e
middle b c d e f g h = rw (f, g) (last c ∙ h)
  where
    last : (c : Bool) → (c && true) ≡ c
    last true = refl
    last false = refl

no_later : (a b : ℕ) (o : Ordering) → is_lt (ordering_then (nat_cmp a b) o) ≡ false → b ≤ a
no_later a b o h = grind (arith, nat_tests)

-- a greater note is of no smaller epoch
epoch_after : (n kept : NoteBody) → Some (greater_note n (Some kept)) ≡ Some n → kept.epoch ≤ n.epoch
epoch_after n kept h = by_order (is_lt (note_cmp n kept)) refl h
  where
    by_order : (b : Bool) → is_lt (note_cmp n kept) ≡ b → Some (cond b kept n) ≡ Some n → kept.epoch ≤ n.epoch
    by_order true e same = let one : kept ≡ n = cc in omega (arith, ap (λ (x : NoteBody). x.epoch) one)
    by_order false e same = no_later n.epoch kept.epoch _ e

fewer_of : (of : Bool) (p q e : ℕ) → p ≤ q → (of && nat_le p e) ≡ false → (of && nat_le q e) ≡ false
fewer_of true p q e le h = grind (arith, nat_tests)
fewer_of false p q e le h = refl

neither_of : (b c : Bool) → (b || c) ≡ false → (b ≡ false) × (c ≡ false)
neither_of true c h = absurd (false≢true (sym h))
neither_of false c h = (refl, h)

-- so fewer have expired for it
none_expired : (expired : List AccBody) (n kept : NoteBody) → kept.member ≡ n.member → kept.epoch ≤ n.epoch → has_expired expired kept ≡ false → has_expired expired n ≡ false
none_expired [] n kept own le h = refl
none_expired (a ∷ expired) n kept own le h =
    let parts = neither_of _ _ h in
    let here : (eqb a.accused n.member && nat_le n.epoch a.epoch) ≡ false = fewer_of (eqb a.accused n.member) kept.epoch n.epoch a.epoch le (ap (λ m. eqb a.accused m && nat_le kept.epoch a.epoch) (sym own) ∙ parts.0) in
    ap (λ b. b || has_expired expired n) here ∙ none_expired expired n kept own le parts.1

-- a member in the view stays there by a newer note by which it doesn't leave
pub viewed-newer : (s : State) (n : NoteBody) → newest (n ∷ s.notes) n.member ≡ Some n → is_leaving n ≡ false → in_view s n.member ≡ true → in_view (with_accepted s n) n.member ≡ true
viewed-newer s n newer stays was = ap (viewed_by s.expired) newer ∙ ap (in_view_by n) (by_note (newest s.notes n.member) refl (newest-member s.notes n.member)) ∙ in_view_by-fresh n stays
  where
    by_note : (o : Option NoteBody) → newest s.notes n.member ≡ o → IfSome o (λ k. k.member ≡ n.member) → has_expired s.expired n ≡ false
    by_note None note own = absurd (false≢true (sym (ap (viewed_by s.expired) note) ∙ was))
    by_note (Some kept) note own =
        let greater : Some (greater_note n (Some kept)) ≡ Some n = sym (ap (λ b. cond b (Some (greater_note n (newest s.notes n.member))) (newest s.notes n.member)) (eq-eqb n.member n.member refl) ∙ ap (λ o. Some (greater_note n o)) note) ∙ newer in
        none_expired s.expired n kept own (epoch_after n kept greater) (not_expired kept (has_expired s.expired kept) (sym (ap (viewed_by s.expired) note) ∙ was))

-- where the view is the same, so are the monitors
same_monitor : (s : State) (n : NoteBody) (a : AccBody) → ((k : ℕ) → in_view (with_accepted s n) k ≡ in_view s k) → is_number (monitor (with_accepted s n) a.ring.0 a.accused) a.accuser ≡ is_number (monitor s a.ring.0 a.accused) a.accuser
same_monitor s n a same =
    let views : view (with_accepted s n) ≡ view s = filter_agree (in_view (with_accepted s n)) (in_view s) same all_numbers in
    ap (λ v. is_number (nearest_before (map (key_of s a.ring.0) v) (key_of s a.ring.0 a.accused)) a.accuser) views

-- a note of a member that is out of the view and stays out ends nothing
pub stands-outside : (s : State) (n : NoteBody) (p : Entry) → IsUpheld s p → in_view s n.member ≡ false → ((k : ℕ) → in_view (with_accepted s n) k ≡ in_view s k) → stands (with_accepted s n) p.0 ≡ true
stands-outside s n p u out same =
    let a = p.0 in
    let parts = IsStanding-from s a u.standing in
    let apart : a.accused ≢ n.member = λ e. false≢true (sym out ∙ ap (in_view s) (sym e) ∙ parts.viewed) in
    let unanswered : option_map_or (is_unanswered_by a) (newest (n ∷ s.notes) a.accused) false ≡ true = ap (λ o. option_map_or (is_unanswered_by a) o false) (newest_other s.notes n a.accused apart) ∙ parts.unanswered in
    all_three _ _ _ _ (same a.accused ∙ parts.viewed) unanswered (same_monitor s n a same ∙ (and_parts _ _ u.standing).1)

-- a note that changes no view ends what it answers, and nothing else
pub stands-answered : (s : State) (n : NoteBody) (p : Entry) → IsUpheld s p → newest (n ∷ s.notes) n.member ≡ Some n → ((k : ℕ) → in_view (with_accepted s n) k ≡ in_view s k) → stands (with_accepted s n) p.0 ≡ not (is_answered n p)
stands-answered s n p u newer same =
    let a = p.0 in
    let parts = IsStanding-from s a u.standing in
    middle _ _ _ _ (same a.accused ∙ parts.viewed) (same_monitor s n a same ∙ (and_parts _ _ u.standing).1) (unanswered-noted s n p newer parts)

-- ---- what expires

-- the state with more that expired
abbrev pub with_expired : State → List AccBody → State
with_expired s due = record s { expired = due ++ s.expired }

has_expired-append : (due expired : List AccBody) (n : NoteBody) → has_expired (due ++ expired) n ≡ (has_expired due n || has_expired expired n)
has_expired-append [] expired n = refl
has_expired-append (a ∷ due) expired n = ap (λ b. ((eqb a.accused n.member) && nat_le n.epoch a.epoch) || b) (has_expired-append due expired n) ∙ or_assoc ((eqb a.accused n.member) && nat_le n.epoch a.epoch) (has_expired due n) (has_expired expired n)
  where
    or_assoc : (b c d : Bool) → (b || (c || d)) ≡ ((b || c) || d)
    or_assoc true c d = refl
    or_assoc false c d = refl

in_view-expired : (s : State) (due : List AccBody) (w : ℕ) → in_view (with_expired s due) w ≡ (in_view s w && not (option_map_or (has_expired due) (newest s.notes w) false))
in_view-expired s due w = by_note (newest s.notes w)
  where
    by_note : (o : Option NoteBody) → viewed_by (due ++ s.expired) o ≡ (viewed_by s.expired o && not (option_map_or (has_expired due) o false))
    by_note None = refl
    by_note (Some n) = ap (in_view_by n) (has_expired-append due s.expired n) ∙ in_view_by-either n (has_expired due n) (has_expired s.expired n)

pub fewer-expired : (s : State) (due : List AccBody) (w : ℕ) → in_view (with_expired s due) w ≡ true → in_view s w ≡ true
fewer-expired s due w is = (and_parts (in_view s w) _ (sym (in_view-expired s due w) ∙ is)).0

-- accusations that stood are of the epoch of the newest note
due_epoch : (s : State) (n : NoteBody) (w : ℕ) (a : AccBody) → newest s.notes w ≡ Some n → n.member ≡ w → stands s a ≡ true → (eqb a.accused n.member && nat_le n.epoch a.epoch) ≡ eqb a.accused w
due_epoch s n w a note own standing =
    ⊎_elim (λ t.
    let at : a.accused ≡ w = eqb-true a.accused w t in
    let answered : option_map_or (is_unanswered_by a) (Some n) false ≡ true = subst (λ o. option_map_or (is_unanswered_by a) o false ≡ true) (ap (newest s.notes) at ∙ note) (IsStanding-from s a standing).unanswered in
    let epoch = (and_parts (eqb n.epoch a.epoch) (enables n.mask.0 a.ring.0) answered).0 in
    rw own (ap (λ b. b && nat_le n.epoch a.epoch) t ∙ no_less n.epoch a.epoch epoch ∙ sym t))
    (λ t. rw own (ap (λ b. b && nat_le n.epoch a.epoch) t ∙ sym t))
    (either_bool (eqb a.accused w))
  where
    no_less : (x y : ℕ) → eqb x y ≡ true → nat_le x y ≡ true
    no_less x y e = grind (arith, nat_tests)

due_any : (s : State) (n : NoteBody) (w : ℕ) (es : List Entry) → newest s.notes w ≡ Some n → n.member ≡ w → AllByRecursion (IsUpheld s) es → has_expired (map (λ p. p.0) es) n ≡ list_any (λ a. eqb a.accused w) (map (λ p. p.0) es)
due_any s n w [] note own h = refl
due_any s n w (p ∷ es) note own h =
    ap (λ b. b || has_expired (map (λ p. p.0) es) n) (due_epoch s n w p.0 note own h.0.standing) ∙ ap (λ b. eqb p.0.accused w || b) (due_any s n w es note own h.1)

-- who stays is accused by none of them
pub stays-expired : (s : State) (w : ℕ) (es : List Entry) → AllByRecursion (IsUpheld s) es → in_view s w ≡ true → in_view (with_expired s (map (λ p. p.0) es)) w ≡ not (list_any (λ a. eqb a.accused w) (map (λ p. p.0) es))
stays-expired s w es h is = in_view-expired s (map (λ p. p.0) es) w ∙ ap (λ b. b && not (option_map_or (has_expired (map (λ p. p.0) es)) (newest s.notes w) false)) is ∙ ap not (by_note (newest s.notes w) refl (newest-member s.notes w) is)
  where
    by_note : (o : Option NoteBody) → newest s.notes w ≡ o → IfSome o (λ n. n.member ≡ w) → in_view s w ≡ true → option_map_or (has_expired (map (λ p. p.0) es)) o false ≡ list_any (λ a. eqb a.accused w) (map (λ p. p.0) es)
    by_note None note own is = absurd (false≢true (sym (ap (viewed_by s.expired) note) ∙ is))
    by_note (Some n) note own is = due_any s n w es note own h

first_last : (b c d e f : Bool) → b ≡ e → c ≡ true → d ≡ f → (b && c && d) ≡ (e && f)
first_last b c d e f g h i = rw (g, h, i) (inner e)
  where
    inner : (e : Bool) → ((e && true) && f) ≡ (e && f)
    inner true = refl
    inner false = refl

-- what expires ends what is kept by or against those who leave, and nothing else
pub stands-expired : (s : State) (due : List AccBody) (p : Entry) → IsUpheld s p → stands (with_expired s due) p.0 ≡ (in_view (with_expired s due) p.0.accused && in_view (with_expired s due) p.0.accuser)
stands-expired s due p u =
    let a = p.0 in
    let parts = IsStanding-from s a u.standing in
    let before = IsMonitor-some (key_of s a.ring.0) (keyed s a.ring.0) (in_view s) a.accused a.accuser parts.monitored in
    first_last _ _ _ _ _ refl parts.unanswered (monitor-leaving (key_of s a.ring.0) (keyed s a.ring.0) (in_view s) (in_view (with_expired s due)) a.accused a.accuser before (λ w below is. fewer-expired s due w is))

-- a member that is viewed has joined
has_joined-viewed : (l : Life) (s : State) (m : ℕ) → HoldsEach l s → ((k : ℕ) → get l.places k ≡ None → get l.notes k ≡ None) → in_view s m ≡ true → has_joined l m ≡ true
has_joined-viewed l s m h noted is = by_places (get l.places m) refl
  where
    by_places : (o : Option (List (List ℕ))) → get l.places m ≡ o → is_some o ≡ true
    by_places None e = absurd (false≢true (sym (ap (is_live _) (noted m e)) ∙ sym (in_view-each l s m h) ∙ is))
    by_places (Some x) e = refl

-- against a member's successor is by the member
pub by_successor : (l : Life) (s : State) (p : Entry) (m : ℕ) → HoldsEach l s → ((k : ℕ) → get l.places k ≡ None → get l.notes k ≡ None) → IsUpheld s p → m < MEMBERS → in_view s m ≡ true → is_of l m p ≡ (eqb m p.0.accused || eqb m p.0.accuser)
by_successor l s p m h noted u below is =
    let a = p.0 in
    let parts = IsStanding-from s a u.standing in
    let before = IsMonitor-some (key_of s a.ring.0) (keyed s a.ring.0) (in_view s) a.accused a.accuser parts.monitored in
    let next : next_of l m a.ring.0 ≡ successor s a.ring.0 m = ap (λ b. cond b (live_successor l a.ring.0 m) None) (has_joined-viewed l s m h noted is) ∙ live_successor-each l s a.ring.0 m h in
    ap (λ b. eqb m a.accused || b) (ap (λ o. is_number o a.accused) next ∙ successor-of_monitor (key_of s a.ring.0) (keyed s a.ring.0) (in_view s) a.accused a.accuser before u.number parts.viewed m below is)

-- so it is of a member that left by a note
pub by_leaver : (l : Life) (s : State) (n : NoteBody) (p : Entry) → HoldsEach l (with_accepted s n) → has_joined l n.member ≡ true → IsUpheld s p → n.member < MEMBERS → GoesOut (in_view s) (in_view (with_accepted s n)) n.member → is_of l n.member p ≡ (eqb n.member p.0.accused || eqb n.member p.0.accuser)
by_leaver l s n p h joined u below out =
    let a = p.0 in
    let m = n.member in
    let parts = IsStanding-from s a u.standing in
    let before = IsMonitor-some (key_of s a.ring.0) (keyed s a.ring.0) (in_view s) a.accused a.accuser parts.monitored in
    let next : next_of l m a.ring.0 ≡ successor (with_accepted s n) a.ring.0 m = ap (λ b. cond b (live_successor l a.ring.0 m) None) joined ∙ live_successor-each l (with_accepted s n) a.ring.0 m h in
    ap (λ b. eqb m a.accused || b) (ap (λ o. is_number o a.accused) next ∙ successor-others (key_of s a.ring.0) (keyed s a.ring.0) (in_view s) (in_view (with_accepted s n)) m a.accused out.others ∙ successor-of_monitor (key_of s a.ring.0) (keyed s a.ring.0) (in_view s) a.accused a.accuser before u.number parts.viewed m below out.was)

any_by : (l : Life) (s : State) (p : Entry) (es : List Entry) → HoldsEach l s → ((k : ℕ) → get l.places k ≡ None → get l.notes k ≡ None) → IsUpheld s p → AllByRecursion (IsUpheld s) es → is_of_any l (map (λ p. p.0) es) p ≡ (list_any (λ a. eqb a.accused p.0.accused) (map (λ p. p.0) es) || list_any (λ a. eqb a.accused p.0.accuser) (map (λ p. p.0) es))
any_by l s p [] h noted u each = refl
any_by l s p (q ∷ es) h noted u each =
    ap (λ b. b || is_of_any l (map (λ p. p.0) es) p) (by_successor l s p q.0.accused h noted u each.0.number (IsStanding-from s q.0 each.0.standing).viewed) ∙ ap (λ b. (eqb q.0.accused p.0.accused || eqb q.0.accused p.0.accuser) || b) (any_by l s p es h noted u each.1)
    ∙ pairs (eqb q.0.accused p.0.accused) (eqb q.0.accused p.0.accuser) (list_any (λ a. eqb a.accused p.0.accused) (map (λ p. p.0) es)) (list_any (λ a. eqb a.accused p.0.accuser) (map (λ p. p.0) es))
  where
    pairs : (b c d e : Bool) → ((b || c) || (d || e)) ≡ ((b || d) || (c || e))
    pairs true c d e = refl
    pairs false true true e = refl
    pairs false true false e = refl
    pairs false false d e = refl

-- so it ends what is kept against those who leave, and against their successors
pub stands-of_any : (l : Life) (s : State) (p : Entry) (es : List Entry) → HoldsEach l s → ((k : ℕ) → get l.places k ≡ None → get l.notes k ≡ None) → IsUpheld s p → AllByRecursion (IsUpheld s) es → stands (with_expired s (map (λ p. p.0) es)) p.0 ≡ not (is_of_any l (map (λ p. p.0) es) p)
stands-of_any l s p es h noted u each =
    let parts = IsStanding-from s p.0 u.standing in
    let before = IsMonitor-some (key_of s p.0.ring.0) (keyed s p.0.ring.0) (in_view s) p.0.accused p.0.accuser parts.monitored in
    stands-expired s (map (λ p. p.0) es) p u
    ∙ ap (λ b. b && in_view (with_expired s (map (λ p. p.0) es)) p.0.accuser) (stays-expired s p.0.accused es each parts.viewed)
    ∙ ap (λ b. not (list_any (λ a. eqb a.accused p.0.accused) (map (λ p. p.0) es)) && b) (stays-expired s p.0.accuser es each before.passes)
    ∙ both_not (list_any (λ a. eqb a.accused p.0.accused) (map (λ p. p.0) es)) (list_any (λ a. eqb a.accused p.0.accuser) (map (λ p. p.0) es))
    ∙ ap not (sym (any_by l s p es h noted u each))
  where
    both_not : (b c : Bool) → (not b && not c) ≡ not (b || c)
    both_not true c = refl
    both_not false c = refl
