-- What stands between what is kept and the rings.
use Rattle.std.proofs.Common.{◌≡◌, ◌≢◌, ℕ, ◌<◌, ◌≤◌, Bool, true, false, cond, not, eqb, List, [], ◌∷◌, map, ⊎_elim, Option, Some, None, refl, ap, sym, ◌∙◌, subst, arith, is_some, nat_le}
use Rattle.std.specs.Prelude.{IfSome}
use Rattle.std.specs.Ordering.{nat_cmp, ordering_then, eq_by_cmp}
use Rattle.std.specs.Cmp.{nat_cmp_total}
use Rattle.std.specs.FinMap.{get, insert, empty, get-insert, get-empty}
use Rattle.std.specs.declared.cmp.Ordering.{Ordering}
use Rattle.std.specs.declared.cmp.Ordering.TheVariants.{Less, Equal, Greater}
use Rattle.std.specs.List.{All, filter}
use Rattle.std.specs.Option.{unwrap_or}
use Rattle.std.proofs.lemmas.List.Elements.{All-map}
use Rattle.std.proofs.lemmas.Bool.{eqb-true, eqb-false, false≢true}
use Rattle.std.proofs.lemmas.Bool.Decides.{nat_tests}
use Rattle.ff_ids.specs.declared.TheConstants.{MEMBERS}
use Rattle.ff_ids.specs.declared.Group.{Group}
use Rattle.ff_ids.specs.declared.NoteBody.{NoteBody}
use Rattle.ff_ids.specs.declared.Fault.{Fault}
use Rattle.ff_ids.specs.declared.Fault.TheVariants as faults
use Rattle.ff_ids.specs.Masks.{ring_count, note_mask}
use Rattle.ff_ids.specs.Notes.{is_leaving, note_cmp}
use Rattle.ff_ids.specs.Faults.{fault_after, fault_beside, note_fault_by}
use Rattle.ff_ids.specs.Views.{Member, all_numbers}
use Rattle.monitor_rule.specs.Joined.{Joined, with_member, without_member, is_joined}
use Rattle.membership.specs.Kept.{ByNumber, places_at, expired_at, is_live, is_live_at, member_at, live_members, effect_between, effect_by}
use Rattle.membership.specs.declared.kept.NoteEffect.{NoteEffect}
use Rattle.membership.specs.declared.kept.NoteEffect.TheVariants.{Enters, Leaves, Stays}
use Rattle.membership.specs.Life.{Life, IsSound, IsPlaced, has_joined, note_fault_in, effect_in}
use Rattle.membership.proofs.NumberLemmas.{either_bool, all_length, AtEach, AtEach-all, Numbered, with_member-range, without_member-range, is_joined-range, map-filter_range_agree}
use Rattle.ff_ids.specs.Views.{in_view_by}
use Rattle.ff_ids.proofs.ViewLemmas.{in_view_by-fresh, not_expired}

-- ---- a map with one more entry

pub get_here : {X : Type 0} (xs : ByNumber X) (m : ℕ) (x : X) → get (insert xs m x) m ≡ Some x
get_here xs m x =
    let same : eq_by_cmp nat_cmp m m ≡ true = grind (arith, nat_tests) in
    get-insert nat_cmp_total xs m x m ∙ ap (λ b. cond b (Some x) (get xs m)) same

pub get_other : {X : Type 0} (xs : ByNumber X) (m k : ℕ) (x : X) → k ≢ m → get (insert xs m x) k ≡ get xs k
get_other xs m k x apart =
    let off : eq_by_cmp nat_cmp k m ≡ false = grind (arith, nat_tests) in
    get-insert nat_cmp_total xs m x k ∙ ap (λ b. cond b (Some x) (get xs k)) off

pub get_none : {X : Type 0} (m : ℕ) → get {X = X} {R = nat_cmp} empty m ≡ None
get_none m = get-empty nat_cmp m

-- a number is the one, or another
pub by_number : (P : ℕ → Type 0) (m : ℕ) → P m → ((k : ℕ) → k ≢ m → P k) → (k : ℕ) → P k
by_number P m here there k =
    ⊎_elim (λ t. subst P (sym (eqb-true k m t)) here) (λ t. there k (eqb-false k m t)) (either_bool (eqb k m))

-- ---- who is live

member_at-numbered : (places : ByNumber (List (List ℕ))) → Numbered (member_at places)
member_at-numbered places = record { number = λ m. refl }

-- who is on the rings
pub is_joined-live : (places : ByNumber (List (List ℕ))) (notes : ByNumber NoteBody) (expired : ByNumber ℕ) (m : ℕ) → m < MEMBERS → is_joined (live_members places notes expired) m ≡ is_live_at notes expired m
is_joined-live places notes expired m below =
    let all = all_length in
    let counted = is_joined-range (member_at places) (member_at-numbered places) (is_live_at notes expired) m 0 all.0 (omega arith) (omega (arith, all.1.long)) in
    subst (λ xs. is_joined (map (member_at places) (filter (is_live_at notes expired) xs)) m ≡ is_live_at notes expired m) (sym all.1.are) counted

-- the live members, where a newcomer is put in
live_members-enters : (places : ByNumber (List (List ℕ))) (notes notes' : ByNumber NoteBody) (expired : ByNumber ℕ) (m : ℕ) → m < MEMBERS → is_live_at notes expired m ≡ false → is_live_at notes' expired m ≡ true → ((k : ℕ) → k ≢ m → is_live_at notes' expired k ≡ is_live_at notes expired k) → live_members places notes' expired ≡ with_member (member_at places m) (live_members places notes expired)
live_members-enters places notes notes' expired m below before after others =
    let all = all_length in
    let agree : AtEach 0 all.0 (λ k. k ≢ m → is_live_at notes' expired k ≡ is_live_at notes expired k) = AtEach-all all.0 _ all.1.long (λ k _. others k) in
    let counted = with_member-range (member_at places) (member_at-numbered places) (is_live_at notes expired) (is_live_at notes' expired) m 0 all.0 (omega arith) (omega (arith, all.1.long)) before after agree in
    sym (subst (λ xs. with_member (member_at places m) (map (member_at places) (filter (is_live_at notes expired) xs)) ≡ map (member_at places) (filter (is_live_at notes' expired) xs)) (sym all.1.are) counted)

-- the live members, where one is taken out
pub live_members-leaves : (places : ByNumber (List (List ℕ))) (notes notes' : ByNumber NoteBody) (expired expired' : ByNumber ℕ) (m : ℕ) → m < MEMBERS → is_live_at notes expired m ≡ true → is_live_at notes' expired' m ≡ false → ((k : ℕ) → k ≢ m → is_live_at notes' expired' k ≡ is_live_at notes expired k) → live_members places notes' expired' ≡ without_member m (live_members places notes expired)
live_members-leaves places notes notes' expired expired' m below before after others =
    let all = all_length in
    let agree : AtEach 0 all.0 (λ k. k ≢ m → is_live_at notes' expired' k ≡ is_live_at notes expired k) = AtEach-all all.0 _ all.1.long (λ k _. others k) in
    let counted = without_member-range (member_at places) (member_at-numbered places) (is_live_at notes expired) (is_live_at notes' expired') m 0 all.0 (omega arith) (omega (arith, all.1.long)) before after agree in
    sym (subst (λ xs. without_member m (map (member_at places) (filter (is_live_at notes expired) xs)) ≡ map (member_at places) (filter (is_live_at notes' expired') xs)) (sym all.1.are) counted)

-- the live members, where the same are live and their places are the same
pub live_members-same : (places places' : ByNumber (List (List ℕ))) (notes notes' : ByNumber NoteBody) (expired expired' : ByNumber ℕ) → ((k : ℕ) → is_live_at notes' expired' k ≡ is_live_at notes expired k) → ((k : ℕ) → is_live_at notes' expired' k ≡ true → places_at places' k ≡ places_at places k) → live_members places' notes' expired' ≡ live_members places notes expired
live_members-same places places' notes notes' expired expired' live at =
    let all = all_length in
    let agree : AtEach 0 all.0 (λ k. is_live_at notes' expired' k ≡ is_live_at notes expired k) = AtEach-all all.0 _ all.1.long (λ k _. live k) in
    let same : AtEach 0 all.0 (λ k. is_live_at notes' expired' k ≡ true → member_at places' k ≡ member_at places k) = AtEach-all all.0 _ all.1.long (λ k _ is. ap (λ p. record { number = k; places = p }) (at k is)) in
    let counted = map-filter_range_agree (member_at places') (member_at places) (is_live_at notes' expired') (is_live_at notes expired) 0 all.0 agree same in
    subst (λ xs. map (member_at places') (filter (is_live_at notes' expired') xs) ≡ map (member_at places) (filter (is_live_at notes expired) xs)) (sym all.1.are) counted

-- nobody is live where there are no notes
pub live_members-none : (places : ByNumber (List (List ℕ))) (expired : ByNumber ℕ) → live_members places empty expired ≡ []
live_members-none places expired =
    ap (map (member_at places)) (filter_none (is_live_at empty expired) (λ k. ap (is_live (expired_at expired k)) (get_none k)) all_numbers)
  where
    filter_none : (p : ℕ → Bool) → ((k : ℕ) → p k ≡ false) → (xs : List ℕ) → filter p xs ≡ []
    filter_none p none [] = refl
    filter_none p none (x ∷ xs) = rw (none x) (filter_none p none xs)

pub same_rings : (b : Bool) (view : Joined) (members : List Member) (k : ℕ) → view.rings ≡ k → (cond b (record view { members = members }) view).rings ≡ k
same_rings true view members k e = e
same_rings false view members k e = e

pub same_members : (b : Bool) (view : Joined) (members : List Member) → (cond b (record view { members = members }) view).members ≡ cond b members view.members
same_members true view members = refl
same_members false view members = refl

-- ---- a note without a fault

-- its member has joined, and it is newer
pub record NoFault (l : Life) (n : NoteBody) : Type 0 where
  pub joined : has_joined l n.member ≡ true
  pub newer : fault_after (get l.notes n.member) n ≡ None

unmasked : (b : Bool) (f : Fault) (rest : Option Fault) → cond b (Some f) rest ≡ None → rest ≡ None
unmasked true f rest h = cc
unmasked false f rest h = h

pub no_fault : (l : Life) (n : NoteBody) → note_fault_in l n ≡ None → NoFault l n
no_fault l n h = by_member (has_joined l n.member) refl h
  where
    by_member : (b : Bool) → has_joined l n.member ≡ b → note_fault_by l.group.t b (get l.notes n.member) n ≡ None → NoFault l n
    by_member true joined h = record { joined = joined; newer = unmasked (not (note_mask l.group.t n.mask.0)) faults.BadMask (fault_after (get l.notes n.member) n) h }
    by_member false joined h = cc

pub beside : (kept : NoteBody) (o : Ordering) → fault_beside kept o ≡ None → o ≡ Greater
beside kept Less h = cc
beside kept Equal h = cc
beside kept Greater h = refl

later : (a b : ℕ) (o : Ordering) → ordering_then (nat_cmp a b) o ≡ Greater → b ≤ a
later a b o h = grind (arith, nat_tests)

later_than : (e a b : ℕ) → a ≤ b → nat_le a e ≡ false → nat_le b e ≡ false
later_than e a b le h = grind (arith, nat_tests)

-- it is of no smaller epoch than the kept one, so a live member stays live, unless it leaves
pub stays_live : (expired : ℕ) (kept : Option NoteBody) (n : NoteBody) → fault_after kept n ≡ None → is_leaving n ≡ false → is_live expired kept ≡ true → is_live expired (Some n) ≡ true
stays_live expired None n h stays live = absurd (false≢true live)
stays_live expired (Some kept) n h stays live =
    let fresh = not_expired kept (nat_le kept.epoch expired) live in
    ap (in_view_by n) (later_than expired kept.epoch n.epoch (later n.epoch kept.epoch _ (beside kept (note_cmp n kept) h)) fresh) ∙ in_view_by-fresh n stays

-- what a note did says where its member was, and where it is
pub was_out : (was is : Bool) → effect_between was is ≡ Enters → (was ≡ false) × (is ≡ true)
was_out true true h = cc
was_out true false h = cc
was_out false true h = (refl, refl)
was_out false false h = cc

pub was_in : (was is : Bool) → effect_between was is ≡ Leaves → (was ≡ true) × (is ≡ false)
was_in true true h = cc
was_in true false h = (refl, refl)
was_in false true h = cc
was_in false false h = cc

pub was_so : (was is : Bool) → effect_between was is ≡ Stays → is ≡ was
was_so true true h = refl
was_so true false h = cc
was_so false true h = cc
was_so false false h = refl

pub live_here : (notes : ByNumber NoteBody) (expired : ByNumber ℕ) (n : NoteBody) → is_live_at (insert notes n.member n) expired n.member ≡ is_live (expired_at expired n.member) (Some n)
live_here notes expired n = ap (is_live (expired_at expired n.member)) (get_here notes n.member n)

pub others_live : (notes : ByNumber NoteBody) (expired : ByNumber ℕ) (n : NoteBody) (k : ℕ) → k ≢ n.member → is_live_at (insert notes n.member n) expired k ≡ is_live_at notes expired k
others_live notes expired n k apart = ap (is_live (expired_at expired k)) (get_other notes n.member k n apart)

-- who is live then, where the member stays where it was
pub live_same : (notes : ByNumber NoteBody) (expired : ByNumber ℕ) (n : NoteBody) → effect_by (expired_at expired n.member) (get notes n.member) n ≡ Stays → (k : ℕ) → is_live_at (insert notes n.member n) expired k ≡ is_live_at notes expired k
live_same notes expired n e =
    by_number (λ k. is_live_at (insert notes n.member n) expired k ≡ is_live_at notes expired k) n.member (live_here notes expired n ∙ was_so (is_live_at notes expired n.member) (is_live (expired_at expired n.member) (Some n)) e) (others_live notes expired n)

-- the members on the rings, by what the note did
abbrev pub members_then : NoteEffect → Member → List Member → List Member
members_then Enters x members = with_member x members
members_then Leaves x members = without_member x.number members
members_then Stays x members = members

-- the live members after it
live_members-noted : (places : ByNumber (List (List ℕ))) (notes : ByNumber NoteBody) (expired : ByNumber ℕ) (n : NoteBody) → n.member < MEMBERS → (effect : NoteEffect) → effect_by (expired_at expired n.member) (get notes n.member) n ≡ effect → live_members places (insert notes n.member n) expired ≡ members_then effect (member_at places n.member) (live_members places notes expired)
live_members-noted places notes expired n below Enters e =
    let parts = was_out (is_live_at notes expired n.member) (is_live (expired_at expired n.member) (Some n)) e in
    live_members-enters places notes (insert notes n.member n) expired n.member below parts.0 (live_here notes expired n ∙ parts.1) (others_live notes expired n)
live_members-noted places notes expired n below Leaves e =
    let parts = was_in (is_live_at notes expired n.member) (is_live (expired_at expired n.member) (Some n)) e in
    live_members-leaves places notes (insert notes n.member n) expired expired n.member below parts.0 (live_here notes expired n ∙ parts.1) (others_live notes expired n)
live_members-noted places notes expired n below Stays e =
    live_members-same places places notes (insert notes n.member n) expired expired (live_same notes expired n e) (λ k _. refl)

-- the number of a member
pub number_below : (rings m : ℕ) (o : Option (List (List ℕ))) → IfSome o (IsPlaced rings m) → is_some o ≡ true → m < MEMBERS
number_below rings m None h e = absurd (false≢true e)
number_below rings m (Some p) h e = h.number

-- it keeps everything sound, with its member on the rings where it enters, and off them where it leaves
pub IsSound-noted : (l : Life) (view view' : Joined) (n : NoteBody) (effect : NoteEffect) → IsSound l.group l.places l.notes l.expired view → note_fault_in l n ≡ None → effect ≡ effect_in l n → view' ≡ record view { members = members_then effect (member_at l.places n.member) view.members } → IsSound l.group l.places (insert l.notes n.member n) l.expired view'
IsSound-noted l view view' n effect sound fault e at =
    let fine = no_fault l n fault in
    let below = number_below (ring_count l.group.t) n.member (get l.places n.member) (sound.placed n.member) fine.joined in
    let live = live_members-noted l.places l.notes l.expired n below effect (sym e) in
    record {
      tolerance = sound.tolerance;
      placed = sound.placed;
      noted = by_number (λ k. get l.places k ≡ None → get (insert l.notes n.member n) k ≡ None) n.member (λ gone. absurd (false≢true (sym (ap is_some gone) ∙ fine.joined))) (λ k apart gone. get_other l.notes n.member k n apart ∙ sound.noted k gone);
      rings = rw at sound.rings;
      viewed = rw at (ap (members_then effect (member_at l.places n.member)) sound.viewed ∙ sym live);
    }

-- the member is on the rings where it is live
on_rings : (l : Life) (view : Joined) (n : NoteBody) → IsSound l.group l.places l.notes l.expired view → note_fault_in l n ≡ None → is_joined view.members n.member ≡ is_live_at l.notes l.expired n.member
on_rings l view n sound fault =
    let below = number_below (ring_count l.group.t) n.member (get l.places n.member) (sound.placed n.member) (no_fault l n fault).joined in
    ap (λ ms. is_joined ms n.member) sound.viewed ∙ is_joined-live l.places l.notes l.expired n.member below

-- a member that enters is not on the rings yet
pub absent_before : (l : Life) (view : Joined) (n : NoteBody) → IsSound l.group l.places l.notes l.expired view → note_fault_in l n ≡ None → effect_in l n ≡ Enters → is_joined view.members n.member ≡ false
absent_before l view n sound fault e =
    on_rings l view n sound fault ∙ (was_out (is_live_at l.notes l.expired n.member) (is_live (expired_at l.expired n.member) (Some n)) e).0

-- one that leaves is
pub present_before : (l : Life) (view : Joined) (n : NoteBody) → IsSound l.group l.places l.notes l.expired view → note_fault_in l n ≡ None → effect_in l n ≡ Leaves → is_joined view.members n.member ≡ true
present_before l view n sound fault e =
    on_rings l view n sound fault ∙ (was_in (is_live_at l.notes l.expired n.member) (is_live (expired_at l.expired n.member) (Some n)) e).0

-- who is on the rings has the places that are kept
pub own_places : (group : Group) (places : ByNumber (List (List ℕ))) (notes : ByNumber NoteBody) (expired : ByNumber ℕ) (view : Joined) (m : ℕ) (own : List (List ℕ)) → IsSound group places notes expired view → get places m ≡ Some own → All (λ x. x.number ≡ m → x.places ≡ own) view.members
own_places group places notes expired view m own sound there =
    let P : Member → Type 0 = λ x. x.number ≡ m → x.places ≡ own in
    subst (All P) (sym sound.viewed)
    (All-map P (member_at places) (filter (is_live_at notes expired) all_numbers) (λ k d lt same. ap (λ (n : ℕ). unwrap_or (get places n) []) same ∙ ap (λ (o : Option (List (List ℕ))). unwrap_or o []) there))

-- nobody is on the rings where all notes are gone
pub IsSound-cleared : (group : Group) (places : ByNumber (List (List ℕ))) (notes : ByNumber NoteBody) (expired : ByNumber ℕ) (view view' : Joined) → IsSound group places notes expired view → view' ≡ record view { members = [] } → IsSound group places empty empty view'
IsSound-cleared group places notes expired view view' sound e =
    record {
      tolerance = sound.tolerance;
      placed = sound.placed;
      noted = λ m _. get_none m;
      rings = ap (λ (j : Joined). j.rings) e ∙ sound.rings;
      viewed = ap (λ (j : Joined). j.members) e ∙ sym (live_members-none places empty);
    }
