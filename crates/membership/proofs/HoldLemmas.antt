-- What is kept, and the states that it stands for.
use Rattle.std.proofs.Common.{◌≡◌, ℕ, ◌<◌, max, Bool, true, false, cond, ◌&&◌, ◌||◌, eqb, leb, List, [], ◌∷◌, map, Option, Some, None, Ok, Err, refl, ap, sym, ◌∙◌, subst, arith, unwrap_or, length}
use Rattle.std.specs.Prelude.{nat_le, IfSome}
use Rattle.std.specs.List.{filter}
use Rattle.std.specs.FinMap.{get}
use Rattle.std.proofs.lemmas.Bool.{eqb-true, lt-leb}
use Rattle.std.proofs.lemmas.Bool.Decides.{nat_tests}
use Rattle.std.proofs.lemmas.List.{length-map}
use Rattle.std.proofs.lemmas.List.Elements.{filter_agree}
use Rattle.ff_ids.specs.declared.NoteBody.{NoteBody}
use Rattle.ff_ids.specs.declared.AccBody.{AccBody}
use Rattle.ff_ids.specs.declared.Fault.{Fault}
use Rattle.ff_ids.specs.Notes.{newest, greater_note}
use Rattle.ff_ids.specs.Rings.{Key, nearest_before, nearest_after}
use Rattle.ff_ids.specs.Views.{State, Member, has_expired, in_view, in_view_by, is_member, all_numbers, view, key_at, key_of, monitor, successor}
use Rattle.ff_ids.specs.Faults.{note_fault, note_fault_by}
use Rattle.monitor_rule.specs.Joined.{keys_on}
use Rattle.membership.specs.Kept.{ByNumber, expired_at, is_live, is_live_at, member_at, live_members}
use Rattle.membership.specs.Life.{Life, has_joined, live_monitor, live_successor, live_keys, live_count, own_key, note_fault_in}
use Rattle.membership.specs.Holds.{Holds, HoldsAt, greatest_epoch}
use Rattle.membership.specs.Reports.{Answers}

-- two functions that agree map alike
pub map_agree : {X Y : Type 0} (f g : X → Y) → ((x : X) → f x ≡ g x) → (xs : List X) → map f xs ≡ map g xs
map_agree f g same [] = refl
map_agree f g same (x ∷ xs) = ap (λ y. y ∷ map f xs) (same x) ∙ ap (λ ys. g x ∷ ys) (map_agree f g same xs)

leb-max : (k x y : ℕ) → leb k (max x y) ≡ (leb k x || leb k y)
leb-max k x y = grind (arith, nat_tests)

expired_more : (b : Bool) (a : AccBody) (n : NoteBody) (rest : Bool) (greatest : ℕ) → rest ≡ nat_le n.epoch greatest → ((b && nat_le n.epoch a.epoch) || rest) ≡ nat_le n.epoch (cond b (max a.epoch greatest) greatest)
expired_more true a n rest greatest e = rw e (sym (leb-max n.epoch a.epoch greatest))
expired_more false a n rest greatest e = e

-- some accusation of at least the note's epoch expired where the greatest is at least that
pub has_expired-greatest : (expired : List AccBody) (n : NoteBody) → 0 < n.epoch → has_expired expired n ≡ nat_le n.epoch (greatest_epoch expired n.member)
has_expired-greatest [] n h = sym (lt-leb n.epoch 0 h)
has_expired-greatest (a ∷ expired) n h =
    expired_more (eqb a.accused n.member) a n (has_expired expired n) (greatest_epoch expired n.member) (has_expired-greatest expired n h)

-- of this member, where there is a note
abbrev pub IsOf : ℕ → Option NoteBody → Type 0
IsOf m o = IfSome o (λ n. n.member ≡ m)

greater_of : (b : Bool) (x other : NoteBody) (m : ℕ) → x.member ≡ m → other.member ≡ m → (cond b other x).member ≡ m
greater_of true x other m h k = k
greater_of false x other m h k = h

greater_note-member : (x : NoteBody) (o : Option NoteBody) (m : ℕ) → x.member ≡ m → IsOf m o → (greater_note x o).member ≡ m
greater_note-member x None m h k = h
greater_note-member x (Some other) m h k = greater_of _ x other m h k

newest_more : (b : Bool) (x : NoteBody) (o : Option NoteBody) (m : ℕ) → (b ≡ true → x.member ≡ m) → IsOf m o → IsOf m (cond b (Some (greater_note x o)) o)
newest_more true x o m h k = greater_note-member x o m (h refl) k
newest_more false x o m h k = k

-- the newest note of a member is of that member
pub newest-member : (notes : List NoteBody) (m : ℕ) → IsOf m (newest notes m)
newest-member [] m = tt
newest-member (x ∷ notes) m = newest_more (eqb x.member m) x (newest notes m) m (eqb-true x.member m) (newest-member notes m)

in_view_some : (s : State) (m epoch : ℕ) (n : NoteBody) → n.member ≡ m → greatest_epoch s.expired m ≡ epoch → 0 < n.epoch → in_view_by n (has_expired s.expired n) ≡ in_view_by n (nat_le n.epoch epoch)
in_view_some s m epoch n own greatest positive =
    let e : has_expired s.expired n ≡ nat_le n.epoch epoch = has_expired-greatest s.expired n positive ∙ ap (λ k. nat_le n.epoch (greatest_epoch s.expired k)) own ∙ ap (nat_le n.epoch) greatest in
    ap (in_view_by n) e

in_view-is : (s : State) (m epoch : ℕ) (note : Option NoteBody) → newest s.notes m ≡ note → IsOf m note → greatest_epoch s.expired m ≡ epoch → IfSome note (λ n. 0 < n.epoch) → in_view s m ≡ is_live epoch note
in_view-is s m epoch None e own greatest positive = rw e refl
in_view-is s m epoch (Some n) e own greatest positive = rw e (in_view_some s m epoch n own greatest positive)

-- the view, by what is kept
pub in_view-held : (s : State) (m : ℕ) (places : Option (List (List ℕ))) (note : Option NoteBody) (epoch : ℕ) → HoldsAt s m places note epoch → in_view s m ≡ is_live epoch note
in_view-held s m places note epoch h =
    in_view-is s m epoch note h.newest_note (subst (IsOf m) h.newest_note (newest-member s.notes m)) h.greatest h.positive

-- what is kept of each number is as the state says
pub record HoldsEach (l : Life) (s : State) : Type 0 where
  pub at_number : (m : ℕ) → HoldsAt s m (get l.places m) (get l.notes m) (expired_at l.expired m)

pub each_held : (l : Life) (s : State) → Holds l s → HoldsEach l s
each_held l s h = record { at_number = h.at_number }

pub in_view-each : (l : Life) (s : State) (m : ℕ) → HoldsEach l s → in_view s m ≡ is_live_at l.notes l.expired m
in_view-each l s m h = in_view-held s m _ _ _ (h.at_number m)

pub in_view-at : (l : Life) (s : State) (m : ℕ) → Holds l s → in_view s m ≡ is_live_at l.notes l.expired m
in_view-at l s m h = in_view-each l s m (each_held l s h)

keys_on-map : (f : ℕ → Member) (ring : ℕ) (xs : List ℕ) → keys_on ring (map f xs) ≡ map (λ m. key_at ring (f m).places (f m).number) xs
keys_on-map f ring [] = refl
keys_on-map f ring (x ∷ xs) = ap (λ (ks : List Key). key_at ring (f x).places (f x).number ∷ ks) (keys_on-map f ring xs)

own_key-each : (l : Life) (s : State) (ring m : ℕ) → HoldsEach l s → own_key l ring m ≡ key_of s ring m
own_key-each l s ring m h = ap (λ p. key_at ring p m) (sym (h.at_number m).places)

-- the keys of the view are those of the live members
pub keys_on-each : (l : Life) (s : State) (ring : ℕ) → HoldsEach l s → keys_on ring (live_members l.places l.notes l.expired) ≡ map (key_of s ring) (view s)
keys_on-each l s ring h =
    keys_on-map (member_at l.places) ring (filter (is_live_at l.notes l.expired) all_numbers)
    ∙ ap (map (λ m. own_key l ring m)) (filter_agree (is_live_at l.notes l.expired) (in_view s) (λ m. sym (in_view-each l s m h)) all_numbers)
    ∙ map_agree (own_key l ring) (key_of s ring) (λ m. own_key-each l s ring m h) (view s)

-- so are monitors and successors
pub live_monitor-each : (l : Life) (s : State) (ring m : ℕ) → HoldsEach l s → live_monitor l ring m ≡ monitor s ring m
live_monitor-each l s ring m h =
    ap (λ keys. nearest_before keys (own_key l ring m)) (keys_on-each l s ring h) ∙ ap (nearest_before _) (own_key-each l s ring m h)

pub live_successor-each : (l : Life) (s : State) (ring m : ℕ) → HoldsEach l s → live_successor l ring m ≡ successor s ring m
live_successor-each l s ring m h =
    ap (λ keys. nearest_after keys (own_key l ring m)) (keys_on-each l s ring h) ∙ ap (nearest_after _) (own_key-each l s ring m h)

-- as many are live as are in the view
pub live_count-each : (l : Life) (s : State) → HoldsEach l s → live_count l ≡ length (view s)
live_count-each l s h =
    length-map (filter (is_live_at l.notes l.expired) all_numbers) (member_at l.places) ∙ ap length (filter_agree (is_live_at l.notes l.expired) (in_view s) (λ m. sym (in_view-each l s m h)) all_numbers)

-- as the rings answer
pub monitor-held : (l : Life) (s : State) (ring m : ℕ) (members : List Member) (p : List (List ℕ)) → HoldsEach l s → members ≡ live_members l.places l.notes l.expired → get l.places m ≡ Some p → nearest_before (keys_on ring members) (key_at ring p m) ≡ monitor s ring m
monitor-held l s ring m members p h viewed placed =
    ap (λ ms. nearest_before (keys_on ring ms) (key_at ring p m)) viewed ∙ ap (λ (o : Option (List (List ℕ))). nearest_before (live_keys l ring) (key_at ring (unwrap_or o []) m)) (sym placed) ∙ live_monitor-each l s ring m h

pub successor-held : (l : Life) (s : State) (ring m : ℕ) (members : List Member) (p : List (List ℕ)) → HoldsEach l s → members ≡ live_members l.places l.notes l.expired → get l.places m ≡ Some p → nearest_after (keys_on ring members) (key_at ring p m) ≡ successor s ring m
successor-held l s ring m members p h viewed placed =
    ap (λ ms. nearest_after (keys_on ring ms) (key_at ring p m)) viewed ∙ ap (λ (o : Option (List (List ℕ))). nearest_after (live_keys l ring) (key_at ring (unwrap_or o []) m)) (sym placed) ∙ live_successor-each l s ring m h

pub has_joined-each : (l : Life) (s : State) (m : ℕ) → HoldsEach l s → has_joined l m ≡ is_member s m
has_joined-each l s m h = sym (h.at_number m).member

-- the faults of a note, by what is kept
pub note_fault-held : (l : Life) (s : State) (n : NoteBody) → Holds l s → note_fault_in l n ≡ note_fault l.group.t s n
note_fault-held l s n h =
    let at = h.at_number n.member in
    ap (λ b. note_fault_by l.group.t b (get l.notes n.member) n) (sym at.member) ∙ ap (λ o. note_fault_by l.group.t (is_member s n.member) o n) (sym at.newest_note)

-- the answer to a fault, or to none
pub answers-fault : (f g : Option Fault) (fault : Fault) → f ≡ g → f ≡ Some fault → Answers g (Err fault)
answers-fault f g fault e h = subst (λ o. Answers o (Err fault)) (sym h ∙ e) refl

pub answers-none : (f g : Option Fault) → f ≡ g → f ≡ None → Answers g (Ok tt)
answers-none f g e h = subst (λ o. Answers o (Ok tt)) (sym h ∙ e) refl

numbers_at : (places : ByNumber (List (List ℕ))) (xs : List ℕ) → map (λ x. x.number) (map (member_at places) xs) ≡ xs
numbers_at places [] = refl
numbers_at places (x ∷ xs) = ap (λ ns. x ∷ ns) (numbers_at places xs)

-- the numbers of the live members are the view
pub numbers-held : (l : Life) (s : State) (members : List Member) → HoldsEach l s → members ≡ live_members l.places l.notes l.expired → map (λ x. x.number) members ≡ view s
numbers-held l s members h viewed =
    ap (map (λ (x : Member). x.number)) viewed ∙ numbers_at l.places (filter (is_live_at l.notes l.expired) all_numbers)
    ∙ filter_agree (is_live_at l.notes l.expired) (in_view s) (λ m. sym (in_view-each l s m h)) all_numbers
