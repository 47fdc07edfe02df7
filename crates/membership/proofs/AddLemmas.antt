-- What a new member changes, and what stands at the opening.
use Rattle.std.proofs.Common.{◌≡◌, ◌≢◌, ℕ, ◌<◌, ◌≤◌, true, false, eqb, List, [], Option, Some, None, refl, ap, sym, ◌∙◌, subst, is_some, cond, ◌||◌, unwrap_or, map, filter}
use Rattle.std.specs.Prelude.{IfSome}
use Rattle.std.specs.FinMap.{get, insert, empty}
use Rattle.std.proofs.lemmas.Bool.{false≢true, eq-eqb, ne_eqb, and_from}
use Rattle.std.proofs.lemmas.List.Elements.{All-weaker, All-nil}
use Rattle.ff_ids.specs.declared.TheConstants.{MAX_TOLERANCE}
use Rattle.ff_ids.specs.declared.Group.{Group}
use Rattle.ff_ids.specs.declared.NoteBody.{NoteBody}
use Rattle.ff_ids.specs.declared.AccBody.{AccBody}
use Rattle.ff_ids.specs.Masks.{ring_count}
use Rattle.ff_ids.specs.Rings.{nearest_before}
use Rattle.ff_ids.specs.Views.{State, in_view, is_member, places_of, view, monitor, key_of, key_at, stands}
use Rattle.ff_ids.specs.Steps.{joined}
use Rattle.ff_ids.specs.Lives.{opening}
use Rattle.monitor_rule.specs.Joined.{Joined}
use Rattle.membership.specs.Kept.{ByNumber, places_at, expired_at, is_live, is_live_at}
use Rattle.membership.specs.Life.{IsSound, IsPlaced, Life, has_joined}
use Rattle.membership.specs.Holds.{Holds, HoldsAt}
use Rattle.membership.proofs.NumberLemmas.{all_length, AtEach, AtEach-all, map-filter_range_agree}
use Rattle.membership.proofs.SoundLemmas.{by_number, get_here, get_other, get_none, live_members-same, live_members-none}
use Rattle.membership.proofs.HoldLemmas.{in_view-at}
use Rattle.membership.proofs.TouchLemmas.{IsStanding-from}
use Rattle.membership.proofs.MonitorLemmas.{is_number-is}

none_is : {X : Type 0} (o : Option X) → is_some o ≡ false → o ≡ None
none_is None e = refl
none_is (Some x) e = absurd (false≢true (sym e))

-- a member without a note is not live
dead : (expired : ℕ) (o : Option NoteBody) → o ≡ None → is_live expired o ≡ false
dead expired o e = ap (is_live expired) e

-- a new member keeps everything sound
pub IsSound-added : (group : Group) (places : ByNumber (List (List ℕ))) (notes : ByNumber NoteBody) (expired : ByNumber ℕ) (view : Joined) (m : ℕ) (p : List (List ℕ)) → IsSound group places notes expired view → IsPlaced (ring_count group.t) m p → is_some (get places m) ≡ false → IsSound group (insert places m p) notes expired view
IsSound-added group places notes expired view m p sound placed absent =
    let unnoted = sound.noted m (none_is (get places m) absent) in
    record {
      tolerance = sound.tolerance;
      placed = by_number (λ k. IfSome (get (insert places m p) k) (IsPlaced (ring_count group.t) k)) m (subst (λ o. IfSome o (IsPlaced (ring_count group.t) m)) (sym (get_here places m p)) placed) (λ k apart. subst (λ o. IfSome o (IsPlaced (ring_count group.t) k)) (sym (get_other places m k p apart)) (sound.placed k));
      noted = by_number (λ k. get (insert places m p) k ≡ None → get notes k ≡ None) m (λ _. unnoted) (λ k apart gone. sound.noted k (sym (get_other places m k p apart) ∙ gone));
      rings = sound.rings;
      viewed = sound.viewed ∙ sym (live_members-same places (insert places m p) notes notes expired expired (λ k. refl) (by_number (λ k. is_live_at notes expired k ≡ true → places_at (insert places m p) k ≡ places_at places k) m (λ live. absurd (false≢true (sym (dead (expired_at expired m) (get notes m) unnoted) ∙ live))) (λ k apart _. ap (λ o. unwrap_or o []) (get_other places m k p apart))));
    }

-- nothing is kept yet
pub IsSound-opening : (group : Group) (view : Joined) → group.t ≤ MAX_TOLERANCE → view ≡ record { rings = ring_count group.t; members = [] } → IsSound group empty empty empty view
IsSound-opening group view few e =
    record {
      tolerance = few;
      placed = λ m. subst (λ o. IfSome o (IsPlaced (ring_count group.t) m)) (sym (get_none m)) tt;
      noted = λ m _. get_none m;
      rings = ap (λ (j : Joined). j.rings) e;
      viewed = ap (λ (j : Joined). j.members) e ∙ sym (live_members-none empty empty);
    }

-- ---- the state with one more member

joined_here : (s : State) (m : ℕ) (p : List (List ℕ)) → (is_member (joined s m p) m ≡ true) × (places_of (joined s m p).members m ≡ p)
joined_here s m p = (ap (λ b. b || is_member s m) (eq-eqb m m refl), ap (λ b. cond b p (places_of s.members m)) (eq-eqb m m refl))

joined_other : (s : State) (m k : ℕ) (p : List (List ℕ)) → k ≢ m → (is_member (joined s m p) k ≡ is_member s k) × (places_of (joined s m p).members k ≡ places_of s.members k)
joined_other s m k p apart =
    let e : eqb m k ≡ false = ne_eqb m k (λ same. apart (sym same)) in
    (ap (λ b. b || is_member s k) e, ap (λ b. cond b p (places_of s.members k)) e)

monitor_joined : (s : State) (m ring x : ℕ) (p : List (List ℕ)) → in_view s m ≡ false → x ≢ m → monitor (joined s m p) ring x ≡ monitor s ring x
monitor_joined s m ring x p absent apart =
    let all = all_length in
    let keys : AtEach 0 all.0 (λ k. in_view s k ≡ true → key_of (joined s m p) ring k ≡ key_of s ring k) = AtEach-all all.0 _ all.1.long (λ k below viewed. ap (λ ps. key_at ring ps k) (joined_other s m k p (λ e. false≢true (sym absent ∙ ap (in_view s) (sym e) ∙ viewed))).1) in
    let same = map-filter_range_agree (key_of (joined s m p) ring) (key_of s ring) (in_view s) (in_view s) 0 all.0 (AtEach-all all.0 _ all.1.long (λ k below. refl)) keys in
    let whole : map (key_of (joined s m p) ring) (view s) ≡ map (key_of s ring) (view s) = subst (λ xs. map (key_of (joined s m p) ring) (filter (in_view s) xs) ≡ map (key_of s ring) (filter (in_view s) xs)) (sym all.1.are) same in
    ap (λ ks. nearest_before ks (key_of (joined s m p) ring x)) whole ∙ ap (λ ps. nearest_before (map (key_of s ring) (view s)) (key_at ring ps x)) (joined_other s m x p apart).1

stands_joined : (s : State) (m : ℕ) (p : List (List ℕ)) (a : AccBody) → in_view s m ≡ false → stands s a ≡ true → stands (joined s m p) a ≡ true
stands_joined s m p a absent standing =
    let parts = IsStanding-from s a standing in
    let apart : a.accused ≢ m = λ e. false≢true (sym absent ∙ ap (in_view s) (sym e) ∙ parts.viewed) in
    let monitored = is_number-is _ a.accuser (monitor_joined s m a.ring.0 a.accused p absent apart ∙ parts.monitored) in
    and_from _ _ (and_from _ _ parts.viewed parts.unanswered) monitored

-- what is kept with it stands for the state with it
pub Holds-added : (l : Life) (s : State) (m : ℕ) (p : List (List ℕ)) → Holds l s → ((k : ℕ) → get l.places k ≡ None → get l.notes k ≡ None) → has_joined l m ≡ false → Holds (record l { places = insert l.places m p }) (joined s m p)
Holds-added l s m p h noted absent =
    let out : in_view s m ≡ false = in_view-at l s m h ∙ dead (expired_at l.expired m) (get l.notes m) (noted m (none_is (get l.places m) absent)) in
    record {
      moment_same = h.moment_same;
      kept_same = h.kept_same;
      at_number = by_number (λ k. HoldsAt (joined s m p) k (get (insert l.places m p) k) (get l.notes k) (expired_at l.expired k)) m
          (let at = h.at_number m in record {
            member = (joined_here s m p).0 ∙ ap is_some (sym (get_here l.places m p));
            places = (joined_here s m p).1 ∙ ap (λ (o : Option (List (List ℕ))). unwrap_or o []) (sym (get_here l.places m p));
            newest_note = at.newest_note;
            greatest = at.greatest;
            positive = at.positive;
          })
          (λ k apart. let at = h.at_number k in record {
            member = (joined_other s m k p apart).0 ∙ at.member ∙ ap is_some (sym (get_other l.places m k p apart));
            places = (joined_other s m k p apart).1 ∙ at.places ∙ ap (λ (o : Option (List (List ℕ))). unwrap_or o []) (sym (get_other l.places m k p apart));
            newest_note = at.newest_note;
            greatest = at.greatest;
            positive = at.positive;
          });
      standing = All-weaker (λ q. stands s q.0 ≡ true) (λ q. stands (joined s m p) q.0 ≡ true) (λ q k. stands_joined s m p q.0 out k) s.kept h.standing;
    }

-- ---- the opening

-- nothing is kept of any number but who has joined
pub Holds-opening : (l : Life) (s : State) → Holds l s → Holds (record { group = l.group; moment = 0; places = l.places; notes = empty; expired = empty; kept = [] }) (opening s.members)
Holds-opening l s h =
    record {
      moment_same = refl;
      kept_same = refl;
      at_number = λ m. record {
        member = (h.at_number m).member;
        places = (h.at_number m).places;
        newest_note = sym (get_none m);
        greatest = sym (ap (λ o. unwrap_or o 0) (get_none m));
        positive = subst (λ o. IfSome o (λ n. 0 < n.epoch)) (sym (get_none m)) tt;
      };
      standing = All-nil (λ p. stands (opening s.members) p.0 ≡ true);
    }

pub Holds-nothing : (group : Group) → Holds (record { group = group; moment = 0; places = empty; notes = empty; expired = empty; kept = [] }) (opening [])
Holds-nothing group =
    record {
      moment_same = refl;
      kept_same = refl;
      at_number = λ m. record {
        member = sym (ap is_some (get_none m));
        places = sym (ap (λ o. unwrap_or o []) (get_none m));
        newest_note = sym (get_none m);
        greatest = sym (ap (λ o. unwrap_or o 0) (get_none m));
        positive = subst (λ o. IfSome o (λ n. 0 < n.epoch)) (sym (get_none m)) tt;
      };
      standing = All-nil (λ p. stands (opening []) p.0 ≡ true);
    }
