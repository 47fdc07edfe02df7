-- Why an accusation is refused, and what an accepted one changes.
use Rattle.std.proofs.Common.{◌≡◌, ℕ, ◌<◌, Bool, true, false, cond, not, ◌&&◌, ◌||◌, eqb, List, [], ◌∷◌, Option, Some, None, refl, ap, sym, ◌∙◌, subst, is_some, arith}
use Rattle.std.specs.Prelude.{nat_le}
use Rattle.std.specs.List.{list_any, find, AllByRecursion}
use Rattle.std.specs.Option.{option_map_or}
use Rattle.std.specs.FinMap.{get}
use Rattle.std.proofs.lemmas.Bool.{eqb-true, eq-eqb, false≢true, and_parts, and_from}
use Rattle.std.proofs.lemmas.List.Elements.{recursion_from_All, All-from_recursion}
use Rattle.ff_ids.specs.declared.AccBody.{AccBody}
use Rattle.ff_ids.specs.declared.NoteBody.{NoteBody}
use Rattle.ff_ids.specs.declared.Fault.{Fault}
use Rattle.ff_ids.specs.declared.Fault.TheVariants as faults
use Rattle.ff_ids.specs.Masks.{ring_count, enables}
use Rattle.ff_ids.specs.Notes.{newest}
use Rattle.ff_ids.specs.Views.{State, monitor, stands, is_number, is_unanswered_by}
use Rattle.ff_ids.specs.Faults.{Facts, facts_of, accusation_fault, accusation_fault_by, fault_under, same_accusation, is_kept}
use Rattle.ff_ids.proofs.FaultLemmas.{passes}
use Rattle.ff_ids.specs.Steps.{after_accusation, with_kept}
use Rattle.removal_timer.specs.Kept.{is_at, entry_at, IsInOrder}
use Rattle.removal_timer.proofs.KeptLemmas.{All-with_kept, IsInOrder-with_kept}
use Rattle.membership.specs.Life.{Life, IsSound, has_joined, facts_in, accusation_fault_in}
use Rattle.membership.specs.Ends.{Entry}
use Rattle.membership.specs.Holds.{Holds}
use Rattle.membership.proofs.HoldLemmas.{each_held, in_view-at, live_monitor-each, has_joined-each}
use Rattle.monitor_rule.specs.Joined.{Joined}
use Rattle.std.proofs.lemmas.Bool.Decides.{nat_tests}
use Rattle.membership.proofs.SoundLemmas.{number_below}
use Rattle.membership.proofs.TouchLemmas.{IsStanding-from}
use Rattle.membership.proofs.EndLemmas.{AllBy-then}
use Rattle.membership.proofs.MonitorLemmas.{is_number-some}

-- where two tests agree, one finds what the other says is there
any_found : (f g : Entry → Bool) (es : List Entry) → AllByRecursion (λ p. f p ≡ g p) es → list_any f es ≡ is_some (find g es)
any_found f g [] h = refl
any_found f g (p ∷ es) h = found_either (f p) (g p) p (list_any f es) (find g es) h.0 (any_found f g es h.1)
  where
    found_either : (b c : Bool) (p : Entry) (any : Bool) (o : Option Entry) → b ≡ c → any ≡ is_some o → (b || any) ≡ is_some (cond c (Some p) o)
    found_either true c p any o e k = rw (← e) refl
    found_either false c p any o e k = rw (← e) k

four_parts : (a b c d : Bool) → a ≡ true → b ≡ true → c ≡ true → d ≡ true → (a && b && c && d) ≡ true
four_parts a b c d e f g h = rw (e, f, g, h) refl

and_parts_false : (a b c d : Bool) → (b && d) ≡ false → (a && b && c && d) ≡ false
and_parts_false false b c d h = refl
and_parts_false true b false d h = and_false b
  where
    and_false : (b : Bool) → (b && false && d) ≡ false
    and_false true = refl
    and_false false = refl
and_parts_false true b true d h = and_true b d h
  where
    and_true : (b d : Bool) → (b && d) ≡ false → (b && true && d) ≡ false
    and_true true d h = h
    and_true false d h = refl

-- of a kept accusation that stands, the place alone tells whether it is this one
same_at : (s : State) (a : AccBody) (n : NoteBody) (p : Entry) → newest s.notes a.accused ≡ Some n → eqb n.epoch a.epoch ≡ true → monitor s a.ring.0 a.accused ≡ Some a.accuser → stands s p.0 ≡ true → same_accusation p.0 a ≡ is_at a.accused a.ring.0 p
same_at s a n p note epoch monitored standing = same_either (is_at a.accused a.ring.0 p) refl
  where
    some_same : (v w : ℕ) → Some v ≡ Some w → v ≡ w
    some_same v w e = cc

    same_either : (b : Bool) → is_at a.accused a.ring.0 p ≡ b → same_accusation p.0 a ≡ b
    same_either true e =
        let parts = and_parts (eqb p.0.accused a.accused) (eqb p.0.ring.0 a.ring.0) e in
        let accused : p.0.accused ≡ a.accused = eqb-true p.0.accused a.accused parts.0 in
        let ring : p.0.ring.0 ≡ a.ring.0 = eqb-true p.0.ring.0 a.ring.0 parts.1 in
        let stood = IsStanding-from s p.0 standing in
        let by : monitor s a.ring.0 a.accused ≡ Some p.0.accuser = subst (λ x. monitor s a.ring.0 x ≡ Some p.0.accuser) accused (subst (λ r. monitor s r p.0.accused ≡ Some p.0.accuser) ring stood.monitored) in
        let accuser : p.0.accuser ≡ a.accuser = some_same p.0.accuser a.accuser (sym by ∙ monitored) in
        let answered : option_map_or (is_unanswered_by p.0) (Some n) false ≡ true = subst (λ o. option_map_or (is_unanswered_by p.0) o false ≡ true) (ap (newest s.notes) accused ∙ note) stood.unanswered in
        let at_epoch = (and_parts (eqb n.epoch p.0.epoch) (enables n.mask.0 p.0.ring.0) answered).0 in
        let same_epoch : p.0.epoch ≡ a.epoch = sym (eqb-true n.epoch p.0.epoch at_epoch) ∙ eqb-true n.epoch a.epoch epoch in
        four_parts _ _ _ _ (eq-eqb p.0.accuser a.accuser accuser) parts.0 (eq-eqb p.0.epoch a.epoch same_epoch) parts.1
    same_either false e = and_parts_false (eqb p.0.accuser a.accuser) (eqb p.0.accused a.accused) (eqb p.0.epoch a.epoch) (eqb p.0.ring.0 a.ring.0) e

is_kept-found : (l : Life) (s : State) (a : AccBody) (n : NoteBody) → Holds l s → newest s.notes a.accused ≡ Some n → eqb n.epoch a.epoch ≡ true → monitor s a.ring.0 a.accused ≡ Some a.accuser → is_kept s a ≡ is_some (entry_at a.accused a.ring.0 l.kept)
is_kept-found l s a n h note epoch monitored =
    any_found (λ p. same_accusation p.0 a) (is_at a.accused a.ring.0) s.kept (AllBy-then (λ p. stands s p.0 ≡ true) (λ p. same_accusation p.0 a ≡ is_at a.accused a.ring.0 p) (λ p k. same_at s a n p note epoch monitored k) s.kept (recursion_from_All (λ p. stands s p.0 ≡ true) s.kept h.standing))
    ∙ ap (λ es. is_some (entry_at a.accused a.ring.0 es)) h.kept_same

-- ---- the table at work

-- whether the same accusation is kept is asked only under a note of its epoch, of its monitor
asked_last : (epoch live enabled monitored kept kept' : Bool) (a b c d : Option Fault) → (epoch ≡ true → monitored ≡ true → kept ≡ kept') → cond (not epoch) a (cond (not live) b (cond (not enabled) c (cond (not monitored) d (cond kept (Some faults.Standing) None)))) ≡ cond (not epoch) a (cond (not live) b (cond (not enabled) c (cond (not monitored) d (cond kept' (Some faults.Standing) None))))
asked_last false live enabled monitored kept kept' a b c d h = refl
asked_last true false enabled monitored kept kept' a b c d h = refl
asked_last true true false monitored kept kept' a b c d h = refl
asked_last true true true false kept kept' a b c d h = refl
asked_last true true true true kept kept' a b c d h = rw (h refl refl) refl

asked_under : (f : Facts) (kept : Bool) (a : AccBody) (o : Option NoteBody) → ((n : NoteBody) → o ≡ Some n → eqb n.epoch a.epoch ≡ true → is_number f.ring_monitor a.accuser ≡ true → kept ≡ f.is_standing) → fault_under (record f { is_standing = kept }) a o ≡ fault_under f a o
asked_under f kept a None h = refl
asked_under f kept a (Some n) h = asked_last (eqb n.epoch a.epoch) f.viewed (enables n.mask.0 a.ring.0) (is_number f.ring_monitor a.accuser) kept f.is_standing _ _ _ _ (h n refl)

asked_by : (t : ℕ) (f : Facts) (kept : Bool) (a : AccBody) → ((n : NoteBody) → f.newest_note ≡ Some n → eqb n.epoch a.epoch ≡ true → is_number f.ring_monitor a.accuser ≡ true → kept ≡ f.is_standing) → accusation_fault_by t (record f { is_standing = kept }) a ≡ accusation_fault_by t f a
asked_by t f kept a h = ap (λ rest. cond (not f.both_joined) (Some faults.UnknownMember) (cond (eqb a.accuser a.accused) (Some faults.SelfAccusation) (cond (nat_le (ring_count t) a.ring.0) (Some faults.BadRing) rest))) (asked_under f kept a f.newest_note h)

same_facts : (b c b' c' v v' : Bool) (o o' : Option NoteBody) {m m' : Option ℕ} (kept : Bool) → b ≡ b' → c ≡ c' → o ≡ o' → v ≡ v' → m ≡ m' → ◌≡◌ {A = Facts} (record { both_joined = b && c; newest_note = o; viewed = v; ring_monitor = m; is_standing = kept }) (record { both_joined = b' && c'; newest_note = o'; viewed = v'; ring_monitor = m'; is_standing = kept })
same_facts b c b' c' v v' o o' kept e f g h i = rw (e, f, g, h, i) refl

facts-held : (l : Life) (s : State) (a : AccBody) → Holds l s → facts_of s a ≡ record (facts_in l a) { is_standing = is_kept s a }
facts-held l s a h =
    let each = each_held l s h in
    let at = h.at_number a.accused in
    same_facts _ _ _ _ _ _ _ _ (is_kept s a) (sym (has_joined-each l s a.accuser each)) (sym (has_joined-each l s a.accused each)) at.newest_note (in_view-at l s a.accused h) (sym (live_monitor-each l s a.ring.0 a.accused each))

-- the faults of an accusation, by what is kept
pub accusation_fault-held : (l : Life) (s : State) (a : AccBody) → Holds l s → accusation_fault_in l a ≡ accusation_fault l.group.t s a
accusation_fault-held l s a h =
    let each = each_held l s h in
    sym (ap (λ f. accusation_fault_by l.group.t f a) (facts-held l s a h)
    ∙ asked_by l.group.t (facts_in l a) (is_kept s a) a (λ n note epoch monitored. is_kept-found l s a n h ((h.at_number a.accused).newest_note ∙ note) epoch (sym (live_monitor-each l s a.ring.0 a.accused each) ∙ is_number-some _ a.accuser monitored)))

-- ---- an accusation without a fault

none_found : (o : Option Entry) → is_some o ≡ false → o ≡ None
none_found None e = refl
none_found (Some p) e = absurd (false≢true (sym e))

pub free_at : (l : Life) (a : AccBody) → accusation_fault_in l a ≡ None → entry_at a.accused a.ring.0 l.kept ≡ None
free_at l a h = none_found (entry_at a.accused a.ring.0 l.kept) (passes l.group.t (facts_in l a) a h).free

-- what is kept with it is in order
pub IsInOrder-accused : (l : Life) (view : Joined) (a : AccBody) → IsSound l.group l.places l.notes l.expired view → IsInOrder (ring_count l.group.t) l.kept → accusation_fault_in l a ≡ None → IsInOrder (ring_count l.group.t) (with_kept (a, l.moment) l.kept)
IsInOrder-accused l view a sound ordered h =
    let p = passes l.group.t (facts_in l a) a h in
    let below = number_below (ring_count l.group.t) a.accused (get l.places a.accused) (sound.placed a.accused) (and_parts (has_joined l a.accuser) (has_joined l a.accused) p.joined).1 in
    IsInOrder-with_kept (ring_count l.group.t) (a, l.moment) l.kept (free_at l a h) below (above (ring_count l.group.t) a.ring.0 p.ring) ordered
  where
    above : (k r : ℕ) → nat_le k r ≡ false → r < k
    above k r e = grind (arith, nat_tests)

pub stands-accused : (l : Life) (s : State) (a : AccBody) → Holds l s → accusation_fault_in l a ≡ None → stands s a ≡ true
stands-accused l s a h fine =
    let p = passes l.group.t (facts_of s a) a (sym (accusation_fault-held l s a h) ∙ fine) in
    let unanswered : option_map_or (is_unanswered_by a) (newest s.notes a.accused) false ≡ true = ap (λ o. option_map_or (is_unanswered_by a) o false) p.newest ∙ p.unanswered in
    and_from _ _ (and_from _ _ p.viewed unanswered) p.monitored

-- what is kept with it stands for the state with it
pub Holds-accused : (l : Life) (s : State) (a : AccBody) → Holds l s → accusation_fault_in l a ≡ None → Holds (record l { kept = with_kept (a, l.moment) l.kept }) (after_accusation s a)
Holds-accused l s a h fine =
    record {
      moment_same = h.moment_same;
      kept_same = ap (λ now. with_kept (a, now) s.kept) h.moment_same ∙ ap (with_kept (a, l.moment)) h.kept_same;
      at_number = λ m. let at = h.at_number m in record { member = at.member; places = at.places; newest_note = at.newest_note; greatest = at.greatest; positive = at.positive };
      standing = All-from_recursion (λ p. stands s p.0 ≡ true) (with_kept (a, s.moment) s.kept) (All-with_kept (λ p. stands s p.0 ≡ true) (a, s.moment) s.kept (stands-accused l s a h fine) (recursion_from_All (λ p. stands s p.0 ≡ true) s.kept h.standing));
    }
