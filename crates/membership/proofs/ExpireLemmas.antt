-- What accusations that expire change.
use Rattle.std.proofs.Common.{◌≡◌, ◌≢◌, ℕ, ◌<◌, max, Bool, true, false, cond, not, ◌&&◌, List, Option, Some, None, refl, ap, sym, ◌∙◌, arith, is_some, unwrap_or}
use Rattle.std.specs.Prelude.{nat_le}
use Rattle.std.specs.FinMap.{get}
use Rattle.std.proofs.lemmas.Bool.{false≢true}
use Rattle.std.proofs.lemmas.Bool.Decides.{nat_tests}
use Rattle.ff_ids.specs.declared.TheConstants.{MEMBERS}
use Rattle.ff_ids.specs.declared.Group.{Group}
use Rattle.ff_ids.specs.declared.AccBody.{AccBody}
use Rattle.ff_ids.specs.declared.NoteBody.{NoteBody}
use Rattle.ff_ids.specs.Masks.{ring_count}
use Rattle.monitor_rule.specs.Joined.{Joined, without_member, is_joined}
use Rattle.membership.specs.Kept.{ByNumber, expired_at, is_live, is_live_at, live_members, takes_out, raise}
use Rattle.membership.specs.Life.{IsSound}
use Rattle.membership.proofs.SoundLemmas.{get_here, get_other, by_number, number_below, is_joined-live, live_members-same, live_members-leaves, same_rings, same_members}
use Rattle.ff_ids.specs.Views.{in_view_by}
use Rattle.ff_ids.proofs.ViewLemmas.{in_view_by-either}
use Rattle.std.proofs.lemmas.Bool.{and_parts}
use Rattle.std.specs.Prelude.{◌&&◌, ◌||◌, not, nat_le, max}

-- ---- one accusation

pub expired_at-raise : (expired : ByNumber ℕ) (a : AccBody) → expired_at (raise expired a) a.accused ≡ max (expired_at expired a.accused) a.epoch
expired_at-raise expired a = ap (λ o. unwrap_or o 0) (get_here expired a.accused (max (expired_at expired a.accused) a.epoch))

pub expired_at-other : (expired : ByNumber ℕ) (a : AccBody) (k : ℕ) → k ≢ a.accused → expired_at (raise expired a) k ≡ expired_at expired k
expired_at-other expired a k apart = ap (λ o. unwrap_or o 0) (get_other expired a.accused k (max (expired_at expired a.accused) a.epoch) apart)

at_most_max : (n e k : ℕ) → nat_le n (max e k) ≡ (nat_le n k || nat_le n e)
at_most_max n e k = grind (arith, nat_tests)

viewed_raised : (n : NoteBody) (e k : ℕ) → in_view_by n (nat_le n.epoch (max e k)) ≡ (in_view_by n (nat_le n.epoch e) && not (nat_le n.epoch k))
viewed_raised n e k = ap (in_view_by n) (at_most_max n.epoch e k) ∙ in_view_by-either n (nat_le n.epoch k) (nat_le n.epoch e)

out_is : (was late : Bool) → (was && late) ≡ (was && not (was && not late))
out_is true true = refl
out_is true false = refl
out_is false late = refl

-- it takes out who was live and no longer is
pub takes_out-is : (e : ℕ) (kept : Option NoteBody) (a : AccBody) → takes_out e kept a ≡ (is_live e kept && not (is_live (max e a.epoch) kept))
takes_out-is e None a = refl
takes_out-is e (Some n) a =
    let was = in_view_by n (nat_le n.epoch e) in
    out_is was (nat_le n.epoch a.epoch) ∙ ap (λ b. was && not b) (sym (viewed_raised n e a.epoch))

-- nobody becomes live
pub live_fewer : (e k : ℕ) (kept : Option NoteBody) → is_live (max e k) kept ≡ true → is_live e kept ≡ true
live_fewer e k None h = h
live_fewer e k (Some n) h = (and_parts _ _ (sym (viewed_raised n e k) ∙ h)).0

pub live_same : (notes : ByNumber NoteBody) (expired : ByNumber ℕ) (a : AccBody) (k : ℕ) → k ≢ a.accused → is_live_at notes (raise expired a) k ≡ is_live_at notes expired k
live_same notes expired a k apart = ap (λ e. is_live e (get notes k)) (expired_at-other expired a k apart)

pub live_raised : (notes : ByNumber NoteBody) (expired : ByNumber ℕ) (a : AccBody) → is_live_at notes (raise expired a) a.accused ≡ is_live (max (expired_at expired a.accused) a.epoch) (get notes a.accused)
live_raised notes expired a = ap (λ e. is_live e (get notes a.accused)) (expired_at-raise expired a)

pub out_parts : (was is : Bool) → (was && not is) ≡ true → (was ≡ true) × (is ≡ false)
out_parts true true h = absurd (false≢true h)
out_parts true false h = (refl, refl)
out_parts false is h = absurd (false≢true h)

pub stays_same : (was is : Bool) → (is ≡ true → was ≡ true) → (was && not is) ≡ false → is ≡ was
stays_same true true h e = refl
stays_same true false h e = absurd (false≢true (sym e))
stays_same false true h e = sym (h refl)
stays_same false false h e = refl

-- who is not live can't be taken out
pub same_live : (notes : ByNumber NoteBody) (expired : ByNumber ℕ) (a : AccBody) → takes_out (expired_at expired a.accused) (get notes a.accused) a ≡ false → (k : ℕ) → is_live_at notes (raise expired a) k ≡ is_live_at notes expired k
same_live notes expired a e =
    by_number (λ k. is_live_at notes (raise expired a) k ≡ is_live_at notes expired k) a.accused (live_raised notes expired a ∙ stays_same (is_live_at notes expired a.accused) (is_live (max (expired_at expired a.accused) a.epoch) (get notes a.accused)) (live_fewer (expired_at expired a.accused) a.epoch (get notes a.accused)) (sym (takes_out-is (expired_at expired a.accused) (get notes a.accused) a) ∙ e)) (live_same notes expired a)

-- who is taken out was live, so it is a member
taken_below : (group : Group) (places : ByNumber (List (List ℕ))) (notes : ByNumber NoteBody) (expired : ByNumber ℕ) (view : Joined) (m : ℕ) → IsSound group places notes expired view → is_live_at notes expired m ≡ true → m < MEMBERS
taken_below group places notes expired view m sound live = by_places (get places m) refl
  where
    by_places : (o : Option (List (List ℕ))) → get places m ≡ o → m < MEMBERS
    by_places None e = absurd (false≢true (sym (ap (is_live (expired_at expired m)) (sound.noted m e)) ∙ live))
    by_places (Some x) e = number_below (ring_count group.t) m (get places m) (sound.placed m) (ap is_some e)

live_members-expired : (group : Group) (places : ByNumber (List (List ℕ))) (notes : ByNumber NoteBody) (expired : ByNumber ℕ) (view : Joined) (a : AccBody) → IsSound group places notes expired view → (leaves : Bool) → leaves ≡ takes_out (expired_at expired a.accused) (get notes a.accused) a → live_members places notes (raise expired a) ≡ cond leaves (without_member a.accused (live_members places notes expired)) (live_members places notes expired)
live_members-expired group places notes expired view a sound true e =
    let parts = out_parts _ _ (sym (e ∙ takes_out-is (expired_at expired a.accused) (get notes a.accused) a)) in
    live_members-leaves places notes notes expired (raise expired a) a.accused (taken_below group places notes expired view a.accused sound parts.0) parts.0 (live_raised notes expired a ∙ parts.1) (live_same notes expired a)
live_members-expired group places notes expired view a sound false e =
    live_members-same places places notes notes expired (raise expired a) (same_live notes expired a (sym e)) (λ k _. refl)

pub IsSound-expired : (group : Group) (places : ByNumber (List (List ℕ))) (notes : ByNumber NoteBody) (expired : ByNumber ℕ) (view view' : Joined) (a : AccBody) (leaves : Bool) → IsSound group places notes expired view → leaves ≡ takes_out (expired_at expired a.accused) (get notes a.accused) a → view' ≡ cond leaves (record view { members = without_member a.accused view.members }) view → IsSound group places notes (raise expired a) view'
IsSound-expired group places notes expired view view' a leaves sound e at =
    let live = live_members-expired group places notes expired view a sound leaves e in
    record {
      tolerance = sound.tolerance;
      placed = sound.placed;
      noted = sound.noted;
      rings = rw at (same_rings leaves view (without_member a.accused view.members) _ sound.rings);
      viewed = rw at (same_members leaves view (without_member a.accused view.members) ∙ ap (λ ms. cond leaves (without_member a.accused ms) ms) sound.viewed ∙ sym live);
    }

pub joined_before : (group : Group) (places : ByNumber (List (List ℕ))) (notes : ByNumber NoteBody) (expired : ByNumber ℕ) (view : Joined) (a : AccBody) → IsSound group places notes expired view → takes_out (expired_at expired a.accused) (get notes a.accused) a ≡ true → is_joined view.members a.accused ≡ true
joined_before group places notes expired view a sound e =
    let parts = out_parts _ _ (sym (takes_out-is (expired_at expired a.accused) (get notes a.accused) a) ∙ e) in
    ap (λ ms. is_joined ms a.accused) sound.viewed ∙ is_joined-live places notes expired a.accused (taken_below group places notes expired view a.accused sound parts.0) ∙ parts.0
