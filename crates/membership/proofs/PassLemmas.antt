-- What ticks change at which nothing is due.
use Rattle.std.proofs.Common.{◌≡◌, ℕ, zero, suc, ◌+◌, ◌<◌, Bool, true, false, not, cond, List, [], ◌∷◌, None, map, length, refl, ap, sym, subst, arith}
use Rattle.std.specs.List.{filter}
use Rattle.std.specs.FinMap.{get}
use Rattle.std.proofs.lemmas.List.{length-map}
use Rattle.ff_ids.specs.declared.AccBody.{AccBody}
use Rattle.ff_ids.specs.Masks.{ring_count}
use Rattle.ff_ids.specs.Views.{State}
use Rattle.ff_ids.specs.Steps.{after_tick, is_due, nothing}
use Rattle.removal_timer.specs.Kept.{IsInOrder}
use Rattle.membership.specs.Kept.{raised, leavers}
use Rattle.membership.specs.Life.{Life}
use Rattle.membership.specs.Ends.{Entry, is_of_any}
use Rattle.membership.specs.Holds.{Holds}
use Rattle.membership.specs.Ticks.{after_ticks}
use Rattle.membership.proofs.EndLemmas.{filter_all, filter_nothing}
use Rattle.membership.proofs.TickLemmas.{ticked, due_of, due_same, Ticked, Ticked-by}

-- a member without places has no note
abbrev AreNoted : Life → Type 0
AreNoted l = (m : ℕ) → get l.places m ≡ None → get l.notes m ≡ None

all_stay : (due : Entry → Bool) (es : List Entry) → filter due es ≡ [] → filter (λ p. not (due p)) es ≡ es
all_stay due [] none = refl
all_stay due (p ∷ es) none = by_first (due p) none (all_stay due es)
  where
    by_first : (b : Bool) → cond b (p ∷ filter due es) (filter due es) ≡ [] → (filter due es ≡ [] → filter (λ p. not (due p)) es ≡ es) → cond (not b) (p ∷ filter (λ p. not (due p)) es) (filter (λ p. not (due p)) es) ≡ p ∷ es
    by_first true none rest = cc
    by_first false none rest = ap (λ xs. p ∷ xs) (rest none)

-- the life, its clock raised
abbrev pub at_moment : Life → ℕ → Life
at_moment l moment = record l { moment = moment }

pub record IsQuiet (l : Life) (s : State) : Type 0 where
  pub holds : Holds (at_moment l (l.moment + 1)) (after_tick l.group.timeout s).state
  pub report : (after_tick l.group.timeout s).report ≡ nothing

pub IsQuiet-by : (l : Life) (s : State) → Holds l s → AreNoted l → IsInOrder (ring_count l.group.t) l.kept → filter (is_due l.group.timeout (l.moment + 1)) l.kept ≡ [] → IsQuiet l s
IsQuiet-by l s h noted ordered none =
    let due : due_of l ≡ [] = ap (map (λ (p : Entry). p.0)) none in
    let still : (ticked l).kept ≡ l.kept = all_stay (is_due l.group.timeout (l.moment + 1)) l.kept none in
    let by : Ticked l s (filter (λ p. not (is_of_any l (due_of l) p)) (ticked l).kept) (map (λ p. p.0) (filter (is_of_any l (due_of l)) (ticked l).kept)) = Ticked-by l s _ _ h noted ordered (record { left = refl; told = refl }) in
    let later = after_tick l.group.timeout s in
    let P : List AccBody → List Entry → Type 0 = λ ds kept. Holds (record l { moment = l.moment + 1; expired = raised l.expired ds; kept = kept }) later.state in
    let Q : List AccBody → List AccBody → Type 0 = λ ds fell. record { expired = ds; removed = leavers l.notes l.expired ds; entered = []; fell = fell } ≡ later.report in
    let held = subst (λ (k : List Entry). P [] (filter (λ p. not (is_of_any l [] p)) k)) still (subst (λ ds. P ds (filter (λ p. not (is_of_any l ds p)) (ticked l).kept)) due by.holds) in
    let told = subst (λ ds. Q ds (map (λ p. p.0) (filter (is_of_any l ds) (ticked l).kept))) due by.report in
    record {
      holds = subst (P []) (filter_all (λ p. not (is_of_any l [] p)) (λ p. refl) l.kept) held;
      report = sym (subst (Q []) (ap (map (λ (p : Entry). p.0)) (filter_nothing (ticked l).kept)) told);
    }

abbrev pub AreQuiet : Life → ℕ → Type 0
AreQuiet l ticks = (n : ℕ) → n < ticks → filter (is_due l.group.timeout (l.moment + n + 1)) l.kept ≡ []

pub held-after : (l : Life) (s : State) (n : ℕ) → Holds l s → AreNoted l → IsInOrder (ring_count l.group.t) l.kept → AreQuiet l n → Holds (at_moment l (l.moment + n)) (after_ticks l.group.timeout n s)
held-after l s zero h noted ordered quiet = subst (λ moment. Holds (at_moment l moment) s) (omega arith) h
held-after l s (suc n) h noted ordered quiet =
    let before = held-after l s n h noted ordered (λ k lt. quiet k (omega (arith, lt))) in
    let after = IsQuiet-by (at_moment l (l.moment + n)) (after_ticks l.group.timeout n s) before noted ordered (quiet n (omega arith)) in
    subst (λ moment. Holds (at_moment l moment) (after_ticks l.group.timeout (suc n) s)) (omega arith) after.holds

-- each of the ticks reports nothing
pub quiet-each : (l : Life) (s : State) (ticks : ℕ) → Holds l s → AreNoted l → IsInOrder (ring_count l.group.t) l.kept → AreQuiet l ticks → (n : ℕ) → n < ticks → (after_tick l.group.timeout (after_ticks l.group.timeout n s)).report ≡ nothing
quiet-each l s ticks h noted ordered quiet n lt =
    let before = held-after l s n h noted ordered (λ k less. quiet k (omega (arith, less, lt))) in
    (IsQuiet-by (at_moment l (l.moment + n)) (after_ticks l.group.timeout n s) before noted ordered (quiet n lt)).report

-- the tick behind them expires what is due then
pub due-next : (l : Life) (s : State) (n : ℕ) → Holds l s → AreNoted l → IsInOrder (ring_count l.group.t) l.kept → AreQuiet l n → 0 < length (filter (is_due l.group.timeout (l.moment + n + 1)) l.kept) → 0 < length (after_tick l.group.timeout (after_ticks l.group.timeout n s)).report.expired
due-next l s n h noted ordered quiet some =
    let before = held-after l s n h noted ordered quiet in
    let same = due_same (at_moment l (l.moment + n)) (after_ticks l.group.timeout n s) before in
    let long = length-map (filter (is_due l.group.timeout (l.moment + n + 1)) l.kept) (λ p. p.0) in
    omega (arith, ap length same, long, some)
