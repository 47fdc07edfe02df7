-- Since when the first of the entries stands, and how long it takes until it is due.
use Rattle.std.proofs.Common.{◌≡◌, ℕ, zero, suc, ◌+◌, ◌-◌, ◌<◌, ◌≤◌, Bool, true, false, cond, ◌||◌, eqb, List, [], ◌∷◌, Option, Some, None, IfSome, is_some, length, get_or, filter, refl, sym, ap, ◌∙◌, arith}
use Rattle.std.specs.Prelude.{nat_le}
use Rattle.std.specs.List.{AllByRecursion, list_any}
use Rattle.std.specs.Option.{option_map_or}
use Rattle.std.proofs.lemmas.Bool.{eqb-true, true≢false}
use Rattle.std.proofs.lemmas.Bool.Decides.{nat_tests}
use Rattle.ff_ids.specs.Steps.{is_due}
use Rattle.removal_timer.specs.Queue.{first_number}
use Rattle.removal_timer.specs.Kept.{AreQueued, AreUntil, entries_in, since_at}
use Rattle.removal_timer.proofs.SlotLemmas.{Entry, Slots, all_slots, none_due}
use Rattle.removal_timer.proofs.HeldLemmas.{in_time_first, not_due}

-- none stands longer than the first of the queue
pub first-since : (rings : ℕ) (slots : Slots) (order : List ℕ) (n : ℕ) (p : Entry) → AreQueued rings slots order → first_number order ≡ Some n → get_or slots n None ≡ Some p → AllByRecursion (λ q. p.1 ≤ q.1) (entries_in slots)
first-since rings slots order n p h first there = all_slots (λ q. p.1 ≤ q.1) slots (λ m. each m (get_or slots m None) refl)
  where
    each : (m : ℕ) (o : Option Entry) → get_or slots m None ≡ o → IfSome o (λ q. p.1 ≤ q.1)
    each m None e = tt
    each m (Some q) e =
        let le = in_time_first slots n m order h.in_time first (h.filled m ∙ ap is_some e) in
        let mine : since_at slots n ≡ p.1 = ap (λ (o : Option Entry). option_map_or (λ p. p.1) o 0) there in
        let its : since_at slots m ≡ q.1 = ap (λ (o : Option Entry). option_map_or (λ p. p.1) o 0) e in
        omega (arith, le, mine, its)

abbrev pub stands_since : ℕ → Entry → Bool
stands_since since p = eqb p.1 since

-- what is in a slot is among the entries
pub there-since : (slots : Slots) (n : ℕ) (p : Entry) → get_or slots n None ≡ Some p → list_any (stands_since p.1) (entries_in slots) ≡ true
there-since [] n p e = cc
there-since (None ∷ slots) zero p e = cc
there-since (None ∷ slots) (suc n) p e = there-since slots n p e
there-since (Some q ∷ slots) zero p e =
    let same : q ≡ p = cc in
    let here : eqb q.1 p.1 ≡ true = ap (λ (x : Entry). eqb x.1 p.1) same ∙ eqb-self p.1 in
    ap (λ b. b || list_any (stands_since p.1) (entries_in slots)) here
  where
    eqb-self : (k : ℕ) → eqb k k ≡ true
    eqb-self k = grind (arith, nat_tests)
there-since (Some q ∷ slots) (suc n) p e = or_last (eqb q.1 p.1) (there-since slots n p e)
  where
    or_last : {c : Bool} (b : Bool) → c ≡ true → (b || c) ≡ true
    or_last true h = refl
    or_last false h = h

-- before the first is due, none is
pub quiet-before : (timeout now since n : ℕ) (es : List Entry) → AllByRecursion (λ p. since ≤ p.1) es → since ≤ now → n < timeout - (now - since) - 1 → filter (is_due timeout (now + n + 1)) es ≡ []
quiet-before timeout now since n es first past before = none_due (is_due timeout (now + n + 1)) es (each es first)
  where
    late : nat_le timeout (now + n + 1 - since) ≡ false
    late = grind (arith, nat_tests, past, before)

    each : (es : List Entry) → AllByRecursion (λ p. since ≤ p.1) es → AllByRecursion (λ p. is_due timeout (now + n + 1) p ≡ false) es
    each [] h = tt
    each (p ∷ es) h = (not_due timeout (now + n + 1) since p h.0 late, each es h.1)

-- it is due in its turn
pub due-then : (timeout now since : ℕ) (es : List Entry) → list_any (stands_since since) es ≡ true → timeout ≤ now - since → 0 < length (filter (is_due timeout now) es)
due-then timeout now since [] there h = absurd (true≢false (sym there))
due-then timeout now since (p ∷ es) there h = by_first (eqb p.1 since) (nat_le timeout (now - p.1)) refl refl there (λ e. due-then timeout now since es e h)
  where
    by_first : (b d : Bool) → eqb p.1 since ≡ b → nat_le timeout (now - p.1) ≡ d → (b || list_any (stands_since since) es) ≡ true → (list_any (stands_since since) es ≡ true → 0 < length (filter (is_due timeout now) es)) → 0 < length (cond d (p ∷ filter (is_due timeout now) es) (filter (is_due timeout now) es))
    by_first b true same due e rest = omega arith
    by_first true false same due e rest =
        let at : p.1 ≡ since = eqb-true p.1 since same in
        let is : nat_le timeout (now - p.1) ≡ true = grind (arith, nat_tests, at, h) in
        absurd (true≢false (sym is ∙ due))
    by_first false false other due e rest = rest e

-- an entry that stands since then stands since no later than now
pub past-since : (now since : ℕ) (es : List Entry) → AreUntil now es → list_any (stands_since since) es ≡ true → since ≤ now
past-since now since [] until there = absurd (true≢false (sym there))
past-since now since (p ∷ es) until there = by_first (eqb p.1 since) refl there (past-since now since es until.1)
  where
    by_first : (b : Bool) → eqb p.1 since ≡ b → (b || list_any (stands_since since) es) ≡ true → (list_any (stands_since since) es ≡ true → since ≤ now) → since ≤ now
    by_first true same e rest = omega (arith, eqb-true p.1 since same, until.0)
    by_first false other e rest = rest e
