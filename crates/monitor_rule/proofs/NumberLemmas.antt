-- Numbers that rise, once one is put in at its place or taken out.
use Rattle.std.proofs.Common.{◌≡◌, ◌≢◌, ◌||◌, ℕ, zero, suc, ◌+◌, ◌<◌, ◌≤◌, Bool, true, false, cond, eqb, inl, inr, List, [], ◌∷◌, Option, Some, None, length, map, get_or, set, refl, sym, ap, ◌∙◌, subst, arith, get_or-set_other, get_or-set_same}
use Rattle.std.specs.Prelude.{nat_le, is_some}
use Rattle.std.specs.List.{insert, remove}
use Rattle.std.specs.List.Sorted.{IsNonDecreasing, IsPartitionPoint}
use Rattle.std.proofs.lemmas.Bool.{eq-eqb, ne_eqb, le-leb, lt-leb, cases_eq, cases_lt, true≢false}
use Rattle.std.proofs.lemmas.List.{get_or_default}
use Rattle.std.proofs.lemmas.List.Edits.{length-remove, get_or-remove_below, get_or-remove_above}
use Rattle.std.proofs.lemmas.List.Sorted.{IsNonDecreasingBy-insert}
use Rattle.ff_ids.specs.declared.TheConstants.{MEMBERS}
use Rattle.ff_ids.specs.Views.{Member}
use Rattle.monitor_rule.specs.Joined.{with_member, without_member, is_joined}
use Rattle.monitor_rule.specs.Listed.{is_listed, with_number, without_number}
use Rattle.monitor_rule.specs.Sorted.{members_from, numbers_in}
use Rattle.monitor_rule.proofs.SlotLemmas.{Slots}

-- those before the index are below the number, and those from it on aren't
abbrev pub IsPlace : List ℕ → ℕ → ℕ → Type 0
IsPlace numbers m i = IsPartitionPoint (λ n. n < m) (λ n. m ≤ n) numbers i

place_behind : (n m i : ℕ) (numbers : List ℕ) → IsPlace (n ∷ numbers) m (suc i) → IsPlace numbers m i
place_behind n m i numbers h =
    ((λ k d from lt. h.0 (suc k) d (omega arith) (omega arith)), (λ k d from lt. h.1 (suc k) d (omega arith) (omega arith)))

pub with_number-insert : (m i : ℕ) (numbers : List ℕ) → i ≤ length numbers → IsPlace numbers m i → insert numbers i m ≡ with_number m numbers
with_number-insert m zero [] le h = refl
with_number-insert m (suc i) [] le h = absurd (omega arith)
with_number-insert m zero (n ∷ numbers) le h =
    let up : nat_le m n ≡ true = le-leb m n (h.1 0 0 (omega arith) (omega arith)) in
    rw up refl
with_number-insert m (suc i) (n ∷ numbers) le h =
    let down : nat_le m n ≡ false = lt-leb m n (h.0 0 0 (omega arith) (omega arith)) in
    rw down (ap (λ ns. n ∷ ns) (with_number-insert m i numbers (omega arith) (place_behind n m i numbers h)))

rising_behind : (n : ℕ) (numbers : List ℕ) → IsNonDecreasing (n ∷ numbers) → IsNonDecreasing numbers
rising_behind n numbers h = λ i j d le lt. h (suc i) (suc j) d (omega arith) (omega arith)

-- a number that is listed isn't the first: it is listed behind
listed_behind : (n m : ℕ) (numbers : List ℕ) → n ≢ m → is_listed (n ∷ numbers) m ≡ true → is_listed numbers m ≡ true
listed_behind n m numbers apart there = subst (λ (b : Bool). (b || is_listed numbers m) ≡ true) (ne_eqb n m apart) there

-- a number that is listed isn't below what none is below
first_least : (n m : ℕ) (numbers : List ℕ) → ((j d : ℕ) → j < length numbers → n ≤ get_or numbers j d) → is_listed numbers m ≡ true → n ≤ m
first_least n m [] h there = cc
first_least n m (x ∷ numbers) h there =
    elim (cases_eq x m) [
      | inl own ↦ let least = h 0 0 (omega arith) in omega arith
      | inr apart ↦ first_least n m numbers (λ j d lt. h (suc j) d (omega arith)) (listed_behind x m numbers apart there)
    ]

pub without_number-remove : (m i : ℕ) (numbers : List ℕ) → IsPlace numbers m i → is_listed numbers m ≡ true → IsNonDecreasing numbers → remove numbers i ≡ without_number m numbers
without_number-remove m i [] h there rising = cc
without_number-remove m zero (n ∷ numbers) h there rising =
    elim (cases_eq n m) [
      | inl own ↦ let here : eqb n m ≡ true = eq-eqb n m own in rw here refl
      | inr apart ↦
          let least = first_least n m numbers (λ j d lt. rising 0 (suc j) d (omega arith) (omega arith)) (listed_behind n m numbers apart there) in
          let most = h.1 0 0 (omega arith) (omega arith) in
          absurd (apart (omega arith))
    ]
without_number-remove m (suc i) (n ∷ numbers) h there rising =
    let below = h.0 0 0 (omega arith) (omega arith) in
    let apart : n ≢ m = λ e. absurd (omega arith) in
    let other : eqb n m ≡ false = ne_eqb n m apart in
    rw other (ap (λ ns. n ∷ ns) (without_number-remove m i numbers (place_behind n m i numbers h) (listed_behind n m numbers apart there) (rising_behind n numbers rising)))

pub place_within : (m i : ℕ) (numbers : List ℕ) → IsPlace numbers m i → is_listed numbers m ≡ true → i < length numbers
place_within m i [] h there = cc
place_within m zero (n ∷ numbers) h there = omega arith
place_within m (suc i) (n ∷ numbers) h there =
    let below = h.0 0 0 (omega arith) (omega arith) in
    let later = place_within m i numbers (place_behind n m i numbers h) (listed_behind n m numbers (λ e. absurd (omega arith)) there) in
    omega arith

pub rising_put : (m i : ℕ) (numbers : List ℕ) → i ≤ length numbers → IsPlace numbers m i → IsNonDecreasing numbers → IsNonDecreasing (insert numbers i m)
rising_put m i numbers le h rising =
    IsNonDecreasingBy-insert (λ n. n) numbers i m rising le (λ k d lt. let below = h.0 k d (omega arith) lt in omega arith) (λ k d from lt. h.1 k d from lt)

pub rising_removed : (i : ℕ) (numbers : List ℕ) → i < length numbers → IsNonDecreasing numbers → IsNonDecreasing (remove numbers i)
rising_removed i numbers lt rising = λ a b d le within.
    let less = length-remove numbers i lt in
    elim (cases_lt b i) [
      | inl before ↦
          let x = get_or-remove_below numbers i d a (omega arith) lt in
          let y = get_or-remove_below numbers i d b before lt in
          let up = rising a b d le (omega arith) in
          omega (arith, x, y, up)
      | inr from ↦
          let y = get_or-remove_above numbers i d b from lt in
          elim (cases_lt a i) [
            | inl before ↦
                let x = get_or-remove_below numbers i d a before lt in
                let up = rising a (b + 1) d (omega arith) (omega (arith, less)) in
                omega (arith, x, y, up)
            | inr later ↦
                let x = get_or-remove_above numbers i d a later lt in
                let up = rising (a + 1) (b + 1) d (omega arith) (omega (arith, less)) in
                omega (arith, x, y, up)
          ]
    ]

-- what a list of them holds once a number is inserted at its place
pub put_in : (now items lent after : List ℕ) (m i capacity : ℕ) (done : Bool) → items ≡ now → lent ≡ items → i ≤ length lent → IsPlace lent m i → IsNonDecreasing items → length now < MEMBERS → MEMBERS ≤ capacity → after ≡ cond done (insert items i m) items → (length items < capacity → done ≡ true) → (after ≡ with_number m now) × IsNonDecreasing after
put_in now items lent after m i capacity done view same le at rising few room is succeeds =
    let yes : done ≡ true = succeeds (omega (arith, ap length view)) in
    let put : after ≡ insert items i m = is ∙ ap (λ b. cond b (insert items i m) items) yes in
    let le' : i ≤ length items = omega (arith, ap length same) in
    let at' : IsPlace items m i = subst (λ (l : List ℕ). IsPlace l m i) same at in
    (put ∙ with_number-insert m i items le' at' ∙ ap (with_number m) view, subst IsNonDecreasing (sym put) (rising_put m i items le' at' rising))

pub taken_within : (now items lent : List ℕ) (m i : ℕ) → items ≡ now → lent ≡ items → IsPlace lent m i → is_listed now m ≡ true → i < length items
taken_within now items lent m i view same at there =
    place_within m i items (subst (λ (l : List ℕ). IsPlace l m i) same at) (ap (λ (l : List ℕ). is_listed l m) view ∙ there)

-- what it holds once the number at its place is removed
pub taken_out : (now items lent after : List ℕ) (m i : ℕ) → items ≡ now → lent ≡ items → IsPlace lent m i → IsNonDecreasing items → is_listed now m ≡ true → after ≡ remove items i → (after ≡ without_number m now) × IsNonDecreasing after
taken_out now items lent after m i view same at rising there is =
    let at' : IsPlace items m i = subst (λ (l : List ℕ). IsPlace l m i) same at in
    let there' : is_listed items m ≡ true = ap (λ (l : List ℕ). is_listed l m) view ∙ there in
    (is ∙ without_number-remove m i items at' there' rising ∙ ap (without_number m) view, subst IsNonDecreasing (sym is) (rising_removed i items (place_within m i items at' there') rising))

-- ---- the numbers of members

either_number : (b : Bool) (x y : Member) (ms ns : List Member) → map (λ z. z.number) (cond b (x ∷ y ∷ ms) (y ∷ ns)) ≡ cond b (x.number ∷ y.number ∷ map (λ z. z.number) ms) (y.number ∷ map (λ z. z.number) ns)
either_number true x y ms ns = refl
either_number false x y ms ns = refl

pub numbers_with : (x : Member) (ms : List Member) → map (λ z. z.number) (with_member x ms) ≡ with_number x.number (map (λ z. z.number) ms)
numbers_with x [] = refl
numbers_with x (y ∷ ms) =
    let b = nat_le x.number y.number in
    either_number b x y ms (with_member x ms) ∙ ap (λ ns. cond b (x.number ∷ y.number ∷ map (λ (z : Member). z.number) ms) (y.number ∷ ns)) (numbers_with x ms)

either_left : (b : Bool) (y : Member) (ms ns : List Member) → map (λ z. z.number) (cond b ms (y ∷ ns)) ≡ cond b (map (λ z. z.number) ms) (y.number ∷ map (λ z. z.number) ns)
either_left true y ms ns = refl
either_left false y ms ns = refl

pub numbers_without : (m : ℕ) (ms : List Member) → map (λ z. z.number) (without_member m ms) ≡ without_number m (map (λ z. z.number) ms)
numbers_without m [] = refl
numbers_without m (y ∷ ms) =
    let b = eqb y.number m in
    either_left b y ms (without_member m ms) ∙ ap (λ ns. cond b (map (λ (z : Member). z.number) ms) (y.number ∷ ns)) (numbers_without m ms)

pub is_listed-joined : (ms : List Member) (m : ℕ) → is_listed (map (λ z. z.number) ms) m ≡ is_joined ms m
is_listed-joined [] m = refl
is_listed-joined (y ∷ ms) m = ap (λ b. eqb y.number m || b) (is_listed-joined ms m)

-- the number of a slot that is filled is among them
pub listed_from : (low : ℕ) (slots : Slots) (i : ℕ) → is_some (get_or slots i None) ≡ true → (j : ℕ) × (j < length (map (λ x. x.number) (members_from low slots))) × (get_or (map (λ x. x.number) (members_from low slots)) j 0 ≡ low + i)
listed_from low [] i h = cc
listed_from low (None ∷ slots) zero h = cc
listed_from low (Some own ∷ slots) zero h = (0, omega arith, omega arith)
listed_from low (None ∷ slots) (suc i) h =
    let found = listed_from (low + 1) slots i h in
    (found.0, found.1, found.2 ∙ omega arith)
listed_from low (Some own ∷ slots) (suc i) h =
    let found = listed_from (low + 1) slots i h in
    (suc found.0, omega (arith, found.1), found.2 ∙ omega arith)

-- each slot that is filled has its number from the index on
abbrev pub IsLeft : Slots → List ℕ → ℕ → Type 0
IsLeft slots numbers index = (n : ℕ) → is_some (get_or slots n None) ≡ true → (j : ℕ) × (index ≤ j) × (j < length numbers) × (get_or numbers j 0 ≡ n)

pub left_first : (slots : Slots) (numbers : List ℕ) → numbers ≡ numbers_in slots → IsLeft slots numbers 0
left_first slots numbers same = λ n some.
    let found = listed_from 0 slots n some in
    (found.0, omega arith, omega (arith, found.1, ap length same), ap (λ (l : List ℕ). get_or l found.0 0) same ∙ found.2 ∙ omega arith)

pub left_next : (slots : Slots) (numbers : List ℕ) (index number : ℕ) → IsLeft slots numbers index → index < length numbers → number ≡ get_or numbers index number → number < length slots → IsLeft (set slots number None) numbers (index + 1)
left_next slots numbers index number h lt is within = λ n some.
    elim (cases_eq n number) [
      | inl own ↦
          let at : get_or (set slots number None) n None ≡ None = ap (λ k. get_or (set slots number None) k None) own ∙ get_or-set_same slots number None None within in
          absurd (true≢false (sym some ∙ ap is_some at))
      | inr apart ↦
          let found = h n (sym (ap is_some (get_or-set_other slots number n None None apart)) ∙ some) in
          let here : get_or numbers index 0 ≡ number = get_or_default numbers index 0 number lt ∙ sym is in
          let later : found.0 ≢ index = λ e. apart (sym found.3 ∙ ap (λ k. get_or numbers k 0) e ∙ here) in
          (found.0, omega (arith, found.1), found.2, found.3)
    ]

none_from : (o : Option (List (List ℕ))) → ((is_some o ≡ true) → ⊥) → o ≡ None
none_from None h = refl
none_from (Some places) h = absurd (h refl)

pub left_none : (slots : Slots) (numbers : List ℕ) (index : ℕ) → IsLeft slots numbers index → length numbers ≤ index → (n : ℕ) → get_or slots n None ≡ None
left_none slots numbers index h le n =
    none_from (get_or slots n None) (λ some. let found = h n some in absurd (omega (arith, found.1, found.2)))
