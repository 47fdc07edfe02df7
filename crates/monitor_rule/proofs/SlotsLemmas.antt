-- Slots that are filled in one of two lists.
use Rattle.std.proofs.Common.{◌≡◌, ℕ, zero, suc, ◌+◌, ◌-◌, ◌^◌, ◌<◌, ◌≤◌, ◌≢◌, Bool, true, false, cond, List, [], ◌∷◌, ◌++◌, Option, Some, None, is_some, length, get_or, set, take, map, refl, sym, ap, ◌∙◌, subst, inl, inr, arith, length-set, get_or-set_same, get_or-set_other, ext_get_or}
use Rattle.std.specs.Option.{IsSomeAnd, option_or}
use Rattle.std.specs.Str.{bytes_eq}
use Rattle.std.proofs.lemmas.Bool.{cases_eq, true≢false}
use Rattle.std.proofs.lemmas.Slice.Eq.{bytes_eq-Decides}
use Rattle.std.proofs.lemmas.List.{get_or_read_under, map-append, take_more, take_more_set}
use Rattle.ring_order.specs.Rows.{place_of_number, hint_of, is_plain, tail_of}
use Rattle.ff_ids.specs.declared.TheConstants.{MEMBERS}
use Rattle.monitor_rule.specs.Slots.{HasSlots, slots_of}
use Rattle.monitor_rule.proofs.SlotLemmas.{Slots}

or_none : (x : Option (List (List ℕ))) → x ≡ option_or x None
or_none None = refl
or_none (Some p) = refl

pub slots_of-at : (hinted whole : Slots) (n : ℕ) → length whole ≤ length hinted → get_or (slots_of hinted whole) n None ≡ option_or (get_or hinted n None) (get_or whole n None)
slots_of-at [] [] n le = refl
slots_of-at [] (y ∷ whole) n le = absurd (omega arith)
slots_of-at (x ∷ hinted) [] zero le = or_none x
slots_of-at (x ∷ hinted) (y ∷ whole) zero le = refl
slots_of-at (x ∷ hinted) [] (suc n) le = slots_of-at hinted [] n (omega arith)
slots_of-at (x ∷ hinted) (y ∷ whole) (suc n) le = slots_of-at hinted whole n (omega arith)

pub slots_of-long : (hinted whole : Slots) → length (slots_of hinted whole) ≡ length hinted
slots_of-long [] whole = refl
slots_of-long (x ∷ hinted) [] = omega (arith, slots_of-long hinted [])
slots_of-long (x ∷ hinted) (y ∷ whole) = omega (arith, slots_of-long hinted whole)

pub reached : (xs : Slots) (n : ℕ) → is_some (get_or xs n None) ≡ true → n < length xs
reached [] n some = absurd (true≢false (sym some))
reached (x ∷ xs) zero some = omega arith
reached (x ∷ xs) (suc n) some = omega (arith, reached xs n some)

-- both lists are other ones at one number alone
pub slots_of-set : (hinted whole others left : Slots) (n : ℕ) (x : Option (List (List ℕ))) → length whole ≤ length hinted → length left ≤ length others → length others ≡ length hinted → n < length hinted → option_or (get_or others n None) (get_or left n None) ≡ x → ((k : ℕ) → k ≢ n → option_or (get_or others k None) (get_or left k None) ≡ option_or (get_or hinted k None) (get_or whole k None)) → slots_of others left ≡ set (slots_of hinted whole) n x
slots_of-set hinted whole others left n x few fewer long low here there =
    ext_get_or None (slots_of others left) (set (slots_of hinted whole) n x) (slots_of-long others left ∙ long ∙ sym (slots_of-long hinted whole) ∙ sym (length-set (slots_of hinted whole) n x)) each
  where
    low' : n < length (slots_of hinted whole)
    low' = omega (arith, low, slots_of-long hinted whole)

    each : (i : ℕ) → i < length (slots_of others left) → get_or (slots_of others left) i None ≡ get_or (set (slots_of hinted whole) n x) i None
    each i lt =
        elim (cases_eq i n) [
          | inl own ↦ subst (λ k. get_or (slots_of others left) k None ≡ get_or (set (slots_of hinted whole) n x) k None) (sym own) (slots_of-at others left n fewer ∙ here ∙ sym (get_or-set_same (slots_of hinted whole) n x None low'))
          | inr apart ↦ slots_of-at others left i fewer ∙ there i apart ∙ sym (slots_of-at hinted whole i few) ∙ sym (get_or-set_other (slots_of hinted whole) n i x None apart)
        ]

-- nothing is in a slot that is free
pub free_hinted : (hinted whole : Slots) (n : ℕ) → length whole ≤ length hinted → get_or (slots_of hinted whole) n None ≡ None → (get_or hinted n None ≡ None) × (get_or whole n None ≡ None)
free_hinted hinted whole n few free = parts (get_or hinted n None) (get_or whole n None) (sym (slots_of-at hinted whole n few) ∙ free)
  where
    parts : (x y : Option (List (List ℕ))) → option_or x y ≡ None → (x ≡ None) × (y ≡ None)
    parts None y e = (refl, e)
    parts (Some p) y e = cc

pub push-none : (slots : Slots) (n : ℕ) → get_or (slots ++ None ∷ []) n None ≡ get_or slots n None
push-none [] zero = refl
push-none [] (suc n) = refl
push-none (x ∷ slots) zero = refl
push-none (x ∷ slots) (suc n) = push-none slots n

-- the slot is filled in the first list
pub slots_of-hinted : (hinted whole : Slots) (n : ℕ) (p : List (List ℕ)) → length whole ≤ length hinted → n < length hinted → slots_of (set hinted n (Some p)) whole ≡ set (slots_of hinted whole) n (Some p)
slots_of-hinted hinted whole n p few low =
    slots_of-set hinted whole (set hinted n (Some p)) whole n (Some p) few (omega (arith, few, length-set hinted n (Some p))) (length-set hinted n (Some p)) low (ap (λ x. option_or x (get_or whole n None)) (get_or-set_same hinted n (Some p) None low))
    (λ k apart. ap (λ x. option_or x (get_or whole k None)) (get_or-set_other hinted n k (Some p) None apart))

-- or in the second, which may reach further before
pub slots_of-whole : (hinted whole more : Slots) (n : ℕ) (p : List (List ℕ)) → length whole ≤ length hinted → length more ≤ length hinted → n < length more → ((k : ℕ) → get_or more k None ≡ get_or whole k None) → get_or (slots_of hinted whole) n None ≡ None → slots_of hinted (set more n (Some p)) ≡ set (slots_of hinted whole) n (Some p)
slots_of-whole hinted whole more n p few fewer low same free =
    let none = free_hinted hinted whole n few free in
    slots_of-set hinted whole hinted (set more n (Some p)) n (Some p) few (omega (arith, fewer, length-set more n (Some p))) refl (omega (arith, low, fewer))
    (ap (λ x. option_or x (get_or (set more n (Some p)) n None)) none.0 ∙ get_or-set_same more n (Some p) None low)
    (λ k apart. ap (option_or (get_or hinted k None)) (get_or-set_other more n k (Some p) None apart ∙ same k))

get_past : (xs : Slots) (n : ℕ) → length xs ≤ n → get_or xs n None ≡ None
get_past [] n le = refl
get_past (x ∷ xs) zero le = absurd (omega arith)
get_past (x ∷ xs) (suc n) le = get_past xs n (omega arith)

-- the slot is emptied
pub slots_of-emptied : (hinted whole : Slots) (n : ℕ) → length whole ≤ length hinted → n < length hinted → n < length whole → slots_of (set hinted n None) (set whole n None) ≡ set (slots_of hinted whole) n None
slots_of-emptied hinted whole n few low there =
    slots_of-set hinted whole (set hinted n None) (set whole n None) n None few (omega (arith, few, length-set hinted n None, length-set whole n None)) (length-set hinted n None) low
    ((λ i. option_or (get_or-set_same hinted n None None low i) (get_or-set_same whole n None None there i)))
    (λ k apart. λ i. option_or (get_or-set_other hinted n k None None apart i) (get_or-set_other whole n k None None apart i))

pub slots_of-emptied_past : (hinted whole : Slots) (n : ℕ) → length whole ≤ length hinted → n < length hinted → length whole ≤ n → slots_of (set hinted n None) whole ≡ set (slots_of hinted whole) n None
slots_of-emptied_past hinted whole n few low past =
    slots_of-set hinted whole (set hinted n None) whole n None few (omega (arith, few, length-set hinted n None)) (length-set hinted n None) low
    ((λ i. option_or (get_or-set_same hinted n None None low i) (get_past whole n past i)))
    (λ k apart. ap (λ x. option_or x (get_or whole k None)) (get_or-set_other hinted n k None None apart))

-- nobody has joined
pub slots_of-none : (hinted : Slots) → ((n : ℕ) → get_or hinted n None ≡ None) → (n : ℕ) → get_or (slots_of hinted []) n None ≡ None
slots_of-none hinted none n = slots_of-at hinted [] n (omega arith) ∙ sym (or_none (get_or hinted n None)) ∙ none n

-- ---- what is found in a slot

some-of : (P : List (List ℕ) → Type 0) (o : Option (List (List ℕ))) → IsSomeAnd o P → is_some o ≡ true
some-of P None h = absurd h
some-of P (Some p) h = refl

shown : (hinted whole now : Slots) (capacity m : ℕ) → slots_of hinted whole ≡ now → HasSlots hinted whole capacity → get_or now m None ≡ option_or (get_or hinted m None) (get_or whole m None)
shown hinted whole now capacity m view has = ap (λ (xs : Slots). get_or xs m None) (sym view) ∙ slots_of-at hinted whole m (omega (arith, has.few, has.long))

-- what is read of the first list
read : (hinted : Slots) (n m : ℕ) (item : Option (List (List ℕ))) → n ≡ m → n < length hinted → item ≡ get_or hinted n item → item ≡ get_or hinted m None
read hinted n m item same low is = get_or_read_under hinted n (length hinted) item None is low refl ∙ ap (λ k. get_or hinted k None) same

pub found_hinted : (hinted whole now : Slots) (capacity n m : ℕ) (item : Option (List (List ℕ))) (p : List (List ℕ)) → slots_of hinted whole ≡ now → HasSlots hinted whole capacity → n ≡ m → n < MEMBERS → item ≡ get_or hinted n item → item ≡ Some p → get_or now m None ≡ Some p
found_hinted hinted whole now capacity n m item p view has same low is some =
    shown hinted whole now capacity m view has ∙ ap (λ x. option_or x (get_or whole m None)) (sym (read hinted n m item same (omega (arith, low, has.long)) is) ∙ some)

pub found_whole : (hinted whole now : Slots) (capacity n m : ℕ) (item : Option (List (List ℕ))) → slots_of hinted whole ≡ now → HasSlots hinted whole capacity → n ≡ m → n < MEMBERS → item ≡ get_or hinted n item → item ≡ None → get_or now m None ≡ get_or whole n None
found_whole hinted whole now capacity n m item view has same low is none =
    shown hinted whole now capacity m view has ∙ ap (λ x. option_or x (get_or whole m None)) (sym (read hinted n m item same (omega (arith, low, has.long)) is) ∙ none) ∙ ap (λ k. get_or whole k None) (sym same)

pub some_joined : (P : List (List ℕ) → Type 0) (now : Slots) (m : ℕ) → IsSomeAnd (get_or now m None) P → is_some (get_or now m None) ≡ true
some_joined P now m h = some-of P (get_or now m None) h

pub joined_at : (P : List (List ℕ) → Type 0) (now : Slots) (m : ℕ) (p : List (List ℕ)) → IsSomeAnd (get_or now m None) P → get_or now m None ≡ Some p → P p
joined_at P now m p h e = subst (λ o. IsSomeAnd o P) e h

-- ---- hints

bytes_true : (xs ys : List ℕ) → bytes_eq xs ys ≡ true → xs ≡ ys
bytes_true xs ys h = grind (arith, bytes_eq-Decides xs ys, h)

-- the place that a telling hint is the number of
pub told_place : (row : List ℕ) (h : ℕ) → h ≡ hint_of row → h < 2 ^ 32 - 1 → place_of_number h ≡ row
unfolding is_plain
told_place row h is tells = by_test (bytes_eq row (place_of_number (tail_of row))) refl
  where
    by_test : (b : Bool) → is_plain row ≡ b → place_of_number h ≡ row
    by_test true e =
        let same : row ≡ place_of_number (tail_of row) = bytes_true row (place_of_number (tail_of row)) e in
        ap place_of_number (is ∙ ap (λ b. cond b (tail_of row) (2 ^ 32 - 1)) e) ∙ sym same
    by_test false e = absurd (omega (arith, tells, is ∙ ap (λ b. cond b (tail_of row) (2 ^ 32 - 1)) e))

-- one more place
pub hinted_more : (i : ℕ) (hints : List ℕ) (places : List (List ℕ)) (h : ℕ) → i < length hints → i < length places → map place_of_number (take i hints) ≡ take i places → h ≡ hint_of (get_or places i []) → h < 2 ^ 32 - 1 → map place_of_number (take (i + 1) (set hints i h)) ≡ take (i + 1) places
hinted_more i hints places h low within so_far is tells =
    ap (map place_of_number) (take_more_set hints i h low) ∙ map-append place_of_number (take i hints) (h ∷ []) ∙ (λ k. so_far k ++ told_place (get_or places i []) h is tells k ∷ []) ∙ sym (take_more places i [] within)
