-- Datagrams in a row of bytes, cut at their lengths.
use Rattle.std.proofs.Common.{◌≡◌, ◌≤◌, ◌<◌, ℕ, ◌+◌, ◌-◌, min, ◌||◌, Bool, true, false, if◌then◌else◌, nat_lt, List, [], ◌∷◌, ◌++◌, length, take, drop, sum, refl, sym, ap, ◌∙◌, arith, subst}
use Rattle.std.proofs.lemmas.List.{length-take-le, length-drop, take-append-le, drop-append-le, take_all, length-append}
use Rattle.std.proofs.lemmas.Bool.{or_parts, lt-ltb, ltb-false, le-ltb}
use Rattle.std.proofs.lemmas.List.Sums.{sum_by-cons, sum_by-append}
use Rattle.link_queues.specs.Waiting.{Waiting, total, is_over, fitting, pieces}

pub length-one : (ds : List (List ℕ)) (d : List ℕ) → length (ds ++ d ∷ []) ≡ length ds + 1
length-one [] d = refl
length-one (x ∷ ds) d = let h = length-one ds d in omega (arith, h)

pub total-one : (ds : List (List ℕ)) (d : List ℕ) → total (ds ++ d ∷ []) ≡ total ds + length d
total-one [] d = omega arith
total-one (x ∷ ds) d = let h = total-one ds d in omega (arith, h)

pub length-pieces : (ns bytes : List ℕ) → length (pieces ns bytes) ≡ length ns
length-pieces [] bytes = refl
length-pieces (n ∷ ns) bytes = let h = length-pieces ns (drop n bytes) in omega (arith, h)

rest-sum : (n : ℕ) (ns bytes : List ℕ) → sum (n ∷ ns) ≡ length bytes → sum ns ≡ length (drop n bytes)
rest-sum n ns bytes h = let e = length-drop n bytes in let c = sum_by-cons (λ x. x) n ns in omega (arith, h, e, c)

within : (n : ℕ) (ns bytes : List ℕ) → sum (n ∷ ns) ≡ length bytes → n ≤ length bytes
within n ns bytes h = let c = sum_by-cons (λ x. x) n ns in omega (arith, h, c)

pub total-pieces : (ns bytes : List ℕ) → sum ns ≡ length bytes → total (pieces ns bytes) ≡ length bytes
total-pieces [] bytes h = h
total-pieces (n ∷ ns) bytes h =
    let r = rest-sum n ns bytes h in
    let t = total-pieces ns (drop n bytes) r in
    let front = length-take-le n bytes (within n ns bytes h) in
    let back = length-drop n bytes in
    let fits = within n ns bytes h in
    omega (arith, t, front, back, fits)

empty-is : (bytes : List ℕ) → 0 ≡ length bytes → bytes ≡ []
empty-is [] h = refl
empty-is (b ∷ bytes) h = absurd (omega (arith, h))

pub pieces-one : (ns bytes ds : List ℕ) → sum ns ≡ length bytes → pieces (ns ++ length ds ∷ []) (bytes ++ ds) ≡ pieces ns bytes ++ ds ∷ []
pieces-one [] bytes ds h =
    subst (λ b. pieces (length ds ∷ []) (b ++ ds) ≡ ds ∷ []) (sym (empty-is bytes h)) (ap (λ d. d ∷ []) (take_all (length ds) ds (omega arith)))
pieces-one (n ∷ ns) bytes ds h =
    let fits = within n ns bytes h in
    let later = pieces-one ns (drop n bytes) ds (rest-sum n ns bytes h) in
    ap (λ d. d ∷ pieces (ns ++ length ds ∷ []) (drop n (bytes ++ ds))) (take-append-le n bytes ds fits)
    ∙ ap (λ b. take n bytes ∷ pieces (ns ++ length ds ∷ []) b) (drop-append-le n bytes ds fits)
    ∙ ap (λ rest. take n bytes ∷ rest) later

-- too many or too long, by the counts that are kept
pub over-is : (ns bytes ds : List ℕ) (slots room : ℕ) → sum ns ≡ length bytes
    → is_over slots room (pieces ns bytes ++ ds ∷ []) ≡ (nat_lt slots (length ns + 1) || nat_lt room (length bytes + length ds))
over-is ns bytes ds slots room h =
    ap (λ n. nat_lt slots n || nat_lt room (total (pieces ns bytes ++ ds ∷ []))) (length-one (pieces ns bytes) ds ∙ ap (λ n. n + 1) (length-pieces ns bytes))
    ∙ ap (λ n. nat_lt slots (length ns + 1) || nat_lt room n) (total-one (pieces ns bytes) ds ∙ ap (λ n. n + length ds) (total-pieces ns bytes h))

-- the sum of the lengths stays that of the bytes
pub sum-one : (ns bytes ds : List ℕ) → sum ns ≡ length bytes → sum (ns ++ length ds ∷ []) ≡ length (bytes ++ ds)
sum-one ns bytes ds h =
    let a = sum_by-append (λ x. x) ns (length ds ∷ []) in
    let b = length-append bytes ds in
    omega (arith, a, b, h)

-- none too many and none too long, by the counts that are kept
pub room-left : (ns bytes ds : List ℕ) (slots room : ℕ) → sum ns ≡ length bytes
    → is_over slots room (pieces ns bytes ++ ds ∷ []) ≡ false → (length ns + 1 ≤ slots) × (length bytes + length ds ≤ room)
room-left ns bytes ds slots room h not_over =
    let both = or_parts (nat_lt slots (length ns + 1)) (nat_lt room (length bytes + length ds)) (sym (over-is ns bytes ds slots room h) ∙ not_over) in
    (ltb-false slots (length ns + 1) both.0, ltb-false room (length bytes + length ds) both.1)

-- the first answer of a choice that is made as soon as one of two holds
pub first-of : (m n count slots : ℕ) (later : Bool) → m ≡ slots → n ≡ count → m < n + 1 → nat_lt m (n + 1) ≡ (nat_lt slots (count + 1) || later)
first-of m n count slots later e f h =
    lt-ltb m (n + 1) h ∙ sym (ap (λ b. b || later) (ap (λ k. nat_lt k (count + 1)) (sym e) ∙ ap (λ k. nat_lt m (k + 1)) (sym f) ∙ lt-ltb m (n + 1) h))

pub second-of : (m n count slots : ℕ) (now later : Bool) → m ≡ slots → n ≡ count → n + 1 ≤ m → now ≡ later → now ≡ (nat_lt slots (count + 1) || later)
second-of m n count slots now later e f h same =
    same ∙ sym (ap (λ b. b || later) (ap (λ k. nat_lt k (count + 1)) (sym e) ∙ ap (λ k. nat_lt m (k + 1)) (sym f) ∙ le-ltb m (n + 1) h))

-- nothing waits in a queue of length 0
pub none-left : (ds : List (List ℕ)) → length ds ≡ 0 → ds ≡ []
none-left [] h = refl
none-left (d ∷ ds) h = absurd (omega (arith, h))

-- what doesn't fit drops its first; what fits stays
pub fitting-over : (slots room : ℕ) (d : List ℕ) (ds : List (List ℕ)) → is_over slots room (d ∷ ds) ≡ true → fitting slots room (d ∷ ds) ≡ fitting slots room ds
fitting-over slots room d ds h = ap (λ b. if b then fitting slots room ds else d ∷ ds) h

pub fitting-fits : (slots room : ℕ) (ds : List (List ℕ)) → is_over slots room ds ≡ false → fitting slots room ds ≡ ds
fitting-fits slots room [] h = refl
fitting-fits slots room (d ∷ ds) h = ap (λ b. if b then fitting slots room ds else d ∷ ds) h

-- a queue that is over drops its oldest, and none is left of one that is over by the new datagram alone
pub fitting-next : (slots room : ℕ) (ds : List (List ℕ)) (d : List ℕ) → 0 < length ds → is_over slots room (ds ++ d ∷ []) ≡ true
    → fitting slots room (drop 1 ds ++ d ∷ []) ≡ fitting slots room (ds ++ d ∷ [])
fitting-next slots room [] d some h = absurd (omega (arith, some))
fitting-next slots room (x ∷ ds) d some h = sym (fitting-over slots room x (ds ++ d ∷ []) h)

pub fitting-none : (slots room : ℕ) (d : List ℕ) → is_over slots room (d ∷ []) ≡ true → fitting slots room (d ∷ []) ≡ []
fitting-none slots room d h = fitting-over slots room d [] h

-- ---- a ring with room

pub kept-all : {X : Type 0} (xs : List X) (x : X) (capacity : ℕ) → length xs + 1 ≤ capacity → drop (length (xs ++ x ∷ []) - capacity) (xs ++ x ∷ []) ≡ xs ++ x ∷ []
kept-all xs x capacity h =
    let grown = length-append xs (x ∷ []) in
    let none : length (xs ++ x ∷ []) - capacity ≡ 0 = omega (arith, grown, h) in
    ap (λ k. drop k (xs ++ x ∷ [])) none

pub filled-all : (bytes ds : List ℕ) (capacity count : ℕ) → length bytes + length ds ≤ capacity → count ≡ min (length ds) (capacity - length bytes) → bytes ++ take count ds ≡ bytes ++ ds
filled-all bytes ds capacity count h is =
    let all : length ds ≤ count = omega (arith, h, is) in
    ap (λ x. bytes ++ x) (take_all count ds all)

-- two queues with the same in them are one
pub same-queue : (h k : List (List ℕ)) (s t r q : ℕ) → h ≡ k → s ≡ t → r ≡ q
    → ◌≡◌ {A = Waiting} (record { held = h; slots = s; room = r }) (record { held = k; slots = t; room = q })
same-queue h k s t r q a b c =
    let P1 : List (List ℕ) → Type 0 = λ x. ◌≡◌ {A = Waiting} (record { held = h; slots = s; room = r }) (record { held = x; slots = s; room = r }) in
    let P2 : ℕ → Type 0 = λ x. ◌≡◌ {A = Waiting} (record { held = h; slots = s; room = r }) (record { held = k; slots = x; room = r }) in
    let P3 : ℕ → Type 0 = λ x. ◌≡◌ {A = Waiting} (record { held = h; slots = s; room = r }) (record { held = k; slots = t; room = x }) in
    subst P3 c (subst P2 b (subst P1 a refl))
