-- The watched are found as the successors of the member that watches them.
use Rattle.std.proofs.Common.{◌≡◌, ◌≢◌, ℕ, zero, suc, ◌+◌, ◌<◌, ◌≤◌, Bool, true, false, cond, not, ◌&&◌, ◌||◌, eqb, List, [], ◌∷◌, ◌++◌, Option, Some, None, map, refl, ap, sym, ◌∙◌, subst, arith, ⊎_elim}
use Rattle.std.specs.Prelude.{filter, nat_lt}
use Rattle.std.specs.List.{insert, slice_get, list_any, range_with_len}
use Rattle.std.specs.Option.{option_map_or}
use Rattle.std.proofs.lemmas.Bool.{eqb-true, eqb-false, eq-eqb, ne_eqb, false≢true}
use Rattle.std.proofs.lemmas.Bool.Decides.{nat_tests}
use Rattle.std.proofs.lemmas.List.Folds.{list_any-append}
use Rattle.std.proofs.Math.Numerals.{one-add}
use Rattle.std.proofs.lemmas.Cmp.{tied_itself}
use Rattle.std.specs.Ordering.{is_lt}
use Rattle.ff_ids.specs.declared.TheConstants.{MEMBERS}
use Rattle.ff_ids.specs.declared.NoteBody.{NoteBody}
use Rattle.ff_ids.specs.Masks.{ring_count, enables, enabled}
use Rattle.ff_ids.specs.Notes.{newest}
use Rattle.ff_ids.specs.Rings.{Key, is_between}
use Rattle.ring_order.proofs.KeyOrder.{before_ranked}
use Rattle.ff_ids.specs.Views.{State, in_view, key_of, monitor, successor, is_number}
use Rattle.ff_ids.proofs.MaskLemmas.{range_with_len-push}
use Rattle.membership.proofs.NumberLemmas.{either_bool, filter-range_agree, filter-range_none, all_length, AtEach-all}
use Rattle.membership.proofs.MonitorLemmas.{Keyed, IsMonitor, IsSuccessor, IsMonitor-some, IsMonitor-is, IsSuccessor-some, successor-of_monitor, is_number-some, is_number-is}
use Rattle.detector.specs.declared.watch.Watched.{Watched}
use Rattle.detector.specs.Watching.{monitors_by, is_watched, as_watched, watched}
use Rattle.detector.specs.Successors.{where_enabled, watched_where, watched_on, place_of, with_watched, with_any, watched_below}

-- ---- one more in a list in order of number

-- Each with its number.
record Named (f : ℕ → Watched) : Type 0 where
  number : (m : ℕ) → (f m).member ≡ m

abbrev listed : (ℕ → Watched) → (ℕ → Bool) → ℕ → ℕ → List Watched
listed f p a n = map f (filter p (range_with_len a n))

-- The test, or this number.
abbrev or_is : (ℕ → Bool) → ℕ → ℕ → Bool
or_is p x m = p m || eqb x m

listed_here : (f : ℕ → Watched) (p : ℕ → Bool) (a n : ℕ) → p a ≡ true → listed f p a (suc n) ≡ f a ∷ listed f p (a + 1) n
listed_here f p a n e = ap (λ b. map f (cond b (a ∷ filter p (range_with_len (a + 1) n)) (filter p (range_with_len (a + 1) n)))) e

listed_not : (f : ℕ → Watched) (p : ℕ → Bool) (a n : ℕ) → p a ≡ false → listed f p a (suc n) ≡ listed f p (a + 1) n
listed_not f p a n e = ap (λ b. map f (cond b (a ∷ filter p (range_with_len (a + 1) n)) (filter p (range_with_len (a + 1) n)))) e

-- Putting one in: in front of a greater number, not at all beside itself, and further on behind a smaller one.
place_front : (m : ℕ) (y : Watched) (ws : List Watched) → nat_lt y.member m ≡ false → place_of m (y ∷ ws) ≡ 0
place_front m y ws e = ap (λ b. cond b (1 + place_of m ws) 0) e

place_later : (m : ℕ) (y : Watched) (ws : List Watched) → nat_lt y.member m ≡ true → place_of m (y ∷ ws) ≡ suc (place_of m ws)
place_later m y ws e = ap (λ b. cond b (1 + place_of m ws) 0) e ∙ one-add (place_of m ws)

abbrev put_at : ℕ → Watched → List Watched → List Watched
put_at i w list = cond (option_map_or (λ x. eqb x.member w.member) (slice_get list i) false) list (insert list i w)

put_front : (w y : Watched) (ws : List Watched) → nat_lt y.member w.member ≡ false → eqb y.member w.member ≡ false → with_watched w (y ∷ ws) ≡ w ∷ y ∷ ws
put_front w y ws below other = ap (λ i. put_at i w (y ∷ ws)) (place_front w.member y ws below) ∙ ap (λ b. cond b (y ∷ ws) (w ∷ y ∷ ws)) other

put_here : (w y : Watched) (ws : List Watched) → nat_lt y.member w.member ≡ false → eqb y.member w.member ≡ true → with_watched w (y ∷ ws) ≡ y ∷ ws
put_here w y ws below same = ap (λ i. put_at i w (y ∷ ws)) (place_front w.member y ws below) ∙ ap (λ b. cond b (y ∷ ws) (w ∷ y ∷ ws)) same

cons_cond : (b : Bool) (y : Watched) (xs ys : List Watched) → cond b (y ∷ xs) (y ∷ ys) ≡ y ∷ cond b xs ys
cons_cond true y xs ys = refl
cons_cond false y xs ys = refl

put_later : (w y : Watched) (ws : List Watched) → nat_lt y.member w.member ≡ true → with_watched w (y ∷ ws) ≡ y ∷ with_watched w ws
put_later w y ws below =
    ap (λ i. put_at i w (y ∷ ws)) (place_later w.member y ws below) ∙ cons_cond (option_map_or (λ x. eqb x.member w.member) (slice_get ws (place_of w.member ws)) false) y ws (insert ws (place_of w.member ws) w)

not_below : (a x : ℕ) → x ≤ a → nat_lt a x ≡ false
not_below a x h = grind (arith, nat_tests)

is_below : (a x : ℕ) → a < x → nat_lt a x ≡ true
is_below a x h = grind (arith, nat_tests)

put-front : (f : ℕ → Watched) → Named f → (p : ℕ → Bool) (x a n : ℕ) → x < a → with_watched (f x) (listed f p a n) ≡ f x ∷ listed f p a n
put-front f named p x a zero h = refl
put-front f named p x a (suc n) h =
    ⊎_elim
    (λ t.
    let later : nat_lt (f a).member (f x).member ≡ false = rw (named.number a, named.number x) (not_below a x (omega (arith, h))) in
    let other : eqb (f a).member (f x).member ≡ false = rw (named.number a, named.number x) (ne_eqb a x (λ e. omega (arith, h, e))) in
    ap (with_watched (f x)) (listed_here f p a n t) ∙ put_front (f x) (f a) _ later other ∙ ap (λ ws. f x ∷ ws) (sym (listed_here f p a n t)))
    (λ t. ap (with_watched (f x)) (listed_not f p a n t) ∙ put-front f named p x (a + 1) n (omega (arith, h)) ∙ ap (λ ws. f x ∷ ws) (sym (listed_not f p a n t)))
    (either_bool (p a))

or_false : (b : Bool) → (b || false) ≡ b
or_false true = refl
or_false false = refl

or_true : (b : Bool) → (b || true) ≡ true
or_true true = refl
or_true false = refl

or_other : (p : ℕ → Bool) (x a : ℕ) → x ≢ a → or_is p x a ≡ p a
or_other p x a h = ap (λ b. p a || b) (ne_eqb x a h) ∙ or_false (p a)

or_same : (p : ℕ → Bool) (x : ℕ) → or_is p x x ≡ true
or_same p x = ap (λ b. p x || b) (eq-eqb x x refl) ∙ or_true (p x)

rest_same : (f : ℕ → Watched) (p : ℕ → Bool) (x n : ℕ) → listed f p (x + 1) n ≡ listed f (or_is p x) (x + 1) n
rest_same f p x n =
    ap (map f) (filter-range_agree p (or_is p x) (x + 1) n (record { each = λ m low high. sym (or_other p x m (λ e. omega (arith, low, e))) }))

put_at_start : (f : ℕ → Watched) → Named f → (p : ℕ → Bool) (x n : ℕ) → with_watched (f x) (listed f p x (suc n)) ≡ listed f (or_is p x) x (suc n)
put_at_start f named p x n =
    ⊎_elim
    (λ t. ap (with_watched (f x)) (listed_here f p x n t) ∙ put_here (f x) (f x) _ (not_below (f x).member (f x).member (omega arith)) (eq-eqb (f x).member (f x).member refl) ∙ ap (λ ws. f x ∷ ws) (rest_same f p x n) ∙ sym (listed_here f (or_is p x) x n (or_same p x)))
    (λ t. ap (with_watched (f x)) (listed_not f p x n t) ∙ put-front f named p x (x + 1) n (omega arith) ∙ ap (λ ws. f x ∷ ws) (rest_same f p x n) ∙ sym (listed_here f (or_is p x) x n (or_same p x)))
    (either_bool (p x))

put_behind : (f : ℕ → Watched) → Named f → (p : ℕ → Bool) (x a n : ℕ) → a < x → with_watched (f x) (listed f p (a + 1) n) ≡ listed f (or_is p x) (a + 1) n → with_watched (f x) (listed f p a (suc n)) ≡ listed f (or_is p x) a (suc n)
put_behind f named p x a n h rest =
    let same = or_other p x a (λ e. omega (arith, h, e)) in
    ⊎_elim
    (λ t.
    let smaller : nat_lt (f a).member (f x).member ≡ true = rw (named.number a, named.number x) (is_below a x h) in
    ap (with_watched (f x)) (listed_here f p a n t) ∙ put_later (f x) (f a) _ smaller ∙ ap (λ ws. f a ∷ ws) rest ∙ sym (listed_here f (or_is p x) a n (same ∙ t)))
    (λ t. ap (with_watched (f x)) (listed_not f p a n t) ∙ rest ∙ sym (listed_not f (or_is p x) a n (same ∙ t)))
    (either_bool (p a))

-- The one put in is among those that the test keeps, with this number.
put-listed : (f : ℕ → Watched) → Named f → (p : ℕ → Bool) (x a n : ℕ) → a ≤ x → x < a + n → with_watched (f x) (listed f p a n) ≡ listed f (or_is p x) a n
put-listed f named p x a zero low high = absurd (omega (arith, low, high))
put-listed f named p x a (suc n) low high =
    ⊎_elim
    (λ t. subst (λ a. with_watched (f x) (listed f p a (suc n)) ≡ listed f (or_is p x) a (suc n)) (sym (eqb-true a x t)) (put_at_start f named p x n))
    (λ t.
    let apart : a ≢ x = eqb-false a x t in
    put_behind f named p x a n (omega (arith, low, apart)) (put-listed f named p x (a + 1) n (omega (arith, low, apart)) (omega (arith, high))))
    (either_bool (eqb a x))

-- ---- who is whose successor

keyed : (s : State) (ring : ℕ) → Keyed (key_of s ring)
keyed s ring = record { number = λ m. refl }

-- Nothing lies between a member and itself at the start.
near_start : (m x : Key) → m.number ≢ x.number → is_between m m x ≡ false
near_start m x other =
    let r = before_ranked x in
    r.agrees m m other other ∙ ap is_lt (tied_itself r.total m)

-- A member of the view is the monitor of its successor.
monitor-of_successor : (s : State) (ring m x : ℕ) → IsSuccessor (key_of s ring) (in_view s) m x → m < MEMBERS → in_view s m ≡ true → IsMonitor (key_of s ring) (in_view s) x m
monitor-of_successor s ring m x h below is =
    record {
      below = below;
      passes = is;
      other = λ e. h.other (sym e);
      nearest = λ w w_below w_is apart. ⊎_elim
          (λ t. subst (λ k. is_between (key_of s ring m) (key_of s ring k) (key_of s ring x) ≡ false) (sym (eqb-true w m t)) (near_start (key_of s ring m) (key_of s ring x) (λ e. h.other (sym e))))
          (λ t. h.nearest w w_below w_is (eqb-false w m t))
          (either_bool (eqb w m));
    }

all_three : (a b c : Bool) → a ≡ true → b ≡ true → c ≡ true → ((a && b) && c) ≡ true
all_three a b c e f g = rw (e, f, g) refl

not_all : (a b c : Bool) → (b ≡ true → c ≡ true → ⊥) → ((a && b) && c) ≡ false
not_all true true true h = absurd (h refl refl)
not_all true true false h = refl
not_all true false c h = refl
not_all false b c h = refl

-- Another member of the view has this one as its monitor where it is its successor.
successor-watched : (s : State) (ring m me : ℕ) → m < MEMBERS → me < MEMBERS → in_view s me ≡ true → ((not (eqb m me) && in_view s m) && is_number (monitor s ring m) me) ≡ is_number (successor s ring me) m
successor-watched s ring m me m_below me_below me_is =
    ⊎_elim
    (λ t.
    let after = IsSuccessor-some (key_of s ring) (keyed s ring) (in_view s) me m (is_number-some (successor s ring me) m t) in
    let mine = IsMonitor-is (key_of s ring) (keyed s ring) (in_view s) m me (monitor-of_successor s ring me m after me_below me_is) in
    all_three (not (eqb m me)) (in_view s m) (is_number (monitor s ring m) me) (ap not (ne_eqb m me after.other)) after.passes (is_number-is _ me mine) ∙ sym t)
    (λ t.
    not_all (not (eqb m me)) (in_view s m) (is_number (monitor s ring m) me) (λ m_is is.
    let mine = IsMonitor-some (key_of s ring) (keyed s ring) (in_view s) m me (is_number-some (monitor s ring m) me is) in
    let after = successor-of_monitor (key_of s ring) (keyed s ring) (in_view s) m me mine m_below m_is me me_below me_is in
    absurd (false≢true (sym t ∙ after ∙ eq-eqb me me refl))) ∙ sym t)
    (either_bool (is_number (successor s ring me) m))

-- ---- those found on the first rings

-- The newest note of m enables the ring.
abbrev enables_on : State → ℕ → ℕ → Bool
enables_on s ring m = option_map_or (λ note. enables note.mask.0 ring) (newest s.notes m) false

abbrev is_found_on : State → ℕ → ℕ → ℕ → Bool
is_found_on s me ring m = is_number (successor s ring me) m && enables_on s ring m

abbrev found_below : State → ℕ → ℕ → ℕ → Bool
found_below s me zero m = false
found_below s me (suc ring) m = found_below s me ring m || is_found_on s me ring m

with_enabled : (s : State) (ring x : ℕ) (o : Option NoteBody) (list : List Watched) → with_any (where_enabled ring x o) list ≡ cond (option_map_or (λ note. enables note.mask.0 ring) o false) (with_watched (record { member = x; epoch = option_map_or (λ note. note.epoch) o 0 }) list) list
with_enabled s ring x None list = refl
with_enabled s ring x (Some note) list = enabled_cases (enables note.mask.0 ring) (record { member = x; epoch = note.epoch }) list
  where
    enabled_cases : (b : Bool) (w : Watched) (list : List Watched) → with_any (cond b (Some w) None) list ≡ cond b (with_watched w list) list
    enabled_cases true w list = refl
    enabled_cases false w list = refl

named_each : (s : State) → Named (as_watched s)
named_each s = record { number = λ m. refl }

found_same : (s : State) (p : ℕ → Bool) (ring x m : ℕ) (b : Bool) → enables_on s ring x ≡ b → cond b (or_is p x m) (p m) ≡ (p m || (eqb x m && enables_on s ring m))
found_same s p ring x m b e =
    ⊎_elim
    (λ t.
    let on : enables_on s ring m ≡ b = ap (enables_on s ring) (sym (eqb-true x m t)) ∙ e in
    both_same b (p m) (eqb x m) (enables_on s ring m) t on)
    (λ t. none_same b (p m) (eqb x m) (enables_on s ring m) t)
    (either_bool (eqb x m))
  where
    both_same : (b c d e : Bool) → d ≡ true → e ≡ b → cond b (c || d) c ≡ (c || (d && e))
    both_same true c d e f g = rw (f, g) refl
    both_same false c d e f g = rw (f, g) (sym (or_false c))

    none_same : (b c d e : Bool) → d ≡ false → cond b (c || d) c ≡ (c || (d && e))
    none_same true c d e f = rw f refl
    none_same false c d e f = rw f (sym (or_false c))

cond_same : (b : Bool) (f : ℕ → Watched) (p q : ℕ → Bool) (a n : ℕ) → cond b (listed f q a n) (listed f p a n) ≡ listed f (λ m. cond b (q m) (p m)) a n
cond_same true f p q a n = refl
cond_same false f p q a n = refl

-- One ring more.
found_one_more : (s : State) (p : ℕ → Bool) (ring n : ℕ) (o : Option ℕ) → ((x : ℕ) → o ≡ Some x → x < n) → with_any (watched_where s ring o) (listed (as_watched s) p 0 n) ≡ listed (as_watched s) (λ m. p m || (is_number o m && enables_on s ring m)) 0 n
found_one_more s p ring n None h =
    ap (map (as_watched s)) (filter-range_agree p (λ m. p m || (false && enables_on s ring m)) 0 n (record { each = λ m low high. sym (or_false (p m)) }))
found_one_more s p ring n (Some x) h =
    with_enabled s ring x (newest s.notes x) (listed (as_watched s) p 0 n)
    ∙ ap (λ ws. cond (enables_on s ring x) ws (listed (as_watched s) p 0 n)) (put-listed (as_watched s) (named_each s) p x 0 n (omega arith) (omega (arith, h x refl)))
    ∙ cond_same (enables_on s ring x) (as_watched s) p (or_is p x) 0 n
    ∙ ap (map (as_watched s)) (filter-range_agree (λ m. cond (enables_on s ring x) (or_is p x m) (p m)) (λ m. p m || (eqb x m && enables_on s ring m)) 0 n (record { each = λ m low high. found_same s p ring x m (enables_on s ring x) refl }))

successor_below : (s : State) (ring me x : ℕ) → successor s ring me ≡ Some x → x < MEMBERS
successor_below s ring me x e =
    let after = IsSuccessor-some (key_of s ring) (keyed s ring) (in_view s) me x e in
    omega (arith, after.below)

found-all : (s : State) (me ring n : ℕ) → n ≡ MEMBERS → watched_below s me ring ≡ listed (as_watched s) (found_below s me ring) 0 n
found-all s me zero n e = sym (ap (map (as_watched s)) (filter-range_none (λ m. false) 0 n (record { each = λ m low high. refl })))
found-all s me (suc ring) n e =
    ap (with_any (watched_on s ring me)) (found-all s me ring n e)
    ∙ found_one_more s (found_below s me ring) ring n (successor s ring me) (λ x is. omega (arith, e, successor_below s ring me x is))

-- ---- all rings

any_agree : (p q : ℕ → Bool) → ((x : ℕ) → p x ≡ q x) → (xs : List ℕ) → list_any p xs ≡ list_any q xs
any_agree p q h [] = refl
any_agree p q h (x ∷ xs) = ap (λ b. b || list_any p xs) (h x) ∙ ap (λ b. q x || b) (any_agree p q h xs)

and_or : (a b c : Bool) → ((a && b) || (a && c)) ≡ (a && (b || c))
and_or true b c = refl
and_or false b c = refl

any_and : (a : Bool) (p : ℕ → Bool) (xs : List ℕ) → list_any (λ x. a && p x) xs ≡ (a && list_any p xs)
any_and true p [] = refl
any_and false p [] = refl
any_and a p (x ∷ xs) = ap (λ b. (a && p x) || b) (any_and a p xs) ∙ and_or a (p x) (list_any p xs)

any_filter : (p q : ℕ → Bool) (xs : List ℕ) → list_any (λ x. p x && q x) xs ≡ list_any q (filter p xs)
any_filter p q [] = refl
any_filter p q (x ∷ xs) = ap (λ b. (p x && q x) || b) (any_filter p q xs) ∙ one_more (p x) q x (filter p xs)
  where
    one_more : (b : Bool) (q : ℕ → Bool) (x : ℕ) (ys : List ℕ) → ((b && q x) || list_any q ys) ≡ list_any q (cond b (x ∷ ys) ys)
    one_more true q x ys = refl
    one_more false q x ys = refl

any_none : (xs : List ℕ) → list_any (λ x. false) xs ≡ false
any_none [] = refl
any_none (x ∷ xs) = any_none xs

any_noted : (q : ℕ → Bool) (o : Option NoteBody) (xs : List ℕ) → list_any (λ ring. option_map_or (λ note. enables note.mask.0 ring) o false && q ring) xs ≡ option_map_or (λ note. list_any q (filter (enables note.mask.0) xs)) o false
any_noted q None xs = any_none xs
any_noted q (Some note) xs = any_filter (enables note.mask.0) q xs

any_below : (s : State) (me m ring : ℕ) → found_below s me ring m ≡ list_any (λ ring. is_found_on s me ring m) (range_with_len 0 ring)
any_below s me m zero = refl
any_below s me m (suc ring) =
    ap (λ b. b || is_found_on s me ring m) (any_below s me m ring)
    ∙ ap (λ b. list_any (λ ring. is_found_on s me ring m) (range_with_len 0 ring) || b) (sym (or_false (is_found_on s me ring m)))
    ∙ sym (list_any-append (λ ring. is_found_on s me ring m) (range_with_len 0 ring) (ring ∷ []))
    ∙ ap (list_any (λ ring. is_found_on s me ring m)) (ap (λ k. range_with_len 0 ring ++ k ∷ []) (from_zero ring) ∙ sym (range_with_len-push 0 ring))
  where
    from_zero : (k : ℕ) → k ≡ 0 + k
    from_zero k = omega arith

and_turned : (a b c : Bool) → ((a && b) && c) ≡ (a && (c && b))
and_turned true true true = refl
and_turned true true false = refl
and_turned true false true = refl
and_turned true false false = refl
and_turned false b c = refl

found-watched : (t : ℕ) (s : State) (me m : ℕ) → m < MEMBERS → me < MEMBERS → in_view s me ≡ true → found_below s me (ring_count t) m ≡ is_watched t s me m
found-watched t s me m m_below me_below me_is =
    let other = not (eqb m me) && in_view s m in
    any_below s me m (ring_count t)
    ∙ any_agree (λ ring. is_found_on s me ring m) (λ ring. other && (enables_on s ring m && is_number (monitor s ring m) me)) (λ ring. ap (λ b. b && enables_on s ring m) (sym (successor-watched s ring m me m_below me_below me_is)) ∙ and_turned other (is_number (monitor s ring m) me) (enables_on s ring m)) (range_with_len 0 (ring_count t))
    ∙ any_and other (λ ring. enables_on s ring m && is_number (monitor s ring m) me) (range_with_len 0 (ring_count t))
    ∙ ap (λ b. other && b) (any_noted (λ ring. is_number (monitor s ring m) me) (newest s.notes m) (range_with_len 0 (ring_count t)))

-- The successors whose notes enable their rings are those whom a member of the view watches.
pub watched-successors : (t : ℕ) (s : State) (me : ℕ) → me < MEMBERS → in_view s me ≡ true → watched_below s me (ring_count t) ≡ watched t s me
watched-successors t s me below is =
    let all = all_length in
    found-all s me (ring_count t) all.0 all.1.long
    ∙ ap (map (as_watched s)) (filter-range_agree (found_below s me (ring_count t)) (is_watched t s me) 0 all.0 (AtEach-all all.0 _ all.1.long (λ m m_below. found-watched t s me m m_below below is)))
    ∙ ap (λ xs. map (as_watched s) (filter (is_watched t s me) xs)) (sym all.1.are)

not_monitor : (s : State) (ring m me : ℕ) → in_view s me ≡ false → is_number (monitor s ring m) me ≡ false
not_monitor s ring m me out =
    ⊎_elim
    (λ t.
    let mine = IsMonitor-some (key_of s ring) (keyed s ring) (in_view s) m me (is_number-some (monitor s ring m) me t) in
    absurd (false≢true (sym out ∙ mine.passes)))
    (λ t. t)
    (either_bool (is_number (monitor s ring m) me))

none_noted : (s : State) (rings m me : ℕ) (o : Option NoteBody) → in_view s me ≡ false → option_map_or (monitors_by rings s me m) o false ≡ false
none_noted s rings m me None out = refl
none_noted s rings m me (Some note) out =
    any_agree (λ ring. is_number (monitor s ring m) me) (λ ring. false) (λ ring. not_monitor s ring m me out) (enabled rings note.mask.0) ∙ any_none (enabled rings note.mask.0)

and_false : (b : Bool) → (b && false) ≡ false
and_false true = refl
and_false false = refl

-- Who isn't in the view watches nobody.
pub watched-nobody : (t : ℕ) (s : State) (me : ℕ) → in_view s me ≡ false → watched t s me ≡ []
watched-nobody t s me out =
    let all = all_length in
    ap (λ xs. map (as_watched s) (filter (is_watched t s me) xs)) all.1.are
    ∙ ap (map (as_watched s)) (filter-range_none (is_watched t s me) 0 all.0 (record { each = λ m low high. ap (λ b. (not (eqb m me) && in_view s m) && b) (none_noted s (ring_count t) m me (newest s.notes m) out) ∙ and_false (not (eqb m me) && in_view s m) }))
