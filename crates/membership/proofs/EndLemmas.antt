-- Kept accusations that end one after another.
use Rattle.std.proofs.Common.{◌≡◌, ℕ, zero, suc, replicate, get_or, take, ◌+◌, ◌-◌, ◌<◌, ◌≤◌, Bool, true, false, cond, not, ◌&&◌, ◌||◌, eqb, List, [], ◌∷◌, map, length, Option, Some, None, inl, inr, refl, ap, sym, ◌∙◌, subst, arith}
use Rattle.std.specs.Prelude.{nat_lt, slice_index_or, IfSome}
use Rattle.std.specs.List.{list_any, filter, insert, prefix_len, AllByRecursion}
use Rattle.std.specs.Option.{option_map_or}
use Rattle.std.proofs.lemmas.Bool.{cases_lt, eqb-true, true≢false}
use Rattle.std.proofs.lemmas.Bool.Decides.{nat_tests}
use Rattle.std.proofs.lemmas.List.Edits.{length-insert}
use Rattle.std.proofs.lemmas.List.Filters.{length-filter_both}
use Rattle.std.proofs.lemmas.List.Folds.{list_any_more}
use Rattle.std.proofs.lemmas.List.Sums.{prefix_len-le-length}
use Rattle.ff_ids.specs.declared.TheConstants.{MEMBERS}
use Rattle.ff_ids.specs.declared.AccBody.{AccBody}
use Rattle.ff_ids.specs.declared.NoteBody.{NoteBody}
use Rattle.ff_ids.specs.Views.{is_number, is_unanswered_by}
use Rattle.ff_ids.specs.Steps.{precedes}
use Rattle.removal_timer.specs.Kept.{is_at, entry_at, IsInOrder}
use Rattle.removal_timer.specs.Tally.{is_by}
use Rattle.membership.specs.Life.{Life}
use Rattle.membership.specs.Ends.{IsAgain, is_against_next, next_of, is_of, is_of_any, Entry, Ends, with_fallen, is_on, is_named, is_answered, answered_on}
use Rattle.membership.proofs.NumberLemmas.{filter-filter}

-- ---- facts of each entry

pub AllBy-then : {X : Type 0} (P Q : X → Type 0) → ((x : X) → P x → Q x) → (xs : List X) → AllByRecursion P xs → AllByRecursion Q xs
AllBy-then P Q k [] h = tt
AllBy-then P Q k (x ∷ xs) h = (k x h.0, AllBy-then P Q k xs h.1)

pub AllBy-both : {X : Type 0} (P Q R : X → Type 0) → ((x : X) → P x → Q x → R x) → (xs : List X) → AllByRecursion P xs → AllByRecursion Q xs → AllByRecursion R xs
AllBy-both P Q R k [] h i = tt
AllBy-both P Q R k (x ∷ xs) h i = (k x h.0 i.0, AllBy-both P Q R k xs h.1 i.1)

pub filter_agree_on : {X : Type 0} (f g : X → Bool) (xs : List X) → AllByRecursion (λ x. f x ≡ g x) xs → filter f xs ≡ filter g xs
filter_agree_on f g [] h = refl
filter_agree_on f g (x ∷ xs) h = ap (λ b. cond b (x ∷ filter f xs) (filter f xs)) h.0 ∙ ap (λ ys. cond (g x) (x ∷ ys) ys) (filter_agree_on f g xs h.1)

pub filter_all : {X : Type 0} (p : X → Bool) → ((x : X) → p x ≡ true) → (xs : List X) → filter p xs ≡ xs
filter_all p h [] = refl
filter_all p h (x ∷ xs) = rw (h x) (ap (λ ys. x ∷ ys) (filter_all p h xs))

pub filter_nothing : {X : Type 0} (xs : List X) → filter (λ x. false) xs ≡ []
filter_nothing [] = refl
filter_nothing (x ∷ xs) = filter_nothing xs

-- each is against a member, on a ring of the group
pub record IsEntry (rings : ℕ) (p : Entry) : Type 0 where
  pub number : p.0.accused < MEMBERS
  pub ring : p.0.ring.0 < rings

pub AllBy-entries : (rings : ℕ) (es : List Entry) → IsInOrder rings es → AllByRecursion (IsEntry rings) es
AllBy-entries rings [] h = tt
AllBy-entries rings (e ∷ es) h = (record { number = h.0; ring = h.1 }, AllBy-entries rings es h.3)

first_apart : (p q : Entry) → precedes p.0 q.0 ≡ true → (is_at q.0.accused q.0.ring.0 p ≡ false) × (is_at p.0.accused p.0.ring.0 q ≡ false)
first_apart p q h = (grind (arith, nat_tests), grind (arith, nat_tests))

-- what stands at the place of an entry is the entry
pub entry_at-itself : (rings : ℕ) (es : List Entry) → IsInOrder rings es → AllByRecursion (λ p. entry_at p.0.accused p.0.ring.0 es ≡ Some p) es
entry_at-itself rings [] h = tt
entry_at-itself rings (e ∷ es) h =
    let here : is_at e.0.accused e.0.ring.0 e ≡ true = grind (arith, nat_tests) in
    (rw here refl, AllBy-both (λ q. precedes e.0 q.0 ≡ true) (λ q. entry_at q.0.accused q.0.ring.0 es ≡ Some q) (λ q. entry_at q.0.accused q.0.ring.0 (e ∷ es) ≡ Some q) (λ q first found. rw (first_apart e q first).0 found) es h.2 (entry_at-itself rings es h.3))

-- what is found at a place is there
pub found_there : (x r : ℕ) (es : List Entry) (p : Entry) → entry_at x r es ≡ Some p → is_at x r p ≡ true
found_there x r [] p h = cc
found_there x r (q ∷ es) p h = by_place (is_at x r q) refl h (found_there x r es p)
  where
    by_place : (b : Bool) → is_at x r q ≡ b → cond b (Some q) (entry_at x r es) ≡ Some p → (entry_at x r es ≡ Some p → is_at x r p ≡ true) → is_at x r p ≡ true
    by_place true here e rest = let same : q ≡ p = cc in subst (λ q. is_at x r q ≡ true) same here
    by_place false here e rest = rest e

-- without what is at a place there are fewer, or the same
pub length-cleared : (x r : ℕ) (es : List Entry) (p : Entry) → entry_at x r es ≡ Some p → length (filter (λ p. not (is_at x r p)) es) + 1 ≤ length es
length-cleared x r [] p h = cc
length-cleared x r (q ∷ es) p h = by_place (is_at x r q) h (length-cleared x r es p)
  where
    fewer : (es : List Entry) → length (filter (λ p. not (is_at x r p)) es) ≤ length es
    fewer es = omega (arith, length-filter_both (is_at x r) (λ p. not (is_at x r p)) (λ p. refl) es)

    by_place : (b : Bool) → cond b (Some q) (entry_at x r es) ≡ Some p → (entry_at x r es ≡ Some p → length (filter (λ p. not (is_at x r p)) es) + 1 ≤ length es) → length (cond (not b) (q ∷ filter (λ p. not (is_at x r p)) es) (filter (λ p. not (is_at x r p)) es)) + 1 ≤ length (q ∷ es)
    by_place true e rest = omega (arith, fewer es)
    by_place false e rest = omega (arith, rest e)

pub none_cleared : (x r : ℕ) (es : List Entry) → entry_at x r es ≡ None → filter (λ p. not (is_at x r p)) es ≡ es
none_cleared x r [] h = refl
none_cleared x r (q ∷ es) h = by_place (is_at x r q) h (none_cleared x r es)
  where
    by_place : (b : Bool) → cond b (Some q) (entry_at x r es) ≡ None → (entry_at x r es ≡ None → filter (λ p. not (is_at x r p)) es ≡ es) → cond (not b) (q ∷ filter (λ p. not (is_at x r p)) es) (filter (λ p. not (is_at x r p)) es) ≡ q ∷ es
    by_place true e rest = cc
    by_place false e rest = ap (λ xs. q ∷ xs) (rest e)

-- nothing is at any place of a list of nothing
pub none_at : {X : Type 0} (n k : ℕ) → get_or {A = Option X} (replicate n None) k None ≡ None
none_at zero k = refl
none_at (suc n) zero = refl
none_at (suc n) (suc k) = none_at n k

pub some_at : {X : Type 0} (x : X) (n k : ℕ) → k < n → get_or {A = Option X} (replicate n (Some x)) k None ≡ Some x
some_at x zero k below = absurd (omega arith)
some_at x (suc n) zero below = refl
some_at x (suc n) (suc k) below = some_at x n k (omega (arith, below))

-- ---- one more that fell

fallen_first : (a : AccBody) (fell : List AccBody) → AllByRecursion (λ b. precedes b a ≡ false) fell → with_fallen a fell ≡ a ∷ fell
fallen_first a [] h = refl
fallen_first a (b ∷ fell) h = rw h.0 refl

fallen_later : (a b : AccBody) (fell : List AccBody) → precedes b a ≡ true → with_fallen a (b ∷ fell) ≡ b ∷ with_fallen a fell
fallen_later a b fell h =
    let more : 1 + prefix_len (λ b. precedes b a) fell ≡ suc (prefix_len (λ b. precedes b a) fell) = omega arith in
    ap (λ (c : Bool). insert (b ∷ fell) (cond c (1 + prefix_len (λ b. precedes b a) fell) 0) a) h ∙ ap (λ n. insert (b ∷ fell) n a) more

pub length-with_fallen : (a : AccBody) (fell : List AccBody) → length (with_fallen a fell) ≡ length fell + 1
length-with_fallen a fell = length-insert fell (prefix_len (λ b. precedes b a) fell) a (prefix_len-le-length (λ b. precedes b a) fell)

not_before : (p q : Entry) → precedes p.0 q.0 ≡ true → precedes q.0 p.0 ≡ false
not_before p q h = grind (arith, nat_tests)

picked_later : (p : Entry) (f : Entry → Bool) (es : List Entry) → AllByRecursion (λ q. precedes p.0 q.0 ≡ true) es → AllByRecursion (λ b. precedes b p.0 ≡ false) (map (λ q. q.0) (filter f es))
picked_later p f [] h = tt
picked_later p f (q ∷ es) h = by_test (f q) (picked_later p f es h.1)
  where
    by_test : (b : Bool) → AllByRecursion (λ b. precedes b p.0 ≡ false) (map (λ q. q.0) (filter f es)) → AllByRecursion (λ b. precedes b p.0 ≡ false) (map (λ q. q.0) (cond b (q ∷ filter f es) (filter f es)))
    by_test true rest = (not_before p q h.0, rest)
    by_test false rest = rest

abbrev found_later : Entry → Option Entry → Type 0
found_later p o = IfSome o (λ q. precedes p.0 q.0 ≡ true)

find_later : (p : Entry) (x r : ℕ) (f : Entry → Bool) (es : List Entry) → AllByRecursion (λ q. precedes p.0 q.0 ≡ true) es → found_later p (entry_at x r (filter f es))
find_later p x r f [] h = tt
find_later p x r f (q ∷ es) h = by_test (f q) (find_later p x r f es h.1)
  where
    by_place : (b : Bool) → found_later p (entry_at x r (filter f es)) → found_later p (cond b (Some q) (entry_at x r (filter f es)))
    by_place true rest = h.0
    by_place false rest = rest

    by_test : (b : Bool) → found_later p (entry_at x r (filter f es)) → found_later p (entry_at x r (cond b (q ∷ filter f es) (filter f es)))
    by_test true rest = by_place (is_at x r q) rest
    by_test false rest = rest

at_place : (x r : ℕ) (p q : Entry) → is_at x r p ≡ true → precedes p.0 q.0 ≡ true → is_at x r q ≡ false
at_place x r p q here first = grind (arith, nat_tests)

none_later : (x r : ℕ) (p : Entry) (f : Entry → Bool) (es : List Entry) → is_at x r p ≡ true → AllByRecursion (λ q. precedes p.0 q.0 ≡ true) es → entry_at x r (filter f es) ≡ None
none_later x r p f [] here h = refl
none_later x r p f (q ∷ es) here h = by_test (f q) (none_later x r p f es here h.1)
  where
    by_test : (b : Bool) → entry_at x r (filter f es) ≡ None → entry_at x r (cond b (q ∷ filter f es) (filter f es)) ≡ None
    by_test true rest = ap (λ b. cond b (Some q) (entry_at x r (filter f es))) (at_place x r p q here h.0) ∙ rest
    by_test false rest = rest

-- what falls with one more place
abbrev told_with : ℕ → ℕ → (Entry → Bool) → List Entry → List AccBody
told_with x r ended es = option_map_or (λ q. with_fallen q.0 (map (λ q. q.0) (filter ended es))) (entry_at x r (filter (λ p. not (ended p)) es)) (map (λ q. q.0) (filter ended es))

or_false : (b : Bool) → (b || false) ≡ b
or_false true = refl
or_false false = refl

told_here : (x r : ℕ) (ended : Entry → Bool) (p : Entry) (es : List Entry) → AllByRecursion (λ q. precedes p.0 q.0 ≡ true) es → (b : Bool) → is_at x r p ≡ true → map (λ q. q.0) (filter (λ q. ended q || is_at x r q) es) ≡ map (λ q. q.0) (filter ended es) → p.0 ∷ map (λ q. q.0) (filter (λ q. ended q || is_at x r q) es) ≡ option_map_or (λ q. with_fallen q.0 (map (λ q. q.0) (cond b (p ∷ filter ended es) (filter ended es)))) (entry_at x r (cond (not b) (p ∷ filter (λ p. not (ended p)) es) (filter (λ p. not (ended p)) es))) (map (λ q. q.0) (cond b (p ∷ filter ended es) (filter ended es)))
told_here x r ended p es later true here same = ap (λ fell. p.0 ∷ fell) same ∙ sym (ap (λ o. option_map_or (λ q. with_fallen q.0 (p.0 ∷ map (λ q. q.0) (filter ended es))) o (p.0 ∷ map (λ q. q.0) (filter ended es))) (none_later x r p (λ p. not (ended p)) es here later))
told_here x r ended p es later false here same = ap (λ fell. p.0 ∷ fell) same ∙ sym (ap (λ b. option_map_or (λ q. with_fallen q.0 (map (λ q. q.0) (filter ended es))) (cond b (Some p) (entry_at x r (filter (λ p. not (ended p)) es))) (map (λ q. q.0) (filter ended es))) here ∙ fallen_first p.0 (map (λ q. q.0) (filter ended es)) (picked_later p ended es later))

told_there : (p : Entry) (o : Option Entry) (fell : List AccBody) → found_later p o → p.0 ∷ option_map_or (λ q. with_fallen q.0 fell) o fell ≡ option_map_or (λ q. with_fallen q.0 (p.0 ∷ fell)) o (p.0 ∷ fell)
told_there p None fell h = refl
told_there p (Some q) fell h = sym (fallen_later q.0 p.0 fell h)

told_at : (rings x r : ℕ) (ended : Entry → Bool) (es : List Entry) → IsInOrder rings es → map (λ q. q.0) (filter (λ q. ended q || is_at x r q) es) ≡ told_with x r ended es
told_at rings x r ended [] h = refl
told_at rings x r ended (p ∷ es) h = by_place (is_at x r p) refl (told_at rings x r ended es h.3)
  where
    others : is_at x r p ≡ true → map (λ q. q.0) (filter (λ q. ended q || is_at x r q) es) ≡ map (λ q. q.0) (filter ended es)
    others here = ap (map (λ q. q.0)) (filter_agree_on (λ q. ended q || is_at x r q) ended es (AllBy-then (λ q. precedes p.0 q.0 ≡ true) (λ q. (ended q || is_at x r q) ≡ ended q) (λ q first. ap (λ b. ended q || b) (at_place x r p q here first) ∙ or_false (ended q)) es h.2))

    by_end : (b : Bool) → is_at x r p ≡ false → map (λ q. q.0) (filter (λ q. ended q || is_at x r q) es) ≡ told_with x r ended es → map (λ q. q.0) (cond (b || false) (p ∷ filter (λ q. ended q || is_at x r q) es) (filter (λ q. ended q || is_at x r q) es)) ≡ option_map_or (λ q. with_fallen q.0 (map (λ q. q.0) (cond b (p ∷ filter ended es) (filter ended es)))) (entry_at x r (cond (not b) (p ∷ filter (λ p. not (ended p)) es) (filter (λ p. not (ended p)) es))) (map (λ q. q.0) (cond b (p ∷ filter ended es) (filter ended es)))
    by_end true there rest = ap (λ fell. p.0 ∷ fell) rest ∙ told_there p (entry_at x r (filter (λ p. not (ended p)) es)) (map (λ q. q.0) (filter ended es)) (find_later p x r (λ p. not (ended p)) es h.2)
    by_end false there rest = rest ∙ ap (λ b. option_map_or (λ q. with_fallen q.0 (map (λ q. q.0) (filter ended es))) (cond b (Some p) (entry_at x r (filter (λ p. not (ended p)) es))) (map (λ q. q.0) (filter ended es))) (sym there)

    or_true : (b : Bool) → (b || true) ≡ true
    or_true true = refl
    or_true false = refl

    by_place : (b : Bool) → is_at x r p ≡ b → map (λ q. q.0) (filter (λ q. ended q || is_at x r q) es) ≡ told_with x r ended es → map (λ q. q.0) (filter (λ q. ended q || is_at x r q) (p ∷ es)) ≡ told_with x r ended (p ∷ es)
    by_place true here rest = ap (λ b. map (λ q. q.0) (cond (ended p || b) (p ∷ filter (λ q. ended q || is_at x r q) es) (filter (λ q. ended q || is_at x r q) es))) here ∙ ap (λ b. map (λ q. q.0) (cond b (p ∷ filter (λ q. ended q || is_at x r q) es) (filter (λ q. ended q || is_at x r q) es))) (or_true (ended p)) ∙ told_here x r ended p es h.2 (ended p) here (others here)
    by_place false there rest = ap (λ b. map (λ q. q.0) (cond (ended p || b) (p ∷ filter (λ q. ended q || is_at x r q) es) (filter (λ q. ended q || is_at x r q) es))) there ∙ by_end (ended p) there rest

pub or_assoc : (b c d : Bool) → (b || (c || d)) ≡ ((b || c) || d)
or_assoc true c d = refl
or_assoc false c d = refl

neither : (b c : Bool) → (not b && not c) ≡ not (b || c)
neither true c = refl
neither false c = refl

-- ---- what has ended

-- what the tests say of the rings' entries alone
pub Ends-agree : (rings : ℕ) (f g : Entry → Bool) (kept kept' : List Entry) (fell fell' : List AccBody) → ((p : Entry) → p.0.ring.0 < rings → f p ≡ g p) → Ends rings f kept fell kept' fell' → Ends rings g kept fell kept' fell'
Ends-agree rings f g kept kept' fell fell' same h = λ entries ended before.
    let after = h entries ended before in
    let each : AllByRecursion (λ p. (ended p || f p) ≡ (ended p || g p)) entries = AllBy-then (IsEntry rings) (λ p. (ended p || f p) ≡ (ended p || g p)) (λ p e. ap (λ b. ended p || b) (same p e.ring)) entries (AllBy-entries rings entries before.in_order) in
    record {
      in_order = before.in_order;
      left = after.left ∙ filter_agree_on (λ p. not (ended p || f p)) (λ p. not (ended p || g p)) entries (AllBy-then (λ p. (ended p || f p) ≡ (ended p || g p)) (λ p. not (ended p || f p) ≡ not (ended p || g p)) (λ p e. ap not e) entries each);
      told = after.told ∙ ap (map (λ p. p.0)) (filter_agree_on (λ p. ended p || f p) (λ p. ended p || g p) entries each);
    }

pub Ends-none : (rings : ℕ) (kept : List Entry) (fell : List AccBody) → Ends rings (λ p. false) kept fell kept fell
Ends-none rings kept fell = λ entries ended before.
    record {
      in_order = before.in_order;
      left = before.left ∙ sym (filter_agree_on (λ p. not (ended p || false)) (λ p. not (ended p)) entries (AllBy-then (IsEntry rings) (λ p. not (ended p || false) ≡ not (ended p)) (λ p _. ap not (or_false (ended p))) entries (AllBy-entries rings entries before.in_order)));
      told = before.told ∙ sym (ap (map (λ p. p.0)) (filter_agree_on (λ p. ended p || false) ended entries (AllBy-then (IsEntry rings) (λ p. (ended p || false) ≡ ended p) (λ p _. or_false (ended p)) entries (AllBy-entries rings entries before.in_order))));
    }

-- one place after what had ended
pub Ends-at : (rings x r : ℕ) (f : Entry → Bool) (first kept : List Entry) (told fell : List AccBody) → Ends rings f first told kept fell → Ends rings (λ p. f p || is_at x r p) first told (filter (λ p. not (is_at x r p)) kept) (option_map_or (λ p. with_fallen p.0 fell) (entry_at x r kept) fell)
Ends-at rings x r f first kept told fell h = λ entries ended before.
    let now = h entries ended before in
    let all = λ (p : Entry). ended p || f p in
    let fallen : option_map_or (λ p. with_fallen p.0 fell) (entry_at x r kept) fell ≡ told_with x r all entries = ap (λ ks. option_map_or (λ p. with_fallen p.0 fell) (entry_at x r ks) fell) now.left ∙ ap (λ fs. option_map_or (λ p. with_fallen p.0 fs) (entry_at x r (filter (λ p. not (all p)) entries)) fs) now.told in
    record {
      in_order = before.in_order;
      left = ap (filter (λ p. not (is_at x r p))) now.left ∙ filter-filter (λ p. not (is_at x r p)) (λ p. not (all p)) entries
          ∙ filter_agree_on (λ p. not (all p) && not (is_at x r p)) (λ p. not (ended p || (f p || is_at x r p))) entries (AllBy-then (IsEntry rings) (λ p. (not (all p) && not (is_at x r p)) ≡ not (ended p || (f p || is_at x r p))) (λ p _. neither (all p) (is_at x r p) ∙ ap not (sym (or_assoc (ended p) (f p) (is_at x r p)))) entries (AllBy-entries rings entries before.in_order));
      told = fallen ∙ sym (told_at rings x r all entries before.in_order)
          ∙ ap (map (λ p. p.0)) (filter_agree_on (λ p. all p || is_at x r p) (λ p. ended p || (f p || is_at x r p)) entries (AllBy-then (IsEntry rings) (λ p. (all p || is_at x r p) ≡ (ended p || (f p || is_at x r p))) (λ p _. sym (or_assoc (ended p) (f p) (is_at x r p))) entries (AllBy-entries rings entries before.in_order)));
    }

-- one test after another
pub Ends-then : (rings : ℕ) (f g : Entry → Bool) (first kept last : List Entry) (told fell fallen : List AccBody) → Ends rings f first told kept fell → Ends rings g kept fell last fallen → Ends rings (λ p. f p || g p) first told last fallen
Ends-then rings f g first kept last told fell fallen h i = λ entries ended before.
    let after = i entries (λ p. ended p || f p) (h entries ended before) in
    let each : AllByRecursion (λ p. ((ended p || f p) || g p) ≡ (ended p || (f p || g p))) entries = AllBy-then (IsEntry rings) (λ p. ((ended p || f p) || g p) ≡ (ended p || (f p || g p))) (λ p _. sym (or_assoc (ended p) (f p) (g p))) entries (AllBy-entries rings entries before.in_order) in
    record {
      in_order = before.in_order;
      left = after.left ∙ filter_agree_on (λ p. not ((ended p || f p) || g p)) (λ p. not (ended p || (f p || g p))) entries (AllBy-then (λ p. ((ended p || f p) || g p) ≡ (ended p || (f p || g p))) (λ p. not ((ended p || f p) || g p) ≡ not (ended p || (f p || g p))) (λ p e. ap not e) entries each);
      told = after.told ∙ ap (map (λ p. p.0)) (filter_agree_on (λ p. (ended p || f p) || g p) (λ p. ended p || (f p || g p)) entries each);
    }

-- where one test has picked what it could, a test that says the same of the rest picks no more
none_more : (f g by : Entry → Bool) (ended : Entry → Bool) (entries : List Entry) → AllByRecursion (λ p. g p ≡ (f p || by p)) (filter (λ p. not (ended p)) entries) → list_any by (filter (λ p. not (ended p || f p)) entries) ≡ false → AllByRecursion (λ p. (ended p || f p) ≡ (ended p || g p)) entries
none_more f g by ended [] same none = tt
none_more f g by ended (p ∷ entries) same none = by_end (ended p) same none (none_more f g by ended entries)
  where
    by_pick : (b : Bool) → f p ≡ b → g p ≡ (b || by p) → list_any by (cond (not b) (p ∷ filter (λ p. not (ended p || f p)) entries) (filter (λ p. not (ended p || f p)) entries)) ≡ false → (b ≡ g p) × (list_any by (filter (λ p. not (ended p || f p)) entries) ≡ false)
    by_pick true picked is none = (sym is, none)
    by_pick false picked is none =
        let parts = neither_one (by p) (list_any by (filter (λ p. not (ended p || f p)) entries)) none in
        (sym (is ∙ parts.0), parts.1)
      where
        neither_one : (b c : Bool) → (b || c) ≡ false → (b ≡ false) × (c ≡ false)
        neither_one true c h = absurd (true≢false h)
        neither_one false c h = (refl, h)

    by_end : (b : Bool) → AllByRecursion (λ p. g p ≡ (f p || by p)) (cond (not b) (p ∷ filter (λ p. not (ended p)) entries) (filter (λ p. not (ended p)) entries)) → list_any by (cond (not (b || f p)) (p ∷ filter (λ p. not (ended p || f p)) entries) (filter (λ p. not (ended p || f p)) entries)) ≡ false → (AllByRecursion (λ p. g p ≡ (f p || by p)) (filter (λ p. not (ended p)) entries) → list_any by (filter (λ p. not (ended p || f p)) entries) ≡ false → AllByRecursion (λ p. (ended p || f p) ≡ (ended p || g p)) entries) → ((b || f p) ≡ (b || g p)) × AllByRecursion (λ p. (ended p || f p) ≡ (ended p || g p)) entries
    by_end true same none rest = (refl, rest same none)
    by_end false same none rest =
        let here = by_pick (f p) refl same.0 none in
        (here.0, rest same.1 here.1)

pub Ends-no_more : (rings : ℕ) (f g by : Entry → Bool) (kept kept' : List Entry) (fell fell' : List AccBody) → AllByRecursion (λ p. g p ≡ (f p || by p)) kept → list_any by kept' ≡ false → Ends rings f kept fell kept' fell' → Ends rings g kept fell kept' fell'
Ends-no_more rings f g by kept kept' fell fell' same none h = λ entries ended before.
    let after = h entries ended before in
    let each : AllByRecursion (λ p. (ended p || f p) ≡ (ended p || g p)) entries = none_more f g by ended entries (subst (λ ks. AllByRecursion (λ p. g p ≡ (f p || by p)) ks) before.left same) (subst (λ ks. list_any by ks ≡ false) after.left none) in
    record {
      in_order = before.in_order;
      left = after.left ∙ filter_agree_on (λ p. not (ended p || f p)) (λ p. not (ended p || g p)) entries (AllBy-then (λ p. (ended p || f p) ≡ (ended p || g p)) (λ p. not (ended p || f p) ≡ not (ended p || g p)) (λ p e. ap not e) entries each);
      told = after.told ∙ ap (map (λ p. p.0)) (filter_agree_on (λ p. ended p || f p) (λ p. ended p || g p) entries each);
    }

-- what one test picks beside none
pub alone : (f : Entry → Bool) (xs : List Entry) → AllByRecursion (λ p. f p ≡ (false || f p)) xs
alone f [] = tt
alone f (x ∷ xs) = (refl, alone f xs)

nobody : (xs : List Entry) → list_any (λ p. false) xs ≡ false
nobody [] = refl
nobody (x ∷ xs) = nobody xs

-- what the tests say of what is kept alone
pub Ends-kept : (rings : ℕ) (f g : Entry → Bool) (kept kept' : List Entry) (fell fell' : List AccBody) → AllByRecursion (λ p. g p ≡ f p) kept → Ends rings f kept fell kept' fell' → Ends rings g kept fell kept' fell'
Ends-kept rings f g kept kept' fell fell' same h =
    Ends-no_more rings f g (λ p. false) kept kept' fell fell' (AllBy-then (λ p. g p ≡ f p) (λ p. g p ≡ (f p || false)) (λ p e. e ∙ sym (or_false (f p))) kept same) (nobody kept') h

-- where nothing is kept, nothing ends
pub Ends-nothing_kept : (rings : ℕ) (f : Entry → Bool) (kept : List Entry) (fell : List AccBody) → kept ≡ [] → Ends rings f kept fell kept fell
Ends-nothing_kept rings f kept fell none =
    subst (λ ks. Ends rings f ks fell ks fell) (sym none) (Ends-no_more rings (λ p. false) f (λ p. false) [] [] fell fell tt refl (Ends-none rings [] fell))

-- from the start on
pub record Ended (f : Entry → Bool) (kept kept' : List Entry) (fell' : List AccBody) : Type 0 where
  pub left : kept' ≡ filter (λ p. not (f p)) kept
  pub told : fell' ≡ map (λ p. p.0) (filter f kept)

pub Ended-from : (rings : ℕ) (f : Entry → Bool) (kept kept' : List Entry) (fell fell' : List AccBody) → IsInOrder rings kept → fell ≡ [] → Ends rings f kept fell kept' fell' → Ended f kept kept' fell'
Ended-from rings f kept kept' fell fell' ordered empty h =
    let after = h kept (λ p. false) (record {
      in_order = ordered;
      left = sym (filter_all (λ p. not false) (λ p. refl) kept);
      told = empty ∙ sym (ap (map (λ p. p.0)) (filter_nothing kept));
    }) in
    record { left = after.left; told = after.told }

-- ---- those that are named by ring

-- the same of the first rings
abbrev pub is_named_below : ℕ → List (Option ℕ) → Entry → Bool
is_named_below k named p = nat_lt p.0.ring.0 k && is_named named p

one_ring : (r k : ℕ) (n : Bool) → eqb r k ≡ false → (nat_lt r k && n) ≡ (nat_lt r (k + 1) && n)
one_ring r k n apart =
    let e : nat_lt r k ≡ nat_lt r (k + 1) = grind (arith, nat_tests) in
    ap (λ b. b && n) e

pub none_below : (named : List (Option ℕ)) (p : Entry) → is_named_below 0 named p ≡ false
none_below named p =
    let e : nat_lt p.0.ring.0 0 ≡ false = grind (arith, nat_tests) in
    ap (λ b. b && is_named named p) e

named_at : (named : List (Option ℕ)) (k : ℕ) (p : Entry) → eqb p.0.ring.0 k ≡ true → is_named named p ≡ is_number (slice_index_or named k None) p.0.accused
named_at named k p t = ap (λ r. is_number (slice_index_or named r None) p.0.accused) (eqb-true p.0.ring.0 k t)

at_end : (r k : ℕ) → eqb r k ≡ true → (nat_lt r k ≡ false) × (nat_lt r (k + 1) ≡ true)
at_end r k t = (grind (arith, nat_tests), grind (arith, nat_tests))

pub swap_eqb : (x y : ℕ) → eqb x y ≡ eqb y x
swap_eqb x y = grind (arith, nat_tests)

and_true : (b : Bool) → b ≡ (b && true)
and_true true = refl
and_true false = refl

and_false : (b : Bool) → (b && false) ≡ false
and_false true = refl
and_false false = refl

-- one more ring, on which somebody is found
pub found_more : (found : ℕ → Option ℕ) (k : ℕ) (p : Entry) → ((nat_lt p.0.ring.0 k && is_number (found p.0.ring.0) p.0.accused) || is_on (found k) k p) ≡ (nat_lt p.0.ring.0 (k + 1) && is_number (found p.0.ring.0) p.0.accused)
found_more found k p = by_ring (eqb p.0.ring.0 k) refl
  where
    by_ring : (b : Bool) → eqb p.0.ring.0 k ≡ b → ((nat_lt p.0.ring.0 k && is_number (found p.0.ring.0) p.0.accused) || is_on (found k) k p) ≡ (nat_lt p.0.ring.0 (k + 1) && is_number (found p.0.ring.0) p.0.accused)
    by_ring true t =
        let ends = at_end p.0.ring.0 k t in
        let here : is_number (found p.0.ring.0) p.0.accused ≡ is_number (found k) p.0.accused = ap (λ r. is_number (found r) p.0.accused) (eqb-true p.0.ring.0 k t) in
        ap (λ b. (b && is_number (found p.0.ring.0) p.0.accused) || is_on (found k) k p) ends.0 ∙ ap (λ b. b && is_number (found k) p.0.accused) t ∙ sym here ∙ ap (λ b. b && is_number (found p.0.ring.0) p.0.accused) (sym ends.1)
    by_ring false t = ap (λ b. (nat_lt p.0.ring.0 k && is_number (found p.0.ring.0) p.0.accused) || (b && is_number (found k) p.0.accused)) t ∙ or_false (nat_lt p.0.ring.0 k && is_number (found p.0.ring.0) p.0.accused) ∙ one_ring p.0.ring.0 k (is_number (found p.0.ring.0) p.0.accused) t

pub named_more : (named : List (Option ℕ)) (k : ℕ) (p : Entry) → (is_named_below k named p || is_on (slice_index_or named k None) k p) ≡ is_named_below (k + 1) named p
named_more named k p = found_more (λ r. slice_index_or named r None) k p

-- ---- the successors of a member, ring by ring

-- It is against the member, or against its successor on a ring below this one.
abbrev pub is_of_below : ℕ → Life → ℕ → Entry → Bool
is_of_below k l m p = eqb m p.0.accused || (nat_lt p.0.ring.0 k && is_against_next l m p)

pub of_none : (l : Life) (m : ℕ) (p : Entry) → eqb p.0.accused m ≡ is_of_below 0 l m p
of_none l m p =
    let e : nat_lt p.0.ring.0 0 ≡ false = grind (arith, nat_tests) in
    swap_eqb p.0.accused m ∙ sym (or_false (eqb m p.0.accused)) ∙ sym (ap (λ b. eqb m p.0.accused || (b && is_against_next l m p)) e)

pub of_more : (l : Life) (m k : ℕ) (p : Entry) → (is_of_below k l m p || is_on (next_of l m k) k p) ≡ is_of_below (k + 1) l m p
of_more l m k p = sym (or_assoc (eqb m p.0.accused) (nat_lt p.0.ring.0 k && is_against_next l m p) (is_on (next_of l m k) k p)) ∙ ap (λ b. eqb m p.0.accused || b) (found_more (next_of l m) k p)

pub of_all : (l : Life) (m k : ℕ) (p : Entry) → p.0.ring.0 < k → is_of_below k l m p ≡ is_of l m p
of_all l m k p below =
    let e : nat_lt p.0.ring.0 k ≡ true = grind (arith, nat_tests) in
    ap (λ b. eqb m p.0.accused || (b && is_against_next l m p)) e

-- where the successors are accused by the member alone, what is left is by it
pub of_rest : (l : Life) (m k : ℕ) (p : Entry) → is_of l m p ≡ (eqb m p.0.accused || eqb m p.0.accuser) → is_of l m p ≡ (is_of_below k l m p || is_by m p)
of_rest l m k p theirs = by_cases (eqb m p.0.accused) (is_against_next l m p) (nat_lt p.0.ring.0 k) (is_by m p) (theirs ∙ ap (λ b. eqb m p.0.accused || b) (swap_eqb m p.0.accuser))
  where
    by_cases : (own next below by : Bool) → (own || next) ≡ (own || by) → (own || next) ≡ ((own || (below && next)) || by)
    by_cases true next below by h = refl
    by_cases false true true by h = refl
    by_cases false true false by h = h
    by_cases false false true by h = h
    by_cases false false false by h = h

-- at the place of a member
on_some : (x r : ℕ) (p : Entry) → is_at x r p ≡ is_on (Some x) r p
on_some x r p = grind (arith, nat_tests)

pub Ends-some : (rings x r : ℕ) (kept kept' : List Entry) (fell fell' : List AccBody) → kept' ≡ filter (λ p. not (is_at x r p)) kept → fell' ≡ option_map_or (λ p. with_fallen p.0 fell) (entry_at x r kept) fell → Ends rings (is_on (Some x) r) kept fell kept' fell'
Ends-some rings x r kept kept' fell fell' left told = rw (left, told) (Ends-agree rings (λ p. false || is_at x r p) (is_on (Some x) r) kept _ fell _ (λ p _. on_some x r p) (Ends-at rings x r (λ p. false) kept kept fell fell (Ends-none rings kept fell)))

pub Ends-on_none : (rings r : ℕ) (kept : List Entry) (fell : List AccBody) → Ends rings (is_on None r) kept fell kept fell
Ends-on_none rings r kept fell = Ends-agree rings (λ p. false) (is_on None r) kept kept fell fell (λ p _. sym (and_false (eqb p.0.ring.0 r))) (Ends-none rings kept fell)

pub named_all : (named : List (Option ℕ)) (k : ℕ) (p : Entry) → p.0.ring.0 < k → is_named_below k named p ≡ is_named named p
named_all named k p below =
    let e : nat_lt p.0.ring.0 k ≡ true = grind (arith, nat_tests) in
    ap (λ b. b && is_named named p) e

-- the rings below k are all for which somebody is named
pub named_first : (named : List (Option ℕ)) (k : ℕ) (p : Entry) → (k ≤ p.0.ring.0 → slice_index_or named p.0.ring.0 None ≡ None) → is_named_below k named p ≡ is_named named p
named_first named k p none = elim (cases_lt p.0.ring.0 k) [
  | inl below ↦ named_all named k p below
  | inr past ↦
      let off : nat_lt p.0.ring.0 k ≡ false = grind (arith, nat_tests) in
      ap (λ b. b && is_named named p) off ∙ sym (ap (λ o. is_number o p.0.accused) (none past))
]

-- named as what is answered
answered_by : (l : Life) (n : NoteBody) (p : Entry) → entry_at p.0.accused p.0.ring.0 l.kept ≡ Some p → is_number (answered_on l n p.0.ring.0) p.0.accused ≡ is_answered n p
answered_by l n p found = by_member (eqb p.0.accused n.member) refl
  where
    named_by : (b : Bool) (m x : ℕ) → is_number (cond b None (Some m)) x ≡ (eqb m x && not b)
    named_by true m x = sym (and_false (eqb m x))
    named_by false m x = and_true (eqb m x)

    other : (o : Option Entry) → eqb n.member p.0.accused ≡ false → is_number (option_map_or (λ q. cond (is_unanswered_by q.0 n) None (Some n.member)) o None) p.0.accused ≡ false
    other None e = refl
    other (Some q) e = named_by (is_unanswered_by q.0 n) n.member p.0.accused ∙ ap (λ b. b && not (is_unanswered_by q.0 n)) e

    by_member : (b : Bool) → eqb p.0.accused n.member ≡ b → is_number (answered_on l n p.0.ring.0) p.0.accused ≡ is_answered n p
    by_member true t =
        let at : entry_at n.member p.0.ring.0 l.kept ≡ Some p = subst (λ m. entry_at m p.0.ring.0 l.kept ≡ Some p) (eqb-true p.0.accused n.member t) found in
        ap (λ o. is_number (option_map_or (λ q. cond (is_unanswered_by q.0 n) None (Some n.member)) o None) p.0.accused) at ∙ named_by (is_unanswered_by p.0 n) n.member p.0.accused ∙ ap (λ b. b && not (is_unanswered_by p.0 n)) (swap_eqb n.member p.0.accused)
    by_member false t = other (entry_at n.member p.0.ring.0 l.kept) (swap_eqb n.member p.0.accused ∙ t) ∙ sym (ap (λ b. b && not (is_unanswered_by p.0 n)) t)

-- of the kept, those that are named are those that are answered
pub answered-each : (rings : ℕ) (l : Life) (n : NoteBody) → IsInOrder rings l.kept → AllByRecursion (λ p. is_answered n p ≡ is_number (answered_on l n p.0.ring.0) p.0.accused) l.kept
answered-each rings l n ordered =
    AllBy-then (λ p. entry_at p.0.accused p.0.ring.0 l.kept ≡ Some p) (λ p. is_answered n p ≡ is_number (answered_on l n p.0.ring.0) p.0.accused) (λ p found. sym (answered_by l n p found)) l.kept (entry_at-itself rings l.kept ordered)

-- what is named for each ring is named for the ring of an entry
pub Ends-each : (rings : ℕ) (named : List (Option ℕ)) (of : ℕ → Option ℕ) (kept kept' : List Entry) (fell fell' : List AccBody) → ((ring : ℕ) → ring < rings → slice_index_or named ring None ≡ of ring) → Ends rings (is_named named) kept fell kept' fell' → Ends rings (λ p. is_number (of p.0.ring.0) p.0.accused) kept fell kept' fell'
Ends-each rings named of kept kept' fell fell' each h =
    Ends-agree rings (is_named named) (λ p. is_number (of p.0.ring.0) p.0.accused) kept kept' fell fell' (λ p below. ap (λ o. is_number o p.0.accused) (each p.0.ring.0 below)) h

-- one more accusation against the same member tells no more
pub is_of-again : (l : Life) (due : List AccBody) (i : ℕ) (p : Entry) → IsAgain due i → i < length due → is_of_any l (take i due) p ≡ is_of_any l (take (i + 1) due) p
is_of-again l due i p again below =
    let d : AccBody = record { accuser = 0; accused = 0; epoch = 0; ring = record { 0 = 0 } } in
    let test : AccBody → Bool = λ a. is_of l a.accused p in
    let here = list_any_more test due i d below in
    let there = list_any_more test due (i - 1) d (omega (arith, again.0)) in
    let at : i - 1 + 1 ≡ i = omega (arith, again.0) in
    let last : list_any test (take i due) ≡ (list_any test (take (i - 1) due) || test (get_or due (i - 1) d)) = ap (λ n. list_any test (take n due)) (sym at) ∙ there in
    let same : test (get_or due (i - 1) d) ≡ test (get_or due i d) = ap (λ m. is_of l m p) (again.1 d) in
    last ∙ sym (once (list_any test (take (i - 1) due)) (test (get_or due (i - 1) d))) ∙ ap (λ b. b || test (get_or due (i - 1) d)) (sym last) ∙ ap (λ b. list_any test (take i due) || b) same ∙ sym here
  where
    once : (a b : Bool) → ((a || b) || b) ≡ (a || b)
    once true b = refl
    once false true = refl
    once false false = refl
