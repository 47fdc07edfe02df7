-- The monitors and successors of a view, by which numbers are in it.
use Rattle.std.proofs.Common.{◌≡◌, ◌≢◌, ℕ, zero, suc, ◌+◌, ◌<◌, ◌≤◌, Bool, true, false, cond, not, ◌&&◌, ◌||◌, eqb, List, [], ◌∷◌, map, ⊎_elim, ◌⊎◌, inl, inr, Option, Some, None, refl, ap, sym, ◌∙◌, subst, arith}
use Rattle.std.specs.List.{Contains, filter, range_with_len}
use Rattle.std.specs.Cmp.{IsStrictWeakOrder}
use Rattle.std.specs.Ordering.{is_lt, ordering_reverse}
use Rattle.std.specs.declared.cmp.Ordering.{Ordering}
use Rattle.std.specs.declared.cmp.Ordering.TheVariants.{Less, Equal, Greater}
use Rattle.std.proofs.lemmas.Bool.{eqb-true, eqb-false, eq-eqb, ne_eqb, false≢true}
use Rattle.std.proofs.lemmas.Cmp.{tied_itself}
use Rattle.std.proofs.lemmas.List.MinMax.{ranks_by}
use Rattle.std.proofs.lemmas.List.Elements.{All-contains, All-weaker, All-contains_itself, Contains-append_right, Contains-append_cases}
use Rattle.ff_ids.specs.declared.TheConstants.{MEMBERS}
use Rattle.ff_ids.specs.Rings.{Key, is_between, is_below, nearest_before, nearest_after, IsNearestBefore, IsNearestAfter}
use Rattle.ff_ids.specs.Views.{all_numbers, is_number}
use Rattle.ring_order.proofs.KeyOrder.{before_ranked, key_cmp_total}
use Rattle.ring_order.proofs.NearestLaws.{nearest_before-some, nearest_after-some, nearest_before-is, nearest_after-is}
use Rattle.membership.proofs.NumberLemmas.{either_bool, all_length}

-- ---- how near keys are to a member

near : Key → Key → Key → Bool
near x v w = is_between v w x

near_itself : (x v : Key) → v.number ≢ x.number → is_between v v x ≡ false
near_itself x v other =
    let r = before_ranked x in
    r.agrees v v other other ∙ ap is_lt (tied_itself r.total v)

near_back : (x v w : Key) → v.number ≢ x.number → w.number ≢ x.number → is_between v w x ≡ true → is_between w v x ≡ false
near_back x v w v_other w_other h =
    let r = before_ranked x in
    let ranks : IsStrictWeakOrder (λ v w. is_lt (r.order v w)) = ranks_by r.total (λ (v : Key). v) in
    r.agrees w v w_other v_other ∙ ranks.one_way v w (sym (r.agrees v w v_other w_other) ∙ h)

near_chain : (x v w u : Key) → v.number ≢ x.number → w.number ≢ x.number → u.number ≢ x.number → is_between v w x ≡ false → is_between w u x ≡ false → is_between v u x ≡ false
near_chain x v w u v_other w_other u_other first second =
    let r = before_ranked x in
    let ranks : IsStrictWeakOrder (λ v w. is_lt (r.order v w)) = ranks_by r.total (λ (v : Key). v) in
    r.agrees v u v_other u_other ∙ ranks.chain v w u (sym (r.agrees v w v_other w_other) ∙ first) (sym (r.agrees w u w_other u_other) ∙ second)

no_less : (a b : Ordering) → b ≡ ordering_reverse a → is_lt a ≡ false → is_lt b ≡ false → a ≡ Equal
no_less Less b h first second = absurd (false≢true (sym first))
no_less Equal b h first second = refl
no_less Greater b h first second = absurd (false≢true (sym (rw h at second)))

near_tied : (x v w : Key) → v.number ≢ x.number → w.number ≢ x.number → is_between v w x ≡ false → is_between w v x ≡ false → v.number ≡ w.number
near_tied x v w v_other w_other first second =
    let r = before_ranked x in
    r.tied v w (no_less (r.order v w) (r.order w v) (r.total.antisymm w v) (sym (r.agrees v w v_other w_other) ∙ first) (sym (r.agrees w v w_other v_other) ∙ second))

-- of two others one is nearer
near_either : (x v w : Key) → v.number ≢ x.number → w.number ≢ x.number → v.number ≢ w.number → is_between v w x ≡ false → is_between w v x ≡ true
near_either x v w v_other w_other apart first =
    ⊎_elim (λ t. t) (λ t. absurd (apart (near_tied x v w v_other w_other first t))) (either_bool (is_between w v x))

between_end : (b c : Bool) → c ≡ false → ((b && c) || (c && not b) || (not b && b)) ≡ false
between_end true c e = rw e refl
between_end false c e = rw e refl

below_itself : (a : Key) → is_below a a ≡ false
below_itself a = ap is_lt (tied_itself key_cmp_total a)

both_below : (b c : Bool) → (b ≡ true → c ≡ false) → (c && b) ≡ false
both_below true c h = rw (h refl) refl
both_below false true h = refl
both_below false false h = refl

end_between : (b c d : Bool) → c ≡ false → (d && b) ≡ false → ((b && c) || (c && d) || (d && b)) ≡ false
end_between true c d e f = rw (e, f) refl
end_between false c d e f = rw (e, f) refl

-- nothing lies between a member and itself at the end
near_end : (m x : Key) → is_between m x x ≡ false
near_end m x = end_between (is_below m x) (is_below x x) (is_below x m) (below_itself x) (both_below (is_below m x) (is_below x m) (λ h. (ranks_by key_cmp_total (λ (v : Key). v)).one_way m x h))

-- ---- which keys a test keeps

Contains-here : {X : Type 0} (x : X) (xs : List X) → Contains (x ∷ xs) x
Contains-here x xs = (0, omega arith, refl)

Contains-there : {X : Type 0} (x : X) (xs : List X) (v : X) → Contains xs v → Contains (x ∷ xs) v
Contains-there x xs v h = Contains-append_right (x ∷ []) xs v h

contains_more : (b : Bool) (f : ℕ → Key) (a : ℕ) (xs : List ℕ) (v : Key) → Contains (map f xs) v → Contains (map f (cond b (a ∷ xs) xs)) v
contains_more true f a xs v h = Contains-there (f a) (map f xs) v h
contains_more false f a xs v h = h

contains_range : (f : ℕ → Key) (p : ℕ → Bool) (m a n : ℕ) → a ≤ m → m < a + n → p m ≡ true → Contains (map f (filter p (range_with_len a n))) (f m)
contains_range f p m a zero low high is = absurd (omega arith)
contains_range f p m a (suc n) low high is =
    ⊎_elim (λ e.
    let at : a ≡ m = eqb-true a m e in
    let now : p a ≡ true = rw at is in
    subst (λ xs. Contains (map f xs) (f m)) (sym (ap (λ b. cond b (a ∷ filter p (range_with_len (a + 1) n)) (filter p (range_with_len (a + 1) n))) now)) (subst (λ k. Contains (f a ∷ map f (filter p (range_with_len (a + 1) n))) (f k)) at (Contains-here (f a) _)))
    (λ e.
    let apart = eqb-false a m e in
    contains_more (p a) f a _ (f m) (contains_range f p m (a + 1) n (omega (arith, apart)) (omega arith) is))
    (either_bool (eqb a m))

-- a number that the test passes, with this key
pub record Passing (f : ℕ → Key) (p : ℕ → Bool) (a n : ℕ) (v : Key) : Type 0 where
  pub number : ℕ
  pub from : a ≤ number
  pub below : number < a + n
  pub passes : p number ≡ true
  pub key : f number ≡ v

later_passing : (f : ℕ → Key) (p : ℕ → Bool) (a n : ℕ) (v : Key) → Passing f p (a + 1) n v → Passing f p a (suc n) v
later_passing f p a n v h =
    record { number = h.number; from = omega (arith, h.from); below = omega (arith, h.below); passes = h.passes; key = h.key }

passing_here : (f : ℕ → Key) (p : ℕ → Bool) (a n : ℕ) (v : Key) → p a ≡ true → f a ≡ v → Passing f p a (suc n) v
passing_here f p a n v is e = record { number = a; from = omega arith; below = omega arith; passes = is; key = e }

contains_head : (x : Key) (xs : List Key) (v : Key) → Contains (x ∷ xs) v → (x ≡ v) ⊎ Contains xs v
contains_head x xs v h = ⊎_elim (λ c. inl (only x v c)) (λ c. inr c) (Contains-append_cases (x ∷ []) xs v h)
  where
    only : (x v : Key) → Contains (x ∷ []) v → x ≡ v
    only x v (zero, below, is) = is
    only x v (suc k, below, is) = absurd (omega arith)

passing_range : (f : ℕ → Key) (p : ℕ → Bool) (a n : ℕ) (v : Key) → Contains (map f (filter p (range_with_len a n))) v → Passing f p a n v
passing_range f p a zero v (k, below, is) = absurd (omega arith)
passing_range f p a (suc n) v h =
    ⊎_elim (λ t.
    ⊎_elim (λ e. passing_here f p a n v t e) (λ c. later_passing f p a n v (passing_range f p (a + 1) n v c))
    (contains_head (f a) _ v (subst (λ b. Contains (map f (cond b (a ∷ filter p (range_with_len (a + 1) n)) (filter p (range_with_len (a + 1) n)))) v) t h)))
    (λ t. later_passing f p a n v (passing_range f p (a + 1) n v (subst (λ b. Contains (map f (cond b (a ∷ filter p (range_with_len (a + 1) n)) (filter p (range_with_len (a + 1) n)))) v) t h)))
    (either_bool (p a))

-- the keys of the numbers that pass
abbrev pub keys_where : (ℕ → Key) → (ℕ → Bool) → List Key
keys_where f p = map f (filter p all_numbers)

pub Contains-keys : (f : ℕ → Key) (p : ℕ → Bool) (m : ℕ) → m < MEMBERS → p m ≡ true → Contains (keys_where f p) (f m)
Contains-keys f p m below is =
    let all = all_length in
    subst (λ xs. Contains (map f (filter p xs)) (f m)) (sym all.1.are) (contains_range f p m 0 all.0 (omega arith) (omega (arith, all.1.long)) is)

pub Passing-keys : (f : ℕ → Key) (p : ℕ → Bool) (v : Key) → Contains (keys_where f p) v → Passing f p 0 MEMBERS v
Passing-keys f p v h =
    let all = all_length in
    subst (λ n. Passing f p 0 n v) all.1.long (passing_range f p 0 all.0 v (subst (λ xs. Contains (map f (filter p xs)) v) all.1.are h))

-- ---- monitors and successors

-- keys of their numbers
pub record Keyed (f : ℕ → Key) : Type 0 where
  pub number : (m : ℕ) → (f m).number ≡ m

-- v passes and isn't x, and no other that passes lies between v and x
pub record IsMonitor (f : ℕ → Key) (p : ℕ → Bool) (x v : ℕ) : Type 0 where
  pub below : v < MEMBERS
  pub passes : p v ≡ true
  pub other : v ≢ x
  pub nearest : (w : ℕ) → w < MEMBERS → p w ≡ true → w ≢ x → is_between (f v) (f w) (f x) ≡ false

pub record IsSuccessor (f : ℕ → Key) (p : ℕ → Bool) (m x : ℕ) : Type 0 where
  pub below : x < MEMBERS
  pub passes : p x ≡ true
  pub other : x ≢ m
  pub nearest : (w : ℕ) → w < MEMBERS → p w ≡ true → w ≢ m → is_between (f m) (f w) (f x) ≡ false

keyed_apart : (f : ℕ → Key) → Keyed f → (v x : ℕ) → v ≢ x → (f v).number ≢ (f x).number
keyed_apart f keyed v x apart e = apart (sym (keyed.number v) ∙ e ∙ keyed.number x)

number_apart : (f : ℕ → Key) → Keyed f → (v x : ℕ) → (f v).number ≢ (f x).number → v ≢ x
number_apart f keyed v x apart e = apart (ap (λ m. (f m).number) e)

pub IsMonitor-some : (f : ℕ → Key) → Keyed f → (p : ℕ → Bool) (x v : ℕ) → nearest_before (keys_where f p) (f x) ≡ Some v → IsMonitor f p x v
IsMonitor-some f keyed p x v h =
    let found = nearest_before-some (keys_where f p) (f x) v h in
    let passing = Passing-keys f p found.0 found.2.listed in
    let at : passing.number ≡ v = sym (keyed.number passing.number) ∙ ap (λ (k : Key). k.number) passing.key ∙ found.1 in
    let key : found.0 ≡ f v = sym passing.key ∙ ap f at in
    record {
      below = omega (arith, passing.below, at);
      passes = subst (λ m. p m ≡ true) at passing.passes;
      other = λ e. found.2.other (found.1 ∙ e ∙ sym (keyed.number x));
      nearest = λ w below is apart. subst (λ k. is_between k (f w) (f x) ≡ false) key (All-contains (λ w. w.number ≢ (f x).number → is_between found.0 w (f x) ≡ false) (keys_where f p) (f w) found.2.nearest (Contains-keys f p w below is) (keyed_apart f keyed w x apart));
    }

pub IsMonitor-is : (f : ℕ → Key) → Keyed f → (p : ℕ → Bool) (x v : ℕ) → IsMonitor f p x v → nearest_before (keys_where f p) (f x) ≡ Some v
IsMonitor-is f keyed p x v h =
    let nearest : IsNearestBefore (keys_where f p) (f x) (f v) = record {
      listed = Contains-keys f p v h.below h.passes;
      other = keyed_apart f keyed v x h.other;
      nearest = All-weaker (Contains (keys_where f p)) (λ w. w.number ≢ (f x).number → is_between (f v) w (f x) ≡ false) (λ k listed apart.
          let passing = Passing-keys f p k listed in
          subst (λ k. is_between (f v) k (f x) ≡ false) passing.key (h.nearest passing.number passing.below passing.passes (number_apart f keyed passing.number x (λ e. apart (sym (ap (λ (k : Key). k.number) passing.key) ∙ e))))) (keys_where f p) (All-contains_itself (keys_where f p));
    } in
    nearest_before-is (keys_where f p) (f x) (f v) nearest ∙ ap Some (keyed.number v)

pub IsSuccessor-some : (f : ℕ → Key) → Keyed f → (p : ℕ → Bool) (m x : ℕ) → nearest_after (keys_where f p) (f m) ≡ Some x → IsSuccessor f p m x
IsSuccessor-some f keyed p m x h =
    let found = nearest_after-some (keys_where f p) (f m) x h in
    let passing = Passing-keys f p found.0 found.2.listed in
    let at : passing.number ≡ x = sym (keyed.number passing.number) ∙ ap (λ (k : Key). k.number) passing.key ∙ found.1 in
    let key : found.0 ≡ f x = sym passing.key ∙ ap f at in
    record {
      below = omega (arith, passing.below, at);
      passes = subst (λ m. p m ≡ true) at passing.passes;
      other = λ e. found.2.other (found.1 ∙ e ∙ sym (keyed.number m));
      nearest = λ w below is apart. subst (λ k. is_between (f m) (f w) k ≡ false) key (All-contains (λ w. w.number ≢ (f m).number → is_between (f m) w found.0 ≡ false) (keys_where f p) (f w) found.2.nearest (Contains-keys f p w below is) (keyed_apart f keyed w m apart));
    }

pub IsSuccessor-is : (f : ℕ → Key) → Keyed f → (p : ℕ → Bool) (m x : ℕ) → IsSuccessor f p m x → nearest_after (keys_where f p) (f m) ≡ Some x
IsSuccessor-is f keyed p m x h =
    let nearest : IsNearestAfter (keys_where f p) (f m) (f x) = record {
      listed = Contains-keys f p x h.below h.passes;
      other = keyed_apart f keyed x m h.other;
      nearest = All-weaker (Contains (keys_where f p)) (λ w. w.number ≢ (f m).number → is_between (f m) w (f x) ≡ false) (λ k listed apart.
          let passing = Passing-keys f p k listed in
          subst (λ k. is_between (f m) k (f x) ≡ false) passing.key (h.nearest passing.number passing.below passing.passes (number_apart f keyed passing.number m (λ e. apart (sym (ap (λ (k : Key). k.number) passing.key) ∙ e))))) (keys_where f p) (All-contains_itself (keys_where f p));
    } in
    nearest_after-is (keys_where f p) (f m) (f x) nearest ∙ ap Some (keyed.number x)

pub is_number-some : (o : Option ℕ) (v : ℕ) → is_number o v ≡ true → o ≡ Some v
is_number-some None v h = absurd (false≢true h)
is_number-some (Some w) v h = ap Some (eqb-true w v h)

pub is_number-is : (o : Option ℕ) (v : ℕ) → o ≡ Some v → is_number o v ≡ true
is_number-is o v e = rw e (eq-eqb v v refl)

not_number : (o : Option ℕ) (v : ℕ) → (o ≡ Some v → ⊥) → is_number o v ≡ false
not_number o v h = ⊎_elim (λ t. absurd (h (is_number-some o v t))) (λ t. t) (either_bool (is_number o v))

-- where members only leave, the monitor stays unless it left
pub monitor-leaving : (f : ℕ → Key) → Keyed f → (p q : ℕ → Bool) (x v : ℕ) → IsMonitor f p x v → ((w : ℕ) → w < MEMBERS → q w ≡ true → p w ≡ true) → is_number (nearest_before (keys_where f q) (f x)) v ≡ q v
monitor-leaving f keyed p q x v h fewer =
    ⊎_elim (λ t.
    let stays : IsMonitor f q x v = record { below = h.below; passes = t; other = h.other; nearest = λ w below is apart. h.nearest w below (fewer w below is) apart } in
    is_number-is _ v (IsMonitor-is f keyed q x v stays) ∙ sym t)
    (λ t. not_number _ v (λ e. let m = IsMonitor-some f keyed q x v e in absurd (false≢true (sym t ∙ m.passes))) ∙ sym t)
    (either_bool (q v))

-- m comes in, and nothing else changes
pub record ComesIn (p q : ℕ → Bool) (m : ℕ) : Type 0 where
  pub below : m < MEMBERS
  pub was : p m ≡ false
  pub is : q m ≡ true
  pub others : (w : ℕ) → w ≢ m → q w ≡ p w

-- m goes out, and nothing else changes
pub record GoesOut (p q : ℕ → Bool) (m : ℕ) : Type 0 where
  pub was : p m ≡ true
  pub is : q m ≡ false
  pub others : (w : ℕ) → w ≢ m → q w ≡ p w

-- then all who are left were there before
pub fewer-out : (p q : ℕ → Bool) (m : ℕ) → GoesOut p q m → (w : ℕ) → q w ≡ true → p w ≡ true
fewer-out p q m out w is =
    ⊎_elim (λ t. absurd (false≢true (sym out.is ∙ ap q (sym (eqb-true w m t)) ∙ is))) (λ t. sym (out.others w (eqb-false w m t)) ∙ is) (either_bool (eqb w m))

entered_between : (f : ℕ → Key) → Keyed f → (p q : ℕ → Bool) (x v m : ℕ) → IsMonitor f p x v → ComesIn p q m → x ≢ m → v ≢ m → is_between (f v) (f m) (f x) ≡ true → (w : ℕ) → w < MEMBERS → q w ≡ true → w ≢ x → is_between (f m) (f w) (f x) ≡ false
entered_between f keyed p q x v m h enters apart v_apart between w below is w_apart =
    ⊎_elim (λ t.
    let at : w ≡ m = eqb-true w m t in
    subst (λ k. is_between (f m) (f k) (f x) ≡ false) (sym at) (near_itself (f x) (f m) (keyed_apart f keyed m x (λ e. apart (sym e)))))
    (λ t.
    let was : p w ≡ true = sym (enters.others w (eqb-false w m t)) ∙ is in
    let back = near_back (f x) (f v) (f m) (keyed_apart f keyed v x h.other) (keyed_apart f keyed m x (λ e. apart (sym e))) between in
    near_chain (f x) (f m) (f v) (f w) (keyed_apart f keyed m x (λ e. apart (sym e))) (keyed_apart f keyed v x h.other) (keyed_apart f keyed w x w_apart) back (h.nearest w below was w_apart))
    (either_bool (eqb w m))

-- then it is the new monitor of its successor, and all others keep theirs
pub monitor-entering : (f : ℕ → Key) → Keyed f → (p q : ℕ → Bool) (x v m : ℕ) → IsMonitor f p x v → ComesIn p q m → x < MEMBERS → p x ≡ true → is_number (nearest_before (keys_where f q) (f x)) v ≡ not (is_number (nearest_after (keys_where f q) (f m)) x)
monitor-entering f keyed p q x v m h enters x_below x_is =
    let apart : x ≢ m = λ e. false≢true (sym enters.was ∙ ap p (sym e) ∙ x_is) in
    let v_apart : v ≢ m = λ e. false≢true (sym enters.was ∙ ap p (sym e) ∙ h.passes) in
    let x_passes : q x ≡ true = enters.others x apart ∙ x_is in
    let v_passes : q v ≡ true = enters.others v v_apart ∙ h.passes in
    ⊎_elim (λ t.
    let between = entered_between f keyed p q x v m h enters apart v_apart t in
    let monitor : IsMonitor f q x m = record { below = enters.below; passes = enters.is; other = λ e. apart (sym e); nearest = between } in
    let after : IsSuccessor f q m x = record {
      below = x_below;
      passes = x_passes;
      other = apart;
      nearest = λ w below is w_apart. ⊎_elim (λ u. subst (λ k. is_between (f m) (f k) (f x) ≡ false) (sym (eqb-true w x u)) (near_end (f m) (f x))) (λ u. between w below is (eqb-false w x u)) (either_bool (eqb w x));
    } in
    let gone : is_number (nearest_before (keys_where f q) (f x)) v ≡ false = ap (λ o. is_number o v) (IsMonitor-is f keyed q x m monitor) ∙ ne_eqb m v (λ e. v_apart (sym e)) in
    gone ∙ ap not (sym (is_number-is _ x (IsSuccessor-is f keyed q m x after))))
    (λ t.
    let stays : IsMonitor f q x v = record {
      below = h.below;
      passes = v_passes;
      other = h.other;
      nearest = λ w below is w_apart. ⊎_elim (λ u. subst (λ k. is_between (f v) (f k) (f x) ≡ false) (sym (eqb-true w m u)) t) (λ u. h.nearest w below (sym (enters.others w (eqb-false w m u)) ∙ is) w_apart) (either_bool (eqb w m));
    } in
    let other : is_number (nearest_after (keys_where f q) (f m)) x ≡ false = not_number _ x (λ e.
    let after = IsSuccessor-some f keyed q m x e in
    let closer = near_either (f x) (f v) (f m) (keyed_apart f keyed v x h.other) (keyed_apart f keyed m x (λ k. apart (sym k))) (keyed_apart f keyed v m v_apart) t in
    absurd (false≢true (sym (after.nearest v h.below v_passes v_apart) ∙ closer))) in
    is_number-is _ v (IsMonitor-is f keyed q x v stays) ∙ ap not (sym other))
    (either_bool (is_between (f v) (f m) (f x)))

-- who monitors has as its successor the one that it monitors, and nobody else has that successor
pub successor-of_monitor : (f : ℕ → Key) → Keyed f → (p : ℕ → Bool) (x v : ℕ) → IsMonitor f p x v → x < MEMBERS → p x ≡ true → (m : ℕ) → m < MEMBERS → p m ≡ true → is_number (nearest_after (keys_where f p) (f m)) x ≡ eqb m v
successor-of_monitor f keyed p x v h x_below x_is m m_below m_is =
    ⊎_elim (λ t.
    let at : m ≡ v = eqb-true m v t in
    let after : IsSuccessor f p v x = record {
      below = x_below;
      passes = x_is;
      other = λ e. h.other (sym e);
      nearest = λ w below is apart. ⊎_elim (λ u. subst (λ k. is_between (f v) (f k) (f x) ≡ false) (sym (eqb-true w x u)) (near_end (f v) (f x))) (λ u. h.nearest w below is (eqb-false w x u)) (either_bool (eqb w x));
    } in
    is_number-is _ x (subst (λ k. nearest_after (keys_where f p) (f k) ≡ Some x) (sym at) (IsSuccessor-is f keyed p v x after)) ∙ sym t)
    (λ t.
    let apart : m ≢ v = eqb-false m v t in
    not_number _ x (λ e.
    let after = IsSuccessor-some f keyed p m x e in
    let m_other : m ≢ x = λ k. after.other (sym k) in
    let tied = near_tied (f x) (f v) (f m) (keyed_apart f keyed v x h.other) (keyed_apart f keyed m x m_other) (h.nearest m m_below m_is m_other) (after.nearest v h.below h.passes (λ k. apart (sym k))) in
    apart (sym (sym (keyed.number v) ∙ tied ∙ keyed.number m))) ∙ sym t)
    (either_bool (eqb m v))

-- whether a member is in the view itself is nothing to its successor
same_successor : (f : ℕ → Key) (p q : ℕ → Bool) (m x : ℕ) → ((w : ℕ) → w ≢ m → q w ≡ p w) → IsSuccessor f p m x → IsSuccessor f q m x
same_successor f p q m x others h =
    record { below = h.below; passes = others x h.other ∙ h.passes; other = h.other; nearest = λ w below is apart. h.nearest w below (sym (others w apart) ∙ is) apart }

pub successor-others : (f : ℕ → Key) → Keyed f → (p q : ℕ → Bool) (m x : ℕ) → ((w : ℕ) → w ≢ m → q w ≡ p w) → is_number (nearest_after (keys_where f q) (f m)) x ≡ is_number (nearest_after (keys_where f p) (f m)) x
successor-others f keyed p q m x others =
    ⊎_elim (λ t. is_number-is _ x (IsSuccessor-is f keyed q m x (same_successor f p q m x others (IsSuccessor-some f keyed p m x (is_number-some _ x t)))) ∙ sym t)
    (λ t. not_number _ x (λ e. absurd (false≢true (sym t ∙ is_number-is _ x (IsSuccessor-is f keyed p m x (same_successor f q p m x (λ w apart. sym (others w apart)) (IsSuccessor-some f keyed q m x e)))))) ∙ sym t)
    (either_bool (is_number (nearest_after (keys_where f p) (f m)) x))
