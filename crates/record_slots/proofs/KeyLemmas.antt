-- The order of keys: only a key ties with itself.
use Rattle.std.proofs.Common.{◌≡◌, ◌≢◌, ℕ, Bool, true, false, cond, List, [], ◌∷◌, map, Some, IsSome, is_some, refl, ap, sym, ◌∙◌}
use Rattle.std.specs.declared.cmp.Ordering.{Ordering}
use Rattle.std.specs.declared.cmp.Ordering.TheVariants.{Less, Equal, Greater}
use Rattle.std.specs.Option.{option_map}
use Rattle.std.specs.Ordering.{ordering_reverse, is_eq, eq_by_cmp}
use Rattle.std.specs.Cmp.{IsTotalOrder}
use Rattle.std.specs.Cmp.Lexicographic.{nat_list_cmp_total}
use Rattle.std.specs.FinMap.{entries, find, get-entries, get-from_entries, get-insert, insert, IsAntisymmetric, nat_cmp-IsAntisymmetric, slice_cmp-IsAntisymmetric}
use Rattle.ff_ids.specs.declared.RingNo.{RingNo}
use Rattle.ff_ids.specs.declared.summary.RecordKey.{RecordKey}
use Rattle.ff_ids.specs.declared.summary.RecordKey.TheVariants as keys
use Rattle.record_slots.specs.Held.{HeldOf, held_under, changed, key_numbers, key_cmp}

pub key_cmp_total : IsTotalOrder key_cmp
key_cmp_total =
    record {
      antisymm = λ x y. nat_list_cmp_total.antisymm (key_numbers x) (key_numbers y);
      trans = λ x y z. nat_list_cmp_total.trans (key_numbers x) (key_numbers y) (key_numbers z);
      congr = λ x y z. nat_list_cmp_total.congr (key_numbers x) (key_numbers y) (key_numbers z);
    }

ring_is : (a b : RingNo) → a.0 ≡ b.0 → a ≡ b
ring_is a b e = ap (λ (r : ℕ). let ring : RingNo = record { 0 = r } in ring) e

same_numbers : (x y : RecordKey) → key_numbers x ≡ key_numbers y → x ≡ y
same_numbers (keys.Certificate m) (keys.Certificate n) e = let at : m ≡ n = cc in ap keys.Certificate at
same_numbers (keys.Certificate m) (keys.Note n) e = absurd (cc)
same_numbers (keys.Certificate m) (keys.Accusation n s) e = absurd (cc)
same_numbers (keys.Certificate m) (keys.Removal n) e = absurd (cc)
same_numbers (keys.Note m) (keys.Certificate n) e = absurd (cc)
same_numbers (keys.Note m) (keys.Note n) e = let at : m ≡ n = cc in ap keys.Note at
same_numbers (keys.Note m) (keys.Accusation n s) e = absurd (cc)
same_numbers (keys.Note m) (keys.Removal n) e = absurd (cc)
same_numbers (keys.Accusation m r) (keys.Certificate n) e = absurd (cc)
same_numbers (keys.Accusation m r) (keys.Note n) e = absurd (cc)
same_numbers (keys.Accusation m r) (keys.Accusation n s) e =
    let at : m ≡ n = cc in
    let on : r.0 ≡ s.0 = cc in
    ap (λ k. keys.Accusation k r) at ∙ ap (keys.Accusation n) (ring_is r s on)
same_numbers (keys.Accusation m r) (keys.Removal n) e = absurd (cc)
same_numbers (keys.Removal m) (keys.Certificate n) e = absurd (cc)
same_numbers (keys.Removal m) (keys.Note n) e = absurd (cc)
same_numbers (keys.Removal m) (keys.Accusation n s) e = absurd (cc)
same_numbers (keys.Removal m) (keys.Removal n) e = let at : m ≡ n = cc in ap keys.Removal at

pub key_cmp-IsAntisymmetric : IsAntisymmetric key_cmp
key_cmp-IsAntisymmetric x y e = same_numbers x y (slice_cmp-IsAntisymmetric nat_cmp-IsAntisymmetric (key_numbers x) (key_numbers y) e)

abbrev pub is_key : RecordKey → RecordKey → Bool
is_key q k = eq_by_cmp key_cmp q k

tied : (o : Ordering) → is_eq o ≡ true → o ≡ Equal
tied Less e = absurd (cc)
tied Equal e = refl
tied Greater e = absurd (cc)

pub is_key-true : (q k : RecordKey) → is_key q k ≡ true → q ≡ k
is_key-true q k e = key_cmp-IsAntisymmetric q k (tied (key_cmp q k) e)

-- an order that is the turned one of itself is a tie
turned : (o : Ordering) → o ≡ ordering_reverse o → is_eq o ≡ true
turned Less e = absurd (cc)
turned Equal e = refl
turned Greater e = absurd (cc)

pub is_key-same : (k : RecordKey) → is_key k k ≡ true
is_key-same k = turned (key_cmp k k) (key_cmp_total.antisymm k k)

not_key : (b : Bool) (q k : RecordKey) → is_key q k ≡ b → q ≢ k → b ≡ false
not_key false q k is apart = refl
not_key true q k is apart = absurd (apart (is_key-true q k is))

pub is_key-other : (q k : RecordKey) → q ≢ k → is_key q k ≡ false
is_key-other q k apart = not_key (is_key q k) q k refl apart

-- ---- what is held after a put

pub held-here : {X : Type 0} (h : HeldOf X) (k : RecordKey) (c : X) → IsSome (held_under (insert h k c) k)
held-here h k c = ap is_some (get-insert key_cmp_total h k c k ∙ ap (λ b. cond b (Some c) (held_under h k)) (is_key-same k))

pub held-kept : {X : Type 0} (h : HeldOf X) (k q : RecordKey) (c : X) → IsSome (held_under h q) → IsSome (held_under (insert h k c) q)
held-kept h k q c some = ap is_some (get-insert key_cmp_total h k c q) ∙ either (is_key q k)
  where
    either : (b : Bool) → is_some (cond b (Some c) (held_under h q)) ≡ true
    either true = refl
    either false = some

-- ---- what is held after a change of each

find-changed : {X : Type 0} (f : X → X) (q : RecordKey) (es : List (RecordKey × X)) → find key_cmp q (map (λ e. (e.0, f e.1)) es) ≡ option_map f (find key_cmp q es)
find-changed f q [] = refl
find-changed f q (e ∷ es) = by_test (eq_by_cmp key_cmp q e.0) (find-changed f q es)
  where
    by_test : (b : Bool) → find key_cmp q (map (λ d. (d.0, f d.1)) es) ≡ option_map f (find key_cmp q es) → cond b (Some (f e.1)) (find key_cmp q (map (λ d. (d.0, f d.1)) es)) ≡ option_map f (cond b (Some e.1) (find key_cmp q es))
    by_test true rest = refl
    by_test false rest = rest

pub held-changed : {X : Type 0} (f : X → X) (h : HeldOf X) (q : RecordKey) → held_under (changed f h) q ≡ option_map f (held_under h q)
held-changed f h q = get-from_entries key_cmp_total (map (λ e. (e.0, f e.1)) (entries h)) q ∙ find-changed f q (entries h) ∙ ap (option_map f) (sym (get-entries h q))
