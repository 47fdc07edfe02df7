-- How many comparisons a pass over keys makes.
use Rattle.std.proofs.Common.{◌≡◌, ℕ, suc, ◌+◌, ◌-◌, ◌*◌, ◌<◌, Bool, true, false, cond, not, eqb, List, [], ◌∷◌, ◌++◌, Option, Some, None, length, take, get_or, inl, inr, refl, sym, ap, ◌∙◌, arith, length-append}
use Rattle.std.specs.List.{fold}
use Rattle.std.specs.Option.{option_map, IsSome}
use Rattle.std.proofs.lemmas.List.{take_more, map-append}
use Rattle.std.proofs.lemmas.Bool.{cases_Bool}
use Rattle.std.proofs.lemmas.List.Elements.{filter-append}
use Rattle.ff_ids.specs.Rings.{Key, others}
use Rattle.ring_order.specs.Nearest.{key_of_pair, keys_of, nearest_so_far, comparisons_of_next, comparisons_of_all}

length-others_one : (m : ℕ) (w : Key) → length (others m (w ∷ [])) ≡ cond (eqb w.number m) 0 1
length-others_one m w =
    elim (cases_Bool (eqb w.number m)) [
      | inl own ↦ rw own refl
      | inr apart ↦ rw apart refl
    ]

length-others_push : (m : ℕ) (keys : List Key) (w : Key) → length (others m (keys ++ w ∷ [])) ≡ length (others m keys) + cond (eqb w.number m) 0 1
length-others_push m keys w =
    ap length (filter-append (λ (k : Key). not (eqb k.number m)) keys (w ∷ [])) ∙ length-append (others m keys) (others m (w ∷ [])) ∙ ap (λ n. length (others m keys) + n) (length-others_one m w)

-- a pass that keeps a key goes on to keep one
kept_on : (near : Key → Key → Bool) (m : ℕ) (a : Key) (keys : List Key) → IsSome (fold (nearest_so_far near m) (Some a) keys)
kept_on near m a [] = refl
kept_on near m a (k ∷ keys) =
    elim (cases_Bool (eqb k.number m)) [
      | inl own ↦ rw own (kept_on near m a keys)
      | inr apart ↦
          elim (cases_Bool (near a k)) [
            | inl nearer ↦ rw (apart, nearer) (kept_on near m k keys)
            | inr farther ↦ rw (apart, farther) (kept_on near m a keys)
          ]
    ]

next_of_kept : (m : ℕ) (best : Option Key) (w : Key) → IsSome best → comparisons_of_next m best w ≡ cond (eqb w.number m) 0 3
next_of_kept m None w h = cc
next_of_kept m (Some v) w h = refl

times_three : (b : Bool) (n : ℕ) → 3 * (suc (n + cond b 0 1) - 1) ≡ 3 * (suc n - 1) + cond b 0 3
times_three true n = omega arith
times_three false n = omega arith

none_yet : (b : Bool) → 3 * (cond b 0 1 - 1) ≡ 0
none_yet true = refl
none_yet false = refl

-- the comparisons of one key more
pub comparisons-push : (near : Key → Key → Bool) (m : ℕ) (keys : List Key) (w : Key) → comparisons_of_all m (keys ++ w ∷ []) ≡ comparisons_of_all m keys + comparisons_of_next m (fold (nearest_so_far near m) None keys) w
comparisons-push near m [] w = ap (λ n. 3 * (n - 1)) (length-others_one m w) ∙ none_yet (eqb w.number m)
comparisons-push near m (k ∷ keys) w =
    elim (cases_Bool (eqb k.number m)) [
      | inl own ↦ rw own (comparisons-push near m keys w)
      | inr apart ↦
          rw (apart, length-others_push m keys w, next_of_kept m (fold (nearest_so_far near m) (Some k) keys) w (kept_on near m k keys))
          (times_three (eqb w.number m) (length (others m keys)))
    ]

-- the keys of one listed member more
pub keys_of-more : (ring : ℕ) (live : List (List (List ℕ) × ℕ)) (i : ℕ) (item : List (List ℕ) × ℕ) → i < length live → item ≡ get_or live i item → keys_of ring (take (i + 1) live) ≡ keys_of ring (take i live) ++ key_of_pair ring item ∷ []
keys_of-more ring live i item lt is =
    ap (keys_of ring) (take_more live i item lt ∙ ap (λ p. take i live ++ p ∷ []) (sym is)) ∙ map-append (key_of_pair ring) (take i live) (item ∷ [])

pub numbers_same : (ring : ℕ) (best : Option (List (List ℕ) × ℕ)) → option_map (λ p. p.1) best ≡ option_map (λ (k : Key). k.number) (option_map (key_of_pair ring) best)
numbers_same ring None = refl
numbers_same ring (Some p) = refl
