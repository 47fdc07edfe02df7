-- Lists of the first numbers, one more at a time.
use Rattle.std.proofs.Common.{◌≡◌, ℕ, suc, ◌+◌, ◌<◌, Bool, cond, List, [], ◌∷◌, ◌++◌, Option, Some, None, filter, length, get_or, map, take, refl, ap, sym, ◌∙◌, append-nil, arith}
use Rattle.std.specs.Prelude.{unwrap_or}
use Rattle.std.specs.List.{last_or, range_with_len}
use Rattle.std.proofs.lemmas.Bool.{cond_both}
use Rattle.std.proofs.lemmas.List.{map-append, take_more}
use Rattle.std.proofs.lemmas.List.Elements.{filter-append}
use Rattle.ff_ids.proofs.MaskLemmas.{range_with_len-push}

pub range-more : (n : ℕ) → range_with_len 0 (n + 1) ≡ range_with_len 0 n ++ n ∷ []
range-more n =
    let next : n + 1 ≡ suc n = omega arith in
    let last : 0 + n ≡ n = omega arith in
    ap (λ (k : ℕ). range_with_len 0 k) next ∙ range_with_len-push 0 n ∙ ap (λ (k : ℕ). range_with_len 0 n ++ k ∷ []) last

pub map-more : {Y : Type 0} (f : ℕ → Y) (n : ℕ) → map f (range_with_len 0 (n + 1)) ≡ map f (range_with_len 0 n) ++ f n ∷ []
map-more f n = ap (map f) (range-more n) ∙ map-append f (range_with_len 0 n) (n ∷ [])

pub filter-more : (q : ℕ → Bool) (n : ℕ) → cond (q n) (filter q (range_with_len 0 n) ++ n ∷ []) (filter q (range_with_len 0 n)) ≡ filter q (range_with_len 0 (n + 1))
filter-more q n =
    let split : filter q (range_with_len 0 (n + 1)) ≡ filter q (range_with_len 0 n) ++ filter q (n ∷ []) = ap (filter q) (range-more n) ∙ filter-append q (range_with_len 0 n) (n ∷ []) in
    cond_both (q n) (filter q (range_with_len 0 n) ++ n ∷ []) (filter q (range_with_len 0 n)) (λ x. x ≡ filter q (range_with_len 0 (n + 1)))
    (λ it. sym (split ∙ ap (λ b. filter q (range_with_len 0 n) ++ cond b (n ∷ []) []) it))
    (λ off. sym (split ∙ ap (λ b. filter q (range_with_len 0 n) ++ cond b (n ∷ []) []) off ∙ append-nil (filter q (range_with_len 0 n))))

last-push : (o : Option ℕ) (xs : List ℕ) (x : ℕ) → last_or o (xs ++ x ∷ []) ≡ Some x
last-push o [] x = refl
last-push o (y ∷ xs) x = last-push (Some y) xs x

pub last-more : (xs : List ℕ) (i x : ℕ) → i < length xs → x ≡ get_or xs i x → x ≡ unwrap_or (last_or None (take (i + 1) xs)) 0
last-more xs i x within here =
    let longer : take (i + 1) xs ≡ take i xs ++ x ∷ [] = take_more xs i x within ∙ ap (λ (y : ℕ). take i xs ++ y ∷ []) (sym here) in
    sym (ap (λ o. unwrap_or o 0) (ap (last_or None) longer ∙ last-push None (take i xs) x))
