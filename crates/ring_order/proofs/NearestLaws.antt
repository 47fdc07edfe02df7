-- The laws of the nearest key before a member, and after it.
use Rattle.std.proofs.Common.{◌≡◌, ℕ, ◌↔◌, List, [], ◌∷◌, Option, Some, None, refl, sym, ap, ◌∙◌}
use Rattle.std.specs.List.{All, Contains, fold}
use Rattle.std.specs.Option.{option_map, IsNone, IfSome}
use Rattle.std.proofs.lemmas.List.Elements.{All-nil, All-cons, All-head, All-tail}
use Rattle.ff_ids.specs.Rings.{Key, is_between, nearest_before, nearest_after, IsNearestBefore, IsNearestAfter}
use Rattle.ff_ids.specs.Views.{key_at}
use Rattle.ring_order.specs.Nearest.{keys_of, nearer, nearest, nearest_so_far, IsNumberBefore, IsNumberAfter}
use Rattle.ring_order.specs.declared.Side.{Side}
use Rattle.ring_order.specs.declared.Side.TheVariants.{Before, After}
use Rattle.ring_order.proofs.KeyOrder.{before_ranked, after_ranked}
use Rattle.ring_order.proofs.Top.{find_top-is, find_top-some, find_top-none, find_top-nobody, find_top-same, top_of-find_top}

-- what is found is nearest
pub nearest_before-some : (keys : List Key) (m : Key) (n : ℕ) → nearest_before keys m ≡ Some n → IsNumberBefore keys m n
nearest_before-some keys m n h =
    let found = find_top-some (λ v w. is_between v w m) m.number keys n h in
    (found.0, found.1, record { listed = found.2.listed; other = found.2.other; nearest = found.2.top })

pub nearest_after-some : (keys : List Key) (m : Key) (n : ℕ) → nearest_after keys m ≡ Some n → IsNumberAfter keys m n
nearest_after-some keys m n h =
    let found = find_top-some (λ v w. is_between m w v) m.number keys n h in
    (found.0, found.1, record { listed = found.2.listed; other = found.2.other; nearest = found.2.top })

-- what is nearest is found, so there is never a second one
pub nearest_before-is : (keys : List Key) (m v : Key) → IsNearestBefore keys m v → nearest_before keys m ≡ Some v.number
nearest_before-is keys m v h = find_top-is (λ v w. is_between v w m) m.number (before_ranked m) keys v (record { listed = h.listed; other = h.other; top = h.nearest })

pub nearest_after-is : (keys : List Key) (m v : Key) → IsNearestAfter keys m v → nearest_after keys m ≡ Some v.number
nearest_after-is keys m v h = find_top-is (λ v w. is_between m w v) m.number (after_ranked m) keys v (record { listed = h.listed; other = h.other; top = h.nearest })

-- nothing is found exactly where each listed number is the member's
pub nearest_before-none : (keys : List Key) (m : Key) → (nearest_before keys m ≡ None) ↔ All (λ k. k.number ≡ m.number) keys
nearest_before-none keys m = (
  find_top-none (λ v w. is_between v w m) m.number (before_ranked m) keys,
  λ h. ap (option_map (λ (v : Key). v.number)) (find_top-nobody (λ v w. is_between v w m) m.number keys h),
)

pub nearest_after-none : (keys : List Key) (m : Key) → (nearest_after keys m ≡ None) ↔ All (λ k. k.number ≡ m.number) keys
nearest_after-none keys m = (
  find_top-none (λ v w. is_between m w v) m.number (after_ranked m) keys,
  λ h. ap (option_map (λ (v : Key). v.number)) (find_top-nobody (λ v w. is_between m w v) m.number keys h),
)

-- only which keys are listed counts
pub nearest_before-same : (keys kin : List Key) (m : Key) → ((v : Key) → Contains keys v ↔ Contains kin v) → nearest_before keys m ≡ nearest_before kin m
nearest_before-same keys kin m same = find_top-same (λ v w. is_between v w m) m.number (before_ranked m) keys kin same

pub nearest_after-same : (keys kin : List Key) (m : Key) → ((v : Key) → Contains keys v ↔ Contains kin v) → nearest_after keys m ≡ nearest_after kin m
nearest_after-same keys kin m same = find_top-same (λ v w. is_between m w v) m.number (after_ranked m) keys kin same

-- a pass over the keys keeps the nearest
pub nearest-pass : (side : Side) (keys : List Key) (m : Key) → option_map (λ (v : Key). v.number) (fold (nearest_so_far (nearer side m) m.number) None keys) ≡ nearest side keys m
nearest-pass Before keys m = top_of-find_top (λ v w. is_between v w m) m.number (before_ranked m) keys
nearest-pass After keys m = top_of-find_top (λ v w. is_between m w v) m.number (after_ranked m) keys

-- ---- of listed members

All-keys_of : (ring n : ℕ) (live : List (List (List ℕ) × ℕ)) → All (λ k. k.number ≡ n) (keys_of ring live) ↔ All (λ p. p.1 ≡ n) live
All-keys_of ring n [] = (λ _. All-nil (λ (p : List (List ℕ) × ℕ). p.1 ≡ n), λ _. All-nil (λ (k : Key). k.number ≡ n))
All-keys_of ring n (p ∷ live) =
    let Q : List (List ℕ) × ℕ → Type 0 = λ q. q.1 ≡ n in
    let K : Key → Type 0 = λ k. k.number ≡ n in
    let rest = All-keys_of ring n live in (
      λ h. All-cons Q p live (All-head K (key_at ring p.0 p.1) (keys_of ring live) h) (rest.0 (All-tail K (key_at ring p.0 p.1) (keys_of ring live) h)),
      λ h. All-cons K (key_at ring p.0 p.1) (keys_of ring live) (All-head Q p live h) (rest.1 (All-tail Q p live h)),
    )

none_from : (o : Option ℕ) → IsNone o → o ≡ None
none_from None h = refl
none_from (Some n) h = cc

IsNone-same : (o e : Option ℕ) (P Q : Type 0) → o ≡ e → (e ≡ None) ↔ P → P ↔ Q → IsNone o ↔ Q
IsNone-same o e P Q same nobody means = (λ h. means.0 (nobody.0 (sym same ∙ none_from o h)), λ h. rw (same ∙ nobody.1 (means.1 h)) refl)

-- an answer is none exactly where nobody else is listed
pub number_before-none : (ring : ℕ) (live : List (List (List ℕ) × ℕ)) (m : Key) (o : Option ℕ) → o ≡ nearest_before (keys_of ring live) m → IsNone o ↔ All (λ p. p.1 ≡ m.number) live
number_before-none ring live m o h =
    IsNone-same o (nearest_before (keys_of ring live) m) (All (λ k. k.number ≡ m.number) (keys_of ring live)) (All (λ p. p.1 ≡ m.number) live) h (nearest_before-none (keys_of ring live) m) (All-keys_of ring m.number live)

pub number_after-none : (ring : ℕ) (live : List (List (List ℕ) × ℕ)) (m : Key) (o : Option ℕ) → o ≡ nearest_after (keys_of ring live) m → IsNone o ↔ All (λ p. p.1 ≡ m.number) live
number_after-none ring live m o h =
    IsNone-same o (nearest_after (keys_of ring live) m) (All (λ k. k.number ≡ m.number) (keys_of ring live)) (All (λ p. p.1 ≡ m.number) live) h (nearest_after-none (keys_of ring live) m) (All-keys_of ring m.number live)

IfSome-same : (o e : Option ℕ) (P : ℕ → Type 0) → o ≡ e → ((n : ℕ) → e ≡ Some n → P n) → IfSome o P
IfSome-same None e P same h = tt
IfSome-same (Some n) e P same h = h n (sym same)

-- an answer is the number of a nearest key
pub number_before-some : (keys : List Key) (m : Key) (o : Option ℕ) → o ≡ nearest_before keys m → IfSome o (IsNumberBefore keys m)
number_before-some keys m o h = IfSome-same o (nearest_before keys m) (IsNumberBefore keys m) h (nearest_before-some keys m)

pub number_after-some : (keys : List Key) (m : Key) (o : Option ℕ) → o ≡ nearest_after keys m → IfSome o (IsNumberAfter keys m)
number_after-some keys m o h = IfSome-same o (nearest_after keys m) (IsNumberAfter keys m) h (nearest_after-some keys m)
