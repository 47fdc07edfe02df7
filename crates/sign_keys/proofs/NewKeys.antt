-- A key of which no index was handed out is one value.
use Rattle.std.proofs.Common.{◌≡◌, ℕ, Option, None, refl, ap, ◌∙◌}
use Rattle.lms_tree.specs.declared.secret.Secret.{Secret}
use Rattle.lms_tree.specs.Leaves.{LeavesOf}
use Rattle.hss.specs.declared.secret.PairSecret.{PairSecret}
use Rattle.hss.specs.Pairs.{PairState}
use Rattle.sign_keys.specs.declared.key.SignKey.{SignKey}
use Rattle.sign_keys.specs.declared.key.SignKey.TheVariants as sign
use Rattle.sign_keys.specs.Keys.{Hss, IsNew, KeySecret, Lms, new_key}

abbrev leaves : Secret → ℕ → LeavesOf
leaves key next = record { key = key; next = next }

abbrev state : PairSecret → ℕ → Option ℕ → PairState
state key next made = record { key = key; next = next; made = made }

tree_is : (tree secret : Secret) → Lms tree ≡ Lms secret → tree ≡ secret
tree_is tree secret e = cc

pair_is : (pair secret : PairSecret) → Hss pair ≡ Hss secret → pair ≡ secret
pair_is pair secret e = cc

leaves_are : (left : LeavesOf) (secret : Secret) → left.key ≡ secret → left.next ≡ 0 → left ≡ leaves secret 0
leaves_are left secret key first = ap (λ k. leaves k left.next) key ∙ ap (λ n. leaves secret n) first

state_is : (pair : PairState) (secret : PairSecret) → pair.key ≡ secret → pair.next ≡ 0 → pair.made ≡ None → pair ≡ state secret 0 None
state_is pair secret key first unmade =
    ap (λ k. state k pair.next pair.made) key ∙ ap (λ n. state secret n pair.made) first ∙ ap (λ m. state secret 0 m) unmade

pub is_new_key : (key : SignKey) (secret : KeySecret) → IsNew key secret → key ≡ new_key secret
is_new_key (sign.Lms tree left) (Lms secret) h =
    let is = tree_is tree secret h.is in
    ap (λ (t : Secret). sign.Lms t left) is ∙ ap (λ (l : LeavesOf). sign.Lms secret l) (leaves_are left secret (h.one ∙ is) h.first)
is_new_key (sign.Lms tree left) (Hss secret) h = absurd (let e = h.is in cc)
is_new_key (sign.Hss pair) (Lms secret) h = absurd (let e = h.is in cc)
is_new_key (sign.Hss pair) (Hss secret) h =
    ap (λ (p : PairState). sign.Hss p) (state_is pair secret (pair_is pair.key secret h.is) h.first h.unmade)

pub new-is : (secret : KeySecret) → IsNew (new_key secret) secret
new-is (Lms secret) = record { is = refl; first = refl; one = refl; unmade = tt }
new-is (Hss secret) = record { is = refl; first = refl; one = tt; unmade = refl }
