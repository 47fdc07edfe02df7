-- What becomes of the hosts where one of them changes.
use Rattle.std.proofs.Common.{◌≡◌, ℕ, zero, suc, ◌+◌, ◌<◌, ◌≤◌, false, eqb, List, [], ◌∷◌, Some, map, refl, ap, sym, subst, arith}
use Rattle.std.proofs.Math.ListN.{set}
use Rattle.std.specs.List.{AllByRecursion, slice_get}
use Rattle.std.proofs.lemmas.Bool.Decides.{nat_tests}
use Rattle.sign_keys.specs.declared.kinds.Kinds.{Kinds}
use Rattle.node_rules.specs.OnRings.{Rises}
use Rattle.signer.specs.Lives.{Spent}
use Rattle.world_rules.specs.Settings.{Setting}
use Rattle.world_rules.specs.Worlds as worlds
use Rattle.world_rules.specs.Worlds.{World as ModelWorld, spent_of}
use Rattle.world_host.specs.Hosts.{HostState}
use Rattle.world_host.specs.Holding.{HoldsHost}
use Rattle.world.specs.Holding.{HoldsPlace}

-- Nothing becomes of the place of the member.
pub record StaysAt (w later : ModelWorld) (k : ℕ) : Type 0 where
  pub host : later.hosts k ≡ w.hosts k
  pub spent : spent_of later (Some k) ≡ spent_of w (Some k)

-- Nothing becomes of the places of other members than this one.
pub record StaysElse (w later : ModelWorld) (m : ℕ) : Type 0 where
  pub others : (k : ℕ) → eqb k m ≡ false → StaysAt w later k

pub host-stays : (s : Setting) (kinds : Kinds) (w later : ModelWorld) (y : HostState) → StaysAt w later y.member → HoldsPlace s kinds w y → HoldsPlace s kinds later y
host-stays s kinds w later y stays h =
    subst (λ (z : worlds.Host). HoldsHost s kinds z (spent_of later (Some y.member)) y) (sym stays.host)
    (subst (λ (z : List Spent). HoldsHost s kinds (w.hosts y.member) z y) (sym stays.spent) h)

-- all of them are others
hosts-stay : (s : Setting) (kinds : Kinds) (w later : ModelWorld) (m low : ℕ) (xs : List HostState) → m < low → Rises low (map (λ x. x.member) xs) → StaysElse w later m
    → AllByRecursion (HoldsPlace s kinds w) xs → AllByRecursion (HoldsPlace s kinds later) xs
hosts-stay s kinds w later m low [] above rises stays h = tt
hosts-stay s kinds w later m low (x ∷ xs) above rises stays h =
    let apart : eqb x.member m ≡ false = other x.member m (omega (arith, rises.0)) in
    (host-stays s kinds w later x (stays.others x.member apart) h.0, hosts-stay s kinds w later m (x.member + 1) xs (omega (arith, rises.0)) rises.1 stays h.1)
  where
    other : (a b : ℕ) → b < a → eqb a b ≡ false
    other a b l = grind (arith, nat_tests)

above-first : (low m at : ℕ) (numbers : List ℕ) → Rises low numbers → slice_get numbers at ≡ Some m → low ≤ m
above-first low m at [] rises is = cc
above-first low m zero (x ∷ numbers) rises is = let same : x ≡ m = some-same x m is in omega (arith, rises.0, same)
  where
    some-same : (x m : ℕ) → Some x ≡ Some m → x ≡ m
    some-same x m e = cc
above-first low m (suc at) (x ∷ numbers) rises is = let h = above-first (x + 1) m at numbers rises.1 is in omega (arith, rises.0, h)

-- the one at its place is as it is meant to be, and the others are as they were
pub host-changes : (s : Setting) (kinds : Kinds) (w later : ModelWorld) (m low at : ℕ) (xs : List HostState) (x : HostState) → Rises low (map (λ x. x.member) xs) → slice_get (map (λ x. x.member) xs) at ≡ Some m → StaysElse w later m
    → HoldsPlace s kinds later x → AllByRecursion (HoldsPlace s kinds w) xs → AllByRecursion (HoldsPlace s kinds later) (set xs at x)
host-changes s kinds w later m low at [] x rises is stays new h = cc
host-changes s kinds w later m low zero (y ∷ xs) x rises is stays new h =
    let same : y.member ≡ m = some-same y.member m is in
    (new, hosts-stay s kinds w later m (y.member + 1) xs (omega (arith, same)) rises.1 stays h.1)
  where
    some-same : (x m : ℕ) → Some x ≡ Some m → x ≡ m
    some-same x m e = cc
host-changes s kinds w later m low (suc at) (y ∷ xs) x rises is stays new h =
    let above : y.member + 1 ≤ m = above-first (y.member + 1) m at (map (λ x. x.member) xs) rises.1 is in
    let apart : eqb y.member m ≡ false = below y.member m above in
    (host-stays s kinds w later y (stays.others y.member apart) h.0, host-changes s kinds w later m (y.member + 1) at xs x rises.1 is stays new h.1)
  where
    below : (a b : ℕ) → a + 1 ≤ b → eqb a b ≡ false
    below a b l = grind (arith, nat_tests)

-- the host that has its place there is as it is meant to be
pub host-at : (s : Setting) (kinds : Kinds) (w : ModelWorld) (at : ℕ) (xs : List HostState) (x : HostState) → slice_get xs at ≡ Some x → AllByRecursion (HoldsPlace s kinds w) xs → HoldsPlace s kinds w x
host-at s kinds w at [] x is h = cc
host-at s kinds w zero (y ∷ xs) x is h = subst (HoldsPlace s kinds w) (some-same y x is) h.0
  where
    some-same : (a b : HostState) → Some a ≡ Some b → a ≡ b
    some-same a b e = cc
host-at s kinds w (suc at) (y ∷ xs) x is h = host-at s kinds w at xs x is h.1

-- numbers stay where a host keeps its number
pub numbers-set : (xs : List HostState) (at : ℕ) (x : HostState) → slice_get (map (λ y. y.member) xs) at ≡ Some x.member → map (λ y. y.member) (set xs at x) ≡ map (λ y. y.member) xs
numbers-set [] at x is = refl
numbers-set (y ∷ xs) zero x is = ap (λ (k : ℕ). k ∷ map (λ y. y.member) xs) (sym (some-same y.member x.member is))
  where
    some-same : (x m : ℕ) → Some x ≡ Some m → x ≡ m
    some-same x m e = cc
numbers-set (y ∷ xs) (suc at) x is = ap (λ (ks : List ℕ). y.member ∷ ks) (numbers-set xs at x is)
