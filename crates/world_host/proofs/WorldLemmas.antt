-- A world's numbers, and what a node of it is opened with.
use Rattle.std.proofs.Common.{◌≡◌, ℕ, ◌≤◌, List, Option, Some, None, Result, Ok, Err, refl, sym, ap, ◌∙◌, subst}
use Rattle.std.specs.Prelude.{IfOk, IfSome}
use Rattle.ff_ids.specs.declared.TheConstants.{MAX_TOLERANCE}
use Rattle.fields.specs.declared.NoMemory.{NoMemory}
use Rattle.ff_ids.specs.declared.Group.{Group}
use Rattle.ff_ids.specs.Heals.{Heal}
use Rattle.lms_ots.specs.declared.OtsKind.{OtsKind}
use Rattle.lms_tree.specs.declared.TreeKind.{TreeKind}
use Rattle.lms_tree.specs.declared.key.PublicKey.{PublicKey}
use Rattle.lms_tree.specs.declared.secret.Secret.{Secret}
use Rattle.lms_tree.specs.Lms.{public_of}
use Rattle.records.specs.declared.keys.Key.{Key}
use Rattle.records.specs.declared.keys.Key.TheVariants as keys
use Rattle.secrets.specs.Secrets.{key_from, key_id, key_seed, world_secret}
use Rattle.sign_keys.specs.declared.key.SignKey.{SignKey}
use Rattle.sign_keys.specs.declared.kinds.Kinds.{Kinds}
use Rattle.sign_keys.specs.Keys.{IsNew, KeySecret, index_count, key_of, public_key, secret_of}
use Rattle.sign_keys.proofs.Counts.{count_small}
use Rattle.signer.specs.Lives.{Spent}
use Rattle.node_core.specs.Playing as node
use Rattle.world_rules.specs.Settings.{Setting, setting_of}
use Rattle.world_rules.specs.Keys.{indexes_by, indexes_of, owner_key, owner_secret, setting_for}
use Rattle.world_rules.specs.Worlds.{Host}
use Rattle.world_host.specs.Holding.{HoldsHost, IsWorld}
use Rattle.world_host.specs.Hosts.{HostState, IsUntaken}

pub group-is : (s : Setting) (g : Group) (kinds : Kinds) → IsWorld s g kinds → s.group ≡ g
unfolding setting_for
group-is s g kinds w = ap (λ (x : Setting). x.group) w.made

pub few-rings : (s : Setting) (g : Group) (kinds : Kinds) → IsWorld s g kinds → s.group.t ≤ MAX_TOLERANCE
few-rings s g kinds w = subst (λ (x : Group). x.t ≤ MAX_TOLERANCE) (sym (group-is s g kinds w)) w.few

-- ---- how many indexes there are

pub indexes-are : (s : Setting) (g : Group) (kinds : Kinds) → IsWorld s g kinds → s.indexes ≡ indexes_of kinds
unfolding setting_for
indexes-are s g kinds w = ap (λ (x : Setting). x.indexes) w.made

indexes-by : (ots : OtsKind) (tree : TreeKind) (bottom : Option TreeKind) (id seed : List ℕ) → index_count (key_of ots tree bottom id seed) ≡ indexes_by tree bottom
indexes-by ots tree None id seed = refl
indexes-by ots tree (Some bottom) id seed = refl

-- A key of these kinds has as many as they say.
pub own-indexes : (g : Group) (kinds : Kinds) (m : ℕ) → index_count (owner_key g kinds (Some m)) ≡ indexes_of kinds
own-indexes g kinds m = indexes-by kinds.ots kinds.tree kinds.bottom (key_id (owner_secret g (Some m))) (key_seed (owner_secret g (Some m)))

pub few-indexes : (s : Setting) (g : Group) (kinds : Kinds) → IsWorld s g kinds → s.indexes ≤ 32768
few-indexes s g kinds w =
    subst (λ (n : ℕ). n ≤ 32768) (own-indexes g kinds 0 ∙ sym (indexes-are s g kinds w))
    (count_small kinds (key_id (owner_secret g (Some 0))) (key_seed (owner_secret g (Some 0))) w.profile)

-- ---- what a node is opened with

-- the authority's key has one level
abbrev authority_secret : Group → Kinds → Secret
authority_secret g kinds = record { tree = kinds.tree; ots = kinds.ots; id = key_id (owner_secret g None); seed = key_seed (owner_secret g None) }

made-by : (g : Group) (ots : OtsKind) (tree : TreeKind) (bottom : Option TreeKind) (heal : Option Heal) (correct liars : List ℕ) (m : ℕ)
    → let kinds : Kinds = record { ots = ots; tree = tree; bottom = bottom } in
    setting_of (setting_for g kinds heal correct liars) m ≡ node.setting_of g heal m (public_of (authority_secret g kinds)) (owner_key g kinds (Some m))
unfolding setting_for node.setting_of
made-by g ots tree None heal correct liars m = refl
made-by g ots tree (Some bottom) heal correct liars m = refl

own-made : (g : Group) (kinds : Kinds) (s : Setting) (m : ℕ)
    → setting_of (setting_for g kinds s.heal s.correct s.liars) m ≡ node.setting_of g s.heal m (public_of (authority_secret g kinds)) (owner_key g kinds (Some m))
own-made g kinds s m = made-by g kinds.ots kinds.tree kinds.bottom s.heal s.correct s.liars m

lms-is : (x y : PublicKey) → keys.Lms x ≡ keys.Lms y → x ≡ y
lms-is x y e = cc

key-made : (g : Group) (kinds : Kinds) (s : Setting) (who : Option ℕ) → (setting_for g kinds s.heal s.correct s.liars).key who ≡ public_key (owner_key g kinds who)
unfolding setting_for
key-made g kinds s who = refl

-- A node with its own key is opened with what the world has for it.
pub own-setting : (s : Setting) (g : Group) (kinds : Kinds) (m : ℕ) (authority : PublicKey) → IsWorld s g kinds → keys.Lms authority ≡ s.key None
    → setting_of s m ≡ node.setting_of g s.heal m authority (owner_key g kinds (Some m))
own-setting s g kinds m authority w is =
    let same : public_of (authority_secret g kinds) ≡ authority = sym (lms-is authority (public_of (authority_secret g kinds)) (is ∙ ap (λ (x : Setting). x.key None) w.made ∙ key-made g kinds s None)) in
    ap (λ (x : Setting). setting_of x m) w.made ∙ own-made g kinds s m ∙ ap (λ (a : PublicKey). node.setting_of g s.heal m a (owner_key g kinds (Some m))) same

pub own-public : (s : Setting) (g : Group) (kinds : Kinds) (m : ℕ) → IsWorld s g kinds → s.key (Some m) ≡ public_key (owner_key g kinds (Some m))
own-public s g kinds m w = ap (λ (x : Setting). x.key (Some m)) w.made ∙ key-made g kinds s (Some m)

-- ---- the key of a place

-- The key that is kept is the member's.
pub kept-key : (s : Setting) (g : Group) (kinds : Kinds) (place : Host) (spent : List Spent) (x : HostState) (k : SignKey) → IsWorld s g kinds → HoldsHost s kinds place spent x → x.key ≡ Some k → secret_of k ≡ owner_key g kinds (Some x.member)
kept-key s g kinds place spent x k w h is =
    some-so x.key h.key is ∙ ap (λ (y : Group). owner_key y kinds (Some x.member)) (group-is s g kinds w)
  where
    some-so : (o : Option SignKey) → IfSome o (λ y. IsNew y (owner_key s.group kinds (Some x.member))) → o ≡ Some k → secret_of k ≡ owner_key s.group kinds (Some x.member)
    some-so None h is = cc
    some-so (Some y) h is = let same : y ≡ k = cc in ap secret_of (sym same) ∙ h.is

-- What is said of the key that is kept.
pub untaken : (kinds : Kinds) (public : Key) (o : Option SignKey) (k : SignKey) → IfSome o (IsUntaken kinds public) → o ≡ Some k → IsUntaken kinds public k
untaken kinds public None k h is = cc
untaken kinds public (Some y) k h is = let same : y ≡ k = cc in subst (IsUntaken kinds public) same h

-- The key that is made again is the member's.
pub made-key : (s : Setting) (g : Group) (kinds : Kinds) (place : Host) (spent : List Spent) (x : HostState) (r : Result SignKey NoMemory) → HoldsHost s kinds place spent x
    → IfOk r (λ k. IsNew k (key_from x.kinds (world_secret g.tag x.member))) → IfOk r (λ k. secret_of k ≡ owner_key g kinds (Some x.member))
made-key s g kinds place spent x (Err refused) h made = tt
made-key s g kinds place spent x (Ok k) h made = made.is ∙ ap (λ (y : Kinds). key_from y (world_secret g.tag x.member)) h.kinds_are

-- It is new.
pub made-new : (secret : KeySecret) (r : Result SignKey NoMemory) → IfOk r (λ k. IsNew k secret) → IfOk r (λ k. IsNew k (secret_of k))
made-new secret (Err refused) made = tt
made-new secret (Ok k) made = record { is = refl; first = made.first; one = made.one; unmade = made.unmade }

-- It has as many indexes as its kinds say.
pub made-indexes : (g : Group) (kinds : Kinds) (m : ℕ) (r : Result SignKey NoMemory) → IfOk r (λ k. IsNew k (owner_key g kinds (Some m))) → IfOk r (λ k. index_count (secret_of k) ≡ indexes_of kinds)
made-indexes g kinds m (Err refused) made = tt
made-indexes g kinds m (Ok k) made = ap index_count made.is ∙ own-indexes g kinds m

-- It has the public half that the member's key has.
pub made-public : (secret : KeySecret) (public : Key) (r : Result SignKey NoMemory) → public ≡ public_key secret → IfOk r (λ k. IsNew k secret) → IfOk r (λ k. public_key (secret_of k) ≡ public)
made-public secret public (Err refused) is made = tt
made-public secret public (Ok k) is made = ap public_key made.is ∙ sym is

-- A key that was just made is one that no life has taken.
pub made-untaken : (g : Group) (kinds : Kinds) (m : ℕ) (k : SignKey) (public : Key) → IsNew k (owner_key g kinds (Some m)) → public ≡ public_key (secret_of k) → IsUntaken kinds public k
made-untaken g kinds m k public new is =
    record {
      fresh = record { is = refl; first = new.first; one = new.one; unmade = new.unmade };
      indexes = ap index_count new.is ∙ own-indexes g kinds m;
      half = sym is;
    }

-- A node's kit and key, as they are opened together.
pub own-kit : (s : Setting) (g other : Group) (kinds : Kinds) (m me : ℕ) (authority : PublicKey) (key : KeySecret) (heal : Option Heal) → IsWorld s g kinds → keys.Lms authority ≡ s.key None → other ≡ g → me ≡ m → key ≡ owner_key g kinds (Some m)
    → heal ≡ s.heal → setting_of s m ≡ node.setting_of other heal me authority key
own-kit s g other kinds m me authority key heal w is group_is me_is key_is heal_is =
    own-setting s g kinds m authority w is
    ∙ ap (λ (x : Group). node.setting_of x s.heal m authority (owner_key g kinds (Some m))) (sym group_is)
    ∙ ap (λ (x : ℕ). node.setting_of other s.heal x authority (owner_key g kinds (Some m))) (sym me_is)
    ∙ ap (λ (k : KeySecret). node.setting_of other s.heal me authority k) (sym key_is)
    ∙ ap (λ (o : Option Heal). node.setting_of other o me authority key) (sym heal_is)
