-- What is signed with the keys of a world verifies under them.
use Rattle.std.proofs.Common.{◌≡◌, ℕ, ◌<◌, Bool, true, false, List, Option, Some, None, refl, subst, sym}
use Rattle.std.specs.Prelude.{◌&&◌}
use Rattle.lms_ots.specs.declared.OtsKind.{OtsKind}
use Rattle.lms_tree.specs.declared.TreeKind.{TreeKind}
use Rattle.lms_tree.proofs.Signatures.{signature-verifies}
use Rattle.hss.proofs.Pairs.{pair-verifies}
use Rattle.ff_ids.specs.declared.Group.{Group}
use Rattle.ff_ids.specs.Heals.{Heal}
use Rattle.records.specs.Keys.{Verifies}
use Rattle.records.specs.Signing.{signed_bytes}
use Rattle.sign_keys.specs.declared.kinds.Kinds.{Kinds}
use Rattle.sign_keys.specs.Keys.{index_count, key_of, public_key, signature_of}
use Rattle.sign_keys.proofs.Tops.{top-signs}
use Rattle.sign_keys.specs.Kinds.{fits, is_in_profile}
use Rattle.validate.proofs.VerdictLemmas.{good-verdict}
use Rattle.world_rules.specs.Keys.{indexes_by, owner_key, owner_kinds, setting_for}
use Rattle.world_rules.specs.Settings.{Owner, indexes_for}
use Rattle.world_laws.specs.Laws.{KeysVerify, TopLeavesSignOnce}

both-hold : (a b : Bool) → (a && b) ≡ true → a ≡ true
both-hold true b e = refl
both-hold false b e = e

key-verifies : (ots : OtsKind) (tree : TreeKind) (bottom : Option TreeKind) (id seed message : List ℕ) (index : ℕ) → fits ots tree bottom ≡ true → index < indexes_by tree bottom
    → Verifies (public_key (key_of ots tree bottom id seed)) message (signature_of (key_of ots tree bottom id seed) index message)
key-verifies ots tree None id seed message index good left = signature-verifies (record { tree = tree; ots = ots; id = id; seed = seed }) index message left
key-verifies ots tree (Some bottom) id seed message index good left = pair-verifies (record { top = tree; bottom = bottom; ots = ots; id = id; seed = seed }) index message left (both-hold _ _ good)

owner-fits : (kinds : Kinds) (who : Owner) → is_in_profile kinds ≡ true → is_in_profile (owner_kinds kinds who) ≡ true
owner-fits kinds None good = refl
owner-fits kinds (Some m) good = good

owner-left : (g : Group) (kinds : Kinds) (heal : Option Heal) (correct liars : List ℕ) (who : Owner) (index : ℕ) → index < indexes_for (setting_for g kinds heal correct liars) who → let own = owner_kinds kinds who in index < indexes_by own.tree own.bottom
unfolding setting_for
owner-left g kinds heal correct liars None index left = left
owner-left g kinds heal correct liars (Some m) index left = left

pub keys-verify : KeysVerify
unfolding setting_for
keys-verify g kinds heal correct liars good =
    λ who index body left.
    let own = owner_kinds kinds who in
    let key = owner_key g kinds who in
    let message : List ℕ = signed_bytes g.tag g.t body in
    good-verdict (public_key key) message _ (key-verifies own.ots own.tree own.bottom _ _ message index (owner-fits kinds who good) (owner-left g kinds heal correct liars who index left))

-- a key has as many indexes as its kinds say
counts-by : (ots : OtsKind) (tree : TreeKind) (bottom : Option TreeKind) (id seed : List ℕ) → index_count (key_of ots tree bottom id seed) ≡ indexes_by tree bottom
counts-by ots tree None id seed = refl
counts-by ots tree (Some bottom) id seed = refl

pub top-leaves-sign-once : TopLeavesSignOnce
unfolding setting_for
top-leaves-sign-once g kinds heal correct liars who index body left =
    let own = owner_kinds kinds who in
    let within = owner-left g kinds heal correct liars who index left in
    top-signs (owner_key g kinds who) index (signed_bytes g.tag g.t body) (subst (λ (n : ℕ). index < n) (sym (counts-by own.ots own.tree own.bottom _ _)) within)
