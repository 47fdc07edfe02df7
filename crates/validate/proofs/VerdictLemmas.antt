-- The verdict on a signature is good where the relation holds.
use Rattle.std.proofs.Common.{◌≡◌, ℕ, true, List, Ok, refl, sym, ap, ◌∙◌, arith, eq-eqb}
use Rattle.std.specs.Result.{is_ok}
use Rattle.std.proofs.lemmas.Bool.{lt-ltb}
use Rattle.std.proofs.lemmas.Slice.Eq.{bytes_eq-Decides}
use Rattle.lms_tree.specs.declared.key.PublicKey.{PublicKey}
use Rattle.lms_tree.specs.Lms as lms
use Rattle.lms_tree.specs.Lms.{root_in}
use Rattle.hss.specs.Keys.{TwoLevelKey}
use Rattle.hss.specs.Hss as hss
use Rattle.hss.specs.Hss.{HssVerifies, bottom_in, key_part, top_in}
use Rattle.hss.proofs.Verdicts.{verdict-reached, verifies-parts}
use Rattle.records.specs.declared.keys.Key.{Key}
use Rattle.records.specs.declared.keys.Key.TheVariants as keys
use Rattle.records.specs.Keys.{Verifies, verdict_of, hss_verdict, lms_verdict}
use Rattle.lms_tree.proofs.Verdicts.{verifies-length, verifies-tree_type, verifies-ots_type, verifies-has_leaf, verifies-root}

lms-verdict : (key : PublicKey) (message signature : List ℕ) → lms.Verifies key message signature → lms.verdict_of key message signature ≡ Ok tt
unfolding lms.verdict_of
lms-verdict key message signature good =
    let long = eq-eqb _ _ (verifies-length key message signature good) in
    let tree = eq-eqb _ _ (verifies-tree_type key message signature good) in
    let kind = eq-eqb _ _ (verifies-ots_type key message signature good) in
    let leaf = lt-ltb _ _ (verifies-has_leaf key message signature good) in
    let root = (bytes_eq-Decides (root_in key message signature) key.root).1 (verifies-root key message signature good) in
    rw (long, tree, kind, leaf, root) refl

hss-verdict : (key : TwoLevelKey) (message signature : List ℕ) → HssVerifies key message signature → hss.verdict_of key message signature ≡ Ok tt
hss-verdict key message signature good =
    let parts = verifies-parts key message signature good in
    sym (verdict-reached key message signature parts.bottom_key (omega (arith, parts.long)) parts.levels parts.read parts.long)
    ∙ rw (
      lms-verdict key.top (key_part key signature) (top_in key signature) parts.signs_key,
      lms-verdict parts.bottom_key message (bottom_in key signature) parts.signs_message,
    ) refl

pub good-verdict : (key : Key) (message signature : List ℕ) → Verifies key message signature → is_ok (verdict_of key message signature) ≡ true
good-verdict (keys.Lms key) message signature good = ap (λ v. is_ok (lms_verdict v)) (lms-verdict key message signature good)
good-verdict (keys.Hss key) message signature good = ap (λ v. is_ok (hss_verdict v)) (hss-verdict key message signature good)
