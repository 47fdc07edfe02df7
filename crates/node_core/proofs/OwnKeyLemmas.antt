-- What is signed by a key verifies under its public half, also in the setting of a node.
use Rattle.std.proofs.Common.{◌≡◌, ◌<◌, ℕ, true, List, Option}
use Rattle.ff_ids.specs.declared.Group.{Group}
use Rattle.ff_ids.specs.Heals.{Heal}
use Rattle.lms_tree.specs.declared.key.PublicKey.{PublicKey}
use Rattle.lms_tree.specs.declared.secret.Secret.{Secret}
use Rattle.lms_tree.specs.Lms.{public_of}
use Rattle.lms_tree.proofs.Signatures.{signature-verifies}
use Rattle.hss.specs.Keys.{is_in_profile}
use Rattle.hss.specs.Pairs.{top_secret}
use Rattle.hss.proofs.Pairs.{pair-verifies}
use Rattle.records.specs.Keys.{IsKey, Verifies}
use Rattle.records.specs.Signing.{signed_bytes}
use Rattle.sign_keys.specs.Keys.{KeySecret, Lms, Hss, index_count, public_key, signature_of}
use Rattle.validate.proofs.VerdictLemmas.{good-verdict}
use Rattle.node_rules.specs.Vouching.{OwnSignaturesVerify}
use Rattle.node_core.specs.Playing.{setting_of}

secret-profile : (s : Secret) → is_in_profile (public_of s).ots ≡ true → is_in_profile s.ots ≡ true
unfolding public_of
secret-profile s e = e

-- each does, with an index that the key has, where the parts of the public half are as they should be
signatures-verify : (key : KeySecret) (index : ℕ) (message : List ℕ) → IsKey (public_key key) → index < index_count key → Verifies (public_key key) message (signature_of key index message)
signatures-verify (Lms secret) index message is within = signature-verifies secret index message within
signatures-verify (Hss pair) index message is within = pair-verifies pair index message within (secret-profile (top_secret pair) is.in_profile)

pub own-verify : (group : Group) (heal : Option Heal) (me : ℕ) (authority : PublicKey) (key : KeySecret) → IsKey (public_key key) → OwnSignaturesVerify (setting_of group heal me authority key) (public_key key)
unfolding setting_of
own-verify group heal me authority key is index body within =
    let message : List ℕ = signed_bytes group.tag group.t body in
    good-verdict (public_key key) message (signature_of key index message) (signatures-verify key index message is within)
