-- Signatures: how their bytes come about, and that they verify.
use Rattle.std.proofs.Common.{◌≡◌, ℕ, ◌+◌, ◌-◌, ◌*◌, ◌<◌, List, ◌++◌, length, take, refl, sym, ◌∙◌, ap, arith}
use Rattle.std.specs.Int.{w32, to_be_bytes}
use Rattle.std.proofs.lemmas.List.{take_all}
use Rattle.std.proofs.lemmas.Slice.{take-put_mid}
use borrow.Rule.Slice.PartMut.{put_mid}
use Rattle.sha2.proofs.Facts256.{length-sha256}
use Rattle.lms_ots.specs.declared.kind.OtsKind.{OtsKind}
use Rattle.lms_ots.specs.Ots as ots
use Rattle.lms_ots.proofs.Opening.{candidate_from-signature_value, length-signature_of, length-signature_value}
use Rattle.lms_tree.specs.declared.secret.Secret.{Secret}
use Rattle.lms_tree.specs.Kinds.{type_number, height, leaf_count, signature_length}
use Rattle.lms_tree.specs.Lms.{Verifies, ots_bytes, path_of, public_of, randomizer, root_from, signature_bytes, signature_of}
use Rattle.lms_tree.proofs.Roots.{one_time-long, length-node, path-opens}

length-randomizer : (secret : Secret) (q : ℕ) (message : List ℕ) → length (randomizer secret q message) ≡ 32
unfolding randomizer
length-randomizer secret q message = length-sha256 _

-- the bytes that are written one behind another
pub signature-written : (secret : Secret) (q : ℕ) (message c b1 b3 b4 part number kind : List ℕ) (long : ℕ)
    → long ≡ ots.signature_length secret.ots → c ≡ randomizer secret q message
    → number ≡ to_be_bytes w32 q → kind ≡ to_be_bytes w32 (type_number secret.tree)
    → part ≡ ots.signature_of secret.ots secret.id q secret.seed c message
    → length b1 ≡ signature_length secret.tree secret.ots → length b4 ≡ signature_length secret.tree secret.ots
    → take (0 + length number) b1 ≡ number
    → take (8 + long - 4 + length kind) b3 ≡ take (8 + long - 4) (put_mid 4 (8 + long - 4 - 4) b1 part) ++ kind
    → take (8 + long + 32 * height secret.tree) b4
    ≡ take (8 + long) b3 ++ ots.joined (path_of secret q) (height secret.tree)
    → b4 ≡ signature_of secret q message
unfolding signature_of signature_bytes
signature-written secret q message c b1 b3 b4 part number kind long is_long is_c is_number is_kind is_part long1 long4 first second third =
    let room = one_time-long secret.ots in
    let c_long : length c ≡ 32 = ap length is_c ∙ length-randomizer secret q message in
    let part_long : length part ≡ ots.signature_length secret.ots = ap length is_part ∙ length-signature_of secret.ots secret.id q secret.seed c message c_long in
    let number_long : length number ≡ 4 = ap length is_number in
    let kind_long : length kind ≡ 4 = ap length is_kind in
    let four : 4 ≡ 0 + length number = omega arith in
    let begun : take 4 b1 ≡ number = ap (λ n. take n b1) four ∙ first in
    let middle : take (8 + long - 4) (put_mid 4 (8 + long - 4 - 4) b1 part) ≡ take 4 b1 ++ part =
    take-put_mid 4 (8 + long - 4 - 4) b1 part (8 + long - 4) (omega arith) (omega arith) in
    let place : 8 + long ≡ 8 + long - 4 + length kind = omega arith in
    let tail = ots.joined (path_of secret q) (height secret.tree) in
    let whole : take (8 + long + 32 * height secret.tree) b4 ≡ b4 = take_all (8 + long + 32 * height secret.tree) b4 (omega arith) in
    let one_time : part ≡ ots.signature_of secret.ots secret.id q secret.seed (randomizer secret q message) message =
    is_part ∙ ap (λ r. ots.signature_of secret.ots secret.id q secret.seed r message) is_c in
    sym whole ∙ third ∙ ap (λ t. t ++ tail) (ap (λ n. take n b3) place ∙ second ∙ ap (λ t. t ++ kind) (middle ∙ ap (λ t. t ++ part) begun))
    ∙ ap (λ t. t ++ part ++ kind ++ tail) is_number
    ∙ ap (λ t. to_be_bytes w32 q ++ t ++ kind ++ tail) one_time
    ∙ ap (λ t. to_be_bytes w32 q ++ ots.signature_of secret.ots secret.id q secret.seed (randomizer secret q message) message ++ t ++ tail) is_kind

spelled_by_parts : (kind : OtsKind) (id : List ℕ) (q : ℕ) (seed c message : List ℕ)
    → ots.signature_of kind id q seed c message
    ≡ ots_bytes kind c (ots.signature_value kind id q seed (ots.message_hash id q c message))
unfolding ots.signature_of ots_bytes
spelled_by_parts kind id q seed c message = refl

-- every signature verifies under the public half of its key
pub signature-verifies : (secret : Secret) (q : ℕ) (message : List ℕ) → q < leaf_count secret.tree
    → Verifies (public_of secret) message (signature_of secret q message)
unfolding signature_of public_of path_of
signature-verifies secret q message within =
    let c = randomizer secret q message in
    let hash = ots.message_hash secret.id q c message in
    let y = ots.signature_value secret.ots secret.id q secret.seed hash in
    let parts = spelled_by_parts secret.ots secret.id q secret.seed c message in
    record {
      q = q;
      c = c;
      y = y;
      path = path_of secret q;
      has_leaf = within;
      c_is_hash = length-randomizer secret q message;
      y_are_hashes = λ i below. length-signature_value secret.ots secret.id q secret.seed hash i;
      path_is_hashes = λ i below. length-node secret _;
      spelled = ap (λ o. signature_bytes secret.tree q o (path_of secret q)) parts;
      opens = ap (λ k. root_from secret.tree secret.id q k (path_of secret q)) (candidate_from-signature_value secret.ots secret.id q secret.seed c message)
          ∙ path-opens secret q within;
    }
