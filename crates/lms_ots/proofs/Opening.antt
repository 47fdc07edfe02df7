-- Every signature opens to the public value of its key.
use Rattle.std.proofs.Common.{◌≡◌, ℕ, ◌+◌, ◌-◌, ◌*◌, ◌<◌, List, ◌++◌, length, take, drop, refl, sym, ◌∙◌, ap, arith, length-append, append_assoc, eq-eqb, Ok}
use Rattle.std.specs.Prelude.{slice_range}
use Rattle.std.specs.Int.{w32, to_be_bytes, from_be_bytes}
use Rattle.std.proofs.lemmas.List.{take_at, drop_at}
use Rattle.std.proofs.Math.Seq.{drop-append-add}
use Rattle.sha2.specs.Sha256.{sha256}
use Rattle.lms_ots.specs.declared.kind.OtsKind.{OtsKind}
use Rattle.lms_ots.specs.declared.kind.OtsKind.TheVariants.{W1, W2, W4, W8}
use Rattle.lms_ots.specs.Ots.{SignaturesOpen, candidate_end, candidate_from, candidate_of, candidate_value, chain, chain_count, d_pblc, hash_prefix, digit, ends_hash, greatest_digit, joined, message_hash, public_end, public_value, randomizer_in, secret, signature_length, signature_of, signature_value, type_in, type_number, value_in}
use Rattle.lms_ots.proofs.Chains.{chain-add, digit-le, joined-at, joined-ext, length-chain, length-joined, length-secret, signature_length-is}

-- bytes in the layout of a signature: a type of 4, a randomizer of 32, and the values
record IsLaidOut (kind randomizer : List ℕ) : Type 0 where
  kind_long : length kind ≡ 4
  randomizer_long : length randomizer ≡ 32

take-layout : (t c v : List ℕ) → IsLaidOut t c → take 4 (t ++ c ++ v) ≡ t
take-layout t c v laid = rw append_assoc (take_at t (c ++ v) 4 laid.kind_long)

randomizer-layout : (t c v : List ℕ) → IsLaidOut t c → slice_range (t ++ c ++ v) 4 36 ≡ c
randomizer-layout t c v laid =
    rw (append_assoc, drop_at t (c ++ v) 4 laid.kind_long) (take_at c v 32 laid.randomizer_long)

value-layout : (t c v : List ℕ) (i : ℕ) → IsLaidOut t c
    → slice_range (t ++ c ++ v) (36 + 32 * i) (68 + 32 * i) ≡ take 32 (drop (32 * i) v)
value-layout t c v i laid =
    let bytes : 68 + 32 * i - (36 + 32 * i) ≡ 32 = omega arith in
    let head : length (t ++ c) ≡ 36 = omega (arith, length-append t c, laid.kind_long, laid.randomizer_long) in
    let place : 36 + 32 * i ≡ length (t ++ c) + 32 * i = omega arith in
    rw (bytes, place, drop-append-add (t ++ c) v (32 * i)) refl

-- the type's number is read back
type-read : (kind : OtsKind) → from_be_bytes w32 (to_be_bytes w32 (type_number kind)) ≡ type_number kind
type-read W1 = refl
type-read W2 = refl
type-read W4 = refl
type-read W8 = refl

pub length-signature_value : (kind : OtsKind) (id : List ℕ) (q : ℕ) (seed hash : List ℕ) (i : ℕ)
    → length (signature_value kind id q seed hash i) ≡ 32
unfolding signature_value
length-signature_value kind id q seed hash i =
    length-chain (hash_prefix id q i) 0 (digit kind hash i) (secret id q seed i) (length-secret id q seed i)

laid_out : (kind : OtsKind) (c : List ℕ) → length c ≡ 32 → IsLaidOut (to_be_bytes w32 (type_number kind)) c
laid_out kind c long = record { kind_long = refl; randomizer_long = long }

pub length-signature_of : (kind : OtsKind) (id : List ℕ) (q : ℕ) (seed c message : List ℕ) → length c ≡ 32
    → length (signature_of kind id q seed c message) ≡ signature_length kind
unfolding signature_of
length-signature_of kind id q seed c message long =
    let t = to_be_bytes w32 (type_number kind) in
    let values = signature_value kind id q seed (message_hash id q c message) in
    let even : (i : ℕ) → i < chain_count kind → length (values i) ≡ 32 = λ i below. length-signature_value kind id q seed (message_hash id q c message) i in
    let v = joined values (chain_count kind) in
    let head : length t ≡ 4 = refl in
    omega (arith, head, long, length-append t c, length-append (t ++ c) v, length-joined values (chain_count kind) even, signature_length-is kind)

pub type_in-signature_of : (kind : OtsKind) (id : List ℕ) (q : ℕ) (seed c message : List ℕ) → length c ≡ 32
    → type_in (signature_of kind id q seed c message) ≡ type_number kind
unfolding signature_of type_in
type_in-signature_of kind id q seed c message long =
    ap (from_be_bytes w32) (take-layout (to_be_bytes w32 (type_number kind)) c
    (joined (signature_value kind id q seed (message_hash id q c message)) (chain_count kind)) (laid_out kind c long))
    ∙ type-read kind

-- the steps of a chain that a signature leaves lead to the chain's end
whole_chain : (kind : OtsKind) (id : List ℕ) (q : ℕ) (seed hash : List ℕ) (i : ℕ)
    → chain (hash_prefix id q i) (digit kind hash i) (greatest_digit kind - digit kind hash i)
    (signature_value kind id q seed hash i)
    ≡ public_end kind id q seed i
unfolding signature_value public_end
whole_chain kind id q seed hash i =
    let prefix = hash_prefix id q i in
    let d = digit kind hash i in
    let left = greatest_digit kind - d in
    let all : d + left ≡ greatest_digit kind = omega (arith, digit-le kind hash i) in
    let start : d ≡ 0 + d = omega arith in
    ap (λ k. chain prefix k left (chain prefix 0 d (secret id q seed i))) start
    ∙ sym (chain-add prefix 0 d left (secret id q seed i))
    ∙ ap (λ k. chain prefix 0 k (secret id q seed i)) all

pub ends_hash-ext : (kind : OtsKind) (id : List ℕ) (q : ℕ) (these those : ℕ → List ℕ)
    → ((i : ℕ) → i < chain_count kind → these i ≡ those i)
    → ends_hash kind id q these ≡ ends_hash kind id q those
unfolding ends_hash
ends_hash-ext kind id q these those same =
    ap (λ v. sha256 (hash_prefix id q d_pblc ++ v))
    (joined-ext these those (chain_count kind) same)

-- the candidate follows from the values of the chains
pub candidate_from-ext : (kind : OtsKind) (id : List ℕ) (q : ℕ) (message c : List ℕ) (these those : ℕ → List ℕ)
    → ((i : ℕ) → i < chain_count kind → these i ≡ those i)
    → candidate_from kind id q message c these ≡ candidate_from kind id q message c those
unfolding candidate_from candidate_end
candidate_from-ext kind id q message c these those same =
    let hash = message_hash id q c message in
    ends_hash-ext kind id q _ _ (λ i below. ap (chain (hash_prefix id q i) (digit kind hash i) (greatest_digit kind - digit kind hash i)) (same i below))

-- the values of a signature lead to the public value
pub candidate_from-signature_value : (kind : OtsKind) (id : List ℕ) (q : ℕ) (seed c message : List ℕ)
    → candidate_from kind id q message c (signature_value kind id q seed (message_hash id q c message))
    ≡ public_value kind id q seed
unfolding candidate_from candidate_end public_value
candidate_from-signature_value kind id q seed c message =
    ends_hash-ext kind id q _ _ (λ i below. whole_chain kind id q seed (message_hash id q c message) i)

-- the candidate of bytes in the layout of a signature
pub candidate_value-laid_out : (kind : OtsKind) (id : List ℕ) (q : ℕ) (message c : List ℕ) (y : ℕ → List ℕ) → length c ≡ 32
    → ((i : ℕ) → i < chain_count kind → length (y i) ≡ 32)
    → candidate_value kind id q message (to_be_bytes w32 (type_number kind) ++ c ++ joined y (chain_count kind))
    ≡ candidate_from kind id q message c y
unfolding candidate_value randomizer_in value_in
candidate_value-laid_out kind id q message c y long even =
    let t = to_be_bytes w32 (type_number kind) in
    let laid = laid_out kind c long in
    let v = joined y (chain_count kind) in
    ap (λ r. candidate_from kind id q message r (value_in (t ++ c ++ v))) (randomizer-layout t c v laid)
    ∙ candidate_from-ext kind id q message c _ _ (λ i below. value-layout t c v i laid ∙ joined-at y (chain_count kind) i even below)

candidate_value-signature_of : (kind : OtsKind) (id : List ℕ) (q : ℕ) (seed c message : List ℕ) → length c ≡ 32
    → candidate_value kind id q message (signature_of kind id q seed c message) ≡ public_value kind id q seed
unfolding signature_of
candidate_value-signature_of kind id q seed c message long =
    candidate_value-laid_out kind id q message c _ long (λ i below. length-signature_value kind id q seed (message_hash id q c message) i)
    ∙ candidate_from-signature_value kind id q seed c message

-- the candidate of bytes of the kind's length and type
pub candidate_of-ok : (kind : OtsKind) (id : List ℕ) (q : ℕ) (message signature : List ℕ)
    → length signature ≡ signature_length kind → type_in signature ≡ type_number kind
    → candidate_of kind id q message signature ≡ Ok (candidate_value kind id q message signature)
unfolding candidate_of
candidate_of-ok kind id q message signature long typed =
    rw (eq-eqb _ _ long, eq-eqb _ _ typed) refl

pub signatures_open : (kind : OtsKind) → SignaturesOpen kind
signatures_open kind id q seed c message long =
    candidate_of-ok kind id q message (signature_of kind id q seed c message)
    (length-signature_of kind id q seed c message long)
    (type_in-signature_of kind id q seed c message long)
    ∙ ap Ok (candidate_value-signature_of kind id q seed c message long)
