-- LM-OTS one-time signatures (RFC 8554, section 4) over SHA-256 with n = 32, as functions on lists
-- of bytes. Section numbers are the RFC's. I is the tree's identifier of 16 bytes, q the leaf's
-- number, SEED the secret of 32 bytes, C the randomizer of 32 bytes.
use Rattle.std.specs.Prelude.{◌≡◌, ℕ, zero, suc, ◌+◌, ◌-◌, ◌*◌, ◌/◌, ◌%◌, ◌^◌, ◌==◌, if◌then◌else◌, List, [], ◌∷◌, ◌++◌, length, bit_and, slice_index, slice_range, Result, Ok, Err, Option, Some, None}
use Rattle.std.specs.Int.{w16, w32, to_be_bytes, from_be_bytes}
use Rattle.sha2.specs.Sha256.{sha256}
use Rattle.lms_ots.specs.declared.kind.OtsKind.{OtsKind}
use Rattle.lms_ots.specs.declared.kind.OtsKind.TheVariants.{W1, W2, W4, W8}
use Rattle.lms_ots.specs.declared.kind.OtsFault.{OtsFault}
use Rattle.lms_ots.specs.declared.kind.OtsFault.TheVariants.{WrongLength, WrongType}

-- ---- the parameter sets (4.1, table 1)

-- the type's number
abbrev pub type_number : OtsKind → ℕ
type_number W1 = 1
type_number W2 = 2
type_number W4 = 3
type_number W8 = 4

-- w: the bits of a digit
abbrev pub width : OtsKind → ℕ
width W1 = 1
width W2 = 2
width W4 = 4
width W8 = 8

-- p: how many chains a key has
abbrev pub chain_count : OtsKind → ℕ
chain_count W1 = 265
chain_count W2 = 133
chain_count W4 = 67
chain_count W8 = 34

-- ls: by how many bits the checksum is shifted to the left
abbrev pub checksum_shift : OtsKind → ℕ
checksum_shift W1 = 7
checksum_shift W2 = 6
checksum_shift W4 = 4
checksum_shift W8 = 0

-- sig_len: the bytes of a signature
abbrev pub signature_length : OtsKind → ℕ
signature_length W1 = 8516
signature_length W2 = 4292
signature_length W4 = 2180
signature_length W8 = 1124

-- 2^w - 1: the greatest digit, and the steps of a whole chain
abbrev pub greatest_digit : OtsKind → ℕ
greatest_digit kind = 2 ^ width kind - 1

-- the kind of this number
abbrev pub kind_of : ℕ → Option OtsKind
kind_of number =
    if number == 1 then Some W1 else (if number == 2 then Some W2
    else (if number == 3 then Some W4 else (if number == 4 then Some W8 else None)))

-- the number in the four bytes at a place
abbrev pub number_at : ℕ → List ℕ → ℕ
number_at place bytes = from_be_bytes w32 (slice_range bytes place (place + 4))

-- ---- digits (3.1.3, 4.4, 4.5)

-- coef(S, i, w) (3.1.3)
abbrev pub coef : List ℕ → ℕ → ℕ → ℕ
coef s i w = bit_and (2 ^ w - 1) (slice_index s (i * w / 8) / 2 ^ (8 - (w * (i % (8 / w)) + w)))

-- the sum of 2^w - 1 - coef(S, i, w) for each i below the count (4.4)
unfoldable pub complement_sum : List ℕ → ℕ → ℕ → ℕ
complement_sum s w zero = 0
complement_sum s w (suc n) = complement_sum s w n + (2 ^ w - 1 - coef s n w)

-- Cksm(S) of the 32 bytes of a hash (4.4)
unfoldable pub checksum : OtsKind → List ℕ → ℕ
checksum kind s = complement_sum s (width kind) (256 / width kind) * 2 ^ checksum_shift kind

-- Q || Cksm(Q) (4.5)
unfoldable pub with_checksum : OtsKind → List ℕ → List ℕ
with_checksum kind hash = hash ++ to_be_bytes w16 (checksum kind hash)

-- digit i of the hash Q: coef(Q || Cksm(Q), i, w) (4.5)
unfoldable pub digit : OtsKind → List ℕ → ℕ → ℕ
digit kind hash i = coef (with_checksum kind hash) i (width kind)

-- ---- what is hashed (4.3, 4.5, 4.6, 7.1)

-- D_PBLC, before the ends of a key's chains
abbrev pub d_pblc : ℕ
d_pblc = 0x8080

-- D_MESG, before a message
abbrev pub d_mesg : ℕ
d_mesg = 0x8181

-- I || u32str(q) || u16str(tag), with which each hash begins: in chain i the tag is i
unfoldable pub hash_prefix : List ℕ → ℕ → ℕ → List ℕ
hash_prefix id q tag = id ++ to_be_bytes w32 q ++ to_be_bytes w16 tag

-- ---- chains (4.3, 4.5, 4.6)

-- one step: H(I || u32str(q) || u16str(i) || u8str(j) || tmp), from what the chain's hashes begin with
unfoldable pub chain_step : List ℕ → ℕ → List ℕ → List ℕ
chain_step prefix j value = sha256 (prefix ++ j ∷ value)

-- the value after the steps j, j + 1, .., j + n - 1
unfoldable pub chain : List ℕ → ℕ → ℕ → List ℕ → List ℕ
chain prefix j zero value = value
chain prefix j (suc n) value = chain_step prefix (j + n) (chain prefix j n value)

-- x[i]: H(I || u32str(q) || u16str(i) || u8str(0xff) || SEED) (appendix A)
unfoldable pub secret : List ℕ → ℕ → List ℕ → ℕ → List ℕ
secret id q seed i = chain_step (hash_prefix id q i) 0xff seed

-- the values of chains 0, 1, .., n - 1, joined
unfoldable pub joined : (ℕ → List ℕ) → ℕ → List ℕ
joined values zero = []
joined values (suc n) = joined values n ++ values n

-- H(I || u32str(q) || u16str(D_PBLC) || y[0] || .. || y[p-1]) for the ends y of the chains
unfoldable pub ends_hash : OtsKind → List ℕ → ℕ → (ℕ → List ℕ) → List ℕ
ends_hash kind id q ends =
    sha256 (hash_prefix id q d_pblc ++ joined ends (chain_count kind))

-- ---- the public value (4.3)

-- y[i]: x[i] after all the steps of its chain
unfoldable pub public_end : OtsKind → List ℕ → ℕ → List ℕ → ℕ → List ℕ
public_end kind id q seed i =
    chain (hash_prefix id q i) 0 (greatest_digit kind) (secret id q seed i)

-- K
unfoldable pub public_value : OtsKind → List ℕ → ℕ → List ℕ → List ℕ
public_value kind id q seed = ends_hash kind id q (public_end kind id q seed)

-- ---- signatures (4.5)

-- Q: H(I || u32str(q) || u16str(D_MESG) || C || message)
unfoldable pub message_hash : List ℕ → ℕ → List ℕ → List ℕ → List ℕ
message_hash id q c message = sha256 (hash_prefix id q d_mesg ++ c ++ message)

-- y[i]: x[i] after as many steps as digit i of the hash says
unfoldable pub signature_value : OtsKind → List ℕ → ℕ → List ℕ → List ℕ → ℕ → List ℕ
signature_value kind id q seed hash i =
    chain (hash_prefix id q i) 0 (digit kind hash i) (secret id q seed i)

-- u32str(type) || C || y[0] || .. || y[p-1]
unfoldable pub signature_of : OtsKind → List ℕ → ℕ → List ℕ → List ℕ → List ℕ → List ℕ
signature_of kind id q seed c message =
    to_be_bytes w32 (type_number kind) ++ c
    ++ joined (signature_value kind id q seed (message_hash id q c message)) (chain_count kind)

-- ---- candidates (4.6)

-- the type, C and y[i] in the bytes of a signature
unfoldable pub type_in : List ℕ → ℕ
type_in signature = number_at 0 signature

unfoldable pub randomizer_in : List ℕ → List ℕ
randomizer_in signature = slice_range signature 4 36

unfoldable pub value_in : List ℕ → ℕ → List ℕ
value_in signature i = slice_range signature (36 + 32 * i) (68 + 32 * i)

-- z[i]: y[i] after the steps of its chain that are left
unfoldable pub candidate_end : OtsKind → List ℕ → ℕ → List ℕ → (ℕ → List ℕ) → ℕ → List ℕ
candidate_end kind id q hash y i =
    chain (hash_prefix id q i) (digit kind hash i) (greatest_digit kind - digit kind hash i) (y i)

-- Kc of a message, from C and y[i]
unfoldable pub candidate_from : OtsKind → List ℕ → ℕ → List ℕ → List ℕ → (ℕ → List ℕ) → List ℕ
candidate_from kind id q message c y =
    ends_hash kind id q (candidate_end kind id q (message_hash id q c message) y)

-- Kc of a signature that has the kind's length and type
unfoldable pub candidate_value : OtsKind → List ℕ → ℕ → List ℕ → List ℕ → List ℕ
candidate_value kind id q message signature =
    candidate_from kind id q message (randomizer_in signature) (value_in signature)

-- Kc, or why the bytes are no signature of the kind
unfoldable pub candidate_of : OtsKind → List ℕ → ℕ → List ℕ → List ℕ → Result (List ℕ) OtsFault
candidate_of kind id q message signature =
    if length signature == signature_length kind
    then (if type_in signature == type_number kind
    then Ok (candidate_value kind id q message signature)
    else Err (WrongType (type_in signature)))
    else Err (WrongLength (length signature))

-- every signature opens to the public value of its key
abbrev pub SignaturesOpen : OtsKind → Type 0
SignaturesOpen kind =
    (id : List ℕ) (q : ℕ) (seed c message : List ℕ) → length c ≡ 32
    → candidate_of kind id q message (signature_of kind id q seed c message)
    ≡ Ok (public_value kind id q seed)
