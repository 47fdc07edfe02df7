-- Digits, chains and the values of a key: their bounds, their lengths, and how they join.
use Rattle.std.proofs.Common.{◌≡◌, ℕ, zero, suc, ◌+◌, ◌-◌, ◌*◌, ◌/◌, ◌%◌, ◌^◌, ◌<◌, ◌≤◌, List, [], ◌∷◌, ◌++◌, length, take, drop, refl, sym, ◌∙◌, ap, arith, length-append, length-drop, append_assoc, append-nil, add-one, inl, inr}
use Rattle.std.proofs.lemmas.List.{take-append-le, drop_at, drop-append-le}
use Rattle.std.proofs.lemmas.Nat.{and_le_l}
use Rattle.std.proofs.lemmas.Bool.{cases_lt}
use Rattle.std.proofs.Math.Nat.{add-suc, mod-eq_of_lt}
use Rattle.std.proofs.Math.Seq.{take-length}
use Rattle.sha2.proofs.Facts256.{length-sha256}
use Rattle.lms_ots.specs.declared.kind.OtsKind.{OtsKind}
use Rattle.lms_ots.specs.declared.kind.OtsKind.TheVariants.{W1, W2, W4, W8}
use Rattle.lms_ots.specs.Ots.{chain, chain_count, hash_prefix, checksum, checksum_shift, chain_step, coef, complement_sum, digit, ends_hash, greatest_digit, joined, message_hash, candidate_end, public_value, secret, signature_length, signature_value, value_in, width, with_checksum}

-- the digits of 0x1234 that RFC 8554 gives as examples (3.1.3)
coef-example_bit : coef (0x12 ∷ 0x34 ∷ []) 7 1 ≡ 0
coef-example_bit = refl

coef-example_nibble : coef (0x12 ∷ 0x34 ∷ []) 0 4 ≡ 1
coef-example_nibble = refl

-- the kind's bytes of a signature: the type, C and a value for each chain
pub signature_length-is : (kind : OtsKind) → signature_length kind ≡ 36 + 32 * chain_count kind
signature_length-is W1 = refl
signature_length-is W2 = refl
signature_length-is W4 = refl
signature_length-is W8 = refl

pub digit-le : (kind : OtsKind) (hash : List ℕ) (i : ℕ) → digit kind hash i ≤ greatest_digit kind
unfolding digit
digit-le kind hash i = and_le_l _ _

-- the steps of a chain in two goes
pub chain-add : (prefix : List ℕ) (j m n : ℕ) (value : List ℕ)
    → chain prefix j (m + n) value ≡ chain prefix (j + m) n (chain prefix j m value)
unfolding chain
chain-add prefix j m zero value = ap (λ k. chain prefix j k value) (omega arith)
chain-add prefix j m (suc n) value =
    let before = chain-add prefix j m n value in
    let place : j + (m + n) ≡ j + m + n = omega arith in
    rw (add-suc m n) (rw (before, place) refl)

pub length-chain_step : (prefix : List ℕ) (j : ℕ) (value : List ℕ) → length (chain_step prefix j value) ≡ 32
unfolding chain_step
length-chain_step prefix j value = length-sha256 _

pub length-chain : (prefix : List ℕ) (j n : ℕ) (value : List ℕ) → length value ≡ 32
    → length (chain prefix j n value) ≡ 32
unfolding chain
length-chain prefix j zero value long = long
length-chain prefix j (suc n) value long = length-chain_step prefix (j + n) _

pub length-secret : (id : List ℕ) (q : ℕ) (seed : List ℕ) (i : ℕ) → length (secret id q seed i) ≡ 32
unfolding secret
length-secret id q seed i = length-chain_step _ _ _

pub length-message_hash : (id : List ℕ) (q : ℕ) (c message : List ℕ) → length (message_hash id q c message) ≡ 32
unfolding message_hash
length-message_hash id q c message = length-sha256 _

pub length-public_value : (kind : OtsKind) (id : List ℕ) (q : ℕ) (seed : List ℕ)
    → length (public_value kind id q seed) ≡ 32
unfolding public_value ends_hash
length-public_value kind id q seed = length-sha256 _

-- a list taken whole
pub take_whole : (xs : List ℕ) (n : ℕ) → length xs ≡ n → take n xs ≡ xs
take_whole xs n long = ap (λ k. take k xs) (sym long) ∙ take-length xs

pub length-joined : (values : ℕ → List ℕ) (n : ℕ) → ((i : ℕ) → i < n → length (values i) ≡ 32)
    → length (joined values n) ≡ 32 * n
unfolding joined
length-joined values zero even = refl
length-joined values (suc n) even =
    omega (arith, length-append (joined values n) (values n), length-joined values n (λ i lt. even i (omega arith)), even n (omega arith))

-- value i of those that are joined
pub joined-at : (values : ℕ → List ℕ) (n i : ℕ) → ((k : ℕ) → k < n → length (values k) ≡ 32) → i < n
    → take 32 (drop (32 * i) (joined values n)) ≡ values i
unfolding joined
joined-at values zero i even below = absurd (omega arith)
joined-at values (suc n) i even below =
    let before : (k : ℕ) → k < n → length (values k) ≡ 32 = λ k lt. even k (omega arith) in
    let long = length-joined values n before in
    elim (cases_lt i n) [
      | inl lt ↦
          let inside : 32 * i ≤ length (joined values n) = omega arith in
          let room : 32 ≤ length (drop (32 * i) (joined values n)) = omega (arith, length-drop (32 * i) (joined values n)) in
          rw (drop-append-le (32 * i) (joined values n) (values n) inside)
          (take-append-le 32 (drop (32 * i) (joined values n)) (values n) room ∙ joined-at values n i before lt)
      | inr ge ↦
          let same : i ≡ n = omega arith in
          let place : length (joined values n) ≡ 32 * i = omega arith in
          rw (drop_at (joined values n) (values n) (32 * i) place, same) (take_whole (values n) 32 (even n (omega arith)))
    ]

-- the joined values follow from the single ones
pub joined-ext : (these those : ℕ → List ℕ) (n : ℕ) → ((i : ℕ) → i < n → these i ≡ those i)
    → joined these n ≡ joined those n
unfolding joined
joined-ext these those zero same = refl
joined-ext these those (suc n) same =
    let before = joined-ext these those n (λ i lt. same i (omega arith)) in
    let last : these n ≡ those n = same n (omega arith) in
    rw (before, last) refl

-- what is fed to a hasher: nothing yet, and one value more
pub joined-none : (head : List ℕ) (values : ℕ → List ℕ) → head ++ joined values 0 ≡ head
unfolding joined
joined-none head values = append-nil head

pub joined-more : (head : List ℕ) (values : ℕ → List ℕ) (n : ℕ) (value : List ℕ) → value ≡ values n
    → head ++ joined values (n + 1) ≡ head ++ joined values n ++ value
unfolding joined
joined-more head values n value same = rw (add-one, append_assoc, same) refl

complement_sum-le : (s : List ℕ) (w n : ℕ) → complement_sum s w n ≤ n * (2 ^ w - 1)
unfolding complement_sum
complement_sum-le s w zero = omega arith
complement_sum-le s w (suc n) =
    let before = complement_sum-le s w n in
    grind arith

-- the checksum is not cut off where it is taken as 16 bits
pub checksum-fits : (kind : OtsKind) (s : List ℕ) → checksum kind s < 2 ^ 16
unfolding checksum
checksum-fits W1 s = omega (arith, complement_sum-le s 1 256)
checksum-fits W2 s = omega (arith, complement_sum-le s 2 128)
checksum-fits W4 s = omega (arith, complement_sum-le s 4 64)
checksum-fits W8 s = omega (arith, complement_sum-le s 8 32)

pub checksum-is : (kind : OtsKind) (s : List ℕ) (sum n shift : ℕ) → sum ≡ complement_sum s (width kind) n
    → n ≡ 256 / width kind → shift ≡ checksum_shift kind → sum * 2 ^ shift % 2 ^ 16 ≡ checksum kind s
unfolding checksum
checksum-is kind s sum n shift summed all shifted =
    rw (summed, all, shifted) (mod-eq_of_lt (checksum-fits kind s))

-- a value from the digits that are laid out once, in a signature and of a candidate
pub signature_value-laid_out : (kind : OtsKind) (id : List ℕ) (q : ℕ) (seed hash digits : List ℕ) (i : ℕ)
    → digits ≡ with_checksum kind hash
    → chain (hash_prefix id q i) 0 (coef digits i (width kind)) (secret id q seed i)
    ≡ signature_value kind id q seed hash i
unfolding signature_value digit
signature_value-laid_out kind id q seed hash digits i laid =
    ap (λ d. chain (hash_prefix id q i) 0 (coef d i (width kind)) (secret id q seed i)) laid

pub candidate_end-laid_out : (kind : OtsKind) (id : List ℕ) (q : ℕ) (hash digits value : List ℕ) (y : ℕ → List ℕ) (i : ℕ)
    → digits ≡ with_checksum kind hash → value ≡ y i
    → chain (hash_prefix id q i) (coef digits i (width kind)) (greatest_digit kind - coef digits i (width kind)) value
    ≡ candidate_end kind id q hash y i
unfolding candidate_end digit
candidate_end-laid_out kind id q hash digits value y i laid same = rw (laid, same) refl

pub value_in-range : (signature : List ℕ) (i at : ℕ) → at ≡ 36 + 32 * i
    → take (at + 32 - at) (drop at signature) ≡ value_in signature i
unfolding value_in
value_in-range signature i at place =
    let bytes : at + 32 - at ≡ 68 + 32 * i - (36 + 32 * i) = omega arith in
    rw (bytes, place) refl
