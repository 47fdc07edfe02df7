-- Two-level HSS keys and signatures (RFC 8554, section 6, with L = 2) over LMS with SHA-256 and m = 32, as functions on lists
-- of bytes. Section numbers are the RFC's. The one-time signatures of both levels are of W4 or W8.
use Rattle.std.specs.Prelude.{◌≡◌, ℕ, ◌+◌, ◌==◌, nat_lt, true, if◌then◌else◌, List, ◌++◌, length, slice_range, Option, Some, None, Result, Ok, Err}
use Rattle.std.specs.Int.{w32, to_be_bytes}
use Rattle.lms_ots.specs.Ots as ots
use Rattle.lms_tree.specs.declared.key.PublicKey.{PublicKey}
use Rattle.lms_tree.specs.declared.kind.KeyFault.{KeyFault}
use Rattle.lms_tree.specs.declared.kind.KeyFault.TheVariants as lms_fault
use Rattle.lms_tree.specs.declared.kind.SigFault.{SigFault}
use Rattle.lms_tree.specs.Keys.{AreKey}
use Rattle.lms_tree.specs.Kinds.{signature_length}
use Rattle.lms_tree.specs.Lms as lms
use Rattle.lms_tree.specs.Lms.{Verifies}
use Rattle.hss.specs.Keys.{TwoLevelKey, is_in_profile}
use Rattle.hss.specs.declared.key.HssKeyFault.{HssKeyFault}
use Rattle.hss.specs.declared.key.HssKeyFault.TheVariants as key_fault
use Rattle.hss.specs.declared.verifying.HssFault.{HssFault}
use Rattle.hss.specs.declared.verifying.HssFault.TheVariants as fault

-- ---- public keys (6.1)

-- u32str(L) || pub[0]
unfoldable pub key_bytes : TwoLevelKey → List ℕ
key_bytes key = to_be_bytes w32 2 ++ lms.key_bytes key.top

-- The bytes are the key's, whose parts have their lengths and whose one-time signatures are of W4 or W8.
pub record AreHssKey (bytes : List ℕ) (key : TwoLevelKey) : Type 0 where
  pub spelled : bytes ≡ key_bytes key
  pub id : length key.top.id ≡ 16
  pub root : length key.top.root ≡ 32
  pub in_profile : is_in_profile key.top.ots ≡ true

-- the two-level key with this top key
abbrev pub key_over : Result PublicKey KeyFault → Result TwoLevelKey HssKeyFault
key_over (Ok top) =
    if is_in_profile top.ots then Ok (record { top = top }) else Err (key_fault.OtsType (ots.type_number top.ots))
key_over (Err (lms_fault.Length found)) = Err (key_fault.Length found)
key_over (Err (lms_fault.TreeType found)) = Err (key_fault.TreeType found)
key_over (Err (lms_fault.OtsType found)) = Err (key_fault.OtsType found)

-- the key in these bytes, or why they are none
unfoldable pub key_in : List ℕ → Result TwoLevelKey HssKeyFault
key_in bytes =
    if length bytes == 60 then
    (if ots.number_at 0 bytes == 2 then key_over (lms.key_in (slice_range bytes 4 60))
    else Err (key_fault.Levels (ots.number_at 0 bytes)))
    else Err (key_fault.Length (length bytes))

-- ---- what verifies (6.3)

-- u32str(Nspk) || sig[0] || pub[1] || sig[1], where Nspk = L - 1
unfoldable pub signature_bytes : List ℕ → PublicKey → List ℕ → List ℕ
signature_bytes top bottom_key bottom = to_be_bytes w32 1 ++ top ++ lms.key_bytes bottom_key ++ bottom

-- the bytes are a signature of the message under the key: the top key signs the public key of a bottom tree, and this signs
-- the message
pub record HssVerifies (key : TwoLevelKey) (message signature : List ℕ) : Type 0 where
  pub top : List ℕ
  pub bottom_key : PublicKey
  pub bottom : List ℕ
  pub is_key : AreKey (lms.key_bytes bottom_key) bottom_key
  pub key_in_profile : is_in_profile key.top.ots ≡ true
  pub in_profile : is_in_profile bottom_key.ots ≡ true
  pub spelled : signature ≡ signature_bytes top bottom_key bottom
  pub signs_key : Verifies key.top (lms.key_bytes bottom_key) top
  pub signs_message : Verifies bottom_key message bottom

-- ---- verifying: the parts of a signature, whose places follow from the top key's kinds

-- where the bottom key begins
abbrev pub key_place : TwoLevelKey → ℕ
key_place key = 4 + signature_length key.top.tree key.top.ots

-- where it ends, and the bottom tree's signature begins
abbrev pub key_end : TwoLevelKey → ℕ
key_end key = key_place key + 56

abbrev pub top_in : TwoLevelKey → List ℕ → List ℕ
top_in key signature = slice_range signature 4 (key_place key)

abbrev pub key_part : TwoLevelKey → List ℕ → List ℕ
key_part key signature = slice_range signature (key_place key) (key_end key)

abbrev pub bottom_in : TwoLevelKey → List ℕ → List ℕ
bottom_in key signature = slice_range signature (key_end key) (length signature)

-- the key, where its one-time signatures are of W4 or W8
abbrev pub in_profile : Result PublicKey KeyFault → Option PublicKey
in_profile (Ok key) = if is_in_profile key.ots then Some key else None
in_profile (Err fault) = None

-- what both signatures are found to be
abbrev pub both : Result (Unit {0}) SigFault → Result (Unit {0}) SigFault → Result (Unit {0}) HssFault
both (Err wrong) bottom = Err (fault.Top wrong)
both (Ok done) (Err wrong) = Err (fault.Bottom wrong)
both (Ok done) (Ok again) = Ok tt

-- the verdict on a signature with this bottom key
abbrev pub verdict_with : TwoLevelKey → List ℕ → List ℕ → Option PublicKey → Result (Unit {0}) HssFault
verdict_with key message signature None = Err fault.KeyType
verdict_with key message signature (Some bottom) =
    if length signature == key_end key + signature_length bottom.tree bottom.ots then
    both (lms.verdict_of key.top (key_part key signature) (top_in key signature))
    (lms.verdict_of bottom message (bottom_in key signature))
    else Err (fault.Length (length signature))

-- whether the signature is good under the key, or the first reason why it is not
unfoldable pub verdict_of : TwoLevelKey → List ℕ → List ℕ → Result (Unit {0}) HssFault
verdict_of key message signature =
    if nat_lt (length signature) (key_end key) then Err (fault.Length (length signature))
    else (if ots.number_at 0 signature == 1
    then verdict_with key message signature (in_profile (lms.key_in (key_part key signature)))
    else Err (fault.Levels (ots.number_at 0 signature)))
