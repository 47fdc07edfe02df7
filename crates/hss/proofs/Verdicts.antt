-- What the relation `HssVerifies` says of the parts of a signature, and when it holds.
use Rattle.std.proofs.Common.{◌≡◌, ℕ, ◌+◌, ◌-◌, ◌<◌, ◌≤◌, Bool, true, false, List, ◌++◌, length, take, drop, get_or, Option, Some, None, Result, Ok, Err, refl, sym, ap, subst, ◌∙◌, arith, length-append, append_assoc, if◌then◌else◌, eq-eqb}
use Rattle.std.specs.Prelude.{slice_range}
use Rattle.std.specs.Int.{w32, to_be_bytes}
use Rattle.std.proofs.lemmas.Bool.{le-ltb}
use Rattle.std.proofs.lemmas.List.{drop_at, take_all, length-drop}
use Rattle.lms_ots.specs.Ots as ots
use Rattle.lms_tree.specs.declared.key.PublicKey.{PublicKey}
use Rattle.lms_tree.specs.declared.kind.KeyFault.{KeyFault}
use Rattle.lms_tree.specs.Keys.{AreKey}
use Rattle.lms_tree.specs.Kinds.{signature_length}
use Rattle.lms_tree.specs.Lms as lms
use Rattle.lms_tree.specs.Lms.{Verifies}
use Rattle.lms_tree.proofs.Keys.{key-again, key-are}
use Rattle.lms_tree.proofs.Parts.{four_parts, middle, number-spelled, part-below}
use Rattle.lms_tree.proofs.Verdicts.{verifies-length}
use Rattle.hss.specs.Keys.{TwoLevelKey}
use Rattle.hss.specs.Keys.{is_in_profile}
use Rattle.hss.specs.Hss.{HssVerifies, both, bottom_in, in_profile, key_end, key_part, key_place, signature_bytes, top_in, verdict_of}
use Rattle.hss.proofs.Keys.{length-key}

-- the parts of a good signature, as they are read
pub record Parts (key : TwoLevelKey) (message signature : List ℕ) : Type 0 where
  pub bottom_key : PublicKey
  pub long : length signature ≡ key_end key + signature_length bottom_key.tree bottom_key.ots
  pub levels : ots.number_at 0 signature ≡ 1
  pub read : in_profile (lms.key_in (key_part key signature)) ≡ Some bottom_key
  pub signs_key : Verifies key.top (key_part key signature) (top_in key signature)
  pub signs_message : Verifies bottom_key message (bottom_in key signature)

profile_kept : (key : PublicKey) → is_in_profile key.ots ≡ true → in_profile (Ok key) ≡ Some key
profile_kept key e = rw e refl

-- ---- the parts of what verifies

pub verifies-parts : (key : TwoLevelKey) (message signature : List ℕ) → HssVerifies key message signature
    → Parts key message signature
unfolding signature_bytes
verifies-parts key message signature good =
    let one = to_be_bytes w32 1 in
    let bytes = lms.key_bytes good.bottom_key in
    let place = key_place key in
    let top_long : length good.top ≡ signature_length key.top.tree key.top.ots = verifies-length key.top bytes good.top good.signs_key in
    let bottom_long = verifies-length good.bottom_key message good.bottom good.signs_message in
    let key_long : length bytes ≡ 56 = length-key good.bottom_key good.is_key.id good.is_key.root in
    let end = key_end key in
    let n = length signature in
    let spelled : signature ≡ one ++ good.top ++ bytes ++ good.bottom = good.spelled in
    let front : signature ≡ one ++ good.top ++ (bytes ++ good.bottom) = spelled ∙ append_assoc (one ++ good.top) bytes good.bottom in
    let long : n ≡ end + length good.bottom =
    ap length spelled ∙ omega (arith, length-append (one ++ good.top ++ bytes) good.bottom, length-append (one ++ good.top) bytes, length-append one good.top) in
    let top_is : top_in key signature ≡ good.top =
    ap (λ s. slice_range s 4 place) front ∙ middle one good.top (bytes ++ good.bottom) 4 place refl (omega arith) in
    let key_is : key_part key signature ≡ bytes =
    ap (λ s. slice_range s place (place + 56)) spelled ∙ middle (one ++ good.top) bytes good.bottom place (place + 56) (omega (arith, length-append one good.top)) (omega arith) in
    let behind : drop end signature ≡ good.bottom =
    ap (drop end) spelled ∙ drop_at (one ++ good.top ++ bytes) good.bottom end (omega (arith, length-append (one ++ good.top) bytes, length-append one good.top)) in
    let bottom_is : bottom_in key signature ≡ good.bottom =
    take_all (n - end) (drop end signature) (omega (arith, length-drop end signature)) ∙ behind in
    record {
      bottom_key = good.bottom_key;
      long = omega (arith, long, bottom_long);
      levels = ap (ots.number_at 0) spelled;
      read = ap (λ p. in_profile (lms.key_in p)) key_is ∙ ap in_profile (key-again bytes good.bottom_key good.is_key) ∙ profile_kept good.bottom_key good.in_profile;
      signs_key = rw (key_is, top_is) good.signs_key;
      signs_message = rw bottom_is good.signs_message;
    }

-- the length of what verifies
pub hss-length : (key : TwoLevelKey) (message signature : List ℕ) → (good : HssVerifies key message signature)
    → length signature ≡ 60 + signature_length key.top.tree key.top.ots + signature_length good.bottom_key.tree good.bottom_key.ots
unfolding signature_bytes
hss-length key message signature good =
    let one = to_be_bytes w32 1 in
    let bytes = lms.key_bytes good.bottom_key in
    let top_long = verifies-length key.top bytes good.top good.signs_key in
    let bottom_long = verifies-length good.bottom_key message good.bottom good.signs_message in
    let key_long : length bytes ≡ 56 = length-key good.bottom_key good.is_key.id good.is_key.root in
    ap length good.spelled
    ∙ omega (arith, top_long, bottom_long, key_long, length-append (one ++ good.top ++ bytes) good.bottom, length-append (one ++ good.top) bytes, length-append one good.top)

-- ---- what has these parts verifies

abbrev there : PublicKey → Option PublicKey
there k = Some k

abbrev right : PublicKey → Result PublicKey KeyFault
right k = Ok k

there_is : (a b : PublicKey) → there a ≡ there b → a ≡ b
there_is a b e = cc

-- the key was read, and is in the profile
record IsRead (r : Result PublicKey KeyFault) (k : PublicKey) : Type 0 where
  pub is : r ≡ Ok k
  pub profile : is_in_profile k.ots ≡ true

picked : (key k : PublicKey) (b : Bool) → is_in_profile key.ots ≡ b → (if b then Some key else None) ≡ there k → IsRead (Ok key) k
picked key k true is e =
    let same : key ≡ k = there_is key k e in
    record { is = ap right same; profile = ap (λ k. is_in_profile k.ots) (sym same) ∙ is }
picked key k false is e = cc

profile_ok : (r : Result PublicKey KeyFault) (k : PublicKey) → in_profile r ≡ there k → IsRead r k
profile_ok (Ok key) k e = picked key k (is_in_profile key.ots) refl e
profile_ok (Err fault) k e = cc

pub parts-verify : (key : TwoLevelKey) (message signature : List ℕ) → ((k : ℕ) → get_or signature k 0 < 256)
    → is_in_profile key.top.ots ≡ true → Parts key message signature → HssVerifies key message signature
unfolding signature_bytes
parts-verify key message signature below profile parts =
    let place = key_place key in
    let n = length signature in
    let top = top_in key signature in
    let part = key_part key signature in
    let read = profile_ok (lms.key_in part) parts.bottom_key parts.read in
    let are : AreKey part parts.bottom_key = key-are part parts.bottom_key (part-below signature place (place + 56) below) read.is in
    let long = parts.long in
    let one : to_be_bytes w32 1 ≡ take 4 signature = ap (to_be_bytes w32) (sym parts.levels) ∙ number-spelled signature 0 below (omega arith) in
    let spelled : signature ≡ to_be_bytes w32 1 ++ top ++ part ++ bottom_in key signature =
    four_parts signature _ _ _ _ 4 place (place + 56) n (omega arith) (omega arith) (omega arith) refl one refl refl refl in
    record {
      top = top;
      bottom_key = parts.bottom_key;
      bottom = bottom_in key signature;
      is_key = record { spelled = refl; id = are.id; root = are.root };
      key_in_profile = profile;
      in_profile = read.profile;
      spelled = spelled ∙ ap (λ p. to_be_bytes w32 1 ++ top ++ p ++ bottom_in key signature) are.spelled;
      signs_key = rw (← are.spelled) parts.signs_key;
      signs_message = parts.signs_message;
    }

-- ---- the verdict

-- the one bottom key that a signature has
pub bottom-same : (key : TwoLevelKey) (message signature : List ℕ) (bottom : PublicKey) → (parts : Parts key message signature)
    → in_profile (lms.key_in (key_part key signature)) ≡ Some bottom → parts.bottom_key ≡ bottom
bottom-same key message signature bottom parts read = there_is parts.bottom_key bottom (sym parts.read ∙ read)

pub bottom-verifies : (key : TwoLevelKey) (message signature : List ℕ) (bottom : PublicKey) → Parts key message signature
    → in_profile (lms.key_in (key_part key signature)) ≡ Some bottom
    → Verifies bottom message (bottom_in key signature)
bottom-verifies key message signature bottom parts read =
    subst (λ k. Verifies k message (bottom_in key signature)) (bottom-same key message signature bottom parts read) parts.signs_message

-- what is found of both signatures is the verdict, where all else of it is as it should be
pub verdict-reached : (key : TwoLevelKey) (message signature : List ℕ) (bottom : PublicKey)
    → key_end key ≤ length signature → ots.number_at 0 signature ≡ 1
    → in_profile (lms.key_in (key_part key signature)) ≡ Some bottom
    → length signature ≡ key_end key + signature_length bottom.tree bottom.ots
    → both (lms.verdict_of key.top (key_part key signature) (top_in key signature)) (lms.verdict_of bottom message (bottom_in key signature))
    ≡ verdict_of key message signature
unfolding verdict_of
verdict-reached key message signature bottom enough levels read long =
    rw (
      le-ltb (length signature) (key_end key) enough,
      eq-eqb (ots.number_at 0 signature) 1 levels,
      read,
      eq-eqb (length signature) (key_end key + signature_length bottom.tree bottom.ots) long,
    ) refl
