-- Bytes are read as a two-level key exactly where they are its 60 bytes.
use Rattle.std.proofs.Common.{◌≡◌, ℕ, ◌<◌, Bool, true, false, eqb, List, ◌++◌, length, take, drop, get_or, Result, Ok, Err, refl, sym, ap, ◌∙◌, arith, eq-eqb, length-append, if◌then◌else◌}
use Rattle.std.specs.Prelude.{IfOk, is_ok, slice_range}
use Rattle.std.proofs.lemmas.Bool.{eqb-true}
use Rattle.std.specs.Int.{w32, to_be_bytes}
use Rattle.std.proofs.lemmas.List.{take_all, length-drop, take-append-drop}
use Rattle.lms_ots.specs.Ots as ots
use Rattle.lms_tree.specs.declared.key.PublicKey.{PublicKey}
use Rattle.lms_tree.specs.declared.kind.KeyFault.{KeyFault}
use Rattle.lms_tree.specs.declared.kind.KeyFault.TheVariants as lms_fault
use Rattle.lms_tree.specs.Lms as lms
use Rattle.lms_tree.proofs.Keys as lms_keys
use Rattle.lms_tree.proofs.Parts.{number-spelled, part-below}
use Rattle.hss.specs.declared.key.HssKeyFault.{HssKeyFault}
use Rattle.hss.specs.declared.key.HssKeyFault.TheVariants as key_fault
use Rattle.hss.specs.Keys.{TwoLevelKey, is_in_profile}
use Rattle.hss.specs.Hss.{AreHssKey, key_bytes, key_in, key_over}

-- ---- what is read

over_kept : (bytes : List ℕ) (top : PublicKey) (b : Bool) → bytes ≡ to_be_bytes w32 2 ++ lms.key_bytes top
    → IfOk (if b then Ok (record { top = top }) else Err (key_fault.OtsType (ots.type_number top.ots))) (λ key. bytes ≡ key_bytes key)
unfolding key_bytes
over_kept bytes top true e = e
over_kept bytes top false e = tt

over_spelled : (bytes part : List ℕ) (r : Result PublicKey KeyFault) → IfOk r (λ key. part ≡ lms.key_bytes key)
    → bytes ≡ to_be_bytes w32 2 ++ part → IfOk (key_over r) (λ key. bytes ≡ key_bytes key)
over_spelled bytes part (Ok top) spelled is = over_kept bytes top (is_in_profile top.ots) (is ∙ ap (λ t. to_be_bytes w32 2 ++ t) spelled)
over_spelled bytes part (Err (lms_fault.Length n)) spelled is = tt
over_spelled bytes part (Err (lms_fault.TreeType n)) spelled is = tt
over_spelled bytes part (Err (lms_fault.OtsType n)) spelled is = tt

-- 60 bytes that begin with 2 are this number and the 56 bytes behind it
whole : (bytes : List ℕ) → length bytes ≡ 60 → ((k : ℕ) → get_or bytes k 0 < 256) → ots.number_at 0 bytes ≡ 2
    → bytes ≡ to_be_bytes w32 2 ++ slice_range bytes 4 60
whole bytes long below two =
    let begun : take 4 bytes ≡ to_be_bytes w32 2 = sym (ap (to_be_bytes w32) (sym two) ∙ number-spelled bytes 0 below (omega arith)) in
    let behind : slice_range bytes 4 60 ≡ drop 4 bytes = take_all 56 (drop 4 bytes) (omega (arith, length-drop 4 bytes)) in
    sym (take-append-drop 4 bytes) ∙ ap (λ t. t ++ drop 4 bytes) begun ∙ ap (λ t. to_be_bytes w32 2 ++ t) (sym behind)

-- what is read of 60 bytes that begin with 2 spells them
pub key-spelled : (bytes : List ℕ) (r : Result PublicKey KeyFault) → length bytes ≡ 60
    → ((k : ℕ) → get_or bytes k 0 < 256) → ots.number_at 0 bytes ≡ 2
    → IfOk r (λ key. slice_range bytes 4 60 ≡ lms.key_bytes key) → IfOk (key_over r) (λ key. bytes ≡ key_bytes key)
key-spelled bytes r long below two spelled =
    over_spelled bytes (slice_range bytes 4 60) r spelled (whole bytes long below two)

-- ---- what is written

pub length-key : (key : PublicKey) → length key.id ≡ 16 → length key.root ≡ 32 → length (lms.key_bytes key) ≡ 56
unfolding lms.key_bytes
length-key key id root = omega (arith, length-append key.id key.root)

profile_over : (top : PublicKey) → is_in_profile top.ots ≡ true → key_over (Ok top) ≡ Ok (record { top = top })
profile_over top e = rw e refl

part_read : (part : List ℕ) (top : PublicKey) → length part ≡ 56 → lms.key_in part ≡ Ok top
    → is_in_profile top.ots ≡ true → key_in (to_be_bytes w32 2 ++ part) ≡ Ok (record { top = top })
unfolding key_in
part_read part top part_long read profile =
    let bytes = to_be_bytes w32 2 ++ part in
    let long : length bytes ≡ 60 = omega arith in
    let same : slice_range bytes 4 60 ≡ part = take_all 56 part (omega arith) in
    let is : lms.key_in (slice_range bytes 4 60) ≡ Ok top = ap lms.key_in same ∙ read in
    ap (λ b. if b then key_over (lms.key_in (slice_range bytes 4 60)) else Err (key_fault.Length (length bytes))) (eq-eqb (length bytes) 60 long)
    ∙ ap key_over is ∙ profile_over top profile

-- the bytes of a key are read as the key
pub key-read : (bytes part : List ℕ) (top : PublicKey) → length part ≡ 56 → bytes ≡ to_be_bytes w32 2 ++ part
    → lms.key_in part ≡ Ok top → is_in_profile top.ots ≡ true → key_in bytes ≡ Ok (record { top = top })
key-read bytes part top long spelled read profile = ap key_in spelled ∙ part_read part top long read profile

-- ---- both

abbrev taken : TwoLevelKey → Result TwoLevelKey HssKeyFault
taken key = Ok key

abbrev right : PublicKey → Result PublicKey KeyFault
right key = Ok key

-- what is read under a test has passed it
passed : {A F : Type 0} (b : Bool) (r : Result A F) (d : F) (y : A) → (if b then r else Err d) ≡ Ok y → (b ≡ true) × (r ≡ Ok y)
passed true r d y e = (refl, e)
passed false r d y e = absurd cc

taken_is : (x y : TwoLevelKey) → taken x ≡ taken y → x ≡ y
taken_is x y e = cc

-- the top key was read, and is in the profile
over_read : (r : Result PublicKey KeyFault) (key : TwoLevelKey) → key_over r ≡ Ok key → (r ≡ Ok key.top) × (is_in_profile key.top.ots ≡ true)
over_read (Ok top) key e =
    let p = passed (is_in_profile top.ots) (Ok (record { top = top })) (key_fault.OtsType (ots.type_number top.ots)) key e in
    let same : top ≡ key.top = ap (λ (k : TwoLevelKey). k.top) (taken_is (record { top = top }) key p.1) in
    (ap right same, ap (λ (k : PublicKey). is_in_profile k.ots) (sym same) ∙ p.0)
over_read (Err (lms_fault.Length n)) key e = absurd cc
over_read (Err (lms_fault.TreeType n)) key e = absurd cc
over_read (Err (lms_fault.OtsType n)) key e = absurd cc

-- the parts of the bytes that a key was read from
pub record Inside (bytes : List ℕ) (key : TwoLevelKey) : Type 0 where
  pub long : length bytes ≡ 60
  pub levels : ots.number_at 0 bytes ≡ 2
  pub top : lms.key_in (slice_range bytes 4 60) ≡ Ok key.top
  pub in_profile : is_in_profile key.top.ots ≡ true

pub key-inside : (bytes : List ℕ) (key : TwoLevelKey) → key_in bytes ≡ Ok key → Inside bytes key
unfolding key_in
key-inside bytes key e =
    let part = slice_range bytes 4 60 in
    let found = ots.number_at 0 bytes in
    let a = passed (eqb (length bytes) 60) (if eqb found 2 then key_over (lms.key_in part) else Err (key_fault.Levels found)) (key_fault.Length (length bytes)) key e in
    let b = passed (eqb found 2) (key_over (lms.key_in part)) (key_fault.Levels found) key a.1 in
    let top = over_read (lms.key_in part) key b.1 in
    record { long = eqb-true (length bytes) 60 a.0; levels = eqb-true found 2 b.0; top = top.0; in_profile = top.1 }

-- what is read is in the bytes
pub key-are : (bytes : List ℕ) (key : TwoLevelKey) → ((k : ℕ) → get_or bytes k 0 < 256) → key_in bytes ≡ Ok key → AreHssKey bytes key
unfolding key_bytes
key-are bytes key below e =
    let inside = key-inside bytes key e in
    let are = lms_keys.key-are (slice_range bytes 4 60) key.top (part-below bytes 4 60 below) inside.top in
    record {
      spelled = whole bytes inside.long below inside.levels ∙ ap (λ t. to_be_bytes w32 2 ++ t) are.spelled;
      id = are.id;
      root = are.root;
      in_profile = inside.in_profile;
    }

-- the bytes of a key are read as the key
pub key-again : (bytes : List ℕ) (key : TwoLevelKey) → AreHssKey bytes key → key_in bytes ≡ Ok key
unfolding key_bytes
key-again bytes key are =
    let part = lms.key_bytes key.top in
    key-read bytes part key.top (length-key key.top are.id are.root) are.spelled
    (lms_keys.key-again part key.top (record { spelled = refl; id = are.id; root = are.root })) are.in_profile

short : {A F : Type 0} (b : Bool) (r : Result A F) (d : F) → b ≡ false → is_ok (if b then r else Err d) ≡ false
short true r d e = absurd cc
short false r d e = refl

-- bytes of another length are no key
pub key-long : (bytes : List ℕ) → eqb (length bytes) 60 ≡ false → is_ok (key_in bytes) ≡ false
unfolding key_in
key-long bytes other =
    short (eqb (length bytes) 60) (if eqb (ots.number_at 0 bytes) 2 then key_over (lms.key_in (slice_range bytes 4 60)) else Err (key_fault.Levels (ots.number_at 0 bytes))) (key_fault.Length (length bytes)) other
