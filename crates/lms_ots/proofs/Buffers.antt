-- Writes into a buffer.
use Rattle.std.proofs.Common.{◌≡◌, ℕ, ◌+◌, ◌*◌, ◌≤◌, List, ◌∷◌, ◌++◌, length, take, drop, set, sym, ◌∙◌, ap, arith, length-take, take-take, drop_at}
use Rattle.std.proofs.lemmas.List.{set_split, take-append-le}
use Rattle.lms_ots.proofs.Chains.{take_whole}

-- the 32 bytes from byte 23 on are set to the value
pub record IsFilled (old new value : List ℕ) : Type 0 where
  pub old_long : length old ≡ 55
  pub new_long : length new ≡ 55
  pub value_long : length value ≡ 32
  pub written : take (23 + length value) new ≡ take 23 old ++ value

filled-is : {old new value : List ℕ} → IsFilled old new value → new ≡ take 23 old ++ value
filled-is {old} {new} {value} f =
    let far : length new ≡ 23 + length value = omega (arith, f.new_long, f.value_long) in
    sym (take_whole new (23 + length value) far) ∙ f.written

head-long : {old new value : List ℕ} → IsFilled old new value → length (take 23 old) ≡ 23
head-long f = simp length-take (omega (arith, f.old_long))

pub take-filled : {old new value : List ℕ} → IsFilled old new value → take 22 new ≡ take 22 old
take-filled {old} {new} {value} f =
    let inside : 22 ≤ length (take 23 old) = omega (arith, head-long f) in
    ap (take 22) (filled-is f) ∙ take-append-le 22 (take 23 old) value inside ∙ take-take 22 23 old (omega arith)

pub drop-filled : {old new value : List ℕ} → IsFilled old new value → drop 23 new ≡ value
drop-filled {old} {new} {value} f =
    ap (drop 23) (filled-is f) ∙ drop_at (take 23 old) value 23 (head-long f)

-- what is hashed where byte 22 is j
pub stepping-is : (bytes : List ℕ) (j : ℕ) → length bytes ≡ 55 → set bytes 22 j ≡ take 22 bytes ++ j ∷ drop 23 bytes
stepping-is bytes j long = set_split bytes 22 j (omega (arith, long))

-- the first two parts of a signature: 4 bytes and 32
pub head_written : (kind randomizer first second : List ℕ) → length kind ≡ 4 → length randomizer ≡ 32
    → take (0 + length kind) first ≡ kind → take (4 + length randomizer) second ≡ take 4 first ++ randomizer
    → take 36 second ≡ kind ++ randomizer
head_written kind randomizer first second kind_long randomizer_long one two =
    let early : take 4 first ≡ kind = ap (λ n. take n first) (sym kind_long ∙ omega arith) ∙ one in
    let late : 4 + length randomizer ≡ 36 = omega arith in
    sym (ap (λ n. take n second) late) ∙ two ∙ ap (λ t. t ++ randomizer) early

-- one value more, of 32 bytes
pub value_written : (head value old new : List ℕ) (i n : ℕ) → n ≡ i → length value ≡ 32
    → take (36 + 32 * i) old ≡ head
    → take (36 + 32 * n + length value) new ≡ take (36 + 32 * n) old ++ value
    → take (36 + 32 * (i + 1)) new ≡ head ++ value
value_written head value old new i n same long before written =
    let place : 36 + 32 * n + length value ≡ 36 + 32 * (i + 1) = omega arith in
    let early : take (36 + 32 * n) old ≡ head = rw same before in
    sym (ap (λ k. take k new) place) ∙ written ∙ ap (λ h. h ++ value) early
