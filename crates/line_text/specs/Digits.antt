-- Hexadecimal digits, in either case.
use Rattle.std.specs.Prelude.{◌≡◌, ℕ, ◌+◌, ◌*◌, ◌≤◌, ◌⊎◌, List, [], ◌∷◌}

-- The digit stands for this number: `0` to `9`, `a` to `f` or `A` to `F`.
abbrev pub IsDigit : ℕ → ℕ → Type 0
IsDigit digit n =
    ((n ≤ 9) × (digit ≡ 48 + n))
    ⊎ (((10 ≤ n) × (n ≤ 15) × (digit ≡ 87 + n))
    ⊎ ((10 ≤ n) × (n ≤ 15) × (digit ≡ 55 + n)))

-- The two digits stand for this byte, the upper four bits first.
pub record IsPair (upper lower byte : ℕ) : Type 0 where
  pub high : ℕ
  pub low : ℕ
  pub upper_is : IsDigit upper high
  pub lower_is : IsDigit lower low
  pub value : byte ≡ high * 16 + low

-- The word spells the bytes: two digits for each.
abbrev pub SpellsBytes : List ℕ → List ℕ → Type 0
SpellsBytes [] [] = Unit {0}
SpellsBytes (upper ∷ lower ∷ word) (byte ∷ bytes) = IsPair upper lower byte × SpellsBytes word bytes
SpellsBytes _ _ = ⊥
