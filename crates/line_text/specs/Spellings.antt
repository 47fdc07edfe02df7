-- How a value is spelled as a word of a line.
use Rattle.std.specs.Prelude.{◌≡◌, ℕ, ◌^◌, ◌≤◌, ◌<◌, ◌⊎◌, true, List, [], length, Bool, Option, Some, None, Result, Ok, Err, codes}
use Rattle.std.proofs.Common.{get_or}
use Rattle.std.specs.Fmt.{decimal}
use Rattle.fields.specs.Names.{is_name}
use Rattle.line_text.specs.Digits.{SpellsBytes}
use Rattle.line_text.specs.Fields.{Test}

-- The word is the number in decimal digits. It is in its range, and 64 bits hold it.
pub record SpellsNumber (least most : ℕ) (word : List ℕ) (n : ℕ) : Type 0 where
  pub digits : word ≡ decimal n
  pub low : least ≤ n
  pub high : n ≤ most
  pub held : n < 2 ^ 64

-- The word is the number in decimal digits. It fits, and 64 bits hold it.
pub record SpellsFitting (fits : ℕ → Bool) (word : List ℕ) (n : ℕ) : Type 0 where
  pub digits : word ≡ decimal n
  pub fit : fits n ≡ true
  pub held : n < 2 ^ 64

-- The word is the value's number in decimal digits. The value is that of its number, and 64 bits hold it.
pub record SpellsNumbered {V : Type 0} (of : ℕ → Option V) (number : V → ℕ) (word : List ℕ) (v : V) : Type 0 where
  pub digits : word ≡ decimal (number v)
  pub is : of (number v) ≡ Some v
  pub held : number v < 2 ^ 64

-- The word spells so many bytes, in digits of either case.
pub record SpellsHex (many : ℕ) (word bytes : List ℕ) : Type 0 where
  pub digits : SpellsBytes word bytes
  pub long : length bytes ≡ many

-- The word spells bytes in digits of either case, no fewer and no more than so many.
pub record SpellsBetween (least most : ℕ) (word bytes : List ℕ) : Type 0 where
  pub digits : SpellsBytes word bytes
  pub some : least ≤ length bytes
  pub few : length bytes ≤ most

-- The word spells the bytes in digits of either case, or is `-` where there are none.
abbrev pub SpellsOrDash : List ℕ → List ℕ → Type 0
SpellsOrDash word bytes = ((word ≡ codes "-") × (bytes ≡ [])) ⊎ SpellsBytes word bytes

-- The same, of no more bytes than so many.
pub record SpellsUpTo (most : ℕ) (word bytes : List ℕ) : Type 0 where
  pub digits : SpellsOrDash word bytes
  pub few : length bytes ≤ most

-- The word is the name.
pub record SpellsName (word called : List ℕ) : Type 0 where
  pub same : word ≡ called
  pub good : is_name called ≡ true

-- The word spells bytes that are this value.
pub record SpellsAs {V : Type 0} (Are : List ℕ → V → Type 0) (word : List ℕ) (v : V) : Type 0 where
  pub bytes : List ℕ
  pub digits : SpellsBytes word bytes
  pub are : Are bytes v

-- ## Reading

-- The word passes the test, and has this value.
pub record Reads {V : Type 0} (test : Test) (value : List ℕ → V) (word : List ℕ) (v : V) : Type 0 where
  pub good : test word ≡ None
  pub same : value word ≡ v

-- each is below 256
abbrev pub AreBytes : List ℕ → Type 0
AreBytes b = (k : ℕ) → get_or b k 0 < 256

-- what was read; where nothing was, a value that stands for it, and the test refuses the word
abbrev pub or_any : {V E : Type 0} → V → Result V E → V
or_any any (Ok v) = v
or_any any (Err fault) = any

abbrev pub if_some : {V : Type 0} → V → Option V → V
if_some any None = any
if_some any (Some v) = v
