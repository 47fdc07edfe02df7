-- Where a text fails, said of the texts of all things of one kind, and not of how one is read.
use Rattle.std.specs.Prelude.{◌≡◌, ℕ, ◌+◌, List, [], ◌∷◌, ◌++◌, length}
use Rattle.std.specs.List.{join_with_byte}
use Rattle.line_text.specs.Words.{parts}

-- These words begin the text of such a thing.
pub record BeginsOne {A : Type 0} (Is : List ℕ → A → Type 0) (words : List (List ℕ)) : Type 0 where
  pub text : List ℕ
  pub thing : A
  pub more : List (List ℕ)
  pub is_one : Is text thing
  pub same : parts text ≡ words ++ more

-- These words are the text of such a thing.
pub record AreOne {A : Type 0} (Is : List ℕ → A → Type 0) (words : List (List ℕ)) : Type 0 where
  pub text : List ℕ
  pub thing : A
  pub is_one : Is text thing
  pub same : parts text ≡ words

-- Behind these words the first of the others can't stand in such a text; or there is none, and one is missing.
abbrev pub AreStuck : {A : Type 0} → (List ℕ → A → Type 0) → List (List ℕ) → List (List ℕ) → Type 0
AreStuck Is front [] = AreOne Is front → ⊥
AreStuck Is front (word ∷ rest) = BeginsOne Is (front ++ word ∷ []) → ⊥

-- The text fails at this place: the words before it begin the text of such a thing, and at it begins the first that
-- fails, or the text ends there and a word is missing.
pub record FailsIn {A : Type 0} (Is : List ℕ → A → Type 0) (text : List ℕ) (place : ℕ) : Type 0 where
  pub front : List (List ℕ)
  pub behind : List (List ℕ)
  pub words : parts text ≡ front ++ behind
  pub at : place + length (join_with_byte 32 behind) ≡ length text
  pub begins : BeginsOne Is front
  pub stuck : AreStuck Is front behind
