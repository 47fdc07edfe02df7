-- Texts whose long lines are read past: what is shown of their lines, and how many may come.
use Rattle.std.specs.Prelude.{◌≡◌, ℕ, Bool, true, ◌&&◌, nat_lt, if◌then◌else◌, List, [], ◌∷◌, ◌++◌, length, map, take}
use Rattle.std.specs.List.{concat}
use Rattle.text_trace.specs.Lines.{has_line_feed, has_no_feed, lines_of, seen_bytes}

-- How many lines any text may have.
abbrev pub most_lines : ℕ
most_lines = 1000000000

-- More than 65,600 bytes stand in front of the line feed that ends the line.
abbrev pub is_long : List ℕ → Bool
is_long line = has_line_feed line && nat_lt seen_bytes (length line)

-- What is shown of a line where long ones are read past: as much as is seen of it, and behind that the line feed of a
-- longer one. So a line without its line feed shows none.
abbrev pub shortened : List ℕ → List ℕ
shortened line = if is_long line then take seen_bytes line ++ 10 ∷ [] else take seen_bytes line

-- The lines of a text as they are shown where long ones are read past.
abbrev pub shown : List ℕ → List (List ℕ)
shown text = map shortened (lines_of text)

-- The bytes are these lines, each with its line feed, however long it is. What follows begins a line of its own.
pub record AreEnded (lines : List (List ℕ)) (bytes : List ℕ) : Type 0 where
  pub joined : concat lines ≡ bytes
  pub first : (rest : List ℕ) → lines_of (bytes ++ rest) ≡ lines ++ lines_of rest

-- The bytes end with their only line feed, however many stand in front of it.
pub record IsEnded (line : List ℕ) : Type 0 where
  pub front : List ℕ
  pub clear : has_no_feed front ≡ true
  pub ended : line ≡ front ++ 10 ∷ []
