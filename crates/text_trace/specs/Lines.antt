-- Lines: a text cut behind each line feed, and what a reader sees of each line.
use Rattle.std.specs.Prelude.{◌≡◌, ℕ, ◌+◌, ◌-◌, ◌≤◌, Bool, true, ◌&&◌, ◌==◌, not, nat_lt, if◌then◌else◌, List, [], ◌∷◌, ◌++◌, length, map, slice_index, take}
use Rattle.std.specs.List.{list_all, concat}

-- The byte in front of the first line; with no line, a line of its own.
abbrev pub onto_first : ℕ → List (List ℕ) → List (List ℕ)
onto_first b [] = (b ∷ []) ∷ []
onto_first b (line ∷ lines) = (b ∷ line) ∷ lines

-- The lines of a text, each with the line feed that ends it. What stands after the last one is a line too.
abbrev pub lines_of : List ℕ → List (List ℕ)
lines_of [] = []
lines_of (b ∷ text) = if b == 10 then (b ∷ []) ∷ lines_of text else onto_first b (lines_of text)

-- No byte is a line feed.
abbrev pub has_no_feed : List ℕ → Bool
has_no_feed bytes = list_all (λ b. not (b == 10)) bytes

-- A line feed ends the bytes.
abbrev pub has_line_feed : List ℕ → Bool
has_line_feed bytes = nat_lt 0 (length bytes) && (slice_index bytes (length bytes - 1) == 10)

-- How many bytes a line may have in front of its line feed.
abbrev pub line_bytes : ℕ
line_bytes = 65600

-- How many lines a text may have.
abbrev pub text_lines : ℕ
text_lines = 100000

-- The most bytes that are seen of a line: one more, so that a longer line shows.
abbrev pub seen_bytes : ℕ
seen_bytes = line_bytes + 1

-- The lines of a text as a reader sees them. This alone cuts a line.
abbrev pub seen : List ℕ → List (List ℕ)
seen text = map (take seen_bytes) (lines_of text)

-- The bytes are these lines, each whole: with its line feed, and no more than is seen of a line. What follows
-- begins a line of its own.
pub record AreWhole (lines : List (List ℕ)) (bytes : List ℕ) : Type 0 where
  pub joined : concat lines ≡ bytes
  pub first : (rest : List ℕ) → seen (bytes ++ rest) ≡ lines ++ seen rest

-- The bytes end with their only line feed, and have no more in front of it than a line may have.
pub record IsFed (line : List ℕ) : Type 0 where
  pub front : List ℕ
  pub clear : has_no_feed front ≡ true
  pub ended : line ≡ front ++ 10 ∷ []
  pub short : length front ≤ line_bytes

-- The bytes are all that is seen of a longer line.
pub record IsCut (line : List ℕ) : Type 0 where
  pub clear : has_no_feed line ≡ true
  pub long : length line ≡ seen_bytes

-- The line comes first among these.
pub record IsNext (line : List ℕ) (lines : List (List ℕ)) : Type 0 where
  pub others : List (List ℕ)
  pub same : lines ≡ line ∷ others
