-- The words of a line: one or more words of printable bytes, with one space between two words and none
-- elsewhere.
use Rattle.std.specs.Prelude.{ℕ, Bool, ◌&&◌, not, nat_le, ◌==◌, if◌then◌else◌, List, [], length, Option, Some, None}
use Rattle.std.specs.List.{slice_split, list_all}
use Rattle.std.specs.Borrow.{Bor}

abbrev pub is_space : ℕ → Bool
is_space b = b == 32

-- the bytes 0x21 to 0x7E
abbrev pub is_printable : ℕ → Bool
is_printable b = nat_le 33 b && nat_le b 126

-- one or more printable bytes
abbrev pub is_word : List ℕ → Bool
is_word bytes = not (length bytes == 0) && list_all is_printable bytes

-- the parts of a text between its spaces
abbrev pub parts : List ℕ → List (List ℕ)
parts text = slice_split is_space text

abbrev pub is_spaced : List ℕ → Bool
is_spaced text = list_all is_word (parts text)

-- The words of a line, if it is words with one space between two and none elsewhere: each part between
-- its spaces is a word.
abbrev pub words_of : List ℕ → Option (List (List ℕ))
words_of text = if is_spaced text then Some (parts text) else None

-- the words in what is left of a line
abbrev pub parts_left : Option (Bor (List ℕ)) → List (List ℕ)
parts_left None = []
parts_left (Some text) = parts text.now
