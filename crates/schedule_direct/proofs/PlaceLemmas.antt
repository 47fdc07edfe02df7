-- Places that are read into an array, one by one.
use Rattle.std.proofs.Common.{◌≡◌, ℕ, ◌+◌, ◌<◌, ◌≤◌, ◌==◌, false, true≢false, List, [], ◌∷◌, ◌++◌, length, map, replicate, take, set, Option, None, sym, ap, ◌∙◌, arith}
use Rattle.std.proofs.lemmas.List.{append_assoc, take_more_set}
use Rattle.line_text.specs.declared.bad_word.BadWord.{BadWord}
use Rattle.line_text.specs.Fields.{number_32, number_in}
use Rattle.line_text.specs.Frame.{behind, first_of, first_word, or_else, word_tests}

-- what the first bad word of the words is
abbrev pub bad_place : List (List ℕ) → Option BadWord
bad_place words = first_of (word_tests (replicate (length words) number_32) words)

-- one word more that is good
pub tests_more : (words : List (List ℕ)) → (length words == 0) ≡ false → number_32 (first_word words) ≡ None → bad_place (behind words) ≡ bad_place words
tests_more [] some good = absurd (true≢false some)
tests_more (word ∷ words) some good = sym (ap (λ (t : Option BadWord). or_else t (bad_place words)) good)

pub long_more : (many whole : ℕ) (words : List (List ℕ)) → (length words == 0) ≡ false → many + length words ≡ whole → many + 1 + length (behind words) ≡ whole
long_more many whole [] some long = absurd (true≢false some)
long_more many whole (word ∷ words) some long = omega (arith, long)

pub read_more : (places : List ℕ) (many place : ℕ) (words : List (List ℕ)) → (length words == 0) ≡ false → many < length places → place ≡ number_in (first_word words)
    → take (many + 1) (set places many place) ++ map number_in (behind words) ≡ take many places ++ map number_in words
read_more places many place [] some inside is = absurd (true≢false some)
read_more places many place (word ∷ words) some inside is =
    ap (λ (l : List ℕ). l ++ map number_in words) (take_more_set places many place inside)
    ∙ append_assoc (take many places) (place ∷ []) (map number_in words)
    ∙ ap (λ (n : ℕ). take many places ++ n ∷ map number_in words) is

-- there is room for one more
pub room_left : (many whole room : ℕ) (words : List (List ℕ)) → (length words == 0) ≡ false → many + length words ≡ whole → whole ≤ room → many < room
room_left many whole room [] some long fits = absurd (true≢false some)
room_left many whole room (word ∷ words) some long fits = omega (arith, long, fits)
