-- Worked lines: what each is, or its first bad word. Each row is computed.
use Rattle.std.proofs.Common.{◌≡◌, ℕ, ◌++◌, [], ◌∷◌, List, Some, None, Result, Ok, Err, refl, codes}
use Rattle.std.specs.Fmt.{digits}
use Rattle.line_text.specs.declared.bad_word.BadWord.{BadWord}
use Rattle.line_text.specs.declared.bad_word.BadWord.TheVariants as bad
use Rattle.line_text.specs.Frame.{judge as judge_line, first_bad as first_bad_of}
use Rattle.schedule_direct.specs.declared.direct.Direct.TheVariants as direct
use Rattle.schedule_direct.specs.declared.line.DirectLine.{DirectLine}
use Rattle.schedule_direct.specs.declared.line.DirectLine.TheVariants as lines
use Rattle.schedule_direct.specs.Grammar.{first_bad, judge, opening, spelled_words}

-- the line with a line feed, at line 1; directly below the header; below a group of tolerance 1, with so many
-- ticks before it; and behind `end`
abbrev first : List ℕ → Result DirectLine BadWord
first text = judge opening (text ++ 10 ∷ [])

abbrev second : List ℕ → Result DirectLine BadWord
second text = judge (record { number = 2; form = direct.Headed }) (text ++ 10 ∷ [])

abbrev third : ℕ → List ℕ → Result DirectLine BadWord
third ticks text = judge (record { number = 3; form = direct.Body 1 ticks }) (text ++ 10 ∷ [])

abbrev last : List ℕ → Result DirectLine BadWord
last text = judge (record { number = 4; form = direct.Ended }) (text ++ 10 ∷ [])

heads : (first (codes "fireflies 1 direct") ≡ Ok lines.Header)
    × (first (codes "fireflies 1 world") ≡ Err bad.NotBuilt)
    × (first (codes "fireflies 1  direct") ≡ Err bad.Spaces)
    × (first (codes "fireflies 1") ≡ Err bad.Header)
    × (first (codes "group 1 3") ≡ Err bad.Header)
    × (judge opening (codes "fireflies 1 direct") ≡ Err bad.LineFeed)
unfolding judge_line
heads = (refl, refl, refl, refl, refl, refl)

groups : (second (codes "group 1 1") ≡ Ok (lines.Group 1 1))
    × (second (codes "group 31 10000") ≡ Ok (lines.Group 31 10000))
    × (second (codes "group 32 3") ≡ Err bad.Limit)
    × (second (codes "group 0 3") ≡ Err bad.Limit)
    × (second (codes "group 1 0") ≡ Err bad.Limit)
    × (second (codes "group 1 10001") ≡ Err bad.Limit)
    × (second (codes "group 0 x") ≡ Err bad.Limit)
    × (second (codes "group x 0") ≡ Err bad.Number)
    × (second (codes "group 1") ≡ Err bad.Count)
    × (second (codes "view 1") ≡ Err bad.Order)
    × (second (codes "grup 1 3") ≡ Err bad.Word)
    × (second (codes "fireflies 1 direct") ≡ Err bad.Word)
unfolding judge_line
groups = (refl, refl, refl, refl, refl, refl, refl, refl, refl, refl, refl, refl)

spaces : (third 0 (codes "view") ≡ Ok lines.View)
    × (third 0 (codes " view") ≡ Err bad.Spaces)
    × (third 0 (codes "view ") ≡ Err bad.Spaces)
    × (third 0 (codes "note  2") ≡ Err bad.Spaces)
    × (third 0 (118 ∷ 127 ∷ []) ≡ Err bad.Spaces)
    × (third 0 (9 ∷ []) ≡ Err bad.Spaces)
    × (third 0 [] ≡ Err bad.Spaces)
    × (third 0 (126 ∷ 33 ∷ []) ≡ Err bad.Word)
    × (third 0 (codes "node 1") ≡ Err bad.Word)
    × (third 0 (codes "group x") ≡ Err bad.Order)
    × (third 0 (codes "view 01") ≡ Err bad.Count)
    × (third 0 (codes "life") ≡ Ok lines.Life)
    × (third 0 (codes "end") ≡ Ok lines.End)
    × (last (codes "end") ≡ Err bad.AfterEnd)
unfolding judge_line
spaces = (refl, refl, refl, refl, refl, refl, refl, refl, refl, refl, refl, refl, refl, refl)

members : (third 0 (codes "member 1023 0 4294967295 7") ≡ Ok (lines.Member 1023 (0 ∷ 4294967295 ∷ 7 ∷ [])))
    × (third 0 (codes "member x 0 0") ≡ Err bad.Count)
    × (third 0 (codes "member x 0 0 0 0") ≡ Err bad.Count)
    × (third 0 (codes "member 1024 x 0 0") ≡ Err bad.Limit)
    × (third 0 (codes "member 1 0 0 4294967296") ≡ Err bad.Limit)
    × (third 0 (codes "member 1 00 0 4294967296") ≡ Err bad.Number)
unfolding judge_line
members = (refl, refl, refl, refl, refl, refl)

notes : (third 0 (codes "note 0 1 0") ≡ Ok (lines.Note (record { member = 0; epoch = 1; mask = record { 0 = 0 } })))
    × (third 0 (codes "note 1023 18446744073709551615 18446744073709551615") ≡ Ok (lines.Note (record { member = 1023; epoch = 18446744073709551615; mask = record { 0 = 18446744073709551615 } })))
    × (third 0 (codes "note 2 0 07") ≡ Err bad.Limit)
    × (third 0 (codes "note 2 01 18446744073709551616") ≡ Err bad.Number)
    × (third 0 (codes "note 2 18446744073709551616 7") ≡ Err bad.Number)
    × (third 0 (codes "note 2 1 18446744073709551616") ≡ Err bad.Number)
    × (third 0 (codes "note 2 -1 7") ≡ Err bad.Number)
unfolding judge_line
notes = (refl, refl, refl, refl, refl, refl, refl)

accusations : (third 0 (codes "accuse 1 2 3 255") ≡ Ok (lines.Accuse (record { accuser = 1; accused = 2; epoch = 3; ring = record { 0 = 255 } })))
    × (third 0 (codes "accuse 1 2 3 256") ≡ Err bad.Limit)
    × (third 0 (codes "accuse 1 1024 x 256") ≡ Err bad.Limit)
    × (third 0 (codes "accuse 1 2 0 x") ≡ Err bad.Limit)
    × (third 0 (codes "accuse 1 2 18446744073709551616 0") ≡ Err bad.Number)
    × (third 0 (codes "accuse 1 2 3") ≡ Err bad.Count)
unfolding judge_line
accusations = (refl, refl, refl, refl, refl, refl)

ticks : (third 0 (codes "tick 1") ≡ Ok (lines.Tick 1))
    × (third 990000 (codes "tick 10000") ≡ Ok (lines.Tick 10000))
    × (third 990001 (codes "tick 10000") ≡ Err bad.Limit)
    × (third 1000000 (codes "tick 1") ≡ Err bad.Limit)
    × (third 0 (codes "tick 0") ≡ Err bad.Limit)
    × (third 0 (codes "tick 10001") ≡ Err bad.Limit)
    × (third 0 (codes "tick") ≡ Err bad.Count)
unfolding judge_line
ticks = (refl, refl, refl, refl, refl, refl, refl)

monitors : (third 0 (codes "monitor 2 0") ≡ Ok (lines.Monitor (record { 0 = 2 }) 0))
    × (third 0 (codes "monitor 3 x") ≡ Err bad.Limit)
    × (third 0 (codes "monitor 2 1024") ≡ Err bad.Limit)
unfolding judge_line
monitors = (refl, refl, refl)

-- the table itself, where several of its words hold
tables : (first_bad (record { number = 100001; form = direct.Ended }) (codes "x") ≡ Some bad.AfterEnd)
    × (first_bad (record { number = 100001; form = direct.Body 1 0 }) (codes "x") ≡ Some bad.LineFeed)
    × (first_bad (record { number = 100001; form = direct.Body 1 0 }) (9 ∷ 10 ∷ []) ≡ Some bad.Lines)
    × (first_bad (record { number = 100000; form = direct.Start }) (9 ∷ 10 ∷ []) ≡ Some bad.Spaces)
    × (first_bad (record { number = 100000; form = direct.Headed }) (codes "tick x y" ++ 10 ∷ []) ≡ Some bad.Order)
    × (first_bad (record { number = 100000; form = direct.Body 1 0 }) (codes "tick x y" ++ 10 ∷ []) ≡ Some bad.Count)
    × (first_bad (record { number = 100000; form = direct.Body 1 0 }) (codes "tick x" ++ 10 ∷ []) ≡ Some bad.Number)
    × (first_bad (record { number = 100000; form = direct.Body 1 0 }) (codes "tick 7" ++ 10 ∷ []) ≡ None)
unfolding first_bad_of
tables = (refl, refl, refl, refl, refl, refl, refl, refl)

-- the one spelling of a line
spellings : (spelled_words lines.Header ≡ codes "fireflies" ∷ codes "1" ∷ codes "direct" ∷ [])
    × (spelled_words (lines.Group 31 10000) ≡ codes "group" ∷ codes "31" ∷ codes "10000" ∷ [])
    × (spelled_words (lines.Member 1023 (0 ∷ 4294967295 ∷ [])) ≡ codes "member" ∷ codes "1023" ∷ codes "0" ∷ codes "4294967295" ∷ [])
    × (spelled_words (lines.Note (record { member = 2; epoch = 3; mask = record { 0 = 7 } })) ≡ codes "note" ∷ codes "2" ∷ codes "3" ∷ codes "7" ∷ [])
    × (spelled_words (lines.Accuse (record { accuser = 1; accused = 2; epoch = 3; ring = record { 0 = 4 } })) ≡ codes "accuse" ∷ codes "1" ∷ codes "2" ∷ codes "3" ∷ codes "4" ∷ [])
    × (spelled_words (lines.Tick 60) ≡ codes "tick" ∷ codes "60" ∷ [])
    × (spelled_words lines.View ≡ codes "view" ∷ [])
    × (spelled_words (lines.Monitor (record { 0 = 2 }) 5) ≡ codes "monitor" ∷ codes "2" ∷ codes "5" ∷ [])
    × (spelled_words lines.Life ≡ codes "life" ∷ [])
    × (spelled_words lines.End ≡ codes "end" ∷ [])
unfolding digits
spellings = (refl, refl, refl, refl, refl, refl, refl, refl, refl, refl)
