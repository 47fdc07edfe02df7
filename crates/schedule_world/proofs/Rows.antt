-- Worked lines: what each is, or its first bad word. Each row is computed.
use Rattle.std.proofs.Common.{◌≡◌, ℕ, ◌++◌, [], ◌∷◌, Bool, true, false, List, replicate, Some, None, Result, Ok, Err, refl, codes}
use Rattle.hex.proofs.OnLiterals.{hex_on_literals}
use Rattle.lms_ots.specs.declared.kind.OtsKind.TheVariants.{W1, W2, W4, W8}
use Rattle.lms_tree.specs.declared.kind.TreeKind.TheVariants.{H5, H10}
use Rattle.line_text.specs.declared.bad_word.BadWord.{BadWord}
use Rattle.line_text.specs.declared.bad_word.BadWord.TheVariants as bad
use Rattle.line_text.specs.Frame.{judge as judge_line}
use Rattle.schedule_world.specs.declared.line.WorldLine.{WorldLine}
use Rattle.schedule_world.specs.declared.line.WorldLine.TheVariants as lines
use Rattle.schedule_world.specs.declared.text.WorldText.{WorldText}
use Rattle.schedule_world.specs.declared.text.WorldText.TheVariants as world
use Rattle.schedule_world.specs.Grammar.{after, judge, opening}

-- the line with a line feed, where so much has been read
abbrev at : WorldText → List ℕ → Result WorldLine BadWord
at w text = judge (record { number = 7; form = w }) (text ++ 10 ∷ [])

-- below the kinds, in a group of tolerance 1; and below `begin`, with so many ticks before
abbrev roster : List ℕ → Bool → List ℕ → Result WorldLine BadWord
roster names node text = at (world.Roster 1 false names node) text

abbrev body : ℕ → List ℕ → Result WorldLine BadWord
body ticks text = at (world.Body 1 ticks) text

heads : (judge opening (codes "fireflies 1 world" ++ 10 ∷ []) ≡ Ok lines.Header)
    × (judge opening (codes "fireflies 1 direct" ++ 10 ∷ []) ≡ Err bad.Header)
    × (judge opening (codes "fireflies 2 world" ++ 10 ∷ []) ≡ Err bad.Header)
    × (at world.Headed (codes "fireflies 1 world") ≡ Err bad.Word)
unfolding judge_line hex_on_literals
heads = (refl, refl, refl, refl)

groups : (at world.Headed (codes "group 1 4 1 2 000102030405060708090A0b0c0d0eff")
    ≡ Ok (lines.Group (record { t = 1; timeout = 4; period = 1; misses = 2; tag = 0 ∷ 1 ∷ 2 ∷ 3 ∷ 4 ∷ 5 ∷ 6 ∷ 7 ∷ 8 ∷ 9 ∷ 10 ∷ 11 ∷ 12 ∷ 13 ∷ 14 ∷ 255 ∷ [] })))
    × (at world.Headed (codes "group 32 4 1 2 000102030405060708090a0b0c0d0eff") ≡ Err bad.Limit)
    × (at world.Headed (codes "group 31 10001 1 2 000102030405060708090a0b0c0d0eff") ≡ Err bad.Limit)
    × (at world.Headed (codes "group 31 10000 1001 2 000102030405060708090a0b0c0d0eff") ≡ Err bad.Limit)
    × (at world.Headed (codes "group 31 10000 1000 17 000102030405060708090a0b0c0d0eff") ≡ Err bad.Limit)
    × (at world.Headed (codes "group 31 10000 1000 16 000102030405060708090a0b0c0d0e") ≡ Err bad.Limit)
    × (at world.Headed (codes "group 31 10000 1000 16 000102030405060708090a0b0c0d0ef") ≡ Err bad.Hex)
    × (at world.Headed (codes "group 31 10000 1000 16 -") ≡ Err bad.Hex)
    × (at world.Headed (codes "group 31 10000") ≡ Err bad.Count)
    × (at world.Headed (codes "kinds 8 5") ≡ Err bad.Order)
unfolding judge_line hex_on_literals
groups = (refl, refl, refl, refl, refl, refl, refl, refl, refl, refl)

kinds : (at (world.Grouped 1) (codes "kinds 1 5") ≡ Ok (lines.Kinds W1 H5 None))
    × (at (world.Grouped 1) (codes "kinds 2 5") ≡ Ok (lines.Kinds W2 H5 None))
    × (at (world.Grouped 1) (codes "kinds 4 10") ≡ Ok (lines.Kinds W4 H10 None))
    × (at (world.Grouped 1) (codes "kinds 8 10") ≡ Ok (lines.Kinds W8 H10 None))
    × (at (world.Grouped 1) (codes "kinds 3 5") ≡ Err bad.Limit)
    × (at (world.Grouped 1) (codes "kinds 16 5") ≡ Err bad.Limit)
    × (at (world.Grouped 1) (codes "kinds 8 15") ≡ Err bad.Limit)
    × (at (world.Grouped 1) (codes "kinds 08 15") ≡ Err bad.Number)
    × (at (world.Grouped 1) (codes "kinds 8") ≡ Err bad.Count)
    × (at (world.Grouped 1) (codes "node 1") ≡ Err bad.Order)
unfolding judge_line hex_on_literals
kinds = (refl, refl, refl, refl, refl, refl, refl, refl, refl, refl)

-- Keys of two levels have W4 or W8, and at most 15 levels in all; each word comes before them as a whole.
two_levels : (at (world.Grouped 1) (codes "kinds 4 5 5") ≡ Ok (lines.Kinds W4 H5 (Some H5)))
    × (at (world.Grouped 1) (codes "kinds 4 10 5") ≡ Ok (lines.Kinds W4 H10 (Some H5)))
    × (at (world.Grouped 1) (codes "kinds 8 5 10") ≡ Ok (lines.Kinds W8 H5 (Some H10)))
    × (at (world.Grouped 1) (codes "kinds 4 10 10") ≡ Err bad.Limit)
    × (at (world.Grouped 1) (codes "kinds 2 5 5") ≡ Err bad.Limit)
    × (at (world.Grouped 1) (codes "kinds 1 5 5") ≡ Err bad.Limit)
    × (at (world.Grouped 1) (codes "kinds 4 15 5") ≡ Err bad.Limit)
    × (at (world.Grouped 1) (codes "kinds 4 5 15") ≡ Err bad.Limit)
    × (at (world.Grouped 1) (codes "kinds 4 5 7") ≡ Err bad.Limit)
    × (at (world.Grouped 1) (codes "kinds 2 5 05") ≡ Err bad.Number)
    × (at (world.Grouped 1) (codes "kinds 4 x 20") ≡ Err bad.Number)
    × (at (world.Grouped 1) (codes "kinds 3 5 x") ≡ Err bad.Limit)
    × (at (world.Grouped 1) (codes "kinds 4 5 5 5") ≡ Err bad.Count)
    × (at world.Headed (codes "kinds 4 10 5") ≡ Err bad.Order)
unfolding judge_line hex_on_literals
two_levels = (refl, refl, refl, refl, refl, refl, refl, refl, refl, refl, refl, refl, refl, refl)

-- directly below the kinds, and directly below a line `heal`
abbrev below_kinds : List ℕ → Result WorldLine BadWord
below_kinds text = roster [] false text

abbrev healing : List ℕ → Result WorldLine BadWord
healing text = at (world.Roster 1 true [] false) text

heals : (below_kinds (codes "heal 2 0") ≡ Ok (lines.Heal (record { every = 2; most = 0 })))
    × (below_kinds (codes "heal 1000 1000") ≡ Ok (lines.Heal (record { every = 1000; most = 1000 })))
    × (below_kinds (codes "heal 1 1") ≡ Err bad.Limit)
    × (below_kinds (codes "heal 1001 1") ≡ Err bad.Limit)
    × (below_kinds (codes "heal 2 1001") ≡ Err bad.Limit)
    × (below_kinds (codes "heal x 1") ≡ Err bad.Number)
    × (below_kinds (codes "heal 2 01") ≡ Err bad.Number)
    × (below_kinds (codes "heal 1 x") ≡ Err bad.Limit)
    × (below_kinds (codes "heal") ≡ Err bad.Count)
    × (below_kinds (codes "heal 2") ≡ Err bad.Count)
    × (below_kinds (codes "heal 2 1 1") ≡ Err bad.Count)
    × (below_kinds (codes "Heal 2 1") ≡ Err bad.Word)
unfolding judge_line hex_on_literals
heals = (refl, refl, refl, refl, refl, refl, refl, refl, refl, refl, refl, refl)

-- It stands nowhere else, and once.
heal_places : (healing (codes "heal 2 1") ≡ Err bad.Order)
    × (healing (codes "kinds 4 5") ≡ Err bad.Order)
    × (healing (codes "begin") ≡ Err bad.Order)
    × (healing (codes "node 7") ≡ Ok (lines.Node 7))
    × (healing (codes "liar 7") ≡ Ok (lines.Liar 7))
    × (at world.Headed (codes "heal 2 1") ≡ Err bad.Order)
    × (at (world.Grouped 1) (codes "heal 2 1") ≡ Err bad.Order)
    × (roster (4 ∷ []) true (codes "heal 2 1") ≡ Err bad.Order)
    × (roster (4 ∷ []) false (codes "heal 1 x") ≡ Err bad.Order)
    × (body 0 (codes "heal 2 1") ≡ Err bad.Order)
unfolding judge_line hex_on_literals
heal_places = (refl, refl, refl, refl, refl, refl, refl, refl, refl, refl)

rosters : (roster [] false (codes "node 1023") ≡ Ok (lines.Node 1023))
    × (roster [] false (codes "node 1024") ≡ Err bad.Limit)
    × (roster (4 ∷ 7 ∷ []) true (codes "liar 5") ≡ Ok (lines.Liar 5))
    × (roster (4 ∷ 7 ∷ []) true (codes "liar 4") ≡ Err bad.Limit)
    × (roster (4 ∷ 7 ∷ []) true (codes "node 7") ≡ Err bad.Limit)
    × (roster (replicate 31 8) true (codes "node 7") ≡ Ok (lines.Node 7))
    × (roster (replicate 32 8) true (codes "node 7") ≡ Err bad.Limit)
    × (roster (4 ∷ []) true (codes "begin") ≡ Ok lines.Begin)
    × (roster (4 ∷ []) false (codes "begin") ≡ Err bad.Order)
    × (roster (4 ∷ []) true (codes "start 4") ≡ Err bad.Order)
    × (roster (4 ∷ []) true (codes "leave 4") ≡ Err bad.Order)
    × (roster (4 ∷ []) true (codes "end") ≡ Err bad.Order)
    × (body 0 (codes "node 7") ≡ Err bad.Order)
    × (body 0 (codes "begin") ≡ Err bad.Order)
unfolding judge_line hex_on_literals
rosters = (refl, refl, refl, refl, refl, refl, refl, refl, refl, refl, refl, refl, refl, refl)

lives : (body 0 (codes "start 1023") ≡ Ok (lines.Start 1023))
    × (body 0 (codes "stop 1 65535") ≡ Ok (lines.Stop 1 65535))
    × (body 0 (codes "stop 1 65536") ≡ Err bad.Limit)
    × (body 0 (codes "arm 1 1000 2") ≡ Ok (lines.Arm 1 1000 2))
    × (body 0 (codes "arm 1 1001 2") ≡ Err bad.Limit)
    × (body 0 (codes "arm 1 1001") ≡ Err bad.Count)
    × (body 0 (codes "leave 1023") ≡ Ok (lines.Leave 1023))
    × (body 0 (codes "leave 1024") ≡ Err bad.Limit)
    × (body 0 (codes "leave") ≡ Err bad.Count)
    × (body 0 (codes "leave 1 7") ≡ Err bad.Count)
unfolding judge_line hex_on_literals
lives = (refl, refl, refl, refl, refl, refl, refl, refl, refl, refl)

ticks : (body 0 (codes "tick 1 10000") ≡ Ok (lines.Tick 1 10000))
    × (body 0 (codes "tick 1 10001") ≡ Err bad.Limit)
    × (body 0 (codes "tick 1 0") ≡ Err bad.Limit)
    × (body 90000 (codes "tick 1 10000") ≡ Ok (lines.Tick 1 10000))
    × (body 90001 (codes "tick 1 10000") ≡ Err bad.Limit)
    × (body 100000 (codes "tick 1024 x") ≡ Err bad.Limit)
unfolding judge_line hex_on_literals
ticks = (refl, refl, refl, refl, refl, refl)

datagrams : (body 0 (codes "deliver 18446744073709551615 1") ≡ Ok (lines.Deliver 18446744073709551615 1))
    × (body 0 (codes "deliver 18446744073709551616 1") ≡ Err bad.Number)
    × (body 0 (codes "flow 100000") ≡ Ok (lines.Flow 100000))
    × (body 0 (codes "flow 100001") ≡ Err bad.Limit)
    × (body 0 (codes "flow 0") ≡ Err bad.Limit)
    × (body 0 (codes "raw 1 -") ≡ Ok (lines.Raw 1 []))
    × (body 0 (codes "raw 2 4646fF") ≡ Ok (lines.Raw 2 (70 ∷ 70 ∷ 255 ∷ [])))
    × (body 0 (codes "raw 2 464") ≡ Err bad.Hex)
    × (body 0 (codes "raw 2") ≡ Err bad.Count)
unfolding judge_line hex_on_literals
datagrams = (refl, refl, refl, refl, refl, refl, refl, refl, refl)

notes : (body 0 (codes "sign-note 2 3 1 7 a") ≡ Ok (lines.SignNote 2 (record { member = 3; epoch = 1; mask = record { 0 = 7 } }) (codes "a")))
    × (body 0 (codes "sign-note 2 3 now 7 a") ≡ Err bad.Number)
    × (body 0 (codes "sign-note 2 3 0 7 a") ≡ Err bad.Limit)
    × (body 0 (codes "sign-note 2 3 1 18446744073709551616 a") ≡ Err bad.Number)
    × (body 0 (codes "sign-note 2 3 1 7 A") ≡ Err bad.Name)
    × (body 0 (codes "sign-note 2 3 1 7 abcdefghijklmnopqrstuvwxyz0123456") ≡ Err bad.Name)
    × (body 0 (codes "sign-note 2 3 1 x A") ≡ Err bad.Number)
unfolding judge_line hex_on_literals
notes = (refl, refl, refl, refl, refl, refl, refl)

accusations : (body 0 (codes "sign-accusation 2 3 4 5 255 n-0") ≡ Ok (lines.SignAccusation 2 3 4 (Some 5) (record { 0 = 255 }) (codes "n-0")))
    × (body 0 (codes "sign-accusation 2 3 4 now 0 n-0") ≡ Ok (lines.SignAccusation 2 3 4 None (record { 0 = 0 }) (codes "n-0")))
    × (body 0 (codes "sign-accusation 2 3 4 Now 0 n-0") ≡ Err bad.Number)
    × (body 0 (codes "sign-accusation 2 3 4 0 0 n-0") ≡ Err bad.Limit)
    × (body 0 (codes "sign-accusation 2 3 4 now 256 n-0") ≡ Err bad.Limit)
    × (body 0 (codes "sign-accusation 2 3 4 now 0 n_0") ≡ Err bad.Name)
    × (body 0 (codes "sign-accusation 2 3 4 now n-0") ≡ Err bad.Count)
unfolding judge_line hex_on_literals
accusations = (refl, refl, refl, refl, refl, refl, refl)

others : (body 0 (codes "give a 1") ≡ Ok (lines.Give (codes "a") 1))
    × (body 0 (codes "give A 1024") ≡ Err bad.Name)
    × (body 0 (codes "give a 1024") ≡ Err bad.Limit)
    × (body 0 (codes "give-all a") ≡ Ok (lines.GiveAll (codes "a")))
    × (body 0 (codes "give-all a 1") ≡ Err bad.Count)
    × (body 0 (codes "view 1") ≡ Ok (lines.View 1))
    × (body 0 (codes "view") ≡ Err bad.Count)
    × (body 0 (codes "monitor 1 2 3") ≡ Ok (lines.Monitor 1 (record { 0 = 2 }) 3))
    × (body 0 (codes "monitor 1 3 3") ≡ Err bad.Limit)
    × (body 0 (codes "life") ≡ Err bad.Word)
    × (body 0 (codes "end") ≡ Ok lines.End)
    × (at world.Ended (codes "end") ≡ Err bad.AfterEnd)
unfolding judge_line hex_on_literals
others = (refl, refl, refl, refl, refl, refl, refl, refl, refl, refl, refl, refl)

-- what is kept behind a line
kept : (after (world.Grouped 1) (lines.Kinds W8 H5 None) ≡ world.Roster 1 false [] false)
    × (after (world.Roster 1 false [] false) (lines.Heal (record { every = 2; most = 0 })) ≡ world.Roster 1 true [] false)
    × (after (world.Roster 1 true [] false) (lines.Liar 2) ≡ world.Roster 1 true (2 ∷ []) false)
    × (after (world.Roster 1 false [] false) (lines.Liar 2) ≡ world.Roster 1 false (2 ∷ []) false)
    × (after (world.Roster 1 false (2 ∷ []) false) (lines.Node 1) ≡ world.Roster 1 false (2 ∷ 1 ∷ []) true)
    × (after (world.Roster 1 true (2 ∷ 1 ∷ []) true) (lines.Liar 3) ≡ world.Roster 1 true (2 ∷ 1 ∷ 3 ∷ []) true)
    × (after (world.Roster 1 true (2 ∷ 1 ∷ []) true) lines.Begin ≡ world.Body 1 0)
    × (after (world.Body 1 5) (lines.Tick 1 10) ≡ world.Body 1 15)
    × (after (world.Body 1 5) lines.End ≡ world.Ended)
kept = (refl, refl, refl, refl, refl, refl, refl, refl, refl)
