-- Worked workloads, of any words. Each row is computed.
use Rattle.std.proofs.Common.{◌≡◌, ℕ, ◌^◌, List, [], ◌∷◌, None, refl}
use Rattle.rand_core.specs.Stream.{Stream}
use Rattle.lms_ots.specs.declared.kind.OtsKind.TheVariants.{W4}
use Rattle.lms_tree.specs.declared.kind.TreeKind.TheVariants.{H10}
use Rattle.schedule_world.specs.declared.line.WorldLine.{WorldLine}
use Rattle.schedule_world.specs.declared.line.WorldLine.TheVariants as lines
use Rattle.soak_lines.specs.declared.plan.Plan.{Plan}
use Rattle.soak_lines.specs.Workload.{accusation_line, accusation_name, draw, group_of, lines_by, note_line, note_name, rounds_from}

-- so many nodes among so many members, and so many rounds
abbrev plan : ℕ → ℕ → ℕ → Plan
plan correct members rounds = record { tag = []; correct = correct; members = members; rounds = rounds }

abbrev next : ℕ → Stream → ℕ
next bound words = (draw bound words).0

abbrev behind : ℕ → Stream → Stream
behind bound words = (draw bound words).1

-- three nodes and one round
no_liar : (words : Stream) → lines_by (plan 3 3 1) words ≡
    lines.Header ∷ lines.Group (group_of (plan 3 3 1)) ∷ lines.Kinds W4 H10 None ∷ lines.Node 0 ∷ lines.Node 1 ∷ lines.Node 2 ∷ lines.Begin
    ∷ lines.Start 0 ∷ lines.Start 1 ∷ lines.Start 2 ∷ lines.Tick 0 1 ∷ lines.Tick 1 1 ∷ lines.Tick 2 1 ∷ lines.Flow 20000 ∷ lines.End ∷ []
unfolding rounds_from
no_liar words = refl

-- one node and two liars: each draws a victim, then a ring, from the words that the one before has left
two_liars : (words : Stream) → rounds_from (plan 1 3 1) 2 1 words ≡
    lines.Tick 0 1 ∷ accusation_line 1 (next 1 words) (next 5 (behind 1 words)) ∷ lines.GiveAll (accusation_name 1)
    ∷ accusation_line 2 (next 1 (behind 5 (behind 1 words))) (next 5 (behind 1 (behind 5 (behind 1 words)))) ∷ lines.GiveAll (accusation_name 2)
    ∷ lines.Flow 20000 ∷ lines.End ∷ []
unfolding rounds_from
two_liars words = refl

-- the notes of the eleventh round, and none in the tenth and the twelfth
notes_of_ten : (words : Stream) → rounds_from (plan 0 1 12) 10 3 words ≡
    accusation_line 0 (next 0 words) (next 5 (behind 0 words)) ∷ lines.GiveAll (accusation_name 0) ∷ lines.Flow 20000
    ∷ note_line 11 0 ∷ lines.GiveAll (note_name 0)
    ∷ accusation_line 0 (next 0 (behind 5 (behind 0 words))) (next 5 (behind 0 (behind 5 (behind 0 words)))) ∷ lines.GiveAll (accusation_name 0) ∷ lines.Flow 20000
    ∷ accusation_line 0 (next 0 (behind 5 (behind 0 (behind 5 (behind 0 words))))) (next 5 (behind 0 (behind 5 (behind 0 (behind 5 (behind 0 words)))))) ∷ lines.GiveAll (accusation_name 0) ∷ lines.Flow 20000
    ∷ lines.End ∷ []
unfolding rounds_from
notes_of_ten words = refl

-- the epochs
epochs : (note_line 1 0 ≡ lines.SignNote 0 (record { member = 0; epoch = 1; mask = record { 0 = 31 } }) (note_name 0))
    × (note_line 11 0 ≡ lines.SignNote 0 (record { member = 0; epoch = 2; mask = record { 0 = 31 } }) (note_name 0))
    × (note_line 991 0 ≡ lines.SignNote 0 (record { member = 0; epoch = 100; mask = record { 0 = 31 } }) (note_name 0))
epochs = (refl, refl, refl)
