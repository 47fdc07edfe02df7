-- The soak workload: its lines, round by round, from a seed, a number of members and a number of rounds.
use Rattle.std.specs.Prelude.{ℕ, zero, suc, ◌+◌, ◌-◌, ◌*◌, ◌/◌, ◌%◌, ◌^◌, ◌==◌, if◌then◌else◌, List, [], ◌∷◌, ◌++◌, map, take, None, codes}
use Rattle.std.specs.Fmt.{decimal}
use Rattle.std.specs.Int.{w64, to_be_bytes}
use Rattle.std.specs.List.{flat_map, range_with_len}
use Rattle.sha2.specs.Sha256.{sha256}
use Rattle.rand_core.specs.Steps.{stream_of, steps_u32}
use Rattle.rand_core.specs.Stream.{Stream, next_u32}
use Rattle.rand.specs.Uniform.{canon}
use Rattle.rand_chacha.specs.ChaCha.{ChaCha, next_word, of_seed}
use Rattle.ff_ids.specs.declared.Group.{Group}
use Rattle.lms_ots.specs.declared.kind.OtsKind.TheVariants.{W4}
use Rattle.lms_tree.specs.declared.kind.TreeKind.TheVariants.{H10}
use Rattle.schedule_world.specs.declared.line.WorldLine.{WorldLine}
use Rattle.schedule_world.specs.declared.line.WorldLine.TheVariants as lines
use Rattle.soak_lines.specs.declared.plan.Plan.{Plan}

-- ## Its numbers

-- The tag of the group is the first half of a hash of the seed, which stands in eight bytes, the highest first.
abbrev pub tag_of : ℕ → List ℕ
tag_of seed = take 16 (sha256 (codes "FFSOAK" ++ to_be_bytes w64 seed))

-- One member in ten is a liar.
abbrev pub plan_of : ℕ → ℕ → ℕ → Plan
plan_of seed members rounds = record { tag = tag_of seed; correct = members - members / 10; members = members; rounds = rounds }

abbrev pub group_of : Plan → Group
group_of p = record { tag = p.tag; t = 2; timeout = 40; period = 1; misses = 3 }

-- the numbers from a on that are below b
abbrev pub numbers : ℕ → ℕ → List ℕ
numbers a b = range_with_len a (b - a)

abbrev pub nodes : Plan → List ℕ
nodes p = numbers 0 p.correct

-- The last members are the liars.
abbrev pub liars : Plan → List ℕ
liars p = numbers p.correct p.members

-- ## Draws

-- the seed of the draws
abbrev pub drawing_seed : ℕ → List ℕ
drawing_seed seed = sha256 (codes "FFDRAW" ++ to_be_bytes w64 seed)

-- what a generator of ChaCha with 20 rounds will answer
abbrev pub words_of : ChaCha → Stream
words_of g = stream_of (steps_u32 (next_word 10)) g

-- A number below the bound, and what is left of the words: a word, as a fraction of 2^32, times the bound; where the
-- digits of the fraction that follow could carry, a second word decides.
abbrev pub draw : ℕ → Stream → ℕ × Stream
draw bound words = canon (2 ^ 32) next_u32 bound words

-- ## Notes and accusations

abbrev pub note_name : ℕ → List ℕ
note_name liar = codes "n" ++ decimal liar

abbrev pub accusation_name : ℕ → List ℕ
accusation_name liar = codes "a" ++ decimal liar

-- The liar signs a note of its own. Its epoch rises by 1 in ten rounds, and it enables all five rings.
abbrev pub note_line : ℕ → ℕ → WorldLine
note_line round liar = lines.SignNote liar (record { member = liar; epoch = (round - 1) / 10 + 1; mask = record { 0 = 31 } }) (note_name liar)

-- The liar accuses the victim on the ring, at its newest epoch.
abbrev pub accusation_line : ℕ → ℕ → ℕ → WorldLine
accusation_line liar victim ring = lines.SignAccusation liar liar victim None (record { 0 = ring }) (accusation_name liar)

-- The notes of these liars in a round, each given to all.
abbrev pub notes : ℕ → List ℕ → List WorldLine
notes round some = flat_map (λ liar. note_line round liar ∷ lines.GiveAll (note_name liar) ∷ []) some

-- A victim among so many nodes, then a ring of five, and what is left of the words.
abbrev pub accusation_by : ℕ → ℕ → Stream → WorldLine × Stream
accusation_by correct liar words =
    let victim = draw correct words in
    let ring = draw 5 victim.1 in
    (accusation_line liar victim.0 ring.0, ring.1)

-- The accusations by these liars, each given to all, and what is left of the words.
abbrev pub accusations : ℕ → List ℕ → Stream → List WorldLine × Stream
accusations correct [] words = ([], words)
accusations correct (liar ∷ others) words =
    let first = accusation_by correct liar words in
    let more = accusations correct others first.1 in
    (first.0 ∷ lines.GiveAll (accusation_name liar) ∷ more.0, more.1)

-- ## Rounds

-- In the first round of ten, each liar gives a note.
abbrev pub notes_in : Plan → ℕ → List WorldLine
notes_in p round = if (round - 1) % 10 == 0 then notes round (liars p) else []

-- So many rounds, of which the first has this number, and the end: in each the notes, a tick of each node, the
-- accusations, and a flow.
unfoldable pub rounds_from : Plan → ℕ → ℕ → Stream → List WorldLine
rounds_from p round zero words = lines.End ∷ []
rounds_from p round (suc more) words =
    let made = accusations p.correct (liars p) words in
    notes_in p round ++ (map (λ m. lines.Tick m 1) (nodes p) ++ (made.0 ++ (lines.Flow 20000 ∷ rounds_from p (round + 1) more made.1)))

-- ## The whole

-- The roster, the start of each node, and the rounds.
abbrev pub lines_by : Plan → Stream → List WorldLine
lines_by p words =
    lines.Header ∷ lines.Group (group_of p) ∷ lines.Kinds W4 H10 None
    ∷ (map lines.Node (nodes p) ++ (map lines.Liar (liars p) ++ (lines.Begin ∷ (map lines.Start (nodes p) ++ rounds_from p 1 p.rounds words))))

-- The lines of the workload of a seed, a number of members and a number of rounds.
unfoldable pub workload : ℕ → ℕ → ℕ → List WorldLine
workload seed members rounds = lines_by (plan_of seed members rounds) (words_of (of_seed (drawing_seed seed)))

-- how many lines it has
abbrev pub line_count : ℕ → ℕ → ℕ
line_count members rounds =
    let liars = members / 10 in
    let correct = members - liars in
    3 + members + 1 + correct + rounds * (correct + 2 * liars + 1) + 2 * liars * ((rounds + 9) / 10) + 1
