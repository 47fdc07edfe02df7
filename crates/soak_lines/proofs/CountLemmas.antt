-- How many lines a workload has.
use Rattle.std.proofs.Common.{◌≡◌, ℕ, zero, suc, ◌+◌, ◌-◌, ◌*◌, ◌/◌, ◌%◌, ◌<◌, ◌≤◌, Bool, true, false, cond, eqb, List, [], ◌∷◌, ◌++◌, length, map, refl, sym, ap, ◌∙◌, arith, length-append}
use Rattle.std.specs.List.{range_with_len}
use Rattle.std.proofs.lemmas.Bool.{eqb-true, eqb-false}
use Rattle.std.proofs.lemmas.List.{length-map}
use Rattle.std.proofs.lemmas.List.FromFn.{length-range_with_len}
use Rattle.rand_core.specs.Stream.{Stream}
use Rattle.rand_chacha.specs.ChaCha.{of_seed}
use Rattle.schedule_world.specs.declared.line.WorldLine.{WorldLine}
use Rattle.schedule_world.specs.declared.line.WorldLine.TheVariants as lines
use Rattle.soak_lines.specs.declared.plan.Plan.{Plan}
use Rattle.soak_lines.specs.Workload.{accusation_by, accusations, drawing_seed, liars, line_count, lines_by, nodes, notes, notes_in, numbers, plan_of, rounds_from, words_of, workload}

abbrev liar_count : Plan → ℕ
liar_count p = p.members - p.correct

notes_count : (round : ℕ) (some : List ℕ) → length (notes round some) ≡ 2 * length some
notes_count round [] = refl
notes_count round (liar ∷ some) = let more = notes_count round some in omega arith

accusations_count : (correct : ℕ) (some : List ℕ) (words : Stream) → length (accusations correct some words).0 ≡ 2 * length some
accusations_count correct [] words = refl
accusations_count correct (liar ∷ some) words = let more = accusations_count correct some (accusation_by correct liar words).1 in omega arith

liars_count : (p : Plan) → length (liars p) ≡ liar_count p
liars_count p = length-range_with_len p.correct (p.members - p.correct)

-- The notes of a round are those of the tens that it begins.
tens : (p : Plan) (round : ℕ) (b : Bool) → 1 ≤ round → eqb ((round - 1) % 10) 0 ≡ b
    → length (cond b (notes round (liars p)) []) + 2 * liar_count p * ((round + 8) / 10) ≡ 2 * liar_count p * ((round + 9) / 10)
tens p round true low is =
    let first = eqb-true ((round - 1) % 10) 0 is in
    let next : (round + 9) / 10 ≡ (round + 8) / 10 + 1 = omega (arith, first, low) in
    let many : length (notes round (liars p)) ≡ 2 * liar_count p = notes_count round (liars p) ∙ ap (λ n. 2 * n) (liars_count p) in
    rw (next, many) (omega arith)
tens p round false low is =
    let other : (round - 1) % 10 ≡ 0 → ⊥ = eqb-false ((round - 1) % 10) 0 is in
    let same : (round + 9) / 10 ≡ (round + 8) / 10 = omega (arith, other, low) in
    rw same (omega arith)

sum_up : (some ticks accused later l c more before here behind : ℕ) → some + 2 * l * before ≡ 2 * l * here → later + 2 * l * here ≡ more * (c + 2 * l + 1) + 2 * l * behind + 1 → ticks ≡ c → accused ≡ 2 * l
    → some + (ticks + (accused + suc later)) + 2 * l * before ≡ suc more * (c + 2 * l + 1) + 2 * l * behind + 1
sum_up some ticks accused later l c more before here behind e f g h = omega arith

rounds_count : (p : Plan) (round more : ℕ) (words : Stream) → 1 ≤ round
    → length (rounds_from p round more words) + 2 * liar_count p * ((round + 8) / 10) ≡ more * (p.correct + 2 * liar_count p + 1) + 2 * liar_count p * ((round + more + 8) / 10) + 1
unfolding rounds_from
rounds_count p round zero words low =
    let same : round + 0 + 8 ≡ round + 8 = omega arith in
    rw same (omega arith)
rounds_count p round (suc more) words low =
    let made = accusations p.correct (liars p) words in
    let ticks = map (λ m. lines.Tick m 1) (nodes p) in
    let rest = rounds_from p (round + 1) more made.1 in
    let flow : List WorldLine = lines.Flow 20000 ∷ rest in
    let first = notes_in p round in
    let whole : length (first ++ (ticks ++ (made.0 ++ flow))) ≡ length first + (length ticks + (length made.0 + suc (length rest))) =
    length-append first (ticks ++ (made.0 ++ flow)) ∙ ap (λ n. length first + n) (length-append ticks (made.0 ++ flow) ∙ ap (λ n. length ticks + n) (length-append made.0 flow)) in
    let begun = tens p round (eqb ((round - 1) % 10) 0) low refl in
    let next : round + 1 + 8 ≡ round + 9 = omega arith in
    let behind : round + 1 + more + 8 ≡ round + suc more + 8 = omega arith in
    let others = rw (next, behind) at (rounds_count p (round + 1) more made.1 (omega arith)) in
    let ticked : length ticks ≡ p.correct = length-map (nodes p) (λ m. lines.Tick m 1) ∙ length-range_with_len 0 (p.correct - 0) ∙ omega arith in
    let accused : length made.0 ≡ 2 * liar_count p = accusations_count p.correct (liars p) words ∙ ap (λ n. 2 * n) (liars_count p) in
    ap (λ n. n + 2 * liar_count p * ((round + 8) / 10)) whole
    ∙ sum_up (length first) (length ticks) (length made.0) (length rest) (liar_count p) p.correct more ((round + 8) / 10) ((round + 9) / 10) ((round + suc more + 8) / 10) begun others ticked accused

-- a list of lines of these numbers, with others behind it
mapped_count : (line : ℕ → WorldLine) (a b : ℕ) (rest : List WorldLine) → length (map line (numbers a b) ++ rest) ≡ b - a + length rest
mapped_count line a b rest =
    length-append (map line (numbers a b)) rest ∙ ap (λ n. n + length rest) (length-map (numbers a b) line ∙ length-range_with_len a (b - a))

lines_count : (p : Plan) (words : Stream) → length (lines_by p words) ≡ 4 + (p.correct + (liar_count p + (p.correct + length (rounds_from p 1 p.rounds words))))
lines_count p words =
    let rounds = rounds_from p 1 p.rounds words in
    let starts = map lines.Start (nodes p) ++ rounds in
    let begun : List WorldLine = lines.Begin ∷ starts in
    let lying = map lines.Liar (liars p) ++ begun in
    let a : length starts ≡ p.correct - 0 + length rounds = mapped_count lines.Start 0 p.correct rounds in
    let b : length lying ≡ liar_count p + suc (length starts) = mapped_count lines.Liar p.correct p.members begun in
    let c : length (map lines.Node (nodes p) ++ lying) ≡ p.correct - 0 + length lying = mapped_count lines.Node 0 p.correct lying in
    omega (arith, a, b, c)

sum_whole : (members rounds l c made : ℕ) → l ≡ members / 10 → c ≡ members - members / 10 → made + 2 * l * 0 ≡ rounds * (c + 2 * l + 1) + 2 * l * ((1 + rounds + 8) / 10) + 1
    → 4 + (c + (l + (c + made))) ≡ 3 + members + 1 + c + rounds * (c + 2 * l + 1) + 2 * l * ((rounds + 9) / 10) + 1
sum_whole members rounds l c made e f h =
    let same : 1 + rounds + 8 ≡ rounds + 9 = omega arith in
    let g = rw same at h in
    omega (arith, e, f, g)

pub workload-count : (seed members rounds : ℕ) → length (workload seed members rounds) ≡ line_count members rounds
unfolding workload
workload-count seed members rounds =
    let p = plan_of seed members rounds in
    let words = words_of (of_seed (drawing_seed seed)) in
    let made = length (rounds_from p 1 rounds words) in
    let l : liar_count p ≡ members / 10 = omega arith in
    let whole = sum_whole members rounds (liar_count p) p.correct made l refl (rounds_count p 1 rounds words (omega arith)) in
    let liars_are : 3 + members + 1 + p.correct + rounds * (p.correct + 2 * liar_count p + 1) + 2 * liar_count p * ((rounds + 9) / 10) + 1 ≡ line_count members rounds = rw l refl in
    lines_count p words ∙ whole ∙ liars_are
