-- The lines of a workload are a schedule.
use Rattle.std.proofs.Common.{◌≡◌, ℕ, zero, suc, ◌+◌, ◌-◌, ◌*◌, ◌%◌, ◌<◌, ◌≤◌, Bool, true, false, cond, eqb, List, [], ◌∷◌, ◌++◌, length, map, take, refl, sym, ap, subst, ◌∙◌, arith, codes, add-one}
use Rattle.std.specs.Int.{w64, to_be_bytes}
use Rattle.std.specs.List.{list_any, range_with_len}
use Rattle.std.proofs.lemmas.Bool.{false≢true, ne_eqb}
use Rattle.std.proofs.lemmas.Cmp.{nat_eq_equiv}
use Rattle.std.proofs.lemmas.List.{length-take}
use Rattle.std.proofs.lemmas.List.FromFn.{length-range_with_len}
use Rattle.std.proofs.lemmas.Map.Views.{list_any-from_Contains}
use Rattle.std.proofs.lemmas.Nat.{mul-le}
use Rattle.ff_ids.specs.declared.TheConstants.{LAST_MEMBER, MEMBERS}
use Rattle.rand_core.specs.Stream.{Stream}
use Rattle.rand_chacha.specs.ChaCha.{of_seed}
use Rattle.sha2.specs.Sha256.{sha256}
use Rattle.sha2.proofs.Facts256.{length-sha256}
use Rattle.schedule_world.specs.declared.line.WorldLine.{WorldLine}
use Rattle.schedule_world.specs.declared.line.WorldLine.TheVariants as lines
use Rattle.schedule_world.specs.declared.text.WorldText.{WorldText}
use Rattle.schedule_world.specs.declared.text.WorldText.TheVariants as world
use Rattle.schedule_world.specs.Grammar.{IsNewcomer}
use Rattle.schedule_world.proofs.GrammarLemmas.{newcomer-again}
use Rattle.soak_lines.specs.declared.plan.Plan.{Plan}
use Rattle.soak_lines.specs.Workload.{accusations, draw, drawing_seed, liars, lines_by, nodes, notes, numbers, plan_of, rounds_from, tag_of, words_of, workload}
use Rattle.soak_lines.specs.Places.{IsPlan}
use Rattle.soak_lines.specs.Schedule.{IsSchedule}
use Rattle.soak_lines.proofs.NameLemmas.{named}
use Rattle.soak_lines.proofs.PlaceLemmas.{numbers-more}
use Rattle.soak_lines.proofs.DrawLemmas.{AreWords, drawn}

-- ## A round

-- a number up to this
abbrev UpTo : ℕ → ℕ → Type 0
UpTo high n = (0 ≤ n) × (n ≤ high)

up_to : (high n : ℕ) → n ≤ high → UpTo high n
up_to high n h = (omega arith, h)

abbrev body : ℕ → WorldText
body ticks = world.Body 2 ticks

notes_stand : (round a n t : ℕ) (rest : List WorldLine) → round ≤ 1000 → a + n ≤ MEMBERS → IsSchedule (body t) rest → IsSchedule (body t) (notes round (range_with_len a n) ++ rest)
notes_stand round a zero t rest high few h = h
notes_stand round a (suc n) t rest high few h =
    let m : a ≤ LAST_MEMBER = omega arith in
    let name = named 110 a refl (omega arith) in
    let who = up_to LAST_MEMBER a m in
    (refl, (who, (who, ((omega arith, omega arith), ((omega arith, omega arith), (name, tt))))), (refl, (name, tt), notes_stand round (a + 1) n t rest high (omega arith) h))

notes_or_none : (p : Plan) (b : Bool) (round t : ℕ) (rest : List WorldLine) → IsPlan p → round ≤ 1000 → IsSchedule (body t) rest → IsSchedule (body t) (cond b (notes round (liars p)) [] ++ rest)
notes_or_none p true round t rest is high h = notes_stand round p.correct (p.members - p.correct) t rest high (omega (arith, is.within, is.few)) h
notes_or_none p false round t rest is high h = h

ticks_stand : (a n t u : ℕ) (rest : List WorldLine) → a + n ≤ MEMBERS → u ≡ t + n → u ≤ 100000 → IsSchedule (body u) rest → IsSchedule (body t) (map (λ m. lines.Tick m 1) (range_with_len a n) ++ rest)
ticks_stand a zero t u rest few sum high h = subst (λ (k : ℕ). IsSchedule (body k) rest) (let e : u ≡ t = omega arith in e) h
ticks_stand a (suc n) t u rest few sum high h =
    let m : a ≤ LAST_MEMBER = omega arith in
    (refl, (up_to LAST_MEMBER a m, ((omega arith, omega arith), tt)), ticks_stand (a + 1) n (t + 1) u rest (omega arith) (omega arith) high h)

left_words : (correct : ℕ) (some : List ℕ) (words : Stream) → 0 < correct → correct ≤ 32 → AreWords words → AreWords (accusations correct some words).1
left_words correct [] words low high are = are
left_words correct (liar ∷ some) words low high are =
    let victim = drawn correct words low (omega arith) are in
    let ring = drawn 5 (draw correct words).1 (omega arith) (omega arith) victim.left in
    left_words correct some (draw 5 (draw correct words).1).1 low high ring.left

accusations_stand : (correct a n t : ℕ) (words : Stream) (rest : List WorldLine) → 0 < correct → correct ≤ 32 → a + n ≤ MEMBERS → AreWords words → IsSchedule (body t) rest
    → IsSchedule (body t) ((accusations correct (range_with_len a n) words).0 ++ rest)
accusations_stand correct a zero t words rest low high few are h = h
accusations_stand correct a (suc n) t words rest low high few are h =
    let victim = drawn correct words low (omega arith) are in
    let ring = drawn 5 (draw correct words).1 (omega arith) (omega arith) victim.left in
    let m : a ≤ LAST_MEMBER = omega arith in
    let who = up_to LAST_MEMBER a m in
    let name = named 97 a refl (omega arith) in (
      refl,
      (who, (who, ((omega arith, omega (arith, victim.below)), (tt, ((omega arith, omega (arith, ring.below)), (name, tt)))))),
      (refl, (name, tt), accusations_stand correct (a + 1) n t (draw 5 (draw correct words).1).1 rest low high (omega arith) ring.left h),
    )

rounds_stand : (p : Plan) (round more t : ℕ) (words : Stream) → IsPlan p → 1 ≤ round → round + more ≤ 1001 → t + more * p.correct ≤ 100000 → AreWords words → IsSchedule (body t) (rounds_from p round more words)
unfolding rounds_from
rounds_stand p round zero t words is low high few are = (refl, tt, refl)
rounds_stand p round (suc more) t words is low high few are =
    let c = p.correct in
    let made = accusations c (liars p) words in
    let some = is.some in
    let within = is.within in
    let members = is.few in
    let small : c ≤ 32 = omega arith in
    let sum : t + c + more * c ≤ 100000 = omega arith in
    let top : t + c ≤ 100000 = omega (arith, sum) in
    let others = rounds_stand p (round + 1) more (t + c) made.1 is (omega arith) (omega arith) sum (left_words c (liars p) words some small are) in
    let flow : IsSchedule (body (t + c)) (lines.Flow 20000 ∷ rounds_from p (round + 1) more made.1) = (refl, ((omega arith, omega arith), tt), others) in
    notes_or_none p (eqb ((round - 1) % 10) 0) round t _ is (omega arith)
    (ticks_stand 0 (c - 0) t (t + c) _ (omega arith) (omega arith) top
    (accusations_stand c c (p.members - c) (t + c) words _ some small (omega arith) are flow))

-- ## The roster

starts_stand : (a n : ℕ) (rest : List WorldLine) → a + n ≤ MEMBERS → IsSchedule (body 0) rest → IsSchedule (body 0) (map lines.Start (range_with_len a n) ++ rest)
starts_stand a zero rest few h = h
starts_stand a (suc n) rest few h =
    let m : a ≤ LAST_MEMBER = omega arith in
    (refl, (up_to LAST_MEMBER a m, tt), starts_stand (a + 1) n rest (omega arith) h)

range_more : (a n k : ℕ) → a + n ≡ k → range_with_len a (suc n) ≡ range_with_len a n ++ k ∷ []
range_more a zero k e = ap (λ (m : ℕ). m ∷ []) (let same : a ≡ k = omega arith in same)
range_more a (suc n) k e = ap (λ (some : List ℕ). a ∷ some) (range_more (a + 1) n k (omega arith))

none_named : (a n k : ℕ) → a + n ≤ k → list_any (λ m. eqb k m) (range_with_len a n) ≡ false
none_named a zero k h = refl
none_named a (suc n) k h =
    let other = ne_eqb k a (λ e. absurd (omega (arith, e))) in
    let others = none_named (a + 1) n k (omega arith) in
    rw (other, others) refl

is_newcomer : (a : ℕ) → a < 32 → IsNewcomer (range_with_len 0 a) a
is_newcomer a h =
    let many = length-range_with_len 0 a in
    record {
      range = omega arith;
      few = omega (arith, many);
      unnamed = λ has. false≢true (sym (none_named 0 a a (omega arith)) ∙ list_any-from_Contains nat_eq_equiv a (range_with_len 0 a) has);
    }

-- the numbers from 0 with one more
one_more : (a : ℕ) (names : List ℕ) → names ≡ range_with_len 0 a → names ++ a ∷ [] ≡ range_with_len 0 (a + 1)
one_more a names is = ap (λ (some : List ℕ). some ++ a ∷ []) is ∙ sym (rw add-one (range_more 0 a a (omega arith)))

abbrev roster : List ℕ → WorldText
roster names = world.Roster 2 false names true

liars_stand : (a n : ℕ) (names all : List ℕ) (rest : List WorldLine) → names ≡ range_with_len 0 a → all ≡ range_with_len 0 (a + n) → a + n ≤ 32 → IsSchedule (roster all) rest
    → IsSchedule (roster names) (map lines.Liar (range_with_len a n) ++ rest)
liars_stand a zero names all rest is whole few h =
    let same : a + 0 ≡ a = omega arith in
    subst (λ (some : List ℕ). IsSchedule (roster some) rest) (whole ∙ ap (range_with_len 0) same ∙ sym is) h
liars_stand a (suc n) names all rest is whole few h =
    let same : a + suc n ≡ a + 1 + n = omega arith in (
      refl,
      newcomer-again (roster names) a refl (subst (λ (some : List ℕ). IsNewcomer some a) (sym is) (is_newcomer a (omega arith))),
      liars_stand (a + 1) n (names ++ a ∷ []) all rest (one_more a names is) (whole ∙ ap (range_with_len 0) same) (omega arith) h,
    )

nodes_stand : (a n : ℕ) (names all : List ℕ) (rest : List WorldLine) → names ≡ range_with_len 0 a → all ≡ range_with_len 0 (a + n) → a + n ≤ 32 → IsSchedule (roster all) rest
    → IsSchedule (roster names) (map lines.Node (range_with_len a n) ++ rest)
nodes_stand a zero names all rest is whole few h =
    let same : a + 0 ≡ a = omega arith in
    subst (λ (some : List ℕ). IsSchedule (roster some) rest) (whole ∙ ap (range_with_len 0) same ∙ sym is) h
nodes_stand a (suc n) names all rest is whole few h =
    let same : a + suc n ≡ a + 1 + n = omega arith in (
      refl,
      newcomer-again (roster names) a refl (subst (λ (some : List ℕ). IsNewcomer some a) (sym is) (is_newcomer a (omega arith))),
      nodes_stand (a + 1) n (names ++ a ∷ []) all rest (one_more a names is) (whole ∙ ap (range_with_len 0) same) (omega arith) h,
    )

-- the nodes, of which there is one
all_nodes : (p : Plan) (rest : List WorldLine) → IsPlan p → IsSchedule (roster (nodes p)) rest → IsSchedule (world.Roster 2 false [] false) (map lines.Node (nodes p) ++ rest)
all_nodes p rest is h =
    let some = is.some in
    let within = is.within in
    let members = is.few in
    let first = numbers-more 0 p.correct some in
    let whole : p.correct - 0 ≡ 1 + (p.correct - 1) = omega arith in
    let others = nodes_stand 1 (p.correct - 1) (0 ∷ []) (nodes p) rest refl (ap (range_with_len 0) whole) (omega arith) h in
    let all : IsSchedule (world.Roster 2 false [] false) (map lines.Node (0 ∷ numbers 1 p.correct) ++ rest) = (refl, newcomer-again (world.Roster 2 false [] false) 0 refl (is_newcomer 0 (omega arith)), others) in
    subst (λ (ms : List ℕ). IsSchedule (world.Roster 2 false [] false) (map lines.Node ms ++ rest)) (sym first) all

-- ## The whole

lines_stand : (p : Plan) (words : Stream) → IsPlan p → length p.tag ≡ 16 → AreWords words → IsSchedule world.Start (lines_by p words)
lines_stand p words is tag are =
    let some = is.some in
    let within = is.within in
    let members = is.few in
    let rounds = is.rounds_few in
    let ticks : p.rounds * p.correct ≤ 1000 * 32 = mul-le p.rounds p.correct 1000 32 rounds (omega arith) in
    let later = rounds_stand p 1 p.rounds 0 words is (omega arith) (omega arith) (omega (arith, ticks)) are in
    let begun = starts_stand 0 (p.correct - 0) (rounds_from p 1 p.rounds words) (omega arith) later in
    let all = range_with_len 0 p.members in
    let begin : IsSchedule (roster all) (lines.Begin ∷ (map lines.Start (nodes p) ++ rounds_from p 1 p.rounds words)) = (refl, tt, begun) in
    let top : p.members ≡ p.correct + (p.members - p.correct) = omega arith in
    let named_nodes : p.correct - 0 ≡ p.correct = omega arith in
    let lying = liars_stand p.correct (p.members - p.correct) (nodes p) all _ (ap (range_with_len 0) named_nodes) (ap (range_with_len 0) top) (omega arith) begin in (
      refl,
      tt,
      (
        refl,
        ((omega arith, omega arith), ((omega arith, omega arith), ((omega arith, omega arith), ((omega arith, omega arith), (tag, tt))))),
        (refl, ((refl, (refl, tt)), refl), all_nodes p _ is lying),
      ),
    )

planned : (seed members rounds : ℕ) → 3 ≤ members → members ≤ 32 → rounds ≤ 1000 → IsPlan (plan_of seed members rounds)
planned seed members rounds low high few = record { some = omega arith; within = omega arith; few = high; rounds_few = few }

tagged : (seed : ℕ) → length (tag_of seed) ≡ 16
tagged seed =
    let whole : List ℕ = sha256 (codes "FFSOAK" ++ to_be_bytes w64 seed) in
    let many : length whole ≡ 32 = length-sha256 (codes "FFSOAK" ++ to_be_bytes w64 seed) in
    let half : length (take 16 whole) ≡ 16 = omega (arith, many, length-take 16 whole) in
    half

pub workload-stands : (seed members rounds : ℕ) → 3 ≤ members → members ≤ 32 → rounds ≤ 1000 → IsSchedule world.Start (workload seed members rounds)
unfolding workload
workload-stands seed members rounds low high few =
    lines_stand (plan_of seed members rounds) (words_of (of_seed (drawing_seed seed))) (planned seed members rounds low high few) (tagged seed) (record { generator = of_seed (drawing_seed seed); same = refl })
