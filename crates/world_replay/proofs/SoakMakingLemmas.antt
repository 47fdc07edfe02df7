-- Of which lines a workload is made.
use Rattle.std.proofs.Common.{None, ℕ, zero, suc, ◌+◌, ◌-◌, ◌%◌, ◌<◌, Bool, true, false, cond, eqb, List, [], ◌∷◌, ◌++◌, map, take, arith, codes}
use Rattle.std.specs.Prelude.{slice_index}
use Rattle.std.specs.Int.{w32, w64, to_be_bytes}
use Rattle.std.specs.List.{AllByRecursion}
use Rattle.rand_core.specs.Stream.{Stream}
use Rattle.rand_chacha.specs.ChaCha.{of_seed}
use Rattle.sha2.specs.Sha256.{digest_bytes, sha256}
use Rattle.hex.specs.Hex.{IsBytes}
use Rattle.schedule_world.specs.declared.line.WorldLine.{WorldLine}
use Rattle.schedule_world.specs.declared.line.WorldLine.TheVariants as lines
use Rattle.soak_lines.specs.declared.plan.Plan.{Plan}
use Rattle.soak_lines.specs.Workload.{accusation_by, accusations, drawing_seed, liars, lines_by, nodes, notes, plan_of, rounds_from, tag_of, words_of, workload}

-- Such lines as a workload is made of.
abbrev pub IsOfWorkload : WorldLine → Type 0
IsOfWorkload lines.Header = Unit {0}
IsOfWorkload (lines.Group g) = IsBytes g.tag
IsOfWorkload (lines.Kinds ots tree None) = Unit {0}
IsOfWorkload (lines.Node m) = Unit {0}
IsOfWorkload (lines.Liar m) = Unit {0}
IsOfWorkload lines.Begin = Unit {0}
IsOfWorkload (lines.Start m) = Unit {0}
IsOfWorkload (lines.Tick m ticks) = Unit {0}
IsOfWorkload (lines.Flow most) = Unit {0}
IsOfWorkload (lines.SignNote key n name) = Unit {0}
IsOfWorkload (lines.SignAccusation key accuser accused epoch ring name) = Unit {0}
IsOfWorkload (lines.GiveAll name) = Unit {0}
IsOfWorkload lines.End = Unit {0}
IsOfWorkload line = ⊥

-- ---- the tag

abbrev AreBytes : List ℕ → Type 0
AreBytes xs = AllByRecursion (λ b. b < 256) xs

bytes-append : (xs ys : List ℕ) → AreBytes xs → AreBytes ys → AreBytes (xs ++ ys)
bytes-append [] ys a b = b
bytes-append (x ∷ xs) ys a b = (a.0, bytes-append xs ys a.1 b)

word-bytes : (n : ℕ) → AreBytes (to_be_bytes w32 n)
word-bytes n = (omega arith, (omega arith, (omega arith, (omega arith, tt))))

digest-bytes : (h : List ℕ) (n : ℕ) → AreBytes (digest_bytes h n)
unfolding digest_bytes
digest-bytes h zero = tt
digest-bytes h (suc n) = bytes-append (digest_bytes h n) (to_be_bytes w32 (slice_index h n)) (digest-bytes h n) (word-bytes (slice_index h n))

hash-bytes : (m : List ℕ) → AreBytes (sha256 m)
unfolding sha256
hash-bytes m = digest-bytes _ 8

bytes-take : (n : ℕ) (xs : List ℕ) → AreBytes xs → AreBytes (take n xs)
bytes-take zero xs h = tt
bytes-take (suc n) [] h = tt
bytes-take (suc n) (x ∷ xs) h = (h.0, bytes-take n xs h.1)

bytes-at : (xs : List ℕ) → AreBytes xs → (i : ℕ) → slice_index xs i < 256
bytes-at [] h i = omega arith
bytes-at (x ∷ xs) h zero = h.0
bytes-at (x ∷ xs) h (suc i) = bytes-at xs h.1 i

tag-bytes : (seed : ℕ) → IsBytes (tag_of seed)
tag-bytes seed = bytes-at (tag_of seed) (bytes-take 16 (sha256 (codes "FFSOAK" ++ to_be_bytes w64 seed)) (hash-bytes (codes "FFSOAK" ++ to_be_bytes w64 seed)))

-- ---- the lines

abbrev AreOf : List WorldLine → Type 0
AreOf ls = AllByRecursion IsOfWorkload ls

notes-of : (round : ℕ) (some : List ℕ) (rest : List WorldLine) → AreOf rest → AreOf (notes round some ++ rest)
notes-of round [] rest h = h
notes-of round (liar ∷ some) rest h = (tt, (tt, notes-of round some rest h))

notes-or-none : (b : Bool) (round : ℕ) (some : List ℕ) (rest : List WorldLine) → AreOf rest → AreOf (cond b (notes round some) [] ++ rest)
notes-or-none true round some rest h = notes-of round some rest h
notes-or-none false round some rest h = h

ticks-of : (some : List ℕ) (rest : List WorldLine) → AreOf rest → AreOf (map (λ m. lines.Tick m 1) some ++ rest)
ticks-of [] rest h = h
ticks-of (m ∷ some) rest h = (tt, ticks-of some rest h)

starts-of : (some : List ℕ) (rest : List WorldLine) → AreOf rest → AreOf (map lines.Start some ++ rest)
starts-of [] rest h = h
starts-of (m ∷ some) rest h = (tt, starts-of some rest h)

nodes-of : (some : List ℕ) (rest : List WorldLine) → AreOf rest → AreOf (map lines.Node some ++ rest)
nodes-of [] rest h = h
nodes-of (m ∷ some) rest h = (tt, nodes-of some rest h)

liars-of : (some : List ℕ) (rest : List WorldLine) → AreOf rest → AreOf (map lines.Liar some ++ rest)
liars-of [] rest h = h
liars-of (m ∷ some) rest h = (tt, liars-of some rest h)

accusations-of : (correct : ℕ) (some : List ℕ) (words : Stream) (rest : List WorldLine) → AreOf rest → AreOf ((accusations correct some words).0 ++ rest)
accusations-of correct [] words rest h = h
accusations-of correct (liar ∷ some) words rest h = (tt, (tt, accusations-of correct some (accusation_by correct liar words).1 rest h))

rounds-of : (p : Plan) (round more : ℕ) (words : Stream) → AreOf (rounds_from p round more words)
unfolding rounds_from
rounds-of p round zero words = (tt, tt)
rounds-of p round (suc more) words =
    let made = accusations p.correct (liars p) words in
    let flow : AreOf (lines.Flow 20000 ∷ rounds_from p (round + 1) more made.1) = (tt, rounds-of p (round + 1) more made.1) in
    notes-or-none (eqb ((round - 1) % 10) 0) round (liars p) _ (ticks-of (nodes p) _ (accusations-of p.correct (liars p) words _ flow))

lines-of : (p : Plan) (words : Stream) → IsBytes p.tag → AreOf (lines_by p words)
lines-of p words tag =
    let begun : AreOf (lines.Begin ∷ (map lines.Start (nodes p) ++ rounds_from p 1 p.rounds words)) = (tt, starts-of (nodes p) _ (rounds-of p 1 p.rounds words)) in
    (tt, (tag, (tt, nodes-of (nodes p) _ (liars-of (liars p) _ begun))))

pub workload-made : (seed members rounds : ℕ) → AreOf (workload seed members rounds)
unfolding workload
workload-made seed members rounds = lines-of (plan_of seed members rounds) (words_of (of_seed (drawing_seed seed))) (tag-bytes seed)
