-- What is left at each place, where the place may be none of its kind.
use Rattle.std.proofs.Common.{◌≡◌, ℕ, suc, ◌+◌, ◌-◌, ◌%◌, ◌<◌, ◌≤◌, Bool, true, false, cond, eqb, ltb, [], ◌∷◌, ◌++◌, refl, sym, ◌∙◌, arith, ltb-true, eq-eqb}
use Rattle.std.proofs.lemmas.Bool.{eqb-true, eqb-false, ltb-false, ne_eqb}
use Rattle.rand_core.specs.Stream.{Stream}
use Rattle.soak_lines.specs.declared.plan.Plan.{Plan}
use Rattle.soak_lines.specs.declared.place.Head.TheVariants as head
use Rattle.soak_lines.specs.declared.place.Step.TheVariants as step
use Rattle.soak_lines.specs.declared.place.Place.TheVariants as place
use Rattle.soak_lines.specs.Workload.{lines_by, notes_in, numbers, rounds_from}
use Rattle.soak_lines.specs.Places.{IsPlace, accusation_place, accusations_left, left, liar_place, liars_left, node_place, nodes_left, note_place, notes_left, round_place, rounds_left, start_place, starts_left, tick_place, ticks_left}

-- ## Numbers

pub numbers-more : (m n : ℕ) → m < n → numbers m n ≡ m ∷ numbers (m + 1) n
numbers-more m n h =
    let e : n - m ≡ suc (n - (m + 1)) = omega arith in
    rw e refl

numbers_none : (m n : ℕ) → n ≤ m → numbers m n ≡ []
numbers_none m n h =
    let e : n - m ≡ 0 = omega arith in
    rw e refl

-- ## Lines that are left

accusation_is : (p : Plan) (round m : ℕ) (words : Stream) (b : Bool) → ltb m p.members ≡ b → left p (cond b (place.Round round (step.SignAccusation m)) (place.Round round step.Flow)) words ≡ accusations_left p round m words
unfolding left
accusation_is p round m words true is = refl
accusation_is p round m words false is =
    let none = numbers_none m p.members (ltb-false m p.members is) in
    rw none refl

pub accusation-is : (p : Plan) (round m : ℕ) (words : Stream) → left p (accusation_place p round m) words ≡ accusations_left p round m words
accusation-is p round m words = accusation_is p round m words (ltb m p.members) refl

tick_is : (p : Plan) (round m : ℕ) (words : Stream) (b : Bool) → ltb m p.correct ≡ b → left p (cond b (place.Round round (step.Tick m)) (accusation_place p round p.correct)) words ≡ ticks_left p round m words
unfolding left
tick_is p round m words true is = refl
tick_is p round m words false is =
    let none = numbers_none m p.correct (ltb-false m p.correct is) in
    rw none (accusation-is p round p.correct words)

pub tick-is : (p : Plan) (round m : ℕ) (words : Stream) → left p (tick_place p round m) words ≡ ticks_left p round m words
tick-is p round m words = tick_is p round m words (ltb m p.correct) refl

note_is : (p : Plan) (round m : ℕ) (words : Stream) (b : Bool) → ltb m p.members ≡ b → left p (cond b (place.Round round (step.SignNote m)) (tick_place p round 0)) words ≡ notes_left p round m words
unfolding left
note_is p round m words true is = refl
note_is p round m words false is =
    let none = numbers_none m p.members (ltb-false m p.members is) in
    rw none (tick-is p round 0 words)

pub note-is : (p : Plan) (round m : ℕ) (words : Stream) → left p (note_place p round m) words ≡ notes_left p round m words
note-is p round m words = note_is p round m words (ltb m p.members) refl

-- a round that comes begins with its notes
round_more : (p : Plan) (round : ℕ) (words : Stream) → round ≤ p.rounds → rounds_left p round words ≡ notes_in p round ++ ticks_left p round 0 words
unfolding rounds_from
round_more p round words h =
    let e : p.rounds + 1 - round ≡ suc (p.rounds + 1 - (round + 1)) = omega arith in
    rw e refl

noted : (p : Plan) (round : ℕ) (words : Stream) (b : Bool) → 1 ≤ round → eqb (round % 10) 1 ≡ b → left p (cond b (note_place p round p.correct) (tick_place p round 0)) words ≡ notes_in p round ++ ticks_left p round 0 words
noted p round words true low is =
    let here : eqb ((round - 1) % 10) 0 ≡ true = eq-eqb ((round - 1) % 10) 0 (let first = eqb-true (round % 10) 1 is in omega (arith, first, low)) in
    rw here (note-is p round p.correct words)
noted p round words false low is =
    let other : round % 10 ≡ 1 → ⊥ = eqb-false (round % 10) 1 is in
    let here : eqb ((round - 1) % 10) 0 ≡ false = ne_eqb ((round - 1) % 10) 0 (λ e. other (omega (arith, e, low))) in
    rw here (tick-is p round 0 words)

round_is : (p : Plan) (round : ℕ) (words : Stream) (b : Bool) → 1 ≤ round → ltb p.rounds round ≡ b → left p (cond b place.End (cond (eqb (round % 10) 1) (note_place p round p.correct) (tick_place p round 0))) words ≡ rounds_left p round words
unfolding left rounds_from
round_is p round words true low is =
    let past = ltb-true p.rounds round is in
    let e : p.rounds + 1 - round ≡ 0 = omega arith in
    rw e refl
round_is p round words false low is = noted p round words (eqb (round % 10) 1) low refl ∙ sym (round_more p round words (ltb-false p.rounds round is))

pub round-is : (p : Plan) (round : ℕ) (words : Stream) → 1 ≤ round → left p (round_place p round) words ≡ rounds_left p round words
round-is p round words low = round_is p round words (ltb p.rounds round) low refl

start_is : (p : Plan) (m : ℕ) (words : Stream) (b : Bool) → ltb m p.correct ≡ b → left p (cond b (place.Head (head.Start m)) (round_place p 1)) words ≡ starts_left p m words
unfolding left
start_is p m words true is = refl
start_is p m words false is =
    let none = numbers_none m p.correct (ltb-false m p.correct is) in
    rw none (round-is p 1 words (omega arith))

pub start-is : (p : Plan) (m : ℕ) (words : Stream) → left p (start_place p m) words ≡ starts_left p m words
start-is p m words = start_is p m words (ltb m p.correct) refl

liar_is : (p : Plan) (m : ℕ) (words : Stream) (b : Bool) → ltb m p.members ≡ b → left p (cond b (place.Head (head.Liar m)) (place.Head head.Begin)) words ≡ liars_left p m words
unfolding left
liar_is p m words true is = refl
liar_is p m words false is =
    let none = numbers_none m p.members (ltb-false m p.members is) in
    rw none refl

pub liar-is : (p : Plan) (m : ℕ) (words : Stream) → left p (liar_place p m) words ≡ liars_left p m words
liar-is p m words = liar_is p m words (ltb m p.members) refl

node_is : (p : Plan) (m : ℕ) (words : Stream) (b : Bool) → ltb m p.correct ≡ b → left p (cond b (place.Head (head.Node m)) (liar_place p p.correct)) words ≡ nodes_left p m words
unfolding left
node_is p m words true is = refl
node_is p m words false is =
    let none = numbers_none m p.correct (ltb-false m p.correct is) in
    rw none (liar-is p p.correct words)

pub node-is : (p : Plan) (m : ℕ) (words : Stream) → left p (node_place p m) words ≡ nodes_left p m words
node-is p m words = node_is p m words (ltb m p.correct) refl

-- all lines are left at the header
pub header-is : (p : Plan) (words : Stream) → left p (place.Head head.Header) words ≡ lines_by p words
unfolding left
header-is p words =
    let e : p.rounds + 1 - 1 ≡ p.rounds = omega arith in
    rw e refl

-- ## Places that come

accusation_ok : (p : Plan) (round m : ℕ) (b : Bool) → ltb m p.members ≡ b → 1 ≤ round → round ≤ p.rounds → p.correct ≤ m → IsPlace p (cond b (place.Round round (step.SignAccusation m)) (place.Round round step.Flow))
accusation_ok p round m true is low high liar = (low, high, (liar, ltb-true m p.members is))
accusation_ok p round m false is low high liar = (low, high, tt)

pub accusation-ok : (p : Plan) (round m : ℕ) → 1 ≤ round → round ≤ p.rounds → p.correct ≤ m → IsPlace p (accusation_place p round m)
accusation-ok p round m low high liar = accusation_ok p round m (ltb m p.members) refl low high liar

tick_ok : (p : Plan) (round m : ℕ) (b : Bool) → ltb m p.correct ≡ b → 1 ≤ round → round ≤ p.rounds → IsPlace p (cond b (place.Round round (step.Tick m)) (accusation_place p round p.correct))
tick_ok p round m true is low high = (low, high, ltb-true m p.correct is)
tick_ok p round m false is low high = accusation-ok p round p.correct low high (omega arith)

pub tick-ok : (p : Plan) (round m : ℕ) → 1 ≤ round → round ≤ p.rounds → IsPlace p (tick_place p round m)
tick-ok p round m low high = tick_ok p round m (ltb m p.correct) refl low high

note_ok : (p : Plan) (round m : ℕ) (b : Bool) → ltb m p.members ≡ b → 1 ≤ round → round ≤ p.rounds → p.correct ≤ m → IsPlace p (cond b (place.Round round (step.SignNote m)) (tick_place p round 0))
note_ok p round m true is low high liar = (low, high, (liar, ltb-true m p.members is))
note_ok p round m false is low high liar = tick-ok p round 0 low high

pub note-ok : (p : Plan) (round m : ℕ) → 1 ≤ round → round ≤ p.rounds → p.correct ≤ m → IsPlace p (note_place p round m)
note-ok p round m low high liar = note_ok p round m (ltb m p.members) refl low high liar

either_ok : (p : Plan) (round : ℕ) (b : Bool) → 1 ≤ round → round ≤ p.rounds → IsPlace p (cond b (note_place p round p.correct) (tick_place p round 0))
either_ok p round true low high = note-ok p round p.correct low high (omega arith)
either_ok p round false low high = tick-ok p round 0 low high

round_ok : (p : Plan) (round : ℕ) (b : Bool) → ltb p.rounds round ≡ b → 1 ≤ round → IsPlace p (cond b place.End (cond (eqb (round % 10) 1) (note_place p round p.correct) (tick_place p round 0)))
round_ok p round true is low = tt
round_ok p round false is low = either_ok p round (eqb (round % 10) 1) low (ltb-false p.rounds round is)

pub round-ok : (p : Plan) (round : ℕ) → 1 ≤ round → IsPlace p (round_place p round)
round-ok p round low = round_ok p round (ltb p.rounds round) refl low

start_ok : (p : Plan) (m : ℕ) (b : Bool) → ltb m p.correct ≡ b → IsPlace p (cond b (place.Head (head.Start m)) (round_place p 1))
start_ok p m true is = ltb-true m p.correct is
start_ok p m false is = round-ok p 1 (omega arith)

pub start-ok : (p : Plan) (m : ℕ) → IsPlace p (start_place p m)
start-ok p m = start_ok p m (ltb m p.correct) refl

liar_ok : (p : Plan) (m : ℕ) (b : Bool) → ltb m p.members ≡ b → p.correct ≤ m → IsPlace p (cond b (place.Head (head.Liar m)) (place.Head head.Begin))
liar_ok p m true is liar = (liar, ltb-true m p.members is)
liar_ok p m false is liar = tt

pub liar-ok : (p : Plan) (m : ℕ) → p.correct ≤ m → IsPlace p (liar_place p m)
liar-ok p m liar = liar_ok p m (ltb m p.members) refl liar

node_ok : (p : Plan) (m : ℕ) (b : Bool) → ltb m p.correct ≡ b → IsPlace p (cond b (place.Head (head.Node m)) (liar_place p p.correct))
node_ok p m true is = ltb-true m p.correct is
node_ok p m false is = liar-ok p p.correct (omega arith)

pub node-ok : (p : Plan) (m : ℕ) → IsPlace p (node_place p m)
node-ok p m = node_ok p m (ltb m p.correct) refl
