-- Each line is the first of those that are left at its place.
use Rattle.std.proofs.Common.{◌≡◌, ℕ, ◌+◌, ◌<◌, ◌≤◌, List, [], ◌∷◌, Option, Some, None, refl, sym, ap, subst, ◌∙◌, arith}
use Rattle.rand_core.specs.Stream.{Stream}
use Rattle.lms_ots.specs.declared.kind.OtsKind.TheVariants.{W4}
use Rattle.lms_tree.specs.declared.kind.TreeKind.TheVariants.{H10}
use Rattle.schedule_world.specs.declared.line.WorldLine.{WorldLine}
use Rattle.schedule_world.specs.declared.line.WorldLine.TheVariants as lines
use Rattle.soak_lines.specs.declared.plan.Plan.{Plan}
use Rattle.soak_lines.specs.declared.place.Head.{Head}
use Rattle.soak_lines.specs.declared.place.Head.TheVariants as head
use Rattle.soak_lines.specs.declared.place.Step.{Step}
use Rattle.soak_lines.specs.declared.place.Step.TheVariants as step
use Rattle.soak_lines.specs.declared.place.Place.{Place}
use Rattle.soak_lines.specs.declared.place.Place.TheVariants as place
use Rattle.soak_lines.specs.declared.turn.Turn.{Turn}
use Rattle.soak_lines.specs.Workload.{accusation_by, accusation_name, note_line, note_name}
use Rattle.soak_lines.specs.Places.{IsHead, IsPlace, IsStep, accusations_left, head_left, left, liars_left, nodes_left, notes_left, round_left, starts_left, ticks_left}
use Rattle.soak_lines.specs.Turns.{head_turn, round_turn, turn_at}
use Rattle.soak_lines.proofs.PlaceLemmas.{accusation-is, accusation-ok, liar-is, liar-ok, node-is, node-ok, note-is, note-ok, numbers-more, round-is, round-ok, start-is, start-ok, tick-is, tick-ok}

-- ## One line more

nodes_more : (p : Plan) (m : ℕ) (words : Stream) → m < p.correct → nodes_left p m words ≡ lines.Node m ∷ nodes_left p (m + 1) words
nodes_more p m words h = let e = numbers-more m p.correct h in rw e refl

liars_more : (p : Plan) (m : ℕ) (words : Stream) → m < p.members → liars_left p m words ≡ lines.Liar m ∷ liars_left p (m + 1) words
liars_more p m words h = let e = numbers-more m p.members h in rw e refl

starts_more : (p : Plan) (m : ℕ) (words : Stream) → m < p.correct → starts_left p m words ≡ lines.Start m ∷ starts_left p (m + 1) words
starts_more p m words h = let e = numbers-more m p.correct h in rw e refl

notes_more : (p : Plan) (round m : ℕ) (words : Stream) → m < p.members → notes_left p round m words ≡ note_line round m ∷ lines.GiveAll (note_name m) ∷ notes_left p round (m + 1) words
notes_more p round m words h = let e = numbers-more m p.members h in rw e refl

ticks_more : (p : Plan) (round m : ℕ) (words : Stream) → m < p.correct → ticks_left p round m words ≡ lines.Tick m 1 ∷ ticks_left p round (m + 1) words
ticks_more p round m words h = let e = numbers-more m p.correct h in rw e refl

accusations_more : (p : Plan) (round m : ℕ) (words : Stream) → m < p.members
    → accusations_left p round m words ≡ (accusation_by p.correct m words).0 ∷ lines.GiveAll (accusation_name m) ∷ accusations_left p round (m + 1) (accusation_by p.correct m words).1
accusations_more p round m words h = let e = numbers-more m p.members h in rw e refl

-- ## The line at a place

-- The turn gives the first line of those left, leaves the others, and leads to a place that comes.
pub record Leads (p : Plan) (before : List WorldLine) (t : Turn) (words : Stream) : Type 0 where
  pub given : before ≡ t.line ∷ left p t.place words
  pub comes : IsPlace p t.place

onto : (line : WorldLine) (some others : List WorldLine) → some ≡ others → line ∷ some ≡ line ∷ others
onto line some others e = ap (λ (more : List WorldLine). line ∷ more) e

head_leads : (p : Plan) (h : Head) (words : Stream) → IsHead p h → Leads p (head_left p h words) (head_turn p h) words
unfolding left
head_leads p head.Header words is = record { given = refl; comes = tt }
head_leads p head.Group words is = record { given = refl; comes = tt }
head_leads p head.Kinds words is = record { given = onto (lines.Kinds W4 H10 None) _ _ (sym (node-is p 0 words)); comes = node-ok p 0 }
head_leads p (head.Node m) words is =
    record { given = nodes_more p m words is ∙ onto (lines.Node m) _ _ (sym (node-is p (m + 1) words)); comes = node-ok p (m + 1) }
head_leads p (head.Liar m) words is =
    record { given = liars_more p m words is.1 ∙ onto (lines.Liar m) _ _ (sym (liar-is p (m + 1) words)); comes = liar-ok p (m + 1) (omega (arith, is.0)) }
head_leads p head.Begin words is = record { given = onto lines.Begin _ _ (sym (start-is p 0 words)); comes = start-ok p 0 }
head_leads p (head.Start m) words is =
    record { given = starts_more p m words is ∙ onto (lines.Start m) _ _ (sym (start-is p (m + 1) words)); comes = start-ok p (m + 1) }

round_leads : (p : Plan) (round : ℕ) (s : Step) (words : Stream) → 1 ≤ round → round ≤ p.rounds → IsStep p s → Leads p (round_left p round s words) (round_turn p round s words).0 (round_turn p round s words).1
unfolding left
round_leads p round (step.SignNote m) words low high is = record { given = notes_more p round m words is.1; comes = (low, high, is) }
round_leads p round (step.GiveNote m) words low high is =
    record { given = onto (lines.GiveAll (note_name m)) _ _ (sym (note-is p round (m + 1) words)); comes = note-ok p round (m + 1) low high (omega (arith, is.0)) }
round_leads p round (step.Tick m) words low high is =
    record { given = ticks_more p round m words is ∙ onto (lines.Tick m 1) _ _ (sym (tick-is p round (m + 1) words)); comes = tick-ok p round (m + 1) low high }
round_leads p round (step.SignAccusation m) words low high is = record { given = accusations_more p round m words is.1; comes = (low, high, is) }
round_leads p round (step.GiveAccusation m) words low high is =
    record { given = onto (lines.GiveAll (accusation_name m)) _ _ (sym (accusation-is p round (m + 1) words)); comes = accusation-ok p round (m + 1) low high (omega (arith, is.0)) }
round_leads p round step.Flow words low high is =
    record { given = onto (lines.Flow 20000) _ _ (sym (round-is p (round + 1) words (omega arith))); comes = round-ok p (round + 1) (omega arith) }

-- What a turn leads to, if there is one; else no line is left, now and behind it.
abbrev pub Follows : Plan → Place → Stream → Option Turn → Stream → Type 0
Follows p here words (Some t) more = Leads p (left p here words) t more
Follows p here words None more = (left p here words ≡ []) × (left p here more ≡ [])

pub follows : (p : Plan) (here : Place) (words : Stream) → IsPlace p here → Follows p here words (turn_at p here words).0 (turn_at p here words).1
unfolding left
follows p (place.Head h) words is = head_leads p h words is
follows p (place.Round round s) words is = round_leads p round s words is.0 is.1 is.2
follows p place.End words is = record { given = refl; comes = tt }
follows p place.Done words is = (refl, refl)

pub some-follows : (p : Plan) (here : Place) (words : Stream) (o : Option Turn) (t : Turn) (more : Stream) → IsPlace p here → (o, more) ≡ turn_at p here words → o ≡ Some t → Leads p (left p here words) t more
some-follows p here words o t more is turned e =
    let f : Follows p here words o more = subst (λ (x : Option Turn × Stream). Follows p here words x.0 x.1) (sym turned) (follows p here words is) in
    subst (λ (x : Option Turn). Follows p here words x more) e f

pub none-follows : (p : Plan) (here : Place) (words : Stream) (o : Option Turn) (more : Stream) → IsPlace p here → (o, more) ≡ turn_at p here words → o ≡ None → (left p here words ≡ []) × (left p here more ≡ [])
none-follows p here words o more is turned e =
    let f : Follows p here words o more = subst (λ (x : Option Turn × Stream). Follows p here words x.0 x.1) (sym turned) (follows p here words is) in
    subst (λ (x : Option Turn). Follows p here words x more) e f
