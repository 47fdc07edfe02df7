-- Over a whole walk the numbers of the datagrams that flows hand over rise.
use Rattle.std.proofs.Common.{◌≡◌, ℕ, ◌<◌, ◌≤◌, List, [], ◌∷◌, ◌++◌, Option, Some, None, refl, ap, sym, subst, arith}
use Rattle.std.specs.Prelude.{Result, Ok, Err}
use Rattle.std.specs.List.{AllByRecursion}
use Rattle.signer.specs.Lives.{IsRising}
use Rattle.line_text.specs.declared.bad_word.BadWord.{BadWord}
use Rattle.schedule_world.specs.declared.line.WorldLine.{WorldLine}
use Rattle.schedule_world.specs.declared.line.WorldLine.TheVariants as lines
use Rattle.world_rules.specs.Settings.{Setting}
use Rattle.world_rules.specs.Worlds.{World}
use Rattle.world_rules.specs.Forgeries.{Forgery}
use Rattle.world_rules.specs.Steps.{Answer, step}
use Rattle.world_rules.specs.Walk.{Brought, Grammar, Lists, Plays, Roster, Stage, Taken, Walk, at_end, brought, from_answer, from_line, no_roster, setting_in, stepped, walk}
use Rattle.world_laws.specs.Flows.{FlowsOn, Handed, flowed_by, flowed_in, handed_over, numbers_of}
use Rattle.world_laws.specs.Texts.{FlowsTakeEachOnce, world_grammar}
use Rattle.world_laws.proofs.Flowing.{flows-go-on, line-steps}

-- The datagrams below this number were taken by flows.
abbrev flowed_at : Stage → ℕ
flowed_at (Lists r) = 0
flowed_at (Plays s w) = w.flowed

-- These numbers rise, from the one on and below the other.
record Rise (low high : ℕ) (numbers : List ℕ) : Type 0 where
  onward : low ≤ high
  rise : IsRising numbers
  among : AllByRecursion (λ n. (low ≤ n) × (n < high)) numbers

-- These rise, from the one on.
record RiseFrom (low : ℕ) (numbers : List ℕ) : Type 0 where
  rise : IsRising numbers
  from : AllByRecursion (λ n. low ≤ n) numbers

rise-none : (low high : ℕ) → low ≤ high → Rise low high []
rise-none low high less = record { onward = less; rise = tt; among = tt }

all-front : (P : ℕ → Type 0) (xs ys : List ℕ) → AllByRecursion P xs → AllByRecursion P ys → AllByRecursion P (xs ++ ys)
all-front P [] ys h k = k
all-front P (x ∷ xs) ys h k = (h.0, all-front P xs ys h.1 k)

all-from : (low high : ℕ) (xs : List ℕ) → low ≤ high → AllByRecursion (λ n. high ≤ n) xs → AllByRecursion (λ n. low ≤ n) xs
all-from low high [] less h = tt
all-from low high (x ∷ xs) less h = (omega (arith, h.0, less), all-from low high xs less h.1)

all-above : (x high : ℕ) (xs : List ℕ) → x < high → AllByRecursion (λ n. high ≤ n) xs → AllByRecursion (λ n. x < n) xs
all-above x high [] less h = tt
all-above x high (y ∷ xs) less h = (omega (arith, h.0, less), all-above x high xs less h.1)

all-lower : (low high : ℕ) (xs : List ℕ) → AllByRecursion (λ n. (low ≤ n) × (n < high)) xs → AllByRecursion (λ n. low ≤ n) xs
all-lower low high [] h = tt
all-lower low high (x ∷ xs) h = (h.0.0, all-lower low high xs h.1)

rising-both : (low high : ℕ) (xs ys : List ℕ) → IsRising xs → AllByRecursion (λ n. (low ≤ n) × (n < high)) xs → IsRising ys → AllByRecursion (λ n. high ≤ n) ys → IsRising (xs ++ ys)
rising-both low high [] ys rise among rest from = rest
rising-both low high (x ∷ xs) ys rise among rest from = (all-front (λ n. x < n) xs ys rise.0 (all-above x high ys among.0.1 from), rising-both low high xs ys rise.1 among.1 rest from)

rise-then : (low high : ℕ) (xs ys : List ℕ) → Rise low high xs → RiseFrom high ys → RiseFrom low (xs ++ ys)
rise-then low high xs ys h k =
    record {
      rise = rising-both low high xs ys h.rise h.among k.rise k.from;
      from = all-front (λ n. low ≤ n) xs ys (all-lower low high xs h.among) (all-from low high ys h.onward k.from);
    }

-- ---- a line

numbers-rise : (low high : ℕ) (handed : List Handed) → low ≤ high → IsRising (numbers_of handed) → AllByRecursion (λ h. (low ≤ h.number) × (h.number < high)) handed → Rise low high (numbers_of handed)
numbers-rise low high handed less rise among = record { onward = less; rise = rise; among = each handed among }
  where
    each : (xs : List Handed) → AllByRecursion (λ h. (low ≤ h.number) × (h.number < high)) xs → AllByRecursion (λ n. (low ≤ n) × (n < high)) (numbers_of xs)
    each [] h = tt
    each (x ∷ xs) h = (h.0, each xs h.1)

flow-rises : (most : ℕ) (s : Setting) (w : World) (a : Answer) → step s w (lines.Flow most) ≡ Ok a → Rise w.flowed a.world.flowed (numbers_of (handed_over a.told))
flow-rises most s w a is =
    let h : FlowsOn most w a.world a.told = flows-go-on s w most a is in
    numbers-rise w.flowed a.world.flowed (handed_over a.told) (omega (arith, h.until)) h.rise h.among

line-onward : (s : Setting) (w : World) (line : WorldLine) (a : Answer) → step s w line ≡ Ok a → w.flowed ≤ a.world.flowed
line-onward s w line a is = let h = line-steps s w line a is in omega (arith, h.goes.until)

abbrev taken_of : Stage → WorldLine → Brought → Taken
taken_of stage line b = record { before = stage; line = line; brought = b }

played-rises : (s : Setting) (w : World) (line : WorldLine) (a : Answer) → step s w line ≡ Ok a → Rise w.flowed a.world.flowed (flowed_by (taken_of (Plays s w) line (record { stage = Plays s a.world; verdict = a.verdict; told = a.told })))
played-rises s w (lines.Flow most) a is = flow-rises most s w a is
played-rises s w line a is = rise-none w.flowed a.world.flowed (line-onward s w line a is)

ok-is : (x y : Brought) → (let r : Result Brought Forgery = Ok x in r) ≡ Ok y → x ≡ y
ok-is x y e = cc

stepped-rises : (s : Setting) (w : World) (line : WorldLine) (r : Result Answer Forgery) (b : Brought) → step s w line ≡ r → stepped s r ≡ Ok b → Rise w.flowed (flowed_at b.stage) (flowed_by (taken_of (Plays s w) line b))
stepped-rises s w line (Err found) b is e = cc
stepped-rises s w line (Ok a) b is e = subst (λ (x : Brought). Rise w.flowed (flowed_at x.stage) (flowed_by (taken_of (Plays s w) line x))) (ok-is _ _ e) (played-rises s w line a is)

-- A line of a roster reports nothing.
listed-rises : (r : Roster) (line : WorldLine) (b : Brought) → b.told ≡ [] → Rise 0 (flowed_at b.stage) (flowed_by (taken_of (Lists r) line b))
listed-rises r (lines.Flow most) b none = subst (λ xs. Rise 0 (flowed_at b.stage) (numbers_of (handed_over xs))) (sym none) (rise-none 0 (flowed_at b.stage) (omega arith))
listed-rises r line b none = rise-none 0 (flowed_at b.stage) (omega arith)

line-rises : (stage : Stage) (line : WorldLine) (b : Brought) → brought setting_in stage line ≡ Ok b → Rise (flowed_at stage) (flowed_at b.stage) (flowed_by (taken_of stage line b))
line-rises (Lists r) line b e = listed-rises r line b (sym (ap (λ (x : Brought). x.told) (ok-is _ _ e)))
line-rises (Plays s w) line b e = stepped-rises s w line (step s w line) b refl e

-- ---- the walk

abbrev WalkRises : Stage → Walk → Type 0
WalkRises stage w = RiseFrom (flowed_at stage) (flowed_in w.taken)

none-from : (low : ℕ) → RiseFrom low []
none-from low = record { rise = tt; from = tt }

end-rises : (stage : Stage) (fault : Option BadWord) → WalkRises stage (at_end stage fault)
end-rises stage None = none-from (flowed_at stage)
end-rises stage (Some bad) = none-from (flowed_at stage)

answer-rises : (stage : Stage) (line : WorldLine) (r : Result Brought Forgery) (rest : Stage → Walk) → brought setting_in stage line ≡ r → ((after : Stage) → WalkRises after (rest after)) → WalkRises stage (from_answer stage line r rest)
answer-rises stage line (Err found) rest is h = none-from (flowed_at stage)
answer-rises stage line (Ok b) rest is h = rise-then (flowed_at stage) (flowed_at b.stage) (flowed_by (taken_of stage line b)) (flowed_in (rest b.stage).taken) (line-rises stage line b is) (h b.stage)

judged-rises : (stage : Stage) (r : Result WorldLine BadWord) (rest : WorldLine → Stage → Walk) → ((line : WorldLine) (after : Stage) → WalkRises after (rest line after)) → WalkRises stage (from_line setting_in stage r rest)
judged-rises stage (Err bad) rest h = none-from (flowed_at stage)
judged-rises stage (Ok line) rest h = answer-rises stage line (brought setting_in stage line) (rest line) refl (h line)

walk-rises : {P : Type 0} (g : Grammar P) (text : List (List ℕ)) (p : P) (stage : Stage) → WalkRises stage (walk g setting_in text p stage)
walk-rises g [] p stage = end-rises stage (g.end_fault p)
walk-rises g (bytes ∷ rest) p stage =
    judged-rises stage (g.judge p bytes) (λ line after. walk g setting_in rest (g.behind p line) after) (λ line after. walk-rises g rest (g.behind p line) after)

pub each-once : FlowsTakeEachOnce
each-once spelled text = (walk-rises (world_grammar spelled) text (world_grammar spelled).start (Lists no_roster)).rise
