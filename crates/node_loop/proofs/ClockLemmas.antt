-- How many ticks the turns of a life make, and what its clock gives.
use Rattle.std.proofs.Common.{◌≡◌, ℕ, Bool, true, false, zero, suc, ◌+◌, ◌-◌, ◌/◌, ◌≤◌, ◌<◌, min, List, [], ◌∷◌, ◌++◌, Option, Some, None, length, drop, refl, sym, subst, ap, ◌∙◌, arith}
use Rattle.std.specs.Prelude.{filter}
use Rattle.std.proofs.Math.Nat.{div-mul-le_self}
use Rattle.std.proofs.lemmas.List.{length-append}
use Rattle.std.proofs.lemmas.List.Elements.{filter-append}
use Rattle.std.proofs.lemmas.Nat.{le-div}
use Rattle.ports.specs.Clock.{next_reading}
use Rattle.ports.specs.MemoryClock.{NeverFalls}
use Rattle.journal.specs.declared.turn.Heard.{Heard}
use Rattle.journal.specs.declared.turn.Heard.TheVariants as heard
use Rattle.journal.specs.declared.turn.Turn.{Turn}
use Rattle.node_loop.specs.declared.turns.Pace.{Pace}
use Rattle.turn_rules.specs.Turns.{Act, delivery_of, leaving_acts, most_ticks, ticks_of, turn_acts}
use Rattle.node_loop.specs.Turns.{LivesFollowTheClock, Outlook, after_turn, forgotten_in, is_tick, kept_of, life_acts, reading_behind, reading_of, ticks_among, ticks_in, turn_in, turns_from}

-- ---- ticks among acts

among-append : (xs ys : List Act) → ticks_among (xs ++ ys) ≡ ticks_among xs + ticks_among ys
among-append xs ys = ap length (filter-append is_tick xs ys) ∙ length-append (filter is_tick xs) (filter is_tick ys)

among-ticks : (ticks : ℕ) → ticks_among (ticks_of ticks) ≡ ticks
among-ticks zero = refl
among-ticks (suc ticks) = ap suc (among-ticks ticks)

none-delivered : (came : Heard) → ticks_among (delivery_of came) ≡ 0
none-delivered (heard.Got bytes) = refl
none-delivered heard.Nothing = refl
none-delivered heard.Failed = refl

none-and : (n : ℕ) → 0 + n ≡ n
none-and n = omega arith

among-turn : (turn : Turn) → ticks_among (turn_acts turn) ≡ turn.ticks
among-turn turn = among-append (delivery_of turn.heard) (ticks_of turn.ticks) ∙ ap (λ n. n + ticks_among (ticks_of turn.ticks)) (none-delivered turn.heard) ∙ none-and (ticks_among (ticks_of turn.ticks)) ∙ among-ticks turn.ticks

and-none : (n : ℕ) → n + 0 ≡ n
and-none n = omega arith

none-leaving : (leave : Bool) → ticks_among (leaving_acts leave) ≡ 0
none-leaving true = refl
none-leaving false = refl

-- whoever leaves makes no tick by it
among-life : (turns : List Act) (leave : Bool) → ticks_among (turns ++ leaving_acts leave) ≡ ticks_among turns
among-life turns leave = among-append turns (leaving_acts leave) ∙ ap (λ n. ticks_among turns + n) (none-leaving leave) ∙ and-none (ticks_among turns)

-- ---- readings

div-le : (m n k : ℕ) → 1 ≤ k → m ≤ n → m / k ≤ n / k
div-le m n k some le = le-div (m / k) n k (omega (arith, some)) (omega (arith, div-mul-le_self m k, le))

next-rises : (last : ℕ) (readings : List ℕ) → NeverFalls last readings → last ≤ next_reading last readings
next-rises last [] rising = omega arith
next-rises last (time ∷ later) rising = rising.0

falls-never : (last : ℕ) (readings : List ℕ) → NeverFalls last readings → NeverFalls (next_reading last readings) (drop 1 readings)
falls-never last [] rising = tt
falls-never last (time ∷ later) rising = rising.1

-- ---- turns

-- no more ticks were made or forgotten than the clock gives since the base
record IsWithin (pace : Pace) (base : ℕ) (o : Outlook) : Type 0 where
  rising : NeverFalls o.reading o.readings
  within : o.made ≤ (o.reading - base) / pace.millis

-- before the turn there were no more than the clock gives behind it
within-next : (pace : Pace) (base : ℕ) (o : Outlook) → 1 ≤ pace.millis → IsWithin pace base o → o.made ≤ (reading_of o - base) / pace.millis
within-next pace base o some h =
    let rises : o.reading ≤ reading_of o = next-rises o.reading o.readings h.rising in
    more o.made ((o.reading - base) / pace.millis) ((reading_of o - base) / pace.millis) h.within
    (div-le (o.reading - base) (reading_of o - base) pace.millis some (shift o.reading (reading_of o) base rises))
  where
    more : (a b c : ℕ) → a ≤ b → b ≤ c → a ≤ c
    more a b c p q = omega (arith, p, q)

    shift : (a b c : ℕ) → a ≤ b → a - c ≤ b - c
    shift a b c le = omega (arith, le)

pub kept-few : (most : Option ℕ) (owed : ℕ) → kept_of most owed ≤ owed
kept-few None owed = omega arith
kept-few (Some most) owed = omega arith

-- what is due behind the turn
abbrev pub due-after : Pace → ℕ → Outlook → ℕ
due-after pace base o = (reading_of o - base) / pace.millis

within-turn : (pace : Pace) (base : ℕ) (o : Outlook) → 1 ≤ pace.millis → IsWithin pace base o → IsWithin pace base (after_turn pace base o)
within-turn pace base o some h =
    let before = within-next pace base o some h in
    let few = kept-few pace.most (due-after pace base o - o.made) in
    record {
      rising = falls-never o.reading o.readings h.rising;
      within = counted o.made (due-after pace base o) (kept_of pace.most (due-after pace base o - o.made)) before few;
    }
  where
    counted : (made due kept : ℕ) → made ≤ due → kept ≤ due - made → made + min 64 kept + (due - made - kept) ≤ due
    counted made due kept le few = omega (arith, le, few)

-- how many ticks so many turns make
abbrev made_in : Pace → ℕ → ℕ → ℕ → Outlook → ℕ
made_in pace base left number o = ticks_among (turns_from pace base left number o)

made-next : (pace : Pace) (base left number : ℕ) (o : Outlook) → made_in pace base (suc left) number o ≡ ticks_in pace base o + made_in pace base left (number + 1) (after_turn pace base o)
made-next pace base left number o =
    among-append (turn_acts (turn_in pace base number o)) (turns_from pace base left (number + 1) (after_turn pace base o))
    ∙ ap (λ n. n + made_in pace base left (number + 1) (after_turn pace base o)) (among-turn (turn_in pace base number o))

-- what the clock gives by the last of so many turns
abbrev due-behind : Pace → ℕ → ℕ → Outlook → ℕ
due-behind pace base left o = (reading_behind left o.reading o.readings - base) / pace.millis

add-le : (a b f c d x : ℕ) → d ≡ b + c → (a + b + f) + c ≤ x → a + d ≤ x
add-le a b f c d x is le = omega (arith, is, le)

add-is : (a b f c d x : ℕ) → f ≡ 0 → d ≡ b + c → (a + b + f) + c ≡ x → a + d ≡ x
add-is a b f c d x none is same = omega (arith, none, is, same)

fewer-of : (a b c d e : ℕ) → d ≡ b + c → e ≡ b + a → d < e + 64 → c < a + 64
fewer-of a b c d e is same less = omega (arith, is, same, less)

never-more : (pace : Pace) (base left number : ℕ) (o : Outlook) → 1 ≤ pace.millis → IsWithin pace base o → o.made + made_in pace base left number o ≤ due-behind pace base left o
never-more pace base zero number o some h = add-le o.made 0 0 0 0 (due-behind pace base zero o) refl (none-more o.made (due-behind pace base zero o) h.within)
  where
    none-more : (a x : ℕ) → a ≤ x → (a + 0 + 0) + 0 ≤ x
    none-more a x le = omega (arith, le)
never-more pace base (suc left) number o some h =
    let o1 : Outlook = after_turn pace base o in
    add-le o.made (ticks_in pace base o) (forgotten_in pace base o) (made_in pace base left (number + 1) o1) (made_in pace base (suc left) number o) (due-behind pace base (suc left) o) (made-next pace base left number o)
    (never-more pace base left (number + 1) o1 some (within-turn pace base o some h))

-- all that are owed, where the last turn makes fewer than the most
-- none is forgotten
none-forgotten : (most : Option ℕ) (x : ℕ) → most ≡ None → kept_of most x ≡ x
none-forgotten most x none = subst (λ m. kept_of m x ≡ x) (sym none) refl

forgets-none : (pace : Pace) (base : ℕ) (o : Outlook) → pace.most ≡ None → forgotten_in pace base o ≡ 0
forgets-none pace base o none = nothing (due-after pace base o - o.made) _ (none-forgotten pace.most (due-after pace base o - o.made) none)
  where
    nothing : (x k : ℕ) → k ≡ x → x - k ≡ 0
    nothing x k is = omega (arith, is)

all-made : (pace : Pace) (base left number : ℕ) (o : Outlook) → pace.most ≡ None → 1 ≤ pace.millis → IsWithin pace base o → made_in pace base (suc left) number o < made_in pace base left number o + most_ticks
    → o.made + made_in pace base (suc left) number o ≡ due-behind pace base (suc left) o
all-made pace base zero number o none some h fewer =
    owed o.made (due-behind pace base 1 o) (made_in pace base 1 number o) (ticks_in pace base o) (within-next pace base o some h) (made-next pace base zero number o)
    (ap (min 64) (none-forgotten pace.most (due-after pace base o - o.made) none)) fewer
  where
    owed : (made due ticks now : ℕ) → made ≤ due → ticks ≡ now + 0 → now ≡ min 64 (due - made) → ticks < 0 + 64 → made + ticks ≡ due
    owed made due ticks now le is made-now less = omega (arith, le, is, made-now, less)
all-made pace base (suc left) number o none some h fewer =
    let o1 : Outlook = after_turn pace base o in
    let more = made_in pace base (suc left) (number + 1) o1 in
    add-is o.made (ticks_in pace base o) (forgotten_in pace base o) more (made_in pace base (suc (suc left)) number o) (due-behind pace base (suc (suc left)) o) (forgets-none pace base o none) (made-next pace base (suc left) number o)
    (all-made pace base left (number + 1) o1 none some (within-turn pace base o some h)
    (fewer-of (made_in pace base left (number + 1) o1) (ticks_in pace base o) more (made_in pace base (suc (suc left)) number o) (made_in pace base (suc left) number o) (made-next pace base (suc left) number o)
    (made-next pace base left number o) fewer))

-- ---- a life

pub follows-clock : LivesFollowTheClock
unfolding life_acts
follows-clock pace turns leave heard last readings some rising =
    let base = next_reading last readings in
    let o : Outlook = record { heard = heard; reading = base; readings = drop 1 readings; made = 0 } in
    let first : IsWithin pace base o = record { rising = falls-never last readings rising; within = omega arith } in
    let now = among-life (turns_from pace base turns 1 o) leave in
    let next = among-life (turns_from pace base (suc turns) 1 o) leave in (
      no-more (made_in pace base turns 1 o) (due-behind pace base turns o) _ now (never-more pace base turns 1 o some first),
      λ none fewer.
          as-many (made_in pace base (suc turns) 1 o) (due-behind pace base (suc turns) o) _ next
          (all-made pace base turns 1 o none some first (below-most (made_in pace base (suc turns) 1 o) (made_in pace base turns 1 o) _ _ next now fewer)),
    )
  where
    no-more : (x y z : ℕ) → z ≡ x → 0 + x ≤ y → z ≤ y
    no-more x y z same le = omega (arith, same, le)

    as-many : (x y z : ℕ) → z ≡ x → 0 + x ≡ y → z ≡ y
    as-many x y z same is = omega (arith, same, is)

    below-most : (x y z w : ℕ) → z ≡ x → w ≡ y → z < w + 64 → x < y + 64
    below-most x y z w same also less = omega (arith, same, also, less)
