-- The turns that a link and a clock bring have lines, and nonces 64 bits.
use Rattle.std.proofs.Common.{◌≡◌, ℕ, zero, suc, ◌+◌, ◌^◌, ◌<◌, ◌≤◌, Bool, true, false, List, [], ◌∷◌, ◌++◌, length, take, drop, refl, arith, length-append, length-take}
use Rattle.std.specs.Prelude.{All, codes, decimal, flat_map}
use Rattle.std.specs.List.{AllByRecursion}
use Rattle.std.proofs.lemmas.Fmt.{length-decimal-le}
use Rattle.std.proofs.lemmas.List.Elements.{All-from_recursion}
use Rattle.hex.specs.Hex.{IsBytes, lower_digits}
use Rattle.hex.proofs.HexLemmas.{length-encode_with}
use Rattle.ports.specs.declared.link.LinkAnswer.{LinkAnswer}
use Rattle.ports.specs.declared.link.LinkAnswer.TheVariants as answers
use Rattle.ports.specs.Link.{next_of}
use Rattle.journal.specs.declared.turn.Heard.{Heard}
use Rattle.journal.specs.declared.turn.Heard.TheVariants as heard
use Rattle.journal.specs.declared.turn.Turn.{Turn}
use Rattle.journal.specs.Turns.{IsHeard, bytes_text, heard_text, turn_text}
use Rattle.text_trace.specs.Lines.{line_bytes}
use Rattle.node_loop.specs.declared.turns.Pace.{Pace}
use Rattle.node_loop.specs.Turns.{Outlook, after_turn, heard_of, room, ticks_in, turn_in, turns_brought, turns_in}
use Rattle.turn_rules.specs.Turns.{Act, acts_of, delivery_of, leaving_acts, ticks_of, turn_acts}
use Rattle.audit_rules.specs.Shown.{HasLine}
use Rattle.shown_laws.specs.Own.{ComesAsBytes}
use Rattle.shown_laws.proofs.VerifyLemmas.{ActIsOfBytes}

-- ## The lines of turns

-- what was heard is bytes, no more than there is room for
pub record IsRoomed (came : Heard) : Type 0 where
  pub bytes : IsHeard came
  pub short : length (heard_text came) ≤ 65542

text-short : (bytes : List ℕ) → length bytes ≤ room → length (bytes_text bytes) ≤ 65538
text-short [] short = omega arith
text-short (b ∷ bytes) short = omega (arith, length-encode_with lower_digits (b ∷ bytes), short)

bytes-front : (n : ℕ) (bytes : List ℕ) → IsBytes bytes → IsBytes (take n bytes)
bytes-front zero bytes h i = omega arith
bytes-front (suc n) [] h i = omega arith
bytes-front (suc n) (b ∷ bytes) h zero = h 0
bytes-front (suc n) (b ∷ bytes) h (suc i) = bytes-front n bytes (λ k. h (suc k)) i

roomed : (answer : LinkAnswer) → ComesAsBytes answer → IsRoomed (heard_of answer)
roomed (answers.Got bytes) h =
    record {
      bytes = bytes-front room bytes h;
      short = omega (arith, length-append (codes "got ") (bytes_text (take room bytes)), text-short (take room bytes) (omega (arith, length-take room bytes)));
    }
roomed answers.Nothing h = record { bytes = tt; short = omega arith }
roomed answers.Failed h = record { bytes = tt; short = omega arith }

next-roomed : (coming : List LinkAnswer) → AllByRecursion ComesAsBytes coming → IsRoomed (heard_of (next_of coming))
next-roomed [] h = roomed answers.Nothing tt
next-roomed (answer ∷ coming) h = roomed answer h.0

behind-next : (coming : List LinkAnswer) → AllByRecursion ComesAsBytes coming → AllByRecursion ComesAsBytes (drop 1 coming)
behind-next [] h = tt
behind-next (answer ∷ coming) h = h.1

turn-short : (t : Turn) → t.number < 2 ^ 32 → t.ticks ≤ 64 → IsRoomed t.heard → length (turn_text t) ≤ line_bytes
turn-short t number ticks h =
    let one = codes "turn " ++ decimal t.number in
    let two = one ++ codes " " in
    let three = two ++ heard_text t.heard in
    let four = three ++ codes " ticks " in
    omega (
      arith,
      length-append (codes "turn ") (decimal t.number),
      length-append one (codes " "),
      length-append two (heard_text t.heard),
      length-append three (codes " ticks "),
      length-append four (decimal t.ticks),
      length-decimal-le 10 t.number (omega arith) (omega (arith, number)) (omega (arith, number)),
      length-decimal-le 2 t.ticks (omega arith) (omega (arith, ticks)) (omega (arith, ticks)),
      h.short,
    )

has-line : (t : Turn) → 1 ≤ t.number → t.number < 2 ^ 32 → t.ticks ≤ 64 → IsRoomed t.heard → HasLine t
has-line t first fits ticks h =
    record {
      is = record { first = first; fits = fits; heard = h.bytes; ticks = ticks; spelled = refl };
      short = turn-short t fits ticks h;
    }

few-ticks : (pace : Pace) (base : ℕ) (o : Outlook) → ticks_in pace base o ≤ 64
few-ticks pace base o = omega arith

have-lines : (pace : Pace) (base left number : ℕ) (o : Outlook) → 1 ≤ number → number + left ≤ 2 ^ 32 → AllByRecursion ComesAsBytes o.heard → AllByRecursion HasLine (turns_in pace base left number o)
have-lines pace base zero number o first fits coming = tt
have-lines pace base (suc left) number o first fits coming = (
  has-line (turn_in pace base number o) first (omega (arith, fits)) (few-ticks pace base o) (next-roomed o.heard coming),
  have-lines pace base left (number + 1) (after_turn pace base o) (omega (arith, first)) (omega (arith, fits)) (behind-next o.heard coming),
)

-- the turns that are brought have lines
pub brought-lines : (pace : Pace) (turns : ℕ) (coming : List LinkAnswer) (reading : ℕ) (readings : List ℕ) → turns < 2 ^ 32 → AllByRecursion ComesAsBytes coming → All HasLine (turns_brought pace turns coming reading readings)
brought-lines pace turns coming reading readings few h =
    All-from_recursion HasLine (turns_brought pace turns coming reading readings) (have-lines pace _ turns 1 _ (omega arith) (omega (arith, few)) h)

some-in : (pace : Pace) (base turns number : ℕ) (o : Outlook) → 1 ≤ turns → turns_in pace base turns number o ≡ [] → ⊥
some-in pace base zero number o some e = omega (arith, some)
some-in pace base (suc turns) number o some e = cc

-- there is one, where the life is served for one or more
pub brought-some : (pace : Pace) (turns : ℕ) (coming : List LinkAnswer) (reading : ℕ) (readings : List ℕ) → 1 ≤ turns → turns_brought pace turns coming reading readings ≡ [] → ⊥
brought-some pace turns coming reading readings some e = some-in pace _ turns 1 _ some e

-- ## What turns deliver

all-append : (P : Act → Type 0) (xs ys : List Act) → AllByRecursion P xs → AllByRecursion P ys → AllByRecursion P (xs ++ ys)
all-append P [] ys a b = b
all-append P (x ∷ xs) ys a b = (a.0, all-append P xs ys a.1 b)

delivery-bytes : (came : Heard) → IsHeard came → AllByRecursion ActIsOfBytes (delivery_of came)
delivery-bytes (heard.Got bytes) h = (h, tt)
delivery-bytes heard.Nothing h = tt
delivery-bytes heard.Failed h = tt

ticks-bytes : (ticks : ℕ) → AllByRecursion ActIsOfBytes (ticks_of ticks)
ticks-bytes zero = tt
ticks-bytes (suc ticks) = (tt, ticks-bytes ticks)

turns-bytes : (turns : List Turn) → AllByRecursion HasLine turns → AllByRecursion ActIsOfBytes (flat_map turn_acts turns)
turns-bytes [] h = tt
turns-bytes (t ∷ turns) h =
    all-append ActIsOfBytes (turn_acts t) (flat_map turn_acts turns)
    (tt, (tt, all-append ActIsOfBytes (delivery_of t.heard) (ticks_of t.ticks) (delivery-bytes t.heard h.0.is.heard) (ticks-bytes t.ticks)))
    (turns-bytes turns h.1)

leaving-bytes : (leave : Bool) → AllByRecursion ActIsOfBytes (leaving_acts leave)
leaving-bytes true = (tt, tt)
leaving-bytes false = tt

pub brought-bytes : (pace : Pace) (turns : ℕ) (coming : List LinkAnswer) (reading : ℕ) (readings : List ℕ) (leave : Bool) → turns < 2 ^ 32 → AllByRecursion ComesAsBytes coming
    → AllByRecursion ActIsOfBytes (acts_of (turns_brought pace turns coming reading readings) leave)
brought-bytes pace turns coming reading readings leave few h =
    let all : List Turn = turns_brought pace turns coming reading readings in
    all-append ActIsOfBytes (flat_map turn_acts all) (leaving_acts leave) (turns-bytes all (have-lines pace _ turns 1 _ (omega arith) (omega (arith, few)) h)) (leaving-bytes leave)
