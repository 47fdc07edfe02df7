-- How one turn of the loop follows those before it.
use Rattle.std.proofs.Common.{ℕ, inr, List, [], ◌∷◌, ◌++◌, take, Option, Some, None, Result, Ok, Err, refl, ap, sym, ◌∙◌, subst, append_assoc, arith, length-append}
use Rattle.std.specs.Io.KnownBytes.{Appends, Consumes}
use Rattle.std.proofs.KnownBytes.{Appends-nil, Appends-trans, Consumes-nil, Consumes-trans}
use Rattle.ports.specs.Count.{next_count}
use Rattle.text_trace.specs.Trace.{Admits, Continuation, Ends, Owing, Refuses, Steps, Waits, Writes}
use Rattle.text_trace.proofs.TraceLemmas.{steps-none, steps-join, ends-join, refuses-join, admits-join}
use Rattle.play.specs.declared.long_lines.LongLines.{LongLines}
use Rattle.play.specs.declared.long_lines.LongLines.TheVariants.{Cut}
use Rattle.play.specs.declared.stop.Stop.{Stop}
use Rattle.play.specs.declared.stop.Stop.TheVariants as stop
use Rattle.play.specs.Plays.{Advanced, Continues, Runs, Stops, StopsRun}
use Rattle.play.specs.PlaysBy.{AdvancedBy, ConsumedBy, ContinuesBy, FinishedBy, FollowsBy, IoState, IsAdmittedBy, LinesBy, RefusedBy, RunsBy, StarvedBy, StopsBy, StopsRunBy, Unfailed, UnreadBy, UnwrittenBy}
use Rattle.play.specs.Taking.{bytes_of, given, given_last, given_line}
use Rattle.play.proofs.TakingLemmas.{given-join, reaches-none-given, steps-none-given, taken-join, taken-none}

-- ## What is given of lines, and then of others

steps-on : (l : LongLines) (C : Type 0) (A B D : Continuation C → Type 0) (lines others : List (List ℕ)) (text more : List ℕ) → Steps C A B (given l lines) text → Steps C B D (given l others) more → Steps C A D (given l (lines ++ others)) (text ++ more)
steps-on l C A B D lines others text more a b =
    subst (λ (ls : List (List ℕ)). Steps C A D ls (text ++ more)) (sym (given-join l lines others)) (steps-join C A B D (given l lines) (given l others) text more a b)

ends-on : (l : LongLines) (C : Type 0) (A B : Continuation C → Type 0) (lines others : List (List ℕ)) (text more : List ℕ) → Steps C A B (given l lines) text → Ends C B (given l others) more → Ends C A (given l (lines ++ others)) (text ++ more)
ends-on l C A B lines others text more a b =
    subst (λ (ls : List (List ℕ)). Ends C A ls (text ++ more)) (sym (given-join l lines others)) (ends-join C A B (given l lines) (given l others) text more a b)

refuses-on : (l : LongLines) (C : Type 0) (A B : Continuation C → Type 0) (lines others : List (List ℕ)) (last : Option (List ℕ)) (text more : List ℕ) (c : C) → Steps C A B (given l lines) text → Refuses C B (given l others) last more c → Refuses C A (given l (lines ++ others)) last (text ++ more) c
refuses-on l C A B lines others last text more c a b =
    subst (λ (ls : List (List ℕ)). Refuses C A ls last (text ++ more) c) (sym (given-join l lines others)) (refuses-join C A B (given l lines) (given l others) last text more c a b)

admits-on : (l : LongLines) (C : Type 0) (P : C → Type 0) (A B : Continuation C → Type 0) (lines others : List (List ℕ)) (last : Option (List ℕ)) (text : List ℕ) → Steps C A B (given l lines) text → Admits C P B (given l others) last → Admits C P A (given l (lines ++ others)) last
admits-on l C P A B lines others last text a b =
    subst (λ (ls : List (List ℕ)). Admits C P A ls last) (sym (given-join l lines others)) (admits-join C P A B (given l lines) (given l others) last text a b)

-- ## Turn by turn

-- something is still owed
pub owing-by : (l : LongLines) (C : Type 0) (A B : Continuation C → Type 0) (first next room later : ℕ) (was now : IoState) → Owing C A → AdvancedBy l C A B first next room later was now → Owing C B
owing-by l C A B first next room later was now owing went =
    let one = went.steps owing.owed owing.is in
    record { owed = one.later; is = one.owes }

unfailed-join : (was mid now : IoState) → Unfailed was mid → Unfailed mid now → Unfailed was now
unfailed-join was mid now a b = record { reads = b.reads ∙ a.reads; writes = b.writes ∙ a.writes }

-- no line was taken yet
pub went-none : (l : LongLines) (C : Type 0) (A : Continuation C → Type 0) (first room : ℕ) (was : IoState) → AdvancedBy l C A A first first room room was was
went-none l C A first room was = record {
  lines = [];
  bytes = [];
  text = [];
  whole = taken-none l;
  few = omega arith;
  number = omega arith;
  read = Consumes-nil was.left;
  wrote = Appends-nil was.taken;
  steps = steps-none-given l C A A [] (steps-none C A);
  unfailed = record { reads = refl; writes = refl };
}

-- some lines, and then others
pub went-join : (l : LongLines) (C : Type 0) (A B D : Continuation C → Type 0) (first mid next room some later : ℕ) (was then now : IoState) → AdvancedBy l C A B first mid room some was then → AdvancedBy l C B D mid next some later then now → AdvancedBy l C A D first next room later was now
went-join l C A B D first mid next room some later was then now a b = record {
  lines = a.lines ++ b.lines;
  bytes = a.bytes ++ b.bytes;
  text = a.text ++ b.text;
  whole = taken-join l a.lines b.lines a.bytes b.bytes a.whole b.whole;
  few = omega (arith, a.few, b.few, length-append a.lines b.lines);
  number = omega (arith, a.number, b.number, length-append a.lines b.lines);
  read = Consumes-trans was.left then.left now.left a.bytes b.bytes a.read b.read;
  wrote = Appends-trans was.taken then.taken now.taken a.text b.text a.wrote b.wrote;
  steps = steps-on l C A B D a.lines b.lines a.text b.text a.steps b.steps;
  unfailed = unfailed-join was then now a.unfailed b.unfailed;
}

lines-join : (l : LongLines) (C : Type 0) (A B : Continuation C → Type 0) (first next room later : ℕ) (was then : IoState) (lines : List (List ℕ)) (bytes : List ℕ) (a : AdvancedBy l C A B first next room later was then) → LinesBy l later lines bytes → LinesBy l room (a.lines ++ lines) (a.bytes ++ bytes)
lines-join l C A B first next room later was then lines bytes a b = record {
  whole = taken-join l a.lines lines a.bytes bytes a.whole b.whole;
  few = omega (arith, a.few, b.few, length-append a.lines lines);
}

read-join : (was then now : Option (List ℕ)) (a b part : List ℕ) → Consumes was then a → Consumes then now (b ++ part) → Consumes was now ((a ++ b) ++ part)
read-join was then now a b part first second = subst (Consumes was now) (sym (append_assoc a b part)) (Consumes-trans was then now a (b ++ part) first second)

wrote-join : (was then now : Option (List ℕ)) (a b more : List ℕ) → Appends was then a → Appends then now (b ++ more) → Appends was now ((a ++ b) ++ more)
wrote-join was then now a b more first second = subst (Appends was now) (sym (append_assoc a b more)) (Appends-trans was then now a (b ++ more) first second)

pub finished-join : (l : LongLines) (C : Type 0) (A B : Continuation C → Type 0) (first next room later : ℕ) (was then now : IoState) → AdvancedBy l C A B first next room later was then → FinishedBy l C B later then now → FinishedBy l C A room was now
finished-join l C A B first next room later was then now a b = record {
  lines = a.lines ++ b.lines;
  bytes = a.bytes ++ b.bytes;
  text = a.text ++ b.text;
  taken = lines-join l C A B first next room later was then b.lines b.bytes a b.taken;
  read = Consumes-trans was.left then.left now.left a.bytes b.bytes a.read b.read;
  used_up = b.used_up;
  wrote = Appends-trans was.taken then.taken now.taken a.text b.text a.wrote b.wrote;
  ends = ends-on l C A B a.lines b.lines a.text b.text a.steps b.ends;
  unfailed = unfailed-join was then now a.unfailed b.unfailed;
}

pub refused-join : (l : LongLines) (C : Type 0) (A B : Continuation C → Type 0) (first next number room later : ℕ) (cause : C) (was then now : IoState) → AdvancedBy l C A B first next room later was then → RefusedBy l C B later next number cause then now → RefusedBy l C A room first number cause was now
refused-join l C A B first next number room later cause was then now a b = record {
  lines = a.lines ++ b.lines;
  bytes = a.bytes ++ b.bytes;
  last = b.last;
  text = a.text ++ b.text;
  taken = lines-join l C A B first next room later was then b.lines b.bytes a b.taken;
  counted = omega (arith, a.number, b.counted, length-append a.lines b.lines);
  read = read-join was.left then.left now.left a.bytes b.bytes (bytes_of b.last) a.read b.read;
  stands = b.stands;
  wrote = Appends-trans was.taken then.taken now.taken a.text b.text a.wrote b.wrote;
  writes = steps-on l C A B (Waits C) a.lines b.lines a.text b.text a.steps b.writes;
  refuses = refuses-on l C A B a.lines b.lines (given_last l b.last) a.text b.text cause a.steps b.refuses;
  unfailed = unfailed-join was then now a.unfailed b.unfailed;
}

unread-join : (l : LongLines) (C : Type 0) (A B : Continuation C → Type 0) (first next room later : ℕ) (was then now : IoState) → AdvancedBy l C A B first next room later was then → UnreadBy l C B later then now → UnreadBy l C A room was now
unread-join l C A B first next room later was then now a b = record {
  lines = a.lines ++ b.lines;
  bytes = a.bytes ++ b.bytes;
  part = b.part;
  text = a.text ++ b.text;
  taken = lines-join l C A B first next room later was then b.lines b.bytes a b.taken;
  read = read-join was.left then.left now.left a.bytes b.bytes b.part a.read b.read;
  clear = b.clear;
  short = b.short;
  wrote = Appends-trans was.taken then.taken now.taken a.text b.text a.wrote b.wrote;
  writes = steps-on l C A B (Waits C) a.lines b.lines a.text b.text a.steps b.writes;
  failed = b.failed ∙ ap next_count a.unfailed.reads;
  kept = b.kept ∙ a.unfailed.writes;
}

follows-join : (l : LongLines) (C : Type 0) (A B : Continuation C → Type 0) (lines others : List (List ℕ)) (last : Option (List ℕ)) (text more : List ℕ) → Steps C A B (given l lines) text → FollowsBy l C B others last more → FollowsBy l C A (lines ++ others) last (text ++ more)
follows-join l C A B lines others (Some line) text more steps follows =
    let joined : Writes C A (given l (lines ++ (others ++ line ∷ []))) (text ++ more) = steps-on l C A B (Waits C) lines (others ++ line ∷ []) text more steps follows.1 in
    (follows.0, subst (λ (ls : List (List ℕ)). Writes C A (given l ls) (text ++ more)) (sym (append_assoc lines others (line ∷ []))) joined)
follows-join l C A B lines others None text more steps follows = ends-on l C A B lines others text more steps follows

unwritten-join : (l : LongLines) (C : Type 0) (A B : Continuation C → Type 0) (first next room later : ℕ) (was then now : IoState) → AdvancedBy l C A B first next room later was then → UnwrittenBy l C B later then now → UnwrittenBy l C A room was now
unwritten-join l C A B first next room later was then now a b = record {
  lines = a.lines ++ b.lines;
  bytes = a.bytes ++ b.bytes;
  last = b.last;
  text = a.text ++ b.text;
  more = b.more;
  count = b.count;
  taken = lines-join l C A B first next room later was then b.lines b.bytes a b.taken;
  read = read-join was.left then.left now.left a.bytes b.bytes (bytes_of b.last) a.read b.read;
  stands = b.stands;
  writes = steps-on l C A B (Waits C) a.lines b.lines a.text b.text a.steps b.writes;
  follows = subst (λ (t : List ℕ). FollowsBy l C A (a.lines ++ b.lines) b.last t) (sym (append_assoc a.text b.text b.more)) (follows-join l C A B a.lines b.lines b.last a.text (b.text ++ b.more) a.steps b.follows);
  short = b.short;
  wrote = wrote-join was.taken then.taken now.taken a.text b.text (take b.count b.more) a.wrote b.wrote;
  failed = b.failed ∙ ap next_count a.unfailed.writes;
  kept = b.kept ∙ a.unfailed.reads;
}

admitted-join : (l : LongLines) (C : Type 0) (P : C → Type 0) (A B : Continuation C → Type 0) (lines others : List (List ℕ)) (last left : Option (List ℕ)) (text : List ℕ) → Steps C A B (given l lines) text → IsAdmittedBy l C P B others last left → IsAdmittedBy l C P A (lines ++ others) last left
admitted-join l C P A B lines others (Some line) left text steps is = (is.0, admits-on l C P A B lines others (Some (given_line l line)) text steps is.1)
admitted-join l C P A B lines others None left text steps is = (is.0, admits-on l C P A B lines others None text steps is.1)

starved-join : (l : LongLines) (C : Type 0) (P : C → Type 0) (A B : Continuation C → Type 0) (first next room later : ℕ) (was then now : IoState) → AdvancedBy l C A B first next room later was then → StarvedBy l C P B later then now → StarvedBy l C P A room was now
starved-join l C P A B first next room later was then now a b = record {
  lines = a.lines ++ b.lines;
  bytes = a.bytes ++ b.bytes;
  last = b.last;
  text = a.text ++ b.text;
  taken = lines-join l C A B first next room later was then b.lines b.bytes a b.taken;
  read = read-join was.left then.left now.left a.bytes b.bytes (bytes_of b.last) a.read b.read;
  admitted = admitted-join l C P A B a.lines b.lines b.last now.left a.text a.steps b.admitted;
  wrote = Appends-trans was.taken then.taken now.taken a.text b.text a.wrote b.wrote;
  writes = steps-on l C A B (Waits C) a.lines b.lines a.text b.text a.steps b.writes;
  unfailed = unfailed-join was then now a.unfailed b.unfailed;
}

-- some lines, and then a turn that stops
pub stops-join : (l : LongLines) (C : Type 0) (P : C → Type 0) (A B : Continuation C → Type 0) (first next room later : ℕ) (was then now : IoState) (s : Stop C) → AdvancedBy l C A B first next room later was then → StopsBy l C P B next later then now s → StopsBy l C P A first room was now s
stops-join l C P A B first next room later was then now (stop.Refused line cause) a b = refused-join l C A B first next line room later cause was then now a b
stops-join l C P A B first next room later was then now stop.ReadFault a b = unread-join l C A B first next room later was then now a b
stops-join l C P A B first next room later was then now stop.WriteFault a b = unwritten-join l C A B first next room later was then now a b
stops-join l C P A B first next room later was then now stop.OutOfMemory a b = starved-join l C P A B first next room later was then now a b

-- the turns of a whole run
run-stops-by : (l : LongLines) (C : Type 0) (P : C → Type 0) (A : Continuation C → Type 0) (room : ℕ) (was now : IoState) (s : Stop C) → StopsBy l C P A 1 room was now s → StopsRunBy l C P A room was now s
run-stops-by l C P A room was now (stop.Refused line cause) stops = stops
run-stops-by l C P A room was now stop.ReadFault stops = stops
run-stops-by l C P A room was now stop.WriteFault stops = stops
run-stops-by l C P A room was now stop.OutOfMemory stops = inr stops

-- a run from the first line on
pub run-from : (l : LongLines) (C : Type 0) (P : C → Type 0) (A : Continuation C → Type 0) (room : ℕ) (was now : IoState) (r : Result (Unit {0}) (Stop C)) → ContinuesBy l C P A 1 room was now r → RunsBy l C P A room was now r
run-from l C P A room was now (Ok done) on = on
run-from l C P A room was now (Err s) on = run-stops-by l C P A room was now s on

-- some lines, and then the others
continues-join : (l : LongLines) (C : Type 0) (P : C → Type 0) (A B : Continuation C → Type 0) (first next room later : ℕ) (was then now : IoState) (r : Result (Unit {0}) (Stop C)) → AdvancedBy l C A B first next room later was then → ContinuesBy l C P B next later then now r → ContinuesBy l C P A first room was now r
continues-join l C P A B first next room later was then now (Ok done) a b = finished-join l C A B first next room later was then now a b
continues-join l C P A B first next room later was then now (Err s) a b = stops-join l C P A B first next room later was then now s a b

-- no line was taken yet, and nothing learned
pub came-none : (l : LongLines) (Reaches : List (List ℕ) → Type 0) (room : ℕ) (left : Option (List ℕ)) → Reaches [] → ConsumedBy l Reaches room room left left
came-none l Reaches room left none = record {
  lines = [];
  bytes = [];
  whole = taken-none l;
  few = omega arith;
  read = Consumes-nil left;
  reaches = reaches-none-given l Reaches none;
}

-- what was learned of some lines, and then of others
pub came-join : (l : LongLines) (P Q R : List (List ℕ) → Type 0) (room some later : ℕ) (was then now : Option (List ℕ)) → ((lines others : List (List ℕ)) → P lines → Q others → R (lines ++ others)) → ConsumedBy l P room some was then → ConsumedBy l Q some later then now → ConsumedBy l R room later was now
came-join l P Q R room some later was then now on a b = record {
  lines = a.lines ++ b.lines;
  bytes = a.bytes ++ b.bytes;
  whole = taken-join l a.lines b.lines a.bytes b.bytes a.whole b.whole;
  few = omega (arith, a.few, b.few, length-append a.lines b.lines);
  read = Consumes-trans was then now a.bytes b.bytes a.read b.read;
  reaches = subst R (sym (given-join l a.lines b.lines)) (on (given l a.lines) (given l b.lines) a.reaches b.reaches);
}

-- ## Where long lines are cut

pub owing-later : (C : Type 0) (A B : Continuation C → Type 0) (first next room later : ℕ) (was now : IoState) → Owing C A → Advanced C A B first next room later was now → Owing C B
owing-later C A B first next room later was now owing went = owing-by Cut C A B first next room later was now owing went

pub run-stops : (C : Type 0) (P : C → Type 0) (A : Continuation C → Type 0) (room : ℕ) (was now : IoState) (s : Stop C) → Stops C P A 1 room was now s → StopsRun C P A room was now s
run-stops C P A room was now s stops = run-stops-by Cut C P A room was now s stops

-- a whole run, of which some lines were played first
pub run-join : (C : Type 0) (P : C → Type 0) (A B : Continuation C → Type 0) (next room later : ℕ) (was then now : IoState) (r : Result (Unit {0}) (Stop C)) → Advanced C A B 1 next room later was then → Continues C P B next later then now r → Runs C P A room was now r
run-join C P A B next room later was then now r a b = run-from Cut C P A room was now r (continues-join Cut C P A B 1 next room later was then now r a b)
