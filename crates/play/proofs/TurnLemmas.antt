-- How one turn of the loop may end.
use Rattle.std.proofs.Common.{◌≡◌, ℕ, ◌+◌, ◌<◌, true, List, [], ◌∷◌, length, Option, Some, None, refl, ap, subst, arith}
use Rattle.std.specs.Io.KnownBytes.{Appends, Consumes}
use Rattle.ports.specs.Contents.{TookFront}
use Rattle.ports.specs.Count.{next_count}
use Rattle.text_trace.specs.Lines.{has_line_feed}
use Rattle.text_trace.specs.Trace.{Continuation, Trace, Steps, Waits, Writes, Ends, Refuses, Admits}
use Rattle.text_trace.proofs.TraceLemmas.{steps-none, steps-weaker}
use Rattle.ports.specs.declared.Ending.{Ending}
use Rattle.play.specs.declared.long_lines.LongLines.{LongLines}
use Rattle.play.specs.PlaysBy.{AdvancedBy, ConsumedBy, FinishedBy, IoState, LinesBy, RefusedBy, StarvedBy, Unfailed, UnreadBy, UnwrittenBy}
use Rattle.play.specs.Taking.{IsTaken, TakesPart, TakesWhole, given, given_line}
use Rattle.play.proofs.TakingLemmas.{admits-given, ends-given, is-end, is-last, is-taken, none-given, reaches-given, reaches-none-given, refuses-end-given, refuses-given, some-given, steps-given, steps-none-given, taken-none, taken-one}

no_lines : (l : LongLines) (room : ℕ) → LinesBy l room [] []
no_lines l room = record { whole = taken-none l; few = omega arith }

-- nothing was taken
nothing-read : (l : LongLines) (before after : Option (List ℕ)) (line : List ℕ) (by : Ending) (takes : TakesWhole l before after line by) → length line ≡ 0 → Consumes before after []
nothing-read l before after line by takes none = subst (Consumes before after) (none-given l line takes.bytes takes.is none) takes.front

ended : (l : LongLines) (before after : Option (List ℕ)) (line : List ℕ) (by : Ending) (takes : TakesWhole l before after line by) → length line ≡ 0 → length takes.bytes ≡ 0
ended l before after line by takes none = ap length (none-given l line takes.bytes takes.is none)

-- nothing was written yet
writes-none : (l : LongLines) (C : Type 0) (A : Continuation C → Type 0) → ((f : Continuation C) → A f → Waits C f) → Writes C A (given l []) []
writes-none l C A waits = steps-none-given l C A (Waits C) [] (steps-weaker C A A (Waits C) [] [] waits (steps-none C A))

fed : (l : LongLines) (before after : Option (List ℕ)) (line : List ℕ) (by : Ending) (takes : TakesWhole l before after line by) → has_line_feed line ≡ true → IsTaken l takes.bytes
fed l before after line by takes feed = is-taken l by line takes.bytes after takes.is takes.stands feed

-- the trace of the line that was given is that of the line that was taken
stepped : (l : LongLines) (C : Type 0) (A B : Continuation C → Type 0) (before after : Option (List ℕ)) (line text : List ℕ) (by : Ending) (takes : TakesWhole l before after line by) → Steps C A B (line ∷ []) text → Steps C A B (given l (takes.bytes ∷ [])) text
stepped l C A B before after line text by takes steps = steps-given l C A B takes.bytes text (subst (λ (x : List ℕ). Steps C A B (x ∷ []) text) takes.is steps)

-- a line was taken, and its trace was written
pub went-one : (l : LongLines) (C : Type 0) (A B : Continuation C → Type 0) (first room later : ℕ) (was now : IoState) (line text : List ℕ) (by : Ending) → TakesWhole l was.left now.left line by → has_line_feed line ≡ true → Steps C A B (line ∷ []) text → Appends was.taken now.taken text → later < room → Unfailed was now → AdvancedBy l C A B first (first + 1) room later was now
went-one l C A B first room later was now line text by takes feed steps wrote less unfailed = record {
  lines = takes.bytes ∷ [];
  bytes = takes.bytes;
  text = text;
  whole = taken-one l takes.bytes (fed l was.left now.left line by takes feed);
  few = omega arith;
  number = refl;
  read = takes.front;
  wrote = wrote;
  steps = stepped l C A B was.left now.left line text by takes steps;
  unfailed = unfailed;
}

-- no line was left, and what comes at the end was written
pub finished-here : (l : LongLines) (C : Type 0) (A : Continuation C → Type 0) (room : ℕ) (was now : IoState) (line text : List ℕ) (by : Ending) → TakesWhole l was.left now.left line by → length line ≡ 0 → Ends C A [] text → Appends was.taken now.taken text → Unfailed was now → FinishedBy l C A room was now
finished-here l C A room was now line text by takes none ends wrote unfailed = record {
  lines = [];
  bytes = [];
  text = text;
  taken = no_lines l room;
  read = nothing-read l was.left now.left line by takes none;
  used_up = is-end l by takes.bytes now.left takes.stands (ended l was.left now.left line by takes none);
  wrote = wrote;
  ends = ends-given l C A text ends;
  unfailed = unfailed;
}

-- the line was refused, before anything was written
pub refused-line : (l : LongLines) (C : Type 0) (A : Continuation C → Type 0) (room first : ℕ) (cause : C) (was now : IoState) (line : List ℕ) (by : Ending) → TakesWhole l was.left now.left line by → 0 < length line → Refuses C A [] (Some line) [] cause → ((f : Continuation C) → A f → Waits C f) → Appends was.taken now.taken [] → Unfailed was now → RefusedBy l C A room first first cause was now
refused-line l C A room first cause was now line by takes some refuses waits same unfailed = record {
  lines = [];
  bytes = [];
  last = Some takes.bytes;
  text = [];
  taken = no_lines l room;
  counted = omega arith;
  read = takes.front;
  stands = is-last l by takes.bytes now.left takes.stands (some-given l line takes.bytes takes.is some);
  wrote = same;
  writes = writes-none l C A waits;
  refuses = refuses-given l C A takes.bytes [] cause (subst (λ (x : List ℕ). Refuses C A [] (Some x) [] cause) takes.is refuses);
  unfailed = unfailed;
}

-- the end was refused, before anything was written
pub refused-end : (l : LongLines) (C : Type 0) (A : Continuation C → Type 0) (room first : ℕ) (cause : C) (was now : IoState) (line : List ℕ) (by : Ending) → TakesWhole l was.left now.left line by → length line ≡ 0 → Refuses C A [] None [] cause → ((f : Continuation C) → A f → Waits C f) → Appends was.taken now.taken [] → Unfailed was now → RefusedBy l C A room first first cause was now
refused-end l C A room first cause was now line by takes none refuses waits same unfailed = record {
  lines = [];
  bytes = [];
  last = None;
  text = [];
  taken = no_lines l room;
  counted = omega arith;
  read = nothing-read l was.left now.left line by takes none;
  stands = is-end l by takes.bytes now.left takes.stands (ended l was.left now.left line by takes none);
  wrote = same;
  writes = writes-none l C A waits;
  refuses = refuses-end-given l C A [] cause refuses;
  unfailed = unfailed;
}

-- the read failed, before anything was written
pub unread-here : (l : LongLines) (C : Type 0) (A : Continuation C → Type 0) (room : ℕ) (was now : IoState) → TakesPart l was.left now.left → ((f : Continuation C) → A f → Waits C f) → Appends was.taken now.taken [] → now.read_faults ≡ next_count was.read_faults → now.write_faults ≡ was.write_faults → UnreadBy l C A room was now
unread-here l C A room was now takes waits same failed kept = record {
  lines = [];
  bytes = [];
  part = takes.bytes;
  text = [];
  taken = no_lines l room;
  read = takes.front;
  clear = takes.clear;
  short = takes.short;
  wrote = same;
  writes = writes-none l C A waits;
  failed = failed;
  kept = kept;
}

-- a write of what the line brings failed
pub unwritten-line : (l : LongLines) (C : Type 0) (A B : Continuation C → Type 0) (room : ℕ) (was now : IoState) (line text : List ℕ) (by : Ending) → TakesWhole l was.left now.left line by → 0 < length line → has_line_feed line ≡ true → Steps C A B (line ∷ []) text → ((f : Continuation C) → A f → Waits C f) → ((f : Continuation C) → B f → Waits C f) → TookFront was.taken now.taken text → now.write_faults ≡ next_count was.write_faults → now.read_faults ≡ was.read_faults → UnwrittenBy l C A room was now
unwritten-line l C A B room was now line text by takes some feed steps waits waits_later front failed kept = record {
  lines = [];
  bytes = [];
  last = Some takes.bytes;
  text = [];
  more = text;
  count = front.count;
  taken = no_lines l room;
  read = takes.front;
  stands = is-last l by takes.bytes now.left takes.stands (some-given l line takes.bytes takes.is some);
  writes = writes-none l C A waits;
  follows = (fed l was.left now.left line by takes feed, stepped l C A (Waits C) was.left now.left line text by takes (steps-weaker C A B (Waits C) (line ∷ []) text waits_later steps));
  short = front.short;
  wrote = front.gained;
  failed = failed;
  kept = kept;
}

-- a write of what the end brings failed
pub unwritten-end : (l : LongLines) (C : Type 0) (A : Continuation C → Type 0) (room : ℕ) (was now : IoState) (line text : List ℕ) (by : Ending) → TakesWhole l was.left now.left line by → length line ≡ 0 → Ends C A [] text → ((f : Continuation C) → A f → Waits C f) → TookFront was.taken now.taken text → now.write_faults ≡ next_count was.write_faults → now.read_faults ≡ was.read_faults → UnwrittenBy l C A room was now
unwritten-end l C A room was now line text by takes none ends waits front failed kept = record {
  lines = [];
  bytes = [];
  last = None;
  text = [];
  more = text;
  count = front.count;
  taken = no_lines l room;
  read = nothing-read l was.left now.left line by takes none;
  stands = is-end l by takes.bytes now.left takes.stands (ended l was.left now.left line by takes none);
  writes = writes-none l C A waits;
  follows = ends-given l C A text ends;
  short = front.short;
  wrote = front.gained;
  failed = failed;
  kept = kept;
}

-- memory was refused for a line, before anything was written
pub starved-line : (l : LongLines) (C : Type 0) (P : C → Type 0) (A : Continuation C → Type 0) (room : ℕ) (was now : IoState) (line : List ℕ) (by : Ending) → TakesWhole l was.left now.left line by → has_line_feed line ≡ true → Admits C P A [] (Some line) → ((f : Continuation C) → A f → Waits C f) → Appends was.taken now.taken [] → Unfailed was now → StarvedBy l C P A room was now
starved-line l C P A room was now line by takes feed admits waits same unfailed = record {
  lines = [];
  bytes = [];
  last = Some takes.bytes;
  text = [];
  taken = no_lines l room;
  read = takes.front;
  admitted = (fed l was.left now.left line by takes feed, admits-given l C P A (Some (given_line l takes.bytes)) (subst (λ (x : List ℕ). Admits C P A [] (Some x)) takes.is admits));
  wrote = same;
  writes = writes-none l C A waits;
  unfailed = unfailed;
}

-- memory was refused at the end, before anything was written
pub starved-end : (l : LongLines) (C : Type 0) (P : C → Type 0) (A : Continuation C → Type 0) (room : ℕ) (was now : IoState) (line : List ℕ) (by : Ending) → TakesWhole l was.left now.left line by → length line ≡ 0 → Admits C P A [] None → ((f : Continuation C) → A f → Waits C f) → Appends was.taken now.taken [] → Unfailed was now → StarvedBy l C P A room was now
starved-end l C P A room was now line by takes none admits waits same unfailed = record {
  lines = [];
  bytes = [];
  last = None;
  text = [];
  taken = no_lines l room;
  read = nothing-read l was.left now.left line by takes none;
  admitted = (is-end l by takes.bytes now.left takes.stands (ended l was.left now.left line by takes none), admits-given l C P A None admits);
  wrote = same;
  writes = writes-none l C A waits;
  unfailed = unfailed;
}

-- a line was taken, and something learned of it
pub came-one : (l : LongLines) (Reaches : List (List ℕ) → Type 0) (room later : ℕ) (before after : Option (List ℕ)) (line : List ℕ) (by : Ending) → TakesWhole l before after line by → has_line_feed line ≡ true → later < room → Reaches (line ∷ []) → ConsumedBy l Reaches room later before after
came-one l Reaches room later before after line by takes feed less one = record {
  lines = takes.bytes ∷ [];
  bytes = takes.bytes;
  whole = taken-one l takes.bytes (fed l before after line by takes feed);
  few = omega arith;
  read = takes.front;
  reaches = reaches-given l Reaches takes.bytes (subst (λ (x : List ℕ). Reaches (x ∷ [])) takes.is one);
}

-- no line was left, and nothing learned
pub came-end : (l : LongLines) (Reaches : List (List ℕ) → Type 0) (room : ℕ) (before after : Option (List ℕ)) (line : List ℕ) (by : Ending) → TakesWhole l before after line by → length line ≡ 0 → Reaches [] → ConsumedBy l Reaches room room before after
came-end l Reaches room before after line by takes none same = record {
  lines = [];
  bytes = [];
  whole = taken-none l;
  few = omega arith;
  read = nothing-read l before after line by takes none;
  reaches = reaches-none-given l Reaches same;
}

-- an end that was taken isn't refused
pub ended-here : (C : Type 0) (P : C → Type 0) (A : Continuation C → Type 0) (text : List ℕ) → Ends C A [] text → Admits C P A [] None
ended-here C P A text ends = λ f owes. ap (λ (t : Trace C). t.cause) (ends f owes)
