-- What was written, beside the trace of what was taken.
use Rattle.std.proofs.Common.{◌≡◌, ◌<◌, ◌≤◌, ℕ, length, Option, Some, None, Ok, Err, List, [], ◌∷◌, ◌++◌, take, drop, refl, sym, subst, ◌∙◌, ap, inl, inr, arith, append-nil, append_assoc, take-append-drop, lit≤, true, ◌⊎◌, ◌+◌, map, length-append}
use Rattle.std.specs.Prelude.{IfSome}
use Rattle.std.specs.Io.KnownBytes.{Appends, Consumes, IsAtEnd}
use Rattle.std.proofs.KnownBytes.{Appends-nil, Appends-trans, Consumes-nil, Consumes-whole}
use Rattle.std.proofs.lemmas.List.{append_cancel_left, take_all}
use Rattle.ports.specs.Contents.{IsUsedUp}
use Rattle.play.specs.Plays.{Follows, IoState, IsAdmitted, IsLast, Lines, Runs, Starved, bytes_of}
use Rattle.play.specs.declared.stop.Stop.TheVariants as stop
use Rattle.text_trace.specs.Lines.{has_no_feed, line_bytes, seen, seen_bytes, text_lines, AreWhole, IsFed, IsNext}
use Rattle.text_trace.specs.Trace.{Continuation, Trace, Writes, Refuses}
use Rattle.text_trace.proofs.TraceLemmas.{free-as}
use Rattle.text_trace.proofs.WholeLemmas.{whole-one, whole-join, rest-next, cut-next, fed-next}
use Rattle.text_trace.proofs.LineLemmas.{lines_of-rest}
use Rattle.command_line.specs.Causes.{RunEnd}
use Rattle.command_line.specs.Ends.{EndsBy, Is}
use Rattle.command_line.specs.Traced.{AreUnrefused, EndsSilently, IsCause, IsEarly, IsFirst, IsNumber, IsOwed, IsRefusedAt, IsTrace, IsUnread, IsUnrefusedText, SpeaksAtEnd, TracedBy}
use Rattle.command_line.specs.declared.status.Status.{Status}

none-shorter : {A : Type 0} (n : ℕ) → n < 0 → A
none-shorter n h = absurd (omega arith)

pub at-end : (left : Option (List ℕ)) → IsUsedUp left → IsAtEnd left
at-end None none = tt
at-end (Some left) none = none

-- Before the line of the cause: these bytes were taken, and a front of their trace was written.
record Fronted {C : Type 0} (P : C → Type 0) (owed : Continuation C) (was now : IoState) (result : RunEnd C) : Type 0 where
  bytes : List ℕ
  text : List ℕ
  rest : List ℕ
  read : Consumes was.left now.left bytes
  few : length (seen bytes) ≤ text_lines + 1
  number : IsNumber bytes now.left result
  wrote : Appends was.taken now.taken text
  front : (owed (seen bytes)).output ≡ text ++ rest
  whole : IsOwed owed rest result
  refused : IsCause (owed (seen bytes)).cause result
  exact : IsTrace owed was.left text result
  early : IsEarly owed text result
  first : IsFirst P owed bytes text now.left result

-- whole lines, as they are seen
pub seen-whole : (lines : List (List ℕ)) (bytes : List ℕ) → AreWhole lines bytes → seen bytes ≡ lines
seen-whole lines bytes whole = ap seen (sym (append-nil bytes)) ∙ whole.first [] ∙ append-nil lines

-- a line without its line feed, no more than is seen of one
unfed-only : (line : List ℕ) → has_no_feed line ≡ true → 0 < length line → length line ≤ seen_bytes → seen line ≡ line ∷ []
unfed-only [] clear some short = absurd (none-shorter _ some)
unfed-only (b ∷ rest) clear some short = ap (map (take seen_bytes)) (lines_of-rest b rest clear) ∙ ap (λ (l : List ℕ). l ∷ []) (take_all seen_bytes (b ∷ rest) short)

fed-only : (line : List ℕ) → IsFed line → seen line ≡ line ∷ []
fed-only line fed = ap seen (sym (append-nil line)) ∙ (whole-one line fed).first []

-- a line with its line feed, as much as is seen of a longer one, or what was left of the text, is all that is seen of it
last-only : (line : List ℕ) (left : Option (List ℕ)) → IsLast (Some line) left → seen line ≡ line ∷ []
last-only line left is =
    elim is [
      | inl fed ↦ fed-only line fed
      | inr other ↦ elim other [
        | inl cut ↦ unfed-only line cut.clear (omega (arith, cut.long)) (omega (arith, cut.long))
        | inr rest ↦ unfed-only line rest.rest.clear rest.some (omega (arith, rest.rest.short))
      ]
    ]

-- these bytes are no more than a line
abbrev IsUpToLine : List ℕ → Type 0
IsUpToLine part = ((has_no_feed part ≡ true) × (length part ≤ seen_bytes)) ⊎ IsFed part

-- how many lines are seen of no more than a line
upto-one : (part : List ℕ) → IsUpToLine part → length (seen part) ≤ 1
upto-one [] is = lit≤ tt
upto-one (b ∷ part) is =
    elim is [
      | inl clear ↦ let one = ap length (unfed-only (b ∷ part) clear.0 (omega arith) clear.1) in omega (arith, one)
      | inr fed ↦ let one = ap length (fed-only (b ∷ part) fed) in omega (arith, one)
    ]

upto-last : (last left : Option (List ℕ)) → IsLast last left → IsUpToLine (bytes_of last)
upto-last None left is = inl (refl, lit≤ tt)
upto-last (Some line) left is =
    elim is [
      | inl fed ↦ inr fed
      | inr other ↦ elim other [ inl cut ↦ inl (cut.clear, omega (arith, cut.long)) | inr rest ↦ inl (rest.rest.clear, omega (arith, rest.rest.short)) ]
    ]

few-lines : (lines : List (List ℕ)) (bytes part : List ℕ) → Lines text_lines lines bytes → IsUpToLine part → length (seen (bytes ++ part)) ≤ text_lines + 1
few-lines lines bytes part taken is =
    let all = ap length (taken.whole.first part) ∙ length-append lines (seen part) in
    omega (arith, all, upto-one part is, taken.few)

numbered : {C : Type 0} → (lines : List (List ℕ)) (bytes : List ℕ) (last left : Option (List ℕ)) (line : ℕ) (refusal : C) → AreWhole lines bytes → IsLast last left → line ≡ 1 + length lines
    → IsNumber (bytes ++ bytes_of last) left (Err (stop.Refused line refusal))
numbered {C} lines bytes None left line refusal whole is counted =
    let all = ap length (whole.first []) ∙ length-append lines [] in
    inr (omega (arith, all, counted), is)
numbered {C} lines bytes (Some one) left line refusal whole is counted =
    let all = ap length (whole.first one ∙ ap (λ (x : List (List ℕ)). lines ++ x) (last-only one left is)) ∙ length-append lines (one ∷ []) in
    inl (omega (arith, all, counted))

refused : {C : Type 0} → (owed : Continuation C) (lines : List (List ℕ)) (bytes text : List ℕ) (refusal : C) (last : Option (List ℕ)) (left : Option (List ℕ))
    → AreWhole lines bytes → IsLast last left → Refuses C (Is owed) lines last text refusal → owed (seen (bytes ++ bytes_of last)) ≡ record { output = text; cause = Some refusal }
refused {C} owed lines bytes text refusal None left whole is refuses =
    let same : seen (bytes ++ []) ≡ lines = whole.first [] ∙ append-nil lines in
    rw same (refuses owed refl)
refused {C} owed lines bytes text refusal (Some line) left whole is refuses =
    let same : seen (bytes ++ line) ≡ lines ++ line ∷ [] = whole.first line ∙ ap (λ (others : List (List ℕ)). lines ++ others) (last-only line left is) in
    rw same (refuses owed refl [])

-- a last line begins what is seen of it and of all that is left behind it
begins : (line rest : List ℕ) → IsLast (Some line) (Some rest) → IsNext line (seen (line ++ rest))
begins line rest is =
    elim is [
      | inl fed ↦ fed-next line rest fed
      | inr other ↦ elim other [
        | inl cut ↦ cut-next line rest cut
        | inr end ↦ record { others = []; same = ap (λ (behind : List ℕ). seen (line ++ behind)) end.rest.used_up ∙ ap seen (append-nil line) ∙ last-only line (Some rest) (inr (inr end)) }
      ]
    ]

-- the trace of a text that a line refuses is known, whatever stands behind the line
refused-all : {C : Type 0} → (owed : Continuation C) (lines : List (List ℕ)) (bytes text rest : List ℕ) (refusal : C) (last : Option (List ℕ))
    → AreWhole lines bytes → IsLast last (Some rest) → Refuses C (Is owed) lines last text refusal → owed (seen ((bytes ++ bytes_of last) ++ rest)) ≡ record { output = text; cause = Some refusal }
refused-all {C} owed lines bytes text rest refusal None whole is refuses =
    let none : (bytes ++ []) ++ rest ≡ bytes ++ [] = ap (λ (behind : List ℕ). (bytes ++ []) ++ behind) is ∙ append-nil (bytes ++ []) in
    let same : seen ((bytes ++ []) ++ rest) ≡ lines = ap seen none ∙ whole.first [] ∙ append-nil lines in
    rw same (refuses owed refl)
refused-all {C} owed lines bytes text rest refusal (Some line) whole is refuses =
    let next = begins line rest is in
    let same : seen ((bytes ++ line) ++ rest) ≡ lines ++ line ∷ next.others =
    ap seen (append_assoc bytes line rest) ∙ whole.first (line ++ rest) ∙ ap (λ (x : List (List ℕ)). lines ++ x) next.same in
    rw same (refuses owed refl next.others)

pub refused-told : {C : Type 0} → (owed : Continuation C) (lines : List (List ℕ)) (bytes text : List ℕ) (refusal : C) (last before after : Option (List ℕ))
    → Consumes before after (bytes ++ bytes_of last) → AreWhole lines bytes → IsLast last after → Refuses C (Is owed) lines last text refusal
    → IfSome before (λ all. owed (seen all) ≡ record { output = text; cause = Some refusal })
refused-told {C} owed lines bytes text refusal last None after took whole is refuses = tt
refused-told {C} owed lines bytes text refusal last (Some all) None took whole is refuses = absurd took
refused-told {C} owed lines bytes text refusal last (Some all) (Some rest) took whole is refuses =
    rw took (refused-all owed lines bytes text rest refusal last whole is refuses)

-- a front of what is owed, of which more is owed
record OwedBehind {C : Type 0} (owed : Continuation C) (bytes text : List ℕ) : Type 0 where
  rest : List ℕ
  same : (owed (seen bytes)).output ≡ text ++ rest

abbrev behind : {C : Type 0} → (owed : Continuation C) (lines : List (List ℕ)) (bytes part text : List ℕ) → AreWhole lines bytes → Writes C (Is owed) lines text → OwedBehind owed (bytes ++ part) text
behind {C} owed lines bytes part text whole writes =
    let goes = writes owed refl in
    record {
      rest = (goes.later (seen part)).output;
      same = rw (whole.first part) (ap (λ (t : Trace C). t.output) (goes.same (seen part)));
    }

follows : {C : Type 0} → (owed : Continuation C) (lines : List (List ℕ)) (bytes text : List ℕ) (last : Option (List ℕ)) → AreWhole lines bytes → Follows C (Is owed) lines last text → OwedBehind owed (bytes ++ bytes_of last) text
follows {C} owed lines bytes text None whole ends =
    let same : seen (bytes ++ []) ≡ lines = whole.first [] ∙ append-nil lines in
    record { rest = []; same = rw same (ap (λ (t : Trace C). t.output) (ends owed refl) ∙ sym (append-nil text)) }
follows {C} owed lines bytes text (Some line) whole writes =
    let both = whole-join lines (line ∷ []) bytes line whole (whole-one line writes.0) in
    let more = behind owed (lines ++ line ∷ []) (bytes ++ line) [] text both writes.1 in
    record { rest = more.rest; same = subst (λ (b : List ℕ). (owed (seen b)).output ≡ text ++ more.rest) (append-nil (bytes ++ line)) more.same }

-- a front of a text that is owed
shorter : {C : Type 0} → (owed : Continuation C) (bytes text more : List ℕ) (count : ℕ) → OwedBehind owed bytes (text ++ more) → OwedBehind owed bytes (text ++ take count more)
shorter {C} owed bytes text more count is = record {
  rest = drop count more ++ is.rest;
  same =
      is.same ∙ append_assoc text more is.rest ∙ ap (λ (x : List ℕ). text ++ (x ++ is.rest)) (sym (take-append-drop count more))
      ∙ ap (λ (x : List ℕ). text ++ x) (append_assoc (take count more) (drop count more) is.rest) ∙ sym (append_assoc text (take count more) (drop count more ++ is.rest));
}

-- behind whole lines and a part of a line nothing is owed, where nothing is written at the end alone
silent : {C : Type 0} → (owed : Continuation C) (lines : List (List ℕ)) (part text : List ℕ) (writes : Writes C (Is owed) lines text) → has_no_feed part ≡ true → length part ≤ line_bytes → EndsSilently owed
    → ((writes owed refl).later (seen part)).output ≡ []
silent {C} owed lines [] text writes clear short quiet =
    let goes = writes owed refl in
    let one : List (List ℕ) = (97 ∷ []) ∷ [] in
    let out : Trace C → List ℕ = λ t. t.output in
    let waits : (goes.later one).output ≡ [] = goes.owes.silent (97 ∷ []) [] refl in
    let short : (owed lines).output ≡ text ++ (goes.later []).output = ap (λ (l : List (List ℕ)). out (owed l)) (sym (append-nil lines)) ∙ ap out (goes.same []) in
    let long : (owed (lines ++ one)).output ≡ text ++ (goes.later one).output = ap out (goes.same one) in
    append_cancel_left text _ _ (sym short ∙ sym (quiet lines (97 ∷ []) refl) ∙ long) ∙ waits
silent {C} owed lines (b ∷ part) text writes clear short quiet =
    let goes = writes owed refl in
    let next = rest-next (b ∷ part) clear (omega arith) short in
    ap (λ (l : List (List ℕ)). (goes.later l).output) next.same ∙ goes.owes.silent (b ∷ part) next.others clear

pub no-front : (front rest : List ℕ) → front ++ rest ≡ [] → front ≡ []
no-front [] rest none = refl
no-front (b ∷ front) rest none = cc

-- where nothing is written before the end of a text, no whole lines have a trace
nothing-early : {C : Type 0} → (owed : Continuation C) (lines : List (List ℕ)) (text : List ℕ) → Writes C (Is owed) lines text → SpeaksAtEnd owed → text ≡ []
nothing-early {C} owed lines text writes late =
    let goes = writes owed refl in
    let one : List (List ℕ) = (97 ∷ []) ∷ [] in
    let long : (owed (lines ++ one)).output ≡ text ++ (goes.later one).output = ap (λ (t : Trace C). t.output) (goes.same one) in
    no-front text (goes.later one).output (sym long ∙ late lines (97 ∷ []) refl)

-- whole lines and a part of a line, where a read failed
unread : {C : Type 0} → (owed : Continuation C) (lines : List (List ℕ)) (bytes part text : List ℕ) → AreWhole lines bytes → has_no_feed part ≡ true → Writes C (Is owed) lines text → IsUnread owed (bytes ++ part) text
unread {C} owed lines bytes part text whole clear writes =
    let same = sym (seen-whole lines bytes whole) in
    record {
      front = bytes;
      part = part;
      parts = refl;
      whole = subst (λ (ls : List (List ℕ)). AreWhole ls bytes) same whole;
      clear = clear;
      writes = subst (λ (ls : List (List ℕ)). Writes C (Is owed) ls text) same writes;
    }

-- whole lines, behind which a line or the end was refused
refused-at : {C : Type 0} → (owed : Continuation C) (lines : List (List ℕ)) (bytes part text : List ℕ) (number : ℕ) → AreWhole lines bytes → number ≡ 1 + length lines → Writes C (Is owed) lines text → IsRefusedAt owed (bytes ++ part) text number
refused-at {C} owed lines bytes part text number whole counted writes =
    let same = sym (seen-whole lines bytes whole) in
    let many = ap length same in
    record {
      front = bytes;
      part = part;
      parts = refl;
      whole = subst (λ (ls : List (List ℕ)). AreWhole ls bytes) same whole;
      counted = omega (arith, counted, many);
      writes = subst (λ (ls : List (List ℕ)). Writes C (Is owed) ls text) same writes;
    }

-- nothing was taken or written
unmoved : {C : Type 0} → (P : C → Type 0) (owed : Continuation C) (was now : IoState) → now ≡ was → Fronted P owed was now (Err stop.OutOfMemory)
unmoved {C} P owed was now same = record {
  bytes = [];
  text = [];
  rest = (owed (seen [])).output;
  read = subst (λ (n : IoState). Consumes was.left n.left []) (sym same) (Consumes-nil was.left);
  few = lit≤ tt;
  number = tt;
  wrote = subst (λ (n : IoState). Appends was.taken n.taken []) (sym same) (Appends-nil was.taken);
  front = refl;
  whole = tt;
  refused = tt;
  exact = tt;
  early = λ late. refl;
  first = inl refl;
}

admitted : {C : Type 0} → (P : C → Type 0) (owed : Continuation C) (lines : List (List ℕ)) (bytes : List ℕ) (last left : Option (List ℕ)) → AreWhole lines bytes → IsAdmitted C P (Is owed) lines last left → AreUnrefused P owed (bytes ++ bytes_of last) ⊎ IsUnrefusedText owed (bytes ++ bytes_of last) left
admitted {C} P owed lines bytes None left whole is =
    let same : seen (bytes ++ []) ≡ lines = whole.first [] ∙ append-nil lines in
    inr (record { used_up = is.0; none = rw same (is.1 owed refl) })
admitted {C} P owed lines bytes (Some line) left whole is =
    let both = whole-join lines (line ∷ []) bytes line whole (whole-one line is.0) in
    let same = seen-whole (lines ++ line ∷ []) (bytes ++ line) both in
    inl (record {
      whole = subst (λ (ls : List (List ℕ)). AreWhole ls (bytes ++ line)) (sym same) both;
      unrefused = free-as C P (λ rest. owed (seen (bytes ++ line) ++ rest)) (λ rest. owed (lines ++ line ∷ rest))
          (λ rest. ap (λ (ls : List (List ℕ)). (owed ls).cause) (ap (λ (ls : List (List ℕ)). ls ++ rest) same ∙ append_assoc lines (line ∷ []) rest))
          (is.1 owed refl);
    })

upto-admitted : {C : Type 0} → (P : C → Type 0) (owed : Continuation C) (lines : List (List ℕ)) (last left : Option (List ℕ)) → IsAdmitted C P (Is owed) lines last left → IsUpToLine (bytes_of last)
upto-admitted {C} P owed lines None left is = inl (refl, lit≤ tt)
upto-admitted {C} P owed lines (Some line) left is = inr is.0

starved : {C : Type 0} → (P : C → Type 0) (owed : Continuation C) (was now : IoState) → Starved C P (Is owed) text_lines was now → Fronted P owed was now (Err stop.OutOfMemory)
starved {C} P owed was now stood =
    let more = behind owed stood.lines stood.bytes (bytes_of stood.last) stood.text stood.taken.whole stood.writes in
    record {
      bytes = stood.bytes ++ bytes_of stood.last;
      text = stood.text;
      rest = more.rest;
      read = stood.read;
      few = few-lines stood.lines stood.bytes (bytes_of stood.last) stood.taken (upto-admitted P owed stood.lines stood.last now.left stood.admitted);
      number = tt;
      wrote = stood.wrote;
      front = more.same;
      whole = tt;
      refused = tt;
      exact = tt;
      early = λ late. nothing-early owed stood.lines stood.text stood.writes late;
      first = inr (admitted P owed stood.lines stood.bytes stood.last now.left stood.taken.whole stood.admitted);
    }

fronted : {C : Type 0} → (P : C → Type 0) (owed : Continuation C) (was now : IoState) (result : RunEnd C) → Runs C P (Is owed) text_lines was now result → Fronted P owed was now result
fronted {C} P owed was now (Ok _) stood = record {
  bytes = stood.bytes;
  text = stood.text;
  rest = [];
  read = stood.read;
  few = let all = ap length (seen-whole stood.lines stood.bytes stood.taken.whole) in omega (arith, all, stood.taken.few);
  number = stood.used_up;
  wrote = stood.wrote;
  front = rw (seen-whole stood.lines stood.bytes stood.taken.whole) (ap (λ (t : Trace C). t.output) (stood.ends owed refl) ∙ sym (append-nil stood.text));
  whole = refl;
  refused = rw (seen-whole stood.lines stood.bytes stood.taken.whole) (ap (λ (t : Trace C). t.cause) (stood.ends owed refl));
  exact =
      Consumes-whole was.left now.left stood.bytes (λ all. owed (seen all) ≡ record { output = stood.text; cause = None }) stood.read
      (at-end now.left stood.used_up) (rw (seen-whole stood.lines stood.bytes stood.taken.whole) (stood.ends owed refl));
  early = tt;
  first = tt;
}
fronted {C} P owed was now (Err (stop.Refused line refusal)) stood =
    let trace = refused owed stood.lines stood.bytes stood.text refusal stood.last now.left stood.taken.whole stood.stands stood.refuses in
    record {
      bytes = stood.bytes ++ bytes_of stood.last;
      text = stood.text;
      rest = [];
      read = stood.read;
      few = few-lines stood.lines stood.bytes (bytes_of stood.last) stood.taken (upto-last stood.last now.left stood.stands);
      number = numbered stood.lines stood.bytes stood.last now.left line refusal stood.taken.whole stood.stands stood.counted;
      wrote = stood.wrote;
      front = ap (λ (t : Trace C). t.output) trace ∙ sym (append-nil stood.text);
      whole = refl;
      refused = ap (λ (t : Trace C). t.cause) trace;
      exact = refused-told owed stood.lines stood.bytes stood.text refusal stood.last was.left now.left stood.read stood.taken.whole stood.stands stood.refuses;
      early = tt;
      first = refused-at owed stood.lines stood.bytes (bytes_of stood.last) stood.text line stood.taken.whole stood.counted stood.writes;
    }
fronted {C} P owed was now (Err stop.ReadFault) stood =
    let more = behind owed stood.lines stood.bytes stood.part stood.text stood.taken.whole stood.writes in
    record {
      bytes = stood.bytes ++ stood.part;
      text = stood.text;
      rest = more.rest;
      read = stood.read;
      few = few-lines stood.lines stood.bytes stood.part stood.taken (inl (stood.clear, omega (arith, stood.short)));
      number = tt;
      wrote = stood.wrote;
      front = more.same;
      whole = λ quiet. silent owed stood.lines stood.part stood.text stood.writes stood.clear stood.short quiet;
      refused = tt;
      exact = tt;
      early = λ late. nothing-early owed stood.lines stood.text stood.writes late;
      first = unread owed stood.lines stood.bytes stood.part stood.text stood.taken.whole stood.clear stood.writes;
    }
fronted {C} P owed was now (Err stop.WriteFault) stood =
    let more = shorter owed _ stood.text stood.more stood.count (follows owed stood.lines stood.bytes (stood.text ++ stood.more) stood.last stood.taken.whole stood.follows) in
    record {
      bytes = stood.bytes ++ bytes_of stood.last;
      text = stood.text ++ take stood.count stood.more;
      rest = more.rest;
      read = stood.read;
      few = few-lines stood.lines stood.bytes (bytes_of stood.last) stood.taken (upto-last stood.last now.left stood.stands);
      number = tt;
      wrote = stood.wrote;
      front = more.same;
      whole = tt;
      refused = tt;
      exact = tt;
      early = tt;
      first = tt;
    }
fronted {C} P owed was now (Err stop.OutOfMemory) stood = elim stood [ inl same ↦ unmoved P owed was now same | inr wanting ↦ starved P owed was now wanting ]

pub traced : {C : Type 0} → (P : C → Type 0) (refusal : ℕ → C → Status) (owed : Continuation C) (was now : IoState) (s : Status) → EndsBy P refusal owed was now s → TracedBy P refusal owed was now s
traced {C} P refusal owed was now s ends =
    let f = fronted P owed was ends.between ends.result ends.runs in
    let t = ends.tells in
    record {
      result = ends.result;
      failed = t.failed;
      bytes = f.bytes;
      text = f.text;
      rest = f.rest;
      line = t.line;
      says = t.says;
      read = subst (λ (o : Option (List ℕ)). Consumes was.left o f.bytes) (sym t.left) f.read;
      few = f.few;
      number = subst (λ (o : Option (List ℕ)). IsNumber f.bytes o ends.result) (sym t.left) f.number;
      wrote = Appends-trans was.taken ends.between.taken now.taken f.text t.line f.wrote t.wrote;
      front = f.front;
      whole = f.whole;
      refused = f.refused;
      exact = f.exact;
      early = f.early;
      first = subst (λ (o : Option (List ℕ)). IsFirst P owed f.bytes f.text o ends.result) (sym t.left) f.first;
    }
