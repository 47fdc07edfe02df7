-- What a script is given of a line that was taken.
use Rattle.std.proofs.Common.{◌≡◌, ℕ, ◌<◌, inl, inr, true, List, [], ◌∷◌, ◌++◌, length, take, Option, Some, None, Result, Ok, Err, refl, ap, sym, ◌∙◌, arith, length-append, length-take}
use Rattle.std.proofs.KnownBytes.{Consumes-trans}
use Rattle.std.proofs.lemmas.Bool.{and_from, cond_both}
use Rattle.std.proofs.lemmas.List.{map-append}
use Rattle.std.proofs.lemmas.List.Folds.{list_all-append}
use Rattle.ports.specs.Contents.{IsUsedUp}
use Rattle.ports.specs.declared.Ending.{Ending}
use Rattle.ports.specs.declared.Ending.TheVariants as ending
use Rattle.ports.specs.declared.Failed.{Failed}
use Rattle.ports.specs.LineReading.{ReadsPart, ReadsWhole, is_going}
use Rattle.text_trace.specs.Lines.{has_line_feed, has_no_feed, seen_bytes}
use Rattle.text_trace.specs.Long.{is_long, shortened}
use Rattle.text_trace.specs.Trace.{Admits, Continuation, Ends, Refuses, Steps}
use Rattle.text_trace.proofs.LongLemmas.{ended-cut, ended-fed, ended-join, ended-none, ended-one, shown-clear, shown-cut, shown-long, shown-short}
use Rattle.text_trace.proofs.WholeLemmas.{fed-length, feed_apart, whole-join, whole-none, whole-one}
use Rattle.play.specs.declared.long_lines.LongLines.{LongLines}
use Rattle.play.specs.declared.long_lines.LongLines.TheVariants as long
use Rattle.play.specs.Taking.{AreTaken, IsLastBy, IsTaken, PassesRest, StandsBy, TakesLine, TakesPart, TakesWhole, given, given_last, given_line}

-- ## Lines that were taken

pub taken-none : (l : LongLines) → AreTaken l [] []
taken-none long.Cut = whole-none
taken-none long.Passed = ended-none

pub taken-one : (l : LongLines) (line : List ℕ) → IsTaken l line → AreTaken l (line ∷ []) line
taken-one long.Cut line is = whole-one line is
taken-one long.Passed line is = ended-one line is

pub taken-join : (l : LongLines) (lines others : List (List ℕ)) (bytes more : List ℕ) → AreTaken l lines bytes → AreTaken l others more → AreTaken l (lines ++ others) (bytes ++ more)
taken-join long.Cut lines others bytes more a b = whole-join lines others bytes more a b
taken-join long.Passed lines others bytes more a b = ended-join lines others bytes more a b

-- ## What is given of them

pub given-join : (l : LongLines) (lines others : List (List ℕ)) → given l (lines ++ others) ≡ given l lines ++ given l others
given-join long.Cut lines others = refl
given-join long.Passed lines others = map-append shortened lines others

-- of one line alone
pub steps-given : (l : LongLines) (C : Type 0) (A B : Continuation C → Type 0) (line text : List ℕ) → Steps C A B (given_line l line ∷ []) text → Steps C A B (given l (line ∷ [])) text
steps-given long.Cut C A B line text h = h
steps-given long.Passed C A B line text h = h

-- of no line
pub steps-none-given : (l : LongLines) (C : Type 0) (A B : Continuation C → Type 0) (text : List ℕ) → Steps C A B [] text → Steps C A B (given l []) text
steps-none-given long.Cut C A B text h = h
steps-none-given long.Passed C A B text h = h

pub ends-given : (l : LongLines) (C : Type 0) (A : Continuation C → Type 0) (text : List ℕ) → Ends C A [] text → Ends C A (given l []) text
ends-given long.Cut C A text h = h
ends-given long.Passed C A text h = h

pub refuses-given : (l : LongLines) (C : Type 0) (A : Continuation C → Type 0) (line text : List ℕ) (c : C) → Refuses C A [] (Some (given_line l line)) text c → Refuses C A (given l []) (given_last l (Some line)) text c
refuses-given long.Cut C A line text c h = h
refuses-given long.Passed C A line text c h = h

pub refuses-end-given : (l : LongLines) (C : Type 0) (A : Continuation C → Type 0) (text : List ℕ) (c : C) → Refuses C A [] None text c → Refuses C A (given l []) (given_last l None) text c
refuses-end-given long.Cut C A text c h = h
refuses-end-given long.Passed C A text c h = h

pub admits-given : (l : LongLines) (C : Type 0) (P : C → Type 0) (A : Continuation C → Type 0) (last : Option (List ℕ)) → Admits C P A [] last → Admits C P A (given l []) last
admits-given long.Cut C P A last h = h
admits-given long.Passed C P A last h = h

pub reaches-given : (l : LongLines) (Reaches : List (List ℕ) → Type 0) (line : List ℕ) → Reaches (given_line l line ∷ []) → Reaches (given l (line ∷ []))
reaches-given long.Cut Reaches line h = h
reaches-given long.Passed Reaches line h = h

pub reaches-none-given : (l : LongLines) (Reaches : List (List ℕ) → Type 0) → Reaches [] → Reaches (given l [])
reaches-none-given long.Cut Reaches h = h
reaches-none-given long.Passed Reaches h = h

-- ## What taking a line leaves

some-shown : (line : List ℕ) → 0 < length line → length (shortened line) ≡ 0 → ⊥
some-shown line some =
    cond_both (is_long line) (take seen_bytes line ++ 10 ∷ []) (take seen_bytes line) (λ shown. length shown ≡ 0 → ⊥)
    (λ _ none. absurd (omega (arith, none, length-append (take seen_bytes line) (10 ∷ []))))
    (λ _ none. absurd (omega (arith, none, length-take seen_bytes line, some)))

-- no bytes were taken, where none are given
pub none-given : (l : LongLines) (line bytes : List ℕ) → line ≡ given_line l bytes → length line ≡ 0 → bytes ≡ []
none-given l line [] is none = refl
none-given long.Cut line (b ∷ bytes) is none = absurd (omega (arith, none, ap length is))
none-given long.Passed line (b ∷ bytes) is none = absurd (some-shown (b ∷ bytes) (omega arith) (sym (ap length is) ∙ none))

-- some were, where some are
pub some-given : (l : LongLines) (line bytes : List ℕ) → line ≡ given_line l bytes → 0 < length line → 0 < length bytes
some-given long.Cut line [] is some = absurd (omega (arith, some, ap length is))
some-given long.Passed line [] is some = absurd (omega (arith, some, ap length is, ap length (shown-short [] (omega arith))))
some-given l line (b ∷ bytes) is some = omega arith

-- what was taken for a line that is given with its line feed
pub is-taken : (l : LongLines) (by : Ending) (line bytes : List ℕ) (left : Option (List ℕ)) → line ≡ given_line l bytes → StandsBy l by bytes left → has_line_feed line ≡ true → IsTaken l bytes
is-taken long.Cut ending.Feed line bytes left is stands fed = stands
is-taken long.Cut ending.Limit line bytes left is stands fed = absurd (feed_apart bytes stands.clear (ap has_line_feed (sym is) ∙ fed))
is-taken long.Cut ending.Input line bytes left is stands fed = absurd (feed_apart bytes stands.clear (ap has_line_feed (sym is) ∙ fed))
is-taken long.Passed ending.Feed line bytes left is stands fed = stands
is-taken long.Passed ending.Limit line bytes left is stands fed = absurd stands
is-taken long.Passed ending.Input line bytes left is stands fed = absurd (feed_apart (shortened bytes) (shown-clear bytes stands.0) (ap has_line_feed (sym is) ∙ fed))

-- behind a line that is given with its line feed more may be read
pub still-going : (l : LongLines) (by : Ending) (line bytes : List ℕ) (left : Option (List ℕ)) → line ≡ given_line l bytes → StandsBy l by bytes left → has_line_feed line ≡ true → is_going (Ok by) ≡ true
still-going l ending.Feed line bytes left is stands fed = refl
still-going l ending.Limit line bytes left is stands fed = refl
still-going long.Cut ending.Input line bytes left is stands fed = absurd (feed_apart bytes stands.clear (ap has_line_feed (sym is) ∙ fed))
still-going long.Passed ending.Input line bytes left is stands fed = absurd (feed_apart (shortened bytes) (shown-clear bytes stands.0) (ap has_line_feed (sym is) ∙ fed))

-- some bytes are a line
pub is-last : (l : LongLines) (by : Ending) (bytes : List ℕ) (left : Option (List ℕ)) → StandsBy l by bytes left → 0 < length bytes → IsLastBy l (Some bytes) left
is-last long.Cut ending.Feed bytes left stands some = inl stands
is-last long.Cut ending.Limit bytes left stands some = inr (inl stands)
is-last long.Cut ending.Input bytes left stands some = inr (inr (record { some = some; rest = stands }))
is-last long.Passed ending.Feed bytes left stands some = inl stands
is-last long.Passed ending.Limit bytes left stands some = absurd stands
is-last long.Passed ending.Input bytes left stands some = inr (record { some = some; clear = stands.0; used_up = stands.1 })

-- none are taken at the end alone
pub is-end : (l : LongLines) (by : Ending) (bytes : List ℕ) (left : Option (List ℕ)) → StandsBy l by bytes left → length bytes ≡ 0 → IsUsedUp left
is-end long.Cut ending.Feed bytes left stands none = absurd (omega (arith, none, ap length stands.ended, length-append stands.front (10 ∷ [])))
is-end long.Cut ending.Limit bytes left stands none = absurd (omega (arith, stands.long, none))
is-end long.Cut ending.Input bytes left stands none = stands.used_up
is-end long.Passed ending.Feed bytes left stands none = absurd (omega (arith, none, ap length stands.ended, length-append stands.front (10 ∷ [])))
is-end long.Passed ending.Limit bytes left stands none = absurd stands
is-end long.Passed ending.Input bytes left stands none = stands.1

-- a line was read with its line feed
pub takes-fed : (l : LongLines) (before after : Option (List ℕ)) (line : List ℕ) → ReadsWhole before after line ending.Feed → TakesWhole l before after line ending.Feed
takes-fed long.Cut before after line read = record { bytes = line; front = read.front; is = refl; stands = read.ends }
takes-fed long.Passed before after line read = record {
  bytes = line;
  front = read.front;
  is = sym (shown-short line (fed-length line read.ends));
  stands = ended-fed line read.ends;
}

-- what was left of the text was read
pub takes-rest : (l : LongLines) (before after : Option (List ℕ)) (line : List ℕ) → ReadsWhole before after line ending.Input → TakesWhole l before after line ending.Input
takes-rest long.Cut before after line read = record { bytes = line; front = read.front; is = refl; stands = read.ends }
takes-rest long.Passed before after line read = record {
  bytes = line;
  front = read.front;
  is = sym (shown-short line (omega (arith, read.ends.short)));
  stands = (read.ends.clear, read.ends.used_up);
}

-- a line was cut
pub takes-cut : (before after : Option (List ℕ)) (line : List ℕ) → ReadsWhole before after line ending.Limit → TakesWhole long.Cut before after line ending.Limit
takes-cut before after line read = record { bytes = line; front = read.front; is = refl; stands = read.ends }

-- a read failed
pub takes-part : (l : LongLines) (before after : Option (List ℕ)) (line : List ℕ) → ReadsPart before after line → TakesPart l before after
takes-part long.Cut before after line read = record { bytes = line; front = read.front; clear = read.clear; short = read.short }
takes-part long.Passed before after line read = record { bytes = line; front = read.front; clear = read.clear; short = tt }

clear-join : (line more : List ℕ) → has_no_feed line ≡ true → has_no_feed more ≡ true → has_no_feed (line ++ more) ≡ true
clear-join line more a b = list_all-append _ line more ∙ and_from (has_no_feed line) (has_no_feed more) a b

-- a line was cut, and its rest passed over
pub takes-long : (first before after : Option (List ℕ)) (line longer : List ℕ) (r : Result Ending Failed) → ReadsWhole first before line ending.Limit → PassesRest before after line longer r → TakesLine long.Passed first after longer r
takes-long first before after line longer (Ok ending.Feed) read passes =
    let rest = passes.0 in
    record {
      bytes = line ++ rest.bytes;
      front = Consumes-trans first before after line rest.bytes read.front rest.front;
      is = passes.1 ∙ sym (shown-long line rest.bytes read.ends rest.ended);
      stands = ended-cut line rest.bytes read.ends.clear rest.ended;
    }
takes-long first before after line longer (Ok ending.Limit) read passes = absurd passes
takes-long first before after line longer (Ok ending.Input) read passes =
    let rest = passes.0.0 in
    let clear = clear-join line rest.bytes read.ends.clear rest.clear in
    record {
      bytes = line ++ rest.bytes;
      front = Consumes-trans first before after line rest.bytes read.front rest.front;
      is = passes.1 ∙ sym (shown-cut line rest.bytes read.ends clear);
      stands = (clear, passes.0.1);
    }
takes-long first before after line longer (Err f) read passes = record {
  bytes = line ++ passes.bytes;
  front = Consumes-trans first before after line passes.bytes read.front passes.front;
  clear = clear-join line passes.bytes read.ends.clear passes.clear;
  short = tt;
}
