-- What is written is whole lines: one for each line that is taken, and one for each event.
use Rattle.std.proofs.Common.{◌≡◌, ℕ, ◌+◌, ◌-◌, Bool, true, false, cond, List, [], ◌∷◌, ◌++◌, length, map, take, Option, Some, None, Result, Ok, Err, refl, ap, sym, ◌∙◌, subst, append_assoc, arith, length-append}
use Rattle.std.specs.Prelude.{codes, flat_map}
use Rattle.std.specs.List.{AllByRecursion, concat, join_with_byte}
use Rattle.std.specs.Fmt.{decimal}
use Rattle.std.proofs.lemmas.List.{take_at}
use Rattle.std.proofs.lemmas.List.Folds.{concat-append}
use Rattle.ff_ids.specs.declared.AccBody.{AccBody}
use Rattle.ff_ids.specs.declared.Fault.{Fault}
use Rattle.ff_ids.specs.declared.Fault.TheVariants as faults
use Rattle.ff_ids.specs.Faults.{accusation_fault, note_fault}
use Rattle.ff_ids.specs.Keys.{listed}
use Rattle.ff_ids.specs.Texts.{accusation_text, fault_text, monitor_text}
use Rattle.ff_ids.specs.Views.{is_member, monitor, view}
use Rattle.hex.specs.Hex.{encode_lower}
use Rattle.life_events.specs.declared.event.Event as reported
use Rattle.life_events.specs.declared.event.What.{What}
use Rattle.life_events.specs.declared.event.What.TheVariants as what
use Rattle.life_events.specs.Events.{event_text, members_text, what_text}
use Rattle.line_text.specs.declared.bad_word.BadWord.{BadWord}
use Rattle.line_text.specs.Answers.{Progress, next_line}
use Rattle.line_text.proofs.FrameLemmas.{judge-spelled}
use Rattle.schedule_direct.specs.declared.direct.Direct.{Direct}
use Rattle.schedule_direct.specs.declared.line.DirectLine.{DirectLine}
use Rattle.schedule_direct.specs.declared.line.DirectLine.TheVariants as lines
use Rattle.schedule_direct.specs.Grammar as grammar
use Rattle.schedule_direct.specs.Grammar.{IsDirect, spelled_words}
use Rattle.schedule_direct.specs.Laws.{direct-spelled}
use Rattle.schedule_direct.proofs.GrammarLemmas.{direct-words}
use Rattle.schedule_direct.specs.Rows.{is_ended, row_for}
use Rattle.text_trace.specs.Lines.{has_no_feed}
use Rattle.trace.specs.Answers.{Answer, Recorded, answer, answer_in, events_text, state_of, told, verdict_on, verdict_on_joining, verdict_text}
use Rattle.trace.specs.Walk.{Taken, Walk, from_line, output_of, walk}
use Rattle.trace.specs.Written.{IsWholeLine}
use Rattle.trace.proofs.TextLemmas.{clear-append, clear-decimal, clear-hex, clear-numbers, clear-words}

-- ## What is written has no line feed inside its lines

-- a text, a space and a number
pub clear-then : (a : List ℕ) (n : ℕ) → has_no_feed a ≡ true → has_no_feed ((a ++ codes " ") ++ decimal n) ≡ true
clear-then a n h = clear-append (a ++ codes " ") (decimal n) (clear-append a (codes " ") h refl) (clear-decimal n)

clear-monitor : (m : Option ℕ) → has_no_feed (monitor_text m) ≡ true
clear-monitor (Some m) = clear-decimal m
clear-monitor None = refl

pub clear-accusation : (a : AccBody) → has_no_feed (accusation_text a) ≡ true
clear-accusation a =
    let two = (decimal a.accuser ++ codes " ") ++ decimal a.accused in
    let three = (two ++ codes " ") ++ decimal a.epoch in
    clear-then three a.ring.0 (clear-then two a.epoch (clear-then (decimal a.accuser) a.accused (clear-decimal a.accuser)))

pub clear-fault : (f : Fault) → has_no_feed (fault_text f) ≡ true
clear-fault faults.AlreadyMember = refl
clear-fault faults.UnknownMember = refl
clear-fault faults.BadMask = refl
clear-fault faults.Known = refl
clear-fault (faults.Older epoch mask) = clear-then (codes "older " ++ decimal epoch) mask.0 (clear-append (codes "older ") (decimal epoch) refl (clear-decimal epoch))
clear-fault faults.SelfAccusation = refl
clear-fault faults.BadRing = refl
clear-fault faults.NoNote = refl
clear-fault (faults.OtherEpoch kept) = clear-append (codes "other-epoch ") (decimal kept) refl (clear-decimal kept)
clear-fault faults.NotInView = refl
clear-fault faults.RingDisabled = refl
clear-fault (faults.NotMonitor m) = clear-append (codes "not-monitor ") (monitor_text m) refl (clear-monitor m)
clear-fault faults.Standing = refl
clear-fault faults.BadSignature = refl
clear-fault (faults.OtherCertificate port key) =
    clear-append ((codes "other-certificate " ++ decimal port) ++ codes " ") (encode_lower (listed key)) (clear-append (codes "other-certificate " ++ decimal port) (codes " ") (clear-append (codes "other-certificate ") (decimal port) refl (clear-decimal port)) refl) (clear-hex (listed key))
clear-fault (faults.OwnAhead stored seen) =
    let one = codes "own-ahead " ++ decimal stored.epoch in
    let two = (one ++ codes " ") ++ decimal stored.mask.0 in
    let three = (two ++ codes " ") ++ decimal seen.epoch in
    clear-then three seen.mask.0 (clear-then two seen.epoch (clear-then one stored.mask.0 (clear-append (codes "own-ahead ") (decimal stored.epoch) refl (clear-decimal stored.epoch))))

pub clear-what : (w : What) → has_no_feed (what_text w) ≡ true
clear-what (what.Entered m) = clear-append (codes "entered ") (decimal m) refl (clear-decimal m)
clear-what (what.Expired a) = clear-append (codes "expired ") (accusation_text a) refl (clear-accusation a)
clear-what (what.Removed m) = clear-append (codes "removed ") (decimal m) refl (clear-decimal m)
clear-what (what.Fell a) = clear-append (codes "fell ") (accusation_text a) refl (clear-accusation a)

clear-event : (e : reported.Event) → has_no_feed (event_text e) ≡ true
clear-event e = clear-append ((codes "at " ++ decimal e.moment) ++ codes " ") (what_text e.what) (clear-append (codes "at " ++ decimal e.moment) (codes " ") (clear-append (codes "at ") (decimal e.moment) refl (clear-decimal e.moment)) refl) (clear-what e.what)

clear-members : (ms : List ℕ) → has_no_feed (members_text ms) ≡ true
clear-members [] = refl
clear-members (m ∷ ms) = clear-append (decimal m) (flat_map (λ m. codes " " ++ decimal m) ms) (clear-decimal m) (clear-numbers ms)

clear-verdict_on : (f : Option Fault) → has_no_feed (verdict_on f) ≡ true
clear-verdict_on None = refl
clear-verdict_on (Some f) = clear-append (codes "refused ") (fault_text f) refl (clear-fault f)

clear-joining : (b : Bool) → has_no_feed (verdict_on_joining b) ≡ true
clear-joining true = refl
clear-joining false = refl

clear-monitored : (b : Bool) (m : Option ℕ) → has_no_feed (cond b (monitor_text m) (codes "refused " ++ fault_text faults.UnknownMember)) ≡ true
clear-monitored true m = clear-monitor m
clear-monitored false m = refl

-- a verdict, if there is one
abbrev IsClear : Option (List ℕ) → Type 0
IsClear None = Unit {0}
IsClear (Some verdict) = has_no_feed verdict ≡ true

clear-in : (r : Recorded) (line : DirectLine) → IsClear (answer_in r line).verdict
clear-in r lines.Header = tt
clear-in r (lines.Group t timeout) = tt
clear-in r (lines.Member m places) = clear-joining (is_member (state_of r) m)
clear-in r (lines.Note note) = clear-verdict_on (note_fault r.group.t (state_of r) note)
clear-in r (lines.Accuse a) = clear-verdict_on (accusation_fault r.group.t (state_of r) a)
clear-in r (lines.Tick n) = tt
clear-in r lines.View = clear-members (view (state_of r))
clear-in r (lines.Monitor ring m) = clear-monitored (is_member (state_of r) m) (monitor (state_of r) ring.0 m)
clear-in r lines.Life = clear-decimal (r.life + 1)
clear-in r lines.End = tt

clear-answer : (recorded : Option Recorded) (line : DirectLine) → IsClear (answer recorded line).verdict
clear-answer (Some r) line = clear-in r line
clear-answer None lines.Header = tt
clear-answer None (lines.Group t timeout) = tt
clear-answer None (lines.Member m places) = tt
clear-answer None (lines.Note note) = tt
clear-answer None (lines.Accuse a) = tt
clear-answer None (lines.Tick n) = tt
clear-answer None lines.View = tt
clear-answer None (lines.Monitor ring m) = tt
clear-answer None lines.Life = tt
clear-answer None lines.End = tt

clear-verdict_text : (v : Option (List ℕ)) → IsClear v → has_no_feed (verdict_text v) ≡ true
clear-verdict_text None h = refl
clear-verdict_text (Some verdict) h = clear-append (codes " : ") verdict refl h

-- ## The lines that are taken are spelled by the grammar

-- the bytes are the words of the line, and a line feed
pub record Spelled (bytes : List ℕ) (l : DirectLine) : Type 0 where
  pub bytes_are : bytes ≡ join_with_byte 32 (spelled_words l) ++ 10 ∷ []
  pub clear : has_no_feed (join_with_byte 32 (spelled_words l)) ≡ true

pub spelled : (p : Progress Direct) (bytes : List ℕ) (l : DirectLine) → grammar.judge p bytes ≡ Ok l → Spelled bytes l
spelled p bytes l judged =
    let is = judge-spelled (next_line is_ended row_for p) (IsDirect p.form) (direct-spelled p.form) bytes l judged in
    let same = direct-words p.form (is.first ∷ is.others) l is.spells in
    record {
      bytes_are = is.spaced ∙ ap (λ (ws : List (List ℕ)). join_with_byte 32 ws ++ 10 ∷ []) same;
      clear = subst (λ (ws : List (List ℕ)). has_no_feed (join_with_byte 32 ws) ≡ true) same (clear-words (is.first ∷ is.others) is.words);
    }

-- a line that was taken is spelled so, and brought its answer
pub record IsTakenLine (t : Taken) : Type 0 where
  pub spelled_so : Spelled t.bytes t.line
  pub brought : t.answer ≡ answer t.before t.line

taken-judged : (recorded : Option Recorded) (bytes : List ℕ) (judged : Result DirectLine BadWord) (rest : DirectLine → Walk) → ((l : DirectLine) → judged ≡ Ok l → Spelled bytes l) → ((l : DirectLine) → AllByRecursion IsTakenLine (rest l).taken) → AllByRecursion IsTakenLine (from_line recorded bytes judged rest).taken
taken-judged recorded bytes (Err w) rest is h = tt
taken-judged recorded bytes (Ok l) rest is h = (record { spelled_so = is l refl; brought = refl }, h l)

pub all-taken : (ls : List (List ℕ)) (p : Progress Direct) (recorded : Option Recorded) → AllByRecursion IsTakenLine (walk ls p recorded).taken
all-taken [] p recorded = tt
all-taken (bytes ∷ ls) p recorded =
    taken-judged recorded bytes (grammar.judge p bytes) (λ l. walk ls (grammar.behind p l) (answer recorded l).recorded) (spelled p bytes) (λ l. all-taken ls (grammar.behind p l) (answer recorded l).recorded)

-- ## The whole lines of what is written

abbrev pub event_line : reported.Event → List ℕ
event_line e = event_text e ++ 10 ∷ []

-- the line itself, with its verdict
abbrev pub told_line : Taken → List ℕ
told_line t = (take (length t.bytes - 1) t.bytes ++ verdict_text t.answer.verdict) ++ 10 ∷ []

abbrev pub pieces_of : Taken → List (List ℕ)
pieces_of t = told_line t ∷ map event_line t.answer.events

abbrev pub pieces : List Taken → List (List ℕ)
pieces taken = flat_map pieces_of taken

events-joined : (events : List reported.Event) → events_text events ≡ concat (map event_line events)
events-joined [] = refl
events-joined (e ∷ events) = ap (λ (x : List ℕ). event_line e ++ x) (events-joined events)

told-joined : (t : Taken) → told t.bytes t.answer ≡ concat (pieces_of t)
told-joined t =
    let front = take (length t.bytes - 1) t.bytes in
    let verdict = verdict_text t.answer.verdict in
    sym (append_assoc front (verdict ++ 10 ∷ []) (events_text t.answer.events))
    ∙ ap (λ (x : List ℕ). x ++ events_text t.answer.events) (sym (append_assoc front verdict (10 ∷ [])))
    ∙ ap (λ (x : List ℕ). told_line t ++ x) (events-joined t.answer.events)

pub output-pieces : (taken : List Taken) → output_of taken ≡ concat (pieces taken)
output-pieces [] = refl
output-pieces (t ∷ taken) =
    ap (λ (x : List ℕ). x ++ output_of taken) (told-joined t) ∙ ap (λ (x : List ℕ). concat (pieces_of t) ++ x) (output-pieces taken) ∙ sym (concat-append (pieces_of t) (pieces taken))

front-spelled : (x : List ℕ) → take (length (x ++ 10 ∷ []) - 1) (x ++ 10 ∷ []) ≡ x
front-spelled x = take_at x (10 ∷ []) (length (x ++ 10 ∷ []) - 1) (omega (arith, length-append x (10 ∷ [])))

-- the text of the line that was taken
pub front-of : (t : Taken) → IsTakenLine t → take (length t.bytes - 1) t.bytes ≡ join_with_byte 32 (spelled_words t.line)
front-of t is = ap (λ (b : List ℕ). take (length b - 1) b) is.spelled_so.bytes_are ∙ front-spelled (join_with_byte 32 (spelled_words t.line))

whole-told : (t : Taken) → IsTakenLine t → IsWholeLine (told_line t)
whole-told t is = record {
  front = take (length t.bytes - 1) t.bytes ++ verdict_text t.answer.verdict;
  clear = clear-append (take (length t.bytes - 1) t.bytes) (verdict_text t.answer.verdict)
      (subst (λ (x : List ℕ). has_no_feed x ≡ true) (sym (front-of t is)) is.spelled_so.clear)
      (clear-verdict_text t.answer.verdict (subst (λ (a : Answer). IsClear a.verdict) (sym is.brought) (clear-answer t.before t.line)));
  ended = refl;
}

whole-event : (e : reported.Event) → IsWholeLine (event_line e)
whole-event e = record { front = event_text e; clear = clear-event e; ended = refl }

whole-events : (events : List reported.Event) → AllByRecursion IsWholeLine (map event_line events)
whole-events [] = tt
whole-events (e ∷ events) = (whole-event e, whole-events events)

all-append : (xs ys : List (List ℕ)) → AllByRecursion IsWholeLine xs → AllByRecursion IsWholeLine ys → AllByRecursion IsWholeLine (xs ++ ys)
all-append [] ys a b = b
all-append (x ∷ xs) ys a b = (a.0, all-append xs ys a.1 b)

pub whole-pieces : (taken : List Taken) → AllByRecursion IsTakenLine taken → AllByRecursion IsWholeLine (pieces taken)
whole-pieces [] h = tt
whole-pieces (t ∷ taken) h = all-append (pieces_of t) (pieces taken) (whole-told t h.0, whole-events t.answer.events) (whole-pieces taken h.1)
