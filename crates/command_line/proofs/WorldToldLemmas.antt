-- What the whole lines of what is written for a schedule of a world give.
use Rattle.std.proofs.Common.{◌≡◌, ℕ, true, List, [], ◌∷◌, ◌++◌, get_or, Option, Some, None, Result, Ok, Err, inl, inr, refl, ap, sym, ◌∙◌, subst, append_assoc, append-nil, drop}
use Rattle.std.specs.Prelude.{codes, flat_map}
use Rattle.std.specs.List.{AllByRecursion, concat, list_all}
use Rattle.std.proofs.lemmas.List.Folds.{concat-append}
use Rattle.std.specs.Fmt.{decimal}
use Rattle.journal.specs.declared.event.What.{What}
use Rattle.journal.specs.declared.event.What.TheVariants as what
use Rattle.journal.specs.Texts.{event_text}
use Rattle.life_laws.proofs.Lists.{In, In-append_cases, In-append_left, In-append_right, In-from_Contains, Contains-from_In}
use Rattle.line_text.specs.declared.bad_word.BadWord.{BadWord}
use Rattle.line_text.specs.Answers.{Progress, next_line}
use Rattle.line_text.specs.Words.{is_word}
use Rattle.line_text.proofs.FrameLemmas.{judge-spelled}
use Rattle.schedule_world.specs.declared.line.WorldLine.{WorldLine}
use Rattle.schedule_world.specs.declared.text.WorldText.{WorldText}
use Rattle.schedule_world.specs.Grammar.{IsWorld, behind, judge, opening}
use Rattle.schedule_world.specs.Laws.{world-spelled}
use Rattle.schedule_world.proofs.GrammarLemmas.{world-words}
use Rattle.schedule_world.specs.Rows.{is_ended, row_for}
use Rattle.text_trace.specs.Lines.{has_no_feed}
use Rattle.trace.specs.Written.{IsLineOf, IsWholeLine}
use Rattle.trace.proofs.JustifiedLemmas.{IsTail, split}
use Rattle.trace.proofs.TextLemmas.{clear-append, clear-decimal, same-fronts, unspaced-decimal}
use Rattle.node_command.proofs.LineLemmas.{AreLines, in-front, in-tail, lines-behind, lines-none, lines-one, lines-weaker, removal-event, whole-event}
use Rattle.world_rules.specs.Forgeries.{Forgery}
use Rattle.world_rules.specs.Steps.{NodeEvent}
use Rattle.world_rules.specs.Walk.{Brought, Lists, Stage, Taken, Walk, at_end, brought, from_answer, from_line, no_roster, output_of, setting_in, taken_text, told_text, walk}
use Rattle.world_text.specs.Lines.{line_text}
use Rattle.command_line.specs.WorldWritten.{GivesTold, IsOfEvent, IsRemovalTold, IsTold, ToldEventsAreWritten, WrittenLinesAreTold, grammar, output, removal, told_in, told_line}
use Rattle.command_line.proofs.WorldLineLemmas.{clear-line, line-other, line_of, whole-line}

-- ## The lines that are taken are spelled by the grammar

abbrev IsClear : Taken → Type 0
IsClear t = has_no_feed (line_text t.line) ≡ true

clear-judged : (p : Progress WorldText) (bytes : List ℕ) (l : WorldLine) → judge p bytes ≡ Ok l → has_no_feed (line_text l) ≡ true
clear-judged p bytes l judged =
    let is = judge-spelled (next_line is_ended row_for p) (IsWorld p.form) (world-spelled p.form) bytes l judged in
    let own = world-words p.form (is.first ∷ is.others) l is.spells in
    clear-line own.0 l (subst (λ (ws : List (List ℕ)). list_all is_word ws ≡ true) own.1 is.words)

abbrev walk_from : List (List ℕ) → Progress WorldText → Stage → Walk
walk_from rest p stage = walk grammar setting_in rest p stage

end-taken : (stage : Stage) (fault : Option BadWord) → AllByRecursion IsClear (at_end stage fault).taken
end-taken stage None = tt
end-taken stage (Some word) = tt

answer-taken : (stage : Stage) (l : WorldLine) (r : Result Brought Forgery) (rest : Stage → Walk) → has_no_feed (line_text l) ≡ true → ((after : Stage) → AllByRecursion IsClear (rest after).taken) → AllByRecursion IsClear (from_answer stage l r rest).taken
answer-taken stage l (Err found) rest clear h = tt
answer-taken stage l (Ok b) rest clear h = (clear, h b.stage)

line-taken : (stage : Stage) (r : Result WorldLine BadWord) (rest : WorldLine → Stage → Walk) → ((l : WorldLine) → r ≡ Ok l → has_no_feed (line_text l) ≡ true) → ((l : WorldLine) (after : Stage) → AllByRecursion IsClear (rest l after).taken) → AllByRecursion IsClear (from_line setting_in stage r rest).taken
line-taken stage (Err word) rest clear h = tt
line-taken stage (Ok l) rest clear h = answer-taken stage l (brought setting_in stage l) (rest l) (clear l refl) (h l)

all-clear : (lines : List (List ℕ)) (p : Progress WorldText) (stage : Stage) → AllByRecursion IsClear (walk_from lines p stage).taken
all-clear [] p stage = end-taken stage (grammar.end_fault p)
all-clear (bytes ∷ lines) p stage =
    line-taken stage (judge p bytes) (λ l after. walk_from lines (behind p l) after) (λ l is. clear-judged p bytes l is) (λ l after. all-clear lines (behind p l) after)

-- ## What is written is whole lines, and those that begin as that of an event are of events that were reported

-- the line gives an event among these, if it begins as one
abbrev Gives : List NodeEvent → List ℕ → Type 0
Gives told line = IsOfEvent line → (t : NodeEvent) × (In told t × (line ≡ told_line t))

told-ended : (t : NodeEvent) → told_line t ≡ (codes "@" ++ decimal t.who ++ codes " ") ++ (event_text t.event ++ 10 ∷ [])
told-ended t = append_assoc (codes "@" ++ decimal t.who ++ codes " ") (event_text t.event) (10 ∷ [])

whole-told : (t : NodeEvent) → IsWholeLine (told_line t)
whole-told t =
    let start = codes "@" ++ decimal t.who ++ codes " " in
    let event = whole-event t.event in
    record {
      front = start ++ event.front;
      clear = clear-append start event.front (clear-append (codes "@" ++ decimal t.who) (codes " ") (clear-append (codes "@") (decimal t.who) refl (clear-decimal t.who)) refl) event.clear;
      ended = told-ended t ∙ ap (λ (x : List ℕ). start ++ x) event.ended ∙ sym (append_assoc start event.front (10 ∷ []));
    }

more : (a b : List NodeEvent) (line : List ℕ) → Gives b line → Gives (a ++ b) line
more a b line gives begins = let g = gives begins in (g.0, (In-append_right a b g.0 g.1.0, g.1.1))

fewer : (a b : List NodeEvent) (line : List ℕ) → Gives a line → Gives (a ++ b) line
fewer a b line gives begins = let g = gives begins in (g.0, (In-append_left a b g.0 g.1.0, g.1.1))

event-lines : (told : List NodeEvent) → AreLines (Gives told) (flat_map (λ e. told_text e ++ 10 ∷ []) told)
event-lines [] = lines-none (Gives [])
event-lines (t ∷ told) =
    lines-behind (Gives (t ∷ told)) (told_line t) (flat_map (λ e. told_text e ++ 10 ∷ []) told) (lines-one (Gives (t ∷ told)) (told_line t) (whole-told t) (λ begins. (t, (inl refl, refl))))
    (lines-weaker (Gives told) (Gives (t ∷ told)) (flat_map (λ e. told_text e ++ 10 ∷ []) told) (more (t ∷ []) told) (event-lines told))

taken-lines : (t : Taken) → IsClear t → AreLines (Gives t.brought.told) (taken_text grammar t)
taken-lines t clear =
    let told = t.brought.told in
    lines-behind (Gives told) (line_of t.line t.brought.verdict) (flat_map (λ e. told_text e ++ 10 ∷ []) told)
    (lines-one (Gives told) (line_of t.line t.brought.verdict) (whole-line t.line t.brought.verdict clear) (λ begins. absurd (line-other t.line t.brought.verdict begins))) (event-lines told)

abbrev told_of : List Taken → List NodeEvent
told_of taken = flat_map (λ t. t.brought.told) taken

all-lines : (taken : List Taken) → AllByRecursion IsClear taken → AreLines (Gives (told_of taken)) (output_of grammar taken)
all-lines [] clear = lines-none (Gives [])
all-lines (t ∷ taken) clear =
    let here = t.brought.told in
    let later = told_of taken in
    lines-behind (Gives (here ++ later)) (taken_text grammar t) (output_of grammar taken) (lines-weaker (Gives here) (Gives (here ++ later)) (taken_text grammar t) (fewer here later) (taken-lines t clear.0))
    (lines-weaker (Gives later) (Gives (here ++ later)) (output_of grammar taken) (more here later) (all-lines taken clear.1))

written-lines : (lines : List (List ℕ)) → AreLines (Gives (told_in lines)) (output lines)
written-lines lines = all-lines (walk_from lines opening (Lists no_roster)).taken (all-clear lines opening (Lists no_roster))

-- ## Which event a line gives

drop-sign : (x y : List ℕ) → codes "@" ++ x ≡ codes "@" ++ y → x ≡ y
drop-sign x y e = ap (λ (t : List ℕ). drop 1 t) e

behind-sign : (t : NodeEvent) → told_line t ≡ codes "@" ++ (decimal t.who ++ 32 ∷ (event_text t.event ++ 10 ∷ []))
behind-sign t = told-ended t ∙ append_assoc (codes "@" ++ decimal t.who) (codes " ") (event_text t.event ++ 10 ∷ []) ∙ append_assoc (codes "@") (decimal t.who) (32 ∷ (event_text t.event ++ 10 ∷ []))

-- an event that was reported whose line gives a removal is one
removal-told : (t : NodeEvent) (who moment m : ℕ) → told_line t ≡ told_line (removal who moment m) → (k : ℕ) × (t.event.what ≡ what.Removed k)
removal-told t who moment m same =
    let behind = drop-sign _ _ (sym (behind-sign t) ∙ same ∙ behind-sign (removal who moment m)) in
    let s = same-fronts 32 (decimal t.who) (decimal who) _ _ (unspaced-decimal t.who) (unspaced-decimal who) behind in
    removal-event t.event moment m s.rests

gives-removal : (told : List NodeEvent) (who moment m : ℕ) → Gives told (told_line (removal who moment m)) → IsRemovalTold told (told_line (removal who moment m))
gives-removal told who moment m gives =
    let g = gives refl in
    let t = g.0 in
    let k = removal-told t who moment m (sym g.1.1) in
    let is : t ≡ removal t.who t.event.moment k.0 = ap (λ (w : What). record { who = t.who; event = record { moment = t.event.moment; what = w } }) k.1 in
    record { who = t.who; moment = t.event.moment; member = k.0; among = Contains-from_In told _ (subst (In told) is g.1.0); spelled = g.1.1 ∙ ap told_line is }

gives-event : (told : List NodeEvent) (line : List ℕ) → Gives told line → IsOfEvent line → IsTold told line
gives-event told line gives begins = let g = gives begins in record { event = g.0; among = Contains-from_In told g.0 g.1.0; spelled = g.1.1 }

gives-told : (told : List NodeEvent) (written : List ℕ) → ((line : List ℕ) → IsLineOf line written → Gives told line) → GivesTold told written
gives-told told written gives = record {
  events = λ line of begins. gives-event told line (gives line of) begins;
  removals = λ who moment m of. gives-removal told who moment m (gives (told_line (removal who moment m)) of);
}

-- a front of what is written
pub front-told : WrittenLinesAreTold
front-told lines written rest same = gives-told (told_in lines) written (λ line of. in-front (Gives (told_in lines)) (output lines) written rest line (written-lines lines) same of)

-- all of it, and a line behind it that begins otherwise, or a front of one
pub behind-told : (lines : List (List ℕ)) (last : List ℕ) → IsTail last → (get_or last 0 0 ≡ 64 → ⊥) → GivesTold (told_in lines) (output lines ++ last)
behind-told lines last tail other = gives-told (told_in lines) (output lines ++ last) (λ line of begins.
    in-tail (Gives (told_in lines)) (output lines) last line (written-lines lines) tail (λ e. other (e ∙ begins)) of begins)

-- ## Each event that was reported is written

-- the text is whole lines, among them one for each of these events
record Tells (told : List NodeEvent) (text : List ℕ) : Type 0 where
  lines : List (List ℕ)
  joined : text ≡ concat lines
  whole : AllByRecursion IsWholeLine lines
  has : (t : NodeEvent) → In told t → In lines (told_line t)

both-whole : (xs ys : List (List ℕ)) → AllByRecursion IsWholeLine xs → AllByRecursion IsWholeLine ys → AllByRecursion IsWholeLine (xs ++ ys)
both-whole [] ys a b = b
both-whole (x ∷ xs) ys a b = (a.0, both-whole xs ys a.1 b)

tells-none : Tells [] []
tells-none = record { lines = []; joined = refl; whole = tt; has = λ t i. i }

tells-line : (line : List ℕ) → IsWholeLine line → Tells [] line
tells-line line whole = record { lines = line ∷ []; joined = sym (append-nil line); whole = (whole, tt); has = λ t i. absurd i }

tells-one : (t : NodeEvent) → Tells (t ∷ []) (told_line t)
tells-one t = record { lines = told_line t ∷ []; joined = sym (append-nil (told_line t)); whole = (whole-told t, tt); has = λ k i. elim i [ inl same ↦ inl (ap told_line same) | inr none ↦ absurd none ] }

tells-behind : (a b : List NodeEvent) (x y : List ℕ) → Tells a x → Tells b y → Tells (a ++ b) (x ++ y)
tells-behind a b x y first second = record {
  lines = first.lines ++ second.lines;
  joined = ap (λ (t : List ℕ). t ++ y) first.joined ∙ ap (λ (t : List ℕ). concat first.lines ++ t) second.joined ∙ sym (concat-append first.lines second.lines);
  whole = both-whole first.lines second.lines first.whole second.whole;
  has = λ t i.
      elim (In-append_cases a b t i) [
        | inl here ↦ In-append_left first.lines second.lines (told_line t) (first.has t here)
        | inr later ↦ In-append_right first.lines second.lines (told_line t) (second.has t later)
      ];
}

tells-events : (told : List NodeEvent) → Tells told (flat_map (λ e. told_text e ++ 10 ∷ []) told)
tells-events [] = tells-none
tells-events (t ∷ told) = tells-behind (t ∷ []) told (told_line t) (flat_map (λ e. told_text e ++ 10 ∷ []) told) (tells-one t) (tells-events told)

tells-taken : (t : Taken) → IsClear t → Tells t.brought.told (taken_text grammar t)
tells-taken t clear =
    tells-behind [] t.brought.told (line_of t.line t.brought.verdict) (flat_map (λ e. told_text e ++ 10 ∷ []) t.brought.told)
    (tells-line (line_of t.line t.brought.verdict) (whole-line t.line t.brought.verdict clear)) (tells-events t.brought.told)

tells-all : (taken : List Taken) → AllByRecursion IsClear taken → Tells (told_of taken) (output_of grammar taken)
tells-all [] clear = tells-none
tells-all (t ∷ taken) clear = tells-behind t.brought.told (told_of taken) (taken_text grammar t) (output_of grammar taken) (tells-taken t clear.0) (tells-all taken clear.1)

pub all-written : ToldEventsAreWritten
all-written lines t among =
    let all = tells-all (walk_from lines opening (Lists no_roster)).taken (all-clear lines opening (Lists no_roster)) in
    subst (IsLineOf (told_line t)) (sym all.joined) (split all.lines (told_line t) all.whole (all.has t (In-from_Contains (told_in lines) t among)))
