-- What one line does to what is owed.
use Rattle.std.proofs.Common.{◌≡◌, ℕ, true, List, [], ◌∷◌, ◌++◌, Some, Result, Ok, Err, refl, ap, ◌∙◌, sym}
use Rattle.std.specs.Prelude.{IsOkAnd}
use Rattle.line_text.specs.declared.bad_word.BadWord.{BadWord}
use Rattle.line_text.specs.Answers.{Progress}
use Rattle.schedule_world.specs.declared.text.WorldText.{WorldText}
use Rattle.schedule_world.specs.declared.line.WorldLine.{WorldLine}
use Rattle.schedule_world.specs.Grammar.{behind, judge}
use Rattle.schedule_world.specs.Rows.{TakesMemory}
use Rattle.text_trace.specs.Lines.{has_line_feed}
use Rattle.text_trace.specs.Trace.{Admits, IsFree, Continuation, Steps, Trace, before}
use Rattle.text_trace.proofs.TraceLemmas.{free-as}
use Rattle.world_rules.specs.Forgeries.{Forgery}
use Rattle.world_rules.specs.Steps.{NodeEvent}
use Rattle.world_rules.specs.Walk as walk
use Rattle.world_rules.specs.Walk.{Brought, Lists, Plays, Stage, brought, from_answer, no_roster, setting_in, trace_in}
use Rattle.world_replay.specs.declared.stage.Stage.{Stage as Kept}
use Rattle.world_replay.specs.Stages.{HoldsStage, Takes, brought_text}
use Rattle.world_rules.specs.declared.cause.Cause.{Cause}
use Rattle.world_rules.specs.declared.cause.Cause.TheVariants as causes
use Rattle.world_replay.specs.Causes.{IsJudged, grammar, played}
use Rattle.world_replay.specs.Owing.{Owes}
use Rattle.world_replay.proofs.RosterLemmas.{fits-behind}
use Rattle.world_replay.specs.Unfed.{goes_on, judged-fed, played-unrefused}

at-lines : (f g : Continuation Cause) (text : List (List ℕ)) → f ≡ g → f text ≡ g text
at-lines f g text same = ap (λ (h : Continuation Cause). h text) same

-- what the line brings, and what follows it
abbrev brings_on : Progress WorldText → Stage → List (List ℕ) → WorldLine → Result Brought Forgery → Trace Cause
brings_on p stage rest l r = trace_in grammar (from_answer stage l r (λ after. walk.walk grammar setting_in rest (behind p l) after))

-- a line that is judged to be one brings what it brings
judged-on : (p : Progress WorldText) (stage : Stage) (bytes : List ℕ) (l : WorldLine) (rest : List (List ℕ)) → judge p bytes ≡ Ok l → played p stage (bytes ∷ rest) ≡ brings_on p stage rest l (brought setting_in stage l)
judged-on p stage bytes l rest judged = ap (λ (j : Result WorldLine BadWord). trace_in grammar (goes_on p stage rest j)) judged

-- a line that is taken is reported, and then the rest
played-taken : (p : Progress WorldText) (stage : Stage) (bytes : List ℕ) (l : WorldLine) (b : Brought) (rest : List (List ℕ)) → judge p bytes ≡ Ok l → brought setting_in stage l ≡ Ok b → played p stage (bytes ∷ rest) ≡ before (brought_text l b) (played (behind p l) b.stage rest)
played-taken p stage bytes l b rest judged is = judged-on p stage bytes l rest judged ∙ ap (brings_on p stage rest l) is

-- a line is taken
pub line-steps : (p : Progress WorldText) (kept later : Kept) (bytes text : List ℕ) (l : WorldLine) → judge p bytes ≡ Ok l
    → ((stage : Stage) (told : List NodeEvent) → HoldsStage stage told kept → Takes stage told l later [] text (Ok tt))
    → Steps Cause (Owes p kept) (Owes (behind p l) later) (bytes ∷ []) text
line-steps p kept later bytes text l judged takes = λ f owes.
    let t = takes owes.stage owes.told owes.holds in
    let b : Brought = t.0 in
    record {
      later = played (behind p l) b.stage;
      owes = record {
        stage = b.stage;
        told = owes.told ++ b.told;
        holds = t.2.holds;
        fits = fits-behind p bytes l owes.stage b judged t.1 owes.fits;
        same = refl;
      };
      same = λ rest.
          at-lines f (played p owes.stage) (bytes ∷ rest) owes.same ∙ played-taken p owes.stage bytes l b rest judged t.1
          ∙ ap (λ (t : List ℕ). before t (played (behind p l) b.stage rest)) (sym t.2.written);
    }

-- memory is refused for a line that no judged cause refuses
free_if : (p : Progress WorldText) (stage : Stage) (l : WorldLine) (r : Result Brought Forgery) → brought setting_in stage l ≡ r → IsFree Cause IsJudged (λ rest. brings_on p stage rest l r)
free_if p stage l (Ok b) is = λ c judged all. played-unrefused (behind p l) b.stage c tt all
free_if p stage l (Err found) is = λ c judged all. not_forged c judged (all [])
  where
    not_forged : (c : Cause) → IsJudged c → Some (causes.Forged found.who found.body) ≡ Some c → ⊥
    not_forged (causes.Bad w) judged e = cc
    not_forged (causes.Forged who body) judged e = judged

pub line-admits : (p : Progress WorldText) (kept : Kept) (bytes : List ℕ) (l : WorldLine) → judge p bytes ≡ Ok l → Admits Cause IsJudged (Owes p kept) [] (Some bytes)
line-admits p kept bytes l judged = λ f owes.
    free-as Cause IsJudged (λ rest. f (bytes ∷ rest)) (λ rest. brings_on p owes.stage rest l (brought setting_in owes.stage l))
    (λ rest. ap (λ (t : Trace Cause). t.cause) (at-lines f (played p owes.stage) (bytes ∷ rest) owes.same ∙ judged-on p owes.stage bytes l rest judged))
    (free_if p owes.stage l (brought setting_in owes.stage l) refl)

abbrev Starves : Progress WorldText → Kept → List ℕ → Type 0
Starves p kept bytes = (has_line_feed bytes ≡ true) × Admits Cause IsJudged (Owes p kept) [] (Some bytes)

-- memory is refused behind reading it
pub told-starved : (p : Progress WorldText) (kept : Kept) (bytes : List ℕ) (l : WorldLine) → judge p bytes ≡ Ok l → Starves p kept bytes
told-starved p kept bytes l judged = (judged-fed p bytes l judged, line-admits p kept bytes l judged)

starved : (p : Progress WorldText) (kept : Kept) (bytes : List ℕ) (j : Result WorldLine BadWord) → judge p bytes ≡ j → IsOkAnd j TakesMemory → Starves p kept bytes
starved p kept bytes (Ok l) judged takes = told-starved p kept bytes l judged
starved p kept bytes (Err w) judged takes = absurd takes

-- or in reading it
pub read-starved : (p : Progress WorldText) (kept : Kept) (bytes : List ℕ) → IsOkAnd (judge p bytes) TakesMemory → Starves p kept bytes
read-starved p kept bytes takes = starved p kept bytes (judge p bytes) refl takes
