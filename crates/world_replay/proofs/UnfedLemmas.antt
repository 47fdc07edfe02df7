-- A text that ends inside a line.
use Rattle.std.proofs.Common.{◌≡◌, ℕ, true, List, [], ◌∷◌, ◌++◌, Option, Some, None, Result, Ok, Err, refl, ap, sym, ◌∙◌}
use Rattle.line_text.specs.declared.bad_word.BadWord.{BadWord}
use Rattle.line_text.specs.Answers.{Progress}
use Rattle.schedule_world.specs.declared.text.WorldText.{WorldText}
use Rattle.schedule_world.specs.declared.line.WorldLine.{WorldLine}
use Rattle.schedule_world.specs.Grammar.{behind, judge, opening}
use Rattle.text_trace.specs.Lines.{has_no_feed}
use Rattle.world_rules.specs.Forgeries.{Forgery}
use Rattle.world_rules.specs.Walk as walk
use Rattle.world_rules.specs.Walk.{Brought, Lists, Stage, Taken, at_end, brought, from_answer, from_line, no_roster, output_of, setting_in}
use Rattle.world_laws.specs.Texts.{end_fault}
use Rattle.world_replay.specs.Causes.{grammar, replayed}
use Rattle.world_replay.specs.Unfed.{unfed-none}
pub use Rattle.world_replay.specs.Unfed.{played-waits}

taken-none : (p : Progress WorldText) (stage : Stage) (bytes : List ℕ) (rest : WorldLine → Stage → walk.Walk) (r : Result WorldLine BadWord) → judge p bytes ≡ r → has_no_feed bytes ≡ true → (from_line setting_in stage r rest).taken ≡ []
taken-none p stage bytes rest (Ok l) is clear = absurd (unfed-none p bytes l is clear)
taken-none p stage bytes rest (Err w) is clear = refl

ended-none : (stage : Stage) (fault : Option BadWord) → (at_end stage fault).taken ≡ []
ended-none stage None = refl
ended-none stage (Some w) = refl

same-answer : (stage : Stage) (l : WorldLine) (r : Result Brought Forgery) (rest others : Stage → walk.Walk) → ((after : Stage) → (rest after).taken ≡ (others after).taken) → (from_answer stage l r rest).taken ≡ (from_answer stage l r others).taken
same-answer stage l (Err found) rest others same = refl
same-answer stage l (Ok b) rest others same = ap (λ (ts : List Taken). record { before = stage; line = l; brought = b } ∷ ts) (same b.stage)

same-taken : (stage : Stage) (r : Result WorldLine BadWord) (rest others : WorldLine → Stage → walk.Walk) → ((l : WorldLine) (after : Stage) → (rest l after).taken ≡ (others l after).taken) → (from_line setting_in stage r rest).taken ≡ (from_line setting_in stage r others).taken
same-taken stage (Err w) rest others same = refl
same-taken stage (Ok l) rest others same = same-answer stage l (brought setting_in stage l) (rest l) (others l) (same l)

unfed-last : (ls : List (List ℕ)) (line : List ℕ) (p : Progress WorldText) (stage : Stage) → has_no_feed line ≡ true → (walk.walk grammar setting_in (ls ++ line ∷ []) p stage).taken ≡ (walk.walk grammar setting_in ls p stage).taken
unfed-last [] line p stage clear =
    taken-none p stage line (λ l after. walk.walk grammar setting_in [] (behind p l) after) (judge p line) refl clear ∙ sym (ended-none stage (end_fault p))
unfed-last (bytes ∷ ls) line p stage clear =
    same-taken stage (judge p bytes) (λ l after. walk.walk grammar setting_in (ls ++ line ∷ []) (behind p l) after) (λ l after. walk.walk grammar setting_in ls (behind p l) after)
    (λ l after. unfed-last ls line (behind p l) after clear)

-- Its last line, which isn't ended, adds nothing.
pub unfed-adds-nothing : (ls : List (List ℕ)) (line : List ℕ) → has_no_feed line ≡ true → (replayed (ls ++ line ∷ [])).output ≡ (replayed ls).output
unfed-adds-nothing ls line clear = ap (output_of grammar) (unfed-last ls line opening (Lists no_roster) clear)
