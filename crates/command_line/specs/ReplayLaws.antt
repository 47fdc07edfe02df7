-- Between two lines nothing is owed, whatever form is read.
use Rattle.std.proofs.Common.{◌≡◌, ℕ, Bool, true, false, List, [], ◌∷◌, Option, Some, None, Result, ap, sym, ◌∙◌}
use Rattle.std.specs.Str.{bytes_eq}
use Rattle.line_text.specs.declared.bad_word.BadWord.{BadWord}
use Rattle.line_text.specs.declared.bad_word.BadWord.TheVariants as bad
use Rattle.line_text.specs.Answers.{next_line}
use Rattle.line_text.proofs.FrameLemmas.{judge-empty}
use Rattle.schedule_direct.specs.declared.line.DirectLine.{DirectLine}
use Rattle.schedule_direct.specs.Grammar as grammar
use Rattle.schedule_direct.specs.Rows.{is_ended, row_for}
use Rattle.schedule_world.specs.Grammar.{opening}
use Rattle.text_trace.specs.Lines.{has_no_feed}
use Rattle.play.specs.Named.{IsNaming}
use Rattle.play.proofs.NamedLemmas.{waits-named}
use Rattle.text_trace.specs.Trace.{Continuation, Every, Waits}
use Rattle.text_trace.proofs.TraceLemmas.{waits-same}
use Rattle.trace.specs.Answers.{answer}
use Rattle.trace.specs.Walk.{from_line, trace_in, walk}
use Rattle.trace.proofs.UnfedLemmas as direct_form
use Rattle.replay.specs.Playing as direct
use Rattle.world_rules.specs.Walk.{Lists, no_roster}
use Rattle.world_rules.specs.declared.cause.Cause.{Cause}
use Rattle.world_rules.specs.declared.cause.Cause.TheVariants as causes
use Rattle.world_replay.specs.Causes.{IsJudged}
use Rattle.world_replay.specs.Owing as world
use Rattle.world_replay.specs.Unfed as world_form
use Rattle.command_line.specs.declared.replay_form.FormPlayer.{FormPlayer}
use Rattle.command_line.specs.declared.replay_form.FormPlayer.TheVariants as forms
use Rattle.command_line.specs.ReplayOwing.{OwedFrom}
use Rattle.command_line.specs.Replayed.{all_bad, as_bad, replayed, replayed_as, world_header}

-- a bad word is named by its cause, which the lines alone tell
pub bad-words : IsNaming BadWord Cause Every IsJudged causes.Bad
bad-words = record { apart = λ v w e. cc; judged = λ w judged. tt }

pub silent-as : (of_world : Bool) (line : List ℕ) (rest : List (List ℕ)) → has_no_feed line ≡ true → (replayed_as of_world (line ∷ rest)).output ≡ []
silent-as true line rest clear = (world_form.played-waits opening (Lists no_roster)).silent line rest clear
silent-as false line rest clear = (direct_form.played-waits grammar.opening None).silent line rest clear

-- the end of a text and a line of no bytes have no cause in common
replayed-unrefused : (c : Cause) → ((lines : List (List ℕ)) → (replayed lines).cause ≡ Some c) → ⊥
replayed-unrefused c all =
    let none : Some (causes.Bad bad.End) ≡ Some c = all [] in
    let empty : (replayed ([] ∷ [])).cause ≡ Some (causes.Bad bad.LineFeed) =
    ap (λ (j : Result DirectLine BadWord). (as_bad (trace_in (from_line None [] j (λ l. walk [] (grammar.behind grammar.opening l) (answer None l).recorded)))).cause) (judge-empty (next_line is_ended row_for grammar.opening)) in
    let both : Some (causes.Bad bad.End) ≡ Some (causes.Bad bad.LineFeed) = none ∙ sym (sym empty ∙ all ([] ∷ [])) in
    cc

pub replayed-waits : Waits Cause replayed
replayed-waits = record {
  silent = λ line rest clear. silent-as (bytes_eq line world_header) line rest clear;
  unrefused = λ c any all. replayed-unrefused c all;
}

pub owed_waits : (form : Option FormPlayer) (f : Continuation Cause) → OwedFrom form f → Waits Cause f
owed_waits None f owes = waits-same Cause f replayed owes replayed-waits
owed_waits (Some (forms.Direct player)) f owes = waits-same Cause f (all_bad owes.owed) owes.same (waits-named BadWord Cause causes.Bad owes.owed bad-words.apart (direct.owed_waits player owes.owed owes.is))
owed_waits (Some (forms.World player)) f owes = world.owed_waits player f owes
