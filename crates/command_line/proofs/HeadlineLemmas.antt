-- What a replay upholds, from how it ended.
use Rattle.std.proofs.Common.{◌≡◌, ℕ, Bool, true, false, List, [], ◌++◌, Ok, Err, refl, sym, subst, ◌∙◌, ap, append-nil}
use Rattle.play.specs.Plays.{IoState}
use Rattle.play.specs.declared.stop.Stop.TheVariants as stop
use Rattle.text_trace.specs.Lines.{seen}
use Rattle.text_trace.specs.Trace.{Continuation}
use Rattle.trace.specs.Walk as direct
use Rattle.trace.specs.Written.{IsJustified, IsTold}
use Rattle.trace.proofs.AnswerLemmas.{rule-out}
use Rattle.trace.proofs.JustifiedLemmas.{justified-behind, justified-written, told-written}
use Rattle.trace.proofs.SinceLemmas.{ends-acceptance}
use Rattle.trace.proofs.UprightLemmas.{justified-walk}
use Rattle.world_laws.specs.Texts.{IsForgedAt}
use Rattle.world_laws.proofs.FlowWalks.{each-once}
use Rattle.world_laws.proofs.Viewed.{texts-answer}
use Rattle.world_laws.proofs.Walking.{texts-come, texts-lawful}
use Rattle.world_text.specs.Lines.{line_text}
use Rattle.command_line.specs.WorldWritten.{GivesAll, GivesTold, output, told_in, world_walk}
use Rattle.command_line.proofs.WorldToldLemmas.{all-written, behind-told, front-told}
use Rattle.world_rules.specs.declared.cause.Cause.{Cause}
use Rattle.world_rules.specs.declared.cause.Cause.TheVariants as causes
use Rattle.world_replay.specs.Causes as world
use Rattle.world_replay.specs.Causes.{IsJudged}
use Rattle.command_line.specs.Replayed.{is_world, replayed, replayed_as}
use Rattle.command_line.proofs.ReplayWaitLemmas.{unfed-adds-nothing}
use Rattle.command_line.specs.Causes.{IsWritten, RunEnd, cause_line, for_cause, status_by}
use Rattle.command_line.specs.Ends.{EndsBy}
use Rattle.command_line.specs.Headline.{DirectHeadline, Headline, HeadlineAs, OnForged, OnWhole, WorldHeadline}
use Rattle.command_line.specs.Traced.{EndsSilently, IsOwed}
use Rattle.command_line.proofs.CauseLines.{IsOther, bad-line, begins-other, fault-line, forged-line, tail-of, unsigned-other}
use Rattle.command_line.proofs.EndLemmas.{none_shorter}
use Rattle.command_line.proofs.ForgedLemmas.{forged-at}
use Rattle.command_line.proofs.TraceLemmas.{traced}
use Rattle.command_line.specs.declared.status.Status.{Status}
use Rattle.command_line.specs.declared.status.Status.TheVariants as status

silently : EndsSilently replayed
silently = unfed-adds-nothing

whole : {C : Type 0} → (owed : Continuation C) (rest : List ℕ) (r : RunEnd C) → EndsSilently owed → IsOwed owed rest r → OnWhole r (rest ≡ [])
whole owed rest (Ok _) quiet none = none
whole owed rest (Err (stop.Refused line cause)) quiet none = none
whole owed rest (Err stop.ReadFault) quiet none = none quiet
whole owed rest (Err stop.WriteFault) quiet none = tt
whole owed rest (Err stop.OutOfMemory) quiet none = tt

on-whole : {C : Type 0} → (r : RunEnd C) (P Q : Type 0) → (P → Q) → OnWhole r P → OnWhole r Q
on-whole (Ok _) P Q f p = f p
on-whole (Err (stop.Refused line cause)) P Q f p = f p
on-whole (Err stop.ReadFault) P Q f p = f p
on-whole (Err stop.WriteFault) P Q f p = tt
on-whole (Err stop.OutOfMemory) P Q f p = tt

-- ## A text of the direct form

-- the line of a cause gives no removal, nor does a front of it
justified-cause : (lines : List (List ℕ)) (text whole line : List ℕ) (failed : Bool) → (direct.replayed lines).output ≡ text → IsOther whole → IsWritten failed whole line → IsJustified lines (text ++ line)
justified-cause lines text whole line failed same other is =
    subst (λ (t : List ℕ). IsJustified lines (t ++ line)) same (justified-behind lines line (tail-of whole line failed other is) (begins-other whole line failed other is))

-- where there is no line
justified-alone : (lines : List (List ℕ)) (text rest line : List ℕ) (failed : Bool) → (direct.replayed lines).output ≡ text ++ rest → IsWritten failed [] line → IsJustified lines (text ++ line)
justified-alone lines text rest line false same is =
    subst (IsJustified lines) (sym (ap (λ (l : List ℕ). text ++ l) is ∙ append-nil text)) (justified-written lines text rest same)
justified-alone lines text rest line true same is = absurd (none_shorter _ is.short)

-- all of what is owed
all-of : (owed text rest : List ℕ) → owed ≡ text ++ rest → rest ≡ [] → owed ≡ text
all-of owed text rest same none = same ∙ ap (λ (r : List ℕ). text ++ r) none ∙ append-nil text

justified : (lines : List (List ℕ)) (text rest line : List ℕ) (failed : Bool) (r : RunEnd Cause) → (direct.replayed lines).output ≡ text ++ rest → OnWhole r (rest ≡ []) → IsWritten failed (cause_line (status_by for_cause r)) line → IsJustified lines (text ++ line)
justified lines text rest line failed (Ok _) same none is = justified-alone lines text rest line failed same is
justified lines text rest line failed (Err (stop.Refused number (causes.Bad w))) same none is =
    justified-cause lines text (cause_line (status.BadInput number w)) line failed (all-of (direct.replayed lines).output text rest same none) (bad-line number w) is
justified lines text rest line failed (Err (stop.Refused number (causes.Forged who body))) same none is =
    justified-cause lines text (cause_line (status.Forged number who body)) line failed (all-of (direct.replayed lines).output text rest same none) (forged-line number who body) is
justified lines text rest line failed (Err stop.ReadFault) same none is =
    justified-cause lines text (cause_line status.ReadFault) line failed (all-of (direct.replayed lines).output text rest same none) fault-line is
justified lines text rest line failed (Err stop.WriteFault) same none is = justified-alone lines text rest line failed same is
justified lines text rest line failed (Err stop.OutOfMemory) same none is = justified-alone lines text rest line failed same is

direct-headline : (lines : List (List ℕ)) (text rest line : List ℕ) (failed : Bool) (r : RunEnd Cause) → (direct.replayed lines).output ≡ text ++ rest → OnWhole r (rest ≡ []) → IsWritten failed (cause_line (status_by for_cause r)) line → DirectHeadline lines text line r
direct-headline lines text rest line failed r same whole is = record {
  written = justified lines text rest line failed r same whole is;
  taken = justified-walk lines;
  told =
      on-whole r (rest ≡ []) (IsTold lines text)
      (λ none. subst (IsTold lines) (all-of (direct.replayed lines).output text rest same none) (told-written lines)) whole;
  rule_out = rule-out lines;
  ends_acceptance = ends-acceptance lines;
}

-- ## A schedule of a world

-- the line of a cause gives no event, nor does a front of it
told-cause : (lines : List (List ℕ)) (text whole line : List ℕ) (failed : Bool) → output lines ≡ text → IsOther whole → IsWritten failed whole line → GivesTold (told_in lines) (text ++ line)
told-cause lines text whole line failed same other is =
    subst (λ (t : List ℕ). GivesTold (told_in lines) (t ++ line)) same (behind-told lines line (tail-of whole line failed other is) (unsigned-other whole line failed other is))

-- where there is no line
told-alone : (lines : List (List ℕ)) (text rest line : List ℕ) (failed : Bool) → output lines ≡ text ++ rest → IsWritten failed [] line → GivesTold (told_in lines) (text ++ line)
told-alone lines text rest line false same is =
    subst (GivesTold (told_in lines)) (sym (ap (λ (l : List ℕ). text ++ l) is ∙ append-nil text)) (front-told lines text rest same)
told-alone lines text rest line true same is = absurd (none_shorter _ is.short)

told : (lines : List (List ℕ)) (text rest line : List ℕ) (failed : Bool) (r : RunEnd Cause) → output lines ≡ text ++ rest → OnWhole r (rest ≡ []) → IsWritten failed (cause_line (status_by for_cause r)) line → GivesTold (told_in lines) (text ++ line)
told lines text rest line failed (Ok _) same none is = told-alone lines text rest line failed same is
told lines text rest line failed (Err (stop.Refused number (causes.Bad w))) same none is = told-cause lines text (cause_line (status.BadInput number w)) line failed (all-of (output lines) text rest same none) (bad-line number w) is
told lines text rest line failed (Err (stop.Refused number (causes.Forged who body))) same none is =
    told-cause lines text (cause_line (status.Forged number who body)) line failed (all-of (output lines) text rest same none) (forged-line number who body) is
told lines text rest line failed (Err stop.ReadFault) same none is = told-cause lines text (cause_line status.ReadFault) line failed (all-of (output lines) text rest same none) fault-line is
told lines text rest line failed (Err stop.WriteFault) same none is = told-alone lines text rest line failed same is
told lines text rest line failed (Err stop.OutOfMemory) same none is = told-alone lines text rest line failed same is

world-headline : (lines : List (List ℕ)) (text rest line : List ℕ) (failed : Bool) (r : RunEnd Cause) → output lines ≡ text ++ rest → OnWhole r (rest ≡ []) → IsWritten failed (cause_line (status_by for_cause r)) line → OnForged r (IsForgedAt world.grammar lines (world_walk lines)) → WorldHeadline lines text line r
world-headline lines text rest line failed r same whole is named = record {
  played = texts-come line_text lines;
  lawful = texts-lawful line_text lines;
  flowed = each-once line_text lines;
  views = texts-answer line_text lines;
  forged = named;
  written = told lines text rest line failed r same whole is;
  told =
      on-whole r (rest ≡ []) (GivesAll (told_in lines) text)
      (λ none. subst (GivesAll (told_in lines)) (all-of (output lines) text rest same none) (all-written lines)) whole;
}

-- ## Either

headline-as : (of_world : Bool) (lines : List (List ℕ)) (text rest line : List ℕ) (failed : Bool) (r : RunEnd Cause) → (replayed_as of_world lines).output ≡ text ++ rest → OnWhole r (rest ≡ []) → IsWritten failed (cause_line (status_by for_cause r)) line
    → (of_world ≡ true → OnForged r (IsForgedAt world.grammar lines (world_walk lines))) → HeadlineAs of_world lines text line r
headline-as true lines text rest line failed r same whole is named = world-headline lines text rest line failed r same whole is (named refl)
headline-as false lines text rest line failed r same whole is named = direct-headline lines text rest line failed r same whole is

pub headline : (was now : IoState) (s : Status) → EndsBy IsJudged for_cause replayed was now s → Headline was now s
headline was now s ends =
    let t = traced IsJudged for_cause replayed was now s ends in
    let all = whole replayed t.rest t.result silently t.whole in
    let named : is_world (seen t.bytes) ≡ true → OnForged t.result (IsForgedAt world.grammar (seen t.bytes) (world_walk (seen t.bytes))) =
    λ head. forged-at t.bytes t.text now.left t.result head t.refused t.number t.first in
    record { trace = t; whole = all; upheld = headline-as (is_world (seen t.bytes)) (seen t.bytes) t.text t.rest t.line t.failed t.result t.front all t.says.1 named }
