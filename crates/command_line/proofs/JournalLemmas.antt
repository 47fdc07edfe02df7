-- What the run of a member upholds of its journal, behind which the line of a cause may stand.
use Rattle.std.proofs.Common.{ℕ, Bool, true, false, List, [], ◌++◌, Result, Ok, Err, sym, subst, ap, ◌∙◌, inl, inr, append-nil, None}
use Rattle.std.specs.Io.KnownBytes.{Appends}
use Rattle.std.proofs.KnownBytes.{Appends-trans}
use Rattle.journal.specs.declared.event.What as whats
use Rattle.journal.specs.declared.event.What.TheVariants as told
use Rattle.play.specs.Plays.{IoState}
use Rattle.records.specs.declared.Body.TheVariants.{Accusation}
use Rattle.trace.specs.Written.{IsLineOf}
use Rattle.trace.proofs.JustifiedLemmas.{among-tail, split}
use Rattle.ports.specs.Outside.{OfDisk}
use Rattle.node_command.specs.declared.halt.NodeHalt.{NodeHalt}
use Rattle.node_command.specs.declared.halt.NodeHalt.TheVariants as halt
use Rattle.node_command.specs.declared.stay.Stay.{Stay}
use Rattle.node_command.specs.Running.{NetInputs, Takes}
use Rattle.node_command.specs.Spendings.{Spends}
use Rattle.node_command.specs.Written.{AreWholeLines, IsGiven, LinesRest}
use Rattle.turn_rules.specs.Lines.{event_line}
use Rattle.command_line.specs.Causes.{IsWritten, cause_line, status_of_node}
use Rattle.command_line.specs.Ends.{RestsFed, Tells, NetState}
use Rattle.command_line.specs.Journals.{JournalAnswers, JournalRests, JournalSends, NodeUpholds}
use Rattle.command_line.proofs.EndLemmas.{none_shorter}
use Rattle.command_line.proofs.CauseLines.{IsOther, bad-line, begins-other, broken-line, fault-line, link-line, store-line, tail-of, used-line}
use Rattle.command_line.proofs.NodeLemmas.{node-upheld}
use Rattle.command_line.specs.declared.status.Status.{Status}
use Rattle.command_line.specs.declared.status.Status.TheVariants as status

-- ## Behind the journal

-- of each whole line that gives an event P holds
abbrev Rests : (ℕ → whats.What → Type 0) → List ℕ → Type 0
Rests P text = (moment : ℕ) (what : whats.What) → IsLineOf (event_line moment what) text → P moment what

-- the line of a cause gives none
other-behind : (P : ℕ → whats.What → Type 0) (text whole line : List ℕ) (failed : Bool) → Rests P text → AreWholeLines text → IsOther whole → IsWritten failed whole line → Rests P (text ++ line)
other-behind P text whole line failed h lines other is moment what of =
    elim (among-tail lines.lines of.earlier (event_line moment what) of.after line lines.whole of.whole of.here (tail-of whole line failed other is) (ap (λ (t : List ℕ). t ++ line) (sym lines.joined) ∙ of.parts)) [
      | inl i ↦ h moment what (subst (IsLineOf (event_line moment what)) (sym lines.joined) (split lines.lines (event_line moment what) lines.whole i))
      | inr begins ↦ absurd (begins-other whole line failed other is begins)
    ]

-- where there is no line
none-behind : (P : ℕ → whats.What → Type 0) (text line : List ℕ) (failed : Bool) → Rests P text → IsWritten failed [] line → Rests P (text ++ line)
none-behind P text line false h is = subst (Rests P) (sym (ap (λ (l : List ℕ). text ++ l) is ∙ append-nil text)) h
none-behind P text line true h is = absurd (none_shorter _ is.short)

cause-behind : (P : ℕ → whats.What → Type 0) (feed : NetInputs) (was between : IoState) (old : OfDisk) (r : Result (Unit {0}) NodeHalt) (line : List ℕ) (failed : Bool) → (h : LinesRest feed was between old r) → Rests P h.bytes → IsWritten failed (cause_line (status_of_node r)) line
    → Rests P (h.bytes ++ line)
cause-behind P feed was between old (Ok done) line failed h rests is = none-behind P h.bytes line failed rests is
cause-behind P feed was between old (Err (halt.Refused number w)) line failed h rests is = other-behind P h.bytes (cause_line (status.BadInput number w)) line failed rests h.ended (bad-line number w) is
cause-behind P feed was between old (Err halt.ReadFault) line failed h rests is = other-behind P h.bytes (cause_line status.ReadFault) line failed rests h.ended fault-line is
cause-behind P feed was between old (Err halt.WriteFault) line failed h rests is = none-behind P h.bytes line failed rests is
cause-behind P feed was between old (Err halt.StoreFault) line failed h rests is = other-behind P h.bytes (cause_line status.StoreFault) line failed rests h.ended store-line is
cause-behind P feed was between old (Err (halt.StoreBroken place byte)) line failed h rests is = other-behind P h.bytes (cause_line (status.StoreBroken place byte)) line failed rests h.ended (broken-line place byte) is
cause-behind P feed was between old (Err halt.LinkFault) line failed h rests is = other-behind P h.bytes (cause_line status.LinkFault) line failed rests h.ended link-line is
cause-behind P feed was between old (Err (halt.Exhausted next)) line failed h rests is = other-behind P h.bytes (cause_line (status.Exhausted next)) line failed rests h.ended (used-line next) is
cause-behind P feed was between old (Err halt.OutOfMemory) line failed h rests is = none-behind P h.bytes line failed rests is

-- What was written, with the line of a cause behind it, and what its lines give.
record WroteAll (feed : NetInputs) (was now : IoState) (old : OfDisk) : Type 0 where
  bytes : List ℕ
  written : Appends was.taken now.taken bytes
  rests : Rests (IsGiven was old feed) bytes

wrote-all : (feed : NetInputs) (was between now : IoState) (old : OfDisk) (r : Result (Unit {0}) NodeHalt) (s : Status) → LinesRest feed was between old r → Tells (status_of_node r) between now s → WroteAll feed was now old
wrote-all feed was between now old r s h t = record {
  bytes = h.bytes ++ t.line;
  written = Appends-trans was.taken between.taken now.taken h.bytes t.line h.written t.wrote;
  rests = cause-behind (IsGiven was old feed) feed was between old r t.line t.failed h h.rests t.says.1;
}

journal-rests : (feed : NetInputs) (was now : IoState) (old : OfDisk) → WroteAll feed was now old → JournalRests feed was now old
journal-rests feed was now old w = record { bytes = w.bytes; written = w.written; rests = λ moment m of. w.rests moment (told.Removed m) of }

journal-answers : (feed : NetInputs) (was now : IoState) (old : OfDisk) → WroteAll feed was now old → JournalAnswers feed was now old
journal-answers feed was now old w = record {
  bytes = w.bytes;
  written = w.written;
  accepted = λ moment body of. w.rests moment (told.Took body None) of;
  own = λ moment index a of. w.rests moment (told.Spent index (Accusation a)) of;
  expiries = λ moment a of. w.rests moment (told.Expired a) of;
}

journal-sends : (feed : NetInputs) (was now : IoState) (old : OfDisk) → WroteAll feed was now old → JournalSends feed was now old
journal-sends feed was now old w = record { bytes = w.bytes; written = w.written; sent = λ moment number to datagram of. w.rests moment (told.Sent number to datagram) of }

pub node-upholds : (stay : Stay) (was between now : IoState) (old new : OfDisk) (before after : NetState) (r : Result (Unit {0}) NodeHalt) (s : Status) → Takes was between old new r → RestsFed stay was between old before r → Spends was between old new before.faults after.faults r → Tells (status_of_node r) between now s
    → NodeUpholds stay was now old new before after s
node-upholds stay was between now old new before after r s takes rests spends t = record {
  untouched = node-upheld was between now old new r s takes t;
  removals = λ feed link readings reading stay_is. journal-rests feed was now old (wrote-all feed was between now old r s (rests feed link readings reading stay_is) t);
  answers = λ feed link readings reading stay_is. journal-answers feed was now old (wrote-all feed was between now old r s (rests feed link readings reading stay_is) t);
  sends = λ feed link readings reading stay_is. journal-sends feed was now old (wrote-all feed was between now old r s (rests feed link readings reading stay_is) t);
  spends = record { result = r; between = between; spends = spends; tells = t };
}
