use Rattle.std.proofs.Common.{◌≡◌, ◌∙◌, subst}
use Rattle.std.proofs.lemmas.Result.{on_ok_weaker}
use Rattle.ff_ids.specs.Faults.{note_fault}
use Rattle.ff_ids.specs.Steps.{Notes, after_note}
use Rattle.membership.specs.Reports.{Answers}
use Rattle.trace.specs.Answers.{state_of, stepped, verdict_on}
use Rattle.replay.proofs.EventLemmas.{note-stepped, tells-step}
use Rattle.replay.proofs.life.Life.take_note.Goals as goal

pub returns : goal.returns
returns c = λ r plays.
    let s = state_of r in
    let put = c.put_note-verdict.ensures in
    let answered : Answers (note_fault r.group.t s c.args.note) c.put_note-verdict.result =
    subst (λ g. Answers (note_fault g.t s c.args.note) c.put_note-verdict.result) plays.group (put.fault s plays.holds) in
    let done = note-stepped (note_fault r.group.t s c.args.note) s (after_note s c.args.note) c.put_note-verdict.result c.args.self.now.membership c.put_note-verdict.new.self c.put_note-verdict.new.out plays.holds answered (put.step s plays.holds) (put.changes s plays.holds) put.same put.emptied in
    let at : c.now.result ≡ (stepped r (Notes c.args.note)).state.moment = c.now.ensures.value (stepped r (Notes c.args.note)).state done.holds in
    let said : c.err.result ≡ note_fault r.group.t s c.args.note = c.err.ensures.value ∙ done.answered in
    on_ok_weaker c.add_report.result
    (λ text. tells-step c.args.self.now r (Notes c.args.note) (verdict_on (note_fault r.group.t s c.args.note)) c.put_note-verdict.new.self c.put_note-verdict.new.out c.now.result _ _ plays put.group done.holds done.reported at (rw (c.in_ok-add_verdict_on.ensures, said) at text))
    c.add_report.ensures
