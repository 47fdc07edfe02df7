use Rattle.std.proofs.Common.{ℕ, List, refl, subst, rules, ◌∙◌}
use Rattle.std.specs.Io.KnownBytes.{Appends}
use Rattle.std.proofs.KnownBytes.{Appends-nil}
use Rattle.ports.specs.Contents.{TookFront}
use Rattle.play.proofs.TakingLemmas.{still-going}
use Rattle.play.proofs.TurnLemmas.{came-one, came-end, ended-here, went-one, finished-here, refused-line, refused-end, unread-here, unwritten-line, unwritten-end, starved-line, starved-end}
use Rattle.play.proofs.player.play_one.Goals as goal

pub returns-in-Err-clause-turns : goal.returns-in-Err-clause-turns
returns-in-Err-clause-turns g c =
    unread-here c.args.long _ (g.P.Script.owes c.args.script.now) _ _ _ c.in-Err.ensures.takes (g.met.P.Script.waits c.args.script.now) (Appends-nil (g.O.Sink.state c.args.out.now).taken) c.in-Err.ensures.faults refl

pub returns-in-Ok-write_all-clause-turns : goal.returns-in-Ok-write_all-clause-turns
returns-in-Ok-write_all-clause-turns g c =
    finished-here c.args.long _ (g.P.Script.owes c.args.script.now) _ _ _ c.take_line.new.line.items c.end.new.text.items c.in-Ok.field-0 c.in-Ok.ensures.takes (search rules) c.in-Ok-end.ensures.end (subst (Appends (g.O.Sink.state c.args.out.now).taken (g.O.Sink.state c.write_all.new.out).taken) c.deref.ensures.value c.in-Ok-write_all.ensures.wrote) (record { reads = c.in-Ok.ensures.faults; writes = c.in-Ok-write_all.ensures.faults })

pub returns-in-Err-write_all-clause-turns : goal.returns-in-Err-write_all-clause-turns
returns-in-Err-write_all-clause-turns g c =
    unwritten-end c.args.long _ (g.P.Script.owes c.args.script.now) _ _ _ c.take_line.new.line.items c.end.new.text.items c.in-Ok.field-0 c.in-Ok.ensures.takes (search rules) c.in-Ok-end.ensures.end (g.met.P.Script.waits c.args.script.now)
    (subst (λ (b : List ℕ). TookFront (g.O.Sink.state c.args.out.now).taken (g.O.Sink.state c.write_all.new.out).taken b) c.deref.ensures.value c.in-Err-write_all.ensures.wrote) c.in-Err-write_all.ensures.faults c.in-Ok.ensures.faults

pub returns-in-Err-Refused-clause-turns : goal.returns-in-Err-Refused-clause-turns
returns-in-Err-Refused-clause-turns g c =
    let refuses = rw c.in-Err-Refused.field-0-is at c.in-Err-Refused.ensures.end in
    refused-end c.args.long _ (g.P.Script.owes c.args.script.now) _ _ c.in-Err-Refused.cause _ _ c.take_line.new.line.items c.in-Ok.field-0 c.in-Ok.ensures.takes (search rules) refuses (g.met.P.Script.waits c.args.script.now) (Appends-nil (g.O.Sink.state c.args.out.now).taken) (record { reads = c.in-Ok.ensures.faults; writes = refl })

pub returns-in-Err-OutOfMemory-clause-turns : goal.returns-in-Err-OutOfMemory-clause-turns
returns-in-Err-OutOfMemory-clause-turns g c =
    let admits = rw c.in-Err-OutOfMemory.field-0-is at c.in-Err-OutOfMemory.ensures.end in
    starved-end c.args.long _ g.P.Script.judged (g.P.Script.owes c.args.script.now) _ _ _ c.take_line.new.line.items c.in-Ok.field-0 c.in-Ok.ensures.takes (search rules) admits (g.met.P.Script.waits c.args.script.now) (Appends-nil (g.O.Sink.state c.args.out.now).taken) (record { reads = c.in-Ok.ensures.faults; writes = refl })

pub returns-in-Ok-write_all-2-clause-turns : goal.returns-in-Ok-write_all-2-clause-turns
returns-in-Ok-write_all-2-clause-turns g c =
    let answered = rw c.deref-2.ensures.value at c.in-Ok-line.ensures.line in
    went-one c.args.long _ (g.P.Script.owes c.args.script.now) (g.P.Script.owes c.line.new.self) _ _ _ _ _ c.take_line.new.line.items c.line.new.text.items c.in-Ok.field-0 c.in-Ok.ensures.takes answered.0 answered.1
    (subst (Appends (g.O.Sink.state c.args.out.now).taken (g.O.Sink.state c.write_all-in-Ok-line.new.out).taken) c.deref-in-Ok-line.ensures.value c.in-Ok-write_all-2.ensures.wrote) c.in-Ok-line.ensures.room (record { reads = c.in-Ok.ensures.faults; writes = c.in-Ok-write_all-2.ensures.faults })

pub returns-in-Err-write_all-2-clause-turns : goal.returns-in-Err-write_all-2-clause-turns
returns-in-Err-write_all-2-clause-turns g c =
    let answered = rw c.deref-2.ensures.value at c.in-Ok-line.ensures.line in
    unwritten-line c.args.long _ (g.P.Script.owes c.args.script.now) (g.P.Script.owes c.line.new.self) _ _ _ c.take_line.new.line.items c.line.new.text.items c.in-Ok.field-0 c.in-Ok.ensures.takes (search rules) answered.0 answered.1 (g.met.P.Script.waits c.args.script.now) (g.met.P.Script.waits c.line.new.self)
    (subst (λ (b : List ℕ). TookFront (g.O.Sink.state c.args.out.now).taken (g.O.Sink.state c.write_all-in-Ok-line.new.out).taken b) c.deref-in-Ok-line.ensures.value c.in-Err-write_all-2.ensures.wrote) c.in-Err-write_all-2.ensures.faults c.in-Ok.ensures.faults

pub returns-in-Err-Refused-line-clause-turns : goal.returns-in-Err-Refused-line-clause-turns
returns-in-Err-Refused-line-clause-turns g c =
    let answered = rw c.in-Err-Refused-line.field-0-is at c.in-Err-Refused-line.ensures.line in
    let refuses = rw c.deref-2.ensures.value at answered in
    refused-line c.args.long _ (g.P.Script.owes c.args.script.now) _ _ c.in-Err-Refused-line.cause _ _ c.take_line.new.line.items c.in-Ok.field-0 c.in-Ok.ensures.takes (search rules) refuses (g.met.P.Script.waits c.args.script.now) (Appends-nil (g.O.Sink.state c.args.out.now).taken) (record { reads = c.in-Ok.ensures.faults; writes = refl })

pub returns-in-Err-OutOfMemory-line-clause-turns : goal.returns-in-Err-OutOfMemory-line-clause-turns
returns-in-Err-OutOfMemory-line-clause-turns g c =
    let answered = rw c.in-Err-OutOfMemory-line.field-0-is at c.in-Err-OutOfMemory-line.ensures.line in
    let admits = rw c.deref-2.ensures.value at answered in
    starved-line c.args.long _ g.P.Script.judged (g.P.Script.owes c.args.script.now) _ _ _ c.take_line.new.line.items c.in-Ok.field-0 c.in-Ok.ensures.takes admits.0 admits.1 (g.met.P.Script.waits c.args.script.now) (Appends-nil (g.O.Sink.state c.args.out.now).taken) (record { reads = c.in-Ok.ensures.faults; writes = refl })

pub returns-in-Ok-write_all-clause-came : goal.returns-in-Ok-write_all-clause-came
returns-in-Ok-write_all-clause-came g c =
    came-end c.args.long _ _ _ _ c.take_line.new.line.items c.in-Ok.field-0 c.in-Ok.ensures.takes (search rules) (g.met.P.Script.reaches_itself c.args.script.now)

pub returns-in-Ok-write_all-clause-ended : goal.returns-in-Ok-write_all-clause-ended
returns-in-Ok-write_all-clause-ended g c = λ _. ended-here _ g.P.Script.judged (g.P.Script.owes c.args.script.now) c.end.new.text.items c.in-Ok-end.ensures.end

pub returns-in-Ok-write_all-2-clause-came : goal.returns-in-Ok-write_all-2-clause-came
returns-in-Ok-write_all-2-clause-came g c =
    let answered = rw c.deref-2.ensures.value at c.in-Ok-line.ensures.line in
    let reached = rw c.deref-2.ensures.value at c.in-Ok-line.ensures.reaches in
    came-one c.args.long _ _ _ _ _ c.take_line.new.line.items c.in-Ok.field-0 c.in-Ok.ensures.takes answered.0 c.in-Ok-line.ensures.room reached

pub returns-in-Ok-write_all-2-clause-source : goal.returns-in-Ok-write_all-2-clause-source
returns-in-Ok-write_all-2-clause-source g c = λ _.
    let answered = rw c.deref-2.ensures.value at c.in-Ok-line.ensures.line in
    c.in-Ok.ensures.going ∙ still-going c.args.long c.in-Ok.field-0 c.take_line.new.line.items c.in-Ok.ensures.takes.bytes _ c.in-Ok.ensures.takes.is c.in-Ok.ensures.takes.stands answered.0
