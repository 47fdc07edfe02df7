use Rattle.std.proofs.Common.{[], ◌∷◌, sym, subst}
use Rattle.line_text.specs.Answers.{Progress}
use Rattle.schedule_world.specs.declared.text.WorldText.{WorldText}
use Rattle.text_trace.specs.Trace.{Steps}
use Rattle.world_rules.specs.declared.cause.Cause.{Cause}
use Rattle.world_replay.specs.Owing.{Owes}
use Rattle.world_replay.specs.Unfed.{judged-fed}
use Rattle.world_replay.proofs.LineLemmas.{line-steps, read-starved, told-starved}
use Rattle.world_replay.proofs.RosterLemmas.{taken-of}
use Rattle.world_replay.proofs.player.PlayerScript.line.Goals as goal

pub take-requires : goal.take-requires
take-requires c =
    let owes = c.requires.owing.is in
    taken-of c.args.self.now.lines c.args.bytes.now c.in-Ok.line owes.stage owes.told c.args.self.now.stage c.in-Ok.ensures.answer owes.holds owes.fits

pub returns-in-Err-OutOfMemory-clause-line : goal.returns-in-Err-OutOfMemory-clause-line
returns-in-Err-OutOfMemory-clause-line c = read-starved c.args.self.now.lines c.args.self.now.stage c.args.bytes.now (rw c.in-Err-OutOfMemory.field-0-is at c.in-Err-OutOfMemory.ensures.answer)

pub returns-in-Ok-take-clause-line : goal.returns-in-Ok-take-clause-line
returns-in-Ok-take-clause-line c =
    let p = c.args.self.now.lines in
    let fed = judged-fed p c.args.bytes.now c.in-Ok.line c.in-Ok.ensures.answer in
    let steps = line-steps p c.args.self.now.stage c.take.new.self c.args.bytes.now c.take.new.out.items c.in-Ok.line c.in-Ok.ensures.answer
    (λ stage told holds. rw c.requires.empty at (c.in-Ok-take.ensures stage told holds)) in
    (fed, subst (λ (q : Progress WorldText). Steps Cause (Owes p c.args.self.now.stage) (Owes q c.take.new.self) (c.args.bytes.now ∷ []) c.take.new.out.items) (sym c.in-Ok.ensures.progress) steps)

pub returns-clause-line : goal.returns-clause-line
returns-clause-line c = told-starved c.args.self.now.lines c.args.self.now.stage c.args.bytes.now c.in-Ok.line c.in-Ok.ensures.answer
