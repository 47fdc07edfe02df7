use Rattle.std.proofs.Common.{[], ◌∷◌, ◌++◌}
use Rattle.world_rules.specs.Steps.{begun}
use Rattle.world.specs.Courses.{course_of}
use Rattle.world.proofs.AnswerLemmas.{at-ended}
use Rattle.world.proofs.CourseLemmas.{answers-course}
use Rattle.world.proofs.World.end_and_go.Goals as goal

pub returns-in-Ok-clause-goes : goal.returns-in-Ok-clause-goes
returns-in-Ok-clause-goes c = λ s w before m h place named.
    let ended = at-ended s w before c.args.self.now c.args.out.now.items c.end_line.new.out.items h c.in-Ok.ensures.ok in
    answers-course s before c.go_at.new.self c.args.out.now.items c.go_at.new.out.items (course_of s c.args.line.now (begun w)) c.go_at.result (c.go_at.ensures.goes s before (c.args.out.now.items ++ 10 ∷ []) (begun w) m ended place named)
