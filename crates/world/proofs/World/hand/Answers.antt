use Rattle.std.proofs.Common.{ℕ, List, ◌++◌, ap, ◌∙◌}
use Rattle.std.specs.List.{slice_get}
use Rattle.world.specs.Courses.{At}
use Rattle.world.proofs.CourseLemmas.{goes-hands, not-hands}
use Rattle.world.proofs.World.hand.Goals as goal

pub returns-in-Ok-clause-hands : goal.returns-in-Ok-clause-hands
returns-in-Ok-clause-hands c = λ s before base k m at place.
    let t = c.in-Ok.ensures.tests c.args.bytes.now c.read-heard.ensures.exact s k.world (before ++ k.told) at.holds in
    let tested : At s before base c.test.new.self c.args.out.now.items k = record { holds = t.1; written = at.written } in
    goes-hands s before base c.call.new.self c.call.new.out.items k m c.args.bytes.now c.call.result t.0
    (c.call.ensures.calls c.args.bytes.now c.read-heard.ensures.exact s before base k m tested (ap (λ (ns : List ℕ). slice_get ns c.args.at) c.in-Ok.ensures.numbers ∙ place))

pub returns-in-Err-clause-hands : goal.returns-in-Err-clause-hands
returns-in-Err-clause-hands c = λ s before base k m at place.
    not-hands s before base c.args.self.now c.test.new.self c.args.out.now.items k m c.args.bytes.now c.in-Err.fault at (c.in-Err.ensures.tests c.args.bytes.now c.read-heard.ensures.exact s k.world (before ++ k.told) at.holds)

pub call-requires-clause-read : goal.call-requires-clause-read
call-requires-clause-read c = (c.args.bytes.now, c.read-heard.ensures.exact)
