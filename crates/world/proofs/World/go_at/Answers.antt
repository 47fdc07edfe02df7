use Rattle.std.proofs.Common.{◌≡◌, ℕ, List, ◌++◌, Some, ap, sym, ◌∙◌, subst}
use Rattle.world_rules.specs.Steps.{gives, hands}
use Rattle.world.specs.Courses.{Goes}
use Rattle.schedule_world.specs.declared.line.WorldLine.TheVariants as lines
use Rattle.schedule_world.specs.declared.line.WorldLine.{WorldLine}
use Rattle.world_rules.specs.Refusals.{node_named}
use Rattle.world_rules.specs.Steps.{arms, stops}
use Rattle.world_rules.specs.Worlds.{named_so}
use Rattle.world.specs.Courses.{course_of}
use Rattle.world.proofs.CourseLemmas.{the_ok}
use Rattle.world.proofs.World.go_at.Goals as goal

same-number : (a b : ℕ) → Some a ≡ Some b → a ≡ b
same-number a b e = cc

pub returns-in-Stop-clause-goes : goal.returns-in-Stop-clause-goes
returns-in-Stop-clause-goes c = λ s before base k m at place named.
    let same : c.in-Stop.member ≡ m = same-number c.in-Stop.member m (sym (ap node_named c.in-Stop.is) ∙ named) in (
      record k { world = stops m k.world },
      ap (λ (l : WorldLine). course_of s l k) c.in-Stop.is ∙ ap (λ (j : ℕ). the_ok (record k { world = stops j k.world })) same,
      record { holds = c.stop.ensures.stops s k.world (before ++ k.told) m at.holds place; written = at.written },
    )

pub returns-in-Arm-clause-goes : goal.returns-in-Arm-clause-goes
returns-in-Arm-clause-goes c = λ s before base k m at place named.
    let same : c.in-Arm.member ≡ m = same-number c.in-Arm.member m (sym (ap node_named c.in-Arm.is) ∙ named) in (
      record k { world = arms m (record { calls = c.in-Arm.calls; outcome = c.in-Arm.outcome }) k.world },
      ap (λ (l : WorldLine). course_of s l k) c.in-Arm.is ∙ ap (λ (j : ℕ). the_ok (record k { world = arms j (record { calls = c.in-Arm.calls; outcome = c.in-Arm.outcome }) k.world })) same,
      record { holds = c.arm.ensures.arms s k.world (before ++ k.told) m at.holds place; written = at.written },
    )

pub returns-in-Tick-clause-goes : goal.returns-in-Tick-clause-goes
returns-in-Tick-clause-goes c = λ s before base k m at place named.
    let same : c.in-Tick.member ≡ m = same-number c.in-Tick.member m (sym (ap node_named c.in-Tick.is) ∙ named) in
    subst (λ (l : WorldLine). Goes s before base c.tick.new.self c.tick.new.out.items (course_of s l k) c.tick.result) (sym c.in-Tick.is)
    (subst (λ (j : ℕ). Goes s before base c.tick.new.self c.tick.new.out.items (course_of s (lines.Tick j c.in-Tick.ticks) k) c.tick.result) (sym same) (c.tick.ensures.ticks s before base k m at place))

pub returns-in-Leave-clause-goes : goal.returns-in-Leave-clause-goes
returns-in-Leave-clause-goes c = λ s before base k m at place named.
    let same : c.in-Leave.member ≡ m = same-number c.in-Leave.member m (sym (ap node_named c.in-Leave.is) ∙ named) in
    subst (λ (l : WorldLine). Goes s before base c.leave.new.self c.leave.new.out.items (course_of s l k) c.leave.result) (sym c.in-Leave.is)
    (subst (λ (j : ℕ). Goes s before base c.leave.new.self c.leave.new.out.items (course_of s (lines.Leave j) k) c.leave.result) (sym same) (c.leave.ensures.calls s before base k m at place))

pub returns-in-Deliver-clause-goes : goal.returns-in-Deliver-clause-goes
returns-in-Deliver-clause-goes c = λ s before base k m at place named.
    let same : c.in-Deliver.member ≡ m = same-number c.in-Deliver.member m (sym (ap node_named c.in-Deliver.is) ∙ named) in
    subst (λ (l : WorldLine). Goes s before base c.deliver.new.self c.deliver.new.out.items (course_of s l k) c.deliver.result) (sym c.in-Deliver.is)
    (subst (λ (j : ℕ). Goes s before base c.deliver.new.self c.deliver.new.out.items (course_of s (lines.Deliver c.in-Deliver.datagram j) k) c.deliver.result) (sym same) (c.deliver.ensures.hands s before base k m at place))

pub returns-in-Raw-clause-goes : goal.returns-in-Raw-clause-goes
returns-in-Raw-clause-goes c = λ s before base k m at place named.
    let same : c.in-Raw.member ≡ m = same-number c.in-Raw.member m (sym (ap node_named c.in-Raw.is) ∙ named) in
    subst (λ (l : WorldLine). Goes s before base c.hand.new.self c.hand.new.out.items (course_of s l k) c.hand.result) (sym c.in-Raw.is)
    (subst (λ (j : ℕ). Goes s before base c.hand.new.self c.hand.new.out.items (course_of s (lines.Raw j c.in-Raw.bytes) k) c.hand.result) (sym same) (subst (λ (z : List ℕ). Goes s before base c.hand.new.self c.hand.new.out.items (hands s m z k) c.hand.result) c.as_slice.ensures (c.hand.ensures.hands s before base k m at place)))

pub returns-in-Give-clause-goes : goal.returns-in-Give-clause-goes
returns-in-Give-clause-goes c = λ s before base k m at place named.
    let same : c.in-Give.member ≡ m = same-number c.in-Give.member m (sym (ap node_named c.in-Give.is) ∙ named) in
    subst (λ (l : WorldLine). Goes s before base c.give.new.self c.give.new.out.items (course_of s l k) c.give.result) (sym c.in-Give.is)
    (subst (λ (j : ℕ). Goes s before base c.give.new.self c.give.new.out.items (course_of s (lines.Give c.in-Give.name j) k) c.give.result) (sym same) (subst (λ (z : List ℕ). Goes s before base c.give.new.self c.give.new.out.items (gives s m (named_so k.world z) k) c.give.result) c.as_slice-in-Give.ensures.bytes (c.give.ensures.gives s before base k m at place)))
