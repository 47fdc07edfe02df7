use Rattle.std.proofs.Common.{◌≡◌, Some, None, sym, ◌∙◌, rules}
use Rattle.world_rules.specs.Refusals.{node_named}
use Rattle.world_rules.specs.Steps.{does, step}
use Rattle.world.specs.Courses.{does_or_opens}
use Rattle.world.proofs.AnswerLemmas.{replies-same}
use Rattle.world.proofs.LookLemmas.{tells-at}
use Rattle.world.proofs.StepLemmas.{can-start, names-liar, names-node, step-node, step-other}
use Rattle.world.proofs.World.do_line.Goals as goal

pub returns-in-Some-host_of-clause-does : goal.returns-in-Some-host_of-clause-does
returns-in-Some-host_of-clause-does c = λ s w before h none.
    let named : node_named c.args.line.now ≡ Some c.in-Some.member = sym c.in-Some.ensures in
    let placed = c.in-Some-host_of.ensures.place s h.nodes in
    replies-same s before c.do_at.new.self c.args.out.now.items c.do_at.new.out.items (step s w c.args.line.now) (does_or_opens s w c.args.line.now) c.do_at.result (step-node s w c.args.line.now c.in-Some.member none named placed.0)
    (c.do_at.ensures.does s w before c.in-Some.member h placed.1 named (can-start s w c.args.line.now c.in-Some.member none named placed.0))

pub returns-in-None-clause-does : goal.returns-in-None-clause-does
returns-in-None-clause-does c = λ s w before h none.
    absurd (names-node s w c.args.line.now c.in-Some.member none (sym c.in-Some.ensures) (c.in-None.ensures.place s h.nodes))

pub returns-clause-does : goal.returns-clause-does
returns-clause-does c = λ s w before h none.
    let unnamed : c.node_named.result ≡ None = search rules in
    let named : node_named c.args.line.now ≡ None = sym c.node_named.ensures ∙ unnamed in
    replies-same s before c.do_other.new.self c.args.out.now.items c.do_other.new.out.items (step s w c.args.line.now) (does s w c.args.line.now) c.do_other.result (step-other s w c.args.line.now none named)
    (c.do_other.ensures.does s w before h named (names-liar s w c.args.line.now none))

pub do_at-requires-clause-known : goal.do_at-requires-clause-known
do_at-requires-clause-known c =
    tells-at c.args.self.now c.args.line.now c.in-Some.member c.in-Some-host_of.at (sym c.in-Some.ensures) c.in-Some-host_of.ensures.exact c.requires.known
