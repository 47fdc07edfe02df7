use Rattle.std.proofs.Common.{ap, ◌∙◌}
use Rattle.std.proofs.lemmas.Result.{err_from_is_err_and}
use Rattle.node_rules.specs.Lives.{Delivers}
use Rattle.world.specs.contracts.World.{the_view}
use Rattle.world.specs.Holding.{numbers}
use Rattle.world.proofs.CourseLemmas.{front-at, front-on}
use Rattle.world.proofs.ToldLemmas.{called-at, called-numbers, called-place, told-goes}
use Rattle.world.proofs.World.call.Goals as goal

pub returns-in_err-events-clause-numbers : goal.returns-in_err-events-clause-numbers
returns-in_err-events-clause-numbers c =
    let called = called-at c.args.self.now (the_view c.self.inside) c.args.at c.index_mut.result.now c.deliver.new.self c.self.view_is c.requires.at c.index_mut.ensures.value c.in_err-events.ensures.member in
    called-numbers c.args.self.now (the_view c.self.inside) c.args.at c.index_mut.result.now c.deliver.new.self called

pub returns-in_err-events-clause-calls : goal.returns-in_err-events-clause-calls
returns-in_err-events-clause-calls c = λ bytes gives s before base k m at place.
    let p = err_from_is_err_and c.from_residual.result c.from_residual.ensures.1 in
    rw (p.1, p.2) (front-at s before base c.args.self.now c.args.out.now.items k at)

pub returns-in_err-tell_all-clause-numbers : goal.returns-in_err-tell_all-clause-numbers
returns-in_err-tell_all-clause-numbers c =
    let called = called-at c.args.self.now (the_view c.self.inside) c.args.at c.index_mut.result.now c.deliver.new.self c.self.view_is c.requires.at c.index_mut.ensures.value c.in_ok-events.ensures.member in
    ap numbers c.tell_all.ensures.frame ∙ called-numbers c.args.self.now (the_view c.self.inside) c.args.at c.index_mut.result.now c.deliver.new.self called

pub returns-in_err-tell_all-clause-calls : goal.returns-in_err-tell_all-clause-calls
returns-in_err-tell_all-clause-calls c = λ bytes gives s before base k m at place.
    let p = err_from_is_err_and c.from_residual-in_err-tell_all.result c.from_residual-in_err-tell_all.ensures.1 in
    let called = called-at c.args.self.now (the_view c.self.inside) c.args.at c.index_mut.result.now c.deliver.new.self c.self.view_is c.requires.at c.index_mut.ensures.value c.in_ok-events.ensures.member in
    let there = called-place c.args.self.now (the_view c.self.inside) m c.args.at c.index_mut.result.now c.deliver.new.self c.deliver.new.out called place in
    rw (p.1, p.2) (front-on s before base c.args.self.now c.args.out.now.items c.tell_all.new.out.items k at (c.in_err-tell_all.ensures.lines m there))

pub returns-clause-numbers : goal.returns-clause-numbers
returns-clause-numbers c =
    let called = called-at c.args.self.now (the_view c.self.inside) c.args.at c.index_mut.result.now c.deliver.new.self c.self.view_is c.requires.at c.index_mut.ensures.value c.in_ok-events.ensures.member in
    ap numbers c.tell_all.ensures.frame ∙ called-numbers c.args.self.now (the_view c.self.inside) c.args.at c.index_mut.result.now c.deliver.new.self called

pub returns-clause-calls : goal.returns-clause-calls
returns-clause-calls c = λ bytes gives s before base k m at place.
    let called = called-at c.args.self.now (the_view c.self.inside) c.args.at c.index_mut.result.now c.deliver.new.self c.self.view_is c.requires.at c.index_mut.ensures.value c.in_ok-events.ensures.member in
    told-goes s before base c.args.self.now (the_view c.self.inside) c.tell_all.new.self c.args.out.now.items c.tell_all.new.out.items k m c.args.at c.index_mut.result.now c.deliver.new.self c.deliver.new.out c.as_slice-before.result.now (Delivers bytes) c.in_ok-events.events c.as_slice.result.now c.tell_all.new.self.counts
    called at place (c.in_ok-events.ensures.calls bytes gives s) c.as_slice-before.ensures c.as_slice.ensures c.tell_all.ensures.frame c.in_ok-tell_all.ensures.lines (c.tell_all.ensures.counts s)
