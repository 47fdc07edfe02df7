use Rattle.std.proofs.Common.{subst, sym}
use Rattle.turn_rules.specs.Lines.{line_of}
use Rattle.node_loop.specs.Gathering.{GathersLine}
use Rattle.node_loop.proofs.GatherLemmas.{gathers-refused}
use Rattle.node_loop.proofs.writing.gather.Goals as goal

pub returns-in-Err-clause-gathers : goal.returns-in-Err-clause-gathers
returns-in-Err-clause-gathers g c =
    let before = (g.O.Sink.state c.args.out.now).taken in
    let after = (g.O.Sink.state c.write_gathered.new.out).taken in
    let old = c.args.lines.now.items in
    let lines = c.write_gathered.new.lines.items in
    let line = line_of c.args.event.now in
    subst (GathersLine before after old lines line) (sym c.and.ensures)
    (gathers-refused before after old c.add_event.new.lines.items lines line c.write_gathered.result c.in-Err.ensures.refused c.write_gathered.ensures.wrote c.write_gathered.ensures.cause)
