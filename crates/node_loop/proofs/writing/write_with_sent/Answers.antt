use Rattle.std.proofs.Common.{subst, sym}
use Rattle.journal.specs.declared.event.What.TheVariants as kinds
use Rattle.turn_rules.specs.Lines.{line_of}
use Rattle.node_loop.specs.Gathering.{WritesBehind}
use Rattle.node_loop.proofs.GatherLemmas.{behind-added, behind-refused}
use Rattle.node_loop.proofs.writing.write_with_sent.Goals as goal

pub returns-in-Ok-clause-wrote : goal.returns-in-Ok-clause-wrote
returns-in-Ok-clause-wrote g c =
    behind-added (g.O.Sink.state c.args.out.now).taken (g.O.Sink.state c.write_gathered.new.out).taken c.args.lines.now.items c.add_sent.new.lines.items
    (line_of (record { moment = c.args.moment; what = kinds.Sent c.args.number c.args.to c.args.bytes.now })) c.write_gathered.result c.in-Ok.ensures.ok c.write_gathered.ensures.wrote c.write_gathered.ensures.cause

pub returns-in-Err-clause-wrote : goal.returns-in-Err-clause-wrote
returns-in-Err-clause-wrote g c =
    let before = (g.O.Sink.state c.args.out.now).taken in
    let after = (g.O.Sink.state c.write_gathered-in-Err.new.out).taken in
    let old = c.args.lines.now.items in
    let line = line_of (record { moment = c.args.moment; what = kinds.Sent c.args.number c.args.to c.args.bytes.now }) in
    subst (WritesBehind before after old line) (sym c.and.ensures)
    (behind-refused before after old c.add_sent.new.lines.items line c.write_gathered-in-Err.result c.in-Err.ensures.refused c.write_gathered-in-Err.ensures.wrote c.write_gathered-in-Err.ensures.cause)
