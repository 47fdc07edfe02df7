use Rattle.play.proofs.TakingLemmas.{takes-fed, takes-long, takes-rest}
use Rattle.play.proofs.player.take_line.Goals as goal

pub returns-in-Passed-clause-takes : goal.returns-in-Passed-clause-takes
returns-in-Passed-clause-takes g c =
    let cut = rw c.in-Ok-Limit.field-0-is at c.in-Ok-Limit.ensures.reads in
    rw c.in-Passed.is
    (takes-long (g.S.Source.state c.args.input.now).left (g.S.Source.state c.read_line.new.self).left (g.S.Source.state c.pass_rest.new.input).left c.read_line.new.line.items c.pass_rest.new.line.items c.pass_rest.result cut c.pass_rest.ensures.passes)

pub returns-in-Ok-Feed-clause-takes : goal.returns-in-Ok-Feed-clause-takes
returns-in-Ok-Feed-clause-takes g c =
    takes-fed c.args.long (g.S.Source.state c.args.input.now).left (g.S.Source.state c.read_line.new.self).left c.read_line.new.line.items (rw c.in-Ok-Feed.field-0-is at c.in-Ok-Feed.ensures.reads)

pub returns-in-Ok-Input-clause-takes : goal.returns-in-Ok-Input-clause-takes
returns-in-Ok-Input-clause-takes g c =
    takes-rest c.args.long (g.S.Source.state c.args.input.now).left (g.S.Source.state c.read_line.new.self).left c.read_line.new.line.items (rw c.in-Ok-Input.field-0-is at c.in-Ok-Input.ensures.reads)
