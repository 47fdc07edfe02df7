use Rattle.std.proofs.Common.{arith}
use Rattle.std.proofs.lemmas.Result.{err_from_is_err_and}
use Rattle.soak_lines.specs.Workload.{workload}
use Rattle.world_text.specs.Lines.{line_text}
use Rattle.world_laws.proofs.Walking.{texts-lawful}
use Rattle.world_replay.specs.Soaking.{spelled_lines}
use Rattle.world_replay.proofs.SoakMakingLemmas.{workload-made}
use Rattle.world_replay.proofs.SoakWalkLemmas.{begins, goes-on, may-turn, not-many, stops-so}
use Rattle.world_replay.proofs.attack.soak.Goals as goal

pub lines-init : goal.lines-init
lines-init c =
    let few = not-many c.args.nodes c.args.rounds c.requires.nodes.0 c.requires.nodes.1 c.requires.rounds.1 in
    record {
      goes = begins (workload c.args.seed c.args.nodes c.args.rounds) c.in-Ok.left c.new-stage.result c.in-Ok.ensures.lines c.new-stage.ensures c.in-Ok.ensures.schedule (workload-made c.args.seed c.args.nodes c.args.rounds) (omega (arith, few, c.in-Ok.ensures.many));
    }

pub turn-requires : goal.turn-requires
turn-requires c = may-turn (workload c.args.seed c.args.nodes c.args.rounds) c.lines.number c.lines.left c.lines.stage c.lines.invariant.goes

pub lines-preserved : goal.lines-preserved
lines-preserved c =
    let takes = rw c.if-branch.true at c.in_ok-turn.ensures in
    record { goes = goes-on _ _ _ _ _ _ takes c.lines.invariant.goes }

pub returns-in_err-turn-clause-answers : goal.returns-in_err-turn-clause-answers
returns-in_err-turn-clause-answers c =
    let p = err_from_is_err_and c.from_residual.result c.from_residual.ensures.1 in
    rw (p.1, p.2) (stops-so (workload c.args.seed c.args.nodes c.args.rounds) c.lines.number c.lines.left c.turn.new.left c.lines.stage c.turn.new.stage c.in_err-turn.field-0.0 c.in_err-turn.ensures c.lines.invariant.goes)

pub returns-in_err-turn-clause-lawful : goal.returns-in_err-turn-clause-lawful
returns-in_err-turn-clause-lawful c = texts-lawful line_text (spelled_lines (workload c.args.seed c.args.nodes c.args.rounds))

pub returns-clause-lawful : goal.returns-clause-lawful
returns-clause-lawful c = texts-lawful line_text (spelled_lines (workload c.args.seed c.args.nodes c.args.rounds))
