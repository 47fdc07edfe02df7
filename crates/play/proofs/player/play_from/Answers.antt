use Rattle.std.proofs.Common.{rules, arith, ap, Ok}
use Rattle.std.proofs.lemmas.Result.{err_from_is_err_and}
use Rattle.play.proofs.JoinLemmas.{came-none, came-join, went-none, went-join, owing-by, finished-join, stops-join}
use Rattle.play.proofs.player.play_from.Goals as goal

pub lines-init : goal.lines-init
lines-init g c = record {
  source = c.requires.source;
  sink = c.requires.sink;
  owing = c.requires.owing;
  number = omega (arith, c.requires.few);
  came = came-none c.args.long _ _ _ (g.met.P.Script.reaches_itself c.args.script.now);
  went = went-none c.args.long _ (g.P.Script.owes c.args.script.now) _ _ _;
}

pub returns-in_err-play_one-clause-continues : goal.returns-in_err-play_one-clause-continues
returns-in_err-play_one-clause-continues g c =
    let p = err_from_is_err_and c.from_residual.result c.from_residual.ensures.1 in
    rw (p.1, p.2) (stops-join c.args.long _ g.P.Script.judged (g.P.Script.owes c.args.script.now) (g.P.Script.owes c.lines.script) _ _ _ _ _ _ _ c.in_err-play_one.field-0.0 c.lines.invariant.went c.in_err-play_one.ensures.turns)

pub lines-preserved : goal.lines-preserved
lines-preserved g c =
    let turns = rw c.if-branch.true at c.in_ok-play_one.ensures.turns in
    let went = went-join c.args.long _ (g.P.Script.owes c.args.script.now) (g.P.Script.owes c.lines.script) (g.P.Script.owes c.play_one.new.script) _ _ _ _ _ _ _ _ _ c.lines.invariant.went turns in
    record {
      source = search rules;
      sink = search rules;
      owing = owing-by c.args.long _ (g.P.Script.owes c.args.script.now) (g.P.Script.owes c.play_one.new.script) _ _ _ _ _ _ c.requires.owing went;
      number = omega (arith, c.requires.few, went.few, went.number);
      came = came-join c.args.long _ _ _ _ _ _ _ _ _ (g.met.P.Script.reaches_on c.args.script.now c.lines.script c.play_one.new.script) c.lines.invariant.came c.in_ok-play_one.ensures.came;
      went = went;
    }

pub returns-clause-continues : goal.returns-clause-continues
returns-clause-continues g c =
    let turns = rw c.if-branch.false at c.in_ok-play_one.ensures.turns in
    finished-join c.args.long _ (g.P.Script.owes c.args.script.now) (g.P.Script.owes c.lines.script) _ _ _ _ _ _ _ c.lines.invariant.went turns

pub returns-clause-came : goal.returns-clause-came
returns-clause-came g c =
    came-join c.args.long _ _ _ _ _ _ _ _ _ (g.met.P.Script.reaches_on c.args.script.now c.lines.script c.play_one.new.script) c.lines.invariant.came c.in_ok-play_one.ensures.came

pub returns-clause-ended : goal.returns-clause-ended
returns-clause-ended g c = c.in_ok-play_one.ensures.ended (ap Ok c.if-branch.false)
