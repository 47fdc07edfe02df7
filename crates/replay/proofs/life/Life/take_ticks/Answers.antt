use Rattle.std.proofs.Common.{◌≡◌, subst, arith, ◌+◌}
use Rattle.trace.specs.Answers.{state_of, with_ticks}
use Rattle.replay.specs.declared.life.Life.{Life}
use Rattle.replay.proofs.EventLemmas.{IsTicked, ticked-none, ticked-more, ticked-quiet, tells-ticked}
use Rattle.replay.proofs.life.Life.take_ticks.Goals as goal

pub loop-passed-init : goal.loop-passed-init
loop-passed-init c =
    let quiet = c.pass_quiet-passed in
    let k = quiet.result in
    let all : 0 + k ≡ k = omega arith in
    record {
      most = quiet.ensures.most;
      moment = quiet.ensures.moment;
      ticked = λ r plays.
          let start = ticked-none r c.args.self.now c.args.text.now.items c.add.new.text.items plays c.in_ok-add.ensures in
          let life = c.args.self.now in
          let later : Life = record { number = life.number; membership = quiet.new.self; changes = life.changes; told = life.told } in
          subst (λ n. IsTicked n r later c.args.text.now.items c.add.new.text.items) all (ticked-quiet 0 k r c.args.self.now quiet.new.self c.args.text.now.items c.add.new.text.items start quiet.ensures.group quiet.ensures.step quiet.ensures.quiet);
    }

pub loop-passed-preserved : goal.loop-passed-preserved
loop-passed-preserved c =
    let ticked = c.tick.ensures in
    let quiet = c.pass_quiet-passed-in-loop-passed in
    record {
      most = omega (arith, quiet.ensures.most, c.loop-passed-test.true);
      moment = omega (arith, quiet.ensures.moment, ticked.moment, c.loop-passed.invariant.moment);
      ticked = λ r plays.
          let n = c.loop-passed.passed in
          let s = state_of (with_ticks n r) in
          let before = c.loop-passed.invariant.ticked r plays in
          let one = ticked-more n r c.loop-passed.self c.tick.new.self c.tick.new.out c.now.result _ _ c.add_report.new.text.items before ticked.group (ticked.step s before.plays.holds) (ticked.changes s before.plays.holds) c.now.ensures.value c.in_ok-add_report.ensures in
          ticked-quiet (n + 1) quiet.result r _ quiet.new.self _ _ one quiet.ensures.group quiet.ensures.step quiet.ensures.quiet;
    }

pub returns : goal.returns
returns c = λ r plays.
    tells-ticked c.args.ticks r c.loop-passed.self c.args.text.now.items c.loop-passed.text.items
    (subst (λ n. IsTicked n r c.loop-passed.self c.args.text.now.items c.loop-passed.text.items) (omega (arith, c.loop-passed-test.false, c.loop-passed.invariant.most)) (c.loop-passed.invariant.ticked r plays))
