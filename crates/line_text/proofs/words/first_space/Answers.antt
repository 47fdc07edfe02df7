use Rattle.std.proofs.Common.{arith}
use Rattle.line_text.proofs.WordLemmas.{apart_more, first_at, first_none}
use Rattle.line_text.proofs.words.first_space.Goals as goal

pub loop-at-init : goal.loop-at-init
loop-at-init c = λ k lt. absurd (omega (arith, lt))

pub loop-at-preserved : goal.loop-at-preserved
loop-at-preserved c = apart_more c.args.text.now c.loop-at.at c.loop-at.invariant c.if-text-at-eq32.false

pub returns-then-text-at-eq32 : goal.returns-then-text-at-eq32
returns-then-text-at-eq32 c = first_at c.args.text.now c.loop-at.at c.loop-at-test.true c.loop-at.invariant c.if-text-at-eq32.true

pub returns : goal.returns
returns c = first_none c.args.text.now c.loop-at.at (omega (arith, c.loop-at-test.false)) c.loop-at.invariant
