use Rattle.std.proofs.Common.{rules}
use Rattle.ports.proofs.PassLemmas.{passes-end, passes-join}
use Rattle.edges.proofs.StdSourceSource.pass_line.Goals as goal

pub returns-in-Ok-Some-Last-clause-passes : goal.returns-in-Ok-Some-Last-clause-passes
returns-in-Ok-Some-Last-clause-passes g c =
    let passed = rw (c.in-Ok-Some-Last.field-0-is, c.in-Ok-Some-Last.field-0-0-is) at c.in-Ok-Some-Last.ensures.passes in
    passes-end _ _ _ c.parts.invariant.passed passed

pub returns-in-Ok-None-clause-passes : goal.returns-in-Ok-None-clause-passes
returns-in-Ok-None-clause-passes g c =
    let passed = rw c.in-Ok-None.field-0-is at c.in-Ok-None.ensures.passes in
    (passes-join _ _ _ c.parts.invariant.passed passed.0, passed.1)

pub returns-in-Err-clause-passes : goal.returns-in-Err-clause-passes
returns-in-Err-clause-passes g c = passes-join _ _ _ c.parts.invariant.passed c.in-Err.ensures.passes

pub parts-preserved : goal.parts-preserved
parts-preserved g c =
    let passed = rw (c.in-Ok-Some-Front.field-0-is, c.in-Ok-Some-Front.field-0-0-is) at c.in-Ok-Some-Front.ensures.passes in
    record {
      open_ = search rules;
      faults = search rules;
      passed = passes-join _ _ _ c.parts.invariant.passed passed;
    }
