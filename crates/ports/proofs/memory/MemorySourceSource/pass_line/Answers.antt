use Rattle.std.proofs.Common.{rules, arith, Some}
use Rattle.ports.proofs.PassLemmas.{passes-byte, passes-end, passes-feed, passes-join}
use Rattle.ports.proofs.memory.MemorySourceSource.pass_line.Goals as goal

pub returns-then-byte-eq10-clause-passes : goal.returns-then-byte-eq10-clause-passes
returns-then-byte-eq10-clause-passes c =
    passes-end _ (Some c.bytes.self.unread) _ c.bytes.invariant.passed
    (passes-feed (Some c.bytes.self.unread) (Some c.read.new.self.unread) c.read.new.buf c.in-Got.field-0 c.in-Got.ensures.reads (search rules) (c.in-Got.ensures.some (omega arith)) c.if-byte-eq10.true)

pub bytes-preserved : goal.bytes-preserved
bytes-preserved c = record {
  open_ = search rules;
  faults = search rules;
  passed =
      passes-join _ (Some c.bytes.self.unread) _ c.bytes.invariant.passed
      (passes-byte (Some c.bytes.self.unread) (Some c.read.new.self.unread) c.read.new.buf c.in-Got.field-0 c.in-Got.ensures.reads (search rules) (c.in-Got.ensures.some (omega arith)) c.if-byte-eq10.false);
}
