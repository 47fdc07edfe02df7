use Rattle.std.proofs.Common.{arith, ◌∙◌}
use Rattle.ports.proofs.Contents.{Appends-rest}
use Rattle.ports.proofs.write_all.Goals as goal

pub loop-written-preserved : goal.loop-written-preserved
loop-written-preserved g c = record {
  within = omega (arith, c.in-Took.ensures.fits);
  open_ = c.in-Took.ensures.going;
  quiet = c.in-Took.ensures.faults ∙ c.loop-written.invariant.quiet;
  gained = Appends-rest _ _ _ c.args.bytes.now _ _ c.loop-written.invariant.gained c.in-Took.ensures.gives;
}
