use Rattle.std.proofs.Common.{rules, ◌∙◌, arith}
use Rattle.lms_ots.specs.Ots.{hash_prefix}
use Rattle.lms_ots.proofs.Buffers.{IsFilled, take-filled, drop-filled}
use Rattle.lms_ots.proofs.chain.Chain.new.Goals as goal

filled : (c : goal.After-bytes-8-1) → IsFilled c.put-3.new.out c.put-4.new.out c.args.value.now
filled c = record {
  old_long = omega arith;
  new_long = omega arith;
  value_long = c.requires;
  written = c.put-4.ensures;
}

pub returns-clause-prefix : goal.returns-clause-prefix
unfolding hash_prefix
returns-clause-prefix c = take-filled (filled c) ∙ (search rules)

pub returns-clause-value : goal.returns-clause-value
returns-clause-value c = drop-filled (filled c)
