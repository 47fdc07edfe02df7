use Rattle.std.proofs.Common.{ℕ, set, ◌∙◌, ap, arith, length-set}
use Rattle.std.proofs.lemmas.List.{take-set-le}
use Rattle.sha2.specs.Sha256.{sha256}
use Rattle.lms_ots.specs.Ots.{chain_step}
use Rattle.lms_ots.proofs.Buffers.{IsFilled, stepping-is, take-filled, drop-filled}
use Rattle.lms_ots.proofs.chain.Chain.step.Goals as goal

filled : (c : goal.After-put) → IsFilled (set c.args.self.now.bytes 22 c.args.j) c.put.new.out c.digest-value.result
filled c = record {
  old_long = omega (arith, length-set {A = ℕ});
  new_long = omega (arith, length-set {A = ℕ});
  value_long = omega arith;
  written = c.put.ensures;
}

pub returns-clause-value : goal.returns-clause-value
unfolding chain_step
returns-clause-value c =
    drop-filled (filled c) ∙ c.digest-value.ensures
    ∙ ap sha256 (stepping-is c.args.self.now.bytes c.args.j (omega arith))

pub returns-clause-same : goal.returns-clause-same
returns-clause-same c =
    take-filled (filled c) ∙ take-set-le 22 c.args.self.now.bytes 22 c.args.j (omega arith)
