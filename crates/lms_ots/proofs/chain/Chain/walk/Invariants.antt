use Rattle.std.proofs.Common.{◌≡◌, ◌-◌, take, drop}
use Rattle.lms_ots.specs.Ots.{chain}
use Rattle.lms_ots.proofs.chain.Chain.walk.Given as goal

abbrev pub invariant-loop-j : goal.invariant-loop-j
invariant-loop-j l = record {
  same : take 22 l.self.bytes ≡ take 22 l.initial.self.bytes;
  walked : drop 23 l.self.bytes ≡ chain (take 22 l.initial.self.bytes) l.from (l.j - l.from) (drop 23 l.initial.self.bytes);
}
