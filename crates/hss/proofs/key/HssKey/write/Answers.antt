use Rattle.std.proofs.Common.{◌≡◌, ◌∙◌, ◌++◌, Ok, Result, ap, arith}
use Rattle.std.specs.Int.{w32, to_be_bytes}
use Rattle.std.proofs.lemmas.Grind.{common_steps}
use Rattle.hss.specs.Keys.{TwoLevelKey}
use Rattle.hss.specs.declared.key.HssKeyFault.{HssKeyFault}
use Rattle.hss.proofs.Keys.{key-read}
use Rattle.hss.proofs.key.HssKey.write.Goals as goal

abbrev kept : TwoLevelKey → Result TwoLevelKey HssKeyFault
kept key = Ok key

pub returns-clause-read_back : goal.returns-clause-read_back
returns-clause-read_back c =
    let spelled : c.put-2.new.out ≡ to_be_bytes w32 2 ++ c.write.result = grind (arith, common_steps) in
    key-read c.put-2.new.out c.write.result c.self.inside.top (omega arith) spelled c.write.ensures.read_back c.self.invariant
    ∙ ap kept c.self.view_is
