use Rattle.std.proofs.Common.{sym, ◌∙◌}
use Rattle.std.specs.Cmp.Lexicographic.{same_text}
use Rattle.life_events.proofs.told.are_same.Goals as goal

pub returns : goal.returns
returns c = λ same. same_text c.args.one.now c.args.other.now (sym same ∙ c.eq.ensures)
