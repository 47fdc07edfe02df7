use Rattle.std.proofs.Common.{rules}
use Rattle.line_text.proofs.GlanceLemmas.{none-left}
use Rattle.line_text.proofs.glance.Glance.is_empty.Goals as goal

pub returns : goal.returns
returns c =
    let left = none-left c.self.inside.left in
    search (rules, left)
