use Rattle.std.proofs.Common.{map, ap, ◌∙◌}
use Rattle.ff_ids.specs.Views.{Member}
use Rattle.monitor_rule.specs.Joined.{Joined}
use Rattle.monitor_rule.proofs.Rings.numbers.Goals as goal

pub returns : goal.returns
returns c = c.all.ensures ∙ c.self.invariant.1 ∙ ap (λ (j : Joined). map (λ (x : Member). x.number) j.members) c.self.view_is
