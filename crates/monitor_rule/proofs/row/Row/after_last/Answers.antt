use Rattle.std.proofs.Common.{refl}
use Rattle.ff_ids.specs.Views.{key_at}
use Rattle.monitor_rule.proofs.row.Row.after_last.Goals as goal

pub returns : goal.returns
returns g c =
    c.behind.ensures c.args.slots.now (key_at c.args.self.now.ring c.args.places.now c.args.member) c.requires.in_order c.place_near-place.ensures refl
