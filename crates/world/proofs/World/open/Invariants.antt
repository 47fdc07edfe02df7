use Rattle.std.proofs.Common.{◌≡◌}
use Rattle.records.specs.declared.keys.Key.TheVariants as keys
use Rattle.sign_keys.specs.Keys.{public_key}
use Rattle.world_rules.specs.Keys.{setting_for}
use Rattle.world.specs.Opening.{Builds, kinds_with}
use Rattle.world.proofs.World.open.Given as goal

abbrev pub invariant-loop-number : goal.invariant-loop-number
invariant-loop-number l =
    (keys.Lms l.world.authority.key ≡ public_key l.signing.key)
    × (l.world.authority.group ≡ l.fn.group)
    × (l.world.authority.heal ≡ l.fn.heal)
    × (let kinds = kinds_with l.fn.ots l.fn.tree l.fn.bottom in Builds (setting_for l.fn.group kinds l.fn.heal l.fn.nodes l.fn.liars) kinds l.number l.signing l.world)
