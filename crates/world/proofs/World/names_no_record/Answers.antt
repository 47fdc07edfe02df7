use Rattle.std.proofs.Common.{◌≡◌, not, Some, ap, ◌∙◌, rules}
use Rattle.std.specs.Prelude.{is_some}
use Rattle.world_rules.specs.Refusals.{holds_of, name_named}
use Rattle.world_rules.specs.Worlds.{named_so}
use Rattle.world.proofs.World.names_no_record.Goals as goal

pub returns-in-Give : goal.returns-in-Give
returns-in-Give c = λ s w told h.
    let named : Some c.in-Give.name ≡ name_named c.args.line.now = search rules in
    c.is_free.ensures s w told h ∙ ap (holds_of (λ name. not (is_some (named_so w name)))) named
