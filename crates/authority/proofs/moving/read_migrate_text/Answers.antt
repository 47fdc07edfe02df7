use Rattle.std.proofs.Common.{◌∙◌, sym, ap}
use Rattle.authority.specs.Moved.{migrate_setting}
use Rattle.authority.proofs.MovedLemmas.{migration-read, never-unset}
use Rattle.authority.proofs.moving.read_migrate_text.Goals as goal

pub unreachable-requires : goal.unreachable-requires
unreachable-requires g c =
    never-unset _ _ c.in-Ok.lines.items c.in-Ok.ensures.whole (ap migrate_setting (sym c.deref.ensures.value) ∙ sym c.migrate_setting.ensures ∙ c.in-None.is)

pub returns-in-Some-clause-moves : goal.returns-in-Some-clause-moves
returns-in-Some-clause-moves g c =
    migration-read _ _ c.in-Ok.lines.items c.in-Some.moving c.in-Ok.ensures.whole (ap migrate_setting (sym c.deref.ensures.value) ∙ sym c.migrate_setting.ensures ∙ c.in-Some.is)
