use Rattle.std.proofs.Common.{◌∙◌, sym, ap}
use Rattle.authority.specs.Settings.{roster_setting}
use Rattle.authority.proofs.RosterLemmas.{never-unset, roster-read}
use Rattle.authority.proofs.reading.read_roster.Goals as goal

pub unreachable-requires : goal.unreachable-requires
unreachable-requires g c =
    never-unset _ _ c.in-Ok.lines.items c.in-Ok.ensures.whole (ap roster_setting (sym c.deref.ensures.value) ∙ sym c.roster_setting.ensures ∙ c.in-None.is)

pub returns-in-Some-clause-asks : goal.returns-in-Some-clause-asks
returns-in-Some-clause-asks g c =
    roster-read _ _ c.in-Ok.lines.items c.in-Some.setting c.in-Ok.ensures.whole (ap roster_setting (sym c.deref.ensures.value) ∙ sym c.roster_setting.ensures ∙ c.in-Some.is)
