use Rattle.std.proofs.Common.{◌∙◌, sym, ap}
use Rattle.authority.specs.Settings.{secret_setting}
use Rattle.authority.proofs.SecretLemmas.{never-unset, secret-read}
use Rattle.authority.proofs.reading.read_secret_text.Goals as goal

pub unreachable-requires : goal.unreachable-requires
unreachable-requires g c =
    never-unset _ _ c.in-Ok.lines.items c.in-Ok.ensures.whole (ap secret_setting (sym c.deref.ensures.value) ∙ sym c.secret_setting.ensures ∙ c.in-None.is)

pub returns-in-Some-clause-sets : goal.returns-in-Some-clause-sets
returns-in-Some-clause-sets g c =
    secret-read _ _ c.in-Ok.lines.items c.in-Some.setting c.in-Ok.ensures.whole (ap secret_setting (sym c.deref.ensures.value) ∙ sym c.secret_setting.ensures ∙ c.in-Some.is)
