-- A whole text of an authority was read.
use Rattle.std.specs.Prelude.{◌≡◌, ◌<◌, true, List, Some, None}
use Rattle.std.specs.List.{AllByRecursion}
use Rattle.play.specs.Plays.{IoState}
use Rattle.schedule_texts.specs.declared.line.RosterLine.{RosterLine}
use Rattle.schedule_texts.specs.declared.line.RosterLine.TheVariants as asked
use Rattle.schedule_texts.specs.declared.line.SecretLine.{SecretLine}
use Rattle.schedule_texts.specs.declared.roster.RosterText.TheVariants as roster
use Rattle.schedule_texts.specs.declared.secret.SecretText.TheVariants as secret
use Rattle.schedule_texts.specs.Shared.{IsGroup}
use Rattle.sign_keys.specs.Kinds.{is_in_profile}
use Rattle.whole_text.specs.Gathered.{IsWhole}
use Rattle.authority.specs.declared.setting.Setting.{Setting}
use Rattle.authority.specs.Settings.{roster_judging, roster_setting, secret_judging, secret_setting}

-- a certificate that is asked for has a port
abbrev pub HasPort : RosterLine → Type 0
HasPort (asked.Cert c) = 0 < c.port
HasPort _ = Unit {0}

abbrev pub HavePorts : List RosterLine → Type 0
HavePorts lines = AllByRecursion HasPort lines

-- The whole text of a secret was read, this is what it sets up, and nothing was written. There are keys of its kinds.
pub record IsSecret (was now : IoState) (s : Setting) : Type 0 where
  pub lines : List SecretLine
  pub whole : IsWhole secret_judging secret.Start was now lines
  pub setting : secret_setting lines ≡ Some s
  pub group : IsGroup s.group
  pub kinds : is_in_profile s.kinds ≡ true

-- A whole roster was read, these are its lines, this is what it sets up, and nothing was written. Its key has one level.
pub record IsRoster (was now : IoState) (s : Setting) (lines : List RosterLine) : Type 0 where
  pub whole : IsWhole roster_judging roster.Start was now lines
  pub setting : roster_setting lines ≡ Some s
  pub group : IsGroup s.group
  pub one : s.kinds.bottom ≡ None
  pub ports : HavePorts lines
