-- What each command upholds, beside how its run ends.
use Rattle.play.specs.Plays.{IoState}
use Rattle.epoch_store.specs.Calls.{SettlesAs}
use Rattle.epoch_store.specs.Store.{made}
use Rattle.authority.specs.declared.setting.Setting.{Setting}
use Rattle.ports.specs.Outside.{OfDisk}
use Rattle.authority.specs.Settings.{tag_of}
use Rattle.authority.specs.Texts.{IsSecret}
use Rattle.authority.specs.Making.{first_of}
use Rattle.command_line.specs.Enrolment.{Enrolment}
use Rattle.command_line.specs.Headline.{Headline}
use Rattle.command_line.specs.Ends.{NetState}
use Rattle.command_line.specs.Journals.{NodeUpholds}
use Rattle.command_line.specs.Migration.{Migration}
use Rattle.command_line.specs.Soaking.{SoakUpheld}
use Rattle.command_line.specs.Verification.{Verification}
use Rattle.command_line.specs.declared.command.Command.{Command}
use Rattle.command_line.specs.declared.command.Command.TheVariants.{Replay, Verify, Store, Enroll, Migrate, Node, Soak}
use Rattle.command_line.specs.declared.status.Status.{Status}
use Rattle.command_line.specs.declared.status.Status.TheVariants as status

-- what holds where a store was made
abbrev pub OnMade : Status → Type 0 → Type 0
OnMade status.Ok P = P
OnMade _ P = Unit {0}

-- The whole text was taken, and sets this up; the file is just the store of that key, settled: each crash leaves it.
pub record IsStoreMade (was : IoState) (old new : OfDisk) : Type 0 where
  pub setting : Setting
  pub between : IoState
  pub read : IsSecret was between setting
  pub image : SettlesAs (λ _. made (tag_of setting) (first_of setting)) old.moments new.moments

-- What each command upholds beyond its trace.
abbrev pub Upholds : Command → IoState → IoState → OfDisk → OfDisk → NetState → NetState → Status → Type 0
Upholds Replay was now old new before after s = Headline was now s
Upholds Verify was now old new before after s = Verification was now s
Upholds Store was now old new before after s = OnMade s (IsStoreMade was old new)
Upholds Enroll was now old new before after s = Enrolment was now old new s
Upholds Migrate was now old new before after s = Migration was now old new s
Upholds (Node stay) was now old new before after s = NodeUpholds stay was now old new before after s
Upholds (Soak seed members rounds) was now old new before after s = SoakUpheld seed members rounds was now s
