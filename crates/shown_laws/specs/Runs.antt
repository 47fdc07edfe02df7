-- The journal that a run of the command `node` has written, as one sees it who audits it.
use Rattle.std.specs.Prelude.{ℕ, ◌≤◌, List, Ok}
use Rattle.std.specs.Io.KnownBytes.{Appends}
use Rattle.epoch_store.specs.declared.Stored.{Stored}
use Rattle.play.specs.Plays as play
use Rattle.node_command.specs.declared.kit.Member.{Member}
use Rattle.node_command.specs.Members.{IsMember}
use Rattle.node_command.specs.Opening.{IsFound, Tells}
use Rattle.node_command.specs.Journal.{Environment}
use Rattle.node_command.specs.Running.{NetInputs, Runs}
use Rattle.shown_laws.specs.Own.{IsServed, IsShownOf}

-- The text of a member was taken, a store of its key found, and this text written. Where the store's epoch isn't above its next index,
-- as in each store that the moments of a disk tell, the text is Shown from the head of that member and store, by the life whose
-- turns the link and the clock brought.
pub record WritesShown (feed : NetInputs) (was : play.IoState) (old new : Environment) : Type 0 where
  pub member : Member
  pub between : play.IoState
  pub read : IsMember was between member
  pub stored : Stored
  pub found : IsFound member stored old.disk
  pub text : List ℕ
  pub written : Appends was.taken new.taken text
  pub told : Tells old.disk.moments → stored.epoch ≤ stored.next
  pub shown : stored.epoch ≤ stored.next → IsShownOf member stored feed.stay feed.link feed.reading feed.readings text

-- So it is of each run that ended well.
abbrev pub OwnRunsAreShown : Type 0
OwnRunsAreShown = (feed : NetInputs) (was now : play.IoState) (old new : Environment) → Runs feed was now old new (Ok tt) → IsServed feed.stay feed.link.coming → WritesShown feed was old new
