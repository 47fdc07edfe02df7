-- What an accepted note rules out in the rest of a life, and in what is reported of it.
use Rattle.std.specs.Prelude.{◌≡◌, ℕ, ◌+◌, ◌<◌, List, [], length, Contains}
use Rattle.std.specs.List.{AllByRecursion}
use Rattle.ff_ids.specs.declared.AccBody.{AccBody}
use Rattle.ff_ids.specs.Lives.{opening, state_at}
use Rattle.life_laws.specs.Removals.{ExpiresAt, Revokes, RulesOut}
use Rattle.journal.specs.declared.event.What.TheVariants as happened
use Rattle.world_rules.specs.Settings.{Setting}
use Rattle.world_rules.specs.Worlds.{Life, World, lives_of}
use Rattle.world_rules.specs.Steps.{NodeEvent}
use Rattle.world_rules.specs.Laws.{Reached}

-- What an answer is worth in a life.
pub record AnswersHold (s : Setting) (life : Life) : Type 0 where
  pub rules_out : RulesOut s.group (opening []) life.node.lived
  pub ends : Revokes s.group (opening []) life.node.lived

-- What is reported of the accusation is that it expires at a place of one of the node's lives, which has the reported moment
-- behind it.
pub record IsExpiryInLife (s : Setting) (w : World) (t : NodeEvent) (a : AccBody) : Type 0 where
  pub life : Life
  pub lived : Contains (lives_of w t.who) life
  pub place : ℕ
  pub within : place < length life.node.lived
  pub expires : ExpiresAt s.group (opening []) life.node.lived place a
  pub moment : (state_at s.group (opening []) life.node.lived (place + 1)).moment ≡ t.event.moment

-- So it is in all lives, and each expiry that is reported is one in a life.
abbrev pub AnswersHoldInWorlds : Type 0
AnswersHoldInWorlds = (s : Setting) (w : World) (who : ℕ) → AllByRecursion (AnswersHold s) (lives_of w who)

abbrev pub ToldExpiriesAreLived : Type 0
ToldExpiriesAreLived = (s : Setting) (w : World) (told : List NodeEvent) (t : NodeEvent) (a : AccBody) → Reached s w told → Contains told t → t.event.what ≡ happened.Expired a → IsExpiryInLife s w t a
