-- What a step of a world answers.
use Rattle.std.specs.Prelude.{◌≡◌, ℕ, List, ◌++◌, Result, Ok, Err}
use Rattle.node_core.specs.Told.{IsPrefix}
use Rattle.schedule_world.specs.declared.line.WorldLine.{WorldLine}
use Rattle.world_rules.specs.Settings.{Setting}
use Rattle.world_rules.specs.Worlds.{World as ModelWorld}
use Rattle.world_rules.specs.Forgeries.{Forgery}
use Rattle.world_rules.specs.Steps.{Answer, NodeEvent, step}
use Rattle.world_laws.specs.Forged.{IsForgedIn}
use Rattle.world_laws.specs.Texts.{IsLawful, IsPlayed}
use Rattle.world.specs.declared.fault.WorldFault.{WorldFault}
use Rattle.world.specs.declared.fault.WorldFault.TheVariants as faults
use Rattle.world.specs.Telling.{answer_text}
use Rattle.world.specs.Holding.{Kept, Holds}

-- The line brings this answer: its text was appended, and what is kept stands for the world behind it.
pub record Gives (s : Setting) (told : List NodeEvent) (line : WorldLine) (v : Kept) (old new : List ℕ) (a : Answer) : Type 0 where
  pub holds : Holds s a.world (told ++ a.told) v
  pub written : new ≡ old ++ answer_text line a

-- The step is the definition's. A record that is forged is named exactly there; behind that, and where memory was refused,
-- what was written is as before.
abbrev pub Steps : Setting → ModelWorld → List NodeEvent → WorldLine → Kept → List ℕ → List ℕ → Result (Unit {0}) WorldFault → Type 0
Steps s w told line v old new (Ok done) = (a : Answer) × ((step s w line ≡ Ok a) × Gives s told line v old new a)
Steps s w told line v old new (Err (faults.Forged who body)) = (step s w line ≡ Err (record { who = who; body = body })) × (new ≡ old)
Steps s w told line v old new (Err faults.OutOfMemory) = new ≡ old

-- The line brings this answer, which is kept; and all that holds of worlds holds of the one behind it, and of all that was
-- reported till then.
pub record LeadsLawfully (s : Setting) (w : ModelWorld) (told : List NodeEvent) (line : WorldLine) (v : Kept) (a : Answer) : Type 0 where
  pub is : step s w line ≡ Ok a
  pub holds : Holds s a.world (told ++ a.told) v
  pub played : IsPlayed s a.world (told ++ a.told)
  pub lawful : IsLawful s a.world (told ++ a.told)

-- The line ends as forged in this very world, of which all holds that holds of worlds, and of all that was reported till then. What
-- is named was found in bytes that the line hands over, and verifies under a key that never signed it.
pub record EndsForged (s : Setting) (w : ModelWorld) (told : List NodeEvent) (line : WorldLine) (f : Forgery) : Type 0 where
  pub is : step s w line ≡ Err f
  pub lawful : IsLawful s w told
  pub handed : IsForgedIn s w line f

-- What a step is worth in a world to which lines lead: no liar brings about anything by it.
abbrev pub StepsLawfully : Setting → ModelWorld → List NodeEvent → WorldLine → Kept → Result (Unit {0}) WorldFault → Type 0
StepsLawfully s w told line v (Ok done) = (a : Answer) × LeadsLawfully s w told line v a
StepsLawfully s w told line v (Err (faults.Forged who body)) = EndsForged s w told line (record { who = who; body = body })
StepsLawfully s w told line v (Err faults.OutOfMemory) = Unit {0}

-- The same of a line that is played: where a record is forged, or memory was refused, more may be written already.
abbrev pub PlaysLine : Setting → List NodeEvent → WorldLine → Kept → List ℕ → List ℕ → Result Answer Forgery → Result (Unit {0}) WorldFault → Type 0
PlaysLine s told line v old new r (Ok done) = (a : Answer) × (r ≡ Ok a) × Gives s told line v old new a
PlaysLine s told line v old new r (Err (faults.Forged who body)) = (r ≡ Err (record { who = who; body = body })) × IsPrefix old new
PlaysLine s told line v old new r (Err faults.OutOfMemory) = IsPrefix old new
