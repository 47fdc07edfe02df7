-- The test for forged records.
use Rattle.std.specs.Prelude.{◌≡◌, ℕ, List, Option, Some, None}
use Rattle.records.specs.declared.Record.{Record}
use Rattle.records.specs.Spelling.{IsRecord}
use Rattle.world_rules.specs.Settings.{Setting}
use Rattle.world_rules.specs.Worlds.{World}
use Rattle.world_rules.specs.Forgeries.{Forgery, forgery_by}
use Rattle.world.specs.declared.fault.WorldFault.{WorldFault}
use Rattle.world.specs.declared.fault.WorldFault.TheVariants as faults

-- The record that is spelled so is not forged.
abbrev pub IsClean : Setting → World → List ℕ → Type 0
IsClean s w spelled = (r : Record) → IsRecord spelled r → forgery_by s w r ≡ None

-- What the fault says is forged.
abbrev pub forged_in : WorldFault → Option Forgery
forged_in (faults.Forged who body) = Some (record { who = who; body = body })
forged_in faults.OutOfMemory = None

-- A record is forged.
abbrev pub IsForged : WorldFault → Type 0
IsForged (faults.Forged who body) = Unit {0}
IsForged faults.OutOfMemory = ⊥
