-- What a run of the words does, from what stood before it to what stands behind it.
use Rattle.std.specs.Prelude.{◌≡◌, ℕ, ◌↔◌, List, None, IfSome, Result, Ok, Err}
use Rattle.play.specs.Plays.{IoState}
use Rattle.ports.specs.Outside.{OfDisk}
use Rattle.command_line.specs.Commands.{command_of, store_in}
use Rattle.command_line.specs.Ends.{Counts, FaultsAs, NetState}
use Rattle.command_line.specs.EndsAs.{EndsAs}
use Rattle.command_line.specs.TracedAs.{CompletesAs, TracedAs}
use Rattle.command_line.specs.Upheld.{Upholds}
use Rattle.command_line.specs.declared.status.Status.{Status}
use Rattle.command_line.specs.declared.status.Status.TheVariants as status

-- P of the values before and after, where there was one.
abbrev pub OnBoth : {X E : Type 0} → Result X E → Result X E → (X → X → Type 0) → Type 0
OnBoth (Ok was) (Ok now) P = P was now
OnBoth (Ok was) (Err e) P = ⊥
OnBoth (Err e) now P = Unit {0}

-- The run of these words ended so.
pub record Ran (words : List (List ℕ)) (was now : IoState) (old new : OfDisk) (before after : NetState) (s : Status) : Type 0 where
  pub usage : (s ≡ status.Usage) ↔ (command_of words ≡ None)
  pub ends : IfSome (command_of words) (λ command. EndsAs command (store_in words) was now old new before after s)
  pub traced : IfSome (command_of words) (λ command. TracedAs command was now old new s)
  pub complete : IfSome (command_of words) (λ command. CompletesAs command was now old new s)
  pub upholds : IfSome (command_of words) (λ command. Upholds command was now old new before after s)
  pub counts : Counts was now s
  pub faults : FaultsAs (command_of words) old new s
