-- What was written, by the answer of a command.
use Rattle.std.specs.Prelude.{◌≡◌, Bool, true, false, List, ℕ, Result, Err}
use Rattle.std.specs.Io.KnownBytes.{Appends}
use Rattle.play.specs.Plays.{IoState, Unfailed}
use Rattle.ports.specs.Contents.{TookFront}
use Rattle.ports.specs.Count.{next_count}
use Rattle.authority.specs.declared.halt.Halt.{Halt}
use Rattle.authority.specs.declared.halt.Halt.TheVariants as halt

-- these bytes, all of them
pub record IsTold (between now : IoState) (bytes : List ℕ) : Type 0 where
  pub wrote : Appends between.taken now.taken bytes
  pub left : now.left ≡ between.left
  pub unfailed : Unfailed between now

-- a front of these bytes, and not all
pub record IsCut (between now : IoState) (bytes : List ℕ) : Type 0 where
  pub wrote : TookFront between.taken now.taken bytes
  pub left : now.left ≡ between.left
  pub reads : now.read_faults ≡ between.read_faults
  pub writes : now.write_faults ≡ next_count between.write_faults

-- no write failed
abbrev pub is_writable : Result (Unit {0}) Halt → Bool
is_writable (Err halt.WriteFault) = false
is_writable _ = true
