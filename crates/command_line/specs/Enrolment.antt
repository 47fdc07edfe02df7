-- What an enrolment upholds: the indexes that it spends are those from the next one found on, each once, for the certificates
-- whose lines it wrote, and at most one more.
use Rattle.std.specs.Prelude.{◌≡◌, ℕ, ◌+◌, ◌≤◌, ◌⊎◌, Option, List, ◌++◌, length, map, Result}
use Rattle.std.specs.List.{AllByRecursion}
use Rattle.std.specs.Io.KnownBytes.{Appends}
use Rattle.epoch_store.specs.declared.seat.Seat.{Seat}
use Rattle.epoch_store.specs.declared.Stored.{Stored}
use Rattle.epoch_store.specs.Calls.{HoldsStore}
use Rattle.records.specs.declared.Body.TheVariants.{Certificate}
use Rattle.records.specs.declared.CertBody.{CertBody}
use Rattle.schedule_texts.specs.declared.line.RosterLine.{RosterLine}
use Rattle.signer.specs.Lives.{IsOnce, IsPrefix, indexes, spent_by}
use Rattle.play.specs.Plays.{IoState}
use Rattle.authority.specs.declared.halt.Halt.{Halt}
use Rattle.authority.specs.declared.setting.Setting.{Setting}
use Rattle.ports.specs.Outside.{OfDisk}
use Rattle.authority.specs.Lines.{signed_lines}
use Rattle.authority.specs.Settings.{asked_in, key_of, tag_of}
use Rattle.authority.specs.Texts.{IsRoster}
use Rattle.authority.specs.Enrolling.{Spends, SpendsFronts}
use Rattle.node_command.specs.Spendings.{SpendsNone}
use Rattle.command_line.specs.Causes.{status_of_halt}
use Rattle.command_line.specs.Ends.{Tells}
use Rattle.command_line.specs.declared.status.Status.{Status}

-- The lines of these certificates that are signed from this index on, one behind the other.
abbrev pub cert_lines : Setting → ℕ → List CertBody → List ℕ
cert_lines s next certs = signed_lines s.group (key_of s) next certs

-- Of these certificates, signed from this index on, the lines were written: of all; or of all but the last, and of the last one's
-- line a prefix, which may be empty.
pub record WritesCerts (s : Setting) (next : ℕ) (certs : List CertBody)
    (before after : Option (List ℕ)) : Type 0 where
  pub told : List CertBody
  pub last : List CertBody
  pub are : certs ≡ told ++ last
  pub most : length last ≤ 1
  pub part : List ℕ
  pub front : IsPrefix part (cert_lines s (next + length told) last)
  pub written : Appends before after (cert_lines s next told ++ part)

-- The whole roster was read, and a store of its key was found. Just these certificates of those that it asks for were signed, the
-- first ones, in turn, and their lines written: the indexes rise, and none is below the next one found. Where the disk's file
-- ended lives of the key that spent something, each crash now ends lives that spent just these more, and at each moment between
-- a front of them.
pub record SpendsOnce (was now : IoState) (old new : OfDisk) : Type 0 where
  pub setting : Setting
  pub lines : List RosterLine
  pub between : IoState
  pub read : IsRoster was between setting lines
  pub opened : Stored
  pub seat : Seat
  pub found : HoldsStore (tag_of setting) opened seat old.moments
  pub certs : List CertBody
  pub others : List CertBody
  pub first : asked_in lines ≡ certs ++ others
  pub written : WritesCerts setting opened.next certs was.taken now.taken
  -- Two laws of any state and any certificates, since who is signed in turn has the next index: `written` ties them to the lines,
  -- `lives` and `any_moment` to the disk.
  pub once : IsOnce (spent_by opened (map Certificate certs))
  pub above : AllByRecursion (λ i. opened.next ≤ i)
      (indexes (spent_by opened (map Certificate certs)))
  pub lives : Spends setting opened certs old new
  pub any_moment : SpendsFronts setting opened certs old new

-- It spends nothing, and writes nothing; or the indexes from the next one of the store that it found, each once.
abbrev pub SpendsCerts : IoState → IoState → OfDisk → OfDisk → Type 0
SpendsCerts was now old new = SpendsNone was.taken now.taken old new ⊎ SpendsOnce was now old new

-- What `enroll` upholds, under every status: this was spent, and the line of the cause follows its lines.
pub record Enrolment (was now : IoState) (old new : OfDisk) (s : Status) : Type 0 where
  pub result : Result (Unit {0}) Halt
  pub between : IoState
  pub spends : SpendsCerts was between old new
  pub tells : Tells (status_of_halt result) between now s
