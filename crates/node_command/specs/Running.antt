-- What the run of a member took, wrote, did and left, by its answer.
use Rattle.std.specs.Prelude.{◌≡◌, ℕ, Bool, false, ◌⊎◌, List, ◌++◌, Some, Result, Ok, Err}
use Rattle.std.specs.Io.KnownBytes.{Appends}
use Rattle.epoch_store.specs.declared.seat.Seat.{Seat}
use Rattle.epoch_store.specs.declared.Stored.{Stored}
use Rattle.epoch_store.specs.Store.{IsSettled}
use Rattle.line_text.specs.declared.bad_word.BadWord.{BadWord}
use Rattle.play.specs.Plays as play
use Rattle.play.specs.declared.stop.Stop.{Stop}
use Rattle.play.specs.declared.stop.Stop.TheVariants as stop
use Rattle.ports.specs.Count.{counted}
use Rattle.ports.specs.Link.{LinkState}
use Rattle.schedule_texts.specs.declared.kit.KitText.TheVariants as kit
use Rattle.schedule_texts.specs.declared.kit_line.KitLine.{KitLine}
use Rattle.whole_text.specs.Gathered.{IsUnfinished, IsWhole}
use Rattle.sign_keys.specs.Keys.{public_key}
use Rattle.node_core.specs.Begins.{IsVouchable}
use Rattle.node_core.specs.Playing.{Kept}
use Rattle.node_core.specs.Rolls.{recs_of}
use Rattle.node_core.specs.Spending.{spent_told}
use Rattle.node_loop.specs.Turns.{life_acts, pace_for}
use Rattle.node_loop.specs.Courses.{ServeState, served_from}
use Rattle.node_command.specs.declared.halt.NodeHalt.{NodeHalt}
use Rattle.node_command.specs.declared.halt.NodeHalt.TheVariants as halt
use Rattle.node_command.specs.declared.kit.Member.{Member}
use Rattle.node_command.specs.declared.stay.Stay.{Stay}
use Rattle.node_command.specs.Halts.{is_write_fault}
use Rattle.node_command.specs.Members.{IsMember, key_of, kit_judging, own_port, tag_of}
use Rattle.node_command.specs.Opening.{Ends, IsBegun, IsBroken, IsFound, IsRefused, IsUnopened, IsUnstarted, IsUsedUp, OpeningFails, StartFails, Tells, setting_for, start_of}
use Rattle.ports.specs.Outside.{OfDisk}
use Rattle.node_command.specs.Spendings.{IsSpentFrom, kept_behind}
use Rattle.node_command.specs.Journal.{Environment, Lives, bound_for, course_of, journal_of}

-- The link and the clock as the run begins: what the link holds, the last reading, those to come; how many turns are run, and
-- whether the node leaves behind them.
pub record NetInputs : Type 0 where
  pub link : LinkState
  pub reading : ℕ
  pub readings : List ℕ
  pub stay : Stay

-- the course of the member's life, where its store keeps this
abbrev pub life_in : Member → Stored → NetInputs → ServeState
life_in m stored feed = course_of m stored feed.stay feed.link feed.reading feed.readings

-- what is around the command, once the port is bound
abbrev pub once_bound : Member → NetInputs → Environment → Environment
once_bound m feed was = record was { link = Some (bound_for m feed.link) }

-- ## Behind the text

-- The life has begun, and so it went on.
abbrev pub LivesOut : Member → NetInputs → Environment → Environment → Result (Unit {0}) NodeHalt → Type 0
LivesOut m feed was now result =
    (stored : Stored) × (node : Kept) × (mid : OfDisk) × IsBegun m stored node (start_of m stored).told was.disk mid
    × Lives (setting_for m) node (start_of m stored).told (life_acts (pace_for (setting_for m) m.millis) feed.stay.turns feed.stay.leave feed.link.coming feed.reading feed.readings)
    (served_from (start_of m stored).node (bound_for m feed.link)) (record was { disk = mid }) now result

-- All was done: the journal was written, the link is bound to the own port and was given what the life gives it, and the store is
-- settled with what the life keeps, so that each crash leaves such a store: its next index is one above that of the last signature,
-- epoch and mask are those of the last note; the lives of the key go on with what was spent, whose indexes rise from the next one
-- found on, and the epochs of whose notes rise above the one found.
pub record HasRun (m : Member) (feed : NetInputs) (was now : Environment) : Type 0 where
  pub stored : Stored
  pub found : IsFound m stored was.disk
  -- A law of any member that a text sets up: `found`, `written` and `given` tie it to this run.
  pub vouchable : IsVouchable (setting_for m) (public_key (key_of m)) (recs_of m.certificates.items) stored
  pub written : Appends was.taken now.taken (journal_of m stored feed.stay feed.link feed.reading feed.readings)
  pub given : now.link ≡ Some (life_in m stored feed).link
  -- A law of any life: `given` ties it to the link.
  pub bound : (life_in m stored feed).link.bound ≡ Some (own_port m)
  pub faults : now.disk.faults ≡ was.disk.faults
  pub seat : Seat
  pub left : Tells was.disk.moments → IsSettled (tag_of m) (life_in m stored feed).node.stored seat now.disk.moments
  -- A law of any life, and `once` one of any life that begins so: `written` ties them to the journal, `left` and `ends` to the disk.
  pub kept : (life_in m stored feed).node.stored ≡ kept_behind stored (spent_told (start_of m stored).told ++ (life_in m stored feed).spent)
  pub ends : Ends m (spent_told (start_of m stored).told ++ (life_in m stored feed).spent) was.disk now.disk
  pub once : Tells was.disk.moments → IsSpentFrom stored (spent_told (start_of m stored).told ++ (life_in m stored feed).spent)

-- Nothing was written or sent.
pub record IsUnwritten (was now : Environment) : Type 0 where
  pub taken : now.taken ≡ was.taken
  pub link : now.link ≡ was.link

-- What comes behind the binding of the port.
abbrev pub RunsOnce : Member → NetInputs → Environment → Environment → Result (Unit {0}) NodeHalt → Type 0
RunsOnce m feed was now (Ok done) = HasRun m feed was now
RunsOnce m feed was now (Err (halt.Refused line w)) = ⊥
RunsOnce m feed was now (Err halt.ReadFault) = ⊥
RunsOnce m feed was now (Err halt.WriteFault) = LivesOut m feed was now (Err halt.WriteFault)
RunsOnce m feed was now (Err halt.StoreFault) =
    (IsUnwritten was now × (OpeningFails was.disk now.disk ⊎ StartFails m was.disk now.disk)) ⊎ LivesOut m feed was now (Err halt.StoreFault)
RunsOnce m feed was now (Err (halt.StoreBroken place byte)) = IsUnwritten was now × IsBroken m (halt.StoreBroken place byte) was.disk now.disk
RunsOnce m feed was now (Err halt.LinkFault) = ⊥
RunsOnce m feed was now (Err (halt.Exhausted next)) = IsUnwritten was now × IsUsedUp m next was.disk now.disk
RunsOnce m feed was now (Err halt.OutOfMemory) =
    (IsUnwritten was now × (IsUnopened was.disk now.disk ⊎ IsUnstarted m was.disk now.disk)) ⊎ LivesOut m feed was now (Err halt.OutOfMemory)

-- What comes behind the text: where the port could not be bound, all is as it was.
abbrev pub RunsBehind : Member → NetInputs → Environment → Environment → Result (Unit {0}) NodeHalt → Type 0
RunsBehind m feed was now (Err halt.LinkFault) = now ≡ was
RunsBehind m feed was now (Err halt.OutOfMemory) = (now ≡ was) ⊎ RunsOnce m feed (once_bound m feed was) now (Err halt.OutOfMemory)
RunsBehind m feed was now result = RunsOnce m feed (once_bound m feed was) now result

-- ## The whole

-- The text was read whole, and nothing written or done for it yet; and so it went on.
pub record Went (was now : play.IoState) (old new : Environment) (Rest : Member → Environment → Environment → Type 0) : Type 0 where
  pub member : Member
  pub between : play.IoState
  pub read : IsMember was between member
  pub left : now.left ≡ between.left
  pub reads : now.read_faults ≡ between.read_faults
  pub rest : Rest member (record old { taken = between.taken }) new

-- The text wasn't read to its end, and neither link nor disk were touched.
pub record IsUnread (was now : play.IoState) (old new : Environment) (s : Stop BadWord) : Type 0 where
  pub unfinished : IsUnfinished kit_judging kit.Start was now s
  pub link : new.link ≡ old.link
  pub disk : new.disk ≡ old.disk

-- The text was read whole, and memory was refused for what it sets up: neither link nor disk were touched.
pub record IsUngathered (was now : play.IoState) (old new : Environment) : Type 0 where
  pub lines : List KitLine
  pub whole : IsWhole kit_judging kit.Start was now lines
  pub link : new.link ≡ old.link
  pub disk : new.disk ≡ old.disk

-- What the run of a member took, wrote, did and left, by its answer.
abbrev pub Runs : NetInputs → play.IoState → play.IoState → Environment → Environment → Result (Unit {0}) NodeHalt → Type 0
Runs feed was now old new (Err (halt.Refused line w)) = IsUnread was now old new (stop.Refused line w)
Runs feed was now old new (Err halt.ReadFault) = IsUnread was now old new stop.ReadFault
Runs feed was now old new (Err halt.OutOfMemory) =
    IsUnread was now old new stop.OutOfMemory ⊎ IsUngathered was now old new ⊎ Went was now old new (λ m between after. RunsBehind m feed between after (Err halt.OutOfMemory))
Runs feed was now old new result = Went was now old new (λ m between after. RunsBehind m feed between after result)

-- ## What holds whether or not link and clock are modelled

-- The store was found broken, or used up, where it is so by its reading.
abbrev pub IsStoreCause : Member → List ℕ → OfDisk → OfDisk → Result (Unit {0}) NodeHalt → Type 0
IsStoreCause m name old new (Err (halt.StoreBroken place byte)) = IsRefused m name (halt.StoreBroken place byte) old new
IsStoreCause m name old new (Err (halt.Exhausted next)) = IsUsedUp m next old new
IsStoreCause m name old new other = Unit {0}

-- The same of the member that the text sets up.
pub record IsCausedBy (name : List ℕ) (was : play.IoState) (old new : OfDisk) (result : Result (Unit {0}) NodeHalt) : Type 0 where
  pub member : Member
  pub between : play.IoState
  pub read : IsMember was between member
  pub cause : IsStoreCause member name old new result

-- A store is answered as broken, or as used up, only where it is so by its reading.
abbrev pub IsCaused : List ℕ → play.IoState → OfDisk → OfDisk → Result (Unit {0}) NodeHalt → Type 0
IsCaused name was old new (Err (halt.StoreBroken place byte)) = IsCausedBy name was old new (Err (halt.StoreBroken place byte))
IsCaused name was old new (Err (halt.Exhausted next)) = IsCausedBy name was old new (Err (halt.Exhausted next))
IsCaused name was old new other = Unit {0}

-- The whole text was taken, none of whose lines is refused, and nothing was read behind it. Whether a write failed is said.
pub record TookWhole (was now : play.IoState) (failed : Bool) : Type 0 where
  pub lines : List KitLine
  pub between : play.IoState
  pub whole : IsWhole kit_judging kit.Start was between lines
  pub left : now.left ≡ between.left
  pub reads : now.read_faults ≡ between.read_faults
  pub writes : now.write_faults ≡ counted failed between.write_faults

-- The whole text was taken, none of whose lines is refused, and that was all.
pub record TookAlone (was now : play.IoState) : Type 0 where
  pub lines : List KitLine
  pub whole : IsWhole kit_judging kit.Start was now lines

-- What the run of a member took of its text, by its answer; and that it wrote and did nothing where the text was cut off, or the
-- port not bound.
abbrev pub Takes : play.IoState → play.IoState → OfDisk → OfDisk → Result (Unit {0}) NodeHalt → Type 0
Takes was now old new (Err (halt.Refused line w)) = IsUnfinished kit_judging kit.Start was now (stop.Refused line w) × (new ≡ old)
Takes was now old new (Err halt.ReadFault) = IsUnfinished kit_judging kit.Start was now stop.ReadFault × (new ≡ old)
Takes was now old new (Err halt.LinkFault) = TookAlone was now × (new ≡ old)
Takes was now old new (Err halt.OutOfMemory) = (IsUnfinished kit_judging kit.Start was now stop.OutOfMemory × (new ≡ old)) ⊎ TookWhole was now false
Takes was now old new result = TookWhole was now (is_write_fault result)
