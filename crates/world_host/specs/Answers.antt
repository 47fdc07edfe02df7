-- What calls and starts of a node answer, and how they leave its place.
use Rattle.std.specs.Prelude.{◌≡◌, ℕ, ◌+◌, true, false, ◌==◌, ◌⊎◌, List, [], ◌∷◌, ◌++◌, Option, Some, None, Result, Ok, Err, filter_map, flat_map, is_err, length}
use Rattle.fields.specs.declared.NoMemory.{NoMemory}
use Rattle.sign_keys.specs.declared.kinds.Kinds.{Kinds}
use Rattle.ports.specs.MemoryDisk.{DiskState}
use Rattle.records.specs.declared.Body.{Body}
use Rattle.records.specs.declared.fault.FormFault.{FormFault}
use Rattle.datagram.specs.declared.Datagram.{Datagram}
use Rattle.datagram.specs.Grammar.{GivesDatagram, read_of}
use Rattle.epoch_store.specs.Calls.{StoreState}
use Rattle.signer.specs.Lives.{Spent}
use Rattle.journal.specs.declared.event.Event as journal
use Rattle.journal.specs.declared.event.What as whats
use Rattle.journal.specs.declared.event.What.TheVariants as happened
use Rattle.node_rules.specs.Calls.{Call}
use Rattle.node_rules.specs.Lives.{Input}
use Rattle.node_core.specs.declared.NodeFault.{NodeFault}
use Rattle.node_core.specs.declared.NodeFault.TheVariants as faults
use Rattle.node_core.specs.Playing.{Kept}
use Rattle.world_host.specs.Held.{HoldsDisk, crashed}
use Rattle.world_rules.specs.Settings.{Setting, setting_of}
use Rattle.world_rules.specs.Disks.{Disk, after_calls, after_put, lets_pass, opening_calls, put_passes, seat_of, stopped, stopped_in_put}
use Rattle.world_rules.specs.Calls.{OnDisk, called_on}
use Rattle.world_rules.specs.Worlds.{Life, Host, spent_if_by}
use Rattle.world_rules.specs.Steps.{first_call, first_life, signed_in, host_after, with_disk, with_input}
use Rattle.world_host.specs.declared.starting.Started.{Started}
use Rattle.world_host.specs.declared.starting.Started.TheVariants as starts
use Rattle.world_host.specs.Hosts.{HostState}
use Rattle.world_host.specs.Holding.{HoldsLife, HoldsHost}

-- ---- what was signed

-- What the event says was signed.
abbrev pub body_in : whats.What → List Body
body_in (happened.Spent index body) = body ∷ []
body_in other = []

abbrev pub bodies_in : List journal.Event → List Body
bodies_in events = flat_map (λ e. body_in e.what) events

-- What the node's key spends, as the events of its call report.
abbrev pub spent_in : ℕ → List journal.Event → List Spent
spent_in m events = filter_map (spent_if_by (Some m)) (signed_in m events)

-- ---- calls

-- What was read, or why nothing was, is of these bytes or those.
abbrev pub IsRead : Result Datagram FormFault → Type 0
IsRead heard = (bytes : List ℕ) × GivesDatagram (read_of bytes) heard

-- The call of the node that runs, over its disk.
abbrev pub call_on : Setting → ℕ → Input → Host → Life → OnDisk
call_on s m i place life = called_on (setting_of s m) life.node i place.disk

-- The call is the one of the rules, and leaves the place as they say.
pub record Calls (s : Setting) (kinds : Kinds) (i : Input) (place : Host) (spent : List Spent) (life : Life) (new : HostState) (before after : List (ℕ × List ℕ)) (events : List journal.Event) : Type 0 where
  pub told : events ≡ (call_on s new.member i place life).call.told
  pub sent : after ≡ before ++ (call_on s new.member i place life).call.sent
  pub holds : HoldsHost s kinds (host_after place (with_input life i (call_on s new.member i place life).call.node) (call_on s new.member i place life)) (spent ++ spent_in new.member events) new

-- Where no node runs, nothing is reported or sent, and nothing changes.
abbrev pub CallsRunning : Setting → Kinds → Input → Host → List Spent → Option Life → HostState → HostState → List (ℕ × List ℕ) → List (ℕ × List ℕ) → List journal.Event → Type 0
CallsRunning s kinds i place spent None old new before after events = (events ≡ []) × (after ≡ before) × (new ≡ old)
CallsRunning s kinds i place spent (Some life) old new before after events = Calls s kinds i place spent life new before after events

abbrev pub CallsNode : Setting → Kinds → Input → Host → List Spent → HostState → HostState → List (ℕ × List ℕ) → List (ℕ × List ℕ) → Result (List journal.Event) NoMemory → Type 0
CallsNode s kinds i place spent old new before after (Ok events) = CallsRunning s kinds i place spent place.current old new before after events
CallsNode s kinds i place spent old new before after (Err refused) = Unit {0}

-- How the place is left, by the answer of its node.
abbrev pub Ends : HostState → Kept → HostState → Result (Unit {0}) NodeFault → Result (Unit {0}) NoMemory → Type 0
Ends old v new (Ok done) answer = (answer ≡ Ok tt) × (new ≡ record old { node = Some v })
Ends old v new (Err faults.StoreFault) answer = (answer ≡ Ok tt) × (new ≡ record old { node = None; disk = crashed 0 old.disk })
Ends old v new (Err faults.OutOfMemory) answer = (is_err answer ≡ true) × (new ≡ old)
Ends old v new (Err (faults.Exhausted next)) answer = ⊥
Ends old v new (Err faults.Ended) answer = ⊥

-- ---- starts

-- The store was opened, and the disk stands for the one behind the calls; or the stop came in one of them, and the disk
-- stands for the one behind that. Memory is never refused.
abbrev pub OpensStore : List ℕ → ℕ → Disk → DiskState → Result (Option StoreState) NoMemory → Type 0
OpensStore tag indexes e d (Ok (Some store)) =
    (lets_pass e.armed (opening_calls e) ≡ true) × (store ≡ record { state = e.state; seat = seat_of tag e; failed = false }) × HoldsDisk tag indexes d (after_calls (opening_calls e) e)
OpensStore tag indexes e d (Ok None) = (lets_pass e.armed (opening_calls e) ≡ false) × HoldsDisk tag indexes d (stopped e)
OpensStore tag indexes e d (Err refused) = ⊥

-- A node of this number began over the disk of an open store, which passed the put: it is where the first note of its life
-- leaves it, and that is reported.
pub record Begins (s : Setting) (tag : List ℕ) (m : ℕ) (e : Disk) (d : DiskState) (events : List journal.Event) (v : Kept) : Type 0 where
  pub left : (e.state.next == s.indexes) ≡ false
  pub passes : put_passes e ≡ true
  pub disk : HoldsDisk tag s.indexes d (after_put (first_call s m e.state).node.stored e)
  pub life : HoldsLife s tag (after_put (first_call s m e.state).node.stored e) m v (first_life e.state (first_call s m e.state))
  pub told : events ≡ (first_call s m e.state).told
  pub sent : (first_call s m e.state).sent ≡ []

-- The disk stopped in the put.
pub record FailsToBegin (s : Setting) (tag : List ℕ) (m : ℕ) (e : Disk) (d : DiskState) : Type 0 where
  pub left : (e.state.next == s.indexes) ≡ false
  pub stops : put_passes e ≡ false
  pub disk : HoldsDisk tag s.indexes (crashed 0 d) (stopped_in_put (first_call s m e.state).node.stored e)

-- The node that started; none where the disk stopped.
abbrev pub IsStart : Result Kept NodeFault → Result (Option Kept) NoMemory → Type 0
IsStart (Ok v) answer = answer ≡ Ok (Some v)
IsStart (Err faults.StoreFault) answer = answer ≡ Ok None
IsStart (Err faults.OutOfMemory) answer = is_err answer ≡ true
IsStart (Err (faults.Exhausted next)) answer = ⊥
IsStart (Err faults.Ended) answer = ⊥

abbrev pub BeginsNode : Setting → List ℕ → ℕ → Disk → DiskState → List journal.Event → Result (Option Kept) NoMemory → Type 0
BeginsNode s tag m e d events (Ok (Some v)) = Begins s tag m e d events v
BeginsNode s tag m e d events (Ok None) = FailsToBegin s tag m e d
BeginsNode s tag m e d events (Err refused) = Unit {0}

-- The place behind the calls that open its store.
abbrev pub opened_place : Host → Host
opened_place place = with_disk place (after_calls (opening_calls place.disk) place.disk)

-- The place behind the first note of a life.
abbrev pub begun_place : Host → Call → Host
begun_place place call = record { disk = after_put call.node.stored place.disk; past = place.past; current = Some (first_life place.disk.state call) }

-- A life began at a place whose store is open.
pub record BeginsAt (s : Setting) (kinds : Kinds) (place : Host) (spent : List Spent) (new : HostState) (life : ℕ) (events : List journal.Event) : Type 0 where
  pub left : (place.disk.state.next == s.indexes) ≡ false
  pub passes : put_passes place.disk ≡ true
  pub number : life ≡ length place.past + 1
  pub told : events ≡ (first_call s new.member place.disk.state).told
  pub sent : (first_call s new.member place.disk.state).sent ≡ []
  pub holds : HoldsHost s kinds (begun_place place (first_call s new.member place.disk.state)) (spent ++ spent_in new.member events) new

-- The disk stopped in the put.
pub record StopsAt (s : Setting) (kinds : Kinds) (place : Host) (spent : List Spent) (new : HostState) : Type 0 where
  pub left : (place.disk.state.next == s.indexes) ≡ false
  pub stops : put_passes place.disk ≡ false
  pub holds : HoldsHost s kinds (with_disk place (stopped_in_put (first_call s new.member place.disk.state).node.stored place.disk)) spent new

abbrev pub BeginsLife : Setting → Kinds → Host → List Spent → HostState → Result Started NoMemory → Type 0
BeginsLife s kinds place spent new (Ok (starts.Began life events)) = BeginsAt s kinds place spent new life events
BeginsLife s kinds place spent new (Ok starts.DiskStopped) = StopsAt s kinds place spent new
BeginsLife s kinds place spent new (Ok (starts.UsedUp next)) = ⊥
BeginsLife s kinds place spent new (Err refused) = Unit {0}

-- The disk stopped as its store was opened.
pub record StopsOpening (s : Setting) (kinds : Kinds) (place : Host) (spent : List Spent) (new : HostState) : Type 0 where
  pub stops : lets_pass place.disk.armed (opening_calls place.disk) ≡ false
  pub holds : HoldsHost s kinds (with_disk place (stopped place.disk)) spent new

-- The key is used up, as the open store says.
pub record IsUsedUp (s : Setting) (kinds : Kinds) (place : Host) (spent : List Spent) (new : HostState) (next : ℕ) : Type 0 where
  pub first : next ≡ place.disk.state.next
  pub none_left : (place.disk.state.next == s.indexes) ≡ true
  pub holds : HoldsHost s kinds (opened_place place) spent new

-- A start is the one of the rules, and leaves the place as they say.
abbrev pub StartsNode : Setting → Kinds → Host → List Spent → HostState → Result Started NoMemory → Type 0
StartsNode s kinds place spent new (Ok (starts.Began life events)) = (lets_pass place.disk.armed (opening_calls place.disk) ≡ true) × BeginsAt s kinds (opened_place place) spent new life events
StartsNode s kinds place spent new (Ok starts.DiskStopped) =
    StopsOpening s kinds place spent new ⊎ ((lets_pass place.disk.armed (opening_calls place.disk) ≡ true) × StopsAt s kinds (opened_place place) spent new)
StartsNode s kinds place spent new (Ok (starts.UsedUp next)) = (lets_pass place.disk.armed (opening_calls place.disk) ≡ true) × IsUsedUp s kinds place spent new next
StartsNode s kinds place spent new (Err refused) = Unit {0}
