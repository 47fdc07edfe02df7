-- The lines of a world behind `begin`: what each makes of the world, its verdict, and the events that it brings.
use Rattle.std.specs.Prelude.{ℕ, zero, suc, ◌+◌, if◌then◌else◌, List, [], ◌∷◌, ◌++◌, length, Option, Some, None, Result, Ok, Err, map, filter_map}
use Rattle.std.specs.List.{slice_get}
use Rattle.ff_ids.specs.declared.RingNo.{RingNo}
use Rattle.ff_ids.specs.Views.{monitor, view}
use Rattle.records.specs.declared.Body.{Body}
use Rattle.records.specs.declared.Body.TheVariants.{Note, Accusation}
use Rattle.epoch_store.specs.declared.Stored.{Stored}
use Rattle.datagram.specs.declared.Datagram.TheVariants as kinds
use Rattle.datagram.specs.Spelling.{datagram_bytes}
use Rattle.journal.specs.declared.event.Event as journal
use Rattle.journal.specs.declared.event.What as whats
use Rattle.journal.specs.declared.event.What.TheVariants as told
use Rattle.node_rules.specs.Nodes as node
use Rattle.node_rules.specs.Calls.{Call}
use Rattle.node_rules.specs.Starting.{started}
use Rattle.node_rules.specs.Lives.{Input, Delivers, Ticks, Leaves}
use Rattle.schedule_world.specs.declared.line.WorldLine.TheVariants as lines
use Rattle.schedule_world.specs.declared.line.WorldLine.{WorldLine}
use Rattle.world_rules.specs.Settings.{Setting, Signed, certificates, record_of, setting_of}
use Rattle.world_rules.specs.Disks.{ArmedStop, Disk, after_calls, after_put, lets_pass, opening_calls, put_passes, stopped, stopped_in_put}
use Rattle.world_rules.specs.Calls.{OnDisk, called_on}
use Rattle.world_rules.specs.Worlds.{Life, Named, Host, World, is_running, named_so, next_of_liar, running, with_named, with_host}
use Rattle.world_rules.specs.Forgeries.{Forgery, forgery}
use Rattle.world_rules.specs.declared.verdict.RefusalReason.{RefusalReason}
use Rattle.world_rules.specs.declared.verdict.RefusalReason.TheVariants as whys
use Rattle.world_rules.specs.declared.verdict.Verdict.{Verdict}
use Rattle.world_rules.specs.declared.verdict.Verdict.TheVariants as verdicts
use Rattle.world_rules.specs.Refusals.{newest_signed, why_not}

-- An event, and the node in whose life it came.
pub record NodeEvent : Type 0 where
  pub who : ℕ
  pub event : journal.Event

-- A line so far: what it has made of the world, and the events that it has brought.
pub record Execution : Type 0 where
  pub world : World
  pub told : List NodeEvent

abbrev pub begun : World → Execution
begun w = record { world = w; told = [] }

-- What a line brings: the world behind it, a verdict if the line has one, and events.
pub record Answer : Type 0 where
  pub world : World
  pub verdict : Option Verdict
  pub told : List NodeEvent

abbrev pub says : Verdict → World → Answer
says verdict w = record { world = w; verdict = Some verdict; told = [] }

abbrev pub quiet : Execution → Answer
quiet c = record { world = c.world; verdict = None; told = c.told }

-- ---- calls of nodes

-- A call counts its datagrams from 0, and the world all of them.
abbrev pub numbered_from : ℕ → whats.What → whats.What
numbered_from before (told.Sent number to bytes) = told.Sent (before + number) to bytes
numbered_from before what = what

abbrev pub told_in : ℕ → ℕ → List journal.Event → List NodeEvent
told_in m before events = map (λ e. record { who = m; event = record e { what = numbered_from before e.what } }) events

-- The signature that an event reports.
abbrev pub signed_if_spent : ℕ → whats.What → Option Signed
signed_if_spent m (told.Spent index body) = Some (record { who = Some m; index = index; body = body })
signed_if_spent m _ = None

abbrev pub signed_in : ℕ → List journal.Event → List Signed
signed_in m events = filter_map (λ e. signed_if_spent m e.what) events

-- What a call of the node has reported, sent and signed is added to the world's.
abbrev pub with_call : ℕ → Call → Execution → Execution
with_call m call c =
    record {
      world = record c.world { sent = c.world.sent ++ call.sent; signed = c.world.signed ++ signed_in m call.told };
      told = c.told ++ told_in m (length c.world.sent) call.told;
    }

abbrev pub with_input : Life → Input → node.Node → Life
with_input life i n = record life { inputs = life.inputs ++ i ∷ []; node = n }

-- Where the disk stopped in the call, the life is over.
abbrev pub host_after : Host → Life → OnDisk → Host
host_after host life d =
    if d.call.ended then record { disk = d.disk; past = host.past ++ life ∷ []; current = None }
    else record { disk = d.disk; past = host.past; current = Some life }

abbrev pub in_host : ℕ → Host → Execution → Execution
in_host m host c = record c { world = with_host m host c.world }

abbrev pub comes : ℕ → Host → Life → Input → OnDisk → Execution → Execution
comes m host life i d c = in_host m (host_after host (with_input life i d.call.node) d) (with_call m d.call c)

abbrev pub calls_running : Setting → ℕ → Input → Host → Option Life → Execution → Execution
calls_running s m i host None c = c
calls_running s m i host (Some life) c = comes m host life i (called_on (setting_of s m) life.node i host.disk) c

-- The node is called, if it runs.
unfoldable pub calls : Setting → ℕ → Input → Execution → Execution
calls s m i c = calls_running s m i (c.world.hosts m) (c.world.hosts m).current c

-- So many ticks, or as many as come before the life is over.
abbrev pub ticks : Setting → ℕ → ℕ → Execution → Execution
ticks s m zero c = c
ticks s m (suc n) c = ticks s m n (calls s m Ticks c)

-- ---- datagrams

-- What is forged ends the line.
abbrev pub unless_forged : Option Forgery → Execution → Result Execution Forgery
unless_forged (Some found) c = Err found
unless_forged None c = Ok c

abbrev pub and_then : Result Execution Forgery → (Execution → Result Execution Forgery) → Result Execution Forgery
and_then (Err found) f = Err found
and_then (Ok c) f = f c

abbrev pub answered : Result Execution Forgery → Result Answer Forgery
answered (Err found) = Err found
answered (Ok c) = Ok (quiet c)

-- The bytes are handed to the node, if nothing in them is forged.
unfoldable pub hands : Setting → ℕ → List ℕ → Execution → Result Execution Forgery
hands s m bytes c = unless_forged (forgery s c.world bytes) (calls s m (Delivers bytes) c)

abbrev pub moment_of : Setting → ℕ → Option Life → ℕ
moment_of s m None = 0
moment_of s m (Some life) = (node.state_of (setting_of s m) life.node).moment

abbrev pub tells_got : Setting → ℕ → ℕ → Execution → Execution
tells_got s m number c =
    record c { told = c.told ++ record { who = m; event = record { moment = moment_of s m (c.world.hosts m).current; what = told.Got number } } ∷ [] }

-- A datagram that was sent is handed to the node, which is reported.
abbrev pub hands_sent : Setting → ℕ → ℕ → Option (ℕ × List ℕ) → Execution → Result Execution Forgery
hands_sent s m number None c = Ok c
hands_sent s m number (Some d) c = hands s m d.1 (tells_got s m number c)

-- One datagram is taken, and handed to its addressee, where that is a running node.
abbrev pub flows_one : Setting → ℕ × List ℕ → Execution → Result Execution Forgery
flows_one s d c =
    let number = c.world.flowed in
    let taken : Execution = record c { world = record c.world { flowed = number + 1 } } in
    if is_running c.world d.0 then hands_sent s d.0 number (Some d) taken else Ok taken

-- The lowest-numbered datagrams that no flow has taken, one after another, while there are any; also those that are
-- sent meanwhile.
abbrev pub flows_next : Setting → Option (ℕ × List ℕ) → (Execution → Result Execution Forgery) → Execution → Result Execution Forgery
flows_next s None rest c = Ok c
flows_next s (Some d) rest c = and_then (flows_one s d c) rest

abbrev pub flows : Setting → ℕ → Execution → Result Execution Forgery
flows s zero c = Ok c
flows s (suc n) c = flows_next s (slice_get c.world.sent c.world.flowed) (flows s n) c

-- ---- records of liars

-- A datagram with the record, from the owner of its key.
abbrev pub given_bytes : Named → List ℕ
given_bytes x = datagram_bytes (kinds.Records x.key (x.kept ∷ []))

abbrev pub gives : Setting → ℕ → Option Named → Execution → Result Execution Forgery
gives s m None c = Ok c
gives s m (Some x) c = hands s m (given_bytes x) c

abbrev pub gives_each : Setting → List ℕ → Option Named → Execution → Result Execution Forgery
gives_each s [] x c = Ok c
gives_each s (m ∷ ms) x c = and_then (gives s m x c) (gives_each s ms x)

-- The liar signs the body with its next index, and the record is kept under the name.
abbrev pub lies : Setting → ℕ → Body → List ℕ → World → Answer
lies s key body name w =
    let x : Signed = record { who = Some key; index = next_of_liar w key; body = body } in
    says (verdicts.Spends x.index) (with_named (record { name = name; key = key; kept = record_of s x }) (record w { signed = w.signed ++ x ∷ [] }))

-- The epoch that is said, or that of the newest note.
abbrev pub epoch_meant : World → ℕ → Option ℕ → Option ℕ
epoch_meant w accused (Some epoch) = Some epoch
epoch_meant w accused None = newest_signed w accused

abbrev pub accuses_at : Setting → ℕ → ℕ → ℕ → RingNo → List ℕ → World → Option ℕ → Answer
accuses_at s key accuser accused ring name w None = quiet (begun w)
accuses_at s key accuser accused ring name w (Some epoch) =
    lies s key (Accusation (record { accuser = accuser; accused = accused; epoch = epoch; ring = ring })) name w

-- ---- starts and stops

abbrev pub with_disk : Host → Disk → Host
with_disk host d = record host { disk = d }

-- How the first note of a life leaves its node.
abbrev pub first_call : Setting → ℕ → Stored → Call
first_call s m kept = started (setting_of s m) (s.nonces m kept.next) (certificates s) kept

abbrev pub first_life : Stored → Call → Life
first_life kept call = record { found = kept; inputs = []; node = call.node }

-- The store is open, and the key isn't used up: the first note is put, and signed.
abbrev pub begins : Setting → ℕ → Host → Call → World → Answer
begins s m host call w =
    if put_passes host.disk then
    (let c = in_host m (record { disk = after_put call.node.stored host.disk; past = host.past; current = Some (first_life host.disk.state call) }) (with_call m call (begun w)) in
    record { world = c.world; verdict = Some (verdicts.Began (length host.past + 1)); told = c.told })
    else says verdicts.DiskStopped (with_host m (with_disk host (stopped_in_put call.node.stored host.disk)) w)

-- The store is opened, and then comes what is to come, if the disk doesn't stop in it.
abbrev pub opens : ℕ → Host → (Host → Answer) → World → Answer
opens m host rest w =
    let calls = opening_calls host.disk in
    if lets_pass host.disk.armed calls then rest (with_disk host (after_calls calls host.disk))
    else says verdicts.DiskStopped (with_host m (with_disk host (stopped host.disk)) w)

unfoldable pub starts : Setting → ℕ → World → Answer
starts s m w =
    let host = w.hosts m in
    opens m host (λ opened. begins s m opened (first_call s m host.disk.state) w) w

-- A key that is used up is seen once the store is open.
unfoldable pub starts_in_vain : ℕ → ℕ → World → Answer
starts_in_vain m first w = opens m (w.hosts m) (λ opened. says (verdicts.Refused (whys.UsedUp first)) (with_host m opened w)) w

abbrev pub life_over : Host → Option Life → Host
life_over host None = host
life_over host (Some life) = record host { past = host.past ++ life ∷ []; current = None }

-- A life ends, and the disk crashes. Between two lines all that was written is synced, so that each outcome leaves the
-- store as it is; and a stop that is armed stays so.
abbrev pub stops : ℕ → World → World
stops m w = let host = w.hosts m in with_host m (life_over host host.current) w

-- The stop takes the place of one that was armed before.
abbrev pub arms : ℕ → ArmedStop → World → World
arms m stop w =
    let host = w.hosts m in
    with_host m (with_disk host (record host.disk { armed = Some stop })) w

-- ---- questions

abbrev pub of_life : Setting → ℕ → Option Life → (node.Setting → node.Node → Verdict) → World → Answer
of_life s m None ask w = quiet (begun w)
of_life s m (Some life) ask w = says (ask (setting_of s m) life.node) w

abbrev pub viewed : node.Setting → node.Node → Verdict
viewed s n = verdicts.Sees (view (node.state_of s n))

abbrev pub monitored : ℕ → ℕ → node.Setting → node.Node → Verdict
monitored ring of s n = verdicts.MonitoredBy (monitor (node.state_of s n) ring of)

-- ---- lines

abbrev pub asks : Setting → ℕ → (node.Setting → node.Node → Verdict) → World → Answer
asks s m ask w = of_life s m (w.hosts m).current ask w

-- What a line does that can be done.
abbrev pub does : Setting → World → WorldLine → Result Answer Forgery
does s w (lines.Start m) = Ok (starts s m w)
does s w (lines.Stop m outcome) = Ok (quiet (begun (stops m w)))
does s w (lines.Arm m calls outcome) = Ok (quiet (begun (arms m (record { calls = calls; outcome = outcome }) w)))
does s w (lines.Tick m n) = Ok (quiet (ticks s m n (begun w)))
does s w (lines.Leave m) = Ok (quiet (calls s m Leaves (begun w)))
does s w (lines.Deliver number m) = answered (hands_sent s m number (slice_get w.sent number) (begun w))
does s w (lines.Flow most) = answered (flows s most (begun w))
does s w (lines.Raw m bytes) = answered (hands s m bytes (begun w))
does s w (lines.SignNote key note name) = Ok (lies s key (Note note) name w)
does s w (lines.SignAccusation key accuser accused epoch ring name) = Ok (accuses_at s key accuser accused ring name w (epoch_meant w accused epoch))
does s w (lines.Give name m) = answered (gives s m (named_so w name) (begun w))
does s w (lines.GiveAll name) = answered (gives_each s (running s w) (named_so w name) (begun w))
does s w (lines.View m) = Ok (asks s m viewed w)
does s w (lines.Monitor m ring of) = Ok (asks s m (monitored ring.0 of) w)
does s w _ = Ok (quiet (begun w))

-- A line that can't be done does nothing, but that a start in vain has opened its store.
abbrev pub refuses : World → WorldLine → RefusalReason → Answer
refuses w (lines.Start m) (whys.UsedUp first) = starts_in_vain m first w
refuses w line why = says (verdicts.Refused why) w

abbrev pub step_by : Setting → World → WorldLine → Option RefusalReason → Result Answer Forgery
step_by s w line (Some why) = Ok (refuses w line why)
step_by s w line None = does s w line

-- A line of the world: its answer, or what is forged in what it hands over.
unfoldable pub step : Setting → World → WorldLine → Result Answer Forgery
step s w line = step_by s w line (why_not s w line)
