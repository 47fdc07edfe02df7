-- The calls of a node over its disk, whatever that is: how far each comes, where it follows from the disk which puts of
-- the store succeed. A disk of which no more is known than which put fails gives the one definition of a call.
use Rattle.std.specs.Prelude.{◌≡◌, ℕ, zero, suc, Bool, true, false, not, ◌==◌, if◌then◌else◌, List, Option, Some, Result, Ok, fold}
use Rattle.records.specs.declared.Record.{Record}
use Rattle.epoch_store.specs.declared.Stored.{Stored}
use Rattle.datagram.specs.declared.Datagram.{Datagram}
use Rattle.datagram.specs.declared.Datagram.TheVariants as kinds
use Rattle.datagram.specs.Grammar.{read_of}
use Rattle.node_rules.specs.Nodes.{Setting, Node, state_of}
use Rattle.node_rules.specs.Calls.{Call, begun}
use Rattle.node_rules.specs.Deliveries.{handles, hears}
use Rattle.node_rules.specs.Ticking.{accuses, gossips, is_due, passed, pings_all, pings_in, probed_at, round_of, silent_in, spreads}
use Rattle.node_rules.specs.Leaving.{leaves}

-- What a node is called with: a datagram, a tick, or to leave.
pub data Input : Type 0 where
  Delivers : (bytes : List ℕ) → Input
  Ticks : Input
  Leaves : Input

-- How a disk takes what the store is to keep: whether the put succeeds, and the disk behind it, whether it does or not.
pub record Storage (D : Type 0) : Type 0 where
  pub takes : Stored → D → Bool
  pub behind : Stored → D → D

-- A call so far, and the disk.
pub record OnDisk (D : Type 0) : Type 0 where
  pub call : Call
  pub disk : D

-- A step that makes a signature first puts what the store keeps behind it; the disk works or fails there. Any other step
-- leaves the disk alone.
abbrev pub puts : {D : Type 0} → Storage D → (Bool → Call) → OnDisk D → OnDisk D
puts storage step d =
    let kept = (step true).node.stored in
    record { call = step (storage.takes kept d.disk); disk = storage.behind kept d.disk }

abbrev pub takes_step : {D : Type 0} → Storage D → (Bool → Call) → OnDisk D → OnDisk D
takes_step storage step d = if (step true).node.stored.next == d.call.node.stored.next then record d { call = step true } else puts storage step d

-- After the disk has failed nothing more is done.
abbrev pub goes_on : {D : Type 0} → (OnDisk D → OnDisk D) → OnDisk D → OnDisk D
goes_on step d = if d.call.ended then d else step d

abbrev pub steps_on : {D X : Type 0} → Storage D → (Bool → Call → X → Call) → OnDisk D → X → OnDisk D
steps_on storage step d x = goes_on (takes_step storage (λ works. step works d.call x)) d

-- ---- deliveries

unfoldable pub handles_on : {D : Type 0} → Storage D → Setting → OnDisk D → Record → OnDisk D
handles_on storage s d r = steps_on storage (λ works c x. handles works s c x) d r

-- Records alone bring signatures.
abbrev pub hears_on : {D : Type 0} → Storage D → Setting → Result Datagram ℕ → OnDisk D → OnDisk D
hears_on storage s (Ok (kinds.Records from records)) d = fold (handles_on storage s) d records
hears_on storage s heard d = record d { call = hears s heard d.call }

unfoldable pub delivered_on : {D : Type 0} → Storage D → Setting → Node → List ℕ → D → OnDisk D
delivered_on storage s n bytes disk = hears_on storage s (read_of bytes) (record { call = begun n; disk = disk })

-- ---- ticks

unfoldable pub accuses_on : {D : Type 0} → Storage D → Setting → OnDisk D → ℕ → OnDisk D
accuses_on storage s d m = steps_on storage (λ works c x. accuses works s c x) d m

-- Of a tick that is due the news and the accusations, and then the pings and the summary.
unfoldable pub due_on : {D : Type 0} → Storage D → Setting → List ℕ → List (ℕ × ℕ) → ℕ → OnDisk D → OnDisk D
due_on storage s accused pings round d =
    let spread = record d { call = spreads s d.call } in
    goes_on (λ e. record e { call = gossips s round (pings_all s pings e.call) }) (fold (accuses_on storage s) spread accused)

unfoldable pub ticked_on : {D : Type 0} → Storage D → Setting → Node → D → OnDisk D
ticked_on storage s n disk =
    let p = (passed s n).node in
    let st = state_of s p in
    let d : OnDisk _ = record { call = probed_at s n; disk = disk } in
    if is_due s st then due_on storage s (silent_in s p st) (pings_in s p st) (round_of s st) d else d

-- ---- leaving

unfoldable pub left_on : {D : Type 0} → Storage D → Setting → Node → D → OnDisk D
left_on storage s n disk = takes_step storage (λ works. leaves works s (begun n)) (record { call = begun n; disk = disk })

-- A call of a node over a disk.
abbrev pub called_on : {D : Type 0} → Storage D → Setting → Node → Input → D → OnDisk D
called_on storage s n (Delivers bytes) disk = delivered_on storage s n bytes disk
called_on storage s n Ticks disk = ticked_on storage s n disk
called_on storage s n Leaves disk = left_on storage s n disk

-- ---- one put that fails, or none

-- The number of the put that fails, counted from 0, if any does.
abbrev pub fails_now : Option ℕ → Bool
fails_now (Some zero) = true
fails_now other = false

abbrev pub behind_put : Option ℕ → Option ℕ
behind_put (Some (suc puts)) = Some puts
behind_put other = other

abbrev pub counting : Storage (Option ℕ)
counting = record { takes = λ kept fails_at. not (fails_now fails_at); behind = λ kept fails_at. behind_put fails_at }

-- The call of a node in which this put fails, if any does. Where none does, the call is whole.
unfoldable pub called : Setting → Node → Input → Option ℕ → Call
called s n i fails_at = (called_on counting s n i fails_at).call

-- The call ended in a put that failed.
pub record IsCut (s : Setting) (n : Node) (i : Input) (c : Call) : Type 0 where
  pub put : ℕ
  pub is : c ≡ called s n i (Some put)
  pub ended : c.ended ≡ true
