-- What a wanted signature is, and how a call runs that may meet a failing disk.
use Rattle.std.specs.Prelude.{◌≡◌, ℕ, ◌+◌, Bool, true, false, List, Some, Result, Ok, Err, fold, take}
use Rattle.std.specs.List.{slice_get}
use Rattle.records.specs.declared.Record.{Record}
use Rattle.node_rules.specs.Deliveries.{handles, handles_all}
use Rattle.ff_ids.specs.declared.Mask.{Mask}
use Rattle.records.specs.declared.Body.{Body}
use Rattle.records.specs.declared.Body.TheVariants.{Note}
use Rattle.signer.specs.Signing.{stored_after}
use Rattle.node_rules.specs.Nodes.{Setting, Node}
use Rattle.node_rules.specs.Calls.{Call}
use Rattle.node_core.specs.declared.NodeFault.{NodeFault}

-- The signer has spent an index on the body.
abbrev pub with_stored : Body → Call → Call
with_stored body c = record c { node = record c.node { stored = stored_after c.node.stored body } }

-- The own note of the next epoch.
abbrev pub next_own : Setting → Node → Mask → Body
next_own s n mask = Note (record { member = s.me; epoch = n.stored.epoch + 1; mask = mask })

-- The disk worked and the call is this one, or it failed at the signature, and of this whole call that one is left.
abbrev pub Runs : (Call → Type 0) → (Call → Call → Type 0) → (Bool → Call) → Result (Unit {0}) NodeFault → Type 0
Runs P Q call (Ok done) = P (call true)
Runs P Q call (Err fault) = Q (call true) (call false)

-- The disk failed in one of these steps, behind those before it, in this whole call.
abbrev pub StopsAt : {X : Type 0} → (Call → Call → Type 0) → (Bool → Call → X → Call) → List X → Call → Call → Type 0
StopsAt {X} Q step xs whole c = (i : ℕ) × (x : X) × ((slice_get xs i ≡ Some x) × Q whole (step false (fold (step true) c (take i xs)) x))

-- All records are handled, or the disk failed in the answer to one.
abbrev pub RunsAll : (Call → Type 0) → (Call → Call → Type 0) → Setting → List Record → Call → Result (Unit {0}) NodeFault → Type 0
RunsAll P Q s records c (Ok done) = P (handles_all s records c)
RunsAll P Q s records c (Err fault) = StopsAt Q (λ works c r. handles works s c r) records (handles_all s records c) c
