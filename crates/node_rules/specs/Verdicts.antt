-- What a delivery reports of the records in it, or of bytes that are no datagram.
use Rattle.std.specs.Prelude.{◌≡◌, ℕ, Bool, true, false, List, [], ◌∷◌, Result, Ok, Err, filter, map}
use Rattle.records.specs.declared.Record.{Record}
use Rattle.datagram.specs.declared.Datagram.{Datagram}
use Rattle.datagram.specs.declared.Datagram.TheVariants as kinds
use Rattle.datagram.specs.Grammar.{read_of}
use Rattle.journal.specs.declared.event.Event as journal
use Rattle.journal.specs.declared.event.What as whats
use Rattle.journal.specs.declared.event.What.TheVariants as told
use Rattle.node_rules.specs.Nodes.{Setting, Node, state_of}
use Rattle.node_rules.specs.Refusals.{refusal}
use Rattle.node_rules.specs.Calls.{Call, begun}
use Rattle.node_rules.specs.Deliveries.{handles, delivered}

-- These, at this moment.
abbrev pub all_at : ℕ → List whats.What → List journal.Event
all_at moment whats = map (λ what. record { moment = moment; what = what }) whats

-- Those of the call's events that pass the test.
abbrev pub told_that : (whats.What → Bool) → Call → List journal.Event
told_that test c = filter (λ e. test e.what) c.told

-- Neither of the view and of accusations, by which a life is told, nor of a datagram that is sent.
abbrev pub is_apart : whats.What → Bool
is_apart (told.Entered m) = false
is_apart (told.Expired a) = false
is_apart (told.Removed m) = false
is_apart (told.Fell a) = false
is_apart (told.Sent place to bytes) = false
is_apart other = true

-- ---- verdicts

abbrev pub is_took : whats.What → Bool
is_took (told.Took body fault) = true
is_took other = false

-- The records that were read; none where another datagram was, or nothing.
abbrev pub records_in : Result Datagram ℕ → List Record
records_in (Ok (kinds.Records from records)) = records
records_in other = []

-- The node when the record has been handled.
abbrev pub when_handled : Setting → Node → Record → Node
when_handled s n r = (handles true s (begun n) r).node

abbrev pub when_all_handled : Setting → Node → List Record → Node
when_all_handled s n [] = n
when_all_handled s n (r ∷ records) = when_all_handled s (when_handled s n r) records

abbrev pub verdict_on : Setting → Node → Record → whats.What
verdict_on s n r = told.Took r.body (refusal s n r)

-- On each record its first fault, in the node as the records before it have left it.
abbrev pub verdicts : Setting → Node → List Record → List whats.What
verdicts s n [] = []
verdicts s n (r ∷ records) = verdict_on s n r ∷ verdicts s (when_handled s n r) records

-- A delivery reports the verdicts on the records that were read, in order, and no other.
abbrev pub VerdictsAreTold : Type 0
VerdictsAreTold = (s : Setting) (n : Node) (bytes : List ℕ) → told_that is_took (delivered s n bytes) ≡ all_at (state_of s n).moment (verdicts s n (records_in (read_of bytes)))

-- ---- bytes that are no datagram

abbrev pub is_bad_form : whats.What → Bool
is_bad_form (told.BadForm place) = true
is_bad_form other = false

-- The place up to which nothing was read.
abbrev pub bad_forms : Result Datagram ℕ → List whats.What
bad_forms (Ok d) = []
bad_forms (Err place) = told.BadForm place ∷ []

-- The call has reported this at its node's moment and nothing else, has sent nothing, and leaves the node.
pub record OnlyTells (s : Setting) (n : Node) (what : whats.What) (c : Call) : Type 0 where
  pub told : c.told ≡ all_at (state_of s n).moment (what ∷ [])
  pub sent : c.sent ≡ []
  pub node : c.node ≡ n

-- Bytes that don't read are reported once, with the place, and nothing else is; and of no others is that reported.
abbrev pub BadFormsAreTold : Type 0
BadFormsAreTold = (s : Setting) (n : Node) (bytes : List ℕ)
    → ((place : ℕ) → read_of bytes ≡ Err place → OnlyTells s n (told.BadForm place) (delivered s n bytes))
    × (told_that is_bad_form (delivered s n bytes) ≡ all_at (state_of s n).moment (bad_forms (read_of bytes)))
