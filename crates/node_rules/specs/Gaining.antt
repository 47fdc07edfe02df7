-- What a call adds to the life of its node, and what becomes of the probes.
use Rattle.std.specs.Prelude.{◌≡◌, ℕ, ◌+◌, ◌==◌, if◌then◌else◌, List, [], ◌∷◌, ◌++◌, Option, Some, None, Ok}
use Rattle.ff_ids.specs.declared.NoteBody.{NoteBody}
use Rattle.ff_ids.specs.declared.Fault.{Fault}
use Rattle.ff_ids.specs.Views.{State}
use Rattle.ff_ids.specs.Steps.{Event, Notes, Ticks}
use Rattle.records.specs.declared.Body.{Body}
use Rattle.records.specs.declared.Record.{Record}
use Rattle.datagram.specs.declared.Datagram.TheVariants as kinds
use Rattle.datagram.specs.Grammar.{read_of}
use Rattle.detector.specs.Silence.{History, ticked as probed}
use Rattle.node_rules.specs.Nodes.{Setting, Node, state_of, event_of}
use Rattle.node_rules.specs.Refusals.{refusal}
use Rattle.node_rules.specs.Calls.{Call, is_used_up}
use Rattle.node_rules.specs.Deliveries.{delivered}
use Rattle.node_rules.specs.Ticking.{is_due, watched_by, ticked}
use Rattle.node_rules.specs.Leaving.{left, leaving_note}
use Rattle.node_rules.specs.Verdicts.{when_handled}
use Rattle.node_rules.specs.Answering.{asked_by}
use Rattle.node_rules.specs.Outgoing.{at_tick, to_accuse, accusation_of}

-- The call's node has this life and these probes.
pub record ComesTo (lived : List Event) (probes : History) (c : Call) : Type 0 where
  pub lived_so : c.node.lived ≡ lived
  pub probes_so : c.node.probes ≡ probes

-- ---- records

-- A record without a fault brings its event.
abbrev pub accepted_event : Setting → Option Fault → Body → List Event
accepted_event s None b = event_of s b ∷ []
accepted_event s (Some fault) b = []

-- So does the note that it asks, where the key has an index.
abbrev pub answer_event : Setting → Node → Option NoteBody → List Event
answer_event s n None = []
answer_event s n (Some note) = if is_used_up s n then [] else Notes note ∷ []

-- The events that delivered records add to the life, with those of the notes that they ask.
abbrev pub gained : Setting → Node → List Record → List Event
gained s n [] = []
gained s n (r ∷ records) = accepted_event s (refusal s n r) r.body ++ answer_event s n (asked_by s n r) ++ gained s (when_handled s n r) records

-- Delivered records add to the life what is accepted of them, each with the note that it asks behind it, and nothing else.
abbrev pub RecordsAreLived : Type 0
RecordsAreLived = (s : Setting) (n : Node) (bytes : List ℕ) (from : ℕ) (records : List Record) → read_of bytes ≡ Ok (kinds.Records from records)
    → ComesTo (n.lived ++ gained s n records) n.probes (delivered s n bytes)

-- ---- ticks

-- As long as the key has an index, the accusation of each.
abbrev pub accusation_events : Setting → State → ℕ → List ℕ → List Event
accusation_events s st index [] = []
accusation_events s st index (m ∷ accused) = if index == s.indexes then [] else event_of s (accusation_of s st m) ∷ accusation_events s st (index + 1) accused

-- A tick adds itself and then the accusations, and the probes see it.
abbrev pub TicksAreLived : Type 0
TicksAreLived = (s : Setting) (n : Node) → let p = at_tick s n in let st = state_of s p in
    ComesTo (n.lived ++ Ticks ∷ [] ++ accusation_events s st p.stored.next (to_accuse s p st)) (probed n.probes (is_due s st) (watched_by s st)) (ticked s n)

-- ---- leaving

-- The leaving note, where the key has an index for it.
abbrev pub leaving_event : Setting → Node → List Event
leaving_event s n = if is_used_up s n then [] else Notes (leaving_note s n.stored) ∷ []

-- Leaving adds it to the life, and nothing else; the probes don't see it.
abbrev pub LeavingIsLived : Type 0
LeavingIsLived = (s : Setting) (n : Node) → ComesTo (n.lived ++ leaving_event s n) n.probes (left s n)
