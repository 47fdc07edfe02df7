-- What a delivery spends on the notes that its records ask of the node, and to whom they go.
use Rattle.std.specs.Prelude.{◌≡◌, ℕ, Bool, true, false, if◌then◌else◌, List, [], ◌∷◌, ◌++◌, Option, Some, None, Ok, map}
use Rattle.ff_ids.specs.declared.NoteBody.{NoteBody}
use Rattle.records.specs.declared.Body.TheVariants.{Note}
use Rattle.records.specs.declared.Record.{Record}
use Rattle.datagram.specs.declared.Datagram.{Datagram}
use Rattle.datagram.specs.declared.Datagram.TheVariants as kinds
use Rattle.datagram.specs.Spelling.{datagram_bytes}
use Rattle.datagram.specs.Grammar.{read_of}
use Rattle.journal.specs.declared.event.What as whats
use Rattle.journal.specs.declared.event.What.TheVariants as told
use Rattle.node_rules.specs.Nodes.{Setting, Node, state_of, neighbours}
use Rattle.node_rules.specs.Refusals.{refusal}
use Rattle.node_rules.specs.Calls.{is_used_up, own_record}
use Rattle.node_rules.specs.Deliveries.{asked_with, delivered}
use Rattle.node_rules.specs.Verdicts.{all_at, told_that, is_apart, records_in, when_handled, verdict_on}

-- A signature that is wanted is made, or the key is used up, or the disk fails.
abbrev pub is_of_signing : whats.What → Bool
is_of_signing (told.Spent index body) = true
is_of_signing (told.Exhausted next) = true
is_of_signing told.Stopped = true
is_of_signing other = false

-- ---- what is spent

-- The note that the record asks of the node.
abbrev pub asked_by : Setting → Node → Record → Option NoteBody
asked_by s n r = asked_with s n (refusal s n r) r.body r

-- The next index is spent on it; where the key is used up, that is reported.
abbrev pub answered_with : Setting → Node → Option NoteBody → List whats.What
answered_with s n None = []
answered_with s n (Some note) = (if is_used_up s n then told.Exhausted n.stored.next else told.Spent n.stored.next (Note note)) ∷ []

-- One for each record that asks a note, in order, and none for any other.
abbrev pub answers_told : Setting → Node → List Record → List whats.What
answers_told s n [] = []
answers_told s n (r ∷ records) = answered_with s n (asked_by s n r) ++ answers_told s (when_handled s n r) records

abbrev pub AnswersAreTold : Type 0
AnswersAreTold = (s : Setting) (n : Node) (bytes : List ℕ) → told_that is_of_signing (delivered s n bytes) ≡ all_at (state_of s n).moment (answers_told s n (records_in (read_of bytes)))

-- On each record its verdict, and directly behind it what the note spends that it asks.
abbrev pub records_told : Setting → Node → List Record → List whats.What
records_told s n [] = []
records_told s n (r ∷ records) = (verdict_on s n r ∷ answered_with s n (asked_by s n r)) ++ records_told s (when_handled s n r) records

-- Where records are delivered, this is reported beside the life and the datagrams, and nothing else.
abbrev pub RecordsAreTold : Type 0
RecordsAreTold = (s : Setting) (n : Node) (bytes : List ℕ) (from : ℕ) (records : List Record) → read_of bytes ≡ Ok (kinds.Records from records)
    → told_that is_apart (delivered s n bytes) ≡ all_at (state_of s n).moment (records_told s n records)

-- ---- what goes out

-- The datagram to each of these.
abbrev pub to_each : List ℕ → Datagram → List (ℕ × List ℕ)
to_each addressees d = map (λ to. (to, datagram_bytes d)) addressees

-- The note goes to each of the neighbours of the node as it is then.
abbrev pub answer_sent : Setting → Node → Node → Option NoteBody → List (ℕ × List ℕ)
answer_sent s n later None = []
answer_sent s n later (Some note) =
    if is_used_up s n then []
    else to_each (neighbours s (state_of s later)) (kinds.Records s.me (own_record s n (Note note) ∷ []))

-- What the notes that delivered records ask send, in order.
abbrev pub answers_sent : Setting → Node → List Record → List (ℕ × List ℕ)
answers_sent s n [] = []
answers_sent s n (r ∷ records) = answer_sent s n (when_handled s n r) (asked_by s n r) ++ answers_sent s (when_handled s n r) records

-- Where records are delivered, nothing but these notes goes out.
abbrev pub AnswersAreSent : Type 0
AnswersAreSent = (s : Setting) (n : Node) (bytes : List ℕ) (from : ℕ) (records : List Record) → read_of bytes ≡ Ok (kinds.Records from records) → (delivered s n bytes).sent ≡ answers_sent s n records
