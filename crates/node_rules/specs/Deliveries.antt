-- What a node does with the bytes of one datagram.
use Rattle.std.specs.Prelude.{ℕ, ◌+◌, nat_lt, Bool, true, false, ◌&&◌, ◌||◌, not, ◌==◌, if◌then◌else◌, List, [], ◌∷◌, Option, Some, None, is_some, Result, Ok, Err, fold}
use Rattle.std.specs.Option.{option_map_or}
use Rattle.ff_ids.specs.declared.NoteBody.{NoteBody}
use Rattle.ff_ids.specs.declared.AccBody.{AccBody}
use Rattle.ff_ids.specs.declared.Fault.{Fault}
use Rattle.ff_ids.specs.declared.Fault.TheVariants as faults
use Rattle.ff_ids.specs.Heals.{Heal}
use Rattle.ff_ids.specs.Masks.{enables}
use Rattle.ff_ids.specs.declared.summary.Summary.{Summary}
use Rattle.records.specs.declared.Body.{Body}
use Rattle.records.specs.declared.Body.TheVariants.{Certificate, Note, Accusation}
use Rattle.records.specs.declared.Record.{Record}
use Rattle.epoch_store.specs.declared.Stored.{Stored}
use Rattle.datagram.specs.declared.Datagram.{Datagram}
use Rattle.datagram.specs.declared.Datagram.TheVariants as kinds
use Rattle.datagram.specs.Grammar.{read_of}
use Rattle.journal.specs.declared.event.What.TheVariants as told
use Rattle.detector.specs.Silence.{counts, ponged}
use Rattle.node_rules.specs.Nodes.{Setting, Node, is_certified, neighbours, public_key_of}
use Rattle.node_rules.specs.Pages.{page, lacking}
use Rattle.rebuttal.specs.Rebuttals.{answering_mask}
use Rattle.node_rules.specs.Refusals.{refusal}
use Rattle.node_rules.specs.Calls.{Call, begun, tells, takes, wants, sends}

-- ---- records

-- The note that answers an accusation is the one after the node's newest, which its store keeps: of the next epoch,
-- with the accusation's ring disabled.
abbrev pub answering_note : Setting → Stored → AccBody → NoteBody
answering_note s kept a =
    record {
      member = s.me;
      epoch = kept.epoch + 1;
      mask = record { 0 = answering_mask s.group.t kept.mask.0 a.ring.0 };
    }

abbrev pub answer_to : Setting → Stored → AccBody → Body
answer_to s kept a = Note (answering_note s kept a)

-- The note by which the node comes back into views is of the next epoch too, and has the same mask.
abbrev pub returning_note : Setting → Stored → NoteBody
returning_note s kept = record { member = s.me; epoch = kept.epoch + 1; mask = kept.mask }

-- With the option the epoch of the node's note rises in each span by no more than the option has it, for others' sake.
abbrev pub may_rise : Option Heal → Node → Bool
may_rise None n = true
may_rise (Some heal) n = heal.most == 0 || nat_lt n.stored.epoch (n.since + heal.most)

-- The accused is not in the view, or the accuser is not its monitor there. So the epoch is that of its newest note.
abbrev pub is_of_place : Fault → Bool
is_of_place faults.NotInView = true
is_of_place (faults.NotMonitor monitor) = true
is_of_place other = false

-- The record verifies under the member's key.
abbrev pub verifies_for : Setting → Node → ℕ → Record → Bool
verifies_for s n m r = option_map_or (λ key. s.verifies key r) (public_key_of n m) false

-- By an accusation that is refused for the place of its accuser or its accused alone the node hears, with the option, that
-- others removed it: it is of the node's newest epoch, on a ring that its mask enables, and verifies.
abbrev pub is_told : Setting → Node → Fault → AccBody → Record → Bool
is_told s n fault a r =
    is_some s.heal && is_of_place fault && enables n.stored.mask.0 a.ring.0 && verifies_for s n a.accuser r

-- The note that an accusation against the node asks of it: its answer, where it was accepted, or to come back.
abbrev pub asked_of : Setting → Node → Option Fault → AccBody → Record → Option NoteBody
asked_of s n None a r = Some (answering_note s n.stored a)
asked_of s n (Some fault) a r = if is_told s n fault a r then Some (returning_note s n.stored) else None

-- The note that a delivered record asks of the node, as far as its epoch may rise.
abbrev pub asked_with : Setting → Node → Option Fault → Body → Record → Option NoteBody
asked_with s n fault (Certificate c) r = None
asked_with s n fault (Note note) r = None
asked_with s n fault (Accusation a) r = if a.accused == s.me && may_rise s.heal n then asked_of s n fault a r else None

-- A note that is asked of the node is wanted, to go to each of its neighbours.
abbrev pub gives_note : Bool → Setting → Option NoteBody → Call → Call
gives_note works s None c = c
gives_note works s (Some note) c = wants works s (Note note) (neighbours s) c

-- What becomes of the record itself: it is refused, or accepted.
abbrev pub settles : Setting → Option Fault → Record → Call → Call
settles s (Some fault) r c = tells s (told.Took r.body (Some fault)) c
settles s None r c = takes s r (tells s (told.Took r.body None) c)

abbrev pub judged : Bool → Setting → Option Fault → Record → Call → Call
judged works s fault r c = gives_note works s (asked_with s c.node fault r.body r) (settles s fault r c)

-- One delivered record: it is refused for its first fault, or accepted, and may ask a note of the node.
unfoldable pub handles : Bool → Setting → Call → Record → Call
handles works s c r = judged works s (refusal s c.node r) r c

abbrev pub handles_all : Setting → List Record → Call → Call
handles_all s records c = fold (handles true s) c records

-- ---- probes and summaries

-- A certified member other than the node itself.
abbrev pub is_other : Setting → Node → ℕ → Bool
is_other s n m = is_certified n m && not (m == s.me)

abbrev pub pinged : Setting → ℕ → ℕ → Call → Call
pinged s from nonce c =
    let c1 = tells s (told.Ping from nonce) c in
    if is_other s c.node from then sends s (kinds.Pong s.me nonce) c1 from else c1

-- A pong counts where a kept ping to its sender has its nonce.
abbrev pub ponged_by : Setting → ℕ → ℕ → Call → Call
ponged_by s from nonce c =
    let c1 = tells s (told.Pong from nonce (counts c.node.probes from nonce)) c in
    record c1 { node = record c1.node { probes = ponged c1.node.probes from nonce } }

-- What the sender lacks, if anything.
abbrev pub gives : Setting → ℕ → List Record → Call → Call
gives s to [] c = c
gives s to (r ∷ records) c = sends s (kinds.Records s.me (r ∷ records)) c to

-- A summary that answers none is answered by the same page.
abbrev pub replies : Setting → ℕ → Bool → ℕ → Call → Call
replies s to true number c = c
replies s to false number c = sends s (kinds.Summary s.me true (page c.node number)) c to

abbrev pub exchanges : Setting → ℕ → Bool → Summary → Call → Call
exchanges s from flag theirs c =
    let c1 = tells s (told.Summary from theirs.page flag) c in
    if is_other s c.node from then replies s from flag theirs.page (gives s from (lacking c.node from theirs) c1) else c1

-- ---- the delivery

abbrev pub hears : Setting → Result Datagram ℕ → Call → Call
hears s (Err place) c = tells s (told.BadForm place) c
hears s (Ok (kinds.Ping from nonce)) c = pinged s from nonce c
hears s (Ok (kinds.Pong from nonce)) c = ponged_by s from nonce c
hears s (Ok (kinds.Summary from flag theirs)) c = exchanges s from flag theirs c
hears s (Ok (kinds.Records from records)) c = handles_all s records c

-- These bytes are delivered, and the disk works.
unfoldable pub delivered : Setting → Node → List ℕ → Call
delivered s n bytes = hears s (read_of bytes) (begun n)
