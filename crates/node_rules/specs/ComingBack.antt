-- How a member that was removed comes back: it is told as it asks, and signs its next note, which brings it into the view.
use Rattle.std.specs.Prelude.{◌≡◌, ℕ, ◌+◌, ◌<◌, ◌==◌, true, false, List, [], ◌∷◌, ◌++◌, Some, None, is_some, filter_map}
use Rattle.ff_ids.specs.declared.AccBody.{AccBody}
use Rattle.ff_ids.specs.declared.NoteBody.{NoteBody}
use Rattle.ff_ids.specs.declared.summary.RecordKey.TheVariants as keys
use Rattle.ff_ids.specs.declared.summary.Summary.{Summary}
use Rattle.ff_ids.specs.Masks.{ring_count, enables}
use Rattle.ff_ids.specs.Notes.{is_leaving, newest}
use Rattle.ff_ids.specs.Views.{in_view}
use Rattle.ff_ids.specs.Faults.{is_kept}
use Rattle.records.specs.declared.Body.TheVariants.{Note, Accusation}
use Rattle.records.specs.declared.Record.{Record}
use Rattle.datagram.specs.declared.Datagram.TheVariants as kinds
use Rattle.datagram.specs.Spelling.{IsDatagram}
use Rattle.gossip.specs.Differ.{differ}
use Rattle.node_rules.specs.Nodes.{Setting, Node, state_of, neighbours}
use Rattle.node_rules.specs.Pages.{page}
use Rattle.node_rules.specs.Refusals.{refusal}
use Rattle.node_rules.specs.Calls.{Call, is_used_up, own_record}
use Rattle.node_rules.specs.Deliveries.{may_rise, verifies_for, delivered}
use Rattle.node_rules.specs.Answering.{to_each}
use Rattle.node_rules.specs.Lives.{Input, Delivers}
use Rattle.node_rules.specs.OneExchange.{Life, node_after, notes_after, IsCorrect, all_lacking}

-- Of all that a member lacks by its summary that by which it was removed is the last.
abbrev pub WhoIsRemovedIsTold : Type 0
WhoIsRemovedIsTold = (n : Node) (m : ℕ) (theirs : Summary) (r : Record) → n.held (keys.Removal m) ≡ Some r
    → all_lacking n m theirs ≡ filter_map n.held (differ (page n theirs.page).listed theirs.listed) ++ r ∷ []

-- The record says of a node with the option, at its newest epoch, on a ring of the group that its mask enables, and under
-- the key of another member, that it is silent. The node doesn't keep that accusation, its epoch may rise, and its
-- key has an index.
pub record IsTold (s : Setting) (n : Node) (r : Record) (a : AccBody) : Type 0 where
  pub option : is_some s.heal ≡ true
  pub says : r.body ≡ Accusation a
  pub of_node : a.accused ≡ s.me
  pub epoch : a.epoch ≡ n.stored.epoch
  pub on_ring : a.ring.0 < ring_count s.group.t
  pub enabled : enables n.stored.mask.0 a.ring.0 ≡ true
  pub by_other : (a.accuser == s.me) ≡ false
  pub verifies : verifies_for s n a.accuser r ≡ true
  pub not_kept : is_kept (state_of s n) a ≡ false
  pub may : may_rise s.heal n ≡ true
  pub left : is_used_up s n ≡ false

-- The node's newest note is then one of the next epoch. It goes to each of the node's neighbours, and nothing else goes out.
pub record ComesBack (s : Setting) (n : Node) (c : Call) : Type 0 where
  pub note : NoteBody
  pub next : note.epoch ≡ n.stored.epoch + 1
  pub is_newest : newest (state_of s c.node).notes s.me ≡ Some note
  pub sent : c.sent ≡ to_each (neighbours s (state_of s c.node)) (kinds.Records s.me (own_record s n (Note note) ∷ []))

-- So it does whether it finds the accuser to be its monitor in its view or not, and whether it is in that view itself.
abbrev pub WhoIsToldComesBack : Type 0
WhoIsToldComesBack = (l : Life) (inputs : List Input) (from : ℕ) (r : Record) (a : AccBody) (bytes : List ℕ) → IsCorrect l
    → IsDatagram bytes (kinds.Records from (r ∷ [])) → IsTold l.setting (node_after l inputs) r a
    → ComesBack l.setting (node_after l inputs) (delivered l.setting (node_after l inputs) bytes)

-- The record is a note by which its member doesn't leave, of a greater epoch than its newest, and the node accepts it.
pub record IsNext (l : Life) (inputs : List Input) (r : Record) (note : NoteBody) : Type 0 where
  pub says : r.body ≡ Note note
  pub accepted : refusal l.setting (node_after l inputs) r ≡ None
  pub stays : is_leaving note ≡ false
  pub kept : NoteBody
  pub was_newest : newest (notes_after l inputs) note.member ≡ Some kept
  pub greater : kept.epoch < note.epoch

-- Its member is in the view then, and no removal of it is held any more.
pub record HasBack (s : Setting) (n : Node) (m : ℕ) : Type 0 where
  pub viewed : in_view (state_of s n) m ≡ true
  pub ended : n.held (keys.Removal m) ≡ None

abbrev pub NextNotesBringBack : Type 0
NextNotesBringBack = (l : Life) (inputs : List Input) (from : ℕ) (r : Record) (note : NoteBody) (bytes : List ℕ) → IsCorrect l
    → IsDatagram bytes (kinds.Records from (r ∷ [])) → IsNext l inputs r note
    → HasBack l.setting (node_after l (inputs ++ Delivers bytes ∷ [])) note.member
