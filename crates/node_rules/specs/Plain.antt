-- What a node is that isn't to come together again with others: the rules are those that hold without the option.
use Rattle.std.specs.Prelude.{◌≡◌, ℕ, ◌==◌, if◌then◌else◌, List, [], Option, Some, None, filter_map}
use Rattle.ff_ids.specs.declared.NoteBody.{NoteBody}
use Rattle.ff_ids.specs.declared.Fault.{Fault}
use Rattle.ff_ids.specs.declared.summary.RecordKey.TheVariants as keys
use Rattle.ff_ids.specs.declared.summary.Summary.{Summary}
use Rattle.ff_ids.specs.Masks.{ring_count}
use Rattle.records.specs.declared.Body.{Body}
use Rattle.records.specs.declared.Body.TheVariants.{Accusation}
use Rattle.records.specs.declared.Record.{Record}
use Rattle.epoch_store.specs.declared.Stored.{Stored}
use Rattle.gossip.specs.Differ.{differ}
use Rattle.gossip.specs.Partners as gossip
use Rattle.node_rules.specs.Nodes.{Setting, Node, state_of, certified}
use Rattle.node_rules.specs.Pages.{page, partner, page_number, highest, room, fitting, lacking}
use Rattle.node_rules.specs.Deliveries.{answering_note, asked_with}
use Rattle.node_rules.specs.Ticking.{fresh}
use Rattle.node_rules.specs.Lives.{Input, life_of}

-- An accepted accusation against the node asks its answer, and no other record asks a note.
abbrev pub answer_asked : Setting → Node → Option Fault → Body → Option NoteBody
answer_asked s n None (Accusation a) = if a.accused == s.me then Some (answering_note s n.stored a) else None
answer_asked s n fault b = None

-- Nothing is news, and so none goes out, and nothing is held as that by which a member was removed; a note is asked as an
-- answer alone; the partner and the page of a round are those of the plain rules; and a summary is answered by what differs.
pub record IsPlain (s : Setting) (n : Node) : Type 0 where
  pub no_news : n.news ≡ []
  pub none_fresh : fresh n ≡ []
  pub no_removals : (m : ℕ) → n.held (keys.Removal m) ≡ None
  pub asked : (fault : Option Fault) (b : Body) (r : Record) → asked_with s n fault b r ≡ answer_asked s n fault b
  pub partner_so : (round : ℕ) → partner s n round ≡ gossip.partner s.group.t (state_of s n) (certified n) s.me round
  pub page_so : (round : ℕ) → page_number s n round ≡ gossip.page_of round (ring_count s.group.t) (highest n)
  pub lacking_so : (from : ℕ) (theirs : Summary) → lacking n from theirs ≡ fitting room (filter_map n.held (differ (page n theirs.page).listed theirs.listed))

-- In every life without the option.
abbrev pub LivesArePlain : Type 0
LivesArePlain = (s : Setting) (nonces : ℕ → ℕ) (certificates : List Record) (stored : Stored) (inputs : List Input) → s.heal ≡ None
    → IsPlain s (life_of s nonces certificates stored inputs)
