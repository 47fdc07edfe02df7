-- A call of a node so far: what the node has come to, the events that the call has reported, and the datagrams that it has
-- sent. Each small step of a call adds to these.
use Rattle.std.specs.Prelude.{ℕ, Bool, true, false, ◌==◌, if◌then◌else◌, List, [], ◌∷◌, ◌++◌, length, fold, map}
use Rattle.ff_ids.specs.Views.{State}
use Rattle.ff_ids.specs.Steps.{Event, Report, step}
use Rattle.records.specs.declared.Body.{Body}
use Rattle.records.specs.declared.Record.{Record}
use Rattle.signer.specs.Signing.{stored_after}
use Rattle.datagram.specs.declared.Datagram.{Datagram}
use Rattle.datagram.specs.declared.Datagram.TheVariants as kinds
use Rattle.datagram.specs.Spelling.{datagram_bytes}
use Rattle.journal.specs.declared.event.Event as journal
use Rattle.journal.specs.declared.event.What as whats
use Rattle.journal.specs.declared.event.What.TheVariants as told
use Rattle.node_rules.specs.Nodes.{Setting, Node, state_of, event_of, with_record, without_ended, retires, without_removal, with_news}

-- A call so far: the node, the events, the datagrams, and whether the disk failed in it.
pub record Call : Type 0 where
  pub node : Node
  pub told : List journal.Event
  pub sent : List (ℕ × List ℕ)
  pub ended : Bool

abbrev pub begun : Node → Call
begun n = record { node = n; told = []; sent = []; ended = false }

-- ---- what is reported

abbrev pub tells : Setting → whats.What → Call → Call
tells s what c = record c { told = c.told ++ record { moment = (state_of s c.node).moment; what = what } ∷ [] }

-- The events of a report, in order: what expired, who was removed, who entered, what fell.
abbrev pub whats_of : Report → List whats.What
whats_of r = map told.Expired r.expired ++ map told.Removed r.removed ++ map told.Entered r.entered ++ map told.Fell r.fell

abbrev pub told_of : ℕ → Report → List journal.Event
told_of moment r = map (λ what. record { moment = moment; what = what }) (whats_of r)

-- One event of the life, which is reported with its report. What it ends is held no more, but for what removed a member.
unfoldable pub lives : Setting → Event → Call → Call
lives s e c =
    let stepped = step s.group (state_of s c.node) e in
    record {
      node = record c.node { lived = c.node.lived ++ e ∷ []; held = without_ended stepped.report (retires s.heal stepped.report c.node.held) };
      told = c.told ++ told_of stepped.state.moment stepped.report;
      sent = c.sent;
      ended = c.ended;
    }

-- ---- what is sent

-- A datagram has its place among those of the call.
abbrev pub sends_bytes : Setting → List ℕ → Call → ℕ → Call
sends_bytes s bytes c to =
    let c1 = tells s (told.Sent (length c.sent) to bytes) c in
    record c1 { sent = c1.sent ++ (to, bytes) ∷ [] }

-- A datagram is sent to a member, and reported as sent.
unfoldable pub sends : Setting → Datagram → Call → ℕ → Call
sends s d c to = sends_bytes s (datagram_bytes d) c to

-- To each of these, in order.
abbrev pub sends_to_all : Setting → List ℕ → Datagram → Call → Call
sends_to_all s addressees d c = fold (sends s d) c addressees

-- ---- records

-- A record is accepted: it brings its event to the life, and is held. It may be news.
unfoldable pub takes : Setting → Record → Call → Call
takes s r c =
    let c1 = lives s (event_of s r.body) c in
    let held = with_record r (without_removal r.body c1.node.held) in
    record c1 { node = record c1.node { held = held; news = with_news s.heal r.body c1.node.news } }

-- ---- own signatures

abbrev pub is_used_up : Setting → Node → Bool
is_used_up s n = n.stored.next == s.indexes

-- The own record of this body.
abbrev pub own_record : Setting → Node → Body → Record
own_record s n body = record { body = body; signature = s.signature n.stored.next body }

-- The next index is spent on the body.
abbrev pub spends : Setting → Body → Call → Call
spends s body c =
    let c1 = tells s (told.Spent c.node.stored.next body) c in
    record c1 { node = record c1.node { stored = stored_after c1.node.stored body } }

-- A signature is made: an index is spent, and the record is accepted.
unfoldable pub signs : Setting → Body → Call → Call
signs s body c = takes s (own_record s c.node body) (spends s body c)

-- The disk fails, and the life is over.
abbrev pub stops : Setting → Call → Call
stops s c = record (tells s told.Stopped c) { ended = true }

-- A signature is made, and goes out in one datagram to each of those whom the state afterwards names.
unfoldable pub signs_and_sends : Setting → Body → (State → List ℕ) → Call → Call
signs_and_sends s body addressees c =
    let c1 = signs s body c in
    sends_to_all s (addressees (state_of s c1.node)) (kinds.Records s.me (own_record s c.node body ∷ [])) c1

-- A signature is wanted. Where the key is used up none is made; else it is made, if the disk works.
unfoldable pub wants : Bool → Setting → Body → (State → List ℕ) → Call → Call
wants works s body addressees c =
    if is_used_up s c.node then tells s (told.Exhausted c.node.stored.next) c
    else (if works then signs_and_sends s body addressees c else stops s c)
