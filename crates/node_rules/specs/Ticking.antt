-- What a node does at a tick.
use Rattle.std.specs.Prelude.{ℕ, ◌-◌, ◌/◌, ◌%◌, Bool, true, false, ◌==◌, if◌then◌else◌, List, [], ◌∷◌, Option, Some, None, fold, filter, filter_map}
use Rattle.std.specs.List.{list_any, slice_get, range_with_len}
use Rattle.std.specs.Option.{option_and_then}
use Rattle.ff_ids.specs.declared.NoteBody.{NoteBody}
use Rattle.ff_ids.specs.declared.AccBody.{AccBody}
use Rattle.ff_ids.specs.Notes.{newest}
use Rattle.ff_ids.specs.Masks.{ring_count, enabled}
use Rattle.ff_ids.specs.Views.{State, monitor, is_number}
use Rattle.ff_ids.specs.Steps.{Ticks}
use Rattle.membership.specs.Reports.{kept_against}
use Rattle.records.specs.declared.Body.{Body}
use Rattle.records.specs.declared.Body.TheVariants.{Accusation}
use Rattle.records.specs.declared.Record.{Record}
use Rattle.datagram.specs.declared.Datagram.TheVariants as kinds
use Rattle.journal.specs.declared.event.What.TheVariants as told
use Rattle.detector.specs.declared.watch.Watched.{Watched}
use Rattle.detector.specs.Watching.{watched, newest_epoch}
use Rattle.detector.specs.Silence.{silent, pings, ticked as probed}
use Rattle.node_rules.specs.Nodes.{Setting, Node, state_of, neighbours, neighbours_and}
use Rattle.node_rules.specs.Pages.{page, partner, page_number, room, fitting}
use Rattle.node_rules.specs.Calls.{Call, begun, tells, lives, wants, sends, sends_to_all}

-- ---- accusations

-- The rings on which the node is the member's monitor, of those that its newest note enables.
abbrev pub monitored_rings : Setting → State → ℕ → NoteBody → List ℕ
monitored_rings s st m note = filter (λ ring. is_number (monitor st ring m) s.me) (enabled (ring_count s.group.t) note.mask.0)

-- The lowest of them.
abbrev pub ring_for : Setting → State → ℕ → Option ℕ
ring_for s st m = option_and_then (λ note. slice_get (monitored_rings s st m note) 0) (newest st.notes m)

abbrev pub accusation_on : Setting → State → ℕ → ℕ → Body
accusation_on s st m ring = Accusation (record { accuser = s.me; accused = m; epoch = newest_epoch st m; ring = record { 0 = ring } })

-- It is an accusation by this one.
abbrev pub is_by : ℕ → Option AccBody → Bool
is_by me None = false
is_by me (Some a) = a.accuser == me

-- An accusation by the node against the member is kept, on one of the rings.
abbrev pub has_accused : Setting → State → ℕ → Bool
has_accused s st m = list_any (λ ring. is_by s.me (kept_against st.kept m ring)) (range_with_len 0 (ring_count s.group.t))

-- A signature over the accusation is wanted, to go to the neighbours and to the member.
abbrev pub wants_accusation : Bool → Setting → ℕ → Option ℕ → Call → Call
wants_accusation works s m None c = c
wants_accusation works s m (Some ring) c = wants works s (accusation_on s (state_of s c.node) m ring) (neighbours_and s m) c

-- A silent member is accused, unless an accusation by the node against it is kept.
unfoldable pub accuses : Bool → Setting → Call → ℕ → Call
accuses works s c m =
    if has_accused s (state_of s c.node) m then c
    else wants_accusation works s m (ring_for s (state_of s c.node) m) (tells s (told.Silent m) c)

abbrev pub accuses_all : Setting → List ℕ → Call → Call
accuses_all s silent c = fold (accuses true s) c silent

-- ---- news

-- What is new and still held, in the order in which it was accepted, as much as fits in one datagram.
unfoldable pub fresh : Node → List Record
fresh n = fitting room (filter_map n.held n.news)

abbrev pub spreads_all : Setting → List Record → Call → Call
spreads_all s [] c = c
spreads_all s (r ∷ records) c = sends_to_all s (neighbours s (state_of s c.node)) (kinds.Records s.me (r ∷ records)) c

-- It goes to each of the neighbours, and is news no more.
unfoldable pub spreads : Setting → Call → Call
spreads s c = let c1 = spreads_all s (fresh c.node) c in record c1 { node = record c1.node { news = [] } }

-- ---- pings and the summary

abbrev pub is_due : Setting → State → Bool
is_due s st = st.moment % s.group.period == 0

abbrev pub watched_by : Setting → State → List Watched
watched_by s st = watched s.group.t st s.me

-- The members that are silent at this tick, after these earlier ones.
abbrev pub silent_in : Setting → Node → State → List ℕ
silent_in s n st = if is_due s st then silent n.probes (watched_by s st) else []

-- The pings of this tick: each to a member, with its nonce.
abbrev pub pings_in : Setting → Node → State → List (ℕ × ℕ)
pings_in s n st = pings n.probes (is_due s st) (watched_by s st)

-- A span of one timeout begins: how far the node's epoch may rise in it counts from its present one.
abbrev pub begins_span : Setting → State → Bool
begins_span s st = st.moment % s.group.timeout == 0

-- The probes of the life see this tick, and a span may begin at it.
abbrev pub probes_after : Setting → Node → State → Node
probes_after s n st =
    record n {
      probes = probed n.probes (is_due s st) (watched_by s st);
      since = if begins_span s st then n.stored.epoch else n.since;
    }

abbrev pub pings_all : Setting → List (ℕ × ℕ) → Call → Call
pings_all s sent c = fold (λ c p. sends s (kinds.Ping s.me p.1) c p.0) c sent

abbrev pub summary_to : Setting → ℕ → Option ℕ → Call → Call
summary_to s round None c = c
summary_to s round (Some to) c = sends s (kinds.Summary s.me false (page c.node (page_number s c.node round))) c to

-- One summary, to the partner of the round.
abbrev pub gossips : Setting → ℕ → Call → Call
gossips s round c = summary_to s round (partner s c.node round) c

-- The round of a due tick.
abbrev pub round_of : Setting → State → ℕ
round_of s st = st.moment / s.group.period - 1

-- ---- the tick

-- The tick of the life itself.
unfoldable pub passed : Setting → Node → Call
passed s n = lives s Ticks (begun n)

-- The same, and the probes have seen it.
unfoldable pub probed_at : Setting → Node → Call
probed_at s n =
    let c = passed s n in
    record c { node = probes_after s c.node (state_of s c.node) }

-- What stands before the first accusation of a due tick.
unfoldable pub spread_at : Setting → Node → Call
spread_at s n = spreads s (probed_at s n)

-- A tick that is due: the news, then the accusations, then the pings, then the summary.
unfoldable pub due_tick : Setting → List ℕ → List (ℕ × ℕ) → ℕ → Call → Call
due_tick s accused sent round c = gossips s round (pings_all s sent (accuses_all s accused (spreads s c)))

-- A tick, where the disk works.
unfoldable pub ticked : Setting → Node → Call
ticked s n =
    let p = (passed s n).node in
    let st = state_of s p in
    if is_due s st then due_tick s (silent_in s p st) (pings_in s p st) (round_of s st) (probed_at s n) else probed_at s n

-- The members that are silent at the tick.
unfoldable pub silent_at : Setting → Node → List ℕ
silent_at s n = let p = (passed s n).node in silent_in s p (state_of s p)
