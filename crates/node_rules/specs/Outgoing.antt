-- What goes out at a tick, and what is reported of its accusations: computed from the state after the tick of the life. And what
-- goes out as a node leaves.
use Rattle.std.specs.Prelude.{◌≡◌, ℕ, ◌+◌, false, not, ◌==◌, if◌then◌else◌, List, [], ◌∷◌, ◌++◌, filter, map, unwrap_or}
use Rattle.std.specs.Option.{option_map_or}
use Rattle.ff_ids.specs.Views.{State}
use Rattle.records.specs.declared.Body.{Body}
use Rattle.records.specs.declared.Record.{Record}
use Rattle.datagram.specs.declared.Datagram.TheVariants as kinds
use Rattle.datagram.specs.Spelling.{datagram_bytes}
use Rattle.journal.specs.declared.event.What as whats
use Rattle.journal.specs.declared.event.What.TheVariants as told
use Rattle.node_rules.specs.Nodes.{Setting, Node, state_of, neighbours, neighbours_and}
use Rattle.node_rules.specs.Pages.{page, partner, page_number}
use Rattle.node_rules.specs.Ticking.{ring_for, accusation_on, has_accused, fresh, is_due, silent_in, pings_in, round_of, passed, ticked}
use Rattle.node_rules.specs.Calls.{is_used_up, own_record}
use Rattle.node_rules.specs.Leaving.{leaving, left}
use Rattle.node_rules.specs.Verdicts.{all_at, told_that, is_apart}
use Rattle.node_rules.specs.Answering.{to_each}

-- The node when the tick has passed in its life, and nothing else has happened at it.
abbrev pub at_tick : Setting → Node → Node
at_tick s n = (passed s n).node

-- ---- accusations

-- Those of them that the node has not accused.
abbrev pub unaccused : Setting → State → List ℕ → List ℕ
unaccused s st members = filter (λ m. not (has_accused s st m)) members

-- Those that are silent and that the node has not accused.
abbrev pub to_accuse : Setting → Node → State → List ℕ
to_accuse s n st = unaccused s st (silent_in s n st)

-- The lowest of the rings for it.
abbrev pub accusation_of : Setting → State → ℕ → Body
accusation_of s st m = accusation_on s st m (unwrap_or (ring_for s st m) 0)

abbrev pub accusation_by : Setting → State → ℕ → ℕ → Record
accusation_by s st index m = record { body = accusation_of s st m; signature = s.signature index (accusation_of s st m) }

-- As long as the key has an index, one accusation of each in order, to the neighbours and to the accused.
abbrev pub accusations_out : Setting → State → ℕ → List ℕ → List (ℕ × List ℕ)
accusations_out s st index [] = []
accusations_out s st index (m ∷ accused) =
    if index == s.indexes then []
    else to_each (neighbours_and s m st) (kinds.Records s.me (accusation_by s st index m ∷ [])) ++ accusations_out s st (index + 1) accused

-- ---- news

-- What is new goes to each of the neighbours in one datagram, if there is any.
abbrev pub news_in : Setting → State → List Record → List (ℕ × List ℕ)
news_in s st [] = []
news_in s st (r ∷ records) = to_each (neighbours s st) (kinds.Records s.me (r ∷ records))

abbrev pub news_out : Setting → State → Node → List (ℕ × List ℕ)
news_out s st n = news_in s st (fresh n)

-- ---- pings and the summary

abbrev pub pings_out : Setting → List (ℕ × ℕ) → List (ℕ × List ℕ)
pings_out s pings = map (λ p. (p.0, datagram_bytes (kinds.Ping s.me p.1))) pings

-- To the partner of the round, if it has one, of the page of the round, as the node is then.
abbrev pub summary_out : Setting → Node → ℕ → List (ℕ × List ℕ)
summary_out s n round = option_map_or (λ to. (to, datagram_bytes (kinds.Summary s.me false (page n (page_number s n round)))) ∷ []) (partner s n round) []

-- What goes out at a tick of this state: nothing where it isn't due, else the news, the accusations, the pings, and the
-- summary.
abbrev pub goes_out : Setting → Node → State → Node → List (ℕ × List ℕ)
goes_out s n st later =
    let accusations = accusations_out s st n.stored.next (to_accuse s n st) in
    let pings = pings_out s (pings_in s n st) in
    if is_due s st then news_out s st n ++ accusations ++ pings ++ summary_out s later (round_of s st) else []

abbrev pub TickSends : Type 0
TickSends = (s : Setting) (n : Node) → (ticked s n).sent ≡ goes_out s (at_tick s n) (state_of s (at_tick s n)) (ticked s n).node

-- ---- what is reported

-- Of each in order that it is silent, and that an index is spent on its accusation, or that the key has none left.
abbrev pub accusing_told : Setting → State → ℕ → List ℕ → List whats.What
accusing_told s st index [] = []
accusing_told s st index (m ∷ accused) =
    told.Silent m ∷ (if index == s.indexes then told.Exhausted index ∷ accusing_told s st index accused
    else told.Spent index (accusation_of s st m) ∷ accusing_told s st (index + 1) accused)

-- This is reported at a tick beside the life and the datagrams, and nothing else.
abbrev pub TickTells : Type 0
TickTells = (s : Setting) (n : Node) → let p = at_tick s n in let st = state_of s p in
    told_that is_apart (ticked s n) ≡ all_at st.moment (accusing_told s st p.stored.next (to_accuse s p st))

-- ---- leaving

-- The note goes to each of the neighbours of the node as it is behind it, where the key has an index for it.
abbrev pub LeavingSends : Type 0
LeavingSends = (s : Setting) (n : Node) → (left s n).sent
    ≡ (if is_used_up s n then []
    else to_each (neighbours s (state_of s (left s n).node)) (kinds.Records s.me (own_record s n (leaving s n.stored) ∷ [])))

-- The next index is spent on it; where the key is used up, that is reported. Beside the life and the datagrams nothing else is.
abbrev pub LeavingTells : Type 0
LeavingTells = (s : Setting) (n : Node) → told_that is_apart (left s n)
    ≡ all_at (state_of s n).moment ((if is_used_up s n then told.Exhausted n.stored.next else told.Spent n.stored.next (leaving s n.stored)) ∷ [])
