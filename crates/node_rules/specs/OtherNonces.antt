-- A source of nonces gives a node the nonces of its pings, and nothing else. So who runs a node with a source of its own follows
-- another, whose nonces it learns from what that reports, ping by ping.
use Rattle.std.specs.Prelude.{◌≡◌, ◌⊎◌, ℕ, ◌+◌, ◌^◌, ◌<◌, Bool, true, false, ◌==◌, if◌then◌else◌, List, [], ◌∷◌, ◌++◌, length, drop, get_or, map, unwrap_or}
use Rattle.std.specs.List.{slice_get}
use Rattle.records.specs.declared.Record.{Record}
use Rattle.epoch_store.specs.declared.Stored.{Stored}
use Rattle.datagram.specs.declared.Datagram.{Datagram}
use Rattle.datagram.specs.declared.Datagram.TheVariants as kinds
use Rattle.datagram.specs.Spelling.{datagram_bytes}
use Rattle.detector.specs.Silence.{History, Happening, Ticked, Ponged, AreTo, sent_in, ticked_with}
use Rattle.journal.specs.declared.event.Event as journal
use Rattle.journal.specs.declared.event.What as whats
use Rattle.journal.specs.declared.event.What.TheVariants as told
use Rattle.node_rules.specs.Nodes.{Setting, Node, state_of}
use Rattle.node_rules.specs.Calls.{Call}
use Rattle.node_rules.specs.Deliveries.{delivered}
use Rattle.node_rules.specs.Ticking.{is_due, watched_by, silent_in, pings_in, round_of, probed_at, due_tick, ticked}
use Rattle.node_rules.specs.Leaving.{left}
use Rattle.node_rules.specs.Starting.{started}
use Rattle.node_rules.specs.Lives.{Input, Delivers, Ticks, Leaves, call_of, life_of}
use Rattle.node_rules.specs.Verdicts.{all_at, told_that}
use Rattle.node_rules.specs.Sending.{sendings}
use Rattle.node_rules.specs.Outgoing.{at_tick, to_accuse, accusations_out, news_out, pings_out}

-- ---- another source

-- The node whose further pings have their nonces from this source.
abbrev pub with_source : (ℕ → ℕ) → Node → Node
with_source source n = record n { probes = record n.probes { nonces = source } }

-- The call of such a node.
abbrev pub call_with_source : (ℕ → ℕ) → Call → Call
call_with_source source c = record c { node = with_source source c.node }

-- A start takes nothing of the source.
abbrev pub StartsOverlookSources : Type 0
StartsOverlookSources = (s : Setting) (source other : ℕ → ℕ) (certificates : List Record) (stored : Stored)
    → started s source certificates stored ≡ call_with_source source (started s other certificates stored)

-- A delivery takes nothing of it.
abbrev pub DeliveriesOverlookSources : Type 0
DeliveriesOverlookSources = (s : Setting) (n : Node) (source : ℕ → ℕ) (bytes : List ℕ)
    → delivered s (with_source source n) bytes ≡ call_with_source source (delivered s n bytes)

-- Nor does a node that leaves.
abbrev pub LeavingOverlooksSources : Type 0
LeavingOverlooksSources = (s : Setting) (n : Node) (source : ℕ → ℕ) → left s (with_source source n) ≡ call_with_source source (left s n)

-- ---- a tick with given pings

-- The pings of the tick, each to a member, with the next nonces of the source; none where it isn't due.
unfoldable pub drawn : Setting → Node → List (ℕ × ℕ)
drawn s n = pings_in s (at_tick s n) (state_of s (at_tick s n))

-- The probes behind the tick with these pings.
abbrev pub probes_with : Setting → Node → List (ℕ × ℕ) → History
probes_with s n sent = ticked_with n.probes (watched_by s (state_of s (at_tick s n))) sent

unfoldable pub probed_with : Setting → Node → List (ℕ × ℕ) → Call
probed_with s n sent = let c = probed_at s n in record c { node = record c.node { probes = probes_with s n sent } }

-- The tick with these pings in place of those that are drawn.
unfoldable pub ticked_sending : Setting → Node → List (ℕ × ℕ) → Call
ticked_sending s n sent =
    let p = at_tick s n in
    let st = state_of s p in
    if is_due s st then due_tick s (silent_in s p st) sent (round_of s st) (probed_with s n sent) else probed_with s n sent

-- The source gives these pings their nonces, the k-th to the first.
abbrev pub Gives : (ℕ → ℕ) → ℕ → List (ℕ × ℕ) → Type 0
Gives source k [] = Unit {0}
Gives source k (p ∷ sent) = (source k ≡ p.1) × Gives source (k + 1) sent

-- A tick with given pings takes nothing of the source.
abbrev pub TicksOverlookSources : Type 0
TicksOverlookSources = (s : Setting) (n : Node) (source : ℕ → ℕ) (sent : List (ℕ × ℕ))
    → ticked_sending s (with_source source n) sent ≡ call_with_source source (ticked_sending s n sent)

-- A tick is that with the pings that are drawn: one to each of the watched where it is due, and none at another. The source gives
-- these their nonces, the next to the first.
pub record DrawsPings (s : Setting) (n : Node) : Type 0 where
  pub is : ticked s n ≡ ticked_sending s n (drawn s n)
  pub due : is_due s (state_of s (at_tick s n)) ≡ true → AreTo (watched_by s (state_of s (at_tick s n))) (drawn s n)
  pub never : is_due s (state_of s (at_tick s n)) ≡ false → drawn s n ≡ []
  pub given : Gives n.probes.nonces (sent_in n.probes.happened) (drawn s n)

abbrev pub TicksDrawPings : Type 0
TicksDrawPings = (s : Setting) (n : Node) → DrawsPings s n

-- ---- alike but for nonces

-- The report of a ping by the node.
abbrev pub ping_at : Setting → ℕ → ℕ → ℕ → ℕ → journal.Event
ping_at s moment place to nonce = record { moment = moment; what = told.Sent place to (datagram_bytes (kinds.Ping s.me nonce)) }

-- Both are a ping by the node, at one moment and one place of the call, to one member, with a nonce each.
pub record ArePings (s : Setting) (one other : journal.Event) : Type 0 where
  pub moment : ℕ
  pub place : ℕ
  pub to : ℕ
  pub nonce : ℕ
  pub other_nonce : ℕ
  pub one_so : one ≡ ping_at s moment place to nonce
  pub other_so : other ≡ ping_at s moment place to other_nonce

abbrev pub AlikeButNonces : Setting → journal.Event → journal.Event → Type 0
AlikeButNonces s one other = (one ≡ other) ⊎ ArePings s one other

-- They are as many, and alike each to each.
abbrev pub AllAlike : Setting → List journal.Event → List journal.Event → Type 0
AllAlike s [] [] = Unit {0}
AllAlike s (x ∷ one) (y ∷ other) = AlikeButNonces s x y × AllAlike s one other
AllAlike s one other = ⊥

-- The pings are to the same members, in order.
abbrev pub HaveSameMembers : List (ℕ × ℕ) → List (ℕ × ℕ) → Type 0
HaveSameMembers one other = map (λ p. p.0) one ≡ map (λ p. p.0) other

-- Of a tick with the one pings and with the other: what is told is alike, and the node is the same, but that its probes
-- saw these pings.
pub record DifferInNonces (s : Setting) (n : Node) (one other : List (ℕ × ℕ)) : Type 0 where
  pub told_alike : AllAlike s (ticked_sending s n one).told (ticked_sending s n other).told
  pub node_so : (ticked_sending s n other).node ≡ record (ticked_sending s n one).node { probes = probes_with s n other }

abbrev pub TicksDifferInNonces : Type 0
TicksDifferInNonces = (s : Setting) (n : Node) (one other : List (ℕ × ℕ)) → HaveSameMembers one other → DifferInNonces s n one other

-- These events are what a tick tells with pings to the same members.
pub record AreToldWith (s : Setting) (n : Node) (sent : List (ℕ × ℕ)) (shown : List journal.Event) : Type 0 where
  pub pings : List (ℕ × ℕ)
  pub same_members : HaveSameMembers sent pings
  pub told_so : (ticked_sending s n pings).told ≡ shown

-- Whatever is alike to what a tick tells is told by one with pings to the same members.
abbrev pub ShownNoncesAreSent : Type 0
ShownNoncesAreSent = (s : Setting) (n : Node) (sent : List (ℕ × ℕ)) (shown : List journal.Event) → AllAlike s (ticked_sending s n sent).told shown → AreToldWith s n sent shown

-- ---- which are pings

-- The fourth byte has the kind of a ping.
abbrev pub is_ping : List ℕ → Bool
is_ping bytes = unwrap_or (slice_get bytes 3) 0 == 1

abbrev pub is_ping_sent : whats.What → Bool
is_ping_sent (told.Sent place to bytes) = is_ping bytes
is_ping_sent other = false

abbrev pub is_of_ping : Datagram → Bool
is_of_ping (kinds.Ping from nonce) = true
is_of_ping other = false

-- The bytes of a ping are those of no other datagram.
abbrev pub PingsAreApart : Type 0
PingsAreApart = (d : Datagram) → is_ping (datagram_bytes d) ≡ is_of_ping d

-- They show its nonce.
abbrev pub PingsShowNonces : Type 0
PingsShowNonces = (from nonce other : ℕ) → nonce < 2 ^ 64 → other < 2 ^ 64 → datagram_bytes (kinds.Ping from nonce) ≡ datagram_bytes (kinds.Ping from other) → nonce ≡ other

-- The sending of a ping with this nonce.
abbrev pub with_nonce_in : Setting → ℕ → whats.What → whats.What
with_nonce_in s nonce (told.Sent place to bytes) = told.Sent place to (datagram_bytes (kinds.Ping s.me nonce))
with_nonce_in s nonce other = other

-- The events, of which those of pings have these nonces, one after the other.
abbrev pub renonced : Setting → List journal.Event → List ℕ → List journal.Event
renonced s [] nonces = []
renonced s (e ∷ told) nonces =
    if is_ping_sent e.what then record e { what = with_nonce_in s (get_or nonces 0 0) e.what } ∷ renonced s told (drop 1 nonces) else e ∷ renonced s told nonces

-- A tick with other pings to the same members tells the same with their nonces.
abbrev pub OtherNoncesAreTold : Type 0
OtherNoncesAreTold = (s : Setting) (n : Node) (sent other : List (ℕ × ℕ)) → HaveSameMembers sent other
    → (ticked_sending s n other).told ≡ renonced s (ticked_sending s n sent).told (map (λ p. p.1) other)

-- How many datagrams go out before the pings of the tick: the news and the accusations.
abbrev pub before_pings : Setting → Node → ℕ
before_pings s n = let p = at_tick s n in let st = state_of s p in length (news_out s st p ++ accusations_out s st p.stored.next (to_accuse s p st))

-- The pings that a due tick tells of are those that it is to send, in order, and any other tick tells of none.
abbrev pub PingsAreTold : Type 0
PingsAreTold = (s : Setting) (n : Node) (sent : List (ℕ × ℕ)) → let st = state_of s (at_tick s n) in
    told_that is_ping_sent (ticked_sending s n sent) ≡ (if is_due s st then all_at st.moment (sendings (before_pings s n) (pings_out s sent)) else [])

-- ---- lives whose nonces are learned

-- The source gives all pings of a life their nonces.
abbrev pub GivesAll : (ℕ → ℕ) → List Happening → Type 0
GivesAll source [] = Unit {0}
GivesAll source (Ponged sender nonce ∷ before) = GivesAll source before
GivesAll source (Ticked watched sent ∷ before) = Gives source (sent_in before) sent × GivesAll source before

-- The source of a life does.
abbrev pub LivesGiveAll : Type 0
LivesGiveAll = (s : Setting) (source : ℕ → ℕ) (certificates : List Record) (stored : Stored) (inputs : List Input) → GivesAll source (life_of s source certificates stored inputs).probes.happened

-- For any pings there is a source that does.
abbrev pub EachHasASource : Type 0
EachHasASource = (happened : List Happening) → (source : ℕ → ℕ) × GivesAll source happened

-- Each source that gives the pings of this node theirs brings the life to this node, but for the source.
abbrev pub ComesToNode : Setting → List Record → Stored → List Input → Node → Type 0
ComesToNode s certificates stored inputs n = (source : ℕ → ℕ) → GivesAll source n.probes.happened → life_of s source certificates stored inputs ≡ with_source source n

-- The next call of each life that comes to the node is this one, but for the source.
pub record GoesOnWith (s : Setting) (certificates : List Record) (stored : Stored) (inputs : List Input) (i : Input) (c : Call) : Type 0 where
  pub call_so : (source : ℕ → ℕ) → GivesAll source c.node.probes.happened → call_of s (life_of s source certificates stored inputs) i ≡ call_with_source source c
  pub node_so : ComesToNode s certificates stored (inputs ++ i ∷ []) c.node

-- Where a life begins, it comes to a node that begins with whatever source.
abbrev pub LearnedLivesBegin : Type 0
LearnedLivesBegin = (s : Setting) (source : ℕ → ℕ) (certificates : List Record) (stored : Stored) → ComesToNode s certificates stored [] (started s source certificates stored).node

-- A delivery and a leaving are those of the node, and a tick is its tick with the pings of the life in place of those that it drew.
pub record CallsAreLearned (s : Setting) (certificates : List Record) (stored : Stored) (inputs : List Input) (n : Node) : Type 0 where
  pub delivery : (bytes : List ℕ) → GoesOnWith s certificates stored inputs (Delivers bytes) (delivered s n bytes)
  pub leaving : GoesOnWith s certificates stored inputs Leaves (left s n)
  pub tick : (sent : List (ℕ × ℕ)) → HaveSameMembers (drawn s n) sent → GoesOnWith s certificates stored inputs Ticks (ticked_sending s n sent)

-- So a life is followed call by call.
abbrev pub LearnedLivesGoOn : Type 0
LearnedLivesGoOn = (s : Setting) (certificates : List Record) (stored : Stored) (inputs : List Input) (n : Node) → ComesToNode s certificates stored inputs n → CallsAreLearned s certificates stored inputs n
