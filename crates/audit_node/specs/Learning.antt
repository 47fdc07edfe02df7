-- What a call owes, where the nonces of its pings are learned behind it.
use Rattle.std.specs.Prelude.{◌≡◌, ℕ, ◌+◌, true, List, [], ◌∷◌, ◌++◌, length, map}
use Rattle.std.specs.List.{AllByRecursion}
use Rattle.datagram.specs.declared.Datagram.TheVariants as kinds
use Rattle.datagram.specs.Spelling.{datagram_bytes}
use Rattle.detector.specs.Silence.{Happening, Ticked, Ponged, is_pinged, sent_in, with_nonce}
use Rattle.journal.specs.declared.event.Event as journal
use Rattle.journal.specs.declared.event.What as whats
use Rattle.journal.specs.declared.event.What.TheVariants as told
use Rattle.node_rules.specs.Nodes.{Setting, Node}
use Rattle.node_rules.specs.Calls.{Call}
use Rattle.audit_node.specs.declared.owing.Owed.{Owed}
use Rattle.audit_node.specs.declared.owing.Owed.TheVariants as owings
use Rattle.audit_node.specs.declared.owing.OwedEvent.{OwedEvent}
use Rattle.audit_node.specs.Owing.{item_of}
pub use Rattle.audit_node.specs.Sendable.{IsOwnItem, IsPlain, AreSendable, SoundAs, IsSound}
use Rattle.audit_node.specs.Playing.{Kept, IsMirror}

-- ---- pings with nonces from a source

-- the place of the next nonce behind it
abbrev pub place_behind : ℕ → Owed → ℕ
place_behind place (owings.What what) = place
place_behind place (owings.Ping number to drawn) = place + 1
place_behind place (owings.Records number to items) = place

-- what the node reports, where a ping has this nonce
abbrev pub what_with : Setting → ℕ → Owed → whats.What
what_with s nonce (owings.What what) = what
what_with s nonce (owings.Ping number to drawn) = told.Sent number to (datagram_bytes (kinds.Ping s.me nonce))
what_with s nonce (owings.Records number to items) = told.Sent number to (datagram_bytes (kinds.Records s.me (map (item_of s) items.items)))

-- The events that are owed, whose pings have the nonces of the source from this place on.
abbrev pub owed_from : Setting → (ℕ → ℕ) → ℕ → List OwedEvent → List journal.Event
owed_from s nonces place [] = []
owed_from s nonces place (o ∷ owed) =
    record { moment = o.moment; what = what_with s (nonces place) o.owed } ∷ owed_from s nonces (place_behind place o.owed) owed

-- the ping, if it is one, with this nonce
abbrev pub ping_with : ℕ → Owed → List (ℕ × ℕ)
ping_with nonce (owings.What what) = []
ping_with nonce (owings.Ping number to drawn) = (to, nonce) ∷ []
ping_with nonce (owings.Records number to items) = []

-- the pings among them
abbrev pub pings_from : (ℕ → ℕ) → ℕ → List OwedEvent → List (ℕ × ℕ)
pings_from nonces place [] = []
pings_from nonces place (o ∷ owed) = ping_with (nonces place) o.owed ++ pings_from nonces (place_behind place o.owed) owed

-- ---- pings of the last tick that get other nonces

-- the ping to this member
abbrev pub renonced : ℕ → ℕ → List Happening → List Happening
renonced to nonce [] = []
renonced to nonce (Ponged sender answered ∷ before) = Ponged sender answered ∷ before
renonced to nonce (Ticked watched sent ∷ before) = Ticked watched (with_nonce to nonce sent) ∷ before

-- each of these, in order
abbrev pub renonced_all : List (ℕ × ℕ) → List Happening → List Happening
renonced_all [] happened = happened
renonced_all (p ∷ pings) happened = renonced_all pings (renonced p.0 p.1 happened)

-- the member was pinged at the last tick, which was the last that happened
abbrev pub WasPinged : ℕ → List Happening → Type 0
WasPinged to [] = ⊥
WasPinged to (Ponged sender answered ∷ before) = ⊥
WasPinged to (Ticked watched sent ∷ before) = is_pinged to sent ≡ true

-- ---- between calls

-- What is kept stands for the node, but that pings of which no line has come have the nonces that were drawn in place of those
-- of the node's source, of which this is the place of the first.
pub record IsBehind (s : Setting) (place : ℕ) (v : Kept) (owed : List OwedEvent) (n : Node) : Type 0 where
  pub happened : List Happening
  pub is : IsMirror s v (record n { probes = record n.probes { happened = happened } })
  pub learned : n.probes.happened ≡ renonced_all (pings_from n.probes.nonces place owed) happened
  pub pinged : AllByRecursion (λ p. WasPinged p.0 happened) (pings_from n.probes.nonces place owed)
  pub count : sent_in n.probes.happened ≡ place + length (pings_from n.probes.nonces place owed)

-- A call of this node adds what the node must have reported in it, and the mirror stands where it does.
pub record Gives (s : Setting) (n : Node) (v : Kept) (old new : List OwedEvent) (c : Call) : Type 0 where
  pub added : List OwedEvent
  pub grew : new ≡ old ++ added
  pub owes : owed_from s n.probes.nonces (sent_in n.probes.happened) added ≡ c.told
  pub same_source : c.node.probes.nonces ≡ n.probes.nonces
  pub sound : AllByRecursion (IsSound s) added
  pub stands : IsBehind s (sent_in n.probes.happened) v added c.node
