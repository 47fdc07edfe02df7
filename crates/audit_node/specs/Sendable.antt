-- What is owed can be read.
use Rattle.std.specs.Prelude.{◌≡◌, ℕ, Bool, true, false, List, map, Some, Ok}
use Rattle.std.specs.List.{AllByRecursion}
use Rattle.records.specs.declared.Record.{Record}
use Rattle.datagram.specs.declared.Datagram.{Datagram}
use Rattle.datagram.specs.declared.Datagram.TheVariants as kinds
use Rattle.datagram.specs.Spelling.{datagram_bytes, IsDatagram}
use Rattle.datagram.specs.Grammar.{read_of}
use Rattle.journal.specs.declared.event.What as whats
use Rattle.journal.specs.declared.event.What.TheVariants as told
use Rattle.node_rules.specs.Nodes.{Setting}
use Rattle.node_rules.specs.Claims.{signer_of}
use Rattle.node_rules.specs.OtherNonces.{is_ping_sent}
use Rattle.audit_node.specs.declared.owing.Item.{Item}
use Rattle.audit_node.specs.declared.owing.Item.TheVariants as parts
use Rattle.audit_node.specs.declared.owing.Owed.{Owed}
use Rattle.audit_node.specs.declared.owing.Owed.TheVariants as owings
use Rattle.audit_node.specs.declared.owing.OwedEvent.{OwedEvent}
use Rattle.audit_node.specs.Owing.{item_of}

-- An own record is one by the node.
abbrev pub IsOwnItem : ℕ → Item → Type 0
IsOwnItem me (parts.Came rec) = Unit {0}
IsOwnItem me (parts.Own index body) = signer_of body ≡ Some me

-- Records are a datagram's, and no other datagram has records.
abbrev pub IsPlain : whats.What → Type 0
IsPlain (told.Sent number to bytes) = (from : ℕ) (records : List Record) → read_of bytes ≡ Ok (kinds.Records from records) → ⊥
IsPlain other = Unit {0}

pub record AreSendable (s : Setting) (items : List Item) : Type 0 where
  pub own : AllByRecursion (IsOwnItem s.me) items
  pub fit : IsDatagram (datagram_bytes (kinds.Records s.me (map (item_of s) items))) (kinds.Records s.me (map (item_of s) items))

abbrev pub SoundAs : Setting → Owed → Type 0
SoundAs s (owings.What what) = IsPlain what
SoundAs s (owings.Ping number to drawn) = Unit {0}
SoundAs s (owings.Records number to items) = AreSendable s items.items

abbrev pub IsSound : Setting → OwedEvent → Type 0
IsSound s o = SoundAs s o.owed

-- ---- pings

-- No ping is owed as something else.
abbrev pub IsNamed : Owed → Type 0
IsNamed (owings.What what) = is_ping_sent what ≡ false
IsNamed (owings.Ping number to drawn) = Unit {0}
IsNamed (owings.Records number to items) = Unit {0}

pub record IsFair (s : Setting) (owed : Owed) : Type 0 where
  pub sound : SoundAs s owed
  pub named : IsNamed owed

abbrev pub AreFair : Setting → List OwedEvent → Type 0
AreFair s owed = AllByRecursion (λ (o : OwedEvent). IsFair s o.owed) owed

-- Neither a ping nor records.
abbrev pub is_bare : Datagram → Bool
is_bare (kinds.Ping from nonce) = false
is_bare (kinds.Pong from nonce) = true
is_bare (kinds.Summary from flag s) = true
is_bare (kinds.Records from records) = false
