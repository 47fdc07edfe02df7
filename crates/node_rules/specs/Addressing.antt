-- To whom a node's datagrams go.
use Rattle.std.specs.Prelude.{◌≡◌, ℕ, ◌<◌, true, List, Option, Some}
use Rattle.std.specs.List.{AllByRecursion}
use Rattle.records.specs.declared.CertBody.{CertBody}
use Rattle.records.specs.declared.Record.{Record}
use Rattle.epoch_store.specs.declared.Stored.{Stored}
use Rattle.node_rules.specs.Nodes.{Setting, Node, certificate_of}
use Rattle.node_rules.specs.Calls.{Call}
use Rattle.node_rules.specs.Deliveries.{is_other}
use Rattle.node_rules.specs.OnDisks.{called}
use Rattle.node_rules.specs.Lives.{Input, call_of, life_of}
use Rattle.node_rules.specs.OneExchange.{Life, node_after, IsCorrect, IsWithinRanges, IsOfBytes}

-- Each datagram of the call goes to another member, whose certificate the node holds.
abbrev pub AddressesOthers : Setting → Call → Type 0
AddressesOthers s c = AllByRecursion (λ d. is_other s c.node d.0 ≡ true) c.sent

-- In every life each datagram goes to another member, whose certificate the node holds, whichever put fails.
abbrev pub OnlyCertifiedAreAddressed : Type 0
OnlyCertifiedAreAddressed = (s : Setting) (nonces : ℕ → ℕ) (certificates : List Record) (stored : Stored) (inputs : List Input) (i : Input) (fails_at : Option ℕ)
    → AddressesOthers s (called s (life_of s nonces certificates stored inputs) i fails_at)

-- The node holds a certificate of the member, with a port.
pub record HasPort (n : Node) (m : ℕ) : Type 0 where
  pub certificate : CertBody
  pub held : certificate_of n m ≡ Some certificate
  pub port : 0 < certificate.port

-- The certificate of each to whom a correct node's datagram goes has a port.
abbrev pub AddresseesHavePorts : Type 0
AddresseesHavePorts = (l : Life) (inputs : List Input) (i : Input) → IsCorrect l → IsWithinRanges l → AllByRecursion IsOfBytes inputs → IsOfBytes i
    → AllByRecursion (λ d. HasPort (call_of l.setting (node_after l inputs) i).node d.0) (call_of l.setting (node_after l inputs) i).sent
