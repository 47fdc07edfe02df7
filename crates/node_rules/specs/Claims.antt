-- Of which signatures of the node itself it is claimed that they verify: by the node of all that it makes, and by one who reads
-- its journal of those that a line shows.
use Rattle.std.specs.Prelude.{◌≡◌, ◌⊎◌, ℕ, ◌<◌, Bool, true, false, List, Option, Some, None}
use Rattle.std.specs.List.{AllByRecursion}
use Rattle.records.specs.declared.keys.Key.{Key}
use Rattle.records.specs.declared.Body.{Body}
use Rattle.records.specs.declared.Body.TheVariants.{Certificate, Note, Accusation}
use Rattle.records.specs.declared.Record.{Record}
use Rattle.datagram.specs.declared.Datagram.{Datagram}
use Rattle.datagram.specs.Spelling.{datagram_bytes}
use Rattle.node_rules.specs.Nodes.{Setting, Node}
use Rattle.node_rules.specs.Calls.{Call}
use Rattle.node_rules.specs.Known.{records_of}
use Rattle.node_rules.specs.Vouching.{IsAuthentic}

-- who signs such a record; the authority is no member
abbrev pub signer_of : Body → Option ℕ
signer_of (Certificate c) = None
signer_of (Note n) = Some n.member
signer_of (Accusation a) = Some a.accuser

-- of all
abbrev pub claims_all : ℕ → Body → Bool
claims_all index body = true

-- The own key, whatever is signed with it that is claimed, at each index that it has.
abbrev pub ClaimedVerify : (ℕ → Body → Bool) → Setting → Key → Type 0
ClaimedVerify claimed s own = (index : ℕ) (body : Body) → claimed index body ≡ true → index < s.indexes
    → s.verifies own (record { body = body; signature = s.signature index body }) ≡ true

-- The record is the node's own, signed at an index at which nothing is claimed of it.
pub record IsUnclaimed (claimed : ℕ → Body → Bool) (s : Setting) (r : Record) : Type 0 where
  pub own : signer_of r.body ≡ Some s.me
  pub index : ℕ
  pub unclaimed : claimed index r.body ≡ false
  pub signed : r.signature ≡ s.signature index r.body

-- The record verifies under its author's key, as the node holds it, or nothing is claimed of it.
abbrev pub IsSound : (ℕ → Body → Bool) → Setting → Node → Record → Type 0
IsSound claimed s n r = IsUnclaimed claimed s r ⊎ IsAuthentic s n r

-- The bytes are a datagram's, each of whose records is so.
pub record IsOfSound (claimed : ℕ → Body → Bool) (s : Setting) (n : Node) (bytes : List ℕ) : Type 0 where
  pub datagram : Datagram
  pub spelled : bytes ≡ datagram_bytes datagram
  pub records : AllByRecursion (IsSound claimed s n) (records_of datagram)

-- Each datagram of the call is so, by the certificates that the node holds afterwards.
abbrev pub SendsSound : (ℕ → Body → Bool) → Setting → Call → Type 0
SendsSound claimed s c = AllByRecursion (λ d. IsOfSound claimed s c.node d.1) c.sent
