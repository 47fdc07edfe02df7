-- What vouches for the events of a node's life: records that verify under the keys of their authors.
use Rattle.std.specs.Prelude.{◌≡◌, ℕ, ◌<◌, ◌≤◌, true, List, Option, Some, Contains}
use Rattle.std.specs.List.{AllByRecursion}
use Rattle.ff_ids.specs.Steps.{Event, Joins, Notes, Accuses, Ticks}
use Rattle.records.specs.declared.keys.Key.{Key}
use Rattle.records.specs.declared.CertBody.{CertBody}
use Rattle.records.specs.declared.Body.{Body}
use Rattle.records.specs.declared.Body.TheVariants.{Certificate, Note, Accusation}
use Rattle.records.specs.declared.Record.{Record}
use Rattle.epoch_store.specs.declared.Stored.{Stored}
use Rattle.datagram.specs.declared.Datagram.{Datagram}
use Rattle.datagram.specs.Spelling.{datagram_bytes}
use Rattle.node_rules.specs.Nodes.{Setting, Node, public_key_of}
use Rattle.node_rules.specs.Calls.{Call}
use Rattle.node_rules.specs.OnDisks.{called}
use Rattle.node_rules.specs.Lives.{HasRings, IsKit, Input, life_of}
use Rattle.node_rules.specs.Known.{known_in, records_of}

-- There is a record with this body, which verifies under the author's key.
pub record IsVouchedFor (s : Setting) (author : Option Key) (body : Body) : Type 0 where
  pub witness : Record
  pub key : Key
  pub says : witness.body ≡ body
  pub author_is : author ≡ Some key
  pub verifies : s.verifies key witness ≡ true

-- That record is one of these.
pub record IsVouchedAmong (s : Setting) (known : List Record) (author : Option Key) (body : Body) : Type 0 where
  pub vouched : IsVouchedFor s author body
  pub come_by : Contains known vouched.witness

-- A certificate is the authority's, a note its member's, and an accusation its accuser's, by the certificates that
-- the node holds.
abbrev pub IsVouched : Setting → List Record → Node → Event → Type 0
IsVouched s known n (Joins number places) = (c : CertBody) × ((c.member ≡ number) × IsVouchedAmong s known (Some s.authority) (Certificate c))
IsVouched s known n (Notes note) = IsVouchedAmong s known (public_key_of n note.member) (Note note)
IsVouched s known n (Accuses a) = IsVouchedAmong s known (public_key_of n a.accuser) (Accusation a)
IsVouched s known n Ticks = Unit {0}

-- The own key, whatever is signed with it, at each index that it has.
abbrev pub OwnSignaturesVerify : Setting → Key → Type 0
OwnSignaturesVerify s own = (index : ℕ) (body : Body) → index < s.indexes → s.verifies own (record { body = body; signature = s.signature index body }) ≡ true

-- The kit's certificates verify under the authority's key, and the node's own has this key.
abbrev pub IsCertifiedBy : Setting → Key → Record → Type 0
IsCertifiedBy s own r = (s.verifies s.authority r ≡ true) × ((c : CertBody) → r.body ≡ Certificate c → c.member ≡ s.me → c.key ≡ own)

-- A life starts with an index left, and spends none that the key hasn't.
abbrev pub NoIndexBeyondTheKey : Type 0
NoIndexBeyondTheKey = (s : Setting) (nonces : ℕ → ℕ) (certificates : List Record) (stored : Stored) (inputs : List Input)
    → stored.next < s.indexes → (life_of s nonces certificates stored inputs).stored.next ≤ s.indexes

-- Each event of each life is vouched for by a record that the life has come by, where it starts with an index left.
abbrev pub LivesAreVouchedFor : Type 0
LivesAreVouchedFor = (s : Setting) (own : Key) (nonces : ℕ → ℕ) (certificates : List Record) (stored : Stored) (inputs : List Input)
    → HasRings s → IsKit s certificates → AllByRecursion (IsCertifiedBy s own) certificates → OwnSignaturesVerify s own → stored.next < s.indexes
    → AllByRecursion (IsVouched s (known_in s nonces certificates stored inputs) (life_of s nonces certificates stored inputs)) (life_of s nonces certificates stored inputs).lived

-- ---- what is sent

-- Under this key, as the node holds it, a record with the body is to verify: the authority's for a certificate, its
-- member's for a note, its accuser's for an accusation.
abbrev pub author_key : Setting → Node → Body → Option Key
author_key s n (Certificate c) = Some s.authority
author_key s n (Note note) = public_key_of n note.member
author_key s n (Accusation a) = public_key_of n a.accuser

-- The record verifies under that key.
pub record IsAuthentic (s : Setting) (n : Node) (r : Record) : Type 0 where
  pub key : Key
  pub author_is : author_key s n r.body ≡ Some key
  pub verifies : s.verifies key r ≡ true

-- The bytes are a datagram's, each of whose records does.
pub record IsOfAuthentic (s : Setting) (n : Node) (bytes : List ℕ) : Type 0 where
  pub datagram : Datagram
  pub spelled : bytes ≡ datagram_bytes datagram
  pub records : AllByRecursion (IsAuthentic s n) (records_of datagram)

-- Each datagram of the call is so, by the certificates that the node holds afterwards.
abbrev pub SendsAuthentic : Setting → Call → Type 0
SendsAuthentic s c = AllByRecursion (λ d. IsOfAuthentic s c.node d.1) c.sent

-- In every life that starts with an index left, whichever put fails.
abbrev pub SentRecordsVerify : Type 0
SentRecordsVerify = (s : Setting) (own : Key) (nonces : ℕ → ℕ) (certificates : List Record) (stored : Stored)
    (inputs : List Input) (i : Input) (fails_at : Option ℕ)
    → HasRings s → IsKit s certificates → AllByRecursion (IsCertifiedBy s own) certificates → OwnSignaturesVerify s own
    → stored.next < s.indexes
    → SendsAuthentic s (called s (life_of s nonces certificates stored inputs) i fails_at)
