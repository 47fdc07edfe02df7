-- What the nodes of a world send: datagrams whose records verify under the keys of those who signed them.
use Rattle.std.specs.Prelude.{◌≡◌, ℕ, ◌≤◌, true, List, length, Option, Some, None}
use Rattle.std.specs.List.{AllByRecursion}
use Rattle.std.specs.Option.{option_map}
use Rattle.records.specs.declared.keys.Key.{Key}
use Rattle.records.specs.declared.Body.{Body}
use Rattle.records.specs.declared.Body.TheVariants.{Certificate, Note, Accusation}
use Rattle.records.specs.declared.Record.{Record}
use Rattle.datagram.specs.declared.Datagram.{Datagram}
use Rattle.datagram.specs.Spelling.{datagram_bytes}
use Rattle.node_rules.specs.Known.{records_of}
use Rattle.world_rules.specs.Settings.{Setting, members}
use Rattle.world_rules.specs.Worlds.{World}
use Rattle.world_rules.specs.Steps.{NodeEvent}
use Rattle.world_rules.specs.Laws.{IsSetting, Reached}
use Rattle.world_laws.specs.Signing.{certificate_for}
use Rattle.world_laws.specs.Laws.{SignaturesVerify}

-- Under this key a record with the body is to verify: the authority's for a certificate; for a note its member's and for an
-- accusation its accuser's, where these are members.
abbrev pub signer_key : Setting → Body → Option Key
signer_key s (Certificate c) = Some (s.key None)
signer_key s (Note note) = option_map (λ c. c.key) (certificate_for s note.member)
signer_key s (Accusation a) = option_map (λ c. c.key) (certificate_for s a.accuser)

-- The record verifies under that key.
pub record IsAuthentic (s : Setting) (r : Record) : Type 0 where
  pub key : Key
  pub signer_is : signer_key s r.body ≡ Some key
  pub verifies : s.verifies key r ≡ true

-- The bytes are a datagram's, each of whose records does.
pub record IsOfAuthentic (s : Setting) (bytes : List ℕ) : Type 0 where
  pub datagram : Datagram
  pub spelled : bytes ≡ datagram_bytes datagram
  pub records : AllByRecursion (IsAuthentic s) (records_of datagram)

-- So is each datagram that was sent.
abbrev pub SendsAuthentic : Setting → World → Type 0
SendsAuthentic s w = AllByRecursion (λ d. IsOfAuthentic s d.1) w.sent

-- The authority's key has an index for each certificate.
abbrev pub HasIndexes : Setting → Type 0
HasIndexes s = length (members s) ≤ s.authority_indexes

abbrev pub SentRecordsVerify : Type 0
SentRecordsVerify = (s : Setting) (w : World) (told : List NodeEvent) → IsSetting s → SignaturesVerify s → HasIndexes s → Reached s w told → SendsAuthentic s w
