-- That the records which a correct node sends are read as it sent them.
use Rattle.std.specs.Prelude.{◌≡◌, ℕ, ◌<◌, ◌≤◌, ◌^◌, true, List, Some, Ok}
use Rattle.std.specs.List.{AllByRecursion}
use Rattle.ff_ids.specs.declared.TheConstants.{MEMBERS}
use Rattle.records.specs.declared.keys.Key.{Key}
use Rattle.records.specs.declared.Body.{Body}
use Rattle.records.specs.declared.Record.{Record}
use Rattle.records.specs.Spelling.{HasLength}
use Rattle.epoch_store.specs.declared.Stored.{Stored}
use Rattle.datagram.specs.declared.Datagram.{Datagram}
use Rattle.datagram.specs.declared.Datagram.TheVariants as kinds
use Rattle.datagram.specs.Spelling.{datagram_bytes, IsSignedRecord, IsDatagram}
use Rattle.datagram.specs.Grammar.{read_of}
use Rattle.journal.specs.declared.event.Event as journal
use Rattle.journal.specs.declared.event.What as whats
use Rattle.journal.specs.declared.event.What.TheVariants as told
use Rattle.node_rules.specs.Nodes.{Setting}
use Rattle.node_rules.specs.Lives.{HasRings, IsKit, Input, call_of, life_of}
use Rattle.node_rules.specs.OneExchange.{Life, node_after, IsCorrect, IsWithinRanges, IsOfBytes}
use Rattle.node_rules.specs.Vouching.{IsCertifiedBy, OwnSignaturesVerify}
use Rattle.node_rules.specs.Claims.{signer_of}

-- The bytes are records of this sender, and read as these.
pub record AreRead (s : Setting) (bytes : List ℕ) (from : ℕ) (records : List Record) : Type 0 where
  pub sender : from ≡ s.me
  pub whole : IsDatagram bytes (kinds.Records from records)
  pub read : read_of bytes ≡ Ok (kinds.Records from records)

-- The bytes are those of a datagram, and where that has records, these are read.
pub record IsReadable (s : Setting) (bytes : List ℕ) : Type 0 where
  pub datagram : Datagram
  pub spelled : bytes ≡ datagram_bytes datagram
  pub records : (from : ℕ) (records : List Record) → datagram ≡ kinds.Records from records → AreRead s bytes from records

-- If it is reported as sent, P holds of its bytes.
abbrev pub OfSent : (List ℕ → Type 0) → whats.What → Type 0
OfSent P (told.Sent number to bytes) = P bytes
OfSent P other = Unit {0}

-- So what is reported as sent.
abbrev pub IsReadableIn : Setting → whats.What → Type 0
IsReadableIn s what = OfSent (IsReadable s) what

abbrev pub SentRecordsAreRead : Type 0
SentRecordsAreRead = (l : Life) (inputs : List Input) (i : Input) → IsCorrect l → IsWithinRanges l → AllByRecursion IsOfBytes inputs → IsOfBytes i
    → AllByRecursion (λ d. IsReadable l.setting d.1) (call_of l.setting (node_after l inputs) i).sent

abbrev pub ToldRecordsAreRead : Type 0
ToldRecordsAreRead = (l : Life) (inputs : List Input) (i : Input) → IsCorrect l → IsWithinRanges l → AllByRecursion IsOfBytes inputs → IsOfBytes i
    → AllByRecursion (λ (e : journal.Event). IsReadableIn l.setting e.what) (call_of l.setting (node_after l inputs) i).told

-- ---- with no word of what own signatures verify

-- What a life begins with is within its ranges, and each own signature has the length of one, whatever it verifies.
pub record IsSpelled (s : Setting) (certificates : List Record) (stored : Stored) : Type 0 where
  pub rings : HasRings s
  pub kit : IsKit s certificates
  pub me : s.me < MEMBERS
  pub indexes : s.indexes < 2 ^ 64
  pub lengths : (index : ℕ) (body : Body) → index < s.indexes → HasLength (s.signature index body)
  pub spelled : AllByRecursion IsSignedRecord certificates
  pub left : stored.next < s.indexes
  pub epoch : stored.epoch ≤ stored.next

abbrev pub SpelledRecordsAreRead : Type 0
SpelledRecordsAreRead = (s : Setting) (nonces : ℕ → ℕ) (certificates : List Record) (stored : Stored) (inputs : List Input) (i : Input) → IsSpelled s certificates stored → AllByRecursion IsOfBytes inputs → IsOfBytes i
    → AllByRecursion (λ (e : journal.Event). IsReadableIn s e.what) (call_of s (life_of s nonces certificates stored inputs) i).told

-- ---- that own signatures verify

-- If the node has signed it, it verifies under this key.
abbrev pub OwnVerifies : Setting → Key → Record → Type 0
OwnVerifies s own r = signer_of r.body ≡ Some s.me → s.verifies own r ≡ true

-- So is each record that is read in the bytes.
abbrev pub OwnReadVerify : Setting → Key → List ℕ → Type 0
OwnReadVerify s own bytes = (from : ℕ) (records : List Record) → read_of bytes ≡ Ok (kinds.Records from records) → AllByRecursion (OwnVerifies s own) records

abbrev pub OwnRecordsVerify : Type 0
OwnRecordsVerify = (s : Setting) (own : Key) (nonces : ℕ → ℕ) (certificates : List Record) (stored : Stored) (inputs : List Input) (i : Input) → IsSpelled s certificates stored
    → AllByRecursion (IsCertifiedBy s own) certificates → OwnSignaturesVerify s own → AllByRecursion IsOfBytes inputs → IsOfBytes i
    → AllByRecursion (λ (e : journal.Event). OfSent (OwnReadVerify s own) e.what) (call_of s (life_of s nonces certificates stored inputs) i).told
