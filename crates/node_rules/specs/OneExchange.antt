-- One exchange: what a node knows of a page once it was handed all that it lacked of it.
use Rattle.std.specs.Prelude.{◌≡◌, ℕ, Bool, ◌^◌, ◌<◌, ◌≤◌, true, false, List, [], ◌∷◌, ◌++◌, length, slice_index, Some, filter_map, ◌↔◌}
use Rattle.std.specs.List.{AllByRecursion, slice_get}
use Rattle.std.specs.Ordering.{is_lt}
use Rattle.ff_ids.specs.declared.TheConstants.{MEMBERS}
use Rattle.ff_ids.specs.declared.AccBody.{AccBody}
use Rattle.ff_ids.specs.declared.NoteBody.{NoteBody}
use Rattle.ff_ids.specs.declared.summary.RecordKey.{RecordKey}
use Rattle.ff_ids.specs.declared.summary.RecordKey.TheVariants as keys
use Rattle.ff_ids.specs.declared.summary.Summary.{Summary}
use Rattle.ff_ids.specs.Notes.{note_cmp, newest}
use Rattle.ff_ids.specs.Summaries.{page_of_member}
use Rattle.ff_ids.specs.Views.{in_view, is_member}
use Rattle.ff_ids.specs.Faults.{is_kept}
use Rattle.records.specs.declared.keys.Key.{Key}
use Rattle.records.specs.declared.CertBody.{CertBody}
use Rattle.records.specs.declared.Body.{Body}
use Rattle.records.specs.declared.Body.TheVariants.{Accusation}
use Rattle.records.specs.declared.Record.{Record}
use Rattle.records.specs.Spelling.{HasLength}
use Rattle.epoch_store.specs.declared.Stored.{Stored}
use Rattle.datagram.specs.declared.Datagram.{Datagram}
use Rattle.datagram.specs.declared.Datagram.TheVariants as kinds
use Rattle.datagram.specs.Spelling.{datagram_bytes, IsSignedRecord, IsDatagram}
use Rattle.record_set.specs.Held.{key_of}
use Rattle.node_rules.specs.Nodes.{Setting, Node, state_of, key_of_accusation, certificate_of, is_certified, public_key_of}
use Rattle.node_rules.specs.Pages.{page, note_held, wanted, lacking}
use Rattle.node_rules.specs.Deliveries.{is_other, delivered}
use Rattle.node_rules.specs.Lives.{HasRings, IsKit, Input, Delivers, Ticks, Leaves, life_of}
use Rattle.node_rules.specs.Vouching.{OwnSignaturesVerify, IsCertifiedBy}

-- ---- lives

-- How a node's life began: what the node was opened with, the key of its own certificate, the source of its nonces, the
-- certificates of its kit, and what its store kept.
pub record Life : Type 0 where
  pub setting : Setting
  pub own : Key
  pub nonces : ℕ → ℕ
  pub certificates : List Record
  pub stored : Stored

-- What the node has come to when these calls have been answered.
abbrev pub node_after : Life → List Input → Node
node_after l inputs = life_of l.setting l.nonces l.certificates l.stored inputs

-- Every note that it has accepted by then.
abbrev pub notes_after : Life → List Input → List NoteBody
notes_after l inputs = (state_of l.setting (node_after l inputs)).notes

-- The life of a correct node, which began with an index of its key left.
pub record IsCorrect (l : Life) : Type 0 where
  pub rings : HasRings l.setting
  pub kit : IsKit l.setting l.certificates
  pub certified : AllByRecursion (IsCertifiedBy l.setting l.own) l.certificates
  pub signs : OwnSignaturesVerify l.setting l.own
  pub left : l.stored.next < l.setting.indexes

-- What it began with is within its ranges: whatever verifies has the length of a signature, and the epoch that the store
-- kept isn't above its next index.
pub record IsWithinRanges (l : Life) : Type 0 where
  pub me : l.setting.me < MEMBERS
  pub indexes : l.setting.indexes < 2 ^ 64
  pub lengths : (key : Key) (r : Record) → l.setting.verifies key r ≡ true → HasLength r.signature
  pub certificates : AllByRecursion IsSignedRecord l.certificates
  pub epoch : l.stored.epoch ≤ l.stored.next

-- What is delivered is bytes.
abbrev pub IsOfBytes : Input → Type 0
IsOfBytes (Delivers bytes) = (i : ℕ) → slice_index bytes i < 256
IsOfBytes Ticks = Unit {0}
IsOfBytes Leaves = Unit {0}

-- ---- what is held, and what of it goes out

-- The record verifies under the key in the member's certificate.
pub record IsSignedBy (s : Setting) (n : Node) (m : ℕ) (r : Record) : Type 0 where
  pub key : Key
  pub author_is : public_key_of n m ≡ Some key
  pub verifies : s.verifies key r ≡ true

-- The accusation is held.
pub record HoldsAccusation (n : Node) (a : AccBody) : Type 0 where
  pub rec : Record
  pub held : n.held (key_of_accusation a) ≡ Some rec
  pub says : rec.body ≡ Accusation a

-- The key is the one of what the record says, or that of the removal of whom it accuses.
abbrev pub IsFiled : Body → RecordKey → Type 0
IsFiled b (keys.Removal m) = (a : AccBody) × ((b ≡ Accusation a) × (a.accused ≡ m))
IsFiled b k = key_of b ≡ k

-- What is held is what the life has come to: each record under its own key, the newest note of each member, a
-- certificate of exactly those who have joined, and just the accusations that are kept, beside those by which a
-- member was removed that is out of the view since; and each of them verifies.
pub record HoldsItsLife (s : Setting) (n : Node) : Type 0 where
  pub filed : (k : RecordKey) (r : Record) → n.held k ≡ Some r → IsFiled r.body k
  pub notes : (m : ℕ) → note_held n.held m ≡ newest (state_of s n).notes m
  pub members : (m : ℕ) → is_certified n m ≡ is_member (state_of s n) m
  pub certificates : (m : ℕ) (r : Record) → n.held (keys.Certificate m) ≡ Some r → s.verifies s.authority r ≡ true
  pub signed : (m : ℕ) (r : Record) → n.held (keys.Note m) ≡ Some r → IsSignedBy s n m r
  pub kept : (a : AccBody) → HoldsAccusation n a ↔ (is_kept (state_of s n) a ≡ true)
  pub accused : (k : RecordKey) (r : Record) (a : AccBody) → n.held k ≡ Some r → r.body ≡ Accusation a → IsSignedBy s n a.accuser r
  pub out : (m : ℕ) (r : Record) → n.held (keys.Removal m) ≡ Some r → in_view (state_of s n) m ≡ false

abbrev pub WhatIsHeldIsTheLife : Type 0
WhatIsHeldIsTheLife = (l : Life) (inputs : List Input) → IsCorrect l → HoldsItsLife l.setting (node_after l inputs)

-- The datagram of what the other side lacks.
abbrev pub given_to : Setting → Node → ℕ → Summary → Datagram
given_to s n from theirs = kinds.Records s.me (lacking n from theirs)

-- Whatever a correct node holds has a spelling. So the bytes of what it gives are that datagram and no other.
pub record CanBeSent (s : Setting) (n : Node) : Type 0 where
  pub held : (k : RecordKey) (r : Record) → n.held k ≡ Some r → IsSignedRecord r
  pub given : (from : ℕ) (theirs : Summary) → 0 < length (lacking n from theirs)
      → IsDatagram (datagram_bytes (given_to s n from theirs)) (given_to s n from theirs)

abbrev pub WhatIsHeldCanBeSent : Type 0
WhatIsHeldCanBeSent = (l : Life) (inputs : List Input) → IsCorrect l → IsWithinRanges l → AllByRecursion IsOfBytes inputs → CanBeSent l.setting (node_after l inputs)

-- A summary of a certified member other than the node is answered by that datagram before all else, if there is anything
-- that it lacks.
abbrev pub SummariesAreAnswered : Type 0
SummariesAreAnswered = (s : Setting) (n : Node) (from : ℕ) (flag : Bool) (theirs : Summary) (bytes : List ℕ) → IsDatagram bytes (kinds.Summary from flag theirs) → is_other s n from ≡ true → 0 < length (lacking n from theirs)
    → slice_get (delivered s n bytes).sent 0 ≡ Some (from, datagram_bytes (given_to s n from theirs))

-- ---- what an exchange rests on

-- Both nodes are of one group and know one authority, and a signature verifies for both or for none.
pub record AreOfOneGroup (a b : Setting) : Type 0 where
  pub group : a.group ≡ b.group
  pub authority : a.authority ≡ b.authority
  pub verdicts : a.verifies ≡ b.verifies

-- All that the other side lacks of the page of its summary.
abbrev pub all_lacking : Node → ℕ → Summary → List Record
all_lacking n from theirs = filter_map n.held (wanted n from theirs)

-- These are the bytes that answer the summary, and no record was left out for want of room.
pub record HoldsAllLacking (s : Setting) (n : Node) (from : ℕ) (theirs : Summary) (bytes : List ℕ) : Type 0 where
  pub whole : lacking n from theirs ≡ all_lacking n from theirs
  pub spelled : bytes ≡ datagram_bytes (given_to s n from theirs)

-- The two keep no two different certificates for one number.
abbrev pub AgreeOnCertificates : Node → Node → Type 0
AgreeOnCertificates n other = (m : ℕ) (c d : CertBody) → certificate_of n m ≡ Some c → certificate_of other m ≡ Some d → c ≡ d

-- The newest note of the member is at least this one, by epoch and then by mask.
pub record HasAtLeast (notes : List NoteBody) (m : ℕ) (note : NoteBody) : Type 0 where
  pub kept : NoteBody
  pub is_newest : newest notes m ≡ Some kept
  pub not_less : is_lt (note_cmp kept note) ≡ false

-- Where the first have a note of the member, the second have one at least as great as its newest there.
abbrev pub IsKnownAmong : ℕ → List NoteBody → List NoteBody → Type 0
IsKnownAmong m theirs ours = (note : NoteBody) → newest theirs m ≡ Some note → HasAtLeast ours m note

-- One node meets another: a has answered the calls `made`, and b those before its summary of the page and those between
-- that and now. The two keep no two certificates for one number, and b has a note of itself at least as great as a has.
pub record Meet (a b : Life) (made before between : List Input) : Type 0 where
  pub correct : IsCorrect a
  pub ranges : IsWithinRanges a
  pub bytes : AllByRecursion IsOfBytes made
  pub other_correct : IsCorrect b
  pub group : AreOfOneGroup a.setting b.setting
  pub agree : AgreeOnCertificates (node_after a made) (node_after b (before ++ between))
  pub own_known : IsKnownAmong b.setting.me (notes_after a made) (notes_after b (before ++ between))

-- ---- the law

-- b is handed the whole of what a holds of the page and b lacked by its summary. Then it has of each member of the page
-- a note at least as great as a had.
abbrev pub OneExchangeIsEnough : Type 0
OneExchangeIsEnough = (a b : Life) (made before between : List Input) (number : ℕ) (bytes : List ℕ) → Meet a b made before between
    → HoldsAllLacking a.setting (node_after a made) b.setting.me (page (node_after b before) number) bytes
    → (m : ℕ) → page_of_member m ≡ number → IsKnownAmong m (notes_after a made) (notes_after b ((before ++ between) ++ Delivers bytes ∷ []))

-- And where it lacked nothing, it has them already.
abbrev pub NothingLackingIsEnough : Type 0
NothingLackingIsEnough = (a b : Life) (made before between : List Input) (number : ℕ) → Meet a b made before between
    → all_lacking (node_after a made) b.setting.me (page (node_after b before) number) ≡ []
    → (m : ℕ) → page_of_member m ≡ number → IsKnownAmong m (notes_after a made) (notes_after b (before ++ between))
