-- Datagrams as bytes: the one spelling of each, and what has a spelling. Numbers are big-endian.
use Rattle.std.specs.Prelude.{◌≡◌, ℕ, ◌^◌, ◌<◌, ◌≤◌, ◌||◌, Bool, true, false, List, ◌∷◌, ◌++◌, length, codes, All}
use Rattle.std.specs.List.{flat_map, list_any}
use Rattle.std.specs.Int.{Width, w16, w32, w64, to_be_bytes}
use Rattle.ff_ids.specs.declared.TheConstants.{MEMBERS, MASK_BITS}
use Rattle.ff_ids.specs.Masks.{is_wide as are_wide}
use Rattle.ff_ids.specs.declared.summary.SummaryEntry.{SummaryEntry}
use Rattle.ff_ids.specs.declared.summary.Summary.{Summary}
use Rattle.ff_ids.specs.Summaries.{IsSummary}
use Rattle.records.specs.declared.Record.{Record}
use Rattle.records.specs.Spelling.{record_bytes, IsBody, HasLength, IsWritable as IsWritableRecord}
use Rattle.datagram.specs.declared.Datagram.{Datagram}
use Rattle.datagram.specs.declared.Datagram.TheVariants as kinds

-- the letters FF, version 1, the kind of the datagram, and its sender
unfoldable pub head_bytes : ℕ → ℕ → List ℕ
head_bytes kind from = codes "FF" ++ (1 ∷ (kind ∷ to_be_bytes w16 from))

-- whether four bytes don't hold the mask, or the rings
abbrev pub is_wide_entry : SummaryEntry → Bool
is_wide_entry e = are_wide e.mask.0 || are_wide e.rings

-- whether a mask or rings of it need eight bytes
abbrev pub is_wide : Summary → Bool
is_wide s = list_any is_wide_entry s.listed

-- in a wide summary a mask and rings have eight bytes each, else four
abbrev pub bits_width : Bool → Width
bits_width true = w64
bits_width false = w32

-- the member, its epoch, the mask, and the rings
unfoldable pub entry_bytes : Bool → SummaryEntry → List ℕ
entry_bytes wide e = to_be_bytes w16 e.member ++ (to_be_bytes w64 e.epoch ++ (to_be_bytes (bits_width wide) e.mask.0 ++ to_be_bytes (bits_width wide) e.rings))

abbrev pub flag_number : Bool → ℕ
flag_number true = 1
flag_number false = 0

-- the page, the flag, the number of entries, and the entries
unfoldable pub summary_bytes : Bool → Bool → Summary → List ℕ
summary_bytes wide flag s = s.page ∷ (flag_number flag ∷ (length s.listed ∷ flat_map (entry_bytes wide) s.listed))

abbrev pub summary_kind : Bool → ℕ
summary_kind true = 5
summary_kind false = 3

-- the number of records, and the records
unfoldable pub records_bytes : List Record → List ℕ
records_bytes records = to_be_bytes w16 (length records) ++ flat_map record_bytes records

-- A head of the kind, and what follows it.
abbrev pub datagram_bytes : Datagram → List ℕ
datagram_bytes (kinds.Ping from nonce) = head_bytes 1 from ++ to_be_bytes w64 nonce
datagram_bytes (kinds.Pong from nonce) = head_bytes 2 from ++ to_be_bytes w64 nonce
datagram_bytes (kinds.Summary from flag s) = head_bytes (summary_kind (is_wide s)) from ++ summary_bytes (is_wide s) flag s
datagram_bytes (kinds.Records from records) = head_bytes 4 from ++ records_bytes records

-- ---- what has a spelling

pub record IsEntry (e : SummaryEntry) : Type 0 where
  pub epoch_fits : e.epoch < 2 ^ 64
  pub mask_fits : e.mask.0 < 2 ^ MASK_BITS
  pub rings_fit : e.rings < 2 ^ MASK_BITS

pub record IsSignedRecord (r : Record) : Type 0 where
  pub body : IsBody r.body
  pub signature : HasLength r.signature

pub record IsProbe (from nonce : ℕ) : Type 0 where
  pub sender : from < MEMBERS
  pub nonce_fits : nonce < 2 ^ 64

pub record IsPage (from : ℕ) (s : Summary) : Type 0 where
  pub sender : from < MEMBERS
  pub keeps : IsSummary s
  pub entries : All IsEntry s.listed

pub record IsRecordList (from : ℕ) (records : List Record) : Type 0 where
  pub sender : from < MEMBERS
  pub some : 0 < length records
  pub few : length records < 2 ^ 16
  pub each : All IsSignedRecord records

-- Each field keeps its rule.
abbrev pub KeepsRules : Datagram → Type 0
KeepsRules (kinds.Ping from nonce) = IsProbe from nonce
KeepsRules (kinds.Pong from nonce) = IsProbe from nonce
KeepsRules (kinds.Summary from flag s) = IsPage from s
KeepsRules (kinds.Records from records) = IsRecordList from records

-- The bytes are the datagram's one spelling, each of its fields keeps its rule, and there are at most 32,768 of them.
pub record IsDatagram (bytes : List ℕ) (d : Datagram) : Type 0 where
  pub rules : KeepsRules d
  pub spelled : bytes ≡ datagram_bytes d
  pub few : length bytes ≤ 32768

-- ---- what a caller sees to, since no type does

pub record AreSendable (records : List Record) : Type 0 where
  pub some : 0 < length records
  pub few : length records < 2 ^ 16
  pub each : All IsWritableRecord records

-- A summary keeps to its page, in order; there is a record, and each has a spelling.
abbrev pub HasContent : Datagram → Type 0
HasContent (kinds.Ping from nonce) = Unit {0}
HasContent (kinds.Pong from nonce) = Unit {0}
HasContent (kinds.Summary from flag s) = IsSummary s
HasContent (kinds.Records from records) = AreSendable records

pub record IsWritable (d : Datagram) : Type 0 where
  pub content : HasContent d
  pub few : length (datagram_bytes d) ≤ 32768
