-- Reading a datagram from left to right. A step gives a value and what is left after it, or the place of the fault:
-- the first byte of the first field that is cut short or breaks its rule.
use Rattle.std.specs.Prelude.{◌≡◌, ℕ, zero, suc, ◌+◌, ◌*◌, ◌<◌, Bool, true, false, not, ◌&&◌, ◌==◌, nat_lt, if◌then◌else◌, List, [], ◌∷◌, ◌++◌, length, Result, Ok, Err, IsOkAnd, ◌-◌}
use Rattle.std.specs.Int.{w16, w64}
use Rattle.ff_ids.specs.declared.TheConstants.{PAGE_MEMBERS, LAST_PAGE}
use Rattle.fields.specs.Reading.{Reading, reading_of}
use Rattle.ff_ids.specs.declared.summary.SummaryEntry.{SummaryEntry}
use Rattle.ff_ids.specs.declared.summary.Summary.{Summary}
use Rattle.records.specs.declared.Record.{Record}
use Rattle.records.specs.declared.fault.FormFault.{FormFault}
use Rattle.records.specs.declared.fault.FormFault.TheVariants as faults
use Rattle.records.specs.declared.steps.Misread.{Misread}
use Rattle.records.specs.Grammar.{◌>>=◌, number_at, byte_at, any_number, number_within, member_number, record_at}
use Rattle.datagram.specs.declared.Datagram.{Datagram}
use Rattle.datagram.specs.Spelling.{bits_width, is_wide}
use Rattle.datagram.specs.declared.Datagram.TheVariants as kinds

-- the greatest number of bytes of a datagram
abbrev pub longest : ℕ
longest = 32768

-- ---- fields

-- the two letters FF as one number
abbrev pub letters : ℕ
letters = 17990

-- the kind of the datagram, 1 to 5, and its sender
unfoldable pub head_at : Reading → Result ((ℕ × ℕ) × Reading) ℕ
head_at r = do
  name ← number_at w16 (number_within letters letters) r
  version ← byte_at (number_within 1 1) name.1
  kind ← byte_at (number_within 1 5) version.1
  from ← number_at w16 member_number kind.1
  Ok ((kind.0, from.0), from.1)

-- ---- lists

-- So many items behind those read before. What an item may be rests on a number, which each item sets for the next.
unfoldable pub items_at : {A : Type 0} → (ℕ → Reading → Result (A × Reading) ℕ) → (A → ℕ) → ℕ → ℕ → List A → Reading → Result (List A × Reading) ℕ
items_at step next zero least before r = Ok (before, r)
items_at step next (suc n) least before r = step least r >>= λ x. items_at step next n (next x.0) (before ++ x.0 ∷ []) x.1

-- ---- summaries

-- all bits that a mask or rings of a summary may have, a wide one or not
abbrev pub most_bits : Bool → ℕ
most_bits true = 18446744073709551615
most_bits false = 4294967295

-- Without a note there are no bits.
abbrev pub greatest_bits : Bool → ℕ → ℕ
greatest_bits wide epoch = if epoch == 0 then 0 else most_bits wide

-- an entry of the page whose member is at least this one
unfoldable pub entry_at : Bool → ℕ → ℕ → Reading → Result (SummaryEntry × Reading) ℕ
entry_at wide page least r = do
  member ← number_at w16 (number_within least (PAGE_MEMBERS * page + (PAGE_MEMBERS - 1))) r
  epoch ← number_at w64 any_number member.1
  mask ← number_at (bits_width wide) (number_within 0 (greatest_bits wide epoch.0)) epoch.1
  rings ← number_at (bits_width wide) (number_within 0 (greatest_bits wide epoch.0)) mask.1
  Ok (record { member = member.0; epoch = epoch.0; mask = record { 0 = mask.0 }; rings = rings.0 }, rings.1)

-- the member after the entry's
abbrev pub next_member : SummaryEntry → ℕ
next_member e = e.member + 1

-- so many entries of the page
unfoldable pub entries_at : Bool → ℕ → ℕ → Reading → Result (Summary × Reading) ℕ
entries_at wide page count r =
    items_at (entry_at wide page) next_member count (PAGE_MEMBERS * page) [] r >>= λ entries. Ok (record { page = page; listed = entries.0 }, entries.1)

-- In a wide summary a mask or rings need the eight bytes; else the fault is at this place.
abbrev pub widened : Bool → ℕ → Summary × Reading → Result (Summary × Reading) ℕ
widened wide place s = if wide && not (is_wide s.0) then Err place else Ok s

-- A wide summary, or one that isn't. One that has no need to be wide is refused at the number of its entries.
unfoldable pub summary_at : Bool → Reading → Result ((Bool × Summary) × Reading) ℕ
summary_at wide r = do
  page ← byte_at (number_within 0 LAST_PAGE) r
  flag ← byte_at (number_within 0 1) page.1
  count ← byte_at (number_within 0 PAGE_MEMBERS) flag.1
  entries ← entries_at wide page.0 count.0 count.1
  summary ← widened wide flag.1.place entries
  Ok ((flag.0 == 1, summary.0), summary.1)

-- ---- records

abbrev pub any_record : ℕ → Reading → Result (Record × Reading) ℕ
any_record least r = record_at r

abbrev pub nothing_kept : Record → ℕ
nothing_kept r = 0

-- so many records
unfoldable pub counted_at : ℕ → Reading → Result (List Record × Reading) ℕ
counted_at count r = items_at any_record nothing_kept count 0 [] r

unfoldable pub records_at : Reading → Result (List Record × Reading) ℕ
records_at r = number_at w16 (number_within 1 65535) r >>= λ count. counted_at count.0 count.1

-- the records of a datagram that has some
unfoldable pub headed_records_at : Reading → Result (List Record × Reading) ℕ
headed_records_at r = head_at r >>= λ head. records_at head.1

-- ---- datagrams

-- what follows the head of a datagram of this kind
unfoldable pub content_at : ℕ → ℕ → Reading → Result (Datagram × Reading) ℕ
content_at kind from r =
    if kind == 1 then (number_at w64 any_number r >>= λ nonce. Ok (kinds.Ping from nonce.0, nonce.1))
    else (if kind == 2 then (number_at w64 any_number r >>= λ nonce. Ok (kinds.Pong from nonce.0, nonce.1))
    else (if kind == 4 then (records_at r >>= λ records. Ok (kinds.Records from records.0, records.1))
    else (summary_at (kind == 5) r >>= λ s. Ok (kinds.Summary from s.0.0 s.0.1, s.1))))

unfoldable pub datagram_at : Reading → Result (Datagram × Reading) ℕ
datagram_at r = head_at r >>= λ head. content_at head.0.0 head.0.1 head.1

-- Nothing is left.
abbrev pub ended : {A : Type 0} → A × Reading → Result A ℕ
ended x = if length x.1.left == 0 then Ok x.0 else Err x.1.place

-- the datagram that the bytes are, however many, or the place of the fault
unfoldable pub whole_of : List ℕ → Result Datagram ℕ
whole_of bytes = datagram_at (reading_of bytes) >>= ended

-- the datagram that the bytes are, or the place of the fault
unfoldable pub read_of : List ℕ → Result Datagram ℕ
read_of bytes = if nat_lt longest (length bytes) then Err longest else whole_of bytes

-- ---- what calls give

abbrev pub HasRecords : Datagram → Type 0
HasRecords (kinds.Ping from nonce) = ⊥
HasRecords (kinds.Pong from nonce) = ⊥
HasRecords (kinds.Summary from flag s) = ⊥
HasRecords (kinds.Records from records) = Unit {0}

-- The answer is the datagram that is read, or the place of the fault. Memory may be wanted for records alone, and
-- only where nothing is wrong with the bytes.
abbrev pub GivesDatagram : Result Datagram ℕ → Result Datagram FormFault → Type 0
GivesDatagram (Ok d) (Ok x) = x ≡ d
GivesDatagram (Ok d) (Err e) = (e ≡ faults.OutOfMemory) × HasRecords d
GivesDatagram (Err place) answer = answer ≡ Err (faults.BadForm place)

-- The answer is the datagram, unless memory was wanted.
abbrev pub IsReadAs : Datagram → Result Datagram FormFault → Type 0
IsReadAs d (Ok x) = x ≡ d
IsReadAs d (Err e) = e ≡ faults.OutOfMemory

-- Nothing is left, or the fault is at the first byte left over.
abbrev pub Ends : Result Unit Misread → Reading → Type 0
Ends (Ok done) r = length r.left ≡ 0
Ends (Err e) r = (0 < length r.left) × (e.place ≡ r.place)

-- The answer is what is read, or the place of the fault, unless memory was wanted.
abbrev pub GivesList : {X A : Type 0} → (X → A) → Result X FormFault → Result (A × Reading) ℕ → Type 0
GivesList view (Ok x) read = IsOkAnd read (λ y. y.0 ≡ view x)
GivesList view (Err (faults.BadForm place)) read = read ≡ Err place
GivesList view (Err faults.OutOfMemory) read = Unit {0}
