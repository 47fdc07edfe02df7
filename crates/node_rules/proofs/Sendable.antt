-- What the other side lacks can be sent, and is read as it was sent.
use Rattle.std.proofs.Common.{◌≡◌, ℕ, ◌+◌, ◌-◌, ◌≤◌, ◌<◌, Bool, true, false, leb, cond, List, [], ◌∷◌, ◌++◌, length, Some, refl, ap, ◌∙◌, arith}
use Rattle.std.specs.Prelude.{filter_map}
use Rattle.std.specs.List.{AllByRecursion, flat_map, slice_get}
use Rattle.std.specs.Int.{w16, to_be_bytes}
use Rattle.std.proofs.lemmas.Bool.{cond_both, leb-true}
use Rattle.std.proofs.lemmas.List.{length-append}
use Rattle.std.proofs.lemmas.List.Elements.{All-from_recursion}
use Rattle.ff_ids.specs.declared.TheConstants.{MEMBERS}
use Rattle.ff_ids.specs.declared.summary.RecordKey.{RecordKey}
use Rattle.ff_ids.specs.declared.summary.Summary.{Summary}
use Rattle.records.specs.declared.Record.{Record}
use Rattle.records.specs.Spelling.{body_bytes, record_bytes}
use Rattle.datagram.specs.declared.Datagram.TheVariants as kinds
use Rattle.datagram.specs.Spelling.{head_bytes, records_bytes, datagram_bytes, IsSignedRecord, IsDatagram}
use Rattle.datagram.proofs.Readings.{read_again}
use Rattle.journal.specs.declared.event.What.TheVariants as told
use Rattle.node_rules.specs.Nodes.{Setting, Node, Holding}
use Rattle.node_rules.specs.Pages.{page, room, fitting, wanted, lacking}
use Rattle.node_rules.specs.Calls.{Call, begun, tells, sends}
use Rattle.node_rules.specs.Deliveries.{is_other, gives, replies, exchanges, hears, delivered}
use Rattle.node_rules.specs.OneExchange.{given_to}
use Rattle.node_rules.proofs.Exchanges.{all-filter_map}

two_bytes : (n : ℕ) → length (to_be_bytes w16 n) ≡ 2
two_bytes n = refl

record-long : (r : Record) → 2 ≤ length (record_bytes r)
record-long r =
    let tail : List ℕ = to_be_bytes w16 (length r.signature) ++ r.signature in
    omega (arith, length-append (body_bytes r.body) tail, length-append (to_be_bytes w16 (length r.signature)) r.signature, two_bytes (length r.signature))

records-long : (records : List Record) → length records ≤ length (flat_map record_bytes records)
records-long [] = omega arith
records-long (r ∷ records) = omega (arith, length-append (record_bytes r) (flat_map record_bytes records), record-long r, records-long records)

pub fitting-short : (left : ℕ) (records : List Record) → length (flat_map record_bytes (fitting left records)) ≤ left
fitting-short left [] = omega arith
fitting-short left (r ∷ records) =
    let n : ℕ = length (record_bytes r) in
    cond_both (leb n left) (r ∷ fitting (left - n) records) [] (λ xs. length (flat_map record_bytes xs) ≤ left)
    (λ yes. omega (arith, length-append (record_bytes r) (flat_map record_bytes (fitting (left - n) records)), fitting-short (left - n) records, leb-true n left yes))
    (λ no. omega arith)

pub fitting-all : (P : Record → Type 0) (left : ℕ) (records : List Record) → AllByRecursion P records → AllByRecursion P (fitting left records)
fitting-all P left [] all = tt
fitting-all P left (r ∷ records) all =
    let n : ℕ = length (record_bytes r) in
    cond_both (leb n left) (r ∷ fitting (left - n) records) [] (AllByRecursion P) (λ yes. (all.0, fitting-all P (left - n) records all.1)) (λ no. tt)

pub held-all : (P : Record → Type 0) (held : Holding) (records : List Record) → ((k : RecordKey) (r : Record) → held k ≡ Some r → P r) → AllByRecursion (λ r. (k : RecordKey) × (held k ≡ Some r)) records → AllByRecursion P records
held-all P held [] formed all = tt
held-all P held (r ∷ records) formed all = (formed all.0.0 r all.0.1, held-all P held records formed all.1)

lacking-all : (n : Node) (from : ℕ) (theirs : Summary) → ((k : RecordKey) (r : Record) → n.held k ≡ Some r → IsSignedRecord r) → AllByRecursion IsSignedRecord (lacking n from theirs)
unfolding lacking
lacking-all n from theirs formed =
    let keys : List RecordKey = wanted n from theirs in
    fitting-all IsSignedRecord room (filter_map n.held keys) (held-all IsSignedRecord n.held (filter_map n.held keys) formed (all-filter_map n.held keys))

pub lacking-short : (n : Node) (from : ℕ) (theirs : Summary) → length (flat_map record_bytes (lacking n from theirs)) ≤ room
unfolding lacking
lacking-short n from theirs = fitting-short room (filter_map n.held (wanted n from theirs))

head-long : (kind from : ℕ) → length (head_bytes kind from) ≡ 6
unfolding head_bytes
head-long kind from = refl

records-bytes_long : (records : List Record) → length (records_bytes records) ≡ 2 + length (flat_map record_bytes records)
unfolding records_bytes
records-bytes_long records = omega (arith, length-append (to_be_bytes w16 (length records)) (flat_map record_bytes records), two_bytes (length records))

-- Records that have a spelling, and fit, are a datagram.
pub is-datagram : (from : ℕ) (records : List Record) → from < MEMBERS → 0 < length records → AllByRecursion IsSignedRecord records → length (flat_map record_bytes records) ≤ room
    → IsDatagram (datagram_bytes (kinds.Records from records)) (kinds.Records from records)
is-datagram from records sender some all short =
    record {
      rules = record { sender = sender; some = some; few = omega (arith, records-long records, short); each = All-from_recursion IsSignedRecord records all };
      spelled = refl;
      few = omega (arith, length-append (head_bytes 4 from) (records_bytes records), head-long 4 from, records-bytes_long records, short);
    }

pub lacking-datagram : (s : Setting) (n : Node) (from : ℕ) (theirs : Summary) → s.me < MEMBERS → ((k : RecordKey) (r : Record) → n.held k ≡ Some r → IsSignedRecord r) → 0 < length (lacking n from theirs)
    → IsDatagram (datagram_bytes (kinds.Records s.me (lacking n from theirs))) (kinds.Records s.me (lacking n from theirs))
lacking-datagram s n from theirs me formed some = is-datagram s.me (lacking n from theirs) me some (lacking-all n from theirs formed) (lacking-short n from theirs)

-- ---- a summary is answered

given-alone : (s : Setting) (to : ℕ) (records : List Record) (c : Call) → c.sent ≡ [] → 0 < length records → (gives s to records c).sent ≡ (to, datagram_bytes (kinds.Records s.me records)) ∷ []
unfolding sends
given-alone s to [] c none some = absurd (omega (arith, some))
given-alone s to (r ∷ records) c none some = ap (λ sent. sent ++ (to, datagram_bytes (kinds.Records s.me (r ∷ records))) ∷ []) none

replied-behind : (s : Setting) (to : ℕ) (flag : Bool) (number : ℕ) (c : Call) (first : ℕ × List ℕ) → c.sent ≡ first ∷ [] → slice_get (replies s to flag number c).sent 0 ≡ Some first
unfolding sends
replied-behind s to true number c first one = ap (λ sent. slice_get sent 0) one
replied-behind s to false number c first one = ap (λ sent. slice_get (sent ++ (to, datagram_bytes (kinds.Summary s.me true (page c.node number))) ∷ []) 0) one

exchanged-first : (s : Setting) (from : ℕ) (flag : Bool) (theirs : Summary) (n : Node) → is_other s n from ≡ true → 0 < length (lacking n from theirs)
    → slice_get (exchanges s from flag theirs (begun n)).sent 0 ≡ Some (from, datagram_bytes (given_to s n from theirs))
exchanged-first s from flag theirs n other some =
    let c1 : Call = tells s (told.Summary from theirs.page flag) (begun n) in
    let c2 : Call = gives s from (lacking n from theirs) c1 in
    ap (λ b. slice_get (cond b (replies s from flag theirs.page c2) c1).sent 0) other
    ∙ replied-behind s from flag theirs.page c2 (from, datagram_bytes (given_to s n from theirs)) (given-alone s from (lacking n from theirs) c1 refl some)

pub summary-answered : (s : Setting) (n : Node) (from : ℕ) (flag : Bool) (theirs : Summary) (bytes : List ℕ) → IsDatagram bytes (kinds.Summary from flag theirs) → is_other s n from ≡ true → 0 < length (lacking n from theirs)
    → slice_get (delivered s n bytes).sent 0 ≡ Some (from, datagram_bytes (given_to s n from theirs))
unfolding delivered
summary-answered s n from flag theirs bytes is other some =
    ap (λ d. slice_get (hears s d (begun n)).sent 0) (read_again bytes (kinds.Summary from flag theirs) is) ∙ exchanged-first s from flag theirs n other some
