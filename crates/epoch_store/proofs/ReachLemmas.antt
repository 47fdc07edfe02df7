-- How far reading goes: to the closed gate of a store, by the same reads each time.
use Rattle.std.proofs.Common.{◌≡◌, ℕ, Bool, true, Option, None, Some, is_some, List, [], ◌∷◌, ◌++◌, length, drop, take, refl, sym, ap, ◌∙◌, subst, append_assoc, Result, Ok}
use Rattle.ports.specs.DiskCalls.{DiskCall}
use Rattle.epoch_store.specs.declared.Stored.{Stored}
use Rattle.epoch_store.specs.declared.entry.Entry.{Entry}
use Rattle.epoch_store.specs.declared.entry.Gate.TheVariants.{Open}
use Rattle.epoch_store.specs.declared.seat.Seat.{Seat}
use Rattle.epoch_store.specs.Seat.{behind, first_seat, header_length, seat_from}
use Rattle.epoch_store.specs.Store.{IsChain, front, mark, mask_bytes, spelled, spelled_by}
use Rattle.epoch_store.specs.Reading.{FitsMask, IsClosed, IsMarked, StandsIn, head_seat, last_kept}
use Rattle.epoch_store.specs.Asked.{Passes, entry_reads, gate_reads}
use Rattle.epoch_store.proofs.EntryLemmas.{kept_unmarked}
use Rattle.epoch_store.proofs.OnceLemmas.{closed_open, stands_once}
use Rattle.epoch_store.proofs.FoundLemmas.{from_gate, stands_in_chain}

-- reading goes on from a seat to the closed gate: the reads until then, and all of them
pub data GoesOn (image : List ℕ) : Option Stored → Seat → List DiskCall → Seat → List DiskCall → Type 0 where
  stops : (before : Option Stored) (seat : Seat) (reads : List DiskCall) → IsClosed (drop seat.gate image) → GoesOn image before seat reads seat reads
  goes : (before : Option Stored) (seat : Seat) (e : Entry) (reads : List DiskCall) (shut : Seat) (all : List DiskCall) → StandsIn image before seat (Ok (Open e)) → GoesOn image (Some e.kept) (behind seat e) (gate_reads seat (is_some e.moved) ++ reads) shut all → GoesOn image before seat reads shut all

same_open : (image : List ℕ) (before : Option Stored) (seat : Seat) (e f : Entry) → StandsIn image before seat (Ok (Open e)) → StandsIn image before seat (Ok (Open f)) → f ≡ e
same_open image before seat e f x y =
    let same = stands_once seat.wide before (drop seat.gate image) (Ok (Open e)) (Ok (Open f)) x y in cc

abbrev IsAlike : Result Seat ℕ → Result Seat ℕ → Type 0
IsAlike x y = x ≡ y

ok_same : (a b : Seat) → IsAlike (Ok a) (Ok b) → a ≡ b
ok_same a b same = cc

-- behind an entry it goes on as before
past_entry : (image : List ℕ) (before : Option Stored) (seat : Seat) (e : Entry) (reads : List DiskCall) (shut : Seat) (all : List DiskCall) → StandsIn image before seat (Ok (Open e)) → GoesOn image before seat reads shut all
    → GoesOn image (Some e.kept) (behind seat e) (gate_reads seat (is_some e.moved) ++ reads) shut all
past_entry image before seat e reads shut all stands (GoesOn.stops _ _ _ closed) = absurd (closed_open (drop seat.gate image) (spelled seat.wide e ++ stands.0.rest) closed stands.0.begins)
past_entry image before seat e reads shut all stands (GoesOn.goes _ _ f _ _ _ other more) =
    let same = same_open image before seat e f stands other in
    subst (λ (x : Entry). GoesOn image (Some x.kept) (behind seat x) (gate_reads seat (is_some x.moved) ++ reads) shut all) same more

-- it goes on behind the entries that it passes
pub goes_from : (image : List ℕ) (first : Seat) (shut : Seat) (all : List DiskCall) → head_seat (take header_length image) ≡ Ok first → GoesOn image None first [] shut all → (start : Seat) (entries : List Entry) → Passes image start entries
    → GoesOn image (last_kept entries) (seat_from start entries) (entry_reads start entries) shut all
goes_from image first shut all head whole start [] is =
    let same : first ≡ start = ok_same first start (sym head ∙ is) in
    subst (λ (z : Seat). GoesOn image None z [] shut all) same whole
goes_from image first shut all head whole start (e ∷ older) passes =
    past_entry image (last_kept older) (seat_from start older) e (entry_reads start older) shut all passes.1 (goes_from image first shut all head whole start older passes.0)

-- the reads until a seat are the last ones of all
pub front_of_all : (image : List ℕ) (before : Option Stored) (seat : Seat) (reads : List DiskCall) (shut : Seat) (all : List DiskCall) → GoesOn image before seat reads shut all → (more : List DiskCall) × (all ≡ more ++ reads)
front_of_all image before seat reads shut all (GoesOn.stops _ _ _ closed) = ([], refl)
front_of_all image before seat reads shut all (GoesOn.goes _ _ e _ _ _ stands rest) =
    let later = front_of_all image (Some e.kept) (behind seat e) (gate_reads seat (is_some e.moved) ++ reads) shut all rest in
    (later.0 ++ gate_reads seat (is_some e.moved), later.1 ∙ sym (append_assoc later.0 (gate_reads seat (is_some e.moved)) reads))

-- a closed gate is the last one
pub at_closed : (image : List ℕ) (before : Option Stored) (seat : Seat) (reads : List DiskCall) (shut : Seat) (all : List DiskCall) → GoesOn image before seat reads shut all → IsClosed (drop seat.gate image) → (seat ≡ shut) × (reads ≡ all)
at_closed image before seat reads shut all (GoesOn.stops _ _ _ closed) here = (refl, refl)
at_closed image before seat reads shut all (GoesOn.goes _ _ e _ _ _ stands rest) here = absurd (closed_open (drop seat.gate image) (spelled seat.wide e ++ stands.0.rest) here stands.0.begins)

-- where a mark stands, what is behind it is read too
pub at_mark : (image : List ℕ) (before : Option Stored) (seat : Seat) (reads : List DiskCall) (shut : Seat) (all : List DiskCall) → GoesOn image before seat reads shut all → IsMarked seat.wide (drop seat.gate image) → (more : List DiskCall) × (all ≡ more ++ (gate_reads seat true ++ reads))
at_mark image before seat reads shut all (GoesOn.stops _ _ _ closed) marked = absurd (closed_open (drop seat.gate image) (marked.before ++ (mask_bytes seat.wide (mark seat.wide) ++ marked.rest)) closed marked.begins)
at_mark image before seat reads shut all (GoesOn.goes _ _ e _ _ _ stands rest) marked =
    let later = front_of_all image (Some e.kept) (behind seat e) (gate_reads seat (is_some e.moved) ++ reads) shut all rest in
    (later.0, later.1 ∙ ap (λ (moved : Bool). later.0 ++ (gate_reads seat moved ++ reads)) (moves e.moved stands.0.mask_fits stands.0.begins))
  where
    moves : (moved : Option (List ℕ)) → FitsMask seat.wide moved e.kept.mask.0 → drop seat.gate image ≡ 1 ∷ (spelled_by seat.wide moved e.kept ++ stands.0.rest) → is_some moved ≡ true
    moves None fits is = absurd (kept_unmarked seat.wide (drop seat.gate image) e.kept stands.0.rest fits is marked)
    moves (Some tag) fits is = refl

-- the file of these entries is read to the closed gate behind them
goes_behind : (image : List ℕ) (wide : Bool) (header : List ℕ) (entries : List Entry) (rest : List ℕ) (shut : Seat) (all : List DiskCall) → length header ≡ 32 → IsChain (first_seat wide header) entries → image ≡ front wide header entries ++ rest
    → GoesOn image (last_kept entries) (seat_from (first_seat wide header) entries) (entry_reads (first_seat wide header) entries) shut all → GoesOn image None (first_seat wide header) [] shut all
goes_behind image wide header [] rest shut all long chain bytes more = more
goes_behind image wide header (e ∷ older) rest shut all long chain bytes more =
    let seat = seat_from (first_seat wide header) older in
    let entry : List ℕ = 1 ∷ spelled seat.wide e in
    let shape : image ≡ front wide header older ++ (entry ++ rest) = bytes ∙ append_assoc (front wide header older) entry rest in
    let cut = from_gate wide header older (entry ++ rest) image long chain.2 shape in
    let stands = stands_in_chain (first_seat wide header) older e (drop seat.gate image) rest chain cut in
    goes_behind image wide header older (entry ++ rest) shut all long chain.2 shape (GoesOn.goes (last_kept older) seat e (entry_reads (first_seat wide header) older) shut all stands more)

pub goes_whole : (image : List ℕ) (wide : Bool) (header : List ℕ) (entries : List Entry) (shut : ℕ) (rest : List ℕ) → length header ≡ 32 → IsChain (first_seat wide header) entries → (shut ≡ 1 → ⊥) → image ≡ front wide header entries ++ shut ∷ rest
    → GoesOn image None (first_seat wide header) [] (seat_from (first_seat wide header) entries) (entry_reads (first_seat wide header) entries)
goes_whole image wide header entries shut rest long chain closed bytes =
    let cut = from_gate wide header entries (shut ∷ rest) image long chain bytes in
    goes_behind image wide header entries (shut ∷ rest) (seat_from (first_seat wide header) entries) (entry_reads (first_seat wide header) entries) long chain bytes
    (GoesOn.stops (last_kept entries) (seat_from (first_seat wide header) entries) (entry_reads (first_seat wide header) entries) (record { gate = shut; rest = rest; begins = cut; closed = closed }))
