-- A file has one reading.
use Rattle.std.proofs.Common.{◌≡◌, ℕ, suc, ◌+◌, ◌<◌, ◌≤◌, inl, inr, Bool, Option, None, Some, List, ◌∷◌, ◌++◌, length, take, drop, get_or, sym, ap, ◌∙◌, subst, arith, length-append, Result, Ok, Err}
use Rattle.epoch_store.specs.declared.Stored.{Stored}
use Rattle.epoch_store.specs.declared.entry.Entry.{Entry}
use Rattle.epoch_store.specs.declared.entry.Gate.{Gate}
use Rattle.epoch_store.specs.declared.entry.Gate.TheVariants.{Shut, Open}
use Rattle.epoch_store.specs.declared.seat.Seat.{Seat}
use Rattle.epoch_store.specs.Seat.{behind, header_length, moved_length, width_by}
use Rattle.epoch_store.specs.Store.{spelled, spelled_by}
use Rattle.epoch_store.specs.Reading.{Reading, Breaks, FitsMask, IsClosed, IsCut, IsMarked, IsOpenEntry, ReadsBehind, ReadsFrom, Reads, Stands, StandsIn, closes, head_seat, wrong_field}
use Rattle.epoch_store.proofs.EntryLemmas.{kept_unmarked, length-keeps, length-moves, same_entry}

pub closed_open : (bytes rest : List ℕ) → IsClosed bytes → bytes ≡ 1 ∷ rest → ⊥
closed_open bytes rest closed is = closed.closed (ap (λ (b : List ℕ). get_or b 0 0) (sym closed.begins ∙ is))

closed_cut : (wide : Bool) (bytes : List ℕ) → IsClosed bytes → IsCut wide bytes → ⊥
closed_cut wide bytes closed cut =
    elim cut.gate_open [
      | inl none ↦ let sizes = ap length (sym none ∙ closed.begins) in omega (arith, sizes)
      | inr more ↦ closed_open bytes more.0 closed more.1
    ]

-- an entry is as long as its width says
entry_long : (wide : Bool) (moved : Option (List ℕ)) (s : Stored) (rest : List ℕ) → FitsMask wide moved s.mask.0 → width_by wide ≤ 1 + length (spelled_by wide moved s ++ rest)
entry_long wide None s rest fits = omega (arith, length-keeps wide s, length-append (spelled_by wide None s) rest)
entry_long wide (Some tag) s rest fits = omega (arith, length-moves wide tag s fits.1, length-append (spelled_by wide (Some tag) s) rest)

-- an entry that is cut behind a mark would be a migration entry
marked_long : (wide : Bool) (bytes : List ℕ) (moved : Option (List ℕ)) (s : Stored) (rest : List ℕ) → FitsMask wide moved s.mask.0 → bytes ≡ 1 ∷ (spelled_by wide moved s ++ rest) → IsMarked wide bytes → length bytes < width_by wide + moved_length → ⊥
marked_long wide bytes None s rest fits is marked short = kept_unmarked wide bytes s rest fits is marked
marked_long wide bytes (Some tag) s rest fits is marked short =
    omega (arith, short, ap length is, length-moves wide tag s fits.1, length-append (spelled_by wide (Some tag) s) rest)

pub cut_entry : (wide : Bool) (bytes : List ℕ) (e : Entry) → IsCut wide bytes → IsOpenEntry wide bytes e → ⊥
cut_entry wide bytes e cut entry =
    let size : length bytes ≡ suc (length (spelled wide e ++ entry.rest)) = ap length entry.begins in
    elim cut.short [
      | inl short ↦ let long = entry_long wide e.moved e.kept entry.rest entry.mask_fits in omega (arith, short, size, long)
      | inr marked ↦ marked_long wide bytes e.moved e.kept entry.rest entry.mask_fits entry.begins marked.0 marked.1
    ]

-- one thing stands at a gate
pub stands_once : (wide : Bool) (before : Option Stored) (bytes : List ℕ) (a b : Result Gate ℕ) → Stands wide before bytes a → Stands wide before bytes b → a ≡ b
stands_once wide before bytes (Ok (Shut s)) (Ok (Shut t)) x y = let same : s ≡ t = cc (x.1, y.1) in ap (λ (z : Stored). Ok (Shut z)) same
stands_once wide before bytes (Ok (Shut s)) (Ok (Open e)) x y = absurd (closed_open bytes (spelled wide e ++ y.0.rest) x.0 y.0.begins)
stands_once wide before bytes (Ok (Shut s)) (Err at) x (inl y) = cc (x.1, y.1)
stands_once wide before bytes (Ok (Shut s)) (Err at) x (inr (inl y)) = absurd (closed_cut wide bytes x.0 y.0)
stands_once wide before bytes (Ok (Shut s)) (Err at) x (inr (inr y)) = absurd (closed_open bytes (spelled wide y.0 ++ y.1.rest) x.0 y.1.begins)
stands_once wide before bytes (Ok (Open e)) (Ok (Shut t)) x y = absurd (closed_open bytes (spelled wide e ++ x.0.rest) y.0 x.0.begins)
stands_once wide before bytes (Ok (Open e)) (Ok (Open f)) x y = ap (λ (z : Entry). Ok (Open z)) (same_entry wide bytes e f x.0 y.0)
stands_once wide before bytes (Ok (Open e)) (Err at) x (inl y) = absurd (closed_open bytes (spelled wide e ++ x.0.rest) y.0 x.0.begins)
stands_once wide before bytes (Ok (Open e)) (Err at) x (inr (inl y)) = absurd (cut_entry wide bytes e y.0 x.0)
stands_once wide before bytes (Ok (Open e)) (Err at) x (inr (inr y)) =
    let same = same_entry wide bytes e y.0 x.0 y.1 in
    let wrong : wrong_field wide before e ≡ Some at = rw same y.2 in cc (x.1, wrong)
stands_once wide before bytes (Err at) (Ok (Shut t)) (inl x) y = cc (x.1, y.1)
stands_once wide before bytes (Err at) (Ok (Shut t)) (inr (inl x)) y = absurd (closed_cut wide bytes y.0 x.0)
stands_once wide before bytes (Err at) (Ok (Shut t)) (inr (inr x)) y = absurd (closed_open bytes (spelled wide x.0 ++ x.1.rest) y.0 x.1.begins)
stands_once wide before bytes (Err at) (Ok (Open f)) (inl x) y = absurd (closed_open bytes (spelled wide f ++ y.0.rest) x.0 y.0.begins)
stands_once wide before bytes (Err at) (Ok (Open f)) (inr (inl x)) y = absurd (cut_entry wide bytes f x.0 y.0)
stands_once wide before bytes (Err at) (Ok (Open f)) (inr (inr x)) y =
    let same = same_entry wide bytes f x.0 y.0 x.1 in
    let wrong : wrong_field wide before f ≡ Some at = rw same x.2 in cc (y.1, wrong)
stands_once wide before bytes (Err at) (Err to) (inl x) (inl y) = ap Err (x.2 ∙ sym y.2)
stands_once wide before bytes (Err at) (Err to) (inl x) (inr (inl y)) = absurd (closed_cut wide bytes x.0 y.0)
stands_once wide before bytes (Err at) (Err to) (inl x) (inr (inr y)) = absurd (closed_open bytes (spelled wide y.0 ++ y.1.rest) x.0 y.1.begins)
stands_once wide before bytes (Err at) (Err to) (inr (inl x)) (inl y) = absurd (closed_cut wide bytes y.0 x.0)
stands_once wide before bytes (Err at) (Err to) (inr (inl x)) (inr (inl y)) = ap Err (x.1 ∙ sym y.1)
stands_once wide before bytes (Err at) (Err to) (inr (inl x)) (inr (inr y)) = absurd (cut_entry wide bytes y.0 x.0 y.1)
stands_once wide before bytes (Err at) (Err to) (inr (inr x)) (inl y) = absurd (closed_open bytes (spelled wide x.0 ++ x.1.rest) y.0 x.1.begins)
stands_once wide before bytes (Err at) (Err to) (inr (inr x)) (inr (inl y)) = absurd (cut_entry wide bytes x.0 y.0 x.1)
stands_once wide before bytes (Err at) (Err to) (inr (inr x)) (inr (inr y)) =
    let same = same_entry wide bytes x.0 y.0 x.1 y.1 in
    let wrong : wrong_field wide before x.0 ≡ Some to = rw same y.2 in
    let both : at ≡ to = cc (x.2, wrong) in ap Err both

in_seat : (image : List ℕ) (before : Option Stored) (seat : Seat) (a b : Result Gate ℕ) → StandsIn image before seat a → StandsIn image before seat b → a ≡ b
in_seat image before seat a b x y = stands_once seat.wide before (drop seat.gate image) a b x y

reads_from_once : (tag image : List ℕ) (before : Option Stored) (seat : Seat) (a b : Reading) → ReadsFrom tag image before seat a → ReadsFrom tag image before seat b → a ≡ b
reads_from_once tag image before seat a b (ReadsFrom.ends _ _ s x) (ReadsFrom.ends _ _ t y) =
    let same = in_seat image before seat (Ok (Shut s)) (Ok (Shut t)) x y in
    let both : s ≡ t = cc in ap (λ (z : Stored). closes tag z seat) both
reads_from_once tag image before seat a b (ReadsFrom.ends _ _ s x) (ReadsFrom.breaks _ _ at y) =
    let same = in_seat image before seat (Ok (Shut s)) (Err at) x y in cc
reads_from_once tag image before seat a b (ReadsFrom.ends _ _ s x) (ReadsFrom.goes _ _ e _ y _) =
    let same = in_seat image before seat (Ok (Shut s)) (Ok (Open e)) x y in cc
reads_from_once tag image before seat a b (ReadsFrom.breaks _ _ at x) (ReadsFrom.ends _ _ t y) =
    let same = in_seat image before seat (Err at) (Ok (Shut t)) x y in cc
reads_from_once tag image before seat a b (ReadsFrom.breaks _ _ at x) (ReadsFrom.breaks _ _ to y) =
    let same = in_seat image before seat (Err at) (Err to) x y in
    let both : at ≡ to = cc in ap (λ (z : ℕ). Breaks (seat.gate + z)) both
reads_from_once tag image before seat a b (ReadsFrom.breaks _ _ at x) (ReadsFrom.goes _ _ e _ y _) =
    let same = in_seat image before seat (Err at) (Ok (Open e)) x y in cc
reads_from_once tag image before seat a b (ReadsFrom.goes _ _ e _ x _) (ReadsFrom.ends _ _ t y) =
    let same = in_seat image before seat (Ok (Open e)) (Ok (Shut t)) x y in cc
reads_from_once tag image before seat a b (ReadsFrom.goes _ _ e _ x _) (ReadsFrom.breaks _ _ to y) =
    let same = in_seat image before seat (Ok (Open e)) (Err to) x y in cc
reads_from_once tag image before seat a b (ReadsFrom.goes _ _ e _ x more) (ReadsFrom.goes _ _ f _ y rest) =
    let same = in_seat image before seat (Ok (Open e)) (Ok (Open f)) x y in
    let both : f ≡ e = cc in
    let P : Entry → Type 0 = λ z. ReadsFrom tag image (Some z.kept) (behind seat z) b in
    reads_from_once tag image (Some e.kept) (behind seat e) a b more (subst P both rest)

reads_once_by : (head : Result Seat ℕ) (tag image : List ℕ) (a b : Reading) → ReadsBehind tag image head a → ReadsBehind tag image head b → a ≡ b
reads_once_by (Ok first) tag image a b x y = reads_from_once tag image None first a b x y
reads_once_by (Err place) tag image a b x y = x ∙ sym y

pub reads_once : (tag image : List ℕ) (a b : Reading) → Reads tag image a → Reads tag image b → a ≡ b
reads_once tag image a b x y = reads_once_by (head_seat (take header_length image)) tag image a b x y
