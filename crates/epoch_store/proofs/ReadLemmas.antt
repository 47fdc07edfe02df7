-- What a part of the file reports of the whole.
use Rattle.std.proofs.Common.{◌≡◌, ◌≢◌, ℕ, zero, suc, ◌+◌, ◌<◌, ◌≤◌, ◌&&◌, nat_le, ◌⊎◌, inl, inr, Bool, true, false, Option, None, Some, List, [], ◌∷◌, ◌++◌, length, take, drop, refl, sym, ap, ◌∙◌, subst, arith, append_assoc, length-append, Result, Ok, Err}
use Rattle.std.specs.List.{slice_get}
use Rattle.std.proofs.lemmas.List.{append-nil, drop-drop, length-take-le, take-append-le, take-append-drop}
use Rattle.epoch_store.specs.declared.Stored.{Stored}
use Rattle.epoch_store.specs.declared.entry.Entry.{Entry}
use Rattle.epoch_store.specs.declared.entry.Gate.{Gate}
use Rattle.epoch_store.specs.declared.entry.Gate.TheVariants.{Shut, Open}
use Rattle.epoch_store.specs.declared.entry.Look.TheVariants as looks
use Rattle.epoch_store.specs.declared.seat.Seat.{Seat}
use Rattle.epoch_store.specs.Seat.{behind, width, width_by}
use Rattle.epoch_store.specs.Store.{mark, mask_bytes, numbers, spelled_by}
use Rattle.epoch_store.specs.declared.StoreError.{StoreError}
use Rattle.epoch_store.specs.declared.StoreError.TheVariants.{Fault, Taken, Broken, OtherKey, OutOfMemory}
use Rattle.epoch_store.specs.Reading.{FitsMask, IsClosed, IsCut, IsMarked, IsOpenEntry, first_broken, head_seat, is_above, is_at_least, mask_stands, own_mask_stands, wrong_field}
use Rattle.epoch_store.specs.Looks.{IsMoved, Looks}
use Rattle.epoch_store.specs.Asked.{ReadsMark}
use Rattle.epoch_store.specs.Calls.{ChecksHead, FindsGate, HasBytes, IsAfter, IsPlaced, Judges, OnRead, ReadsEntries, ReadsGate, ReadsHead, StoreState, answer_of}
use Rattle.epoch_store.proofs.EntryLemmas.{length-keeps}
use Rattle.ports.specs.Disk.{Moment, ReadsPart}

-- ---- parts of a list

pub slice_get-take : (n p : ℕ) (xs : List ℕ) → p < n → slice_get (take n xs) p ≡ slice_get xs p
slice_get-take zero p xs below = absurd (omega arith)
slice_get-take (suc n) p [] below = refl
slice_get-take (suc n) zero (x ∷ xs) below = refl
slice_get-take (suc n) (suc p) (x ∷ xs) below = slice_get-take n p xs (omega arith)

pub slice_get-drop : (n p : ℕ) (xs : List ℕ) → slice_get (drop n xs) p ≡ slice_get xs (n + p)
slice_get-drop zero p xs = let at : 0 + p ≡ p = omega arith in rw at refl
slice_get-drop (suc n) p [] = refl
slice_get-drop (suc n) p (x ∷ xs) = let at : suc n + p ≡ suc (n + p) = omega arith in rw at (slice_get-drop n p xs)

slice_get-end : (xs : List ℕ) → slice_get xs (length xs) ≡ None
slice_get-end [] = refl
slice_get-end (x ∷ xs) = slice_get-end xs

-- a part that is shorter than it might be is all
short_take : (n : ℕ) (xs : List ℕ) → length (take n xs) < n → take n xs ≡ xs
short_take zero xs short = absurd (omega arith)
short_take (suc n) [] short = refl
short_take (suc n) (x ∷ xs) short = ap (λ (b : List ℕ). x ∷ b) (short_take n xs (omega arith))

front_byte : (n x : ℕ) (xs rest : List ℕ) → take n xs ≡ x ∷ rest → xs ≡ x ∷ drop 1 xs
front_byte zero x xs rest is = cc
front_byte (suc n) x [] rest is = cc
front_byte (suc n) x (y ∷ xs) rest is = let same : y ≡ x = cc in ap (λ (z : ℕ). z ∷ xs) same

-- a part of what was read to the front of some room
pub part_length : (n : ℕ) (filled rest : List ℕ) → n ≤ length filled → length (take n (filled ++ rest)) ≡ n
part_length n filled rest few = ap length (take-append-le n filled rest few) ∙ length-take-le n filled few

-- two parts, one behind the other
two_parts : (n m : ℕ) (xs : List ℕ) → length (take n xs) ≡ n → take n xs ++ take m (drop n xs) ≡ take (n + m) xs
two_parts zero m xs whole = let at : 0 + m ≡ m = omega arith in rw at refl
two_parts (suc n) m [] whole = cc
two_parts (suc n) m (x ∷ xs) whole = let at : suc n + m ≡ suc (n + m) = omega arith in rw at (ap (λ (b : List ℕ). x ∷ b) (two_parts n m xs (omega (arith, whole))))

-- ---- the head

-- the head of the file is what was read of it
pub head_read : (moments : List Moment) (filled head : List ℕ) (n : ℕ) (result : Result Seat StoreError) → head ≡ take n filled → length filled ≡ 40 → ReadsPart moments 0 filled n → ChecksHead head result → ReadsHead moments result
head_read [] filled head n result is size reads checks = tt
head_read (now ∷ past) filled head n (Ok first) is size reads checks =
    let whole : head ≡ take 40 now.image = is ∙ reads ∙ ap (λ (k : ℕ). take k now.image) size in ap head_seat (sym whole) ∙ checks
head_read (now ∷ past) filled head n (Err Fault) is size reads checks = tt
head_read (now ∷ past) filled head n (Err (Taken len)) is size reads checks = checks
head_read (now ∷ past) filled head n (Err (Broken place byte)) is size reads checks =
    let whole : head ≡ take 40 now.image = is ∙ reads ∙ ap (λ (k : ℕ). take k now.image) size in
    (ap head_seat (sym whole) ∙ checks.0, checks.1 ∙ ap (λ (h : List ℕ). slice_get h place) whole ∙ slice_get-take 40 place now.image checks.2)
head_read (now ∷ past) filled head n (Err (OtherKey place byte)) is size reads checks = checks
head_read (now ∷ past) filled head n (Err OutOfMemory) is size reads checks = checks

-- ---- what stands at a gate

-- these bytes are those of the file, where it is modelled
pub has_bytes : (moments : List Moment) (seat : Seat) (filled bytes : List ℕ) (n : ℕ) → bytes ≡ take n filled → length filled ≡ width seat → ReadsPart moments seat.gate filled n → HasBytes moments seat bytes
has_bytes [] seat filled bytes n is size reads = tt
has_bytes (now ∷ past) seat filled bytes n is size reads = is ∙ reads ∙ ap (λ (k : ℕ). take k (drop seat.gate now.image)) size

first_small : (a b c d : Bool) (end at : ℕ) → first_broken ((1, a) ∷ (5, b) ∷ (13, c) ∷ (end, d) ∷ []) ≡ Some at → (at < 17) ⊎ ((d ≡ false) × (at ≡ end))
first_small false b c d end at is = let same : 1 ≡ at = cc in inl (omega (arith, same))
first_small true false c d end at is = let same : 5 ≡ at = cc in inl (omega (arith, same))
first_small true true false d end at is = let same : 13 ≡ at = cc in inl (omega (arith, same))
first_small true true true false end at is = inr (refl, cc)
first_small true true true true end at is = cc

-- a field is wrong within the entry
wrong_small : (wide : Bool) (before : Option Stored) (e : Entry) (at : ℕ) → wrong_field wide before e ≡ Some at → (at < 17) ⊎ ((own_mask_stands e.moved e.kept.mask.0 ≡ false) × (at ≡ width_by wide + 32))
wrong_small wide before e at is =
    first_small (nat_le e.kept.next 32768 && is_above before e.kept.next) (nat_le e.kept.epoch e.kept.next && is_at_least before e.kept.epoch) (mask_stands wide before e.moved e.kept.mask.0) (own_mask_stands e.moved e.kept.mask.0) (width_by wide + 32) at is

pub width_some : (wide : Bool) → 17 ≤ width_by wide
width_some false = omega arith
width_some true = omega arith

own_kept : (moved : Option (List ℕ)) (mask : ℕ) → moved ≡ None → own_mask_stands moved mask ≡ false → ⊥
own_kept None mask none stands = cc
own_kept (Some tag) mask none stands = cc

pub kept_small : (wide : Bool) (before : Option Stored) (e : Entry) (at : ℕ) → e.moved ≡ None → wrong_field wide before e ≡ Some at → at < width_by wide
kept_small wide before e at none is =
    elim (wrong_small wide before e at is) [
      | inl small ↦ omega (arith, small, width_some wide)
      | inr own ↦ absurd (own_kept e.moved e.kept.mask.0 none own.0)
    ]

pub moved_small : (wide : Bool) (before : Option Stored) (e : Entry) (at : ℕ) → wrong_field wide before e ≡ Some at → at < width_by wide + 40
moved_small wide before e at is =
    elim (wrong_small wide before e at is) [
      | inl small ↦ omega (arith, small)
      | inr own ↦ omega (arith, own.1)
    ]

-- the file ends within the gate and its entry
pub gate_cut : (moments : List Moment) (before : Option Stored) (seat : Seat) (bytes : List ℕ) (place : ℕ) → HasBytes moments seat bytes → Looks seat.wide bytes looks.Cut → place ≡ seat.gate + length bytes → ReadsGate before seat moments (Err (Broken place None))
gate_cut [] before seat bytes place part looks at = tt
gate_cut (now ∷ past) before seat bytes place part looks at =
    let rest : List ℕ = drop seat.gate now.image in
    let all : bytes ≡ rest = part ∙ short_take (width seat) rest (subst (λ (b : List ℕ). length b < width seat) part looks.1) in
    let cut : IsCut seat.wide bytes = record { gate_open = looks.0; short = inl looks.1 } in
    let size : place ≡ seat.gate + length rest = at ∙ ap (λ (b : List ℕ). seat.gate + length b) all in (
      length rest,
      inr (inl (subst (IsCut seat.wide) all cut, refl)),
      size,
      sym (ap (slice_get now.image) size ∙ sym (slice_get-drop seat.gate (length rest) now.image) ∙ slice_get-end rest),
    )

pub closed_in : (image bytes : List ℕ) (seat : Seat) → bytes ≡ take (width seat) (drop seat.gate image) → IsClosed bytes → IsClosed (drop seat.gate image)
closed_in image bytes seat part closed = record {
  gate = closed.gate;
  rest = drop 1 (drop seat.gate image);
  begins = front_byte (width seat) closed.gate (drop seat.gate image) closed.rest (sym part ∙ closed.begins);
  closed = closed.closed;
}

-- the gate is closed
pub gate_shut : (moments : List Moment) (before : Option Stored) (seat : Seat) (bytes : List ℕ) (state : Stored) → HasBytes moments seat bytes → IsClosed bytes → before ≡ Some state → ReadsGate before seat moments (Ok (Shut state))
gate_shut [] before seat bytes state part closed is = tt
gate_shut (now ∷ past) before seat bytes state part closed is = (closed_in now.image bytes seat part closed, is)

-- the first gate is closed
pub gate_none : (moments : List Moment) (before : Option Stored) (seat : Seat) (bytes : List ℕ) (byte : Option ℕ) → HasBytes moments seat bytes → IsClosed bytes → before ≡ None → byte ≡ slice_get bytes 0 → ReadsGate before seat moments (Err (Broken seat.gate byte))
gate_none [] before seat bytes byte part closed is shown = tt
gate_none (now ∷ past) before seat bytes byte part closed is shown =
    let none : seat.gate ≡ seat.gate + 0 = omega arith in
    let some : 0 < width seat = omega (arith, width_some seat.wide) in (
      0,
      inl (closed_in now.image bytes seat part closed, is, refl),
      none,
      shown ∙ ap (λ (b : List ℕ). slice_get b 0) part ∙ slice_get-take (width seat) 0 (drop seat.gate now.image) some ∙ slice_get-drop seat.gate 0 now.image ∙ ap (slice_get now.image) (sym none),
    )

-- an entry that was judged
judged : (image : List ℕ) (before : Option Stored) (seat : Seat) (e : Entry) (bytes : List ℕ) (n : ℕ) → IsOpenEntry seat.wide (drop seat.gate image) e → bytes ≡ take n (drop seat.gate image) → ((at : ℕ) → wrong_field seat.wide before e ≡ Some at → at < n)
    → (result : Result Gate StoreError) → Judges seat before e bytes result → Rattle.epoch_store.specs.Calls.GateAnswer before seat image result
judged image before seat e bytes n entry part small (Ok (Shut state)) judges = absurd judges
judged image before seat e bytes n entry part small (Ok (Open found)) judges =
    let P : Entry → Type 0 = λ x. IsOpenEntry seat.wide (drop seat.gate image) x × (wrong_field seat.wide before x ≡ None) in
    subst P (sym judges.0) (entry, judges.1)
judged image before seat e bytes n entry part small (Err Fault) judges = tt
judged image before seat e bytes n entry part small (Err (Taken len)) judges = judges
judged image before seat e bytes n entry part small (Err (Broken place byte)) judges =
    let at = judges.0 in (
      at,
      inr (inr (e, entry, judges.1)),
      judges.2,
      judges.3 ∙ ap (λ (b : List ℕ). slice_get b at) part ∙ slice_get-take n at (drop seat.gate image) (small at judges.1) ∙ slice_get-drop seat.gate at image ∙ ap (slice_get image) (sym judges.2),
    )
judged image before seat e bytes n entry part small (Err (OtherKey place byte)) judges = judges
judged image before seat e bytes n entry part small (Err OutOfMemory) judges = judges

-- an entry that keeps its state, and moves nothing
pub entry_kept : (moments : List Moment) (before : Option Stored) (seat : Seat) (s : Stored) (e : Entry) (bytes : List ℕ) (result : Result Gate StoreError) → HasBytes moments seat bytes → Looks seat.wide bytes (looks.Fields s) → s.mask.0 ≢ mark seat.wide → e ≡ record { kept = s; moved = None } → Judges seat before e (bytes ++ []) result → ReadsGate before seat moments result
entry_kept [] before seat s e bytes result part looks other is judges = tt
entry_kept (now ∷ past) before seat s e bytes result part looks other is judges =
    let rest : List ℕ = drop seat.gate now.image in
    let k : Entry = record { kept = s; moved = None } in
    let fields = looks.2 in
    let entry : IsOpenEntry seat.wide rest k = record {
      rest = drop (width seat) rest;
      begins = sym (take-append-drop (width seat) rest) ∙ ap (λ (b : List ℕ). b ++ drop (width seat) rest) (sym part ∙ looks.1 ∙ ap (λ (b : List ℕ). 1 ∷ b) fields.spell);
      next_fits = fields.next_fits;
      epoch_fits = fields.epoch_fits;
      mask_fits = (fields.mask_fits, other);
    } in
    let J : Entry → Type 0 = λ x. Judges seat before x (bytes ++ []) result in
    judged now.image before seat k (bytes ++ []) (width seat) entry (append-nil bytes ∙ part) (λ at wrong. kept_small seat.wide before k at refl wrong) result (subst J is judges)

numbers_same : (a b : Stored) → a.next ≡ b.next → a.epoch ≡ b.epoch → numbers a ≡ numbers b
numbers_same a b next epoch = λ i. numbers (record { next = next i; epoch = epoch i; mask = a.mask })

-- a migration entry, as far as its mark
marked_front : (seat : Seat) (s : Stored) (bytes : List ℕ) → Looks seat.wide bytes (looks.Fields s) → s.mask.0 ≡ mark seat.wide → bytes ≡ 1 ∷ (numbers s ++ mask_bytes seat.wide (mark seat.wide))
marked_front seat s bytes looks marked = looks.1 ∙ ap (λ (b : List ℕ). 1 ∷ b) looks.2.spell ∙ ap (λ (m : ℕ). 1 ∷ (numbers s ++ mask_bytes seat.wide m)) marked

length-numbers : (s : Stored) → length (numbers s) ≡ 12
length-numbers s = refl

pub width_is : (seat : Seat) (s : Stored) (bytes : List ℕ) → Looks seat.wide bytes (looks.Fields s) → length bytes ≡ width seat
width_is seat s bytes looks =
    let size : length bytes ≡ suc (length (spelled_by seat.wide None s)) = ap length (looks.1 ∙ ap (λ (b : List ℕ). 1 ∷ b) looks.2.spell) in
    omega (arith, size, length-keeps seat.wide s, width_some seat.wide)

-- these bytes stand behind a mark, where the file is modelled
abbrev pub HasTail : List Moment → Seat → List ℕ → Type 0
HasTail [] seat tail = Unit {0}
HasTail (now ∷ past) seat tail = tail ≡ take 40 (drop (seat.gate + width seat) now.image)

pub has_tail : (moments : List Moment) (seat : Seat) (filled tail : List ℕ) (n place : ℕ) → place ≡ seat.gate + width seat → tail ≡ take n filled → length filled ≡ 40 → ReadsPart moments place filled n → HasTail moments seat tail
has_tail [] seat filled tail n place at is size reads = tt
has_tail (now ∷ past) seat filled tail n place at is size reads =
    is ∙ reads ∙ ap (λ (k : ℕ). take k (drop place now.image)) size ∙ ap (λ (p : ℕ). take 40 (drop p now.image)) at

tail_of : (image : List ℕ) (seat : Seat) → drop (seat.gate + width seat) image ≡ drop (width seat) (drop seat.gate image)
tail_of image seat = sym (drop-drop (width seat) seat.gate image)

-- an entry that moves the store
pub entry_moved : (moments : List Moment) (before : Option Stored) (seat : Seat) (s : Stored) (e : Entry) (bytes tail : List ℕ) (result : Result Gate StoreError) → HasBytes moments seat bytes → Looks seat.wide bytes (looks.Fields s) → s.mask.0 ≡ mark seat.wide → HasTail moments seat tail → IsMoved s tail e → Judges seat before e (bytes ++ tail) result
    → ReadsGate before seat moments result
entry_moved [] before seat s e bytes tail result part looks marked behind moved judges = tt
entry_moved (now ∷ past) before seat s e bytes tail result part looks marked behind moved judges =
    let rest : List ℕ = drop seat.gate now.image in
    let w = width seat in
    let size : length (take w rest) ≡ w = subst (λ (b : List ℕ). length b ≡ w) part (width_is seat s bytes looks) in
    let second : tail ≡ take 40 (drop w rest) = behind ∙ ap (take 40) (tail_of now.image seat) in
    let both : bytes ++ tail ≡ take (w + 40) rest = (λ i. part i ++ second i) ∙ two_parts w 40 rest size in
    let front : bytes ≡ 1 ∷ (numbers e.kept ++ mask_bytes seat.wide (mark seat.wide)) =
    marked_front seat s bytes looks marked ∙ ap (λ (b : List ℕ). 1 ∷ (b ++ mask_bytes seat.wide (mark seat.wide))) (numbers_same s e.kept (sym moved.next) (sym moved.epoch)) in
    let spell : bytes ++ tail ≡ 1 ∷ spelled_by seat.wide (Some moved.tag) e.kept =
    ap (λ (b : List ℕ). b ++ tail) front ∙ ap (λ (b : List ℕ). (1 ∷ (numbers e.kept ++ mask_bytes seat.wide (mark seat.wide))) ++ b) moved.spell in
    let entry : IsOpenEntry seat.wide rest e = record {
      rest = drop (w + 40) rest;
      begins =
          sym (take-append-drop (w + 40) rest)
          ∙ ap (λ (b : List ℕ). b ++ drop (w + 40) rest) (sym both ∙ spell)
          ∙ ap (λ (m : Option (List ℕ)). 1 ∷ (spelled_by seat.wide m e.kept ++ drop (w + 40) rest)) (sym moved.is);
      next_fits = rw moved.next looks.2.next_fits;
      epoch_fits = rw moved.epoch looks.2.epoch_fits;
      mask_fits = let P : Option (List ℕ) → Type 0 = λ m. FitsMask seat.wide m e.kept.mask.0 in subst P (sym moved.is) (moved.mask_fits, moved.tag_long);
    } in
    judged now.image before seat e (bytes ++ tail) (w + 40) entry both (λ at wrong. moved_small seat.wide before e at wrong) result judges

marked_begins : (seat : Seat) (s : Stored) (bytes rest behind : List ℕ) → Looks seat.wide bytes (looks.Fields s) → s.mask.0 ≡ mark seat.wide → rest ≡ bytes ++ behind → rest ≡ 1 ∷ (numbers s ++ (mask_bytes seat.wide (mark seat.wide) ++ behind))
marked_begins seat s bytes rest behind looks marked is =
    is ∙ ap (λ (b : List ℕ). b ++ behind) (marked_front seat s bytes looks marked) ∙ ap (λ (b : List ℕ). 1 ∷ b) (append_assoc (numbers s) (mask_bytes seat.wide (mark seat.wide)) behind)

is_marked : (seat : Seat) (s : Stored) (bytes rest behind : List ℕ) → Looks seat.wide bytes (looks.Fields s) → s.mask.0 ≡ mark seat.wide → rest ≡ bytes ++ behind → IsMarked seat.wide rest
is_marked seat s bytes rest behind looks marked is = record { before = numbers s; rest = behind; twelve = length-numbers s; begins = marked_begins seat s bytes rest behind looks marked is }

-- the mark that was read stands in the file
pub marked_there : (moments : List Moment) (seat : Seat) (s : Stored) (bytes : List ℕ) → HasBytes moments seat bytes → Looks seat.wide bytes (looks.Fields s) → s.mask.0 ≡ mark seat.wide → ReadsMark moments seat true
marked_there [] seat s bytes part looks marked = tt
marked_there (now ∷ past) seat s bytes part looks marked =
    let rest : List ℕ = drop seat.gate now.image in
    is_marked seat s bytes rest (drop (width seat) rest) looks marked (sym (take-append-drop (width seat) rest) ∙ ap (λ (b : List ℕ). b ++ drop (width seat) rest) (sym part))

-- the file ends behind a mark
pub tail_cut : (moments : List Moment) (before : Option Stored) (seat : Seat) (s : Stored) (bytes tail : List ℕ) (place : ℕ) → HasBytes moments seat bytes → Looks seat.wide bytes (looks.Fields s) → s.mask.0 ≡ mark seat.wide → HasTail moments seat tail → length tail < 40 → place ≡ seat.gate + width seat + length tail
    → ReadsGate before seat moments (Err (Broken place None))
tail_cut [] before seat s bytes tail place part looks marked behind short at = tt
tail_cut (now ∷ past) before seat s bytes tail place part looks marked behind short at =
    let rest : List ℕ = drop seat.gate now.image in
    let w = width seat in
    let second : tail ≡ take 40 (drop w rest) = behind ∙ ap (take 40) (tail_of now.image seat) in
    let all : tail ≡ drop w rest = second ∙ short_take 40 (drop w rest) (subst (λ (b : List ℕ). length b < 40) second short) in
    let is : rest ≡ bytes ++ drop w rest = sym (take-append-drop w rest) ∙ ap (λ (b : List ℕ). b ++ drop w rest) (sym part) in
    let sizes : length rest ≡ w + length tail = omega (arith, ap length is, length-append bytes (drop w rest), ap length all, width_is seat s bytes looks) in
    let size : place ≡ seat.gate + length rest = omega (arith, at, sizes) in (
      length rest,
      inr (inl (
        record {
          gate_open = inr (numbers s ++ (mask_bytes seat.wide (mark seat.wide) ++ drop w rest), marked_begins seat s bytes rest (drop w rest) looks marked is);
          short = inr (is_marked seat s bytes rest (drop w rest) looks marked is, omega (arith, sizes, short));
        },
        refl,
      )),
      size,
      sym (ap (slice_get now.image) size ∙ sym (slice_get-drop seat.gate (length rest) now.image) ∙ slice_get-end rest),
    )
