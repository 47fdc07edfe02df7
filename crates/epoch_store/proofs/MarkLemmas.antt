-- Whether a migration entry's mark stands in a seat, as the bytes tell that were read there.
use Rattle.std.proofs.Common.{◌≡◌, ◌≢◌, ℕ, ◌+◌, ◌<◌, ◌≤◌, nat_eq, nat_le, ◌⊎◌, inl, inr, Bool, true, false, None, Option, List, [], ◌∷◌, ◌++◌, length, take, drop, get_or, refl, sym, ap, ◌∙◌, arith, length-append, length-take, length-drop, Err}
use Rattle.std.specs.List.{common_prefix_len}
use Rattle.std.proofs.lemmas.Bool.{cases_Bool, cases_eq, leb-true, leb-false}
use Rattle.std.proofs.lemmas.List.{drop_at, take-append-drop}
use Rattle.ports.specs.Disk.{Moment}
use Rattle.ports.specs.DiskCalls.{DiskCall, ToRead, with_call}
use Rattle.ports.specs.DiskSteps.{came_to, runs_on}
use Rattle.ports.specs.MemoryDisk.{DiskState}
use Rattle.ports.proofs.RunLemmas.{runs_on_no_further}
use Rattle.epoch_store.specs.declared.Stored.{Stored}
use Rattle.epoch_store.specs.declared.StoreError.TheVariants.{Fault}
use Rattle.epoch_store.specs.declared.entry.Look.TheVariants as looks
use Rattle.epoch_store.specs.declared.seat.Seat.{Seat}
use Rattle.epoch_store.specs.Seat.{moved_length, width, width_by}
use Rattle.epoch_store.specs.Store.{mark, mask_bytes, spelled_by}
use Rattle.epoch_store.specs.Reading.{IsClosed, IsMarked}
use Rattle.epoch_store.specs.Looks.{Looks}
use Rattle.epoch_store.specs.Calls.{HasBytes}
use Rattle.epoch_store.specs.Asked.{ReadsMark, ReadsOneGate}
use Rattle.epoch_store.specs.Followed.{ReadsOneGateFrom}
use Rattle.epoch_store.proofs.EntryLemmas.{kept_unmarked}
use Rattle.epoch_store.proofs.FoundLemmas.{self_prefix, whole_prefix}
use Rattle.epoch_store.proofs.OnceLemmas.{closed_open}
use Rattle.epoch_store.proofs.ReadLemmas.{closed_in}

-- ---- the bytes from a gate on are marked or not

marks_some : (wide : Bool) → 4 ≤ length (mask_bytes wide (mark wide))
marks_some false = omega arith
marks_some true = omega arith

marked_size : (wide : Bool) → width_by wide ≡ 13 + length (mask_bytes wide (mark wide))
marked_size false = refl
marked_size true = refl

-- the mark comes behind twelve bytes
marks_behind : (wide : Bool) (x : ℕ) (xs : List ℕ) (m : IsMarked wide (x ∷ xs)) → drop 12 xs ≡ mask_bytes wide (mark wide) ++ m.rest
marks_behind wide x xs m = ap (λ (b : List ℕ). drop 12 (drop 1 b)) m.begins ∙ drop_at m.before (mask_bytes wide (mark wide) ++ m.rest) 12 m.twelve

marked_at : (wide : Bool) (xs : List ℕ) → length (mask_bytes wide (mark wide)) ≤ common_prefix_len nat_eq (mask_bytes wide (mark wide)) (drop 12 xs) → IsMarked wide (1 ∷ xs)
marked_at wide xs all =
    let marks = mask_bytes wide (mark wide) in
    let tail : List ℕ = drop 12 xs in
    let there : take (length marks) tail ≡ marks = whole_prefix marks tail all in
    let more : List ℕ = drop (length marks) tail in
    let sizes : length tail ≡ length marks + length more = ap length (sym (take-append-drop (length marks) tail)) ∙ length-append (take (length marks) tail) more ∙ ap (λ (b : List ℕ). length b + length more) there in
    record {
      before = take 12 xs;
      rest = more;
      twelve = omega (arith, sizes, marks_some wide, length-drop 12 xs, length-take 12 xs);
      begins =
          ap (λ (b : List ℕ). 1 ∷ b)
          (sym (take-append-drop 12 xs)
          ∙ ap (λ (b : List ℕ). take 12 xs ++ b) (sym (take-append-drop (length marks) tail) ∙ ap (λ (b : List ℕ). b ++ more) there));
    }

marked_or_not : (wide : Bool) (bytes : List ℕ) → IsMarked wide bytes ⊎ (IsMarked wide bytes → ⊥)
marked_or_not wide [] = inr (λ m. let sizes = ap length m.begins in omega (arith, sizes))
marked_or_not wide (x ∷ xs) =
    let marks = mask_bytes wide (mark wide) in
    elim (cases_eq x 1) [
      | inl one ↦
          elim (cases_Bool (nat_le (length marks) (common_prefix_len nat_eq marks (drop 12 xs)))) [
            | inl all ↦ inl (let m = marked_at wide xs (leb-true _ _ all) in rw one m)
            | inr few ↦
                inr (λ m.
                let same : common_prefix_len nat_eq marks (drop 12 xs) ≡ length marks = ap (common_prefix_len nat_eq marks) (marks_behind wide x xs m) ∙ self_prefix marks m.rest in
                let less = leb-false (length marks) (common_prefix_len nat_eq marks (drop 12 xs)) few in
                omega (arith, same, less))
          ]
      | inr other ↦ inr (λ m. other (ap (λ (b : List ℕ). get_or b 0 0) m.begins))
    ]

-- ---- what was read of a seat tells that no mark stands there

marked_long : (wide : Bool) (bytes : List ℕ) → IsMarked wide bytes → width_by wide ≤ length bytes
marked_long wide bytes m =
    let marks = mask_bytes wide (mark wide) in
    omega (arith, m.twelve, marked_size wide, ap length m.begins, length-append m.before (marks ++ m.rest), length-append marks m.rest)

pub cut_unmarked : (moments : List Moment) (seat : Seat) (bytes : List ℕ) → HasBytes moments seat bytes → length bytes < width seat → ReadsMark moments seat false
cut_unmarked [] seat bytes part short = tt
cut_unmarked (now ∷ past) seat bytes part short = λ marked.
    let rest : List ℕ = drop seat.gate now.image in
    omega (arith, short, ap length part, length-take (width seat) rest, marked_long seat.wide rest marked)

pub shut_unmarked : (moments : List Moment) (seat : Seat) (bytes : List ℕ) → HasBytes moments seat bytes → IsClosed bytes → ReadsMark moments seat false
shut_unmarked [] seat bytes part closed = tt
shut_unmarked (now ∷ past) seat bytes part closed = λ marked.
    closed_open (drop seat.gate now.image) (marked.before ++ (mask_bytes seat.wide (mark seat.wide) ++ marked.rest)) (closed_in now.image bytes seat part closed) marked.begins

pub kept_no_mark : (moments : List Moment) (seat : Seat) (bytes : List ℕ) (s : Stored) → HasBytes moments seat bytes → Looks seat.wide bytes (looks.Fields s) → s.mask.0 ≢ mark seat.wide → ReadsMark moments seat false
kept_no_mark [] seat bytes s part looks other = tt
kept_no_mark (now ∷ past) seat bytes s part looks other = λ marked.
    let rest : List ℕ = drop seat.gate now.image in
    let behind : List ℕ = drop (width seat) rest in
    let begins : rest ≡ 1 ∷ (spelled_by seat.wide None s ++ behind) =
    sym (take-append-drop (width seat) rest) ∙ ap (λ (b : List ℕ). b ++ behind) (sym part ∙ looks.1 ∙ ap (λ (b : List ℕ). 1 ∷ b) looks.2.spell) in
    kept_unmarked seat.wide rest s behind (looks.2.mask_fits, other) begins marked

-- ---- the first read of a seat failed

pub first_read_fails : (seat : Seat) (moments : List Moment) (older newer : Option (List DiskCall)) → newer ≡ with_call (ToRead seat.gate (width seat)) older → ReadsOneGate seat moments (Err Fault) older newer
first_read_fails seat [] older newer is = (false, tt, record { left_out = 0; made = is })
first_read_fails seat (now ∷ past) older newer is =
    elim (marked_or_not seat.wide (drop seat.gate now.image)) [
      | inl marked ↦ (true, marked, record { left_out = 1; made = is })
      | inr unmarked ↦ (false, unmarked, record { left_out = 0; made = is })
    ]

pub first_read_came : (seat : Seat) (moments : List Moment) (older newer : Option DiskState) → came_to newer true ≡ runs_on (ToRead seat.gate (width seat) ∷ []) older → ReadsOneGateFrom seat moments (Err Fault) older newer
first_read_came seat [] older newer is = (false, tt, is)
first_read_came seat (now ∷ past) older newer is =
    elim (marked_or_not seat.wide (drop seat.gate now.image)) [
      | inl marked ↦ (true, marked, runs_on_no_further (ToRead (seat.gate + width seat) moved_length ∷ []) (ToRead seat.gate (width seat) ∷ []) older newer is)
      | inr unmarked ↦ (false, unmarked, is)
    ]
