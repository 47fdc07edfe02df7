-- What a reading finds is the store of the file, and the store of a file is found.
use Rattle.std.proofs.Common.{◌≡◌, ℕ, zero, suc, ◌+◌, ◌<◌, ◌≤◌, ◌^◌, inl, inr, Bool, true, false, ◌&&◌, nat_eq, nat_lt, nat_le, Option, None, Some, is_some, List, [], ◌∷◌, ◌++◌, length, take, drop, get_or, refl, sym, ap, ◌∙◌, subst, arith, codes, append_assoc, length-append, length-take, length-drop, eqb, cond, Result, Ok, Err}
use Rattle.std.specs.List.{common_prefix_len, slice_get}
use Rattle.std.proofs.lemmas.List.{append-nil, take_at, drop_at, take-append-drop, drop-drop, take_all}
use Rattle.std.proofs.lemmas.Bool.{and_parts, and_from, cases_Bool, eq-eqb, ltb-false, ltb-true, leb-true, eqb-true, le-leb, lt-ltb, le-ltb}
use Rattle.epoch_store.specs.declared.Stored.{Stored}
use Rattle.epoch_store.specs.declared.entry.Entry.{Entry}
use Rattle.epoch_store.specs.declared.seat.Seat.{Seat}
use Rattle.epoch_store.specs.Seat.{behind, first_seat, seat_from, width_by}
use Rattle.epoch_store.specs.Reading.{Reading, Finds, Differs, FitsMask, IsClosed, IsOpenEntry, ReadsBehind, ReadsFrom, Reads, closes, closes_by, first_broken, head_by, head_seat, last_kept, mask_stands, own_mask_stands, width_of, wrong_field}
use Rattle.epoch_store.specs.Store.{Comes, IsChain, IsEntryOf, IsHeld, StoreAt, StoreOf, entry_with, front, magic, spelled}
use Rattle.epoch_store.proofs.FileLemmas.{chain_tag, front-length, gate_past, store_tag}
use Rattle.epoch_store.proofs.OnceLemmas.{reads_once}

-- ---- rules

no_rule_broken : (a b c d : Bool) (place : ℕ) → first_broken ((1, a) ∷ (5, b) ∷ (13, c) ∷ (place, d) ∷ []) ≡ None → (a ≡ true) × (b ≡ true) × (c ≡ true) × (d ≡ true)
no_rule_broken false b c d place none = cc
no_rule_broken true false c d place none = cc
no_rule_broken true true false d place none = cc
no_rule_broken true true true false place none = cc
no_rule_broken true true true true place none = (refl, refl, refl, refl)

rules_met : (a b c d : Bool) (place : ℕ) → a ≡ true → b ≡ true → c ≡ true → d ≡ true → first_broken ((1, a) ∷ (5, b) ∷ (13, c) ∷ (place, d) ∷ []) ≡ None
rules_met a b c d place x y z w = rw (x, y, z, w) refl

-- a mask that may stand has few bits, and the entry holds it
mask_small : (wide : Bool) (before : Option Stored) (moved : Option (List ℕ)) (mask : ℕ) → mask_stands wide before moved mask ≡ true → own_mask_stands moved mask ≡ true → mask < 2 ^ 63
mask_small false before None mask stands own = let low : mask < 2 ^ 31 = ltb-true _ _ stands in omega (arith, low)
mask_small true before None mask stands own = ltb-true _ _ stands
mask_small wide before (Some tag) mask stands own = ltb-true _ _ own

mask_held : (wide : Bool) (before : Option Stored) (moved : Option (List ℕ)) (mask : ℕ) → FitsMask wide moved mask → mask_stands wide before moved mask ≡ true → IsHeld wide moved mask
mask_held false before None mask fits stands = ltb-true _ _ stands
mask_held true before None mask fits stands = tt
mask_held false before (Some tag) mask fits stands = fits.1
mask_held true before (Some tag) mask fits stands = fits.1

first_keeps : (wide : Bool) (moved : Option (List ℕ)) (mask : ℕ) → mask_stands wide None moved mask ≡ true → moved ≡ None
first_keeps wide None mask stands = refl
first_keeps wide (Some tag) mask stands = cc

-- an entry with no wrong field may come after these
chained : (first : Seat) (entries : List Entry) (e : Entry) → wrong_field (seat_from first entries).wide (last_kept entries) e ≡ None → FitsMask (seat_from first entries).wide e.moved e.kept.mask.0 → IsChain first entries → IsChain first (e ∷ entries)
chained first [] e none fits chain =
    let wide = first.wide in
    let s = e.kept in
    let good = no_rule_broken (nat_le s.next 32768 && true) (nat_le s.epoch s.next && true) (mask_stands wide None e.moved s.mask.0) (own_mask_stands e.moved s.mask.0) (width_by wide + 32) none in
    let next = and_parts (nat_le s.next 32768) true good.0 in
    let epoch = and_parts (nat_le s.epoch s.next) true good.1 in (
      record {
        keeps = record { next_small = leb-true _ _ next.0; epoch_small = leb-true _ _ epoch.0; mask_small = mask_small wide None e.moved s.mask.0 good.2 good.3 };
        holds = mask_held wide None e.moved s.mask.0 fits good.2;
      },
      first_keeps wide e.moved s.mask.0 good.2,
      chain,
    )
chained first (b ∷ older) e none fits chain =
    let wide = (seat_from first (b ∷ older)).wide in
    let s = e.kept in
    let good = no_rule_broken (nat_le s.next 32768 && nat_lt b.kept.next s.next) (nat_le s.epoch s.next && nat_le b.kept.epoch s.epoch) (mask_stands wide (Some b.kept) e.moved s.mask.0) (own_mask_stands e.moved s.mask.0) (width_by wide + 32) none in
    let next = and_parts (nat_le s.next 32768) (nat_lt b.kept.next s.next) good.0 in
    let epoch = and_parts (nat_le s.epoch s.next) (nat_le b.kept.epoch s.epoch) good.1 in (
      record {
        keeps = record { next_small = leb-true _ _ next.0; epoch_small = leb-true _ _ epoch.0; mask_small = mask_small wide (Some b.kept) e.moved s.mask.0 good.2 good.3 };
        holds = mask_held wide (Some b.kept) e.moved s.mask.0 fits good.2;
      },
      record { next_rises = ltb-true _ _ next.1; epoch_stays = leb-true _ _ epoch.1 },
      chain,
    )

stands_held : (wide : Bool) (before : Option Stored) (moved : Option (List ℕ)) (mask : ℕ) → IsHeld wide moved mask → mask < 2 ^ 63 → (is_some moved ≡ true → is_some before ≡ true) → mask_stands wide before moved mask ≡ true
stands_held false before None mask held small some = lt-ltb _ _ held
stands_held true before None mask held small some = lt-ltb _ _ small
stands_held wide before (Some tag) mask held small some = some refl

own_held : (moved : Option (List ℕ)) (mask : ℕ) → mask < 2 ^ 63 → own_mask_stands moved mask ≡ true
own_held None mask small = refl
own_held (Some tag) mask small = lt-ltb _ _ small

abbrev no_entry : Option Stored
no_entry = None

keeps_first : (moved : Option (List ℕ)) → moved ≡ None → is_some moved ≡ true → is_some no_entry ≡ true
keeps_first moved none some = let clash : false ≡ true = sym (ap is_some none) ∙ some in cc

-- an entry that may come after these has no wrong field
not_wrong : (first : Seat) (entries : List Entry) (e : Entry) → IsEntryOf (seat_from first entries).wide e → Comes entries e → wrong_field (seat_from first entries).wide (last_kept entries) e ≡ None
not_wrong first [] e entry comes =
    let wide = first.wide in
    let s = e.kept in
    rules_met (nat_le s.next 32768 && true) (nat_le s.epoch s.next && true) (mask_stands wide None e.moved s.mask.0) (own_mask_stands e.moved s.mask.0) (width_by wide + 32)
    (and_from _ _ (le-leb _ _ entry.keeps.next_small) refl) (and_from _ _ (le-leb _ _ entry.keeps.epoch_small) refl)
    (stands_held wide None e.moved s.mask.0 entry.holds entry.keeps.mask_small (keeps_first e.moved comes)) (own_held e.moved s.mask.0 entry.keeps.mask_small)
not_wrong first (b ∷ older) e entry comes =
    let wide = (seat_from first (b ∷ older)).wide in
    let s = e.kept in
    rules_met (nat_le s.next 32768 && nat_lt b.kept.next s.next) (nat_le s.epoch s.next && nat_le b.kept.epoch s.epoch) (mask_stands wide (Some b.kept) e.moved s.mask.0) (own_mask_stands e.moved s.mask.0) (width_by wide + 32)
    (and_from _ _ (le-leb _ _ entry.keeps.next_small) (lt-ltb _ _ comes.next_rises)) (and_from _ _ (le-leb _ _ entry.keeps.epoch_small) (le-leb _ _ comes.epoch_stays))
    (stands_held wide (Some b.kept) e.moved s.mask.0 entry.holds entry.keeps.mask_small (λ some. refl)) (own_held e.moved s.mask.0 entry.keeps.mask_small)

held_tag : (wide : Bool) (tag : List ℕ) (mask : ℕ) → IsHeld wide (Some tag) mask → length tag ≡ 32
held_tag false tag mask held = held
held_tag true tag mask held = held

-- ---- prefixes

-- a list that is the front of another to its end
pub whole_prefix : (xs ys : List ℕ) → length xs ≤ common_prefix_len nat_eq xs ys → take (length xs) ys ≡ xs
whole_prefix [] ys all = refl
whole_prefix (x ∷ xs) [] all = absurd (omega arith)
whole_prefix (x ∷ xs) (y ∷ ys) all =
    elim (cases_Bool (eqb x y)) [
      | inl equal ↦
          let same : x ≡ y = eqb-true x y equal in
          let more : length xs ≤ common_prefix_len nat_eq xs ys = let h : suc (length xs) ≤ 1 + common_prefix_len nat_eq xs ys = rw equal at all in omega arith in
          rw same (ap (λ (b : List ℕ). y ∷ b) (whole_prefix xs ys more))
      | inr other ↦ let h : suc (length xs) ≤ 0 = rw other at all in absurd (omega arith)
    ]

pub self_prefix : (xs more : List ℕ) → common_prefix_len nat_eq xs (xs ++ more) ≡ length xs
self_prefix [] more = refl
self_prefix (x ∷ xs) more = let same : eqb x x ≡ true = eq-eqb x x refl in rw same (let rest = self_prefix xs more in omega arith)

self_whole : (xs : List ℕ) → common_prefix_len nat_eq xs xs ≡ length xs
self_whole xs = let whole = self_prefix xs [] in rw (append-nil xs) at whole

-- ---- the head

abbrev digit : Bool → ℕ
digit false = 49
digit true = 50

-- the byte that tells a width
digit_told : (byte : Option ℕ) (wide : Bool) → width_of byte ≡ Some wide → byte ≡ Some (digit wide)
digit_told None wide told = cc
digit_told (Some byte) wide told = one (eqb byte 49) (eqb byte 50) refl refl told
  where
    one : (narrow two : Bool) → eqb byte 49 ≡ narrow → eqb byte 50 ≡ two → cond narrow (Some false) (cond two (Some true) None) ≡ Some wide → Some byte ≡ Some (digit wide)
    one true two n w is = let low : false ≡ wide = cc in let b : byte ≡ 49 = eqb-true byte 49 n in subst (λ (x : Bool). Some byte ≡ Some (digit x)) low (ap Some b)
    one false true n w is = let high : true ≡ wide = cc in let b : byte ≡ 50 = eqb-true byte 50 w in subst (λ (x : Bool). Some byte ≡ Some (digit x)) high (ap Some b)
    one false false n w is = cc

byte_in : (n x : ℕ) (xs : List ℕ) → slice_get xs n ≡ Some x → drop n xs ≡ x ∷ drop (suc n) xs
byte_in zero x [] is = cc
byte_in zero x (y ∷ xs) is = let same : y ≡ x = cc in ap (λ (z : ℕ). z ∷ xs) same
byte_in (suc n) x [] is = cc
byte_in (suc n) x (y ∷ xs) is = byte_in n x xs is

-- a head that is good: its width, and its tag
record IsHead (head : List ℕ) (first : Seat) : Type 0 where
  wide : Bool
  header : List ℕ
  long : length header ≡ 32
  is : first ≡ first_seat wide header
  bytes : head ≡ magic wide ++ header

magic_is : (wide : Bool) → magic wide ≡ codes "FFSTORE" ++ digit wide ∷ []
magic_is false = refl
magic_is true = refl

head_parts : (letters : Bool) (told : Option Bool) (head : List ℕ) (good : ℕ) (first : Seat) → head_by letters told head good ≡ Ok first → (letters ≡ true) × ((wide : Bool) × (told ≡ Some wide) × (nat_lt (length head) 40 ≡ false) × (first ≡ first_seat wide (drop 8 head)))
head_parts false told head good first is = cc
head_parts true None head good first is = cc
head_parts true (Some wide) head good first is = one (nat_lt (length head) 40) refl is
  where
    one : (short : Bool) → nat_lt (length head) 40 ≡ short → cond short (Err (length head)) (Ok (first_seat wide (drop 8 head))) ≡ Ok first
        → (true ≡ true) × ((w : Bool) × (Some wide ≡ Some w) × (nat_lt (length head) 40 ≡ false) × (first ≡ first_seat w (drop 8 head)))
    one true test is = cc
    one false test is = let seat : first ≡ first_seat wide (drop 8 head) = cc in (refl, (wide, refl, test, seat))

head_is : (head : List ℕ) (first : Seat) → length head ≤ 40 → head_seat head ≡ Ok first → IsHead head first
head_is head first within is =
    let good = common_prefix_len nat_eq (codes "FFSTORE") head in
    let parts = head_parts (nat_le 7 good) (width_of (slice_get head 7)) head good first is in
    let wide = parts.1.0 in
    let seven : take 7 head ≡ codes "FFSTORE" = whole_prefix (codes "FFSTORE") head (leb-true 7 good parts.0) in
    let byte : drop 7 head ≡ digit wide ∷ drop 8 head = byte_in 7 (digit wide) head (digit_told (slice_get head 7) wide parts.1.1) in
    record {
      wide = wide;
      header = drop 8 head;
      long = omega (arith, within, ltb-false (length head) 40 parts.1.2, length-drop 8 head);
      is = parts.1.3;
      bytes =
          sym (take-append-drop 7 head)
          ∙ ap (λ (b : List ℕ). b ++ drop 7 head) seven
          ∙ ap (λ (b : List ℕ). codes "FFSTORE" ++ b) byte
          ∙ sym (append_assoc (codes "FFSTORE") (digit wide ∷ []) (drop 8 head))
          ∙ ap (λ (b : List ℕ). b ++ drop 8 head) (sym (magic_is wide));
    }

head_made : (wide : Bool) (header : List ℕ) → length header ≡ 32 → head_seat (magic wide ++ header) ≡ Ok (first_seat wide header)
head_made false header long =
    let a : nat_lt (length (magic false ++ header)) 40 ≡ false = le-ltb _ _ (omega (arith, long, length-append (magic false) header)) in
    rw a refl
head_made true header long =
    let a : nat_lt (length (magic true ++ header)) 40 ≡ false = le-ltb _ _ (omega (arith, long, length-append (magic true) header)) in
    rw a refl

-- ---- what is found

same_tag : (tag other : List ℕ) → length tag ≡ 32 → length other ≡ 32 → nat_lt (common_prefix_len nat_eq tag other) 32 ≡ false → other ≡ tag
same_tag tag other long same_long none =
    let enough : length tag ≤ common_prefix_len nat_eq tag other = omega (arith, long, ltb-false (common_prefix_len nat_eq tag other) 32 none) in
    sym (take_all (length tag) other (omega (arith, long, same_long))) ∙ whole_prefix tag other enough

record Closes (tag : List ℕ) (s : Stored) (seat : Seat) (state : Stored) (at : Seat) : Type 0 where
  same : nat_lt (common_prefix_len nat_eq tag seat.tag) 32 ≡ false
  one_state : s ≡ state
  one_seat : seat ≡ at

closed_by : (tag : List ℕ) (s : Stored) (seat : Seat) (state : Stored) (at : Seat) → closes tag s seat ≡ Finds state at → Closes tag s seat state at
closed_by tag s seat state at is = one (nat_lt (common_prefix_len nat_eq tag seat.tag) 32) refl is
  where
    one : (differs : Bool) → nat_lt (common_prefix_len nat_eq tag seat.tag) 32 ≡ differs → cond differs (Differs (seat.tag_place + common_prefix_len nat_eq tag seat.tag) (get_or seat.tag (common_prefix_len nat_eq tag seat.tag) 0)) (Finds s seat) ≡ Finds state at → Closes tag s seat state at
    one true test is = cc
    one false test is = record { same = test; one_state = cc; one_seat = cc }

begins_with : (x : ℕ) (xs rest : List ℕ) → xs ≡ x ∷ rest → xs ≡ x ∷ drop 1 xs
begins_with x [] rest is = cc
begins_with x (y ∷ xs) rest is = let same : y ≡ x = cc in ap (λ (z : ℕ). z ∷ xs) same

-- what a reading finds behind these entries is the store of the file
found_from : (tag image : List ℕ) (wide : Bool) (header : List ℕ) → length tag ≡ 32 → length header ≡ 32 → (before : Option Stored) (seat : Seat) (reading : Reading) → ReadsFrom tag image before seat reading
    → (entries : List Entry) → image ≡ front wide header entries ++ drop seat.gate image → seat ≡ seat_from (first_seat wide header) entries → IsChain (first_seat wide header) entries → before ≡ last_kept entries → (state : Stored) (at : Seat) → reading ≡ Finds state at → StoreAt tag image state at
found_from tag image wide header size long before seat reading (ReadsFrom.ends _ _ s stands) [] bytes place chain last state at is = let no : None ≡ Some s = sym last ∙ stands.1 in cc
found_from tag image wide header size long before seat reading (ReadsFrom.ends _ _ s stands) (e ∷ older) bytes place chain last state at is =
    let ends = closed_by tag s seat state at is in
    let kept : e.kept ≡ s = let both : Some e.kept ≡ Some s = sym last ∙ stands.1 in cc in
    let first : e.kept ≡ state = kept ∙ ends.one_state in
    let shut = begins_with stands.0.gate (drop seat.gate image) stands.0.rest stands.0.begins in
    let in_force : length seat.tag ≡ 32 = subst (λ (z : Seat). length z.tag ≡ 32) (sym place) (chain_tag (first_seat wide header) (e ∷ older) long chain) in
    let P : Stored → Type 0 = λ z. StoreAt tag image z at in
    let Q : Seat → Type 0 = λ z. StoreAt tag image e.kept z in
    subst P first (subst Q ends.one_seat (record {
      wide = wide;
      header = header;
      moved = e.moved;
      older = older;
      shut = stands.0.gate;
      rest = drop 1 (drop seat.gate image);
      long = long;
      chain = chain;
      closed = stands.0.closed;
      bytes = bytes ∙ ap (λ (b : List ℕ). front wide header (e ∷ older) ++ b) shut;
      place = place;
      in_force = same_tag tag seat.tag size in_force ends.same;
    }))
found_from tag image wide header size long before seat reading (ReadsFrom.breaks _ _ at' stands) entries bytes place chain last state at is = cc
found_from tag image wide header size long before seat reading (ReadsFrom.goes _ _ e _ stands more) entries bytes place chain last state at is =
    let first = first_seat wide header in
    let here : seat.wide ≡ (seat_from first entries).wide = ap (λ (z : Seat). z.wide) place in
    let fine : wrong_field (seat_from first entries).wide (last_kept entries) e ≡ None =
    subst (λ (w : Bool). wrong_field w (last_kept entries) e ≡ None) here (subst (λ (b : Option Stored). wrong_field seat.wide b e ≡ None) last stands.1) in
    let fits : FitsMask (seat_from first entries).wide e.moved e.kept.mask.0 = subst (λ (w : Bool). FitsMask w e.moved e.kept.mask.0) here stands.0.mask_fits in
    let longer_chain = chained first entries e fine fits chain in
    let held : IsHeld seat.wide e.moved e.kept.mask.0 = subst (λ (w : Bool). IsHeld w e.moved e.kept.mask.0) (sym here) longer_chain.0.holds in
    let gate : (behind seat e).gate ≡ seat.gate + suc (length (spelled seat.wide e)) = omega (arith, gate_past seat e held) in
    let entry : List ℕ = 1 ∷ spelled seat.wide e in
    let behind_it : drop (behind seat e).gate image ≡ stands.0.rest =
    ap (λ (n : ℕ). drop n image) gate ∙ sym (drop-drop (length entry) seat.gate image) ∙ ap (drop (length entry)) stands.0.begins ∙ drop_at entry stands.0.rest (length entry) refl in
    let same_entry_bytes : entry ≡ 1 ∷ spelled (seat_from first entries).wide e = ap (λ (w : Bool). 1 ∷ spelled w e) here in
    let longer : image ≡ front wide header (e ∷ entries) ++ drop (behind seat e).gate image =
    bytes
    ∙ ap (λ (b : List ℕ). front wide header entries ++ b) (stands.0.begins ∙ ap (λ (b : List ℕ). entry ++ b) (sym behind_it))
    ∙ sym (append_assoc (front wide header entries) entry (drop (behind seat e).gate image))
    ∙ ap (λ (b : List ℕ). (front wide header entries ++ b) ++ drop (behind seat e).gate image) same_entry_bytes in
    found_from tag image wide header size long (Some e.kept) (behind seat e) reading more (e ∷ entries) longer (ap (λ (z : Seat). behind z e) place) longer_chain refl state at is

found_by : (tag image : List ℕ) (state : Stored) (at : Seat) → length tag ≡ 32 → (head : Result Seat ℕ) → head_seat (take 40 image) ≡ head → ReadsBehind tag image head (Finds state at) → StoreAt tag image state at
found_by tag image state at size (Err place) is reads = cc
found_by tag image state at size (Ok first) is reads =
    let head = head_is (take 40 image) first (omega (arith, length-take 40 image)) is in
    let bytes : image ≡ front head.wide head.header [] ++ drop 40 image = sym (take-append-drop 40 image) ∙ ap (λ (b : List ℕ). b ++ drop 40 image) head.bytes in
    found_from tag image head.wide head.header size head.long None (first_seat head.wide head.header) (Finds state at) (subst (λ (z : Seat). ReadsFrom tag image None z (Finds state at)) head.is reads) [] bytes refl tt refl state at refl

-- a reading that finds a store finds the store of the file
pub found_store : (tag image : List ℕ) (state : Stored) (seat : Seat) → length tag ≡ 32 → Reads tag image (Finds state seat) → StoreAt tag image state seat
found_store tag image state seat size reads = found_by tag image state seat size (head_seat (take 40 image)) refl reads

-- ---- what stands is found

fits_held : (wide : Bool) (moved : Option (List ℕ)) (mask : ℕ) → IsHeld wide moved mask → mask < 2 ^ 63 → FitsMask wide moved mask
fits_held false None mask held small = (omega (arith, held), λ (same : mask ≡ 4294967295). omega (arith, held, same))
fits_held true None mask held small = (omega (arith, small), λ (same : mask ≡ 18446744073709551615). omega (arith, small, same))
fits_held wide (Some tag) mask held small = (omega (arith, small), held_tag wide tag mask held)

-- an entry of a chain stands in its seat
pub stands_in_chain : (first : Seat) (older : List Entry) (e : Entry) (bytes rest : List ℕ) → IsChain first (e ∷ older) → bytes ≡ 1 ∷ (spelled (seat_from first older).wide e ++ rest) → IsOpenEntry (seat_from first older).wide bytes e × (wrong_field (seat_from first older).wide (last_kept older) e ≡ None)
stands_in_chain first older e bytes rest chain begins =
    let entry = chain.0 in (
      record {
        rest = rest;
        begins = begins;
        next_fits = omega (arith, entry.keeps.next_small);
        epoch_fits = omega (arith, entry.keeps.next_small, entry.keeps.epoch_small);
        mask_fits = fits_held (seat_from first older).wide e.moved e.kept.mask.0 entry.holds entry.keeps.mask_small;
      },
      not_wrong first older e entry chain.1,
    )

-- the bytes from a gate on, these being all in front of it
pub from_gate : (wide : Bool) (header : List ℕ) (entries : List Entry) (rest image : List ℕ) → length header ≡ 32 → IsChain (first_seat wide header) entries → image ≡ front wide header entries ++ rest → drop (seat_from (first_seat wide header) entries).gate image ≡ rest
from_gate wide header entries rest image long chain bytes =
    ap (drop (seat_from (first_seat wide header) entries).gate) bytes ∙ drop_at (front wide header entries) rest (seat_from (first_seat wide header) entries).gate (front-length wide header entries long chain)

-- a reading behind these entries is one from the first seat on
back : (tag image : List ℕ) (wide : Bool) (header : List ℕ) (entries : List Entry) (rest : List ℕ) (reading : Reading) → length header ≡ 32 → IsChain (first_seat wide header) entries → image ≡ front wide header entries ++ rest
    → ReadsFrom tag image (last_kept entries) (seat_from (first_seat wide header) entries) reading → ReadsFrom tag image None (first_seat wide header) reading
back tag image wide header [] rest reading long chain bytes reads = reads
back tag image wide header (e ∷ older) rest reading long chain bytes reads =
    let seat = seat_from (first_seat wide header) older in
    let entry : List ℕ = 1 ∷ spelled seat.wide e in
    let shape : image ≡ front wide header older ++ (entry ++ rest) = bytes ∙ append_assoc (front wide header older) entry rest in
    let cut = from_gate wide header older (entry ++ rest) image long chain.2 shape in
    let stands = stands_in_chain (first_seat wide header) older e (drop seat.gate image) rest chain cut in
    back tag image wide header older (entry ++ rest) reading long chain.2 shape (ReadsFrom.goes (last_kept older) seat e reading stands reads)

-- a file begins with the header and the tag, whatever entries follow
front_of : (wide : Bool) (header : List ℕ) (entries : List Entry) (rest : List ℕ) → (more : List ℕ) × (front wide header entries ++ rest ≡ front wide header [] ++ more)
front_of wide header [] rest = (rest, refl)
front_of wide header (e ∷ older) rest =
    let entry : List ℕ = 1 ∷ spelled (seat_from (first_seat wide header) older).wide e in
    let more = front_of wide header older (entry ++ rest) in
    (more.0, append_assoc (front wide header older) entry rest ∙ more.1)

-- the first seat of a file with these entries
pub head_found : (wide : Bool) (header : List ℕ) (entries : List Entry) (rest image : List ℕ) → length header ≡ 32 → image ≡ front wide header entries ++ rest → head_seat (take 40 image) ≡ Ok (first_seat wide header)
head_found wide header entries rest image long bytes =
    let begins = front_of wide header entries rest in
    let size : length (front wide header []) ≡ 40 = front-length wide header [] long tt in
    let head : take 40 image ≡ front wide header [] = ap (take 40) (bytes ∙ begins.1) ∙ take_at (front wide header []) begins.0 40 size in
    ap head_seat head ∙ head_made wide header long

closes_same : (tag : List ℕ) (state : Stored) (seat : Seat) → length tag ≡ 32 → seat.tag ≡ tag → closes tag state seat ≡ Finds state seat
closes_same tag state seat size in_force =
    let same : common_prefix_len nat_eq tag seat.tag ≡ 32 = ap (common_prefix_len nat_eq tag) in_force ∙ self_whole tag ∙ size in
    ap (λ (n : ℕ). closes_by n state seat) same

-- a store's file is read up to its closed gate, whichever tag is asked
store_read : (tag asked image : List ℕ) (state : Stored) (seat : Seat) → StoreAt tag image state seat → Reads asked image (closes asked state seat)
store_read tag asked image state seat store =
    let first = first_seat store.wide store.header in
    let entries = entry_with store.moved state ∷ store.older in
    let bytes = store.shut ∷ store.rest in
    let cut = from_gate store.wide store.header entries bytes image store.long store.chain store.bytes in
    let here = seat_from first entries in
    let closed : IsClosed (drop here.gate image) = record { gate = store.shut; rest = store.rest; begins = cut; closed = store.closed } in
    let ends : ReadsFrom asked image (Some state) here (closes asked state here) = ReadsFrom.ends (Some state) here state (closed, refl) in
    let there : ReadsFrom asked image (Some state) here (closes asked state seat) = subst (λ (s : Seat). ReadsFrom asked image (Some state) here (closes asked state s)) (sym store.place) ends in
    let reads = back asked image store.wide store.header entries bytes (closes asked state seat) store.long store.chain store.bytes there in
    subst (λ (head : Result Seat ℕ). ReadsBehind asked image head (closes asked state seat)) (sym (head_found store.wide store.header entries bytes image store.long store.bytes)) reads

-- the store of a file is what each reading of it finds
pub store_found : (tag image : List ℕ) (state : Stored) (seat : Seat) → length tag ≡ 32 → StoreAt tag image state seat → Reads tag image (Finds state seat)
store_found tag image state seat size store = subst (Reads tag image) (closes_same tag state seat size store.in_force) (store_read tag tag image state seat store)

-- one file is a store of one tag and one state
pub one_store : (image tag other : List ℕ) (a b : Stored) → StoreOf tag image a → StoreOf other image b → (a ≡ b) × (tag ≡ other)
one_store image tag other a b x y =
    let size : length tag ≡ 32 = ap length (sym x.1.in_force) ∙ store_tag tag image a x.0 x.1 in
    let same = reads_once tag image (closes tag b y.0) (Finds a x.0) (store_read other tag image b y.0 y.1) (store_found tag image a x.0 size x.1) in
    let ends = closed_by tag b y.0 a x.0 same in
    (sym ends.one_state, sym x.1.in_force ∙ ap (λ (s : Seat). s.tag) (sym ends.one_seat) ∙ y.1.in_force)

-- a file has one state
pub one_state : (tag image : List ℕ) (a b : Stored) → length tag ≡ 32 → StoreOf tag image a → StoreOf tag image b → a ≡ b
one_state tag image a b size x y = (one_store image tag tag a b x y).0
