-- The entries of a summary: what is read keeps to the page, in order, and what keeps to it is read.
use Rattle.std.proofs.Common.{◌≡◌, ℕ, zero, suc, ◌+◌, ◌*◌, ◌^◌, ◌<◌, ◌≤◌, inl, inr, Bool, true, false, cond, eqb, leb, List, [], ◌∷◌, length, get_or, Ok, refl, ap, subst, arith, lit<, ◌-◌}
use Rattle.std.specs.Prelude.{All}
use Rattle.std.specs.List.{list_any}
use Rattle.std.specs.List.Sorted.{IsStrictlyIncreasing}
use Rattle.std.specs.Int.{w16, w64}
use Rattle.std.proofs.lemmas.Bool.{cases_eq, leb-false, lt-leb, or_parts}
use Rattle.std.proofs.lemmas.Bool.Decides.{nat_tests}
use Rattle.std.proofs.lemmas.List.Elements.{All-nil, All-cons, All-head, All-tail}
use Rattle.ff_ids.specs.declared.TheConstants.{PAGES, PAGE_MEMBERS}
use Rattle.fields.specs.Reading.{Reading}
use Rattle.ff_ids.specs.declared.summary.SummaryEntry.{SummaryEntry}
use Rattle.ff_ids.specs.declared.summary.Summary.{Summary}
use Rattle.ff_ids.specs.Summaries.{IsEntryOf, IsSummary, members_of}
use Rattle.records.specs.Grammar.{◌>>=◌, number_at, any_number, number_within}
use Rattle.records.proofs.Fields.{IsBytes, bind_ok, ok_is, Takes, Takes-then, number_takes, number_again, then_again, map_again, Again, IsWide, wide16, wide32, wide64, any_rule, within_rule}
use Rattle.datagram.specs.Spelling.{bits_width, entry_bytes, is_wide, is_wide_entry, IsEntry}
use Rattle.datagram.specs.Grammar.{greatest_bits, most_bits, entry_at, next_member}
use Rattle.datagram.proofs.Items.{GoodFrom}

-- An entry of the page whose member is at least this one.
pub record IsEntryFrom (wide : Bool) (page least : ℕ) (e : SummaryEntry) : Type 0 where
  pub high : least ≤ e.member
  pub low : e.member ≤ PAGE_MEMBERS * page + (PAGE_MEMBERS - 1)
  pub epoch_fits : e.epoch < 2 ^ 64
  pub mask_fits : e.mask.0 ≤ greatest_bits wide e.epoch
  pub rings_fit : e.rings ≤ greatest_bits wide e.epoch

-- the number above all sets of bits
abbrev limit : Bool → ℕ
limit true = 2 ^ 64
limit false = 2 ^ 32

width_wide : (wide : Bool) → IsWide (bits_width wide) (limit wide)
width_wide true = wide64
width_wide false = wide32

limit_few : (wide : Bool) → limit wide ≤ 2 ^ 64
limit_few true = omega arith
limit_few false = omega arith

bits_fit : (wide : Bool) (epoch : ℕ) → greatest_bits wide epoch < limit wide
bits_fit wide epoch = one wide (eqb epoch 0)
  where
    one : (wide none : Bool) → cond none 0 (most_bits wide) < limit wide
    one true true = lit< tt
    one true false = lit< tt
    one false true = lit< tt
    one false false = lit< tt

fits_16 : (page : ℕ) → page < PAGES → PAGE_MEMBERS * page + (PAGE_MEMBERS - 1) < 2 ^ 16
fits_16 page lt = omega arith

made : ℕ → ℕ → ℕ → ℕ → SummaryEntry
made member epoch mask rings = record { member = member; epoch = epoch; mask = record { 0 = mask }; rings = rings }

pub entry_takes : (wide : Bool) (page : ℕ) → page < PAGES → (least : ℕ) (r : Reading) (e : SummaryEntry) (s : Reading) → IsBytes r.left → entry_at wide page least r ≡ Ok (e, s) → Takes r (entry_bytes wide e) s × IsEntryFrom wide page least e
unfolding entry_at entry_bytes made
entry_takes wide page lt least r x s fits h =
    let a = bind_ok (number_at w16 (number_within least (PAGE_MEMBERS * page + (PAGE_MEMBERS - 1))) r) (λ m. number_at w64 any_number m.1 >>= λ e. number_at (bits_width wide) (number_within 0 (greatest_bits wide e.0)) e.1 >>= λ k. number_at (bits_width wide) (number_within 0 (greatest_bits wide e.0)) k.1 >>= λ g. Ok (made m.0 e.0 k.0 g.0, g.1)) (x, s) h in
    let b = bind_ok (number_at w64 any_number a.0.1) (λ e. number_at (bits_width wide) (number_within 0 (greatest_bits wide e.0)) e.1 >>= λ k. number_at (bits_width wide) (number_within 0 (greatest_bits wide e.0)) k.1 >>= λ g. Ok (made a.0.0 e.0 k.0 g.0, g.1)) (x, s) a.2 in
    let bits = bits_fit wide b.0.0 in
    let c = bind_ok (number_at (bits_width wide) (number_within 0 (greatest_bits wide b.0.0)) b.0.1) (λ k. number_at (bits_width wide) (number_within 0 (greatest_bits wide b.0.0)) k.1 >>= λ g. Ok (made a.0.0 b.0.0 k.0 g.0, g.1)) (x, s) b.2 in
    let d = bind_ok (number_at (bits_width wide) (number_within 0 (greatest_bits wide b.0.0)) c.0.1) (λ g. Ok (made a.0.0 b.0.0 c.0.0 g.0, g.1)) (x, s) c.2 in
    let t0 = number_takes w16 (2 ^ 16) (number_within least (PAGE_MEMBERS * page + (PAGE_MEMBERS - 1))) (λ n. n) _ r a.0.0 a.0.1 wide16 (within_rule (2 ^ 16) least (PAGE_MEMBERS * page + (PAGE_MEMBERS - 1)) (fits_16 page lt)) fits a.1 in
    let t1 = number_takes w64 (2 ^ 64) any_number (λ n. n) _ a.0.1 b.0.0 b.0.1 wide64 (any_rule (2 ^ 64)) t0.0.fits b.1 in
    let t2 = number_takes (bits_width wide) (limit wide) (number_within 0 (greatest_bits wide b.0.0)) (λ n. n) _ b.0.1 c.0.0 c.0.1 (width_wide wide) (within_rule (limit wide) 0 (greatest_bits wide b.0.0) bits) t1.0.fits c.1 in
    let t3 = number_takes (bits_width wide) (limit wide) (number_within 0 (greatest_bits wide b.0.0)) (λ n. n) _ c.0.1 d.0.0 d.0.1 (width_wide wide) (within_rule (limit wide) 0 (greatest_bits wide b.0.0) bits) t2.0.fits d.1 in
    let whole : SummaryEntry × Reading = (made a.0.0 b.0.0 c.0.0 d.0.0, d.0.1) in
    subst (λ (y : SummaryEntry × Reading). Takes r (entry_bytes wide y.0) y.1 × IsEntryFrom wide page least y.0) (ok_is whole (x, s) d.2)
    (Takes-then _ _ _ _ _ t0.0 (Takes-then _ _ _ _ _ t1.0 (Takes-then _ _ _ _ _ t2.0 t3.0)), record { high = t0.1.0; low = t0.1.1; epoch_fits = t1.1; mask_fits = t2.1.1; rings_fit = t3.1.1 })

pub entry_again : (wide : Bool) (page : ℕ) → page < PAGES → (least : ℕ) (e : SummaryEntry) → IsEntryFrom wide page least e → Again (entry_at wide page least) e (entry_bytes wide e)
unfolding entry_at entry_bytes
entry_again wide page lt least e good =
    let bits = bits_fit wide e.epoch in
    then_again (number_at w16 (number_within least (PAGE_MEMBERS * page + (PAGE_MEMBERS - 1)))) (λ m r. number_at w64 any_number r >>= λ p. number_at (bits_width wide) (number_within 0 (greatest_bits wide p.0)) p.1 >>= λ k. number_at (bits_width wide) (number_within 0 (greatest_bits wide p.0)) k.1 >>= λ g. Ok (record { member = m; epoch = p.0; mask = record { 0 = k.0 }; rings = g.0 }, g.1)) e.member e _ _
    (number_again w16 (2 ^ 16) (number_within least (PAGE_MEMBERS * page + (PAGE_MEMBERS - 1))) (λ n. n) _ e.member wide16 (within_rule (2 ^ 16) least (PAGE_MEMBERS * page + (PAGE_MEMBERS - 1)) (fits_16 page lt)) (good.high, good.low))
    (then_again (number_at w64 any_number) (λ p r. number_at (bits_width wide) (number_within 0 (greatest_bits wide p)) r >>= λ k. number_at (bits_width wide) (number_within 0 (greatest_bits wide p)) k.1 >>= λ g. Ok (record { member = e.member; epoch = p; mask = record { 0 = k.0 }; rings = g.0 }, g.1)) e.epoch e _ _
    (number_again w64 (2 ^ 64) any_number (λ n. n) _ e.epoch wide64 (any_rule (2 ^ 64)) good.epoch_fits)
    (then_again (number_at (bits_width wide) (number_within 0 (greatest_bits wide e.epoch))) (λ k r. number_at (bits_width wide) (number_within 0 (greatest_bits wide e.epoch)) r >>= λ g. Ok (record { member = e.member; epoch = e.epoch; mask = record { 0 = k }; rings = g.0 }, g.1)) e.mask.0 e _ _
    (number_again (bits_width wide) (limit wide) (number_within 0 (greatest_bits wide e.epoch)) (λ n. n) _ e.mask.0 (width_wide wide) (within_rule (limit wide) 0 (greatest_bits wide e.epoch) bits) (omega arith, good.mask_fits))
    (map_again (number_at (bits_width wide) (number_within 0 (greatest_bits wide e.epoch))) (λ g. record { member = e.member; epoch = e.epoch; mask = record { 0 = e.mask.0 }; rings = g }) e.rings _
    (number_again (bits_width wide) (limit wide) (number_within 0 (greatest_bits wide e.epoch)) (λ n. n) _ e.rings (width_wide wide) (within_rule (limit wide) 0 (greatest_bits wide e.epoch) bits) (omega arith, good.rings_fit)))))

-- ---- entries in order, and a summary's own words

abbrev pub RisesFrom : Bool → ℕ → ℕ → List SummaryEntry → Type 0
RisesFrom wide page least entries = GoodFrom (entry_bytes wide) (IsEntryFrom wide page) next_member least entries

no_bits : (wide : Bool) (e : SummaryEntry) → e.mask.0 ≤ greatest_bits wide e.epoch → e.rings ≤ greatest_bits wide e.epoch → e.epoch ≡ 0 → (e.mask.0 ≡ 0) × (e.rings ≡ 0)
no_bits wide e mask rings none =
    let bound : greatest_bits wide e.epoch ≡ 0 = ap (greatest_bits wide) none in
    (omega arith, omega arith)

entry_of : (wide : Bool) (page least : ℕ) (e : SummaryEntry) → PAGE_MEMBERS * page ≤ least → IsEntryFrom wide page least e → IsEntryOf page e
entry_of wide page least e le h = record { in_page = omega (arith, h.high, h.low, le); unnoted = no_bits wide e h.mask_fits h.rings_fit }

entry_fits : (wide : Bool) (page least : ℕ) (e : SummaryEntry) → IsEntryFrom wide page least e → IsEntry e
entry_fits wide page least e h =
    let bits = bits_fit wide e.epoch in
    let few = limit_few wide in
    record { epoch_fits = h.epoch_fits; mask_fits = omega (arith, h.mask_fits, bits, few); rings_fit = omega (arith, h.rings_fit, bits, few) }

-- Mask and rings have no more bits than such a summary holds.
pub record FitsBits (wide : Bool) (e : SummaryEntry) : Type 0 where
  pub mask : e.mask.0 ≤ most_bits wide
  pub rings : e.rings ≤ most_bits wide

bits_within : (wide : Bool) (epoch bits : ℕ) → bits ≤ most_bits wide → (epoch ≡ 0 → bits ≡ 0) → bits ≤ greatest_bits wide epoch
bits_within wide epoch bits fits none =
    elim (cases_eq epoch 0) [
      | inl e ↦ rw (none e) (omega arith)
      | inr ne ↦ grind (arith, nat_tests)
    ]

entry_from : (wide : Bool) (page least : ℕ) (e : SummaryEntry) → least ≤ e.member → IsEntryOf page e → IsEntry e → FitsBits wide e → IsEntryFrom wide page least e
entry_from wide page least e le of fits bits = record {
  high = le;
  low = omega (arith, of.in_page);
  epoch_fits = fits.epoch_fits;
  mask_fits = bits_within wide e.epoch e.mask.0 bits.mask (λ z. (of.unnoted z).0);
  rings_fit = bits_within wide e.epoch e.rings bits.rings (λ z. (of.unnoted z).1);
}

-- ---- what needs eight bytes

narrow_entry : (e : SummaryEntry) → is_wide_entry e ≡ false → FitsBits false e
narrow_entry e narrow =
    let parts = or_parts (leb (2 ^ 32) e.mask.0) (leb (2 ^ 32) e.rings) narrow in
    record { mask = omega (arith, leb-false _ _ parts.0); rings = omega (arith, leb-false _ _ parts.1) }

narrow_all : (es : List SummaryEntry) → list_any is_wide_entry es ≡ false → All (FitsBits false) es
narrow_all [] h = All-nil (FitsBits false)
narrow_all (e ∷ es) h =
    let parts = or_parts (is_wide_entry e) (list_any is_wide_entry es) h in
    All-cons (FitsBits false) e es (narrow_entry e parts.0) (narrow_all es parts.1)

wide_all : (es : List SummaryEntry) → All IsEntry es → All (FitsBits true) es
wide_all es fits = λ k e at. let good = fits k e at in record { mask = omega (arith, good.mask_fits); rings = omega (arith, good.rings_fit) }

pub bits_all : (wide : Bool) (s : Summary) → is_wide s ≡ wide → All IsEntry s.listed → All (FitsBits wide) s.listed
bits_all true s same fits = wide_all s.listed fits
bits_all false s same fits = narrow_all s.listed same

few_bits : (epoch bits : ℕ) → bits ≤ greatest_bits false epoch → bits ≤ 4294967295
few_bits epoch bits le = one (eqb epoch 0) le
  where
    one : (none : Bool) → bits ≤ cond none 0 4294967295 → bits ≤ 4294967295
    one true h = omega (arith, h)
    one false h = h

entry_narrow : (e : SummaryEntry) → e.mask.0 ≤ 4294967295 → e.rings ≤ 4294967295 → is_wide_entry e ≡ false
entry_narrow e mask rings =
    let low : leb (2 ^ 32) e.mask.0 ≡ false = lt-leb _ _ (omega (arith, mask)) in
    rw low (lt-leb _ _ (omega (arith, rings)))

pub none_wide : (page least : ℕ) (es : List SummaryEntry) → RisesFrom false page least es → list_any is_wide_entry es ≡ false
none_wide page least [] h = refl
none_wide page least (e ∷ es) h =
    let here : is_wide_entry e ≡ false = entry_narrow e (few_bits e.epoch e.mask.0 h.0.mask_fits) (few_bits e.epoch e.rings h.0.rings_fit) in
    rw here (none_wide page (e.member + 1) es h.1)

pub all_of : (wide : Bool) (page least : ℕ) (entries : List SummaryEntry) → PAGE_MEMBERS * page ≤ least → RisesFrom wide page least entries → All (IsEntryOf page) entries
all_of wide page least [] le h = All-nil (IsEntryOf page)
all_of wide page least (e ∷ es) le h = All-cons (IsEntryOf page) e es (entry_of wide page least e le h.0) (all_of wide page (e.member + 1) es (omega (arith, le, h.0.high)) h.1)

pub all_fit : (wide : Bool) (page least : ℕ) (entries : List SummaryEntry) → RisesFrom wide page least entries → All IsEntry entries
all_fit wide page least [] h = All-nil IsEntry
all_fit wide page least (e ∷ es) h = All-cons IsEntry e es (entry_fits wide page least e h.0) (all_fit wide page (e.member + 1) es h.1)

first_above : (wide : Bool) (page least : ℕ) (entries : List SummaryEntry) → RisesFrom wide page least entries → 0 < length (members_of entries) → least ≤ get_or (members_of entries) 0 0
first_above wide page least [] h lt = absurd (omega arith)
first_above wide page least (e ∷ es) h lt = h.0.high

rise_cons : (x : ℕ) (xs : List ℕ) → (0 < length xs → x < get_or xs 0 0) → IsStrictlyIncreasing xs → IsStrictlyIncreasing (x ∷ xs)
rise_cons x xs first h zero lt = first (omega (arith, lt))
rise_cons x xs first h (suc k) lt =
    let same : suc (k + 1) ≡ suc k + 1 = omega arith in
    subst (λ (j : ℕ). get_or xs k 0 < get_or (x ∷ xs) j 0) same (h k (omega (arith, lt)))

rise_tail : (x : ℕ) (xs : List ℕ) → IsStrictlyIncreasing (x ∷ xs) → IsStrictlyIncreasing xs
rise_tail x xs h k lt =
    let same : suc k + 1 ≡ suc (k + 1) = omega arith in
    subst (λ (j : ℕ). get_or xs k 0 < get_or (x ∷ xs) j 0) same (h (suc k) (omega (arith, lt)))

rise_first : (x : ℕ) (xs : List ℕ) → IsStrictlyIncreasing (x ∷ xs) → 0 < length xs → x + 1 ≤ get_or xs 0 0
rise_first x xs h some =
    let below : x < get_or xs 0 0 = h 0 (omega (arith, some)) in
    omega (arith, below)

pub all_rise : (wide : Bool) (page least : ℕ) (entries : List SummaryEntry) → RisesFrom wide page least entries → IsStrictlyIncreasing (members_of entries)
all_rise wide page least [] h = λ k lt. absurd (omega (arith, lt))
all_rise wide page least (e ∷ es) h =
    rise_cons e.member (members_of es) (λ some. omega (arith, first_above wide page (e.member + 1) es h.1 some)) (all_rise wide page (e.member + 1) es h.1)

pub rises_from : (wide : Bool) (page least : ℕ) (entries : List SummaryEntry) → All (IsEntryOf page) entries → All IsEntry entries → All (FitsBits wide) entries → IsStrictlyIncreasing (members_of entries)
    → (0 < length (members_of entries) → least ≤ get_or (members_of entries) 0 0) → RisesFrom wide page least entries
rises_from wide page least [] of fits bits rise first = tt
rises_from wide page least (e ∷ es) of fits bits rise first = (
  entry_from wide page least e (first (omega arith)) (All-head (IsEntryOf page) e es of) (All-head IsEntry e es fits) (All-head (FitsBits wide) e es bits),
  rises_from wide page (e.member + 1) es (All-tail (IsEntryOf page) e es of) (All-tail IsEntry e es fits) (All-tail (FitsBits wide) e es bits) (rise_tail e.member (members_of es) rise)
      (rise_first e.member (members_of es) rise),
)

-- Members of one page that rise are few.
few_rise : (page least : ℕ) (entries : List SummaryEntry) → least ≤ 32 * page + 32 → All (IsEntryOf page) entries → IsStrictlyIncreasing (members_of entries)
    → (0 < length (members_of entries) → least ≤ get_or (members_of entries) 0 0) → least + length entries ≤ 32 * page + 32
few_rise page least [] le of rise first = omega arith
few_rise page least (e ∷ es) le of rise first =
    let in_page = (All-head (IsEntryOf page) e es of).in_page in
    let later = few_rise page (e.member + 1) es (omega (arith, in_page)) (All-tail (IsEntryOf page) e es of) (rise_tail e.member (members_of es) rise) (rise_first e.member (members_of es) rise) in
    omega (arith, first (omega arith), later)

first_high : (page : ℕ) (entries : List SummaryEntry) → All (IsEntryOf page) entries → 0 < length (members_of entries) → PAGE_MEMBERS * page ≤ get_or (members_of entries) 0 0
first_high page [] of some = absurd (omega arith)
first_high page (e ∷ es) of some = omega (arith, (All-head (IsEntryOf page) e es of).in_page)

pub listed_few : (s : Summary) → IsSummary s → length s.listed ≤ 32
listed_few s keeps = omega (arith, few_rise s.page (32 * s.page) s.listed (omega arith) keeps.listed keeps.rising (first_high s.page s.listed keeps.listed))

pub summary_rises : (wide : Bool) (s : Summary) → is_wide s ≡ wide → IsSummary s → All IsEntry s.listed → RisesFrom wide s.page (32 * s.page) s.listed
summary_rises wide s same keeps fits = rises_from wide s.page (32 * s.page) s.listed keeps.listed fits (bits_all wide s same fits) keeps.rising (first_high s.page s.listed keeps.listed)
