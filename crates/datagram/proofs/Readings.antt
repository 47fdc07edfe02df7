-- The two laws of the grammar: what is read is spelled so, and what is spelled so is read.
use Rattle.std.proofs.Common.{◌≡◌, ℕ, zero, suc, ◌*◌, ◌^◌, ◌<◌, ◌≤◌, ◌⊎◌, inl, inr, Bool, true, false, cond, eqb, ltb, List, [], ◌∷◌, ◌++◌, length, Result, Ok, Err, refl, sym, ap, subst, ◌∙◌, append_assoc, arith, lit<}
use Rattle.std.specs.Prelude.{All, IfOk, codes, not}
use Rattle.std.specs.List.{flat_map}
use Rattle.std.specs.Int.{w16, w64, to_be_bytes}
use Rattle.std.proofs.lemmas.Bool.{cases_eq, eqb-true, ltb-false, le-ltb}
use Rattle.std.proofs.lemmas.Bool.Decides.{nat_tests}
use Rattle.std.proofs.lemmas.List.{append-nil}
use Rattle.std.proofs.lemmas.List.Elements.{All-nil, All-cons, All-head, All-tail}
use Rattle.ff_ids.specs.declared.TheConstants.{LAST_MEMBER, MEMBERS, PAGES, PAGE_MEMBERS, LAST_PAGE}
use Rattle.fields.specs.Reading.{Reading, reading_of}
use Rattle.ff_ids.specs.declared.summary.SummaryEntry.{SummaryEntry}
use Rattle.ff_ids.specs.declared.summary.Summary.{Summary}
use Rattle.ff_ids.specs.Summaries.{IsSummary}
use Rattle.records.specs.declared.Record.{Record}
use Rattle.records.specs.declared.fault.FormFault.{FormFault}
use Rattle.records.specs.declared.Body.{Body}
use Rattle.records.specs.declared.Body.TheVariants.{Certificate, Note, Accusation}
use Rattle.records.specs.Spelling.{record_bytes, IsBody, HasPort}
use Rattle.records.specs.Grammar.{◌>>=◌, number_at, byte_at, any_number, number_within, member_number}
use Rattle.records.proofs.Fields.{IsBytes, bind_ok, ok_is, Takes, Takes-then, number_takes, number_again, then_again, map_again, Again, wide16, wide64, any_rule, within_rule}
use Rattle.records.proofs.Records.{record_takes, record_again}
use Rattle.datagram.specs.declared.Datagram.{Datagram}
use Rattle.datagram.specs.declared.Datagram.TheVariants as kinds
use Rattle.datagram.specs.Spelling.{head_bytes, entry_bytes, is_wide, flag_number, summary_bytes, summary_kind, records_bytes, datagram_bytes, IsEntry, IsSignedRecord, IsProbe, IsPage, IsRecordList, KeepsRules, IsDatagram, HasContent, IsWritable}
use Rattle.datagram.specs.Grammar.{letters, head_at, items_at, entry_at, next_member, entries_at, widened, summary_at, any_record, nothing_kept, counted_at, records_at, content_at, datagram_at, ended, longest, whole_of, read_of, GivesDatagram, IsReadAs}
use Rattle.datagram.proofs.Items.{byte_in_takes, byte_in_again, GoodFrom, items_take, items_again}
use Rattle.datagram.proofs.Entries.{IsEntryFrom, RisesFrom, entry_takes, entry_again, all_of, all_fit, all_rise, listed_few, none_wide, summary_rises}

chosen : {A : Type 0} (b : Bool) (x y z : A) → cond b x y ≡ z → ((b ≡ true) × (x ≡ z)) ⊎ ((b ≡ false) × (y ≡ z))
chosen true x y z e = inl (refl, e)
chosen false x y z e = inr (refl, e)

-- ---- heads

-- the fields of a head behind its letters, its version, and its kind
from_at : ℕ → Reading → Result ((ℕ × ℕ) × Reading) ℕ
from_at kind r = number_at w16 member_number r >>= λ from. Ok ((kind, from.0), from.1)

kind_at : Reading → Result ((ℕ × ℕ) × Reading) ℕ
kind_at r = byte_at (number_within 1 5) r >>= λ kind. from_at kind.0 kind.1

version_at : Reading → Result ((ℕ × ℕ) × Reading) ℕ
version_at r = byte_at (number_within 1 1) r >>= λ version. kind_at version.1

head_takes : (r : Reading) (h : ℕ × ℕ) (s : Reading) → IsBytes r.left → head_at r ≡ Ok (h, s) → Takes r (head_bytes h.0 h.1) s × (1 ≤ h.0) × (h.0 ≤ 5) × (h.1 < MEMBERS)
unfolding head_at head_bytes from_at kind_at version_at
head_takes r h s fits e =
    let a = bind_ok (number_at w16 (number_within letters letters) r) (λ name. version_at name.1) (h, s) e in
    let b = bind_ok (byte_at (number_within 1 1) a.0.1) (λ version. kind_at version.1) (h, s) a.2 in
    let c = bind_ok (byte_at (number_within 1 5) b.0.1) (λ kind. from_at kind.0 kind.1) (h, s) b.2 in
    let d = bind_ok (number_at w16 member_number c.0.1) (λ from. Ok ((c.0.0, from.0), from.1)) (h, s) c.2 in
    let t0 = number_takes w16 (2 ^ 16) (number_within letters letters) (λ n. n) _ r a.0.0 a.0.1 wide16 (within_rule (2 ^ 16) letters letters (lit< tt)) fits a.1 in
    let t1 = byte_in_takes 1 1 a.0.1 b.0.0 b.0.1 t0.0.fits b.1 in
    let t2 = byte_in_takes 1 5 b.0.1 c.0.0 c.0.1 t1.0.fits c.1 in
    let t3 = number_takes w16 (2 ^ 16) member_number (λ n. n) _ c.0.1 d.0.0 d.0.1 wide16 (within_rule (2 ^ 16) 0 LAST_MEMBER (lit< tt)) t2.0.fits d.1 in
    let name : a.0.0 ≡ letters = omega (arith, t0.1) in
    let version : b.0.0 ≡ 1 = omega (arith, t1.1, t1.2) in
    let named : Takes r (codes "FF") a.0.1 = subst (λ (n : ℕ). Takes r (to_be_bytes w16 n) a.0.1) name t0.0 in
    let versioned : Takes a.0.1 (1 ∷ []) b.0.1 = subst (λ (n : ℕ). Takes a.0.1 (n ∷ []) b.0.1) version t1.0 in
    let whole : (ℕ × ℕ) × Reading = ((c.0.0, d.0.0), d.0.1) in
    subst (λ (y : (ℕ × ℕ) × Reading). Takes r (head_bytes y.0.0 y.0.1) y.1 × (1 ≤ y.0.0) × (y.0.0 ≤ 5) × (y.0.1 < MEMBERS)) (ok_is whole (h, s) d.2)
    (Takes-then _ _ _ _ _ named (Takes-then _ _ _ _ _ versioned (Takes-then _ _ _ _ _ t2.0 t3.0)), t2.1, t2.2, omega (arith, t3.1))

head_again : (kind from : ℕ) → 1 ≤ kind → kind ≤ 5 → from < MEMBERS → Again head_at (kind, from) (head_bytes kind from)
unfolding head_at head_bytes from_at kind_at version_at
head_again kind from low high sender =
    then_again (number_at w16 (number_within letters letters)) (λ name r. version_at r) letters (kind, from) (codes "FF") (1 ∷ (kind ∷ to_be_bytes w16 from))
    (number_again w16 (2 ^ 16) (number_within letters letters) (λ n. n) _ letters wide16 (within_rule (2 ^ 16) letters letters (lit< tt)) (omega arith, omega arith))
    (then_again (byte_at (number_within 1 1)) (λ version r. kind_at r) 1 (kind, from) (1 ∷ []) (kind ∷ to_be_bytes w16 from) (byte_in_again 1 1 1 (omega arith) (omega arith))
    (then_again (byte_at (number_within 1 5)) from_at kind (kind, from) (kind ∷ []) (to_be_bytes w16 from) (byte_in_again 1 5 kind low high)
    (map_again (number_at w16 member_number) (λ f. (kind, f)) from (to_be_bytes w16 from)
    (number_again w16 (2 ^ 16) member_number (λ n. n) _ from wide16 (within_rule (2 ^ 16) 0 LAST_MEMBER (lit< tt)) (omega arith, omega (arith, sender))))))

-- ---- nonces

nonce_takes : (r : Reading) (n : ℕ) (s : Reading) → IsBytes r.left → number_at w64 any_number r ≡ Ok (n, s) → Takes r (to_be_bytes w64 n) s × (n < 2 ^ 64)
nonce_takes r n s fits e = number_takes w64 (2 ^ 64) any_number (λ n. n) _ r n s wide64 (any_rule (2 ^ 64)) fits e

nonce_again : (n : ℕ) → n < 2 ^ 64 → Again (number_at w64 any_number) n (to_be_bytes w64 n)
nonce_again n lt = number_again w64 (2 ^ 64) any_number (λ n. n) _ n wide64 (any_rule (2 ^ 64)) lt

-- ---- summaries

-- A summary that keeps to its page, of numbers that fit.
record IsKept (s : Summary) : Type 0 where
  keeps : IsSummary s
  entries : All IsEntry s.listed

record TakesEntries (wide : Bool) (page count : ℕ) (r : Reading) (q : Summary) (s : Reading) : Type 0 where
  taken : Takes r (flat_map (entry_bytes wide) q.listed) s
  many : length q.listed ≡ count
  of : q.page ≡ page
  rises : RisesFrom wide page (PAGE_MEMBERS * page) q.listed

entries_take : (wide : Bool) (page count : ℕ) → page < PAGES → (r : Reading) (q : Summary) (s : Reading) → IsBytes r.left → entries_at wide page count r ≡ Ok (q, s) → TakesEntries wide page count r q s
unfolding entries_at
entries_take wide page count lt r q s fits e =
    let a = bind_ok (items_at (entry_at wide page) next_member count (PAGE_MEMBERS * page) [] r) (λ entries. Ok (record { page = page; listed = entries.0 }, entries.1)) (q, s) e in
    let t = items_take (entry_bytes wide) (IsEntryFrom wide page) next_member (entry_at wide page) (entry_takes wide page lt) count (PAGE_MEMBERS * page) [] r a.0.0 a.0.1 fits a.1 in
    let whole : Summary × Reading = (record { page = page; listed = a.0.0 }, a.0.1) in
    subst (λ (y : Summary × Reading). TakesEntries wide page count r y.0 y.1) (ok_is whole (q, s) a.2)
    (subst (λ (es : List SummaryEntry). TakesEntries wide page count r (record { page = page; listed = es }) a.0.1) (sym t.grown) (record { taken = t.taken; many = t.many; of = refl; rises = t.good }))

entries_again : (wide : Bool) (s : Summary) → IsKept s → RisesFrom wide s.page (PAGE_MEMBERS * s.page) s.listed → Again (entries_at wide s.page (length s.listed)) s (flat_map (entry_bytes wide) s.listed)
unfolding entries_at
entries_again wide s kept rises =
    map_again (items_at (entry_at wide s.page) next_member (length s.listed) (PAGE_MEMBERS * s.page) []) (λ es. record { page = s.page; listed = es }) s.listed _
    (items_again (entry_bytes wide) (IsEntryFrom wide s.page) next_member (entry_at wide s.page) (entry_again wide s.page kept.keeps.page) s.listed (PAGE_MEMBERS * s.page) [] rises)

-- what is behind the page, behind the flag, and behind the number of entries, whose place this is
flagged : ℕ → Summary × Reading → Result ((Bool × Summary) × Reading) ℕ
flagged flag q = Ok ((eqb flag 1, q.0), q.1)

listed_at : Bool → ℕ → ℕ → ℕ → ℕ → Reading → Result ((Bool × Summary) × Reading) ℕ
listed_at wide page flag place count r = entries_at wide page count r >>= λ e. widened wide place e >>= flagged flag

count_at : Bool → ℕ → ℕ → Reading → Result ((Bool × Summary) × Reading) ℕ
count_at wide page flag r = byte_at (number_within 0 PAGE_MEMBERS) r >>= λ count. listed_at wide page flag r.place count.0 count.1

flag_at : Bool → ℕ → Reading → Result ((Bool × Summary) × Reading) ℕ
flag_at wide page r = byte_at (number_within 0 1) r >>= λ flag. count_at wide page flag.0 flag.1

flag_back : (f : ℕ) → f ≤ 1 → flag_number (eqb f 1) ≡ f
flag_back zero le = refl
flag_back (suc zero) le = refl
flag_back (suc (suc n)) le = absurd (omega (arith, le))

flag_again : (flag : Bool) → eqb (flag_number flag) 1 ≡ flag
flag_again true = refl
flag_again false = refl

flag_small : (flag : Bool) → flag_number flag ≤ 1
flag_small true = omega arith
flag_small false = omega arith

kept_from : (wide : Bool) (page count : ℕ) (r : Reading) (q : Summary) (s : Reading) → page ≤ LAST_PAGE → TakesEntries wide page count r q s → IsKept q
kept_from wide page count r q s high t =
    let rises : RisesFrom wide q.page (PAGE_MEMBERS * q.page) q.listed = subst (λ (p : ℕ). RisesFrom wide p (PAGE_MEMBERS * p) q.listed) (sym t.of) t.rises in
    record {
      keeps = record { page = omega (arith, t.of, high); listed = all_of wide q.page (PAGE_MEMBERS * q.page) q.listed (omega arith) rises; rising = all_rise wide q.page (PAGE_MEMBERS * q.page) q.listed rises };
      entries = all_fit wide q.page (PAGE_MEMBERS * q.page) q.listed rises;
    }

abbrev kept_so : Summary × Reading → Result (Summary × Reading) ℕ
kept_so x = Ok x

widened_is : (wide : Bool) (place : ℕ) (x y : Summary × Reading) → widened wide place x ≡ Ok y → (wide ≡ true → is_wide x.0 ≡ true) × (x ≡ y)
widened_is true place x y e = one (is_wide x.0) e
  where
    one : (b : Bool) → cond (not b) (Err place) (kept_so x) ≡ Ok y → (true ≡ true → b ≡ true) × (x ≡ y)
    one true e = (λ _. refl, ok_is x y e)
    one false e = absurd cc
widened_is false place x y e = (λ none. absurd cc, ok_is x y e)

-- what was read as a wide summary is one, and what was not isn't
width_is : (wide : Bool) (page count : ℕ) (r : Reading) (q : Summary) (s : Reading) → TakesEntries wide page count r q s → (wide ≡ true → is_wide q ≡ true) → is_wide q ≡ wide
width_is true page count r q s t wide = wide refl
width_is false page count r q s t wide = none_wide page (PAGE_MEMBERS * page) q.listed t.rises

summary_takes : (wide : Bool) (r : Reading) (y : Bool × Summary) (s : Reading) → IsBytes r.left → summary_at wide r ≡ Ok (y, s) → Takes r (summary_bytes wide y.0 y.1) s × IsKept y.1 × (is_wide y.1 ≡ wide)
unfolding summary_at summary_bytes count_at flag_at listed_at flagged
summary_takes wide r y s fits e =
    let a = bind_ok (byte_at (number_within 0 LAST_PAGE) r) (λ page. flag_at wide page.0 page.1) (y, s) e in
    let b = bind_ok (byte_at (number_within 0 1) a.0.1) (λ flag. count_at wide a.0.0 flag.0 flag.1) (y, s) a.2 in
    let c = bind_ok (byte_at (number_within 0 PAGE_MEMBERS) b.0.1) (λ count. listed_at wide a.0.0 b.0.0 b.0.1.place count.0 count.1) (y, s) b.2 in
    let f = bind_ok (entries_at wide a.0.0 c.0.0 c.0.1) (λ e. widened wide b.0.1.place e >>= flagged b.0.0) (y, s) c.2 in
    let g = bind_ok (widened wide b.0.1.place f.0) (flagged b.0.0) (y, s) f.2 in
    let same = widened_is wide b.0.1.place f.0 g.0 g.1 in
    let last : flagged b.0.0 f.0 ≡ Ok (y, s) = subst (λ (x : Summary × Reading). flagged b.0.0 x ≡ Ok (y, s)) (sym same.1) g.2 in
    let t0 = byte_in_takes 0 LAST_PAGE r a.0.0 a.0.1 fits a.1 in
    let t1 = byte_in_takes 0 1 a.0.1 b.0.0 b.0.1 t0.0.fits b.1 in
    let t2 = byte_in_takes 0 PAGE_MEMBERS b.0.1 c.0.0 c.0.1 t1.0.fits c.1 in
    let t3 = entries_take wide a.0.0 c.0.0 (omega (arith, t0.2)) c.0.1 f.0.0 f.0.1 t2.0.fits f.1 in
    let paged : Takes r (f.0.0.page ∷ []) a.0.1 = subst (λ (n : ℕ). Takes r (n ∷ []) a.0.1) (sym t3.of) t0.0 in
    let flag_there : Takes a.0.1 (flag_number (eqb b.0.0 1) ∷ []) b.0.1 = subst (λ (n : ℕ). Takes a.0.1 (n ∷ []) b.0.1) (sym (flag_back b.0.0 t1.2)) t1.0 in
    let counted : Takes b.0.1 (length f.0.0.listed ∷ []) c.0.1 = subst (λ (n : ℕ). Takes b.0.1 (n ∷ []) c.0.1) (sym t3.many) t2.0 in
    let whole : (Bool × Summary) × Reading = ((eqb b.0.0 1, f.0.0), f.0.1) in
    subst (λ (z : (Bool × Summary) × Reading). Takes r (summary_bytes wide z.0.0 z.0.1) z.1 × IsKept z.0.1 × (is_wide z.0.1 ≡ wide)) (ok_is whole (y, s) last)
    (Takes-then _ _ _ _ _ paged (Takes-then _ _ _ _ _ flag_there (Takes-then _ _ _ _ _ counted t3.taken)), kept_from wide a.0.0 c.0.0 c.0.1 f.0.0 f.0.1 t0.2 t3, width_is wide a.0.0 c.0.0 c.0.1 f.0.0 f.0.1 t3 same.0)

widened_so : (wide : Bool) (place : ℕ) (s : Summary) (r : Reading) → is_wide s ≡ wide → widened wide place (s, r) ≡ Ok (s, r)
widened_so true place s r same = rw same refl
widened_so false place s r same = refl

listed_again : (wide : Bool) (flag place : ℕ) (s : Summary) → IsKept s → is_wide s ≡ wide → Again (listed_at wide s.page flag place (length s.listed)) (eqb flag 1, s) (flat_map (entry_bytes wide) s.listed)
unfolding listed_at flagged
listed_again wide flag place s kept same r rest left =
    let a = entries_again wide s kept (summary_rises wide s same kept.keeps kept.entries) r rest left in
    (a.0, ap (λ (v : Result (Summary × Reading) ℕ). v >>= λ e. widened wide place e >>= flagged flag) a.1 ∙ ap (λ (v : Result (Summary × Reading) ℕ). v >>= flagged flag) (widened_so wide place s a.0 same), a.2)

count_again : (wide : Bool) (flag : ℕ) (s : Summary) → IsKept s → is_wide s ≡ wide → Again (count_at wide s.page flag) (eqb flag 1, s) (length s.listed ∷ flat_map (entry_bytes wide) s.listed)
unfolding count_at
count_again wide flag s kept same r rest left =
    let a = byte_in_again 0 PAGE_MEMBERS (length s.listed) (omega arith) (listed_few s kept.keeps) r (flat_map (entry_bytes wide) s.listed ++ rest) left in
    let b = listed_again wide flag r.place s kept same a.0 rest a.2.left in
    (b.0, ap (λ (v : Result (ℕ × Reading) ℕ). v >>= λ count. listed_at wide s.page flag r.place count.0 count.1) a.1 ∙ b.1, record { left = b.2.left; place = omega (arith, a.2.place, b.2.place) })

summary_again : (wide flag : Bool) (s : Summary) → IsKept s → is_wide s ≡ wide → Again (summary_at wide) (flag, s) (summary_bytes wide flag s)
unfolding summary_at summary_bytes count_at flag_at listed_at flagged
summary_again wide flag s kept same =
    let high : s.page ≤ LAST_PAGE = omega (arith, kept.keeps.page) in
    let f = flag_number flag in
    let there =
    then_again (byte_at (number_within 0 LAST_PAGE)) (flag_at wide) s.page (eqb f 1, s) (s.page ∷ []) (f ∷ (length s.listed ∷ flat_map (entry_bytes wide) s.listed)) (byte_in_again 0 LAST_PAGE s.page (omega arith) high)
    (then_again (byte_at (number_within 0 1)) (count_at wide s.page) f (eqb f 1, s) (f ∷ []) (length s.listed ∷ flat_map (entry_bytes wide) s.listed) (byte_in_again 0 1 f (omega arith) (flag_small flag))
    (count_again wide f s kept same)) in
    subst (λ (b : Bool). Again (summary_at wide) (b, s) (summary_bytes wide flag s)) (flag_again flag) there

-- ---- records

record_one : (least : ℕ) (r : Reading) (x : Record) (s : Reading) → IsBytes r.left → any_record least r ≡ Ok (x, s) → Takes r (record_bytes x) s × IsSignedRecord x
record_one least r x s fits e =
    let t = record_takes r x s fits e in
    (t.0, record { body = t.1; signature = t.2 })

abbrev AreGood : List Record → Type 0
AreGood records = GoodFrom record_bytes (λ _ x. IsSignedRecord x) nothing_kept 0 records

all_good : (records : List Record) → AreGood records → All IsSignedRecord records
all_good [] h = All-nil IsSignedRecord
all_good (x ∷ xs) h = All-cons IsSignedRecord x xs h.0 (all_good xs h.1)

good_all : (records : List Record) → All IsSignedRecord records → AreGood records
good_all [] h = tt
good_all (x ∷ xs) h = (All-head IsSignedRecord x xs h, good_all xs (All-tail IsSignedRecord x xs h))

records_take : (from : ℕ) (r : Reading) (xs : List Record) (s : Reading) → from < MEMBERS → IsBytes r.left → records_at r ≡ Ok (xs, s) → Takes r (records_bytes xs) s × IsRecordList from xs
unfolding records_at counted_at records_bytes
records_take from r xs s sender fits e =
    let a = bind_ok (number_at w16 (number_within 1 65535) r) (λ count. counted_at count.0 count.1) (xs, s) e in
    let t0 = number_takes w16 (2 ^ 16) (number_within 1 65535) (λ n. n) _ r a.0.0 a.0.1 wide16 (within_rule (2 ^ 16) 1 65535 (lit< tt)) fits a.1 in
    let t1 = items_take record_bytes (λ _ x. IsSignedRecord x) nothing_kept any_record record_one a.0.0 0 [] a.0.1 xs s t0.0.fits a.2 in
    let many : length xs ≡ a.0.0 = ap length t1.grown ∙ t1.many in
    let counted : Takes r (to_be_bytes w16 (length xs)) a.0.1 = subst (λ (n : ℕ). Takes r (to_be_bytes w16 n) a.0.1) (sym many) t0.0 in
    let listed : Takes a.0.1 (flat_map record_bytes xs) s = subst (λ (ys : List Record). Takes a.0.1 (flat_map record_bytes ys) s) (sym t1.grown) t1.taken in
    (Takes-then _ _ _ _ _ counted listed, record { sender = sender; some = omega (arith, many, t0.1.0); few = omega (arith, many, t0.1.1); each = subst (All IsSignedRecord) (sym t1.grown) (all_good t1.more t1.good) })

records_again : (from : ℕ) (xs : List Record) → IsRecordList from xs → Again records_at xs (records_bytes xs)
unfolding records_at counted_at records_bytes
records_again from xs is =
    then_again (number_at w16 (number_within 1 65535)) counted_at (length xs) xs (to_be_bytes w16 (length xs)) (flat_map record_bytes xs)
    (number_again w16 (2 ^ 16) (number_within 1 65535) (λ n. n) _ (length xs) wide16 (within_rule (2 ^ 16) 1 65535 (lit< tt)) (is.some, omega (arith, is.few)))
    (items_again record_bytes (λ _ x. IsSignedRecord x) nothing_kept any_record (λ least x good. record_again x good.body good.signature) xs 0 [] (good_all xs is.each))

-- ---- datagrams

abbrev read_as : {A : Type 0} → (Reading → Result (A × Reading) ℕ) → (A → Datagram) → Reading → Result (Datagram × Reading) ℕ
read_as step view r = step r >>= λ x. Ok (view x.0, x.1)

read_as_takes : {A : Type 0} (step : Reading → Result (A × Reading) ℕ) (view : A → Datagram) (fields : A → List ℕ) (kind from : ℕ) (r mid : Reading) (d : Datagram) (s : Reading)
    → ((x : A) (later : Reading) → step mid ≡ Ok (x, later) → Takes mid (fields x) later × KeepsRules (view x))
    → ((x : A) → head_bytes kind from ++ fields x ≡ datagram_bytes (view x))
    → Takes r (head_bytes kind from) mid → read_as step view mid ≡ Ok (d, s) → Takes r (datagram_bytes d) s × KeepsRules d
read_as_takes step view fields kind from r mid d s taken spelled front e =
    let a = bind_ok (step mid) (λ x. Ok (view x.0, x.1)) (d, s) e in
    let t = taken a.0.0 a.0.1 a.1 in
    let made : Datagram × Reading = (view a.0.0, a.0.1) in
    subst (λ (y : Datagram × Reading). Takes r (datagram_bytes y.0) y.1 × KeepsRules y.0) (ok_is made (d, s) a.2)
    (subst (λ (text : List ℕ). Takes r text a.0.1) (spelled a.0.0) (Takes-then _ _ _ _ _ front t.0), t.1)

probe_takes : (from : ℕ) (mid : Reading) → from < MEMBERS → IsBytes mid.left → (n : ℕ) (later : Reading) → number_at w64 any_number mid ≡ Ok (n, later) → Takes mid (to_be_bytes w64 n) later × IsProbe from n
probe_takes from mid sender fits n later e =
    let t = nonce_takes mid n later fits e in
    (t.0, record { sender = sender; nonce_fits = t.1 })

page_takes : (wide : Bool) (from : ℕ) (r mid : Reading) (d : Datagram) (s : Reading) → from < MEMBERS → Takes r (head_bytes (summary_kind wide) from) mid
    → read_as (summary_at wide) (λ q. kinds.Summary from q.0 q.1) mid ≡ Ok (d, s) → Takes r (datagram_bytes d) s × KeepsRules d
page_takes wide from r mid d s sender front e =
    let a = bind_ok (summary_at wide mid) (λ x. Ok (kinds.Summary from x.0.0 x.0.1, x.1)) (d, s) e in
    let t = summary_takes wide mid a.0.0 a.0.1 front.fits a.1 in
    let made : Datagram × Reading = (kinds.Summary from a.0.0.0 a.0.0.1, a.0.1) in
    let whole : Takes r (head_bytes (summary_kind wide) from ++ summary_bytes wide a.0.0.0 a.0.0.1) a.0.1 = Takes-then _ _ _ _ _ front t.0 in
    subst (λ (y : Datagram × Reading). Takes r (datagram_bytes y.0) y.1 × KeepsRules y.0) (ok_is made (d, s) a.2)
    (subst (λ (b : Bool). Takes r (head_bytes (summary_kind b) from ++ summary_bytes b a.0.0.0 a.0.0.1) a.0.1) (sym t.2) whole, record { sender = sender; keeps = t.1.keeps; entries = t.1.entries })

-- the kind of a summary
kind_wide : (kind : ℕ) → eqb kind 1 ≡ false → eqb kind 2 ≡ false → eqb kind 4 ≡ false → 1 ≤ kind → kind ≤ 5 → kind ≡ summary_kind (eqb kind 5)
kind_wide kind one two four low high = elim (cases_eq kind 5) [
  | inl five ↦ rw five refl
  | inr other ↦
      let three : kind ≡ 3 = grind (arith, nat_tests) in
      rw three refl
]

content_takes : (kind from : ℕ) (r mid : Reading) (d : Datagram) (s : Reading) → 1 ≤ kind → kind ≤ 5 → from < MEMBERS → Takes r (head_bytes kind from) mid
    → content_at kind from mid ≡ Ok (d, s) → Takes r (datagram_bytes d) s × KeepsRules d
unfolding content_at
content_takes kind from r mid d s low high sender front e =
    let at : (k : ℕ) → kind ≡ k → Takes r (head_bytes k from) mid = λ k same. subst (λ (n : ℕ). Takes r (head_bytes n from) mid) same front in
    let ping = read_as (number_at w64 any_number) (λ n. kinds.Ping from n) mid in
    let pong = read_as (number_at w64 any_number) (λ n. kinds.Pong from n) mid in
    let summary = read_as (summary_at (eqb kind 5)) (λ q. kinds.Summary from q.0 q.1) mid in
    let records = read_as records_at (λ xs. kinds.Records from xs) mid in
    elim (chosen (eqb kind 1) ping (cond (eqb kind 2) pong (cond (eqb kind 4) records summary)) (Ok (d, s)) e) [
      | inl p ↦ read_as_takes (number_at w64 any_number) (λ n. kinds.Ping from n) (to_be_bytes w64) 1 from r mid d s (probe_takes from mid sender front.fits) (λ n. refl) (at 1 (eqb-true kind 1 p.0)) p.1
      | inr p ↦ elim (chosen (eqb kind 2) pong (cond (eqb kind 4) records summary) (Ok (d, s)) p.1) [
        | inl q ↦ read_as_takes (number_at w64 any_number) (λ n. kinds.Pong from n) (to_be_bytes w64) 2 from r mid d s (probe_takes from mid sender front.fits) (λ n. refl) (at 2 (eqb-true kind 2 q.0)) q.1
        | inr q ↦ elim (chosen (eqb kind 4) records summary (Ok (d, s)) q.1) [
          | inl t ↦ read_as_takes records_at (λ xs. kinds.Records from xs) records_bytes 4 from r mid d s (λ xs later. records_take from mid xs later sender front.fits) (λ xs. refl) (at 4 (eqb-true kind 4 t.0)) t.1
          | inr t ↦ page_takes (eqb kind 5) from r mid d s sender (at (summary_kind (eqb kind 5)) (kind_wide kind p.0 q.0 t.0 low high)) t.1
        ]
      ]
    ]

datagram_takes : (r : Reading) (d : Datagram) (s : Reading) → IsBytes r.left → datagram_at r ≡ Ok (d, s) → Takes r (datagram_bytes d) s × KeepsRules d
unfolding datagram_at
datagram_takes r d s fits e =
    let a = bind_ok (head_at r) (λ head. content_at head.0.0 head.0.1 head.1) (d, s) e in
    let t = head_takes r a.0.0 a.0.1 fits a.1 in
    content_takes a.0.0.0 a.0.0.1 r a.0.1 d s t.1 t.2 t.3 t.0 a.2

page_again : (wide : Bool) (from : ℕ) (flag : Bool) (s : Summary) → is_wide s ≡ wide → IsPage from s
    → Again datagram_at (kinds.Summary from flag s) (head_bytes (summary_kind wide) from ++ summary_bytes wide flag s)
unfolding datagram_at content_at
page_again true from flag s same is =
    then_again head_at (λ head r. content_at head.0 head.1 r) (5, from) (kinds.Summary from flag s) (head_bytes 5 from) (summary_bytes true flag s) (head_again 5 from (omega arith) (omega arith) is.sender)
    (map_again (summary_at true) (λ q. kinds.Summary from q.0 q.1) (flag, s) (summary_bytes true flag s) (summary_again true flag s (record { keeps = is.keeps; entries = is.entries }) same))
page_again false from flag s same is =
    then_again head_at (λ head r. content_at head.0 head.1 r) (3, from) (kinds.Summary from flag s) (head_bytes 3 from) (summary_bytes false flag s) (head_again 3 from (omega arith) (omega arith) is.sender)
    (map_again (summary_at false) (λ q. kinds.Summary from q.0 q.1) (flag, s) (summary_bytes false flag s) (summary_again false flag s (record { keeps = is.keeps; entries = is.entries }) same))

datagram_again : (d : Datagram) → KeepsRules d → Again datagram_at d (datagram_bytes d)
unfolding datagram_at content_at
datagram_again (kinds.Ping from nonce) is =
    then_again head_at (λ head r. content_at head.0 head.1 r) (1, from) (kinds.Ping from nonce) (head_bytes 1 from) (to_be_bytes w64 nonce) (head_again 1 from (omega arith) (omega arith) is.sender)
    (map_again (number_at w64 any_number) (λ n. kinds.Ping from n) nonce (to_be_bytes w64 nonce) (nonce_again nonce is.nonce_fits))
datagram_again (kinds.Pong from nonce) is =
    then_again head_at (λ head r. content_at head.0 head.1 r) (2, from) (kinds.Pong from nonce) (head_bytes 2 from) (to_be_bytes w64 nonce) (head_again 2 from (omega arith) (omega arith) is.sender)
    (map_again (number_at w64 any_number) (λ n. kinds.Pong from n) nonce (to_be_bytes w64 nonce) (nonce_again nonce is.nonce_fits))
datagram_again (kinds.Summary from flag s) is = page_again (is_wide s) from flag s refl is
datagram_again (kinds.Records from records) is =
    then_again head_at (λ head r. content_at head.0 head.1 r) (4, from) (kinds.Records from records) (head_bytes 4 from) (records_bytes records) (head_again 4 from (omega arith) (omega arith) is.sender)
    (map_again records_at (λ q. kinds.Records from q) records (records_bytes records) (records_again from records is))

-- ---- whole datagrams

none_left : (xs : List ℕ) → length xs ≡ 0 → xs ≡ []
none_left [] e = refl
none_left (x ∷ xs) e = absurd (omega (arith, e))

abbrev given : {A : Type 0} → A → Result A ℕ
given x = Ok x

ended_ok : (x : Datagram × Reading) (d : Datagram) → ended x ≡ Ok d → (length x.1.left ≡ 0) × (x.0 ≡ d)
ended_ok x d e =
    elim (chosen (eqb (length x.1.left) 0) (given x.0) (Err x.1.place) (Ok d) e) [
      | inl p ↦ (eqb-true _ _ p.0, ok_is x.0 d p.1)
      | inr p ↦ absurd (wrong x.1.place p.1)
    ]
  where
    wrong : (place : ℕ) → Err place ≡ given d → ⊥
    wrong place e = absurd cc

within_ok : (b : Bool) (r : Result Datagram ℕ) (d : Datagram) → cond b (Err longest) r ≡ Ok d → (b ≡ false) × (r ≡ Ok d)
within_ok true r d e = absurd cc
within_ok false r d e = (refl, e)

pub read_found : (bytes : List ℕ) (d : Datagram) → IsBytes bytes → read_of bytes ≡ Ok d → IsDatagram bytes d
unfolding read_of whole_of
read_found bytes d fits e =
    let g = within_ok (ltb longest (length bytes)) (whole_of bytes) d e in
    let a = bind_ok (datagram_at (reading_of bytes)) ended d g.1 in
    let t = datagram_takes (reading_of bytes) a.0.0 a.0.1 fits a.1 in
    let last = ended_ok a.0 d a.2 in
    let spelled : bytes ≡ datagram_bytes a.0.0 = t.0.parts ∙ ap (λ (rest : List ℕ). datagram_bytes a.0.0 ++ rest) (none_left a.0.1.left last.0) ∙ append-nil (datagram_bytes a.0.0) in
    subst (IsDatagram bytes) last.1 (record { rules = t.1; spelled = spelled; few = ltb-false _ _ g.0 })

pub read_again : (bytes : List ℕ) (d : Datagram) → IsDatagram bytes d → read_of bytes ≡ Ok d
unfolding read_of whole_of
read_again bytes d is =
    let a = datagram_again d is.rules (reading_of bytes) [] (is.spelled ∙ sym (append-nil (datagram_bytes d))) in
    let short : ltb longest (length bytes) ≡ false = le-ltb _ _ is.few in
    let none : eqb (length a.0.left) 0 ≡ true = ap (λ (rest : List ℕ). eqb (length rest) 0) a.2.left in
    rw short (ap (λ (v : Result (Datagram × Reading) ℕ). v >>= ended) a.1 ∙ ap (λ (b : Bool). cond b (given d) (Err a.0.place)) none)

-- What holds of each datagram that is read holds of the answer.
found_by : (P : Datagram → Type 0) (read : Result Datagram ℕ) (answer : Result Datagram FormFault) → ((d : Datagram) → read ≡ Ok d → P d) → GivesDatagram read answer → IfOk answer (λ d. P d)
found_by P (Ok d) (Ok x) found h = subst P (sym h) (found d refl)
found_by P (Ok d) (Err e) found h = tt
found_by P (Err place) (Ok x) found h = absurd cc
found_by P (Err place) (Err e) found h = tt

pub is_found : (bytes : List ℕ) (answer : Result Datagram FormFault) → IsBytes bytes → GivesDatagram (read_of bytes) answer → IfOk answer (λ d. IsDatagram bytes d)
is_found bytes answer fits h = found_by (IsDatagram bytes) (read_of bytes) answer (λ d e. read_found bytes d fits e) h

-- ---- what is read can be written

port_of : (b : Body) → IsBody b → HasPort b
port_of (Certificate c) h = h.has_port
port_of (Note n) h = tt
port_of (Accusation a) h = tt

content_of : (d : Datagram) → KeepsRules d → HasContent d
content_of (kinds.Ping from nonce) h = tt
content_of (kinds.Pong from nonce) h = tt
content_of (kinds.Summary from flag s) h = h.keeps
content_of (kinds.Records from records) h = record { some = h.some; few = h.few; each = λ k d lt. let good = h.each k d lt in record { port = port_of _ good.body; signature = good.signature } }

writable_of : (bytes : List ℕ) (d : Datagram) → IsDatagram bytes d → IsWritable d
writable_of bytes d is = record { content = content_of d is.rules; few = omega (arith, is.few, ap length is.spelled) }

pub is_writable : (bytes : List ℕ) (answer : Result Datagram FormFault) → IsBytes bytes → GivesDatagram (read_of bytes) answer → IfOk answer (λ d. IsWritable d)
is_writable bytes answer fits h = found_by IsWritable (read_of bytes) answer (λ d e. writable_of bytes d (read_found bytes d fits e)) h

given_by : (d : Datagram) (answer : Result Datagram FormFault) → GivesDatagram (Ok d) answer → IsReadAs d answer
given_by d (Ok x) h = h
given_by d (Err e) h = h.0

pub is_given : (bytes : List ℕ) (answer : Result Datagram FormFault) → GivesDatagram (read_of bytes) answer → (d : Datagram) → IsDatagram bytes d → IsReadAs d answer
is_given bytes answer h d is = given_by d answer (subst (λ (v : Result Datagram ℕ). GivesDatagram v answer) (read_again bytes d is) h)

pub datagrams_one : (bytes : List ℕ) (d e : Datagram) → IsDatagram bytes d → IsDatagram bytes e → d ≡ e
datagrams_one bytes d e p q = ok_is d e (sym (read_again bytes d p) ∙ read_again bytes e q)

pub headed : (from : ℕ) (records : List Record) → (head_bytes 4 from ++ to_be_bytes w16 (length records)) ++ flat_map record_bytes records ≡ datagram_bytes (kinds.Records from records)
unfolding records_bytes
headed from records = append_assoc (head_bytes 4 from) (to_be_bytes w16 (length records)) (flat_map record_bytes records)
