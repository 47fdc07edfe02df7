-- The loops over entries and records: where they stand, stop, and end.
use Rattle.std.proofs.Common.{◌≡◌, ℕ, ◌+◌, ◌-◌, ◌*◌, ◌<◌, ◌≤◌, Bool, List, [], ◌∷◌, ◌++◌, Result, Ok, Err, refl, sym, ap, subst, ◌∙◌}
use Rattle.std.specs.Prelude.{IsOkAnd}
use Rattle.std.specs.Int.{w16}
use Rattle.fields.specs.Reading.{Reading}
use Rattle.ff_ids.specs.declared.summary.SummaryEntry.{SummaryEntry}
use Rattle.ff_ids.specs.declared.summary.Summary.{Summary}
use Rattle.records.specs.declared.Record.{Record}
use Rattle.records.specs.declared.fault.FormFault.{FormFault}
use Rattle.records.specs.declared.fault.FormFault.TheVariants.{BadForm, OutOfMemory}
use Rattle.records.specs.Grammar.{◌>>=◌, number_at, number_within, record_at, ReadsRecord}
use Rattle.datagram.specs.Grammar.{items_at, entry_at, next_member, entries_at, any_record, nothing_kept, counted_at, records_at, GivesList}
use Rattle.datagram.proofs.Items.{items_on, items_stop, items_done}

abbrev done : {A : Type 0} → A → Result A ℕ
done x = Ok x

ok_and : {A : Type 0} (v : Result A ℕ) (P : A → Type 0) → IsOkAnd v P → (x : A) × (v ≡ Ok x) × P x
ok_and (Ok x) P h = (x, refl, h)
ok_and (Err e) P h = absurd h

-- ---- entries

abbrev of_page : ℕ → Result (List SummaryEntry × Reading) ℕ → Result (Summary × Reading) ℕ
of_page page v = v >>= λ entries. done (record { page = page; listed = entries.0 }, entries.1)

-- Of so many entries so many are read.
abbrev pub EntriesRead : Bool → ℕ → ℕ → Reading → ℕ → ℕ → List SummaryEntry → Reading → Type 0
EntriesRead wide page count start i least before r = items_at (entry_at wide page) next_member (count - i) least before r ≡ items_at (entry_at wide page) next_member count (32 * page) [] start

pub entries_stopped : (wide : Bool) (page count : ℕ) (start : Reading) (i least : ℕ) (before : List SummaryEntry) (r : Reading) (place : ℕ) → i < count → entry_at wide page least r ≡ Err place
    → EntriesRead wide page count start i least before r → entries_at wide page count start ≡ Err place
unfolding entries_at
entries_stopped wide page count start i least before r place lt one so_far = ap (of_page page) (items_stop (entry_at wide page) next_member count i least before r place _ lt one so_far)

pub entries_done : (wide : Bool) (page count : ℕ) (start : Reading) (i least : ℕ) (s : Summary) (r : Reading) → count ≤ i → s.page ≡ page
    → EntriesRead wide page count start i least s.listed r → entries_at wide page count start ≡ Ok (s, r)
unfolding entries_at
entries_done wide page count start i least s r le same so_far =
    ap (of_page page) (items_done (entry_at wide page) next_member count i least s.listed r _ le so_far) ∙ ap (λ (p : ℕ). done (record { page = p; listed = s.listed }, r)) (sym same)

-- ---- records

abbrev pub RecordsRead : ℕ → Reading → ℕ → List Record → Reading → Type 0
RecordsRead count start i before r = items_at any_record nothing_kept (count - i) 0 before r ≡ items_at any_record nothing_kept count 0 [] start

pub record_passed : (count : ℕ) (start : Reading) (i : ℕ) (before : List Record) (r s : Reading) → i < count → IsOkAnd (record_at r) (λ x. x.1 ≡ s)
    → RecordsRead count start i before r → (x : List Record) × RecordsRead count start (i + 1) x s
record_passed count start i before r s lt one so_far =
    let x = ok_and (record_at r) (λ x. x.1 ≡ s) one in
    (before ++ x.0.0 ∷ [], subst (RecordsRead count start (i + 1) (before ++ x.0.0 ∷ [])) x.2 (items_on any_record nothing_kept count i 0 before r x.0.0 x.0.1 _ lt x.1 so_far))

counted_from : (r : Reading) (count : ℕ) (start : Reading) → number_at w16 (number_within 1 65535) r ≡ Ok (count, start) → records_at r ≡ counted_at count start
unfolding records_at
counted_from r count start e = ap (λ (v : Result (ℕ × Reading) ℕ). v >>= λ c. counted_at c.0 c.1) e

counted_stop : (count : ℕ) (start : Reading) (i : ℕ) (before : List Record) (r : Reading) (place : ℕ) → i < count → record_at r ≡ Err place
    → RecordsRead count start i before r → counted_at count start ≡ Err place
unfolding counted_at
counted_stop count start i before r place lt one so_far = items_stop any_record nothing_kept count i 0 before r place _ lt one so_far

counted_done : (count : ℕ) (start : Reading) (i : ℕ) (before : List Record) (r : Reading) → count ≤ i → RecordsRead count start i before r → counted_at count start ≡ Ok (before, r)
unfolding counted_at
counted_done count start i before r le so_far = items_done any_record nothing_kept count i 0 before r _ le so_far

pub records_stopped : (first : Reading) (count : ℕ) (start : Reading) (i : ℕ) (before : List Record) (r : Reading) (place : ℕ) → number_at w16 (number_within 1 65535) first ≡ Ok (count, start)
    → i < count → record_at r ≡ Err place → RecordsRead count start i before r → records_at first ≡ Err place
records_stopped first count start i before r place head lt one so_far = counted_from first count start head ∙ counted_stop count start i before r place lt one so_far

pub records_passed : (first : Reading) (count : ℕ) (start : Reading) (i : ℕ) (before : List Record) (r : Reading) → number_at w16 (number_within 1 65535) first ≡ Ok (count, start)
    → count ≤ i → RecordsRead count start i before r → IsOkAnd (records_at first) (λ x. x.1 ≡ r)
records_passed first count start i before r head le so_far =
    subst (λ (v : Result (List Record × Reading) ℕ). IsOkAnd v (λ x. x.1 ≡ r)) (sym (counted_from first count start head ∙ counted_done count start i before r le so_far)) refl

pub counted_given : (count : ℕ) (start : Reading) (i : ℕ) (before : List Record) (r : Reading) (made : List Record) → count ≤ i → made ≡ before
    → RecordsRead count start i before r → IsOkAnd (counted_at count start) (λ y. y.0 ≡ made)
counted_given count start i before r made le same so_far =
    subst (λ (v : Result (List Record × Reading) ℕ). IsOkAnd v (λ y. y.0 ≡ made)) (sym (counted_done count start i before r le so_far)) (sym same)

pub counted_refused : (count : ℕ) (start : Reading) (i : ℕ) (before : List Record) (r later : Reading) (e : FormFault) → i < count → ReadsRecord (Err e) later (record_at r)
    → RecordsRead count start i before r → GivesList {X = List Record} (λ l. l) (Err e) (counted_at count start)
counted_refused count start i before r later (BadForm place) lt one so_far = counted_stop count start i before r place lt one so_far
counted_refused count start i before r later OutOfMemory lt one so_far = tt
