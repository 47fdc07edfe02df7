-- What differs is of what this side's entries name.
use Rattle.std.proofs.Common.{◌≡◌, ℕ, zero, suc, ◌<◌, Bool, true, false, cond, List, [], ◌∷◌, ◌++◌, All, map, filter, refl, arith}
use Rattle.std.specs.Prelude.{◌&&◌, nat_lt, not, is_some}
use Rattle.std.specs.List.{range_with_len}
use Rattle.std.proofs.lemmas.Bool.{and_parts, ltb-true}
use Rattle.std.proofs.lemmas.List.Elements.{All-append}
use Rattle.ff_ids.specs.declared.TheConstants.{MASK_BITS}
use Rattle.ff_ids.specs.declared.summary.SummaryEntry.{SummaryEntry}
use Rattle.ff_ids.specs.declared.summary.RecordKey.{RecordKey}
use Rattle.ff_ids.specs.declared.summary.RecordKey.TheVariants.{Certificate, Note, Accusation}
use Rattle.ff_ids.specs.Masks.{enables}
use Rattle.gossip.specs.Differ.{entry_of, is_behind, lacks_ring, keys_against, rings_lacking, certificates_lacking, notes_lacking, accusations_lacking, differ}

-- It holds of each key that the entry names: its certificate, its note where the epoch isn't 0, and an accusation on each of its rings.
pub record HoldsOf (P : RecordKey → Type 0) (e : SummaryEntry) : Type 0 where
  pub certificate : P (Certificate e.member)
  pub note : 0 < e.epoch → P (Note e.member)
  pub accusation : (r : ℕ) → enables e.rings r ≡ true → P (Accusation e.member (record { 0 = r }))

All-first : {A : Type 0} (P : A → Type 0) (x : A) (xs : List A) → P x → All P xs → All P (x ∷ xs)
All-first P x xs here rest zero d h = here
All-first P x xs here rest (suc k) d h = rest k d (omega arith)

first : {A : Type 0} (P : A → Type 0) (x : A) (xs : List A) → All P (x ∷ xs) → P x
first P x xs all = all 0 x (omega arith)

others : {A : Type 0} (P : A → Type 0) (x : A) (xs : List A) → All P (x ∷ xs) → All P xs
others P x xs all = λ k d h. all (suc k) d (omega arith)

-- each key that is made of an entry which passes
All-keys : (P : RecordKey → Type 0) (key : SummaryEntry → RecordKey) (q : SummaryEntry → Bool) (es : List SummaryEntry) → ((e : SummaryEntry) → HoldsOf P e → q e ≡ true → P (key e)) → All (HoldsOf P) es → All P (map key (filter q es))
All-keys P key q [] each all = λ k d h. absurd (omega arith)
All-keys P key q (e ∷ es) each all = by_test (q e) refl (first (HoldsOf P) e es all) (All-keys P key q es each (others (HoldsOf P) e es all))
  where
    by_test : (b : Bool) → q e ≡ b → HoldsOf P e → All P (map key (filter q es)) → All P (map key (cond b (e ∷ filter q es) (filter q es)))
    by_test false is here rest = rest
    by_test true is here rest = All-first P (key e) (map key (filter q es)) (each e here is) rest

All-rings : (P : RecordKey → Type 0) (member rings : ℕ) (test : ℕ → Bool) (ns : List ℕ) → ((r : ℕ) → enables rings r ≡ true → P (Accusation member (record { 0 = r }))) → All P (keys_against member (filter test (filter (enables rings) ns)))
All-rings P member rings test [] each = λ k d h. absurd (omega arith)
All-rings P member rings test (n ∷ ns) each = by_ring (enables rings n) refl (All-rings P member rings test ns each)
  where
    by_wish : (b : Bool) → enables rings n ≡ true → All P (keys_against member (filter test (filter (enables rings) ns))) → All P (keys_against member (cond b (n ∷ filter test (filter (enables rings) ns)) (filter test (filter (enables rings) ns))))
    by_wish false on rest = rest
    by_wish true on rest = All-first P (Accusation member (record { 0 = n })) (keys_against member (filter test (filter (enables rings) ns))) (each n on) rest

    by_ring : (b : Bool) → enables rings n ≡ b → All P (keys_against member (filter test (filter (enables rings) ns))) → All P (keys_against member (filter test (cond b (n ∷ filter (enables rings) ns) (filter (enables rings) ns))))
    by_ring false off rest = rest
    by_ring true on rest = by_wish (test n) on rest

All-accusations : (P : RecordKey → Type 0) (mine theirs : List SummaryEntry) → All (HoldsOf P) mine → All P (accusations_lacking mine theirs)
All-accusations P [] theirs all = λ k d h. absurd (omega arith)
All-accusations P (e ∷ mine) theirs all =
    All-append P (rings_lacking (entry_of theirs e.member) e) (accusations_lacking mine theirs)
    (All-rings P e.member e.rings (lacks_ring (entry_of theirs e.member) e) (range_with_len 0 MASK_BITS) (first (HoldsOf P) e mine all).accusation)
    (All-accusations P mine theirs (others (HoldsOf P) e mine all))

-- What holds of each key that the entries here name, holds of each key that differs.
pub All-differ : (P : RecordKey → Type 0) (mine theirs : List SummaryEntry) → All (HoldsOf P) mine → All P (differ mine theirs)
All-differ P mine theirs all =
    All-append P (certificates_lacking mine theirs) (notes_lacking mine theirs ++ accusations_lacking mine theirs)
    (All-keys P (λ e. Certificate e.member) (λ e. not (is_some (entry_of theirs e.member))) mine (λ e here is. here.certificate) all)
    (All-append P (notes_lacking mine theirs) (accusations_lacking mine theirs)
    (All-keys P (λ e. Note e.member) (λ e. nat_lt 0 e.epoch && is_behind (entry_of theirs e.member) e) mine (λ e here is. here.note (ltb-true 0 e.epoch (and_parts (nat_lt 0 e.epoch) (is_behind (entry_of theirs e.member) e) is).0)) all)
    (All-accusations P mine theirs all))
