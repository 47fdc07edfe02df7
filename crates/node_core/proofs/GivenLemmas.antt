-- Which keys have a record, and what is given of these as bytes.
use Rattle.std.proofs.Common.{◌≡◌, ◌≢◌, ℕ, zero, suc, ◌+◌, ◌<◌, ◌≤◌, true, false, List, [], ◌∷◌, ◌++◌, length, take, get_or, map, Option, Some, None, is_some, refl, ap, sym, ◌∙◌, arith}
use Rattle.std.specs.Prelude.{flat_map, IsSome}
use Rattle.std.specs.FinMap.{contains_key}
use Rattle.std.specs.Int.{w16, to_be_bytes}
use Rattle.std.specs.List.{cons_option}
use Rattle.std.proofs.lemmas.List.{take_more}
use Rattle.std.proofs.lemmas.List.Elements.{filter_map-append}
use Rattle.ff_ids.specs.declared.summary.RecordKey.{RecordKey}
use Rattle.records.specs.declared.Record.{Record}
use Rattle.records.specs.Signing.{CheckedRecord}
use Rattle.records.specs.Spelling.{record_bytes}
use Rattle.record_set.specs.Held.{Held, held_under}
use Rattle.record_set.specs.Picks.{held_all, spelled, fitting}
use Rattle.datagram.specs.declared.Datagram.TheVariants as kinds
use Rattle.datagram.specs.Spelling.{head_bytes, datagram_bytes}
use Rattle.datagram.proofs.Readings.{headed}
use Rattle.node_core.specs.Exchanging.{given_of, IsGiven}

-- ---- keys with a record

held-then : (set : Held) (ks : List RecordKey) (i : ℕ) (k : RecordKey) → i < length ks → k ≡ get_or ks i k
    → held_all set (take (i + 1) ks) ≡ held_all set (take i ks) ++ held_all set (k ∷ [])
held-then set ks i k within here =
    ap (held_all set) (take_more ks i k within ∙ ap (λ (x : RecordKey). take i ks ++ x ∷ []) (sym here))
    ∙ filter_map-append (held_under set) (take i ks) (k ∷ [])

pub held-one : (set : Held) (ks held : List RecordKey) (i : ℕ) (k : RecordKey) → i < length ks → k ≡ get_or ks i k
    → held_all set held ≡ held_all set (take i ks) → held_all set (held ++ k ∷ []) ≡ held_all set (take (i + 1) ks)
held-one set ks held i k within here same =
    filter_map-append (held_under set) held (k ∷ []) ∙ ap (λ cs. cs ++ held_all set (k ∷ [])) same
    ∙ sym (held-then set ks i k within here)

pub held-none : (set : Held) (ks held : List RecordKey) (i : ℕ) (k : RecordKey) → i < length ks → k ≡ get_or ks i k
    → contains_key set k ≡ false → held_all set held ≡ held_all set (take i ks) → held_all set held ≡ held_all set (take (i + 1) ks)
held-none set ks held i k within here absent same =
    same ∙ sym (held-then set ks i k within here ∙ ap (λ (o : Option CheckedRecord). held_all set (take i ks) ++ cons_option o []) (none (held_under set k) absent) ∙ nil-end (held_all set (take i ks)))
  where
    none : (o : Option CheckedRecord) → is_some o ≡ false → o ≡ None
    none None h = refl
    none (Some c) h = cc

    nil-end : (cs : List CheckedRecord) → cs ++ [] ≡ cs
    nil-end [] = refl
    nil-end (c ∷ cs) = ap (λ xs. c ∷ xs) (nil-end cs)

pub has-record : (set : Held) (k : RecordKey) → contains_key set k ≡ true → IsSome (held_under set k)
has-record set k h = some (held_under set k) h
  where
    some : (o : Option CheckedRecord) → is_some o ≡ true → IsSome o
    some None h = cc
    some (Some c) h = refl

-- ---- bytes

spelled-records : (cs : List CheckedRecord) → spelled cs ≡ flat_map record_bytes (map (λ c. c.rec) cs)
spelled-records [] = refl
spelled-records (c ∷ cs) = ap (λ xs. record_bytes c.rec ++ xs) (spelled-records cs)

length-records : (cs : List CheckedRecord) → length (map (λ c. c.rec) cs) ≡ length cs
length-records [] = refl
length-records (c ∷ cs) = ap suc (length-records cs)

length-front : {X : Type 0} (n : ℕ) (xs : List X) → n ≤ length xs → length (take n xs) ≡ n
length-front zero xs h = refl
length-front (suc n) [] h = absurd (omega (arith, h))
length-front (suc n) (x ∷ xs) h = ap suc (length-front n xs (omega (arith, h)))

pub given-is : (from : ℕ) (set : Held) (ks : List RecordKey) (count : ℕ) (head picked bytes : List ℕ)
    → count ≡ fitting 32760 (held_all set ks) → count ≢ 0 → count ≤ length (held_all set ks) → head ≡ head_bytes 4 from ++ to_be_bytes w16 count
    → picked ≡ spelled (take count (held_all set ks)) → bytes ≡ head ++ picked → IsGiven from set ks bytes
given-is from set ks count head picked bytes is some within headed_so spelled_so both =
    let all : List CheckedRecord = held_all set ks in
    let records : List Record = map (λ c. c.rec) (take count all) in
    let same : records ≡ given_of set ks = ap (λ (k : ℕ). map (λ c. c.rec) (take k all)) is in
    let long : length records ≡ count = length-records (take count all) ∙ length-front count all within in
    let text : bytes ≡ datagram_bytes (kinds.Records from records) =
    both ∙ ap (λ x. x ++ picked) (headed_so ∙ ap (λ (k : ℕ). head_bytes 4 from ++ to_be_bytes w16 k) (sym long)) ∙ ap (λ x. (head_bytes 4 from ++ to_be_bytes w16 (length records)) ++ x) (spelled_so ∙ spelled-records (take count all)) ∙ headed from records in
    record {
      some = λ none. some (sym long ∙ ap (λ (xs : List Record). length xs) (same ∙ none));
      spelled = text ∙ ap (λ (xs : List Record). datagram_bytes (kinds.Records from xs)) same;
    }

pub none-is : (set : Held) (ks : List RecordKey) → 0 ≡ fitting 32760 (held_all set ks) → given_of set ks ≡ []
none-is set ks is = ap (λ (k : ℕ). map (λ c. c.rec) (take k (held_all set ks))) (sym is)
