-- The rules of single words, both ways.
use Rattle.std.proofs.Common.{◌≡◌, ℕ, ◌≤◌, ◌<◌, ◌^◌, Bool, true, false, cond, List, [], ◌∷◌, length, Option, Some, None, Result, Ok, Err, inl, inr, refl, ap, subst, ◌∙◌, arith, leb-true, le-leb, lit<}
use Rattle.std.specs.Prelude.{codes, decimal, nat_le, ◌&&◌}
use Rattle.std.specs.Str.{bytes_eq}
use Rattle.std.proofs.lemmas.Bool.{and_parts, false_from_ne_true, false≢true}
use Rattle.std.proofs.lemmas.Slice.Eq.{bytes_eq-Decides}
use Rattle.ff_ids.specs.declared.TheConstants.{LAST_MEMBER}
use Rattle.hex.specs.Hex.{IsBytes, encode_lower}
use Rattle.records.specs.declared.keys.KeyFault.{KeyFault}
use Rattle.records.specs.declared.keys.Key.{Key}
use Rattle.records.specs.declared.keys.Key.TheVariants as keys
use Rattle.records.specs.Keys as record_keys
use Rattle.records.specs.Keys.{key_bytes, key_in}
use Rattle.records.proofs.KeyParts.{key-again, key-are, key-length}
use Rattle.journal.specs.Texts.{answer_text, flag_text}
use Rattle.journal.specs.Spelling.{IsKey, IsMonitor}
use Rattle.journal.specs.Words.{bytes_of, is_literal, key_from, key_of, key_or_none, monitor_of, number, number_of, number_within, one_of, some_monitor, token_at}
use Rattle.ff_ids.specs.Texts.{monitor_text}
use Rattle.std.specs.List.{list_all}
use Rattle.std.specs.Char.{is_ascii_digit}
use Rattle.journal.proofs.WordLemmas.{digits_all, number_of-back, number_of-decimal, picked}
use Rattle.journal.proofs.HexWords.{bytes_again, bytes_back}
use Rattle.journal.proofs.Steps.{Exact, either_ok, exact_token, same_word}

same_is : (a : List ℕ) → bytes_eq a a ≡ true
same_is a = (bytes_eq-Decides a a).1 refl

-- ---- numbers

within_ok : (low high : ℕ) (o : Option ℕ) (n : ℕ) → number_within low high o ≡ Some n → (o ≡ Some n) × (low ≤ n) × (n ≤ high)
within_ok low high (Some m) n e =
    let p = picked (nat_le low m && nat_le m high) m n e in
    let q = and_parts _ _ p.0 in
    let bounds : (low ≤ m) × (m ≤ high) = (leb-true _ _ q.0, leb-true _ _ q.1) in
    (ap Some p.1, subst (λ k. low ≤ k) p.1 bounds.0, subst (λ k. k ≤ high) p.1 bounds.1)
within_ok low high None n e = absurd cc

pub number_is : (low high : ℕ) (word : List ℕ) (n : ℕ) → number low high word ≡ Some n → (word ≡ decimal n) × ((low ≤ n) × (n ≤ high))
number_is low high word n e =
    let w = within_ok low high (number_of word) n e in
    ((number_of-back word n w.0).0, (w.1, w.2))

pub number_again : (low high : ℕ) → high < 2 ^ 64 → (n : ℕ) → (low ≤ n) × (n ≤ high) → number low high (decimal n) ≡ Some n
number_again low high fits n good =
    let is = number_of-decimal n (omega (arith, fits, good.1)) in
    let least : nat_le low n ≡ true = le-leb _ _ good.0 in
    let most : nat_le n high ≡ true = le-leb _ _ good.1 in
    ap (number_within low high) is ∙ rw (least, most) refl

pub exact_number : (low high : ℕ) → high < 2 ^ 64 → Exact (token_at (number low high)) (λ n. decimal n ∷ []) (λ n. (low ≤ n) × (n ≤ high))
exact_number low high fits = exact_token (number low high) decimal (λ n. (low ≤ n) × (n ≤ high)) (number_is low high) (number_again low high fits)

-- ---- words

literal_is : (text word : List ℕ) (x : Unit {0}) → is_literal text word ≡ Some x → (word ≡ text) × Unit {0}
literal_is text word x e = (same_word word text (picked (bytes_eq word text) tt x e).0, tt)

literal_again : (text : List ℕ) (x : Unit {0}) → Unit {0} → is_literal text text ≡ Some x
literal_again text x good = rw (same_is text) refl

pub exact_literal : (text : List ℕ) → Exact (token_at (is_literal text)) (λ x. text ∷ []) (λ x. Unit {0})
exact_literal text = exact_token (is_literal text) (λ x. text) (λ x. Unit {0}) (literal_is text) (literal_again text)

-- which of two words it is
pub one_is : (a b word : List ℕ) (x : Bool) → one_of a b word ≡ Some x → word ≡ cond x a b
one_is a b word x e =
    elim (either_ok (bytes_eq word a) true x (cond (bytes_eq word b) (Some false) None) e) [
      | inl p ↦ same_word word a p.0 ∙ ap (λ v. cond v a b) p.1
      | inr others ↦ let q = picked (bytes_eq word b) false x others in same_word word b q.0 ∙ ap (λ v. cond v a b) q.1
    ]

answer_again : (x : Bool) → Unit {0} → one_of (codes "counted") (codes "stray") (answer_text x) ≡ Some x
answer_again true good = refl
answer_again false good = refl

pub exact_answer : Exact (token_at (one_of (codes "counted") (codes "stray"))) (λ x. answer_text x ∷ []) (λ x. Unit {0})
exact_answer = exact_token (one_of (codes "counted") (codes "stray")) answer_text (λ x. Unit {0}) (λ word x e. (one_is (codes "counted") (codes "stray") word x e, tt)) answer_again

flag_again : (x : Bool) → Unit {0} → one_of (codes "1") (codes "0") (flag_text x) ≡ Some x
flag_again true good = refl
flag_again false good = refl

pub exact_flag : Exact (token_at (one_of (codes "1") (codes "0"))) (λ x. flag_text x ∷ []) (λ x. Unit {0})
exact_flag = exact_token (one_of (codes "1") (codes "0")) flag_text (λ x. Unit {0}) (λ word x e. (one_is (codes "1") (codes "0") word x e, tt)) flag_again

-- ---- bytes and keys

pub exact_bytes : Exact (token_at bytes_of) (λ b. encode_lower b ∷ []) (λ b. (0 < length b) × IsBytes b)
exact_bytes = exact_token bytes_of encode_lower (λ b. (0 < length b) × IsBytes b)
    (λ word b e. let p = bytes_back word b e in (p.0, (p.1, p.2))) (λ b good. bytes_again b good.0 good.1)

key_kept : (r : Result Key KeyFault) (key : Key) → key_or_none r ≡ Some key → r ≡ Ok key
key_kept (Ok x) key e = cc
key_kept (Err f) key e = absurd cc

key_found : (o : Option (List ℕ)) (key : Key) → key_from o ≡ Some key → (bytes : List ℕ) × (o ≡ Some bytes) × (key_in bytes ≡ Ok key)
key_found (Some bytes) key e = (bytes, refl, key_kept (key_in bytes) key e)
key_found None key e = absurd cc

key_back : (s : List ℕ) (key : Key) → IsBytes s → key_in s ≡ Ok key → (s ≡ key_bytes key) × IsKey key
key_back s key below e =
    let are = key-are s key below e in
    (are.spelled, record { parts = are.parts; bytes = subst IsBytes are.spelled below })

key_is : (word : List ℕ) (key : Key) → key_of word ≡ Some key → (word ≡ encode_lower (key_bytes key)) × IsKey key
key_is word key e =
    let f = key_found (bytes_of word) key e in
    let b = bytes_back word f.0 f.1 in
    let k = key_back f.0 key b.2 f.2 in
    (b.0 ∙ ap encode_lower k.0, k.1)

some_bytes : (key : Key) → record_keys.IsKey key → 0 < length (key_bytes key)
some_bytes (keys.Lms key) good = omega (arith, key-length (keys.Lms key) good)
some_bytes (keys.Hss key) good = omega (arith, key-length (keys.Hss key) good)

key_again : (key : Key) → IsKey key → key_of (encode_lower (key_bytes key)) ≡ Some key
key_again key good =
    ap key_from (bytes_again (key_bytes key) (some_bytes key good.parts) good.bytes)
    ∙ ap key_or_none (key-again (key_bytes key) key (record { spelled = refl; parts = good.parts }))

pub exact_key : Exact (token_at key_of) (λ k. encode_lower (key_bytes k) ∷ []) IsKey
exact_key = exact_token key_of (λ k. encode_lower (key_bytes k)) IsKey key_is key_again

-- ---- monitors

abbrev there : Option ℕ → Option (Option ℕ)
there x = Some x

some_same : (x y : Option ℕ) → there x ≡ there y → x ≡ y
some_same x y e = cc

numbered : (word : List ℕ) (o m : Option ℕ) → number 0 LAST_MEMBER word ≡ o → some_monitor o ≡ Some m → (word ≡ monitor_text m) × IsMonitor m
numbered word (Some n) m is e =
    let w = number_is 0 LAST_MEMBER word n is in
    let some : Some n ≡ m = some_same (Some n) m e in
    subst (λ (o : Option ℕ). (word ≡ monitor_text o) × IsMonitor o) some (w.0, omega (arith, w.1))
numbered word None m is e = absurd cc

monitor_is : (word : List ℕ) (m : Option ℕ) → monitor_of word ≡ Some m → (word ≡ monitor_text m) × IsMonitor m
monitor_is word m e =
    elim (either_ok (bytes_eq word (codes "none")) None m (some_monitor (number 0 LAST_MEMBER word)) e) [
      | inl p ↦ subst (λ (o : Option ℕ). (word ≡ monitor_text o) × IsMonitor o) p.1 (same_word word (codes "none") p.0, tt)
      | inr others ↦ numbered word (number 0 LAST_MEMBER word) m refl others
    ]

first_apart : (n : ℕ) → n < 2 ^ 64 → bytes_eq (decimal n) (codes "none") ≡ false
first_apart n fits = false_from_ne_true _ (λ e.
    let digits = digits_all n fits in
    let same = same_word (decimal n) (codes "none") e in
    false≢true (subst (λ (w : List ℕ). list_all is_ascii_digit w ≡ true) same digits))

monitor_again : (m : Option ℕ) → IsMonitor m → monitor_of (monitor_text m) ≡ Some m
monitor_again None good = refl
monitor_again (Some n) good = rw (first_apart n (omega (arith, good))) (ap some_monitor (number_again 0 LAST_MEMBER (lit< tt) n (omega arith, omega (arith, good))))

pub exact_monitor : Exact (token_at monitor_of) (λ m. monitor_text m ∷ []) IsMonitor
exact_monitor = exact_token monitor_of monitor_text IsMonitor monitor_is monitor_again
