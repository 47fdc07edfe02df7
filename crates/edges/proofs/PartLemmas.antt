-- What a search for a line feed says of the bytes in front of it, what a buffer lost, and how a line grows by its parts.
use Rattle.std.proofs.Common.{◌≡◌, ℕ, ◌+◌, ◌<◌, ◌≤◌, ◌==◌, Bool, true, false, not, if◌then◌else◌, List, [], ◌∷◌, ◌++◌, length, take, drop, get_or, eqb, Option, None, Some, refl, sym, ap, subst, ◌∙◌, arith, length-take, length-append, append_assoc}
use Rattle.std.proofs.lemmas.Bool.{false_from_ne_true, not_from_false, eqb-true}
use Rattle.std.proofs.lemmas.List.{take_more, take-take, get_or-take, take-append-drop}
use Rattle.std.proofs.lemmas.List.Folds.{list_all-append}
use Rattle.std.proofs.lemmas.List.Sums.{list_all-from_AllPass}
use Rattle.std.proofs.lemmas.Grind.{get_or_default_zero}
use Rattle.std.specs.Io.KnownBytes.{Consumes, prepend_known}
use Rattle.std.specs.Io.Buffered.{reader_buffer, reader_capacity, reader_inner, reader_remaining}
use Rattle.std.specs.declared.io.buffered.BufReader.{BufReader}
use Rattle.std.proofs.KnownBytes.{Consumes-trans}
use Rattle.memchr.specs.Find.{Nowhere, NoneBefore, Passes, is_byte}
use Rattle.text_trace.specs.Lines.{has_no_feed, seen_bytes, IsFed}
use Rattle.text_trace.proofs.LongLemmas.{ended-fed}
use Rattle.edges.specs.declared.line_part.Part.{Part}
use Rattle.edges.specs.declared.line_part.Part.TheVariants as part
use Rattle.edges.specs.Parts.{Gained, IsPart, PassesAs}

-- bytes in front of the first place where a feed stands have none
clear-front : (hay : List ℕ) (n : ℕ) → n ≤ length hay → Nowhere (Passes (is_byte 10) hay) 0 n → has_no_feed (take n hay) ≡ true
clear-front hay n within none = list_all-from_AllPass (λ b. not (b == 10)) (take n hay) (λ k d l.
    let below : k < n = omega (arith, l, length-take n hay) in
    let here : get_or (take n hay) k d ≡ get_or hay k 0 = get_or-take n hay k d below ∙ get_or_default_zero hay k d (omega arith) in
    let other : eqb (get_or hay k 0) 10 ≡ false = false_from_ne_true _ (none k (omega arith) below) in
    ap (λ b. not (eqb b 10)) here ∙ not_from_false _ other)

-- where a feed was found within the first m bytes
pub fed-part : (bytes : List ℕ) (m p : ℕ) → m ≤ seen_bytes → NoneBefore (Passes (is_byte 10) (take m bytes)) 0 (length (take m bytes)) p → Passes (is_byte 10) (take m bytes) p → IsFed (take (p + 1) bytes)
fed-part bytes m p most before feed =
    let hay = take m bytes in
    let within : p < length hay = before.high in
    let short : p < m = omega (arith, within, length-take m bytes) in
    record {
      front = take p hay;
      clear = clear-front hay p (omega arith) before.before;
      ended = sym (take-take (p + 1) m bytes (omega arith)) ∙ take_more hay p 0 within ∙ ap (λ b. take p hay ++ b ∷ []) (eqb-true (get_or hay p 0) 10 feed);
      short = omega (arith, length-take p hay);
    }

-- where none was found
pub clear-part : (bytes : List ℕ) (m : ℕ) → Nowhere (Passes (is_byte 10) (take m bytes)) 0 (length (take m bytes)) → has_no_feed (take (length (take m bytes)) bytes) ≡ true
clear-part bytes m none =
    let hay = take m bytes in
    let n = length hay in
    let same : take n hay ≡ take n bytes = take-take n m bytes (omega (arith, length-take m bytes)) in
    subst (λ (l : List ℕ). has_no_feed l ≡ true) same (clear-front hay n (omega arith) none)

-- what a buffer lost in front was taken from what is left
pub buffer-front : {T A : Type 0} (remaining : T → Option (List ℕ)) (r s : BufReader T A) (n : ℕ) → reader_buffer s ≡ drop n (reader_buffer r) → reader_inner s ≡ reader_inner r → reader_capacity s ≡ reader_capacity r → Consumes (reader_remaining remaining r) (reader_remaining remaining s) (take n (reader_buffer r))
buffer-front {T} {A} remaining r s n buffer inner capacity =
    let bytes = reader_buffer r in
    let known = remaining (reader_inner r) in
    let left : reader_remaining remaining s ≡ (if reader_capacity r == 0 then None else prepend_known (drop n bytes) known) =
    ap (λ (k : ℕ). if k == 0 then None else prepend_known (reader_buffer s) (remaining (reader_inner s))) capacity
    ∙ ap (λ (b : List ℕ). if reader_capacity r == 0 then None else prepend_known b (remaining (reader_inner s))) buffer
    ∙ ap (λ (i : T). if reader_capacity r == 0 then None else prepend_known (drop n bytes) (remaining i)) inner in
    subst (λ (o : Option (List ℕ)). Consumes (reader_remaining remaining r) o (take n bytes)) (sym left) (at (reader_capacity r == 0) known)
  where
    at : (b : Bool) (known : Option (List ℕ)) → Consumes (if b then None else prepend_known (reader_buffer r) known) (if b then None else prepend_known (drop n (reader_buffer r)) known) (take n (reader_buffer r))
    at true known = tt
    at false None = tt
    at false (Some xs) = ap (λ (l : List ℕ). l ++ xs) (sym (take-append-drop n (reader_buffer r))) ∙ append_assoc (take n (reader_buffer r)) (drop n (reader_buffer r)) xs

-- a line that has no feed, and then its last part
pub last-fed : (first before after : Option (List ℕ)) (line longer : List ℕ) → has_no_feed line ≡ true → Consumes first before line → Gained before after line longer part.Last → length longer ≤ seen_bytes → IsFed longer × Consumes first after longer
last-fed first before after line longer clear front g short =
    let fed = g.is in
    let whole : longer ≡ (line ++ fed.front) ++ 10 ∷ [] = g.grown ∙ ap (λ (l : List ℕ). line ++ l) fed.ended ∙ sym (append_assoc line fed.front (10 ∷ [])) in (
      record {
        front = line ++ fed.front;
        clear = list_all-append (λ b. not (b == 10)) line fed.front ∙ rw (clear, fed.clear) refl;
        ended = whole;
        short = omega (arith, short, ap length whole, length-append (line ++ fed.front) (10 ∷ []));
      },
      subst (Consumes first after) (sym g.grown) (Consumes-trans first before after line g.bytes front g.read),
    )

-- a part of a line was passed over
pub passes-as : (p : Part) (bytes : List ℕ) (before after : Option (List ℕ)) → IsPart p bytes → Consumes before after bytes → PassesAs p before after
passes-as part.Last bytes before after fed took = record { bytes = bytes; front = took; ended = ended-fed bytes fed }
passes-as part.Front bytes before after clear took = record { bytes = bytes; front = took; clear = clear }
