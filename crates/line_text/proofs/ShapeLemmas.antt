-- The words behind a line word pass the tests of its fields exactly where they spell their values.
use Rattle.std.proofs.Common.{◌≡◌, ℕ, zero, suc, ◌<◌, ◌≤◌, ◌^◌, Bool, true, false, cond, List, [], ◌∷◌, length, map, replicate, Option, Some, None, refl, sym, ap, subst, ◌∙◌, arith}
use Rattle.std.specs.Fmt.{decimal}
use Rattle.std.specs.List.{AllByRecursion}
use Rattle.std.specs.Str.{bytes_eq}
use Rattle.std.proofs.lemmas.Bool.{and_parts}
use Rattle.std.proofs.lemmas.List.{length-map, length-replicate}
use Rattle.std.proofs.lemmas.Slice.Eq.{bytes_eq-Decides}
use Rattle.line_text.specs.declared.bad_word.BadWord.{BadWord}
use Rattle.line_text.specs.Digits.{SpellsBytes}
use Rattle.line_text.specs.Fields.{number, number_in}
use Rattle.line_text.specs.Frame.{behind, first_of, first_word, or_else, word_tests}
use Rattle.line_text.specs.Spellings.{Reads, SpellsAs, SpellsNumber, SpellsOrDash}
use Rattle.line_text.specs.Shapes.{◌and◌, AllInRange, Field, Fields, InRange, Spells, SpellsAll, SpellsEach, Value, Values, maybe, any_name, bytes_as, bytes_from, bytes_of, bytes_up_to, falling, has_one_word, have_one_word, no_more, number_as, number_from, number_where, so_many, test, tests_for, value, values, word_for, word_or, words_for}
use Rattle.line_text.proofs.FieldLemmas.{no_word}
use Rattle.line_text.proofs.FrameLemmas.{or_none}
use Rattle.line_text.proofs.SpellingLemmas.{as-spelled, as-taken, between-spelled, between-taken, fitting-spelled, fitting-taken, hex-spelled, hex-taken, name-spelled, name-taken, number-spelled, number-taken, numbered-spelled, numbered-taken, up_to-spelled, up_to-taken}

abbrev none_bad : Option BadWord
none_bad = None

or_spelled : (text : List ℕ) (f : Field) (word : List ℕ) (b : Bool) → ((w : List ℕ) → test f w ≡ None → Spells f w (value f w)) → bytes_eq word text ≡ b → cond b none_bad (test f word) ≡ None → Spells (word_or text f) word (cond b None (Some (value f word)))
or_spelled text f word true other is good = (bytes_eq-Decides word text).0 is
or_spelled text f word false other is good = (is, other word good)

-- What passes the test of a field is spelled so.
pub spelled : (f : Field) (word : List ℕ) → test f word ≡ None → Spells f word (value f word)
spelled (number_from low high) word good = number-spelled low high word good
spelled (number_where fits) word good = fitting-spelled fits word good
spelled (number_as of any numbers own) word good = numbered-spelled of any numbers own word good
spelled (bytes_of n) word good = hex-spelled n word good
spelled (bytes_from low high) word good = between-spelled low high word good
spelled (bytes_up_to most) word good = up_to-spelled most word good
spelled (bytes_as read any Are are again) word good = as-spelled read any Are are word good
spelled any_name word good = name-spelled word good
spelled (word_or text f) word good = or_spelled text f word (bytes_eq word text) (spelled f) refl good

-- What is spelled so passes the test, and has the value.
pub taken : (f : Field) (word : List ℕ) (v : Value f) → Spells f word v → Reads (test f) (value f) word v
taken (number_from low high) word v h = number-taken low high word v h
taken (number_where fits) word v h = fitting-taken fits word v h
taken (number_as of any numbers own) word v h = numbered-taken of any numbers word v h
taken (bytes_of n) word v h = hex-taken n word v h
taken (bytes_from low high) word v h = between-taken low high word v h
taken (bytes_up_to most) word v h = up_to-taken most word v h
taken (bytes_as read any Are are again) word v h = as-taken read any Are again word v h
taken any_name word v h = name-taken word v h
taken (word_or text f) word None h =
    let is : bytes_eq word text ≡ true = (bytes_eq-Decides word text).1 h in
    record { good = rw is refl; same = rw is refl }
taken (word_or text f) word (Some v) h =
    let r = taken f word v h.1 in
    record { good = rw h.0 r.good; same = rw h.0 (ap Some r.same) }

-- What is spelled so is in range.
pub in_range : (f : Field) (word : List ℕ) (v : Value f) → Spells f word v → InRange f v
in_range (number_from low high) word v h = (h.low, h.high)
in_range (number_where fits) word v h = h.fit
in_range (number_as of any numbers own) word v h = h.is
in_range (bytes_of n) word v h = h.long
in_range (bytes_from low high) word v h = (h.some, h.few)
in_range (bytes_up_to most) word v h = h.few
in_range (bytes_as read any Are are again) word v h = (h.bytes, h.are)
in_range any_name word v h = h.good
in_range (word_or text f) word None h = tt
in_range (word_or text f) word (Some v) h = in_range f word v h.1

-- A value that has one word is spelled by it.
pub one-word : (digits : List ℕ) (f : Field) (word : List ℕ) (v : Value f) → has_one_word f ≡ true → Spells f word v → word ≡ word_for digits f v
one-word digits (number_from low high) word v one h = h.digits
one-word digits (number_where fits) word v one h = h.digits
one-word digits (number_as of any numbers own) word v one h = h.digits
one-word digits (bytes_of n) word v one h = cc
one-word digits (bytes_from low high) word v one h = cc
one-word digits (bytes_up_to most) word v one h = cc
one-word digits (bytes_as read any Are are again) word v one h = cc
one-word digits any_name word v one h = h.same
one-word digits (word_or text f) word None one h = h
one-word digits (word_or text f) word (Some v) one h = one-word digits f word v one h.1

-- ## The fields of a line

each_spelled : (f : Field) (n : ℕ) (words : List (List ℕ)) → length words ≡ n → first_of (word_tests (replicate n (test f)) words) ≡ None → SpellsEach (Spells f) words (map (value f) words)
each_spelled f n [] e good = tt
each_spelled f zero (w ∷ words) e good = absurd (omega arith)
each_spelled f (suc n) (w ∷ words) e good =
    let p = or_none _ _ good in
    (spelled f w p.0, each_spelled f n words (omega arith) p.1)

-- Words that pass the tests spell their values.
pub all-spelled : (fs : Fields) (words : List (List ℕ)) → length words ≡ length (tests_for fs words) → first_of (word_tests (tests_for fs words) words) ≡ None → SpellsAll fs words (values fs words)
all-spelled no_more words e good = no_word words e
all-spelled (f and fs) [] e good = absurd (omega (arith, e))
all-spelled (f and fs) (w ∷ words) e good =
    let p = or_none _ _ good in
    record { word = w; others = words; same = refl; is = spelled f w p.0; rest = all-spelled fs words (omega (arith, e)) p.1 }
all-spelled (so_many n f) words e good =
    let long : length words ≡ n = e ∙ length-replicate n (test f) in
    (long, each_spelled f n words long good)
all-spelled (maybe f) [] e good = refl
all-spelled (maybe f) (w ∷ words) e good =
    record { word = w; others = words; same = refl; is = spelled f w (or_none _ _ good).0; rest = no_word words (omega (arith, e)) }
all-spelled (falling most fs) [] e good = absurd (omega (arith, e))
all-spelled (falling most fs) (w ∷ []) e good = absurd (omega (arith, e))
all-spelled (falling most fs) (w ∷ u ∷ words) e good =
    let p = or_none _ _ good in
    let q = or_none _ _ p.1 in
    record {
      word = w;
      others = u ∷ words;
      same = refl;
      is = number-spelled 0 most w p.0;
      rest = record { word = u; others = words; same = refl; is = number-spelled 0 (number_in w) u q.0; rest = all-spelled fs words (omega (arith, e)) q.1 };
    }

-- The words are as many as the tests, pass them, and have these values.
pub record AllRead (fs : Fields) (words : List (List ℕ)) (vs : Values fs) : Type 0 where
  pub many : length words ≡ length (tests_for fs words)
  pub good : first_of (word_tests (tests_for fs words) words) ≡ None
  pub same : values fs words ≡ vs

record EachRead (f : Field) (n : ℕ) (words : List (List ℕ)) (vs : List (Value f)) : Type 0 where
  good : first_of (word_tests (replicate n (test f)) words) ≡ None
  same : map (value f) words ≡ vs

each_taken : (f : Field) (n : ℕ) (words : List (List ℕ)) (vs : List (Value f)) → length words ≡ n → SpellsEach (Spells f) words vs → EachRead f n words vs
each_taken f zero [] [] e h = record { good = refl; same = refl }
each_taken f (suc n) [] [] e h = absurd (omega arith)
each_taken f n [] (v ∷ vs) e h = absurd h
each_taken f n (w ∷ words) [] e h = absurd h
each_taken f zero (w ∷ words) (v ∷ vs) e h = absurd (omega arith)
each_taken f (suc n) (w ∷ words) (v ∷ vs) e h =
    let first = taken f w v h.0 in
    let others = each_taken f n words vs (omega arith) h.1 in
    record { good = rw first.good others.good; same = cc (first.same, others.same) }

abbrev both : {A B : Type 0} → A → B → A × B
both a b = (a, b)

pair_is : {A B : Type 0} (a b : A) (c d : B) → a ≡ b → c ≡ d → both a c ≡ both b d
pair_is a b c d e f = cc

two_good : (a b others : Option BadWord) → a ≡ None → b ≡ None → others ≡ None → or_else a (or_else b others) ≡ None
two_good a b others first second rest = rw first (rw second rest)

falling_taken : (most : ℕ) (fs : Fields) (w u : List ℕ) (words : List (List ℕ)) (n m : ℕ) (vs : Values fs) → SpellsNumber 0 most w n → SpellsNumber 0 n u m → AllRead fs words vs → AllRead (falling most fs) (w ∷ u ∷ words) (n, (m, vs))
falling_taken most fs w u words n m vs one two read =
    let first = number-taken 0 most w n one in
    let second = number-taken 0 n u m two in
    let below = subst (λ (k : ℕ). number 0 k u ≡ none_bad) (sym first.same) second.good in
    record {
      many = ap (λ (k : ℕ). suc (suc k)) read.many;
      good = two_good (number 0 most w) (number 0 (number_in w) u) (first_of (word_tests (tests_for fs words) words)) first.good below read.good;
      same = pair_is (number_in w) n (both (number_in u) (values fs words)) (both m vs) first.same (pair_is (number_in u) m (values fs words) vs second.same read.same);
    }

-- Words that spell values pass the tests, and have these values.
pub all-taken : (fs : Fields) (words : List (List ℕ)) (vs : Values fs) → SpellsAll fs words vs → AllRead fs words vs
all-taken no_more words vs h = record { many = rw h refl; good = refl; same = refl }
all-taken (f and fs) words vs h =
    let first = taken f h.word vs.0 h.is in
    let others = all-taken fs h.others vs.1 h.rest in
    record {
      many = rw h.same (ap suc others.many);
      good = rw h.same (rw first.good others.good);
      same = rw h.same (pair_is (value f h.word) vs.0 (values fs h.others) vs.1 first.same others.same);
    }
all-taken (so_many n f) words vs h =
    let each = each_taken f n words vs h.0 h.1 in
    record { many = h.0 ∙ sym (length-replicate n (test f)); good = each.good; same = each.same }
all-taken (maybe f) words None h = record { many = rw h refl; good = rw h refl; same = rw h refl }
all-taken (maybe f) words (Some v) h =
    let read = taken f h.word v h.is in
    record {
      many = rw h.same (ap (λ (others : List (List ℕ)). suc (length others)) h.rest);
      good = rw h.same (rw read.good refl);
      same = rw h.same (ap Some read.same);
    }
all-taken (falling most fs) words vs h =
    let are : words ≡ h.word ∷ h.rest.word ∷ h.rest.others = h.same ∙ ap (λ (others : List (List ℕ)). h.word ∷ others) h.rest.same in
    let read = all-taken fs h.rest.others vs.1.1 h.rest.rest in
    subst (λ (ws : List (List ℕ)). AllRead (falling most fs) ws vs) (sym are) (falling_taken most fs h.word h.rest.word h.rest.others vs.0 vs.1.0 vs.1.1 h.is h.rest.is read)

each_in_range : (f : Field) (words : List (List ℕ)) (vs : List (Value f)) → SpellsEach (Spells f) words vs → AllByRecursion (InRange f) vs
each_in_range f [] [] h = tt
each_in_range f [] (v ∷ vs) h = absurd h
each_in_range f (w ∷ words) [] h = absurd h
each_in_range f (w ∷ words) (v ∷ vs) h = (in_range f w v h.0, each_in_range f words vs h.1)

each_long : (f : Field) (words : List (List ℕ)) (vs : List (Value f)) → SpellsEach (Spells f) words vs → length vs ≡ length words
each_long f [] [] h = refl
each_long f [] (v ∷ vs) h = absurd h
each_long f (w ∷ words) [] h = absurd h
each_long f (w ∷ words) (v ∷ vs) h = ap suc (each_long f words vs h.1)

-- What words spell is in range.
pub all-in_range : (fs : Fields) (words : List (List ℕ)) (vs : Values fs) → SpellsAll fs words vs → AllInRange fs vs
all-in_range no_more words vs h = tt
all-in_range (f and fs) words vs h = (in_range f h.word vs.0 h.is, all-in_range fs h.others vs.1 h.rest)
all-in_range (so_many n f) words vs h = (each_long f words vs h.1 ∙ h.0, each_in_range f words vs h.1)
all-in_range (maybe f) words None h = tt
all-in_range (maybe f) words (Some v) h = in_range f h.word v h.is
all-in_range (falling most fs) words vs h = (h.is.high, (h.rest.is.high, all-in_range fs h.rest.others vs.1.1 h.rest.rest))

onto : (a b : List ℕ) (more rest : List (List ℕ)) → a ≡ b → more ≡ rest → a ∷ more ≡ b ∷ rest
onto a b more rest e f = cc

each_words : (digits : List ℕ) (f : Field) (words : List (List ℕ)) (vs : List (Value f)) → has_one_word f ≡ true → SpellsEach (Spells f) words vs → words ≡ map (word_for digits f) vs
each_words digits f [] [] one h = refl
each_words digits f [] (v ∷ vs) one h = absurd h
each_words digits f (w ∷ words) [] one h = absurd h
each_words digits f (w ∷ words) (v ∷ vs) one h = onto w (word_for digits f v) words (map (word_for digits f) vs) (one-word digits f w v one h.0) (each_words digits f words vs one h.1)

-- Values that have one word are spelled by it.
pub all-words : (digits : List ℕ) (fs : Fields) (words : List (List ℕ)) (vs : Values fs) → have_one_word fs ≡ true → SpellsAll fs words vs → words ≡ words_for digits fs vs
all-words digits no_more words vs one h = h
all-words digits (f and fs) words vs one h =
    let p = and_parts (has_one_word f) (have_one_word fs) one in
    h.same ∙ onto h.word (word_for digits f vs.0) h.others (words_for digits fs vs.1) (one-word digits f h.word vs.0 p.0 h.is) (all-words digits fs h.others vs.1 p.1 h.rest)
all-words digits (so_many n f) words vs one h = each_words digits f words vs one h.1
all-words digits (maybe f) words None one h = h
all-words digits (maybe f) words (Some v) one h =
    h.same ∙ onto h.word (word_for digits f v) h.others [] (one-word digits f h.word v one h.is) h.rest
all-words digits (falling most fs) words vs one h =
    let more = words_for digits fs vs.1.1 in
    let second = h.rest.same ∙ onto h.rest.word (decimal vs.1.0) h.rest.others more h.rest.is.digits (all-words digits fs h.rest.others vs.1.1 one h.rest.rest) in
    h.same ∙ onto h.word (decimal vs.0) h.others (decimal vs.1.0 ∷ more) h.is.digits second

-- ## The word of bytes

-- A value is spelled by its word, where what was read spells its bytes.
own-word : (f : Field) (word : List ℕ) (v : Value f) → Spells f word v → word ≡ word_for word f v
own-word (number_from low high) word v h = h.digits
own-word (number_where fits) word v h = h.digits
own-word (number_as of any numbers own) word v h = h.digits
own-word (bytes_of n) word v h = refl
own-word (bytes_from low high) word v h = refl
own-word (bytes_up_to most) word v h = refl
own-word (bytes_as read any Are are again) word v h = refl
own-word any_name word v h = h.same
own-word (word_or text f) word None h = h
own-word (word_or text f) word (Some v) h = own-word f word v h.1

-- whether at most one of the words spells bytes
abbrev pub has_one_digits : Fields → Bool
has_one_digits no_more = true
has_one_digits (f and fs) = cond (has_one_word f) (has_one_digits fs) (have_one_word fs)
has_one_digits (so_many n f) = has_one_word f
has_one_digits (maybe f) = true
has_one_digits (falling most fs) = has_one_digits fs

-- the word that does
abbrev pub digits_among : Fields → List (List ℕ) → List ℕ
digits_among no_more words = []
digits_among (f and fs) words = cond (has_one_word f) (digits_among fs (behind words)) (first_word words)
digits_among (so_many n f) words = []
digits_among (maybe f) words = first_word words
digits_among (falling most fs) words = digits_among fs (behind (behind words))

own_among : (f : Field) (fs : Fields) (word : List ℕ) (words : List (List ℕ)) (v : Value f) (vs : Values fs) (b : Bool) → has_one_word f ≡ b → cond b (has_one_digits fs) (have_one_word fs) ≡ true → Spells f word v → SpellsAll fs words vs
    → (has_one_digits fs ≡ true → words ≡ words_for (digits_among fs words) fs vs) → word ∷ words ≡ words_for (cond b (digits_among fs words) word) (f and fs) (v, vs)
own_among f fs word words v vs true is one h hs others =
    onto word (word_for (digits_among fs words) f v) words (words_for (digits_among fs words) fs vs) (one-word (digits_among fs words) f word v is h) (others one)
own_among f fs word words v vs false is one h hs others =
    onto word (word_for word f v) words (words_for word fs vs) (own-word f word v h) (all-words word fs words vs one hs)

-- Values are spelled by their words, where one word spells bytes.
pub all-own : (fs : Fields) (words : List (List ℕ)) (vs : Values fs) → has_one_digits fs ≡ true → SpellsAll fs words vs → words ≡ words_for (digits_among fs words) fs vs
all-own no_more words vs one h = h
all-own (f and fs) words vs one h =
    let own = own_among f fs h.word h.others vs.0 vs.1 (has_one_word f) refl one h.is h.rest (λ e. all-own fs h.others vs.1 e h.rest) in
    subst (λ (ws : List (List ℕ)). ws ≡ words_for (digits_among (f and fs) ws) (f and fs) vs) (sym h.same) own
all-own (so_many n f) words vs one h = each_words [] f words vs one h.1
all-own (maybe f) words None one h = h
all-own (maybe f) words (Some v) one h =
    let own = onto h.word (word_for h.word f v) h.others [] (own-word f h.word v h.is) h.rest in
    subst (λ (ws : List (List ℕ)). ws ≡ words_for (digits_among (maybe f) ws) (maybe f) (Some v)) (sym h.same) own
all-own (falling most fs) words vs one h =
    let more = words_for (digits_among fs h.rest.others) fs vs.1.1 in
    let second = onto h.rest.word (decimal vs.1.0) h.rest.others more h.rest.is.digits (all-own fs h.rest.others vs.1.1 one h.rest.rest) in
    let own = onto h.word (decimal vs.0) (h.rest.word ∷ h.rest.others) (decimal vs.1.0 ∷ more) h.is.digits second in
    let are : words ≡ h.word ∷ h.rest.word ∷ h.rest.others = h.same ∙ ap (λ (others : List (List ℕ)). h.word ∷ others) h.rest.same in
    subst (λ (ws : List (List ℕ)). ws ≡ words_for (digits_among (falling most fs) ws) (falling most fs) vs) (sym are) own

-- ## Words that are made of values

-- 64 bits hold the number, or the digits spell the bytes.
abbrev pub HasWord : List ℕ → (f : Field) → Value f → Type 0
HasWord digits (number_from low high) n = n < 2 ^ 64
HasWord digits (number_where fits) n = n < 2 ^ 64
HasWord digits (number_as of any numbers own) v = numbers v < 2 ^ 64
HasWord digits (bytes_of n) b = SpellsBytes digits b
HasWord digits (bytes_from low high) b = SpellsBytes digits b
HasWord digits (bytes_up_to most) b = SpellsOrDash digits b
HasWord digits (bytes_as read any Are are again) v = SpellsAs Are digits v
HasWord digits any_name called = Unit {0}
HasWord digits (word_or text f) None = Unit {0}
HasWord digits (word_or text f) (Some v) = (bytes_eq (word_for digits f v) text ≡ false) × HasWord digits f v

abbrev pub AllHaveWords : List ℕ → (fs : Fields) → Values fs → Type 0
AllHaveWords digits no_more vs = Unit {0}
AllHaveWords digits (f and fs) vs = HasWord digits f vs.0 × AllHaveWords digits fs vs.1
AllHaveWords digits (so_many n f) vs = AllByRecursion (HasWord digits f) vs
AllHaveWords digits (maybe f) None = Unit {0}
AllHaveWords digits (maybe f) (Some v) = HasWord digits f v
AllHaveWords digits (falling most fs) vs = (vs.0 < 2 ^ 64) × ((vs.1.0 < 2 ^ 64) × AllHaveWords digits fs vs.1.1)

made : (digits : List ℕ) (f : Field) (v : Value f) → InRange f v → HasWord digits f v → Spells f (word_for digits f v) v
made digits (number_from low high) v range has = record { digits = refl; low = range.0; high = range.1; held = has }
made digits (number_where fits) v range has = record { digits = refl; fit = range; held = has }
made digits (number_as of any numbers own) v range has = record { digits = refl; is = range; held = has }
made digits (bytes_of n) v range has = record { digits = has; long = range }
made digits (bytes_from low high) v range has = record { digits = has; some = range.0; few = range.1 }
made digits (bytes_up_to most) v range has = record { digits = has; few = range }
made digits (bytes_as read any Are are again) v range has = has
made digits any_name v range has = record { same = refl; good = range }
made digits (word_or text f) None range has = refl
made digits (word_or text f) (Some v) range has = (has.0, made digits f v range has.1)

each_made : (digits : List ℕ) (f : Field) (vs : List (Value f)) → AllByRecursion (InRange f) vs → AllByRecursion (HasWord digits f) vs → SpellsEach (Spells f) (map (word_for digits f) vs) vs
each_made digits f [] range has = tt
each_made digits f (v ∷ vs) range has = (made digits f v range.0 has.0, each_made digits f vs range.1 has.1)

-- The words of values in range spell them.
pub all-made : (digits : List ℕ) (fs : Fields) (vs : Values fs) → AllInRange fs vs → AllHaveWords digits fs vs → SpellsAll fs (words_for digits fs vs) vs
all-made digits no_more vs range has = refl
all-made digits (f and fs) vs range has =
    record { word = word_for digits f vs.0; others = words_for digits fs vs.1; same = refl; is = made digits f vs.0 range.0 has.0; rest = all-made digits fs vs.1 range.1 has.1 }
all-made digits (so_many n f) vs range has = (length-map vs (word_for digits f) ∙ range.0, each_made digits f vs range.1 has)
all-made digits (maybe f) None range has = refl
all-made digits (maybe f) (Some v) range has = record { word = word_for digits f v; others = []; same = refl; is = made digits f v range has; rest = refl }
all-made digits (falling most fs) vs range has =
    record {
      word = decimal vs.0;
      others = decimal vs.1.0 ∷ words_for digits fs vs.1.1;
      same = refl;
      is = record { digits = refl; low = omega arith; high = range.0; held = has.0 };
      rest = record {
        word = decimal vs.1.0;
        others = words_for digits fs vs.1.1;
        same = refl;
        is = record { digits = refl; low = omega arith; high = range.1.0; held = has.1.0 };
        rest = all-made digits fs vs.1.1 range.1.1 has.1.1;
      };
    }
