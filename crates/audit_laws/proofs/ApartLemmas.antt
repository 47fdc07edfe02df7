-- Which lines are apart by their texts.
use Rattle.std.proofs.Common.{◌≡◌, ◌≢◌, ℕ, zero, suc, ◌+◌, ◌/◌, ◌%◌, ◌^◌, ◌<◌, Bool, true, false, cond, List, [], ◌∷◌, ◌++◌, Some, None, get_or, refl, sym, ap, ◌∙◌, append_assoc, arith, lt-ltb}
use Rattle.std.specs.Prelude.{codes, decimal, ◌==◌}
use Rattle.std.specs.Char.{is_ascii_digit}
use Rattle.std.specs.Fmt.{digit_glyph, digits, digits_onto}
use Rattle.std.specs.List.{list_all}
use Rattle.std.proofs.lemmas.Bool.{and_parts}
use Rattle.std.proofs.lemmas.Bool.Decides.{nat_tests}
use Rattle.std.proofs.lemmas.Fmt.{decimal_injective}
use Rattle.std.specs.Prelude.{Result, Ok}
use Rattle.hex.specs.Hex.{IsBytes, decode_of, encode_lower}
use Rattle.hex.proofs.HexLemmas.{decode_of-encode_lower}
use Rattle.journal.proofs.WordLemmas.{digits_all}
use Rattle.journal.specs.declared.event.Event as journal
use Rattle.journal.specs.declared.event.What as whats
use Rattle.journal.specs.declared.event.What.TheVariants as told
use Rattle.journal.specs.Texts.{event_text, what_text}
use Rattle.node_rules.specs.Told.{is_of_call}
use Rattle.turn_rules.specs.Courses.{datagram_in}
use Rattle.audit_laws.specs.Apart.{EndsAreApart, LossesAreApart, Sending, SendingsAreApart, TextsTellSendings, TurnsAreApart, TurnsAreNoEnds, sending_event}

-- ---- by a byte

apart-at : (i : ℕ) (one other : List ℕ) → get_or one i 0 ≢ get_or other i 0 → one ≡ other → ⊥
apart-at i one other differ same = differ (ap (λ (xs : List ℕ). get_or xs i 0) same)

pub turns-apart : TurnsAreApart
turns-apart e turn same = apart-at 0 _ (event_text e) (λ is. omega (arith, is)) same

pub ends-apart : EndsAreApart
ends-apart e same = apart-at 0 _ (event_text e) (λ is. omega (arith, is)) same

pub turns-no_ends : TurnsAreNoEnds
turns-no_ends turn same = apart-at 0 _ (codes "end") (λ is. omega (arith, is)) same

no-datagram : {A : Type 0} (d : ℕ × List ℕ) → Some d ≡ None → A
no-datagram d e = cc

-- what isn't a datagram's is spelled otherwise
what-apart : (what : whats.What) (number to : ℕ) (bytes : List ℕ) → datagram_in what ≡ None → what_text what ≡ what_text (told.Sent number to bytes) → ⊥
what-apart (told.Entered m) number to bytes none same = apart-at 0 _ (what_text (told.Sent number to bytes)) (λ is. omega (arith, is)) same
what-apart (told.Expired a) number to bytes none same = apart-at 0 _ (what_text (told.Sent number to bytes)) (λ is. omega (arith, is)) same
what-apart (told.Removed m) number to bytes none same = apart-at 0 _ (what_text (told.Sent number to bytes)) (λ is. omega (arith, is)) same
what-apart (told.Fell a) number to bytes none same = apart-at 0 _ (what_text (told.Sent number to bytes)) (λ is. omega (arith, is)) same
what-apart (told.Spent index body) number to bytes none same = apart-at 1 _ (what_text (told.Sent number to bytes)) (λ is. omega (arith, is)) same
what-apart (told.Took body fault) number to bytes none same = apart-at 0 _ (what_text (told.Sent number to bytes)) (λ is. omega (arith, is)) same
what-apart (told.BadForm place) number to bytes none same = apart-at 0 _ (what_text (told.Sent number to bytes)) (λ is. omega (arith, is)) same
what-apart (told.Ping from_ nonce) number to bytes none same = apart-at 0 _ (what_text (told.Sent number to bytes)) (λ is. omega (arith, is)) same
what-apart (told.Pong from_ nonce counted) number to bytes none same = apart-at 0 _ (what_text (told.Sent number to bytes)) (λ is. omega (arith, is)) same
what-apart (told.Summary from_ page flag) number to bytes none same = apart-at 1 _ (what_text (told.Sent number to bytes)) (λ is. omega (arith, is)) same
what-apart (told.Silent m) number to bytes none same = apart-at 1 _ (what_text (told.Sent number to bytes)) (λ is. omega (arith, is)) same
what-apart (told.Exhausted next) number to bytes none same = apart-at 0 _ (what_text (told.Sent number to bytes)) (λ is. omega (arith, is)) same
what-apart (told.Sent n t b) number to bytes none same = no-datagram (t, b) none
what-apart (told.Lost n) number to bytes none same = apart-at 0 _ (what_text (told.Sent number to bytes)) (λ is. omega (arith, is)) same
what-apart (told.Got n) number to bytes none same = apart-at 0 _ (what_text (told.Sent number to bytes)) (λ is. omega (arith, is)) same
what-apart told.Stopped number to bytes none same = apart-at 1 _ (what_text (told.Sent number to bytes)) (λ is. omega (arith, is)) same

not-so : {A : Type 0} → false ≡ true → A
not-so e = cc

-- what a call tells is spelled otherwise than a loss
lost-apart : (what : whats.What) (number : ℕ) → is_of_call what ≡ true → what_text what ≡ what_text (told.Lost number) → ⊥
lost-apart (told.Lost n) number of same = not-so of
lost-apart (told.Got n) number of same = not-so of
lost-apart told.Stopped number of same = not-so of
lost-apart what number of same = apart-at 0 (what_text what) (what_text (told.Lost number)) (λ is. omega (arith, is)) same

-- ---- digits

abbrev AreDigits : List ℕ → Type 0
AreDigits xs = list_all is_ascii_digit xs ≡ true

glyph-is : (d : ℕ) → d < 10 → digit_glyph false d ≡ 48 + d
glyph-is d small = ap (λ (b : Bool). cond b (48 + d) (87 + d)) (lt-ltb d 10 small)

glyph-digit : (d : ℕ) → d < 10 → is_ascii_digit (48 + d) ≡ true
glyph-digit d small = grind (arith, nat_tests)

either-way : (P : List ℕ → Type 0) (b : Bool) (xs ys : List ℕ) → P xs → P ys → P (cond b xs ys)
either-way P true xs ys p q = p
either-way P false xs ys p q = q

digit-more : (d : ℕ) (xs : List ℕ) → is_ascii_digit d ≡ true → AreDigits xs → AreDigits (d ∷ xs)
digit-more d xs one all = rw one all

onto-digits : (k n : ℕ) (xs : List ℕ) → AreDigits xs → AreDigits (digits_onto k 10 false n xs)
onto-digits zero n xs all = all
onto-digits (suc k) n xs all =
    let small : n % 10 < 10 = omega arith in
    let d : ℕ = digit_glyph false (n % 10) in
    let more : AreDigits (d ∷ xs) = digit-more d xs (ap is_ascii_digit (glyph-is (n % 10) small) ∙ glyph-digit (n % 10) small) all in
    either-way AreDigits (n / 10 == 0) (d ∷ xs) (digits_onto k 10 false (n / 10) (d ∷ xs)) more (onto-digits k (n / 10) (d ∷ xs) more)

-- The decimal digits of any number are digits.
digits-any : (n : ℕ) → AreDigits (decimal n)
unfolding digits
digits-any n = onto-digits 64 n [] refl

-- ---- behind the moment

first-same : (x y : ℕ) (xs ys : List ℕ) → x ∷ xs ≡ y ∷ ys → x ≡ y
first-same x y xs ys e = cc

rest-same : (x y : ℕ) (xs ys : List ℕ) → x ∷ xs ≡ y ∷ ys → xs ≡ ys
rest-same x y xs ys e = cc

no-digit : {A : Type 0} (x : ℕ) → x ≡ 32 → is_ascii_digit x ≡ true → A
no-digit x is digit = grind (arith)

-- two texts that begin with digits and a space are the same behind it
behind-space : (a b x y : List ℕ) → list_all is_ascii_digit a ≡ true → list_all is_ascii_digit b ≡ true → a ++ 32 ∷ x ≡ b ++ 32 ∷ y → x ≡ y
behind-space [] [] x y da db same = rest-same 32 32 x y same
behind-space [] (d ∷ b) x y da db same = no-digit d (sym (first-same 32 d x (b ++ 32 ∷ y) same)) (and_parts _ _ db).0
behind-space (d ∷ a) [] x y da db same = no-digit d (first-same d 32 (a ++ 32 ∷ x) y same) (and_parts _ _ da).0
behind-space (c ∷ a) (d ∷ b) x y da db same = behind-space a b x y (and_parts _ _ da).1 (and_parts _ _ db).1 (rest-same c d (a ++ 32 ∷ x) (b ++ 32 ∷ y) same)

behind-at : (xs ys : List ℕ) → 97 ∷ 116 ∷ 32 ∷ xs ≡ 97 ∷ 116 ∷ 32 ∷ ys → xs ≡ ys
behind-at xs ys e = cc

text-is : (e : journal.Event) → event_text e ≡ 97 ∷ 116 ∷ 32 ∷ decimal e.moment ++ 32 ∷ what_text e.what
text-is e = ap (λ (xs : List ℕ). 97 ∷ 116 ∷ 32 ∷ xs) (append_assoc (decimal e.moment) (32 ∷ []) (what_text e.what))

whats-same : (e f : journal.Event) → event_text e ≡ event_text f → what_text e.what ≡ what_text f.what
whats-same e f same =
    behind-space (decimal e.moment) (decimal f.moment) (what_text e.what) (what_text f.what) (digits-any e.moment) (digits-any f.moment)
    (behind-at (decimal e.moment ++ 32 ∷ what_text e.what) (decimal f.moment ++ 32 ∷ what_text f.what) (sym (text-is e) ∙ same ∙ text-is f))

pub sendings-apart : SendingsAreApart
sendings-apart e moment number to bytes first second none same =
    what-apart e.what number to bytes none (whats-same e (record { moment = moment; what = told.Sent number to bytes }) same)

pub losses-apart : LossesAreApart
losses-apart e moment number of same = lost-apart e.what number of (whats-same e (record { moment = moment; what = told.Lost number }) same)

-- ---- datagrams

-- two texts that begin with digits and a space begin with the same digits
before-space : (a b x y : List ℕ) → list_all is_ascii_digit a ≡ true → list_all is_ascii_digit b ≡ true → a ++ 32 ∷ x ≡ b ++ 32 ∷ y → a ≡ b
before-space [] [] x y da db same = refl
before-space [] (d ∷ b) x y da db same = no-digit d (sym (first-same 32 d x (b ++ 32 ∷ y) same)) (and_parts _ _ db).0
before-space (d ∷ a) [] x y da db same = no-digit d (first-same d 32 (a ++ 32 ∷ x) y same) (and_parts _ _ da).0
before-space (c ∷ a) (d ∷ b) x y da db same =
    let one : c ≡ d = first-same c d (a ++ 32 ∷ x) (b ++ 32 ∷ y) same in
    let others : a ≡ b = before-space a b x y (and_parts _ _ da).1 (and_parts _ _ db).1 (rest-same c d (a ++ 32 ∷ x) (b ++ 32 ∷ y) same) in
    ap (λ (z : ℕ). z ∷ a) one ∙ ap (λ (zs : List ℕ). d ∷ zs) others

sent-is : (number to : ℕ) (bytes : List ℕ) → what_text (told.Sent number to bytes) ≡ 115 ∷ 101 ∷ 110 ∷ 116 ∷ 32 ∷ (decimal number ++ 32 ∷ (decimal to ++ 32 ∷ encode_lower bytes))
sent-is number to bytes =
    ap (λ (xs : List ℕ). 115 ∷ 101 ∷ 110 ∷ 116 ∷ 32 ∷ xs)
    (append_assoc (decimal number ++ 32 ∷ [] ++ decimal to) (32 ∷ []) (encode_lower bytes)
    ∙ append_assoc (decimal number ++ 32 ∷ []) (decimal to) (32 ∷ encode_lower bytes)
    ∙ append_assoc (decimal number) (32 ∷ []) (decimal to ++ 32 ∷ encode_lower bytes))

behind-word : (xs ys : List ℕ) → 115 ∷ 101 ∷ 110 ∷ 116 ∷ 32 ∷ xs ≡ 115 ∷ 101 ∷ 110 ∷ 116 ∷ 32 ∷ ys → xs ≡ ys
behind-word xs ys e = cc

read-same : {E : Type 0} (r : Result (List ℕ) E) (xs ys : List ℕ) → r ≡ Ok xs → r ≡ Ok ys → xs ≡ ys
read-same r xs ys a b = cc

bytes-told : (xs ys : List ℕ) → IsBytes xs → IsBytes ys → encode_lower xs ≡ encode_lower ys → xs ≡ ys
bytes-told xs ys of other same =
    read-same (decode_of (encode_lower xs)) xs ys (decode_of-encode_lower xs of) (ap (λ (t : List ℕ). decode_of t) same ∙ decode_of-encode_lower ys other)

moments-same : (e f : journal.Event) → e.moment < 2 ^ 64 → f.moment < 2 ^ 64 → event_text e ≡ event_text f → e.moment ≡ f.moment
moments-same e f first second same =
    decimal_injective e.moment f.moment first second
    (before-space (decimal e.moment) (decimal f.moment) (what_text e.what) (what_text f.what) (digits_all e.moment first) (digits_all f.moment second)
    (behind-at (decimal e.moment ++ 32 ∷ what_text e.what) (decimal f.moment ++ 32 ∷ what_text f.what) (sym (text-is e) ∙ same ∙ text-is f)))

abbrev sending : ℕ → ℕ → ℕ → List ℕ → Sending
sending moment number to bytes = record { moment = moment; number = number; to = to; bytes = bytes }

pub sendings-told : TextsTellSendings
sendings-told x y of other same =
    let tail : List ℕ = decimal x.to ++ 32 ∷ encode_lower x.bytes in
    let other_tail : List ℕ = decimal y.to ++ 32 ∷ encode_lower y.bytes in
    let words : decimal x.number ++ 32 ∷ tail ≡ decimal y.number ++ 32 ∷ other_tail =
    behind-word _ _ (sym (sent-is x.number x.to x.bytes) ∙ whats-same (sending_event x) (sending_event y) same ∙ sent-is y.number y.to y.bytes) in
    let tails : tail ≡ other_tail = behind-space (decimal x.number) (decimal y.number) tail other_tail (digits_all x.number of.number) (digits_all y.number other.number) words in
    let moment : x.moment ≡ y.moment = moments-same (sending_event x) (sending_event y) of.moment other.moment same in
    let number : x.number ≡ y.number =
    decimal_injective x.number y.number of.number other.number (before-space (decimal x.number) (decimal y.number) tail other_tail (digits_all x.number of.number) (digits_all y.number other.number) words) in
    let to : x.to ≡ y.to =
    decimal_injective x.to y.to of.to other.to (before-space (decimal x.to) (decimal y.to) (encode_lower x.bytes) (encode_lower y.bytes) (digits_all x.to of.to) (digits_all y.to other.to) tails) in
    let bytes : x.bytes ≡ y.bytes =
    bytes-told x.bytes y.bytes of.bytes other.bytes (behind-space (decimal x.to) (decimal y.to) (encode_lower x.bytes) (encode_lower y.bytes) (digits_all x.to of.to) (digits_all y.to other.to) tails) in
    ap (λ (z : ℕ). sending z x.number x.to x.bytes) moment
    ∙ ap (λ (z : ℕ). sending y.moment z x.to x.bytes) number
    ∙ ap (λ (z : ℕ). sending y.moment y.number z x.bytes) to
    ∙ ap (λ (z : List ℕ). sending y.moment y.number y.to z) bytes
