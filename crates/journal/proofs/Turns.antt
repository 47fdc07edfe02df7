-- The laws of turns' lines: what is read is spelled so, what is spelled so is read, and a fault is at the first word that
-- fails.
use Rattle.std.proofs.Common.{◌≡◌, ℕ, ◌<◌, ◌≤◌, ◌^◌, Bool, true, false, cond, List, [], ◌∷◌, ◌++◌, length, Option, Some, Result, Ok, Err, refl, sym, ap, subst, ◌∙◌, append_assoc, arith, lit<}
use Rattle.std.specs.Prelude.{codes, decimal, IfErr, IfOk}
use Rattle.std.specs.Str.{bytes_eq}
use Rattle.std.proofs.lemmas.Bool.{false_from_ne_true}
use Rattle.std.proofs.lemmas.List.Splits.{join_with_byte-slice_split}
use Rattle.hex.specs.Hex.{IsBytes, encode_lower, lower_digits}
use Rattle.hex.proofs.HexLemmas.{length-encode_with}
use Rattle.line_text.specs.Words.{parts, is_word}
use Rattle.line_text.proofs.FrameLemmas.{parts-joined}
use Rattle.journal.specs.declared.fault.EventFault.{EventFault}
use Rattle.journal.specs.declared.turn.Heard.{Heard}
use Rattle.journal.specs.declared.turn.Heard.TheVariants as heard
use Rattle.journal.specs.declared.turn.HeardKind.{HeardKind}
use Rattle.journal.specs.declared.turn.HeardKind.TheVariants as kind
use Rattle.journal.specs.declared.turn.Turn.{Turn}
use Rattle.journal.specs.Words.{Reading, among, bytes_of, number, token_at, whole}
use Rattle.journal.specs.Turns.{GivesTurn, HeardTakesMemory, IsGivenTurn, IsHeard, IsTurn, TurnFailsAs, bytes_or_dash, bytes_text, every_heard, heard_at, heard_behind, heard_word, turn_at, turn_text}
use Rattle.journal.proofs.HexWords.{bytes_again, bytes_back}
use Rattle.journal.proofs.Rules.{exact_number}
use Rattle.journal.proofs.Spelled.{Worded, bytes_word, joined, no_words, number_word, with_word, with_words}
use Rattle.journal.proofs.Steps.{Exact, among_is, back_as, chosen_ok, exact_nothing, exact_token, read_as, same_word, whole_back, whole_read}
use Rattle.journal.proofs.Firm.{Branch, Firm, branch, firm_both, firm_chosen, firm_made, firm_nothing, firm_so, firm_token}
use Rattle.journal.proofs.Firmness.{firm_literal, one_byte}
use Rattle.journal.proofs.Failing.{Texted, fails_in}

-- ---- bytes, or `-`

some_text : (bytes : List ℕ) → 0 < length bytes → bytes_text bytes ≡ encode_lower bytes
some_text [] some = absurd (omega arith)
some_text (b ∷ bytes) some = refl

abbrev there : List ℕ → Option (List ℕ)
there bytes = Some bytes

some_is : (x y : List ℕ) → there x ≡ there y → x ≡ y
some_is x y e = cc

dash_or_digits : (word bytes : List ℕ) (b : Bool) → bytes_eq word (codes "-") ≡ b → cond b (there []) (bytes_of word) ≡ Some bytes → (word ≡ bytes_text bytes) × IsBytes bytes
dash_or_digits word bytes true is e =
    subst (λ (x : List ℕ). (word ≡ bytes_text x) × IsBytes x) (some_is [] bytes e) (same_word word (codes "-") is, λ k. omega arith)
dash_or_digits word bytes false is e =
    let p = bytes_back word bytes e in
    (p.0 ∙ sym (some_text bytes p.1), p.2)

-- digits are two for each byte, so they are no `-`
apart : (b : ℕ) (bytes : List ℕ) → bytes_eq (encode_lower (b ∷ bytes)) (codes "-") ≡ false
apart b bytes = false_from_ne_true _ (λ e.
    let same = ap length (same_word (encode_lower (b ∷ bytes)) (codes "-") e) in
    let long = length-encode_with lower_digits (b ∷ bytes) in
    absurd (omega (arith, same, long)))

read_again : (bytes : List ℕ) → IsBytes bytes → bytes_or_dash (bytes_text bytes) ≡ Some bytes
read_again [] good = refl
read_again (b ∷ bytes) good = rw (apart b bytes) (bytes_again (b ∷ bytes) (omega arith) good)

exact_datagram : Exact (token_at bytes_or_dash) (λ b. bytes_text b ∷ []) IsBytes
exact_datagram = exact_token bytes_or_dash bytes_text IsBytes (λ word b e. dash_or_digits word b (bytes_eq word (codes "-")) refl e) read_again

firm_datagram : Firm (token_at bytes_or_dash) (λ b. bytes_text b ∷ []) IsBytes
firm_datagram = firm_token bytes_or_dash (0 ∷ []) one_byte exact_datagram

-- ---- what was heard

abbrev heard_words : Heard → List (List ℕ)
heard_words (heard.Got bytes) = codes "got" ∷ bytes_text bytes ∷ []
heard_words heard.Nothing = codes "nothing" ∷ []
heard_words heard.Failed = codes "failed" ∷ []

heard_read : (k : HeardKind) (all : List (List ℕ)) (t s : Reading) (y : Heard) → all ≡ heard_word k ∷ t.words → heard_behind k t ≡ Ok (y, s) → (all ≡ heard_words y ++ s.words) × IsHeard y
heard_read kind.Got all t s y head e = read_as exact_datagram heard.Got heard_words IsHeard (codes "got") (λ x. refl) (λ x g. g) all t s y head e
heard_read kind.Nothing all t s y head e = read_as exact_nothing (λ (_ : Unit {0}). heard.Nothing) heard_words IsHeard (codes "nothing") (λ x. refl) (λ x g. tt) all t s y head e
heard_read kind.Failed all t s y head e = read_as exact_nothing (λ (_ : Unit {0}). heard.Failed) heard_words IsHeard (codes "failed") (λ x. refl) (λ x g. tt) all t s y head e

heard_again : (y : Heard) → IsHeard y → (r : Reading) (rest : List (List ℕ)) → r.words ≡ heard_words y ++ rest → (s : Reading) × (heard_at r ≡ Ok (y, s)) × (s.words ≡ rest)
unfolding heard_at
heard_again (heard.Got bytes) good r rest left = back_as (among heard_word every_heard) heard_behind kind.Got (codes "got") exact_datagram heard.Got (λ t. refl) refl bytes good r rest left
heard_again heard.Nothing good r rest left = back_as (among heard_word every_heard) heard_behind kind.Nothing (codes "nothing") exact_nothing (λ (_ : Unit {0}). heard.Nothing) (λ t. refl) refl tt tt r rest left
heard_again heard.Failed good r rest left = back_as (among heard_word every_heard) heard_behind kind.Failed (codes "failed") exact_nothing (λ (_ : Unit {0}). heard.Failed) (λ t. refl) refl tt tt r rest left

exact_heard : Exact heard_at heard_words IsHeard
unfolding heard_at
exact_heard = record {
  read = λ r s y e.
      let c = chosen_ok (among heard_word every_heard) heard_behind r s y e in
      heard_read c.1 r.words c.2 s y (c.4 ∙ ap (λ (w : List ℕ). w ∷ c.2.words) (among_is heard_word every_heard c.0 c.1 c.3)) c.5;
  back = heard_again;
}

heard_branch : (k : HeardKind) → Branch (heard_behind k) (heard_word k) heard_words IsHeard
heard_branch kind.Got = branch firm_datagram heard.Got heard_words IsHeard (codes "got") (λ x. refl) (λ x g. g)
heard_branch kind.Nothing = branch firm_nothing (λ (_ : Unit {0}). heard.Nothing) heard_words IsHeard (codes "nothing") (λ x. refl) (λ x g. tt)
heard_branch kind.Failed = branch firm_nothing (λ (_ : Unit {0}). heard.Failed) heard_words IsHeard (codes "failed") (λ x. refl) (λ x g. tt)

firm_heard : Firm heard_at heard_words IsHeard
unfolding heard_at
firm_heard = firm_chosen (among heard_word every_heard) heard_behind heard_word heard_words IsHeard (among_is heard_word every_heard) exact_heard heard_branch heard.Nothing tt

-- ---- turns

abbrev turn_words : Turn → List (List ℕ)
turn_words t = codes "turn" ∷ decimal t.number ∷ (heard_words t.heard ++ codes "ticks" ∷ decimal t.ticks ∷ [])

record IsGoodTurn (t : Turn) : Type 0 where
  first : 1 ≤ t.number
  fits : t.number < 2 ^ 32
  heard : IsHeard t.heard
  ticks : t.ticks ≤ 64

abbrev Parts : Type 0
Parts = Unit {0} × (ℕ × (Heard × (Unit {0} × ℕ)))

abbrev turn_made : Parts → Turn
turn_made p = record { number = p.1.0; heard = p.1.1.0; ticks = p.1.1.1.1 }

abbrev parts_of : Turn → Parts
parts_of t = (tt, (t.number, (t.heard, (tt, t.ticks))))

firm_number : Firm (token_at (number 1 4294967295)) (λ n. decimal n ∷ []) (λ n. (1 ≤ n) × (n ≤ 4294967295))
firm_number = firm_token (number 1 4294967295) 1 (omega arith, omega arith) (exact_number 1 4294967295 (lit< tt))

firm_ticks : Firm (token_at (number 0 64)) (λ n. decimal n ∷ []) (λ n. (0 ≤ n) × (n ≤ 64))
firm_ticks = firm_token (number 0 64) 0 (omega arith, omega arith) (exact_number 0 64 (lit< tt))

firm_turn : Firm turn_at turn_words IsGoodTurn
unfolding turn_at
firm_turn =
    firm_so IsGoodTurn
    (λ t g. record { first = g.1.0.0; fits = omega (arith, g.1.0.1); heard = g.1.1.0; ticks = g.1.1.1.1.1 })
    (λ t g. (tt, ((g.first, omega (arith, g.fits)), (g.heard, (tt, (omega arith, g.ticks))))))
    (firm_made turn_made parts_of (λ y. refl) (λ x. refl)
    (firm_both (firm_literal (codes "turn")) (firm_both firm_number (firm_both firm_heard (firm_both (firm_literal (codes "ticks")) firm_ticks)))))

-- ---- the line

around : (n heard_by k : List ℕ) → codes "turn " ++ n ++ codes " " ++ heard_by ++ codes " ticks " ++ k ≡ codes "turn" ++ 32 ∷ (n ++ 32 ∷ (heard_by ++ 32 ∷ (codes "ticks" ++ 32 ∷ k)))
around n heard_by k = simp append_assoc refl

got_around : (n digits k : List ℕ) → codes "turn " ++ n ++ codes " " ++ (codes "got " ++ digits) ++ codes " ticks " ++ k ≡ codes "turn" ++ 32 ∷ (n ++ 32 ∷ (codes "got" ++ 32 ∷ (digits ++ 32 ∷ (codes "ticks" ++ 32 ∷ k))))
got_around n digits k =
    around n (codes "got " ++ digits) k
    ∙ ap (λ (t : List ℕ). codes "turn" ++ 32 ∷ (n ++ 32 ∷ t)) (append_assoc (codes "got ") digits (32 ∷ (codes "ticks" ++ 32 ∷ k)))

turn_spelled : (n k : ℕ) (h : Heard) → turn_text (record { number = n; heard = h; ticks = k }) ≡ joined (turn_words (record { number = n; heard = h; ticks = k }))
turn_spelled n k (heard.Got bytes) = got_around (decimal n) (bytes_text bytes) (decimal k)
turn_spelled n k heard.Nothing = around (decimal n) (codes "nothing") (decimal k)
turn_spelled n k heard.Failed = around (decimal n) (codes "failed") (decimal k)

turn_joined : (t : Turn) → turn_text t ≡ joined (turn_words t)
turn_joined t = turn_spelled t.number t.ticks t.heard

datagram_word : (bytes : List ℕ) → IsBytes bytes → is_word (bytes_text bytes) ≡ true
datagram_word [] good = refl
datagram_word (b ∷ bytes) good = bytes_word (b ∷ bytes) (omega arith) good

worded_heard : (h : Heard) → IsHeard h → Worded (heard_words h)
worded_heard (heard.Got bytes) good = with_word (codes "got") _ refl (with_word (bytes_text bytes) [] (datagram_word bytes good) no_words)
worded_heard heard.Nothing good = record { all = refl }
worded_heard heard.Failed good = record { all = refl }

worded_turn : (t : Turn) → IsGoodTurn t → Worded (turn_words t)
worded_turn t good =
    with_word (codes "turn") _ refl
    (with_word (decimal t.number) _ (number_word t.number (omega (arith, good.fits)))
    (with_words (heard_words t.heard) (codes "ticks" ∷ decimal t.ticks ∷ []) (worded_heard t.heard good.heard)
    (with_word (codes "ticks") _ refl (with_word (decimal t.ticks) [] (number_word t.ticks (omega (arith, good.ticks))) no_words))))

turn_parts : (t : Turn) → IsGoodTurn t → parts (turn_text t) ≡ turn_words t
turn_parts t good =
    ap parts (turn_joined t)
    ∙ parts-joined (codes "turn") (decimal t.number ∷ (heard_words t.heard ++ codes "ticks" ∷ decimal t.ticks ∷ [])) (worded_turn t good).all

good_of : (text : List ℕ) (t : Turn) → IsTurn text t → IsGoodTurn t
good_of text t is = record { first = is.first; fits = is.fits; heard = is.heard; ticks = is.ticks }

is_of : (text : List ℕ) (t : Turn) → IsGoodTurn t → text ≡ turn_text t → IsTurn text t
is_of text t good spelled = record { first = good.first; fits = good.fits; heard = good.heard; ticks = good.ticks; spelled = spelled }

texted : Texted turn_words IsGoodTurn IsTurn
texted = record {
  good = good_of;
  words = λ text t is. ap parts is.spelled ∙ turn_parts t (good_of text t is);
  text_of = turn_text;
  is_one = λ t good. is_of (turn_text t) t good refl;
}

-- ---- the laws

turn_found : (text : List ℕ) (t : Turn) → whole turn_at text ≡ Ok t → IsTurn text t
turn_found text t is =
    let w = whole_read firm_turn.exact text t is in
    is_of text t w.1 (sym (join_with_byte-slice_split 32 text) ∙ ap joined w.0 ∙ sym (turn_joined t))

turn_given : (text : List ℕ) (t : Turn) → IsTurn text t → whole turn_at text ≡ Ok t
turn_given text t is =
    let good = good_of text t is in
    whole_back firm_turn.exact text t good (ap parts is.spelled ∙ turn_parts t good)

found_of : (text : List ℕ) (read : Result Turn ℕ) (answer : Result Turn EventFault) → whole turn_at text ≡ read → GivesTurn read answer → IfOk answer (λ t. IsTurn text t)
found_of text (Ok t) (Ok given) is same = subst (IsTurn text) (sym same) (turn_found text t is)
found_of text (Ok t) (Err fault) is same = tt
found_of text (Err place) answer is same = subst (λ (a : Result Turn EventFault). IfOk a (λ t. IsTurn text t)) (sym same) tt

-- what is read is spelled so
pub is_found : (text : List ℕ) (answer : Result Turn EventFault) → GivesTurn (whole turn_at text) answer → IfOk answer (λ t. IsTurn text t)
is_found text answer given = found_of text (whole turn_at text) answer refl given

given_of : (t x : Turn) (answer : Result Turn EventFault) → x ≡ t → GivesTurn (Ok x) answer → IsGivenTurn t answer
given_of t x (Ok y) same given = given ∙ same
given_of t x (Err fault) same given = (given.0, subst (λ (z : Turn). HeardTakesMemory z.heard) same given.1)

-- what is spelled so is read
pub is_given : (text : List ℕ) (answer : Result Turn EventFault) → GivesTurn (whole turn_at text) answer → (t : Turn) → IsTurn text t → IsGivenTurn t answer
is_given text answer given t is = given_of t t answer refl (subst (λ (r : Result Turn ℕ). GivesTurn r answer) (turn_given text t is) given)

fails_of : (text : List ℕ) (read : Result Turn ℕ) (answer : Result Turn EventFault) → whole turn_at text ≡ read → GivesTurn read answer → IfErr answer (TurnFailsAs text)
fails_of text (Ok t) (Ok given) is same = tt
fails_of text (Ok t) (Err fault) is same = subst (TurnFailsAs text) (sym same.0) tt
fails_of text (Err place) answer is same = subst (λ (a : Result Turn EventFault). IfErr a (TurnFailsAs text)) (sym same) (fails_in firm_turn texted text place is)

-- a fault is at the first word that fails
pub is_first : (text : List ℕ) (answer : Result Turn EventFault) → GivesTurn (whole turn_at text) answer → IfErr answer (TurnFailsAs text)
is_first text answer given = fails_of text (whole turn_at text) answer refl given
