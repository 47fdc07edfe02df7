-- Where a text fails, told from the texts of all things of one kind.
use Rattle.std.proofs.Common.{◌≡◌, ℕ, ◌+◌, List, [], ◌∷◌, ◌++◌, length, Result, Ok, Err, refl, sym, ap, subst, ◌∙◌, append_assoc, arith}
use Rattle.std.specs.List.{join_with_byte}
use Rattle.std.proofs.lemmas.List.{append-nil}
use Rattle.std.proofs.lemmas.List.Splits.{join_with_byte-slice_split}
use Rattle.line_text.specs.Words.{parts}
use Rattle.journal.specs.Words.{◌>>=◌, Reading, Step, ended, reading_of, whole}
use Rattle.journal.specs.Failing.{AreOne, AreStuck, BeginsOne, FailsIn}
use Rattle.journal.proofs.Firm.{Again, Firm, Stops, reach, size}
use Rattle.journal.proofs.Steps.{done}

-- The texts of these things are these words with one space between two.
pub record Texted {A : Type 0} (u : A → List (List ℕ)) (Good : A → Type 0) (Is : List ℕ → A → Type 0) : Type 0 where
  pub good : (text : List ℕ) (x : A) → Is text x → Good x
  pub words : (text : List ℕ) (x : A) → Is text x → parts text ≡ u x
  pub text_of : A → List ℕ
  pub is_one : (x : A) → Good x → Is (text_of x) x

begins_of : {A : Type 0} {u : A → List (List ℕ)} {Good : A → Type 0} {Is : List ℕ → A → Type 0} → Texted u Good Is → (front : List (List ℕ)) (x : A) (more : List (List ℕ)) → Good x → u x ≡ front ++ more → BeginsOne Is front
begins_of t front x more good same = record { text = t.text_of x; thing = x; more = more; is_one = t.is_one x good; same = t.words (t.text_of x) x (t.is_one x good) ∙ same }

not_both : {A : Type 0} (r : Result (A × Reading) ℕ) (x : A × Reading) (place : ℕ) → r ≡ Ok x → r ≡ Err place → ⊥
not_both r x place a b = cc

stuck_of : {A : Type 0} {step : Step A} {u : A → List (List ℕ)} {Good : A → Type 0} {Is : List ℕ → A → Type 0} → Firm step u Good → Texted u Good Is → (front behind : List (List ℕ)) → Again step front behind → AreStuck Is front behind
stuck_of {step = step} {u = u} {Is = Is} firm t front [] again = λ (w : AreOne Is front).
    let good = t.good w.text w.thing w.is_one in
    let r : Reading = record { place = 0; words = front } in
    let ok = firm.exact.back w.thing good r [] (sym w.same ∙ t.words w.text w.thing w.is_one ∙ sym (append-nil (u w.thing))) in
    let wrong = again r refl in
    not_both (step r) (w.thing, ok.0) wrong.0 ok.1 wrong.1
stuck_of {step = step} {u = u} {Is = Is} firm t front (word ∷ rest) again = λ (b : BeginsOne Is (front ++ word ∷ [])).
    let good = t.good b.text b.thing b.is_one in
    let r : Reading = record { place = 0; words = front ++ word ∷ b.more } in
    let all : front ++ word ∷ b.more ≡ u b.thing = sym (append_assoc front (word ∷ []) b.more) ∙ sym b.same ∙ t.words b.text b.thing b.is_one in
    let ok = firm.exact.back b.thing good r [] (all ∙ sym (append-nil (u b.thing))) in
    let wrong = again r b.more refl in
    not_both (step r) (b.thing, ok.0) wrong.0 ok.1 wrong.1

start : (text : List ℕ) → reach (reading_of text) ≡ length text
start text = let same : join_with_byte 32 (parts text) ≡ text = join_with_byte-slice_split 32 text in omega (arith, ap length same)

more_words : {A : Type 0} (x y : A × Reading) → done x ≡ Ok y → x ≡ y
more_words x y e = cc

-- a whole thing, and a word behind it
too_many : {A : Type 0} {step : Step A} {u : A → List (List ℕ)} {Good : A → Type 0} {Is : List ℕ → A → Type 0} → Firm step u Good → Texted u Good Is
    → (text : List ℕ) (x : A) (s : Reading) (word : List ℕ) (rest : List (List ℕ)) → step (reading_of text) ≡ Ok (x, s) → s.words ≡ word ∷ rest → FailsIn Is text s.place
too_many {A = A} {step = step} {u = u} {Is = Is} firm t text x s word rest is left =
    let one = firm.exact.read (reading_of text) s x is in
    record {
      front = u x;
      behind = word ∷ rest;
      words = one.0 ∙ ap (λ (w : List (List ℕ)). u x ++ w) left;
      at = ap (λ (w : List (List ℕ)). s.place + size w) (sym left) ∙ firm.keeps (reading_of text) s x is ∙ start text;
      begins = begins_of t (u x) x [] one.1 (sym (append-nil (u x)));
      stuck = λ (b : BeginsOne Is (u x ++ word ∷ [])).
          let good = t.good b.text b.thing b.is_one in
          let r : Reading = record { place = 0; words = u x ++ word ∷ b.more } in
          let all : u x ++ word ∷ b.more ≡ u b.thing = sym (append_assoc (u x) (word ∷ []) b.more) ∙ sym b.same ∙ t.words b.text b.thing b.is_one in
          let whole = firm.exact.back b.thing good r [] (all ∙ sym (append-nil (u b.thing))) in
          let less = firm.exact.back x one.1 r (word ∷ b.more) refl in
          let same = more_words (b.thing, whole.0) (x, less.0) (sym whole.1 ∙ less.1) in
          let none : [] ≡ word ∷ b.more = sym whole.2 ∙ ap (λ (p : A × Reading). p.1.words) same ∙ less.2 in
          absurd (cc none);
    }

abbrev wrong_at : {A : Type 0} → ℕ → Result A ℕ
wrong_at place = Err place

wrong_end : {A : Type 0} (a b : ℕ) → wrong_at {A = A} a ≡ Err b → a ≡ b
wrong_end a b h = cc

-- what the end of a text said
ended_wrong : {A : Type 0} {step : Step A} {u : A → List (List ℕ)} {Good : A → Type 0} {Is : List ℕ → A → Type 0} → Firm step u Good → Texted u Good Is
    → (text : List ℕ) (x : A) (s : Reading) (words : List (List ℕ)) (place : ℕ) → step (reading_of text) ≡ Ok (x, s) → s.words ≡ words → ended x s.place words ≡ Err place → FailsIn Is text place
ended_wrong firm t text x s [] place is left wrong = absurd cc
ended_wrong {A = A} {Is = Is} firm t text x s (word ∷ rest) place is left wrong = subst (FailsIn Is text) (wrong_end {A = A} s.place place wrong) (too_many firm t text x s word rest is left)

stopped : {A : Type 0} {step : Step A} {u : A → List (List ℕ)} {Good : A → Type 0} {Is : List ℕ → A → Type 0} → Firm step u Good → Texted u Good Is
    → (text : List ℕ) (place : ℕ) → Stops step u Good (reading_of text) place → FailsIn Is text place
stopped firm t text place s = record {
  front = s.front;
  behind = s.behind;
  words = s.words;
  at = s.at ∙ start text;
  begins = begins_of t s.front s.value s.more s.good s.fits;
  stuck = stuck_of firm t s.front s.behind s.again;
}

fails_from : {A : Type 0} {step : Step A} {u : A → List (List ℕ)} {Good : A → Type 0} {Is : List ℕ → A → Type 0} → Firm step u Good → Texted u Good Is
    → (text : List ℕ) (read : Result (A × Reading) ℕ) (place : ℕ) → step (reading_of text) ≡ read → (read >>= λ x. ended x.0 x.1.place x.1.words) ≡ Err place → FailsIn Is text place
fails_from firm t text (Ok x) place is wrong = ended_wrong firm t text x.0 x.1 x.1.words place is refl wrong
fails_from {A = A} {Is = Is} firm t text (Err p) place is wrong = subst (FailsIn Is text) (wrong_end {A = A} p place wrong) (stopped firm t text p (firm.stops (reading_of text) p is))

-- A text that isn't read whole fails at the first word that no text of such a thing has there.
pub fails_in : {A : Type 0} {step : Step A} {u : A → List (List ℕ)} {Good : A → Type 0} {Is : List ℕ → A → Type 0} → Firm step u Good → Texted u Good Is
    → (text : List ℕ) (place : ℕ) → whole step text ≡ Err place → FailsIn Is text place
fails_in {step = step} firm t text place e = fails_from firm t text (step (reading_of text)) place refl e
