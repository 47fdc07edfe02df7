-- Steps that stop where no good text goes on: what they took begins one, and with the word at which they stop none
-- does.
use Rattle.std.proofs.Common.{◌≡◌, ℕ, ◌+◌, List, [], ◌∷◌, ◌++◌, length, Option, Some, None, Result, Ok, Err, refl, sym, ap, subst, ◌∙◌, append_assoc, length-append, arith}
use Rattle.std.specs.List.{join_with_byte}
use Rattle.journal.specs.Words.{◌>>=◌, Reading, Step, chosen, followed, kept, made, nothing_at, passed, token_at, token_in}
use Rattle.journal.proofs.Steps.{Exact, bind_ok, done, exact_followed, exact_made, exact_nothing, exact_so, kept_ok, ok_is, token_back, token_ok}

abbrev Texts : Type 0
Texts = List (List ℕ)

abbrev failed : {A : Type 0} → ℕ → Result A ℕ
failed place = Err place

abbrev pub size : List (List ℕ) → ℕ
size words = length (join_with_byte 32 words)

-- where a text ends of which this is left
abbrev pub reach : Reading → ℕ
reach r = r.place + size r.words

-- The step fails on whatever begins with these words, and with the first of the others, or with them alone where
-- there are none.
abbrev pub Again : {A : Type 0} → Step A → List (List ℕ) → List (List ℕ) → Type 0
Again step front [] = (r : Reading) → r.words ≡ front → (place : ℕ) × (step r ≡ Err place)
Again step front (word ∷ rest) = (r : Reading) (others : List (List ℕ)) → r.words ≡ front ++ word ∷ others → (place : ℕ) × (step r ≡ Err place)

-- how a step stopped at a place
pub record Stops {A : Type 0} (step : Step A) (spell : A → List (List ℕ)) (Good : A → Type 0) (r : Reading) (place : ℕ) : Type 0 where
  pub front : List (List ℕ)
  pub behind : List (List ℕ)
  pub words : r.words ≡ front ++ behind
  pub at : place + size behind ≡ reach r
  pub value : A
  pub more : List (List ℕ)
  pub good : Good value
  pub fits : spell value ≡ front ++ more
  pub again : Again step front behind

-- what is read exactly, and stops so
pub record Firm {A : Type 0} (step : Step A) (spell : A → List (List ℕ)) (Good : A → Type 0) : Type 0 where
  pub exact : Exact step spell Good
  pub keeps : (r s : Reading) (x : A) → step r ≡ Ok (x, s) → reach s ≡ reach r
  pub some : A
  pub some_good : Good some
  pub stops : (r : Reading) (place : ℕ) → step r ≡ Err place → Stops step spell Good r place

-- ---- one word

passed_reach : (place : ℕ) (word : List ℕ) (rest : Texts) → reach (passed place word rest) ≡ place + size (word ∷ rest)
passed_reach place word [] = omega arith
passed_reach place word (next ∷ rest) = omega (arith, length-append word (32 ∷ join_with_byte 32 (next ∷ rest)))

token_reach : {A : Type 0} (rule : List ℕ → Option A) (place : ℕ) (words : Texts) (x : A) (s : Reading) → token_in rule place words ≡ Ok (x, s) → reach s ≡ place + size words
token_reach rule place [] x s e = absurd cc
token_reach rule place (word ∷ rest) x s e =
    let k = kept_ok place word rest (rule word) x s e in
    ap reach (sym k.1) ∙ passed_reach place word rest

wrong_place : {A : Type 0} (a b : ℕ) → failed {A = A} a ≡ failed b → a ≡ b
wrong_place a b e = cc

-- what a rule says of a word that it refuses
kept_wrong : {A : Type 0} (place : ℕ) (word : List ℕ) (rest : Texts) (o : Option A) (found : ℕ) → kept place word rest o ≡ Err found → (o ≡ None) × (place ≡ found)
kept_wrong place word rest (Some x) found e = absurd cc
kept_wrong place word rest None found e = (refl, cc)

token_again : {A : Type 0} (rule : List ℕ → Option A) (word : List ℕ) (r : Reading) (others : Texts) → rule word ≡ None → r.words ≡ word ∷ others → token_at rule r ≡ Err r.place
token_again rule word r others none left = ap (token_in rule r.place) left ∙ ap (kept r.place word others) none

-- how one word stops
record Wrong {A : Type 0} (rule : List ℕ → Option A) (r : Reading) (place : ℕ) : Type 0 where
  pub behind : List (List ℕ)
  pub words : r.words ≡ behind
  pub at : place + size behind ≡ reach r
  pub again : Again (token_at rule) [] behind

token_wrong : {A : Type 0} (rule : List ℕ → Option A) (r : Reading) (words : Texts) (place : ℕ) → r.words ≡ words → token_in rule r.place words ≡ Err place → Wrong rule r place
token_wrong {A = A} rule r [] place left e = record {
  behind = [];
  words = left;
  at = ap (λ (p : ℕ). p + 0) (sym (wrong_place {A = A × Reading} r.place place e)) ∙ ap (λ (w : Texts). r.place + size w) (sym left);
  again = λ t empty. (t.place, ap (token_in rule t.place) empty);
}
token_wrong rule r (word ∷ rest) place left e =
    let k = kept_wrong r.place word rest (rule word) place e in
    record {
      behind = word ∷ rest;
      words = left;
      at = ap (λ (p : ℕ). p + size (word ∷ rest)) (sym k.1) ∙ ap (λ (w : Texts). r.place + size w) (sym left);
      again = λ t others head. (t.place, token_again rule word t others k.0 head);
    }

pub firm_token : {A : Type 0} (rule : List ℕ → Option A) {spell : A → List (List ℕ)} {Good : A → Type 0} (x : A) → Good x → Exact (token_at rule) spell Good → Firm (token_at rule) spell Good
firm_token rule {spell = spell} x good exact = record {
  exact = exact;
  keeps = λ r s y e. token_reach rule r.place r.words y s e;
  some = x;
  some_good = good;
  stops = λ r place e.
      let w = token_wrong rule r r.words place refl e in
      record { front = []; behind = w.behind; words = w.words; at = w.at; value = x; more = spell x; good = good; fits = refl; again = w.again };
}

pub firm_nothing : Firm nothing_at (λ _. []) (λ _. Unit {0})
firm_nothing = record {
  exact = exact_nothing;
  keeps = λ r s x e. ap (λ (p : Unit {0} × Reading). reach p.1) (sym (ok_is (tt, r) (x, s) e));
  some = tt;
  some_good = tt;
  stops = λ r place e. absurd cc;
}

-- the same, where what is good is said otherwise
pub firm_so : {A : Type 0} {f : Step A} {u : A → List (List ℕ)} {P : A → Type 0} (Q : A → Type 0) → ((x : A) → P x → Q x) → ((x : A) → Q x → P x) → Firm f u P → Firm f u Q
firm_so Q there back inner = record {
  exact = exact_so Q there back inner.exact;
  keeps = inner.keeps;
  some = inner.some;
  some_good = there inner.some inner.some_good;
  stops = λ r place e. let s = inner.stops r place e in
      record { front = s.front; behind = s.behind; words = s.words; at = s.at; value = s.value; more = s.more; good = there s.value s.good; fits = s.fits; again = s.again };
}

-- ---- what failed

bind_wrong : {A B : Type 0} (r : Result A ℕ) (f : A → Result B ℕ) (place : ℕ) (P : Type 0) → (r >>= f) ≡ Err place → (r ≡ Err place → P) → ((x : A) → r ≡ Ok x → f x ≡ Err place → P) → P
bind_wrong (Ok x) f place P e first second = second x refl e
bind_wrong (Err p) f place P e first second = first (ap failed (wrong_place p place e))

no_error : {A : Type 0} (x : A) (place : ℕ) → done x ≡ Err place → ⊥
no_error x place e = cc

-- a step on top of one that fails again fails again
over : {A B : Type 0} (f : Step A) (h : A × Reading → Result (B × Reading) ℕ) (front behind : List (List ℕ)) → Again f front behind → Again (λ r. f r >>= h) front behind
over f h front [] again = λ r left. let a = again r left in (a.0, ap (λ (v : Result (_ × Reading) ℕ). v >>= h) a.1)
over f h front (word ∷ rest) again = λ r others left. let a = again r others left in (a.0, ap (λ (v : Result (_ × Reading) ℕ). v >>= h) a.1)

-- a step behind another that is exact
beyond : {A B C : Type 0} {f : Step A} {u : A → List (List ℕ)} {P : A → Type 0} (h : A × Reading → Result (B × Reading) ℕ) (g : Step C) → Exact f u P → (x : A) → P x → ((t : Reading) (place : ℕ) → g t ≡ Err place → h (x, t) ≡ Err place)
    → (front behind : List (List ℕ)) → Again g front behind → Again (λ r. f r >>= h) (u x ++ front) behind
beyond {u = u} h g exact x good carries front [] again = λ r left.
    let t = exact.back x good r front left in
    let a = again t.0 t.2 in
    (a.0, ap (λ (v : Result (_ × Reading) ℕ). v >>= h) t.1 ∙ carries t.0 a.0 a.1)
beyond {u = u} h g exact x good carries front (word ∷ rest) again = λ r others left.
    let t = exact.back x good r (front ++ word ∷ others) (left ∙ append_assoc (u x) front (word ∷ others)) in
    let a = again t.0 others t.2 in
    (a.0, ap (λ (v : Result (_ × Reading) ℕ). v >>= h) t.1 ∙ carries t.0 a.0 a.1)

-- ---- one behind another

pub firm_followed : {A B : Type 0} {f : Step A} {g : A → Step B} {u : A → List (List ℕ)} {v : A → B → List (List ℕ)} {P : A → Type 0} {Q : A → B → Type 0}
    → Firm f u P → ((x : A) → Firm (g x) (v x) (Q x)) → Firm (followed f g) (λ p. u p.0 ++ v p.0 p.1) (λ p. P p.0 × Q p.0 p.1)
firm_followed {A = A} {B = B} {f = f} {g = g} {u = u} {v = v} {P = P} {Q = Q} first second = record {
  exact = exact_followed {f = f} {g = g} {u = u} {v = v} {P = P} {Q = Q} first.exact (λ x. (second x).exact);
  keeps = λ r s p e.
      let a = bind_ok (f r) (λ x. g x.0 x.1 >>= λ y. Ok ((x.0, y.0), y.1)) (p, s) e in
      let b = bind_ok (g a.0.0 a.0.1) (λ y. Ok ((a.0.0, y.0), y.1)) (p, s) a.2 in
      ap (λ (y : (A × B) × Reading). reach y.1) (sym (ok_is ((a.0.0, b.0.0), b.0.1) (p, s) b.2)) ∙ (second a.0.0).keeps a.0.1 b.0.1 b.0.0 b.1 ∙ first.keeps r a.0.1 a.0.0 a.1;
  some = (first.some, (second first.some).some);
  some_good = (first.some_good, (second first.some).some_good);
  stops = λ r place e.
      bind_wrong {A = A × Reading} {B = (A × B) × Reading} (f r) (λ x. g x.0 x.1 >>= λ y. Ok ((x.0, y.0), y.1)) place (Stops (followed f g) (λ p. u p.0 ++ v p.0 p.1) (λ p. P p.0 × Q p.0 p.1) r place) e
      (λ wrong.
      let s = first.stops r place wrong in
      let y = second s.value in
      record {
        front = s.front;
        behind = s.behind;
        words = s.words;
        at = s.at;
        value = (s.value, y.some);
        more = s.more ++ v s.value y.some;
        good = (s.good, y.some_good);
        fits = ap (λ (w : Texts). w ++ v s.value y.some) s.fits ∙ append_assoc s.front s.more (v s.value y.some);
        again = over {A = A} {B = A × B} f (λ x. g x.0 x.1 >>= λ y. Ok ((x.0, y.0), y.1)) s.front s.behind s.again;
      })
      (λ x right wrong.
      let failing : g x.0 x.1 ≡ Err place = bind_wrong {A = B × Reading} {B = (A × B) × Reading} (g x.0 x.1) (λ y. Ok ((x.0, y.0), y.1)) place (g x.0 x.1 ≡ Err place) wrong (λ h. h) (λ y h n. absurd (no_error {A = (A × B) × Reading} ((x.0, y.0), y.1) place n)) in
      let one = first.exact.read r x.1 x.0 right in
      let s = (second x.0).stops x.1 place failing in
      record {
        front = u x.0 ++ s.front;
        behind = s.behind;
        words = one.0 ∙ ap (λ (w : Texts). u x.0 ++ w) s.words ∙ sym (append_assoc (u x.0) s.front s.behind);
        at = s.at ∙ first.keeps r x.1 x.0 right;
        value = (x.0, s.value);
        more = s.more;
        good = (one.1, s.good);
        fits = ap (λ (w : Texts). u x.0 ++ w) s.fits ∙ sym (append_assoc (u x.0) s.front s.more);
        again = beyond {A = A} {B = A × B} {C = B} {f = f} {u = u} {P = P} (λ y. g y.0 y.1 >>= λ z. Ok ((y.0, z.0), z.1)) (g x.0) first.exact x.0 one.1 (λ t p h. ap (λ (w : Result (B × Reading) ℕ). w >>= λ z. done ((x.0, z.0), z.1)) h) s.front s.behind s.again;
      });
}

pub firm_both : {A B : Type 0} {f : Step A} {g : Step B} {u : A → List (List ℕ)} {v : B → List (List ℕ)} {P : A → Type 0} {Q : B → Type 0}
    → Firm f u P → Firm g v Q → Firm (followed f (λ _. g)) (λ p. u p.0 ++ v p.1) (λ p. P p.0 × Q p.1)
firm_both {f = f} {g = g} {u = u} {v = v} {P = P} {Q = Q} first second = firm_followed {f = f} {g = λ _. g} {u = u} {v = λ _. v} {P = P} {Q = λ _. Q} first (λ x. second)

-- ---- made into another thing

made_keeps : {A B : Type 0} {f : Step A} {u : A → List (List ℕ)} {P : A → Type 0} → Firm f u P → (h : A → B) → (r s : Reading) (y : B) → made h f r ≡ Ok (y, s) → reach s ≡ reach r
made_keeps {f = f} inner h r s y e =
    let a = bind_ok (f r) (λ x. Ok (h x.0, x.1)) (y, s) e in
    ap (λ (z : _ × Reading). reach z.1) (sym (ok_is (h a.0.0, a.0.1) (y, s) a.2)) ∙ inner.keeps r a.0.1 a.0.0 a.1

made_wrong : {A B : Type 0} (f : Step A) (h : A → B) (r : Reading) (place : ℕ) → made h f r ≡ Err place → f r ≡ Err place
made_wrong {A = A} {B = B} f h r place e = bind_wrong {A = A × Reading} {B = B × Reading} (f r) (λ x. Ok (h x.0, x.1)) place (f r ≡ Err place) e (λ w. w) (λ x right n. absurd (no_error {A = B × Reading} (h x.0, x.1) place n))

pub firm_made : {A B : Type 0} {f : Step A} {u : A → List (List ℕ)} {P : A → Type 0} (h : A → B) (inv : B → A)
    → ((y : B) → h (inv y) ≡ y) → ((x : A) → inv (h x) ≡ x) → Firm f u P → Firm (made h f) (λ y. u (inv y)) (λ y. P (inv y))
firm_made {f = f} {u = u} {P = P} h inv same other inner = record {
  exact = exact_made {f = f} {u = u} {P = P} h inv same other inner.exact;
  keeps = made_keeps inner h;
  some = h inner.some;
  some_good = subst P (sym (other inner.some)) inner.some_good;
  stops = λ r place e.
      let s = inner.stops r place (made_wrong f h r place e) in
      record {
        front = s.front;
        behind = s.behind;
        words = s.words;
        at = s.at;
        value = h s.value;
        more = s.more;
        good = subst P (sym (other s.value)) s.good;
        fits = ap u (other s.value) ∙ s.fits;
        again = over f (λ x. Ok (h x.0, x.1)) s.front s.behind s.again;
      };
}

-- ---- what stands behind a word that says what it is

-- how the step behind a first word stopped
pub record Part {B : Type 0} (step : Step B) (word : List ℕ) (words : B → List (List ℕ)) (Is : B → Type 0) (t : Reading) (place : ℕ) : Type 0 where
  pub front : List (List ℕ)
  pub behind : List (List ℕ)
  pub left : t.words ≡ front ++ behind
  pub at : place + size behind ≡ reach t
  pub value : B
  pub more : List (List ℕ)
  pub good : Is value
  pub fits : words value ≡ word ∷ (front ++ more)
  pub again : Again step front behind

pub record Branch {B : Type 0} (step : Step B) (word : List ℕ) (words : B → List (List ℕ)) (Is : B → Type 0) : Type 0 where
  pub keeps : (r s : Reading) (y : B) → step r ≡ Ok (y, s) → reach s ≡ reach r
  pub stops : (t : Reading) (place : ℕ) → step t ≡ Err place → Part step word words Is t place

pub branch : {A B : Type 0} {f : Step A} {u : A → List (List ℕ)} {P : A → Type 0} → Firm f u P
    → (h : A → B) (words : B → List (List ℕ)) (Is : B → Type 0) (word : List ℕ) → ((x : A) → words (h x) ≡ word ∷ u x) → ((x : A) → P x → Is (h x)) → Branch (made h f) word words Is
branch {f = f} inner h words Is word spelled is = record {
  keeps = made_keeps inner h;
  stops = λ t place e.
      let s = inner.stops t place (made_wrong f h t place e) in
      record {
        front = s.front;
        behind = s.behind;
        left = s.words;
        at = s.at;
        value = h s.value;
        more = s.more;
        good = is s.value s.good;
        fits = spelled s.value ∙ ap (λ (w : Texts). word ∷ w) s.fits;
        again = over f (λ x. Ok (h x.0, x.1)) s.front s.behind s.again;
      };
}

beyond_word : {K B : Type 0} (kind : List ℕ → Option K) (behind : K → Step B) (word : List ℕ) (k : K) → kind word ≡ Some k → (front rest : List (List ℕ)) → Again (behind k) front rest → Again (chosen kind behind) (word ∷ front) rest
beyond_word kind behind word k is front [] again = λ r left.
    let t = token_back kind r word front k left is in
    let a = again t.0 t.2 in
    (a.0, ap (λ (v : Result (_ × Reading) ℕ). v >>= λ y. behind y.0 y.1) t.1 ∙ a.1)
beyond_word kind behind word k is front (next ∷ rest) again = λ r others left.
    let t = token_back kind r word (front ++ next ∷ others) k left is in
    let a = again t.0 others t.2 in
    (a.0, ap (λ (v : Result (_ × Reading) ℕ). v >>= λ y. behind y.0 y.1) t.1 ∙ a.1)

pub firm_chosen : {K B : Type 0} (kind : List ℕ → Option K) (behind : K → Step B) (text : K → List ℕ) (words : B → List (List ℕ)) (Is : B → Type 0)
    → ((word : List ℕ) (k : K) → kind word ≡ Some k → word ≡ text k) → Exact (chosen kind behind) words Is → ((k : K) → Branch (behind k) (text k) words Is) → (y : B) → Is y
    → Firm (chosen kind behind) words Is
firm_chosen {K = K} {B = B} kind behind text words Is named exact branches y good = record {
  exact = exact;
  keeps = λ r s z e.
      let a = bind_ok (token_at kind r) (λ k. behind k.0 k.1) (z, s) e in
      (branches a.0.0).keeps a.0.1 s z a.2 ∙ token_reach kind r.place r.words a.0.0 a.0.1 a.1;
  some = y;
  some_good = good;
  stops = λ r place e.
      bind_wrong {A = K × Reading} {B = B × Reading} (token_at kind r) (λ k. behind k.0 k.1) place (Stops (chosen kind behind) words Is r place) e
      (λ wrong.
      let w = token_wrong kind r r.words place refl wrong in
      record {
        front = [];
        behind = w.behind;
        words = w.words;
        at = w.at;
        value = y;
        more = words y;
        good = good;
        fits = refl;
        again = over (token_at kind) (λ k. behind k.0 k.1) [] w.behind w.again;
      })
      (λ x right wrong.
      let t = token_ok kind r.place r.words x.0 x.1 right in
      let part = (branches x.0).stops x.1 place wrong in
      let name = named t.0 x.0 t.2 in
      record {
        front = t.0 ∷ part.front;
        behind = part.behind;
        words = t.1 ∙ ap (λ (w : Texts). t.0 ∷ w) part.left;
        at = part.at ∙ token_reach kind r.place r.words x.0 x.1 right;
        value = part.value;
        more = part.more;
        good = part.good;
        fits = part.fits ∙ ap (λ (w : List ℕ). w ∷ (part.front ++ part.more)) (sym name);
        again = beyond_word kind behind t.0 x.0 t.2 part.front part.behind part.again;
      });
}
