-- Steps that read just what was written: a value from its words, and its words alone.
use Rattle.std.proofs.Common.{◌≡◌, ℕ, Bool, true, false, cond, List, [], ◌∷◌, ◌++◌, Option, Some, None, Result, Ok, Err, ◌⊎◌, inl, inr, refl, sym, ap, subst, ◌∙◌, append_assoc}
use Rattle.std.specs.Str.{bytes_eq}
use Rattle.std.proofs.lemmas.List.{append-nil}
use Rattle.std.proofs.lemmas.Slice.Eq.{bytes_eq-Decides}
use Rattle.journal.specs.Words.{◌>>=◌, Reading, Step, among, chosen, ended, followed, kept, made, nothing_at, passed, reading_of, token_at, token_in, whole}
use Rattle.line_text.specs.Words.{parts}

abbrev Texts : Type 0
Texts = List (List ℕ)

abbrev pub done : {A : Type 0} → A → Result A ℕ
done x = Ok x

pub ok_is : {A : Type 0} (x y : A) → done x ≡ done y → x ≡ y
ok_is x y e = cc

pub bind_ok : {A B : Type 0} (r : Result A ℕ) (f : A → Result B ℕ) (y : B) → (r >>= f) ≡ Ok y → (x : A) × (r ≡ Ok x) × (f x ≡ Ok y)
bind_ok (Ok x) f y e = (x, refl, e)
bind_ok (Err d) f y e = absurd cc

-- The step reads just these words of each value that is good.
pub record Exact {A : Type 0} (step : Step A) (spell : A → List (List ℕ)) (Good : A → Type 0) : Type 0 where
  pub read : (r s : Reading) (x : A) → step r ≡ Ok (x, s) → (r.words ≡ spell x ++ s.words) × Good x
  pub back : (x : A) → Good x → (r : Reading) (rest : List (List ℕ)) → r.words ≡ spell x ++ rest → (s : Reading) × (step r ≡ Ok (x, s)) × (s.words ≡ rest)

-- ---- one word

passed_words : (place : ℕ) (word : List ℕ) (rest : Texts) → (passed place word rest).words ≡ rest
passed_words place word [] = refl
passed_words place word (next ∷ rest) = refl

pub kept_ok : {A : Type 0} (place : ℕ) (word : List ℕ) (rest : Texts) (o : Option A) (x : A) (s : Reading) → kept place word rest o ≡ Ok (x, s) → (o ≡ Some x) × (passed place word rest ≡ s)
kept_ok place word rest (Some y) x s e = let same = ok_is (y, passed place word rest) (x, s) e in (ap (λ p. Some p.0) same, ap (λ p. p.1) same)
kept_ok place word rest None x s e = absurd cc

pub token_ok : {A : Type 0} (rule : List ℕ → Option A) (place : ℕ) (words : Texts) (x : A) (s : Reading) → token_in rule place words ≡ Ok (x, s)
    → (word : List ℕ) × (words ≡ word ∷ s.words) × (rule word ≡ Some x)
token_ok rule place [] x s e = absurd cc
token_ok rule place (word ∷ rest) x s e =
    let k = kept_ok place word rest (rule word) x s e in
    (word, ap (λ (t : Texts). word ∷ t) (sym (passed_words place word rest) ∙ ap (λ (r : Reading). r.words) k.1), k.0)

pub token_back : {A : Type 0} (rule : List ℕ → Option A) (r : Reading) (word : List ℕ) (rest : Texts) (x : A) → r.words ≡ word ∷ rest → rule word ≡ Some x
    → (s : Reading) × (token_at rule r ≡ Ok (x, s)) × (s.words ≡ rest)
token_back rule r word rest x left is =
    (passed r.place word rest, ap (token_in rule r.place) left ∙ ap (kept r.place word rest) is, passed_words r.place word rest)

pub exact_token : {A : Type 0} (rule : List ℕ → Option A) (spell : A → List ℕ) (Good : A → Type 0)
    → ((word : List ℕ) (x : A) → rule word ≡ Some x → (word ≡ spell x) × Good x) → ((x : A) → Good x → rule (spell x) ≡ Some x)
    → Exact (token_at rule) (λ x. spell x ∷ []) Good
exact_token rule spell Good is again = record {
  read = λ r s x e.
      let t = token_ok rule r.place r.words x s e in
      let w = is t.0 x t.2 in
      (t.1 ∙ ap (λ (word : List ℕ). word ∷ s.words) w.0, w.1);
  back = λ x good r rest left. token_back rule r (spell x) rest x left (again x good);
}

pub exact_nothing : Exact nothing_at (λ _. []) (λ _. Unit {0})
exact_nothing = record {
  read = λ r s x e. (ap (λ (p : Unit {0} × Reading). p.1.words) (ok_is (tt, r) (x, s) e), tt);
  back = λ x good r rest left. (r, refl, left);
}

-- ---- one behind another

pub exact_followed : {A B : Type 0} {f : Step A} {g : A → Step B} {u : A → List (List ℕ)} {v : A → B → List (List ℕ)} {P : A → Type 0} {Q : A → B → Type 0}
    → Exact f u P → ((x : A) → Exact (g x) (v x) (Q x)) → Exact (followed f g) (λ p. u p.0 ++ v p.0 p.1) (λ p. P p.0 × Q p.0 p.1)
exact_followed {A = A} {B = B} {f = f} {g = g} {u = u} {v = v} {P = P} {Q = Q} first second = record {
  read = λ r s p e.
      let a = bind_ok (f r) (λ x. g x.0 x.1 >>= λ y. Ok ((x.0, y.0), y.1)) (p, s) e in
      let b = bind_ok (g a.0.0 a.0.1) (λ y. Ok ((a.0.0, y.0), y.1)) (p, s) a.2 in
      let one = first.read r a.0.1 a.0.0 a.1 in
      let two = (second a.0.0).read a.0.1 b.0.1 b.0.0 b.1 in
      let words : r.words ≡ (u a.0.0 ++ v a.0.0 b.0.0) ++ b.0.1.words = one.0 ∙ ap (λ (t : Texts). u a.0.0 ++ t) two.0 ∙ sym (append_assoc (u a.0.0) (v a.0.0 b.0.0) b.0.1.words) in
      subst (λ (y : (A × B) × Reading). (r.words ≡ (u y.0.0 ++ v y.0.0 y.0.1) ++ y.1.words) × (P y.0.0 × Q y.0.0 y.0.1)) (ok_is ((a.0.0, b.0.0), b.0.1) (p, s) b.2)
      (words, (one.1, two.1));
  back = λ p good r rest left.
      let a = first.back p.0 good.0 r (v p.0 p.1 ++ rest) (left ∙ append_assoc (u p.0) (v p.0 p.1) rest) in
      let b = (second p.0).back p.1 good.1 a.0 rest a.2 in
      (b.0, ap (λ (x : Result (A × Reading) ℕ). x >>= λ y. g y.0 y.1 >>= λ z. done ((y.0, z.0), z.1)) a.1 ∙ ap (λ (x : Result (B × Reading) ℕ). x >>= λ z. done ((p.0, z.0), z.1)) b.1, b.2);
}

pub exact_both : {A B : Type 0} {f : Step A} {g : Step B} {u : A → List (List ℕ)} {v : B → List (List ℕ)} {P : A → Type 0} {Q : B → Type 0}
    → Exact f u P → Exact g v Q → Exact (followed f (λ _. g)) (λ p. u p.0 ++ v p.1) (λ p. P p.0 × Q p.1)
exact_both {f = f} {g = g} {u = u} {v = v} {P = P} {Q = Q} first second = exact_followed {f = f} {g = λ _. g} {u = u} {v = λ _. v} {P = P} {Q = λ _. Q} first (λ x. second)

-- ---- made into another thing

pub exact_made : {A B : Type 0} {f : Step A} {u : A → List (List ℕ)} {P : A → Type 0} (h : A → B) (inv : B → A)
    → ((y : B) → h (inv y) ≡ y) → ((x : A) → inv (h x) ≡ x) → Exact f u P → Exact (made h f) (λ y. u (inv y)) (λ y. P (inv y))
exact_made {A = A} {B = B} {f = f} {u = u} {P = P} h inv same other inner = record {
  read = λ r s y e.
      let a = bind_ok (f r) (λ x. Ok (h x.0, x.1)) (y, s) e in
      let one = inner.read r a.0.1 a.0.0 a.1 in
      let back : inv (h a.0.0) ≡ a.0.0 = other a.0.0 in
      subst (λ (z : B × Reading). (r.words ≡ u (inv z.0) ++ z.1.words) × P (inv z.0)) (ok_is (h a.0.0, a.0.1) (y, s) a.2)
      (subst (λ (x : A). (r.words ≡ u x ++ a.0.1.words) × P x) (sym back) one);
  back = λ y good r rest left.
      let a = inner.back (inv y) good r rest left in
      (a.0, ap (λ (x : Result (A × Reading) ℕ). x >>= λ z. done (h z.0, z.1)) a.1 ∙ ap (λ (z : B). done (z, a.0)) (same y), a.2);
}

-- the same, where what is good is said otherwise
pub exact_so : {A : Type 0} {f : Step A} {u : A → List (List ℕ)} {P : A → Type 0} (Q : A → Type 0) → ((x : A) → P x → Q x) → ((x : A) → Q x → P x) → Exact f u P → Exact f u Q
exact_so Q there back inner = record {
  read = λ r s x e. let one = inner.read r s x e in (one.0, there x one.1);
  back = λ x good r rest left. inner.back x (back x good) r rest left;
}

-- ---- what stands behind a word that says what it is

-- one of several kinds of things, by its words, where the step behind its first word reads it
pub read_as : {A B : Type 0} {f : Step A} {u : A → List (List ℕ)} {P : A → Type 0} → Exact f u P
    → (h : A → B) (words : B → List (List ℕ)) (Is : B → Type 0) (word : List ℕ) → ((x : A) → words (h x) ≡ word ∷ u x) → ((x : A) → P x → Is (h x))
    → (before : List (List ℕ)) (t s : Reading) (y : B) → before ≡ word ∷ t.words → made h f t ≡ Ok (y, s) → (before ≡ words y ++ s.words) × Is y
read_as {f = f} {u = u} {P = P} inner h words Is word spelled is before t s y head e =
    let a = bind_ok (f t) (λ x. Ok (h x.0, x.1)) (y, s) e in
    let one = inner.read t a.0.1 a.0.0 a.1 in
    let whole : before ≡ words (h a.0.0) ++ a.0.1.words = head ∙ ap (λ (w : Texts). word ∷ w) one.0 ∙ ap (λ (w : Texts). w ++ a.0.1.words) (sym (spelled a.0.0)) in
    subst (λ (z : _ × Reading). (before ≡ words z.0 ++ z.1.words) × Is z.0) (ok_is (h a.0.0, a.0.1) (y, s) a.2) (whole, is a.0.0 one.1)

pub chosen_ok : {A K : Type 0} (kind : List ℕ → Option K) (behind : K → Step A) (r s : Reading) (y : A) → chosen kind behind r ≡ Ok (y, s)
    → (word : List ℕ) × (k : K) × (t : Reading) × (kind word ≡ Some k) × (r.words ≡ word ∷ t.words) × (behind k t ≡ Ok (y, s))
chosen_ok kind behind r s y e =
    let a = bind_ok (token_at kind r) (λ k. behind k.0 k.1) (y, s) e in
    let t = token_ok kind r.place r.words a.0.0 a.0.1 a.1 in
    (t.0, a.0.0, a.0.1, t.2, t.1, a.2)

pub back_as : {A B K : Type 0} (kind : List ℕ → Option K) (behind : K → Step B) (k : K) (word : List ℕ) {f : Step A} {u : A → List (List ℕ)} {P : A → Type 0} → Exact f u P
    → (h : A → B) → ((t : Reading) → behind k t ≡ made h f t) → kind word ≡ Some k
    → (x : A) → P x → (r : Reading) (rest : List (List ℕ)) → r.words ≡ word ∷ (u x ++ rest) → (s : Reading) × (chosen kind behind r ≡ Ok (h x, s)) × (s.words ≡ rest)
back_as kind behind k word {f = f} {u = u} {P = P} inner h is_made is x good r rest left =
    let t = token_back kind r word (u x ++ rest) k left is in
    let a = inner.back x good t.0 rest t.2 in
    (a.0, ap (λ (z : Result (_ × Reading) ℕ). z >>= λ y. behind y.0 y.1) t.1 ∙ is_made t.0 ∙ ap (λ (z : Result (_ × Reading) ℕ). z >>= λ y. done (h y.0, y.1)) a.1, a.2)

pub same_word : (a b : List ℕ) → bytes_eq a b ≡ true → a ≡ b
same_word a b e = (bytes_eq-Decides a b).0 e

pub either_ok : {K : Type 0} (b : Bool) (x y : K) (others : Option K) → cond b (Some x) others ≡ Some y → ((b ≡ true) × (x ≡ y)) ⊎ (others ≡ Some y)
either_ok true x y others e = inl (refl, cc)
either_ok false x y others e = inr e

-- the word that was found among several is that of what it is
pub among_is : {K : Type 0} (text : K → List ℕ) (ks : List K) (word : List ℕ) (k : K) → among text ks word ≡ Some k → word ≡ text k
among_is text [] word k e = absurd cc
among_is text (x ∷ xs) word k e =
    elim (either_ok (bytes_eq word (text x)) x k (among text xs word) e) [
      | inl p ↦ same_word word (text x) p.0 ∙ ap text p.1
      | inr others ↦ among_is text xs word k others
    ]

-- ---- all of a text

pub no_more : {A : Type 0} (x y : A) (place : ℕ) (words : Texts) → ended x place words ≡ Ok y → (words ≡ []) × (x ≡ y)
no_more x y place [] e = (refl, ok_is x y e)
no_more x y place (word ∷ rest) e = absurd cc

append_nothing : (a b : Texts) → b ≡ [] → a ++ b ≡ a
append_nothing a b e = ap (λ (t : Texts). a ++ t) e ∙ append-nil a

-- what is read of a whole text is spelled by its words, and what its words spell is read
pub whole_read : {A : Type 0} {step : Step A} {u : A → List (List ℕ)} {P : A → Type 0} → Exact step u P
    → (text : List ℕ) (x : A) → whole step text ≡ Ok x → (parts text ≡ u x) × P x
whole_read {step = step} {u = u} {P = P} inner text x e =
    let a = bind_ok (step (reading_of text)) (λ y. ended y.0 y.1.place y.1.words) x e in
    let one = inner.read (reading_of text) a.0.1 a.0.0 a.1 in
    let last = no_more a.0.0 x a.0.1.place a.0.1.words a.2 in
    subst (λ (y : _). (parts text ≡ u y) × P y) last.1 (one.0 ∙ append_nothing (u a.0.0) a.0.1.words last.0, one.1)

pub whole_back : {A : Type 0} {step : Step A} {u : A → List (List ℕ)} {P : A → Type 0} → Exact step u P
    → (text : List ℕ) (x : A) → P x → parts text ≡ u x → whole step text ≡ Ok x
whole_back {step = step} {u = u} {P = P} inner text x good words =
    let a = inner.back x good (reading_of text) [] (words ∙ sym (append_nothing (u x) [] refl)) in
    ap (λ (r : Result (_ × Reading) ℕ). r >>= λ y. ended y.0 y.1.place y.1.words) a.1 ∙ ap (ended x a.0.place) a.2
