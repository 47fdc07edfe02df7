-- What is given under names.
use Rattle.std.proofs.Common.{◌≡◌, ℕ, Bool, true, false, not, List, [], ◌∷◌, Option, Some, None, map, filter, inl, inr, refl, ap, sym, ◌∙◌, bytes_eq}
use Rattle.std.specs.Prelude.{is_some, find, Vec}
use Rattle.std.specs.Global.{Global}
use Rattle.std.specs.Option.{option_map}
use Rattle.std.specs.Map.{lookup}
use Rattle.std.proofs.lemmas.Bool.{cases_Bool, false≢true}
use Rattle.std.proofs.lemmas.Slice.Eq.{bytes_eq-Decides}
use Rattle.indexmap.specs.IndexMap.{insert_entry}
use Rattle.world_rules.specs.Steps.{given_bytes}
use Rattle.world_rules.specs.Worlds.{Named}
use Rattle.world.specs.declared.liar.Given.{Given}
use Rattle.world.specs.Holding.{given_under}

abbrev pub Entries : Type 0
Entries = List (Vec ℕ Global × Given)

abbrev pub entries_of : Entries → List (List ℕ × List ℕ)
entries_of es = map (λ p. (p.0.items, p.1.bytes)) es

pub some-mapped : {X Y : Type 0} (f : X → Y) (o : Option X) → is_some (option_map f o) ≡ is_some o
some-mapped f None = refl
some-mapped f (Some x) = refl

looked-up : (es : Entries) (name : List ℕ) → option_map (λ g. g.bytes) (lookup (λ k. bytes_eq name k.items) es) ≡ given_under (map (λ p. (p.0.items, p.1.bytes)) es) name
looked-up [] name = refl
looked-up (e ∷ es) name =
    elim (cases_Bool (bytes_eq name e.0.items)) [
      | inl here ↦ rw here refl
      | inr later ↦ rw later (looked-up es name)
    ]

pub look-up : (es : Entries) (name : List ℕ) (o : Option Given) → o ≡ lookup (λ k. bytes_eq name k.items) es → option_map (λ g. g.bytes) o ≡ given_under (map (λ p. (p.0.items, p.1.bytes)) es) name
look-up es name o is = ap (option_map (λ g. g.bytes)) is ∙ looked-up es name

-- ---- names that are the same

pub same-name : (a b : List ℕ) → bytes_eq a b ≡ true → a ≡ b
same-name a b is = (bytes_eq-Decides a b).0 is

apart-name : (a b c : List ℕ) → bytes_eq a b ≡ true → bytes_eq c b ≡ false → bytes_eq a c ≡ false
apart-name a b c is apart =
    elim (cases_Bool (bytes_eq a c)) [
      | inl same ↦ absurd (false≢true (sym apart ∙ (bytes_eq-Decides c b).1 (sym (same-name a c same) ∙ same-name a b is)))
      | inr other ↦ other
    ]

turned : (a b : List ℕ) (r : Bool) → bytes_eq a b ≡ r → bytes_eq b a ≡ r
turned a b true is = (bytes_eq-Decides b a).1 (sym (same-name a b is))
turned a b false is =
    elim (cases_Bool (bytes_eq b a)) [
      | inl same ↦ absurd (false≢true (sym is ∙ (bytes_eq-Decides a b).1 (sym (same-name b a same))))
      | inr other ↦ other
    ]

-- ---- what is kept

abbrev pub put : Entries → Vec ℕ Global → Given → Entries
put es k g = insert_entry (λ a b. bytes_eq a.items b.items) es k g

put-own : (es : Entries) (k : Vec ℕ Global) (g : Given) (name : List ℕ) → bytes_eq name k.items ≡ true → given_under (entries_of (put es k g)) name ≡ Some g.bytes
put-own [] k g name is = rw is refl
put-own (e ∷ es) k g name is =
    elim (cases_Bool (bytes_eq k.items e.0.items)) [
      | inl here ↦ rw here (rw (ap (λ (z : List ℕ). bytes_eq z e.0.items) (same-name name k.items is) ∙ here) refl)
      | inr later ↦ rw later (rw (ap (λ (z : List ℕ). bytes_eq z e.0.items) (same-name name k.items is) ∙ later) (put-own es k g name is))
    ]

put-others : (es : Entries) (k : Vec ℕ Global) (g : Given) (name : List ℕ) → bytes_eq name k.items ≡ false → given_under (entries_of (put es k g)) name ≡ given_under (entries_of es) name
put-others [] k g name apart = rw apart refl
put-others (e ∷ es) k g name apart =
    elim (cases_Bool (bytes_eq k.items e.0.items)) [
      | inl here ↦ rw here (rw (ap (λ (z : List ℕ). bytes_eq name z) (sym (same-name k.items e.0.items here)) ∙ apart) refl)
      | inr later ↦
          rw later (elim (cases_Bool (bytes_eq name e.0.items)) [ inl own ↦ rw own refl | inr on ↦ rw on (put-others es k g name apart) ])
    ]

-- ---- what is meant

abbrev found : List Named → List ℕ → Option Named
found named name = find (λ y. bytes_eq y.name name) named

kept-others : (x : Named) (named : List Named) (name : List ℕ) → bytes_eq name x.name ≡ false → found (filter (λ y. not (bytes_eq y.name x.name)) named) name ≡ found named name
kept-others x [] name apart = refl
kept-others x (y ∷ named) name apart =
    elim (cases_Bool (bytes_eq y.name x.name)) [
      | inl gone ↦ rw gone (rw (apart-name y.name x.name name gone apart) (kept-others x named name apart))
      | inr stays ↦ rw stays (elim (cases_Bool (bytes_eq y.name name)) [ inl own ↦ rw own refl | inr on ↦ rw on (kept-others x named name apart) ])
    ]

-- A record is put under its name, in the place of what was there.
pub put-named : (es : Entries) (k : Vec ℕ Global) (g : Given) (x : Named) (named : List Named) → k.items ≡ x.name → g.bytes ≡ given_bytes x
    → ((name : List ℕ) → given_under (entries_of es) name ≡ option_map given_bytes (found named name))
    → (name : List ℕ) → given_under (entries_of (put es k g)) name ≡ option_map given_bytes (found (x ∷ filter (λ y. not (bytes_eq y.name x.name)) named) name)
put-named es k g x named key bytes h name =
    elim (cases_Bool (bytes_eq name x.name)) [
      | inl own ↦
          let here : bytes_eq name k.items ≡ true = ap (λ (z : List ℕ). bytes_eq name z) key ∙ own in
          rw (turned name x.name true own) (put-own es k g name here ∙ ap (λ (z : List ℕ). Some z) bytes)
      | inr apart ↦
          let other : bytes_eq name k.items ≡ false = ap (λ (z : List ℕ). bytes_eq name z) key ∙ apart in
          rw (turned name x.name false apart) (put-others es k g name other ∙ h name ∙ ap (option_map given_bytes) (sym (kept-others x named name apart)))
    ]
