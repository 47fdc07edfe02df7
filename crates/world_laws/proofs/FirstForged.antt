-- What is found to be forged is the first forged record, for the first of those for whom it is.
use Rattle.std.proofs.Common.{◌≡◌, ℕ, zero, suc, ◌+◌, ◌<◌, ◌≤◌, Bool, true, false, not, eqb, List, [], ◌∷◌, ◌++◌, Option, Some, None, inl, inr, refl, ap, sym, ◌∙◌, subst, map, filter, arith}
use Rattle.std.specs.Prelude.{◌&&◌, ◌||◌, filter_map, find, option_map, Result, Ok}
use Rattle.std.specs.List.{AllByRecursion, list_any, range_with_len}
use Rattle.std.specs.Option.{option_or}
use Rattle.std.proofs.lemmas.Bool.{and_from, and_parts, cases_Bool, cond_both, false≢true, not-true}
use Rattle.ff_ids.specs.Views.{all_numbers}
use Rattle.life_laws.proofs.Lists.{In, In-from_filter, In-from_map}
use Rattle.membership.proofs.NumberLemmas.{all_length}
use Rattle.records.specs.declared.Body.{Body}
use Rattle.records.specs.declared.Record.{Record}
use Rattle.datagram.specs.declared.Datagram.{Datagram}
use Rattle.datagram.specs.declared.Datagram.TheVariants as kinds
use Rattle.datagram.specs.Grammar.{read_of}
use Rattle.signer.specs.Lives.{Spent}
use Rattle.node_rules.specs.OnRings.{Rises}
use Rattle.node_rules.proofs.RingLemmas.{rises-lower}
use Rattle.world_rules.specs.Settings.{Owner, Setting, Signed, is_node, nodes, same_body, same_owner}
use Rattle.world_rules.specs.Worlds.{World, spent_if_by, spent_of}
use Rattle.world_rules.specs.Forgeries.{Forgery, first_forgery, forgery, forgery_by, forgery_in, is_forged_for, protected}
use Rattle.world_rules.specs.Laws.{IsSetting}
use Rattle.world_rules.proofs.OnDisks.{chosen, other}
use Rattle.world_laws.specs.Forged.{ComesBefore, ForgeriesAreFirst, IsFirstForged, IsForgedFor, IsProtected, IsUnforged}
use Rattle.world_laws.proofs.Signed.{node-protected, none-found}

-- ---- what was signed with a key

signed-spent : (who : Owner) (body : Body) (signed : List Signed) → list_any (λ x. same_owner x.who who && same_body x.body body) signed ≡ list_any (λ (x : Spent). same_body x.body body) (filter_map (spent_if_by who) signed)
signed-spent who body [] = refl
signed-spent who body (x ∷ signed) =
    elim (cases_Bool (same_owner x.who who)) [
      | inl its ↦ rw its (ap (λ b. same_body x.body body || b) (signed-spent who body signed))
      | inr differs ↦ rw differs (signed-spent who body signed)
    ]

none-passes : {X : Type 0} (p : X → Bool) (xs : List X) → list_any p xs ≡ false → AllByRecursion (λ x. p x ≡ false) xs
none-passes p [] h = tt
none-passes p (x ∷ xs) h =
    elim (cases_Bool (p x)) [
      | inl passes ↦ absurd (false≢true (sym h ∙ ap (λ b. b || list_any p xs) passes))
      | inr fails ↦ (fails, none-passes p xs (sym (ap (λ b. b || list_any p xs) fails) ∙ h))
    ]

passes-none : {X : Type 0} (p : X → Bool) (xs : List X) → AllByRecursion (λ x. p x ≡ false) xs → list_any p xs ≡ false
passes-none p [] h = refl
passes-none p (x ∷ xs) h = ap (λ b. b || list_any p xs) h.0 ∙ passes-none p xs h.1

-- The test of a record is whether it is forged for the owner.
forged-from : (s : Setting) (w : World) (r : Record) (who : Owner) → IsProtected s who → is_forged_for s w r who ≡ true → IsForgedFor s w r who
forged-from s w r who kept h =
    let parts = and_parts _ _ h in
    record {
      protected = kept;
      verifies = parts.0;
      unsigned = none-passes (λ (x : Spent). same_body x.body r.body) (spent_of w who) (sym (signed-spent who r.body w.signed) ∙ not-true _ parts.1);
    }

forged-test : (s : Setting) (w : World) (r : Record) (who : Owner) → IsForgedFor s w r who → is_forged_for s w r who ≡ true
forged-test s w r who h =
    and_from _ _ h.verifies (ap not (signed-spent who r.body w.signed ∙ passes-none (λ (x : Spent). same_body x.body r.body) (spent_of w who) h.unsigned))

unforged-test : (s : Setting) (w : World) (r : Record) (who : Owner) → IsProtected s who → ¬ (IsForgedFor s w r who) → is_forged_for s w r who ≡ false
unforged-test s w r who kept never =
    elim (cases_Bool (is_forged_for s w r who)) [
      | inl passes ↦ absurd (never (forged-from s w r who kept passes))
      | inr fine ↦ fine
    ]

-- ---- those for whom nobody else may sign

rises-range : (p : ℕ → Bool) (from n : ℕ) → Rises from (filter p (range_with_len from n))
rises-range p from zero = tt
rises-range p from (suc n) =
    let rest : List ℕ = filter p (range_with_len (from + 1) n) in
    cond_both (p from) (from ∷ rest) rest (Rises from) (λ yes. (omega arith, rises-range p (from + 1) n)) (λ no. rises-lower (from + 1) from rest (omega arith) (rises-range p (from + 1) n))

nodes-rise : (s : Setting) → Rises 0 (nodes s)
unfolding nodes
nodes-rise s =
    let p : ℕ → Bool = λ m. list_any (λ x. eqb x m) s.correct in
    subst (λ xs. Rises 0 (filter p xs)) (sym all_length.1.are) (rises-range p 0 all_length.0)

listed-node : (s : Setting) (m : ℕ) → In (nodes s) m → is_node s m ≡ true
unfolding nodes
listed-node s m i = (In-from_filter (λ k. list_any (λ x. eqb x k) s.correct) all_numbers m i).1

some-same : (x y : ℕ) → Some x ≡ Some y → x ≡ y
some-same x y e = cc

protected-is : (s : Setting) (who : Owner) → In (protected s) who → IsProtected s who
protected-is s None i = tt
protected-is s (Some m) (inl e) = cc
protected-is s (Some m) (inr i) = let x = In-from_map (λ k. Some k) (nodes s) (Some m) i in listed-node s m (subst (In (nodes s)) (some-same x.0 m x.1.1) x.1.0)

is-protected : (s : Setting) (who : Owner) → IsSetting s → IsProtected s who → In (protected s) who
is-protected s None fits kept = inl refl
is-protected s (Some m) fits kept = node-protected s m fits kept

-- ---- the first of them that passes

rises-in : (low : ℕ) (ms : List ℕ) (k : ℕ) → Rises low ms → In ms k → low ≤ k
rises-in low [] k rise i = absurd i
rises-in low (m ∷ ms) k rise (inl e) = omega (arith, rise.0, e)
rises-in low (m ∷ ms) k rise (inr i) = let later = rises-in (m + 1) ms k rise.1 i in omega (arith, rise.0, later)

-- The number passes, and none before it does.
record IsLeast (p : Owner → Bool) (ms : List ℕ) (n : ℕ) : Type 0 where
  among : In ms n
  passes : p (Some n) ≡ true
  least : (k : ℕ) → In ms k → k < n → p (Some k) ≡ false

least-here : (p : Owner → Bool) (m : ℕ) (ms : List ℕ) → Rises (m + 1) ms → p (Some m) ≡ true → IsLeast p (m ∷ ms) m
least-here p m ms rise passes =
    record {
      among = inl refl;
      passes = passes;
      least = λ k i less. elim i [
        | inl e ↦ absurd (omega (arith, e, less))
        | inr j ↦ absurd (omega (arith, less, rises-in (m + 1) ms k rise j))
      ];
    }

least-later : (p : Owner → Bool) (m n : ℕ) (ms : List ℕ) → p (Some m) ≡ false → IsLeast p ms n → IsLeast p (m ∷ ms) n
least-later p m n ms fails h =
    record {
      among = inr h.among;
      passes = h.passes;
      least = λ k i less. elim i [
        | inl e ↦ subst (λ z. p (Some z) ≡ false) e fails
        | inr j ↦ h.least k j less
      ];
    }

owner-same : (x y : Owner) → Some x ≡ Some y → x ≡ y
owner-same x y e = cc

-- Who is found among the nodes.
record FoundNode (p : Owner → Bool) (ms : List ℕ) (who : Owner) : Type 0 where
  number : ℕ
  is : who ≡ Some number
  least : IsLeast p ms number

found-node : (p : Owner → Bool) (low : ℕ) (ms : List ℕ) (who : Owner) → Rises low ms → find p (map (λ k. Some k) ms) ≡ Some who → FoundNode p ms who
found-node p low [] who rise e = cc
found-node p low (m ∷ ms) who rise e =
    elim (cases_Bool (p (Some m))) [
      | inl passes ↦
          record { number = m; is = sym (owner-same (Some m) who (sym (chosen (p (Some m)) (Some (Some m)) (find p (map (λ k. Some k) ms)) passes) ∙ e)); least = least-here p m ms rise.1 passes }
      | inr fails ↦
          let x : FoundNode p ms who = found-node p (m + 1) ms who rise.1 (sym (other (p (Some m)) (Some (Some m)) (find p (map (λ k. Some k) ms)) fails) ∙ e) in
          record { number = x.number; is = x.is; least = least-later p m x.number ms fails x.least }
    ]

finds-node : (p : Owner → Bool) (low : ℕ) (ms : List ℕ) (n : ℕ) → Rises low ms → IsLeast p ms n → find p (map (λ k. Some k) ms) ≡ Some (Some n)
finds-node p low [] n rise h = absurd h.among
finds-node p low (m ∷ ms) n rise h =
    elim h.among [
      | inl e ↦ chosen (p (Some m)) (Some (Some m)) (find p (map (λ k. Some k) ms)) (subst (λ z. p (Some z) ≡ true) (sym e) h.passes) ∙ ap (λ z. Some (Some z)) e
      | inr i ↦
          let less : m < n = omega (arith, rises-in (m + 1) ms n rise.1 i) in
          other (p (Some m)) (Some (Some m)) (find p (map (λ k. Some k) ms)) (h.least m (inl refl) less)
          ∙ finds-node p (m + 1) ms n rise.1 (record { among = i; passes = h.passes; least = λ k j fewer. h.least k (inr j) fewer })
    ]

-- ---- one record

-- The record is forged for this one, and for nobody before.
record IsForgedFirst (s : Setting) (w : World) (r : Record) (who : Owner) : Type 0 where
  is_forged : IsForgedFor s w r who
  first : (before : Owner) → ComesBefore before who → ¬ (IsForgedFor s w r before)

not-forged : (s : Setting) (w : World) (r : Record) (who : Owner) → is_forged_for s w r who ≡ false → ¬ (IsForgedFor s w r who)
not-forged s w r who fine h = false≢true (sym fine ∙ forged-test s w r who h)

first-node : (s : Setting) (w : World) (r : Record) (n : ℕ) → IsSetting s → is_forged_for s w r None ≡ false → IsLeast (is_forged_for s w r) (nodes s) n → IsForgedFirst s w r (Some n)
first-node s w r n fits fine h = record { is_forged = forged-from s w r (Some n) (listed-node s n h.among) h.passes; first = first }
  where
    node-in : (k : ℕ) → In (protected s) (Some k) → In (nodes s) k
    node-in k (inl e) = cc
    node-in k (inr i) = let x = In-from_map (λ j. Some j) (nodes s) (Some k) i in subst (In (nodes s)) (some-same x.0 k x.1.1) x.1.0

    first : (before : Owner) → ComesBefore before (Some n) → ¬ (IsForgedFor s w r before)
    first None less forged = not-forged s w r None fine forged
    first (Some k) less forged = not-forged s w r (Some k) (h.least k (node-in k (node-protected s k fits forged.protected)) less) forged

found-first : (s : Setting) (w : World) (r : Record) (who : Owner) → IsSetting s → find (is_forged_for s w r) (protected s) ≡ Some who → IsForgedFirst s w r who
found-first s w r who fits e =
    let p : Owner → Bool = is_forged_for s w r in
    elim (cases_Bool (p None)) [
      | inl passes ↦
          subst (IsForgedFirst s w r) (owner-same None who (sym (chosen (p None) (Some None) (find p (map (λ k. Some k) (nodes s))) passes) ∙ e))
          (record { is_forged = forged-from s w r None tt passes; first = λ before less. absurd (none-before before less) })
      | inr fails ↦
          let x : FoundNode p (nodes s) who = found-node p 0 (nodes s) who (nodes-rise s) (sym (other (p None) (Some None) (find p (map (λ k. Some k) (nodes s))) fails) ∙ e) in
          subst (IsForgedFirst s w r) (sym x.is) (first-node s w r x.number fits fails x.least)
    ]
  where
    none-before : (before : Owner) → ComesBefore before None → ⊥
    none-before None less = less
    none-before (Some k) less = less

first-found : (s : Setting) (w : World) (r : Record) (who : Owner) → IsSetting s → IsForgedFirst s w r who → find (is_forged_for s w r) (protected s) ≡ Some who
first-found s w r None fits h = chosen (is_forged_for s w r None) (Some None) _ (forged-test s w r None h.is_forged)
first-found s w r (Some n) fits h =
    let p : Owner → Bool = is_forged_for s w r in
    other (p None) (Some None) _ (unforged-test s w r None tt (h.first None tt))
    ∙ finds-node p 0 (nodes s) n (nodes-rise s) (record {
      among = node-in n (node-protected s n fits h.is_forged.protected);
      passes = forged-test s w r (Some n) h.is_forged;
      least = λ k i less. unforged-test s w r (Some k) (listed-node s k i) (h.first (Some k) less);
    })
  where
    node-in : (k : ℕ) → In (protected s) (Some k) → In (nodes s) k
    node-in k (inl e) = cc
    node-in k (inr i) = let x = In-from_map (λ j. Some j) (nodes s) (Some k) i in subst (In (nodes s)) (some-same x.0 k x.1.1) x.1.0

unforged-from : (s : Setting) (w : World) (r : Record) → IsSetting s → find (is_forged_for s w r) (protected s) ≡ None → IsUnforged s w r
unforged-from s w r fits none who h =
    not-forged s w r who (none-found (is_forged_for s w r) (protected s) who none (is-protected s who fits h.protected)) h

none-finds : {X : Type 0} (p : X → Bool) (xs : List X) → ((x : X) → In xs x → p x ≡ false) → find p xs ≡ None
none-finds p [] h = refl
none-finds p (x ∷ xs) h = other (p x) (Some x) (find p xs) (h x (inl refl)) ∙ none-finds p xs (λ y i. h y (inr i))

unforged-none : (s : Setting) (w : World) (r : Record) → IsUnforged s w r → forgery_by s w r ≡ None
unforged-none s w r fine =
    ap (option_map (λ who. let f : Forgery = record { who = who; body = r.body } in f)) (none-finds (is_forged_for s w r) (protected s) (λ who i. unforged-test s w r who (protected-is s who i) (fine who)))

-- ---- the records of a datagram

-- Among these records.
record FirstAmong (s : Setting) (w : World) (records : List Record) (f : Forgery) : Type 0 where
  before : List Record
  forged : Record
  behind : List Record
  split : records ≡ before ++ forged ∷ behind
  none_before : AllByRecursion (IsUnforged s w) before
  is_first : IsForgedFirst s w forged f.who
  says : f.body ≡ forged.body

among-here : (s : Setting) (w : World) (r : Record) (records : List Record) (o : Option Owner) (f : Forgery) → IsSetting s → find (is_forged_for s w r) (protected s) ≡ o
    → option_or (option_map (λ who. record { who = who; body = r.body }) o) (first_forgery s w records) ≡ Some f → (first_forgery s w records ≡ Some f → FirstAmong s w records f) → FirstAmong s w (r ∷ records) f
among-here s w r records None f fits is e later =
    let x : FirstAmong s w records f = later e in
    record { before = r ∷ x.before; forged = x.forged; behind = x.behind; split = ap (λ rs. r ∷ rs) x.split; none_before = (unforged-from s w r fits is, x.none_before); is_first = x.is_first; says = x.says }
among-here s w r records (Some who) f fits is e later =
    let same = forgery-same (record { who = who; body = r.body }) f e in
    record {
      before = [];
      forged = r;
      behind = records;
      split = refl;
      none_before = tt;
      is_first = subst (IsForgedFirst s w r) (ap (λ (x : Forgery). x.who) same) (found-first s w r who fits is);
      says = sym (ap (λ (x : Forgery). x.body) same);
    }
  where
    forgery-same : (x y : Forgery) → Some x ≡ Some y → x ≡ y
    forgery-same x y e = cc

among-records : (s : Setting) (w : World) (records : List Record) (f : Forgery) → IsSetting s → first_forgery s w records ≡ Some f → FirstAmong s w records f
among-records s w [] f fits e = cc
among-records s w (r ∷ records) f fits e = among-here s w r records (find (is_forged_for s w r) (protected s)) f fits refl e (λ later. among-records s w records f fits later)

-- Those of the datagram.
first-forged : (s : Setting) (w : World) (bytes : List ℕ) (heard : Result Datagram ℕ) (f : Forgery) → IsSetting s → read_of bytes ≡ heard → forgery_in s w heard ≡ Some f → IsFirstForged s w bytes f
first-forged s w bytes (Ok (kinds.Records from records)) f fits read e =
    let x : FirstAmong s w records f = among-records s w records f fits e in
    record {
      from = from;
      before = x.before;
      forged = x.forged;
      behind = x.behind;
      read = read ∙ ap (λ rs. Ok (kinds.Records from rs)) x.split;
      none_before = x.none_before;
      is_forged = x.is_first.is_forged;
      first = x.is_first.first;
      says = x.says;
    }
first-forged s w bytes _ f fits read e = cc

skips : (s : Setting) (w : World) (before rest : List Record) → AllByRecursion (IsUnforged s w) before → first_forgery s w (before ++ rest) ≡ first_forgery s w rest
skips s w [] rest h = refl
skips s w (r ∷ before) rest h = ap (λ o. option_or o (first_forgery s w (before ++ rest))) (unforged-none s w r h.0) ∙ skips s w before rest h.1

forged-first : (s : Setting) (w : World) (bytes : List ℕ) (f : Forgery) → IsSetting s → IsFirstForged s w bytes f → forgery s w bytes ≡ Some f
unfolding forgery
forged-first s w bytes f fits h =
    let found : find (is_forged_for s w h.forged) (protected s) ≡ Some f.who = first-found s w h.forged f.who fits (record { is_forged = h.is_forged; first = h.first }) in
    let by : forgery_by s w h.forged ≡ Some (record { who = f.who; body = h.forged.body }) = ap (option_map (λ who. let x : Forgery = record { who = who; body = h.forged.body } in x)) found in
    ap (forgery_in s w) h.read ∙ skips s w h.before (h.forged ∷ h.behind) h.none_before
    ∙ ap (λ o. option_or o (first_forgery s w h.behind)) by ∙ ap (λ b. let x : Option Forgery = Some (record { who = f.who; body = b }) in x) (sym h.says)

pub forgeries-first : ForgeriesAreFirst
unfolding forgery
forgeries-first s w bytes f fits = (λ e. first-forged s w bytes (read_of bytes) f fits refl e, λ h. forged-first s w bytes f fits h)
