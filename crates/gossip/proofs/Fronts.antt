-- What was appended so far is a front of all that is to be appended.
use Rattle.std.proofs.Common.{◌≡◌, ℕ, zero, suc, ◌+◌, ◌-◌, ◌<◌, ◌≤◌, min, Bool, true, false, cond, List, [], ◌∷◌, ◌++◌, length, get_or, take, drop, map, filter, refl, ap, sym, ◌∙◌, append_assoc, append-nil, add-one, arith, Result, Ok, Err, OnErr}
use Rattle.std.specs.Prelude.{◌&&◌}
use Rattle.std.specs.List.{flat_map}
use Rattle.std.proofs.Math.Seq.{take-suc, drop-cons, take-append_seam, take-append-add}
use Rattle.std.proofs.lemmas.List.{take-append-drop, take-append-le, take_min, map-append}
use Rattle.std.proofs.lemmas.List.Elements.{filter-append}
use Rattle.std.proofs.lemmas.Grind.{flat_map-append}
use Rattle.ff_ids.specs.declared.summary.SummaryEntry.{SummaryEntry}
use Rattle.ff_ids.specs.declared.summary.RecordKey.{RecordKey}
use Rattle.ff_ids.specs.declared.summary.RecordKey.TheVariants.{Accusation}
use Rattle.ff_ids.specs.Masks.{enables, enabled}
use Rattle.ff_ids.proofs.MaskLemmas.{enabled-push}
use Rattle.gossip.specs.Differ.{entry_of, keys_against, rings_lacking, accusations_lacking, IsFront}

-- What was appended is the first of two parts.
pub front_of : (held left now later coming : List RecordKey) → left ≡ held ++ now → coming ≡ now ++ later → IsFront held left coming
front_of held left now later coming grown whole =
    record { count = length now; grown = grown ∙ ap (λ (t : List RecordKey). held ++ t) (sym (ap (take (length now)) whole ∙ take-append_seam now later)) }

-- What was appended is the first part, and a front of the second.
pub front_behind : (held middle left now later coming : List RecordKey) → middle ≡ held ++ now → coming ≡ now ++ later → IsFront middle left later → IsFront held left coming
front_behind held middle left now later coming first whole f =
    record {
      count = length now + f.count;
      grown = f.grown ∙ ap (λ (t : List RecordKey). t ++ take f.count later) first ∙ append_assoc held now (take f.count later) ∙ ap (λ (t : List RecordKey). held ++ t) (sym (ap (take (length now + f.count)) whole ∙ take-append-add now later f.count));
    }

-- A front stays one where more is to come.
pub front_before : (held left now later coming : List RecordKey) → coming ≡ now ++ later → IsFront held left now → IsFront held left coming
front_before held left now later coming whole f =
    let few : min f.count (length now) ≤ length now = omega arith in
    let same : take (min f.count (length now)) coming ≡ take f.count now = ap (take (min f.count (length now))) whole ∙ take-append-le (min f.count (length now)) now later few ∙ take_min f.count now in
    record { count = min f.count (length now); grown = f.grown ∙ ap (λ (t : List RecordKey). held ++ t) (sym same) }

pub picked : (p : SummaryEntry → Bool) (key : SummaryEntry → RecordKey) (i : ℕ) (es : List SummaryEntry) → map key (filter p es) ≡ map key (filter p (take i es)) ++ map key (filter p (drop i es))
picked p key i es = ap (λ (t : List SummaryEntry). map key (filter p t)) (sym (take-append-drop i es)) ∙ ap (map key) (filter-append p (take i es) (drop i es)) ∙ map-append key (filter p (take i es)) (filter p (drop i es))

pub gathered : (keys : SummaryEntry → List RecordKey) (i : ℕ) (es : List SummaryEntry) → flat_map keys es ≡ flat_map keys (take i es) ++ flat_map keys (drop i es)
gathered keys i es = ap (flat_map keys) (sym (take-append-drop i es)) ∙ flat_map-append keys (take i es) (drop i es)

-- one more entry, whose accusations were appended
pub accused_more : (held before after : List RecordKey) (mine theirs : List SummaryEntry) (i : ℕ) (e : SummaryEntry) → i < length mine → e ≡ get_or mine i e → before ≡ held ++ accusations_lacking (take i mine) theirs → after ≡ before ++ rings_lacking (entry_of theirs e.member) e → after ≡ held ++ accusations_lacking (take (i + 1) mine) theirs
accused_more held before after mine theirs i e below here so_far grown =
    let keys : SummaryEntry → List RecordKey = λ x. rings_lacking (entry_of theirs x.member) x in
    let longer : take (i + 1) mine ≡ take i mine ++ e ∷ [] = ap (λ (n : ℕ). take n mine) (add-one i) ∙ take-suc mine i e below ∙ ap (λ x. take i mine ++ x ∷ []) (sym here) in
    let all : accusations_lacking (take (i + 1) mine) theirs ≡ accusations_lacking (take i mine) theirs ++ keys e =
    ap (flat_map keys) longer ∙ flat_map-append keys (take i mine) (e ∷ []) ∙ ap (λ (t : List RecordKey). accusations_lacking (take i mine) theirs ++ t) (append-nil (keys e)) in
    grown ∙ ap (λ (t : List RecordKey). t ++ keys e) so_far ∙ append_assoc held (accusations_lacking (take i mine) theirs) (keys e) ∙ ap (λ (t : List RecordKey). held ++ t) (sym all)

-- some of the accusations of one more entry were appended
pub accused_front : (held before left : List RecordKey) (mine theirs : List SummaryEntry) (i : ℕ) (e : SummaryEntry) → i < length mine → e ≡ get_or mine i e → before ≡ held ++ accusations_lacking (take i mine) theirs → IsFront before left (rings_lacking (entry_of theirs e.member) e) → IsFront held left (accusations_lacking mine theirs)
accused_front held before left mine theirs i e below here so_far f =
    let keys : SummaryEntry → List RecordKey = λ x. rings_lacking (entry_of theirs x.member) x in
    let next : drop i mine ≡ e ∷ drop (suc i) mine = drop-cons mine i e below ∙ ap (λ x. x ∷ drop (suc i) mine) (sym here) in
    front_behind held before left (flat_map keys (take i mine)) (flat_map keys (drop i mine)) (accusations_lacking mine theirs) so_far (gathered keys i mine)
    (front_before before left (keys e) (flat_map keys (drop (suc i) mine)) (flat_map keys (drop i mine)) (ap (flat_map keys) next) f)

-- what holds anyway holds after an error
pub anyway : {T E P : Type 0} (r : Result T E) → P → OnErr r P
anyway (Ok x) p = tt
anyway (Err e) p = p

-- one more ring, whose accusation is wanted or isn't
pub rings_more : (member mask n : ℕ) (test : ℕ → Bool) → keys_against member (filter test (enabled (n + 1) mask)) ≡ keys_against member (filter test (enabled n mask)) ++ cond (enables mask n && test n) (Accusation member (record { 0 = n }) ∷ []) []
rings_more member mask n test =
    ap (λ (rs : List ℕ). keys_against member (filter test rs)) (enabled-push n mask)
    ∙ ap (keys_against member) (filter-append test (enabled n mask) (cond (enables mask n) (n ∷ []) []))
    ∙ map-append (λ r. Accusation member (record { 0 = r })) (filter test (enabled n mask)) (filter test (cond (enables mask n) (n ∷ []) []))
    ∙ ap (λ (ks : List RecordKey). keys_against member (filter test (enabled n mask)) ++ ks) (one_or_none (enables mask n))
  where
    one_or_none : (b : Bool) → keys_against member (filter test (cond b (n ∷ []) [])) ≡ cond (b && test n) (Accusation member (record { 0 = n }) ∷ []) []
    one_or_none false = refl
    one_or_none true = wanted (test n)
      where
        wanted : (t : Bool) → keys_against member (cond t (n ∷ []) []) ≡ cond t (Accusation member (record { 0 = n }) ∷ []) []
        wanted true = refl
        wanted false = refl

-- a ring was appended where it is wanted
pub ring_pushed : (held before after : List RecordKey) (member mask n : ℕ) (test : ℕ → Bool) (b : Bool) → b ≡ (enables mask n && test n) → before ≡ held ++ keys_against member (filter test (enabled n mask)) → after ≡ before ++ cond b (Accusation member (record { 0 = n }) ∷ []) [] → after ≡ held ++ keys_against member (filter test (enabled (n + 1) mask))
ring_pushed held before after member mask n test b wanted so_far grown =
    let one : List RecordKey = Accusation member (record { 0 = n }) ∷ [] in
    let kept : List RecordKey = keys_against member (filter test (enabled n mask)) in
    grown ∙ ap (λ (t : List RecordKey). t ++ cond b one []) so_far ∙ append_assoc held kept (cond b one [])
    ∙ ap (λ (t : List RecordKey). held ++ t) (ap (λ c. kept ++ cond c one []) wanted ∙ sym (rings_more member mask n test))

-- The whole is the front and a rest.
record HasRest (front whole : List ℕ) : Type 0 where
  rest : List ℕ
  is : whole ≡ front ++ rest

enabled-rest : (mask n d : ℕ) → HasRest (enabled n mask) (enabled (n + d) mask)
enabled-rest mask n zero =
    let same : n + 0 ≡ n = omega arith in
    record { rest = []; is = ap (λ (j : ℕ). enabled j mask) same ∙ sym (append-nil (enabled n mask)) }
enabled-rest mask n (suc d) =
    let before = enabled-rest mask n d in
    let next : n + suc d ≡ n + d + 1 = omega arith in
    let last : List ℕ = cond (enables mask (n + d)) ((n + d) ∷ []) [] in
    record {
      rest = before.rest ++ last;
      is = ap (λ (k : ℕ). enabled k mask) next ∙ enabled-push (n + d) mask ∙ ap (λ (rs : List ℕ). rs ++ last) before.is ∙ append_assoc (enabled n mask) before.rest last;
    }

-- the rings up to one are a front of all
pub rings_front : (held left : List RecordKey) (member mask n k : ℕ) (test : ℕ → Bool) → n ≤ k → left ≡ held ++ keys_against member (filter test (enabled n mask)) → IsFront held left (keys_against member (filter test (enabled k mask)))
rings_front held left member mask n k test le so_far =
    let all : n + (k - n) ≡ k = omega arith in
    let r = enabled-rest mask n (k - n) in
    front_of held left (keys_against member (filter test (enabled n mask))) (keys_against member (filter test r.rest)) (keys_against member (filter test (enabled k mask))) so_far
    (ap (λ (j : ℕ). keys_against member (filter test (enabled j mask))) (sym all) ∙ ap (λ (rs : List ℕ). keys_against member (filter test rs)) r.is
    ∙ ap (keys_against member) (filter-append test (enabled n mask) r.rest) ∙ map-append (λ x. Accusation member (record { 0 = x })) (filter test (enabled n mask)) (filter test r.rest))
