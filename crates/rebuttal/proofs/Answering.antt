-- The mask of the answer: good, without the ring, and exactly the rings that it should enable.
use Rattle.std.proofs.Common.{◌≡◌, ◌≢◌, ℕ, ◌+◌, ◌^◌, ◌<◌, ◌≤◌, ◌⊎◌, inl, inr, Bool, true, false, eqb, ltb, sym, ap, subst, ◌∙◌, arith, ◌↔◌}
use Rattle.std.proofs.lemmas.Bool.{cases_lt, cases_eq, and_parts, and_from, and_cases, ltb-true, ltb-false, lt-ltb, true≢false}
use Rattle.std.proofs.lemmas.Nat.{xor_lt, pow_below}
use Rattle.std.proofs.lemmas.Nat.Bits.{bit_at_above}
use Rattle.ff_ids.specs.Masks.{ring_count, enables, good_mask}
use Rattle.rebuttal.specs.Rebuttals.{disabled_count}
use Rattle.rebuttal.proofs.Switching.{switch, switch_other, switch_off, switch_on, count, one_more, all_counted, switched_off, switched_on}

-- ---- which rings the answer enables, as relations

-- The ring is the lowest-numbered one that the mask disables.
pub record IsLowestDisabled (mask ring : ℕ) : Type 0 where
  pub disabled : enables mask ring ≡ false
  pub lowest : (lower : ℕ) → lower < ring → enables mask lower ≡ true

-- The ring is enabled again: t rings are disabled already, and it is the lowest-numbered of those.
pub record IsEnabledAgain (t mask ring : ℕ) : Type 0 where
  pub no_more : disabled_count t mask ≡ t
  pub lowest : IsLowestDisabled mask ring

-- What the answer to an accusation on one ring enables: another ring, which was enabled or is enabled again.
pub record IsEnabledByAnswer (t mask accused_on ring : ℕ) : Type 0 where
  pub other : ring ≢ accused_on
  pub wanted : (enables mask ring ≡ true) ⊎ IsEnabledAgain t mask ring

pub clash : {A : Type 0} (b : Bool) → b ≡ true → b ≡ false → A
clash b on off = absurd (true≢false (sym on ∙ off))

-- A mask of w bits enables no ring from w on.
pub none_above : (mask w ring : ℕ) → mask < 2 ^ w → w ≤ ring → enables mask ring ≡ false
none_above mask w ring fits le = ap (λ b. eqb b 1) (bit_at_above mask w ring fits le)

-- What a good mask is.
pub record IsGood (t mask : ℕ) : Type 0 where
  pub fits : mask < 2 ^ ring_count t
  pub enough : t < count (ring_count t) mask

pub good_parts : (t mask : ℕ) → good_mask t mask ≡ true → IsGood t mask
good_parts t mask good =
    let p = and_parts (ltb mask (2 ^ ring_count t)) (ltb t (count (ring_count t) mask)) good in
    record { fits = ltb-true _ _ p.0; enough = ltb-true _ _ p.1 }

pub good_from : (t mask : ℕ) → IsGood t mask → good_mask t mask ≡ true
good_from t mask h = and_from _ _ (lt-ltb _ _ h.fits) (lt-ltb _ _ h.enough)

-- What is known where an answer is wanted.
pub record IsAsked (t mask ring : ℕ) : Type 0 where
  pub some : 1 ≤ t
  pub good : good_mask t mask ≡ true
  pub on : enables mask ring ≡ true

pub in_group : (t mask ring : ℕ) → IsAsked t mask ring → ring < ring_count t
in_group t mask ring h =
    elim (cases_lt ring (ring_count t)) [
      | inl lt ↦ lt
      | inr le ↦ clash _ h.on (none_above mask (ring_count t) ring (good_parts t mask h.good).fits le)
    ]

switch_fits : (k mask ring : ℕ) → mask < 2 ^ k → ring < k → switch mask ring < 2 ^ k
switch_fits k mask ring fits lt = xor_lt k mask (2 ^ ring) fits (pow_below ring k lt)

fewer : (t mask ring : ℕ) → IsAsked t mask ring → count (ring_count t) (switch mask ring) + 1 ≡ count (ring_count t) mask
fewer t mask ring h = one_more mask (switch mask ring) ring (ring_count t) (switched_off mask ring h.on) (in_group t mask ring h)

-- ---- fewer than t rings are disabled

not_ring : (t mask ring r : ℕ) → IsAsked t mask ring → enables (switch mask ring) r ≡ true → r ≢ ring
not_ring t mask ring r h on e = clash _ (sym (ap (enables (switch mask ring)) e) ∙ on) (switch_off mask ring h.on)

without_tells : (t mask ring r : ℕ) → IsAsked t mask ring → enables (switch mask ring) r ≡ true → IsEnabledByAnswer t mask ring r
without_tells t mask ring r h on =
    let apart = not_ring t mask ring r h on in
    record { other = apart; wanted = inl (sym (switch_other mask ring r apart) ∙ on) }

pub without_exact : (t mask ring r : ℕ) → IsAsked t mask ring → good_mask t (switch mask ring) ≡ true → (enables (switch mask ring) r ≡ true) ↔ IsEnabledByAnswer t mask ring r
without_exact t mask ring r h good = (without_tells t mask ring r h, back)
  where
    back : IsEnabledByAnswer t mask ring r → enables (switch mask ring) r ≡ true
    back is =
        elim is.wanted [
          | inl on ↦ switch_other mask ring r is.other ∙ on
          | inr again ↦ absurd (omega (arith, again.no_more, fewer t mask ring h, (good_parts t (switch mask ring) good).enough, h.some))
        ]

-- ---- t rings are disabled

-- What is known where a ring is enabled again.
pub record IsFull (t mask ring low : ℕ) : Type 0 where
  pub asked : IsAsked t mask ring
  pub bad : good_mask t (switch mask ring) ≡ false
  pub within : low < ring_count t
  pub lowest : IsLowestDisabled mask low

few_left : (t mask ring : ℕ) → IsAsked t mask ring → good_mask t (switch mask ring) ≡ false → count (ring_count t) (switch mask ring) ≤ t
few_left t mask ring h bad =
    let fits = switch_fits (ring_count t) mask ring (good_parts t mask h.good).fits (in_group t mask ring h) in
    elim (and_cases _ _ bad) [
      | inl big ↦ clash _ (lt-ltb _ _ fits) big
      | inr few ↦ ltb-false _ _ few
    ]

low_apart : (t mask ring low : ℕ) → IsFull t mask ring low → low ≢ ring
low_apart t mask ring low f e = clash _ (ap (enables mask) e ∙ f.asked.on) f.lowest.disabled

abbrev pub again : ℕ → ℕ → ℕ → ℕ
again mask ring low = switch (switch mask ring) low

-- the lowest is one
only_lowest : (mask a b : ℕ) → IsLowestDisabled mask a → IsLowestDisabled mask b → a ≡ b
only_lowest mask a b p q =
    elim (cases_lt a b) [
      | inl lt ↦ clash _ (q.lowest a lt) p.disabled
      | inr le ↦ elim (cases_lt b a) [
        | inl lt ↦ clash _ (p.lowest b lt) q.disabled
        | inr le' ↦ omega arith
      ]
    ]

without_low : (t mask ring low : ℕ) → IsFull t mask ring low → enables (switch mask ring) low ≡ false
without_low t mask ring low f = switch_other mask ring low (low_apart t mask ring low f) ∙ f.lowest.disabled

all_used : (t mask ring low : ℕ) → IsFull t mask ring low → disabled_count t mask ≡ t
all_used t mask ring low f = omega (arith, fewer t mask ring f.asked, few_left t mask ring f.asked f.bad, (good_parts t mask f.asked.good).enough)

is_again : (t mask ring low : ℕ) → IsFull t mask ring low → IsEnabledByAnswer t mask ring low
is_again t mask ring low f = record { other = low_apart t mask ring low f; wanted = inr (record { no_more = all_used t mask ring low f; lowest = f.lowest }) }

pub again_exact : (t mask ring low r : ℕ) → IsFull t mask ring low → (enables (again mask ring low) r ≡ true) ↔ IsEnabledByAnswer t mask ring r
again_exact t mask ring low r f = (forth, back)
  where
    forth : enables (again mask ring low) r ≡ true → IsEnabledByAnswer t mask ring r
    forth on =
        elim (cases_eq r low) [
          | inl same ↦ subst (IsEnabledByAnswer t mask ring) (sym same) (is_again t mask ring low f)
          | inr apart ↦ without_tells t mask ring r f.asked (sym (switch_other (switch mask ring) low r apart) ∙ on)
        ]

    back : IsEnabledByAnswer t mask ring r → enables (again mask ring low) r ≡ true
    back is =
        elim is.wanted [
          | inl on ↦
              let apart : r ≢ low = λ e. clash _ (sym (ap (enables mask) e) ∙ on) f.lowest.disabled in
              switch_other (switch mask ring) low r apart ∙ switch_other mask ring r is.other ∙ on
          | inr up ↦
              let same = only_lowest mask r low up.lowest f.lowest in
              ap (enables (again mask ring low)) same ∙ switch_on (switch mask ring) low (without_low t mask ring low f)
        ]

pub again_lacks : (t mask ring low : ℕ) → IsFull t mask ring low → enables (again mask ring low) ring ≡ false
again_lacks t mask ring low f = switch_other (switch mask ring) low ring (λ e. low_apart t mask ring low f (sym e)) ∙ switch_off mask ring f.asked.on

pub again_good : (t mask ring low : ℕ) → IsFull t mask ring low → good_mask t (again mask ring low) ≡ true
again_good t mask ring low f =
    let k = ring_count t in
    let inside = in_group t mask ring f.asked in
    let good = good_parts t mask f.asked.good in
    let more = one_more (again mask ring low) (switch mask ring) low k (switched_on (switch mask ring) low (without_low t mask ring low f)) f.within in
    good_from t (again mask ring low) (record { fits = switch_fits k (switch mask ring) low (switch_fits k mask ring good.fits inside) f.within; enough = omega (arith, more, fewer t mask ring f.asked, good.enough) })

-- A ring is disabled where the mask without the accused ring isn't good.
pub not_all : {A : Type 0} (t mask ring : ℕ) → IsAsked t mask ring → good_mask t (switch mask ring) ≡ false → ((r : ℕ) → r < ring_count t → enables mask r ≡ true) → A
not_all t mask ring h bad all = absurd (omega (arith, all_counted mask (ring_count t) all, fewer t mask ring h, few_left t mask ring h bad, h.some))
