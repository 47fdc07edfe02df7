-- The slots of one member.
use Rattle.std.proofs.Common.{◌≡◌, ℕ, zero, suc, ◌≤◌, Bool, true, false, not, ◌&&◌, ◌||◌, eqb, List, [], ◌∷◌, ◌++◌, Some, None, length, take, drop, map, set, refl, ap, sym, ◌∙◌, arith}
use Rattle.std.specs.List.{copy_within, list_all, list_any}
use Rattle.std.proofs.lemmas.List.{drop_all, append-nil}
use Rattle.std.proofs.lemmas.Bool.{ne_eqb}
use Rattle.std.proofs.lemmas.Bool.Decides.{nat_tests}
use Rattle.detector.specs.declared.probe.Ping.{Ping}
use Rattle.detector.specs.Silence.{answered_by, with_answer}
use Rattle.detector.specs.Slots.{is_missed, has_nonce, slot_answered}
use Rattle.detector.specs.Kept.{slots_of}

-- All but the last moved by one, and one put in front of them.
pub shifted : {X : Type 0} (xs : List X) (x : X) → length xs ≡ 16 → set (copy_within xs 0 15 1) 0 x ≡ x ∷ take 15 xs
shifted [] x h = absurd (omega (arith, h))
shifted (y ∷ xs) x h =
    ap (λ zs. x ∷ (take 15 (y ∷ xs) ++ zs)) (drop_all 15 xs (omega (arith, h))) ∙ ap (λ zs. x ∷ zs) (append-nil (take 15 (y ∷ xs)))

-- The first slots hold the first pings.
pub take-slots : (n k : ℕ) (pings : List Ping) → n ≤ k → take n (slots_of k pings) ≡ slots_of n pings
take-slots zero k pings h = refl
take-slots (suc n) zero pings h = absurd (omega (arith, h))
take-slots (suc n) (suc k) [] h = ap (λ xs. None ∷ xs) (take-slots n k [] (omega (arith, h)))
take-slots (suc n) (suc k) (p ∷ pings) h = ap (λ xs. Some p ∷ xs) (take-slots n k pings (omega (arith, h)))

missed_more : (a b c : Bool) → (a && (b && c)) ≡ (b && (a && c))
missed_more true b c = refl
missed_more false true c = refl
missed_more false false c = refl

eqb-suc : (a b : ℕ) → eqb a b ≡ eqb (suc a) (suc b)
eqb-suc a b = grind (arith, nat_tests)

missed-slots : (n : ℕ) (pings : List Ping) → list_all is_missed (slots_of n pings) ≡ (eqb (length (take n pings)) n && list_all (λ p. not p.answered) (take n pings))
missed-slots zero pings = refl
missed-slots (suc n) [] = ap (λ b. b && true) (sym (ne_eqb 0 (suc n) (λ e. omega (arith, e))))
missed-slots (suc n) (p ∷ pings) =
    ap (λ b. not p.answered && b) (missed-slots n pings)
    ∙ missed_more (not p.answered) (eqb (length (take n pings)) n) (list_all (λ p. not p.answered) (take n pings))
    ∙ ap (λ b. b && (not p.answered && list_all (λ p. not p.answered) (take n pings))) (eqb-suc (length (take n pings)) n)

-- All of the last slots are missed where so many pings are there, and none is answered.
pub missed-judged : (misses : ℕ) (pings : List Ping) → misses ≤ 16 → list_all is_missed (take misses (slots_of 16 pings)) ≡ (eqb (length (take misses pings)) misses && list_all (λ p. not p.answered) (take misses pings))
missed-judged misses pings h = ap (list_all is_missed) (take-slots misses 16 pings h) ∙ missed-slots misses pings

take_none : (n : ℕ) (pings : List Ping) → pings ≡ [] → take n pings ≡ []
take_none zero pings h = refl
take_none (suc n) [] h = refl
take_none (suc n) (p ∷ pings) h = cc

nonce-slots : (nonce n : ℕ) (pings : List Ping) → list_any (has_nonce nonce) (slots_of n pings) ≡ list_any (λ p. eqb p.nonce nonce) (take n pings)
nonce-slots nonce zero pings = refl
nonce-slots nonce (suc n) [] = nonce-slots nonce n [] ∙ ap (list_any (λ (p : Ping). eqb p.nonce nonce)) (take_none n [] refl)
nonce-slots nonce (suc n) (p ∷ pings) = ap (λ b. eqb p.nonce nonce || b) (nonce-slots nonce n pings)

-- One of the last slots has the nonce where one of the last pings has it.
pub nonce-kept : (nonce misses : ℕ) (pings : List Ping) → misses ≤ 16 → list_any (has_nonce nonce) (take misses (slots_of 16 pings)) ≡ list_any (λ p. eqb p.nonce nonce) (take misses pings)
nonce-kept nonce misses pings h = ap (list_any (has_nonce nonce)) (take-slots misses 16 pings h) ∙ nonce-slots nonce misses pings

pub answer_none : (misses nonce : ℕ) → with_answer misses nonce [] ≡ []
answer_none zero nonce = refl
answer_none (suc misses) nonce = refl

-- The last slots are answered as the last pings are.
pub answered-slots : (nonce misses k : ℕ) (pings : List Ping) → map (slot_answered nonce) (take misses (slots_of k pings)) ++ drop misses (slots_of k pings) ≡ slots_of k (with_answer misses nonce pings)
answered-slots nonce zero k pings = refl
answered-slots nonce (suc misses) zero pings = refl
answered-slots nonce (suc misses) (suc k) [] = ap (λ xs. None ∷ xs) (answered-slots nonce misses k [] ∙ ap (slots_of k) (answer_none misses nonce))
answered-slots nonce (suc misses) (suc k) (p ∷ pings) = ap (λ xs. Some (answered_by nonce p) ∷ xs) (answered-slots nonce misses k pings)
