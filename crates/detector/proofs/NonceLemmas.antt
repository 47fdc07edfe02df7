-- Nonces that are learned behind their tick.
use Rattle.std.proofs.Common.{◌≡◌, ℕ, zero, suc, ◌+◌, ◌≤◌, Bool, true, false, cond, ◌||◌, eqb, List, [], ◌∷◌, Option, Some, None, map, refl, ap, sym, ◌∙◌, subst, arith, ⊎_elim}
use Rattle.std.specs.Prelude.{find, filter}
use Rattle.std.specs.List.{AllByRecursion, range_with_len}
use Rattle.std.specs.Option.{option_map}
use Rattle.std.proofs.lemmas.Bool.{eqb-true, eq-eqb, ne_eqb, false≢true}
use Rattle.ff_ids.specs.Views.{State}
use Rattle.membership.proofs.NumberLemmas.{either_bool, all_length}
use Rattle.membership.proofs.MonitorLemmas.{is_number-is}
use Rattle.detector.specs.declared.watch.Watched.{Watched}
use Rattle.detector.specs.declared.probe.Ping.{Ping}
use Rattle.detector.specs.declared.probe.Probe.{Probe}
use Rattle.detector.specs.Silence.{History, live, epoch_in, with_sent, pings_from, ticked_with, AreTo, is_pinged, with_nonce, with_nonces}
use Rattle.detector.specs.Watching.{as_watched, is_watched, watched}
use Rattle.detector.specs.Slots.{probe_in, probe_nonced, nonced_where}
use Rattle.detector.specs.Kept.{Kept, StandsFor, slots_of, probe_after}
use Rattle.detector.proofs.HistoryLemmas.{find-more}
use Rattle.detector.proofs.LawLemmas.{found_to}

-- ---- the pings of the tick

still_to : (b : Bool) (nonce : ℕ) (p : ℕ × ℕ) → (cond b (p.0, nonce) p).0 ≡ p.0
still_to true nonce p = refl
still_to false nonce p = refl

found_nonced : (n m nonce : ℕ) (sent : List (ℕ × ℕ)) → find (λ p. eqb p.0 n) (with_nonce m nonce sent) ≡ option_map (λ p. cond (eqb p.0 m) (p.0, nonce) p) (find (λ p. eqb p.0 n) sent)
found_nonced n m nonce [] = refl
found_nonced n m nonce (p ∷ sent) =
    find-more _ (eqb p.0 n) (λ (p : ℕ × ℕ). cond (eqb p.0 m) (p.0, nonce) p) p _ _ (ap (λ k. eqb k n) (still_to (eqb p.0 m) nonce p)) (found_nonced n m nonce sent)

found_one : (m : ℕ) (sent : List (ℕ × ℕ)) → is_pinged m sent ≡ true → find (λ p. eqb p.0 m) sent ≡ None → ⊥
found_one m [] any none = false≢true any
found_one m (p ∷ sent) any none = more (eqb p.0 m) p (is_pinged m sent) (find (λ (p : ℕ × ℕ). eqb p.0 m) sent) (found_one m sent) any none
  where
    more : (b : Bool) (p : ℕ × ℕ) (rest : Bool) (o : Option (ℕ × ℕ)) → (rest ≡ true → o ≡ None → ⊥) → (b || rest) ≡ true → cond b (Some p) o ≡ None → ⊥
    more true p rest o later any none = cc
    more false p rest o later any none = later any none

-- ---- what is kept of a member

-- The member at this epoch with these pings.
abbrev with_pings_of : ℕ → ℕ → List Ping → Probe
with_pings_of n epoch pings = record { member = n; epoch = epoch; slots = slots_of 16 pings }

nonced_some : (b : Bool) (nonce n epoch : ℕ) (pings : List Ping) (p : ℕ × ℕ) → cond b (probe_nonced nonce (with_pings_of n epoch (with_sent (Some p) pings))) (with_pings_of n epoch (with_sent (Some p) pings)) ≡ with_pings_of n epoch (with_sent (Some (cond b (p.0, nonce) p)) pings)
nonced_some true nonce n epoch pings p = refl
nonced_some false nonce n epoch pings p = refl

nonced_sent : (m nonce n epoch : ℕ) (pings : List Ping) (sent : List (ℕ × ℕ)) (o : Option (ℕ × ℕ)) → find (λ p. eqb p.0 n) sent ≡ o → is_pinged m sent ≡ true
    → nonced_where m nonce (with_pings_of n epoch (with_sent o pings)) ≡ with_pings_of n epoch (with_sent (option_map (λ (p : ℕ × ℕ). cond (eqb p.0 m) (p.0, nonce) p) o) pings)
nonced_sent m nonce n epoch pings sent None e pinged =
    ⊎_elim
    (λ t. absurd (found_one m sent pinged (ap (λ k. find (λ (p : ℕ × ℕ). eqb p.0 k) sent) (sym (eqb-true n m t)) ∙ e)))
    (λ t. ap (λ b. cond b (probe_nonced nonce (with_pings_of n epoch pings)) (with_pings_of n epoch pings)) t)
    (either_bool (eqb n m))
nonced_sent m nonce n epoch pings sent (Some p) e pinged =
    nonced_some (eqb n m) nonce n epoch pings p
    ∙ ap (λ k. with_pings_of n epoch (with_sent (Some (cond (eqb k m) (p.0, nonce) p)) pings)) (sym (found_to n sent p e))

nonced_by : (h : History) (watched : List Watched) (sent : List (ℕ × ℕ)) (m nonce n : ℕ) (o : Option ℕ) → epoch_in watched n ≡ o → is_pinged m sent ≡ true
    → option_map (nonced_where m nonce) (option_map (probe_after (ticked_with h watched sent) n) o) ≡ option_map (probe_after (ticked_with h watched (with_nonce m nonce sent)) n) o
nonced_by h watched sent m nonce n None e pinged = refl
nonced_by h watched sent m nonce n (Some epoch) e pinged =
    let earlier = live h.misses h.happened n epoch in
    let here = is_number-is (epoch_in watched n) epoch e in
    let at = λ (sent : List (ℕ × ℕ)). find (λ (p : ℕ × ℕ). eqb p.0 n) sent in
    ap (λ b. Some (nonced_where m nonce (with_pings_of n epoch (cond b (with_sent (at sent) earlier) [])))) here
    ∙ ap Some (nonced_sent m nonce n epoch earlier sent (at sent) refl pinged)
    ∙ ap (λ o. Some (with_pings_of n epoch (with_sent o earlier))) (sym (found_nonced n m nonce sent))
    ∙ ap (λ b. Some (with_pings_of n epoch (cond b (with_sent (at (with_nonce m nonce sent)) earlier) []))) (sym here)

-- ---- what is kept of all

nonced_member : (b : Bool) (nonce : ℕ) (p : Probe) → (cond b (probe_nonced nonce p) p).member ≡ p.member
nonced_member true nonce p = refl
nonced_member false nonce p = refl

probe_in-nonced : (m nonce n : ℕ) (probes : List Probe) → probe_in (map (nonced_where m nonce) probes) n ≡ option_map (nonced_where m nonce) (probe_in probes n)
probe_in-nonced m nonce n [] = refl
probe_in-nonced m nonce n (p ∷ probes) =
    find-more _ (eqb p.member n) (nonced_where m nonce) p _ _ (ap (λ k. eqb k n) (nonced_member (eqb p.member m) nonce p)) (probe_in-nonced m nonce n probes)

pub stands-nonced : (k : Kept) (h : History) (watched : List Watched) (sent : List (ℕ × ℕ)) (m nonce : ℕ) → is_pinged m sent ≡ true → StandsFor k (ticked_with h watched sent)
    → StandsFor (record k { probes = map (nonced_where m nonce) k.probes }) (ticked_with h watched (with_nonce m nonce sent))
stands-nonced k h watched sent m nonce pinged stands =
    record {
      misses_same = stands.misses_same;
      each = λ n. probe_in-nonced m nonce n k.probes ∙ ap (option_map (nonced_where m nonce)) (stands.each n) ∙ nonced_by h watched sent m nonce n (epoch_in watched n) refl pinged;
    }

-- ---- one after the other

pub to-same : (m nonce : ℕ) (watched : List Watched) (sent : List (ℕ × ℕ)) → AreTo watched sent → AreTo watched (with_nonce m nonce sent)
to-same m nonce watched sent to = numbers sent ∙ to
  where
    numbers : (sent : List (ℕ × ℕ)) → map (λ (p : ℕ × ℕ). p.0) (with_nonce m nonce sent) ≡ map (λ (p : ℕ × ℕ). p.0) sent
    numbers [] = refl
    numbers (p ∷ sent) =
        ap (λ n. n ∷ map (λ (p : ℕ × ℕ). p.0) (with_nonce m nonce sent)) (still_to (eqb p.0 m) nonce p) ∙ ap (λ ns. p.0 ∷ ns) (numbers sent)

other_nonce : (m nonce : ℕ) (sent : List (ℕ × ℕ)) → AllByRecursion (λ p. m + 1 ≤ p.0) sent → with_nonce m nonce sent ≡ sent
other_nonce m nonce [] later = refl
other_nonce m nonce (p ∷ sent) later =
    let above = later.0 in
    ap (λ b. cond b (p.0, nonce) p ∷ with_nonce m nonce sent) (ne_eqb p.0 m (λ e. omega (arith, e, above)))
    ∙ ap (λ ps. p ∷ ps) (other_nonce m nonce sent later.1)

first_stays : (p : ℕ × ℕ) (learned sent : List (ℕ × ℕ)) → AllByRecursion (λ q. p.0 + 1 ≤ q.0) learned → with_nonces learned (p ∷ sent) ≡ p ∷ with_nonces learned sent
first_stays p [] sent later = refl
first_stays p (q ∷ learned) sent later =
    let above = later.0 in
    ap (λ b. with_nonces learned (cond b (p.0, q.1) p ∷ with_nonce q.0 q.1 sent)) (ne_eqb p.0 q.0 (λ e. omega (arith, e, above)))
    ∙ first_stays p learned (with_nonce q.0 q.1 sent) later.1

sent_from : (low : ℕ) (sent : List (ℕ × ℕ)) (watched : List Watched) → AreTo watched sent → AllByRecursion (λ w. low ≤ w.member) watched → AllByRecursion (λ p. low ≤ p.0) sent
sent_from low [] watched to all = tt
sent_from low (p ∷ sent) [] to all = cc
sent_from low (p ∷ sent) (w ∷ watched) to all =
    let here : p.0 ≡ w.member = cc in
    let rest : AreTo watched sent = cc in
    (subst (λ n. low ≤ n) (sym here) all.0, sent_from low sent watched rest all.1)

pings_above : (nonces : ℕ → ℕ) (k low : ℕ) (watched : List Watched) → AllByRecursion (λ w. low ≤ w.member) watched → AllByRecursion (λ p. low ≤ p.0) (pings_from nonces k watched)
pings_above nonces k low [] all = tt
pings_above nonces k low (w ∷ watched) all = (all.0, pings_above nonces (k + 1) low watched all.1)

-- Those of so many numbers from this one on that pass the test.
abbrev watched_by : State → (ℕ → Bool) → ℕ → ℕ → List Watched
watched_by s p a n = map (as_watched s) (filter p (range_with_len a n))

watched_from : (s : State) (p : ℕ → Bool) (low a n : ℕ) → low ≤ a → AllByRecursion (λ w. low ≤ w.member) (watched_by s p a n)
watched_from s p low a zero below = tt
watched_from s p low a (suc n) below = more (p a) (filter p (range_with_len (a + 1) n)) (watched_from s p low (a + 1) n (omega (arith, below)))
  where
    more : (b : Bool) (ns : List ℕ) → AllByRecursion (λ w. low ≤ w.member) (map (as_watched s) ns) → AllByRecursion (λ w. low ≤ w.member) (map (as_watched s) (cond b (a ∷ ns) ns))
    more true ns rest = (below, rest)
    more false ns rest = rest

none_sent : (sent : List (ℕ × ℕ)) → AreTo [] sent → sent ≡ []
none_sent [] to = refl
none_sent (p ∷ sent) to = cc

one_more : (s : State) (nonces : ℕ → ℕ) (k a : ℕ) (b : Bool) (ns : List ℕ) (sent : List (ℕ × ℕ)) → AllByRecursion (λ w. a + 1 ≤ w.member) (map (as_watched s) ns)
    → ((k : ℕ) (sent : List (ℕ × ℕ)) → AreTo (map (as_watched s) ns) sent → with_nonces (pings_from nonces k (map (as_watched s) ns)) sent ≡ pings_from nonces k (map (as_watched s) ns))
    → AreTo (map (as_watched s) (cond b (a ∷ ns) ns)) sent → with_nonces (pings_from nonces k (map (as_watched s) (cond b (a ∷ ns) ns))) sent ≡ pings_from nonces k (map (as_watched s) (cond b (a ∷ ns) ns))
one_more s nonces k a false ns sent later rest to = rest k sent to
one_more s nonces k a true ns [] later rest to = cc
one_more s nonces k a true ns (p ∷ sent) later rest to =
    let here : p.0 ≡ a = cc in
    let others : AreTo (map (as_watched s) ns) sent = cc in
    let learned = pings_from nonces (k + 1) (map (as_watched s) ns) in
    ap (λ b. with_nonces learned (cond b (p.0, nonces k) p ∷ with_nonce a (nonces k) sent)) (eq-eqb p.0 a here)
    ∙ ap (λ m. with_nonces learned ((m, nonces k) ∷ with_nonce a (nonces k) sent)) here
    ∙ ap (λ ps. with_nonces learned ((a, nonces k) ∷ ps)) (other_nonce a (nonces k) sent (sent_from (a + 1) sent (map (as_watched s) ns) others later))
    ∙ first_stays (a, nonces k) learned sent (pings_above nonces (k + 1) (a + 1) (map (as_watched s) ns) later)
    ∙ ap (λ ps. (a, nonces k) ∷ ps) (rest (k + 1) sent others)

one_by_one : (s : State) (p : ℕ → Bool) (nonces : ℕ → ℕ) (n a k : ℕ) (sent : List (ℕ × ℕ)) → AreTo (watched_by s p a n) sent → with_nonces (pings_from nonces k (watched_by s p a n)) sent ≡ pings_from nonces k (watched_by s p a n)
one_by_one s p nonces zero a k sent to = none_sent sent to
one_by_one s p nonces (suc n) a k sent to =
    one_more s nonces k a (p a) (filter p (range_with_len (a + 1) n)) sent (watched_from s p (a + 1) (a + 1) n (omega arith)) (one_by_one s p nonces n (a + 1)) to

pub learned-each : (t k me : ℕ) (s : State) (nonces : ℕ → ℕ) (sent : List (ℕ × ℕ)) → AreTo (watched t s me) sent → with_nonces (pings_from nonces k (watched t s me)) sent ≡ pings_from nonces k (watched t s me)
learned-each t k me s nonces =
    let all = all_length in
    let P : List ℕ → Type 0 = λ ns. (sent : List (ℕ × ℕ)) → AreTo (map (as_watched s) (filter (is_watched t s me) ns)) sent
    → with_nonces (pings_from nonces k (map (as_watched s) (filter (is_watched t s me) ns))) sent ≡ pings_from nonces k (map (as_watched s) (filter (is_watched t s me) ns)) in
    subst P (sym all.1.are) (one_by_one s (is_watched t s me) nonces all.0 0 k)
