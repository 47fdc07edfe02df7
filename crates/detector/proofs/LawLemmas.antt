-- The live pings and their answers, in the words of the rule.
use Rattle.std.proofs.Common.{◌≡◌, ℕ, zero, suc, ◌≤◌, Bool, true, false, cond, ◌&&◌, ◌||◌, eqb, List, [], ◌∷◌, ◌++◌, Option, Some, None, take, map, refl, ap, sym, ◌∙◌, subst, arith, ⊎_elim}
use Rattle.std.specs.Prelude.{find}
use Rattle.std.specs.List.{All, Contains, list_any}
use Rattle.std.proofs.lemmas.Bool.{eqb-true}
use Rattle.std.proofs.lemmas.List.Elements.{All-nil, All-cons, All-head, All-tail, Contains-append_right}
use Rattle.ff_ids.specs.Views.{is_number}
use Rattle.membership.proofs.NumberLemmas.{either_bool}
use Rattle.membership.proofs.MonitorLemmas.{is_number-some, is_number-is}
use Rattle.detector.specs.declared.watch.Watched.{Watched}
use Rattle.detector.specs.declared.probe.Ping.{Ping}
use Rattle.detector.specs.Silence.{Happening, Ticked, Ponged, epoch_in, with_sent, answered_by, with_answer, live}
use Rattle.detector.specs.Laws.{WasWatched, IsLiveSince, is_pong, IsLive, IsJudged, nonces}

-- ---- one happening more

live_later : (happened : List Happening) (x : Happening) (m epoch nonce : ℕ) (since : List Happening) → WasWatched m epoch x → IsLiveSince happened m epoch nonce since → IsLiveSince (x ∷ happened) m epoch nonce (x ∷ since)
live_later happened x m epoch nonce since was h =
    record {
      watched = h.watched;
      pings = h.pings;
      before = h.before;
      parts = ap (λ xs. x ∷ xs) h.parts;
      sent = h.sent;
      at_sending = h.at_sending;
      at_each = All-cons (WasWatched m epoch) x since was h.at_each;
    }

live_now : (watched : List Watched) (pings : List (ℕ × ℕ)) (before : List Happening) (m epoch nonce : ℕ) → epoch_in watched m ≡ Some epoch → find (λ p. eqb p.0 m) pings ≡ Some (m, nonce) → IsLiveSince (Ticked watched pings ∷ before) m epoch nonce []
live_now watched pings before m epoch nonce was sent =
    record { watched = watched; pings = pings; before = before; parts = refl; sent = sent; at_sending = was; at_each = All-nil (WasWatched m epoch) }

-- The ping that was found is one to m.
pub found_to : (m : ℕ) (pings : List (ℕ × ℕ)) (p : ℕ × ℕ) → find (λ p. eqb p.0 m) pings ≡ Some p → p.0 ≡ m
found_to m [] p h = cc
found_to m (x ∷ pings) p h = found_more m (eqb x.0 m) x p (find (λ p. eqb p.0 m) pings) (eqb-true x.0 m) (found_to m pings p) h
  where
    found_more : (m : ℕ) (b : Bool) (x p : ℕ × ℕ) (rest : Option (ℕ × ℕ)) → (b ≡ true → x.0 ≡ m) → (rest ≡ Some p → p.0 ≡ m) → cond b (Some x) rest ≡ Some p → p.0 ≡ m
    found_more m true x p rest here there h = let e : x ≡ p = cc in subst (λ (p : ℕ × ℕ). p.0 ≡ m) e (here refl)
    found_more m false x p rest here there h = there h

sent_pair : (m : ℕ) (pings : List (ℕ × ℕ)) (p : ℕ × ℕ) → find (λ p. eqb p.0 m) pings ≡ Some p → find (λ p. eqb p.0 m) pings ≡ Some (m, p.1)
sent_pair m pings p h = h ∙ ap (λ k. Some (k, p.1)) (found_to m pings p h)

-- ---- what is kept has been sent, and is answered where a pong came

flag_more : (b c d : Bool) → cond b true c ≡ ((true && b) || c)
flag_more true c d = refl
flag_more false c d = refl

answered_flag : (b : Bool) (p : Ping) → (cond b (record p { answered = true }) p).answered ≡ (b || p.answered)
answered_flag true p = refl
answered_flag false p = refl

answered_nonce : (b : Bool) (p : Ping) → (cond b (record p { answered = true }) p).nonce ≡ p.nonce
answered_nonce true p = refl
answered_nonce false p = refl

All-each : {X : Type 0} (P Q : X → Type 0) (f : X → X) → ((x : X) → P x → Q (f x)) → (xs : List X) → All P xs → All Q (map f xs)
All-each P Q f h [] all = All-nil Q
All-each P Q f h (x ∷ xs) all = All-cons Q (f x) (map f xs) (h x (All-head P x xs all)) (All-each P Q f h xs (All-tail P x xs all))

All-other : {X : Type 0} (P Q : X → Type 0) → ((x : X) → P x → Q x) → (xs : List X) → All P xs → All Q xs
All-other P Q h [] all = All-nil Q
All-other P Q h (x ∷ xs) all = All-cons Q x xs (h x (All-head P x xs all)) (All-other P Q h xs (All-tail P x xs all))

-- The first of the pings, answered.
take_answer : (j misses nonce : ℕ) (pings : List Ping) → j ≤ misses → take j (with_answer misses nonce pings) ≡ map (answered_by nonce) (take j pings)
take_answer zero misses nonce pings h = refl
take_answer (suc j) zero nonce pings h = absurd (omega (arith, h))
take_answer (suc j) (suc misses) nonce [] h = refl
take_answer (suc j) (suc misses) nonce (p ∷ pings) h = ap (λ xs. answered_by nonce p ∷ xs) (take_answer j misses nonce pings (omega (arith, h)))

judged_answered : (happened : List Happening) (m epoch sender nonce : ℕ) → eqb m sender ≡ true → (p : Ping) → IsJudged happened m epoch p → IsJudged (Ponged sender nonce ∷ happened) m epoch (answered_by nonce p)
judged_answered happened m epoch sender nonce e p h =
    let same = answered_nonce (eqb p.nonce nonce) p in (
      Ponged sender nonce ∷ h.0,
      subst (λ n. IsLiveSince (Ponged sender nonce ∷ happened) m epoch n (Ponged sender nonce ∷ h.0)) (sym same) (live_later happened (Ponged sender nonce) m epoch p.nonce h.0 tt h.1),
      answered_flag (eqb p.nonce nonce) p ∙ ap (λ b. eqb p.nonce nonce || b) h.2 ∙ ap (λ b. (b && eqb p.nonce nonce) || list_any (is_pong m p.nonce) h.0) (sym e) ∙ ap (λ n. list_any (is_pong m n) (Ponged sender nonce ∷ h.0)) (sym same),
    )

judged_unheard : (happened : List Happening) (m epoch sender nonce : ℕ) → eqb m sender ≡ false → (p : Ping) → IsJudged happened m epoch p → IsJudged (Ponged sender nonce ∷ happened) m epoch p
judged_unheard happened m epoch sender nonce e p h = (
  Ponged sender nonce ∷ h.0,
  live_later happened (Ponged sender nonce) m epoch p.nonce h.0 tt h.1,
  h.2 ∙ ap (λ b. (b && eqb p.nonce nonce) || list_any (is_pong m p.nonce) h.0) (sym e),
)

judged_ticked : (happened : List Happening) (watched : List Watched) (pings : List (ℕ × ℕ)) (m epoch : ℕ) → epoch_in watched m ≡ Some epoch → (p : Ping) → IsJudged happened m epoch p → IsJudged (Ticked watched pings ∷ happened) m epoch p
judged_ticked happened watched pings m epoch was p h = (Ticked watched pings ∷ h.0, live_later happened (Ticked watched pings) m epoch p.nonce h.0 was h.1, h.2)

judged_sent : (happened : List Happening) (watched : List Watched) (pings : List (ℕ × ℕ)) (m epoch : ℕ) → epoch_in watched m ≡ Some epoch → (o : Option (ℕ × ℕ)) → find (λ p. eqb p.0 m) pings ≡ o → (j : ℕ) (earlier : List Ping) → ((i : ℕ) → i ≤ j → All (IsJudged happened m epoch) (take i earlier)) → All (IsJudged (Ticked watched pings ∷ happened) m epoch) (take j (with_sent o earlier))
judged_sent happened watched pings m epoch was None e j earlier all =
    All-other (IsJudged happened m epoch) (IsJudged (Ticked watched pings ∷ happened) m epoch) (judged_ticked happened watched pings m epoch was) (take j earlier) (all j (omega arith))
judged_sent happened watched pings m epoch was (Some sent) e zero earlier all = All-nil (IsJudged (Ticked watched pings ∷ happened) m epoch)
judged_sent happened watched pings m epoch was (Some sent) e (suc j) earlier all =
    All-cons (IsJudged (Ticked watched pings ∷ happened) m epoch) (record { nonce = sent.1; answered = false }) (take j earlier)
    ([], live_now watched pings happened m epoch sent.1 was (sent_pair m pings sent e), refl)
    (All-other (IsJudged happened m epoch) (IsJudged (Ticked watched pings ∷ happened) m epoch) (judged_ticked happened watched pings m epoch was) (take j earlier) (all j (omega arith)))

take_nothing : (j : ℕ) (pings : List Ping) → pings ≡ [] → take j pings ≡ []
take_nothing zero pings h = refl
take_nothing (suc j) [] h = refl
take_nothing (suc j) (p ∷ pings) h = cc

judged-first : (misses m epoch : ℕ) (happened : List Happening) (j : ℕ) → j ≤ misses → All (IsJudged happened m epoch) (take j (live misses happened m epoch))
judged-first misses m epoch [] j h = subst (All (IsJudged [] m epoch)) (sym (take_nothing j [] refl)) (All-nil (IsJudged [] m epoch))
judged-first misses m epoch (Ponged sender nonce ∷ before) j h =
    let P = IsJudged before m epoch in
    let Q = IsJudged (Ponged sender nonce ∷ before) m epoch in
    let L = live misses before m epoch in
    let earlier = judged-first misses m epoch before j h in
    ⊎_elim
    (λ t. subst (λ b. All Q (take j (cond b (with_answer misses nonce L) L))) (sym t) (subst (All Q) (sym (take_answer j misses nonce L h)) (All-each P Q (answered_by nonce) (judged_answered before m epoch sender nonce t) (take j L) earlier)))
    (λ t. subst (λ b. All Q (take j (cond b (with_answer misses nonce L) L))) (sym t) (All-other P Q (judged_unheard before m epoch sender nonce t) (take j L) earlier))
    (either_bool (eqb m sender))
judged-first misses m epoch (Ticked watched pings ∷ before) j h =
    let Q = IsJudged (Ticked watched pings ∷ before) m epoch in
    let L = live misses before m epoch in
    let sent = find (λ (p : ℕ × ℕ). eqb p.0 m) pings in
    ⊎_elim
    (λ t. subst (λ b. All Q (take j (cond b (with_sent sent L) []))) (sym t) (judged_sent before watched pings m epoch (is_number-some (epoch_in watched m) epoch t) sent refl j L (λ i below. judged-first misses m epoch before i (omega (arith, below, h)))))
    (λ t. subst (λ b. All Q (take j (cond b (with_sent sent L) []))) (sym t) (subst (All Q) (sym (take_nothing j [] refl)) (All-nil Q)))
    (either_bool (is_number (epoch_in watched m) epoch))

-- Of the kept pings those are answered to which a pong came.
pub judged-kept : (misses m epoch : ℕ) (happened : List Happening) → All (IsJudged happened m epoch) (take misses (live misses happened m epoch))
judged-kept misses m epoch happened = judged-first misses m epoch happened misses (omega arith)

-- ---- all of them have been sent

live_pong : (happened : List Happening) (m epoch sender nonce : ℕ) (p : Ping) → IsLive happened m epoch p → IsLive (Ponged sender nonce ∷ happened) m epoch p
live_pong happened m epoch sender nonce p h = (Ponged sender nonce ∷ h.0, live_later happened (Ponged sender nonce) m epoch p.nonce h.0 tt h.1)

live_answer : (happened : List Happening) (m epoch sender nonce : ℕ) (p : Ping) → IsLive happened m epoch p → IsLive (Ponged sender nonce ∷ happened) m epoch (answered_by nonce p)
live_answer happened m epoch sender nonce p h = (
  Ponged sender nonce ∷ h.0,
  subst (λ n. IsLiveSince (Ponged sender nonce ∷ happened) m epoch n (Ponged sender nonce ∷ h.0)) (sym (answered_nonce (eqb p.nonce nonce) p)) (live_later happened (Ponged sender nonce) m epoch p.nonce h.0 tt h.1),
)

live_tick : (happened : List Happening) (watched : List Watched) (pings : List (ℕ × ℕ)) (m epoch : ℕ) → epoch_in watched m ≡ Some epoch → (p : Ping) → IsLive happened m epoch p → IsLive (Ticked watched pings ∷ happened) m epoch p
live_tick happened watched pings m epoch was p h = (Ticked watched pings ∷ h.0, live_later happened (Ticked watched pings) m epoch p.nonce h.0 was h.1)

All-answer : (misses : ℕ) (happened : List Happening) (m epoch sender nonce : ℕ) (L : List Ping) → All (IsLive happened m epoch) L → All (IsLive (Ponged sender nonce ∷ happened) m epoch) (with_answer misses nonce L)
All-answer zero happened m epoch sender nonce L all = All-other (IsLive happened m epoch) (IsLive (Ponged sender nonce ∷ happened) m epoch) (live_pong happened m epoch sender nonce) L all
All-answer (suc misses) happened m epoch sender nonce [] all = All-nil (IsLive (Ponged sender nonce ∷ happened) m epoch)
All-answer (suc misses) happened m epoch sender nonce (p ∷ L) all =
    All-cons (IsLive (Ponged sender nonce ∷ happened) m epoch) (answered_by nonce p) (with_answer misses nonce L) (live_answer happened m epoch sender nonce p (All-head (IsLive happened m epoch) p L all)) (All-answer misses happened m epoch sender nonce L (All-tail (IsLive happened m epoch) p L all))

All-sent : (happened : List Happening) (watched : List Watched) (pings : List (ℕ × ℕ)) (m epoch : ℕ) → epoch_in watched m ≡ Some epoch → (o : Option (ℕ × ℕ)) → find (λ p. eqb p.0 m) pings ≡ o → (L : List Ping) → All (IsLive happened m epoch) L → All (IsLive (Ticked watched pings ∷ happened) m epoch) (with_sent o L)
All-sent happened watched pings m epoch was None e L all =
    All-other (IsLive happened m epoch) (IsLive (Ticked watched pings ∷ happened) m epoch) (live_tick happened watched pings m epoch was) L all
All-sent happened watched pings m epoch was (Some sent) e L all =
    All-cons (IsLive (Ticked watched pings ∷ happened) m epoch) (record { nonce = sent.1; answered = false }) L
    ([], live_now watched pings happened m epoch sent.1 was (sent_pair m pings sent e))
    (All-other (IsLive happened m epoch) (IsLive (Ticked watched pings ∷ happened) m epoch) (live_tick happened watched pings m epoch was) L all)

pub live-sent : (misses m epoch : ℕ) (happened : List Happening) → All (IsLive happened m epoch) (live misses happened m epoch)
live-sent misses m epoch [] = All-nil (IsLive [] m epoch)
live-sent misses m epoch (Ponged sender nonce ∷ before) =
    let P = IsLive before m epoch in
    let Q = IsLive (Ponged sender nonce ∷ before) m epoch in
    let L = live misses before m epoch in
    let earlier = live-sent misses m epoch before in
    ⊎_elim
    (λ t. subst (λ b. All Q (cond b (with_answer misses nonce L) L)) (sym t) (All-answer misses before m epoch sender nonce L earlier))
    (λ t. subst (λ b. All Q (cond b (with_answer misses nonce L) L)) (sym t) (All-other P Q (live_pong before m epoch sender nonce) L earlier))
    (either_bool (eqb m sender))
live-sent misses m epoch (Ticked watched pings ∷ before) =
    let Q = IsLive (Ticked watched pings ∷ before) m epoch in
    let L = live misses before m epoch in
    let sent = find (λ (p : ℕ × ℕ). eqb p.0 m) pings in
    ⊎_elim
    (λ t. subst (λ b. All Q (cond b (with_sent sent L) [])) (sym t) (All-sent before watched pings m epoch (is_number-some (epoch_in watched m) epoch t) sent refl L (live-sent misses m epoch before)))
    (λ t. subst (λ b. All Q (cond b (with_sent sent L) [])) (sym t) (All-nil Q))
    (either_bool (is_number (epoch_in watched m) epoch))

-- ---- all that have been sent are there

here : (x : ℕ) (xs : List ℕ) → Contains (x ∷ xs) x
here x xs = (0, omega arith, refl)

there : (x : ℕ) (xs : List ℕ) (y : ℕ) → Contains xs y → Contains (x ∷ xs) y
there x xs y h = Contains-append_right (x ∷ []) xs y h

nonces_answered : (misses nonce : ℕ) (pings : List Ping) → nonces (with_answer misses nonce pings) ≡ nonces pings
nonces_answered zero nonce pings = refl
nonces_answered (suc misses) nonce [] = refl
nonces_answered (suc misses) nonce (p ∷ pings) =
    ap (λ n. n ∷ nonces (with_answer misses nonce pings)) (answered_nonce (eqb p.nonce nonce) p) ∙ ap (λ ns. p.nonce ∷ ns) (nonces_answered misses nonce pings)

nonces_pong : (b : Bool) (misses nonce : ℕ) (pings : List Ping) → nonces (cond b (with_answer misses nonce pings) pings) ≡ nonces pings
nonces_pong true misses nonce pings = nonces_answered misses nonce pings
nonces_pong false misses nonce pings = refl

still_there : (o : Option (ℕ × ℕ)) (pings : List Ping) (n : ℕ) → Contains (nonces pings) n → Contains (nonces (with_sent o pings)) n
still_there None pings n h = h
still_there (Some sent) pings n h = there sent.1 (nonces pings) n h

live_tick_is : (misses m epoch : ℕ) (watched : List Watched) (pings : List (ℕ × ℕ)) (before : List Happening) → epoch_in watched m ≡ Some epoch → live misses (Ticked watched pings ∷ before) m epoch ≡ with_sent (find (λ p. eqb p.0 m) pings) (live misses before m epoch)
live_tick_is misses m epoch watched pings before was =
    ap (λ b. cond b (with_sent (find (λ (p : ℕ × ℕ). eqb p.0 m) pings) (live misses before m epoch)) []) (is_number-is (epoch_in watched m) epoch was)

each_there : (misses m epoch nonce : ℕ) (watched : List Watched) (pings : List (ℕ × ℕ)) (before since : List Happening) → find (λ p. eqb p.0 m) pings ≡ Some (m, nonce) → epoch_in watched m ≡ Some epoch → All (WasWatched m epoch) since → Contains (nonces (live misses (since ++ Ticked watched pings ∷ before) m epoch)) nonce
each_there misses m epoch nonce watched pings before [] sent was at_each =
    subst (λ ps. Contains (nonces ps) nonce) (sym (live_tick_is misses m epoch watched pings before was ∙ ap (λ o. with_sent o (live misses before m epoch)) sent)) (here nonce (nonces (live misses before m epoch)))
each_there misses m epoch nonce watched pings before (Ponged sender other ∷ since) sent was at_each =
    let rest = each_there misses m epoch nonce watched pings before since sent was (All-tail (WasWatched m epoch) (Ponged sender other) since at_each) in
    subst (λ ns. Contains ns nonce) (sym (nonces_pong (eqb m sender) misses other (live misses (since ++ Ticked watched pings ∷ before) m epoch))) rest
each_there misses m epoch nonce watched pings before (Ticked later others ∷ since) sent was at_each =
    let rest = each_there misses m epoch nonce watched pings before since sent was (All-tail (WasWatched m epoch) (Ticked later others) since at_each) in
    let now = All-head (WasWatched m epoch) (Ticked later others) since at_each in
    subst (λ ps. Contains (nonces ps) nonce) (sym (live_tick_is misses m epoch later others (since ++ Ticked watched pings ∷ before) now)) (still_there (find (λ (p : ℕ × ℕ). eqb p.0 m) others) (live misses (since ++ Ticked watched pings ∷ before) m epoch) nonce rest)

pub live-each : (misses m epoch nonce : ℕ) (happened since : List Happening) → IsLiveSince happened m epoch nonce since → Contains (nonces (live misses happened m epoch)) nonce
live-each misses m epoch nonce happened since h =
    subst (λ xs. Contains (nonces (live misses xs m epoch)) nonce) (sym h.parts) (each_there misses m epoch nonce h.watched h.pings h.before since h.sent h.at_sending h.at_each)
