-- What is kept of a history, one tick and one pong on.
use Rattle.std.proofs.Common.{◌≡◌, ℕ, zero, suc, ◌+◌, ◌*◌, ◌%◌, ◌^◌, ◌≤◌, Bool, true, false, cond, ◌||◌, eqb, List, [], ◌∷◌, Option, Some, None, length, take, map, refl, ap, sym, ◌∙◌, subst, arith, ⊎_elim}
use Rattle.std.specs.Prelude.{filter, find}
use Rattle.std.specs.List.{list_any}
use Rattle.std.specs.Option.{option_map, option_map_or}
use Rattle.std.proofs.lemmas.Bool.{eqb-true, eq-eqb, false≢true}
use Rattle.std.proofs.Math.Nat.{mod-add-mod}
use Rattle.ff_ids.specs.Views.{is_number}
use Rattle.rand_chacha.specs.ChaCha.{ChaCha, word_at, key_of}
use Rattle.membership.proofs.NumberLemmas.{either_bool}
use Rattle.membership.proofs.HoldLemmas.{map_agree}
use Rattle.detector.specs.declared.watch.Watched.{Watched}
use Rattle.detector.specs.declared.probe.Ping.{Ping}
use Rattle.detector.specs.declared.probe.Probe.{Probe}
use Rattle.detector.specs.Silence.{History, Happening, Ticked, Ponged, live, kept, last_epoch, epoch_in, with_sent, with_answer, is_silent, silent, counts, nonce, sent_in, pings_from, pings, ticked, ticked_with, ponged, AreTo}
use Rattle.detector.specs.Slots.{probe_in, blank, carried, carried_all, with_ping, with_pings, pings_with, nonce_of, after_nonce, after_nonces, at_nonce, probe_answered, answered_where, all_missed, probe_has}
use Rattle.detector.specs.Kept.{Kept, StandsFor, DrawsFor, slots_of, probe_after}
use Rattle.detector.proofs.SlotLemmas.{take-slots, missed-judged, nonce-kept, answer_none, answered-slots}

-- ---- what is carried over to the next tick

answer_of_none : (b : Bool) (misses nonce : ℕ) (pings : List Ping) → pings ≡ [] → cond b (with_answer misses nonce pings) pings ≡ []
answer_of_none true misses nonce pings h = ap (with_answer misses nonce) h ∙ answer_none misses nonce
answer_of_none false misses nonce pings h = h

-- No ping is live of a member that wasn't watched with the epoch at the last tick.
live-other : (misses : ℕ) (happened : List Happening) (m epoch : ℕ) → is_number (last_epoch happened m) epoch ≡ false → live misses happened m epoch ≡ []
live-other misses [] m epoch h = refl
live-other misses (Ponged sender nonce ∷ before) m epoch h =
    answer_of_none (eqb m sender) misses nonce (live misses before m epoch) (live-other misses before m epoch h)
live-other misses (Ticked watched pings ∷ before) m epoch h = rw h refl

blank-after : (h : History) (w : Watched) → is_number (last_epoch h.happened w.member) w.epoch ≡ false → blank w ≡ probe_after h w.member w.epoch
blank-after h w other =
    ap (λ (pings : List Ping). record { member = w.member; epoch = w.epoch; slots = slots_of 16 pings }) (sym (live-other h.misses h.happened w.member w.epoch other))

carried-by : (h : History) (w : Watched) (o : Option ℕ) → last_epoch h.happened w.member ≡ o → carried (option_map (probe_after h w.member) o) w ≡ probe_after h w.member w.epoch
carried-by h w None e = blank-after h w (rw e refl)
carried-by h w (Some epoch) e =
    ⊎_elim
    (λ t. ap (λ b. cond b (probe_after h w.member epoch) (blank w)) t ∙ ap (probe_after h w.member) (eqb-true epoch w.epoch t))
    (λ t. ap (λ b. cond b (probe_after h w.member epoch) (blank w)) t ∙ blank-after h w (ap (λ o. is_number o w.epoch) e ∙ t))
    (either_bool (eqb epoch w.epoch))

-- What is kept of each of those watched, before pings are sent.
abbrev pub carried_after : History → Watched → Probe
carried_after h w = probe_after h w.member w.epoch

pub carried-after : (k : Kept) (h : History) (watched : List Watched) → StandsFor k h → carried_all k.probes watched ≡ map (carried_after h) watched
carried-after k h watched stands =
    map_agree (λ w. carried (probe_in k.probes w.member) w) (carried_after h) (λ w. ap (λ o. carried o w) (stands.each w.member) ∙ carried-by h w (last_epoch h.happened w.member) refl) watched

-- ---- the silent

silent_more : (b c : Bool) (p : Probe) (w : Watched) (ps : List Probe) (ws : List Watched) → b ≡ c → p.member ≡ w.member → map (λ (p : Probe). p.member) ps ≡ map (λ (w : Watched). w.member) ws → map (λ (p : Probe). p.member) (cond b (p ∷ ps) ps) ≡ map (λ (w : Watched). w.member) (cond c (w ∷ ws) ws)
silent_more true c p w ps ws e f rest = rw (← e, f, rest) refl
silent_more false c p w ps ws e f rest = rw (← e) rest

silent-all : (h : History) (watched : List Watched) → h.misses ≤ 16 → map (λ (p : Probe). p.member) (filter (all_missed h.misses) (map (carried_after h) watched)) ≡ silent h watched
silent-all h [] few = refl
silent-all h (w ∷ watched) few =
    silent_more (all_missed h.misses (carried_after h w)) (is_silent h w) (carried_after h w) w _ _ (missed-judged h.misses (live h.misses h.happened w.member w.epoch) few) refl (silent-all h watched few)

pub silent-after : (k : Kept) (h : History) (watched : List Watched) → StandsFor k h → k.group.misses ≤ 16 → map (λ (p : Probe). p.member) (filter (all_missed k.group.misses) (carried_all k.probes watched)) ≡ silent h watched
silent-after k h watched stands few =
    ap (λ ps. map (λ (p : Probe). p.member) (filter (all_missed k.group.misses) ps)) (carried-after k h watched stands)
    ∙ ap (λ misses. map (λ (p : Probe). p.member) (filter (all_missed misses) (map (carried_after h) watched))) (sym stands.misses_same)
    ∙ silent-all h watched (subst (λ misses. misses ≤ 16) (sym stands.misses_same) few)

-- ---- nonces

nonce-at : (seed : List ℕ) (k : ℕ) → nonce_of (at_nonce seed k) ≡ nonce seed k
unfolding nonce
nonce-at seed k =
    ap (λ place. word_at 10 (key_of seed) 0 (2 * k % 2 ^ 68) * 2 ^ 32 + word_at 10 (key_of seed) 0 place) (mod-add-mod (2 * k) (2 ^ 68) 1)

two_more : (k : ℕ) → 2 * k + 1 + 1 ≡ 2 * (k + 1)
two_more k = omega arith

after-at : (seed : List ℕ) (k : ℕ) → after_nonce (at_nonce seed k) ≡ at_nonce seed (k + 1)
after-at seed k =
    ap (λ place. record { key = key_of seed; stream = 0; word_pos = place })
    (ap (λ place. (place + 1) % 2 ^ 68) (mod-add-mod (2 * k) (2 ^ 68) 1) ∙ mod-add-mod (2 * k + 1) (2 ^ 68) 1 ∙ ap (λ place. place % 2 ^ 68) (two_more k))

one_each : (seed : List ℕ) (k : ℕ) (g : ChaCha) (h : History) (watched : List Watched) → g ≡ at_nonce seed k → pings_with g (map (carried_after h) watched) ≡ pings_from (nonce seed) k watched
one_each seed k g h [] e = refl
one_each seed k g h (w ∷ watched) e =
    ap (λ n. (w.member, n) ∷ pings_with (after_nonce g) (map (carried_after h) watched)) (ap nonce_of e ∙ nonce-at seed k)
    ∙ ap (λ ps. (w.member, nonce seed k) ∷ ps) (one_each seed (k + 1) (after_nonce g) h watched (ap after_nonce e ∙ after-at seed k))

more_left : (k n : ℕ) → k + 1 + n ≡ k + suc n
more_left k n = omega arith

after-each : (seed : List ℕ) (k : ℕ) (g : ChaCha) (h : History) (watched : List Watched) → g ≡ at_nonce seed k → after_nonces g (map (carried_after h) watched) ≡ at_nonce seed (k + length (pings_from (nonce seed) k watched))
after-each seed k g h [] e = e ∙ ap (at_nonce seed) (none_more k)
  where
    none_more : (k : ℕ) → k ≡ k + 0
    none_more k = omega arith
after-each seed k g h (w ∷ watched) e =
    after-each seed (k + 1) (after_nonce g) h watched (ap after_nonce e ∙ after-at seed k) ∙ ap (at_nonce seed) (more_left k (length (pings_from (nonce seed) (k + 1) watched)))

-- The pings of a tick.
abbrev pub sent_by : Kept → Bool → List Watched → List (ℕ × ℕ)
sent_by k due watched = cond due (pings_with k.words (carried_all k.probes watched)) []

-- They go to those watched.
found_probe : (m : ℕ) (probes : List Probe) (p : Probe) → probe_in probes m ≡ Some p → p.member ≡ m
found_probe m [] p h = cc
found_probe m (x ∷ probes) p h = found_more m (eqb x.member m) x p (probe_in probes m) (eqb-true x.member m) (found_probe m probes p) h
  where
    found_more : (m : ℕ) (b : Bool) (x p : Probe) (rest : Option Probe) → (b ≡ true → x.member ≡ m) → (rest ≡ Some p → p.member ≡ m) → cond b (Some x) rest ≡ Some p → p.member ≡ m
    found_more m true x p rest here there h = let e : x ≡ p = cc in subst (λ (p : Probe). p.member ≡ m) e (here refl)
    found_more m false x p rest here there h = there h

carried_to : (probes : List Probe) (w : Watched) (o : Option Probe) → probe_in probes w.member ≡ o → (carried o w).member ≡ w.member
carried_to probes w None e = refl
carried_to probes w (Some p) e = either (eqb p.epoch w.epoch) p w (found_probe w.member probes p e)
  where
    either : (b : Bool) (p : Probe) (w : Watched) → p.member ≡ w.member → (cond b p (blank w)).member ≡ w.member
    either true p w e = e
    either false p w e = refl

sent_to : (g : ChaCha) (probes : List Probe) (watched : List Watched) → map (λ (p : ℕ × ℕ). p.0) (pings_with g (carried_all probes watched)) ≡ map (λ (w : Watched). w.member) watched
sent_to g probes [] = refl
sent_to g probes (w ∷ watched) =
    ap (λ m. m ∷ map (λ (p : ℕ × ℕ). p.0) (pings_with (after_nonce g) (carried_all probes watched))) (carried_to probes w (probe_in probes w.member) refl)
    ∙ ap (λ ms. w.member ∷ ms) (sent_to (after_nonce g) probes watched)

pub sent-to : (k : Kept) (due : Bool) (watched : List Watched) → AreTo (cond due watched []) (sent_by k due watched)
sent-to k true watched = sent_to k.words k.probes watched
sent-to k false watched = refl

-- Their nonces are the next ones of the seed.
pub pings-after : (k : Kept) (h : History) (watched : List Watched) (due : Bool) → DrawsFor k h → sent_by k due watched ≡ pings h due watched
pings-after k h watched false draws = refl
pings-after k h watched true draws =
    ap (pings_with k.words) (carried-after k h watched draws.stands)
    ∙ one_each draws.seed (sent_in h.happened) k.words h watched draws.words_next
    ∙ ap (λ (nonces : ℕ → ℕ). pings_from nonces (sent_in h.happened) watched) (sym draws.source)

sum_back : (k n : ℕ) → k + n ≡ n + k
sum_back k n = omega arith

-- The generator after it.
words-after : (k : Kept) (h : History) (watched : List Watched) (due : Bool) (draws : DrawsFor k h) → cond due (after_nonces k.words (carried_all k.probes watched)) k.words ≡ at_nonce draws.seed (sent_in (ticked h due watched).happened)
words-after k h watched false draws = draws.words_next ∙ ap (at_nonce draws.seed) (none_before (sent_in h.happened))
  where
    none_before : (n : ℕ) → n ≡ 0 + n
    none_before n = omega arith
words-after k h watched true draws =
    ap (after_nonces k.words) (carried-after k h watched draws.stands)
    ∙ after-each draws.seed (sent_in h.happened) k.words h watched draws.words_next
    ∙ ap (λ (nonces : ℕ → ℕ). at_nonce draws.seed (sent_in h.happened + length (pings_from nonces (sent_in h.happened) watched))) (sym draws.source)
    ∙ ap (at_nonce draws.seed) (sum_back (sent_in h.happened) (length (pings_from h.nonces (sent_in h.happened) watched)))

-- ---- what is kept after a tick

-- The member at this epoch with these pings.
abbrev kept_with : ℕ → (ℕ → List Ping) → ℕ → Probe
kept_with m live epoch = record { member = m; epoch = epoch; slots = slots_of 16 (live epoch) }

-- The pings live at the tick, with the one sent at it.
abbrev live_with : History → ℕ → List (ℕ × ℕ) → ℕ → List Ping
live_with h m sent epoch = with_sent (find (λ p. eqb p.0 m) sent) (live h.misses h.happened m epoch)

watched_then : (m : ℕ) (F : ℕ → List Ping) (o : Option ℕ) → option_map (kept_with m (λ epoch. cond (is_number o epoch) (F epoch) [])) o ≡ option_map (kept_with m F) o
watched_then m F None = refl
watched_then m F (Some epoch) = rw (eq-eqb epoch epoch refl) refl

probe_here : (m n : ℕ) (b : Bool) (x : Probe) (ps : List Probe) (w : Watched) (h : History) (sent : List (ℕ × ℕ)) (watched : List Watched) → b ≡ true → w.member ≡ m → x ≡ with_ping n (carried_after h w) → cond b (Some x) (probe_in ps m) ≡ option_map (kept_with m (λ epoch. with_sent (cond b (Some (w.member, n)) (find (λ p. eqb p.0 m) sent)) (live h.misses h.happened m epoch))) (option_map (λ (w : Watched). w.epoch) (cond b (Some w) (find (λ w. eqb w.member m) watched)))
probe_here m n b x ps w h sent watched e same is =
    rw (e, is, ← same) (ap (λ slots. Some (record { member = w.member; epoch = w.epoch; slots = Some (record { nonce = n; answered = false }) ∷ slots })) (take-slots 15 16 (live h.misses h.happened w.member w.epoch) (omega arith)))

probe_later : (m n : ℕ) (b : Bool) (x : Probe) (ps : List Probe) (w : Watched) (h : History) (sent : List (ℕ × ℕ)) (watched : List Watched) → b ≡ false → probe_in ps m ≡ option_map (kept_with m (live_with h m sent)) (epoch_in watched m) → cond b (Some x) (probe_in ps m) ≡ option_map (kept_with m (λ epoch. with_sent (cond b (Some (w.member, n)) (find (λ p. eqb p.0 m) sent)) (live h.misses h.happened m epoch))) (option_map (λ (w : Watched). w.epoch) (cond b (Some w) (find (λ w. eqb w.member m) watched)))
probe_later m n b x ps w h sent watched e rest = rw e rest

pinged-each : (g : ChaCha) (h : History) (m : ℕ) (watched : List Watched) → probe_in (with_pings g (map (carried_after h) watched)) m ≡ option_map (kept_with m (live_with h m (pings_with g (map (carried_after h) watched)))) (epoch_in watched m)
pinged-each g h m [] = refl
pinged-each g h m (w ∷ watched) =
    ⊎_elim
    (λ t. probe_here m (nonce_of g) (eqb w.member m) (with_ping (nonce_of g) (carried_after h w)) _ w h _ watched t (eqb-true w.member m t) refl)
    (λ t. probe_later m (nonce_of g) (eqb w.member m) (with_ping (nonce_of g) (carried_after h w)) _ w h _ watched t (pinged-each (after_nonce g) h m watched))
    (either_bool (eqb w.member m))

unpinged_more : (m : ℕ) (b : Bool) (ps : List Probe) (w : Watched) (h : History) (watched : List Watched) → (b ≡ true → w.member ≡ m) → probe_in ps m ≡ option_map (kept_with m (live h.misses h.happened m)) (epoch_in watched m) → cond b (Some (carried_after h w)) (probe_in ps m) ≡ option_map (kept_with m (live h.misses h.happened m)) (option_map (λ (w : Watched). w.epoch) (cond b (Some w) (find (λ w. eqb w.member m) watched)))
unpinged_more m true ps w h watched same rest = rw (← same refl) refl
unpinged_more m false ps w h watched same rest = rest

unpinged-each : (h : History) (m : ℕ) (watched : List Watched) → probe_in (map (carried_after h) watched) m ≡ option_map (kept_with m (live h.misses h.happened m)) (epoch_in watched m)
unpinged-each h m [] = refl
unpinged-each h m (w ∷ watched) = unpinged_more m (eqb w.member m) _ w h watched (eqb-true w.member m) (unpinged-each h m watched)

kept-after : (k : Kept) (h : History) (watched : List Watched) (due : Bool) (m : ℕ) → StandsFor k h → probe_in (cond due (with_pings k.words (carried_all k.probes watched)) (carried_all k.probes watched)) m ≡ option_map (kept_with m (live_with h m (sent_by k due watched))) (epoch_in watched m)
kept-after k h watched false m stands = ap (λ ps. probe_in ps m) (carried-after k h watched stands) ∙ unpinged-each h m watched
kept-after k h watched true m stands =
    let carried = carried-after k h watched stands in
    ap (λ ps. probe_in (with_pings k.words ps) m) carried
    ∙ pinged-each k.words h m watched
    ∙ ap (λ (ps : List Probe). option_map (kept_with m (live_with h m (pings_with k.words ps))) (epoch_in watched m)) (sym carried)

-- What is kept after a tick.
abbrev pub kept_ticked : Kept → Bool → List Watched → Kept
kept_ticked k due watched =
    record {
      group = k.group;
      words = cond due (after_nonces k.words (carried_all k.probes watched)) k.words;
      probes = cond due (with_pings k.words (carried_all k.probes watched)) (carried_all k.probes watched);
    }

pub stands-ticked : (k : Kept) (h : History) (watched : List Watched) (due : Bool) → StandsFor k h → StandsFor (kept_ticked k due watched) (ticked_with h watched (sent_by k due watched))
stands-ticked k h watched due stands =
    record { misses_same = stands.misses_same; each = λ m. kept-after k h watched due m stands ∙ sym (watched_then m (live_with h m (sent_by k due watched)) (epoch_in watched m)) }

pub draws-ticked : (k : Kept) (h : History) (watched : List Watched) (due : Bool) → DrawsFor k h → DrawsFor (kept_ticked k due watched) (ticked h due watched)
draws-ticked k h watched due draws =
    record {
      stands = subst (λ (sent : List (ℕ × ℕ)). StandsFor (kept_ticked k due watched) (ticked_with h watched sent)) (pings-after k h watched due draws) (stands-ticked k h watched due draws.stands);
      seed = draws.seed;
      source = draws.source;
      words_next = words-after k h watched due draws;
    }

-- ---- a pong

counted_by : (h : History) (sender nonce : ℕ) (o : Option ℕ) → h.misses ≤ 16 → option_map_or (probe_has h.misses nonce) (option_map (probe_after h sender) o) false ≡ list_any (λ p. eqb p.nonce nonce) (option_map_or (λ epoch. take h.misses (live h.misses h.happened sender epoch)) o [])
counted_by h sender nonce None few = refl
counted_by h sender nonce (Some epoch) few = nonce-kept nonce h.misses (live h.misses h.happened sender epoch) few

pub counted : (k : Kept) (h : History) (sender nonce : ℕ) → StandsFor k h → k.group.misses ≤ 16 → option_map_or (probe_has k.group.misses nonce) (probe_in k.probes sender) false ≡ counts h sender nonce
counted k h sender nonce stands few =
    ap (λ o. option_map_or (probe_has k.group.misses nonce) o false) (stands.each sender)
    ∙ ap (λ misses. option_map_or (probe_has misses nonce) (option_map (probe_after h sender) (last_epoch h.happened sender)) false) (sym stands.misses_same)
    ∙ counted_by h sender nonce (last_epoch h.happened sender) (subst (λ misses. misses ≤ 16) (sym stands.misses_same) few)

answered_member : (b : Bool) (misses nonce : ℕ) (p : Probe) → (cond b (probe_answered misses nonce p) p).member ≡ p.member
answered_member true misses nonce p = refl
answered_member false misses nonce p = refl

pub find-more : {X : Type 0} (b c : Bool) (f : X → X) (p : X) (o q : Option X) → b ≡ c → o ≡ option_map f q → cond b (Some (f p)) o ≡ option_map f (cond c (Some p) q)
find-more true c f p o q e rest = rw (← e) refl
find-more false c f p o q e rest = rw (← e) rest

probe_in-answered : (misses sender nonce m : ℕ) (probes : List Probe) → probe_in (map (answered_where misses sender nonce) probes) m ≡ option_map (answered_where misses sender nonce) (probe_in probes m)
probe_in-answered misses sender nonce m [] = refl
probe_in-answered misses sender nonce m (p ∷ probes) =
    find-more _ (eqb p.member m) (answered_where misses sender nonce) p _ _ (ap (λ n. eqb n m) (answered_member (eqb p.member sender) misses nonce p)) (probe_in-answered misses sender nonce m probes)

answered_after : (b : Bool) (h : History) (nonce m epoch : ℕ) → cond b (probe_answered h.misses nonce (probe_after h m epoch)) (probe_after h m epoch) ≡ kept_with m (λ epoch. cond b (with_answer h.misses nonce (live h.misses h.happened m epoch)) (live h.misses h.happened m epoch)) epoch
answered_after true h nonce m epoch =
    ap (λ slots. record { member = m; epoch = epoch; slots = slots }) (answered-slots nonce h.misses 16 (live h.misses h.happened m epoch))
answered_after false h nonce m epoch = refl

answered_by_pong : (h : History) (sender nonce m : ℕ) (o : Option ℕ) → option_map (answered_where h.misses sender nonce) (option_map (probe_after h m) o) ≡ option_map (probe_after (ponged h sender nonce) m) o
answered_by_pong h sender nonce m None = refl
answered_by_pong h sender nonce m (Some epoch) = ap Some (answered_after (eqb m sender) h nonce m epoch)

pub stands-ponged : (k : Kept) (h : History) (sender nonce : ℕ) → StandsFor k h → StandsFor (record k { probes = map (answered_where k.group.misses sender nonce) k.probes }) (ponged h sender nonce)
stands-ponged k h sender nonce stands =
    record {
      misses_same = stands.misses_same;
      each = λ m. probe_in-answered k.group.misses sender nonce m k.probes ∙ ap (option_map (answered_where k.group.misses sender nonce)) (stands.each m) ∙ ap (λ misses. option_map (answered_where misses sender nonce) (option_map (probe_after h m) (last_epoch h.happened m))) (sym stands.misses_same) ∙ answered_by_pong h sender nonce m (last_epoch h.happened m);
    }

pub draws-ponged : (k : Kept) (h : History) (sender nonce : ℕ) → DrawsFor k h → DrawsFor (record k { probes = map (answered_where k.group.misses sender nonce) k.probes }) (ponged h sender nonce)
draws-ponged k h sender nonce draws = record { stands = stands-ponged k h sender nonce draws.stands; seed = draws.seed; source = draws.source; words_next = draws.words_next }

-- ---- a pong that does not count

or_neither : (a b : Bool) → (a || b) ≡ false → (a ≡ false) × (b ≡ false)
or_neither true b h = absurd (false≢true (sym h))
or_neither false b h = (refl, h)

-- A pong whose nonce none of the kept pings has answers none.
answer_unheard : (misses nonce : ℕ) (pings : List Ping) → list_any (λ p. eqb p.nonce nonce) (take misses pings) ≡ false → with_answer misses nonce pings ≡ pings
answer_unheard zero nonce pings h = refl
answer_unheard (suc misses) nonce [] h = refl
answer_unheard (suc misses) nonce (p ∷ pings) h =
    let both = or_neither (eqb p.nonce nonce) (list_any (λ p. eqb p.nonce nonce) (take misses pings)) h in
    ap (λ b. cond b (record p { answered = true }) p ∷ with_answer misses nonce pings) both.0 ∙ ap (λ ps. p ∷ ps) (answer_unheard misses nonce pings both.1)

live_unheard : (b : Bool) (misses nonce : ℕ) (pings : List Ping) → (b ≡ true → list_any (λ p. eqb p.nonce nonce) (take misses pings) ≡ false) → cond b (with_answer misses nonce pings) pings ≡ pings
live_unheard true misses nonce pings h = answer_unheard misses nonce pings (h refl)
live_unheard false misses nonce pings h = refl

probe_unheard : (h : History) (sender nonce m : ℕ) (o : Option ℕ) → last_epoch h.happened m ≡ o → counts h sender nonce ≡ false → option_map (probe_after h m) o ≡ option_map (probe_after (ponged h sender nonce) m) o
probe_unheard h sender nonce m None e unheard = refl
probe_unheard h sender nonce m (Some epoch) e unheard =
    ap (λ (pings : List Ping). Some (record { member = m; epoch = epoch; slots = slots_of 16 pings }))
    (sym (live_unheard (eqb m sender) h.misses nonce (live h.misses h.happened m epoch) (λ t.
    ap (λ o. list_any (λ p. eqb p.nonce nonce) (option_map_or (λ epoch. take h.misses (live h.misses h.happened m epoch)) o [])) (sym e)
    ∙ ap (λ s. list_any (λ p. eqb p.nonce nonce) (kept h s)) (eqb-true m sender t) ∙ unheard)))

-- What is kept stands for the history with a pong that does not count, as it is.
pub stands-unheard : (k : Kept) (h : History) (sender nonce : ℕ) → StandsFor k h → counts h sender nonce ≡ false → StandsFor k (ponged h sender nonce)
stands-unheard k h sender nonce stands unheard =
    record { misses_same = stands.misses_same; each = λ m. stands.each m ∙ probe_unheard h sender nonce m (last_epoch h.happened m) refl unheard }

pub draws-unheard : (k : Kept) (h : History) (sender nonce : ℕ) → DrawsFor k h → counts h sender nonce ≡ false → DrawsFor k (ponged h sender nonce)
draws-unheard k h sender nonce draws unheard = record { stands = stands-unheard k h sender nonce draws.stands unheard; seed = draws.seed; source = draws.source; words_next = draws.words_next }
