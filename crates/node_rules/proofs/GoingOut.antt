-- What a node signs against a silent member goes to that member.
use Rattle.std.proofs.Common.{◌≡◌, ℕ, ◌+◌, Bool, true, false, cond, not, eqb, List, [], ◌∷◌, ◌++◌, filter, map, inl, inr, refl, ap, sym, ◌∙◌, subst}
use Rattle.std.specs.Prelude.{Contains}
use Rattle.std.specs.List.{list_any}
use Rattle.std.proofs.lemmas.Bool.{cond_both, eq-eqb, false≢true}
use Rattle.ff_ids.specs.declared.AccBody.{AccBody}
use Rattle.ff_ids.specs.Views.{State, all_numbers}
use Rattle.life_laws.proofs.Lists.{Contains-from_In, In, In-append_left, In-append_right, In-filter, In-from_Contains, In-from_filter, In-from_map, any_from_In}
use Rattle.detector.specs.declared.watch.Watched.{Watched}
use Rattle.detector.specs.Watching.{as_watched, is_watched}
use Rattle.detector.specs.Silence.{is_silent}
use Rattle.records.specs.declared.Body.{Body}
use Rattle.records.specs.declared.Body.TheVariants.{Accusation}
use Rattle.datagram.specs.declared.Datagram.TheVariants as kinds
use Rattle.journal.specs.declared.event.Event as journal
use Rattle.journal.specs.declared.event.What as whats
use Rattle.journal.specs.declared.event.What.TheVariants as told
use Rattle.node_rules.specs.Nodes.{Setting, Node, neighbours_and, state_of, successors}
use Rattle.node_rules.specs.Calls.{Call}
use Rattle.node_rules.specs.Ticking.{has_accused, is_due, pings_in, round_of, silent_in, ticked, watched_by}
use Rattle.node_rules.specs.Lives.{Input, Delivers, Ticks, Leaves, call_of}
use Rattle.node_rules.specs.Verdicts.{is_apart, told_that}
use Rattle.node_rules.specs.Answering.{to_each}
use Rattle.node_rules.specs.Outgoing.{accusation_by, accusation_of, accusations_out, accusing_told, at_tick, goes_out, news_out, pings_out, summary_out, to_accuse, unaccused}
use Rattle.node_rules.specs.Sending.{TellsSendings, is_sent, sendings}
use Rattle.node_rules.specs.GoingOut.{SendsOwn, own_datagram}
use Rattle.node_rules.proofs.Handling.{in-all_at}
use Rattle.node_rules.proofs.Sendings.{call-sendings}
use Rattle.node_rules.proofs.Ticks.{only-silent, silent-never, tick-sends, tick-tells}

abbrev spent : ℕ → Body → whats.What
spent index body = told.Spent index body

-- ---- one accusation

silent-not : (m index : ℕ) (b : Body) → told.Silent m ≡ spent index b → ⊥
silent-not m index b e = cc

used-not : (next index : ℕ) (b : Body) → told.Exhausted next ≡ spent index b → ⊥
used-not next index b e = cc

spent-index : (k index : ℕ) (b c : Body) → spent k b ≡ spent index c → k ≡ index
spent-index k index b c e = cc

spent-body : (k index : ℕ) (b c : Body) → spent k b ≡ spent index c → b ≡ c
spent-body k index b c e = cc

against : (x a : AccBody) → Accusation x ≡ Accusation a → x.accused ≡ a.accused
against x a e = ap (λ (y : AccBody). y.accused) (same x a e)
  where
    same : (x a : AccBody) → Accusation x ≡ Accusation a → x ≡ a
    same x a e = cc

of-member : (s : Setting) (st : State) (m : ℕ) (a : AccBody) → accusation_of s st m ≡ Accusation a → m ≡ a.accused
of-member s st m a is = against _ a is

same-number : (m : ℕ) → eqb m m ≡ true
same-number m = eq-eqb m m refl

-- an accusation goes to the accused
listed : (s : Setting) (m : ℕ) (st : State) → In all_numbers m → In (neighbours_and s m st) m
unfolding neighbours_and
listed s m st i = In-filter (λ k. list_any (λ x. eqb x k) (m ∷ successors s st)) all_numbers m i (any_from_In (λ x. eqb x m) (m ∷ successors s st) m (inl refl) (same-number m))

in-map : {X Y : Type 0} (f : X → Y) (xs : List X) (x : X) → In xs x → In (map f xs) (f x)
in-map f [] x i = absurd i
in-map f (y ∷ xs) x (inl e) = inl (ap f e)
in-map f (y ∷ xs) x (inr i) = inr (in-map f xs x i)

abbrev addressed : ℕ → List ℕ → ℕ × List ℕ
addressed to bytes = (to, bytes)

same-datagram : (s : Setting) (st : State) (index m k : ℕ) (a : AccBody) → spent index (accusation_of s st m) ≡ spent k (Accusation a)
    → addressed m (own_datagram s index (accusation_of s st m)) ≡ addressed a.accused (own_datagram s k (Accusation a))
same-datagram s st index m k a e =
    let body : accusation_of s st m ≡ Accusation a = spent-body index k (accusation_of s st m) (Accusation a) e in
    ap (λ (to : ℕ). addressed to (own_datagram s index (accusation_of s st m))) (of-member s st m a body)
    ∙ ap (λ (j : ℕ). addressed a.accused (own_datagram s j (accusation_of s st m))) (spent-index index k (accusation_of s st m) (Accusation a) e)
    ∙ ap (λ (b : Body). addressed a.accused (own_datagram s k b)) body

one-out : (s : Setting) (st : State) (index m k : ℕ) (a : AccBody) → In all_numbers m → spent index (accusation_of s st m) ≡ spent k (Accusation a)
    → In (to_each (neighbours_and s m st) (kinds.Records s.me (accusation_by s st index m ∷ []))) (addressed a.accused (own_datagram s k (Accusation a)))
one-out s st index m k a number e =
    subst (In (to_each (neighbours_and s m st) (kinds.Records s.me (accusation_by s st index m ∷ [])))) (same-datagram s st index m k a e)
    (in-map (λ (to : ℕ). addressed to (own_datagram s index (accusation_of s st m))) (neighbours_and s m st) m (listed s m st number))

-- ---- all of a tick

-- a key that is used up spends nothing
none-spent : (s : Setting) (st : State) (index : ℕ) (ms : List ℕ) (k : ℕ) (b : Body) → eqb index s.indexes ≡ true → In (accusing_told s st index ms) (spent k b) → ⊥
none-spent s st index [] k b up i = i
none-spent s st index (m ∷ ms) k b up (inl e) = silent-not m k b e
none-spent s st index (m ∷ ms) k b up (inr i) = by (none-spent s st index ms k b up) (eqb index s.indexes) up i
  where
    by : (In (accusing_told s st index ms) (spent k b) → ⊥) → (t : Bool) → t ≡ true
        → In (cond t (told.Exhausted index ∷ accusing_told s st index ms) (told.Spent index (accusation_of s st m) ∷ accusing_told s st (index + 1) ms)) (spent k b) → ⊥
    by later true up (inl e) = used-not index k b e
    by later true up (inr j) = later j
    by later false up j = absurd (false≢true up)

all-out : (s : Setting) (st : State) (index : ℕ) (ms : List ℕ) (k : ℕ) (a : AccBody) → ((m : ℕ) → In ms m → In all_numbers m) → In (accusing_told s st index ms) (spent k (Accusation a))
    → In (accusations_out s st index ms) (addressed a.accused (own_datagram s k (Accusation a)))
all-out s st index [] k a numbers i = absurd i
all-out s st index (m ∷ ms) k a numbers (inl e) = absurd (silent-not m k (Accusation a) e)
all-out s st index (m ∷ ms) k a numbers (inr i) = by (all-out s st (index + 1) ms k a (λ x j. numbers x (inr j))) (eqb index s.indexes) refl i
  where
    by : (In (accusing_told s st (index + 1) ms) (spent k (Accusation a)) → In (accusations_out s st (index + 1) ms) (addressed a.accused (own_datagram s k (Accusation a)))) → (t : Bool) → eqb index s.indexes ≡ t
        → In (cond t (told.Exhausted index ∷ accusing_told s st index ms) (told.Spent index (accusation_of s st m) ∷ accusing_told s st (index + 1) ms)) (spent k (Accusation a))
        → In (cond t [] (to_each (neighbours_and s m st) (kinds.Records s.me (accusation_by s st index m ∷ [])) ++ accusations_out s st (index + 1) ms)) (addressed a.accused (own_datagram s k (Accusation a)))
    by later true up (inl e) = absurd (used-not index k (Accusation a) e)
    by later true up (inr j) = absurd (none-spent s st index ms k (Accusation a) up j)
    by later false left (inl e) = In-append_left _ (accusations_out s st (index + 1) ms) _ (one-out s st index m k a (numbers m (inl refl)) e)
    by later false left (inr j) = In-append_right (to_each (neighbours_and s m st) (kinds.Records s.me (accusation_by s st index m ∷ []))) _ _ (later j)

silent-number : (s : Setting) (p : Node) (st : State) (m : ℕ) → In (silent_in s p st) m → In all_numbers m
silent-number s p st m =
    cond_both (is_due s st) (map (λ (w : Watched). w.member) (filter (is_silent p.probes) (watched_by s st))) [] (λ xs. In xs m → In all_numbers m)
    (λ due i.
    let w = In-from_map (λ (w : Watched). w.member) (filter (is_silent p.probes) (watched_by s st)) m i in
    let v = In-from_filter (is_silent p.probes) (watched_by s st) w.0 w.1.0 in
    let x = In-from_map (as_watched st) (filter (is_watched s.group.t st s.me) all_numbers) w.0 v.0 in
    let here = In-from_filter (is_watched s.group.t st s.me) all_numbers x.0 x.1.0 in
    subst (In all_numbers) (ap (λ (y : Watched). y.member) x.1.1 ∙ w.1.1) here.0)
    (λ never i. absurd i)

-- where the tick is due, the accusations are among what goes out
among-out : (s : Setting) (p : Node) (st : State) (later : Node) (k : ℕ) (a : AccBody) → In (accusing_told s st p.stored.next (to_accuse s p st)) (spent k (Accusation a))
    → In (goes_out s p st later) (addressed a.accused (own_datagram s k (Accusation a)))
among-out s p st later k a i = by (is_due s st) refl
  where
    numbers : (m : ℕ) → In (to_accuse s p st) m → In all_numbers m
    numbers m j = silent-number s p st m (In-from_filter (λ x. not (has_accused s st x)) (silent_in s p st) m j).0

    never : is_due s st ≡ false → ⊥
    never off = subst (λ (xs : List ℕ). In (accusing_told s st p.stored.next (unaccused s st xs)) (spent k (Accusation a))) (silent-never s p st off) i

    out : List (ℕ × List ℕ)
    out = accusations_out s st p.stored.next (to_accuse s p st)

    by : (t : Bool) → is_due s st ≡ t
        → In (cond t (((news_out s st p ++ accusations_out s st p.stored.next (to_accuse s p st)) ++ pings_out s (pings_in s p st)) ++ summary_out s later (round_of s st)) [])
        (addressed a.accused (own_datagram s k (Accusation a)))
    by false off = absurd (never off)
    by true due =
        let d = addressed a.accused (own_datagram s k (Accusation a)) in
        let front = news_out s st p ++ out in
        In-append_left (front ++ pings_out s (pings_in s p st)) (summary_out s later (round_of s st)) d
        (In-append_left front (pings_out s (pings_in s p st)) d
        (In-append_right (news_out s st p) out d (all-out s st p.stored.next (to_accuse s p st) k a numbers i)))

tick-goes : (s : Setting) (n : Node) (moment index : ℕ) (a : AccBody) → In (ticked s n).told (record { moment = moment; what = spent index (Accusation a) })
    → In (ticked s n).sent (addressed a.accused (own_datagram s index (Accusation a)))
tick-goes s n moment index a i =
    let p : Node = at_tick s n in
    let st : State = state_of s p in
    let e : journal.Event = record { moment = moment; what = spent index (Accusation a) } in
    let j : In (told_that is_apart (ticked s n)) e = In-filter (λ (x : journal.Event). is_apart x.what) (ticked s n).told e i refl in
    let ws : List whats.What = accusing_told s st p.stored.next (to_accuse s p st) in
    let w : In ws (spent index (Accusation a)) = in-all_at st.moment moment ws (spent index (Accusation a)) (subst (λ xs. In xs e) (tick-tells s n) j) in
    subst (λ (xs : List (ℕ × List ℕ)). In xs (addressed a.accused (own_datagram s index (Accusation a)))) (sym (tick-sends s n)) (among-out s p st (ticked s n).node index a w)

-- ---- what is sent is reported

record IsPlaced (k : ℕ) (sent : List (ℕ × List ℕ)) (to : ℕ) (bytes : List ℕ) : Type 0 where
  place : ℕ
  among : In (sendings k sent) (told.Sent place to bytes)

placed : (k : ℕ) (sent : List (ℕ × List ℕ)) (to : ℕ) (bytes : List ℕ) → In sent (addressed to bytes) → IsPlaced k sent to bytes
placed k [] to bytes i = absurd i
placed k (d ∷ sent) to bytes (inl e) = record { place = k; among = inl (ap (λ (x : ℕ × List ℕ). told.Sent k x.0 x.1) e) }
placed k (d ∷ sent) to bytes (inr i) = let x = placed (k + 1) sent to bytes i in record { place = x.place; among = inr x.among }

reported : (s : Setting) (c : Call) (to index : ℕ) (body : Body) → TellsSendings c → In c.sent (addressed to (own_datagram s index body)) → SendsOwn s c to index body
reported s c to index body tells i =
    let bytes : List ℕ = own_datagram s index body in
    let x = placed 0 c.sent to bytes i in
    let there = subst (λ (ws : List whats.What). In ws (told.Sent x.place to bytes)) (sym tells) x.among in
    let e = In-from_map (λ (y : journal.Event). y.what) (told_that is_sent c) (told.Sent x.place to bytes) there in
    let within : In c.told e.0 = (In-from_filter (λ (y : journal.Event). is_sent y.what) c.told e.0 e.1.0).0 in
    record {
      moment = e.0.moment;
      place = x.place;
      reported = Contains-from_In c.told _ (subst (λ (w : whats.What). In c.told (record { moment = e.0.moment; what = w })) e.1.1 within);
    }

delivers-not : (bytes : List ℕ) → Delivers bytes ≡ Ticks → ⊥
delivers-not bytes e = cc

leaves-not : Leaves ≡ Ticks → ⊥
leaves-not e = cc

pub accusations-go-out : (s : Setting) (n : Node) (i : Input) (moment index : ℕ) (a : AccBody) → Contains (call_of s n i).told (record { moment = moment; what = told.Spent index (Accusation a) })
    → SendsOwn s (call_of s n i) a.accused index (Accusation a)
accusations-go-out s n (Delivers bytes) moment index a of = absurd (delivers-not bytes (only-silent s n (Delivers bytes) a (moment, index, of)).0)
accusations-go-out s n Leaves moment index a of = absurd (leaves-not (only-silent s n Leaves a (moment, index, of)).0)
accusations-go-out s n Ticks moment index a of =
    reported s (ticked s n) a.accused index (Accusation a) (call-sendings s n Ticks) (tick-goes s n moment index a (In-from_Contains (ticked s n).told (record { moment = moment; what = spent index (Accusation a) }) of))
