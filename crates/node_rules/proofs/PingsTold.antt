-- What a tick tells of its pings: between what it tells whatever they are. So ticks with pings to the same members differ in nonces
-- alone, and the nonces are those that were sent.
use Rattle.std.proofs.Common.{◌≡◌, ℕ, ◌+◌, ◌^◌, ◌<◌, Bool, true, false, cond, List, [], ◌∷◌, ◌++◌, length, filter, map, get_or, drop, Option, Some, None, inl, inr, refl, ap, sym, ◌∙◌, subst}
use Rattle.std.specs.Int.{w64, to_be_bytes, from_be_bytes}
use Rattle.std.specs.Option.{option_map_or}
use Rattle.std.proofs.lemmas.Nat.{from_be_bytes-to_be_bytes_8}
use Rattle.std.proofs.lemmas.Bool.{cond_both, false≢true}
use Rattle.std.proofs.lemmas.List.{append_assoc, length-append, length-map}
use Rattle.std.proofs.lemmas.List.Elements.{filter-append}
use Rattle.ff_ids.specs.declared.summary.Summary.{Summary}
use Rattle.ff_ids.specs.Views.{State}
use Rattle.ff_ids.specs.Steps.{Event, Ticks, step}
use Rattle.records.specs.declared.Body.{Body}
use Rattle.records.specs.declared.Record.{Record}
use Rattle.epoch_store.specs.declared.Stored.{Stored}
use Rattle.datagram.specs.declared.Datagram.{Datagram}
use Rattle.datagram.specs.declared.Datagram.TheVariants as kinds
use Rattle.datagram.specs.Spelling.{head_bytes, is_wide, summary_kind, summary_bytes, datagram_bytes}
use Rattle.detector.specs.Silence.{History}
use Rattle.journal.specs.declared.event.Event as journal
use Rattle.journal.specs.declared.event.What as whats
use Rattle.journal.specs.declared.event.What.TheVariants as told
use Rattle.node_rules.specs.Nodes.{Setting, Node, state_of, event_of, neighbours, neighbours_and}
use Rattle.node_rules.specs.Pages.{page, partner, page_number}
use Rattle.node_rules.specs.Calls.{Call, begun, tells, lives, takes, spends, signs, signs_and_sends, wants, sends, sends_to_all, is_used_up, own_record, told_of}
use Rattle.node_rules.specs.Lives.{is_of_life}
use Rattle.node_rules.specs.Ticking.{accusation_on, ring_for, has_accused, wants_accusation, accuses, accuses_all, fresh, spreads_all, spreads, is_due, silent_in, round_of, pings_all, summary_to, passed, probed_at, spread_at, due_tick}
use Rattle.node_rules.specs.Verdicts.{all_at, told_that}
use Rattle.node_rules.specs.Sending.{sendings}
use Rattle.node_rules.specs.Outgoing.{at_tick, to_accuse, accusations_out, news_out, pings_out, summary_out}
use Rattle.node_rules.specs.OtherNonces.{probes_with, probed_with, ticked_sending, ping_at, AlikeButNonces, AllAlike, HaveSameMembers, DifferInNonces, AreToldWith, is_ping, is_ping_sent, is_of_ping, with_nonce_in, renonced, before_pings}
use Rattle.node_rules.proofs.Accusations.{only_kept-accuses_all, state-spread}
use Rattle.node_rules.proofs.Handling.{nil-right, picked, that-tells, unlived}
use Rattle.node_rules.proofs.Ticks.{all-sent, pings-sent, starts, stored-spread, sent-spread}
use Rattle.node_rules.proofs.Gains.{node-pings, node-due}
use Rattle.node_rules.proofs.Sources.{with_probes, over, over-due, node-accused_over}

-- ---- the bytes of a ping

pub pings-apart : (d : Datagram) → is_ping (datagram_bytes d) ≡ is_of_ping d
unfolding head_bytes
pings-apart (kinds.Ping from nonce) = refl
pings-apart (kinds.Pong from nonce) = refl
pings-apart (kinds.Summary from flag summary) = by_width (is_wide summary)
  where
    by_width : (wide : Bool) → is_ping (head_bytes (summary_kind wide) from ++ summary_bytes wide flag summary) ≡ false
    by_width true = refl
    by_width false = refl
pings-apart (kinds.Records from records) = refl

same-end : (xs ys zs : List ℕ) → xs ++ ys ≡ xs ++ zs → ys ≡ zs
same-end [] ys zs e = e
same-end (x ∷ xs) ys zs e = same-end xs ys zs (behind (xs ++ ys) (xs ++ zs) e)
  where
    behind : (one other : List ℕ) → x ∷ one ≡ x ∷ other → one ≡ other
    behind one other e = cc

pub nonces-shown : (from nonce other : ℕ) → nonce < 2 ^ 64 → other < 2 ^ 64 → datagram_bytes (kinds.Ping from nonce) ≡ datagram_bytes (kinds.Ping from other) → nonce ≡ other
nonces-shown from nonce other fits too e =
    sym (from_be_bytes-to_be_bytes_8 nonce fits) ∙ ap (from_be_bytes w64) (same-end (head_bytes 1 from) (to_be_bytes w64 nonce) (to_be_bytes w64 other) e)
    ∙ from_be_bytes-to_be_bytes_8 other too

-- ---- what tells of no ping

-- None of the events is of a ping.
abbrev Unpinged : Call → Type 0
Unpinged c = told_that is_ping_sent c ≡ []

no_ping : (moment : ℕ) (what : whats.What) → is_ping_sent what ≡ false → picked is_ping_sent moment (what ∷ []) ≡ []
no_ping moment what h = cc

of_life : (what : whats.What) → is_of_life what ≡ true → is_ping_sent what ≡ false
of_life (told.Sent place to bytes) h = absurd (false≢true h)
of_life other h = refl

no-tells : (s : Setting) (what : whats.What) (c : Call) → is_ping_sent what ≡ false → Unpinged c → Unpinged (tells s what c)
no-tells s what c none h =
    that-tells is_ping_sent s what c ∙ ap (λ xs. xs ++ picked is_ping_sent (state_of s c.node).moment (what ∷ [])) h ∙ no_ping (state_of s c.node).moment what none

no-lives : (s : Setting) (e : Event) (c : Call) → Unpinged c → Unpinged (lives s e c)
unfolding lives
no-lives s e c h =
    let stepped = step s.group (state_of s c.node) e in
    let reported : List journal.Event = told_of stepped.state.moment stepped.report in
    let among : List journal.Event → List journal.Event = λ xs. filter (λ (x : journal.Event). is_ping_sent x.what) xs in
    filter-append (λ (x : journal.Event). is_ping_sent x.what) c.told reported ∙ ap (λ xs. xs ++ among reported) h ∙ unlived is_ping_sent s e c of_life

no-takes : (s : Setting) (r : Record) (c : Call) → Unpinged c → Unpinged (takes s r c)
unfolding takes
no-takes s r c h = no-lives s (event_of s r.body) c h

no-signs : (s : Setting) (body : Body) (c : Call) → Unpinged c → Unpinged (signs s body c)
unfolding signs
no-signs s body c h = no-takes s (own_record s c.node body) (spends s body c) (no-tells s (told.Spent c.node.stored.next body) c refl h)

no-sends : (s : Setting) (d : Datagram) (c : Call) (to : ℕ) → is_of_ping d ≡ false → Unpinged c → Unpinged (sends s d c to)
unfolding sends
no-sends s d c to other h = no-tells s (told.Sent (length c.sent) to (datagram_bytes d)) c (pings-apart d ∙ other) h

no-sends_to_all : (s : Setting) (addressees : List ℕ) (d : Datagram) (c : Call) → is_of_ping d ≡ false → Unpinged c → Unpinged (sends_to_all s addressees d c)
no-sends_to_all s [] d c other h = h
no-sends_to_all s (to ∷ addressees) d c other h = no-sends_to_all s addressees d (sends s d c to) other (no-sends s d c to other h)

no-wants : (s : Setting) (body : Body) (addressees : State → List ℕ) (c : Call) → Unpinged c → Unpinged (wants true s body addressees c)
unfolding wants signs_and_sends
no-wants s body addressees c h =
    let c1 : Call = signs s body c in
    let d : Datagram = kinds.Records s.me (own_record s c.node body ∷ []) in
    let all : List ℕ = addressees (state_of s c1.node) in
    cond_both (is_used_up s c.node) (tells s (told.Exhausted c.node.stored.next) c) (sends_to_all s all d c1) Unpinged
    (λ up. no-tells s (told.Exhausted c.node.stored.next) c refl h)
    (λ left. no-sends_to_all s all d c1 refl (no-signs s body c h))

no-wants_accusation : (s : Setting) (m : ℕ) (ring : Option ℕ) (c : Call) → Unpinged c → Unpinged (wants_accusation true s m ring c)
no-wants_accusation s m None c h = h
no-wants_accusation s m (Some ring) c h = no-wants s (accusation_on s (state_of s c.node) m ring) (neighbours_and s m) c h

no-accuses : (s : Setting) (c : Call) (m : ℕ) → Unpinged c → Unpinged (accuses true s c m)
unfolding accuses
no-accuses s c m h =
    let c1 : Call = tells s (told.Silent m) c in
    let ring : Option ℕ = ring_for s (state_of s c.node) m in
    cond_both (has_accused s (state_of s c.node) m) c (wants_accusation true s m ring c1) Unpinged
    (λ already. h)
    (λ none. no-wants_accusation s m ring c1 (no-tells s (told.Silent m) c refl h))

no-accuses_all : (s : Setting) (silent : List ℕ) (c : Call) → Unpinged c → Unpinged (accuses_all s silent c)
no-accuses_all s [] c h = h
no-accuses_all s (m ∷ silent) c h = no-accuses_all s silent (accuses true s c m) (no-accuses s c m h)

no-spreads_all : (s : Setting) (records : List Record) (c : Call) → Unpinged c → Unpinged (spreads_all s records c)
no-spreads_all s [] c h = h
no-spreads_all s (r ∷ records) c h = no-sends_to_all s (neighbours s (state_of s c.node)) (kinds.Records s.me (r ∷ records)) c refl h

no-spreads : (s : Setting) (c : Call) → Unpinged c → Unpinged (spreads s c)
unfolding spreads
no-spreads s c h = no-spreads_all s (fresh c.node) c h

no-probed : (s : Setting) (n : Node) → Unpinged (probed_at s n)
unfolding probed_at passed
no-probed s n = no-lives s Ticks (begun n) refl

-- ---- the three parts of what a due tick tells

-- The tick before its pings.
abbrev before : Setting → Node → Call
before s n = accuses_all s (silent_in s (at_tick s n) (state_of s (at_tick s n))) (spreads s (probed_at s n))

no-before : (s : Setting) (n : Node) → Unpinged (before s n)
no-before s n = no-accuses_all s (silent_in s (at_tick s n) (state_of s (at_tick s n))) (spreads s (probed_at s n)) (no-spreads s (probed_at s n) (no-probed s n))

moment-before : (s : Setting) (n : Node) → (state_of s (before s n).node).moment ≡ (state_of s (at_tick s n)).moment
unfolding spread_at
moment-before s n =
    let kept = only_kept-accuses_all s (silent_in s (at_tick s n) (state_of s (at_tick s n))) (spread_at s n) in
    ap (λ (x : State). x.moment) kept.1 ∙ ap (λ (x : State). x.moment) (state-spread s n)

sent-before : (s : Setting) (n : Node) → length (before s n).sent ≡ before_pings s n
unfolding spread_at
sent-before s n =
    let p : Node = at_tick s n in
    let st : State = state_of s p in
    let out : Stored → List (ℕ × List ℕ) = λ k. accusations_out s st k.next (to_accuse s p st) in
    ap length (all-sent s st (spread_at s n) 0 (silent_in s p st) (starts s n) ∙ ap (λ xs. xs ++ out (spread_at s n).node.stored) (sent-spread s n) ∙ ap (λ k. news_out s st p ++ out k) (stored-spread s n))

-- The pings, each with its place.
abbrev of_pings : Setting → ℕ → ℕ → List (ℕ × ℕ) → List journal.Event
of_pings s moment place sent = all_at moment (sendings place (pings_out s sent))

pings-told : (s : Setting) (sent : List (ℕ × ℕ)) (c : Call) → (pings_all s sent c).told ≡ c.told ++ of_pings s (state_of s c.node).moment (length c.sent) sent
unfolding sends
pings-told s [] c = sym (nil-right c.told)
pings-told s (p ∷ sent) c =
    let c1 : Call = sends s (kinds.Ping s.me p.1) c p.0 in
    let moment : ℕ = (state_of s c.node).moment in
    let first : journal.Event = ping_at s moment (length c.sent) p.0 p.1 in
    let longer : length c1.sent ≡ length c.sent + 1 = length-append c.sent ((p.0, datagram_bytes (kinds.Ping s.me p.1)) ∷ []) in
    pings-told s sent c1 ∙ ap (λ k. (c.told ++ first ∷ []) ++ of_pings s moment k sent) longer
    ∙ append_assoc c.told (first ∷ []) (of_pings s moment (length c.sent + 1) sent)

summary-told : (s : Setting) (round : ℕ) (to : Option ℕ) (c : Call) → partner s c.node round ≡ to → (summary_to s round to c).told ≡ c.told ++ all_at (state_of s c.node).moment (sendings (length c.sent) (summary_out s c.node round))
unfolding sends
summary-told s round None c h = rw h (sym (nil-right c.told))
summary-told s round (Some to) c h = rw h refl

-- What is told of the summary, where so many datagrams went out before it.
abbrev of_summary : Setting → Node → ℕ → List journal.Event
of_summary s n place =
    let c = before s n in
    all_at (state_of s c.node).moment (sendings place (summary_out s c.node (round_of s (state_of s (at_tick s n)))))

-- A due tick tells what comes before its pings, these, and the summary.
abbrev told_with : Setting → Node → List (ℕ × ℕ) → List journal.Event
told_with s n sent =
    let c = before s n in
    c.told ++ of_pings s (state_of s c.node).moment (length c.sent) sent ++ of_summary s n (length c.sent + length sent)

due-told : (s : Setting) (n : Node) (sent : List (ℕ × ℕ)) → (due_tick s (silent_in s (at_tick s n) (state_of s (at_tick s n))) sent (round_of s (state_of s (at_tick s n))) (probed_with s n sent)).told ≡ told_with s n sent
unfolding due_tick probed_with
due-told s n sent =
    let p : Node = at_tick s n in
    let st : State = state_of s p in
    let silent : List ℕ = silent_in s p st in
    let round : ℕ = round_of s st in
    let c : Call = before s n in
    let c1 : Call = pings_all s sent c in
    let moment : ℕ = (state_of s c.node).moment in
    let out : Node → ℕ → List journal.Event = λ m k. all_at (state_of s m).moment (sendings k (summary_out s m round)) in
    let place : length c1.sent ≡ length c.sent + length sent =
    ap length (pings-sent s sent c) ∙ length-append c.sent (pings_out s sent) ∙ ap (λ k. length c.sent + k) (length-map sent (λ (p : ℕ × ℕ). (p.0, datagram_bytes (kinds.Ping s.me p.1)))) in
    ap (λ (x : Call). x.told) (over-due s silent sent round (probes_with s n sent) (probed_at s n))
    ∙ summary-told s round (partner s c1.node round) c1 refl
    ∙ ap (λ (m : Node). c1.told ++ out m (length c1.sent)) (node-pings s sent c)
    ∙ ap (λ k. c1.told ++ out c.node k) place
    ∙ ap (λ xs. xs ++ out c.node (length c.sent + length sent)) (pings-told s sent c)

-- Any other tick tells what its passing tells.
told-case : (b : Bool) (x y : Call) (xs ys : List journal.Event) → x.told ≡ xs → y.told ≡ ys → (cond b x y).told ≡ cond b xs ys
told-case true x y xs ys h k = h
told-case false x y xs ys h k = k

abbrev tells_with : Setting → Node → List (ℕ × ℕ) → List journal.Event
tells_with s n sent = cond (is_due s (state_of s (at_tick s n))) (told_with s n sent) (probed_at s n).told

told-never : (s : Setting) (n : Node) (sent : List (ℕ × ℕ)) → (probed_with s n sent).told ≡ (probed_at s n).told
unfolding probed_with
told-never s n sent = refl

ticked-told : (s : Setting) (n : Node) (sent : List (ℕ × ℕ)) → (ticked_sending s n sent).told ≡ tells_with s n sent
unfolding ticked_sending
ticked-told s n sent =
    let p : Node = at_tick s n in
    let st : State = state_of s p in
    told-case (is_due s st) (due_tick s (silent_in s p st) sent (round_of s st) (probed_with s n sent)) (probed_with s n sent) (told_with s n sent) (probed_at s n).told
    (due-told s n sent) (told-never s n sent)

-- ---- the pings among these

pick : (b : Bool) (e : journal.Event) (xs ys : List journal.Event) → b ≡ true → xs ≡ ys → cond b (e ∷ xs) xs ≡ e ∷ ys
pick true e xs ys t h = ap (λ zs. e ∷ zs) h
pick false e xs ys t h = absurd (false≢true t)

picked-pings : (s : Setting) (moment place : ℕ) (sent : List (ℕ × ℕ)) → picked is_ping_sent moment (sendings place (pings_out s sent)) ≡ of_pings s moment place sent
picked-pings s moment place [] = refl
picked-pings s moment place (p ∷ sent) =
    pick (is_ping (datagram_bytes (kinds.Ping s.me p.1))) (ping_at s moment place p.0 p.1) (picked is_ping_sent moment (sendings (place + 1) (pings_out s sent))) (of_pings s moment (place + 1) sent)
    (pings-apart (kinds.Ping s.me p.1)) (picked-pings s moment (place + 1) sent)

summary-quiet : (s : Setting) (moment place : ℕ) (page : Summary) (o : Option ℕ) → picked is_ping_sent moment (sendings place (option_map_or (λ to. (to, datagram_bytes (kinds.Summary s.me false page)) ∷ []) o [])) ≡ []
summary-quiet s moment place page None = refl
summary-quiet s moment place page (Some to) =
    no_ping moment (told.Sent place to (datagram_bytes (kinds.Summary s.me false page))) (pings-apart (kinds.Summary s.me false page))

no-summary : (s : Setting) (n : Node) (place : ℕ) → filter (λ (e : journal.Event). is_ping_sent e.what) (of_summary s n place) ≡ []
no-summary s n place =
    let c : Call = before s n in
    let round : ℕ = round_of s (state_of s (at_tick s n)) in
    summary-quiet s (state_of s c.node).moment place (page c.node (page_number s c.node round)) (partner s c.node round)

pings-among : (s : Setting) (n : Node) (sent : List (ℕ × ℕ)) → filter (λ (e : journal.Event). is_ping_sent e.what) (told_with s n sent) ≡ of_pings s (state_of s (at_tick s n)).moment (before_pings s n) sent
pings-among s n sent =
    let c : Call = before s n in
    let moment : ℕ = (state_of s c.node).moment in
    let place : ℕ = length c.sent in
    let among : List journal.Event → List journal.Event = λ xs. filter (λ (e : journal.Event). is_ping_sent e.what) xs in
    let mid : List journal.Event = of_pings s moment place sent in
    let last : List journal.Event = of_summary s n (place + length sent) in
    filter-append (λ (e : journal.Event). is_ping_sent e.what) (c.told ++ mid) last
    ∙ ap (λ xs. xs ++ among last) (filter-append (λ (e : journal.Event). is_ping_sent e.what) c.told mid ∙ ap (λ xs. xs ++ among mid) (no-before s n) ∙ picked-pings s moment place sent)
    ∙ ap (λ xs. mid ++ xs) (no-summary s n (place + length sent))
    ∙ nil-right mid
    ∙ ap (λ m. of_pings s m place sent) (moment-before s n)
    ∙ ap (λ k. of_pings s (state_of s (at_tick s n)).moment k sent) (sent-before s n)

among-case : (b : Bool) (xs ys zs : List journal.Event) → filter (λ (e : journal.Event). is_ping_sent e.what) xs ≡ zs → filter (λ (e : journal.Event). is_ping_sent e.what) ys ≡ []
    → filter (λ (e : journal.Event). is_ping_sent e.what) (cond b xs ys) ≡ cond b zs []
among-case true xs ys zs h k = h
among-case false xs ys zs h k = k

pub told-pings : (s : Setting) (n : Node) (sent : List (ℕ × ℕ))
    → told_that is_ping_sent (ticked_sending s n sent) ≡ cond (is_due s (state_of s (at_tick s n))) (all_at (state_of s (at_tick s n)).moment (sendings (before_pings s n) (pings_out s sent))) []
told-pings s n sent =
    ap (filter (λ (e : journal.Event). is_ping_sent e.what)) (ticked-told s n sent)
    ∙ among-case (is_due s (state_of s (at_tick s n))) (told_with s n sent) (probed_at s n).told (of_pings s (state_of s (at_tick s n)).moment (before_pings s n) sent) (pings-among s n sent) (no-probed s n)

-- ---- alike

pub alike-same : (s : Setting) (xs : List journal.Event) → AllAlike s xs xs
alike-same s [] = tt
alike-same s (x ∷ xs) = (inl refl, alike-same s xs)

pub alike-append : (s : Setting) (xs ys one other : List journal.Event) → AllAlike s xs one → AllAlike s ys other → AllAlike s (xs ++ ys) (one ++ other)
alike-append s [] ys [] other h k = k
alike-append s [] ys (y ∷ one) other h k = absurd h
alike-append s (x ∷ xs) ys [] other h k = absurd h
alike-append s (x ∷ xs) ys (y ∷ one) other h k = (h.0, alike-append s xs ys one other h.1 k)

no-more : (p : ℕ) (ps : List ℕ) → p ∷ ps ≡ [] → ⊥
no-more p ps e = cc

pub alike-pings : (s : Setting) (moment place : ℕ) (one other : List (ℕ × ℕ)) → HaveSameMembers one other → AllAlike s (of_pings s moment place one) (of_pings s moment place other)
alike-pings s moment place [] [] h = tt
alike-pings s moment place [] (q ∷ other) h = absurd (no-more q.0 (map (λ (p : ℕ × ℕ). p.0) other) (sym h))
alike-pings s moment place (p ∷ one) [] h = absurd (no-more p.0 (map (λ (p : ℕ × ℕ). p.0) one) h)
alike-pings s moment place (p ∷ one) (q ∷ other) h =
    let here : p.0 ≡ q.0 = cc in
    let rest : HaveSameMembers one other = cc in (
      inr (record { moment = moment; place = place; to = p.0; nonce = p.1; other_nonce = q.1; one_so = refl; other_so = ap (λ m. ping_at s moment place m q.1) (sym here) }),
      alike-pings s moment (place + 1) one other rest,
    )

pub same-length : (one other : List (ℕ × ℕ)) → HaveSameMembers one other → length one ≡ length other
same-length one other h = sym (length-map one (λ (p : ℕ × ℕ). p.0)) ∙ ap length h ∙ length-map other (λ (p : ℕ × ℕ). p.0)

alike-due : (s : Setting) (n : Node) (one other : List (ℕ × ℕ)) → HaveSameMembers one other → AllAlike s (told_with s n one) (told_with s n other)
alike-due s n one other h =
    let c : Call = before s n in
    let moment : ℕ = (state_of s c.node).moment in
    let place : ℕ = length c.sent in
    let pings : List (ℕ × ℕ) → List journal.Event = of_pings s moment place in
    let last : ℕ → List journal.Event = λ k. of_summary s n (place + k) in
    alike-append s (c.told ++ pings one) (last (length one)) (c.told ++ pings other) (last (length other))
    (alike-append s c.told (pings one) c.told (pings other) (alike-same s c.told) (alike-pings s moment place one other h))
    (subst (λ k. AllAlike s (last (length one)) (last k)) (same-length one other h) (alike-same s (last (length one))))

alike-case : (s : Setting) (b : Bool) (xs ys one other : List journal.Event) → AllAlike s xs one → AllAlike s ys other → AllAlike s (cond b xs ys) (cond b one other)
alike-case s true xs ys one other h k = h
alike-case s false xs ys one other h k = k

node-case : (h : History) (b : Bool) (x y x1 y1 : Call) → x1.node ≡ with_probes h x.node → y1.node ≡ with_probes h y.node → (cond b x1 y1).node ≡ with_probes h (cond b x y).node
node-case h true x y x1 y1 e f = e
node-case h false x y x1 y1 e f = f

node-due_tick : (s : Setting) (accused : List ℕ) (sent : List (ℕ × ℕ)) (round : ℕ) (h : History) (c : Call) → (due_tick s accused sent round (over h c)).node ≡ with_probes h (accuses_all s accused (spreads s c)).node
node-due_tick s accused sent round h c = node-due s accused sent round (over h c) ∙ node-accused_over s accused h c

pub node-differs : (s : Setting) (n : Node) (one other : List (ℕ × ℕ)) → (ticked_sending s n other).node ≡ with_probes (probes_with s n other) (ticked_sending s n one).node
unfolding ticked_sending probed_with
node-differs s n one other =
    let p : Node = at_tick s n in
    let st : State = state_of s p in
    let silent : List ℕ = silent_in s p st in
    let round : ℕ = round_of s st in
    let c : Call = probed_at s n in
    let h : List (ℕ × ℕ) → History = probes_with s n in
    let due : List (ℕ × ℕ) → Call = λ sent. due_tick s silent sent round (over (h sent) c) in
    node-case (h other) (is_due s st) (due one) (over (h one) c) (due other) (over (h other) c)
    (node-due_tick s silent other round (h other) c ∙ sym (ap (with_probes (h other)) (node-due_tick s silent one round (h one) c)))
    refl

pub differ : (s : Setting) (n : Node) (one other : List (ℕ × ℕ)) → HaveSameMembers one other → DifferInNonces s n one other
differ s n one other h =
    let b : Bool = is_due s (state_of s (at_tick s n)) in
    let never : List journal.Event = (probed_at s n).told in
    record {
      told_alike = subst (λ xs. AllAlike s xs (ticked_sending s n other).told) (sym (ticked-told s n one))
          (subst (AllAlike s (tells_with s n one)) (sym (ticked-told s n other))
          (alike-case s b (told_with s n one) never (told_with s n other) never (alike-due s n one other h) (alike-same s never)));
      node_so = node-differs s n one other;
    }

-- ---- other nonces

none-in_front : (b : Bool) (x : journal.Event) (xs : List journal.Event) → cond b (x ∷ xs) xs ≡ [] → (b ≡ false) × (xs ≡ [])
none-in_front true x xs h = cc
none-in_front false x xs h = (refl, h)

renonced-case : (s : Setting) (b : Bool) (e : journal.Event) (xs ys : List journal.Event) → b ≡ false → cond b xs (e ∷ ys) ≡ e ∷ ys
renonced-case s true e xs ys none = absurd (false≢true (sym none))
renonced-case s false e xs ys none = refl

-- What is of no ping stays.
renonced-quiet : (s : Setting) (xs ys : List journal.Event) (nonces : List ℕ) → filter (λ (e : journal.Event). is_ping_sent e.what) xs ≡ [] → renonced s (xs ++ ys) nonces ≡ xs ++ renonced s ys nonces
renonced-quiet s [] ys nonces none = refl
renonced-quiet s (x ∷ xs) ys nonces none =
    let both = none-in_front (is_ping_sent x.what) x (filter (λ (e : journal.Event). is_ping_sent e.what) xs) none in
    renonced-case s (is_ping_sent x.what) x (record x { what = with_nonce_in s (get_or nonces 0 0) x.what } ∷ renonced s (xs ++ ys) (drop 1 nonces)) (renonced s (xs ++ ys) nonces) both.0
    ∙ ap (λ zs. x ∷ zs) (renonced-quiet s xs ys nonces both.1)

renonced-one : (b : Bool) (e : journal.Event) (xs ys : List journal.Event) → b ≡ true → cond b (e ∷ xs) ys ≡ e ∷ xs
renonced-one true e xs ys is = refl
renonced-one false e xs ys is = absurd (false≢true is)

-- The nonces of pings.
abbrev nonces_in : List (ℕ × ℕ) → List ℕ
nonces_in sent = map (λ p. p.1) sent

renonced-pings : (s : Setting) (moment place : ℕ) (sent other : List (ℕ × ℕ)) (ys : List journal.Event) → HaveSameMembers sent other
    → renonced s (of_pings s moment place sent ++ ys) (nonces_in other) ≡ of_pings s moment place other ++ renonced s ys []
renonced-pings s moment place [] [] ys same = refl
renonced-pings s moment place [] (q ∷ other) ys same = absurd (no-more q.0 (map (λ (p : ℕ × ℕ). p.0) other) (sym same))
renonced-pings s moment place (p ∷ sent) [] ys same = absurd (no-more p.0 (map (λ (p : ℕ × ℕ). p.0) sent) same)
renonced-pings s moment place (p ∷ sent) (q ∷ other) ys same =
    let here : p.0 ≡ q.0 = cc in
    let rest : HaveSameMembers sent other = cc in
    let later : List journal.Event = of_pings s moment (place + 1) sent ++ ys in
    renonced-one (is_ping (datagram_bytes (kinds.Ping s.me p.1))) (ping_at s moment place p.0 q.1) (renonced s later (nonces_in other)) (ping_at s moment place p.0 p.1 ∷ renonced s later (nonces_in (q ∷ other)))
    (pings-apart (kinds.Ping s.me p.1))
    ∙ ap (λ m. ping_at s moment place m q.1 ∷ renonced s later (nonces_in other)) here
    ∙ ap (λ zs. ping_at s moment place q.0 q.1 ∷ zs) (renonced-pings s moment (place + 1) sent other ys rest)

-- Nothing stays of pings.
renonced-all : (s : Setting) (xs : List journal.Event) (nonces : List ℕ) → filter (λ (e : journal.Event). is_ping_sent e.what) xs ≡ [] → renonced s xs nonces ≡ xs
renonced-all s xs nonces none = ap (λ zs. renonced s zs nonces) (sym (nil-right xs)) ∙ renonced-quiet s xs [] nonces none ∙ nil-right xs

renonced-due : (s : Setting) (n : Node) (sent other : List (ℕ × ℕ)) → HaveSameMembers sent other → told_with s n other ≡ renonced s (told_with s n sent) (nonces_in other)
renonced-due s n sent other same =
    let c : Call = before s n in
    let moment : ℕ = (state_of s c.node).moment in
    let place : ℕ = length c.sent in
    let mid : List (ℕ × ℕ) → List journal.Event = of_pings s moment place in
    let last : ℕ → List journal.Event = λ k. of_summary s n (place + k) in
    let end : List journal.Event = last (length sent) in
    let to : renonced s (told_with s n sent) (nonces_in other) ≡ c.told ++ (mid other ++ end) =
    ap (λ zs. renonced s zs (nonces_in other)) (append_assoc c.told (mid sent) end)
    ∙ renonced-quiet s c.told (mid sent ++ end) (nonces_in other) (no-before s n)
    ∙ ap (λ zs. c.told ++ zs) (renonced-pings s moment place sent other end same)
    ∙ ap (λ zs. c.told ++ (mid other ++ zs)) (renonced-all s end [] (no-summary s n (place + length sent))) in
    ap (λ k. (c.told ++ mid other) ++ last k) (sym (same-length sent other same)) ∙ append_assoc c.told (mid other) end ∙ sym to

renonced-tick : (s : Setting) (n : Node) (sent other : List (ℕ × ℕ)) (b : Bool) → HaveSameMembers sent other
    → cond b (told_with s n other) (probed_at s n).told ≡ renonced s (cond b (told_with s n sent) (probed_at s n).told) (nonces_in other)
renonced-tick s n sent other true same = renonced-due s n sent other same
renonced-tick s n sent other false same = sym (renonced-all s (probed_at s n).told (nonces_in other) (no-probed s n))

pub told-renonced : (s : Setting) (n : Node) (sent other : List (ℕ × ℕ)) → HaveSameMembers sent other
    → (ticked_sending s n other).told ≡ renonced s (ticked_sending s n sent).told (map (λ (p : ℕ × ℕ). p.1) other)
told-renonced s n sent other same =
    ticked-told s n other ∙ renonced-tick s n sent other (is_due s (state_of s (at_tick s n))) same
    ∙ ap (λ zs. renonced s zs (nonces_in other)) (sym (ticked-told s n sent))

-- ---- nonces that are shown

pub alike-split : (s : Setting) (xs ys zs : List journal.Event) → AllAlike s (xs ++ ys) zs
    → (one : List journal.Event) × (other : List journal.Event) × ((zs ≡ one ++ other) × AllAlike s xs one × AllAlike s ys other)
alike-split s [] ys zs h = ([], zs, (refl, tt, h))
alike-split s (x ∷ xs) ys [] h = absurd h
alike-split s (x ∷ xs) ys (z ∷ zs) h =
    let r = alike-split s xs ys zs h.1 in
    (z ∷ r.0, r.1, (ap (λ l. z ∷ l) r.2.0, (h.0, r.2.1), r.2.2))

pub quiet-one : (s : Setting) (x y : journal.Event) → is_ping_sent x.what ≡ false → AlikeButNonces s x y → x ≡ y
quiet-one s x y none (inl e) = e
quiet-one s x y none (inr w) =
    absurd (false≢true (sym none ∙ ap (λ (e : journal.Event). is_ping_sent e.what) w.one_so ∙ pings-apart (kinds.Ping s.me w.nonce)))

-- What is alike to events that are of no ping is the same.
pub quiet-all : (s : Setting) (xs ys : List journal.Event) → filter (λ (e : journal.Event). is_ping_sent e.what) xs ≡ [] → AllAlike s xs ys → xs ≡ ys
quiet-all s [] [] none h = refl
quiet-all s [] (y ∷ ys) none h = absurd h
quiet-all s (x ∷ xs) [] none h = absurd h
quiet-all s (x ∷ xs) (y ∷ ys) none h =
    let both = none-in_front (is_ping_sent x.what) x (filter (λ (e : journal.Event). is_ping_sent e.what) xs) none in
    ap (λ (e : journal.Event). e ∷ xs) (quiet-one s x y both.0 h.0) ∙ ap (λ l. y ∷ l) (quiet-all s xs ys both.1 h.1)

abbrev place_of : whats.What → ℕ
place_of (told.Sent place to bytes) = place
place_of other = 0

abbrev to_of : whats.What → ℕ
to_of (told.Sent place to bytes) = to
to_of other = 0

-- What is alike to a ping is one to the same member.
pub shown-one : (s : Setting) (moment place to nonce : ℕ) (y : journal.Event) → AlikeButNonces s (ping_at s moment place to nonce) y → (other : ℕ) × (y ≡ ping_at s moment place to other)
shown-one s moment place to nonce y (inl e) = (nonce, sym e)
shown-one s moment place to nonce y (inr w) =
    let m : moment ≡ w.moment = ap (λ (e : journal.Event). e.moment) w.one_so in
    let k : place ≡ w.place = ap (λ (e : journal.Event). place_of e.what) w.one_so in
    let t : to ≡ w.to = ap (λ (e : journal.Event). to_of e.what) w.one_so in
    (w.other_nonce, w.other_so ∙ ap (λ x. ping_at s x w.place w.to w.other_nonce) (sym m) ∙ ap (λ x. ping_at s moment x w.to w.other_nonce) (sym k) ∙ ap (λ x. ping_at s moment place x w.other_nonce) (sym t))

shown-pings : (s : Setting) (moment place : ℕ) (sent : List (ℕ × ℕ)) (shown : List journal.Event) → AllAlike s (of_pings s moment place sent) shown
    → (pings : List (ℕ × ℕ)) × (HaveSameMembers sent pings × (of_pings s moment place pings ≡ shown))
shown-pings s moment place [] [] h = ([], (refl, refl))
shown-pings s moment place [] (y ∷ shown) h = absurd h
shown-pings s moment place (p ∷ sent) [] h = absurd h
shown-pings s moment place (p ∷ sent) (y ∷ shown) h =
    let first = shown-one s moment place p.0 p.1 y h.0 in
    let rest = shown-pings s moment (place + 1) sent shown h.1 in
    ((p.0, first.0) ∷ rest.0, (ap (λ l. p.0 ∷ l) rest.1.0, ap (λ l. ping_at s moment place p.0 first.0 ∷ l) rest.1.1 ∙ ap (λ (e : journal.Event). e ∷ shown) (sym first.1)))

shown-due : (s : Setting) (n : Node) (sent : List (ℕ × ℕ)) (shown : List journal.Event) → AllAlike s (told_with s n sent) shown
    → (pings : List (ℕ × ℕ)) × (HaveSameMembers sent pings × (told_with s n pings ≡ shown))
shown-due s n sent shown h =
    let c : Call = before s n in
    let moment : ℕ = (state_of s c.node).moment in
    let place : ℕ = length c.sent in
    let mid : List (ℕ × ℕ) → List journal.Event = of_pings s moment place in
    let last : ℕ → List journal.Event = λ k. of_summary s n (place + k) in
    let outer = alike-split s (c.told ++ mid sent) (last (length sent)) shown h in
    let inner = alike-split s c.told (mid sent) outer.0 outer.2.1 in
    let front : c.told ≡ inner.0 = quiet-all s c.told inner.0 (no-before s n) inner.2.1 in
    let back : last (length sent) ≡ outer.1 = quiet-all s (last (length sent)) outer.1 (no-summary s n (place + length sent)) outer.2.2 in
    let pings = shown-pings s moment place sent inner.1 inner.2.2 in (
      pings.0,
      (
        pings.1.0,
        ap (λ k. (c.told ++ mid pings.0) ++ last k) (sym (same-length sent pings.0 pings.1.0))
            ∙ ap (λ xs. (c.told ++ mid pings.0) ++ xs) back
            ∙ ap (λ xs. (c.told ++ xs) ++ outer.1) pings.1.1
            ∙ ap (λ xs. (xs ++ inner.1) ++ outer.1) front
            ∙ ap (λ xs. xs ++ outer.1) (sym inner.2.0)
            ∙ sym outer.2.0,
      ),
    )

shown-case : (s : Setting) (n : Node) (sent : List (ℕ × ℕ)) (shown : List journal.Event) (b : Bool) → AllAlike s (cond b (told_with s n sent) (probed_at s n).told) shown
    → (pings : List (ℕ × ℕ)) × (HaveSameMembers sent pings × (cond b (told_with s n pings) (probed_at s n).told ≡ shown))
shown-case s n sent shown true h = shown-due s n sent shown h
shown-case s n sent shown false h = (sent, (refl, quiet-all s (probed_at s n).told shown (no-probed s n) h))

pub shown-told : (s : Setting) (n : Node) (sent : List (ℕ × ℕ)) (shown : List journal.Event) → AllAlike s (ticked_sending s n sent).told shown → AreToldWith s n sent shown
shown-told s n sent shown h =
    let r = shown-case s n sent shown (is_due s (state_of s (at_tick s n))) (subst (λ xs. AllAlike s xs shown) (ticked-told s n sent) h) in
    record { pings = r.0; same_members = r.1.0; told_so = ticked-told s n r.0 ∙ r.1.1 }
