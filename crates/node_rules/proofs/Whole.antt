-- What a whole call keeps that each of its steps keeps. Of a tick it is what holds once the tick has passed in the life.
use Rattle.std.proofs.Common.{◌≡◌, ℕ, ◌≤◌, ◌<◌, Bool, true, false, eqb, cond, inl, inr, ◌⊎◌, List, [], ◌∷◌, length, Option, Some, None, refl, ap, sym, subst, arith}
use Rattle.std.specs.Prelude.{◌&&◌, Result, Ok, Err, filter_map}
use Rattle.std.specs.List.{AllByRecursion, flat_map}
use Rattle.std.proofs.lemmas.Bool.{cond_both, and_parts}
use Rattle.ff_ids.specs.declared.AccBody.{AccBody}
use Rattle.ff_ids.specs.declared.Fault.{Fault}
use Rattle.ff_ids.specs.declared.NoteBody.{NoteBody}
use Rattle.ff_ids.specs.declared.summary.RecordKey.{RecordKey}
use Rattle.ff_ids.specs.declared.summary.Summary.{Summary}
use Rattle.ff_ids.specs.Views.{State}
use Rattle.records.specs.declared.Body.{Body}
use Rattle.records.specs.declared.Body.TheVariants.{Certificate, Note, Accusation}
use Rattle.records.specs.declared.Record.{Record}
use Rattle.records.specs.Spelling.{record_bytes}
use Rattle.record_set.specs.Held.{key_of}
use Rattle.record_set.proofs.KeyLemmas.{is_key-same}
use Rattle.epoch_store.specs.declared.Stored.{Stored}
use Rattle.datagram.specs.declared.Datagram.{Datagram}
use Rattle.datagram.specs.declared.Datagram.TheVariants as kinds
use Rattle.datagram.specs.Grammar.{read_of}
use Rattle.detector.specs.Silence.{History, ponged, counts}
use Rattle.journal.specs.declared.event.What as whats
use Rattle.journal.specs.declared.event.What.TheVariants as told
use Rattle.node_rules.specs.Nodes.{Setting, Node, state_of, event_of, without_removal, neighbours, neighbours_and}
use Rattle.node_rules.specs.Pages.{page, partner, page_number, lacking, room, wanted}
use Rattle.node_rules.specs.Refusals.{refusal}
use Rattle.node_rules.specs.Calls.{Call, begun, tells, lives, takes, spends, signs, signs_and_sends, wants, sends, sends_to_all, is_used_up, own_record}
use Rattle.node_rules.specs.Deliveries.{answer_to, returning_note, may_rise, is_told, asked_of, asked_with, gives_note, settles, handles, handles_all, is_other, gives, replies, exchanges, pinged, ponged_by, hears, delivered}
use Rattle.node_rules.specs.Ticking.{accusation_on, ring_for, has_accused, wants_accusation, accuses, accuses_all, fresh, spreads_all, spreads, is_due, begins_span, silent_in, pings_in, probes_after, pings_all, summary_to, round_of, passed, probed_at, due_tick, ticked}
use Rattle.node_rules.specs.Leaving.{leaving, leaves, left}
use Rattle.node_rules.specs.Lives.{Input, Delivers, Ticks as Tick, Leaves, call_of}
use Rattle.node_rules.specs.Told.{is_of_call}
use Rattle.node_rules.proofs.Small.{node-sends, stored-takes}
use Rattle.node_rules.proofs.Carrying.{AsksBack}
use Rattle.node_rules.proofs.Exchanges.{all-filter_map}
use Rattle.node_rules.proofs.Sendable.{fitting-all, fitting-short, lacking-short}
use Rattle.node_rules.proofs.Walks.{HasGiven, IsInput}

-- ---- what is sent

abbrev IsHeld : Node → Record → Type 0
IsHeld n r = (k : RecordKey) × (n.held k ≡ Some r)

-- The records are held, and fit, or there is one.
pub record AreHeld (s : Setting) (n : Node) (from : ℕ) (records : List Record) : Type 0 where
  pub sender : from ≡ s.me
  pub some : 0 < length records
  pub each : AllByRecursion (λ r. (k : RecordKey) × (n.held k ≡ Some r)) records
  pub short : (length (flat_map record_bytes records) ≤ room) ⊎ (length records ≡ 1)

abbrev pub IsOfHeld : Setting → Node → Datagram → Type 0
IsOfHeld s n (kinds.Ping from nonce) = Unit {0}
IsOfHeld s n (kinds.Pong from nonce) = Unit {0}
IsOfHeld s n (kinds.Summary from flag summary) = Unit {0}
IsOfHeld s n (kinds.Records from records) = AreHeld s n from records

held-takes_it : (s : Setting) (r : Record) (c : Call) → (takes s r c).node.held (key_of r.body) ≡ Some r
unfolding takes
held-takes_it s r c = ap (λ b. cond b (Some r) (without_removal r.body (lives s (event_of s r.body) c).node.held (key_of r.body))) (is_key-same (key_of r.body))

held-signs_it : (s : Setting) (body : Body) (c : Call) → (signs s body c).node.held (key_of body) ≡ Some (own_record s c.node body)
unfolding signs
held-signs_it s body c = held-takes_it s (own_record s c.node body) (spends s body c)

own-held : (s : Setting) (body : Body) (c : Call) → AreHeld s (signs s body c).node s.me (own_record s c.node body ∷ [])
own-held s body c = record { sender = refl; some = omega arith; each = ((key_of body, held-signs_it s body c), tt); short = inr refl }

some-held : (s : Setting) (n : Node) (r : Record) (records : List Record) → AllByRecursion (IsHeld n) (r ∷ records) → length (flat_map record_bytes (r ∷ records)) ≤ room → AreHeld s n s.me (r ∷ records)
some-held s n r records each short = record { sender = refl; some = omega arith; each = each; short = inl short }

lacking-held : (n : Node) (from : ℕ) (theirs : Summary) → AllByRecursion (IsHeld n) (lacking n from theirs)
unfolding lacking
lacking-held n from theirs = fitting-all (IsHeld n) room (filter_map n.held (wanted n from theirs)) (all-filter_map n.held (wanted n from theirs))

fresh-held : (n : Node) → AllByRecursion (IsHeld n) (fresh n)
unfolding fresh
fresh-held n = fitting-all (IsHeld n) room (filter_map n.held n.news) (all-filter_map n.held n.news)

fresh-short : (n : Node) → length (flat_map record_bytes (fresh n)) ≤ room
unfolding fresh
fresh-short n = fitting-short room (filter_map n.held n.news)

-- ---- the steps

-- Each step of a whole call keeps it, where the records that it is handed are so.
pub record Goes (s : Setting) (Given : Record → Type 0) (P : Call → Type 0) : Type 0 where
  pub told : (what : whats.What) (c : Call) → is_of_call what ≡ true → P c → P (tells s what c)
  pub sent : (d : Datagram) (c : Call) (to : ℕ) → IsOfHeld s c.node d → P c → P (sends s d c to)
  pub taken : (r : Record) (c : Call) → Given r → refusal s c.node r ≡ None → P c → P (takes s r c)
  pub answered : (r : Record) (a : AccBody) (c : Call) → Given r → refusal s c.node r ≡ None → r.body ≡ Accusation a → eqb a.accused s.me ≡ true → may_rise s.heal c.node ≡ true
      → is_used_up s (takes s r c).node ≡ false → P c → P (signs s (answer_to s (takes s r c).node.stored a) (takes s r c))
  pub returned : (r : Record) (a : AccBody) (c : Call) → AsksBack s c.node r a → may_rise s.heal c.node ≡ true → is_used_up s c.node ≡ false → P c
      → P (signs s (Note (returning_note s c.node.stored)) c)
  pub accused : (m ring : ℕ) (c : Call) → ring_for s (state_of s c.node) m ≡ Some ring → is_used_up s c.node ≡ false → P c → P (signs s (accusation_on s (state_of s c.node) m ring) c)
  pub departed : (c : Call) → is_used_up s c.node ≡ false → P c → P (signs s (leaving s c.node.stored) c)
  pub probed : (h : History) (c : Call) → P c → P (record c { node = record c.node { probes = h } })
  pub spanned : (c : Call) → P c → P (record c { node = record c.node { since = c.node.stored.epoch } })
  pub spread : (c : Call) → P c → P (record c { node = record c.node { news = [] } })

goes-sends_to_all : (s : Setting) (Given : Record → Type 0) (P : Call → Type 0) → Goes s Given P → (addressees : List ℕ) (d : Datagram) (c : Call) → IsOfHeld s c.node d → P c → P (sends_to_all s addressees d c)
goes-sends_to_all s Given P k [] d c held h = h
goes-sends_to_all s Given P k (to ∷ addressees) d c held h =
    goes-sends_to_all s Given P k addressees d (sends s d c to) (subst (λ n. IsOfHeld s n d) (sym (node-sends s d c to)) held) (k.sent d c to held h)

goes-wants : (s : Setting) (Given : Record → Type 0) (P : Call → Type 0) → Goes s Given P → (body : Body) (addressees : State → List ℕ) (c : Call) → P c → (is_used_up s c.node ≡ false → P (signs s body c)) → P (wants true s body addressees c)
unfolding wants signs_and_sends
goes-wants s Given P k body addressees c h signed =
    let d : Datagram = kinds.Records s.me (own_record s c.node body ∷ []) in
    let c1 : Call = signs s body c in
    let all : List ℕ = addressees (state_of s c1.node) in
    cond_both (is_used_up s c.node) (tells s (told.Exhausted c.node.stored.next) c) (sends_to_all s all d c1) P
    (λ yes. k.told (told.Exhausted c.node.stored.next) c refl h)
    (λ no. goes-sends_to_all s Given P k all d c1 (own-held s body c) (signed no))

-- ---- records

goes-settles : (s : Setting) (Given : Record → Type 0) (P : Call → Type 0) → Goes s Given P → (f : Option Fault) (r : Record) (c : Call) → Given r → refusal s c.node r ≡ f → P c → P (settles s f r c)
goes-settles s Given P k (Some f) r c given e h = k.told (told.Took r.body (Some f)) c refl h
goes-settles s Given P k None r c given e h = k.taken r (tells s (told.Took r.body None) c) given e (k.told (told.Took r.body None) c refl h)

goes-asked_of : (s : Setting) (Given : Record → Type 0) (P : Call → Type 0) → Goes s Given P → (f : Option Fault) (a : AccBody) (r : Record) (c : Call) → Given r
    → refusal s c.node r ≡ f → r.body ≡ Accusation a → eqb a.accused s.me ≡ true → may_rise s.heal c.node ≡ true → P c → P (gives_note true s (asked_of s c.node f a r) (settles s f r c))
goes-asked_of s Given P k None a r c given e is me may h =
    let c1 : Call = tells s (told.Took r.body None) c in
    let c2 : Call = takes s r c1 in
    let h1 : P c1 = k.told (told.Took r.body None) c refl h in
    let kept : c2.node.stored ≡ c.node.stored = stored-takes s r c1 in
    goes-wants s Given P k (answer_to s c.node.stored a) (neighbours s) c2 (k.taken r c1 given e h1)
    (λ left. subst (λ (x : Stored). P (signs s (answer_to s x a) c2)) kept (k.answered r a c1 given e is me may left h1))
goes-asked_of s Given P k (Some f) a r c given e is me may h =
    let note : NoteBody = returning_note s c.node.stored in
    let c1 : Call = tells s (told.Took r.body (Some f)) c in
    let h1 : P c1 = k.told (told.Took r.body (Some f)) c refl h in
    cond_both (is_told s c.node f a r) (Some note) None (λ o. P (gives_note true s o c1))
    (λ heard. goes-wants s Given P k (Note note) (neighbours s) c1 h1 (λ left. k.returned r a c1 (record { fault = f; refused = e; is = is; me = me; told = heard }) may left h1))
    (λ no. h1)

goes-asked : (s : Setting) (Given : Record → Type 0) (P : Call → Type 0) → Goes s Given P → (f : Option Fault) (b : Body) (r : Record) (c : Call) → Given r
    → refusal s c.node r ≡ f → r.body ≡ b → P c → P (gives_note true s (asked_with s c.node f b r) (settles s f r c))
goes-asked s Given P k f (Certificate x) r c given e is h = goes-settles s Given P k f r c given e h
goes-asked s Given P k f (Note x) r c given e is h = goes-settles s Given P k f r c given e h
goes-asked s Given P k f (Accusation a) r c given e is h =
    cond_both (eqb a.accused s.me && may_rise s.heal c.node) (asked_of s c.node f a r) None (λ o. P (gives_note true s o (settles s f r c)))
    (λ yes. let both = and_parts _ _ yes in goes-asked_of s Given P k f a r c given e is both.0 both.1 h)
    (λ no. goes-settles s Given P k f r c given e h)

goes-handles : (s : Setting) (Given : Record → Type 0) (P : Call → Type 0) → Goes s Given P → (c : Call) (r : Record) → Given r → P c → P (handles true s c r)
unfolding handles
goes-handles s Given P k c r given h = goes-asked s Given P k (refusal s c.node r) r.body r c given refl refl h

goes-handles_all : (s : Setting) (Given : Record → Type 0) (P : Call → Type 0) → Goes s Given P → (records : List Record) (c : Call) → AllByRecursion Given records → P c → P (handles_all s records c)
goes-handles_all s Given P k [] c all h = h
goes-handles_all s Given P k (r ∷ records) c all h = goes-handles_all s Given P k records (handles true s c r) all.1 (goes-handles s Given P k c r all.0 h)

-- ---- probes and summaries

goes-gives : (s : Setting) (Given : Record → Type 0) (P : Call → Type 0) → Goes s Given P → (to : ℕ) (records : List Record) (c : Call) → AllByRecursion (IsHeld c.node) records → length (flat_map record_bytes records) ≤ room → P c → P (gives s to records c)
goes-gives s Given P k to [] c each short h = h
goes-gives s Given P k to (r ∷ records) c each short h = k.sent (kinds.Records s.me (r ∷ records)) c to (some-held s c.node r records each short) h

goes-replies : (s : Setting) (Given : Record → Type 0) (P : Call → Type 0) → Goes s Given P → (to : ℕ) (flag : Bool) (number : ℕ) (c : Call) → P c → P (replies s to flag number c)
goes-replies s Given P k to true number c h = h
goes-replies s Given P k to false number c h = k.sent (kinds.Summary s.me true (page c.node number)) c to tt h

goes-exchanges : (s : Setting) (Given : Record → Type 0) (P : Call → Type 0) → Goes s Given P → (from : ℕ) (flag : Bool) (theirs : Summary) (c : Call) → P c → P (exchanges s from flag theirs c)
goes-exchanges s Given P k from flag theirs c h =
    let c1 : Call = tells s (told.Summary from theirs.page flag) c in
    let h1 : P c1 = k.told (told.Summary from theirs.page flag) c refl h in
    let c2 : Call = gives s from (lacking c.node from theirs) c1 in
    cond_both (is_other s c.node from) (replies s from flag theirs.page c2) c1 P
    (λ yes. goes-replies s Given P k from flag theirs.page c2 (goes-gives s Given P k from (lacking c.node from theirs) c1 (lacking-held c.node from theirs) (lacking-short c.node from theirs) h1))
    (λ no. h1)

goes-pinged : (s : Setting) (Given : Record → Type 0) (P : Call → Type 0) → Goes s Given P → (from nonce : ℕ) (c : Call) → P c → P (pinged s from nonce c)
goes-pinged s Given P k from nonce c h =
    let c1 : Call = tells s (told.Ping from nonce) c in
    let h1 : P c1 = k.told (told.Ping from nonce) c refl h in
    cond_both (is_other s c.node from) (sends s (kinds.Pong s.me nonce) c1 from) c1 P (λ yes. k.sent (kinds.Pong s.me nonce) c1 from tt h1) (λ no. h1)

goes-ponged : (s : Setting) (Given : Record → Type 0) (P : Call → Type 0) → Goes s Given P → (from nonce : ℕ) (c : Call) → P c → P (ponged_by s from nonce c)
goes-ponged s Given P k from nonce c h =
    let what : whats.What = told.Pong from nonce (counts c.node.probes from nonce) in
    k.probed (ponged c.node.probes from nonce) (tells s what c) (k.told what c refl h)

goes-hears : (s : Setting) (Given : Record → Type 0) (P : Call → Type 0) → Goes s Given P → (d : Result Datagram ℕ) (c : Call) → HasGiven Given d → P c → P (hears s d c)
goes-hears s Given P k (Err place) c given h = k.told (told.BadForm place) c refl h
goes-hears s Given P k (Ok (kinds.Ping from nonce)) c given h = goes-pinged s Given P k from nonce c h
goes-hears s Given P k (Ok (kinds.Pong from nonce)) c given h = goes-ponged s Given P k from nonce c h
goes-hears s Given P k (Ok (kinds.Summary from flag theirs)) c given h = goes-exchanges s Given P k from flag theirs c h
goes-hears s Given P k (Ok (kinds.Records from records)) c given h = goes-handles_all s Given P k records c (given from records refl) h

goes-delivered : (s : Setting) (Given : Record → Type 0) (P : Call → Type 0) → Goes s Given P → (n : Node) (bytes : List ℕ) → HasGiven Given (read_of bytes) → P (begun n) → P (delivered s n bytes)
unfolding delivered
goes-delivered s Given P k n bytes given h = goes-hears s Given P k (read_of bytes) (begun n) given h

-- ---- ticks

goes-wants_accusation : (s : Setting) (Given : Record → Type 0) (P : Call → Type 0) → Goes s Given P → (m : ℕ) (ring : Option ℕ) (c : Call) → ring_for s (state_of s c.node) m ≡ ring → P c → P (wants_accusation true s m ring c)
goes-wants_accusation s Given P k m None c e h = h
goes-wants_accusation s Given P k m (Some ring) c e h =
    goes-wants s Given P k (accusation_on s (state_of s c.node) m ring) (neighbours_and s m) c h (λ left. k.accused m ring c e left h)

goes-accuses : (s : Setting) (Given : Record → Type 0) (P : Call → Type 0) → Goes s Given P → (c : Call) (m : ℕ) → P c → P (accuses true s c m)
unfolding accuses
goes-accuses s Given P k c m h =
    let c1 : Call = tells s (told.Silent m) c in
    let ring : Option ℕ = ring_for s (state_of s c.node) m in
    cond_both (has_accused s (state_of s c.node) m) c (wants_accusation true s m ring c1) P
    (λ yes. h)
    (λ no. goes-wants_accusation s Given P k m ring c1 refl (k.told (told.Silent m) c refl h))

goes-accuses_all : (s : Setting) (Given : Record → Type 0) (P : Call → Type 0) → Goes s Given P → (silent : List ℕ) (c : Call) → P c → P (accuses_all s silent c)
goes-accuses_all s Given P k [] c h = h
goes-accuses_all s Given P k (m ∷ silent) c h = goes-accuses_all s Given P k silent (accuses true s c m) (goes-accuses s Given P k c m h)

goes-pings_all : (s : Setting) (Given : Record → Type 0) (P : Call → Type 0) → Goes s Given P → (sent : List (ℕ × ℕ)) (c : Call) → P c → P (pings_all s sent c)
goes-pings_all s Given P k [] c h = h
goes-pings_all s Given P k (p ∷ sent) c h = goes-pings_all s Given P k sent (sends s (kinds.Ping s.me p.1) c p.0) (k.sent (kinds.Ping s.me p.1) c p.0 tt h)

goes-summary_to : (s : Setting) (Given : Record → Type 0) (P : Call → Type 0) → Goes s Given P → (round : ℕ) (to : Option ℕ) (c : Call) → P c → P (summary_to s round to c)
goes-summary_to s Given P k round None c h = h
goes-summary_to s Given P k round (Some to) c h = k.sent (kinds.Summary s.me false (page c.node (page_number s c.node round))) c to tt h

goes-probed_at : (s : Setting) (Given : Record → Type 0) (P : Call → Type 0) → Goes s Given P → (n : Node) → P (passed s n) → P (probed_at s n)
unfolding probed_at
goes-probed_at s Given P k n h =
    let c : Call = passed s n in
    let st : State = state_of s c.node in
    let probes : History = (probes_after s c.node st).probes in
    let c1 : Call = record c { node = record c.node { probes = probes } } in
    let h1 : P c1 = k.probed probes c h in
    cond_both (begins_span s st) c.node.stored.epoch c.node.since (λ since. P (record c1 { node = record c1.node { since = since } })) (λ yes. k.spanned c1 h1) (λ no. h1)

goes-spreads_all : (s : Setting) (Given : Record → Type 0) (P : Call → Type 0) → Goes s Given P → (records : List Record) (c : Call) → AllByRecursion (IsHeld c.node) records → length (flat_map record_bytes records) ≤ room → P c → P (spreads_all s records c)
goes-spreads_all s Given P k [] c each short h = h
goes-spreads_all s Given P k (r ∷ records) c each short h =
    goes-sends_to_all s Given P k (neighbours s (state_of s c.node)) (kinds.Records s.me (r ∷ records)) c (some-held s c.node r records each short) h

goes-spreads : (s : Setting) (Given : Record → Type 0) (P : Call → Type 0) → Goes s Given P → (c : Call) → P c → P (spreads s c)
unfolding spreads
goes-spreads s Given P k c h = k.spread (spreads_all s (fresh c.node) c) (goes-spreads_all s Given P k (fresh c.node) c (fresh-held c.node) (fresh-short c.node) h)

goes-due : (s : Setting) (Given : Record → Type 0) (P : Call → Type 0) → Goes s Given P → (accused : List ℕ) (sent : List (ℕ × ℕ)) (round : ℕ) (c : Call) → P c → P (due_tick s accused sent round c)
unfolding due_tick
goes-due s Given P k accused sent round c h =
    let c0 : Call = spreads s c in
    let c1 : Call = accuses_all s accused c0 in
    let c2 : Call = pings_all s sent c1 in
    goes-summary_to s Given P k round (partner s c2.node round) c2 (goes-pings_all s Given P k sent c1 (goes-accuses_all s Given P k accused c0 (goes-spreads s Given P k c h)))

goes-ticked : (s : Setting) (Given : Record → Type 0) (P : Call → Type 0) → Goes s Given P → (n : Node) → P (passed s n) → P (ticked s n)
unfolding ticked
goes-ticked s Given P k n h =
    let p : Node = (passed s n).node in
    let st : State = state_of s p in
    let h1 : P (probed_at s n) = goes-probed_at s Given P k n h in
    cond_both (is_due s st) (due_tick s (silent_in s p st) (pings_in s p st) (round_of s st) (probed_at s n)) (probed_at s n) P
    (λ yes. goes-due s Given P k (silent_in s p st) (pings_in s p st) (round_of s st) (probed_at s n) h1)
    (λ no. h1)

-- ---- leaving

goes-left : (s : Setting) (Given : Record → Type 0) (P : Call → Type 0) → Goes s Given P → (n : Node) → P (begun n) → P (left s n)
unfolding left leaves
goes-left s Given P k n h = goes-wants s Given P k (leaving s n.stored) (neighbours s) (begun n) h (λ left. k.departed (begun n) left h)

-- ---- calls

-- Where the call begins, or the tick has passed.
abbrev pub opens : Setting → Node → Input → Call
opens s n (Delivers bytes) = begun n
opens s n Tick = passed s n
opens s n Leaves = begun n

pub goes-call : (s : Setting) (Given : Record → Type 0) (P : Call → Type 0) → Goes s Given P → (n : Node) (i : Input) → IsInput Given i → P (opens s n i) → P (call_of s n i)
goes-call s Given P k n (Delivers bytes) given h = goes-delivered s Given P k n bytes given h
goes-call s Given P k n Tick given h = goes-ticked s Given P k n h
goes-call s Given P k n Leaves given h = goes-left s Given P k n h
