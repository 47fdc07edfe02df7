-- What each call carries on that each of its steps does, datagrams being reported with their sending alone.
use Rattle.std.proofs.Common.{◌≡◌, ℕ, Bool, true, false, eqb, cond, List, [], ◌∷◌, Option, Some, None, refl, subst}
use Rattle.std.specs.Prelude.{◌&&◌, Result, Ok, Err}
use Rattle.std.proofs.lemmas.Bool.{cond_both, and_parts}
use Rattle.ff_ids.specs.declared.AccBody.{AccBody}
use Rattle.ff_ids.specs.declared.Fault.{Fault}
use Rattle.ff_ids.specs.declared.NoteBody.{NoteBody}
use Rattle.ff_ids.specs.declared.summary.Summary.{Summary}
use Rattle.ff_ids.specs.Views.{State}
use Rattle.ff_ids.specs.Steps.{Ticks}
use Rattle.records.specs.declared.Body.{Body}
use Rattle.records.specs.declared.Body.TheVariants.{Certificate, Note, Accusation}
use Rattle.records.specs.declared.Record.{Record}
use Rattle.epoch_store.specs.declared.Stored.{Stored}
use Rattle.datagram.specs.declared.Datagram.{Datagram}
use Rattle.datagram.specs.declared.Datagram.TheVariants as kinds
use Rattle.datagram.specs.Grammar.{read_of}
use Rattle.detector.specs.Silence.{History, ponged, counts}
use Rattle.journal.specs.declared.event.What as whats
use Rattle.journal.specs.declared.event.What.TheVariants as told
use Rattle.node_rules.specs.Nodes.{Setting, Node, state_of, neighbours, neighbours_and}
use Rattle.node_rules.specs.Pages.{page, partner, page_number, lacking}
use Rattle.node_rules.specs.Refusals.{refusal}
use Rattle.node_rules.specs.Calls.{Call, begun, tells, lives, takes, signs, signs_and_sends, wants, stops, sends, sends_to_all, is_used_up, own_record}
use Rattle.node_rules.specs.Deliveries.{answer_to, returning_note, may_rise, is_told, asked_of, asked_with, gives_note, settles, handles, handles_all, is_other, gives, replies, exchanges, pinged, ponged_by, hears, delivered}
use Rattle.node_rules.specs.Ticking.{accusation_on, ring_for, has_accused, wants_accusation, accuses, accuses_all, fresh, spreads_all, spreads, is_due, begins_span, silent_in, pings_in, probes_after, pings_all, summary_to, round_of, passed, probed_at, spread_at, due_tick, ticked}
use Rattle.node_rules.specs.Verdicts.{is_apart}
use Rattle.node_rules.specs.Leaving.{leaving, leaves, left}
use Rattle.node_rules.specs.Lives.{Input, Delivers, Ticks as Tick, Leaves, call_of}
use Rattle.node_rules.proofs.Small.{stored-takes}
use Rattle.node_rules.proofs.Called.{delivered_until, ticked_until, left_until}

-- Told apart from the life and from datagrams, and no signature.
abbrev pub is_beside : whats.What → Bool
is_beside (told.Spent index body) = false
is_beside other = is_apart other

pub beside-apart : (what : whats.What) → is_beside what ≡ true → is_apart what ≡ true
beside-apart (told.Spent index body) h = refl
beside-apart other h = h

-- The record is an accusation against the node, refused, by which it is told that others removed it.
pub record AsksBack (s : Setting) (n : Node) (r : Record) (a : AccBody) : Type 0 where
  pub fault : Fault
  pub refused : refusal s n r ≡ Some fault
  pub is : r.body ≡ Accusation a
  pub me : eqb a.accused s.me ≡ true
  pub told : is_told s n fault a r ≡ true

-- Each step of a call carries it on.
pub record Carries (s : Setting) (P : Call → Type 0) : Type 0 where
  pub told : (what : whats.What) (c : Call) → is_beside what ≡ true → P c → P (tells s what c)
  pub sent : (d : Datagram) (c : Call) (to : ℕ) → P c → P (sends s d c to)
  pub taken : (r : Record) (c : Call) → refusal s c.node r ≡ None → P c → P (takes s r c)
  pub answered : (r : Record) (a : AccBody) (c : Call) → refusal s c.node r ≡ None → r.body ≡ Accusation a → eqb a.accused s.me ≡ true → may_rise s.heal c.node ≡ true → is_used_up s (takes s r c).node ≡ false → P c → P (signs s (answer_to s (takes s r c).node.stored a) (takes s r c))
  pub returned : (r : Record) (a : AccBody) (c : Call) → AsksBack s c.node r a → may_rise s.heal c.node ≡ true → is_used_up s c.node ≡ false → P c → P (signs s (Note (returning_note s c.node.stored)) c)
  pub accused : (a : AccBody) (c : Call) → a.accuser ≡ s.me → is_used_up s c.node ≡ false → P c → P (signs s (Accusation a) c)
  pub departed : (c : Call) → is_used_up s c.node ≡ false → P c → P (signs s (leaving s c.node.stored) c)
  pub stopped : (c : Call) → P c → P (stops s c)
  pub passed : (c : Call) → P c → P (lives s Ticks c)
  pub probed : (h : History) (c : Call) → P c → P (record c { node = record c.node { probes = h } })
  pub spanned : (c : Call) → P c → P (record c { node = record c.node { since = c.node.stored.epoch } })
  pub spread : (c : Call) → P c → P (record c { node = record c.node { news = [] } })

pub carries-sends_to_all : (s : Setting) (P : Call → Type 0) → Carries s P → (addressees : List ℕ) (d : Datagram) (c : Call) → P c → P (sends_to_all s addressees d c)
carries-sends_to_all s P k [] d c h = h
carries-sends_to_all s P k (to ∷ addressees) d c h = carries-sends_to_all s P k addressees d (sends s d c to) (k.sent d c to h)

pub carries-wants : (s : Setting) (P : Call → Type 0) → Carries s P → (works : Bool) (body : Body) (addressees : State → List ℕ) (c : Call) → P c → (is_used_up s c.node ≡ false → P (signs s body c)) → P (wants works s body addressees c)
unfolding wants signs_and_sends
carries-wants s P k works body addressees c h signed =
    let d : Datagram = kinds.Records s.me (own_record s c.node body ∷ []) in
    let c1 : Call = signs s body c in
    let all : List ℕ = addressees (state_of s c1.node) in
    cond_both (is_used_up s c.node) (tells s (told.Exhausted c.node.stored.next) c) (cond works (sends_to_all s all d c1) (stops s c)) P
    (λ yes. k.told (told.Exhausted c.node.stored.next) c refl h)
    (λ no. cond_both works (sends_to_all s all d c1) (stops s c) P (λ yes. carries-sends_to_all s P k all d c1 (signed no)) (λ no. k.stopped c h))

-- ---- records

carries-settles : (s : Setting) (P : Call → Type 0) → Carries s P → (f : Option Fault) (r : Record) (c : Call) → refusal s c.node r ≡ f → P c → P (settles s f r c)
carries-settles s P k (Some f) r c e h = k.told (told.Took r.body (Some f)) c refl h
carries-settles s P k None r c e h = k.taken r (tells s (told.Took r.body None) c) e (k.told (told.Took r.body None) c refl h)

carries-asked_of : (s : Setting) (P : Call → Type 0) → Carries s P → (works : Bool) (f : Option Fault) (a : AccBody) (r : Record) (c : Call)
    → refusal s c.node r ≡ f → r.body ≡ Accusation a → eqb a.accused s.me ≡ true → may_rise s.heal c.node ≡ true → P c → P (gives_note works s (asked_of s c.node f a r) (settles s f r c))
carries-asked_of s P k works None a r c e is me may h =
    let c1 : Call = tells s (told.Took r.body None) c in
    let c2 : Call = takes s r c1 in
    let h1 : P c1 = k.told (told.Took r.body None) c refl h in
    let kept : c2.node.stored ≡ c.node.stored = stored-takes s r c1 in
    carries-wants s P k works (answer_to s c.node.stored a) (neighbours s) c2 (k.taken r c1 e h1)
    (λ left. subst (λ (x : Stored). P (signs s (answer_to s x a) c2)) kept (k.answered r a c1 e is me may left h1))
carries-asked_of s P k works (Some f) a r c e is me may h =
    let note : NoteBody = returning_note s c.node.stored in
    let c1 : Call = tells s (told.Took r.body (Some f)) c in
    let h1 : P c1 = k.told (told.Took r.body (Some f)) c refl h in
    cond_both (is_told s c.node f a r) (Some note) None (λ o. P (gives_note works s o c1))
    (λ heard. carries-wants s P k works (Note note) (neighbours s) c1 h1 (λ left. k.returned r a c1 (record { fault = f; refused = e; is = is; me = me; told = heard }) may left h1))
    (λ no. h1)

carries-asked : (s : Setting) (P : Call → Type 0) → Carries s P → (works : Bool) (f : Option Fault) (b : Body) (r : Record) (c : Call)
    → refusal s c.node r ≡ f → r.body ≡ b → P c → P (gives_note works s (asked_with s c.node f b r) (settles s f r c))
carries-asked s P k works f (Certificate x) r c e is h = carries-settles s P k f r c e h
carries-asked s P k works f (Note x) r c e is h = carries-settles s P k f r c e h
carries-asked s P k works f (Accusation a) r c e is h =
    cond_both (eqb a.accused s.me && may_rise s.heal c.node) (asked_of s c.node f a r) None (λ o. P (gives_note works s o (settles s f r c)))
    (λ yes. let both = and_parts _ _ yes in carries-asked_of s P k works f a r c e is both.0 both.1 h)
    (λ no. carries-settles s P k f r c e h)

pub carries-handles : (s : Setting) (P : Call → Type 0) → Carries s P → (works : Bool) (c : Call) (r : Record) → P c → P (handles works s c r)
unfolding handles
carries-handles s P k works c r h = carries-asked s P k works (refusal s c.node r) r.body r c refl refl h

pub carries-handles_all : (s : Setting) (P : Call → Type 0) → Carries s P → (records : List Record) (c : Call) → P c → P (handles_all s records c)
carries-handles_all s P k [] c h = h
carries-handles_all s P k (r ∷ records) c h = carries-handles_all s P k records (handles true s c r) (carries-handles s P k true c r h)

-- ---- probes and summaries

carries-gives : (s : Setting) (P : Call → Type 0) → Carries s P → (to : ℕ) (records : List Record) (c : Call) → P c → P (gives s to records c)
carries-gives s P k to [] c h = h
carries-gives s P k to (r ∷ records) c h = k.sent (kinds.Records s.me (r ∷ records)) c to h

carries-replies : (s : Setting) (P : Call → Type 0) → Carries s P → (to : ℕ) (flag : Bool) (number : ℕ) (c : Call) → P c → P (replies s to flag number c)
carries-replies s P k to true number c h = h
carries-replies s P k to false number c h = k.sent (kinds.Summary s.me true (page c.node number)) c to h

carries-exchanges : (s : Setting) (P : Call → Type 0) → Carries s P → (from : ℕ) (flag : Bool) (theirs : Summary) (c : Call) → P c → P (exchanges s from flag theirs c)
carries-exchanges s P k from flag theirs c h =
    let c1 : Call = tells s (told.Summary from theirs.page flag) c in
    let h1 : P c1 = k.told (told.Summary from theirs.page flag) c refl h in
    let c2 : Call = gives s from (lacking c.node from theirs) c1 in
    cond_both (is_other s c.node from) (replies s from flag theirs.page c2) c1 P
    (λ yes. carries-replies s P k from flag theirs.page c2 (carries-gives s P k from (lacking c.node from theirs) c1 h1))
    (λ no. h1)

carries-pinged : (s : Setting) (P : Call → Type 0) → Carries s P → (from nonce : ℕ) (c : Call) → P c → P (pinged s from nonce c)
carries-pinged s P k from nonce c h =
    let c1 : Call = tells s (told.Ping from nonce) c in
    let h1 : P c1 = k.told (told.Ping from nonce) c refl h in
    cond_both (is_other s c.node from) (sends s (kinds.Pong s.me nonce) c1 from) c1 P (λ yes. k.sent (kinds.Pong s.me nonce) c1 from h1) (λ no. h1)

carries-ponged : (s : Setting) (P : Call → Type 0) → Carries s P → (from nonce : ℕ) (c : Call) → P c → P (ponged_by s from nonce c)
carries-ponged s P k from nonce c h =
    let what : whats.What = told.Pong from nonce (counts c.node.probes from nonce) in
    k.probed (ponged c.node.probes from nonce) (tells s what c) (k.told what c refl h)

carries-hears : (s : Setting) (P : Call → Type 0) → Carries s P → (d : Result Datagram ℕ) (c : Call) → P c → P (hears s d c)
carries-hears s P k (Err place) c h = k.told (told.BadForm place) c refl h
carries-hears s P k (Ok (kinds.Ping from nonce)) c h = carries-pinged s P k from nonce c h
carries-hears s P k (Ok (kinds.Pong from nonce)) c h = carries-ponged s P k from nonce c h
carries-hears s P k (Ok (kinds.Summary from flag theirs)) c h = carries-exchanges s P k from flag theirs c h
carries-hears s P k (Ok (kinds.Records from records)) c h = carries-handles_all s P k records c h

pub carries-delivered : (s : Setting) (P : Call → Type 0) → Carries s P → (n : Node) (bytes : List ℕ) → P (begun n) → P (delivered s n bytes)
unfolding delivered
carries-delivered s P k n bytes h = carries-hears s P k (read_of bytes) (begun n) h

pub carries-delivered_until : (s : Setting) (P : Call → Type 0) → Carries s P → (n : Node) (records : List Record) (r : Record) → P (begun n) → P (delivered_until s n records r)
unfolding delivered_until
carries-delivered_until s P k n records r h =
    carries-handles s P k false (handles_all s records (begun n)) r (carries-handles_all s P k records (begun n) h)

-- ---- ticks

carries-wants_accusation : (s : Setting) (P : Call → Type 0) → Carries s P → (works : Bool) (m : ℕ) (ring : Option ℕ) (c : Call) → P c → P (wants_accusation works s m ring c)
carries-wants_accusation s P k works m None c h = h
carries-wants_accusation s P k works m (Some ring) c h =
    carries-wants s P k works (accusation_on s (state_of s c.node) m ring) (neighbours_and s m) c h (λ left. k.accused _ c refl left h)

pub carries-accuses : (s : Setting) (P : Call → Type 0) → Carries s P → (works : Bool) (c : Call) (m : ℕ) → P c → P (accuses works s c m)
unfolding accuses
carries-accuses s P k works c m h =
    let c1 : Call = tells s (told.Silent m) c in
    let ring : Option ℕ = ring_for s (state_of s c.node) m in
    cond_both (has_accused s (state_of s c.node) m) c (wants_accusation works s m ring c1) P
    (λ yes. h)
    (λ no. carries-wants_accusation s P k works m ring c1 (k.told (told.Silent m) c refl h))

pub carries-accuses_all : (s : Setting) (P : Call → Type 0) → Carries s P → (silent : List ℕ) (c : Call) → P c → P (accuses_all s silent c)
carries-accuses_all s P k [] c h = h
carries-accuses_all s P k (m ∷ silent) c h = carries-accuses_all s P k silent (accuses true s c m) (carries-accuses s P k true c m h)

carries-pings_all : (s : Setting) (P : Call → Type 0) → Carries s P → (sent : List (ℕ × ℕ)) (c : Call) → P c → P (pings_all s sent c)
carries-pings_all s P k [] c h = h
carries-pings_all s P k (p ∷ sent) c h = carries-pings_all s P k sent (sends s (kinds.Ping s.me p.1) c p.0) (k.sent (kinds.Ping s.me p.1) c p.0 h)

carries-summary_to : (s : Setting) (P : Call → Type 0) → Carries s P → (round : ℕ) (to : Option ℕ) (c : Call) → P c → P (summary_to s round to c)
carries-summary_to s P k round None c h = h
carries-summary_to s P k round (Some to) c h = k.sent (kinds.Summary s.me false (page c.node (page_number s c.node round))) c to h

pub carries-probed_at : (s : Setting) (P : Call → Type 0) → Carries s P → (n : Node) → P (begun n) → P (probed_at s n)
unfolding probed_at passed
carries-probed_at s P k n h =
    let c : Call = lives s Ticks (begun n) in
    let st : State = state_of s c.node in
    let probes : History = (probes_after s c.node st).probes in
    let c1 : Call = record c { node = record c.node { probes = probes } } in
    let h1 : P c1 = k.probed probes c (k.passed (begun n) h) in
    cond_both (begins_span s st) c.node.stored.epoch c.node.since (λ since. P (record c1 { node = record c1.node { since = since } })) (λ yes. k.spanned c1 h1) (λ no. h1)

carries-spreads_all : (s : Setting) (P : Call → Type 0) → Carries s P → (records : List Record) (c : Call) → P c → P (spreads_all s records c)
carries-spreads_all s P k [] c h = h
carries-spreads_all s P k (r ∷ records) c h = carries-sends_to_all s P k (neighbours s (state_of s c.node)) (kinds.Records s.me (r ∷ records)) c h

pub carries-spreads : (s : Setting) (P : Call → Type 0) → Carries s P → (c : Call) → P c → P (spreads s c)
unfolding spreads
carries-spreads s P k c h = k.spread (spreads_all s (fresh c.node) c) (carries-spreads_all s P k (fresh c.node) c h)

pub carries-spread_at : (s : Setting) (P : Call → Type 0) → Carries s P → (n : Node) → P (begun n) → P (spread_at s n)
unfolding spread_at
carries-spread_at s P k n h = carries-spreads s P k (probed_at s n) (carries-probed_at s P k n h)

carries-due : (s : Setting) (P : Call → Type 0) → Carries s P → (accused : List ℕ) (sent : List (ℕ × ℕ)) (round : ℕ) (c : Call) → P c → P (due_tick s accused sent round c)
unfolding due_tick
carries-due s P k accused sent round c h =
    let c0 : Call = spreads s c in
    let c1 : Call = accuses_all s accused c0 in
    let c2 : Call = pings_all s sent c1 in
    carries-summary_to s P k round (partner s c2.node round) c2 (carries-pings_all s P k sent c1 (carries-accuses_all s P k accused c0 (carries-spreads s P k c h)))

pub carries-ticked : (s : Setting) (P : Call → Type 0) → Carries s P → (n : Node) → P (begun n) → P (ticked s n)
unfolding ticked
carries-ticked s P k n h =
    let p : Node = (passed s n).node in
    let st : State = state_of s p in
    let h1 : P (probed_at s n) = carries-probed_at s P k n h in
    cond_both (is_due s st) (due_tick s (silent_in s p st) (pings_in s p st) (round_of s st) (probed_at s n)) (probed_at s n) P
    (λ yes. carries-due s P k (silent_in s p st) (pings_in s p st) (round_of s st) (probed_at s n) h1)
    (λ no. h1)

pub carries-ticked_until : (s : Setting) (P : Call → Type 0) → Carries s P → (n : Node) (silent : List ℕ) (m : ℕ) → P (begun n) → P (ticked_until s n silent m)
unfolding ticked_until
carries-ticked_until s P k n silent m h =
    carries-accuses s P k false (accuses_all s silent (spread_at s n)) m (carries-accuses_all s P k silent (spread_at s n) (carries-spread_at s P k n h))

-- ---- leaving

carries-leaves : (s : Setting) (P : Call → Type 0) → Carries s P → (works : Bool) (c : Call) → P c → P (leaves works s c)
unfolding leaves
carries-leaves s P k works c h = carries-wants s P k works (leaving s c.node.stored) (neighbours s) c h (λ left. k.departed c left h)

carries-left : (s : Setting) (P : Call → Type 0) → Carries s P → (n : Node) → P (begun n) → P (left s n)
unfolding left
carries-left s P k n h = carries-leaves s P k true (begun n) h

pub carries-left_until : (s : Setting) (P : Call → Type 0) → Carries s P → (n : Node) → P (begun n) → P (left_until s n)
unfolding left_until
carries-left_until s P k n h = carries-leaves s P k false (begun n) h

-- ---- calls

pub carries-call : (s : Setting) (P : Call → Type 0) → Carries s P → (n : Node) (i : Input) → P (begun n) → P (call_of s n i)
carries-call s P k n (Delivers bytes) h = carries-delivered s P k n bytes h
carries-call s P k n Tick h = carries-ticked s P k n h
carries-call s P k n Leaves h = carries-left s P k n h
