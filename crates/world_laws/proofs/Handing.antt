-- What a call over a disk carries on that each of its steps does, where it is known which records it is handed.
use Rattle.std.proofs.Common.{◌≡◌, ℕ, zero, suc, Bool, true, false, eqb, cond, List, [], ◌∷◌, Option, Some, None, inl, inr, refl, sym, subst, take}
use Rattle.std.specs.Prelude.{◌&&◌, Result, Ok, Err}
use Rattle.std.specs.List.{slice_get}
use Rattle.std.proofs.lemmas.Bool.{cond_both, and_parts}
use Rattle.ff_ids.specs.declared.AccBody.{AccBody}
use Rattle.ff_ids.specs.declared.Fault.{Fault}
use Rattle.ff_ids.specs.declared.NoteBody.{NoteBody}
use Rattle.ff_ids.specs.declared.summary.Summary.{Summary}
use Rattle.ff_ids.specs.Views.{State}
use Rattle.ff_ids.specs.Steps.{Ticks}
use Rattle.life_laws.proofs.Lists.{In}
use Rattle.records.specs.declared.Body.{Body}
use Rattle.records.specs.declared.Body.TheVariants.{Certificate, Note, Accusation}
use Rattle.records.specs.declared.Record.{Record}
use Rattle.epoch_store.specs.declared.Stored.{Stored}
use Rattle.datagram.specs.declared.Datagram.{Datagram}
use Rattle.datagram.specs.declared.Datagram.TheVariants as kinds
use Rattle.datagram.specs.Grammar.{read_of}
use Rattle.detector.specs.Silence.{History, ponged, counts}
use Rattle.journal.specs.declared.event.What as whats
use Rattle.journal.specs.declared.event.What.TheVariants as happened
use Rattle.node_rules.specs.Nodes.{Setting, Node, state_of, neighbours, neighbours_and}
use Rattle.node_rules.specs.Pages.{page, partner, page_number, lacking}
use Rattle.node_rules.specs.Refusals.{refusal}
use Rattle.node_rules.specs.Calls.{Call, begun, tells, lives, takes, signs, signs_and_sends, wants, stops, sends, sends_to_all, is_used_up, own_record}
use Rattle.node_rules.specs.Deliveries.{answer_to, returning_note, may_rise, is_told, asked_of, asked_with, gives_note, settles, handles, handles_all, is_other, gives, replies, exchanges, pinged, ponged_by, hears, delivered}
use Rattle.node_rules.specs.Ticking.{accusation_on, ring_for, has_accused, wants_accusation, accuses, accuses_all, fresh, spreads_all, spreads, is_due, begins_span, silent_in, pings_in, probes_after, pings_all, summary_to, gossips, round_of, passed, probed_at, spread_at, due_tick, ticked}
use Rattle.node_rules.specs.Leaving.{leaving, leaves, left}
use Rattle.node_rules.specs.Lives.{Input, Delivers, Ticks as Tick, Leaves}
use Rattle.world_rules.specs.Disks.{Disk}
use Rattle.world_rules.specs.Calls.{called_on}
use Rattle.node_rules.proofs.Small.{stored-takes}
use Rattle.node_rules.proofs.Carrying.{AsksBack}
use Rattle.node_rules.proofs.Called.{ComesSoFar, delivered_until, left_until, ticked_until}
use Rattle.world_rules.proofs.SoFar.{so_far}

-- Beside verdicts on records, what goes with a step of its own, and what no call of a node reports.
abbrev pub is_plain : whats.What → Bool
is_plain (happened.Entered m) = false
is_plain (happened.Expired a) = false
is_plain (happened.Removed m) = false
is_plain (happened.Fell a) = false
is_plain (happened.Sent place to bytes) = false
is_plain (happened.Took body fault) = false
is_plain (happened.Spent index body) = false
is_plain (happened.Got number) = false
is_plain what = true

-- The record is accepted, which is reported.
abbrev pub accepts : Setting → Record → Call → Call
accepts s r c = takes s r (tells s (happened.Took r.body None) c)

-- Each step of a call carries it on; the records that the call is handed are so.
pub record Hands (s : Setting) (Given : Record → Type 0) (P : Call → Type 0) : Type 0 where
  pub told : (what : whats.What) (c : Call) → is_plain what ≡ true → P c → P (tells s what c)
  pub refused : (r : Record) (fault : Fault) (c : Call) → Given r → refusal s c.node r ≡ Some fault → P c → P (tells s (happened.Took r.body (Some fault)) c)
  pub sent : (d : Datagram) (c : Call) (to : ℕ) → P c → P (sends s d c to)
  pub accepted : (r : Record) (c : Call) → Given r → refusal s c.node r ≡ None → P c → P (accepts s r c)
  pub answered : (r : Record) (a : AccBody) (c : Call) → Given r → refusal s c.node r ≡ None → r.body ≡ Accusation a → eqb a.accused s.me ≡ true → may_rise s.heal c.node ≡ true → is_used_up s (accepts s r c).node ≡ false → P c → P (signs s (answer_to s (accepts s r c).node.stored a) (accepts s r c))
  pub returned : (r : Record) (a : AccBody) (c : Call) → Given r → AsksBack s c.node r a → may_rise s.heal c.node ≡ true → is_used_up s c.node ≡ false → P c → P (signs s (Note (returning_note s c.node.stored)) c)
  pub accused : (a : AccBody) (c : Call) → a.accuser ≡ s.me → is_used_up s c.node ≡ false → P c → P (signs s (Accusation a) c)
  pub departed : (c : Call) → is_used_up s c.node ≡ false → P c → P (signs s (leaving s c.node.stored) c)
  pub stopped : (c : Call) → P c → P (stops s c)
  pub passed : (c : Call) → P c → P (lives s Ticks c)
  pub probed : (h : History) (c : Call) → P c → P (record c { node = record c.node { probes = h } })
  pub spanned : (c : Call) → P c → P (record c { node = record c.node { since = c.node.stored.epoch } })
  pub spread : (c : Call) → P c → P (record c { node = record c.node { news = [] } })

-- So does each with what is reported of a record apart from its acceptance.
pub record HandsApart (s : Setting) (Given : Record → Type 0) (P : Call → Type 0) : Type 0 where
  pub told : (what : whats.What) (c : Call) → is_plain what ≡ true → P c → P (tells s what c)
  pub judged : (r : Record) (c : Call) → Given r → P c → P (tells s (happened.Took r.body (refusal s c.node r)) c)
  pub sent : (d : Datagram) (c : Call) (to : ℕ) → P c → P (sends s d c to)
  pub taken : (r : Record) (c : Call) → Given r → refusal s c.node r ≡ None → P c → P (takes s r c)
  pub answered : (r : Record) (a : AccBody) (c : Call) → Given r → refusal s c.node r ≡ None → r.body ≡ Accusation a → eqb a.accused s.me ≡ true → may_rise s.heal c.node ≡ true → is_used_up s (takes s r c).node ≡ false → P c → P (signs s (answer_to s (takes s r c).node.stored a) (takes s r c))
  pub returned : (r : Record) (a : AccBody) (c : Call) → Given r → AsksBack s c.node r a → may_rise s.heal c.node ≡ true → is_used_up s c.node ≡ false → P c → P (signs s (Note (returning_note s c.node.stored)) c)
  pub accused : (a : AccBody) (c : Call) → a.accuser ≡ s.me → is_used_up s c.node ≡ false → P c → P (signs s (Accusation a) c)
  pub departed : (c : Call) → is_used_up s c.node ≡ false → P c → P (signs s (leaving s c.node.stored) c)
  pub stopped : (c : Call) → P c → P (stops s c)
  pub passed : (c : Call) → P c → P (lives s Ticks c)
  pub probed : (h : History) (c : Call) → P c → P (record c { node = record c.node { probes = h } })
  pub spanned : (c : Call) → P c → P (record c { node = record c.node { since = c.node.stored.epoch } })
  pub spread : (c : Call) → P c → P (record c { node = record c.node { news = [] } })

pub joined : (s : Setting) (Given : Record → Type 0) (P : Call → Type 0) → HandsApart s Given P → Hands s Given P
joined s Given P k =
    record {
      told = k.told;
      refused = λ r fault c given e h. subst (λ f. P (tells s (happened.Took r.body f) c)) e (k.judged r c given h);
      sent = k.sent;
      accepted = λ r c given e h. k.taken r (tells s (happened.Took r.body None) c) given e (subst (λ f. P (tells s (happened.Took r.body f) c)) e (k.judged r c given h));
      answered = λ r a c given e is me may left h. k.answered r a (tells s (happened.Took r.body None) c) given e is me may left (subst (λ f. P (tells s (happened.Took r.body f) c)) e (k.judged r c given h));
      returned = k.returned;
      accused = k.accused;
      departed = k.departed;
      stopped = k.stopped;
      passed = k.passed;
      probed = k.probed;
      spanned = k.spanned;
      spread = k.spread;
    }

abbrev pub AnyRecord : Record → Type 0
AnyRecord r = Unit {0}

hands-sends_to_all : (s : Setting) (Given : Record → Type 0) (P : Call → Type 0) → Hands s Given P → (addressees : List ℕ) (d : Datagram) (c : Call) → P c → P (sends_to_all s addressees d c)
hands-sends_to_all s Given P k [] d c h = h
hands-sends_to_all s Given P k (to ∷ addressees) d c h = hands-sends_to_all s Given P k addressees d (sends s d c to) (k.sent d c to h)

pub hands-wants : (s : Setting) (Given : Record → Type 0) (P : Call → Type 0) → Hands s Given P → (works : Bool) (body : Body) (addressees : State → List ℕ) (c : Call) → P c → (is_used_up s c.node ≡ false → P (signs s body c)) → P (wants works s body addressees c)
unfolding wants signs_and_sends
hands-wants s Given P k works body addressees c h signed =
    let d : Datagram = kinds.Records s.me (own_record s c.node body ∷ []) in
    let c1 : Call = signs s body c in
    let all : List ℕ = addressees (state_of s c1.node) in
    cond_both (is_used_up s c.node) (tells s (happened.Exhausted c.node.stored.next) c) (cond works (sends_to_all s all d c1) (stops s c)) P
    (λ yes. k.told (happened.Exhausted c.node.stored.next) c refl h)
    (λ no. cond_both works (sends_to_all s all d c1) (stops s c) P (λ yes. hands-sends_to_all s Given P k all d c1 (signed no)) (λ no. k.stopped c h))

-- ---- records

hands-settles : (s : Setting) (Given : Record → Type 0) (P : Call → Type 0) → Hands s Given P → (f : Option Fault) (r : Record) (c : Call) → refusal s c.node r ≡ f → Given r → P c → P (settles s f r c)
hands-settles s Given P k (Some fault) r c e given h = k.refused r fault c given e h
hands-settles s Given P k None r c e given h = k.accepted r c given e h

hands-asked_of : (s : Setting) (Given : Record → Type 0) (P : Call → Type 0) → Hands s Given P → (works : Bool) (f : Option Fault) (a : AccBody) (r : Record) (c : Call)
    → refusal s c.node r ≡ f → r.body ≡ Accusation a → eqb a.accused s.me ≡ true → may_rise s.heal c.node ≡ true → Given r → P c → P (gives_note works s (asked_of s c.node f a r) (settles s f r c))
hands-asked_of s Given P k works None a r c e is me may given h =
    let c1 : Call = accepts s r c in
    let kept : c1.node.stored ≡ c.node.stored = stored-takes s r (tells s (happened.Took r.body None) c) in
    hands-wants s Given P k works (answer_to s c.node.stored a) (neighbours s) c1 (k.accepted r c given e h)
    (λ left. subst (λ (x : Stored). P (signs s (answer_to s x a) c1)) kept (k.answered r a c given e is me may left h))
hands-asked_of s Given P k works (Some f) a r c e is me may given h =
    let note : NoteBody = returning_note s c.node.stored in
    let c1 : Call = tells s (happened.Took r.body (Some f)) c in
    let h1 : P c1 = k.refused r f c given e h in
    cond_both (is_told s c.node f a r) (Some note) None (λ o. P (gives_note works s o c1))
    (λ heard. hands-wants s Given P k works (Note note) (neighbours s) c1 h1 (λ left. k.returned r a c1 given (record { fault = f; refused = e; is = is; me = me; told = heard }) may left h1))
    (λ no. h1)

hands-asked : (s : Setting) (Given : Record → Type 0) (P : Call → Type 0) → Hands s Given P → (works : Bool) (f : Option Fault) (b : Body) (r : Record) (c : Call)
    → refusal s c.node r ≡ f → r.body ≡ b → Given r → P c → P (gives_note works s (asked_with s c.node f b r) (settles s f r c))
hands-asked s Given P k works f (Certificate x) r c e is given h = hands-settles s Given P k f r c e given h
hands-asked s Given P k works f (Note x) r c e is given h = hands-settles s Given P k f r c e given h
hands-asked s Given P k works f (Accusation a) r c e is given h =
    cond_both (eqb a.accused s.me && may_rise s.heal c.node) (asked_of s c.node f a r) None (λ o. P (gives_note works s o (settles s f r c)))
    (λ yes. let both = and_parts _ _ yes in hands-asked_of s Given P k works f a r c e is both.0 both.1 given h)
    (λ no. hands-settles s Given P k f r c e given h)

pub hands-handles : (s : Setting) (Given : Record → Type 0) (P : Call → Type 0) → Hands s Given P → (works : Bool) (c : Call) (r : Record) → Given r → P c → P (handles works s c r)
unfolding handles
hands-handles s Given P k works c r given h = hands-asked s Given P k works (refusal s c.node r) r.body r c refl refl given h

pub hands-handles_all : (s : Setting) (Given : Record → Type 0) (P : Call → Type 0) → Hands s Given P → (records : List Record) (c : Call) → ((r : Record) → In records r → Given r) → P c → P (handles_all s records c)
hands-handles_all s Given P k [] c given h = h
hands-handles_all s Given P k (r ∷ records) c given h =
    hands-handles_all s Given P k records (handles true s c r) (λ x i. given x (inr i)) (hands-handles s Given P k true c r (given r (inl refl)) h)

-- ---- probes and summaries

hands-gives : (s : Setting) (Given : Record → Type 0) (P : Call → Type 0) → Hands s Given P → (to : ℕ) (records : List Record) (c : Call) → P c → P (gives s to records c)
hands-gives s Given P k to [] c h = h
hands-gives s Given P k to (r ∷ records) c h = k.sent (kinds.Records s.me (r ∷ records)) c to h

hands-replies : (s : Setting) (Given : Record → Type 0) (P : Call → Type 0) → Hands s Given P → (to : ℕ) (flag : Bool) (number : ℕ) (c : Call) → P c → P (replies s to flag number c)
hands-replies s Given P k to true number c h = h
hands-replies s Given P k to false number c h = k.sent (kinds.Summary s.me true (page c.node number)) c to h

hands-exchanges : (s : Setting) (Given : Record → Type 0) (P : Call → Type 0) → Hands s Given P → (from : ℕ) (flag : Bool) (theirs : Summary) (c : Call) → P c → P (exchanges s from flag theirs c)
hands-exchanges s Given P k from flag theirs c h =
    let c1 : Call = tells s (happened.Summary from theirs.page flag) c in
    let h1 : P c1 = k.told (happened.Summary from theirs.page flag) c refl h in
    let c2 : Call = gives s from (lacking c.node from theirs) c1 in
    cond_both (is_other s c.node from) (replies s from flag theirs.page c2) c1 P
    (λ yes. hands-replies s Given P k from flag theirs.page c2 (hands-gives s Given P k from (lacking c.node from theirs) c1 h1))
    (λ no. h1)

hands-pinged : (s : Setting) (Given : Record → Type 0) (P : Call → Type 0) → Hands s Given P → (from nonce : ℕ) (c : Call) → P c → P (pinged s from nonce c)
hands-pinged s Given P k from nonce c h =
    let c1 : Call = tells s (happened.Ping from nonce) c in
    let h1 : P c1 = k.told (happened.Ping from nonce) c refl h in
    cond_both (is_other s c.node from) (sends s (kinds.Pong s.me nonce) c1 from) c1 P (λ yes. k.sent (kinds.Pong s.me nonce) c1 from h1) (λ no. h1)

hands-ponged : (s : Setting) (Given : Record → Type 0) (P : Call → Type 0) → Hands s Given P → (from nonce : ℕ) (c : Call) → P c → P (ponged_by s from nonce c)
hands-ponged s Given P k from nonce c h =
    let what : whats.What = happened.Pong from nonce (counts c.node.probes from nonce) in
    k.probed (ponged c.node.probes from nonce) (tells s what c) (k.told what c refl h)

-- The records of the datagram, if it has some, are so.
abbrev pub HasGiven : (Record → Type 0) → Result Datagram ℕ → Type 0
HasGiven Given heard = (from : ℕ) (records : List Record) → heard ≡ Ok (kinds.Records from records) → (r : Record) → In records r → Given r

hands-hears : (s : Setting) (Given : Record → Type 0) (P : Call → Type 0) → Hands s Given P → (heard : Result Datagram ℕ) (c : Call) → HasGiven Given heard → P c → P (hears s heard c)
hands-hears s Given P k (Err place) c given h = k.told (happened.BadForm place) c refl h
hands-hears s Given P k (Ok (kinds.Ping from nonce)) c given h = hands-pinged s Given P k from nonce c h
hands-hears s Given P k (Ok (kinds.Pong from nonce)) c given h = hands-ponged s Given P k from nonce c h
hands-hears s Given P k (Ok (kinds.Summary from flag theirs)) c given h = hands-exchanges s Given P k from flag theirs c h
hands-hears s Given P k (Ok (kinds.Records from records)) c given h = hands-handles_all s Given P k records c (given from records refl) h

hands-delivered : (s : Setting) (Given : Record → Type 0) (P : Call → Type 0) → Hands s Given P → (n : Node) (bytes : List ℕ) → HasGiven Given (read_of bytes) → P (begun n) → P (delivered s n bytes)
unfolding delivered
hands-delivered s Given P k n bytes given h = hands-hears s Given P k (read_of bytes) (begun n) given h

hands-delivered_until : (s : Setting) (Given : Record → Type 0) (P : Call → Type 0) → Hands s Given P → (n : Node) (records : List Record) (r : Record) → ((x : Record) → In records x → Given x) → Given r → P (begun n) → P (delivered_until s n records r)
unfolding delivered_until
hands-delivered_until s Given P k n records r given last h =
    hands-handles s Given P k false (handles_all s records (begun n)) r last (hands-handles_all s Given P k records (begun n) given h)

-- ---- ticks

hands-wants_accusation : (s : Setting) (Given : Record → Type 0) (P : Call → Type 0) → Hands s Given P → (works : Bool) (m : ℕ) (ring : Option ℕ) (c : Call) → P c → P (wants_accusation works s m ring c)
hands-wants_accusation s Given P k works m None c h = h
hands-wants_accusation s Given P k works m (Some ring) c h =
    hands-wants s Given P k works (accusation_on s (state_of s c.node) m ring) (neighbours_and s m) c h (λ left. k.accused _ c refl left h)

pub hands-accuses : (s : Setting) (Given : Record → Type 0) (P : Call → Type 0) → Hands s Given P → (works : Bool) (c : Call) (m : ℕ) → P c → P (accuses works s c m)
unfolding accuses
hands-accuses s Given P k works c m h =
    let c1 : Call = tells s (happened.Silent m) c in
    let ring : Option ℕ = ring_for s (state_of s c.node) m in
    cond_both (has_accused s (state_of s c.node) m) c (wants_accusation works s m ring c1) P
    (λ yes. h)
    (λ no. hands-wants_accusation s Given P k works m ring c1 (k.told (happened.Silent m) c refl h))

pub hands-accuses_all : (s : Setting) (Given : Record → Type 0) (P : Call → Type 0) → Hands s Given P → (silent : List ℕ) (c : Call) → P c → P (accuses_all s silent c)
hands-accuses_all s Given P k [] c h = h
hands-accuses_all s Given P k (m ∷ silent) c h = hands-accuses_all s Given P k silent (accuses true s c m) (hands-accuses s Given P k true c m h)

hands-pings_all : (s : Setting) (Given : Record → Type 0) (P : Call → Type 0) → Hands s Given P → (sent : List (ℕ × ℕ)) (c : Call) → P c → P (pings_all s sent c)
hands-pings_all s Given P k [] c h = h
hands-pings_all s Given P k (p ∷ sent) c h = hands-pings_all s Given P k sent (sends s (kinds.Ping s.me p.1) c p.0) (k.sent (kinds.Ping s.me p.1) c p.0 h)

hands-summary_to : (s : Setting) (Given : Record → Type 0) (P : Call → Type 0) → Hands s Given P → (round : ℕ) (to : Option ℕ) (c : Call) → P c → P (summary_to s round to c)
hands-summary_to s Given P k round None c h = h
hands-summary_to s Given P k round (Some to) c h = k.sent (kinds.Summary s.me false (page c.node (page_number s c.node round))) c to h

pub hands-gossips : (s : Setting) (Given : Record → Type 0) (P : Call → Type 0) → Hands s Given P → (round : ℕ) (sent : List (ℕ × ℕ)) (c : Call) → P c → P (gossips s round (pings_all s sent c))
hands-gossips s Given P k round sent c h =
    let c1 : Call = pings_all s sent c in
    hands-summary_to s Given P k round (partner s c1.node round) c1 (hands-pings_all s Given P k sent c h)

pub hands-probed_at : (s : Setting) (Given : Record → Type 0) (P : Call → Type 0) → Hands s Given P → (n : Node) → P (begun n) → P (probed_at s n)
unfolding probed_at passed
hands-probed_at s Given P k n h =
    let c : Call = lives s Ticks (begun n) in
    let st : State = state_of s c.node in
    let probes : History = (probes_after s c.node st).probes in
    let c1 : Call = record c { node = record c.node { probes = probes } } in
    let h1 : P c1 = k.probed probes c (k.passed (begun n) h) in
    cond_both (begins_span s st) c.node.stored.epoch c.node.since (λ since. P (record c1 { node = record c1.node { since = since } })) (λ yes. k.spanned c1 h1) (λ no. h1)

hands-spreads_all : (s : Setting) (Given : Record → Type 0) (P : Call → Type 0) → Hands s Given P → (records : List Record) (c : Call) → P c → P (spreads_all s records c)
hands-spreads_all s Given P k [] c h = h
hands-spreads_all s Given P k (r ∷ records) c h = hands-sends_to_all s Given P k (neighbours s (state_of s c.node)) (kinds.Records s.me (r ∷ records)) c h

pub hands-spreads : (s : Setting) (Given : Record → Type 0) (P : Call → Type 0) → Hands s Given P → (c : Call) → P c → P (spreads s c)
unfolding spreads
hands-spreads s Given P k c h = k.spread (spreads_all s (fresh c.node) c) (hands-spreads_all s Given P k (fresh c.node) c h)

pub hands-spread_at : (s : Setting) (Given : Record → Type 0) (P : Call → Type 0) → Hands s Given P → (n : Node) → P (begun n) → P (spread_at s n)
unfolding spread_at
hands-spread_at s Given P k n h = hands-spreads s Given P k (probed_at s n) (hands-probed_at s Given P k n h)

hands-due : (s : Setting) (Given : Record → Type 0) (P : Call → Type 0) → Hands s Given P → (accused : List ℕ) (sent : List (ℕ × ℕ)) (round : ℕ) (c : Call) → P c → P (due_tick s accused sent round c)
unfolding due_tick
hands-due s Given P k accused sent round c h =
    let c0 : Call = spreads s c in
    hands-gossips s Given P k round sent (accuses_all s accused c0) (hands-accuses_all s Given P k accused c0 (hands-spreads s Given P k c h))

hands-ticked : (s : Setting) (Given : Record → Type 0) (P : Call → Type 0) → Hands s Given P → (n : Node) → P (begun n) → P (ticked s n)
unfolding ticked
hands-ticked s Given P k n h =
    let p : Node = (passed s n).node in
    let st : State = state_of s p in
    let h1 : P (probed_at s n) = hands-probed_at s Given P k n h in
    cond_both (is_due s st) (due_tick s (silent_in s p st) (pings_in s p st) (round_of s st) (probed_at s n)) (probed_at s n) P
    (λ yes. hands-due s Given P k (silent_in s p st) (pings_in s p st) (round_of s st) (probed_at s n) h1)
    (λ no. h1)

hands-ticked_until : (s : Setting) (Given : Record → Type 0) (P : Call → Type 0) → Hands s Given P → (n : Node) (silent : List ℕ) (m : ℕ) → P (begun n) → P (ticked_until s n silent m)
unfolding ticked_until
hands-ticked_until s Given P k n silent m h =
    hands-accuses s Given P k false (accuses_all s silent (spread_at s n)) m (hands-accuses_all s Given P k silent (spread_at s n) (hands-spread_at s Given P k n h))

-- ---- leaving

pub hands-leaves : (s : Setting) (Given : Record → Type 0) (P : Call → Type 0) → Hands s Given P → (works : Bool) (c : Call) → P c → P (leaves works s c)
unfolding leaves
hands-leaves s Given P k works c h = hands-wants s Given P k works (leaving s c.node.stored) (neighbours s) c h (λ left. k.departed c left h)

hands-left : (s : Setting) (Given : Record → Type 0) (P : Call → Type 0) → Hands s Given P → (n : Node) → P (begun n) → P (left s n)
unfolding left
hands-left s Given P k n h = hands-leaves s Given P k true (begun n) h

hands-left_until : (s : Setting) (Given : Record → Type 0) (P : Call → Type 0) → Hands s Given P → (n : Node) → P (begun n) → P (left_until s n)
unfolding left_until
hands-left_until s Given P k n h = hands-leaves s Given P k false (begun n) h

-- ---- calls over a disk

pub In-taken : {X : Type 0} (xs : List X) (place : ℕ) (x : X) → In (take place xs) x → In xs x
In-taken [] zero x i = i
In-taken [] (suc place) x i = i
In-taken (y ∷ ys) zero x i = absurd i
In-taken (y ∷ ys) (suc place) x i = elim i [ inl e ↦ inl e | inr j ↦ inr (In-taken ys place x j) ]

pub In-at : {X : Type 0} (xs : List X) (place : ℕ) (x : X) → slice_get xs place ≡ Some x → In xs x
In-at [] place x e = cc
In-at (y ∷ ys) zero x e = inl cc
In-at (y ∷ ys) (suc place) x e = inr (In-at ys place x e)

-- The records that the call is handed, if it is handed some, are so.
abbrev pub IsHanded : (Record → Type 0) → Input → Type 0
IsHanded Given (Delivers bytes) = HasGiven Given (read_of bytes)
IsHanded Given Tick = Unit {0}
IsHanded Given Leaves = Unit {0}

pub any-handed : (i : Input) → IsHanded AnyRecord i
any-handed (Delivers bytes) = λ from records is r i. tt
any-handed Tick = tt
any-handed Leaves = tt

pub hands-so_far : (s : Setting) (Given : Record → Type 0) (P : Call → Type 0) → Hands s Given P → (n : Node) (i : Input) (c : Call) → ComesSoFar s n i c → IsHanded Given i → P (begun n) → P c
hands-so_far s Given P k n (Delivers bytes) c (inl whole) given h = subst P (sym whole.is) (hands-delivered s Given P k n bytes given h)
hands-so_far s Given P k n (Delivers bytes) c (inr cut) given h =
    let all : (r : Record) → In cut.records r → Given r = given cut.from cut.records cut.read in
    subst P (sym cut.is) (hands-delivered_until s Given P k n (take cut.place cut.records) cut.at (λ r i. all r (In-taken cut.records cut.place r i)) (all cut.at (In-at cut.records cut.place cut.at cut.found)) h)
hands-so_far s Given P k n Tick c (inl whole) given h = subst P (sym whole.is) (hands-ticked s Given P k n h)
hands-so_far s Given P k n Tick c (inr cut) given h = subst P (sym cut.is) (hands-ticked_until s Given P k n _ cut.at h)
hands-so_far s Given P k n Leaves c (inl whole) given h = subst P (sym whole.is) (hands-left s Given P k n h)
hands-so_far s Given P k n Leaves c (inr cut) given h = subst P (sym cut.is) (hands-left_until s Given P k n h)

pub hands-called : (s : Setting) (Given : Record → Type 0) (P : Call → Type 0) → Hands s Given P → (n : Node) (i : Input) (d : Disk) → IsHanded Given i → P (begun n) → P (called_on s n i d).call
hands-called s Given P k n i d given h = hands-so_far s Given P k n i _ (so_far s n i d) given h
