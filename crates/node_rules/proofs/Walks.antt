-- What each call keeps of a node, where it is known what the records are that it is handed, and what it accuses.
use Rattle.std.proofs.Common.{◌≡◌, ℕ, Bool, true, false, eqb, List, [], ◌∷◌, Option, Some, None, refl, sym, subst}
use Rattle.std.specs.Prelude.{◌&&◌, Result, Ok, Err}
use Rattle.std.specs.List.{AllByRecursion}
use Rattle.std.proofs.lemmas.Bool.{cond_both, and_parts}
use Rattle.ff_ids.specs.declared.AccBody.{AccBody}
use Rattle.ff_ids.specs.declared.NoteBody.{NoteBody}
use Rattle.ff_ids.specs.declared.Fault.{Fault}
use Rattle.ff_ids.specs.declared.summary.Summary.{Summary}
use Rattle.ff_ids.specs.Views.{State}
use Rattle.ff_ids.specs.Steps.{Ticks}
use Rattle.records.specs.declared.Body.{Body}
use Rattle.records.specs.declared.Body.TheVariants.{Certificate, Note, Accusation}
use Rattle.records.specs.declared.Record.{Record}
use Rattle.epoch_store.specs.declared.Stored.{Stored}
use Rattle.datagram.specs.declared.Datagram.{Datagram}
use Rattle.datagram.specs.declared.Datagram.TheVariants as kinds
use Rattle.datagram.specs.Grammar.{read_of}
use Rattle.detector.specs.Silence.{History, ponged, ticked as probed}
use Rattle.journal.specs.declared.event.What.TheVariants as told
use Rattle.node_rules.specs.Nodes.{Setting, Node, state_of, neighbours, neighbours_and}
use Rattle.node_rules.specs.Pages.{page, partner, page_number, lacking}
use Rattle.node_rules.specs.Refusals.{refusal}
use Rattle.node_rules.specs.Calls.{Call, begun, tells, lives, takes, signs, sends, is_used_up}
use Rattle.node_rules.specs.Deliveries.{answer_to, answering_note, returning_note, may_rise, is_told, asked_of, asked_with, gives_note, judged, handles, handles_all, is_other, gives, replies, exchanges, pinged, hears, delivered}
use Rattle.node_rules.specs.Ticking.{accusation_on, ring_for, has_accused, wants_accusation, accuses, accuses_all, fresh, spreads_all, spreads, is_due, begins_span, watched_by, silent_in, pings_in, pings_all, summary_to, round_of, passed, probed_at, due_tick, ticked}
use Rattle.node_rules.specs.Leaving.{leaving, leaves, left}
use Rattle.node_rules.specs.Lives.{Input, Delivers, Ticks as Tick, Leaves, call_of, after_calls}
use Rattle.node_rules.proofs.Small.{node-sends, node-sends_to_all, stored-takes}
use Rattle.node_rules.proofs.Carrying.{AsksBack}
use Rattle.node_rules.proofs.Exchanges.{node-wants}

pub record KeepsNode (s : Setting) (Given : Record → Type 0) (P : Node → Type 0) : Type 0 where
  pub taken : (r : Record) (c : Call) → Given r → refusal s c.node r ≡ None → P c.node → P (takes s r c).node
  pub answered : (r : Record) (a : AccBody) (c : Call) → Given r → refusal s c.node r ≡ None → r.body ≡ Accusation a → eqb a.accused s.me ≡ true → may_rise s.heal c.node ≡ true
      → is_used_up s (takes s r c).node ≡ false → P c.node → P (signs s (answer_to s (takes s r c).node.stored a) (takes s r c)).node
  pub returned : (r : Record) (a : AccBody) (c : Call) → AsksBack s c.node r a → may_rise s.heal c.node ≡ true → is_used_up s c.node ≡ false → P c.node
      → P (signs s (Note (returning_note s c.node.stored)) c).node
  pub accused : (m ring : ℕ) (c : Call) → ring_for s (state_of s c.node) m ≡ Some ring → is_used_up s c.node ≡ false → P c.node → P (signs s (accusation_on s (state_of s c.node) m ring) c).node
  pub departed : (c : Call) → is_used_up s c.node ≡ false → P c.node → P (signs s (leaving s c.node.stored) c).node
  pub passed : (c : Call) → P c.node → P (lives s Ticks c).node
  pub probed : (h : History) (c : Call) → P c.node → P (record c.node { probes = h })
  pub spanned : (c : Call) → P c.node → P (record c.node { since = c.node.stored.epoch })
  pub spread : (c : Call) → P c.node → P (record c.node { news = [] })

-- ---- records

walk-accepted : (s : Setting) (Given : Record → Type 0) (P : Node → Type 0) → KeepsNode s Given P → (r : Record) (b : Body) (c : Call) → r.body ≡ b → Given r → refusal s c.node r ≡ None → P c.node
    → P (gives_note true s (asked_with s c.node None b r) (takes s r c)).node
walk-accepted s Given P k r (Certificate x) c is given fine h = k.taken r c given fine h
walk-accepted s Given P k r (Note x) c is given fine h = k.taken r c given fine h
walk-accepted s Given P k r (Accusation a) c is given fine h =
    let c1 : Call = takes s r c in
    let kept : c1.node.stored ≡ c.node.stored = stored-takes s r c in
    cond_both (eqb a.accused s.me && may_rise s.heal c.node) (Some (answering_note s c.node.stored a)) None (λ note. P (gives_note true s note c1).node)
    (λ yes. let both = and_parts _ _ yes in node-wants true s (answer_to s c.node.stored a) (neighbours s) c1 P (k.taken r c given fine h)
    (λ left. subst (λ (x : Stored). P (signs s (answer_to s x a) c1).node) kept (k.answered r a c given fine is both.0 both.1 left h)))
    (λ no. k.taken r c given fine h)

-- A record that is refused leaves the node, but for the note by which it comes back.
walk-refused : (s : Setting) (Given : Record → Type 0) (P : Node → Type 0) → KeepsNode s Given P → (fault : Fault) (r : Record) (b : Body) (c : Call) → refusal s c.node r ≡ Some fault → r.body ≡ b → P c.node
    → P (gives_note true s (asked_with s c.node (Some fault) b r) c).node
walk-refused s Given P k fault r (Certificate x) c e is h = h
walk-refused s Given P k fault r (Note x) c e is h = h
walk-refused s Given P k fault r (Accusation a) c e is h =
    let note : NoteBody = returning_note s c.node.stored in
    cond_both (eqb a.accused s.me && may_rise s.heal c.node) (asked_of s c.node (Some fault) a r) None (λ o. P (gives_note true s o c).node)
    (λ yes. let both = and_parts _ _ yes in cond_both (is_told s c.node fault a r) (Some note) None (λ o. P (gives_note true s o c).node)
    (λ heard. node-wants true s (Note note) (neighbours s) c P h (λ left. k.returned r a c (record { fault = fault; refused = e; is = is; me = both.0; told = heard }) both.1 left h))
    (λ apart. h))
    (λ no. h)

walk-judged : (s : Setting) (Given : Record → Type 0) (P : Node → Type 0) → KeepsNode s Given P → (f : Option Fault) (r : Record) (c : Call) → refusal s c.node r ≡ f → Given r → P c.node → P (judged true s f r c).node
walk-judged s Given P k (Some fault) r c e given h = walk-refused s Given P k fault r r.body (tells s (told.Took r.body (Some fault)) c) e refl h
walk-judged s Given P k None r c e given h = walk-accepted s Given P k r r.body (tells s (told.Took r.body None) c) refl given e h

walk-handles : (s : Setting) (Given : Record → Type 0) (P : Node → Type 0) → KeepsNode s Given P → (c : Call) (r : Record) → Given r → P c.node → P (handles true s c r).node
unfolding handles
walk-handles s Given P k c r given h = walk-judged s Given P k (refusal s c.node r) r c refl given h

walk-handles_all : (s : Setting) (Given : Record → Type 0) (P : Node → Type 0) → KeepsNode s Given P → (records : List Record) (c : Call) → AllByRecursion Given records → P c.node → P (handles_all s records c).node
walk-handles_all s Given P k [] c all h = h
walk-handles_all s Given P k (r ∷ records) c all h = walk-handles_all s Given P k records (handles true s c r) all.1 (walk-handles s Given P k c r all.0 h)

-- ---- probes and summaries: they leave the node, but for what a pong answers

sent-keeps : (s : Setting) (P : Node → Type 0) (d : Datagram) (c : Call) (to : ℕ) → P c.node → P (sends s d c to).node
sent-keeps s P d c to h = subst P (sym (node-sends s d c to)) h

given-keeps : (s : Setting) (P : Node → Type 0) (to : ℕ) (records : List Record) (c : Call) → P c.node → P (gives s to records c).node
given-keeps s P to [] c h = h
given-keeps s P to (r ∷ records) c h = sent-keeps s P (kinds.Records s.me (r ∷ records)) c to h

replied-keeps : (s : Setting) (P : Node → Type 0) (to : ℕ) (flag : Bool) (number : ℕ) (c : Call) → P c.node → P (replies s to flag number c).node
replied-keeps s P to true number c h = h
replied-keeps s P to false number c h = sent-keeps s P (kinds.Summary s.me true (page c.node number)) c to h

pub exchanged-keeps : (s : Setting) (P : Node → Type 0) (from : ℕ) (flag : Bool) (theirs : Summary) (c : Call) → P c.node → P (exchanges s from flag theirs c).node
exchanged-keeps s P from flag theirs c h =
    let c1 : Call = tells s (told.Summary from theirs.page flag) c in
    let c2 : Call = gives s from (lacking c.node from theirs) c1 in
    cond_both (is_other s c.node from) (replies s from flag theirs.page c2) c1 (λ x. P x.node)
    (λ yes. replied-keeps s P from flag theirs.page c2 (given-keeps s P from (lacking c.node from theirs) c1 h))
    (λ no. h)

pub pinged-keeps : (s : Setting) (P : Node → Type 0) (from nonce : ℕ) (c : Call) → P c.node → P (pinged s from nonce c).node
pinged-keeps s P from nonce c h =
    let c1 : Call = tells s (told.Ping from nonce) c in
    cond_both (is_other s c.node from) (sends s (kinds.Pong s.me nonce) c1 from) c1 (λ x. P x.node) (λ yes. sent-keeps s P (kinds.Pong s.me nonce) c1 from h) (λ no. h)

-- The records of the datagram, if it has some, are so.
abbrev pub HasGiven : (Record → Type 0) → Result Datagram ℕ → Type 0
HasGiven Given d = (from : ℕ) (records : List Record) → d ≡ Ok (kinds.Records from records) → AllByRecursion Given records

walk-hears : (s : Setting) (Given : Record → Type 0) (P : Node → Type 0) → KeepsNode s Given P → (d : Result Datagram ℕ) (c : Call) → HasGiven Given d → P c.node → P (hears s d c).node
walk-hears s Given P k (Err place) c given h = h
walk-hears s Given P k (Ok (kinds.Ping from nonce)) c given h = pinged-keeps s P from nonce c h
walk-hears s Given P k (Ok (kinds.Pong from nonce)) c given h = k.probed (ponged c.node.probes from nonce) c h
walk-hears s Given P k (Ok (kinds.Summary from flag theirs)) c given h = exchanged-keeps s P from flag theirs c h
walk-hears s Given P k (Ok (kinds.Records from records)) c given h = walk-handles_all s Given P k records c (given from records refl) h

walk-delivered : (s : Setting) (Given : Record → Type 0) (P : Node → Type 0) → KeepsNode s Given P → (n : Node) (bytes : List ℕ) → HasGiven Given (read_of bytes) → P n → P (delivered s n bytes).node
unfolding delivered
walk-delivered s Given P k n bytes given h = walk-hears s Given P k (read_of bytes) (begun n) given h

-- ---- ticks

walk-wants : (s : Setting) (Given : Record → Type 0) (P : Node → Type 0) → KeepsNode s Given P → (m : ℕ) (ring : Option ℕ) (c : Call) → ring_for s (state_of s c.node) m ≡ ring → P c.node → P (wants_accusation true s m ring c).node
walk-wants s Given P k m None c e h = h
walk-wants s Given P k m (Some ring) c e h =
    node-wants true s (accusation_on s (state_of s c.node) m ring) (neighbours_and s m) c P h (λ left. k.accused m ring c e left h)

walk-accuses : (s : Setting) (Given : Record → Type 0) (P : Node → Type 0) → KeepsNode s Given P → (c : Call) (m : ℕ) → P c.node → P (accuses true s c m).node
unfolding accuses
walk-accuses s Given P k c m h =
    let ring : Option ℕ = ring_for s (state_of s c.node) m in
    cond_both (has_accused s (state_of s c.node) m) c (wants_accusation true s m ring (tells s (told.Silent m) c)) (λ x. P x.node)
    (λ yes. h)
    (λ no. walk-wants s Given P k m ring (tells s (told.Silent m) c) refl h)

walk-accuses_all : (s : Setting) (Given : Record → Type 0) (P : Node → Type 0) → KeepsNode s Given P → (silent : List ℕ) (c : Call) → P c.node → P (accuses_all s silent c).node
walk-accuses_all s Given P k [] c h = h
walk-accuses_all s Given P k (m ∷ silent) c h = walk-accuses_all s Given P k silent (accuses true s c m) (walk-accuses s Given P k c m h)

spread-all : (s : Setting) (P : Node → Type 0) (records : List Record) (c : Call) → P c.node → P (spreads_all s records c).node
spread-all s P [] c h = h
spread-all s P (r ∷ records) c h = subst P (sym (node-sends_to_all s (neighbours s (state_of s c.node)) (kinds.Records s.me (r ∷ records)) c)) h

pub spreads-keep : (s : Setting) (P : Node → Type 0) → ((n : Node) → P n → P (record n { news = [] })) → (c : Call) → P c.node → P (spreads s c).node
unfolding spreads
spreads-keep s P without c h = without (spreads_all s (fresh c.node) c).node (spread-all s P (fresh c.node) c h)

pub pings-keep : (s : Setting) (P : Node → Type 0) (sent : List (ℕ × ℕ)) (c : Call) → P c.node → P (pings_all s sent c).node
pings-keep s P [] c h = h
pings-keep s P (p ∷ sent) c h = pings-keep s P sent (sends s (kinds.Ping s.me p.1) c p.0) (sent-keeps s P (kinds.Ping s.me p.1) c p.0 h)

pub summary-keeps : (s : Setting) (P : Node → Type 0) (round : ℕ) (to : Option ℕ) (c : Call) → P c.node → P (summary_to s round to c).node
summary-keeps s P round None c h = h
summary-keeps s P round (Some to) c h = sent-keeps s P (kinds.Summary s.me false (page c.node (page_number s c.node round))) c to h

walk-due : (s : Setting) (Given : Record → Type 0) (P : Node → Type 0) → KeepsNode s Given P → (accused : List ℕ) (sent : List (ℕ × ℕ)) (round : ℕ) (c : Call) → P c.node → P (due_tick s accused sent round c).node
unfolding due_tick
walk-due s Given P k accused sent round c h =
    let c0 : Call = spreads s c in
    let c1 : Call = accuses_all s accused c0 in
    let c2 : Call = pings_all s sent c1 in
    summary-keeps s P round (partner s c2.node round) c2 (pings-keep s P sent c1 (walk-accuses_all s Given P k accused c0 (spreads-keep s P (λ n h. k.spread (begun n) h) c h)))

walk-probed_at : (s : Setting) (Given : Record → Type 0) (P : Node → Type 0) → KeepsNode s Given P → (n : Node) → P n → P (probed_at s n).node
unfolding probed_at passed
walk-probed_at s Given P k n h =
    let c : Call = lives s Ticks (begun n) in
    let st : State = state_of s c.node in
    let later : Node = record c.node { probes = probed c.node.probes (is_due s st) (watched_by s st) } in
    let h1 : P later = k.probed later.probes c (k.passed (begun n) h) in
    cond_both (begins_span s st) c.node.stored.epoch c.node.since (λ since. P (record later { since = since })) (λ yes. k.spanned (begun later) h1) (λ no. h1)

walk-ticked : (s : Setting) (Given : Record → Type 0) (P : Node → Type 0) → KeepsNode s Given P → (n : Node) → P n → P (ticked s n).node
unfolding ticked
walk-ticked s Given P k n h =
    let p : Node = (passed s n).node in
    let st : State = state_of s p in
    let h1 : P (probed_at s n).node = walk-probed_at s Given P k n h in
    cond_both (is_due s st) (due_tick s (silent_in s p st) (pings_in s p st) (round_of s st) (probed_at s n)) (probed_at s n) (λ x. P x.node)
    (λ yes. walk-due s Given P k (silent_in s p st) (pings_in s p st) (round_of s st) (probed_at s n) h1)
    (λ no. h1)

-- ---- leaving

walk-left : (s : Setting) (Given : Record → Type 0) (P : Node → Type 0) → KeepsNode s Given P → (n : Node) → P n → P (left s n).node
unfolding left leaves
walk-left s Given P k n h =
    let c : Call = begun n in
    node-wants true s (leaving s n.stored) (neighbours s) c P h (λ left. k.departed c left h)

-- ---- calls

abbrev pub IsInput : (Record → Type 0) → Input → Type 0
IsInput Given (Delivers bytes) = HasGiven Given (read_of bytes)
IsInput Given Tick = Unit {0}
IsInput Given Leaves = Unit {0}

walk-call : (s : Setting) (Given : Record → Type 0) (P : Node → Type 0) → KeepsNode s Given P → (n : Node) (i : Input) → IsInput Given i → P n → P (call_of s n i).node
walk-call s Given P k n (Delivers bytes) given h = walk-delivered s Given P k n bytes given h
walk-call s Given P k n Tick given h = walk-ticked s Given P k n h
walk-call s Given P k n Leaves given h = walk-left s Given P k n h

pub walk-calls : (s : Setting) (Given : Record → Type 0) (P : Node → Type 0) → KeepsNode s Given P → (n : Node) (inputs : List Input) → AllByRecursion (IsInput Given) inputs → P n → P (after_calls s n inputs)
walk-calls s Given P k n [] all h = h
walk-calls s Given P k n (i ∷ inputs) all h = walk-calls s Given P k (call_of s n i).node inputs all.1 (walk-call s Given P k n i all.0 h)
