-- A step of the definitions only adds: what a call has reported and sent so far is a front of what it has afterwards.
use Rattle.std.proofs.Common.{ℕ, Bool, true, false, cond, List, [], ◌∷◌, Option, Some, None, refl, Result, Ok, Err}
use Rattle.std.specs.Prelude.{fold}
use Rattle.ff_ids.specs.Views.{State}
use Rattle.ff_ids.specs.Steps.{Event}
use Rattle.ff_ids.specs.declared.Fault.{Fault}
use Rattle.ff_ids.specs.declared.NoteBody.{NoteBody}
use Rattle.ff_ids.specs.declared.summary.Summary.{Summary}
use Rattle.records.specs.declared.Body.{Body}
use Rattle.records.specs.declared.Body.TheVariants.{Note}
use Rattle.records.specs.declared.Record.{Record}
use Rattle.datagram.specs.declared.Datagram.{Datagram}
use Rattle.datagram.specs.declared.Datagram.TheVariants as kinds
use Rattle.journal.specs.declared.event.What as whats
use Rattle.journal.specs.declared.event.What.TheVariants as told
use Rattle.node_rules.specs.Nodes.{Setting, state_of, event_of, neighbours}
use Rattle.node_rules.specs.Pages.{partner, lacking}
use Rattle.node_rules.specs.Refusals.{refusal}
use Rattle.node_rules.specs.Calls.{Call, tells, lives, takes, sends, sends_to_all, spends, signs, signs_and_sends, own_record, wants, is_used_up}
use Rattle.node_rules.specs.Deliveries.{asked_with, gives_note, settles, judged, handles, handles_all, is_other, pinged, ponged_by, gives, replies, exchanges, hears}
use Rattle.node_rules.specs.Ticking.{has_accused, ring_for, wants_accusation, accuses, accuses_all, fresh, spreads_all, spreads, pings_all, summary_to, gossips, due_tick}
use Rattle.node_core.specs.News.{keeps}
use Rattle.node_core.specs.Playing.{Extends}
use Rattle.node_core.proofs.TellingLemmas.{front-refl, front-trans}

pub extends-same : (c : Call) → Extends c c
extends-same c = record { told = front-refl c.told; sent = front-refl c.sent }

pub extends-trans : (a b c : Call) → Extends a b → Extends b c → Extends a c
extends-trans a b c p q = record { told = front-trans a.told b.told c.told p.told q.told; sent = front-trans a.sent b.sent c.sent p.sent q.sent }

extends-cond : (c x y : Call) (b : Bool) → Extends c x → Extends c y → Extends c (cond b x y)
extends-cond c x y true p q = p
extends-cond c x y false p q = q

extends-fold : {X : Type 0} (f : Call → X → Call) (xs : List X) (c : Call) → ((c : Call) (x : X) → Extends c (f c x)) → Extends c (fold f c xs)
extends-fold f [] c each = extends-same c
extends-fold f (x ∷ xs) c each = extends-trans c (f c x) (fold f (f c x) xs) (each c x) (extends-fold f xs (f c x) each)

-- ---- events and datagrams

pub extends-tells : (s : Setting) (what : whats.What) (c : Call) → Extends c (tells s what c)
extends-tells s what c = record { told = record { more = _; is = refl }; sent = front-refl c.sent }

pub extends-lives : (s : Setting) (e : Event) (c : Call) → Extends c (lives s e c)
unfolding lives
extends-lives s e c = record { told = record { more = _; is = refl }; sent = front-refl c.sent }

pub extends-takes : (s : Setting) (r : Record) (c : Call) → Extends c (takes s r c)
unfolding takes
extends-takes s r c = let h = extends-lives s (event_of s r.body) c in record { told = h.told; sent = h.sent }

pub extends-keeps : (s : Setting) (r : Record) (c : Call) → Extends c (keeps s r c)
extends-keeps s r c = let h = extends-lives s (event_of s r.body) c in record { told = h.told; sent = h.sent }

pub extends-sends : (s : Setting) (d : Datagram) (c : Call) (to : ℕ) → Extends c (sends s d c to)
unfolding sends
extends-sends s d c to = record { told = record { more = _; is = refl }; sent = record { more = _; is = refl } }

pub extends-sends_to_all : (s : Setting) (to : List ℕ) (d : Datagram) (c : Call) → Extends c (sends_to_all s to d c)
extends-sends_to_all s to d c = extends-fold (sends s d) to c (λ c m. extends-sends s d c m)

-- ---- own signatures

extends-spends : (s : Setting) (b : Body) (c : Call) → Extends c (spends s b c)
extends-spends s b c = record { told = record { more = _; is = refl }; sent = front-refl c.sent }

pub extends-signs : (s : Setting) (b : Body) (c : Call) → Extends c (signs s b c)
unfolding signs
extends-signs s b c = extends-trans c (spends s b c) (takes s (own_record s c.node b) (spends s b c)) (extends-spends s b c) (extends-takes s (own_record s c.node b) (spends s b c))

pub extends-signs_and_sends : (s : Setting) (b : Body) (to : State → List ℕ) (c : Call) → Extends c (signs_and_sends s b to c)
unfolding signs_and_sends
extends-signs_and_sends s b to c =
    let c1 : Call = signs s b c in
    let d : Datagram = kinds.Records s.me (own_record s c.node b ∷ []) in
    extends-trans c c1 (sends_to_all s (to (state_of s c1.node)) d c1) (extends-signs s b c) (extends-sends_to_all s (to (state_of s c1.node)) d c1)

pub extends-wants : (s : Setting) (b : Body) (to : State → List ℕ) (c : Call) → Extends c (wants true s b to c)
unfolding wants
extends-wants s b to c =
    extends-cond c (tells s (told.Exhausted c.node.stored.next) c) (signs_and_sends s b to c) (is_used_up s c.node) (extends-tells s (told.Exhausted c.node.stored.next) c) (extends-signs_and_sends s b to c)

-- ---- a delivery

pub extends-gives_note : (s : Setting) (note : Option NoteBody) (c : Call) → Extends c (gives_note true s note c)
extends-gives_note s None c = extends-same c
extends-gives_note s (Some note) c = extends-wants s (Note note) (neighbours s) c

pub extends-settles : (s : Setting) (fault : Option Fault) (r : Record) (c : Call) → Extends c (settles s fault r c)
extends-settles s (Some fault) r c = extends-tells s (told.Took r.body (Some fault)) c
extends-settles s None r c =
    let c1 : Call = tells s (told.Took r.body None) c in
    extends-trans c c1 (takes s r c1) (extends-tells s (told.Took r.body None) c) (extends-takes s r c1)

extends-judged : (s : Setting) (fault : Option Fault) (r : Record) (c : Call) → Extends c (judged true s fault r c)
extends-judged s fault r c =
    let note : Option NoteBody = asked_with s c.node fault r.body r in
    let c1 : Call = settles s fault r c in
    extends-trans c c1 (gives_note true s note c1) (extends-settles s fault r c) (extends-gives_note s note c1)

pub extends-handles : (s : Setting) (c : Call) (r : Record) → Extends c (handles true s c r)
unfolding handles
extends-handles s c r = extends-judged s (refusal s c.node r) r c

pub extends-handles_all : (s : Setting) (records : List Record) (c : Call) → Extends c (handles_all s records c)
extends-handles_all s records c = extends-fold (handles true s) records c (λ c r. extends-handles s c r)

pub extends-pinged : (s : Setting) (from nonce : ℕ) (c : Call) → Extends c (pinged s from nonce c)
extends-pinged s from nonce c =
    let c1 : Call = tells s (told.Ping from nonce) c in
    let d : Datagram = kinds.Pong s.me nonce in
    extends-cond c (sends s d c1 from) c1 (is_other s c.node from) (extends-trans c c1 (sends s d c1 from) (extends-tells s (told.Ping from nonce) c) (extends-sends s d c1 from)) (extends-tells s (told.Ping from nonce) c)

pub extends-ponged : (s : Setting) (from nonce : ℕ) (c : Call) → Extends c (ponged_by s from nonce c)
extends-ponged s from nonce c = record { told = record { more = _; is = refl }; sent = front-refl c.sent }

pub extends-gives : (s : Setting) (to : ℕ) (records : List Record) (c : Call) → Extends c (gives s to records c)
extends-gives s to [] c = extends-same c
extends-gives s to (r ∷ records) c = extends-sends s (kinds.Records s.me (r ∷ records)) c to

pub extends-replies : (s : Setting) (to : ℕ) (flag : Bool) (number : ℕ) (c : Call) → Extends c (replies s to flag number c)
extends-replies s to true number c = extends-same c
extends-replies s to false number c = extends-sends s _ c to

pub extends-exchanges : (s : Setting) (from : ℕ) (flag : Bool) (theirs : Summary) (c : Call) → Extends c (exchanges s from flag theirs c)
extends-exchanges s from flag theirs c =
    let c1 : Call = tells s (told.Summary from theirs.page flag) c in
    let c2 : Call = gives s from (lacking c.node from theirs) c1 in
    let first = extends-tells s (told.Summary from theirs.page flag) c in
    extends-cond c (replies s from flag theirs.page c2) c1 (is_other s c.node from)
    (extends-trans c c1 (replies s from flag theirs.page c2) first (extends-trans c1 c2 (replies s from flag theirs.page c2) (extends-gives s from (lacking c.node from theirs) c1) (extends-replies s from flag theirs.page c2)))
    first

pub extends-hears : (s : Setting) (heard : Result Datagram ℕ) (c : Call) → Extends c (hears s heard c)
extends-hears s (Err place) c = extends-tells s (told.BadForm place) c
extends-hears s (Ok (kinds.Ping from nonce)) c = extends-pinged s from nonce c
extends-hears s (Ok (kinds.Pong from nonce)) c = extends-ponged s from nonce c
extends-hears s (Ok (kinds.Summary from flag theirs)) c = extends-exchanges s from flag theirs c
extends-hears s (Ok (kinds.Records from records)) c = extends-handles_all s records c

-- ---- a tick

pub extends-wants_accusation : (s : Setting) (m : ℕ) (ring : Option ℕ) (c : Call) → Extends c (wants_accusation true s m ring c)
extends-wants_accusation s m None c = extends-same c
extends-wants_accusation s m (Some ring) c = extends-wants s _ _ c

pub extends-accuses : (s : Setting) (c : Call) (m : ℕ) → Extends c (accuses true s c m)
unfolding accuses
extends-accuses s c m =
    let c1 : Call = tells s (told.Silent m) c in
    let ring : Option ℕ = ring_for s (state_of s c.node) m in
    extends-cond c c (wants_accusation true s m ring c1) (has_accused s (state_of s c.node) m) (extends-same c) (extends-trans c c1 (wants_accusation true s m ring c1) (extends-tells s (told.Silent m) c) (extends-wants_accusation s m ring c1))

pub extends-accuses_all : (s : Setting) (silent : List ℕ) (c : Call) → Extends c (accuses_all s silent c)
extends-accuses_all s silent c = extends-fold (accuses true s) silent c (λ c m. extends-accuses s c m)

pub extends-pings_all : (s : Setting) (pings : List (ℕ × ℕ)) (c : Call) → Extends c (pings_all s pings c)
extends-pings_all s pings c = extends-fold (λ (c : Call) (p : ℕ × ℕ). sends s (kinds.Ping s.me p.1) c p.0) pings c (λ c p. extends-sends s (kinds.Ping s.me p.1) c p.0)

extends-summary_to : (s : Setting) (round : ℕ) (to : Option ℕ) (c : Call) → Extends c (summary_to s round to c)
extends-summary_to s round None c = extends-same c
extends-summary_to s round (Some to) c = extends-sends s _ c to

pub extends-gossips : (s : Setting) (round : ℕ) (c : Call) → Extends c (gossips s round c)
extends-gossips s round c = extends-summary_to s round (partner s c.node round) c

pub extends-spreads_all : (s : Setting) (records : List Record) (c : Call) → Extends c (spreads_all s records c)
extends-spreads_all s [] c = extends-same c
extends-spreads_all s (r ∷ records) c =
    extends-sends_to_all s (neighbours s (state_of s c.node)) (kinds.Records s.me (r ∷ records)) c

pub extends-spreads : (s : Setting) (c : Call) → Extends c (spreads s c)
unfolding spreads
extends-spreads s c = let h = extends-spreads_all s (fresh c.node) c in record { told = h.told; sent = h.sent }

-- the accusations, the pings and the summary
pub extends-accusing : (s : Setting) (silent : List ℕ) (pings : List (ℕ × ℕ)) (round : ℕ) (c : Call)
    → Extends c (gossips s round (pings_all s pings (accuses_all s silent c)))
extends-accusing s silent pings round c =
    let c1 : Call = accuses_all s silent c in
    let c2 : Call = pings_all s pings c1 in
    extends-trans c c1 (gossips s round c2) (extends-accuses_all s silent c) (extends-trans c1 c2 (gossips s round c2) (extends-pings_all s pings c1) (extends-gossips s round c2))

pub extends-due : (s : Setting) (silent : List ℕ) (pings : List (ℕ × ℕ)) (round : ℕ) (c : Call)
    → Extends c (due_tick s silent pings round c)
unfolding due_tick
extends-due s silent pings round c =
    let c1 : Call = spreads s c in
    extends-trans c c1 (gossips s round (pings_all s pings (accuses_all s silent c1))) (extends-spreads s c)
    (extends-accusing s silent pings round c1)
