-- What no step of a call reads but a pong's: the probes. So with other probes a step does the same, and with the nonces of another
-- source.
use Rattle.std.proofs.Common.{◌≡◌, ℕ, Bool, true, false, cond, eqb, List, [], ◌∷◌, Option, Some, None, refl, ap, sym, ◌∙◌}
use Rattle.std.specs.Prelude.{◌&&◌, Result, Ok, Err, fold}
use Rattle.ff_ids.specs.declared.Fault.{Fault}
use Rattle.ff_ids.specs.declared.NoteBody.{NoteBody}
use Rattle.ff_ids.specs.declared.summary.Summary.{Summary}
use Rattle.ff_ids.specs.Heals.{Heal}
use Rattle.ff_ids.specs.Views.{State}
use Rattle.ff_ids.specs.Steps.{Event}
use Rattle.records.specs.declared.Body.{Body}
use Rattle.records.specs.declared.Body.TheVariants.{Certificate, Note, Accusation}
use Rattle.records.specs.declared.Record.{Record}
use Rattle.epoch_store.specs.declared.Stored.{Stored}
use Rattle.datagram.specs.declared.Datagram.{Datagram}
use Rattle.datagram.specs.declared.Datagram.TheVariants as kinds
use Rattle.datagram.specs.Grammar.{read_of}
use Rattle.detector.specs.Silence.{History}
use Rattle.journal.specs.declared.event.What as whats
use Rattle.journal.specs.declared.event.What.TheVariants as told
use Rattle.node_rules.specs.Nodes.{Setting, Node, state_of, certificate_of, neighbours, neighbours_and}
use Rattle.node_rules.specs.Pages.{page, partner, page_number, lacking}
use Rattle.node_rules.specs.Refusals.{refusal}
use Rattle.node_rules.specs.Calls.{Call, begun, tells, lives, takes, spends, signs, signs_and_sends, wants, stops, sends, sends_to_all, is_used_up, own_record}
use Rattle.node_rules.specs.Deliveries.{answering_note, may_rise, asked_of, asked_with, gives_note, settles, judged, handles, handles_all, is_other, gives, replies, exchanges, pinged, ponged_by, hears, delivered}
use Rattle.node_rules.specs.Ticking.{accusation_on, ring_for, has_accused, wants_accusation, accuses, accuses_all, fresh, spreads_all, spreads, is_due, silent_in, round_of, pings_all, summary_to, gossips, passed, probed_at, due_tick}
use Rattle.node_rules.specs.Leaving.{leaving, leaves, left}
use Rattle.node_rules.specs.Starting.{blank, first_note, started}
use Rattle.node_rules.specs.Outgoing.{at_tick}
use Rattle.node_rules.specs.OtherNonces.{with_source, call_with_source, probed_with, ticked_sending}

abbrev pub with_probes : History → Node → Node
with_probes h n = record n { probes = h }

-- The call, whose node has these probes.
abbrev pub over : History → Call → Call
over h c = record c { node = with_probes h c.node }

-- The step does the same whatever the probes.
abbrev pub Overlooks : (Call → Call) → Type 0
Overlooks f = (h : History) (c : Call) → f (over h c) ≡ over h (f c)

pub keeps-probes : (f : Call → Call) → Overlooks f → (c : Call) → (f c).node.probes ≡ c.node.probes
keeps-probes f all c = ap (λ (x : Call). x.node.probes) (all c.node.probes c)

pub overlooks-source : (f : Call → Call) → Overlooks f → (source : ℕ → ℕ) (c : Call) → f (call_with_source source c) ≡ call_with_source source (f c)
overlooks-source f all source c =
    all (record c.node.probes { nonces = source }) c ∙ ap (λ (p : History). over (record p { nonces = source }) (f c)) (sym (keeps-probes f all c))

-- One step behind the other.
over-then : (f g : Call → Call) → Overlooks f → Overlooks g → Overlooks (λ c. g (f c))
over-then f g first second h c = ap g (first h c) ∙ second h (f c)

over-case : (h : History) (b : Bool) (x y x1 y1 : Call) → x1 ≡ over h x → y1 ≡ over h y → cond b x1 y1 ≡ over h (cond b x y)
over-case h true x y x1 y1 one other = one
over-case h false x y x1 y1 one other = other

-- ---- small steps

over-tells : (s : Setting) (what : whats.What) → Overlooks (tells s what)
unfolding state_of
over-tells s what h c = refl

over-lives : (s : Setting) (e : Event) → Overlooks (lives s e)
unfolding lives state_of
over-lives s e h c = refl

over-sends : (s : Setting) (d : Datagram) (to : ℕ) → Overlooks (λ c. sends s d c to)
unfolding sends state_of
over-sends s d to h c = refl

over-sends_to_all : (s : Setting) (addressees : List ℕ) (d : Datagram) → Overlooks (sends_to_all s addressees d)
over-sends_to_all s [] d h c = refl
over-sends_to_all s (to ∷ addressees) d h c = ap (sends_to_all s addressees d) (over-sends s d to h c) ∙ over-sends_to_all s addressees d h (sends s d c to)

over-takes : (s : Setting) (r : Record) → Overlooks (takes s r)
unfolding takes lives state_of
over-takes s r h c = refl

over-signs : (s : Setting) (body : Body) → Overlooks (signs s body)
unfolding signs state_of
over-signs s body h c = over-takes s (own_record s c.node body) h (spends s body c)

over-signs_and_sends : (s : Setting) (body : Body) (addressees : State → List ℕ) → Overlooks (signs_and_sends s body addressees)
unfolding signs_and_sends state_of
over-signs_and_sends s body addressees h c =
    let c1 : Call = signs s body c in
    let d : Datagram = kinds.Records s.me (own_record s c.node body ∷ []) in
    ap (λ (x : Call). sends_to_all s (addressees (state_of s x.node)) d x) (over-signs s body h c) ∙ over-sends_to_all s (addressees (state_of s c1.node)) d h c1

over-stops : (s : Setting) → Overlooks (stops s)
unfolding state_of
over-stops s h c = refl

pub over-wants : (works : Bool) (s : Setting) (body : Body) (addressees : State → List ℕ) → Overlooks (wants works s body addressees)
unfolding wants
over-wants works s body addressees h c =
    let f : Call → Call = signs_and_sends s body addressees in
    let up : Call → Call = λ x. tells s (told.Exhausted c.node.stored.next) x in
    over-case h (is_used_up s c.node) (up c) (cond works (f c) (stops s c)) (up (over h c)) (cond works (f (over h c)) (stops s (over h c)))
    (over-tells s (told.Exhausted c.node.stored.next) h c)
    (over-case h works (f c) (stops s c) (f (over h c)) (stops s (over h c)) (over-signs_and_sends s body addressees h c) (over-stops s h c))

-- ---- records

over-gives_note : (works : Bool) (s : Setting) (note : Option NoteBody) → Overlooks (gives_note works s note)
over-gives_note works s None h c = refl
over-gives_note works s (Some note) h c = over-wants works s (Note note) (neighbours s) h c

over-settles : (s : Setting) (f : Option Fault) (r : Record) → Overlooks (settles s f r)
over-settles s (Some f) r h c = over-tells s (told.Took r.body (Some f)) h c
over-settles s None r h c = over-then (tells s (told.Took r.body None)) (takes s r) (over-tells s (told.Took r.body None)) (over-takes s r) h c

may-over : (heal : Option Heal) (n : Node) (h : History) → may_rise heal (with_probes h n) ≡ may_rise heal n
may-over None n h = refl
may-over (Some heal) n h = refl

asked-over : (s : Setting) (n : Node) (h : History) (f : Option Fault) (b : Body) (r : Record) → asked_with s (with_probes h n) f b r ≡ asked_with s n f b r
unfolding certificate_of
asked-over s n h f (Certificate x) r = refl
asked-over s n h f (Note x) r = refl
asked-over s n h None (Accusation a) r = ap (λ b. cond (eqb a.accused s.me && b) (Some (answering_note s n.stored a)) None) (may-over s.heal n h)
asked-over s n h (Some f) (Accusation a) r = ap (λ b. cond (eqb a.accused s.me && b) (asked_of s n (Some f) a r) None) (may-over s.heal n h)

over-judged : (works : Bool) (s : Setting) (f : Option Fault) (r : Record) → Overlooks (judged works s f r)
over-judged works s f r h c =
    let note : Option NoteBody = asked_with s c.node f r.body r in
    ap (λ (o : Option NoteBody). gives_note works s o (settles s f r (over h c))) (asked-over s c.node h f r.body r)
    ∙ over-then (settles s f r) (gives_note works s note) (over-settles s f r) (over-gives_note works s note) h c

refusal-over : (s : Setting) (n : Node) (h : History) (r : Record) → refusal s (with_probes h n) r ≡ refusal s n r
unfolding refusal certificate_of state_of
refusal-over s n h r = refl

pub over-handles : (works : Bool) (s : Setting) (r : Record) → Overlooks (λ c. handles works s c r)
unfolding handles
over-handles works s r h c =
    ap (λ (o : Option Fault). judged works s o r (over h c)) (refusal-over s c.node h r) ∙ over-judged works s (refusal s c.node r) r h c

pub over-handles_all : (s : Setting) (records : List Record) → Overlooks (handles_all s records)
over-handles_all s [] h c = refl
over-handles_all s (r ∷ records) h c = ap (handles_all s records) (over-handles true s r h c) ∙ over-handles_all s records h (handles true s c r)

-- ---- probes and summaries

other-over : (s : Setting) (n : Node) (h : History) (m : ℕ) → is_other s (with_probes h n) m ≡ is_other s n m
unfolding certificate_of
other-over s n h m = refl

pub over-pinged : (s : Setting) (from nonce : ℕ) → Overlooks (pinged s from nonce)
over-pinged s from nonce h c =
    let heard : Call → Call = tells s (told.Ping from nonce) in
    let answered : Call → Call = λ x. sends s (kinds.Pong s.me nonce) x from in
    let first : heard (over h c) ≡ over h (heard c) = over-tells s (told.Ping from nonce) h c in
    ap (λ b. cond b (answered (heard (over h c))) (heard (over h c))) (other-over s c.node h from)
    ∙ over-case h (is_other s c.node from) (answered (heard c)) (heard c) (answered (heard (over h c))) (heard (over h c))
    (ap answered first ∙ over-sends s (kinds.Pong s.me nonce) from h (heard c)) first

lacking-over : (n : Node) (h : History) (from : ℕ) (theirs : Summary) → lacking (with_probes h n) from theirs ≡ lacking n from theirs
unfolding lacking page
lacking-over n h from theirs = refl

over-gives : (s : Setting) (to : ℕ) (records : List Record) → Overlooks (gives s to records)
over-gives s to [] h c = refl
over-gives s to (r ∷ records) h c = over-sends s (kinds.Records s.me (r ∷ records)) to h c

page-over : (n : Node) (h : History) (number : ℕ) → page (with_probes h n) number ≡ page n number
unfolding page
page-over n h number = refl

over-replies : (s : Setting) (to : ℕ) (flag : Bool) (number : ℕ) → Overlooks (replies s to flag number)
over-replies s to true number h c = refl
over-replies s to false number h c =
    ap (λ (x : Summary). sends s (kinds.Summary s.me true x) (over h c) to) (page-over c.node h number) ∙ over-sends s (kinds.Summary s.me true (page c.node number)) to h c

pub over-exchanges : (s : Setting) (from : ℕ) (flag : Bool) (theirs : Summary) → Overlooks (exchanges s from flag theirs)
over-exchanges s from flag theirs h c =
    let heard : Call → Call = tells s (told.Summary from theirs.page flag) in
    let first : heard (over h c) ≡ over h (heard c) = over-tells s (told.Summary from theirs.page flag) h c in
    let back : List Record → Call → Call = λ records x. replies s from flag theirs.page (gives s from records x) in
    let records : List Record = lacking c.node from theirs in
    ap (λ b. cond b (back (lacking (with_probes h c.node) from theirs) (heard (over h c))) (heard (over h c))) (other-over s c.node h from)
    ∙ over-case h (is_other s c.node from) (back records (heard c)) (heard c) (back (lacking (with_probes h c.node) from theirs) (heard (over h c))) (heard (over h c))
    (ap (λ (rs : List Record). back rs (heard (over h c))) (lacking-over c.node h from theirs) ∙ ap (back records) first
    ∙ over-then (gives s from records) (replies s from flag theirs.page) (over-gives s from records) (over-replies s from flag theirs.page) h (heard c))
    first

-- A pong alone reads the probes, and of them no nonce that is yet to come.
source-ponged : (s : Setting) (from nonce : ℕ) (source : ℕ → ℕ) (c : Call) → ponged_by s from nonce (call_with_source source c) ≡ call_with_source source (ponged_by s from nonce c)
unfolding state_of
source-ponged s from nonce source c = refl

source-hears : (s : Setting) (d : Result Datagram ℕ) (source : ℕ → ℕ) (c : Call) → hears s d (call_with_source source c) ≡ call_with_source source (hears s d c)
source-hears s (Err place) source c = overlooks-source (tells s (told.BadForm place)) (over-tells s (told.BadForm place)) source c
source-hears s (Ok (kinds.Ping from nonce)) source c = overlooks-source (pinged s from nonce) (over-pinged s from nonce) source c
source-hears s (Ok (kinds.Pong from nonce)) source c = source-ponged s from nonce source c
source-hears s (Ok (kinds.Summary from flag theirs)) source c = overlooks-source (exchanges s from flag theirs) (over-exchanges s from flag theirs) source c
source-hears s (Ok (kinds.Records from records)) source c = overlooks-source (handles_all s records) (over-handles_all s records) source c

pub source-delivered : (s : Setting) (n : Node) (source : ℕ → ℕ) (bytes : List ℕ) → delivered s (with_source source n) bytes ≡ call_with_source source (delivered s n bytes)
unfolding delivered
source-delivered s n source bytes = source-hears s (read_of bytes) source (begun n)

-- ---- starting and leaving

over-opened : (s : Setting) (certificates : List Record) → Overlooks (λ c. fold (λ (x : Call) (r : Record). takes s r x) c certificates)
over-opened s [] h c = refl
over-opened s (r ∷ certificates) h c =
    ap (λ (y : Call). fold (λ (x : Call) (r : Record). takes s r x) y certificates) (over-takes s r h c) ∙ over-opened s certificates h (takes s r c)

-- The certificates, and then the first note.
abbrev pub starts : Setting → Body → List Record → Call → Call
starts s first certificates c = signs s first (fold (λ (x : Call) (r : Record). takes s r x) c certificates)

pub over-started : (s : Setting) (first : Body) (certificates : List Record) → Overlooks (starts s first certificates)
over-started s first certificates = over-then (λ c. fold (λ (x : Call) (r : Record). takes s r x) c certificates) (signs s first) (over-opened s certificates) (over-signs s first)

pub source-started : (s : Setting) (source other : ℕ → ℕ) (certificates : List Record) (stored : Stored)
    → started s source certificates stored ≡ call_with_source source (started s other certificates stored)
unfolding started
source-started s source other certificates stored =
    overlooks-source (starts s (first_note s stored) certificates) (over-started s (first_note s stored) certificates) source (begun (blank s other stored))

pub over-leaves : (works : Bool) (s : Setting) → Overlooks (leaves works s)
unfolding leaves
over-leaves works s h c = over-wants works s (leaving s c.node.stored) (neighbours s) h c

pub source-left : (s : Setting) (n : Node) (source : ℕ → ℕ) → left s (with_source source n) ≡ call_with_source source (left s n)
unfolding left
source-left s n source = overlooks-source (leaves true s) (over-leaves true s) source (begun n)

-- ---- ticks

over-wants_accusation : (works : Bool) (s : Setting) (m : ℕ) (ring : Option ℕ) → Overlooks (wants_accusation works s m ring)
unfolding state_of
over-wants_accusation works s m None h c = refl
over-wants_accusation works s m (Some ring) h c = over-wants works s (accusation_on s (state_of s c.node) m ring) (neighbours_and s m) h c

pub over-accuses : (works : Bool) (s : Setting) (m : ℕ) → Overlooks (λ c. accuses works s c m)
unfolding accuses state_of
over-accuses works s m h c =
    let found : Call → Call = tells s (told.Silent m) in
    let accused : Call → Call = λ x. wants_accusation works s m (ring_for s (state_of s c.node) m) (found x) in
    over-case h (has_accused s (state_of s c.node) m) c (accused c) (over h c) (accused (over h c)) refl
    (over-then found (wants_accusation works s m (ring_for s (state_of s c.node) m)) (over-tells s (told.Silent m)) (over-wants_accusation works s m (ring_for s (state_of s c.node) m)) h c)

over-accuses_all : (s : Setting) (silent : List ℕ) → Overlooks (accuses_all s silent)
over-accuses_all s [] h c = refl
over-accuses_all s (m ∷ silent) h c = ap (accuses_all s silent) (over-accuses true s m h c) ∙ over-accuses_all s silent h (accuses true s c m)

over-spreads_all : (s : Setting) (records : List Record) → Overlooks (spreads_all s records)
unfolding state_of
over-spreads_all s [] h c = refl
over-spreads_all s (r ∷ records) h c = over-sends_to_all s (neighbours s (state_of s c.node)) (kinds.Records s.me (r ∷ records)) h c

fresh-over : (n : Node) (h : History) → fresh (with_probes h n) ≡ fresh n
unfolding fresh
fresh-over n h = refl

over-spreads : (s : Setting) → Overlooks (spreads s)
unfolding spreads
over-spreads s h c =
    ap (λ (x : Call). record x { node = record x.node { news = [] } })
    (ap (λ (rs : List Record). spreads_all s rs (over h c)) (fresh-over c.node h) ∙ over-spreads_all s (fresh c.node) h c)

over-pings_all : (s : Setting) (sent : List (ℕ × ℕ)) → Overlooks (pings_all s sent)
over-pings_all s [] h c = refl
over-pings_all s (p ∷ sent) h c = ap (pings_all s sent) (over-sends s (kinds.Ping s.me p.1) p.0 h c) ∙ over-pings_all s sent h (sends s (kinds.Ping s.me p.1) c p.0)

summary-over : (s : Setting) (n : Node) (h : History) (round : ℕ) → page (with_probes h n) (page_number s (with_probes h n) round) ≡ page n (page_number s n round)
unfolding page page_number certificate_of state_of
summary-over s n h round = refl

over-summary : (s : Setting) (round : ℕ) (to : Option ℕ) → Overlooks (summary_to s round to)
over-summary s round None h c = refl
over-summary s round (Some to) h c =
    ap (λ (x : Summary). sends s (kinds.Summary s.me false x) (over h c) to) (summary-over s c.node h round)
    ∙ over-sends s (kinds.Summary s.me false (page c.node (page_number s c.node round))) to h c

partner-over : (s : Setting) (n : Node) (h : History) (round : ℕ) → partner s (with_probes h n) round ≡ partner s n round
unfolding partner certificate_of state_of
partner-over s n h round = refl

over-gossips : (s : Setting) (round : ℕ) → Overlooks (gossips s round)
over-gossips s round h c =
    ap (λ (o : Option ℕ). summary_to s round o (over h c)) (partner-over s c.node h round) ∙ over-summary s round (partner s c.node round) h c

over-accused : (s : Setting) (accused : List ℕ) → Overlooks (λ c. accuses_all s accused (spreads s c))
over-accused s accused = over-then (spreads s) (accuses_all s accused) (over-spreads s) (over-accuses_all s accused)

pub over-due : (s : Setting) (accused : List ℕ) (sent : List (ℕ × ℕ)) (round : ℕ) → Overlooks (due_tick s accused sent round)
unfolding due_tick
over-due s accused sent round h c =
    over-then (λ x. pings_all s sent (accuses_all s accused (spreads s x))) (gossips s round)
    (over-then (λ x. accuses_all s accused (spreads s x)) (pings_all s sent) (over-accused s accused) (over-pings_all s sent)) (over-gossips s round) h c

-- The accusations alone.
pub node-accused_over : (s : Setting) (accused : List ℕ) (h : History) (c : Call) → (accuses_all s accused (spreads s (over h c))).node ≡ with_probes h (accuses_all s accused (spreads s c)).node
node-accused_over s accused h c = ap (λ (x : Call). x.node) (over-accused s accused h c)

-- ---- a tick with given pings

source-at_tick : (s : Setting) (n : Node) (source : ℕ → ℕ) → at_tick s (with_source source n) ≡ with_source source (at_tick s n)
unfolding passed lives state_of
source-at_tick s n source = refl

source-probed : (s : Setting) (n : Node) (source : ℕ → ℕ) (sent : List (ℕ × ℕ)) → probed_with s (with_source source n) sent ≡ call_with_source source (probed_with s n sent)
unfolding probed_with probed_at passed lives state_of
source-probed s n source sent = refl

-- The tick, where this is the node at it, and the call so far.
abbrev on_tick : Setting → List (ℕ × ℕ) → Node → Call → Call
on_tick s sent p c = cond (is_due s (state_of s p)) (due_tick s (silent_in s p (state_of s p)) sent (round_of s (state_of s p)) c) c

source-case : (source : ℕ → ℕ) (f : Call → Call) (c : Call) → Overlooks f → (b : Bool) → cond b (f (call_with_source source c)) (call_with_source source c) ≡ call_with_source source (cond b (f c) c)
source-case source f c all true = overlooks-source f all source c
source-case source f c all false = refl

source-on_tick : (s : Setting) (sent : List (ℕ × ℕ)) (p : Node) (c : Call) (source : ℕ → ℕ) → on_tick s sent (with_source source p) (call_with_source source c) ≡ call_with_source source (on_tick s sent p c)
unfolding state_of
source-on_tick s sent p c source =
    let st : State = state_of s p in
    let silent : List ℕ = silent_in s p st in
    source-case source (due_tick s silent sent (round_of s st)) c (over-due s silent sent (round_of s st)) (is_due s st)

pub source-ticked : (s : Setting) (n : Node) (source : ℕ → ℕ) (sent : List (ℕ × ℕ)) → ticked_sending s (with_source source n) sent ≡ call_with_source source (ticked_sending s n sent)
unfolding ticked_sending
source-ticked s n source sent =
    ap (λ (p : Node). on_tick s sent p (probed_with s (with_source source n) sent)) (source-at_tick s n source)
    ∙ ap (on_tick s sent (with_source source (at_tick s n))) (source-probed s n source sent)
    ∙ source-on_tick s sent (at_tick s n) (probed_with s n sent) source
