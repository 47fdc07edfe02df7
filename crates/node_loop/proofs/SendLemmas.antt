-- How the events of a call are reported, one after another.
use Rattle.std.proofs.Common.{◌≡◌, ◌≢◌, ℕ, IfErr, Bool, true, false, cond, List, [], ◌∷◌, ◌++◌, Option, Some, None, Result, Err, sym, ap, ◌∙◌, subst}
use Rattle.std.specs.Result.{IsErrAnd}
use Rattle.std.proofs.lemmas.Result.{err_from_is_err_and}
use Rattle.ports.specs.Disk.{Moment}
use Rattle.ports.specs.Link.{LinkState}
use Rattle.journal.specs.declared.event.Event as journal
use Rattle.journal.specs.declared.event.What.TheVariants as kinds
use Rattle.node_core.specs.Playing.{Kept}
use Rattle.node_loop.specs.declared.fault.ServeFault.{ServeFault}
use Rattle.node_loop.specs.declared.fault.ServeFault.TheVariants as faults
use Rattle.node_loop.specs.Courses.{ServeState, fails_next, hands_over, sends_one, tells, tells_all, tells_what, writes, writes_event}
use Rattle.turn_rules.specs.Courses.{datagram_in}
use Rattle.turn_rules.specs.Lines.{line_of}
use Rattle.node_loop.specs.Gathering.{GathersLine, IsAtBut, TellsBut, WritesBehind}
use Rattle.node_loop.specs.Writing.{Before, Extends, IsAt, IsWithin, Standing, Tells, standing}
use Rattle.node_loop.proofs.CourseLemmas.{Grows, grows-sent, grows-tells_all, tells_all-append}
use Rattle.node_loop.proofs.GatherLemmas.{but-none, gathered, written-with}
use Rattle.node_loop.proofs.TellLemmas.{extends-refl, extends-trans, tells-more, within-grows}

-- ---- one datagram

-- its line, which has the number of those sent before it, and what was gathered
pub sent-line : (before : Before) (v : Kept) (link : Option LinkState) (taken after : Option (List ℕ)) (moments : List Moment) (sent moment to : ℕ) (bytes old : List ℕ) (r : ServeState)
    (answer : Result (Unit {0}) ServeFault) → IsAtBut before (standing v link taken moments sent) old r
    → WritesBehind taken after old (line_of (record { moment = moment; what = kinds.Sent sent to bytes })) answer → IfErr answer (λ e. e ≢ faults.StoreFault)
    → Tells before (standing v link after moments sent) (writes_event moment (kinds.Sent r.sent to bytes) r) answer
sent-line before v link taken after moments sent moment to bytes old r answer at wrote other =
    written-with before v link taken after moments sent old (line_of (record { moment = moment; what = kinds.Sent r.sent to bytes })) r answer at
    (subst (λ (k : ℕ). WritesBehind taken after old (line_of (record { moment = moment; what = kinds.Sent k to bytes })) answer) at.sent wrote) other

-- the line broke off
pub unsent : (before : Before) (w : Standing) (moment to : ℕ) (bytes : List ℕ) (r : ServeState) (e : ServeFault)
    → Tells before w (writes_event moment (kinds.Sent r.sent to bytes) r) (Err e) → Tells before w (sends_one moment to bytes r) (Err e)
unsent before w moment to bytes r e h =
    tells-more before w (writes_event moment (kinds.Sent r.sent to bytes) r) (sends_one moment to bytes r) e h (grows-sent moment to bytes r)

-- memory was refused for it
pub within-sent : (before : Before) (w : Standing) (moment to : ℕ) (bytes : List ℕ) (r : ServeState) → IsWithin before w (writes_event moment (kinds.Sent r.sent to bytes) r) → IsWithin before w (sends_one moment to bytes r)
within-sent before w moment to bytes r h =
    within-grows before w (writes_event moment (kinds.Sent r.sent to bytes) r) (sends_one moment to bytes r) h (grows-sent moment to bytes r)

-- it went out
pub went-out : (before : Before) (w : Standing) (moment to : ℕ) (bytes : List ℕ) (r : ServeState) → false ≡ fails_next r.link
    → IsAt before w (hands_over to bytes (writes_event moment (kinds.Sent r.sent to bytes) r)) → IsAt before w (sends_one moment to bytes r)
went-out before w moment to bytes r works at =
    let r1 = hands_over to bytes (writes_event moment (kinds.Sent r.sent to bytes) r) in
    subst (λ (b : Bool). IsAt before w (cond b (writes_event moment (kinds.Lost r.sent) r1) r1)) works at

-- it is lost, and that is gathered
pub got-lost : (before : Before) (v : Kept) (link : Option LinkState) (taken after : Option (List ℕ)) (moments : List Moment) (sent number moment to : ℕ) (bytes old lines : List ℕ) (r : ServeState)
    (answer : Result (Unit {0}) ServeFault) → true ≡ fails_next r.link → number ≡ r.sent → old ≡ []
    → IsAt before (standing v link taken moments sent) (hands_over to bytes (writes_event moment (kinds.Sent r.sent to bytes) r))
    → GathersLine taken after old lines (line_of (record { moment = moment; what = kinds.Lost number })) answer → IfErr answer (λ e. e ≢ faults.StoreFault)
    → TellsBut before (standing v link after moments sent) lines (sends_one moment to bytes r) answer
got-lost before v link taken after moments sent number moment to bytes old lines r answer fails is none at gathers other =
    let r1 = hands_over to bytes (writes_event moment (kinds.Sent r.sent to bytes) r) in
    let line = line_of (record { moment = moment; what = kinds.Lost r.sent }) in
    let w = standing v link taken moments sent in
    let told = gathered before v link taken after moments sent old lines line r1 answer
    (but-none before w old r1 none at)
    (subst (λ (k : ℕ). GathersLine taken after old lines (line_of (record { moment = moment; what = kinds.Lost k })) answer) is gathers) other in
    subst (λ (b : Bool). TellsBut before (standing v link after moments sent) lines (cond b (writes line r1) r1) answer) fails told

-- ---- one event

pub tells-sends : (e : journal.Event) (d : ℕ × List ℕ) (r : ServeState) → datagram_in e.what ≡ Some d → tells r e ≡ sends_one e.moment d.0 d.1 r
unfolding tells
tells-sends e d r is = ap (λ (x : Option (ℕ × List ℕ)). tells_what e.moment e.what x r) is

pub tells-writes : (e : journal.Event) (r : ServeState) → datagram_in e.what ≡ None → tells r e ≡ writes (line_of e) r
unfolding tells
tells-writes e r is = ap (λ (x : Option (ℕ × List ℕ)). tells_what e.moment e.what x r) is

pub told-as : (before : Before) (w : Standing) (lines : List ℕ) (r r1 : ServeState) (answer : Result (Unit {0}) ServeFault) → r1 ≡ r → TellsBut before w lines r answer → TellsBut before w lines r1 answer
told-as before w lines r r1 answer is h = subst (λ (x : ServeState). TellsBut before w lines x answer) (sym is) h

-- ---- events one after another

-- These events were reported behind the lines that were gathered first, but for those that are gathered now.
pub record HasTold (v : Kept) (events : List journal.Event) (link later : Option LinkState) (taken after : Option (List ℕ)) (sent sent1 : ℕ) (first lines : List ℕ) : Type 0 where
  pub tells : (before : Before) (moments : List Moment) (r : ServeState) → IsAtBut before (standing v link taken moments sent) first r → IsAtBut before (standing v later after moments sent1) lines (tells_all events r)
  pub extends : Extends taken after link later

pub told-none : (v : Kept) (link : Option LinkState) (taken : Option (List ℕ)) (sent : ℕ) (lines : List ℕ) → HasTold v [] link link taken taken sent sent lines lines
told-none v link taken sent lines = record { tells = λ before moments r at. at; extends = extends-refl taken link }

pub told-next : (v : Kept) (done more : List journal.Event) (e : journal.Event) (l1 l2 l3 : Option LinkState) (t1 t2 t3 : Option (List ℕ)) (n1 n2 n3 : ℕ) (first old lines : List ℕ) → HasTold v done l1 l2 t1 t2 n1 n2 first old → more ≡ done ++ e ∷ []
    → ((before : Before) (moments : List Moment) (r : ServeState) → IsAtBut before (standing v l2 t2 moments n2) old r → IsAtBut before (standing v l3 t3 moments n3) lines (tells r e))
    → Extends t2 t3 l2 l3 → HasTold v more l1 l3 t1 t3 n1 n3 first lines
told-next v done more e l1 l2 l3 t1 t2 t3 n1 n2 n3 first old lines h is next extends = record {
  tells = λ before moments r at.
      subst (λ (x : ServeState). IsAtBut before (standing v l3 t3 moments n3) lines x) (sym (ap (λ (es : List journal.Event). tells_all es r) is ∙ tells_all-append done (e ∷ []) r))
      (next before moments (tells_all done r) (h.tells before moments r at));
  extends = extends-trans t1 t2 t3 l1 l2 l3 h.extends extends;
}

-- one of them broke off
pub told-part : (before : Before) (w : Standing) (done all rest : List journal.Event) (e : journal.Event) (r : ServeState) (fault : ServeFault) → all ≡ done ++ e ∷ rest
    → Tells before w (tells (tells_all done r) e) (Err fault) → Tells before w (tells_all all r) (Err fault)
told-part before w done all rest e r fault is h =
    tells-more before w (tells (tells_all done r) e) (tells_all all r) fault h
    (subst (λ (x : ServeState). Grows (tells (tells_all done r) e) x) (sym (ap (λ (es : List journal.Event). tells_all es r) is ∙ tells_all-append done (e ∷ rest) r)) (grows-tells_all rest (tells (tells_all done r) e)))

-- what a `?` hands on
pub thrown : (r : Result (Unit {0}) ServeFault) (e : ServeFault) → IsErrAnd r (λ y. y ≡ e) → r ≡ Err e
thrown r e h = let p = err_from_is_err_and r h in p.1 ∙ ap Err p.2
