-- Courses only grow, and fold act by act.
use Rattle.std.proofs.Common.{◌≡◌, ℕ, zero, suc, Bool, true, false, List, [], ◌∷◌, ◌++◌, Option, Some, None, refl, sym, ap, ◌∙◌, append_assoc, append-nil, fold, cond, drop}
use Rattle.node_core.specs.Told.{IsPrefix}
use Rattle.node_core.specs.Spending.{spent_told}
use Rattle.ports.specs.declared.link.LinkAnswer.{LinkAnswer}
use Rattle.journal.specs.declared.turn.Heard.{Heard}
use Rattle.journal.specs.declared.turn.Heard.TheVariants as heard
use Rattle.journal.specs.declared.turn.Turn.{Turn}
use Rattle.journal.specs.declared.event.Event as journal
use Rattle.journal.specs.declared.event.What as whats
use Rattle.node_rules.specs.Nodes.{Setting, Node}
use Rattle.node_rules.specs.Calls.{Call}
use Rattle.node_rules.specs.Lives.{Input, Delivers, Ticks, Leaves, call_of}
use Rattle.turn_rules.specs.Turns.{Act, Receives, Writes, Calls, delivery_of, ticks_of, turn_acts}
use Rattle.journal.specs.Turns.{turn_text}
use Rattle.node_loop.specs.Courses.{ServeState, writes, writes_event, hands_over, fails_next, sends_one, tells_what, tells, tells_all, moves, gives, called, acted, served}
use Rattle.turn_rules.specs.Lines.{with_feed}
use Rattle.turn_rules.specs.Courses.{datagram_in, may_tick}

pub front-refl : {X : Type 0} (xs : List X) → IsPrefix xs xs
front-refl xs = record { more = []; is = sym (append-nil xs) }

pub front-trans : {X : Type 0} (a b c : List X) → IsPrefix a b → IsPrefix b c → IsPrefix a c
front-trans a b c p q = record { more = p.more ++ q.more; is = q.is ∙ ap (λ xs. xs ++ q.more) p.is ∙ append_assoc a p.more q.more }

pub front-append : {X : Type 0} (a more : List X) → IsPrefix a (a ++ more)
front-append a more = record { more = more; is = refl }

-- What the one has written and given is a front of what the other has.
pub record Grows (old new : ServeState) : Type 0 where
  pub text : IsPrefix old.text new.text
  pub given : IsPrefix old.link.given new.link.given
  pub spent : IsPrefix old.spent new.spent

pub grows-refl : (r : ServeState) → Grows r r
grows-refl r = record { text = front-refl r.text; given = front-refl r.link.given; spent = front-refl r.spent }

pub grows-trans : (a b c : ServeState) → Grows a b → Grows b c → Grows a c
grows-trans a b c p q = record { text = front-trans a.text b.text c.text p.text q.text; given = front-trans a.link.given b.link.given c.link.given p.given q.given; spent = front-trans a.spent b.spent c.spent p.spent q.spent }

pub grows-writes : (line : List ℕ) (r : ServeState) → Grows r (writes line r)
grows-writes line r = record { text = front-append r.text line; given = front-refl r.link.given; spent = front-refl r.spent }

pub grows-hands_over : (to : ℕ) (bytes : List ℕ) (r : ServeState) → Grows r (hands_over to bytes r)
grows-hands_over to bytes r = record { text = front-refl r.text; given = front-append r.link.given _; spent = front-refl r.spent }

-- ---- one choice

grows-cond : (b : Bool) (r x y : ServeState) → Grows r x → Grows r y → Grows r (cond b x y)
grows-cond true r x y p q = p
grows-cond false r x y p q = q

-- behind its line a datagram is given
pub grows-sent : (moment to : ℕ) (bytes : List ℕ) (r : ServeState) → Grows (writes_event moment (whats.TheVariants.Sent r.sent to bytes) r) (sends_one moment to bytes r)
grows-sent moment to bytes r =
    let w = writes_event moment (whats.TheVariants.Sent r.sent to bytes) r in
    let h = hands_over to bytes w in
    grows-cond (fails_next r.link) w _ h (grows-trans w h _ (grows-hands_over to bytes w) (grows-writes _ h)) (grows-hands_over to bytes w)

pub grows-sends_one : (moment to : ℕ) (bytes : List ℕ) (r : ServeState) → Grows r (sends_one moment to bytes r)
grows-sends_one moment to bytes r =
    let w = writes_event moment (whats.TheVariants.Sent r.sent to bytes) r in
    grows-trans r w _ (grows-writes _ r) (grows-sent moment to bytes r)

grows-what : (moment : ℕ) (what : whats.What) (d : Option (ℕ × List ℕ)) (r : ServeState) → Grows r (tells_what moment what d r)
grows-what moment what (Some d) r = grows-sends_one moment d.0 d.1 r
grows-what moment what None r = grows-writes _ r

pub grows-tells : (r : ServeState) (e : journal.Event) → Grows r (tells r e)
unfolding tells
grows-tells r e = grows-what e.moment e.what (datagram_in e.what) r

pub grows-tells_all : (events : List journal.Event) (r : ServeState) → Grows r (tells_all events r)
grows-tells_all [] r = grows-refl r
grows-tells_all (e ∷ events) r = grows-trans r (tells r e) _ (grows-tells r e) (grows-tells_all events (tells r e))

pub tells_all-append : (first second : List journal.Event) (r : ServeState) → tells_all (first ++ second) r ≡ tells_all second (tells_all first r)
tells_all-append [] second r = refl
tells_all-append (e ∷ first) second r = tells_all-append first second (tells r e)

pub grows-gives : (c : Call) (r : ServeState) → Grows r (gives c r)
unfolding gives
grows-gives c r =
    let r1 : ServeState = moves c r in
    let g = grows-tells_all c.told r1 in
    record { text = g.text; given = g.given; spent = front-trans r.spent r1.spent (tells_all c.told r1).spent (front-append r.spent (spent_told c.told)) g.spent }

grows-called : (s : Setting) (input : Input) (r : ServeState) → Grows r (called s input r)
grows-called s (Delivers bytes) r = grows-gives (call_of s r.node (Delivers bytes)) r
grows-called s Leaves r = grows-gives (call_of s r.node Leaves) r
grows-called s Ticks r = grows-cond (may_tick s r.node) r _ r (grows-gives (call_of s r.node Ticks) r) (grows-refl r)

grows-acted : (s : Setting) (r : ServeState) (act : Act) → Grows r (acted s r act)
grows-acted s r Receives = record { text = front-refl r.text; given = front-refl r.link.given; spent = front-refl r.spent }
grows-acted s r (Writes turn) = grows-writes (with_feed (turn_text turn)) r
grows-acted s r (Calls input) = grows-called s input r

grows-folded : (s : Setting) (acts : List Act) (r : ServeState) → Grows r (fold (acted s) r acts)
grows-folded s [] r = grows-refl r
grows-folded s (act ∷ acts) r = grows-trans r (acted s r act) _ (grows-acted s r act) (grows-folded s acts (acted s r act))

pub grows-served : (s : Setting) (acts : List Act) (r : ServeState) → Grows r (served s acts r)
unfolding served
grows-served s acts r = grows-folded s acts r

-- ---- acts one after another

pub served-nil : (s : Setting) (r : ServeState) → served s [] r ≡ r
unfolding served
served-nil s r = refl

pub served-cons : (s : Setting) (act : Act) (acts : List Act) (r : ServeState) → served s (act ∷ acts) r ≡ served s acts (acted s r act)
unfolding served
served-cons s act acts r = refl

pub served-append : (s : Setting) (first second : List Act) (r : ServeState) → served s (first ++ second) r ≡ served s second (served s first r)
served-append s [] second r = ap (λ x. served s second x) (sym (served-nil s r))
served-append s (act ∷ first) second r =
    served-cons s act (first ++ second) r ∙ served-append s first second (acted s r act)
    ∙ ap (λ x. served s second x) (sym (served-cons s act first r))

-- ---- what the link is to answer

coming-cond : (b : Bool) (coming : List LinkAnswer) (x y : ServeState) → x.link.coming ≡ coming → y.link.coming ≡ coming → (cond b x y).link.coming ≡ coming
coming-cond true coming x y p q = p
coming-cond false coming x y p q = q

coming-what : (moment : ℕ) (what : whats.What) (d : Option (ℕ × List ℕ)) (r : ServeState) → (tells_what moment what d r).link.coming ≡ r.link.coming
coming-what moment what (Some d) r = coming-cond (fails_next r.link) r.link.coming _ (hands_over d.0 d.1 (writes_event moment (whats.TheVariants.Sent r.sent d.0 d.1) r)) refl refl
coming-what moment what None r = refl

coming-tells : (r : ServeState) (e : journal.Event) → (tells r e).link.coming ≡ r.link.coming
unfolding tells
coming-tells r e = coming-what e.moment e.what (datagram_in e.what) r

coming-tells_all : (events : List journal.Event) (r : ServeState) → (tells_all events r).link.coming ≡ r.link.coming
coming-tells_all [] r = refl
coming-tells_all (e ∷ events) r = coming-tells_all events (tells r e) ∙ coming-tells r e

coming-gives : (c : Call) (r : ServeState) → (gives c r).link.coming ≡ r.link.coming
unfolding gives
coming-gives c r = coming-tells_all c.told (moves c r)

coming-called : (s : Setting) (input : Input) (r : ServeState) → (called s input r).link.coming ≡ r.link.coming
coming-called s (Delivers bytes) r = coming-gives (call_of s r.node (Delivers bytes)) r
coming-called s Leaves r = coming-gives (call_of s r.node Leaves) r
coming-called s Ticks r = coming-cond (may_tick s r.node) r.link.coming _ r (coming-gives (call_of s r.node Ticks) r) refl

coming-ticks : (s : Setting) (ticks : ℕ) (r : ServeState) → (served s (ticks_of ticks) r).link.coming ≡ r.link.coming
coming-ticks s zero r = ap (λ (x : ServeState). x.link.coming) (served-nil s r)
coming-ticks s (suc ticks) r =
    ap (λ (x : ServeState). x.link.coming) (served-cons s (Calls Ticks) (ticks_of ticks) r)
    ∙ coming-ticks s ticks (acted s r (Calls Ticks)) ∙ coming-called s Ticks r

coming-delivery : (s : Setting) (came : Heard) (r : ServeState) → (served s (delivery_of came) r).link.coming ≡ r.link.coming
coming-delivery s (heard.Got bytes) r =
    ap (λ (x : ServeState). x.link.coming) (served-cons s (Calls (Delivers bytes)) [] r ∙ served-nil s (acted s r (Calls (Delivers bytes))))
    ∙ coming-called s (Delivers bytes) r
coming-delivery s heard.Nothing r = ap (λ (x : ServeState). x.link.coming) (served-nil s r)
coming-delivery s heard.Failed r = ap (λ (x : ServeState). x.link.coming) (served-nil s r)

-- a turn takes one answer of the link
pub coming-turn : (s : Setting) (turn : Turn) (r : ServeState) → (served s (turn_acts turn) r).link.coming ≡ drop 1 r.link.coming
coming-turn s turn r =
    let rest = delivery_of turn.heard ++ ticks_of turn.ticks in
    let r1 = acted s r Receives in
    let r2 = acted s r1 (Writes turn) in
    ap (λ (x : ServeState). x.link.coming) (served-cons s Receives (Writes turn ∷ rest) r ∙ served-cons s (Writes turn) rest r1 ∙ served-append s (delivery_of turn.heard) (ticks_of turn.ticks) r2)
    ∙ coming-ticks s turn.ticks (served s (delivery_of turn.heard) r2) ∙ coming-delivery s turn.heard r2

-- ---- what is reported leaves the node

node-cond : (b : Bool) (n : Node) (x y : ServeState) → x.node ≡ n → y.node ≡ n → (cond b x y).node ≡ n
node-cond true n x y p q = p
node-cond false n x y p q = q

node-what : (moment : ℕ) (what : whats.What) (d : Option (ℕ × List ℕ)) (r : ServeState) → (tells_what moment what d r).node ≡ r.node
node-what moment what (Some d) r = node-cond (fails_next r.link) r.node _ (hands_over d.0 d.1 (writes_event moment (whats.TheVariants.Sent r.sent d.0 d.1) r)) refl refl
node-what moment what None r = refl

node-tells : (r : ServeState) (e : journal.Event) → (tells r e).node ≡ r.node
unfolding tells
node-tells r e = node-what e.moment e.what (datagram_in e.what) r

pub node-tells_all : (events : List journal.Event) (r : ServeState) → (tells_all events r).node ≡ r.node
node-tells_all [] r = refl
node-tells_all (e ∷ events) r = node-tells_all events (tells r e) ∙ node-tells r e

pub node-gives : (c : Call) (r : ServeState) → (gives c r).node ≡ c.node
unfolding gives
node-gives c r = node-tells_all c.told (moves c r)
