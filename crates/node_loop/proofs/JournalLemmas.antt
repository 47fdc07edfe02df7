-- The course of a life that is served is that of its turns.
use Rattle.std.proofs.Common.{◌≡◌, ℕ, ◌+◌, zero, suc, Bool, true, false, cond, List, [], ◌∷◌, ◌++◌, length, Option, Some, None, refl, ap, sym, ◌∙◌, subst, append_assoc, append-nil, arith, fold}
use Rattle.std.specs.Prelude.{◌≤◌, flat_map}
use Rattle.std.proofs.lemmas.List.{length-append}
use Rattle.ports.specs.Count.{next_count}
use Rattle.ports.specs.Link.{LinkState}
use Rattle.ports.specs.Memory.{is_failing}
use Rattle.ports.specs.declared.link.LinkAnswer.{LinkAnswer}
use Rattle.journal.specs.declared.event.Event as journal
use Rattle.journal.specs.declared.event.What as whats
use Rattle.journal.specs.declared.event.What.TheVariants as told
use Rattle.journal.specs.declared.turn.Turn.{Turn}
use Rattle.node_rules.specs.Nodes.{Setting, Node}
use Rattle.node_rules.specs.Calls.{Call}
use Rattle.node_rules.specs.Lives.{Input, Delivers, Ticks, Leaves, call_of}
use Rattle.turn_rules.specs.Turns.{Act, Receives, Writes, Calls, AreTurns, acts_of, leaving_acts, most_ticks, turn_acts}
use Rattle.turn_rules.specs.Lines.{JournalLine, OfTurn, OfEvent, bytes_of, line_bytes, line_of}
use Rattle.turn_rules.specs.Courses.{Course, course, course_from, datagram_in, may_tick, node_acted, node_behind, number_of}
use Rattle.turn_rules.specs.Courses as bare
use Rattle.node_loop.specs.declared.turns.Pace.{Pace}
use Rattle.node_loop.specs.Turns.{Outlook, after_turn, life_acts, ticks_in, turn_in, turns_brought, turns_from, turns_in}
use Rattle.node_loop.specs.Courses.{ServeState, acted, fails_next, gives, hands_over, moves, port_in, sends_one, served, served_from, tells, tells_all, tells_what, writes_event}
use Rattle.node_loop.specs.Journals.{IsOfTurns, lost_on}
use Rattle.node_loop.proofs.CourseLemmas.{node-gives}

-- ## The node of a course

ticking : (s : Setting) (r : ServeState) (may : Bool) → (cond may (gives (call_of s r.node Ticks) r) r).node ≡ cond may (call_of s r.node Ticks).node r.node
ticking s r true = node-gives (call_of s r.node Ticks) r
ticking s r false = refl

node-of-act : (s : Setting) (r : ServeState) (act : Act) → (acted s r act).node ≡ node_acted s r.node act
node-of-act s r Receives = refl
node-of-act s r (Writes turn) = refl
node-of-act s r (Calls (Delivers bytes)) = node-gives (call_of s r.node (Delivers bytes)) r
node-of-act s r (Calls Leaves) = node-gives (call_of s r.node Leaves) r
node-of-act s r (Calls Ticks) = ticking s r (may_tick s r.node)

nodes-folded : (s : Setting) (acts : List Act) (r : ServeState) → (fold (acted s) r acts).node ≡ fold (node_acted s) r.node acts
nodes-folded s [] r = refl
nodes-folded s (act ∷ acts) r = nodes-folded s acts (acted s r act) ∙ ap (λ (n : Node). fold (node_acted s) n acts) (node-of-act s r act)

-- the node is where the acts leave it
pub node-served : (s : Setting) (acts : List Act) (r : ServeState) → (served s acts r).node ≡ node_behind s r.node acts
unfolding served node_behind
node-served s acts r = nodes-folded s acts r

-- ## The lines

bytes-then : (lines : List JournalLine) (line : JournalLine) → bytes_of (lines ++ line ∷ []) ≡ bytes_of lines ++ line_bytes line
bytes-then [] line = append-nil (line_bytes line)
bytes-then (x ∷ lines) line = ap (λ (t : List ℕ). line_bytes x ++ t) (bytes-then lines line) ∙ sym (append_assoc (line_bytes x) (bytes_of lines) (line_bytes line))

-- The course stands where the life that is served does, whose link fails these sends, and had so many given to it before.
record IsSame (failing : List ℕ) (base : ℕ) (c : Course) (r : ServeState) : Type 0 where
  node : r.node ≡ c.node
  sent : r.sent ≡ number_of c.sent
  text : r.text ≡ bytes_of c.lines
  given : length r.link.given ≡ base + c.sent
  failing_is : r.link.failing ≡ failing

-- those sends, by how many were sent before
abbrev losses : List ℕ → ℕ → ℕ → Bool
losses failing base sent = is_failing failing (base + sent)

abbrev event : ℕ → whats.What → journal.Event
event moment what = record { moment = moment; what = what }

text-then : (text : List ℕ) (lines : List JournalLine) (line : JournalLine) → text ≡ bytes_of lines → text ++ line_bytes line ≡ bytes_of (lines ++ line ∷ [])
text-then text lines line is = ap (λ (t : List ℕ). t ++ line_bytes line) is ∙ sym (bytes-then lines line)

same-event : (failing : List ℕ) (base moment : ℕ) (what : whats.What) (c : Course) (r : ServeState) → IsSame failing base c r → IsSame failing base (bare.adds_event moment what c) (writes_event moment what r)
same-event failing base moment what c r h =
    record { node = h.node; sent = h.sent; text = text-then r.text c.lines (OfEvent (event moment what)) h.text; given = h.given; failing_is = h.failing_is }

next-number : (sent : ℕ) → next_count (number_of sent) ≡ number_of (sent + 1)
next-number sent = omega arith

same-cond : (failing : List ℕ) (base : ℕ) (b : Bool) (c d : Course) (q r : ServeState) → IsSame failing base c q → IsSame failing base d r → IsSame failing base (cond b c d) (cond b q r)
same-cond failing base true c d q r g h = g
same-cond failing base false c d q r g h = h

-- the datagram is given, of this number
same-given : (failing : List ℕ) (base moment to : ℕ) (bytes : List ℕ) (c : Course) (r : ServeState) → IsSame failing base c r
    → IsSame failing base (bare.adds_event moment (told.Sent (number_of c.sent) to bytes) (record c { sent = c.sent + 1 })) (hands_over to bytes (writes_event moment (told.Sent r.sent to bytes) r))
same-given failing base moment to bytes c r h =
    record {
      node = h.node;
      sent = ap next_count h.sent ∙ next-number c.sent;
      text = ap (λ (k : ℕ). r.text ++ line_of (event moment (told.Sent k to bytes))) h.sent ∙ text-then r.text c.lines (OfEvent (event moment (told.Sent (number_of c.sent) to bytes))) h.text;
      given = omega (arith, length-append r.link.given ((port_in r.node to, bytes) ∷ []), h.given);
      failing_is = h.failing_is;
    }

same-sends : (failing : List ℕ) (base moment to : ℕ) (bytes : List ℕ) (c : Course) (r : ServeState) → IsSame failing base c r → IsSame failing base (bare.sends_one (losses failing base) moment to bytes c) (sends_one moment to bytes r)
same-sends failing base moment to bytes c r h =
    let c1 : Course = bare.adds_event moment (told.Sent (number_of c.sent) to bytes) (record c { sent = c.sent + 1 }) in
    let r1 : ServeState = hands_over to bytes (writes_event moment (told.Sent r.sent to bytes) r) in
    let one : IsSame failing base c1 r1 = same-given failing base moment to bytes c r h in
    let gone : IsSame failing base (bare.adds_event moment (told.Lost (number_of c.sent)) c1) (writes_event moment (told.Lost r.sent) r1) =
    subst (λ (k : ℕ). IsSame failing base (bare.adds_event moment (told.Lost (number_of c.sent)) c1) (writes_event moment (told.Lost k) r1)) (sym h.sent) (same-event failing base moment (told.Lost (number_of c.sent)) c1 r1 one) in
    let fails : fails_next r.link ≡ losses failing base c.sent = ap (λ (xs : List ℕ). is_failing xs (length r.link.given)) h.failing_is ∙ ap (is_failing failing) h.given in
    subst (λ (b : Bool). IsSame failing base (bare.sends_one (losses failing base) moment to bytes c) (cond b (writes_event moment (told.Lost r.sent) r1) r1)) (sym fails)
    (same-cond failing base (losses failing base c.sent) (bare.adds_event moment (told.Lost (number_of c.sent)) c1) c1 (writes_event moment (told.Lost r.sent) r1) r1 gone one)

same-what : (failing : List ℕ) (base moment : ℕ) (what : whats.What) (d : Option (ℕ × List ℕ)) (c : Course) (r : ServeState) → IsSame failing base c r → IsSame failing base (bare.tells_what (losses failing base) moment what d c) (tells_what moment what d r)
same-what failing base moment what (Some d) c r h = same-sends failing base moment d.0 d.1 c r h
same-what failing base moment what None c r h = same-event failing base moment what c r h

same-tells : (failing : List ℕ) (base : ℕ) (e : journal.Event) (c : Course) (r : ServeState) → IsSame failing base c r → IsSame failing base (bare.tells (losses failing base) c e) (tells r e)
unfolding tells bare.tells
same-tells failing base e c r h = same-what failing base e.moment e.what (datagram_in e.what) c r h

same-tells_all : (failing : List ℕ) (base : ℕ) (events : List journal.Event) (c : Course) (r : ServeState) → IsSame failing base c r → IsSame failing base (bare.tells_all (losses failing base) events c) (tells_all events r)
same-tells_all failing base [] c r h = h
same-tells_all failing base (e ∷ events) c r h = same-tells_all failing base events (bare.tells (losses failing base) c e) (tells r e) (same-tells failing base e c r h)

same-gives : (failing : List ℕ) (base : ℕ) (call : Call) (c : Course) (r : ServeState) → IsSame failing base c r → IsSame failing base (bare.gives (losses failing base) call c) (gives call r)
unfolding gives bare.gives
same-gives failing base call c r h =
    same-tells_all failing base call.told (record c { node = call.node }) (moves call r) (record { node = refl; sent = h.sent; text = h.text; given = h.given; failing_is = h.failing_is })

-- ## Acts

-- a call of the same node
same-call : (failing : List ℕ) (base : ℕ) (s : Setting) (i : Input) (c : Course) (r : ServeState) → IsSame failing base c r → IsSame failing base (bare.gives (losses failing base) (call_of s c.node i) c) (gives (call_of s r.node i) r)
same-call failing base s i c r h =
    subst (λ (n : Node). IsSame failing base (bare.gives (losses failing base) (call_of s c.node i) c) (gives (call_of s n i) r)) (sym h.node) (same-gives failing base (call_of s c.node i) c r h)

same-act : (failing : List ℕ) (base : ℕ) (s : Setting) (act : Act) (c : Course) (r : ServeState) → IsSame failing base c r → IsSame failing base (bare.acted s (losses failing base) c act) (acted s r act)
same-act failing base s Receives c r h = record { node = h.node; sent = h.sent; text = h.text; given = h.given; failing_is = h.failing_is }
same-act failing base s (Writes turn) c r h = record { node = h.node; sent = h.sent; text = text-then r.text c.lines (OfTurn turn) h.text; given = h.given; failing_is = h.failing_is }
same-act failing base s (Calls (Delivers bytes)) c r h = same-call failing base s (Delivers bytes) c r h
same-act failing base s (Calls Leaves) c r h = same-call failing base s Leaves c r h
same-act failing base s (Calls Ticks) c r h =
    subst (λ (n : Node). IsSame failing base (cond (may_tick s c.node) (bare.gives (losses failing base) (call_of s c.node Ticks) c) c) (cond (may_tick s n) (gives (call_of s r.node Ticks) r) r)) (sym h.node)
    (same-cond failing base (may_tick s c.node) (bare.gives (losses failing base) (call_of s c.node Ticks) c) c (gives (call_of s r.node Ticks) r) r (same-call failing base s Ticks c r h) h)

same-acts : (failing : List ℕ) (base : ℕ) (s : Setting) (acts : List Act) (c : Course) (r : ServeState) → IsSame failing base c r → IsSame failing base (fold (bare.acted s (losses failing base)) c acts) (fold (acted s) r acts)
same-acts failing base s [] c r h = h
same-acts failing base s (act ∷ acts) c r h = same-acts failing base s acts (bare.acted s (losses failing base) c act) (acted s r act) (same-act failing base s act c r h)

same-course : (s : Setting) (acts : List Act) (n : Node) (link : LinkState) → IsSame link.failing (length link.given) (course s (lost_on link) acts (course_from n)) (served s acts (served_from n link))
unfolding served course
same-course s acts n link =
    same-acts link.failing (length link.given) s acts (course_from n) (served_from n link) (record { node = refl; sent = refl; text = refl; given = omega arith; failing_is = refl })

-- ## The turns

turns-acts : (pace : Pace) (base left number : ℕ) (o : Outlook) → turns_from pace base left number o ≡ flat_map turn_acts (turns_in pace base left number o)
turns-acts pace base zero number o = refl
turns-acts pace base (suc left) number o = ap (λ (xs : List Act). turn_acts (turn_in pace base number o) ++ xs) (turns-acts pace base left (number + 1) (after_turn pace base o))

life-acts : (pace : Pace) (turns : ℕ) (leave : Bool) (heard : List LinkAnswer) (reading : ℕ) (readings : List ℕ) → life_acts pace turns leave heard reading readings ≡ acts_of (turns_brought pace turns heard reading readings) leave
unfolding life_acts
life-acts pace turns leave heard reading readings = ap (λ (xs : List Act). xs ++ leaving_acts leave) (turns-acts pace _ turns 1 _)

few-ticks : (pace : Pace) (base : ℕ) (o : Outlook) → ticks_in pace base o ≤ most_ticks
few-ticks pace base o = omega arith

are-turns : (pace : Pace) (base left number : ℕ) (o : Outlook) → AreTurns number (turns_in pace base left number o)
are-turns pace base zero number o = tt
are-turns pace base (suc left) number o = (record { numbered = refl; few = few-ticks pace base o }, are-turns pace base left (number + 1) (after_turn pace base o))

pub of-turns : (s : Setting) (n : Node) (link : LinkState) (pace : Pace) (turns : ℕ) (leave : Bool) (reading : ℕ) (readings : List ℕ) → IsOfTurns s n link pace turns leave reading readings
of-turns s n link pace turns leave reading readings =
    let brought : List Turn = turns_brought pace turns link.coming reading readings in
    let acts : List Act = life_acts pace turns leave link.coming reading readings in
    let c : Course = course s (lost_on link) (acts_of brought leave) (course_from n) in
    let same : IsSame link.failing (length link.given) c (served s acts (served_from n link)) =
    subst (λ (xs : List Act). IsSame link.failing (length link.given) c (served s xs (served_from n link))) (sym (life-acts pace turns leave link.coming reading readings)) (same-course s (acts_of brought leave) n link) in
    record {
      brought = are-turns pace _ turns 1 _;
      course = record { node = same.node; sent = same.sent; text = same.text };
    }
