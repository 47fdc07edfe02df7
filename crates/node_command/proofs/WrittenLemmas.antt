-- The whole lines that a life writes, and what they give.
use Rattle.std.proofs.Common.{◌≡◌, ◌⊎◌, ℕ, ◌+◌, List, [], ◌∷◌, ◌++◌, take, Option, Some, None, Result, Ok, Err, inl, inr, refl, ap, sym, ◌∙◌, subst, append_assoc, append-nil, arith}
use Rattle.std.specs.Prelude.{codes, drop}
use Rattle.std.specs.Io.KnownBytes.{Appends}
use Rattle.std.proofs.KnownBytes.{Appends-trans}
use Rattle.std.proofs.lemmas.Bool.{cond_both}
use Rattle.std.proofs.lemmas.List.{take-append-drop}
use Rattle.records.specs.declared.keys.Key.{Key}
use Rattle.journal.specs.declared.event.Event as journal
use Rattle.journal.specs.declared.event.What as whats
use Rattle.journal.specs.declared.event.What.TheVariants as told
use Rattle.records.specs.declared.Body.TheVariants.{Accusation}
use Rattle.journal.specs.Turns.{turn_text}
use Rattle.node_core.specs.Told.{IsPrefix}
use Rattle.node_rules.specs.Nodes.{Setting, Node}
use Rattle.node_rules.specs.Claims.{claims_all}
use Rattle.node_rules.specs.Calls.{Call}
use Rattle.node_rules.specs.OnDisks.{IsCut}
use Rattle.node_rules.specs.Lives.{Input, Delivers, Ticks, Leaves, call_of}
use Rattle.node_loop.specs.declared.fault.ServeFault.{ServeFault}
use Rattle.node_loop.specs.declared.fault.ServeFault.TheVariants as serve
use Rattle.turn_rules.specs.Turns.{Act, Receives, Writes, Calls}
use Rattle.node_loop.specs.Courses.{ServeState, acted, fails_next, gives, hands_over, moves, sends_one, served, tells, tells_all, tells_what, writes_event}
use Rattle.turn_rules.specs.Courses.{datagram_in, may_tick}
use Rattle.turn_rules.specs.Lines.{line_of, with_feed}
use Rattle.node_loop.specs.Serving.{BreaksOff, IsStarved, IsStopped, IsWhole, starves}
use Rattle.node_loop.specs.Writing.{Before, Standing}
use Rattle.node_loop.proofs.CourseLemmas.{served-append, served-cons, served-nil}
use Rattle.node_loop.proofs.JournalLemmas.{node-served}
use Rattle.node_core.specs.Playing.{Kept}
use Rattle.node_command.specs.declared.halt.NodeHalt.{NodeHalt}
use Rattle.node_command.specs.declared.halt.NodeHalt.TheVariants as halt
use Rattle.node_command.specs.Journal.{Environment, IsUnserved, IsUntold, Lives}
use Rattle.turn_rules.specs.Journals.{end_line}
use Rattle.turn_rules.specs.Lines.{lines_of}
use Rattle.turn_rules.specs.Sendings.{Sends}
use Rattle.node_command.specs.Written.{AreWholeLines, UnlessCut}
use Rattle.turn_rules.specs.Written.{GivesOf}
use Rattle.node_command.proofs.LineLemmas.{AreLines, accepted-event, expiry-event, lines-behind, lines-none, lines-one, other-line, removal-event, sent-event, signed-event, turn-other, whole-event, whole-fed, whole-turn}
use Rattle.turn_laws.proofs.JournalLemmas.{IsFounded, IsOf, TellsOf, called-of, cut-of, sends-of}

-- ## The lines of events

abbrev event : ℕ → whats.What → journal.Event
event moment what = record { moment = moment; what = what }

-- What the line gives is of these acts.
abbrev pub Gives : Setting → Node → List Act → List ℕ → Type 0
Gives s start acts line = (moment : ℕ) (what : whats.What) → line ≡ line_of (event moment what) → GivesOf claims_all s start acts moment what

gives-event : (s : Setting) (start : Node) (acts : List Act) (at : ℕ) (w : whats.What) → IsOf claims_all s start acts at w → Gives s start acts (line_of (event at w))
gives-event s start acts at w h moment (told.Removed m) same =
    let k = removal-event (event at w) moment m same in
    record { moment = at; member = k.0; spelled = sym same ∙ ap (λ x. line_of (event at x)) k.1; removal = subst (IsOf claims_all s start acts at) k.1 h }
gives-event s start acts at w h moment (told.Expired a) same =
    let k = expiry-event (event at w) moment a same in
    record { moment = at; accusation = k.0; spelled = sym same ∙ ap (λ x. line_of (event at x)) k.1; expiry = subst (IsOf claims_all s start acts at) k.1 h }
gives-event s start acts at w h moment (told.Took body None) same =
    let k = accepted-event (event at w) moment body same in
    record { moment = at; body = k.0; spelled = sym same ∙ ap (λ x. line_of (event at x)) k.1; accepted = subst (IsOf claims_all s start acts at) k.1 h }
gives-event s start acts at w h moment (told.Spent index (Accusation a)) same =
    let k = signed-event (event at w) moment index a same in
    record { moment = at; index = k.index; accusation = k.accusation; spelled = sym same ∙ ap (λ x. line_of (event at x)) k.is; signs = subst (IsOf claims_all s start acts at) k.is h }
gives-event s start acts at w h moment (told.Sent number to bytes) same =
    let k = sent-event (event at w) moment number to bytes same in
    record { moment = at; number = k.number; to = k.to; bytes = k.bytes; spelled = sym same ∙ ap (λ x. line_of (event at x)) k.is; sends = subst (IsOf claims_all s start acts at) k.is h }
gives-event s start acts at w h moment _ same = tt

line-behind : (s : Setting) (start : Node) (acts : List Act) (e : journal.Event) (r : ServeState) → Gives s start acts (line_of e) → AreLines (Gives s start acts) r.text → AreLines (Gives s start acts) (r.text ++ line_of e)
line-behind s start acts e r g h = lines-behind (Gives s start acts) r.text (line_of e) h (lines-one (Gives s start acts) (line_of e) (whole-event e) g)

lines-sends : (s : Setting) (start : Node) (acts : List Act) (moment to : ℕ) (bytes : List ℕ) (r : ServeState) → Sends claims_all s start acts moment to bytes → AreLines (Gives s start acts) r.text → AreLines (Gives s start acts) (sends_one moment to bytes r).text
lines-sends s start acts moment to bytes r of h =
    let P = Gives s start acts in
    let sent : journal.Event = record { moment = moment; what = told.Sent r.sent to bytes } in
    let lost : journal.Event = record { moment = moment; what = told.Lost r.sent } in
    let r1 : ServeState = hands_over to bytes (writes_event moment (told.Sent r.sent to bytes) r) in
    let one : AreLines P r1.text = line-behind s start acts sent r (gives-event s start acts moment (told.Sent r.sent to bytes) of) h in
    cond_both {A = ServeState} (fails_next r.link) (writes_event moment (told.Lost r.sent) r1) r1 (λ x. AreLines P x.text)
    (λ fails. line-behind s start acts lost r1 (gives-event s start acts moment (told.Lost r.sent) tt) one) (λ works. one)

lines-what : (s : Setting) (start : Node) (acts : List Act) (moment : ℕ) (what : whats.What) (d : Option (ℕ × List ℕ)) (r : ServeState) → datagram_in what ≡ d → IsOf claims_all s start acts moment what → AreLines (Gives s start acts) r.text
    → AreLines (Gives s start acts) (tells_what moment what d r).text
lines-what s start acts moment what (Some d) r is of h = lines-sends s start acts moment d.0 d.1 r (sends-of claims_all s start acts moment what d is of) h
lines-what s start acts moment what None r is of h = line-behind s start acts (record { moment = moment; what = what }) r (gives-event s start acts moment what of) h

lines-tells : (s : Setting) (start : Node) (acts : List Act) (r : ServeState) (e : journal.Event) → IsOf claims_all s start acts e.moment e.what → AreLines (Gives s start acts) r.text → AreLines (Gives s start acts) (tells r e).text
unfolding tells
lines-tells s start acts r e of h = lines-what s start acts e.moment e.what (datagram_in e.what) r refl of h

lines-tells_all : (s : Setting) (start : Node) (acts : List Act) (events : List journal.Event) (r : ServeState) → TellsOf claims_all s start acts events → AreLines (Gives s start acts) r.text → AreLines (Gives s start acts) (tells_all events r).text
lines-tells_all s start acts [] r of h = h
lines-tells_all s start acts (e ∷ events) r of h =
    lines-tells_all s start acts events (tells r e) (λ at w i. of at w (inr i)) (lines-tells s start acts r e (of e.moment e.what (inl refl)) h)

lines-gives : (s : Setting) (start : Node) (acts : List Act) (c : Call) (r : ServeState) → TellsOf claims_all s start acts c.told → AreLines (Gives s start acts) r.text → AreLines (Gives s start acts) (gives c r).text
unfolding gives
lines-gives s start acts c r of h = lines-tells_all s start acts c.told (moves c r) of h

-- what the start reports
pub lines-told : (s : Setting) (start : Node) (acts : List Act) (events : List journal.Event) → TellsOf claims_all s start acts events → AreLines (Gives s start acts) (lines_of events)
lines-told s start acts [] of = lines-none (Gives s start acts)
lines-told s start acts (e ∷ events) of =
    lines-behind (Gives s start acts) (line_of e) (lines_of events)
    (lines-one (Gives s start acts) (line_of e) (whole-event e) (gives-event s start acts e.moment e.what (of e.moment e.what (inl refl))))
    (lines-told s start acts events (λ at w i. of at w (inr i)))

-- ## The lines of acts

-- the calls that the course comes to
called-there : (s : Setting) (own : Key) (start : ServeState) (acts done later : List Act) (i : Input) → IsFounded claims_all s own start.node → acts ≡ done ++ Calls i ∷ later
    → TellsOf claims_all s start.node acts (call_of s (served s done start).node i).told
called-there s own start acts done later i f split =
    subst (λ (n : Node). TellsOf claims_all s start.node acts (call_of s n i).told) (sym (node-served s done start)) (called-of claims_all s own start.node acts done later i f split)

cut-there : (s : Setting) (own : Key) (start : ServeState) (acts done later : List Act) (i : Input) (c : Call) → IsFounded claims_all s own start.node → acts ≡ done ++ Calls i ∷ later → IsCut s (served s done start).node i c
    → TellsOf claims_all s start.node acts c.told
cut-there s own start acts done later i c f split cut = cut-of claims_all s own start.node acts done later i c f split (subst (λ (n : Node). IsCut s n i c) (node-served s done start) cut)

-- an act behind the others
acts-behind : (s : Setting) (start : ServeState) (acts : List Act) (act : Act) → served s (acts ++ act ∷ []) start ≡ acted s (served s acts start) act
acts-behind s start acts act = served-append s acts (act ∷ []) start ∙ served-cons s act [] (served s acts start) ∙ served-nil s (acted s (served s acts start) act)

lines-act : (s : Setting) (own : Key) (start : ServeState) (acts done later : List Act) (act : Act) → IsFounded claims_all s own start.node → acts ≡ done ++ act ∷ later → AreLines (Gives s start.node acts) (served s done start).text
    → AreLines (Gives s start.node acts) (acted s (served s done start) act).text
lines-act s own start acts done later Receives f split h = h
lines-act s own start acts done later (Writes turn) f split h =
    let line = with_feed (turn_text turn) in
    let P = Gives s start.node acts in
    let other : Gives s start.node acts line = λ moment w is. absurd (other-line line (event moment w) (turn-other turn) is) in
    lines-behind P (served s done start).text line h (lines-one P line (whole-turn turn) other)
lines-act s own start acts done later (Calls (Delivers bytes)) f split h =
    lines-gives s start.node acts (call_of s (served s done start).node (Delivers bytes)) (served s done start) (called-there s own start acts done later (Delivers bytes) f split) h
lines-act s own start acts done later (Calls Leaves) f split h =
    lines-gives s start.node acts (call_of s (served s done start).node Leaves) (served s done start) (called-there s own start acts done later Leaves f split) h
lines-act s own start acts done later (Calls Ticks) f split h =
    let r = served s done start in
    let c = call_of s r.node Ticks in
    cond_both {A = ServeState} (may_tick s r.node) (gives c r) r (λ x. AreLines (Gives s start.node acts) x.text)
    (λ may. lines-gives s start.node acts c r (called-there s own start acts done later Ticks f split) h) (λ never. h)

lines-on : (s : Setting) (own : Key) (start : ServeState) (acts done more later : List Act) → IsFounded claims_all s own start.node → acts ≡ done ++ (more ++ later) → AreLines (Gives s start.node acts) (served s done start).text
    → AreLines (Gives s start.node acts) (served s (done ++ more) start).text
lines-on s own start acts done [] later f split h = subst (λ (xs : List Act). AreLines (Gives s start.node acts) (served s xs start).text) (sym (append-nil done)) h
lines-on s own start acts done (act ∷ more) later f split h =
    let P = Gives s start.node acts in
    let one : AreLines P (served s (done ++ act ∷ []) start).text =
    subst (λ (r : ServeState). AreLines P r.text) (sym (acts-behind s start done act)) (lines-act s own start acts done (more ++ later) act f split h) in
    subst (λ (xs : List Act). AreLines P (served s xs start).text) (append_assoc done (act ∷ []) more)
    (lines-on s own start acts (done ++ act ∷ []) more later f (split ∙ sym (append_assoc done (act ∷ []) (more ++ later))) one)

-- as the life begins nothing is written
lines-served : (s : Setting) (own : Key) (start : ServeState) (acts done later : List Act) → IsFounded claims_all s own start.node → start.text ≡ [] → acts ≡ done ++ later → AreLines (Gives s start.node acts) (served s done start).text
lines-served s own start acts done later f none split =
    let P = Gives s start.node acts in
    let first : AreLines P (served s [] start).text = subst (λ (r : ServeState). AreLines P r.text) (sym (served-nil s start)) (subst (AreLines P) (sym none) (lines-none P)) in
    lines-on s own start acts [] done later f split first

pub lines-all : (s : Setting) (own : Key) (start : ServeState) (acts : List Act) → IsFounded claims_all s own start.node → start.text ≡ [] → AreLines (Gives s start.node acts) (served s acts start).text
lines-all s own start acts f none = lines-served s own start acts acts [] f none (sym (append-nil acts))

lines-stopped : (s : Setting) (own : Key) (start : ServeState) (acts : List Act) (whole : ServeState) → IsFounded claims_all s own start.node → start.text ≡ [] → IsStopped s acts start whole → AreLines (Gives s start.node acts) whole.text
lines-stopped s own start acts whole f none h =
    let r = served s h.done start in
    let front = lines-served s own start acts h.done (Calls h.input ∷ h.later) f none h.split in
    subst (λ (x : ServeState). AreLines (Gives s start.node acts) x.text) (sym h.is) (lines-gives s start.node acts h.call r (cut-there s own start acts h.done h.later h.input h.call f h.split h.cut) front)

lines-whole : (s : Setting) (own : Key) (start : ServeState) (acts : List Act) (whole : ServeState) → IsFounded claims_all s own start.node → start.text ≡ [] → IsWhole s acts start whole → AreLines (Gives s start.node acts) whole.text
lines-whole s own start acts whole f none (inl is) = subst (λ (x : ServeState). AreLines (Gives s start.node acts) x.text) (sym is) (lines-all s own start acts f none)
lines-whole s own start acts whole f none (inr h) = lines-stopped s own start acts whole f none h

-- ## What was written

-- What was written is a front of whole lines, of which what they give is of these acts; all of them, unless a write failed or memory
-- was refused.
pub record WritesOf (s : Setting) (start : Node) (acts : List Act) (was now : Option (List ℕ)) (result : Result (Unit {0}) NodeHalt) : Type 0 where
  pub bytes : List ℕ
  pub written : Appends was now bytes
  pub whole : List ℕ
  pub lines : AreLines (Gives s start acts) whole
  pub front : IsPrefix bytes whole
  pub ended : UnlessCut result (AreWholeLines bytes)

ended-lines : (P : List ℕ → Type 0) (text : List ℕ) → AreLines P text → AreWholeLines text
ended-lines P text h = record { lines = h.lines; joined = h.joined; whole = h.whole }

whole-front : (xs : List ℕ) → IsPrefix xs xs
whole-front xs = record { more = []; is = sym (append-nil xs) }

front-behind : (first xs ys : List ℕ) → IsPrefix xs ys → IsPrefix (first ++ xs) (first ++ ys)
front-behind first xs ys h = record { more = h.more; is = ap (λ (t : List ℕ). first ++ t) h.is ∙ sym (append_assoc first xs h.more) }

-- all of it was written
pub writes-all : (s : Setting) (start : Node) (acts : List Act) (was now : Option (List ℕ)) (text : List ℕ) (result : Result (Unit {0}) NodeHalt) → Appends was now text → AreLines (Gives s start acts) text
    → (AreWholeLines text → UnlessCut result (AreWholeLines text)) → WritesOf s start acts was now result
writes-all s start acts was now text result written lines ended =
    record { bytes = text; written = written; whole = text; lines = lines; front = whole-front text; ended = ended (ended-lines (Gives s start acts) text lines) }

-- a front of it was, behind what the start reported
writes-front : (s : Setting) (start : Node) (acts : List Act) (was mid now : Option (List ℕ)) (first text whole : List ℕ) (result : Result (Unit {0}) NodeHalt) → Appends was mid first → Appends mid now text → AreLines (Gives s start acts) first
    → AreLines (Gives s start acts) whole → IsPrefix text whole → UnlessCut result (AreWholeLines (first ++ text)) → WritesOf s start acts was now result
writes-front s start acts was mid now first text whole result one two a b front ended =
    record {
      bytes = first ++ text;
      written = Appends-trans was mid now first text one two;
      whole = first ++ whole;
      lines = lines-behind (Gives s start acts) first whole a b;
      front = front-behind first text whole front;
      ended = ended;
    }

pub end-lines : (s : Setting) (start : Node) (acts : List Act) → AreLines (Gives s start acts) end_line
end-lines s start acts =
    lines-one (Gives s start acts) end_line (whole-fed (codes "end") refl) (λ moment w is. absurd (other-line end_line (event moment w) (λ e. absurd (omega (arith, e))) is))

-- What was served broke off.
broke-off : (s : Setting) (own : Key) (start : ServeState) (acts : List Act) (was mid : Option (List ℕ)) (first : List ℕ) (before : Before) (w : Standing) (result : Result (Unit {0}) NodeHalt) → IsFounded claims_all s own start.node → start.text ≡ []
    → Appends was mid first → AreLines (Gives s start.node acts) first → before.taken ≡ mid → ((text : List ℕ) → UnlessCut result (AreWholeLines text)) → BreaksOff s before acts start w ⊎ IsStarved s before acts start w
    → WritesOf s start.node acts was w.taken result
broke-off s own start acts was mid first before w result f none one lines at cut (inl h) =
    writes-front s start.node acts was mid w.taken first h.within.text h.whole.text result one (subst (λ (x : Option (List ℕ)). Appends x w.taken h.within.text) at h.within.written) lines
    (lines-whole s own start acts h.whole f none h.is) h.within.front (cut (first ++ h.within.text))
broke-off s own start acts was mid first before w result f none one lines at cut (inr h) =
    let r = served s h.done start in
    let front = lines-served s own start acts h.done (Calls h.input ∷ h.later) f none h.split in
    let c = call_of s r.node h.input in
    writes-front s start.node acts was mid w.taken first h.within.text (tells_all c.told (starves h.there h.spent r)).text result one (subst (λ (x : Option (List ℕ)). Appends x w.taken h.within.text) at h.within.written) lines
    (lines-tells_all s start.node acts c.told (starves h.there h.spent r) (called-there s own start acts h.done h.later h.input f h.split) front) h.within.front (cut (first ++ h.within.text))

untold : (s : Setting) (start : ServeState) (acts : List Act) (events : List journal.Event) (was now : Environment) (result : Result (Unit {0}) NodeHalt) → TellsOf claims_all s start.node acts events → ((text : List ℕ) → UnlessCut result (AreWholeLines text))
    → IsUntold events start was now → WritesOf s start.node acts was.taken now.taken result
untold s start acts events was now result of cut h =
    record { bytes = h.text; written = h.written; whole = lines_of events; lines = lines-told s start.node acts events of; front = h.front; ended = cut h.text }

unserved : (s : Setting) (own : Key) (node : Kept) (start : ServeState) (acts : List Act) (events : List journal.Event) (was now : Environment) (result : Result (Unit {0}) NodeHalt) (fault : ServeFault) → IsFounded claims_all s own start.node → start.text ≡ []
    → TellsOf claims_all s start.node acts events → ((text : List ℕ) → UnlessCut result (AreWholeLines text)) → (fault ≡ serve.StoreFault → ⊥) → IsUnserved s node events acts start was now fault → WritesOf s start.node acts was.taken now.taken result
unserved s own node start acts events was now result serve.StoreFault f none tells cut other h = absurd (other refl)
unserved s own node start acts events was now result serve.WriteFault f none tells cut other h =
    broke-off s own start acts was.taken h.mid (lines_of events) _ _ result f none h.first (lines-told s start.node acts events tells) refl cut h.broke
unserved s own node start acts events was now result serve.OutOfMemory f none tells cut other h =
    broke-off s own start acts was.taken h.mid (lines_of events) _ _ result f none h.first (lines-told s start.node acts events tells) refl cut h.broke

write-not : serve.WriteFault ≡ serve.StoreFault → ⊥
write-not e = cc

starved-not : serve.OutOfMemory ≡ serve.StoreFault → ⊥
starved-not e = cc

-- Whatever ended the life, what was written is a front of its lines.
pub lives-written : (s : Setting) (own : Key) (node : Kept) (start : ServeState) (acts : List Act) (events : List journal.Event) (was now : Environment) (result : Result (Unit {0}) NodeHalt) → IsFounded claims_all s own start.node → start.text ≡ []
    → TellsOf claims_all s start.node acts events → Lives s node events acts start was now result → WritesOf s start.node acts was.taken now.taken result
lives-written s own node start acts events was now (Ok done) f none tells h =
    let P = Gives s start.node acts in
    let text = (served s acts start).text in
    writes-all s start.node acts was.taken now.taken (lines_of events ++ text ++ end_line) (Ok done) h.written
    (lines-behind P (lines_of events ++ text) end_line (lines-behind P (lines_of events) text (lines-told s start.node acts events tells) (lines-all s own start acts f none)) (end-lines s start.node acts)) (λ x. x)
lives-written s own node start acts events was now (Err (halt.Refused line w)) f none tells h = absurd h
lives-written s own node start acts events was now (Err halt.ReadFault) f none tells h = absurd h
lives-written s own node start acts events was now (Err halt.WriteFault) f none tells h =
    elim h [
      | inl part ↦ untold s start acts events was now (Err halt.WriteFault) tells (λ text. tt) part
      | inr (inl broke) ↦ unserved s own node start acts events was now (Err halt.WriteFault) serve.WriteFault f none tells (λ text. tt) write-not broke
      | inr (inr last) ↦
          let P = Gives s start.node acts in
          let text = (served s acts start).text in
          writes-front s start.node acts was.taken last.mid now.taken (lines_of events ++ text) (take last.cut.count end_line) end_line (Err halt.WriteFault) last.written last.cut.gained
          (lines-behind P (lines_of events) text (lines-told s start.node acts events tells) (lines-all s own start acts f none)) (end-lines s start.node acts)
          (record { more = drop last.cut.count end_line; is = sym (take-append-drop last.cut.count end_line) }) tt
    ]
lives-written s own node start acts events was now (Err halt.StoreFault) f none tells h =
    writes-all s start.node acts was.taken now.taken (lines_of events ++ h.whole.text) (Err halt.StoreFault) h.written
    (lines-behind (Gives s start.node acts) (lines_of events) h.whole.text (lines-told s start.node acts events tells) (lines-stopped s own start acts h.whole f none h.stopped)) (λ x. x)
lives-written s own node start acts events was now (Err (halt.StoreBroken place byte)) f none tells h = absurd h
lives-written s own node start acts events was now (Err halt.LinkFault) f none tells h = absurd h
lives-written s own node start acts events was now (Err (halt.Exhausted next)) f none tells h = absurd h
lives-written s own node start acts events was now (Err halt.OutOfMemory) f none tells h =
    elim h [
      | inl part ↦ untold s start acts events was now (Err halt.OutOfMemory) tells (λ text. tt) part
      | inr broke ↦ unserved s own node start acts events was now (Err halt.OutOfMemory) serve.OutOfMemory f none tells (λ text. tt) starved-not broke
    ]
