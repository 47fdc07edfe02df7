-- The lines of a course show the accusations that its calls sign.
use Rattle.std.proofs.Common.{◌≡◌, ◌⊎◌, ℕ, ◌+◌, Bool, true, false, cond, List, [], ◌∷◌, ◌++◌, map, Option, Some, None, inl, inr, refl, ap, sym, ◌∙◌, subst}
use Rattle.std.specs.Prelude.{Contains}
use Rattle.std.proofs.lemmas.Bool.{cond_both}
use Rattle.ff_ids.specs.declared.AccBody.{AccBody}
use Rattle.life_laws.proofs.Lists.{Contains-from_In, In, In-append_cases, In-append_left, In-append_right, In-from_Contains, In-from_map}
use Rattle.records.specs.declared.Body.{Body}
use Rattle.records.specs.declared.Body.TheVariants.{Accusation}
use Rattle.records.specs.declared.Record.{Record}
use Rattle.epoch_store.specs.declared.Stored.{Stored}
use Rattle.journal.specs.declared.event.Event as journal
use Rattle.journal.specs.declared.event.What as whats
use Rattle.journal.specs.declared.event.What.TheVariants as told
use Rattle.journal.specs.declared.turn.Turn.{Turn}
use Rattle.node_rules.specs.Nodes.{Setting, Node}
use Rattle.node_rules.specs.Calls.{Call}
use Rattle.node_rules.specs.Starting.{started}
use Rattle.node_rules.specs.GoingOut.{SendsOwn, own_datagram}
use Rattle.node_rules.specs.Lives.{AreCertificates, Input, Delivers, Ticks, Leaves, call_of}
use Rattle.node_rules.proofs.GoingOut.{accusations-go-out}
use Rattle.turn_rules.specs.Turns.{Act, Receives, Writes, Calls, acts_of}
use Rattle.turn_rules.specs.Lines.{JournalLine, OfTurn, OfEvent}
use Rattle.turn_rules.specs.Courses.{Course, acted, adds_event, course, course_from, datagram_in, gives, may_tick, node_behind, number_of, sends_one, tells, tells_all, tells_what}
use Rattle.turn_rules.specs.Journals.{life_lines, turn_lines}
use Rattle.turn_rules.specs.Showings.{ShowOwn}
use Rattle.turn_laws.proofs.JournalLemmas.{course-cons, course-nil, node-of-act, same-event}
use Rattle.turn_laws.proofs.RemovalLemmas.{start-quiet}
use Rattle.turn_laws.proofs.SignedLemmas.{accusation-no-start}

abbrev event : ℕ → whats.What → journal.Event
event moment what = record { moment = moment; what = what }

abbrev spent : ℕ → ℕ → AccBody → journal.Event
spent moment index a = event moment (told.Spent index (Accusation a))

-- ## Lines stay

-- the lines of the first course are among those of the second
abbrev Keeps : Course → Course → Type 0
Keeps c d = (line : JournalLine) → In c.lines line → In d.lines line

keeps-event : (moment : ℕ) (what : whats.What) (c : Course) → Keeps c (adds_event moment what c)
keeps-event moment what c line i = In-append_left c.lines (OfEvent (event moment what) ∷ []) line i

-- the line of the datagram, and that it is lost
abbrev sent_first : ℕ → ℕ → List ℕ → Course → Course
sent_first moment to bytes c = adds_event moment (told.Sent (number_of c.sent) to bytes) (record c { sent = c.sent + 1 })

keeps-lost : (lost : ℕ → Bool) (moment to : ℕ) (bytes : List ℕ) (c : Course) → Keeps (sent_first moment to bytes c) (sends_one lost moment to bytes c)
keeps-lost lost moment to bytes c =
    let c1 : Course = sent_first moment to bytes c in
    cond_both {A = Course} (lost c.sent) (adds_event moment (told.Lost (number_of c.sent)) c1) c1 (Keeps c1) (λ gone. keeps-event moment (told.Lost (number_of c.sent)) c1) (λ came line i. i)

keeps-what : (lost : ℕ → Bool) (moment : ℕ) (what : whats.What) (d : Option (ℕ × List ℕ)) (c : Course) → Keeps c (tells_what lost moment what d c)
keeps-what lost moment what (Some d) c line i = keeps-lost lost moment d.0 d.1 c line (keeps-event moment (told.Sent (number_of c.sent) d.0 d.1) (record c { sent = c.sent + 1 }) line i)
keeps-what lost moment what None c line i = keeps-event moment what c line i

keeps-tells : (lost : ℕ → Bool) (c : Course) (e : journal.Event) → Keeps c (tells lost c e)
unfolding tells
keeps-tells lost c e = keeps-what lost e.moment e.what (datagram_in e.what) c

keeps-tells_all : (lost : ℕ → Bool) (events : List journal.Event) (c : Course) → Keeps c (tells_all lost events c)
keeps-tells_all lost [] c line i = i
keeps-tells_all lost (e ∷ events) c line i = keeps-tells_all lost events (tells lost c e) line (keeps-tells lost c e line i)

keeps-gives : (lost : ℕ → Bool) (call : Call) (c : Course) → Keeps c (gives lost call c)
unfolding gives
keeps-gives lost call c = keeps-tells_all lost call.told (record c { node = call.node })

keeps-act : (s : Setting) (lost : ℕ → Bool) (c : Course) (act : Act) → Keeps c (acted s lost c act)
keeps-act s lost c Receives line i = i
keeps-act s lost c (Writes turn) line i = In-append_left c.lines (OfTurn turn ∷ []) line i
keeps-act s lost c (Calls (Delivers bytes)) line i = keeps-gives lost (call_of s c.node (Delivers bytes)) c line i
keeps-act s lost c (Calls Leaves) line i = keeps-gives lost (call_of s c.node Leaves) c line i
keeps-act s lost c (Calls Ticks) line i = cond_both {A = Course} (may_tick s c.node) (gives lost (call_of s c.node Ticks) c) c (Keeps c) (λ may. keeps-gives lost (call_of s c.node Ticks) c) (λ never l j. j) line i

keeps-course : (s : Setting) (lost : ℕ → Bool) (acts : List Act) (c : Course) → Keeps c (course s lost acts c)
keeps-course s lost [] c line i = subst (λ (d : Course). In d.lines line) (sym (course-nil s lost c)) i
keeps-course s lost (act ∷ acts) c line i =
    subst (λ (d : Course). In d.lines line) (sym (course-cons s lost act acts c)) (keeps-course s lost acts (acted s lost c act) line (keeps-act s lost c act line i))

-- ## What is told as sent has a line

record IsSentLine (lines : List JournalLine) (moment to : ℕ) (bytes : List ℕ) : Type 0 where
  number : ℕ
  among : In lines (OfEvent (event moment (told.Sent number to bytes)))

sent-here : (lost : ℕ → Bool) (moment place to : ℕ) (bytes : List ℕ) (c : Course) → IsSentLine (tells lost c (event moment (told.Sent place to bytes))).lines moment to bytes
unfolding tells
sent-here lost moment place to bytes c =
    let line : JournalLine = OfEvent (event moment (told.Sent (number_of c.sent) to bytes)) in
    record { number = number_of c.sent; among = keeps-lost lost moment to bytes c line (In-append_right c.lines (line ∷ []) line (inl refl)) }

sent-line : (lost : ℕ → Bool) (events : List journal.Event) (moment place to : ℕ) (bytes : List ℕ) (c : Course) → In events (event moment (told.Sent place to bytes)) → IsSentLine (tells_all lost events c).lines moment to bytes
sent-line lost [] moment place to bytes c i = absurd i
sent-line lost (e ∷ events) moment place to bytes c (inl is) =
    let x = subst (λ (y : journal.Event). IsSentLine (tells lost c y).lines moment to bytes) (sym is) (sent-here lost moment place to bytes c) in
    record { number = x.number; among = keeps-tells_all lost events (tells lost c e) (OfEvent (event moment (told.Sent x.number to bytes))) x.among }
sent-line lost (e ∷ events) moment place to bytes c (inr i) = sent-line lost events moment place to bytes (tells lost c e) i

-- among these lines one shows the own record
abbrev Shown : Setting → List JournalLine → ℕ → ℕ → Body → Type 0
Shown s lines to index body = (moment : ℕ) × IsSentLine lines moment to (own_datagram s index body)

kept-shown : (s : Setting) (c d : Course) (to index : ℕ) (body : Body) → Keeps c d → Shown s c.lines to index body → Shown s d.lines to index body
kept-shown s c d to index body keeps x = (x.0, record { number = x.1.number; among = keeps (OfEvent (event x.0 (told.Sent x.1.number to (own_datagram s index body)))) x.1.among })

given-shown : (s : Setting) (lost : ℕ → Bool) (call : Call) (c : Course) (to index : ℕ) (body : Body) → SendsOwn s call to index body → Shown s (gives lost call c).lines to index body
unfolding gives
given-shown s lost call c to index body x =
    let bytes : List ℕ = own_datagram s index body in
    (x.moment, sent-line lost call.told x.moment x.place to bytes (record c { node = call.node }) (In-from_Contains call.told (event x.moment (told.Sent x.place to bytes)) x.reported))

-- ## Where a tick among the acts signs

node-course : (s : Setting) (lost : ℕ → Bool) (acts : List Act) (c : Course) → (course s lost acts c).node ≡ node_behind s c.node acts
unfolding node_behind
node-course s lost [] c = ap (λ (d : Course). d.node) (course-nil s lost c)
node-course s lost (act ∷ acts) c =
    ap (λ (d : Course). d.node) (course-cons s lost act acts c) ∙ node-course s lost acts (acted s lost c act) ∙ ap (λ (n : Node). node_behind s n acts) (node-of-act s lost c act)

course-append : (s : Setting) (lost : ℕ → Bool) (before more : List Act) (c : Course) → course s lost (before ++ more) c ≡ course s lost more (course s lost before c)
course-append s lost [] more c = ap (course s lost more) (sym (course-nil s lost c))
course-append s lost (act ∷ before) more c =
    course-cons s lost act (before ++ more) c ∙ course-append s lost before more (acted s lost c act) ∙ ap (course s lost more) (sym (course-cons s lost act before c))

tick-shown : (s : Setting) (lost : ℕ → Bool) (c : Course) (to index : ℕ) (body : Body) → may_tick s c.node ≡ true → SendsOwn s (call_of s c.node Ticks) to index body → Shown s (acted s lost c (Calls Ticks)).lines to index body
tick-shown s lost c to index body may x =
    subst (λ (b : Bool). Shown s (cond b (gives lost (call_of s c.node Ticks) c) c).lines to index body) (sym may) (given-shown s lost (call_of s c.node Ticks) c to index body x)

acts-shown : (s : Setting) (lost : ℕ → Bool) (before behind : List Act) (c : Course) (to index : ℕ) (body : Body) → may_tick s (node_behind s c.node before) ≡ true → SendsOwn s (call_of s (node_behind s c.node before) Ticks) to index body
    → Shown s (course s lost (before ++ Calls Ticks ∷ behind) c).lines to index body
acts-shown s lost before behind c to index body may x =
    let d : Course = course s lost before c in
    let here : node_behind s c.node before ≡ d.node = sym (node-course s lost before c) in
    let now : Shown s (acted s lost d (Calls Ticks)).lines to index body =
    tick-shown s lost d to index body (subst (λ (n : Node). may_tick s n ≡ true) here may) (subst (λ (n : Node). SendsOwn s (call_of s n Ticks) to index body) here x) in
    let later : Shown s (course s lost behind (acted s lost d (Calls Ticks))).lines to index body =
    kept-shown s (acted s lost d (Calls Ticks)) (course s lost behind (acted s lost d (Calls Ticks))) to index body (keeps-course s lost behind (acted s lost d (Calls Ticks))) now in
    subst (λ (e : Course). Shown s e.lines to index body) (sym (course-append s lost before (Calls Ticks ∷ behind) c ∙ course-cons s lost (Calls Ticks) behind d)) later

shown-among : (s : Setting) (first lines : List JournalLine) (to index : ℕ) (body : Body) → Shown s lines to index body → ShowOwn s (first ++ lines) to index body
shown-among s first lines to index body x =
    let line : JournalLine = OfEvent (event x.0 (told.Sent x.1.number to (own_datagram s index body))) in
    record { moment = x.0; number = x.1.number; shown = Contains-from_In (first ++ lines) line (In-append_right first lines line x.1.among) }

pub signed-shown : (s : Setting) (start : Call) (turns : List Turn) (lost : ℕ → Bool) (leave : Bool) (before behind : List Act) (moment index : ℕ) (a : AccBody) → acts_of turns leave ≡ before ++ Calls Ticks ∷ behind
    → may_tick s (node_behind s start.node before) ≡ true → Contains (call_of s (node_behind s start.node before) Ticks).told (record { moment = moment; what = told.Spent index (Accusation a) })
    → ShowOwn s (life_lines s start turns lost leave) a.accused index (Accusation a)
signed-shown s start turns lost leave before behind moment index a split may of =
    let x : Shown s (course s lost (before ++ Calls Ticks ∷ behind) (course_from start.node)).lines a.accused index (Accusation a) =
    acts-shown s lost before behind (course_from start.node) a.accused index (Accusation a) may (accusations-go-out s (node_behind s start.node before) Ticks moment index a of) in
    shown-among s (map OfEvent start.told) (turn_lines s start turns lost leave) a.accused index (Accusation a)
    (subst (λ (acts : List Act). Shown s (course s lost acts (course_from start.node)).lines a.accused index (Accusation a)) (sym split) x)

-- ## Where a line gives what is signed

no-turn : {A : Type 0} (turn : Turn) (e : journal.Event) → OfTurn turn ≡ OfEvent e → A
no-turn turn e is = cc

-- a line that was added, or one before it
added : (moment at : ℕ) (what w : whats.What) (c : Course) → In (adds_event moment what c).lines (OfEvent (event at w)) → In c.lines (OfEvent (event at w)) ⊎ (event moment what ≡ event at w)
added moment at what w c i =
    elim (In-append_cases c.lines (OfEvent (event moment what) ∷ []) (OfEvent (event at w)) i) [
      | inl j ↦ inl j
      | inr (inl e) ↦ inr (same-event (event moment what) (event at w) e)
      | inr (inr none) ↦ absurd none
    ]

sent-not : {A : Type 0} (moment number to : ℕ) (bytes : List ℕ) (at index : ℕ) (a : AccBody) → event moment (told.Sent number to bytes) ≡ spent at index a → A
sent-not moment number to bytes at index a e = absurd (by (ap (λ (x : journal.Event). x.what) e))
  where
    by : told.Sent number to bytes ≡ told.Spent index (Accusation a) → ⊥
    by is = cc

lost-not : {A : Type 0} (moment number at index : ℕ) (a : AccBody) → event moment (told.Lost number) ≡ spent at index a → A
lost-not moment number at index a e = absurd (by (ap (λ (x : journal.Event). x.what) e))
  where
    by : told.Lost number ≡ told.Spent index (Accusation a) → ⊥
    by is = cc

-- what is given of it was there before, or is told now
spent-what : (lost : ℕ → Bool) (moment at index : ℕ) (a : AccBody) (what : whats.What) (d : Option (ℕ × List ℕ)) (c : Course) → In (tells_what lost moment what d c).lines (OfEvent (spent at index a))
    → In c.lines (OfEvent (spent at index a)) ⊎ (event moment what ≡ spent at index a)
spent-what lost moment at index a what None c i = added moment at what (told.Spent index (Accusation a)) c i
spent-what lost moment at index a what (Some d) c i = by (lost c.sent) i
  where
    first : In (sent_first moment d.0 d.1 c).lines (OfEvent (spent at index a)) → In c.lines (OfEvent (spent at index a)) ⊎ (event moment what ≡ spent at index a)
    first j =
        elim (added moment at (told.Sent (number_of c.sent) d.0 d.1) (told.Spent index (Accusation a)) (record c { sent = c.sent + 1 }) j) [
          | inl k ↦ inl k
          | inr e ↦ sent-not moment (number_of c.sent) d.0 d.1 at index a e
        ]

    by : (gone : Bool) → In (cond gone (adds_event moment (told.Lost (number_of c.sent)) (sent_first moment d.0 d.1 c)) (sent_first moment d.0 d.1 c)).lines (OfEvent (spent at index a))
        → In c.lines (OfEvent (spent at index a)) ⊎ (event moment what ≡ spent at index a)
    by true j =
        elim (added moment at (told.Lost (number_of c.sent)) (told.Spent index (Accusation a)) (sent_first moment d.0 d.1 c) j) [
          | inl k ↦ first k
          | inr e ↦ lost-not moment (number_of c.sent) at index a e
        ]
    by false j = first j

spent-tells : (lost : ℕ → Bool) (at index : ℕ) (a : AccBody) (c : Course) (e : journal.Event) → In (tells lost c e).lines (OfEvent (spent at index a)) → In c.lines (OfEvent (spent at index a)) ⊎ (e ≡ spent at index a)
unfolding tells
spent-tells lost at index a c e i = spent-what lost e.moment at index a e.what (datagram_in e.what) c i

spent-told : (lost : ℕ → Bool) (events : List journal.Event) (at index : ℕ) (a : AccBody) (c : Course) → In (tells_all lost events c).lines (OfEvent (spent at index a))
    → In c.lines (OfEvent (spent at index a)) ⊎ In events (spent at index a)
spent-told lost [] at index a c i = inl i
spent-told lost (e ∷ events) at index a c i =
    elim (spent-told lost events at index a (tells lost c e) i) [
      | inl j ↦ (elim (spent-tells lost at index a c e j) [ inl k ↦ inl k | inr is ↦ inr (inl is) ])
      | inr j ↦ inr (inr j)
    ]

-- each own accusation that the lines give is shown among them
abbrev AllShown : Setting → Course → Type 0
AllShown s c = (at index : ℕ) (a : AccBody) → In c.lines (OfEvent (spent at index a)) → Shown s c.lines a.accused index (Accusation a)

shown-gives : (s : Setting) (lost : ℕ → Bool) (i : Input) (c : Course) → AllShown s c → AllShown s (gives lost (call_of s c.node i) c)
unfolding gives
shown-gives s lost i c all at index a among =
    let call : Call = call_of s c.node i in
    let c0 : Course = record c { node = call.node } in
    elim (spent-told lost call.told at index a c0 among) [
      | inl before ↦ kept-shown s c (gives lost call c) a.accused index (Accusation a) (keeps-gives lost call c) (all at index a before)
      | inr now ↦ given-shown s lost call c a.accused index (Accusation a) (accusations-go-out s c.node i at index a (Contains-from_In call.told (spent at index a) now))
    ]

-- the line of a turn gives nothing
shown-writes : (s : Setting) (lost : ℕ → Bool) (c : Course) (turn : Turn) → AllShown s c → AllShown s (acted s lost c (Writes turn))
shown-writes s lost c turn all at index a i =
    elim (In-append_cases c.lines (OfTurn turn ∷ []) (OfEvent (spent at index a)) i) [
      | inl j ↦ kept-shown s c (acted s lost c (Writes turn)) a.accused index (Accusation a) (keeps-act s lost c (Writes turn)) (all at index a j)
      | inr (inl e) ↦ no-turn turn (spent at index a) e
      | inr (inr none) ↦ absurd none
    ]

shown-act : (s : Setting) (lost : ℕ → Bool) (c : Course) (act : Act) → AllShown s c → AllShown s (acted s lost c act)
shown-act s lost c Receives all = all
shown-act s lost c (Writes turn) all = shown-writes s lost c turn all
shown-act s lost c (Calls (Delivers bytes)) all = shown-gives s lost (Delivers bytes) c all
shown-act s lost c (Calls Leaves) all = shown-gives s lost Leaves c all
shown-act s lost c (Calls Ticks) all = cond_both {A = Course} (may_tick s c.node) (gives lost (call_of s c.node Ticks) c) c (AllShown s) (λ may. shown-gives s lost Ticks c all) (λ never. all)

shown-course : (s : Setting) (lost : ℕ → Bool) (acts : List Act) (c : Course) → AllShown s c → AllShown s (course s lost acts c)
shown-course s lost [] c all = subst (AllShown s) (sym (course-nil s lost c)) all
shown-course s lost (act ∷ acts) c all = subst (AllShown s) (sym (course-cons s lost act acts c)) (shown-course s lost acts (acted s lost c act) (shown-act s lost c act all))

pub given-accusations-shown : (s : Setting) (nonces : ℕ → ℕ) (certificates : List Record) (stored : Stored) (turns : List Turn) (lost : ℕ → Bool) (leave : Bool) (moment index : ℕ) (a : AccBody) → AreCertificates certificates
    → Contains (life_lines s (started s nonces certificates stored) turns lost leave) (OfEvent (record { moment = moment; what = told.Spent index (Accusation a) }))
    → ShowOwn s (life_lines s (started s nonces certificates stored) turns lost leave) a.accused index (Accusation a)
given-accusations-shown s nonces certificates stored turns lost leave moment index a certified among =
    let begun : Call = started s nonces certificates stored in
    let line : JournalLine = OfEvent (spent moment index a) in
    let lines : List JournalLine = turn_lines s begun turns lost leave in
    elim (In-append_cases (map OfEvent begun.told) lines line (In-from_Contains (life_lines s begun turns lost leave) line among)) [
      | inl first ↦
          let x = In-from_map OfEvent begun.told line first in
          absurd (start-quiet s nonces certificates stored (spent moment index a) (accusation-no-start moment index a) certified (subst (In begun.told) (same-event x.0 (spent moment index a) x.1.1) x.1.0))
      | inr later ↦
          shown-among s (map OfEvent begun.told) lines a.accused index (Accusation a)
          (shown-course s lost (acts_of turns leave) (course_from begun.node) (λ at k b i. absurd i) moment index a later)
    ]
