-- What a course has written before doesn't change what it goes on to write.
use Rattle.std.proofs.Common.{◌≡◌, ℕ, ◌+◌, Bool, true, false, List, [], ◌∷◌, ◌++◌, Option, Some, None, cond, fold, refl, ap, ◌∙◌, append_assoc}
use Rattle.journal.specs.declared.event.Event as journal
use Rattle.journal.specs.declared.event.What as whats
use Rattle.journal.specs.declared.event.What.TheVariants as told
use Rattle.node_rules.specs.Nodes.{Setting}
use Rattle.node_rules.specs.Calls.{Call}
use Rattle.node_rules.specs.Lives.{Input, Delivers, Ticks, Leaves, call_of}
use Rattle.turn_rules.specs.Turns.{Act, Receives, Writes, Calls}
use Rattle.turn_rules.specs.Lines.{JournalLine, OfTurn, OfEvent}
use Rattle.turn_rules.specs.Courses.{Course, acted, adds_event, called, course, datagram_in, gives, may_tick, number_of, sends_one, tells, tells_all, tells_what}

-- these lines were written before
abbrev pub behind : List JournalLine → Course → Course
behind front c = record c { lines = front ++ c.lines }

-- the same course with these lines
abbrev pub with_lines : Course → List JournalLine → Course
with_lines c lines = record c { lines = lines }

behind-event : (front : List JournalLine) (moment : ℕ) (what : whats.What) (c : Course) → adds_event moment what (behind front c) ≡ behind front (adds_event moment what c)
behind-event front moment what c = ap (λ (xs : List JournalLine). with_lines c xs) (append_assoc front c.lines (OfEvent (record { moment = moment; what = what }) ∷ []))

behind-loss : (front : List JournalLine) (moment number : ℕ) (c : Course) (gone : Bool) → cond gone (adds_event moment (told.Lost number) (behind front c)) (behind front c) ≡ behind front (cond gone (adds_event moment (told.Lost number) c) c)
behind-loss front moment number c true = behind-event front moment (told.Lost number) c
behind-loss front moment number c false = refl

behind-sends : (lost : ℕ → Bool) (front : List JournalLine) (moment to : ℕ) (bytes : List ℕ) (c : Course) → sends_one lost moment to bytes (behind front c) ≡ behind front (sends_one lost moment to bytes c)
behind-sends lost front moment to bytes c =
    let number : ℕ = number_of c.sent in
    let c0 : Course = record c { sent = c.sent + 1 } in
    let c1 : Course = adds_event moment (told.Sent number to bytes) c0 in
    ap (λ (x : Course). cond (lost c.sent) (adds_event moment (told.Lost number) x) x) (behind-event front moment (told.Sent number to bytes) c0)
    ∙ behind-loss front moment number c1 (lost c.sent)

behind-what : (lost : ℕ → Bool) (front : List JournalLine) (moment : ℕ) (what : whats.What) (d : Option (ℕ × List ℕ)) (c : Course) → tells_what lost moment what d (behind front c) ≡ behind front (tells_what lost moment what d c)
behind-what lost front moment what (Some d) c = behind-sends lost front moment d.0 d.1 c
behind-what lost front moment what None c = behind-event front moment what c

behind-tells : (lost : ℕ → Bool) (front : List JournalLine) (c : Course) (e : journal.Event) → tells lost (behind front c) e ≡ behind front (tells lost c e)
unfolding tells
behind-tells lost front c e = behind-what lost front e.moment e.what (datagram_in e.what) c

pub behind-tells_all : (lost : ℕ → Bool) (front : List JournalLine) (events : List journal.Event) (c : Course) → tells_all lost events (behind front c) ≡ behind front (tells_all lost events c)
behind-tells_all lost front [] c = refl
behind-tells_all lost front (e ∷ events) c =
    ap (λ (x : Course). tells_all lost events x) (behind-tells lost front c e) ∙ behind-tells_all lost front events (tells lost c e)

behind-gives : (lost : ℕ → Bool) (front : List JournalLine) (call : Call) (c : Course) → gives lost call (behind front c) ≡ behind front (gives lost call c)
unfolding gives
behind-gives lost front call c = behind-tells_all lost front call.told (record c { node = call.node })

behind-tick : (s : Setting) (lost : ℕ → Bool) (front : List JournalLine) (c : Course) (may : Bool) → cond may (gives lost (call_of s c.node Ticks) (behind front c)) (behind front c) ≡ behind front (cond may (gives lost (call_of s c.node Ticks) c) c)
behind-tick s lost front c true = behind-gives lost front (call_of s c.node Ticks) c
behind-tick s lost front c false = refl

behind-called : (s : Setting) (lost : ℕ → Bool) (front : List JournalLine) (input : Input) (c : Course) → called s lost input (behind front c) ≡ behind front (called s lost input c)
behind-called s lost front (Delivers bytes) c = behind-gives lost front (call_of s c.node (Delivers bytes)) c
behind-called s lost front Leaves c = behind-gives lost front (call_of s c.node Leaves) c
behind-called s lost front Ticks c = behind-tick s lost front c (may_tick s c.node)

behind-acted : (s : Setting) (lost : ℕ → Bool) (front : List JournalLine) (c : Course) (act : Act) → acted s lost (behind front c) act ≡ behind front (acted s lost c act)
behind-acted s lost front c Receives = refl
behind-acted s lost front c (Writes turn) = ap (λ (xs : List JournalLine). with_lines c xs) (append_assoc front c.lines (OfTurn turn ∷ []))
behind-acted s lost front c (Calls input) = behind-called s lost front input c

behind-folded : (s : Setting) (lost : ℕ → Bool) (front : List JournalLine) (acts : List Act) (c : Course) → fold (acted s lost) (behind front c) acts ≡ behind front (fold (acted s lost) c acts)
behind-folded s lost front [] c = refl
behind-folded s lost front (act ∷ acts) c =
    ap (λ (x : Course). fold (acted s lost) x acts) (behind-acted s lost front c act) ∙ behind-folded s lost front acts (acted s lost c act)

pub behind-course : (s : Setting) (lost : ℕ → Bool) (front : List JournalLine) (acts : List Act) (c : Course) → course s lost acts (behind front c) ≡ behind front (course s lost acts c)
unfolding course
behind-course s lost front acts c = behind-folded s lost front acts c

-- what these acts write where some lines were written before, and these events are told first
pub lines-behind : (s : Setting) (lost : ℕ → Bool) (front : List JournalLine) (acts : List Act) (events : List journal.Event) (c : Course)
    → (course s lost acts (tells_all lost events (behind front c))).lines ≡ front ++ (course s lost acts (tells_all lost events c)).lines
lines-behind s lost front acts events c =
    ap (λ (x : Course). (course s lost acts x).lines) (behind-tells_all lost front events c)
    ∙ ap (λ (x : Course). x.lines) (behind-course s lost front acts (tells_all lost events c))

-- ---- one event

pub tells-event : (lost : ℕ → Bool) (c : Course) (e : journal.Event) → datagram_in e.what ≡ None → tells lost c e ≡ adds_event e.moment e.what c
unfolding tells
tells-event lost c e none = ap (λ (d : Option (ℕ × List ℕ)). tells_what lost e.moment e.what d c) none

pub tells-sent : (lost : ℕ → Bool) (c : Course) (moment number to : ℕ) (bytes : List ℕ) → tells lost c (record { moment = moment; what = told.Sent number to bytes }) ≡ sends_one lost moment to bytes c
unfolding tells
tells-sent lost c moment number to bytes = refl

-- ---- acts one after another

pub course-nil : (s : Setting) (lost : ℕ → Bool) (c : Course) → course s lost [] c ≡ c
unfolding course
course-nil s lost c = refl

pub course-cons : (s : Setting) (lost : ℕ → Bool) (act : Act) (acts : List Act) (c : Course) → course s lost (act ∷ acts) c ≡ course s lost acts (acted s lost c act)
unfolding course
course-cons s lost act acts c = refl

pub gives-is : (lost : ℕ → Bool) (call : Call) (c : Course) → gives lost call c ≡ tells_all lost call.told (record c { node = call.node })
unfolding gives
gives-is lost call c = refl
