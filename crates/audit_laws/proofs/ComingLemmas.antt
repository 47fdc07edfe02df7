-- How what is to come unfolds.
use Rattle.std.proofs.Common.{◌≡◌, ℕ, suc, ◌+◌, ◌-◌, ◌<◌, Bool, true, false, List, [], ◌∷◌, ◌++◌, Some, None, cond, map, refl, sym, ap, ◌∙◌, append_assoc, arith}
use Rattle.std.specs.List.{AllByRecursion, flat_map}
use Rattle.journal.specs.declared.event.Event as journal
use Rattle.journal.specs.declared.event.What.TheVariants as told
use Rattle.journal.specs.declared.turn.Turn.{Turn}
use Rattle.journal.specs.declared.turn.Heard.{Heard}
use Rattle.journal.specs.declared.turn.Heard.TheVariants as heard
use Rattle.journal.specs.Turns.{turn_text}
use Rattle.node_rules.specs.Nodes.{Setting, Node}
use Rattle.node_rules.specs.Calls.{Call}
use Rattle.node_rules.specs.Lives.{Delivers, Ticks, Leaves, call_of}
use Rattle.turn_rules.specs.Turns.{Act, Receives, Writes, Calls, acts_of, delivery_of, leaving_acts, ticks_of, turn_acts}
use Rattle.turn_rules.specs.Lines.{JournalLine, OfTurn, OfEvent, line_text}
use Rattle.turn_rules.specs.Courses.{Course, acted, adds_event, course, datagram_in, gives, may_tick, number_of, tells, tells_all}
use Rattle.turn_rules.specs.Journals.{end_text}
use Rattle.audit_laws.specs.Coming.{Place, coming, lines_behind, loss_lines, loss_of, place_in, place_of}
use Rattle.audit_laws.specs.Unfolding.{LossesComeFirst, NothingElseIsLost, OwedEventsCome, OwedDatagramsCome, TicksAreMade, TicksAreLeftOut, TurnsCome, LeavingComes, JournalsEnd, JournalsComeWhole, sent_as}
use Rattle.audit_laws.proofs.CourseLemmas.{behind, behind-tells_all, course-cons, course-nil, gives-is, lines-behind, tells-event, tells-sent}

-- the texts of these lines, and the end
abbrev texts : List JournalLine → List (List ℕ)
texts lines = map line_text lines ++ end_text ∷ []

-- a course that has written nothing
abbrev bare : Node → ℕ → Course
bare n sent = record { node = n; sent = sent; lines = [] }

abbrev acts_to_come : Bool → List Turn → ℕ → List Act
acts_to_come leaves turns ticks = ticks_of ticks ++ acts_of turns leaves

coming-is : (s : Setting) (lost : ℕ → Bool) (leaves : Bool) (turns : List Turn) (p : Place)
    → coming s lost leaves turns p ≡ texts (loss_lines lost p.sent p.pending ++ lines_behind s lost p (acts_to_come leaves turns p.ticks))
unfolding coming
coming-is s lost leaves turns p = refl

-- ---- the last datagram

pub losses-first : LossesComeFirst
unfolding coming
losses-first s lost leaves turns p moment gone =
    let rest : List JournalLine = lines_behind s lost p (acts_to_come leaves turns p.ticks) in
    ap (λ (b : Bool). texts (cond b (OfEvent (loss_of p.sent moment) ∷ []) [] ++ rest)) gone

pub nothing-lost : NothingElseIsLost
unfolding coming
nothing-lost s lost leaves turns p moment kept =
    let rest : List JournalLine = lines_behind s lost p (acts_to_come leaves turns p.ticks) in
    ap (λ (b : Bool). texts (cond b (OfEvent (loss_of p.sent moment) ∷ []) [] ++ rest)) kept

-- ---- what is owed

pub owed-event : OwedEventsCome
unfolding coming
owed-event s lost leaves turns n sent ticks e owed none =
    let acts : List Act = acts_to_come leaves turns ticks in
    let told_first : tells lost (bare n sent) e ≡ behind (OfEvent e ∷ []) (bare n sent) = tells-event lost (bare n sent) e none in
    ap (λ (c : Course). texts ((course s lost acts (tells_all lost owed c)).lines)) told_first
    ∙ ap (λ (lines : List JournalLine). texts lines) (lines-behind s lost (OfEvent e ∷ []) acts owed (bare n sent))

-- the line of a datagram, and of its loss
sends-lines : (n : Node) (sent moment to : ℕ) (bytes : List ℕ) (gone : Bool)
    → (let c1 : Course = adds_event moment (told.Sent (number_of sent) to bytes) (bare n (sent + 1)) in cond gone (adds_event moment (told.Lost (number_of sent)) c1) c1)
    ≡ behind (OfEvent (sent_as sent moment to bytes) ∷ cond gone (OfEvent (record { moment = moment; what = told.Lost (number_of sent) }) ∷ []) []) (bare n (sent + 1))
sends-lines n sent moment to bytes true = refl
sends-lines n sent moment to bytes false = refl

-- the loss is that of the last datagram
loss-of-last : (lost : ℕ → Bool) (sent moment before : ℕ) → before ≡ sent
    → cond (lost sent) (OfEvent (record { moment = moment; what = told.Lost (number_of sent) }) ∷ []) [] ≡ cond (lost before) (OfEvent (record { moment = moment; what = told.Lost (number_of before) }) ∷ []) []
loss-of-last lost sent moment before same =
    ap (λ (k : ℕ). cond (lost k) (OfEvent (record { moment = moment; what = told.Lost (number_of k) }) ∷ []) []) (sym same)

pub owed-datagram : OwedDatagramsCome
unfolding coming
owed-datagram s lost leaves turns n sent ticks moment number to bytes owed =
    let acts : List Act = acts_to_come leaves turns ticks in
    let line : JournalLine = OfEvent (sent_as sent moment to bytes) in
    let loss : List JournalLine = loss_lines lost (sent + 1) (Some moment) in
    let back : sent + 1 - 1 ≡ sent = omega arith in
    let told_first : tells lost (bare n sent) (record { moment = moment; what = told.Sent number to bytes }) ≡ behind (line ∷ loss) (bare n (sent + 1)) =
    tells-sent lost (bare n sent) moment number to bytes ∙ sends-lines n sent moment to bytes (lost sent)
    ∙ ap (λ (lines : List JournalLine). behind (line ∷ lines) (bare n (sent + 1))) (loss-of-last lost sent moment (sent + 1 - 1) back) in
    ap (λ (c : Course). texts ((course s lost acts (tells_all lost owed c)).lines)) told_first
    ∙ ap (λ (lines : List JournalLine). texts lines) (lines-behind s lost (line ∷ loss) acts owed (bare n (sent + 1)))

-- ---- ticks

-- one tick more
tick-on : (s : Setting) (lost : ℕ → Bool) (leaves : Bool) (turns : List Turn) (n : Node) (sent ticks : ℕ)
    → coming s lost leaves turns (record { node = n; sent = sent; pending = None; owed = []; ticks = suc ticks })
    ≡ texts (course s lost (acts_to_come leaves turns ticks) (acted s lost (bare n sent) (Calls Ticks))).lines
unfolding coming
tick-on s lost leaves turns n sent ticks =
    ap (λ (c : Course). texts c.lines) (course-cons s lost (Calls Ticks) (acts_to_come leaves turns ticks) (bare n sent))

made-tick : (s : Setting) (lost : ℕ → Bool) (leaves : Bool) (turns : List Turn) (n : Node) (sent ticks : ℕ) → may_tick s n ≡ true
    → coming s lost leaves turns (record { node = n; sent = sent; pending = None; owed = []; ticks = suc ticks }) ≡ coming s lost leaves turns (place_of (call_of s n Ticks) sent ticks)
made-tick s lost leaves turns n sent ticks may =
    let acts : List Act = acts_to_come leaves turns ticks in
    let call : Call = call_of s n Ticks in
    tick-on s lost leaves turns n sent ticks
    ∙ ap (λ (b : Bool). texts (course s lost acts (cond b (gives lost call (bare n sent)) (bare n sent))).lines) may
    ∙ ap (λ (c : Course). texts (course s lost acts c).lines) (gives-is lost call (bare n sent))
    ∙ sym (coming-is s lost leaves turns (place_of call sent ticks))

left-tick : (s : Setting) (lost : ℕ → Bool) (leaves : Bool) (turns : List Turn) (n : Node) (sent ticks : ℕ) → may_tick s n ≡ false
    → coming s lost leaves turns (record { node = n; sent = sent; pending = None; owed = []; ticks = suc ticks })
    ≡ coming s lost leaves turns (record { node = n; sent = sent; pending = None; owed = []; ticks = ticks })
left-tick s lost leaves turns n sent ticks may =
    let acts : List Act = acts_to_come leaves turns ticks in
    let p : Place = record { node = n; sent = sent; pending = None; owed = []; ticks = ticks } in
    tick-on s lost leaves turns n sent ticks
    ∙ ap (λ (b : Bool). texts (course s lost acts (cond b (gives lost (call_of s n Ticks) (bare n sent)) (bare n sent))).lines) may
    ∙ sym (coming-is s lost leaves turns p)

one-less : (ticks : ℕ) → 0 < ticks → ticks ≡ suc (ticks - 1)
one-less ticks some = omega arith

pub ticks-made : TicksAreMade
ticks-made s lost leaves turns n sent ticks may some =
    ap (λ (k : ℕ). coming s lost leaves turns (record { node = n; sent = sent; pending = None; owed = []; ticks = k })) (one-less ticks some)
    ∙ made-tick s lost leaves turns n sent (ticks - 1) may

pub ticks-left : TicksAreLeftOut
ticks-left s lost leaves turns n sent ticks may some =
    ap (λ (k : ℕ). coming s lost leaves turns (record { node = n; sent = sent; pending = None; owed = []; ticks = k })) (one-less ticks some)
    ∙ left-tick s lost leaves turns n sent (ticks - 1) may

-- ---- turns

-- the same where nothing was delivered
plain-lines : (s : Setting) (lost : ℕ → Bool) (leaves : Bool) (turns : List Turn) (n : Node) (sent ticks : ℕ) (line : JournalLine)
    → (course s lost (ticks_of ticks ++ flat_map turn_acts turns ++ leaving_acts leaves) (behind (line ∷ []) (bare n sent))).lines
    ≡ line ∷ (course s lost (acts_to_come leaves turns ticks) (bare n sent)).lines
plain-lines s lost leaves turns n sent ticks line =
    lines-behind s lost (line ∷ []) (ticks_of ticks ++ flat_map turn_acts turns ++ leaving_acts leaves) [] (bare n sent)
    ∙ ap (λ (xs : List Act). line ∷ (course s lost xs (bare n sent)).lines) (append_assoc (ticks_of ticks) (flat_map turn_acts turns) (leaving_acts leaves))

-- what is to come behind the line of a turn
heard-coming : (s : Setting) (lost : ℕ → Bool) (leaves : Bool) (turns : List Turn) (n : Node) (sent ticks : ℕ) (got : Heard)
    → texts (lines_behind s lost (place_in s n sent got ticks) (acts_to_come leaves turns ticks)) ≡ coming s lost leaves turns (place_in s n sent got ticks)
unfolding coming
heard-coming s lost leaves turns n sent ticks (heard.Got bytes) = refl
heard-coming s lost leaves turns n sent ticks heard.Nothing = refl
heard-coming s lost leaves turns n sent ticks heard.Failed = refl

-- what the rest of a turn and those behind it write, behind its line
heard-lines : (s : Setting) (lost : ℕ → Bool) (leaves : Bool) (turns : List Turn) (n : Node) (sent ticks : ℕ) (line : JournalLine) (got : Heard)
    → (course s lost (delivery_of got ++ ticks_of ticks ++ flat_map turn_acts turns ++ leaving_acts leaves) (behind (line ∷ []) (bare n sent))).lines
    ≡ line ∷ lines_behind s lost (place_in s n sent got ticks) (acts_to_come leaves turns ticks)
heard-lines s lost leaves turns n sent ticks line (heard.Got bytes) =
    let call : Call = call_of s n (Delivers bytes) in
    let acts : List Act = ticks_of ticks ++ flat_map turn_acts turns ++ leaving_acts leaves in
    ap (λ (c : Course). c.lines) (course-cons s lost (Calls (Delivers bytes)) acts (behind (line ∷ []) (bare n sent)))
    ∙ ap (λ (c : Course). (course s lost acts c).lines) (gives-is lost call (behind (line ∷ []) (bare n sent)))
    ∙ lines-behind s lost (line ∷ []) acts call.told (bare call.node sent)
    ∙ ap (λ (xs : List Act). line ∷ lines_behind s lost (place_of call sent ticks) xs) (append_assoc (ticks_of ticks) (flat_map turn_acts turns) (leaving_acts leaves))
heard-lines s lost leaves turns n sent ticks line heard.Nothing = plain-lines s lost leaves turns n sent ticks line
heard-lines s lost leaves turns n sent ticks line heard.Failed = plain-lines s lost leaves turns n sent ticks line

pub turns-come : TurnsCome
unfolding coming
turns-come s lost leaves turn turns n sent =
    let acts : List Act = delivery_of turn.heard ++ ticks_of turn.ticks ++ flat_map turn_acts turns ++ leaving_acts leaves in
    ap (λ (c : Course). texts c.lines) (course-cons s lost Receives (Writes turn ∷ acts) (bare n sent))
    ∙ ap (λ (c : Course). texts c.lines) (course-cons s lost (Writes turn) acts (bare n sent))
    ∙ ap (λ (lines : List JournalLine). texts lines) (heard-lines s lost leaves turns n sent turn.ticks (OfTurn turn) turn.heard)
    ∙ ap (λ (rest : List (List ℕ)). turn_text turn ∷ rest) (heard-coming s lost leaves turns n sent turn.ticks turn.heard)

-- ---- the leaving and the end

pub leaving-comes : LeavingComes
unfolding coming
leaving-comes s lost n sent =
    let call : Call = call_of s n Leaves in
    ap (λ (c : Course). texts c.lines) (course-cons s lost (Calls Leaves) [] (bare n sent))
    ∙ ap (λ (c : Course). texts (course s lost [] c).lines) (gives-is lost call (bare n sent))

pub journals-end : JournalsEnd
unfolding coming
journals-end s lost n sent = ap (λ (c : Course). texts c.lines) (course-nil s lost (bare n sent))

-- ---- the whole

-- what sends nothing is told line by line
told-lines : (lost : ℕ → Bool) (n : Node) (sent : ℕ) (events : List journal.Event) → AllByRecursion (λ e. datagram_in e.what ≡ None) events
    → tells_all lost events (bare n sent) ≡ behind (map OfEvent events) (bare n sent)
told-lines lost n sent [] none = refl
told-lines lost n sent (e ∷ events) none =
    ap (λ (c : Course). tells_all lost events c) (tells-event lost (bare n sent) e none.0)
    ∙ behind-tells_all lost (OfEvent e ∷ []) events (bare n sent)
    ∙ ap (λ (c : Course). behind (OfEvent e ∷ []) c) (told-lines lost n sent events none.1)

pub journals-whole : JournalsComeWhole
unfolding coming
journals-whole s start turns lost leaves none =
    let acts : List Act = acts_of turns leaves in
    let c0 : Course = bare start.node 0 in
    ap (λ (lines : List JournalLine). texts lines)
    (sym (ap (λ (c : Course). (course s lost acts c).lines) (told-lines lost start.node 0 start.told none)
    ∙ lines-behind s lost (map OfEvent start.told) acts [] c0))
