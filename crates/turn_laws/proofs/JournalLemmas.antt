-- What the lines of a journal give.
use Rattle.std.proofs.Common.{◌≡◌, ℕ, ◌+◌, Bool, true, false, List, [], ◌∷◌, ◌++◌, map, cond, Option, Some, None, inl, inr, refl, ap, sym, ◌∙◌, subst, append_assoc}
use Rattle.std.specs.Prelude.{Contains}
use Rattle.std.specs.List.{AllByRecursion}
use Rattle.std.proofs.lemmas.Bool.{cond_both}
use Rattle.ff_ids.specs.declared.AccBody.{AccBody}
use Rattle.life_laws.proofs.Lists.{All-at, In, In-append_cases, In-from_Contains, In-from_map}
use Rattle.records.specs.declared.keys.Key.{Key}
use Rattle.records.specs.declared.Body.{Body}
use Rattle.records.specs.declared.Body.TheVariants.{Accusation}
use Rattle.records.specs.declared.Record.{Record}
use Rattle.epoch_store.specs.declared.Stored.{Stored}
use Rattle.rebuttal.proofs.Masks.{all_rings-good}
use Rattle.journal.specs.declared.event.Event as journal
use Rattle.journal.specs.declared.event.What as whats
use Rattle.journal.specs.declared.event.What.TheVariants as told
use Rattle.journal.specs.declared.turn.Turn.{Turn}
use Rattle.node_rules.specs.Nodes.{Setting, Node}
use Rattle.node_rules.specs.Calls.{Call}
use Rattle.node_rules.specs.OnDisks.{IsCut}
use Rattle.node_rules.specs.Starting.{started}
use Rattle.node_rules.specs.Lives.{AreCertificates, Input, Delivers, Ticks, Leaves, call_of}
use Rattle.node_rules.proofs.OwnKey.{key-started}
use Rattle.node_rules.proofs.OwnNote.{own-started}
use Rattle.node_rules.proofs.SentRecords.{sent-sound}
use Rattle.turn_rules.specs.Turns.{Act, Receives, Writes, Calls, acts_of}
use Rattle.turn_rules.specs.Lines.{JournalLine, OfTurn, OfEvent}
use Rattle.turn_rules.specs.Courses.{Course, acted, adds_event, course, course_from, datagram_in, gives, may_tick, node_acted, node_behind, number_of, sends_one, tells, tells_all, tells_what}
use Rattle.turn_rules.specs.Journals.{life_lines, turn_lines}
use Rattle.turn_rules.specs.Departures.{Departs}
use Rattle.turn_rules.specs.Replies.{Accepts, Expires, Signs}
use Rattle.turn_rules.specs.Sendings.{Sends}
use Rattle.turn_rules.specs.Written.{GivesOf}
use Rattle.turn_laws.specs.Resting.{MayStart}
use Rattle.turn_laws.proofs.OriginLemmas.{acts-behind, behind-none}
use Rattle.turn_laws.proofs.DepartureLemmas.{IsRooted, called-departs, cut-departs}
use Rattle.turn_laws.proofs.RemovalLemmas.{TellsNow, called-told, cut-told, removal-no-start, start-quiet, start-unaccused}
use Rattle.turn_laws.proofs.ReplyLemmas.{accepts, called-taken, cut-taken, expires, expiry, expiry-no-start, expiry-of-ticks, taken-no-start}
use Rattle.turn_laws.proofs.SentLemmas.{IsUpright, cut-sends, sends, sent-no-start}
use Rattle.turn_laws.proofs.SignedLemmas.{accusation-no-start, called-signed, cut-signed, signs}

abbrev event : ℕ → whats.What → journal.Event
event moment what = record { moment = moment; what = what }

-- ## What calls report

-- what is told of removals, of expiries, of what is accepted or signed, and of what is sent is of these acts
abbrev pub IsOf : (ℕ → Body → Bool) → Setting → Node → List Act → ℕ → whats.What → Type 0
IsOf claimed s start acts at (told.Removed m) = Departs claimed s start acts at m
IsOf claimed s start acts at (told.Expired a) = Expires s start acts at a
IsOf claimed s start acts at (told.Took body None) = Accepts s start acts at body
IsOf claimed s start acts at (told.Spent index (Accusation a)) = Signs s start acts at index a
IsOf claimed s start acts at (told.Sent number to bytes) = Sends claimed s start acts at to bytes
IsOf claimed s start acts at other = Unit {0}

abbrev pub TellsOf : (ℕ → Body → Bool) → Setting → Node → List Act → List journal.Event → Type 0
TellsOf claimed s start acts events = (at : ℕ) (what : whats.What) → In events (event at what) → IsOf claimed s start acts at what

-- What a life begins with, so that its removals have their causes in it, and what it sends verifies.
pub record IsFounded (claimed : ℕ → Body → Bool) (s : Setting) (own : Key) (start : Node) : Type 0 where
  pub rooted : IsRooted claimed s own start
  pub upright : IsUpright claimed s start

expires-now : (s : Setting) (start : Node) (acts done later : List Act) (i : Input) (at : ℕ) (a : AccBody) → acts ≡ done ++ Calls i ∷ later → TellsNow s (node_behind s start done) i (expiry at a) → Expires s start acts at a
expires-now s start acts done later i at a split now = expires s start acts done later at a (split ∙ ap (λ (x : Input). done ++ Calls x ∷ later) now.tick) now.told

pub called-of : (claimed : ℕ → Body → Bool) (s : Setting) (own : Key) (start : Node) (acts done later : List Act) (i : Input) → IsFounded claimed s own start → acts ≡ done ++ Calls i ∷ later
    → TellsOf claimed s start acts (call_of s (node_behind s start done) i).told
called-of claimed s own start acts done later i f split at (told.Removed m) among = called-departs claimed s own start acts done later i at m f.rooted split among
called-of claimed s own start acts done later i f split at (told.Expired a) among = expires-now s start acts done later i at a split (called-told s (node_behind s start done) i (expiry at a) (expiry-of-ticks at a) among)
called-of claimed s own start acts done later i f split at (told.Took body None) among = accepts s start acts done later i at body split (called-taken s (node_behind s start done) i at body among)
called-of claimed s own start acts done later i f split at (told.Spent index (Accusation a)) among = signs s start acts done later i at index a split (called-signed s (node_behind s start done) i at index a among)
called-of claimed s own start acts done later i f split at (told.Sent place to bytes) among = sends claimed s start acts done later i at place to bytes f.upright split among
called-of claimed s own start acts done later i f split at _ among = tt

-- the same of a call in which the disk fails
pub cut-of : (claimed : ℕ → Body → Bool) (s : Setting) (own : Key) (start : Node) (acts done later : List Act) (i : Input) (c : Call) → IsFounded claimed s own start → acts ≡ done ++ Calls i ∷ later → IsCut s (node_behind s start done) i c
    → TellsOf claimed s start acts c.told
cut-of claimed s own start acts done later i c f split cut at (told.Removed m) among = cut-departs claimed s own start acts done later i c at m f.rooted split cut among
cut-of claimed s own start acts done later i c f split cut at (told.Expired a) among = expires-now s start acts done later i at a split (cut-told s (node_behind s start done) i c (expiry at a) (expiry-of-ticks at a) cut among)
cut-of claimed s own start acts done later i c f split cut at (told.Took body None) among = accepts s start acts done later i at body split (cut-taken s (node_behind s start done) i c at body cut among)
cut-of claimed s own start acts done later i c f split cut at (told.Spent index (Accusation a)) among = signs s start acts done later i at index a split (cut-signed s (node_behind s start done) i c at index a cut among)
cut-of claimed s own start acts done later i c f split cut at (told.Sent place to bytes) among = cut-sends claimed s start acts done later i c at place to bytes f.upright split cut among
cut-of claimed s own start acts done later i c f split cut at _ among = tt

-- ## The start

pub founded : (claimed : ℕ → Body → Bool) (s : Setting) (own : Key) (nonces : ℕ → ℕ) (certificates : List Record) (stored : Stored) → MayStart claimed s own certificates stored → IsFounded claimed s own (started s nonces certificates stored).node
founded claimed s own nonces certificates stored v =
    record {
      rooted = record {
        some = v.rings.some;
        sign = v.signatures;
        vouched = key-started s own nonces certificates stored v.kit.all v.kit.own v.certified v.left;
        unaccused = start-unaccused s nonces certificates stored v.kit.all;
        kept = own-started s nonces certificates stored (all_rings-good s.group.t) v.kit.all v.kit.own;
      };
      upright = record { sends = λ inputs i fails_at. sent-sound claimed s own nonces certificates stored inputs i fails_at v.kit v.certified v.signatures v.left };
    }

-- What the start reports gives nothing of the kind.
pub tells-start : (claimed : ℕ → Body → Bool) (s : Setting) (nonces : ℕ → ℕ) (certificates : List Record) (stored : Stored) (start : Node) (acts : List Act) → AreCertificates certificates → TellsOf claimed s start acts (started s nonces certificates stored).told
tells-start claimed s nonces certificates stored start acts all at (told.Removed who) i = absurd (start-quiet s nonces certificates stored _ (removal-no-start at who) all i)
tells-start claimed s nonces certificates stored start acts all at (told.Expired a) i = absurd (start-quiet s nonces certificates stored _ (expiry-no-start at a) all i)
tells-start claimed s nonces certificates stored start acts all at (told.Took body None) i = absurd (start-quiet s nonces certificates stored _ (taken-no-start at body) all i)
tells-start claimed s nonces certificates stored start acts all at (told.Spent index (Accusation a)) i = absurd (start-quiet s nonces certificates stored _ (accusation-no-start at index a) all i)
tells-start claimed s nonces certificates stored start acts all at (told.Sent place to bytes) i = absurd (start-quiet s nonces certificates stored _ (sent-no-start at place to bytes) all i)
tells-start claimed s nonces certificates stored start acts all at _ i = tt

-- ## The lines of a course

-- what the line gives is of these acts
abbrev pub LineRests : (ℕ → Body → Bool) → Setting → Node → List Act → JournalLine → Type 0
LineRests claimed s start acts (OfTurn turn) = Unit {0}
LineRests claimed s start acts (OfEvent e) = IsOf claimed s start acts e.moment e.what

abbrev Rest : (ℕ → Body → Bool) → Setting → Node → List Act → Course → Type 0
Rest claimed s start acts c = AllByRecursion (LineRests claimed s start acts) c.lines

all-then : (P : JournalLine → Type 0) (lines : List JournalLine) (line : JournalLine) → AllByRecursion P lines → P line → AllByRecursion P (lines ++ line ∷ [])
all-then P [] line all last = (last, tt)
all-then P (x ∷ lines) line all last = (all.0, all-then P lines line all.1 last)

rest-event : (claimed : ℕ → Body → Bool) (s : Setting) (start : Node) (acts : List Act) (at : ℕ) (w : whats.What) (c : Course) → IsOf claimed s start acts at w → Rest claimed s start acts c → Rest claimed s start acts (adds_event at w c)
rest-event claimed s start acts at w c of h = all-then (LineRests claimed s start acts) c.lines (OfEvent (event at w)) h of

rest-sends : (claimed : ℕ → Body → Bool) (s : Setting) (start : Node) (acts : List Act) (lost : ℕ → Bool) (moment to : ℕ) (bytes : List ℕ) (c : Course) → Sends claimed s start acts moment to bytes → Rest claimed s start acts c
    → Rest claimed s start acts (sends_one lost moment to bytes c)
rest-sends claimed s start acts lost moment to bytes c of h =
    let c0 : Course = record c { sent = c.sent + 1 } in
    let c1 : Course = adds_event moment (told.Sent (number_of c.sent) to bytes) c0 in
    let one : Rest claimed s start acts c1 = rest-event claimed s start acts moment (told.Sent (number_of c.sent) to bytes) c0 of h in
    cond_both {A = Course} (lost c.sent) (adds_event moment (told.Lost (number_of c.sent)) c1) c1 (Rest claimed s start acts)
    (λ gone. rest-event claimed s start acts moment (told.Lost (number_of c.sent)) c1 tt one) (λ came. one)

nothing-sent : {A : Type 0} (d : ℕ × List ℕ) → None ≡ Some d → A
nothing-sent d e = cc

same-datagram : (c d : ℕ × List ℕ) → Some c ≡ Some d → c ≡ d
same-datagram c d e = cc

-- the datagram that an event reports, where it reports one
pub sends-of : (claimed : ℕ → Body → Bool) (s : Setting) (start : Node) (acts : List Act) (moment : ℕ) (what : whats.What) (d : ℕ × List ℕ) → datagram_in what ≡ Some d → IsOf claimed s start acts moment what → Sends claimed s start acts moment d.0 d.1
sends-of claimed s start acts moment (told.Sent number to bytes) d is of = subst (λ (x : ℕ × List ℕ). Sends claimed s start acts moment x.0 x.1) (same-datagram (to, bytes) d is) of
sends-of claimed s start acts moment (told.Entered m) d is of = nothing-sent d is
sends-of claimed s start acts moment (told.Expired a) d is of = nothing-sent d is
sends-of claimed s start acts moment (told.Removed m) d is of = nothing-sent d is
sends-of claimed s start acts moment (told.Fell a) d is of = nothing-sent d is
sends-of claimed s start acts moment (told.Spent index body) d is of = nothing-sent d is
sends-of claimed s start acts moment (told.Took body fault) d is of = nothing-sent d is
sends-of claimed s start acts moment (told.BadForm place) d is of = nothing-sent d is
sends-of claimed s start acts moment (told.Ping from_ nonce) d is of = nothing-sent d is
sends-of claimed s start acts moment (told.Pong from_ nonce counted) d is of = nothing-sent d is
sends-of claimed s start acts moment (told.Summary from_ page flag) d is of = nothing-sent d is
sends-of claimed s start acts moment (told.Silent m) d is of = nothing-sent d is
sends-of claimed s start acts moment (told.Exhausted next) d is of = nothing-sent d is
sends-of claimed s start acts moment (told.Lost number) d is of = nothing-sent d is
sends-of claimed s start acts moment (told.Got number) d is of = nothing-sent d is
sends-of claimed s start acts moment told.Stopped d is of = nothing-sent d is

rest-what : (claimed : ℕ → Body → Bool) (s : Setting) (start : Node) (acts : List Act) (lost : ℕ → Bool) (moment : ℕ) (what : whats.What) (d : Option (ℕ × List ℕ)) (c : Course) → datagram_in what ≡ d → IsOf claimed s start acts moment what
    → Rest claimed s start acts c → Rest claimed s start acts (tells_what lost moment what d c)
rest-what claimed s start acts lost moment what (Some d) c is of h = rest-sends claimed s start acts lost moment d.0 d.1 c (sends-of claimed s start acts moment what d is of) h
rest-what claimed s start acts lost moment what None c is of h = rest-event claimed s start acts moment what c of h

rest-tells : (claimed : ℕ → Body → Bool) (s : Setting) (start : Node) (acts : List Act) (lost : ℕ → Bool) (c : Course) (e : journal.Event) → IsOf claimed s start acts e.moment e.what → Rest claimed s start acts c → Rest claimed s start acts (tells lost c e)
unfolding tells
rest-tells claimed s start acts lost c e of h = rest-what claimed s start acts lost e.moment e.what (datagram_in e.what) c refl of h

rest-tells_all : (claimed : ℕ → Body → Bool) (s : Setting) (start : Node) (acts : List Act) (lost : ℕ → Bool) (events : List journal.Event) (c : Course) → TellsOf claimed s start acts events → Rest claimed s start acts c
    → Rest claimed s start acts (tells_all lost events c)
rest-tells_all claimed s start acts lost [] c of h = h
rest-tells_all claimed s start acts lost (e ∷ events) c of h =
    rest-tells_all claimed s start acts lost events (tells lost c e) (λ at w i. of at w (inr i)) (rest-tells claimed s start acts lost c e (of e.moment e.what (inl refl)) h)

rest-gives : (claimed : ℕ → Body → Bool) (s : Setting) (start : Node) (acts : List Act) (lost : ℕ → Bool) (call : Call) (c : Course) → TellsOf claimed s start acts call.told → Rest claimed s start acts c → Rest claimed s start acts (gives lost call c)
unfolding gives
rest-gives claimed s start acts lost call c of h = rest-tells_all claimed s start acts lost call.told (record c { node = call.node }) of h

-- ---- the node of a course

node-what : (lost : ℕ → Bool) (moment : ℕ) (what : whats.What) (d : Option (ℕ × List ℕ)) (c : Course) → (tells_what lost moment what d c).node ≡ c.node
node-what lost moment what (Some d) c =
    let c1 : Course = adds_event moment (told.Sent (number_of c.sent) d.0 d.1) (record c { sent = c.sent + 1 }) in
    cond_both {A = Course} (lost c.sent) (adds_event moment (told.Lost (number_of c.sent)) c1) c1 (λ x. x.node ≡ c.node) (λ gone. refl) (λ came. refl)
node-what lost moment what None c = refl

node-tells : (lost : ℕ → Bool) (c : Course) (e : journal.Event) → (tells lost c e).node ≡ c.node
unfolding tells
node-tells lost c e = node-what lost e.moment e.what (datagram_in e.what) c

node-tells_all : (lost : ℕ → Bool) (events : List journal.Event) (c : Course) → (tells_all lost events c).node ≡ c.node
node-tells_all lost [] c = refl
node-tells_all lost (e ∷ events) c = node-tells_all lost events (tells lost c e) ∙ node-tells lost c e

node-gives : (lost : ℕ → Bool) (call : Call) (c : Course) → (gives lost call c).node ≡ call.node
unfolding gives
node-gives lost call c = node-tells_all lost call.told (record c { node = call.node })

ticking : (s : Setting) (lost : ℕ → Bool) (c : Course) (may : Bool) → (cond may (gives lost (call_of s c.node Ticks) c) c).node ≡ cond may (call_of s c.node Ticks).node c.node
ticking s lost c true = node-gives lost (call_of s c.node Ticks) c
ticking s lost c false = refl

pub node-of-act : (s : Setting) (lost : ℕ → Bool) (c : Course) (act : Act) → (acted s lost c act).node ≡ node_acted s c.node act
node-of-act s lost c Receives = refl
node-of-act s lost c (Writes turn) = refl
node-of-act s lost c (Calls (Delivers bytes)) = node-gives lost (call_of s c.node (Delivers bytes)) c
node-of-act s lost c (Calls Leaves) = node-gives lost (call_of s c.node Leaves) c
node-of-act s lost c (Calls Ticks) = ticking s lost c (may_tick s c.node)

-- ---- acts

pub course-nil : (s : Setting) (lost : ℕ → Bool) (c : Course) → course s lost [] c ≡ c
unfolding course
course-nil s lost c = refl

pub course-cons : (s : Setting) (lost : ℕ → Bool) (act : Act) (acts : List Act) (c : Course) → course s lost (act ∷ acts) c ≡ course s lost acts (acted s lost c act)
unfolding course
course-cons s lost act acts c = refl

-- the node has come to what the acts so far have left
abbrev Stands : Setting → Node → List Act → Course → Type 0
Stands s start done c = c.node ≡ node_behind s start done

tells-there : (claimed : ℕ → Body → Bool) (s : Setting) (own : Key) (start : Node) (acts done later : List Act) (i : Input) (c : Course) → IsFounded claimed s own start → acts ≡ done ++ Calls i ∷ later → Stands s start done c
    → TellsOf claimed s start acts (call_of s c.node i).told
tells-there claimed s own start acts done later i c f split here = subst (λ (n : Node). TellsOf claimed s start acts (call_of s n i).told) (sym here) (called-of claimed s own start acts done later i f split)

rest-act : (claimed : ℕ → Body → Bool) (s : Setting) (own : Key) (start : Node) (acts done later : List Act) (lost : ℕ → Bool) (act : Act) (c : Course) → IsFounded claimed s own start → acts ≡ done ++ act ∷ later → Stands s start done c
    → Rest claimed s start acts c → Rest claimed s start acts (acted s lost c act)
rest-act claimed s own start acts done later lost Receives c f split here h = h
rest-act claimed s own start acts done later lost (Writes turn) c f split here h = all-then (LineRests claimed s start acts) c.lines (OfTurn turn) h tt
rest-act claimed s own start acts done later lost (Calls (Delivers bytes)) c f split here h =
    rest-gives claimed s start acts lost (call_of s c.node (Delivers bytes)) c (tells-there claimed s own start acts done later (Delivers bytes) c f split here) h
rest-act claimed s own start acts done later lost (Calls Leaves) c f split here h =
    rest-gives claimed s start acts lost (call_of s c.node Leaves) c (tells-there claimed s own start acts done later Leaves c f split here) h
rest-act claimed s own start acts done later lost (Calls Ticks) c f split here h =
    cond_both {A = Course} (may_tick s c.node) (gives lost (call_of s c.node Ticks) c) c (Rest claimed s start acts)
    (λ may. rest-gives claimed s start acts lost (call_of s c.node Ticks) c (tells-there claimed s own start acts done later Ticks c f split here) h) (λ never. h)

rest-on : (claimed : ℕ → Body → Bool) (s : Setting) (own : Key) (start : Node) (acts done more : List Act) (lost : ℕ → Bool) (c : Course) → IsFounded claimed s own start → acts ≡ done ++ more → Stands s start done c
    → Rest claimed s start acts c → Rest claimed s start acts (course s lost more c)
rest-on claimed s own start acts done [] lost c f split here h = subst (Rest claimed s start acts) (sym (course-nil s lost c)) h
rest-on claimed s own start acts done (act ∷ more) lost c f split here h =
    subst (Rest claimed s start acts) (sym (course-cons s lost act more c))
    (rest-on claimed s own start acts (done ++ act ∷ []) more lost (acted s lost c act) f (split ∙ sym (append_assoc done (act ∷ []) more))
    (node-of-act s lost c act ∙ ap (λ (n : Node). node_acted s n act) here ∙ sym (acts-behind s start done act)) (rest-act claimed s own start acts done more lost act c f split here h))

-- each line of a course rests on it
pub course-rests : (claimed : ℕ → Body → Bool) (s : Setting) (own : Key) (start : Node) (acts : List Act) (lost : ℕ → Bool) → IsFounded claimed s own start
    → AllByRecursion (LineRests claimed s start acts) (course s lost acts (course_from start)).lines
course-rests claimed s own start acts lost f = rest-on claimed s own start acts [] acts lost (course_from start) f refl (sym (behind-none s start)) tt

-- ## A journal

gives-of : (claimed : ℕ → Body → Bool) (s : Setting) (start : Node) (acts : List Act) (at : ℕ) (w : whats.What) → IsOf claimed s start acts at w → GivesOf claimed s start acts at w
gives-of claimed s start acts at (told.Removed m) h = record { moment = at; member = m; spelled = refl; removal = h }
gives-of claimed s start acts at (told.Expired a) h = record { moment = at; accusation = a; spelled = refl; expiry = h }
gives-of claimed s start acts at (told.Took body None) h = record { moment = at; body = body; spelled = refl; accepted = h }
gives-of claimed s start acts at (told.Spent index (Accusation a)) h = record { moment = at; index = index; accusation = a; spelled = refl; signs = h }
gives-of claimed s start acts at (told.Sent number to bytes) h = record { moment = at; number = number; to = to; bytes = bytes; spelled = refl; sends = h }
gives-of claimed s start acts at _ h = tt

pub same-event : (e x : journal.Event) → OfEvent e ≡ OfEvent x → e ≡ x
same-event e x is = cc

pub journals-rest : (claimed : ℕ → Body → Bool) (s : Setting) (own : Key) (nonces : ℕ → ℕ) (certificates : List Record) (stored : Stored) (turns : List Turn) (lost : ℕ → Bool) (leave : Bool) (moment : ℕ) (what : whats.What)
    → MayStart claimed s own certificates stored
    → Contains (life_lines s (started s nonces certificates stored) turns lost leave) (OfEvent (event moment what))
    → GivesOf claimed s (started s nonces certificates stored).node (acts_of turns leave) moment what
journals-rest claimed s own nonces certificates stored turns lost leave moment what v among =
    let begun : Call = started s nonces certificates stored in
    let acts : List Act = acts_of turns leave in
    let lines : List JournalLine = turn_lines s begun turns lost leave in
    let line : JournalLine = OfEvent (event moment what) in
    gives-of claimed s begun.node acts moment what
    (elim (In-append_cases (map OfEvent begun.told) lines line (In-from_Contains (life_lines s begun turns lost leave) line among)) [
      | inl first ↦
          let x = In-from_map OfEvent begun.told line first in
          tells-start claimed s nonces certificates stored begun.node acts v.kit.all moment what (subst (In begun.told) (same-event x.0 (event moment what) x.1.1) x.1.0)
      | inr later ↦ All-at (LineRests claimed s begun.node acts) lines line (course-rests claimed s own begun.node acts lost (founded claimed s own nonces certificates stored v)) later
    ])
