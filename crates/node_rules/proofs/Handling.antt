-- What handling one record reports and sends, event by event, and what a delivery of records reports and sends.
use Rattle.std.proofs.Common.{◌≡◌, ℕ, Bool, true, false, cond, eqb, List, [], ◌∷◌, ◌++◌, Option, Some, None, length, filter, map, inl, inr, refl, ap, sym, ◌∙◌, subst}
use Rattle.std.specs.Prelude.{Result, Ok, Err}
use Rattle.std.proofs.lemmas.Bool.{cond_both, cases_Bool, false≢true}
use Rattle.std.proofs.lemmas.List.{append_assoc}
use Rattle.std.proofs.lemmas.List.Elements.{filter-append}
use Rattle.ff_ids.specs.declared.AccBody.{AccBody}
use Rattle.ff_ids.specs.declared.NoteBody.{NoteBody}
use Rattle.ff_ids.specs.declared.Fault.{Fault}
use Rattle.ff_ids.specs.Views.{State, is_member}
use Rattle.ff_ids.specs.Steps.{Event, Report, step, unchanged, joined, unless_fault, after_note, after_accusation}
use Rattle.ff_ids.specs.Faults.{note_fault, accusation_fault}
use Rattle.epoch_store.specs.declared.Stored.{Stored}
use Rattle.records.specs.declared.Body.{Body}
use Rattle.records.specs.declared.Body.TheVariants.{Certificate, Note, Accusation}
use Rattle.records.specs.declared.Record.{Record}
use Rattle.life_laws.proofs.Lists.{In, In-filter, In-from_map, In-append_cases}
use Rattle.datagram.specs.declared.Datagram.{Datagram}
use Rattle.datagram.specs.declared.Datagram.TheVariants as kinds
use Rattle.datagram.specs.declared.Datagram.TheVariants.{Ping, Pong, Summary, Records}
use Rattle.datagram.specs.Spelling.{datagram_bytes}
use Rattle.datagram.specs.Grammar.{read_of}
use Rattle.journal.specs.declared.event.Event as journal
use Rattle.journal.specs.declared.event.What as whats
use Rattle.journal.specs.declared.event.What.TheVariants as told
use Rattle.node_rules.specs.Nodes.{Setting, Node, state_of, event_of, neighbours}
use Rattle.node_rules.specs.Pages.{page, lacking}
use Rattle.node_rules.specs.Refusals.{refusal}
use Rattle.node_rules.specs.Calls.{Call, begun, tells, lives, takes, spends, signs, signs_and_sends, wants, sends, sends_to_all, stops, is_used_up, own_record, told_of}
use Rattle.node_rules.specs.Deliveries.{asked_with, gives_note, settles, judged, handles, handles_all, is_other, gives, replies, hears, delivered}
use Rattle.node_rules.specs.Lives.{is_of_life}
use Rattle.node_rules.specs.Stopping.{StopsBehind, WantsAnswer}
use Rattle.node_rules.specs.Verdicts.{all_at, told_that, is_apart, is_took, records_in, when_handled, when_all_handled, verdict_on, verdicts, is_bad_form, bad_forms, OnlyTells}
use Rattle.node_rules.specs.Answering.{is_of_signing, asked_by, answered_with, answers_told, records_told, to_each, answer_sent, answers_sent}
use Rattle.node_rules.proofs.Called.{delivered_until}
use Rattle.node_rules.proofs.Small.{node-sends_to_all, state-takes, state-signs, stored-settles}

pub nil-right : {A : Type 0} (xs : List A) → xs ++ [] ≡ xs
nil-right [] = refl
nil-right (x ∷ xs) = ap (λ ys. x ∷ ys) (nil-right xs)

-- ---- events that pass a test

-- The test passes nothing of what steps of the life report, and nothing of what is sent.
pub record IsOver (test : whats.What → Bool) : Type 0 where
  pub life : (what : whats.What) → is_of_life what ≡ true → test what ≡ false
  pub sent : (place to : ℕ) (bytes : List ℕ) → test (told.Sent place to bytes) ≡ false

abbrev pub picked : (whats.What → Bool) → ℕ → List whats.What → List journal.Event
picked test moment ws = filter (λ (e : journal.Event). test e.what) (all_at moment ws)

pub that-tells : (test : whats.What → Bool) (s : Setting) (what : whats.What) (c : Call) → told_that test (tells s what c) ≡ told_that test c ++ picked test (state_of s c.node).moment (what ∷ [])
that-tells test s what c = filter-append (λ (e : journal.Event). test e.what) c.told _

pub map-append : {X Y : Type 0} (f : X → Y) (xs ys : List X) → map f (xs ++ ys) ≡ map f xs ++ map f ys
map-append f [] ys = refl
map-append f (x ∷ xs) ys = ap (λ zs. f x ∷ zs) (map-append f xs ys)

pub picked-append : (test : whats.What → Bool) (moment : ℕ) (xs ys : List whats.What) → picked test moment (xs ++ ys) ≡ picked test moment xs ++ picked test moment ys
picked-append test moment xs ys =
    ap (filter (λ (e : journal.Event). test e.what)) (map-append _ xs ys) ∙ filter-append (λ (e : journal.Event). test e.what) (all_at moment xs) (all_at moment ys)

picked-none : (test : whats.What → Bool) (moment : ℕ) (what : whats.What) → test what ≡ false → picked test moment (what ∷ []) ≡ []
picked-none test moment what h = cc

none_of : {X : Type 0} (test : whats.What → Bool) (moment : ℕ) (f : X → whats.What) (xs : List X) → ((x : X) → test (f x) ≡ false) → picked test moment (map f xs) ≡ []
none_of test moment f [] h = refl
none_of test moment f (x ∷ xs) h = rw (h x) (none_of test moment f xs h)

both_none : (test : whats.What → Bool) (moment : ℕ) (xs ys : List whats.What) → picked test moment xs ≡ [] → picked test moment ys ≡ [] → picked test moment (xs ++ ys) ≡ []
both_none test moment xs ys h k = picked-append test moment xs ys ∙ ap (λ zs. zs ++ picked test moment ys) h ∙ k

report-none : (test : whats.What → Bool) (moment : ℕ) (r : Report) → ((what : whats.What) → is_of_life what ≡ true → test what ≡ false) → filter (λ (e : journal.Event). test e.what) (told_of moment r) ≡ []
report-none test moment r life =
    both_none test moment (map told.Expired r.expired ++ map told.Removed r.removed ++ map told.Entered r.entered) (map told.Fell r.fell)
    (both_none test moment (map told.Expired r.expired ++ map told.Removed r.removed) (map told.Entered r.entered)
    (both_none test moment (map told.Expired r.expired) (map told.Removed r.removed) (none_of test moment told.Expired r.expired (λ x. life (told.Expired x) refl)) (none_of test moment told.Removed r.removed (λ x. life (told.Removed x) refl)))
    (none_of test moment told.Entered r.entered (λ x. life (told.Entered x) refl)))
    (none_of test moment told.Fell r.fell (λ x. life (told.Fell x) refl))

-- what a step of the life reports
pub unlived : (test : whats.What → Bool) (s : Setting) (e : Event) (c : Call) → ((what : whats.What) → is_of_life what ≡ true → test what ≡ false)
    → filter (λ (x : journal.Event). test x.what) (told_of (step s.group (state_of s c.node) e).state.moment (step s.group (state_of s c.node) e).report) ≡ []
unlived test s e c life = report-none test (step s.group (state_of s c.node) e).state.moment (step s.group (state_of s c.node) e).report life

pub that-lives : (test : whats.What → Bool) (s : Setting) (e : Event) (c : Call) → IsOver test → told_that test (lives s e c) ≡ told_that test c
unfolding lives
that-lives test s e c over =
    let stepped = step s.group (state_of s c.node) e in
    filter-append (λ (x : journal.Event). test x.what) c.told (told_of stepped.state.moment stepped.report)
    ∙ ap (λ xs. told_that test c ++ xs) (unlived test s e c over.life) ∙ nil-right (told_that test c)

pub that-takes : (test : whats.What → Bool) (s : Setting) (r : Record) (c : Call) → IsOver test → told_that test (takes s r c) ≡ told_that test c
unfolding takes
that-takes test s r c over = that-lives test s (event_of s r.body) c over

pub that-sends : (test : whats.What → Bool) (s : Setting) (d : Datagram) (c : Call) (to : ℕ) → IsOver test → told_that test (sends s d c to) ≡ told_that test c
unfolding sends
that-sends test s d c to over =
    let what : whats.What = told.Sent (length c.sent) to (datagram_bytes d) in
    that-tells test s what c ∙ ap (λ xs. told_that test c ++ xs) (picked-none test (state_of s c.node).moment what (over.sent _ to _)) ∙ nil-right (told_that test c)

pub that-sends_to_all : (test : whats.What → Bool) (s : Setting) (addressees : List ℕ) (d : Datagram) (c : Call) → IsOver test → told_that test (sends_to_all s addressees d c) ≡ told_that test c
that-sends_to_all test s [] d c over = refl
that-sends_to_all test s (to ∷ addressees) d c over = that-sends_to_all test s addressees d (sends s d c to) over ∙ that-sends test s d c to over

pub that-signs : (test : whats.What → Bool) (s : Setting) (body : Body) (c : Call) → IsOver test → told_that test (signs s body c) ≡ told_that test c ++ picked test (state_of s c.node).moment (told.Spent c.node.stored.next body ∷ [])
unfolding signs
that-signs test s body c over = that-takes test s (own_record s c.node body) (spends s body c) over ∙ that-tells test s (told.Spent c.node.stored.next body) c

-- What is reported where a signature is wanted, by what the store keeps.
abbrev pub wanted : Bool → Setting → Stored → Body → whats.What
wanted works s kept body = cond (eqb kept.next s.indexes) (told.Exhausted kept.next) (cond works (told.Spent kept.next body) told.Stopped)

pub that-wants : (test : whats.What → Bool) (works : Bool) (s : Setting) (body : Body) (addressees : State → List ℕ) (c : Call) → IsOver test
    → told_that test (wants works s body addressees c) ≡ told_that test c ++ picked test (state_of s c.node).moment (wanted works s c.node.stored body ∷ [])
unfolding wants signs_and_sends
that-wants test works s body addressees c over =
    let c1 : Call = signs s body c in
    let all : List ℕ = addressees (state_of s c1.node) in
    let d : Datagram = kinds.Records s.me (own_record s c.node body ∷ []) in
    elim (cases_Bool (is_used_up s c.node)) [
      | inl up ↦ rw up (that-tells test s (told.Exhausted c.node.stored.next) c)
      | inr left ↦ elim (cases_Bool works) [
        | inl working ↦ rw (left, working) (that-sends_to_all test s all d c1 over ∙ that-signs test s body c over)
        | inr failing ↦ rw (left, failing) (that-tells test s told.Stopped c)
      ]
    ]

-- ---- what no record changes

pub moment-step : (s : Setting) (st : State) (b : Body) → (step s.group st (event_of s b)).state.moment ≡ st.moment
moment-step s st (Certificate x) = cond_both (is_member st x.member) (unchanged st) (unchanged (joined st x.member (s.places x.member))) (λ y. y.state.moment ≡ st.moment) (λ yes. refl) (λ no. refl)
moment-step s st (Note n) = by_fault (note_fault s.group.t st n)
  where
    by_fault : (f : Option Fault) → (unless_fault f st (after_note st n)).state.moment ≡ st.moment
    by_fault None = refl
    by_fault (Some f) = refl
moment-step s st (Accusation a) = by_fault (accusation_fault s.group.t st a)
  where
    by_fault : (f : Option Fault) → (unless_fault f st (unchanged (after_accusation st a))).state.moment ≡ st.moment
    by_fault None = refl
    by_fault (Some f) = refl

pub moment-takes : (s : Setting) (r : Record) (c : Call) → (state_of s (takes s r c).node).moment ≡ (state_of s c.node).moment
moment-takes s r c = ap (λ (x : State). x.moment) (state-takes s r c) ∙ moment-step s (state_of s c.node) r.body

pub moment-signs : (s : Setting) (body : Body) (c : Call) → (state_of s (signs s body c).node).moment ≡ (state_of s c.node).moment
moment-signs s body c = ap (λ (x : State). x.moment) (state-signs s body c) ∙ moment-step s (state_of s c.node) body

-- ---- the node after a wanted signature

pub node-wants : (works : Bool) (s : Setting) (body : Body) (addressees : State → List ℕ) (c : Call) → (wants works s body addressees c).node ≡ cond (is_used_up s c.node) c.node (cond works (signs s body c).node c.node)
unfolding wants signs_and_sends
node-wants works s body addressees c =
    let c1 : Call = signs s body c in
    let all : List ℕ = addressees (state_of s c1.node) in
    let d : Datagram = kinds.Records s.me (own_record s c.node body ∷ []) in
    elim (cases_Bool (is_used_up s c.node)) [
      | inl up ↦ rw up refl
      | inr left ↦ elim (cases_Bool works) [
        | inl working ↦ rw (left, working) (node-sends_to_all s all d c1)
        | inr failing ↦ rw (left, failing) refl
      ]
    ]

moment-wants : (works : Bool) (s : Setting) (body : Body) (addressees : State → List ℕ) (c : Call) → (state_of s (wants works s body addressees c).node).moment ≡ (state_of s c.node).moment
moment-wants works s body addressees c =
    let same : Node → Type 0 = λ n. (state_of s n).moment ≡ (state_of s c.node).moment in
    subst same (sym (node-wants works s body addressees c))
    (cond_both (is_used_up s c.node) c.node (cond works (signs s body c).node c.node) same (λ up. refl)
    (λ left. cond_both works (signs s body c).node c.node same (λ yes. moment-signs s body c) (λ no. refl)))

-- ---- what doesn't depend on what was reported and sent before

abbrev fresh : Call → Call
fresh c = begun c.node

node-takes : (s : Setting) (r : Record) (c : Call) → (takes s r c).node ≡ (takes s r (fresh c)).node
unfolding takes lives
node-takes s r c = refl

node-signs : (s : Setting) (body : Body) (c : Call) → (signs s body c).node ≡ (signs s body (fresh c)).node
unfolding signs takes lives
node-signs s body c = refl

node-wants_fresh : (works : Bool) (s : Setting) (body : Body) (addressees : State → List ℕ) (c : Call) → (wants works s body addressees c).node ≡ (wants works s body addressees (fresh c)).node
node-wants_fresh works s body addressees c =
    node-wants works s body addressees c ∙ ap (λ (n : Node). cond (is_used_up s c.node) c.node (cond works n c.node)) (node-signs s body c) ∙ sym (node-wants works s body addressees (fresh c))

node-gives_note : (works : Bool) (s : Setting) (note : Option NoteBody) (c : Call) → (gives_note works s note c).node ≡ (gives_note works s note (fresh c)).node
node-gives_note works s None c = refl
node-gives_note works s (Some note) c = node-wants_fresh works s (Note note) (neighbours s) c

node-settles : (s : Setting) (f : Option Fault) (r : Record) (c : Call) → (settles s f r c).node ≡ (settles s f r (fresh c)).node
node-settles s (Some f) r c = refl
node-settles s None r c =
    let what : whats.What = told.Took r.body None in
    node-takes s r (tells s what c) ∙ sym (node-takes s r (tells s what (fresh c)))

node-judged : (works : Bool) (s : Setting) (f : Option Fault) (r : Record) (c : Call) → (judged works s f r c).node ≡ (judged works s f r (fresh c)).node
node-judged works s f r c =
    let note : Option NoteBody = asked_with s c.node f r.body r in
    node-gives_note works s note (settles s f r c) ∙ ap (λ n. (gives_note works s note (begun n)).node) (node-settles s f r c) ∙ sym (node-gives_note works s note (settles s f r (fresh c)))

pub node-handles : (works : Bool) (s : Setting) (c : Call) (r : Record) → (handles works s c r).node ≡ (handles works s (fresh c) r).node
unfolding handles
node-handles works s c r = node-judged works s (refusal s c.node r) r c

-- ---- one record

-- What the note that a record asks reports, if it asks one.
abbrev pub asked : Bool → Setting → Stored → Option NoteBody → List whats.What
asked works s kept None = []
asked works s kept (Some note) = wanted works s kept (Note note) ∷ []

that-gives_note : (test : whats.What → Bool) (works : Bool) (s : Setting) (note : Option NoteBody) (c : Call) → IsOver test
    → told_that test (gives_note works s note c) ≡ told_that test c ++ picked test (state_of s c.node).moment (asked works s c.node.stored note)
that-gives_note test works s None c over = sym (nil-right (told_that test c))
that-gives_note test works s (Some note) c over = that-wants test works s (Note note) (neighbours s) c over

that-settles : (test : whats.What → Bool) (s : Setting) (f : Option Fault) (r : Record) (c : Call) → IsOver test → told_that test (settles s f r c) ≡ told_that test c ++ picked test (state_of s c.node).moment (told.Took r.body f ∷ [])
that-settles test s (Some f) r c over = that-tells test s (told.Took r.body (Some f)) c
that-settles test s None r c over = let what : whats.What = told.Took r.body None in that-takes test s r (tells s what c) over ∙ that-tells test s what c

moment-settles : (s : Setting) (f : Option Fault) (r : Record) (c : Call) → (state_of s (settles s f r c).node).moment ≡ (state_of s c.node).moment
moment-settles s (Some f) r c = refl
moment-settles s None r c = moment-takes s r (tells s (told.Took r.body None) c)

that-judged : (test : whats.What → Bool) (works : Bool) (s : Setting) (f : Option Fault) (r : Record) (c : Call) → IsOver test
    → told_that test (judged works s f r c) ≡ told_that test c ++ picked test (state_of s c.node).moment (told.Took r.body f ∷ asked works s c.node.stored (asked_with s c.node f r.body r))
that-judged test works s f r c over =
    let what : whats.What = told.Took r.body f in
    let note : Option NoteBody = asked_with s c.node f r.body r in
    let c1 : Call = settles s f r c in
    let moment : ℕ = (state_of s c.node).moment in
    let news : ℕ → Stored → List journal.Event = λ m k. picked test m (asked works s k note) in
    that-gives_note test works s note c1 over
    ∙ ap (λ xs. xs ++ news (state_of s c1.node).moment c1.node.stored) (that-settles test s f r c over)
    ∙ ap (λ m. (told_that test c ++ picked test moment (what ∷ [])) ++ news m c1.node.stored) (moment-settles s f r c)
    ∙ ap (λ k. (told_that test c ++ picked test moment (what ∷ [])) ++ news moment k) (stored-settles s f r c)
    ∙ append_assoc (told_that test c) (picked test moment (what ∷ [])) (news moment c.node.stored)
    ∙ ap (λ xs. told_that test c ++ xs) (sym (picked-append test moment (what ∷ []) (asked works s c.node.stored note)))

pub that-handles : (test : whats.What → Bool) (works : Bool) (s : Setting) (c : Call) (r : Record) → IsOver test
    → told_that test (handles works s c r) ≡ told_that test c ++ picked test (state_of s c.node).moment (verdict_on s c.node r ∷ asked works s c.node.stored (asked_by s c.node r))
unfolding handles
that-handles test works s c r over = that-judged test works s (refusal s c.node r) r c over

moment-gives_note : (works : Bool) (s : Setting) (note : Option NoteBody) (c : Call) → (state_of s (gives_note works s note c).node).moment ≡ (state_of s c.node).moment
moment-gives_note works s None c = refl
moment-gives_note works s (Some note) c = moment-wants works s (Note note) (neighbours s) c

moment-judged : (works : Bool) (s : Setting) (f : Option Fault) (r : Record) (c : Call) → (state_of s (judged works s f r c).node).moment ≡ (state_of s c.node).moment
moment-judged works s f r c = moment-gives_note works s (asked_with s c.node f r.body r) (settles s f r c) ∙ moment-settles s f r c

pub moment-handles : (works : Bool) (s : Setting) (c : Call) (r : Record) → (state_of s (handles works s c r).node).moment ≡ (state_of s c.node).moment
unfolding handles
moment-handles works s c r = moment-judged works s (refusal s c.node r) r c

-- ---- records one after another

-- The verdict on each record, and behind it what the note reports that it asks.
abbrev pub events_on : Setting → Node → List Record → List whats.What
events_on s n [] = []
events_on s n (r ∷ records) = (verdict_on s n r ∷ asked true s n.stored (asked_by s n r)) ++ events_on s (when_handled s n r) records

pub that-all : (test : whats.What → Bool) (s : Setting) (records : List Record) (c : Call) → IsOver test
    → told_that test (handles_all s records c) ≡ told_that test c ++ picked test (state_of s c.node).moment (events_on s c.node records)
that-all test s [] c over = sym (nil-right (told_that test c))
that-all test s (r ∷ records) c over =
    let c1 : Call = handles true s c r in
    let first : List whats.What = verdict_on s c.node r ∷ asked true s c.node.stored (asked_by s c.node r) in
    let moment : ℕ = (state_of s c.node).moment in
    that-all test s records c1 over
    ∙ ap (λ xs. xs ++ picked test (state_of s c1.node).moment (events_on s c1.node records)) (that-handles test true s c r over)
    ∙ ap (λ m. (told_that test c ++ picked test moment first) ++ picked test m (events_on s c1.node records)) (moment-handles true s c r)
    ∙ ap (λ n. (told_that test c ++ picked test moment first) ++ picked test moment (events_on s n records)) (node-handles true s c r)
    ∙ append_assoc (told_that test c) (picked test moment first) (picked test moment (events_on s (when_handled s c.node r) records))
    ∙ ap (λ xs. told_that test c ++ xs) (sym (picked-append test moment first (events_on s (when_handled s c.node r) records)))

-- ---- verdicts among these

took-asked : (works : Bool) (s : Setting) (moment : ℕ) (kept : Stored) (o : Option NoteBody) → picked is_took moment (asked works s kept o) ≡ []
took-asked works s moment kept None = refl
took-asked works s moment kept (Some note) =
    picked-none is_took moment (wanted works s kept (Note note))
    (cond_both (eqb kept.next s.indexes) (told.Exhausted kept.next) (cond works (told.Spent kept.next (Note note)) told.Stopped) (λ w. is_took w ≡ false) (λ up. refl)
    (λ left. cond_both works (told.Spent kept.next (Note note)) told.Stopped (λ w. is_took w ≡ false) (λ yes. refl) (λ no. refl)))

took-first : (works : Bool) (s : Setting) (moment : ℕ) (n : Node) (r : Record) → picked is_took moment (verdict_on s n r ∷ asked works s n.stored (asked_by s n r)) ≡ all_at moment (verdict_on s n r ∷ [])
took-first works s moment n r =
    picked-append is_took moment (verdict_on s n r ∷ []) (asked works s n.stored (asked_by s n r)) ∙ ap (λ xs. all_at moment (verdict_on s n r ∷ []) ++ xs) (took-asked works s moment n.stored (asked_by s n r))

took-events : (s : Setting) (moment : ℕ) (n : Node) (records : List Record) → picked is_took moment (events_on s n records) ≡ all_at moment (verdicts s n records)
took-events s moment n [] = refl
took-events s moment n (r ∷ records) =
    picked-append is_took moment (verdict_on s n r ∷ asked true s n.stored (asked_by s n r)) (events_on s (when_handled s n r) records)
    ∙ ap (λ xs. xs ++ picked is_took moment (events_on s (when_handled s n r) records)) (took-first true s moment n r)
    ∙ ap (λ xs. all_at moment (verdict_on s n r ∷ []) ++ xs) (took-events s moment (when_handled s n r) records)

took-over : IsOver is_took
took-over = record { life = λ what h. no what h; sent = λ place to bytes. refl }
  where
    no : (what : whats.What) → is_of_life what ≡ true → is_took what ≡ false
    no (told.Entered m) h = refl
    no (told.Expired a) h = refl
    no (told.Removed m) h = refl
    no (told.Fell a) h = refl
    no other h = absurd (false≢true h)

pub all-told : (s : Setting) (n : Node) (records : List Record) → told_that is_took (handles_all s records (begun n)) ≡ all_at (state_of s n).moment (verdicts s n records)
all-told s n records = that-all is_took s records (begun n) took-over ∙ took-events s (state_of s n).moment n records

verdicts-push : (s : Setting) (records : List Record) (c : Call) (r : Record) → verdicts s c.node (records ++ r ∷ []) ≡ verdicts s c.node records ++ verdict_on s (handles_all s records c).node r ∷ []
verdicts-push s [] c r = refl
verdicts-push s (x ∷ records) c r =
    let later : (handles true s c x).node ≡ when_handled s c.node x = node-handles true s c x in
    ap (λ xs. verdict_on s c.node x ∷ xs)
    (ap (λ n. verdicts s n (records ++ r ∷ [])) (sym later) ∙ verdicts-push s records (handles true s c x) r ∙ ap (λ n. verdicts s n records ++ verdict_on s (handles_all s records (handles true s c x)).node r ∷ []) later)

moment-all : (s : Setting) (records : List Record) (c : Call) → (state_of s (handles_all s records c).node).moment ≡ (state_of s c.node).moment
moment-all s [] c = refl
moment-all s (r ∷ records) c = moment-all s records (handles true s c r) ∙ moment-handles true s c r

pub until-told : (s : Setting) (n : Node) (records : List Record) (r : Record) → told_that is_took (delivered_until s n records r) ≡ all_at (state_of s n).moment (verdicts s n (records ++ r ∷ []))
unfolding delivered_until
until-told s n records r =
    let c : Call = handles_all s records (begun n) in
    let moment : ℕ = (state_of s n).moment in
    that-handles is_took false s c r took-over
    ∙ ap (λ xs. told_that is_took c ++ xs) (took-first false s (state_of s c.node).moment c.node r)
    ∙ ap (λ m. told_that is_took c ++ all_at m (verdict_on s c.node r ∷ [])) (moment-all s records (begun n))
    ∙ ap (λ xs. xs ++ all_at moment (verdict_on s c.node r ∷ [])) (all-told s n records)
    ∙ sym (map-append _ (verdicts s n records) (verdict_on s c.node r ∷ []))
    ∙ ap (all_at moment) (sym (verdicts-push s records (begun n) r))

-- ---- answers among these

sign-asked : (s : Setting) (moment : ℕ) (n : Node) (o : Option NoteBody) → picked is_of_signing moment (asked true s n.stored o) ≡ all_at moment (answered_with s n o)
sign-asked s moment n None = refl
sign-asked s moment n (Some note) =
    cond_both (eqb n.stored.next s.indexes) (told.Exhausted n.stored.next) (told.Spent n.stored.next (Note note)) (λ w. picked is_of_signing moment (w ∷ []) ≡ all_at moment (w ∷ []))
    (λ up. refl) (λ left. refl)

sign-events : (s : Setting) (moment : ℕ) (n : Node) (records : List Record) → picked is_of_signing moment (events_on s n records) ≡ all_at moment (answers_told s n records)
sign-events s moment n [] = refl
sign-events s moment n (r ∷ records) =
    let later : Node = when_handled s n r in
    picked-append is_of_signing moment (verdict_on s n r ∷ asked true s n.stored (asked_by s n r)) (events_on s later records)
    ∙ ap (λ xs. xs ++ picked is_of_signing moment (events_on s later records)) (sign-asked s moment n (asked_by s n r))
    ∙ ap (λ xs. all_at moment (answered_with s n (asked_by s n r)) ++ xs) (sign-events s moment later records)
    ∙ sym (map-append _ (answered_with s n (asked_by s n r)) (answers_told s later records))

bad-asked : (s : Setting) (moment : ℕ) (kept : Stored) (o : Option NoteBody) → picked is_bad_form moment (asked true s kept o) ≡ []
bad-asked s moment kept None = refl
bad-asked s moment kept (Some note) =
    cond_both (eqb kept.next s.indexes) (told.Exhausted kept.next) (told.Spent kept.next (Note note)) (λ w. picked is_bad_form moment (w ∷ []) ≡ []) (λ up. refl) (λ left. refl)

bad-events : (s : Setting) (moment : ℕ) (n : Node) (records : List Record) → picked is_bad_form moment (events_on s n records) ≡ []
bad-events s moment n [] = refl
bad-events s moment n (r ∷ records) =
    let later : Node = when_handled s n r in
    picked-append is_bad_form moment (verdict_on s n r ∷ asked true s n.stored (asked_by s n r)) (events_on s later records)
    ∙ ap (λ xs. xs ++ picked is_bad_form moment (events_on s later records)) (bad-asked s moment n.stored (asked_by s n r))
    ∙ bad-events s moment later records

-- ---- deliveries of other datagrams

-- The test passes nothing of what is reported of pings, pongs and summaries.
record IsOfRecords (test : whats.What → Bool) : Type 0 where
  over : IsOver test
  ping : (from nonce : ℕ) → test (told.Ping from nonce) ≡ false
  pong : (from nonce : ℕ) (counted : Bool) → test (told.Pong from nonce counted) ≡ false
  summary : (from number : ℕ) (flag : Bool) → test (told.Summary from number flag) ≡ false

quiet : (test : whats.What → Bool) (s : Setting) (what : whats.What) (c : Call) → test what ≡ false → told_that test (tells s what c) ≡ told_that test c
quiet test s what c h = that-tells test s what c ∙ ap (λ xs. told_that test c ++ xs) (picked-none test (state_of s c.node).moment what h) ∙ nil-right (told_that test c)

that-gives : (test : whats.What → Bool) (s : Setting) (to : ℕ) (records : List Record) (c : Call) → IsOver test → told_that test (gives s to records c) ≡ told_that test c
that-gives test s to [] c over = refl
that-gives test s to (r ∷ records) c over = that-sends test s (kinds.Records s.me (r ∷ records)) c to over

that-replies : (test : whats.What → Bool) (s : Setting) (to : ℕ) (flag : Bool) (number : ℕ) (c : Call) → IsOver test → told_that test (replies s to flag number c) ≡ told_that test c
that-replies test s to true number c over = refl
that-replies test s to false number c over = that-sends test s (kinds.Summary s.me true (page c.node number)) c to over

none-told : (test : whats.What → Bool) (s : Setting) (d : Datagram) (n : Node) → IsOfRecords test → told_that test (hears s (Ok d) (begun n)) ≡ told_that test (handles_all s (records_in (Ok d)) (begun n))
none-told test s (kinds.Ping from nonce) n of =
    let c : Call = begun n in
    let c1 : Call = tells s (told.Ping from nonce) c in
    let h1 : told_that test c1 ≡ [] = quiet test s (told.Ping from nonce) c (of.ping from nonce) in
    cond_both (is_other s n from) (sends s (kinds.Pong s.me nonce) c1 from) c1 (λ x. told_that test x ≡ []) (λ yes. that-sends test s (kinds.Pong s.me nonce) c1 from of.over ∙ h1) (λ no. h1)
none-told test s (kinds.Pong from nonce) n of = quiet test s (told.Pong from nonce _) (begun n) (of.pong from nonce _)
none-told test s (kinds.Summary from flag theirs) n of =
    let c : Call = begun n in
    let c1 : Call = tells s (told.Summary from theirs.page flag) c in
    let h1 : told_that test c1 ≡ [] = quiet test s (told.Summary from theirs.page flag) c (of.summary from theirs.page flag) in
    let c2 : Call = gives s from (lacking n from theirs) c1 in
    cond_both (is_other s n from) (replies s from flag theirs.page c2) c1 (λ x. told_that test x ≡ [])
    (λ yes. that-replies test s from flag theirs.page c2 of.over ∙ that-gives test s from (lacking n from theirs) c1 of.over ∙ h1)
    (λ no. h1)
none-told test s (kinds.Records from records) n of = refl

pub over-by : (test : whats.What → Bool) → ((m : ℕ) → test (told.Entered m) ≡ false) → ((m : ℕ) → test (told.Removed m) ≡ false) → ((a : AccBody) → test (told.Expired a) ≡ false) → ((a : AccBody) → test (told.Fell a) ≡ false)
    → ((place to : ℕ) (bytes : List ℕ) → test (told.Sent place to bytes) ≡ false) → IsOver test
over-by test entered removed expired fell sent = record { life = no; sent = sent }
  where
    no : (what : whats.What) → is_of_life what ≡ true → test what ≡ false
    no (told.Entered m) h = entered m
    no (told.Expired a) h = expired a
    no (told.Removed m) h = removed m
    no (told.Fell a) h = fell a
    no other h = absurd (false≢true h)

pub sign-over : IsOver is_of_signing
sign-over = over-by is_of_signing (λ m. refl) (λ m. refl) (λ a. refl) (λ a. refl) (λ place to bytes. refl)

bad-over : IsOver is_bad_form
bad-over = over-by is_bad_form (λ m. refl) (λ m. refl) (λ a. refl) (λ a. refl) (λ place to bytes. refl)

of_records : (test : whats.What → Bool) → IsOver test → ((from nonce : ℕ) → test (told.Ping from nonce) ≡ false) → ((from nonce : ℕ) (counted : Bool) → test (told.Pong from nonce counted) ≡ false)
    → ((from number : ℕ) (flag : Bool) → test (told.Summary from number flag) ≡ false) → IsOfRecords test
of_records test over ping pong summary = record { over = over; ping = ping; pong = pong; summary = summary }

took-heard : (s : Setting) (n : Node) (d : Result Datagram ℕ) → told_that is_took (hears s d (begun n)) ≡ all_at (state_of s n).moment (verdicts s n (records_in d))
took-heard s n (Err place) = refl
took-heard s n (Ok d) = none-told is_took s d n (of_records is_took took-over (λ from nonce. refl) (λ from nonce counted. refl) (λ from number flag. refl)) ∙ all-told s n (records_in (Ok d))

pub took-delivered : (s : Setting) (n : Node) (bytes : List ℕ) → told_that is_took (delivered s n bytes) ≡ all_at (state_of s n).moment (verdicts s n (records_in (read_of bytes)))
unfolding delivered
took-delivered s n bytes = took-heard s n (read_of bytes)

sign-heard : (s : Setting) (n : Node) (d : Result Datagram ℕ) → told_that is_of_signing (hears s d (begun n)) ≡ all_at (state_of s n).moment (answers_told s n (records_in d))
sign-heard s n (Err place) = refl
sign-heard s n (Ok d) =
    none-told is_of_signing s d n (of_records is_of_signing sign-over (λ from nonce. refl) (λ from nonce counted. refl) (λ from number flag. refl))
    ∙ that-all is_of_signing s (records_in (Ok d)) (begun n) sign-over ∙ sign-events s (state_of s n).moment n (records_in (Ok d))

pub sign-delivered : (s : Setting) (n : Node) (bytes : List ℕ) → told_that is_of_signing (delivered s n bytes) ≡ all_at (state_of s n).moment (answers_told s n (records_in (read_of bytes)))
unfolding delivered
sign-delivered s n bytes = sign-heard s n (read_of bytes)

bad-heard : (s : Setting) (n : Node) (d : Result Datagram ℕ) → told_that is_bad_form (hears s d (begun n)) ≡ all_at (state_of s n).moment (bad_forms d)
bad-heard s n (Err place) = refl
bad-heard s n (Ok d) =
    none-told is_bad_form s d n (of_records is_bad_form bad-over (λ from nonce. refl) (λ from nonce counted. refl) (λ from number flag. refl))
    ∙ that-all is_bad_form s (records_in (Ok d)) (begun n) bad-over ∙ bad-events s (state_of s n).moment n (records_in (Ok d))

pub bad-delivered : (s : Setting) (n : Node) (bytes : List ℕ) → told_that is_bad_form (delivered s n bytes) ≡ all_at (state_of s n).moment (bad_forms (read_of bytes))
unfolding delivered
bad-delivered s n bytes = bad-heard s n (read_of bytes)

pub unread : (s : Setting) (n : Node) (bytes : List ℕ) (place : ℕ) → read_of bytes ≡ Err place → OnlyTells s n (told.BadForm place) (delivered s n bytes)
unfolding delivered
unread s n bytes place h = rw h (record { told = refl; sent = refl; node = refl })

-- ---- what goes out

sent-takes : (s : Setting) (r : Record) (c : Call) → (takes s r c).sent ≡ c.sent
unfolding takes lives
sent-takes s r c = refl

sent-signs : (s : Setting) (body : Body) (c : Call) → (signs s body c).sent ≡ c.sent
unfolding signs takes lives
sent-signs s body c = refl

pub sent-sends_to_all : (s : Setting) (addressees : List ℕ) (d : Datagram) (c : Call) → (sends_to_all s addressees d c).sent ≡ c.sent ++ to_each addressees d
unfolding sends
sent-sends_to_all s [] d c = sym (nil-right c.sent)
sent-sends_to_all s (to ∷ addressees) d c = sent-sends_to_all s addressees d (sends s d c to) ∙ append_assoc c.sent ((to, datagram_bytes d) ∷ []) (to_each addressees d)

-- by what the store keeps
abbrev pub own_record_by : Setting → Stored → Body → Record
own_record_by s kept body = record { body = body; signature = s.signature kept.next body }

pub sent-wants : (s : Setting) (body : Body) (addressees : State → List ℕ) (c : Call)
    → (wants true s body addressees c).sent ≡ c.sent ++ cond (eqb c.node.stored.next s.indexes) [] (to_each (addressees (state_of s (wants true s body addressees c).node)) (kinds.Records s.me (own_record_by s c.node.stored body ∷ [])))
unfolding wants signs_and_sends
sent-wants s body addressees c =
    let c1 : Call = signs s body c in
    let all : List ℕ = addressees (state_of s c1.node) in
    let d : Datagram = kinds.Records s.me (own_record_by s c.node.stored body ∷ []) in
    elim (cases_Bool (is_used_up s c.node)) [
      | inl up ↦ rw up (sym (nil-right c.sent))
      | inr left ↦
          rw left
          (sent-sends_to_all s all d c1 ∙ ap (λ xs. xs ++ to_each all d) (sent-signs s body c)
          ∙ ap (λ n. c.sent ++ to_each (addressees (state_of s n)) d) (sym (node-sends_to_all s all d c1)))
    ]

-- by what the store keeps, and the node afterwards
abbrev out_by : Setting → Stored → Node → Option NoteBody → List (ℕ × List ℕ)
out_by s kept later None = []
out_by s kept later (Some note) = cond (eqb kept.next s.indexes) [] (to_each (neighbours s (state_of s later)) (kinds.Records s.me (own_record_by s kept (Note note) ∷ [])))

sent-gives_note : (s : Setting) (note : Option NoteBody) (c : Call) → (gives_note true s note c).sent ≡ c.sent ++ out_by s c.node.stored (gives_note true s note c).node note
sent-gives_note s None c = sym (nil-right c.sent)
sent-gives_note s (Some note) c = sent-wants s (Note note) (neighbours s) c

sent-settles : (s : Setting) (f : Option Fault) (r : Record) (c : Call) → (settles s f r c).sent ≡ c.sent
sent-settles s (Some f) r c = refl
sent-settles s None r c = sent-takes s r (tells s (told.Took r.body None) c)

sent-judged : (s : Setting) (f : Option Fault) (r : Record) (c : Call) → (judged true s f r c).sent ≡ c.sent ++ out_by s c.node.stored (judged true s f r c).node (asked_with s c.node f r.body r)
sent-judged s f r c =
    let note : Option NoteBody = asked_with s c.node f r.body r in
    let c1 : Call = settles s f r c in
    let later : Node = (gives_note true s note c1).node in
    sent-gives_note s note c1 ∙ ap (λ xs. xs ++ out_by s c1.node.stored later note) (sent-settles s f r c) ∙ ap (λ k. c.sent ++ out_by s k later note) (stored-settles s f r c)

out-is : (s : Setting) (n later : Node) (o : Option NoteBody) → out_by s n.stored later o ≡ answer_sent s n later o
out-is s n later None = refl
out-is s n later (Some note) = refl

pub sent-handles : (s : Setting) (c : Call) (r : Record) → (handles true s c r).sent ≡ c.sent ++ answer_sent s c.node (when_handled s c.node r) (asked_by s c.node r)
unfolding handles
sent-handles s c r =
    sent-judged s (refusal s c.node r) r c
    ∙ ap (λ n. c.sent ++ out_by s c.node.stored n (asked_by s c.node r)) (node-judged true s (refusal s c.node r) r c)
    ∙ ap (λ xs. c.sent ++ xs) (out-is s c.node _ (asked_by s c.node r))

sent-all : (s : Setting) (records : List Record) (c : Call) → (handles_all s records c).sent ≡ c.sent ++ answers_sent s c.node records
sent-all s [] c = sym (nil-right c.sent)
sent-all s (r ∷ records) c =
    let first : List (ℕ × List ℕ) = answer_sent s c.node (when_handled s c.node r) (asked_by s c.node r) in
    sent-all s records (handles true s c r) ∙ ap (λ xs. xs ++ answers_sent s (handles true s c r).node records) (sent-handles s c r)
    ∙ ap (λ n. (c.sent ++ first) ++ answers_sent s n records) (node-handles true s c r) ∙ append_assoc c.sent first (answers_sent s (when_handled s c.node r) records)

pub sent-delivered : (s : Setting) (n : Node) (bytes : List ℕ) (from : ℕ) (records : List Record) → read_of bytes ≡ Ok (kinds.Records from records) → (delivered s n bytes).sent ≡ answers_sent s n records
unfolding delivered
sent-delivered s n bytes from records h = rw h (sent-all s records (begun n))

-- ---- verdicts and answers together

pub all_at-append : (moment : ℕ) (xs ys : List whats.What) → all_at moment (xs ++ ys) ≡ all_at moment xs ++ all_at moment ys
all_at-append moment xs ys = map-append (λ (what : whats.What). record { moment = moment; what = what }) xs ys

pub apart-over : IsOver is_apart
apart-over = over-by is_apart (λ m. refl) (λ m. refl) (λ a. refl) (λ a. refl) (λ place to bytes. refl)

apart-asked : (s : Setting) (moment : ℕ) (n : Node) (o : Option NoteBody) → picked is_apart moment (asked true s n.stored o) ≡ all_at moment (answered_with s n o)
apart-asked s moment n None = refl
apart-asked s moment n (Some note) =
    cond_both (eqb n.stored.next s.indexes) (told.Exhausted n.stored.next) (told.Spent n.stored.next (Note note)) (λ w. picked is_apart moment (w ∷ []) ≡ all_at moment (w ∷ []))
    (λ up. refl) (λ left. refl)

apart-events : (s : Setting) (moment : ℕ) (n : Node) (records : List Record) → picked is_apart moment (events_on s n records) ≡ all_at moment (records_told s n records)
apart-events s moment n [] = refl
apart-events s moment n (r ∷ records) =
    let later : Node = when_handled s n r in
    let answer : List whats.What = answered_with s n (asked_by s n r) in
    picked-append is_apart moment (verdict_on s n r ∷ asked true s n.stored (asked_by s n r)) (events_on s later records)
    ∙ ap (λ xs. (record { moment = moment; what = verdict_on s n r } ∷ xs) ++ picked is_apart moment (events_on s later records)) (apart-asked s moment n (asked_by s n r))
    ∙ ap (λ xs. all_at moment (verdict_on s n r ∷ answer) ++ xs) (apart-events s moment later records)
    ∙ sym (all_at-append moment (verdict_on s n r ∷ answer) (records_told s later records))

records-handled : (s : Setting) (n : Node) (records : List Record) → told_that is_apart (handles_all s records (begun n)) ≡ all_at (state_of s n).moment (records_told s n records)
records-handled s n records = that-all is_apart s records (begun n) apart-over ∙ apart-events s (state_of s n).moment n records

pub records-delivered : (s : Setting) (n : Node) (bytes : List ℕ) (from : ℕ) (records : List Record) → read_of bytes ≡ Ok (kinds.Records from records)
    → told_that is_apart (delivered s n bytes) ≡ all_at (state_of s n).moment (records_told s n records)
unfolding delivered
records-delivered s n bytes from records h = rw h (records-handled s n records)

-- ---- a delivery in which the disk fails

pub node-all : (s : Setting) (records : List Record) (c : Call) → (handles_all s records c).node ≡ when_all_handled s c.node records
node-all s [] c = refl
node-all s (r ∷ records) c = node-all s records (handles true s c r) ∙ ap (λ n. when_all_handled s n records) (node-handles true s c r)

-- an answer that is wanted ends the call where the disk fails
pub wants-failing : (s : Setting) (body : Body) (addressees : State → List ℕ) (c : Call) → is_used_up s c.node ≡ false → wants false s body addressees c ≡ stops s c
unfolding wants
wants-failing s body addressees c left = rw left refl

-- The call has ended, and has sent what another had sent.
record EndsLike (c d : Call) : Type 0 where
  over : d.ended ≡ true
  sent : d.sent ≡ c.sent

ends-gives_note : (s : Setting) (note : NoteBody) (c : Call) → is_used_up s c.node ≡ false → EndsLike c (gives_note false s (Some note) c)
ends-gives_note s note c left = rw (wants-failing s (Note note) (neighbours s) c left) (record { over = refl; sent = refl })

ends-judged : (s : Setting) (f : Option Fault) (r : Record) (c : Call) (note : NoteBody) → asked_with s c.node f r.body r ≡ Some note → is_used_up s c.node ≡ false → EndsLike c (judged false s f r c)
ends-judged s f r c note h left =
    let c1 : Call = settles s f r c in
    let e = ends-gives_note s note c1 (ap (λ (k : Stored). eqb k.next s.indexes) (stored-settles s f r c) ∙ left) in
    subst (λ o. EndsLike c (gives_note false s o c1)) (sym h) (record { over = e.over; sent = e.sent ∙ sent-settles s f r c })

ends-handles : (s : Setting) (c : Call) (r : Record) → WantsAnswer s c.node r → EndsLike c (handles false s c r)
unfolding handles
ends-handles s c r w = ends-judged s (refusal s c.node r) r c w.note w.asked w.left

-- what is reported then
failing-asked : (s : Setting) (n : Node) (r : Record) → WantsAnswer s n r → asked false s n.stored (asked_by s n r) ≡ told.Stopped ∷ []
failing-asked s n r w = ap (asked false s n.stored) w.asked ∙ ap (λ (b : Bool). cond b (told.Exhausted n.stored.next) told.Stopped ∷ []) w.left

pub delivery-ends : (s : Setting) (n : Node) (records : List Record) (r : Record) → WantsAnswer s (when_all_handled s n records) r
    → StopsBehind (state_of s n).moment (records_told s n records ++ verdict_on s (when_all_handled s n records) r ∷ []) (answers_sent s n records) (delivered_until s n records r)
unfolding delivered_until
delivery-ends s n records r wanted_later =
    let c : Call = handles_all s records (begun n) in
    let moment : ℕ = (state_of s n).moment in
    let here : c.node ≡ when_all_handled s n records = node-all s records (begun n) in
    let w : WantsAnswer s c.node r = subst (λ x. WantsAnswer s x r) (sym here) wanted_later in
    let e : EndsLike c (handles false s c r) = ends-handles s c r w in
    let front : List whats.What = records_told s n records in
    let verdict : Node → List whats.What = λ x. verdict_on s x r ∷ [] in
    record {
      told = that-handles is_apart false s c r apart-over
          ∙ ap (λ xs. told_that is_apart c ++ picked is_apart (state_of s c.node).moment (verdict_on s c.node r ∷ xs)) (failing-asked s c.node r w)
          ∙ ap (λ m. told_that is_apart c ++ all_at m (verdict c.node ++ told.Stopped ∷ [])) (moment-all s records (begun n))
          ∙ ap (λ xs. xs ++ all_at moment (verdict c.node ++ told.Stopped ∷ [])) (records-handled s n records)
          ∙ sym (all_at-append moment front (verdict c.node ++ told.Stopped ∷ []))
          ∙ ap (all_at moment) (sym (append_assoc front (verdict c.node) (told.Stopped ∷ [])))
          ∙ ap (λ x. all_at moment ((front ++ verdict x) ++ told.Stopped ∷ [])) here;
      sent_so = e.sent ∙ sent-all s records (begun n);
      over = e.over;
    }

-- ---- what is spent in deliveries

in-answered : (s : Setting) (n : Node) (o : Option NoteBody) (index : ℕ) (a : AccBody) → In (answered_with s n o) (told.Spent index (Accusation a)) → ⊥
in-answered s n None index a i = i
in-answered s n (Some x) index a i =
    elim i [ inl e ↦ by_case (eqb n.stored.next s.indexes) e | inr none ↦ none ]
  where
    by_case : (b : Bool) → cond b (told.Exhausted n.stored.next) (told.Spent n.stored.next (Note x)) ≡ told.Spent index (Accusation a) → ⊥
    by_case true e = cc
    by_case false e = cc

in-answers : (s : Setting) (n : Node) (records : List Record) (index : ℕ) (a : AccBody) → In (answers_told s n records) (told.Spent index (Accusation a)) → ⊥
in-answers s n [] index a i = i
in-answers s n (r ∷ records) index a i =
    elim (In-append_cases (answered_with s n (asked_by s n r)) (answers_told s (when_handled s n r) records) (told.Spent index (Accusation a)) i) [
      | inl j ↦ in-answered s n (asked_by s n r) index a j
      | inr j ↦ in-answers s (when_handled s n r) records index a j
    ]

-- an event among those at a moment
pub in-all_at : (moment at : ℕ) (ws : List whats.What) (what : whats.What) → In (all_at moment ws) (record { moment = at; what = what }) → In ws what
in-all_at moment at ws what i =
    let w = In-from_map (λ (w : whats.What). record { moment = moment; what = w }) ws (record { moment = at; what = what }) i in
    subst (In ws) (ap (λ (e : journal.Event). e.what) w.1.1) w.1.0

pub accuses-nobody : (s : Setting) (n : Node) (bytes : List ℕ) (moment index : ℕ) (a : AccBody) → In (delivered s n bytes).told (record { moment = moment; what = told.Spent index (Accusation a) }) → ⊥
accuses-nobody s n bytes moment index a i =
    let e : journal.Event = record { moment = moment; what = told.Spent index (Accusation a) } in
    let j : In (told_that is_of_signing (delivered s n bytes)) e = In-filter (λ (x : journal.Event). is_of_signing x.what) (delivered s n bytes).told e i refl in
    let ws : List whats.What = answers_told s n (records_in (read_of bytes)) in
    in-answers s n (records_in (read_of bytes)) index a
    (in-all_at (state_of s n).moment moment ws (told.Spent index (Accusation a)) (subst (λ xs. In xs e) (sign-delivered s n bytes) j))
