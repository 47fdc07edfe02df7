-- Which record an accusation or a leaving note in a life has come of.
use Rattle.std.proofs.Common.{◌≡◌, ◌⊎◌, ℕ, ◌+◌, ◌≤◌, zero, suc, Bool, true, false, eqb, cond, List, [], ◌∷◌, ◌++◌, length, Option, Some, None, inl, inr, refl, ap, sym, ◌∙◌, subst, take, arith}
use Rattle.std.specs.Prelude.{Result, Ok, Err}
use Rattle.std.specs.List.{slice_get}
use Rattle.std.proofs.lemmas.Bool.{cases_Bool, cond_both}
use Rattle.std.proofs.lemmas.List.{append_assoc}
use Rattle.ff_ids.specs.declared.AccBody.{AccBody}
use Rattle.ff_ids.specs.declared.Fault.{Fault}
use Rattle.ff_ids.specs.declared.NoteBody.{NoteBody}
use Rattle.ff_ids.specs.Views.{State}
use Rattle.ff_ids.specs.Steps.{Event, Notes, Accuses, Ticks as Passes, step}
use Rattle.life_laws.proofs.Lists.{In, In-append_left, In-append_right, In-filter, In-from_filter}
use Rattle.records.specs.declared.Body.{Body}
use Rattle.records.specs.declared.Body.TheVariants.{Certificate, Note, Accusation}
use Rattle.records.specs.declared.Record.{Record}
use Rattle.datagram.specs.declared.Datagram.{Datagram}
use Rattle.datagram.specs.declared.Datagram.TheVariants as kinds
use Rattle.datagram.specs.Grammar.{read_of}
use Rattle.journal.specs.declared.event.Event as journal
use Rattle.journal.specs.declared.event.What as whats
use Rattle.journal.specs.declared.event.What.TheVariants as told
use Rattle.node_rules.specs.Nodes.{Setting, Node, event_of, neighbours, state_of}
use Rattle.node_rules.specs.Refusals.{refusal}
use Rattle.node_rules.specs.Calls.{Call, begun, tells, lives, takes, spends, signs, sends, stops, told_of, wants, is_used_up}
use Rattle.node_rules.specs.Deliveries.{asked_with, gives_note, settles, judged, handles, handles_all, hears, delivered}
use Rattle.node_rules.specs.Ticking.{ticked}
use Rattle.node_rules.specs.Leaving.{leaving, leaving_note, leaves, left}
use Rattle.node_rules.specs.Lives.{Input, Delivers, Ticks, Leaves}
use Rattle.node_rules.specs.Verdicts.{all_at, is_apart, told_that, when_all_handled}
use Rattle.node_rules.specs.Outgoing.{accusing_told, at_tick, to_accuse}
use Rattle.node_rules.specs.Answering.{asked_by}
use Rattle.node_rules.specs.Gaining.{accepted_event, leaving_event}
use Rattle.node_rules.proofs.Handling.{in-all_at, nil-right, node-wants, node-handles, unread}
use Rattle.node_rules.proofs.Ticks.{tick-tells}
use Rattle.node_rules.proofs.Leaving.{leaving-lived, leaving-tells}
use Rattle.node_rules.proofs.Sendings.{ping-brings, pong-brings, summary-brings}
use Rattle.world_rules.specs.Disks.{Disk}
use Rattle.world_rules.specs.Calls.{called_on}
use Rattle.node_rules.proofs.Called.{ComesSoFar, delivered_until, left_until}
use Rattle.world_rules.proofs.SoFar.{so_far}
use Rattle.world_laws.proofs.Handing.{Hands, hands-so_far, joined}
use Rattle.world_laws.proofs.InCalls.{IsOwnBody}
use Rattle.world_laws.proofs.Signed.{IsStatement}
use Rattle.world_laws.proofs.Stopped.{split-at, within-whole}

-- ---- places in lists

pub record IsBehind {X : Type 0} (xs ys : List X) (place : ℕ) (x : X) : Type 0 where
  pub more : ℕ
  pub is : place ≡ length xs + more
  pub found : slice_get ys more ≡ Some x

pub at-append : {X : Type 0} (xs ys : List X) (place : ℕ) (x : X) → slice_get (xs ++ ys) place ≡ Some x → (slice_get xs place ≡ Some x) ⊎ IsBehind xs ys place x
at-append [] ys place x e = inr (record { more = place; is = omega arith; found = e })
at-append (y ∷ xs) ys zero x e = inl e
at-append (y ∷ xs) ys (suc place) x e =
    elim (at-append xs ys place x e) [
      | inl old ↦ inl old
      | inr new ↦ inr (record { more = new.more; is = omega (arith, new.is); found = new.found })
    ]

-- ---- what one record brings

-- No note that a record asks of the node brings the event.
abbrev pub IsNoAnswer : Setting → Event → Node → Type 0
IsNoAnswer s e n = (r : Record) (note : NoteBody) → asked_by s n r ≡ Some note → Notes note ≡ e → ⊥

-- It is the first of what comes in, and the record's body, which has no fault.
record IsFirst (s : Setting) (n : Node) (r : Record) (place : ℕ) (e : Event) : Type 0 where
  first : place ≡ 0
  says : event_of s r.body ≡ e
  no_fault : refusal s n r ≡ None

-- What comes into the life, in which the event is only as the record's.
record Brings (s : Setting) (n : Node) (r : Record) (e : Event) (next : Node) : Type 0 where
  more : List Event
  grew : next.lived ≡ n.lived ++ more
  only : (place : ℕ) → slice_get more place ≡ Some e → IsFirst s n r place e

some-is : {X : Type 0} (x y : X) → Some x ≡ Some y → x ≡ y
some-is x y e = cc

one-first : (s : Setting) (n : Node) (r : Record) (e : Event) (f : Option Fault) → refusal s n r ≡ f → (place : ℕ) → slice_get (accepted_event s f r.body) place ≡ Some e → IsFirst s n r place e
one-first s n r e None fine zero h = record { first = refl; says = some-is _ _ h; no_fault = fine }
one-first s n r e None fine (suc place) h = cc
one-first s n r e (Some fault) fine place h = cc

two-first : (s : Setting) (n : Node) (r : Record) (e x : Event) (f : Option Fault) → (x ≡ e → ⊥) → refusal s n r ≡ f → (place : ℕ) → slice_get (accepted_event s f r.body ++ x ∷ []) place ≡ Some e → IsFirst s n r place e
two-first s n r e x None other fine zero h = record { first = refl; says = some-is _ _ h; no_fault = fine }
two-first s n r e x None other fine (suc zero) h = absurd (other (some-is _ _ h))
two-first s n r e x None other fine (suc (suc place)) h = cc
two-first s n r e x (Some fault) other fine zero h = absurd (other (some-is _ _ h))
two-first s n r e x (Some fault) other fine (suc place) h = cc

brings-one : (s : Setting) (n : Node) (r : Record) (e : Event) (f : Option Fault) (next : Node) → refusal s n r ≡ f → next.lived ≡ n.lived ++ accepted_event s f r.body → Brings s n r e next
brings-one s n r e f next fine lived = record { more = accepted_event s f r.body; grew = lived; only = one-first s n r e f fine }

brings-two : (s : Setting) (n : Node) (r : Record) (e : Event) (f : Option Fault) (next : Node) (x : Event) → (x ≡ e → ⊥) → refusal s n r ≡ f → next.lived ≡ (n.lived ++ accepted_event s f r.body) ++ x ∷ [] → Brings s n r e next
brings-two s n r e f next x other fine lived =
    record { more = accepted_event s f r.body ++ x ∷ []; grew = lived ∙ append_assoc n.lived (accepted_event s f r.body) (x ∷ []); only = two-first s n r e x f other fine }

pub lived-takes : (s : Setting) (r : Record) (c : Call) → (takes s r c).node.lived ≡ c.node.lived ++ event_of s r.body ∷ []
unfolding takes lives
lived-takes s r c = refl

pub lived-signs : (s : Setting) (b : Body) (c : Call) → (signs s b c).node.lived ≡ c.node.lived ++ event_of s b ∷ []
unfolding signs takes lives
lived-signs s b c = refl

brings-gives_note : (works : Bool) (s : Setting) (n : Node) (r : Record) (e : Event) (f : Option Fault) (o : Option NoteBody) (c : Call) → ((note : NoteBody) → o ≡ Some note → Notes note ≡ e → ⊥) → refusal s n r ≡ f
    → c.node.lived ≡ n.lived ++ accepted_event s f r.body → Brings s n r e (gives_note works s o c).node
brings-gives_note works s n r e f None c other fine lived = brings-one s n r e f c.node fine lived
brings-gives_note works s n r e f (Some note) c other fine lived =
    let body : Body = Note note in
    let one : Brings s n r e c.node = brings-one s n r e f c.node fine lived in
    let signed : Node = (signs s body c).node in
    subst (Brings s n r e) (sym (node-wants works s body (neighbours s) c))
    (cond_both {A = Node} (is_used_up s c.node) c.node (cond works signed c.node) (Brings s n r e) (λ up. one)
    (λ left. cond_both {A = Node} works signed c.node (Brings s n r e)
    (λ yes. brings-two s n r e f signed (Notes note) (other note refl) fine (lived-signs s body c ∙ ap (λ xs. xs ++ event_of s body ∷ []) lived))
    (λ no. one)))

lived-settles : (s : Setting) (f : Option Fault) (r : Record) (c : Call) → (settles s f r c).node.lived ≡ c.node.lived ++ accepted_event s f r.body
lived-settles s (Some fault) r c = sym (nil-right c.node.lived)
lived-settles s None r c = lived-takes s r (tells s (told.Took r.body None) c)

brings-judged : (works : Bool) (s : Setting) (e : Event) (f : Option Fault) (r : Record) (c : Call) → ((note : NoteBody) → asked_with s c.node f r.body r ≡ Some note → Notes note ≡ e → ⊥) → refusal s c.node r ≡ f → Brings s c.node r e (judged works s f r c).node
brings-judged works s e f r c other is = brings-gives_note works s c.node r e f (asked_with s c.node f r.body r) (settles s f r c) other is (lived-settles s f r c)

brings-handles : (works : Bool) (s : Setting) (e : Event) (c : Call) (r : Record) → IsNoAnswer s e c.node → Brings s c.node r e (handles works s c r).node
unfolding handles
brings-handles works s e c r other = brings-judged works s e (refusal s c.node r) r c (other r) refl

-- ---- what the records of a datagram bring

-- The event at this place has come of one of these records, which had no fault behind those before it.
pub record ComesOfOne (s : Setting) (c : Call) (records : List Record) (place : ℕ) (e : Event) : Type 0 where
  pub earlier : List Record
  pub taken : Record
  pub later : List Record
  pub among : records ≡ earlier ++ taken ∷ later
  pub says : event_of s taken.body ≡ e
  pub at : length (handles_all s earlier c).node.lived ≡ place
  pub no_fault : refusal s (handles_all s earlier c).node taken ≡ None

-- Behind whatever records, no note that is asked brings the event.
abbrev pub NoneAnswers : Setting → Event → Call → Type 0
NoneAnswers s e c = (earlier : List Record) → IsNoAnswer s e (handles_all s earlier c).node

of-last : (works : Bool) (s : Setting) (e : Event) (c : Call) (r : Record) (later : List Record) (place : ℕ) → IsNoAnswer s e c.node → slice_get (handles works s c r).node.lived place ≡ Some e → (slice_get c.node.lived place ≡ Some e) ⊎ ComesOfOne s c (r ∷ later) place e
of-last works s e c r later place other h =
    let g : Brings s c.node r e (handles works s c r).node = brings-handles works s e c r other in
    elim (at-append c.node.lived g.more place e (sym (ap (λ xs. slice_get xs place) g.grew) ∙ h)) [
      | inl old ↦ inl old
      | inr new ↦
          let first : IsFirst s c.node r new.more e = g.only new.more new.found in
          inr (record { earlier = []; taken = r; later = later; among = refl; says = first.says; at = omega (arith, new.is, first.first); no_fault = first.no_fault })
    ]

of-all : (s : Setting) (e : Event) (records : List Record) (c : Call) (place : ℕ) → NoneAnswers s e c → slice_get (handles_all s records c).node.lived place ≡ Some e → (slice_get c.node.lived place ≡ Some e) ⊎ ComesOfOne s c records place e
of-all s e [] c place other h = inl h
of-all s e (r ∷ records) c place other h =
    elim (of-all s e records (handles true s c r) place (λ earlier. other (r ∷ earlier)) h) [
      | inl old ↦ of-last true s e c r records place (other []) old
      | inr one ↦ inr (record { earlier = r ∷ one.earlier; taken = one.taken; later = one.later; among = ap (λ xs. r ∷ xs) one.among; says = one.says; at = one.at; no_fault = one.no_fault })
    ]

behind-these : (s : Setting) (front rest : List Record) (c : Call) (place : ℕ) (e : Event) → ComesOfOne s (handles_all s front c) rest place e → ComesOfOne s c (front ++ rest) place e
behind-these s [] rest c place e h = h
behind-these s (r ∷ front) rest c place e h =
    let one : ComesOfOne s (handles true s c r) (front ++ rest) place e = behind-these s front rest (handles true s c r) place e h in
    record { earlier = r ∷ one.earlier; taken = one.taken; later = one.later; among = ap (λ xs. r ∷ xs) one.among; says = one.says; at = one.at; no_fault = one.no_fault }

before-these : (s : Setting) (front rest : List Record) (c : Call) (place : ℕ) (e : Event) → ComesOfOne s c front place e → ComesOfOne s c (front ++ rest) place e
before-these s front rest c place e h =
    record {
      earlier = h.earlier;
      taken = h.taken;
      later = h.later ++ rest;
      among = ap (λ xs. xs ++ rest) h.among ∙ append_assoc h.earlier (h.taken ∷ h.later) rest;
      says = h.says;
      at = h.at;
      no_fault = h.no_fault;
    }

-- The last of these is answered on a disk that stops.
of-until : (s : Setting) (e : Event) (n : Node) (front rest : List Record) (r : Record) (place : ℕ) → NoneAnswers s e (begun n) → slice_get (delivered_until s n front r).node.lived place ≡ Some e → (slice_get n.lived place ≡ Some e) ⊎ ComesOfOne s (begun n) (front ++ r ∷ rest) place e
unfolding delivered_until
of-until s e n front rest r place other h =
    elim (of-last false s e (handles_all s front (begun n)) r rest place (other front) h) [
      | inl old ↦
          (elim (of-all s e front (begun n) place other old) [
            | inl older ↦ inl older
            | inr one ↦ inr (before-these s front (r ∷ rest) (begun n) place e one)
          ])
      | inr one ↦ inr (behind-these s front (r ∷ rest) (begun n) place e one)
    ]

-- ---- what else comes in

no-shorter : {X : Type 0} (xs ys : List X) → length xs ≤ length (xs ++ ys)
no-shorter [] ys = omega arith
no-shorter (x ∷ xs) ys = omega (arith, no-shorter xs ys)

-- The note or accusation is the node's own, is behind what was in the life before, and an index was spent on it.
pub record IsAddedOwn (s : Setting) (n : Node) (c : Call) (place : ℕ) (b : Body) : Type 0 where
  pub by : IsOwnBody s.me b
  pub since : length n.lived ≤ place
  pub moment : ℕ
  pub index : ℕ
  pub spent : In c.told (record { moment = moment; what = told.Spent index b })

-- So is each that comes in.
record AddsOwn (s : Setting) (n : Node) (c : Call) : Type 0 where
  longer : length n.lived ≤ length c.node.lived
  each : (place : ℕ) (b : Body) → IsStatement b → slice_get c.node.lived place ≡ Some (event_of s b) → (slice_get n.lived place ≡ Some (event_of s b)) ⊎ IsAddedOwn s n c place b

adds-nothing : (s : Setting) (n : Node) → AddsOwn s n (begun n)
adds-nothing s n = record { longer = omega arith; each = λ place b it e. inl e }

abbrev NoRecord : Record → Type 0
NoRecord r = ⊥

one-at : (e x : Event) (place : ℕ) → slice_get (e ∷ []) place ≡ Some x → e ≡ x
one-at e x zero h = some-is e x h
one-at e x (suc place) h = cc

later-own : (s : Setting) (n : Node) (c d : Call) (news : List journal.Event) (place : ℕ) (b : Body) → d.told ≡ c.told ++ news → IsAddedOwn s n c place b → IsAddedOwn s n d place b
later-own s n c d news place b grew h =
    let e : journal.Event = record { moment = h.moment; what = told.Spent h.index b } in
    record { by = h.by; since = h.since; moment = h.moment; index = h.index; spent = subst (λ (xs : List journal.Event). In xs e) (sym grew) (In-append_left c.told news e h.spent) }

-- More is reported, and the life stays.
adds-told : (s : Setting) (n : Node) (c d : Call) (news : List journal.Event) → d.told ≡ c.told ++ news → d.node.lived ≡ c.node.lived → AddsOwn s n c → AddsOwn s n d
adds-told s n c d news grew lived h =
    record {
      longer = omega (arith, h.longer, ap (λ xs. length xs) lived);
      each = λ place b it found. elim (h.each place b it (sym (ap (λ xs. slice_get xs place) lived) ∙ found)) [
        | inl old ↦ inl old
        | inr own ↦ inr (later-own s n c d news place b grew own)
      ];
    }

-- One event comes in; if it is a note or an accusation, it is the node's own, on which an index was spent.
adds-one : (s : Setting) (n : Node) (c d : Call) (news : List journal.Event) (e : Event) → d.told ≡ c.told ++ news → d.node.lived ≡ c.node.lived ++ e ∷ []
    → ((b : Body) → IsStatement b → e ≡ event_of s b → IsOwnBody s.me b × ((moment : ℕ) × ((index : ℕ) × In news (record { moment = moment; what = told.Spent index b })))) → AddsOwn s n c → AddsOwn s n d
adds-one s n c d news e grew lived own h =
    record {
      longer = omega (arith, h.longer, no-shorter c.node.lived (e ∷ []), ap (λ xs. length xs) lived);
      each = λ place b it found. elim (at-append c.node.lived (e ∷ []) place (event_of s b) (sym (ap (λ xs. slice_get xs place) lived) ∙ found)) [
        | inl old ↦ elim (h.each place b it old) [ inl older ↦ inl older | inr new ↦ inr (later-own s n c d news place b grew new) ]
        | inr new ↦
            let x = own b it (one-at e (event_of s b) new.more new.found) in
            let spent : journal.Event = record { moment = x.1.0; what = told.Spent x.1.1.0 b } in
            inr (record {
              by = x.0;
              since = omega (arith, new.is, h.longer);
              moment = x.1.0;
              index = x.1.1.0;
              spent = subst (λ (xs : List journal.Event). In xs spent) (sym grew) (In-append_right c.told news spent x.1.1.1);
            })
      ];
    }

adds-tells : (s : Setting) (n : Node) (what : whats.What) (c : Call) → AddsOwn s n c → AddsOwn s n (tells s what c)
adds-tells s n what c h = adds-told s n c (tells s what c) _ refl refl h

adds-sends : (s : Setting) (n : Node) (d : Datagram) (c : Call) (to : ℕ) → AddsOwn s n c → AddsOwn s n (sends s d c to)
unfolding sends
adds-sends s n d c to h = adds-told s n c (sends s d c to) _ refl refl h

adds-stops : (s : Setting) (n : Node) (c : Call) → AddsOwn s n c → AddsOwn s n (stops s c)
adds-stops s n c h = adds-told s n c (stops s c) _ refl refl h

passes-not : {A : Type 0} (s : Setting) (b : Body) → Passes ≡ event_of s b → A
passes-not s (Certificate c) e = cc
passes-not s (Note n) e = cc
passes-not s (Accusation a) e = cc

adds-passes : (s : Setting) (n : Node) (c : Call) → AddsOwn s n c → AddsOwn s n (lives s Passes c)
unfolding lives
adds-passes s n c h =
    adds-one s n c (lives s Passes c) (told_of (step s.group (state_of s c.node) Passes).state.moment (step s.group (state_of s c.node) Passes).report) Passes refl refl (λ b it e. passes-not s b e) h

-- Which note or accusation an event brings.
pub body-brought : (s : Setting) (x b : Body) → IsStatement b → event_of s x ≡ event_of s b → x ≡ b
body-brought s x (Certificate c) it e = absurd it
body-brought s (Certificate c) (Note n) it e = cc
body-brought s (Certificate c) (Accusation a) it e = cc
body-brought s (Note x) (Note n) it e = ap (λ y. Note y) (inner x n e)
  where
    inner : (x y : NoteBody) → Notes x ≡ Notes y → x ≡ y
    inner x y e = cc
body-brought s (Note x) (Accusation a) it e = cc
body-brought s (Accusation x) (Note n) it e = cc
body-brought s (Accusation x) (Accusation a) it e = ap (λ y. Accusation y) (inner x a e)
  where
    inner : (x y : AccBody) → Accuses x ≡ Accuses y → x ≡ y
    inner x y e = cc

adds-signs : (s : Setting) (n : Node) (x : Body) (c : Call) → IsOwnBody s.me x → AddsOwn s n c → AddsOwn s n (signs s x c)
unfolding signs takes lives
adds-signs s n x c by h =
    let d : Call = spends s x c in
    let first : journal.Event = record { moment = (state_of s c.node).moment; what = told.Spent c.node.stored.next x } in
    let report : List journal.Event = told_of (step s.group (state_of s d.node) (event_of s x)).state.moment (step s.group (state_of s d.node) (event_of s x)).report in
    adds-one s n c (signs s x c) (first ∷ report) (event_of s x) (append_assoc c.told (first ∷ []) report) refl
    (λ b it e.
    subst (λ (y : Body). IsOwnBody s.me y × ((moment : ℕ) × ((index : ℕ) × In (first ∷ report) (record { moment = moment; what = told.Spent index y })))) (body-brought s x b it e)
    (by, ((state_of s c.node).moment, (c.node.stored.next, inl refl)))) h

adding : (s : Setting) (n : Node) → Hands s NoRecord (AddsOwn s n)
adding s n =
    joined s NoRecord (AddsOwn s n) (record {
      told = λ what c plain h. adds-tells s n what c h;
      judged = λ r c none h. absurd none;
      sent = λ d c to h. adds-sends s n d c to h;
      taken = λ r c none fine h. absurd none;
      answered = λ r a c none fine is me may left h. absurd none;
      returned = λ r a c none asks may left h. absurd none;
      accused = λ a c by left h. adds-signs s n (Accusation a) c by h;
      departed = λ c left h. adds-signs s n (leaving s c.node.stored) c refl h;
      stopped = λ c h. adds-stops s n c h;
      passed = λ c h. adds-passes s n c h;
      probed = λ p c h. adds-told s n c (record c { node = record c.node { probes = p } }) [] (sym (nil-right c.told)) refl h;
      spanned = λ c h. adds-told s n c (record c { node = record c.node { since = c.node.stored.epoch } }) [] (sym (nil-right c.told)) refl h;
      spread = λ c h. adds-told s n c (record c { node = record c.node { news = [] } }) [] (sym (nil-right c.told)) refl h;
    })

-- A tick signs no note.
no-note : (s : Setting) (st : State) (index : ℕ) (members : List ℕ) (k : ℕ) (note : NoteBody) → In (accusing_told s st index members) (told.Spent k (Note note)) → ⊥
no-note s st index [] k note i = absurd i
no-note s st index (m ∷ accused) k note (inl e) = cc
no-note s st index (m ∷ accused) k note (inr i) =
    cond_both {A = List whats.What} (eqb index s.indexes) _ _ (λ xs. In xs (told.Spent k (Note note)) → ⊥)
    (λ up j. elim j [ inl e ↦ cc | inr later ↦ no-note s st index accused k note later ])
    (λ left j. elim j [ inl e ↦ cc | inr later ↦ no-note s st (index + 1) accused k note later ]) i

tick-signs_no_note : (s : Setting) (n : Node) (moment index : ℕ) (note : NoteBody) → In (ticked s n).told (record { moment = moment; what = told.Spent index (Note note) }) → ⊥
tick-signs_no_note s n moment index note i =
    let p : Node = at_tick s n in
    let st : State = state_of s p in
    let e : journal.Event = record { moment = moment; what = told.Spent index (Note note) } in
    let ws : List whats.What = accusing_told s st p.stored.next (to_accuse s p st) in
    let j : In (told_that is_apart (ticked s n)) e = In-filter (λ (x : journal.Event). is_apart x.what) (ticked s n).told e i refl in
    no-note s st p.stored.next (to_accuse s p st) index note (in-all_at st.moment moment ws (told.Spent index (Note note)) (subst (λ xs. In xs e) (tick-tells s n) j))

-- No note that came in at a tick is the node's own.
pub no-note-added : (s : Setting) (n : Node) (c : Call) (place : ℕ) (note : NoteBody) → ComesSoFar s n Ticks c → IsAddedOwn s n c place (Note note) → ⊥
no-note-added s n c place note so h = tick-signs_no_note s n h.moment h.index note ((within-whole s n Ticks c so).spent h.moment h.index (Note note) h.spent)

-- ---- leaving

-- The event is the note by which the node leaves, the first of what comes in, and the next index was spent on it.
pub record IsLeaving (s : Setting) (n : Node) (c : Call) (place : ℕ) (e : Event) : Type 0 where
  pub is : Notes (leaving_note s n.stored) ≡ e
  pub at : place ≡ length n.lived
  pub moment : ℕ
  pub spent : In c.told (record { moment = moment; what = told.Spent n.stored.next (leaving s n.stored) })

only-at : (x e : Event) (place : ℕ) → slice_get (x ∷ []) place ≡ Some e → (place ≡ 0) × (x ≡ e)
only-at x e zero h = (refl, some-is x e h)
only-at x e (suc place) h = cc

left-whole : (s : Setting) (n : Node) (place : ℕ) (e : Event) → slice_get (left s n).node.lived place ≡ Some e → (slice_get n.lived place ≡ Some e) ⊎ IsLeaving s n (left s n) place e
left-whole s n place e h =
    let x : Event = Notes (leaving_note s n.stored) in
    let moment : ℕ = (state_of s n).moment in
    let spent : journal.Event = record { moment = moment; what = told.Spent n.stored.next (leaving s n.stored) } in
    let lived : slice_get (n.lived ++ leaving_event s n) place ≡ Some e = sym (ap (λ xs. slice_get xs place) (leaving-lived s n).lived_so) ∙ h in
    elim (cases_Bool (is_used_up s n)) [
      | inl up ↦ inl (sym (ap (λ b. slice_get (n.lived ++ cond b [] (x ∷ [])) place) up ∙ ap (λ xs. slice_get xs place) (nil-right n.lived)) ∙ lived)
      | inr index ↦
          (elim (at-append n.lived (x ∷ []) place e (sym (ap (λ b. slice_get (n.lived ++ cond b [] (x ∷ [])) place) index) ∙ lived)) [
            | inl old ↦ inl old
            | inr new ↦
                let here = only-at x e new.more new.found in
                let told_so : told_that is_apart (left s n) ≡ spent ∷ [] =
                leaving-tells s n ∙ ap (λ b. all_at moment (cond b (told.Exhausted n.stored.next) (told.Spent n.stored.next (leaving s n.stored)) ∷ [])) index in
                let i : In (told_that is_apart (left s n)) spent = subst (λ xs. In xs spent) (sym told_so) (inl refl) in
                inr (record { is = here.1; at = omega (arith, new.is, here.0); moment = moment; spent = (In-from_filter (λ (y : journal.Event). is_apart y.what) (left s n).told spent i).0 })
          ])
    ]

left-cut : (s : Setting) (n : Node) (place : ℕ) (e : Event) → slice_get (left_until s n).node.lived place ≡ Some e → slice_get n.lived place ≡ Some e
unfolding left_until leaves
left-cut s n place e h =
    let body : Body = leaving s n.stored in
    let same : (wants false s body (neighbours s) (begun n)).node ≡ n = node-wants false s body (neighbours s) (begun n) ∙ either (is_used_up s n) in
    sym (ap (λ (x : Node). slice_get x.lived place) same) ∙ h
  where
    either : (b : Bool) → cond b n n ≡ n
    either true = refl
    either false = refl

left-in : (s : Setting) (n : Node) (c : Call) (place : ℕ) (e : Event) → ComesSoFar s n Leaves c → slice_get c.node.lived place ≡ Some e → (slice_get n.lived place ≡ Some e) ⊎ IsLeaving s n c place e
left-in s n c place e (inl whole) h =
    subst (λ (x : Call). slice_get x.node.lived place ≡ Some e → (slice_get n.lived place ≡ Some e) ⊎ IsLeaving s n x place e) (sym whole.is) (left-whole s n place e) h
left-in s n c place e (inr cut) h = inl (left-cut s n place e (sym (ap (λ (x : Call). slice_get x.node.lived place) cut.is) ∙ h))

-- ---- a call

-- The event has come of a record of the datagram that is delivered.
pub record ComesOfRecord (s : Setting) (n : Node) (bytes : List ℕ) (place : ℕ) (e : Event) : Type 0 where
  pub from : ℕ
  pub records : List Record
  pub read : read_of bytes ≡ Ok (kinds.Records from records)
  pub one : ComesOfOne s (begun n) records place e

abbrev pub ComesOfInput : Setting → Node → Input → Call → ℕ → Body → Type 0
ComesOfInput s n (Delivers bytes) c place b = ComesOfRecord s n bytes place (event_of s b)
ComesOfInput s n Ticks c place b = IsAddedOwn s n c place b
ComesOfInput s n Leaves c place b = IsLeaving s n c place (event_of s b)

-- It was there before, or has come of the call.
abbrev pub ComesIn : Setting → Node → Input → Call → ℕ → Body → Type 0
ComesIn s n i c place b = (slice_get n.lived place ≡ Some (event_of s b)) ⊎ ComesOfInput s n i c place b

records-in : (s : Setting) (n : Node) (bytes : List ℕ) (from : ℕ) (records : List Record) (place : ℕ) (e : Event) → read_of bytes ≡ Ok (kinds.Records from records) → (slice_get n.lived place ≡ Some e) ⊎ ComesOfOne s (begun n) records place e
    → (slice_get n.lived place ≡ Some e) ⊎ ComesOfRecord s n bytes place e
records-in s n bytes from records place e read (inl old) = inl old
records-in s n bytes from records place e read (inr one) = inr (record { from = from; records = records; read = read; one = one })

all-in : (s : Setting) (n : Node) (bytes : List ℕ) (from : ℕ) (records : List Record) (place : ℕ) (e : Event) → NoneAnswers s e (begun n) → read_of bytes ≡ Ok (kinds.Records from records) → slice_get (delivered s n bytes).node.lived place ≡ Some e
    → (slice_get n.lived place ≡ Some e) ⊎ ComesOfRecord s n bytes place e
unfolding delivered
all-in s n bytes from records place e other read h =
    records-in s n bytes from records place e read
    (of-all s e records (begun n) place other (subst (λ heard. slice_get (hears s heard (begun n)).node.lived place ≡ Some e) read h))

same-in : (s : Setting) (n next : Node) (bytes : List ℕ) (place : ℕ) (e : Event) → next.lived ≡ n.lived → slice_get next.lived place ≡ Some e → (slice_get n.lived place ≡ Some e) ⊎ ComesOfRecord s n bytes place e
same-in s n next bytes place e same h = inl (sym (ap (λ xs. slice_get xs place) same) ∙ h)

whole-in : (s : Setting) (n : Node) (bytes : List ℕ) (heard : Result Datagram ℕ) (place : ℕ) (e : Event) → NoneAnswers s e (begun n) → read_of bytes ≡ heard → slice_get (delivered s n bytes).node.lived place ≡ Some e → (slice_get n.lived place ≡ Some e) ⊎ ComesOfRecord s n bytes place e
whole-in s n bytes (Err at) place e other read h = same-in s n (delivered s n bytes).node bytes place e (ap (λ (x : Node). x.lived) (unread s n bytes at read).node) h
whole-in s n bytes (Ok (kinds.Ping from nonce)) place e other read h = same-in s n (delivered s n bytes).node bytes place e (ap (λ (x : Node). x.lived) (ping-brings s n bytes from nonce read).node_so) h
whole-in s n bytes (Ok (kinds.Pong from nonce)) place e other read h = same-in s n (delivered s n bytes).node bytes place e (ap (λ (x : Node). x.lived) (pong-brings s n bytes from nonce read).node_so) h
whole-in s n bytes (Ok (kinds.Summary from flag theirs)) place e other read h = same-in s n (delivered s n bytes).node bytes place e (ap (λ (x : Node). x.lived) (summary-brings s n bytes from flag theirs read).node_so) h
whole-in s n bytes (Ok (kinds.Records from records)) place e other read h = all-in s n bytes from records place e other read h

so_far-in : (s : Setting) (n : Node) (i : Input) (c : Call) (place : ℕ) (b : Body) → IsStatement b → NoneAnswers s (event_of s b) (begun n) → ComesSoFar s n i c → slice_get c.node.lived place ≡ Some (event_of s b) → ComesIn s n i c place b
so_far-in s n (Delivers bytes) c place b it other (inl whole) h = whole-in s n bytes (read_of bytes) place (event_of s b) other refl (subst (λ (x : Call). slice_get x.node.lived place ≡ Some (event_of s b)) whole.is h)
so_far-in s n (Delivers bytes) c place b it other (inr cut) h =
    let e : Event = event_of s b in
    let split = split-at cut.records cut.place cut.at cut.found in
    let is : slice_get (delivered_until s n (take cut.place cut.records) cut.at).node.lived place ≡ Some e = subst (λ (x : Call). slice_get x.node.lived place ≡ Some e) cut.is h in
    records-in s n bytes cut.from cut.records place e cut.read
    (elim (of-until s e n (take cut.place cut.records) split.0 cut.at place other is) [
      | inl old ↦ inl old
      | inr one ↦ inr (subst (λ xs. ComesOfOne s (begun n) xs place e) (sym split.1) one)
    ])
so_far-in s n Ticks c place b it other so h = (hands-so_far s NoRecord (AddsOwn s n) (adding s n) n Ticks c so tt (adds-nothing s n)).each place b it h
so_far-in s n Leaves c place b it other so h = left-in s n c place (event_of s b) so h

pub called-in : (s : Setting) (n : Node) (i : Input) (d : Disk) (place : ℕ) (b : Body) → IsStatement b → NoneAnswers s (event_of s b) (begun n) → slice_get (called_on s n i d).call.node.lived place ≡ Some (event_of s b) → ComesIn s n i (called_on s n i d).call place b
called-in s n i d place b it other h = so_far-in s n i (called_on s n i d).call place b it other (so_far s n i d) h

-- ---- the node behind records

pub all-handled : (s : Setting) (records : List Record) (c : Call) → (handles_all s records c).node ≡ when_all_handled s c.node records
all-handled s [] c = refl
all-handled s (r ∷ records) c = all-handled s records (handles true s c r) ∙ ap (λ n. when_all_handled s n records) (node-handles true s c r)
