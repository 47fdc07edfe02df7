-- Where the accusations in a life have come from.
use Rattle.std.proofs.Common.{◌≡◌, ◌⊎◌, ℕ, ◌+◌, ◌<◌, ◌≤◌, zero, suc, Bool, true, false, cond, eqb, List, [], ◌∷◌, ◌++◌, length, Option, Some, None, inl, inr, refl, ap, sym, ◌∙◌, subst, append_assoc, append-nil, arith}
use Rattle.std.specs.Prelude.{Result, Ok, Err, Contains}
use Rattle.std.specs.List.{slice_get}
use Rattle.std.proofs.lemmas.Bool.{cond_both}
use Rattle.std.proofs.lemmas.Bool.Decides.{nat_tests}
use Rattle.std.proofs.lemmas.List.{length-append}
use Rattle.ff_ids.specs.declared.AccBody.{AccBody}
use Rattle.ff_ids.specs.declared.Fault.{Fault}
use Rattle.ff_ids.specs.declared.Fault.TheVariants as faults
use Rattle.ff_ids.specs.declared.NoteBody.{NoteBody}
use Rattle.ff_ids.specs.Faults.{accusation_fault}
use Rattle.ff_ids.specs.Views.{State}
use Rattle.ff_ids.specs.Steps.{Event, Notes, Accuses, Ticks as Passes}
use Rattle.life_laws.proofs.Lists.{In, Contains-from_In, In-from_filter}
use Rattle.records.specs.declared.keys.Key.{Key}
use Rattle.records.specs.declared.Body.{Body}
use Rattle.records.specs.declared.Body.TheVariants.{Certificate, Note, Accusation}
use Rattle.records.specs.declared.Record.{Record}
use Rattle.datagram.specs.declared.Datagram.{Datagram}
use Rattle.datagram.specs.declared.Datagram.TheVariants as kinds
use Rattle.datagram.specs.Grammar.{read_of}
use Rattle.journal.specs.declared.event.Event as journal
use Rattle.journal.specs.declared.event.What as whats
use Rattle.journal.specs.declared.event.What.TheVariants as told
use Rattle.trace.proofs.JustifiedLemmas.{in-map}
use Rattle.validate.specs.Table.{signature_fault}
use Rattle.node_rules.specs.Nodes.{Setting, Node, event_of, public_key_of, state_of}
use Rattle.node_rules.specs.Refusals.{refusal, refusal_of}
use Rattle.node_rules.specs.Calls.{lives}
use Rattle.node_rules.specs.Deliveries.{delivered}
use Rattle.node_rules.specs.Ticking.{passed, ticked}
use Rattle.node_rules.specs.Leaving.{leaving_note, left}
use Rattle.node_rules.specs.Lives.{Input, Delivers, Ticks, Leaves, call_of}
use Rattle.node_rules.specs.Verdicts.{is_apart, told_that, when_all_handled, when_handled}
use Rattle.node_rules.specs.Answering.{asked_by}
use Rattle.node_rules.specs.Gaining.{accepted_event, accusation_events, answer_event, gained, leaving_event}
use Rattle.node_rules.specs.Outgoing.{accusation_of, accusing_told, at_tick, to_accuse}
use Rattle.node_rules.specs.Accusing.{AccusesTheSilent}
use Rattle.node_rules.proofs.Gains.{lived-delivered, lived-ticked}
use Rattle.node_rules.proofs.Handling.{unread}
use Rattle.node_rules.proofs.Leaving.{leaving-lived}
use Rattle.node_rules.proofs.OwnNote.{option_or-none}
use Rattle.node_rules.proofs.Sendings.{ping-brings, pong-brings, summary-brings}
use Rattle.node_rules.proofs.Ticks.{only-silent, tick-tells}
use Rattle.node_rules.proofs.OwnKey.{KeepsKey, key-calls}
use Rattle.turn_rules.specs.Turns.{Act, Receives, Writes, Calls}
use Rattle.turn_rules.specs.Courses.{life_behind, may_tick, node_acted, node_behind}
use Rattle.node_rules.specs.Claims.{ClaimedVerify}
use Rattle.turn_rules.specs.Removals.{VerifiesFor, WasDelivered, WasMade}

-- ## Places in lists

pub record IsBehind {X : Type 0} (xs ys : List X) (place : ℕ) (x : X) : Type 0 where
  pub more : ℕ
  pub is : place ≡ length xs + more
  pub found : slice_get ys more ≡ Some x

pub at-append : {X : Type 0} (xs ys : List X) (place : ℕ) (x : X) → slice_get (xs ++ ys) place ≡ Some x → (slice_get xs place ≡ Some x) ⊎ IsBehind xs ys place x
at-append [] ys place x e = inr (record { more = place; is = omega arith; found = e })
at-append (y ∷ xs) ys zero x e = inl e
at-append (y ∷ xs) ys (suc place) x e =
    elim (at-append xs ys place x e) [
      | inl old ↦ inl old
      | inr new ↦ inr (record { more = new.more; is = omega (arith, new.is); found = new.found })
    ]

some-is : {X : Type 0} (x y : X) → Some x ≡ Some y → x ≡ y
some-is x y e = cc

none-at : {X A : Type 0} (place : ℕ) (x : X) → slice_get [] place ≡ Some x → A
none-at place x e = cc

one-at : {X : Type 0} (y x : X) (place : ℕ) → slice_get (y ∷ []) place ≡ Some x → (place ≡ 0) × (y ≡ x)
one-at y x zero e = (refl, some-is y x e)
one-at y x (suc place) e = none-at place x e

-- ## A delivery

-- The accusation is a record among these, which had no fault behind those before it and verifies.
record IsGained (s : Setting) (n : Node) (records : List Record) (place : ℕ) (a : AccBody) : Type 0 where
  earlier : List Record
  taken : Record
  later : List Record
  among : records ≡ earlier ++ taken ∷ later
  says : taken.body ≡ Accusation a
  at : place ≡ length (gained s n earlier)
  no_fault : refusal s (when_all_handled s n earlier) taken ≡ None

same-accusation : (x a : AccBody) → Accuses x ≡ Accuses a → x ≡ a
same-accusation x a e = cc

accuses-body : (s : Setting) (b : Body) (a : AccBody) → event_of s b ≡ Accuses a → b ≡ Accusation a
accuses-body s (Certificate c) a e = cc
accuses-body s (Note n) a e = cc
accuses-body s (Accusation x) a e = ap (λ y. Accusation y) (same-accusation x a e)

note-not : {A : Type 0} (n : NoteBody) (a : AccBody) → Notes n ≡ Accuses a → A
note-not n a e = cc

record IsAccepted (r : Record) (f : Option Fault) (place : ℕ) (a : AccBody) : Type 0 where
  none : f ≡ None
  first : place ≡ 0
  says : r.body ≡ Accusation a

accepted-at : (s : Setting) (r : Record) (f : Option Fault) (place : ℕ) (a : AccBody) → slice_get (accepted_event s f r.body) place ≡ Some (Accuses a) → IsAccepted r f place a
accepted-at s r None place a e = let one = one-at (event_of s r.body) (Accuses a) place e in record { none = refl; first = one.0; says = accuses-body s r.body a one.1 }
accepted-at s r (Some fault) place a e = none-at place (Accuses a) e

answer-at : {A : Type 0} (s : Setting) (n : Node) (o : Option NoteBody) (place : ℕ) (a : AccBody) → slice_get (answer_event s n o) place ≡ Some (Accuses a) → A
answer-at s n None place a e = none-at place (Accuses a) e
answer-at {A = A} s n (Some x) place a e = by (eqb n.stored.next s.indexes) e
  where
    by : (b : Bool) → slice_get (cond b [] (Notes x ∷ [])) place ≡ Some (Accuses a) → A
    by true e = none-at place (Accuses a) e
    by false e = note-not x a (one-at (Notes x) (Accuses a) place e).1

is-gained : (s : Setting) (records : List Record) (n : Node) (place : ℕ) (a : AccBody) → slice_get (gained s n records) place ≡ Some (Accuses a) → IsGained s n records place a
is-gained s [] n place a e = none-at place (Accuses a) e
is-gained s (r ∷ records) n place a e =
    let one : List Event = accepted_event s (refusal s n r) r.body in
    let two : List Event = answer_event s n (asked_by s n r) in
    elim (at-append (one ++ two) (gained s (when_handled s n r) records) place (Accuses a) e) [
      | inl here ↦
          (elim (at-append one two place (Accuses a) here) [
            | inl first ↦
                let x = accepted-at s r (refusal s n r) place a first in
                record { earlier = []; taken = r; later = records; among = refl; says = x.says; at = x.first; no_fault = x.none }
            | inr answer ↦ answer-at s n (asked_by s n r) answer.more a answer.found
          ])
      | inr behind ↦
          let x = is-gained s records (when_handled s n r) behind.more a behind.found in
          record {
            earlier = r ∷ x.earlier;
            taken = x.taken;
            later = x.later;
            among = ap (λ (xs : List Record). r ∷ xs) x.among;
            says = x.says;
            at = behind.is ∙ ap (λ (k : ℕ). length (one ++ two) + k) x.at ∙ sym (length-append (one ++ two) (gained s (when_handled s n r) x.earlier));
            no_fault = x.no_fault;
          }
    ]

pub signature-verifies : (s : Setting) (author : Option Key) (r : Record) → signature_fault s.verifies author r ≡ None → VerifiesFor s author r
signature-verifies s None r e = absurd cc
signature-verifies s (Some key) r e = by (s.verifies key r) refl e
  where
    by : (b : Bool) → s.verifies key r ≡ b → cond b None (Some faults.BadSignature) ≡ None → VerifiesFor s (Some key) r
    by true is e = record { key = key; author_is = refl; verifies = is }
    by false is e = absurd cc

accepted-verifies : (s : Setting) (n : Node) (r : Record) (a : AccBody) → r.body ≡ Accusation a → refusal s n r ≡ None → VerifiesFor s (public_key_of n a.accuser) r
unfolding refusal
accepted-verifies s n r a is fine =
    signature-verifies s (public_key_of n a.accuser) r
    (option_or-none (accusation_fault s.group.t (state_of s n) a) (signature_fault s.verifies (public_key_of n a.accuser) r) (sym (ap (refusal_of s n r) is) ∙ fine)).1

-- What a delivery at this node brings of an accusation.
pub record IsTaken (s : Setting) (n : Node) (bytes : List ℕ) (place : ℕ) (a : AccBody) : Type 0 where
  pub from : ℕ
  pub earlier : List Record
  pub taken : Record
  pub later : List Record
  pub read : read_of bytes ≡ Ok (kinds.Records from (earlier ++ taken ∷ later))
  pub says : taken.body ≡ Accusation a
  pub at : place ≡ length n.lived + length (gained s n earlier)
  pub no_fault : refusal s (when_all_handled s n earlier) taken ≡ None
  pub verified : VerifiesFor s (public_key_of (when_all_handled s n earlier) a.accuser) taken

abbrev OrTaken : Setting → Node → List ℕ → ℕ → AccBody → Type 0
OrTaken s n bytes place a = (slice_get n.lived place ≡ Some (Accuses a)) ⊎ IsTaken s n bytes place a

taken-in : (s : Setting) (n : Node) (bytes : List ℕ) (from : ℕ) (records : List Record) (place : ℕ) (a : AccBody) → read_of bytes ≡ Ok (kinds.Records from records) → slice_get (delivered s n bytes).node.lived place ≡ Some (Accuses a) → OrTaken s n bytes place a
taken-in s n bytes from records place a read e =
    elim (at-append n.lived (gained s n records) place (Accuses a) (sym (ap (λ xs. slice_get xs place) (lived-delivered s n bytes from records read).lived_so) ∙ e)) [
      | inl old ↦ inl old
      | inr new ↦
          let x = is-gained s records n new.more a new.found in
          inr (record {
            from = from;
            earlier = x.earlier;
            taken = x.taken;
            later = x.later;
            read = read ∙ ap (λ (rs : List Record). Ok (kinds.Records from rs)) x.among;
            says = x.says;
            at = new.is ∙ ap (λ (k : ℕ). length n.lived + k) x.at;
            no_fault = x.no_fault;
            verified = accepted-verifies s (when_all_handled s n x.earlier) x.taken a x.says x.no_fault;
          })
    ]

same-in : (s : Setting) (n next : Node) (bytes : List ℕ) (place : ℕ) (a : AccBody) → next.lived ≡ n.lived → slice_get next.lived place ≡ Some (Accuses a) → OrTaken s n bytes place a
same-in s n next bytes place a same e = inl (sym (ap (λ xs. slice_get xs place) same) ∙ e)

delivered-in : (s : Setting) (n : Node) (bytes : List ℕ) (came : Result Datagram ℕ) (place : ℕ) (a : AccBody) → read_of bytes ≡ came → slice_get (delivered s n bytes).node.lived place ≡ Some (Accuses a) → OrTaken s n bytes place a
delivered-in s n bytes (Err at) place a read e = same-in s n (delivered s n bytes).node bytes place a (ap (λ (x : Node). x.lived) (unread s n bytes at read).node) e
delivered-in s n bytes (Ok (kinds.Ping from nonce)) place a read e = same-in s n (delivered s n bytes).node bytes place a (ap (λ (x : Node). x.lived) (ping-brings s n bytes from nonce read).node_so) e
delivered-in s n bytes (Ok (kinds.Pong from nonce)) place a read e = same-in s n (delivered s n bytes).node bytes place a (ap (λ (x : Node). x.lived) (pong-brings s n bytes from nonce read).node_so) e
delivered-in s n bytes (Ok (kinds.Summary from flag theirs)) place a read e = same-in s n (delivered s n bytes).node bytes place a (ap (λ (x : Node). x.lived) (summary-brings s n bytes from flag theirs read).node_so) e
delivered-in s n bytes (Ok (kinds.Records from records)) place a read e = taken-in s n bytes from records place a read e

-- ## A tick

-- The node has spent an index of its key on the accusation, as these report.
record IsSpentOn (s : Setting) (ws : List whats.What) (a : AccBody) : Type 0 where
  index : ℕ
  left : index < s.indexes
  by : a.accuser ≡ s.me
  among : In ws (told.Spent index (Accusation a))

spent-behind : (s : Setting) (w : whats.What) (ws : List whats.What) (a : AccBody) → IsSpentOn s ws a → IsSpentOn s (w ∷ ws) a
spent-behind s w ws a h = record { index = h.index; left = h.left; by = h.by; among = inr h.among }

index-left : (s : Setting) (k : ℕ) → eqb k s.indexes ≡ false → k ≤ s.indexes → k < s.indexes
index-left s k left within = grind (arith, nat_tests, left, within)

same-body : (x a : AccBody) → Accusation x ≡ Accusation a → x ≡ a
same-body x a e = cc

own-accusation : (s : Setting) (st : State) (m : ℕ) (a : AccBody) → accusation_of s st m ≡ Accusation a → a.accuser ≡ s.me
own-accusation s st m a is = ap (λ (x : AccBody). x.accuser) (sym (same-body _ a is))

spent-on : (s : Setting) (st : State) (ms : List ℕ) (k place : ℕ) (a : AccBody) → k ≤ s.indexes → slice_get (accusation_events s st k ms) place ≡ Some (Accuses a) → IsSpentOn s (accusing_told s st k ms) a
spent-on s st [] k place a within e = none-at place (Accuses a) e
spent-on s st (m ∷ ms) k place a within e = by (λ p left f. spent-on s st ms (k + 1) p a (omega (arith, left)) f) (eqb k s.indexes) refl e
  where
    body : Body
    body = accusation_of s st m

    other : List whats.What
    other = told.Exhausted k ∷ accusing_told s st k ms

    here : List whats.What
    here = told.Spent k body ∷ accusing_told s st (k + 1) ms

    Rest : Type 0
    Rest = (p : ℕ) → k < s.indexes → slice_get (accusation_events s st (k + 1) ms) p ≡ Some (Accuses a) → IsSpentOn s (accusing_told s st (k + 1) ms) a

    at : Rest → (place : ℕ) → k < s.indexes → slice_get (event_of s body ∷ accusation_events s st (k + 1) ms) place ≡ Some (Accuses a) → IsSpentOn s (told.Silent m ∷ here) a
    at rest zero left e =
        let is = accuses-body s body a (some-is (event_of s body) (Accuses a) e) in
        record { index = k; left = left; by = own-accusation s st m a is; among = inr (inl (ap (λ (b : Body). told.Spent k b) is)) }
    at rest (suc place) left e = spent-behind s (told.Silent m) here a (spent-behind s (told.Spent k body) (accusing_told s st (k + 1) ms) a (rest place left e))

    by : Rest → (b : Bool) → eqb k s.indexes ≡ b → slice_get (cond b [] (event_of s body ∷ accusation_events s st (k + 1) ms)) place ≡ Some (Accuses a) → IsSpentOn s (told.Silent m ∷ cond b other here) a
    by rest true is e = none-at place (Accuses a) e
    by rest false is e = at rest place (index-left s k is within) e

-- What a tick of this node brings of an accusation.
pub record IsMade (claimed : ℕ → Body → Bool) (s : Setting) (n : Node) (place : ℕ) (a : AccBody) : Type 0 where
  pub by : a.accuser ≡ s.me
  pub silent : AccusesTheSilent s n a
  pub moment : ℕ
  pub index : ℕ
  pub spent : Contains (call_of s n Ticks).told (record { moment = moment; what = told.Spent index (Accusation a) })
  pub since : length n.lived < place
  pub verified : claimed index (Accusation a) ≡ true → VerifiesFor s (public_key_of n a.accuser) (record { body = Accusation a; signature = s.signature index (Accusation a) })

passes-not : {A : Type 0} (a : AccBody) → Passes ≡ Accuses a → A
passes-not a e = cc

stored-at_tick : (s : Setting) (n : Node) → (at_tick s n).stored ≡ n.stored
unfolding passed lives
stored-at_tick s n = refl

made-in : (claimed : ℕ → Body → Bool) (s : Setting) (own : Key) (n : Node) (place more : ℕ) (a : AccBody) → ClaimedVerify claimed s own → KeepsKey s own n → length n.lived < place
    → slice_get (accusation_events s (state_of s (at_tick s n)) (at_tick s n).stored.next (to_accuse s (at_tick s n) (state_of s (at_tick s n)))) more ≡ Some (Accuses a) → IsMade claimed s n place a
made-in claimed s own n place more a sign v since e =
    let p = at_tick s n in
    let st = state_of s p in
    let within = subst (λ k. k.next ≤ s.indexes) (sym (stored-at_tick s n)) v.within in
    let x = spent-on s st (to_accuse s p st) p.stored.next more a within e in
    let tells : whats.What → journal.Event = λ what. record { moment = st.moment; what = what } in
    let told_in = in-map tells (accusing_told s st p.stored.next (to_accuse s p st)) (told.Spent x.index (Accusation a)) x.among in
    let among : In (told_that is_apart (ticked s n)) (tells (told.Spent x.index (Accusation a))) = subst (λ es. In es (tells (told.Spent x.index (Accusation a)))) (sym (tick-tells s n)) told_in in
    let contains = Contains-from_In (ticked s n).told (tells (told.Spent x.index (Accusation a))) (In-from_filter (λ e. is_apart e.what) (ticked s n).told _ among).0 in
    record {
      by = x.by;
      silent = (only-silent s n Ticks a (st.moment, x.index, contains)).1;
      moment = st.moment;
      index = x.index;
      spent = contains;
      since = since;
      verified = λ shown. record { key = own; author_is = ap (public_key_of n) x.by ∙ v.own_key; verifies = sign x.index (Accusation a) shown x.left };
    }

ticked-in : (claimed : ℕ → Body → Bool) (s : Setting) (own : Key) (n : Node) (place : ℕ) (a : AccBody) → ClaimedVerify claimed s own → KeepsKey s own n → slice_get (ticked s n).node.lived place ≡ Some (Accuses a) → (slice_get n.lived place ≡ Some (Accuses a)) ⊎ IsMade claimed s n place a
ticked-in claimed s own n place a sign v e =
    let p = at_tick s n in
    let st = state_of s p in
    let events = accusation_events s st p.stored.next (to_accuse s p st) in
    elim (at-append (n.lived ++ Passes ∷ []) events place (Accuses a) (sym (ap (λ xs. slice_get xs place) (lived-ticked s n).lived_so) ∙ e)) [
      | inl front ↦
          (elim (at-append n.lived (Passes ∷ []) place (Accuses a) front) [
            | inl old ↦ inl old
            | inr tick ↦ passes-not a (one-at Passes (Accuses a) tick.more tick.found).1
          ])
      | inr new ↦ inr (made-in claimed s own n place new.more a sign v (omega (arith, new.is, length-append n.lived (Passes ∷ []))) new.found)
    ]

-- ## A node that leaves

-- It brings no accusation.
left-in : (s : Setting) (n : Node) (place : ℕ) (a : AccBody) → slice_get (left s n).node.lived place ≡ Some (Accuses a) → slice_get n.lived place ≡ Some (Accuses a)
left-in s n place a e =
    elim (at-append n.lived (leaving_event s n) place (Accuses a) (sym (ap (λ xs. slice_get xs place) (leaving-lived s n).lived_so) ∙ e)) [
      | inl old ↦ old
      | inr new ↦ by (eqb n.stored.next s.indexes) new.more new.found
    ]
  where
    by : {A : Type 0} (b : Bool) (more : ℕ) → slice_get (cond b [] (Notes (leaving_note s n.stored) ∷ [])) more ≡ Some (Accuses a) → A
    by true more e = none-at more (Accuses a) e
    by false more e = note-not (leaving_note s n.stored) a (one-at (Notes (leaving_note s n.stored)) (Accuses a) more e).1

-- ## A course

behind-append : (s : Setting) (start : Node) (acts more : List Act) → node_behind s start (acts ++ more) ≡ node_behind s (node_behind s start acts) more
unfolding node_behind
behind-append s start [] more = refl
behind-append s start (act ∷ acts) more = behind-append s (node_acted s start act) acts more

behind-one : (s : Setting) (start : Node) (act : Act) → node_behind s start (act ∷ []) ≡ node_acted s start act
unfolding node_behind
behind-one s start act = refl

pub acts-behind : (s : Setting) (start : Node) (acts : List Act) (act : Act) → node_behind s start (acts ++ act ∷ []) ≡ node_acted s (node_behind s start acts) act
acts-behind s start acts act = behind-append s start acts (act ∷ []) ∙ behind-one s (node_behind s start acts) act

pub behind-none : (s : Setting) (start : Node) → node_behind s start [] ≡ start
unfolding node_behind
behind-none s start = refl

pub behind-cons : (s : Setting) (start : Node) (act : Act) (acts : List Act) → node_behind s start (act ∷ acts) ≡ node_behind s (node_acted s start act) acts
unfolding node_behind
behind-cons s start act acts = refl

-- The node that a call leaves behind, or which counts no tick.
pub node-acted : (s : Setting) (P : Node → Type 0) (n : Node) (act : Act) → P n → ((i : Input) → act ≡ Calls i → P (call_of s n i).node) → P (node_acted s n act)
node-acted s P n Receives h step = h
node-acted s P n (Writes turn) h step = h
node-acted s P n (Calls (Delivers bytes)) h step = step (Delivers bytes) refl
node-acted s P n (Calls Leaves) h step = step Leaves refl
node-acted s P n (Calls Ticks) h step = cond_both {A = Node} (may_tick s n) (call_of s n Ticks).node n P (λ may. step Ticks refl) (λ never. h)

-- what each call keeps, a course keeps
pub node-kept : (s : Setting) (P : Node → Type 0) → ((n : Node) (i : Input) → P n → P (call_of s n i).node) → (acts : List Act) (start : Node) → P start → P (node_behind s start acts)
node-kept s P step [] start h = subst P (sym (behind-none s start)) h
node-kept s P step (act ∷ acts) start h =
    subst P (sym (behind-cons s start act acts)) (node-kept s P step acts (node_acted s start act) (node-acted s P start act h (λ i is. step start i h)))

pub key-kept : (s : Setting) (own : Key) (acts : List Act) (start : Node) → KeepsKey s own start → KeepsKey s own (node_behind s start acts)
key-kept s own acts start h = node-kept s (KeepsKey s own) (λ n i v. key-calls s own n (i ∷ []) v) acts start h

abbrev pub Came : (ℕ → Body → Bool) → Setting → Node → List Act → ℕ → AccBody → Type 0
Came claimed s start acts place a = WasDelivered s start acts place a ⊎ WasMade claimed s start acts place a

came-earlier : (claimed : ℕ → Body → Bool) (s : Setting) (start : Node) (acts more : List Act) (place : ℕ) (a : AccBody) → Came claimed s start acts place a → Came claimed s start (acts ++ more) place a
came-earlier claimed s start acts more place a (inl d) = inl (record {
  before = d.before;
  bytes = d.bytes;
  behind = d.behind ++ more;
  delivers = ap (λ (xs : List Act). xs ++ more) d.delivers ∙ append_assoc d.before (Calls (Delivers d.bytes) ∷ d.behind) more;
  from = d.from;
  earlier = d.earlier;
  taken = d.taken;
  later = d.later;
  read = d.read;
  says = d.says;
  at = d.at;
  no_fault = d.no_fault;
  verified = d.verified;
})
came-earlier claimed s start acts more place a (inr m) = inr (record {
  before = m.before;
  behind = m.behind ++ more;
  ticks = ap (λ (xs : List Act). xs ++ more) m.ticks ∙ append_assoc m.before (Calls Ticks ∷ m.behind) more;
  counts = m.counts;
  by = m.by;
  silent = m.silent;
  moment = m.moment;
  index = m.index;
  spent = m.spent;
  since = m.since;
  came_in = m.came_in;
  verified = m.verified;
})

abbrev pub AllCame : (ℕ → Body → Bool) → Setting → Node → List Act → Type 0
AllCame claimed s start acts = (place : ℕ) (a : AccBody) → slice_get (life_behind s start acts) place ≡ Some (Accuses a) → Came claimed s start acts place a

came-delivered : (claimed : ℕ → Body → Bool) (s : Setting) (start : Node) (acts : List Act) (bytes : List ℕ) (place : ℕ) (a : AccBody) → IsTaken s (node_behind s start acts) bytes place a → Came claimed s start (acts ++ Calls (Delivers bytes) ∷ []) place a
came-delivered claimed s start acts bytes place a t = inl (record {
  before = acts;
  bytes = bytes;
  behind = [];
  delivers = refl;
  from = t.from;
  earlier = t.earlier;
  taken = t.taken;
  later = t.later;
  read = t.read;
  says = t.says;
  at = t.at;
  no_fault = t.no_fault;
  verified = t.verified;
})

came-made : (claimed : ℕ → Body → Bool) (s : Setting) (start : Node) (acts : List Act) (place : ℕ) (a : AccBody) → may_tick s (node_behind s start acts) ≡ true → slice_get (call_of s (node_behind s start acts) Ticks).node.lived place ≡ Some (Accuses a)
    → IsMade claimed s (node_behind s start acts) place a → Came claimed s start (acts ++ Calls Ticks ∷ []) place a
came-made claimed s start acts place a may found m = inr (record {
  before = acts;
  behind = [];
  ticks = refl;
  counts = may;
  by = m.by;
  silent = m.silent;
  moment = m.moment;
  index = m.index;
  spent = m.spent;
  since = m.since;
  came_in = found;
  verified = m.verified;
})

came-act : (claimed : ℕ → Body → Bool) (s : Setting) (own : Key) (start : Node) (acts : List Act) (act : Act) (place : ℕ) (a : AccBody) → ClaimedVerify claimed s own → KeepsKey s own (node_behind s start acts) → AllCame claimed s start acts
    → slice_get (node_acted s (node_behind s start acts) act).lived place ≡ Some (Accuses a) → Came claimed s start (acts ++ act ∷ []) place a
came-act claimed s own start acts Receives place a sign v h e = came-earlier claimed s start acts (Receives ∷ []) place a (h place a e)
came-act claimed s own start acts (Writes turn) place a sign v h e = came-earlier claimed s start acts (Writes turn ∷ []) place a (h place a e)
came-act claimed s own start acts (Calls (Delivers bytes)) place a sign v h e =
    let n = node_behind s start acts in
    elim (delivered-in s n bytes (read_of bytes) place a refl e) [
      | inl old ↦ came-earlier claimed s start acts (Calls (Delivers bytes) ∷ []) place a (h place a old)
      | inr new ↦ came-delivered claimed s start acts bytes place a new
    ]
came-act claimed s own start acts (Calls Leaves) place a sign v h e =
    let n = node_behind s start acts in
    came-earlier claimed s start acts (Calls Leaves ∷ []) place a (h place a (left-in s n place a e))
came-act claimed s own start acts (Calls Ticks) place a sign v h e = by (may_tick s (node_behind s start acts)) refl e
  where
    n : Node
    n = node_behind s start acts

    old : slice_get n.lived place ≡ Some (Accuses a) → Came claimed s start (acts ++ Calls Ticks ∷ []) place a
    old e = came-earlier claimed s start acts (Calls Ticks ∷ []) place a (h place a e)

    made : may_tick s n ≡ true → slice_get (call_of s n Ticks).node.lived place ≡ Some (Accuses a) → Came claimed s start (acts ++ Calls Ticks ∷ []) place a
    made may e =
        elim (ticked-in claimed s own n place a sign v e) [
          | inl before ↦ old before
          | inr new ↦ came-made claimed s start acts place a may e new
        ]

    by : (b : Bool) → may_tick s n ≡ b → slice_get (cond b (call_of s n Ticks).node n).lived place ≡ Some (Accuses a) → Came claimed s start (acts ++ Calls Ticks ∷ []) place a
    by true may e = made may e
    by false never e = old e

came-on : (claimed : ℕ → Body → Bool) (s : Setting) (own : Key) (start : Node) (more acts : List Act) → ClaimedVerify claimed s own → KeepsKey s own start → AllCame claimed s start acts → AllCame claimed s start (acts ++ more)
came-on claimed s own start [] acts sign v h = subst (AllCame claimed s start) (sym (append-nil acts)) h
came-on claimed s own start (act ∷ more) acts sign v h =
    let one : AllCame claimed s start (acts ++ act ∷ []) = λ place a e.
    came-act claimed s own start acts act place a sign (key-kept s own acts start v) h (subst (λ (x : Node). slice_get x.lived place ≡ Some (Accuses a)) (acts-behind s start acts act) e) in
    subst (AllCame claimed s start) (append_assoc acts (act ∷ []) more) (came-on claimed s own start more (acts ++ act ∷ []) sign v one)

-- A life that begins without an accusation has none but those that were delivered or made.
pub all-came : (claimed : ℕ → Body → Bool) (s : Setting) (own : Key) (start : Node) (acts : List Act) → ClaimedVerify claimed s own → KeepsKey s own start → ((place : ℕ) (a : AccBody) → slice_get start.lived place ≡ Some (Accuses a) → ⊥) → AllCame claimed s start acts
all-came claimed s own start acts sign v none =
    let first : AllCame claimed s start [] = λ place a e. absurd (none place a (subst (λ (x : Node). slice_get x.lived place ≡ Some (Accuses a)) (behind-none s start) e)) in
    came-on claimed s own start acts [] sign v first
