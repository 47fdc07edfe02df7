-- What a call reports of expiries and of what it accepts, and what accepted notes rule out of it.
use Rattle.std.proofs.Common.{◌≡◌, ℕ, Bool, true, false, cond, eqb, ◌+◌, List, [], ◌∷◌, ◌++◌, length, map, Option, Some, None, inl, inr, refl, ap, sym, ◌∙◌, subst, append_assoc}
use Rattle.std.specs.Prelude.{Result, Ok, Err}
use Rattle.std.specs.List.{slice_get}
use Rattle.std.proofs.lemmas.Bool.{false≢true}
use Rattle.std.proofs.lemmas.List.{take_at}
use Rattle.ff_ids.specs.declared.AccBody.{AccBody}
use Rattle.ff_ids.specs.declared.Fault.{Fault}
use Rattle.ff_ids.specs.declared.Group.{Group}
use Rattle.ff_ids.specs.declared.NoteBody.{NoteBody}
use Rattle.ff_ids.specs.Faults.{accusation_fault, note_fault}
use Rattle.ff_ids.specs.Views.{State, is_member}
use Rattle.ff_ids.specs.Steps.{Event, Joins, Notes, Accuses, Ticks as Passes, Report, after_accusation, after_note, joined, step, unchanged, unless_fault}
use Rattle.ff_ids.specs.Lives.{after, opening, reports, state_at, IsAcceptedAt}
use Rattle.life_laws.specs.Removals.{ExpiresAt}
use Rattle.life_laws.proofs.AnsweredLemmas.{none_accepted, none_expires}
use Rattle.life_laws.proofs.Lists.{Contains-from_In, In, In-append_cases, In-filter, In-from_map}
use Rattle.life_laws.proofs.SinceLemmas.{revokes}
use Rattle.records.specs.declared.Body.{Body}
use Rattle.records.specs.declared.Body.TheVariants.{Certificate, Note, Accusation}
use Rattle.records.specs.declared.Record.{Record}
use Rattle.datagram.specs.declared.Datagram.{Datagram}
use Rattle.datagram.specs.declared.Datagram.TheVariants as kinds
use Rattle.datagram.specs.Grammar.{read_of}
use Rattle.journal.specs.declared.event.Event as journal
use Rattle.journal.specs.declared.event.What as whats
use Rattle.journal.specs.declared.event.What.TheVariants as told
use Rattle.node_rules.specs.Nodes.{Setting, Node, event_of, public_key_of, state_of}
use Rattle.node_rules.specs.Refusals.{refusal, refusal_of}
use Rattle.node_rules.specs.Vouching.{author_key}
use Rattle.node_rules.specs.Calls.{Call, is_used_up, told_of, whats_of}
use Rattle.node_rules.specs.Deliveries.{delivered}
use Rattle.node_rules.specs.Ticking.{ticked}
use Rattle.node_rules.specs.OnDisks.{IsCut, called}
use Rattle.node_rules.specs.Leaving.{leaving, left}
use Rattle.node_rules.specs.Lives.{Input, Delivers, Ticks, Leaves, call_of, is_of_life}
use Rattle.node_rules.specs.Outgoing.{accusation_of, accusing_told, at_tick, to_accuse, unaccused}
use Rattle.node_rules.specs.Stopping.{StopsAccusing, StopsAnswering, StopsIn, StopsLeaving}
use Rattle.node_rules.specs.Verdicts.{all_at, is_apart, is_took, records_in, told_that, verdicts, when_all_handled, when_handled}
use Rattle.node_rules.proofs.Handling.{took-delivered}
use Rattle.node_rules.proofs.OwnNote.{option_or-none}
use Rattle.node_rules.proofs.Leaving.{leaving-tells}
use Rattle.node_rules.proofs.Stopping.{leaving-stops, only-signatures, tick-stops, verdicts-stop}
use Rattle.node_rules.proofs.Ticks.{tick-tells}
use Rattle.turn_rules.specs.Turns.{Act, Calls}
use Rattle.turn_rules.specs.Courses.{life_behind, node_behind}
use Rattle.turn_rules.specs.Removals.{VerifiesFor}
use Rattle.turn_rules.specs.Replies.{Accepts, AcceptsNext, Expires}
use Rattle.turn_laws.proofs.OriginLemmas.{acts-behind, signature-verifies}
use Rattle.turn_laws.proofs.RemovalLemmas.{IsOfNoStart, IsOfTicks, TicksTell, at-last, grown-on, state-at_tick}

abbrev pub expiry : ℕ → AccBody → journal.Event
expiry moment a = record { moment = moment; what = told.Expired a }

-- ## Which step reports an expiry

not-among : {X : Type 0} (f : X → whats.What) (xs : List X) (a : AccBody) → ((x : X) → f x ≡ told.Expired a → ⊥) → In (map f xs) (told.Expired a) → ⊥
not-among f xs a other i = let x = In-from_map f xs (told.Expired a) i in other x.0 x.1.1

expired-here : (xs : List AccBody) (a : AccBody) → In (map told.Expired xs) (told.Expired a) → In xs a
expired-here xs a i =
    let x = In-from_map told.Expired xs (told.Expired a) i in
    subst (In xs) (accusation x.0 x.1.1) x.1.0
  where
    accusation : (b : AccBody) → told.Expired b ≡ told.Expired a → b ≡ a
    accusation b e = cc

expired-among : (r : Report) (a : AccBody) → In (whats_of r) (told.Expired a) → In r.expired a
expired-among r a i =
    elim (In-append_cases (map told.Expired r.expired ++ map told.Removed r.removed ++ map told.Entered r.entered) (map told.Fell r.fell) (told.Expired a) i) [
      | inl j ↦
          (elim (In-append_cases (map told.Expired r.expired ++ map told.Removed r.removed) (map told.Entered r.entered) (told.Expired a) j) [
            | inl k ↦
                (elim (In-append_cases (map told.Expired r.expired) (map told.Removed r.removed) (told.Expired a) k) [
                  | inl l ↦ expired-here r.expired a l
                  | inr l ↦ absurd (not-among told.Removed r.removed a (λ x e. removed-not x e) l)
                ])
            | inr k ↦ absurd (not-among told.Entered r.entered a (λ x e. entered-not x e) k)
          ])
      | inr j ↦ absurd (not-among told.Fell r.fell a (λ x e. fell-not x e) j)
    ]
  where
    removed-not : (x : ℕ) → told.Removed x ≡ told.Expired a → ⊥
    removed-not x e = cc

    entered-not : (x : ℕ) → told.Entered x ≡ told.Expired a → ⊥
    entered-not x e = cc

    fell-not : (x : AccBody) → told.Fell x ≡ told.Expired a → ⊥
    fell-not x e = cc

record IsToldExpired (moment : ℕ) (r : Report) (at : ℕ) (a : AccBody) : Type 0 where
  expired : In r.expired a
  brings : moment ≡ at

told-expired : (moment : ℕ) (r : Report) (at : ℕ) (a : AccBody) → In (told_of moment r) (expiry at a) → IsToldExpired moment r at a
told-expired moment r at a i =
    let x = In-from_map (λ what. let made : journal.Event = record { moment = moment; what = what } in made) (whats_of r) (expiry at a) i in
    record {
      expired = expired-among r a (subst (In (whats_of r)) (ap (λ (e : journal.Event). e.what) x.1.1) x.1.0);
      brings = ap (λ (e : journal.Event). e.moment) x.1.1;
    }

none-joined : (b : Bool) (st next : State) (a : AccBody) → In (cond b (unchanged st) (unchanged next)).report.expired a → ⊥
none-joined true st next a i = i
none-joined false st next a i = i

none-noted : (f : Option Fault) (st : State) (n : NoteBody) (a : AccBody) → In (unless_fault f st (after_note st n)).report.expired a → ⊥
none-noted (Some fault) st n a i = i
none-noted None st n a i = i

none-accused : (f : Option Fault) (st next : State) (a : AccBody) → In (unless_fault f st (unchanged next)).report.expired a → ⊥
none-accused (Some fault) st next a i = i
none-accused None st next a i = i

only-ticks-expire : (g : Group) (st : State) (e : Event) (a : AccBody) → In (step g st e).report.expired a → e ≡ Passes
only-ticks-expire g st (Joins number places) a i = absurd (none-joined (is_member st number) st (joined st number places) a i)
only-ticks-expire g st (Notes n) a i = absurd (none-noted (note_fault g.t st n) st n a i)
only-ticks-expire g st (Accuses b) a i = absurd (none-accused (accusation_fault g.t st b) st (after_accusation st b) a i)
only-ticks-expire g st Passes a i = refl

pub expiry-of-ticks : (at : ℕ) (a : AccBody) → IsOfTicks (expiry at a)
expiry-of-ticks at a = record { of_life = refl; only = λ g events x i. only-ticks-expire g (after g (opening []) events) x a (told-expired _ _ at a i).expired }

pub expiry-no-start : (at : ℕ) (a : AccBody) → IsOfNoStart (expiry at a)
expiry-no-start at a =
    record {
      no_step = λ g events x stays i. stays 0 (inl (only-ticks-expire g (after g (opening []) events) x a (told-expired _ _ at a i).expired));
      unspent = λ index n e. spent-not index (Note n) e;
    }
  where
    spent-not : (index : ℕ) (body : Body) → told.Spent index body ≡ told.Expired a → ⊥
    spent-not index body e = cc

-- ## An expiry of a course

reports-last : (g : Group) (st : State) (events : List Event) (e : Event) → slice_get (reports g st (events ++ e ∷ [])) (length events) ≡ Some (step g (after g st events) e).report
reports-last g st [] e = refl
reports-last g st (x ∷ events) e = reports-last g (step g st x).state events e

expires-last : (g : Group) (events : List Event) (e : Event) (a : AccBody) → In (step g (after g (opening []) events) e).report.expired a → ExpiresAt g (opening []) (events ++ e ∷ []) (length events) a
expires-last g events e a i =
    record {
      report = (step g (after g (opening []) events) e).report;
      reported = reports-last g (opening []) events e;
      expired = Contains-from_In _ _ i;
    }

told-away : (s : Setting) (n : Node) (at : ℕ) (a : AccBody) → TicksTell s n (expiry at a) → IsToldExpired (step s.group (after s.group (opening []) n.lived) Passes).state.moment (step s.group (after s.group (opening []) n.lived) Passes).report at a
unfolding state_of
told-away s n at a i = told-expired _ _ at a i

moment-at : (s : Setting) (n : Node) → (state_of s (at_tick s n)).moment ≡ (step s.group (after s.group (opening []) n.lived) Passes).state.moment
unfolding state_of
moment-at s n = ap (λ (st : State). st.moment) (state-at_tick s n)

-- What a tick among the acts expires no note rules out.
pub expires : (s : Setting) (start : Node) (acts before behind : List Act) (at : ℕ) (a : AccBody) → acts ≡ before ++ Calls Ticks ∷ behind → TicksTell s (node_behind s start before) (expiry at a) → Expires s start acts at a
expires s start acts before behind at a split tells =
    let n = node_behind s start before in
    let x = told-away s n at a tells in
    let life = n.lived ++ Passes ∷ [] in
    let expired : ExpiresAt s.group (opening []) life (length n.lived) a = expires-last s.group n.lived Passes a x.expired in
    record {
      tick = record { before = before; behind = behind; ticks = split; at = moment-at s n ∙ x.brings };
      expires = expired;
      none_outdates = λ i note earlier accepted older. none_expires s.group (opening []) life i (length n.lived) note a earlier accepted older expired;
      only_again = λ i note earlier accepted against answered. revokes s.group [] life i (length n.lived) note a earlier accepted against answered expired;
    }

-- ## What a delivery accepts

-- A record among these was accepted, behind those before it.
pub record IsAmong (s : Setting) (n : Node) (records : List Record) (body : Body) : Type 0 where
  pub earlier : List Record
  pub taken : Record
  pub later : List Record
  pub split : records ≡ earlier ++ taken ∷ later
  pub says : taken.body ≡ body
  pub no_fault : refusal s (when_all_handled s n earlier) taken ≡ None

took-body : (b body : Body) (f g : Option Fault) → told.Took b f ≡ told.Took body g → b ≡ body
took-body b body f g e = cc

took-fault : (b body : Body) (f g : Option Fault) → told.Took b f ≡ told.Took body g → f ≡ g
took-fault b body f g e = cc

is-among : (s : Setting) (records : List Record) (n : Node) (body : Body) → In (verdicts s n records) (told.Took body None) → IsAmong s n records body
is-among s [] n body i = absurd i
is-among s (r ∷ records) n body (inl is) =
    record { earlier = []; taken = r; later = records; split = refl; says = took-body r.body body (refusal s n r) None is; no_fault = took-fault r.body body (refusal s n r) None is }
is-among s (r ∷ records) n body (inr i) =
    let x = is-among s records (when_handled s n r) body i in
    record { earlier = r ∷ x.earlier; taken = x.taken; later = x.later; split = ap (λ (xs : List Record). r ∷ xs) x.split; says = x.says; no_fault = x.no_fault }

abbrev taken_event : ℕ → Body → journal.Event
taken_event moment body = record { moment = moment; what = told.Took body None }

-- what is told at this moment is among what is told, and at this moment
pub record IsAt (moment : ℕ) (ws : List whats.What) (at : ℕ) (w : whats.What) : Type 0 where
  pub among : In ws w
  pub same : moment ≡ at

pub in-all_at : (moment : ℕ) (ws : List whats.What) (at : ℕ) (w : whats.What) → In (all_at moment ws) (record { moment = at; what = w }) → IsAt moment ws at w
in-all_at moment ws at w i =
    let x = In-from_map (λ what. let made : journal.Event = record { moment = moment; what = what } in made) ws (record { moment = at; what = w }) i in
    record { among = subst (In ws) (ap (λ (e : journal.Event). e.what) x.1.1) x.1.0; same = ap (λ (e : journal.Event). e.moment) x.1.1 }

-- what a call tells that passes a test is among these
pub in-told_that : (test : whats.What → Bool) (c : Call) (moment : ℕ) (ws : List whats.What) (at : ℕ) (w : whats.What) → told_that test c ≡ all_at moment ws → test w ≡ true → In c.told (record { moment = at; what = w }) → IsAt moment ws at w
in-told_that test c moment ws at w same passes i =
    in-all_at moment ws at w (subst (λ (es : List journal.Event). In es (record { moment = at; what = w })) same (In-filter (λ (e : journal.Event). test e.what) c.told (record { moment = at; what = w }) i passes))

-- The call is a delivery, which accepts a record of this body.
pub record TakesNow (s : Setting) (n : Node) (i : Input) (at : ℕ) (body : Body) : Type 0 where
  pub bytes : List ℕ
  pub is : i ≡ Delivers bytes
  pub same : (state_of s n).moment ≡ at
  pub from : ℕ
  pub earlier : List Record
  pub taken : Record
  pub later : List Record
  pub read : read_of bytes ≡ Ok (kinds.Records from (earlier ++ taken ∷ later))
  pub says : taken.body ≡ body
  pub no_fault : refusal s (when_all_handled s n earlier) taken ≡ None

unfoldable pub takes-among : (s : Setting) (n : Node) (bytes : List ℕ) (from : ℕ) (records more : List Record) (at : ℕ) (body : Body) → read_of bytes ≡ Ok (kinds.Records from (records ++ more)) → (state_of s n).moment ≡ at → IsAmong s n records body → TakesNow s n (Delivers bytes) at body
takes-among s n bytes from records more at body read same x =
    record {
      bytes = bytes;
      is = refl;
      same = same;
      from = from;
      earlier = x.earlier;
      taken = x.taken;
      later = x.later ++ more;
      read = read ∙ ap (λ (rs : List Record). Ok (kinds.Records from rs)) (ap (λ (rs : List Record). rs ++ more) x.split ∙ append_assoc x.earlier (x.taken ∷ x.later) more);
      says = x.says;
      no_fault = x.no_fault;
    }

pub nil-right : {A : Type 0} (xs : List A) → xs ++ [] ≡ xs
nil-right [] = refl
nil-right (x ∷ xs) = ap (λ ys. x ∷ ys) (nil-right xs)

takes-heard : (s : Setting) (n : Node) (bytes : List ℕ) (heard : Result Datagram ℕ) (at : ℕ) (body : Body) → read_of bytes ≡ heard → IsAt (state_of s n).moment (verdicts s n (records_in heard)) at (told.Took body None) → TakesNow s n (Delivers bytes) at body
takes-heard s n bytes (Err place) at body read x = absurd x.among
takes-heard s n bytes (Ok (kinds.Ping from nonce)) at body read x = absurd x.among
takes-heard s n bytes (Ok (kinds.Pong from nonce)) at body read x = absurd x.among
takes-heard s n bytes (Ok (kinds.Summary from flag theirs)) at body read x = absurd x.among
takes-heard s n bytes (Ok (kinds.Records from records)) at body read x =
    takes-among s n bytes from records [] at body (read ∙ ap (λ (rs : List Record). Ok (kinds.Records from rs)) (sym (nil-right records))) x.same (is-among s records n body x.among)

silent-not : (m : ℕ) (body : Body) → told.Silent m ≡ told.Took body None → ⊥
silent-not m body e = cc

used-not : (index : ℕ) (body : Body) → told.Exhausted index ≡ told.Took body None → ⊥
used-not index body e = cc

spent-not : (index : ℕ) (b body : Body) → told.Spent index b ≡ told.Took body None → ⊥
spent-not index b body e = cc

stopped-not : (body : Body) → told.Stopped ≡ told.Took body None → ⊥
stopped-not body e = cc

none-accusing : (s : Setting) (st : State) (index : ℕ) (ms : List ℕ) (body : Body) → In (accusing_told s st index ms) (told.Took body None) → ⊥
none-accusing s st index [] body i = i
none-accusing s st index (m ∷ ms) body (inl e) = silent-not m body e
none-accusing s st index (m ∷ ms) body (inr i) = by (none-accusing s st index ms body) (none-accusing s st (index + 1) ms body) (eqb index s.indexes) i
  where
    by : (In (accusing_told s st index ms) (told.Took body None) → ⊥) → (In (accusing_told s st (index + 1) ms) (told.Took body None) → ⊥) → (b : Bool)
        → In (cond b (told.Exhausted index ∷ accusing_told s st index ms) (told.Spent index (accusation_of s st m) ∷ accusing_told s st (index + 1) ms)) (told.Took body None) → ⊥
    by up left true (inl e) = used-not index body e
    by up left true (inr j) = up j
    by up left false (inl e) = spent-not index (accusation_of s st m) body e
    by up left false (inr j) = left j

none-leaving : (s : Setting) (n : Node) (body : Body) (up : Bool) → In (cond up (told.Exhausted n.stored.next) (told.Spent n.stored.next (leaving s n.stored)) ∷ []) (told.Took body None) → ⊥
none-leaving s n body true (inl e) = used-not n.stored.next body e
none-leaving s n body false (inl e) = spent-not n.stored.next (leaving s n.stored) body e
none-leaving s n body up (inr none) = none

-- A call that reports what it accepts is a delivery.
pub called-taken : (s : Setting) (n : Node) (i : Input) (at : ℕ) (body : Body) → In (call_of s n i).told (taken_event at body) → TakesNow s n i at body
called-taken s n (Delivers bytes) at body i =
    takes-heard s n bytes (read_of bytes) at body refl
    (in-told_that is_took (delivered s n bytes) (state_of s n).moment (verdicts s n (records_in (read_of bytes))) at (told.Took body None) (took-delivered s n bytes) refl i)
called-taken s n Leaves at body i =
    absurd (none-leaving s n body (is_used_up s n) (in-told_that is_apart (left s n) (state_of s n).moment (cond (is_used_up s n) (told.Exhausted n.stored.next) (told.Spent n.stored.next (leaving s n.stored)) ∷ []) at (told.Took body None) (leaving-tells s n) refl i).among)
called-taken s n Ticks at body i =
    let p : Node = at_tick s n in
    let st : State = state_of s p in
    let all : List ℕ = to_accuse s p st in
    absurd (none-accusing s st p.stored.next all body (in-told_that is_apart (ticked s n) st.moment (accusing_told s st p.stored.next all) at (told.Took body None) (tick-tells s n) refl i).among)

cut-delivery : (s : Setting) (n : Node) (bytes : List ℕ) (put at : ℕ) (body : Body) → StopsAnswering s n bytes put → In (called s n (Delivers bytes) (Some put)).told (taken_event at body) → TakesNow s n (Delivers bytes) at body
cut-delivery s n bytes put at body stop i =
    let x = in-told_that is_took (called s n (Delivers bytes) (Some put)) _ _ at (told.Took body None) (verdicts-stop s n bytes put stop) refl i in
    takes-among s n bytes stop.from (stop.before ++ stop.at ∷ []) stop.behind at body
    (stop.read ∙ ap (λ (rs : List Record). Ok (kinds.Records stop.from rs)) (sym (append_assoc stop.before (stop.at ∷ []) stop.behind))) x.same
    (is-among s (stop.before ++ stop.at ∷ []) n body x.among)

none-stopping : (ws : List whats.What) (m : ℕ) (body : Body) → (In ws (told.Took body None) → ⊥) → In ((ws ++ told.Silent m ∷ []) ++ told.Stopped ∷ []) (told.Took body None) → ⊥
none-stopping ws m body none i =
    elim (In-append_cases (ws ++ told.Silent m ∷ []) (told.Stopped ∷ []) (told.Took body None) i) [
      | inl j ↦
          (elim (In-append_cases ws (told.Silent m ∷ []) (told.Took body None) j) [
            | inl k ↦ none k
            | inr (inl e) ↦ silent-not m body e
            | inr (inr k) ↦ k
          ])
      | inr (inl e) ↦ stopped-not body e
      | inr (inr k) ↦ k
    ]

cut-tick : {A : Type 0} (s : Setting) (n : Node) (put at : ℕ) (body : Body) → StopsAccusing s n put → In (called s n Ticks (Some put)).told (taken_event at body) → A
cut-tick s n put at body stop i =
    let st : State = state_of s (at_tick s n) in
    let ws = accusing_told s st (at_tick s n).stored.next (unaccused s st stop.before) in
    let x = in-told_that is_apart (called s n Ticks (Some put)) st.moment ((ws ++ told.Silent stop.at ∷ []) ++ told.Stopped ∷ []) at (told.Took body None) (tick-stops s n put stop).told refl i in
    absurd (none-stopping ws stop.at body (none-accusing s st (at_tick s n).stored.next (unaccused s st stop.before) body) x.among)

cut-leaving : {A : Type 0} (s : Setting) (n : Node) (put at : ℕ) (body : Body) → StopsLeaving s n put → In (called s n Leaves (Some put)).told (taken_event at body) → A
cut-leaving s n put at body stop i =
    let x = in-all_at (state_of s n).moment (told.Stopped ∷ []) at (told.Took body None) (subst (λ (es : List journal.Event). In es (taken_event at body)) (leaving-stops s n put stop).told i) in
    elim x.among [ inl e ↦ absurd (stopped-not body e) | inr none ↦ absurd none ]

pub cut-taken : (s : Setting) (n : Node) (i : Input) (c : Call) (at : ℕ) (body : Body) → IsCut s n i c → In c.told (taken_event at body) → TakesNow s n i at body
cut-taken s n i c at body cut among = by i (only-signatures s n i cut.put (ap (λ (x : Call). x.ended) (sym cut.is) ∙ cut.ended)) (subst (λ (x : Call). In x.told (taken_event at body)) cut.is among)
  where
    by : (i : Input) → StopsIn s n i cut.put → In (called s n i (Some cut.put)).told (taken_event at body) → TakesNow s n i at body
    by (Delivers bytes) stop j = cut-delivery s n bytes cut.put at body stop j
    by Ticks stop j = cut-tick s n cut.put at body stop j
    by Leaves stop j = cut-leaving s n cut.put at body stop j

-- ## The start

of-life : {X : Type 0} (f : X → whats.What) (xs : List X) (w : whats.What) → ((x : X) → is_of_life (f x) ≡ true) → In (map f xs) w → is_of_life w ≡ true
of-life f xs w all i = let x = In-from_map f xs w i in subst (λ v. is_of_life v ≡ true) x.1.1 (all x.0)

reported-of-life : (r : Report) (w : whats.What) → In (whats_of r) w → is_of_life w ≡ true
reported-of-life r w i =
    elim (In-append_cases (map told.Expired r.expired ++ map told.Removed r.removed ++ map told.Entered r.entered) (map told.Fell r.fell) w i) [
      | inl j ↦
          (elim (In-append_cases (map told.Expired r.expired ++ map told.Removed r.removed) (map told.Entered r.entered) w j) [
            | inl k ↦
                (elim (In-append_cases (map told.Expired r.expired) (map told.Removed r.removed) w k) [
                  | inl l ↦ of-life told.Expired r.expired w (λ x. refl) l
                  | inr l ↦ of-life told.Removed r.removed w (λ x. refl) l
                ])
            | inr k ↦ of-life told.Entered r.entered w (λ x. refl) k
          ])
      | inr j ↦ of-life told.Fell r.fell w (λ x. refl) j
    ]

-- no step of a life reports anything else
pub none-in-report : (moment : ℕ) (r : Report) (e : journal.Event) → is_of_life e.what ≡ false → In (told_of moment r) e → ⊥
none-in-report moment r e other i =
    let x = In-from_map (λ what. let made : journal.Event = record { moment = moment; what = what } in made) (whats_of r) e i in
    false≢true (sym other ∙ sym (ap (λ (y : journal.Event). is_of_life y.what) x.1.1) ∙ reported-of-life r x.0 x.1.0)

pub taken-no-start : (at : ℕ) (body : Body) → IsOfNoStart (taken_event at body)
taken-no-start at body = record { no_step = λ g events x stays i. none-in-report _ _ (taken_event at body) refl i; unspent = λ index n e. spent-not index (Note n) body e }

-- ## What a course accepts

pub state-last : (g : Group) (events : List Event) (e : Event) → state_at g (opening []) (events ++ e ∷ []) (length events) ≡ after g (opening []) events
state-last g events e = ap (after g (opening [])) (take_at events (e ∷ []) (length events) refl)

note-next : (s : Setting) (n : Node) (r : Record) (note : NoteBody) → r.body ≡ Note note → refusal s n r ≡ None → AcceptsNext s.group n.lived (Note note)
unfolding refusal state_of
note-next s n r note is fine =
    record {
      event = at-last n.lived (Notes note);
      no_fault = ap (λ (st : State). note_fault s.group.t st note) (state-last s.group n.lived (Notes note)) ∙ (option_or-none _ _ (sym (ap (refusal_of s n r) is) ∙ fine)).0;
    }

accusation-next : (s : Setting) (n : Node) (r : Record) (a : AccBody) → r.body ≡ Accusation a → refusal s n r ≡ None → AcceptsNext s.group n.lived (Accusation a)
unfolding refusal state_of
accusation-next s n r a is fine =
    let life = n.lived ++ Accuses a ∷ [] in
    let accepted : IsAcceptedAt s.group (opening []) life (length n.lived) a =
    record {
      event = at-last n.lived (Accuses a);
      no_fault = ap (λ (st : State). accusation_fault s.group.t st a) (state-last s.group n.lived (Accuses a)) ∙ (option_or-none _ _ (sym (ap (refusal_of s n r) is) ∙ fine)).0;
    } in
    (accepted, λ i note earlier noted older. none_accepted s.group (opening []) life i (length n.lived) note a earlier noted older accepted)

pub accepts-next : (s : Setting) (n : Node) (r : Record) (body : Body) → r.body ≡ body → refusal s n r ≡ None → AcceptsNext s.group n.lived body
accepts-next s n r (Certificate c) is fine = tt
accepts-next s n r (Note note) is fine = note-next s n r note is fine
accepts-next s n r (Accusation a) is fine = accusation-next s n r a is fine

-- a record without a fault verifies under its author's key
pub taken-verifies : (s : Setting) (n : Node) (r : Record) (body : Body) → r.body ≡ body → refusal s n r ≡ None → VerifiesFor s (author_key s n body) r
unfolding refusal
taken-verifies s n r (Certificate c) is fine = signature-verifies s (Some s.authority) r (option_or-none _ _ (sym (ap (refusal_of s n r) is) ∙ fine)).1
taken-verifies s n r (Note note) is fine =
    signature-verifies s (public_key_of n note.member) r (option_or-none _ _ (option_or-none _ _ (sym (ap (refusal_of s n r) is) ∙ fine)).1).0
taken-verifies s n r (Accusation a) is fine = signature-verifies s (public_key_of n a.accuser) r (option_or-none _ _ (sym (ap (refusal_of s n r) is) ∙ fine)).1

pub life-called : (s : Setting) (start : Node) (before : List Act) (bytes : List ℕ) → life_behind s start (before ++ Calls (Delivers bytes) ∷ []) ≡ (delivered s (node_behind s start before) bytes).node.lived
life-called s start before bytes =
    ap (λ (x : Node). x.lived) (acts-behind s start before (Calls (Delivers bytes)))

-- What a delivery among the acts accepts no note rules out.
unfoldable pub accepts : (s : Setting) (start : Node) (acts before behind : List Act) (i : Input) (at : ℕ) (body : Body) → acts ≡ before ++ Calls i ∷ behind → TakesNow s (node_behind s start before) i at body → Accepts s start acts at body
accepts s start acts before behind i at body split x =
    let n : Node = node_behind s start before in
    let on = grown-on s n x.bytes x.from x.earlier x.taken x.later x.read x.no_fault in
    record {
      before = before;
      bytes = x.bytes;
      behind = behind;
      delivers = split ∙ ap (λ (y : Input). before ++ Calls y ∷ behind) x.is;
      at = x.same;
      from = x.from;
      earlier = x.earlier;
      taken = x.taken;
      later = x.later;
      read = x.read;
      says = x.says;
      no_fault = x.no_fault;
      verified = taken-verifies s (when_all_handled s n x.earlier) x.taken body x.says x.no_fault;
      accepted = accepts-next s (when_all_handled s n x.earlier) x.taken body x.says x.no_fault;
      more = on.more;
      goes_on =
          life-called s start before x.bytes ∙ on.grew
          ∙ ap (λ (b : Body). ((when_all_handled s n x.earlier).lived ++ event_of s b ∷ []) ++ on.more) x.says;
    }
