-- What a call reports of removals, and what those rest on.
use Rattle.std.proofs.Common.{◌≡◌, ◌⊎◌, ℕ, ◌+◌, ◌<◌, zero, suc, Bool, true, false, cond, eqb, List, [], ◌∷◌, ◌++◌, length, Option, Some, None, inl, inr, refl, ap, sym, ◌∙◌, subst, append_assoc, append-nil, arith, map, fold}
use Rattle.std.specs.Prelude.{◌&&◌, Result, Ok, Err, filter}
use Rattle.std.specs.List.{range_with_len, slice_get}
use Rattle.std.proofs.lemmas.Bool.{and_parts, cond_both, eqb-true, false≢true}
use Rattle.std.proofs.lemmas.List.{append_cancel_left, length-append, take_at}
use Rattle.ff_ids.specs.declared.AccBody.{AccBody}
use Rattle.ff_ids.specs.declared.Fault.{Fault}
use Rattle.ff_ids.specs.declared.Group.{Group}
use Rattle.ff_ids.specs.declared.NoteBody.{NoteBody}
use Rattle.ff_ids.specs.Views.{State, in_view}
use Rattle.ff_ids.specs.Steps.{Event, Notes, Accuses, Ticks as Passes, Report, step}
use Rattle.ff_ids.specs.Lives.{after, opening, state_at, Departs, ByNote, ByAccusation, IsRemovedAt, RestsOn}
use Rattle.ff_ids.specs.Masks.{all_rings, enabled, enables, good_mask, ring_count}
use Rattle.ff_ids.specs.Notes.{is_leaving}
use Rattle.life_laws.proofs.Lists.{In, In-append_cases, In-filter, In-from_map}
use Rattle.life_laws.proofs.LifeLemmas.{state_at-next}
use Rattle.life_laws.proofs.JustifiedLemmas.{justified}
use Rattle.records.specs.declared.keys.Key.{Key}
use Rattle.records.specs.declared.CertBody.{CertBody}
use Rattle.records.specs.declared.Body.{Body}
use Rattle.records.specs.declared.Body.TheVariants.{Certificate, Note, Accusation}
use Rattle.records.specs.declared.Record.{Record}
use Rattle.epoch_store.specs.declared.Stored.{Stored}
use Rattle.datagram.specs.declared.Datagram.{Datagram}
use Rattle.datagram.specs.declared.Datagram.TheVariants as kinds
use Rattle.datagram.specs.Grammar.{read_of}
use Rattle.journal.specs.declared.event.Event as journal
use Rattle.journal.specs.declared.event.What as whats
use Rattle.journal.specs.declared.event.What.TheVariants as told
use Rattle.rebuttal.proofs.Answering.{good_parts, none_above}
use Rattle.rebuttal.proofs.Masks.{all_rings-good}
use Rattle.trace.proofs.UprightLemmas.{Left, left-by}
use Rattle.node_rules.specs.Nodes.{Setting, Node, event_of, neighbours, neighbours_and, state_of}
use Rattle.node_rules.specs.Refusals.{refusal}
use Rattle.node_rules.specs.Calls.{Call, begun, is_used_up, lives, own_record, signs, spends, takes, tells, told_of, wants, whats_of}
use Rattle.node_rules.specs.Deliveries.{answering_note, asked_of, asked_with, delivered, gives_note, handles, handles_all, hears, is_told, judged, may_rise, returning_note, settles}
use Rattle.node_rules.specs.Leaving.{leaving, leaving_note, leaves, left}
use Rattle.node_rules.specs.Replies.{first_mask}
use Rattle.node_rules.specs.Ticking.{accusation_on, accuses, accuses_all, has_accused, passed, probed_at, ring_for, spread_at, ticked, wants_accusation}
use Rattle.node_rules.specs.Starting.{blank, first_note, opened, started}
use Rattle.node_rules.specs.OnDisks.{IsCut}
use Rattle.node_rules.proofs.Called.{delivered_until, holds-called, left_until, ticked_until}
use Rattle.node_rules.proofs.Carrying.{AsksBack}
use Rattle.node_rules.proofs.Small.{node-spreads}
use Rattle.node_rules.specs.Lives.{AreCertificates, Input, Delivers, Ticks, Leaves, TellsItsLife, call_of, is_of_life, told_by}
use Rattle.node_rules.specs.Gaining.{accusation_events}
use Rattle.node_rules.specs.Outgoing.{accusation_of, at_tick, to_accuse}
use Rattle.node_rules.specs.Verdicts.{when_all_handled}
use Rattle.node_rules.proofs.Gains.{lived-ticked}
use Rattle.node_rules.proofs.Handling.{node-all, node-wants, unread}
use Rattle.node_rules.proofs.Sendings.{ping-brings, pong-brings, summary-brings}
use Rattle.node_rules.proofs.Telling.{call-tells, delivered_until-tells, left_until-tells, ticked_until-tells}
use Rattle.node_rules.proofs.OwnKey.{KeepsKey}
use Rattle.turn_rules.specs.Turns.{Act, Calls}
use Rattle.turn_rules.specs.Courses.{node_behind}
use Rattle.node_rules.specs.Claims.{ClaimedVerify}
use Rattle.turn_rules.specs.Removals.{Removes}
use Rattle.turn_laws.proofs.OriginLemmas.{all-came, at-append}

-- ## Which step removes

after-append : (g : Group) (st : State) (xs ys : List Event) → after g st (xs ++ ys) ≡ after g (after g st xs) ys
after-append g st [] ys = refl
after-append g st (x ∷ xs) ys = after-append g (step g st x).state xs ys

pub at-last : (events : List Event) (e : Event) → slice_get (events ++ e ∷ []) (length events) ≡ Some e
at-last [] e = refl
at-last (x ∷ events) e = at-last events e

-- who leaves by the last event is removed at its place
pub removed-last : (g : Group) (events : List Event) (e : Event) (m : ℕ) → Left (after g (opening []) events) (step g (after g (opening []) events) e).state m → IsRemovedAt g (opening []) (events ++ e ∷ []) (length events) m
removed-last g events e m left =
    let there : state_at g (opening []) (events ++ e ∷ []) (length events) ≡ after g (opening []) events = ap (after g (opening [])) (take_at events (e ∷ []) (length events) refl) in
    let next = state_at-next g (opening []) (events ++ e ∷ []) (length events) e (at-last events e) in
    record {
      before = ap (λ (st : State). in_view st m) there ∙ left.before;
      later = ap (λ (st : State). in_view st m) next ∙ ap (λ (st : State). in_view (step g st e).state m) there ∙ left.after;
    }

within-last : (events : List Event) (e : Event) → length events < length (events ++ e ∷ [])
within-last events e = omega (arith, length-append events (e ∷ []))

some-is : {X : Type 0} (x y : X) → Some x ≡ Some y → x ≡ y
some-is x y e = cc

-- The event at the last place.
is-last : (events : List Event) (e x : Event) → slice_get (events ++ e ∷ []) (length events) ≡ Some x → e ≡ x
is-last events e x at = some-is e x (sym (at-last events e) ∙ at)

-- The event is a note by which the member leaves.
pub record IsLeavingNote (m : ℕ) (x : Event) : Type 0 where
  pub note : NoteBody
  pub is : x ≡ Notes note
  pub of_member : note.member ≡ m
  pub leaving : is_leaving note ≡ true

-- What removes the member: a tick, or such a note.
abbrev pub IsRemoving : ℕ → Event → Type 0
IsRemoving m x = (x ≡ Passes) ⊎ IsLeavingNote m x

removing : (g : Group) (events : List Event) (x : Event) (m : ℕ) → Departs g (opening []) (events ++ x ∷ []) (length events) m → IsRemoving m x
removing g events x m (ByNote n l) = inr (record { note = n; is = is-last events x (Notes n) l.accepted.event; of_member = l.of_member; leaving = l.leaving })
removing g events x m (ByAccusation i a r) = inl (is-last events x Passes r.tick)

-- Nothing else removes anyone from the view of a life.
only-these-remove : (g : Group) (events : List Event) (x : Event) (m : ℕ) → In (step g (after g (opening []) events) x).report.removed m → IsRemoving m x
only-these-remove g events x m i =
    let left = left-by g (after g (opening []) events) x m i in
    removing g events x m (justified g [] (events ++ x ∷ []) (length events) m (within-last events x) (removed-last g events x m left))

-- What the removal of a tick rests on.
record RestsLast (g : Group) (events : List Event) (m : ℕ) : Type 0 where
  accepted : ℕ
  accusation : AccBody
  rests : RestsOn g (opening []) (events ++ Passes ∷ []) (length events) m accepted accusation

resting : (g : Group) (events : List Event) (m : ℕ) → Departs g (opening []) (events ++ Passes ∷ []) (length events) m → RestsLast g events m
resting g events m (ByNote n l) = absurd (tick-not n (is-last events Passes (Notes n) l.accepted.event))
  where
    tick-not : (n : NoteBody) → Passes ≡ Notes n → ⊥
    tick-not n e = cc
resting g events m (ByAccusation i a r) = record { accepted = i; accusation = a; rests = r }

rests-last : (g : Group) (events : List Event) (m : ℕ) → Left (after g (opening []) events) (step g (after g (opening []) events) Passes).state m → RestsLast g events m
rests-last g events m left = resting g events m (justified g [] (events ++ Passes ∷ []) (length events) m (within-last events Passes) (removed-last g events Passes m left))

-- ## What is reported of it

abbrev pub removal : ℕ → ℕ → journal.Event
removal moment m = record { moment = moment; what = told.Removed m }

not-among : {X : Type 0} (f : X → whats.What) (xs : List X) (m : ℕ) → ((x : X) → f x ≡ told.Removed m → ⊥) → In (map f xs) (told.Removed m) → ⊥
not-among f xs m other i = let x = In-from_map f xs (told.Removed m) i in other x.0 x.1.1

removed-here : (xs : List ℕ) (m : ℕ) → In (map told.Removed xs) (told.Removed m) → In xs m
removed-here xs m i =
    let x = In-from_map told.Removed xs (told.Removed m) i in
    subst (In xs) (number x.0 x.1.1) x.1.0
  where
    number : (k : ℕ) → told.Removed k ≡ told.Removed m → k ≡ m
    number k e = cc

expired-not : (m : ℕ) (a : AccBody) → told.Expired a ≡ told.Removed m → ⊥
expired-not m a e = cc

entered-not : (m k : ℕ) → told.Entered k ≡ told.Removed m → ⊥
entered-not m k e = cc

fell-not : (m : ℕ) (a : AccBody) → told.Fell a ≡ told.Removed m → ⊥
fell-not m a e = cc

removed-among : (r : Report) (m : ℕ) → In (whats_of r) (told.Removed m) → In r.removed m
removed-among r m i =
    elim (In-append_cases (map told.Expired r.expired ++ map told.Removed r.removed ++ map told.Entered r.entered) (map told.Fell r.fell) (told.Removed m) i) [
      | inl j ↦
          (elim (In-append_cases (map told.Expired r.expired ++ map told.Removed r.removed) (map told.Entered r.entered) (told.Removed m) j) [
            | inl k ↦
                (elim (In-append_cases (map told.Expired r.expired) (map told.Removed r.removed) (told.Removed m) k) [
                  | inl l ↦ absurd (not-among told.Expired r.expired m (expired-not m) l)
                  | inr l ↦ removed-here r.removed m l
                ])
            | inr k ↦ absurd (not-among told.Entered r.entered m (entered-not m) k)
          ])
      | inr j ↦ absurd (not-among told.Fell r.fell m (fell-not m) j)
    ]

pub record IsToldRemoved (moment : ℕ) (r : Report) (at m : ℕ) : Type 0 where
  pub removed : In r.removed m
  pub brings : moment ≡ at

pub told-removed : (moment : ℕ) (r : Report) (at m : ℕ) → In (told_of moment r) (removal at m) → IsToldRemoved moment r at m
told-removed moment r at m i =
    let x = In-from_map (λ what. let made : journal.Event = record { moment = moment; what = what } in made) (whats_of r) (removal at m) i in
    record {
      removed = removed-among r m (subst (In (whats_of r)) (ap (λ (e : journal.Event). e.what) x.1.1) x.1.0);
      brings = ap (λ (e : journal.Event). e.moment) x.1.1;
    }

-- what a step of the life reports
abbrev pub reported : Group → State → Event → List journal.Event
reported g st e = told_of (step g st e).state.moment (step g st e).report

-- A step of a life that reports it is of this kind.
pub record IsBy (Kind : Event → Type 0) (e : journal.Event) : Type 0 where
  pub of_life : is_of_life e.what ≡ true
  pub only : (g : Group) (events : List Event) (x : Event) → In (reported g (after g (opening []) events) x) e → Kind x

abbrev pub IsPassing : Event → Type 0
IsPassing x = x ≡ Passes

-- No step of a life but a tick reports it.
abbrev pub IsOfTicks : journal.Event → Type 0
IsOfTicks e = IsBy IsPassing e

pub removal-by : (at m : ℕ) → IsBy (IsRemoving m) (removal at m)
removal-by at m = record { of_life = refl; only = λ g events x i. only-these-remove g events x m (told-removed _ _ at m i).removed }

-- ## What a call adds to its life

-- Each of these events is so, in the life before it.
abbrev pub Along : (List Event → Event → Type 0) → List Event → List Event → Type 0
Along Q life [] = Unit {0}
Along Q life (x ∷ events) = Q life x × Along Q (life ++ x ∷ []) events

along-next : (Q : List Event → Event → Type 0) (life events : List Event) (e : Event) → Q (life ++ events) e → Along Q life events → Along Q life (events ++ e ∷ [])
along-next Q life [] e last h = (subst (λ (xs : List Event). Q xs e) (append-nil life) last, tt)
along-next Q life (x ∷ events) e last h = (h.0, along-next Q (life ++ x ∷ []) events e (subst (λ (xs : List Event). Q xs e) (sym (append_assoc life (x ∷ []) events)) last) h.1)

-- Each event of the node's life behind these is so.
pub record IsGrown (Q : List Event → Event → Type 0) (base : List Event) (n : Node) : Type 0 where
  pub more : List Event
  pub grew : n.lived ≡ base ++ more
  pub along : Along Q base more

pub grown-same : (Q : List Event → Event → Type 0) (base : List Event) (n : Node) → n.lived ≡ base → IsGrown Q base n
grown-same Q base n same = record { more = []; grew = same ∙ sym (append-nil base); along = tt }

grown-more : (Q : List Event → Event → Type 0) (base : List Event) (n next : Node) (e : Event) → next.lived ≡ n.lived ++ e ∷ [] → Q n.lived e → IsGrown Q base n → IsGrown Q base next
grown-more Q base n next e lived new h = record {
  more = h.more ++ e ∷ [];
  grew = lived ∙ ap (λ (xs : List Event). xs ++ e ∷ []) h.grew ∙ append_assoc base h.more (e ∷ []);
  along = along-next Q base h.more e (subst (λ (xs : List Event). Q xs e) h.grew new) h.along;
}

-- with the event before it
grown-behind : (Q : List Event → Event → Type 0) (base : List Event) (x : Event) (n : Node) → Q base x → IsGrown Q (base ++ x ∷ []) n → IsGrown Q base n
grown-behind Q base x n first h = record { more = x ∷ h.more; grew = h.grew ∙ append_assoc base (x ∷ []) h.more; along = (first, h.along) }

lived-takes : (s : Setting) (r : Record) (c : Call) → (takes s r c).node.lived ≡ c.node.lived ++ event_of s r.body ∷ []
unfolding takes lives
lived-takes s r c = refl

lived-signs : (s : Setting) (b : Body) (c : Call) → (signs s b c).node.lived ≡ c.node.lived ++ event_of s b ∷ []
unfolding signs takes lives
lived-signs s b c = refl

grown-takes : (Q : List Event → Event → Type 0) (s : Setting) (base : List Event) (r : Record) (c : Call) → Q c.node.lived (event_of s r.body) → IsGrown Q base c.node → IsGrown Q base (takes s r c).node
grown-takes Q s base r c new h = grown-more Q base c.node (takes s r c).node (event_of s r.body) (lived-takes s r c) new h

pub grown-wants : (Q : List Event → Event → Type 0) (works : Bool) (s : Setting) (base : List Event) (body : Body) (addressees : State → List ℕ) (c : Call) → (works ≡ true → is_used_up s c.node ≡ false → Q c.node.lived (event_of s body)) → IsGrown Q base c.node
    → IsGrown Q base (wants works s body addressees c).node
grown-wants Q works s base body addressees c new h =
    let signed : Node = (signs s body c).node in
    subst (IsGrown Q base) (sym (node-wants works s body addressees c))
    (cond_both {A = Node} (is_used_up s c.node) c.node (cond works signed c.node) (IsGrown Q base) (λ up. h)
    (λ left. cond_both {A = Node} works signed c.node (IsGrown Q base) (λ yes. grown-more Q base c.node signed (event_of s body) (lived-signs s body c) (new yes left) h) (λ no. h)))

-- What a record adds to the life, with the note that it asks, is so.
pub record Suits (Q : List Event → Event → Type 0) (s : Setting) (n : Node) (r : Record) : Type 0 where
  pub taken : refusal s n r ≡ None → Q n.lived (event_of s r.body)
  pub answered : (a : AccBody) → refusal s n r ≡ None → r.body ≡ Accusation a → eqb a.accused s.me ≡ true → Q (n.lived ++ event_of s r.body ∷ []) (Notes (answering_note s n.stored a))
  pub returned : (a : AccBody) → AsksBack s n r a → Q n.lived (Notes (returning_note s n.stored))

grown-settles : (Q : List Event → Event → Type 0) (s : Setting) (base : List Event) (f : Option Fault) (r : Record) (c : Call) → refusal s c.node r ≡ f → Suits Q s c.node r → IsGrown Q base c.node → IsGrown Q base (settles s f r c).node
grown-settles Q s base (Some fault) r c is fits h = h
grown-settles Q s base None r c fine fits h = grown-takes Q s base r (tells s (told.Took r.body None) c) (fits.taken fine) h

grown-asked_of : (Q : List Event → Event → Type 0) (works : Bool) (s : Setting) (base : List Event) (f : Option Fault) (a : AccBody) (r : Record) (c : Call)
    → refusal s c.node r ≡ f → r.body ≡ Accusation a → eqb a.accused s.me ≡ true → Suits Q s c.node r → IsGrown Q base c.node → IsGrown Q base (gives_note works s (asked_of s c.node f a r) (settles s f r c)).node
grown-asked_of Q works s base None a r c fine is me fits h =
    let note : NoteBody = answering_note s c.node.stored a in
    let c0 : Call = tells s (told.Took r.body None) c in
    grown-wants Q works s base (Note note) (neighbours s) (takes s r c0)
    (λ yes left. subst (λ (xs : List Event). Q xs (Notes note)) (sym (lived-takes s r c0)) (fits.answered a fine is me)) (grown-takes Q s base r c0 (fits.taken fine) h)
grown-asked_of Q works s base (Some fault) a r c refused is me fits h =
    let note : NoteBody = returning_note s c.node.stored in
    let c1 : Call = tells s (told.Took r.body (Some fault)) c in
    cond_both {A = Option NoteBody} (is_told s c.node fault a r) (Some note) None (λ o. IsGrown Q base (gives_note works s o c1).node)
    (λ heard. grown-wants Q works s base (Note note) (neighbours s) c1 (λ yes left. fits.returned a (record { fault = fault; refused = refused; is = is; me = me; told = heard })) h) (λ other. h)

grown-asked : (Q : List Event → Event → Type 0) (works : Bool) (s : Setting) (base : List Event) (f : Option Fault) (b : Body) (r : Record) (c : Call)
    → refusal s c.node r ≡ f → r.body ≡ b → Suits Q s c.node r → IsGrown Q base c.node → IsGrown Q base (gives_note works s (asked_with s c.node f b r) (settles s f r c)).node
grown-asked Q works s base f (Certificate x) r c is says fits h = grown-settles Q s base f r c is fits h
grown-asked Q works s base f (Note x) r c is says fits h = grown-settles Q s base f r c is fits h
grown-asked Q works s base f (Accusation a) r c is says fits h =
    cond_both {A = Option NoteBody} (eqb a.accused s.me && may_rise s.heal c.node) (asked_of s c.node f a r) None (λ o. IsGrown Q base (gives_note works s o (settles s f r c)).node)
    (λ yes. grown-asked_of Q works s base f a r c is says (and_parts _ _ yes).0 fits h) (λ other. grown-settles Q s base f r c is fits h)

pub grown-handles : (Q : List Event → Event → Type 0) (works : Bool) (s : Setting) (base : List Event) (c : Call) (r : Record) → Suits Q s c.node r → IsGrown Q base c.node → IsGrown Q base (handles works s c r).node
unfolding handles
grown-handles Q works s base c r fits h = grown-asked Q works s base (refusal s c.node r) r.body r c refl refl fits h

grown-all : (Q : List Event → Event → Type 0) (s : Setting) (base : List Event) (records : List Record) (c : Call) → ((n : Node) (r : Record) → Suits Q s n r) → IsGrown Q base c.node → IsGrown Q base (handles_all s records c).node
grown-all Q s base [] c fits h = h
grown-all Q s base (r ∷ records) c fits h = grown-all Q s base records (handles true s c r) fits (grown-handles Q true s base c r (fits c.node r) h)

grown-records : (Q : List Event → Event → Type 0) (s : Setting) (n : Node) (bytes : List ℕ) (from : ℕ) (records : List Record) → read_of bytes ≡ Ok (kinds.Records from records) → IsGrown Q n.lived (handles_all s records (begun n)).node → IsGrown Q n.lived (delivered s n bytes).node
unfolding delivered
grown-records Q s n bytes from records read h = subst (λ (came : Result Datagram ℕ). IsGrown Q n.lived (hears s came (begun n)).node) (sym read) h

-- what is no datagram of records adds nothing
pub grown-heard : (Q : List Event → Event → Type 0) (s : Setting) (n : Node) (bytes : List ℕ) (came : Result Datagram ℕ) → read_of bytes ≡ came → ((from : ℕ) (records : List Record) → came ≡ Ok (kinds.Records from records) → IsGrown Q n.lived (handles_all s records (begun n)).node)
    → IsGrown Q n.lived (delivered s n bytes).node
grown-heard Q s n bytes (Err at) read all = grown-same Q n.lived (delivered s n bytes).node (ap (λ (x : Node). x.lived) (unread s n bytes at read).node)
grown-heard Q s n bytes (Ok (kinds.Ping from nonce)) read all = grown-same Q n.lived (delivered s n bytes).node (ap (λ (x : Node). x.lived) (ping-brings s n bytes from nonce read).node_so)
grown-heard Q s n bytes (Ok (kinds.Pong from nonce)) read all = grown-same Q n.lived (delivered s n bytes).node (ap (λ (x : Node). x.lived) (pong-brings s n bytes from nonce read).node_so)
grown-heard Q s n bytes (Ok (kinds.Summary from flag theirs)) read all = grown-same Q n.lived (delivered s n bytes).node (ap (λ (x : Node). x.lived) (summary-brings s n bytes from flag theirs read).node_so)
grown-heard Q s n bytes (Ok (kinds.Records from records)) read all = grown-records Q s n bytes from records read (all from records refl)

grown-delivered : (Q : List Event → Event → Type 0) (s : Setting) (n : Node) (bytes : List ℕ) → ((n : Node) (r : Record) → Suits Q s n r) → IsGrown Q n.lived (delivered s n bytes).node
grown-delivered Q s n bytes fits = grown-heard Q s n bytes (read_of bytes) refl (λ from records is. grown-all Q s n.lived records (begun n) fits (grown-same Q n.lived n refl))

grown-until : (Q : List Event → Event → Type 0) (s : Setting) (n : Node) (records : List Record) (r : Record) → ((n : Node) (r : Record) → Suits Q s n r) → IsGrown Q n.lived (delivered_until s n records r).node
unfolding delivered_until
grown-until Q s n records r fits =
    let c : Call = handles_all s records (begun n) in
    grown-handles Q false s n.lived c r (fits c.node r) (grown-all Q s n.lived records (begun n) fits (grown-same Q n.lived n refl))

-- The life goes on with a record that a delivery accepts.
abbrev IsAny : List Event → Event → Type 0
IsAny life x = Unit {0}

any-suits : (s : Setting) (n : Node) (r : Record) → Suits IsAny s n r
any-suits s n r = record { taken = λ fine. tt; answered = λ a fine is me. tt; returned = λ a asks. tt }

grown-gives : (works : Bool) (s : Setting) (base : List Event) (note : Option NoteBody) (c : Call) → IsGrown IsAny base c.node → IsGrown IsAny base (gives_note works s note c).node
grown-gives works s base None c h = h
grown-gives works s base (Some note) c h = grown-wants IsAny works s base (Note note) (neighbours s) c (λ yes left. tt) h

grown-accepted : (s : Setting) (c : Call) (r : Record) (f : Option Fault) → f ≡ None → IsGrown IsAny (c.node.lived ++ event_of s r.body ∷ []) (judged true s f r c).node
grown-accepted s c r (Some fault) none = absurd cc
grown-accepted s c r None none =
    let c0 : Call = tells s (told.Took r.body None) c in
    let base : List Event = c.node.lived ++ event_of s r.body ∷ [] in
    grown-gives true s base (asked_with s c.node None r.body r) (takes s r c0) (grown-same IsAny base (takes s r c0).node (lived-takes s r c0))

all-append : (s : Setting) (xs ys : List Record) (c : Call) → handles_all s (xs ++ ys) c ≡ handles_all s ys (handles_all s xs c)
all-append s [] ys c = refl
all-append s (x ∷ xs) ys c = all-append s xs ys (handles true s c x)

pub grown-on : (s : Setting) (n : Node) (bytes : List ℕ) (from : ℕ) (earlier : List Record) (taken : Record) (later : List Record) → read_of bytes ≡ Ok (kinds.Records from (earlier ++ taken ∷ later))
    → refusal s (when_all_handled s n earlier) taken ≡ None → IsGrown IsAny ((when_all_handled s n earlier).lived ++ event_of s taken.body ∷ []) (delivered s n bytes).node
unfolding delivered handles
grown-on s n bytes from earlier taken later read fine =
    let c : Call = handles_all s earlier (begun n) in
    let here : c.node ≡ when_all_handled s n earlier = node-all s earlier (begun n) in
    let base : List Event = (when_all_handled s n earlier).lived ++ event_of s taken.body ∷ [] in
    let one : IsGrown IsAny base (handles true s c taken).node =
    subst (λ (x : Node). IsGrown IsAny (x.lived ++ event_of s taken.body ∷ []) (handles true s c taken).node) here (grown-accepted s c taken (refusal s c.node taken) (ap (λ (x : Node). refusal s x taken) here ∙ fine)) in
    subst (λ (came : Result Datagram ℕ). IsGrown IsAny base (hears s came (begun n)).node) (sym read)
    (subst (λ (x : Call). IsGrown IsAny base x.node) (sym (all-append s earlier (taken ∷ later) (begun n))) (grown-all IsAny s base later (handles true s c taken) (any-suits s) one))

-- ## What a tick adds

along-accusations : (Q : List Event → Event → Type 0) (s : Setting) (st : State) (ms : List ℕ) (k : ℕ) (life : List Event) → ((life : List Event) (a : AccBody) → Q life (Accuses a)) → Along Q life (accusation_events s st k ms)
along-accusations Q s st [] k life all = tt
along-accusations Q s st (m ∷ ms) k life all =
    let e : Event = event_of s (accusation_of s st m) in
    cond_both {A = List Event} (eqb k s.indexes) [] (e ∷ accusation_events s st (k + 1) ms) (Along Q life) (λ up. tt) (λ left. (all life _, along-accusations Q s st ms (k + 1) (life ++ e ∷ []) all))

grown-ticked : (Q : List Event → Event → Type 0) (s : Setting) (n : Node) → ((life : List Event) (a : AccBody) → Q life (Accuses a)) → IsGrown Q (n.lived ++ Passes ∷ []) (ticked s n).node
grown-ticked Q s n all =
    let p = at_tick s n in
    let st = state_of s p in
    record {
      more = accusation_events s st p.stored.next (to_accuse s p st);
      grew = (lived-ticked s n).lived_so;
      along = along-accusations Q s st (to_accuse s p st) p.stored.next (n.lived ++ Passes ∷ []) all;
    }

grown-accusation : (Q : List Event → Event → Type 0) (works : Bool) (s : Setting) (base : List Event) (m : ℕ) (ring : Option ℕ) (c : Call) → ((life : List Event) (a : AccBody) → Q life (Accuses a)) → IsGrown Q base c.node → IsGrown Q base (wants_accusation works s m ring c).node
grown-accusation Q works s base m None c all h = h
grown-accusation Q works s base m (Some ring) c all h = grown-wants Q works s base (accusation_on s (state_of s c.node) m ring) (neighbours_and s m) c (λ yes left. all c.node.lived _) h

grown-accuses : (Q : List Event → Event → Type 0) (works : Bool) (s : Setting) (base : List Event) (c : Call) (m : ℕ) → ((life : List Event) (a : AccBody) → Q life (Accuses a)) → IsGrown Q base c.node → IsGrown Q base (accuses works s c m).node
unfolding accuses
grown-accuses Q works s base c m all h =
    let c1 : Call = tells s (told.Silent m) c in
    let ring : Option ℕ = ring_for s (state_of s c.node) m in
    cond_both {A = Call} (has_accused s (state_of s c.node) m) c (wants_accusation works s m ring c1) (λ x. IsGrown Q base x.node) (λ yes. h) (λ no. grown-accusation Q works s base m ring c1 all h)

grown-accused : (Q : List Event → Event → Type 0) (s : Setting) (base : List Event) (silent : List ℕ) (c : Call) → ((life : List Event) (a : AccBody) → Q life (Accuses a)) → IsGrown Q base c.node → IsGrown Q base (accuses_all s silent c).node
grown-accused Q s base [] c all h = h
grown-accused Q s base (m ∷ silent) c all h = grown-accused Q s base silent (accuses true s c m) all (grown-accuses Q true s base c m all h)

lived-probed : (s : Setting) (n : Node) → (probed_at s n).node.lived ≡ n.lived ++ Passes ∷ []
unfolding probed_at passed lives
lived-probed s n = refl

lived-spread : (s : Setting) (n : Node) → (spread_at s n).node.lived ≡ n.lived ++ Passes ∷ []
unfolding spread_at
lived-spread s n = ap (λ (x : Node). x.lived) (node-spreads s (probed_at s n)) ∙ lived-probed s n

grown-ticked_until : (Q : List Event → Event → Type 0) (s : Setting) (n : Node) (silent : List ℕ) (m : ℕ) → ((life : List Event) (a : AccBody) → Q life (Accuses a)) → IsGrown Q (n.lived ++ Passes ∷ []) (ticked_until s n silent m).node
unfolding ticked_until
grown-ticked_until Q s n silent m all =
    let base = n.lived ++ Passes ∷ [] in
    grown-accuses Q false s base (accuses_all s silent (spread_at s n)) m all (grown-accused Q s base silent (spread_at s n) all (grown-same Q base (spread_at s n).node (lived-spread s n)))

-- ## What a node adds that leaves

pub grown-left : (Q : List Event → Event → Type 0) (s : Setting) (n : Node) → (is_used_up s n ≡ false → Q n.lived (Notes (leaving_note s n.stored))) → IsGrown Q n.lived (left s n).node
unfolding left leaves
grown-left Q s n new = grown-wants Q true s n.lived (leaving s n.stored) (neighbours s) (begun n) (λ yes index. new index) (grown-same Q n.lived n refl)

pub grown-left_until : (Q : List Event → Event → Type 0) (s : Setting) (n : Node) → IsGrown Q n.lived (left_until s n).node
unfolding left_until leaves
grown-left_until Q s n = grown-wants Q false s n.lived (leaving s n.stored) (neighbours s) (begun n) (λ yes index. absurd (false≢true yes)) (grown-same Q n.lived n refl)

-- ## What a call reports of its life

-- An event that the call adds reports it.
pub record IsFound (Q : List Event → Event → Type 0) (Kind : Event → Type 0) (s : Setting) (e : journal.Event) : Type 0 where
  pub life : List Event
  pub event : Event
  pub told : In (reported s.group (after s.group (opening []) life) event) e
  pub kind : Kind event
  pub fits : Q life event

found-along : (Q : List Event → Event → Type 0) (Kind : Event → Type 0) (s : Setting) (e : journal.Event) (events life : List Event) → IsBy Kind e → Along Q life events → In (told_by s.group (after s.group (opening []) life) events) e → IsFound Q Kind s e
found-along Q Kind s e [] life of h i = absurd i
found-along Q Kind s e (x ∷ events) life of h i =
    let st = after s.group (opening []) life in
    elim (In-append_cases (reported s.group st x) (told_by s.group (step s.group st x).state events) e i) [
      | inl here ↦ record { life = life; event = x; told = here; kind = of.only s.group life x here; fits = h.0 }
      | inr later ↦
          found-along Q Kind s e events (life ++ x ∷ []) of h.1
          (subst (λ (y : State). In (told_by s.group y events) e) (sym (after-append s.group (opening []) life (x ∷ []))) later)
    ]

pub found : (Q : List Event → Event → Type 0) (Kind : Event → Type 0) (s : Setting) (n : Node) (c : Call) (e : journal.Event) → IsBy Kind e → TellsItsLife s n c → IsGrown Q n.lived c.node → In c.told e → IsFound Q Kind s e
unfolding state_of
found Q Kind s n c e of h t i =
    let among : In (told_by s.group (after s.group (opening []) n.lived) h.more) e = subst (λ (es : List journal.Event). In es e) h.told_so (In-filter (λ e. is_of_life e.what) c.told e i of.of_life) in
    let more : h.more ≡ t.more = append_cancel_left n.lived h.more t.more (sym h.grew ∙ t.grew) in
    found-along Q Kind s e t.more n.lived of t.along (subst (λ (xs : List Event). In (told_by s.group (after s.group (opening []) n.lived) xs) e) more among)

-- ## What the tick of a call reports

-- The tick that the node makes next reports it.
abbrev pub TicksTell : Setting → Node → journal.Event → Type 0
TicksTell s n e = In (reported s.group (state_of s n) Passes) e

-- The tick that the node makes next removes the member, and brings this moment.
pub record TicksAway (s : Setting) (n : Node) (at m : ℕ) : Type 0 where
  pub removed : In (step s.group (state_of s n) Passes).report.removed m
  pub brings : (step s.group (state_of s n) Passes).state.moment ≡ at

pub ticks-away : (s : Setting) (n : Node) (at m : ℕ) → TicksTell s n (removal at m) → TicksAway s n at m
ticks-away s n at m i = let x = told-removed _ _ at m i in record { removed = x.removed; brings = x.brings }

-- It is the tick at the end of this life, or not of the kind.
abbrev IsTickOr : (Event → Type 0) → List Event → List Event → Event → Type 0
IsTickOr Kind base life x = (Kind x → ⊥) ⊎ ((life ≡ base) × (x ≡ Passes))

ticks-tell : (Kind : Event → Type 0) (s : Setting) (n : Node) (e : journal.Event) → IsFound (IsTickOr Kind n.lived) Kind s e → TicksTell s n e
unfolding state_of
ticks-tell Kind s n e x =
    elim x.fits [
      | inl other ↦ absurd (other x.kind)
      | inr tick ↦
          subst (λ (y : Event). In (reported s.group (after s.group (opening []) n.lived) y) e) tick.1
          (subst (λ (life : List Event). In (reported s.group (after s.group (opening []) life) x.event) e) tick.0 x.told)
    ]

tick-told : (Kind : Event → Type 0) (s : Setting) (n : Node) (c : Call) (e : journal.Event) → IsBy Kind e → TellsItsLife s n c → IsGrown (IsTickOr Kind n.lived) (n.lived ++ Passes ∷ []) c.node → In c.told e → TicksTell s n e
tick-told Kind s n c e of h t i = ticks-tell Kind s n e (found (IsTickOr Kind n.lived) Kind s n c e of h (grown-behind (IsTickOr Kind n.lived) n.lived Passes c.node (inr (refl, refl)) t) i)

-- whatever a tick reports of a kind that accusations aren't
pub ticked-told : (Kind : Event → Type 0) (s : Setting) (n : Node) (e : journal.Event) → IsBy Kind e → ((a : AccBody) → Kind (Accuses a) → ⊥) → In (ticked s n).told e → TicksTell s n e
ticked-told Kind s n e of other i = tick-told Kind s n (ticked s n) e of (call-tells s n Ticks) (grown-ticked (IsTickOr Kind n.lived) s n (λ life a. inl (other a))) i

pub ticked_until-told : (Kind : Event → Type 0) (s : Setting) (n : Node) (silent : List ℕ) (m : ℕ) (e : journal.Event) → IsBy Kind e → ((a : AccBody) → Kind (Accuses a) → ⊥) → In (ticked_until s n silent m).told e → TicksTell s n e
ticked_until-told Kind s n silent m e of other i = tick-told Kind s n (ticked_until s n silent m) e of (ticked_until-tells s n silent m) (grown-ticked_until (IsTickOr Kind n.lived) s n silent m (λ life a. inl (other a))) i

-- The call is a tick, which reports it.
pub record TellsNow (s : Setting) (n : Node) (i : Input) (e : journal.Event) : Type 0 where
  pub tick : i ≡ Ticks
  pub told : TicksTell s n e

-- ## Calls that count no tick

abbrev IsNoTick : List Event → Event → Type 0
IsNoTick life x = IsPassing x → ⊥

pub event-not : (s : Setting) (b : Body) → event_of s b ≡ Passes → ⊥
event-not s (Certificate c) e = cc
event-not s (Note n) e = cc
event-not s (Accusation a) e = cc

no-tick : (s : Setting) (n : Node) (r : Record) → Suits IsNoTick s n r
no-tick s n r = record { taken = λ fine e. event-not s r.body e; answered = λ a fine is me e. event-not s (Note (answering_note s n.stored a)) e; returned = λ a asks e. event-not s (Note (returning_note s n.stored)) e }

accuses-not : (a : AccBody) → IsPassing (Accuses a) → ⊥
accuses-not a e = cc

none-told : (s : Setting) (n : Node) (c : Call) (e : journal.Event) → IsOfTicks e → TellsItsLife s n c → IsGrown IsNoTick n.lived c.node → In c.told e → ⊥
none-told s n c e of h t i = let x = found IsNoTick IsPassing s n c e of h t i in x.fits x.kind

pub called-told : (s : Setting) (n : Node) (i : Input) (e : journal.Event) → IsOfTicks e → In (call_of s n i).told e → TellsNow s n i e
called-told s n (Delivers bytes) e of i = absurd (none-told s n (delivered s n bytes) e of (call-tells s n (Delivers bytes)) (grown-delivered IsNoTick s n bytes (no-tick s)) i)
called-told s n Leaves e of i = absurd (none-told s n (left s n) e of (call-tells s n Leaves) (grown-left IsNoTick s n (λ index e. event-not s (leaving s n.stored) e)) i)
called-told s n Ticks e of i = record { tick = refl; told = ticked-told IsPassing s n e of accuses-not i }

pub cut-told : (s : Setting) (n : Node) (i : Input) (c : Call) (e : journal.Event) → IsOfTicks e → IsCut s n i c → In c.told e → TellsNow s n i e
cut-told s n i c e of cut among =
    holds-called s n (λ i x. In x.told e → TellsNow s n i e) (λ i. called-told s n i e of)
    (λ bytes front r j. absurd (none-told s n (delivered_until s n front r) e of (delivered_until-tells s n front r) (grown-until IsNoTick s n front r (no-tick s)) j))
    (λ front who j. record { tick = refl; told = ticked_until-told IsPassing s n front who e of accuses-not j })
    (λ j. absurd (none-told s n (left_until s n) e of (left_until-tells s n) (grown-left_until IsNoTick s n) j))
    i (Some cut.put) (subst (λ (x : Call). In x.told e) cut.is among)

-- ## The start

-- The event removes nobody from a view.
abbrev pub IsStaying : Event → Type 0
IsStaying x = (m : ℕ) → IsRemoving m x → ⊥

-- It is reported neither by the step of such a record nor of a note that is signed.
pub record IsOfNoStart (e : journal.Event) : Type 0 where
  pub no_step : (g : Group) (events : List Event) (x : Event) → IsStaying x → In (reported g (after g (opening []) events) x) e → ⊥
  pub unspent : (index : ℕ) (n : NoteBody) → told.Spent index (Note n) ≡ e.what → ⊥

abbrev IsQuiet : journal.Event → Call → Type 0
IsQuiet e c = In c.told e → ⊥

quiet-takes : (s : Setting) (e : journal.Event) (r : Record) (c : Call) → IsOfNoStart e → IsStaying (event_of s r.body) → IsQuiet e c → IsQuiet e (takes s r c)
unfolding takes lives state_of
quiet-takes s e r c of stays h i =
    elim (In-append_cases c.told (reported s.group (after s.group (opening []) c.node.lived) (event_of s r.body)) e i) [
      | inl old ↦ h old
      | inr new ↦ of.no_step s.group c.node.lived (event_of s r.body) stays new
    ]

quiet-spends : (s : Setting) (e : journal.Event) (n : NoteBody) (c : Call) → IsOfNoStart e → IsQuiet e c → IsQuiet e (spends s (Note n) c)
quiet-spends s e n c of h i =
    let spent : journal.Event = record { moment = (state_of s c.node).moment; what = told.Spent c.node.stored.next (Note n) } in
    elim (In-append_cases c.told (spent ∷ []) e i) [
      | inl old ↦ h old
      | inr (inl is) ↦ of.unspent c.node.stored.next n (ap (λ (x : journal.Event). x.what) is)
      | inr (inr none) ↦ none
    ]

joins-stay : (s : Setting) (b : Body) (x : CertBody) → b ≡ Certificate x → IsStaying (event_of s b)
joins-stay s b x is m (inl tick) = event-not s b tick
joins-stay s b x is m (inr note) = by b is note.note note.is
  where
    by : (b : Body) → b ≡ Certificate x → (n : NoteBody) → event_of s b ≡ Notes n → ⊥
    by (Certificate c) is n e = cc
    by (Note n) is k e = let other : Note n ≡ Certificate x = is in cc
    by (Accusation a) is n e = cc

quiet-opened : (s : Setting) (e : journal.Event) (certificates : List Record) (c : Call) → IsOfNoStart e → AreCertificates certificates → IsQuiet e c → IsQuiet e (fold (λ x r. takes s r x) c certificates)
quiet-opened s e [] c of all h = h
quiet-opened s e (r ∷ rs) c of all h = quiet-opened s e rs (takes s r c) of all.1 (quiet-takes s e r c of (joins-stay s r.body all.0.0 all.0.1) h)

-- ---- the first note is no leaving note

pub same-note : (n k : NoteBody) → Notes n ≡ Notes k → n ≡ k
same-note n k e = cc

none-enabled : (rings : List ℕ) → filter (enables 0) rings ≡ []
none-enabled [] = refl
none-enabled (ring ∷ rings) = rw (none_above 0 0 ring (omega arith) (omega arith)) (none-enabled rings)

-- a good mask has a ring
pub good-some : (t mask : ℕ) → good_mask t mask ≡ true → eqb mask 0 ≡ true → ⊥
good-some t mask good zero_is =
    let none : length (enabled (ring_count t) mask) ≡ 0 = ap (λ m. length (enabled (ring_count t) m)) (eqb-true mask 0 zero_is) ∙ ap length (none-enabled (range_with_len 0 (ring_count t))) in
    let enough = (good_parts t mask good).enough in
    absurd (omega (arith, none, enough))

-- a note with a good mask removes nobody
pub good-stays : (t : ℕ) (n : NoteBody) → good_mask t n.mask.0 ≡ true → IsStaying (Notes n)
good-stays t n good m (inl tick) = absurd cc
good-stays t n good m (inr note) = good-some t n.mask.0 good (ap is_leaving (same-note n note.note note.is) ∙ note.leaving)

-- The note by which the node comes back keeps the ring of the accusation.
pub back-stays : (s : Setting) (n : Node) (r : Record) (a : AccBody) → AsksBack s n r a → IsStaying (Notes (returning_note s n.stored))
back-stays s n r a asks m (inl tick) = absurd cc
back-stays s n r a asks m (inr note) =
    let zero_is : n.stored.mask.0 ≡ 0 = eqb-true n.stored.mask.0 0 (ap is_leaving (same-note (returning_note s n.stored) note.note note.is) ∙ note.leaving) in
    let on : enables n.stored.mask.0 a.ring.0 ≡ true = (and_parts _ _ (and_parts _ _ asks.told).0).1 in
    let off : enables 0 a.ring.0 ≡ false = none_above 0 0 a.ring.0 (omega arith) (omega arith) in
    false≢true (sym off ∙ ap (λ mask. enables mask a.ring.0) (sym zero_is) ∙ on)

first-good : (t stored : ℕ) → good_mask t (first_mask t stored) ≡ true
first-good t stored =
    cond_both {A = ℕ} (good_mask t stored) stored (all_rings t) (λ mask. good_mask t mask ≡ true) (λ good. good) (λ bad. all_rings-good t)

-- A life begins without it.
pub start-quiet : (s : Setting) (nonces : ℕ → ℕ) (certificates : List Record) (stored : Stored) (e : journal.Event) → IsOfNoStart e → AreCertificates certificates → In (started s nonces certificates stored).told e → ⊥
unfolding started signs
start-quiet s nonces certificates stored e of all =
    let c : Call = opened s nonces certificates stored in
    let h : IsQuiet e c = quiet-opened s e certificates (begun (blank s nonces stored)) of all (λ none. none) in
    let note : NoteBody = record { member = s.me; epoch = stored.epoch + 1; mask = record { 0 = first_mask s.group.t stored.mask.0 } } in
    quiet-takes s e (own_record s c.node (Note note)) (spends s (Note note) c) of (good-stays s.group.t note (first-good s.group.t stored.mask.0)) (quiet-spends s e note c of h)

pub removal-no-start : (at m : ℕ) → IsOfNoStart (removal at m)
removal-no-start at m =
    record {
      no_step = λ g events x stays i. stays m (only-these-remove g events x m (told-removed _ _ at m i).removed);
      unspent = λ index n e. spent-not index (Note n) e;
    }
  where
    spent-not : (index : ℕ) (body : Body) → told.Spent index body ≡ told.Removed m → ⊥
    spent-not index body e = cc

abbrev IsUnaccused : Node → Type 0
IsUnaccused n = (place : ℕ) (a : AccBody) → slice_get n.lived place ≡ Some (Accuses a) → ⊥

unaccused-more : (n next : Node) (e : Event) → next.lived ≡ n.lived ++ e ∷ [] → ((a : AccBody) → e ≡ Accuses a → ⊥) → IsUnaccused n → IsUnaccused next
unaccused-more n next e lived other h place a is =
    elim (at-append n.lived (e ∷ []) place (Accuses a) (sym (ap (λ (xs : List Event). slice_get xs place) lived) ∙ is)) [
      | inl old ↦ h place a old
      | inr new ↦ one new.more new.found
    ]
  where
    one : (more : ℕ) → slice_get (e ∷ []) more ≡ Some (Accuses a) → ⊥
    one zero found = other a (some-is e (Accuses a) found)
    one (suc more) found = cc

certificate-not : (s : Setting) (b : Body) (x : CertBody) (a : AccBody) → b ≡ Certificate x → event_of s b ≡ Accuses a → ⊥
certificate-not s (Certificate c) x a is e = cc
certificate-not s (Note n) x a is e = cc
certificate-not s (Accusation b) x a is e = let other : Accusation b ≡ Certificate x = is in cc

unaccused-opened : (s : Setting) (certificates : List Record) (c : Call) → AreCertificates certificates → IsUnaccused c.node → IsUnaccused (fold (λ x r. takes s r x) c certificates).node
unaccused-opened s [] c all h = h
unaccused-opened s (r ∷ rs) c all h =
    unaccused-opened s rs (takes s r c) all.1 (unaccused-more c.node (takes s r c).node (event_of s r.body) (lived-takes s r c) (λ a e. certificate-not s r.body all.0.0 a all.0.1 e) h)

-- Nor is anyone accused.
pub start-unaccused : (s : Setting) (nonces : ℕ → ℕ) (certificates : List Record) (stored : Stored) → AreCertificates certificates → (place : ℕ) (a : AccBody) → slice_get (started s nonces certificates stored).node.lived place ≡ Some (Accuses a) → ⊥
unfolding started
start-unaccused s nonces certificates stored all =
    let c : Call = opened s nonces certificates stored in
    let h : IsUnaccused c.node = unaccused-opened s certificates (begun (blank s nonces stored)) all (λ place a e. empty place a e) in
    unaccused-more c.node (signs s (first_note s stored) c).node (event_of s (first_note s stored)) (lived-signs s (first_note s stored) c) (λ a e. note-not a e) h
  where
    empty : (place : ℕ) (a : AccBody) → slice_get [] place ≡ Some (Accuses a) → ⊥
    empty place a e = cc

    note-not : (a : AccBody) → event_of s (first_note s stored) ≡ Accuses a → ⊥
    note-not a e = cc

-- ## A removal of a course

pub state-at_tick : (s : Setting) (n : Node) → state_of s (at_tick s n) ≡ (step s.group (state_of s n) Passes).state
unfolding passed lives state_of
state-at_tick s n = after-append s.group (opening []) n.lived (Passes ∷ [])

away-left : (s : Setting) (n : Node) (at m : ℕ) → TicksAway s n at m → Left (after s.group (opening []) n.lived) (step s.group (after s.group (opening []) n.lived) Passes).state m
unfolding state_of
away-left s n at m away = left-by s.group (after s.group (opening []) n.lived) Passes m away.removed

passes-not : {A : Type 0} (place : ℕ) (a : AccBody) → slice_get (Passes ∷ []) place ≡ Some (Accuses a) → A
passes-not zero a e = cc
passes-not (suc place) a e = cc

-- What a tick among the acts removes rests on an accusation that was delivered or made.
pub removes : (claimed : ℕ → Body → Bool) (s : Setting) (own : Key) (start : Node) (acts before behind : List Act) (at m : ℕ) → ClaimedVerify claimed s own → KeepsKey s own start → ((place : ℕ) (a : AccBody) → slice_get start.lived place ≡ Some (Accuses a) → ⊥)
    → acts ≡ before ++ Calls Ticks ∷ behind → TicksAway s (node_behind s start before) at m → Removes claimed s start acts at m
removes claimed s own start acts before behind at m sign v none ticks away =
    let n = node_behind s start before in
    let left = away-left s n at m away in
    let r = rests-last s.group n.lived m left in
    record {
      tick = record { before = before; behind = behind; ticks = ticks; at = ap (λ (st : State). st.moment) (state-at_tick s n) ∙ away.brings };
      removed = removed-last s.group n.lived Passes m left;
      accepted = r.accepted;
      accusation = r.accusation;
      rests = r.rests;
      came = elim (at-append n.lived (Passes ∷ []) r.accepted (Accuses r.accusation) r.rests.accepted.event) [
        | inl old ↦ all-came claimed s own start before sign v none r.accepted r.accusation old
        | inr tick ↦ passes-not tick.more r.accusation tick.found
      ];
    }
