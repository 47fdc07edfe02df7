-- What the store of a life keeps, by what the life has signed; and that its link stays bound.
use Rattle.std.proofs.Common.{◌≡◌, ℕ, true, List, [], ◌∷◌, ◌++◌, length, Option, Some, None, refl, ap, sym, ◌∙◌, subst, append-nil, fold}
use Rattle.std.proofs.lemmas.Bool.{cond_both, false≢true}
use Rattle.epoch_store.specs.declared.Stored.{Stored}
use Rattle.ff_ids.specs.Steps.{Event, Stepped, Ticks as Passes, step}
use Rattle.journal.specs.declared.event.Event as journal
use Rattle.journal.specs.declared.event.What as whats
use Rattle.journal.specs.declared.event.What.TheVariants as told
use Rattle.records.specs.declared.Body.{Body}
use Rattle.records.specs.declared.Body.TheVariants.{Certificate, Note, Accusation}
use Rattle.records.specs.declared.Record.{Record}
use Rattle.datagram.specs.declared.Datagram.{Datagram}
use Rattle.datagram.specs.Spelling.{datagram_bytes}
use Rattle.secrets.specs.Secrets.{nonce_seed}
use Rattle.signer.specs.Lives.{Spent}
use Rattle.signer.specs.Signing.{stored_after}
use Rattle.detector.specs.Silence.{nonce}
use Rattle.node_rules.specs.Nodes.{Setting, Node, event_of, state_of}
use Rattle.node_rules.specs.Calls.{Call, begun, lives, own_record, sends, signs, spends, takes, tells, told_of}
use Rattle.node_rules.specs.Deliveries.{answer_to, returning_note}
use Rattle.node_rules.specs.Leaving.{leaving}
use Rattle.node_rules.specs.Lives.{Input, Delivers, Ticks, Leaves, call_of}
use Rattle.node_rules.specs.Starting.{blank, first_note, opened, started}
use Rattle.node_rules.proofs.Carrying.{Carries, carries-call, is_beside}
use Rattle.node_rules.proofs.OwnNote.{stored-lives}
use Rattle.node_rules.proofs.Small.{stored-signs, stored-takes}
use Rattle.node_core.specs.Rolls.{recs_of}
use Rattle.node_core.specs.Spending.{spent_by, spent_told}
use Rattle.node_core.proofs.SpendLemmas.{report-none, told-append}
use Rattle.turn_rules.specs.Turns.{Act, Receives, Writes, Calls}
use Rattle.node_loop.specs.Turns.{life_acts, pace_for}
use Rattle.node_loop.specs.Courses.{ServeState, acted, fails_next, gives, hands_over, moves, served, served_from, tells_all, tells_what, writes_event}
use Rattle.turn_rules.specs.Courses.{datagram_in, may_tick}
use Rattle.node_loop.specs.Courses as courses
use Rattle.node_loop.proofs.CourseLemmas.{node-gives, served-cons, served-nil}
use Rattle.node_command.specs.declared.kit.Member.{Member}
use Rattle.node_command.specs.Opening.{setting_for, start_of}
use Rattle.node_command.specs.Members.{own_port}
use Rattle.node_command.specs.Running.{NetInputs, life_in}
use Rattle.node_command.specs.Spendings.{kept_behind, kept_with}
use Rattle.node_command.specs.Journal.{bound_for}

-- ## Signatures one after another

kept-append : (kept : Stored) (xs ys : List Spent) → kept_behind kept (xs ++ ys) ≡ kept_behind (kept_behind kept xs) ys
kept-append kept [] ys = refl
kept-append kept (x ∷ xs) ys = kept-append (kept_with kept x) xs ys

one-kept : (kept : Stored) (body : Body) → kept_with kept (record { index = kept.next; body = body }) ≡ stored_after kept body
one-kept kept (Certificate c) = refl
one-kept kept (Note n) = refl
one-kept kept (Accusation a) = refl

-- ## A call

-- The node's store keeps what the signatures leave that the call reports of.
abbrev IsKept : Stored → Call → Type 0
IsKept first c = c.node.stored ≡ kept_behind first (spent_told c.told)

same-kept : (first : Stored) (c d : Call) → d.node.stored ≡ c.node.stored → spent_told d.told ≡ spent_told c.told → IsKept first c → IsKept first d
same-kept first c d stored told h = stored ∙ h ∙ ap (kept_behind first) (sym told)

beside-none : (what : whats.What) → is_beside what ≡ true → spent_by what ≡ []
beside-none (told.Spent index body) h = absurd (false≢true h)
beside-none other h = refl

told-none : (es : List journal.Event) (moment : ℕ) (what : whats.What) → spent_by what ≡ [] → spent_told (es ++ record { moment = moment; what = what } ∷ []) ≡ spent_told es
told-none es moment what none =
    let one : journal.Event = record { moment = moment; what = what } in
    told-append es (one ∷ []) ∙ ap (λ (xs : List Spent). spent_told es ++ (xs ++ [])) none ∙ append-nil (spent_told es)

kept-tells : (s : Setting) (first : Stored) (what : whats.What) (c : Call) → spent_by what ≡ [] → IsKept first c → IsKept first (tells s what c)
kept-tells s first what c none h = same-kept first c (tells s what c) refl (told-none c.told (state_of s c.node).moment what none) h

kept-sends : (s : Setting) (first : Stored) (d : Datagram) (c : Call) (to : ℕ) → IsKept first c → IsKept first (sends s d c to)
unfolding sends
kept-sends s first d c to h = same-kept first c (sends s d c to) refl (told-none c.told (state_of s c.node).moment (told.Sent (length c.sent) to (datagram_bytes d)) refl) h

told-lives : (s : Setting) (e : Event) (c : Call) → spent_told (lives s e c).told ≡ spent_told c.told
unfolding lives
told-lives s e c =
    let made : Stepped = step s.group (state_of s c.node) e in
    told-append c.told (told_of made.state.moment made.report) ∙ ap (λ (xs : List Spent). spent_told c.told ++ xs) (report-none made.state.moment made.report) ∙ append-nil (spent_told c.told)

told-takes : (s : Setting) (r : Record) (c : Call) → spent_told (takes s r c).told ≡ spent_told c.told
unfolding takes
told-takes s r c = told-lives s (event_of s r.body) c

kept-takes : (s : Setting) (first : Stored) (r : Record) (c : Call) → IsKept first c → IsKept first (takes s r c)
kept-takes s first r c h = same-kept first c (takes s r c) (stored-takes s r c) (told-takes s r c) h

told-signs : (s : Setting) (body : Body) (c : Call) → spent_told (signs s body c).told ≡ spent_told c.told ++ record { index = c.node.stored.next; body = body } ∷ []
unfolding signs
told-signs s body c =
    let spent : journal.Event = record { moment = (state_of s c.node).moment; what = told.Spent c.node.stored.next body } in
    told-takes s (own_record s c.node body) (spends s body c) ∙ told-append c.told (spent ∷ [])

kept-signs : (s : Setting) (first : Stored) (body : Body) (c : Call) → IsKept first c → IsKept first (signs s body c)
kept-signs s first body c h =
    let x : Spent = record { index = c.node.stored.next; body = body } in
    stored-signs s body c ∙ sym (one-kept c.node.stored body) ∙ ap (λ (k : Stored). kept_with k x) h
    ∙ sym (kept-append first (spent_told c.told) (x ∷ [])) ∙ ap (kept_behind first) (sym (told-signs s body c))

kept-passes : (s : Setting) (first : Stored) (c : Call) → IsKept first c → IsKept first (lives s Passes c)
kept-passes s first c h = same-kept first c (lives s Passes c) (stored-lives s Passes c) (told-lives s Passes c) h

keeping : (s : Setting) (first : Stored) → Carries s (IsKept first)
keeping s first =
    record {
      told = λ what c beside h. kept-tells s first what c (beside-none what beside) h;
      sent = λ d c to h. kept-sends s first d c to h;
      taken = λ r c fine h. kept-takes s first r c h;
      answered = λ r a c fine is me may left h. kept-signs s first (answer_to s (takes s r c).node.stored a) (takes s r c) (kept-takes s first r c h);
      returned = λ r a c asks may left h. kept-signs s first (Note (returning_note s c.node.stored)) c h;
      accused = λ a c by left h. kept-signs s first (Accusation a) c h;
      departed = λ c left h. kept-signs s first (leaving s c.node.stored) c h;
      stopped = λ c h. kept-tells s first told.Stopped c refl h;
      passed = λ c h. kept-passes s first c h;
      probed = λ p c h. h;
      spanned = λ c h. h;
      spread = λ c h. h;
    }

call-kept : (s : Setting) (n : Node) (i : Input) → (call_of s n i).node.stored ≡ kept_behind n.stored (spent_told (call_of s n i).told)
call-kept s n i = carries-call s (IsKept n.stored) (keeping s n.stored) n i refl

opened-kept : (s : Setting) (first : Stored) (records : List Record) (c : Call) → IsKept first c → IsKept first (fold (λ x r. takes s r x) c records)
opened-kept s first [] c h = h
opened-kept s first (r ∷ records) c h = opened-kept s first records (takes s r c) (kept-takes s first r c h)

start-kept : (s : Setting) (nonces : ℕ → ℕ) (certificates : List Record) (stored : Stored) → (started s nonces certificates stored).node.stored ≡ kept_behind stored (spent_told (started s nonces certificates stored).told)
unfolding started
start-kept s nonces certificates stored = kept-signs s stored (first_note s stored) (opened s nonces certificates stored) (opened-kept s stored certificates (begun (blank s nonces stored)) refl)

-- ## A course

-- what is reported leaves the signatures, and the port that is bound
record IsBeside (old new : ServeState) : Type 0 where
  spent : new.spent ≡ old.spent
  bound : new.link.bound ≡ old.link.bound

beside-trans : (a b c : ServeState) → IsBeside a b → IsBeside b c → IsBeside a c
beside-trans a b c p q = record { spent = q.spent ∙ p.spent; bound = q.bound ∙ p.bound }

beside-what : (moment : ℕ) (what : whats.What) (d : Option (ℕ × List ℕ)) (r : ServeState) → IsBeside r (tells_what moment what d r)
beside-what moment what (Some d) r =
    let r1 : ServeState = hands_over d.0 d.1 (writes_event moment (told.Sent r.sent d.0 d.1) r) in
    cond_both {A = ServeState} (fails_next r.link) (writes_event moment (told.Lost r.sent) r1) r1 (IsBeside r) (λ fails. record { spent = refl; bound = refl }) (λ works. record { spent = refl; bound = refl })
beside-what moment what None r = record { spent = refl; bound = refl }

beside-tells : (r : ServeState) (e : journal.Event) → IsBeside r (courses.tells r e)
unfolding courses.tells
beside-tells r e = beside-what e.moment e.what (datagram_in e.what) r

beside-all : (events : List journal.Event) (r : ServeState) → IsBeside r (tells_all events r)
beside-all [] r = record { spent = refl; bound = refl }
beside-all (e ∷ events) r = beside-trans r (courses.tells r e) (tells_all events (courses.tells r e)) (beside-tells r e) (beside-all events (courses.tells r e))

gives-beside : (c : Call) (r : ServeState) → IsBeside (moves c r) (gives c r)
unfolding gives
gives-beside c r = beside-all c.told (moves c r)

-- The life keeps what its signatures leave, and the link is bound as it was.
record KeepsOn (first : Stored) (bound : Option ℕ) (r : ServeState) : Type 0 where
  kept : r.node.stored ≡ kept_behind first r.spent
  link : r.link.bound ≡ bound

gives-kept : (s : Setting) (first : Stored) (bound : Option ℕ) (i : Input) (r : ServeState) → KeepsOn first bound r → KeepsOn first bound (gives (call_of s r.node i) r)
gives-kept s first bound i r h =
    let c = call_of s r.node i in
    let b = gives-beside c r in
    record {
      kept = ap (λ (n : Node). n.stored) (node-gives c r) ∙ call-kept s r.node i ∙ ap (λ (k : Stored). kept_behind k (spent_told c.told)) h.kept ∙ sym (kept-append first r.spent (spent_told c.told)) ∙ ap (kept_behind first) (sym b.spent);
      link = b.bound ∙ h.link;
    }

acted-kept : (s : Setting) (first : Stored) (bound : Option ℕ) (r : ServeState) (act : Act) → KeepsOn first bound r → KeepsOn first bound (acted s r act)
acted-kept s first bound r Receives h = record { kept = h.kept; link = h.link }
acted-kept s first bound r (Writes line) h = record { kept = h.kept; link = h.link }
acted-kept s first bound r (Calls (Delivers bytes)) h = gives-kept s first bound (Delivers bytes) r h
acted-kept s first bound r (Calls Leaves) h = gives-kept s first bound Leaves r h
acted-kept s first bound r (Calls Ticks) h =
    cond_both {A = ServeState} (may_tick s r.node) (gives (call_of s r.node Ticks) r) r (KeepsOn first bound) (λ may. gives-kept s first bound Ticks r h) (λ never. h)

served-kept : (s : Setting) (first : Stored) (bound : Option ℕ) (acts : List Act) (r : ServeState) → KeepsOn first bound r → KeepsOn first bound (served s acts r)
served-kept s first bound [] r h = subst (KeepsOn first bound) (sym (served-nil s r)) h
served-kept s first bound (act ∷ acts) r h = subst (KeepsOn first bound) (sym (served-cons s act acts r)) (served-kept s first bound acts (acted s r act) (acted-kept s first bound r act h))

life-on : (m : Member) (stored : Stored) (feed : NetInputs) → KeepsOn (start_of m stored).node.stored (Some (own_port m)) (life_in m stored feed)
life-on m stored feed = served-kept (setting_for m) (start_of m stored).node.stored (Some (own_port m)) (life_acts (pace_for (setting_for m) m.millis) feed.stay.turns feed.stay.leave feed.link.coming feed.reading feed.readings) (served_from (start_of m stored).node (bound_for m feed.link)) (record { kept = refl; link = refl })

pub life-kept : (m : Member) (stored : Stored) (feed : NetInputs) → (life_in m stored feed).node.stored ≡ kept_behind stored (spent_told (start_of m stored).told ++ (life_in m stored feed).spent)
life-kept m stored feed =
    let first = spent_told (start_of m stored).told in
    (life-on m stored feed).kept
    ∙ ap (λ (k : Stored). kept_behind k (life_in m stored feed).spent) (start-kept (setting_for m) (nonce (nonce_seed m.own.secret stored.next)) (recs_of m.certificates.items) stored)
    ∙ sym (kept-append stored first (life_in m stored feed).spent)

pub life-bound : (m : Member) (stored : Stored) (feed : NetInputs) → (life_in m stored feed).link.bound ≡ Some (own_port m)
life-bound m stored feed = (life-on m stored feed).link
