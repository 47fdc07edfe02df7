-- What was reported of spending and sending is all that was spent and sent.
use Rattle.std.proofs.Common.{◌≡◌, ℕ, ◌+◌, ◌<◌, Bool, true, false, eqb, cond, List, [], ◌∷◌, ◌++◌, length, Some, None, inl, inr, refl, ap, sym, ◌∙◌, subst, map, filter, arith}
use Rattle.std.specs.Prelude.{filter_map, fold}
use Rattle.std.specs.List.{cons_option, AllByRecursion}
use Rattle.std.proofs.lemmas.Bool.{cases_Bool, eqb-true, false≢true}
use Rattle.std.proofs.lemmas.List.Elements.{filter-append, filter_map-append}
use Rattle.ff_ids.specs.Steps.{Event, step}
use Rattle.records.specs.declared.Body.{Body}
use Rattle.records.specs.declared.Body.TheVariants.{Certificate}
use Rattle.records.specs.declared.Record.{Record}
use Rattle.epoch_store.specs.declared.Stored.{Stored}
use Rattle.signer.specs.Lives.{Spent, IsOnce, IsRising, indexes, note_epochs}
use Rattle.journal.specs.declared.event.Event as journal
use Rattle.journal.specs.declared.event.What as whats
use Rattle.journal.specs.declared.event.What.TheVariants as happened
use Rattle.node_rules.specs.Nodes as node
use Rattle.node_rules.specs.Nodes.{state_of, event_of}
use Rattle.node_rules.specs.Calls.{Call, begun, lives, takes, spends, signs, own_record, told_of}
use Rattle.node_rules.specs.Starting.{blank, opened, first_note, started}
use Rattle.node_rules.specs.Lives.{is_of_life}
use Rattle.node_rules.specs.Verdicts.{told_that}
use Rattle.node_rules.specs.Sending.{is_sent, sendings, TellsSendings}
use Rattle.node_rules.proofs.Handling.{nil-right, map-append, unlived}
use Rattle.node_rules.proofs.Sendings.{called-sendings}
use Rattle.world_rules.specs.Settings.{Setting, Signed, by_authority, certificate, certificates, certified_from, is_liar, is_node, members, setting_of}
use Rattle.world_rules.specs.Calls.{OnDisk, called_on}
use Rattle.world_rules.specs.Worlds.{World, begun_world, spent_if_by, spent_of}
use Rattle.world_rules.specs.Steps.{NodeEvent, first_call, numbered_from, signed_if_spent, signed_in, told_in}
use Rattle.world_rules.specs.Laws.{IsSetting}
use Rattle.world_rules.proofs.OnDisks.{other}
use Rattle.world_rules.proofs.SoFar.{come-so-far}
use Rattle.world_rules.proofs.LineSteps.{Keeps, keeps-reached}
use Rattle.world_rules.proofs.Once.{authority-spent}
use Rattle.world_laws.specs.Telling.{AuthoritySpendsOnce, IsSentAsTold, IsSpentAsTold, SendingIsTold, SpendingIsTold, spent_as, spent_if_told}

-- ---- spending

neither : {X : Type 0} (b : Bool) (xs : List X) → cons_option (cond b None None) xs ≡ xs
neither true xs = refl
neither false xs = refl

one-told : (m k before moment : ℕ) (what : whats.What) (rest : List NodeEvent) (signed : List Signed) → filter_map (spent_if_told m) rest ≡ filter_map (spent_if_by (Some m)) signed
    → filter_map (spent_if_told m) (record { who = k; event = record { moment = moment; what = numbered_from before what } } ∷ rest) ≡ filter_map (spent_if_by (Some m)) (cons_option (signed_if_spent k what) signed)
one-told m k before moment (happened.Spent index body) rest signed h = ap (λ xs. cons_option (cond (eqb k m) (Some (record { index = index; body = body })) None) xs) h
one-told m k before moment _ rest signed h = neither (eqb k m) (filter_map (spent_if_told m) rest) ∙ h

told-spent : (m k before : ℕ) (events : List journal.Event) → filter_map (spent_if_told m) (told_in k before events) ≡ filter_map (spent_if_by (Some m)) (signed_in k events)
told-spent m k before [] = refl
told-spent m k before (e ∷ events) = one-told m k before e.moment e.what (told_in k before events) (signed_in k events) (told-spent m k before events)

-- Both grow by what a call reports.
spent-more : (m k before : ℕ) (signed : List Signed) (told : List NodeEvent) (events : List journal.Event) → filter_map (spent_if_told m) told ≡ filter_map (spent_if_by (Some m)) signed
    → filter_map (spent_if_told m) (told ++ told_in k before events) ≡ filter_map (spent_if_by (Some m)) (signed ++ signed_in k events)
spent-more m k before signed told events h =
    filter_map-append (spent_if_told m) told (told_in k before events) ∙ ap (λ xs. xs ++ filter_map (spent_if_told m) (told_in k before events)) h
    ∙ ap (λ xs. filter_map (spent_if_by (Some m)) signed ++ xs) (told-spent m k before events) ∙ sym (filter_map-append (spent_if_by (Some m)) signed (signed_in k events))

liar-apart : (s : Setting) (m key : ℕ) → IsSetting s → is_node s m ≡ true → is_liar s key ≡ true → eqb key m ≡ false
liar-apart s m key fits is liar =
    elim (cases_Bool (eqb key m)) [
      | inl same ↦ absurd (false≢true (sym (fits.apart m is) ∙ sym (ap (is_liar s) (eqb-true key m same)) ∙ liar))
      | inr differ ↦ differ
    ]

pub spending-kept : (s : Setting) (m : ℕ) → IsSetting s → is_node s m ≡ true → Keeps s (λ w told. IsSpentAsTold w told m)
spending-kept s m fits is =
    record {
      called = λ k i life c running free h.
          let d : OnDisk = called_on (setting_of s k) life.node i (c.world.hosts k).disk in
          spent-more m k (length c.world.sent) c.world.signed c.told d.call.told h;
      began = λ k d c it idle left same h. spent-more m k (length c.world.sent) c.world.signed c.told (first_call s k (c.world.hosts k).disk.state).told h;
      tried = λ k d w told idle left may h. h;
      disked = λ k d w told same h. h;
      ended = λ k life w told running h. h;
      got = λ k moment number w told h.
          filter_map-append (spent_if_told m) told _ ∙ ap (λ xs. filter_map (spent_if_told m) told ++ xs) (neither (eqb k m) []) ∙ nil-right (filter_map (spent_if_told m) told) ∙ h;
      flowed = λ number w told h. h;
      lied = λ key body name w told liar h.
          h ∙ sym (filter_map-append (spent_if_by (Some m)) w.signed _ ∙ ap (λ o. spent_of w (Some m) ++ cons_option o []) (other (eqb key m) _ _ (liar-apart s m key fits is liar)) ∙ nil-right (spent_of w (Some m)));
    }

pub spending-first : (s : Setting) (m : ℕ) → IsSpentAsTold (begun_world s) [] m
unfolding begun_world
spending-first s m = sym (authority-spent s m)

pub spending-told : SpendingIsTold
spending-told s w told m fits reached is = keeps-reached s (λ w told. IsSpentAsTold w told m) (spending-kept s m fits is) (spending-first s m) w told reached

-- ---- sending

abbrev sent_in : List NodeEvent → List whats.What
sent_in told = map (λ t. t.event.what) (filter (λ t. is_sent t.event.what) told)

sent-append : (xs ys : List NodeEvent) → sent_in (xs ++ ys) ≡ sent_in xs ++ sent_in ys
sent-append xs ys =
    ap (map (λ (t : NodeEvent). t.event.what)) (filter-append (λ (t : NodeEvent). is_sent t.event.what) xs ys)
    ∙ map-append (λ (t : NodeEvent). t.event.what) (filter (λ (t : NodeEvent). is_sent t.event.what) xs) (filter (λ (t : NodeEvent). is_sent t.event.what) ys)

numbered-sent : (before : ℕ) (what : whats.What) → is_sent (numbered_from before what) ≡ is_sent what
numbered-sent before (happened.Sent number to bytes) = refl
numbered-sent before _ = refl

told-sent : (k before : ℕ) (events : List journal.Event) → sent_in (told_in k before events) ≡ map (numbered_from before) (map (λ (e : journal.Event). e.what) (filter (λ (e : journal.Event). is_sent e.what) events))
told-sent k before [] = refl
told-sent k before (e ∷ events) =
    elim (cases_Bool (is_sent e.what)) [
      | inl it ↦ rw (numbered-sent before e.what, it) (ap (λ (xs : List whats.What). numbered_from before e.what ∷ xs) (told-sent k before events))
      | inr isnt ↦ rw (numbered-sent before e.what, isnt) (told-sent k before events)
    ]

numbered-sendings : (before place : ℕ) (sent : List (ℕ × List ℕ)) → map (numbered_from before) (sendings place sent) ≡ sendings (before + place) sent
numbered-sendings before place [] = refl
numbered-sendings before place (d ∷ sent) =
    let next : before + (place + 1) ≡ before + place + 1 = omega arith in
    ap (λ (xs : List whats.What). happened.Sent (before + place) d.0 d.1 ∷ xs) (numbered-sendings before (place + 1) sent ∙ ap (λ k. sendings k sent) next)

sendings-append : (place : ℕ) (xs ys : List (ℕ × List ℕ)) → sendings place (xs ++ ys) ≡ sendings place xs ++ sendings (place + length xs) ys
sendings-append place [] ys = ap (λ k. sendings k ys) (let e : place ≡ place + 0 = omega arith in e)
sendings-append place (x ∷ xs) ys =
    let next : place + 1 + length xs ≡ place + length (x ∷ xs) = omega arith in
    ap (λ (zs : List whats.What). happened.Sent place x.0 x.1 ∷ zs) (sendings-append (place + 1) xs ys ∙ ap (λ k. sendings (place + 1) xs ++ sendings k ys) next)

sent-more : (k : ℕ) (sent : List (ℕ × List ℕ)) (told : List NodeEvent) (c : Call) → TellsSendings c → sent_in told ≡ sendings 0 sent → sent_in (told ++ told_in k (length sent) c.told) ≡ sendings 0 (sent ++ c.sent)
sent-more k sent told c tells h =
    let first : length sent + 0 ≡ 0 + length sent = omega arith in
    sent-append told (told_in k (length sent) c.told) ∙ ap (λ xs. xs ++ sent_in (told_in k (length sent) c.told)) h
    ∙ ap (λ xs. sendings 0 sent ++ xs) (told-sent k (length sent) c.told ∙ ap (map (numbered_from (length sent))) tells ∙ numbered-sendings (length sent) 0 c.sent ∙ ap (λ n. sendings n c.sent) first)
    ∙ sym (sendings-append 0 sent c.sent)

-- Nothing was sent so far, or reported as sent.
record SendsNothing (c : Call) : Type 0 where
  told : told_that is_sent c ≡ []
  sent : c.sent ≡ []

unsent : (what : whats.What) → is_of_life what ≡ true → is_sent what ≡ false
unsent (happened.Sent place to bytes) h = absurd (false≢true h)
unsent _ h = refl

nothing-lives : (s : node.Setting) (e : Event) (c : Call) → SendsNothing c → SendsNothing (lives s e c)
unfolding lives
nothing-lives s e c h =
    record {
      told = filter-append (λ (x : journal.Event). is_sent x.what) c.told (told_of (step s.group (state_of s c.node) e).state.moment (step s.group (state_of s c.node) e).report)
          ∙ ap (λ xs. told_that is_sent c ++ xs) (unlived is_sent s e c unsent) ∙ nil-right (told_that is_sent c) ∙ h.told;
      sent = h.sent;
    }

nothing-takes : (s : node.Setting) (r : Record) (c : Call) → SendsNothing c → SendsNothing (takes s r c)
unfolding takes
nothing-takes s r c h = let x = nothing-lives s (event_of s r.body) c h in record { told = x.told; sent = x.sent }

nothing-signs : (s : node.Setting) (body : Body) (c : Call) → SendsNothing c → SendsNothing (signs s body c)
unfolding signs
nothing-signs s body c h =
    nothing-takes s (own_record s c.node body) (spends s body c)
    (record { told = filter-append (λ (x : journal.Event). is_sent x.what) c.told _ ∙ nil-right (told_that is_sent c) ∙ h.told; sent = h.sent })

nothing-opened : (s : node.Setting) (records : List Record) (c : Call) → SendsNothing c → SendsNothing (fold (λ c r. takes s r c) c records)
nothing-opened s [] c h = h
nothing-opened s (r ∷ records) c h = nothing-opened s records (takes s r c) (nothing-takes s r c h)

nothing-sendings : (c : Call) → SendsNothing c → TellsSendings c
nothing-sendings c h = ap (map (λ (e : journal.Event). e.what)) h.told ∙ sym (ap (sendings 0) h.sent)

nothing-started : (s : node.Setting) (nonces : ℕ → ℕ) (records : List Record) (kept : Stored) → SendsNothing (started s nonces records kept)
unfolding started
nothing-started s nonces records kept =
    nothing-signs s (first_note s kept) (opened s nonces records kept) (nothing-opened s records (begun (blank s nonces kept)) (record { told = refl; sent = refl }))

pub started-sent : (s : node.Setting) (nonces : ℕ → ℕ) (records : List Record) (kept : Stored) → (started s nonces records kept).sent ≡ []
started-sent s nonces records kept = (nothing-started s nonces records kept).sent

started-sendings : (s : node.Setting) (nonces : ℕ → ℕ) (records : List Record) (kept : Stored) → TellsSendings (started s nonces records kept)
started-sendings s nonces records kept = nothing-sendings (started s nonces records kept) (nothing-started s nonces records kept)

sending-kept : (s : Setting) → Keeps s IsSentAsTold
sending-kept s =
    record {
      called = λ k i life c running free h.
          let own : node.Setting = setting_of s k in
          let d : OnDisk = called_on own life.node i (c.world.hosts k).disk in
          let it = come-so-far own life.node i (c.world.hosts k).disk in
          sent-more k c.world.sent c.told d.call (subst TellsSendings (sym it.1) (called-sendings own life.node i it.0)) h;
      began = λ k d c it idle left same h.
          let kept : Stored = (c.world.hosts k).disk.state in
          sent-more k c.world.sent c.told (first_call s k kept) (started-sendings (setting_of s k) (s.nonces k kept.next) (certificates s) kept) h;
      tried = λ k d w told idle left may h. h;
      disked = λ k d w told same h. h;
      ended = λ k life w told running h. h;
      got = λ k moment number w told h. sent-append told _ ∙ nil-right (sent_in told) ∙ h;
      flowed = λ number w told h. h;
      lied = λ key body name w told liar h. h;
    }

sending-first : (s : Setting) → IsSentAsTold (begun_world s) []
unfolding begun_world
sending-first s = refl

pub sending-told : SendingIsTold
sending-told s w told reached = keeps-reached s IsSentAsTold (sending-kept s) (sending-first s) w told reached

-- ---- the authority

abbrev Issues : Setting → World → List NodeEvent → Type 0
Issues s w told = spent_of w None ≡ map spent_as (by_authority s)

no-issue : (k : ℕ) (what : whats.What) (signed : List Signed) → filter_map (spent_if_by None) (cons_option (signed_if_spent k what) signed) ≡ filter_map (spent_if_by None) signed
no-issue k (happened.Spent index body) signed = refl
no-issue k _ signed = refl

none-issued : (k : ℕ) (events : List journal.Event) → filter_map (spent_if_by None) (signed_in k events) ≡ []
none-issued k [] = refl
none-issued k (e ∷ events) = no-issue k e.what (signed_in k events) ∙ none-issued k events

issues-more : (s : Setting) (k : ℕ) (w : World) (told : List NodeEvent) (events : List journal.Event) → Issues s w told → filter_map (spent_if_by None) (w.signed ++ signed_in k events) ≡ map spent_as (by_authority s)
issues-more s k w told events h =
    filter_map-append (spent_if_by None) w.signed (signed_in k events) ∙ ap (λ xs. spent_of w None ++ xs) (none-issued k events) ∙ nil-right (spent_of w None) ∙ h

issues-kept : (s : Setting) → Keeps s (Issues s)
issues-kept s =
    record {
      called = λ k i life c running free h. issues-more s k c.world c.told (called_on (setting_of s k) life.node i (c.world.hosts k).disk).call.told h;
      began = λ k d c it idle left same h. issues-more s k c.world c.told (first_call s k (c.world.hosts k).disk.state).told h;
      tried = λ k d w told idle left may h. h;
      disked = λ k d w told same h. h;
      ended = λ k life w told running h. h;
      got = λ k moment number w told h. h;
      flowed = λ number w told h. h;
      lied = λ key body name w told liar h. filter_map-append (spent_if_by None) w.signed _ ∙ nil-right (spent_of w None) ∙ h;
    }

certified-issued : (s : Setting) (index : ℕ) (ms : List ℕ) → filter_map (spent_if_by None) (certified_from s index ms) ≡ map spent_as (certified_from s index ms)
certified-issued s index [] = refl
certified-issued s index (m ∷ ms) = ap (λ (xs : List Spent). spent_as (record { who = None; index = index; body = Certificate (certificate s m) }) ∷ xs) (certified-issued s (index + 1) ms)

issues-first : (s : Setting) → Issues s (begun_world s) []
unfolding begun_world by_authority
issues-first s = certified-issued s 0 (members s)

certified-above : (s : Setting) (low index : ℕ) (ms : List ℕ) → low < index → AllByRecursion (λ x. low < x) (indexes (map spent_as (certified_from s index ms)))
certified-above s low index [] below = tt
certified-above s low index (m ∷ ms) below = (below, certified-above s low (index + 1) ms (omega (arith, below)))

certified-rise : (s : Setting) (index : ℕ) (ms : List ℕ) → IsRising (indexes (map spent_as (certified_from s index ms)))
certified-rise s index [] = tt
certified-rise s index (m ∷ ms) = (certified-above s index (index + 1) ms (omega arith), certified-rise s (index + 1) ms)

certified-notes : (s : Setting) (index : ℕ) (ms : List ℕ) → IsRising (note_epochs (map spent_as (certified_from s index ms)))
certified-notes s index [] = tt
certified-notes s index (m ∷ ms) = certified-notes s (index + 1) ms

issued-once : (s : Setting) → IsOnce (map spent_as (by_authority s))
unfolding by_authority
issued-once s = record { indexes_rise = certified-rise s 0 (members s); epochs_rise = certified-notes s 0 (members s) }

pub authority-once : AuthoritySpendsOnce
authority-once s w told reached =
    let is = keeps-reached s (Issues s) (issues-kept s) (issues-first s) w told reached in
    record { certificates = is; once = subst IsOnce (sym is) (issued-once s) }
