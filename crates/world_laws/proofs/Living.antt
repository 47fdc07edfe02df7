-- What was reported of a node as accepted or as its own is what came into its lives.
use Rattle.std.proofs.Common.{◌≡◌, ℕ, Bool, true, false, eqb, List, [], ◌∷◌, ◌++◌, length, filter, Some, None, refl, ap, sym, ◌∙◌, subst, inl, inr}
use Rattle.std.specs.Prelude.{filter_map, flat_map, fold}
use Rattle.std.specs.List.{cons_option}
use Rattle.std.proofs.lemmas.Bool.{cases_Bool, cond_both, eq-eqb, false≢true}
use Rattle.std.proofs.lemmas.List.{append_assoc}
use Rattle.std.proofs.lemmas.List.Elements.{filter_map-append}
use Rattle.ff_ids.specs.Steps.{Event, Ticks as Passes, step}
use Rattle.records.specs.declared.CertBody.{CertBody}
use Rattle.records.specs.declared.Body.{Body}
use Rattle.records.specs.declared.Body.TheVariants.{Certificate, Note, Accusation}
use Rattle.records.specs.declared.Record.{Record}
use Rattle.datagram.specs.declared.Datagram.{Datagram}
use Rattle.epoch_store.specs.declared.Stored.{Stored}
use Rattle.journal.specs.declared.event.Event as journal
use Rattle.journal.specs.declared.event.What as whats
use Rattle.journal.specs.declared.event.What.TheVariants as happened
use Rattle.node_rules.specs.Nodes as node
use Rattle.node_rules.specs.Nodes.{state_of, event_of}
use Rattle.node_rules.specs.Calls.{Call, begun, lives, takes, tells, spends, signs, sends, own_record, told_of}
use Rattle.node_rules.specs.Deliveries.{answer_to, returning_note}
use Rattle.node_rules.specs.Leaving.{leaving}
use Rattle.node_rules.specs.Starting.{blank, opened, first_note, started}
use Rattle.node_rules.specs.Lives.{Input, AreCertificates, is_of_life}
use Rattle.node_rules.proofs.Handling.{nil-right, unlived}
use Rattle.world_rules.specs.Settings.{Setting, certificates, setting_of}
use Rattle.world_rules.specs.Disks.{Disk}
use Rattle.world_rules.specs.Calls.{OnDisk, called_on}
use Rattle.world_rules.specs.Worlds.{Life, Host, World, begun_world, with_host}
use Rattle.world_rules.specs.Steps.{NodeEvent, first_call, first_life, life_over, numbered_from, host_after, told_in, with_disk, with_input}
use Rattle.world_rules.proofs.OnDisks.{chosen, other}
use Rattle.world_rules.proofs.LineSteps.{Keeps, keeps-reached}
use Rattle.world_rules.proofs.Once.{at-host}
use Rattle.world_laws.specs.Telling.{AcceptedIsLived, said_in, statement, took_if_told, took_in}
use Rattle.world_laws.proofs.Handing.{AnyRecord, Hands, any-handed, accepts, hands-called, is_plain}
use Rattle.world_laws.proofs.InWorlds.{lives_at}
use Rattle.world_laws.proofs.Reaching.{lives-idle, lives-over, lives-running}
use Rattle.world_laws.proofs.Rosters.{kit-all}

abbrev pub taken : List journal.Event → List Body
taken events = filter_map (λ e. took_in e.what) events

abbrev pub said : List Event → List Body
said events = filter_map said_in events

taken-append : (xs ys : List journal.Event) → taken (xs ++ ys) ≡ taken xs ++ taken ys
taken-append xs ys = filter_map-append (λ (e : journal.Event). took_in e.what) xs ys

pub said-append : (xs ys : List Event) → said (xs ++ ys) ≡ said xs ++ said ys
said-append xs ys = filter_map-append said_in xs ys

-- ---- in a call

-- The call has added to a life what it has reported as accepted or as its own.
pub record Says (base : List Event) (c : Call) : Type 0 where
  pub more : List Event
  pub lived : c.node.lived ≡ base ++ more
  pub same : taken c.told ≡ said more

abbrev is_taken : whats.What → Bool
is_taken (happened.Took body None) = true
is_taken (happened.Spent index body) = true
is_taken what = false

untaken : (what : whats.What) → is_taken what ≡ false → took_in what ≡ None
untaken (happened.Took body None) h = absurd (false≢true (sym h))
untaken (happened.Spent index body) h = absurd (false≢true (sym h))
untaken _ h = refl

untaken-life : (what : whats.What) → is_of_life what ≡ true → is_taken what ≡ false
untaken-life (happened.Took body None) h = absurd (false≢true h)
untaken-life (happened.Spent index body) h = absurd (false≢true h)
untaken-life _ h = refl

none-taken : (events : List journal.Event) → filter (λ (e : journal.Event). is_taken e.what) events ≡ [] → taken events ≡ []
none-taken [] h = refl
none-taken (e ∷ events) h =
    elim (cases_Bool (is_taken e.what)) [
      | inl it ↦ absurd (never e _ (sym (chosen (is_taken e.what) _ _ it) ∙ h))
      | inr isnt ↦ rw (untaken e.what isnt) (none-taken events (sym (other (is_taken e.what) _ _ isnt) ∙ h))
    ]
  where
    never : (e : journal.Event) (rest : List journal.Event) → e ∷ rest ≡ [] → ⊥
    never e rest h = cc

-- One thing is reported, and one event comes into the life, which brings the same.
says-more : (base : List Event) (c d : Call) (news : List journal.Event) (events : List Event) → d.told ≡ c.told ++ news → d.node.lived ≡ c.node.lived ++ events → taken news ≡ said events → Says base c → Says base d
says-more base c d news events told lived same h =
    record {
      more = h.more ++ events;
      lived = lived ∙ ap (λ xs. xs ++ events) h.lived ∙ append_assoc base h.more events;
      same = ap taken told ∙ taken-append c.told news ∙ ap (λ xs. xs ++ taken news) h.same ∙ ap (λ xs. said h.more ++ xs) same ∙ sym (said-append h.more events);
    }

says-tells : (s : node.Setting) (base : List Event) (what : whats.What) (c : Call) → took_in what ≡ None → Says base c → Says base (tells s what c)
says-tells s base what c none h =
    says-more base c (tells s what c) (record { moment = (state_of s c.node).moment; what = what } ∷ []) [] refl (sym (nil-right c.node.lived)) (ap (λ o. cons_option o []) none) h

pub life-untold : (s : node.Setting) (e : Event) (c : Call) → taken (told_of (step s.group (state_of s c.node) e).state.moment (step s.group (state_of s c.node) e).report) ≡ []
life-untold s e c = none-taken (told_of (step s.group (state_of s c.node) e).state.moment (step s.group (state_of s c.node) e).report) (unlived is_taken s e c untaken-life)

says-lives : (s : node.Setting) (base : List Event) (e : Event) (c : Call) → said_in e ≡ None → Says base c → Says base (lives s e c)
unfolding lives
says-lives s base e c none h =
    says-more base c (lives s e c) (told_of (step s.group (state_of s c.node) e).state.moment (step s.group (state_of s c.node) e).report) (e ∷ []) refl refl (life-untold s e c ∙ sym (ap (λ o. cons_option o []) none)) h

-- What is reported before the record is taken brings what its event does.
says-takes : (s : node.Setting) (base : List Event) (what : whats.What) (r : Record) (c d : Call) → took_in what ≡ said_in (event_of s r.body) → d.told ≡ (tells s what c).told → d.node.lived ≡ c.node.lived → Says base c → Says base (takes s r d)
unfolding takes lives
says-takes s base what r c d same told lived h =
    let e : Event = event_of s r.body in
    let report : List journal.Event = told_of (step s.group (state_of s d.node) e).state.moment (step s.group (state_of s d.node) e).report in
    let first : List journal.Event = record { moment = (state_of s c.node).moment; what = what } ∷ [] in
    says-more base c (takes s r d) (first ++ report) (e ∷ [])
    (ap (λ xs. xs ++ report) told ∙ append_assoc c.told first report)
    (ap (λ xs. xs ++ e ∷ []) lived)
    (taken-append first report ∙ ap (λ xs. taken first ++ xs) (life-untold s e d) ∙ nil-right (taken first) ∙ ap (λ o. cons_option o []) same) h

took-said : (s : node.Setting) (body : Body) → statement body ≡ said_in (event_of s body)
took-said s (Certificate c) = refl
took-said s (Note n) = refl
took-said s (Accusation a) = refl

says-accepts : (s : node.Setting) (base : List Event) (r : Record) (c : Call) → Says base c → Says base (accepts s r c)
says-accepts s base r c h = says-takes s base (happened.Took r.body None) r c (tells s (happened.Took r.body None) c) (took-said s r.body) refl refl h

says-signs : (s : node.Setting) (base : List Event) (body : Body) (c : Call) → Says base c → Says base (signs s body c)
unfolding signs
says-signs s base body c h = says-takes s base (happened.Spent c.node.stored.next body) (own_record s c.node body) c (spends s body c) (took-said s body) refl refl h

says-sends : (s : node.Setting) (base : List Event) (d : Datagram) (c : Call) (to : ℕ) → Says base c → Says base (sends s d c to)
unfolding sends
says-sends s base d c to h = let x = says-tells s base _ c refl h in record { more = x.more; lived = x.lived; same = x.same }

pub plain-untaken : (what : whats.What) → is_plain what ≡ true → took_in what ≡ None
plain-untaken (happened.Took body fault) h = absurd (false≢true h)
plain-untaken (happened.Spent index body) h = absurd (false≢true h)
plain-untaken _ h = refl

saying : (s : node.Setting) (base : List Event) → Hands s AnyRecord (Says base)
saying s base =
    record {
      told = λ what c plain h. says-tells s base what c (plain-untaken what plain) h;
      refused = λ r fault c any e h. says-tells s base (happened.Took r.body (Some fault)) c refl h;
      sent = λ d c to h. says-sends s base d c to h;
      accepted = λ r c any fine h. says-accepts s base r c h;
      answered = λ r a c any fine is me may left h. says-signs s base (answer_to s (accepts s r c).node.stored a) (accepts s r c) (says-accepts s base r c h);
      returned = λ r a c any asks may left h. says-signs s base (Note (returning_note s c.node.stored)) c h;
      accused = λ a c by left h. says-signs s base (Accusation a) c h;
      departed = λ c left h. says-signs s base (leaving s c.node.stored) c h;
      stopped = λ c h. let x = says-tells s base happened.Stopped c refl h in record { more = x.more; lived = x.lived; same = x.same };
      passed = λ c h. says-lives s base Passes c refl h;
      probed = λ p c h. record { more = h.more; lived = h.lived; same = h.same };
      spanned = λ c h. record { more = h.more; lived = h.lived; same = h.same };
      spread = λ c h. record { more = h.more; lived = h.lived; same = h.same };
    }

says-called : (s : node.Setting) (n : node.Node) (i : Input) (d : Disk) → Says n.lived (called_on s n i d).call
says-called s n i d = hands-called s AnyRecord (Says n.lived) (saying s n.lived) n i d (any-handed i) (record { more = []; lived = sym (nil-right n.lived); same = refl })

-- ---- at the start of a life

says-kept : (s : node.Setting) (base : List Event) (r : Record) (c : Call) → said_in (event_of s r.body) ≡ None → Says base c → Says base (takes s r c)
unfolding takes
says-kept s base r c none h = let x = says-lives s base (event_of s r.body) c none h in record { more = x.more; lived = x.lived; same = x.same }

certificate-silent : (s : node.Setting) (body : Body) → ((c : CertBody) × (body ≡ Certificate c)) → said_in (event_of s body) ≡ None
certificate-silent s body is = ap (λ b. said_in (event_of s b)) is.1

says-opened : (s : node.Setting) (base : List Event) (records : List Record) (c : Call) → AreCertificates records → Says base c → Says base (fold (λ c r. takes s r c) c records)
says-opened s base [] c all h = h
says-opened s base (r ∷ records) c all h = says-opened s base records (takes s r c) all.1 (says-kept s base r c (certificate-silent s r.body all.0) h)

pub says-started : (s : node.Setting) (nonces : ℕ → ℕ) (records : List Record) (kept : Stored) → AreCertificates records → Says [] (started s nonces records kept)
unfolding started
says-started s nonces records kept all =
    says-signs s [] (first_note s kept) (opened s nonces records kept) (says-opened s [] records (begun (blank s nonces kept)) all (record { more = []; lived = refl; same = refl }))

-- ---- what was reported of a node

abbrev told_for : ℕ → List NodeEvent → List Body
told_for m told = filter_map (took_if_told m) told

told_for-append : (m : ℕ) (xs ys : List NodeEvent) → told_for m (xs ++ ys) ≡ told_for m xs ++ told_for m ys
told_for-append m xs ys = filter_map-append (took_if_told m) xs ys

numbered-taken : (before : ℕ) (what : whats.What) → took_in (numbered_from before what) ≡ took_in what
numbered-taken before (happened.Sent number to bytes) = refl
numbered-taken before _ = refl

told_for-own : (m before : ℕ) (events : List journal.Event) → told_for m (told_in m before events) ≡ taken events
told_for-own m before [] = refl
told_for-own m before (e ∷ events) =
    ap (λ o. cons_option o (told_for m (told_in m before events))) (chosen (eqb m m) _ _ (eq-eqb m m refl) ∙ numbered-taken before e.what) ∙ ap (λ xs. cons_option (took_in e.what) xs) (told_for-own m before events)

told_for-other : (m k before : ℕ) (events : List journal.Event) → eqb k m ≡ false → told_for m (told_in k before events) ≡ []
told_for-other m k before [] apart = refl
told_for-other m k before (e ∷ events) apart = ap (λ o. cons_option o (told_for m (told_in k before events))) (other (eqb k m) _ _ apart) ∙ told_for-other m k before events apart

-- ---- a node's lives

abbrev pub life_says : Life → List Body
life_says life = said life.node.lived

pub flat-append : {X Y : Type 0} (f : X → List Y) (xs ys : List X) → flat_map f (xs ++ ys) ≡ flat_map f xs ++ flat_map f ys
flat-append f [] ys = refl
flat-append f (x ∷ xs) ys = ap (λ zs. f x ++ zs) (flat-append f xs ys) ∙ sym (append_assoc (f x) (flat_map f xs) (flat_map f ys))

abbrev Tells : Host → List Body → Type 0
Tells host bodies = bodies ≡ flat_map life_says (lives_at host)

one-life : (past : List Life) (life : Life) → flat_map life_says (past ++ life ∷ []) ≡ flat_map life_says past ++ life_says life
one-life past life = flat-append life_says past (life ∷ []) ∙ ap (λ xs. flat_map life_says past ++ xs) (nil-right (life_says life))

lives-after : (host : Host) (life : Life) (d : OnDisk) → flat_map life_says (lives_at (host_after host life d)) ≡ flat_map life_says host.past ++ life_says life
lives-after host life d =
    cond_both {A = Host} d.call.ended _ _ (λ x. flat_map life_says (lives_at x) ≡ flat_map life_says host.past ++ life_says life)
    (λ over. ap (flat_map life_says) (nil-right (host.past ++ life ∷ [])) ∙ one-life host.past life)
    (λ going. one-life host.past life)

tells-called : (s : Setting) (m : ℕ) (i : Input) (life : Life) (host : Host) (bodies : List Body) → host.current ≡ Some life → Tells host bodies
    → let d = called_on (setting_of s m) life.node i host.disk in Tells (host_after host (with_input life i d.call.node) d) (bodies ++ taken d.call.told)
tells-called s m i life host bodies is h =
    let d : OnDisk = called_on (setting_of s m) life.node i host.disk in
    let x : Says life.node.lived d.call = says-called (setting_of s m) life.node i host.disk in
    let past : List Body = flat_map life_says host.past in
    ap (λ xs. xs ++ taken d.call.told) (h ∙ ap (flat_map life_says) (lives-running host life is) ∙ one-life host.past life)
    ∙ append_assoc past (life_says life) (taken d.call.told)
    ∙ ap (λ xs. past ++ xs) (ap (λ xs. life_says life ++ xs) x.same ∙ sym (said-append life.node.lived x.more) ∙ sym (ap said x.lived))
    ∙ sym (lives-after host (with_input life i d.call.node) d)

tells-began : (s : Setting) (m : ℕ) (d : Disk) (host : Host) (bodies : List Body) → host.current ≡ None → Tells host bodies
    → let call = first_call s m host.disk.state in Tells (record { disk = d; past = host.past; current = Some (first_life host.disk.state call) }) (bodies ++ taken call.told)
tells-began s m d host bodies idle h =
    let kept : Stored = host.disk.state in
    let call : Call = first_call s m kept in
    let x : Says [] call = says-started (setting_of s m) (s.nonces m kept.next) (certificates s) kept (kit-all s) in
    ap (λ xs. xs ++ taken call.told) (h ∙ ap (flat_map life_says) (lives-idle host idle))
    ∙ ap (λ xs. flat_map life_says host.past ++ xs) (x.same ∙ sym (ap said x.lived))
    ∙ sym (one-life host.past (first_life kept call))

-- ---- worlds

abbrev Stands : ℕ → World → List NodeEvent → Type 0
Stands m w told = Tells (w.hosts m) (told_for m told)

news-own : (k before : ℕ) (host : Host) (told : List NodeEvent) (events : List journal.Event) → Tells host (told_for k told ++ taken events) → Tells host (told_for k (told ++ told_in k before events))
news-own k before host told events h = told_for-append k told (told_in k before events) ∙ ap (λ xs. told_for k told ++ xs) (told_for-own k before events) ∙ h

news-other : (m k before : ℕ) (host : Host) (told : List NodeEvent) (events : List journal.Event) → eqb k m ≡ false → Tells host (told_for m told) → Tells host (told_for m (told ++ told_in k before events))
news-other m k before host told events apart h =
    told_for-append m told (told_in k before events) ∙ ap (λ xs. told_for m told ++ xs) (told_for-other m k before events apart) ∙ nil-right (told_for m told) ∙ h

got-silent : (m k moment number : ℕ) → told_for m (record { who = k; event = record { moment = moment; what = happened.Got number } } ∷ []) ≡ []
got-silent m k moment number = elim (cases_Bool (eqb k m)) [ inl same ↦ rw same refl | inr apart ↦ rw apart refl ]

-- The node's own place is another, which has the same lives.
same-lives : (m k : ℕ) (host : Host) (w : World) (told : List NodeEvent) → lives_at host ≡ lives_at (w.hosts k) → Stands m w told → Tells ((with_host k host w).hosts m) (told_for m told)
same-lives m k host w told same h =
    at-host m k host w (λ x. Tells x (told_for m told)) (λ e. h ∙ ap (λ z. flat_map life_says (lives_at (w.hosts z))) (sym e) ∙ ap (flat_map life_says) (sym same)) (λ apart. h)

stands-kept : (s : Setting) (m : ℕ) → Keeps s (Stands m)
stands-kept s m =
    record {
      called = λ k i life c running free h.
          let host : Host = c.world.hosts k in
          let d : OnDisk = called_on (setting_of s k) life.node i host.disk in
          let after : Host = host_after host (with_input life i d.call.node) d in
          let before : ℕ = length c.world.sent in
          at-host m k after c.world (λ x. Tells x (told_for m (c.told ++ told_in k before d.call.told)))
          (λ e. subst (λ (z : ℕ). Stands z c.world c.told → Tells after (told_for z (c.told ++ told_in k before d.call.told))) e
          (λ own. news-own k before after c.told d.call.told (tells-called s k i life host (told_for k c.told) running own)) h)
          (λ apart. news-other m k before (c.world.hosts m) c.told d.call.told apart h);
      began = λ k d c it idle left same h.
          let host : Host = c.world.hosts k in
          let call : Call = first_call s k host.disk.state in
          let after : Host = record { disk = d; past = host.past; current = Some (first_life host.disk.state call) } in
          let before : ℕ = length c.world.sent in
          at-host m k after c.world (λ x. Tells x (told_for m (c.told ++ told_in k before call.told)))
          (λ e. subst (λ (z : ℕ). Stands z c.world c.told → Tells after (told_for z (c.told ++ told_in k before call.told))) e
          (λ own. news-own k before after c.told call.told (tells-began s k d host (told_for k c.told) idle own)) h)
          (λ apart. news-other m k before (c.world.hosts m) c.told call.told apart h);
      tried = λ k d w told idle left may h. same-lives m k (with_disk (w.hosts k) d) w told refl h;
      disked = λ k d w told same h. same-lives m k (with_disk (w.hosts k) d) w told refl h;
      ended = λ k life w told running h. same-lives m k (life_over (w.hosts k) (Some life)) w told (lives-over (w.hosts k) life running) h;
      got = λ k moment number w told h. told_for-append m told _ ∙ ap (λ xs. told_for m told ++ xs) (got-silent m k moment number) ∙ nil-right (told_for m told) ∙ h;
      flowed = λ number w told h. h;
      lied = λ key body name w told liar h. h;
    }

stands-first : (s : Setting) (m : ℕ) → Stands m (begun_world s) []
unfolding begun_world
stands-first s m = refl

pub accepted-lived : AcceptedIsLived
accepted-lived s w told m reached = keeps-reached s (Stands m) (stands-kept s m) (stands-first s m) w told reached
