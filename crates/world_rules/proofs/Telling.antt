-- What is reported of the views of a node is what its lives report.
use Rattle.std.proofs.Common.{◌≡◌, ℕ, true, false, eqb, List, [], ◌∷◌, ◌++◌, Some, None, inl, inr, refl, ap, sym, ◌∙◌, subst, map, filter, length}
use Rattle.std.specs.Prelude.{flat_map, fold, option_to_list}
use Rattle.std.specs.List.{AllByRecursion}
use Rattle.std.proofs.lemmas.Bool.{cases_Bool, cond_both, eq-eqb}
use Rattle.std.proofs.lemmas.List.{append_assoc}
use Rattle.std.proofs.lemmas.List.Elements.{filter-append}
use Rattle.ff_ids.specs.declared.Group.{Group}
use Rattle.ff_ids.specs.Views.{State}
use Rattle.ff_ids.specs.Steps.{Event, Report, step}
use Rattle.ff_ids.specs.Lives.{opening, after, IsJustified}
use Rattle.life_laws.proofs.JustifiedLemmas.{justified}
use Rattle.records.specs.declared.Body.{Body}
use Rattle.records.specs.declared.Record.{Record}
use Rattle.epoch_store.specs.declared.Stored.{Stored}
use Rattle.journal.specs.declared.event.Event as journal
use Rattle.journal.specs.declared.event.What as whats
use Rattle.journal.specs.declared.event.What.TheVariants as happened
use Rattle.node_rules.specs.Nodes as node
use Rattle.node_rules.specs.Calls.{Call, begun, lives, takes, signs, spends, told_of, whats_of}
use Rattle.node_rules.specs.Starting.{blank, opened, first_note, started}
use Rattle.node_rules.specs.Lives.{Input, TellsItsLife, is_of_life, told_by}
use Rattle.node_rules.proofs.Telling.{called-tells}
use Rattle.world_rules.specs.Settings.{Setting, certificates, setting_of}
use Rattle.world_rules.specs.Disks.{Disk}
use Rattle.world_rules.specs.Calls.{OnDisk, called_on}
use Rattle.world_rules.specs.Worlds.{Life, Host, World, begun_world, lives_of}
use Rattle.world_rules.specs.Steps.{NodeEvent, first_call, first_life, life_over, numbered_from, host_after, told_in, with_disk, with_input}
use Rattle.world_rules.specs.Laws.{EachRemovalIsJustified, tells_life}
use Rattle.world_rules.proofs.SoFar.{come-so-far}
use Rattle.world_rules.proofs.LineSteps.{Keeps, keeps-reached}
use Rattle.world_rules.proofs.Once.{at-host}

abbrev of_life : List journal.Event → List journal.Event
of_life told = filter (λ e. is_of_life e.what) told

-- ---- a call reports its life

pub call-on-tells : (s : node.Setting) (n : node.Node) (i : Input) (d : Disk) → TellsItsLife s n (called_on s n i d).call
call-on-tells s n i d = let it = come-so-far s n i d in subst (TellsItsLife s n) (sym it.1) (called-tells s n i it.0)

told_by-append : (g : Group) (st : State) (xs ys : List Event) → told_by g st (xs ++ ys) ≡ told_by g st xs ++ told_by g (after g st xs) ys
told_by-append g st [] ys = refl
told_by-append g st (x ∷ xs) ys =
    let news : List journal.Event = told_of (step g st x).state.moment (step g st x).report in
    ap (λ zs. news ++ zs) (told_by-append g (step g st x).state xs ys) ∙ sym (append_assoc news (told_by g (step g st x).state xs) (told_by g (after g (step g st x).state xs) ys))

abbrev life_tells : Setting → Life → List journal.Event
life_tells s life = told_by s.group (opening []) life.node.lived

-- A life that a call goes on with reports what it reported, and what the call reports of it.
pub goes-on-tells : (s : Setting) (m : ℕ) (life : Life) (i : Input) (c : Call) → TellsItsLife (setting_of s m) life.node c → life_tells s (with_input life i c.node) ≡ life_tells s life ++ of_life c.told
unfolding node.state_of
goes-on-tells s m life i c h =
    ap (told_by s.group (opening [])) h.grew ∙ told_by-append s.group (opening []) life.node.lived h.more
    ∙ ap (λ xs. life_tells s life ++ xs) (sym h.told_so)

-- ---- the first note reports its life

all-pass : (moment : ℕ) (xs : List whats.What) → AllByRecursion (λ x. is_of_life x ≡ true) xs → of_life (map (λ what. record { moment = moment; what = what }) xs) ≡ map (λ what. record { moment = moment; what = what }) xs
all-pass moment [] all = refl
all-pass moment (x ∷ xs) all = rw all.0 (ap (λ ys. record { moment = moment; what = x } ∷ ys) (all-pass moment xs all.1))

all-map : {X : Type 0} (f : X → whats.What) (xs : List X) → ((x : X) → is_of_life (f x) ≡ true) → AllByRecursion (λ x. is_of_life x ≡ true) (map f xs)
all-map f [] h = tt
all-map f (x ∷ xs) h = (h x, all-map f xs h)

all-append : (xs ys : List whats.What) → AllByRecursion (λ x. is_of_life x ≡ true) xs → AllByRecursion (λ x. is_of_life x ≡ true) ys → AllByRecursion (λ x. is_of_life x ≡ true) (xs ++ ys)
all-append [] ys h k = k
all-append (x ∷ xs) ys h k = (h.0, all-append xs ys h.1 k)

report-passes : (moment : ℕ) (r : Report) → of_life (told_of moment r) ≡ told_of moment r
report-passes moment r =
    all-pass moment (whats_of r)
    (all-append (map happened.Expired r.expired ++ map happened.Removed r.removed ++ map happened.Entered r.entered) (map happened.Fell r.fell)
    (all-append (map happened.Expired r.expired ++ map happened.Removed r.removed) (map happened.Entered r.entered)
    (all-append (map happened.Expired r.expired) (map happened.Removed r.removed) (all-map happened.Expired r.expired (λ x. refl)) (all-map happened.Removed r.removed (λ x. refl)))
    (all-map happened.Entered r.entered (λ x. refl)))
    (all-map happened.Fell r.fell (λ x. refl)))

nil-right : {A : Type 0} (xs : List A) → xs ++ [] ≡ xs
nil-right [] = refl
nil-right (x ∷ xs) = ap (λ ys. x ∷ ys) (nil-right xs)

-- The call has reported what its life reports, from the opening on.
abbrev TellsAll : node.Setting → Call → Type 0
TellsAll s c = of_life c.told ≡ told_by s.group (opening []) c.node.lived

all-lives : (s : node.Setting) (e : Event) (c : Call) → TellsAll s c → TellsAll s (lives s e c)
unfolding lives node.state_of
all-lives s e c h =
    let st : State = after s.group (opening []) c.node.lived in
    let moment : ℕ = (step s.group st e).state.moment in
    let report : Report = (step s.group st e).report in
    filter-append (λ (x : journal.Event). is_of_life x.what) c.told (told_of moment report)
    ∙ ap (λ xs. of_life c.told ++ xs) (report-passes moment report) ∙ ap (λ xs. xs ++ told_of moment report) h
    ∙ ap (λ xs. told_by s.group (opening []) c.node.lived ++ xs) (sym (nil-right (told_of moment report)))
    ∙ sym (told_by-append s.group (opening []) c.node.lived (e ∷ []))

all-takes : (s : node.Setting) (r : Record) (c : Call) → TellsAll s c → TellsAll s (takes s r c)
unfolding takes
all-takes s r c h = all-lives s (node.event_of s r.body) c h

all-signs : (s : node.Setting) (body : Body) (c : Call) → TellsAll s c → TellsAll s (signs s body c)
unfolding signs
all-signs s body c h =
    all-takes s _ (spends s body c) (filter-append (λ (x : journal.Event). is_of_life x.what) c.told _ ∙ nil-right (of_life c.told) ∙ h)

all-takes_all : (s : node.Setting) (records : List Record) (c : Call) → TellsAll s c → TellsAll s (fold (λ c r. takes s r c) c records)
all-takes_all s [] c h = h
all-takes_all s (r ∷ records) c h = all-takes_all s records (takes s r c) (all-takes s r c h)

pub started-tells : (s : node.Setting) (nonces : ℕ → ℕ) (records : List Record) (kept : Stored) → TellsAll s (started s nonces records kept)
unfolding started
started-tells s nonces records kept = all-signs s (first_note s kept) (opened s nonces records kept) (all-takes_all s records (begun (blank s nonces kept)) refl)

-- ---- what was reported of a node

abbrev told_for : ℕ → List NodeEvent → List journal.Event
told_for m told = map (λ t. t.event) (filter (tells_life m) told)

map-append : {X Y : Type 0} (f : X → Y) (xs ys : List X) → map f (xs ++ ys) ≡ map f xs ++ map f ys
map-append f [] ys = refl
map-append f (x ∷ xs) ys = ap (λ zs. f x ∷ zs) (map-append f xs ys)

told_for-append : (m : ℕ) (xs ys : List NodeEvent) → told_for m (xs ++ ys) ≡ told_for m xs ++ told_for m ys
told_for-append m xs ys = ap (map (λ (t : NodeEvent). t.event)) (filter-append (tells_life m) xs ys) ∙ map-append (λ (t : NodeEvent). t.event) (filter (tells_life m) xs) (filter (tells_life m) ys)

numbered-of_life : (before : ℕ) (what : whats.What) → is_of_life (numbered_from before what) ≡ is_of_life what
numbered-of_life before (happened.Sent number to bytes) = refl
numbered-of_life before _ = refl

numbered-same : (before : ℕ) (what : whats.What) → is_of_life what ≡ true → numbered_from before what ≡ what
numbered-same before (happened.Sent number to bytes) h = cc
numbered-same before _ h = refl

pub told_for-own : (m before : ℕ) (events : List journal.Event) → told_for m (told_in m before events) ≡ of_life events
told_for-own m before [] = refl
told_for-own m before (e ∷ events) =
    elim (cases_Bool (is_of_life e.what)) [
      | inl it ↦
          rw (eq-eqb m m refl, numbered-of_life before e.what, it)
          (ap (λ (w : whats.What). record { moment = e.moment; what = w } ∷ told_for m (told_in m before events)) (numbered-same before e.what it) ∙ ap (λ xs. e ∷ xs) (told_for-own m before events))
      | inr isnt ↦ rw (eq-eqb m m refl, numbered-of_life before e.what, isnt) (told_for-own m before events)
    ]

told_for-other : (m k before : ℕ) (events : List journal.Event) → eqb k m ≡ false → told_for m (told_in k before events) ≡ []
told_for-other m k before [] apart = refl
told_for-other m k before (e ∷ events) apart = rw apart (told_for-other m k before events apart)

-- ---- a node's lives

abbrev host_lives : Host → List Life
host_lives host = host.past ++ option_to_list host.current

flat-append : {X Y : Type 0} (f : X → List Y) (xs ys : List X) → flat_map f (xs ++ ys) ≡ flat_map f xs ++ flat_map f ys
flat-append f [] ys = refl
flat-append f (x ∷ xs) ys = ap (λ zs. f x ++ zs) (flat-append f xs ys) ∙ sym (append_assoc (f x) (flat_map f xs) (flat_map f ys))

abbrev Tells : Setting → Host → List journal.Event → Type 0
Tells s host told = told ≡ flat_map (life_tells s) (host_lives host)

one-life : (s : Setting) (past : List Life) (life : Life) → flat_map (life_tells s) (past ++ life ∷ []) ≡ flat_map (life_tells s) past ++ life_tells s life
one-life s past life = flat-append (life_tells s) past (life ∷ []) ∙ ap (λ xs. flat_map (life_tells s) past ++ xs) (nil-right (life_tells s life))

lives-running : (s : Setting) (host : Host) (life : Life) → host.current ≡ Some life → flat_map (life_tells s) (host_lives host) ≡ flat_map (life_tells s) host.past ++ life_tells s life
lives-running s host life is = ap (λ o. flat_map (life_tells s) (host.past ++ option_to_list o)) is ∙ one-life s host.past life

lives-idle : (s : Setting) (host : Host) → host.current ≡ None → flat_map (life_tells s) (host_lives host) ≡ flat_map (life_tells s) host.past
lives-idle s host is = ap (λ o. flat_map (life_tells s) (host.past ++ option_to_list o)) is ∙ ap (flat_map (life_tells s)) (nil-right host.past)

lives-after : (s : Setting) (host : Host) (life : Life) (d : OnDisk) → flat_map (life_tells s) (host_lives (host_after host life d)) ≡ flat_map (life_tells s) host.past ++ life_tells s life
lives-after s host life d =
    cond_both {A = Host} d.call.ended _ _ (λ x. flat_map (life_tells s) (host_lives x) ≡ flat_map (life_tells s) host.past ++ life_tells s life)
    (λ over. ap (flat_map (life_tells s)) (nil-right (host.past ++ life ∷ [])) ∙ one-life s host.past life)
    (λ going. one-life s host.past life)

tells-called : (s : Setting) (m : ℕ) (i : Input) (life : Life) (host : Host) (told : List journal.Event) → host.current ≡ Some life → Tells s host told
    → let d = called_on (setting_of s m) life.node i host.disk in Tells s (host_after host (with_input life i d.call.node) d) (told ++ of_life d.call.told)
tells-called s m i life host told is h =
    let d : OnDisk = called_on (setting_of s m) life.node i host.disk in
    let past : List journal.Event = flat_map (life_tells s) host.past in
    ap (λ xs. xs ++ of_life d.call.told) (h ∙ lives-running s host life is)
    ∙ append_assoc past (life_tells s life) (of_life d.call.told)
    ∙ ap (λ xs. past ++ xs) (sym (goes-on-tells s m life i d.call (call-on-tells (setting_of s m) life.node i host.disk)))
    ∙ sym (lives-after s host (with_input life i d.call.node) d)

tells-began : (s : Setting) (m : ℕ) (d : Disk) (host : Host) (told : List journal.Event) → host.current ≡ None → Tells s host told
    → let call = first_call s m host.disk.state in Tells s (record { disk = d; past = host.past; current = Some (first_life host.disk.state call) }) (told ++ of_life call.told)
tells-began s m d host told idle h =
    let call : Call = first_call s m host.disk.state in
    ap (λ xs. xs ++ of_life call.told) (h ∙ lives-idle s host idle)
    ∙ ap (λ xs. flat_map (life_tells s) host.past ++ xs) (started-tells (setting_of s m) (s.nonces m host.disk.state.next) (certificates s) host.disk.state)
    ∙ sym (one-life s host.past (first_life host.disk.state call))

-- ---- worlds

abbrev Stands : Setting → ℕ → World → List NodeEvent → Type 0
Stands s m w told = Tells s (w.hosts m) (told_for m told)

news-other : (s : Setting) (m k before : ℕ) (w : World) (told : List NodeEvent) (events : List journal.Event) → eqb k m ≡ false → Stands s m w told → Tells s (w.hosts m) (told_for m (told ++ told_in k before events))
news-other s m k before w told events apart h =
    told_for-append m told (told_in k before events) ∙ ap (λ xs. told_for m told ++ xs) (told_for-other m k before events apart) ∙ nil-right (told_for m told) ∙ h

stands-kept : (s : Setting) (m : ℕ) → Keeps s (Stands s m)
stands-kept s m =
    record {
      called = λ k i life c running free h.
          let host : Host = c.world.hosts k in
          let d : OnDisk = called_on (setting_of s k) life.node i host.disk in
          let after : Host = host_after host (with_input life i d.call.node) d in
          let before : ℕ = length c.world.sent in
          at-host m k after c.world (λ x. Tells s x (told_for m (c.told ++ told_in k before d.call.told)))
          (λ e. subst (λ (z : ℕ). Stands s z c.world c.told → Tells s after (told_for z (c.told ++ told_in k before d.call.told))) e
          (λ own. told_for-append k c.told (told_in k before d.call.told) ∙ ap (λ xs. told_for k c.told ++ xs) (told_for-own k before d.call.told) ∙ tells-called s k i life host (told_for k c.told) running own) h)
          (λ apart. news-other s m k before c.world c.told d.call.told apart h);
      began = λ k d c it idle free same h.
          let host : Host = c.world.hosts k in
          let call : Call = first_call s k host.disk.state in
          let after : Host = record { disk = d; past = host.past; current = Some (first_life host.disk.state call) } in
          let before : ℕ = length c.world.sent in
          at-host m k after c.world (λ x. Tells s x (told_for m (c.told ++ told_in k before call.told)))
          (λ e. subst (λ (z : ℕ). Stands s z c.world c.told → Tells s after (told_for z (c.told ++ told_in k before call.told))) e
          (λ own. told_for-append k c.told (told_in k before call.told) ∙ ap (λ xs. told_for k c.told ++ xs) (told_for-own k before call.told) ∙ tells-began s k d host (told_for k c.told) idle own) h)
          (λ apart. news-other s m k before c.world c.told call.told apart h);
      tried = λ k d w told idle free left h. at-host m k _ w (λ x. Tells s x (told_for m told)) (λ e. subst (λ (z : ℕ). Stands s z w told → Tells s (with_disk (w.hosts k) d) (told_for z told)) e (λ own. own) h) (λ apart. h);
      disked = λ k d w told same h. at-host m k _ w (λ x. Tells s x (told_for m told)) (λ e. subst (λ (z : ℕ). Stands s z w told → Tells s (with_disk (w.hosts k) d) (told_for z told)) e (λ own. own) h) (λ apart. h);
      ended = λ k life w told running h.
          let host : Host = w.hosts k in
          at-host m k _ w (λ x. Tells s x (told_for m told))
          (λ e. subst (λ (z : ℕ). Stands s z w told → Tells s (life_over host (Some life)) (told_for z told)) e
          (λ own. own ∙ lives-running s host life running ∙ sym (one-life s host.past life) ∙ ap (flat_map (life_tells s)) (sym (nil-right (host.past ++ life ∷ [])))) h)
          (λ apart. h);
      got = λ k moment number w told h.
          told_for-append m told _ ∙ ap (λ xs. told_for m told ++ xs) (got-silent m k moment number) ∙ nil-right (told_for m told) ∙ h;
      flowed = λ number w told h. h;
      lied = λ key body name w told liar h. h;
    }
  where
    got-silent : (m k moment number : ℕ) → told_for m (record { who = k; event = record { moment = moment; what = happened.Got number } } ∷ []) ≡ []
    got-silent m k moment number = elim (cases_Bool (eqb k m)) [ inl same ↦ rw same refl | inr apart ↦ rw apart refl ]

stands-first : (s : Setting) (m : ℕ) → Stands s m (begun_world s) []
unfolding begun_world
stands-first s m = refl

all-justified : (s : Setting) (lives : List Life) → AllByRecursion (λ life. IsJustified s.group (opening []) life.node.lived) lives
all-justified s [] = tt
all-justified s (life ∷ rest) = (justified s.group [] life.node.lived, all-justified s rest)

pub lives-justified : EachRemovalIsJustified
lives-justified s w told m reached =
    record { told_so = keeps-reached s (Stands s m) (stands-kept s m) (stands-first s m) w told reached; justified = all-justified s (lives_of w m) }
