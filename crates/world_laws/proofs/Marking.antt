-- At which place of which life an accusation came in that a tick signed, by where that is reported.
use Rattle.std.proofs.Common.{◌≡◌, ℕ, ◌+◌, Bool, true, false, cond, eqb, List, [], ◌∷◌, ◌++◌, length, Option, Some, None, inl, inr, refl, ap, sym, ◌∙◌, subst, take, arith}
use Rattle.std.specs.Prelude.{filter_map, flat_map, option_map}
use Rattle.std.specs.List.{cons_option, slice_get}
use Rattle.std.proofs.lemmas.Bool.{cases_Bool, cond_both, eq-eqb}
use Rattle.std.proofs.lemmas.List.{append_assoc}
use Rattle.std.proofs.lemmas.List.Elements.{filter_map-append}
use Rattle.ff_ids.specs.declared.AccBody.{AccBody}
use Rattle.ff_ids.specs.Steps.{Event, Joins, Notes, Accuses, Ticks}
use Rattle.life_laws.proofs.Lists.{In, In-append_right}
use Rattle.records.specs.declared.Body.{Body}
use Rattle.records.specs.declared.Body.TheVariants.{Accusation}
use Rattle.epoch_store.specs.declared.Stored.{Stored}
use Rattle.journal.specs.declared.event.Event as journal
use Rattle.journal.specs.declared.event.What as whats
use Rattle.journal.specs.declared.event.What.TheVariants as happened
use Rattle.node_rules.specs.Nodes as node
use Rattle.node_rules.specs.Calls.{Call}
use Rattle.node_rules.specs.Lives.{Input}
use Rattle.node_rules.proofs.Accusations.{In-filter_map, In-from_filter_map}
use Rattle.world_rules.specs.Settings.{Setting, certificates, setting_of}
use Rattle.world_rules.specs.Disks.{Disk}
use Rattle.world_rules.specs.Calls.{OnDisk, called_on}
use Rattle.world_rules.specs.Worlds.{Host, Life, World, begun_world, lives_of, with_host}
use Rattle.world_rules.specs.Steps.{NodeEvent, first_call, first_life, host_after, life_over, numbered_from, signed_if_spent, told_in, with_disk, with_input}
use Rattle.world_rules.specs.Laws.{IsSetting, Reached}
use Rattle.world_rules.proofs.OnDisks.{chosen, other}
use Rattle.world_rules.proofs.LineSteps.{Keeps, keeps-reached}
use Rattle.world_rules.proofs.Once.{at-host}
use Rattle.world_laws.specs.Signing.{SignsAtTick, node_after}
use Rattle.world_laws.specs.Telling.{IsToldHere, said_in, spending, took_if_told, took_in}
use Rattle.world_laws.proofs.InWorlds.{Holds, get-front, lives_at, nil-right, signs-later}
use Rattle.world_laws.proofs.Living.{Says, flat-append, life_says, said, said-append, says-started}
use Rattle.world_laws.proofs.Marks.{Came, Mark, Marks, bodies, bodies-append, bodies-of, mark-body, mark-spent, mark_in, marks, marks-called, nothing, own_mark}
use Rattle.world_laws.proofs.Places.{cut-at, get-behind, take-behind, take-front}
use Rattle.world_laws.proofs.Reaching.{first-accuses, holds-first, holds-kept, lives-idle, lives-over, lives-running, signs-here}
use Rattle.world_laws.proofs.Rosters.{kit-all}

-- ---- a life

-- A tick signed the accusation with this index, and it came in at a place of the life, behind what these marks are of.
record TickAt (s : Setting) (m : ℕ) (life : Life) (xs : List Mark) (index : ℕ) (a : AccBody) : Type 0 where
  place : ℕ
  there : slice_get life.node.lived place ≡ Some (Accuses a)
  till : said (take place life.node.lived) ≡ bodies xs
  signs : SignsAtTick s m life place index a

-- The marks are of what came into the life; and each own accusation among them is so.
record Marked (s : Setting) (m : ℕ) (life : Life) (ms : List Mark) : Type 0 where
  same : bodies ms ≡ said life.node.lived
  came : (xs ys : List Mark) (index : ℕ) (a : AccBody) → ms ≡ xs ++ own_mark index (Accusation a) ∷ ys → TickAt s m life xs index a

said-accuses : (e : Event) (a : AccBody) → said_in e ≡ Some (Accusation a) → e ≡ Accuses a
said-accuses (Joins number places) a h = cc
said-accuses (Notes n) a h = cc
said-accuses (Accuses x) a h = ap (λ y. Accuses y) (inner x a h)
  where
    inner : (x y : AccBody) → Some (Accusation x) ≡ Some (Accusation y) → x ≡ y
    inner x y e = cc
said-accuses Ticks a h = cc

tick-later : (s : Setting) (m : ℕ) (life : Life) (i : Input) (next : node.Node) (more : List Event) (xs : List Mark) (index : ℕ) (a : AccBody) → next.lived ≡ life.node.lived ++ more → TickAt s m life xs index a → TickAt s m (with_input life i next) xs index a
tick-later s m life i next more xs index a grew h =
    record {
      place = h.place;
      there = ap (λ es. slice_get es h.place) grew ∙ get-front life.node.lived more h.place (Accuses a) h.there;
      till = ap (λ es. said (take h.place es)) grew ∙ ap said (take-front life.node.lived more h.place (Accuses a) h.there) ∙ h.till;
      signs = signs-later s m h.place index a life (with_input life i next) (i ∷ []) refl refl h.signs;
    }

-- The store keeps what the node does, which has come to what its calls make of it.
record Stands (s : Setting) (m : ℕ) (life : Life) (d : Disk) : Type 0 where
  after : life.node ≡ node_after s m life.found life.inputs
  kept : life.node.stored ≡ d.state

tick-now : (s : Setting) (m : ℕ) (life : Life) (i : Input) (d : Disk) (ms xs gap : List Mark) (index : ℕ) (a : AccBody) → Stands s m life d → bodies ms ≡ said life.node.lived → xs ≡ ms ++ gap
    → (h : Marks life.node.lived (called_on (setting_of s m) life.node i d).call) → Came h.more (called_on (setting_of s m) life.node i d).call gap index (Accusation a)
    → TickAt s m (with_input life i (called_on (setting_of s m) life.node i d).call.node) xs index a
tick-now s m life i d ms xs gap index a stands same front h x =
    let c : Call = (called_on (setting_of s m) life.node i d).call in
    let lived : List Event = life.node.lived in
    let place : ℕ = length lived + x.place in
    let there : slice_get c.node.lived place ≡ Some (Accuses a) =
    ap (λ es. slice_get es place) h.lived ∙ get-behind lived h.more x.place ∙ x.there ∙ ap (λ (e : Event). Some e) (said-accuses x.event a x.says) in
    record {
      place = place;
      there = there;
      till = ap (λ es. said (take place es)) h.lived ∙ ap said (take-behind lived h.more x.place) ∙ said-append lived (take x.place h.more) ∙ ap (λ ys. said lived ++ ys) x.till
          ∙ ap (λ ys. ys ++ bodies gap) (sym same) ∙ sym (bodies-append ms gap) ∙ ap bodies (sym front);
      signs = (signs-here s m place index a life i d x.moment c.node stands.after stands.kept x.among (omega arith) there).1;
    }

marked-called : (s : Setting) (m : ℕ) (life : Life) (i : Input) (d : Disk) (ms : List Mark) → Stands s m life d → Marked s m life ms
    → let c = (called_on (setting_of s m) life.node i d).call in Marked s m (with_input life i c.node) (ms ++ marks c.told)
marked-called s m life i d ms stands h =
    let c : Call = (called_on (setting_of s m) life.node i d).call in
    let x : Marks life.node.lived c = marks-called (setting_of s m) life.node i d in
    record {
      same = bodies-append ms (marks c.told) ∙ ap (λ ys. ys ++ bodies (marks c.told)) h.same ∙ ap (λ ys. said life.node.lived ++ ys) x.same ∙ sym (said-append life.node.lived x.more) ∙ sym (ap said x.lived);
      came = λ xs ys index a e. elim (cut-at ms (marks c.told) xs (own_mark index (Accusation a)) ys e) [
        | inl old ↦ tick-later s m life i c.node x.more xs index a x.lived (h.came xs old.0 index a old.1)
        | inr now ↦ tick-now s m life i d ms xs now.0 index a stands h.same now.1.0 x (x.came now.0 ys index (Accusation a) now.1.1)
      ];
    }

marked-first : (s : Setting) (m : ℕ) (kept : Stored) → Marked s m (first_life kept (first_call s m kept)) (marks (first_call s m kept).told)
marked-first s m kept =
    let call : Call = first_call s m kept in
    let x : Says [] call = says-started (setting_of s m) (s.nonces m kept.next) (certificates s) kept (kit-all s) in
    record {
      same = sym (bodies-of (λ (e : journal.Event). mark_in e.what) (λ (e : journal.Event). took_in e.what) call.told (λ e. mark-body e.what)) ∙ x.same ∙ sym (ap said x.lived);
      came = λ xs ys index a e.
          let k : Mark = own_mark index (Accusation a) in
          let t = In-from_filter_map (λ (e : journal.Event). mark_in e.what) call.told k (subst (λ zs. In zs k) (sym e) (In-append_right xs (k ∷ ys) k (inl refl))) in
          let is : t.0.what ≡ happened.Spent index (Accusation a) = mark-spent t.0.what index (Accusation a) t.1.1 in
          absurd (first-accuses s m m index kept a
          (In-filter_map (λ (e : journal.Event). signed_if_spent m e.what) call.told t.0 (record { who = Some m; index = index; body = Accusation a }) t.1.0 (ap (signed_if_spent m) is)));
    }

-- ---- a node's lives

abbrev AllMarked : Setting → ℕ → List Life → List (List Mark) → Type 0
AllMarked s m [] [] = Unit {0}
AllMarked s m [] (ms ∷ each) = ⊥
AllMarked s m (life ∷ lives) [] = ⊥
AllMarked s m (life ∷ lives) (ms ∷ each) = Marked s m life ms × AllMarked s m lives each

marked-push : (s : Setting) (m : ℕ) (past : List Life) (life : Life) (each : List (List Mark)) (ms : List Mark) → AllMarked s m past each → Marked s m life ms → AllMarked s m (past ++ life ∷ []) (each ++ ms ∷ [])
marked-push s m [] life [] ms all one = (one, tt)
marked-push s m [] life (x ∷ each) ms all one = absurd all
marked-push s m (l ∷ past) life [] ms all one = absurd all
marked-push s m (l ∷ past) life (x ∷ each) ms all one = (all.0, marked-push s m past life each ms all.1 one)

record LastMarked (s : Setting) (m : ℕ) (past : List Life) (life : Life) (each : List (List Mark)) : Type 0 where
  front : List (List Mark)
  last : List Mark
  is : each ≡ front ++ last ∷ []
  all : AllMarked s m past front
  one : Marked s m life last

marked-last : (s : Setting) (m : ℕ) (past : List Life) (life : Life) (each : List (List Mark)) → AllMarked s m (past ++ life ∷ []) each → LastMarked s m past life each
marked-last s m [] life [] all = absurd all
marked-last s m [] life (ms ∷ []) all = record { front = []; last = ms; is = refl; all = tt; one = all.0 }
marked-last s m [] life (ms ∷ x ∷ each) all = absurd all.1
marked-last s m (l ∷ past) life [] all = absurd all
marked-last s m (l ∷ past) life (ms ∷ each) all =
    let r : LastMarked s m past life each = marked-last s m past life each all.1 in
    record { front = ms ∷ r.front; last = r.last; is = ap (λ xs. ms ∷ xs) r.is; all = (all.0, r.all); one = r.one }

abbrev flat : List (List Mark) → List Mark
flat each = flat_map (λ ks. ks) each

flat-push : (front : List (List Mark)) (last : List Mark) → flat (front ++ last ∷ []) ≡ flat front ++ last
flat-push front last = flat-append (λ (ks : List Mark). ks) front (last ∷ []) ∙ ap (λ xs. flat front ++ xs) (nil-right last)

-- The marks are those of the lives, one after another.
record MarkedAt (s : Setting) (m : ℕ) (host : Host) (ms : List Mark) : Type 0 where
  each : List (List Mark)
  all : AllMarked s m (lives_at host) each
  is : flat each ≡ ms

lives-after : (host : Host) (life : Life) (d : OnDisk) → lives_at (host_after host life d) ≡ host.past ++ life ∷ []
lives-after host life d =
    cond_both {A = Host} d.call.ended _ _ (λ x. lives_at x ≡ host.past ++ life ∷ []) (λ over. nil-right (host.past ++ life ∷ [])) (λ going. refl)

called-marked : (s : Setting) (m : ℕ) (i : Input) (life : Life) (host : Host) (ms : List Mark) → host.current ≡ Some life → Stands s m life host.disk → MarkedAt s m host ms
    → let d = called_on (setting_of s m) life.node i host.disk in MarkedAt s m (host_after host (with_input life i d.call.node) d) (ms ++ marks d.call.told)
called-marked s m i life host ms running stands h =
    let d : OnDisk = called_on (setting_of s m) life.node i host.disk in
    let after : Life = with_input life i d.call.node in
    let l : LastMarked s m host.past life h.each = marked-last s m host.past life h.each (subst (λ ls. AllMarked s m ls h.each) (lives-running host life running) h.all) in
    let news : List Mark = marks d.call.told in
    record {
      each = l.front ++ (l.last ++ news) ∷ [];
      all = subst (λ ls. AllMarked s m ls (l.front ++ (l.last ++ news) ∷ [])) (sym (lives-after host after d)) (marked-push s m host.past after l.front (l.last ++ news) l.all (marked-called s m life i host.disk l.last stands l.one));
      is = flat-push l.front (l.last ++ news) ∙ sym (append_assoc (flat l.front) l.last news) ∙ ap (λ xs. xs ++ news) (sym (flat-push l.front l.last) ∙ sym (ap flat l.is) ∙ h.is);
    }

began-marked : (s : Setting) (m : ℕ) (d : Disk) (host : Host) (ms : List Mark) → host.current ≡ None → MarkedAt s m host ms
    → let call = first_call s m host.disk.state in MarkedAt s m (record { disk = d; past = host.past; current = Some (first_life host.disk.state call) }) (ms ++ marks call.told)
began-marked s m d host ms idle h =
    let kept : Stored = host.disk.state in
    let call : Call = first_call s m kept in
    record {
      each = h.each ++ marks call.told ∷ [];
      all = marked-push s m host.past (first_life kept call) h.each (marks call.told) (subst (λ ls. AllMarked s m ls h.each) (lives-idle host idle) h.all) (marked-first s m kept);
      is = flat-push h.each (marks call.told) ∙ ap (λ xs. xs ++ marks call.told) h.is;
    }

same-marked : (s : Setting) (m : ℕ) (host next : Host) (ms : List Mark) → lives_at next ≡ lives_at host → MarkedAt s m host ms → MarkedAt s m next ms
same-marked s m host next ms same h = record { each = h.each; all = subst (λ ls. AllMarked s m ls h.each) (sym same) h.all; is = h.is }

-- ---- what was reported of a node

abbrev mark_if_told : ℕ → NodeEvent → Option Mark
mark_if_told m t = cond (eqb t.who m) (mark_in t.event.what) None

abbrev marks_for : ℕ → List NodeEvent → List Mark
marks_for m told = filter_map (mark_if_told m) told

marks_for-append : (m : ℕ) (xs ys : List NodeEvent) → marks_for m (xs ++ ys) ≡ marks_for m xs ++ marks_for m ys
marks_for-append m xs ys = filter_map-append (mark_if_told m) xs ys

numbered-marked : (before : ℕ) (what : whats.What) → mark_in (numbered_from before what) ≡ mark_in what
numbered-marked before (happened.Sent number to bytes) = refl
numbered-marked before _ = refl

marks_for-own : (m before : ℕ) (events : List journal.Event) → marks_for m (told_in m before events) ≡ marks events
marks_for-own m before [] = refl
marks_for-own m before (e ∷ events) =
    ap (λ o. cons_option o (marks_for m (told_in m before events))) (chosen (eqb m m) _ _ (eq-eqb m m refl) ∙ numbered-marked before e.what) ∙ ap (λ xs. cons_option (mark_in e.what) xs) (marks_for-own m before events)

marks_for-other : (m k before : ℕ) (events : List journal.Event) → eqb k m ≡ false → marks_for m (told_in k before events) ≡ []
marks_for-other m k before [] apart = refl
marks_for-other m k before (e ∷ events) apart = ap (λ o. cons_option o (marks_for m (told_in k before events))) (other (eqb k m) _ _ apart) ∙ marks_for-other m k before events apart

got-unmarked : (m k moment number : ℕ) → marks_for m (record { who = k; event = record { moment = moment; what = happened.Got number } } ∷ []) ≡ []
got-unmarked m k moment number = elim (cases_Bool (eqb k m)) [ inl same ↦ rw same refl | inr apart ↦ rw apart refl ]

-- ---- worlds

record Placed (s : Setting) (w : World) (told : List NodeEvent) : Type 0 where
  holds : Holds s w told
  marked : (m : ℕ) → MarkedAt s m (w.hosts m) (marks_for m told)

news-own : (s : Setting) (k before : ℕ) (host : Host) (told : List NodeEvent) (events : List journal.Event) → MarkedAt s k host (marks_for k told ++ marks events) → MarkedAt s k host (marks_for k (told ++ told_in k before events))
news-own s k before host told events h = subst (MarkedAt s k host) (sym (marks_for-append k told (told_in k before events) ∙ ap (λ xs. marks_for k told ++ xs) (marks_for-own k before events))) h

news-other : (s : Setting) (m k before : ℕ) (host : Host) (told : List NodeEvent) (events : List journal.Event) → eqb k m ≡ false → MarkedAt s m host (marks_for m told) → MarkedAt s m host (marks_for m (told ++ told_in k before events))
news-other s m k before host told events apart h =
    subst (MarkedAt s m host) (sym (marks_for-append m told (told_in k before events) ∙ ap (λ xs. marks_for m told ++ xs) (marks_for-other m k before events apart) ∙ nil-right (marks_for m told))) h

-- The node's own place is another, which has the same lives.
same-lives : (s : Setting) (m k : ℕ) (host : Host) (w : World) (told : List NodeEvent) → lives_at host ≡ lives_at (w.hosts k) → ((j : ℕ) → MarkedAt s j (w.hosts j) (marks_for j told)) → MarkedAt s m ((with_host k host w).hosts m) (marks_for m told)
same-lives s m k host w told same h =
    at-host m k host w (λ x. MarkedAt s m x (marks_for m told)) (λ e. subst (λ (z : ℕ). MarkedAt s z host (marks_for z told)) e (same-marked s k (w.hosts k) host (marks_for k told) same (h k))) (λ apart. h m)

placed-kept : (s : Setting) → IsSetting s → Keeps s (Placed s)
placed-kept s fits =
    let keep : Keeps s (Holds s) = holds-kept s fits in
    record {
      called = λ k i life c running free h.
          let host : Host = c.world.hosts k in
          let d : OnDisk = called_on (setting_of s k) life.node i host.disk in
          let after : Host = host_after host (with_input life i d.call.node) d in
          let before : ℕ = length c.world.sent in
          let stands : Stands s k life host.disk = record { after = (h.holds.hosts k).after life running; kept = (h.holds.notes k ((h.holds.hosts k).is life running)).runs life running } in
          record {
            holds = keep.called k i life c running free h.holds;
            marked = λ m. at-host m k after c.world (λ x. MarkedAt s m x (marks_for m (c.told ++ told_in k before d.call.told)))
                (λ e. subst (λ (z : ℕ). MarkedAt s z after (marks_for z (c.told ++ told_in k before d.call.told))) e
                (news-own s k before after c.told d.call.told (called-marked s k i life host (marks_for k c.told) running stands (h.marked k))))
                (λ apart. news-other s m k before (c.world.hosts m) c.told d.call.told apart (h.marked m));
          };
      began = λ k d c is idle left same h.
          let host : Host = c.world.hosts k in
          let call : Call = first_call s k host.disk.state in
          let after : Host = record { disk = d; past = host.past; current = Some (first_life host.disk.state call) } in
          let before : ℕ = length c.world.sent in
          record {
            holds = keep.began k d c is idle left same h.holds;
            marked = λ m. at-host m k after c.world (λ x. MarkedAt s m x (marks_for m (c.told ++ told_in k before call.told)))
                (λ e. subst (λ (z : ℕ). MarkedAt s z after (marks_for z (c.told ++ told_in k before call.told))) e
                (news-own s k before after c.told call.told (began-marked s k d host (marks_for k c.told) idle (h.marked k))))
                (λ apart. news-other s m k before (c.world.hosts m) c.told call.told apart (h.marked m));
          };
      tried = λ k d w told idle left may h. record { holds = keep.tried k d w told idle left may h.holds; marked = λ m. same-lives s m k (with_disk (w.hosts k) d) w told refl h.marked };
      disked = λ k d w told same h. record { holds = keep.disked k d w told same h.holds; marked = λ m. same-lives s m k (with_disk (w.hosts k) d) w told refl h.marked };
      ended = λ k life w told running h.
          record { holds = keep.ended k life w told running h.holds; marked = λ m. same-lives s m k (life_over (w.hosts k) (Some life)) w told (lives-over (w.hosts k) life running) h.marked };
      got = λ k moment number w told h.
          record {
            holds = keep.got k moment number w told h.holds;
            marked = λ m. subst (MarkedAt s m (w.hosts m)) (sym (marks_for-append m told _ ∙ ap (λ xs. marks_for m told ++ xs) (got-unmarked m k moment number) ∙ nil-right (marks_for m told))) (h.marked m);
          };
      flowed = λ number w told h. record { holds = keep.flowed number w told h.holds; marked = h.marked };
      lied = λ key body name w told liar h. record { holds = keep.lied key body name w told liar h.holds; marked = h.marked };
    }

placed-first : (s : Setting) → Placed s (begun_world s) []
unfolding begun_world
placed-first s = record { holds = holds-first s; marked = λ m. record { each = []; all = tt; is = refl } }

-- ---- where it is reported

-- The life of which the mark is, behind those of which the others are.
record LocatedMark (s : Setting) (m : ℕ) (lives : List Life) (front : List Mark) (k : Mark) : Type 0 where
  past : List Life
  life : Life
  rest : List Life
  among : lives ≡ past ++ life ∷ rest
  ms : List Mark
  marked : Marked s m life ms
  xs : List Mark
  ys : List Mark
  is : ms ≡ xs ++ k ∷ ys
  earlier : List Mark
  front_is : front ≡ earlier ++ xs
  said_so : bodies earlier ≡ flat_map life_says past

located-mark : (s : Setting) (m : ℕ) (lives : List Life) (each : List (List Mark)) (front : List Mark) (k : Mark) (behind : List Mark) → AllMarked s m lives each → flat each ≡ front ++ k ∷ behind → LocatedMark s m lives front k
located-mark s m [] [] front k behind all e = nothing front behind k e
located-mark s m [] (ms ∷ each) front k behind all e = absurd all
located-mark s m (life ∷ lives) [] front k behind all e = absurd all
located-mark s m (life ∷ lives) (ms ∷ each) front k behind all e =
    elim (cut-at ms (flat each) front k behind e) [
      | inl here ↦ record { past = []; life = life; rest = lives; among = refl; ms = ms; marked = all.0; xs = front; ys = here.0; is = here.1; earlier = []; front_is = refl; said_so = refl }
      | inr later ↦
          let r : LocatedMark s m lives later.0 k = located-mark s m lives each later.0 k behind all.1 later.1.1 in
          record {
            past = life ∷ r.past;
            life = r.life;
            rest = r.rest;
            among = ap (λ ls. life ∷ ls) r.among;
            ms = r.ms;
            marked = r.marked;
            xs = r.xs;
            ys = r.ys;
            is = r.is;
            earlier = ms ++ r.earlier;
            front_is = later.1.0 ∙ ap (λ zs. ms ++ zs) r.front_is ∙ sym (append_assoc ms r.earlier r.xs);
            said_so = bodies-append ms r.earlier ∙ ap (λ zs. zs ++ bodies r.earlier) all.0.same ∙ ap (λ zs. said life.node.lived ++ zs) r.said_so;
          }
    ]

mark-told : (m : ℕ) (t : NodeEvent) → took_if_told m t ≡ option_map (λ k. k.body) (mark_if_told m t)
mark-told m t = either (eqb t.who m)
  where
    either : (b : Bool) → cond b (took_in t.event.what) None ≡ option_map (λ (k : Mark). k.body) (cond b (mark_in t.event.what) None)
    either true = mark-body t.event.what
    either false = refl

-- The accusation came into a life at this place, at the tick that spent this index on it, as is reported here.
pub record TickHere (s : Setting) (w : World) (before : List NodeEvent) (m moment index : ℕ) (a : AccBody) : Type 0 where
  pub life : Life
  pub place : ℕ
  pub here : IsToldHere w m life place (Accusation a) before (spending m moment index (Accusation a))
  pub signs : SignsAtTick s m life place index a

pub tick-here : (s : Setting) (w : World) (told before behind : List NodeEvent) (m moment index : ℕ) (a : AccBody) → IsSetting s → Reached s w told → told ≡ before ++ spending m moment index (Accusation a) ∷ behind → TickHere s w before m moment index a
tick-here s w told before behind m moment index a fits reached among =
    let x : NodeEvent = spending m moment index (Accusation a) in
    let k : Mark = own_mark index (Accusation a) in
    let p : Placed s w told = keeps-reached s (Placed s) (placed-kept s fits) (placed-first s) w told reached in
    let at : MarkedAt s m (w.hosts m) (marks_for m told) = p.marked m in
    let gives : mark_if_told m x ≡ Some k = ap (λ b. cond b (Some k) None) (eq-eqb m m refl) in
    let all : flat at.each ≡ marks_for m before ++ k ∷ marks_for m behind =
    at.is ∙ ap (marks_for m) among ∙ marks_for-append m before (x ∷ behind) ∙ ap (λ o. marks_for m before ++ cons_option o (marks_for m behind)) gives in
    let r : LocatedMark s m (lives_of w m) (marks_for m before) k = located-mark s m (lives_of w m) at.each (marks_for m before) k (marks_for m behind) at.all all in
    let t : TickAt s m r.life r.xs index a = r.marked.came r.xs r.ys index a r.is in
    record {
      life = r.life;
      place = t.place;
      here = record {
        past = r.past;
        rest = r.rest;
        lives = r.among;
        event = Accuses a;
        there = t.there;
        says = refl;
        reports = ap (λ b. cond b (let o : Option Body = Some (Accusation a) in o) None) (eq-eqb m m refl);
        till = bodies-of (mark_if_told m) (took_if_told m) before (mark-told m) ∙ ap bodies r.front_is ∙ bodies-append r.earlier r.xs ∙ ap (λ zs. zs ++ bodies r.xs) r.said_so ∙ ap (λ zs. flat_map life_says r.past ++ zs) (sym t.till);
      };
      signs = t.signs;
    }
