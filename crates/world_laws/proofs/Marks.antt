-- What is reported of a node as accepted, and as its own with the index that was spent on it, in order with what comes into its life.
use Rattle.std.proofs.Common.{◌≡◌, ℕ, List, [], ◌∷◌, ◌++◌, length, map, Option, Some, None, inl, inr, refl, ap, sym, ◌∙◌, subst, take}
use Rattle.std.specs.Prelude.{filter_map, option_map}
use Rattle.std.specs.List.{cons_option, slice_get}
use Rattle.std.proofs.lemmas.List.{append_assoc}
use Rattle.std.proofs.lemmas.List.Elements.{filter_map-append}
use Rattle.ff_ids.specs.Steps.{Event, Notes, Accuses, Ticks as Passes, step}
use Rattle.life_laws.proofs.Lists.{In, In-append_left, In-append_right}
use Rattle.records.specs.declared.Body.{Body}
use Rattle.records.specs.declared.Body.TheVariants.{Certificate, Note, Accusation}
use Rattle.records.specs.declared.Record.{Record}
use Rattle.datagram.specs.declared.Datagram.{Datagram}
use Rattle.journal.specs.declared.event.Event as journal
use Rattle.journal.specs.declared.event.What as whats
use Rattle.journal.specs.declared.event.What.TheVariants as happened
use Rattle.node_rules.specs.Nodes as node
use Rattle.node_rules.specs.Nodes.{state_of, event_of}
use Rattle.node_rules.specs.Calls.{Call, lives, takes, tells, spends, signs, sends, own_record, told_of}
use Rattle.node_rules.specs.Deliveries.{answer_to, returning_note}
use Rattle.node_rules.specs.Leaving.{leaving}
use Rattle.node_rules.specs.Lives.{Input}
use Rattle.node_rules.proofs.Handling.{map-append, nil-right}
use Rattle.world_rules.specs.Disks.{Disk}
use Rattle.world_rules.specs.Calls.{called_on}
use Rattle.world_laws.specs.Telling.{said_in, statement, took_in}
use Rattle.world_laws.proofs.Handing.{AnyRecord, Hands, any-handed, accepts, hands-called}
use Rattle.world_laws.proofs.InWorlds.{get-front}
use Rattle.world_laws.proofs.Living.{life-untold, plain-untaken, said, said-append, taken}
use Rattle.world_laws.proofs.Places.{at-length, cut-at, take-front, take-length}

-- A note or an accusation that is reported as accepted; or as the node's own, and then with the index that was spent on it.
pub record Mark : Type 0 where
  pub spent : Option ℕ
  pub body : Body

abbrev pub marked : Option ℕ → Option Body → Option Mark
marked spent None = None
marked spent (Some body) = Some (record { spent = spent; body = body })

abbrev pub mark_in : whats.What → Option Mark
mark_in (happened.Took body None) = marked None (statement body)
mark_in (happened.Spent index body) = marked (Some index) (statement body)
mark_in what = None

abbrev pub marks : List journal.Event → List Mark
marks events = filter_map (λ e. mark_in e.what) events

abbrev pub bodies : List Mark → List Body
bodies ms = map (λ k. k.body) ms

abbrev pub own_mark : ℕ → Body → Mark
own_mark index body = record { spent = Some index; body = body }

pub bodies-append : (xs ys : List Mark) → bodies (xs ++ ys) ≡ bodies xs ++ bodies ys
bodies-append xs ys = map-append (λ (k : Mark). k.body) xs ys

-- Of the same things come the marks and their bodies.
pub bodies-of : {X : Type 0} (f : X → Option Mark) (g : X → Option Body) (xs : List X) → ((x : X) → g x ≡ option_map (λ k. k.body) (f x)) → filter_map g xs ≡ bodies (filter_map f xs)
bodies-of f g [] same = refl
bodies-of f g (x ∷ xs) same = ap (λ o. cons_option o (filter_map g xs)) (same x) ∙ ap (λ ys. cons_option (option_map (λ (k : Mark). k.body) (f x)) ys) (bodies-of f g xs same) ∙ onto (f x) (filter_map f xs)
  where
    onto : (o : Option Mark) (ms : List Mark) → cons_option (option_map (λ (k : Mark). k.body) o) (bodies ms) ≡ bodies (cons_option o ms)
    onto None ms = refl
    onto (Some k) ms = refl

marked-body : (spent : Option ℕ) (o : Option Body) → o ≡ option_map (λ k. k.body) (marked spent o)
marked-body spent None = refl
marked-body spent (Some body) = refl

pub mark-body : (what : whats.What) → took_in what ≡ option_map (λ k. k.body) (mark_in what)
mark-body (happened.Took body None) = marked-body None (statement body)
mark-body (happened.Took body (Some fault)) = refl
mark-body (happened.Spent index body) = marked-body (Some index) (statement body)
mark-body _ = refl

some-is : {X : Type 0} (x y : X) → Some x ≡ Some y → x ≡ y
some-is x y e = cc

-- ---- in a call

-- What is marked so, behind these marks, came in at a place of what came in; and the index was reported as spent on it.
pub record Came (more : List Event) (c : Call) (xs : List Mark) (index : ℕ) (b : Body) : Type 0 where
  pub place : ℕ
  pub event : Event
  pub there : slice_get more place ≡ Some event
  pub says : said_in event ≡ Some b
  pub till : said (take place more) ≡ bodies xs
  pub moment : ℕ
  pub among : In c.told (record { moment = moment; what = happened.Spent index b })

-- The call has added to a life what it has marked.
pub record Marks (base : List Event) (c : Call) : Type 0 where
  pub more : List Event
  pub lived : c.node.lived ≡ base ++ more
  pub same : bodies (marks c.told) ≡ said more
  pub came : (xs ys : List Mark) (index : ℕ) (b : Body) → marks c.told ≡ xs ++ own_mark index b ∷ ys → Came more c xs index b

-- What is reported marks nothing, and nothing comes in that is said; or it marks one thing, which comes in.
data News (news : List journal.Event) (events : List Event) : Type 0 where
  none : marks news ≡ [] → said events ≡ [] → News news events
  one : (k : Mark) (e : Event) → marks news ≡ k ∷ [] → events ≡ e ∷ [] → said_in e ≡ Some k.body
      → ((index : ℕ) → k.spent ≡ Some index → (moment : ℕ) × In news (record { moment = moment; what = happened.Spent index k.body })) → News news events

news-same : (news : List journal.Event) (events : List Event) → News news events → bodies (marks news) ≡ said events
news-same news events (none unmarked unsaid) = ap bodies unmarked ∙ sym unsaid
news-same news events (one k e only is says spent) = ap bodies only ∙ sym (ap said is ∙ ap (λ o. cons_option o []) says)

pub nothing : {A : Type 0} (gap ys : List Mark) (k : Mark) → [] ≡ gap ++ k ∷ ys → A
nothing [] ys k e = cc
nothing (x ∷ gap) ys k e = cc

alone : (x k : Mark) (gap ys : List Mark) → x ∷ [] ≡ gap ++ k ∷ ys → (gap ≡ []) × (x ≡ k)
alone x k [] ys e = let head : x ≡ k = cc in (refl, head)
alone x k (y ∷ gap) ys e = let tail : [] ≡ gap ++ k ∷ ys = cc in nothing gap ys k tail

came-later : (more events : List Event) (c d : Call) (news : List journal.Event) (xs : List Mark) (index : ℕ) (b : Body) → d.told ≡ c.told ++ news → Came more c xs index b → Came (more ++ events) d xs index b
came-later more events c d news xs index b told h =
    let e : journal.Event = record { moment = h.moment; what = happened.Spent index b } in
    record {
      place = h.place;
      event = h.event;
      there = get-front more events h.place h.event h.there;
      says = h.says;
      till = ap said (take-front more events h.place h.event h.there) ∙ h.till;
      moment = h.moment;
      among = subst (λ (es : List journal.Event). In es e) (sym told) (In-append_left c.told news e h.among);
    }

came-now : (more events : List Event) (c d : Call) (news : List journal.Event) (xs gap ys : List Mark) (index : ℕ) (b : Body) → d.told ≡ c.told ++ news → bodies (marks c.told) ≡ said more → xs ≡ marks c.told ++ gap → marks news ≡ gap ++ own_mark index b ∷ ys → News news events
    → Came (more ++ events) d xs index b
came-now more events c d news xs gap ys index b told same front back (none unmarked unsaid) = nothing gap ys (own_mark index b) (sym unmarked ∙ back)
came-now more events c d news xs gap ys index b told same front back (one k e only is says spent) =
    let here = alone k (own_mark index b) gap ys (sym only ∙ back) in
    let made = spent index (ap (λ (x : Mark). x.spent) here.1) in
    let event : journal.Event = record { moment = made.0; what = happened.Spent index b } in
    record {
      place = length more;
      event = e;
      there = ap (λ es. slice_get (more ++ es) (length more)) is ∙ at-length more [] e;
      says = says ∙ ap (λ (x : Mark). Some x.body) here.1;
      till = ap said (take-length more events) ∙ sym same ∙ sym (ap bodies (front ∙ ap (λ zs. marks c.told ++ zs) here.0 ∙ nil-right (marks c.told)));
      moment = made.0;
      among = subst (λ (es : List journal.Event). In es event) (sym told)
          (In-append_right c.told news event (subst (λ (x : Mark). In news (record { moment = made.0; what = happened.Spent index x.body })) here.1 made.1));
    }

marks-append : (xs ys : List journal.Event) → marks (xs ++ ys) ≡ marks xs ++ marks ys
marks-append xs ys = filter_map-append (λ (e : journal.Event). mark_in e.what) xs ys

marks-more : (base : List Event) (c d : Call) (news : List journal.Event) (events : List Event) → d.told ≡ c.told ++ news → d.node.lived ≡ c.node.lived ++ events → News news events → Marks base c → Marks base d
marks-more base c d news events told lived new h =
    let whole : marks d.told ≡ marks c.told ++ marks news = ap marks told ∙ marks-append c.told news in
    record {
      more = h.more ++ events;
      lived = lived ∙ ap (λ xs. xs ++ events) h.lived ∙ append_assoc base h.more events;
      same = ap bodies whole ∙ bodies-append (marks c.told) (marks news) ∙ ap (λ xs. xs ++ bodies (marks news)) h.same ∙ ap (λ xs. said h.more ++ xs) (news-same news events new) ∙ sym (said-append h.more events);
      came = λ xs ys index b e. elim (cut-at (marks c.told) (marks news) xs (own_mark index b) ys (sym whole ∙ e)) [
        | inl old ↦ came-later h.more events c d news xs index b told (h.came xs old.0 index b old.1)
        | inr now ↦ came-now h.more events c d news xs now.0 ys index b told h.same now.1.0 now.1.1 new
      ];
    }

-- ---- the steps of a call

unmarked : (what : whats.What) → took_in what ≡ None → mark_in what ≡ None
unmarked (happened.Took body None) h = ap (marked None) h
unmarked (happened.Took body (Some fault)) h = refl
unmarked (happened.Spent index body) h = ap (marked (Some index)) h
unmarked _ h = refl

none-marked : (events : List journal.Event) → taken events ≡ [] → marks events ≡ []
none-marked [] h = refl
none-marked (e ∷ events) h =
    let both = parts (took_in e.what) (taken events) h in
    ap (λ o. cons_option o (marks events)) (unmarked e.what both.0) ∙ none-marked events both.1
  where
    parts : (o : Option Body) (rest : List Body) → cons_option o rest ≡ [] → (o ≡ None) × (rest ≡ [])
    parts None rest h = (refl, h)
    parts (Some b) rest h = absurd (never b rest h)
      where
        never : (b : Body) (rest : List Body) → b ∷ rest ≡ [] → ⊥
        never b rest e = cc

marks-tells : (s : node.Setting) (base : List Event) (what : whats.What) (c : Call) → took_in what ≡ None → Marks base c → Marks base (tells s what c)
marks-tells s base what c untaken h =
    marks-more base c (tells s what c) (record { moment = (state_of s c.node).moment; what = what } ∷ []) [] refl (sym (nil-right c.node.lived)) (none (ap (λ o. cons_option o []) (unmarked what untaken)) refl) h

marks-passes : (s : node.Setting) (base : List Event) (c : Call) → Marks base c → Marks base (lives s Passes c)
unfolding lives
marks-passes s base c h =
    let made = step s.group (state_of s c.node) Passes in
    let report : List journal.Event = told_of made.state.moment made.report in
    marks-more base c (lives s Passes c) report (Passes ∷ []) refl refl (none (none-marked report (life-untold s Passes c)) refl) h

news-of : (s : node.Setting) (spent : Option ℕ) (what : whats.What) (body : Body) (moment : ℕ) (report : List journal.Event) → mark_in what ≡ marked spent (statement body) → marks report ≡ [] → ((index : ℕ) → spent ≡ Some index → what ≡ happened.Spent index body)
    → News (record { moment = moment; what = what } ∷ report) (event_of s body ∷ [])
news-of s spent what (Certificate x) moment report is rest made = none (ap (λ o. cons_option o (marks report)) is ∙ rest) refl
news-of s spent what (Note n) moment report is rest made =
    let k : Mark = record { spent = spent; body = Note n } in
    one k (Notes n) (ap (λ o. cons_option o (marks report)) is ∙ ap (λ xs. k ∷ xs) rest) refl refl
    (λ index e. (moment, inl (ap (λ w. let y : journal.Event = record { moment = moment; what = w } in y) (made index e))))
news-of s spent what (Accusation a) moment report is rest made =
    let k : Mark = record { spent = spent; body = Accusation a } in
    one k (Accuses a) (ap (λ o. cons_option o (marks report)) is ∙ ap (λ xs. k ∷ xs) rest) refl refl
    (λ index e. (moment, inl (ap (λ w. let y : journal.Event = record { moment = moment; what = w } in y) (made index e))))

-- What is reported before the record is taken marks what its event brings.
marks-takes : (s : node.Setting) (base : List Event) (spent : Option ℕ) (what : whats.What) (r : Record) (c d : Call) → mark_in what ≡ marked spent (statement r.body) → ((index : ℕ) → spent ≡ Some index → what ≡ happened.Spent index r.body)
    → d.told ≡ (tells s what c).told → d.node.lived ≡ c.node.lived → Marks base c → Marks base (takes s r d)
unfolding takes lives
marks-takes s base spent what r c d is made told lived h =
    let e : Event = event_of s r.body in
    let report : List journal.Event = told_of (step s.group (state_of s d.node) e).state.moment (step s.group (state_of s d.node) e).report in
    let first : List journal.Event = record { moment = (state_of s c.node).moment; what = what } ∷ [] in
    marks-more base c (takes s r d) (first ++ report) (e ∷ [])
    (ap (λ xs. xs ++ report) told ∙ append_assoc c.told first report)
    (ap (λ xs. xs ++ e ∷ []) lived)
    (news-of s spent what r.body (state_of s c.node).moment report is (none-marked report (life-untold s e d)) made) h

marks-accepts : (s : node.Setting) (base : List Event) (r : Record) (c : Call) → Marks base c → Marks base (accepts s r c)
marks-accepts s base r c h = marks-takes s base None (happened.Took r.body None) r c (tells s (happened.Took r.body None) c) refl (λ index e. never index e) refl refl h
  where
    never : {A : Type 0} (index : ℕ) → None ≡ Some index → A
    never index e = cc

marks-signs : (s : node.Setting) (base : List Event) (body : Body) (c : Call) → Marks base c → Marks base (signs s body c)
unfolding signs
marks-signs s base body c h =
    let next : ℕ = c.node.stored.next in
    marks-takes s base (Some next) (happened.Spent next body) (own_record s c.node body) c (spends s body c) refl (λ index e. ap (λ k. happened.Spent k body) (some-is next index e)) refl refl h

marks-sends : (s : node.Setting) (base : List Event) (d : Datagram) (c : Call) (to : ℕ) → Marks base c → Marks base (sends s d c to)
unfolding sends
marks-sends s base d c to h = marks-more base c (sends s d c to) (record { moment = (state_of s c.node).moment; what = _ } ∷ []) [] refl (sym (nil-right c.node.lived)) (none refl refl) h

marking : (s : node.Setting) (base : List Event) → Hands s AnyRecord (Marks base)
marking s base =
    record {
      told = λ what c plain h. marks-tells s base what c (plain-untaken what plain) h;
      refused = λ r fault c any e h. marks-tells s base (happened.Took r.body (Some fault)) c refl h;
      sent = λ d c to h. marks-sends s base d c to h;
      accepted = λ r c any fine h. marks-accepts s base r c h;
      answered = λ r a c any fine is me may left h. marks-signs s base (answer_to s (accepts s r c).node.stored a) (accepts s r c) (marks-accepts s base r c h);
      returned = λ r a c any asks may left h. marks-signs s base (Note (returning_note s c.node.stored)) c h;
      accused = λ a c by left h. marks-signs s base (Accusation a) c h;
      departed = λ c left h. marks-signs s base (leaving s c.node.stored) c h;
      stopped = λ c h. marks-more base c _ (record { moment = (state_of s c.node).moment; what = happened.Stopped } ∷ []) [] refl (sym (nil-right c.node.lived)) (none refl refl) h;
      passed = λ c h. marks-passes s base c h;
      probed = λ p c h. marks-more base c (record c { node = record c.node { probes = p } }) [] [] (sym (nil-right c.told)) (sym (nil-right c.node.lived)) (none refl refl) h;
      spanned = λ c h. marks-more base c (record c { node = record c.node { since = c.node.stored.epoch } }) [] [] (sym (nil-right c.told)) (sym (nil-right c.node.lived)) (none refl refl) h;
      spread = λ c h. marks-more base c (record c { node = record c.node { news = [] } }) [] [] (sym (nil-right c.told)) (sym (nil-right c.node.lived)) (none refl refl) h;
    }

pub marks-called : (s : node.Setting) (n : node.Node) (i : Input) (d : Disk) → Marks n.lived (called_on s n i d).call
marks-called s n i d =
    hands-called s AnyRecord (Marks n.lived) (marking s n.lived) n i d (any-handed i)
    (record { more = []; lived = sym (nil-right n.lived); same = refl; came = λ xs ys index b e. nothing xs ys (own_mark index b) e })

-- ---- what a mark is

pub mark-spent : (what : whats.What) (index : ℕ) (b : Body) → mark_in what ≡ Some (own_mark index b) → what ≡ happened.Spent index b
mark-spent (happened.Took body None) index b e = absurd (taken-not (statement body) e)
  where
    not-spent : (x y : Mark) → x ≡ y → x.spent ≡ None → y.spent ≡ Some index → ⊥
    not-spent x y e f g = never (sym f ∙ ap (λ (k : Mark). k.spent) e ∙ g)
      where
        never : None ≡ Some index → ⊥
        never h = cc

    taken-not : (o : Option Body) → marked None o ≡ Some (own_mark index b) → ⊥
    taken-not None e = cc
    taken-not (Some x) e = not-spent (record { spent = None; body = x }) (own_mark index b) (some-is _ _ e) refl refl
mark-spent (happened.Took body (Some fault)) index b e = cc
mark-spent (happened.Spent i (Certificate c)) index b e = cc
mark-spent (happened.Spent i (Note n)) index b e =
    let same : own_mark i (Note n) ≡ own_mark index b = some-is _ _ e in
    ap (λ k. happened.Spent k (Note n)) (some-is i index (ap (λ (k : Mark). k.spent) same)) ∙ ap (λ (k : Mark). happened.Spent index k.body) same
mark-spent (happened.Spent i (Accusation a)) index b e =
    let same : own_mark i (Accusation a) ≡ own_mark index b = some-is _ _ e in
    ap (λ k. happened.Spent k (Accusation a)) (some-is i index (ap (λ (k : Mark). k.spent) same)) ∙ ap (λ (k : Mark). happened.Spent index k.body) same
mark-spent _ index b e = cc
