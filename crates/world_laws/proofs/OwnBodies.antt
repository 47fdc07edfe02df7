-- What the key of a node signs is its own note, or an accusation of its own; and who has lived is a node.
use Rattle.std.proofs.Common.{◌≡◌, ℕ, Bool, true, false, cond, eqb, List, [], ◌∷◌, ◌++◌, filter, Some, None, inl, inr, refl, ap, sym, ◌∙◌, subst}
use Rattle.std.proofs.lemmas.Bool.{cases_Bool, eq-eqb, false≢true}
use Rattle.ff_ids.specs.Steps.{Event, Ticks as Passes, step}
use Rattle.life_laws.proofs.Lists.{In, In-append_cases, In-filter}
use Rattle.records.specs.declared.Body.{Body}
use Rattle.records.specs.declared.Body.TheVariants.{Accusation, Note}
use Rattle.records.specs.declared.Record.{Record}
use Rattle.datagram.specs.declared.Datagram.{Datagram}
use Rattle.signer.specs.Lives.{Spent}
use Rattle.journal.specs.declared.event.Event as journal
use Rattle.journal.specs.declared.event.What as whats
use Rattle.journal.specs.declared.event.What.TheVariants as happened
use Rattle.node_rules.specs.Nodes as node
use Rattle.node_rules.specs.Nodes.{Node, state_of, event_of}
use Rattle.node_rules.specs.Refusals.{refusal}
use Rattle.node_rules.specs.Calls.{Call, lives, takes, tells, spends, signs, sends, own_record, told_of}
use Rattle.node_rules.specs.Deliveries.{answer_to, returning_note}
use Rattle.node_rules.specs.Leaving.{leaving}
use Rattle.node_rules.specs.Lives.{Input, is_of_life}
use Rattle.node_rules.proofs.Accusations.{In-filter_map}
use Rattle.node_rules.proofs.Handling.{unlived}
use Rattle.world_rules.specs.Settings.{Setting, Signed, by_authority, certificates, is_liar, is_node, same_owner, setting_of}
use Rattle.world_rules.specs.Disks.{Disk}
use Rattle.world_rules.specs.Calls.{OnDisk, called_on}
use Rattle.world_rules.specs.Worlds.{Host, Life, World, begun_world, lives_of, spent_if_by}
use Rattle.world_rules.specs.Steps.{NodeEvent, first_call, first_life, host_after, life_over, signed_in, with_disk, with_input}
use Rattle.world_rules.specs.Laws.{IsSetting, Reached}
use Rattle.world_rules.proofs.LineSteps.{Keeps, keeps-reached}
use Rattle.world_rules.proofs.Once.{at-host, authority-spent, one-started}
use Rattle.world_laws.proofs.Handing.{AnyRecord, Hands, any-handed, hands-called, is_plain, joined}
use Rattle.world_laws.proofs.InCalls.{IsOwnBody}
use Rattle.world_laws.proofs.InWorlds.{lives_at}
use Rattle.world_laws.proofs.Reaching.{ToldAs, current-in, lives-over, told-as}

-- ---- in a call

abbrev SpendsOwn : ℕ → whats.What → Type 0
SpendsOwn m (happened.Spent index body) = IsOwnBody m body
SpendsOwn m what = Unit {0}

-- Whatever the call reports as spent is so.
abbrev AllOwn : ℕ → Call → Type 0
AllOwn m c = (e : journal.Event) → In c.told e → SpendsOwn m e.what

abbrev is_spent : whats.What → Bool
is_spent (happened.Spent index body) = true
is_spent what = false

own-unspent : (m : ℕ) (what : whats.What) → is_spent what ≡ false → SpendsOwn m what
own-unspent m (happened.Spent index body) h = absurd (false≢true (sym h))
own-unspent m _ h = tt

none-own : (m : ℕ) (news : List journal.Event) → filter (λ (e : journal.Event). is_spent e.what) news ≡ [] → (e : journal.Event) → In news e → SpendsOwn m e.what
none-own m news none e i =
    elim (cases_Bool (is_spent e.what)) [
      | inl spent ↦ absurd (subst (λ (xs : List journal.Event). In xs e) none (In-filter (λ (x : journal.Event). is_spent x.what) news e i spent))
      | inr other ↦ own-unspent m e.what other
    ]

own-more : (m : ℕ) (c d : Call) (news : List journal.Event) → d.told ≡ c.told ++ news → ((e : journal.Event) → In news e → SpendsOwn m e.what) → AllOwn m c → AllOwn m d
own-more m c d news grew new h = λ e i.
    elim (In-append_cases c.told news e (subst (λ (xs : List journal.Event). In xs e) grew i)) [
      | inl old ↦ h e old
      | inr here ↦ new e here
    ]

own-tells : (m : ℕ) (s : node.Setting) (what : whats.What) (c : Call) → SpendsOwn m what → AllOwn m c → AllOwn m (tells s what c)
own-tells m s what c own h =
    own-more m c (tells s what c) (record { moment = (state_of s c.node).moment; what = what } ∷ []) refl
    (λ e i. elim i [ inl is ↦ subst (λ (x : journal.Event). SpendsOwn m x.what) is own | inr none ↦ absurd none ]) h

life-unspent : (what : whats.What) → is_of_life what ≡ true → is_spent what ≡ false
life-unspent (happened.Spent index body) h = absurd (false≢true h)
life-unspent _ h = refl

own-lives : (m : ℕ) (s : node.Setting) (e : Event) (c : Call) → AllOwn m c → AllOwn m (lives s e c)
unfolding lives
own-lives m s e c h =
    let news : List journal.Event = told_of (step s.group (state_of s c.node) e).state.moment (step s.group (state_of s c.node) e).report in
    own-more m c (lives s e c) news refl (none-own m news (unlived is_spent s e c life-unspent)) h

own-takes : (m : ℕ) (s : node.Setting) (r : Record) (c : Call) → AllOwn m c → AllOwn m (takes s r c)
unfolding takes
own-takes m s r c h = own-lives m s (event_of s r.body) c h

own-signs : (m : ℕ) (s : node.Setting) (b : Body) (c : Call) → IsOwnBody m b → AllOwn m c → AllOwn m (signs s b c)
unfolding signs
own-signs m s b c mine h = own-takes m s (own_record s c.node b) (spends s b c) (own-tells m s (happened.Spent c.node.stored.next b) c mine h)

own-sends : (m : ℕ) (s : node.Setting) (d : Datagram) (c : Call) (to : ℕ) → AllOwn m c → AllOwn m (sends s d c to)
unfolding sends
own-sends m s d c to h = own-tells m s (happened.Sent _ to _) c tt h

plain-unspent : (what : whats.What) → is_plain what ≡ true → is_spent what ≡ false
plain-unspent (happened.Spent index body) h = absurd (false≢true h)
plain-unspent _ h = refl

owning : (s : node.Setting) → Hands s AnyRecord (AllOwn s.me)
owning s =
    joined s AnyRecord (AllOwn s.me) (record {
      told = λ what c plain h. own-tells s.me s what c (own-unspent s.me what (plain-unspent what plain)) h;
      judged = λ r c any h. own-tells s.me s (happened.Took r.body (refusal s c.node r)) c tt h;
      sent = λ d c to h. own-sends s.me s d c to h;
      taken = λ r c any fine h. own-takes s.me s r c h;
      answered = λ r a c any fine is me may left h. own-signs s.me s (answer_to s (takes s r c).node.stored a) (takes s r c) refl (own-takes s.me s r c h);
      returned = λ r a c any asks may left h. own-signs s.me s (Note (returning_note s c.node.stored)) c refl h;
      accused = λ a c by left h. own-signs s.me s (Accusation a) c by h;
      departed = λ c left h. own-signs s.me s (leaving s c.node.stored) c refl h;
      stopped = λ c h. own-tells s.me s happened.Stopped c tt h;
      passed = λ c h. own-lives s.me s Passes c h;
      probed = λ p c h. h;
      spanned = λ c h. h;
      spread = λ c h. h;
    })

own-called : (s : node.Setting) (n : Node) (i : Input) (d : Disk) → AllOwn s.me (called_on s n i d).call
own-called s n i d = hands-called s AnyRecord (AllOwn s.me) (owning s) n i d (any-handed i) (λ e none. absurd none)

-- ---- in a world

number : (a b : ℕ) → Some a ≡ Some b → a ≡ b
number a b e = cc

abbrev OwnSigned : Setting → World → List NodeEvent → Type 0
OwnSigned s w told = (x : Signed) (m : ℕ) → In w.signed x → x.who ≡ Some m → is_node s m ≡ true → IsOwnBody m x.body

own-made : (s : Setting) (k : ℕ) (n : Node) (i : Input) (d : Disk) (x : Signed) (m : ℕ) → In (signed_in k (called_on (setting_of s k) n i d).call.told) x → x.who ≡ Some m → IsOwnBody m x.body
own-made s k n i d x m new who =
    let t : ToldAs k (called_on (setting_of s k) n i d).call.told x = told-as k (called_on (setting_of s k) n i d).call.told x new in
    subst (λ z. IsOwnBody z x.body) (number k m (sym t.who ∙ who)) (own-called (setting_of s k) n i d (record { moment = t.moment; what = happened.Spent x.index x.body }) t.among)

own-first : (s : Setting) (k : ℕ) (host : Host) (x : Signed) (m : ℕ) → In (signed_in k (first_call s k host.disk.state).told) x → x.who ≡ Some m → IsOwnBody m x.body
own-first s k host x m new who =
    let kept = host.disk.state in
    let one = one-started (setting_of s k) (s.nonces k kept.next) (certificates s) kept in
    elim (subst (λ xs. In xs x) one.signed new) [
      | inl is ↦ (subst (λ (y : Signed). y.who ≡ Some m → IsOwnBody m y.body) is (λ e. number k m e)) who
      | inr none ↦ absurd none
    ]

own-lied : (s : Setting) (key m : ℕ) → IsSetting s → is_liar s key ≡ true → is_node s m ≡ true → key ≡ m → ⊥
own-lied s key m fits liar is same = false≢true (sym (fits.apart m is) ∙ sym (ap (is_liar s) same) ∙ liar)

own-kept : (s : Setting) → IsSetting s → Keeps s (OwnSigned s)
own-kept s fits =
    record {
      called = λ k i life c running free h x m j who is.
          elim (In-append_cases c.world.signed (signed_in k (called_on (setting_of s k) life.node i (c.world.hosts k).disk).call.told) x j) [
            | inl old ↦ h x m old who is
            | inr new ↦ own-made s k life.node i (c.world.hosts k).disk x m new who
          ];
      began = λ k d c it idle left same h x m j who is.
          elim (In-append_cases c.world.signed (signed_in k (first_call s k (c.world.hosts k).disk.state).told) x j) [
            | inl old ↦ h x m old who is
            | inr new ↦ own-first s k (c.world.hosts k) x m new who
          ];
      tried = λ k d w told idle left may h. h;
      disked = λ k d w told same h. h;
      ended = λ k life w told running h. h;
      got = λ k moment number w told h. h;
      flowed = λ number w told h. h;
      lied = λ key body name w told liar h x m j who is.
          elim (In-append_cases w.signed _ x j) [
            | inl old ↦ h x m old who is
            | inr (inl made) ↦ absurd (own-lied s key m fits liar is (number key m (ap (λ (y : Signed). y.who) made ∙ who)))
            | inr (inr none) ↦ absurd none
          ];
    }

own-begun : (s : Setting) → OwnSigned s (begun_world s) []
unfolding begun_world
own-begun s = λ x m i who is.
    let y : Spent = record { index = x.index; body = x.body } in
    let by : spent_if_by (Some m) x ≡ Some y = ap (λ o. cond (same_owner o (Some m)) (Some y) None) who ∙ ap (λ b. cond b (Some y) None) (eq-eqb m m refl) in
    absurd (subst (λ xs. In xs y) (authority-spent s m) (In-filter_map (spent_if_by (Some m)) (by_authority s) x y i by))

-- What the key of a node has signed is its own.
pub own-signed : (s : Setting) (w : World) (told : List NodeEvent) → IsSetting s → Reached s w told → (x : Signed) (m : ℕ) → In w.signed x → x.who ≡ Some m → is_node s m ≡ true → IsOwnBody m x.body
own-signed s w told fits reached = keeps-reached s (OwnSigned s) (own-kept s fits) (own-begun s) w told reached

-- ---- who has lived

abbrev NodesLive : Setting → World → List NodeEvent → Type 0
NodesLive s w told = (m : ℕ) (life : Life) → In (lives_of w m) life → is_node s m ≡ true

-- Nobody has lived in the place who hasn't before.
none-new : (s : Setting) (m : ℕ) (host : Host) (w : World) (told : List NodeEvent) (k : ℕ) (l : Life) → ((x : Life) → In (lives_at host) x → In (lives_of w m) x) → NodesLive s w told → In (lives_at (cond (eqb k m) host (w.hosts k))) l → is_node s k ≡ true
none-new s m host w told k l same h =
    at-host k m host w (λ x. In (lives_at x) l → is_node s k ≡ true) (λ e i. h k l (subst (λ z. In (lives_of w z) l) e (same l i))) (λ apart i. h k l i)

live-kept : (s : Setting) → Keeps s (NodesLive s)
live-kept s =
    record {
      called = λ m i life c running free h k l.
          let host : Host = c.world.hosts m in
          let d : OnDisk = called_on (setting_of s m) life.node i host.disk in
          at-host k m (host_after host (with_input life i d.call.node) d) c.world (λ x. In (lives_at x) l → is_node s k ≡ true)
          (λ e j. subst (λ z. is_node s z ≡ true) e (h m life (current-in host life running))) (λ apart j. h k l j);
      began = λ m d c is idle left same h k l.
          let host : Host = c.world.hosts m in
          at-host k m (record { disk = d; past = host.past; current = Some (first_life host.disk.state (first_call s m host.disk.state)) }) c.world (λ x. In (lives_at x) l → is_node s k ≡ true)
          (λ e j. subst (λ z. is_node s z ≡ true) e is) (λ apart j. h k l j);
      tried = λ m d w told idle left may h k l. none-new s m (with_disk (w.hosts m) d) w told k l (λ x i. i) h;
      disked = λ m d w told same h k l. none-new s m (with_disk (w.hosts m) d) w told k l (λ x i. i) h;
      ended = λ m life w told running h k l. none-new s m (life_over (w.hosts m) (Some life)) w told k l (λ x i. subst (λ xs. In xs x) (lives-over (w.hosts m) life running) i) h;
      got = λ m moment number w told h. h;
      flowed = λ number w told h. h;
      lied = λ key body name w told liar h. h;
    }

live-first : (s : Setting) → NodesLive s (begun_world s) []
unfolding begun_world
live-first s = λ m life none. absurd none

-- Who has lived is a node.
pub nodes-live : (s : Setting) (w : World) (told : List NodeEvent) (m : ℕ) (life : Life) → Reached s w told → In (lives_of w m) life → is_node s m ≡ true
nodes-live s w told m life reached = keeps-reached s (NodesLive s) (live-kept s) (live-first s) w told reached m life
