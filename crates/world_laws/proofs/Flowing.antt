-- What is reported as handed over was sent, and flows take each datagram once, in order.
use Rattle.std.proofs.Common.{◌≡◌, ◌⊎◌, ℕ, zero, suc, ◌+◌, ◌<◌, ◌≤◌, Bool, true, false, List, [], ◌∷◌, ◌++◌, length, Option, Some, None, inl, inr, refl, ap, sym, ◌∙◌, subst, filter, arith, length-append}
use Rattle.std.specs.Prelude.{Result, Ok, Err, fold}
use Rattle.std.specs.List.{AllByRecursion, slice_get}
use Rattle.std.proofs.lemmas.Bool.{cases_Bool, cond_both, false≢true}
use Rattle.std.proofs.lemmas.List.{append_assoc}
use Rattle.std.proofs.lemmas.List.Elements.{filter_map-append}
use Rattle.std.proofs.lemmas.Option.{slice_get_within}
use Rattle.ff_ids.specs.declared.RingNo.{RingNo}
use Rattle.records.specs.declared.Body.{Body}
use Rattle.records.specs.declared.Body.TheVariants.{Accusation, Note}
use Rattle.records.specs.declared.Record.{Record}
use Rattle.epoch_store.specs.declared.Stored.{Stored}
use Rattle.signer.specs.Lives.{IsRising}
use Rattle.journal.specs.declared.event.Event as journal
use Rattle.journal.specs.declared.event.What as whats
use Rattle.journal.specs.declared.event.What.TheVariants as happened
use Rattle.node_rules.specs.Nodes as node
use Rattle.node_rules.specs.Nodes.{state_of}
use Rattle.node_rules.specs.Calls.{Call, begun as call_begun, takes, signs, tells}
use Rattle.node_rules.specs.Deliveries.{answer_to, returning_note}
use Rattle.node_rules.specs.Starting.{blank, opened, first_note, started}
use Rattle.node_rules.specs.Leaving.{leaving}
use Rattle.node_rules.specs.Lives.{Input, Delivers, Ticks, Leaves, is_of_life}
use Rattle.node_rules.specs.Verdicts.{told_that}
use Rattle.node_rules.proofs.Handling.{IsOver, nil-right, that-lives, that-sends, that-signs, that-takes, that-tells}
use Rattle.schedule_world.specs.declared.line.WorldLine.{WorldLine}
use Rattle.schedule_world.specs.declared.line.WorldLine.TheVariants as lines
use Rattle.world_rules.specs.Settings.{Setting, certificates, setting_of}
use Rattle.world_rules.specs.Disks.{Disk, lets_pass, opening_calls, put_passes}
use Rattle.world_rules.specs.Calls.{OnDisk, called_on}
use Rattle.world_rules.specs.Worlds.{Life, Named, Host, World, begun_world, is_running, named_so, running, with_host}
use Rattle.world_rules.specs.Forgeries.{Forgery, forgery}
use Rattle.world_rules.specs.declared.verdict.RefusalReason.{RefusalReason}
use Rattle.world_rules.specs.declared.verdict.RefusalReason.TheVariants as whys
use Rattle.world_rules.specs.declared.verdict.Verdict.{Verdict}
use Rattle.world_rules.specs.declared.verdict.Verdict.TheVariants as verdicts
use Rattle.world_rules.specs.Refusals.{why_not}
use Rattle.world_rules.specs.Steps.{Answer, Execution, NodeEvent, accuses_at, and_then, answered, begins, begun, calls, calls_running, does, epoch_meant, first_call, flows, flows_next, flows_one, given_bytes, gives, gives_each, hands, hands_sent, monitored, numbered_from, of_life, opens, refuses, says, starts, starts_in_vain, step, step_by, tells_got, ticks, told_in, unless_forged, viewed}
use Rattle.world_rules.specs.Laws.{goes, opens_so}
use Rattle.world_rules.proofs.OnDisks.{chosen, other}
use Rattle.world_laws.specs.Flows.{FlowsGoOn, Handed, HandsOverSent, IsSent, IsSentThere, OnlySentIsHandedOver, OthersTakeNone, got_in, handed_over, is_flow, numbers_of}
use Rattle.world_laws.proofs.Handing.{AnyRecord, Hands, any-handed, hands-called, is_plain, joined}
use Rattle.world_laws.proofs.InWorlds.{get-front}

-- ---- a call hands over nothing

abbrev is_got : whats.What → Bool
is_got (happened.Got number) = true
is_got what = false

abbrev NoneGot : Call → Type 0
NoneGot c = told_that is_got c ≡ []

got-over : IsOver is_got
got-over = record { life = life; sent = λ place to bytes. refl }
  where
    life : (what : whats.What) → is_of_life what ≡ true → is_got what ≡ false
    life (happened.Got number) h = absurd (false≢true h)
    life _ h = refl

plain-got : (what : whats.What) → is_plain what ≡ true → is_got what ≡ false
plain-got (happened.Got number) h = absurd (false≢true h)
plain-got _ h = refl

passed_over : (moment : ℕ) (what : whats.What) → is_got what ≡ false → filter (λ (e : journal.Event). is_got e.what) (record { moment = moment; what = what } ∷ []) ≡ []
passed_over moment what h = cc

none-tells : (s : node.Setting) (what : whats.What) (c : Call) → is_got what ≡ false → NoneGot c → NoneGot (tells s what c)
none-tells s what c none h = that-tells is_got s what c ∙ ap (λ xs. told_that is_got c ++ xs) (passed_over (state_of s c.node).moment what none) ∙ nil-right (told_that is_got c) ∙ h

none-signs : (s : node.Setting) (body : Body) (c : Call) → NoneGot c → NoneGot (signs s body c)
none-signs s body c h = that-signs is_got s body c got-over ∙ nil-right (told_that is_got c) ∙ h

none-hands : (s : node.Setting) → Hands s AnyRecord NoneGot
none-hands s =
    joined s AnyRecord NoneGot (record {
      told = λ what c plain h. none-tells s what c (plain-got what plain) h;
      judged = λ r c any h. none-tells s _ c refl h;
      sent = λ d c to h. that-sends is_got s d c to got-over ∙ h;
      taken = λ r c any fine h. that-takes is_got s r c got-over ∙ h;
      answered = λ r a c any fine is me may left h. none-signs s (answer_to s (takes s r c).node.stored a) (takes s r c) (that-takes is_got s r c got-over ∙ h);
      returned = λ r a c any asks may left h. none-signs s (Note (returning_note s c.node.stored)) c h;
      accused = λ a c by left h. none-signs s (Accusation a) c h;
      departed = λ c left h. none-signs s (leaving s c.node.stored) c h;
      stopped = λ c h. none-tells s happened.Stopped c refl h;
      passed = λ c h. that-lives is_got s _ c got-over ∙ h;
      probed = λ p c h. h;
      spanned = λ c h. h;
      spread = λ c h. h;
    })

none-called : (s : node.Setting) (n : node.Node) (i : Input) (d : Disk) → NoneGot (called_on s n i d).call
none-called s n i d = hands-called s AnyRecord NoneGot (none-hands s) n i d (any-handed i) refl

none-opened : (s : node.Setting) (records : List Record) (c : Call) → NoneGot c → NoneGot (fold (λ c r. takes s r c) c records)
none-opened s [] c h = h
none-opened s (r ∷ records) c h = none-opened s records (takes s r c) (that-takes is_got s r c got-over ∙ h)

none-started : (s : node.Setting) (nonces : ℕ → ℕ) (records : List Record) (kept : Stored) → NoneGot (started s nonces records kept)
unfolding started
none-started s nonces records kept = none-signs s (first_note s kept) (opened s nonces records kept) (none-opened s records (call_begun (blank s nonces kept)) refl)

ungot : (m before : ℕ) (what : whats.What) → is_got what ≡ false → got_in m (numbered_from before what) ≡ None
ungot m before (happened.Got number) h = absurd (false≢true (sym h))
ungot m before (happened.Sent number to bytes) h = refl
ungot m before _ h = refl

none-over : (m before : ℕ) (events : List journal.Event) → filter (λ (e : journal.Event). is_got e.what) events ≡ [] → handed_over (told_in m before events) ≡ []
none-over m before [] h = refl
none-over m before (e ∷ events) h =
    elim (cases_Bool (is_got e.what)) [
      | inl it ↦ absurd (never e _ (sym (chosen (is_got e.what) _ _ it) ∙ h))
      | inr isnt ↦ rw (ungot m before e.what isnt) (none-over m before events (sym (other (is_got e.what) _ _ isnt) ∙ h))
    ]
  where
    never : (e : journal.Event) (rest : List journal.Event) → e ∷ rest ≡ [] → ⊥
    never e rest h = cc

-- ---- lists

all-append : {X : Type 0} (P : X → Type 0) (xs ys : List X) → AllByRecursion P xs → AllByRecursion P ys → AllByRecursion P (xs ++ ys)
all-append P [] ys h k = k
all-append P (x ∷ xs) ys h k = (h.0, all-append P xs ys h.1 k)

all-weaker : {X : Type 0} (P Q : X → Type 0) (xs : List X) → ((x : X) → P x → Q x) → AllByRecursion P xs → AllByRecursion Q xs
all-weaker P Q [] f h = tt
all-weaker P Q (x ∷ xs) f h = (f x h.0, all-weaker P Q xs f h.1)

get-none : {X : Type 0} (xs : List X) (n : ℕ) → slice_get xs n ≡ None → length xs ≤ n
get-none [] n h = omega arith
get-none (x ∷ xs) zero h = cc
get-none (x ∷ xs) (suc n) h = let k = get-none xs n h in omega (arith, k)

longer : {X : Type 0} (xs ys zs : List X) → zs ≡ xs ++ ys → length xs ≤ length zs
longer xs ys zs e = omega (arith, ap length e, length-append xs ys)

handed-append : (xs ys : List NodeEvent) → handed_over (xs ++ ys) ≡ handed_over xs ++ handed_over ys
handed-append xs ys = filter_map-append (λ (t : NodeEvent). got_in t.who t.event.what) xs ys

-- ---- from one course to a later one

-- What was reported and sent meanwhile; flows have taken so many datagrams, and what was handed over was sent.
pub record Goes (taken : ℕ) (c d : Execution) : Type 0 where
  pub news : List NodeEvent
  pub told : d.told ≡ c.told ++ news
  pub more : List (ℕ × List ℕ)
  pub sent : d.world.sent ≡ c.world.sent ++ more
  pub until : d.world.flowed ≡ c.world.flowed + taken
  pub within : AllByRecursion (IsSent d.world) (handed_over news)

abbrev goes-still : (w v : World) (told : List NodeEvent) → v.sent ≡ w.sent → v.flowed ≡ w.flowed → Goes 0 (record { world = w; told = told }) (record { world = v; told = told })
goes-still w v told sent flowed =
    record { news = []; told = sym (nil-right told); more = []; sent = sent ∙ sym (nil-right w.sent); until = omega (arith, flowed); within = tt }

abbrev goes-same : (c : Execution) → Goes 0 c c
goes-same c = goes-still c.world c.world c.told refl refl

sent-longer : {k : ℕ} (c d : Execution) → Goes k c d → length c.world.sent ≤ length d.world.sent
sent-longer c d h = longer c.world.sent h.more d.world.sent h.sent

abbrev goes-then : (j k : ℕ) (c d e : Execution) → Goes j c d → Goes k d e → Goes (j + k) c e
goes-then j k c d e x y =
    let grown : length d.world.sent ≤ length e.world.sent = sent-longer d e y in
    record {
      news = x.news ++ y.news;
      told = y.told ∙ ap (λ xs. xs ++ y.news) x.told ∙ append_assoc c.told x.news y.news;
      more = x.more ++ y.more;
      sent = y.sent ∙ ap (λ xs. xs ++ y.more) x.sent ∙ append_assoc c.world.sent x.more y.more;
      until = omega (arith, x.until, y.until);
      within = subst (AllByRecursion (IsSent e.world)) (sym (handed-append x.news y.news))
          (all-append (IsSent e.world) (handed_over x.news) (handed_over y.news) (all-weaker (IsSent d.world) (IsSent e.world) (handed_over x.news) (λ h less. omega (arith, less, grown)) x.within) y.within);
    }

-- Nothing was handed over meanwhile.
record Quiet (c d : Execution) : Type 0 where
  goes : Goes 0 c d
  none : handed_over goes.news ≡ []

abbrev quiet-same : (c : Execution) → Quiet c c
quiet-same c = record { goes = goes-same c; none = refl }

quiet-more : (c d : Execution) (news : List NodeEvent) (more : List (ℕ × List ℕ)) → d.told ≡ c.told ++ news → d.world.sent ≡ c.world.sent ++ more → d.world.flowed ≡ c.world.flowed → handed_over news ≡ [] → Quiet c d
quiet-more c d news more told sent flowed none =
    record {
      goes = record { news = news; told = told; more = more; sent = sent; until = omega (arith, flowed); within = subst (AllByRecursion (IsSent d.world)) (sym none) tt };
      none = none;
    }

quiet-running : (s : Setting) (m : ℕ) (i : Input) (current : Option Life) (c : Execution) → Quiet c (calls_running s m i (c.world.hosts m) current c)
quiet-running s m i None c = quiet-same c
quiet-running s m i (Some life) c =
    let d : OnDisk = called_on (setting_of s m) life.node i (c.world.hosts m).disk in
    quiet-more c _ (told_in m (length c.world.sent) d.call.told) d.call.sent refl refl refl
    (none-over m (length c.world.sent) d.call.told (none-called (setting_of s m) life.node i (c.world.hosts m).disk))

quiet-calls : (s : Setting) (m : ℕ) (i : Input) (c : Execution) → Quiet c (calls s m i c)
unfolding calls
quiet-calls s m i c = quiet-running s m i (c.world.hosts m).current c

goes-ticks : (s : Setting) (m n : ℕ) (c : Execution) → Goes 0 c (ticks s m n c)
goes-ticks s m zero c = goes-same c
goes-ticks s m (suc n) c = let d : Execution = calls s m Ticks c in goes-then 0 0 c d (ticks s m n d) (quiet-calls s m Ticks c).goes (goes-ticks s m n d)

-- ---- unless something is forged

abbrev OnOk : (Execution → Type 0) → Result Execution Forgery → Type 0
OnOk P (Err found) = Unit {0}
OnOk P (Ok c) = P c

ok-map : (P Q : Execution → Type 0) (r : Result Execution Forgery) → ((c : Execution) → P c → Q c) → OnOk P r → OnOk Q r
ok-map P Q (Err found) f h = tt
ok-map P Q (Ok c) f h = f c h

ok-then : (P Q : Execution → Type 0) (r : Result Execution Forgery) (f : Execution → Result Execution Forgery) → ((c : Execution) → P c → OnOk Q (f c)) → OnOk P r → OnOk Q (and_then r f)
ok-then P Q (Err found) f k h = tt
ok-then P Q (Ok c) f k h = k c h

ok-unless : (P : Execution → Type 0) (found : Option Forgery) (c : Execution) → P c → OnOk P (unless_forged found c)
ok-unless P (Some found) c h = tt
ok-unless P None c h = h

quiet-hands : (s : Setting) (m : ℕ) (bytes : List ℕ) (c : Execution) → OnOk (Quiet c) (hands s m bytes c)
unfolding hands
quiet-hands s m bytes c = ok-unless (Quiet c) (forgery s c.world bytes) (calls s m (Delivers bytes) c) (quiet-calls s m (Delivers bytes) c)

abbrev goes-got : (s : Setting) (m number : ℕ) (c : Execution) → number < length c.world.sent → Goes 0 c (tells_got s m number c)
goes-got s m number c less = record { news = _ ∷ []; told = refl; more = []; sent = sym (nil-right c.world.sent); until = omega arith; within = (less, tt) }

goes-hands_sent : (s : Setting) (m number : ℕ) (o : Option (ℕ × List ℕ)) (c : Execution) → slice_get c.world.sent number ≡ o → OnOk (Goes 0 c) (hands_sent s m number o c)
goes-hands_sent s m number None c is = goes-same c
goes-hands_sent s m number (Some d) c is =
    let got : Execution = tells_got s m number c in
    ok-map (Quiet got) (Goes 0 c) (hands s m d.1 got) (λ e h. goes-then 0 0 c got e (goes-got s m number c (slice_get_within c.world.sent number d is)) h.goes) (quiet-hands s m d.1 got)

goes-gives : (s : Setting) (m : ℕ) (x : Option Named) (c : Execution) → OnOk (Goes 0 c) (gives s m x c)
goes-gives s m None c = goes-same c
goes-gives s m (Some x) c = ok-map (Quiet c) (Goes 0 c) (hands s m (given_bytes x) c) (λ d h. h.goes) (quiet-hands s m (given_bytes x) c)

goes-gives_each : (s : Setting) (ms : List ℕ) (x : Option Named) (c : Execution) → OnOk (Goes 0 c) (gives_each s ms x c)
goes-gives_each s [] x c = goes-same c
goes-gives_each s (m ∷ ms) x c =
    ok-then (Goes 0 c) (Goes 0 c) (gives s m x c) (gives_each s ms x)
    (λ d h. ok-map (Goes 0 d) (Goes 0 c) (gives_each s ms x d) (λ e k. goes-then 0 0 c d e h k) (goes-gives_each s ms x d)) (goes-gives s m x c)

-- ---- flows

abbrev handed_at : ℕ → ℕ → Handed
handed_at who number = record { who = who; number = number }

-- One datagram was taken, and handed over or not.
record TakesOne (c d : Execution) : Type 0 where
  goes : Goes 1 c d
  who : ℕ
  bytes : List ℕ
  first : slice_get c.world.sent c.world.flowed ≡ Some (who, bytes)
  handed : (handed_over goes.news ≡ []) ⊎ (handed_over goes.news ≡ handed_at who c.world.flowed ∷ [])

abbrev goes-took : (c : Execution) → Goes 1 c (record c { world = record c.world { flowed = c.world.flowed + 1 } })
goes-took c = record { news = []; told = sym (nil-right c.told); more = []; sent = sym (nil-right c.world.sent); until = refl; within = tt }

one-handed : (s : Setting) (d : ℕ × List ℕ) (c e : Execution) → slice_get c.world.sent c.world.flowed ≡ Some d
    → (let took : Execution = record c { world = record c.world { flowed = c.world.flowed + 1 } } in Quiet (tells_got s d.0 c.world.flowed took) e) → TakesOne c e
one-handed s d c e is h =
    let took : Execution = record c { world = record c.world { flowed = c.world.flowed + 1 } } in
    let got : Execution = tells_got s d.0 c.world.flowed took in
    let first : Goes 1 c got = goes-then 1 0 c took got (goes-took c) (goes-got s d.0 c.world.flowed took (slice_get_within c.world.sent c.world.flowed d is)) in
    record {
      goes = goes-then 1 0 c got e first h.goes;
      who = d.0;
      bytes = d.1;
      first = is;
      handed = inr (ap (λ xs. handed_at d.0 c.world.flowed ∷ xs) h.none);
    }

flows-one : (s : Setting) (d : ℕ × List ℕ) (c : Execution) → slice_get c.world.sent c.world.flowed ≡ Some d → OnOk (TakesOne c) (flows_one s d c)
flows-one s d c is =
    let number : ℕ = c.world.flowed in
    let took : Execution = record c { world = record c.world { flowed = number + 1 } } in
    cond_both (is_running c.world d.0) (hands_sent s d.0 number (Some d) took) (Ok took) (OnOk (TakesOne c))
    (λ yes. ok-map (Quiet (tells_got s d.0 number took)) (TakesOne c) (hands s d.0 d.1 (tells_got s d.0 number took)) (λ e h. one-handed s d c e is h) (quiet-hands s d.0 d.1 (tells_got s d.0 number took)))
    (λ no. record { goes = goes-took c; who = d.0; bytes = d.1; first = is; handed = inl refl })

-- What was handed over rises from the one number to below the other.
record Between (low high : ℕ) (handed : List Handed) : Type 0 where
  rise : IsRising (numbers_of handed)
  among : AllByRecursion (λ h. (low ≤ h.number) × (h.number < high)) handed

between-later : (low later high : ℕ) (handed : List Handed) → low ≤ later → Between later high handed → Between low high handed
between-later low later high handed less h = record { rise = h.rise; among = all-weaker _ _ handed (λ x k. (omega (arith, k.0, less), k.1)) h.among }

above : (n high : ℕ) (handed : List Handed) → AllByRecursion (λ h. (n + 1 ≤ h.number) × (h.number < high)) handed → AllByRecursion (λ k. n < k) (numbers_of handed)
above n high [] h = tt
above n high (x ∷ handed) h = (omega (arith, h.0.0), above n high handed h.1)

between-first : (who n high : ℕ) (handed : List Handed) → n < high → Between (n + 1) high handed → Between n high (handed_at who n ∷ handed)
between-first who n high handed less h =
    record {
      rise = (above n high handed h.among, h.rise);
      among = ((omega arith, less), all-weaker _ _ handed (λ x k. (omega (arith, k.0), k.1)) h.among);
    }

-- A flow of at most so many.
record FlowsTo (most : ℕ) (c d : Execution) : Type 0 where
  taken : ℕ
  goes : Goes taken c d
  few : taken ≤ most
  all : taken < most → length d.world.sent ≤ d.world.flowed
  enough : c.world.flowed ≤ length c.world.sent → d.world.flowed ≤ length d.world.sent
  between : Between c.world.flowed d.world.flowed (handed_over goes.news)
  there : AllByRecursion (IsSentThere d.world) (handed_over goes.news)

flows-none : (most : ℕ) (c : Execution) → (0 < most → length c.world.sent ≤ c.world.flowed) → FlowsTo most c c
flows-none most c all = record { taken = 0; goes = goes-same c; few = omega arith; all = all; enough = λ less. less; between = record { rise = tt; among = tt }; there = tt }

sent-there : (c d e : Execution) (x : TakesOne c d) (k : ℕ) → Goes k d e → IsSentThere e.world (handed_at x.who c.world.flowed)
sent-there c d e x k y =
    record {
      bytes = x.bytes;
      sent = subst (λ (xs : List (ℕ × List ℕ)). slice_get xs c.world.flowed ≡ Some (x.who, x.bytes)) (sym y.sent)
          (get-front d.world.sent y.more c.world.flowed (x.who, x.bytes)
          (subst (λ (xs : List (ℕ × List ℕ)). slice_get xs c.world.flowed ≡ Some (x.who, x.bytes)) (sym x.goes.sent) (get-front c.world.sent x.goes.more c.world.flowed (x.who, x.bytes) x.first)));
    }

flows-more : (n : ℕ) (c d e : Execution) → TakesOne c d → FlowsTo n d e → FlowsTo (suc n) c e
flows-more n c d e x y =
    let goes : Goes (1 + y.taken) c e = goes-then 1 y.taken c d e x.goes y.goes in
    let both : handed_over goes.news ≡ handed_over x.goes.news ++ handed_over y.goes.news = handed-append x.goes.news y.goes.news in
    let next : d.world.flowed ≡ c.world.flowed + 1 = x.goes.until in
    let rest : Between (c.world.flowed + 1) e.world.flowed (handed_over y.goes.news) = subst (λ k. Between k e.world.flowed (handed_over y.goes.news)) next y.between in
    let less : c.world.flowed < e.world.flowed = omega (arith, goes.until) in
    record {
      taken = 1 + y.taken;
      goes = goes;
      few = omega (arith, y.few);
      all = λ fewer. y.all (omega (arith, fewer));
      enough = λ before. y.enough (omega (arith, next, slice_get_within c.world.sent c.world.flowed (x.who, x.bytes) x.first, sent-longer c d x.goes));
      between = subst (Between c.world.flowed e.world.flowed) (sym both)
          (elim x.handed [
            | inl none ↦ subst (λ xs. Between c.world.flowed e.world.flowed (xs ++ handed_over y.goes.news)) (sym none) (between-later c.world.flowed (c.world.flowed + 1) e.world.flowed (handed_over y.goes.news) (omega arith) rest)
            | inr one ↦ subst (λ xs. Between c.world.flowed e.world.flowed (xs ++ handed_over y.goes.news)) (sym one) (between-first x.who c.world.flowed e.world.flowed (handed_over y.goes.news) less rest)
          ]);
      there = subst (AllByRecursion (IsSentThere e.world)) (sym both)
          (elim x.handed [
            | inl none ↦ subst (λ xs. AllByRecursion (IsSentThere e.world) (xs ++ handed_over y.goes.news)) (sym none) y.there
            | inr one ↦ subst (λ xs. AllByRecursion (IsSentThere e.world) (xs ++ handed_over y.goes.news)) (sym one) (sent-there c d e x y.taken y.goes, y.there)
          ]);
    }

flows-next : (s : Setting) (n : ℕ) (o : Option (ℕ × List ℕ)) (c : Execution) → slice_get c.world.sent c.world.flowed ≡ o → ((d : Execution) → OnOk (FlowsTo n d) (flows s n d)) → OnOk (FlowsTo (suc n) c) (flows_next s o (flows s n) c)
flows-next s n None c is rest = flows-none (suc n) c (λ less. get-none c.world.sent c.world.flowed is)
flows-next s n (Some d) c is rest =
    ok-then (TakesOne c) (FlowsTo (suc n) c) (flows_one s d c) (flows s n) (λ e x. ok-map (FlowsTo n e) (FlowsTo (suc n) c) (flows s n e) (λ f y. flows-more n c e f x y) (rest e)) (flows-one s d c is)

flows-on : (s : Setting) (n : ℕ) (c : Execution) → OnOk (FlowsTo n c) (flows s n c)
flows-on s zero c = flows-none 0 c (λ less. absurd (omega (arith, less)))
flows-on s (suc n) c = flows-next s n (slice_get c.world.sent c.world.flowed) c refl (flows-on s n)

-- ---- lines

abbrev pub course_of : Answer → Execution
course_of a = record { world = a.world; told = a.told }

-- What comes of a line, unless something is forged.
abbrev OnAnswer : (Execution → Type 0) → Result Answer Forgery → Type 0
OnAnswer P (Err found) = Unit {0}
OnAnswer P (Ok a) = P (course_of a)

answer-ok : (P : Execution → Type 0) (r : Result Execution Forgery) → OnOk P r → OnAnswer P (answered r)
answer-ok P (Err found) h = tt
answer-ok P (Ok c) h = h

-- The line takes so many datagrams, which are none unless it is a flow.
pub record Steps (line : WorldLine) (c d : Execution) : Type 0 where
  pub taken : ℕ
  pub goes : Goes taken c d
  pub enough : c.world.flowed ≤ length c.world.sent → d.world.flowed ≤ length d.world.sent
  pub none : is_flow line ≡ false → taken ≡ 0

steps-none : (line : WorldLine) (c d : Execution) → Goes 0 c d → Steps line c d
steps-none line c d h =
    let grown : length c.world.sent ≤ length d.world.sent = sent-longer c d h in
    record { taken = 0; goes = h; enough = λ less. omega (arith, less, h.until, grown); none = λ others. refl }

steps-flow : (most : ℕ) (c d : Execution) → FlowsTo most c d → Steps (lines.Flow most) c d
steps-flow most c d h = record { taken = h.taken; goes = h.goes; enough = h.enough; none = λ others. absurd (false≢true (sym others)) }

goes-begins : (s : Setting) (m : ℕ) (host : Host) (call : Call) (w : World) → NoneGot call → Goes 0 (begun w) (course_of (begins s m host call w))
goes-begins s m host call w none =
    cond_both {A = Answer} (put_passes host.disk) _ _ (λ a. Goes 0 (begun w) (course_of a))
    (λ yes. (quiet-more (begun w) _ (told_in m (length w.sent) call.told) call.sent refl refl refl (none-over m (length w.sent) call.told none)).goes)
    (λ no. goes-still w _ [] refl refl)

goes-opens : (m : ℕ) (host : Host) (rest : Host → Answer) (w : World) → ((opened : Host) → Goes 0 (begun w) (course_of (rest opened))) → Goes 0 (begun w) (course_of (opens m host rest w))
goes-opens m host rest w h = cond_both {A = Answer} (lets_pass host.disk.armed (opening_calls host.disk)) _ _ (λ a. Goes 0 (begun w) (course_of a)) (λ yes. h _) (λ no. goes-still w _ [] refl refl)

goes-starts : (s : Setting) (m : ℕ) (w : World) → Goes 0 (begun w) (course_of (starts s m w))
unfolding starts
goes-starts s m w =
    let kept : Stored = (w.hosts m).disk.state in
    goes-opens m (w.hosts m) (λ opened. begins s m opened (first_call s m kept) w) w
    (λ opened. goes-begins s m opened (first_call s m kept) w (none-started (setting_of s m) (s.nonces m kept.next) (certificates s) kept))

goes-starts_in_vain : (m first : ℕ) (w : World) → Goes 0 (begun w) (course_of (starts_in_vain m first w))
unfolding starts_in_vain
goes-starts_in_vain m first w = goes-opens m (w.hosts m) (λ opened. says (verdicts.Refused (whys.UsedUp first)) (with_host m opened w)) w (λ opened. goes-still w _ [] refl refl)

goes-accuses_at : (s : Setting) (key accuser accused : ℕ) (ring : RingNo) (name : List ℕ) (w : World) (epoch : Option ℕ) → Goes 0 (begun w) (course_of (accuses_at s key accuser accused ring name w epoch))
goes-accuses_at s key accuser accused ring name w None = goes-same (begun w)
goes-accuses_at s key accuser accused ring name w (Some epoch) = goes-still w _ [] refl refl

goes-of_life : (s : Setting) (m : ℕ) (current : Option Life) (ask : node.Setting → node.Node → Verdict) (w : World) → Goes 0 (begun w) (course_of (of_life s m current ask w))
goes-of_life s m None ask w = goes-same (begun w)
goes-of_life s m (Some life) ask w = goes-same (begun w)

abbrev StepsTo : World → WorldLine → Result Answer Forgery → Type 0
StepsTo w line r = OnAnswer (Steps line (begun w)) r

-- The line takes nothing, whatever comes of it.
steps-ok : (w : World) (line : WorldLine) (r : Result Execution Forgery) → OnOk (Goes 0 (begun w)) r → StepsTo w line (answered r)
steps-ok w line r h = answer-ok (Steps line (begun w)) r (ok-map (Goes 0 (begun w)) (Steps line (begun w)) r (λ d k. steps-none line (begun w) d k) h)

steps-does : (s : Setting) (w : World) (line : WorldLine) → StepsTo w line (does s w line)
steps-does s w (lines.Start m) = steps-none _ (begun w) _ (goes-starts s m w)
steps-does s w (lines.Stop m outcome) = steps-none _ (begun w) _ (goes-still w _ [] refl refl)
steps-does s w (lines.Arm m n outcome) = steps-none _ (begun w) _ (goes-still w _ [] refl refl)
steps-does s w (lines.Tick m n) = steps-none _ (begun w) _ (goes-ticks s m n (begun w))
steps-does s w (lines.Leave m) = steps-none _ (begun w) _ (quiet-calls s m Leaves (begun w)).goes
steps-does s w (lines.Deliver number m) = steps-ok w (lines.Deliver number m) (hands_sent s m number (slice_get w.sent number) (begun w)) (goes-hands_sent s m number (slice_get w.sent number) (begun w) refl)
steps-does s w (lines.Flow most) =
    answer-ok (Steps (lines.Flow most) (begun w)) (flows s most (begun w)) (ok-map (FlowsTo most (begun w)) (Steps (lines.Flow most) (begun w)) (flows s most (begun w)) (λ d h. steps-flow most (begun w) d h) (flows-on s most (begun w)))
steps-does s w (lines.Raw m bytes) = steps-ok w (lines.Raw m bytes) (hands s m bytes (begun w)) (ok-map (Quiet (begun w)) (Goes 0 (begun w)) (hands s m bytes (begun w)) (λ d h. h.goes) (quiet-hands s m bytes (begun w)))
steps-does s w (lines.SignNote key note name) = steps-none _ (begun w) _ (goes-still w _ [] refl refl)
steps-does s w (lines.SignAccusation key accuser accused epoch ring name) = steps-none _ (begun w) _ (goes-accuses_at s key accuser accused ring name w (epoch_meant w accused epoch))
steps-does s w (lines.Give name m) = steps-ok w (lines.Give name m) (gives s m (named_so w name) (begun w)) (goes-gives s m (named_so w name) (begun w))
steps-does s w (lines.GiveAll name) = steps-ok w (lines.GiveAll name) (gives_each s (running s w) (named_so w name) (begun w)) (goes-gives_each s (running s w) (named_so w name) (begun w))
steps-does s w (lines.View m) = steps-none _ (begun w) _ (goes-of_life s m (w.hosts m).current viewed w)
steps-does s w (lines.Monitor m ring of) = steps-none _ (begun w) _ (goes-of_life s m (w.hosts m).current (monitored ring.0 of) w)
steps-does s w line = steps-none line (begun w) _ (goes-same (begun w))

steps-refuses : (w : World) (line : WorldLine) (why : RefusalReason) → Goes 0 (begun w) (course_of (refuses w line why))
steps-refuses w (lines.Start m) (whys.UsedUp first) = goes-starts_in_vain m first w
steps-refuses w line why = goes-same (begun w)

steps-by : (s : Setting) (w : World) (line : WorldLine) (why : Option RefusalReason) → StepsTo w line (step_by s w line why)
steps-by s w line (Some why) = steps-none line (begun w) _ (steps-refuses w line why)
steps-by s w line None = steps-does s w line

steps : (s : Setting) (w : World) (line : WorldLine) → StepsTo w line (step s w line)
unfolding step
steps s w line = steps-by s w line (why_not s w line)

pub line-steps : (s : Setting) (w : World) (line : WorldLine) (a : Answer) → step s w line ≡ Ok a → Steps line (begun w) (course_of a)
line-steps s w line a is = subst (StepsTo w line) is (steps s w line)

-- ---- the laws

pub only-sent : OnlySentIsHandedOver
unfolding begun_world
only-sent s w told opens_so = record { sent = tt; flowed = omega arith }
only-sent s w told (goes v before line a reached is) =
    let h : HandsOverSent v before = only-sent s v before reached in
    let x : Steps line (begun v) (course_of a) = line-steps s v line a is in
    let grown : length v.sent ≤ length a.world.sent = sent-longer (begun v) (course_of a) x.goes in
    record {
      sent = subst (AllByRecursion (IsSent a.world)) (sym (handed-append before a.told))
          (all-append (IsSent a.world) (handed_over before) (handed_over a.told) (all-weaker (IsSent v) (IsSent a.world) (handed_over before) (λ k less. omega (arith, less, grown)) h.sent)
          (subst (λ xs. AllByRecursion (IsSent a.world) (handed_over xs)) (sym x.goes.told) x.goes.within));
      flowed = x.enough h.flowed;
    }

pub others-none : OthersTakeNone
others-none s w line a other is =
    let x : Steps line (begun w) (course_of a) = line-steps s w line a is in
    let none : x.taken ≡ 0 = x.none other in
    omega (arith, x.goes.until, none)

pub flow-done : (s : Setting) (w : World) (most : ℕ) → step s w (lines.Flow most) ≡ answered (flows s most (begun w))
unfolding step why_not
flow-done s w most = refl

flow-answer : (w : World) (most : ℕ) (r : Result Execution Forgery) (a : Answer) → answered r ≡ Ok a → OnOk (FlowsTo most (begun w)) r → FlowsTo most (begun w) (course_of a)
flow-answer w most (Err found) a is h = cc
flow-answer w most (Ok c) a is h = subst (λ (x : Answer). FlowsTo most (begun w) (course_of x)) (same _ _ is) h
  where
    same : (x y : Answer) → (let r : Result Answer Forgery = Ok x in r) ≡ Ok y → x ≡ y
    same x y e = cc

pub flows-go-on : FlowsGoOn
flows-go-on s w most a is =
    let h : FlowsTo most (begun w) (course_of a) = flow-answer w most (flows s most (begun w)) a (sym (flow-done s w most) ∙ is) (flows-on s most (begun w)) in
    record {
      taken = h.taken;
      until = h.goes.until;
      few = h.few;
      all = h.all;
      rise = subst (λ (xs : List NodeEvent). IsRising (numbers_of (handed_over xs))) (sym h.goes.told) h.between.rise;
      among = subst (λ (xs : List NodeEvent). AllByRecursion (λ k. (w.flowed ≤ k.number) × (k.number < a.world.flowed)) (handed_over xs)) (sym h.goes.told) h.between.among;
      there = subst (λ (xs : List NodeEvent). AllByRecursion (IsSentThere a.world) (handed_over xs)) (sym h.goes.told) h.there;
    }
