-- The moments of what a whole call reports, and what none of it is.
use Rattle.std.proofs.Common.{◌≡◌, ℕ, ◌+◌, ◌<◌, ◌^◌, true, false, List, [], ◌∷◌, ◌++◌, map, refl, ap, sym, ◌∙◌, subst, arith}
use Rattle.std.specs.List.{AllByRecursion}
use Rattle.ff_ids.specs.Steps.{Event, Ticks as Passes, Report, step}
use Rattle.records.specs.declared.Body.{Body}
use Rattle.records.specs.declared.Record.{Record}
use Rattle.epoch_store.specs.declared.Stored.{Stored}
use Rattle.datagram.specs.declared.Datagram.{Datagram}
use Rattle.journal.specs.declared.event.Event as journal
use Rattle.journal.specs.declared.event.What as whats
use Rattle.journal.specs.declared.event.What.TheVariants as told
use Rattle.node_rules.specs.Nodes.{Setting, Node, state_of, event_of}
use Rattle.node_rules.specs.Calls.{Call, begun, tells, told_of, whats_of, lives, takes, spends, signs, sends, own_record}
use Rattle.node_rules.specs.Starting.{blank, first_note, opened, started}
use Rattle.node_rules.specs.Ticking.{passed}
use Rattle.node_rules.specs.Lives.{Input, Delivers, Ticks as Tick, Leaves, call_of}
use Rattle.node_rules.specs.Sending.{is_sent}
use Rattle.node_rules.specs.Told.{is_of_call, moment_of, IsToldAt, CallsTellNow, MomentsFit, StartsTellNow, CallsTellSendings}
use Rattle.node_rules.proofs.Small.{state_of-lives}
use Rattle.node_rules.proofs.Correctness.{takes_all}
use Rattle.node_rules.proofs.Handling.{moment-takes, moment-step}
use Rattle.node_rules.proofs.Sendings.{call-sendings}
use Rattle.node_rules.proofs.Walks.{IsInput}
use Rattle.node_rules.proofs.Whole.{Goes, opens, goes-call}

pub all-append : {X : Type 0} (P : X → Type 0) (xs ys : List X) → AllByRecursion P xs → AllByRecursion P ys → AllByRecursion P (xs ++ ys)
all-append P [] ys all more = more
all-append P (x ∷ xs) ys all more = (all.0, all-append P xs ys all.1 more)

-- ---- what a report tells

all-mapped : {X Y : Type 0} (Q : Y → Type 0) (f : X → Y) (xs : List X) → ((x : X) → Q (f x)) → AllByRecursion Q (map f xs)
all-mapped Q f [] h = tt
all-mapped Q f (x ∷ xs) h = (h x, all-mapped Q f xs h)

whats-of_call : (r : Report) → AllByRecursion (λ (w : whats.What). is_of_call w ≡ true) (whats_of r)
whats-of_call r =
    let Q : whats.What → Type 0 = λ w. is_of_call w ≡ true in
    let expired = all-mapped Q told.Expired r.expired (λ x. refl) in
    let removed = all-mapped Q told.Removed r.removed (λ x. refl) in
    let entered = all-mapped Q told.Entered r.entered (λ x. refl) in
    let fell = all-mapped Q told.Fell r.fell (λ x. refl) in
    all-append Q _ _ (all-append Q _ _ (all-append Q _ _ expired removed) entered) fell

whats-unsent : (r : Report) → AllByRecursion (λ (w : whats.What). is_sent w ≡ false) (whats_of r)
whats-unsent r =
    let Q : whats.What → Type 0 = λ w. is_sent w ≡ false in
    let expired = all-mapped Q told.Expired r.expired (λ x. refl) in
    let removed = all-mapped Q told.Removed r.removed (λ x. refl) in
    let entered = all-mapped Q told.Entered r.entered (λ x. refl) in
    let fell = all-mapped Q told.Fell r.fell (λ x. refl) in
    all-append Q _ _ (all-append Q _ _ (all-append Q _ _ expired removed) entered) fell

events-told : (at moment : ℕ) (ws : List whats.What) → at ≡ moment → AllByRecursion (λ (w : whats.What). is_of_call w ≡ true) ws → AllByRecursion (IsToldAt moment) (map (λ (w : whats.What). record { moment = at; what = w }) ws)
events-told at moment [] e all = tt
events-told at moment (w ∷ ws) e all = (record { now = e; of_call = all.0 }, events-told at moment ws e all.1)

events-unsent : (at : ℕ) (ws : List whats.What) → AllByRecursion (λ (w : whats.What). is_sent w ≡ false) ws → AllByRecursion (λ (e : journal.Event). is_sent e.what ≡ false) (map (λ (w : whats.What). record { moment = at; what = w }) ws)
events-unsent at [] all = tt
events-unsent at (w ∷ ws) all = (all.0, events-unsent at ws all.1)

-- ---- so far

-- The node is at the moment, and so is all that the call has told.
record IsAt (s : Setting) (moment : ℕ) (c : Call) : Type 0 where
  now : (state_of s c.node).moment ≡ moment
  all : AllByRecursion (IsToldAt moment) c.told

at-tells : (s : Setting) (moment : ℕ) (what : whats.What) (c : Call) → is_of_call what ≡ true → IsAt s moment c → IsAt s moment (tells s what c)
at-tells s moment what c of h = record { now = h.now; all = all-append (IsToldAt moment) c.told _ h.all (record { now = h.now; of_call = of }, tt) }

at-sends : (s : Setting) (moment : ℕ) (d : Datagram) (c : Call) (to : ℕ) → IsAt s moment c → IsAt s moment (sends s d c to)
unfolding sends
at-sends s moment d c to h = record { now = h.now; all = all-append (IsToldAt moment) c.told _ h.all (record { now = h.now; of_call = refl }, tt) }

lives-told : (s : Setting) (moment : ℕ) (e : Event) (c : Call) → (step s.group (state_of s c.node) e).state.moment ≡ moment → AllByRecursion (IsToldAt moment) c.told → AllByRecursion (IsToldAt moment) (lives s e c).told
unfolding lives
lives-told s moment e c now all =
    let stepped = step s.group (state_of s c.node) e in
    all-append (IsToldAt moment) c.told (told_of stepped.state.moment stepped.report) all (events-told stepped.state.moment moment (whats_of stepped.report) now (whats-of_call stepped.report))

told-takes : (s : Setting) (r : Record) (c : Call) → (takes s r c).told ≡ (lives s (event_of s r.body) c).told
unfolding takes
told-takes s r c = refl

at-takes : (s : Setting) (moment : ℕ) (r : Record) (c : Call) → IsAt s moment c → IsAt s moment (takes s r c)
at-takes s moment r c h =
    record {
      now = moment-takes s r c ∙ h.now;
      all = subst (AllByRecursion (IsToldAt moment)) (sym (told-takes s r c)) (lives-told s moment (event_of s r.body) c (moment-step s (state_of s c.node) r.body ∙ h.now) h.all);
    }

at-node : (s : Setting) (moment : ℕ) (c d : Call) → d.node.lived ≡ c.node.lived → d.told ≡ c.told → IsAt s moment c → IsAt s moment d
unfolding state_of
at-node s moment c d lived same h = record { now = rw lived h.now; all = subst (AllByRecursion (IsToldAt moment)) (sym same) h.all }

at-spends : (s : Setting) (moment : ℕ) (body : Body) (c : Call) → IsAt s moment c → IsAt s moment (spends s body c)
at-spends s moment body c h = at-node s moment (tells s (told.Spent c.node.stored.next body) c) (spends s body c) refl refl (at-tells s moment (told.Spent c.node.stored.next body) c refl h)

at-signs : (s : Setting) (moment : ℕ) (body : Body) (c : Call) → IsAt s moment c → IsAt s moment (signs s body c)
unfolding signs
at-signs s moment body c h = at-takes s moment (own_record s c.node body) (spends s body c) (at-spends s moment body c h)

-- Nothing is asked of the records that are handed over.
abbrev Any : Record → Type 0
Any r = Unit {0}

going-at : (s : Setting) (moment : ℕ) → Goes s Any (IsAt s moment)
going-at s moment =
    record {
      told = at-tells s moment;
      sent = λ d c to held h. at-sends s moment d c to h;
      taken = λ r c given fine h. at-takes s moment r c h;
      answered = λ r a c given fine is me may left h. at-signs s moment _ _ (at-takes s moment r c h);
      returned = λ r a c asks may left h. at-signs s moment _ c h;
      accused = λ m ring c found left h. at-signs s moment _ c h;
      departed = λ c left h. at-signs s moment _ c h;
      probed = λ p c h. at-node s moment c (record c { node = record c.node { probes = p } }) refl refl h;
      spanned = λ c h. at-node s moment c (record c { node = record c.node { since = c.node.stored.epoch } }) refl refl h;
      spread = λ c h. at-node s moment c (record c { node = record c.node { news = [] } }) refl refl h;
    }

-- ---- calls

any-all : (records : List Record) → AllByRecursion Any records
any-all [] = tt
any-all (r ∷ records) = (tt, any-all records)

any-input : (i : Input) → IsInput Any i
any-input (Delivers bytes) = λ from records is. any-all records
any-input Tick = tt
any-input Leaves = tt

at-passed : (s : Setting) (n : Node) → IsAt s ((state_of s n).moment + 1) (passed s n)
unfolding passed
at-passed s n = record {
  now = ap (λ st. st.moment) (state_of-lives s Passes (begun n));
  all = lives-told s ((state_of s n).moment + 1) Passes (begun n) refl tt;
}

at-opens : (s : Setting) (n : Node) (i : Input) → IsAt s (moment_of s n i) (opens s n i)
at-opens s n (Delivers bytes) = record { now = refl; all = tt }
at-opens s n Tick = at-passed s n
at-opens s n Leaves = record { now = refl; all = tt }

pub calls-tell : CallsTellNow
calls-tell s n i = (goes-call s Any (IsAt s (moment_of s n i)) (going-at s (moment_of s n i)) n i (any-input i) (at-opens s n i)).all

all-below : (bound moment : ℕ) (events : List journal.Event) → moment < bound → AllByRecursion (IsToldAt moment) events → AllByRecursion (λ (e : journal.Event). e.moment < bound) events
all-below bound moment [] less all = tt
all-below bound moment (e ∷ events) less all = (subst (λ k. k < bound) (sym all.0.now) less, all-below bound moment events less all.1)

moment-fits : (s : Setting) (n : Node) (i : Input) → (state_of s n).moment < 18446744073709551615 → moment_of s n i < 2 ^ 64
moment-fits s n (Delivers bytes) less = omega (arith, less)
moment-fits s n Tick less = omega (arith, less)
moment-fits s n Leaves less = omega (arith, less)

pub moments-fit : MomentsFit
moments-fit s n i less = all-below (2 ^ 64) (moment_of s n i) (call_of s n i).told (moment-fits s n i less) (calls-tell s n i)

pub calls-sendings : CallsTellSendings
calls-sendings s n i = call-sendings s n i

-- ---- starts

-- Nothing is sent, nor reported as sent.
record IsQuiet (c : Call) : Type 0 where
  unsent : AllByRecursion (λ (e : journal.Event). is_sent e.what ≡ false) c.told
  sent_so : c.sent ≡ []

quiet-takes : (s : Setting) (r : Record) (c : Call) → IsQuiet c → IsQuiet (takes s r c)
unfolding takes lives
quiet-takes s r c h =
    let stepped = step s.group (state_of s c.node) (event_of s r.body) in
    record {
      unsent = all-append (λ (e : journal.Event). is_sent e.what ≡ false) c.told (told_of stepped.state.moment stepped.report) h.unsent (events-unsent stepped.state.moment (whats_of stepped.report) (whats-unsent stepped.report));
      sent_so = h.sent_so;
    }

quiet-signs : (s : Setting) (body : Body) (c : Call) → IsQuiet c → IsQuiet (signs s body c)
unfolding signs
quiet-signs s body c h =
    quiet-takes s (own_record s c.node body) (spends s body c)
    (record { unsent = all-append (λ (e : journal.Event). is_sent e.what ≡ false) c.told _ h.unsent (refl, tt); sent_so = h.sent_so })

opens-both : (s : Setting) (records : List Record) (c : Call) → IsAt s 0 c → IsQuiet c → IsAt s 0 (takes_all s records c) × IsQuiet (takes_all s records c)
opens-both s [] c h quiet = (h, quiet)
opens-both s (r ∷ records) c h quiet = opens-both s records (takes s r c) (at-takes s 0 r c h) (quiet-takes s r c quiet)

at-blank : (s : Setting) (nonces : ℕ → ℕ) (stored : Stored) → IsAt s 0 (begun (blank s nonces stored))
unfolding state_of
at-blank s nonces stored = record { now = refl; all = tt }

pub starts-tell : StartsTellNow
unfolding started
starts-tell s nonces certificates stored =
    let both = opens-both s certificates (begun (blank s nonces stored)) (at-blank s nonces stored) (record { unsent = tt; sent_so = refl }) in
    let c : Call = opened s nonces certificates stored in
    let at : IsAt s 0 (signs s (first_note s stored) c) = at-signs s 0 (first_note s stored) c both.0 in
    let quiet : IsQuiet (signs s (first_note s stored) c) = quiet-signs s (first_note s stored) c both.1 in
    record { told = at.all; unsent = quiet.unsent; sent_so = quiet.sent_so }
