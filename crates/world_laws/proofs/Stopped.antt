-- A call in which the disk stops has come to nothing that the whole call doesn't: it spends no other indexes, and its life
-- has no other events.
use Rattle.std.proofs.Common.{◌≡◌, ℕ, zero, suc, Bool, true, false, cond, List, [], ◌∷◌, ◌++◌, Option, Some, None, inl, inr, refl, ap, sym, ◌∙◌, subst, take}
use Rattle.std.specs.List.{slice_get}
use Rattle.std.proofs.lemmas.Bool.{cond_both}
use Rattle.ff_ids.specs.declared.Fault.{Fault}
use Rattle.ff_ids.specs.declared.NoteBody.{NoteBody}
use Rattle.ff_ids.specs.Views.{State}
use Rattle.ff_ids.specs.Steps.{Event, Ticks as Passes, step}
use Rattle.life_laws.proofs.Lists.{In, In-append_left, In-append_cases}
use Rattle.records.specs.declared.Body.{Body}
use Rattle.records.specs.declared.Body.TheVariants.{Note, Accusation}
use Rattle.records.specs.declared.Record.{Record}
use Rattle.datagram.specs.declared.Datagram.{Datagram}
use Rattle.detector.specs.Silence.{silent}
use Rattle.journal.specs.declared.event.Event as journal
use Rattle.journal.specs.declared.event.What as whats
use Rattle.journal.specs.declared.event.What.TheVariants as told
use Rattle.node_rules.specs.Nodes.{Setting, Node, state_of, event_of, neighbours, neighbours_and}
use Rattle.node_rules.specs.Refusals.{refusal}
use Rattle.node_rules.specs.Calls.{Call, begun, tells, lives, takes, spends, signs, wants, stops, sends, told_of, is_used_up}
use Rattle.node_rules.specs.Deliveries.{asked_with, gives_note, settles, judged, handles, handles_all, hears, delivered}
use Rattle.node_rules.specs.Ticking.{accusation_on, ring_for, has_accused, wants_accusation, accuses, accuses_all, is_due, silent_in, pings_in, round_of, watched_by, passed, probed_at, spread_at, due_tick, ticked, silent_at}
use Rattle.node_rules.specs.Leaving.{leaving, leaves, left}
use Rattle.node_rules.specs.Lives.{Input, Delivers, Ticks, Leaves, call_of}
use Rattle.node_rules.proofs.Called.{ComesSoFar, IsCutAccusing, IsCutAnswering, IsCutLeaving, delivered_until, left_until, ticked_until}
use Rattle.world_laws.proofs.Handing.{Hands, AnyRecord, hands-wants, hands-handles_all, hands-accuses_all, hands-gossips, hands-leaves, joined}

-- ---- what was reported and lived stays

-- The event of a call, and the event of its life, are in the call.
pub record Holds (told_event : Option journal.Event) (lived_event : Option Event) (c : Call) : Type 0 where
  pub told : (e : journal.Event) → told_event ≡ Some e → In c.told e
  pub lived : (e : Event) → lived_event ≡ Some e → In c.node.lived e

grows : (o : Option journal.Event) (p : Option Event) (c d : Call) (news : List journal.Event) (es : List Event) → d.told ≡ c.told ++ news → d.node.lived ≡ c.node.lived ++ es → Holds o p c → Holds o p d
grows o p c d news es told lived h =
    record {
      told = λ e is. subst (λ xs. In xs e) (sym told) (In-append_left c.told news e (h.told e is));
      lived = λ e is. subst (λ xs. In xs e) (sym lived) (In-append_left c.node.lived es e (h.lived e is));
    }

nil-right : {A : Type 0} (xs : List A) → xs ++ [] ≡ xs
nil-right [] = refl
nil-right (x ∷ xs) = ap (λ ys. x ∷ ys) (nil-right xs)

grows-tells : (o : Option journal.Event) (p : Option Event) (s : Setting) (what : whats.What) (c : Call) → Holds o p c → Holds o p (tells s what c)
grows-tells o p s what c h = grows o p c (tells s what c) _ [] refl (sym (nil-right c.node.lived)) h

grows-lives : (o : Option journal.Event) (p : Option Event) (s : Setting) (e : Event) (c : Call) → Holds o p c → Holds o p (lives s e c)
unfolding lives
grows-lives o p s e c h = grows o p c (lives s e c) (told_of (step s.group (state_of s c.node) e).state.moment (step s.group (state_of s c.node) e).report) (e ∷ []) refl refl h

grows-takes : (o : Option journal.Event) (p : Option Event) (s : Setting) (r : Record) (c : Call) → Holds o p c → Holds o p (takes s r c)
unfolding takes
grows-takes o p s r c h = let x = grows-lives o p s (event_of s r.body) c h in record { told = x.told; lived = x.lived }

grows-sends : (o : Option journal.Event) (p : Option Event) (s : Setting) (d : Datagram) (c : Call) (to : ℕ) → Holds o p c → Holds o p (sends s d c to)
unfolding sends
grows-sends o p s d c to h = let x = grows-tells o p s _ c h in record { told = x.told; lived = x.lived }

grows-signs : (o : Option journal.Event) (p : Option Event) (s : Setting) (b : Body) (c : Call) → Holds o p c → Holds o p (signs s b c)
unfolding signs
grows-signs o p s b c h =
    let x = grows-tells o p s (told.Spent c.node.stored.next b) c h in
    grows-takes o p s _ (spends s b c) (record { told = x.told; lived = x.lived })

pub growing : (o : Option journal.Event) (p : Option Event) (s : Setting) → Hands s AnyRecord (Holds o p)
growing o p s =
    joined s AnyRecord (Holds o p) (record {
      told = λ what c plain h. grows-tells o p s what c h;
      judged = λ r c any h. grows-tells o p s _ c h;
      sent = λ d c to h. grows-sends o p s d c to h;
      taken = λ r c any fine h. grows-takes o p s r c h;
      answered = λ r a c any fine is me may left h. grows-signs o p s _ (takes s r c) (grows-takes o p s r c h);
      returned = λ r a c any asks may left h. grows-signs o p s _ c h;
      accused = λ a c by left h. grows-signs o p s (Accusation a) c h;
      departed = λ c left h. grows-signs o p s (leaving s c.node.stored) c h;
      stopped = λ c h. let x = grows-tells o p s told.Stopped c h in record { told = x.told; lived = x.lived };
      passed = λ c h. grows-lives o p s Passes c h;
      probed = λ x c h. record { told = h.told; lived = h.lived };
      spanned = λ c h. record { told = h.told; lived = h.lived };
      spread = λ c h. record { told = h.told; lived = h.lived };
    })

-- ---- a step in which the disk stops

-- The second has spent no index, and lived no event, that the first hasn't.
pub record Within (c d : Call) : Type 0 where
  pub spent : (moment index : ℕ) (body : Body) → In d.told (record { moment = moment; what = told.Spent index body }) → In c.told (record { moment = moment; what = told.Spent index body })
  pub lived : (e : Event) → In d.node.lived e → In c.node.lived e

abbrev is_spent : whats.What → Bool
is_spent (told.Spent index body) = true
is_spent what = false

within-same : (c : Call) → Within c c
within-same c = record { spent = λ moment index body i. i; lived = λ e i. i }

within-then : (a b c : Call) → Within a b → Within b c → Within a c
within-then a b c h k = record { spent = λ moment index body i. h.spent moment index body (k.spent moment index body i); lived = λ e i. h.lived e (k.lived e i) }

clash : {b : Bool} → b ≡ true → b ≡ false → ⊥
clash e f = cc

within-tells : (s : Setting) (what : whats.What) (c : Call) → is_spent what ≡ false → Within c (tells s what c)
within-tells s what c other =
    record {
      spent = λ moment index body i.
          elim (In-append_cases c.told _ _ i) [
            | inl old ↦ old
            | inr (inl is) ↦ absurd (clash (ap (λ (e : journal.Event). is_spent e.what) is) other)
            | inr (inr none) ↦ absurd none
          ];
      lived = λ e i. i;
    }

within-stops : (s : Setting) (c : Call) → Within c (stops s c)
within-stops s c = let x = within-tells s told.Stopped c refl in record { spent = x.spent; lived = x.lived }

within-wants : (s : Setting) (body : Body) (addressees : State → List ℕ) (c : Call) → Within c (wants false s body addressees c)
unfolding wants
within-wants s body addressees c =
    cond_both (is_used_up s c.node) (tells s (told.Exhausted c.node.stored.next) c) (stops s c) (Within c) (λ up. within-tells s (told.Exhausted c.node.stored.next) c refl) (λ left. within-stops s c)

within-accusation : (s : Setting) (m : ℕ) (ring : Option ℕ) (c : Call) → Within c (wants_accusation false s m ring c)
within-accusation s m None c = within-same c
within-accusation s m (Some ring) c = within-wants s (accusation_on s (state_of s c.node) m ring) (neighbours_and s m) c

within-accuses : (s : Setting) (c : Call) (m : ℕ) → Within c (accuses false s c m)
unfolding accuses
within-accuses s c m =
    let c1 : Call = tells s (told.Silent m) c in
    let ring : Option ℕ = ring_for s (state_of s c.node) m in
    cond_both (has_accused s (state_of s c.node) m) c (wants_accusation false s m ring c1) (Within c)
    (λ yes. within-same c) (λ no. within-then c c1 (wants_accusation false s m ring c1) (within-tells s (told.Silent m) c refl) (within-accusation s m ring c1))

within-gives_note : (s : Setting) (note : Option NoteBody) (c : Call) → Within c (gives_note false s note c)
within-gives_note s None c = within-same c
within-gives_note s (Some note) c = within-wants s (Note note) (neighbours s) c

-- ---- the whole call behind it

-- What has grown of a call has what it had.
within-grown : (c d : Call) → ((o : Option journal.Event) (p : Option Event) → Holds o p c → Holds o p d) → Within d c
within-grown c d grow =
    record {
      spent = λ moment index body i.
          let e : journal.Event = record { moment = moment; what = told.Spent index body } in
          (grow (Some e) None (record { told = λ x is. subst (In c.told) (some-is _ _ is) i; lived = λ x none. never _ none })).told e refl;
      lived = λ e i. (grow None (Some e) (record { told = λ x none. never _ none; lived = λ x is. subst (In c.node.lived) (some-is _ _ is) i })).lived e refl;
    }
  where
    some-is : {X : Type 0} (x y : X) → Some x ≡ Some y → x ≡ y
    some-is x y e = cc

    never : {X A : Type 0} (x : X) → None ≡ Some x → A
    never x e = cc

grown-gives_note : (s : Setting) (o : Option journal.Event) (p : Option Event) (note : Option NoteBody) (c : Call) → Holds o p c → Holds o p (gives_note true s note c)
grown-gives_note s o p None c h = h
grown-gives_note s o p (Some note) c h =
    hands-wants s AnyRecord (Holds o p) (growing o p s) true (Note note) (neighbours s) c h (λ left. grows-signs o p s (Note note) c h)

within-judged : (s : Setting) (fault : Option Fault) (r : Record) (c : Call) → Within (judged true s fault r c) (judged false s fault r c)
within-judged s fault r c =
    let t : Call = settles s fault r c in
    let note : Option NoteBody = asked_with s c.node fault r.body r in
    within-then (gives_note true s note t) t (gives_note false s note t)
    (within-grown t (gives_note true s note t) (λ o p h. grown-gives_note s o p note t h)) (within-gives_note s note t)

within-handles : (s : Setting) (c : Call) (r : Record) → Within (handles true s c r) (handles false s c r)
unfolding handles
within-handles s c r = within-judged s (refusal s c.node r) r c

-- The list up to a place, what stands there, and what is behind it.
pub split-at : {X : Type 0} (xs : List X) (place : ℕ) (x : X) → slice_get xs place ≡ Some x → (behind : List X) × (xs ≡ take place xs ++ x ∷ behind)
split-at [] place x e = cc
split-at (y ∷ ys) zero x e = (ys, ap (λ z. z ∷ ys) (first y x e))
  where
    first : {Y : Type 0} (a b : Y) → Some a ≡ Some b → a ≡ b
    first a b e = cc
split-at (y ∷ ys) (suc place) x e = let r = split-at ys place x e in (r.0, ap (λ zs. y ∷ zs) r.1)

handles-append : (s : Setting) (xs ys : List Record) (c : Call) → handles_all s (xs ++ ys) c ≡ handles_all s ys (handles_all s xs c)
handles-append s [] ys c = refl
handles-append s (x ∷ xs) ys c = handles-append s xs ys (handles true s c x)

accuses-append : (s : Setting) (xs ys : List ℕ) (c : Call) → accuses_all s (xs ++ ys) c ≡ accuses_all s ys (accuses_all s xs c)
accuses-append s [] ys c = refl
accuses-append s (x ∷ xs) ys c = accuses-append s xs ys (accuses true s c x)

within-all : (s : Setting) (records : List Record) (place : ℕ) (r : Record) (c : Call) → slice_get records place ≡ Some r → Within (handles_all s records c) (handles false s (handles_all s (take place records) c) r)
within-all s records place r c at =
    let split = split-at records place r at in
    let front : Call = handles_all s (take place records) c in
    let here : Call = handles true s front r in
    subst (λ (x : Call). Within x (handles false s front r)) (sym (ap (λ rs. handles_all s rs c) split.1 ∙ handles-append s (take place records) (r ∷ split.0) c))
    (within-then (handles_all s split.0 here) here (handles false s front r)
    (within-grown here (handles_all s split.0 here) (λ o p h. hands-handles_all s AnyRecord (Holds o p) (growing o p s) split.0 here (λ x i. tt) h))
    (within-handles s front r))

within-accused : (s : Setting) (silent : List ℕ) (place m : ℕ) (c : Call) → slice_get silent place ≡ Some m → Within (accuses_all s silent c) (accuses false s (accuses_all s (take place silent) c) m)
within-accused s silent place m c at =
    let split = split-at silent place m at in
    let front : Call = accuses_all s (take place silent) c in
    subst (λ (x : Call). Within x (accuses false s front m)) (sym (ap (λ ms. accuses_all s ms c) split.1 ∙ accuses-append s (take place silent) (m ∷ split.0) c))
    (within-then (accuses_all s (m ∷ split.0) front) front (accuses false s front m)
    (within-grown front (accuses_all s (m ∷ split.0) front) (λ o p h. hands-accuses_all s AnyRecord (Holds o p) (growing o p s) (m ∷ split.0) front h))
    (within-accuses s front m))

within-delivered : (s : Setting) (n : Node) (bytes : List ℕ) (c : Call) → IsCutAnswering s n bytes c → Within (delivered s n bytes) c
unfolding delivered delivered_until
within-delivered s n bytes c cut =
    subst (λ (x : Call). Within x c) (sym (ap (λ heard. hears s heard (begun n)) cut.read))
    (subst (Within (handles_all s cut.records (begun n))) (sym cut.is) (within-all s cut.records cut.place cut.at (begun n) cut.found))

none-silent : (s : Setting) (n : Node) (place m : ℕ) → slice_get (silent_at s n) place ≡ Some m → is_due s (state_of s (passed s n).node) ≡ false → ⊥
unfolding silent_at
none-silent s n place m at never = gone place (sym (ap (λ b. slice_get (cond b (silent (passed s n).node.probes (watched_by s (state_of s (passed s n).node))) []) place) never) ∙ at)
  where
    gone : (k : ℕ) → slice_get [] k ≡ Some m → ⊥
    gone k e = cc

within-ticked : (s : Setting) (n : Node) (c : Call) → IsCutAccusing s n c → Within (ticked s n) c
unfolding ticked ticked_until spread_at due_tick silent_at
within-ticked s n c cut =
    let p : Node = (passed s n).node in
    let st : State = state_of s p in
    let silent : List ℕ = silent_in s p st in
    let sent : List (ℕ × ℕ) = pings_in s p st in
    let d : Call = accuses_all s silent (spread_at s n) in
    let whole : Call = due_tick s silent sent (round_of s st) (probed_at s n) in
    subst (Within (ticked s n)) (sym cut.is)
    (cond_both (is_due s st) whole (probed_at s n) (λ (x : Call). Within x (ticked_until s n (take cut.place (silent_at s n)) cut.at))
    (λ due. within-then whole d _ (within-grown d whole (λ o p h. hands-gossips s AnyRecord (Holds o p) (growing o p s) (round_of s st) sent d h)) (within-accused s silent cut.place cut.at (spread_at s n) cut.found))
    (λ never. absurd (none-silent s n cut.place cut.at cut.found never)))

within-leaves : (s : Setting) (c : Call) → Within c (leaves false s c)
unfolding leaves
within-leaves s c = within-wants s (leaving s c.node.stored) (neighbours s) c

within-left : (s : Setting) (n : Node) (c : Call) → IsCutLeaving s n c → Within (left s n) c
unfolding left left_until
within-left s n c cut =
    let first : Call = begun n in
    subst (Within (left s n)) (sym cut.is)
    (within-then (leaves true s first) first (leaves false s first)
    (within-grown first (leaves true s first) (λ o p h. hands-leaves s AnyRecord (Holds o p) (growing o p s) true first h)) (within-leaves s first))

-- A call over a disk has come to nothing that the node's call doesn't.
pub within-whole : (s : Setting) (n : Node) (i : Input) (c : Call) → ComesSoFar s n i c → Within (call_of s n i) c
within-whole s n (Delivers bytes) c (inl whole) = subst (Within (delivered s n bytes)) (sym whole.is) (within-same (delivered s n bytes))
within-whole s n (Delivers bytes) c (inr cut) = within-delivered s n bytes c cut
within-whole s n Ticks c (inl whole) = subst (Within (ticked s n)) (sym whole.is) (within-same (ticked s n))
within-whole s n Ticks c (inr cut) = within-ticked s n c cut
within-whole s n Leaves c (inl whole) = subst (Within (left s n)) (sym whole.is) (within-same (left s n))
within-whole s n Leaves c (inr cut) = within-left s n c cut
