-- Where a call spends an index on an accusation, the accusation comes into the life in that call.
use Rattle.std.proofs.Common.{◌≡◌, ℕ, ◌≤◌, Bool, true, false, List, [], ◌∷◌, ◌++◌, length, filter, Some, None, inl, inr, refl, ap, sym, ◌∙◌, subst, arith, length-append}
use Rattle.std.specs.List.{slice_get}
use Rattle.std.proofs.lemmas.Bool.{false≢true}
use Rattle.ff_ids.specs.declared.AccBody.{AccBody}
use Rattle.ff_ids.specs.Steps.{Event, Accuses, Ticks as Passes, step}
use Rattle.life_laws.proofs.Lists.{In, In-append_cases, In-filter}
use Rattle.records.specs.declared.Body.{Body}
use Rattle.records.specs.declared.Body.TheVariants.{Accusation, Note}
use Rattle.records.specs.declared.Record.{Record}
use Rattle.datagram.specs.declared.Datagram.{Datagram}
use Rattle.journal.specs.declared.event.Event as journal
use Rattle.journal.specs.declared.event.What as whats
use Rattle.journal.specs.declared.event.What.TheVariants as happened
use Rattle.node_rules.specs.Nodes.{Setting, Node, state_of, event_of}
use Rattle.node_rules.specs.Calls.{Call, lives, takes, tells, spends, signs, sends, told_of}
use Rattle.node_rules.specs.Deliveries.{answer_to, returning_note}
use Rattle.node_rules.specs.Leaving.{leaving}
use Rattle.node_rules.specs.Lives.{Input, is_of_life}
use Rattle.node_rules.proofs.Handling.{nil-right, unlived}
use Rattle.world_rules.specs.Disks.{Disk}
use Rattle.world_rules.specs.Calls.{called_on}
use Rattle.world_laws.proofs.Handing.{AnyRecord, Hands, any-handed, accepts, hands-called, is_plain}
use Rattle.world_laws.proofs.InWorlds.{get-front}

-- The accusation stands in the life, at this place or behind it.
pub record Came (low : ℕ) (c : Call) (a : AccBody) : Type 0 where
  pub place : ℕ
  pub since : low ≤ place
  pub there : slice_get c.node.lived place ≡ Some (Accuses a)

-- The life has this length at least; and each accusation on which an index is spent has come in.
record Brings (low : ℕ) (c : Call) : Type 0 where
  longer : low ≤ length c.node.lived
  came : (moment index : ℕ) (a : AccBody) → In c.told (record { moment = moment; what = happened.Spent index (Accusation a) }) → Came low c a

abbrev is_spent : whats.What → Bool
is_spent (happened.Spent index body) = true
is_spent what = false

came-later : (low : ℕ) (c d : Call) (events : List Event) (a : AccBody) → d.node.lived ≡ c.node.lived ++ events → Came low c a → Came low d a
came-later low c d events a lived h =
    record {
      place = h.place;
      since = h.since;
      there = subst (λ (es : List Event). slice_get es h.place ≡ Some (Accuses a)) (sym lived) (get-front c.node.lived events h.place (Accuses a) h.there);
    }

brings-more : (low : ℕ) (c d : Call) (news : List journal.Event) (events : List Event) → d.told ≡ c.told ++ news → d.node.lived ≡ c.node.lived ++ events
    → ((moment index : ℕ) (a : AccBody) → In news (record { moment = moment; what = happened.Spent index (Accusation a) }) → Came low d a) → Brings low c → Brings low d
brings-more low c d news events told lived new h =
    record {
      longer = omega (arith, h.longer, ap length lived, length-append c.node.lived events);
      came = λ moment index a i.
          elim (In-append_cases c.told news (record { moment = moment; what = happened.Spent index (Accusation a) }) (subst (λ (es : List journal.Event). In es (record { moment = moment; what = happened.Spent index (Accusation a) })) told i)) [
            | inl old ↦ came-later low c d events a lived (h.came moment index a old)
            | inr here ↦ new moment index a here
          ];
    }

-- Nothing is spent in what is reported.
none-spent : (news : List journal.Event) → filter (λ (e : journal.Event). is_spent e.what) news ≡ [] → (moment index : ℕ) (a : AccBody) → In news (record { moment = moment; what = happened.Spent index (Accusation a) }) → ⊥
none-spent news none moment index a i =
    subst (λ (es : List journal.Event). In es (record { moment = moment; what = happened.Spent index (Accusation a) })) none (In-filter (λ (e : journal.Event). is_spent e.what) news (record { moment = moment; what = happened.Spent index (Accusation a) }) i refl)

brings-tells : (s : Setting) (low : ℕ) (what : whats.What) (c : Call) → is_spent what ≡ false → Brings low c → Brings low (tells s what c)
brings-tells s low what c other h =
    brings-more low c (tells s what c) (record { moment = (state_of s c.node).moment; what = what } ∷ []) [] refl (sym (nil-right c.node.lived))
    (λ moment index a i. absurd (none-spent (record { moment = (state_of s c.node).moment; what = what } ∷ []) (passed_over (state_of s c.node).moment what other) moment index a i)) h
  where
    passed_over : (moment : ℕ) (w : whats.What) → is_spent w ≡ false → filter (λ (e : journal.Event). is_spent e.what) (record { moment = moment; what = w } ∷ []) ≡ []
    passed_over moment w h = cc

life-spent : (what : whats.What) → is_of_life what ≡ true → is_spent what ≡ false
life-spent (happened.Spent index body) h = absurd (false≢true h)
life-spent _ h = refl

brings-lives : (s : Setting) (low : ℕ) (e : Event) (c : Call) → Brings low c → Brings low (lives s e c)
unfolding lives
brings-lives s low e c h =
    let news : List journal.Event = told_of (step s.group (state_of s c.node) e).state.moment (step s.group (state_of s c.node) e).report in
    brings-more low c (lives s e c) news (e ∷ []) refl refl (λ moment index a i. absurd (none-spent news (unlived is_spent s e c life-spent) moment index a i)) h

brings-takes : (s : Setting) (low : ℕ) (r : Record) (c : Call) → Brings low c → Brings low (takes s r c)
unfolding takes
brings-takes s low r c h = let x = brings-lives s low (event_of s r.body) c h in record { longer = x.longer; came = λ moment index a i. let y = x.came moment index a i in record { place = y.place; since = y.since; there = y.there } }

at-end : (events : List Event) (e : Event) → slice_get (events ++ e ∷ []) (length events) ≡ Some e
at-end [] e = refl
at-end (x ∷ events) e = at-end events e

-- What is signed comes in behind the life so far.
brings-signs : (s : Setting) (low : ℕ) (body : Body) (c : Call) → Brings low c → Brings low (signs s body c)
unfolding signs takes lives
brings-signs s low body c h =
    let e : Event = event_of s body in
    let d : Call = spends s body c in
    let first : journal.Event = record { moment = (state_of s c.node).moment; what = happened.Spent c.node.stored.next body } in
    let report : List journal.Event = told_of (step s.group (state_of s d.node) e).state.moment (step s.group (state_of s d.node) e).report in
    brings-more low c (signs s body c) (first ∷ report) (e ∷ []) (assoc c.told first report) refl
    (λ moment index a i. elim i [
      | inl is ↦
          record {
            place = length c.node.lived;
            since = h.longer;
            there = at-end c.node.lived e ∙ ap (λ b. Some (event_of s b)) (spent-body body (Accusation a) c.node.stored.next index (ap (λ (x : journal.Event). x.what) is));
          }
      | inr later ↦ absurd (none-spent report (unlived is_spent s e d life-spent) moment index a later)
    ]) h
  where
    assoc : (xs : List journal.Event) (x : journal.Event) (ys : List journal.Event) → (xs ++ x ∷ []) ++ ys ≡ xs ++ x ∷ ys
    assoc [] x ys = refl
    assoc (z ∷ xs) x ys = ap (λ es. z ∷ es) (assoc xs x ys)

    spent-body : (b d : Body) (i j : ℕ) → happened.Spent i b ≡ happened.Spent j d → b ≡ d
    spent-body b d i j e = cc

brings-sends : (s : Setting) (low : ℕ) (d : Datagram) (c : Call) (to : ℕ) → Brings low c → Brings low (sends s d c to)
unfolding sends
brings-sends s low d c to h = let x = brings-tells s low _ c refl h in record { longer = x.longer; came = λ moment index a i. let y = x.came moment index a i in record { place = y.place; since = y.since; there = y.there } }

plain-spent : (what : whats.What) → is_plain what ≡ true → is_spent what ≡ false
plain-spent (happened.Spent index body) h = absurd (false≢true h)
plain-spent _ h = refl

bringing : (s : Setting) (low : ℕ) → Hands s AnyRecord (Brings low)
bringing s low =
    record {
      told = λ what c plain h. brings-tells s low what c (plain-spent what plain) h;
      refused = λ r fault c any e h. brings-tells s low (happened.Took r.body (Some fault)) c refl h;
      sent = λ d c to h. brings-sends s low d c to h;
      accepted = λ r c any fine h. brings-takes s low r (tells s (happened.Took r.body None) c) (brings-tells s low (happened.Took r.body None) c refl h);
      answered = λ r a c any fine is me may left h. brings-signs s low (answer_to s (accepts s r c).node.stored a) (accepts s r c) (brings-takes s low r (tells s (happened.Took r.body None) c) (brings-tells s low (happened.Took r.body None) c refl h));
      returned = λ r a c any asks may left h. brings-signs s low (Note (returning_note s c.node.stored)) c h;
      accused = λ a c by left h. brings-signs s low (Accusation a) c h;
      departed = λ c left h. brings-signs s low (leaving s c.node.stored) c h;
      stopped = λ c h. let x = brings-tells s low happened.Stopped c refl h in record { longer = x.longer; came = λ moment index a i. let y = x.came moment index a i in record { place = y.place; since = y.since; there = y.there } };
      passed = λ c h. brings-lives s low Passes c h;
      probed = λ p c h. record { longer = h.longer; came = λ moment index a i. let y = h.came moment index a i in record { place = y.place; since = y.since; there = y.there } };
      spanned = λ c h. record { longer = h.longer; came = λ moment index a i. let y = h.came moment index a i in record { place = y.place; since = y.since; there = y.there } };
      spread = λ c h. record { longer = h.longer; came = λ moment index a i. let y = h.came moment index a i in record { place = y.place; since = y.since; there = y.there } };
    }

pub came-called : (s : Setting) (n : Node) (i : Input) (d : Disk) (moment index : ℕ) (a : AccBody) → In (called_on s n i d).call.told (record { moment = moment; what = happened.Spent index (Accusation a) }) → Came (length n.lived) (called_on s n i d).call a
came-called s n i d moment index a among =
    (hands-called s AnyRecord (Brings (length n.lived)) (bringing s (length n.lived)) n i d (any-handed i) (record { longer = omega arith; came = λ moment index a none. absurd none })).came moment index a among
