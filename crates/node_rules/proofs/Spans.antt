-- The epoch of a node's note rises in a span by no more than the option's bound.
use Rattle.std.proofs.Common.{◌≡◌, ◌⊎◌, ℕ, ◌+◌, ◌≤◌, ◌<◌, true, false, eqb, inl, inr, List, [], ◌∷◌, ◌++◌, Option, Some, None, refl, ap, sym, ◌∙◌, subst, arith, eq-eqb}
use Rattle.std.specs.Prelude.{◌||◌, nat_lt, fold}
use Rattle.std.specs.List.{list_any}
use Rattle.std.proofs.lemmas.Bool.{false≢true, or_left, or_right, and_from}
use Rattle.std.proofs.lemmas.Bool.Decides.{nat_tests}
use Rattle.std.proofs.lemmas.List.Folds.{list_any-append}
use Rattle.ff_ids.specs.declared.AccBody.{AccBody}
use Rattle.ff_ids.specs.declared.NoteBody.{NoteBody}
use Rattle.ff_ids.specs.Heals.{Heal}
use Rattle.ff_ids.specs.Steps.{Event, Notes, Ticks}
use Rattle.records.specs.declared.Body.TheVariants.{Note, Accusation}
use Rattle.records.specs.declared.Record.{Record}
use Rattle.epoch_store.specs.declared.Stored.{Stored}
use Rattle.datagram.specs.declared.Datagram.{Datagram}
use Rattle.node_rules.specs.Nodes.{Setting, Node, event_of}
use Rattle.node_rules.specs.Calls.{Call, begun, lives, takes, signs, sends}
use Rattle.node_rules.specs.Deliveries.{returning_note, may_rise}
use Rattle.node_rules.specs.Leaving.{leaving, leaving_note}
use Rattle.node_rules.specs.Starting.{blank, opened, started}
use Rattle.node_rules.specs.Lives.{Input, call_of, after_calls, life_of}
use Rattle.node_rules.specs.Spans.{is_own_leaving, has_left}
use Rattle.node_rules.proofs.Keeping.{Keeps, keeps-call}

-- It has risen by no more, or the node has left.
abbrev WithinBy : Setting → ℕ → List Event → ℕ → ℕ → Type 0
WithinBy s most lived epoch since = (epoch ≤ since + most) ⊎ (list_any (is_own_leaving s) lived ≡ true)

abbrev Within : Setting → ℕ → Node → Type 0
Within s most n = WithinBy s most n.lived n.stored.epoch n.since

longer : (s : Setting) (most epoch since : ℕ) (lived more : List Event) → WithinBy s most lived epoch since → WithinBy s most (lived ++ more) epoch since
longer s most epoch since lived more (inl few) = inl few
longer s most epoch since lived more (inr gone) = inr (list_any-append (is_own_leaving s) lived more ∙ or_left _ _ gone)

within-lives : (s : Setting) (most : ℕ) (e : Event) (c : Call) → Within s most c.node → Within s most (lives s e c).node
unfolding lives
within-lives s most e c h = longer s most c.node.stored.epoch c.node.since c.node.lived (e ∷ []) h

within-takes : (s : Setting) (most : ℕ) (r : Record) (c : Call) → Within s most c.node → Within s most (takes s r c).node
unfolding takes lives
within-takes s most r c h = longer s most c.node.stored.epoch c.node.since c.node.lived (event_of s r.body ∷ []) h

within-sends : (s : Setting) (most : ℕ) (d : Datagram) (c : Call) (to : ℕ) → Within s most c.node → Within s most (sends s d c to).node
unfolding sends
within-sends s most d c to h = h

-- a note of the next epoch, where the epoch may rise
rises : (heal : Option Heal) (h : Heal) (n : Node) → heal ≡ Some h → 0 < h.most → may_rise heal n ≡ true → n.stored.epoch + 1 ≤ n.since + h.most
rises None h n is some may = cc
rises (Some x) h n is some may =
    let same : x.most ≡ h.most = most-is x h is in
    below x.most n.stored.epoch n.since h.most same some may
  where
    most-is : (x h : Heal) → Some x ≡ Some h → x.most ≡ h.most
    most-is x h e = ap (λ (o : Option Heal). most-of o) e
      where
        most-of : Option Heal → ℕ
        most-of None = 0
        most-of (Some y) = y.most

    below : (most epoch since bound : ℕ) → most ≡ bound → 0 < bound → (eqb most 0 || nat_lt epoch (since + most)) ≡ true → epoch + 1 ≤ since + bound
    below most epoch since bound same some may = grind (arith, nat_tests, same, some, may)

within-noted : (s : Setting) (most : ℕ) (note : NoteBody) (c : Call) → note.epoch ≤ c.node.since + most → Within s most (signs s (Note note) c).node
unfolding signs takes lives
within-noted s most note c le = inl le

within-departs : (s : Setting) (most : ℕ) (c : Call) → Within s most (signs s (leaving s c.node.stored) c).node
unfolding signs takes lives
within-departs s most c =
    let gone : is_own_leaving s (Notes (leaving_note s c.node.stored)) ≡ true = and_from _ _ (eq-eqb s.me s.me refl) refl in
    inr (list_any-append (is_own_leaving s) c.node.lived (Notes (leaving_note s c.node.stored) ∷ [])
    ∙ or_right _ _ (or_left _ _ gone))

within-accuses : (s : Setting) (most : ℕ) (a : AccBody) (c : Call) → Within s most c.node → Within s most (signs s (Accusation a) c).node
unfolding signs takes lives
within-accuses s most a c h = longer s most c.node.stored.epoch c.node.since c.node.lived (event_of s (Accusation a) ∷ []) h

since-takes : (s : Setting) (r : Record) (c : Call) → ((takes s r c).node.since ≡ c.node.since) × ((takes s r c).node.stored ≡ c.node.stored)
unfolding takes lives
since-takes s r c = (refl, refl)

keeping : (s : Setting) (h : Heal) → s.heal ≡ Some h → 0 < h.most → Keeps s (λ c. Within s h.most c.node)
keeping s h is some =
    record {
      told = λ what c other w. w;
      sent = λ d c to w. within-sends s h.most d c to w;
      taken = λ r c fine w. within-takes s h.most r c w;
      answered = λ r a c fine says me may left w.
          let same = since-takes s r c in
          within-noted s h.most _ (takes s r c)
          (subst (λ k. k.epoch + 1 ≤ (takes s r c).node.since + h.most) (sym same.1)
          (subst (λ x. c.node.stored.epoch + 1 ≤ x + h.most) (sym same.0) (rises s.heal h c.node is some may)));
      returned = λ r a c asks may left w. within-noted s h.most (returning_note s c.node.stored) c (rises s.heal h c.node is some may);
      accused = λ a c by left w. within-accuses s h.most a c w;
      departed = λ c left w. within-departs s h.most c;
      stopped = λ c w. w;
      passed = λ c w. within-lives s h.most Ticks c w;
      probed = λ p c w. w;
      spanned = λ c w. inl (more c.node.stored.epoch h.most);
      spread = λ c w. w;
    }
  where
    more : (epoch most : ℕ) → epoch ≤ epoch + most
    more epoch most = omega arith

within-calls : (s : Setting) (h : Heal) (n : Node) (inputs : List Input) → s.heal ≡ Some h → 0 < h.most → Within s h.most n → Within s h.most (after_calls s n inputs)
within-calls s h n [] is some w = w
within-calls s h n (i ∷ inputs) is some w =
    within-calls s h (call_of s n i).node inputs is some (keeps-call s (λ c. Within s h.most c.node) (keeping s h is some) n i w)

-- ---- the start

abbrev takes_all : Setting → List Record → Call → Call
takes_all s records c = fold (λ c r. takes s r c) c records

since-takes_all : (s : Setting) (records : List Record) (c : Call)
    → ((takes_all s records c).node.since ≡ c.node.since) × ((takes_all s records c).node.stored ≡ c.node.stored)
since-takes_all s [] c = (refl, refl)
since-takes_all s (r ∷ records) c =
    let here = since-takes s r c in
    let later = since-takes_all s records (takes s r c) in
    (later.0 ∙ here.0, later.1 ∙ here.1)

within-started : (s : Setting) (most : ℕ) (nonces : ℕ → ℕ) (certificates : List Record) (stored : Stored) → Within s most (started s nonces certificates stored).node
unfolding started signs takes lives
within-started s most nonces certificates stored =
    let same = since-takes_all s certificates (begun (blank s nonces stored)) in
    inl (first (opened s nonces certificates stored).node.since stored.epoch most same.0)
  where
    first : (since epoch most : ℕ) → since ≡ epoch + 1 → epoch + 1 ≤ since + most
    first since epoch most is = omega (arith, is)

pub epochs-bounded : (s : Setting) (heal : Heal) (nonces : ℕ → ℕ) (certificates : List Record) (stored : Stored) (inputs : List Input)
    → s.heal ≡ Some heal → 0 < heal.most → has_left s (life_of s nonces certificates stored inputs) ≡ false
    → (life_of s nonces certificates stored inputs).stored.epoch ≤ (life_of s nonces certificates stored inputs).since + heal.most
epochs-bounded s heal nonces certificates stored inputs is some stays =
    by (within-calls s heal (started s nonces certificates stored).node inputs is some (within-started s heal.most nonces certificates stored))
  where
    by : Within s heal.most (life_of s nonces certificates stored inputs) → (life_of s nonces certificates stored inputs).stored.epoch ≤ (life_of s nonces certificates stored inputs).since + heal.most
    by (inl few) = few
    by (inr gone) = absurd (false≢true (sym stays ∙ gone))
