-- What goes out at a tick, and what is reported of its accusations.
use Rattle.std.proofs.Common.{◌≡◌, ℕ, zero, suc, ◌+◌, ◌≤◌, Bool, true, false, cond, not, eqb, List, [], ◌∷◌, ◌++◌, Option, Some, None, filter, map, inl, inr, refl, ap, sym, ◌∙◌, subst, arith}
use Rattle.std.specs.Prelude.{find, option_map, unwrap_or}
use Rattle.std.specs.List.{list_any, range_with_len}
use Rattle.std.proofs.lemmas.Bool.{cond_both, cases_Bool, eqb-true, not-true, and_parts}
use Rattle.std.proofs.lemmas.Bool.Decides.{nat_tests}
use Rattle.std.proofs.lemmas.List.{append_assoc}
use Rattle.ff_ids.specs.declared.AccBody.{AccBody}
use Rattle.ff_ids.specs.Masks.{ring_count}
use Rattle.ff_ids.specs.Views.{State, all_numbers, monitor, is_number}
use Rattle.ff_ids.specs.Faults.{facts_of, accusation_fault}
use Rattle.ff_ids.proofs.FaultLemmas.{passes}
use Rattle.ff_ids.specs.Steps.{Ticks, with_kept, precedes, after_accusation}
use Rattle.membership.proofs.NumberLemmas.{all_length}
use Rattle.life_laws.proofs.Lists.{In, In-from_Contains, Contains-from_In, In-filter, In-from_filter, In-append_left, In-append_cases}
use Rattle.detector.specs.declared.watch.Watched.{Watched}
use Rattle.detector.specs.Watching.{is_watched, as_watched}
use Rattle.detector.specs.Silence.{is_silent}
use Rattle.records.specs.declared.Body.{Body}
use Rattle.records.specs.declared.Body.TheVariants.{Accusation}
use Rattle.records.specs.declared.Record.{Record}
use Rattle.epoch_store.specs.declared.Stored.{Stored}
use Rattle.datagram.specs.declared.Datagram.{Datagram}
use Rattle.datagram.specs.declared.Datagram.TheVariants as kinds
use Rattle.datagram.specs.Spelling.{datagram_bytes}
use Rattle.journal.specs.declared.event.Event as journal
use Rattle.journal.specs.declared.event.What as whats
use Rattle.journal.specs.declared.event.What.TheVariants as told
use Rattle.node_rules.specs.Nodes.{Setting, Node, state_of, neighbours_and, neighbours}
use Rattle.node_rules.specs.Pages.{page, partner, page_number}
use Rattle.node_rules.specs.Calls.{Call, begun, tells, lives, signs, wants, stops, sends, is_used_up}
use Rattle.node_rules.specs.Ticking.{ring_for, accusation_on, is_by, has_accused, accuses, accuses_all, fresh, spreads_all, spreads, is_due, silent_in, pings_in, round_of, pings_all, summary_to, passed, probed_at, spread_at, due_tick, ticked, silent_at}
use Rattle.node_rules.specs.Leaving.{leaving, leaves, left}
use Rattle.node_rules.specs.Lives.{Input, Delivers, Ticks as Tick, Leaves, call_of}
use Rattle.node_rules.specs.Verdicts.{all_at, told_that, is_apart}
use Rattle.node_rules.specs.Answering.{to_each}
use Rattle.node_rules.specs.Accusing.{MayAccuse, AccusesTheSilent, TellsAccusation}
use Rattle.node_rules.specs.Stopping.{StopsBehind}
use Rattle.node_rules.specs.OnRings.{Rises}
use Rattle.node_rules.specs.Outgoing.{at_tick, to_accuse, accusation_of, accusation_by, accusations_out, news_in, news_out, pings_out, summary_out, goes_out, unaccused, accusing_told}
use Rattle.node_rules.proofs.Called.{ticked_until}
use Rattle.node_rules.proofs.Small.{node-sends, state-signs, stored-signs, stored-spreads}
use Rattle.node_rules.proofs.Accusations.{is_at, OnlyKept, own_accusation, may_accuse, lively, accuses-is, is-monitor, step-accused, only_kept-accuses, only_kept-more, state-probed, state-spread, silent-watched}
use Rattle.node_rules.proofs.RingLemmas.{rises-lower}
use Rattle.node_rules.proofs.Handling.{nil-right, IsOver, apart-over, all_at-append, in-all_at, accuses-nobody, wants-failing, picked, picked-append, that-tells, that-lives, that-sends, that-sends_to_all, that-wants, sent-sends_to_all, sent-wants, node-wants}

-- ---- in rising order

rises-above : (low : ℕ) (xs : List ℕ) (x : ℕ) → Rises low xs → In xs x → low ≤ x
rises-above low [] x h i = absurd i
rises-above low (y ∷ ys) x h (inl e) = omega (arith, e, h.0)
rises-above low (y ∷ ys) x h (inr i) = omega (arith, h.0, rises-above (y + 1) ys x h.1 i)

-- the numbers of those that pass, of a range
rises-picked : (g : ℕ → Watched) (f : Watched → Bool) (w : ℕ → Bool) → ((m : ℕ) → (g m).member ≡ m) → (a n : ℕ) → Rises a (map (λ (x : Watched). x.member) (filter f (map g (filter w (range_with_len a n)))))
rises-picked g f w same a zero = tt
rises-picked g f w same a (suc n) =
    let rest : List ℕ = filter w (range_with_len (a + 1) n) in
    let later : Rises (a + 1) (map (λ (x : Watched). x.member) (filter f (map g rest))) = rises-picked g f w same (a + 1) n in
    let lower : Rises a (map (λ (x : Watched). x.member) (filter f (map g rest))) = rises-lower (a + 1) a _ (omega arith) later in
    cond_both (w a) (a ∷ rest) rest (λ xs. Rises a (map (λ (x : Watched). x.member) (filter f (map g xs))))
    (λ yes. cond_both (f (g a)) (g a ∷ filter f (map g rest)) (filter f (map g rest)) (λ xs. Rises a (map (λ (x : Watched). x.member) xs))
    (λ both. first a (g a).member (map (λ (x : Watched). x.member) (filter f (map g rest))) (same a) later) (λ no. lower))
    (λ no. lower)
  where
    first : (a x : ℕ) (xs : List ℕ) → x ≡ a → Rises (a + 1) xs → Rises a (x ∷ xs)
    first a x xs e h = (omega (arith, e), subst (λ k. Rises (k + 1) xs) (sym e) h)

pub rises-silent : (s : Setting) (n : Node) (st : State) → Rises 0 (silent_in s n st)
rises-silent s n st =
    let f : Watched → Bool = is_silent n.probes in
    let w : ℕ → Bool = is_watched s.group.t st s.me in
    cond_both (is_due s st) (map (λ (x : Watched). x.member) (filter f (map (as_watched st) (filter w all_numbers)))) [] (Rises 0)
    (λ due. subst (λ xs. Rises 0 (map (λ (x : Watched). x.member) (filter f (map (as_watched st) (filter w xs))))) (sym all_length.1.are) (rises-picked (as_watched st) f w (λ m. refl) 0 all_length.0))
    (λ never. tt)

-- ---- what an accusation leaves of what is kept against others

find-with_kept : (q : AccBody × ℕ → Bool) (p : AccBody × ℕ) (xs : List (AccBody × ℕ)) → q p ≡ false → find q (with_kept p xs) ≡ find q xs
find-with_kept q p [] h = rw h refl
find-with_kept q p (x ∷ xs) h =
    cond_both (precedes x.0 p.0) (x ∷ with_kept p xs) (p ∷ x ∷ xs) (λ ys. find q ys ≡ find q (x ∷ xs))
    (λ yes. ap (λ (o : Option (AccBody × ℕ)). cond (q x) (Some x) o) (find-with_kept q p xs h))
    (λ no. rw h refl)

same_any : (p q : ℕ → Bool) (xs : List ℕ) → ((x : ℕ) → p x ≡ q x) → list_any p xs ≡ list_any q xs
same_any p q [] h = refl
same_any p q (x ∷ xs) h = rw (h x, same_any p q xs h) refl

accused-still : (s : Setting) (st : State) (a : AccBody) (m : ℕ) → eqb a.accused m ≡ false → has_accused s (after_accusation st a) m ≡ has_accused s st m
accused-still s st a m other =
    same_any _ _ (range_with_len 0 (ring_count s.group.t))
    (λ ring. ap (λ (o : Option (AccBody × ℕ)). is_by s.me (option_map (λ p. p.0) o)) (find-with_kept (is_at m ring) (a, st.moment) st.kept (rw other refl)))

-- ---- one member is accused

-- The call has come to a state in which nothing but what is kept differs from the tick's, and which says of each of
-- these, in order, what that says.
pub record Stands (s : Setting) (st : State) (c : Call) (low : ℕ) (ms : List ℕ) : Type 0 where
  pub state : OnlyKept st (state_of s c.node)
  pub same : (m : ℕ) → In ms m → has_accused s (state_of s c.node) m ≡ has_accused s st m
  pub watched : (m : ℕ) → In ms m → is_watched s.group.t st s.me m ≡ true
  pub rises : Rises low ms

-- the accusation that is wanted, which is on the ring that was found
pub record Wants (s : Setting) (st : State) (c : Call) (m : ℕ) : Type 0 where
  pub accusation : AccBody
  pub against : accusation.accused ≡ m
  pub body : Accusation accusation ≡ accusation_of s st m
  pub call : accuses true s c m ≡ wants true s (Accusation accusation) (neighbours_and s m) (tells s (told.Silent m) c)
  pub fine : accusation_fault s.group.t (state_of s c.node) accusation ≡ None

pub wants-it : (s : Setting) (st : State) (c : Call) (low : ℕ) (m : ℕ) (ms : List ℕ) → Stands s st c low (m ∷ ms) → has_accused s st m ≡ false → Wants s st c m
wants-it s st c low m ms h none =
    let here : State = state_of s c.node in
    let none_here : has_accused s here m ≡ false = h.same m (inl refl) ∙ none in
    let watched_here : is_watched s.group.t here s.me m ≡ true = ap (λ (x : State). is_watched s.group.t x s.me m) h.state.1 ∙ h.watched m (inl refl) in
    let may : MayAccuse s here m = may_accuse s here m (lively s c.node) watched_here none_here in
    let a : AccBody = own_accusation s here m may.ring in
    let found : ring_for s st m ≡ Some may.ring = sym (ap (λ (x : State). ring_for s x m) h.state.1) ∙ may.found in
    let is : Accusation a ≡ accusation_of s st m =
    ap (λ (x : State). Accusation (own_accusation s x m may.ring)) h.state.1 ∙ sym (ap (λ (o : Option ℕ). accusation_on s st m (unwrap_or o 0)) found) in
    record {
      accusation = a;
      against = refl;
      body = is;
      call = accuses-is true s c m may.ring none_here may.found;
      fine = ap (accusation_fault s.group.t here) (same_body a may.accusation may.says) ∙ may.no_fault;
    }
  where
    same_body : (a b : AccBody) → Accusation a ≡ Accusation b → a ≡ b
    same_body a b e = cc

neighbours-kept : (s : Setting) (m : ℕ) (st : State) (next : State) → OnlyKept st next → neighbours_and s m next ≡ neighbours_and s m st
unfolding neighbours_and
neighbours-kept s m st next k = ap (neighbours_and s m) k.1

moment-kept : (st next : State) → OnlyKept st next → next.moment ≡ st.moment
moment-kept st next k = ap (λ (x : State). x.moment) k.1

-- what one accusation sends, by the index that is next
abbrev one_out : Setting → State → ℕ → ℕ → List (ℕ × List ℕ)
one_out s st index m = cond (eqb index s.indexes) [] (to_each (neighbours_and s m st) (kinds.Records s.me (accusation_by s st index m ∷ [])))

abbrev one_told : Setting → State → ℕ → ℕ → List whats.What
one_told s st index m = told.Silent m ∷ cond (eqb index s.indexes) (told.Exhausted index) (told.Spent index (accusation_of s st m)) ∷ []

abbrev pub next_index : Setting → ℕ → ℕ
next_index s index = cond (eqb index s.indexes) index (index + 1)

one-sent : (s : Setting) (st : State) (c : Call) (m : ℕ) → OnlyKept st (state_of s (accuses true s c m).node) → Wants s st c m → (accuses true s c m).sent ≡ c.sent ++ one_out s st c.node.stored.next m
one-sent s st c m later w =
    let c1 : Call = tells s (told.Silent m) c in
    let index : ℕ = c.node.stored.next in
    let out : State → Body → List (ℕ × List ℕ) = λ x b. cond (eqb index s.indexes) [] (to_each (neighbours_and s m x) (kinds.Records s.me (record { body = b; signature = s.signature index b } ∷ []))) in
    ap (λ (x : Call). x.sent) w.call ∙ sent-wants s (Accusation w.accusation) (neighbours_and s m) c1
    ∙ ap (λ (x : Call). c.sent ++ out (state_of s x.node) (Accusation w.accusation)) (sym w.call)
    ∙ ap (λ b. c.sent ++ out (state_of s (accuses true s c m).node) b) w.body
    ∙ ap (λ (xs : List ℕ). c.sent ++ cond (eqb index s.indexes) [] (to_each xs (kinds.Records s.me (accusation_by s st index m ∷ [])))) (neighbours-kept s m st (state_of s (accuses true s c m).node) later)

one-told : (s : Setting) (st : State) (c : Call) (m : ℕ) → OnlyKept st (state_of s c.node) → Wants s st c m
    → told_that is_apart (accuses true s c m) ≡ told_that is_apart c ++ picked is_apart st.moment (one_told s st c.node.stored.next m)
one-told s st c m now w =
    let c1 : Call = tells s (told.Silent m) c in
    let index : ℕ = c.node.stored.next in
    let moment : ℕ = (state_of s c.node).moment in
    let second : Body → whats.What = λ b. cond (eqb index s.indexes) (told.Exhausted index) (told.Spent index b) in
    ap (told_that is_apart) w.call
    ∙ that-wants is_apart true s (Accusation w.accusation) (neighbours_and s m) c1 apart-over
    ∙ ap (λ xs. xs ++ picked is_apart moment (second (Accusation w.accusation) ∷ [])) (that-tells is_apart s (told.Silent m) c)
    ∙ append_assoc (told_that is_apart c) (picked is_apart moment (told.Silent m ∷ [])) (picked is_apart moment (second (Accusation w.accusation) ∷ []))
    ∙ ap (λ xs. told_that is_apart c ++ xs) (sym (picked-append is_apart moment (told.Silent m ∷ []) (second (Accusation w.accusation) ∷ [])))
    ∙ ap (λ b. told_that is_apart c ++ picked is_apart moment (told.Silent m ∷ second b ∷ [])) w.body
    ∙ ap (λ t. told_that is_apart c ++ picked is_apart t (one_told s st index m)) (moment-kept st (state_of s c.node) now)

pub one-stored : (s : Setting) (st : State) (c : Call) (m : ℕ) → Wants s st c m → (accuses true s c m).node.stored.next ≡ next_index s c.node.stored.next
one-stored s st c m w =
    let c1 : Call = tells s (told.Silent m) c in
    let index : ℕ = c.node.stored.next in
    let next : (signs s (Accusation w.accusation) c1).node.stored.next ≡ index + 1 = ap (λ (k : Stored). k.next) (stored-signs s (Accusation w.accusation) c1) in
    ap (λ (x : Call). x.node.stored.next) w.call ∙ ap (λ (x : Node). x.stored.next) (node-wants true s (Accusation w.accusation) (neighbours_and s m) c1)
    ∙ by_case (eqb index s.indexes) c.node (signs s (Accusation w.accusation) c1).node index refl next
  where
    by_case : (b : Bool) (x y : Node) (index : ℕ) → x.stored.next ≡ index → y.stored.next ≡ index + 1 → (cond b x y).stored.next ≡ cond b index (index + 1)
    by_case true x y index h k = h
    by_case false x y index h k = k

-- what is kept against others is as it was
one-others : (s : Setting) (st : State) (c : Call) (m x : ℕ) → Wants s st c m → eqb m x ≡ false → has_accused s (state_of s (accuses true s c m).node) x ≡ has_accused s (state_of s c.node) x
one-others s st c m x w other =
    let c1 : Call = tells s (told.Silent m) c in
    let a : AccBody = w.accusation in
    let signed : state_of s (signs s (Accusation a) c1).node ≡ after_accusation (state_of s c.node) a =
    state-signs s (Accusation a) c1 ∙ ap (λ y. y.state) (step-accused s.group (state_of s c.node) a w.fine) in
    let apart : eqb a.accused x ≡ false = ap (λ k. eqb k x) w.against ∙ other in
    subst (λ (y : Node). has_accused s (state_of s y) x ≡ has_accused s (state_of s c.node) x) (sym (ap (λ (y : Call). y.node) w.call ∙ node-wants true s (Accusation a) (neighbours_and s m) c1))
    (cond_both (is_used_up s c.node) c.node (signs s (Accusation a) c1).node (λ y. has_accused s (state_of s y) x ≡ has_accused s (state_of s c.node) x)
    (λ up. refl)
    (λ left. ap (λ (y : State). has_accused s y x) signed ∙ accused-still s (state_of s c.node) a x apart))

-- ---- all that are silent

-- the member in front has been accused already
pub accused-already : (s : Setting) (c : Call) (m : ℕ) → has_accused s (state_of s c.node) m ≡ true → accuses true s c m ≡ c
unfolding accuses
accused-already s c m h = rw h refl

pub stands-on : (s : Setting) (st : State) (c : Call) (low m : ℕ) (ms : List ℕ) → Stands s st c low (m ∷ ms) → Stands s st c (m + 1) ms
stands-on s st c low m ms h = record { state = h.state; same = λ x i. h.same x (inr i); watched = λ x i. h.watched x (inr i); rises = h.rises.1 }

apart-above : (m x : ℕ) → m + 1 ≤ x → eqb m x ≡ false
apart-above m x h = grind (arith, nat_tests, h)

pub stands-accused : (s : Setting) (st : State) (c : Call) (low m : ℕ) (ms : List ℕ) → Stands s st c low (m ∷ ms) → Wants s st c m → Stands s st (accuses true s c m) (m + 1) ms
stands-accused s st c low m ms h w =
    record {
      state = only_kept-more st (state_of s c.node) (state_of s (accuses true s c m).node) h.state (only_kept-accuses s c m);
      same = λ x i. one-others s st c m x w (apart-above m x (rises-above (m + 1) ms x h.rises.1 i)) ∙ h.same x (inr i);
      watched = λ x i. h.watched x (inr i);
      rises = h.rises.1;
    }

pub kept_front : (s : Setting) (st : State) (m : ℕ) (ms : List ℕ) → has_accused s st m ≡ false → unaccused s st (m ∷ ms) ≡ m ∷ unaccused s st ms
kept_front s st m ms h = rw h refl

pub dropped_front : (s : Setting) (st : State) (m : ℕ) (ms : List ℕ) → has_accused s st m ≡ true → unaccused s st (m ∷ ms) ≡ unaccused s st ms
dropped_front s st m ms h = rw h refl

-- with one more in front
out-more : (s : Setting) (st : State) (index m : ℕ) (ms : List ℕ) → accusations_out s st index (m ∷ ms) ≡ one_out s st index m ++ accusations_out s st (next_index s index) ms
out-more s st index m ms =
    elim (cases_Bool (eqb index s.indexes)) [
      | inl up ↦ rw up (sym (out-used_up ms up))
      | inr left ↦ rw left refl
    ]
  where
    out-used_up : (xs : List ℕ) → eqb index s.indexes ≡ true → accusations_out s st index xs ≡ []
    out-used_up [] up = refl
    out-used_up (x ∷ xs) up = rw up refl

told-more : (s : Setting) (st : State) (index m : ℕ) (ms : List ℕ) → accusing_told s st index (m ∷ ms) ≡ one_told s st index m ++ accusing_told s st (next_index s index) ms
told-more s st index m ms = elim (cases_Bool (eqb index s.indexes)) [ inl up ↦ rw up refl | inr left ↦ rw left refl ]

pub all-sent : (s : Setting) (st : State) (c : Call) (low : ℕ) (ms : List ℕ) → Stands s st c low ms → (accuses_all s ms c).sent ≡ c.sent ++ accusations_out s st c.node.stored.next (unaccused s st ms)
all-sent s st c low [] h = sym (nil-right c.sent)
all-sent s st c low (m ∷ ms) h =
    elim (cases_Bool (has_accused s st m)) [
      | inl already ↦
          ap (λ (x : Call). (accuses_all s ms x).sent) (accused-already s c m (h.same m (inl refl) ∙ already)) ∙ all-sent s st c (m + 1) ms (stands-on s st c low m ms h)
          ∙ ap (λ xs. c.sent ++ accusations_out s st c.node.stored.next xs) (sym (dropped_front s st m ms already))
      | inr none ↦
          let w : Wants s st c m = wants-it s st c low m ms h none in
          let next : Stands s st (accuses true s c m) (m + 1) ms = stands-accused s st c low m ms h w in
          let index : ℕ = c.node.stored.next in
          let rest : List ℕ = unaccused s st ms in
          all-sent s st (accuses true s c m) (m + 1) ms next
          ∙ ap (λ xs. xs ++ accusations_out s st (accuses true s c m).node.stored.next rest) (one-sent s st c m next.state w)
          ∙ ap (λ k. (c.sent ++ one_out s st index m) ++ accusations_out s st k rest) (one-stored s st c m w)
          ∙ append_assoc c.sent (one_out s st index m) (accusations_out s st (next_index s index) rest)
          ∙ ap (λ xs. c.sent ++ xs) (sym (out-more s st index m rest))
          ∙ ap (λ xs. c.sent ++ accusations_out s st index xs) (sym (kept_front s st m ms none))
    ]

all-told : (s : Setting) (st : State) (c : Call) (low : ℕ) (ms : List ℕ) → Stands s st c low ms
    → told_that is_apart (accuses_all s ms c) ≡ told_that is_apart c ++ picked is_apart st.moment (accusing_told s st c.node.stored.next (unaccused s st ms))
all-told s st c low [] h = sym (nil-right (told_that is_apart c))
all-told s st c low (m ∷ ms) h =
    elim (cases_Bool (has_accused s st m)) [
      | inl already ↦
          ap (λ (x : Call). told_that is_apart (accuses_all s ms x)) (accused-already s c m (h.same m (inl refl) ∙ already)) ∙ all-told s st c (m + 1) ms (stands-on s st c low m ms h)
          ∙ ap (λ xs. told_that is_apart c ++ picked is_apart st.moment (accusing_told s st c.node.stored.next xs)) (sym (dropped_front s st m ms already))
      | inr none ↦
          let w : Wants s st c m = wants-it s st c low m ms h none in
          let next : Stands s st (accuses true s c m) (m + 1) ms = stands-accused s st c low m ms h w in
          let index : ℕ = c.node.stored.next in
          let rest : List ℕ = unaccused s st ms in
          let before : List journal.Event = told_that is_apart c in
          let first : List whats.What = one_told s st index m in
          all-told s st (accuses true s c m) (m + 1) ms next
          ∙ ap (λ xs. xs ++ picked is_apart st.moment (accusing_told s st (accuses true s c m).node.stored.next rest)) (one-told s st c m h.state w)
          ∙ ap (λ k. (before ++ picked is_apart st.moment first) ++ picked is_apart st.moment (accusing_told s st k rest)) (one-stored s st c m w)
          ∙ append_assoc before (picked is_apart st.moment first) (picked is_apart st.moment (accusing_told s st (next_index s index) rest))
          ∙ ap (λ xs. before ++ xs) (sym (picked-append is_apart st.moment first (accusing_told s st (next_index s index) rest)))
          ∙ ap (λ xs. before ++ picked is_apart st.moment xs) (sym (told-more s st index m rest))
          ∙ ap (λ xs. before ++ picked is_apart st.moment (accusing_told s st index xs)) (sym (kept_front s st m ms none))
    ]

-- each of these events is of accusing
all-accusing : (s : Setting) (st : State) (index : ℕ) (ms : List ℕ) → picked is_apart st.moment (accusing_told s st index ms) ≡ all_at st.moment (accusing_told s st index ms)
all-accusing s st index [] = refl
all-accusing s st index (m ∷ ms) =
    ap (λ xs. picked is_apart st.moment xs) (told-more s st index m ms)
    ∙ cond_both (eqb index s.indexes) (told.Exhausted index) (told.Spent index (accusation_of s st m)) (λ w. picked is_apart st.moment (told.Silent m ∷ w ∷ accusing_told s st (next_index s index) ms) ≡ all_at st.moment (told.Silent m ∷ w ∷ accusing_told s st (next_index s index) ms))
    (λ up. ap (λ xs. record { moment = st.moment; what = told.Silent m } ∷ record { moment = st.moment; what = told.Exhausted index } ∷ xs) (all-accusing s st (next_index s index) ms))
    (λ left. ap (λ xs. record { moment = st.moment; what = told.Silent m } ∷ record { moment = st.moment; what = told.Spent index (accusation_of s st m) } ∷ xs) (all-accusing s st (next_index s index) ms))
    ∙ ap (all_at st.moment) (sym (told-more s st index m ms))

-- ---- pings and the summary

sent-sends : (s : Setting) (d : Datagram) (c : Call) (to : ℕ) → (sends s d c to).sent ≡ c.sent ++ (to, datagram_bytes d) ∷ []
unfolding sends
sent-sends s d c to = refl

pub pings-sent : (s : Setting) (pings : List (ℕ × ℕ)) (c : Call) → (pings_all s pings c).sent ≡ c.sent ++ pings_out s pings
pings-sent s [] c = sym (nil-right c.sent)
pings-sent s (p ∷ pings) c =
    let c1 : Call = sends s (kinds.Ping s.me p.1) c p.0 in
    pings-sent s pings c1 ∙ ap (λ xs. xs ++ pings_out s pings) (sent-sends s (kinds.Ping s.me p.1) c p.0) ∙ append_assoc c.sent ((p.0, datagram_bytes (kinds.Ping s.me p.1)) ∷ []) (pings_out s pings)

pings-told : (test : whats.What → Bool) (s : Setting) (pings : List (ℕ × ℕ)) (c : Call) → IsOver test → told_that test (pings_all s pings c) ≡ told_that test c
pings-told test s [] c over = refl
pings-told test s (p ∷ pings) c over = pings-told test s pings (sends s (kinds.Ping s.me p.1) c p.0) over ∙ that-sends test s (kinds.Ping s.me p.1) c p.0 over

summary-sent : (s : Setting) (round : ℕ) (to : Option ℕ) (c : Call) → partner s c.node round ≡ to → (summary_to s round to c).sent ≡ c.sent ++ summary_out s c.node round
summary-sent s round None c h = rw h (sym (nil-right c.sent))
summary-sent s round (Some to) c h = rw h (sent-sends s (kinds.Summary s.me false (page c.node (page_number s c.node round))) c to)

pub summary-node : (s : Setting) (round : ℕ) (to : Option ℕ) (c : Call) → (summary_to s round to c).node ≡ c.node
summary-node s round None c = refl
summary-node s round (Some to) c = node-sends s (kinds.Summary s.me false (page c.node (page_number s c.node round))) c to

summary-told : (test : whats.What → Bool) (s : Setting) (round : ℕ) (to : Option ℕ) (c : Call) → IsOver test → told_that test (summary_to s round to c) ≡ told_that test c
summary-told test s round None c over = refl
summary-told test s round (Some to) c over = that-sends test s (kinds.Summary s.me false (page c.node (page_number s c.node round))) c to over

-- ---- the tick

pub starts : (s : Setting) (n : Node) → Stands s (state_of s (at_tick s n)) (spread_at s n) 0 (silent_in s (at_tick s n) (state_of s (at_tick s n)))
unfolding silent_at
starts s n =
    record {
      state = ((state_of s (at_tick s n)).kept, state-spread s n);
      same = λ m i. ap (λ (x : State). has_accused s x m) (state-spread s n);
      watched = λ m i. silent-watched s n m i;
      rises = rises-silent s (at_tick s n) (state_of s (at_tick s n));
    }

pub stored-probed : (s : Setting) (n : Node) → (probed_at s n).node.stored ≡ (at_tick s n).stored
unfolding probed_at
stored-probed s n = refl

pub stored-spread : (s : Setting) (n : Node) → (spread_at s n).node.stored ≡ (at_tick s n).stored
unfolding spread_at
stored-spread s n = stored-spreads s (probed_at s n) ∙ stored-probed s n

sent-probed : (s : Setting) (n : Node) → (probed_at s n).sent ≡ []
unfolding probed_at passed lives
sent-probed s n = refl

told-probed : (s : Setting) (n : Node) → told_that is_apart (probed_at s n) ≡ []
unfolding probed_at passed
told-probed s n = that-lives is_apart s Ticks (begun n) apart-over

-- ---- news

sent-spreads_all : (s : Setting) (records : List Record) (c : Call) → (spreads_all s records c).sent ≡ c.sent ++ news_in s (state_of s c.node) records
sent-spreads_all s [] c = sym (nil-right c.sent)
sent-spreads_all s (r ∷ records) c = sent-sends_to_all s (neighbours s (state_of s c.node)) (kinds.Records s.me (r ∷ records)) c

sent-spreads : (s : Setting) (c : Call) → (spreads s c).sent ≡ c.sent ++ news_out s (state_of s c.node) c.node
unfolding spreads
sent-spreads s c = sent-spreads_all s (fresh c.node) c

that-spreads_all : (test : whats.What → Bool) (s : Setting) (records : List Record) (c : Call) → IsOver test → told_that test (spreads_all s records c) ≡ told_that test c
that-spreads_all test s [] c over = refl
that-spreads_all test s (r ∷ records) c over = that-sends_to_all test s (neighbours s (state_of s c.node)) (kinds.Records s.me (r ∷ records)) c over

that-spreads : (test : whats.What → Bool) (s : Setting) (c : Call) → IsOver test → told_that test (spreads s c) ≡ told_that test c
unfolding spreads
that-spreads test s c over = that-spreads_all test s (fresh c.node) c over

-- the probes see the tick, and what is fresh stays so
fresh-probed : (s : Setting) (n : Node) → fresh (probed_at s n).node ≡ fresh (at_tick s n)
unfolding fresh probed_at
fresh-probed s n = refl

pub sent-spread : (s : Setting) (n : Node) → (spread_at s n).sent ≡ news_out s (state_of s (at_tick s n)) (at_tick s n)
unfolding spread_at
sent-spread s n =
    let c : Call = probed_at s n in
    sent-spreads s c ∙ ap (λ xs. xs ++ news_out s (state_of s c.node) c.node) (sent-probed s n)
    ∙ ap (λ (x : State). news_out s x c.node) (state-probed s n)
    ∙ ap (news_in s (state_of s (at_tick s n))) (fresh-probed s n)

pub told-spread : (s : Setting) (n : Node) → told_that is_apart (spread_at s n) ≡ []
unfolding spread_at
told-spread s n = that-spreads is_apart s (probed_at s n) apart-over ∙ told-probed s n

-- ---- a tick that is due

due-sent : (s : Setting) (st : State) (c : Call) (low : ℕ) (ms : List ℕ) (pings : List (ℕ × ℕ)) (round : ℕ) (news : List (ℕ × List ℕ)) → Stands s st (spreads s c) low ms → (spreads s c).sent ≡ news
    → (due_tick s ms pings round c).sent ≡ news ++ accusations_out s st (spreads s c).node.stored.next (unaccused s st ms) ++ pings_out s pings ++ summary_out s (due_tick s ms pings round c).node round
unfolding due_tick
due-sent s st c low ms pings round news h first =
    let c0 : Call = spreads s c in
    let c1 : Call = accuses_all s ms c0 in
    let c2 : Call = pings_all s pings c1 in
    let to : Option ℕ = partner s c2.node round in
    let out : List (ℕ × List ℕ) = accusations_out s st c0.node.stored.next (unaccused s st ms) in
    summary-sent s round to c2 refl
    ∙ ap (λ xs. xs ++ summary_out s c2.node round) (pings-sent s pings c1 ∙ ap (λ xs. xs ++ pings_out s pings) (all-sent s st c0 low ms h ∙ ap (λ xs. xs ++ out) first))
    ∙ ap (λ (x : Node). ((news ++ out) ++ pings_out s pings) ++ summary_out s x round) (sym (summary-node s round to c2))

due-told : (s : Setting) (st : State) (c : Call) (low : ℕ) (ms : List ℕ) (pings : List (ℕ × ℕ)) (round : ℕ) → Stands s st (spreads s c) low ms → told_that is_apart (spreads s c) ≡ []
    → told_that is_apart (due_tick s ms pings round c) ≡ all_at st.moment (accusing_told s st (spreads s c).node.stored.next (unaccused s st ms))
unfolding due_tick
due-told s st c low ms pings round h none =
    let c0 : Call = spreads s c in
    let c1 : Call = accuses_all s ms c0 in
    let c2 : Call = pings_all s pings c1 in
    summary-told is_apart s round (partner s c2.node round) c2 apart-over ∙ pings-told is_apart s pings c1 apart-over
    ∙ all-told s st c0 low ms h ∙ ap (λ xs. xs ++ picked is_apart st.moment (accusing_told s st c0.node.stored.next (unaccused s st ms))) none
    ∙ all-accusing s st c0.node.stored.next (unaccused s st ms)

pub silent-never : (s : Setting) (n : Node) (st : State) → is_due s st ≡ false → silent_in s n st ≡ []
silent-never s n st h = rw h refl

sent-case : (b : Bool) (x y : Call) (out : Node → List (ℕ × List ℕ)) → (b ≡ true → x.sent ≡ out x.node) → (b ≡ false → y.sent ≡ []) → (cond b x y).sent ≡ cond b (out (cond b x y).node) []
sent-case true x y out h k = h refl
sent-case false x y out h k = k refl

told-case : (b : Bool) (x y : Call) (out : List journal.Event) → (b ≡ true → told_that is_apart x ≡ out) → (b ≡ false → told_that is_apart y ≡ out) → told_that is_apart (cond b x y) ≡ out
told-case true x y out h k = h refl
told-case false x y out h k = k refl

pub tick-sends : (s : Setting) (n : Node) → (ticked s n).sent ≡ goes_out s (at_tick s n) (state_of s (at_tick s n)) (ticked s n).node
unfolding ticked spread_at
tick-sends s n =
    let p : Node = at_tick s n in
    let st : State = state_of s p in
    let c : Call = probed_at s n in
    let ms : List ℕ = silent_in s p st in
    let round : ℕ = round_of s st in
    let due_one : Call = due_tick s ms (pings_in s p st) round c in
    let out : ℕ → Node → List (ℕ × List ℕ) = λ next x. news_out s st p ++ accusations_out s st next (unaccused s st ms) ++ pings_out s (pings_in s p st) ++ summary_out s x round in
    sent-case (is_due s st) due_one c (out p.stored.next)
    (λ due. due-sent s st c 0 ms (pings_in s p st) round (news_out s st p) (starts s n) (sent-spread s n) ∙ ap (λ (k : Stored). out k.next due_one.node) (stored-spread s n))
    (λ never. sent-probed s n)

pub tick-tells : (s : Setting) (n : Node) → told_that is_apart (ticked s n) ≡ all_at (state_of s (at_tick s n)).moment (accusing_told s (state_of s (at_tick s n)) (at_tick s n).stored.next (to_accuse s (at_tick s n) (state_of s (at_tick s n))))
unfolding ticked spread_at
tick-tells s n =
    let p : Node = at_tick s n in
    let st : State = state_of s p in
    let c : Call = probed_at s n in
    let ms : List ℕ = silent_in s p st in
    let news : ℕ → List ℕ → List journal.Event = λ k xs. all_at st.moment (accusing_told s st k (unaccused s st xs)) in
    told-case (is_due s st) (due_tick s ms (pings_in s p st) (round_of s st) c) c (news p.stored.next ms)
    (λ due. due-told s st c 0 ms (pings_in s p st) (round_of s st) (starts s n) (told-spread s n) ∙ ap (λ (k : Stored). news k.next ms) (stored-spread s n))
    (λ never. told-probed s n ∙ ap (λ xs. news p.stored.next xs) (sym (silent-never s p st never)))

-- ---- a tick in which the disk fails

rises-front : (low : ℕ) (front rest : List ℕ) → Rises low (front ++ rest) → Rises low front
rises-front low [] rest h = tt
rises-front low (x ∷ front) rest h = (h.0, rises-front (x + 1) front rest h.1)

stands-front : (s : Setting) (st : State) (c : Call) (low : ℕ) (front rest : List ℕ) → Stands s st c low (front ++ rest) → Stands s st c low front
stands-front s st c low front rest h =
    record {
      state = h.state;
      same = λ x i. h.same x (In-append_left front rest x i);
      watched = λ x i. h.watched x (In-append_left front rest x i);
      rises = rises-front low front rest h.rises;
    }

-- when those in front have been accused
pub stands-behind : (s : Setting) (st : State) (c : Call) (low : ℕ) (front rest : List ℕ) → Stands s st c low (front ++ rest) → (l : ℕ) × Stands s st (accuses_all s front c) l rest
stands-behind s st c low [] rest h = (low, h)
stands-behind s st c low (m ∷ front) rest h =
    elim (cases_Bool (has_accused s st m)) [
      | inl already ↦
          let next : Stands s st (accuses true s c m) (m + 1) (front ++ rest) =
          subst (λ (x : Call). Stands s st x (m + 1) (front ++ rest)) (sym (accused-already s c m (h.same m (inl refl) ∙ already))) (stands-on s st c low m (front ++ rest) h) in
          stands-behind s st (accuses true s c m) (m + 1) front rest next
      | inr none ↦
          let w : Wants s st c m = wants-it s st c low m (front ++ rest) h none in
          stands-behind s st (accuses true s c m) (m + 1) front rest (stands-accused s st c low m (front ++ rest) h w)
    ]

failing : (s : Setting) (st : State) (c : Call) (low m : ℕ) (behind : List ℕ) → Stands s st c low (m ∷ behind) → has_accused s st m ≡ false → is_used_up s c.node ≡ false → accuses false s c m ≡ stops s (tells s (told.Silent m) c)
failing s st c low m behind h none left =
    let here : State = state_of s c.node in
    let none_here : has_accused s here m ≡ false = h.same m (inl refl) ∙ none in
    let watched_here : is_watched s.group.t here s.me m ≡ true = ap (λ (x : State). is_watched s.group.t x s.me m) h.state.1 ∙ h.watched m (inl refl) in
    let may : MayAccuse s here m = may_accuse s here m (lively s c.node) watched_here none_here in
    accuses-is false s c m may.ring none_here may.found
    ∙ wants-failing s (Accusation (own_accusation s here m may.ring)) (neighbours_and s m) (tells s (told.Silent m) c) left

pub tick-ends : (s : Setting) (n : Node) (before : List ℕ) (m : ℕ) (behind : List ℕ) → silent_at s n ≡ before ++ m ∷ behind
    → has_accused s (state_of s (at_tick s n)) m ≡ false → is_used_up s (accuses_all s before (spread_at s n)).node ≡ false
    → StopsBehind (state_of s (at_tick s n)).moment (accusing_told s (state_of s (at_tick s n)) (at_tick s n).stored.next (unaccused s (state_of s (at_tick s n)) before) ++ told.Silent m ∷ [])
    (news_out s (state_of s (at_tick s n)) (at_tick s n) ++ accusations_out s (state_of s (at_tick s n)) (at_tick s n).stored.next (unaccused s (state_of s (at_tick s n)) before)) (ticked_until s n before m)
unfolding ticked_until silent_at
tick-ends s n before m behind silent none left =
    let p : Node = at_tick s n in
    let st : State = state_of s p in
    let c0 : Call = spread_at s n in
    let c : Call = accuses_all s before c0 in
    let whole : Stands s st c0 0 (before ++ m ∷ behind) = subst (Stands s st c0 0) silent (starts s n) in
    let front : Stands s st c0 0 before = stands-front s st c0 0 before (m ∷ behind) whole in
    let next = stands-behind s st c0 0 before (m ∷ behind) whole in
    let ends : accuses false s c m ≡ stops s (tells s (told.Silent m) c) = failing s st c next.0 m behind next.1 none left in
    let moment : (state_of s c.node).moment ≡ st.moment = moment-kept st (state_of s c.node) next.1.state in
    let told_before : List whats.What = accusing_told s st p.stored.next (unaccused s st before) in
    let last : List whats.What = told.Silent m ∷ told.Stopped ∷ [] in
    record {
      told = ap (told_that is_apart) ends
          ∙ that-tells is_apart s told.Stopped (tells s (told.Silent m) c)
          ∙ ap (λ xs. xs ++ picked is_apart (state_of s c.node).moment (told.Stopped ∷ [])) (that-tells is_apart s (told.Silent m) c)
          ∙ append_assoc (told_that is_apart c) (picked is_apart (state_of s c.node).moment (told.Silent m ∷ [])) (picked is_apart (state_of s c.node).moment (told.Stopped ∷ []))
          ∙ ap (λ k. told_that is_apart c ++ all_at k last) moment
          ∙ ap (λ xs. xs ++ all_at st.moment last) (all-told s st c0 0 before front ∙ ap (λ xs. xs ++ picked is_apart st.moment (accusing_told s st c0.node.stored.next (unaccused s st before))) (told-spread s n) ∙ all-accusing s st c0.node.stored.next (unaccused s st before))
          ∙ ap (λ (k : Stored). all_at st.moment (accusing_told s st k.next (unaccused s st before)) ++ all_at st.moment last) (stored-spread s n)
          ∙ sym (all_at-append st.moment told_before last)
          ∙ ap (all_at st.moment) (sym (append_assoc told_before (told.Silent m ∷ []) (told.Stopped ∷ [])));
      sent_so = ap (λ (x : Call). x.sent) ends ∙ all-sent s st c0 0 before front ∙ ap (λ xs. xs ++ accusations_out s st c0.node.stored.next (unaccused s st before)) (sent-spread s n)
          ∙ ap (λ (k : Stored). news_out s st p ++ accusations_out s st k.next (unaccused s st before)) (stored-spread s n);
      over = ap (λ (x : Call). x.ended) ends;
    }

-- ---- whom a node accuses

in-accusing : (s : Setting) (st : State) (index : ℕ) (ms : List ℕ) (k : ℕ) (a : AccBody) → In (accusing_told s st index ms) (told.Spent k (Accusation a)) → (m : ℕ) × (In ms m × (accusation_of s st m ≡ Accusation a))
in-accusing s st index [] k a i = absurd i
in-accusing s st index (m ∷ ms) k a i =
    let what : whats.What = told.Spent k (Accusation a) in
    elim (In-append_cases (one_told s st index m) (accusing_told s st (next_index s index) ms) what (subst (λ xs. In xs what) (told-more s st index m ms) i)) [
      | inl j ↦ (m, (inl refl, in_one j))
      | inr j ↦ let r = in-accusing s st (next_index s index) ms k a j in (r.0, (inr r.1.0, r.1.1))
    ]
  where
    by_case : (b : Bool) → cond b (told.Exhausted index) (told.Spent index (accusation_of s st m)) ≡ told.Spent k (Accusation a) → accusation_of s st m ≡ Accusation a
    by_case true e = cc
    by_case false e = cc

    no_silent : told.Silent m ≡ told.Spent k (Accusation a) → ⊥
    no_silent e = cc

    in_one : In (one_told s st index m) (told.Spent k (Accusation a)) → accusation_of s st m ≡ Accusation a
    in_one j = elim j [ inl e ↦ absurd (no_silent e) | inr later ↦ elim later [ inl e ↦ by_case (eqb index s.indexes) e | inr none ↦ absurd none ] ]

accuses-silent : (s : Setting) (n : Node) (a : AccBody) (m : ℕ) → In (silent_at s n) m → has_accused s (state_of s (at_tick s n)) m ≡ false → accusation_of s (state_of s (at_tick s n)) m ≡ Accusation a → AccusesTheSilent s n a
accuses-silent s n a m silent none is =
    let st : State = state_of s (at_tick s n) in
    let may : MayAccuse s st m = may_accuse s st m (lively s (at_tick s n)) (silent-watched s n m silent) none in
    let own : AccBody = own_accusation s st m may.ring in
    let same : own ≡ a = same_body own a (sym (ap (λ (o : Option ℕ). accusation_on s st m (unwrap_or o 0)) may.found) ∙ is) in
    let fine : accusation_fault s.group.t st a ≡ None = ap (accusation_fault s.group.t st) (sym same ∙ same_body own may.accusation may.says) ∙ may.no_fault in
    let parts = passes s.group.t (facts_of st a) a fine in
    let answered = and_parts _ _ parts.unanswered in
    let accuser : a.accuser ≡ s.me = sym (ap (λ (x : AccBody). x.accuser) same) in
    let accused : m ≡ a.accused = ap (λ (x : AccBody). x.accused) same in
    record {
      silent = Contains-from_In (silent_at s n) a.accused (subst (In (silent_at s n)) accused silent);
      by_the_node = accuser;
      note = parts.note;
      is_newest = parts.newest;
      epoch = eqb-true _ _ answered.0;
      enabled = answered.1;
      monitors = is-monitor _ s.me (ap (is_number (monitor st a.ring.0 a.accused)) (sym accuser) ∙ parts.monitored);
      no_fault = fine;
    }
  where
    same_body : (x y : AccBody) → Accusation x ≡ Accusation y → x ≡ y
    same_body x y e = cc

accuses-ticked : (s : Setting) (n : Node) (moment index : ℕ) (a : AccBody) → In (ticked s n).told (record { moment = moment; what = told.Spent index (Accusation a) }) → AccusesTheSilent s n a
unfolding silent_at
accuses-ticked s n moment index a i =
    let p : Node = at_tick s n in
    let st : State = state_of s p in
    let e : journal.Event = record { moment = moment; what = told.Spent index (Accusation a) } in
    let j : In (told_that is_apart (ticked s n)) e = In-filter (λ (x : journal.Event). is_apart x.what) (ticked s n).told e i refl in
    let ws : List whats.What = accusing_told s st p.stored.next (to_accuse s p st) in
    let w : In ws (told.Spent index (Accusation a)) = in-all_at st.moment moment ws (told.Spent index (Accusation a)) (subst (λ xs. In xs e) (tick-tells s n) j) in
    let m = in-accusing s st p.stored.next (to_accuse s p st) index a w in
    let listed = In-from_filter (λ x. not (has_accused s st x)) (silent_in s p st) m.0 m.1.0 in
    accuses-silent s n a m.0 listed.0 (not-true _ listed.1) m.1.1

-- a node that leaves signs a note
leaving-accuses : (s : Setting) (n : Node) (moment index : ℕ) (a : AccBody) → In (left s n).told (record { moment = moment; what = told.Spent index (Accusation a) }) → ⊥
unfolding left leaves
leaving-accuses s n moment index a i =
    let e : journal.Event = record { moment = moment; what = told.Spent index (Accusation a) } in
    let c : Call = begun n in
    let body : Body = leaving s n.stored in
    let j : In (told_that is_apart (left s n)) e = In-filter (λ (x : journal.Event). is_apart x.what) (left s n).told e i refl in
    by_case (eqb n.stored.next s.indexes) (subst (λ xs. In xs e) (that-wants is_apart true s body (neighbours s) c apart-over) j)
  where
    exhausted : told.Exhausted n.stored.next ≡ told.Spent index (Accusation a) → ⊥
    exhausted e = cc

    spent : told.Spent n.stored.next (leaving s n.stored) ≡ told.Spent index (Accusation a) → ⊥
    spent e = cc

    by_case : (up : Bool) → In (picked is_apart (state_of s n).moment (cond up (told.Exhausted n.stored.next) (told.Spent n.stored.next (leaving s n.stored)) ∷ [])) (record { moment = moment; what = told.Spent index (Accusation a) }) → ⊥
    by_case true k = elim k [ inl e ↦ exhausted (ap (λ (x : journal.Event). x.what) e) | inr none ↦ none ]
    by_case false k = elim k [ inl e ↦ spent (ap (λ (x : journal.Event). x.what) e) | inr none ↦ none ]

pub only-silent : (s : Setting) (n : Node) (i : Input) (a : AccBody) → TellsAccusation (call_of s n i) a → (i ≡ Tick) × AccusesTheSilent s n a
only-silent s n (Delivers bytes) a t = absurd (accuses-nobody s n bytes t.0 t.1 a (In-from_Contains _ _ t.2))
only-silent s n Tick a t = (refl, accuses-ticked s n t.0 t.1 a (In-from_Contains _ _ t.2))
only-silent s n Leaves a t = absurd (leaving-accuses s n t.0 t.1 a (In-from_Contains _ _ t.2))
