-- Calls that a failing put ends: in the answer to a record, in the accusation of a silent member or in the note by which the
-- node leaves, and nowhere else.
use Rattle.std.proofs.Common.{◌≡◌, ℕ, ◌+◌, ◌-◌, Bool, true, false, eqb, List, [], ◌∷◌, ◌++◌, Option, Some, None, inl, inr, refl, ap, sym, ◌∙◌, subst, arith}
use Rattle.std.specs.Prelude.{Result, Ok, Err, fold}
use Rattle.std.proofs.lemmas.Bool.{cases_Bool}
use Rattle.ff_ids.specs.declared.NoteBody.{NoteBody}
use Rattle.ff_ids.specs.declared.Fault.{Fault}
use Rattle.ff_ids.specs.Views.{State}
use Rattle.records.specs.declared.Body.{Body}
use Rattle.records.specs.declared.Body.TheVariants.{Note}
use Rattle.records.specs.declared.Record.{Record}
use Rattle.epoch_store.specs.declared.Stored.{Stored}
use Rattle.datagram.specs.declared.Datagram.{Datagram}
use Rattle.datagram.specs.declared.Datagram.TheVariants as kinds
use Rattle.datagram.specs.Grammar.{read_of}
use Rattle.journal.specs.declared.event.What.TheVariants as told
use Rattle.node_rules.specs.Nodes.{Setting, Node, state_of, neighbours, neighbours_and}
use Rattle.node_rules.specs.Refusals.{refusal}
use Rattle.node_rules.specs.Calls.{Call, begun, tells, wants, stops, is_used_up}
use Rattle.node_rules.specs.Deliveries.{asked_with, gives_note, settles, handles, handles_all}
use Rattle.node_rules.specs.Ticking.{accusation_on, ring_for, has_accused, wants_accusation, accuses, accuses_all, gossips, is_due, passed, pings_all, pings_in, probed_at, spread_at, round_of, silent_in, silent_at}
use Rattle.node_rules.specs.Leaving.{leaving, leaves}
use Rattle.node_rules.specs.OnDisks.{Input, Delivers, Ticks, Leaves, OnDisk, hears_on, delivered_on, accuses_on, due_on, ticked_on, left_on, counting, called}
use Rattle.node_rules.specs.Lives.{call_of}
use Rattle.node_rules.specs.Verdicts.{when_all_handled, told_that, is_took}
use Rattle.node_rules.specs.Answering.{asked_by}
use Rattle.node_rules.specs.Outgoing.{at_tick}
use Rattle.node_rules.specs.Stopping.{WantsAnswer, StopsAnswering, StopsAccusing, StopsLeaving, StopsAtOnce, StopsBehind, StoppedDeliveryEnds, StoppedVerdictsAreTold, StoppedTickEnds, StoppedLeavingEnds, OnlySignaturesStop, WholeCallsGoOn}
use Rattle.node_rules.proofs.Small.{stored-settles}
use Rattle.node_rules.proofs.GoingOn.{on-hears, on-probed, on-settles, on-spread, whole-goes_on}
use Rattle.node_rules.proofs.Handling.{delivery-ends, node-all, until-told, wants-failing}
use Rattle.node_rules.proofs.Ticks.{Stands, stands-behind, starts, stored-spread, tick-ends}
use Rattle.node_rules.proofs.OwnNote.{stored-lives}
use Rattle.node_rules.proofs.Called.{ComesSoFar, accused-on, all-accuse, all-handle, all-leave, called-none, called-so_far, chosen, counts, delivered_until, ended-apart, handled-on, leaves_once, left_until, on-gossips, other, put-accusing, put-answering, put-leaving, stopped-at}

less : (n k put : ℕ) → put ≡ (n + k) - n → put ≡ k
less n k put e = omega (arith, e)

more : (n m k : ℕ) → m ≡ n + k → k ≡ m - n
more n m k e = omega (arith, e)

-- ---- deliveries

-- the call in which the put for this answer fails
answering-is : (s : Setting) (n : Node) (bytes : List ℕ) (put : ℕ) (stop : StopsAnswering s n bytes put) → called s n (Delivers bytes) (Some put) ≡ delivered_until s n stop.before stop.at
answering-is s n bytes put stop =
    let it = put-answering s n bytes stop.from stop.before stop.at stop.behind stop.read (delivery-ends s n stop.before stop.at stop.wants).over in
    let same : put ≡ it.put =
    less n.stored.next it.put put (stop.puts ∙ ap (λ (x : Node). x.stored.next - n.stored.next) (sym (node-all s stop.before (begun n))) ∙ ap (λ k. k - n.stored.next) it.counted) in
    ap (λ k. called s n (Delivers bytes) (Some k)) same ∙ it.is

pub delivery-stops : StoppedDeliveryEnds
delivery-stops s n bytes put stop = subst (StopsBehind _ _ _) (sym (answering-is s n bytes put stop)) (delivery-ends s n stop.before stop.at stop.wants)

pub verdicts-stop : StoppedVerdictsAreTold
verdicts-stop s n bytes put stop = ap (told_that is_took) (answering-is s n bytes put stop) ∙ until-told s n stop.before stop.at

wants-left : (s : Setting) (body : Body) (to : State → List ℕ) (c : Call) → c.ended ≡ false → (wants false s body to c).ended ≡ true → is_used_up s c.node ≡ false
unfolding wants
wants-left s body to c going over =
    elim (cases_Bool (is_used_up s c.node)) [
      | inl up ↦ absurd (ended-apart c.ended (sym (ap (λ (x : Call). x.ended) (chosen (is_used_up s c.node) (tells s (told.Exhausted c.node.stored.next) c) _ up)) ∙ over) going)
      | inr left ↦ left
    ]

-- a note whose put ends the call is wanted
asked-gives_note : (s : Setting) (n : Node) (r : Record) (note : Option NoteBody) (c : Call)
    → asked_by s n r ≡ note → c.node.stored ≡ n.stored → c.ended ≡ false → (gives_note false s note c).ended ≡ true → WantsAnswer s n r
asked-gives_note s n r None c asked same going over = absurd (ended-apart c.ended over going)
asked-gives_note s n r (Some note) c asked same going over =
    record { note = note; asked = asked; left = ap (λ (k : Stored). eqb k.next s.indexes) (sym same) ∙ wants-left s (Note note) (neighbours s) c going over }

asked-handles : (s : Setting) (c : Call) (r : Record) → c.ended ≡ false → (handles false s c r).ended ≡ true → WantsAnswer s c.node r
unfolding handles
asked-handles s c r going over =
    let f : Option Fault = refusal s c.node r in
    asked-gives_note s c.node r (asked_with s c.node f r.body r) (settles s f r c) refl (stored-settles s f r c) (on-settles s f r c ∙ going) over

only-hears : (s : Setting) (n : Node) (bytes : List ℕ) (put : ℕ) (heard : Result Datagram ℕ) → read_of bytes ≡ heard → (hears_on counting s heard (counts (begun n) (Some put))).call.ended ≡ true → StopsAnswering s n bytes put
only-hears s n bytes put (Err place) read over = absurd (ended-apart _ over (on-hears s (Err place) (begun n)))
only-hears s n bytes put (Ok (kinds.Ping from nonce)) read over = absurd (ended-apart _ over (on-hears s (Ok (kinds.Ping from nonce)) (begun n)))
only-hears s n bytes put (Ok (kinds.Pong from nonce)) read over = absurd (ended-apart _ over (on-hears s (Ok (kinds.Pong from nonce)) (begun n)))
only-hears s n bytes put (Ok (kinds.Summary from flag theirs)) read over = absurd (ended-apart _ over (on-hears s (Ok (kinds.Summary from flag theirs)) (begun n)))
only-hears s n bytes put (Ok (kinds.Records from records)) read over =
    let h = stopped-at (λ works c x. handles works s c x) records (begun n) put (all-handle s) refl
    (ap (λ (o : OnDisk (Option ℕ)). o.call.ended) (sym (handled-on counting s (counts (begun n) (Some put)) records)) ∙ over) in
    let c : Call = handles_all s h.before (begun n) in
    let here : c.node ≡ when_all_handled s n h.before = node-all s h.before (begun n) in
    record {
      from = from;
      before = h.before;
      at = h.at;
      behind = h.behind;
      read = read ∙ ap (λ (xs : List Record). Ok (kinds.Records from xs)) h.split;
      wants = subst (λ x. WantsAnswer s x h.at) here (asked-handles s c h.at h.on h.over);
      puts = more n.stored.next c.node.stored.next put h.counted ∙ ap (λ (x : Node). x.stored.next - n.stored.next) here;
    }

-- ---- ticks

stored-at_tick : (s : Setting) (n : Node) → (at_tick s n).stored ≡ n.stored
unfolding passed
stored-at_tick s n = stored-lives s _ (begun n)

next-spread : (s : Setting) (n : Node) → (spread_at s n).node.stored.next ≡ n.stored.next
next-spread s n = ap (λ (k : Stored). k.next) (stored-spread s n ∙ stored-at_tick s n)

pub tick-stops : StoppedTickEnds
tick-stops s n put stop =
    let ends = tick-ends s n stop.before stop.at stop.behind stop.silent stop.unaccused stop.left in
    let it = put-accusing s n stop.before stop.at stop.behind stop.silent ends.over in
    let same : put ≡ it.put =
    less n.stored.next it.put put (stop.puts ∙ ap (λ k. k - n.stored.next) (it.counted ∙ ap (λ k. k + it.put) (next-spread s n))) in
    subst (StopsBehind _ _ _) (sym (ap (λ k. called s n Ticks (Some k)) same ∙ it.is)) ends

-- an accusation that ends the call is wanted
record IsWanted (s : Setting) (c : Call) (m : ℕ) : Type 0 where
  unaccused : has_accused s (state_of s c.node) m ≡ false
  left : is_used_up s c.node ≡ false

wanted-left : (s : Setting) (m : ℕ) (ring : Option ℕ) (c : Call) → c.ended ≡ false → (wants_accusation false s m ring c).ended ≡ true → is_used_up s c.node ≡ false
wanted-left s m None c going over = absurd (ended-apart c.ended over going)
wanted-left s m (Some ring) c going over = wants-left s (accusation_on s (state_of s c.node) m ring) (neighbours_and s m) c going over

wanted-accuses : (s : Setting) (c : Call) (m : ℕ) → c.ended ≡ false → (accuses false s c m).ended ≡ true → IsWanted s c m
unfolding accuses
wanted-accuses s c m going over =
    let test : Bool = has_accused s (state_of s c.node) m in
    let ring : Option ℕ = ring_for s (state_of s c.node) m in
    let c1 : Call = tells s (told.Silent m) c in
    let wanted : Call = wants_accusation false s m ring c1 in
    elim (cases_Bool test) [
      | inl already ↦ absurd (ended-apart c.ended (ap (λ (x : Call). x.ended) (sym (chosen test c wanted already)) ∙ over) going)
      | inr none ↦ record { unaccused = none; left = wanted-left s m ring c1 going (ap (λ (x : Call). x.ended) (sym (other test c wanted none)) ∙ over) }
    ]

only-accuses : (s : Setting) (n : Node) (put : ℕ) → (fold (accuses_on counting s) (counts (spread_at s n) (Some put)) (silent_in s (at_tick s n) (state_of s (at_tick s n)))).call.ended ≡ true → StopsAccusing s n put
unfolding silent_at
only-accuses s n put over =
    let st : State = state_of s (at_tick s n) in
    let silent : List ℕ = silent_in s (at_tick s n) st in
    let c0 : Call = spread_at s n in
    let h = stopped-at (λ works c x. accuses works s c x) silent c0 put (all-accuse s) (on-spread s n)
    (ap (λ (o : OnDisk (Option ℕ)). o.call.ended) (sym (accused-on counting s (counts c0 (Some put)) silent)) ∙ over) in
    let c : Call = accuses_all s h.before c0 in
    let wanted = wanted-accuses s c h.at h.on h.over in
    let whole : Stands s st c0 0 (h.before ++ h.at ∷ h.behind) = subst (Stands s st c0 0) h.split (starts s n) in
    let next = stands-behind s st c0 0 h.before (h.at ∷ h.behind) whole in
    record {
      before = h.before;
      at = h.at;
      behind = h.behind;
      silent = h.split;
      unaccused = sym (next.1.same h.at (inl refl)) ∙ wanted.unaccused;
      left = wanted.left;
      puts = more n.stored.next c.node.stored.next put (h.counted ∙ ap (λ k. k + put) (next-spread s n));
    }

only-ticks : (s : Setting) (n : Node) (put : ℕ) → (ticked_on counting s n (Some put)).call.ended ≡ true → StopsAccusing s n put
unfolding ticked_on due_on spread_at
only-ticks s n put over =
    let st : State = state_of s (at_tick s n) in
    let silent : List ℕ = silent_in s (at_tick s n) st in
    let sent : List (ℕ × ℕ) = pings_in s (at_tick s n) st in
    let round : ℕ = round_of s st in
    let d : OnDisk (Option ℕ) = counts (probed_at s n) (Some put) in
    let d1 : OnDisk (Option ℕ) = fold (accuses_on counting s) (counts (spread_at s n) (Some put)) silent in
    let ended : OnDisk (Option ℕ) → Bool = λ o. o.call.ended in
    elim (cases_Bool (is_due s st)) [
      | inr never ↦ absurd (ended-apart _ (ap ended (sym (other (is_due s st) (due_on counting s silent sent round d) d never)) ∙ over) (on-probed s n))
      | inl due ↦
          let due_over : (due_on counting s silent sent round d).call.ended ≡ true = ap ended (sym (chosen (is_due s st) (due_on counting s silent sent round d) d due)) ∙ over in
          (elim (cases_Bool d1.call.ended) [
            | inl is ↦ only-accuses s n put is
            | inr isnt ↦
                let f : due_on counting s silent sent round d ≡ record d1 { call = gossips s round (pings_all s sent d1.call) } = other d1.call.ended _ _ isnt in
                absurd (ended-apart d1.call.ended (sym (on-gossips s sent round d1.call) ∙ ap ended (sym f) ∙ due_over) isnt)
          ])
    ]

-- ---- leaving

left-over : (s : Setting) (n : Node) → is_used_up s n ≡ false → left_until s n ≡ stops s (begun n)
unfolding left_until leaves
left-over s n index = wants-failing s (leaving s n.stored) (neighbours s) (begun n) index

pub leaving-stops : StoppedLeavingEnds
leaving-stops s n put stop =
    let ends : left_until s n ≡ stops s (begun n) = left-over s n stop.left in
    let over : (left_until s n).ended ≡ true = ap (λ (c : Call). c.ended) ends in
    subst (StopsAtOnce s n) (sym (ap (λ k. called s n Leaves (Some k)) stop.first ∙ put-leaving s n over ∙ ends)) (record { told = refl; sent_so = refl; node_so = refl; over = refl })

one-left : (s : Setting) (n : Node) (before : List ℕ) (at : ℕ) (behind : List ℕ) (put : ℕ) → 0 ∷ [] ≡ before ++ at ∷ behind → (fold (leaves_once s true) (begun n) before).node.stored.next ≡ n.stored.next + put
    → (leaves_once s false (fold (leaves_once s true) (begun n) before) at).ended ≡ true → StopsLeaving s n put
unfolding leaves
one-left s n [] at behind put split counted over = record { left = wants-left s (leaving s n.stored) (neighbours s) (begun n) refl over; first = omega (arith, counted) }
one-left s n (x ∷ before) at behind put split counted over = absurd (no_more before split)
  where
    no_more : (xs : List ℕ) → 0 ∷ [] ≡ x ∷ (xs ++ at ∷ behind) → ⊥
    no_more [] e = cc
    no_more (y ∷ ys) e = cc

only-leaves : (s : Setting) (n : Node) (put : ℕ) → (left_on counting s n (Some put)).call.ended ≡ true → StopsLeaving s n put
unfolding left_on
only-leaves s n put over =
    let h = stopped-at (leaves_once s) (0 ∷ []) (begun n) put (all-leave s) refl over in
    one-left s n h.before h.at h.behind put h.split h.counted h.over

-- ---- which puts end calls

pub only-signatures : OnlySignaturesStop
unfolding called delivered_on
only-signatures s n (Delivers bytes) put over = only-hears s n bytes put (read_of bytes) refl over
only-signatures s n Ticks put over = only-ticks s n put over
only-signatures s n Leaves put over = only-leaves s n put over

going-whole : (s : Setting) (n : Node) (i : Input) (c : Call) → ComesSoFar s n i c → c.ended ≡ false → c ≡ call_of s n i
going-whole s n (Delivers bytes) c (inl whole) going = whole.is
going-whole s n (Delivers bytes) c (inr cut) going = absurd (ended-apart c.ended cut.over going)
going-whole s n Ticks c (inl whole) going = whole.is
going-whole s n Ticks c (inr cut) going = absurd (ended-apart c.ended cut.over going)
going-whole s n Leaves c (inl whole) going = whole.is
going-whole s n Leaves c (inr cut) going = absurd (ended-apart c.ended cut.over going)

pub whole-calls : WholeCallsGoOn
whole-calls s n i = record {
  whole = called-none s n i;
  others = λ fails_at going. going-whole s n i (called s n i fails_at) (called-so_far s n i fails_at) going;
  goes_on = whole-goes_on s n i;
}
