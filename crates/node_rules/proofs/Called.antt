-- How far a call over a disk comes, whatever that is: to its end, or to a step in which the put fails. So each is the call
-- in which one put fails, or none.
use Rattle.std.proofs.Common.{◌≡◌, ◌⊎◌, ℕ, zero, suc, ◌+◌, Bool, true, false, eqb, cond, List, [], ◌∷◌, ◌++◌, Option, Some, None, inl, inr, refl, ap, sym, ◌∙◌, subst, arith, take}
use Rattle.std.specs.Prelude.{Result, Ok, Err, fold}
use Rattle.std.specs.List.{slice_get}
use Rattle.std.proofs.lemmas.Bool.{cases_Bool, false≢true, eq-eqb}
use Rattle.std.proofs.lemmas.Bool.Decides.{nat_tests}
use Rattle.ff_ids.specs.declared.Fault.{Fault}
use Rattle.ff_ids.specs.declared.NoteBody.{NoteBody}
use Rattle.ff_ids.specs.Views.{State}
use Rattle.records.specs.declared.Body.{Body}
use Rattle.records.specs.declared.Body.TheVariants.{Note}
use Rattle.records.specs.declared.Record.{Record}
use Rattle.epoch_store.specs.declared.Stored.{Stored}
use Rattle.signer.proofs.StepLemmas.{next_index}
use Rattle.datagram.specs.declared.Datagram.{Datagram}
use Rattle.datagram.specs.declared.Datagram.TheVariants as kinds
use Rattle.datagram.specs.Grammar.{read_of}
use Rattle.journal.specs.declared.event.What.TheVariants as told
use Rattle.node_rules.specs.Nodes.{Setting, Node, state_of, neighbours, neighbours_and}
use Rattle.node_rules.specs.Refusals.{refusal}
use Rattle.node_rules.specs.Calls.{Call, begun, tells, signs, signs_and_sends, wants, is_used_up, own_record}
use Rattle.node_rules.specs.Deliveries.{asked_with, gives_note, settles, judged, handles, handles_all, hears, delivered}
use Rattle.node_rules.specs.Ticking.{accusation_on, ring_for, has_accused, wants_accusation, accuses, accuses_all, gossips, is_due, passed, pings_all, pings_in, spreads, probed_at, spread_at, round_of, silent_in, silent_at, ticked, due_tick}
use Rattle.node_rules.specs.Leaving.{leaving, leaves, left}
use Rattle.node_rules.specs.OnDisks.{Input, Delivers, Ticks, Leaves, Storage, OnDisk, puts, takes_step, steps_on, handles_on, hears_on, delivered_on, accuses_on, due_on, ticked_on, left_on, called_on, counting, called, IsCut}
use Rattle.node_rules.specs.Lives.{call_of}
use Rattle.node_rules.proofs.Small.{node-sends_to_all, stored-signs, stored-settles}
use Rattle.node_rules.proofs.GoingOn.{on-handles, on-accuses, on-leaves, on-hears, on-pings_all, on-summary, on-probed, on-spread}

-- The disk fails in the answer to the record behind these.
unfoldable pub delivered_until : Setting → Node → List Record → Record → Call
delivered_until s n records r = handles false s (handles_all s records (begun n)) r

-- The disk fails in the accusation of the member behind these.
unfoldable pub ticked_until : Setting → Node → List ℕ → ℕ → Call
ticked_until s n accused m = accuses false s (accuses_all s accused (spread_at s n)) m

-- The disk fails in the note by which the node leaves.
unfoldable pub left_until : Setting → Node → Call
left_until s n = leaves false s (begun n)

pub chosen : {A : Type 0} (b : Bool) (x y : A) → b ≡ true → cond b x y ≡ x
chosen true x y e = refl
chosen false x y e = cc

pub other : {A : Type 0} (b : Bool) (x y : A) → b ≡ false → cond b x y ≡ y
other true x y e = cc
other false x y e = refl

-- ---- steps

-- A step asks for no put, and is the same whether one would fail; or it asks for one, and ends the life where that fails.
pub data StepIs (c : Call) (f : Bool → Call) : Type 0 where
  plain : (f true).node.stored.next ≡ c.node.stored.next → f false ≡ f true → StepIs c f
  signing : (f true).node.stored.next ≡ c.node.stored.next + 1 → (f false).ended ≡ true → StepIs c f

next-made : (s : Setting) (body : Body) (to : State → List ℕ) (c : Call) → (signs_and_sends s body to c).node.stored.next ≡ c.node.stored.next + 1
unfolding signs_and_sends
next-made s body to c =
    ap (λ (n : Node). n.stored.next) (node-sends_to_all s (to (state_of s (signs s body c).node)) (kinds.Records s.me (own_record s c.node body ∷ [])) (signs s body c))
    ∙ ap (λ (k : Stored). k.next) (stored-signs s body c) ∙ next_index c.node.stored body

wants-used : (works : Bool) (s : Setting) (body : Body) (to : State → List ℕ) (c : Call) → is_used_up s c.node ≡ true → wants works s body to c ≡ tells s (told.Exhausted c.node.stored.next) c
unfolding wants
wants-used works s body to c up = rw up refl

wants-made : (s : Setting) (body : Body) (to : State → List ℕ) (c : Call) → is_used_up s c.node ≡ false → wants true s body to c ≡ signs_and_sends s body to c
unfolding wants
wants-made s body to c left = rw left refl

wants-over : (s : Setting) (body : Body) (to : State → List ℕ) (c : Call) → is_used_up s c.node ≡ false → (wants false s body to c).ended ≡ true
unfolding wants
wants-over s body to c left = rw left refl

step-wants : (s : Setting) (c d : Call) (body : Body) (to : State → List ℕ) → d.node.stored ≡ c.node.stored → StepIs c (λ works. wants works s body to d)
step-wants s c d body to same =
    elim (cases_Bool (is_used_up s d.node)) [
      | inl up ↦
          let e : (works : Bool) → wants works s body to d ≡ tells s (told.Exhausted d.node.stored.next) d = λ works. wants-used works s body to d up in
          plain (ap (λ (x : Call). x.node.stored.next) (e true) ∙ ap (λ (k : Stored). k.next) same) (e false ∙ sym (e true))
      | inr left ↦
          signing (ap (λ (x : Call). x.node.stored.next) (wants-made s body to d left) ∙ next-made s body to d ∙ ap (λ (k : Stored). k.next + 1) same) (wants-over s body to d left)
    ]

step-gives_note : (s : Setting) (c d : Call) (note : Option NoteBody) → d.node.stored ≡ c.node.stored → StepIs c (λ works. gives_note works s note d)
step-gives_note s c d None same = plain (ap (λ (k : Stored). k.next) same) refl
step-gives_note s c d (Some note) same = step-wants s c d (Note note) (neighbours s) same

step-judged : (s : Setting) (c : Call) (fault : Option Fault) (r : Record) → StepIs c (λ works. judged works s fault r c)
step-judged s c fault r = step-gives_note s c (settles s fault r c) (asked_with s c.node fault r.body r) (stored-settles s fault r c)

pub step-handles : (s : Setting) (c : Call) (r : Record) → StepIs c (λ works. handles works s c r)
unfolding handles
step-handles s c r = step-judged s c (refusal s c.node r) r

step-wants_accusation : (s : Setting) (c d : Call) (m : ℕ) (ring : Option ℕ) → d.node.stored ≡ c.node.stored → StepIs c (λ works. wants_accusation works s m ring d)
step-wants_accusation s c d m None same = plain (ap (λ (k : Stored). k.next) same) refl
step-wants_accusation s c d m (Some ring) same = step-wants s c d (accusation_on s (state_of s d.node) m ring) (neighbours_and s m) same

step-unless : (c : Call) (b : Bool) (f : Bool → Call) → StepIs c f → StepIs c (λ works. cond b c (f works))
step-unless c true f k = plain refl refl
step-unless c false f k = k

pub step-accuses : (s : Setting) (c : Call) (m : ℕ) → StepIs c (λ works. accuses works s c m)
unfolding accuses
step-accuses s c m =
    step-unless c (has_accused s (state_of s c.node) m) (λ works. wants_accusation works s m (ring_for s (state_of s c.node) m) (tells s (told.Silent m) c))
    (step-wants_accusation s c (tells s (told.Silent m) c) m (ring_for s (state_of s c.node) m) refl)

step-leaves : (s : Setting) (c : Call) → StepIs c (λ works. leaves works s c)
unfolding leaves
step-leaves s c = step-wants s c c (leaving s c.node.stored) (neighbours s) refl

-- The steps of a call of one kind, each of which goes on where no put fails.
pub record AreSteps {X : Type 0} (f : Bool → Call → X → Call) : Type 0 where
  pub goes : (c : Call) (x : X) → (f true c x).ended ≡ c.ended
  pub each : (c : Call) (x : X) → StepIs c (λ works. f works c x)

pub all-handle : (s : Setting) → AreSteps (λ works c x. handles works s c x)
all-handle s = record { goes = on-handles s; each = step-handles s }

pub all-accuse : (s : Setting) → AreSteps (λ works c x. accuses works s c x)
all-accuse s = record { goes = on-accuses s; each = step-accuses s }

-- Leaving is one step, whatever number it is given.
abbrev pub leaves_once : Setting → Bool → Call → ℕ → Call
leaves_once s works c x = leaves works s c

pub all-leave : (s : Setting) → AreSteps (leaves_once s)
all-leave s = record { goes = λ c x. on-leaves s c; each = λ c x. step-leaves s c }

-- ---- one step over a disk

goes-step : {D X : Type 0} (storage : Storage D) (f : Bool → Call → X → Call) (d : OnDisk D) (x : X) → d.call.ended ≡ false → steps_on storage f d x ≡ takes_step storage (λ works. f works d.call x) d
goes-step storage f d x going = other d.call.ended d _ going

over-step : {D X : Type 0} (storage : Storage D) (f : Bool → Call → X → Call) (d : OnDisk D) (x : X) → d.call.ended ≡ true → steps_on storage f d x ≡ d
over-step storage f d x over = chosen d.call.ended d _ over

pub plain-step : {D : Type 0} (storage : Storage D) (step : Bool → Call) (d : OnDisk D) → (step true).node.stored.next ≡ d.call.node.stored.next → takes_step storage step d ≡ record d { call = step true }
plain-step storage step d same = chosen _ _ _ (eq-eqb (step true).node.stored.next d.call.node.stored.next same)

differs : (a b : ℕ) → a ≡ b + 1 → eqb a b ≡ false
differs a b e = grind (arith, nat_tests, e)

pub put-step : {D : Type 0} (storage : Storage D) (step : Bool → Call) (d : OnDisk D) → (step true).node.stored.next ≡ d.call.node.stored.next + 1 → takes_step storage step d ≡ puts storage step d
put-step storage step d rises = other _ _ _ (differs (step true).node.stored.next d.call.node.stored.next rises)

pub ended-stays : {D X : Type 0} (storage : Storage D) (f : Bool → Call → X → Call) (xs : List X) (d : OnDisk D) → d.call.ended ≡ true → fold (steps_on storage f) d xs ≡ d
ended-stays storage f [] d h = refl
ended-stays storage f (x ∷ xs) d h = ap (λ e. fold (steps_on storage f) e xs) (over-step storage f d x h) ∙ ended-stays storage f xs d h

-- ---- how far steps come

-- All the steps were taken, or the put failed in one, behind those before it.
abbrev pub Comes : {X : Type 0} → (Bool → Call → X → Call) → Call → List X → Call → Type 0
Comes {X} f c xs e =
    ((e.ended ≡ false) × (e ≡ fold (f true) c xs))
    ⊎ ((place : ℕ) × (x : X) × ((slice_get xs place ≡ Some x) × (e ≡ f false (fold (f true) c (take place xs)) x) × (e.ended ≡ true)))

-- What one step comes to.
one_step : {D X : Type 0} (storage : Storage D) (f : Bool → Call → X → Call) (d : OnDisk D) (x : X) → AreSteps f → d.call.ended ≡ false
    → ((((steps_on storage f d x).call ≡ f true d.call x) × ((steps_on storage f d x).call.ended ≡ false)) ⊎ (((steps_on storage f d x).call ≡ f false d.call x) × ((steps_on storage f d x).call.ended ≡ true)))
one_step {D} storage f d x all going =
    let step : Bool → Call = λ works. f works d.call x in
    let first : steps_on storage f d x ≡ takes_step storage step d = goes-step storage f d x going in
    let on : (f true d.call x).ended ≡ false = all.goes d.call x ∙ going in
    elim (all.each d.call x) [
      | plain same either ↦
          let e : (steps_on storage f d x).call ≡ f true d.call x = ap (λ (o : OnDisk D). o.call) (first ∙ plain-step storage step d same) in
          inl (e, ap (λ (c : Call). c.ended) e ∙ on)
      | signing rises over ↦
          let at : (steps_on storage f d x).call ≡ step (storage.takes (step true).node.stored d.disk) = ap (λ (o : OnDisk D). o.call) (first ∙ put-step storage step d rises) in
          (elim (cases_Bool (storage.takes (step true).node.stored d.disk)) [
            | inl good ↦ let e : (steps_on storage f d x).call ≡ f true d.call x = at ∙ ap step good in inl (e, ap (λ (c : Call). c.ended) e ∙ on)
            | inr bad ↦ let e : (steps_on storage f d x).call ≡ f false d.call x = at ∙ ap step bad in inr (e, ap (λ (c : Call). c.ended) e ∙ over)
          ])
    ]

pub comes : {D X : Type 0} (storage : Storage D) (f : Bool → Call → X → Call) (xs : List X) (d : OnDisk D) → AreSteps f → d.call.ended ≡ false → Comes f d.call xs (fold (steps_on storage f) d xs).call
comes storage f [] d all going = inl (going, refl)
comes {D} {X} storage f (x ∷ xs) d all going =
    let d1 : OnDisk D = steps_on storage f d x in
    elim (one_step storage f d x all going) [
      | inl it ↦
          (elim (comes storage f xs d1 all it.1) [
            | inl whole ↦ inl (whole.0, whole.1 ∙ ap (λ (c : Call). fold (f true) c xs) it.0)
            | inr cut ↦ inr (suc cut.0, cut.1, (cut.2.0, cut.2.1 ∙ ap (λ (c : Call). f false (fold (f true) c (take cut.0 xs)) cut.1) it.0, cut.2.2))
          ])
      | inr it ↦
          let stays : (fold (steps_on storage f) d1 xs).call ≡ d1.call = ap (λ (o : OnDisk D). o.call) (ended-stays storage f xs d1 it.1) in
          inr (zero, x, (refl, stays ∙ it.0, ap (λ (c : Call). c.ended) stays ∙ it.1))
    ]

-- ---- which put it is

abbrev pub counts : Call → Option ℕ → OnDisk (Option ℕ)
counts c fails_at = record { call = c; disk = fails_at }

-- where none fails, all steps are taken
none-fails : {X : Type 0} (f : Bool → Call → X → Call) (xs : List X) (c : Call) → AreSteps f → c.ended ≡ false → fold (steps_on counting f) (counts c None) xs ≡ counts (fold (f true) c xs) None
none-fails f [] c all going = refl
none-fails f (x ∷ xs) c all going =
    let step : Bool → Call = λ works. f works c x in
    let first : steps_on counting f (counts c None) x ≡ takes_step counting step (counts c None) = goes-step counting f (counts c None) x going in
    let rest : fold (steps_on counting f) (counts (f true c x) None) xs ≡ counts (fold (f true) (f true c x) xs) None = none-fails f xs (f true c x) all (all.goes c x ∙ going) in
    elim (all.each c x) [
      | plain same either ↦ ap (λ o. fold (steps_on counting f) o xs) (first ∙ plain-step counting step (counts c None) same) ∙ rest
      | signing rises over ↦ ap (λ o. fold (steps_on counting f) o xs) (first ∙ put-step counting step (counts c None) rises) ∙ rest
    ]

-- The put of a step, behind those of the steps before it.
pub record IsPut {X : Type 0} (f : Bool → Call → X → Call) (c : Call) (before : List X) (x : X) (behind : List X) : Type 0 where
  pub put : ℕ
  pub counted : (fold (f true) c before).node.stored.next ≡ c.node.stored.next + put
  pub comes_there : (fold (steps_on counting f) (counts c (Some put)) (before ++ x ∷ behind)).call ≡ f false (fold (f true) c before) x

pub ended-apart : (b : Bool) → b ≡ true → b ≡ false → ⊥
ended-apart b is isnt = false≢true (sym isnt ∙ is)

put-at : {X : Type 0} (f : Bool → Call → X → Call) (before : List X) (x : X) (behind : List X) (c : Call) → AreSteps f → c.ended ≡ false → (f false (fold (f true) c before) x).ended ≡ true → IsPut f c before x behind
put-at f [] x behind c all going over =
    let step : Bool → Call = λ works. f works c x in
    let d : OnDisk (Option ℕ) = counts c (Some zero) in
    elim (all.each c x) [
      | plain same either ↦ absurd (ended-apart (f false c x).ended over (ap (λ (z : Call). z.ended) either ∙ all.goes c x ∙ going))
      | signing rises ends ↦
          let at : steps_on counting f d x ≡ counts (f false c x) (Some zero) = goes-step counting f d x going ∙ put-step counting step d rises in
          record {
            put = zero;
            counted = omega arith;
            comes_there = ap (λ (o : OnDisk (Option ℕ)). (fold (steps_on counting f) o behind).call) at ∙ ap (λ (o : OnDisk (Option ℕ)). o.call) (ended-stays counting f behind (counts (f false c x) (Some zero)) over);
          }
    ]
put-at f (y ∷ before) x behind c all going over =
    let step : Bool → Call = λ works. f works c y in
    let c1 : Call = f true c y in
    let later = put-at f before x behind c1 all (all.goes c y ∙ going) over in
    let rest : List _ = before ++ x ∷ behind in
    elim (all.each c y) [
      | plain same either ↦
          let d : OnDisk (Option ℕ) = counts c (Some later.put) in
          let at : steps_on counting f d y ≡ counts c1 (Some later.put) = goes-step counting f d y going ∙ plain-step counting step d same in
          record {
            put = later.put;
            counted = later.counted ∙ ap (λ k. k + later.put) same;
            comes_there = ap (λ (o : OnDisk (Option ℕ)). (fold (steps_on counting f) o rest).call) at ∙ later.comes_there;
          }
      | signing rises ends ↦
          let d : OnDisk (Option ℕ) = counts c (Some (suc later.put)) in
          let at : steps_on counting f d y ≡ counts c1 (Some later.put) = goes-step counting f d y going ∙ put-step counting step d rises in
          record {
            put = suc later.put;
            counted = omega (arith, later.counted, rises);
            comes_there = ap (λ (o : OnDisk (Option ℕ)). (fold (steps_on counting f) o rest).call) at ∙ later.comes_there;
          }
    ]

-- Steps that a failing put has ended: the step that asked for it, behind those before it.
pub record IsStopped {X : Type 0} (f : Bool → Call → X → Call) (c : Call) (xs : List X) (put : ℕ) : Type 0 where
  pub before : List X
  pub at : X
  pub behind : List X
  pub split : xs ≡ before ++ at ∷ behind
  pub counted : (fold (f true) c before).node.stored.next ≡ c.node.stored.next + put
  pub on : (fold (f true) c before).ended ≡ false
  pub over : (f false (fold (f true) c before) at).ended ≡ true

-- behind a step that asks for a put
stopped-behind : {X : Type 0} (f : Bool → Call → X → Call) (x : X) (xs : List X) (c : Call) (put : ℕ) → c.ended ≡ false → (f true c x).node.stored.next ≡ c.node.stored.next + 1 → (f false c x).ended ≡ true
    → ((k : ℕ) → (fold (steps_on counting f) (counts (f true c x) (Some k)) xs).call.ended ≡ true → IsStopped f (f true c x) xs k) → (fold (steps_on counting f) (counts c (Some put)) (x ∷ xs)).call.ended ≡ true → IsStopped f c (x ∷ xs) put
stopped-behind f x xs c zero going rises ends rest over = record { before = []; at = x; behind = xs; split = refl; counted = omega arith; on = going; over = ends }
stopped-behind f x xs c (suc k) going rises ends rest over =
    let step : Bool → Call = λ works. f works c x in
    let d : OnDisk (Option ℕ) = counts c (Some (suc k)) in
    let at : steps_on counting f d x ≡ counts (f true c x) (Some k) = goes-step counting f d x going ∙ put-step counting step d rises in
    let h = rest k (ap (λ (o : OnDisk (Option ℕ)). (fold (steps_on counting f) o xs).call.ended) (sym at) ∙ over) in
    record { before = x ∷ h.before; at = h.at; behind = h.behind; split = ap (λ ys. x ∷ ys) h.split; counted = omega (arith, h.counted, rises); on = h.on; over = h.over }

pub stopped-at : {X : Type 0} (f : Bool → Call → X → Call) (xs : List X) (c : Call) (put : ℕ) → AreSteps f → c.ended ≡ false → (fold (steps_on counting f) (counts c (Some put)) xs).call.ended ≡ true → IsStopped f c xs put
stopped-at f [] c put all going over = absurd (ended-apart c.ended over going)
stopped-at f (x ∷ xs) c put all going over =
    let step : Bool → Call = λ works. f works c x in
    let d : OnDisk (Option ℕ) = counts c (Some put) in
    let on : (f true c x).ended ≡ false = all.goes c x ∙ going in
    elim (all.each c x) [
      | plain same either ↦
          let at : steps_on counting f d x ≡ counts (f true c x) (Some put) = goes-step counting f d x going ∙ plain-step counting step d same in
          let h = stopped-at f xs (f true c x) put all on (ap (λ (o : OnDisk (Option ℕ)). (fold (steps_on counting f) o xs).call.ended) (sym at) ∙ over) in
          record { before = x ∷ h.before; at = h.at; behind = h.behind; split = ap (λ ys. x ∷ ys) h.split; counted = h.counted ∙ ap (λ k. k + put) same; on = h.on; over = h.over }
      | signing rises ends ↦ stopped-behind f x xs c put going rises ends (λ k ended. stopped-at f xs (f true c x) k all on ended) over
    ]

-- what is found at a place stands behind those before it
pub split-at : {X : Type 0} (xs : List X) (place : ℕ) (x : X) → slice_get xs place ≡ Some x → (behind : List X) × (xs ≡ take place xs ++ x ∷ behind)
split-at [] zero x found = cc
split-at [] (suc place) x found = cc
split-at (y ∷ ys) zero x found = (ys, cc)
split-at (y ∷ ys) (suc place) x found = let rest = split-at ys place x found in (rest.0, ap (λ zs. y ∷ zs) rest.1)

-- ---- whole calls, and those that a failing put ends

-- The call was answered whole.
pub record IsWhole (c whole : Call) : Type 0 where
  pub is : c ≡ whole
  pub going : c.ended ≡ false

-- The put failed in the answer to a record of the datagram.
pub record IsCutAnswering (s : Setting) (n : Node) (bytes : List ℕ) (c : Call) : Type 0 where
  pub from : ℕ
  pub records : List Record
  pub read : read_of bytes ≡ Ok (kinds.Records from records)
  pub place : ℕ
  pub at : Record
  pub found : slice_get records place ≡ Some at
  pub is : c ≡ delivered_until s n (take place records) at
  pub over : c.ended ≡ true

-- The put failed in the accusation of a silent member.
pub record IsCutAccusing (s : Setting) (n : Node) (c : Call) : Type 0 where
  pub place : ℕ
  pub at : ℕ
  pub found : slice_get (silent_at s n) place ≡ Some at
  pub is : c ≡ ticked_until s n (take place (silent_at s n)) at
  pub over : c.ended ≡ true

-- The put failed for the note by which the node leaves.
pub record IsCutLeaving (s : Setting) (n : Node) (c : Call) : Type 0 where
  pub is : c ≡ left_until s n
  pub over : c.ended ≡ true

pub until-is : (s : Setting) (n : Node) (records : List Record) (r : Record) → delivered_until s n records r ≡ handles false s (handles_all s records (begun n)) r
unfolding delivered_until
until-is s n records r = refl

pub until-ticked : (s : Setting) (n : Node) (silent : List ℕ) (m : ℕ) → ticked_until s n silent m ≡ accuses false s (accuses_all s silent (spread_at s n)) m
unfolding ticked_until
until-ticked s n silent m = refl

-- A call is whole, or a failing put ended it.
abbrev pub ComesSoFar : Setting → Node → Input → Call → Type 0
ComesSoFar s n (Delivers bytes) c = IsWhole c (delivered s n bytes) ⊎ IsCutAnswering s n bytes c
ComesSoFar s n Ticks c = IsWhole c (ticked s n) ⊎ IsCutAccusing s n c
ComesSoFar s n Leaves c = IsWhole c (left s n) ⊎ IsCutLeaving s n c

fold-same : {A X : Type 0} (g h : A → X → A) (a : A) (xs : List X) → ((a : A) (x : X) → g a x ≡ h a x) → fold g a xs ≡ fold h a xs
fold-same g h a [] same = refl
fold-same g h a (x ∷ xs) same = ap (λ b. fold g b xs) (same a x) ∙ fold-same g h (h a x) xs same

pub handled-on : {D : Type 0} (storage : Storage D) (s : Setting) (d : OnDisk D) (records : List Record) → fold (handles_on storage s) d records ≡ fold (steps_on storage (λ works c x. handles works s c x)) d records
unfolding handles_on
handled-on storage s d records = fold-same (handles_on storage s) (steps_on storage (λ works c x. handles works s c x)) d records (λ o r. refl)

pub accused-on : {D : Type 0} (storage : Storage D) (s : Setting) (d : OnDisk D) (silent : List ℕ) → fold (accuses_on storage s) d silent ≡ fold (steps_on storage (λ works c x. accuses works s c x)) d silent
unfolding accuses_on
accused-on storage s d silent = fold-same (accuses_on storage s) (steps_on storage (λ works c x. accuses works s c x)) d silent (λ o m. refl)

so_far-hears : {D : Type 0} (storage : Storage D) (s : Setting) (n : Node) (bytes : List ℕ) (disk : D) (heard : Result Datagram ℕ) → read_of bytes ≡ heard
    → IsWhole (hears_on storage s heard (record { call = begun n; disk = disk })).call (hears s heard (begun n)) ⊎ IsCutAnswering s n bytes (hears_on storage s heard (record { call = begun n; disk = disk })).call
unfolding delivered_until
so_far-hears storage s n bytes disk (Err place) read = inl (record { is = refl; going = on-hears s (Err place) (begun n) })
so_far-hears storage s n bytes disk (Ok (kinds.Ping from nonce)) read = inl (record { is = refl; going = on-hears s (Ok (kinds.Ping from nonce)) (begun n) })
so_far-hears storage s n bytes disk (Ok (kinds.Pong from nonce)) read = inl (record { is = refl; going = on-hears s (Ok (kinds.Pong from nonce)) (begun n) })
so_far-hears storage s n bytes disk (Ok (kinds.Summary from flag theirs)) read = inl (record { is = refl; going = on-hears s (Ok (kinds.Summary from flag theirs)) (begun n) })
so_far-hears {D} storage s n bytes disk (Ok (kinds.Records from records)) read =
    let d : OnDisk D = record { call = begun n; disk = disk } in
    let same : (fold (handles_on storage s) d records).call ≡ (fold (steps_on storage (λ works c x. handles works s c x)) d records).call = ap (λ (o : OnDisk D). o.call) (handled-on storage s d records) in
    elim (comes storage (λ works c x. handles works s c x) records d (all-handle s) refl) [
      | inl whole ↦ inl (record { is = same ∙ whole.1; going = ap (λ (c : Call). c.ended) same ∙ whole.0 })
      | inr cut ↦ inr (record { from = from; records = records; read = read; place = cut.0; at = cut.1; found = cut.2.0; is = same ∙ cut.2.1; over = ap (λ (c : Call). c.ended) same ∙ cut.2.2 })
    ]

pub on-gossips : (s : Setting) (pings : List (ℕ × ℕ)) (round : ℕ) (c : Call) → (gossips s round (pings_all s pings c)).ended ≡ c.ended
on-gossips s pings round c = on-summary s round _ (pings_all s pings c) ∙ on-pings_all s pings c

so_far-ticks : {D : Type 0} (storage : Storage D) (s : Setting) (n : Node) (disk : D) → IsWhole (ticked_on storage s n disk).call (ticked s n) ⊎ IsCutAccusing s n (ticked_on storage s n disk).call
unfolding ticked_on due_on ticked due_tick silent_at ticked_until spread_at
so_far-ticks {D} storage s n disk =
    let p : Node = (passed s n).node in
    let st : State = state_of s p in
    let silent : List ℕ = silent_in s p st in
    let sent : List (ℕ × ℕ) = pings_in s p st in
    let round : ℕ = round_of s st in
    let d0 : OnDisk D = record { call = probed_at s n; disk = disk } in
    let d : OnDisk D = record { call = spreads s (probed_at s n); disk = disk } in
    let d1 : OnDisk D = fold (accuses_on storage s) d silent in
    elim (cases_Bool (is_due s st)) [
      | inr never ↦
          let e : ticked_on storage s n disk ≡ d0 = other (is_due s st) _ _ never in
          let t : ticked s n ≡ probed_at s n = other (is_due s st) _ _ never in
          inl (record { is = ap (λ (o : OnDisk D). o.call) e ∙ sym t; going = ap (λ (o : OnDisk D). o.call.ended) e ∙ on-probed s n })
      | inl due ↦
          let e : ticked_on storage s n disk ≡ due_on storage s silent sent round d0 = chosen (is_due s st) _ _ due in
          let t : ticked s n ≡ due_tick s silent sent round (probed_at s n) = chosen (is_due s st) _ _ due in
          let same : d1.call ≡ (fold (steps_on storage (λ works c x. accuses works s c x)) d silent).call = ap (λ (o : OnDisk D). o.call) (accused-on storage s d silent) in
          (elim (comes storage (λ works c x. accuses works s c x) silent d (all-accuse s) (on-spread s n)) [
            | inl whole ↦
                let on : d1.call.ended ≡ false = ap (λ (c : Call). c.ended) same ∙ whole.0 in
                let f : due_on storage s silent sent round d0 ≡ record d1 { call = gossips s round (pings_all s sent d1.call) } = other d1.call.ended _ _ on in
                inl (record {
                  is = ap (λ (o : OnDisk D). o.call) (e ∙ f) ∙ ap (λ (c : Call). gossips s round (pings_all s sent c)) (same ∙ whole.1) ∙ sym t;
                  going = ap (λ (o : OnDisk D). o.call.ended) (e ∙ f) ∙ on-gossips s sent round d1.call ∙ on;
                })
            | inr cut ↦
                let over : d1.call.ended ≡ true = ap (λ (c : Call). c.ended) same ∙ cut.2.2 in
                let f : due_on storage s silent sent round d0 ≡ d1 = chosen d1.call.ended _ _ over in
                inr (record {
                  place = cut.0;
                  at = cut.1;
                  found = cut.2.0;
                  is = ap (λ (o : OnDisk D). o.call) (e ∙ f) ∙ same ∙ cut.2.1;
                  over = ap (λ (o : OnDisk D). o.call.ended) (e ∙ f) ∙ over;
                })
          ])
    ]

so_far-leaves : {D : Type 0} (storage : Storage D) (s : Setting) (n : Node) (disk : D) → IsWhole (left_on storage s n disk).call (left s n) ⊎ IsCutLeaving s n (left_on storage s n disk).call
unfolding left_on left left_until
so_far-leaves {D} storage s n disk =
    let d : OnDisk D = record { call = begun n; disk = disk } in
    elim (one_step storage (leaves_once s) d 0 (all-leave s) refl) [
      | inl it ↦ inl (record { is = it.0; going = it.1 })
      | inr it ↦ inr (record { is = it.0; over = it.1 })
    ]

pub so_far : {D : Type 0} (storage : Storage D) (s : Setting) (n : Node) (i : Input) (disk : D) → ComesSoFar s n i (called_on storage s n i disk).call
unfolding delivered_on delivered
so_far storage s n (Delivers bytes) disk = so_far-hears storage s n bytes disk (read_of bytes) refl
so_far storage s n Ticks disk = so_far-ticks storage s n disk
so_far storage s n Leaves disk = so_far-leaves storage s n disk

pub called-so_far : (s : Setting) (n : Node) (i : Input) (fails_at : Option ℕ) → ComesSoFar s n i (called s n i fails_at)
unfolding called
called-so_far s n i fails_at = so_far counting s n i fails_at

-- ---- which call it is

none-hears : (s : Setting) (n : Node) (heard : Result Datagram ℕ) → (hears_on counting s heard (counts (begun n) None)).call ≡ hears s heard (begun n)
none-hears s n (Err place) = refl
none-hears s n (Ok (kinds.Ping from nonce)) = refl
none-hears s n (Ok (kinds.Pong from nonce)) = refl
none-hears s n (Ok (kinds.Summary from flag theirs)) = refl
none-hears s n (Ok (kinds.Records from records)) =
    ap (λ (o : OnDisk (Option ℕ)). o.call) (handled-on counting s (counts (begun n) None) records ∙ none-fails (λ works c x. handles works s c x) records (begun n) (all-handle s) refl)

none-ticks : (s : Setting) (n : Node) → (ticked_on counting s n None).call ≡ ticked s n
unfolding ticked_on due_on ticked due_tick spread_at
none-ticks s n =
    let p : Node = (passed s n).node in
    let st : State = state_of s p in
    let silent : List ℕ = silent_in s p st in
    let sent : List (ℕ × ℕ) = pings_in s p st in
    let round : ℕ = round_of s st in
    let d0 : OnDisk (Option ℕ) = counts (probed_at s n) None in
    let c : Call = spreads s (probed_at s n) in
    let d : OnDisk (Option ℕ) = counts c None in
    let d1 : OnDisk (Option ℕ) = fold (accuses_on counting s) d silent in
    let whole : Call = accuses_all s silent c in
    elim (cases_Bool (is_due s st)) [
      | inr never ↦
          let e : ticked_on counting s n None ≡ d0 = other (is_due s st) _ _ never in
          let t : ticked s n ≡ probed_at s n = other (is_due s st) _ _ never in
          ap (λ (o : OnDisk (Option ℕ)). o.call) e ∙ sym t
      | inl due ↦
          let e : ticked_on counting s n None ≡ due_on counting s silent sent round d0 = chosen (is_due s st) _ _ due in
          let t : ticked s n ≡ due_tick s silent sent round (probed_at s n) = chosen (is_due s st) _ _ due in
          let same : d1 ≡ counts whole None = accused-on counting s d silent ∙ none-fails (λ works c x. accuses works s c x) silent c (all-accuse s) (on-spread s n) in
          let on : d1.call.ended ≡ false = ap (λ (o : OnDisk (Option ℕ)). o.call.ended) same ∙ on-accused s silent c ∙ on-spread s n in
          let f : due_on counting s silent sent round d0 ≡ record d1 { call = gossips s round (pings_all s sent d1.call) } = other d1.call.ended _ _ on in
          ap (λ (o : OnDisk (Option ℕ)). o.call) (e ∙ f) ∙ ap (λ (o : OnDisk (Option ℕ)). gossips s round (pings_all s sent o.call)) same ∙ sym t
    ]
  where
    on-accused : (s : Setting) (silent : List ℕ) (c : Call) → (accuses_all s silent c).ended ≡ c.ended
    on-accused s [] c = refl
    on-accused s (m ∷ silent) c = on-accused s silent (accuses true s c m) ∙ on-accuses s c m

none-leaves : (s : Setting) (n : Node) → (left_on counting s n None).call ≡ left s n
unfolding left_on left
none-leaves s n = ap (λ (o : OnDisk (Option ℕ)). o.call) (none-fails (leaves_once s) (0 ∷ []) (begun n) (all-leave s) refl)

-- the call in which no put fails is whole
pub called-none : (s : Setting) (n : Node) (i : Input) → called s n i None ≡ call_of s n i
unfolding called delivered_on delivered
called-none s n (Delivers bytes) = none-hears s n (read_of bytes)
called-none s n Ticks = none-ticks s n
called-none s n Leaves = none-leaves s n

-- The call in which a put fails, behind so many others, for the answer to a record.
pub record IsPutAnswering (s : Setting) (n : Node) (bytes : List ℕ) (before : List Record) (at : Record) : Type 0 where
  pub put : ℕ
  pub counted : (handles_all s before (begun n)).node.stored.next ≡ n.stored.next + put
  pub is : called s n (Delivers bytes) (Some put) ≡ delivered_until s n before at

pub put-answering : (s : Setting) (n : Node) (bytes : List ℕ) (from : ℕ) (before : List Record) (at : Record) (behind : List Record)
    → read_of bytes ≡ Ok (kinds.Records from (before ++ at ∷ behind)) → (delivered_until s n before at).ended ≡ true → IsPutAnswering s n bytes before at
unfolding called delivered_on delivered_until
put-answering s n bytes from before at behind read over =
    let records : List Record = before ++ at ∷ behind in
    let it = put-at (λ works c x. handles works s c x) before at behind (begun n) (all-handle s) refl over in
    let d : OnDisk (Option ℕ) = counts (begun n) (Some it.put) in
    record {
      put = it.put;
      counted = it.counted;
      is = ap (λ (heard : Result Datagram ℕ). (hears_on counting s heard d).call) read ∙ ap (λ (o : OnDisk (Option ℕ)). o.call) (handled-on counting s d records) ∙ it.comes_there;
    }

-- The same, for the accusation of a member.
pub record IsPutAccusing (s : Setting) (n : Node) (before : List ℕ) (at : ℕ) : Type 0 where
  pub put : ℕ
  pub counted : (accuses_all s before (spread_at s n)).node.stored.next ≡ (spread_at s n).node.stored.next + put
  pub is : called s n Ticks (Some put) ≡ ticked_until s n before at

pub put-accusing : (s : Setting) (n : Node) (before : List ℕ) (at : ℕ) (behind : List ℕ) → silent_at s n ≡ before ++ at ∷ behind → (ticked_until s n before at).ended ≡ true → IsPutAccusing s n before at
unfolding called ticked_on due_on silent_at ticked_until spread_at
put-accusing s n before at behind is over =
    let p : Node = (passed s n).node in
    let st : State = state_of s p in
    let silent : List ℕ = silent_in s p st in
    let sent : List (ℕ × ℕ) = pings_in s p st in
    let round : ℕ = round_of s st in
    let it = put-at (λ works c x. accuses works s c x) before at behind (spread_at s n) (all-accuse s) (on-spread s n) over in
    let d0 : OnDisk (Option ℕ) = counts (probed_at s n) (Some it.put) in
    let d : OnDisk (Option ℕ) = counts (spread_at s n) (Some it.put) in
    let d1 : OnDisk (Option ℕ) = fold (accuses_on counting s) d silent in
    let there : d1.call ≡ accuses false s (accuses_all s before (spread_at s n)) at = ap (λ (o : OnDisk (Option ℕ)). o.call) (accused-on counting s d silent)
    ∙ ap (λ (xs : List ℕ). (fold (steps_on counting (λ works c x. accuses works s c x)) d xs).call) is ∙ it.comes_there in
    elim (cases_Bool (is_due s st)) [
      | inr never ↦ absurd (not-nothing before (sym is ∙ other (is_due s st) _ _ never))
      | inl due ↦
          let e : ticked_on counting s n (Some it.put) ≡ due_on counting s silent sent round d0 = chosen (is_due s st) _ _ due in
          let f : due_on counting s silent sent round d0 ≡ d1 = chosen d1.call.ended _ _ (ap (λ (c : Call). c.ended) there ∙ over) in
          record { put = it.put; counted = it.counted; is = ap (λ (o : OnDisk (Option ℕ)). o.call) (e ∙ f) ∙ there }
    ]
  where
    not-nothing : (before : List ℕ) → before ++ at ∷ behind ≡ [] → ⊥
    not-nothing [] e = cc
    not-nothing (x ∷ xs) e = cc

-- The first put of a call to leave is for the note.
pub put-leaving : (s : Setting) (n : Node) → (left_until s n).ended ≡ true → called s n Leaves (Some 0) ≡ left_until s n
unfolding called left_on left_until
put-leaving s n over =
    let it = put-at (leaves_once s) [] 0 [] (begun n) (all-leave s) refl over in
    let first : 0 ≡ it.put = omega (arith, it.counted) in
    ap (λ k. (fold (steps_on counting (leaves_once s)) (counts (begun n) (Some k)) (0 ∷ [])).call) first ∙ it.comes_there

-- A call that a failing put ends, as the definition counts it.
pub cut-answering : (s : Setting) (n : Node) (bytes : List ℕ) (c : Call) → IsCutAnswering s n bytes c → IsCut s n (Delivers bytes) c
cut-answering s n bytes c h =
    let split = split-at h.records h.place h.at h.found in
    let it = put-answering s n bytes h.from (take h.place h.records) h.at split.0 (h.read ∙ ap (λ (xs : List Record). Ok (kinds.Records h.from xs)) split.1) (ap (λ (x : Call). x.ended) (sym h.is) ∙ h.over) in
    record { put = it.put; is = h.is ∙ sym it.is; ended = h.over }

pub cut-accusing : (s : Setting) (n : Node) (c : Call) → IsCutAccusing s n c → IsCut s n Ticks c
cut-accusing s n c h =
    let split = split-at (silent_at s n) h.place h.at h.found in
    let it = put-accusing s n (take h.place (silent_at s n)) h.at split.0 split.1 (ap (λ (x : Call). x.ended) (sym h.is) ∙ h.over) in
    record { put = it.put; is = h.is ∙ sym it.is; ended = h.over }

pub cut-leaving : (s : Setting) (n : Node) (c : Call) → IsCutLeaving s n c → IsCut s n Leaves c
cut-leaving s n c h = record { put = 0; is = h.is ∙ sym (put-leaving s n (ap (λ (x : Call). x.ended) (sym h.is) ∙ h.over)); ended = h.over }

-- A call that is whole or cut is the one in which some put fails, or none.
pub is-called : (s : Setting) (n : Node) (i : Input) (c : Call) → ComesSoFar s n i c → (fails_at : Option ℕ) × (c ≡ called s n i fails_at)
is-called s n (Delivers bytes) c (inl whole) = (None, whole.is ∙ sym (called-none s n (Delivers bytes)))
is-called s n (Delivers bytes) c (inr cut) = let it = cut-answering s n bytes c cut in (Some it.put, it.is)
is-called s n Ticks c (inl whole) = (None, whole.is ∙ sym (called-none s n Ticks))
is-called s n Ticks c (inr cut) = let it = cut-accusing s n c cut in (Some it.put, it.is)
is-called s n Leaves c (inl whole) = (None, whole.is ∙ sym (called-none s n Leaves))
is-called s n Leaves c (inr cut) = let it = cut-leaving s n c cut in (Some it.put, it.is)

-- Over whatever disk, a call is the one in which some put fails, or none.
pub called-over : {D : Type 0} (storage : Storage D) (s : Setting) (n : Node) (i : Input) (disk : D) → (fails_at : Option ℕ) × ((called_on storage s n i disk).call ≡ called s n i fails_at)
called-over storage s n i disk = is-called s n i (called_on storage s n i disk).call (so_far storage s n i disk)

-- What holds of the whole call, and of each that a failing put ends, holds of each.
pub holds-called : (s : Setting) (n : Node) (P : Input → Call → Type 0) → ((i : Input) → P i (call_of s n i)) → ((bytes : List ℕ) (records : List Record) (r : Record) → P (Delivers bytes) (delivered_until s n records r))
    → ((silent : List ℕ) (m : ℕ) → P Ticks (ticked_until s n silent m)) → P Leaves (left_until s n) → (i : Input) (fails_at : Option ℕ) → P i (called s n i fails_at)
holds-called s n P whole answering accusing departing i fails_at = by i (called s n i fails_at) (called-so_far s n i fails_at)
  where
    by : (i : Input) (c : Call) → ComesSoFar s n i c → P i c
    by (Delivers bytes) c (inl h) = subst (P (Delivers bytes)) (sym h.is) (whole (Delivers bytes))
    by (Delivers bytes) c (inr h) = subst (P (Delivers bytes)) (sym h.is) (answering bytes (take h.place h.records) h.at)
    by Ticks c (inl h) = subst (P Ticks) (sym h.is) (whole Ticks)
    by Ticks c (inr h) = subst (P Ticks) (sym h.is) (accusing (take h.place (silent_at s n)) h.at)
    by Leaves c (inl h) = subst (P Leaves) (sym h.is) (whole Leaves)
    by Leaves c (inr h) = subst (P Leaves) (sym h.is) departing
