-- Calls of a node over two kinds of disk that take the same.
use Rattle.std.proofs.Common.{◌≡◌, ℕ, ◌+◌, Bool, true, false, eqb, cond, List, [], ◌∷◌, refl, ap, sym, ◌∙◌, subst, arith, eq-eqb, inl, inr}
use Rattle.std.specs.Prelude.{fold, Result, Ok, Err}
use Rattle.std.proofs.lemmas.Bool.{cases_Bool, false≢true}
use Rattle.std.proofs.lemmas.Bool.Decides.{nat_tests}
use Rattle.records.specs.declared.Body.{Body}
use Rattle.records.specs.declared.Record.{Record}
use Rattle.datagram.specs.declared.Datagram.{Datagram}
use Rattle.datagram.specs.declared.Datagram.TheVariants as kinds
use Rattle.datagram.specs.Grammar.{read_of}
use Rattle.epoch_store.specs.declared.Stored.{Stored}
use Rattle.signer.specs.Signing.{stored_after}
use Rattle.signer.proofs.StepLemmas.{next_index}
use Rattle.ff_ids.specs.Views.{State}
use Rattle.node_rules.specs.Nodes.{Setting, Node, state_of}
use Rattle.node_rules.specs.Calls.{Call, begun, signs_and_sends}
use Rattle.node_rules.specs.Deliveries.{handles, hears}
use Rattle.node_rules.specs.Ticking.{accuses, gossips, is_due, passed, pings_all, pings_in, probed_at, round_of, silent_in, spreads}
use Rattle.node_rules.specs.Leaving.{leaves}
use Rattle.node_rules.specs.Lives.{Input, Delivers, Ticks, Leaves}
use Rattle.node_rules.specs.OnDisks.{Storage, OnDisk, takes_step, goes_on, steps_on, handles_on, hears_on, delivered_on, accuses_on, due_on, ticked_on, left_on, called_on}
use Rattle.world_rules.proofs.CallSteps.{StepIs, SpendsNothing, SpendsOne, MaySign, plain, signing, nothing-hears, nothing-spreads, nothing-gossips, nothing-probed_at, one-behind, one-signs_and_sends, step-handles, step-accuses, step-leaves}

-- Two kinds of disk that take the same of a node: where they stand alike for what the store keeps, they take the next entry
-- or fail in it alike, and stand alike behind it.
pub record AreAlike {D E : Type 0} (s : Setting) (a : Storage D) (b : Storage E) (Stand : Stored → D → E → Type 0) (Fell : D → E → Type 0) : Type 0 where
  pub takes : (kept : Stored) (body : Body) (d : D) (e : E) → Stand kept d e → MaySign s kept body → a.takes (stored_after kept body) d ≡ b.takes (stored_after kept body) e
  pub stand : (kept : Stored) (body : Body) (d : D) (e : E) → Stand kept d e → MaySign s kept body → a.takes (stored_after kept body) d ≡ true → Stand (stored_after kept body) (a.behind (stored_after kept body) d) (b.behind (stored_after kept body) e)
  pub fell : (kept : Stored) (body : Body) (d : D) (e : E) → Stand kept d e → MaySign s kept body → a.takes (stored_after kept body) d ≡ false → Fell (a.behind (stored_after kept body) d) (b.behind (stored_after kept body) e)

-- The call is the same over both disks.
pub record IsSame {D E : Type 0} (Stand : Stored → D → E → Type 0) (Fell : D → E → Type 0) (x : OnDisk D) (y : OnDisk E) : Type 0 where
  pub call : x.call ≡ y.call
  pub stand : x.call.ended ≡ false → Stand x.call.node.stored x.disk y.disk
  pub fell : x.call.ended ≡ true → Fell x.disk y.disk

-- ---- a step

idle-step : {D : Type 0} (storage : Storage D) (f : Bool → Call) (c : Call) (d : D) → eqb (f true).node.stored.next c.node.stored.next ≡ true → takes_step storage f (record { call = c; disk = d }) ≡ record { call = f true; disk = d }
idle-step storage f c d same = rw same refl

putting-step : {D : Type 0} (storage : Storage D) (f : Bool → Call) (c : Call) (d : D) (kept : Stored) → (f true).node.stored ≡ kept → eqb kept.next c.node.stored.next ≡ false
    → takes_step storage f (record { call = c; disk = d }) ≡ record { call = f (storage.takes kept d); disk = storage.behind kept d }
putting-step storage f c d kept is apart =
    let test : eqb (f true).node.stored.next c.node.stored.next ≡ false = ap (λ (k : Stored). eqb k.next c.node.stored.next) is ∙ apart in
    rw test (ap (λ (k : Stored). record { call = f (storage.takes k d); disk = storage.behind k d }) is)

next-apart : (n m : ℕ) → m ≡ n + 1 → eqb m n ≡ false
next-apart n m is = grind (arith, nat_tests, is)

same-plain : {D E : Type 0} (s : Setting) (Stand : Stored → D → E → Type 0) (Fell : D → E → Type 0) (c next : Call) (d : D) (e : E) → SpendsNothing s c next → c.ended ≡ false → Stand c.node.stored d e
    → IsSame Stand Fell (record { call = next; disk = d }) (record { call = next; disk = e })
same-plain s Stand Fell c next d e h going st =
    record {
      call = refl;
      stand = λ on. subst (λ (k : Stored). Stand k d e) (sym h.stored) st;
      fell = λ over. absurd (false≢true (sym (h.ended ∙ going) ∙ over));
    }

step-same : {D E : Type 0} (s : Setting) (a : Storage D) (b : Storage E) (Stand : Stored → D → E → Type 0) (Fell : D → E → Type 0) (f : Bool → Call) (c : Call) (d : D) (e : E) → AreAlike s a b Stand Fell → StepIs s c f → c.ended ≡ false → Stand c.node.stored d e
    → IsSame Stand Fell (takes_step a f (record { call = c; disk = d })) (takes_step b f (record { call = c; disk = e }))
step-same s a b Stand Fell f c d e alike (plain h) going st =
    let test : eqb (f true).node.stored.next c.node.stored.next ≡ true = eq-eqb _ _ (ap (λ (k : Stored). k.next) h.stored) in
    rw (idle-step a f c d test, idle-step b f c e test) (same-plain s Stand Fell c (f true) d e h going st)
step-same s a b Stand Fell f c d e alike (signing m body to h may made stopped) going st =
    let one : SpendsOne s c (signs_and_sends s body to m) body = one-behind s c m (signs_and_sends s body to m) body h (one-signs_and_sends s body to m) in
    let kept : Stored = stored_after c.node.stored body in
    let is : (f true).node.stored ≡ kept = ap (λ (z : Call). z.node.stored) made ∙ one.stored in
    let may2 : MaySign s c.node.stored body = subst (λ z. MaySign s z body) h.stored may in
    let apart : eqb kept.next c.node.stored.next ≡ false = next-apart c.node.stored.next kept.next (next_index c.node.stored body) in
    let alike_now : a.takes kept d ≡ b.takes kept e = alike.takes c.node.stored body d e st may2 in
    let on : (f true).ended ≡ false = ap (λ (z : Call). z.ended) made ∙ one.ended ∙ going in
    let over : (f false).ended ≡ true = ap (λ (z : Call). z.ended) stopped in
    rw (putting-step a f c d kept is apart, putting-step b f c e kept is apart, ← alike_now)
    (elim (cases_Bool (a.takes kept d)) [
      | inl taken ↦
          let st2 = alike.stand c.node.stored body d e st may2 taken in
          rw taken (record { call = refl; stand = λ goes. subst (λ (k : Stored). Stand k (a.behind kept d) (b.behind kept e)) (sym is) st2; fell = λ ends. absurd (false≢true (sym on ∙ ends)) })
      | inr failed ↦
          let fell2 = alike.fell c.node.stored body d e st may2 failed in
          rw failed (record { call = refl; stand = λ goes. absurd (false≢true (sym goes ∙ over)); fell = λ ends. fell2 })
    ])

-- ---- steps in turn

over-same : {D : Type 0} (step : OnDisk D → OnDisk D) (o : OnDisk D) → o.call.ended ≡ true → goes_on step o ≡ o
over-same step o over = rw over refl

going-same : {D : Type 0} (step : OnDisk D → OnDisk D) (o : OnDisk D) → o.call.ended ≡ false → goes_on step o ≡ step o
going-same step o going = rw going refl

steps-same : {D E X : Type 0} (s : Setting) (a : Storage D) (b : Storage E) (Stand : Stored → D → E → Type 0) (Fell : D → E → Type 0) (f : Bool → Call → X → Call) (c : Call) (d : D) (e : E) (z : X) → AreAlike s a b Stand Fell → StepIs s c (λ works. f works c z)
    → IsSame Stand Fell (record { call = c; disk = d }) (record { call = c; disk = e }) → IsSame Stand Fell (steps_on a f (record { call = c; disk = d }) z) (steps_on b f (record { call = c; disk = e }) z)
steps-same s a b Stand Fell f c d e z alike step same =
    elim (cases_Bool c.ended) [
      | inl over ↦ rw (over-same (takes_step a (λ works. f works c z)) (record { call = c; disk = d }) over, over-same (takes_step b (λ works. f works c z)) (record { call = c; disk = e }) over) same
      | inr going ↦ rw (going-same (takes_step a (λ works. f works c z)) (record { call = c; disk = d }) going, going-same (takes_step b (λ works. f works c z)) (record { call = c; disk = e }) going)
          (step-same s a b Stand Fell (λ works. f works c z) c d e alike step going (same.stand going))
    ]

-- both calls are this one
these-same : {D E : Type 0} (Stand : Stored → D → E → Type 0) (Fell : D → E → Type 0) (x : OnDisk D) (y : OnDisk E) → IsSame Stand Fell x y → IsSame Stand Fell (record { call = x.call; disk = x.disk }) (record { call = x.call; disk = y.disk })
these-same Stand Fell x y h = record { call = refl; stand = h.stand; fell = h.fell }

handles-same : {D E : Type 0} (s : Setting) (a : Storage D) (b : Storage E) (Stand : Stored → D → E → Type 0) (Fell : D → E → Type 0) (x : OnDisk D) (y : OnDisk E) (r : Record) → AreAlike s a b Stand Fell → IsSame Stand Fell x y
    → IsSame Stand Fell (handles_on a s x r) (handles_on b s y r)
unfolding handles_on
handles-same s a b Stand Fell x y r alike h =
    subst (λ (c : Call). IsSame Stand Fell (steps_on a (λ works c z. handles works s c z) x r) (steps_on b (λ works c z. handles works s c z) (record { call = c; disk = y.disk }) r)) h.call
    (steps-same s a b Stand Fell (λ works c z. handles works s c z) x.call x.disk y.disk r alike (step-handles s x.call r) (these-same Stand Fell x y h))

all-same : {D E : Type 0} (s : Setting) (a : Storage D) (b : Storage E) (Stand : Stored → D → E → Type 0) (Fell : D → E → Type 0) (records : List Record) (x : OnDisk D) (y : OnDisk E) → AreAlike s a b Stand Fell → IsSame Stand Fell x y
    → IsSame Stand Fell (fold (handles_on a s) x records) (fold (handles_on b s) y records)
all-same s a b Stand Fell [] x y alike h = h
all-same s a b Stand Fell (r ∷ records) x y alike h = all-same s a b Stand Fell records (handles_on a s x r) (handles_on b s y r) alike (handles-same s a b Stand Fell x y r alike h)

accuses-same : {D E : Type 0} (s : Setting) (a : Storage D) (b : Storage E) (Stand : Stored → D → E → Type 0) (Fell : D → E → Type 0) (x : OnDisk D) (y : OnDisk E) (m : ℕ) → AreAlike s a b Stand Fell → IsSame Stand Fell x y
    → IsSame Stand Fell (accuses_on a s x m) (accuses_on b s y m)
unfolding accuses_on
accuses-same s a b Stand Fell x y m alike h =
    subst (λ (c : Call). IsSame Stand Fell (steps_on a (λ works c z. accuses works s c z) x m) (steps_on b (λ works c z. accuses works s c z) (record { call = c; disk = y.disk }) m)) h.call
    (steps-same s a b Stand Fell (λ works c z. accuses works s c z) x.call x.disk y.disk m alike (step-accuses s x.call m) (these-same Stand Fell x y h))

all-accused-same : {D E : Type 0} (s : Setting) (a : Storage D) (b : Storage E) (Stand : Stored → D → E → Type 0) (Fell : D → E → Type 0) (silent : List ℕ) (x : OnDisk D) (y : OnDisk E) → AreAlike s a b Stand Fell → IsSame Stand Fell x y
    → IsSame Stand Fell (fold (accuses_on a s) x silent) (fold (accuses_on b s) y silent)
all-accused-same s a b Stand Fell [] x y alike h = h
all-accused-same s a b Stand Fell (m ∷ silent) x y alike h = all-accused-same s a b Stand Fell silent (accuses_on a s x m) (accuses_on b s y m) alike (accuses-same s a b Stand Fell x y m alike h)

-- ---- calls

begun-same : {D E : Type 0} (Stand : Stored → D → E → Type 0) (Fell : D → E → Type 0) (c : Call) (d : D) (e : E) → c.ended ≡ false → Stand c.node.stored d e → IsSame Stand Fell (record { call = c; disk = d }) (record { call = c; disk = e })
begun-same Stand Fell c d e going st = record { call = refl; stand = λ on. st; fell = λ over. absurd (false≢true (sym going ∙ over)) }

heard-same : {D E : Type 0} (s : Setting) (a : Storage D) (b : Storage E) (Stand : Stored → D → E → Type 0) (Fell : D → E → Type 0) (heard : Result Datagram ℕ) (c : Call) (d : D) (e : E) → AreAlike s a b Stand Fell → c.ended ≡ false → Stand c.node.stored d e
    → IsSame Stand Fell (hears_on a s heard (record { call = c; disk = d })) (hears_on b s heard (record { call = c; disk = e }))
heard-same s a b Stand Fell (Err place) c d e alike going st = same-plain s Stand Fell c (hears s (Err place) c) d e (nothing-hears s (Err place) c tt) going st
heard-same s a b Stand Fell (Ok (kinds.Ping from nonce)) c d e alike going st = same-plain s Stand Fell c (hears s (Ok (kinds.Ping from nonce)) c) d e (nothing-hears s (Ok (kinds.Ping from nonce)) c tt) going st
heard-same s a b Stand Fell (Ok (kinds.Pong from nonce)) c d e alike going st = same-plain s Stand Fell c (hears s (Ok (kinds.Pong from nonce)) c) d e (nothing-hears s (Ok (kinds.Pong from nonce)) c tt) going st
heard-same s a b Stand Fell (Ok (kinds.Summary from flag theirs)) c d e alike going st = same-plain s Stand Fell c (hears s (Ok (kinds.Summary from flag theirs)) c) d e (nothing-hears s (Ok (kinds.Summary from flag theirs)) c tt) going st
heard-same s a b Stand Fell (Ok (kinds.Records from records)) c d e alike going st =
    all-same s a b Stand Fell records (record { call = c; disk = d }) (record { call = c; disk = e }) alike (begun-same Stand Fell c d e going st)

pub delivered-same : {D E : Type 0} (s : Setting) (a : Storage D) (b : Storage E) (Stand : Stored → D → E → Type 0) (Fell : D → E → Type 0) (n : Node) (bytes : List ℕ) (d : D) (e : E) → AreAlike s a b Stand Fell → Stand n.stored d e
    → IsSame Stand Fell (delivered_on a s n bytes d) (delivered_on b s n bytes e)
unfolding delivered_on
delivered-same s a b Stand Fell n bytes d e alike st = heard-same s a b Stand Fell (read_of bytes) (begun n) d e alike refl st

behind-same : {D E : Type 0} (s : Setting) (Stand : Stored → D → E → Type 0) (Fell : D → E → Type 0) (pings : List (ℕ × ℕ)) (round : ℕ) (c : Call) (d : D) (e : E) → IsSame Stand Fell (record { call = c; disk = d }) (record { call = c; disk = e })
    → IsSame Stand Fell (goes_on (λ o. record o { call = gossips s round (pings_all s pings o.call) }) (record { call = c; disk = d })) (goes_on (λ o. record o { call = gossips s round (pings_all s pings o.call) }) (record { call = c; disk = e }))
behind-same {D = D} {E = E} s Stand Fell pings round c d e h =
    let next : Call = gossips s round (pings_all s pings c) in
    let first : OnDisk D → OnDisk D = λ o. record o { call = gossips s round (pings_all s pings o.call) } in
    let second : OnDisk E → OnDisk E = λ o. record o { call = gossips s round (pings_all s pings o.call) } in
    elim (cases_Bool c.ended) [
      | inl over ↦ rw (over-same first (record { call = c; disk = d }) over, over-same second (record { call = c; disk = e }) over) h
      | inr going ↦ rw (going-same first (record { call = c; disk = d }) going, going-same second (record { call = c; disk = e }) going) (same-plain s Stand Fell c next d e (nothing-gossips s round pings c) going (h.stand going))
    ]

due-same : {D E : Type 0} (s : Setting) (a : Storage D) (b : Storage E) (Stand : Stored → D → E → Type 0) (Fell : D → E → Type 0) (silent : List ℕ) (pings : List (ℕ × ℕ)) (round : ℕ) (c : Call) (d : D) (e : E) → AreAlike s a b Stand Fell → c.ended ≡ false → Stand c.node.stored d e
    → IsSame Stand Fell (due_on a s silent pings round (record { call = c; disk = d })) (due_on b s silent pings round (record { call = c; disk = e }))
unfolding due_on
due-same s a b Stand Fell silent pings round c d e alike going st =
    let c0 : Call = spreads s c in
    let none : SpendsNothing s c c0 = nothing-spreads s c in
    let st0 : Stand c0.node.stored d e = subst (λ (k : Stored). Stand k d e) (sym none.stored) st in
    let x : OnDisk _ = fold (accuses_on a s) (record { call = c0; disk = d }) silent in
    let y : OnDisk _ = fold (accuses_on b s) (record { call = c0; disk = e }) silent in
    let h : IsSame Stand Fell x y =
    all-accused-same s a b Stand Fell silent (record { call = c0; disk = d }) (record { call = c0; disk = e }) alike (begun-same Stand Fell c0 d e (none.ended ∙ going) st0) in
    subst (λ (k : Call). IsSame Stand Fell (goes_on (λ o. record o { call = gossips s round (pings_all s pings o.call) }) x) (goes_on (λ o. record o { call = gossips s round (pings_all s pings o.call) }) (record { call = k; disk = y.disk }))) h.call
    (behind-same s Stand Fell pings round x.call x.disk y.disk (these-same Stand Fell x y h))

one-same : {D E : Type 0} (Stand : Stored → D → E → Type 0) (Fell : D → E → Type 0) (b : Bool) (x1 x2 : OnDisk D) (y1 y2 : OnDisk E) → (b ≡ true → IsSame Stand Fell x1 y1) → (b ≡ false → IsSame Stand Fell x2 y2) → IsSame Stand Fell (cond b x1 x2) (cond b y1 y2)
one-same Stand Fell true x1 x2 y1 y2 h k = h refl
one-same Stand Fell false x1 x2 y1 y2 h k = k refl

pub ticked-same : {D E : Type 0} (s : Setting) (a : Storage D) (b : Storage E) (Stand : Stored → D → E → Type 0) (Fell : D → E → Type 0) (n : Node) (d : D) (e : E) → AreAlike s a b Stand Fell → Stand n.stored d e
    → IsSame Stand Fell (ticked_on a s n d) (ticked_on b s n e)
unfolding ticked_on
ticked-same {D = D} {E = E} s a b Stand Fell n d e alike st =
    let p : Node = (passed s n).node in
    let now : State = state_of s p in
    let none = nothing-probed_at s n in
    let st2 : Stand (probed_at s n).node.stored d e = subst (λ (k : Stored). Stand k d e) (sym none.stored) st in
    let x : OnDisk D = record { call = probed_at s n; disk = d } in
    let y : OnDisk E = record { call = probed_at s n; disk = e } in
    let silent : List ℕ = silent_in s p now in
    let pings : List (ℕ × ℕ) = pings_in s p now in
    let round : ℕ = round_of s now in
    one-same Stand Fell (is_due s now) (due_on a s silent pings round x) x (due_on b s silent pings round y) y
    (λ due. due-same s a b Stand Fell silent pings round (probed_at s n) d e alike none.ended st2)
    (λ idle. begun-same Stand Fell (probed_at s n) d e none.ended st2)

pub left-same : {D E : Type 0} (s : Setting) (a : Storage D) (b : Storage E) (Stand : Stored → D → E → Type 0) (Fell : D → E → Type 0) (n : Node) (d : D) (e : E) → AreAlike s a b Stand Fell → Stand n.stored d e
    → IsSame Stand Fell (left_on a s n d) (left_on b s n e)
unfolding left_on
left-same s a b Stand Fell n d e alike st = step-same s a b Stand Fell (λ works. leaves works s (begun n)) (begun n) d e alike (step-leaves s (begun n)) refl st

-- A call is the same over two kinds of disk that take the same.
pub called-same : {D E : Type 0} (s : Setting) (a : Storage D) (b : Storage E) (Stand : Stored → D → E → Type 0) (Fell : D → E → Type 0) (n : Node) (i : Input) (d : D) (e : E) → AreAlike s a b Stand Fell → Stand n.stored d e
    → IsSame Stand Fell (called_on a s n i d) (called_on b s n i e)
called-same s a b Stand Fell n (Delivers bytes) d e alike st = delivered-same s a b Stand Fell n bytes d e alike st
called-same s a b Stand Fell n Ticks d e alike st = ticked-same s a b Stand Fell n d e alike st
called-same s a b Stand Fell n Leaves d e alike st = left-same s a b Stand Fell n d e alike st
