-- No store of a world keeps a next index that its key doesn't have.
use Rattle.std.proofs.Common.{◌≡◌, ℕ, ◌<◌, ◌≤◌, Bool, true, false, eqb, cond, List, [], ◌∷◌, sym, subst, arith}
use Rattle.std.specs.Prelude.{Result, Ok, Err, fold}
use Rattle.std.proofs.lemmas.Bool.{cond_both}
use Rattle.std.proofs.lemmas.Bool.Decides.{nat_tests}
use Rattle.ff_ids.specs.Views.{State}
use Rattle.ff_ids.specs.Steps.{Ticks as Passes}
use Rattle.records.specs.declared.Body.{Body}
use Rattle.records.specs.declared.Body.TheVariants.{Accusation, Note}
use Rattle.records.specs.declared.Record.{Record}
use Rattle.epoch_store.specs.declared.Stored.{Stored}
use Rattle.datagram.specs.declared.Datagram.{Datagram}
use Rattle.datagram.specs.declared.Datagram.TheVariants as kinds
use Rattle.datagram.specs.Grammar.{read_of}
use Rattle.node_rules.specs.Nodes as node
use Rattle.node_rules.specs.Nodes.{Node, state_of}
use Rattle.node_rules.specs.Calls.{Call, begun, takes, signs, is_used_up}
use Rattle.node_rules.specs.Deliveries.{answer_to, handles, returning_note}
use Rattle.node_rules.specs.Ticking.{accuses, is_due, passed, pings_in, probed_at, round_of, silent_in, spreads}
use Rattle.node_rules.specs.Leaving.{leaving, leaves}
use Rattle.node_rules.specs.Lives.{Input, Delivers, Ticks, Leaves}
use Rattle.node_rules.proofs.Small.{node-sends, stored-takes, stored-signs}
use Rattle.node_rules.proofs.OwnNote.{stored-lives}
use Rattle.world_rules.specs.Disks.{Disk, after_put, stopped_in_put, put_passes}
use Rattle.node_rules.specs.OnDisks.{puts, takes_step, steps_on, accuses_on, hears_on, delivered_on, due_on, ticked_on, left_on}
use Rattle.node_rules.proofs.Called.{accused-on, handled-on}
use Rattle.world_rules.specs.Calls.{OnDisk, called_on, world_storage}
use Rattle.world_rules.proofs.OnDisks.{left-state, next-after}
use Rattle.world_laws.proofs.Handing.{Hands, AnyRecord, any-handed, hands-accuses, hands-called, hands-handles, hands-leaves, hands-probed_at, hands-spreads, joined}

-- ---- in a call

abbrev pub IsBounded : node.Setting → Stored → Type 0
IsBounded s kept = kept.next ≤ s.indexes

pub index-left : (s : node.Setting) (n : Node) → is_used_up s n ≡ false → IsBounded s n.stored → n.stored.next < s.indexes
index-left s n left within = grind (arith, nat_tests, left, within)

bounded-signs : (s : node.Setting) (b : Body) (c : Call) → is_used_up s c.node ≡ false → IsBounded s c.node.stored → IsBounded s (signs s b c).node.stored
bounded-signs s b c left h = subst (IsBounded s) (sym (stored-signs s b c)) (omega (arith, next-after c.node.stored b, index-left s c.node left h))

bounded-takes : (s : node.Setting) (r : Record) (c : Call) → IsBounded s c.node.stored → IsBounded s (takes s r c).node.stored
bounded-takes s r c h = subst (IsBounded s) (sym (stored-takes s r c)) h

pub bounding : (s : node.Setting) → Hands s AnyRecord (λ c. IsBounded s c.node.stored)
bounding s =
    joined s AnyRecord (λ c. IsBounded s c.node.stored) (record {
      told = λ what c plain h. h;
      judged = λ r c any h. h;
      sent = λ d c to h. subst (λ (n : Node). IsBounded s n.stored) (sym (node-sends s d c to)) h;
      taken = λ r c any fine h. bounded-takes s r c h;
      answered = λ r a c any fine is me may left h. bounded-signs s (answer_to s (takes s r c).node.stored a) (takes s r c) left (bounded-takes s r c h);
      returned = λ r a c any asks may left h. bounded-signs s (Note (returning_note s c.node.stored)) c left h;
      accused = λ a c by left h. bounded-signs s (Accusation a) c left h;
      departed = λ c left h. bounded-signs s (leaving s c.node.stored) c left h;
      stopped = λ c h. h;
      passed = λ c h. subst (IsBounded s) (sym (stored-lives s Passes c)) h;
      probed = λ p c h. h;
      spanned = λ c h. h;
      spread = λ c h. h;
    })

-- ---- over a disk

-- The node's store is bounded, and so is the disk's.
pub record IsWithin (s : node.Setting) (d : OnDisk) : Type 0 where
  pub node : IsBounded s d.call.node.stored
  pub disk : IsBounded s d.disk.state

within-step : (s : node.Setting) (step : Bool → Call) (d : OnDisk) → ((works : Bool) → IsBounded s (step works).node.stored) → IsWithin s d → IsWithin s (takes_step world_storage step d)
within-step s step d steps h =
    let kept : Stored = (step true).node.stored in
    let left : (works : Bool) → IsBounded s (cond works (after_put kept d.disk) (stopped_in_put kept d.disk)).state = λ works.
    cond_both {A = Disk} works (after_put kept d.disk) (stopped_in_put kept d.disk) (λ x. IsBounded s x.state) (λ good. steps true) (λ bad. left-state d.disk kept (IsBounded s) h.disk (steps true)) in
    cond_both {A = OnDisk} (eqb kept.next d.call.node.stored.next) (record d { call = step true }) (puts world_storage step d) (IsWithin s)
    (λ plain. record { node = steps true; disk = h.disk })
    (λ signing. record { node = steps (put_passes d.disk); disk = left (put_passes d.disk) })

within-steps : {X : Type 0} (s : node.Setting) (f : Bool → Call → X → Call) (xs : List X) (d : OnDisk) → ((works : Bool) (c : Call) (x : X) → IsBounded s c.node.stored → IsBounded s (f works c x).node.stored) → IsWithin s d → IsWithin s (fold (steps_on world_storage f) d xs)
within-steps s f [] d steps h = h
within-steps s f (x ∷ xs) d steps h =
    within-steps s f xs (steps_on world_storage f d x) steps
    (cond_both {A = OnDisk} d.call.ended d (takes_step world_storage (λ works. f works d.call x) d) (IsWithin s) (λ over. h) (λ going. within-step s (λ works. f works d.call x) d (λ works. steps works d.call x h.node) h))

disk-heard : (s : node.Setting) (heard : Result Datagram ℕ) (d : OnDisk) → IsWithin s d → IsBounded s (hears_on world_storage s heard d).disk.state
disk-heard s (Err place) d h = h.disk
disk-heard s (Ok (kinds.Ping from nonce)) d h = h.disk
disk-heard s (Ok (kinds.Pong from nonce)) d h = h.disk
disk-heard s (Ok (kinds.Summary from flag theirs)) d h = h.disk
disk-heard s (Ok (kinds.Records from records)) d h =
    subst (λ (x : OnDisk). IsBounded s x.disk.state) (sym (handled-on world_storage s d records))
    (within-steps s (λ works c x. handles works s c x) records d (λ works c r k. hands-handles s AnyRecord (λ c. IsBounded s c.node.stored) (bounding s) works c r tt k) h).disk

disk-due : (s : node.Setting) (accused : List ℕ) (sent : List (ℕ × ℕ)) (round : ℕ) (d : OnDisk) → IsWithin s d → IsBounded s (due_on world_storage s accused sent round d).disk.state
unfolding due_on
disk-due s accused sent round d h =
    let d0 : OnDisk = record d { call = spreads s d.call } in
    let h0 : IsWithin s d0 = record { node = hands-spreads s AnyRecord (λ c. IsBounded s c.node.stored) (bounding s) d.call h.node; disk = h.disk } in
    let d1 : OnDisk = fold (accuses_on world_storage s) d0 accused in
    let h1 : IsWithin s d1 = subst (IsWithin s) (sym (accused-on world_storage s d0 accused))
    (within-steps s (λ works c x. accuses works s c x) accused d0 (λ works c m k. hands-accuses s AnyRecord (λ c. IsBounded s c.node.stored) (bounding s) works c m k) h0) in
    cond_both {A = OnDisk} d1.call.ended d1 _ (λ x. IsBounded s x.disk.state) (λ over. h1.disk) (λ going. h1.disk)

disk-called : (s : node.Setting) (n : Node) (i : Input) (d : Disk) → IsBounded s n.stored → IsBounded s d.state → IsBounded s (called_on s n i d).disk.state
unfolding delivered_on ticked_on left_on
disk-called s n (Delivers bytes) d node disk = disk-heard s (read_of bytes) (record { call = begun n; disk = d }) (record { node = node; disk = disk })
disk-called s n Ticks d node disk =
    let p : Node = (passed s n).node in
    let st : State = state_of s p in
    let d0 : OnDisk = record { call = probed_at s n; disk = d } in
    let h0 : IsWithin s d0 = record { node = hands-probed_at s AnyRecord (λ c. IsBounded s c.node.stored) (bounding s) n node; disk = disk } in
    cond_both {A = OnDisk} (is_due s st) (due_on world_storage s (silent_in s p st) (pings_in s p st) (round_of s st) d0) d0 (λ x. IsBounded s x.disk.state)
    (λ due. disk-due s (silent_in s p st) (pings_in s p st) (round_of s st) d0 h0) (λ never. disk)
disk-called s n Leaves d node disk =
    (within-step s (λ works. leaves works s (begun n)) (record { call = begun n; disk = d }) (λ works. hands-leaves s AnyRecord (λ c. IsBounded s c.node.stored) (bounding s) works (begun n) node) (record { node = node; disk = disk })).disk

pub bounded-called : (s : node.Setting) (n : Node) (i : Input) (d : Disk) → IsBounded s n.stored → IsBounded s d.state → IsWithin s (called_on s n i d)
bounded-called s n i d node disk =
    record { node = hands-called s AnyRecord (λ c. IsBounded s c.node.stored) (bounding s) n i d (any-handed i) node; disk = disk-called s n i d node disk }
