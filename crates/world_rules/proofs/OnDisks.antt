-- Calls over a disk: what each leaves.
use Rattle.std.proofs.Common.{◌≡◌, ℕ, ◌+◌, Bool, true, false, cond, List, [], ◌∷◌, ◌++◌, Option, Some, None, inl, inr, refl, ap, sym, ◌∙◌, subst}
use Rattle.std.specs.Prelude.{Result, Ok, Err, fold}
use Rattle.std.proofs.lemmas.Bool.{cases_Bool, cond_both}
use Rattle.ff_ids.specs.Views.{State}
use Rattle.records.specs.declared.Body.{Body}
use Rattle.records.specs.declared.Body.TheVariants.{Certificate, Note, Accusation}
use Rattle.epoch_store.specs.declared.Stored.{Stored}
use Rattle.signer.specs.Signing.{stored_after}
use Rattle.datagram.specs.declared.Datagram.{Datagram}
use Rattle.datagram.specs.declared.Datagram.TheVariants as kinds
use Rattle.datagram.specs.Grammar.{read_of}
use Rattle.node_rules.specs.Nodes.{Setting, Node, state_of}
use Rattle.node_rules.specs.Calls.{Call, begun, signs_and_sends, stops}
use Rattle.node_rules.specs.Deliveries.{handles}
use Rattle.node_rules.specs.Ticking.{accuses, gossips, is_due, passed, pings_all, pings_in, probed_at, round_of, silent_in, spreads}
use Rattle.node_rules.specs.OnDisks.{Input, Delivers, Ticks, Leaves, takes_step, steps_on, hears_on, accuses_on, delivered_on, due_on, ticked_on, left_on}
use Rattle.node_rules.proofs.Called.{accused-on, ended-stays, handled-on, leaves_once, plain-step, put-step}
pub use Rattle.node_rules.proofs.Called.{chosen, other}
use Rattle.world_rules.specs.Settings.{Signed}
use Rattle.world_rules.specs.Disks.{Disk, ArmedStop, after_put, gate_of, left_by, opens_gate, put_passes, stopped_in_put, with_entry}
use Rattle.world_rules.specs.Calls.{OnDisk, called_on, world_storage}
use Rattle.world_rules.specs.Steps.{signed_in}
use Rattle.world_rules.proofs.CallSteps.{SpendsNothing, SpendsOne, MayFollow, StepIs, plain, signing, nothing-tells, nothing-hears, nothing-spreads, nothing-gossips, nothing-probed_at, one-signs_and_sends, step-handles, step-accuses, step-leaves}

pub next-after : (kept : Stored) (body : Body) → (stored_after kept body).next ≡ kept.next + 1
next-after kept (Certificate x) = refl
next-after kept (Note x) = refl
next-after kept (Accusation x) = refl

-- ---- one step

-- where it asks for no put
takes-plain : (step : Bool → Call) (d : OnDisk) → (step true).node.stored ≡ d.call.node.stored → takes_step world_storage step d ≡ record d { call = step true }
takes-plain step d same = plain-step world_storage step d (ap (λ (k : Stored). k.next) same)

-- what the put leaves, by whether it succeeds
abbrev put-so : (Bool → Call) → OnDisk → Bool → OnDisk
put-so step d works = let kept = (step true).node.stored in record { call = step works; disk = cond works (after_put kept d.disk) (stopped_in_put kept d.disk) }

takes-signing : (step : Bool → Call) (d : OnDisk) (body : Body) (works : Bool) → (step true).node.stored ≡ stored_after d.call.node.stored body → put_passes d.disk ≡ works → takes_step world_storage step d ≡ put-so step d works
takes-signing step d body works after passes =
    put-step world_storage step d (ap (λ (k : Stored). k.next) after ∙ next-after d.call.node.stored body) ∙ ap (put-so step d) passes

-- ---- what a call leaves

-- What holds of a store's state and of what was signed, whatever is signed next, and also where the disk stops in it.
pub record IsKept (me : ℕ) (P : Stored → List Signed → Type 0) : Type 0 where
  pub signs : (kept : Stored) (signed : List Signed) (body : Body) → MayFollow kept body → P kept signed → P (stored_after kept body) (signed ++ record { who = Some me; index = kept.next; body = body } ∷ [])
  pub leaves : (kept : Stored) (signed : List Signed) (body : Body) → MayFollow kept body → P kept signed → P (stored_after kept body) signed

-- It holds of the store, which keeps what the node does, unless the life is over.
pub record Sound (me : ℕ) (P : Stored → List Signed → Type 0) (d : OnDisk) : Type 0 where
  pub holds : P d.disk.state (signed_in me d.call.told)
  pub same : d.call.ended ≡ false → d.call.node.stored ≡ d.disk.state

pub sound-nothing : (s : Setting) (P : Stored → List Signed → Type 0) (d : OnDisk) (c : Call) → SpendsNothing s d.call c → Sound s.me P d → Sound s.me P (record d { call = c })
sound-nothing s P d c h x =
    record {
      holds = subst (P d.disk.state) (sym h.signed) x.holds;
      same = λ going. h.stored ∙ x.same (sym h.ended ∙ going);
    }

pub left-state : (d : Disk) (e : Stored) (Q : Stored → Type 0) → Q d.state → Q e → Q (stopped_in_put e d).state
left-state d e Q old new = left d.armed
  where
    left : (armed : Option ArmedStop) → Q (left_by armed e d).state
    left None = old
    left (Some stop) = cond_both (opens_gate stop (gate_of d)) (with_entry e d) d (λ x. Q x.state) (λ yes. new) (λ no. old)

pub sound-step : {X : Type 0} (s : Setting) (P : Stored → List Signed → Type 0) (f : Bool → Call → X → Call) (d : OnDisk) (x : X) → IsKept s.me P → d.call.ended ≡ false → StepIs s d.call (λ works. f works d.call x)
    → Sound s.me P d → Sound s.me P (steps_on world_storage f d x)
sound-step s P f d x k going (plain h) sound =
    let e : steps_on world_storage f d x ≡ record d { call = f true d.call x } = other d.call.ended d _ going ∙ takes-plain (λ works. f works d.call x) d h.stored in
    subst (Sound s.me P) (sym e) (sound-nothing s P d (f true d.call x) h sound)
sound-step s P f d x k going (signing c body to h may made stopped) sound =
    let one : SpendsOne s c (signs_and_sends s body to c) body = one-signs_and_sends s body to c in
    let same : c.node.stored ≡ d.disk.state = h.stored ∙ sound.same going in
    let after : (f true d.call x).node.stored ≡ stored_after d.call.node.stored body = ap (λ (z : Call). z.node.stored) made ∙ one.stored ∙ ap (λ z. stored_after z body) h.stored in
    let kept-is : (f true d.call x).node.stored ≡ stored_after d.disk.state body = after ∙ ap (λ z. stored_after z body) (sound.same going) in
    let step : Bool → Call = λ works. f works d.call x in
    let at : (works : Bool) → put_passes d.disk ≡ works → steps_on world_storage f d x ≡ put-so step d works = λ works passes. other d.call.ended d _ going ∙ takes-signing step d body works after passes in
    let may2 : MayFollow d.disk.state body = subst (λ z. MayFollow z body) same may.follows in
    let before : P d.disk.state (signed_in s.me c.told) = subst (P d.disk.state) (sym h.signed) sound.holds in
    let kept : Stored = (f true d.call x).node.stored in
    elim (cases_Bool (put_passes d.disk)) [
      | inl good ↦
          let e : steps_on world_storage f d x ≡ record { call = f true d.call x; disk = after_put kept d.disk } = at true good in
          let told : signed_in s.me (f true d.call x).told ≡ signed_in s.me c.told ++ record { who = Some s.me; index = d.disk.state.next; body = body } ∷ [] =
          ap (λ (z : Call). signed_in s.me z.told) made ∙ one.signed ∙ ap (λ (z : Stored). signed_in s.me c.told ++ record { who = Some s.me; index = z.next; body = body } ∷ []) same in
          subst (Sound s.me P) (sym e) (record {
            holds = subst (λ z. P z (signed_in s.me (f true d.call x).told)) (sym kept-is) (subst (P (stored_after d.disk.state body)) (sym told) (k.signs d.disk.state (signed_in s.me c.told) body may2 before));
            same = λ still. refl;
          })
      | inr bad ↦
          let e : steps_on world_storage f d x ≡ record { call = f false d.call x; disk = stopped_in_put kept d.disk } = at false bad in
          let told : signed_in s.me (f false d.call x).told ≡ signed_in s.me c.told = ap (λ (z : Call). signed_in s.me z.told) stopped ∙ stops-signed c in
          subst (Sound s.me P) (sym e) (record {
            holds = subst (P (stopped_in_put kept d.disk).state) (sym told)
                (left-state d.disk kept (λ z. P z (signed_in s.me c.told)) before (subst (λ z. P z (signed_in s.me c.told)) (sym kept-is) (k.leaves d.disk.state (signed_in s.me c.told) body may2 before)));
            same = λ still. absurd (over (ap (λ (z : Call). z.ended) stopped) still);
          })
    ]
  where
    stops-signed : (c : Call) → signed_in s.me (stops s c).told ≡ signed_in s.me c.told
    stops-signed c = (nothing-tells s _ c refl).signed

    over : {b : Bool} → b ≡ true → b ≡ false → ⊥
    over e h = cc

pub sound-steps : {X : Type 0} (s : Setting) (P : Stored → List Signed → Type 0) (f : Bool → Call → X → Call) (xs : List X) (d : OnDisk) → IsKept s.me P → ((c : Call) (x : X) → StepIs s c (λ works. f works c x))
    → Sound s.me P d → Sound s.me P (fold (steps_on world_storage f) d xs)
sound-steps s P f [] d k steps sound = sound
sound-steps s P f (x ∷ xs) d k steps sound =
    elim (cases_Bool d.call.ended) [
      | inl over ↦ subst (Sound s.me P) (sym (ended-stays world_storage f (x ∷ xs) d over)) sound
      | inr going ↦ sound-steps s P f xs (steps_on world_storage f d x) k steps (sound-step s P f d x k going (steps d.call x) sound)
    ]

-- ---- calls

sound-hears : (s : Setting) (P : Stored → List Signed → Type 0) (heard : Result Datagram ℕ) (d : OnDisk) → IsKept s.me P → Sound s.me P d → Sound s.me P (hears_on world_storage s heard d)
sound-hears s P (Err place) d k sound = sound-nothing s P d _ (nothing-hears s (Err place) d.call tt) sound
sound-hears s P (Ok (kinds.Ping from nonce)) d k sound = sound-nothing s P d _ (nothing-hears s (Ok (kinds.Ping from nonce)) d.call tt) sound
sound-hears s P (Ok (kinds.Pong from nonce)) d k sound = sound-nothing s P d _ (nothing-hears s (Ok (kinds.Pong from nonce)) d.call tt) sound
sound-hears s P (Ok (kinds.Summary from flag theirs)) d k sound = sound-nothing s P d _ (nothing-hears s (Ok (kinds.Summary from flag theirs)) d.call tt) sound
sound-hears s P (Ok (kinds.Records from records)) d k sound =
    subst (Sound s.me P) (sym (handled-on world_storage s d records)) (sound-steps s P (λ works c x. handles works s c x) records d k (step-handles s) sound)

sound-due : (s : Setting) (P : Stored → List Signed → Type 0) (accused : List ℕ) (sent : List (ℕ × ℕ)) (round : ℕ) (d : OnDisk) → IsKept s.me P → Sound s.me P d → Sound s.me P (due_on world_storage s accused sent round d)
unfolding due_on
sound-due s P accused sent round d k sound =
    let d0 : OnDisk = record d { call = spreads s d.call } in
    let sound0 : Sound s.me P d0 = sound-nothing s P d (spreads s d.call) (nothing-spreads s d.call) sound in
    let d1 : OnDisk = fold (accuses_on world_storage s) d0 accused in
    let sound1 : Sound s.me P d1 =
    subst (Sound s.me P) (sym (accused-on world_storage s d0 accused)) (sound-steps s P (λ works c x. accuses works s c x) accused d0 k (step-accuses s) sound0) in
    cond_both d1.call.ended d1 (record d1 { call = gossips s round (pings_all s sent d1.call) }) (Sound s.me P) (λ over. sound1)
    (λ going. sound-nothing s P d1 _ (nothing-gossips s round sent d1.call) sound1)

-- What holds of the store as a call begins holds as it ends.
pub sound-called : (s : Setting) (P : Stored → List Signed → Type 0) (n : Node) (i : Input) (disk : Disk) → IsKept s.me P → n.stored ≡ disk.state → P disk.state [] → Sound s.me P (called_on s n i disk)
unfolding delivered_on ticked_on left_on
sound-called s P n (Delivers bytes) disk k same h = sound-hears s P (read_of bytes) (record { call = begun n; disk = disk }) k (record { holds = h; same = λ going. same })
sound-called s P n Ticks disk k same h =
    let p : Node = (passed s n).node in
    let st : State = state_of s p in
    let d0 : OnDisk = record { call = begun n; disk = disk } in
    let d : OnDisk = record { call = probed_at s n; disk = disk } in
    let sound : Sound s.me P d = sound-nothing s P d0 (probed_at s n) (nothing-probed_at s n) (record { holds = h; same = λ going. same }) in
    cond_both (is_due s st) (due_on world_storage s (silent_in s p st) (pings_in s p st) (round_of s st) d) d (Sound s.me P)
    (λ due. sound-due s P (silent_in s p st) (pings_in s p st) (round_of s st) d k sound)
    (λ never. sound)
sound-called s P n Leaves disk k same h =
    sound-step s P (leaves_once s) (record { call = begun n; disk = disk }) 0 k refl (step-leaves s (begun n)) (record { holds = h; same = λ going. same })
