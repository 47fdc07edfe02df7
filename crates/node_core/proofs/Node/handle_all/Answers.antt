use Rattle.std.proofs.Common.{◌≡◌, List, [], ◌∷◌, ◌++◌, All, length, subst, sym, ap, ◌∙◌, refl, append_assoc, true, false}
use Rattle.records.specs.declared.Record.{Record}
use Rattle.records.specs.Spelling.{HasPort}
use Rattle.node_rules.specs.Calls.{Call}
use Rattle.node_rules.specs.Deliveries.{handles, handles_all}
use Rattle.node_core.specs.Playing.{Kept, Plays, Stops, Extends}
use Rattle.node_core.proofs.PlayLemmas.{grows-refl, grows-trans}
use Rattle.node_core.proofs.HandleLemmas.{fold-push, IsFound, found-at, all-tail, err-runs, handles-further, no_items}
use Rattle.node_core.proofs.DueLemmas.{behind-extends}
use Rattle.node_core.proofs.TellingLemmas.{nil-right}
use Rattle.node_core.proofs.SpendLemmas.{nothing-same, spends-none, spends-trans}
use Rattle.std.specs.Prelude.{fold, Bool}
use Rattle.epoch_store.specs.Placed.{PlacedStore}
use Rattle.node_rules.specs.OnDisks.{OnDisk, handles_on}
use Rattle.node_rules.proofs.GoingOn.{on-handles}
use Rattle.node_core.specs.OnDisks.{ComesTo, on_disk, storage}
use Rattle.node_core.proofs.DueLemmas.{plays-at, plays-stuck}
use Rattle.node_core.proofs.DiskLemmas.{starts-there, comes-further, comes-to_end, handles-going, all-over, fold-split}
use Rattle.std.proofs.lemmas.Bool.{false≢true}
use Rattle.node_core.proofs.ExtendLemmas.{extends-trans, extends-handles}
use Rattle.node_core.proofs.Node.handle_all.Goals as goal

pub loop-rec-init : goal.loop-rec-init
loop-rec-init g c =
    let same : c.into_iter-rec-iterator.result.rest.items ≡ c.args.records.items = c.into_iter-rec-iterator.ensures.into_iter_gives.0 in
    (record { done = []; split = sym same; plays = λ s es os call p. p; comes = λ s es os call d p on is fine. starts-there s es os c.args.self.now (g.D.Disk.state c.args.disk.now).model call d (p.at fine) on is; grows = grows-refl c.args.self.now; spends = spends-none c.args.self.now c.args.self.now _ (nothing-same c.args.self.now); closed = refl }, refl, subst (λ (xs : List Record). All (λ r. HasPort r.body) xs) (sym same) c.requires.ports)

pub loop-rec-preserved : goal.loop-rec-preserved
loop-rec-preserved g c =
    let h = c.loop-rec.invariant.0 in
    let r : Record = c.in-Some.rec in
    let next : c.loop-rec.rec-iterator.rest.items ≡ r ∷ c.next.new.self.rest.items = c.in-Some.ensures.steps.0 in (
      record {
        done = h.done ++ r ∷ [];
        split = h.split ∙ ap (λ (xs : List Record). h.done ++ xs) next ∙ sym (append_assoc h.done (r ∷ []) c.next.new.self.rest.items);
        plays = λ s es os call p. subst (λ (x : Call). Plays s es os c.handle.new.self x) (sym (fold-push (handles true s) call h.done r)) (c.in_ok-handle.ensures.plays s es os (handles_all s h.done call) (h.plays s es os call p));
        comes = λ s es os call d p on is fine.
            let before = h.comes s es os call d p on is (c.handle.ensures.grows.going fine) in
            let o : OnDisk PlacedStore = fold (handles_on storage s) (on_disk call d c.args.self.now.signer.seat) h.done in
            let ran = (c.in_ok-handle.ensures.plays s es os o.call (plays-at s es os c.loop-rec.self o.call before.at)).at fine in
            subst (ComesTo s es os c.handle.new.self (g.D.Disk.state c.handle.new.disk).model false) (sym (handles-going s o r before.ended) ∙ sym (fold-push (handles_on storage s) (on_disk call d c.args.self.now.signer.seat) h.done r))
            (comes-further s es os c.loop-rec.self c.handle.new.self (g.D.Disk.state c.loop-rec.disk).model (g.D.Disk.state c.handle.new.disk).model o (λ works. handles works s o.call r) before c.in_ok-handle.ensures.stores ran (on-handles s o.call r));
        grows = grows-trans c.args.self.now c.loop-rec.self c.handle.new.self h.grows c.handle.ensures.grows;
        spends = spends-trans c.args.self.now c.loop-rec.self c.handle.new.self _ _ _ h.grows h.spends c.handle.ensures.grows c.handle.ensures.spends;
        closed = c.in_ok-handle.ensures.closed ∙ h.closed;
      },
      c.in_ok-handle.ensures.faults ∙ c.loop-rec.invariant.1,
      all-tail (λ (x : Record). HasPort x.body) r c.next.new.self.rest.items (subst (λ (xs : List Record). All (λ x. HasPort x.body) xs) next c.loop-rec.invariant.2),
    )

pub returns-in_err-handle-clause-grows : goal.returns-in_err-handle-clause-grows
returns-in_err-handle-clause-grows g c = grows-trans c.args.self.now c.loop-rec.self c.handle.new.self c.loop-rec.invariant.0.grows c.handle.ensures.grows

pub returns-in_err-handle-clause-plays : goal.returns-in_err-handle-clause-plays
returns-in_err-handle-clause-plays g c = λ s es os call p.
    let h = c.loop-rec.invariant.0 in
    let r : Record = c.in-Some.rec in
    let P : Call → Type 0 = Plays s es os c.handle.new.self in
    let Q : Call → Call → Type 0 = Stops s es os c.handle.new.self in
    let next : c.loop-rec.rec-iterator.rest.items ≡ r ∷ c.next.new.self.rest.items = c.in-Some.ensures.steps.0 in
    let whole : c.args.records.items ≡ h.done ++ r ∷ c.next.new.self.rest.items = h.split ∙ ap (λ (xs : List Record). h.done ++ xs) next in
    let at = subst (λ (xs : List Record). IsFound xs h.done r) (sym whole) (found-at h.done c.next.new.self.rest.items r) in
    let ran = c.in_err-handle.ensures.plays s es os (handles_all s h.done call) (h.plays s es os call p) in
    let further = subst (λ (xs : List Record). Extends (handles true s (handles_all s h.done call) r) (handles_all s xs call)) (sym whole) (handles-further s call h.done c.next.new.self.rest.items r) in
    let stopped : Q (handles_all s c.args.records.items call) (handles false s (handles_all s h.done call) r) = record {
      at = ran.at;
      ended = ran.ended;
      due = λ failed. behind-extends es os c.handle.new.self (handles true s (handles_all s h.done call) r) (handles_all s c.args.records.items call) (ran.due failed) further;
    } in
    let front = subst (λ (xs : List Record). Q (handles_all s c.args.records.items call) (handles false s (handles_all s xs call) r)) (sym at.front) stopped in
    err-runs P Q s c.args.records.items call c.from_residual.result c.from_residual.ensures.0 (length h.done, r, (at.found, front))

pub returns-clause-plays : goal.returns-clause-plays
returns-clause-plays g c = λ s es os call p.
    let h = c.loop-rec.invariant.0 in
    let long : length c.loop-rec.rec-iterator.rest.items ≡ 0 = sym c.loop-rec.rec-iterator.rest.ok.0 ∙ c.in-None.ensures.steps.0 in
    let none : c.loop-rec.rec-iterator.rest.items ≡ [] = no_items c.loop-rec.rec-iterator.rest.items long in
    let whole : c.args.records.items ≡ h.done = h.split ∙ ap (λ (xs : List Record). h.done ++ xs) none ∙ nil-right h.done in
    subst (λ (xs : List Record). Plays s es os c.loop-rec.self (handles_all s xs call)) (sym whole) (h.plays s es os call p)

pub returns-in_err-handle-clause-spends : goal.returns-in_err-handle-clause-spends
returns-in_err-handle-clause-spends g c =
    spends-trans c.args.self.now c.loop-rec.self c.handle.new.self _ _ _ c.loop-rec.invariant.0.grows c.loop-rec.invariant.0.spends c.handle.ensures.grows c.handle.ensures.spends

pub returns-clause-spends : goal.returns-clause-spends
returns-clause-spends g c = c.loop-rec.invariant.0.spends

pub returns-clause-closed : goal.returns-clause-closed
returns-clause-closed g c = c.loop-rec.invariant.0.closed

pub returns-in_err-handle-clause-follows : goal.returns-in_err-handle-clause-follows
returns-in_err-handle-clause-follows g c = λ s es os call d p on is fine.
    let h = c.loop-rec.invariant.0 in
    let r : Record = c.in-Some.rec in
    let rest = c.next.new.self.rest.items in
    let next : c.loop-rec.rec-iterator.rest.items ≡ r ∷ rest = c.in-Some.ensures.steps.0 in
    let whole : c.args.records.items ≡ h.done ++ r ∷ rest = h.split ∙ ap (λ (xs : List Record). h.done ++ xs) next in
    let begun : OnDisk PlacedStore = on_disk call d c.args.self.now.signer.seat in
    let o : OnDisk PlacedStore = fold (handles_on storage s) begun h.done in
    let before = h.comes s es os call d p on is (c.handle.ensures.grows.going fine) in
    let played = plays-at s es os c.loop-rec.self o.call before.at in
    let ran = c.in_err-handle.ensures.plays s es os o.call played in
    let y = (g.D.Disk.state c.handle.new.disk).model in
    let ended = subst (ComesTo s es os c.handle.new.self y true) (sym (handles-going s o r before.ended))
    (comes-to_end s es os c.loop-rec.self c.handle.new.self (g.D.Disk.state c.loop-rec.disk).model y o (λ works. handles works s o.call r) before (c.in_err-handle.ensures.fails s es os o.call played fine) (ran.at fine) (ran.ended fine)) in
    let all : fold (handles_on storage s) begun c.args.records.items ≡ handles_on storage s o r =
    ap (λ (xs : List Record). fold (handles_on storage s) begun xs) whole ∙ fold-split (handles_on storage s) begun h.done r rest ∙ all-over s (handles_on storage s o r) rest ended.ended in
    subst (λ (failed : Bool). ComesTo s es os c.handle.new.self y failed (fold (handles_on storage s) begun c.args.records.items)) (sym c.from_residual.ensures.0)
    (subst (ComesTo s es os c.handle.new.self y true) (sym all) ended)

pub returns-clause-follows : goal.returns-clause-follows
returns-clause-follows g c = λ s es os call d p on is fine.
    let h = c.loop-rec.invariant.0 in
    let long : length c.loop-rec.rec-iterator.rest.items ≡ 0 = sym c.loop-rec.rec-iterator.rest.ok.0 ∙ c.in-None.ensures.steps.0 in
    let none : c.loop-rec.rec-iterator.rest.items ≡ [] = no_items c.loop-rec.rec-iterator.rest.items long in
    let whole : c.args.records.items ≡ h.done = h.split ∙ ap (λ (xs : List Record). h.done ++ xs) none ∙ nil-right h.done in
    subst (λ (xs : List Record). ComesTo s es os c.loop-rec.self (g.D.Disk.state c.loop-rec.disk).model false (fold (handles_on storage s) (on_disk call d c.args.self.now.signer.seat) xs)) (sym whole) (h.comes s es os call d p on is fine)

pub returns-then-has_failed-clause-plays : goal.returns-then-has_failed-clause-plays
returns-then-has_failed-clause-plays g c = λ s es os call p.
    let h = c.loop-rec.invariant.0 in
    let r : Record = c.in-Some.rec in
    let rest = c.next.new.self.rest.items in
    let next : c.loop-rec.rec-iterator.rest.items ≡ r ∷ rest = c.in-Some.ensures.steps.0 in
    let whole : c.args.records.items ≡ h.done ++ r ∷ rest = h.split ∙ ap (λ (xs : List Record). h.done ++ xs) next in
    let behind = extends-trans (handles_all s h.done call) (handles true s (handles_all s h.done call) r) (handles_all s (h.done ++ r ∷ rest) call) (extends-handles s (handles_all s h.done call) r) (handles-further s call h.done rest r) in
    let further = subst (λ (xs : List Record). Extends (handles_all s h.done call) (handles_all s xs call)) (sym whole) behind in
    let failed = ap (λ (v : Kept). v.telling.failed) (sym c.self.view_is) ∙ sym c.has_failed.ensures ∙ c.if-has_failed.true in
    plays-stuck s es os c.loop-rec.self (handles_all s h.done call) (handles_all s c.args.records.items call) failed (h.plays s es os call p) further

pub returns-then-has_failed-clause-spends : goal.returns-then-has_failed-clause-spends
returns-then-has_failed-clause-spends g c = c.loop-rec.invariant.0.spends

pub returns-then-has_failed-clause-closed : goal.returns-then-has_failed-clause-closed
returns-then-has_failed-clause-closed g c = c.loop-rec.invariant.0.closed

pub returns-then-has_failed-clause-follows : goal.returns-then-has_failed-clause-follows
returns-then-has_failed-clause-follows g c = λ s es os call d p on is fine.
    let failed = ap (λ (v : Kept). v.telling.failed) (sym c.self.view_is) ∙ sym c.has_failed.ensures ∙ c.if-has_failed.true in
    absurd (false≢true (sym fine ∙ failed))
