use Rattle.std.proofs.Common.{◌≡◌, ℕ, List, [], ◌∷◌, ◌++◌, length, subst, sym, ap, ◌∙◌, refl, append_assoc, true, false}
use Rattle.node_rules.specs.Calls.{Call}
use Rattle.node_rules.specs.Ticking.{accuses, accuses_all}
use Rattle.node_core.specs.Playing.{Kept, Plays, Stops, Extends}
use Rattle.node_core.proofs.PlayLemmas.{grows-refl, grows-trans}
use Rattle.node_core.proofs.HandleLemmas.{fold-push, no_items}
use Rattle.node_core.proofs.AccusingLemmas.{IsFoundBehind, found-behind, accuses-further, err-accusing}
use Rattle.node_core.proofs.DueLemmas.{behind-extends}
use Rattle.node_core.proofs.TellingLemmas.{nil-right}
use Rattle.node_core.proofs.SpendLemmas.{nothing-same, spends-none, spends-trans}
use Rattle.std.specs.Prelude.{fold, Bool}
use Rattle.epoch_store.specs.Placed.{PlacedStore}
use Rattle.node_rules.specs.OnDisks.{OnDisk, accuses_on}
use Rattle.node_rules.proofs.GoingOn.{on-accuses}
use Rattle.node_core.specs.OnDisks.{ComesTo, on_disk, storage}
use Rattle.node_core.proofs.DueLemmas.{plays-at, plays-stuck}
use Rattle.node_core.proofs.DiskLemmas.{starts-there, comes-further, comes-to_end, accuses-going, all-accused-over, fold-split}
use Rattle.std.proofs.lemmas.Bool.{false≢true}
use Rattle.node_core.proofs.ExtendLemmas.{extends-trans, extends-accuses}
use Rattle.node_core.proofs.Node.accuse_all.Goals as goal

pub loop-member-init : goal.loop-member-init
loop-member-init g c =
    let same : c.into_iter-member-iterator.result.rest.items ≡ c.args.silent.items = c.into_iter-member-iterator.ensures.into_iter_gives.0 in
    (record { done = []; split = sym same; plays = λ s es os call p. p; comes = λ s es os call d p on is fine. starts-there s es os c.args.self.now (g.D.Disk.state c.args.disk.now).model call d (p.at fine) on is; grows = grows-refl c.args.self.now; spends = spends-none c.args.self.now c.args.self.now _ (nothing-same c.args.self.now); closed = refl }, refl)

pub loop-member-preserved : goal.loop-member-preserved
loop-member-preserved g c =
    let h = c.loop-member.invariant.0 in
    let r : ℕ = c.in-Some.member in
    let next : c.loop-member.member-iterator.rest.items ≡ r ∷ c.next.new.self.rest.items = c.in-Some.ensures.steps.0 in (
      record {
        done = h.done ++ r ∷ [];
        split = h.split ∙ ap (λ (xs : List ℕ). h.done ++ xs) next ∙ sym (append_assoc h.done (r ∷ []) c.next.new.self.rest.items);
        plays = λ s es os call p. subst (λ (x : Call). Plays s es os c.accuse.new.self x) (sym (fold-push (accuses true s) call h.done r)) (c.in_ok-accuse.ensures.plays s es os (accuses_all s h.done call) (h.plays s es os call p));
        comes = λ s es os call d p on is fine.
            let before = h.comes s es os call d p on is (c.accuse.ensures.grows.going fine) in
            let o : OnDisk PlacedStore = fold (accuses_on storage s) (on_disk call d c.args.self.now.signer.seat) h.done in
            let ran = (c.in_ok-accuse.ensures.plays s es os o.call (plays-at s es os c.loop-member.self o.call before.at)).at fine in
            subst (ComesTo s es os c.accuse.new.self (g.D.Disk.state c.accuse.new.disk).model false) (sym (accuses-going s o r before.ended) ∙ sym (fold-push (accuses_on storage s) (on_disk call d c.args.self.now.signer.seat) h.done r))
            (comes-further s es os c.loop-member.self c.accuse.new.self (g.D.Disk.state c.loop-member.disk).model (g.D.Disk.state c.accuse.new.disk).model o (λ works. accuses works s o.call r) before c.in_ok-accuse.ensures.stores ran (on-accuses s o.call r));
        grows = grows-trans c.args.self.now c.loop-member.self c.accuse.new.self h.grows c.accuse.ensures.grows;
        spends = spends-trans c.args.self.now c.loop-member.self c.accuse.new.self _ _ _ h.grows h.spends c.accuse.ensures.grows c.accuse.ensures.spends;
        closed = c.in_ok-accuse.ensures.closed ∙ h.closed;
      },
      c.in_ok-accuse.ensures.faults ∙ c.loop-member.invariant.1,
    )

pub returns-in_err-accuse-clause-grows : goal.returns-in_err-accuse-clause-grows
returns-in_err-accuse-clause-grows g c = grows-trans c.args.self.now c.loop-member.self c.accuse.new.self c.loop-member.invariant.0.grows c.accuse.ensures.grows

pub returns-in_err-accuse-clause-plays : goal.returns-in_err-accuse-clause-plays
returns-in_err-accuse-clause-plays g c = λ s es os call p.
    let h = c.loop-member.invariant.0 in
    let r : ℕ = c.in-Some.member in
    let P : Call → Type 0 = Plays s es os c.accuse.new.self in
    let Q : Call → Call → Type 0 = Stops s es os c.accuse.new.self in
    let next : c.loop-member.member-iterator.rest.items ≡ r ∷ c.next.new.self.rest.items = c.in-Some.ensures.steps.0 in
    let whole : c.args.silent.items ≡ h.done ++ r ∷ c.next.new.self.rest.items = h.split ∙ ap (λ (xs : List ℕ). h.done ++ xs) next in
    let at = subst (λ (xs : List ℕ). IsFoundBehind xs h.done r) (sym whole) (found-behind h.done c.next.new.self.rest.items r) in
    let ran = c.in_err-accuse.ensures.plays s es os (accuses_all s h.done call) (h.plays s es os call p) in
    let further = subst (λ (xs : List ℕ). Extends (accuses true s (accuses_all s h.done call) r) (accuses_all s xs call)) (sym whole) (accuses-further s call h.done c.next.new.self.rest.items r) in
    let stopped : Q (accuses_all s c.args.silent.items call) (accuses false s (accuses_all s h.done call) r) = record {
      at = ran.at;
      ended = ran.ended;
      due = λ failed. behind-extends es os c.accuse.new.self (accuses true s (accuses_all s h.done call) r) (accuses_all s c.args.silent.items call) (ran.due failed) further;
    } in
    let front = subst (λ (xs : List ℕ). Q (accuses_all s c.args.silent.items call) (accuses false s (accuses_all s xs call) r)) (sym at.front) stopped in
    err-accusing P Q s c.args.silent.items call c.from_residual.result c.from_residual.ensures.0 (length h.done, r, (at.found, front))

pub returns-clause-plays : goal.returns-clause-plays
returns-clause-plays g c = λ s es os call p.
    let h = c.loop-member.invariant.0 in
    let long : length c.loop-member.member-iterator.rest.items ≡ 0 = sym c.loop-member.member-iterator.rest.ok.0 ∙ c.in-None.ensures.steps.0 in
    let none : c.loop-member.member-iterator.rest.items ≡ [] = no_items c.loop-member.member-iterator.rest.items long in
    let whole : c.args.silent.items ≡ h.done = h.split ∙ ap (λ (xs : List ℕ). h.done ++ xs) none ∙ nil-right h.done in
    subst (λ (xs : List ℕ). Plays s es os c.loop-member.self (accuses_all s xs call)) (sym whole) (h.plays s es os call p)

pub returns-in_err-accuse-clause-spends : goal.returns-in_err-accuse-clause-spends
returns-in_err-accuse-clause-spends g c =
    spends-trans c.args.self.now c.loop-member.self c.accuse.new.self _ _ _ c.loop-member.invariant.0.grows c.loop-member.invariant.0.spends c.accuse.ensures.grows c.accuse.ensures.spends

pub returns-clause-spends : goal.returns-clause-spends
returns-clause-spends g c = c.loop-member.invariant.0.spends

pub returns-clause-closed : goal.returns-clause-closed
returns-clause-closed g c = c.loop-member.invariant.0.closed

pub returns-in_err-accuse-clause-follows : goal.returns-in_err-accuse-clause-follows
returns-in_err-accuse-clause-follows g c = λ s es os call d p on is fine.
    let h = c.loop-member.invariant.0 in
    let r : ℕ = c.in-Some.member in
    let rest = c.next.new.self.rest.items in
    let next : c.loop-member.member-iterator.rest.items ≡ r ∷ rest = c.in-Some.ensures.steps.0 in
    let whole : c.args.silent.items ≡ h.done ++ r ∷ rest = h.split ∙ ap (λ (xs : List ℕ). h.done ++ xs) next in
    let begun : OnDisk PlacedStore = on_disk call d c.args.self.now.signer.seat in
    let o : OnDisk PlacedStore = fold (accuses_on storage s) begun h.done in
    let before = h.comes s es os call d p on is (c.accuse.ensures.grows.going fine) in
    let played = plays-at s es os c.loop-member.self o.call before.at in
    let ran = c.in_err-accuse.ensures.plays s es os o.call played in
    let y = (g.D.Disk.state c.accuse.new.disk).model in
    let ended = subst (ComesTo s es os c.accuse.new.self y true) (sym (accuses-going s o r before.ended))
    (comes-to_end s es os c.loop-member.self c.accuse.new.self (g.D.Disk.state c.loop-member.disk).model y o (λ works. accuses works s o.call r) before (c.in_err-accuse.ensures.fails s es os o.call played fine) (ran.at fine) (ran.ended fine)) in
    let all : fold (accuses_on storage s) begun c.args.silent.items ≡ accuses_on storage s o r =
    ap (λ (xs : List ℕ). fold (accuses_on storage s) begun xs) whole ∙ fold-split (accuses_on storage s) begun h.done r rest ∙ all-accused-over s (accuses_on storage s o r) rest ended.ended in
    subst (λ (failed : Bool). ComesTo s es os c.accuse.new.self y failed (fold (accuses_on storage s) begun c.args.silent.items)) (sym c.from_residual.ensures.0)
    (subst (ComesTo s es os c.accuse.new.self y true) (sym all) ended)

pub returns-clause-follows : goal.returns-clause-follows
returns-clause-follows g c = λ s es os call d p on is fine.
    let h = c.loop-member.invariant.0 in
    let long : length c.loop-member.member-iterator.rest.items ≡ 0 = sym c.loop-member.member-iterator.rest.ok.0 ∙ c.in-None.ensures.steps.0 in
    let none : c.loop-member.member-iterator.rest.items ≡ [] = no_items c.loop-member.member-iterator.rest.items long in
    let whole : c.args.silent.items ≡ h.done = h.split ∙ ap (λ (xs : List ℕ). h.done ++ xs) none ∙ nil-right h.done in
    subst (λ (xs : List ℕ). ComesTo s es os c.loop-member.self (g.D.Disk.state c.loop-member.disk).model false (fold (accuses_on storage s) (on_disk call d c.args.self.now.signer.seat) xs)) (sym whole) (h.comes s es os call d p on is fine)

pub returns-then-has_failed-clause-plays : goal.returns-then-has_failed-clause-plays
returns-then-has_failed-clause-plays g c = λ s es os call p.
    let h = c.loop-member.invariant.0 in
    let r : ℕ = c.in-Some.member in
    let rest = c.next.new.self.rest.items in
    let next : c.loop-member.member-iterator.rest.items ≡ r ∷ rest = c.in-Some.ensures.steps.0 in
    let whole : c.args.silent.items ≡ h.done ++ r ∷ rest = h.split ∙ ap (λ (xs : List ℕ). h.done ++ xs) next in
    let behind = extends-trans (accuses_all s h.done call) (accuses true s (accuses_all s h.done call) r) (accuses_all s (h.done ++ r ∷ rest) call) (extends-accuses s (accuses_all s h.done call) r) (accuses-further s call h.done rest r) in
    let further = subst (λ (xs : List ℕ). Extends (accuses_all s h.done call) (accuses_all s xs call)) (sym whole) behind in
    let failed = ap (λ (v : Kept). v.telling.failed) (sym c.self.view_is) ∙ sym c.has_failed.ensures ∙ c.if-has_failed.true in
    plays-stuck s es os c.loop-member.self (accuses_all s h.done call) (accuses_all s c.args.silent.items call) failed (h.plays s es os call p) further

pub returns-then-has_failed-clause-spends : goal.returns-then-has_failed-clause-spends
returns-then-has_failed-clause-spends g c = c.loop-member.invariant.0.spends

pub returns-then-has_failed-clause-closed : goal.returns-then-has_failed-clause-closed
returns-then-has_failed-clause-closed g c = c.loop-member.invariant.0.closed

pub returns-then-has_failed-clause-follows : goal.returns-then-has_failed-clause-follows
returns-then-has_failed-clause-follows g c = λ s es os call d p on is fine.
    let failed = ap (λ (v : Kept). v.telling.failed) (sym c.self.view_is) ∙ sym c.has_failed.ensures ∙ c.if-has_failed.true in
    absurd (false≢true (sym fine ∙ failed))
