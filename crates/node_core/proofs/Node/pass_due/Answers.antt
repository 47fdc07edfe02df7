use Rattle.std.proofs.Common.{ℕ, Bool, List, ap, sym, subst, ◌∙◌}
use Rattle.node_rules.specs.Calls.{Call}
use Rattle.node_rules.specs.Ticking.{accuses_all, pings_all, gossips, spreads}
use Rattle.node_core.specs.Playing.{Kept, Plays}
use Rattle.node_core.proofs.PlayLemmas.{grows-trans}
use Rattle.node_core.proofs.TickLemmas.{due-is, err-due}
use Rattle.node_core.proofs.SpendLemmas.{nothing-trans, spends-before, spends-after, still-failed}
use Rattle.signer.specs.Signing.{SignerState}
use Rattle.std.proofs.Common.{true, false, refl}
use Rattle.std.specs.Prelude.{fold}
use Rattle.epoch_store.specs.Placed.{PlacedStore}
use Rattle.node_rules.specs.OnDisks.{OnDisk, accuses_on, due_on}
use Rattle.node_core.specs.Playing.{IsAt}
use Rattle.node_core.specs.OnDisks.{ComesTo, on_disk, storage}
use Rattle.node_core.proofs.DueLemmas.{plays-at, plays-stuck}
use Rattle.std.proofs.lemmas.Bool.{false≢true}
use Rattle.node_core.proofs.ExtendLemmas.{extends-gossips, extends-pings_all, extends-trans}
use Rattle.node_core.proofs.TickDiskLemmas.{accused_on, on-spreads, due-comes, due-over}
use Rattle.node_core.proofs.Node.pass_due.Goals as goal

pub returns-clause-plays : goal.returns-clause-plays
returns-clause-plays g c = λ s es os call p.
    let silent : List ℕ = c.args.due.silent.items in
    let pings : List (ℕ × ℕ) = c.args.due.pings.items in
    let c1 : Call = accuses_all s silent (spreads s call) in
    let spread = c.spread.ensures.plays s es os call p in
    let pinged = c.ping_all.ensures.plays s es os c1 (c.in_ok-accuse_all.ensures.plays s es os (spreads s call) spread) in
    let done = c.gossip.ensures.plays s es os (pings_all s c.deref.result.now c1) pinged in
    subst (Plays s es os c.gossip.new.self) (ap (λ (ps : List (ℕ × ℕ)). gossips s c.args.round (pings_all s ps c1)) c.deref.ensures.value ∙ sym (due-is s silent pings c.args.round call)) done

pub returns-clause-grows : goal.returns-clause-grows
returns-clause-grows g c =
    let sent =
    grows-trans c.accuse_all.new.self c.ping_all.new.self c.gossip.new.self c.ping_all.ensures.grows c.gossip.ensures.grows in
    grows-trans c.args.self.now c.spread.new.self c.gossip.new.self c.spread.ensures.grows
    (grows-trans c.spread.new.self c.accuse_all.new.self c.gossip.new.self c.in_ok-accuse_all.ensures.grows sent)

pub returns-clause-spends : goal.returns-clause-spends
returns-clause-spends g c =
    spends-after c.args.self.now c.spread.new.self c.gossip.new.self _ _ c.spread.ensures.signs_nothing
    (still-failed c.args.self.now c.spread.new.self c.spread.ensures.grows)
    (spends-before c.spread.new.self c.accuse_all.new.self c.gossip.new.self _ _ c.in_ok-accuse_all.ensures.spends (nothing-trans c.accuse_all.new.self c.ping_all.new.self c.gossip.new.self c.ping_all.ensures.signs_nothing c.gossip.ensures.signs_nothing)
    (λ fine. c.ping_all.ensures.grows.going (c.gossip.ensures.grows.going fine)))

pub returns-in_err-accuse_all-clause-plays : goal.returns-in_err-accuse_all-clause-plays
returns-in_err-accuse_all-clause-plays g c = λ s es os call p.
    let spread = c.spread.ensures.plays s es os call p in
    err-due s es os c.accuse_all.new.self c.args.due.silent.items c.args.due.pings.items c.args.round call c.from_residual.result c.from_residual.ensures.0
    (c.in_err-accuse_all.ensures.plays s es os (spreads s call) spread)

pub returns-in_err-accuse_all-clause-spends : goal.returns-in_err-accuse_all-clause-spends
returns-in_err-accuse_all-clause-spends g c =
    spends-after c.args.self.now c.spread.new.self c.accuse_all.new.self _ _ c.spread.ensures.signs_nothing
    (still-failed c.args.self.now c.spread.new.self c.spread.ensures.grows) c.in_err-accuse_all.ensures.spends

pub returns-clause-closed : goal.returns-clause-closed
returns-clause-closed g c =
    let closed : SignerState → Bool = λ s. s.closed in
    ap closed c.gossip.ensures.signs_nothing.signer ∙ ap closed c.ping_all.ensures.signs_nothing.signer
    ∙ c.in_ok-accuse_all.ensures.closed ∙ ap closed c.spread.ensures.signs_nothing.signer

pub returns-clause-follows : goal.returns-clause-follows
returns-clause-follows g c = λ s es os call d p on is fine.
    let silent : List ℕ = c.args.due.silent.items in
    let pings : List (ℕ × ℕ) = c.args.due.pings.items in
    let y = (g.D.Disk.state c.accuse_all.new.disk).model in
    let begun : OnDisk PlacedStore = on_disk call d c.args.self.now.signer.seat in
    let o : OnDisk PlacedStore = accused_on s silent begun in
    let spread = c.spread.ensures.plays s es os call p in
    let ran =
    c.in_ok-accuse_all.ensures.follows s es os (spreads s call) d spread (on-spreads s call ∙ on) is
    (c.ping_all.ensures.grows.going (c.gossip.ensures.grows.going fine)) in
    let h =
    subst
    (λ (k : SignerState). ComesTo s es os c.accuse_all.new.self y false (fold (accuses_on storage s) (on_disk (spreads s call) d k.seat) silent)) c.spread.ensures.signs_nothing.signer ran in
    let pinged = c.ping_all.ensures.plays s es os o.call (plays-at s es os c.accuse_all.new.self o.call h.at) in
    let done = (c.gossip.ensures.plays s es os (pings_all s c.deref.result.now o.call) pinged).at fine in
    due-comes s es os c.accuse_all.new.self c.gossip.new.self y silent pings c.args.round begun h
    (subst (λ (ps : List (ℕ × ℕ)). IsAt s es os c.gossip.new.self (gossips s c.args.round (pings_all s ps o.call))) c.deref.ensures.value done)
    (c.gossip.ensures.signs_nothing.signer ∙ c.ping_all.ensures.signs_nothing.signer)

pub returns-in_err-accuse_all-clause-follows : goal.returns-in_err-accuse_all-clause-follows
returns-in_err-accuse_all-clause-follows g c = λ s es os call d p on is fine.
    let silent : List ℕ = c.args.due.silent.items in
    let pings : List (ℕ × ℕ) = c.args.due.pings.items in
    let y = (g.D.Disk.state c.accuse_all.new.disk).model in
    let begun : OnDisk PlacedStore = on_disk call d c.args.self.now.signer.seat in
    let o : OnDisk PlacedStore = accused_on s silent begun in
    let spread = c.spread.ensures.plays s es os call p in
    let ran = c.in_err-accuse_all.ensures.follows s es os (spreads s call) d spread (on-spreads s call ∙ on) is fine in
    let h =
    subst
    (λ (k : SignerState). ComesTo s es os c.accuse_all.new.self y true (fold (accuses_on storage s) (on_disk (spreads s call) d k.seat) silent)) c.spread.ensures.signs_nothing.signer ran in
    subst (λ (failed : Bool). ComesTo s es os c.accuse_all.new.self y failed (due_on storage s silent pings c.args.round begun)) (sym c.from_residual.ensures.0)
    (subst (ComesTo s es os c.accuse_all.new.self y true) (sym (due-over s silent pings c.args.round begun o refl h.ended)) h)

pub returns-then-has_failed-clause-plays : goal.returns-then-has_failed-clause-plays
returns-then-has_failed-clause-plays g c = λ s es os call p.
    let silent : List ℕ = c.args.due.silent.items in
    let pings : List (ℕ × ℕ) = c.args.due.pings.items in
    let c1 : Call = accuses_all s silent (spreads s call) in
    let c2 : Call = pings_all s pings c1 in
    let spread = c.spread.ensures.plays s es os call p in
    let failed = ap (λ (v : Kept). v.telling.failed) (sym c.self.view_is) ∙ sym c.has_failed.ensures ∙ c.if-has_failed.true in
    let further = extends-trans c1 c2 (gossips s c.args.round c2) (extends-pings_all s pings c1) (extends-gossips s c.args.round c2) in
    subst (Plays s es os c.accuse_all.new.self) (sym (due-is s silent pings c.args.round call))
    (plays-stuck s es os c.accuse_all.new.self c1 (gossips s c.args.round c2) failed (c.in_ok-accuse_all.ensures.plays s es os (spreads s call) spread) further)

pub returns-then-has_failed-clause-spends : goal.returns-then-has_failed-clause-spends
returns-then-has_failed-clause-spends g c =
    spends-after c.args.self.now c.spread.new.self c.accuse_all.new.self _ _ c.spread.ensures.signs_nothing
    (still-failed c.args.self.now c.spread.new.self c.spread.ensures.grows) c.in_ok-accuse_all.ensures.spends

pub returns-then-has_failed-clause-closed : goal.returns-then-has_failed-clause-closed
returns-then-has_failed-clause-closed g c =
    c.in_ok-accuse_all.ensures.closed ∙ ap (λ (s : SignerState). s.closed) c.spread.ensures.signs_nothing.signer

pub returns-then-has_failed-clause-follows : goal.returns-then-has_failed-clause-follows
returns-then-has_failed-clause-follows g c = λ s es os call d p on is fine.
    let failed = ap (λ (v : Kept). v.telling.failed) (sym c.self.view_is) ∙ sym c.has_failed.ensures ∙ c.if-has_failed.true in
    absurd (false≢true (sym fine ∙ failed))
