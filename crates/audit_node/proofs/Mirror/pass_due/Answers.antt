use Rattle.std.proofs.Common.{ℕ, List, ap, sym, subst, ◌∙◌}
use Rattle.node_rules.specs.Calls.{Call}
use Rattle.node_rules.specs.Ticking.{accuses_all, pings_all, gossips, spreads}
use Rattle.audit_node.specs.Playing.{Plays}
use Rattle.audit_node.proofs.PlayLemmas.{grows-trans}
use Rattle.audit_node.proofs.TickLemmas.{due-is}
use Rattle.audit_node.proofs.Mirror.pass_due.Goals as goal

pub returns-clause-plays : goal.returns-clause-plays
returns-clause-plays c = λ s es call p.
    let silent : List ℕ = c.args.due.silent.items in
    let pings : List (ℕ × ℕ) = c.args.due.pings.items in
    let c1 : Call = accuses_all s silent (spreads s call) in
    let spread = c.spread.ensures.plays s es call p in
    let pinged = c.ping_all.ensures.plays s es c1 (c.accuse_all.ensures.plays s es (spreads s call) spread) in
    let done = c.gossip.ensures.plays s es (pings_all s c.deref.result.now c1) pinged in
    subst (Plays s es c.gossip.new.self) (ap (λ (ps : List (ℕ × ℕ)). gossips s c.args.round (pings_all s ps c1)) c.deref.ensures.value ∙ sym (due-is s silent pings c.args.round call)) done

pub returns-clause-grows : goal.returns-clause-grows
returns-clause-grows c =
    let sent =
    grows-trans c.accuse_all.new.self c.ping_all.new.self c.gossip.new.self c.ping_all.ensures.grows c.gossip.ensures.grows in
    grows-trans c.args.self.now c.spread.new.self c.gossip.new.self c.spread.ensures.grows
    (grows-trans c.spread.new.self c.accuse_all.new.self c.gossip.new.self c.accuse_all.ensures.grows sent)
