use Rattle.std.proofs.Common.{◌≡◌, ℕ, ◌+◌, List, [], ◌∷◌, ◌++◌, take, subst, sym, ap, ◌∙◌, arith}
use Rattle.std.proofs.lemmas.List.{take_more}
use Rattle.node_rules.specs.Calls.{Call, sends}
use Rattle.node_rules.specs.Ticking.{pings_all}
use Rattle.datagram.specs.declared.Datagram.TheVariants as kinds
use Rattle.audit_node.specs.Playing.{Plays}
use Rattle.audit_node.proofs.PlayLemmas.{grows-trans}
use Rattle.audit_node.proofs.HandleLemmas.{fold-push, take-all}
use Rattle.audit_node.proofs.Mirror.ping_all.Goals as goal

pub loop-ping-preserved : goal.loop-ping-preserved
loop-ping-preserved c = (
  λ s es call p.
      let sent : List (ℕ × ℕ) = c.args.pings.now in
      let i : ℕ = c.loop-ping.ping-index in
      let x : ℕ × ℕ = c.ping-item.result in
      let longer : take (i + 1) sent ≡ take i sent ++ x ∷ [] = take_more sent i x c.loop-ping-test.true ∙ ap (λ (y : ℕ × ℕ). take i sent ++ y ∷ []) (sym c.ping-item.is) in
      let more : pings_all s (take (i + 1) sent) call ≡ sends s (kinds.Ping s.me x.1) (pings_all s (take i sent) call) x.0 =
      ap (λ (ps : List (ℕ × ℕ)). pings_all s ps call) longer ∙ fold-push (λ (c : Call) (q : ℕ × ℕ). sends s (kinds.Ping s.me q.1) c q.0) call (take i sent) x in
      subst (λ (y : Call). Plays s es c.send_ping.new.self y) (sym more) (c.send_ping.ensures.plays s es (pings_all s (take i sent) call) (c.loop-ping.invariant.0 s es call p)),
  grows-trans c.args.self.now c.loop-ping.self c.send_ping.new.self c.loop-ping.invariant.1 c.send_ping.ensures.grows,
)

pub returns-clause-plays : goal.returns-clause-plays
returns-clause-plays c = λ s es call p.
    let whole : take c.loop-ping.ping-index c.args.pings.now ≡ c.args.pings.now = take-all c.loop-ping.ping-index c.args.pings.now (omega (arith, c.loop-ping-test.false)) in
    subst (λ (ps : List (ℕ × ℕ)). Plays s es c.loop-ping.self (pings_all s ps call)) whole (c.loop-ping.invariant.0 s es call p)
