use Rattle.std.proofs.Common.{rules, ◌≡◌, Bool, true, false, cond, eqb, ap, sym, subst, ◌∙◌}
use Rattle.std.specs.Prelude.{◌%◌}
use Rattle.node_rules.specs.Nodes.{state_of}
use Rattle.node_rules.specs.Calls.{Call, begun}
use Rattle.node_rules.specs.Ticking.{is_due, passed, watched_by}
use Rattle.ff_ids.specs.Views.{State}
use Rattle.membership.specs.Holds.{Holds}
use Rattle.detector.specs.Kept.{StandsFor}
use Rattle.detector.specs.Silence.{AreTo, History, silent as silent_of, ticked_with}
use Rattle.detector.specs.Watching.{watched}
use Rattle.audit_node.specs.Told.{Tellings}
use Rattle.audit_node.specs.Playing.{Kept, IsMirror, IsAt, Plays, Grows}
use Rattle.audit_node.proofs.PlayLemmas.{grows-trans}
use Rattle.audit_node.specs.contracts.Mirror.{the_view}
use Rattle.audit_node.proofs.TickLemmas.{passed-is, ticked-idle, due-same, begins-same, round-same, watched-same, grows-ticked, Sees, seen-at, plays-due, same-members, seen}
use Rattle.std.proofs.lemmas.Bool.{false≢true}
use Rattle.std.proofs.Common.{ℕ, List, []}
use Rattle.audit_node.proofs.Mirror.pass.Goals as goal

pub returns-then-not-is_due-clause-passes : goal.returns-then-not-is_due-clause-passes
returns-then-not-is_due-clause-passes c = λ s es n p.
    let v : Kept = the_view c.self.inside in
    let sent : List (ℕ × ℕ) = c.tick.new.out.pings in
    let v2 : Kept = record v { detector = c.tick.new.self; since = c.since_after-self-inside.result } in
    let c1 : Call = passed s n in
    let b : Bool = eqb (c.now-now.result % c.from-period.result) 0 in
    let lived : Plays s es c.live_tick.new.self c1 = subst (λ x. Plays s es c.live_tick.new.self x) (sym (passed-is s n)) (c.live_tick.ensures.plays s es (begun n) p) in
    let at : Plays s es v c1 = subst (λ v. Plays s es v c1) (sym c.self.view_is) lived in
    let since = c.since_after-self-inside.ensures in
    let sees : IsMirror s v c1.node → Sees v s c1.node c.tick.new.self c.since_after-self-inside.result sent =
    λ n1. record {
      probes = c.tick.ensures.stands;
      begins = eqb (c.now-now.result % c.from.result) 0;
      begins_is = begins-same s v c1.node c.now-now.result c.from.result n1 c.now-now.ensures.moment c.from.ensures;
      since_is = since;
    } in
    record {
      at = λ fine.
          let h = at.at fine in
          let same = due-same s v c1.node c.now-now.result c.from-period.result h.is c.now-now.ensures.moment c.from-period.ensures in
          let idle : is_due s (state_of s c1.node) ≡ false = sym same ∙ search rules in
          let to = subst (λ ws. AreTo (cond b ws []) sent) (watched-same s v c1.node h.is c.self.invariant.detector_group) (c.tick.ensures.to (state_of s c1.node) h.is.holds) in
          record {
            sent = sent;
            to = same-members s n b sent same to;
            at = subst (IsAt s es v2) (sym (ticked-idle s n sent idle))
                (seen-at s es v c1 c.tick.new.self c.since_after-self-inside.result sent h c.self.invariant.detector_group (sees h.is));
          };
    }

pub returns-in-Ok-clause-passes : goal.returns-in-Ok-clause-passes
returns-in-Ok-clause-passes c = λ s es n p.
    let v : Kept = the_view c.self.inside in
    let sent : List (ℕ × ℕ) = c.in-Ok.due.pings.items in
    let found : sent ≡ c.tick.new.out.pings = c.in-Ok.ensures.pings in
    let v2 : Kept = record v { detector = c.tick.new.self; since = c.since_after-self-inside.result } in
    let c1 : Call = passed s n in
    let b : Bool = eqb (c.now-now.result % c.from-period.result) 0 in
    let lived : Plays s es c.live_tick.new.self c1 = subst (λ x. Plays s es c.live_tick.new.self x) (sym (passed-is s n)) (c.live_tick.ensures.plays s es (begun n) p) in
    let at : Plays s es v c1 = subst (λ v. Plays s es v c1) (sym c.self.view_is) lived in
    let since = c.since_after-self-inside.ensures in
    let stands = λ (h : History) (st : State) (k : StandsFor v.detector h) (l : Holds v.membership st).
    subst (λ (ps : List (ℕ × ℕ)). StandsFor c.tick.new.self (ticked_with h (watched v.detector.group.t st v.me) ps)) (sym found) (c.tick.ensures.stands h st k l) in
    let sees : IsMirror s v c1.node → Sees v s c1.node c.tick.new.self c.since_after-self-inside.result sent =
    λ n1. record {
      probes = stands;
      begins = eqb (c.now-now.result % c.from.result) 0;
      begins_is = begins-same s v c1.node c.now-now.result c.from.result n1 c.now-now.ensures.moment c.from.ensures;
      since_is = since;
    } in
    let same : IsAt s es v c1 → b ≡ is_due s (state_of s c1.node) = λ h. due-same s v c1.node c.now-now.result c.from-period.result h.is c.now-now.ensures.moment c.from-period.ensures in
    let is : b ≡ true = search rules in
    let saw : Plays s es v2 (seen s sent c1) = record {
      at = λ fine. let h = at.at fine in seen-at s es v c1 c.tick.new.self c.since_after-self-inside.result sent h c.self.invariant.detector_group (sees h.is);
    } in
    let grows = grows-ticked v c.pass_due.new.self c.tick.new.self c.since_after-self-inside.result c.pass_due.ensures.grows in
    let done = plays-due s es n v c.pass_due.new.self c.in-Ok.due.silent.items sent c.saturating_sub.result
    (c.pass_due.ensures.plays s es (seen s sent c1) saw) grows at (λ h.
    let n1 = h.is in
    let watching = watched-same s v c1.node n1 c.self.invariant.detector_group in
    record {
      due = sym (same h) ∙ is;
      silent_is = c.in-Ok.ensures.silent ∙ c.tick.ensures.silent c1.node.probes (state_of s c1.node) n1.probes n1.holds ∙ ap (λ ws. silent_of c1.node.probes ws) watching;
      round_is = search rules ∙ round-same s v c1.node c.now-now.result c.from-period.result n1 c.now-now.ensures.moment c.from-period.ensures;
    }) in
    record {
      at = λ fine.
          let h = at.at (grows.going fine) in
          let to = subst (λ ws. AreTo (cond b ws []) c.tick.new.out.pings) (watched-same s v c1.node h.is c.self.invariant.detector_group) (c.tick.ensures.to (state_of s c1.node) h.is.holds) in
          record {
            sent = sent;
            to = same-members s n b sent (same h) (subst (AreTo (cond b (watched_by s (state_of s c1.node)) [])) (sym found) to);
            at = done.at fine;
          };
    }

pub returns-in-Err-clause-passes : goal.returns-in-Err-clause-passes
returns-in-Err-clause-passes c = λ s es n p. record {
  at = λ fine. absurd (false≢true (sym fine ∙ ap (λ (t : Tellings). t.failed) c.fail.ensures));
}

pub returns-in-Ok-clause-grows : goal.returns-in-Ok-clause-grows
returns-in-Ok-clause-grows c =
    let v : Kept = the_view c.self.inside in
    let further = grows-ticked v c.pass_due.new.self c.tick.new.self c.since_after-self-inside.result c.pass_due.ensures.grows in
    grows-trans c.args.self.now v c.pass_due.new.self
    (subst (λ (w : Kept). Grows c.args.self.now w) (sym c.self.view_is) c.live_tick.ensures.grows) further
