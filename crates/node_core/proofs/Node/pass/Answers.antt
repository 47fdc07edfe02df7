use Rattle.std.proofs.Common.{rules, ◌≡◌, Bool, true, false, cond, eqb, ap, sym, subst, ◌∙◌}
use Rattle.std.specs.Prelude.{◌%◌}
use Rattle.node_rules.specs.Nodes.{state_of}
use Rattle.node_rules.specs.Calls.{Call, begun}
use Rattle.node_rules.specs.Ticking.{is_due, passed, watched_by}
use Rattle.detector.specs.Silence.{silent as silent_of, pings as pings_of}
use Rattle.epoch_store.specs.declared.Stored.{Stored}
use Rattle.node_core.specs.Playing.{Kept, IsNode, IsAt, Plays, Grows}
use Rattle.node_core.proofs.PlayLemmas.{grows-trans}
use Rattle.node_core.specs.contracts.Node.{the_view}
use Rattle.node_core.specs.Ticks.{seen}
use Rattle.node_core.proofs.TickLemmas.{passed-is, ticked-idle, due-same, begins-same, round-same, watched-same, grows-ticked, Sees, seen-at, runs-due, tick-refused}
use Rattle.std.proofs.lemmas.Bool.{false≢true}
use Rattle.std.proofs.Common.{refl}
use Rattle.node_core.specs.Told.{Tellings}
use Rattle.node_core.specs.Spending.{SignsNothing, spent_told}
use Rattle.node_core.proofs.SpendLemmas.{open-further, still-failed, spends-none, spends-after}
use Rattle.signer.specs.Signing.{SignerState}
use Rattle.std.proofs.Common.{ℕ, List}
use Rattle.std.specs.Prelude.{is_err}
use Rattle.node_rules.specs.OnDisks.{ticked_on}
use Rattle.node_core.specs.OnDisks.{ComesTo, storage}
use Rattle.node_core.proofs.TickLemmas.{FindsDue}
use Rattle.node_core.proofs.TickDiskLemmas.{seen-on, ticked-on-idle, ticked-on-found}
use Rattle.node_core.proofs.Node.pass.Goals as goal
use Rattle.epoch_store.specs.declared.seat.Seat.{Seat}

pub returns-then-not-is_due-clause-plays : goal.returns-then-not-is_due-clause-plays
returns-then-not-is_due-clause-plays g c = λ s es os n p.
    let v : Kept = the_view c.self.inside in
    let v2 : Kept = record v { detector = c.tick.new.self; since = c.since_after-self-inside.result } in
    let c1 : Call = passed s n in
    let lived : Plays s es os c.live_tick.new.self c1 = subst (λ x. Plays s es os c.live_tick.new.self x) (sym (passed-is s n)) (c.live_tick.ensures.plays s es os (begun n) p) in
    let at : Plays s es os v c1 = subst (λ v. Plays s es os v c1) (sym c.self.view_is) lived in
    let since : c.since_after-self-inside.result ≡ cond (eqb (c.now-now.result % c.from.result) 0) v.signer.state.epoch v.since =
    c.since_after-self-inside.ensures
    ∙ ap (λ (k : Stored). cond (eqb (c.now-now.result % c.from.result) 0) k.epoch v.since) c.state-epoch.ensures in
    let sees : IsNode s v c1.node → Sees v s c1.node c.tick.new.self c.since_after-self-inside.result (eqb (c.now-now.result % c.from-period.result) 0) =
    λ n1. record {
      due_is = due-same s v c1.node c.now-now.result c.from-period.result n1 c.now-now.ensures.moment c.from-period.ensures;
      probes = c.tick.ensures.holds;
      begins = eqb (c.now-now.result % c.from.result) 0;
      begins_is = begins-same s v c1.node c.now-now.result c.from.result n1 c.now-now.ensures.moment c.from.ensures;
      since_is = since;
    } in
    record {
      at = λ fine.
          let h = at.at fine in
          let same = due-same s v c1.node c.now-now.result c.from-period.result h.is c.now-now.ensures.moment c.from-period.ensures in
          let idle : is_due s (state_of s c1.node) ≡ false = sym same ∙ search rules in
          subst (IsAt s es os v2) (sym (ticked-idle s n idle))
          (seen-at s es os v c1 c.tick.new.self c.since_after-self-inside.result (eqb (c.now-now.result % c.from-period.result) 0) h c.self.invariant.detector_group (sees h.is));
      due = tick-refused s es os n v v2 refl refl at;
    }

pub returns-in-Ok-clause-plays : goal.returns-in-Ok-clause-plays
returns-in-Ok-clause-plays g c = λ s es os n p.
    let v : Kept = the_view c.self.inside in
    let v2 : Kept = record v { detector = c.tick.new.self; since = c.since_after-self-inside.result } in
    let c1 : Call = passed s n in
    let b : Bool = eqb (c.now-now.result % c.from-period.result) 0 in
    let lived : Plays s es os c.live_tick.new.self c1 = subst (λ x. Plays s es os c.live_tick.new.self x) (sym (passed-is s n)) (c.live_tick.ensures.plays s es os (begun n) p) in
    let at : Plays s es os v c1 = subst (λ v. Plays s es os v c1) (sym c.self.view_is) lived in
    let since : c.since_after-self-inside.result ≡ cond (eqb (c.now-now.result % c.from.result) 0) v.signer.state.epoch v.since =
    c.since_after-self-inside.ensures
    ∙ ap (λ (k : Stored). cond (eqb (c.now-now.result % c.from.result) 0) k.epoch v.since) c.state-epoch.ensures in
    let sees : IsNode s v c1.node → Sees v s c1.node c.tick.new.self c.since_after-self-inside.result (eqb (c.now-now.result % c.from-period.result) 0) =
    λ n1. record {
      due_is = due-same s v c1.node c.now-now.result c.from-period.result n1 c.now-now.ensures.moment c.from-period.ensures;
      probes = c.tick.ensures.holds;
      begins = eqb (c.now-now.result % c.from.result) 0;
      begins_is = begins-same s v c1.node c.now-now.result c.from.result n1 c.now-now.ensures.moment c.from.ensures;
      since_is = since;
    } in
    let same : IsAt s es os v c1 → b ≡ is_due s (state_of s c1.node) = λ h. due-same s v c1.node c.now-now.result c.from-period.result h.is c.now-now.ensures.moment c.from-period.ensures in
    let is : b ≡ true = search rules in
    let saw : Plays s es os v2 (seen s c1) = record {
      at = λ fine. let h = at.at fine in seen-at s es os v c1 c.tick.new.self c.since_after-self-inside.result b h c.self.invariant.detector_group (sees h.is);
      due = record { told = at.due.told; sent = at.due.sent };
    } in
    runs-due s es os n v c.pass_due.new.self c.in-Ok.due.silent.items c.in-Ok.due.pings.items c.saturating_sub.result c.pass_due.result
    (c.pass_due.ensures.plays s es os (seen s c1) saw)
    (grows-ticked v c.pass_due.new.self c.tick.new.self c.since_after-self-inside.result c.pass_due.ensures.grows) at (λ h.
    let n1 = h.is in
    let watching = watched-same s v c1.node n1 c.self.invariant.detector_group in
    record {
      due = sym (same h) ∙ is;
      silent_is = c.in-Ok.ensures.silent ∙ c.tick.ensures.silent c1.node.probes (state_of s c1.node) n1.probes.stands n1.holds ∙ ap (λ ws. silent_of c1.node.probes ws) watching;
      pings_is = c.in-Ok.ensures.pings ∙ c.tick.ensures.pings c1.node.probes (state_of s c1.node) n1.probes n1.holds ∙ ap (λ ws. pings_of c1.node.probes b ws) watching ∙ ap (λ (x : Bool). pings_of c1.node.probes x (watched_by s (state_of s c1.node))) is;
      round_is = search rules ∙ round-same s v c1.node c.now-now.result c.from-period.result n1 c.now-now.ensures.moment c.from-period.ensures;
    })

pub returns-in-Err-clause-plays : goal.returns-in-Err-clause-plays
returns-in-Err-clause-plays g c = λ s es os n p.
    let v : Kept = the_view c.self.inside in
    let c1 : Call = passed s n in
    let lived : Plays s es os c.live_tick.new.self c1 = subst (λ x. Plays s es os c.live_tick.new.self x) (sym (passed-is s n)) (c.live_tick.ensures.plays s es os (begun n) p) in
    let at : Plays s es os v c1 = subst (λ v. Plays s es os v c1) (sym c.self.view_is) lived in
    record {
      at = λ fine. absurd (false≢true (sym fine ∙ ap (λ (t : Tellings). t.failed) c.fail.ensures));
      due = tick-refused s es os n v _ (ap (λ (t : Tellings). t.events) c.fail.ensures) (ap (λ (t : Tellings). t.sent) c.fail.ensures) at;
    }

pub returns-then-not-is_due-clause-spends : goal.returns-then-not-is_due-clause-spends
returns-then-not-is_due-clause-spends g c =
    let quiet = c.live_tick.ensures.signs_nothing in
    spends-none c.args.self.now _ _ (record {
      signer = ap (λ (v : Kept). v.signer) c.self.view_is ∙ quiet.signer;
      told_none = ap (λ (v : Kept). spent_told v.telling.events) c.self.view_is ∙ quiet.told_none;
    })

pub returns-in-Ok-clause-grows : goal.returns-in-Ok-clause-grows
returns-in-Ok-clause-grows g c =
    let v : Kept = the_view c.self.inside in
    let further = grows-ticked v c.pass_due.new.self c.tick.new.self c.since_after-self-inside.result c.pass_due.ensures.grows in
    grows-trans c.args.self.now v c.pass_due.new.self
    (subst (λ (w : Kept). Grows c.args.self.now w) (sym c.self.view_is) c.live_tick.ensures.grows) further

pub returns-in-Ok-clause-spends : goal.returns-in-Ok-clause-spends
returns-in-Ok-clause-spends g c =
    let v2 : Kept = record (the_view c.self.inside) { detector = c.tick.new.self; since = c.since_after-self-inside.result } in
    let quiet = c.live_tick.ensures.signs_nothing in
    let none : SignsNothing c.args.self.now v2 = record {
      signer = ap (λ (v : Kept). v.signer) c.self.view_is ∙ quiet.signer;
      told_none = ap (λ (v : Kept). spent_told v.telling.events) c.self.view_is ∙ quiet.told_none;
    } in
    spends-after c.args.self.now v2 c.pass_due.new.self _ _ none
    (λ failed. ap (λ (v : Kept). v.telling.failed) c.self.view_is ∙ still-failed c.args.self.now c.live_tick.new.self c.live_tick.ensures.grows failed) c.pass_due.ensures.spends

pub returns-in-Err-clause-spends : goal.returns-in-Err-clause-spends
returns-in-Err-clause-spends g c =
    let quiet = c.live_tick.ensures.signs_nothing in
    spends-none c.args.self.now _ _ (record {
      signer = ap (λ (v : Kept). v.signer) c.self.view_is ∙ quiet.signer;
      told_none = ap (λ t. spent_told t.events) c.fail.ensures ∙ ap (λ (v : Kept). spent_told v.telling.events) c.self.view_is ∙ quiet.told_none;
    })

pub returns-in-Ok-clause-closed : goal.returns-in-Ok-clause-closed
returns-in-Ok-clause-closed g c =
    open-further c.pass_due.result _ _ _ c.pass_due.ensures.closed (ap (λ (v : Kept). v.signer.closed) c.self.view_is ∙ ap (λ (s : SignerState). s.closed) c.live_tick.ensures.signs_nothing.signer)

pub returns-then-not-is_due-clause-closed : goal.returns-then-not-is_due-clause-closed
returns-then-not-is_due-clause-closed g c = ap (λ (v : Kept). v.signer.closed) c.self.view_is ∙ ap (λ (s : SignerState). s.closed) c.live_tick.ensures.signs_nothing.signer

pub returns-in-Err-clause-closed : goal.returns-in-Err-clause-closed
returns-in-Err-clause-closed g c = ap (λ (v : Kept). v.signer.closed) c.self.view_is ∙ ap (λ (s : SignerState). s.closed) c.live_tick.ensures.signs_nothing.signer

pub returns-then-not-is_due-clause-follows : goal.returns-then-not-is_due-clause-follows
returns-then-not-is_due-clause-follows g c = λ s es os n d p told fine.
    let v : Kept = the_view c.self.inside in
    let v2 : Kept = record v { detector = c.tick.new.self; since = c.since_after-self-inside.result } in
    let c1 : Call = passed s n in
    let x = (g.D.Disk.state c.args.disk.now).model in
    let seat : Seat = c.args.self.now.signer.seat in
    let lived : Plays s es os c.live_tick.new.self c1 = subst (λ x. Plays s es os c.live_tick.new.self x) (sym (passed-is s n)) (c.live_tick.ensures.plays s es os (begun n) p) in
    let at : Plays s es os v c1 = subst (λ v. Plays s es os v c1) (sym c.self.view_is) lived in
    let since : c.since_after-self-inside.result ≡ cond (eqb (c.now-now.result % c.from.result) 0) v.signer.state.epoch v.since =
    c.since_after-self-inside.ensures
    ∙ ap (λ (k : Stored). cond (eqb (c.now-now.result % c.from.result) 0) k.epoch v.since) c.state-epoch.ensures in
    let sees : IsNode s v c1.node → Sees v s c1.node c.tick.new.self c.since_after-self-inside.result (eqb (c.now-now.result % c.from-period.result) 0) =
    λ n1. record {
      due_is = due-same s v c1.node c.now-now.result c.from-period.result n1 c.now-now.ensures.moment c.from-period.ensures;
      probes = c.tick.ensures.holds;
      begins = eqb (c.now-now.result % c.from.result) 0;
      begins_is = begins-same s v c1.node c.now-now.result c.from.result n1 c.now-now.ensures.moment c.from.ensures;
      since_is = since;
    } in
    let h = at.at fine in
    let same = due-same s v c1.node c.now-now.result c.from-period.result h.is c.now-now.ensures.moment c.from-period.ensures in
    let idle : is_due s (state_of s c1.node) ≡ false = sym same ∙ search rules in
    subst (ComesTo s es os v2 x false) (sym (ticked-on-idle s n d seat idle))
    (record {
      at = seen-at s es os v c1 c.tick.new.self c.since_after-self-inside.result (eqb (c.now-now.result % c.from-period.result) 0) h c.self.invariant.detector_group (sees h.is);
      ended = seen-on s n;
      disk = told;
      seat = ap (λ (w : Kept). w.signer.seat) c.self.view_is ∙ ap (λ k. k.seat) c.live_tick.ensures.signs_nothing.signer;
    })

pub returns-in-Ok-clause-follows : goal.returns-in-Ok-clause-follows
returns-in-Ok-clause-follows g c = λ s es os n d p told fine.
    let v : Kept = the_view c.self.inside in
    let v2 : Kept = record v { detector = c.tick.new.self; since = c.since_after-self-inside.result } in
    let c1 : Call = passed s n in
    let b : Bool = eqb (c.now-now.result % c.from-period.result) 0 in
    let silent : List ℕ = c.in-Ok.due.silent.items in
    let pings : List (ℕ × ℕ) = c.in-Ok.due.pings.items in
    let round : ℕ = c.saturating_sub.result in
    let y = (g.D.Disk.state c.pass_due.new.disk).model in
    let lived : Plays s es os c.live_tick.new.self c1 = subst (λ x. Plays s es os c.live_tick.new.self x) (sym (passed-is s n)) (c.live_tick.ensures.plays s es os (begun n) p) in
    let at : Plays s es os v c1 = subst (λ v. Plays s es os v c1) (sym c.self.view_is) lived in
    let since : c.since_after-self-inside.result ≡ cond (eqb (c.now-now.result % c.from.result) 0) v.signer.state.epoch v.since =
    c.since_after-self-inside.ensures
    ∙ ap (λ (k : Stored). cond (eqb (c.now-now.result % c.from.result) 0) k.epoch v.since) c.state-epoch.ensures in
    let sees : IsNode s v c1.node → Sees v s c1.node c.tick.new.self c.since_after-self-inside.result (eqb (c.now-now.result % c.from-period.result) 0) =
    λ n1. record {
      due_is = due-same s v c1.node c.now-now.result c.from-period.result n1 c.now-now.ensures.moment c.from-period.ensures;
      probes = c.tick.ensures.holds;
      begins = eqb (c.now-now.result % c.from.result) 0;
      begins_is = begins-same s v c1.node c.now-now.result c.from.result n1 c.now-now.ensures.moment c.from.ensures;
      since_is = since;
    } in
    let h =
    at.at
    ((grows-ticked v c.pass_due.new.self c.tick.new.self c.since_after-self-inside.result c.pass_due.ensures.grows).going fine) in
    let n1 = h.is in
    let same : b ≡ is_due s (state_of s c1.node) = due-same s v c1.node c.now-now.result c.from-period.result n1 c.now-now.ensures.moment c.from-period.ensures in
    let is : b ≡ true = search rules in
    let saw : Plays s es os v2 (seen s c1) = record {
      at = λ again. seen-at s es os v c1 c.tick.new.self c.since_after-self-inside.result b h c.self.invariant.detector_group (sees n1);
      due = record { told = at.due.told; sent = at.due.sent };
    } in
    let watching = watched-same s v c1.node n1 c.self.invariant.detector_group in
    let finds : FindsDue s n silent pings round = record {
      due = sym same ∙ is;
      silent_is = c.in-Ok.ensures.silent ∙ c.tick.ensures.silent c1.node.probes (state_of s c1.node) n1.probes.stands n1.holds ∙ ap (λ ws. silent_of c1.node.probes ws) watching;
      pings_is = c.in-Ok.ensures.pings ∙ c.tick.ensures.pings c1.node.probes (state_of s c1.node) n1.probes n1.holds ∙ ap (λ ws. pings_of c1.node.probes b ws) watching ∙ ap (λ (x : Bool). pings_of c1.node.probes x (watched_by s (state_of s c1.node))) is;
      round_is = search rules ∙ round-same s v c1.node c.now-now.result c.from-period.result n1 c.now-now.ensures.moment c.from-period.ensures;
    } in
    let ran = c.pass_due.ensures.follows s es os (seen s c1) d saw (seen-on s n) told fine in
    let gates : v.signer.seat ≡ c.args.self.now.signer.seat = ap (λ (w : Kept). w.signer.seat) c.self.view_is ∙ ap (λ k. k.seat) c.live_tick.ensures.signs_nothing.signer in
    subst (λ (seat : Seat). ComesTo s es os c.pass_due.new.self y (is_err c.pass_due.result) (ticked_on storage s n (record { disk = d; seat = seat }))) gates
    (subst (ComesTo s es os c.pass_due.new.self y (is_err c.pass_due.result)) (ticked-on-found s n silent pings round d v.signer.seat finds) ran)

pub returns-in-Err-clause-follows : goal.returns-in-Err-clause-follows
returns-in-Err-clause-follows g c = λ s es os n d p told fine. absurd (false≢true (sym fine ∙ ap (λ (t : Tellings). t.failed) c.fail.ensures))
