use Rattle.std.proofs.Common.{ℕ, ◌+◌, List, ◌++◌, sym, subst}
use Rattle.world_rules.specs.Settings.{Setting}
use Rattle.world_rules.specs.Steps.{Execution, NodeEvent}
use Rattle.world.specs.contracts.World.{the_view}
use Rattle.world.specs.Holding.{Holds, Kept}
use Rattle.world.specs.Courses.{At}
use Rattle.world.proofs.HandingLemmas.{flows-idle, flows-runs, taken_of}
use Rattle.world.proofs.WorldLemmas.{holds-flowed}
use Rattle.world.proofs.World.flow_one.Goals as goal

taken-at : (s : Setting) (before : List NodeEvent) (base : List ℕ) (v : Kept) (out : List ℕ) (k : Execution) → At s before base v out k → At s before base (record v { flowed = v.flowed + 1 }) out (taken_of k)
taken-at s before base v out k at =
    record {
      holds = subst (λ (n : ℕ). Holds s (record k.world { flowed = n + 1 }) (before ++ k.told) (record v { flowed = v.flowed + 1 })) at.holds.flowed (holds-flowed s k.world (before ++ k.told) v (v.flowed + 1) at.holds);
      written = at.written;
    }

pub returns-in-Some-clause-flows : goal.returns-in-Some-clause-flows
returns-in-Some-clause-flows c = λ s before base k d at is addressee.
    let v : Kept = the_view c.self.inside in
    let here : At s before base v c.args.out.now.items k = record { holds = subst (Holds s k.world (before ++ k.told)) (sym c.self.view_is) at.holds; written = at.written } in
    let taken = taken-at s before base v c.args.out.now.items k here in
    let runs = c.in-Some.ensures.runs s (taken_of k).world (before ++ k.told) taken.holds in
    flows-runs s before base c.hand_sent.new.self c.hand_sent.new.out.items k d c.args.to c.self.inside.flowed c.hand_sent.result addressee here.holds.flowed is runs.0
    (c.hand_sent.ensures.hands s before base (taken_of k) c.args.to taken runs.1)

pub returns-in-None-clause-flows : goal.returns-in-None-clause-flows
returns-in-None-clause-flows c = λ s before base k d at is addressee.
    let v : Kept = the_view c.self.inside in
    let here : At s before base v c.args.out.now.items k = record { holds = subst (Holds s k.world (before ++ k.told)) (sym c.self.view_is) at.holds; written = at.written } in
    let taken = taken-at s before base v c.args.out.now.items k here in
    (taken_of k, flows-idle s k d c.args.to addressee (c.in-None.ensures.runs s (taken_of k).world (before ++ k.told) taken.holds), taken)
