use Rattle.std.proofs.Common.{refl, subst, sym, ◌∙◌}
use Rattle.records.specs.declared.Body.{Body}
use Rattle.records.specs.declared.Body.TheVariants as bodies
use Rattle.record_set.specs.Held.{key_of}
use Rattle.node_rules.specs.Calls.{Call}
use Rattle.node_core.specs.News.{keeps}
use Rattle.node_core.specs.Playing.{Kept, Plays}
use Rattle.node_core.specs.contracts.Node.{the_view}
use Rattle.node_core.proofs.PlayLemmas.{keeps-at, keeps-quietly, quiet-at, accusation-steps, takes-fresh}
use Rattle.ff_ids.specs.Steps.{Accuses, nothing}
use Rattle.node_core.proofs.NotedLemmas.{still, newest-same, notes-accusation}
use Rattle.std.proofs.Common.{◌≡◌, true, is_some}
use Rattle.std.specs.FinMap.{get}
use Rattle.node_core.proofs.Node.take_accusation.Goals as goal

pub returns-clause-plays : goal.returns-clause-plays
returns-clause-plays c = λ s es os call p.
    let v : Kept = the_view c.self.inside in
    let b : Body = bodies.Accusation c.args.acc in
    let life = c.put_accusation-fault.new.self in
    let w : Kept = record v { membership = life; records = c.put.new.self } in
    let kept : Call = keeps s c.args.rec.rec call in
    let p0 = subst (λ v. Plays s es os v call) (sym c.self.view_is) p in
    let mid : Plays s es os w kept = keeps-quietly s es os v w call c.args.rec.rec refl p0 (λ fine.
    let steps = accusation-steps c.self.inside.group c.self.inside.membership life c.args.acc c.put_accusation-fault.result c.self.invariant.membership_group
    c.put_accusation-fault.ensures.fault c.put_accusation-fault.ensures.step c.put_accusation-fault.ensures.same in
    let at = quiet-at s es os v call (Accuses c.args.acc) life p0.at steps fine in
    keeps-at s es os (record v { membership = life }) call c.args.rec b c.put.new.self c.requires.accusation tt c.put.ensures.held at) in
    subst (Plays s es os c.add_news.new.self) (sym (takes-fresh s c.args.rec.rec b (key_of b) call c.requires.accusation tt refl))
    (c.add_news.ensures.plays s es os kept mid)

pub invariant_of-self : goal.invariant_of-self
invariant_of-self c =
    let i = c.self.invariant in
    let steps = accusation-steps c.self.inside.group c.self.inside.membership c.put_accusation-fault.new.self c.args.acc c.put_accusation-fault.result i.membership_group
    c.put_accusation-fault.ensures.fault c.put_accusation-fault.ensures.step c.put_accusation-fault.ensures.same in
    record {
      some = i.some;
      few = i.few;
      period = i.period;
      timeout = i.timeout;
      membership_group = c.put_accusation-fault.ensures.group ∙ i.membership_group;
      detector_group = i.detector_group;
      signer_group = i.signer_group;
      joined = still c.self.inside.membership c.put_accusation-fault.new.self c.self.inside.me c.put_accusation-fault.ensures.members i.joined;
      allowed = i.allowed;
      notes = notes-accusation c.self.inside.group (Accuses c.args.acc) c.self.inside.membership c.put_accusation-fault.new.self nothing c.self.inside.records c.put.new.self c.args.rec c.args.acc steps (λ m. tt) c.requires.accusation
          (subst (λ (v : Kept). is_some (get v.membership.notes c.args.acc.accused) ≡ true) (sym c.self.view_is) c.requires.noted) c.put.ensures.held i.notes;
      newest_own = newest-same c.self.inside.group (Accuses c.args.acc) c.self.inside.membership c.put_accusation-fault.new.self nothing c.self.inside.records c.self.inside.me steps i.notes tt ∙ i.newest_own;
      is_open = i.is_open;
    }
