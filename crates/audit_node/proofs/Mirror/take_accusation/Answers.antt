use Rattle.std.proofs.Common.{refl, subst, sym, ◌∙◌}
use Rattle.records.specs.declared.Body.{Body}
use Rattle.records.specs.declared.Body.TheVariants as bodies
use Rattle.record_slots.specs.Held.{key_of}
use Rattle.records.specs.declared.Record.{Record}
use Rattle.node_rules.specs.Calls.{Call}
use Rattle.audit_node.specs.News.{keeps}
use Rattle.audit_node.specs.Playing.{Kept, Plays, record_of}
use Rattle.audit_node.specs.contracts.Mirror.{the_view}
use Rattle.audit_node.proofs.PlayLemmas.{keeps-at, quiet-at, accusation-steps, says-same, takes-fresh}
use Rattle.ff_ids.specs.Steps.{Accuses, nothing}
use Rattle.audit_node.proofs.NotedLemmas.{still, newest-same, notes-accusation}
use Rattle.std.proofs.Common.{◌≡◌, true, is_some}
use Rattle.std.specs.FinMap.{get}
use Rattle.audit_node.proofs.Mirror.take_accusation.Goals as goal

pub returns-clause-plays : goal.returns-clause-plays
returns-clause-plays c = λ s es call long p.
    let v : Kept = the_view c.self.inside in
    let b : Body = bodies.Accusation c.args.acc in
    let life = c.put_accusation-fault.new.self in
    let r : Record = record_of s c.args.known in
    let w : Kept = record v { membership = life; records = c.put.new.self } in
    let kept : Call = keeps s r call in
    let p0 = subst (λ v. Plays s es v call) (sym c.self.view_is) p in
    let mid : Plays s es w kept = record {
      at = λ fine.
          let steps = accusation-steps c.self.inside.group c.self.inside.membership life c.args.acc c.put_accusation-fault.result c.self.invariant.membership_group
          c.put_accusation-fault.ensures.fault c.put_accusation-fault.ensures.step c.put_accusation-fault.ensures.same in
          let at = quiet-at s es v call (Accuses c.args.acc) life p0.at steps fine in
          keeps-at s es (record v { membership = life }) call c.args.known b c.put.new.self c.requires.accusation tt long c.put.ensures at;
    } in
    subst (Plays s es c.add_news.new.self) (sym (takes-fresh s r b (key_of b) call (says-same s c.args.known ∙ c.requires.accusation) tt refl))
    (c.add_news.ensures.plays s es kept mid)

pub invariant_of-self : goal.invariant_of-self
invariant_of-self c =
    let i = c.self.invariant in
    let steps = accusation-steps c.self.inside.group c.self.inside.membership c.put_accusation-fault.new.self c.args.acc c.put_accusation-fault.result i.membership_group
    c.put_accusation-fault.ensures.fault c.put_accusation-fault.ensures.step c.put_accusation-fault.ensures.same in
    record {
      some = i.some;
      few = i.few;
      period = i.period;
      timeout = i.timeout;
      membership_group = c.put_accusation-fault.ensures.group ∙ i.membership_group;
      detector_group = i.detector_group;
      within = i.within;
      risen = i.risen;
      joined = still c.self.inside.membership c.put_accusation-fault.new.self c.self.inside.me c.put_accusation-fault.ensures.members i.joined;
      allowed = i.allowed;
      notes = notes-accusation c.self.inside.group (Accuses c.args.acc) c.self.inside.membership c.put_accusation-fault.new.self nothing c.self.inside.records c.put.new.self c.args.known c.args.acc steps (λ m. tt) c.requires.accusation
          (subst (λ (v : Kept). is_some (get v.membership.notes c.args.acc.accused) ≡ true) (sym c.self.view_is) c.requires.noted) c.put.ensures i.notes;
      newest_own = newest-same c.self.inside.group (Accuses c.args.acc) c.self.inside.membership c.put_accusation-fault.new.self nothing c.self.inside.records c.self.inside.me steps i.notes tt ∙ i.newest_own;
    }
