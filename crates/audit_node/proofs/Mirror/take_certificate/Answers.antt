use Rattle.std.proofs.Common.{refl, subst, sym, ◌∙◌}
use Rattle.audit_set.specs.declared.known.Known.TheVariants as knowns
use Rattle.node_rules.specs.Calls.{lives}
use Rattle.audit_node.specs.Playing.{Grows, Kept, Plays, IsAt}
use Rattle.audit_node.specs.contracts.Mirror.{the_view}
use Rattle.audit_node.proofs.PlayLemmas.{certified-at, quiet-at, join-steps, places-of, still-joined}
use Rattle.std.proofs.Common.{ap}
use Rattle.ff_ids.specs.Steps.{Joins, nothing}
use Rattle.record_slots.specs.Held.{key_of}
use Rattle.audit_node.proofs.NotedLemmas.{newest-same, notes-certificate}
use Rattle.audit_node.proofs.TellingLemmas.{front-refl}
use Rattle.audit_node.proofs.Mirror.take_certificate.Goals as goal

pub invariant_of-self : goal.invariant_of-self
invariant_of-self c =
    let i = c.self.invariant in
    let steps = join-steps c.self.inside.group c.self.inside.membership c.add_member-fault.new.self c.args.cert.member c.hash_places-places.result c.add_member-fault.result
    c.add_member-fault.ensures.fault c.add_member-fault.ensures.step c.add_member-fault.ensures.same in
    record {
      some = i.some;
      few = i.few;
      period = i.period;
      timeout = i.timeout;
      membership_group = c.add_member-fault.ensures.group ∙ i.membership_group;
      detector_group = i.detector_group;
      within = i.within;
      risen = i.risen;
      joined = still-joined c.self.inside.membership c.add_member-fault.new.self c.self.inside.me c.args.cert.member c.hash_places-places.result c.add_member-fault.result i.joined c.add_member-fault.ensures.members c.add_member-fault.ensures.same;
      allowed = i.allowed;
      notes = notes-certificate c.self.inside.group (Joins c.args.cert.member c.hash_places-places.result) c.self.inside.membership c.add_member-fault.new.self nothing c.self.inside.records c.put-2.new.self (knowns.Came c.args.rec) c.args.cert.member steps (λ m. tt) (ap key_of c.requires.certificate) c.put-2.ensures i.notes;
      newest_own = newest-same c.self.inside.group (Joins c.args.cert.member c.hash_places-places.result) c.self.inside.membership c.add_member-fault.new.self nothing c.self.inside.records c.self.inside.me steps i.notes tt ∙ i.newest_own;
    }

pub returns-clause-plays : goal.returns-clause-plays
returns-clause-plays c = λ s es call p free.
    let v : Kept = the_view c.self.inside in
    let p1 = subst (λ v. Plays s es v call) (sym c.self.view_is) p in
    record {
      at = λ fine.
          let n = (p1.at fine).is in
          let places = sym (places-of s v call c.args.cert.member n ∙ sym c.hash_places-places.ensures.places) in
          let steps = join-steps c.self.inside.group c.self.inside.membership c.add_member-fault.new.self c.args.cert.member c.hash_places-places.result c.add_member-fault.result
          c.add_member-fault.ensures.fault c.add_member-fault.ensures.step c.add_member-fault.ensures.same in
          let at = quiet-at s es v call (Joins c.args.cert.member c.hash_places-places.result) c.add_member-fault.new.self p1.at steps fine in
          certified-at s es (record v { membership = c.add_member-fault.new.self }) call c.args.rec c.args.cert c.put-2.new.self c.put.new.self c.requires.certificate (record { body = c.rec-checked.ensures.checked.body; signature = c.rec-checked.ensures.checked.writable.signature }) c.put-2.ensures c.put.ensures
          (subst (λ x. IsAt s es (record v { membership = c.add_member-fault.new.self }) (lives s (Joins c.args.cert.member x) call)) places at);
    }

pub returns-clause-grows : goal.returns-clause-grows
returns-clause-grows c =
    let v : Kept = the_view c.self.inside in
    subst (λ (w : Kept). Grows w (record v { membership = c.add_member-fault.new.self; roster = c.put.new.self; records = c.put-2.new.self })) c.self.view_is
    (record { going = λ fine. fine; events = front-refl v.telling.events; group = refl; heal = refl; me = refl })
