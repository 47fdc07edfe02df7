use Rattle.std.proofs.Common.{subst, sym, ap, ◌∙◌}
use Rattle.std.proofs.Common.{◌≡◌, ℕ, List}
use Rattle.ff_ids.specs.declared.Group.{Group}
use Rattle.ring_order.specs.Hashed.{hashed_places}
use Rattle.ff_ids.specs.Steps.{Joins, nothing}
use Rattle.record_slots.specs.Held.{key_of}
use Rattle.audit_node.proofs.NotedLemmas.{notes-certificate}
use Rattle.node_rules.specs.Calls.{lives}
use Rattle.audit_set.specs.declared.known.Known.TheVariants as knowns
use Rattle.audit_node.specs.Playing.{IsAt}
use Rattle.audit_node.specs.Rolls.{with_roll}
use Rattle.audit_node.proofs.PlayLemmas.{certified-at, quiet-at, join-steps, places-of}
use Rattle.audit_node.proofs.roll.Roll.take.Goals as goal

pub returns-clause-plays : goal.returns-clause-plays
returns-clause-plays c = λ s es kept call at group fine free.
    let v = with_roll kept c.args.self.now in
    let hashed : (x : Group) → List (List ℕ) = λ x. hashed_places x.tag x.t c.args.cert.member in
    let same : kept.group ≡ c.group.result.now = group ∙ sym c.group.ensures in
    let places1 : s.places c.args.cert.member ≡ c.hash_places-places.result = places-of s v call c.args.cert.member at.is ∙ ap hashed same ∙ sym c.hash_places-places.ensures.places in
    let steps = join-steps v.group c.args.self.now.membership c.add_member-fault.new.self c.args.cert.member c.hash_places-places.result c.add_member-fault.result c.add_member-fault.ensures.fault c.add_member-fault.ensures.step c.add_member-fault.ensures.same in
    let now = quiet-at s es v call (Joins c.args.cert.member c.hash_places-places.result) c.add_member-fault.new.self (λ f. at) steps fine in
    certified-at s es (record v { membership = c.add_member-fault.new.self }) call c.args.rec c.args.cert c.put-2.new.self c.put.new.self c.requires.certificate (record { body = c.rec-checked.ensures.checked.body; signature = c.rec-checked.ensures.checked.writable.signature }) c.put-2.ensures c.put.ensures
    (subst (λ x. IsAt s es (record v { membership = c.add_member-fault.new.self }) (lives s (Joins c.args.cert.member x) call)) (sym places1) now)

pub returns-clause-notes : goal.returns-clause-notes
returns-clause-notes c =
    let old = c.args.self.now in
    let steps = join-steps old.membership.group old.membership c.add_member-fault.new.self c.args.cert.member c.hash_places-places.result c.add_member-fault.result c.add_member-fault.ensures.fault c.add_member-fault.ensures.step c.add_member-fault.ensures.same in
    notes-certificate old.membership.group (Joins c.args.cert.member c.hash_places-places.result) old.membership c.add_member-fault.new.self nothing old.records c.put-2.new.self (knowns.Came c.args.rec) c.args.cert.member steps (λ m. tt) (ap key_of c.requires.certificate) c.put-2.ensures c.requires.notes
