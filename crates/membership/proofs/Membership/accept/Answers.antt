use Rattle.std.proofs.Common.{◌≡◌, ◌∙◌, ap, refl, sym, Some, List, [], ℕ, Option, unwrap_or}
use Rattle.std.specs.Option.{option_copied}
use Rattle.std.specs.FinMap.{get}
use Rattle.monitor_rule.specs.Joined.{with_member}
use Rattle.membership.specs.Kept.{member_at}
use Rattle.membership.specs.Life.{Life, note_fault_in}
use Rattle.membership.specs.contracts.Membership.{the_view}
use Rattle.membership.proofs.SoundLemmas.{absent_before, present_before, members_then, IsSound-noted, own_places}
use Rattle.membership.proofs.Membership.accept.Goals as goal

pub join-requires-clause-absent : goal.join-requires-clause-absent
join-requires-clause-absent c =
    let fault = ap (λ (l : Life). note_fault_in l c.args.note.now) c.self.view_is ∙ c.requires in
    absent_before (the_view c.self.inside) c.self.inside.rings c.args.note.now c.self.invariant.sound fault (sym c.effect_of-effect.ensures ∙ c.in-Enters.is)

pub leave-requires-clause-joined : goal.leave-requires-clause-joined
leave-requires-clause-joined c =
    let fault = ap (λ (l : Life). note_fault_in l c.args.note.now) c.self.view_is ∙ c.requires in
    present_before (the_view c.self.inside) c.self.inside.rings c.args.note.now c.self.invariant.sound fault (sym c.effect_of-effect.ensures ∙ c.in-Leaves.is)

pub leave-requires-clause-placed : goal.leave-requires-clause-placed
leave-requires-clause-placed c =
    let placed = sym c.get-in-Leaves.ensures ∙ ap option_copied c.unwrap-places-in-Leaves.ensures in
    own_places c.self.inside.group c.self.inside.places c.self.inside.notes c.self.inside.expired c.self.inside.rings c.args.note.now.member c.unwrap-places-in-Leaves.result.now c.self.invariant.sound placed

pub invariant_of-self : goal.invariant_of-self
invariant_of-self c =
    let fault = ap (λ (l : Life). note_fault_in l c.args.note.now) c.self.view_is ∙ c.requires in
    let x = member_at c.self.inside.places c.args.note.now.member in
    let placed : Some c.unwrap-places.result.now ≡ get c.self.inside.places c.args.note.now.member = sym (ap option_copied c.unwrap-places.ensures) ∙ c.get.ensures in
    let view : c.join.new.self ≡ record c.self.inside.rings { members = members_then c.effect_of-effect.result x c.self.inside.rings.members } = rw c.in-Enters.is (c.join.ensures ∙ ap (λ (p : Option (List (List ℕ))). record c.self.inside.rings { members = with_member (record { number = c.args.note.now.member; places = unwrap_or p [] }) c.self.inside.rings.members }) placed) in
    record { sound = rw c.set.ensures.value (IsSound-noted (the_view c.self.inside) c.self.inside.rings c.join.new.self c.args.note.now c.effect_of-effect.result c.self.invariant.sound fault c.effect_of-effect.ensures view); timed = c.self.invariant.timed }

pub invariant_of-self-in-Leaves : goal.invariant_of-self-in-Leaves
invariant_of-self-in-Leaves c =
    let fault = ap (λ (l : Life). note_fault_in l c.args.note.now) c.self.view_is ∙ c.requires in
    let x = member_at c.self.inside.places c.args.note.now.member in
    let view : c.leave.new.self ≡ record c.self.inside.rings { members = members_then c.effect_of-effect.result x c.self.inside.rings.members } = rw c.in-Leaves.is c.leave.ensures in
    record { sound = rw c.set.ensures.value (IsSound-noted (the_view c.self.inside) c.self.inside.rings c.leave.new.self c.args.note.now c.effect_of-effect.result c.self.invariant.sound fault c.effect_of-effect.ensures view); timed = c.self.invariant.timed }

pub invariant_of-self-in-Stays : goal.invariant_of-self-in-Stays
invariant_of-self-in-Stays c =
    let fault = ap (λ (l : Life). note_fault_in l c.args.note.now) c.self.view_is ∙ c.requires in
    let x = member_at c.self.inside.places c.args.note.now.member in
    let view : c.self.inside.rings ≡ record c.self.inside.rings { members = members_then c.effect_of-effect.result x c.self.inside.rings.members } = rw c.in-Stays.is refl in
    record { sound = rw c.set.ensures.value (IsSound-noted (the_view c.self.inside) c.self.inside.rings c.self.inside.rings c.args.note.now c.effect_of-effect.result c.self.invariant.sound fault c.effect_of-effect.ensures view); timed = c.self.invariant.timed }
