use Rattle.std.proofs.Common.{◌≡◌, ◌∙◌, sym, ap, refl, cond}
use Rattle.std.specs.Option.{option_copied}
use Rattle.monitor_rule.specs.Joined.{without_member}
use Rattle.membership.proofs.SoundLemmas.{own_places}
use Rattle.membership.proofs.ExpireLemmas.{IsSound-expired, joined_before}
use Rattle.membership.proofs.Membership.expire.Goals as goal

pub leave-requires-clause-joined : goal.leave-requires-clause-joined
leave-requires-clause-joined c =
    joined_before _ _ _ _ _ c.args.acc.now c.self.invariant.sound (sym c.takes_out-leaves.ensures ∙ c.if-leaves.true)

pub leave-requires-clause-placed : goal.leave-requires-clause-placed
leave-requires-clause-placed c =
    let placed = sym c.get.ensures ∙ ap option_copied c.unwrap-places.ensures in
    own_places c.self.inside.group c.self.inside.places c.self.inside.notes c.self.inside.expired c.self.inside.rings c.args.acc.now.accused c.unwrap-places.result.now c.self.invariant.sound placed

pub invariant_of-self : goal.invariant_of-self
invariant_of-self c =
    let view : c.leave.new.self ≡ cond c.takes_out-leaves.result (record c.self.inside.rings { members = without_member c.args.acc.now.accused c.self.inside.rings.members }) c.self.inside.rings = rw c.if-leaves.true c.leave.ensures in
    record { sound = rw c.raise.ensures (IsSound-expired _ _ _ _ _ _ c.args.acc.now c.takes_out-leaves.result c.self.invariant.sound c.takes_out-leaves.ensures view); timed = c.self.invariant.timed }

pub invariant_of-self-else-leaves : goal.invariant_of-self-else-leaves
invariant_of-self-else-leaves c =
    let view : c.self.inside.rings ≡ cond c.takes_out-leaves.result (record c.self.inside.rings { members = without_member c.args.acc.now.accused c.self.inside.rings.members }) c.self.inside.rings = rw c.if-leaves.false refl in
    record { sound = rw c.raise.ensures (IsSound-expired _ _ _ _ _ _ c.args.acc.now c.takes_out-leaves.result c.self.invariant.sound c.takes_out-leaves.ensures view); timed = c.self.invariant.timed }
