use Rattle.std.proofs.Common.{◌≡◌, ◌<◌, ◌∙◌, ap, length, arith}
use Rattle.membership.specs.Slots.{map_of}
use Rattle.membership.proofs.SlotLemmas.{map_of-push, map_of-set}
use Rattle.membership.proofs.by_member.fill.Goals as goal

pub returns-then-index-len-clause-value : goal.returns-then-index-len-clause-value
returns-then-index-len-clause-value g c =
    let below : c.args.index < length c.args.slots.now.items = omega (arith, c.if-index-len.true, c.len.ensures) in
    map_of-set c.args.slots.now.items c.args.index c.args.value below

pub returns-else-index-len-clause-value : goal.returns-else-index-len-clause-value
returns-else-index-len-clause-value g c =
    let long : length c.args.slots.now.items ≡ c.args.index = omega (arith, c.if-index-len.false, c.len.ensures, c.requires.reached) in
    ap map_of c.push_reserved.ensures.items ∙ map_of-push c.args.slots.now.items c.args.index c.args.value long
