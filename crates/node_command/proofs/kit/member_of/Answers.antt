use Rattle.std.proofs.Common.{rules, ◌≡◌, ◌∙◌, length, [], ap, fold, sym, subst}
use Rattle.node_core.proofs.RollLemmas.{zero-empty}
use Rattle.node_command.specs.Members.{set_by, sets}
use Rattle.node_command.proofs.KitLemmas.{IsUp, sets-up, up-sound, up-whole}
use Rattle.node_command.proofs.kit.member_of.Goals as goal

pub unreachable-requires : goal.unreachable-requires
unreachable-requires c =
    let long : length c.loop-line.line-iterator.rest.items ≡ 0 = search rules in
    let none : c.loop-line.line-iterator.rest.items ≡ [] = zero-empty c.loop-line.line-iterator.rest.items long in
    let all : c.loop-line.gathered ≡ set_by c.args.lines.items = ap (fold sets c.loop-line.gathered) (sym none) ∙ c.loop-line.invariant.whole in
    c.in-None-whole.ensures.none (up-whole c.loop-line.gathered (subst IsUp (sym all) (sets-up c.args.lines.items c.requires.seen c.requires.are)))

pub returns-clause-sound : goal.returns-clause-sound
returns-clause-sound c =
    let long : length c.loop-line.line-iterator.rest.items ≡ 0 = search rules in
    let none : c.loop-line.line-iterator.rest.items ≡ [] = zero-empty c.loop-line.line-iterator.rest.items long in
    let all : c.loop-line.gathered ≡ set_by c.args.lines.items = ap (fold sets c.loop-line.gathered) (sym none) ∙ c.loop-line.invariant.whole in
    up-sound c.loop-line.gathered c.in-Some-whole.member (subst IsUp (sym all) (sets-up c.args.lines.items c.requires.seen c.requires.are)) c.in-Some-whole.ensures.value c.loop-line.invariant.checked
