use Rattle.std.proofs.Common.{◌∙◌, ap, sym, arith}
use Rattle.std.proofs.lemmas.Bool.{eqb-true, and_parts}
use Rattle.membership.specs.Life.{Life}
use Rattle.membership.proofs.EndLemmas.{found_there}
use Rattle.membership.proofs.Membership.answered_at.Goals as goal

pub leaves_unanswered-requires : goal.leaves_unanswered-requires
leaves_unanswered-requires c =
    let there = found_there c.args.note.now.member c.args.ring.0 c.self.inside.timers.entries (c.in-Some.acc, c.in-Some._since) (sym c.standing.ensures ∙ c.in-Some.is) in
    let ring = eqb-true c.in-Some.acc.ring.0 c.args.ring.0 (and_parts _ _ there).1 in
    let few = ap (λ (l : Life). l.group.t) c.self.view_is in
    omega (arith, ring, c.requires, few, c.self.invariant.sound.tolerance)
