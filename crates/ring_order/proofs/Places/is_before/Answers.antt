use Rattle.std.proofs.Common.{◌≡◌, [], get_or, is_lt, nat_cmp, sym, ap, ◌∙◌}
use Rattle.std.specs.Cmp.Lexicographic.{slice_cmp}
use Rattle.std.specs.Ordering.{ordering_then}
use Rattle.ring_order.specs.Rows.{place_of_number}
use Rattle.ring_order.proofs.RowLemmas.{plain_row}
use Rattle.ring_order.proofs.TailLemmas.{place_cmp}
use Rattle.ring_order.proofs.Places.is_before.Goals as goal

pub returns-then-other : goal.returns-then-other
returns-then-other c =
    let r = c.args.ring.0 in
    let a = c.self.inside in
    let b = c.other.inside in
    let own = plain_row a.rows c.args.self.now a.count a.tails a.plain r c.self.invariant c.if-self.true c.self.view_is c.requires.own in
    let its = plain_row b.rows c.args.other.now b.count b.tails b.plain r c.other.invariant c.if-other.true c.other.view_is c.requires.other in
    let other = get_or c.args.other.now r [] in
    let places : slice_cmp nat_cmp (get_or c.args.self.now r []) other ≡ nat_cmp (get_or a.tails r 0) (get_or b.tails r 0) =
    ap (λ x. slice_cmp nat_cmp x other) own.place ∙ ap (slice_cmp nat_cmp (place_of_number (get_or a.tails r 0))) its.place ∙ place_cmp (get_or a.tails r 0) (get_or b.tails r 0) own.small its.small in
    c.is_lt.ensures ∙ ap is_lt c.then.ensures
    ∙ ap (λ o. is_lt (ordering_then o c.cmp-then-other.result)) (c.cmp.ensures ∙ sym places)
    ∙ ap (λ o. is_lt (ordering_then (slice_cmp nat_cmp (get_or c.args.self.now r []) other) o)) c.cmp-then-other.ensures
