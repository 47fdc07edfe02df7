use Rattle.std.proofs.Common.{◌≡◌, ℕ, ◌∷◌, ◌++◌, [], List, Option, map, ap, sym, ◌∙◌, arith}
use Rattle.std.specs.List.{range_with_len}
use Rattle.ff_ids.specs.declared.Group.{Group}
use Rattle.ff_ids.specs.Masks.{ring_count}
use Rattle.ff_ids.specs.Views.{successor}
use Rattle.peers.proofs.RangeLemmas.{map-more}
use Rattle.peers.proofs.neighbours.list_successors.Goals as goal

pub loop-ring-preserved : goal.loop-ring-preserved
loop-ring-preserved c = (
  λ st h. c.push-in-loop-ring.ensures.items ∙ ap (λ (xs : List (Option ℕ)). xs ++ c.successor.result ∷ []) (c.loop-ring.invariant.0 st h)
      ∙ ap (λ (o : Option ℕ). (c.args.also ∷ map (λ ring. successor st ring c.args.me) (range_with_len 0 c.loop-ring.ring)) ++ o ∷ []) (c.successor.ensures st h)
      ∙ ap (λ (xs : List (Option ℕ)). c.args.also ∷ xs) (sym (map-more (λ ring. successor st ring c.args.me) c.loop-ring.ring)),
  omega (arith, c.push-in-loop-ring.ensures.len, c.loop-ring.invariant.1),
)

pub returns : goal.returns
returns c = λ st h.
    let t : ℕ = c.args.membership.now.group.t in
    let same : c.group.result.now.t ≡ t = ap (λ (g : Group). g.t) c.group.ensures in
    let all : c.loop-ring.ring ≡ ring_count t = omega (arith, c.loop-ring-test.false, c.loop-ring.auto.ring-end, same) in
    c.loop-ring.invariant.0 st h ∙ ap (λ (n : ℕ). c.args.also ∷ map (λ ring. successor st ring c.args.me) (range_with_len 0 n)) all
