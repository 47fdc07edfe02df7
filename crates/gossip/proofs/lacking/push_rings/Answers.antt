use Rattle.std.proofs.Common.{◌≡◌, ℕ, ◌++◌, true, false, filter, ap, sym, ◌∙◌, append-nil, arith}
use Rattle.std.specs.Option.{option_copied}
use Rattle.ff_ids.specs.declared.TheConstants.{MASK_BITS}
use Rattle.ff_ids.specs.Masks.{enabled}
use Rattle.gossip.specs.Differ.{keys_against, lacks_ring}
use Rattle.gossip.proofs.Fronts.{anyway, ring_pushed, rings_front}
use Rattle.gossip.proofs.lacking.push_rings.Goals as goal
use Rattle.gossip.proofs.lacking.push_rings.Goals.{then-is_wanted+in_ok-push, else-is_wanted}

pub loop-number-preserved : goal.loop-number-preserved
loop-number-preserved c =
    let here = c.args.here.now in
    let push = ring_pushed c.args.out.now.items c.loop-number.out.items c.if-is_wanted.out.items here.member here.rings c.loop-number.number (lacks_ring (option_copied c.args.there) here) in
    elim c.if-is_wanted.branch [
      | then-is_wanted+in_ok-push w ↦ push true w.if-is_wanted.ensures c.loop-number.invariant (cc (w.in_ok-push.ensures.items))
      | else-is_wanted w ↦
          let same : c.if-is_wanted.out.items ≡ c.loop-number.out.items = cc in
          push false w.if-is_wanted.ensures c.loop-number.invariant (same ∙ sym (append-nil c.loop-number.out.items))
    ]

pub returns-clause-ok : goal.returns-clause-ok
returns-clause-ok c =
    let here = c.args.here.now in
    let at : c.loop-number.number ≡ MASK_BITS = omega arith in
    c.loop-number.invariant ∙ ap (λ (n : ℕ). c.args.out.now.items ++ keys_against here.member (filter (lacks_ring (option_copied c.args.there) here) (enabled n here.rings))) at

pub returns-in_err-push-clause-front : goal.returns-in_err-push-clause-front
returns-in_err-push-clause-front c =
    let here = c.args.here.now in
    anyway _ (rings_front c.args.out.now.items c.push.new.self.items here.member here.rings c.loop-number.number MASK_BITS (lacks_ring (option_copied c.args.there) here) (omega arith) (c.in_err-push.ensures.items ∙ c.loop-number.invariant))
