use Rattle.std.proofs.Common.{◌≡◌, length, ap, ◌∙◌, sym, arith, zero-add}
use Rattle.std.proofs.lemmas.List.FromFn.{length-map-range_with_len, map-range_with_len_more}
use Rattle.ring_order.specs.Hashed.{hashed_place}
use Rattle.ring_order.proofs.hashed.hash_places.Goals as goal

pub push-requires : goal.push-requires
push-requires c =
    let long : length c.loop-ring.all ≡ c.loop-ring.ring = ap length c.loop-ring.invariant ∙ length-map-range_with_len (λ ring. hashed_place c.args.group.now.tag ring c.args.member) 0 c.loop-ring.ring in
    omega (arith, long, c.loop-ring-test.true, c.requires)

pub loop-ring-preserved : goal.loop-ring-preserved
loop-ring-preserved c =
    let grown = map-range_with_len_more (λ ring. hashed_place c.args.group.now.tag ring c.args.member) 0 c.loop-ring.ring c.loop-ring.ring (zero-add c.loop-ring.ring) in
    rw (c.push.ensures, c.loop-ring.invariant, c.hash_place.ensures) (sym grown)

pub returns-clause-rings : goal.returns-clause-rings
returns-clause-rings c =
    let done : length c.loop-ring.all ≡ c.loop-ring.ring = ap length c.loop-ring.invariant ∙ length-map-range_with_len (λ ring. hashed_place c.args.group.now.tag ring c.args.member) 0 c.loop-ring.ring in
    omega (arith, done, c.loop-ring-test.false, c.loop-ring.auto.ring-end)
