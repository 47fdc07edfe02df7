use Rattle.std.proofs.Common.{◌≡◌, None, take, ap, ◌∙◌, rules, arith}
use Rattle.std.specs.List.{fold}
use Rattle.std.specs.Option.{option_map}
use Rattle.std.proofs.lemmas.Grind.{common_steps}
use Rattle.std.proofs.lemmas.List.Sums.{fold_push}
use Rattle.ff_ids.specs.Rings.{Key}
use Rattle.ring_order.specs.Nearest.{key_of_pair, keys_of, nearer, nearest_so_far}
use Rattle.ring_order.proofs.CountLemmas.{comparisons-push, keys_of-more, numbers_same}
use Rattle.ring_order.proofs.NearestLaws.{nearest-pass}
use Rattle.ring_order.proofs.Side.nearest.Goals as goal

pub loop-listed-preserved : goal.loop-listed-preserved
loop-listed-preserved g c =
    let ring = c.args.ring.0 in
    let m = key_of_pair ring c.args.member.now in
    let near = nearer c.args.self m in
    let item = c.listed-item.result in
    let before = keys_of ring (take c.loop-listed.listed-index c.args.live.now) in
    let more = keys_of-more ring c.args.live.now c.loop-listed.listed-index item c.loop-listed-test.true c.listed-item.is in
    let best = c.loop-listed.invariant.best in
    record {
      best = rw (more, fold_push (nearest_so_far near m.number) None before (key_of_pair ring item), ← best) c.best_with-best.ensures.value;
      placed = c.best_with-best.ensures.placed;
      steps = rw (more, comparisons-push near m.number before (key_of_pair ring item), ← best) (omega (arith, c.best_with-best.ensures.steps, c.loop-listed.invariant.steps));
    }

pub returns-clause-value : goal.returns-clause-value
returns-clause-value g c =
    let ring = c.args.ring.0 in
    let m = key_of_pair ring c.args.member.now in
    let keys = keys_of ring c.args.live.now in
    let kept : option_map (key_of_pair ring) c.loop-listed.best ≡ fold (nearest_so_far (nearer c.args.self m) m.number) None keys = grind (arith, common_steps) in
    let numbered : c.map.result ≡ option_map (λ p. p.1) c.loop-listed.best = search rules in
    numbered ∙ numbers_same ring c.loop-listed.best ∙ ap (option_map (λ (k : Key). k.number)) kept ∙ nearest-pass c.args.self keys m
