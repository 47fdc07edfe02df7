use Rattle.std.proofs.Common.{◌-◌, length, refl, rules}
use Rattle.std.proofs.lemmas.List.Sorted.{IsNonDecreasingBy-from_sort_by_key}
use Rattle.removal_timer.specs.Kept.{pair_number}
use Rattle.removal_timer.proofs.SortLemmas.{sorted_tail}
use Rattle.removal_timer.proofs.sort_behind.Goals as goal

pub returns-clause-sorted : goal.returns-clause-sorted
returns-clause-sorted c = λ before gained rising e long up moved.
    let sorted_up = IsNonDecreasingBy-from_sort_by_key (λ a. pair_number a.accused a.ring.0) c.sort_unstable_by_key.new.self c.sort_unstable_by_key.ensures.sorted (λ a r f k. search rules) in
    sorted_tail c.args.out.now.len c.args.from (length c.deref_mut.result.now - c.args.from) c.args.out.now.items c.deref_mut.result.now c.sort_unstable_by_key.new.self before gained rising c.deref_mut.ensures.value c.args.out.now.ok.0 e long refl up moved c.sort_unstable_by_key.ensures.permutation sorted_up
