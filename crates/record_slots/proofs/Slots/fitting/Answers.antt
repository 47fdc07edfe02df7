use Rattle.std.proofs.Common.{◌≡◌, ℕ, ◌+◌, ◌-◌, ◌<◌, Some, length, ap, sym, subst, ◌∙◌, arith}
use Rattle.std.specs.Option.{option_copied}
use Rattle.record_slots.specs.Held.{held_under}
use Rattle.record_slots.specs.Picks.{held_all, IsLongestFit}
use Rattle.record_slots.proofs.PickLemmas.{stopped, ended, so_far_more, fitting-longest}
use Rattle.record_slots.proofs.Slots.fitting.Goals as goal

pub returns-then-length-left-clause-count : goal.returns-then-length-left-clause-count
returns-then-length-left-clause-count g c =
    let long = g.R.Slotted.spelled_length in
    let x = c.unwrap.result.now in
    let has : held_under c.args.self.now c.index-keys-count.result ≡ Some x = sym c.get.ensures.value ∙ ap (λ o. option_copied o) c.unwrap.ensures in
    let longer : c.loop-count.left < long x = omega (arith, c.if-length-left.true, c.spelled_length-length.ensures) in
    stopped long c.args.self.now c.args.keys.now c.loop-count.count c.args.room c.loop-count.left c.index-keys-count.result x c.loop-count-test.true c.index-keys-count.is has c.loop-count.invariant longer

pub returns-then-length-left-clause-longest : goal.returns-then-length-left-clause-longest
returns-then-length-left-clause-longest g c =
    let long = g.R.Slotted.spelled_length in
    let x = c.unwrap.result.now in
    let has : held_under c.args.self.now c.index-keys-count.result ≡ Some x = sym c.get.ensures.value ∙ ap (λ o. option_copied o) c.unwrap.ensures in
    let longer : c.loop-count.left < long x = omega (arith, c.if-length-left.true, c.spelled_length-length.ensures) in
    let all = held_all c.args.self.now c.args.keys.now in
    let P : ℕ → Type 0 = λ n. IsLongestFit long c.args.room all n in
    subst P (sym (stopped long c.args.self.now c.args.keys.now c.loop-count.count c.args.room c.loop-count.left c.index-keys-count.result x c.loop-count-test.true c.index-keys-count.is has c.loop-count.invariant longer)) (fitting-longest long c.args.room all)

pub loop-count-preserved : goal.loop-count-preserved
loop-count-preserved g c =
    let long = g.R.Slotted.spelled_length in
    let x = c.unwrap.result.now in
    let has : held_under c.args.self.now c.index-keys-count.result ≡ Some x = sym c.get.ensures.value ∙ ap (λ o. option_copied o) c.unwrap.ensures in
    let fits : c.loop-count.left - c.spelled_length-length.result + long x ≡ c.loop-count.left = omega (arith, c.spelled_length-length.ensures, c.if-length-left.false) in
    so_far_more long c.args.self.now c.args.keys.now c.loop-count.count c.args.room c.loop-count.left (c.loop-count.left - c.spelled_length-length.result) c.index-keys-count.result x c.loop-count-test.true c.index-keys-count.is has c.loop-count.invariant fits

pub returns-clause-count : goal.returns-clause-count
returns-clause-count g c =
    let end : length c.args.keys.now ≡ c.loop-count.count = omega arith in
    end ∙ ended g.R.Slotted.spelled_length c.args.self.now c.args.keys.now c.loop-count.count c.args.room c.loop-count.left c.loop-count-test.false c.loop-count.invariant

pub returns-clause-longest : goal.returns-clause-longest
returns-clause-longest g c =
    let long = g.R.Slotted.spelled_length in
    let all = held_all c.args.self.now c.args.keys.now in
    let end : length c.args.keys.now ≡ c.loop-count.count = omega arith in
    let P : ℕ → Type 0 = λ n. IsLongestFit long c.args.room all n in
    subst P (sym (end ∙ ended long c.args.self.now c.args.keys.now c.loop-count.count c.args.room c.loop-count.left c.loop-count-test.false c.loop-count.invariant)) (fitting-longest long c.args.room all)
