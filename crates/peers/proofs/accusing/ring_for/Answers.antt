use Rattle.std.proofs.Common.{◌≡◌, ℕ, ◌<◌, Bool, true, false, List, refl, ap, sym, ◌∙◌, arith}
use Rattle.std.specs.Prelude.{◌&&◌}
use Rattle.std.specs.List.{list_any, range_with_len, slice_get}
use Rattle.ff_ids.specs.declared.Group.{Group}
use Rattle.ff_ids.specs.Masks.{ring_count, enables}
use Rattle.ff_ids.specs.Views.{monitor, is_number}
use Rattle.peers.proofs.FirstLemmas.{none-next, first-is, none-first, filter-both}
use Rattle.peers.proofs.accusing.ring_for.Goals as goal

pub loop-ring-init : goal.loop-ring-init
loop-ring-init c = λ st h. refl

pub returns-then-monitors_on-clause-ring : goal.returns-then-monitors_on-clause-ring
returns-then-monitors_on-clause-ring c = λ st h.
    let p : ℕ → Bool = λ ring. is_number (monitor st ring c.args.member) c.args.me in
    let q : ℕ → Bool = λ ring. enables c.args.note.now.mask.0 ring in
    let same : c.group.result.now.t ≡ c.args.membership.now.group.t = ap (λ (g : Group). g.t) c.group.ensures in
    let lt : c.loop-ring.ring < ring_count c.args.membership.now.group.t = omega (arith, c.loop-ring-test.true, c.loop-ring.auto.ring-end, same) in
    let is : (q c.loop-ring.ring && p c.loop-ring.ring) ≡ true = sym (c.monitors_on.ensures st h) ∙ c.if-monitors_on.true in
    sym (ap (λ (xs : List ℕ). slice_get xs 0) (filter-both p q (range_with_len 0 (ring_count c.args.membership.now.group.t)))
    ∙ first-is (λ ring. q ring && p ring) c.loop-ring.ring (ring_count c.args.membership.now.group.t) (c.loop-ring.invariant st h) is lt)

pub loop-ring-preserved : goal.loop-ring-preserved
loop-ring-preserved c = λ st h.
    none-next (λ ring. enables c.args.note.now.mask.0 ring && is_number (monitor st ring c.args.member) c.args.me) c.loop-ring.ring (c.loop-ring.invariant st h) (sym (c.monitors_on.ensures st h) ∙ c.if-monitors_on.false)

pub returns-clause-ring : goal.returns-clause-ring
returns-clause-ring c = λ st h.
    let p : ℕ → Bool = λ ring. is_number (monitor st ring c.args.member) c.args.me in
    let q : ℕ → Bool = λ ring. enables c.args.note.now.mask.0 ring in
    let same : c.group.result.now.t ≡ c.args.membership.now.group.t = ap (λ (g : Group). g.t) c.group.ensures in
    let all : c.loop-ring.ring ≡ ring_count c.args.membership.now.group.t = omega (arith, c.loop-ring-test.false, c.loop-ring.auto.ring-end, same) in
    let none : list_any (λ ring. q ring && p ring) (range_with_len 0 (ring_count c.args.membership.now.group.t)) ≡ false = ap (λ (n : ℕ). list_any (λ ring. q ring && p ring) (range_with_len 0 n)) (sym all) ∙ c.loop-ring.invariant st h in
    sym (ap (λ (xs : List ℕ). slice_get xs 0) (filter-both p q (range_with_len 0 (ring_count c.args.membership.now.group.t))) ∙ none-first (λ ring. q ring && p ring) _ none)
