use Rattle.std.proofs.Common.{◌≡◌, ℕ, ◌<◌, true, false, refl, ap, sym, ◌∙◌, arith}
use Rattle.std.specs.List.{list_any, range_with_len}
use Rattle.ff_ids.specs.declared.Group.{Group}
use Rattle.ff_ids.specs.Masks.{ring_count}
use Rattle.membership.specs.Reports.{kept_against}
use Rattle.node_rules.specs.Ticking.{is_by}
use Rattle.peers.proofs.FirstLemmas.{none-next, some-is}
use Rattle.peers.proofs.accusing.has_accused.Goals as goal

pub loop-ring-init : goal.loop-ring-init
loop-ring-init c = λ st h. refl

pub returns-then-is_by : goal.returns-then-is_by
returns-then-is_by c = λ st h.
    let same : c.group.result.now.t ≡ c.args.membership.now.group.t = ap (λ (g : Group). g.t) c.group.ensures in
    let lt : c.loop-ring.ring < ring_count c.args.membership.now.group.t = omega (arith, c.loop-ring-test.true, c.loop-ring.auto.ring-end, same) in
    let is : is_by c.args.me (kept_against st.kept c.args.member c.loop-ring.ring) ≡ true = ap (is_by c.args.me) (sym (c.standing.ensures st h)) ∙ sym c.is_by.ensures ∙ c.if-is_by.true in
    sym (some-is (λ ring. is_by c.args.me (kept_against st.kept c.args.member ring)) c.loop-ring.ring (ring_count c.args.membership.now.group.t) is lt)

pub loop-ring-preserved : goal.loop-ring-preserved
loop-ring-preserved c = λ st h.
    let no : is_by c.args.me (kept_against st.kept c.args.member c.loop-ring.ring) ≡ false = ap (is_by c.args.me) (sym (c.standing.ensures st h)) ∙ sym c.is_by.ensures ∙ c.if-is_by.false in
    none-next (λ ring. is_by c.args.me (kept_against st.kept c.args.member ring)) c.loop-ring.ring (c.loop-ring.invariant st h) no

pub returns : goal.returns
returns c = λ st h.
    let same : c.group.result.now.t ≡ c.args.membership.now.group.t = ap (λ (g : Group). g.t) c.group.ensures in
    let all : c.loop-ring.ring ≡ ring_count c.args.membership.now.group.t = omega (arith, c.loop-ring-test.false, c.loop-ring.auto.ring-end, same) in
    sym (ap (λ (n : ℕ). list_any (λ ring. is_by c.args.me (kept_against st.kept c.args.member ring)) (range_with_len 0 n)) (sym all) ∙ c.loop-ring.invariant st h)
