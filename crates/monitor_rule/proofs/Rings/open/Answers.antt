use Rattle.std.proofs.Common.{◌≡◌, ℕ, length, ap, ◌∙◌, sym, arith}
use Rattle.std.specs.List.{range_with_len}
use Rattle.ff_ids.specs.Masks.{ring_count}
use Rattle.monitor_rule.specs.Sorted.{members_from}
use Rattle.monitor_rule.proofs.KeptLemmas.{IsKept-nobody, numbers-none, rings_pushed, empty_pushed}
use Rattle.monitor_rule.proofs.SlotLemmas.{members_from-none}
use Rattle.monitor_rule.proofs.Rings.open.Goals as goal

pub loop-ring-preserved : goal.loop-ring-preserved
loop-ring-preserved c =
    record {
      numbered = rings_pushed c.loop-ring.rows.items c.push.new.self.items c.loop-ring.ring c.in_ok-open.field-0 c.in_ok-push.ensures.items c.in_ok-open.ensures.ring c.loop-ring.invariant.numbered;
      empty = empty_pushed c.loop-ring.rows.items c.push.new.self.items c.in_ok-open.field-0 c.in_ok-push.ensures.items c.in_ok-open.ensures.nobody c.loop-ring.invariant.empty;
      long = omega (arith, c.loop-ring.invariant.long, c.in_ok-push.ensures.len, c.push.new.self.ok.0, c.loop-ring.rows.ok.0);
    }

pub invariant_of-result : goal.invariant_of-result
invariant_of-result c =
    (IsKept-nobody c.in_ok-new.field-0 c.loop-ring.rows.items (omega (arith, c.loop-ring.invariant.long, c.requires)) c.in_ok-new.ensures.long c.in_ok-new.ensures.none (c.loop-ring.invariant.numbered ∙ ap (range_with_len 0) (sym c.loop-ring.invariant.long)) c.loop-ring.invariant.empty, numbers-none c.in_ok-new.field-0 c.in_ok-new-2.field-0 c.in_ok-new.ensures.none c.in_ok-new-2.ensures)

pub returns : goal.returns
returns c =
    let rings : length c.loop-ring.rows.items ≡ ring_count c.args.group.now.t = omega (arith, c.loop-ring.invariant.long) in
    ap (λ (n : ℕ). record { rings = n; members = members_from 0 c.in_ok-new.field-0 }) rings ∙ ap (λ ms. record { rings = ring_count c.args.group.now.t; members = ms }) (members_from-none 0 c.in_ok-new.field-0 c.in_ok-new.ensures.none)
