use Rattle.std.proofs.Common.{◌≡◌, ℕ, Bool, ◌+◌, true, false, None, is_some, get_or, ap, sym, ◌∙◌, add-zero}
use Rattle.ff_ids.proofs.BitLemmas.{bits-none, bit_value, bit_fits, bit_pushed}
use Rattle.record_slots.proofs.layout.rings_in.Goals as goal
use Rattle.record_slots.proofs.layout.rings_in.Goals.{then-is_some, else-is_some}

pub loop-ring-init : goal.loop-ring-init
loop-ring-init g c = sym (bits-none (λ r. is_some (get_or c.args.slots.now (c.args.first + r) None)))

pub overflow_add-rings : goal.overflow_add-rings
overflow_add-rings g c = bit_fits (λ r. is_some (get_or c.args.slots.now (c.args.first + r) None)) c.loop-ring.ring c.loop-ring.rings c.loop-ring.invariant c.loop-ring-test.true

pub loop-ring-preserved : goal.loop-ring-preserved
loop-ring-preserved g c =
    let slots = c.args.slots.now in
    let test : ℕ → Bool = λ r. is_some (get_or slots (c.args.first + r) None) in
    let told : test c.loop-ring.ring ≡ c.is_some.result = sym c.kept_in.ensures.variant ∙ sym c.is_some.ensures in
    let push = bit_pushed test c.loop-ring.ring c.loop-ring.rings c.if-is_some.rings in
    elim c.if-is_some.branch [
      | then-is_some w ↦ push true (told ∙ w.if-is_some.true) c.loop-ring.invariant (w.rings-is ∙ ap (λ (b : ℕ). c.loop-ring.rings + b) (bit_value c.loop-ring.ring c.loop-ring-test.true))
      | else-is_some w ↦ push false (told ∙ w.if-is_some.false) c.loop-ring.invariant (w.rings-is ∙ sym (add-zero c.loop-ring.rings))
    ]
