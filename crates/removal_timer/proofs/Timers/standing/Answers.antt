use Rattle.std.proofs.Common.{◌≡◌, ◌<◌, ◌≤◌, false, None, get_or, sym, ap, ◌∙◌, arith}
use Rattle.ff_ids.specs.Masks.{enables}
use Rattle.removal_timer.specs.Kept.{Kept, entry_at, entries_in}
use Rattle.removal_timer.proofs.MarkLemmas.{mark-tells}
use Rattle.removal_timer.proofs.HeldLemmas.{not_some}
use Rattle.removal_timer.proofs.SlotLemmas.{Slots, entry_at-slot, nothing_at}
use Rattle.removal_timer.proofs.Timers.standing.Goals as goal
use Rattle.removal_timer.proofs.Timers.standing.Goals.{else-ring-self-via-then-ring-self+else-is_set, else-ring-self-via-else-ring-self}

pub returns-then-is_set : goal.returns-then-is_set
returns-then-is_set c =
    let slots = c.self.inside.slots.items in
    let ring : c.args.ring.0 < c.self.inside.rings = c.if-ring-self.true in
    c.kept_in.ensures.value ∙ ap (λ (xs : Slots). get_or xs c.slot_of.result None) c.deref.ensures.value
    ∙ ap (λ n. get_or slots n None) c.slot_of.ensures.value ∙ sym (entry_at-slot c.self.inside.rings c.args.accused c.args.ring.0 slots c.self.invariant.queued.own ring)
    ∙ ap (λ (k : Kept). entry_at c.args.accused c.args.ring.0 k.entries) c.self.view_is

pub returns-else-ring-self : goal.returns-else-ring-self
returns-else-ring-self c =
    let slots = c.self.inside.slots.items in
    let none : entry_at c.args.accused c.args.ring.0 (entries_in slots) ≡ None =
    elim c.else-ring-self.branch [
      | else-ring-self-via-then-ring-self+else-is_set w ↦
          let off : w.is_set.result ≡ false = grind (arith, w.if-is_set.false) in
          let told = ap (λ n. enables n c.args.ring.0) (c.self.invariant.tallied.marks c.args.accused w.is_set.ensures.range) ∙ mark-tells c.args.accused c.args.ring.0 slots (omega (arith, w.if-ring-self.true, c.self.invariant.few)) in
          not_some (entry_at c.args.accused c.args.ring.0 (entries_in slots)) (sym told ∙ sym w.is_set.ensures.value ∙ off)
      | else-ring-self-via-else-ring-self w ↦
          let past : c.self.inside.rings ≤ c.args.ring.0 = omega (arith, w.if-ring-self.false) in
          (nothing_at c.self.inside.rings c.args.accused c.args.ring.0 slots c.self.invariant.queued.own past).0
    ] in
    sym none ∙ ap (λ (k : Kept). entry_at c.args.accused c.args.ring.0 k.entries) c.self.view_is
