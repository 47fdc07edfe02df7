use Rattle.std.proofs.Common.{◌≡◌, None, inl, inr, sym, ap, ◌∙◌, arith}
use Rattle.std.proofs.lemmas.Bool.{cases_lt}
use Rattle.ff_ids.specs.declared.TheConstants.{MAX_RINGS}
use Rattle.ff_ids.specs.Masks.{enables}
use Rattle.removal_timer.specs.Kept.{Kept, entry_at, entries_in}
use Rattle.removal_timer.proofs.MarkLemmas.{mark-tells}
use Rattle.removal_timer.proofs.HeldLemmas.{not_some}
use Rattle.removal_timer.proofs.SlotLemmas.{nothing_at}
use Rattle.removal_timer.proofs.Timers.rings_against.Goals as goal

pub returns : goal.returns
returns c = λ ring past.
    let m = c.args.member in
    let slots = c.self.inside.slots.items in
    let none : entry_at m ring (entries_in slots) ≡ None = elim (cases_lt ring MAX_RINGS) [
      | inl on ↦
          let told = ap (λ n. enables n ring) (c.self.invariant.tallied.marks m c.rings.ensures.range) ∙ mark-tells m ring slots on in
          not_some (entry_at m ring (entries_in slots)) (sym told ∙ c.rings.ensures.none ring past)
      | inr above ↦ (nothing_at c.self.inside.rings m ring slots c.self.invariant.queued.own (omega (arith, above, c.self.invariant.few))).0
    ] in
    sym (ap (λ (k : Kept). entry_at m ring k.entries) c.self.view_is) ∙ none
