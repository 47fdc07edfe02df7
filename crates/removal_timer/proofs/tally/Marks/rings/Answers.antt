use Rattle.std.proofs.Common.{◌≡◌, ℕ, List, ◌<◌, ap, ◌∙◌, get_or, length, sym, arith}
use Rattle.std.proofs.lemmas.Nat.{leading_length}
use Rattle.std.proofs.lemmas.List.{get_or_default}
use Rattle.ff_ids.specs.Masks.{enables}
use Rattle.removal_timer.proofs.MarkLemmas.{enables-past}
use Rattle.removal_timer.proofs.tally.Marks.rings.Goals as goal

pub returns-clause-none : goal.returns-clause-none
returns-clause-none c = λ ring past.
    let mask = c.index.result.now in
    let long = leading_length 64 mask (omega arith) in
    let within : c.args.member < length c.self.inside.masks.items = omega (arith, c.self.invariant, c.get.ensures.value, c.get.ensures.range) in
    let read : get_or c.args.self.now c.args.member 0 ≡ mask =
    sym (ap (λ (xs : List ℕ). get_or xs c.args.member 0) c.self.view_is) ∙ get_or_default c.self.inside.masks.items c.args.member 0 mask within ∙ ap (λ (k : ℕ). get_or c.self.inside.masks.items k mask) (sym c.get.ensures.value) ∙ sym c.index.ensures in
    ap (λ (k : ℕ). enables k ring) read ∙ enables-past mask long.0 ring long.2 (omega (arith, long.1, past))
