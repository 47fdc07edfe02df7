use Rattle.std.proofs.Common.{◌<◌, ◌≤◌, List, None, not, length, filter, set, sym, ap, ◌∙◌, arith}
use Rattle.removal_timer.specs.Kept.{Kept, is_at, entries_in}
use Rattle.removal_timer.proofs.QueueLemmas.{written}
use Rattle.removal_timer.proofs.SlotLemmas.{Entry, Slots, entries_in-emptied, nothing_at}
use Rattle.removal_timer.proofs.Timers.clear.Goals as goal

pub returns-then-ring-self : goal.returns-then-ring-self
returns-then-ring-self c =
    let s = c.self.inside in
    let slots = s.slots.items in
    let ring : c.args.ring.0 < c.self.inside.rings = c.if-ring-self.true in
    let all = written s.slots.len slots c.take_out.new.slots (c.take_out.auto.slots ∙ ap length c.deref_mut.ensures.value) s.slots.ok.0 in
    let entries = ap entries_in all ∙ ap entries_in c.take_out.ensures.emptied ∙ ap (λ (xs : Slots). entries_in (set xs c.slot_of.result None)) c.deref_mut.ensures.value
    ∙ ap (λ n. entries_in (set slots n None)) c.slot_of.ensures.value ∙ entries_in-emptied c.self.inside.rings c.args.accused c.args.ring.0 slots c.self.invariant.queued.own ring in
    ap (λ (es : List Entry). record { rings = s.rings; timeout = s.timeout; entries = es }) entries
    ∙ ap (λ (k : Kept). record k { entries = filter (λ p. not (is_at c.args.accused c.args.ring.0 p)) k.entries }) c.self.view_is

pub returns-else-ring-self : goal.returns-else-ring-self
returns-else-ring-self c =
    let s = c.self.inside in
    let past : c.self.inside.rings ≤ c.args.ring.0 = omega (arith, c.if-ring-self.false) in
    let none = nothing_at c.self.inside.rings c.args.accused c.args.ring.0 s.slots.items c.self.invariant.queued.own past in
    sym c.self.view_is ∙ ap (λ (es : List Entry). record { rings = s.rings; timeout = s.timeout; entries = es }) (sym none.1)
    ∙ ap (λ (k : Kept). record k { entries = filter (λ p. not (is_at c.args.accused c.args.ring.0 p)) k.entries }) c.self.view_is
