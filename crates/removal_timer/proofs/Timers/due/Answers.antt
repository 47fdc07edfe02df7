use Rattle.std.proofs.Common.{◌≡◌, ◌++◌, length, filter, map, sym, ap, ◌∙◌, subst}
use Rattle.ff_ids.specs.Steps.{is_due}
use Rattle.removal_timer.specs.Kept.{Kept, entries_in, AreQueued}
use Rattle.removal_timer.proofs.SlotLemmas.{Slots, AreRising-due}
use Rattle.removal_timer.proofs.Timers.due.Goals as goal

pub returns-clause-taken : goal.returns-clause-taken
returns-clause-taken c =
    let s = c.self.inside in
    let shown = c.deref_mut.result.now in
    let queued : AreQueued s.rings shown s.queue = subst (λ (xs : Slots). AreQueued s.rings xs s.queue) (sym c.deref_mut.ensures.value) c.self.invariant.queued in
    let rising = AreRising-due s.rings shown (is_due s.timeout c.args.now) queued.own in
    let gained = c.take_due.ensures.taken in
    let long : length c.args.out.now.items ≡ c.len-from.result = sym (c.len-from.ensures ∙ c.args.out.now.ok.0) in
    c.sort_behind.ensures.sorted c.args.out.now.items gained.added (map (λ p. p.0) (filter (is_due s.timeout c.args.now) (entries_in shown))) gained.behind long rising gained.moved
    ∙ ap (λ (xs : Slots). c.args.out.now.items ++ map (λ p. p.0) (filter (is_due s.timeout c.args.now) (entries_in xs))) c.deref_mut.ensures.value
    ∙ ap (λ (k : Kept). c.args.out.now.items ++ map (λ p. p.0) (filter (is_due k.timeout c.args.now) k.entries)) c.self.view_is
