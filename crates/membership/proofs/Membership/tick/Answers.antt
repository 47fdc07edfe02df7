use Rattle.std.proofs.Common.{◌≡◌, ◌∙◌, ◌+◌, ap, refl, sym, subst, List, map, filter, not}
use Rattle.std.specs.List.{All}
use Rattle.ff_ids.specs.declared.AccBody.{AccBody}
use Rattle.ff_ids.specs.Masks.{ring_count}
use Rattle.ff_ids.specs.Views.{State}
use Rattle.ff_ids.specs.Steps.{Report, after_tick, is_due}
use Rattle.removal_timer.specs.Kept.{IsInOrder}
use Rattle.removal_timer.proofs.KeptLemmas.{IsInOrder-filter}
use Rattle.membership.specs.Kept.{raised, leavers}
use Rattle.membership.specs.Life.{Life}
use Rattle.membership.specs.Ends.{Entry, AreTheirs, is_of_any}
use Rattle.membership.specs.Holds.{Holds}
use Rattle.membership.proofs.TickLemmas.{ticked, due_of, theirs-due, Ticked, Ticked-by}
use Rattle.membership.proofs.Membership.tick.Goals as goal

pub end_of_expired-requires-clause-in_order : goal.end_of_expired-requires-clause-in_order
end_of_expired-requires-clause-in_order c =
    let l = c.args.self.now in
    subst (λ (k : Life). IsInOrder (ring_count k.group.t) k.kept) (sym c.advance.ensures.kept) (IsInOrder-filter (ring_count l.group.t) (λ p. not (is_due l.group.timeout (l.moment + 1) p)) l.kept c.advance.ensures.in_order)

-- what is left, and what fell
abbrev left : Life → List Entry
left l = filter (λ p. not (is_of_any l (due_of l) p)) (ticked l).kept

abbrev fallen : Life → List AccBody
fallen l = map (λ p. p.0) (filter (is_of_any l (due_of l)) (ticked l).kept)

by_tick : (l : Life) (s : State) (c : goal.After-expire_all) → l ≡ c.args.self.now → Holds c.args.self.now s → Ticked c.args.self.now s (left c.args.self.now) (fallen c.args.self.now)
by_tick l s c e h = Ticked-by c.args.self.now s (left c.args.self.now) (fallen c.args.self.now) h c.advance.ensures.noted c.advance.ensures.in_order (record { left = refl; told = refl })

due : (c : goal.After-expire_all) → c.advance.new.out.expired ≡ due_of c.args.self.now
due c = ap (λ (r : Report). r.expired) c.advance.ensures.expired

told : (c : goal.After-expire_all) → c.end_of_expired.new.out.expired ≡ due_of c.args.self.now
told c = ap (λ (r : Report). r.expired) c.end_of_expired.ensures.report ∙ due c

theirs : (c : goal.After-expire_all) (s : State) → Holds c.args.self.now s → All (λ a. AreTheirs c.advance.new.self a.accused c.advance.new.self.kept) c.advance.new.out.expired
theirs c s h =
    let l = c.args.self.now in
    rw (c.advance.ensures.kept, due c) (theirs-due l s h c.advance.ensures.noted c.advance.ensures.in_order)

-- the life once what ends has ended
life : (c : goal.After-expire_all) (s : State) → Holds c.args.self.now s → c.end_of_expired.new.self ≡ record c.args.self.now { moment = c.args.self.now.moment + 1; kept = left c.args.self.now }
life c s h =
    let l = c.args.self.now in
    c.end_of_expired.ensures.rest
    ∙ ap (λ (es : List Entry). record c.advance.new.self { kept = es }) (c.end_of_expired.ensures.kept (theirs c s h))
    ∙ ap (λ (k : Life). record k { kept = filter (λ p. not (is_of_any k c.advance.new.out.expired p)) k.kept }) c.advance.ensures.kept
    ∙ ap (λ (xs : List AccBody). record l { moment = l.moment + 1; kept = filter (λ p. not (is_of_any l xs p)) (ticked l).kept }) (due c)

-- what is told once it has
report : (c : goal.After-expire_all) (s : State) → Holds c.args.self.now s → c.end_of_expired.new.out ≡ record c.advance.new.out { fell = map (λ p. p.0) (filter (is_of_any c.advance.new.self c.advance.new.out.expired) c.advance.new.self.kept) }
report c s h = c.end_of_expired.ensures.report ∙ ap (λ (es : List AccBody). record c.advance.new.out { fell = es }) (c.end_of_expired.ensures.fell (theirs c s h))

pub returns-clause-step : goal.returns-clause-step
returns-clause-step c = λ s h.
    let l = c.args.self.now in
    let whole = c.expire_all.ensures.kept
    ∙ ap (λ (xs : List AccBody). record c.end_of_expired.new.self { expired = raised c.end_of_expired.new.self.expired xs }) (told c)
    ∙ ap (λ (k : Life). record k { expired = raised k.expired (due_of l) }) (life c s h) in
    subst (λ (k : Life). Holds k (after_tick l.group.timeout s).state) (sym whole) (by_tick l s c refl h).holds

pub returns-clause-changes : goal.returns-clause-changes
returns-clause-changes c = λ s h.
    let l = c.args.self.now in
    let gone = leavers l.notes l.expired (due_of l) in
    c.expire_all.ensures.removed
    ∙ ap (λ (k : Life). record c.end_of_expired.new.out { removed = leavers k.notes k.expired c.end_of_expired.new.out.expired }) (life c s h)
    ∙ ap (λ (xs : List AccBody). record c.end_of_expired.new.out { removed = leavers l.notes l.expired xs }) (told c)
    ∙ ap (λ (r : Report). record r { removed = gone }) (report c s h)
    ∙ ap (λ (k : Life). record c.advance.new.out { removed = gone; fell = map (λ p. p.0) (filter (is_of_any k c.advance.new.out.expired) k.kept) }) c.advance.ensures.kept
    ∙ ap (λ (xs : List AccBody). record c.advance.new.out { removed = gone; fell = map (λ p. p.0) (filter (is_of_any l xs) (ticked l).kept) }) (due c)
    ∙ ap (λ (r : Report). record r { removed = gone; fell = fallen l }) c.advance.ensures.expired
    ∙ ap (λ (r : Report). record r { expired = due_of l; removed = gone; fell = fallen l }) c.clear.ensures
    ∙ (by_tick l s c refl h).report
