use Rattle.std.proofs.Common.{◌≡◌, ◌+◌, ◌≤◌, true, List, ap, ◌∙◌, subst, arith}
use Rattle.std.specs.List.{AllByRecursion, list_any}
use Rattle.removal_timer.specs.Kept.{Kept, entries_in}
use Rattle.removal_timer.proofs.SlotLemmas.{Entry}
use Rattle.removal_timer.proofs.WaitLemmas.{stands_since, quiet-before, due-then, past-since}
use Rattle.removal_timer.proofs.Timers.quiet_ticks.Goals as goal

pub returns-in-Some-clause-quiet : goal.returns-in-Some-clause-quiet
returns-in-Some-clause-quiet c = λ n before.
    let k = c.args.self.now in
    let same : entries_in c.deref.result.now ≡ k.entries = ap entries_in c.deref.ensures.value ∙ ap (λ (k : Kept). k.entries) c.self.view_is in
    let timeout : c.self.inside.timeout ≡ k.timeout = ap (λ (k : Kept). k.timeout) c.self.view_is in
    let since = c.in-Some.since in
    let first = subst (λ (es : List Entry). AllByRecursion (λ p. since ≤ p.1) es) same c.in-Some.ensures.first in
    let there = subst (λ (es : List Entry). list_any (stands_since since) es ≡ true) same c.in-Some.ensures.there in
    let past = past-since c.args.now since k.entries c.requires there in
    quiet-before k.timeout c.args.now since n k.entries first past (omega (arith, before, c.ticks_before.ensures, timeout))

pub returns-in-Some-clause-next : goal.returns-in-Some-clause-next
returns-in-Some-clause-next c = λ fewer.
    let k = c.args.self.now in
    let same : entries_in c.deref.result.now ≡ k.entries = ap entries_in c.deref.ensures.value ∙ ap (λ (k : Kept). k.entries) c.self.view_is in
    let timeout : c.self.inside.timeout ≡ k.timeout = ap (λ (k : Kept). k.timeout) c.self.view_is in
    let since = c.in-Some.since in
    let there = subst (λ (es : List Entry). list_any (stands_since since) es ≡ true) same c.in-Some.ensures.there in
    let past = past-since c.args.now since k.entries c.requires there in
    due-then k.timeout (c.args.now + c.ticks_before.result + 1) since k.entries there (omega (arith, fewer, past, c.ticks_before.ensures, timeout))
