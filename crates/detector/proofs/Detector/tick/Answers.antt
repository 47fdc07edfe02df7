use Rattle.std.proofs.Common.{◌∙◌, ℕ, List, [], cond, map, sym, ap, subst, arith}
use Rattle.std.specs.Prelude.{filter}
use Rattle.std.proofs.lemmas.List.{with_items_is}
use Rattle.ff_ids.specs.declared.Group.{Group}
use Rattle.rand_chacha.specs.ChaCha.{ChaCha}
use Rattle.detector.specs.declared.probe.Probe.{Probe}
use Rattle.detector.specs.Silence.{ticked, ticked_with}
use Rattle.detector.specs.Watching.{watched}
use Rattle.detector.specs.Slots.{all_missed, carried_all, with_pings, pings_with, after_nonces}
use Rattle.detector.specs.Kept.{Kept, StandsFor, DrawsFor, Findings}
use Rattle.detector.specs.contracts.Detector.{the_view}
use Rattle.detector.proofs.HistoryLemmas.{silent-after, sent-to, pings-after, kept_ticked, stands-ticked, draws-ticked}
use Rattle.detector.proofs.Detector.tick.Goals as goal

pub returns-clause-silent : goal.returns-clause-silent
returns-clause-silent c = λ h s stands held.
    let k = the_view c.self.inside in
    let mine = subst (λ (k : Kept). StandsFor k h) (sym c.self.view_is) stands in
    let seen = c.watch_all.ensures.items s held ∙ ap (λ (g : Group). watched g.t s c.args.me) c.requires.group in
    let probes = ap (λ v. v.items) c.swap.ensures.x_after ∙ c.carry_all.ensures.items ∙ ap (λ (ps : List Probe). carried_all ps c.deref-2.result.now) c.deref.ensures.value ∙ ap (carried_all k.probes) (c.deref-2.ensures.value ∙ seen) in
    let ws = watched c.args.self.now.group.t s c.args.me in
    ap (λ (f : Findings). f.silent) c.ping_each.ensures.pings
    ∙ ap (λ (f : Findings). f.silent) c.list_silent.ensures
    ∙ ap (λ (ps : List Probe). map (λ (p : Probe). p.member) (filter (all_missed k.group.misses) ps)) (c.deref-3.ensures.value ∙ probes)
    ∙ silent-after k h ws mine c.self.invariant.misses

pub returns-clause-to : goal.returns-clause-to
returns-clause-to c = λ s held.
    let k = the_view c.self.inside in
    let seen = c.watch_all.ensures.items s held ∙ ap (λ (g : Group). watched g.t s c.args.me) c.requires.group in
    let probes = ap (λ v. v.items) c.swap.ensures.x_after ∙ c.carry_all.ensures.items ∙ ap (λ (ps : List Probe). carried_all ps c.deref-2.result.now) c.deref.ensures.value ∙ ap (carried_all k.probes) (c.deref-2.ensures.value ∙ seen) in
    let ws = watched c.args.self.now.group.t s c.args.me in
    let due = c.args.due in
    let left = c.deref_mut.ensures.value ∙ probes in
    let sent = ap (λ (f : Findings). f.pings) c.ping_each.ensures.pings ∙ ap (λ (ps : List Probe). cond due (pings_with k.words ps) []) left in
    ap (map (λ (p : ℕ × ℕ). p.0)) sent ∙ sent-to k due ws

pub returns-clause-stands : goal.returns-clause-stands
returns-clause-stands c = λ h s stands held.
    let k = the_view c.self.inside in
    let mine = subst (λ (k : Kept). StandsFor k h) (sym c.self.view_is) stands in
    let seen = c.watch_all.ensures.items s held ∙ ap (λ (g : Group). watched g.t s c.args.me) c.requires.group in
    let probes = ap (λ v. v.items) c.swap.ensures.x_after ∙ c.carry_all.ensures.items ∙ ap (λ (ps : List Probe). carried_all ps c.deref-2.result.now) c.deref.ensures.value ∙ ap (carried_all k.probes) (c.deref-2.ensures.value ∙ seen) in
    let ws = watched c.args.self.now.group.t s c.args.me in
    let due = c.args.due in
    let left = c.deref_mut.ensures.value ∙ probes in
    let sent = ap (λ (f : Findings). f.pings) c.ping_each.ensures.pings ∙ ap (λ (ps : List Probe). cond due (pings_with k.words ps) []) left in
    let words = c.ping_each.ensures.words ∙ ap (λ (ps : List Probe). cond due (after_nonces k.words ps) k.words) left in
    let written = with_items_is c.swap.new.x c.ping_each.new.probes (omega (arith, c.ping_each.auto.probes, c.deref_mut.ensures.len)) in
    let kept = written ∙ c.ping_each.ensures.probes ∙ ap (λ (ps : List Probe). cond due (with_pings k.words ps) ps) left in
    let then = ticked_with h ws c.ping_each.new.self.pings in
    subst (λ (ps : List Probe). StandsFor (record { group = k.group; words = c.ping_each.new.words; probes = ps }) then) (sym kept)
    (subst (λ (g : ChaCha). StandsFor (record { group = k.group; words = g; probes = cond due (with_pings k.words (carried_all k.probes ws)) (carried_all k.probes ws) }) then) (sym words)
    (subst (λ (pings : List (ℕ × ℕ)). StandsFor (kept_ticked k due ws) (ticked_with h ws pings)) (sym sent) (stands-ticked k h ws due mine)))

pub returns-clause-pings : goal.returns-clause-pings
returns-clause-pings c = λ h s draws held.
    let k = the_view c.self.inside in
    let mine = subst (λ (k : Kept). DrawsFor k h) (sym c.self.view_is) draws in
    let seen = c.watch_all.ensures.items s held ∙ ap (λ (g : Group). watched g.t s c.args.me) c.requires.group in
    let probes = ap (λ v. v.items) c.swap.ensures.x_after ∙ c.carry_all.ensures.items ∙ ap (λ (ps : List Probe). carried_all ps c.deref-2.result.now) c.deref.ensures.value ∙ ap (carried_all k.probes) (c.deref-2.ensures.value ∙ seen) in
    let ws = watched c.args.self.now.group.t s c.args.me in
    let due = c.args.due in
    let left = c.deref_mut.ensures.value ∙ probes in
    let sent = ap (λ (f : Findings). f.pings) c.ping_each.ensures.pings ∙ ap (λ (ps : List Probe). cond due (pings_with k.words ps) []) left in
    sent ∙ pings-after k h ws due mine

pub returns-clause-holds : goal.returns-clause-holds
returns-clause-holds c = λ h s draws held.
    let k = the_view c.self.inside in
    let mine = subst (λ (k : Kept). DrawsFor k h) (sym c.self.view_is) draws in
    let seen = c.watch_all.ensures.items s held ∙ ap (λ (g : Group). watched g.t s c.args.me) c.requires.group in
    let probes = ap (λ v. v.items) c.swap.ensures.x_after ∙ c.carry_all.ensures.items ∙ ap (λ (ps : List Probe). carried_all ps c.deref-2.result.now) c.deref.ensures.value ∙ ap (carried_all k.probes) (c.deref-2.ensures.value ∙ seen) in
    let ws = watched c.args.self.now.group.t s c.args.me in
    let due = c.args.due in
    let left = c.deref_mut.ensures.value ∙ probes in
    let words = c.ping_each.ensures.words ∙ ap (λ (ps : List Probe). cond due (after_nonces k.words ps) k.words) left in
    let written = with_items_is c.swap.new.x c.ping_each.new.probes (omega (arith, c.ping_each.auto.probes, c.deref_mut.ensures.len)) in
    let kept = written ∙ c.ping_each.ensures.probes ∙ ap (λ (ps : List Probe). cond due (with_pings k.words ps) ps) left in
    subst (λ (ps : List Probe). DrawsFor (record { group = k.group; words = c.ping_each.new.words; probes = ps }) (ticked h due ws)) (sym kept)
    (subst (λ (g : ChaCha). DrawsFor (record { group = k.group; words = g; probes = cond due (with_pings k.words (carried_all k.probes ws)) (carried_all k.probes ws) }) (ticked h due ws)) (sym words) (draws-ticked k h ws due mine))
