use Rattle.std.proofs.Common.{◌∙◌, List, map, false, sym, ap, subst, arith}
use Rattle.std.specs.Option.{option_map_or}
use Rattle.std.proofs.lemmas.List.{with_items_is}
use Rattle.detector.specs.declared.probe.Probe.{Probe}
use Rattle.detector.specs.Silence.{ponged}
use Rattle.detector.specs.Slots.{probe_in, probe_has, answered_where}
use Rattle.detector.specs.Kept.{Kept, StandsFor, DrawsFor}
use Rattle.detector.specs.contracts.Detector.{the_view}
use Rattle.detector.proofs.HistoryLemmas.{counted, stands-ponged, draws-ponged, stands-unheard, draws-unheard}
use Rattle.detector.proofs.Detector.pong.Goals as goal

pub returns-then-not-has_kept-clause-value : goal.returns-then-not-has_kept-clause-value
returns-then-not-has_kept-clause-value c = λ h stands.
    let held = subst (λ (k : Kept). StandsFor k h) (sym c.self.view_is) stands in
    sym c.if-not-has_kept.true
    ∙ c.has_kept.ensures
    ∙ ap (λ (ps : List Probe). option_map_or (probe_has c.self.inside.group.misses c.args.nonce) (probe_in ps c.args.from) false) c.deref.ensures.value
    ∙ counted (the_view c.self.inside) h c.args.from c.args.nonce held c.self.invariant.misses

pub returns-then-not-has_kept-clause-stands : goal.returns-then-not-has_kept-clause-stands
returns-then-not-has_kept-clause-stands c = λ h stands.
    stands-unheard c.args.self.now h c.args.from c.args.nonce stands (sym (returns-then-not-has_kept-clause-value c h stands))

pub returns-then-not-has_kept-clause-holds : goal.returns-then-not-has_kept-clause-holds
returns-then-not-has_kept-clause-holds c = λ h draws.
    draws-unheard c.args.self.now h c.args.from c.args.nonce draws (sym (returns-then-not-has_kept-clause-value c h draws.stands))

pub returns-clause-value : goal.returns-clause-value
returns-clause-value c = λ h stands.
    let held = subst (λ (k : Kept). StandsFor k h) (sym c.self.view_is) stands in
    sym c.if-not-has_kept.false
    ∙ c.has_kept.ensures
    ∙ ap (λ (ps : List Probe). option_map_or (probe_has c.self.inside.group.misses c.args.nonce) (probe_in ps c.args.from) false) c.deref.ensures.value
    ∙ counted (the_view c.self.inside) h c.args.from c.args.nonce held c.self.invariant.misses

pub returns-clause-stands : goal.returns-clause-stands
returns-clause-stands c = λ h stands.
    let k = the_view c.self.inside in
    let held = subst (λ (k : Kept). StandsFor k h) (sym c.self.view_is) stands in
    let written = with_items_is c.self.inside.probes c.answer_all.new.probes (omega (arith, c.answer_all.auto.probes, c.deref_mut.ensures.len)) in
    let answered = written ∙ c.answer_all.ensures ∙ ap (map (answered_where c.self.inside.group.misses c.args.from c.args.nonce)) c.deref_mut.ensures.value in
    subst (λ (ps : List Probe). StandsFor (record { group = k.group; words = k.words; probes = ps }) (ponged h c.args.from c.args.nonce)) (sym answered) (stands-ponged k h c.args.from c.args.nonce held)

pub returns-clause-holds : goal.returns-clause-holds
returns-clause-holds c = λ h draws.
    let k = the_view c.self.inside in
    let held = subst (λ (k : Kept). DrawsFor k h) (sym c.self.view_is) draws in
    let written = with_items_is c.self.inside.probes c.answer_all.new.probes (omega (arith, c.answer_all.auto.probes, c.deref_mut.ensures.len)) in
    let answered = written ∙ c.answer_all.ensures ∙ ap (map (answered_where c.self.inside.group.misses c.args.from c.args.nonce)) c.deref_mut.ensures.value in
    subst (λ (ps : List Probe). DrawsFor (record { group = k.group; words = k.words; probes = ps }) (ponged h c.args.from c.args.nonce)) (sym answered) (draws-ponged k h c.args.from c.args.nonce held)
