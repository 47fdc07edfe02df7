use Rattle.std.proofs.Common.{◌≡◌, eqb, eq-eqb, Some, subst, sym, ap, ◌∙◌}
use Rattle.std.specs.FinMap.{get}
use Rattle.std.proofs.lemmas.Bool.{eqb-true}
use Rattle.ff_ids.specs.declared.NoteBody.{NoteBody}
use Rattle.epoch_store.specs.declared.Stored.{Stored}
use Rattle.node_core.specs.Noted.{own_note}
use Rattle.node_core.specs.Playing.{Kept}
use Rattle.node_core.specs.contracts.Node.{the_view}
use Rattle.node_core.proofs.NotedLemmas.{some_is}
use Rattle.node_core.proofs.Node.has_left.Goals as goal

pub returns-clause-newest : goal.returns-clause-newest
returns-clause-newest c = λ note is.
    let v : Kept = the_view c.self.inside in
    let here = subst (λ (v : Kept). get v.membership.notes v.me ≡ Some note) (sym c.self.view_is) is in
    let own : own_note v.me v.signer.state ≡ note = some_is _ _ (sym c.self.invariant.newest_own ∙ here) in
    ap (λ (k : Stored). eqb k.mask.0 0) c.state.ensures ∙ ap (λ (n : NoteBody). eqb n.mask.0 0) own

pub returns-clause-kept : goal.returns-clause-kept
returns-clause-kept c = λ s n is.
    let same : eqb c.state.result.mask.0 0 ≡ eqb n.stored.mask.0 0 =
    ap (λ (k : Stored). eqb k.mask.0 0) (c.state.ensures ∙ ap (λ (v : Kept). v.signer.state) c.self.view_is ∙ is.stored) in
    (λ yes. eqb-true n.stored.mask.0 0 (sym same ∙ yes), λ none. same ∙ eq-eqb n.stored.mask.0 0 none)
