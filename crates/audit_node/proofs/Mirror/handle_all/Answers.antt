use Rattle.std.proofs.Common.{true, ◌≡◌, List, [], ◌∷◌, ◌++◌, length, All, ap, sym, ◌∙◌, subst}
use Rattle.std.proofs.lemmas.List.{append_assoc}
use Rattle.records.specs.Spelling.{HasPort}
use Rattle.records.specs.declared.Record.{Record}
use Rattle.node_rules.specs.Calls.{Call}
use Rattle.node_rules.specs.Deliveries.{handles, handles_all}
use Rattle.audit_node.specs.Playing.{Plays}
use Rattle.audit_node.proofs.TellingLemmas.{nil-right}
use Rattle.audit_node.proofs.PlayLemmas.{grows-refl, grows-trans}
use Rattle.audit_node.proofs.HandleLemmas.{all-tail, fold-push, no_items}
use Rattle.audit_node.proofs.Mirror.handle_all.Goals as goal

pub loop-rec-init : goal.loop-rec-init
loop-rec-init c =
    let same : c.into_iter-rec-iterator.result.rest.items ≡ c.args.records.items = c.into_iter-rec-iterator.ensures.into_iter_gives.0 in
    (record { done = []; split = sym same; plays = λ s es call p. p; grows = grows-refl c.args.self.now }, subst (λ (xs : List Record). All (λ r. HasPort r.body) xs) (sym same) c.requires)

pub loop-rec-preserved : goal.loop-rec-preserved
loop-rec-preserved c =
    let h = c.loop-rec.invariant.0 in
    let r : Record = c.in-Some.rec in
    let next : c.loop-rec.rec-iterator.rest.items ≡ r ∷ c.next.new.self.rest.items = c.in-Some.ensures.steps.0 in (
      record {
        done = h.done ++ r ∷ [];
        split = h.split ∙ ap (λ (xs : List Record). h.done ++ xs) next ∙ sym (append_assoc h.done (r ∷ []) c.next.new.self.rest.items);
        plays = λ s es call p. subst (λ (x : Call). Plays s es c.handle.new.self x) (sym (fold-push (handles true s) call h.done r)) (c.handle.ensures.plays s es (handles_all s h.done call) (h.plays s es call p));
        grows = grows-trans c.args.self.now c.loop-rec.self c.handle.new.self h.grows c.handle.ensures.grows;
      },
      all-tail (λ (x : Record). HasPort x.body) r c.next.new.self.rest.items (subst (λ (xs : List Record). All (λ x. HasPort x.body) xs) next c.loop-rec.invariant.1),
    )

pub returns-clause-plays : goal.returns-clause-plays
returns-clause-plays c = λ s es call p.
    let h = c.loop-rec.invariant.0 in
    let long : length c.loop-rec.rec-iterator.rest.items ≡ 0 = sym c.loop-rec.rec-iterator.rest.ok.0 ∙ c.in-None.ensures.steps.0 in
    let none : c.loop-rec.rec-iterator.rest.items ≡ [] = no_items c.loop-rec.rec-iterator.rest.items long in
    let whole : c.args.records.items ≡ h.done = h.split ∙ ap (λ (xs : List Record). h.done ++ xs) none ∙ nil-right h.done in
    subst (λ (xs : List Record). Plays s es c.loop-rec.self (handles_all s xs call)) (sym whole) (h.plays s es call p)
