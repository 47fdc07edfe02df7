use Rattle.std.proofs.Common.{true, ◌≡◌, ℕ, List, [], ◌∷◌, ◌++◌, length, ap, sym, ◌∙◌, subst}
use Rattle.std.proofs.lemmas.List.{append_assoc}
use Rattle.node_rules.specs.Calls.{Call}
use Rattle.node_rules.specs.Ticking.{accuses, accuses_all}
use Rattle.audit_node.specs.Playing.{Plays}
use Rattle.audit_node.proofs.TellingLemmas.{nil-right}
use Rattle.audit_node.proofs.PlayLemmas.{grows-refl, grows-trans}
use Rattle.audit_node.proofs.HandleLemmas.{fold-push, no_items}
use Rattle.audit_node.proofs.Mirror.accuse_all.Goals as goal

pub loop-member-init : goal.loop-member-init
loop-member-init c =
    let same : c.into_iter-member-iterator.result.rest.items ≡ c.args.silent.items = c.into_iter-member-iterator.ensures.into_iter_gives.0 in
    record { done = []; split = sym same; plays = λ s es call p. p; grows = grows-refl c.args.self.now }

pub loop-member-preserved : goal.loop-member-preserved
loop-member-preserved c =
    let h = c.loop-member.invariant in
    let r : ℕ = c.in-Some.member in
    let next : c.loop-member.member-iterator.rest.items ≡ r ∷ c.next.new.self.rest.items = c.in-Some.ensures.steps.0 in
    record {
      done = h.done ++ r ∷ [];
      split = h.split ∙ ap (λ (xs : List ℕ). h.done ++ xs) next ∙ sym (append_assoc h.done (r ∷ []) c.next.new.self.rest.items);
      plays = λ s es call p. subst (λ (x : Call). Plays s es c.accuse.new.self x) (sym (fold-push (accuses true s) call h.done r)) (c.accuse.ensures.plays s es (accuses_all s h.done call) (h.plays s es call p));
      grows = grows-trans c.args.self.now c.loop-member.self c.accuse.new.self h.grows c.accuse.ensures.grows;
    }

pub returns-clause-plays : goal.returns-clause-plays
returns-clause-plays c = λ s es call p.
    let h = c.loop-member.invariant in
    let long : length c.loop-member.member-iterator.rest.items ≡ 0 = sym c.loop-member.member-iterator.rest.ok.0 ∙ c.in-None.ensures.steps.0 in
    let none : c.loop-member.member-iterator.rest.items ≡ [] = no_items c.loop-member.member-iterator.rest.items long in
    let whole : c.args.silent.items ≡ h.done = h.split ∙ ap (λ (xs : List ℕ). h.done ++ xs) none ∙ nil-right h.done in
    subst (λ (xs : List ℕ). Plays s es c.loop-member.self (accuses_all s xs call)) (sym whole) (h.plays s es call p)
