use Rattle.std.proofs.Common.{rules, ◌≡◌, ◌≤◌, length, List, [], ◌∷◌, ◌++◌, refl, ap, sym, subst, ◌∙◌}
use Rattle.std.proofs.lemmas.List.{append_assoc}
use Rattle.ff_ids.specs.declared.TheConstants.{MAX_TOLERANCE}
use Rattle.records.specs.declared.CertBody.{CertBody}
use Rattle.records.specs.declared.Body.TheVariants as bodies
use Rattle.records.specs.Signing.{CheckedRecord}
use Rattle.node_rules.specs.Nodes.{certificate_of}
use Rattle.audit_node.specs.Playing.{IsAt}
use Rattle.audit_node.specs.Rolls.{with_roll, AreApart, AreNew, takes_all, IsOfOther}
use Rattle.audit_node.proofs.RollLemmas.{recs, new-push, after-push, same-certificate, nil-end, zero-empty, IsFresh, fresh-at_first, fresh-behind}
use Rattle.std.specs.List.{AllByRecursion}
use Rattle.audit_node.proofs.roll.Roll.take_all.Goals as goal

pub loop-rec-init : goal.loop-rec-init
loop-rec-init c =
    let all : c.into_iter-rec-iterator.result.rest.items ≡ c.args.certificates.items = search rules in
    record { parts = all; group = refl; notes = c.requires.notes; apart = subst (λ (xs : List CheckedRecord). AreApart (recs xs)) (sym all) c.requires.apart; fresh = fresh-at_first c.args.self.now.roster _ c.requires.none; plays = λ s es v call later at g f new. (at, new) }

pub take-requires-clause-fresh : goal.take-requires-clause-fresh
take-requires-clause-fresh c =
    let x = c.in-Some.rec in
    let body : x.rec.body ≡ bodies.Certificate c.in-Certificate.cert = sym (ap (λ r. r.body) c.rec.ensures.value) ∙ c.in-Certificate.is in
    let next : c.loop-rec.rec-iterator.rest.items ≡ x ∷ c.next.new.self.rest.items = search rules in
    (subst (λ (xs : List CheckedRecord). AllByRecursion (IsFresh c.loop-rec.self.roster) (recs xs)) next c.loop-rec.invariant.fresh).0 c.in-Certificate.cert body

pub loop-rec-preserved : goal.loop-rec-preserved
loop-rec-preserved c =
    let x = c.in-Some.rec in
    let body : x.rec.body ≡ bodies.Certificate c.in-Certificate.cert = sym (ap (λ r. r.body) c.rec.ensures.value) ∙ c.in-Certificate.is in
    let parts : c.loop-rec.yielded ++ x ∷ c.next.new.self.rest.items ≡ c.args.certificates.items = search rules in
    let next : c.loop-rec.rec-iterator.rest.items ≡ x ∷ c.next.new.self.rest.items = search rules in
    let behind = subst (λ (xs : List CheckedRecord). AreApart (recs xs)) next c.loop-rec.invariant.apart in
    let others = subst (λ (y : CertBody). AllByRecursion (IsOfOther y.member) (recs c.next.new.self.rest.items)) (same-certificate x.rec.body behind.0.cert c.in-Certificate.cert behind.0.body body) behind.0.others in
    record {
      parts = append_assoc c.loop-rec.yielded (x ∷ []) c.next.new.self.rest.items ∙ parts;
      group = c.take.ensures.group ∙ c.loop-rec.invariant.group;
      notes = c.take.ensures.notes;
      apart = behind.1;
      fresh = fresh-behind c.loop-rec.self.roster c.take.new.self.roster c.in-Certificate.cert (recs c.next.new.self.rest.items) c.take.ensures.roster others
          (subst (λ (xs : List CheckedRecord). AllByRecursion (IsFresh c.loop-rec.self.roster) (recs xs)) next c.loop-rec.invariant.fresh).1;
      plays = λ s es v call later at g f new.
          let before = c.loop-rec.invariant.plays s es v call (x.rec ∷ later) at g f (new-push s c.loop-rec.yielded x later call new) in
          let first = before.1.0 in
          let free : certificate_of (takes_all s (recs c.loop-rec.yielded) call).node c.in-Certificate.cert.member ≡ _ = ap (λ (y : CertBody). certificate_of (takes_all s (recs c.loop-rec.yielded) call).node y.member) (same-certificate _ _ _ body first.body) ∙ first.free in
          let after = c.take.ensures.plays s es v _ before.0 (g ∙ sym c.loop-rec.invariant.group) f free in
          (subst (IsAt s es (with_roll v c.take.new.self)) (after-push s c.loop-rec.yielded x call) after, subst (λ y. AreNew s y later) (after-push s c.loop-rec.yielded x call) before.1.1);
    }

pub returns-clause-plays : goal.returns-clause-plays
returns-clause-plays c = λ s es v call at g f new.
    let long : length c.loop-rec.rec-iterator.rest.items ≡ 0 = search rules in
    let none : c.loop-rec.rec-iterator.rest.items ≡ [] = zero-empty c.loop-rec.rec-iterator.rest.items long in
    let all : c.loop-rec.yielded ≡ c.args.certificates.items = sym (nil-end c.loop-rec.yielded) ∙ ap (λ (xs : List CheckedRecord). c.loop-rec.yielded ++ xs) (sym none) ∙ c.loop-rec.invariant.parts in
    let done = c.loop-rec.invariant.plays s es v call [] at g f (subst (λ xs. AreNew s call xs) (sym (nil-end (recs c.loop-rec.yielded) ∙ ap recs all)) new) in
    subst (λ xs. IsAt s es (with_roll v c.loop-rec.self) (takes_all s (recs xs) call)) all done.0

pub returns-clause-group : goal.returns-clause-group
returns-clause-group c = c.loop-rec.invariant.group

pub returns-clause-notes : goal.returns-clause-notes
returns-clause-notes c = c.loop-rec.invariant.notes

pub take-requires-clause-notes : goal.take-requires-clause-notes
take-requires-clause-notes c = c.loop-rec.invariant.notes

pub take-requires-clause-few : goal.take-requires-clause-few
take-requires-clause-few c = subst (λ g. g.t ≤ MAX_TOLERANCE) (sym c.loop-rec.invariant.group) c.requires.few
