use Rattle.std.proofs.Common.{◌≡◌, ℕ, true, false, eqb, Some, ap, refl, sym, subst, ◌∙◌, arith}
use Rattle.std.proofs.lemmas.Bool.Decides.{nat_tests}
use Rattle.records.specs.declared.Body.{Body}
use Rattle.records.specs.declared.Body.TheVariants as bodies
use Rattle.audit_node.specs.Playing.{Grows, Kept, Plays}
use Rattle.audit_node.specs.contracts.Mirror.{the_view}
use Rattle.audit_node.proofs.PlayLemmas.{grows-stored, signed-at, used_up-at}
use Rattle.audit_node.proofs.Mirror.want_accusation.Goals as goal

pub returns-then-index-self-clause-plays : goal.returns-then-index-self-clause-plays
returns-then-index-self-clause-plays c = λ s es call p.
    let v : Kept = the_view c.self.inside in
    let full : eqb v.stored.next v.indexes ≡ true = grind (arith, nat_tests, c.if-index-self.true) in
    used_up-at s es v c.tell.new.self call (bodies.Accusation c.args.acc.now) (Some c.args.acc.now.accused) v.stored.next
    (subst (λ v. Plays s es v call) (sym c.self.view_is) p) refl full
    (subst (λ (w : Kept). Grows w c.tell.new.self) (sym c.self.view_is) c.tell.ensures.grows) (c.tell.ensures.plays s es call p)

pub returns-clause-plays : goal.returns-clause-plays
returns-clause-plays c = λ s es call p.
    let v : Kept = the_view c.self.inside in
    let b : Body = bodies.Accusation c.args.acc.now in
    let left : eqb v.stored.next v.indexes ≡ false = grind (arith, nat_tests, c.if-index-self.false) in
    signed-at s es v c.pass_on_accusation.new.self call b b (Some c.args.acc.now.accused) c.stored_after-self-inside.result v.stored.next
    (subst (λ v. Plays s es v call) (sym c.self.view_is) p) left refl (λ n. refl) c.stored_after-self-inside.ensures c.accusation_is_spelled.ensures (ap (λ (m : ℕ). Some m) c.requires.by ∙ sym (ap (λ (w : Kept). Some w.me) c.self.view_is)) c.pass_on_accusation.ensures.grows
    (λ q at long. c.pass_on_accusation.ensures.plays s es call q at long)

pub returns-clause-grows : goal.returns-clause-grows
returns-clause-grows c =
    let v : Kept = the_view c.self.inside in
    subst (λ (x : Kept). Grows x c.pass_on_accusation.new.self) c.self.view_is
    (grows-stored v c.pass_on_accusation.new.self c.stored_after-self-inside.result c.pass_on_accusation.ensures.grows)
