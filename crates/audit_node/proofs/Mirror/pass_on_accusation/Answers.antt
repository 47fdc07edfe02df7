use Rattle.std.proofs.Common.{◌≡◌, Some, ap, subst, sym}
use Rattle.records.specs.declared.Body.{Body}
use Rattle.records.specs.declared.Body.TheVariants as bodies
use Rattle.node_rules.specs.Calls.{takes}
use Rattle.audit_set.specs.declared.known.Known.{Known}
use Rattle.audit_set.specs.declared.known.Known.TheVariants as knowns
use Rattle.audit_node.specs.Signatures.{with_stored}
use Rattle.audit_node.specs.Playing.{IsOwn, IsSendable, Kept, Plays, record_of}
use Rattle.audit_node.specs.contracts.Mirror.{the_view}
use Rattle.audit_node.proofs.PlayLemmas.{grows-trans, kept-plays, passed-on}
use Rattle.audit_node.proofs.Mirror.pass_on_accusation.Goals as goal

pub returns-clause-plays : goal.returns-clause-plays
returns-clause-plays c = λ s es call p at long.
    let v : Kept = the_view c.self.inside in
    let b : Body = bodies.Accusation c.args.acc.now in
    let own : Known = knowns.Own (record { index = c.args.index; body = b; length = v.own_length }) in
    let is : c.own_known-known.result ≡ own = c.own_known-known.ensures in
    let long1 : IsOwn s (record { index = c.args.index; body = b; length = v.own_length }) =
    subst (λ (w : Kept). IsOwn s (record { index = c.args.index; body = b; length = w.own_length })) (sym c.self.view_is) long in
    let kept = kept-plays s es call b c.tell.new.self c.take_accusation.new.self c.args.index (record_of s own) at (ap (λ k. record { body = b; signature = s.signature k b }) at) (c.tell.ensures.plays s es (with_stored b call) p) (λ x q. subst (λ (k : Known). Plays s es c.take_accusation.new.self (takes s (record_of s k) x)) is (c.take_accusation.ensures.plays s es x (subst (λ (k : Known). IsSendable s (Some k)) (sym is) long1) q)) in
    passed-on s es call b (Some c.args.acc.now.accused) c.args.index c.take_accusation.new.self c.send_own.new.self at kept (λ x r. c.send_own.ensures.plays s es x v.own_length long1 r)

pub returns-clause-grows : goal.returns-clause-grows
returns-clause-grows c =
    grows-trans c.args.self.now c.tell.new.self c.send_own.new.self c.tell.ensures.grows (grows-trans c.tell.new.self c.take_accusation.new.self c.send_own.new.self c.take_accusation.ensures.grows c.send_own.ensures.grows)
