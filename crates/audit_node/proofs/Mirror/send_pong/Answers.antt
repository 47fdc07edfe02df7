use Rattle.std.proofs.Common.{refl, subst, sym}
use Rattle.datagram.specs.declared.Datagram.TheVariants as kinds
use Rattle.datagram.proofs.Sizes.{pong_writable}
use Rattle.audit_node.specs.Playing.{Kept, Plays, Grows}
use Rattle.audit_node.specs.contracts.Mirror.{the_view}
use Rattle.audit_node.proofs.HearLemmas.{own-datagram}
use Rattle.node_rules.specs.Calls.{sends}
use Rattle.audit_node.proofs.PlayLemmas.{plays-refused}
use Rattle.audit_node.proofs.Mirror.send_pong.Goals as goal

pub bytes_of-requires : goal.bytes_of-requires
bytes_of-requires c = pong_writable c.self.inside.me c.args.nonce

pub returns-in-Ok-clause-plays : goal.returns-in-Ok-clause-plays
returns-in-Ok-clause-plays c = λ s es call p.
    let v : Kept = the_view c.self.inside in
    let p0 = subst (λ v. Plays s es v call) (sym c.self.view_is) p in
    own-datagram s es v c.send.new.self call c.args.to (λ m. kinds.Pong m c.args.nonce) p0 (subst (λ (w : Kept). Grows w c.send.new.self) (sym c.self.view_is) c.send.ensures.grows)
    (c.send.ensures.plays s es call (kinds.Pong c.self.inside.me c.args.nonce) p c.in-Ok.ensures refl)

pub returns-clause-plays : goal.returns-clause-plays
returns-clause-plays c = λ s es call p.
    plays-refused s es (the_view c.self.inside) _ (sends s (kinds.Pong s.me c.args.nonce) call c.args.to) c.fail.ensures
