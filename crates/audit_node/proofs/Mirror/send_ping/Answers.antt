use Rattle.std.proofs.Common.{refl, subst, sym}
use Rattle.datagram.specs.declared.Datagram.TheVariants as kinds
use Rattle.audit_node.specs.Playing.{Plays}
use Rattle.audit_node.specs.contracts.Mirror.{the_view}
use Rattle.audit_node.specs.declared.owing.Owed.TheVariants as owings
use Rattle.audit_node.proofs.PlayLemmas.{sends-plays}
use Rattle.audit_node.proofs.Mirror.send_ping.Goals as goal

pub returns-clause-plays : goal.returns-clause-plays
returns-clause-plays c = λ s es call p.
    sends-plays s es (the_view c.self.inside) call (kinds.Ping s.me c.args.nonce) c.args.to c.now.result (λ k. owings.Ping k c.args.to c.args.nonce) c.send_ping.new.self (subst (λ v. Plays s es v call) (sym c.self.view_is) p) (λ k. refl) (λ k. record { sound = tt; named = tt }) c.now.ensures.moment c.send_ping.ensures
