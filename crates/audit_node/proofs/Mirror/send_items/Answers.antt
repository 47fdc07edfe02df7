use Rattle.std.proofs.Common.{List, ap, subst, sym}
use Rattle.records.specs.declared.Record.{Record}
use Rattle.datagram.specs.declared.Datagram.TheVariants as kinds
use Rattle.datagram.specs.Spelling.{datagram_bytes}
use Rattle.journal.specs.declared.event.What.TheVariants as told
use Rattle.audit_node.specs.Playing.{Plays}
use Rattle.audit_node.specs.contracts.Mirror.{the_view}
use Rattle.audit_node.specs.declared.owing.Owed.TheVariants as owings
use Rattle.audit_node.proofs.PlayLemmas.{sends-plays}
use Rattle.audit_node.proofs.Mirror.send_items.Goals as goal

pub returns-clause-plays : goal.returns-clause-plays
returns-clause-plays c = λ s es call rs p are can.
    sends-plays s es (the_view c.self.inside) call (kinds.Records s.me rs) c.args.to c.now.result (λ k. owings.Records k c.args.to c.args.items) c.send_items.new.self (subst (λ v. Plays s es v call) (sym c.self.view_is) p) (λ k. ap (λ (xs : List Record). told.Sent k c.args.to (datagram_bytes (kinds.Records s.me xs))) are) (λ k. record { sound = can; named = tt }) c.now.ensures.moment c.send_items.ensures
