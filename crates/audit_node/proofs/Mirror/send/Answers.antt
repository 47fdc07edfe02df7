use Rattle.std.proofs.Common.{ap, subst, sym}
use Rattle.journal.specs.declared.event.What.TheVariants as told
use Rattle.audit_node.specs.Playing.{Plays}
use Rattle.audit_node.specs.contracts.Mirror.{the_view}
use Rattle.audit_node.specs.declared.owing.Owed.TheVariants as owings
use Rattle.audit_node.proofs.PlayLemmas.{sends-plays}
use Rattle.audit_node.proofs.SendableLemmas.{bare-fair}
use Rattle.records.proofs.Fields.{IsBytes}
use Rattle.audit_node.proofs.Mirror.send.Goals as goal

pub returns-clause-plays : goal.returns-clause-plays
returns-clause-plays c = λ s es call d p spelled bare.
    sends-plays s es (the_view c.self.inside) call d c.args.to c.now.result (λ k. owings.What (told.Sent k c.args.to c.args.bytes.items)) c.send_bytes.new.self (subst (λ v. Plays s es v call) (sym c.self.view_is) p) (λ k. ap (λ b. told.Sent k c.args.to b) spelled) (λ k. bare-fair s k c.args.to c.args.bytes.items d (subst IsBytes c.as_slice.ensures.value c.are_bytes.ensures) spelled bare) c.now.ensures.moment c.send_bytes.ensures
