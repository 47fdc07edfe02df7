use Rattle.std.proofs.Common.{subst, sym}
use Rattle.audit_node.specs.Playing.{Kept, Plays, Grows}
use Rattle.audit_node.specs.contracts.Mirror.{the_view}
use Rattle.audit_node.proofs.ExchangeLemmas.{page-at}
use Rattle.datagram.specs.declared.Datagram.{Datagram}
use Rattle.datagram.specs.declared.Datagram.TheVariants as kinds
use Rattle.node_rules.specs.Pages.{page}
use Rattle.node_rules.specs.Calls.{sends}
use Rattle.audit_node.proofs.PlayLemmas.{plays-refused}
use Rattle.audit_node.proofs.Mirror.send_page.Goals as goal

pub returns-in-Ok-clause-plays : goal.returns-in-Ok-clause-plays
returns-in-Ok-clause-plays c = λ s es call p.
    let v : Kept = the_view c.self.inside in
    let p0 = subst (λ v. Plays s es v call) (sym c.self.view_is) p in
    page-at s es v c.send.new.self call c.args.to c.args.flag c.args.page c.in-Ok.bytes.items p0 (subst (λ (w : Kept). Grows w c.send.new.self) (sym c.self.view_is) c.send.ensures.grows) c.in-Ok.ensures
    (λ d e bare. c.send.ensures.plays s es call d p e bare)

pub returns-in-Err-clause-plays : goal.returns-in-Err-clause-plays
returns-in-Err-clause-plays c = λ s es call p.
    let d : Datagram = kinds.Summary s.me c.args.flag (page call.node c.args.page) in
    plays-refused s es (the_view c.self.inside) _ (sends s d call c.args.to) c.fail.ensures

pub page_bytes-requires-clause-noted : goal.page_bytes-requires-clause-noted
page_bytes-requires-clause-noted c = c.self.invariant.notes.noted
