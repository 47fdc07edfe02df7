use Rattle.std.proofs.Common.{◌≡◌, Ok, List, subst, sym, rules}
use Rattle.records.specs.declared.Record.{Record}
use Rattle.datagram.specs.declared.Datagram.TheVariants as kinds
use Rattle.datagram.specs.Spelling.{HasContent}
use Rattle.node_rules.specs.Deliveries.{handles_all, hears}
use Rattle.audit_node.specs.Playing.{Plays}
use Rattle.audit_node.proofs.Mirror.hear.Goals as goal

pub hear_summary-requires : goal.hear_summary-requires
hear_summary-requires c =
    let is : c.args.datagram ≡ kinds.Summary c.in-Summary.from c.in-Summary.flag c.in-Summary.summary = search rules in
    (subst HasContent is c.requires.content).page

pub returns-in-Ping-clause-plays : goal.returns-in-Ping-clause-plays
returns-in-Ping-clause-plays c = λ s es call p.
    let is : c.args.datagram ≡ kinds.Ping c.in-Ping.from c.in-Ping.nonce = search rules in
    subst (λ d. Plays s es c.hear_ping.new.self (hears s (Ok d) call)) (sym is) (c.hear_ping.ensures.plays s es call p)

pub returns-in-Pong-clause-plays : goal.returns-in-Pong-clause-plays
returns-in-Pong-clause-plays c = λ s es call p.
    let is : c.args.datagram ≡ kinds.Pong c.in-Pong.from c.in-Pong.nonce = search rules in
    subst (λ d. Plays s es c.hear_pong.new.self (hears s (Ok d) call)) (sym is) (c.hear_pong.ensures.plays s es call p)

pub returns-in-Summary-clause-plays : goal.returns-in-Summary-clause-plays
returns-in-Summary-clause-plays c = λ s es call p.
    let is : c.args.datagram ≡ kinds.Summary c.in-Summary.from c.in-Summary.flag c.in-Summary.summary = search rules in
    subst (λ d. Plays s es c.hear_summary.new.self (hears s (Ok d) call)) (sym is) (c.hear_summary.ensures.plays s es call p)

pub returns-in-Records-clause-plays : goal.returns-in-Records-clause-plays
returns-in-Records-clause-plays c = λ s es call p.
    let is : c.args.datagram ≡ kinds.Records c.in-Records.from c.in-Records.records = search rules in
    subst (λ d. Plays s es c.handle_all.new.self (hears s (Ok d) call)) (sym is)
    (subst (λ (xs : List Record). Plays s es c.handle_all.new.self (handles_all s xs call)) c.into_vec.ensures (c.handle_all.ensures.plays s es call p))
