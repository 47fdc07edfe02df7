use Rattle.std.proofs.Common.{◌≡◌, true, false, sym, ◌∙◌, rules}
use Rattle.world.proofs.RefusalLemmas.{first-datagram, first-left, first-liar, first-name, first-node, first-running, first-stopped, last-first}
use Rattle.world.proofs.World.why_not.Goals as goal

pub returns-then-names_no_node-clause-value : goal.returns-then-names_no_node-clause-value
returns-then-names_no_node-clause-value c = λ s w told h.
    let is : c.names_no_node.result ≡ true = search rules in
    sym (first-node s w c.args.line.now (sym (c.names_no_node.ensures s w told h) ∙ is))

pub returns-then-names_no_liar-clause-value : goal.returns-then-names_no_liar-clause-value
returns-then-names_no_liar-clause-value c = λ s w told h.
    let row0 : c.names_no_node.result ≡ false = search rules in
    let is : c.names_no_liar.result ≡ true = search rules in
    sym (first-liar s w c.args.line.now (sym (c.names_no_node.ensures s w told h) ∙ row0) (sym (c.names_no_liar.ensures s w told h) ∙ is))

pub returns-then-names_no_record-clause-value : goal.returns-then-names_no_record-clause-value
returns-then-names_no_record-clause-value c = λ s w told h.
    let row0 : c.names_no_node.result ≡ false = search rules in
    let row1 : c.names_no_liar.result ≡ false = search rules in
    let is : c.names_no_record.result ≡ true = search rules in
    sym (first-name s w c.args.line.now (sym (c.names_no_node.ensures s w told h) ∙ row0) (sym (c.names_no_liar.ensures s w told h) ∙ row1) (sym (c.names_no_record.ensures s w told h) ∙ is))

pub returns-then-names_no_datagram-clause-value : goal.returns-then-names_no_datagram-clause-value
returns-then-names_no_datagram-clause-value c = λ s w told h.
    let row0 : c.names_no_node.result ≡ false = search rules in
    let row1 : c.names_no_liar.result ≡ false = search rules in
    let row2 : c.names_no_record.result ≡ false = search rules in
    let is : c.names_no_datagram.result ≡ true = search rules in
    sym (first-datagram s w c.args.line.now (sym (c.names_no_node.ensures s w told h) ∙ row0) (sym (c.names_no_liar.ensures s w told h) ∙ row1) (sym (c.names_no_record.ensures s w told h) ∙ row2) (sym (c.names_no_datagram.ensures s w told h) ∙ is))

pub returns-then-starts_running-clause-value : goal.returns-then-starts_running-clause-value
returns-then-starts_running-clause-value c = λ s w told h.
    let row0 : c.names_no_node.result ≡ false = search rules in
    let row1 : c.names_no_liar.result ≡ false = search rules in
    let row2 : c.names_no_record.result ≡ false = search rules in
    let row3 : c.names_no_datagram.result ≡ false = search rules in
    let is : c.starts_running.result ≡ true = search rules in
    sym (first-running s w c.args.line.now (sym (c.names_no_node.ensures s w told h) ∙ row0) (sym (c.names_no_liar.ensures s w told h) ∙ row1) (sym (c.names_no_record.ensures s w told h) ∙ row2) (sym (c.names_no_datagram.ensures s w told h) ∙ row3) (sym (c.starts_running.ensures s w told h) ∙ is))

pub returns-then-names_stopped-clause-value : goal.returns-then-names_stopped-clause-value
returns-then-names_stopped-clause-value c = λ s w told h.
    let row0 : c.names_no_node.result ≡ false = search rules in
    let row1 : c.names_no_liar.result ≡ false = search rules in
    let row2 : c.names_no_record.result ≡ false = search rules in
    let row3 : c.names_no_datagram.result ≡ false = search rules in
    let row4 : c.starts_running.result ≡ false = search rules in
    let is : c.names_stopped.result ≡ true = search rules in
    sym (first-stopped s w c.args.line.now (sym (c.names_no_node.ensures s w told h) ∙ row0) (sym (c.names_no_liar.ensures s w told h) ∙ row1) (sym (c.names_no_record.ensures s w told h) ∙ row2) (sym (c.names_no_datagram.ensures s w told h) ∙ row3) (sym (c.starts_running.ensures s w told h) ∙ row4) (sym (c.names_stopped.ensures s w told h) ∙ is))

pub returns-then-names_left-clause-value : goal.returns-then-names_left-clause-value
returns-then-names_left-clause-value c = λ s w told h.
    let row0 : c.names_no_node.result ≡ false = search rules in
    let row1 : c.names_no_liar.result ≡ false = search rules in
    let row2 : c.names_no_record.result ≡ false = search rules in
    let row3 : c.names_no_datagram.result ≡ false = search rules in
    let row4 : c.starts_running.result ≡ false = search rules in
    let row5 : c.names_stopped.result ≡ false = search rules in
    let is : c.names_left.result ≡ true = search rules in
    sym (first-left s w c.args.line.now (sym (c.names_no_node.ensures s w told h) ∙ row0) (sym (c.names_no_liar.ensures s w told h) ∙ row1) (sym (c.names_no_record.ensures s w told h) ∙ row2) (sym (c.names_no_datagram.ensures s w told h) ∙ row3) (sym (c.starts_running.ensures s w told h) ∙ row4) (sym (c.names_stopped.ensures s w told h) ∙ row5) (sym (c.names_left.ensures s w told h) ∙ is))

pub returns-clause-value : goal.returns-clause-value
returns-clause-value c = λ s w told h.
    let row0 : c.names_no_node.result ≡ false = search rules in
    let row1 : c.names_no_liar.result ≡ false = search rules in
    let row2 : c.names_no_record.result ≡ false = search rules in
    let row3 : c.names_no_datagram.result ≡ false = search rules in
    let row4 : c.starts_running.result ≡ false = search rules in
    let row5 : c.names_stopped.result ≡ false = search rules in
    let row6 : c.names_left.result ≡ false = search rules in
    c.why_not_signed.ensures.value s w told h (sym (c.names_no_liar.ensures s w told h) ∙ row1) ∙ sym (last-first s w c.args.line.now (sym (c.names_no_node.ensures s w told h) ∙ row0) (sym (c.names_no_liar.ensures s w told h) ∙ row1) (sym (c.names_no_record.ensures s w told h) ∙ row2) (sym (c.names_no_datagram.ensures s w told h) ∙ row3) (sym (c.starts_running.ensures s w told h) ∙ row4) (sym (c.names_stopped.ensures s w told h) ∙ row5) (sym (c.names_left.ensures s w told h) ∙ row6))
