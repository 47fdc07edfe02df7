use Rattle.audit_node.proofs.ExchangeLemmas.{page-writable}
use Rattle.audit_node.proofs.exchange.page_bytes.Goals as goal

pub bytes_of-requires : goal.bytes_of-requires
bytes_of-requires c = page-writable c.args.from c.args.flag c.args.records.now c.args.page c.page.new.out c.page.ensures c.requires.page c.requires.noted
