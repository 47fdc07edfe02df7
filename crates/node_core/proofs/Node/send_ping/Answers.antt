use Rattle.std.proofs.Common.{subst, sym}
use Rattle.datagram.specs.declared.Datagram.TheVariants as kinds
use Rattle.datagram.proofs.Sizes.{ping_writable}
use Rattle.node_core.specs.Playing.{Kept, Plays, Grows}
use Rattle.node_core.specs.contracts.Node.{the_view}
use Rattle.node_core.proofs.HearLemmas.{own-datagram}
use Rattle.node_rules.specs.Calls.{sends}
use Rattle.node_core.proofs.ExtendLemmas.{extends-sends}
use Rattle.node_core.proofs.DueLemmas.{plays-refused}
use Rattle.node_core.proofs.Node.send_ping.Goals as goal

pub bytes_of-requires : goal.bytes_of-requires
bytes_of-requires c = ping_writable c.self.inside.me c.args.nonce

pub returns-in-Ok-clause-plays : goal.returns-in-Ok-clause-plays
returns-in-Ok-clause-plays c = λ s es os call p.
    let v : Kept = the_view c.self.inside in
    let p0 = subst (λ v. Plays s es os v call) (sym c.self.view_is) p in
    own-datagram s es os v c.send.new.self call c.args.to (λ m. kinds.Ping m c.args.nonce) p0 (subst (λ (w : Kept). Grows w c.send.new.self) (sym c.self.view_is) c.send.ensures.grows)
    (c.send.ensures.plays s es os call (kinds.Ping c.self.inside.me c.args.nonce) p c.in-Ok.ensures)

pub returns-clause-plays : goal.returns-clause-plays
returns-clause-plays c = λ s es os call p.
    plays-refused s es os (the_view c.self.inside) _ call (sends s (kinds.Ping s.me c.args.nonce) call c.args.to) c.fail.ensures (subst (λ v. Plays s es os v call) (sym c.self.view_is) p) (extends-sends s (kinds.Ping s.me c.args.nonce) call c.args.to)
