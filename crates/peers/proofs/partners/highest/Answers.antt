use Rattle.peers.proofs.RangeLemmas.{last-more}
use Rattle.peers.proofs.partners.highest.Goals as goal

pub loop-member-preserved : goal.loop-member-preserved
loop-member-preserved c = last-more c.args.numbers.now c.loop-member.member-index c.member-item.result c.loop-member-test.true c.member-item.is
