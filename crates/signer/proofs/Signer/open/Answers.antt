use Rattle.std.proofs.Common.{false}
use Rattle.sign_keys.specs.Keys.{next_of, secret_of}
use Rattle.signer.proofs.LivingLemmas.{begins_life}
use Rattle.signer.proofs.Signer.open.Goals as goal

pub returns-clause-begins : goal.returns-clause-begins
returns-clause-begins c = λ tag before spent moments settled ends.
    begins_life tag before spent (record {
      group = c.args.group;
      key = secret_of c.skip_to.new.self;
      leaf = next_of c.skip_to.new.self;
      state = c.args.store.state;
      seat = c.args.store.seat;
      closed = false;
    }) moments settled ends
