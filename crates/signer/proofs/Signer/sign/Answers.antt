use Rattle.signer.proofs.StepLemmas.{top_of}
use Rattle.signer.proofs.LivingLemmas.{lives_on, any_life}
use Rattle.signer.proofs.Signer.sign.Goals as goal

pub returns : goal.returns
returns g c =
    let done = c.sign_body.ensures in
    let older = (g.D.Disk.state c.args.disk.now).moments in
    let newer = (g.D.Disk.state c.sign_body.new.disk).moments in
    record {
      faults = done.faults;
      answers = done.answers;
      signed = done.signed;
      top = top_of c.args.self.now c.args.body c.sign_body.result done.answers done.signed;
      after = done.after;
      calls = done.calls;
      follows = done.follows;
      same = done.same;
      any_moment = done.any_moment;
      settled = done.settled;
      leaves = done.leaves;
      lives = λ tag before spent living.
          lives_on tag before spent c.args.self.now c.sign_body.new.self c.args.body c.sign_body.result older newer
          done.answers c.requires.next done.after done.any_moment done.settled done.same living;
      any_life = λ tag before spent living.
          any_life tag before spent c.args.self.now c.args.body c.sign_body.result older newer
          done.answers c.requires.next done.any_moment done.same living;
    }
