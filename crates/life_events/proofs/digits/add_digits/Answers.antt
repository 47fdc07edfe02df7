use Rattle.std.proofs.Common.{rules, ◌≡◌, Result, Ok, Err, OnErr}
use Rattle.std.proofs.Math.Seq.{take-length}
use Rattle.life_events.proofs.digits.add_digits.Goals as goal

anyway : {X Y : Type 0} {P : Type 0} (r : Result X Y) → P → OnErr r P
anyway (Ok x) h = tt
anyway (Err e) h = h

pub returns-in_err-resize-clause-refused : goal.returns-in_err-resize-clause-refused
returns-in_err-resize-clause-refused c =
    let same : c.resize.new.self.items ≡ c.args.out.now.items = search rules in
    anyway c.from_residual.result (rw same (take-length c.args.out.now.items))
