use Rattle.std.proofs.Common.{◌≡◌, ◌<◌, ◌+◌, ◌++◌, take, drop, length, arith, rules}
use Rattle.std.proofs.lemmas.Bool.Decides.{nat_tests}
use Rattle.ports.proofs.ByteLemmas.{wrote_over}
use Rattle.ports.proofs.memory_disk.write_over.Goals as goal

pub returns-clause-items : goal.returns-clause-items
returns-clause-items c =
    let some : 0 < length c.args.bytes.now = grind (arith, nat_tests, c.if-is_empty.false, c.is_empty.ensures) in
    let whole : c.lengthen.new.bytes.len ≡ length c.lengthen.new.bytes.items = search rules in
    let copied : c.copy_to.new.image ≡ take c.args.place c.lengthen.new.bytes.items ++ c.args.bytes.now ++ drop (c.args.place + length c.args.bytes.now) c.lengthen.new.bytes.items =
    rw (← c.deref_mut.ensures.value) c.copy_to.ensures in
    wrote_over c.args.place _ c.args.bytes.now c.args.image.now.items _ _ some c.lengthen.ensures.items copied whole
