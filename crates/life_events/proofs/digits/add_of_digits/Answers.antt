use Rattle.std.proofs.Common.{rules, ◌≡◌, length, take}
use Rattle.life_events.proofs.TextLemmas.{begins_on, begins_so}
use Rattle.life_events.proofs.digits.add_of_digits.Goals as goal

pub returns-in_err-add_digits-clause-refused :
    goal.returns-in_err-add_digits-clause-refused
returns-in_err-add_digits-clause-refused c =
    let held : take (length c.args.out.now.items) c.write_bytes.new.out.items ≡ c.args.out.now.items = search (rules, begins_so) in
    let kept : take (length c.args.out.now.items) c.add_digits.new.out.items ≡ c.args.out.now.items = begins_on _ c.write_bytes.new.out.items _ held (search rules) in
    search (rules, kept)
