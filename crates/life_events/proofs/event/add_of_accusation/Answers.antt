use Rattle.std.proofs.Common.{rules, ◌≡◌, length, take}
use Rattle.life_events.proofs.TextLemmas.{begins_on, begins_so}
use Rattle.life_events.proofs.event.add_of_accusation.Goals as goal

pub returns-in_err-add_accusation-clause-refused :
    goal.returns-in_err-add_accusation-clause-refused
returns-in_err-add_accusation-clause-refused c =
    let held : take (length c.args.out.now.items) c.write_bytes.new.out.items ≡ c.args.out.now.items = search (rules, begins_so) in
    let kept : take (length c.args.out.now.items) c.add_accusation.new.out.items ≡ c.args.out.now.items = begins_on _ c.write_bytes.new.out.items _ held (search rules) in
    search (rules, kept)
