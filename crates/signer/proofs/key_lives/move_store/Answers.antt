use Rattle.signer.proofs.PlayLemmas.{some-moved, some-opened}
use Rattle.signer.specs.Played.{told}
use Rattle.signer.proofs.key_lives.move_store.Goals as goal

pub returns-in_default : goal.returns-in_default
returns-in_default c = λ before spent ends. some-opened before spent (told c.args.disk.now) (told c.open.new.disk) ends c.in_default.ensures.any_moment

pub returns-then-state-lt-MOST : goal.returns-then-state-lt-MOST
returns-then-state-lt-MOST c = λ before spent ends.
    let mid = told c.open.new.disk in
    let store = c.in-Ok.ensures.store in
    some-moved c.args.tag.now c.args.other.now before spent c.in-Ok.store.state c.in-Ok.store.seat c.args.mask mid (told c.migrate.new.disk)
    (some-opened before spent (told c.args.disk.now) mid ends c.in-Ok.ensures.any_moment) store (c.migrate.ensures.any_moment c.args.tag.now store)

pub returns-else-state-lt-MOST : goal.returns-else-state-lt-MOST
returns-else-state-lt-MOST c = λ before spent ends. some-opened before spent (told c.args.disk.now) (told c.open.new.disk) ends c.in-Ok.ensures.any_moment
