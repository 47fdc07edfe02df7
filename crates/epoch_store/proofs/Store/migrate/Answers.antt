use Rattle.std.proofs.Common.{◌≡◌, Some, ap, refl}
use Rattle.epoch_store.specs.declared.entry.Entry.{Entry}
use Rattle.epoch_store.specs.declared.Stored.{Stored}
use Rattle.epoch_store.specs.Calls.{StoreState}
use Rattle.epoch_store.specs.Seat.{behind}
use Rattle.epoch_store.specs.Store.{entry_with, migrated}
use Rattle.epoch_store.proofs.PutLemmas.{told_leaves, told_settled}
use Rattle.epoch_store.proofs.Store.migrate.Goals as goal

pub returns-clause-settled : goal.returns-clause-settled
returns-clause-settled g c =
    let state : c.self.inside.state ≡ c.args.self.now.state = ap (λ (s : StoreState). s.state) c.self.view_is in
    let moved : Stored → Entry = λ kept. entry_with (Some c.args.tag.now) (migrated kept c.args.mask) in
    told_settled c.put_entry.result c.args.self.now.state c.args.self.now.seat (moved c.self.inside.state) (moved c.args.self.now.state) (λ before. c.args.tag.now) (g.D.Disk.state c.args.disk.now).moments (g.D.Disk.state c.put_entry.new.disk).moments
    (ap moved state) (λ before same. refl) c.put_entry.ensures.settled

pub returns-clause-leaves : goal.returns-clause-leaves
returns-clause-leaves g c =
    let moved : Entry = entry_with (Some c.args.tag.now) (migrated c.args.self.now.state c.args.mask) in
    told_leaves c.put_entry.result c.args.self.now.state moved.kept c.args.self.now.seat (behind c.args.self.now.seat moved) (λ before. c.args.tag.now) (g.D.Disk.state c.args.disk.now).moments (g.D.Disk.state c.put_entry.new.disk).moments
    (returns-clause-settled g c)
