use Rattle.std.proofs.Common.{◌≡◌, ap}
use Rattle.epoch_store.specs.Calls.{StoreState}
use Rattle.epoch_store.specs.Seat.{entry_for, next_seat}
use Rattle.epoch_store.proofs.PutLemmas.{put_moves, told_leaves, told_moments, told_settled}
use Rattle.epoch_store.proofs.Store.put.Goals as goal

pub returns-clause-any_moment : goal.returns-clause-any_moment
returns-clause-any_moment g c = λ tag at.
    let seat : c.self.inside.seat ≡ c.args.self.now.seat = ap (λ (s : StoreState). s.seat) c.self.view_is in
    told_moments tag c.args.self.now.state c.args.self.now.seat c.entry_for-entry.result (entry_for c.args.self.now.seat c.args.next) (λ before. before) (g.D.Disk.state c.args.disk.now).moments (g.D.Disk.state c.put_entry.new.disk).moments
    (rw seat at c.entry_for-entry.ensures) (put_moves c.args.self.now.seat c.args.next) c.put_entry.ensures.any_moment at

pub returns-clause-settled : goal.returns-clause-settled
returns-clause-settled g c =
    let seat : c.self.inside.seat ≡ c.args.self.now.seat = ap (λ (s : StoreState). s.seat) c.self.view_is in
    told_settled c.put_entry.result c.args.self.now.state c.args.self.now.seat c.entry_for-entry.result (entry_for c.args.self.now.seat c.args.next) (λ before. before) (g.D.Disk.state c.args.disk.now).moments (g.D.Disk.state c.put_entry.new.disk).moments
    (rw seat at c.entry_for-entry.ensures) (put_moves c.args.self.now.seat c.args.next) c.put_entry.ensures.settled

pub returns-clause-leaves : goal.returns-clause-leaves
returns-clause-leaves g c =
    told_leaves c.put_entry.result c.args.self.now.state c.args.next c.args.self.now.seat (next_seat c.args.self.now.seat c.args.next) (λ before. before) (g.D.Disk.state c.args.disk.now).moments (g.D.Disk.state c.put_entry.new.disk).moments
    (returns-clause-settled g c)
