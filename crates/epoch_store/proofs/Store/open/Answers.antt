use Rattle.epoch_store.proofs.OpenLemmas.{calls_same, gates_after, gates_same, not_opened_to_read, opened_to_read, opens_before, read_after, settled_store, settles_on, settles_same, unopened_to_read, unsynced_to_read}
use Rattle.epoch_store.proofs.MakeLemmas.{opened_stays}
use Rattle.ports.proofs.SinceLemmas.{Fails-trans, Settles-fails}
use Rattle.std.proofs.Common.{[], ◌∷◌, ap, ◌∙◌, false}
use Rattle.std.proofs.lemmas.Result.{err_from_is_err_and}
use Rattle.ports.specs.DiskCalls.{ToOpen, ToRead, ToSync, with_call}
use Rattle.ports.proofs.RunLemmas.{then_runs}
use Rattle.epoch_store.proofs.Store.open.Goals as goal

pub returns-clause-reads : goal.returns-clause-reads
returns-clause-reads g c =
    let settles = rw c.in_ok-open_file.ensures.opens at (settles_same (g.D.Disk.state c.open_file.new.disk).moments (g.D.Disk.state c.sync.new.self).moments c.in_ok-sync.ensures.settles) in
    opens_before c.args.tag.now (g.D.Disk.state c.args.disk.now).moments (g.D.Disk.state c.sync.new.self).moments c.read_store.result settles c.read_store.ensures.reads

pub returns-clause-store : goal.returns-clause-store
returns-clause-store g c =
    let settles = rw c.in_ok-open_file.ensures.opens at (settles_same (g.D.Disk.state c.open_file.new.disk).moments (g.D.Disk.state c.sync.new.self).moments c.in_ok-sync.ensures.settles) in
    settled_store c.args.tag.now (g.D.Disk.state c.args.disk.now).moments (g.D.Disk.state c.sync.new.self).moments (g.D.Disk.state c.read_store.new.disk).moments c.read_store.result settles c.read_store.ensures.store c.read_store.ensures.same

pub returns-clause-settles : goal.returns-clause-settles
returns-clause-settles g c =
    let settles = rw c.in_ok-open_file.ensures.opens at (settles_same (g.D.Disk.state c.open_file.new.disk).moments (g.D.Disk.state c.sync.new.self).moments c.in_ok-sync.ensures.settles) in
    settles_on (g.D.Disk.state c.args.disk.now).moments (g.D.Disk.state c.sync.new.self).moments (g.D.Disk.state c.read_store.new.disk).moments c.read_store.result settles c.read_store.ensures.same

pub returns-clause-any_moment : goal.returns-clause-any_moment
returns-clause-any_moment g c =
    let first = (g.D.Disk.state c.args.disk.now).moments in
    let opened = (g.D.Disk.state c.open_file.new.disk).moments in
    let synced = (g.D.Disk.state c.sync.new.self).moments in
    let last = (g.D.Disk.state c.read_store.new.disk).moments in
    Fails-trans first opened last (opened_stays first opened c.open_file.result c.open_file.ensures.opens)
    (Fails-trans opened synced last (Settles-fails opened synced (g.met.D.Disk.image_left c.open_file.new.disk) c.in_ok-sync.ensures.settles) c.read_store.ensures.stays)

pub returns-in_err-open_file-clause-calls : goal.returns-in_err-open_file-clause-calls
returns-in_err-open_file-clause-calls g c =
    let p = err_from_is_err_and c.from_residual.result c.from_residual.ensures.1 in
    rw (p.1, p.2) (not_opened_to_read c.args.name.now c.in_err-open_file.field-0.0 (g.D.Disk.state c.args.disk.now).moments (g.D.Disk.state c.args.disk.now).moments (g.D.Disk.state c.open_file.new.disk).moments _ _ c.in_err-open_file.ensures.opens c.open_file.ensures.called)

pub returns-clause-calls : goal.returns-clause-calls
returns-clause-calls g c =
    let settles = rw c.in_ok-open_file.ensures.opens at (settles_same (g.D.Disk.state c.open_file.new.disk).moments (g.D.Disk.state c.sync.new.self).moments c.in_ok-sync.ensures.settles) in
    opened_to_read c.args.name.now (g.D.Disk.state c.args.disk.now).moments c.read_store.result _ _ (calls_same (ToRead 0 40 ∷ ToSync ∷ ToOpen c.args.name.now ∷ []) (g.D.Disk.state c.args.disk.now).moments (g.D.Disk.state c.sync.new.self).moments c.read_store.result (g.D.Disk.state c.args.disk.now).calls (g.D.Disk.state c.read_store.new.disk).calls settles
    (read_after (ToRead 0 40 ∷ []) (ToSync ∷ ToOpen c.args.name.now ∷ []) (g.D.Disk.state c.sync.new.self).moments c.read_store.result (g.D.Disk.state c.args.disk.now).calls (g.D.Disk.state c.sync.new.self).calls (g.D.Disk.state c.read_store.new.disk).calls
    (c.sync.ensures.called ∙ ap (with_call ToSync) c.open_file.ensures.called) c.read_store.ensures.calls))

pub returns-in_err-open_file-clause-follows : goal.returns-in_err-open_file-clause-follows
returns-in_err-open_file-clause-follows g c =
    let p = err_from_is_err_and c.from_residual.result c.from_residual.ensures.1 in
    rw (p.1, p.2) (unopened_to_read c.args.name.now (g.D.Disk.state c.args.disk.now).moments c.in_err-open_file.field-0.0 _ _ c.in_err-open_file.ensures.follows)

pub returns-in_err-sync-clause-follows : goal.returns-in_err-sync-clause-follows
returns-in_err-sync-clause-follows g c =
    let p = err_from_is_err_and c.from_residual-in_err-sync.result c.from_residual-in_err-sync.ensures.1 in
    rw (p.1, p.2) (unsynced_to_read c.args.name.now (g.D.Disk.state c.args.disk.now).moments (g.D.Disk.state c.args.disk.now).model (g.D.Disk.state c.open_file.new.disk).model (g.D.Disk.state c.sync.new.self).model c.in_ok-open_file.ensures.follows c.in_err-sync.ensures.follows)

pub returns-clause-follows : goal.returns-clause-follows
returns-clause-follows g c =
    let settles = rw c.in_ok-open_file.ensures.opens at (settles_same (g.D.Disk.state c.open_file.new.disk).moments (g.D.Disk.state c.sync.new.self).moments c.in_ok-sync.ensures.settles) in
    let first = (g.D.Disk.state c.args.disk.now).model in
    let opened = (g.D.Disk.state c.open_file.new.disk).model in
    let synced = (g.D.Disk.state c.sync.new.self).model in
    gates_same (ToRead 0 40 ∷ ToSync ∷ ToOpen c.args.name.now ∷ []) (g.D.Disk.state c.args.disk.now).moments (g.D.Disk.state c.sync.new.self).moments c.read_store.result first (g.D.Disk.state c.read_store.new.disk).model settles
    (gates_after (ToRead 0 40 ∷ []) (ToSync ∷ ToOpen c.args.name.now ∷ []) (g.D.Disk.state c.sync.new.self).moments c.read_store.result first synced (g.D.Disk.state c.read_store.new.disk).model
    (then_runs (ToSync ∷ []) (ToOpen c.args.name.now ∷ []) first opened synced false c.in_ok-open_file.ensures.follows c.in_ok-sync.ensures.follows) c.read_store.ensures.follows)
