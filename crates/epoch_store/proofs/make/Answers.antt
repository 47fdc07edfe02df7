use Rattle.std.proofs.Common.{◌≡◌, ◌≤◌, length, arith, ◌∙◌}
use Rattle.epoch_store.specs.Calls.{HasLength}
use Rattle.epoch_store.proofs.MakeLemmas.{opened_torn, measured, made_store}
use Rattle.ports.proofs.SinceLemmas.{Fails-torn}
use Rattle.std.proofs.Common.{ap, ◌∷◌, [], subst, List, ℕ}
use Rattle.std.proofs.lemmas.Result.{err_from_is_err_and}
use Rattle.ports.specs.DiskCalls.{ToOpen, ToMeasure, ToSync, ToWrite, with_call, AsFarAs}
use Rattle.epoch_store.proofs.CallLemmas.{not_opened, joined}
use Rattle.epoch_store.specs.Store.{first_entry}
use Rattle.epoch_store.proofs.make.Goals as goal

pub returns-in_err-open_file-clause-any_moment : goal.returns-in_err-open_file-clause-any_moment
returns-in_err-open_file-clause-any_moment g c =
    opened_torn 0 _ (g.D.Disk.state c.args.disk.now).moments (g.D.Disk.state c.open_file.new.disk).moments c.open_file.result c.open_file.ensures.opens

pub returns-in_err-len-clause-any_moment : goal.returns-in_err-len-clause-any_moment
returns-in_err-len-clause-any_moment g c =
    Fails-torn 0 _ (g.D.Disk.state c.args.disk.now).moments (g.D.Disk.state c.len.new.self).moments (rw c.in_ok-open_file.ensures.opens at c.in_err-len.ensures.stays)

pub returns-clause-store : goal.returns-clause-store
returns-clause-store g c =
    let size : length c.args.tag.now ≡ 32 = omega arith in
    let none : c.in_ok-len.len ≤ 0 = omega arith in
    let empty : HasLength (g.D.Disk.state c.len.new.self).moments 0 = rw c.in_ok-len.ensures.same (measured (g.D.Disk.state c.open_file.new.disk).moments c.in_ok-len.len c.in_ok-len.ensures.value none) in
    made_store c.args.tag.now c.as_slice.result.now c.args.mask (g.D.Disk.state c.len.new.self).moments (g.D.Disk.state c.write_synced.new.disk).moments size c.requires
    (c.as_slice.ensures.value ∙ c.made_bytes-bytes.ensures) empty c.in_ok-write_synced.ensures.stores

pub returns-in_err-open_file-clause-calls : goal.returns-in_err-open_file-clause-calls
returns-in_err-open_file-clause-calls g c =
    let p = err_from_is_err_and c.from_residual.result c.from_residual.ensures.1 in
    rw (p.1, p.2) (not_opened c.args.name.now c.args.tag.now (first_entry c.args.mask) c.in_err-open_file.field-0.0 (g.D.Disk.state c.args.disk.now).moments (g.D.Disk.state c.open_file.new.disk).moments _ _ c.in_err-open_file.ensures.opens c.open_file.ensures.called)

pub returns-in_err-len-clause-calls : goal.returns-in_err-len-clause-calls
returns-in_err-len-clause-calls g c =
    let p = err_from_is_err_and c.from_residual-in_err-len.result c.from_residual-in_err-len.ensures.1 in
    rw (p.1, p.2) (record { left_out = 2; made = c.len.ensures.called ∙ ap (with_call ToMeasure) c.open_file.ensures.called })

pub returns-in_err-write_synced-clause-calls : goal.returns-in_err-write_synced-clause-calls
returns-in_err-write_synced-clause-calls g c =
    let p = err_from_is_err_and c.from_residual-in_err-write_synced.result c.from_residual-in_err-write_synced.ensures.1 in
    let spelled = c.as_slice.ensures.value ∙ c.made_bytes-bytes.ensures in
    let P : List ℕ → Type 0 = λ bytes. AsFarAs (ToSync ∷ ToWrite 0 bytes ∷ ToMeasure ∷ ToOpen c.args.name.now ∷ []) (g.D.Disk.state c.args.disk.now).calls (g.D.Disk.state c.write_synced.new.disk).calls in
    rw (p.1, p.2) (subst P spelled (joined (ToSync ∷ ToWrite 0 c.as_slice.result.now ∷ []) (ToMeasure ∷ ToOpen c.args.name.now ∷ []) (g.D.Disk.state c.args.disk.now).calls (g.D.Disk.state c.len.new.self).calls (g.D.Disk.state c.write_synced.new.disk).calls
    (c.len.ensures.called ∙ ap (with_call ToMeasure) c.open_file.ensures.called) c.in_err-write_synced.ensures.calls))
