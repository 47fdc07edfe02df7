use Rattle.std.proofs.Common.{◌≡◌, ◌∙◌, ◌<◌, ap, arith, subst}
use Rattle.sign_keys.specs.Keys.{index_count, secret_of}
use Rattle.authority.specs.Enrolling.{IsOpened}
use Rattle.authority.specs.Migrating.{count_of}
use Rattle.authority.specs.Settings.{key_of}
use Rattle.authority.proofs.MigratingLemmas.{behind-opening}
use Rattle.authority.proofs.migrating.open_and_move.Goals as goal

pub returns-clause-migrates : goal.returns-clause-migrates
returns-clause-migrates g c = λ source.
    let o = c.in-Ok.opened.store.state in
    let seat = c.in-Ok.opened.store.seat in
    let h = c.in-Ok.ensures.opens in
    let count : index_count (secret_of c.in-Ok.opened.key) ≡ count_of c.args.moving.now = ap index_count h.key.is ∙ ap (λ s. index_count (key_of s)) c.left.ensures in
    let within : o.next < count_of c.args.moving.now =
    let a = c.if-next-index_count.false in let b = c.index_count.ensures.value in let d = ap (λ s. s.next) c.state-next.ensures.value in omega (arith, a, b, count, d) in
    behind-opening c.args.name.now c.args.moving.now o seat _ _
    (g.D.Disk.state c.args.disk.now)
    (g.D.Disk.state c.open_store.new.disk)
    _ c.move_and_tell.result
    (subst (λ s. IsOpened c.args.name.now s o seat (g.D.Disk.state c.args.disk.now) (g.D.Disk.state c.open_store.new.disk)) c.left.ensures h.opened)
    within (c.move_and_tell.ensures.moves source)
