use Rattle.std.proofs.Common.{◌≡◌, ◌∙◌, ◌<◌, ◌≤◌, ℕ, false, Err, ap, arith, subst, sym}
use Rattle.sign_keys.specs.Keys.{index_count}
use Rattle.authority.specs.Settings.{asked_in, key_of}
use Rattle.authority.specs.declared.halt.Halt.TheVariants as halt
use Rattle.authority.specs.Enrolling.{EnrolsBehind}
use Rattle.play.specs.Plays.{io}
use Rattle.authority.proofs.EnrolLemmas.{begun, gone-asked, gone-unasked, signed-behind}
use Rattle.authority.proofs.enrolling.open_and_sign.Goals as goal

pub returns-then-is_asked-clause-enrols : goal.returns-then-is_asked-clause-enrols
returns-then-is_asked-clause-enrols g c = λ source.
    let o = c.in-Ok.opened.store.state in
    let next : o.next ≡ c.state-next.result.next = sym (ap (λ s. s.next) c.state-next.ensures.value) in
    let count = ap index_count c.in-Ok.ensures.opens.key.is in
    let gone : index_count (key_of c.args.setting.now) < o.next = let a = c.if-next-index_count.true in let b = c.index_count.ensures.value in omega (arith, a, b, count, next) in
    subst (λ (n : ℕ). EnrolsBehind c.args.name.now c.args.setting.now (asked_in c.args.lines.items) (io source (g.O.Sink.state c.args.out.now)) (io source (g.O.Sink.state c.args.out.now))
    (g.D.Disk.state c.args.disk.now)
    (g.D.Disk.state c.open_store.new.disk)
    (Err (halt.Exhausted n))) next
    (gone-asked c.args.name.now c.args.setting.now o c.in-Ok.opened.store.seat (asked_in c.args.lines.items) (io source (g.O.Sink.state c.args.out.now))
    (g.D.Disk.state c.args.disk.now)
    (g.D.Disk.state c.open_store.new.disk)
    gone c.in-Ok.ensures.opens.opened (sym c.is_asked.ensures ∙ c.if-is_asked.true))

pub returns-then-next-index_count-clause-enrols : goal.returns-then-next-index_count-clause-enrols
returns-then-next-index_count-clause-enrols g c = λ source.
    gone-unasked c.args.name.now c.args.setting.now c.in-Ok.opened.store.state c.in-Ok.opened.store.seat (asked_in c.args.lines.items) (io source (g.O.Sink.state c.args.out.now))
    (g.D.Disk.state c.args.disk.now)
    (g.D.Disk.state c.open_store.new.disk)
    c.in-Ok.ensures.opens.opened (sym c.is_asked.ensures ∙ c.if-is_asked.false)

pub returns-clause-enrols : goal.returns-clause-enrols
returns-clause-enrols g c = λ source.
    let o = c.in-Ok.opened.store.state in
    let seat = c.in-Ok.opened.store.seat in
    let h = c.in-Ok.ensures.opens in
    let is : c.open-signer.result ≡ begun c.args.setting.now o seat =
    c.open-signer.ensures.value ∙ ap (λ k. record { group = c.args.setting.now.group; key = k; leaf = o.next; state = o; seat = seat; closed = false }) h.key.is in
    let count = ap index_count h.key.is in
    let few : o.next ≤ index_count (key_of c.args.setting.now) =
    let a = c.if-next-index_count.false in let b = c.index_count.ensures.value in let d = ap (λ s. s.next) c.state-next.ensures.value in omega (arith, a, b, count, d) in
    signed-behind c.args.name.now c.args.setting.now o seat c.open-signer.result (asked_in c.args.lines.items) _ _
    (g.D.Disk.state c.args.disk.now)
    (g.D.Disk.state c.open_store.new.disk)
    _ c.sign_all.result is few h.opened (c.sign_all.ensures.signs source)
