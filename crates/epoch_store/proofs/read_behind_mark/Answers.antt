use Rattle.std.proofs.lemmas.List.{length-take-le, take_all}
use Rattle.epoch_store.specs.Calls.{Judges}
use Rattle.std.proofs.Common.{◌≡◌, ◌+◌, ◌++◌, ◌≤◌, ◌<◌, ℕ, List, subst, length, arith, refl, take, ap, sym}
use Rattle.epoch_store.specs.Seat.{width}
use Rattle.epoch_store.proofs.ReadLemmas.{entry_moved, has_tail, tail_cut}
use Rattle.epoch_store.proofs.read_behind_mark.Goals as goal

pub returns-in-Err-clause-reads : goal.returns-in-Err-clause-reads
returns-in-Err-clause-reads g c =
    let moments = (g.D.Disk.state c.args.disk.now).moments in
    let size : length c.read_at.new.buf ≡ 40 = omega arith in
    let place : c.args.seat.gate + c.width.result ≡ c.args.seat.gate + width c.args.seat = ap (λ n. c.args.seat.gate + n) c.width.ensures.value in
    let tail = has_tail moments c.args.seat c.read_at.new.buf (take c.in_ok-count.count c.read_at.new.buf) c.in_ok-count.count _ place refl size c.in_ok-count.ensures.value in
    let few : c.in_ok-count.count ≤ length c.read_at.new.buf = omega (arith, c.in_ok-count.ensures.fits) in
    let count : length (take c.in_ok-count.count c.read_at.new.buf) ≡ c.in_ok-count.count = length-take-le c.in_ok-count.count c.read_at.new.buf few in
    let short : length (take c.in_ok-count.count c.read_at.new.buf) < 40 = grind (arith, c.in-Err.ensures.short) in
    let place_is : c.args.seat.gate + c.width.result + c.in_ok-count.count ≡ c.args.seat.gate + width c.args.seat + length (take c.in_ok-count.count c.read_at.new.buf) = omega (arith, place, count) in
    tail_cut moments c.args.before c.args.seat c.args.numbers c.args.bytes.now (take c.in_ok-count.count c.read_at.new.buf) _ c.requires.part c.requires.fields c.requires.marked tail short place_is

pub returns-in-Ok-clause-reads : goal.returns-in-Ok-clause-reads
returns-in-Ok-clause-reads g c =
    let moments = (g.D.Disk.state c.args.disk.now).moments in
    let size : length c.read_at.new.buf ≡ 40 = omega arith in
    let place : c.args.seat.gate + c.width.result ≡ c.args.seat.gate + width c.args.seat = ap (λ n. c.args.seat.gate + n) c.width.ensures.value in
    let tail = has_tail moments c.args.seat c.read_at.new.buf (take c.in_ok-count.count c.read_at.new.buf) c.in_ok-count.count _ place refl size c.in_ok-count.ensures.value in
    let few : c.in_ok-count.count ≤ length c.read_at.new.buf = omega (arith, c.in_ok-count.ensures.fits) in
    let count : length (take c.in_ok-count.count c.read_at.new.buf) ≡ c.in_ok-count.count = length-take-le c.in_ok-count.count c.read_at.new.buf few in
    let enough : 40 ≤ c.in_ok-count.count = grind (arith, c.in-Ok.ensures.short, count) in
    let all : take c.in_ok-count.count c.read_at.new.buf ≡ c.read_at.new.buf = take_all c.in_ok-count.count c.read_at.new.buf (omega (arith, size, enough)) in
    let J : List ℕ → Type 0 = λ b. Judges c.args.seat c.args.before c.in-Ok.entry (c.args.bytes.now ++ b) c.judge.result in
    let judges = subst J (sym all) c.judge.ensures in
    entry_moved moments c.args.before c.args.seat c.args.numbers c.in-Ok.entry c.args.bytes.now (take c.in_ok-count.count c.read_at.new.buf) c.judge.result c.requires.part c.requires.fields c.requires.marked tail c.in-Ok.ensures.spelled judges
