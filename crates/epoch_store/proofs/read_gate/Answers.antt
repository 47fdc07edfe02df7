use Rattle.std.proofs.Common.{◌≡◌, ◌≢◌, ◌+◌, ◌<◌, ◌≤◌, ℕ, false, List, [], ◌∷◌, length, arith, refl, take, drop, replicate, ◌∙◌, ap, sym}
use Rattle.std.proofs.lemmas.Result.{err_from_is_err_and}
use Rattle.std.proofs.lemmas.List.{length-take-le, take-append-le}
use Rattle.std.specs.Prelude.{◌++◌}
use Rattle.epoch_store.specs.Seat.{width}
use Rattle.epoch_store.specs.Store.{mark}
use Rattle.ports.specs.DiskCalls.{ToRead, with_call}
use Rattle.ports.specs.DiskSteps.{runs_on}
use Rattle.epoch_store.proofs.MarkLemmas.{cut_unmarked, first_read_came, first_read_fails, kept_no_mark, shut_unmarked}
use Rattle.epoch_store.proofs.ReadLemmas.{entry_kept, gate_cut, gate_none, gate_shut, has_bytes, marked_there, part_length, width_some}
use Rattle.epoch_store.proofs.GateLemmas.{behind_mark_calls, behind_mark_follows, kept_calls, kept_follows}
use Rattle.epoch_store.proofs.read_gate.Goals as goal

pub returns-in-Cut-clause-reads : goal.returns-in-Cut-clause-reads
returns-in-Cut-clause-reads g c =
    let moments = (g.D.Disk.state c.args.disk.now).moments in
    let filled = c.read_at.new.buf in
    let n = c.in_ok-count.count in
    let size : length filled ≡ width c.args.seat = omega (arith, c.width.ensures.value, length-take-le {A = ℕ} c.width.result (replicate 21 0) c.width.ensures.few) in
    let few : n ≤ length filled = omega (arith, c.in_ok-count.ensures.fits) in
    let part = has_bytes moments c.args.seat filled _ n (take-append-le n filled _ few) size c.in_ok-count.ensures.value in
    gate_cut moments c.args.before c.args.seat _ _ part c.in-Cut.ensures (ap (λ k. c.args.seat.gate + k) (sym (part_length n filled _ few)))

pub returns-in-None-clause-reads : goal.returns-in-None-clause-reads
returns-in-None-clause-reads g c =
    let moments = (g.D.Disk.state c.args.disk.now).moments in
    let filled = c.read_at.new.buf in
    let n = c.in_ok-count.count in
    let size : length filled ≡ width c.args.seat = omega (arith, c.width.ensures.value, length-take-le {A = ℕ} c.width.result (replicate 21 0) c.width.ensures.few) in
    let few : n ≤ length filled = omega (arith, c.in_ok-count.ensures.fits) in
    let part = has_bytes moments c.args.seat filled _ n (take-append-le n filled _ few) size c.in_ok-count.ensures.value in
    gate_none moments c.args.before c.args.seat _ c.byte_at.result part c.in-Shut.ensures c.in-None.is c.byte_at.ensures

pub returns-in-Some-clause-reads : goal.returns-in-Some-clause-reads
returns-in-Some-clause-reads g c =
    let moments = (g.D.Disk.state c.args.disk.now).moments in
    let filled = c.read_at.new.buf in
    let n = c.in_ok-count.count in
    let size : length filled ≡ width c.args.seat = omega (arith, c.width.ensures.value, length-take-le {A = ℕ} c.width.result (replicate 21 0) c.width.ensures.few) in
    let few : n ≤ length filled = omega (arith, c.in_ok-count.ensures.fits) in
    let part = has_bytes moments c.args.seat filled _ n (take-append-le n filled _ few) size c.in_ok-count.ensures.value in
    gate_shut moments c.args.before c.args.seat _ c.in-Some.state part c.in-Shut.ensures c.in-Some.is

pub returns-in-Fields-clause-calls : goal.returns-in-Fields-clause-calls
returns-in-Fields-clause-calls g c =
    let moments = (g.D.Disk.state c.args.disk.now).moments in
    let filled = c.read_at.new.buf in
    let n = c.in_ok-count.count in
    let room : length (take c.width.result (replicate {A = ℕ} 21 0)) ≡ width c.args.seat = length-take-le {A = ℕ} c.width.result (replicate 21 0) c.width.ensures.few ∙ c.width.ensures.value in
    let size : length filled ≡ width c.args.seat = omega (arith, room) in
    let few : n ≤ length filled = omega (arith, c.in_ok-count.ensures.fits) in
    let part = has_bytes moments c.args.seat filled _ n (take-append-le n filled _ few) size c.in_ok-count.ensures.value in
    let marked : c.in-Fields.numbers.mask.0 ≡ mark c.args.seat.wide = c.if-numbers-mark.true ∙ c.mark.ensures in
    let old = (g.D.Disk.state c.args.disk.now).calls in
    let first = c.read_at.ensures.called ∙ ap (λ k. with_call (ToRead c.args.seat.gate k) old) room in
    behind_mark_calls c.args.seat moments c.read_behind_mark.result old _ _ c.read_behind_mark.ensures.near (marked_there moments c.args.seat c.in-Fields.numbers _ part c.in-Fields.ensures marked) first c.read_behind_mark.ensures.called

pub returns-in-Fields-clause-follows : goal.returns-in-Fields-clause-follows
returns-in-Fields-clause-follows g c =
    let moments = (g.D.Disk.state c.args.disk.now).moments in
    let filled = c.read_at.new.buf in
    let n = c.in_ok-count.count in
    let room : length (take c.width.result (replicate {A = ℕ} 21 0)) ≡ width c.args.seat = length-take-le {A = ℕ} c.width.result (replicate 21 0) c.width.ensures.few ∙ c.width.ensures.value in
    let size : length filled ≡ width c.args.seat = omega (arith, room) in
    let few : n ≤ length filled = omega (arith, c.in_ok-count.ensures.fits) in
    let part = has_bytes moments c.args.seat filled _ n (take-append-le n filled _ few) size c.in_ok-count.ensures.value in
    let marked : c.in-Fields.numbers.mask.0 ≡ mark c.args.seat.wide = c.if-numbers-mark.true ∙ c.mark.ensures in
    let old = (g.D.Disk.state c.args.disk.now).model in
    let first = c.in_ok-count.ensures.follows ∙ ap (λ k. runs_on (ToRead c.args.seat.gate k ∷ []) old) room in
    behind_mark_follows c.args.seat moments c.read_behind_mark.result old _ _ c.read_behind_mark.ensures.near (marked_there moments c.args.seat c.in-Fields.numbers _ part c.in-Fields.ensures marked) first c.read_behind_mark.ensures.follows

pub returns-in-Fields-2-clause-calls : goal.returns-in-Fields-2-clause-calls
returns-in-Fields-2-clause-calls g c =
    let moments = (g.D.Disk.state c.args.disk.now).moments in
    let filled = c.read_at.new.buf in
    let n = c.in_ok-count.count in
    let room : length (take c.width.result (replicate {A = ℕ} 21 0)) ≡ width c.args.seat = length-take-le {A = ℕ} c.width.result (replicate 21 0) c.width.ensures.few ∙ c.width.ensures.value in
    let old = (g.D.Disk.state c.args.disk.now).calls in
    let first = c.read_at.ensures.called ∙ ap (λ k. with_call (ToRead c.args.seat.gate k) old) room in
    let size : length filled ≡ width c.args.seat = omega (arith, room) in
    let few : n ≤ length filled = omega (arith, c.in_ok-count.ensures.fits) in
    let bytes : List ℕ = take n (filled ++ drop c.width.result (replicate {A = ℕ} 21 0)) in
    let part = has_bytes moments c.args.seat filled bytes n (take-append-le n filled _ few) size c.in_ok-count.ensures.value in
    let other : c.in-Fields.numbers.mask.0 ≢ mark c.args.seat.wide = λ marked. c.if-numbers-mark.false (marked ∙ sym c.mark.ensures) in
    kept_calls c.args.seat moments c.args.before _ (bytes ++ []) c.judge.result old _ refl (kept_no_mark moments c.args.seat bytes c.in-Fields.numbers part c.in-Fields.ensures other) c.judge.ensures first

pub returns-in-Fields-2-clause-follows : goal.returns-in-Fields-2-clause-follows
returns-in-Fields-2-clause-follows g c =
    let moments = (g.D.Disk.state c.args.disk.now).moments in
    let filled = c.read_at.new.buf in
    let n = c.in_ok-count.count in
    let room : length (take c.width.result (replicate {A = ℕ} 21 0)) ≡ width c.args.seat = length-take-le {A = ℕ} c.width.result (replicate 21 0) c.width.ensures.few ∙ c.width.ensures.value in
    let old = (g.D.Disk.state c.args.disk.now).model in
    let first = c.in_ok-count.ensures.follows ∙ ap (λ k. runs_on (ToRead c.args.seat.gate k ∷ []) old) room in
    let size : length filled ≡ width c.args.seat = omega (arith, room) in
    let few : n ≤ length filled = omega (arith, c.in_ok-count.ensures.fits) in
    let bytes : List ℕ = take n (filled ++ drop c.width.result (replicate {A = ℕ} 21 0)) in
    let part = has_bytes moments c.args.seat filled bytes n (take-append-le n filled _ few) size c.in_ok-count.ensures.value in
    let other : c.in-Fields.numbers.mask.0 ≢ mark c.args.seat.wide = λ marked. c.if-numbers-mark.false (marked ∙ sym c.mark.ensures) in
    kept_follows c.args.seat moments c.args.before _ (bytes ++ []) c.judge.result old _ refl (kept_no_mark moments c.args.seat bytes c.in-Fields.numbers part c.in-Fields.ensures other) c.judge.ensures first

pub returns-in-Fields-2-clause-reads : goal.returns-in-Fields-2-clause-reads
returns-in-Fields-2-clause-reads g c =
    let moments = (g.D.Disk.state c.args.disk.now).moments in
    let filled = c.read_at.new.buf in
    let n = c.in_ok-count.count in
    let room : length (take c.width.result (replicate {A = ℕ} 21 0)) ≡ width c.args.seat = length-take-le {A = ℕ} c.width.result (replicate 21 0) c.width.ensures.few ∙ c.width.ensures.value in
    let size : length filled ≡ width c.args.seat = omega (arith, room) in
    let few : n ≤ length filled = omega (arith, c.in_ok-count.ensures.fits) in
    let part = has_bytes moments c.args.seat filled _ n (take-append-le n filled _ few) size c.in_ok-count.ensures.value in
    let other : c.in-Fields.numbers.mask.0 ≢ mark c.args.seat.wide = λ marked. c.if-numbers-mark.false (marked ∙ sym c.mark.ensures) in
    entry_kept moments c.args.before c.args.seat c.in-Fields.numbers _ _ c.judge.result part c.in-Fields.ensures other refl c.judge.ensures

pub returns-in-Cut-clause-calls : goal.returns-in-Cut-clause-calls
returns-in-Cut-clause-calls g c =
    let moments = (g.D.Disk.state c.args.disk.now).moments in
    let filled = c.read_at.new.buf in
    let n = c.in_ok-count.count in
    let room : length (take c.width.result (replicate {A = ℕ} 21 0)) ≡ width c.args.seat = length-take-le {A = ℕ} c.width.result (replicate 21 0) c.width.ensures.few ∙ c.width.ensures.value in
    let size : length filled ≡ width c.args.seat = omega (arith, room) in
    let few : n ≤ length filled = omega (arith, c.in_ok-count.ensures.fits) in
    let bytes : List ℕ = take n (filled ++ drop c.width.result (replicate {A = ℕ} 21 0)) in
    let part = has_bytes moments c.args.seat filled bytes n (take-append-le n filled _ few) size c.in_ok-count.ensures.value in
    let old = (g.D.Disk.state c.args.disk.now).calls in
    let first = c.read_at.ensures.called ∙ ap (λ k. with_call (ToRead c.args.seat.gate k) old) room in
    let short : n < width c.args.seat = omega (arith, c.in-Cut.ensures.1, part_length n filled (drop c.width.result (replicate {A = ℕ} 21 0)) few) in
    (false, cut_unmarked moments c.args.seat bytes part c.in-Cut.ensures.1, omega arith, omega (arith, short), first)

pub returns-in-None-clause-calls : goal.returns-in-None-clause-calls
returns-in-None-clause-calls g c =
    let moments = (g.D.Disk.state c.args.disk.now).moments in
    let filled = c.read_at.new.buf in
    let n = c.in_ok-count.count in
    let room : length (take c.width.result (replicate {A = ℕ} 21 0)) ≡ width c.args.seat = length-take-le {A = ℕ} c.width.result (replicate 21 0) c.width.ensures.few ∙ c.width.ensures.value in
    let size : length filled ≡ width c.args.seat = omega (arith, room) in
    let few : n ≤ length filled = omega (arith, c.in_ok-count.ensures.fits) in
    let bytes : List ℕ = take n (filled ++ drop c.width.result (replicate {A = ℕ} 21 0)) in
    let part = has_bytes moments c.args.seat filled bytes n (take-append-le n filled _ few) size c.in_ok-count.ensures.value in
    let old = (g.D.Disk.state c.args.disk.now).calls in
    let first = c.read_at.ensures.called ∙ ap (λ k. with_call (ToRead c.args.seat.gate k) old) room in
    (false, shut_unmarked moments c.args.seat bytes part c.in-Shut.ensures, omega arith, omega (arith, width_some c.args.seat.wide), first)

pub returns-in-Cut-clause-follows : goal.returns-in-Cut-clause-follows
returns-in-Cut-clause-follows g c =
    let moments = (g.D.Disk.state c.args.disk.now).moments in
    let filled = c.read_at.new.buf in
    let n = c.in_ok-count.count in
    let room : length (take c.width.result (replicate {A = ℕ} 21 0)) ≡ width c.args.seat = length-take-le {A = ℕ} c.width.result (replicate 21 0) c.width.ensures.few ∙ c.width.ensures.value in
    let size : length filled ≡ width c.args.seat = omega (arith, room) in
    let few : n ≤ length filled = omega (arith, c.in_ok-count.ensures.fits) in
    let bytes : List ℕ = take n (filled ++ drop c.width.result (replicate {A = ℕ} 21 0)) in
    let part = has_bytes moments c.args.seat filled bytes n (take-append-le n filled _ few) size c.in_ok-count.ensures.value in
    let old = (g.D.Disk.state c.args.disk.now).model in
    let first = c.in_ok-count.ensures.follows ∙ ap (λ k. runs_on (ToRead c.args.seat.gate k ∷ []) old) room in
    let short : n < width c.args.seat = omega (arith, c.in-Cut.ensures.1, part_length n filled (drop c.width.result (replicate {A = ℕ} 21 0)) few) in
    (false, cut_unmarked moments c.args.seat bytes part c.in-Cut.ensures.1, omega arith, omega (arith, short), first)

pub returns-in-None-clause-follows : goal.returns-in-None-clause-follows
returns-in-None-clause-follows g c =
    let moments = (g.D.Disk.state c.args.disk.now).moments in
    let filled = c.read_at.new.buf in
    let n = c.in_ok-count.count in
    let room : length (take c.width.result (replicate {A = ℕ} 21 0)) ≡ width c.args.seat = length-take-le {A = ℕ} c.width.result (replicate 21 0) c.width.ensures.few ∙ c.width.ensures.value in
    let size : length filled ≡ width c.args.seat = omega (arith, room) in
    let few : n ≤ length filled = omega (arith, c.in_ok-count.ensures.fits) in
    let bytes : List ℕ = take n (filled ++ drop c.width.result (replicate {A = ℕ} 21 0)) in
    let part = has_bytes moments c.args.seat filled bytes n (take-append-le n filled _ few) size c.in_ok-count.ensures.value in
    let old = (g.D.Disk.state c.args.disk.now).model in
    let first = c.in_ok-count.ensures.follows ∙ ap (λ k. runs_on (ToRead c.args.seat.gate k ∷ []) old) room in
    (false, shut_unmarked moments c.args.seat bytes part c.in-Shut.ensures, omega arith, omega (arith, width_some c.args.seat.wide), first)

pub returns-in_err-count-clause-calls : goal.returns-in_err-count-clause-calls
returns-in_err-count-clause-calls g c =
    let p = err_from_is_err_and c.from_residual.result c.from_residual.ensures.1 in
    let room : length (take c.width.result (replicate {A = ℕ} 21 0)) ≡ width c.args.seat = length-take-le {A = ℕ} c.width.result (replicate 21 0) c.width.ensures.few ∙ c.width.ensures.value in
    let old = (g.D.Disk.state c.args.disk.now).calls in
    rw (p.1, p.2) (first_read_fails c.args.seat (g.D.Disk.state c.args.disk.now).moments old _ (c.read_at.ensures.called ∙ ap (λ k. with_call (ToRead c.args.seat.gate k) old) room))

pub returns-in_err-count-clause-follows : goal.returns-in_err-count-clause-follows
returns-in_err-count-clause-follows g c =
    let p = err_from_is_err_and c.from_residual.result c.from_residual.ensures.1 in
    let room : length (take c.width.result (replicate {A = ℕ} 21 0)) ≡ width c.args.seat = length-take-le {A = ℕ} c.width.result (replicate 21 0) c.width.ensures.few ∙ c.width.ensures.value in
    let old = (g.D.Disk.state c.args.disk.now).model in
    rw (p.1, p.2) (first_read_came c.args.seat (g.D.Disk.state c.args.disk.now).moments old _ (c.in_err-count.ensures.follows ∙ ap (λ k. runs_on (ToRead c.args.seat.gate k ∷ []) old) room))
