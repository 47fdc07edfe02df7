use Rattle.std.proofs.Common.{◌≡◌, ℕ, suc, ◌+◌, ◌-◌, true, false, List, ap, sym, ◌∙◌, arith}
use Rattle.std.specs.Prelude.{is_err, Ok}
use Rattle.std.specs.List.{slice_get}
use Rattle.world.specs.Courses.{IsPlace}
use Rattle.node_rules.specs.Lives.{Ticks}
use Rattle.world_rules.specs.Steps.{calls, ticks}
use Rattle.world.proofs.LoopLemmas.{goes-fine, sofar-ends, tick-faults, tick-more, ticks_left}
use Rattle.world.proofs.World.tick.Goals as goal

pub returns-then-is_err-clause-ticks : goal.returns-then-is_err-clause-ticks
returns-then-is_err-clause-ticks c = λ s before base k m at place.
    let i : ℕ = c.loop-tick._tick in
    let so = c.loop-tick.invariant.1 s before base k m at place in
    let there : IsPlace c.loop-tick.self c.args.at m = ap (λ (z : List ℕ). slice_get z c.args.at) c.loop-tick.invariant.0 ∙ place in
    let err : is_err c.tick_once-went.result ≡ true = sym c.is_err.ensures.value ∙ c.if-is_err.true in
    let more : c.args.ticks - i ≡ suc (c.args.ticks - (i + 1)) = omega (arith, c.loop-tick-test.true) in
    tick-faults s before base c.loop-tick.self c.tick_once-went.new.self c.loop-tick.out.items c.tick_once-went.new.out.items (Ok (ticks s m c.args.ticks k)) m (c.args.ticks - i) (c.args.ticks - (i + 1)) c.tick_once-went.result err more so
    (c.tick_once-went.ensures.calls s before base so.course m so.at there)

pub loop-tick-preserved : goal.loop-tick-preserved
loop-tick-preserved c = (
  c.tick_once-went.ensures.numbers ∙ c.loop-tick.invariant.0,
  λ s before base k m at place.
      let i : ℕ = c.loop-tick._tick in
      let so = c.loop-tick.invariant.1 s before base k m at place in
      let there : IsPlace c.loop-tick.self c.args.at m = ap (λ (z : List ℕ). slice_get z c.args.at) c.loop-tick.invariant.0 ∙ place in
      let fine : is_err c.tick_once-went.result ≡ false = sym c.is_err.ensures.value ∙ c.if-is_err.false in
      let more : c.args.ticks - i ≡ suc (c.args.ticks - (i + 1)) = omega (arith, c.loop-tick-test.true) in
      tick-more s before base c.loop-tick.self c.tick_once-went.new.self c.loop-tick.out.items c.tick_once-went.new.out.items (Ok (ticks s m c.args.ticks k)) m (c.args.ticks - i) (c.args.ticks - (i + 1)) more so
      (goes-fine s before base c.tick_once-went.new.self c.tick_once-went.new.out.items (Ok (calls s m Ticks so.course)) c.tick_once-went.result fine (c.tick_once-went.ensures.calls s before base so.course m so.at there)),
)

pub returns-clause-ticks : goal.returns-clause-ticks
returns-clause-ticks c = λ s before base k m at place.
    let none : c.args.ticks - c.loop-tick._tick ≡ 0 = omega (arith, c.loop-tick-test.false) in
    sofar-ends s before base c.loop-tick.self c.loop-tick.out.items (Ok (ticks s m c.args.ticks k)) (ticks_left s m (c.args.ticks - c.loop-tick._tick))
    (λ e. ap (λ (n : ℕ). ticks_left s m n e) none) (c.loop-tick.invariant.1 s before base k m at place)
