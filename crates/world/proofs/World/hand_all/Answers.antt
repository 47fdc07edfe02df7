use Rattle.std.proofs.Common.{◌≡◌, ℕ, zero, suc, ◌+◌, ◌<◌, ◌≤◌, true, false, List, [], ◌∷◌, drop, drop-cons, get_or, length, refl, ap, sym, ◌∙◌, subst, arith}
use Rattle.std.specs.Prelude.{is_err, Result, Ok}
use Rattle.std.specs.List.{slice_get}
use Rattle.world_rules.specs.Settings.{Setting}
use Rattle.world_rules.specs.Forgeries.{Forgery}
use Rattle.world_rules.specs.Steps.{Execution}
use Rattle.world_rules.specs.Worlds.{is_running}
use Rattle.world_host.specs.Hosts.{HostState}
use Rattle.world.specs.Holding.{Kept, numbers}
use Rattle.world.specs.Courses.{IsPlace, hands_each, hands_if}
use Rattle.std.proofs.lemmas.List.{length-map}
use Rattle.std.proofs.lemmas.Option.{slice_get-get_or}
use Rattle.world.proofs.LoopLemmas.{Sofar, each-faults, each-more, goes-fine, sofar-ends}
use Rattle.world.proofs.World.hand_all.Goals as goal

none-left : (s : Setting) (ns bytes : List ℕ) (i : ℕ) → length ns ≤ i → (k : Execution) → hands_each s (drop i ns) bytes k ≡ Ok k
none-left s [] bytes zero low k = refl
none-left s [] bytes (suc i) low k = refl
none-left s (x ∷ ns) bytes zero low k = absurd (omega (arith, low))
none-left s (x ∷ ns) bytes (suc i) low k = none-left s ns bytes i (omega (arith, low)) k

pub returns-then-is_err-clause-hands : goal.returns-then-is_err-clause-hands
returns-then-is_err-clause-hands c = λ s before base k at.
    let ns : List ℕ = numbers c.args.self.now in
    let i : ℕ = c.loop-at.at in
    let long : length ns ≡ length c.self.inside.hosts.items = ap (λ (z : Kept). length (numbers z)) (sym c.self.view_is) ∙ length-map c.self.inside.hosts.items (λ (x : HostState). x.member) in
    let low : i < length ns = omega (arith, long, c.loop-at-test.true, c.len-at-end.ensures, c.self.inside.hosts.ok.0) in
    let m : ℕ = get_or ns i 0 in
    let so = c.loop-at.invariant.1 s before base k at in
    let place : IsPlace c.loop-at.self i m = ap (λ (z : List ℕ). slice_get z i) c.loop-at.invariant.0 ∙ slice_get-get_or ns i 0 low in
    let err : is_err c.hand_if_running-went.result ≡ true = sym c.is_err.ensures.value ∙ c.if-is_err.true in
    each-faults s before base c.loop-at.self c.hand_if_running-went.new.self c.loop-at.out.items c.hand_if_running-went.new.out.items (hands_each s ns c.args.bytes.now k) (drop i ns) (drop (suc i) ns) c.args.bytes.now m c.hand_if_running-went.result err
    (drop-cons ns i 0 low) so (c.hand_if_running-went.ensures.hands s before base so.course m so.at place)

pub loop-at-preserved : goal.loop-at-preserved
loop-at-preserved c = (
  c.hand_if_running-went.ensures.numbers ∙ c.loop-at.invariant.0,
  λ s before base k at.
      let ns : List ℕ = numbers c.args.self.now in
      let i : ℕ = c.loop-at.at in
      let long : length ns ≡ length c.self.inside.hosts.items = ap (λ (z : Kept). length (numbers z)) (sym c.self.view_is) ∙ length-map c.self.inside.hosts.items (λ (x : HostState). x.member) in
      let low : i < length ns = omega (arith, long, c.loop-at-test.true, c.len-at-end.ensures, c.self.inside.hosts.ok.0) in
      let m : ℕ = get_or ns i 0 in
      let so = c.loop-at.invariant.1 s before base k at in
      let place : IsPlace c.loop-at.self i m = ap (λ (z : List ℕ). slice_get z i) c.loop-at.invariant.0 ∙ slice_get-get_or ns i 0 low in
      let fine : is_err c.hand_if_running-went.result ≡ false = sym c.is_err.ensures.value ∙ c.if-is_err.false in
      let whole : Result Execution Forgery = hands_each s ns c.args.bytes.now k in
      let next : suc i ≡ i + 1 = omega arith in
      subst (λ (j : ℕ). Sofar s before base c.hand_if_running-went.new.self c.hand_if_running-went.new.out.items whole (hands_each s (drop j ns) c.args.bytes.now)) next
      (each-more s before base c.loop-at.self c.hand_if_running-went.new.self c.loop-at.out.items c.hand_if_running-went.new.out.items whole (drop i ns) (drop (suc i) ns) c.args.bytes.now m (drop-cons ns i 0 low) so
      (goes-fine s before base c.hand_if_running-went.new.self c.hand_if_running-went.new.out.items (hands_if s m (is_running so.course.world m) c.args.bytes.now so.course) c.hand_if_running-went.result fine (c.hand_if_running-went.ensures.hands s before base so.course m so.at place))),
)

pub returns-clause-hands : goal.returns-clause-hands
returns-clause-hands c = λ s before base k at.
    let ns : List ℕ = numbers c.args.self.now in
    let long : length ns ≡ length c.self.inside.hosts.items = ap (λ (z : Kept). length (numbers z)) (sym c.self.view_is) ∙ length-map c.self.inside.hosts.items (λ (x : HostState). x.member) in
    let past : length ns ≤ c.loop-at.at = omega (arith, long, c.loop-at-test.false, c.len-at-end.ensures, c.self.inside.hosts.ok.0) in
    sofar-ends s before base c.loop-at.self c.loop-at.out.items (hands_each s ns c.args.bytes.now k) (hands_each s (drop c.loop-at.at ns) c.args.bytes.now) (none-left s ns c.args.bytes.now c.loop-at.at past) (c.loop-at.invariant.1 s before base k at)
