use Rattle.std.proofs.Common.{◌≡◌, ℕ, suc, ◌+◌, ◌<◌, ◌≤◌, Bool, List, Some, drop, length, refl, ap, sym, ◌∙◌, subst, arith}
use Rattle.std.specs.List.{slice_get}
use Rattle.std.specs.Option.{option_map}
use Rattle.std.proofs.lemmas.Option.{slice_get-map, slice_get_read}
use Rattle.world_rules.specs.Forgeries.{is_forged_for}
use Rattle.world.specs.contracts.World.{the_view}
use Rattle.world_host.specs.Hosts.{HostState}
use Rattle.world.specs.Holding.{Kept, numbers}
use Rattle.world.specs.Courses.{IsPlace}
use Rattle.std.specs.Prelude.{find}
use Rattle.std.proofs.lemmas.List.{length-map}
use Rattle.world.proofs.ForgeryLemmas.{find-here, find-next, find-past}
use Rattle.world.proofs.World.forged_node.Goals as goal

pub loop-at-preserved : goal.loop-at-preserved
loop-at-preserved c = λ s w told h.
    let p : ℕ → Bool = λ m. is_forged_for s w c.args.rec.now (Some m) in
    let ns : List ℕ = numbers c.args.self.now in
    let i : ℕ = c.loop-at.at in
    let next : i + 1 ≡ suc i = omega arith in
    c.loop-at.invariant s w told h ∙ find-next p ns i (λ m is. sym (c.is_forged_at.ensures s w told m h is) ∙ c.if-is_forged_at.false) ∙ ap (λ (k : ℕ). find p (drop k ns)) (sym next)

pub returns : goal.returns
returns c = λ s w told h.
    let p : ℕ → Bool = λ m. is_forged_for s w c.args.rec.now (Some m) in
    let ns : List ℕ = numbers c.args.self.now in
    let long : length ns ≡ length c.self.inside.hosts.items = ap (λ (v : Kept). length (numbers v)) (sym c.self.view_is) ∙ length-map c.self.inside.hosts.items (λ (x : HostState). x.member) in
    let past : length ns ≤ c.loop-at.at = omega (arith, long, c.loop-at-test.false, c.len-at-end.ensures, c.self.inside.hosts.ok.0) in
    sym (c.loop-at.invariant s w told h ∙ find-past p ns c.loop-at.at past)

pub returns-then-is_forged_at : goal.returns-then-is_forged_at
returns-then-is_forged_at c = λ s w told h.
    let p : ℕ → Bool = λ m. is_forged_for s w c.args.rec.now (Some m) in
    let v : Kept = the_view c.self.inside in
    let i : ℕ = c.loop-at.at in
    let x : HostState = c.index.result.now in
    let within : i < length v.hosts = omega (arith, c.loop-at-test.true, c.len-at-end.ensures, c.self.inside.hosts.ok.0) in
    let found : slice_get v.hosts i ≡ Some x = slice_get_read v.hosts (length v.hosts) i x refl within c.index.ensures in
    let there : slice_get (numbers v) i ≡ Some c.member.result = slice_get-map (λ (y : HostState). y.member) v.hosts i ∙ ap (option_map (λ (y : HostState). y.member)) found ∙ ap (λ (k : ℕ). Some k) (sym c.member.ensures) in
    let place : IsPlace c.args.self.now i c.member.result = subst (λ (z : Kept). IsPlace z i c.member.result) c.self.view_is there in
    sym (c.loop-at.invariant s w told h ∙ find-here p (numbers c.args.self.now) i c.member.result place (sym (c.is_forged_at.ensures s w told c.member.result h place) ∙ c.if-is_forged_at.true))
