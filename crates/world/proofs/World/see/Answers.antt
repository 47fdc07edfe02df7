use Rattle.std.proofs.Common.{◌≡◌, ℕ, ◌<◌, List, Option, Some, None, length, refl, ap, sym, ◌∙◌, subst}
use Rattle.std.specs.Prelude.{Ok}
use Rattle.std.specs.List.{slice_get}
use Rattle.std.proofs.lemmas.Option.{slice_get_read}
use Rattle.world.specs.contracts.World.{the_view}
use Rattle.world_host.specs.Hosts.{HostState}
use Rattle.world.specs.Holding.{Holds, Kept}
use Rattle.world.specs.Courses.{IsPlace}
use Rattle.membership.specs.Holds.{Holds as Stands}
use Rattle.membership.specs.Life as life
use Rattle.node_core.specs.Playing as node
use Rattle.node_rules.specs.Nodes.{state_of}
use Rattle.world_rules.specs.Settings.{setting_of}
use Rattle.world_rules.specs.Steps.{Answer, asks, begun, quiet, says, viewed}
use Rattle.world_rules.specs.declared.verdict.Verdict.{Verdict}
use Rattle.world_rules.specs.declared.verdict.Verdict.TheVariants as verdicts
use Rattle.world_host.specs.Holding.{HoldsCurrent}
use Rattle.world.proofs.AnswerLemmas.{ok_answer, asks-none, asks-some, ends-replies, replies-same, says-replies}
use Rattle.world.proofs.LookLemmas.{current-at}
use Rattle.world.proofs.World.see.Goals as goal

pub returns-in_ok-members-in-Some : goal.returns-in_ok-members-in-Some
returns-in_ok-members-in-Some c = λ s w before m h place.
    let v : Kept = the_view c.self.inside in
    let x : HostState = c.index.result.now in
    let held : Holds s w before v = subst (Holds s w before) (sym c.self.view_is) h in
    let within : c.args.at < length v.hosts = subst (λ (z : Kept). c.args.at < length z.hosts) (sym c.self.view_is) c.requires in
    let found : slice_get v.hosts c.args.at ≡ Some x = slice_get_read v.hosts (length v.hosts) c.args.at x refl within c.index.ensures in
    let there : IsPlace v c.args.at m = subst (λ (z : Kept). IsPlace z c.args.at m) (sym c.self.view_is) place in
    let now = current-at s w before v m c.args.at x held there found in
    let n : node.Kept = c.in-Some.node.now in
    let runs : HoldsCurrent s x.tag (w.hosts m).disk m (Some n) (w.hosts m).current = subst (λ (o : Option node.Kept). HoldsCurrent s x.tag (w.hosts m).disk m o (w.hosts m).current) (sym c.in-Some.ensures.same) now in
    let said : Verdict = verdicts.Sees c.from_vec.result in
    replies-same s before c.args.self.now c.args.out.now.items c.answer.new.out.items (Ok (asks s m viewed w)) (Ok (says said w)) c.answer.result
    (ap (λ (a : Answer). ok_answer a) (asks-some s x.tag (w.hosts m).disk m n (w.hosts m).current viewed said w runs (λ one is. ap (λ (o : List ℕ). verdicts.Sees o) (sym (c.from_vec.ensures ∙ c.in_ok-members-in-Some.ensures (state_of (setting_of s m) one.node) (subst (λ (z : life.Life). Stands z (state_of (setting_of s m) one.node)) (sym c.membership.ensures.kept) is.is.holds))))))
    (says-replies s w before c.args.self.now c.args.out.now.items c.answer.new.out.items said c.answer.result h c.answer.ensures.ok c.answer.ensures.refused c.answer.ensures.cause)

pub returns-in-None : goal.returns-in-None
returns-in-None c = λ s w before m h place.
    let v : Kept = the_view c.self.inside in
    let x : HostState = c.index.result.now in
    let held : Holds s w before v = subst (Holds s w before) (sym c.self.view_is) h in
    let within : c.args.at < length v.hosts = subst (λ (z : Kept). c.args.at < length z.hosts) (sym c.self.view_is) c.requires in
    let found : slice_get v.hosts c.args.at ≡ Some x = slice_get_read v.hosts (length v.hosts) c.args.at x refl within c.index.ensures in
    let there : IsPlace v c.args.at m = subst (λ (z : Kept). IsPlace z c.args.at m) (sym c.self.view_is) place in
    let now = current-at s w before v m c.args.at x held there found in
    let idle : HoldsCurrent s x.tag (w.hosts m).disk m None (w.hosts m).current = subst (λ (o : Option node.Kept). HoldsCurrent s x.tag (w.hosts m).disk m o (w.hosts m).current) (sym c.in-None.ensures.same) now in
    replies-same s before c.args.self.now c.args.out.now.items c.end_line.new.out.items (Ok (asks s m viewed w)) (Ok (quiet (begun w))) c.end_line.result
    (ap (λ (a : Answer). ok_answer a) (asks-none s x.tag (w.hosts m).disk m (w.hosts m).current viewed w idle))
    (ends-replies s w before c.args.self.now c.args.out.now.items c.end_line.new.out.items c.end_line.result h c.end_line.ensures.ok c.end_line.ensures.refused c.end_line.ensures.cause)
