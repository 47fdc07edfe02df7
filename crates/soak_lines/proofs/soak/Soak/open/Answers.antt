use Rattle.std.proofs.Common.{◌≡◌, ◌∙◌, ap, subst, sym, List, rules, length}
use Rattle.rand_chacha.specs.ChaCha.{ChaCha, of_seed}
use Rattle.schedule_world.specs.declared.line.WorldLine.{WorldLine}
use Rattle.schedule_world.specs.declared.text.WorldText.TheVariants as world
use Rattle.soak_lines.specs.declared.plan.Plan.{Plan}
use Rattle.soak_lines.specs.Workload.{drawing_seed, lines_by, plan_of, words_of, workload}
use Rattle.soak_lines.specs.Schedule.{IsSchedule}
use Rattle.soak_lines.proofs.CountLemmas.{workload-count}
use Rattle.soak_lines.proofs.PlaceLemmas.{header-is}
use Rattle.soak_lines.proofs.ScheduleLemmas.{workload-stands}
use Rattle.soak_lines.proofs.soak.Soak.open.Goals as goal

pub returns-clause-lines : goal.returns-clause-lines
unfolding workload
returns-clause-lines c =
    let words : c.from_seed.result ≡ of_seed (drawing_seed c.args.seed) = search rules in
    header-is c.of.result (words_of c.from_seed.result)
    ∙ ap (λ (p : Plan). lines_by p (words_of c.from_seed.result)) c.of.ensures
    ∙ ap (λ (g : ChaCha). lines_by (plan_of c.args.seed c.args.nodes c.args.rounds) (words_of g)) words

pub returns-clause-schedule : goal.returns-clause-schedule
returns-clause-schedule c =
    subst (λ (some : List WorldLine). IsSchedule world.Start some) (sym (returns-clause-lines c)) (workload-stands c.args.seed c.args.nodes c.args.rounds c.requires.nodes.0 c.requires.nodes.1 c.requires.rounds.1)

pub returns-clause-many : goal.returns-clause-many
returns-clause-many c = ap length (returns-clause-lines c) ∙ workload-count c.args.seed c.args.nodes c.args.rounds
