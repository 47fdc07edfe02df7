use Rattle.command_line.proofs.UpheldLemmas.{all-of, faults-of, on-command}
use Rattle.command_line.proofs.running.run.Goals as goal

pub returns-clause-untouched : goal.returns-clause-untouched
returns-clause-untouched g c = λ usage. absurd ((all-of c.in-Some.command c.store_in-name.result.now _ _ _ _ _ _ c.run_command.result c.run_command.ensures.ends).command usage)

pub returns-clause-traced : goal.returns-clause-traced
returns-clause-traced g c =
    on-command _ _ c.of.result c.in-Some.command c.of.ensures.command c.in-Some.is
    (all-of c.in-Some.command c.store_in-name.result.now _ _ _ _ _ _ c.run_command.result c.run_command.ensures.ends).traced

pub returns-clause-complete : goal.returns-clause-complete
returns-clause-complete g c =
    on-command _ _ c.of.result c.in-Some.command c.of.ensures.command c.in-Some.is
    (all-of c.in-Some.command c.store_in-name.result.now _ _ _ _ _ _ c.run_command.result c.run_command.ensures.ends).complete

pub returns-clause-upholds : goal.returns-clause-upholds
returns-clause-upholds g c =
    on-command _ _ c.of.result c.in-Some.command c.of.ensures.command c.in-Some.is
    (all-of c.in-Some.command c.store_in-name.result.now _ _ _ _ _ _ c.run_command.result c.run_command.ensures.ends).upholds

pub returns-clause-counts : goal.returns-clause-counts
returns-clause-counts g c = (all-of c.in-Some.command c.store_in-name.result.now _ _ _ _ _ _ c.run_command.result c.run_command.ensures.ends).counts

pub returns-clause-faults : goal.returns-clause-faults
returns-clause-faults g c =
    faults-of _ c.of.result c.in-Some.command _ _ c.run_command.result c.of.ensures.command c.in-Some.is
    (all-of c.in-Some.command c.store_in-name.result.now _ _ _ _ _ _ c.run_command.result c.run_command.ensures.ends).faults
