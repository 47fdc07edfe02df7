use Rattle.std.proofs.Common.{◌≡◌, List, ℕ, ◌++◌, refl, subst, ap, ◌∙◌}
use Rattle.std.specs.Io.KnownBytes.{Appends}
use Rattle.ports.specs.Contents.{TookFront}
use Rattle.world_replay.specs.Summaries.{summary_text}
use Rattle.command_line.proofs.soak.tell_summary.Goals as goal

pub returns-in-Ok-write_all-clause-soaks : goal.returns-in-Ok-write_all-clause-soaks
returns-in-Ok-write_all-clause-soaks g c = λ source.
    let text = summary_text c.args.seed c.args.members c.args.rounds c.args.summary.now.lines c.args.summary.now.counts in
    let line : c.deref.result.now ≡ text = c.deref.ensures.value ∙ c.in-Ok.ensures.ok ∙ ap (λ (x : List ℕ). x ++ text) c.new-text.ensures.items in (
      record { summary = c.args.summary.now; is = c.requires.summed },
      record {
        wrote = subst (Appends (g.O.Sink.state c.args.out.now).taken (g.O.Sink.state c.write_all.new.out).taken) line c.in-Ok-write_all.ensures.wrote;
        left = refl;
        unfailed = record { reads = refl; writes = c.in-Ok-write_all.ensures.faults };
      },
    )

pub returns-in-Ok-clause-soaks : goal.returns-in-Ok-clause-soaks
returns-in-Ok-clause-soaks g c = λ source.
    let text = summary_text c.args.seed c.args.members c.args.rounds c.args.summary.now.lines c.args.summary.now.counts in
    let line : c.deref.result.now ≡ text = c.deref.ensures.value ∙ c.in-Ok.ensures.ok ∙ ap (λ (x : List ℕ). x ++ text) c.new-text.ensures.items in (
      record { summary = c.args.summary.now; is = c.requires.summed },
      record {
        wrote = subst (TookFront (g.O.Sink.state c.args.out.now).taken (g.O.Sink.state c.write_all.new.out).taken) line c.in-Err-write_all.ensures.wrote;
        left = refl;
        reads = refl;
        writes = c.in-Err-write_all.ensures.faults;
      },
    )
