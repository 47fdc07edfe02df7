use Rattle.std.proofs.Common.{◌∙◌, refl, subst, ap}
use Rattle.std.specs.Io.KnownBytes.{Appends}
use Rattle.ports.specs.Contents.{TookFront}
use Rattle.authority.specs.Migrating.{migrated_line}
use Rattle.authority.proofs.MigratingLemmas.{is-moved}
use Rattle.authority.proofs.migrating.move_and_tell.Goals as goal

pub returns-in-Ok-write_all-clause-moves : goal.returns-in-Ok-write_all-clause-moves
returns-in-Ok-write_all-clause-moves g c = λ source.
    let line = c.as_bytes.ensures.value ∙ c.in-Ok.ensures ∙ ap migrated_line c.state-state.ensures.value in (
      is-moved c.args.moving.now c.args.store.state c.args.store.seat c.args.tag.now c.all_rings.result
          (g.D.Disk.state c.args.disk.now)
          (g.D.Disk.state c.migrate.new.disk)
          c.requires.tag c.all_rings.ensures.value c.in-Ok-migrate.ensures.faults c.in-Ok-migrate.ensures.calls c.in-Ok-migrate.ensures.settled c.in-Ok-migrate.ensures.any_moment,
      record {
        wrote = subst (Appends (g.O.Sink.state c.args.out.now).taken (g.O.Sink.state c.write_all.new.out).taken) line c.in-Ok-write_all.ensures.wrote;
        left = refl;
        unfailed = record { reads = refl; writes = c.in-Ok-write_all.ensures.faults };
      },
    )

pub returns-in-Ok-migrate-clause-moves : goal.returns-in-Ok-migrate-clause-moves
returns-in-Ok-migrate-clause-moves g c = λ source.
    let line = c.as_bytes.ensures.value ∙ c.in-Ok.ensures ∙ ap migrated_line c.state-state.ensures.value in (
      is-moved c.args.moving.now c.args.store.state c.args.store.seat c.args.tag.now c.all_rings.result
          (g.D.Disk.state c.args.disk.now)
          (g.D.Disk.state c.migrate.new.disk)
          c.requires.tag c.all_rings.ensures.value c.in-Ok-migrate.ensures.faults c.in-Ok-migrate.ensures.calls c.in-Ok-migrate.ensures.settled c.in-Ok-migrate.ensures.any_moment,
      record {
        wrote = subst (TookFront (g.O.Sink.state c.args.out.now).taken (g.O.Sink.state c.write_all.new.out).taken) line c.in-Err-write_all.ensures.wrote;
        left = refl;
        reads = refl;
        writes = c.in-Err-write_all.ensures.faults;
      },
    )
