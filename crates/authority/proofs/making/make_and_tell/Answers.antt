use Rattle.std.proofs.Common.{◌∙◌, refl, subst}
use Rattle.std.specs.Io.KnownBytes.{Appends}
use Rattle.play.specs.Plays.{io}
use Rattle.ports.specs.Contents.{TookFront}
use Rattle.authority.proofs.MakingLemmas.{is-made, not-made}
use Rattle.authority.proofs.making.make_and_tell.Goals as goal

pub returns-in-Ok-write_all-clause-makes : goal.returns-in-Ok-write_all-clause-makes
returns-in-Ok-write_all-clause-makes g c = λ source.
    let line = c.as_bytes.ensures.value ∙ c.requires.prepared.line in (
      is-made c.args.name.now c.args.prepared.now.tag c.all_rings.result c.args.setting.now
          (g.D.Disk.state c.args.disk.now)
          (g.D.Disk.state c.make.new.disk)
          c.requires.prepared.tag c.all_rings.ensures.value c.in-Ok.ensures.faults c.in-Ok.ensures.calls c.in-Ok.ensures.taken c.in-Ok.ensures.made c.in-Ok.ensures.store,
      record {
        wrote = subst (Appends (g.O.Sink.state c.args.out.now).taken (g.O.Sink.state c.write_all.new.out).taken) line c.in-Ok-write_all.ensures.wrote;
        left = refl;
        unfailed = record { reads = refl; writes = c.in-Ok-write_all.ensures.faults };
      },
    )

pub returns-in-Err-write_all-clause-makes : goal.returns-in-Err-write_all-clause-makes
returns-in-Err-write_all-clause-makes g c = λ source.
    let line = c.as_bytes.ensures.value ∙ c.requires.prepared.line in (
      is-made c.args.name.now c.args.prepared.now.tag c.all_rings.result c.args.setting.now
          (g.D.Disk.state c.args.disk.now)
          (g.D.Disk.state c.make.new.disk)
          c.requires.prepared.tag c.all_rings.ensures.value c.in-Ok.ensures.faults c.in-Ok.ensures.calls c.in-Ok.ensures.taken c.in-Ok.ensures.made c.in-Ok.ensures.store,
      record {
        wrote = subst (TookFront (g.O.Sink.state c.args.out.now).taken (g.O.Sink.state c.write_all.new.out).taken) line c.in-Err-write_all.ensures.wrote;
        left = refl;
        reads = refl;
        writes = c.in-Err-write_all.ensures.faults;
      },
    )

pub returns-in-Err-clause-makes : goal.returns-in-Err-clause-makes
returns-in-Err-clause-makes g c = λ source.
    rw c.from.ensures
    (not-made c.args.name.now c.args.prepared.now.tag c.all_rings.result c.args.setting.now
    (io source (g.O.Sink.state c.args.out.now))
    (g.D.Disk.state c.args.disk.now)
    (g.D.Disk.state c.make.new.disk)
    c.in-Err.error c.requires.prepared.tag c.all_rings.ensures.value c.in-Err.ensures.faults c.in-Err.ensures.calls c.in-Err.ensures.taken c.in-Err.ensures.refused c.in-Err.ensures.any_moment)
