use Rattle.std.proofs.Common.{◌≡◌, ◌∙◌, ap}
use Rattle.secrets.specs.Secrets.{store_tag}
use Rattle.authority.specs.Settings.{tag_of}
use Rattle.authority.proofs.OpeningLemmas.{not-opened, opened, unopened}
use Rattle.authority.proofs.enrolling.open_store.Goals as goal

pub returns-in-Ok-open : goal.returns-in-Ok-open
returns-in-Ok-open g c =
    let tag : c.store_tag.result ≡ tag_of c.args.setting.now =
    c.store_tag.ensures ∙ ap (store_tag c.args.setting.now.group) c.in-Ok.ensures.is in
    record {
      opens = record {
        key = c.in-Ok.ensures;
        going = c.in-Ok-open.ensures.runs;
        opened =
            opened c.args.name.now c.args.setting.now c.store_tag.result c.in-Ok-open.store
            (g.D.Disk.state c.args.disk.now)
            (g.D.Disk.state c.open.new.disk)
            tag c.in-Ok-open.ensures.faults c.in-Ok-open.ensures.calls c.in-Ok-open.ensures.settles c.in-Ok-open.ensures.store c.in-Ok-open.ensures.any_moment;
      };
    }

pub returns-in-Err-open : goal.returns-in-Err-open
returns-in-Err-open g c =
    let tag : c.store_tag.result ≡ tag_of c.args.setting.now =
    c.store_tag.ensures ∙ ap (store_tag c.args.setting.now.group) c.in-Ok.ensures.is in
    record {
      opens =
          rw c.from.ensures
          (not-opened c.args.name.now c.args.setting.now c.store_tag.result
          (g.D.Disk.state c.args.disk.now)
          (g.D.Disk.state c.open.new.disk)
          c.in-Err-open.error tag c.in-Err-open.ensures.faults c.in-Err-open.ensures.calls c.in-Err-open.ensures.reads c.in-Err-open.ensures.not_taken c.in-Err-open.ensures.settles c.in-Err-open.ensures.any_moment);
    }

pub returns-in-Err : goal.returns-in-Err
returns-in-Err g c = record { opens = unopened c.args.name.now (g.D.Disk.state c.args.disk.now) }
