use Rattle.std.proofs.Common.{◌∙◌, ap, sym, Err}
use Rattle.authority.specs.Telling.{is_writable}
use Rattle.authority.specs.declared.halt.Halt.{Halt}
use Rattle.authority.proofs.MigratingLemmas.{unread, unread-writable, went}
use Rattle.authority.proofs.migrating.migrate_store.Goals as goal

pub returns-in-Err-clause-sink : goal.returns-in-Err-clause-sink
returns-in-Err-clause-sink g c =
    c.in-Err.ensures.sink ∙ sym (ap (λ (h : Halt). is_writable (Err h)) c.from.ensures ∙ unread-writable _ _ c.in-Err.stop c.in-Err.ensures.unfinished)

pub returns-in-Err-clause-migrates : goal.returns-in-Err-clause-migrates
returns-in-Err-clause-migrates g c =
    rw c.from.ensures (unread c.args.name.now _ _ _ c.in-Err.stop c.in-Err.ensures.unfinished)

pub returns-clause-migrates : goal.returns-clause-migrates
returns-clause-migrates g c =
    went c.args.name.now c.in-Ok.moving _ _ _ _ _ c.open_and_move.result c.in-Ok.ensures.moves
    (c.open_and_move.ensures.migrates (g.S.Source.state c.read_migrate_text.new.input))
