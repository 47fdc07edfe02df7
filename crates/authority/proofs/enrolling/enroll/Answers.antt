use Rattle.std.proofs.Common.{◌∙◌, ap, sym, Err}
use Rattle.sign_keys.specs.Kinds.{fits}
use Rattle.authority.specs.Telling.{is_writable}
use Rattle.authority.specs.declared.halt.Halt.{Halt}
use Rattle.authority.proofs.EnrolLemmas.{unread, unread-writable, went}
use Rattle.authority.proofs.enrolling.enroll.Goals as goal

pub returns-in-Err-clause-sink : goal.returns-in-Err-clause-sink
returns-in-Err-clause-sink g c =
    c.in-Err.ensures.sink ∙ sym (ap (λ (h : Halt). is_writable (Err h)) c.from.ensures ∙ unread-writable _ _ c.in-Err.stop c.in-Err.ensures.unfinished)

pub returns-in-Err-clause-enrols : goal.returns-in-Err-clause-enrols
returns-in-Err-clause-enrols g c =
    rw c.from.ensures (unread c.args.name.now _ _ _ c.in-Err.stop c.in-Err.ensures.unfinished)

pub open_and_sign-requires-clause-profile : goal.open_and_sign-requires-clause-profile
open_and_sign-requires-clause-profile g c =
    ap (fits c.in-Ok.asked.setting.kinds.ots c.in-Ok.asked.setting.kinds.tree) c.in-Ok.ensures.asks.one

pub returns-clause-enrols : goal.returns-clause-enrols
returns-clause-enrols g c =
    went c.args.name.now c.in-Ok.asked.setting c.in-Ok.asked.lines.items _ _ _ _ _ c.open_and_sign.result c.in-Ok.ensures.asks
    (c.open_and_sign.ensures.enrols (g.S.Source.state c.read_roster.new.input))
