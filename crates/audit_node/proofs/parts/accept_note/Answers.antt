use Rattle.std.proofs.Common.{refl, subst, ap, ◌∙◌, Option}
use Rattle.std.specs.FinMap.{insert}
use Rattle.ff_ids.specs.Heals.{Heal}
use Rattle.ff_ids.specs.Steps.{Notes}
use Rattle.records.specs.declared.Body.TheVariants as bodies
use Rattle.audit_node.specs.Playing.{with_known}
use Rattle.record_slots.specs.Held.{key_of}
use Rattle.audit_set.specs.Knowns.{body_of}
use Rattle.audit_set.specs.Sets.{HeldKnown}
use Rattle.audit_node.specs.Records.{without_all, ended_all}
use Rattle.audit_node.specs.Told.{Adds, with_report}
use Rattle.audit_node.proofs.NotedLemmas.{newest-more, newest-same, notes-note}
use Rattle.audit_node.proofs.PlayLemmas.{lives-plays, note-steps, keeps-plays}
use Rattle.audit_node.proofs.parts.accept_note.Goals as goal

pub returns-clause-plays : goal.returns-clause-plays
returns-clause-plays c = λ s es v call group heal long p.
    let steps = note-steps v.group c.args.membership.now c.put_note-fault.new.self c.put_note-fault.new.out c.args.note c.put_note-fault.result group
    c.put_note-fault.ensures.fault c.put_note-fault.ensures.step c.put_note-fault.ensures.changes c.put_note-fault.ensures.same c.put_note-fault.ensures.emptied in
    let ended = c.report.ensures.records ∙ ap (λ (h : Option Heal). without_all (ended_all h c.args.records.now c.put_note-fault.new.out.expired) c.put_note-fault.new.out.fell) heal in
    let lived = lives-plays s es (with_known v c.args.membership.now c.args.records.now c.args.telling.now) call (Notes c.args.note) c.put_note-fault.new.self c.report.new.records c.report.new.telling c.put_note-fault.new.out
    p steps ended (subst (λ m. Adds (with_report m c.put_note-fault.new.out) c.args.telling.now c.report.new.telling) c.now.ensures.moment c.report.ensures.told) in
    let held = c.put.ensures ∙ ap (λ (set : HeldKnown). insert set (key_of (body_of c.args.known)) c.args.known) c.drop_removal.ensures in
    keeps-plays s es (with_known v c.put_note-fault.new.self c.report.new.records c.report.new.telling) call c.args.known (bodies.Note c.args.note) c.put.new.self c.requires.note tt long held lived

pub returns-clause-told : goal.returns-clause-told
returns-clause-told c = subst (λ m. Adds (with_report m c.put_note-fault.new.out) c.args.telling.now c.report.new.telling) c.now.ensures.moment c.report.ensures.told

pub returns-clause-notes : goal.returns-clause-notes
returns-clause-notes c =
    let steps = note-steps c.args.membership.now.group c.args.membership.now c.put_note-fault.new.self c.put_note-fault.new.out c.args.note c.put_note-fault.result refl
    c.put_note-fault.ensures.fault c.put_note-fault.ensures.step c.put_note-fault.ensures.changes c.put_note-fault.ensures.same c.put_note-fault.ensures.emptied in
    notes-note c.args.heal c.args.membership.now.group c.args.note c.args.membership.now c.put_note-fault.new.self c.put_note-fault.new.out c.args.records.now c.report.new.records c.drop_removal.new.self c.put.new.self c.args.known steps c.requires.note c.requires.epoch
    c.report.ensures.records c.drop_removal.ensures c.put.ensures c.requires.notes

pub returns-clause-others : goal.returns-clause-others
returns-clause-others c = λ m other.
    let steps = note-steps c.args.membership.now.group c.args.membership.now c.put_note-fault.new.self c.put_note-fault.new.out c.args.note c.put_note-fault.result refl
    c.put_note-fault.ensures.fault c.put_note-fault.ensures.step c.put_note-fault.ensures.changes c.put_note-fault.ensures.same c.put_note-fault.ensures.emptied in
    newest-same c.args.membership.now.group (Notes c.args.note) c.args.membership.now c.put_note-fault.new.self c.put_note-fault.new.out c.args.records.now m steps c.requires.notes other

pub returns-clause-newest : goal.returns-clause-newest
returns-clause-newest c = λ fine.
    let steps = note-steps c.args.membership.now.group c.args.membership.now c.put_note-fault.new.self c.put_note-fault.new.out c.args.note c.put_note-fault.result refl
    c.put_note-fault.ensures.fault c.put_note-fault.ensures.step c.put_note-fault.ensures.changes c.put_note-fault.ensures.same c.put_note-fault.ensures.emptied in
    newest-more c.args.membership.now.group c.args.note c.args.membership.now c.put_note-fault.new.self c.put_note-fault.new.out c.args.records.now refl steps c.requires.notes fine
