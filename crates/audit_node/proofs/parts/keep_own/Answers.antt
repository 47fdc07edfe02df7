use Rattle.std.proofs.Common.{◌∙◌, ap, refl}
use Rattle.journal.specs.declared.event.What.TheVariants as told
use Rattle.records.specs.declared.Body.{Body}
use Rattle.records.specs.declared.Body.TheVariants as bodies
use Rattle.records.specs.declared.Record.{Record}
use Rattle.std.proofs.Common.{subst}
use Rattle.node_rules.specs.Calls.{own_record, tells}
use Rattle.audit_set.specs.declared.known.Known.TheVariants as knowns
use Rattle.audit_node.specs.Playing.{Kept, Plays, record_of, with_known}
use Rattle.audit_node.specs.Signatures.{with_stored}
use Rattle.audit_node.proofs.PlayLemmas.{grows-adds, grows-trans, own-kept, tells-plays}
use Rattle.audit_node.proofs.parts.keep_own.Goals as goal

pub returns-clause-plays : goal.returns-clause-plays
returns-clause-plays c = λ s es v call group heal p at long.
    let b : Body = bodies.Note c.args.note.now in
    let v0 : Kept = with_known v c.args.membership.now c.args.records.now c.args.telling.now in
    let v1 : Kept = with_known v c.args.membership.now c.args.records.now c.tell.new.self in
    let v2 : Kept = with_known v c.accept_note.new.membership c.accept_note.new.records c.accept_note.new.telling in
    let r : Record = record_of s (knowns.Own c.args.own) in
    let own = ap (λ k. record { body = c.args.own.body; signature = s.signature k c.args.own.body }) at ∙ ap (λ x. own_record s call.node x) c.requires.note in
    let spent = tells-plays s es v0 (with_stored b call) (told.Spent c.args.own.index c.args.own.body) c.now.result c.tell.new.self p c.now.ensures.moment refl c.tell.ensures in
    own-kept s es call b v1 v2 c.args.own.index r at own (subst (λ x. Plays s es v1 (tells s (told.Spent c.args.own.index x) (with_stored b call))) c.requires.note spent)
    (λ x q. c.accept_note.ensures.plays s es v x group heal long q)

pub returns-clause-grows : goal.returns-clause-grows
returns-clause-grows c = λ v.
    let v0 : Kept = with_known v c.args.membership.now c.args.records.now c.args.telling.now in
    let v1 : Kept = with_known v c.args.membership.now c.args.records.now c.tell.new.self in
    let v2 : Kept = with_known v c.accept_note.new.membership c.accept_note.new.records c.accept_note.new.telling in
    grows-trans v0 v1 v2 (grows-adds v c.args.membership.now c.args.membership.now c.args.records.now c.args.records.now _ c.args.telling.now c.tell.new.self c.tell.ensures)
    (grows-adds v c.args.membership.now c.accept_note.new.membership c.args.records.now c.accept_note.new.records _ c.tell.new.self c.accept_note.new.telling c.accept_note.ensures.told)
