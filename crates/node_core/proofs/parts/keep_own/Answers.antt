use Rattle.std.proofs.Common.{refl}
use Rattle.journal.specs.declared.event.What.TheVariants as told
use Rattle.records.specs.declared.Body.{Body}
use Rattle.records.specs.declared.Body.TheVariants as bodies
use Rattle.node_core.specs.Playing.{Kept, with_known}
use Rattle.node_core.specs.Signatures.{with_stored}
use Rattle.node_core.proofs.PlayLemmas.{grows-adds, grows-trans, tells-plays}
use Rattle.node_core.proofs.SigningLemmas.{own-kept}
use Rattle.node_core.proofs.SpendLemmas.{changes-none, event-spent, spent-then}
use Rattle.node_core.proofs.parts.keep_own.Goals as goal

pub returns-clause-plays : goal.returns-clause-plays
returns-clause-plays c = λ s es os v call group heal p at own.
    let b : Body = bodies.Note c.args.note.now in
    let v0 : Kept = with_known v c.args.membership.now c.args.records.now c.args.telling.now in
    let v1 : Kept = with_known v c.args.membership.now c.args.records.now c.tell_spent.new.self in
    let v2 : Kept = with_known v c.accept_note.new.membership c.accept_note.new.records c.accept_note.new.telling in
    own-kept s es os call b v1 v2 c.args.index c.args.rec.rec at own (tells-plays s es os v0 (with_stored b call) (told.Spent c.args.index b) c.now.result c.tell_spent.new.self p c.now.ensures.moment c.tell_spent.ensures)
    (λ x q. c.accept_note.ensures.plays s es os v x group heal q)

pub returns-clause-grows : goal.returns-clause-grows
returns-clause-grows c = λ v.
    let v0 : Kept = with_known v c.args.membership.now c.args.records.now c.args.telling.now in
    let v1 : Kept = with_known v c.args.membership.now c.args.records.now c.tell_spent.new.self in
    let v2 : Kept = with_known v c.accept_note.new.membership c.accept_note.new.records c.accept_note.new.telling in
    grows-trans v0 v1 v2 (grows-adds v c.args.membership.now c.args.membership.now c.args.records.now c.args.records.now _ c.args.telling.now c.tell_spent.new.self c.tell_spent.ensures)
    (grows-adds v c.args.membership.now c.accept_note.new.membership c.args.records.now c.accept_note.new.records _ c.tell_spent.new.self c.accept_note.new.telling c.accept_note.ensures.told)

pub returns-clause-spent : goal.returns-clause-spent
returns-clause-spent c = λ v.
    let v0 : Kept = with_known v c.args.membership.now c.args.records.now c.args.telling.now in
    let v1 : Kept = with_known v c.args.membership.now c.args.records.now c.tell_spent.new.self in
    let v2 : Kept = with_known v c.accept_note.new.membership c.accept_note.new.records c.accept_note.new.telling in
    let b : Body = bodies.Note c.args.note.now in
    spent-then c.args.index b v0 v1 v2 (record { signer = refl; tells = event-spent c.now.result c.args.index b c.args.telling.now c.tell_spent.new.self c.tell_spent.ensures })
    (record { signer = refl; told_none = changes-none c.accept_note.new.membership.moment c.accept_note.new.changes c.tell_spent.new.self c.accept_note.new.telling c.accept_note.ensures.told })
    (λ fine. (c.accept_note.ensures.told.going fine).0)
