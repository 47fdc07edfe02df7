use Rattle.std.proofs.Common.{◌≡◌, true, Option, None, subst, sym, ◌∙◌, rules}
use Rattle.std.proofs.Common.{ℕ}
use Rattle.epoch_store.specs.declared.Stored.{Stored}
use Rattle.rebuttal.specs.Rebuttals.{IsAgainst}
use Rattle.audit_node.specs.Noted.{IsOthers, own_note}
use Rattle.validate.specs.Table.{IsUnrefusedBy}
use Rattle.records.specs.declared.Body.{Body}
use Rattle.records.specs.declared.Body.TheVariants as bodies
use Rattle.node_rules.specs.Calls.{Call, takes}
use Rattle.node_rules.specs.Deliveries.{asked_with, gives_note}
use Rattle.audit_node.specs.Playing.{Plays}
use Rattle.records.specs.declared.Record.{Record}
use Rattle.ff_ids.specs.declared.NoteBody.{NoteBody}
use Rattle.audit_node.proofs.HandleLemmas.{asked-taken, free-of, ring-in}
use Rattle.audit_node.proofs.NotedLemmas.{accused-noted, asked-by}
use Rattle.audit_node.proofs.Mirror.accept.Goals as goal

pub take_accusation-requires-clause-ring : goal.take_accusation-requires-clause-ring
take_accusation-requires-clause-ring c =
    let is : c.args.body.now ≡ bodies.Accusation c.in-Accusation.acc = search rules in
    let v = c.args.self.now in
    ring-in v.membership v.group c.in-Accusation.acc c.requires.group (subst (λ (b : Body). IsUnrefusedBy v.membership v.roster b) is c.requires.unrefused)

pub returns-in-Certificate-clause-plays : goal.returns-in-Certificate-clause-plays
returns-in-Certificate-clause-plays c = λ s es call p accepted.
    let is : c.args.body.now ≡ bodies.Certificate c.in-Certificate.cert = search rules in
    let free = free-of s call.node c.args.rec.rec c.in-Certificate.cert accepted (c.requires.body ∙ is) in
    subst
    (λ b. Plays s es c.take_certificate.new.self (gives_note true s (asked_with s call.node None b c.args.rec.rec) (takes s c.args.rec.rec call)))
    (sym is) (c.take_certificate.ensures.plays s es call p free)

pub returns-in-Note-clause-plays : goal.returns-in-Note-clause-plays
returns-in-Note-clause-plays c = λ s es call p accepted.
    let is : c.args.body.now ≡ bodies.Note c.in-Note.note = search rules in
    subst
    (λ b. Plays s es c.take_note.new.self (gives_note true s (asked_with s call.node None b c.args.rec.rec) (takes s c.args.rec.rec call)))
    (sym is) (c.take_note.ensures.plays s es call p)

pub returns-in-Accusation-clause-plays : goal.returns-in-Accusation-clause-plays
returns-in-Accusation-clause-plays c = λ s es call p accepted.
    let is : c.args.body.now ≡ bodies.Accusation c.in-Accusation.acc = search rules in
    let r : Record = c.args.rec.rec in
    let c1 : Call = takes s r call in
    let a : Body = bodies.Accusation c.in-Accusation.acc in
    let ran = c.answer.ensures.plays s es c1 r (c.take_accusation.ensures.plays s es call (record { body = c.rec-checked.ensures.checked.body; signature = c.rec-checked.ensures.checked.writable.signature }) p) in
    subst
    (λ (b : Body). Plays s es c.answer.new.self (gives_note true s (asked_with s call.node None b r) c1))
    (sym is)
    (subst (λ (o : Option NoteBody). Plays s es c.answer.new.self (gives_note true s o c1)) (asked-taken s call a r) ran)

pub take_accusation-requires-clause-noted : goal.take_accusation-requires-clause-noted
take_accusation-requires-clause-noted c =
    let is : c.args.body.now ≡ bodies.Accusation c.in-Accusation.acc = search rules in
    let v = c.args.self.now in
    accused-noted v.membership c.in-Accusation.acc (subst (λ (b : Body). IsUnrefusedBy v.membership v.roster b) is c.requires.unrefused)

pub take_note-requires-clause-other : goal.take_note-requires-clause-other
take_note-requires-clause-other c =
    let is : c.args.body.now ≡ bodies.Note c.in-Note.note = search rules in
    subst (IsOthers c.args.self.now.me) is c.requires.other

pub answer-requires : goal.answer-requires
answer-requires c = λ who.
    let is : c.args.body.now ≡ bodies.Accusation c.in-Accusation.acc = search rules in
    let v = c.args.self.now in
    let a = c.in-Accusation.acc in
    let fine = subst (λ (b : Body). IsUnrefusedBy v.membership v.roster b) is c.requires.unrefused in
    let asked = asked-by v.membership v.me v.stored a fine c.requires.own (who ∙ c.take_accusation.ensures.grows.me) in
    subst (λ (m : ℕ). IsAgainst (own_note m c.take_accusation.new.self.stored) a) (sym c.take_accusation.ensures.grows.me)
    (subst (λ (k : Stored). IsAgainst (own_note v.me k) a) (sym c.take_accusation.ensures.stored) asked)
