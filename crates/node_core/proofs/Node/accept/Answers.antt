use Rattle.std.proofs.Common.{◌≡◌, true, Option, None, ap, subst, sym, ◌∙◌, rules}
use Rattle.std.proofs.Common.{ℕ}
use Rattle.rebuttal.specs.Rebuttals.{IsAgainst}
use Rattle.node_core.specs.Noted.{IsOthers, own_note}
use Rattle.validate.specs.Table.{IsUnrefusedBy}
use Rattle.records.specs.declared.Body.{Body}
use Rattle.records.specs.declared.Body.TheVariants as bodies
use Rattle.node_rules.specs.Calls.{Call, takes}
use Rattle.node_rules.specs.Deliveries.{asked_with, gives_note}
use Rattle.node_core.specs.Playing.{Plays}
use Rattle.records.specs.declared.Record.{Record}
use Rattle.ff_ids.specs.declared.NoteBody.{NoteBody}
use Rattle.node_core.proofs.DueLemmas.{Ran, runs-same}
use Rattle.node_core.proofs.HandleLemmas.{asked-taken, free-of, ring-in}
use Rattle.node_core.proofs.SpendLemmas.{open-further, still-failed, spends-none, spends-after}
use Rattle.signer.specs.Signing.{SignerState}
use Rattle.std.proofs.Common.{ap}
use Rattle.node_core.specs.OnDisks.{FailsIn}
use Rattle.node_core.proofs.DiskLemmas.{stores-none, stored-behind, fails-behind, fails-same}
use Rattle.node_core.proofs.NotedLemmas.{accused-noted, asked-by}
use Rattle.node_core.proofs.Node.accept.Goals as goal

pub take_accusation-requires-clause-ring : goal.take_accusation-requires-clause-ring
take_accusation-requires-clause-ring g c =
    let is : c.args.body.now ≡ bodies.Accusation c.in-Accusation.acc = search rules in
    let v = c.args.self.now in
    ring-in v.membership v.group c.in-Accusation.acc c.requires.group (subst (λ (b : Body). IsUnrefusedBy v.membership v.roster b) is c.requires.unrefused)

pub returns-in-Certificate-clause-plays : goal.returns-in-Certificate-clause-plays
returns-in-Certificate-clause-plays g c = λ s es os call p accepted.
    let is : c.args.body.now ≡ bodies.Certificate c.in-Certificate.cert = search rules in
    let free = free-of s call.node c.args.rec.rec c.in-Certificate.cert accepted (c.requires.body ∙ is) in
    subst
    (λ b. Plays s es os c.take_certificate.new.self (gives_note true s (asked_with s call.node None b c.args.rec.rec) (takes s c.args.rec.rec call)))
    (sym is) (c.take_certificate.ensures.plays s es os call p free)

pub returns-in-Note-clause-plays : goal.returns-in-Note-clause-plays
returns-in-Note-clause-plays g c = λ s es os call p accepted.
    let is : c.args.body.now ≡ bodies.Note c.in-Note.note = search rules in
    subst
    (λ b. Plays s es os c.take_note.new.self (gives_note true s (asked_with s call.node None b c.args.rec.rec) (takes s c.args.rec.rec call)))
    (sym is) (c.take_note.ensures.plays s es os call p)

pub returns-in-Accusation-clause-plays : goal.returns-in-Accusation-clause-plays
returns-in-Accusation-clause-plays g c = λ s es os call p accepted.
    let is : c.args.body.now ≡ bodies.Accusation c.in-Accusation.acc = search rules in
    let r : Record = c.args.rec.rec in
    let c1 : Call = takes s r call in
    let a : Body = bodies.Accusation c.in-Accusation.acc in
    let ran = c.answer.ensures.plays s es os c1 r (c.take_accusation.ensures.plays s es os call p) in
    subst
    (λ (b : Body). Ran s es os c.answer.new.self (λ works. gives_note works s (asked_with s call.node None b r) c1) c.answer.result)
    (sym is)
    (runs-same s es os c.answer.new.self (λ works. gives_note works s (asked_with s c1.node None a r) c1) (λ works. gives_note works s (asked_with s call.node None a r) c1) c.answer.result
    (λ works. ap (λ (o : Option NoteBody). gives_note works s o c1) (asked-taken s call a r)) ran)

pub returns-in-Certificate-clause-spends : goal.returns-in-Certificate-clause-spends
returns-in-Certificate-clause-spends g c = spends-none c.args.self.now c.take_certificate.new.self _ c.take_certificate.ensures.signs_nothing

pub returns-in-Note-clause-spends : goal.returns-in-Note-clause-spends
returns-in-Note-clause-spends g c = spends-none c.args.self.now c.take_note.new.self _ c.take_note.ensures.signs_nothing

pub returns-in-Accusation-clause-spends : goal.returns-in-Accusation-clause-spends
returns-in-Accusation-clause-spends g c = spends-after c.args.self.now c.take_accusation.new.self c.answer.new.self _ _ c.take_accusation.ensures.signs_nothing (still-failed c.args.self.now c.take_accusation.new.self c.take_accusation.ensures.grows) c.answer.ensures.spends

pub returns-in-Accusation-clause-closed : goal.returns-in-Accusation-clause-closed
returns-in-Accusation-clause-closed g c = open-further c.answer.result _ _ _ c.answer.ensures.closed (ap (λ (s : SignerState). s.closed) c.take_accusation.ensures.signs_nothing.signer)

pub returns-in-Certificate-clause-stores : goal.returns-in-Certificate-clause-stores
returns-in-Certificate-clause-stores g c = stores-none c.args.self.now.signer c.take_certificate.new.self.signer (g.D.Disk.state c.args.disk.now).model c.take_certificate.ensures.signs_nothing.signer

pub returns-in-Note-clause-stores : goal.returns-in-Note-clause-stores
returns-in-Note-clause-stores g c = stores-none c.args.self.now.signer c.take_note.new.self.signer (g.D.Disk.state c.args.disk.now).model c.take_note.ensures.signs_nothing.signer

pub returns-in-Accusation-clause-stores : goal.returns-in-Accusation-clause-stores
returns-in-Accusation-clause-stores g c =
    stored-behind c.args.self.now c.take_accusation.new.self c.answer.new.self (g.D.Disk.state c.args.disk.now).model (g.D.Disk.state c.answer.new.disk).model c.answer.result c.take_accusation.ensures.signs_nothing c.answer.ensures.stores

pub returns-in-Accusation-clause-fails : goal.returns-in-Accusation-clause-fails
returns-in-Accusation-clause-fails g c = λ s es os call p accepted.
    let is : c.args.body.now ≡ bodies.Accusation c.in-Accusation.acc = search rules in
    let x = (g.D.Disk.state c.args.disk.now).model in
    let y = (g.D.Disk.state c.answer.new.disk).model in
    let c1 : Call = takes s c.args.rec.rec call in
    let r : Record = c.args.rec.rec in
    let a : Body = bodies.Accusation c.in-Accusation.acc in
    let answered : Call = gives_note true s (asked_with s c1.node None a r) c1 in
    subst
    (λ (b : Body). FailsIn (gives_note true s (asked_with s call.node None b r) c1) c.args.self.now c.answer.new.self x y c.answer.result)
    (sym is)
    (fails-same answered (gives_note true s (asked_with s call.node None a r) c1) c.args.self.now c.answer.new.self x y c.answer.result
    (λ fine. ap (λ (o : Option NoteBody). gives_note true s o c1) (asked-taken s call a r))
    (fails-behind answered c.args.self.now c.take_accusation.new.self c.answer.new.self x y c.answer.result c.take_accusation.ensures.signs_nothing
    (c.answer.ensures.fails s es os c1 r (c.take_accusation.ensures.plays s es os call p))))

pub take_accusation-requires-clause-noted : goal.take_accusation-requires-clause-noted
take_accusation-requires-clause-noted g c =
    let is : c.args.body.now ≡ bodies.Accusation c.in-Accusation.acc = search rules in
    let v = c.args.self.now in
    accused-noted v.membership c.in-Accusation.acc (subst (λ (b : Body). IsUnrefusedBy v.membership v.roster b) is c.requires.unrefused)

pub take_note-requires-clause-other : goal.take_note-requires-clause-other
take_note-requires-clause-other g c =
    let is : c.args.body.now ≡ bodies.Note c.in-Note.note = search rules in
    subst (IsOthers c.args.self.now.me) is c.requires.other

pub answer-requires-clause-asked : goal.answer-requires-clause-asked
answer-requires-clause-asked g c = λ who.
    let is : c.args.body.now ≡ bodies.Accusation c.in-Accusation.acc = search rules in
    let v = c.args.self.now in
    let a = c.in-Accusation.acc in
    let fine = subst (λ (b : Body). IsUnrefusedBy v.membership v.roster b) is c.requires.unrefused in
    let asked = asked-by v.membership v.me v.signer.state a fine c.requires.own (who ∙ c.take_accusation.ensures.grows.me) in
    subst (λ (m : ℕ). IsAgainst (own_note m c.take_accusation.new.self.signer.state) a) (sym c.take_accusation.ensures.grows.me)
    (subst (λ (k : SignerState). IsAgainst (own_note v.me k.state) a) (sym c.take_accusation.ensures.signs_nothing.signer) asked)
