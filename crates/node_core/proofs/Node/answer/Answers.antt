use Rattle.std.proofs.Common.{◌≡◌, ◌≢◌, Bool, true, Option, None, subst, sym}
use Rattle.records.specs.declared.Body.TheVariants as bodies
use Rattle.node_rules.specs.Calls.{Call, wants}
use Rattle.node_rules.specs.Deliveries.{asked_with, gives_note}
use Rattle.node_core.specs.Playing.{Kept, IsNode, Plays}
use Rattle.node_core.specs.Signatures.{next_own}
use Rattle.node_core.specs.Neighbours.{addressees}
use Rattle.node_core.specs.contracts.Node.{the_view}
use Rattle.node_core.proofs.HandleLemmas.{asked-other, asked-late, answers-is}
use Rattle.node_core.proofs.PlayLemmas.{grows-refl}
use Rattle.node_core.proofs.ExtendLemmas.{extends-gives_note}
use Rattle.node_core.proofs.DueLemmas.{from-fine, runs-from-fine, runs-same}
use Rattle.rebuttal.specs.Rebuttals.{answering_mask}
use Rattle.std.proofs.Common.{refl}
use Rattle.node_core.proofs.SpendLemmas.{nothing-same, spends-none}
use Rattle.node_core.proofs.DiskLemmas.{stores-none, fails-same}
use Rattle.std.proofs.Common.{rules, Some, ap, ◌∙◌}
use Rattle.std.proofs.lemmas.Bool.{false≢true}
use Rattle.ff_ids.specs.Masks.{good_mask, note_mask}
use Rattle.node_rules.proofs.Allowed.{good-allowed, good-enabling}
use Rattle.ff_ids.specs.declared.NoteBody.{NoteBody}
use Rattle.rebuttal.specs.Rebuttals.{IsAgainst}
use Rattle.node_core.specs.Noted.{own_note}
use Rattle.node_core.proofs.NotedLemmas.{some_is}
use Rattle.node_core.proofs.Node.answer.Goals as goal

pub returns-then-not-must_answer-clause-plays : goal.returns-then-not-must_answer-clause-plays
returns-then-not-must_answer-clause-plays g c = λ s es os call rec p.
    let v : Kept = the_view c.self.inside in
    let a = c.args.acc.now in
    let note : Option NoteBody = asked_with s call.node None (bodies.Accusation a) rec in
    from-fine s es os c.args.self.now c.args.self.now call (gives_note true s note call) p (grows-refl c.args.self.now)
    (extends-gives_note s note call) (λ h.
    let n = subst (λ v. IsNode s v call.node) (sym c.self.view_is) h.is in
    let some : c.note_of.result ≡ Some c.in-Some.own = search rules in
    let own : c.in-Some.own ≡ own_note c.self.inside.me c.self.inside.signer.state = some_is _ _ (sym some ∙ c.note_of.ensures.kept ∙ c.self.invariant.newest_own) in
    let asked = subst (λ (w : Kept). a.accused ≡ w.me → IsAgainst (own_note w.me w.signer.state) a) (sym c.self.view_is) c.requires.asked in
    let apart : a.accused ≢ c.self.inside.me = λ e. false≢true (sym c.if-not-must_answer.true ∙ c.must_answer.ensures.1 (subst (λ (n : NoteBody). IsAgainst n a) (sym own) (asked e))) in
    subst (λ (o : Option NoteBody). Plays s es os c.args.self.now (gives_note true s o call))
    (sym (asked-other s v call.node a rec n apart)) p)

pub returns-then-not-may_rise-clause-plays : goal.returns-then-not-may_rise-clause-plays
returns-then-not-may_rise-clause-plays g c = λ s es os call rec p.
    let a = c.args.acc.now in
    let note : Option NoteBody = asked_with s call.node None (bodies.Accusation a) rec in
    from-fine s es os c.args.self.now c.args.self.now call (gives_note true s note call) p (grows-refl c.args.self.now)
    (extends-gives_note s note call) (λ h.
    let late = sym (c.may_rise.ensures s call.node h.is) ∙ c.if-not-may_rise.true in
    subst (λ (o : Option NoteBody). Plays s es os c.args.self.now (gives_note true s o call))
    (sym (asked-late s call.node a rec late)) p)

pub returns-then-not-may_rise-clause-spends : goal.returns-then-not-may_rise-clause-spends
returns-then-not-may_rise-clause-spends g c = spends-none c.args.self.now c.args.self.now _ (nothing-same c.args.self.now)

pub returns-then-not-may_rise-clause-stores : goal.returns-then-not-may_rise-clause-stores
returns-then-not-may_rise-clause-stores g c =
    stores-none c.args.self.now.signer c.args.self.now.signer (g.D.Disk.state c.args.disk.now).model refl

pub returns-clause-plays : goal.returns-clause-plays
returns-clause-plays g c = λ s es os call rec p.
    let v : Kept = the_view c.self.inside in
    let some : c.note_of.result ≡ Some c.in-Some.own = search rules in
    let own : c.in-Some.own ≡ own_note c.self.inside.me c.self.inside.signer.state = some_is _ _ (sym some ∙ c.note_of.ensures.kept ∙ c.self.invariant.newest_own) in
    let who : c.args.acc.now.accused ≡ c.self.inside.me = (c.must_answer.ensures.0 c.if-not-must_answer.false).member ∙ ap (λ (n : NoteBody). n.member) own in
    let exact = subst (λ (n : NoteBody). c.answer_mask.result.0 ≡ answering_mask c.self.inside.group.t n.mask.0 c.args.acc.now.ring.0) own c.answer_mask.ensures.exact in
    let a = c.args.acc.now in
    let note : Option NoteBody = asked_with s call.node None (bodies.Accusation a) rec in
    let answered : Bool → Call = λ works. gives_note works s note call in
    runs-from-fine s es os c.args.self.now c.want_note.new.self call answered c.want_note.result p c.want_note.ensures.grows
    (extends-gives_note s note call) (λ h.
    let n = subst (λ v. IsNode s v call.node) (sym c.self.view_is) h.is in
    let rises = sym (c.may_rise.ensures s call.node h.is) ∙ c.if-not-may_rise.false in
    runs-same s es os c.want_note.new.self (λ works. wants works s (next_own s call.node c.answer_mask.result) (addressees s None) call) answered c.want_note.result
    (λ works. answers-is s v call a rec c.answer_mask.result works n who rises exact) (c.want_note.ensures.plays s es os call p))

pub returns-then-not-must_answer-clause-spends : goal.returns-then-not-must_answer-clause-spends
returns-then-not-must_answer-clause-spends g c = spends-none c.args.self.now c.args.self.now _ (nothing-same c.args.self.now)

pub returns-then-not-must_answer-clause-stores : goal.returns-then-not-must_answer-clause-stores
returns-then-not-must_answer-clause-stores g c = stores-none c.args.self.now.signer c.args.self.now.signer (g.D.Disk.state c.args.disk.now).model refl

pub returns-clause-fails : goal.returns-clause-fails
returns-clause-fails g c = λ s es os call rec p.
    let v : Kept = the_view c.self.inside in
    let some : c.note_of.result ≡ Some c.in-Some.own = search rules in
    let own : c.in-Some.own ≡ own_note c.self.inside.me c.self.inside.signer.state = some_is _ _ (sym some ∙ c.note_of.ensures.kept ∙ c.self.invariant.newest_own) in
    let who : c.args.acc.now.accused ≡ c.self.inside.me = (c.must_answer.ensures.0 c.if-not-must_answer.false).member ∙ ap (λ (n : NoteBody). n.member) own in
    let exact = subst (λ (n : NoteBody). c.answer_mask.result.0 ≡ answering_mask c.self.inside.group.t n.mask.0 c.args.acc.now.ring.0) own c.answer_mask.ensures.exact in
    let a = c.args.acc.now in
    let wanted : Call = wants true s (next_own s call.node c.answer_mask.result) (addressees s None) call in
    fails-same wanted
    (gives_note true s (asked_with s call.node None (bodies.Accusation a) rec) call) c.args.self.now c.want_note.new.self
    (g.D.Disk.state c.args.disk.now).model (g.D.Disk.state c.want_note.new.disk).model c.want_note.result (λ fine.
    let h = p.at (c.want_note.ensures.grows.going fine) in
    let n = subst (λ v. IsNode s v call.node) (sym c.self.view_is) h.is in
    let rises = sym (c.may_rise.ensures s call.node h.is) ∙ c.if-not-may_rise.false in
    answers-is s v call a rec c.answer_mask.result true n who rises exact) (c.want_note.ensures.fails s es os call p)

pub answer_mask-requires-clause-enabled : goal.answer_mask-requires-clause-enabled
answer_mask-requires-clause-enabled g c = (c.must_answer.ensures.0 c.if-not-must_answer.false).ring

pub answer_mask-requires-clause-good : goal.answer_mask-requires-clause-good
answer_mask-requires-clause-good g c =
    let some : c.note_of.result ≡ Some c.in-Some.own = search rules in
    let own : c.in-Some.own ≡ own_note c.self.inside.me c.self.inside.signer.state = some_is _ _ (sym some ∙ c.note_of.ensures.kept ∙ c.self.invariant.newest_own) in
    let allowed : note_mask c.self.inside.group.t c.in-Some.own.mask.0 ≡ true = subst (λ (n : NoteBody). note_mask c.self.inside.group.t n.mask.0 ≡ true) (sym own) c.self.invariant.allowed in
    good-enabling c.self.inside.group.t c.in-Some.own.mask.0 c.args.acc.now.ring.0 allowed (c.must_answer.ensures.0 c.if-not-must_answer.false).ring

pub want_note-requires-clause-allowed : goal.want_note-requires-clause-allowed
want_note-requires-clause-allowed g c = good-allowed c.args.self.now.group.t c.answer_mask.result.0 (subst (λ (v : Kept). good_mask v.group.t c.answer_mask.result.0 ≡ true) c.self.view_is c.answer_mask.ensures.good)
