use Rattle.std.proofs.Common.{◌≡◌, ◌≢◌, true, Option, None, subst, sym}
use Rattle.records.specs.declared.Body.TheVariants as bodies
use Rattle.node_rules.specs.Deliveries.{asked_with, gives_note}
use Rattle.audit_node.specs.Playing.{Kept, IsMirror, Plays}
use Rattle.audit_node.specs.contracts.Mirror.{the_view}
use Rattle.audit_node.proofs.HandleLemmas.{asked-other, asked-late, answers-is}
use Rattle.audit_node.proofs.PlayLemmas.{grows-refl}
use Rattle.audit_node.proofs.PlayLemmas.{from-fine}
use Rattle.rebuttal.specs.Rebuttals.{answering_mask}
use Rattle.std.proofs.Common.{rules, Some, ap, ◌∙◌}
use Rattle.std.proofs.lemmas.Bool.{false≢true}
use Rattle.ff_ids.specs.Masks.{good_mask, note_mask}
use Rattle.node_rules.proofs.Allowed.{good-allowed, good-enabling}
use Rattle.ff_ids.specs.declared.NoteBody.{NoteBody}
use Rattle.rebuttal.specs.Rebuttals.{IsAgainst}
use Rattle.audit_node.specs.Noted.{own_note}
use Rattle.audit_node.proofs.NotedLemmas.{some_is}
use Rattle.audit_node.proofs.Mirror.answer.Goals as goal

pub returns-then-not-must_answer-clause-plays : goal.returns-then-not-must_answer-clause-plays
returns-then-not-must_answer-clause-plays c = λ s es call rec p.
    let v : Kept = the_view c.self.inside in
    let a = c.args.acc.now in
    let note : Option NoteBody = asked_with s call.node None (bodies.Accusation a) rec in
    from-fine s es c.args.self.now c.args.self.now call (gives_note true s note call) p (grows-refl c.args.self.now) (λ h.
    let n = subst (λ v. IsMirror s v call.node) (sym c.self.view_is) h.is in
    let some : c.note_of.result ≡ Some c.in-Some.own = search rules in
    let own : c.in-Some.own ≡ own_note c.self.inside.me c.self.inside.stored = some_is _ _ (sym some ∙ c.note_of.ensures.kept ∙ c.self.invariant.newest_own) in
    let asked = subst (λ (w : Kept). a.accused ≡ w.me → IsAgainst (own_note w.me w.stored) a) (sym c.self.view_is) c.requires in
    let apart : a.accused ≢ c.self.inside.me = λ e. false≢true (sym c.if-not-must_answer.true ∙ c.must_answer.ensures.1 (subst (λ (n : NoteBody). IsAgainst n a) (sym own) (asked e))) in
    subst (λ (o : Option NoteBody). Plays s es c.args.self.now (gives_note true s o call))
    (sym (asked-other s v call.node a rec n apart)) p)

pub returns-then-not-may_rise-clause-plays : goal.returns-then-not-may_rise-clause-plays
returns-then-not-may_rise-clause-plays c = λ s es call rec p.
    let a = c.args.acc.now in
    let note : Option NoteBody = asked_with s call.node None (bodies.Accusation a) rec in
    from-fine s es c.args.self.now c.args.self.now call (gives_note true s note call) p (grows-refl c.args.self.now) (λ h.
    let late = sym (c.may_rise.ensures s call.node h.is) ∙ c.if-not-may_rise.true in
    subst (λ (o : Option NoteBody). Plays s es c.args.self.now (gives_note true s o call))
    (sym (asked-late s call.node a rec late)) p)

pub returns-clause-plays : goal.returns-clause-plays
returns-clause-plays c = λ s es call rec p.
    let v : Kept = the_view c.self.inside in
    let some : c.note_of.result ≡ Some c.in-Some.own = search rules in
    let own : c.in-Some.own ≡ own_note c.self.inside.me c.self.inside.stored = some_is _ _ (sym some ∙ c.note_of.ensures.kept ∙ c.self.invariant.newest_own) in
    let who : c.args.acc.now.accused ≡ c.self.inside.me = (c.must_answer.ensures.0 c.if-not-must_answer.false).member ∙ ap (λ (n : NoteBody). n.member) own in
    let exact = subst (λ (n : NoteBody). c.answer_mask.result.0 ≡ answering_mask c.self.inside.group.t n.mask.0 c.args.acc.now.ring.0) own c.answer_mask.ensures.exact in
    let a = c.args.acc.now in
    let note : Option NoteBody = asked_with s call.node None (bodies.Accusation a) rec in
    from-fine s es c.args.self.now c.want_note.new.self call (gives_note true s note call) p c.want_note.ensures.grows (λ h.
    let n = subst (λ v. IsMirror s v call.node) (sym c.self.view_is) h.is in
    let rises = sym (c.may_rise.ensures s call.node h.is) ∙ c.if-not-may_rise.false in
    subst (Plays s es c.want_note.new.self) (answers-is s v call a rec c.answer_mask.result true n who rises exact) (c.want_note.ensures.plays s es call p))

pub answer_mask-requires-clause-enabled : goal.answer_mask-requires-clause-enabled
answer_mask-requires-clause-enabled c = (c.must_answer.ensures.0 c.if-not-must_answer.false).ring

pub answer_mask-requires-clause-good : goal.answer_mask-requires-clause-good
answer_mask-requires-clause-good c =
    let some : c.note_of.result ≡ Some c.in-Some.own = search rules in
    let own : c.in-Some.own ≡ own_note c.self.inside.me c.self.inside.stored = some_is _ _ (sym some ∙ c.note_of.ensures.kept ∙ c.self.invariant.newest_own) in
    let allowed : note_mask c.self.inside.group.t c.in-Some.own.mask.0 ≡ true = subst (λ (n : NoteBody). note_mask c.self.inside.group.t n.mask.0 ≡ true) (sym own) c.self.invariant.allowed in
    good-enabling c.self.inside.group.t c.in-Some.own.mask.0 c.args.acc.now.ring.0 allowed (c.must_answer.ensures.0 c.if-not-must_answer.false).ring

pub want_note-requires : goal.want_note-requires
want_note-requires c = good-allowed c.args.self.now.group.t c.answer_mask.result.0 (subst (λ (v : Kept). good_mask v.group.t c.answer_mask.result.0 ≡ true) c.self.view_is c.answer_mask.ensures.good)
