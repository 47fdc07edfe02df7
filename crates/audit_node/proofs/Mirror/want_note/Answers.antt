use Rattle.std.proofs.Common.{◌≡◌, ℕ, true, false, eqb, None, ap, refl, sym, subst, ◌∙◌, arith}
use Rattle.std.proofs.lemmas.Bool.Decides.{nat_tests}
use Rattle.epoch_store.specs.declared.Stored.{Stored}
use Rattle.ff_ids.specs.declared.NoteBody.{NoteBody}
use Rattle.ff_ids.specs.declared.summary.RecordKey.TheVariants as keys
use Rattle.records.specs.declared.Body.{Body}
use Rattle.records.specs.declared.Body.TheVariants as bodies
use Rattle.node_rules.specs.Calls.{own_record, spends}
use Rattle.audit_node.specs.News.{keeps}
use Rattle.audit_node.specs.Playing.{Grows, Kept, Plays, with_known}
use Rattle.audit_node.specs.Signatures.{next_own}
use Rattle.audit_node.specs.contracts.Mirror.{the_view}
use Rattle.audit_node.proofs.PlayLemmas.{grows-stored, grows-trans, next-own-is, passed-on, signed-at, signs-fresh, used_up-at}
use Rattle.audit_node.proofs.Mirror.want_note.Goals as goal

pub returns-then-index-self-clause-plays : goal.returns-then-index-self-clause-plays
returns-then-index-self-clause-plays c = λ s es call p.
    let v : Kept = the_view c.self.inside in
    let full : eqb v.stored.next v.indexes ≡ true = grind (arith, nat_tests, c.if-index-self.true) in
    used_up-at s es v c.tell.new.self call (next_own s call.node c.args.mask) None v.stored.next
    (subst (λ v. Plays s es v call) (sym c.self.view_is) p) refl full
    (subst (λ (w : Kept). Grows w c.tell.new.self) (sym c.self.view_is) c.tell.ensures.grows) (c.tell.ensures.plays s es call p)

pub returns-clause-plays : goal.returns-clause-plays
returns-clause-plays c = λ s es call p.
    let v : Kept = the_view c.self.inside in
    let kept : Stored = c.stored_after-self-inside.result in
    let note : ℕ → NoteBody = λ epoch. record { member = v.me; epoch = epoch; mask = c.args.mask } in
    let b : Body = bodies.Note (note c.new.result) in
    let w : Kept = record v { stored = kept } in
    let mid : Kept = with_known w c.keep_own.new.membership c.keep_own.new.records c.keep_own.new.telling in
    let news : Kept = c.add_news.new.self in
    let last : Kept = c.send_own.new.self in
    let left : eqb v.stored.next v.indexes ≡ false = grind (arith, nat_tests, c.if-index-self.false) in
    signed-at s es v last call b (next_own s call.node c.args.mask) None kept v.stored.next
    (subst (λ v. Plays s es v call) (sym c.self.view_is) p) left refl
    (λ n. ap (λ (k : ℕ). bodies.Note (note k)) c.new.ensures ∙ next-own-is s v call.node c.args.mask n) c.stored_after-self-inside.ensures c.note_is_spelled.ensures refl
    (grows-trans w mid last (c.keep_own.ensures.grows w) (grows-trans mid news last c.add_news.ensures.grows c.send_own.ensures.grows))
    (λ q at long.
    let held = c.keep_own.ensures.plays s es w call c.self.invariant.membership_group refl q at long in
    let fresh = c.add_news.ensures.plays s es (keeps s (own_record s call.node b) (spends s b call)) held in
    let done = subst (Plays s es news) (signs-fresh s b (keys.Note v.me) call tt refl) fresh in
    passed-on s es call b None v.stored.next news last at done (λ x r. c.send_own.ensures.plays s es x v.own_length long r))

pub returns-clause-grows : goal.returns-clause-grows
returns-clause-grows c =
    let v : Kept = the_view c.self.inside in
    let w : Kept = record v { stored = c.stored_after-self-inside.result } in
    let mid : Kept = with_known w c.keep_own.new.membership c.keep_own.new.records c.keep_own.new.telling in
    let last : Kept = c.send_own.new.self in
    subst (λ (x : Kept). Grows x last) c.self.view_is
    (grows-stored v last c.stored_after-self-inside.result
    (grows-trans w mid last (c.keep_own.ensures.grows w) (grows-trans mid c.add_news.new.self last c.add_news.ensures.grows c.send_own.ensures.grows)))
