use Rattle.std.proofs.Common.{◌≡◌, false, refl, subst, sym, ◌∙◌}
use Rattle.std.specs.Prelude.{nat_eq}
use Rattle.ff_ids.specs.declared.summary.RecordKey.TheVariants as keys
use Rattle.records.specs.declared.Body.TheVariants as bodies
use Rattle.node_rules.specs.Calls.{Call}
use Rattle.audit_node.specs.News.{keeps}
use Rattle.audit_node.specs.Playing.{Kept, Plays, Grows, with_known}
use Rattle.audit_node.specs.contracts.Mirror.{the_view}
use Rattle.audit_node.proofs.NotedLemmas.{still}
use Rattle.audit_node.proofs.PlayLemmas.{grows-adds, grows-trans, takes-fresh}
use Rattle.audit_node.proofs.Mirror.take_note.Goals as goal

pub returns-clause-plays : goal.returns-clause-plays
returns-clause-plays c = λ s es call p.
    let v : Kept = the_view c.self.inside in
    let kept : Call = keeps s c.args.rec.rec call in
    let mid = c.accept_note.ensures.plays s es v call c.self.invariant.membership_group refl (record { body = c.rec-checked.ensures.checked.body; signature = c.rec-checked.ensures.checked.writable.signature }) (subst (λ v. Plays s es v call) (sym c.self.view_is) p) in
    subst (Plays s es c.add_news.new.self) (sym (takes-fresh s c.args.rec.rec (bodies.Note c.args.note) (keys.Note c.args.note.member) call c.requires.note tt refl))
    (c.add_news.ensures.plays s es kept mid)

pub returns-clause-grows : goal.returns-clause-grows
returns-clause-grows c =
    let v : Kept = the_view c.self.inside in
    let w : Kept = with_known v c.accept_note.new.membership c.accept_note.new.records c.accept_note.new.telling in
    subst (λ (x : Kept). Grows x c.add_news.new.self) c.self.view_is
    (grows-trans v w c.add_news.new.self (grows-adds v v.membership w.membership v.records w.records _ v.telling w.telling c.accept_note.ensures.told) c.add_news.ensures.grows)

pub invariant_of-self : goal.invariant_of-self
invariant_of-self c =
    let i = c.self.invariant in
    let other = subst (λ (v : Kept). nat_eq c.args.note.member v.me ≡ false) (sym c.self.view_is) c.requires.other in
    record {
      some = i.some;
      few = i.few;
      period = i.period;
      timeout = i.timeout;
      membership_group = c.accept_note.ensures.group ∙ i.membership_group;
      detector_group = i.detector_group;
      within = i.within;
      risen = i.risen;
      joined = still c.self.inside.membership c.accept_note.new.membership c.self.inside.me c.accept_note.ensures.members i.joined;
      allowed = i.allowed;
      notes = c.accept_note.ensures.notes;
      newest_own = c.accept_note.ensures.others c.self.inside.me other ∙ i.newest_own;
    }
