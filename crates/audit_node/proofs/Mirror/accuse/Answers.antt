use Rattle.std.proofs.Common.{rules, ◌≡◌, ℕ, true, false, Option, Some, None, ap, sym, subst, ◌∙◌}
use Rattle.std.specs.Option.{option_map}
use Rattle.ff_ids.specs.declared.RingNo.{RingNo}
use Rattle.ff_ids.specs.Notes.{newest}
use Rattle.ff_ids.specs.Views.{State}
use Rattle.journal.specs.declared.event.What.TheVariants as told
use Rattle.records.specs.declared.Body.{Body}
use Rattle.records.specs.declared.Body.TheVariants.{Accusation}
use Rattle.node_rules.specs.Nodes.{state_of}
use Rattle.node_rules.specs.Calls.{Call, tells, wants}
use Rattle.node_rules.specs.Ticking.{has_accused, ring_for as ring_of, accuses, wants_accusation}
use Rattle.audit_node.specs.Neighbours.{addressees}
use Rattle.audit_node.specs.Playing.{Kept, IsMirror, Plays}
use Rattle.audit_node.specs.contracts.Mirror.{the_view}
use Rattle.audit_node.proofs.PlayLemmas.{setting-me, grows-refl, grows-trans}
use Rattle.audit_node.proofs.PlayLemmas.{from-fine}
use Rattle.audit_node.proofs.AccusingLemmas.{accused-same, accuses-kept, accuses-wanted, no-note, ring-of_note, rings-same, body-is, wanted-if}
use Rattle.audit_node.proofs.Mirror.accuse.Goals as goal

pub returns-then-has_accused-clause-plays : goal.returns-then-has_accused-clause-plays
returns-then-has_accused-clause-plays c = λ s es call p.
    let v : Kept = the_view c.self.inside in
    from-fine s es c.args.self.now c.args.self.now call (accuses true s call c.args.member) p (grows-refl c.args.self.now) (λ h.
    let is = subst (λ v. IsMirror s v call.node) (sym c.self.view_is) h.is in
    let kept : has_accused s (state_of s call.node) c.args.member ≡ true = sym (accused-same s v call.node c.args.member is c.self.invariant.membership_group) ∙ sym (c.has_accused.ensures (state_of s call.node) is.holds) ∙ c.if-has_accused.true in
    subst (Plays s es c.args.self.now) (sym (accuses-kept s call c.args.member kept)) p)

pub returns-in_default-clause-plays : goal.returns-in_default-clause-plays
returns-in_default-clause-plays c = λ s es call p.
    let v : Kept = the_view c.self.inside in
    let m : ℕ = c.args.member in
    let c1 : Call = tells s (told.Silent m) call in
    let at = c.tell.ensures.plays s es call p in
    from-fine s es c.args.self.now c.tell.new.self call (accuses true s call m) p c.tell.ensures.grows (λ h.
    let is = subst (λ v. IsMirror s v call.node) (sym c.self.view_is) h.is in
    let fails : has_accused s (state_of s call.node) m ≡ false = sym (accused-same s v call.node m is c.self.invariant.membership_group) ∙ sym (c.has_accused.ensures (state_of s call.node) is.holds) ∙ c.if-has_accused.false in
    wanted-if s es c.tell.new.self call m (λ h1. fails) at (λ h1.
    let now = subst (λ v. IsMirror s v c1.node) (sym c.self-2.view_is) h1.is in
    let none : c.note_of.result ≡ None = search rules in
    no-note s (state_of s call.node) m (sym (c.note_of.ensures.value (state_of s call.node) now.holds) ∙ none)))

pub returns-in_default-ring_for-clause-plays : goal.returns-in_default-ring_for-clause-plays
returns-in_default-ring_for-clause-plays c = λ s es call p.
    let v : Kept = the_view c.self.inside in
    let v2 : Kept = the_view c.self-2.inside in
    let m : ℕ = c.args.member in
    let st : State = state_of s call.node in
    let c1 : Call = tells s (told.Silent m) call in
    let at = c.tell.ensures.plays s es call p in
    from-fine s es c.args.self.now c.tell.new.self call (accuses true s call m) p c.tell.ensures.grows (λ h.
    let is = subst (λ v. IsMirror s v call.node) (sym c.self.view_is) h.is in
    let fails : has_accused s st m ≡ false = sym (accused-same s v call.node m is c.self.invariant.membership_group) ∙ sym (c.has_accused.ensures st is.holds) ∙ c.if-has_accused.false in
    wanted-if s es c.tell.new.self call m (λ h1. fails) at (λ h1.
    let now = subst (λ v. IsMirror s v c1.node) (sym c.self-2.view_is) h1.is in
    let some : c.note_of.result ≡ Some c.in-Some.note = search rules in
    let none : c.ring_for.result ≡ None = search rules in
    let noted : newest st.notes m ≡ Some c.in-Some.note = sym (c.note_of.ensures.value st now.holds) ∙ some in
    ring-of_note s st m c.in-Some.note noted ∙ sym (rings-same s v2 c1.node m c.in-Some.note now c.self-2.invariant.membership_group) ∙ sym (c.ring_for.ensures.ring st now.holds) ∙ ap (λ (o : Option RingNo). option_map (λ r. r.0) o) none))

pub returns-clause-plays : goal.returns-clause-plays
returns-clause-plays c = λ s es call p.
    let v : Kept = the_view c.self.inside in
    let v2 : Kept = the_view c.self-2.inside in
    let m : ℕ = c.args.member in
    let st : State = state_of s call.node in
    let c1 : Call = tells s (told.Silent m) call in
    let w : Kept = c.want_accusation.new.self in
    let body : Body = Accusation (record { accuser = c.self-2.inside.me; accused = m; epoch = c.in-Some.note.epoch; ring = c.in-Some-ring_for.ring }) in
    let at = c.tell.ensures.plays s es call p in
    let grows = grows-trans c.args.self.now c.tell.new.self w c.tell.ensures.grows c.want_accusation.ensures.grows in
    from-fine s es c.args.self.now w call (accuses true s call m) p grows (λ h.
    let is = subst (λ v. IsMirror s v call.node) (sym c.self.view_is) h.is in
    let fails : has_accused s st m ≡ false = sym (accused-same s v call.node m is c.self.invariant.membership_group) ∙ sym (c.has_accused.ensures st is.holds) ∙ c.if-has_accused.false in
    subst (Plays s es w) (sym (accuses-wanted true s call m fails))
    (from-fine s es c.tell.new.self w c1 (wants_accusation true s m (ring_of s st m) c1) at c.want_accusation.ensures.grows (λ h1.
    let now = subst (λ v. IsMirror s v c1.node) (sym c.self-2.view_is) h1.is in
    let some : c.note_of.result ≡ Some c.in-Some.note = search rules in
    let one : c.ring_for.result ≡ Some c.in-Some-ring_for.ring = search rules in
    let noted : newest st.notes m ≡ Some c.in-Some.note = sym (c.note_of.ensures.value st now.holds) ∙ some in
    let ring : ring_of s st m ≡ Some c.in-Some-ring_for.ring.0 =
    ring-of_note s st m c.in-Some.note noted ∙ sym (rings-same s v2 c1.node m c.in-Some.note now c.self-2.invariant.membership_group) ∙ sym (c.ring_for.ensures.ring st now.holds) ∙ ap (λ (o : Option RingNo). option_map (λ r. r.0) o) one in
    let who = setting-me s v2 c1.node now in
    subst (Plays s es w)
    (sym (ap (λ (o : Option ℕ). wants_accusation true s m o c1) ring ∙ ap (λ (b : Body). wants true s b (addressees s (Some m)) c1) (sym (body-is s st m v2.me c.in-Some.note c.in-Some-ring_for.ring who noted))))
    (c.want_accusation.ensures.plays s es c1 at))))
