use Rattle.std.proofs.Common.{rules, refl, ◌≡◌, ℕ, Bool, true, false, Option, Some, None, ap, sym, subst, ◌∙◌}
use Rattle.std.specs.Option.{option_map}
use Rattle.ff_ids.specs.declared.RingNo.{RingNo}
use Rattle.ff_ids.specs.Notes.{newest}
use Rattle.ff_ids.specs.Views.{State}
use Rattle.journal.specs.declared.event.What.TheVariants as told
use Rattle.records.specs.declared.Body.{Body}
use Rattle.records.specs.declared.Body.TheVariants.{Accusation}
use Rattle.node_rules.specs.Nodes.{state_of}
use Rattle.node_rules.specs.Calls.{Call, tells, wants}
use Rattle.node_rules.specs.Ticking.{has_accused, ring_for as ring_of, accuses, wants_accusation}
use Rattle.node_core.specs.Neighbours.{addressees}
use Rattle.node_core.specs.Playing.{Kept, IsNode, Plays}
use Rattle.node_core.specs.contracts.Node.{the_view}
use Rattle.node_core.proofs.PlayLemmas.{setting-me, grows-refl, grows-trans}
use Rattle.node_core.proofs.ExtendLemmas.{extends-accuses, extends-wants_accusation}
use Rattle.node_core.proofs.DueLemmas.{from-fine, runs-from-fine, runs-same}
use Rattle.node_core.proofs.AccusingLemmas.{accused-same, accuses-kept, accuses-wanted, no-note, ring-of_note, rings-same, body-is, wanted-if}
use Rattle.node_core.proofs.SpendLemmas.{open-further, still-failed, nothing-same, spends-none, spends-after}
use Rattle.signer.specs.Signing.{SignerState}
use Rattle.node_core.proofs.DiskLemmas.{stores-none, stored-behind, fails-behind, fails-given, fails-same}
use Rattle.node_core.proofs.Node.accuse.Goals as goal

pub returns-then-has_accused-clause-plays : goal.returns-then-has_accused-clause-plays
returns-then-has_accused-clause-plays g c = λ s es os call p.
    let v : Kept = the_view c.self.inside in
    from-fine s es os c.args.self.now c.args.self.now call (accuses true s call c.args.member) p (grows-refl c.args.self.now) (extends-accuses s call c.args.member) (λ h.
    let is = subst (λ v. IsNode s v call.node) (sym c.self.view_is) h.is in
    let kept : has_accused s (state_of s call.node) c.args.member ≡ true = sym (accused-same s v call.node c.args.member is c.self.invariant.membership_group) ∙ sym (c.has_accused.ensures (state_of s call.node) is.holds) ∙ c.if-has_accused.true in
    subst (Plays s es os c.args.self.now) (sym (accuses-kept s call c.args.member kept)) p)

pub returns-in_default-clause-plays : goal.returns-in_default-clause-plays
returns-in_default-clause-plays g c = λ s es os call p.
    let v : Kept = the_view c.self.inside in
    let m : ℕ = c.args.member in
    let c1 : Call = tells s (told.Silent m) call in
    let at = c.tell.ensures.plays s es os call p in
    from-fine s es os c.args.self.now c.tell.new.self call (accuses true s call m) p c.tell.ensures.grows (extends-accuses s call m) (λ h.
    let is = subst (λ v. IsNode s v call.node) (sym c.self.view_is) h.is in
    let fails : has_accused s (state_of s call.node) m ≡ false = sym (accused-same s v call.node m is c.self.invariant.membership_group) ∙ sym (c.has_accused.ensures (state_of s call.node) is.holds) ∙ c.if-has_accused.false in
    wanted-if s es os c.tell.new.self call m fails at (λ told_fine.
    let now = subst (λ v. IsNode s v c1.node) (sym c.self-2.view_is) (at.at told_fine).is in
    let none : c.note_of.result ≡ None = search rules in
    no-note s (state_of s call.node) m (sym (c.note_of.ensures.value (state_of s call.node) now.holds) ∙ none)))

pub returns-in_default-ring_for-clause-plays : goal.returns-in_default-ring_for-clause-plays
returns-in_default-ring_for-clause-plays g c = λ s es os call p.
    let v : Kept = the_view c.self.inside in
    let v2 : Kept = the_view c.self-2.inside in
    let m : ℕ = c.args.member in
    let st : State = state_of s call.node in
    let c1 : Call = tells s (told.Silent m) call in
    let at = c.tell.ensures.plays s es os call p in
    from-fine s es os c.args.self.now c.tell.new.self call (accuses true s call m) p c.tell.ensures.grows (extends-accuses s call m) (λ h.
    let is = subst (λ v. IsNode s v call.node) (sym c.self.view_is) h.is in
    let fails : has_accused s st m ≡ false = sym (accused-same s v call.node m is c.self.invariant.membership_group) ∙ sym (c.has_accused.ensures st is.holds) ∙ c.if-has_accused.false in
    wanted-if s es os c.tell.new.self call m fails at (λ told_fine.
    let now = subst (λ v. IsNode s v c1.node) (sym c.self-2.view_is) (at.at told_fine).is in
    let some : c.note_of.result ≡ Some c.in-Some.note = search rules in
    let none : c.ring_for.result ≡ None = search rules in
    let noted : newest st.notes m ≡ Some c.in-Some.note = sym (c.note_of.ensures.value st now.holds) ∙ some in
    ring-of_note s st m c.in-Some.note noted ∙ sym (rings-same s v2 c1.node m c.in-Some.note now c.self-2.invariant.membership_group) ∙ sym (c.ring_for.ensures.ring st now.holds) ∙ ap (λ (o : Option RingNo). option_map (λ r. r.0) o) none))

pub returns-clause-plays : goal.returns-clause-plays
returns-clause-plays g c = λ s es os call p.
    let v : Kept = the_view c.self.inside in
    let v2 : Kept = the_view c.self-2.inside in
    let m : ℕ = c.args.member in
    let st : State = state_of s call.node in
    let c1 : Call = tells s (told.Silent m) call in
    let body : Body = Accusation (record { accuser = c.self-2.inside.me; accused = m; epoch = c.in-Some.note.epoch; ring = c.in-Some-ring_for.ring }) in
    let accused : Bool → Call = λ works. accuses works s call m in
    let at = c.tell.ensures.plays s es os call p in
    let grows = grows-trans c.args.self.now c.tell.new.self c.want_accusation.new.self c.tell.ensures.grows c.want_accusation.ensures.grows in
    runs-from-fine s es os c.args.self.now c.want_accusation.new.self call accused c.want_accusation.result p grows (extends-accuses s call m) (λ h.
    let is = subst (λ v. IsNode s v call.node) (sym c.self.view_is) h.is in
    let fails : has_accused s st m ≡ false = sym (accused-same s v call.node m is c.self.invariant.membership_group) ∙ sym (c.has_accused.ensures st is.holds) ∙ c.if-has_accused.false in
    let wanted : Bool → Call = λ works. wants_accusation works s m (ring_of s st m) c1 in
    runs-same s es os c.want_accusation.new.self wanted accused c.want_accusation.result (λ works. sym (accuses-wanted works s call m fails))
    (runs-from-fine s es os c.tell.new.self c.want_accusation.new.self c1 wanted c.want_accusation.result at c.want_accusation.ensures.grows (extends-wants_accusation s m (ring_of s st m) c1) (λ h1.
    let now = subst (λ v. IsNode s v c1.node) (sym c.self-2.view_is) h1.is in
    let some : c.note_of.result ≡ Some c.in-Some.note = search rules in
    let one : c.ring_for.result ≡ Some c.in-Some-ring_for.ring = search rules in
    let noted : newest st.notes m ≡ Some c.in-Some.note = sym (c.note_of.ensures.value st now.holds) ∙ some in
    let ring : ring_of s st m ≡ Some c.in-Some-ring_for.ring.0 =
    ring-of_note s st m c.in-Some.note noted ∙ sym (rings-same s v2 c1.node m c.in-Some.note now c.self-2.invariant.membership_group) ∙ sym (c.ring_for.ensures.ring st now.holds) ∙ ap (λ (o : Option RingNo). option_map (λ r. r.0) o) one in
    let who = setting-me s v2.group v2.heal v2.me v2.authority v2.signer.key now.setting in
    runs-same s es os c.want_accusation.new.self (λ works. wants works s body (addressees s (Some m)) c1) wanted c.want_accusation.result
    (λ works. sym (ap (λ (o : Option ℕ). wants_accusation works s m o c1) ring ∙ ap (λ (b : Body). wants works s b (addressees s (Some m)) c1) (sym (body-is s st m v2.me c.in-Some.note c.in-Some-ring_for.ring who noted))))
    (c.want_accusation.ensures.plays s es os c1 at))))

pub returns-then-has_accused-clause-spends : goal.returns-then-has_accused-clause-spends
returns-then-has_accused-clause-spends g c = spends-none c.args.self.now c.args.self.now _ (nothing-same c.args.self.now)

pub returns-in_default-clause-spends : goal.returns-in_default-clause-spends
returns-in_default-clause-spends g c = spends-none c.args.self.now c.tell.new.self _ c.tell.ensures.signs_nothing

pub returns-in_default-ring_for-clause-spends : goal.returns-in_default-ring_for-clause-spends
returns-in_default-ring_for-clause-spends g c = spends-none c.args.self.now c.tell.new.self _ c.tell.ensures.signs_nothing

pub returns-clause-spends : goal.returns-clause-spends
returns-clause-spends g c = spends-after c.args.self.now c.tell.new.self c.want_accusation.new.self _ _ c.tell.ensures.signs_nothing (still-failed c.args.self.now c.tell.new.self c.tell.ensures.grows) c.want_accusation.ensures.spends

pub returns-clause-closed : goal.returns-clause-closed
returns-clause-closed g c = open-further c.want_accusation.result _ _ _ c.want_accusation.ensures.closed (ap (λ (s : SignerState). s.closed) c.tell.ensures.signs_nothing.signer)

pub returns-then-has_accused-clause-stores : goal.returns-then-has_accused-clause-stores
returns-then-has_accused-clause-stores g c = stores-none c.args.self.now.signer c.args.self.now.signer (g.D.Disk.state c.args.disk.now).model refl

pub returns-in_default-clause-stores : goal.returns-in_default-clause-stores
returns-in_default-clause-stores g c = stores-none c.args.self.now.signer c.tell.new.self.signer (g.D.Disk.state c.args.disk.now).model c.tell.ensures.signs_nothing.signer

pub returns-in_default-ring_for-clause-stores : goal.returns-in_default-ring_for-clause-stores
returns-in_default-ring_for-clause-stores g c = stores-none c.args.self.now.signer c.tell.new.self.signer (g.D.Disk.state c.args.disk.now).model c.tell.ensures.signs_nothing.signer

pub returns-clause-stores : goal.returns-clause-stores
returns-clause-stores g c =
    stored-behind c.args.self.now c.tell.new.self c.want_accusation.new.self (g.D.Disk.state c.args.disk.now).model (g.D.Disk.state c.want_accusation.new.disk).model c.want_accusation.result c.tell.ensures.signs_nothing c.want_accusation.ensures.stores

pub returns-clause-fails : goal.returns-clause-fails
returns-clause-fails g c = λ s es os call p.
    let v : Kept = the_view c.self.inside in
    let v2 : Kept = the_view c.self-2.inside in
    let m : ℕ = c.args.member in
    let st : State = state_of s call.node in
    let c1 : Call = tells s (told.Silent m) call in
    let body : Body = Accusation (record { accuser = c.self-2.inside.me; accused = m; epoch = c.in-Some.note.epoch; ring = c.in-Some-ring_for.ring }) in
    let at = c.tell.ensures.plays s es os call p in
    let x = (g.D.Disk.state c.args.disk.now).model in
    let y = (g.D.Disk.state c.want_accusation.new.disk).model in
    fails-given (accuses true s call m) c.args.self.now c.want_accusation.new.self x y c.want_accusation.result (λ fine.
    let told_fine = c.want_accusation.ensures.grows.going fine in
    let is = subst (λ v. IsNode s v call.node) (sym c.self.view_is) (p.at (c.tell.ensures.grows.going told_fine)).is in
    let fails : has_accused s st m ≡ false = sym (accused-same s v call.node m is c.self.invariant.membership_group) ∙ sym (c.has_accused.ensures st is.holds) ∙ c.if-has_accused.false in
    let now = subst (λ v. IsNode s v c1.node) (sym c.self-2.view_is) (at.at told_fine).is in
    let some : c.note_of.result ≡ Some c.in-Some.note = search rules in
    let one : c.ring_for.result ≡ Some c.in-Some-ring_for.ring = search rules in
    let noted : newest st.notes m ≡ Some c.in-Some.note = sym (c.note_of.ensures.value st now.holds) ∙ some in
    let ring : ring_of s st m ≡ Some c.in-Some-ring_for.ring.0 =
    ring-of_note s st m c.in-Some.note noted ∙ sym (rings-same s v2 c1.node m c.in-Some.note now c.self-2.invariant.membership_group) ∙ sym (c.ring_for.ensures.ring st now.holds) ∙ ap (λ (o : Option RingNo). option_map (λ r. r.0) o) one in
    let who = setting-me s v2.group v2.heal v2.me v2.authority v2.signer.key now.setting in
    let wanted : Call = wants true s body (addressees s (Some m)) c1 in
    let same : wanted ≡ accuses true s call m =
    sym (ap (λ (o : Option ℕ). wants_accusation true s m o c1) ring ∙ ap (λ (b : Body). wants true s b (addressees s (Some m)) c1) (sym (body-is s st m v2.me c.in-Some.note c.in-Some-ring_for.ring who noted)))
    ∙ sym (accuses-wanted true s call m fails) in
    fails-same wanted (accuses true s call m) c.args.self.now c.want_accusation.new.self x y c.want_accusation.result (λ again. same)
    (fails-behind wanted c.args.self.now c.tell.new.self c.want_accusation.new.self x y c.want_accusation.result c.tell.ensures.signs_nothing (c.want_accusation.ensures.fails s es os c1 at)))
