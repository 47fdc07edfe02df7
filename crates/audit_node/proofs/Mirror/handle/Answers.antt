use Rattle.records.specs.declared.keys.Key.TheVariants as keys
use Rattle.std.proofs.Common.{◌≡◌, true, Option, Some, None, subst, sym, ap, ◌∙◌}
use Rattle.records.specs.declared.Record.{Record}
use Rattle.journal.specs.declared.event.What.TheVariants as told
use Rattle.node_rules.specs.Nodes.{state_of}
use Rattle.node_rules.specs.Refusals.{refusal}
use Rattle.node_rules.specs.Calls.{Call, tells, takes}
use Rattle.ff_ids.specs.declared.Fault.{Fault}
use Rattle.audit_node.specs.Returning.{asks_return}
use Rattle.node_rules.specs.Deliveries.{asked_with, gives_note, handles}
use Rattle.audit_node.specs.Playing.{Kept, IsMirror, Plays}
use Rattle.audit_node.specs.contracts.Mirror.{the_view}
use Rattle.audit_node.proofs.HandleLemmas.{handles-accepts, returns-is, refuses-is}
use Rattle.audit_node.proofs.PlayLemmas.{grows-trans}
use Rattle.audit_node.proofs.PlayLemmas.{from-fine}
use Rattle.audit_node.proofs.RefusalLemmas.{refusal-is}
use Rattle.std.proofs.Common.{refl}
use Rattle.std.proofs.Common.{ℕ}
use Rattle.std.specs.FinMap.{get}
use Rattle.ff_ids.specs.Notes.{newest}
use Rattle.validate.specs.Table.{known_by}
use Rattle.audit_node.specs.Noted.{IsOthers, own_note}
use Rattle.audit_node.proofs.NotedLemmas.{others-of}
use Rattle.audit_node.proofs.Mirror.handle.Goals as goal

pub returns-then-asks_return-clause-plays : goal.returns-then-asks_return-clause-plays
returns-then-asks_return-clause-plays c = λ s es call p.
    let v : Kept = the_view c.self.inside in
    let rec : Record = c.args.rec in
    let grows =
    grows-trans c.args.self.now c.tell-in-Err.new.self c.want_note.new.self c.tell-in-Err.ensures.grows c.want_note.ensures.grows in
    let after : Call = tells s (told.Took rec.body (Some c.in-Err.fault)) call in
    from-fine s es c.args.self.now c.want_note.new.self call (handles true s call rec) p grows (λ h.
    let n = subst (λ v. IsMirror s v call.node) (sym c.self.view_is) h.is in
    let fault =
    sym (refusal-is s v call.node rec (Some c.in-Err.fault) n (c.in-Err.ensures.fault (state_of s call.node) n.holds)) in
    let asks =
    ap (λ (o : Option Fault). asks_return s call.node o rec) (sym fault)
    ∙ sym (c.asks_return-asks_return.ensures s call.node h.is) ∙ c.if-asks_return.true in
    subst (Plays s es c.want_note.new.self) (returns-is true s v call rec c.in-Err.fault v.stored.mask n fault asks refl)
    (c.want_note.ensures.plays s es after (c.tell-in-Err.ensures.plays s es call p)))

pub returns-else-asks_return-clause-plays : goal.returns-else-asks_return-clause-plays
returns-else-asks_return-clause-plays c = λ s es call p.
    let v : Kept = the_view c.self.inside in
    from-fine s es c.args.self.now c.tell-in-Err.new.self call (handles true s call c.args.rec) p c.tell-in-Err.ensures.grows (λ h.
    let n = subst (λ v. IsMirror s v call.node) (sym c.self.view_is) h.is in
    let fault =
    sym (refusal-is s v call.node c.args.rec (Some c.in-Err.fault) n (c.in-Err.ensures.fault (state_of s call.node) n.holds)) in
    let asks =
    ap (λ (o : Option Fault). asks_return s call.node o c.args.rec) (sym fault)
    ∙ sym (c.asks_return-asks_return.ensures s call.node h.is) ∙ c.if-asks_return.false in
    subst (Plays s es c.tell-in-Err.new.self) (refuses-is true s call c.args.rec c.in-Err.fault fault asks)
    (c.tell-in-Err.ensures.plays s es call p))

pub returns-in-Ok-clause-plays : goal.returns-in-Ok-clause-plays
returns-in-Ok-clause-plays c = λ s es call p.
    let v : Kept = the_view c.self.inside in
    let grows = grows-trans c.args.self.now c.tell.new.self c.accept.new.self c.tell.ensures.grows c.accept.ensures.grows in
    from-fine s es c.args.self.now c.accept.new.self call (handles true s call c.args.rec) p grows (λ h.
    let n = subst (λ v. IsMirror s v call.node) (sym c.self.view_is) h.is in
    let none = sym (refusal-is s v call.node c.args.rec None n (c.in-Ok.ensures.fault (state_of s call.node) n.holds)) in
    let same : c.in-Ok.checked.rec ≡ c.args.rec = ap (λ x. x.rec) c.in-Ok.ensures.checked.same in
    let after = tells s (told.Took c.args.rec.body None) call in
    let ran = c.accept.ensures.plays s es after (c.tell.ensures.plays s es call p) (ap (λ (r : Record). refusal s call.node r) same ∙ none) in
    subst (Plays s es c.accept.new.self)
    (ap (λ (r : Record). gives_note true s (asked_with s call.node None c.args.rec.body r) (takes s r after)) same ∙ sym (handles-accepts true s call c.args.rec none)) ran)

pub accept-requires-clause-other : goal.accept-requires-clause-other
accept-requires-clause-other c =
    let v : Kept = the_view c.self.inside in
    let i = c.self.invariant in
    let newest_is : newest i.notes.state.notes v.me ≡ Some (own_note v.me v.stored) = (i.notes.holds.at_number v.me).newest_note ∙ i.newest_own in
    let others = others-of (known_by v.group (keys.Lms v.authority) v.roster i.notes.state v.me) c.args.rec c.args.rec.body (own_note v.me v.stored) newest_is (sym (c.in-Ok.ensures.fault i.notes.state i.notes.holds)) in
    subst (λ (m : ℕ). IsOthers m c.args.rec.body) (ap (λ (w : Kept). w.me) c.self.view_is ∙ sym c.tell.ensures.grows.me) others

pub accept-requires-clause-own : goal.accept-requires-clause-own
accept-requires-clause-own c =
    let P : Kept → Type 0 = λ v. get v.membership.notes v.me ≡ Some (own_note v.me v.stored) in
    subst P (sym c.tell.ensures.frame) (subst P c.self.view_is c.self.invariant.newest_own)
