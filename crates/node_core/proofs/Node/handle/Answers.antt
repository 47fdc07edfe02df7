use Rattle.records.specs.declared.keys.Key.TheVariants as keys
use Rattle.std.proofs.Common.{◌≡◌, Bool, true, Option, Some, None, subst, sym, ap, ◌∙◌}
use Rattle.ff_ids.specs.declared.NoteBody.{NoteBody}
use Rattle.records.specs.declared.Record.{Record}
use Rattle.journal.specs.declared.event.What.TheVariants as told
use Rattle.node_rules.specs.Nodes.{state_of}
use Rattle.node_rules.specs.Refusals.{refusal}
use Rattle.node_rules.specs.Calls.{Call, tells, takes, wants}
use Rattle.ff_ids.specs.declared.Fault.{Fault}
use Rattle.epoch_store.specs.declared.Stored.{Stored}
use Rattle.node_core.specs.Neighbours.{addressees}
use Rattle.node_core.specs.Signatures.{next_own}
use Rattle.node_core.specs.Returning.{asks_return}
use Rattle.node_rules.specs.Deliveries.{asked_with, gives_note, handles}
use Rattle.node_core.specs.Playing.{Extends, Kept, IsNode, Plays}
use Rattle.node_core.specs.contracts.Node.{the_view}
use Rattle.node_core.proofs.HandleLemmas.{handles-accepts, returns-is, refuses-is}
use Rattle.node_core.proofs.PlayLemmas.{grows-trans}
use Rattle.node_core.proofs.ExtendLemmas.{extends-gives_note, extends-handles, extends-takes, extends-trans}
use Rattle.node_core.proofs.DueLemmas.{from-fine, plays-stuck, runs-from-fine, runs-same}
use Rattle.node_core.proofs.RefusalLemmas.{refusal-is}
use Rattle.node_core.proofs.SpendLemmas.{open-further, still-failed, spends-none, spends-after}
use Rattle.signer.specs.Signing.{SignerState}
use Rattle.node_core.proofs.DiskLemmas.{stores-none, stored-behind, fails-behind, fails-given, fails-same}
use Rattle.std.proofs.Common.{ℕ}
use Rattle.std.specs.FinMap.{get}
use Rattle.ff_ids.specs.Notes.{newest}
use Rattle.validate.specs.Table.{known_by}
use Rattle.node_core.specs.Noted.{IsOthers, own_note}
use Rattle.node_core.proofs.NotedLemmas.{others-of}
use Rattle.node_core.proofs.Node.handle.Goals as goal

pub returns-then-asks_return-clause-plays : goal.returns-then-asks_return-clause-plays
returns-then-asks_return-clause-plays g c = λ s es os call p.
    let v : Kept = the_view c.self.inside in
    let rec : Record = c.args.rec in
    let grows =
    grows-trans c.args.self.now c.tell-in-Err.new.self c.want_note.new.self c.tell-in-Err.ensures.grows c.want_note.ensures.grows in
    let handled : Bool → Call = λ works. handles works s call rec in
    let after : Call = tells s (told.Took rec.body (Some c.in-Err.fault)) call in
    runs-from-fine s es os c.args.self.now c.want_note.new.self call handled c.want_note.result p grows
    (extends-handles s call rec) (λ h.
    let n = subst (λ v. IsNode s v call.node) (sym c.self.view_is) h.is in
    let fault =
    sym (refusal-is s v call.node rec (Some c.in-Err.fault) n (c.in-Err.ensures.fault (state_of s call.node) n.holds)) in
    let asks =
    ap (λ (o : Option Fault). asks_return s call.node o rec) (sym fault)
    ∙ sym (c.asks_return-asks_return.ensures s call.node h.is) ∙ c.if-asks_return.true in
    runs-same s es os c.want_note.new.self
    (λ works. wants works s (next_own s call.node c.state.result.mask) (addressees s None) after) handled c.want_note.result
    (λ works. returns-is works s v call rec c.in-Err.fault c.state.result.mask n fault asks (ap (λ (x : Stored). x.mask) c.state.ensures))
    (c.want_note.ensures.plays s es os after (c.tell-in-Err.ensures.plays s es os call p)))

pub returns-then-asks_return-clause-fails : goal.returns-then-asks_return-clause-fails
returns-then-asks_return-clause-fails g c = λ s es os call p.
    let v : Kept = the_view c.self.inside in
    let rec : Record = c.args.rec in
    let x = (g.D.Disk.state c.args.disk.now).model in
    let y = (g.D.Disk.state c.want_note.new.disk).model in
    let after : Call = tells s (told.Took rec.body (Some c.in-Err.fault)) call in
    let wanted : Call = wants true s (next_own s call.node c.state.result.mask) (addressees s None) after in
    let grows =
    grows-trans c.args.self.now c.tell-in-Err.new.self c.want_note.new.self c.tell-in-Err.ensures.grows c.want_note.ensures.grows in
    fails-same wanted (handles true s call rec) c.args.self.now c.want_note.new.self x y c.want_note.result (λ fine.
    let h = p.at (grows.going fine) in
    let n = subst (λ v. IsNode s v call.node) (sym c.self.view_is) h.is in
    let fault =
    sym (refusal-is s v call.node rec (Some c.in-Err.fault) n (c.in-Err.ensures.fault (state_of s call.node) n.holds)) in
    let asks =
    ap (λ (o : Option Fault). asks_return s call.node o rec) (sym fault)
    ∙ sym (c.asks_return-asks_return.ensures s call.node h.is) ∙ c.if-asks_return.true in
    returns-is true s v call rec c.in-Err.fault c.state.result.mask n fault asks (ap (λ (x : Stored). x.mask) c.state.ensures))
    (fails-behind wanted c.args.self.now c.tell-in-Err.new.self c.want_note.new.self x y c.want_note.result c.tell-in-Err.ensures.signs_nothing
    (c.want_note.ensures.fails s es os after (c.tell-in-Err.ensures.plays s es os call p)))

pub returns-else-asks_return-clause-plays : goal.returns-else-asks_return-clause-plays
returns-else-asks_return-clause-plays g c = λ s es os call p.
    let v : Kept = the_view c.self.inside in
    from-fine s es os c.args.self.now c.tell-in-Err.new.self call (handles true s call c.args.rec) p c.tell-in-Err.ensures.grows (extends-handles s call c.args.rec) (λ h.
    let n = subst (λ v. IsNode s v call.node) (sym c.self.view_is) h.is in
    let fault =
    sym (refusal-is s v call.node c.args.rec (Some c.in-Err.fault) n (c.in-Err.ensures.fault (state_of s call.node) n.holds)) in
    let asks =
    ap (λ (o : Option Fault). asks_return s call.node o c.args.rec) (sym fault)
    ∙ sym (c.asks_return-asks_return.ensures s call.node h.is) ∙ c.if-asks_return.false in
    subst (Plays s es os c.tell-in-Err.new.self) (refuses-is true s call c.args.rec c.in-Err.fault fault asks)
    (c.tell-in-Err.ensures.plays s es os call p))

pub returns-else-asks_return-clause-spends : goal.returns-else-asks_return-clause-spends
returns-else-asks_return-clause-spends g c =
    spends-none c.args.self.now c.tell-in-Err.new.self _ c.tell-in-Err.ensures.signs_nothing

pub returns-then-has_failed-clause-plays : goal.returns-then-has_failed-clause-plays
returns-then-has_failed-clause-plays g c = λ s es os call p.
    let v : Kept = the_view c.self.inside in
    let w : Kept = c.tell.new.self in
    let rec : Record = c.args.rec in
    let failed : w.telling.failed ≡ true = ap (λ (k : Kept). k.telling.failed) (sym c.self-in-Ok.view_is) ∙ sym c.has_failed.ensures ∙ c.if-has_failed.true in
    let after : Call = tells s (told.Took rec.body None) call in
    let taken : Call = takes s rec after in
    let note : Option NoteBody = asked_with s call.node None rec.body rec in
    let accepted : Call = gives_note true s note taken in
    let further : Extends after accepted =
    extends-trans after taken accepted (extends-takes s rec after) (extends-gives_note s note taken) in
    from-fine s es os c.args.self.now w call (handles true s call rec) p c.tell.ensures.grows (extends-handles s call rec) (λ h.
    let n = subst (λ v. IsNode s v call.node) (sym c.self.view_is) h.is in
    let none = sym (refusal-is s v call.node rec None n (c.in-Ok.ensures.fault (state_of s call.node) n.holds)) in
    plays-stuck s es os w after (handles true s call rec) failed (c.tell.ensures.plays s es os call p) (subst (Extends after) (sym (handles-accepts true s call rec none)) further))

pub returns-then-has_failed-clause-spends : goal.returns-then-has_failed-clause-spends
returns-then-has_failed-clause-spends g c = spends-none c.args.self.now c.tell.new.self _ c.tell.ensures.signs_nothing

pub returns-then-has_failed-clause-stores : goal.returns-then-has_failed-clause-stores
returns-then-has_failed-clause-stores g c = stores-none c.args.self.now.signer c.tell.new.self.signer (g.D.Disk.state c.args.disk.now).model c.tell.ensures.signs_nothing.signer

pub returns-else-has_failed-clause-plays : goal.returns-else-has_failed-clause-plays
returns-else-has_failed-clause-plays g c = λ s es os call p.
    let v : Kept = the_view c.self.inside in
    let grows = grows-trans c.args.self.now c.tell.new.self c.accept.new.self c.tell.ensures.grows c.accept.ensures.grows in
    let handled : Bool → Call = λ works. handles works s call c.args.rec in
    runs-from-fine s es os c.args.self.now c.accept.new.self call handled c.accept.result p grows (extends-handles s call c.args.rec) (λ h.
    let n = subst (λ v. IsNode s v call.node) (sym c.self.view_is) h.is in
    let none = sym (refusal-is s v call.node c.args.rec None n (c.in-Ok.ensures.fault (state_of s call.node) n.holds)) in
    let same : c.in-Ok.checked.rec ≡ c.args.rec = ap (λ x. x.rec) c.in-Ok.ensures.checked.same in
    let after = tells s (told.Took c.args.rec.body None) call in
    let ran = c.accept.ensures.plays s es os after (c.tell.ensures.plays s es os call p) (ap (λ (r : Record). refusal s call.node r) same ∙ none) in
    runs-same s es os c.accept.new.self
    (λ works. gives_note works s (asked_with s call.node None c.args.rec.body c.in-Ok.checked.rec) (takes s c.in-Ok.checked.rec after)) handled c.accept.result
    (λ works. ap (λ (r : Record). gives_note works s (asked_with s call.node None c.args.rec.body r) (takes s r after)) same ∙ sym (handles-accepts works s call c.args.rec none)) ran)

pub returns-else-has_failed-clause-spends : goal.returns-else-has_failed-clause-spends
returns-else-has_failed-clause-spends g c = spends-after c.args.self.now c.tell.new.self c.accept.new.self _ _ c.tell.ensures.signs_nothing (still-failed c.args.self.now c.tell.new.self c.tell.ensures.grows) c.accept.ensures.spends

pub returns-else-has_failed-clause-closed : goal.returns-else-has_failed-clause-closed
returns-else-has_failed-clause-closed g c = open-further c.accept.result _ _ _ c.accept.ensures.closed (ap (λ (s : SignerState). s.closed) c.tell.ensures.signs_nothing.signer)

pub returns-else-has_failed-clause-stores : goal.returns-else-has_failed-clause-stores
returns-else-has_failed-clause-stores g c =
    stored-behind c.args.self.now c.tell.new.self c.accept.new.self (g.D.Disk.state c.args.disk.now).model (g.D.Disk.state c.accept.new.disk).model c.accept.result c.tell.ensures.signs_nothing c.accept.ensures.stores

pub returns-else-has_failed-clause-fails : goal.returns-else-has_failed-clause-fails
returns-else-has_failed-clause-fails g c = λ s es os call p.
    let v : Kept = the_view c.self.inside in
    let x = (g.D.Disk.state c.args.disk.now).model in
    let y = (g.D.Disk.state c.accept.new.disk).model in
    let grows = grows-trans c.args.self.now c.tell.new.self c.accept.new.self c.tell.ensures.grows c.accept.ensures.grows in
    fails-given (handles true s call c.args.rec) c.args.self.now c.accept.new.self x y c.accept.result (λ fine.
    let h = p.at (grows.going fine) in
    let n = subst (λ v. IsNode s v call.node) (sym c.self.view_is) h.is in
    let none = sym (refusal-is s v call.node c.args.rec None n (c.in-Ok.ensures.fault (state_of s call.node) n.holds)) in
    let same : c.in-Ok.checked.rec ≡ c.args.rec = ap (λ x. x.rec) c.in-Ok.ensures.checked.same in
    let after = tells s (told.Took c.args.rec.body None) call in
    let accepted : Call =
    gives_note true s (asked_with s call.node None c.args.rec.body c.in-Ok.checked.rec) (takes s c.in-Ok.checked.rec after) in
    let ran = c.accept.ensures.fails s es os after (c.tell.ensures.plays s es os call p) (ap (λ (r : Record). refusal s call.node r) same ∙ none) in
    fails-same accepted (handles true s call c.args.rec) c.args.self.now c.accept.new.self x y c.accept.result
    (λ again. ap (λ (r : Record). gives_note true s (asked_with s call.node None c.args.rec.body r) (takes s r after)) same ∙ sym (handles-accepts true s call c.args.rec none))
    (fails-behind accepted c.args.self.now c.tell.new.self c.accept.new.self x y c.accept.result c.tell.ensures.signs_nothing ran))

pub accept-requires-clause-other : goal.accept-requires-clause-other
accept-requires-clause-other g c =
    let v : Kept = the_view c.self.inside in
    let i = c.self.invariant in
    let newest_is : newest i.notes.state.notes v.me ≡ Some (own_note v.me v.signer.state) = (i.notes.holds.at_number v.me).newest_note ∙ i.newest_own in
    let others = others-of (known_by v.group (keys.Lms v.authority) v.roster i.notes.state v.me) c.args.rec c.args.rec.body (own_note v.me v.signer.state) newest_is (sym (c.in-Ok.ensures.fault i.notes.state i.notes.holds)) in
    subst (λ (m : ℕ). IsOthers m c.args.rec.body) (ap (λ (w : Kept). w.me) c.self.view_is ∙ sym c.tell.ensures.grows.me) others

pub accept-requires-clause-own : goal.accept-requires-clause-own
accept-requires-clause-own g c =
    let P : Kept → Type 0 = λ v. get v.membership.notes v.me ≡ Some (own_note v.me v.signer.state) in
    subst P (sym c.tell.ensures.frame) (subst P c.self.view_is c.self.invariant.newest_own)
