use Rattle.std.proofs.Common.{Bool, ◌≡◌, Some, subst, sym, ap, ◌∙◌, refl}
use Rattle.std.specs.Prelude.{Ok, Err}
use Rattle.signer.specs.declared.SignFault.{SignFault}
use Rattle.signer.specs.Signing.{AnswersBy, SignerState, after_signing}
use Rattle.records.specs.Signing.{CheckedRecord}
use Rattle.records.specs.declared.Body.{Body}
use Rattle.records.specs.declared.Body.TheVariants as bodies
use Rattle.node_core.specs.Playing.{Plays, Kept}
use Rattle.node_core.specs.contracts.Node.{the_view}
use Rattle.node_core.proofs.PlayLemmas.{grows-signer}
use Rattle.node_core.proofs.SigningLemmas.{signer-at, stopped-at, used_up-at, signed-at, wants-refused, refused-keeps}
use Rattle.node_core.proofs.SpendLemmas.{lives-signed, signed-spends, unsigned-spends, spends-none, nothing-same, refused-none}
use Rattle.node_core.specs.Neighbours.{addressees}
use Rattle.node_rules.specs.Calls.{wants}
use Rattle.epoch_store.specs.Asked.{put_calls}
use Rattle.std.proofs.Common.{◌≡◌, true}
use Rattle.epoch_store.specs.declared.Stored.{Stored}
use Rattle.signer.specs.Signing.{after_signing, stored_after}
use Rattle.signer.specs.Signs.{MakesFrom}
use Rattle.node_core.proofs.SigningLemmas.{free-below}
use Rattle.node_core.proofs.DiskLemmas.{stores-none, stores-signed, fails-signed, wants-stored}
use Rattle.node_core.specs.OnDisks.{Stores, FailsToStore}
use Rattle.node_core.proofs.DueLemmas.{plays-stuck}
use Rattle.node_core.proofs.ExtendLemmas.{extends-wants}
use Rattle.node_core.proofs.Node.want_accusation.Goals as goal

pub returns-in-Err-StoreFault-clause-plays : goal.returns-in-Err-StoreFault-clause-plays
returns-in-Err-StoreFault-clause-plays g c = λ s es os call p.
    let v : Kept = the_view c.self.inside in
    let p0 = subst (λ v. Plays s es os v call) (sym c.self.view_is) p in
    let kept = refused-keeps c.self.inside.signer c.sign_accusation.new.self (bodies.Accusation c.args.acc.now) c.in-Err-StoreFault.field-0 c.in-Err-StoreFault.ensures.after in
    let answered = subst (λ (f : SignFault). AnswersBy {T = CheckedRecord} c.self.inside.signer (Err f)) c.in-Err-StoreFault.field-0-is c.in-Err-StoreFault.ensures.answers in
    let closed = signer-at s es os v call c.sign_accusation.new.self p0 kept.0 kept.1 in
    stopped-at s es os v c.tell-in-Err-StoreFault.new.self call _ (Some c.args.acc.now.accused) p0 answered.1 (grows-signer v c.tell-in-Err-StoreFault.new.self c.sign_accusation.new.self c.tell-in-Err-StoreFault.ensures.grows) c.tell-in-Err-StoreFault.ensures.refused (c.tell-in-Err-StoreFault.ensures.plays s es os call closed)

pub returns-in-Ok-clause-plays : goal.returns-in-Ok-clause-plays
returns-in-Ok-clause-plays g c = λ s es os call p.
    let v : Kept = the_view c.self.inside in
    let b : Body = bodies.Accusation c.args.acc.now in
    let p0 = subst (λ v. Plays s es os v call) (sym c.self.view_is) p in
    signed-at s es os v c.pass_on_accusation.new.self call b b (Some c.args.acc.now.accused) c.sign_accusation.new.self c.in-Ok.rec c.state-index.result.next p0 c.self.invariant.signer_group c.in-Ok.ensures.answers.1 (ap (λ x. x.next) c.state-index.ensures) (λ n. refl)
    (ap (λ x. x.key) c.in-Ok.ensures.after) (ap (λ x. x.state) c.in-Ok.ensures.after) c.in-Ok.ensures.signed c.pass_on_accusation.ensures.grows
    (λ q e own. c.pass_on_accusation.ensures.plays s es os call q e own)

pub returns-in-Err-Exhausted-clause-plays : goal.returns-in-Err-Exhausted-clause-plays
returns-in-Err-Exhausted-clause-plays g c = λ s es os call p.
    let v : Kept = the_view c.self.inside in
    let p0 = subst (λ v. Plays s es os v call) (sym c.self.view_is) p in
    let kept = refused-keeps c.self.inside.signer c.sign_accusation.new.self (bodies.Accusation c.args.acc.now) c.in-Err-Exhausted.field-0 c.in-Err-Exhausted.ensures.after in
    let answered = subst (λ (f : SignFault). AnswersBy {T = CheckedRecord} c.self.inside.signer (Err f)) c.in-Err-Exhausted.field-0-is c.in-Err-Exhausted.ensures.answers in
    let same = signer-at s es os v call c.sign_accusation.new.self p0 kept.0 kept.1 in
    used_up-at s es os v c.tell.new.self call _ (Some c.args.acc.now.accused) c.state-index.result.next p0 (ap (λ x. x.next) c.state-index.ensures) (ap (λ x. x.next) c.state-index.ensures ∙ sym answered.1 ∙ answered.2) (grows-signer v c.tell.new.self c.sign_accusation.new.self c.tell.ensures.grows) (c.tell.ensures.plays s es os call same)

pub returns-in-Ok-clause-spends : goal.returns-in-Ok-clause-spends
returns-in-Ok-clause-spends g c =
    let v : Kept = the_view c.self.inside in
    let b : Body = bodies.Accusation c.args.acc.now in
    let lives = lives-signed c.self.inside.signer c.sign_accusation.new.self b (Ok c.in-Ok.rec) _ _ c.in-Ok.ensures in
    signed-spends v c.args.self.now c.pass_on_accusation.new.self c.sign_accusation.new.self _ _ c.state-index.result.next (bodies.Accusation c.args.acc.now) b c.self.view_is (sym c.has_failed-refused.ensures ∙ c.if-refused.false) (ap (λ x. x.next) c.state-index.ensures) refl lives c.pass_on_accusation.ensures.spent

pub returns-in-Err-StoreFault-clause-spends : goal.returns-in-Err-StoreFault-clause-spends
returns-in-Err-StoreFault-clause-spends g c =
    let b : Body = bodies.Accusation c.args.acc.now in
    let lives = lives-signed c.self.inside.signer c.sign_accusation.new.self b (Err c.in-Err-StoreFault.field-0) _ _ c.in-Err-StoreFault.ensures in
    unsigned-spends (the_view c.self.inside) c.args.self.now c.tell-in-Err-StoreFault.new.self c.sign_accusation.new.self _ _ c.self.view_is (sym c.has_failed-refused.ensures ∙ c.if-refused.false) lives c.tell-in-Err-StoreFault.ensures.signs_nothing

pub returns-in-Err-Exhausted-clause-spends : goal.returns-in-Err-Exhausted-clause-spends
returns-in-Err-Exhausted-clause-spends g c =
    let b : Body = bodies.Accusation c.args.acc.now in
    let lives = lives-signed c.self.inside.signer c.sign_accusation.new.self b (Err c.in-Err-Exhausted.field-0) _ _ c.in-Err-Exhausted.ensures in
    unsigned-spends (the_view c.self.inside) c.args.self.now c.tell.new.self c.sign_accusation.new.self _ _ c.self.view_is (sym c.has_failed-refused.ensures ∙ c.if-refused.false) lives c.tell.ensures.signs_nothing

pub returns-in-Err-OutOfMemory-clause-spends : goal.returns-in-Err-OutOfMemory-clause-spends
returns-in-Err-OutOfMemory-clause-spends g c =
    let v : Kept = the_view c.self.inside in
    let b : Body = bodies.Accusation c.args.acc.now in
    let lives = lives-signed c.self.inside.signer c.sign_accusation.new.self b (Err c.in-Err-OutOfMemory.field-0) _ _ c.in-Err-OutOfMemory.ensures in
    let v1 : Kept = record v { signer = c.sign_accusation.new.self } in
    unsigned-spends v c.args.self.now _ c.sign_accusation.new.self _ _ c.self.view_is (sym c.has_failed-refused.ensures ∙ c.if-refused.false) lives (refused-none v1 v1 _ refl refl c.fail.ensures)

pub returns-in-Err-OutOfMemory-clause-plays : goal.returns-in-Err-OutOfMemory-clause-plays
returns-in-Err-OutOfMemory-clause-plays g c = λ s es os call p.
    let v : Kept = the_view c.self.inside in
    wants-refused s es os v _ call _ (Some c.args.acc.now.accused) (subst (λ v. Plays s es os v call) (sym c.self.view_is) p) c.fail.ensures

pub returns-in-Ok-clause-closed : goal.returns-in-Ok-clause-closed
returns-in-Ok-clause-closed g c =
    let closed : SignerState → Bool = λ s. s.closed in
    ap closed c.pass_on_accusation.ensures.spent.signer ∙ ap closed c.in-Ok.ensures.after ∙ ap (λ (v : Kept). v.signer.closed) c.self.view_is

pub returns-in-Err-Exhausted-clause-closed : goal.returns-in-Err-Exhausted-clause-closed
returns-in-Err-Exhausted-clause-closed g c =
    let closed : SignerState → Bool = λ s. s.closed in
    let same : c.sign_accusation.new.self ≡ c.self.inside.signer = subst (λ (f : SignFault). c.sign_accusation.new.self ≡ after_signing {T = CheckedRecord} c.self.inside.signer (bodies.Accusation c.args.acc.now) (Err f)) c.in-Err-Exhausted.field-0-is c.in-Err-Exhausted.ensures.after in
    ap closed c.tell.ensures.signs_nothing.signer ∙ ap closed same ∙ ap (λ (v : Kept). v.signer.closed) c.self.view_is

pub returns-in-Ok-clause-stores : goal.returns-in-Ok-clause-stores
returns-in-Ok-clause-stores g c =
    let v : Kept = the_view c.self.inside in
    let b : Body = bodies.Accusation c.args.acc.now in
    let x = (g.D.Disk.state c.args.disk.now).model in
    let y = (g.D.Disk.state c.sign_accusation.new.disk).model in
    subst (λ (w : Kept). Stores w.signer c.pass_on_accusation.new.self.signer x y) c.self.view_is
    (stores-signed v.signer c.sign_accusation.new.self c.pass_on_accusation.new.self.signer b c.in-Ok.rec x y c.in-Ok.ensures.after c.pass_on_accusation.ensures.spent.signer c.in-Ok.ensures.follows)

pub returns-in-Err-StoreFault-clause-fails : goal.returns-in-Err-StoreFault-clause-fails
returns-in-Err-StoreFault-clause-fails g c = λ s es os call p fine.
    let v : Kept = the_view c.self.inside in
    let b : Body = bodies.Accusation c.args.acc.now in
    let p0 = subst (λ v. Plays s es os v call) (sym c.self.view_is) p in
    let told = c.tell-in-Err-StoreFault in
    let h = p0.at (told.ensures.grows.going fine) in
    let answered = subst (λ (f : SignFault). AnswersBy {T = CheckedRecord} c.self.inside.signer (Err f)) c.in-Err-StoreFault.field-0-is c.in-Err-StoreFault.ensures.answers in
    let after = subst (λ (f : SignFault). c.sign_accusation.new.self ≡ after_signing {T = CheckedRecord} c.self.inside.signer b (Err f)) c.in-Err-StoreFault.field-0-is c.in-Err-StoreFault.ensures.after in
    let free = free-below s v call.node h.is answered.1 in
    let x = (g.D.Disk.state c.args.disk.now).model in
    let y = (g.D.Disk.state c.sign_accusation.new.disk).model in
    let kept : Stored = (wants true s b (addressees s (Some c.args.acc.now.accused)) call).node.stored in
    subst (λ (w : Kept). FailsToStore kept w.signer told.new.self.signer x y) c.self.view_is
    (fails-signed v.signer c.sign_accusation.new.self told.new.self.signer b kept x y after told.ensures.signs_nothing.signer (subst (λ (f : SignFault). MakesFrom {T = CheckedRecord} (Err f) (put_calls v.signer.seat (stored_after v.signer.state b)) x y) c.in-Err-StoreFault.field-0-is c.in-Err-StoreFault.ensures.follows) (wants-stored s b (Some c.args.acc.now.accused) call free ∙ ap (λ (k : Stored). stored_after k b) (sym h.is.stored)))

pub returns-then-refused-clause-plays : goal.returns-then-refused-clause-plays
returns-then-refused-clause-plays g c = λ s es os call p.
    let b : Body = bodies.Accusation c.args.acc.now in
    let failed = ap (λ (v : Kept). v.telling.failed) (sym c.self.view_is) ∙ sym c.has_failed-refused.ensures ∙ c.if-refused.true in
    plays-stuck s es os c.args.self.now call (wants true s b (addressees s (Some c.args.acc.now.accused)) call) failed p (extends-wants s b (addressees s (Some c.args.acc.now.accused)) call)

pub returns-then-refused-clause-spends : goal.returns-then-refused-clause-spends
returns-then-refused-clause-spends g c = spends-none c.args.self.now c.args.self.now _ (nothing-same c.args.self.now)

pub returns-then-refused-clause-stores : goal.returns-then-refused-clause-stores
returns-then-refused-clause-stores g c = stores-none c.args.self.now.signer c.args.self.now.signer (g.D.Disk.state c.args.disk.now).model refl
