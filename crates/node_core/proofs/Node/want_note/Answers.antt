use Rattle.std.proofs.Common.{Bool, ◌≡◌, None, subst, sym, ap, ◌∙◌, refl, rules}
use Rattle.std.specs.Prelude.{Ok, Err}
use Rattle.signer.specs.declared.SignFault.{SignFault}
use Rattle.signer.specs.Signing.{AnswersBy, SignerState, after_signing}
use Rattle.records.specs.Signing.{CheckedRecord}
use Rattle.node_rules.specs.Calls.{signs_and_sends, own_record}
use Rattle.node_core.specs.Neighbours.{addressees}
use Rattle.records.specs.declared.Body.{Body}
use Rattle.records.specs.declared.Body.TheVariants as bodies
use Rattle.signer.specs.Signing.{next_note}
use Rattle.node_core.specs.Signatures.{with_stored}
use Rattle.node_core.specs.Playing.{Plays, Kept, Grows}
use Rattle.node_core.specs.contracts.Node.{the_view}
use Rattle.node_core.proofs.PlayLemmas.{grows-signer}
use Rattle.node_core.proofs.SigningLemmas.{signer-at, stopped-at, used_up-at, signed-at, wants-refused, next-own-is, refused-keeps}
use Rattle.node_core.specs.Signatures.{next_own}
use Rattle.node_core.proofs.SpendLemmas.{lives-signed, signed-spends, unsigned-spends, spends-none, nothing-same, refused-none}
use Rattle.node_rules.specs.Calls.{wants}
use Rattle.epoch_store.specs.Asked.{put_calls}
use Rattle.std.proofs.Common.{true}
use Rattle.epoch_store.specs.declared.Stored.{Stored}
use Rattle.signer.specs.Signing.{after_signing, stored_after}
use Rattle.signer.specs.Signs.{MakesFrom}
use Rattle.node_core.proofs.SigningLemmas.{free-below}
use Rattle.node_core.proofs.DiskLemmas.{stores-none, stores-signed, fails-signed, wants-stored}
use Rattle.node_core.specs.OnDisks.{Stores, FailsToStore}
use Rattle.node_core.proofs.DueLemmas.{plays-stuck}
use Rattle.node_core.proofs.ExtendLemmas.{extends-wants}
use Rattle.std.proofs.Common.{ℕ, List, [], ◌∷◌}
use Rattle.std.specs.Prelude.{IfOk}
use Rattle.records.specs.declared.Record.{Record}
use Rattle.datagram.specs.declared.Datagram.TheVariants as kinds
use Rattle.datagram.specs.Spelling.{datagram_bytes}
use Rattle.node_core.specs.Playing.{with_known}
use Rattle.node_core.proofs.PlayLemmas.{grows-trans}
use Rattle.node_core.proofs.SigningLemmas.{passed-on}
use Rattle.node_core.proofs.SpendLemmas.{spent-then, nothing-trans}
use Rattle.ff_ids.specs.declared.summary.RecordKey.TheVariants as keys
use Rattle.node_rules.specs.Calls.{spends}
use Rattle.node_core.specs.News.{keeps}
use Rattle.node_core.proofs.SigningLemmas.{signs-fresh}
use Rattle.node_core.proofs.Node.want_note.Goals as goal

pub returns-in-Err-StoreFault-clause-plays : goal.returns-in-Err-StoreFault-clause-plays
returns-in-Err-StoreFault-clause-plays g c = λ s es os call p.
    let v : Kept = the_view c.self.inside in
    let p0 = subst (λ v. Plays s es os v call) (sym c.self.view_is) p in
    let kept = refused-keeps c.self.inside.signer c.sign_note.new.self (next_note c.self.inside.signer.state c.self.inside.me c.args.mask) c.in-Err-StoreFault.field-0 c.in-Err-StoreFault.ensures.after in
    let answered = subst (λ (f : SignFault). AnswersBy {T = CheckedRecord} c.self.inside.signer (Err f)) c.in-Err-StoreFault.field-0-is c.in-Err-StoreFault.ensures.answers in
    let closed = signer-at s es os v call c.sign_note.new.self p0 kept.0 kept.1 in
    stopped-at s es os v c.tell-in-Err-StoreFault.new.self call _ None p0 answered.1 (grows-signer v c.tell-in-Err-StoreFault.new.self c.sign_note.new.self c.tell-in-Err-StoreFault.ensures.grows) c.tell-in-Err-StoreFault.ensures.refused (c.tell-in-Err-StoreFault.ensures.plays s es os call closed)

pub returns-in-Note-clause-plays : goal.returns-in-Note-clause-plays
returns-in-Note-clause-plays g c = λ s es os call p.
    let v : Kept = the_view c.self.inside in
    let b : Body = next_note c.self.inside.signer.state c.self.inside.me c.args.mask in
    let signed : Kept = record v { signer = c.sign_note.new.self } in
    let kept : Kept = with_known signed c.keep_own.new.membership c.keep_own.new.records c.keep_own.new.telling in
    let p0 = subst (λ v. Plays s es os v call) (sym c.self.view_is) p in
    let news : Kept = c.add_news.new.self in
    let grows =
    grows-trans signed kept c.send_own.new.self (c.keep_own.ensures.grows signed)
    (grows-trans kept news c.send_own.new.self c.add_news.ensures.grows c.send_own.ensures.grows) in
    signed-at s es os v c.send_own.new.self call b (next_own s call.node c.args.mask) None c.sign_note.new.self c.in-Ok.rec c.state-index.result.next p0 c.self.invariant.signer_group c.in-Ok.ensures.answers.1 (ap (λ x. x.next) c.state-index.ensures) (λ n. next-own-is s v call.node c.args.mask n)
    (ap (λ x. x.key) c.in-Ok.ensures.after) (ap (λ x. x.state) c.in-Ok.ensures.after) c.in-Ok.ensures.signed grows
    (λ q e own.
    let note-is : bodies.Note c.in-Note.note ≡ b = search rules in
    let q1 = subst (λ (x : Body). Plays s es os signed (with_stored x call)) (sym note-is) q in
    let own1 = own ∙ ap (λ (x : Body). own_record s call.node x) (sym note-is) in
    let held = c.keep_own.ensures.plays s es os signed call c.self.invariant.membership_group refl q1 e own1 in
    let fresh =
    c.add_news.ensures.plays s es os
    (keeps s (own_record s call.node (bodies.Note c.in-Note.note)) (spends s (bodies.Note c.in-Note.note) call)) held in
    let done =
    subst (Plays s es os news)
    (signs-fresh s (bodies.Note c.in-Note.note) (keys.Note c.in-Note.note.member) call tt refl) fresh in
    let Spelled : List ℕ → Type 0 = λ x. IfOk c.datagram_of-bytes.result (λ bytes. bytes.items ≡ x) in
    let spelled = subst (λ (r : Record). Spelled (datagram_bytes (kinds.Records c.self.inside.me (r ∷ [])))) c.rec-in-Note.ensures.value c.datagram_of-bytes.ensures in
    subst (λ (x : Body). Plays s es os c.send_own.new.self (signs_and_sends s x (addressees s None) call)) note-is
    (passed-on s es os call (bodies.Note c.in-Note.note) None signed news c.send_own.new.self c.in-Ok.rec.rec Spelled q1 grows own1 done (λ x d q2 e2. c.send_own.ensures.plays s es os x d q2 e2) spelled))

pub returns-in-Err-Exhausted-clause-plays : goal.returns-in-Err-Exhausted-clause-plays
returns-in-Err-Exhausted-clause-plays g c = λ s es os call p.
    let v : Kept = the_view c.self.inside in
    let p0 = subst (λ v. Plays s es os v call) (sym c.self.view_is) p in
    let kept = refused-keeps c.self.inside.signer c.sign_note.new.self (next_note c.self.inside.signer.state c.self.inside.me c.args.mask) c.in-Err-Exhausted.field-0 c.in-Err-Exhausted.ensures.after in
    let answered = subst (λ (f : SignFault). AnswersBy {T = CheckedRecord} c.self.inside.signer (Err f)) c.in-Err-Exhausted.field-0-is c.in-Err-Exhausted.ensures.answers in
    let same = signer-at s es os v call c.sign_note.new.self p0 kept.0 kept.1 in
    used_up-at s es os v c.tell.new.self call _ None c.state-index.result.next p0 (ap (λ x. x.next) c.state-index.ensures) (ap (λ x. x.next) c.state-index.ensures ∙ sym answered.1 ∙ answered.2) (grows-signer v c.tell.new.self c.sign_note.new.self c.tell.ensures.grows) (c.tell.ensures.plays s es os call same)

pub returns-in-Note-clause-spends : goal.returns-in-Note-clause-spends
returns-in-Note-clause-spends g c =
    let v : Kept = the_view c.self.inside in
    let signed : Kept = record v { signer = c.sign_note.new.self } in
    let b : Body = next_note c.self.inside.signer.state c.self.inside.me c.args.mask in
    let note-is : bodies.Note c.in-Note.note ≡ b = search rules in
    let lives = lives-signed c.self.inside.signer c.sign_note.new.self b (Ok c.in-Ok.rec) _ _ c.in-Ok.ensures in
    signed-spends v c.args.self.now c.send_own.new.self c.sign_note.new.self _ _ c.state-index.result.next
    (bodies.Note c.in-Note.note) b c.self.view_is (sym c.has_failed.ensures ∙ c.if-has_failed.false)
    (ap (λ x. x.next) c.state-index.ensures) note-is lives
    (spent-then c.state-index.result.next (bodies.Note c.in-Note.note) signed (with_known signed c.keep_own.new.membership c.keep_own.new.records c.keep_own.new.telling) c.send_own.new.self (c.keep_own.ensures.spent signed) (nothing-trans (with_known signed c.keep_own.new.membership c.keep_own.new.records c.keep_own.new.telling) c.add_news.new.self c.send_own.new.self c.add_news.ensures.signs_nothing c.send_own.ensures.signs_nothing) (λ fine. c.add_news.ensures.grows.going (c.send_own.ensures.grows.going fine)))

pub returns-in-Err-StoreFault-clause-spends : goal.returns-in-Err-StoreFault-clause-spends
returns-in-Err-StoreFault-clause-spends g c =
    let b : Body = next_note c.self.inside.signer.state c.self.inside.me c.args.mask in
    let lives = lives-signed c.self.inside.signer c.sign_note.new.self b (Err c.in-Err-StoreFault.field-0) _ _ c.in-Err-StoreFault.ensures in
    unsigned-spends (the_view c.self.inside) c.args.self.now c.tell-in-Err-StoreFault.new.self c.sign_note.new.self _ _ c.self.view_is (sym c.has_failed.ensures ∙ c.if-has_failed.false) lives c.tell-in-Err-StoreFault.ensures.signs_nothing

pub returns-in-Err-Exhausted-clause-spends : goal.returns-in-Err-Exhausted-clause-spends
returns-in-Err-Exhausted-clause-spends g c =
    let b : Body = next_note c.self.inside.signer.state c.self.inside.me c.args.mask in
    let lives = lives-signed c.self.inside.signer c.sign_note.new.self b (Err c.in-Err-Exhausted.field-0) _ _ c.in-Err-Exhausted.ensures in
    unsigned-spends (the_view c.self.inside) c.args.self.now c.tell.new.self c.sign_note.new.self _ _ c.self.view_is (sym c.has_failed.ensures ∙ c.if-has_failed.false) lives c.tell.ensures.signs_nothing

pub returns-in-Err-OutOfMemory-clause-spends : goal.returns-in-Err-OutOfMemory-clause-spends
returns-in-Err-OutOfMemory-clause-spends g c =
    let v : Kept = the_view c.self.inside in
    let b : Body = next_note c.self.inside.signer.state c.self.inside.me c.args.mask in
    let lives = lives-signed c.self.inside.signer c.sign_note.new.self b (Err c.in-Err-OutOfMemory.field-0) _ _ c.in-Err-OutOfMemory.ensures in
    let v1 : Kept = record v { signer = c.sign_note.new.self } in
    unsigned-spends v c.args.self.now _ c.sign_note.new.self _ _ c.self.view_is (sym c.has_failed.ensures ∙ c.if-has_failed.false) lives (refused-none v1 v1 _ refl refl c.fail.ensures)

pub returns-in-Err-OutOfMemory-clause-plays : goal.returns-in-Err-OutOfMemory-clause-plays
returns-in-Err-OutOfMemory-clause-plays g c = λ s es os call p.
    let v : Kept = the_view c.self.inside in
    wants-refused s es os v _ call _ None (subst (λ v. Plays s es os v call) (sym c.self.view_is) p) c.fail.ensures

pub returns-in-Note-clause-closed : goal.returns-in-Note-clause-closed
returns-in-Note-clause-closed g c =
    let closed : SignerState → Bool = λ s. s.closed in
    ap closed c.send_own.ensures.signs_nothing.signer ∙ ap closed c.add_news.ensures.signs_nothing.signer
    ∙ ap closed c.in-Ok.ensures.after ∙ ap (λ (v : Kept). v.signer.closed) c.self.view_is

pub returns-in-Err-Exhausted-clause-closed : goal.returns-in-Err-Exhausted-clause-closed
returns-in-Err-Exhausted-clause-closed g c =
    let closed : SignerState → Bool = λ s. s.closed in
    let same : c.sign_note.new.self ≡ c.self.inside.signer = subst (λ (f : SignFault). c.sign_note.new.self ≡ after_signing {T = CheckedRecord} c.self.inside.signer (next_note c.self.inside.signer.state c.self.inside.me c.args.mask) (Err f)) c.in-Err-Exhausted.field-0-is c.in-Err-Exhausted.ensures.after in
    ap closed c.tell.ensures.signs_nothing.signer ∙ ap closed same ∙ ap (λ (v : Kept). v.signer.closed) c.self.view_is

pub returns-in-Note-clause-stores : goal.returns-in-Note-clause-stores
returns-in-Note-clause-stores g c =
    let v : Kept = the_view c.self.inside in
    let b : Body = next_note c.self.inside.signer.state c.self.inside.me c.args.mask in
    let x = (g.D.Disk.state c.args.disk.now).model in
    let y = (g.D.Disk.state c.sign_note.new.disk).model in
    subst (λ (w : Kept). Stores w.signer c.send_own.new.self.signer x y) c.self.view_is
    (stores-signed v.signer c.sign_note.new.self c.send_own.new.self.signer b c.in-Ok.rec x y c.in-Ok.ensures.after (c.send_own.ensures.signs_nothing.signer ∙ c.add_news.ensures.signs_nothing.signer) c.in-Ok.ensures.follows)

pub returns-in-Err-StoreFault-clause-fails : goal.returns-in-Err-StoreFault-clause-fails
returns-in-Err-StoreFault-clause-fails g c = λ s es os call p fine.
    let v : Kept = the_view c.self.inside in
    let b : Body = next_note c.self.inside.signer.state c.self.inside.me c.args.mask in
    let p0 = subst (λ v. Plays s es os v call) (sym c.self.view_is) p in
    let told = c.tell-in-Err-StoreFault in
    let h = p0.at (told.ensures.grows.going fine) in
    let answered = subst (λ (f : SignFault). AnswersBy {T = CheckedRecord} c.self.inside.signer (Err f)) c.in-Err-StoreFault.field-0-is c.in-Err-StoreFault.ensures.answers in
    let after = subst (λ (f : SignFault). c.sign_note.new.self ≡ after_signing {T = CheckedRecord} c.self.inside.signer b (Err f)) c.in-Err-StoreFault.field-0-is c.in-Err-StoreFault.ensures.after in
    let free = free-below s v call.node h.is answered.1 in
    let x = (g.D.Disk.state c.args.disk.now).model in
    let y = (g.D.Disk.state c.sign_note.new.disk).model in
    let kept : Stored = (wants true s (next_own s call.node c.args.mask) (addressees s None) call).node.stored in
    subst (λ (w : Kept). FailsToStore kept w.signer told.new.self.signer x y) c.self.view_is
    (fails-signed v.signer c.sign_note.new.self told.new.self.signer b kept x y after told.ensures.signs_nothing.signer (subst (λ (f : SignFault). MakesFrom {T = CheckedRecord} (Err f) (put_calls v.signer.seat (stored_after v.signer.state b)) x y) c.in-Err-StoreFault.field-0-is c.in-Err-StoreFault.ensures.follows) (wants-stored s (next_own s call.node c.args.mask) None call free ∙ ap (λ (x : Body). stored_after call.node.stored x) (sym (next-own-is s v call.node c.args.mask h.is)) ∙ ap (λ (k : Stored). stored_after k b) (sym h.is.stored)))

pub returns-then-has_failed-clause-plays : goal.returns-then-has_failed-clause-plays
returns-then-has_failed-clause-plays g c = λ s es os call p.
    let b : Body = next_own s call.node c.args.mask in
    let failed = ap (λ (v : Kept). v.telling.failed) (sym c.self.view_is) ∙ sym c.has_failed.ensures ∙ c.if-has_failed.true in
    plays-stuck s es os c.args.self.now call (wants true s b (addressees s None) call) failed p (extends-wants s b (addressees s None) call)

pub returns-then-has_failed-clause-spends : goal.returns-then-has_failed-clause-spends
returns-then-has_failed-clause-spends g c = spends-none c.args.self.now c.args.self.now _ (nothing-same c.args.self.now)

pub returns-then-has_failed-clause-stores : goal.returns-then-has_failed-clause-stores
returns-then-has_failed-clause-stores g c = stores-none c.args.self.now.signer c.args.self.now.signer (g.D.Disk.state c.args.disk.now).model refl

pub returns-in-Note-clause-grows : goal.returns-in-Note-clause-grows
returns-in-Note-clause-grows g c =
    let v : Kept = the_view c.self.inside in
    let signed : Kept = record v { signer = c.sign_note.new.self } in
    let kept : Kept = with_known signed c.keep_own.new.membership c.keep_own.new.records c.keep_own.new.telling in
    subst (λ (w : Kept). Grows w c.send_own.new.self) c.self.view_is
    (grows-signer v c.send_own.new.self c.sign_note.new.self (grows-trans signed kept c.send_own.new.self (c.keep_own.ensures.grows signed) (grows-trans kept c.add_news.new.self c.send_own.new.self c.add_news.ensures.grows c.send_own.ensures.grows)))
