use Rattle.std.proofs.Common.{◌≡◌, ap, refl, sym, subst, ◌∙◌}
use Rattle.ff_ids.specs.declared.NoteBody.{NoteBody}
use Rattle.ff_ids.specs.declared.summary.RecordKey.TheVariants as keys
use Rattle.records.specs.declared.Body.{Body}
use Rattle.records.specs.declared.Body.TheVariants as bodies
use Rattle.record_set.specs.Held.{key_of}
use Rattle.node_rules.specs.Calls.{Call, own_record, signs, spends}
use Rattle.node_rules.specs.Starting.{opened}
use Rattle.node_core.specs.News.{keeps}
use Rattle.node_core.specs.Signatures.{with_stored}
use Rattle.node_core.specs.Playing.{Kept, Plays, with_known}
use Rattle.node_core.specs.Begins.{kept_by}
use Rattle.node_core.proofs.TellingLemmas.{front-trans}
use Rattle.node_core.proofs.BeginLemmas.{started-is, at-first}
use Rattle.node_core.proofs.DueLemmas.{plays-at}
use Rattle.node_core.proofs.SigningLemmas.{signs-fresh}
use Rattle.node_core.proofs.SpendLemmas.{spent-then}
use Rattle.node_core.proofs.starting.Ready.begin.Goals as goal

pub returns-clause-plays : goal.returns-clause-plays
returns-clause-plays c = λ s nonces certificates stored may.
    let told = c.args.telling in
    let b : Body = bodies.Note c.args.self.note in
    let call = opened s nonces certificates stored in
    let kept : Call = keeps s (own_record s call.node b) (spends s b call) in
    let v : Kept = kept_by c.args.self told in
    let own : keys.Note c.args.self.me ≡ key_of b = ap (λ (n : NoteBody). keys.Note n.member) (sym c.requires.own) in
    let at = at-first s v (with_stored b call) (may.is told) may.told_none may.sent_none c.requires.before in
    let done = c.keep_own.ensures.plays s told.events told.sent v call c.requires.ready.membership_group refl (plays-at s told.events told.sent v (with_stored b call) at) may.index may.own in
    let fresh = c.with_own_news.ensures.plays s told.events told.sent kept done in
    subst (Plays s told.events told.sent c.with_own_news.result)
    (signs-fresh s b (keys.Note c.args.self.me) call tt own ∙ ap (λ x. signs s x call) may.first ∙ sym (started-is s nonces certificates stored)) fresh

pub returns-clause-front : goal.returns-clause-front
returns-clause-front c =
    front-trans c.args.telling.events c.keep_own.new.telling.events c.with_own_news.result.telling.events
    (c.keep_own.ensures.grows (kept_by c.args.self c.args.telling)).events c.with_own_news.ensures.grows.events

pub returns-clause-spent : goal.returns-clause-spent
returns-clause-spent c =
    let b : Body = bodies.Note c.args.self.note in
    let v : Kept = kept_by c.args.self c.args.telling in
    let w : Kept = with_known v c.keep_own.new.membership c.keep_own.new.records c.keep_own.new.telling in
    (spent-then c.args.self.index b v w c.with_own_news.result (c.keep_own.ensures.spent v) c.with_own_news.ensures.signs_nothing c.with_own_news.ensures.grows.going).tells
