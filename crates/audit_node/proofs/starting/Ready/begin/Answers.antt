use Rattle.audit_node.specs.Owing.{told_by}
use Rattle.std.proofs.Common.{◌≡◌, ap, refl, sym, subst, ◌∙◌}
use Rattle.ff_ids.specs.declared.NoteBody.{NoteBody}
use Rattle.ff_ids.specs.declared.summary.RecordKey.TheVariants as keys
use Rattle.records.specs.declared.Body.{Body}
use Rattle.records.specs.declared.Body.TheVariants as bodies
use Rattle.record_slots.specs.Held.{key_of}
use Rattle.node_rules.specs.Calls.{Call, own_record, signs, spends}
use Rattle.node_rules.specs.Starting.{opened}
use Rattle.audit_node.specs.News.{keeps}
use Rattle.audit_node.specs.Signatures.{with_stored}
use Rattle.audit_node.specs.Playing.{Kept, Plays}
use Rattle.audit_node.specs.Begins.{kept_by}
use Rattle.audit_node.proofs.TellingLemmas.{front-trans}
use Rattle.audit_node.proofs.BeginLemmas.{started-is, at-first}
use Rattle.audit_node.proofs.PlayLemmas.{signs-fresh}
use Rattle.audit_node.proofs.starting.Ready.begin.Goals as goal

pub returns-clause-plays : goal.returns-clause-plays
returns-clause-plays c = λ s nonces certificates stored may.
    let told = c.args.telling in
    let b : Body = bodies.Note c.args.self.note in
    let call = opened s nonces certificates stored in
    let kept : Call = keeps s (own_record s call.node b) (spends s b call) in
    let v : Kept = kept_by c.args.self told in
    let own : keys.Note c.args.self.me ≡ key_of b = ap (λ (n : NoteBody). keys.Note n.member) (sym c.requires.own) in
    let at = at-first s v (with_stored b call) (may.is told) may.told_none may.sent_none c.requires.sent in
    let done = c.keep_own.ensures.plays s (told_by s told.events) v call c.requires.ready.membership_group refl (record { at = λ fine. at }) may.index may.sendable in
    let fresh = c.with_own_news.ensures.plays s (told_by s told.events) kept done in
    subst (Plays s (told_by s told.events) c.with_own_news.result)
    (signs-fresh s b (keys.Note c.args.self.me) call tt own ∙ ap (λ x. signs s x call) may.first ∙ sym (started-is s nonces certificates stored)) fresh

pub returns-clause-front : goal.returns-clause-front
returns-clause-front c =
    front-trans c.args.telling.events c.keep_own.new.telling.events c.with_own_news.result.telling.events
    (c.keep_own.ensures.grows (kept_by c.args.self c.args.telling)).events c.with_own_news.ensures.grows.events
