use Rattle.std.proofs.Common.{◌≡◌, ap, ◌∙◌, subst}
use Rattle.std.proofs.lemmas.Result.{on_ok_weaker}
use Rattle.membership.specs.Holds.{Holds}
use Rattle.ff_ids.specs.Steps.{joined}
use Rattle.trace.specs.Answers.{places_at, state_of}
use Rattle.replay.proofs.EventLemmas.{tells-joined, tells-known}
use Rattle.replay.proofs.life.Life.join.Goals as goal

pub returns-in_ok-add_verdict-in-Ok : goal.returns-in_ok-add_verdict-in-Ok
returns-in_ok-add_verdict-in-Ok c = λ r plays.
    let placed : c.number_places.result ≡ places_at c.args.places.now = c.number_places.ensures ∙ ap places_at c.as_slice.ensures in
    let holds : Holds c.add_member.new.self (joined (state_of r) c.args.member (places_at c.args.places.now)) =
    subst (λ p. Holds c.add_member.new.self (joined (state_of r) c.args.member p)) placed (c.in-Ok.ensures.step (state_of r) plays.holds) in
    on_ok_weaker c.add.result
    (λ text. tells-joined c.args.self.now r c.args.member (places_at c.args.places.now) c.add_member.result c.add_member.new.self _ _ plays (c.add_member.ensures.fault (state_of r) plays.holds) c.in-Ok.is holds c.add_member.ensures.group (rw c.in_ok-add_verdict-in-Ok.ensures at text))
    c.add.ensures

pub returns-in_ok-add_verdict-in-Err : goal.returns-in_ok-add_verdict-in-Err
returns-in_ok-add_verdict-in-Err c = λ r plays.
    on_ok_weaker c.add-in-Err.result
    (λ text. tells-known c.args.self.now r c.args.member (places_at c.args.places.now) c.add_member.result c.in-Err.fault c.add_member.new.self _ _ plays (c.add_member.ensures.fault (state_of r) plays.holds) c.in-Err.is c.in-Err.ensures.same (rw c.in_ok-add_verdict-in-Err.ensures at text))
    c.add-in-Err.ensures
