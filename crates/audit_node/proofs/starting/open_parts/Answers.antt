use Rattle.std.proofs.Common.{List, [], refl, subst, sym, ◌∙◌}
use Rattle.records.specs.declared.Record.{Record}
use Rattle.node_rules.specs.Calls.{begun}
use Rattle.ff_ids.specs.declared.Group.{Group}
use Rattle.detector.specs.Kept.{StandsFor}
use Rattle.detector.specs.Silence.{opening}
use Rattle.node_rules.specs.Starting.{blank, opened}
use Rattle.audit_node.specs.Playing.{Kept}
use Rattle.audit_node.specs.Rolls.{with_roll, recs_of}
use Rattle.audit_node.specs.Begins.{kept_in}
use Rattle.audit_node.specs.declared.starting.Parts.{Parts}
use Rattle.audit_node.proofs.RollLemmas.{new-apart, all-free, zero-empty}
use Rattle.audit_node.proofs.BeginLemmas.{at-opening, none-blank, other-told, nothing_told, signs-of}
use Rattle.audit_node.proofs.starting.open_parts.Goals as goal

pub returns-clause-opened : goal.returns-clause-opened
returns-clause-opened c = λ nonces s kit same may setting.
    let certificates : List Record = recs_of c.args.certificates.items in
    let roll = c.in_ok-roll.roll in
    let p : Parts = record { roll = roll; detector = c.in_ok-detector.detector; changes = c.in_ok-changes.changes; found = c.in_ok-found.found } in
    let v : Kept = kept_in kit p nothing_told in
    let drawn = c.in_ok-detector.ensures.holds.stands in
    let stands : StandsFor c.in_ok-detector.detector (opening c.args.group.now nonces) = record { misses_same = drawn.misses_same; each = drawn.each } in
    let first = at-opening s nonces v setting.is (signs-of s kit may setting kit.stored.next) c.in_ok-roll.ensures.holds c.in_ok-roll.ensures.records c.in_ok-roll.ensures.roster (subst (λ (x : Group). StandsFor c.in_ok-detector.detector (opening x nonces)) (sym same) stands) refl refl refl in
    let call = begun (blank s nonces kit.stored) in
    let new = new-apart s call certificates c.requires.apart (all-free call certificates (λ m. none-blank s nonces kit.stored m) c.requires.apart) in
    let at = c.take_all.ensures.plays s [] v call first (same ∙ sym c.in_ok-roll.ensures.group) refl new in
    record { is = λ t. other-told s (with_roll v c.take_all.new.self) _ t at.is; told_none = sym at.told.same; sent_none = zero-empty (opened s nonces certificates kit.stored).sent (sym at.sent) }
