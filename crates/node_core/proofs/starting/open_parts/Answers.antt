use Rattle.std.proofs.Common.{List, [], refl, sym}
use Rattle.records.specs.declared.Record.{Record}
use Rattle.detector.specs.Silence.{nonce}
use Rattle.node_rules.specs.Calls.{begun}
use Rattle.node_rules.specs.Starting.{blank}
use Rattle.node_core.specs.Playing.{Kept}
use Rattle.node_core.specs.Rolls.{with_roll, recs_of}
use Rattle.node_core.specs.Begins.{kept_in}
use Rattle.node_core.specs.declared.starting.Parts.{Parts}
use Rattle.node_core.proofs.RollLemmas.{new-apart, all-free}
use Rattle.node_core.proofs.BeginLemmas.{at-opening, none-blank, other-told, nothing_told}
use Rattle.node_core.proofs.starting.open_parts.Goals as goal

pub returns-clause-opened : goal.returns-clause-opened
returns-clause-opened c = λ s heal me authority signer setting.
    let certificates : List Record = recs_of c.args.certificates.items in
    let roll = c.in_ok-roll.roll in
    let p : Parts = record { roll = roll; detector = c.in_ok-detector.detector; changes = c.in_ok-changes.changes; found = c.in_ok-found.found } in
    let v : Kept = kept_in c.args.group.now heal me authority signer p nothing_told in
    let first = at-opening s (nonce c.args.seed) v setting c.in_ok-roll.ensures.holds c.in_ok-roll.ensures.records c.in_ok-roll.ensures.roster c.in_ok-detector.ensures.holds refl refl refl in
    let call = begun (blank s (nonce c.args.seed) signer.state) in
    let new = new-apart s call certificates c.requires.apart (all-free call certificates (λ m. none-blank s (nonce c.args.seed) signer.state m) c.requires.apart) in
    let at = c.take_all.ensures.plays s [] [] v call first (sym c.in_ok-roll.ensures.group) refl new in
    record { is = λ t. other-told s (with_roll v c.take_all.new.self) _ t at.is; told_none = sym at.told; sent_none = sym at.sent }
