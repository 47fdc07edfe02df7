use Rattle.std.proofs.Common.{map, List}
use Rattle.std.proofs.lemmas.Result.{on_ok_weaker}
use Rattle.life_events.specs.declared.event.Event as reported
use Rattle.life_events.specs.declared.event.What.TheVariants as what
use Rattle.replay.proofs.EventLemmas.{report-text}
use Rattle.replay.proofs.report.add_report.Goals as goal

pub returns : goal.returns
returns c =
    let report = c.args.report.now in
    let moment = c.args.moment in
    let expired : List reported.Event = map (λ a. record { moment = moment; what = what.Expired a }) report.expired in
    let removed : List reported.Event = map (λ m. record { moment = moment; what = what.Removed m }) report.removed in
    let entered : List reported.Event = map (λ m. record { moment = moment; what = what.Entered m }) report.entered in
    let fell : List reported.Event = map (λ a. record { moment = moment; what = what.Fell a }) report.fell in
    on_ok_weaker c.add_fell.result
    (λ text. report-text c.args.text.now.items c.add_expired.new.text.items c.add_removed.new.text.items c.add_entered.new.text.items c.add_fell.new.text.items expired removed entered fell
    (rw c.expired.ensures at c.in_ok-add_expired.ensures) (rw c.removed.ensures at c.in_ok-add_removed.ensures) (rw c.entered.ensures at c.in_ok-add_entered.ensures) (rw c.fell.ensures at text))
    c.add_fell.ensures
