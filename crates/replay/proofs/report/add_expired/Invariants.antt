use Rattle.std.proofs.Common.{◌≡◌, ◌++◌, map, take}
use Rattle.life_events.specs.declared.event.What.TheVariants as what
use Rattle.trace.specs.Answers.{events_text}
use Rattle.replay.proofs.report.add_expired.Given as goal

abbrev pub invariant-loop-accusation : goal.invariant-loop-accusation
invariant-loop-accusation l =
    l.text.items ≡ l.fn.text.items ++ events_text (map (λ a. record { moment = l.moment; what = what.Expired a }) (take l.accusation-index l.accusations))
