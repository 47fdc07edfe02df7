use Rattle.std.proofs.Common.{◌≡◌, ◌++◌, map, take}
use Rattle.life_events.specs.declared.event.What.TheVariants as what
use Rattle.trace.specs.Answers.{events_text}
use Rattle.replay.proofs.report.add_entered.Given as goal

abbrev pub invariant-loop-member : goal.invariant-loop-member
invariant-loop-member l =
    l.text.items ≡ l.fn.text.items ++ events_text (map (λ m. record { moment = l.moment; what = what.Entered m }) (take l.member-index l.members))
