use Rattle.std.proofs.Common.{◌≡◌, ◌++◌, take}
use Rattle.gossip.specs.Differ.{notes_lacking}
use Rattle.gossip.proofs.lacking.push_notes.Given as goal

abbrev pub invariant-loop-here : goal.invariant-loop-here
invariant-loop-here l = l.out.items ≡ l.initial.out.items ++ notes_lacking (take l.here-index l.mine) l.theirs
