-- What is held when accusations have ended.
use Rattle.std.specs.Prelude.{List, Option, Some, None, fold}
use Rattle.std.specs.FinMap as map
use Rattle.ff_ids.specs.declared.AccBody.{AccBody}
use Rattle.ff_ids.specs.Heals.{Heal}
use Rattle.record_slots.specs.Held.{retired}
use Rattle.audit_set.specs.Sets.{HeldKnown}
use Rattle.node_rules.specs.Nodes.{key_of_accusation}

-- None of them is held.
abbrev pub without_all : HeldKnown → List AccBody → HeldKnown
without_all held ended = fold (λ h a. map.remove h (key_of_accusation a)) held ended

-- Each of them is that of its accused's removal now, with the option, and kept no more.
abbrev pub retired_all : HeldKnown → List AccBody → HeldKnown
retired_all held ended = fold (λ h a. retired h a.accused a.ring) held ended

abbrev pub ended_all : Option Heal → HeldKnown → List AccBody → HeldKnown
ended_all None held ended = without_all held ended
ended_all (Some heal) held ended = retired_all held ended
