use Rattle.std.proofs.Common.{◌≡◌, false}
use Rattle.std.specs.List.{list_any, range_with_len}
use Rattle.ff_ids.specs.Views.{State}
use Rattle.membership.specs.Holds.{Holds}
use Rattle.membership.specs.Reports.{kept_against}
use Rattle.node_rules.specs.Ticking.{is_by}
use Rattle.peers.proofs.accusing.has_accused.Given as goal

abbrev pub invariant-loop-ring : goal.invariant-loop-ring
invariant-loop-ring l = (st : State) → Holds l.fn.membership st → list_any (λ ring. is_by l.fn.me (kept_against st.kept l.fn.member ring)) (range_with_len 0 l.ring) ≡ false
