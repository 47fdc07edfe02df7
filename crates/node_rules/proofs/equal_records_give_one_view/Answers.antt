use Rattle.std.proofs.Common.{◌≡◌, [], ap, ◌∙◌}
use Rattle.ff_ids.specs.declared.Group.{Group}
use Rattle.ff_ids.specs.Views.{view}
use Rattle.ff_ids.specs.Lives.{after, opening}
use Rattle.life_laws.specs.Sameness.{HaveSameRecords}
use Rattle.life_laws.proofs.SameLemmas.{one-view}
use Rattle.node_rules.specs.Nodes.{Setting, Node, state_of}
use Rattle.node_rules.proofs.equal_records_give_one_view.Goals as goal

same-view : (one other : Setting) (n m : Node) → one.group ≡ other.group → HaveSameRecords one.group (opening []) (opening []) n.lived m.lived → view (state_of one n) ≡ view (state_of other m)
unfolding state_of
same-view one other n m same h = one-view one.group [] [] n.lived m.lived h ∙ ap (λ (g : Group). view (after g (opening []) m.lived)) same

pub returns : goal.returns
returns c = same-view
