use Rattle.std.proofs.Common.{◌≡◌, true}
use Rattle.std.proofs.lemmas.List.Elements.{All-from_recursion}
use Rattle.ff_ids.specs.Views.{is_unanswered_by}
use Rattle.life_laws.proofs.Lists.{All-from_In}
use Rattle.life_laws.proofs.AnsweredLemmas.{left_unanswered}
use Rattle.life_laws.proofs.answer_ends_acceptance.Goals as goal

pub returns : goal.returns
returns c = λ g s n fine.
    All-from_recursion _ _ (All-from_In (λ q. q.0.accused ≡ n.member → is_unanswered_by q.0 n ≡ true) _ (left_unanswered g.t s n fine))
