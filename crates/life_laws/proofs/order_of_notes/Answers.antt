use Rattle.std.proofs.Common.{◌∙◌, ap, refl, []}
use Rattle.std.proofs.lemmas.List.Elements.{recursion_from_All}
use Rattle.ff_ids.specs.Notes.{newest}
use Rattle.ff_ids.specs.Lives.{opening}
use Rattle.life_laws.specs.Newest.{is_allowed}
use Rattle.life_laws.proofs.OrderLemmas.{newest-came, newest-pushed, filter-all}
use Rattle.life_laws.proofs.order_of_notes.Goals as goal

pub returns-clause-all : goal.returns-clause-all
returns-clause-all c = λ g members notes m.
    newest-came g notes (opening members) [] (λ v. refl) m ∙ newest-pushed (is_allowed g.t (opening members)) notes m

pub returns-clause-allowed : goal.returns-clause-allowed
returns-clause-allowed c = λ g members notes m good.
    newest-came g notes (opening members) [] (λ v. refl) m ∙ newest-pushed (is_allowed g.t (opening members)) notes m
    ∙ ap (λ ns. newest ns m) (filter-all (is_allowed g.t (opening members)) notes (recursion_from_All _ notes good))
