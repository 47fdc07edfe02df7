-- What a node's key spends, as its events report.
use Rattle.std.proofs.Common.{◌≡◌, ℕ, eqb, true, List, [], ◌∷◌, ◌++◌, Option, Some, refl, sym, ap, ◌∙◌, map, eq-eqb}
use Rattle.std.specs.Prelude.{filter_map}
use Rattle.std.specs.List.{cons_option}
use Rattle.std.proofs.lemmas.List.{map-append}
use Rattle.records.specs.declared.Body.{Body}
use Rattle.signer.specs.Lives.{Spent}
use Rattle.journal.specs.declared.event.Event as journal
use Rattle.journal.specs.declared.event.What as whats
use Rattle.journal.specs.declared.event.What.TheVariants as happened
use Rattle.world_rules.specs.Settings.{Signed}
use Rattle.world_rules.specs.Steps.{signed_if_spent, signed_in}
use Rattle.world_rules.specs.Worlds.{spent_if_by}
use Rattle.world_host.specs.Answers.{bodies_in, body_in, spent_in}

abbrev bodies_of : List Spent → List Body
bodies_of spent = map (λ y. y.body) spent

own-one : (m index : ℕ) (body : Body) → spent_if_by (Some m) (record { who = Some m; index = index; body = body }) ≡ Some (record { index = index; body = body })
own-one m index body = let same : eqb m m ≡ true = eq-eqb m m refl in rw same refl

what-spent : (m : ℕ) (what : whats.What) (rest : List Signed) → bodies_of (filter_map (spent_if_by (Some m)) (cons_option (signed_if_spent m what) rest)) ≡ body_in what ++ bodies_of (filter_map (spent_if_by (Some m)) rest)
what-spent m (happened.Spent index body) rest =
    ap (λ (o : Option Spent). bodies_of (cons_option o (filter_map (spent_if_by (Some m)) rest))) (own-one m index body)
what-spent m _ rest = refl

pub bodies-spent : (m : ℕ) (events : List journal.Event) → bodies_of (spent_in m events) ≡ bodies_in events
bodies-spent m [] = refl
bodies-spent m (e ∷ events) = what-spent m e.what (signed_in m events) ∙ ap (λ (bodies : List Body). body_in e.what ++ bodies) (bodies-spent m events)

-- The bodies that are kept are those that were spent.
pub signed-behind : (m : ℕ) (events : List journal.Event) (spent : List Spent) (signed : List Body) → signed ≡ bodies_of spent → signed ++ bodies_in events ≡ bodies_of (spent ++ spent_in m events)
signed-behind m events spent signed is =
    ap (λ (bodies : List Body). bodies ++ bodies_in events) is ∙ ap (λ (bodies : List Body). bodies_of spent ++ bodies) (sym (bodies-spent m events)) ∙ sym (map-append (λ (y : Spent). y.body) spent (spent_in m events))
