use Rattle.std.proofs.Common.{◌≡◌, ℕ, false, List, [], ◌∷◌, ◌++◌, map, ap, ◌∙◌, bytes_eq}
use Rattle.std.specs.List.{list_any}
use Rattle.world.proofs.ForgeryLemmas.{any-mapped, items-push}
use Rattle.world.proofs.forgery.Tested.put.Goals as goal

pub returns : goal.returns
returns c =
    let keys = c.self.inside.spelled.keys in
    let absent : list_any (λ k. bytes_eq c.args.spelled.items k.items) keys ≡ false =
    any-mapped (λ k. k.items) (bytes_eq c.args.spelled.items) keys ∙ ap (list_any (bytes_eq c.args.spelled.items)) c.self.view_is ∙ c.requires in
    let added = rw absent at c.in_ok-insert.ensures.keys in
    ap (map (λ k. k.items)) added ∙ items-push (λ k. k.items) keys c.args.spelled ∙ ap (λ (z : List (List ℕ)). z ++ c.args.spelled.items ∷ []) c.self.view_is
