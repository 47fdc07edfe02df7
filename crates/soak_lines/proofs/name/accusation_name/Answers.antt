use Rattle.std.proofs.Common.{◌≡◌, ℕ, ◌∷◌, List, refl, sym, subst, rules}
use Rattle.std.specs.Prelude.{IsTrue}
use Rattle.std.specs.Fmt.{decimal}
use Rattle.fields.specs.Names.{is_name}
use Rattle.soak_lines.proofs.NameLemmas.{named}
use Rattle.soak_lines.proofs.name.accusation_name.Goals as goal

pub from_vec-requires : goal.from_vec-requires
from_vec-requires c =
    let same : c.into_bytes.result.items ≡ 97 ∷ decimal c.args.member = search rules in
    subst (λ (word : List ℕ). IsTrue (is_name word)) (sym same) (named 97 c.args.member refl c.requires)
