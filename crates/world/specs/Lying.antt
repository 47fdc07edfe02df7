-- What becomes of a liar that signs.
use Rattle.std.specs.Prelude.{◌≡◌, ◌+◌, ◌++◌, ◌∷◌, []}
use Rattle.records.specs.declared.Body.{Body}
use Rattle.world.specs.declared.liar.Liar.{Liar}

-- It has spent its next index on the body.
pub record Lied (x later : Liar) (body : Body) : Type 0 where
  pub member : later.member ≡ x.member
  pub key : later.key ≡ record x.key { next = x.key.next + 1 }
  pub signed : later.signed.items ≡ x.signed.items ++ body ∷ []
