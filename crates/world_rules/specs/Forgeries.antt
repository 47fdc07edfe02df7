-- Forged records: such as verify under a key whose owner never signed them.
use Rattle.std.specs.Prelude.{ℕ, Bool, ◌&&◌, not, List, [], ◌∷◌, Option, Some, None, Result, Ok, map, find, option_map}
use Rattle.std.specs.List.{list_any}
use Rattle.std.specs.Option.{option_or}
use Rattle.records.specs.declared.Body.{Body}
use Rattle.records.specs.declared.Record.{Record}
use Rattle.datagram.specs.declared.Datagram.{Datagram}
use Rattle.datagram.specs.declared.Datagram.TheVariants as kinds
use Rattle.datagram.specs.Grammar.{read_of}
use Rattle.world_rules.specs.Settings.{Owner, Setting, nodes, same_owner, same_body}
use Rattle.world_rules.specs.Worlds.{World}

-- Whose record was forged, and what it says.
pub record Forgery : Type 0 where
  pub who : Owner
  pub body : Body

-- Those for whom nobody else may sign: the authority, and then the nodes in order of number.
abbrev pub protected : Setting → List Owner
protected s = None ∷ map Some (nodes s)

-- The body was signed with the owner's key.
abbrev pub has_signed : World → Owner → Body → Bool
has_signed w who body = list_any (λ x. same_owner x.who who && same_body x.body body) w.signed

-- The record verifies under the owner's key, and was never signed with it.
abbrev pub is_forged_for : Setting → World → Record → Owner → Bool
is_forged_for s w r who = s.verifies (s.key who) r && not (has_signed w who r.body)

-- The first of them for whom the record is forged.
abbrev pub forgery_by : Setting → World → Record → Option Forgery
forgery_by s w r = option_map (λ who. record { who = who; body = r.body }) (find (is_forged_for s w r) (protected s))

-- The first forged one of the records.
abbrev pub first_forgery : Setting → World → List Record → Option Forgery
first_forgery s w [] = None
first_forgery s w (r ∷ records) = option_or (forgery_by s w r) (first_forgery s w records)

-- Only a datagram of records has any.
abbrev pub forgery_in : Setting → World → Result Datagram ℕ → Option Forgery
forgery_in s w (Ok (kinds.Records from records)) = first_forgery s w records
forgery_in s w _ = None

-- What is forged in the bytes of a datagram.
unfoldable pub forgery : Setting → World → List ℕ → Option Forgery
forgery s w bytes = forgery_in s w (read_of bytes)
