-- Whether two bodies are the same.
use Rattle.std.specs.Prelude.{◌≡◌, Bool, true, false, ◌==◌, ◌&&◌}
use Rattle.ff_ids.specs.declared.AccBody.{AccBody}
use Rattle.ff_ids.specs.declared.NoteBody.{NoteBody}
use Rattle.records.specs.declared.Body.{Body}
use Rattle.records.specs.declared.Body.TheVariants.{Certificate, Note, Accusation}
use Rattle.validate.specs.Table.{is_same_certificate}

abbrev pub is_same_note : NoteBody → NoteBody → Bool
is_same_note a b = (a.member == b.member) && ((a.epoch == b.epoch) && (a.mask.0 == b.mask.0))

abbrev pub is_same_accusation : AccBody → AccBody → Bool
is_same_accusation a b = (a.accuser == b.accuser) && ((a.accused == b.accused) && ((a.epoch == b.epoch) && (a.ring.0 == b.ring.0)))

abbrev pub is_same_body : Body → Body → Bool
is_same_body (Certificate a) (Certificate b) = is_same_certificate a b
is_same_body (Note a) (Note b) = is_same_note a b
is_same_body (Accusation a) (Accusation b) = is_same_accusation a b
is_same_body _ _ = false

-- The test finds the bodies the same exactly where they are.
pub record IsTestOfBodies (one other : Body) : Type 0 where
  pub found : is_same_body one other ≡ true → one ≡ other
  pub finds : is_same_body one one ≡ true

abbrev pub BodiesAreTested : Type 0
BodiesAreTested = (one other : Body) → IsTestOfBodies one other
