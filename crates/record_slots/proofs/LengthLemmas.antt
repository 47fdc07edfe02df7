-- How many bytes records have.
use Rattle.std.proofs.Common.{◌≡◌, ℕ, ◌+◌, Bool, true, false, cond, ◌∷◌, ◌++◌, length, refl, arith}
use Rattle.std.specs.Int.{w16, w32, w64, to_be_bytes}
use Rattle.std.proofs.lemmas.List.{length-append}
use Rattle.ff_ids.specs.Masks.{is_wide}
use Rattle.ff_ids.specs.declared.NoteBody.{NoteBody}
use Rattle.ff_ids.specs.declared.AccBody.{AccBody}
use Rattle.records.specs.Keys.{key_bytes}
use Rattle.records.specs.declared.CertBody.{CertBody}
use Rattle.records.specs.declared.Record.{Record}
use Rattle.records.specs.Spelling.{certificate_bytes, note_fields, note_bytes, accusation_bytes, body_bytes, record_bytes}

pub certificate_long : (c : CertBody) → length (certificate_bytes c) ≡ 5 + length (key_bytes c.key)
unfolding certificate_bytes
certificate_long c = omega arith

pub note_long : (n : NoteBody) → length (note_bytes n) ≡ cond (is_wide n.mask.0) 19 15
unfolding note_bytes
note_long n = by_width (is_wide n.mask.0)
  where
    by_width : (wide : Bool) → length (cond wide (4 ∷ note_fields w64 n) (2 ∷ note_fields w32 n)) ≡ cond wide 19 15
    by_width true = refl
    by_width false = refl

pub accusation_long : (a : AccBody) → length (accusation_bytes a) ≡ 14
unfolding accusation_bytes
accusation_long a = refl

two_long : (n : ℕ) → length (to_be_bytes w16 n) ≡ 2
two_long n = refl

pub record_long : (r : Record) → length (record_bytes r) ≡ length (body_bytes r.body) + 2 + length r.signature
record_long r = omega (arith, length-append (body_bytes r.body) (to_be_bytes w16 (length r.signature) ++ r.signature), length-append (to_be_bytes w16 (length r.signature)) r.signature, two_long (length r.signature))
