-- What a store may keep after a signature.
use Rattle.std.proofs.Common.{◌≡◌, ℕ, ◌+◌, ◌^◌, ◌<◌, Result, Ok, Err, arith, subst, sym}
use Rattle.std.specs.Prelude.{IfOk}
use Rattle.records.specs.Signing.{CheckedRecord, signed_bytes}
use Rattle.sign_keys.specs.Keys.{TopSignsTree}
use Rattle.sign_keys.proofs.Tops.{top-signs}
use Rattle.signer.specs.declared.SignFault.{SignFault}
use Rattle.records.specs.declared.Body.{Body}
use Rattle.records.specs.declared.Body.TheVariants.{Certificate, Note, Accusation}
use Rattle.epoch_store.specs.declared.Stored.{Stored}
use Rattle.epoch_store.specs.Store.{IsEntry, Follows}
use Rattle.signer.specs.Signing.{AnswersBy, SignerState, stored_after, signed_record, MayComeNext}

pub next_is_entry : (s : Stored) (body : Body) → IsEntry s → s.next < 32768 → MayComeNext s body → IsEntry (stored_after s body)
next_is_entry s (Certificate c) entry left next = record { next_small = omega arith; epoch_small = omega (arith, entry.epoch_small); mask_small = entry.mask_small }
next_is_entry s (Note n) entry left next = record { next_small = omega arith; epoch_small = omega (arith, entry.epoch_small, next.0); mask_small = next.1 }
next_is_entry s (Accusation a) entry left next = record { next_small = omega arith; epoch_small = omega (arith, entry.epoch_small); mask_small = entry.mask_small }

pub next_follows : (s : Stored) (body : Body) → MayComeNext s body → Follows s (stored_after s body)
next_follows s (Certificate c) next = record { next_rises = omega arith; epoch_stays = omega arith }
next_follows s (Note n) next = record { next_rises = omega arith; epoch_stays = omega (arith, next.0) }
next_follows s (Accusation a) next = record { next_rises = omega arith; epoch_stays = omega arith }

pub next_index : (s : Stored) (body : Body) → (stored_after s body).next ≡ s.next + 1
next_index s (Certificate c) = Rattle.std.proofs.Common.refl
next_index s (Note n) = Rattle.std.proofs.Common.refl
next_index s (Accusation a) = Rattle.std.proofs.Common.refl

-- what the top leaf of the next index signs in the record, where one is signed
pub top_of : (s : SignerState) (body : Body) (result : Result CheckedRecord SignFault) → AnswersBy s result → IfOk result (λ rec. rec ≡ signed_record s body)
    → IfOk result (λ rec. TopSignsTree s.key s.state.next rec.rec.signature)
top_of s body (Ok rec) answers is =
    subst (λ (r : CheckedRecord). TopSignsTree s.key s.state.next r.rec.signature) (sym is)
    (top-signs s.key s.state.next (signed_bytes s.group.tag s.group.t body) answers.1)
top_of s body (Err fault) answers is = record {}
