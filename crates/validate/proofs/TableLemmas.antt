-- What a record without a fault before its signature says.
use Rattle.std.proofs.Common.{◌≡◌, ℕ, Bool, true, false, not, cond, ◌&&◌, Option, Some, None, refl, sym, ◌∙◌}
use Rattle.std.specs.Prelude.{IsSome}
use Rattle.ff_ids.specs.declared.NoteBody.{NoteBody}
use Rattle.ff_ids.specs.declared.AccBody.{AccBody}
use Rattle.ff_ids.specs.declared.Fault.{Fault}
use Rattle.ff_ids.specs.Views.{State, is_member}
use Rattle.ff_ids.specs.Faults.{note_fault, accusation_fault}
use Rattle.membership.specs.Life.{Life, has_joined}
use Rattle.membership.specs.Holds.{Holds}
use Rattle.records.specs.declared.CertBody.{CertBody}
use Rattle.validate.specs.Certified.{Certificates, certificate_of, AreCertified}

first_test : (b : Bool) (f : Fault) (later : Option Fault) → cond (not b) (Some f) later ≡ None → b ≡ true
first_test true f later e = refl
first_test false f later e = absurd cc

both_first : (a b : Bool) → (a && b) ≡ true → a ≡ true
both_first true b e = refl
both_first false b e = e

joined_same : (l : Life) (s : State) (m : ℕ) → Holds l s → has_joined l m ≡ is_member s m
joined_same l s m h = sym (h.at_number m).member

gone : (o : Option CertBody) → IsSome o → o ≡ None → ⊥
gone (Some c) some e = absurd cc
gone None some e = absurd cc

uncertified : (l : Life) (s : State) (certificates : Certificates) (m : ℕ) → Holds l s → AreCertified l certificates → is_member s m ≡ true → certificate_of certificates m ≡ None → ⊥
uncertified l s certificates m h certified joined none =
    gone (certificate_of certificates m) (certified m (joined_same l s m h ∙ joined)) none

-- Who a note without a fault is of has a certificate.
pub note_certified : (l : Life) (s : State) (certificates : Certificates) (t : ℕ) (n : NoteBody) → Holds l s → AreCertified l certificates
    → note_fault t s n ≡ None → certificate_of certificates n.member ≡ None → ⊥
note_certified l s certificates t n h certified none =
    uncertified l s certificates n.member h certified (first_test (is_member s n.member) _ _ none)

-- Who made an accusation without a fault has a certificate.
pub accuser_certified : (l : Life) (s : State) (certificates : Certificates) (t : ℕ) (a : AccBody) → Holds l s → AreCertified l certificates
    → accusation_fault t s a ≡ None → certificate_of certificates a.accuser ≡ None → ⊥
accuser_certified l s certificates t a h certified none =
    uncertified l s certificates a.accuser h certified (both_first (is_member s a.accuser) (is_member s a.accused) (first_test (is_member s a.accuser && is_member s a.accused) _ _ none))
