-- Who has a certificate, and whose key signs what.
use Rattle.std.specs.Prelude.{◌≡◌, ℕ, true, Option, Some, IsSome}
use Rattle.std.specs.Option.{option_map}
use Rattle.std.specs.Ordering.{nat_cmp}
use Rattle.std.specs.FinMap as map
use Rattle.membership.specs.Life.{Life, has_joined}
use Rattle.records.specs.declared.CertBody.{CertBody}
use Rattle.records.specs.declared.Body.{Body}
use Rattle.records.specs.declared.Body.TheVariants.{Certificate, Note, Accusation}
use Rattle.records.specs.declared.keys.Key.{Key}

-- the certificate of each number that has one
abbrev pub Certificates : Type 0
Certificates = map.FinMap nat_cmp CertBody

abbrev pub certificate_of : Certificates → ℕ → Option CertBody
certificate_of certificates m = map.get certificates m

abbrev pub key_of : Certificates → ℕ → Option Key
key_of certificates m = option_map (λ c. c.key) (certificate_of certificates m)

-- The authority's key signs certificates, a member's its notes, and an accuser's its accusations.
abbrev pub signing_key : Key → Certificates → Body → Option Key
signing_key authority certificates (Certificate c) = Some authority
signing_key authority certificates (Note n) = key_of certificates n.member
signing_key authority certificates (Accusation a) = key_of certificates a.accuser

-- Each who has joined has a certificate.
abbrev pub AreCertified : Life → Certificates → Type 0
AreCertified l certificates = (m : ℕ) → has_joined l m ≡ true → IsSome (certificate_of certificates m)
