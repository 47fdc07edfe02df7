-- Whom a link is told of: each member that has a certificate, with the port in it, one after another.
use Rattle.std.specs.Prelude.{◌≡◌, ℕ, zero, suc, List, [], ◌++◌, Option, None, Some, option_map, option_to_list}
use Rattle.std.specs.List.{flat_map}
use Rattle.records.specs.declared.Body.TheVariants as body
use Rattle.journal.specs.declared.event.Event.{Event}
use Rattle.journal.specs.declared.event.What.{What}
use Rattle.journal.specs.declared.event.What.TheVariants as what
use Rattle.validate.specs.Certified.{Certificates, certificate_of}

-- What was told before stands in front, where it is known, and these stand behind it.
abbrev pub Tells : Option (List (ℕ × ℕ)) → Option (List (ℕ × ℕ)) → List (ℕ × ℕ) → Type 0
Tells None after more = after ≡ None
Tells (Some told) after more = after ≡ Some (told ++ more)

-- the member of this number and its port, where it has a certificate here
abbrev pub certified_at : Certificates → ℕ → Option (ℕ × ℕ)
certified_at certificates m = option_map (λ c. (m, c.port)) (certificate_of certificates m)

-- those of lower numbers, in order
unfoldable pub certified_below : Certificates → ℕ → List (ℕ × ℕ)
certified_below certificates zero = []
certified_below certificates (suc m) = certified_below certificates m ++ option_to_list (certified_at certificates m)

-- the member whose certificate was accepted, and the port in it
abbrev pub certified_in : What → Option (ℕ × ℕ)
certified_in (what.Took (body.Certificate cert) None) = Some (cert.member, cert.port)
certified_in other = None

-- those whose certificates were accepted in these events, in order
abbrev pub newly_certified : List Event → List (ℕ × ℕ)
newly_certified events = flat_map (λ e. option_to_list (certified_in e.what)) events
