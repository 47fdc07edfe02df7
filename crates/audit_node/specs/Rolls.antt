-- Who is certified as a life begins.
use Rattle.std.specs.Prelude.{◌≡◌, ℕ, List, [], ◌∷◌, None, false, nat_eq, fold, map}
use Rattle.std.specs.List.{AllByRecursion}
use Rattle.records.specs.declared.CertBody.{CertBody}
use Rattle.records.specs.declared.Body.TheVariants.{Certificate}
use Rattle.records.specs.declared.Record.{Record}
use Rattle.records.specs.Signing.{CheckedRecord}
use Rattle.node_rules.specs.Nodes.{Setting, certificate_of}
use Rattle.node_rules.specs.Calls.{Call, takes}
use Rattle.audit_node.specs.declared.roll.Roll.{Roll}
use Rattle.audit_node.specs.Playing.{Kept}

-- the same, but for who is certified
abbrev pub with_roll : Kept → Roll → Kept
with_roll v roll = record v { membership = roll.membership; roster = roll.roster; records = roll.records }

-- A certificate.
pub record IsCertificate (x : CheckedRecord) : Type 0 where
  pub cert : CertBody
  pub body : x.rec.body ≡ Certificate cert

-- The records are accepted, in order.
abbrev pub takes_all : Setting → List Record → Call → Call
takes_all s records c = fold (λ c r. takes s r c) c records

-- It is a certificate of a number that has none.
pub record IsNew (c : Call) (r : Record) : Type 0 where
  pub cert : CertBody
  pub body : r.body ≡ Certificate cert
  pub free : certificate_of c.node cert.member ≡ None

-- Each is, as they are accepted in order.
abbrev pub AreNew : Setting → Call → List Record → Type 0
AreNew s c [] = Unit {0}
AreNew s c (r ∷ records) = IsNew c r × AreNew s (takes s r c) records

abbrev pub recs_of : List CheckedRecord → List Record
recs_of checked = map (λ x. x.rec) checked

-- A certificate of another number.
pub record IsOfOther (m : ℕ) (r : Record) : Type 0 where
  pub cert : CertBody
  pub body : r.body ≡ Certificate cert
  pub other : nat_eq cert.member m ≡ false

-- It is a certificate, and those behind it are of other numbers.
pub record IsApart (r : Record) (behind : List Record) : Type 0 where
  pub cert : CertBody
  pub body : r.body ≡ Certificate cert
  pub others : AllByRecursion (IsOfOther cert.member) behind

-- All are certificates, no two of one number.
abbrev pub AreApart : List Record → Type 0
AreApart [] = Unit {0}
AreApart (r ∷ records) = IsApart r records × AreApart records
