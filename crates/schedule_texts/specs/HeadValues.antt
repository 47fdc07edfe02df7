-- The value of a head, its lines, and what holds of a value whose lines were read.
use Rattle.std.specs.Prelude.{◌≡◌, ◌≢◌, ℕ, ◌≤◌, ◌==◌, if◌then◌else◌, true, List, [], ◌∷◌, ◌++◌, Option, Some, None, Ok}
use Rattle.std.specs.List.{AllByRecursion}
use Rattle.ff_ids.specs.declared.Group.{Group}
use Rattle.ff_ids.specs.declared.TheConstants.{LAST_MEMBER}
use Rattle.ff_ids.specs.Heals.{Heal}
use Rattle.lms_tree.specs.declared.kind.TreeKind.{TreeKind}
use Rattle.lms_tree.specs.declared.key.PublicKey.{PublicKey}
use Rattle.records.specs.declared.Body.{Body}
use Rattle.records.specs.declared.Body.TheVariants.{Certificate}
use Rattle.records.specs.declared.CertBody.{CertBody}
use Rattle.records.specs.declared.keys.Key.{Key}
use Rattle.records.specs.declared.keys.Key.TheVariants as keys
use Rattle.records.specs.Keys.{IsKey, verdict_of}
use Rattle.records.specs.Signing.{CheckedRecord, signed_bytes}
use Rattle.sign_keys.specs.Kinds.{is_in_profile}
use Rattle.schedule_texts.specs.Shared.{IsGroup, kinds_of}
use Rattle.schedule_texts.specs.KitRows.{checked_as}
use Rattle.schedule_texts.specs.HeadRows.{state_of}
use Rattle.schedule_texts.specs.HeadGrammar.{IsHead, after}
use Rattle.schedule_texts.specs.declared.head.HeadText.{HeadText}
use Rattle.schedule_texts.specs.declared.head.HeadText.TheVariants as head
use Rattle.schedule_texts.specs.declared.head_line.HeadLine.{HeadLine}
use Rattle.schedule_texts.specs.declared.head_line.HeadLine.TheVariants as lines

-- What a life is judged from: the group and its option, the member, the authority's key, the certificates, and what the
-- member's store keeps, with the height of its key's bottom trees.
pub record HeadValue : Type 0 where
  pub group : Group
  pub heal : Option Heal
  pub me : ℕ
  pub authority : PublicKey
  pub certificates : List CheckedRecord
  pub next : ℕ
  pub epoch : ℕ
  pub mask : ℕ
  pub bottom : Option TreeKind

-- ## Its lines

abbrev pub heal_lines : Option Heal → List HeadLine
heal_lines None = []
heal_lines (Some heal) = lines.Heal heal ∷ []

abbrev pub cert_lines : List CheckedRecord → List HeadLine
cert_lines [] = []
cert_lines (c ∷ cs) = lines.Cert c ∷ cert_lines cs

-- from the certificates on
abbrev pub body_lines : List CheckedRecord → ℕ → ℕ → ℕ → Option TreeKind → List HeadLine
body_lines certificates next epoch mask bottom =
    cert_lines certificates ++ (state_of next epoch mask bottom ∷ lines.Journal ∷ [])

abbrev pub lines_of : HeadValue → List HeadLine
lines_of v =
    lines.Header ∷ lines.Group v.group
    ∷ (heal_lines v.heal ++ (lines.Own v.me ∷ lines.Authority v.authority ∷ body_lines v.certificates v.next v.epoch v.mask v.bottom))

-- Each of these lines is one where it stands, and they lead from the one place to the other.
abbrev pub Walks : HeadText → List HeadLine → HeadText → Type 0
Walks form [] end = form ≡ end
Walks form (l ∷ ls) end = ((ws : List (List ℕ)) × IsHead form ws l) × Walks (after form l) ls end

-- ## What holds of it

-- A certificate that verifies under the authority's key in the group.
pub record IsCertIn (g : Group) (authority : PublicKey) (x : CheckedRecord) : Type 0 where
  pub cert : CertBody
  pub is : x ≡ checked_as g authority cert x.rec.signature
  pub member : cert.member ≤ LAST_MEMBER
  pub port : 1 ≤ cert.port
  pub key : IsKey cert.key
  pub verifies : verdict_of (keys.Lms authority) (signed_bytes g.tag g.t (Certificate cert)) x.rec.signature ≡ Ok tt

-- It is none of this number.
abbrev pub IsOfAnother : ℕ → CheckedRecord → Type 0
IsOfAnother m x = (c : CertBody) → x.rec.body ≡ Certificate c → c.member ≢ m

-- No two are of one number.
abbrev pub AreOfOthers : List CheckedRecord → Type 0
AreOfOthers [] = Unit {0}
AreOfOthers (x ∷ xs) = ((c : CertBody) → x.rec.body ≡ Certificate c → AllByRecursion (IsOfAnother c.member) xs) × AreOfOthers xs

-- the own key, behind one more body
abbrev pub own_behind : ℕ → Option Key → Body → Option Key
own_behind me own (Certificate c) = if c.member == me then Some c.key else own
own_behind me own _ = own

-- the key in the certificate of this number, behind these
abbrev pub own_among : ℕ → Option Key → List CheckedRecord → Option Key
own_among me own [] = own
own_among me own (x ∷ xs) = own_among me (own_behind me own x.rec.body) xs

-- A height stands beside a key of two levels alone, and fits it.
abbrev pub HasBottom : Option Key → Option TreeKind → Type 0
HasBottom None bottom = bottom ≡ None
HasBottom (Some (keys.Lms key)) bottom = bottom ≡ None
HasBottom (Some (keys.Hss key)) None = ⊥
HasBottom (Some (keys.Hss key)) (Some low) = is_in_profile (kinds_of key.top.ots key.top.tree (Some low)) ≡ true

-- What a store may keep of a key, if one is known.
pub record IsState (own : Option Key) (next epoch mask : ℕ) (bottom : Option TreeKind) : Type 0 where
  pub next_high : next ≤ 32768
  pub epoch_high : epoch ≤ next
  pub mask_high : mask ≤ 9223372036854775807
  pub height : HasBottom own bottom

-- The group's numbers are in their ranges, the certificates verify in the group under the authority's key, no two are of one
-- number, one is of the own number, and the state is one that a store may keep of the key in it.
pub record IsSoundHead (v : HeadValue) : Type 0 where
  pub group : IsGroup v.group
  pub me : v.me ≤ LAST_MEMBER
  pub certified : AllByRecursion (IsCertIn v.group v.authority) v.certificates
  pub apart : AreOfOthers v.certificates
  pub own : Key
  pub own_is : own_among v.me None v.certificates ≡ Some own
  pub state : IsState (Some own) v.next v.epoch v.mask v.bottom

-- These are the lines of a head, and this holds of it.
pub record AreHead (ls : List HeadLine) : Type 0 where
  pub value : HeadValue
  pub are : ls ≡ lines_of value
  pub sound : IsSoundHead value
