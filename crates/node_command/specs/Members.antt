-- What the text of a member sets up, line by line.
use Rattle.std.specs.Prelude.{◌≡◌, ℕ, ◌≤◌, All, List, [], ◌∷◌, ◌++◌, Option, Some, None, Ok, fold, find, unwrap_or, option_map}
use Rattle.ff_ids.specs.declared.Group.{Group}
use Rattle.ff_ids.specs.Heals.{Heal}
use Rattle.lms_tree.specs.declared.key.PublicKey.{PublicKey}
use Rattle.play.specs.Plays.{IoState}
use Rattle.records.specs.declared.Body.{Body}
use Rattle.records.specs.declared.Body.TheVariants.{Certificate}
use Rattle.records.specs.declared.keys.Key.TheVariants as key_kinds
use Rattle.records.specs.Signing.{CheckedRecord}
use Rattle.schedule_texts.specs.KitGrammar as kit_grammar
use Rattle.schedule_texts.specs.KitRows as kit_rows
use Rattle.schedule_texts.specs.declared.kit.KitText.{KitText}
use Rattle.schedule_texts.specs.declared.kit.KitText.TheVariants as kit
use Rattle.schedule_texts.specs.declared.kit_line.KitLine.{KitLine}
use Rattle.schedule_texts.specs.declared.kit_line.KitLine.TheVariants as lines
use Rattle.secrets.specs.Secrets.{store_tag}
use Rattle.sign_keys.specs.Keys.{IsNew, KeySecret, public_key, secret_of}
use Rattle.whole_text.specs.Gathered.{IsWhole, Judging, lines_from, unread}
use Rattle.node_rules.specs.Lives.{is_certificate_for}
use Rattle.node_core.specs.Begins.{AreCertificatesOf, IsCheckedIn, IsGroup}
use Rattle.node_command.specs.declared.kit.Member.{Member}
use Rattle.node_command.specs.declared.kit.Own.{Own}

-- how the lines of a member's text are judged
abbrev pub kit_judging : Judging KitText KitLine
kit_judging = record { is_ended = kit_rows.is_ended; row = kit_rows.row_for; after = kit_grammar.after }

-- what some lines set up
pub record SetUp : Type 0 where
  pub group : Option Group
  pub heal : Option Heal
  pub own : Option Own
  pub authority : Option PublicKey
  pub millis : Option ℕ
  pub certificates : List CheckedRecord

abbrev pub nothing_up : SetUp
nothing_up = record { group = None; heal = None; own = None; authority = None; millis = None; certificates = [] }

abbrev pub sets : SetUp → KitLine → SetUp
sets u lines.Header = u
sets u (lines.Group g) = record u { group = Some g }
sets u (lines.Kinds kinds) = u
sets u (lines.Heal heal) = record u { heal = Some heal }
sets u (lines.Own m secret own_key) = record u { own = Some (record { member = m; secret = secret; key = own_key }) }
sets u (lines.Authority authority) = record u { authority = Some authority }
sets u (lines.Tick millis) = record u { millis = Some millis }
sets u (lines.Cert c) = record u { certificates = u.certificates ++ c ∷ [] }
sets u lines.End = u

abbrev pub set_by : List KitLine → SetUp
set_by lines = fold sets nothing_up lines

-- It is all set up, as this member.
abbrev pub SetsUp : SetUp → Member → Type 0
SetsUp u m =
    u
    ≡ record {
      group = Some m.group;
      heal = m.heal;
      own = Some m.own;
      authority = Some m.authority;
      millis = Some m.millis;
      certificates = m.certificates.items;
    }

-- each part of a member is set up, but for the option
pub record IsWholeSetUp (u : SetUp) : Type 0 where
  pub group : Group
  pub own : Own
  pub authority : PublicKey
  pub millis : ℕ
  pub is : u ≡ record u { group = Some group; own = Some own; authority = Some authority; millis = Some millis }

-- The lines of a whole text.
pub record AreKit (lines : List KitLine) : Type 0 where
  pub seen : List (List ℕ)
  pub are : lines_from kit_judging (unread kit.Start) seen ≡ Ok lines

-- A member may begin a life: the group's numbers are in their ranges, a tick lasts some time, no index of the own key was handed
-- out, and the certificates are checked in the group under the authority's key, no two of one number, the own one with the own
-- key among them.
pub record IsSound (group : Group) (own : Own) (authority : PublicKey) (millis : ℕ) (certificates : List CheckedRecord) : Type 0 where
  pub numbers : IsGroup group
  pub pace : 1 ≤ millis
  pub fresh : IsNew own.key (secret_of own.key)
  pub checked : All (IsCheckedIn group (key_kinds.Lms authority)) certificates
  pub certified : AreCertificatesOf own.member (public_key (secret_of own.key)) certificates

abbrev pub IsSoundMember : Member → Type 0
IsSoundMember m = IsSound m.group m.own m.authority m.millis m.certificates.items

-- The whole text of a member was read, this is what it sets up, and nothing was written.
pub record IsMember (was now : IoState) (m : Member) : Type 0 where
  pub lines : List KitLine
  pub whole : IsWhole kit_judging kit.Start was now lines
  pub is : SetsUp (set_by lines) m
  pub sound : IsSoundMember m

-- what determines the member's key
abbrev pub key_of : Member → KeySecret
key_of m = secret_of m.own.key

-- the mark of the member's store
abbrev pub tag_of : Member → List ℕ
tag_of m = store_tag m.group (key_of m)

-- the port in a certificate
abbrev pub port_in : Body → ℕ
port_in (Certificate c) = c.port
port_in other = 0

-- The port in the own certificate.
abbrev pub own_port : Member → ℕ
own_port m = unwrap_or (option_map (λ x. port_in x.rec.body) (find (λ x. is_certificate_for m.own.member x.rec.body) m.certificates.items)) 0
