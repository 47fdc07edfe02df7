-- A world that is being opened.
use Rattle.std.specs.Prelude.{◌≡◌, ℕ, ◌+◌, ◌<◌, ◌==◌, ◌++◌, ◌∷◌, true, false, List, [], Option, Some, None, filter, length, map}
use Rattle.std.specs.List.{AllByRecursion, list_any, range_with_len}
use Rattle.sign_keys.specs.declared.kinds.Kinds.{Kinds}
use Rattle.lms_ots.specs.declared.OtsKind.{OtsKind}
use Rattle.lms_tree.specs.declared.TreeKind.{TreeKind}
use Rattle.records.specs.declared.Body.TheVariants.{Certificate}
use Rattle.records.specs.declared.keys.Key.{Key}
use Rattle.records.specs.declared.keys.Key.TheVariants as keys
use Rattle.records.specs.Signing.{CheckedRecord}
use Rattle.sign_keys.specs.Keys.{KeySecret, index_count, public_key}
use Rattle.signer.specs.Signing.{signed_by}
use Rattle.world.specs.declared.liar.Liar.{Liar}
use Rattle.world_host.specs.Hosts.{HostState}
use Rattle.world_host.specs.Holding.{HoldsHost, IsWorld, made_place}
use Rattle.world_host.specs.Certifying.{Certifying}
use Rattle.world_host.specs.KeySigning.{KeyState}
use Rattle.node_core.specs.Rolls.{recs_of}
use Rattle.world_rules.specs.Counts.{nothing_counted}
use Rattle.world_rules.specs.Keys.{owner_key}
use Rattle.world_rules.specs.Settings.{Setting, certified_from, record_of}
use Rattle.world_rules.specs.Worlds.{begun_world}
use Rattle.world.specs.Counting.{AreKept}
use Rattle.world.specs.Holding.{HoldsLiar, HoldsPlace, Kept}

abbrev pub kinds_with : OtsKind → TreeKind → Option TreeKind → Kinds
kinds_with ots tree bottom = record { ots = ots; tree = tree; bottom = bottom }

-- Those that are listed and have a number below this one, in order.
abbrev pub listed_below : List ℕ → ℕ → List ℕ
listed_below listed n = filter (λ m. list_any (λ x. x == m) listed) (range_with_len 0 n)

-- Nobody is listed in both.
abbrev pub IsApart : List ℕ → List ℕ → Type 0
IsApart listed others = (m : ℕ) → list_any (λ x. x == m) listed ≡ true → list_any (λ x. x == m) others ≡ false

-- The members below this number have their keys, their certificates and their places.
pub record Builds (s : Setting) (kinds : Kinds) (n : ℕ) (signing : KeyState) (v : Kept) : Type 0 where
  pub key : signing.key ≡ owner_key s.group kinds None
  pub next : signing.next ≡ length (listed_below (s.correct ++ s.liars) n)
  pub group : v.authority.group ≡ s.group
  pub heal : v.authority.heal ≡ s.heal
  pub authority : keys.Lms v.authority.key ≡ s.key None
  pub certified : recs_of v.authority.certificates ≡ map (record_of s) (certified_from s 0 (listed_below (s.correct ++ s.liars) n))
  pub nodes : map (λ x. x.member) v.hosts ≡ listed_below s.correct n
  pub hosts : AllByRecursion (HoldsPlace s kinds (begun_world s)) v.hosts
  pub lying : map (λ x. x.member) v.liars ≡ listed_below s.liars n
  pub liars : AllByRecursion (HoldsLiar s kinds (begun_world s)) v.liars
  pub sent : v.sent ≡ []
  pub flowed : v.flowed ≡ 0
  pub named : v.named ≡ []
  pub tested : v.tested ≡ []
  pub counts : AreKept v.counts nothing_counted

-- ---- members, one after another

-- If the member is listed, a leaf is left for its certificate.
abbrev pub HasLeafFor : List ℕ → KeyState → ℕ → Type 0
HasLeafFor listed signing m = list_any (λ x. x == m) listed ≡ true → signing.next < index_count signing.key

-- The certificate of the member with this key, by the next leaf.
abbrev pub new_certificate : Certifying → KeyState → ℕ → Key → CheckedRecord
new_certificate a signing m key = signed_by a.group signing.key signing.next (Certificate (record { member = m; port = 20000 + m; key = key }))

abbrev pub with_certificate : Kept → KeyState → ℕ → Key → Kept
with_certificate v signing m key = record v { authority = record v.authority { certificates = v.authority.certificates ++ new_certificate v.authority signing m key ∷ [] } }

-- The public half of the member's key.
abbrev pub own_half : Kept → Kinds → ℕ → Key
own_half v kinds m = public_key (owner_key v.authority.group kinds (Some m))

-- The member was certified, and has its host, where no life has begun.
pub record AddsNode (older newer : Kept) (signing : KeyState) (kinds : Kinds) (m : ℕ) : Type 0 where
  pub host : HostState
  pub member : host.member ≡ m
  pub holds : (s : Setting) → IsWorld s older.authority.group kinds → HoldsHost s kinds (made_place s) [] host
  pub added : newer ≡ record (with_certificate older signing m (own_half older kinds m)) { hosts = older.hosts ++ host ∷ [] }

-- The liar with this key, which has signed nothing.
pub record IsNewLiar (m : ℕ) (secret : KeySecret) (x : Liar) : Type 0 where
  pub member : x.member ≡ m
  pub key : x.key ≡ record { key = secret; next = 0 }
  pub signed : x.signed.items ≡ []

pub record AddsLiar (older newer : Kept) (signing : KeyState) (kinds : Kinds) (m : ℕ) : Type 0 where
  pub liar : Liar
  pub is_new : IsNewLiar m (owner_key older.authority.group kinds (Some m)) liar
  pub added : newer ≡ record (with_certificate older signing m (own_half older kinds m)) { liars = older.liars ++ liar ∷ [] }
