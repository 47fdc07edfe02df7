-- The head of an audit, and the settings of the lives that may have begun with it: all that an asker knows of a member is in
-- the head, but for its signatures, which may be any of its key's length.
use Rattle.std.specs.Prelude.{◌≡◌, ℕ, ◌+◌, ◌^◌, ◌<◌, ◌≤◌, ◌==◌, true, if◌then◌else◌, List, [], ◌∷◌, length, Option, Some, None, map}
use Rattle.std.specs.Option.{option_map_or}
use Rattle.std.specs.List.{AllByRecursion}
use Rattle.std.specs.Result.{is_ok}
use Rattle.ff_ids.specs.declared.Group.{Group}
use Rattle.ff_ids.specs.Heals.{Heal}
use Rattle.lms_tree.specs.declared.key.PublicKey.{PublicKey}
use Rattle.lms_tree.specs.declared.kind.TreeKind.{TreeKind}
use Rattle.lms_tree.specs.Kinds.{height, leaf_count}
use Rattle.lms_tree.specs.Kinds as trees
use Rattle.records.specs.declared.keys.Key.{Key}
use Rattle.records.specs.declared.keys.Key.TheVariants as keys
use Rattle.records.specs.declared.CertBody.{CertBody}
use Rattle.records.specs.declared.Body.{Body}
use Rattle.records.specs.declared.Body.TheVariants.{Certificate, Note, Accusation}
use Rattle.records.specs.declared.Record.{Record}
use Rattle.records.specs.Keys.{verdict_of}
use Rattle.records.specs.Signing.{signed_bytes}
use Rattle.ring_order.specs.Hashed.{hashed_places}
use Rattle.node_rules.specs.Lives.{HasRings, IsKit}
use Rattle.node_rules.specs.Nodes.{Setting}
use Rattle.node_rules.specs.Vouching.{IsCertifiedBy}
use Rattle.audit_rules.specs.declared.Head.{Head}

-- the certificates, in order
abbrev pub certificates_of : Head → List Record
certificates_of h = map (λ x. x.rec) h.certificates.items

-- ---- the member's own key

abbrev pub key_if : ℕ → Body → Option Key → Option Key
key_if m (Certificate c) other = if c.member == m then Some c.key else other
key_if m (Note n) other = other
key_if m (Accusation a) other = other

-- the key in the first of the certificates that is the member's
abbrev pub key_among : ℕ → List Record → Option Key
key_among m [] = None
key_among m (r ∷ records) = key_if m r.body (key_among m records)

-- that of the own certificate
abbrev pub own_key : Head → Option Key
own_key h = key_among h.me (certificates_of h)

-- How many indexes a key has whose bottom trees, if it has any, are of this kind.
abbrev pub count_below : PublicKey → Option TreeKind → ℕ
count_below top None = 0
count_below top (Some bottom) = 2 ^ (height top.tree + height bottom)

abbrev pub indexes_of : Key → Option TreeKind → ℕ
indexes_of (keys.Lms key) bottom = leaf_count key.tree
indexes_of (keys.Hss key) bottom = count_below key.top bottom

-- How many bytes a signature with it has: of two levels the count of levels, that of the top tree, the key of the bottom tree, and
-- that of the bottom tree.
abbrev pub length_below : PublicKey → Option TreeKind → ℕ
length_below top None = 0
length_below top (Some bottom) = 60 + trees.signature_length top.tree top.ots + trees.signature_length bottom top.ots

abbrev pub length_of : Key → Option TreeKind → ℕ
length_of (keys.Lms key) bottom = trees.signature_length key.tree key.ots
length_of (keys.Hss key) bottom = length_below key.top bottom

-- how many indexes the own key has
abbrev pub indexes : Head → ℕ
indexes h = option_map_or (λ key. indexes_of key h.bottom) (own_key h) 0

-- how many bytes an own signature has
abbrev pub own_length : Head → ℕ
own_length h = option_map_or (λ key. length_of key h.bottom) (own_key h) 0

-- ---- the settings

-- What a node with a key of so many indexes is opened with: hashed places, the verdicts on signatures, and these own ones.
unfoldable pub setting_with : Group → Option Heal → ℕ → PublicKey → ℕ → (ℕ → Body → List ℕ) → Setting
setting_with group heal me authority indexes signature =
    record {
      group = group;
      me = me;
      authority = keys.Lms authority;
      indexes = indexes;
      heal = heal;
      places = hashed_places group.tag group.t;
      verifies = λ public r. is_ok (verdict_of public (signed_bytes group.tag group.t r.body) r.signature);
      signature = signature;
    }

-- That of a life which began with the head, where these are the member's signatures.
abbrev pub setting_over : Head → (ℕ → Body → List ℕ) → Setting
setting_over h signature = setting_with h.group h.heal h.me h.authority (indexes h) signature

-- A life may begin: the store keeps an index that the key has.
abbrev pub MayBegin : Head → Type 0
MayBegin h = h.stored.next < indexes h

-- ---- what vouches for it

-- The group has rings; the certificates are a kit's, the own one among them; and each verifies under the authority's key, the own one with
-- this key. No own signature is looked at.
pub record IsCertifiedHead (h : Head) (own : Key) : Type 0 where
  pub rings : HasRings (setting_over h (λ index body. []))
  pub kit : IsKit (setting_over h (λ index body. [])) (certificates_of h)
  pub certified : AllByRecursion (IsCertifiedBy (setting_over h (λ index body. [])) own) (certificates_of h)
