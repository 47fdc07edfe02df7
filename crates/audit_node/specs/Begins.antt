-- A mirror whose first note is due, and not yet accepted.
use Rattle.std.specs.Prelude.{◌≡◌, ℕ, ◌+◌, ◌<◌, ◌≤◌, All, Bool, true, false, not, nat_eq, Some, List, [], length}
use Rattle.ff_ids.specs.declared.TheConstants.{MAX_TOLERANCE, MEMBERS}
use Rattle.ff_ids.specs.declared.Group.{Group}
use Rattle.records.specs.declared.Record.{Record}
use Rattle.records.specs.declared.Body.{Body}
use Rattle.records.specs.declared.Body.TheVariants.{Note, Certificate}
use Rattle.records.specs.declared.keys.Key.{Key}
use Rattle.records.specs.declared.keys.Key.TheVariants as key_kinds
use Rattle.records.specs.Signing.{CheckedRecord}
use Rattle.epoch_store.specs.declared.Stored.{Stored}
use Rattle.node_rules.specs.Nodes.{Setting}
use Rattle.node_rules.specs.Starting.{opened, first_note}
use Rattle.std.specs.List.{list_any}
use Rattle.node_rules.specs.Lives.{is_certificate_for}
pub use Rattle.audit_node.specs.Rolls.{IsOfOther, IsApart, AreApart, recs_of}
use Rattle.audit_rules.specs.Heads.{setting_with}
use Rattle.audit_node.specs.declared.kit.Kit.{Kit}
use Rattle.audit_node.specs.declared.starting.Ready.{Ready}
use Rattle.audit_node.specs.declared.starting.Parts.{Parts}
use Rattle.audit_node.specs.Told.{Tellings}
use Rattle.audit_node.specs.Signatures.{with_stored}
use Rattle.audit_set.specs.declared.known.Known.TheVariants as knowns
use Rattle.audit_node.specs.Playing.{Kept, IsLength, IsSendable, IsMirror}

-- ---- the kit

-- It was checked in the group, under this key.
pub record IsCheckedIn (group : Group) (authority : Key) (x : CheckedRecord) : Type 0 where
  pub under : x.key ≡ authority
  pub tag : x.tag ≡ group.tag
  pub tolerance : x.t ≡ group.t

-- A certificate of another member.
abbrev pub is_of_other : ℕ → Body → Bool
is_of_other m (Certificate c) = not (nat_eq c.member m)
is_of_other m other = false

-- The numbers of a group of which a node may be a member.
pub record IsGroup (group : Group) : Type 0 where
  pub some : 1 ≤ group.t
  pub few : group.t ≤ MAX_TOLERANCE
  pub waits : 1 ≤ group.timeout
  pub ends : group.timeout ≤ 10000
  pub period : 0 < group.period
  pub often : group.period ≤ 1000
  pub missed : 1 ≤ group.misses
  pub misses : group.misses ≤ 16

-- All are certificates, no two of one number; the member's own is among them.
pub record AreCertificatesOf (me : ℕ) (certificates : List Record) : Type 0 where
  pub apart : AreApart certificates
  pub among : list_any (λ r. is_certificate_for me r.body) certificates ≡ true

-- What a store may keep of a key of so many indexes.
pub record IsStored (indexes : ℕ) (stored : Stored) : Type 0 where
  pub risen : stored.epoch ≤ stored.next
  pub within : stored.next ≤ indexes

-- The group's numbers are in their ranges, and the certificates were checked in it under the authority's key. No two are
-- of one number, and the node's own is among them. Own signatures have as many bytes as a record's may.
pub record IsKit (kit : Kit) : Type 0 where
  pub group : IsGroup kit.group
  pub checked : All (IsCheckedIn kit.group (key_kinds.Lms kit.authority)) kit.certificates.items
  pub certificates : AreCertificatesOf kit.me (recs_of kit.certificates.items)
  pub stored : IsStored kit.indexes kit.stored
  pub own_length : IsLength kit.own_length

-- The setting is one of the kit: of whatever signatures, which are so long.
pub record IsSettingOf (s : Setting) (kit : Kit) : Type 0 where
  pub is : s ≡ setting_with kit.group kit.heal kit.me kit.authority kit.indexes s.signature
  pub long : (i : ℕ) (b : Body) → length (s.signature i b) ≡ kit.own_length

-- The node of the kit is a member, whose signatures can be sent.
pub record MaySign (kit : Kit) : Type 0 where
  pub me : kit.me < MEMBERS
  pub own_length : IsLength kit.own_length

-- ---- the parts of a life

-- What a mirror keeps whose parts these are, before its first note.
abbrev pub kept_in : Kit → Parts → Tellings → Kept
kept_in kit p told =
    record {
      group = kit.group;
      heal = kit.heal;
      me = kit.me;
      authority = kit.authority;
      indexes = kit.indexes;
      own_length = kit.own_length;
      stored = kit.stored;
      membership = p.roll.membership;
      roster = p.roll.roster;
      records = p.roll.records;
      detector = p.detector;
      news = [];
      since = kit.stored.epoch + 1;
      telling = told;
    }

-- A mirror with these parts stands where a life does that has taken these certificates.
pub record StandsOpened (s : Setting) (nonces : ℕ → ℕ) (certificates : List Record) (stored : Stored) (v : Tellings → Kept) : Type 0 where
  pub is : (told : Tellings) → IsMirror s (v told) (opened s nonces certificates stored).node
  pub told_none : (opened s nonces certificates stored).told ≡ []
  pub sent_none : (opened s nonces certificates stored).sent ≡ []

abbrev pub HasOpened : Group → (ℕ → ℕ) → List Record → Parts → Type 0
HasOpened group nonces certificates p =
    (s : Setting) (kit : Kit) → kit.group ≡ group → MaySign kit → IsSettingOf s kit → StandsOpened s nonces certificates kit.stored (kept_in kit p)

pub record AreOf (group : Group) (p : Parts) : Type 0 where
  pub membership : p.roll.membership.group ≡ group
  pub detector : p.detector.group ≡ group

-- ---- the first note

-- What it keeps, with what is owed.
abbrev pub kept_by : Ready → Tellings → Kept
kept_by r told =
    record {
      group = r.group;
      heal = r.heal;
      me = r.me;
      authority = r.authority;
      indexes = r.indexes;
      own_length = r.own.length;
      stored = r.stored;
      membership = r.roll.membership;
      roster = r.roll.roster;
      records = r.roll.records;
      detector = r.detector;
      news = r.news.items;
      since = r.since;
      telling = told;
    }

-- It stands where a life does that has taken these certificates, and whose store keeps an index more: the first note is
-- made.
pub record MayBegin (s : Setting) (nonces : ℕ → ℕ) (certificates : List Record) (stored : Stored) (r : Ready) : Type 0 where
  pub is : (told : Tellings) → IsMirror s (kept_by r told) (with_stored (Note r.note) (opened s nonces certificates stored)).node
  pub first : Note r.note ≡ first_note s stored
  pub index : r.own.index ≡ (opened s nonces certificates stored).node.stored.next
  pub sendable : IsSendable s (Some (knowns.Own r.own))
  pub told_none : (opened s nonces certificates stored).told ≡ []
  pub sent_none : (opened s nonces certificates stored).sent ≡ []
