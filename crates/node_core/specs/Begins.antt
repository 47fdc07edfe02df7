-- A node whose first note is signed, and not yet accepted.
use Rattle.std.specs.Prelude.{◌≡◌, ℕ, ◌+◌, ◌<◌, ◌≤◌, All, Bool, true, false, not, nat_eq, Option, List, [], ◌∷◌, ◌++◌, Result, Ok, Err}
use Rattle.ff_ids.specs.declared.TheConstants.{MAX_TOLERANCE}
use Rattle.records.specs.declared.Body.TheVariants.{Note, Certificate}
use Rattle.records.specs.declared.Record.{Record}
use Rattle.records.specs.declared.Body.{Body}
use Rattle.epoch_store.specs.declared.Stored.{Stored}
use Rattle.node_rules.specs.Nodes.{Setting}
use Rattle.node_rules.specs.Calls.{own_record}
use Rattle.node_rules.specs.Starting.{opened, first_note, started}
use Rattle.std.specs.List.{list_any, AllByRecursion}
use Rattle.node_rules.specs.Lives.{is_certificate_for, HasRings}
use Rattle.node_rules.specs.Lives as lives
use Rattle.node_rules.specs.Vouching.{IsCertifiedBy, OwnSignaturesVerify}
use Rattle.records.specs.Signing.{CheckedRecord, IsChecked}
use Rattle.records.specs.declared.CertBody.{CertBody}
use Rattle.node_core.specs.Rolls.{AreApart, recs_of}
use Rattle.node_core.specs.declared.kit.Kit.{Kit}
use Rattle.node_core.specs.declared.starting.Ready.{Ready}
use Rattle.node_core.specs.declared.starting.Parts.{Parts}
use Rattle.ff_ids.specs.declared.Group.{Group}
use Rattle.ff_ids.specs.Heals.{Heal}
use Rattle.lms_tree.specs.declared.key.PublicKey.{PublicKey}
use Rattle.records.specs.declared.keys.Key.{Key}
use Rattle.records.specs.declared.keys.Key.TheVariants as key_kinds
use Rattle.signer.specs.Signing.{SignerState, stored_after, next_note, signed_record}
use Rattle.signer.specs.Lives.{Spent}
use Rattle.sign_keys.specs.Keys.{index_count}
use Rattle.ff_ids.specs.Masks.{good_mask}
use Rattle.node_rules.specs.Replies.{first_mask}
use Rattle.node_core.specs.declared.NodeFault.{NodeFault}
use Rattle.node_core.specs.declared.NodeFault.TheVariants as faults
use Rattle.node_core.specs.declared.starting.First.{First}
use Rattle.node_core.specs.Told.{Tellings}
use Rattle.journal.specs.declared.event.Event as journal
use Rattle.node_core.specs.Signatures.{with_stored}
use Rattle.node_core.specs.Playing.{Kept, IsNode, setting_of}

-- What a node keeps whose parts these are, before its first note.
abbrev pub kept_in : Group → Option Heal → ℕ → PublicKey → SignerState → Parts → Tellings → Kept
kept_in group heal me authority signer p told =
    record {
      group = group;
      heal = heal;
      me = me;
      authority = authority;
      signer = signer;
      membership = p.roll.membership;
      roster = p.roll.roster;
      records = p.roll.records;
      detector = p.detector;
      news = [];
      since = signer.state.epoch + 1;
      telling = told;
      ended = false;
    }

-- A node with these parts stands where a life does that has taken these certificates.
pub record StandsOpened (s : Setting) (nonces : ℕ → ℕ) (certificates : List Record) (stored : Stored) (v : Tellings → Kept) : Type 0 where
  pub is : (told : Tellings) → IsNode s (v told) (opened s nonces certificates stored).node
  pub told_none : (opened s nonces certificates stored).told ≡ []
  pub sent_none : (opened s nonces certificates stored).sent ≡ []

abbrev pub HasOpened : Group → (ℕ → ℕ) → List Record → Parts → Type 0
HasOpened group nonces certificates p =
    (s : Setting) (heal : Option Heal) (me : ℕ) (authority : PublicKey) (signer : SignerState) → s ≡ setting_of group heal me authority signer.key
    → StandsOpened s nonces certificates signer.state (kept_in group heal me authority signer p)

pub record AreOf (group : Group) (p : Parts) : Type 0 where
  pub membership : p.roll.membership.group ≡ group
  pub detector : p.detector.group ≡ group

-- What it keeps, with what was reported.
abbrev pub kept_by : Ready → Tellings → Kept
kept_by r told =
    record {
      group = r.group;
      heal = r.heal;
      me = r.me;
      authority = r.authority;
      signer = r.signer;
      membership = r.roll.membership;
      roster = r.roll.roster;
      records = r.roll.records;
      detector = r.detector;
      news = r.news.items;
      since = r.since;
      telling = told;
      ended = false;
    }

-- It stands where a life does that has taken these certificates, and whose store keeps an index more: the first note is
-- signed.
pub record MayBegin (s : Setting) (nonces : ℕ → ℕ) (certificates : List Record) (stored : Stored) (r : Ready) : Type 0 where
  pub is : (told : Tellings) → IsNode s (kept_by r told) (with_stored (Note r.note) (opened s nonces certificates stored)).node
  pub first : Note r.note ≡ first_note s stored
  pub index : r.index ≡ (opened s nonces certificates stored).node.stored.next
  pub own : r.rec.rec ≡ own_record s (opened s nonces certificates stored).node (Note r.note)
  pub told_none : (opened s nonces certificates stored).told ≡ []
  pub sent_none : (opened s nonces certificates stored).sent ≡ []

-- ---- the first signature

-- The first note was signed with the next index.
pub record IsFirst (old new : SignerState) (t me : ℕ) (f : First) : Type 0 where
  pub free : old.state.next < index_count old.key
  pub index : f.index ≡ old.state.next
  pub note : Note f.note ≡ next_note old.state me (record { 0 = first_mask t old.state.mask.0 })
  pub rec : f.rec ≡ signed_record old (Note f.note)
  pub key : new.key ≡ old.key
  pub state : new.state ≡ stored_after old.state (Note f.note)
  pub group : new.group ≡ old.group
  pub closed : new.closed ≡ old.closed
  pub good : good_mask t new.state.mask.0 ≡ true

-- What is spent on it.
abbrev pub spent_first : Result First NodeFault → List Spent
spent_first (Ok f) = record { index = f.index; body = Note f.note } ∷ []
spent_first (Err fault) = []

-- Why a life may be refused: the key is used up, or the disk failed.
abbrev pub MayRefuse : SignerState → NodeFault → Type 0
MayRefuse s faults.StoreFault = s.state.next < index_count s.key
MayRefuse s faults.OutOfMemory = Unit {0}
MayRefuse s (faults.Exhausted next) = (next ≡ s.state.next) × (next ≡ index_count s.key)
MayRefuse s faults.Ended = ⊥

abbrev pub is_store_fault : {T : Type 0} → Result T NodeFault → Bool
is_store_fault (Ok value) = false
is_store_fault (Err faults.StoreFault) = true
is_store_fault (Err faults.OutOfMemory) = false
is_store_fault (Err (faults.Exhausted next)) = false
is_store_fault (Err faults.Ended) = false

-- ---- the kit

-- It was checked in the group, under this key.
pub record IsCheckedIn (group : Group) (authority : Key) (x : CheckedRecord) : Type 0 where
  pub under : x.key ≡ authority
  pub tag : x.tag ≡ group.tag
  pub tolerance : x.t ≡ group.t

-- A certificate of another member.
abbrev pub is_of_other : ℕ → Body → Bool
is_of_other m (Certificate c) = not (nat_eq c.member m)
is_of_other m other = false

-- If it is the member's certificate, it has this key.
abbrev pub HasKey : ℕ → Key → Record → Type 0
HasKey me own r = (c : CertBody) → r.body ≡ Certificate c → c.member ≡ me → c.key ≡ own

-- The numbers of a group of which a node may be a member.
pub record IsGroup (group : Group) : Type 0 where
  pub some : 1 ≤ group.t
  pub few : group.t ≤ MAX_TOLERANCE
  pub waits : 1 ≤ group.timeout
  pub ends : group.timeout ≤ 10000
  pub period : 0 < group.period
  pub often : group.period ≤ 1000
  pub missed : 1 ≤ group.misses
  pub misses : group.misses ≤ 16

-- All are certificates, no two of one number; the member's own is among them, and has this key. That their signatures
-- verify is what their type says.
pub record AreCertificatesOf (me : ℕ) (own : Key) (certificates : List CheckedRecord) : Type 0 where
  pub apart : AreApart (recs_of certificates)
  pub among : list_any (λ r. is_certificate_for me r.body) (recs_of certificates) ≡ true
  pub keys : AllByRecursion (HasKey me own) (recs_of certificates)
  pub verify : AllByRecursion IsChecked certificates

-- The group's numbers are in their ranges, and the certificates were checked in it under the authority's key. No two are
-- of one number, and the node's own is among them, with this key.
pub record IsKit (kit : Kit) (own : Key) : Type 0 where
  pub group : IsGroup kit.group
  pub checked : All (IsCheckedIn kit.group (key_kinds.Lms kit.authority)) kit.certificates.items
  pub certificates : AreCertificatesOf kit.me own kit.certificates.items

-- The node's life rests on nothing but certificates that verify under the authority's key, its own with this key, and on
-- signatures that verify under this key. It begins with an index left.
pub record IsVouchable (s : Setting) (own : Key) (certificates : List Record) (stored : Stored) : Type 0 where
  pub rings : HasRings s
  pub kit : lives.IsKit s certificates
  pub certified : AllByRecursion (IsCertifiedBy s own) certificates
  pub signatures : OwnSignaturesVerify s own
  pub left : stored.next < s.indexes

-- ---- the life

-- The node is where a life begins with these certificates and this store, and reports what that reports. Nothing is sent.
pub record Starts (s : Setting) (nonces : ℕ → ℕ) (certificates : List Record) (stored : Stored) (v : Kept) (before after : List journal.Event) : Type 0 where
  pub is : IsNode s v (started s nonces certificates stored).node
  pub told : after ≡ before ++ (started s nonces certificates stored).told
  pub sent : (started s nonces certificates stored).sent ≡ []
