-- What a mirror keeps, and how it stands where a call so far does.
use Rattle.std.specs.Prelude.{◌≡◌, ℕ, ◌≤◌, ◌<◌, false, true, Option, Some, None, List, ◌++◌, length, drop}
use Rattle.std.specs.Option.{option_map}
use Rattle.ff_ids.specs.declared.TheConstants.{MAX_TOLERANCE, MEMBERS}
use Rattle.std.specs.FinMap.{get}
use Rattle.ff_ids.specs.declared.Group.{Group}
use Rattle.ff_ids.specs.Heals.{Heal}
use Rattle.ff_ids.specs.declared.NoteBody.{NoteBody}
use Rattle.ff_ids.specs.declared.summary.RecordKey.{RecordKey}
use Rattle.ff_ids.specs.Masks.{note_mask}
use Rattle.lms_tree.specs.declared.key.PublicKey.{PublicKey}
use Rattle.records.specs.declared.Body.{Body}
use Rattle.records.specs.declared.Record.{Record}
use Rattle.datagram.specs.Spelling.{IsSignedRecord}
use Rattle.membership.specs.Life.{Life, has_joined}
use Rattle.membership.specs.Holds.{Holds}
use Rattle.epoch_store.specs.declared.Stored.{Stored}
use Rattle.validate.specs.Certified.{Certificates, certificate_of as kept_certificate}
use Rattle.detector.specs.Kept.{Kept as Probing, StandsFor}
use Rattle.record_slots.specs.Held.{held_under}
use Rattle.audit_set.specs.declared.known.Known.{Known}
use Rattle.audit_set.specs.declared.known.Known.TheVariants as knowns
use Rattle.audit_set.specs.declared.known.Unseen.{Unseen}
use Rattle.audit_set.specs.Sets.{HeldKnown}
use Rattle.journal.specs.declared.event.Event as journal
use Rattle.node_rules.specs.Nodes.{Setting, Node, Holding, state_of, certificate_of}
use Rattle.node_rules.specs.Calls.{Call}
use Rattle.node_rules.specs.Claims.{signer_of}
use Rattle.audit_rules.specs.Heads.{setting_with}
use Rattle.audit_node.specs.declared.owing.OwedEvent.{OwedEvent}
use Rattle.audit_node.specs.Owing.{told_by}
use Rattle.audit_node.specs.Sendable.{AreFair}
use Rattle.audit_node.specs.Told.{Tellings, IsPrefix}
use Rattle.audit_node.specs.Noted.{HoldsNotes}

-- What a mirror keeps.
pub record Kept : Type 0 where
  pub group : Group
  pub heal : Option Heal
  pub me : ℕ
  pub authority : PublicKey
  pub indexes : ℕ
  pub own_length : ℕ
  pub stored : Stored
  pub membership : Life
  pub roster : Certificates
  pub records : HeldKnown
  pub detector : Probing
  pub news : List RecordKey
  pub since : ℕ
  pub telling : Tellings

-- What is known is of this record: an own one has the setting's signature.
abbrev pub record_of : Setting → Known → Record
record_of s (knowns.Came c) = c.rec
record_of s (knowns.Own o) = record { body = o.body; signature = s.signature o.index o.body }

-- The node's own record can be sent: it is the node's, has a spelling, and is held with the length of its signature.
pub record IsOwn (s : Setting) (o : Unseen) : Type 0 where
  pub member : s.me < MEMBERS
  pub by : signer_of o.body ≡ Some s.me
  pub spelled : IsSignedRecord (record { body = o.body; signature = s.signature o.index o.body })
  pub long : o.length ≡ length (s.signature o.index o.body)

-- What is known can be sent.
abbrev pub IsSendable : Setting → Option Known → Type 0
IsSendable s None = Unit {0}
IsSendable s (Some (knowns.Came c)) = IsSignedRecord c.rec
IsSendable s (Some (knowns.Own o)) = IsOwn s o

-- What is known is of these records.
pub record HoldsRecords (s : Setting) (set : HeldKnown) (held : Holding) : Type 0 where
  pub are : (k : RecordKey) → option_map (record_of s) (held_under set k) ≡ held k
  pub sendable : (k : RecordKey) → IsSendable s (held_under set k)

-- How many bytes a record's signature may have.
pub record IsLength (long : ℕ) : Type 0 where
  pub some : 0 < long
  pub few : long ≤ 9004

-- The node is a member, and its signatures from this index on have so many bytes, as a record's may.
pub record Signs (s : Setting) (next long : ℕ) : Type 0 where
  pub member : s.me < MEMBERS
  pub length_is : IsLength long
  pub each : (i : ℕ) (b : Body) → next ≤ i → length (s.signature i b) ≡ long

-- What is kept stands for the node, wherever its nonces come from.
pub record IsMirror (s : Setting) (v : Kept) (n : Node) : Type 0 where
  pub setting : s ≡ setting_with v.group v.heal v.me v.authority v.indexes s.signature
  pub signs : Signs s v.stored.next v.own_length
  pub holds : Holds v.membership (state_of s n)
  pub stored : v.stored ≡ n.stored
  pub records : HoldsRecords s v.records n.held
  pub roster : (m : ℕ) → kept_certificate v.roster m ≡ certificate_of n m
  pub probes : StandsFor v.detector n.probes
  pub news : v.news ≡ n.news
  pub since : v.since ≡ n.since

-- the same, but for what it knows of the members, and what was reported
abbrev pub with_known : Kept → Life → HeldKnown → Tellings → Kept
with_known v life held told = record v { membership = life; records = held; telling = told }

-- Behind these events of earlier calls what is owed is told so, and can be read.
pub record Tells (s : Setting) (es : List journal.Event) (owed : List OwedEvent) (told : List journal.Event) : Type 0 where
  pub same : told_by s owed ≡ es ++ told
  pub fair : AreFair s (drop (length es) owed)

-- It is where the call so far is, after these events of earlier calls.
pub record IsAt (s : Setting) (es : List journal.Event) (v : Kept) (c : Call) : Type 0 where
  pub is : IsMirror s v c.node
  pub told : Tells s es v.telling.events c.told
  pub sent : v.telling.sent ≡ length c.sent

-- It is where the call so far is, unless memory was refused.
pub record Plays (s : Setting) (es : List journal.Event) (v : Kept) (c : Call) : Type 0 where
  pub at : v.telling.failed ≡ false → IsAt s es v c

-- What holds between calls of the parts.
pub record IsReady (group : Group) (me : ℕ) (membership : Life) (records : HeldKnown) (detector : Probing) (indexes : ℕ) (stored : Stored) (own : Option NoteBody) : Type 0 where
  pub some : 1 ≤ group.t
  pub few : group.t ≤ MAX_TOLERANCE
  pub period : 0 < group.period
  pub timeout : 0 < group.timeout
  pub membership_group : membership.group ≡ group
  pub detector_group : detector.group ≡ group
  pub within : stored.next ≤ indexes
  pub risen : stored.epoch ≤ stored.next
  pub joined : has_joined membership me ≡ true
  pub allowed : note_mask group.t stored.mask.0 ≡ true
  pub notes : HoldsNotes membership records
  pub newest_own : get membership.notes me ≡ own

-- The owed events of the first are a front of those of the second, and the mirror is the same one. Where memory was refused
-- it stays so.
pub record Grows (old new : Kept) : Type 0 where
  pub going : new.telling.failed ≡ false → old.telling.failed ≡ false
  pub events : IsPrefix old.telling.events new.telling.events
  pub group : new.group ≡ old.group
  pub heal : new.heal ≡ old.heal
  pub me : new.me ≡ old.me
