-- What a node keeps, and how it stands where a call so far does.
use Rattle.std.specs.Prelude.{◌≡◌, ℕ, ◌≤◌, ◌<◌, Bool, false, true, not, ◌&&◌, Option, Some, List, ◌++◌, length}
use Rattle.std.specs.Option.{option_map}
use Rattle.std.specs.Result.{is_ok}
use Rattle.ff_ids.specs.declared.TheConstants.{MAX_TOLERANCE}
use Rattle.std.specs.FinMap.{get}
use Rattle.ff_ids.specs.declared.Group.{Group}
use Rattle.ff_ids.specs.Heals.{Heal}
use Rattle.ff_ids.specs.declared.NoteBody.{NoteBody}
use Rattle.ff_ids.specs.declared.summary.RecordKey.{RecordKey}
use Rattle.ff_ids.specs.Masks.{note_mask}
use Rattle.lms_tree.specs.declared.key.PublicKey.{PublicKey}
use Rattle.records.specs.declared.CertBody.{CertBody}
use Rattle.records.specs.declared.keys.Key.TheVariants as keys
use Rattle.records.specs.Keys.{verdict_of}
use Rattle.records.specs.Signing.{signed_bytes}
use Rattle.sign_keys.specs.Keys.{KeySecret, index_count, signature_of}
use Rattle.ring_order.specs.Hashed.{hashed_places}
use Rattle.membership.specs.Life.{Life, has_joined}
use Rattle.membership.specs.Holds.{Holds}
use Rattle.validate.specs.Certified.{Certificates, certificate_of as kept_certificate}
use Rattle.signer.specs.Signing.{SignerState}
use Rattle.detector.specs.Kept.{Kept as Probing, DrawsFor}
use Rattle.record_set.specs.Held.{Held, held_under}
use Rattle.journal.specs.declared.event.Event as journal
use Rattle.node_rules.specs.Nodes.{Setting, Node, Holding, state_of, certificate_of}
use Rattle.node_rules.specs.Calls.{Call}
use Rattle.node_core.specs.Told.{Tellings, IsPrefix}
use Rattle.node_core.specs.Noted.{HoldsNotes}

-- What a node keeps.
pub record Kept : Type 0 where
  pub group : Group
  pub heal : Option Heal
  pub me : ℕ
  pub authority : PublicKey
  pub signer : SignerState
  pub membership : Life
  pub roster : Certificates
  pub records : Held
  pub detector : Probing
  pub news : List RecordKey
  pub since : ℕ
  pub telling : Tellings
  pub ended : Bool

-- What the node is opened with: hashed places, signatures of the key in the group, and their verdicts.
unfoldable pub setting_of : Group → Option Heal → ℕ → PublicKey → KeySecret → Setting
setting_of group heal me authority key =
    record {
      group = group;
      me = me;
      authority = keys.Lms authority;
      indexes = index_count key;
      heal = heal;
      places = hashed_places group.tag group.t;
      verifies = λ public r. is_ok (verdict_of public (signed_bytes group.tag group.t r.body) r.signature);
      signature = λ index body. signature_of key index (signed_bytes group.tag group.t body);
    }

-- The set holds these records.
abbrev pub HoldsRecords : Held → Holding → Type 0
HoldsRecords set held = (k : RecordKey) → option_map (λ c. c.rec) (held_under set k) ≡ held k

-- What is kept stands for the node.
pub record IsNode (s : Setting) (v : Kept) (n : Node) : Type 0 where
  pub setting : s ≡ setting_of v.group v.heal v.me v.authority v.signer.key
  pub holds : Holds v.membership (state_of s n)
  pub stored : v.signer.state ≡ n.stored
  pub records : HoldsRecords v.records n.held
  pub roster : (m : ℕ) → kept_certificate v.roster m ≡ certificate_of n m
  pub probes : DrawsFor v.detector n.probes
  pub news : v.news ≡ n.news
  pub since : v.since ≡ n.since

-- the same, but for what it knows of the members, and what was reported
abbrev pub with_known : Kept → Life → Held → Tellings → Kept
with_known v life held told = record v { membership = life; records = held; telling = told }

-- It is where the call so far is, after these events and datagrams of earlier calls.
pub record IsAt (s : Setting) (es : List journal.Event) (os : List (ℕ × List ℕ)) (v : Kept) (c : Call) : Type 0 where
  pub is : IsNode s v c.node
  pub told : v.telling.events ≡ es ++ c.told
  pub sent : v.telling.sent ≡ os ++ c.sent
  pub before : v.telling.before ≡ length os

-- The events and datagrams are a front of those of the call so far, behind those of earlier calls.
pub record IsBehind (es : List journal.Event) (os : List (ℕ × List ℕ)) (v : Kept) (c : Call) : Type 0 where
  pub told : IsPrefix v.telling.events (es ++ c.told)
  pub sent : IsPrefix v.telling.sent (os ++ c.sent)

-- It is where the call so far is; where memory was refused, the events and datagrams are a front of those of the call.
pub record Plays (s : Setting) (es : List journal.Event) (os : List (ℕ × List ℕ)) (v : Kept) (c : Call) : Type 0 where
  pub at : v.telling.failed ≡ false → IsAt s es os v c
  pub due : IsBehind es os v c

-- The disk failed, and it is where the call is that ended there; where memory was refused, the events and datagrams are a
-- front of those of the whole call.
pub record Stops (s : Setting) (es : List journal.Event) (os : List (ℕ × List ℕ)) (v : Kept) (whole stopped : Call) : Type 0 where
  pub at : v.telling.failed ≡ false → IsAt s es os v stopped
  pub ended : v.telling.failed ≡ false → stopped.ended ≡ true
  pub due : v.telling.failed ≡ true → IsBehind es os v whole

-- What the first call has reported and sent is a front of what the second has.
pub record Extends (c d : Call) : Type 0 where
  pub told : IsPrefix c.told d.told
  pub sent : IsPrefix c.sent d.sent

-- What holds between calls of the parts.
pub record IsReady (group : Group) (me : ℕ) (membership : Life) (records : Held) (detector : Probing) (signer : SignerState) (own : Option NoteBody) (ended : Bool) : Type 0 where
  pub some : 1 ≤ group.t
  pub few : group.t ≤ MAX_TOLERANCE
  pub period : 0 < group.period
  pub timeout : 0 < group.timeout
  pub membership_group : membership.group ≡ group
  pub detector_group : detector.group ≡ group
  pub signer_group : signer.group ≡ group
  pub joined : has_joined membership me ≡ true
  pub allowed : note_mask group.t signer.state.mask.0 ≡ true
  pub notes : HoldsNotes membership records
  pub newest_own : get membership.notes me ≡ own
  pub is_open : (not ended && signer.closed) ≡ false

-- A call of it runs, in which no put has failed. Until the call has ended well the node counts as over.
pub record IsInCall (v : Kept) : Type 0 where
  pub within : v.ended ≡ true
  pub is_open : v.signer.closed ≡ false

-- Each certificate that was held is held.
abbrev pub KeepsCertificates : Certificates → Certificates → Type 0
KeepsCertificates old new = (m : ℕ) (c : CertBody) → kept_certificate old m ≡ Some c → kept_certificate new m ≡ Some c

-- The events and datagrams of the first are a front of those of the second, and the node is the same one, which holds each
-- certificate that it held. Where memory was refused before, nothing is added.
pub record Grows (old new : Kept) : Type 0 where
  pub going : new.telling.failed ≡ false → old.telling.failed ≡ false
  pub stuck : old.telling.failed ≡ true → new.telling ≡ old.telling
  pub events : IsPrefix old.telling.events new.telling.events
  pub sent : IsPrefix old.telling.sent new.telling.sent
  pub before : new.telling.before ≡ old.telling.before
  pub ended : new.ended ≡ old.ended
  pub group : new.group ≡ old.group
  pub heal : new.heal ≡ old.heal
  pub me : new.me ≡ old.me
  pub roster : KeepsCertificates old.roster new.roster
