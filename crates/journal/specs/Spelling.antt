-- Which events have a text that is read as them, and that text.
use Rattle.std.specs.Prelude.{◌≡◌, ℕ, ◌^◌, ◌<◌, List, length, Option, Some, None, Result, Ok, Err}
use Rattle.ff_ids.specs.declared.TheConstants.{MEMBERS, MASK_BITS, PAGES}
use Rattle.hex.specs.Hex.{IsBytes}
use Rattle.ff_ids.specs.declared.NoteBody.{NoteBody}
use Rattle.ff_ids.specs.declared.AccBody.{AccBody}
use Rattle.ff_ids.specs.declared.KeyBytes.{KeyBytes}
use Rattle.ff_ids.specs.declared.Fault.{Fault}
use Rattle.ff_ids.specs.declared.Fault.TheVariants as faults
use Rattle.records.specs.declared.keys.Key.{Key}
use Rattle.records.specs.Keys as record_keys
use Rattle.records.specs.Keys.{key_bytes, written}
use Rattle.records.specs.Spelling as records
use Rattle.records.specs.declared.CertBody.{CertBody}
use Rattle.records.specs.declared.Body.{Body}
use Rattle.records.specs.declared.Body.TheVariants as bodies
use Rattle.journal.specs.declared.event.Event.{Event}
use Rattle.journal.specs.declared.event.What.{What}
use Rattle.journal.specs.declared.event.What.TheVariants as happened
use Rattle.journal.specs.declared.fault.EventFault.{EventFault}
use Rattle.journal.specs.declared.fault.EventFault.TheVariants as answers
use Rattle.journal.specs.Grammar.{TakesMemory, about}
use Rattle.journal.specs.Texts.{event_text}

pub record IsKey (key : Key) : Type 0 where
  pub parts : record_keys.IsKey key
  pub bytes : IsBytes (key_bytes key)

pub record IsEpoch (epoch : ℕ) : Type 0 where
  pub some : 0 < epoch
  pub fits : epoch < 2 ^ 64

pub record IsPort (port : ℕ) : Type 0 where
  pub some : 0 < port
  pub fits : port < 2 ^ 16

pub record IsCertificate (c : CertBody) : Type 0 where
  pub certificate : records.IsCertificate c
  pub key : IsBytes (key_bytes c.key)

pub record IsAccusation (a : AccBody) : Type 0 where
  pub accusation : records.IsAccusation a
  pub ring : a.ring.0 < 256

abbrev pub IsBody : Body → Type 0
IsBody (bodies.Certificate c) = IsCertificate c
IsBody (bodies.Note n) = records.IsNote n
IsBody (bodies.Accusation a) = IsAccusation a

-- the bytes are a key's
pub record IsKeyOf (bytes : KeyBytes) : Type 0 where
  pub key : Key
  pub is_key : IsKey key
  pub same : bytes ≡ written key

-- a note of this member
pub record IsNoteOf (m : ℕ) (n : NoteBody) : Type 0 where
  pub member : n.member ≡ m
  pub epoch : IsEpoch n.epoch
  pub mask : n.mask.0 < 2 ^ MASK_BITS

abbrev pub IsMonitor : Option ℕ → Type 0
IsMonitor None = Unit {0}
IsMonitor (Some m) = m < MEMBERS

-- A fault of a record about this member. A text says of a note of one's own that is ahead only what isn't in the
-- record: its member is that of the record.
abbrev pub IsFault : ℕ → Fault → Type 0
IsFault m (faults.OtherCertificate port key) = IsPort port × IsKeyOf key
IsFault m (faults.Older epoch mask) = IsEpoch epoch × (mask.0 < 2 ^ MASK_BITS)
IsFault m (faults.OtherEpoch kept) = IsEpoch kept
IsFault m (faults.NotMonitor monitor) = IsMonitor monitor
IsFault m (faults.OwnAhead stored seen) = IsNoteOf m stored × IsNoteOf m seen
IsFault m _ = Unit {0}

abbrev pub IsVerdict : ℕ → Option Fault → Type 0
IsVerdict m None = Unit {0}
IsVerdict m (Some fault) = IsFault m fault

abbrev pub IsWhat : What → Type 0
IsWhat (happened.Entered m) = m < MEMBERS
IsWhat (happened.Expired a) = IsAccusation a
IsWhat (happened.Removed m) = m < MEMBERS
IsWhat (happened.Fell a) = IsAccusation a
IsWhat (happened.Spent index body) = (index < 2 ^ 32) × IsBody body
IsWhat (happened.Took body fault) = IsBody body × IsVerdict (about body) fault
IsWhat (happened.BadForm place) = place < 2 ^ 64
IsWhat (happened.Ping from nonce) = (from < MEMBERS) × (nonce < 2 ^ 64)
IsWhat (happened.Pong from nonce counted) = (from < MEMBERS) × (nonce < 2 ^ 64)
IsWhat (happened.Summary from page flag) = (from < MEMBERS) × (page < PAGES)
IsWhat (happened.Silent m) = m < MEMBERS
IsWhat (happened.Exhausted next) = next < 2 ^ 32
IsWhat (happened.Sent number to bytes) = (number < 2 ^ 64) × (to < MEMBERS) × (0 < length bytes) × IsBytes bytes
IsWhat (happened.Lost number) = number < 2 ^ 64
IsWhat (happened.Got number) = number < 2 ^ 64
IsWhat happened.Stopped = Unit {0}

-- Each number of the event is in its range, and this is its one text.
pub record IsEvent (text : List ℕ) (e : Event) : Type 0 where
  pub moment : e.moment < 2 ^ 64
  pub what : IsWhat e.what
  pub spelled : text ≡ event_text e

-- The answer is this event, or want of memory, where it takes some.
abbrev pub IsGiven : Event → Result Event EventFault → Type 0
IsGiven e (Ok answer) = answer ≡ e
IsGiven e (Err fault) = (fault ≡ answers.OutOfMemory) × TakesMemory e.what
