-- Records as bytes: the one spelling of each, and what has a spelling. Numbers are big-endian.
use Rattle.std.specs.Prelude.{◌≡◌, ℕ, ◌^◌, ◌<◌, ◌≤◌, if◌then◌else◌, List, [], ◌∷◌, ◌++◌, length}
use Rattle.std.specs.Int.{Width, w16, w32, w64, to_be_bytes}
use Rattle.ff_ids.specs.declared.TheConstants.{MEMBERS, MASK_BITS}
use Rattle.ff_ids.specs.Masks.{is_wide}
use Rattle.ff_ids.specs.declared.NoteBody.{NoteBody}
use Rattle.ff_ids.specs.declared.AccBody.{AccBody}
use Rattle.records.specs.declared.CertBody.{CertBody}
use Rattle.records.specs.declared.Body.{Body}
use Rattle.records.specs.declared.Body.TheVariants.{Certificate, Note, Accusation}
use Rattle.records.specs.declared.Record.{Record}
use Rattle.records.specs.declared.keys.Key.{Key}
use Rattle.records.specs.declared.keys.Key.TheVariants as keys
use Rattle.records.specs.Keys.{IsKey, key_bytes}

-- a certificate's kind: 1 where its key is of one level, and 5 where it is of two
abbrev pub certificate_kind : Key → ℕ
certificate_kind (keys.Lms key) = 1
certificate_kind (keys.Hss key) = 5

-- the kind, the member, its port, and the key's 56 or 60 bytes
unfoldable pub certificate_bytes : CertBody → List ℕ
certificate_bytes c = certificate_kind c.key ∷ (to_be_bytes w16 c.member ++ (to_be_bytes w16 c.port ++ key_bytes c.key))

-- the member, its epoch, and the mask, in so many bytes
abbrev pub note_fields : Width → NoteBody → List ℕ
note_fields width n = to_be_bytes w16 n.member ++ (to_be_bytes w64 n.epoch ++ to_be_bytes width n.mask.0)

-- kind 2, with the mask in four bytes; or where they don't hold it kind 4, with the mask in eight
unfoldable pub note_bytes : NoteBody → List ℕ
note_bytes n = if is_wide n.mask.0 then 4 ∷ note_fields w64 n else 2 ∷ note_fields w32 n

-- kind 3, the accuser, the accused, the epoch, and the ring
unfoldable pub accusation_bytes : AccBody → List ℕ
accusation_bytes a = 3 ∷ (to_be_bytes w16 a.accuser ++ (to_be_bytes w16 a.accused ++ (to_be_bytes w64 a.epoch ++ a.ring.0 ∷ [])))

-- The one spelling of a body.
abbrev pub body_bytes : Body → List ℕ
body_bytes (Certificate c) = certificate_bytes c
body_bytes (Note n) = note_bytes n
body_bytes (Accusation a) = accusation_bytes a

-- the body, the signature's length in two bytes, and the signature
abbrev pub record_bytes : Record → List ℕ
record_bytes r = body_bytes r.body ++ (to_be_bytes w16 (length r.signature) ++ r.signature)

-- ---- what has a spelling

pub record IsCertificate (c : CertBody) : Type 0 where
  pub member_number : c.member < MEMBERS
  pub has_port : 0 < c.port
  pub port_fits : c.port < 2 ^ 16
  pub key : IsKey c.key

pub record IsNote (n : NoteBody) : Type 0 where
  pub member_number : n.member < MEMBERS
  pub has_epoch : 0 < n.epoch
  pub epoch_fits : n.epoch < 2 ^ 64
  pub mask_fits : n.mask.0 < 2 ^ MASK_BITS

pub record IsAccusation (a : AccBody) : Type 0 where
  pub accuser_number : a.accuser < MEMBERS
  pub accused_number : a.accused < MEMBERS
  pub has_epoch : 0 < a.epoch
  pub epoch_fits : a.epoch < 2 ^ 64

abbrev pub IsBody : Body → Type 0
IsBody (Certificate c) = IsCertificate c
IsBody (Note n) = IsNote n
IsBody (Accusation a) = IsAccusation a

-- a signature has 1 to 9,004 bytes
pub record HasLength (signature : List ℕ) : Type 0 where
  pub some : 0 < length signature
  pub few : length signature ≤ 9004

-- The bytes are the record's one spelling, and each of its fields keeps its rule.
pub record IsRecord (bytes : List ℕ) (r : Record) : Type 0 where
  pub body : IsBody r.body
  pub signature : HasLength r.signature
  pub spelled : bytes ≡ record_bytes r

-- ---- what a caller sees to, since no type does

-- a certificate's port isn't 0
abbrev pub HasPort : Body → Type 0
HasPort (Certificate c) = 0 < c.port
HasPort (Note n) = Unit {0}
HasPort (Accusation a) = Unit {0}

pub record IsWritable (r : Record) : Type 0 where
  pub port : HasPort r.body
  pub signature : HasLength r.signature
