-- The keys under which records are signed: their bytes, and what verifies under them.
use Rattle.std.specs.Prelude.{◌≡◌, ℕ, ◌==◌, true, if◌then◌else◌, List, length, Result, Ok, Err}
use Rattle.ff_ids.specs.declared.KeyBytes.{KeyBytes}
use Rattle.ff_ids.specs.declared.KeyBytes.TheVariants as stored
use Rattle.ff_ids.specs.Keys.{listed}
use Rattle.lms_tree.specs.declared.key.PublicKey.{PublicKey}
use Rattle.lms_tree.specs.declared.kind.KeyFault.{KeyFault as LmsKeyFault}
use Rattle.lms_tree.specs.declared.kind.SigFault.{SigFault}
use Rattle.lms_tree.specs.Lms as lms
use Rattle.hss.specs.Keys.{TwoLevelKey, is_in_profile}
use Rattle.hss.specs.declared.key.HssKeyFault.{HssKeyFault}
use Rattle.hss.specs.declared.verifying.HssFault.{HssFault}
use Rattle.hss.specs.Hss as hss
use Rattle.records.specs.declared.keys.Key.{Key}
use Rattle.records.specs.declared.keys.Key.TheVariants as keys
use Rattle.records.specs.declared.keys.KeyFault.{KeyFault}
use Rattle.records.specs.declared.keys.KeyFault.TheVariants as key_faults
use Rattle.records.specs.declared.keys.RecordFault.{RecordFault}
use Rattle.records.specs.declared.keys.RecordFault.TheVariants as faults

-- What is written of the key.
abbrev pub written : Key → KeyBytes
written (keys.Lms key) = stored.Lms (lms.key_bytes key)
written (keys.Hss key) = stored.Hss (hss.key_bytes key)

-- The key's bytes.
abbrev pub key_bytes : Key → List ℕ
key_bytes key = listed (written key)

-- how many they are
abbrev pub key_length : Key → ℕ
key_length (keys.Lms key) = 56
key_length (keys.Hss key) = 60

-- a key of one level, as one under which records are signed
abbrev pub lms_key : Result PublicKey LmsKeyFault → Result Key KeyFault
lms_key (Ok key) = Ok (keys.Lms key)
lms_key (Err fault) = Err (key_faults.Lms fault)

-- the same of a key of two levels
abbrev pub hss_key : Result TwoLevelKey HssKeyFault → Result Key KeyFault
hss_key (Ok key) = Ok (keys.Hss key)
hss_key (Err fault) = Err (key_faults.Hss fault)

-- The key in these bytes, of two levels where they are 60 and else of one, or why they are none.
abbrev pub key_in : List ℕ → Result Key KeyFault
key_in bytes = if length bytes == 60 then hss_key (hss.key_in bytes) else lms_key (lms.key_in bytes)

-- the identifier and the root of a key of one level have their lengths
pub record HasParts (key : PublicKey) : Type 0 where
  pub id_long : length key.id ≡ 16
  pub root_long : length key.root ≡ 32

-- those of a key of two levels have theirs, and its one-time signatures are of W4 or W8
pub record IsHssKey (key : TwoLevelKey) : Type 0 where
  pub top : HasParts key.top
  pub in_profile : is_in_profile key.top.ots ≡ true

-- The key's parts are as they should be.
abbrev pub IsKey : Key → Type 0
IsKey (keys.Lms key) = HasParts key
IsKey (keys.Hss key) = IsHssKey key

-- The bytes are the key's, whose parts are as they should be.
pub record AreKey (bytes : List ℕ) (key : Key) : Type 0 where
  pub spelled : bytes ≡ key_bytes key
  pub parts : IsKey key

-- The bytes are a signature of the message under the key.
abbrev pub Verifies : Key → List ℕ → List ℕ → Type 0
Verifies (keys.Lms key) message signature = lms.Verifies key message signature
Verifies (keys.Hss key) message signature = hss.HssVerifies key message signature

-- the verdict of a key of one level, as one on a record's signature
abbrev pub lms_verdict : Result (Unit {0}) SigFault → Result (Unit {0}) RecordFault
lms_verdict (Ok done) = Ok tt
lms_verdict (Err fault) = Err (faults.Lms fault)

-- the same of a key of two levels
abbrev pub hss_verdict : Result (Unit {0}) HssFault → Result (Unit {0}) RecordFault
hss_verdict (Ok done) = Ok tt
hss_verdict (Err fault) = Err (faults.Hss fault)

-- Whether the signature is good under the key, or the first reason why it is not.
abbrev pub verdict_of : Key → List ℕ → List ℕ → Result (Unit {0}) RecordFault
verdict_of (keys.Lms key) message signature = lms_verdict (lms.verdict_of key message signature)
verdict_of (keys.Hss key) message signature = hss_verdict (hss.verdict_of key message signature)
