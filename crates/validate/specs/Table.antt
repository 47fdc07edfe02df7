-- The ordered table of faults of signed records: what is refused without a look at the signature, then the
-- signature, then a note of the observer itself that it doesn't know.
use Rattle.std.specs.Prelude.{◌≡◌, ℕ, Bool, false, ◌==◌, ◌&&◌, if◌then◌else◌, Option, Some, None, Result, Ok, Err, option_map, bytes_eq}
use Rattle.std.specs.Option.{option_or}
use Rattle.std.specs.Result.{is_ok}
use Rattle.ff_ids.specs.declared.NoteBody.{NoteBody}
use Rattle.ff_ids.specs.declared.Group.{Group}
use Rattle.ff_ids.specs.declared.Fault.{Fault}
use Rattle.ff_ids.specs.declared.Fault.TheVariants as faults
use Rattle.ff_ids.specs.Notes.{newest}
use Rattle.ff_ids.specs.Views.{State}
use Rattle.ff_ids.specs.Faults.{note_fault, accusation_fault}
use Rattle.membership.specs.Life.{Life, note_fault_in, accusation_fault_in}
use Rattle.lms_tree.specs.declared.key.PublicKey.{PublicKey}
use Rattle.lms_ots.specs.Ots as ots
use Rattle.lms_tree.specs.Kinds.{type_number}
use Rattle.records.specs.declared.CertBody.{CertBody}
use Rattle.records.specs.declared.Body.{Body}
use Rattle.records.specs.declared.Body.TheVariants.{Certificate, Note, Accusation}
use Rattle.records.specs.declared.Record.{Record}
use Rattle.records.specs.declared.keys.Key.{Key}
use Rattle.records.specs.declared.keys.Key.TheVariants as keys
use Rattle.records.specs.Keys.{verdict_of, written}
use Rattle.records.specs.Signing.{signed_bytes, CheckedRecord}
use Rattle.validate.specs.Certified.{Certificates, certificate_of}

-- ---- the rows

abbrev pub is_same_lms_key : PublicKey → PublicKey → Bool
is_same_lms_key a b =
    (type_number a.tree == type_number b.tree) && ((ots.type_number a.ots == ots.type_number b.ots) && (bytes_eq a.id b.id && bytes_eq a.root b.root))

-- Keys of one level are no keys of two.
abbrev pub is_same_key : Key → Key → Bool
is_same_key (keys.Lms a) (keys.Lms b) = is_same_lms_key a b
is_same_key (keys.Hss a) (keys.Hss b) = is_same_lms_key a.top b.top
is_same_key _ _ = false

abbrev pub is_same_certificate : CertBody → CertBody → Bool
is_same_certificate a b = (a.member == b.member) && ((a.port == b.port) && is_same_key a.key b.key)

-- This very certificate is kept for the number, or another one, whose port and key these are.
abbrev pub fault_beside_kept : CertBody → CertBody → Fault
fault_beside_kept kept c = if is_same_certificate kept c then faults.Known else faults.OtherCertificate kept.port (written kept.key)

abbrev pub certificate_fault : Option CertBody → CertBody → Option Fault
certificate_fault kept c = option_map (λ k. fault_beside_kept k c) kept

-- The record's signature is to verify under this key. Who has no certificate, and so no key, is no member.
abbrev pub signature_fault : (Key → Record → Bool) → Option Key → Record → Option Fault
signature_fault verifies None r = Some faults.UnknownMember
signature_fault verifies (Some key) r = if verifies key r then None else Some faults.BadSignature

-- a note of the observer itself, of which it had a newest one before
abbrev pub own_ahead : ℕ → Option NoteBody → NoteBody → Option Fault
own_ahead own newest_note n = if n.member == own then option_map (λ stored. faults.OwnAhead stored n) newest_note else None

-- ---- the table

-- What an observer knows when it checks a record: which signatures verify, the tolerance, the authority's key, the
-- certificates kept, the state, and its own number.
pub record Knowledge : Type 0 where
  pub verifies : Key → Record → Bool
  pub t : ℕ
  pub authority : Key
  pub certificate : ℕ → Option CertBody
  pub state : State
  pub own : ℕ

abbrev pub known_key : Knowledge → ℕ → Option Key
known_key k m = option_map (λ c. c.key) (k.certificate m)

abbrev pub first_fault_of : Knowledge → Record → Body → Option Fault
first_fault_of k r (Certificate c) = option_or (certificate_fault (k.certificate c.member) c) (signature_fault k.verifies (Some k.authority) r)
first_fault_of k r (Note n) =
    option_or (note_fault k.t k.state n)
    (option_or (signature_fault k.verifies (known_key k n.member) r) (own_ahead k.own (newest k.state.notes k.own) n))
first_fault_of k r (Accusation a) = option_or (accusation_fault k.t k.state a) (signature_fault k.verifies (known_key k a.accuser) r)

-- The first fault of a signed record, or none.
abbrev pub first_fault : Knowledge → Record → Option Fault
first_fault k r = first_fault_of k r r.body

-- Nothing that stands before its signature refuses the record of this body.
abbrev pub IsUnrefused : Group → Certificates → State → Body → Type 0
IsUnrefused g certificates s (Certificate c) = certificate_of certificates c.member ≡ None
IsUnrefused g certificates s (Note n) = note_fault g.t s n ≡ None
IsUnrefused g certificates s (Accusation a) = accusation_fault g.t s a ≡ None

-- Of the conditions that the table has before the signature none refuses a record of this body, by the life and the
-- certificates that are kept.
abbrev pub IsUnrefusedBy : Life → Certificates → Body → Type 0
IsUnrefusedBy l certificates (Certificate c) = certificate_of certificates c.member ≡ None
IsUnrefusedBy l certificates (Note n) = note_fault_in l n ≡ None
IsUnrefusedBy l certificates (Accusation a) = accusation_fault_in l a ≡ None

-- ---- what a call gives

-- The record's signature verifies under the key, in the group.
abbrev pub verifies_in : Group → Key → Record → Bool
verifies_in g key r = is_ok (verdict_of key (signed_bytes g.tag g.t r.body) r.signature)

-- an observer in the group, of this authority, certificates, state and number
abbrev pub known_by : Group → Key → Certificates → State → ℕ → Knowledge
known_by g authority certificates s own =
    record { verifies = verifies_in g; t = g.t; authority = authority; certificate = certificate_of certificates; state = s; own = own }

abbrev pub fault_in : {X : Type 0} → Result X Fault → Option Fault
fault_in (Ok x) = None
fault_in (Err fault) = Some fault

-- The record was checked in the group, under this key.
pub record IsCheckOf (g : Group) (key : Option Key) (r : Record) (c : CheckedRecord) : Type 0 where
  pub same : c ≡ record { rec = r; key = c.key; tag = g.tag; t = g.t }
  pub right_key : key ≡ Some c.key
