-- Reading a record from left to right. A step gives a value and what is left after it, or the place of the fault:
-- the first byte of the first field that is cut short or breaks its rule.
use Rattle.std.specs.Prelude.{◌≡◌, ℕ, ◌&&◌, ◌==◌, nat_lt, nat_le, if◌then◌else◌, List, length, take, slice_index, Option, Some, None, Result, Ok, Err, IsOk, IsOkAnd}
use Rattle.std.specs.Int.{Width, w16, w32, w64, byte_len, from_be_bytes}
use Rattle.ff_ids.specs.declared.TheConstants.{LAST_MEMBER}
use Rattle.fields.specs.Reading.{Reading, advanced}
use Rattle.ff_ids.specs.declared.NoteBody.{NoteBody}
use Rattle.ff_ids.specs.declared.AccBody.{AccBody}
use Rattle.lms_tree.specs.declared.key.PublicKey.{PublicKey}
use Rattle.lms_ots.specs.declared.kind.OtsKind.{OtsKind}
use Rattle.lms_ots.specs.Ots as ots
use Rattle.lms_tree.specs.Lms.{tree_of}
use Rattle.hss.specs.Keys.{TwoLevelKey, is_in_profile}
use Rattle.records.specs.declared.CertBody.{CertBody}
use Rattle.records.specs.declared.Body.{Body}
use Rattle.records.specs.declared.Body.TheVariants.{Certificate, Note, Accusation}
use Rattle.records.specs.declared.Record.{Record}
use Rattle.records.specs.declared.keys.Key.{Key}
use Rattle.records.specs.declared.keys.Key.TheVariants as keys
use Rattle.records.specs.declared.fault.FormFault.{FormFault}
use Rattle.records.specs.declared.fault.FormFault.TheVariants as faults
use Rattle.records.specs.declared.steps.Misread.{Misread}

infixl 10 ◌>>=◌
abbrev pub ◌>>=◌ : {A B : Type 0} → Result A ℕ → (A → Result B ℕ) → Result B ℕ
(Ok x) >>= f = f x
(Err place) >>= f = Err place

-- ---- fields

-- the value of a field that keeps its rule, and what is left after its bytes
abbrev pub kept : {A : Type 0} → ℕ → Reading → Option A → Result (A × Reading) ℕ
kept n r (Some x) = Ok (x, advanced n r)
kept n r None = Err r.place

-- a number of this width, of which the rule makes a value
abbrev pub number_at : {A : Type 0} → Width → (ℕ → Option A) → Reading → Result (A × Reading) ℕ
number_at w rule r =
    if nat_lt (length r.left) (byte_len w) then Err r.place
    else kept (byte_len w) r (rule (from_be_bytes w (take (byte_len w) r.left)))

abbrev pub byte_at : {A : Type 0} → (ℕ → Option A) → Reading → Result (A × Reading) ℕ
byte_at rule r = if nat_lt (length r.left) 1 then Err r.place else kept 1 r (rule (slice_index r.left 0))

-- so many bytes, whatever they are
abbrev pub bytes_at : ℕ → Reading → Result (List ℕ × Reading) ℕ
bytes_at n r = if nat_lt (length r.left) n then Err r.place else Ok (take n r.left, advanced n r)

-- ---- rules

abbrev pub any_number : ℕ → Option ℕ
any_number n = Some n

abbrev pub number_within : ℕ → ℕ → ℕ → Option ℕ
number_within least most n = if nat_le least n && nat_le n most then Some n else None

abbrev pub member_number : ℕ → Option ℕ
member_number n = number_within 0 LAST_MEMBER n

abbrev pub nonzero : ℕ → Option ℕ
nonzero n = if n == 0 then None else Some n

-- a mask that four bytes don't hold
abbrev pub wide_mask : ℕ → Option ℕ
wide_mask n = number_within 4294967296 18446744073709551615 n

-- how many levels a key of two has
abbrev pub two_levels : ℕ → Option ℕ
two_levels n = number_within 2 2 n

abbrev pub signature_length : ℕ → Option ℕ
signature_length n = number_within 1 9004 n

-- ---- bodies

-- the one-time signatures of a key of two levels are of W4 or W8
abbrev pub kept_in_profile : Option OtsKind → Option OtsKind
kept_in_profile (Some kind) = if is_in_profile kind then Some kind else None
kept_in_profile None = None

abbrev pub profile_kind : ℕ → Option OtsKind
profile_kind n = kept_in_profile (ots.kind_of n)

-- a key of one level whose one-time signatures keep this rule
abbrev pub key_by : (ℕ → Option OtsKind) → Reading → Result (PublicKey × Reading) ℕ
key_by rule r = do
  tree ← number_at w32 tree_of r
  kind ← number_at w32 rule tree.1
  id ← bytes_at 16 kind.1
  root ← bytes_at 32 id.1
  Ok (record { tree = tree.0; ots = kind.0; id = id.0; root = root.0 }, root.1)

unfoldable pub key_at : Reading → Result (PublicKey × Reading) ℕ
key_at r = key_by ots.kind_of r

unfoldable pub top_key_at : Reading → Result (PublicKey × Reading) ℕ
top_key_at r = key_by profile_kind r

-- the number of levels, and the top key
unfoldable pub hss_key_at : Reading → Result (TwoLevelKey × Reading) ℕ
hss_key_at r = do
  levels ← number_at w32 two_levels r
  top ← top_key_at levels.1
  Ok (record { top = top.0 }, top.1)

-- a certificate whose key is read so
abbrev pub certificate_by : {K : Type 0} → (K → Key) → (Reading → Result (K × Reading) ℕ) → Reading → Result (CertBody × Reading) ℕ
certificate_by view step r = do
  member ← number_at w16 member_number r
  port ← number_at w16 nonzero member.1
  key ← step port.1
  Ok (record { member = member.0; port = port.0; key = view key.0 }, key.1)

unfoldable pub certificate_at : Reading → Result (CertBody × Reading) ℕ
certificate_at r = certificate_by (λ k. keys.Lms k) key_at r

unfoldable pub hss_certificate_at : Reading → Result (CertBody × Reading) ℕ
hss_certificate_at r = certificate_by (λ k. keys.Hss k) hss_key_at r

-- a note whose mask has this width and keeps this rule
abbrev pub note_by : Width → (ℕ → Option ℕ) → Reading → Result (NoteBody × Reading) ℕ
note_by width rule r = do
  member ← number_at w16 member_number r
  epoch ← number_at w64 nonzero member.1
  mask ← number_at width rule epoch.1
  Ok (record { member = member.0; epoch = epoch.0; mask = record { 0 = mask.0 } }, mask.1)

unfoldable pub note_at : Reading → Result (NoteBody × Reading) ℕ
note_at r = note_by w32 any_number r

unfoldable pub wide_note_at : Reading → Result (NoteBody × Reading) ℕ
wide_note_at r = note_by w64 wide_mask r

unfoldable pub accusation_at : Reading → Result (AccBody × Reading) ℕ
accusation_at r = do
  accuser ← number_at w16 member_number r
  accused ← number_at w16 member_number accuser.1
  epoch ← number_at w64 nonzero accused.1
  ring ← byte_at any_number epoch.1
  Ok (record { accuser = accuser.0; accused = accused.0; epoch = epoch.0; ring = record { 0 = ring.0 } }, ring.1)

abbrev pub kind_number : ℕ → Option ℕ
kind_number n = number_within 1 5 n

-- the body of this kind
abbrev pub body_of_kind : ℕ → Reading → Result (Body × Reading) ℕ
body_of_kind kind r =
    if kind == 1 then (certificate_at r >>= λ c. Ok (Certificate c.0, c.1))
    else (if kind == 2 then (note_at r >>= λ n. Ok (Note n.0, n.1))
    else (if kind == 3 then (accusation_at r >>= λ a. Ok (Accusation a.0, a.1))
    else (if kind == 4 then (wide_note_at r >>= λ n. Ok (Note n.0, n.1))
    else (hss_certificate_at r >>= λ c. Ok (Certificate c.0, c.1)))))

unfoldable pub body_at : Reading → Result (Body × Reading) ℕ
body_at r = byte_at kind_number r >>= λ kind. body_of_kind kind.0 kind.1

unfoldable pub signature_at : Reading → Result (List ℕ × Reading) ℕ
signature_at r = number_at w16 signature_length r >>= λ n. bytes_at n.0 n.1

-- a body, and the signature behind it
unfoldable pub record_at : Reading → Result (Record × Reading) ℕ
record_at r = do
  body ← body_at r
  signature ← signature_at body.1
  Ok (record { body = body.0; signature = signature.0 }, signature.1)

-- ---- what calls give

-- A step of the reader gave, seen by view, what the definition reads.
abbrev pub Reads : {X A : Type 0} → (X → A) → Result X Misread → Reading → Result (A × Reading) ℕ → Type 0
Reads view (Ok x) later read = read ≡ Ok (view x, later)
Reads view (Err e) later read = read ≡ Err e.place

-- The step went past what the definition reads, or gave the place of the fault.
abbrev pub Passes : {A : Type 0} → Result Unit Misread → Reading → Result (A × Reading) ℕ → Type 0
Passes (Ok done) later read = IsOkAnd read (λ x. x.1 ≡ later)
Passes (Err e) later read = read ≡ Err e.place

-- The answer is the record that is read next, or the place of the fault. Memory may be wanted for a record alone.
abbrev pub ReadsRecord : Result Record FormFault → Reading → Result (Record × Reading) ℕ → Type 0
ReadsRecord (Ok x) later read = read ≡ Ok (x, later)
ReadsRecord (Err (faults.BadForm place)) later read = read ≡ Err place
ReadsRecord (Err faults.OutOfMemory) later read = IsOk read

-- The answer is the record that is read and how many bytes it takes, or the place of the fault. Memory may be wanted for a record alone.
abbrev pub GivesRecord : Result (Record × Reading) ℕ → Result (Record × ℕ) FormFault → Type 0
GivesRecord (Ok x) (Ok y) = y ≡ (x.0, x.1.place)
GivesRecord (Ok x) (Err e) = e ≡ faults.OutOfMemory
GivesRecord (Err place) answer = answer ≡ Err (faults.BadForm place)

-- The answer is the record and that it takes so many bytes, unless memory was wanted.
abbrev pub IsGiven : Record → ℕ → Result (Record × ℕ) FormFault → Type 0
IsGiven r taken (Ok y) = y ≡ (r, taken)
IsGiven r taken (Err e) = e ≡ faults.OutOfMemory
