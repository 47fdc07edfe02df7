-- A key that is read from bytes is in them, and has an identifier and a root of their lengths.
use Rattle.std.proofs.Common.{◌≡◌, ℕ, ◌<◌, Bool, true, false, List, length, get_or, eqb, ap, ◌∙◌, refl, Option, Some, None, Result, Ok, Err, arith, eq-eqb, ne_eqb, lit≤, subst, if◌then◌else◌}
use Rattle.std.specs.Prelude.{is_ok, slice_range}
use Rattle.lms_ots.specs.declared.kind.OtsKind.{OtsKind}
use Rattle.lms_ots.specs.Ots as ots
use Rattle.lms_tree.specs.declared.kind.TreeKind.{TreeKind}
use Rattle.lms_tree.specs.declared.kind.KeyFault.{KeyFault as LmsKeyFault}
use Rattle.lms_tree.specs.declared.key.PublicKey.{PublicKey}
use Rattle.lms_tree.specs.Lms as lms_specs
use Rattle.lms_tree.specs.Lms.{tree_of, key_in, key_with}
use Rattle.lms_tree.proofs.Parts.{length-slice_range}
use Rattle.lms_tree.proofs.Keys as lms
use Rattle.hss.specs.Keys.{TwoLevelKey}
use Rattle.hss.specs.declared.key.HssKeyFault.{HssKeyFault}
use Rattle.hss.specs.Hss as hss_specs
use Rattle.hss.proofs.Keys as hss
use Rattle.records.specs.declared.keys.Key.{Key}
use Rattle.records.specs.declared.keys.Key.TheVariants as keys
use Rattle.records.specs.Keys.{AreKey, HasParts, IsHssKey, IsKey, hss_key, key_bytes, key_in as record_key_in, key_length, lms_key}

-- ---- keys of one level

abbrev IfKey : Result PublicKey LmsKeyFault → Type 0
IfKey (Ok key) = HasParts key
IfKey (Err fault) = Unit {0}

with_parts : (bytes : List ℕ) (tree : Option TreeKind) (kind : Option OtsKind) → length bytes ≡ 56 → IfKey (key_with bytes tree kind)
with_parts bytes None kind long = tt
with_parts bytes (Some tree) None long = tt
with_parts bytes (Some tree) (Some kind) long = record {
  id_long = length-slice_range bytes 8 24 (lit≤ tt) (omega (arith, long));
  root_long = length-slice_range bytes 24 56 (lit≤ tt) (omega (arith, long));
}

read_parts : (bytes : List ℕ) → length bytes ≡ 56 → IfKey (key_in bytes)
unfolding key_in
read_parts bytes long =
    let parts = with_parts bytes (tree_of (ots.number_at 0 bytes)) (ots.kind_of (ots.number_at 4 bytes)) long in
    rw (eq-eqb (length bytes) 56 long) parts

pub key_parts : (bytes : List ℕ) (key : PublicKey) → length bytes ≡ 56 → key_in bytes ≡ Ok key → HasParts key
key_parts bytes key long read = subst IfKey read (read_parts bytes long)

one_key : (x y : PublicKey) → lms_key (Ok x) ≡ Ok (keys.Lms y) → x ≡ y
one_key x y e = cc

lms_are : (bytes : List ℕ) (read : Result PublicKey LmsKeyFault) (key : Key) → ((i : ℕ) → get_or bytes i 0 < 256) → key_in bytes ≡ read → lms_key read ≡ Ok key → AreKey bytes key
lms_are bytes (Ok x) (keys.Lms y) below read e =
    let are = lms.key-are bytes y below (read ∙ ap (λ (k : PublicKey). Ok k) (one_key x y e)) in
    record { spelled = are.spelled; parts = record { id_long = are.id; root_long = are.root } }
lms_are bytes (Ok x) (keys.Hss y) below read e = absurd cc
lms_are bytes (Err fault) key below read e = absurd cc

-- ---- keys of two levels

pub hss_parts : (bytes : List ℕ) (key : TwoLevelKey) → hss_specs.key_in bytes ≡ Ok key → IsHssKey key
hss_parts bytes key read =
    let inside = hss.key-inside bytes key read in
    let long = length-slice_range bytes 4 60 (lit≤ tt) (omega (arith, inside.long)) in
    record { top = key_parts (slice_range bytes 4 60) key.top long inside.top; in_profile = inside.in_profile }

two_keys : (x y : TwoLevelKey) → hss_key (Ok x) ≡ Ok (keys.Hss y) → x ≡ y
two_keys x y e = cc

hss_are : (bytes : List ℕ) (read : Result TwoLevelKey HssKeyFault) (key : Key) → ((i : ℕ) → get_or bytes i 0 < 256) → hss_specs.key_in bytes ≡ read → hss_key read ≡ Ok key → AreKey bytes key
hss_are bytes (Ok x) (keys.Hss y) below read e =
    let is = read ∙ ap (λ (k : TwoLevelKey). Ok k) (two_keys x y e) in
    record { spelled = (hss.key-are bytes y below is).spelled; parts = hss_parts bytes y is }
hss_are bytes (Ok x) (keys.Lms y) below read e = absurd cc
hss_are bytes (Err fault) key below read e = absurd cc

-- ---- either

by_length : (bytes : List ℕ) (key : Key) (two : Bool) → ((i : ℕ) → get_or bytes i 0 < 256)
    → (if two then hss_key (hss_specs.key_in bytes) else lms_key (key_in bytes)) ≡ Ok key → AreKey bytes key
by_length bytes key true below e = hss_are bytes (hss_specs.key_in bytes) key below refl e
by_length bytes key false below e = lms_are bytes (key_in bytes) key below refl e

pub key-are : (bytes : List ℕ) (key : Key) → ((i : ℕ) → get_or bytes i 0 < 256) → record_key_in bytes ≡ Ok key → AreKey bytes key
key-are bytes key below e = by_length bytes key (eqb (length bytes) 60) below e

lms_long : (key : PublicKey) → HasParts key → length (lms_specs.key_bytes key) ≡ 56
lms_long key good = hss.length-key key good.id_long good.root_long

hss_long : (key : TwoLevelKey) → IsHssKey key → length (hss_specs.key_bytes key) ≡ 60
unfolding hss_specs.key_bytes
hss_long key good = omega (arith, lms_long key.top good.top)

-- A key has 56 or 60 bytes.
pub key-length : (key : Key) → IsKey key → length (key_bytes key) ≡ key_length key
key-length (keys.Lms key) good = lms_long key good
key-length (keys.Hss key) good = hss_long key good

as_two : (bytes : List ℕ) → length bytes ≡ 60 → record_key_in bytes ≡ hss_key (hss_specs.key_in bytes)
as_two bytes long = rw (eq-eqb (length bytes) 60 long) refl

as_one : (bytes : List ℕ) → (length bytes ≡ 60 → ⊥) → record_key_in bytes ≡ lms_key (key_in bytes)
as_one bytes other = rw (ne_eqb (length bytes) 60 other) refl

pub key-again : (bytes : List ℕ) (key : Key) → AreKey bytes key → record_key_in bytes ≡ Ok key
key-again bytes (keys.Lms key) are =
    as_one bytes (λ e. absurd (omega (arith, e, ap length are.spelled, lms_long key are.parts)))
    ∙ ap lms_key (lms.key-again bytes key (record { spelled = are.spelled; id = are.parts.id_long; root = are.parts.root_long }))
key-again bytes (keys.Hss key) are =
    as_two bytes (ap length are.spelled ∙ hss_long key are.parts)
    ∙ ap hss_key (hss.key-again bytes key (record { spelled = are.spelled; id = are.parts.top.id_long; root = are.parts.top.root_long; in_profile = are.parts.in_profile }))

of_lms : (read : Result PublicKey LmsKeyFault) → is_ok (lms_key read) ≡ is_ok read
of_lms (Ok key) = refl
of_lms (Err fault) = refl

-- Bytes of another length are no key.
pub key-long : (bytes : List ℕ) → (length bytes ≡ 56 → ⊥) → (length bytes ≡ 60 → ⊥) → is_ok (record_key_in bytes) ≡ false
key-long bytes one two =
    ap is_ok (as_one bytes two) ∙ of_lms (key_in bytes) ∙ lms.key-long bytes (ne_eqb (length bytes) 56 one)
