-- Worked rows: bodies as bytes, and the places of faults.
use Rattle.std.proofs.Common.{◌≡◌, ℕ, List, [], ◌∷◌, ◌++◌, Ok, Err, refl, replicate}
use Rattle.std.specs.Prelude.{Result}
use Rattle.fields.specs.Reading.{Reading, reading_of}
use Rattle.lms_ots.specs.declared.kind.OtsKind.TheVariants.{W8}
use Rattle.lms_tree.specs.declared.kind.TreeKind.TheVariants.{H5}
use Rattle.lms_tree.specs.Lms.{key_bytes}
use Rattle.hss.specs.Hss as hss
use Rattle.records.specs.declared.keys.Key.TheVariants as keys
use Rattle.records.specs.declared.Body.TheVariants.{Certificate, Note, Accusation}
use Rattle.records.specs.declared.Record.{Record}
use Rattle.records.specs.Spelling.{certificate_bytes, note_bytes, accusation_bytes, body_bytes}
use Rattle.records.specs.Grammar.{key_at, top_key_at, hss_key_at, certificate_at, hss_certificate_at, note_at, wide_note_at, accusation_at, body_at, signature_at, record_at}
use Rattle.records.specs.Signing.{signed_bytes}

abbrev read : List ℕ → Result (Record × Reading) ℕ
read bytes = record_at (reading_of bytes)

-- the note of member 2 with epoch 1 and the mask of three rings
abbrev note : List ℕ
note = 2 ∷ 0 ∷ 2 ∷ 0 ∷ 0 ∷ 0 ∷ 0 ∷ 0 ∷ 0 ∷ 0 ∷ 1 ∷ 0 ∷ 0 ∷ 0 ∷ 7 ∷ []

-- the accusation of 2 by 1 at epoch 1 on ring 0
abbrev accusation : List ℕ
accusation = 3 ∷ 0 ∷ 1 ∷ 0 ∷ 2 ∷ 0 ∷ 0 ∷ 0 ∷ 0 ∷ 0 ∷ 0 ∷ 0 ∷ 1 ∷ 0 ∷ []

-- a certificate of member 2 at port 20002
abbrev certificate : List ℕ
certificate = 1 ∷ 0 ∷ 2 ∷ 78 ∷ 34 ∷ 0 ∷ 0 ∷ 0 ∷ 5 ∷ 0 ∷ 0 ∷ 0 ∷ 4 ∷ [] ++ replicate 16 7 ++ replicate 32 9

-- the same with a key of two levels
abbrev two_levels : List ℕ
two_levels = 5 ∷ 0 ∷ 2 ∷ 78 ∷ 34 ∷ 0 ∷ 0 ∷ 0 ∷ 2 ∷ 0 ∷ 0 ∷ 0 ∷ 5 ∷ 0 ∷ 0 ∷ 0 ∷ 4 ∷ [] ++ replicate 16 7 ++ replicate 32 9

two_level_body : body_bytes (Certificate (record { member = 2; port = 20002; key = keys.Hss (record { top = record { tree = H5; ots = W8; id = replicate 16 7; root = replicate 32 9 } }) })) ≡ two_levels
unfolding certificate_bytes key_bytes hss.key_bytes
two_level_body = refl

bodies : (body_bytes (Note (record { member = 2; epoch = 1; mask = record { 0 = 7 } })) ≡ note)
    × (body_bytes (Accusation (record { accuser = 1; accused = 2; epoch = 1; ring = record { 0 = 0 } })) ≡ accusation)
    × (body_bytes (Certificate (record { member = 2; port = 20002; key = keys.Lms (record { tree = H5; ots = W8; id = replicate 16 7; root = replicate 32 9 }) })) ≡ certificate)
unfolding certificate_bytes note_bytes accusation_bytes key_bytes
bodies = (refl, refl, refl)

-- that with a mask of four rings, of which one has the bit 2^32
abbrev wide_note : List ℕ
wide_note = 4 ∷ 0 ∷ 2 ∷ 0 ∷ 0 ∷ 0 ∷ 0 ∷ 0 ∷ 0 ∷ 0 ∷ 1 ∷ 0 ∷ 0 ∷ 0 ∷ 1 ∷ 0 ∷ 0 ∷ 0 ∷ 7 ∷ []

wide_body : body_bytes (Note (record { member = 2; epoch = 1; mask = record { 0 = 4294967303 } })) ≡ wide_note
unfolding note_bytes
wide_body = refl

-- a wide note with the mask of three rings
wide_places : (read (4 ∷ 0 ∷ 2 ∷ 0 ∷ 0 ∷ 0 ∷ 0 ∷ 0 ∷ 0 ∷ 0 ∷ 1 ∷ 0 ∷ 0 ∷ 0 ∷ 0 ∷ 0 ∷ 0 ∷ 0 ∷ 7 ∷ []) ≡ Err 11)
    × (read (4 ∷ 0 ∷ 2 ∷ 0 ∷ 0 ∷ 0 ∷ 0 ∷ 0 ∷ 0 ∷ 0 ∷ 1 ∷ 0 ∷ 0 ∷ 0 ∷ 0 ∷ 255 ∷ 255 ∷ 255 ∷ 255 ∷ []) ≡ Err 11)
    × (read (4 ∷ 0 ∷ 2 ∷ 0 ∷ 0 ∷ 0 ∷ 0 ∷ 0 ∷ 0 ∷ 0 ∷ 1 ∷ 0 ∷ 0 ∷ 0 ∷ 1 ∷ 0 ∷ 0 ∷ 0 ∷ []) ≡ Err 11)
    × (read (4 ∷ 0 ∷ 2 ∷ 0 ∷ 0 ∷ 0 ∷ 0 ∷ 0 ∷ 0 ∷ 0 ∷ 1 ∷ 0 ∷ 0 ∷ 0 ∷ 1 ∷ 0 ∷ 0 ∷ 0 ∷ 7 ∷ 0 ∷ 0 ∷ []) ≡ Err 19)
unfolding record_at body_at wide_note_at signature_at
wide_places = (refl, refl, refl, refl)

signed : signed_bytes (replicate 16 0) 1 (Note (record { member = 2; epoch = 1; mask = record { 0 = 7 } })) ≡ 70 ∷ 70 ∷ 83 ∷ 73 ∷ 71 ∷ 78 ∷ [] ++ replicate 16 0 ++ 1 ∷ note
unfolding signed_bytes note_bytes
signed = refl

-- the place of each fault, with what follows it unread
places : (read ([]) ≡ Err 0)
    × (read (0 ∷ note) ≡ Err 0)
    × (read (6 ∷ note) ≡ Err 0)
    × (read (2 ∷ 4 ∷ 0 ∷ note) ≡ Err 1)
    × (read (2 ∷ 0 ∷ 2 ∷ 0 ∷ 0 ∷ 0 ∷ 0 ∷ 0 ∷ 0 ∷ 0 ∷ 0 ∷ note) ≡ Err 3)
    × (read (note ++ 0 ∷ 0 ∷ note) ≡ Err 15)
    × (read (note ++ 35 ∷ 45 ∷ note) ≡ Err 15)
    × (read (note ++ 0 ∷ 5 ∷ 1 ∷ 2 ∷ 3 ∷ 4 ∷ []) ≡ Err 17)
    × (read (3 ∷ 0 ∷ 1 ∷ 4 ∷ 0 ∷ note) ≡ Err 3)
    × (read (1 ∷ 0 ∷ 2 ∷ 0 ∷ 0 ∷ note) ≡ Err 3)
    × (read (1 ∷ 0 ∷ 2 ∷ 78 ∷ 34 ∷ 0 ∷ 0 ∷ 0 ∷ 4 ∷ note) ≡ Err 5)
    × (read (1 ∷ 0 ∷ 2 ∷ 78 ∷ 34 ∷ 0 ∷ 0 ∷ 0 ∷ 5 ∷ 0 ∷ 0 ∷ 0 ∷ 5 ∷ note) ≡ Err 9)
    × (read (1 ∷ 0 ∷ 2 ∷ 78 ∷ 34 ∷ 0 ∷ 0 ∷ 0 ∷ 5 ∷ 0 ∷ 0 ∷ 0 ∷ 4 ∷ [] ++ replicate 16 7 ++ replicate 31 9) ≡ Err 29)
unfolding record_at body_at certificate_at note_at accusation_at key_at signature_at
places = (refl, refl, refl, refl, refl, refl, refl, refl, refl, refl, refl, refl, refl)

-- kind 5 with a key of one level, with one or three levels, with W2, with a tree that isn't known, and cut; and kind 1 with a
-- key of two levels
two_level_places : (read (5 ∷ 0 ∷ 2 ∷ 78 ∷ 34 ∷ 0 ∷ 0 ∷ 0 ∷ 5 ∷ 0 ∷ 0 ∷ 0 ∷ 4 ∷ [] ++ replicate 16 7 ++ replicate 32 9 ++ 0 ∷ 1 ∷ 5 ∷ []) ≡ Err 5)
    × (read (5 ∷ 0 ∷ 2 ∷ 78 ∷ 34 ∷ 0 ∷ 0 ∷ 0 ∷ 1 ∷ 0 ∷ 0 ∷ 0 ∷ 5 ∷ note) ≡ Err 5)
    × (read (5 ∷ 0 ∷ 2 ∷ 78 ∷ 34 ∷ 0 ∷ 0 ∷ 0 ∷ 3 ∷ 0 ∷ 0 ∷ 0 ∷ 5 ∷ note) ≡ Err 5)
    × (read (5 ∷ 0 ∷ 2 ∷ 78 ∷ 34 ∷ 0 ∷ 0 ∷ 0 ∷ 2 ∷ 0 ∷ 0 ∷ 0 ∷ 8 ∷ note) ≡ Err 9)
    × (read (5 ∷ 0 ∷ 2 ∷ 78 ∷ 34 ∷ 0 ∷ 0 ∷ 0 ∷ 2 ∷ 0 ∷ 0 ∷ 0 ∷ 5 ∷ 0 ∷ 0 ∷ 0 ∷ 2 ∷ note) ≡ Err 13)
    × (read (5 ∷ 0 ∷ 2 ∷ 78 ∷ 34 ∷ 0 ∷ 0 ∷ 0 ∷ 2 ∷ 0 ∷ 0 ∷ 0 ∷ 5 ∷ 0 ∷ 0 ∷ 0 ∷ 4 ∷ [] ++ replicate 16 7 ++ replicate 31 9) ≡ Err 33)
    × (read (1 ∷ 0 ∷ 2 ∷ 78 ∷ 34 ∷ 0 ∷ 0 ∷ 0 ∷ 2 ∷ 0 ∷ 0 ∷ 0 ∷ 5 ∷ note) ≡ Err 5)
unfolding record_at body_at certificate_at hss_certificate_at key_at top_key_at hss_key_at
two_level_places = (refl, refl, refl, refl, refl, refl, refl)

-- bytes behind a record are left
rest_is_left : read (note ++ 0 ∷ 2 ∷ 5 ∷ 6 ∷ 1 ∷ 0 ∷ []) ≡ Ok (record { body = Note (record { member = 2; epoch = 1; mask = record { 0 = 7 } }); signature = 5 ∷ 6 ∷ [] }, record { place = 19; left = 1 ∷ 0 ∷ [] })
unfolding record_at body_at note_at signature_at
rest_is_left = refl
