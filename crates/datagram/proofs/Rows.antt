-- Worked rows: datagrams as bytes, and the places of faults.
use Rattle.std.proofs.Common.{◌≡◌, ℕ, List, [], ◌∷◌, ◌++◌, Ok, Err, refl, true, replicate}
use Rattle.ff_ids.specs.declared.summary.SummaryEntry.{SummaryEntry}
use Rattle.records.specs.declared.Body.TheVariants.{Note}
use Rattle.records.specs.Spelling.{note_bytes}
use Rattle.records.specs.Grammar.{key_at, certificate_at, note_at, accusation_at, body_at, signature_at, record_at}
use Rattle.datagram.specs.declared.Datagram.TheVariants.{Ping, Pong, Summary, Records}
use Rattle.datagram.specs.Spelling.{head_bytes, entry_bytes, summary_bytes, records_bytes, datagram_bytes}
use Rattle.datagram.specs.Grammar.{head_at, entry_at, entries_at, summary_at, counted_at, records_at, content_at, datagram_at, items_at, whole_of, read_of}

-- the head of a datagram of this kind from member 2
abbrev head : ℕ → List ℕ
head kind = 70 ∷ 70 ∷ 1 ∷ kind ∷ 0 ∷ 2 ∷ []

abbrev entry : ℕ → ℕ → ℕ → ℕ → List ℕ
entry member epoch mask rings = 0 ∷ member ∷ 0 ∷ 0 ∷ 0 ∷ 0 ∷ 0 ∷ 0 ∷ 0 ∷ epoch ∷ 0 ∷ 0 ∷ 0 ∷ mask ∷ 0 ∷ 0 ∷ 0 ∷ rings ∷ []

-- the note of member 2 with epoch 1 and the mask of three rings, and the length of a signature
abbrev note : List ℕ
note = 2 ∷ 0 ∷ 2 ∷ 0 ∷ 0 ∷ 0 ∷ 0 ∷ 0 ∷ 0 ∷ 0 ∷ 1 ∷ 0 ∷ 0 ∷ 0 ∷ 7 ∷ []

abbrev page : List SummaryEntry
page = record { member = 0; epoch = 1; mask = record { 0 = 7 }; rings = 2 } ∷ record { member = 2; epoch = 0; mask = record { 0 = 0 }; rings = 0 } ∷ []

spellings : (datagram_bytes (Ping 2 258) ≡ head 1 ++ 0 ∷ 0 ∷ 0 ∷ 0 ∷ 0 ∷ 0 ∷ 1 ∷ 2 ∷ [])
    × (datagram_bytes (Pong 1 258) ≡ 70 ∷ 70 ∷ 1 ∷ 2 ∷ 0 ∷ 1 ∷ 0 ∷ 0 ∷ 0 ∷ 0 ∷ 0 ∷ 0 ∷ 1 ∷ 2 ∷ [])
    × (datagram_bytes (Summary 2 true (record { page = 0; listed = page })) ≡ head 3 ++ 0 ∷ 1 ∷ 2 ∷ [] ++ entry 0 1 7 2 ++ entry 2 0 0 0)
    × (datagram_bytes (Records 2 (record { body = Note (record { member = 2; epoch = 1; mask = record { 0 = 7 } }); signature = 5 ∷ [] } ∷ [])) ≡ head 4 ++ 0 ∷ 1 ∷ [] ++ note ++ 0 ∷ 1 ∷ 5 ∷ [])
unfolding head_bytes entry_bytes summary_bytes records_bytes note_bytes
spellings = (refl, refl, refl, refl)

-- faults in what each datagram begins with, and in probes
heads : (read_of [] ≡ Err 0)
    × (read_of (70 ∷ []) ≡ Err 0)
    × (read_of (70 ∷ 71 ∷ []) ≡ Err 0)
    × (read_of (70 ∷ 70 ∷ []) ≡ Err 2)
    × (read_of (70 ∷ 70 ∷ 0 ∷ []) ≡ Err 2)
    × (read_of (70 ∷ 70 ∷ 1 ∷ 0 ∷ []) ≡ Err 3)
    × (read_of (70 ∷ 70 ∷ 1 ∷ 6 ∷ []) ≡ Err 3)
    × (read_of (70 ∷ 70 ∷ 1 ∷ 1 ∷ 4 ∷ 0 ∷ []) ≡ Err 4)
    × (read_of (head 1 ++ replicate 7 0) ≡ Err 6)
    × (read_of (head 1 ++ replicate 9 0) ≡ Err 14)
    × (read_of (head 2 ++ replicate 8 0) ≡ Ok (Pong 2 0))
unfolding read_of whole_of datagram_at head_at items_at content_at
heads = (refl, refl, refl, refl, refl, refl, refl, refl, refl, refl, refl)

-- faults in summaries
summaries : (read_of (head 3 ++ 32 ∷ []) ≡ Err 6)
    × (read_of (head 3 ++ 0 ∷ 2 ∷ []) ≡ Err 7)
    × (read_of (head 3 ++ 0 ∷ 0 ∷ 33 ∷ []) ≡ Err 8)
    × (read_of (head 3 ++ 0 ∷ 0 ∷ 1 ∷ [] ++ entry 32 1 7 0) ≡ Err 9)
    × (read_of (head 3 ++ 0 ∷ 0 ∷ 1 ∷ [] ++ entry 0 0 1 0) ≡ Err 19)
    × (read_of (head 3 ++ 0 ∷ 0 ∷ 1 ∷ [] ++ entry 0 0 0 1) ≡ Err 23)
    × (read_of (head 3 ++ 0 ∷ 0 ∷ 2 ∷ [] ++ entry 0 1 7 0 ++ entry 0 1 7 0) ≡ Err 27)
    × (read_of (head 3 ++ 0 ∷ 0 ∷ 1 ∷ [] ++ entry 0 1 7 0 ++ 0 ∷ []) ≡ Err 27)
    × (read_of (head 3 ++ 0 ∷ 1 ∷ 2 ∷ [] ++ entry 0 1 7 2 ++ entry 2 0 0 0) ≡ Ok (Summary 2 true (record { page = 0; listed = page })))
unfolding read_of whole_of datagram_at head_at items_at content_at summary_at entries_at entry_at
summaries = (refl, refl, refl, refl, refl, refl, refl, refl, refl)

-- an entry of a wide summary: mask and rings with the bit 2^32, or without it
abbrev wide_entry : ℕ → ℕ → ℕ → ℕ → ℕ → List ℕ
wide_entry member epoch high mask rings =
    0 ∷ member ∷ 0 ∷ 0 ∷ 0 ∷ 0 ∷ 0 ∷ 0 ∷ 0 ∷ epoch ∷ 0 ∷ 0 ∷ 0 ∷ high ∷ 0 ∷ 0 ∷ 0 ∷ mask ∷ 0 ∷ 0 ∷ 0 ∷ 0 ∷ 0 ∷ 0 ∷ 0 ∷ rings ∷ []

abbrev wide_page : List SummaryEntry
wide_page = record { member = 0; epoch = 1; mask = record { 0 = 4294967303 }; rings = 2 } ∷ record { member = 2; epoch = 0; mask = record { 0 = 0 }; rings = 0 } ∷ []

wide_spelling : datagram_bytes (Summary 2 true (record { page = 0; listed = wide_page })) ≡ head 5 ++ 0 ∷ 1 ∷ 2 ∷ [] ++ wide_entry 0 1 1 7 2 ++ wide_entry 2 0 0 0 0
unfolding head_bytes entry_bytes summary_bytes
wide_spelling = refl

-- faults in wide summaries: a bad entry has its own place, before that of the number of entries, which comes before bytes left over
wide_summaries : (read_of (head 5 ++ 0 ∷ 0 ∷ 0 ∷ []) ≡ Err 8)
    × (read_of (head 5 ++ 0 ∷ 0 ∷ 1 ∷ [] ++ wide_entry 0 1 0 7 2) ≡ Err 8)
    × (read_of (head 5 ++ 0 ∷ 0 ∷ 1 ∷ [] ++ wide_entry 0 1 0 7 2 ++ 0 ∷ []) ≡ Err 8)
    × (read_of (head 5 ++ 0 ∷ 0 ∷ 1 ∷ [] ++ wide_entry 0 0 1 0 0) ≡ Err 19)
    × (read_of (head 5 ++ 0 ∷ 0 ∷ 1 ∷ [] ++ wide_entry 0 0 0 0 1) ≡ Err 27)
    × (read_of (head 5 ++ 0 ∷ 0 ∷ 2 ∷ [] ++ wide_entry 0 1 1 7 0 ++ wide_entry 0 1 1 7 0) ≡ Err 35)
    × (read_of (head 5 ++ 0 ∷ 0 ∷ 1 ∷ [] ++ wide_entry 0 1 1 7 0 ++ 0 ∷ []) ≡ Err 35)
    × (read_of (head 5 ++ 0 ∷ 1 ∷ 2 ∷ [] ++ wide_entry 0 1 1 7 2 ++ wide_entry 2 0 0 0 0) ≡ Ok (Summary 2 true (record { page = 0; listed = wide_page })))
unfolding read_of whole_of datagram_at head_at items_at content_at summary_at entries_at entry_at
wide_summaries = (refl, refl, refl, refl, refl, refl, refl, refl)

-- faults in records, counted from the datagram's first byte
records : (read_of (head 4 ++ 0 ∷ 0 ∷ []) ≡ Err 6)
    × (read_of (head 4 ++ 0 ∷ 1 ∷ 0 ∷ []) ≡ Err 8)
    × (read_of (head 4 ++ 0 ∷ 1 ∷ 2 ∷ 4 ∷ 0 ∷ note) ≡ Err 9)
    × (read_of (head 4 ++ 0 ∷ 1 ∷ 2 ∷ 0 ∷ 2 ∷ 0 ∷ 0 ∷ 0 ∷ 0 ∷ 0 ∷ 0 ∷ 0 ∷ 0 ∷ note) ≡ Err 11)
    × (read_of (head 4 ++ 0 ∷ 1 ∷ note ++ 0 ∷ 0 ∷ note) ≡ Err 23)
    × (read_of (head 4 ++ 0 ∷ 1 ∷ note ++ 35 ∷ 45 ∷ note) ≡ Err 23)
    × (read_of (head 4 ++ 0 ∷ 1 ∷ note ++ 0 ∷ 5 ∷ 1 ∷ 2 ∷ 3 ∷ 4 ∷ []) ≡ Err 25)
    × (read_of (head 4 ++ 0 ∷ 1 ∷ 1 ∷ 0 ∷ 2 ∷ 0 ∷ 0 ∷ note) ≡ Err 11)
    × (read_of (head 4 ++ 0 ∷ 1 ∷ 1 ∷ 0 ∷ 2 ∷ 78 ∷ 34 ∷ 0 ∷ 0 ∷ 0 ∷ 4 ∷ note) ≡ Err 13)
    × (read_of (head 4 ++ 0 ∷ 1 ∷ 1 ∷ 0 ∷ 2 ∷ 78 ∷ 34 ∷ 0 ∷ 0 ∷ 0 ∷ 5 ∷ 0 ∷ 0 ∷ 0 ∷ 5 ∷ note) ≡ Err 17)
    × (read_of (head 4 ++ 0 ∷ 2 ∷ note ++ 0 ∷ 1 ∷ 9 ∷ []) ≡ Err 26)
unfolding read_of whole_of datagram_at head_at items_at content_at records_at counted_at record_at body_at certificate_at note_at accusation_at key_at signature_at
records = (refl, refl, refl, refl, refl, refl, refl, refl, refl, refl, refl)
