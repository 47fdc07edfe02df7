-- Pages of members, with whom they are exchanged, and what is sent of what the other side lacks.
use Rattle.std.specs.Prelude.{ℕ, Bool, ◌-◌, ◌*◌, nat_le, if◌then◌else◌, List, [], ◌∷◌, ◌++◌, length, Option, None, is_some, map, filter, filter_map, unwrap_or}
use Rattle.std.specs.List.{range_with_len, last_or}
use Rattle.std.specs.Option.{option_and_then}
use Rattle.ff_ids.specs.declared.TheConstants.{MAX_RINGS, PAGE_MEMBERS}
use Rattle.ff_ids.specs.declared.NoteBody.{NoteBody}
use Rattle.ff_ids.specs.declared.summary.SummaryEntry.{SummaryEntry}
use Rattle.ff_ids.specs.declared.summary.Summary.{Summary}
use Rattle.ff_ids.specs.declared.summary.RecordKey.{RecordKey}
use Rattle.ff_ids.specs.declared.summary.RecordKey.TheVariants as keys
use Rattle.ff_ids.specs.Masks.{bits_where, ring_count}
use Rattle.records.specs.declared.Record.{Record}
use Rattle.records.specs.Spelling.{record_bytes}
use Rattle.gossip.specs.Differ.{differ}
use Rattle.gossip.specs.Partners as gossip
use Rattle.record_set.specs.Pages.{note_of_body, entry_with}
use Rattle.node_rules.specs.Nodes.{Setting, Node, Holding, state_of, certified}

-- ---- pages

abbrev pub note_held : Holding → ℕ → Option NoteBody
note_held held m = option_and_then (λ r. note_of_body r.body) (held (keys.Note m))

-- The rings on which an accusation against the member is held.
abbrev pub rings_held : Holding → ℕ → ℕ
rings_held held m = bits_where (λ ring. is_some (held (keys.Accusation m (record { 0 = ring })))) MAX_RINGS

-- What the node holds of the member.
abbrev pub entry_held : Holding → ℕ → SummaryEntry
entry_held held m = entry_with m (note_held held m) (rings_held held m)

-- The certificate of the member is held.
abbrev pub has_certificate : Holding → ℕ → Bool
has_certificate held m = is_some (held (keys.Certificate m))

-- An entry for each of the page's numbers that has a certificate.
unfoldable pub page : Node → ℕ → Summary
page n number = record { page = number; listed = map (entry_held n.held) (filter (has_certificate n.held) (range_with_len (PAGE_MEMBERS * number) PAGE_MEMBERS)) }

-- ---- gossip's round

unfoldable pub partner : Setting → Node → ℕ → Option ℕ
partner s n round = gossip.partner_with s.heal s.group.t (state_of s n) (certified n) s.me round

-- The greatest certified number.
abbrev pub highest : Node → ℕ
highest n = unwrap_or (last_or None (certified n)) 0

unfoldable pub page_number : Setting → Node → ℕ → ℕ
page_number s n round = gossip.page_with s.heal (state_of s n) (certified n) s.me round (ring_count s.group.t) (highest n)

-- ---- what is sent

-- The room of a datagram's records, in bytes.
abbrev pub room : ℕ
room = 32760

-- The longest front of the records that fits in so many bytes.
abbrev pub fitting : ℕ → List Record → List Record
fitting space [] = []
fitting space (r ∷ records) =
    if nat_le (length (record_bytes r)) space then r ∷ fitting (space - length (record_bytes r)) records else []

-- The keys of what that member lacks by its summary: what is held here and not there, and that by which it was removed.
abbrev pub wanted : Node → ℕ → Summary → List RecordKey
wanted n from theirs = differ (page n theirs.page).listed theirs.listed ++ keys.Removal from ∷ []

-- Those records, as many as fit behind the head of a datagram.
unfoldable pub lacking : Node → ℕ → Summary → List Record
lacking n from theirs = fitting room (filter_map n.held (wanted n from theirs))
