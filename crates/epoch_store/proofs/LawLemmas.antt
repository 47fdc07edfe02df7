-- How long a store's file is.
use Rattle.std.proofs.Common.{ℕ, ◌+◌, ◌*◌, ◌≤◌, Bool, true, false, Option, None, Some, List, [], ◌∷◌, length, ap, arith}
use Rattle.epoch_store.specs.declared.Stored.{Stored}
use Rattle.epoch_store.specs.declared.entry.Entry.{Entry}
use Rattle.epoch_store.specs.declared.seat.Seat.{Seat}
use Rattle.epoch_store.specs.Seat.{behind_by, first_seat, seat_from, width_by}
use Rattle.epoch_store.specs.Store.{IsChain, StoreAt, entry_with}
use Rattle.epoch_store.specs.Laws.{HasFewEntries, HasRoom, IsBounded, IsOneStore, ReadsAsItIs, entries_of, moves_among, one_if_moved}
use Rattle.epoch_store.proofs.FoundLemmas.{found_store, one_store, store_found}

pub reads_as_it_is : ReadsAsItIs
reads_as_it_is tag image state seat long = (store_found tag image state seat long, found_store tag image state seat long)

pub is_one_store : IsOneStore
is_one_store = one_store

-- the gate behind an entry is at most 21 bytes further, and 40 more where it moves the store
gate_after : (seat : Seat) (moved : Option (List ℕ)) → (behind_by moved seat).gate ≤ seat.gate + 21 + 40 * one_if_moved moved
gate_after seat None = narrow_or_wide seat.wide
  where
    narrow_or_wide : (wide : Bool) → seat.gate + width_by wide ≤ seat.gate + 21 + 0
    narrow_or_wide false = omega arith
    narrow_or_wide true = omega arith
gate_after seat (Some tag) = narrow_or_wide seat.wide
  where
    narrow_or_wide : (wide : Bool) → seat.gate + width_by wide + 40 ≤ seat.gate + 21 + 40
    narrow_or_wide false = omega arith
    narrow_or_wide true = omega arith

gate_far : (first : Seat) (entries : List Entry) → (seat_from first entries).gate ≤ first.gate + 21 * length entries + 40 * moves_among entries
gate_far first [] = omega arith
gate_far first (e ∷ older) = omega (arith, gate_far first older, gate_after (seat_from first older) e.moved)

entries_few : (first : Seat) (e : Entry) (older : List Entry) → IsChain first (e ∷ older) → length (e ∷ older) ≤ e.kept.next + 1
entries_few first e [] chain = omega arith
entries_few first e (b ∷ older) chain = omega (arith, chain.1.next_rises, entries_few first b older chain.2)

one_at_most : (moved : Option (List ℕ)) → one_if_moved moved ≤ 1
one_at_most None = omega arith
one_at_most (Some tag) = omega arith

-- the first entry moves nothing
moves_few : (first : Seat) (e : Entry) (older : List Entry) → IsChain first (e ∷ older) → moves_among (e ∷ older) ≤ length older
moves_few first e [] chain = let none = ap one_if_moved chain.1 in omega (arith, none)
moves_few first e (b ∷ older) chain = omega (arith, one_at_most e.moved, moves_few first b older chain.2)

store_far : (tag image : List ℕ) (state : Stored) (seat : Seat) (store : StoreAt tag image state seat) → seat.gate ≤ 40 + 21 * length (entries_of store) + 40 * moves_among (entries_of store)
store_far tag image state seat store =
    let far = gate_far (first_seat store.wide store.header) (entries_of store) in
    let there = ap (λ (s : Seat). s.gate) store.place in
    omega (arith, far, there)

pub has_few_entries : HasFewEntries
has_few_entries tag image state seat store = entries_few (first_seat store.wide store.header) (entry_with store.moved state) store.older store.chain

pub has_room : HasRoom
has_room tag image state seat store one = omega (arith, one, store_far tag image state seat store)

pub is_bounded : IsBounded
is_bounded tag image state seat store =
    let few = has_few_entries tag image state seat store in
    let small = store.chain.0.keeps.next_small in
    let far = store_far tag image state seat store in
    let moves = moves_few (first_seat store.wide store.header) (entry_with store.moved state) store.older store.chain in
    (λ none. omega (arith, none, few, small, far), omega (arith, few, small, far, moves))
