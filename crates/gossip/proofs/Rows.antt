-- Worked rows of what one side lacks, of partners and of pages, computed from the definitions alone.
use Rattle.std.proofs.Common.{◌≡◌, ℕ, List, [], ◌∷◌, ◌++◌, Some, None, replicate, refl}
use Rattle.ff_ids.specs.declared.Group.{Group}
use Rattle.ff_ids.specs.declared.summary.SummaryEntry.{SummaryEntry}
use Rattle.ff_ids.specs.declared.summary.RecordKey.{RecordKey}
use Rattle.ff_ids.specs.declared.summary.RecordKey.TheVariants.{Certificate, Note, Accusation}
use Rattle.ff_ids.specs.Heals.{Heal}
use Rattle.ff_ids.specs.Views.{State, all_numbers, in_view_by}
use Rattle.ff_ids.specs.Steps.{Event, Joins, Notes}
use Rattle.ff_ids.specs.Lives.{after, opening}
use Rattle.gossip.specs.Differ.{differ}
use Rattle.gossip.specs.Partners.{partner, partner_with, page_of, page_with}

abbrev entry : ℕ → ℕ → ℕ → ℕ → SummaryEntry
entry member epoch mask rings = record { member = member; epoch = epoch; mask = record { 0 = mask }; rings = rings }

abbrev against : ℕ → ℕ → RecordKey
against member ring = Accusation member (record { 0 = ring })

abbrev three : List SummaryEntry
three = entry 0 1 7 0 ∷ entry 1 1 6 2 ∷ entry 2 0 0 0 ∷ []

abbrev answered : List SummaryEntry
answered = entry 0 2 7 2 ∷ []

-- a member without an entry, one whose entry lacks a ring, and one whose entry is the same
new_member : differ three (entry 0 1 7 0 ∷ entry 1 1 6 0 ∷ []) ≡ Certificate 2 ∷ against 1 1 ∷ []
new_member = refl

-- an entry that is less: its rings no longer count
older : differ answered (entry 0 1 7 7 ∷ []) ≡ Note 0 ∷ against 0 1 ∷ []
older = refl

-- an entry that is greater
newer : differ answered (entry 0 3 7 0 ∷ []) ≡ []
newer = refl

-- all that is held of members without an entry, each part in order
everything : differ three [] ≡ Certificate 0 ∷ Certificate 1 ∷ Certificate 2 ∷ Note 0 ∷ Note 1 ∷ against 1 1 ∷ []
everything = refl

-- of one epoch the greater mask is greater
by_mask : (differ (entry 0 1 7 5 ∷ []) (entry 0 1 6 0 ∷ []) ≡ Note 0 ∷ against 0 0 ∷ against 0 2 ∷ [])
    × (differ (entry 0 1 6 5 ∷ []) (entry 0 1 7 0 ∷ []) ≡ [])
by_mask = (refl, refl)

-- ---- partners and pages

-- A group of three rings.
abbrev group : Group
group = record { tag = replicate 16 0; t = 1; timeout = 3; period = 1; misses = 1 }

-- The member at its places on the three rings.
abbrev joins : ℕ → ℕ → ℕ → ℕ → Event
joins number a b c = Joins number ((a ∷ []) ∷ (b ∷ []) ∷ (c ∷ []) ∷ [])

abbrev noted : ℕ → Event
noted member = Notes (record { member = member; epoch = 1; mask = record { 0 = 7 } })

-- In order they are 1, 2, 3 on ring 0, then 3, 2, 1 on ring 1, and 2, 1, 3 on ring 2.
abbrev joined : List Event
joined = joins 1 10 30 20 ∷ joins 2 20 20 10 ∷ joins 3 30 10 30 ∷ []

abbrev viewed : State
viewed = after group (opening []) (joined ++ noted 1 ∷ noted 2 ∷ noted 3 ∷ [])

-- Only 2 is in its view.
abbrev lone : State
lone = after group (opening []) (joined ++ noted 2 ∷ [])

abbrev certified : List ℕ
certified = 1 ∷ 2 ∷ 3 ∷ []

ring_in_turn : (partner 1 viewed certified 2 0 ≡ Some 3)
    × (partner 1 viewed certified 2 1 ≡ Some 1)
    × (partner 1 viewed certified 2 2 ≡ Some 1)
    × (partner 1 viewed certified 2 3 ≡ Some 3)
unfolding all_numbers in_view_by
ring_in_turn = (refl, refl, refl, refl)

member_in_turn : (partner 1 lone certified 2 0 ≡ Some 1)
    × (partner 1 lone certified 2 1 ≡ Some 3)
    × (partner 1 lone certified 2 2 ≡ Some 1)
    × (partner 1 lone (2 ∷ []) 2 5 ≡ None)
unfolding all_numbers in_view_by
member_in_turn = (refl, refl, refl, refl)

pages : (page_of 0 3 63 ≡ 0) × (page_of 2 3 63 ≡ 0) × (page_of 3 3 63 ≡ 1) × (page_of 6 3 63 ≡ 0) × (page_of 2016 63 1023 ≡ 0)
pages = (refl, refl, refl, refl, refl)

-- ---- rounds that go out of the view

-- One round of three.
abbrev heal : Heal
heal = record { every = 3; most = 1 }

-- 40 and 50 are in no view.
abbrev more : List ℕ
more = 1 ∷ 2 ∷ 3 ∷ 40 ∷ 50 ∷ []

out_of_three : (partner_with (Some heal) 1 viewed more 2 0 ≡ Some 3)
    × (partner_with (Some heal) 1 viewed more 2 1 ≡ Some 1)
    × (partner_with (Some heal) 1 viewed more 2 2 ≡ Some 40)
    × (partner_with (Some heal) 1 viewed more 2 3 ≡ Some 1)
    × (partner_with (Some heal) 1 viewed more 2 5 ≡ Some 50)
    × (partner_with (Some heal) 1 viewed certified 2 2 ≡ Some 1)
    × (partner_with None 1 viewed more 2 2 ≡ Some 1)
unfolding all_numbers in_view_by
out_of_three = (refl, refl, refl, refl, refl, refl, refl)

-- Where the view has at most two members, it is one round of two.
out_of_two : (partner_with (Some heal) 1 lone certified 2 0 ≡ Some 1)
    × (partner_with (Some heal) 1 lone certified 2 1 ≡ Some 1)
    × (partner_with (Some heal) 1 lone certified 2 2 ≡ Some 3)
    × (partner_with (Some heal) 1 lone certified 2 3 ≡ Some 3)
unfolding all_numbers in_view_by
out_of_two = (refl, refl, refl, refl)

pages_out : (page_with (Some heal) viewed more 2 2 3 50 ≡ 1)
    × (page_with (Some heal) viewed more 2 3 3 50 ≡ 0)
    × (page_with (Some heal) viewed more 2 4 3 50 ≡ 1)
    × (page_with None viewed more 2 2 3 50 ≡ 0)
unfolding all_numbers in_view_by
pages_out = (refl, refl, refl, refl)
