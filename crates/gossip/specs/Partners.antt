-- With whom a node exchanges summaries in a round, and of which page.
use Rattle.std.specs.Prelude.{◌≡◌, ℕ, ◌+◌, ◌-◌, ◌/◌, ◌%◌, nat_le, Bool, true, false, not, ◌&&◌, ◌==◌, if◌then◌else◌, List, Option, Some, None, filter, length}
use Rattle.std.specs.List.{slice_get, list_any, list_all}
use Rattle.std.specs.List.Sorted.{IsStrictlyIncreasing}
use Rattle.std.specs.Option.{option_or, option_map_or}
use Rattle.ff_ids.specs.declared.TheConstants.{PAGE_MEMBERS}
use Rattle.ff_ids.specs.Masks.{ring_count}
use Rattle.ff_ids.specs.Heals.{Heal}
use Rattle.ff_ids.specs.Views.{State, in_view, is_member, successor, view}
use Rattle.membership.specs.Life.{Life, has_joined}

-- The number is one of these.
abbrev pub is_listed : List ℕ → ℕ → Bool
is_listed numbers m = list_any (λ x. x == m) numbers

-- The numbers other than this one, in their order.
abbrev pub others : List ℕ → ℕ → List ℕ
others certified me = filter (λ m. not (m == me)) certified

-- The one whose turn it is in this round.
abbrev pub in_turn : List ℕ → ℕ → Option ℕ
in_turn numbers round = slice_get numbers (round % length numbers)

-- The partner in a round of a node in a group of tolerance t, where these members are certified: its successor on
-- the ring whose turn it is, or where nobody else is in the view, the other certified member whose turn it is.
abbrev pub partner : ℕ → State → List ℕ → ℕ → ℕ → Option ℕ
partner t s certified me round = option_or (successor s (round % ring_count t) me) (in_turn (others certified me) round)

-- ---- where nodes are to come together again

-- Those of the other members that are not in the view.
abbrev pub outsiders : State → List ℕ → ℕ → List ℕ
outsiders s certified me = filter (λ m. not (in_view s m)) (others certified me)

-- The member is another, and where a round goes outward, out of the view.
abbrev pub is_meant : Bool → State → ℕ → ℕ → Bool
is_meant outward s me m = not (m == me) && not (outward && in_view s m)

-- The others, or where a round goes outward, those out of the view.
abbrev pub meant : Bool → State → List ℕ → ℕ → List ℕ
meant true s certified me = outsiders s certified me
meant false s certified me = others certified me

-- Of so many rounds one goes to a member out of the view: of two, where the view has at most two members.
abbrev pub share : Heal → State → ℕ
share heal s = if nat_le (length (view s)) 2 then 2 else heal.every

-- It is such a round, the last of each share.
abbrev pub is_outward : ℕ → ℕ → Bool
is_outward share round = round % share == share - 1

-- The number of a round among those that aren't.
abbrev pub inward : ℕ → ℕ → ℕ
inward share round = round - round / share

-- The one out of the view to whom the round goes, each in turn by number; none where it is no such round, or nobody is
-- out of the view.
abbrev pub outsider : Heal → State → List ℕ → ℕ → ℕ → Option ℕ
outsider heal s certified me round =
    if is_outward (share heal s) round then in_turn (outsiders s certified me) (round / share heal s) else None

-- The round that the rules have without the option.
abbrev pub plain_round : Option Heal → State → ℕ → ℕ
plain_round None s round = round
plain_round (Some heal) s round = inward (share heal s) round

abbrev pub outsider_with : Option Heal → State → List ℕ → ℕ → ℕ → Option ℕ
outsider_with None s certified me round = None
outsider_with (Some heal) s certified me round = outsider heal s certified me round

-- The partner in a round, with the option or without it.
abbrev pub partner_with : Option Heal → ℕ → State → List ℕ → ℕ → ℕ → Option ℕ
partner_with heal t s certified me round =
    option_or (outsider_with heal s certified me round) (partner t s certified me (plain_round heal s round))

-- ---- pages

-- The page of a round, with k rings and up to this number: each page in turn, for as many rounds as there are rings.
abbrev pub page_of : ℕ → ℕ → ℕ → ℕ
page_of round k highest = round / k % (highest / PAGE_MEMBERS + 1)

-- The same with the option or without it: to a member out of the view goes the page that it is on.
abbrev pub page_with : Option Heal → State → List ℕ → ℕ → ℕ → ℕ → ℕ → ℕ
page_with heal s certified me round k highest =
    option_map_or (λ m. m / PAGE_MEMBERS) (outsider_with heal s certified me round) (page_of (plain_round heal s round) k highest)

-- ---- what a caller sees to

-- The numbers are those of the members, in order.
pub record AreMembers (l : Life) (certified : List ℕ) : Type 0 where
  pub rising : IsStrictlyIncreasing certified
  pub each : (m : ℕ) → has_joined l m ≡ is_listed certified m

-- Each note is of a member, as in every life: one of anybody else is refused.
abbrev pub NotesOfMembers : State → Type 0
NotesOfMembers s = list_all (λ n. is_member s n.member) s.notes ≡ true
