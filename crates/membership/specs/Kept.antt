-- What is kept of each member: its places, its newest note, and the greatest epoch of an accusation against it
-- that expired.
use Rattle.std.specs.Prelude.{ℕ, Bool, true, false, ◌&&◌, nat_le, max, if◌then◌else◌, List, [], ◌∷◌, Option, Some, unwrap_or, map, filter}
use Rattle.std.specs.Option.{option_map_or}
use Rattle.std.specs.Ordering.{nat_cmp}
use Rattle.std.specs.FinMap.{FinMap, get, insert}
use Rattle.ff_ids.specs.declared.NoteBody.{NoteBody}
use Rattle.ff_ids.specs.declared.AccBody.{AccBody}
use Rattle.ff_ids.specs.Views.{Member, all_numbers, in_view_by}
use Rattle.membership.specs.declared.kept.NoteEffect.{NoteEffect}
use Rattle.membership.specs.declared.kept.NoteEffect.TheVariants.{Enters, Leaves, Stays}

-- By the number of the member.
abbrev pub ByNumber : Type 0 → Type 0
ByNumber X = FinMap nat_cmp X

abbrev pub places_at : ByNumber (List (List ℕ)) → ℕ → List (List ℕ)
places_at places m = unwrap_or (get places m) []

-- 0 where none expired.
abbrev pub expired_at : ByNumber ℕ → ℕ → ℕ
expired_at expired m = unwrap_or (get expired m) 0

-- The newest note, if there is one, has its member in the view, given the greatest epoch that expired.
abbrev pub is_live : ℕ → Option NoteBody → Bool
is_live expired note = option_map_or (λ n. in_view_by n (nat_le n.epoch expired)) note false

abbrev pub is_live_at : ByNumber NoteBody → ByNumber ℕ → ℕ → Bool
is_live_at notes expired m = is_live (expired_at expired m) (get notes m)

abbrev pub member_at : ByNumber (List (List ℕ)) → ℕ → Member
member_at places m = record { number = m; places = places_at places m }

-- The live members, in order of number.
abbrev pub live_members : ByNumber (List (List ℕ)) → ByNumber NoteBody → ByNumber ℕ → List Member
live_members places notes expired = map (member_at places) (filter (is_live_at notes expired) all_numbers)

-- What a note did, by whether its member was in the view before it, and whether it is after.
abbrev pub effect_between : Bool → Bool → NoteEffect
effect_between false true = Enters
effect_between true false = Leaves
effect_between false false = Stays
effect_between true true = Stays

-- What a note does that takes the place of the newest, if there is one.
abbrev pub effect_by : ℕ → Option NoteBody → NoteBody → NoteEffect
effect_by expired kept n = effect_between (is_live expired kept) (is_live expired (Some n))

-- The accusation takes its member out of the view: its note is live, and of no greater epoch.
abbrev pub takes_out : ℕ → Option NoteBody → AccBody → Bool
takes_out expired kept a = option_map_or (λ n. in_view_by n (nat_le n.epoch expired) && nat_le n.epoch a.epoch) kept false

-- The epochs with that of an accusation that expires.
abbrev pub raise : ByNumber ℕ → AccBody → ByNumber ℕ
raise expired a = insert expired a.accused (max (expired_at expired a.accused) a.epoch)

abbrev pub raised : ByNumber ℕ → List AccBody → ByNumber ℕ
raised expired [] = expired
raised expired (a ∷ due) = raised (raise expired a) due

-- The members that the accusations take out of the view, one after another.
abbrev pub leavers : ByNumber NoteBody → ByNumber ℕ → List AccBody → List ℕ
leavers notes expired [] = []
leavers notes expired (a ∷ due) =
    if takes_out (expired_at expired a.accused) (get notes a.accused) a then a.accused ∷ leavers notes (raise expired a) due
    else leavers notes (raise expired a) due
