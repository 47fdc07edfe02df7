-- The laws of being in the view by a note. A change of the condition changes what stands here.
use Rattle.std.proofs.Common.{◌≡◌, Bool, true, false, ◌&&◌, ◌||◌, not, refl, ap}
use Rattle.ff_ids.specs.declared.NoteBody.{NoteBody}
use Rattle.ff_ids.specs.Notes.{is_leaving}
use Rattle.ff_ids.specs.Views.{in_view_by}

-- by whether it leaves
abbrev viewed : Bool → Bool → Bool
viewed leaves expired = not leaves && not expired

-- where nothing expired each note by which its member doesn't leave has it in the view
pub in_view_by-fresh : (n : NoteBody) → is_leaving n ≡ false → in_view_by n false ≡ true
unfolding in_view_by
in_view_by-fresh n stays = ap (λ b. viewed b false) stays

-- a leaving note takes its member out
pub in_view_by-left : (n : NoteBody) (expired : Bool) → is_leaving n ≡ true → in_view_by n expired ≡ false
unfolding in_view_by
in_view_by-left n expired leaves = ap (λ b. viewed b expired) leaves

gone : (leaves : Bool) → viewed leaves true ≡ false
gone true = refl
gone false = refl

-- an expired accusation takes the member out
pub in_view_by-expired : (n : NoteBody) → in_view_by n true ≡ false
unfolding in_view_by
in_view_by-expired n = gone (is_leaving n)

fresh : (leaves expired : Bool) → viewed leaves expired ≡ true → expired ≡ false
fresh true expired h = cc
fresh false true h = cc
fresh false false h = refl

pub not_expired : (n : NoteBody) (expired : Bool) → in_view_by n expired ≡ true → expired ≡ false
unfolding in_view_by
not_expired n expired h = fresh (is_leaving n) expired h

stays : (leaves expired : Bool) → viewed leaves expired ≡ true → leaves ≡ false
stays true expired h = cc
stays false expired h = refl

-- who is in the view has not left by its note
pub not_leaving : (n : NoteBody) (expired : Bool) → in_view_by n expired ≡ true → is_leaving n ≡ false
unfolding in_view_by
not_leaving n expired h = stays (is_leaving n) expired h

since : (leaves before later : Bool) → viewed leaves before ≡ true → viewed leaves later ≡ false → later ≡ true
since true before later was is = cc
since false before true was is = refl
since false before false was is = cc

-- and who was in the view by it and no longer is has one that expired
pub expired-since : (n : NoteBody) (before later : Bool) → in_view_by n before ≡ true → in_view_by n later ≡ false → later ≡ true
unfolding in_view_by
expired-since n before later was is = since (is_leaving n) before later was is

either : (leaves a b : Bool) → viewed leaves (a || b) ≡ (viewed leaves b && not a)
either true a b = refl
either false true true = refl
either false true false = refl
either false false true = refl
either false false false = refl

-- of two sets of accusations either takes it out
pub in_view_by-either : (n : NoteBody) (a b : Bool) → in_view_by n (a || b) ≡ (in_view_by n b && not a)
unfolding in_view_by
in_view_by-either n a b = either (is_leaving n) a b
