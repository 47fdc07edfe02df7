-- How calls of a disk join into those of a store.
use Rattle.std.proofs.Common.{◌≡◌, ℕ, zero, suc, Option, List, [], ◌∷◌, ◌++◌, drop, refl, sym, ap, ◌∙◌, Result, Ok, Err}
use Rattle.ports.specs.DiskCalls.{DiskCall, ToOpen, with_call, with_calls, AsFarAs}
use Rattle.ports.specs.Disk.{Moment}
use Rattle.epoch_store.specs.declared.Stored.{Stored}
use Rattle.epoch_store.specs.declared.StoreError.{StoreError}
use Rattle.epoch_store.specs.declared.StoreError.TheVariants.{Fault, Taken, Broken, OtherKey, OutOfMemory}
use Rattle.epoch_store.specs.Calls.{IsOpened}
use Rattle.epoch_store.specs.Asked.{Makes, MakesStore}

pub with_calls-append : (later earlier : List DiskCall) (past : Option (List DiskCall)) → with_calls (later ++ earlier) past ≡ with_calls later (with_calls earlier past)
with_calls-append [] earlier past = refl
with_calls-append (call ∷ later) earlier past = ap (with_call call) (with_calls-append later earlier past)

-- all calls were made, whatever the last one answered
pub all_made : {T E : Type 0} → (result : Result T E) (all : List DiskCall) (older newer : Option (List DiskCall)) → newer ≡ with_calls all older → Makes result all older newer
all_made (Ok value) all older newer is = is
all_made (Err error) all older newer is = record { left_out = 0; made = is }

-- calls that went as far as they did, of a list that goes further
pub further : (later all : List DiskCall) (older newer : Option (List DiskCall)) → AsFarAs all older newer → AsFarAs (later ++ all) older newer
further [] all older newer made = made
further (call ∷ later) all older newer made =
    let rest = further later all older newer made in
    record { left_out = suc rest.left_out; made = rest.made }

-- more calls, after earlier ones that were all made
pub joined : (later earlier : List DiskCall) (older middle newer : Option (List DiskCall)) → middle ≡ with_calls earlier older → AsFarAs later middle newer → AsFarAs (later ++ earlier) older newer
joined later earlier older middle newer first second = by_count later second.left_out (second.made)
  where
    by_count : (calls : List DiskCall) (count : ℕ) → newer ≡ with_calls (drop count calls) middle → AsFarAs (calls ++ earlier) older newer
    by_count [] zero made = record { left_out = 0; made = made ∙ first }
    by_count [] (suc count) made = record { left_out = 0; made = made ∙ first }
    by_count (call ∷ calls) zero made = record { left_out = 0; made = made ∙ ap (with_calls (call ∷ calls)) first ∙ sym (with_calls-append (call ∷ calls) earlier older) }
    by_count (call ∷ calls) (suc count) made =
        let rest = by_count calls count made in
        record { left_out = suc rest.left_out; made = rest.made }

-- a store whose file was not opened
pub not_opened : (name tag : List ℕ) (first : Stored) (error : StoreError) (a b : List Moment) (older newer : Option (List DiskCall)) → IsOpened a b (Err error) → newer ≡ with_call (ToOpen name) older → MakesStore name tag first (Err error) older newer
not_opened name tag first Fault a b older newer opened is = record { left_out = 3; made = is }
not_opened name tag first (Taken len) a b older newer opened is = absurd opened
not_opened name tag first (Broken place byte) a b older newer opened is = absurd opened
not_opened name tag first (OtherKey place byte) a b older newer opened is = absurd opened
not_opened name tag first OutOfMemory a b older newer opened is = is
