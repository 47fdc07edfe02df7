-- How calls of a disk whose state is modelled join, call after call.
use Rattle.std.proofs.Common.{◌≡◌, Bool, true, false, Option, None, Some, List, [], ◌∷◌, ◌++◌, refl, sym, ap, ◌∙◌}
use Rattle.ports.specs.DiskCalls.{DiskCall}
use Rattle.ports.specs.MemoryDisk.{DiskState}
use Rattle.ports.specs.DiskSteps.{makes, runs, runs_on, came_to}

runs_later : (later earlier : List DiskCall) (a b : DiskState) → runs earlier a ≡ record { disk = b; failed = false } → runs (later ++ earlier) a ≡ runs later b
runs_later [] earlier a b is = is
runs_later (call ∷ later) earlier a b is = ap (makes call) (runs_later later earlier a b is)

pub runs_no_further : (later earlier : List DiskCall) (a b : DiskState) → runs earlier a ≡ record { disk = b; failed = true } → runs (later ++ earlier) a ≡ record { disk = b; failed = true }
runs_no_further [] earlier a b is = is
runs_no_further (call ∷ later) earlier a b is = ap (makes call) (runs_no_further later earlier a b is)

-- more calls, after earlier ones none of which failed
pub then_runs : (later earlier : List DiskCall) (a b c : Option DiskState) (failed : Bool) → came_to b false ≡ runs_on earlier a → came_to c failed ≡ runs_on later b → came_to c failed ≡ runs_on (later ++ earlier) a
then_runs later earlier None None c failed first second = second
then_runs later earlier None (Some b) c failed first second = cc
then_runs later earlier (Some a) None c failed first second = cc
then_runs later earlier (Some a) (Some b) c failed first second =
    let is : runs earlier a ≡ record { disk = b; failed = false } = cc in
    second ∙ sym (ap Some (runs_later later earlier a b is))

-- a call failed, and no more were made
pub runs_on_no_further : (later earlier : List DiskCall) (a b : Option DiskState) → came_to b true ≡ runs_on earlier a → came_to b true ≡ runs_on (later ++ earlier) a
runs_on_no_further later earlier None b first = first
runs_on_no_further later earlier (Some a) None first = cc
runs_on_no_further later earlier (Some a) (Some b) first =
    let is : runs earlier a ≡ record { disk = b; failed = true } = cc in
    sym (ap Some (runs_no_further later earlier a b is))

-- no call was made
pub runs_none : (a : Option DiskState) → came_to a false ≡ runs_on [] a
runs_none None = refl
runs_none (Some a) = refl
