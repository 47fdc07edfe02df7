-- A node that leaves, over whatever disk.
use Rattle.std.proofs.Common.{◌≡◌, ℕ, Bool, true, false, Option, Some, List, refl, Result, Ok, Err}
use Rattle.std.specs.Prelude.{OnOk, None, is_err}
use Rattle.ports.specs.MemoryDisk.{DiskState}
use Rattle.journal.specs.declared.event.Event as journal
use Rattle.node_rules.specs.Nodes.{Setting, Node}
use Rattle.node_rules.specs.Calls.{Call, begun, wants}
use Rattle.node_rules.specs.Leaving.{leaves, left}
use Rattle.node_rules.specs.OnDisks.{Leaves, left_on}
use Rattle.node_rules.proofs.Called.{cut-leaving, left_until}
use Rattle.node_rules.proofs.GoingOn.{on-leaves}
use Rattle.node_core.specs.declared.NodeFault.{NodeFault}
use Rattle.node_core.specs.Playing.{Kept, Grows, Plays, Stops}
use Rattle.node_core.specs.Neighbours.{addressees}
use Rattle.node_core.specs.Signatures.{Runs, next_own}
use Rattle.node_core.specs.OnDisks.{ComesTo, FailsIn, Stores, on_disk, storage}
use Rattle.node_core.proofs.DeliverLemmas.{RunsCall}
use Rattle.node_core.proofs.DiskLemmas.{comes-further, comes-to_end, starts-there}

-- The note of the next epoch with no ring is wanted, by whether the disk works.
abbrev pub wants_leave : Setting → Node → Bool → Call
wants_leave s n works = wants works s (next_own s n (record { 0 = 0 })) (addressees s None) (begun n)

whole-left : (s : Setting) (n : Node) → left s n ≡ wants_leave s n true
unfolding left leaves
whole-left s n = refl

-- what runs is the call to leave
pub leaving-ran : (s : Setting) (es : List journal.Event) (os : List (ℕ × List ℕ)) (n : Node) (v : Kept) (done : Result (Unit {0}) NodeFault)
    → Runs (Plays s es os v) (Stops s es os v) (wants_leave s n) done → RunsCall (v.telling.failed ≡ false) (Plays s es os v) (Stops s es os v) s n Leaves done
unfolding left leaves left_until
leaving-ran s es os n v (Ok x) ran = ran
leaving-ran s es os n v (Err e) ran =
    let c : Call = left_until s n in (c, (λ fine. cut-leaving s n c (record { is = refl; over = ran.ended fine }), ran))

-- and so is what runs over a disk
pub leaving-comes : (s : Setting) (es : List journal.Event) (os : List (ℕ × List ℕ)) (v w : Kept) (x y : Option DiskState) (n : Node) (d : DiskState) (done : Result (Unit {0}) NodeFault) → Plays s es os v (begun n) → Grows v w
    → Runs (Plays s es os w) (Stops s es os w) (wants_leave s n) done → OnOk done (Stores v.signer w.signer x y) → FailsIn (wants_leave s n true) v w x y done → x ≡ Some d → w.telling.failed ≡ false
    → ComesTo s es os w y (is_err done) (left_on storage s n (record { disk = d; seat = v.signer.seat }))
unfolding left_on leaves
leaving-comes s es os v w x y n d (Ok z) p grows ran stores fails is fine =
    comes-further s es os v w x y (on_disk (begun n) d v.signer.seat) (wants_leave s n) (starts-there s es os v x (begun n) d (p.at (grows.going fine)) refl is) stores (ran.at fine) (going n)
  where
    going : (n : Node) → (wants_leave s n true).ended ≡ false
    going n = on-leaves s (begun n)
leaving-comes s es os v w x y n d (Err e) p grows ran stores fails is fine =
    comes-to_end s es os v w x y (on_disk (begun n) d v.signer.seat) (wants_leave s n) (starts-there s es os v x (begun n) d (p.at (grows.going fine)) refl is) (fails fine) (ran.at fine) (ran.ended fine)
