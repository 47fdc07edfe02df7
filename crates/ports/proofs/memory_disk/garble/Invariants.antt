use Rattle.std.proofs.Common.{◌≡◌, ◌++◌, take, drop}
use Rattle.ports.specs.MemoryDisk.{garbled}
use Rattle.ports.proofs.memory_disk.garble.Given as goal

abbrev pub invariant-loop-place : goal.invariant-loop-place
invariant-loop-place l =
    take l.place l.image ++ garbled l.outcome l.torn l.kept l.place (drop l.place l.image)
    ≡ garbled l.outcome l.torn l.kept 0 l.initial.image
