-- The calls of a node over its disk: how far each comes where a stop is armed.
use Rattle.std.specs.Prelude.{if◌then◌else◌}
use Rattle.node_rules.specs.Nodes as node
use Rattle.node_rules.specs.OnDisks as node_disks
use Rattle.node_rules.specs.OnDisks.{Input}
use Rattle.world_rules.specs.Disks.{Disk, put_passes, after_put, stopped_in_put}

-- The disk takes an entry, unless a stop comes in the put.
abbrev pub world_storage : node_disks.Storage Disk
world_storage =
    record {
      takes = λ kept d. put_passes d;
      behind = λ kept d. if put_passes d then after_put kept d else stopped_in_put kept d;
    }

-- A call so far, and the disk.
abbrev pub OnDisk : Type 0
OnDisk = node_disks.OnDisk Disk

abbrev pub called_on : node.Setting → node.Node → Input → Disk → OnDisk
called_on s n i disk = node_disks.called_on world_storage s n i disk
