-- A call over a disk is the node's call, whole or as far as the disk let it come.
use Rattle.node_rules.specs.Nodes.{Setting, Node}
use Rattle.node_rules.specs.OnDisks.{Input}
use Rattle.node_rules.proofs.Called as over
use Rattle.node_rules.proofs.Called.{ComesSoFar, called-over}
use Rattle.world_rules.specs.Disks.{Disk}
use Rattle.world_rules.specs.Calls.{called_on, world_storage}
use Rattle.world_rules.specs.Laws.{CallsComeSoFar}

pub so_far : (s : Setting) (n : Node) (i : Input) (d : Disk) → ComesSoFar s n i (called_on s n i d).call
so_far s n i d = over.so_far world_storage s n i d

pub come-so-far : CallsComeSoFar
come-so-far s n i d = called-over world_storage s n i d
