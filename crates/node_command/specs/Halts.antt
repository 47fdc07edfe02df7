-- Why the run of a member stopped, by what stopped in it.
use Rattle.std.specs.Prelude.{Bool, true, false, Some, Result, Err}
use Rattle.epoch_store.specs.declared.StoreError.{StoreError}
use Rattle.epoch_store.specs.declared.StoreError.TheVariants as store
use Rattle.line_text.specs.declared.bad_word.BadWord.{BadWord}
use Rattle.play.specs.declared.stop.Stop.{Stop}
use Rattle.play.specs.declared.stop.Stop.TheVariants as stop
use Rattle.node_core.specs.declared.NodeFault.{NodeFault}
use Rattle.node_core.specs.declared.NodeFault.TheVariants as node
use Rattle.node_loop.specs.declared.fault.ServeFault.{ServeFault}
use Rattle.node_loop.specs.declared.fault.ServeFault.TheVariants as serve
use Rattle.node_command.specs.declared.halt.NodeHalt.{NodeHalt}
use Rattle.node_command.specs.declared.halt.NodeHalt.TheVariants as halt

-- where the text wasn't read whole
abbrev pub halt_of : Stop BadWord → NodeHalt
halt_of (stop.Refused line cause) = halt.Refused line cause
halt_of stop.ReadFault = halt.ReadFault
halt_of stop.WriteFault = halt.WriteFault
halt_of stop.OutOfMemory = halt.OutOfMemory

-- a store is opened, or not, whatever its length is
abbrev pub IsOfOpening : StoreError → Type 0
IsOfOpening (store.Taken len) = ⊥
IsOfOpening other = Unit {0}

-- no life has ended that is to start
abbrev pub IsOfStart : NodeFault → Type 0
IsOfStart node.Ended = ⊥
IsOfStart other = Unit {0}

-- where the store wasn't opened: a store of another key is no store of this one
abbrev pub halt_for : StoreError → NodeHalt
halt_for store.Fault = halt.StoreFault
halt_for (store.Taken len) = halt.OutOfMemory
halt_for (store.Broken place byte) = halt.StoreBroken place byte
halt_for (store.OtherKey place byte) = halt.StoreBroken place (Some byte)
halt_for store.OutOfMemory = halt.OutOfMemory

-- where the life didn't start
abbrev pub halt_by : NodeFault → NodeHalt
halt_by node.StoreFault = halt.StoreFault
halt_by node.OutOfMemory = halt.OutOfMemory
halt_by (node.Exhausted next) = halt.Exhausted next
halt_by node.Ended = halt.OutOfMemory

-- where the life was served no longer
abbrev pub halt_served : ServeFault → NodeHalt
halt_served serve.StoreFault = halt.StoreFault
halt_served serve.WriteFault = halt.WriteFault
halt_served serve.OutOfMemory = halt.OutOfMemory

-- no write failed
abbrev pub is_writable : Result (Unit {0}) NodeHalt → Bool
is_writable (Err halt.WriteFault) = false
is_writable _ = true

-- a write failed
abbrev pub is_write_fault : Result (Unit {0}) NodeHalt → Bool
is_write_fault (Err halt.WriteFault) = true
is_write_fault _ = false

-- what may stop a life that has begun
abbrev pub IsServed : NodeHalt → Type 0
IsServed halt.WriteFault = Unit {0}
IsServed halt.StoreFault = Unit {0}
IsServed halt.OutOfMemory = Unit {0}
IsServed other = ⊥

-- what may stop a run behind its text: neither a line nor a read
abbrev pub IsBehind : NodeHalt → Type 0
IsBehind (halt.Refused line w) = ⊥
IsBehind halt.ReadFault = ⊥
IsBehind other = Unit {0}
