-- Why a command of an authority stopped.
use Rattle.std.specs.Prelude.{Some}
use Rattle.epoch_store.specs.declared.StoreError.{StoreError}
use Rattle.epoch_store.specs.declared.StoreError.TheVariants as store
use Rattle.line_text.specs.declared.bad_word.BadWord.{BadWord}
use Rattle.play.specs.declared.stop.Stop.{Stop}
use Rattle.play.specs.declared.stop.Stop.TheVariants as stop
use Rattle.authority.specs.declared.halt.Halt.{Halt}
use Rattle.authority.specs.declared.halt.Halt.TheVariants as halt

-- where the text wasn't read whole
abbrev pub halt_of : Stop BadWord → Halt
halt_of (stop.Refused line cause) = halt.Refused line cause
halt_of stop.ReadFault = halt.ReadFault
halt_of stop.WriteFault = halt.WriteFault
halt_of stop.OutOfMemory = halt.OutOfMemory

-- where the store wasn't made or opened: a store of another key is no store of this one
abbrev pub halt_for : StoreError → Halt
halt_for store.Fault = halt.StoreFault
halt_for (store.Taken len) = halt.StoreTaken len
halt_for (store.Broken place byte) = halt.StoreBroken place byte
halt_for (store.OtherKey place byte) = halt.StoreBroken place (Some byte)
halt_for store.OutOfMemory = halt.OutOfMemory
