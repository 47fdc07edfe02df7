-- What the answers of a disk and a link say, whatever their contents are.
use Rattle.std.specs.Prelude.{ℕ, ◌≤◌, Bool, true, false}
use Rattle.ports.specs.declared.Opened as opened
use Rattle.ports.specs.declared.Received as received
use Rattle.ports.specs.declared.Sent as sent

-- the file or the port was not opened, by a fault
abbrev pub open_failed : opened.Opened → Bool
open_failed opened.TheVariants.Done = false
open_failed opened.TheVariants.Failed = true
open_failed opened.TheVariants.OutOfMemory = false

-- the receive failed
abbrev pub receive_failed : received.Received → Bool
receive_failed (received.TheVariants.Got n) = false
receive_failed received.TheVariants.Nothing = false
receive_failed received.TheVariants.Failed = true

-- no more bytes than the buffer holds
abbrev pub ReceivedAtMost : received.Received → ℕ → Type 0
ReceivedAtMost (received.TheVariants.Got n) room = n ≤ room
ReceivedAtMost received.TheVariants.Nothing room = Unit {0}
ReceivedAtMost received.TheVariants.Failed room = Unit {0}

-- the send failed
abbrev pub send_failed : sent.Sent → Bool
send_failed sent.TheVariants.Done = false
send_failed sent.TheVariants.Failed = true
send_failed sent.TheVariants.OutOfMemory = false
