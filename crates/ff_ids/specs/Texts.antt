-- Texts: how monitors, accusations and faults are written. A number is its decimal digits.
use Rattle.std.specs.Prelude.{ℕ, List, ◌++◌, Option, Some, None, codes}
use Rattle.std.specs.Fmt.{decimal}
use Rattle.hex.specs.Hex.{encode_lower}
use Rattle.ff_ids.specs.declared.AccBody.{AccBody}
use Rattle.ff_ids.specs.Keys.{listed}
use Rattle.ff_ids.specs.declared.Fault.{Fault}
use Rattle.ff_ids.specs.declared.Fault.TheVariants as faults

-- The number of a member, or the word for nobody's.
abbrev pub monitor_text : Option ℕ → List ℕ
monitor_text (Some m) = decimal m
monitor_text None = codes "none"

-- The accuser, the accused, the epoch and the ring.
abbrev pub accusation_text : AccBody → List ℕ
accusation_text a = decimal a.accuser ++ codes " " ++ decimal a.accused ++ codes " " ++ decimal a.epoch ++ codes " " ++ decimal a.ring.0

-- How a fault is written, with what it gives.
abbrev pub fault_text : Fault → List ℕ
fault_text faults.AlreadyMember = codes "already-member"
fault_text faults.UnknownMember = codes "unknown-member"
fault_text faults.BadMask = codes "bad-mask"
fault_text faults.Known = codes "known"
fault_text (faults.Older epoch mask) = codes "older " ++ decimal epoch ++ codes " " ++ decimal mask.0
fault_text faults.SelfAccusation = codes "self-accusation"
fault_text faults.BadRing = codes "bad-ring"
fault_text faults.NoNote = codes "no-note"
fault_text (faults.OtherEpoch kept) = codes "other-epoch " ++ decimal kept
fault_text faults.NotInView = codes "not-in-view"
fault_text faults.RingDisabled = codes "ring-disabled"
fault_text (faults.NotMonitor monitor) = codes "not-monitor " ++ monitor_text monitor
fault_text faults.Standing = codes "standing"
fault_text faults.BadSignature = codes "bad-signature"
fault_text (faults.OtherCertificate port key) = codes "other-certificate " ++ decimal port ++ codes " " ++ encode_lower (listed key)
fault_text (faults.OwnAhead stored seen) =
    codes "own-ahead " ++ decimal stored.epoch ++ codes " " ++ decimal stored.mask.0 ++ codes " " ++ decimal seen.epoch ++ codes " " ++ decimal seen.mask.0
