-- The texts of the verdicts on the lines of a schedule.
use Rattle.std.specs.Prelude.{ℕ, List, ◌++◌, codes, decimal}
use Rattle.ff_ids.specs.Texts.{monitor_text}
use Rattle.life_events.specs.Events.{members_text}
use Rattle.world_rules.specs.declared.verdict.RefusalReason.{RefusalReason}
use Rattle.world_rules.specs.declared.verdict.RefusalReason.TheVariants.{NotNode, NotLiar, NoName, NoDatagram, Running, NotRunning, Left, NoNote, UsedUp, UnknownMember}
use Rattle.world_rules.specs.declared.verdict.Verdict.{Verdict}
use Rattle.world_rules.specs.declared.verdict.Verdict.TheVariants.{Began, DiskStopped, Spends, Sees, MonitoredBy, Refused}

abbrev pub why_text : RefusalReason → List ℕ
why_text NotNode = codes "not-node"
why_text NotLiar = codes "not-liar"
why_text NoName = codes "no-name"
why_text NoDatagram = codes "no-datagram"
why_text Running = codes "running"
why_text NotRunning = codes "stopped"
why_text Left = codes "left"
why_text NoNote = codes "no-note"
why_text (UsedUp first) = codes "exhausted " ++ decimal first
why_text UnknownMember = codes "unknown-member"

abbrev pub verdict_text : Verdict → List ℕ
verdict_text (Began life) = codes "life " ++ decimal life
verdict_text DiskStopped = codes "stopped"
verdict_text (Spends index) = codes "signed " ++ decimal index
verdict_text (Sees members) = members_text members
verdict_text (MonitoredBy monitor) = monitor_text monitor
verdict_text (Refused why) = codes "refused " ++ why_text why
