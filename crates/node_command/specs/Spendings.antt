-- What the run of a member has spent of its key, and how often its link failed.
use Rattle.std.specs.Prelude.{◌≡◌, ℕ, ◌+◌, ◌≤◌, ◌<◌, ◌⊎◌, Bool, true, false, List, [], ◌++◌, fold, Option, Result, Ok, Err}
use Rattle.std.specs.Io.KnownBytes.{Appends}
use Rattle.std.specs.List.{AllByRecursion}
use Rattle.epoch_store.specs.declared.Stored.{Stored}
use Rattle.journal.specs.declared.event.Event as journal
use Rattle.play.specs.Plays.{IoState}
use Rattle.records.specs.declared.Body.{Body}
use Rattle.records.specs.declared.Body.TheVariants.{Certificate, Note, Accusation}
use Rattle.ports.specs.Count.{counted}
use Rattle.ports.specs.Disk.{Moment, Since}
use Rattle.signer.specs.Lives.{EndsLives, EndsNow, IsOnce, LivesOn, Spent, indexes, note_epochs}
use Rattle.signer.specs.Signing.{SignerState}
use Rattle.node_core.specs.Spending.{spent_told}
use Rattle.turn_rules.specs.Lines.{JournalLine, bytes_of}
use Rattle.node_loop.specs.Lines.{WroteFront, faults_behind, spent_in}
use Rattle.node_command.specs.declared.halt.NodeHalt.{NodeHalt}
use Rattle.node_command.specs.declared.halt.NodeHalt.TheVariants as halt
use Rattle.node_command.specs.declared.kit.Member.{Member}
use Rattle.turn_rules.specs.Journals.{end_line}
use Rattle.node_command.specs.Members.{IsMember}
use Rattle.node_command.specs.Opening.{Ends, EndsFronts, IsFound, Tells}
use Rattle.ports.specs.Outside.{OfDisk}

-- The indexes rise, and so do the epochs of the notes; none of them is below the next index that was found, and no epoch is one
-- that was stored before.
pub record IsSpentFrom (found : Stored) (spent : List Spent) : Type 0 where
  pub once : IsOnce spent
  pub above : AllByRecursion (λ i. found.next ≤ i) (indexes spent)
  pub later : AllByRecursion (λ e. found.epoch < e) (note_epochs spent)

-- What a store keeps behind these signatures, that kept this before: the next index is one above that of the last, and epoch and mask
-- are those of the last note among them.
abbrev pub kept_for : Stored → Body → Stored
kept_for kept (Certificate c) = kept
kept_for kept (Note n) = record kept { epoch = n.epoch; mask = n.mask }
kept_for kept (Accusation a) = kept

abbrev pub kept_with : Stored → Spent → Stored
kept_with kept s = kept_for (record kept { next = s.index + 1 }) s.body

-- What the store keeps behind these signatures.
abbrev pub kept_behind : Stored → List Spent → Stored
kept_behind kept spent = fold kept_with kept spent

-- ## The lines

-- The lines were written, and behind them the line `end` where all was done; or a front of that, where a write failed or memory
-- was refused. A run that ended otherwise wrote none.
abbrev pub WritesJournal : Option (List ℕ) → Option (List ℕ) → List JournalLine
    → Result (Unit {0}) NodeHalt → Type 0
WritesJournal before after lines (Ok done) = Appends before after (bytes_of lines ++ end_line)
WritesJournal before after lines (Err halt.StoreFault) = Appends before after (bytes_of lines)
WritesJournal before after lines (Err halt.WriteFault) =
    WroteFront before after (bytes_of lines ++ end_line)
WritesJournal before after lines (Err halt.OutOfMemory) = WroteFront before after (bytes_of lines)
WritesJournal before after lines (Err other) = (lines ≡ []) × Appends before after []

-- The lines give the signatures that the start reported, and behind them those that the life made, with which the lives of the
-- key go on; and the faults of the link.
pub record LifeSpends (told : List journal.Event) (s : SignerState) (older newer : List Moment)
    (before after : Option (List ℕ)) (count faults : ℕ) (result : Result (Unit {0}) NodeHalt)
    : Type 0 where
  pub lines : List JournalLine
  pub written : WritesJournal before after lines result
  pub later : SignerState
  pub spent : List Spent
  pub give : spent_in lines ≡ spent_told told ++ spent
  pub key : LivesOn spent s later older newer
  pub link : faults ≡ faults_behind lines count

-- ## The run

-- A store of the member's key was found. These lines of the journal were written, or a prefix of them where it broke off. What they
-- give of signatures rises in index and in epoch from what the store kept. If a crash first left the file as lives of the key
-- leave it that spent something, each crash now leaves it as lives do that spent that and then this, and at each moment between
-- as lives do that spent a prefix of this. The link's count of faults rose with just the lines that say so.
pub record SpendsFrom (m : Member) (before after : Option (List ℕ)) (old new : OfDisk)
    (count faults : ℕ) (result : Result (Unit {0}) NodeHalt) : Type 0 where
  pub stored : Stored
  pub found : IsFound m stored old
  pub lines : List JournalLine
  pub written : WritesJournal before after lines result
  pub from : Tells old.moments → IsSpentFrom stored (spent_in lines)
  pub ends : Ends m (spent_in lines) old new
  pub any_moment : EndsFronts m (spent_in lines) old new
  pub link : faults ≡ faults_behind lines count

-- the port could not be bound
abbrev pub is_unbound : Result (Unit {0}) NodeHalt → Bool
is_unbound (Err halt.LinkFault) = true
is_unbound other = false

-- Nothing was written, and nothing of any key spent: each crash ends lives as before, now and at each moment between.
pub record SpendsNone (before after : Option (List ℕ)) (old new : OfDisk) : Type 0 where
  pub unwritten : Appends before after []
  pub any_moment : (tag image : List ℕ) (spent : List Spent) → EndsNow tag image spent old.moments
      → Since (EndsLives tag image spent) old.moments new.moments
  pub ends : (tag image : List ℕ) (spent : List Spent) → EndsNow tag image spent old.moments
      → EndsNow tag image spent new.moments

-- Nothing was written or spent, and the link failed where the port could not be bound, and nowhere else.
pub record SpendsNothing (before after : Option (List ℕ)) (old new : OfDisk) (count faults : ℕ)
    (result : Result (Unit {0}) NodeHalt) : Type 0 where
  pub none : SpendsNone before after old new
  pub link : faults ≡ counted (is_unbound result) count

-- A run may end so without a store of its key: the text was cut off, the port not bound, the store not opened or broken, or memory
-- was refused.
abbrev pub MayFindNone : Result (Unit {0}) NodeHalt → Type 0
MayFindNone (Ok done) = ⊥
MayFindNone (Err halt.WriteFault) = ⊥
MayFindNone (Err (halt.Exhausted next)) = ⊥
MayFindNone (Err other) = Unit {0}

-- Nothing was written or spent, and the run ended so that this may be; or a store was found, of which this was spent.
abbrev pub SpendsBehind : Member → Option (List ℕ) → Option (List ℕ) → OfDisk → OfDisk → ℕ → ℕ
    → Result (Unit {0}) NodeHalt → Type 0
SpendsBehind m before after old new count faults result =
    (MayFindNone result × SpendsNothing before after old new count faults result)
    ⊎ SpendsFrom m before after old new count faults result

-- A member was read from the text, and this was spent of its key.
pub record HasSpent (was now : IoState) (old new : OfDisk) (count faults : ℕ)
    (result : Result (Unit {0}) NodeHalt) : Type 0 where
  pub member : Member
  pub between : IoState
  pub read : IsMember was between member
  pub spends : SpendsFrom member was.taken now.taken old new count faults result

-- What a run does to the lives of the key, under every answer: either nothing was written and nothing put, and it ended so that
-- no store may have been found; or the lines of the journal, of which a prefix may be written, give what was spent. The link's
-- count of faults is before and behind it.
abbrev pub Spends : IoState → IoState → OfDisk → OfDisk → ℕ → ℕ → Result (Unit {0}) NodeHalt
    → Type 0
Spends was now old new count faults result =
    (MayFindNone result × SpendsNothing was.taken now.taken old new count faults result)
    ⊎ HasSpent was now old new count faults result
