-- Lines of events that send nothing are gathered, and written in one piece with the line of the next datagram.
use Rattle.std.specs.Prelude.{◌≡◌, ℕ, ◌++◌, List, Option, Some, Result, Ok, Err}
use Rattle.std.specs.Io.KnownBytes.{Appends}
use Rattle.signer.specs.Lives.{Spent}
use Rattle.node_rules.specs.Nodes.{certificate_of}
use Rattle.validate.specs.Certified.{certificate_of as kept_certificate}
use Rattle.node_loop.specs.declared.fault.ServeFault.{ServeFault}
use Rattle.node_loop.specs.declared.fault.ServeFault.TheVariants as faults
use Rattle.node_loop.specs.Courses.{ServeState}
use Rattle.node_loop.specs.Writing.{Before, HasSpent, Standing, Tells}
use Rattle.turn_rules.specs.Lines.{JournalLine, bytes_of}
use Rattle.node_loop.specs.Lines.{WritesSpent, WroteFront, faults_behind, spent_in}

-- The line is gathered behind the others; or memory was refused for it, and the others are written; or their write failed.
abbrev pub GathersLine : Option (List ℕ) → Option (List ℕ) → List ℕ → List ℕ → List ℕ → Result (Unit {0}) ServeFault → Type 0
GathersLine before after gathered lines line (Ok done) = (after ≡ before) × (lines ≡ gathered ++ line)
GathersLine before after gathered lines line (Err faults.StoreFault) = ⊥
GathersLine before after gathered lines line (Err faults.WriteFault) = WroteFront before after gathered
GathersLine before after gathered lines line (Err faults.OutOfMemory) = Appends before after gathered

-- What was gathered is written, and the line behind it; or memory was refused for the line, and it is written alone; or the
-- write failed.
abbrev pub WritesBehind : Option (List ℕ) → Option (List ℕ) → List ℕ → List ℕ → Result (Unit {0}) ServeFault → Type 0
WritesBehind before after gathered line (Ok done) = Appends before after (gathered ++ line)
WritesBehind before after gathered line (Err faults.StoreFault) = ⊥
WritesBehind before after gathered line (Err faults.WriteFault) = WroteFront before after (gathered ++ line)
WritesBehind before after gathered line (Err faults.OutOfMemory) = Appends before after gathered

-- All of the text was written but these lines, which are gathered.
pub record IsOwed (before after : Option (List ℕ)) (lines text : List ℕ) : Type 0 where
  pub front : List ℕ
  pub is : text ≡ front ++ lines
  pub written : Appends before after front

-- It stands where the course is, but that these lines are gathered and not written.
pub record IsAtBut (before : Before) (w : Standing) (lines : List ℕ) (r : ServeState) : Type 0 where
  pub knows : (m : ℕ) → kept_certificate w.node.roster m ≡ certificate_of r.node m
  pub link : w.link ≡ Some r.link
  pub text : IsOwed before.taken w.taken lines r.text
  pub sent : w.sent ≡ r.sent
  pub key : HasSpent before r.spent w

-- All of it was reported but these lines, which are gathered; or it broke off.
abbrev pub TellsBut : Before → Standing → List ℕ → ServeState → Result (Unit {0}) ServeFault → Type 0
TellsBut before w lines r (Ok done) = IsAtBut before w lines r
TellsBut before w lines r (Err fault) = Tells before w r (Err fault)

-- Lines give just these signatures, and say each of the link's faults; all were written but those that are gathered.
pub record OwesSpent (spent : List Spent) (before after : Option (List ℕ)) (gathered : List ℕ) (count later : ℕ) : Type 0 where
  pub lines : List JournalLine
  pub give : spent_in lines ≡ spent
  pub owed : IsOwed before after gathered (bytes_of lines)
  pub link : later ≡ faults_behind lines count

-- So it is; or it broke off.
abbrev pub SpentBut : List Spent → Option (List ℕ) → Option (List ℕ) → List ℕ → ℕ → ℕ → Result (Unit {0}) ServeFault → Type 0
SpentBut spent before after gathered count later (Ok done) = OwesSpent spent before after gathered count later
SpentBut spent before after gathered count later (Err fault) = WritesSpent spent before after count later (Err fault)
