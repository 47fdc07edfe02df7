-- Which line goes on with those before it, and why another doesn't.
use Rattle.std.specs.Prelude.{◌≡◌, ◌≢◌, ℕ, ◌⊎◌, ◌≤◌, List, [], ◌∷◌, ◌++◌, length, filter, Bool, true, false, Some, Result, Ok, Err, codes}
use Rattle.text_trace.specs.Lines.{line_bytes}
use Rattle.records.specs.declared.Record.{Record}
use Rattle.datagram.specs.declared.Datagram.TheVariants as kinds
use Rattle.datagram.specs.Grammar.{read_of}
use Rattle.journal.specs.declared.event.Event as journal
use Rattle.journal.specs.declared.event.What.TheVariants as told
use Rattle.journal.specs.declared.turn.Turn.{Turn}
use Rattle.journal.specs.Spelling.{IsEvent}
use Rattle.journal.specs.Turns.{IsTurn}
use Rattle.turn_rules.specs.Journals.{end_text}
use Rattle.audit_rules.specs.declared.AuditFault.{AuditFault}
use Rattle.audit_rules.specs.declared.AuditFault.TheVariants as faults
use Rattle.audit_rules.specs.declared.Head.{Head}
use Rattle.audit_rules.specs.Shown.{IsShownFront, IsSource, Source, journal_by, signer_of}

-- ---- lines of journals

-- It is the line of a turn, that of an event, or the last line.
pub data SaysOne (line : List ℕ) : Type 0 where
  IsOfTurn : (turn : Turn) → IsTurn line turn → SaysOne line
  IsOfEvent : (event : journal.Event) → IsEvent line event → SaysOne line
  IsEnd : line ≡ end_text → SaysOne line

-- It is such a line, no longer than a line of a text may be.
pub record IsLine (line : List ℕ) : Type 0 where
  pub says : SaysOne line
  pub short : length line ≤ line_bytes

-- ---- lines that agree but for own signatures

-- They say the same, and unless it is the member's own have the same signature. Its own are those of which it is the author, also
-- such as came from outside, out of an earlier life: these have the signature with which they came.
pub record IsAlike (me : ℕ) (r other : Record) : Type 0 where
  pub body : r.body ≡ other.body
  pub signature : signer_of r.body ≢ Some me → r.signature ≡ other.signature

abbrev pub AreAlike : ℕ → List Record → List Record → Type 0
AreAlike me [] [] = Unit {0}
AreAlike me [] (other ∷ others) = ⊥
AreAlike me (r ∷ records) [] = ⊥
AreAlike me (r ∷ records) (other ∷ others) = IsAlike me r other × AreAlike me records others

-- Both are what a node reports as sent, at one moment, with one number and to one member: records, which are alike.
pub record SendAlike (me : ℕ) (line other : List ℕ) : Type 0 where
  pub moment : ℕ
  pub number : ℕ
  pub to : ℕ
  pub bytes : List ℕ
  pub other_bytes : List ℕ
  pub line_is : IsEvent line (record { moment = moment; what = told.Sent number to bytes })
  pub other_is : IsEvent other (record { moment = moment; what = told.Sent number to other_bytes })
  pub from : ℕ
  pub records : List Record
  pub others : List Record
  pub read : read_of bytes ≡ Ok (kinds.Records from records)
  pub other_read : read_of other_bytes ≡ Ok (kinds.Records from others)
  pub alike : AreAlike me records others

-- The lines are equal, or differ in own signatures alone, of whatever length these are.
abbrev pub AgreeButOwn : ℕ → List ℕ → List ℕ → Type 0
AgreeButOwn me line other = line ≡ other ⊎ SendAlike me line other

-- ---- what goes on

-- A life that began with the head has these lines, and then one that agrees with this one but for own signatures.
pub record FollowsButOwn (h : Head) (lines : List (List ℕ)) (line : List ℕ) : Type 0 where
  pub source : Source
  pub is_source : IsSource h source
  pub other : List ℕ
  pub rest : List (List ℕ)
  pub same : journal_by h source ≡ lines ++ other ∷ rest
  pub agree : AgreeButOwn h.me line other

abbrev pub Follows : Head → List (List ℕ) → List ℕ → Type 0
Follows h lines line = IsShownFront h (lines ++ line ∷ [])

-- What is answered to a line behind those that went on.
abbrev pub Judges : Head → List (List ℕ) → List ℕ → Result (Unit {0}) AuditFault → Type 0
Judges h lines line (Ok done) = Follows h lines line
Judges h lines line (Err faults.Form) = ¬ (IsLine line) × ¬ (FollowsButOwn h lines line)
Judges h lines line (Err faults.Signature) = IsLine line × ¬ (Follows h lines line) × FollowsButOwn h lines line
Judges h lines line (Err faults.Differs) = IsLine line × ¬ (FollowsButOwn h lines line)
Judges h lines line (Err faults.OutOfMemory) = Unit {0}
