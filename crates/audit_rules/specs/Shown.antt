-- Which journals are lives of a correct member that began with a head.
use Rattle.std.specs.Prelude.{◌≡◌, ◌≢◌, ℕ, ◌<◌, ◌≤◌, ◌^◌, Bool, true, List, [], ◌++◌, length, Contains, Some, IfSome, Ok, All}
use Rattle.std.specs.List.{AllByRecursion}
use Rattle.std.specs.Result.{is_ok}
use Rattle.text_trace.specs.Lines.{line_bytes}
use Rattle.hex.specs.Hex.{IsBytes}
use Rattle.records.specs.declared.Body.{Body}
use Rattle.records.specs.declared.Record.{Record}
use Rattle.records.specs.Keys.{verdict_of}
use Rattle.records.specs.Signing.{signed_bytes}
use Rattle.datagram.specs.declared.Datagram.TheVariants as kinds
use Rattle.datagram.specs.Grammar.{read_of}
use Rattle.journal.specs.declared.turn.Turn.{Turn}
use Rattle.journal.specs.declared.event.What.TheVariants as told
use Rattle.journal.specs.Spelling.{IsEvent}
use Rattle.journal.specs.Turns.{IsTurn, turn_text}
use Rattle.node_rules.specs.Calls.{Call}
use Rattle.node_rules.specs.Nodes.{Setting}
pub use Rattle.node_rules.specs.Claims.{signer_of}
use Rattle.node_rules.specs.Starting.{started}
use Rattle.turn_rules.specs.Turns.{AreTurns}
use Rattle.turn_rules.specs.Journals.{journal_over}
use Rattle.audit_rules.specs.declared.Head.{Head}
use Rattle.audit_rules.specs.Heads.{MayBegin, certificates_of, own_key, own_length, setting_over}

-- ---- what a head leaves open

-- What each turn got and its ticks; whether a datagram was lost before which so many were sent; whether the member left behind its
-- last turn; the nonces of its pings, in order; and its signature of a body with an index.
pub record Source : Type 0 where
  pub turns : List Turn
  pub lost : ℕ → Bool
  pub leaves : Bool
  pub nonces : ℕ → ℕ
  pub signature : ℕ → Body → List ℕ

-- The turn has a line, which is no longer than a line of a text may be.
pub record HasLine (turn : Turn) : Type 0 where
  pub is : IsTurn (turn_text turn) turn
  pub short : length (turn_text turn) ≤ line_bytes

-- The life may begin. Its turns are numbered from 1 and have lines, and it leaves behind one of them, if it does. Nonces have 64
-- bits, and signatures are bytes, as many as the own key's have.
pub record IsSource (h : Head) (w : Source) : Type 0 where
  pub begins : MayBegin h
  pub numbered : AreTurns 1 w.turns
  pub have_lines : All HasLine w.turns
  pub behind_a_turn : w.leaves ≡ true → w.turns ≢ []
  pub nonces_fit : (k : ℕ) → w.nonces k < 2 ^ 64
  pub signature_bytes : (index : ℕ) (body : Body) → IsBytes (w.signature index body)
  pub signature_long : (index : ℕ) (body : Body) → length (w.signature index body) ≡ own_length h

abbrev pub setting_by : Head → Source → Setting
setting_by h w = setting_over h w.signature

-- how the life begins
abbrev pub start_by : Head → Source → Call
start_by h w = started (setting_by h w) w.nonces (certificates_of h) h.stored

-- The texts of the lines of the journal of this life, the last of which is `end`.
unfoldable pub journal_by : Head → Source → List (List ℕ)
journal_by h w = journal_over (setting_by h w) (start_by h w) w.turns w.lost w.leaves

-- ---- own signatures that lines show

-- If it is one of the member's own, it verifies under the own key.
abbrev pub OwnVerifies : Head → Record → Type 0
OwnVerifies h r = signer_of r.body ≡ Some h.me
    → IfSome (own_key h) (λ key. is_ok (verdict_of key (signed_bytes h.group.tag h.group.t r.body) r.signature) ≡ true)

-- The line gives these records as sent, in a datagram from this member.
pub record Sends (line : List ℕ) (from : ℕ) (records : List Record) : Type 0 where
  pub moment : ℕ
  pub number : ℕ
  pub to : ℕ
  pub bytes : List ℕ
  pub is : IsEvent line (record { moment = moment; what = told.Sent number to bytes })
  pub read : read_of bytes ≡ Ok (kinds.Records from records)

-- The own records that lines show verify.
abbrev pub OwnShownVerify : Head → List (List ℕ) → Type 0
OwnShownVerify h lines = (line : List ℕ) (from : ℕ) (records : List Record) → Contains lines line → Sends line from records
    → AllByRecursion (OwnVerifies h) records

-- ---- journals

-- The lines are those of a life that began with the head, and the own records that they show verify. A signature that no line
-- shows isn't spoken of.
pub record IsShown (h : Head) (lines : List (List ℕ)) : Type 0 where
  pub source : Source
  pub is_source : IsSource h source
  pub same : journal_by h source ≡ lines
  pub own_verify : OwnShownVerify h lines

-- A journal of such a life begins with these lines, and the own records that they show verify.
pub record IsShownFront (h : Head) (lines : List (List ℕ)) : Type 0 where
  pub source : Source
  pub is_source : IsSource h source
  pub rest : List (List ℕ)
  pub same : journal_by h source ≡ lines ++ rest
  pub own_verify : OwnShownVerify h lines
