-- What a call reports and sends in which the disk fails.
use Rattle.std.specs.Prelude.{◌≡◌, ℕ, ◌-◌, true, false, List, [], ◌∷◌, ◌++◌, Option, Some, None, Ok}
use Rattle.ff_ids.specs.declared.NoteBody.{NoteBody}
use Rattle.records.specs.declared.Record.{Record}
use Rattle.datagram.specs.declared.Datagram.TheVariants as kinds
use Rattle.datagram.specs.Grammar.{read_of}
use Rattle.journal.specs.declared.event.What as whats
use Rattle.journal.specs.declared.event.What.TheVariants as told
use Rattle.node_rules.specs.Nodes.{Setting, Node, state_of}
use Rattle.node_rules.specs.Calls.{Call, is_used_up}
use Rattle.node_rules.specs.Ticking.{has_accused, accuses_all, spread_at, silent_at}
use Rattle.node_rules.specs.OnDisks.{Input, Delivers, Ticks, Leaves, called}
use Rattle.node_rules.specs.Lives.{call_of}
use Rattle.node_rules.specs.Verdicts.{all_at, told_that, is_apart, is_took, when_all_handled, verdict_on, verdicts}
use Rattle.node_rules.specs.Answering.{asked_by, records_told, answers_sent}
use Rattle.node_rules.specs.Outgoing.{at_tick, unaccused, news_out, accusations_out, accusing_told}

-- The call has reported these, beside the life and the datagrams, and that it stopped; it has sent these datagrams; and the
-- life is over.
pub record StopsBehind (moment : ℕ) (whats : List whats.What) (sent : List (ℕ × List ℕ)) (c : Call) : Type 0 where
  pub told : told_that is_apart c ≡ all_at moment (whats ++ told.Stopped ∷ [])
  pub sent_so : c.sent ≡ sent
  pub over : c.ended ≡ true

-- The record asks a note of the node, and its key has an index for it.
pub record WantsAnswer (s : Setting) (n : Node) (r : Record) : Type 0 where
  pub note : NoteBody
  pub asked : asked_by s n r ≡ Some note
  pub left : is_used_up s n ≡ false

-- The puts for the notes that these records ask.
abbrev pub puts_for : Setting → Node → List Record → ℕ
puts_for s n records = (when_all_handled s n records).stored.next - n.stored.next

-- The put for the note that a record of the datagram asks, behind those for the records before it.
pub record StopsAnswering (s : Setting) (n : Node) (bytes : List ℕ) (put : ℕ) : Type 0 where
  pub from : ℕ
  pub before : List Record
  pub at : Record
  pub behind : List Record
  pub read : read_of bytes ≡ Ok (kinds.Records from (before ++ at ∷ behind))
  pub wants : WantsAnswer s (when_all_handled s n before) at
  pub puts : put ≡ puts_for s n before

-- Where it fails, the records before it are reported and answered as ever, the verdict on it is reported, and nothing behind it.
abbrev pub StoppedDeliveryEnds : Type 0
StoppedDeliveryEnds = (s : Setting) (n : Node) (bytes : List ℕ) (put : ℕ) (stop : StopsAnswering s n bytes put)
    → StopsBehind (state_of s n).moment (records_told s n stop.before ++ verdict_on s (when_all_handled s n stop.before) stop.at ∷ [])
    (answers_sent s n stop.before) (called s n (Delivers bytes) (Some put))

-- Its verdict is the last.
abbrev pub StoppedVerdictsAreTold : Type 0
StoppedVerdictsAreTold = (s : Setting) (n : Node) (bytes : List ℕ) (put : ℕ) (stop : StopsAnswering s n bytes put)
    → told_that is_took (called s n (Delivers bytes) (Some put)) ≡ all_at (state_of s n).moment (verdicts s n (stop.before ++ stop.at ∷ []))

-- The puts for the accusations of these at a tick.
abbrev pub puts_against : Setting → Node → List ℕ → ℕ
puts_against s n silent = (accuses_all s silent (spread_at s n)).node.stored.next - n.stored.next

-- The put for the accusation of a member that is silent at the tick, behind those for the members before it.
pub record StopsAccusing (s : Setting) (n : Node) (put : ℕ) : Type 0 where
  pub before : List ℕ
  pub at : ℕ
  pub behind : List ℕ
  pub silent : silent_at s n ≡ before ++ at ∷ behind
  pub unaccused : has_accused s (state_of s (at_tick s n)) at ≡ false
  pub left : is_used_up s (accuses_all s before (spread_at s n)).node ≡ false
  pub puts : put ≡ puts_against s n before

-- Where it fails, the news and the accusations of those before it are reported and sent as ever, and no ping and no summary
-- goes out.
abbrev pub StoppedTickEnds : Type 0
StoppedTickEnds = (s : Setting) (n : Node) (put : ℕ) (stop : StopsAccusing s n put) → let p = at_tick s n in let st = state_of s p in
    StopsBehind st.moment (accusing_told s st p.stored.next (unaccused s st stop.before) ++ told.Silent stop.at ∷ [])
    (news_out s st (at_tick s n) ++ accusations_out s st p.stored.next (unaccused s st stop.before)) (called s n Ticks (Some put))

-- The put for the note by which the node leaves, which is the only one of its call.
pub record StopsLeaving (s : Setting) (n : Node) (put : ℕ) : Type 0 where
  pub left : is_used_up s n ≡ false
  pub first : put ≡ 0

-- Nothing is reported but that the node stopped, nothing is sent, the node is as it was, and its life is over.
pub record StopsAtOnce (s : Setting) (n : Node) (c : Call) : Type 0 where
  pub told : c.told ≡ all_at (state_of s n).moment (told.Stopped ∷ [])
  pub sent_so : c.sent ≡ []
  pub node_so : c.node ≡ n
  pub over : c.ended ≡ true

-- So it is where that put fails.
abbrev pub StoppedLeavingEnds : Type 0
StoppedLeavingEnds = (s : Setting) (n : Node) (put : ℕ) → StopsLeaving s n put → StopsAtOnce s n (called s n Leaves (Some put))

-- A call that a failing put ends, ends so.
abbrev pub StopsIn : Setting → Node → Input → ℕ → Type 0
StopsIn s n (Delivers bytes) put = StopsAnswering s n bytes put
StopsIn s n Ticks put = StopsAccusing s n put
StopsIn s n Leaves put = StopsLeaving s n put

abbrev pub OnlySignaturesStop : Type 0
OnlySignaturesStop = (s : Setting) (n : Node) (i : Input) (put : ℕ) → (called s n i (Some put)).ended ≡ true → StopsIn s n i put

-- A call in which no put fails is whole, and so is one that no failing put ends. It doesn't end the life.
pub record GoesOnWhole (s : Setting) (n : Node) (i : Input) : Type 0 where
  pub whole : called s n i None ≡ call_of s n i
  pub others : (fails_at : Option ℕ) → (called s n i fails_at).ended ≡ false → called s n i fails_at ≡ call_of s n i
  pub goes_on : (call_of s n i).ended ≡ false

abbrev pub WholeCallsGoOn : Type 0
WholeCallsGoOn = (s : Setting) (n : Node) (i : Input) → GoesOnWhole s n i
