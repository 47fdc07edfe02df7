-- What the removals have for their cause that the journal of a life gives: a note by which the member left, or a tick.
use Rattle.std.specs.Prelude.{◌≡◌, ◌≢◌, ℕ, Bool, true, List, [], ◌∷◌, ◌++◌, length, Contains}
use Rattle.ff_ids.specs.declared.NoteBody.{NoteBody}
use Rattle.ff_ids.specs.Notes.{is_leaving}
use Rattle.ff_ids.specs.Steps.{Event, Notes}
use Rattle.ff_ids.specs.Lives.{opening, IsRemovedAt}
use Rattle.records.specs.declared.Body.{Body}
use Rattle.records.specs.declared.Body.TheVariants.{Note}
use Rattle.journal.specs.declared.event.What.TheVariants as told
use Rattle.node_rules.specs.Nodes.{Setting, Node, public_key_of, state_of}
use Rattle.node_rules.specs.Verdicts.{when_all_handled}
use Rattle.node_rules.specs.Leaving.{leaving, leaving_note}
use Rattle.node_rules.specs.Lives.{Leaves, call_of}
use Rattle.turn_rules.specs.Turns.{Act, Calls}
use Rattle.turn_rules.specs.Courses.{life_behind, node_behind}
use Rattle.turn_rules.specs.Removals.{Removes, VerifiesFor, removal_line}
use Rattle.turn_rules.specs.Replies.{Accepts}

-- The life as the record is accepted that one of these acts delivers.
abbrev pub life_before : {moment : ℕ} {body : Body} (s : Setting) (start : Node) (acts : List Act) → Accepts s start acts moment body → List Event
life_before s start acts a = (when_all_handled s (node_behind s start a.before) a.earlier).lived

-- A note by which the member leaves is delivered by one of these acts, at this moment, and accepted; that takes the member out
-- of the view. It is another than the node itself, which accepts no note of its own that comes back to it.
pub record LeavesByNote (s : Setting) (start : Node) (acts : List Act) (moment m : ℕ) : Type 0 where
  pub note : NoteBody
  pub of_member : note.member ≡ m
  pub leaving : is_leaving note ≡ true
  pub other : m ≢ s.me
  pub accepts : Accepts s start acts moment (Note note)
  pub removed : IsRemovedAt s.group (opening []) (life_before s start acts accepts ++ Notes note ∷ []) (length (life_before s start acts accepts)) m

-- The member is the node itself, which one of these acts calls to leave, at this moment: it spends an index on its note, whose
-- signature verifies under the key of its certificate, where that is claimed, and which takes it out of its own view.
pub record LeavesItself (claimed : ℕ → Body → Bool) (s : Setting) (start : Node) (acts : List Act) (moment m : ℕ) : Type 0 where
  pub before : List Act
  pub behind : List Act
  pub called : acts ≡ before ++ Calls Leaves ∷ behind
  pub at : (state_of s (node_behind s start before)).moment ≡ moment
  pub own : m ≡ s.me
  pub index : ℕ
  pub spent : Contains (call_of s (node_behind s start before) Leaves).told
      (record { moment = moment; what = told.Spent index (leaving s (node_behind s start before).stored) })
  pub verified : claimed index (leaving s (node_behind s start before).stored) ≡ true → VerifiesFor s (public_key_of (node_behind s start before) m)
      (record { body = leaving s (node_behind s start before).stored; signature = s.signature index (leaving s (node_behind s start before).stored) })
  pub removed : IsRemovedAt s.group (opening []) (life_behind s start before ++ Notes (leaving_note s (node_behind s start before).stored) ∷ [])
      (length (life_behind s start before)) m

-- One of these acts removes the member from the view, at this moment: a tick, by an accusation; the delivery of its leaving note;
-- or that the node itself is called to leave.
pub data Departs (claimed : ℕ → Body → Bool) (s : Setting) (start : Node) (acts : List Act) (moment m : ℕ) : Type 0 where
  AtTick : Removes claimed s start acts moment m → Departs claimed s start acts moment m
  ByNote : LeavesByNote s start acts moment m → Departs claimed s start acts moment m
  ByItself : LeavesItself claimed s start acts moment m → Departs claimed s start acts moment m

-- The line gives a removal at one of these acts.
pub record GivesRemoval (claimed : ℕ → Body → Bool) (s : Setting) (start : Node) (acts : List Act) (line : List ℕ) : Type 0 where
  pub moment : ℕ
  pub member : ℕ
  pub spelled : line ≡ removal_line moment member
  pub removal : Departs claimed s start acts moment member
