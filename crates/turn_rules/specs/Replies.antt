-- What an accepted note rules out of what the journal of a life gives.
use Rattle.std.specs.Prelude.{◌≡◌, ℕ, ◌+◌, ◌<◌, false, List, [], ◌∷◌, ◌++◌, length, Contains, None, Ok}
use Rattle.ff_ids.specs.declared.AccBody.{AccBody}
use Rattle.ff_ids.specs.declared.Group.{Group}
use Rattle.ff_ids.specs.declared.NoteBody.{NoteBody}
use Rattle.ff_ids.specs.Lives.{opening, IsAcceptedAt, IsNoteAcceptedAt}
use Rattle.ff_ids.specs.Steps.{Event, Notes, Accuses, Ticks as Passes}
use Rattle.ff_ids.specs.Views.{is_unanswered_by}
use Rattle.life_laws.specs.Removals.{ExpiresAt, IsOlderThan, StoodSince}
use Rattle.records.specs.declared.Body.{Body}
use Rattle.records.specs.declared.Body.TheVariants.{Certificate, Note, Accusation}
use Rattle.records.specs.declared.Record.{Record}
use Rattle.datagram.specs.declared.Datagram.TheVariants as kinds
use Rattle.datagram.specs.Grammar.{read_of}
use Rattle.journal.specs.declared.event.What.TheVariants as told
use Rattle.node_rules.specs.Nodes.{Setting, Node, event_of, state_of}
use Rattle.node_rules.specs.Accusing.{AccusesTheSilent}
use Rattle.node_rules.specs.Refusals.{refusal}
use Rattle.node_rules.specs.Verdicts.{when_all_handled}
use Rattle.node_rules.specs.Vouching.{author_key}
use Rattle.node_rules.specs.Lives.{Delivers, Ticks, call_of}
use Rattle.turn_rules.specs.Turns.{Act, Calls}
use Rattle.turn_rules.specs.Lines.{line_of}
use Rattle.turn_rules.specs.Courses.{life_behind, node_behind}
use Rattle.turn_rules.specs.Removals.{IsTick, VerifiesFor}

-- ## What a note rules out

-- No note that this life accepted before the place is of a later epoch than the accusation against its member.
abbrev pub NoneOutdates : Group → List Event → ℕ → AccBody → Type 0
NoneOutdates g events j a = (i : ℕ) (n : NoteBody) → i < j
    → IsNoteAcceptedAt g (opening []) events i n → ¬ (IsOlderThan a n)

-- Where such a note answers the accusation otherwise, it was accepted again behind the note, and stood since, for the timeout.
abbrev pub OnlyAgain : Group → List Event → ℕ → AccBody → Type 0
OnlyAgain g events j a = (i : ℕ) (n : NoteBody) → i < j
    → IsNoteAcceptedAt g (opening []) events i n → a.accused ≡ n.member
    → is_unanswered_by a n ≡ false → StoodSince g (opening []) events i j a

-- ## Expiries

-- At a tick among these acts, which brings the moment, the accusation expires. No note that the life accepted before outdates
-- it, and where one answers it otherwise, it was accepted again since.
pub record Expires (s : Setting) (start : Node) (acts : List Act) (moment : ℕ) (a : AccBody)
    : Type 0 where
  pub tick : IsTick s start acts moment
  pub expires : ExpiresAt s.group (opening []) (life_behind s start tick.before ++ Passes ∷ [])
      (length (life_behind s start tick.before)) a
  pub none_outdates : NoneOutdates s.group (life_behind s start tick.before ++ Passes ∷ [])
      (length (life_behind s start tick.before)) a
  pub only_again : OnlyAgain s.group (life_behind s start tick.before ++ Passes ∷ [])
      (length (life_behind s start tick.before)) a

-- The line that gives an expiry.
abbrev pub expiry_line : ℕ → AccBody → List ℕ
expiry_line moment a = line_of (record { moment = moment; what = told.Expired a })

-- The line gives an expiry at one of these acts.
pub record GivesExpiry (s : Setting) (start : Node) (acts : List Act) (line : List ℕ)
    : Type 0 where
  pub moment : ℕ
  pub accusation : AccBody
  pub spelled : line ≡ expiry_line moment accusation
  pub expiry : Expires s start acts moment accusation

-- ## What is accepted

-- A life that has come to this accepts the record of this body next. If that is an accusation, no note that the life accepted
-- before outdates it.
abbrev pub AcceptsNext : Group → List Event → Body → Type 0
AcceptsNext g events (Certificate c) = Unit {0}
AcceptsNext g events (Note n) =
    IsNoteAcceptedAt g (opening []) (events ++ Notes n ∷ []) (length events) n
AcceptsNext g events (Accusation a) =
    IsAcceptedAt g (opening []) (events ++ Accuses a ∷ []) (length events) a
    × NoneOutdates g (events ++ Accuses a ∷ []) (length events) a

-- A record of this body is one of a datagram that one of these acts delivers, at this moment of the life. As the acts and the
-- records before it have left the node, it has no fault, and it verifies under its author's key; the life accepts it, and goes on
-- with it.
pub record Accepts (s : Setting) (start : Node) (acts : List Act) (moment : ℕ) (body : Body)
    : Type 0 where
  pub before : List Act
  pub bytes : List ℕ
  pub behind : List Act
  pub delivers : acts ≡ before ++ Calls (Delivers bytes) ∷ behind
  pub at : (state_of s (node_behind s start before)).moment ≡ moment
  pub from : ℕ
  pub earlier : List Record
  pub taken : Record
  pub later : List Record
  pub read : read_of bytes ≡ Ok (kinds.Records from (earlier ++ taken ∷ later))
  pub says : taken.body ≡ body
  pub no_fault : refusal s (when_all_handled s (node_behind s start before) earlier) taken ≡ None
  pub verified : VerifiesFor s
      (author_key s (when_all_handled s (node_behind s start before) earlier) body) taken
  pub accepted : AcceptsNext s.group
      (when_all_handled s (node_behind s start before) earlier).lived body
  pub more : List Event
  pub goes_on : life_behind s start (before ++ Calls (Delivers bytes) ∷ [])
      ≡ ((when_all_handled s (node_behind s start before) earlier).lived
      ++ event_of s body ∷ []) ++ more

-- The line that gives the acceptance of a record of this body.
abbrev pub accepted_line : ℕ → Body → List ℕ
accepted_line moment body = line_of (record { moment = moment; what = told.Took body None })

-- The line gives such an acceptance at one of these acts.
pub record GivesAccepted (s : Setting) (start : Node) (acts : List Act) (line : List ℕ)
    : Type 0 where
  pub moment : ℕ
  pub body : Body
  pub spelled : line ≡ accepted_line moment body
  pub accepted : Accepts s start acts moment body

-- ## What the node signs

-- A tick among these acts, which brings the moment, spends this index on the accusation. It is the node's own, and the accused
-- was silent at this tick. No note that the life accepted before outdates it.
pub record Signs (s : Setting) (start : Node) (acts : List Act) (moment index : ℕ)
    (a : AccBody) : Type 0 where
  pub tick : IsTick s start acts moment
  pub spent : Contains (call_of s (node_behind s start tick.before) Ticks).told
      (record { moment = moment; what = told.Spent index (Accusation a) })
  pub by : a.accuser ≡ s.me
  pub silent : AccusesTheSilent s (node_behind s start tick.before) a
  pub none_outdates : NoneOutdates s.group (life_behind s start tick.before ++ Passes ∷ [])
      (length (life_behind s start tick.before) + 1) a

-- The line that gives the index that is spent on an accusation.
abbrev pub signed_line : ℕ → ℕ → AccBody → List ℕ
signed_line moment index a =
    line_of (record { moment = moment; what = told.Spent index (Accusation a) })

-- The line gives such an accusation at one of these acts.
pub record GivesSigned (s : Setting) (start : Node) (acts : List Act) (line : List ℕ)
    : Type 0 where
  pub moment : ℕ
  pub index : ℕ
  pub accusation : AccBody
  pub spelled : line ≡ signed_line moment index accusation
  pub signs : Signs s start acts moment index accusation
