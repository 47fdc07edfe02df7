-- Which records the accusations and the leaving notes in a life of a world have come of.
use Rattle.std.specs.Prelude.{◌≡◌, ◌⊎◌, ℕ, List, ◌∷◌, ◌++◌, length, None, Some, Ok}
use Rattle.ff_ids.specs.declared.AccBody.{AccBody}
use Rattle.ff_ids.specs.declared.NoteBody.{NoteBody}
use Rattle.records.specs.declared.Body.TheVariants.{Accusation, Note}
use Rattle.records.specs.declared.Record.{Record}
use Rattle.datagram.specs.declared.Datagram.TheVariants as kinds
use Rattle.datagram.specs.Grammar.{read_of}
use Rattle.node_rules.specs.Nodes as node
use Rattle.node_rules.specs.Refusals.{refusal}
use Rattle.node_rules.specs.Lives.{Input, Delivers}
use Rattle.node_rules.specs.Verdicts.{when_all_handled}
use Rattle.world_rules.specs.Settings.{Setting, record_of, setting_of}
use Rattle.world_rules.specs.Worlds.{Life, World}
use Rattle.world_laws.specs.Signing.{HasSpentOn, SignsAtTick, SignsLeaving, node_after}

-- What the node has come to behind these calls and these records of the next one.
abbrev pub node_behind : Setting → ℕ → Life → List Input → List Record → node.Node
node_behind s m life before earlier = when_all_handled (setting_of s m) (node_after s m life.found before) earlier

-- The record is one of a datagram that was delivered in the life. As the calls and the records before it had left the
-- node, so many events had come into the life, and the record had no fault.
pub record IsAcceptedBehind (s : Setting) (m : ℕ) (life : Life) (events : ℕ) (r : Record) : Type 0 where
  pub before : List Input
  pub bytes : List ℕ
  pub behind : List Input
  pub delivered : life.inputs ≡ before ++ Delivers bytes ∷ behind
  pub from : ℕ
  pub earlier : List Record
  pub later : List Record
  pub read : read_of bytes ≡ Ok (kinds.Records from (earlier ++ r ∷ later))
  pub at : length (node_behind s m life before earlier).lived ≡ events
  pub no_fault : refusal (setting_of s m) (node_behind s m life before earlier) r ≡ None

-- The accusation is the node's own, and came in at this place of the life at a tick at which the accused was silent; the tick
-- signed it with this index, and the record has the signature of that index.
pub record IsOwnRecord (s : Setting) (w : World) (m : ℕ) (life : Life) (place : ℕ) (a : AccBody) (r : Record) : Type 0 where
  pub by : a.accuser ≡ m
  pub index : ℕ
  pub at_tick : SignsAtTick s m life place index a
  pub spent : HasSpentOn w (Some m) index (Accusation a)
  pub signed : r ≡ record_of s (record { who = Some m; index = index; body = Accusation a })

-- The accusation at this place of the life has come of this record: it was accepted there, or it is the node's own.
abbrev pub HasComeOf : Setting → World → ℕ → Life → ℕ → AccBody → Record → Type 0
HasComeOf s w m life place a r = IsAcceptedBehind s m life place r ⊎ IsOwnRecord s w m life place a r

-- ---- leaving notes

-- The note is the node's own, and came in at this place of the life as the node was called to leave; that call signed it with
-- this index, and the record has the signature of that index.
pub record IsOwnLeaving (s : Setting) (w : World) (m : ℕ) (life : Life) (place : ℕ) (n : NoteBody) (r : Record) : Type 0 where
  pub index : ℕ
  pub leaves : SignsLeaving s m life place index n
  pub spent : HasSpentOn w (Some m) index (Note n)
  pub signed : r ≡ record_of s (record { who = Some m; index = index; body = Note n })

-- The leaving note at this place of the life has come of this record: it was accepted there, or it is the node's own.
abbrev pub HasLeftBy : Setting → World → ℕ → Life → ℕ → NoteBody → Record → Type 0
HasLeftBy s w m life place n r = IsAcceptedBehind s m life place r ⊎ IsOwnLeaving s w m life place n r
