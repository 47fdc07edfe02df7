-- What was reported of spending, sending and accepting is all that was spent, sent and accepted.
use Rattle.std.specs.Prelude.{◌≡◌, ℕ, true, ◌==◌, if◌then◌else◌, List, ◌∷◌, ◌++◌, Contains, Option, Some, None, filter, filter_map, flat_map, map, slice_get, take}
use Rattle.ff_ids.specs.Steps.{Event, Notes, Accuses}
use Rattle.records.specs.declared.Body.{Body}
use Rattle.records.specs.declared.Body.TheVariants.{Certificate, Note, Accusation}
use Rattle.signer.specs.Lives.{Spent, IsOnce}
use Rattle.journal.specs.declared.event.What as whats
use Rattle.journal.specs.declared.event.What.TheVariants as happened
use Rattle.node_rules.specs.Sending.{is_sent, sendings}
use Rattle.world_rules.specs.Settings.{Setting, Signed, by_authority, is_node}
use Rattle.world_rules.specs.Worlds.{Life, World, lives_of, spent_of}
use Rattle.world_rules.specs.Steps.{NodeEvent}
use Rattle.world_rules.specs.Laws.{IsSetting, Reached}

-- ---- what is spent

-- What an event reports as spent.
abbrev pub spent_in : whats.What → Option Spent
spent_in (happened.Spent index body) = Some (record { index = index; body = body })
spent_in what = None

abbrev pub spent_if_told : ℕ → NodeEvent → Option Spent
spent_if_told m t = if t.who == m then spent_in t.event.what else None

-- What was reported of a node as spent, in order over all its lives, is what its key has spent.
abbrev pub IsSpentAsTold : World → List NodeEvent → ℕ → Type 0
IsSpentAsTold w told m = filter_map (spent_if_told m) told ≡ spent_of w (Some m)

abbrev pub SpendingIsTold : Type 0
SpendingIsTold = (s : Setting) (w : World) (told : List NodeEvent) (m : ℕ) → IsSetting s → Reached s w told → is_node s m ≡ true → IsSpentAsTold w told m

-- ---- what is sent

-- What was reported as sent, whoever sent it, is all datagrams in order, each with its number, from 0 on.
abbrev pub IsSentAsTold : World → List NodeEvent → Type 0
IsSentAsTold w told = map (λ t. t.event.what) (filter (λ t. is_sent t.event.what) told) ≡ sendings 0 w.sent

abbrev pub SendingIsTold : Type 0
SendingIsTold = (s : Setting) (w : World) (told : List NodeEvent) → Reached s w told → IsSentAsTold w told

-- ---- what comes into lives

-- The note or the accusation that an event of a life brings.
abbrev pub said_in : Event → Option Body
said_in (Notes n) = Some (Note n)
said_in (Accuses a) = Some (Accusation a)
said_in event = None

abbrev pub statement : Body → Option Body
statement (Certificate c) = None
statement body = Some body

-- The note or the accusation that is reported as accepted, or as the node's own.
abbrev pub took_in : whats.What → Option Body
took_in (happened.Took body None) = statement body
took_in (happened.Spent index body) = statement body
took_in what = None

abbrev pub took_if_told : ℕ → NodeEvent → Option Body
took_if_told m t = if t.who == m then took_in t.event.what else None

-- What was reported of a node as accepted or as its own, in order, is what came into its lives, one after another.
abbrev pub IsLivedAsTold : World → List NodeEvent → ℕ → Type 0
IsLivedAsTold w told m = filter_map (took_if_told m) told ≡ flat_map (λ life. filter_map said_in life.node.lived) (lives_of w m)

abbrev pub AcceptedIsLived : Type 0
AcceptedIsLived = (s : Setting) (w : World) (told : List NodeEvent) (m : ℕ) → Reached s w told → IsLivedAsTold w told m

-- ---- where a place of a life is reported

-- What is reported here came into the node's life at this place. Till then as much was reported of the node as had come into its
-- lives before that one, and into that one before the place.
pub record IsToldHere (w : World) (who : ℕ) (life : Life) (place : ℕ) (body : Body) (earlier : List NodeEvent) (t : NodeEvent) : Type 0 where
  pub past : List Life
  pub rest : List Life
  pub lives : lives_of w who ≡ past ++ life ∷ rest
  pub event : Event
  pub there : slice_get life.node.lived place ≡ Some event
  pub says : said_in event ≡ Some body
  pub reports : took_if_told who t ≡ Some body
  pub till : filter_map (took_if_told who) earlier
      ≡ flat_map (λ l. filter_map said_in l.node.lived) past ++ filter_map said_in (take place life.node.lived)

-- The note or accusation at this place of the life is reported behind these events.
pub record IsToldBehind (w : World) (told : List NodeEvent) (who : ℕ) (life : Life) (place : ℕ) (body : Body) : Type 0 where
  pub earlier : List NodeEvent
  pub report : NodeEvent
  pub later : List NodeEvent
  pub among : told ≡ earlier ++ report ∷ later
  pub here : IsToldHere w who life place body earlier report

-- The member's key spent this index on the body, at this moment.
abbrev pub spending : ℕ → ℕ → ℕ → Body → NodeEvent
spending who moment index body = record { who = who; event = record { moment = moment; what = happened.Spent index body } }

-- Among these events it is reported that the member's key spent this index on the note or accusation, which so came into one of its
-- lives, at this place.
pub record IsSignedIn (w : World) (told : List NodeEvent) (who index : ℕ) (body : Body) : Type 0 where
  pub moment : ℕ
  pub before : List NodeEvent
  pub behind : List NodeEvent
  pub among : told ≡ before ++ spending who moment index body ∷ behind
  pub life : Life
  pub place : ℕ
  pub here : IsToldHere w who life place body before (spending who moment index body)

-- ---- what was signed first

-- It is reported that the member's key spent an index on the body.
pub record IsToldSigned (told : List NodeEvent) (who : ℕ) (body : Body) : Type 0 where
  pub moment : ℕ
  pub index : ℕ
  pub among : Contains told (spending who moment index body)

-- A note or an accusation that is accepted, and is a node's, was reported as signed by it in the events before.
abbrev pub WasSignedFirst : Setting → List NodeEvent → whats.What → Type 0
WasSignedFirst s earlier (happened.Took (Note n) None) = is_node s n.member ≡ true → IsToldSigned earlier n.member (Note n)
WasSignedFirst s earlier (happened.Took (Accusation a) None) = is_node s a.accuser ≡ true → IsToldSigned earlier a.accuser (Accusation a)
WasSignedFirst s earlier what = Unit {0}

-- So is each that is reported as accepted, of the events before that report.
abbrev pub SignsFirst : Setting → List NodeEvent → Type 0
SignsFirst s told = (earlier later : List NodeEvent) (t : NodeEvent) → told ≡ earlier ++ t ∷ later → WasSignedFirst s earlier t.event.what

abbrev pub AcceptedWasSignedFirst : Type 0
AcceptedWasSignedFirst = (s : Setting) (w : World) (told : List NodeEvent) → IsSetting s → Reached s w told → SignsFirst s told

-- ---- what the authority has signed

abbrev pub spent_as : Signed → Spent
spent_as x = record { index = x.index; body = x.body }

-- The authority's key has spent an index on each member's certificate, and nothing since; and each index once.
pub record IsIssued (s : Setting) (w : World) : Type 0 where
  pub certificates : spent_of w None ≡ map spent_as (by_authority s)
  pub once : IsOnce (spent_of w None)

abbrev pub AuthoritySpendsOnce : Type 0
AuthoritySpendsOnce = (s : Setting) (w : World) (told : List NodeEvent) → Reached s w told → IsIssued s w
