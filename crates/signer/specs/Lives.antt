-- The lives of a key, and the moves of its store from one tag to another between them: what each found in the store,
-- what it signed, and what a crash left of the store. Over all of them, whatever their tags, no index is spent twice,
-- and no two notes have one epoch.
use Rattle.std.specs.Prelude.{◌≡◌, ℕ, ◌<◌, ◌⊎◌, false, List, [], ◌∷◌, ◌++◌, Result, Ok, Err}
use Rattle.std.specs.List.{AllByRecursion}
use Rattle.ff_ids.specs.declared.Mask.{Mask}
use Rattle.records.specs.declared.Body.{Body}
use Rattle.records.specs.declared.Body.TheVariants.{Certificate, Note, Accusation}
use Rattle.ports.specs.Disk.{Moment, Leaves, Fails, Since, settled, stays}
use Rattle.epoch_store.specs.declared.Stored.{Stored}
use Rattle.epoch_store.specs.declared.seat.Seat.{Seat}
use Rattle.epoch_store.specs.Store.{StoreOf, IsSettled, LeavesOneOf, migrated}
use Rattle.signer.specs.declared.SignFault.{SignFault}
use Rattle.signer.specs.Signing.{SignerState, stored_after, MayComeNext}

-- one signature that was handed out: its index, and what was signed
pub record Spent : Type 0 where
  pub index : ℕ
  pub body : Body

-- what is spent where these bodies are signed one after the other
abbrev pub spent_by : Stored → List Body → List Spent
spent_by s [] = []
spent_by s (b ∷ bodies) = record { index = s.next; body = b } ∷ spent_by (stored_after s b) bodies

-- what the store keeps afterwards
abbrev pub state_after : Stored → List Body → Stored
state_after s [] = s
state_after s (b ∷ bodies) = state_after (stored_after s b) bodies

-- each of them may come next
abbrev pub MayCome : Stored → List Body → Type 0
MayCome s [] = Unit {0}
MayCome s (b ∷ bodies) = MayComeNext s b × MayCome (stored_after s b) bodies

-- the file is a store of this state, or of the one after a further body, whose signature was not handed out
abbrev pub IsLeft : List ℕ → List ℕ → Stored → Type 0
IsLeft tag file s = StoreOf tag file s ⊎ ((tried : Body) × MayComeNext s tried × StoreOf tag file (stored_after s tried))

-- a life of the key: it found the one file, a store of this tag, and left the other, and spent this
pub record Life (before after : List ℕ) (spent : List Spent) : Type 0 where
  pub tag : List ℕ
  pub opened : Stored
  pub bodies : List Body
  pub found : StoreOf tag before opened
  pub may_come : MayCome opened bodies
  pub spent_is : spent ≡ spent_by opened bodies
  pub left : IsLeft tag after (state_after opened bodies)

-- a move of the store to another tag and another mask: it found the one file, a store of the first tag, and left the
-- other, which is still that store or the one that moved; nothing was spent
pub record Move (before after : List ℕ) (spent : List Spent) : Type 0 where
  pub tag : List ℕ
  pub opened : Stored
  pub other : List ℕ
  pub mask : Mask
  pub found : StoreOf tag before opened
  pub spent_none : spent ≡ []
  pub left : StoreOf tag after opened ⊎ StoreOf other after (migrated opened mask)

-- a life or a move that is over: the file that it left, and what it spent
pub record PastLife : Type 0 where
  pub left : List ℕ
  pub spent : List Spent

-- lives and moves one after the other, under whatever tags, each of which finds what the one before has left
abbrev pub AreLives : List ℕ → List PastLife → Type 0
AreLives before [] = Unit {0}
AreLives before (life ∷ later) = (Life before life.left life.spent ⊎ Move before life.left life.spent) × AreLives life.left later

-- what they spent, in order
abbrev pub all_spent : List PastLife → List Spent
all_spent [] = []
all_spent (life ∷ later) = life.spent ++ all_spent later

-- the epoch, if it is a note
abbrev pub epochs_of : Body → List ℕ
epochs_of (Certificate c) = []
epochs_of (Note n) = n.epoch ∷ []
epochs_of (Accusation a) = []

abbrev pub indexes : List Spent → List ℕ
indexes [] = []
indexes (s ∷ rest) = s.index ∷ indexes rest

abbrev pub note_epochs : List Spent → List ℕ
note_epochs [] = []
note_epochs (s ∷ rest) = epochs_of s.body ++ note_epochs rest

-- each number is below all later ones
abbrev pub IsRising : List ℕ → Type 0
IsRising [] = Unit {0}
IsRising (x ∷ xs) = AllByRecursion (λ y. x < y) xs × IsRising xs

-- the indexes rise strictly, and so do the epochs of the notes
pub record IsOnce (spent : List Spent) : Type 0 where
  pub indexes_rise : IsRising (indexes spent)
  pub epochs_rise : IsRising (note_epochs spent)

-- over any lives and moves, whatever each of them found and left
abbrev pub OnceOverLives : Type 0
OnceOverLives = (before : List ℕ) (lives : List PastLife) → AreLives before lives → IsOnce (all_spent lives)

-- the file that the last of these lives left
abbrev pub left_by : List ℕ → List PastLife → List ℕ
left_by before [] = before
left_by before (life ∷ later) = left_by life.left later

-- lives and moves from the one file to the other, which spent this in all; the last file is a store of this tag
pub record Lived (tag before after : List ℕ) (spent : List Spent) : Type 0 where
  pub lives : List PastLife
  pub are : AreLives before lives
  pub left : after ≡ left_by before lives
  pub spent_is : spent ≡ all_spent lives
  pub store : (state : Stored) × StoreOf tag after state

-- each file that a crash at this moment may leave is a store of this tag, and ends lives that began with the one file and
-- spent this
abbrev pub EndsLives : List ℕ → List ℕ → List Spent → Moment → Type 0
EndsLives tag before spent moment = (c : List ℕ) → Leaves moment c → Lived tag before c spent

-- a crash now does so; the file is modelled
abbrev pub EndsNow : List ℕ → List ℕ → List Spent → List Moment → Type 0
EndsNow tag before spent [] = ⊥
EndsNow tag before spent (now ∷ past) = EndsLives tag before spent now

-- lives of which the last, in a store of this tag, is not over: they began with this file and have spent this so far;
-- unless the disk has failed, the file is settled with what the signer keeps; and a crash ends them with exactly this spent
pub record IsLiving (tag before : List ℕ) (spent : List Spent) (s : SignerState) (moments : List Moment) : Type 0 where
  pub earlier : List PastLife
  pub opened : Stored
  pub bodies : List Body
  pub are : AreLives before earlier
  pub found : StoreOf tag (left_by before earlier) opened
  pub may_come : MayCome opened bodies
  pub spent_is : spent ≡ all_spent earlier ++ spent_by opened bodies
  pub state : s.closed ≡ false → s.state ≡ state_after opened bodies
  pub settled : s.closed ≡ false → IsSettled tag s.state s.seat moments
  pub ends : EndsNow tag before spent moments

-- what a call spent, by its answer
abbrev pub spent_in : {T : Type 0} → SignerState → Body → Result T SignFault → List Spent
spent_in s body (Ok value) = record { index = s.state.next; body = body } ∷ []
spent_in s body (Err fault) = []

-- the first is a front of the second
pub record IsPrefix {X : Type 0} (front whole : List X) : Type 0 where
  pub more : List X
  pub is : whole ≡ front ++ more

-- each file that a crash at this moment may leave ends lives that have spent what came before, and a front of this
pub record EndsWithin (tag before : List ℕ) (spent more : List Spent) (moment : Moment) : Type 0 where
  pub done : List Spent
  pub front : IsPrefix done more
  pub ends : EndsLives tag before (spent ++ done) moment

-- the lives of a key go on, and this is spent in the end: at each new moment a front of it is
pub record LivesOn (more : List Spent) (s later : SignerState) (older newer : List Moment) : Type 0 where
  pub lives : (tag before : List ℕ) (spent : List Spent) → IsLiving tag before spent s older → IsLiving tag before (spent ++ more) later newer
  pub any_moment : (tag before : List ℕ) (spent : List Spent) → IsLiving tag before spent s older → Since (EndsWithin tag before spent more) older newer

-- what a key has spent is kept over whatever comes between two lives: where a crash now ends lives that spent this,
-- it does so at each moment of an opening, whatever the opening answers
abbrev pub KeptByOpening : Type 0
KeptByOpening = (tag before : List ℕ) (spent : List Spent) (older newer : List Moment) → EndsNow tag before spent older
    → Fails stays older newer → Since (EndsLives tag before spent) older newer × EndsNow tag before spent newer

-- and once the disk came up with a file that a crash has left
abbrev pub KeptByCrash : Type 0
KeptByCrash = (tag before : List ℕ) (spent : List Spent) (now : Moment) (past : List Moment) (c : List ℕ)
    → EndsNow tag before spent (now ∷ past) → Leaves now c → EndsNow tag before spent (settled c ∷ [])

-- each file that a crash at this moment may leave ends such lives, under the one tag or the other
abbrev pub EndsEither : List ℕ → List ℕ → List ℕ → List Spent → Moment → Type 0
EndsEither tag other before spent moment = (c : List ℕ) → Leaves moment c → Lived tag before c spent ⊎ Lived other before c spent

-- the store is moved from the one tag to the other, and nothing spent: where crashes ended lives under the one, each of them
-- does so at each new moment under the one or the other
abbrev pub MovesLives : List ℕ → List ℕ → List Moment → List Moment → Type 0
MovesLives tag other older newer = (before : List ℕ) (spent : List Spent) → EndsNow tag before spent older
    → Since (EndsEither tag other before spent) older newer

-- and in the end under the other
abbrev pub MovedLives : List ℕ → List ℕ → List Moment → List Moment → Type 0
MovedLives tag other older newer = (before : List ℕ) (spent : List Spent) → EndsNow tag before spent older → EndsNow other before spent newer

-- so it is over what the move of a store does, and in the end where the store is settled as the one that moved
abbrev pub KeptByMove : Type 0
KeptByMove = (tag other : List ℕ) (opened : Stored) (seat : Seat) (mask : Mask) (older newer : List Moment)
    → IsSettled tag opened seat older → Since (LeavesOneOf tag opened other (migrated opened mask)) older newer
    → MovesLives tag other older newer
    × ((behind : Seat) → IsSettled other (migrated opened mask) behind newer → MovedLives tag other older newer)

-- once the disk came up with a file that a crash within a move has left, the lives have ended under the one tag or the other
abbrev pub KeptBehindMove : Type 0
KeptBehindMove = (tag other before : List ℕ) (spent : List Spent) (now : Moment) (c : List ℕ)
    → EndsEither tag other before spent now → Leaves now c
    → EndsNow tag before spent (settled c ∷ []) ⊎ EndsNow other before spent (settled c ∷ [])

-- nothing is spent where the file is a settled store and no life has begun
abbrev pub NothingSpent : Type 0
NothingSpent = (tag : List ℕ) (state : Stored) (now : Moment) (past : List Moment) → now ≡ settled now.image → StoreOf tag now.image state
    → EndsNow tag now.image [] (now ∷ past)

-- and what was spent, was spent once, over whatever lives and moves
abbrev pub SpentOnce : Type 0
SpentOnce = (tag before after : List ℕ) (spent : List Spent) → Lived tag before after spent → IsOnce spent
