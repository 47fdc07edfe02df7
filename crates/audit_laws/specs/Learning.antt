-- What each thing that is learned rules out.
use Rattle.std.specs.Prelude.{◌≡◌, ℕ, Bool, true, false, List, [], ◌∷◌, length}
use Rattle.journal.specs.declared.turn.Turn.{Turn}
use Rattle.audit_rules.specs.declared.Head.{Head}
use Rattle.audit_rules.specs.Heads.{MayBegin}
use Rattle.audit_rules.specs.Shown.{IsSource, Source}
use Rattle.audit_laws.specs.declared.Signed.{Signed}
use Rattle.audit_laws.specs.Learned.{AreOnce, AreShown, Extends, Learned, nothing_learned, source_of, with_fate, with_leaving, with_ping, with_signed, with_turn}

-- ---- the fate of a datagram

pub record FateIsLearned (k : Learned) (fate : Bool) (w : Source) : Type 0 where
  pub before : Extends (with_fate fate k) w → Extends k w
  pub so : Extends (with_fate fate k) w → w.lost (length k.lost) ≡ fate
  pub from : Extends k w → w.lost (length k.lost) ≡ fate → Extends (with_fate fate k) w

abbrev pub FatesAreLearned : Type 0
FatesAreLearned = (k : Learned) (fate : Bool) (w : Source) → FateIsLearned k fate w

-- ---- the nonce of a ping

pub record PingIsLearned (k : Learned) (nonce : ℕ) (w : Source) : Type 0 where
  pub before : Extends (with_ping nonce k) w → Extends k w
  pub so : Extends (with_ping nonce k) w → w.nonces (length k.nonces) ≡ nonce
  pub from : Extends k w → w.nonces (length k.nonces) ≡ nonce → Extends (with_ping nonce k) w

abbrev pub PingsAreLearned : Type 0
PingsAreLearned = (k : Learned) (nonce : ℕ) (w : Source) → PingIsLearned k nonce w

-- ---- a turn

-- The turn is the next, and the others come behind it.
pub record HasNext (k : Learned) (turn : Turn) (w : Source) (e : Extends (with_turn turn k) w) : Type 0 where
  pub before : Extends k w
  pub more_is : before.turns.more ≡ turn ∷ e.turns.more

abbrev pub TurnsAreLearned : Type 0
TurnsAreLearned = (k : Learned) (turn : Turn) (w : Source) → k.left ≡ false → (e : Extends (with_turn turn k) w) → HasNext k turn w e

pub record IsWithTurn (k : Learned) (turn : Turn) (w : Source) (more : List Turn) : Type 0 where
  pub extends : Extends (with_turn turn k) w
  pub more_is : extends.turns.more ≡ more

abbrev pub TurnsAreAdded : Type 0
TurnsAreAdded = (k : Learned) (turn : Turn) (w : Source) (more : List Turn) → k.left ≡ false → (e : Extends k w) → e.turns.more ≡ turn ∷ more → IsWithTurn k turn w more

-- ---- the leaving

pub record IsToLeave (k : Learned) (w : Source) (e : Extends k w) : Type 0 where
  pub none : e.turns.more ≡ []
  pub leaves : w.leaves ≡ true

pub record HasLeft (k : Learned) (w : Source) (e : Extends (with_leaving k) w) : Type 0 where
  pub before : Extends k w
  pub is_to : IsToLeave k w before

abbrev pub LeavingIsLearned : Type 0
LeavingIsLearned = (k : Learned) (w : Source) (e : Extends (with_leaving k) w) → HasLeft k w e

abbrev pub LeavingIsAdded : Type 0
LeavingIsAdded = (k : Learned) (w : Source) (e : Extends k w) → IsToLeave k w e → Extends (with_leaving k) w

-- ---- own signatures

abbrev pub SignaturesAreLearned : Type 0
SignaturesAreLearned = (k : Learned) (signed : List Signed) (w : Source) → Extends k w → AreShown w.signature signed → Extends (with_signed signed k) w

-- ---- one such life

-- Where of each body with an index one signature was shown, the life in which nothing else happens is one of which this was learned.
abbrev pub OneIsTheLeast : Type 0
OneIsTheLeast = (h : Head) (k : Learned) → AreOnce k.signed → Extends k (source_of h k)

-- Nothing was learned of a life that may begin.
abbrev pub OneMayBegin : Type 0
OneMayBegin = (h : Head) → MayBegin h → IsSource h (source_of h nothing_learned)
