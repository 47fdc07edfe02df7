-- What the lines so far have shown of a life that they leave open: an audit learns it line by line.
use Rattle.std.specs.Prelude.{◌≡◌, ℕ, ◌==◌, Bool, true, false, ◌&&◌, if◌then◌else◌, List, [], ◌∷◌, ◌++◌, Option, Some, None, replicate, unwrap_or}
use Rattle.std.specs.List.{AllByRecursion, slice_get}
use Rattle.records.specs.declared.Body.{Body}
use Rattle.journal.specs.declared.turn.Turn.{Turn}
use Rattle.audit_rules.specs.declared.Head.{Head}
use Rattle.audit_rules.specs.Heads.{own_length}
use Rattle.audit_rules.specs.Shown.{Source}
use Rattle.audit_laws.specs.declared.Signed.{Signed}
use Rattle.audit_laws.specs.Bodies.{is_same_body}

-- The turns whose lines came, in order; of each datagram whose fate is known whether it was lost, in order; the nonces that
-- pings showed, in order; the own signatures that were shown; and whether the member has left.
pub record Learned : Type 0 where
  pub turns : List Turn
  pub lost : List Bool
  pub nonces : List ℕ
  pub signed : List Signed
  pub left : Bool

abbrev pub nothing_learned : Learned
nothing_learned = record { turns = []; lost = []; nonces = []; signed = []; left = false }

-- ---- own signatures

abbrev pub is_of : ℕ → Body → Signed → Bool
is_of index body x = (x.index == index) && is_same_body x.body body

-- the signature that was shown of this body with this index
abbrev pub shown_of : ℕ → Body → List Signed → Option (List ℕ)
shown_of index body [] = None
shown_of index body (x ∷ signed) = if is_of index body x then Some x.signature else shown_of index body signed

-- The signatures are those that were shown.
abbrev pub AreShown : (ℕ → Body → List ℕ) → List Signed → Type 0
AreShown signature signed = AllByRecursion (λ x. signature x.index x.body ≡ x.signature) signed

-- Of each body with an index one signature was shown.
abbrev pub AreOnce : List Signed → Type 0
AreOnce [] = Unit {0}
AreOnce (x ∷ signed) = AllByRecursion (λ y. is_of y.index y.body x ≡ false) signed × AreOnce signed

-- ---- what a life has to do with it

-- Behind these turns others may come, unless the member has left.
pub record GoesOn (turns : List Turn) (left : Bool) (w : Source) : Type 0 where
  pub more : List Turn
  pub turns_are : w.turns ≡ turns ++ more
  pub none : left ≡ true → more ≡ []
  pub leaves : left ≡ true → w.leaves ≡ true

-- The life is one of which this may have been learned.
pub record Extends (k : Learned) (w : Source) : Type 0 where
  pub turns : GoesOn k.turns k.left w
  pub lost : (number : ℕ) (fate : Bool) → slice_get k.lost number ≡ Some fate → w.lost number ≡ fate
  pub nonces : (place nonce : ℕ) → slice_get k.nonces place ≡ Some nonce → w.nonces place ≡ nonce
  pub signed : AreShown w.signature k.signed

-- Whether it is still to leave.
abbrev pub is_to_leave : Learned → Source → Bool
is_to_leave k w = if k.left then false else w.leaves

-- ---- one such life

-- Nothing else happens in it: no other turn comes, nothing else is lost. A signature that no line has shown is of zeros.
abbrev pub source_of : Head → Learned → Source
source_of h k =
    record {
      turns = k.turns;
      lost = λ number. unwrap_or (slice_get k.lost number) false;
      leaves = k.left;
      nonces = λ place. unwrap_or (slice_get k.nonces place) 0;
      signature = λ index body. unwrap_or (shown_of index body k.signed) (replicate (own_length h) 0);
    }

-- ---- more is learned

-- the line of this turn came
abbrev pub with_turn : Turn → Learned → Learned
with_turn turn k = record k { turns = k.turns ++ turn ∷ [] }

-- the fate of the next datagram
abbrev pub with_fate : Bool → Learned → Learned
with_fate fate k = record k { lost = k.lost ++ fate ∷ [] }

-- the nonce of the next ping
abbrev pub with_ping : ℕ → Learned → Learned
with_ping nonce k = record k { nonces = k.nonces ++ nonce ∷ [] }

-- these own signatures were shown
abbrev pub with_signed : List Signed → Learned → Learned
with_signed signed k = record k { signed = signed }

-- the member has left
abbrev pub with_leaving : Learned → Learned
with_leaving k = record k { left = true }
