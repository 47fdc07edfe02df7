-- No index and no epoch comes twice, over any lives.
use Rattle.std.proofs.Common.{◌≡◌, ℕ, ◌+◌, ◌<◌, ◌≤◌, ◌⊎◌, inl, inr, List, [], ◌∷◌, ◌++◌, refl, sym, ap, ◌∙◌, subst, arith, append_assoc}
use Rattle.std.specs.List.{AllByRecursion}
use Rattle.records.specs.declared.Body.{Body}
use Rattle.records.specs.declared.Body.TheVariants.{Certificate, Note, Accusation}
use Rattle.epoch_store.specs.declared.Stored.{Stored}
use Rattle.epoch_store.specs.Store.{StoreOf, migrated}
use Rattle.signer.specs.Signing.{stored_after, MayComeNext}
use Rattle.signer.specs.Lives.{Spent, spent_by, state_after, MayCome, IsLeft, Life, Move, PastLife, AreLives, all_spent, epochs_of, indexes, left_by, note_epochs, IsRising, OnceOverLives, SpentOnce}
use Rattle.epoch_store.proofs.FoundLemmas.{one_store}

-- each number is in this range
abbrev Between : ℕ → ℕ → List ℕ → Type 0
Between low high xs = AllByRecursion (λ x. (low ≤ x) × (x < high)) xs

wider : (low high a b : ℕ) (xs : List ℕ) → a ≤ low → high ≤ b → Between low high xs → Between a b xs
wider low high a b [] below above all = tt
wider low high a b (x ∷ xs) below above all = ((omega (arith, all.0.0), omega (arith, all.0.1)), wider low high a b xs below above all.1)

above_all : (x low high : ℕ) (xs : List ℕ) → x < low → Between low high xs → AllByRecursion (λ y. x < y) xs
above_all x low high [] below all = tt
above_all x low high (y ∷ xs) below all = (omega (arith, all.0.0), above_all x low high xs below all.1)

all-append : (P : ℕ → Type 0) (xs ys : List ℕ) → AllByRecursion P xs → AllByRecursion P ys → AllByRecursion P (xs ++ ys)
all-append P [] ys first second = second
all-append P (x ∷ xs) ys first second = (first.0, all-append P xs ys first.1 second)

-- what rises below a number, and then what rises from it on
rising-append : (low middle high : ℕ) (xs ys : List ℕ) → Between low middle xs → Between middle high ys → IsRising xs → IsRising ys → IsRising (xs ++ ys)
rising-append low middle high [] ys first second rise more = more
rising-append low middle high (x ∷ xs) ys first second rise more =
    (all-append (λ y. x < y) xs ys rise.0 (above_all x middle high ys first.0.1 second), rising-append low middle high xs ys first.1 second rise.1 more)

next_rises : (s : Stored) (b : Body) → (stored_after s b).next ≡ s.next + 1
next_rises s (Certificate c) = refl
next_rises s (Note n) = refl
next_rises s (Accusation a) = refl

epoch_stays : (s : Stored) (b : Body) → MayComeNext s b → s.epoch ≤ (stored_after s b).epoch
epoch_stays s (Certificate c) next = omega arith
epoch_stays s (Note n) next = omega (arith, next.0)
epoch_stays s (Accusation a) next = omega arith

-- what one life spends lies between what it finds and what it leaves
pub record Spends (s t : Stored) (spent : List Spent) : Type 0 where
  pub next : s.next ≤ t.next
  pub epoch : s.epoch ≤ t.epoch
  pub within : Between s.next t.next (indexes spent)
  pub rising : IsRising (indexes spent)
  pub epochs_within : Between (s.epoch + 1) (t.epoch + 1) (note_epochs spent)
  pub epochs_rising : IsRising (note_epochs spent)

epoch_first : (s t : Stored) (b : Body) (rest : List ℕ) → MayComeNext s b → (stored_after s b).epoch ≤ t.epoch → Between ((stored_after s b).epoch + 1) (t.epoch + 1) rest → Between (s.epoch + 1) (t.epoch + 1) (epochs_of b ++ rest)
epoch_first s t (Certificate c) rest next above all = all
epoch_first s t (Note n) rest next above all = ((omega (arith, next.0), omega (arith, next.0)), wider (n.epoch + 1) (t.epoch + 1) (s.epoch + 1) (t.epoch + 1) rest (omega (arith, next.0)) (omega arith) all)
epoch_first s t (Accusation a) rest next above all = all

epoch_rises : (s t : Stored) (b : Body) (rest : List ℕ) → Between ((stored_after s b).epoch + 1) (t.epoch + 1) rest → IsRising rest → IsRising (epochs_of b ++ rest)
epoch_rises s t (Certificate c) rest all rise = rise
epoch_rises s t (Note n) rest all rise = (above_all n.epoch (n.epoch + 1) (t.epoch + 1) rest (omega arith) all, rise)
epoch_rises s t (Accusation a) rest all rise = rise

spends : (s : Stored) (bodies : List Body) → MayCome s bodies → Spends s (state_after s bodies) (spent_by s bodies)
spends s [] may = record { next = omega arith; epoch = omega arith; within = tt; rising = tt; epochs_within = tt; epochs_rising = tt }
spends s (b ∷ bodies) may =
    let rest = spends (stored_after s b) bodies may.1 in
    let t = state_after (stored_after s b) bodies in
    let step = next_rises s b in
    let stays = epoch_stays s b may.0 in
    record {
      next = omega (arith, step, rest.next);
      epoch = omega (arith, stays, rest.epoch);
      within = ((omega arith, omega (arith, step, rest.next)), wider (stored_after s b).next t.next s.next t.next _ (omega (arith, step)) (omega arith) rest.within);
      rising = (above_all s.next (stored_after s b).next t.next _ (omega (arith, step)) rest.within, rest.rising);
      epochs_within = epoch_first s t b _ may.0 rest.epoch rest.epochs_within;
      epochs_rising = epoch_rises s t b _ rest.epochs_within rest.epochs_rising;
    }

indexes-append : (a b : List Spent) → indexes (a ++ b) ≡ indexes a ++ indexes b
indexes-append [] b = refl
indexes-append (s ∷ a) b = ap (λ (xs : List ℕ). s.index ∷ xs) (indexes-append a b)

epochs-append : (a b : List Spent) → note_epochs (a ++ b) ≡ note_epochs a ++ note_epochs b
epochs-append [] b = refl
epochs-append (s ∷ a) b = ap (λ (xs : List ℕ). epochs_of s.body ++ xs) (epochs-append a b) ∙ sym (append_assoc (epochs_of s.body) (note_epochs a) (note_epochs b))

-- what is left stands for no less than what was signed
pub record LeftAt (file : List ℕ) (s : Stored) : Type 0 where
  pub tag : List ℕ
  pub state : Stored
  pub store : StoreOf tag file state
  pub next : s.next ≤ state.next
  pub epoch : s.epoch ≤ state.epoch

left_at : (tag file : List ℕ) (s : Stored) → IsLeft tag file s → LeftAt file s
left_at tag file s (inl store) = record { tag = tag; state = s; store = store; next = omega arith; epoch = omega arith }
left_at tag file s (inr tried) = record {
  tag = tag;
  state = stored_after s tried.0;
  store = tried.2;
  next = omega (arith, next_rises s tried.0);
  epoch = epoch_stays s tried.0 tried.1;
}

-- what later lives spend lies above what the first of them finds
pub record SpendsAbove (s : Stored) (spent : List Spent) : Type 0 where
  pub end : Stored
  pub spends_so : Spends s end spent

joined : (a b c d : Stored) (first second : List Spent) → Spends a b first → b.next ≤ c.next → b.epoch ≤ c.epoch → Spends c d second → Spends a d (first ++ second)
joined a b c d first second x next epoch y = record {
  next = omega (arith, x.next, y.next);
  epoch = omega (arith, x.epoch, y.epoch);
  within = rw (indexes-append first second) (all-append _ (indexes first) (indexes second) (wider a.next b.next a.next d.next (indexes first) (omega arith) (omega (arith, y.next)) x.within) (wider c.next d.next a.next d.next (indexes second) (omega (arith, x.next)) (omega arith) y.within));
  rising = rw (indexes-append first second) (rising-append a.next b.next d.next (indexes first) (indexes second) x.within (wider c.next d.next b.next d.next (indexes second) next (omega arith) y.within) x.rising y.rising);
  epochs_within = rw (epochs-append first second) (all-append _ (note_epochs first) (note_epochs second) (wider (a.epoch + 1) (b.epoch + 1) (a.epoch + 1) (d.epoch + 1) (note_epochs first) (omega arith) (omega (arith, y.epoch)) x.epochs_within) (wider (c.epoch + 1) (d.epoch + 1) (a.epoch + 1) (d.epoch + 1) (note_epochs second) (omega (arith, x.epoch)) (omega arith) y.epochs_within));
  epochs_rising = rw (epochs-append first second) (rising-append (a.epoch + 1) (b.epoch + 1) (d.epoch + 1) (note_epochs first) (note_epochs second) x.epochs_within (wider (c.epoch + 1) (d.epoch + 1) (b.epoch + 1) (d.epoch + 1) (note_epochs second) (omega arith) (omega arith) y.epochs_within) x.epochs_rising y.epochs_rising);
}

-- what was found, what was spent from there on, and what was left
pub record Passes (before after : List ℕ) (spent : List Spent) : Type 0 where
  pub tag : List ℕ
  pub opened : Stored
  pub found : StoreOf tag before opened
  pub end : Stored
  pub spends_so : Spends opened end spent
  pub left : LeftAt after end

pub nothing : (s : Stored) → Spends s s []
nothing s = record { next = omega arith; epoch = omega arith; within = tt; rising = tt; epochs_within = tt; epochs_rising = tt }

passes : (before after : List ℕ) (spent : List Spent) → Life before after spent ⊎ Move before after spent → Passes before after spent
passes before after spent (inl life) = record {
  tag = life.tag;
  opened = life.opened;
  found = life.found;
  end = state_after life.opened life.bodies;
  spends_so = rw life.spent_is (spends life.opened life.bodies life.may_come);
  left = left_at life.tag after (state_after life.opened life.bodies) life.left;
}
passes before after spent (inr move) = record {
  tag = move.tag;
  opened = move.opened;
  found = move.found;
  end = move.opened;
  spends_so = rw move.spent_none (nothing move.opened);
  left = elim move.left [
    | inl still ↦ record { tag = move.tag; state = move.opened; store = still; next = omega arith; epoch = omega arith }
    | inr moved ↦ record { tag = move.other; state = migrated move.opened move.mask; store = moved; next = omega arith; epoch = omega arith }
  ];
}

lives_spend : (tag before : List ℕ) (s : Stored) (lives : List PastLife) → StoreOf tag before s → AreLives before lives → SpendsAbove s (all_spent lives)
lives_spend tag before s [] store are = record { end = s; spends_so = nothing s }
lives_spend tag before s (life ∷ later) store are =
    let this = passes before life.left life.spent are.0 in
    let same : this.opened ≡ s = (one_store before this.tag tag this.opened s this.found store).0 in
    let rest = lives_spend this.left.tag life.left this.left.state later this.left.store are.1 in
    let P : Stored → Type 0 = λ z. Spends z rest.end (life.spent ++ all_spent later) in
    record {
      end = rest.end;
      spends_so = subst P same (joined this.opened this.end this.left.state rest.end life.spent (all_spent later) this.spends_so this.left.next this.left.epoch rest.spends_so);
    }

pub once : OnceOverLives
once before [] are = record { indexes_rise = tt; epochs_rise = tt }
once before (life ∷ later) are =
    let this = passes before life.left life.spent are.0 in
    let all = lives_spend this.tag before this.opened (life ∷ later) this.found are in
    record { indexes_rise = all.spends_so.rising; epochs_rise = all.spends_so.epochs_rising }

-- what was spent in all
pub spent_once : SpentOnce
spent_once tag before after spent lived = rw lived.spent_is (once before lived.lives lived.are)

-- so does what a life spends that is not over, behind those that are
pub living_spend : (tag now before : List ℕ) (s : Stored) (earlier : List PastLife) (opened : Stored) (bodies : List Body) → StoreOf tag before s → AreLives before earlier → StoreOf now (left_by before earlier) opened → MayCome opened bodies → SpendsAbove s (all_spent earlier ++ spent_by opened bodies)
living_spend tag now before s [] opened bodies store are found may =
    let same : opened ≡ s = (one_store before now tag opened s found store).0 in
    record { end = state_after opened bodies; spends_so = subst (λ (z : Stored). Spends z (state_after opened bodies) (spent_by opened bodies)) same (spends opened bodies may) }
living_spend tag now before s (life ∷ later) opened bodies store are found may =
    let this = passes before life.left life.spent are.0 in
    let same : this.opened ≡ s = (one_store before this.tag tag this.opened s this.found store).0 in
    let rest = living_spend this.left.tag now life.left this.left.state later opened bodies this.left.store are.1 found may in
    let others : List Spent = all_spent later ++ spent_by opened bodies in
    let all : Spends this.opened rest.end (life.spent ++ others) = joined this.opened this.end this.left.state rest.end life.spent others this.spends_so this.left.next this.left.epoch rest.spends_so in
    record { end = rest.end; spends_so = subst (λ (xs : List Spent). Spends s rest.end xs) (sym (append_assoc life.spent (all_spent later) (spent_by opened bodies))) (subst (λ (z : Stored). Spends z rest.end (life.spent ++ others)) same all) }
