-- How the moments of a disk join, call after call.
use Rattle.std.proofs.Common.{◌≡◌, ℕ, inl, inr, List, [], ◌∷◌, ◌++◌, length, refl, sym, subst, append_assoc}
use Rattle.ports.specs.Disk.{Moment, LeavesItself, LeavesImage, Each, Since, IsAmong, Fails, Settles, settled, next, stays, torn_at, wrote}
use Rattle.ports.proofs.MomentLemmas.{settled_only, before_torn_among, wrote_among}

pub Each-append : (P : Moment → Type 0) (a b : List Moment) → Each P a → Each P b → Each P (a ++ b)
Each-append P [] b first second = second
Each-append P (m ∷ a) b first second = (first.0, Each-append P a b first.1 second)

pub Each-weaken : (P Q : Moment → Type 0) (a : List Moment) → ((m : Moment) → P m → Q m) → Each P a → Each Q a
Each-weaken P Q [] weaker each = tt
Each-weaken P Q (m ∷ a) weaker each = (weaker m each.0, Each-weaken P Q a weaker each.1)

-- no moment is new
pub Since-same : (P : Moment → Type 0) (a : List Moment) → Since P a a
Since-same P a = record { more = []; grew = refl; each = tt }

pub Since-trans : (P : Moment → Type 0) (a b c : List Moment) → Since P a b → Since P b c → Since P a c
Since-trans P a b c first second = record {
  more = second.more ++ first.more;
  grew = rw (second.grew, first.grew) (sym (append_assoc second.more first.more a));
  each = Each-append P second.more first.more second.each first.each;
}

pub Since-weaken : (P Q : Moment → Type 0) (a b : List Moment) → ((m : Moment) → P m → Q m) → Since P a b → Since Q a b
Since-weaken P Q a b weaker since = record {
  more = since.more;
  grew = since.grew;
  each = Each-weaken P Q since.more weaker since.each;
}

-- the last moment has P, where the one before had it
head_has : (P : Moment → Type 0) (now m : Moment) (past later more : List Moment) → P now → m ∷ later ≡ more ++ now ∷ past → Each P more → P m
head_has P now m past later [] at is each = let same : m ≡ now = cc in subst P (sym same) at
head_has P now m past later (newest ∷ more) at is each = let same : m ≡ newest = cc in subst P (sym same) each.0

pub newest_has : (P : Moment → Type 0) (now m : Moment) (past later : List Moment) → P now → Since P (now ∷ past) (m ∷ later) → P m
newest_has P now m past later at since = head_has P now m past later since.more at since.grew since.each

-- what may be left at a moment that leaves no more than another
pub among_self : (m : Moment) → IsAmong m m
among_self m c leaves = leaves

pub among_torn : (place count : ℕ) (now m : Moment) → IsAmong now m → IsAmong (torn_at place count now) m
among_torn place count now m among c leaves = before_torn_among place count now c (among c leaves)

none_more : (now : Moment) (past more : List Moment) → [] ≡ more ++ now ∷ past → ⊥
none_more now past [] is = cc
none_more now past (m ∷ more) is = cc

-- a call that failed, and then another
pub Fails-trans : (a b c : List Moment) → Fails stays a b → Fails stays b c → Fails stays a c
Fails-trans [] [] c first second = second
Fails-trans [] (m ∷ b) c first second = cc
Fails-trans (now ∷ past) [] c first second = absurd (none_more now past first.more first.grew)
Fails-trans (now ∷ past) (m ∷ b) c first second =
    let last = newest_has (IsAmong now) now m past b (among_self now) first in
    Since-trans (IsAmong now) (now ∷ past) (m ∷ b) c first
    (Since-weaken (IsAmong m) (IsAmong now) (m ∷ b) c (λ x among d leaves. last d (among d leaves)) second)

pub Fails-same : (a b : List Moment) → b ≡ a → Fails stays a b
Fails-same [] b is = is
Fails-same (now ∷ past) b is = rw is (Since-same (IsAmong now) (now ∷ past))

-- where nothing came about, a write may not have either
pub Fails-torn : (place count : ℕ) (a b : List Moment) → Fails stays a b → Fails (torn_at place count) a b
Fails-torn place count [] b fails = fails
Fails-torn place count (now ∷ past) b fails = Since-weaken (IsAmong now) (IsAmong (torn_at place count now)) (now ∷ past) b (λ m among. among_torn place count now m among) fails

-- the settled image is no more than what a crash may leave
pub settled_among : (now : Moment) → LeavesItself now → IsAmong now (settled now.image)
settled_among now left c leaves = rw (settled_only now.image c leaves) left

pub Settles-fails : (a b : List Moment) → LeavesImage a → Settles a b → Fails stays a b
Settles-fails [] b left settles = settles
Settles-fails (now ∷ past) b left (inl is) = rw is (record { more = settled now.image ∷ []; grew = refl; each = (settled_among now left.0, tt) })
Settles-fails (now ∷ past) b left (inr same) = rw same.1 (Since-same (IsAmong now) (now ∷ past))

-- a write and what follows it that leaves no more
pub Fails-after_write : (place : ℕ) (bytes : List ℕ) (a b c : List Moment) → b ≡ next (wrote place bytes) a → Fails stays b c → Fails (torn_at place (length bytes)) a c
Fails-after_write place bytes [] b c is fails = rw is at fails
Fails-after_write place bytes (now ∷ past) b c is fails =
    let torn = torn_at place (length bytes) now in
    let then : Since (IsAmong (wrote place bytes now)) (wrote place bytes now ∷ now ∷ past) c = rw is at fails in
    Since-trans (IsAmong torn) (now ∷ past) (wrote place bytes now ∷ now ∷ past) c
    (record { more = wrote place bytes now ∷ []; grew = refl; each = (wrote_among place bytes now, tt) })
    (Since-weaken (IsAmong (wrote place bytes now)) (IsAmong torn) (wrote place bytes now ∷ now ∷ past) c (λ m among d leaves. wrote_among place bytes now d (among d leaves)) then)
