-- The first ring of which something is so.
use Rattle.std.proofs.Common.{◌≡◌, ℕ, suc, zero, ◌+◌, ◌-◌, ◌<◌, Bool, true, false, cond, List, [], ◌∷◌, ◌++◌, Option, Some, None, refl, ap, sym, subst, ◌∙◌, arith}
use Rattle.std.specs.Prelude.{filter, ◌&&◌, ◌||◌}
use Rattle.std.specs.List.{list_any, range_with_len, slice_get}
use Rattle.std.specs.Option.{option_map_or}
use Rattle.ff_ids.proofs.MaskLemmas.{range_with_len-push}
use Rattle.ff_ids.specs.declared.Group.{Group}
use Rattle.ff_ids.specs.declared.RingNo.{RingNo}
use Rattle.ff_ids.specs.declared.NoteBody.{NoteBody}
use Rattle.ff_ids.specs.Masks.{ring_count, enabled}
use Rattle.ff_ids.specs.Notes.{newest}
use Rattle.ff_ids.specs.Views.{State, monitor, is_number}
use Rattle.membership.specs.Reports.{kept_against}
use Rattle.records.specs.declared.Body.TheVariants.{Accusation}
use Rattle.journal.specs.declared.event.What.TheVariants as told
use Rattle.node_rules.specs.Nodes.{Setting, Node, state_of}
use Rattle.node_rules.specs.Calls.{Call, tells}
use Rattle.node_rules.specs.Ticking.{is_by, has_accused, monitored_rings, ring_for as ring_of, accusation_on, wants_accusation, accuses}
use Rattle.journal.specs.declared.event.Event as journal
use Rattle.audit_node.specs.Playing.{Kept, IsMirror, IsAt, Plays}
use Rattle.audit_node.proofs.PlayLemmas.{setting-group, setting-me}

-- ---- some of them

any-append : (f : ℕ → Bool) (xs ys : List ℕ) → list_any f (xs ++ ys) ≡ (list_any f xs || list_any f ys)
any-append f [] ys = refl
any-append f (x ∷ xs) ys = ap (λ b. f x || b) (any-append f xs ys) ∙ sym (or-assoc (f x) (list_any f xs) (list_any f ys))
  where
    or-assoc : (a b c : Bool) → ((a || b) || c) ≡ (a || (b || c))
    or-assoc true b c = refl
    or-assoc false b c = refl

from-zero : (n : ℕ) → 0 + n ≡ n
from-zero n = omega arith

range-next : (n : ℕ) → range_with_len 0 (n + 1) ≡ range_with_len 0 n ++ n ∷ []
range-next n = ap (range_with_len 0) (next n) ∙ range_with_len-push 0 n ∙ ap (λ (k : ℕ). range_with_len 0 n ++ k ∷ []) (from-zero n)
  where
    next : (n : ℕ) → n + 1 ≡ suc n
    next n = omega arith

or-none : (a b : Bool) → a ≡ false → b ≡ false → (a || (b || false)) ≡ false
or-none a b p q = rw (p, q) refl

-- none of these, nor the next
pub none-next : (f : ℕ → Bool) (n : ℕ) → list_any f (range_with_len 0 n) ≡ false → f n ≡ false → list_any f (range_with_len 0 (n + 1)) ≡ false
none-next f n none fails = ap (list_any f) (range-next n) ∙ any-append f (range_with_len 0 n) (n ∷ []) ∙ or-none _ _ none fails

-- ---- the first of them

or-left : (a b : Bool) → (a || b) ≡ false → a ≡ false
or-left false b h = refl
or-left true b h = h

or-right : (a b : Bool) → (a || b) ≡ false → b ≡ false
or-right false b h = h
or-right true b h = cc

zero-more : (n : ℕ) → zero + suc n ≡ suc n
zero-more n = omega arith

next-more : (n later : ℕ) → suc n + suc later ≡ suc (n + suc later)
next-more n later = omega arith

head-is : (f : ℕ → Bool) (a later : ℕ) → f a ≡ true → slice_get (filter f (range_with_len a (suc later))) 0 ≡ Some a
head-is f a later is = rw is refl

tail-is : (f : ℕ → Bool) (a n : ℕ) → f a ≡ false → slice_get (filter f (range_with_len a (suc n))) 0 ≡ slice_get (filter f (range_with_len (a + 1) n)) 0
tail-is f a n fails = rw fails refl

some-head : (f : ℕ → Bool) (a later : ℕ) → f a ≡ true → list_any f (range_with_len a (suc later)) ≡ true
some-head f a later is = rw is refl

first-from : (f : ℕ → Bool) (a n later : ℕ) → list_any f (range_with_len a n) ≡ false → f (a + n) ≡ true → slice_get (filter f (range_with_len a (n + suc later))) 0 ≡ Some (a + n)
first-from f a zero later none is =
    let same : a + zero ≡ a = omega arith in
    ap (λ (m : ℕ). slice_get (filter f (range_with_len a m)) 0) (zero-more later) ∙ head-is f a later (ap f (sym same) ∙ is) ∙ ap Some (sym same)
first-from f a (suc n) later none is =
    let fails : f a ≡ false = or-left (f a) _ none in
    let rest : list_any f (range_with_len (a + 1) n) ≡ false = or-right (f a) _ none in
    let same : a + 1 + n ≡ a + suc n = omega arith in
    ap (λ (m : ℕ). slice_get (filter f (range_with_len a m)) 0) (next-more n later) ∙ tail-is f a (n + suc later) fails ∙ first-from f (a + 1) n later rest (ap f same ∙ is) ∙ ap Some same

-- The first so many are not so, and the next one is.
pub first-is : (f : ℕ → Bool) (n k : ℕ) → list_any f (range_with_len 0 n) ≡ false → f n ≡ true → n < k → slice_get (filter f (range_with_len 0 k)) 0 ≡ Some n
first-is f n k none is lt =
    let split : n + suc (k - n - 1) ≡ k = omega (arith, lt) in
    ap (λ (m : ℕ). slice_get (filter f (range_with_len 0 m)) 0) (sym split) ∙ first-from f 0 n (k - n - 1) none (ap f (from-zero n) ∙ is) ∙ ap Some (from-zero n)

any-from : (f : ℕ → Bool) (a n later : ℕ) → f (a + n) ≡ true → list_any f (range_with_len a (n + suc later)) ≡ true
any-from f a zero later is =
    let same : a + zero ≡ a = omega arith in
    ap (λ (m : ℕ). list_any f (range_with_len a m)) (zero-more later) ∙ some-head f a later (ap f (sym same) ∙ is)
any-from f a (suc n) later is =
    let same : a + 1 + n ≡ a + suc n = omega arith in
    ap (λ (m : ℕ). list_any f (range_with_len a m)) (next-more n later) ∙ or-true (f a) _ (any-from f (a + 1) n later (ap f same ∙ is))
  where
    or-true : (a b : Bool) → b ≡ true → (a || b) ≡ true
    or-true true b e = refl
    or-true false b e = e

-- It is so of one of them.
pub some-is : (f : ℕ → Bool) (n k : ℕ) → f n ≡ true → n < k → list_any f (range_with_len 0 k) ≡ true
some-is f n k is lt =
    let split : n + suc (k - n - 1) ≡ k = omega (arith, lt) in
    ap (λ (m : ℕ). list_any f (range_with_len 0 m)) (sym split) ∙ any-from f 0 n (k - n - 1) (ap f (from-zero n) ∙ is)

-- ---- none

none-filtered : (f : ℕ → Bool) (xs : List ℕ) → list_any f xs ≡ false → filter f xs ≡ []
none-filtered f [] none = refl
none-filtered f (x ∷ xs) none = rw (or-left (f x) _ none) (none-filtered f xs (or-right (f x) _ none))

pub none-first : (f : ℕ → Bool) (xs : List ℕ) → list_any f xs ≡ false → slice_get (filter f xs) 0 ≡ None
none-first f xs none = ap (λ ys. slice_get ys 0) (none-filtered f xs none)

filter-cond : (p q : ℕ → Bool) (b c : Bool) (x : ℕ) (xs : List ℕ) → p x ≡ b → filter p (cond c (x ∷ xs) xs) ≡ cond (c && b) (x ∷ filter p xs) (filter p xs)
filter-cond p q b true x xs e = ap (λ t. cond t (x ∷ filter p xs) (filter p xs)) e
filter-cond p q b false x xs e = refl

-- Those that pass one test of those that pass another.
pub filter-both : (p q : ℕ → Bool) (xs : List ℕ) → filter p (filter q xs) ≡ filter (λ x. q x && p x) xs
filter-both p q [] = refl
filter-both p q (x ∷ xs) = filter-cond p q (p x) (q x) x (filter q xs) refl ∙ ap (λ ys. cond (q x && p x) (x ∷ ys) ys) (filter-both p q xs)

-- ---- what the definitions say of a silent member

pub accused-same : (s : Setting) (v : Kept) (n : Node) (m : ℕ) → IsMirror s v n → v.membership.group ≡ v.group
    → list_any (λ ring. is_by v.me (kept_against (state_of s n).kept m ring)) (range_with_len 0 (ring_count v.membership.group.t)) ≡ has_accused s (state_of s n) m
accused-same s v n m is same =
    let g : s.group ≡ v.group = setting-group s v n is in
    let me : s.me ≡ v.me = setting-me s v n is in
    ap (λ (x : ℕ). list_any (λ ring. is_by x (kept_against (state_of s n).kept m ring)) (range_with_len 0 (ring_count v.membership.group.t))) (sym me)
    ∙ ap (λ (x : Group). list_any (λ ring. is_by s.me (kept_against (state_of s n).kept m ring)) (range_with_len 0 (ring_count x.t))) (same ∙ sym g)

pub accuses-kept : (s : Setting) (c : Call) (m : ℕ) → has_accused s (state_of s c.node) m ≡ true → accuses true s c m ≡ c
unfolding accuses
accuses-kept s c m is = rw is refl

pub accuses-wanted : (works : Bool) (s : Setting) (c : Call) (m : ℕ) → has_accused s (state_of s c.node) m ≡ false
    → accuses works s c m ≡ wants_accusation works s m (ring_of s (state_of s c.node) m) (tells s (told.Silent m) c)
unfolding accuses
accuses-wanted works s c m fails = rw fails refl

pub no-note : (s : Setting) (st : State) (m : ℕ) → newest st.notes m ≡ None → ring_of s st m ≡ None
no-note s st m none = rw none refl

pub ring-of_note : (s : Setting) (st : State) (m : ℕ) (note : NoteBody) → newest st.notes m ≡ Some note → ring_of s st m ≡ slice_get (monitored_rings s st m note) 0
ring-of_note s st m note is = rw is refl

pub rings-same : (s : Setting) (v : Kept) (n : Node) (m : ℕ) (note : NoteBody) → IsMirror s v n → v.membership.group ≡ v.group
    → slice_get (filter (λ ring. is_number (monitor (state_of s n) ring m) v.me) (enabled (ring_count v.membership.group.t) note.mask.0)) 0 ≡ slice_get (monitored_rings s (state_of s n) m note) 0
rings-same s v n m note is same =
    let g : s.group ≡ v.group = setting-group s v n is in
    let me : s.me ≡ v.me = setting-me s v n is in
    ap (λ (x : ℕ). slice_get (filter (λ ring. is_number (monitor (state_of s n) ring m) x) (enabled (ring_count v.membership.group.t) note.mask.0)) 0) (sym me)
    ∙ ap (λ (x : Group). slice_get (filter (λ ring. is_number (monitor (state_of s n) ring m) s.me) (enabled (ring_count x.t) note.mask.0)) 0) (same ∙ sym g)

pub body-is : (s : Setting) (st : State) (m me : ℕ) (note : NoteBody) (ring : RingNo) → s.me ≡ me → newest st.notes m ≡ Some note
    → Accusation (record { accuser = me; accused = m; epoch = note.epoch; ring = ring }) ≡ accusation_on s st m ring.0
body-is s st m me note ring who is =
    ap (λ (x : ℕ). Accusation (record { accuser = x; accused = m; epoch = note.epoch; ring = ring })) (sym who)
    ∙ ap (λ (e : ℕ). Accusation (record { accuser = s.me; accused = m; epoch = e; ring = ring })) (sym (ap (λ (o : Option NoteBody). option_map_or (λ n. n.epoch) o 0) is))

-- one that is silent, and that no ring is for
pub wanted-if : (s : Setting) (es : List journal.Event) (v : Kept) (c : Call) (m : ℕ) → (IsAt s es v (tells s (told.Silent m) c) → has_accused s (state_of s c.node) m ≡ false) → Plays s es v (tells s (told.Silent m) c)
    → (IsAt s es v (tells s (told.Silent m) c) → ring_of s (state_of s c.node) m ≡ None) → Plays s es v (accuses true s c m)
wanted-if s es v c m fails p none =
    let c1 : Call = tells s (told.Silent m) c in
    record {
      at = λ fine.
          let h = p.at fine in
          subst (IsAt s es v) (ap (λ (o : Option ℕ). wants_accusation true s m o c1) (sym (none h)) ∙ sym (accuses-wanted true s c m (fails h))) h;
    }
