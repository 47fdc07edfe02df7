-- What a tick changes.
use Rattle.std.proofs.Common.{◌≡◌, ◌≢◌, ℕ, zero, suc, ◌+◌, ◌<◌, ◌≤◌, max, Bool, true, false, cond, not, ◌&&◌, ◌||◌, eqb, List, [], ◌∷◌, ◌++◌, map, length, ⊎_elim, None, refl, ap, sym, ◌∙◌, subst, arith}
use Rattle.std.specs.List.{All, filter, range_with_len, AllByRecursion}
use Rattle.std.specs.FinMap.{get}
use Rattle.std.proofs.lemmas.Bool.{eqb-true, eqb-false, false≢true}
use Rattle.std.proofs.lemmas.Bool.Decides.{nat_tests}
use Rattle.std.proofs.lemmas.List.Elements.{All-nil, All-cons, filter_agree, filter_passes}
use Rattle.ff_ids.specs.declared.TheConstants.{MEMBERS}
use Rattle.ff_ids.specs.declared.AccBody.{AccBody}
use Rattle.ff_ids.specs.declared.NoteBody.{NoteBody}
use Rattle.ff_ids.specs.Masks.{ring_count}
use Rattle.ff_ids.specs.Views.{State, in_view, all_numbers, stands}
use Rattle.ff_ids.specs.Steps.{Report, precedes, is_due, only_before, after_tick}
use Rattle.removal_timer.specs.Kept.{IsInOrder}
use Rattle.removal_timer.proofs.KeptLemmas.{IsInOrder-filter, All-filter}
use Rattle.membership.specs.Kept.{ByNumber, expired_at, is_live, is_live_at, takes_out, raise, raised, leavers}
use Rattle.membership.specs.Life.{Life}
use Rattle.membership.specs.Ends.{Entry, AreTheirs, is_of, is_of_any}
use Rattle.membership.specs.Holds.{Holds, greatest_epoch}
use Rattle.membership.proofs.NumberLemmas.{either_bool, all_length, AtEach, AtEach-here, AtEach-next, filter-filter, filter-range_agree, filter-range_none}
use Rattle.membership.proofs.HoldLemmas.{HoldsEach, each_held, in_view-each}
use Rattle.membership.proofs.ExpireLemmas.{takes_out-is, live_fewer, live_same, live_raised, out_parts, same_live, expired_at-raise, expired_at-other}
use Rattle.membership.specs.Touched.{IsUpheld}
use Rattle.membership.proofs.TouchLemmas.{IsStanding-from, with_expired, fewer-expired, by_successor, stands-of_any}
use Rattle.membership.proofs.NoteLemmas.{AllBy-upheld, Decides, only_before-none, stands-left, stands-fell}
use Rattle.membership.proofs.EndLemmas.{AllBy-then, Ended}

-- ---- the order of what is due

abbrev pub Ascends : ℕ → List AccBody → Type 0
Ascends low [] = Unit {0}
Ascends low (a ∷ due) = (low ≤ a.accused) × (a.accused < MEMBERS) × Ascends a.accused due

from_first : (a b : AccBody) → precedes a b ≡ true → a.accused ≤ b.accused
from_first a b h = grind (arith, nat_tests)

from_all : (p : AccBody × ℕ) (es : List (AccBody × ℕ)) → AllByRecursion (λ q. precedes p.0 q.0 ≡ true) es → AllByRecursion (λ q. p.0.accused ≤ q.0.accused) es
from_all p [] h = tt
from_all p (q ∷ es) h = (from_first p.0 q.0 h.0, from_all p es h.1)

Ascends-ordered : (rings low : ℕ) (es : List (AccBody × ℕ)) → IsInOrder rings es → AllByRecursion (λ q. low ≤ q.0.accused) es → Ascends low (map (λ p. p.0) es)
Ascends-ordered rings low [] h k = tt
Ascends-ordered rings low (p ∷ es) h k = (k.0, h.0, Ascends-ordered rings p.0.accused es h.3 (from_all p es h.2))

all_from_zero : (es : List (AccBody × ℕ)) → AllByRecursion (λ q. 0 ≤ q.0.accused) es
all_from_zero [] = tt
all_from_zero (p ∷ es) = (omega arith, all_from_zero es)

pub Ascends-due : (rings : ℕ) (f : AccBody × ℕ → Bool) (es : List (AccBody × ℕ)) → IsInOrder rings es → Ascends 0 (map (λ p. p.0) (filter f es))
Ascends-due rings f es h = Ascends-ordered rings 0 (filter f es) (IsInOrder-filter rings f es h) (all_from_zero (filter f es))

-- ---- the epochs

raised_below : (expired : ByNumber ℕ) (due : List AccBody) (low k : ℕ) → Ascends low due → k < low → expired_at (raised expired due) k ≡ expired_at expired k
raised_below expired [] low k h lt = refl
raised_below expired (a ∷ due) low k h lt =
    raised_below (raise expired a) due a.accused k h.2 (omega (arith, h.0)) ∙ expired_at-other expired a k (λ e. absurd (omega (arith, h.0)))

fewer_once : (notes : ByNumber NoteBody) (expired : ByNumber ℕ) (a : AccBody) (k : ℕ) → is_live_at notes (raise expired a) k ≡ true → is_live_at notes expired k ≡ true
fewer_once notes expired a k live =
    ⊎_elim (λ t. subst (λ m. is_live_at notes expired m ≡ true) (sym (eqb-true k a.accused t)) (live_fewer (expired_at expired a.accused) a.epoch (get notes a.accused) (sym (live_raised notes expired a) ∙ subst (λ m. is_live_at notes (raise expired a) m ≡ true) (eqb-true k a.accused t) live)))
    (λ t. sym (live_same notes expired a k (eqb-false k a.accused t)) ∙ live)
    (either_bool (eqb k a.accused))

pub fewer_live : (notes : ByNumber NoteBody) (expired : ByNumber ℕ) (due : List AccBody) (low k : ℕ) → Ascends low due → is_live_at notes (raised expired due) k ≡ true → is_live_at notes expired k ≡ true
fewer_live notes expired [] low k h live = live
fewer_live notes expired (a ∷ due) low k h live =
    fewer_once notes expired a k (fewer_live notes (raise expired a) due a.accused k h.2 live)

-- ---- who leaves

filter_first : (p q : ℕ → Bool) (m a n : ℕ) → a ≤ m → m < a + n → p m ≡ false → q m ≡ true → AtEach a n (λ k. k ≢ m → q k ≡ p k) → AtEach a n (λ k. k < m → p k ≡ false) → filter q (range_with_len a n) ≡ m ∷ filter p (range_with_len a n)
filter_first p q m a zero low high was is others before = absurd (omega arith)
filter_first p q m a (suc n) low high was is others before =
    ⊎_elim (λ e.
    let at : a ≡ m = eqb-true a m e in
    let rest : filter q (range_with_len (a + 1) n) ≡ filter p (range_with_len (a + 1) n) = filter-range_agree q p (a + 1) n (record { each = λ k l h. others.each k (omega arith) (omega arith) (λ same. absurd (omega arith)) }) in
    let q_a : q a ≡ true = rw at is in
    let p_a : p a ≡ false = rw at was in
    rw (q_a, p_a, rest, at) refl)
    (λ e.
    let apart : a ≢ m = eqb-false a m e in
    let p_a : p a ≡ false = AtEach-here a n _ before (omega (arith, apart)) in
    let q_a : q a ≡ false = AtEach-here a n _ others apart ∙ p_a in
    rw (q_a, p_a) (filter_first p q m (a + 1) n (omega (arith, apart)) (omega arith) was is (AtEach-next a n _ others) (AtEach-next a n _ before)))
    (either_bool (eqb a m))

-- live under the first epochs, and not under the second
abbrev pub gone : ByNumber NoteBody → ByNumber ℕ → ByNumber ℕ → ℕ → Bool
gone notes expired later k = is_live_at notes expired k && not (is_live_at notes later k)

and_not : (b : Bool) → (b && not b) ≡ false
and_not true = refl
and_not false = refl

leavers_more : (notes : ByNumber NoteBody) (expired : ByNumber ℕ) (a : AccBody) (due : List AccBody) (n : ℕ) → n ≡ MEMBERS → a.accused < MEMBERS → Ascends a.accused due → (out : Bool) → out ≡ takes_out (expired_at expired a.accused) (get notes a.accused) a → cond out (a.accused ∷ filter (gone notes (raise expired a) (raised (raise expired a) due)) (range_with_len 0 n)) (filter (gone notes (raise expired a) (raised (raise expired a) due)) (range_with_len 0 n)) ≡ filter (gone notes expired (raised (raise expired a) due)) (range_with_len 0 n)
leavers_more notes expired a due n size below ascends true e =
    let later = raised (raise expired a) due in
    let parts = out_parts _ _ (sym (e ∙ takes_out-is (expired_at expired a.accused) (get notes a.accused) a)) in
    let dead : is_live_at notes (raise expired a) a.accused ≡ false = live_raised notes expired a ∙ parts.1 in
    let dead_later : is_live_at notes later a.accused ≡ false = ⊎_elim (λ t. absurd (false≢true (sym dead ∙ fewer_live notes (raise expired a) due a.accused a.accused ascends t))) (λ t. t) (either_bool (is_live_at notes later a.accused)) in
    let was : gone notes (raise expired a) later a.accused ≡ false = ap (λ b. b && not (is_live_at notes later a.accused)) dead in
    let is : gone notes expired later a.accused ≡ true = ap (λ b. b && not (is_live_at notes later a.accused)) parts.0 ∙ ap not dead_later in
    sym (filter_first (gone notes (raise expired a) later) (gone notes expired later) a.accused 0 n (omega arith) (omega arith) was is
    (record { each = λ k _ _ apart. ap (λ b. b && not (is_live_at notes later k)) (sym (live_same notes expired a k apart)) })
    (record { each = λ k _ _ lt. ap (λ b. is_live_at notes (raise expired a) k && not (is_live b (get notes k))) (raised_below (raise expired a) due a.accused k ascends lt) ∙ and_not (is_live_at notes (raise expired a) k) }))
leavers_more notes expired a due n size below ascends false e =
    let later = raised (raise expired a) due in
    filter-range_agree (gone notes (raise expired a) later) (gone notes expired later) 0 n (record { each = λ k _ _. ap (λ b. b && not (is_live_at notes later k)) (same_live notes expired a (sym e) k) })

leavers_range : (notes : ByNumber NoteBody) (expired : ByNumber ℕ) (due : List AccBody) (low n : ℕ) → n ≡ MEMBERS → Ascends low due → leavers notes expired due ≡ filter (gone notes expired (raised expired due)) (range_with_len 0 n)
leavers_range notes expired [] low n size h = sym (filter-range_none (gone notes expired expired) 0 n (record { each = λ k _ _. and_not (is_live_at notes expired k) }))
leavers_range notes expired (a ∷ due) low n size h =
    let rest = leavers_range notes (raise expired a) due a.accused n size h.2 in
    ap (λ xs. cond (takes_out (expired_at expired a.accused) (get notes a.accused) a) (a.accused ∷ xs) xs) rest ∙ leavers_more notes expired a due n size h.1 h.2 _ refl

-- the members taken out are those that were live and no longer are
pub leavers-is : (notes : ByNumber NoteBody) (expired : ByNumber ℕ) (due : List AccBody) → Ascends 0 due → leavers notes expired due ≡ filter (gone notes expired (raised expired due)) all_numbers
leavers-is notes expired due h =
    let all = all_length in
    subst (λ xs. leavers notes expired due ≡ filter (gone notes expired (raised expired due)) xs) (sym all.1.are) (leavers_range notes expired due 0 all.0 all.1.long h)

pub length-leavers : (notes : ByNumber NoteBody) (expired : ByNumber ℕ) (due : List AccBody) → length (leavers notes expired due) ≤ length due
length-leavers notes expired [] = omega arith
length-leavers notes expired (a ∷ due) = either_length (takes_out (expired_at expired a.accused) (get notes a.accused) a) a.accused (leavers notes (raise expired a) due) due (length-leavers notes (raise expired a) due)
  where
    either_length : (b : Bool) (m : ℕ) (ms : List ℕ) (due : List AccBody) → length ms ≤ length due → length (cond b (m ∷ ms) ms) ≤ suc (length due)
    either_length true m ms due h = omega arith
    either_length false m ms due h = omega arith

-- ---- the greatest epochs

swap_either : (p q : Bool) (x y g : ℕ) → cond p (max x (cond q (max y g) g)) (cond q (max y g) g) ≡ cond q (max y (cond p (max x g) g)) (cond p (max x g) g)
swap_either true true x y g = omega arith
swap_either true false x y g = refl
swap_either false true x y g = refl
swap_either false false x y g = refl

greatest_swap : (due expired : List AccBody) (a : AccBody) (m : ℕ) → greatest_epoch (due ++ a ∷ expired) m ≡ greatest_epoch (a ∷ (due ++ expired)) m
greatest_swap [] expired a m = refl
greatest_swap (b ∷ due) expired a m =
    ap (λ g. cond (eqb b.accused m) (max b.epoch g) g) (greatest_swap due expired a m) ∙ swap_either (eqb b.accused m) (eqb a.accused m) b.epoch a.epoch (greatest_epoch (due ++ expired) m)

greatest_once : (expired : List AccBody) (epochs : ByNumber ℕ) (a : AccBody) (m : ℕ) → greatest_epoch expired m ≡ expired_at epochs m → greatest_epoch (a ∷ expired) m ≡ expired_at (raise epochs a) m
greatest_once expired epochs a m e =
    ⊎_elim (λ t.
    let at : a.accused ≡ m = eqb-true a.accused m t in
    let now : expired_at (raise epochs a) m ≡ max (expired_at epochs m) a.epoch = subst (λ k. expired_at (raise epochs a) k ≡ max (expired_at epochs k) a.epoch) at (expired_at-raise epochs a) in
    ap (λ b. cond b (max a.epoch (greatest_epoch expired m)) (greatest_epoch expired m)) t ∙ ap (max a.epoch) e ∙ max_comm a.epoch (expired_at epochs m) ∙ sym now)
    (λ t. ap (λ b. cond b (max a.epoch (greatest_epoch expired m)) (greatest_epoch expired m)) t ∙ e ∙ sym (expired_at-other epochs a m (λ k. eqb-false a.accused m t (sym k))))
    (either_bool (eqb a.accused m))
  where
    max_comm : (x y : ℕ) → max x y ≡ max y x
    max_comm x y = omega arith

pub greatest-raised : (due expired : List AccBody) (epochs : ByNumber ℕ) → ((m : ℕ) → greatest_epoch expired m ≡ expired_at epochs m) → (m : ℕ) → greatest_epoch (due ++ expired) m ≡ expired_at (raised epochs due) m
greatest-raised [] expired epochs same m = same m
greatest-raised (a ∷ due) expired epochs same m =
    sym (greatest_swap due expired a m) ∙ greatest-raised due (a ∷ expired) (raise epochs a) (λ k. greatest_once expired epochs a k (same k)) m

-- ---- the tick

abbrev pub due_of : Life → List AccBody
due_of l = map (λ p. p.0) (filter (is_due l.group.timeout (l.moment + 1)) l.kept)

-- what is kept after the tick, before anything fell
abbrev pub ticked : Life → Life
ticked l =
    record l {
      moment = l.moment + 1;
      expired = raised l.expired (due_of l);
      kept = filter (λ p. not (is_due l.group.timeout (l.moment + 1) p)) l.kept;
    }

-- the state then
abbrev pub ticked_state : ℕ → State → State
ticked_state timeout s =
    record s {
      moment = s.moment + 1;
      expired = map (λ p. p.0) (filter (is_due timeout (s.moment + 1)) s.kept) ++ s.expired;
      kept = filter (λ p. not (is_due timeout (s.moment + 1) p)) s.kept;
    }

pub due_same : (l : Life) (s : State) → Holds l s → map (λ p. p.0) (filter (is_due l.group.timeout (s.moment + 1)) s.kept) ≡ due_of l
due_same l s h =
    ap (λ now. map (λ p. p.0) (filter (is_due l.group.timeout (now + 1)) s.kept)) h.moment_same ∙ ap (λ kept. map (λ p. p.0) (filter (is_due l.group.timeout (l.moment + 1)) kept)) h.kept_same

kept_still : (l : Life) (s : State) → Holds l s → filter (λ p. not (is_due l.group.timeout (s.moment + 1) p)) s.kept ≡ (ticked l).kept
kept_still l s h =
    ap (λ now. filter (λ p. not (is_due l.group.timeout (now + 1) p)) s.kept) h.moment_same ∙ ap (filter (λ p. not (is_due l.group.timeout (l.moment + 1) p))) h.kept_same

each_ticked : (l : Life) (s : State) → Holds l s → HoldsEach (ticked l) (ticked_state l.group.timeout s)
each_ticked l s h =
    record {
      at_number = λ m. let at = h.at_number m in record {
        member = at.member;
        places = at.places;
        newest_note = at.newest_note;
        greatest = ap (λ due. greatest_epoch (due ++ s.expired) m) (due_same l s h) ∙ greatest-raised (due_of l) s.expired l.expired (λ k. (h.at_number k).greatest) m;
        positive = at.positive;
      };
    }

removed_is : (rings : ℕ) (l : Life) (s : State) → Holds l s → IsInOrder rings l.kept → only_before s (ticked_state l.group.timeout s) ≡ leavers l.notes l.expired (due_of l)
removed_is rings l s h ordered =
    let mid = ticked_state l.group.timeout s in
    filter-filter (λ k. not (in_view mid k)) (in_view s) all_numbers
    ∙ filter_agree (λ k. in_view s k && not (in_view mid k)) (gone l.notes l.expired (raised l.expired (due_of l))) (λ k. ap (λ b. b && not (in_view mid k)) (in_view-each l s k (each_held l s h)) ∙ ap (λ b. is_live_at l.notes l.expired k && not b) (in_view-each (ticked l) mid k (each_ticked l s h))) all_numbers
    ∙ sym (leavers-is l.notes l.expired (due_of l) (Ascends-due rings (is_due l.group.timeout (l.moment + 1)) l.kept ordered))

decides-ticked : (l : Life) (s : State) → Holds l s → ((k : ℕ) → get l.places k ≡ None → get l.notes k ≡ None) → IsInOrder (ring_count l.group.t) l.kept → Decides (ticked_state l.group.timeout s) (is_of_any l (due_of l)) (ticked l).kept
decides-ticked l s h noted ordered =
    let upheld = AllBy-upheld (ring_count l.group.t) l s h ordered in
    let due = All-filter (IsUpheld s) (is_due l.group.timeout (l.moment + 1)) l.kept upheld in
    subst (λ ds. AllByRecursion (λ p. stands (with_expired s ds) p.0 ≡ not (is_of_any l (due_of l) p)) (ticked l).kept) (sym (due_same l s h)) (AllBy-then (IsUpheld s) (λ p. stands (with_expired s (due_of l)) p.0 ≡ not (is_of_any l (due_of l) p)) (λ p u. stands-of_any l s p (filter (is_due l.group.timeout (l.moment + 1)) l.kept) (each_held l s h) noted u due) (ticked l).kept (All-filter (IsUpheld s) (λ p. not (is_due l.group.timeout (l.moment + 1) p)) l.kept upheld))

-- who is accused of those that stand is accused by its monitor
theirs_of : (l : Life) (s : State) (a : AccBody) (es : List Entry) → HoldsEach l s → ((k : ℕ) → get l.places k ≡ None → get l.notes k ≡ None) → a.accused < MEMBERS → in_view s a.accused ≡ true → AllByRecursion (IsUpheld s) es → AreTheirs l a.accused es
theirs_of l s a es h noted below is each =
    AllBy-then (IsUpheld s) (λ p. is_of l a.accused p ≡ (eqb a.accused p.0.accused || eqb a.accused p.0.accuser)) (λ p u. by_successor l s p a.accused h noted u below is) es each

theirs_each : (l : Life) (s : State) (es due : List Entry) → HoldsEach l s → ((k : ℕ) → get l.places k ≡ None → get l.notes k ≡ None) → AllByRecursion (IsUpheld s) es → AllByRecursion (IsUpheld s) due → All (λ a. AreTheirs l a.accused es) (map (λ p. p.0) due)
theirs_each l s es [] h noted upheld each = All-nil (λ a. AreTheirs l a.accused es)
theirs_each l s es (p ∷ due) h noted upheld each =
    All-cons (λ a. AreTheirs l a.accused es) p.0 (map (λ p. p.0) due) (theirs_of l s p.0 es h noted each.0.number (IsStanding-from s p.0 each.0.standing).viewed upheld) (theirs_each l s es due h noted upheld each.1)

pub theirs-due : (l : Life) (s : State) → Holds l s → ((k : ℕ) → get l.places k ≡ None → get l.notes k ≡ None) → IsInOrder (ring_count l.group.t) l.kept → All (λ a. AreTheirs l a.accused (ticked l).kept) (due_of l)
theirs-due l s h noted ordered =
    let upheld = AllBy-upheld (ring_count l.group.t) l s h ordered in
    theirs_each l s (ticked l).kept (filter (is_due l.group.timeout (l.moment + 1)) l.kept) (each_held l s h) noted (All-filter (IsUpheld s) (λ p. not (is_due l.group.timeout (l.moment + 1) p)) l.kept upheld) (All-filter (IsUpheld s) (is_due l.group.timeout (l.moment + 1)) l.kept upheld)

same_report : (expired expired' fell fell' : List AccBody) (removed removed' entered entered' : List ℕ) → expired ≡ expired' → removed ≡ removed' → entered ≡ entered' → fell ≡ fell' → ◌≡◌ {A = Report} (record { expired = expired; removed = removed; entered = entered; fell = fell }) (record { expired = expired'; removed = removed'; entered = entered'; fell = fell' })
same_report expired expired' fell fell' removed removed' entered entered' a b c d = rw (a, b, c, d) refl

-- the life after the tick, and its report
pub record Ticked (l : Life) (s : State) (kept : List Entry) (fell : List AccBody) : Type 0 where
  pub holds : Holds (record (ticked l) { kept = kept }) (after_tick l.group.timeout s).state
  pub report : record { expired = due_of l; removed = leavers l.notes l.expired (due_of l); entered = []; fell = fell } ≡ (after_tick l.group.timeout s).report

pub Ticked-by : (l : Life) (s : State) (kept : List Entry) (fell : List AccBody) → Holds l s → ((k : ℕ) → get l.places k ≡ None → get l.notes k ≡ None) → IsInOrder (ring_count l.group.t) l.kept → Ended (is_of_any l (due_of l)) (ticked l).kept kept fell → Ticked l s kept fell
Ticked-by l s kept fell h noted ordered ended =
    let mid = ticked_state l.group.timeout s in
    let decides = decides-ticked l s h noted ordered in
    let held = each_ticked l s h in
    record {
      holds = record {
        moment_same = ap (λ now. now + 1) h.moment_same;
        kept_same = ap (filter (λ p. stands mid p.0)) (kept_still l s h) ∙ stands-left mid (is_of_any l (due_of l)) (ticked l).kept kept fell decides ended;
        at_number = λ m. let at = held.at_number m in record { member = at.member; places = at.places; newest_note = at.newest_note; greatest = at.greatest; positive = at.positive };
        standing = filter_passes (λ p. stands mid p.0) mid.kept;
      };
      report = same_report _ _ _ _ _ _ _ _ (sym (due_same l s h)) (sym (removed_is (ring_count l.group.t) l s h ordered)) (sym (only_before-none mid s (λ k is. fewer-expired s (map (λ p. p.0) (filter (is_due l.group.timeout (s.moment + 1)) s.kept)) k is))) (sym (ap (λ ks. map (λ p. p.0) (filter (λ p. not (stands mid p.0)) ks)) (kept_still l s h) ∙ stands-fell mid (is_of_any l (due_of l)) (ticked l).kept kept fell decides ended));
    }
