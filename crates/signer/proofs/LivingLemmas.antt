-- How lives go on, call after call.
use Rattle.std.proofs.Common.{◌≡◌, ℕ, ◌⊎◌, inl, inr, true, false, List, [], ◌∷◌, ◌++◌, refl, sym, ap, ◌∙◌, subst, Result, Ok, Err, OnOk, append-nil, append_assoc}
use Rattle.ff_ids.specs.declared.Mask.{Mask}
use Rattle.records.specs.declared.Body.{Body}
use Rattle.records.specs.Signing.{CheckedRecord}
use Rattle.epoch_store.specs.declared.Stored.{Stored}
use Rattle.epoch_store.specs.declared.seat.Seat.{Seat}
use Rattle.epoch_store.specs.Store.{StoreOf, IsSettled, LeavesEither, LeavesOneOf, migrated}
use Rattle.epoch_store.proofs.PutLemmas.{settled_leaves_state}
use Rattle.ports.specs.Disk.{Moment, Leaves, Since, IsAmong, settled}
use Rattle.ports.specs.DiskLaws.{settled_leaves}
use Rattle.ports.proofs.MomentLemmas.{settled_only}
use Rattle.ports.proofs.SinceLemmas.{Since-same, Since-weaken, newest_has}
use Rattle.signer.specs.declared.SignFault.{SignFault}
use Rattle.signer.specs.declared.SignFault.TheVariants.{OutOfMemory, Closed, Exhausted, StoreFault}
use Rattle.signer.specs.Signing.{SignerState, stored_after, MayComeNext, AnswersBy, after_signing, OnIdle}
use Rattle.signer.specs.Lives.{Spent, spent_by, state_after, MayCome, IsLeft, Life, Move, PastLife, AreLives, all_spent, left_by, Lived, EndsLives, EndsNow, IsLiving, spent_in, EndsEither, MovesLives, NothingSpent, KeptByOpening, KeptByMove, KeptByCrash, KeptBehindMove}

spent_by-push : (s : Stored) (bodies : List Body) (b : Body) → spent_by s (bodies ++ b ∷ []) ≡ spent_by s bodies ++ record { index = (state_after s bodies).next; body = b } ∷ []
spent_by-push s [] b = refl
spent_by-push s (x ∷ bodies) b = ap (λ (rest : List Spent). record { index = s.next; body = x } ∷ rest) (spent_by-push (stored_after s x) bodies b)

state_after-push : (s : Stored) (bodies : List Body) (b : Body) → state_after s (bodies ++ b ∷ []) ≡ stored_after (state_after s bodies) b
state_after-push s [] b = refl
state_after-push s (x ∷ bodies) b = state_after-push (stored_after s x) bodies b

MayCome-push : (s : Stored) (bodies : List Body) (b : Body) → MayCome s bodies → MayComeNext (state_after s bodies) b → MayCome s (bodies ++ b ∷ [])
MayCome-push s [] b may next = (next, tt)
MayCome-push s (x ∷ bodies) b may next = (may.0, MayCome-push (stored_after s x) bodies b may.1 next)

-- one life or one move more
AreLives-push : (before : List ℕ) (lives : List PastLife) (life : PastLife) → AreLives before lives → Life (left_by before lives) life.left life.spent ⊎ Move (left_by before lives) life.left life.spent
    → AreLives before (lives ++ life ∷ [])
AreLives-push before [] life are last = (last, tt)
AreLives-push before (first ∷ lives) life are last = (are.0, AreLives-push first.left lives life are.1 last)

left_by-push : (before : List ℕ) (lives : List PastLife) (life : PastLife) → left_by before (lives ++ life ∷ []) ≡ life.left
left_by-push before [] life = refl
left_by-push before (first ∷ lives) life = left_by-push first.left lives life

all_spent-push : (lives : List PastLife) (life : PastLife) → all_spent (lives ++ life ∷ []) ≡ all_spent lives ++ life.spent
all_spent-push [] life = append-nil life.spent
all_spent-push (first ∷ lives) life = ap (λ (rest : List Spent). first.spent ++ rest) (all_spent-push lives life) ∙ sym (append_assoc first.spent (all_spent lives) life.spent)

lived-push : (tag before c : List ℕ) (spent more : List Spent) (earlier : List PastLife) → AreLives before earlier → spent ≡ all_spent earlier → Life (left_by before earlier) c more ⊎ Move (left_by before earlier) c more
    → (state : Stored) × StoreOf tag c state → Lived tag before c (spent ++ more)
lived-push tag before c spent more earlier are is last store =
    let life : PastLife = record { left = c; spent = more } in
    record {
      lives = earlier ++ life ∷ [];
      are = AreLives-push before earlier life are last;
      left = sym (left_by-push before earlier life);
      spent_is = ap (λ (z : List Spent). z ++ more) is ∙ sym (all_spent-push earlier life);
      store = store;
    }

-- what is left is a store of the tag
left-store : (tag c : List ℕ) (s : Stored) → IsLeft tag c s → (state : Stored) × StoreOf tag c state
left-store tag c s (inl same) = (s, same)
left-store tag c s (inr further) = (stored_after s further.0, further.2)

lived_with : (tag before c : List ℕ) (spent : List Spent) (earlier : List PastLife) (opened : Stored) (bodies : List Body) → AreLives before earlier → StoreOf tag (left_by before earlier) opened → MayCome opened bodies → spent ≡ all_spent earlier ++ spent_by opened bodies → IsLeft tag c (state_after opened bodies) → Lived tag before c spent
lived_with tag before c spent earlier opened bodies are found may is left =
    rw is (lived-push tag before c (all_spent earlier) (spent_by opened bodies) earlier are refl
    (inl (record { tag = tag; opened = opened; bodies = bodies; found = found; may_come = may; spent_is = refl; left = left }))
    (left-store tag c (state_after opened bodies) left))

-- a file of the state, or of the next one, ends the lives
ends_with : (tag before c : List ℕ) (spent : List Spent) (s : SignerState) (moments : List Moment) (body : Body) → IsLiving tag before spent s moments → s.closed ≡ false → MayComeNext s.state body → StoreOf tag c s.state ⊎ StoreOf tag c (stored_after s.state body) → Lived tag before c spent
ends_with tag before c spent s moments body living running next file =
    let state = living.state running in
    let left : IsLeft tag c s.state = elim file [ inl same ↦ inl same | inr further ↦ inr (body, next, further) ] in
    let Q : Stored → Type 0 = λ z. IsLeft tag c z in
    lived_with tag before c spent living.earlier living.opened living.bodies living.are living.found living.may_come living.spent_is (subst Q state left)

-- at each moment of a call, a crash ends the life with what was spent before it
pub any_life : (tag before : List ℕ) (spent : List Spent) (s : SignerState) (body : Body) (result : Result CheckedRecord SignFault) (older newer : List Moment) → AnswersBy s result → MayComeNext s.state body → ((t : List ℕ) → IsSettled t s.state s.seat older → Since (LeavesEither t s.state (stored_after s.state body)) older newer) → OnIdle result (newer ≡ older) → IsLiving tag before spent s older → Since (EndsLives tag before spent) older newer
any_life tag before spent s body (Ok value) older newer answers next each idle living =
    Since-weaken (LeavesEither tag s.state (stored_after s.state body)) (EndsLives tag before spent) older newer (λ m either c leaves. ends_with tag before c spent s older body living answers.0 next (either c leaves)) (each tag (living.settled answers.0))
any_life tag before spent s body (Err OutOfMemory) older newer answers next each idle living = rw idle (Since-same (EndsLives tag before spent) older)
any_life tag before spent s body (Err Closed) older newer answers next each idle living = rw idle (Since-same (EndsLives tag before spent) older)
any_life tag before spent s body (Err (Exhausted n)) older newer answers next each idle living = rw idle (Since-same (EndsLives tag before spent) older)
any_life tag before spent s body (Err StoreFault) older newer answers next each idle living =
    Since-weaken (LeavesEither tag s.state (stored_after s.state body)) (EndsLives tag before spent) older newer (λ m either c leaves. ends_with tag before c spent s older body living answers.0 next (either c leaves)) (each tag (living.settled answers.0))

none_left : (now : Moment) (past more : List Moment) → [] ≡ more ++ now ∷ past → ⊥
none_left now past [] is = cc
none_left now past (m ∷ more) is = cc

-- the newest moment too
newest : (tag before : List ℕ) (spent : List Spent) (older newer : List Moment) → EndsNow tag before spent older → Since (EndsLives tag before spent) older newer → EndsNow tag before spent newer
newest tag before spent [] newer now since = absurd now
newest tag before spent (now ∷ past) [] at since = none_left now past since.more since.grew
newest tag before spent (now ∷ past) (m ∷ later) at since = newest_has (EndsLives tag before spent) now m past later at since

settled_ends : (tag before : List ℕ) (spent : List Spent) (earlier : List PastLife) (opened : Stored) (bodies : List Body) (state : Stored) (seat : Seat) (now : Moment) (past : List Moment) → AreLives before earlier → StoreOf tag (left_by before earlier) opened → MayCome opened bodies → spent ≡ all_spent earlier ++ spent_by opened bodies → state ≡ state_after opened bodies → IsSettled tag state seat (now ∷ past) → EndsLives tag before spent now
settled_ends tag before spent earlier opened bodies state seat now past are found may is at settled = λ c leaves.
    let Q : Stored → Type 0 = λ z. IsLeft tag c z in
    lived_with tag before c spent earlier opened bodies are found may is (subst Q at (inl (settled_leaves_state tag state seat (now ∷ past) settled c leaves)))

-- moments go on from some moment
told : (P : Moment → Type 0) (tag before : List ℕ) (spent : List Spent) (older newer : List Moment) → EndsNow tag before spent older → Since P older newer → newer ≡ [] → ⊥
told P tag before spent [] newer at since none = at
told P tag before spent (now ∷ past) newer at since none = none_left now past since.more (sym none ∙ since.grew)

now_settled : (tag before : List ℕ) (spent : List Spent) (earlier : List PastLife) (opened : Stored) (bodies : List Body) (state : Stored) (seat : Seat) (moments : List Moment) → (moments ≡ [] → ⊥) → AreLives before earlier → StoreOf tag (left_by before earlier) opened → MayCome opened bodies → spent ≡ all_spent earlier ++ spent_by opened bodies → state ≡ state_after opened bodies → IsSettled tag state seat moments → EndsNow tag before spent moments
now_settled tag before spent earlier opened bodies state seat [] some are found may is at settled = some refl
now_settled tag before spent earlier opened bodies state seat (now ∷ past) some are found may is at settled = settled_ends tag before spent earlier opened bodies state seat now past are found may is at settled

-- the life goes on, with what was handed out spent too
pub lives_on : (tag before : List ℕ) (spent : List Spent) (s later : SignerState) (body : Body) (result : Result CheckedRecord SignFault) (older newer : List Moment) → AnswersBy s result → MayComeNext s.state body → later ≡ after_signing s body result → ((t : List ℕ) → IsSettled t s.state s.seat older → Since (LeavesEither t s.state (stored_after s.state body)) older newer) → OnOk result ((t : List ℕ) → IsSettled t s.state s.seat older → IsSettled t later.state later.seat newer) → OnIdle result (newer ≡ older) → IsLiving tag before spent s older → IsLiving tag before (spent ++ spent_in s body result) later newer
lives_on tag before spent s later body (Ok value) older newer answers next after each settled idle living =
    let state = living.state answers.0 in
    let P : Stored → Type 0 = λ z. MayComeNext z body in
    let may = MayCome-push living.opened living.bodies body living.may_come (subst P state next) in
    let one : List Spent = record { index = s.state.next; body = body } ∷ [] in
    let last : List Spent = record { index = (state_after living.opened living.bodies).next; body = body } ∷ [] in
    let spent_now : spent ++ one ≡ all_spent living.earlier ++ spent_by living.opened (living.bodies ++ body ∷ []) =
    ap (λ (z : Stored). spent ++ record { index = z.next; body = body } ∷ []) state
    ∙ ap (λ (z : List Spent). z ++ last) living.spent_is
    ∙ append_assoc (all_spent living.earlier) (spent_by living.opened living.bodies) last
    ∙ ap (λ (z : List Spent). all_spent living.earlier ++ z) (sym (spent_by-push living.opened living.bodies body)) in
    let state_now : later.state ≡ state_after living.opened (living.bodies ++ body ∷ []) =
    ap (λ (z : SignerState). z.state) after ∙ ap (λ (z : Stored). stored_after z body) state ∙ sym (state_after-push living.opened living.bodies body) in
    let now = settled tag (living.settled answers.0) in
    record {
      earlier = living.earlier;
      opened = living.opened;
      bodies = living.bodies ++ body ∷ [];
      are = living.are;
      found = living.found;
      may_come = may;
      spent_is = spent_now;
      state = λ running. state_now;
      settled = λ running. now;
      ends = now_settled tag before _ living.earlier living.opened (living.bodies ++ body ∷ []) later.state later.seat newer
          (told (LeavesEither tag s.state (stored_after s.state body)) tag before spent older newer living.ends (each tag (living.settled answers.0)))
          living.are living.found may spent_now state_now now;
    }
lives_on tag before spent s later body (Err OutOfMemory) older newer answers next after each settled idle living = rw (append-nil spent, after, idle) living
lives_on tag before spent s later body (Err Closed) older newer answers next after each settled idle living = rw (append-nil spent, after, idle) living
lives_on tag before spent s later body (Err (Exhausted n)) older newer answers next after each settled idle living = rw (append-nil spent, after, idle) living
lives_on tag before spent s later body (Err StoreFault) older newer answers next after each settled idle living =
    let shut : later.closed ≡ true = ap (λ (z : SignerState). z.closed) after in
    let ends = newest tag before spent older newer living.ends (any_life tag before spent s body (Err StoreFault) older newer answers next each idle living) in
    rw (append-nil spent) (record {
      earlier = living.earlier;
      opened = living.opened;
      bodies = living.bodies;
      are = living.are;
      found = living.found;
      may_come = living.may_come;
      spent_is = living.spent_is;
      state = λ running. let no : true ≡ false = sym shut ∙ running in cc;
      settled = λ running. let no : true ≡ false = sym shut ∙ running in absurd (Rattle.std.proofs.lemmas.Bool.true≢false no);
      ends = ends;
    })

-- the last life begins where a settled store was opened
pub begins_life : (tag before : List ℕ) (spent : List Spent) (s : SignerState) (moments : List Moment) → IsSettled tag s.state s.seat moments → EndsNow tag before spent moments → IsLiving tag before spent s moments
begins_life tag before spent s [] at ends = absurd ends
begins_life tag before spent s (now ∷ past) at ends =
    let P : Moment → Type 0 = λ m. Leaves m now.image in
    let lived = ends now.image (subst P (sym at.0) (settled_leaves now.image)) in
    let Q : List ℕ → Type 0 = λ file. StoreOf tag file s.state in
    record {
      earlier = lived.lives;
      opened = s.state;
      bodies = [];
      are = lived.are;
      found = subst Q lived.left (s.seat, at.1);
      may_come = tt;
      spent_is = lived.spent_is ∙ sym (append-nil (all_spent lived.lives));
      state = λ running. refl;
      settled = λ running. at;
      ends = ends;
    }

-- no life has begun
pub nothing_spent : NothingSpent
nothing_spent tag state now past is store = λ c leaves.
    let P : Moment → Type 0 = λ m. Leaves m c in
    let same = settled_only now.image c (subst P is leaves) in
    let Q : List ℕ → Type 0 = λ file. StoreOf tag file state in
    record { lives = []; are = tt; left = same; spent_is = refl; store = (state, subst Q (sym same) store) }

-- an opening
pub kept_by_opening : KeptByOpening
kept_by_opening tag before spent [] newer ends fails = absurd ends
kept_by_opening tag before spent (now ∷ past) newer ends fails =
    let since = Since-weaken (IsAmong now) (EndsLives tag before spent) (now ∷ past) newer (λ m among c leaves. ends c (among c leaves)) fails in
    (since, newest tag before spent (now ∷ past) newer ends since)

-- a crash
pub kept_by_crash : KeptByCrash
kept_by_crash tag before spent now past c ends leaves = λ d left.
    let P : List ℕ → Type 0 = λ file. Lived tag before file spent in
    subst P (sym (settled_only c d left)) (ends c leaves)

-- lives that end in a file that is a store of another tag
pub lived-under : (tag other before c : List ℕ) (spent : List Spent) (state : Stored) → StoreOf other c state → Lived tag before c spent → Lived other before c spent
lived-under tag other before c spent state store lived = record { lives = lived.lives; are = lived.are; left = lived.left; spent_is = lived.spent_is; store = (state, store) }

-- a settled file is left as it is
pub settled-leaves : (now : Moment) → now ≡ settled now.image → Leaves now now.image
settled-leaves now is = subst (λ (m : Moment). Leaves m now.image) (sym is) (settled_leaves now.image)

-- each file that a settled moment leaves ends lives, where its own does
pub ends-settled : (tag before : List ℕ) (spent : List Spent) (now : Moment) → now ≡ settled now.image → Lived tag before now.image spent → EndsLives tag before spent now
ends-settled tag before spent now is lived = λ c leaves.
    let same = settled_only now.image c (subst (λ (m : Moment). Leaves m c) is leaves) in
    subst (λ (file : List ℕ). Lived tag before file spent) (sym same) lived

-- a file of the store, or of the moved one, ends lives with a move more
moved-ends : (tag other before file c : List ℕ) (spent : List Spent) (opened : Stored) (mask : Mask) → StoreOf tag file opened → Lived tag before file spent → StoreOf tag c opened ⊎ StoreOf other c (migrated opened mask) → Lived tag before c spent ⊎ Lived other before c spent
moved-ends tag other before file c spent opened mask found lived left = by left
  where
    move : Move (left_by before lived.lives) c []
    move = record { tag = tag; opened = opened; other = other; mask = mask; found = subst (λ (f : List ℕ). StoreOf tag f opened) lived.left found; spent_none = refl; left = left }

    ends : (t : List ℕ) → (state : Stored) × StoreOf t c state → Lived t before c spent
    ends t store = subst (λ (z : List Spent). Lived t before c z) (append-nil spent) (lived-push t before c spent [] lived.lives lived.are lived.spent_is (inr move) store)

    by : StoreOf tag c opened ⊎ StoreOf other c (migrated opened mask) → Lived tag before c spent ⊎ Lived other before c spent
    by (inl still) = inl (ends tag (opened, still))
    by (inr moved) = inr (ends other (migrated opened mask, moved))

moves : (tag other : List ℕ) (opened : Stored) (seat : Seat) (mask : Mask) (older newer : List Moment) → IsSettled tag opened seat older → Since (LeavesOneOf tag opened other (migrated opened mask)) older newer → MovesLives tag other older newer
moves tag other opened seat mask [] newer at since before spent ends = absurd ends
moves tag other opened seat mask (now ∷ past) newer at since before spent ends =
    let lived = ends now.image (settled-leaves now at.0) in
    Since-weaken (LeavesOneOf tag opened other (migrated opened mask)) (EndsEither tag other before spent) (now ∷ past) newer
    (λ m one c leaves. moved-ends tag other before now.image c spent opened mask (seat, at.1) lived (one c leaves)) since

-- where the newest moment is settled as a store of the other tag, its file ends lives under that
either-settled : (tag other before : List ℕ) (spent : List Spent) (state : Stored) (seat : Seat) (now : Moment) (past : List Moment) → IsSettled other state seat (now ∷ past) → EndsEither tag other before spent now → EndsLives other before spent now
either-settled tag other before spent state seat now past at ends =
    ends-settled other before spent now at.0 (elim (ends now.image (settled-leaves now at.0)) [
      | inl one ↦ lived-under tag other before now.image spent state (seat, at.1) one
      | inr moved ↦ moved
    ])

newest-either : (tag other before : List ℕ) (spent : List Spent) (older newer : List Moment) → EndsNow tag before spent older → Since (EndsEither tag other before spent) older newer → (state : Stored) (seat : Seat) → IsSettled other state seat newer → EndsNow other before spent newer
newest-either tag other before spent [] newer ends since state seat at = absurd ends
newest-either tag other before spent (now ∷ past) [] ends since state seat at = none_left now past since.more since.grew
newest-either tag other before spent (now ∷ past) (m ∷ later) ends since state seat at =
    let either : EndsEither tag other before spent now = λ c leaves. inl (ends c leaves) in
    either-settled tag other before spent state seat m later at (newest_has (EndsEither tag other before spent) now m past later either since)

-- a move
pub kept_by_move : KeptByMove
kept_by_move tag other opened seat mask older newer at since =
    let all = moves tag other opened seat mask older newer at since in (
      all,
      λ behind settled before spent ends. newest-either tag other before spent older newer ends (all before spent ends) (migrated opened mask) behind settled,
    )

-- a crash within a move
pub kept_behind_move : KeptBehindMove
kept_behind_move tag other before spent now c ends leaves = elim (ends c leaves) [
  | inl one ↦ inl (ends-settled tag before spent (settled c) refl one)
  | inr moved ↦ inr (ends-settled other before spent (settled c) refl moved)
]
