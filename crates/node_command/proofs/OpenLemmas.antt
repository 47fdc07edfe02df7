-- How a member's store is opened and its life begun.
use Rattle.std.proofs.Common.{◌≡◌, ℕ, ◌≤◌, true, false, List, [], ◌∷◌, Result, Ok, Err, refl, sym, ap, subst, ◌∙◌, inl, inr, append-nil, arith}
use Rattle.epoch_store.specs.declared.seat.Seat.{Seat}
use Rattle.epoch_store.specs.declared.StoreError.{StoreError}
use Rattle.epoch_store.specs.declared.StoreError.TheVariants as store
use Rattle.epoch_store.specs.declared.Stored.{Stored}
use Rattle.epoch_store.specs.Asked.{AsksToOpen}
use Rattle.epoch_store.specs.Calls.{HoldsStore, IsNotTaken, OnRead, OpensAs, SettlesAs, StoreState, is_fault, same}
use Rattle.epoch_store.specs.Store.{IsSettled, StoreAt}
use Rattle.journal.specs.declared.event.Event as journal
use Rattle.ports.specs.Count.{counted}
use Rattle.ports.specs.Disk.{Fails, Moment, stays}
use Rattle.ports.proofs.SinceLemmas.{Since-trans, Since-weaken}
use Rattle.secrets.specs.Secrets.{nonce_seed}
use Rattle.sign_keys.specs.Keys.{index_count, public_key}
use Rattle.signer.specs.Lives.{EndsLives, EndsNow, EndsWithin, IsLiving, Spent}
use Rattle.signer.specs.Signing.{SignerState}
use Rattle.signer.proofs.LivingLemmas.{kept_by_opening, nothing_spent}
use Rattle.signer.proofs.OnwardLemmas.{within-none}
use Rattle.detector.specs.Silence.{nonce}
use Rattle.node_rules.specs.Nodes.{Setting}
use Rattle.node_core.specs.Begins.{IsVouchable, Starts}
use Rattle.node_core.specs.declared.NodeFault.{NodeFault}
use Rattle.node_core.specs.declared.NodeFault.TheVariants as node
use Rattle.node_core.specs.Begins.{MayRefuse, is_store_fault}
use Rattle.node_core.specs.Playing.{Kept, setting_of}
use Rattle.node_core.specs.Rolls.{recs_of}
use Rattle.node_core.specs.Spending.{LivesOn, SpendsIn, SpendsUntold, spent_told}
use Rattle.node_command.specs.declared.halt.NodeHalt.TheVariants as halt
use Rattle.node_command.specs.declared.kit.Member.{Member}
use Rattle.node_command.specs.Halts.{IsOfOpening, IsOfStart, halt_by, halt_for}
use Rattle.node_command.specs.Members.{key_of, tag_of}
use Rattle.node_command.specs.Opening.{Begins, Ends, EndsFronts, Fresh, IsBroken, IsFound, OpensFile, Tells, setting_for, start_of}
use Rattle.ports.specs.Outside.{OfDisk}

-- ## The store

abbrev failed : StoreError → Result StoreState StoreError
failed e = Err e

-- it is no store of the member's key
broken-by : (m : Member) (tag : List ℕ) (old new : OfDisk) (e : StoreError) → tag ≡ tag_of m → new.faults ≡ old.faults → OpensAs tag old.moments (failed e) → SettlesAs same old.moments new.moments → Fails stays old.moments new.moments → IsBroken m (halt_for e) old new
broken-by m tag old new e tag_is faults reads settles moments =
    record { faults = faults; error = e; is = refl; reads = subst (λ t. OpensAs t old.moments (failed e)) tag_is reads; settles = settles; moments = moments }

pub not-opened : (m : Member) (tag : List ℕ) (old new : OfDisk) (told : List journal.Event) (e : StoreError) → tag ≡ tag_of m → new.faults ≡ counted (is_fault (failed e)) old.faults
    → OpensAs tag old.moments (failed e) → IsNotTaken (failed e) → OnRead (failed e) (SettlesAs same old.moments new.moments) → Fails stays old.moments new.moments → Begins m old new told (Err (halt_for e))
not-opened m tag old new told store.Fault tag_is faults reads taken settles moments = inl (record { faults = faults; moments = moments })
not-opened m tag old new told (store.Taken len) tag_is faults reads taken settles moments = absurd taken
not-opened m tag old new told (store.Broken place byte) tag_is faults reads taken settles moments = broken-by m tag old new (store.Broken place byte) tag_is faults reads settles moments
not-opened m tag old new told (store.OtherKey place byte) tag_is faults reads taken settles moments = broken-by m tag old new (store.OtherKey place byte) tag_is faults reads settles moments
not-opened m tag old new told store.OutOfMemory tag_is faults reads taken settles moments = inl (record { faults = faults; moments = moments })

pub of-opening : (T : Type 0) (e : StoreError) → IsNotTaken {T = T} (Err e) → IsOfOpening e
of-opening T store.Fault taken = tt
of-opening T (store.Taken len) taken = absurd taken
of-opening T (store.Broken place byte) taken = tt
of-opening T (store.OtherKey place byte) taken = tt
of-opening T store.OutOfMemory taken = tt

pub of-start : (s : SignerState) (fault : NodeFault) → MayRefuse s fault → IsOfStart fault
of-start s node.StoreFault cause = tt
of-start s node.OutOfMemory cause = tt
of-start s (node.Exhausted next) cause = tt
of-start s node.Ended cause = absurd cause

held : (tag : List ℕ) (st : Stored) (seat : Seat) (old new : List Moment) → SettlesAs same old new → IsSettled tag st seat new → HoldsStore tag st seat old
held tag st seat [] new settles is = tt
held tag st seat (was ∷ older) [] settles is = absurd settles
held tag st seat (was ∷ older) (now ∷ past) settles is = subst (λ (m : Moment). StoreAt tag m.image st seat) settles is.1

-- A store was opened.
pub record Opened (m : Member) (st : StoreState) (old mid : OfDisk) : Type 0 where
  pub faults : mid.faults ≡ old.faults
  pub settles : SettlesAs same old.moments mid.moments
  pub settled : IsSettled (tag_of m) st.state st.seat mid.moments
  pub moments : Fails stays old.moments mid.moments

pub opened : (m : Member) (tag : List ℕ) (st : StoreState) (old mid : OfDisk) → tag ≡ tag_of m → mid.faults ≡ old.faults → SettlesAs same old.moments mid.moments → IsSettled tag st.state st.seat mid.moments → Fails stays old.moments mid.moments → Opened m st old mid
opened m tag st old mid tag_is faults settles is moments =
    record { faults = faults; settles = settles; settled = subst (λ t. IsSettled t st.state st.seat mid.moments) tag_is is; moments = moments }

pub found : (m : Member) (st : StoreState) (old mid : OfDisk) → Opened m st old mid → IsFound m st.state old
found m st old mid h = (st.seat, held (tag_of m) st.state st.seat old.moments mid.moments h.settles h.settled)

-- nothing is spent as the store is opened
ends-opened : (m : Member) (st : StoreState) (old mid : OfDisk) → Opened m st old mid → Ends m [] old mid
ends-opened m st old mid h = λ before spent ends.
    subst (λ (xs : List Spent). EndsNow (tag_of m) before xs mid.moments) (sym (append-nil spent)) (kept_by_opening (tag_of m) before spent old.moments mid.moments ends h.moments).1

fronts-opened : (m : Member) (st : StoreState) (old mid : OfDisk) (more : List Spent) → Opened m st old mid → EndsFronts m more old mid
fronts-opened m st old mid more h = λ before spent ends.
    Since-weaken (EndsLives (tag_of m) before spent) (EndsWithin (tag_of m) before spent more) old.moments mid.moments (within-none (tag_of m) before spent more)
    (kept_by_opening (tag_of m) before spent old.moments mid.moments ends h.moments).0

pub used-up : (m : Member) (st : StoreState) (old mid : OfDisk) (told : List journal.Event) (next : ℕ) → Opened m st old mid → next ≡ st.state.next → index_count (key_of m) ≤ next → Begins m old mid told (Err (halt.Exhausted next))
used-up m st old mid told next h is gone = record { faults = h.faults; stored = st.state; found = found m st old mid h; next_is = is; gone = gone; ends = ends-opened m st old mid h; any_moment = fronts-opened m st old mid [] h }

-- ## The life

-- the signer over the store
abbrev pub signer_of : Member → StoreState → SignerState
signer_of m st = record { group = m.group; key = key_of m; leaf = st.state.next; state = st.state; seat = st.seat; closed = false }

-- where crashes end the lives so, the signer's life goes on from there
abbrev pub Begun : Member → StoreState → List Moment → Type 0
Begun m st mid = (tag before : List ℕ) (spent : List Spent) (moments : List Moment) → IsSettled tag st.state st.seat moments → EndsNow tag before spent moments → IsLiving tag before spent (signer_of m st) moments

living : (m : Member) (st : StoreState) (old mid : OfDisk) → Opened m st old mid → Begun m st mid.moments → (before : List ℕ) (spent : List Spent) → EndsNow (tag_of m) before spent old.moments → IsLiving (tag_of m) before spent (signer_of m st) mid.moments
living m st old mid h begun before spent ends = begun (tag_of m) before spent mid.moments h.settled (kept_by_opening (tag_of m) before spent old.moments mid.moments ends h.moments).1

fresh-at : (m : Member) (st : StoreState) (old mid : List Moment) → Tells old → SettlesAs same old mid → IsSettled (tag_of m) st.state st.seat mid → Begun m st mid → Fresh m st.state [] (signer_of m st) mid
fresh-at m st [] mid told settles is begun = absurd told
fresh-at m st (was ∷ older) [] told settles is begun = absurd settles
fresh-at m st (was ∷ older) (now ∷ past) told settles is begun =
    (now.image, (st.seat, is.1), begun (tag_of m) now.image [] (now ∷ past) is (nothing_spent (tag_of m) st.state now past is.0 (st.seat, is.1)))

-- what is spent behind the opening
fronts-so : (m : Member) (st : StoreState) (old mid new : OfDisk) (later : SignerState) (spent : List Spent) → Opened m st old mid → Begun m st mid.moments → LivesOn spent (signer_of m st) later mid.moments new.moments → EndsFronts m spent old new
fronts-so m st old mid new later spent h begun key = λ before spent_before ends.
    Since-trans (EndsWithin (tag_of m) before spent_before spent) old.moments mid.moments new.moments (fronts-opened m st old mid spent h before spent_before ends)
    (key.any_moment (tag_of m) before spent_before (living m st old mid h begun before spent_before ends))

pub started-so : (m : Member) (st : StoreState) (kept : Kept) (told : List journal.Event) (old mid new : OfDisk) → Opened m st old mid → Begun m st mid.moments → new.faults ≡ mid.faults
    → Starts (setting_for m) (nonce (nonce_seed m.own.secret st.state.next)) (recs_of m.certificates.items) st.state kept [] told
    → IsVouchable (setting_for m) (public_key (key_of m)) (recs_of m.certificates.items) st.state → kept.ended ≡ false → kept.signer.closed ≡ false
    → SpendsIn {T = Kept} (Ok kept) (signer_of m st) kept.signer mid.moments new.moments [] told → Begins m old new told (Ok kept)
started-so m st kept told old mid new h begun faults starts vouchable going unclosed spends =
    let told_is : told ≡ (start_of m st.state).told = starts.told in
    let spent_is : spent_told (start_of m st.state).told ≡ spends.spent = ap spent_told (sym told_is ∙ spends.after_is) ∙ spends.tells in (
      st.state,
      record {
        faults = faults ∙ h.faults;
        found = found m st old mid h;
        is = starts.is;
        told_is = told_is;
        vouchable = vouchable;
        going = going;
        unclosed = unclosed;
        any_moment = rw spent_is (fronts-so m st old mid new kept.signer spends.spent h begun spends.key);
        lives = λ before spent ends. rw spent_is (spends.key.lives (tag_of m) before spent (living m st old mid h begun before spent ends));
        fresh = λ tells. let f = fresh-at m st old.moments mid.moments tells h.settles h.settled begun in
            (f.0, f.1, rw spent_is (spends.key.lives (tag_of m) f.0 [] f.2));
      },
    )

ends-so : (m : Member) (st : StoreState) (old mid new : OfDisk) (later : SignerState) (spent : List Spent) → Opened m st old mid → Begun m st mid.moments → LivesOn spent (signer_of m st) later mid.moments new.moments → Ends m spent old new
ends-so m st old mid new later spent h begun key = λ before spent_before ends. (key.lives (tag_of m) before spent_before (living m st old mid h begun before spent_before ends)).ends

pub not-started : (m : Member) (st : StoreState) (told : List journal.Event) (old mid new : OfDisk) (fault : NodeFault) → Opened m st old mid → Begun m st mid.moments → new.faults ≡ counted (is_store_fault {T = Kept} (Err fault)) mid.faults
    → MayRefuse (signer_of m st) fault → SpendsUntold fault (signer_of m st) mid.moments new.moments → Begins m old new told (Err (halt_by fault))
not-started m st told old mid new node.StoreFault h begun faults cause spends = inr (record {
  faults = faults ∙ ap (counted true) h.faults;
  stored = st.state;
  found = found m st old mid h;
  left = cause;
  ends = ends-so m st old mid new spends.later [] h begun (subst (λ (xs : List Spent). LivesOn xs (signer_of m st) spends.later mid.moments new.moments) (sym spends.tells) spends.key);
  any_moment = fronts-so m st old mid new spends.later [] h begun (subst (λ (xs : List Spent). LivesOn xs (signer_of m st) spends.later mid.moments new.moments) (sym spends.tells) spends.key);
})
not-started m st told old mid new node.OutOfMemory h begun faults cause spends = inr (record {
  faults = faults ∙ h.faults;
  stored = st.state;
  found = found m st old mid h;
  spent = spends.spent;
  ends = ends-so m st old mid new spends.later spends.spent h begun spends.key;
  any_moment = fronts-so m st old mid new spends.later spends.spent h begun spends.key;
  signer = spends.later;
  fresh = λ tells. let f = fresh-at m st old.moments mid.moments tells h.settles h.settled begun in (f.0, f.1, spends.key.lives (tag_of m) f.0 [] f.2);
})
not-started m st told old mid new (node.Exhausted next) h begun faults cause spends =
    record {
      faults = faults ∙ h.faults;
      stored = st.state;
      found = found m st old mid h;
      next_is = cause.0;
      gone = omega (arith, cause.1);
      ends = ends-so m st old mid new spends.later [] h begun (subst (λ (xs : List Spent). LivesOn xs (signer_of m st) spends.later mid.moments new.moments) (sym spends.tells) spends.key);
      any_moment = fronts-so m st old mid new spends.later [] h begun (subst (λ (xs : List Spent). LivesOn xs (signer_of m st) spends.later mid.moments new.moments) (sym spends.tells) spends.key);
    }
not-started m st told old mid new node.Ended h begun faults cause spends = absurd cause

-- where crashes end the lives so, that signer's life goes on from there
abbrev pub BegunBy : SignerState → StoreState → Type 0
BegunBy signer st = (tag before : List ℕ) (spent : List Spent) (moments : List Moment) → IsSettled tag st.state st.seat moments → EndsNow tag before spent moments → IsLiving tag before spent signer moments

begun-as : (m : Member) (st : StoreState) (mid : List Moment) (signer : SignerState) → signer ≡ signer_of m st → BegunBy signer st → Begun m st mid
begun-as m st mid signer is begins = λ tag before spent moments settled ends. subst (λ x. IsLiving tag before spent x moments) is (begins tag before spent moments settled ends)

pub started-from : (m : Member) (st : StoreState) (kept : Kept) (told es : List journal.Event) (old mid new : OfDisk) (signer : SignerState) (nonces : ℕ → ℕ) → Opened m st old mid → signer ≡ signer_of m st → nonces ≡ nonce (nonce_seed m.own.secret st.state.next) → es ≡ []
    → BegunBy signer st → new.faults ≡ mid.faults
    → ((s : Setting) → s ≡ setting_of m.group m.heal m.own.member m.authority signer.key → Starts s nonces (recs_of m.certificates.items) signer.state kept es told)
    → ((s : Setting) → s ≡ setting_of m.group m.heal m.own.member m.authority signer.key → IsVouchable s (public_key signer.key) (recs_of m.certificates.items) signer.state)
    → kept.ended ≡ false → kept.signer.closed ≡ false → SpendsIn {T = Kept} (Ok kept) signer kept.signer mid.moments new.moments es told → Begins m old new told (Ok kept)
started-from m st kept told es old mid new signer nonces h is nonces_are none begins faults starts vouchable going unclosed spends =
    let same : setting_for m ≡ setting_of m.group m.heal m.own.member m.authority signer.key = ap (λ (x : SignerState). setting_of m.group m.heal m.own.member m.authority x.key) (sym is) in
    let recs = recs_of m.certificates.items in
    let s1 = subst (λ x. Starts (setting_for m) nonces recs x kept es told) (ap (λ (x : SignerState). x.state) is) (starts (setting_for m) same) in
    let s2 = subst (λ x. Starts (setting_for m) x recs st.state kept es told) nonces_are s1 in
    let s3 = subst (λ x. Starts (setting_for m) (nonce (nonce_seed m.own.secret st.state.next)) recs st.state kept x told) none s2 in
    let v = subst (λ (x : SignerState). IsVouchable (setting_for m) (public_key x.key) recs x.state) is (vouchable (setting_for m) same) in
    let p = subst (λ x. SpendsIn {T = Kept} (Ok kept) signer kept.signer mid.moments new.moments x told) none spends in
    let q = subst (λ x. SpendsIn {T = Kept} (Ok kept) x kept.signer mid.moments new.moments [] told) is p in
    started-so m st kept told old mid new h (begun-as m st mid.moments signer is begins) faults s3 v going unclosed q

pub not-started-from : (m : Member) (st : StoreState) (told : List journal.Event) (old mid new : OfDisk) (signer : SignerState) (fault : NodeFault) → Opened m st old mid → signer ≡ signer_of m st → BegunBy signer st
    → new.faults ≡ counted (is_store_fault {T = Kept} (Err fault)) mid.faults → MayRefuse signer fault → SpendsUntold fault signer mid.moments new.moments → Begins m old new told (Err (halt_by fault))
not-started-from m st told old mid new signer fault h is begins faults cause spends =
    not-started m st told old mid new fault h (begun-as m st mid.moments signer is begins) faults (subst (λ x. MayRefuse x fault) is cause) (subst (λ x. SpendsUntold fault x mid.moments new.moments) is spends)

-- ## The file

-- which was refused, or not opened
pub file-read : (T : Type 0) (m : Member) (name tag : List ℕ) (old new : OfDisk) (e : StoreError) → tag ≡ tag_of m → new.faults ≡ counted (is_fault (failed e)) old.faults
    → OpensAs tag old.moments (failed e) → OnRead (failed e) (SettlesAs same old.moments new.moments) → Fails stays old.moments new.moments → AsksToOpen name old.moments (failed e) old.calls new.calls → OpensFile {T = T} m name old new (Err (halt_for e))
unfolding broken-by
file-read T m name tag old new store.Fault tag_is faults reads settles moments calls = tt
file-read T m name tag old new (store.Taken len) tag_is faults reads settles moments calls = tt
file-read T m name tag old new (store.Broken place byte) tag_is faults reads settles moments calls = record { broken = broken-by m tag old new (store.Broken place byte) tag_is faults reads settles moments; calls = calls }
file-read T m name tag old new (store.OtherKey place byte) tag_is faults reads settles moments calls = record { broken = broken-by m tag old new (store.OtherKey place byte) tag_is faults reads settles moments; calls = calls }
file-read T m name tag old new store.OutOfMemory tag_is faults reads settles moments calls = tt

pub file-started : (T : Type 0) (m : Member) (name : List ℕ) (old new : OfDisk) (fault : NodeFault) → OpensFile {T = T} m name old new (Err (halt_by fault))
file-started T m name old new node.StoreFault = tt
file-started T m name old new node.OutOfMemory = tt
file-started T m name old new (node.Exhausted next) = tt
file-started T m name old new node.Ended = tt
