-- A node over a disk whose state is modelled: steps, and then calls.
use Rattle.std.proofs.Common.{◌≡◌, ℕ, ◌+◌, Bool, true, false, eqb, cond, not, Option, Some, None, List, [], ◌∷◌, refl, sym, ap, ◌∙◌, subst, arith, eq-eqb, inl, inr, Result, Ok, Err}
use Rattle.std.specs.Prelude.{fold, ◌++◌, OnOk, IfErr, is_err}
use Rattle.std.specs.Option.{option_map}
use Rattle.datagram.specs.declared.Datagram.TheVariants as kinds
use Rattle.std.proofs.lemmas.Bool.{cases_Bool, false≢true}
use Rattle.std.proofs.lemmas.Bool.Decides.{nat_tests}
use Rattle.ports.specs.DiskCalls.{DiskCall}
use Rattle.ports.specs.MemoryDisk.{DiskState}
use Rattle.ports.specs.DiskSteps.{Came, came_to, runs, runs_on}
use Rattle.ports.proofs.RunLemmas.{runs_none}
use Rattle.epoch_store.specs.declared.Stored.{Stored}
use Rattle.epoch_store.specs.declared.seat.Seat.{Seat}
use Rattle.epoch_store.specs.Seat.{next_seat}
use Rattle.epoch_store.specs.Asked.{put_calls}
use Rattle.epoch_store.specs.Placed.{PlacedStore, put_on, put_passes}
use Rattle.records.specs.declared.Body.{Body}
use Rattle.records.specs.declared.Record.{Record}
use Rattle.records.specs.Signing.{CheckedRecord}
use Rattle.signer.specs.declared.SignFault.TheVariants as refusals
use Rattle.signer.specs.Signing.{SignerState, after_signing, stored_after}
use Rattle.signer.proofs.StepLemmas.{next_index}
use Rattle.journal.specs.declared.event.Event as journal
use Rattle.datagram.specs.declared.Datagram.{Datagram}
use Rattle.node_rules.specs.Nodes.{Setting, Node, state_of}
use Rattle.node_rules.specs.Calls.{Call, begun, tells, own_record, signs, signs_and_sends, sends, sends_to_all, takes, lives, wants, is_used_up}
use Rattle.node_rules.specs.Deliveries.{handles}
use Rattle.node_rules.specs.Ticking.{accuses}
use Rattle.node_rules.specs.OnDisks.{OnDisk, takes_step, handles_on, accuses_on, hears_on, delivered_on}
use Rattle.node_core.specs.declared.NodeFault.{NodeFault}
use Rattle.node_core.specs.declared.NodeFault.TheVariants as faults
use Rattle.datagram.specs.Grammar.{GivesDatagram, read_of}
use Rattle.records.specs.declared.fault.FormFault.{FormFault}
use Rattle.records.specs.declared.fault.FormFault.TheVariants as forms
use Rattle.journal.specs.declared.event.What.TheVariants as told
use Rattle.node_core.specs.Told.{Tellings}
use Rattle.node_core.specs.Answers.{CallerBuffers}
use Rattle.node_core.specs.Neighbours.{addressees}
use Rattle.node_core.specs.Playing.{Kept, IsAt, Plays}
use Rattle.node_core.specs.Spending.{SignsNothing}
use Rattle.node_core.specs.OnDisks.{Stores, FailsToStore, FailsIn, ComesTo, GivesOn, FollowsDisk, storage, on_disk}
use Rattle.node_core.proofs.SigningLemmas.{wants-signed}
use Rattle.node_core.proofs.DeliverLemmas.{gives-from}

-- ---- a step that asks nothing of the disk

same-index : (n : ℕ) → eqb n n ≡ true
same-index n = eq-eqb n n refl

pub stores-none : (older newer : SignerState) (disk : Option DiskState) → newer ≡ older → Stores older newer disk disk
stores-none older newer disk same =
    let at : Stores older older disk disk = record {
      came = rw (same-index older.state.next) (runs_none disk);
      seat = rw (same-index older.state.next) refl;
    } in
    subst (λ (s : SignerState). Stores older s disk disk) (sym same) at

pub stores-idle : (older newer : SignerState) (x y : Option DiskState) → newer ≡ older → y ≡ x → Stores older newer x y
stores-idle older newer x y same none = subst (λ (z : Option DiskState). Stores older newer x z) (sym none) (stores-none older newer x same)

-- beside a step that signs nothing
pub stores-behind : (a b c : Kept) (x y : Option DiskState) → SignsNothing a b → Stores b.signer c.signer x y → Stores a.signer c.signer x y
stores-behind a b c x y none stores = subst (λ (s : SignerState). Stores s c.signer x y) none.signer stores

-- ---- a signature

next-apart : (n m : ℕ) → m ≡ n + 1 → eqb m n ≡ false
next-apart n m is = grind (arith, nat_tests, is)

pub stores-signed : (older newer later : SignerState) (body : Body) (rec : CheckedRecord) (x y : Option DiskState) → newer ≡ after_signing older body (Ok rec) → later ≡ newer
    → came_to y false ≡ runs_on (put_calls older.seat (stored_after older.state body)) x → Stores older later x y
stores-signed older newer later body rec x y after same came =
    let apart : eqb (stored_after older.state body).next older.state.next ≡ false = next-apart older.state.next (stored_after older.state body).next (next_index older.state body) in
    let at : Stores older (after_signing older body (Ok rec)) x y = record { came = rw apart came; seat = rw apart refl } in
    subst (λ (s : SignerState). Stores older s x y) (sym (same ∙ after)) at

pub fails-signed : (older newer later : SignerState) (body : Body) (kept : Stored) (x y : Option DiskState) → newer ≡ after_signing {T = CheckedRecord} older body (Err refusals.StoreFault) → later ≡ newer
    → came_to y true ≡ runs_on (put_calls older.seat (stored_after older.state body)) x → kept ≡ stored_after older.state body → FailsToStore kept older later x y
fails-signed older newer later body kept x y after same came is =
    record {
      rises = ap (λ (k : Stored). k.next) is ∙ next_index older.state body;
      came = came ∙ ap (λ (k : Stored). runs_on (put_calls older.seat k) x) (sym is);
      seat = ap (λ (s : SignerState). s.seat) (same ∙ after);
    }

sends-node : (s : Setting) (d : Datagram) (c : Call) (to : ℕ) → (sends s d c to).node ≡ c.node
unfolding sends
sends-node s d c to = refl

sends_to_all-node : (s : Setting) (to : List ℕ) (d : Datagram) (c : Call) → (sends_to_all s to d c).node ≡ c.node
sends_to_all-node s [] d c = refl
sends_to_all-node s (x ∷ to) d c = sends_to_all-node s to d (sends s d c x) ∙ sends-node s d c x

signs-stored : (s : Setting) (b : Body) (c : Call) → (signs s b c).node.stored ≡ stored_after c.node.stored b
unfolding signs takes lives
signs-stored s b c = refl

own-stored : (s : Setting) (b : Body) (also : Option ℕ) (c : Call) → (signs_and_sends s b (addressees s also) c).node.stored ≡ stored_after c.node.stored b
unfolding signs_and_sends
own-stored s b also c = ap (λ (n : Node). n.stored) (sends_to_all-node s (addressees s also (state_of s (signs s b c).node)) (kinds.Records s.me (own_record s c.node b ∷ [])) (signs s b c)) ∙ signs-stored s b c

-- what the store keeps behind a signature that is wanted
pub wants-stored : (s : Setting) (b : Body) (also : Option ℕ) (c : Call) → is_used_up s c.node ≡ false → (wants true s b (addressees s also) c).node.stored ≡ stored_after c.node.stored b
wants-stored s b also c free = ap (λ (d : Call). d.node.stored) (wants-signed s b also c free) ∙ own-stored s b also c

-- ---- steps of which one fails

pub fails-same : (whole other : Call) (v w : Kept) (x y : Option DiskState) (r : Result (Unit {0}) NodeFault) → (w.telling.failed ≡ false → whole ≡ other) → FailsIn whole v w x y r → FailsIn other v w x y r
fails-same whole other v w x y (Ok done) same fails = tt
fails-same whole other v w x y (Err fault) same fails = λ fine. subst (λ (c : Call). FailsToStore c.node.stored v.signer w.signer x y) (same fine) (fails fine)

pub fails-behind : (whole : Call) (a b c : Kept) (x y : Option DiskState) (r : Result (Unit {0}) NodeFault) → SignsNothing a b → FailsIn whole b c x y r → FailsIn whole a c x y r
fails-behind whole a b c x y (Ok done) none fails = tt
fails-behind whole a b c x y (Err fault) none fails = λ fine. subst (λ (s : SignerState). FailsToStore whole.node.stored s c.signer x y) none.signer (fails fine)

-- ---- a step over the disk

told-none : (x y : Option DiskState) (d : DiskState) → came_to y false ≡ runs_on [] x → x ≡ Some d → y ≡ Some d
told-none None y d came is = cc
told-none (Some e) None d came is = cc
told-none (Some e) (Some f) d came is = ap (λ (o : Option Came). option_map (λ (c : Came). c.disk) o) came ∙ is

-- What some calls of a modelled disk came to.
record RanTo (calls : List DiskCall) (d : DiskState) (y : Option DiskState) (failed : Bool) : Type 0 where
  answer : (runs calls d).failed ≡ failed
  behind : y ≡ Some (runs calls d).disk

came-told : (calls : List DiskCall) (x y : Option DiskState) (d : DiskState) (failed : Bool) → came_to y failed ≡ runs_on calls x → x ≡ Some d → RanTo calls d y failed
came-told calls None y d failed came is = cc
came-told calls (Some e) None d failed came is = cc
came-told calls (Some e) (Some f) d failed came is =
    let same : e ≡ d = cc in
    let ran : runs calls e ≡ record { disk = f; failed = failed } = cc in
    subst (λ (z : DiskState). RanTo calls z (Some f) failed) same (record { answer = ap (λ (c : Came). c.failed) ran; behind = ap (λ (c : Came). Some c.disk) (sym ran) })

put-is : (e : Stored) (d : DiskState) (seat : Seat) → put_on e (record { disk = d; seat = seat }) ≡ runs (put_calls seat e) d
unfolding put_on
put-is e d seat = refl

idle-step : (step : Bool → Call) (o : OnDisk PlacedStore) → eqb (step true).node.stored.next o.call.node.stored.next ≡ true → takes_step storage step o ≡ record { call = step true; disk = o.disk }
idle-step step o same = rw same refl

putting-step : (step : Bool → Call) (o : OnDisk PlacedStore) (passes : Bool) → eqb (step true).node.stored.next o.call.node.stored.next ≡ false → put_passes (step true).node.stored o.disk ≡ passes
    → takes_step storage step o ≡ record { call = step passes; disk = record { disk = (put_on (step true).node.stored o.disk).disk; seat = cond passes (next_seat o.disk.seat (step true).node.stored) o.disk.seat } }
putting-step step o passes apart is = rw (apart, is) refl

comes-idle : (s : Setting) (es : List journal.Event) (os : List (ℕ × List ℕ)) (v w : Kept) (x y : Option DiskState) (o : OnDisk PlacedStore) (step : Bool → Call)
    → ComesTo s es os v x false o → Stores v.signer w.signer x y → IsAt s es os w (step true) → (step true).ended ≡ o.call.ended → eqb w.signer.state.next v.signer.state.next ≡ true → ComesTo s es os w y false (takes_step storage step o)
comes-idle s es os v w x y o step h stores at on same =
    let test : eqb (step true).node.stored.next o.call.node.stored.next ≡ true =
    sym (ap (λ (a : Stored). eqb a.next v.signer.state.next) at.is.stored ∙ ap (λ (b : Stored). eqb (step true).node.stored.next b.next) h.at.is.stored) ∙ same in
    let came : came_to y false ≡ runs_on [] x = rw same at stores.came in
    let seat : w.signer.seat ≡ v.signer.seat = rw same at stores.seat in
    subst (ComesTo s es os w y false) (sym (idle-step step o test))
    (record { at = at; ended = on ∙ h.ended; disk = told-none x y o.disk.disk came h.disk; seat = seat ∙ h.seat })

comes-putting : (s : Setting) (es : List journal.Event) (os : List (ℕ × List ℕ)) (v w : Kept) (x y : Option DiskState) (o : OnDisk PlacedStore) (step : Bool → Call)
    → ComesTo s es os v x false o → Stores v.signer w.signer x y → IsAt s es os w (step true) → (step true).ended ≡ o.call.ended → eqb w.signer.state.next v.signer.state.next ≡ false → ComesTo s es os w y false (takes_step storage step o)
comes-putting s es os v w x y o step h stores at on apart =
    let kept : Stored = (step true).node.stored in
    let test : eqb kept.next o.call.node.stored.next ≡ false =
    sym (ap (λ (a : Stored). eqb a.next v.signer.state.next) at.is.stored ∙ ap (λ (b : Stored). eqb kept.next b.next) h.at.is.stored) ∙ apart in
    let came : came_to y false ≡ runs_on (put_calls v.signer.seat w.signer.state) x = rw apart at stores.came in
    let seat : w.signer.seat ≡ next_seat v.signer.seat w.signer.state = rw apart at stores.seat in
    let here : came_to y false ≡ runs_on (put_calls o.disk.seat kept) x =
    came ∙ ap (λ (k : Stored). runs_on (put_calls v.signer.seat k) x) at.is.stored ∙ ap (λ (g : Seat). runs_on (put_calls g kept) x) h.seat in
    let ran = came-told (put_calls o.disk.seat kept) x y o.disk.disk false here h.disk in
    let is = put-is kept o.disk.disk o.disk.seat in
    let passes : put_passes kept o.disk ≡ true = ap (λ (c : Came). not c.failed) is ∙ ap not ran.answer in
    subst (ComesTo s es os w y false) (sym (putting-step step o true test passes))
    (record {
      at = at;
      ended = on ∙ h.ended;
      disk = ran.behind ∙ ap (λ (c : Came). Some c.disk) (sym is);
      seat = seat ∙ ap (λ (k : Stored). next_seat v.signer.seat k) at.is.stored ∙ ap (λ (g : Seat). next_seat g kept) h.seat;
    })

-- a step in which the disk works
pub comes-further : (s : Setting) (es : List journal.Event) (os : List (ℕ × List ℕ)) (v w : Kept) (x y : Option DiskState) (o : OnDisk PlacedStore) (step : Bool → Call)
    → ComesTo s es os v x false o → Stores v.signer w.signer x y → IsAt s es os w (step true) → (step true).ended ≡ o.call.ended → ComesTo s es os w y false (takes_step storage step o)
comes-further s es os v w x y o step h stores at on =
    elim (cases_Bool (eqb w.signer.state.next v.signer.state.next)) [
      | inl same ↦ comes-idle s es os v w x y o step h stores at on same
      | inr apart ↦ comes-putting s es os v w x y o step h stores at on apart
    ]

-- a step in which it fails
pub comes-to_end : (s : Setting) (es : List journal.Event) (os : List (ℕ × List ℕ)) (v w : Kept) (x y : Option DiskState) (o : OnDisk PlacedStore) (step : Bool → Call)
    → ComesTo s es os v x false o → FailsToStore (step true).node.stored v.signer w.signer x y → IsAt s es os w (step false) → (step false).ended ≡ true → ComesTo s es os w y true (takes_step storage step o)
comes-to_end s es os v w x y o step h fails at over =
    let kept : Stored = (step true).node.stored in
    let test : eqb kept.next o.call.node.stored.next ≡ false = next-apart o.call.node.stored.next kept.next (fails.rises ∙ ap (λ (k : Stored). k.next + 1) h.at.is.stored) in
    let here : came_to y true ≡ runs_on (put_calls o.disk.seat kept) x = fails.came ∙ ap (λ (g : Seat). runs_on (put_calls g kept) x) h.seat in
    let ran = came-told (put_calls o.disk.seat kept) x y o.disk.disk true here h.disk in
    let is = put-is kept o.disk.disk o.disk.seat in
    let passes : put_passes kept o.disk ≡ false = ap (λ (c : Came). not c.failed) is ∙ ap not ran.answer in
    subst (ComesTo s es os w y true) (sym (putting-step step o false test passes))
    (record { at = at; ended = over; disk = ran.behind ∙ ap (λ (c : Came). Some c.disk) (sym is); seat = fails.seat ∙ h.seat })

-- ---- steps in turn

pub handles-going : (s : Setting) (o : OnDisk PlacedStore) (r : Record) → o.call.ended ≡ false → handles_on storage s o r ≡ takes_step storage (λ works. handles works s o.call r) o
unfolding handles_on
handles-going s o r on = rw on refl

handles-over : (s : Setting) (o : OnDisk PlacedStore) (r : Record) → o.call.ended ≡ true → handles_on storage s o r ≡ o
unfolding handles_on
handles-over s o r over = rw over refl

pub all-over : (s : Setting) (o : OnDisk PlacedStore) (records : List Record) → o.call.ended ≡ true → fold (handles_on storage s) o records ≡ o
all-over s o [] over = refl
all-over s o (r ∷ records) over = ap (λ (p : OnDisk PlacedStore). fold (handles_on storage s) p records) (handles-over s o r over) ∙ all-over s o records over

pub accuses-going : (s : Setting) (o : OnDisk PlacedStore) (m : ℕ) → o.call.ended ≡ false → accuses_on storage s o m ≡ takes_step storage (λ works. accuses works s o.call m) o
unfolding accuses_on
accuses-going s o m on = rw on refl

accuses-over : (s : Setting) (o : OnDisk PlacedStore) (m : ℕ) → o.call.ended ≡ true → accuses_on storage s o m ≡ o
unfolding accuses_on
accuses-over s o m over = rw over refl

pub all-accused-over : (s : Setting) (o : OnDisk PlacedStore) (silent : List ℕ) → o.call.ended ≡ true → fold (accuses_on storage s) o silent ≡ o
all-accused-over s o [] over = refl
all-accused-over s o (m ∷ silent) over = ap (λ (p : OnDisk PlacedStore). fold (accuses_on storage s) p silent) (accuses-over s o m over) ∙ all-accused-over s o silent over

pub starts-there : (s : Setting) (es : List journal.Event) (os : List (ℕ × List ℕ)) (v : Kept) (x : Option DiskState) (c : Call) (d : DiskState) → IsAt s es os v c → c.ended ≡ false → x ≡ Some d → ComesTo s es os v x false (on_disk c d v.signer.seat)
starts-there s es os v x c d at on is = record { at = at; ended = on; disk = is; seat = refl }

-- ---- answers of steps

pub stored-behind : (a b c : Kept) (x y : Option DiskState) (r : Result (Unit {0}) NodeFault) → SignsNothing a b → OnOk r (Stores b.signer c.signer x y) → OnOk r (Stores a.signer c.signer x y)
stored-behind a b c x y (Ok done) none stores = stores-behind a b c x y none stores
stored-behind a b c x y (Err fault) none stores = tt

-- where memory was refused nothing is said
pub fails-given : (whole : Call) (v w : Kept) (x y : Option DiskState) (r : Result (Unit {0}) NodeFault) → (w.telling.failed ≡ false → FailsIn whole v w x y r) → FailsIn whole v w x y r
fails-given whole v w x y (Ok done) given = tt
fails-given whole v w x y (Err fault) given = λ fine. given fine fine

pub fold-split : {A B : Type 0} (f : B → A → B) (b : B) (xs : List A) (x : A) (ys : List A) → fold f b (xs ++ x ∷ ys) ≡ fold f (f (fold f b xs) x) ys
fold-split f b [] x ys = refl
fold-split f b (z ∷ xs) x ys = fold-split f (f b z) xs x ys

-- ---- a datagram that brings no record

pub comes-heard : (s : Setting) (es : List journal.Event) (os : List (ℕ × List ℕ)) (v w : Kept) (x : Option DiskState) (c next : Call) (d : DiskState) → SignsNothing v w → IsAt s es os w next → next.ended ≡ c.ended → c.ended ≡ false → x ≡ Some d
    → ComesTo s es os w x false (on_disk next d v.signer.seat)
comes-heard s es os v w x c next d none at goes on is = record { at = at; ended = goes ∙ on; disk = is; seat = ap (λ (k : SignerState). k.seat) none.signer }

pub fault-comes : (s : Setting) (es : List journal.Event) (os : List (ℕ × List ℕ)) (v w : Kept) (x : Option DiskState) (read : Result Datagram ℕ) (fault : FormFault) (c : Call) (d : DiskState) → GivesDatagram read (Err fault) → SignsNothing v w
    → (fault ≡ forms.OutOfMemory → w.telling ≡ record v.telling { failed = true }) → ((place : ℕ) → fault ≡ forms.BadForm place → Plays s es os w (tells s (told.BadForm place) c)) → c.ended ≡ false → x ≡ Some d → w.telling.failed ≡ false
    → ComesTo s es os w x false (hears_on storage s read (on_disk c d v.signer.seat))
fault-comes s es os v w x (Ok e) fault c d gives none memory bad on is fine = absurd (false≢true (sym fine ∙ ap (λ (t : Tellings). t.failed) (memory gives.0)))
fault-comes s es os v w x (Err place) fault c d gives none memory bad on is fine =
    let same : fault ≡ forms.BadForm place = cc in
    comes-heard s es os v w x c (tells s (told.BadForm place) c) d none ((bad place same).at fine) refl on is

pub read-comes : (s : Setting) (es : List journal.Event) (os : List (ℕ × List ℕ)) (w : Kept) (y : Option DiskState) (failed : Bool) (read : Result Datagram ℕ) (e : Datagram) (o : OnDisk PlacedStore) → GivesDatagram read (Ok e) → ComesTo s es os w y failed (hears_on storage s (Ok e) o) → ComesTo s es os w y failed (hears_on storage s read o)
read-comes s es os w y failed (Ok z) e o gives h = subst (λ (k : Datagram). ComesTo s es os w y failed (hears_on storage s (Ok k) o)) gives h
read-comes s es os w y failed (Err place) e o gives h = cc

-- ---- what is given

gives-on : (s : Setting) (v1 v2 : Kept) (old new : CallerBuffers) (y : Option DiskState) (failed : Bool) (o : OnDisk PlacedStore) → ComesTo s old.events old.sent v1 y failed o → v2 ≡ record v1 { telling = v2.telling; ended = v2.ended }
    → new.events ≡ v1.telling.events → new.sent ≡ v1.telling.sent → GivesOn s v2 old new y failed o
gives-on s v1 v2 old new y failed o h same events sent =
    record { gives = gives-from s v1 v2 old new o.call h.at same events sent; ended = h.ended; disk = h.disk; seat = ap (λ (v : Kept). v.signer.seat) same ∙ h.seat }

follows-fine : (s : Setting) (v1 v2 : Kept) (old new : CallerBuffers) (y : Option DiskState) (o : OnDisk PlacedStore) (done : Result (Unit {0}) NodeFault) → ComesTo s old.events old.sent v1 y (is_err done) o → IfErr done (λ e. e ≡ faults.StoreFault)
    → v2 ≡ record v1 { telling = v2.telling; ended = v2.ended } → new.events ≡ v1.telling.events → new.sent ≡ v1.telling.sent → FollowsDisk s v2 old new y o done
follows-fine s v1 v2 old new y o (Ok x) h cause same events sent = gives-on s v1 v2 old new y false o h same events sent
follows-fine s v1 v2 old new y o (Err e) h cause same events sent =
    subst (λ f. FollowsDisk s v2 old new y o (Err f)) (sym cause) (gives-on s v1 v2 old new y true o h same events sent)

pub follows-by : (s : Setting) (v1 v2 : Kept) (old new : CallerBuffers) (y : Option DiskState) (o : OnDisk PlacedStore) (done answer : Result (Unit {0}) NodeFault) → (v1.telling.failed ≡ false → ComesTo s old.events old.sent v1 y (is_err done) o)
    → IfErr done (λ e. e ≡ faults.StoreFault) → (v1.telling.failed ≡ true → answer ≡ Err faults.OutOfMemory) → (v1.telling.failed ≡ false → answer ≡ done)
    → v2 ≡ record v1 { telling = v2.telling; ended = v2.ended } → new.events ≡ v1.telling.events → new.sent ≡ v1.telling.sent → FollowsDisk s v2 old new y o answer
follows-by s v1 v2 old new y o done answer h cause memory going same events sent =
    elim (cases_Bool v1.telling.failed) [
      | inl failed ↦ subst (λ r. FollowsDisk s v2 old new y o r) (sym (memory failed)) tt
      | inr fine ↦ subst (λ r. FollowsDisk s v2 old new y o r) (sym (going fine)) (follows-fine s v1 v2 old new y o done (h fine) cause same events sent)
    ]

pub delivered-on-is : (s : Setting) (n : Node) (bytes : List ℕ) (d : DiskState) (seat : Seat) → delivered_on storage s n bytes (record { disk = d; seat = seat }) ≡ hears_on storage s (read_of bytes) (on_disk (begun n) d seat)
unfolding delivered_on
delivered-on-is s n bytes d seat = refl
