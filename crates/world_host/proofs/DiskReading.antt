-- A store that is opened on a disk in memory, and its file read.
use Rattle.std.proofs.Common.{◌≡◌, ℕ, ◌+◌, inl, inr, Bool, true, false, Option, None, is_some, drop, List, [], ◌∷◌, ◌++◌, length, Some, Result, Ok, Err, refl, sym, ap, ◌∙◌, subst, append_assoc}
use Rattle.ports.specs.Disk.{Moment}
use Rattle.ports.specs.DiskCalls.{DiskCall, ToRead}
use Rattle.ports.specs.DiskSteps.{Came, runs}
use Rattle.ports.specs.MemoryDisk.{DiskState, moment_of, past_of}
use Rattle.ports.proofs.RunLemmas.{runs_no_further}
use Rattle.epoch_store.specs.declared.Stored.{Stored}
use Rattle.epoch_store.specs.declared.seat.Seat.{Seat}
use Rattle.epoch_store.specs.Seat.{behind, moved_length, width}
use Rattle.epoch_store.specs.declared.StoreError.{StoreError}
use Rattle.epoch_store.specs.declared.StoreError.TheVariants.{Fault, Taken, Broken, OtherKey, OutOfMemory}
use Rattle.epoch_store.specs.Asked.{Passed, ReadsMark, entry_reads, gate_reads, open_calls}
use Rattle.epoch_store.specs.Calls.{AnswersAs, StoreState, answer_of}
use Rattle.epoch_store.specs.Followed.{FailsReading, ReadsOnUpTo}
use Rattle.epoch_store.specs.Reading.{Finds, IsMarked, last_kept}
use Rattle.epoch_store.specs.Store.{StoreAt, front, made_wide, put_entries}
use Rattle.epoch_store.proofs.FoundLemmas.{head_found, store_found}
use Rattle.epoch_store.proofs.ReachLemmas.{GoesOn, at_closed, at_mark, front_of_all, goes_from, goes_whole}
use Rattle.world_rules.specs.Disks.{Disk, after_calls, lets_pass, opening_calls, seat_of, stopped}
use Rattle.world_host.specs.Held.{ComesAs, HoldsDisk, crashed}
use Rattle.world_host.specs.DiskLaws.{ReadsAsTold, all_reads}
use Rattle.world_host.proofs.BehindLemmas.{first_of, seats_are, store_of}
use Rattle.world_host.proofs.DiskOpening.{open_as_told}

-- ---- how some calls came

pub comes_passed : (tag : List ℕ) (n : ℕ) (came : Came) (r : DiskState) (test : Bool) (behind stop : Disk) → came ≡ record { disk = r; failed = false } → ComesAs tag n came test behind stop → (test ≡ true) × HoldsDisk tag n r behind
comes_passed tag n came r true behind stop so c = (refl, subst (λ (x : Came). HoldsDisk tag n x.disk behind) so c.1)
comes_passed tag n came r false behind stop so c = let failed : false ≡ true = sym (ap (λ (x : Came). x.failed) so) ∙ c.0 in cc

pub comes_failed : (tag : List ℕ) (n : ℕ) (came : Came) (r : DiskState) (test : Bool) (behind stop : Disk) → came ≡ record { disk = r; failed = true } → ComesAs tag n came test behind stop → (test ≡ false) × HoldsDisk tag n (crashed 0 r) stop
comes_failed tag n came r true behind stop so c = let passed : true ≡ false = sym (ap (λ (x : Came). x.failed) so) ∙ c.0 in cc
comes_failed tag n came r false behind stop so c = (refl, subst (λ (x : Came). HoldsDisk tag n (crashed 0 x.disk) stop) so c.1)

-- ---- the file

pub held_store : (tag : List ℕ) (n : ℕ) (d : DiskState) (e : Disk) → HoldsDisk tag n d e → StoreAt tag (moment_of d).image e.state (seat_of tag e)
held_store tag n d e h = store_of tag (moment_of d).image e.state e.older h.shut h.rest h.long h.chain h.closed (ap (λ (m : Moment). m.image) h.file)

-- the calls that read the gates in front of the entries, and all gates
abbrev gates_of : List ℕ → Disk → List DiskCall
gates_of tag e = entry_reads (first_of tag e.state e.older) (put_entries tag e.state e.older)

abbrev whole_reads : List ℕ → Disk → List DiskCall
whole_reads tag e = gate_reads (seat_of tag e) false ++ gates_of tag e

-- reading goes on to the closed gate behind the gates that it passes
held_goes : (tag : List ℕ) (n : ℕ) (d : DiskState) (e : Disk) (seat : Seat) (reads : List DiskCall) → HoldsDisk tag n d e → (p : Passed (moment_of d ∷ past_of d.start d.log) seat reads) → GoesOn (moment_of d).image (last_kept p.entries) seat reads (seat_of tag e) (gates_of tag e)
held_goes tag n d e seat reads h p =
    let image : List ℕ = (moment_of d).image in
    let wide : Bool = made_wide e.state e.older in
    let entries = put_entries tag e.state e.older in
    let bytes : image ≡ front wide tag entries ++ h.shut ∷ h.rest = ap (λ (m : Moment). m.image) h.file in
    let whole = subst (λ (s : Seat). GoesOn image None (first_of tag e.state e.older) [] s (gates_of tag e)) (sym (seats_are tag e.state e.older)) (goes_whole image wide tag entries h.shut h.rest h.long h.chain h.closed bytes) in
    let course = goes_from image (first_of tag e.state e.older) (seat_of tag e) (gates_of tag e) (head_found wide tag entries (h.shut ∷ h.rest) image h.long bytes) whole p.first p.entries p.passes in
    let there = subst (λ (s : Seat). GoesOn image (last_kept p.entries) s (entry_reads p.first p.entries) (seat_of tag e) (gates_of tag e)) (sym p.ends) course in
    subst (λ (calls : List DiskCall). GoesOn image (last_kept p.entries) seat calls (seat_of tag e) (gates_of tag e)) (sym p.are) there

answer_is : (tag image : List ℕ) (state : Stored) (seat : Seat) (result : Result StoreState StoreError) → length tag ≡ 32 → StoreAt tag image state seat → AnswersAs tag image result → result ≡ Ok (record { state = state; seat = seat; failed = false })
answer_is tag image state seat result long store a = a.answer ∙ ap (answer_of image) (sym (a.only (Finds state seat) (store_found tag image state seat long store)))

-- ---- the reads of gates

came_same : (x y : Came) → Some x ≡ Some y → x ≡ y
came_same x y same = cc

read_whole : (tag name : List ℕ) (n : ℕ) (seat : Seat) (d r : DiskState) (e : Disk) → HoldsDisk tag n d e → ReadsOnUpTo (open_calls name) (moment_of d ∷ past_of d.start d.log) seat (Some d) (Some r)
    → (lets_pass e.armed (opening_calls e) ≡ true) × HoldsDisk tag n r (after_calls (opening_calls e) e)
read_whole tag name n seat d r e h up =
    let last = at_closed (moment_of d).image (last_kept up.passed.entries) seat up.reads (seat_of tag e) (gates_of tag e) (held_goes tag n d e seat up.reads h up.passed) up.closed in
    let same : gate_reads seat false ++ (up.reads ++ open_calls name) ≡ all_reads tag name e =
    ap (λ (s : Seat). gate_reads s false ++ (up.reads ++ open_calls name)) last.0 ∙ ap (λ (calls : List DiskCall). gate_reads (seat_of tag e) false ++ (calls ++ open_calls name)) last.1 in
    let so : runs (all_reads tag name e) d ≡ record { disk = r; failed = false } = ap (λ (calls : List DiskCall). runs calls d) (sym same) ∙ sym (came_same _ _ up.came) in
    comes_passed tag n _ r (lets_pass e.armed (opening_calls e)) (after_calls (opening_calls e) e) (stopped e) so (open_as_told tag name n d e h)

-- the first read of a gate
first_read : (seat : Seat) (moved : Bool) → (later : List DiskCall) × (gate_reads seat moved ≡ later ++ gate_reads seat false)
first_read seat false = ([], refl)
first_read seat true = (ToRead (seat.gate + width seat) moved_length ∷ [], refl)

-- the calls up to a gate, and those that read it, are the first ones of all
some_first : (image : List ℕ) (before : Option Stored) (seat : Seat) (reads : List DiskCall) (shut : Seat) (all : List DiskCall) (now : Moment) (past : List Moment) (moved : Bool) → now.image ≡ image → GoesOn image before seat reads shut all → ReadsMark (now ∷ past) seat moved
    → (later : List DiskCall) × (gate_reads shut false ++ all ≡ later ++ (gate_reads seat moved ++ reads))
some_first image before seat reads shut all now past true is course marked =
    let more = at_mark image before seat reads shut all course (subst (λ (b : List ℕ). IsMarked seat.wide (drop seat.gate b)) is marked) in
    (gate_reads shut false ++ more.0, ap (λ (calls : List DiskCall). gate_reads shut false ++ calls) more.1 ∙ sym (append_assoc (gate_reads shut false) more.0 (gate_reads seat true ++ reads)))
some_first image before seat reads shut all now past false is (GoesOn.stops _ _ _ closed) marked = ([], refl)
some_first image before seat reads shut all now past false is (GoesOn.goes _ _ f _ _ _ stands rest) marked =
    let own : List DiskCall = gate_reads seat (is_some f.moved) in
    let more = front_of_all image (Some f.kept) (behind seat f) (own ++ reads) shut all rest in
    let one = first_read seat (is_some f.moved) in
    let before_it : List DiskCall = gate_reads shut false ++ more.0 in (
      before_it ++ one.0,
      ap (λ (calls : List DiskCall). gate_reads shut false ++ calls) more.1
          ∙ sym (append_assoc (gate_reads shut false) more.0 (own ++ reads))
          ∙ ap (λ (calls : List DiskCall). before_it ++ calls) (ap (λ (calls : List DiskCall). calls ++ reads) one.1 ∙ append_assoc one.0 (gate_reads seat false) reads)
          ∙ sym (append_assoc before_it one.0 (gate_reads seat false ++ reads)),
    )

-- where some of the first calls failed, so do all
all_fail : (tag name : List ℕ) (n : ℕ) (d r : DiskState) (e : Disk) (later earlier : List DiskCall) → HoldsDisk tag n d e → all_reads tag name e ≡ later ++ earlier → record { disk = r; failed = true } ≡ runs earlier d
    → (lets_pass e.armed (opening_calls e) ≡ false) × HoldsDisk tag n (crashed 0 r) (stopped e)
all_fail tag name n d r e later earlier h parts came =
    let so : runs (all_reads tag name e) d ≡ record { disk = r; failed = true } = ap (λ (calls : List DiskCall). runs calls d) parts ∙ runs_no_further later earlier d r (sym came) in
    comes_failed tag n _ r (lets_pass e.armed (opening_calls e)) (after_calls (opening_calls e) e) (stopped e) so (open_as_told tag name n d e h)

read_failed : (tag name : List ℕ) (n : ℕ) (d r : DiskState) (e : Disk) → HoldsDisk tag n d e → FailsReading (open_calls name) (moment_of d ∷ past_of d.start d.log) (Some d) (Some r)
    → (lets_pass e.armed (opening_calls e) ≡ false) × HoldsDisk tag n (crashed 0 r) (stopped e)
read_failed tag name n d r e h (inl opening) =
    all_fail tag name n d r e (whole_reads tag e) (open_calls name) h (sym (append_assoc (gate_reads (seat_of tag e) false) (gates_of tag e) (open_calls name))) (came_same _ _ opening)
read_failed tag name n d r e h (inr gate) =
    let own : List DiskCall = gate_reads gate.seat gate.moved in
    let course = held_goes tag n d e gate.seat gate.reads h gate.passed in
    let parts = some_first (moment_of d).image (last_kept gate.passed.entries) gate.seat gate.reads (seat_of tag e) (gates_of tag e) (moment_of d) (past_of d.start d.log) gate.moved refl course gate.marked in
    let same : all_reads tag name e ≡ parts.0 ++ (own ++ (gate.reads ++ open_calls name)) =
    sym (append_assoc (gate_reads (seat_of tag e) false) (gates_of tag e) (open_calls name))
    ∙ ap (λ (calls : List DiskCall). calls ++ open_calls name) parts.1
    ∙ append_assoc parts.0 (own ++ gate.reads) (open_calls name)
    ∙ ap (λ (calls : List DiskCall). parts.0 ++ calls) (append_assoc own gate.reads (open_calls name)) in
    all_fail tag name n d r e parts.0 (own ++ (gate.reads ++ open_calls name)) h same (came_same _ _ gate.came)

-- ---- the answer

abbrev IsAnswer : Result StoreState StoreError → Result StoreState StoreError → Type 0
IsAnswer answer other = answer ≡ other

ok_same : (x y : StoreState) → IsAnswer (Ok x) (Ok y) → x ≡ y
ok_same x y same = cc

never_refused : (tag : List ℕ) (n : ℕ) (d : DiskState) (e : Disk) (error : StoreError) → HoldsDisk tag n d e → AnswersAs tag (moment_of d).image (Err error) → ⊥
never_refused tag n d e error h a = let is = answer_is tag (moment_of d).image e.state (seat_of tag e) (Err error) h.long (held_store tag n d e h) a in cc

pub read_as_told : ReadsAsTold
read_as_told tag name n d r e (Ok store) h not_taken opens reads =
    let is : store ≡ record { state = e.state; seat = seat_of tag e; failed = false } = ok_same _ _ (answer_is tag (moment_of d).image e.state (seat_of tag e) (Ok store) h.long (held_store tag n d e h) opens) in
    let came = read_whole tag name n store.seat d r e h reads in
    (came.0, is, came.1)
read_as_told tag name n d r e (Err Fault) h not_taken opens reads = read_failed tag name n d r e h reads
read_as_told tag name n d r e (Err (Taken len)) h not_taken opens reads = not_taken
read_as_told tag name n d r e (Err (Broken place byte)) h not_taken opens reads = never_refused tag n d e (Broken place byte) h opens
read_as_told tag name n d r e (Err (OtherKey place byte)) h not_taken opens reads = never_refused tag n d e (OtherKey place byte) h opens
read_as_told tag name n d r e (Err OutOfMemory) h not_taken opens reads = cc
